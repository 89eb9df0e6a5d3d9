use Rattle.std.proofs.Common.{rules, ap, ◌∙◌, refl, List, length}
use Rattle.std.proofs.lemmas.Option.{slice_get_read}
use Rattle.fl_graph.specs.declared.pieces.Piece.{Piece}
use Rattle.fl_net.proofs.BroughtLemmas.{slice_brings, slice_refused_brings}
use Rattle.fl_net.proofs.NetLemmas.{leads_of, slice_broken, slice_gave, slice_same, slice_starves, slice_step_fails, slice_step_leads, slice_took, written_back}
use Rattle.fl_net.proofs.OuterLemmas.{steps_fail, steps_over}
use Rattle.fl_net.proofs.nets.Net.step.Goals as goal

pub returns-clause-leads : goal.returns-clause-leads
returns-clause-leads g c =
    leads_of _ c.args.self.now.ports.items c.args.self.now.machines.items _ c.args.self.now.wires.items _ c.step.result
    (slice_step_leads _ c.args.self.now.ports.items c.args.self.now.machines.items _ c.args.self.now.wires.items _ c.as_mut_slice.result.now c.step.new.wires c.args.node
    c.index_mut.result.now c.step.new.machine c.index-ports.result.now c.step.result
    (slice_get_read c.args.self.now.machines.items (length c.args.self.now.machines.items) c.args.node c.index_mut.result.now refl c.requires.node.0 (search rules))
    (slice_get_read c.args.self.now.ports.items (length c.args.self.now.ports.items) c.args.node c.index-ports.result.now refl c.requires.node.1 (search rules))
    refl c.as_mut_slice.ensures.value
    (written_back c.args.self.now.wires.items c.step.new.wires c.args.self.now.wires.len (search rules) (search rules))
    (search rules) (search rules) (search rules))

pub returns-clause-starves : goal.returns-clause-starves
returns-clause-starves g c =
    slice_starves _ c.args.self.now.ports.items c.args.self.now.machines.items _ c.step.new.wires c.args.node c.step.new.machine c.index-ports.result.now c.step.result
    (slice_get_read c.args.self.now.ports.items (length c.args.self.now.ports.items) c.args.node c.index-ports.result.now refl c.requires.node.1 (search rules))
    (written_back c.args.self.now.wires.items c.step.new.wires c.args.self.now.wires.len (search rules) (search rules))
    (search rules)

pub returns-clause-same : goal.returns-clause-same
returns-clause-same g c =
    slice_same c.args.self.now.machines.items c.args.self.now.wires.items _ c.as_mut_slice.result.now c.step.new.wires c.args.node c.index_mut.result.now c.step.new.machine c.step.result
    (slice_get_read c.args.self.now.machines.items (length c.args.self.now.machines.items) c.args.node c.index_mut.result.now refl c.requires.node.0 (search rules))
    c.as_mut_slice.ensures.value
    (written_back c.args.self.now.wires.items c.step.new.wires c.args.self.now.wires.len (search rules) (search rules))
    (search rules)

pub returns-clause-over : goal.returns-clause-over
returns-clause-over g c =
    steps_over _ c.args.self.now.ports.items c.args.self.now.machines.items _ c.args.self.now.wires.items _ c.step.result
    (slice_step_leads _ c.args.self.now.ports.items c.args.self.now.machines.items _ c.args.self.now.wires.items _ c.as_mut_slice.result.now c.step.new.wires c.args.node
    c.index_mut.result.now c.step.new.machine c.index-ports.result.now c.step.result
    (slice_get_read c.args.self.now.machines.items (length c.args.self.now.machines.items) c.args.node c.index_mut.result.now refl c.requires.node.0 (search rules))
    (slice_get_read c.args.self.now.ports.items (length c.args.self.now.ports.items) c.args.node c.index-ports.result.now refl c.requires.node.1 (search rules))
    refl c.as_mut_slice.ensures.value
    (written_back c.args.self.now.wires.items c.step.new.wires c.args.self.now.wires.len (search rules) (search rules))
    (search rules) (search rules) (search rules))
    (search rules)
    (ap (λ (wires : List (List Piece)). length wires) (written_back c.args.self.now.wires.items c.step.new.wires c.args.self.now.wires.len (search rules) (search rules)) ∙ (search rules))
    (slice_brings _ c.args.self.now.ports.items c.args.self.now.machines.items _ c.as_mut_slice.result.now c.step.new.wires c.args.node c.index_mut.result.now c.step.new.machine c.index-ports.result.now
    (slice_get_read c.args.self.now.machines.items (length c.args.self.now.machines.items) c.args.node c.index_mut.result.now refl c.requires.node.0 (search rules))
    (slice_get_read c.args.self.now.ports.items (length c.args.self.now.ports.items) c.args.node c.index-ports.result.now refl c.requires.node.1 (search rules))
    refl _ _ c.as_slice.ensures.value c.as_slice-2.ensures.value c.args.self.now.wires.items _ c.as_mut_slice.ensures.value
    (written_back c.args.self.now.wires.items c.step.new.wires c.args.self.now.wires.len (search rules) (search rules))
    c.step.result c.step.ensures.took c.step.ensures.gave c.step.ensures.same)

pub returns-clause-took : goal.returns-clause-took
returns-clause-took g c =
    slice_took _ _ c.args.self.now.ports.items c.args.self.now.wires.items _ c.as_mut_slice.result.now c.step.new.wires c.args.node c.index-ports.result.now c.step.result
    (slice_get_read c.args.self.now.ports.items (length c.args.self.now.ports.items) c.args.node c.index-ports.result.now refl c.requires.node.1 (search rules))
    c.as_mut_slice.ensures.value
    (written_back c.args.self.now.wires.items c.step.new.wires c.args.self.now.wires.len (search rules) (search rules))
    _ c.as_slice.ensures.value c.step.ensures.took

pub returns-clause-gave : goal.returns-clause-gave
returns-clause-gave g c =
    slice_gave _ _ c.args.self.now.ports.items c.args.self.now.wires.items _ c.as_mut_slice.result.now c.step.new.wires c.args.node c.index-ports.result.now c.step.result
    (slice_get_read c.args.self.now.ports.items (length c.args.self.now.ports.items) c.args.node c.index-ports.result.now refl c.requires.node.1 (search rules))
    c.as_mut_slice.ensures.value
    (written_back c.args.self.now.wires.items c.step.new.wires c.args.self.now.wires.len (search rules) (search rules))
    _ c.as_slice-2.ensures.value c.step.ensures.gave

pub returns-clause-over_refused : goal.returns-clause-over_refused
returns-clause-over_refused g c =
    steps_fail _ c.args.self.now.ports.items c.args.self.now.machines.items _ c.args.self.now.wires.items _ c.args.node c.index_mut.result.now c.step.result
    (slice_get_read c.args.self.now.machines.items (length c.args.self.now.machines.items) c.args.node c.index_mut.result.now refl c.requires.node.0 (search rules))
    (slice_step_fails _ c.args.self.now.ports.items c.args.self.now.machines.items _ c.args.self.now.wires.items _ c.as_mut_slice.result.now c.step.new.wires c.args.node
    c.index_mut.result.now c.step.new.machine c.index-ports.result.now c.step.result
    (slice_get_read c.args.self.now.machines.items (length c.args.self.now.machines.items) c.args.node c.index_mut.result.now refl c.requires.node.0 (search rules))
    (slice_get_read c.args.self.now.ports.items (length c.args.self.now.ports.items) c.args.node c.index-ports.result.now refl c.requires.node.1 (search rules))
    refl c.as_mut_slice.ensures.value
    (written_back c.args.self.now.wires.items c.step.new.wires c.args.self.now.wires.len (search rules) (search rules))
    (search rules) (search rules))
    (search rules)
    (ap (λ (wires : List (List Piece)). length wires) (written_back c.args.self.now.wires.items c.step.new.wires c.args.self.now.wires.len (search rules) (search rules)) ∙ (search rules))
    (slice_refused_brings _ c.args.self.now.ports.items c.args.self.now.machines.items _ c.as_mut_slice.result.now c.step.new.wires c.args.node c.index_mut.result.now c.step.new.machine c.index-ports.result.now
    (slice_get_read c.args.self.now.machines.items (length c.args.self.now.machines.items) c.args.node c.index_mut.result.now refl c.requires.node.0 (search rules))
    (slice_get_read c.args.self.now.ports.items (length c.args.self.now.ports.items) c.args.node c.index-ports.result.now refl c.requires.node.1 (search rules))
    refl _ _ c.as_slice.ensures.value c.as_slice-2.ensures.value c.args.self.now.wires.items _ c.as_mut_slice.ensures.value
    (written_back c.args.self.now.wires.items c.step.new.wires c.args.self.now.wires.len (search rules) (search rules))
    c.step.result c.step.ensures.refused_take c.step.ensures.refused_put)

pub returns-clause-broken : goal.returns-clause-broken
returns-clause-broken g c = slice_broken g.M.Machine.state c.args.self.now.ports.items c.args.self.now.machines.items c.args.node c.step.new.machine c.step.result c.step.ensures.broken
