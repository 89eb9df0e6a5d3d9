use Rattle.std.proofs.Common.{◌∙◌}
use Rattle.fl_segments.proofs.AddLemmas.{left-parts}
use Rattle.fl_commands.proofs.GraphLemmas.{first-made, rest-held, rest-kept, rest-made}
use Rattle.fl_commands.proofs.WriterLemmas.{only-none}
use Rattle.fl_commands.proofs.graphs.begin_files.Goals as goal

pub begin_for-requires-clause-made : goal.begin_for-requires-clause-made
begin_for-requires-clause-made g c κs within =
    first-made c.args.nodes.now _ _ _ (left-parts c.loop-left.left.now c.node-item.result c.node-item.is c.in-len1-up.len_at_least) _ c.target.ensures _ c.loop-left.invariant.made

pub loop-left-preserved : goal.loop-left-preserved
loop-left-preserved g c =
    let is = left-parts c.loop-left.left.now c.node-item.result c.node-item.is c.in-len1-up.len_at_least in
    record {
      made = rest-made c.args.nodes.now _ _ _ is _ c.target.ensures _ _ c.in_ok-begin_for.ensures.held c.loop-left.invariant.made;
      held = rest-held c.args.nodes.now _ _ _ is _ c.target.ensures _ _ c.in_ok-begin_for.ensures.held ∙ c.loop-left.invariant.held;
      kept = λ last rest. c.loop-left.invariant.kept last (rest-kept c.args.nodes.now _ _ _ is _ c.target.ensures _ _ last c.begin_for.ensures.kept rest);
      lent = λ first out. c.begin_for.ensures.lent first (c.loop-left.invariant.lent first out);
      faults = c.in_ok-begin_for.ensures.ok ∙ c.loop-left.invariant.faults;
    }

pub returns-in_err-begin_for-clause-kept : goal.returns-in_err-begin_for-clause-kept
returns-in_err-begin_for-clause-kept g c =
    c.loop-left.invariant.kept _
    (rest-kept c.args.nodes.now _ _ _ (left-parts c.loop-left.left.now c.node-item.result c.node-item.is c.in-len1-up.len_at_least) _ c.target.ensures _ _ _ c.begin_for.ensures.kept only-none)

pub returns-clause-kept : goal.returns-clause-kept
returns-clause-kept g c = c.loop-left.invariant.kept _ only-none
