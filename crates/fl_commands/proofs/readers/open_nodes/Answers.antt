use Rattle.std.proofs.Common.{Option, IfSome, ◌∙◌, subst, sym}
use Rattle.std.specs.Option.{option_copied}
use Rattle.ps_world.specs.Files.{Files, IsFileAt}
use Rattle.fl_segments.proofs.AddLemmas.{left-parts}
use Rattle.fl_commands.proofs.ReaderLemmas.{node-there, nodes-count, nodes-texts, nodes-there}
use Rattle.fl_commands.proofs.readers.open_nodes.Goals as goal

pub open_at-requires-clause-there : goal.open_at-requires-clause-there
open_at-requires-clause-there g c κs within =
    subst (λ (held : Option Files). IfSome held (λ files. IfSome (option_copied c.path_read.result) (λ it. IsFileAt files it))) (sym c.loop-left.invariant.held)
    (node-there c.args.nodes.now _ _ _ (left-parts c.loop-left.left.now c.node-item.result c.node-item.is c.in-len1-up.len_at_least) _ c.path_read.ensures _ c.loop-left.invariant.there)

pub loop-left-preserved : goal.loop-left-preserved
loop-left-preserved g c =
    let is = left-parts c.loop-left.left.now c.node-item.result c.node-item.is c.in-len1-up.len_at_least in
    record {
      there = nodes-there c.args.nodes.now _ _ _ is _ c.path_read.ensures _ c.loop-left.invariant.there;
      texts = λ files told. nodes-texts c.args.nodes.now _ _ _ is _ c.path_read.ensures files _ _ _ (c.loop-left.invariant.texts files told)
          (c.in_ok-open_at.ensures.texts files (c.loop-left.invariant.held ∙ told));
      count = nodes-count c.args.nodes.now _ _ _ is _ c.path_read.ensures _ _ _ c.loop-left.invariant.count c.in_ok-open_at.ensures.count;
      fresh = λ old. c.in_ok-open_at.ensures.fresh (c.loop-left.invariant.fresh old);
      out = λ first out. c.in_ok-open_at.ensures.out first (c.loop-left.invariant.out first out);
      paths = λ old. c.in_ok-open_at.ensures.paths (c.loop-left.invariant.paths old);
      held = c.in_ok-open_at.ensures.held ∙ c.loop-left.invariant.held;
      faults = c.in_ok-open_at.ensures.cause.ok ∙ c.loop-left.invariant.faults;
    }
