use Rattle.std.proofs.Common.{rules, ◌≡◌, ◌+◌, ◌∷◌, drop, ap, sym, ◌∙◌}
use Rattle.std.specs.Option.{option_copied}
use Rattle.std.proofs.lemmas.List.{drop_more}
use Rattle.fl_graph.specs.Paths.{paths_written}
use Rattle.fl_graph.specs.declared.graphs.Cell.{Cell}
use Rattle.fl_graph.specs.declared.kinds.NodeKind.{NodeKind}
use Rattle.fl_text.specs.Inner.Writings.{are_new, is_kept, with_paths}
use Rattle.fl_text.proofs.WritingLemmas.{keeps-none, keeps-one}
use Rattle.fl_text.proofs.files.keep_all.Goals as goal
use Rattle.fl_text.proofs.files.keep_all.Goals.{in-Some+in_ok-keep+else-not-branch, in_default}

pub loop-node-preserved : goal.loop-node-preserved
loop-node-preserved c =
    let cell = c.node-item.result in
    let left = drop c.loop-node.node-index c.args.nodes.now in
    let rest = drop (c.loop-node.node-index + 1) c.args.nodes.now in
    let next : left ≡ cell ∷ rest =
    drop_more c.args.nodes.now c.loop-node.node-index cell c.loop-node-test.true ∙ ap (λ (first : Cell NodeKind). first ∷ rest) (sym c.node-item.is) in
    let all = with_paths (paths_written c.args.nodes.now) (is_kept c.args.files.now) in
    let are = are_new (is_kept c.args.files.now) (paths_written c.args.nodes.now) in
    elim c.match-path_written.branch [
      | in-Some+in_ok-keep+else-not-branch w ↦ keeps-one cell left rest w.in-Some.path.now (is_kept c.loop-node.files) (is_kept c.match-path_written.files) all are next
          (sym c.path_written.ensures ∙ ap option_copied w.in-Some.is) (sym w.in_ok-keep.ensures.new ∙ w.if-not-branch.false)
          (ap is_kept w.files-is ∙ w.in_ok-keep.ensures.kept w.if-not-branch.false) c.loop-node.invariant.0 c.loop-node.invariant.1
      | in_default w ↦ keeps-none cell left rest (is_kept c.loop-node.files) (is_kept c.match-path_written.files) all are next
          (search rules) (ap is_kept w.files-is) c.loop-node.invariant.0 c.loop-node.invariant.1
    ]
