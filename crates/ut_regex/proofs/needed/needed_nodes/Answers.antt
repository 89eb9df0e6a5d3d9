use Rattle.std.proofs.Common.{[], ◌∷◌, ◌++◌, ◌≡◌, drop, reverse, ap, sym, ◌∙◌, rules}
use Rattle.ut_regex.specs.Inner.Program.{cores}
use Rattle.ut_regex.specs.Tree.{with_nodes}
use Rattle.ut_regex.proofs.NodeLemmas.{with_nodes_one}
use Rattle.ut_regex.proofs.needed.needed_nodes.Goals as goal

pub loop-node-preserved : goal.loop-node-preserved
loop-node-preserved c =
    let l = c.loop-node in
    let before = c.in-Some.before.now in
    let cut : l.left.now ≡ before ++ c.in-Some.node.now ∷ [] = search (rules, c.in-Some.ensures.cases) in
    record {
      same =
          c.in_ok-dropped.ensures.same (with_nodes [] before)
          ∙ ap (λ trees. cores (with_nodes (drop l.dropped trees) (reverse l.needed.items))) (sym (ap (λ nodes. with_nodes [] nodes) cut ∙ with_nodes_one before c.in-Some.node.now))
          ∙ l.invariant.same;
      few = search (rules, c.in_ok-dropped.ensures.few, l.invariant.few);
    }
