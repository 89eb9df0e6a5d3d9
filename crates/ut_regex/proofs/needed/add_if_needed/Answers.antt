use Rattle.std.proofs.Common.{[], ◌∷◌, ◌≡◌, drop, reverse, ap, sym, ◌∙◌, arith}
use Rattle.std.proofs.lemmas.List.{reverse-append}
use Rattle.ut_regex.specs.Inner.Program.{cores}
use Rattle.ut_regex.specs.Tree.{empty, with_node, with_nodes}
use Rattle.ut_regex.specs.declared.tree.Node.TheVariants as node
use Rattle.ut_regex.proofs.NodeLemmas.{cores-nodes}
use Rattle.ut_regex.proofs.needed.add_if_needed.Goals as goal

pub returns-then-stands_no_time-clause-same : goal.returns-then-stands_no_time-clause-same
returns-then-stands_no_time-clause-same c = λ trees.
    let old = c.args.needed.now.items in
    let none : c.args.dropped ≡ 0 = omega (arith, c.if-dropped-gt0.false) in
    let made : reverse c.push.new.self.items ≡ node.Empty ∷ reverse old = ap reverse c.in_ok-push.ensures.items ∙ reverse-append old (node.Empty ∷ []) in
    ap (λ nodes. cores (with_nodes (drop 1 trees) nodes)) made
    ∙ sym (cores-nodes (reverse old) (with_node trees c.args.node) (empty ∷ drop 1 trees) (c.stands_no_time.ensures c.if-stands_no_time.true trees))
    ∙ ap (λ count. cores (with_nodes (drop count (with_node trees c.args.node)) (reverse old))) (sym none)
