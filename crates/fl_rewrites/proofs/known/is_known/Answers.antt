use Rattle.std.proofs.Common.{◌≡◌, ℕ, List, IfOk, map, ap, subst, ◌∙◌}
use Rattle.fl_rewrites.specs.Inner.Tables.{root_in}
use Rattle.fl_rewrites.specs.Known.{are_parts, root_of}
use Rattle.fl_rewrites.proofs.known.is_known.Goals as goal

pub returns : goal.returns
returns c =
    let roots : c.as_slice-2.result.now ≡ map (root_of c.args.nodes.now) c.args.edges.now =
    c.as_slice-2.ensures.value ∙ c.in_ok-roots.ensures ∙ ap (λ (turn : ℕ → ℕ). map turn c.args.edges.now) (ap root_in c.as_slice.ensures.value ∙ c.in_ok-table.ensures) in
    subst (λ (edges : List ℕ). IfOk c.are_parts.result (λ are. are ≡ are_parts c.args.nodes.now edges)) roots c.are_parts.ensures
