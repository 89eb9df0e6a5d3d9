use Rattle.std.proofs.Common.{◌≡◌, ℕ, List, map, ap, ◌∙◌}
use Rattle.fl_graph.specs.Net.{gives}
use Rattle.fl_rewrites.specs.Numbering.{place, renamed}
use Rattle.fl_rewrites.specs.Inner.Tables.{looked_up}
use Rattle.fl_rewrites.proofs.numbers.number.Goals as goal

pub returns : goal.returns
returns c =
    let given : c.as_slice-2.result.now ≡ gives c.args.nodes.items = c.as_slice-2.ensures.value ∙ c.in_ok-given.ensures ∙ ap gives c.as_slice.ensures.value in
    let turn : looked_up c.as_slice-3.result.now c.in-Ok.count ≡ place (gives c.args.nodes.items) =
    ap (λ (places : List ℕ). looked_up places c.in-Ok.count) c.as_slice-3.ensures.value ∙ c.in_ok-places.ensures ∙ ap place given in
    c.in_ok-renumber_all.ensures ∙ ap (λ (turn : ℕ → ℕ). map (renamed turn) c.args.nodes.items) turn
