use Rattle.std.proofs.Common.{◌≡◌, length, map, get_or, take, ap, sym, ◌∙◌, rules}
use Rattle.std.proofs.lemmas.Bool.{and_parts}
use Rattle.std.proofs.lemmas.List.{nil_from_length}
use Rattle.std.specs.List.{list_all}
use Rattle.std.specs.Vec.Iter.{into_iter_items}
use Rattle.fl_graph.specs.Runs.{are_closed, is_clean}
use Rattle.fl_relay.specs.Edges.{taken_from}
use Rattle.fl_nodes.proofs.StashLemmas.{all-from, gone-more, has_each-rest, lay-behind, lay-gone, left-first, left-rest, left-within, none-left, taken-first}
use Rattle.fl_nodes.proofs.settling.settle_ins.Goals as goal

pub settle_at-requires : goal.settle_at-requires
settle_at-requires g c =
    let within = left-within c.loop-taker.stash.items c.args.edges.now c.loop-taker.place c.in-Some.taker _ _ c.in-Some.ensures.steps.0 c.loop-taker.invariant.left in
    left-first c.loop-taker.stash.items c.args.edges.now c.loop-taker.place c.in-Some.taker _ _ c.in-Some.ensures.steps.0 within c.loop-taker.invariant.left

pub loop-taker-preserved : goal.loop-taker-preserved
loop-taker-preserved g c =
    let edges = c.args.edges.now in
    let within = left-within c.loop-taker.stash.items edges c.loop-taker.place c.in-Some.taker _ _ c.in-Some.ensures.steps.0 c.loop-taker.invariant.left in
    record {
      left = left-rest c.loop-taker.stash.items c.settle_at.new.stash.items edges c.loop-taker.place c.in-Some.taker _ _ c.in-Some.ensures.steps.0 within c.settle_at.ensures.gone
          c.loop-taker.invariant.left;
      gone = gone-more c.args.stash.now.items c.loop-taker.stash.items c.settle_at.new.stash.items edges c.loop-taker.place within c.loop-taker.invariant.gone c.settle_at.ensures.gone;
      there = c.loop-taker.invariant.there ∙ has_each-rest c.loop-taker.stash.items c.settle_at.new.stash.items edges c.loop-taker.place within (search rules) c.settle_at.ensures.gone;
      closed = λ all.
          (and_parts (are_closed (taken_from c.in-Some.taker)) _ (sym (ap (list_all (λ taker. are_closed (taken_from taker))) c.in-Some.ensures.steps.0) ∙ c.loop-taker.invariant.closed all)).1;
      settled = λ all ids pieces lie others.
          c.loop-taker.invariant.settled all ids pieces lie
          (taken-first pieces edges c.loop-taker.place c.in-Some.taker _ _ c.in-Some.ensures.steps.0 within
          (c.settle_at.ensures.settled (search rules)
          (and_parts (are_closed (taken_from c.in-Some.taker)) _ (sym (ap (list_all (λ taker. are_closed (taken_from taker))) c.in-Some.ensures.steps.0) ∙ c.loop-taker.invariant.closed all)).0
          ids pieces
          (λ edge half there. lie edge half (lay-behind c.args.stash.now.items c.loop-taker.stash.items (take c.loop-taker.place edges) c.loop-taker.invariant.gone edge half there))) others);
      clean = λ ids pieces lie others.
          c.loop-taker.invariant.clean ids pieces lie
          (all-from (λ edge. is_clean (pieces edge)) edges c.loop-taker.place within
          (c.settle_at.ensures.clean (search rules) ids pieces
          (λ edge half there. lie edge half (lay-behind c.args.stash.now.items c.loop-taker.stash.items (take c.loop-taker.place edges) c.loop-taker.invariant.gone edge half there))) others);
    }

pub returns-clause-settled : goal.returns-clause-settled
returns-clause-settled g c = λ is all ids pieces lie.
    let none : length (into_iter_items c.loop-taker.taker-iterator) ≡ 0 = search rules in
    let told : into_iter_items c.into_iter-taker-iterator.result ≡ c.args.takers.items = search rules in
    let left = nil_from_length (into_iter_items c.loop-taker.taker-iterator) none in
    sym (ap (map taken_from) told)
    ∙ c.loop-taker.invariant.settled (ap (list_all (λ taker. are_closed (taken_from taker))) told ∙ all) ids pieces lie
    (ap (map taken_from) left ∙ sym (ap (map pieces) (none-left c.loop-taker.stash.items c.args.edges.now c.loop-taker.place _ left c.loop-taker.invariant.left)))

pub returns-clause-clean : goal.returns-clause-clean
returns-clause-clean g c = λ is ids pieces lie.
    let none : length (into_iter_items c.loop-taker.taker-iterator) ≡ 0 = search rules in
    let left = nil_from_length (into_iter_items c.loop-taker.taker-iterator) none in
    c.loop-taker.invariant.clean ids pieces lie
    (ap (list_all (λ edge. is_clean (pieces edge))) (none-left c.loop-taker.stash.items c.args.edges.now c.loop-taker.place _ left c.loop-taker.invariant.left))

pub returns-clause-kept : goal.returns-clause-kept
returns-clause-kept g c = λ edge half there.
    lay-behind c.args.stash.now.items c.loop-taker.stash.items (take c.loop-taker.place c.args.edges.now) c.loop-taker.invariant.gone edge half there

pub returns-then-not-settle_at-clause-kept : goal.returns-then-not-settle_at-clause-kept
returns-then-not-settle_at-clause-kept g c = λ edge half there.
    lay-behind c.args.stash.now.items c.loop-taker.stash.items (take c.loop-taker.place c.args.edges.now) c.loop-taker.invariant.gone edge half
    (lay-gone c.loop-taker.stash.items c.settle_at.new.stash.items (get_or c.args.edges.now c.loop-taker.place 0) c.settle_at.ensures.gone edge half there)
