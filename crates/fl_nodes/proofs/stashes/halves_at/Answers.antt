use Rattle.std.proofs.Common.{◌≡◌, ◌<◌, length, map, get_or, take, ◌++◌, ◌∷◌, [], Some, is_some, ap, sym, ◌∙◌, rules}
use Rattle.std.proofs.lemmas.List.{take_all}
use Rattle.fl_nodes.specs.Stashes.{half_of}
use Rattle.fl_nodes.proofs.StashLemmas.{passed, gone-more, lay-behind, lay-gone, has_each-rest, named-each}
use Rattle.fl_nodes.proofs.stashes.halves_at.Goals as goal

pub loop-place-preserved : goal.loop-place-preserved
loop-place-preserved g c =
    let done = c.loop-place.halves.items in
    let edges = c.args.edges.now in
    let more : c.push.new.self.items ≡ done ++ c.in-Some.half ∷ [] = search rules in
    let within : c.loop-place.place < length c.args.edges.now = search rules in
    let there : half_of c.loop-place.stash.items (get_or c.args.edges.now c.loop-place.place 0) ≡ Some c.in-Some.half = search rules in record {
      halves = passed Some (half_of c.args.stash.now.items) done c.push.new.self.items c.in-Some.half edges c.loop-place.place more within
          (sym (lay-behind c.args.stash.now.items c.loop-place.stash.items (take c.loop-place.place edges) c.loop-place.invariant.gone _ c.in-Some.half there))
          c.loop-place.invariant.halves;
      gone = gone-more c.args.stash.now.items c.loop-place.stash.items _ edges c.loop-place.place within c.loop-place.invariant.gone c.in-Some.ensures.gone;
      there = c.loop-place.invariant.there ∙ has_each-rest c.loop-place.stash.items _ edges c.loop-place.place within (ap is_some there) c.in-Some.ensures.gone;
    }

pub returns-in_default-clause-kept : goal.returns-in_default-clause-kept
returns-in_default-clause-kept g c = λ edge half there.
    lay-behind c.args.stash.now.items c.loop-place.stash.items (take c.loop-place.place c.args.edges.now) c.loop-place.invariant.gone edge half
    (lay-gone c.loop-place.stash.items c.half_at.new.stash.items (get_or c.args.edges.now c.loop-place.place 0) c.in_default.ensures.gone edge half there)

pub returns-in_err-push-clause-kept : goal.returns-in_err-push-clause-kept
returns-in_err-push-clause-kept g c = λ edge half there.
    lay-behind c.args.stash.now.items c.loop-place.stash.items (take c.loop-place.place c.args.edges.now) c.loop-place.invariant.gone edge half
    (lay-gone c.loop-place.stash.items c.half_at.new.stash.items (get_or c.args.edges.now c.loop-place.place 0) c.in-Some.ensures.gone edge half there)

pub returns-clause-kept : goal.returns-clause-kept
returns-clause-kept g c = λ edge half there.
    lay-behind c.args.stash.now.items c.loop-place.stash.items (take c.loop-place.place c.args.edges.now) c.loop-place.invariant.gone edge half there

pub returns-clause-names : goal.returns-clause-names
returns-clause-names g c = λ ids pieces lie.
    let whole : take c.loop-place.place c.args.edges.now ≡ c.args.edges.now = take_all c.loop-place.place c.args.edges.now (search rules) in
    named-each g.T.EdgeHalf.name ids c.args.stash.now.items c.loop-place.halves.items c.args.edges.now (λ edge half there. (lie edge half there).0)
    (c.loop-place.invariant.halves ∙ ap (map (half_of c.args.stash.now.items)) whole)

pub returns-clause-carried : goal.returns-clause-carried
returns-clause-carried g c = λ ids pieces lie.
    let whole : take c.loop-place.place c.args.edges.now ≡ c.args.edges.now = take_all c.loop-place.place c.args.edges.now (search rules) in
    named-each g.T.EdgeHalf.carried pieces c.args.stash.now.items c.loop-place.halves.items c.args.edges.now (λ edge half there. (lie edge half there).1)
    (c.loop-place.invariant.halves ∙ ap (map (half_of c.args.stash.now.items)) whole)
