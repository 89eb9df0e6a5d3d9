use Rattle.std.proofs.Common.{◌≡◌, ◌<◌, ℕ, List, [], length, map, get_or, drop, true, ap, sym, subst, ◌∙◌, rules}
use Rattle.std.proofs.lemmas.List.{nil_from_length}
use Rattle.std.specs.Global.{Vec}
use Rattle.std.specs.List.{list_all}
use Rattle.std.specs.Vec.Iter.{into_iter_items}
use Rattle.fl_graph.specs.Net.{takes}
use Rattle.fl_graph.specs.Runs.{is_clean}
use Rattle.fl_graph.specs.declared.graphs.Cell.{Cell}
use Rattle.fl_graph.specs.declared.kinds.NodeKind.{NodeKind}
use Rattle.fl_nodes.specs.Stashes.{CanSettleAll, has_each, without_all}
use Rattle.fl_relay.specs.declared.edges.EdgeTaker.{EdgeTaker}
use Rattle.fl_relay.specs.Edges.{taken_from}
use Rattle.fl_threads.specs.Threads.{EachOf}
use Rattle.fl_edges.proofs.EachLemmas.{each-back, each-none, each-within}
use Rattle.fl_edges.proofs.SettledLemmas.{can-first, can-rest, clean-first, ends-first, there-first, there-rest, none-taken, none-clean}
use Rattle.fl_edges.proofs.settling.settle_each.Goals as goal

pub settle_ins-settled-requires : goal.settle_ins-settled-requires
settle_ins-settled-requires g c =
    let within = each-within _ c.args.nodes.now c.loop-own.node c.in-Some.own _ _ c.in-Some.ensures.steps.0 c.loop-own.invariant.can.each in
    let same : c.index-nodes-node.result ≡ get_or c.args.nodes.now c.loop-own.node c.index-nodes-node.result = search rules in
    let ins : c.as_slice.result.now ≡ c.index-nodes-node.result.ins = c.as_slice.ensures ∙ ap (λ (cell : Cell NodeKind). cell.ins) (sym same) in
    subst (λ edges. CanSettleAll c.loop-own.stash.items edges c.in-Some.own.items) (sym ins)
    (can-first c.args.nodes.now c.loop-own.node c.index-nodes-node.result within same c.in-Some.own _ _ c.in-Some.ensures.steps.0 c.loop-own.stash.items c.loop-own.invariant.can)

pub loop-own-preserved : goal.loop-own-preserved
loop-own-preserved g c =
    let nodes = c.args.nodes.now in
    let node = c.loop-own.node in
    let cell = c.index-nodes-node.result in
    let stash = c.loop-own.stash.items in
    let now = c.settle_ins-settled.new.stash.items in
    let within = each-within _ nodes node c.in-Some.own _ _ c.in-Some.ensures.steps.0 c.loop-own.invariant.can.each in
    let same : c.index-nodes-node.result ≡ get_or c.args.nodes.now c.loop-own.node c.index-nodes-node.result = search rules in
    let ins : c.as_slice.result.now ≡ c.index-nodes-node.result.ins = c.as_slice.ensures ∙ ap (λ (cell : Cell NodeKind). cell.ins) (sym same) in
    let there = there-first nodes node cell within same stash c.loop-own.invariant.there in
    let settled : c.settle_ins-settled.result ≡ true = c.settle_ins-settled.ensures.there ∙ ap (has_each stash) ins ∙ there in
    let gone : now ≡ without_all stash cell.ins = c.settle_ins-settled.ensures.gone settled ∙ ap (without_all stash) ins in
    let ends = ends-first nodes node cell within same c.in-Some.own _ _ c.in-Some.ensures.steps.0 c.loop-own.invariant.ends in
    record {
      can = can-rest nodes node cell within same c.in-Some.own _ _ c.in-Some.ensures.steps.0 stash now c.settle_ins-settled.ensures.kept c.loop-own.invariant.can;
      there = there-rest nodes node cell within same stash now gone c.loop-own.invariant.there;
      ends = ends.1;
      kept = λ edge half is. c.loop-own.invariant.kept edge half (c.settle_ins-settled.ensures.kept edge half is);
      settled = λ ids pieces lie others.
          c.loop-own.invariant.settled ids pieces lie
          (each-back (λ (cell : Cell NodeKind) (own : Vec EdgeTaker). map taken_from own.items ≡ map pieces cell.ins) nodes node cell c.in-Some.own _ _ c.in-Some.ensures.steps.0 within same
          (c.settle_ins-settled.ensures.settled settled ends.0 ids pieces (λ edge half is. lie edge half (c.loop-own.invariant.kept edge half is)) ∙ ap (map pieces) ins)
          others);
      clean = λ ids pieces lie others.
          c.loop-own.invariant.clean ids pieces lie
          (clean-first nodes node cell within same (λ edge. is_clean (pieces edge))
          (ap (list_all (λ edge. is_clean (pieces edge))) (sym ins)
          ∙ c.settle_ins-settled.ensures.clean settled ids pieces (λ edge half is. lie edge half (c.loop-own.invariant.kept edge half is))) others);
    }

pub returns-clause-settled : goal.returns-clause-settled
returns-clause-settled g c = λ ids pieces lie.
    let none : length (into_iter_items c.loop-own.own-iterator) ≡ 0 = search rules in
    let told : into_iter_items c.into_iter-own-iterator.result ≡ c.args.takers.items = search rules in
    subst (λ owns. EachOf (λ (cell : Cell NodeKind) (own : Vec EdgeTaker). map taken_from own.items ≡ map pieces cell.ins) c.args.nodes.now owns) told
    (c.loop-own.invariant.settled ids pieces lie
    (none-taken pieces c.args.nodes.now c.loop-own.node _ (nil_from_length (into_iter_items c.loop-own.own-iterator) none) c.loop-own.stash.items c.loop-own.invariant.can))

pub returns-clause-clean : goal.returns-clause-clean
returns-clause-clean g c = λ ids pieces lie.
    let none : length (into_iter_items c.loop-own.own-iterator) ≡ 0 = search rules in
    c.loop-own.invariant.clean ids pieces lie
    (none-clean (λ edge. is_clean (pieces edge)) c.args.nodes.now c.loop-own.node _ (nil_from_length (into_iter_items c.loop-own.own-iterator) none) c.loop-own.stash.items c.loop-own.invariant.can)
