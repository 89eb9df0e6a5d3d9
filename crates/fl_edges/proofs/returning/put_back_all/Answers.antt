use Rattle.std.proofs.Common.{◌≡◌, ◌<◌, length, get_or, ap, sym, subst, ◌∙◌, rules}
use Rattle.std.proofs.lemmas.List.{nil_from_length}
use Rattle.std.specs.Vec.Iter.{into_iter_items}
use Rattle.fl_graph.specs.Net.{gives, has}
use Rattle.fl_graph.specs.declared.graphs.Cell.{Cell}
use Rattle.fl_graph.specs.declared.kinds.NodeKind.{NodeKind}
use Rattle.fl_edges.specs.Settled.{all_of, put_all}
use Rattle.fl_edges.proofs.EachLemmas.{each-rest, each-within}
use Rattle.fl_edges.proofs.PutLemmas.{counted-here, all-put, part-has, put-first}
use Rattle.fl_edges.proofs.returning.put_back_all.Goals as goal

pub put_back-requires-clause-below : goal.put_back-requires-clause-below
put_back-requires-clause-below c = λ edge there.
    let within = each-within _ c.args.nodes.now c.loop-own.node c.in-Some.own _ _ c.in-Some.ensures.steps.0 c.loop-own.invariant.counted in
    let same : c.index-nodes-node.result ≡ get_or c.args.nodes.now c.loop-own.node c.index-nodes-node.result = search rules in
    let outs : c.as_slice.result.now ≡ c.index-nodes-node.result.outs = c.as_slice.ensures ∙ ap (λ (cell : Cell NodeKind). cell.outs) (sym same) in
    subst (λ count. edge < count) (sym c.loop-own.invariant.len)
    (c.requires.below edge (part-has (λ (cell : Cell NodeKind). cell.outs) c.args.nodes.now c.loop-own.node c.index-nodes-node.result edge within same (ap (has edge) (sym outs) ∙ there)))

pub put_back-requires-clause-counted : goal.put_back-requires-clause-counted
put_back-requires-clause-counted c =
    let within = each-within _ c.args.nodes.now c.loop-own.node c.in-Some.own _ _ c.in-Some.ensures.steps.0 c.loop-own.invariant.counted in
    let same : c.index-nodes-node.result ≡ get_or c.args.nodes.now c.loop-own.node c.index-nodes-node.result = search rules in
    let outs : c.as_slice.result.now ≡ c.index-nodes-node.result.outs = c.as_slice.ensures ∙ ap (λ (cell : Cell NodeKind). cell.outs) (sym same) in
    counted-here c.args.nodes.now c.loop-own.node c.index-nodes-node.result c.in-Some.own _ _ c.in-Some.ensures.steps.0 within same c.loop-own.invariant.counted
    ∙ ap (λ outs. length outs) (sym outs)

pub loop-own-preserved : goal.loop-own-preserved
loop-own-preserved c =
    let within = each-within _ c.args.nodes.now c.loop-own.node c.in-Some.own _ _ c.in-Some.ensures.steps.0 c.loop-own.invariant.counted in
    let same : c.index-nodes-node.result ≡ get_or c.args.nodes.now c.loop-own.node c.index-nodes-node.result = search rules in
    let outs : c.as_slice.result.now ≡ c.index-nodes-node.result.outs = c.as_slice.ensures ∙ ap (λ (cell : Cell NodeKind). cell.outs) (sym same) in
    record {
      put = put-first c.args.nodes.now c.loop-own.node c.index-nodes-node.result c.in-Some.own _ _ c.in-Some.ensures.steps.0 within same c.loop-own.invariant.counted c.loop-own.stash.items
          c.put_back.new.stash.items (c.put_back.ensures.put ∙ ap (λ outs. put_all c.loop-own.stash.items outs c.in-Some.own.items) outs)
          ∙ c.loop-own.invariant.put;
      counted = each-rest _ c.args.nodes.now c.loop-own.node c.index-nodes-node.result c.in-Some.own _ _ c.in-Some.ensures.steps.0 within c.loop-own.invariant.counted;
      len = c.put_back.ensures.len ∙ c.loop-own.invariant.len;
    }

pub returns : goal.returns
returns c =
    let none : length (into_iter_items c.loop-own.own-iterator) ≡ 0 = search rules in
    let told : into_iter_items c.into_iter-own-iterator.result ≡ c.args.givers.items = search rules in
    all-put c.args.nodes.now c.loop-own.node _ (nil_from_length (into_iter_items c.loop-own.own-iterator) none) c.loop-own.stash.items c.loop-own.invariant.counted
    ∙ c.loop-own.invariant.put
    ∙ ap (λ owns. put_all c.args.stash.now.items (gives c.args.nodes.now) (all_of owns)) told
