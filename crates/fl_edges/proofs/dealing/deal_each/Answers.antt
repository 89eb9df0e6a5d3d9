use Rattle.std.proofs.Common.{◌≡◌, ◌<◌, length, get_or, rules, subst}
use Rattle.std.proofs.lemmas.List.{take_all}
use Rattle.fl_threads.specs.Threads.{EachOf}
use Rattle.fl_edges.specs.Halves.{HasHalves}
use Rattle.fl_edges.proofs.EachLemmas.{each-next}
use Rattle.fl_edges.proofs.dealing.deal_each.Goals as goal

pub loop-node-preserved : goal.loop-node-preserved
loop-node-preserved c = record {
  givers = λ edge half there. c.loop-node.invariant.givers edge half (c.in_ok-own.ensures.givers edge half there);
  takers = λ edge half there. c.loop-node.invariant.takers edge half (c.in_ok-own.ensures.takers edge half there);
  each = λ ids giving taking.
      let within : c.loop-node.node < length c.args.nodes.now = search rules in
      let same : c.index-nodes-node.result ≡ get_or c.args.nodes.now c.loop-node.node c.index-nodes-node.result = search rules in
      let has : HasHalves ids c.index-nodes-node.result c.in_ok-own.own =
      c.in_ok-own.ensures.halves ids (λ edge half there. giving edge half (c.loop-node.invariant.givers edge half there))
      (λ edge half there. taking edge half (c.loop-node.invariant.takers edge half there)) in
      each-next (HasHalves ids) c.args.nodes.now c.loop-node.node c.index-nodes-node.result c.loop-node.dealt.items c.push.new.self.items c.in_ok-own.own within same (search rules) has
      (c.loop-node.invariant.each ids giving taking);
}

pub returns : goal.returns
returns c = record {
  ids = c.requires.ids;
  each = subst (λ nodes. EachOf (HasHalves c.requires.ids) nodes c.loop-node.dealt.items) (take_all c.loop-node.node c.args.nodes.now (search rules))
      (c.loop-node.invariant.each c.requires.ids c.requires.giving c.requires.taking);
}
