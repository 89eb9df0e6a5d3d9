use Rattle.std.proofs.Common.{◌≡◌, ◌<◌, ℕ, List, Option, length, map, vec_len, ap, sym, subst, ◌∙◌, rules}
use Rattle.std.specs.Global.{Vec}
use Rattle.std.specs.List.{list_all}
use Rattle.fl_graph.specs.Net.{gives, has, takes}
use Rattle.fl_graph.specs.Runs.{is_clean}
use Rattle.fl_graph.specs.declared.graphs.Cell.{Cell}
use Rattle.fl_graph.specs.declared.kinds.NodeKind.{NodeKind}
use Rattle.fl_nodes.specs.Stashes.{Lie, has_each}
use Rattle.fl_relay.specs.declared.edges.EdgeGiver.{EdgeGiver}
use Rattle.fl_relay.specs.declared.edges.EdgeTaker.{EdgeTaker}
use Rattle.fl_relay.specs.Edges.{gives_over, put_on, taken_from}
use Rattle.fl_threads.specs.Threads.{EachOf}
use Rattle.fl_edges.specs.Settled.{CanSettleEach, all_of, put_all}
use Rattle.fl_edges.proofs.SettledLemmas.{all_there, are_settled, can, counted}
use Rattle.fl_edges.proofs.settling.settle_edges.Goals as goal

pub put_back_all-requires-clause-counted : goal.put_back_all-requires-clause-counted
put_back_all-requires-clause-counted g c =
    let long : length c.args.stash.items ≡ vec_len c.args.stash = search rules in
    subst (λ cells. EachOf (λ (cell : Cell NodeKind) (own : Vec EdgeGiver). length own.items ≡ length cell.outs) cells c.args.givers.items) (sym c.as_slice-nodes.ensures)
    (counted c.args.graph.now.nodes c.args.graph.now.status c.requires.valid c.args.givers.items c.args.takers.items c.requires.back c.args.stash.items (long ∙ c.requires.room) c.requires.bare)

pub put_back_all-requires-clause-below : goal.put_back_all-requires-clause-below
put_back_all-requires-clause-below g c = λ edge there.
    subst (λ count. edge < count) (sym c.requires.room)
    (c.requires.valid.edges.below edge (ap (λ cells. has edge (gives cells)) (sym c.as_slice-nodes.ensures) ∙ there))

pub settle_each-requires-clause-can : goal.settle_each-requires-clause-can
settle_each-requires-clause-can g c =
    let long : length c.args.stash.items ≡ vec_len c.args.stash = search rules in
    subst (λ cells. CanSettleEach c.put_back_all.new.stash.items cells c.args.takers.items) (sym c.as_slice-nodes.ensures)
    (subst (λ stash. CanSettleEach stash c.args.graph.now.nodes c.args.takers.items)
    (sym (c.put_back_all.ensures ∙ ap (λ cells. put_all c.args.stash.items (gives cells) (all_of c.args.givers.items)) c.as_slice-nodes.ensures))
    (can c.args.graph.now.nodes c.args.graph.now.status c.requires.valid c.args.givers.items c.args.takers.items c.requires.back c.args.stash.items (long ∙ c.requires.room) c.requires.bare))

pub settle_each-requires-clause-there : goal.settle_each-requires-clause-there
settle_each-requires-clause-there g c =
    let long : length c.args.stash.items ≡ vec_len c.args.stash = search rules in
    ap (λ cells. has_each c.put_back_all.new.stash.items (takes cells)) c.as_slice-nodes.ensures
    ∙ ap (λ stash. has_each stash (takes c.args.graph.now.nodes))
    (c.put_back_all.ensures ∙ ap (λ cells. put_all c.args.stash.items (gives cells) (all_of c.args.givers.items)) c.as_slice-nodes.ensures)
    ∙ all_there c.args.graph.now.nodes c.args.graph.now.status c.requires.valid c.args.givers.items c.args.takers.items c.requires.back c.args.stash.items (long ∙ c.requires.room) c.requires.bare

pub returns : goal.returns
returns g c =
    let long : length c.args.stash.items ≡ vec_len c.args.stash = search rules in
    let put = c.put_back_all.ensures ∙ ap (λ cells. put_all c.args.stash.items (gives cells) (all_of c.args.givers.items)) c.as_slice-nodes.ensures in
    are_settled c.args.graph.now.nodes c.args.graph.now.status c.requires.valid c.args.givers.items c.args.takers.items c.requires.back c.args.stash.items (long ∙ c.requires.room) c.requires.bare
    (λ ids over lie.
    subst (λ cells. EachOf (λ (cell : Cell NodeKind) (own : Vec EdgeTaker). map taken_from own.items ≡ map over cell.ins) cells c.args.takers.items) c.as_slice-nodes.ensures
    (c.settle_each.ensures.settled ids over (subst (λ stash. Lie gives_over put_on ids over stash) (sym put) lie)))
    (λ ids over lie.
    ap (λ cells. list_all (λ edge. is_clean (over edge)) (takes cells)) (sym c.as_slice-nodes.ensures)
    ∙ c.settle_each.ensures.clean ids over (subst (λ stash. Lie gives_over put_on ids over stash) (sym put) lie))
