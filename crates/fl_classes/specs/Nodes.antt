-- What a node alone puts on its outs, from what comes at its ins (own): its equation, port by port.
use Rattle.std.specs.Prelude.{◌≡◌, ℕ, List, [], false, get_or, map, nat_lt}
use Rattle.std.specs.List.{range_with_len}
use Rattle.fl_graph.specs.Machines.{State}
use Rattle.fl_graph.specs.declared.kinds.NodeKind.{NodeKind}
use Rattle.fl_classes.specs.Flow.{texts_given, selects}

-- the texts at so many ports, in order
abbrev pub texts_at : ℕ → (ℕ → List ℕ) → List (List ℕ)
texts_at count texts = map texts (range_with_len 0 count)

-- the text that a node gives on an out; of a source nothing is told
abbrev pub given_on : NodeKind → ℕ → ℕ → (ℕ → List ℕ) → ℕ → List ℕ
given_on kind ins outs texts port = get_or (texts_given [] 0 kind outs (texts_at ins texts)) port []

-- a machine of this kind stands at its beginning: all its ports are open, none carries blocks, all of its equation is due, and it isn't broken
pub record Begins (kind : NodeKind) (ins outs : ℕ) (state : State) : Type 0 where
  pub takes_all : (port : ℕ) → state.takes port ≡ nat_lt port ins
  pub puts_all : (port : ℕ) → state.puts port ≡ nat_lt port outs
  pub plain_ins : (port : ℕ) → state.numbered_ins port ≡ false
  pub plain_outs : (port : ℕ) → state.numbered_outs port ≡ false
  pub is_whole : state.broken ≡ false
  pub owes : (texts : ℕ → List ℕ) (port : ℕ) → state.due texts port ≡ given_on kind ins outs texts port
  pub may_select : (texts : ℕ → List ℕ) → state.selects texts ≡ selects kind (texts_at ins texts)
