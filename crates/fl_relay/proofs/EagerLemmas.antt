-- The rule of a relay in the words of the queue without bound, which are those of the channel.
use Rattle.std.proofs.Common.{◌≡◌, ℕ, true, false}
use Rattle.crossbeam_queue.specs.Fifo.{Pushes, Pops, Forks, Merges, Learns}
use Rattle.fl_graph.specs.Runs.{are_closed}
use Rattle.fl_graph.specs.declared.pieces.Piece.{Piece}
use Rattle.fl_relay.specs.declared.rule.View.{View}
use Rattle.fl_relay.specs.Rule.{Balances, Relayed, giving, taking, whole, spent, sent, received}
use Rattle.fl_relay.proofs.RuleLemmas.{send, receive, split, join, learn}

pub push : (room pass : ℕ) (view : View) (piece : Piece) → view.gives ≡ true → are_closed view.given ≡ false → Pushes Relayed room pass view piece (λ now. now ≡ sent view piece)
push room pass view piece gives still = send room pass view piece gives still

pub pop : (pass : ℕ) (view : View) → view.takes ≡ true → Pops Relayed pass view (λ piece now. now ≡ received view piece)
pop pass view takes = receive pass view takes

pub fork : (pass : ℕ) (view : View) → view.gives ≡ true → view.takes ≡ true → Forks Relayed pass view (giving view.given) (taking view.taken)
fork pass view gives takes = split pass view gives takes

pub merge : (pass : ℕ) (view : View) (other : ℕ) (theirs : View) → view.gives ≡ true → theirs.takes ≡ true → Merges Relayed pass view other theirs (whole view.given theirs.taken) spent
merge pass view other theirs gives takes = join pass view other theirs gives takes

pub learn_all : (pass : ℕ) (view : View) → view.gives ≡ true → view.takes ≡ true → Learns Relayed pass view (Balances view.given view.taken)
learn_all pass view gives takes = learn pass view gives takes
