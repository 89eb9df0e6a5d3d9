-- What a thread gives back (own), against the seat that it got.
use Rattle.std.specs.Prelude.{◌≡◌, Bool, true, false}
use Rattle.fl_graph.specs.Runs.{are_closed, has_end}
use Rattle.fl_relay.specs.Relays.{takes_on, taken}
use Rattle.fl_threads.specs.declared.seats.Seat.{Seat}
use Rattle.fl_threads.specs.declared.seats.Reply.{Reply}
use Rattle.fl_threads.specs.declared.seats.Went.{Went}
use Rattle.fl_threads.specs.declared.seats.Went.TheVariants as went

module _ {J D : Type 0} (comes : J → D → Type 0) where
  -- the job was done where the word was to go, and else it is as it was
  abbrev pub WentAs : J → Bool → Went J D → Type 0
  WentAs job goes (went.Ran done) = (goes ≡ true) × comes job done
  WentAs job goes (went.StoodDown back) = (goes ≡ false) × (back ≡ job)

  -- the word came on the seat's relay, End to go and Broken to stand down
  pub record RepliesTo (seat : Seat J) (reply : Reply J D) : Type 0 where
    pub same : takes_on reply.start ≡ takes_on seat.start
    pub told : are_closed (taken reply.start) ≡ true
    pub went : WentAs seat.job (has_end (taken reply.start)) reply.went
