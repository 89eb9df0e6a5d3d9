-- Jobs beside each other (own).
use Rattle.std.specs.Prelude.{◌≡◌, ◌≤◌, ℕ, Bool, true, false, List, [], ◌∷◌, map, vec_len, vec_capacity}
use Rattle.fl_graph.specs.declared.pieces.Piece.{Piece}
use Rattle.fl_graph.specs.declared.pieces.Piece.TheVariants as piece
use Rattle.fl_relay.specs.Relays.{given}
use Rattle.fl_threads.specs.declared.seats.Seat.{Seat}
use Rattle.fl_threads.specs.declared.begun.Begun.{Begun}
use Rattle.fl_threads.specs.declared.rooms.Room.{Room}
use Rattle.fl_threads.specs.declared.jobs.Beside.{Beside}
use Rattle.fl_threads.specs.declared.jobs.Beside.TheVariants as beside

module _ {A B : Type 0} (Holds : A → B → Type 0) where
  -- as many of the one as of the other, and it holds of each with the one in its place
  abbrev pub EachOf : List A → List B → Type 0
  EachOf [] [] = Unit {0}
  EachOf [] (other ∷ others) = ⊥
  EachOf (one ∷ ones) [] = ⊥
  EachOf (one ∷ ones) (other ∷ others) = Holds one other × EachOf ones others

module _ {J D : Type 0} (comes : J → D → Type 0) where
  -- each job has come to what may come of it, or all are back
  abbrev pub BesideIs : List J → Beside J D → Type 0
  BesideIs jobs (beside.Ran done) = EachOf comes jobs done.items
  BesideIs jobs (beside.NotRun back) = back.items ≡ jobs

-- what a thread was started with
abbrev pub seat_of : {J S D : Type 0} → Begun J S D → Seat J
seat_of begun = begun.handle.promise.0.value

abbrev pub begun_jobs : {J S D : Type 0} → List (Begun J S D) → List J
begun_jobs begun = map (λ one. (seat_of one).job) begun

-- each thread was given these pieces on its start relay
abbrev pub AreGiven : {J S D : Type 0} → List Piece → List (Begun J S D) → Type 0
AreGiven pieces [] = Unit {0}
AreGiven pieces (one ∷ begun) = (given one.go ≡ pieces) × AreGiven pieces begun

-- the word to go, or to stand down
abbrev pub start_word : Bool → Piece
start_word true = piece.End
start_word false = piece.Broken

-- there are relays and room for so many threads, and there is nothing in it yet
pub record IsReady {J S D : Type 0} (count : ℕ) (room : Room J S D) : Type 0 where
  pub lines : vec_len room.lines ≡ count
  pub begun : room.begun.items ≡ []
  pub told : room.told.items ≡ []
  pub done : room.done.items ≡ []
  pub back : room.back.items ≡ []
  pub here : room.here.items ≡ []
  pub begun_room : count ≤ vec_capacity room.begun
  pub told_room : count ≤ vec_capacity room.told
  pub done_room : count ≤ vec_capacity room.done
  pub back_room : count ≤ vec_capacity room.back
  pub here_room : count ≤ vec_capacity room.here
