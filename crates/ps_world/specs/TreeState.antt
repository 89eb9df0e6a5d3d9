-- What a tree is to its callers.
use Rattle.std.specs.Prelude.{◌≡◌, ℕ, zero, suc, List, Option, IfSome}
use Rattle.std.specs.FinMap as map
use Rattle.std.specs.Option.{option_map}
use Rattle.ps_world.specs.Counts.{one_more}
use Rattle.ps_world.specs.Paths.{Components}
use Rattle.ps_world.specs.Files.{Files, Node, Bytes, WriterOut}

-- the working directory, the files where they are told, and how many readers and writers were lent and given back
pub record TreeState : Type 0 where
  pub home : Components
  pub held : Option Files
  pub lent : ℕ
  pub back : ℕ

-- a reader or writer is lent
abbrev pub lend : TreeState → TreeState
lend state = record state { lent = one_more state.lent }

-- a reader or writer is given back
abbrev pub take_back : TreeState → TreeState
take_back state = record state { back = one_more state.back }

-- this stands at the path now
abbrev pub place : Components → Node → TreeState → TreeState
place path node state = record state { held = option_map (λ files. map.insert files path node) state.held }

-- the writer of a file is out
abbrev pub take_out : Components → TreeState → TreeState
take_out path state = place path WriterOut state

-- a file of these bytes is there
abbrev pub fill : Components → List ℕ → TreeState → TreeState
fill path bytes state = place path (Bytes bytes) state

-- a writer was given back, and what it had taken is the file now; where this isn't told, some bytes are
pub record IsFilled (path : Components) (taken : Option (List ℕ)) (old new : TreeState) : Type 0 where
  pub bytes : List ℕ
  pub told : IfSome taken (λ written. bytes ≡ written)
  pub state : new ≡ take_back (fill path bytes old)

-- so many times one more
abbrev pub raised : ℕ → ℕ → ℕ
raised zero count = count
raised (suc times) count = raised times (one_more count)

-- readers were lent, and every one was given back; nothing else changed
pub record OnlyLent (old new : TreeState) : Type 0 where
  pub home : new.home ≡ old.home
  pub held : new.held ≡ old.held
  pub times : ℕ
  pub lent : new.lent ≡ raised times old.lent
  pub back : new.back ≡ raised times old.back

-- so many of the readers and writers that were lent are still out, and all others were given back; what the files hold is left open
pub record AreOut (count : ℕ) (old new : TreeState) : Type 0 where
  pub home : new.home ≡ old.home
  pub times : ℕ
  pub lent : new.lent ≡ raised times (raised count old.lent)
  pub back : new.back ≡ raised times old.back

-- every reader and writer that was lent was given back; what the files hold is left open
abbrev pub Balanced : TreeState → TreeState → Type 0
Balanced old new = AreOut 0 old new
