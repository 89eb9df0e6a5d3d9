-- What a stream has written and what it still owes. A stream is fed its input in pieces, cut anywhere; these words speak of every way
-- in which the input may go on, and of no piece.
use Rattle.std.specs.Prelude.{◌≡◌, ◌==◌, ℕ, List, [], ◌++◌, Bool, true, false, map, if◌then◌else◌}
use Rattle.std.specs.Global.{Vec}
use Rattle.std.specs.List.{concat}
use Rattle.ps_lines.specs.Lines.{has_newline, is_closed}
use Rattle.ps_lines.specs.Texts.{BeginsWith, texts_of}

-- old grew to new: however the input goes on, what was due before is what was written and what is due now; where memory was
-- wanted, a front of what was due was written
pub record Wrote {Input : Type 0} (was now : Input → List ℕ) (old new : List ℕ) (whole : Bool) : Type 0 where
  pub kept : BeginsWith new old
  pub grew : whole ≡ true → (more : Input) → new ++ now more ≡ old ++ was more
  pub part : (more : Input) → BeginsWith (old ++ was more) new

-- old grew to new by this text, and by a front of it where memory was wanted
pub record Put (text old new : List ℕ) (whole : Bool) : Type 0 where
  pub kept : BeginsWith new old
  pub grew : whole ≡ true → new ≡ old ++ text
  pub part : BeginsWith (old ++ text) new

-- the text is these whole lines, and then the beginning of a line
pub record CutsLastLine (text closed rest : List ℕ) : Type 0 where
  pub whole : text ≡ closed ++ rest
  pub ends : is_closed closed ≡ true
  pub plain : has_newline rest ≡ false

-- the whole texts of inputs that come in pieces
abbrev pub whole_texts : List (Vec (Vec ℕ)) → List (List ℕ)
whole_texts inputs = map (λ (input : Vec (Vec ℕ)). concat (texts_of input.items)) inputs

-- the texts that come at all ports, where this piece comes before what follows at one, and where one has ended
abbrev pub comes_before : ℕ → List ℕ → (ℕ → List ℕ) → ℕ → List ℕ
comes_before port piece texts other = if other == port then piece ++ texts other else texts other

abbrev pub ends_at : ℕ → (ℕ → List ℕ) → ℕ → List ℕ
ends_at port texts other = if other == port then [] else texts other
