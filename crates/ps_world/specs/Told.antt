-- Content where an object tells it: Some of the bytes, or None, which says nothing.
use Rattle.std.specs.Prelude.{◌≡◌, ℕ, ◌<◌, ◌≤◌, List, [], ◌∷◌, ◌++◌, Bool, false, length, Option, if◌then◌else◌}
use Rattle.ps_lines.specs.Lines.{has_newline}
use Rattle.ps_lines.specs.declared.newlines.TheConstants.{NEWLINE}
use Rattle.std.specs.Option.{option_map}

-- the bytes that are told, and these after them
abbrev pub then_bytes : Option (List ℕ) → List ℕ → Option (List ℕ)
then_bytes told bytes = option_map (λ before. before ++ bytes) told

-- these bytes, and after them those that are told
abbrev pub bytes_then : List ℕ → Option (List ℕ) → Option (List ℕ)
bytes_then bytes told = option_map (λ after. bytes ++ after) told

-- what is told has grown by the text up to this rest of it
pub record Written (old new : Option (List ℕ)) (text rest : List ℕ) : Type 0 where
  pub part : List ℕ
  pub whole : text ≡ part ++ rest
  pub grew : new ≡ then_bytes old part

-- what is told has grown by a prefix of the text
abbrev pub GrewByPrefix : Option (List ℕ) → Option (List ℕ) → List ℕ → Type 0
GrewByPrefix old new text = (rest : List ℕ) × Written old new text rest

-- what is told now is the end of what was told before
abbrev pub IsLeftOf : Option (List ℕ) → Option (List ℕ) → Type 0
IsLeftOf old new = (given : List ℕ) × (old ≡ bytes_then given new)

-- nothing is left, where it is told
abbrev pub IsEnded : Option (List ℕ) → Type 0
IsEnded told = told ≡ option_map (λ _. []) told

-- so many bytes went from what was left to the end of the text
pub record HandsOn (left_old left_new : Option (List ℕ)) (text_old text_new : List ℕ) (count : ℕ) : Type 0 where
  pub part : List ℕ
  pub size : length part ≡ count
  pub from : left_old ≡ bytes_then part left_new
  pub to : text_new ≡ text_old ++ part

-- the text is the first bytes of what was left, and this is left of it: at most so many bytes, and all where there were fewer
pub record IsFront (old new : Option (List ℕ)) (text : List ℕ) (most : ℕ) : Type 0 where
  pub before : old ≡ bytes_then text new
  pub within : length text ≤ most
  pub ended : length text < most → IsEnded new

-- the text is all that was left
pub record IsWhole (old new : Option (List ℕ)) (text : List ℕ) : Type 0 where
  pub before : old ≡ bytes_then text new
  pub ended : IsEnded new

-- a front of the first line of what was left was put behind the text: so many of its bytes, and no newline
pub record TookOfLine (old new : Option (List ℕ)) (text_old text_new : List ℕ) : Type 0 where
  pub part : List ℕ
  pub to : text_new ≡ text_old ++ part
  pub plain : has_newline part ≡ false
  pub from : old ≡ bytes_then part new

-- the first line of what was left was put behind the text, and its newline was taken too where it has one; else nothing is left
pub record TookLine (old new : Option (List ℕ)) (text_old text_new : List ℕ) (closed : Bool) : Type 0 where
  pub line : List ℕ
  pub to : text_new ≡ text_old ++ line
  pub plain : has_newline line ≡ false
  pub from : old ≡ bytes_then (if closed then line ++ NEWLINE ∷ [] else line) new
  pub ended : closed ≡ false → IsEnded new
