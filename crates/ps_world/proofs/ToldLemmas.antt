-- Content where it is told.
use Rattle.std.proofs.Common.{◌≡◌, ℕ, List, [], ◌++◌, ◌-◌, length, take, drop, Option, Some, None, refl, sym, ap, ◌∙◌, append_assoc, Result, Ok, Err, OnErr, subst}
use Rattle.ps_lines.specs.Texts.{BeginsWith}
use Rattle.ps_lines.proofs.TextsLemmas.{begins-append}
use Rattle.std.proofs.lemmas.List.{append-nil, take_rest, take-append-drop}
use Rattle.ps_world.specs.Told.{then_bytes, bytes_then, Written, GrewByPrefix, IsLeftOf}

pub then_bytes-nil : (told : Option (List ℕ)) → then_bytes told [] ≡ told
then_bytes-nil None = refl
then_bytes-nil (Some bytes) = ap Some (append-nil bytes)

pub bytes_then-nil : (told : Option (List ℕ)) → bytes_then [] told ≡ told
bytes_then-nil None = refl
bytes_then-nil (Some bytes) = refl

-- bytes after bytes
pub then_bytes-append : (told : Option (List ℕ)) (first second : List ℕ) → then_bytes (then_bytes told first) second ≡ then_bytes told (first ++ second)
then_bytes-append None first second = refl
then_bytes-append (Some bytes) first second = ap Some (append_assoc bytes first second)

pub bytes_then-append : (told : Option (List ℕ)) (first second : List ℕ) → bytes_then first (bytes_then second told) ≡ bytes_then (first ++ second) told
bytes_then-append None first second = refl
bytes_then-append (Some bytes) first second = ap Some (sym (append_assoc first second bytes))

-- a text before anything of it is written
pub written_none : (told : Option (List ℕ)) (text : List ℕ) → Written told told text text
written_none told text = record { part = []; whole = refl; grew = sym (then_bytes-nil told) }

-- a further front of what is left is written
pub written_more : (old mid new : Option (List ℕ)) (text left : List ℕ) (count : ℕ) → Written old mid text left → new ≡ then_bytes mid (take count left)
    → Written old new text (take (length left - count) (drop count left))
written_more old mid new text left count written grew =
    record {
      part = written.part ++ take count left;
      whole = rw take_rest (written.whole ∙ ap (λ (rest : List ℕ). written.part ++ rest) (sym (take-append-drop count left)) ∙ sym (append_assoc written.part (take count left) (drop count left)));
      grew = grew ∙ ap (λ (told : Option (List ℕ)). then_bytes told (take count left)) written.grew ∙ then_bytes-append old written.part (take count left);
    }

-- what is left of what is left
pub left_of-left : (old mid new : Option (List ℕ)) (text : List ℕ) → old ≡ bytes_then text mid → IsLeftOf mid new → IsLeftOf old new
left_of-left old mid new text before left =
    (text ++ left.0, before ∙ ap (bytes_then text) left.1 ∙ bytes_then-append new text left.0)

-- what holds anyway holds after an error
pub on_any_err : {T E : Type 0} {P : Type 0} (result : Result T E) → P → OnErr result P
on_any_err (Ok value) holds = tt
on_any_err (Err error) holds = holds

-- nothing of a text is a prefix of it
pub grew_by_nothing : (told : Option (List ℕ)) (text : List ℕ) → GrewByPrefix told told text
grew_by_nothing told text = (text, written_none told text)

-- the whole text is a prefix of it
pub grew_by_whole : (old new : Option (List ℕ)) (text : List ℕ) → new ≡ then_bytes old text → GrewByPrefix old new text
grew_by_whole old new text grew = ([], record { part = text; whole = sym (append-nil text); grew = grew })

-- a prefix of a front of the text is a prefix of the text
pub grew_by_front : (old new : Option (List ℕ)) (front back : List ℕ) → GrewByPrefix old new front → GrewByPrefix old new (front ++ back)
grew_by_front old new front back grew = (
  grew.0 ++ back,
  record {
    part = grew.1.part;
    whole = ap (λ (text : List ℕ). text ++ back) grew.1.whole ∙ append_assoc grew.1.part grew.0 back;
    grew = grew.1.grew;
  },
)

-- a front of the text, and then a prefix of what is behind it
pub grew_by_more : (old mid new : Option (List ℕ)) (front back : List ℕ) → mid ≡ then_bytes old front → GrewByPrefix mid new back
    → GrewByPrefix old new (front ++ back)
grew_by_more old mid new front back first grew = (
  grew.0,
  record {
    part = front ++ grew.1.part;
    whole = ap (λ (text : List ℕ). front ++ text) grew.1.whole ∙ sym (append_assoc front grew.1.part grew.0);
    grew = grew.1.grew ∙ ap (λ (told : Option (List ℕ)). then_bytes told grew.1.part) first ∙ then_bytes-append old front grew.1.part;
  },
)

-- a text begins with its first bytes, however many are taken
pub begins-take : (count : ℕ) (text : List ℕ) → BeginsWith text (take count text)
begins-take count text =
    let split : take count text ++ drop count text ≡ text = take-append-drop count text in
    subst (λ (whole : List ℕ). BeginsWith whole (take count text)) split (begins-append (take count text) (drop count text))
