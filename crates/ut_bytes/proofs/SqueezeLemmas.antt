-- Squeezing a text, from its parts.
use Rattle.std.proofs.Common.{◌≡◌, ◌==◌, ℕ, List, [], ◌∷◌, ◌++◌, Bool, true, false, Option, None, Some, refl, ap, sym, ◌∙◌, if◌then◌else◌}
use Rattle.std.proofs.lemmas.Bool.{and_parts, eqb-true, true≢false}
use Rattle.ps_lines.specs.Lines.{is_closed}
use Rattle.ut_args.specs.declared.commands.TrArgs.{TrArgs}
use Rattle.ut_options.specs.Rows.{is_among}
use Rattle.ut_bytes.specs.Steps.{is_repeat, squeezed_behind}
use Rattle.ut_bytes.specs.Tr.{last_string, squeezed}

module _ (set : ℕ → Bool) where
  -- the byte that a text leaves before what comes
  abbrev last_byte : Option ℕ → List ℕ → Option ℕ
  last_byte before [] = before
  last_byte before (byte ∷ rest) = last_byte (Some byte) rest

  -- a byte that is kept or not, before what is squeezed behind it
  abbrev kept : Bool → ℕ → List ℕ → List ℕ
  kept repeat byte rest = if repeat then rest else byte ∷ rest

  kept-append : (repeat : Bool) (byte : ℕ) (front back : List ℕ) → kept repeat byte (front ++ back) ≡ kept repeat byte front ++ back
  kept-append true byte front back = refl
  kept-append false byte front back = refl

  squeezed-append : (before : Option ℕ) (front back : List ℕ)
      → squeezed_behind before set (front ++ back) ≡ squeezed_behind before set front ++ squeezed_behind (last_byte before front) set back
  squeezed-append before [] back = refl
  squeezed-append before (byte ∷ front) back =
      ap (kept (is_repeat set before byte) byte) (squeezed-append (Some byte) front back)
      ∙ kept-append (is_repeat set before byte) byte (squeezed_behind (Some byte) set front) (squeezed_behind (last_byte (Some byte) front) set back)

  -- a repeated byte is the one before
  repeated : (before : Option ℕ) (byte : ℕ) → is_repeat set before byte ≡ true → before ≡ Some byte
  repeated None byte is = absurd (true≢false (sym is))
  repeated (Some other) byte is = ap Some (sym (eqb-true byte other (and_parts (set byte) (byte == other) is).1))

  -- squeezing again changes nothing
  again-by : (repeat : Bool) (before : Option ℕ) (byte : ℕ) (rest : List ℕ) → is_repeat set before byte ≡ repeat
      → squeezed_behind (Some byte) set (squeezed_behind (Some byte) set rest) ≡ squeezed_behind (Some byte) set rest
      → squeezed_behind before set (kept repeat byte (squeezed_behind (Some byte) set rest)) ≡ kept repeat byte (squeezed_behind (Some byte) set rest)
  again-by true before byte rest is same = ap (λ before. squeezed_behind before set (squeezed_behind (Some byte) set rest)) (repeated before byte is) ∙ same
  again-by false before byte rest is same =
      ap (λ repeat. kept repeat byte (squeezed_behind (Some byte) set (squeezed_behind (Some byte) set rest))) is ∙ ap (λ rest. byte ∷ rest) same

  squeezed-again : (before : Option ℕ) (text : List ℕ) → squeezed_behind before set (squeezed_behind before set text) ≡ squeezed_behind before set text
  squeezed-again before [] = refl
  squeezed-again before (byte ∷ rest) = again-by (is_repeat set before byte) before byte rest refl (squeezed-again (Some byte) rest)

  last-by : (repeat : Bool) (before : Option ℕ) (byte : ℕ) (rest : List ℕ) → is_repeat set before byte ≡ repeat
      → last_byte (Some byte) (squeezed_behind (Some byte) set rest) ≡ last_byte (Some byte) rest
      → last_byte before (kept repeat byte (squeezed_behind (Some byte) set rest)) ≡ last_byte (Some byte) rest
  last-by true before byte rest is same = ap (λ before. last_byte before (squeezed_behind (Some byte) set rest)) (repeated before byte is) ∙ same
  last-by false before byte rest is same = same

  squeezed-last : (before : Option ℕ) (text : List ℕ) → last_byte before (squeezed_behind before set text) ≡ last_byte before text
  squeezed-last before [] = refl
  squeezed-last before (byte ∷ rest) = last-by (is_repeat set before byte) before byte rest refl (squeezed-last (Some byte) rest)

  -- what was squeezed as if nothing stood before it
  squeezed-begun : (before : Option ℕ) (text : List ℕ) → squeezed_behind before set (squeezed_behind None set text) ≡ squeezed_behind before set text
  squeezed-begun before [] = refl
  squeezed-begun before (byte ∷ rest) = ap (kept (is_repeat set before byte) byte) (squeezed-again (Some byte) rest)

  pub squeezed-parts : (front back : List ℕ)
      → squeezed_behind None set (front ++ back) ≡ squeezed_behind None set (squeezed_behind None set front ++ squeezed_behind None set back)
  squeezed-parts front back =
      squeezed-append None front back
      ∙ sym (squeezed-append None (squeezed_behind None set front) (squeezed_behind None set back)
      ∙ ap (λ front'. front' ++ squeezed_behind (last_byte None (squeezed_behind None set front)) set (squeezed_behind None set back)) (squeezed-again None front)
      ∙ ap (λ last. squeezed_behind None set front ++ squeezed_behind last set (squeezed_behind None set back)) (squeezed-last None front)
      ∙ ap (λ back. squeezed_behind None set front ++ back) (squeezed-begun (last_byte None front) back))

-- and what comes behind a text that is squeezed is squeezed as behind the text
pub squeezed-front : (set : ℕ → Bool) (front back : List ℕ)
    → squeezed_behind None set (squeezed_behind None set front ++ back) ≡ squeezed_behind None set (front ++ back)
squeezed-front set front back =
    squeezed-append set None (squeezed_behind None set front) back
    ∙ (λ i. squeezed-again set None front i ++ squeezed_behind (squeezed-last set None front i) set back)
    ∙ sym (squeezed-append set None front back)

pub squeezed-on : (args : TrArgs) (front back : List ℕ) → squeezed args (squeezed args front ++ back) ≡ squeezed args (front ++ back)
squeezed-on args front back = by_option args.squeezes
  where
    by_option : (squeezes : Bool)
        → (if squeezes then squeezed_behind None (is_among (last_string args.from args.to)) ((if squeezes then squeezed_behind None (is_among (last_string args.from args.to)) front else front) ++ back)
        else (if squeezes then squeezed_behind None (is_among (last_string args.from args.to)) front else front) ++ back)
        ≡ (if squeezes then squeezed_behind None (is_among (last_string args.from args.to)) (front ++ back) else front ++ back)
    by_option true = squeezed-front (is_among (last_string args.from args.to)) front back
    by_option false = refl

-- a text is closed where its last byte, if it has one, is a newline
ends_line : Option ℕ → Bool
ends_line None = true
ends_line (Some byte) = byte == 10

closed-last : (set : ℕ → Bool) (byte : ℕ) (rest : List ℕ) → is_closed (byte ∷ rest) ≡ ends_line (last_byte set (Some byte) rest)
unfolding ends_line
closed-last set byte [] = refl
closed-last set byte (next ∷ rest) = closed-last set next rest

closed-by-last : (set : ℕ → Bool) (text : List ℕ) → is_closed text ≡ ends_line (last_byte set None text)
unfolding ends_line
closed-by-last set [] = refl
closed-by-last set (byte ∷ rest) = closed-last set byte rest

-- and squeezing keeps the last byte
pub squeezed-closed : (set : ℕ → Bool) (text : List ℕ) → is_closed (squeezed_behind None set text) ≡ is_closed text
squeezed-closed set text =
    closed-by-last set (squeezed_behind None set text) ∙ ap ends_line (squeezed-last set None text) ∙ sym (closed-by-last set text)

pub ruleset squeeze_laws = (squeezed-parts)
