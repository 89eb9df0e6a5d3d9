-- What the bytes of a text and the runs at its beginning are, by its first byte behind removed backslash-newlines; and how much is left.
use Rattle.std.proofs.Common.{◌≡◌, ◌<◌, ◌≤◌, ℕ, Bool, true, false, List, [], ◌∷◌, ◌++◌, ◌==◌, ◌&&◌, if◌then◌else◌, length, refl, sym, ◌∙◌, ap, append_assoc, arith}
use Rattle.std.proofs.lemmas.List.{append-nil}
use Rattle.ps_lines.specs.Bytes.{is_name_start, is_name_byte}
use Rattle.sh_lex.specs.Texts.{fronts, from_first, unspliced, passing, run, behind_passing, behind_run}
use Rattle.sh_lex.specs.declared.bytes.TheConstants.{BACKSLASH, NEWLINE}

none_from : (all : List (ℕ × List ℕ)) → from_first all ≡ [] → all ≡ []
none_from [] h = refl
none_from (first ∷ rest) h = cc

-- at the end of a text
pub fronts-none : (text : List ℕ) → unspliced text ≡ [] → fronts text ≡ []
unfolding unspliced
fronts-none text h = none_from (fronts text) h

-- behind the first byte those of what is left behind it follow
same_pair : (one other : ℕ × List ℕ) (byte : ℕ) (rest : List ℕ) → one ≡ other → other.0 ≡ byte → other.1 ≡ rest
    → (one.0 ≡ byte) × (one.1 ≡ rest)
same_pair one other byte rest e h k = (ap (λ p. p.0) e ∙ h, ap (λ p. p.1) e ∙ k)

fronts_if : (test : Bool) (first byte : ℕ) (behind rest : List ℕ) (more : List (ℕ × List ℕ))
    → (from_first more ≡ byte ∷ rest → more ≡ (byte, rest) ∷ fronts rest)
    → from_first (if test then more else (first, behind) ∷ fronts behind) ≡ byte ∷ rest
    → (if test then more else (first, behind) ∷ fronts behind) ≡ (byte, rest) ∷ fronts rest
fronts_if true first byte behind rest more on h = on h
fronts_if false first byte behind rest more on h =
    let byte_is : first ≡ byte = cc in
    let rest_is : behind ≡ rest = cc in
    rw (byte_is, rest_is) refl

pub fronts-more : (byte : ℕ) (rest text : List ℕ) → unspliced text ≡ byte ∷ rest → fronts text ≡ (byte, rest) ∷ fronts rest
unfolding unspliced fronts
fronts-more byte rest [] h = cc
fronts-more byte rest (first ∷ []) h =
    let byte_is : first ≡ byte = cc in
    let rest_is : [] ≡ rest = cc in
    rw (byte_is, sym rest_is) refl
fronts-more byte rest (first ∷ second ∷ text) h =
    fronts_if ((first == BACKSLASH) && (second == NEWLINE)) first byte (second ∷ text) rest (fronts text) (fronts-more byte rest text) h

module _ (passes : ℕ → Bool) where
  -- at the end of a text, at a byte that passes, and at another one
  pub run-none : (text : List ℕ) → unspliced text ≡ [] → run passes text ≡ []
  unfolding run
  run-none text h = ap (passing passes) (fronts-none text h)

  pub run-byte : (byte : ℕ) (rest text : List ℕ) → unspliced text ≡ byte ∷ rest → passes byte ≡ true
      → run passes text ≡ byte ∷ run passes rest
  unfolding run
  run-byte byte rest text h d = ap (passing passes) (fronts-more byte rest text h) ∙ (simp d)

  pub run-other : (byte : ℕ) (rest text : List ℕ) → unspliced text ≡ byte ∷ rest → passes byte ≡ false → run passes text ≡ []
  unfolding run
  run-other byte rest text h d = ap (passing passes) (fronts-more byte rest text h) ∙ (simp d)

  pub behind_run-none : (text : List ℕ) → unspliced text ≡ [] → behind_run passes text ≡ text
  unfolding behind_run
  behind_run-none text h = ap (behind_passing passes text) (fronts-none text h)

  pub behind_run-byte : (byte : ℕ) (rest text : List ℕ) → unspliced text ≡ byte ∷ rest → passes byte ≡ true
      → behind_run passes text ≡ behind_run passes rest
  unfolding behind_run
  behind_run-byte byte rest text h d = ap (behind_passing passes text) (fronts-more byte rest text h) ∙ (simp d)

  pub behind_run-other : (byte : ℕ) (rest text : List ℕ) → unspliced text ≡ byte ∷ rest → passes byte ≡ false
      → behind_run passes text ≡ text
  unfolding behind_run
  behind_run-other byte rest text h d = ap (behind_passing passes text) (fronts-more byte rest text h) ∙ (simp d)

  -- where the run ends, the bytes so far are all
  run_ends : (done rest whole : List ℕ) → run passes rest ≡ [] → done ++ run passes rest ≡ whole → done ≡ whole
  run_ends done rest whole none h = sym (append-nil done) ∙ ap (λ x. done ++ x) (sym none) ∙ h

  pub run_ends_none : (done rest whole : List ℕ) → unspliced rest ≡ [] → done ++ run passes rest ≡ whole → done ≡ whole
  run_ends_none done rest whole e h = run_ends done rest whole (run-none rest e) h

  pub run_ends_other : (byte : ℕ) (after done rest whole : List ℕ) → unspliced rest ≡ byte ∷ after → passes byte ≡ false
      → done ++ run passes rest ≡ whole → done ≡ whole
  run_ends_other byte after done rest whole e d h = run_ends done rest whole (run-other byte after rest e d) h

  -- where it goes on, there is one more
  pub run_goes_on : (byte : ℕ) (after done rest whole : List ℕ) → unspliced rest ≡ byte ∷ after → passes byte ≡ true
      → done ++ run passes rest ≡ whole → (done ++ byte ∷ []) ++ run passes after ≡ whole
  run_goes_on byte after done rest whole e d h =
      append_assoc done (byte ∷ []) (run passes after) ∙ ap (λ x. done ++ x) (sym (run-byte byte after rest e d)) ∙ h

pub ruleset runs = (run-none, run-byte, run-other, behind_run-none, behind_run-byte, behind_run-other)

-- a name goes on behind its first byte
pub run-name : (byte : ℕ) (rest text : List ℕ) → unspliced text ≡ byte ∷ rest → is_name_start byte ≡ true
    → run is_name_byte text ≡ byte ∷ run is_name_byte rest
run-name byte rest text h start = run-byte is_name_byte byte rest text h (simp start)

pub behind_run-name : (byte : ℕ) (rest text : List ℕ) → unspliced text ≡ byte ∷ rest → is_name_start byte ≡ true
    → behind_run is_name_byte text ≡ behind_run is_name_byte rest
behind_run-name byte rest text h start = behind_run-byte is_name_byte byte rest text h (simp start)

pub ruleset names = (run-name, behind_run-name)

-- removed backslash-newlines leave no more
length-from_first_if : (test : Bool) (first count : ℕ) (behind : List ℕ) (one two : List (ℕ × List ℕ)) → length (from_first one) ≤ count
    → length behind < count → length (from_first (if test then one else (first, behind) ∷ two)) ≤ count
length-from_first_if true first count behind one two h k = h
length-from_first_if false first count behind one two h k = omega arith

length-unspliced_within : (count : ℕ) (text : List ℕ) → length text ≤ count → length (unspliced text) ≤ count
unfolding unspliced fronts
length-unspliced_within count [] h = omega arith
length-unspliced_within count (first ∷ []) h = h
length-unspliced_within count (first ∷ second ∷ text) h =
    length-from_first_if ((first == BACKSLASH) && (second == NEWLINE)) first count (second ∷ text) (fronts text) (fronts (second ∷ text))
    (length-unspliced_within count text (omega arith)) (omega arith)

pub length-unspliced : (text : List ℕ) → length (unspliced text) ≤ length text
length-unspliced text = length-unspliced_within (length text) text (omega arith)

-- a run leaves no more
length-behind_if : (passes : ℕ → Bool) (test : Bool) (first count : ℕ) (end behind : List ℕ) (one two : List (ℕ × List ℕ))
    → length (behind_passing passes end one) ≤ count → length (behind_passing passes behind two) ≤ count → length end ≤ count
    → length (behind_passing passes end (if test then one else (first, behind) ∷ two)) ≤ count
length-behind_if passes true first count end behind one two h k m = h
length-behind_if passes false first count end behind one two h k m = length-choice (passes first) (behind_passing passes behind two) end count k m
  where
    length-choice : (test : Bool) (left right : List ℕ) (count : ℕ) → length left ≤ count → length right ≤ count
        → length (if test then left else right) ≤ count
    length-choice true left right count h k = h
    length-choice false left right count h k = k

length-behind_passing : (passes : ℕ → Bool) (count : ℕ) (end text : List ℕ) → length end ≤ count → length text ≤ count
    → length (behind_passing passes end (fronts text)) ≤ count
unfolding fronts
length-behind_passing passes count end [] h k = h
length-behind_passing passes count end (first ∷ []) h k =
    length-behind_if passes false first count end [] [] [] h (omega arith) h
length-behind_passing passes count end (first ∷ second ∷ text) h k =
    length-behind_if passes ((first == BACKSLASH) && (second == NEWLINE)) first count end (second ∷ text) (fronts text)
    (fronts (second ∷ text)) (length-behind_passing passes count end text h (omega arith))
    (length-behind_passing passes count (second ∷ text) (second ∷ text) (omega arith) (omega arith)) h

pub length-behind_run : (passes : ℕ → Bool) (text : List ℕ) → length (behind_run passes text) ≤ length text
unfolding behind_run
length-behind_run passes text = length-behind_passing passes (length text) text text (omega arith) (omega arith)
