-- A matcher's way along a line.
use Rattle.std.proofs.Common.{ℕ, ◌≡◌, ◌+◌, ◌<◌, ◌≤◌, ◌↔◌, inl, inr, Bool, true, false, not, ◌||◌, ◌==◌, List, [], ◌∷◌, ◌++◌, length, reverse, slice_index_or, refl, ap, sym, ◌∙◌, subst, arith, append-nil}
use Rattle.std.proofs.lemmas.Bool.Decides.{Decides-eqb, leb_tells}
use Rattle.std.proofs.lemmas.Bool.{ne_eqb}
use Rattle.ut_regex.specs.declared.program.Op.{Op}
use Rattle.ut_regex.specs.Tree.{Tree}
use Rattle.ut_regex.specs.Spans.{Spans, Has}
use Rattle.ut_regex.specs.Inner.Program.{Core, point, at_begin, at_end, nothing, both, either, many, maybe, core, steps}
use Rattle.ut_regex.specs.Inner.Sweeps.{sunk}
use Rattle.ut_regex.specs.Inner.Seeks.{swept, leads_on, marked}
use Rattle.ut_regex.proofs.Marks.{shape, marks, skips, closes, passes, entering, Runs, Behind, Right}
use Rattle.ut_regex.proofs.CoreLemmas.{or_cases, or_first, or_second, shape-entering, passes_sound, passes_complete, entering_right, shape_right}
use Rattle.ut_regex.proofs.TreeLemmas.{core_sound, core_complete, shape-core}
use Rattle.ut_regex.proofs.SweepLemmas.{Holds, Holds-marks, Holds-shape, kept, back, risen-steps, reverse-steps, sunk-back}

-- the places at which the expression may begin
abbrev pub Enters : Bool → ℕ → Type 0
Enters true place = place ≡ 0
Enters false place = Unit {0}

-- the test of such a place
abbrev pub entry : Bool → ℕ → Bool
entry whole place = (place == 0) || not whole

entry_sound : (whole : Bool) (place : ℕ) → entry whole place ≡ true → Enters whole place
entry_sound true place h = elim (or_cases (place == 0) false h) [ inl at ↦ (Decides-eqb place 0).0 at | inr at ↦ absurd (cc) ]
entry_sound false place h = tt

entry_complete : (whole : Bool) (place : ℕ) → Enters whole place → entry whole place ≡ true
entry_complete true place h = or_first (place == 0) false ((Decides-eqb place 0).1 h)
entry_complete false place h = or_second (place == 0) true refl

-- the marks that are there at a place, and that no way led on before
pub record Scanned (fold whole : Bool) (re : Tree) (line : List ℕ) (bits : List Bool) (place : ℕ) : Type 0 where
  pub program : Core
  pub form : shape program ≡ core re
  pub held : Holds program bits []
  pub right : Right fold line program (Enters whole) place
  pub none : (to : ℕ) → to < place → whole ≡ false → Behind fold line program (Enters whole) to → ⊥

-- the steps go by the shape
steps-shape : (program : Core) → steps (shape program) ≡ steps program
steps-shape (point one mark) = refl
steps-shape at_begin = refl
steps-shape at_end = refl
steps-shape nothing = refl
steps-shape (both first second) = let a = steps-shape first in let b = steps-shape second in cc
steps-shape (either first second) = let a = steps-shape first in let b = steps-shape second in cc
steps-shape (many part) = let a = steps-shape part in cc
steps-shape (maybe part) = let a = steps-shape part in cc

module _ (fold whole : Bool) (re : Tree) (line : List ℕ) where
  -- at the line's beginning
  pub scan_start : Scanned fold whole re line [] 0
  scan_start = record {
    program = core re;
    form = shape-core re;
    held = subst (λ program. Holds program [] []) (shape-core re) (Holds-shape (core re));
    right = subst (λ program. Right fold line program (Enters whole) 0) (shape-core re) (shape_right fold line (core re) (Enters whole));
    none = λ to earlier. absurd (omega arith);
  }

  module _ (bits : List Bool) (place : ℕ) (scanned : Scanned fold whole re line bits place) where
    abbrev program : Core
    program = scanned.program

    same_steps : steps (core re) ≡ steps program
    same_steps = ap steps (sym scanned.form) ∙ steps-shape program

    -- the sweep up finds what the program's marks say
    swept_is : (begins ends : Bool) → swept begins ends (steps (core re)) bits
        ≡ record { values = skips begins ends program ∷ closes begins ends program ∷ []; marks = []; kept = kept begins ends program ++ [] }
    swept_is begins ends =
        ap (λ all. swept begins ends all bits) (same_steps ∙ sym (append-nil (steps program)))
        ∙ risen-steps begins ends program [] [] bits [] [] scanned.held

    leads_is : (begins ends entered : Bool) → leads_on entered (swept begins ends (steps (core re)) bits) ≡ passes begins ends entered program
    leads_is begins ends entered = ap (λ s. leads_on entered s) (swept_is begins ends)

    marked_is : (begins ends entered : Bool) (byte : ℕ)
        → marked fold byte entered (steps (core re)) (swept begins ends (steps (core re)) bits).kept
        ≡ marks (entering begins ends fold byte entered program) ++ []
    marked_is begins ends entered byte =
        ap (λ s. marked fold byte entered (steps (core re)) s.kept) (swept_is begins ends)
        ∙ ap (λ all. (sunk fold byte all (record { entries = entered ∷ []; kept = kept begins ends program ++ []; marks = [] })).marks)
        (ap reverse same_steps ∙ reverse-steps program ∙ sym (append-nil (back program)))
        ∙ ap (λ s. s.marks) (sunk-back begins ends fold byte entered program [] [] [] [])

    -- the marks behind the byte at the place, where the line doesn't have the expression up to there
    pub scan_step : place < length line → (whole ≡ false → passes (place == 0) false (entry whole place) program ≡ false)
        → Scanned fold whole re line
        (marks (entering (place == 0) false fold (slice_index_or line place 0) (entry whole place) program) ++ []) (place + 1)
    scan_step within quiet =
        let e : (place == length line) ≡ false = ne_eqb place (length line) (λ same. omega (arith, same)) in
        let next : Core = entering (place == 0) false fold (slice_index_or line place 0) (entry whole place) program in
        let form : shape next ≡ shape program =
        shape-entering (place == 0) false fold (slice_index_or line place 0) (entry whole place) program in
        record {
          program = next;
          form = form ∙ scanned.form;
          held = Holds-marks next [];
          right = subst (λ ends. Right fold line
              (entering (place == 0) ends fold (slice_index_or line place 0) (entry whole place) program) (Enters whole) (place + 1)) e
              (entering_right fold line place program (Enters whole) (entry whole place) within scanned.right
              (entry_sound whole place) (entry_complete whole place));
          none = λ to earlier anywhere behind.
              let came : Behind fold line program (Enters whole) to =
              (behind.0, behind.1, subst (λ p. Runs fold line p behind.0 to) form behind.2) in
              elim (leb_tells place to) [
                | inl here ↦
                    let at : to ≡ place = omega (arith, here.1) in
                    let led = passes_complete fold line place program (Enters whole) (entry whole place) scanned.right
                    (entry_complete whole place) (subst (λ p. Behind fold line program (Enters whole) p) at came) in
                    let calm = quiet anywhere in
                    let led_here : passes (place == 0) false (entry whole place) program ≡ true =
                    subst (λ ends. passes (place == 0) ends (entry whole place) program ≡ true) e led in
                    absurd (cc)
                | inr before ↦ scanned.none to before.1 anywhere came
              ];
        }

    -- where the way leads on, the expression ends here, and the other way round
    pub leads_sound : (ends : Bool) → (place == length line) ≡ ends → passes (place == 0) ends (entry whole place) program ≡ true
        → Behind fold line program (Enters whole) place
    leads_sound ends e h =
        passes_sound fold line place program (Enters whole) (entry whole place) scanned.right (entry_sound whole place)
        (subst (λ b. passes (place == 0) b (entry whole place) program ≡ true) (sym e) h)

    pub leads_complete : (ends : Bool) → (place == length line) ≡ ends → Behind fold line program (Enters whole) place
        → passes (place == 0) ends (entry whole place) program ≡ true
    leads_complete ends e h =
        subst (λ b. passes (place == 0) b (entry whole place) program ≡ true) e
        (passes_complete fold line place program (Enters whole) (entry whole place) scanned.right (entry_complete whole place) h)

-- an expression that ends at a place of the line is had by the line, where it may be a part
pub has_part : (fold : Bool) (re : Tree) (line : List ℕ) (bits : List Bool) (place : ℕ) (scanned : Scanned fold false re line bits place)
    → place ≤ length line → Behind fold line scanned.program (Enters false) place → Has fold false line re
has_part fold re line bits place scanned within h =
    (h.0, place, within, core_sound fold line re h.0 place (subst (λ p. Runs fold line p h.0 place) scanned.form h.2))

-- at the line's end the answer is known
pub has_sound : (fold whole : Bool) (re : Tree) (line : List ℕ) (bits : List Bool) (scanned : Scanned fold whole re line bits (length line))
    → Behind fold line scanned.program (Enters whole) (length line) → Has fold whole line re
has_sound fold true re line bits scanned h =
    let run = core_sound fold line re h.0 (length line) (subst (λ p. Runs fold line p h.0 (length line)) scanned.form h.2) in
    subst (λ from. Spans fold line re from (length line)) h.1 run
has_sound fold false re line bits scanned h = has_part fold re line bits (length line) scanned (omega arith) h

pub has_complete : (fold whole : Bool) (re : Tree) (line : List ℕ) (bits : List Bool) (scanned : Scanned fold whole re line bits (length line))
    → Has fold whole line re → Behind fold line scanned.program (Enters whole) (length line)
has_complete fold true re line bits scanned h =
    (0, refl, subst (λ p. Runs fold line p 0 (length line)) (sym scanned.form) (core_complete fold line re 0 (length line) h))
has_complete fold false re line bits scanned (from, to, within, h) =
    let run : Runs fold line (shape scanned.program) from to =
    subst (λ p. Runs fold line p from to) (sym scanned.form) (core_complete fold line re from to h) in
    elim (leb_tells (length line) to) [
      | inl here ↦
          let at : to ≡ length line = omega (arith, here.1, within) in
          (from, tt, subst (λ p. Runs fold line (shape scanned.program) from p) at run)
      | inr before ↦ absurd (scanned.none to before.1 refl (from, tt, run))
    ]

-- what the matcher's own fields make of it
pub led_is : (fold whole : Bool) (re : Tree) (line bits : List _) (place : ℕ) (scanned : Scanned fold whole re line bits place)
    → (ops : List Op) (own_whole ends led : Bool) → ops ≡ steps (core re) → own_whole ≡ whole
    → led ≡ leads_on ((place == 0) || not own_whole) (swept (place == 0) ends ops bits)
    → led ≡ passes (place == 0) ends (entry whole place) scanned.program
led_is fold whole re line bits place scanned ops own_whole ends led program is_whole is =
    is
    ∙ ap (λ all. leads_on ((place == 0) || not own_whole) (swept (place == 0) ends all bits)) program
    ∙ ap (λ w. leads_on ((place == 0) || not w) (swept (place == 0) ends (steps (core re)) bits)) is_whole
    ∙ leads_is fold whole re line bits place scanned (place == 0) ends (entry whole place)

pub scanned_on : (fold whole : Bool) (re : Tree) (line bits : List _) (place : ℕ) → Scanned fold whole re line bits place
    → (ops : List Op) (own_fold own_whole led : Bool) (left new : List Bool) → ops ≡ steps (core re) → own_fold ≡ fold → own_whole ≡ whole
    → place < length line
    → led ≡ leads_on ((place == 0) || not own_whole) (swept (place == 0) false ops bits)
    → (own_whole ≡ false → led ≡ false)
    → left ≡ (swept (place == 0) false ops bits).kept
    → new ≡ marked own_fold (slice_index_or line place 0) ((place == 0) || not own_whole) ops left
    → Scanned fold whole re line new (place + 1)
scanned_on fold whole re line bits place scanned ops own_fold own_whole led left new program folds is_whole within is quiet left_is new_is =
    let there : new ≡ marks (entering (place == 0) false fold (slice_index_or line place 0) (entry whole place) scanned.program) ++ [] =
    new_is
    ∙ ap (λ kept. marked own_fold (slice_index_or line place 0) ((place == 0) || not own_whole) ops kept) left_is
    ∙ ap (λ all. marked own_fold (slice_index_or line place 0) ((place == 0) || not own_whole) all (swept (place == 0) false all bits).kept) program
    ∙ ap (λ f. marked f (slice_index_or line place 0) ((place == 0) || not own_whole) (steps (core re)) (swept (place == 0) false (steps (core re)) bits).kept) folds
    ∙ ap (λ w. marked fold (slice_index_or line place 0) ((place == 0) || not w) (steps (core re)) (swept (place == 0) false (steps (core re)) bits).kept) is_whole
    ∙ marked_is fold whole re line bits place scanned (place == 0) false (entry whole place) (slice_index_or line place 0) in
    subst (λ now. Scanned fold whole re line now (place + 1)) (sym there)
    (scan_step fold whole re line bits place scanned within
    (λ part. sym (led_is fold whole re line bits place scanned ops own_whole false led program is_whole is) ∙ quiet (is_whole ∙ part)))

-- an answer before the line's end
pub has_early : (fold whole : Bool) (re : Tree) (line bits : List _) (place : ℕ) (scanned : Scanned fold whole re line bits place)
    → whole ≡ false → place < length line → passes (place == 0) false (entry whole place) scanned.program ≡ true → Has fold whole line re
has_early fold true re line bits place scanned part within led = absurd (cc)
has_early fold false re line bits place scanned part within led =
    has_part fold re line bits place scanned (omega arith)
    (leads_sound fold false re line bits place scanned false (ne_eqb place (length line) (λ same. omega (arith, same))) led)

-- the answer at the line's end
pub has_last : (fold whole : Bool) (re : Tree) (line bits : List _) (place : ℕ) → Scanned fold whole re line bits place → place ≡ length line
    → (ops : List Op) (own_whole begins led : Bool) → ops ≡ steps (core re) → own_whole ≡ whole → begins ≡ (length line == 0)
    → led ≡ leads_on (begins || not own_whole) (swept begins true ops bits)
    → (led ≡ true) ↔ Has fold whole line re
has_last fold whole re line bits place scanned_there at ops own_whole begins led program is_whole begins_is is =
    let scanned = subst (λ p. Scanned fold whole re line bits p) at scanned_there in
    let last : (length line == length line) ≡ true = (Decides-eqb (length line) (length line)).1 refl in
    let led_there : led ≡ passes (length line == 0) true (entry whole (length line)) scanned.program =
    led_is fold whole re line bits (length line) scanned ops own_whole true led program is_whole
    (is ∙ ap (λ b. leads_on (b || not own_whole) (swept b true ops bits)) begins_is) in (
      λ h. has_sound fold whole re line bits scanned
          (leads_sound fold whole re line bits (length line) scanned true last (sym led_there ∙ h)),
      λ h. led_there ∙ leads_complete fold whole re line bits (length line) scanned true last (has_complete fold whole re line bits scanned h),
    )
