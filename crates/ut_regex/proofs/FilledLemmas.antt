-- Tables that are filled as texts are run over.
use Rattle.std.proofs.Common.{ℕ, zero, suc, ◌≡◌, ◌≢◌, ◌+◌, ◌*◌, ◌<◌, ◌≤◌, ◌==◌, ◌&&◌, not, inl, inr, Option, Some, None, IfSome, Bool, true, false, List, [], ◌∷◌, ◌++◌, length, slice_index, slice_index_or, drop, set, if◌then◌else◌, refl, ap, sym, ◌∙◌, subst, arith}
use Rattle.std.proofs.lemmas.Bool.{true≢false, cond-true, cond-false, cases_lt, eqb-true}
use Rattle.std.proofs.lemmas.Bool.Decides.{Decides-eqb}
use Rattle.std.proofs.lemmas.List.{at_drop_more, get_or-set_other}
use Rattle.std.proofs.lemmas.Grind.{get_or-set_at}
use Rattle.std.specs.List.{AllByRecursion, onto_first}
use Rattle.std.specs.Option.{ForSome}
use Rattle.ps_lines.specs.Lines.{lines, is_closed}
use Rattle.ps_lines.proofs.ClosedLemmas.{closed-tail}
use Rattle.ut_regex.specs.declared.cache.Cache.{Cache}
use Rattle.ut_regex.specs.declared.cache.TheConstants.{UNKNOWN}
use Rattle.ut_regex.specs.declared.machine.Machine.{Machine}
use Rattle.ut_regex.specs.declared.program.Op.{Op}
use Rattle.ut_regex.specs.declared.table.TheConstants.{FOUND}
use Rattle.ut_regex.specs.Answers.{answered}
use Rattle.ut_regex.specs.Inner.Caches.{Serves}
use Rattle.ut_regex.specs.Inner.Filled.{shows, text_after, IsQuiet, IsRight, IsFilled}
use Rattle.ut_regex.specs.Inner.Seeks.{Same}
use Rattle.ut_regex.specs.Inner.Tables.{State, first_state, state_at, states_of, after, leads_at, Keeps}
use Rattle.ut_regex.proofs.HavingLemmas.{some-lines}

module _ (ops : List Op) (fold whole : Bool) where
  -- an entry that isn't worked out is right
  pub right-unknown : (states : List State) (s : State) (byte entry : ℕ) → entry ≡ UNKNOWN → IsRight ops fold whole states s byte entry
  right-unknown states s byte entry is = record {
    found = λ found. absurd (omega (arith, is, found));
    quiet = λ below. absurd (omega (arith, is, below));
    known = λ below. absurd (omega (arith, is, below));
    leads = λ below. absurd (omega (arith, is, below));
  }

  -- an entry stays right where states are added
  pub right-keeps : (states more : List State) → Keeps states more → (s : State) (byte entry : ℕ) → IsRight ops fold whole states s byte entry
      → IsRight ops fold whole more s byte entry
  right-keeps states more keeps s byte entry right = record {
    found = right.found;
    quiet = right.quiet;
    known = λ below. (let known = right.known below in omega (arith, known, keeps.longer));
    leads = λ below. keeps.same entry (right.known below) ∙ right.leads below;
  }

  -- a table in which nothing is worked out
  pub filled-blank : (states : List State) (next : List ℕ) → state_at states 0 ≡ first_state → ((place : ℕ) → slice_index_or next place UNKNOWN ≡ UNKNOWN)
      → IsFilled ops fold whole states next
  filled-blank states next first blank = record {
    first = first;
    right = λ state byte small known. right-unknown states (state_at states state) byte (slice_index_or next (256 * state + byte) UNKNOWN) (blank (256 * state + byte));
    blank = λ place behind. blank place;
  }

  -- states are added
  pub filled-keeps : (states more : List State) (next : List ℕ) → Keeps states more → 0 < length states → IsFilled ops fold whole states next → IsFilled ops fold whole more next
  filled-keeps states more next keeps some filled = record {
    first = keeps.same 0 some ∙ filled.first;
    right = right;
    blank = λ place behind. filled.blank place (omega (arith, behind, keeps.longer));
  }
    where
      right : (state byte : ℕ) → byte < 256 → state < length more → IsRight ops fold whole more (state_at more state) byte (slice_index_or next (256 * state + byte) UNKNOWN)
      right state byte small known = elim (cases_lt state (length states)) [
        | inl old ↦
            subst (λ s. IsRight ops fold whole more s byte (slice_index_or next (256 * state + byte) UNKNOWN)) (sym (keeps.same state old))
            (right-keeps states more keeps (state_at states state) byte (slice_index_or next (256 * state + byte) UNKNOWN) (filled.right state byte small old))
        | inr new ↦
            right-unknown more (state_at more state) byte (slice_index_or next (256 * state + byte) UNKNOWN) (filled.blank (256 * state + byte) (omega (arith, new)))
      ]

  -- an entry is worked out
  pub filled-set : (states : List State) (next new : List ℕ) (state byte entry : ℕ) → byte < 256 → state < length states → 256 * length states ≤ length next
      → new ≡ set next (256 * state + byte) entry → IsRight ops fold whole states (state_at states state) byte entry
      → IsFilled ops fold whole states next → IsFilled ops fold whole states new
  filled-set states next new state byte entry small here room is right filled = record {
    first = filled.first;
    right = rights;
    blank = λ place behind. other place (λ same. omega (arith, behind, same, small, here)) ∙ filled.blank place behind;
  }
    where
      other : (place : ℕ) → place ≢ 256 * state + byte → slice_index_or new place UNKNOWN ≡ slice_index_or next place UNKNOWN
      other place different =
          ap (λ all. slice_index_or all place UNKNOWN) is ∙ get_or-set_other next (256 * state + byte) place entry UNKNOWN different

      by_place : (at from : ℕ) → from < 256 → at < length states → (same : Bool) → (256 * at + from == 256 * state + byte) ≡ same
          → IsRight ops fold whole states (state_at states at) from (slice_index_or new (256 * at + from) UNKNOWN)
      by_place at from little known true same =
          let place : 256 * at + from ≡ 256 * state + byte = eqb-true (256 * at + from) (256 * state + byte) same in
          let one : at ≡ state = omega (arith, place, little, small) in
          let two : from ≡ byte = omega (arith, place, one) in
          let value : slice_index_or new (256 * at + from) UNKNOWN ≡ entry =
          ap (λ all. slice_index_or all (256 * at + from) UNKNOWN) is
          ∙ get_or-set_at next (256 * state + byte) (256 * at + from) entry UNKNOWN place (omega (arith, small, here, room)) in
          subst (λ entry. IsRight ops fold whole states (state_at states at) from entry) (sym value)
          (subst (λ at. IsRight ops fold whole states (state_at states at) from entry) (sym one)
          (subst (λ from. IsRight ops fold whole states (state_at states state) from entry) (sym two) right))
      by_place at from little known false same =
          subst (λ entry. IsRight ops fold whole states (state_at states at) from entry)
          (sym (other (256 * at + from) (λ place. true≢false (sym ((Decides-eqb (256 * at + from) (256 * state + byte)).1 place) ∙ same))))
          (filled.right at from little known)

      rights : (at from : ℕ) → from < 256 → at < length states → IsRight ops fold whole states (state_at states at) from (slice_index_or new (256 * at + from) UNKNOWN)
      rights at from little known = by_place at from little known (256 * at + from == 256 * state + byte) refl

  -- the entry of a byte that shows a line, and of others
  pub right-found : (states : List State) (s : State) (byte : ℕ) → shows ops whole s byte ≡ true → IsRight ops fold whole states s byte FOUND
  right-found states s byte shown = record {
    found = λ _. shown;
    quiet = λ below. absurd (omega (arith, below));
    known = λ below. absurd (omega (arith, below));
    leads = λ below. absurd (omega (arith, below));
  }

  pub right-goes : (states : List State) (s : State) (byte entry : ℕ) → shows ops whole s byte ≡ false → entry < UNKNOWN → entry < length states
      → state_at states entry ≡ text_after ops fold whole s byte → IsRight ops fold whole states s byte entry
  right-goes states s byte entry quiet below known is = record {
    found = λ found. absurd (omega (arith, below, found));
    quiet = λ _. quiet;
    known = λ _. known;
    leads = λ _. is;
  }

  pub text_after-newline : (s : State) (byte : ℕ) → (byte == 10) ≡ true → text_after ops fold whole s byte ≡ first_state
  text_after-newline s byte is = cond-true (byte == 10) first_state (after ops fold whole s byte) is

  pub text_after-other : (s : State) (byte : ℕ) → (byte == 10) ≡ false → text_after ops fold whole s byte ≡ after ops fold whole s byte
  text_after-other s byte is = cond-false (byte == 10) first_state (after ops fold whole s byte) is

  -- the answer for a line goes on behind a byte that is no newline
  pub answered-shown : (s : State) (byte : ℕ) (rest : List ℕ) → (byte == 10) ≡ false → shows ops whole s byte ≡ true → answered ops fold whole s (byte ∷ rest) ≡ true
  answered-shown s byte rest other shown =
      cond-true (not whole && leads_at ops whole false s) true (answered ops fold whole (after ops fold whole s byte) rest)
      (sym (cond-false (byte == 10) (leads_at ops whole true s) (not whole && leads_at ops whole false s) other) ∙ shown)

  pub answered-on : (s there : State) (byte : ℕ) (rest : List ℕ) → (byte == 10) ≡ false → shows ops whole s byte ≡ false → there ≡ text_after ops fold whole s byte
      → answered ops fold whole s (byte ∷ rest) ≡ answered ops fold whole there rest
  answered-on s there byte rest other quiet is =
      cond-false (not whole && leads_at ops whole false s) true (answered ops fold whole (after ops fold whole s byte) rest)
      (sym (cond-false (byte == 10) (leads_at ops whole true s) (not whole && leads_at ops whole false s) other) ∙ quiet)
      ∙ ap (λ s. answered ops fold whole s rest) (sym (is ∙ text_after-other s byte other))

  -- what an entry that leads nowhere tells of a line, within it and at its end
  pub told-within : (states : List State) (s : State) (byte entry : ℕ) (rest : List ℕ) (told : Option Bool) → (byte == 10) ≡ false → UNKNOWN ≤ entry → entry ≤ FOUND
      → IsRight ops fold whole states s byte entry → IfSome told (λ told. (told ≡ (entry == FOUND)) × (entry ≡ UNKNOWN → ⊥))
      → IfSome told (λ told. told ≡ answered ops fold whole s (byte ∷ rest))
  told-within states s byte entry rest None other high low right is = tt
  told-within states s byte entry rest (Some told) other high low right (is, known) = elim (cases_lt UNKNOWN entry) [
    | inl beyond ↦
        let found : entry ≡ FOUND = omega (arith, beyond, low) in
        is ∙ ap (λ entry. entry == FOUND) found ∙ sym (answered-shown s byte rest other (right.found found))
    | inr at ↦ absurd (known (omega (arith, at, high)))
  ]

  pub told-last : (states : List State) (s : State) (entry : ℕ) (told : Option Bool) → entry ≤ FOUND
      → IsRight ops fold whole states s 10 entry → IfSome told (λ told. (told ≡ (entry == FOUND)) × (entry ≡ UNKNOWN → ⊥))
      → IfSome told (λ told. told ≡ answered ops fold whole s [])
  told-last states s entry None low right is = tt
  told-last states s entry (Some told) low right (is, known) = by_found (entry == FOUND) refl
    where
      by_found : (found : Bool) → (entry == FOUND) ≡ found → told ≡ leads_at ops whole true s
      by_found true found = is ∙ found ∙ sym (right.found (eqb-true entry FOUND found))
      by_found false found = elim (cases_lt entry UNKNOWN) [
        | inl below ↦ is ∙ found ∙ sym (right.quiet below)
        | inr high ↦ elim (cases_lt UNKNOWN entry) [
          | inl beyond ↦ absurd (true≢false (sym ((Decides-eqb entry FOUND).1 (omega (arith, beyond, low))) ∙ found))
          | inr at ↦ absurd (known (omega (arith, at, high)))
        ]
      ]

  -- one byte more is quiet
  pub quiet-on : (text : List ℕ) (place count : ℕ) (s there : State) → place < length text → shows ops whole s (slice_index text place) ≡ false
      → there ≡ text_after ops fold whole s (slice_index text place) → IsQuiet ops fold whole there (drop (place + 1) text) count
      → IsQuiet ops fold whole s (drop place text) (suc count)
  quiet-on text place count s there within quiet is more =
      subst (λ left. IsQuiet ops fold whole s left (suc count)) (sym (at_drop_more (λ left. left) text place 0 within))
      (quiet, subst (λ s. IsQuiet ops fold whole s (drop (place + 1) text) count) is more)

  -- no answer for these lines, of which the first goes on from a state
  abbrev Lacking : State → List (List ℕ) → Type 0
  Lacking s [] = Unit {0}
  Lacking s (line ∷ others) = (answered ops fold whole s line ≡ false) × AllByRecursion (λ line. answered ops fold whole first_state line ≡ false) others

  lacking-first : (texts : List (List ℕ)) → Lacking first_state texts → AllByRecursion (λ line. answered ops fold whole first_state line ≡ false) texts
  lacking-first [] lacking = tt
  lacking-first (line ∷ others) lacking = lacking

  lacking-onto : (s : State) (byte : ℕ) (texts : List (List ℕ)) → 0 < length texts → (byte == 10) ≡ false → shows ops whole s byte ≡ false
      → Lacking (text_after ops fold whole s byte) texts → Lacking s (onto_first byte texts)
  lacking-onto s byte [] some other quiet lacking = absurd (omega (arith, some))
  lacking-onto s byte (line ∷ others) some other quiet lacking =
      (answered-on s (text_after ops fold whole s byte) byte line other quiet refl ∙ lacking.0, lacking.1)

  lacking-step : (s : State) (byte : ℕ) (rest : List ℕ) → is_closed (byte ∷ rest) ≡ true → shows ops whole s byte ≡ false
      → Lacking (text_after ops fold whole s byte) (lines rest) → Lacking s (lines (byte ∷ rest))
  lacking-step s byte rest closed quiet later = by_byte (byte == 10) refl
    where
      by_rest : (last : List ℕ) → rest ≡ last → (byte == 10) ≡ false → Lacking s (onto_first byte (lines rest))
      by_rest [] is other = absurd (true≢false (sym (subst (λ rest. is_closed (byte ∷ rest) ≡ true) is closed) ∙ other))
      by_rest (first ∷ last) is other =
          lacking-onto s byte (lines rest) (subst (λ rest. 0 < length (lines rest)) (sym is) (some-lines first last)) other quiet later

      by_byte : (ended : Bool) → (byte == 10) ≡ ended → Lacking s (if ended then [] ∷ lines rest else onto_first byte (lines rest))
      by_byte true is = (
        sym (cond-true (byte == 10) (leads_at ops whole true s) (not whole && leads_at ops whole false s) is) ∙ quiet,
        lacking-first (lines rest) (subst (λ s. Lacking s (lines rest)) (text_after-newline s byte is) later),
      )
      by_byte false is = by_rest rest refl is

  lacking : (text more : List ℕ) (s : State) (count : ℕ) → is_closed text ≡ true → length text ≤ count → IsQuiet ops fold whole s (text ++ more) count → Lacking s (lines text)
  lacking [] more s count closed long quiet = tt
  lacking (byte ∷ rest) more s zero closed long quiet = absurd (omega (arith, long))
  lacking (byte ∷ rest) more s (suc count) closed long quiet =
      lacking-step s byte rest closed quiet.0
      (lacking rest more (text_after ops fold whole s byte) count (closed-tail byte rest closed) (omega (arith, long)) quiet.1)

  -- the lines that end before a place up to which a text is quiet have no answer
  pub quiet-lines : (text before more : List ℕ) (place : ℕ) → text ≡ before ++ more → is_closed before ≡ true → length before ≤ place
      → IsQuiet ops fold whole first_state text place → AllByRecursion (λ line. answered ops fold whole first_state line ≡ false) (lines before)
  quiet-lines text before more place cut closed low quiet =
      lacking-first (lines before) (lacking before more first_state place closed low (subst (λ text. IsQuiet ops fold whole first_state text place) cut quiet))

-- what holds of one machine holds of another that does the same
pub as-same : (P : List Op → Bool → Bool → Type 0) (old new : Machine) → Same old new → P old.steps.items old.fold old.whole → P new.steps.items new.fold new.whole
as-same P old new same h =
    subst (λ ops. P ops new.fold new.whole) (sym same.steps) (subst (λ fold. P old.steps.items fold new.whole) (sym same.fold) (subst (λ whole. P old.steps.items old.fold whole) (sym same.whole) h))

pub as-old : (P : List Op → Bool → Bool → Type 0) (old new : Machine) → Same old new → P new.steps.items new.fold new.whole → P old.steps.items old.fold old.whole
as-old P old new same h = as-same P new old (record { steps = sym same.steps; fold = sym same.fold; whole = sym same.whole }) h

-- a table serves another machine that does the same
pub serves-same : (old new : Machine) (cache : Option Cache) → Same old new → ForSome cache (λ cache. Serves old cache) → ForSome cache (λ cache. Serves new cache)
serves-same old new cache same serves = λ some is.
    as-same (λ ops fold whole. IsFilled ops fold whole (states_of some.rows.items) some.next.items) old new same (serves some is)

-- what serves where it is made serves where it is held
pub serves-held : (machine : Machine) (cache : Option Cache) → IfSome cache (λ cache. Serves machine cache) → ForSome cache (λ cache. Serves machine cache)
serves-held machine cache serves = λ some is. subst (λ cache. IfSome cache (λ cache. Serves machine cache)) is serves
