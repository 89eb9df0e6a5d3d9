-- What follows a byte follows its twin.
use Rattle.std.proofs.Common.{ℕ, ◌≡◌, ◌+◌, ◌*◌, ◌<◌, ◌≤◌, ◌&&◌, inl, inr, Bool, true, false, not, List, [], ◌∷◌, ◌++◌, length, reverse, slice_index_or, refl, ap, ap₂, sym, subst, ◌∙◌, arith, length-append}
use Rattle.std.proofs.Math.ListN.{get_or-append}
use Rattle.std.proofs.Math.Seq.{get_or-append_seam}
use Rattle.std.proofs.lemmas.Bool.{cases_lt}
use Rattle.std.proofs.lemmas.List.{reverse-append}
use Rattle.std.specs.Bool.{beq}
use Rattle.ut_regex.specs.declared.program.Op.{Op}
use Rattle.ut_regex.specs.declared.program.Op.TheVariants as op
use Rattle.ut_regex.specs.Spans.{fits}
use Rattle.ut_regex.specs.Inner.Sweeps.{top, below, Sinking, sink, sunk}
use Rattle.ut_regex.specs.declared.table.TheConstants.{FOUND}
use Rattle.ut_regex.specs.Inner.Tables.{State, after, state_at, IsEntry, Entered}
use Rattle.ut_regex.proofs.TableLemmas.{entered_push}
use Rattle.ut_regex.specs.Inner.Twins.{tells, AreFirst, AreTwins, HasTwins}

-- a byte is its own twin
pub own_twin : (fold : Bool) (byte : ℕ) (steps : List Op) → AreTwins fold byte byte steps
own_twin fold byte [] = tt
own_twin fold byte (step ∷ steps) = (own step, own_twin fold byte steps)
  where
    beq_own : (b : Bool) → not (beq b b) ≡ false
    beq_own true = refl
    beq_own false = refl

    own : (step : Op) → tells fold byte byte step ≡ false
    own (op.Point one) = beq_own (fits fold one byte)
    own op.Begin = refl
    own op.End = refl
    own op.Empty = refl
    own op.Both = refl
    own op.Either = refl
    own op.Many = refl
    own op.Maybe = refl

-- what is true of each byte and its twin is true with one byte more
each_twin : (twins new : List ℕ) (byte twin : ℕ) → length twins ≡ byte → new ≡ twins ++ twin ∷ [] → (P : ℕ → ℕ → Type 0)
    → ((b : ℕ) → b < byte → P (slice_index_or twins b 0) b) → P twin byte → (b : ℕ) → b < byte + 1 → P (slice_index_or new b 0) b
each_twin twins new byte twin long made P earlier last b within = elim (cases_lt b byte) [
  | inl lt ↦
      let small : b < length twins = omega arith in
      subst (λ t. P t b) (sym (ap (λ all. slice_index_or all b 0) made ∙ get_or-append twins (twin ∷ []) 0 b small)) (earlier b lt)
  | inr ge ↦
      let there : byte ≡ b = omega arith in
      let place : b ≡ length twins = omega arith in
      subst (λ t. P t b) (sym (ap₂ (λ all p. slice_index_or all p 0) made place ∙ get_or-append_seam twins twin [] 0))
      (subst (λ p. P twin p) there last)
]

-- one byte more
pub twins_push : (fold : Bool) (steps : List Op) (twins new : List ℕ) (byte twin : ℕ) → HasTwins fold steps twins byte → new ≡ twins ++ twin ∷ []
    → twin ≤ byte → AreTwins fold twin byte steps → HasTwins fold steps new (byte + 1)
twins_push fold steps twins new byte twin has made before same = record {
  long = ap length made ∙ length-append twins (twin ∷ []) ∙ ap (λ n. n + 1) has.long;
  before = each_twin twins new byte twin has.long made (λ t b. t ≤ b) has.before before;
  same = each_twin twins new byte twin has.long made (λ t b. AreTwins fold t b steps) has.same same;
}

pub first_push : (fold : Bool) (steps : List Op) (twins new : List ℕ) (byte twin : ℕ) → HasTwins fold steps twins byte → new ≡ twins ++ twin ∷ []
    → AreFirst fold steps twins byte → ((earlier : ℕ) → earlier < twin → AreTwins fold earlier byte steps → ⊥) → AreFirst fold steps new (byte + 1)
first_push fold steps twins new byte twin has made first last = λ b earlier within.
    each_twin twins new byte twin has.long made (λ t b. (e : ℕ) → e < t → AreTwins fold e b steps → ⊥) (λ b within e. first b e within) last b within earlier

sunk-append : (fold : Bool) (byte : ℕ) (front back : List Op) (s : Sinking) → sunk fold byte (front ++ back) s ≡ sunk fold byte back (sunk fold byte front s)
sunk-append fold byte [] back s = refl
sunk-append fold byte (step ∷ front) back s = sunk-append fold byte front back (sink fold byte step s)

beq_same : (a b : Bool) → not (beq a b) ≡ false → a ≡ b
beq_same true true h = refl
beq_same true false h = absurd (cc)
beq_same false true h = absurd (cc)
beq_same false false h = refl

sink_twins : (fold : Bool) (first byte : ℕ) (step : Op) → tells fold first byte step ≡ false → (s : Sinking) → sink fold first step s ≡ sink fold byte step s
sink_twins fold first byte (op.Point one) h s =
    ap (λ b. record { entries = below s.entries; kept = s.kept; marks = (top s.entries && b) ∷ s.marks })
    (beq_same (fits fold one first) (fits fold one byte) h)
sink_twins fold first byte op.Begin h s = refl
sink_twins fold first byte op.End h s = refl
sink_twins fold first byte op.Empty h s = refl
sink_twins fold first byte op.Both h s = refl
sink_twins fold first byte op.Either h s = refl
sink_twins fold first byte op.Many h s = refl
sink_twins fold first byte op.Maybe h s = refl

sunk_twins : (fold : Bool) (first byte : ℕ) (steps : List Op) → AreTwins fold first byte steps → (s : Sinking)
    → sunk fold first (reverse steps) s ≡ sunk fold byte (reverse steps) s
sunk_twins fold first byte [] twins s = refl
sunk_twins fold first byte (step ∷ steps) (same, twins) s =
    ap (λ all. sunk fold first all s) (reverse-append (step ∷ []) steps)
    ∙ sunk-append fold first (reverse steps) (step ∷ []) s
    ∙ ap (λ t. sink fold first step t) (sunk_twins fold first byte steps twins s)
    ∙ sink_twins fold first byte step same (sunk fold byte (reverse steps) s)
    ∙ sym (sunk-append fold byte (reverse steps) (step ∷ []) s)
    ∙ sym (ap (λ all. sunk fold byte all s) (reverse-append (step ∷ []) steps))

-- the same state follows twins
pub after_twins : (ops : List Op) (fold whole : Bool) (s : State) (first byte : ℕ) → AreTwins fold first byte ops
    → after ops fold whole s first ≡ after ops fold whole s byte
after_twins ops fold whole s first byte twins = ap (λ t. record { begins = false; bits = t.marks }) (sunk_twins fold first byte ops twins _)

-- so an entry for a twin is one for the byte
pub entered_twin : (ops : List Op) (fold whole : Bool) (states : List State) (next new : List ℕ) (state byte twin entry : ℕ)
    → state < length states → length next ≡ 256 * state + byte → byte < 256 → twin < byte → AreTwins fold twin byte ops
    → entry ≡ slice_index_or next (256 * state + twin) FOUND → new ≡ next ++ entry ∷ []
    → Entered ops fold whole states next → Entered ops fold whole states new
entered_twin ops fold whole states next new state byte twin entry here count small before twins is made entered =
    let there : 256 * state + twin < length next = omega arith in
    let small_twin : twin < 256 = omega arith in
    entered_push ops fold whole states states next new state byte entry (record { longer = omega arith; same = λ place within. refl }) here count small made
    (subst (λ e. IsEntry ops whole states e (after ops fold whole (state_at states state) byte)) (sym is)
    (subst (λ s. IsEntry ops whole states (slice_index_or next (256 * state + twin) FOUND) s) (after_twins ops fold whole (state_at states state) twin byte twins)
    (entered state twin small_twin there)))
    entered
