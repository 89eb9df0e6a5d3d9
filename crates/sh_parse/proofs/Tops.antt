-- The verdict on a list of items is a script, or where it stops.
use Rattle.std.proofs.Common.{◌≡◌, ℕ, ◌+◌, ◌≤◌, ◌<◌, Bool, true, false, List, [], ◌∷◌, ◌++◌, length, cond, refl, sym, ◌∙◌, ap, subst, append_assoc, nat_le, arith, inl, inr}
use Rattle.std.proofs.lemmas.Bool.{le-leb, leb-true, leb-false}
use Rattle.std.proofs.lemmas.List.{append-nil}
use Rattle.sh_tree.specs.Trees.{ScriptTree}
use Rattle.sh_parse.specs.Pieces.{WordViews}
use Rattle.sh_parse.specs.Inner.Owed.{Pending, Next, Verdict, again, step, levels, verdict, verdict_behind, may_end, goes, deeper, fails, fine, bad, deep}
use Rattle.sh_parse.specs.Grammar.{IsAgain, Reads, script_of}
use Rattle.sh_parse.specs.Stops.{Begins, EndsHere, StopsBad, StopsDeep, Stop, HasScript, HasStop, HasOneOutcome, offset_left}
use Rattle.sh_parse.proofs.Runs.{again_run}
use Rattle.sh_parse.proofs.Backs.{backs, true_false}
use Rattle.sh_parse.proofs.Unique.{again_one}
use Rattle.sh_parse.proofs.Completes.{Sound, anything, finish, completes, step_sound, NextSound}
use Rattle.sh_parse.specs.declared.items.Item.{Item}
use Rattle.sh_parse.specs.declared.items.TheConstants.{MAX_LEVELS}
use Rattle.sh_parse.specs.declared.refusals.SyntaxRefusal.{SyntaxRefusal}
use Rattle.sh_parse.specs.declared.refusals.SyntaxRefusal.TheVariants as refusal

-- the stack behind items, and how the verdict passes over them where at least `most` levels may be open
pub record Trail (most : ℕ) (read : List Item) (stack owed : List Pending) : Type 0 where
  pub passes : (many : ℕ) (more : List Item) → most ≤ many → verdict many (read ++ more) stack ≡ verdict many more owed
  pub fine_behind : (many : ℕ) (more : List Item) → verdict many (read ++ more) stack ≡ fine → verdict many more owed ≡ fine
  pub sound : Sound anything stack → Sound anything owed

no_trail : (most : ℕ) (stack : List Pending) → Trail most [] stack stack
no_trail most stack = record { passes = λ many more less. refl; fine_behind = λ many more h. h; sound = λ h. h }

-- one item more in front
through_goes : (most : ℕ) (first : Item) (read : List Item) (stack behind owed : List Pending) → step stack first ≡ goes behind
    → Trail most read behind owed → Trail most (first ∷ read) stack owed
through_goes most first read stack behind owed e trail = record {
  passes = λ many more less. ap (λ n. verdict_behind many (length (read ++ more) + 1) (verdict many (read ++ more)) n) e ∙ trail.passes many more less;
  fine_behind = λ many more h. trail.fine_behind many more
      (sym (ap (λ n. verdict_behind many (length (read ++ more) + 1) (verdict many (read ++ more)) n) e) ∙ h);
  sound = λ h. trail.sound (subst NextSound e (step_sound stack first h));
}

on_true : (test : Bool) (one other : Verdict) → test ≡ true → cond test one other ≡ one
on_true test one other e = ap (λ b. cond b one other) e

fits_fine : (test : Bool) (rest : Verdict) (left : ℕ) → cond test rest (deep left) ≡ fine → (test ≡ true) × (rest ≡ fine)
fits_fine true rest left h = (refl, h)
fits_fine false rest left h = cc

through_deeper : (most : ℕ) (first : Item) (read : List Item) (stack behind owed : List Pending) → step stack first ≡ deeper behind
    → nat_le (levels behind) most ≡ true → Trail most read behind owed → Trail most (first ∷ read) stack owed
through_deeper most first read stack behind owed e fits trail = record {
  passes = λ many more less.
      ap (λ n. verdict_behind many (length (read ++ more) + 1) (verdict many (read ++ more)) n) e
      ∙ on_true (nat_le (levels behind) many) _ _ (wider (levels behind) most many fits less) ∙ trail.passes many more less;
  fine_behind = λ many more h. trail.fine_behind many more (fits_fine (nat_le (levels behind) many) (verdict many (read ++ more) behind)
      (length (read ++ more) + 1)
      (sym (ap (λ n. verdict_behind many (length (read ++ more) + 1) (verdict many (read ++ more)) n) e) ∙ h)).1;
  sound = λ h. trail.sound (subst NextSound e (step_sound stack first h));
}
  where
    wider : (count few many : ℕ) → nat_le count few ≡ true → few ≤ many → nat_le count many ≡ true
    wider count few many fits less = let small = leb-true count few fits in le-leb count many (omega arith)

-- a verdict that isn't fine, by the items before it
abbrev pub Fails : List Pending → List Item → Type 0
Fails stack [] = may_end stack ≡ false
Fails stack (next ∷ rest) = step stack next ≡ fails

pub record BadTrail (most : ℕ) (items : List Item) (stack : List Pending) (left : ℕ) : Type 0 where
  pub read : List Item
  pub rest : List Item
  pub owed : List Pending
  pub whole : items ≡ read ++ rest
  pub place : length rest ≡ left
  pub trail : Trail most read stack owed
  pub failed : Fails owed rest

pub record DeepTrail (most : ℕ) (items : List Item) (stack : List Pending) (left : ℕ) : Type 0 where
  pub read : List Item
  pub next : Item
  pub rest : List Item
  pub owed : List Pending
  pub behind : List Pending
  pub whole : items ≡ read ++ next ∷ rest
  pub place : length rest + 1 ≡ left
  pub trail : Trail most read stack owed
  pub steps : step owed next ≡ deeper behind
  pub over : nat_le (levels behind) most ≡ false

bad_same : {one other : ℕ} → bad one ≡ bad other → one ≡ other
bad_same e = cc

deep_same : {one other : ℕ} → deep one ≡ deep other → one ≡ other
deep_same e = cc

module _ (most : ℕ) where
  bad_end : (stack : List Pending) (left : ℕ) (test : Bool) → may_end stack ≡ test → cond test fine (bad 0) ≡ bad left → BadTrail most [] stack left
  bad_end stack left true e h = cc
  bad_end stack left false e h = record {
    read = [];
    rest = [];
    owed = stack;
    whole = refl;
    place = bad_same h;
    trail = no_trail most stack;
    failed = e;
  }

  bad_goes : (first : Item) (rest : List Item) (stack behind : List Pending) (left : ℕ) → step stack first ≡ goes behind
      → BadTrail most rest behind left → BadTrail most (first ∷ rest) stack left
  bad_goes first rest stack behind left e t = record {
    read = first ∷ t.read;
    rest = t.rest;
    owed = t.owed;
    whole = ap (λ i. first ∷ i) t.whole;
    place = t.place;
    trail = through_goes most first t.read stack behind t.owed e t.trail;
    failed = t.failed;
  }

  bad_deeper : (first : Item) (rest : List Item) (stack behind : List Pending) (left : ℕ) → step stack first ≡ deeper behind
      → (test : Bool) → nat_le (levels behind) most ≡ test
      → ((count : ℕ) → verdict most rest behind ≡ bad count → BadTrail most rest behind count)
      → cond test (verdict most rest behind) (deep (length rest + 1)) ≡ bad left → BadTrail most (first ∷ rest) stack left
  bad_deeper first rest stack behind left e true fits more h = let t = more left h in record {
    read = first ∷ t.read;
    rest = t.rest;
    owed = t.owed;
    whole = ap (λ i. first ∷ i) t.whole;
    place = t.place;
    trail = through_deeper most first t.read stack behind t.owed e fits t.trail;
    failed = t.failed;
  }
  bad_deeper first rest stack behind left e false fits more h = cc

  bad_step : (first : Item) (rest : List Item) (stack : List Pending) (left : ℕ) (next : Next) → step stack first ≡ next
      → ((behind : List Pending) (count : ℕ) → verdict most rest behind ≡ bad count → BadTrail most rest behind count)
      → verdict_behind most (length rest + 1) (verdict most rest) next ≡ bad left → BadTrail most (first ∷ rest) stack left
  bad_step first rest stack left (goes behind) e more h = bad_goes first rest stack behind left e (more behind left h)
  bad_step first rest stack left (deeper behind) e more h =
      bad_deeper first rest stack behind left e (nat_le (levels behind) most) refl (more behind) h
  bad_step first rest stack left fails e more h = record {
    read = [];
    rest = first ∷ rest;
    owed = stack;
    whole = refl;
    place = length_of (bad_same h);
    trail = no_trail most stack;
    failed = e;
  }
    where
      length_of : {count : ℕ} → length rest + 1 ≡ count → length (first ∷ rest) ≡ count
      length_of h = omega arith

  pub bad_trail : (items : List Item) (stack : List Pending) (left : ℕ) → verdict most items stack ≡ bad left → BadTrail most items stack left
  bad_trail [] stack left h = bad_end stack left (may_end stack) refl h
  bad_trail (first ∷ rest) stack left h = bad_step first rest stack left (step stack first) refl (bad_trail rest) h

  deep_end : (test : Bool) (left : ℕ) → cond test fine (bad 0) ≡ deep left → ⊥
  deep_end true left h = cc
  deep_end false left h = cc

  deep_goes : (first : Item) (rest : List Item) (stack behind : List Pending) (left : ℕ) → step stack first ≡ goes behind
      → DeepTrail most rest behind left → DeepTrail most (first ∷ rest) stack left
  deep_goes first rest stack behind left e t = record {
    read = first ∷ t.read;
    next = t.next;
    rest = t.rest;
    owed = t.owed;
    behind = t.behind;
    whole = ap (λ i. first ∷ i) t.whole;
    place = t.place;
    trail = through_goes most first t.read stack behind t.owed e t.trail;
    steps = t.steps;
    over = t.over;
  }

  deep_deeper : (first : Item) (rest : List Item) (stack behind : List Pending) (left : ℕ) → step stack first ≡ deeper behind
      → (test : Bool) → nat_le (levels behind) most ≡ test
      → ((count : ℕ) → verdict most rest behind ≡ deep count → DeepTrail most rest behind count)
      → cond test (verdict most rest behind) (deep (length rest + 1)) ≡ deep left → DeepTrail most (first ∷ rest) stack left
  deep_deeper first rest stack behind left e true fits more h = let t = more left h in record {
    read = first ∷ t.read;
    next = t.next;
    rest = t.rest;
    owed = t.owed;
    behind = t.behind;
    whole = ap (λ i. first ∷ i) t.whole;
    place = t.place;
    trail = through_deeper most first t.read stack behind t.owed e fits t.trail;
    steps = t.steps;
    over = t.over;
  }
  deep_deeper first rest stack behind left e false over more h = record {
    read = [];
    next = first;
    rest = rest;
    owed = stack;
    behind = behind;
    whole = refl;
    place = deep_same h;
    trail = no_trail most stack;
    steps = e;
    over = over;
  }

  deep_step : (first : Item) (rest : List Item) (stack : List Pending) (left : ℕ) (next : Next) → step stack first ≡ next
      → ((behind : List Pending) (count : ℕ) → verdict most rest behind ≡ deep count → DeepTrail most rest behind count)
      → verdict_behind most (length rest + 1) (verdict most rest) next ≡ deep left → DeepTrail most (first ∷ rest) stack left
  deep_step first rest stack left (goes behind) e more h = deep_goes first rest stack behind left e (more behind left h)
  deep_step first rest stack left (deeper behind) e more h =
      deep_deeper first rest stack behind left e (nat_le (levels behind) most) refl (more behind) h
  deep_step first rest stack left fails e more h = cc

  pub deep_trail : (items : List Item) (stack : List Pending) (left : ℕ) → verdict most items stack ≡ deep left → DeepTrail most items stack left
  deep_trail [] stack left h = absurd (deep_end (may_end stack) left h)
  deep_trail (first ∷ rest) stack left h = deep_step first rest stack left (step stack first) refl (deep_trail rest) h

  -- items that begin what is fine leave a trail
  pub record FineTrail (read : List Item) (stack : List Pending) : Type 0 where
    pub owed : List Pending
    pub trail : Trail most read stack owed

  fine_step : (first : Item) (read more : List Item) (stack : List Pending) (next : Next) → step stack first ≡ next
      → ((behind : List Pending) → verdict most (read ++ more) behind ≡ fine → FineTrail read behind)
      → verdict_behind most (length (read ++ more) + 1) (verdict most (read ++ more)) next ≡ fine → FineTrail (first ∷ read) stack
  fine_step first read more stack (goes behind) e trails h =
      let t = trails behind h in record { owed = t.owed; trail = through_goes most first read stack behind t.owed e t.trail }
  fine_step first read more stack (deeper behind) e trails h =
      let both = fits_fine (nat_le (levels behind) most) (verdict most (read ++ more) behind) (length (read ++ more) + 1) h in
      let t = trails behind both.1 in
      record { owed = t.owed; trail = through_deeper most first read stack behind t.owed e both.0 t.trail }
  fine_step first read more stack fails e trails h = cc

  pub fine_trail : (read more : List Item) (stack : List Pending) → verdict most (read ++ more) stack ≡ fine → FineTrail read stack
  fine_trail [] more stack h = record { owed = stack; trail = no_trail most stack }
  fine_trail (first ∷ read) more stack h = fine_step first read more stack (step stack first) refl (fine_trail read more) h

-- a script is fine, and what is fine is a script
pub reads_fine : (views : WordViews) (most : ℕ) (items : List Item) (script : ScriptTree) → Reads views most items script
    → verdict most items (again ∷ []) ≡ fine
reads_fine views most items script (list, (is, e)) = again_run is [] refl

pub fine_reads : (views : WordViews) (most : ℕ) (items : List Item) → verdict most items (again ∷ []) ≡ fine
    → (script : ScriptTree) × Reads views most items script
fine_reads views most items h =
    let (left, ((list, is), e)) = backs views most items (again ∷ []) h in
    (script_of list, (list, (subst (λ l. IsAgain views most 0 items list l) e is, refl)))

module _ (views : WordViews) (most : ℕ) (items : List Item) where
  begins_by : (many : ℕ) (read : List Item) (owed : List Pending) → most ≤ many → Trail most read (again ∷ []) owed → Begins views many read
  begins_by many read owed less trail = (
    finish owed,
    fine_reads views many (read ++ finish owed)
        (trail.passes many (finish owed) less ∙ completes many owed (trail.sound tt)),
  )

  whole_next : (read : List Item) (next : Item) (behind : List Item) → (read ++ next ∷ []) ++ behind ≡ read ++ next ∷ behind
  whole_next read next behind = append_assoc read (next ∷ []) behind

  end_failed : (test : Bool) → test ≡ false → cond test fine (bad 0) ≡ fine → ⊥
  end_failed true e h = true_false e
  end_failed false e h = cc

  step_failed : (many count : ℕ) (rest : List Pending → Verdict) (next : Next) → next ≡ fails → verdict_behind many count rest next ≡ fine → ⊥
  step_failed many count rest next e h = cc

  ends_by : (read rest : List Item) (owed : List Pending) → Trail most read (again ∷ []) owed → Fails owed rest → EndsHere views read rest
  ends_by read [] owed trail failed = λ many script reads.
      end_failed (may_end owed) failed (trail.fine_behind many []
      (ap (λ i. verdict many i (again ∷ [])) (append-nil read) ∙ reads_fine views many read script reads))
  ends_by read (next ∷ rest) owed trail failed = λ many begins.
      let (behind, (script, reads)) = begins in
      step_failed many (length behind + 1) (verdict many behind) (step owed next) failed
      (trail.fine_behind many (next ∷ behind)
      (sym (ap (λ i. verdict many i (again ∷ [])) (whole_next read next behind))
      ∙ reads_fine views many ((read ++ next ∷ []) ++ behind) script reads))

  pub bad_stops : (left : ℕ) → verdict most items (again ∷ []) ≡ bad left → StopsBad views most items left
  bad_stops left h =
      let t = bad_trail most items (again ∷ []) left h in
      record {
        read = t.read;
        rest = t.rest;
        whole = t.whole;
        place = t.place;
        begins = begins_by most t.read t.owed (omega arith) t.trail;
        ends = ends_by t.read t.rest t.owed t.trail t.failed;
      }

  -- an item that steps begins a script of some number of levels
  next_begins : (read : List Item) (next : Item) (owed behind : List Pending) (many : ℕ) → most ≤ many → Trail most read (again ∷ []) owed
      → ((more : List Item) → verdict many (next ∷ more) owed ≡ verdict many more behind) → Sound anything behind
      → Begins views many (read ++ next ∷ [])
  next_begins read next owed behind many less trail steps sound = (
    finish behind,
    fine_reads views many ((read ++ next ∷ []) ++ finish behind)
        (ap (λ i. verdict many i (again ∷ [])) (whole_next read next (finish behind))
        ∙ trail.passes many (next ∷ finish behind) less ∙ steps (finish behind) ∙ completes many behind sound),
  )

  goes_steps : (next : Item) (owed behind : List Pending) → step owed next ≡ goes behind → (many : ℕ) (more : List Item)
      → verdict many (next ∷ more) owed ≡ verdict many more behind
  goes_steps next owed behind e many more = ap (λ n. verdict_behind many (length more + 1) (verdict many more) n) e

  deeper_steps : (next : Item) (owed behind : List Pending) → step owed next ≡ deeper behind → (many : ℕ) → levels behind ≤ many
      → (more : List Item) → verdict many (next ∷ more) owed ≡ verdict many more behind
  deeper_steps next owed behind e many less more =
      ap (λ n. verdict_behind many (length more + 1) (verdict many more) n) e
      ∙ on_true (nat_le (levels behind) many) _ _ (le-leb (levels behind) many less)

  deep_failed : (next : Item) (owed behind : List Pending) → step owed next ≡ deeper behind → nat_le (levels behind) most ≡ false
      → (more : List Item) → verdict most (next ∷ more) owed ≡ deep (length more + 1)
  deep_failed next owed behind e over more =
      ap (λ n. verdict_behind most (length more + 1) (verdict most more) n) e
      ∙ ap (λ b. cond b (verdict most more behind) (deep (length more + 1))) over

  deep_fine : {count : ℕ} → deep count ≡ fine → ⊥
  deep_fine e = cc

  too_deep_by : (read : List Item) (next : Item) (owed behind : List Pending) → Trail most read (again ∷ []) owed
      → step owed next ≡ deeper behind → nat_le (levels behind) most ≡ false → Begins views most (read ++ next ∷ []) → ⊥
  too_deep_by read next owed stack trail e over (behind, (script, reads)) =
      deep_fine (sym (deep_failed next owed stack e over behind) ∙ trail.fine_behind most (next ∷ behind)
      (sym (ap (λ i. verdict most i (again ∷ [])) (whole_next read next behind))
      ∙ reads_fine views most ((read ++ next ∷ []) ++ behind) script reads))

  pub deep_stops : (left : ℕ) → verdict most items (again ∷ []) ≡ deep left → StopsDeep views most items left
  deep_stops left h =
      let t = deep_trail most items (again ∷ []) left h in
      let over : most < levels t.behind = leb-false (levels t.behind) most t.over in
      record {
        read = t.read;
        next = t.next;
        rest = t.rest;
        whole = t.whole;
        place = t.place;
        begins = begins_by most t.read t.owed (omega arith) t.trail;
        levels = levels t.behind;
        deeper = next_begins t.read t.next t.owed t.behind (levels t.behind) (omega arith) t.trail
            (deeper_steps t.next t.owed t.behind t.steps (levels t.behind) (omega arith))
            (subst NextSound t.steps (step_sound t.owed t.next (t.trail.sound tt)));
        too_deep = too_deep_by t.read t.next t.owed t.behind t.trail t.steps t.over;
      }

  -- and the other way: where the items stop is the verdict
  fine_end : (test : Bool) → (cond test fine (bad 0) ≡ fine → ⊥) → cond test fine (bad 0) ≡ bad 0
  fine_end true h = absurd (h refl)
  fine_end false h = refl

  bad_next : (read rest : List Item) (next : Item) (owed : List Pending) (found : Next) → step owed next ≡ found → Trail most read (again ∷ []) owed
      → EndsHere views read (next ∷ rest) → verdict_behind most (length rest + 1) (verdict most rest) found ≡ bad (length rest + 1)
  bad_next read rest next owed (goes behind) e trail ends =
      absurd (ends most (next_begins read next owed behind most (omega arith) trail (goes_steps next owed behind e most)
      (subst NextSound e (step_sound owed next (trail.sound tt)))))
  bad_next read rest next owed (deeper behind) e trail ends =
      absurd (ends (most + levels behind) (next_begins read next owed behind (most + levels behind) (omega arith) trail
      (deeper_steps next owed behind e (most + levels behind) (omega arith))
      (subst NextSound e (step_sound owed next (trail.sound tt)))))
  bad_next read rest next owed fails e trail ends = refl

  bad_here : (read rest : List Item) (owed : List Pending) → Trail most read (again ∷ []) owed → EndsHere views read rest
      → verdict most (read ++ rest) (again ∷ []) ≡ bad (length rest)
  bad_here read [] owed trail ends =
      trail.passes most [] (omega arith) ∙ fine_end (may_end owed) (λ h.
      let found = fine_reads views most read (sym (ap (λ i. verdict most i (again ∷ [])) (append-nil read)) ∙ trail.passes most [] (omega arith) ∙ h) in
      ends most found.0 found.1)
  bad_here read (next ∷ rest) owed trail ends =
      trail.passes most (next ∷ rest) (omega arith) ∙ bad_next read rest next owed (step owed next) refl trail ends
      ∙ ap bad (length_cons next rest)
    where
      length_cons : (next : Item) (rest : List Item) → length rest + 1 ≡ length (next ∷ rest)
      length_cons next rest = omega arith

  pub stops_bad : (left : ℕ) → StopsBad views most items left → verdict most items (again ∷ []) ≡ bad left
  stops_bad left s =
      let (behind, (script, reads)) = s.begins in
      let t = fine_trail most s.read behind (again ∷ []) (reads_fine views most (s.read ++ behind) script reads) in
      ap (λ i. verdict most i (again ∷ [])) s.whole ∙ bad_here s.read s.rest t.owed t.trail s.ends ∙ ap bad s.place

  deep_next : (read rest : List Item) (next : Item) (owed : List Pending) (found : Next) → step owed next ≡ found → Trail most read (again ∷ []) owed
      → (many : ℕ) → Begins views many (read ++ next ∷ []) → (Begins views most (read ++ next ∷ []) → ⊥)
      → verdict_behind most (length rest + 1) (verdict most rest) found ≡ deep (length rest + 1)
  deep_next read rest next owed (goes behind) e trail many begins over =
      absurd (over (next_begins read next owed behind most (omega arith) trail (goes_steps next owed behind e most)
      (subst NextSound e (step_sound owed next (trail.sound tt)))))
  deep_next read rest next owed (deeper behind) e trail many begins over = by_levels (nat_le (levels behind) most) refl
    where
      by_levels : (test : Bool) → nat_le (levels behind) most ≡ test
          → cond test (verdict most rest behind) (deep (length rest + 1)) ≡ deep (length rest + 1)
      by_levels true fits = absurd (over (next_begins read next owed behind most (omega arith) trail
          (deeper_steps next owed behind e most (leb-true (levels behind) most fits))
          (subst NextSound e (step_sound owed next (trail.sound tt)))))
      by_levels false fits = refl
  deep_next read rest next owed fails e trail many begins over =
      absurd (ends_by read (next ∷ rest) owed trail e many begins)

  pub stops_deep : (left : ℕ) → StopsDeep views most items left → verdict most items (again ∷ []) ≡ deep left
  stops_deep left s =
      let (behind, (script, reads)) = s.begins in
      let t = fine_trail most s.read behind (again ∷ []) (reads_fine views most (s.read ++ behind) script reads) in
      ap (λ i. verdict most i (again ∷ [])) s.whole ∙ t.trail.passes most (s.next ∷ s.rest) (omega arith)
      ∙ deep_next s.read s.rest s.next t.owed (step t.owed s.next) refl t.trail s.levels s.deeper s.too_deep ∙ ap deep s.place

fine_bad : {count : ℕ} → fine ≡ bad count → ⊥
fine_bad e = cc

fine_deep : {count : ℕ} → fine ≡ deep count → ⊥
fine_deep e = cc

bad_deep : {one other : ℕ} → bad one ≡ deep other → ⊥
bad_deep e = cc

pub one_script : (views : WordViews) (most : ℕ) (items : List Item) (one other : ScriptTree) → Reads views most items one
    → Reads views most items other → one ≡ other
one_script views most items one other (list, (is, e)) (same, (also, h)) = e ∙ ap script_of (again_one is also).0 ∙ sym h

module _ (views : WordViews) (items : List Item) where
  not_stopped : verdict MAX_LEVELS items (again ∷ []) ≡ fine → (refusal : SyntaxRefusal) → Stop views items refusal → ⊥
  not_stopped h refusal.BadSyntax (left, stop) = fine_bad (sym h ∙ stops_bad views MAX_LEVELS items left stop)
  not_stopped h (refusal.TooDeep offset) (left, (stop, e)) = fine_deep (sym h ∙ stops_deep views MAX_LEVELS items left stop)

  pub has_script : (script : ScriptTree) → Reads views MAX_LEVELS items script → HasScript views items script
  has_script script reads = record {
    reads = reads;
    only = λ other also. one_script views MAX_LEVELS items other script also reads;
    not_stopped = not_stopped (reads_fine views MAX_LEVELS items script reads);
  }

  only_bad : (left : ℕ) → verdict MAX_LEVELS items (again ∷ []) ≡ bad left → (other : SyntaxRefusal) → Stop views items other → other ≡ refusal.BadSyntax
  only_bad left h refusal.BadSyntax stop = refl
  only_bad left h (refusal.TooDeep offset) (count, (stop, e)) = absurd (bad_deep (sym h ∙ stops_deep views MAX_LEVELS items count stop))

  only_deep : (left : ℕ) → verdict MAX_LEVELS items (again ∷ []) ≡ deep left → (other : SyntaxRefusal) → Stop views items other
      → other ≡ refusal.TooDeep (offset_left items left)
  only_deep left h refusal.BadSyntax (count, stop) = absurd (bad_deep (sym (stops_bad views MAX_LEVELS items count stop) ∙ h))
  only_deep left h (refusal.TooDeep offset) (count, (stop, e)) =
      ap refusal.TooDeep (e ∙ ap (offset_left items) (deep_same (sym (stops_deep views MAX_LEVELS items count stop) ∙ h)))

  pub has_bad : (left : ℕ) → verdict MAX_LEVELS items (again ∷ []) ≡ bad left → HasStop views items refusal.BadSyntax
  has_bad left h = record {
    stops = (left, bad_stops views MAX_LEVELS items left h);
    only = only_bad left h;
    not_read = λ script reads. fine_bad (sym (reads_fine views MAX_LEVELS items script reads) ∙ h);
  }

  pub has_deep : (left : ℕ) → verdict MAX_LEVELS items (again ∷ []) ≡ deep left → HasStop views items (refusal.TooDeep (offset_left items left))
  has_deep left h = record {
    stops = (left, (deep_stops views MAX_LEVELS items left h, refl));
    only = only_deep left h;
    not_read = λ script reads. fine_deep (sym (reads_fine views MAX_LEVELS items script reads) ∙ h);
  }

  by_verdict : (found : Verdict) → verdict MAX_LEVELS items (again ∷ []) ≡ found → HasOneOutcome views items
  by_verdict fine h = let (script, reads) = fine_reads views MAX_LEVELS items h in inl (script, has_script script reads)
  by_verdict (bad left) h = inr (refusal.BadSyntax, has_bad left h)
  by_verdict (deep left) h = inr (refusal.TooDeep (offset_left items left), has_deep left h)

  pub one_outcome : HasOneOutcome views items
  one_outcome = by_verdict (verdict MAX_LEVELS items (again ∷ [])) refl
