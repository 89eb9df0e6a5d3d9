-- Which line goes next, as one side after another is looked at.
use Rattle.std.proofs.Common.{◌≡◌, ◌+◌, ◌<◌, ◌≤◌, ℕ, zero, suc, List, [], ◌∷◌, ◌++◌, length, drop, take, Bool, true, false, not, ◌&&◌, None, Some, refl, ap, sym, ◌∙◌, ⊎_elim, length-append, length-drop, arith, if◌then◌else◌, Ordering}
use Rattle.std.proofs.lemmas.Bool.{cases_lt, eq-eqb, ne_eqb, true≢false}
use Rattle.std.proofs.lemmas.List.{length-take}
use Rattle.ps_lines.specs.Lines.{has_newline, lines}
use Rattle.ps_lines.proofs.LineLemmas.{lines-cut}
use Rattle.ut_sort.specs.declared.merging.Step.TheVariants as step
use Rattle.ut_sort.specs.declared.choices.Choice.TheVariants as choice
use Rattle.ut_sort.specs.declared.texts.Side.{Side}
use Rattle.ut_sort.specs.Choices.{behind_first, Chosen, EndsFirstLine, IsLeftOut, Leads}
use Rattle.ut_sort.specs.Merging.{by_step, merged, merged_all, step_of}
use Rattle.ut_sort.specs.Sides.{coming_lines, first_waiting, held_at, is_open_at, waits}

-- a side that waits is found
waits-at : (sides : List Side) (at port : ℕ) → is_open_at sides port ≡ true → has_newline (held_at sides port) ≡ false → first_waiting at sides ≡ None → ⊥
waits-at [] at zero opened plain none = true≢false (sym opened)
waits-at [] at (suc port) opened plain none = true≢false (sym opened)
waits-at (side ∷ sides) at port opened plain none = by_first (waits side) refl port opened plain (λ place opened plain rests. waits-at sides (suc at) place opened plain rests)
  where
    found : (test : Bool) → waits side ≡ test → (if test then Some at else first_waiting (suc at) sides) ≡ None
    found test is = ap (λ (test : Bool). if test then Some at else first_waiting (suc at) sides) (sym is) ∙ none

    never : Some at ≡ None → ⊥
    never is = cc

    by_first : (test : Bool) → waits side ≡ test → (port : ℕ) → is_open_at (side ∷ sides) port ≡ true → has_newline (held_at (side ∷ sides) port) ≡ false
        → ((place : ℕ) → is_open_at sides place ≡ true → has_newline (held_at sides place) ≡ false → first_waiting (suc at) sides ≡ None → ⊥) → ⊥
    by_first true is port opened plain later = never (found true is)
    by_first false is zero opened plain later = true≢false ((λ i. sym opened i && not (sym plain i)) ∙ is)
    by_first false is (suc port) opened plain later = later port opened plain (found false is)

pub none-waits : (sides : List Side) (port : ℕ) → is_open_at sides port ≡ true → has_newline (held_at sides port) ≡ false → first_waiting 0 sides ≡ None → ⊥
none-waits sides port opened plain none = waits-at sides 0 port opened plain none

-- a first line lies within its text
pub first-within : (text : List ℕ) (size : ℕ) → EndsFirstLine text size → size + 1 ≤ length text
first-within text size cut =
    let whole : length text ≡ length (take size text) + length (10 ∷ drop (size + 1) text) = ap length cut.whole ∙ length-append (take size text) (10 ∷ drop (size + 1) text) in
    let front = length-take size text in
    let back = length-drop (size + 1) text in
    omega (arith, whole, front, back)

-- lists without the first item of one
behind-other : (port other : ℕ) (lists : ℕ → List (List ℕ)) → (other ≡ port → ⊥) → behind_first port lists other ≡ lists other
behind-other port other lists apart = ap (λ (here : Bool). if here then drop 1 (lists other) else lists other) (ne_eqb other port apart)

behind-here : (port : ℕ) (lists : ℕ → List (List ℕ)) (line : List ℕ) (others : List (List ℕ)) → lists port ≡ line ∷ others → behind_first port lists port ≡ others
behind-here port lists line others is = ap (λ (here : Bool). if here then drop 1 (lists port) else lists port) (eq-eqb port port refl) ∙ ap (drop 1) is

module _ (cmp : List ℕ → List ℕ → Ordering) (unique : Bool) where
  merged-none : (items : List (List ℕ)) → merged cmp unique items [] ≡ items
  merged-none [] = refl
  merged-none (item ∷ items) = refl

  -- lists that are the same at each port are merged to the same
  pub all-same : (lists others : ℕ → List (List ℕ)) (count : ℕ) → ((port : ℕ) → port < count → lists port ≡ others port) → merged_all cmp unique lists count ≡ merged_all cmp unique others count
  all-same lists others zero same = refl
  all-same lists others (suc count) same =
      λ i. merged cmp unique (all-same lists others count (λ port before. same port (omega (arith, before))) i) (same count (omega arith) i)

  all-before : (port : ℕ) (lists : ℕ → List (List ℕ)) (count : ℕ) → count ≤ port → merged_all cmp unique (behind_first port lists) count ≡ merged_all cmp unique lists count
  all-before port lists count within = all-same (behind_first port lists) lists count (λ other before. behind-other port other lists (λ is. omega (arith, before, within, is)))

  pub all-none : (lists : ℕ → List (List ℕ)) (count : ℕ) → ((port : ℕ) → port < count → lists port ≡ []) → merged_all cmp unique lists count ≡ []
  all-none lists zero none = refl
  all-none lists (suc count) none =
      (λ i. merged cmp unique (all-none lists count (λ port before. none port (omega (arith, before))) i) (none count (omega arith) i))

  module _ (lists : ℕ → List (List ℕ)) (count : ℕ) where
    abbrev all : (ℕ → List (List ℕ)) → ℕ → List (List ℕ)
    all lists count = merged_all cmp unique lists count

    begin : (line : List ℕ) (others : List (List ℕ)) → ((port : ℕ) → port < count → lists port ≡ []) → lists count ≡ line ∷ others
        → all lists (suc count) ≡ line ∷ all (behind_first count lists) (suc count)
    begin line others none is =
        (λ i. merged cmp unique (all-none lists count none i) (is i))
        ∙ ap (λ rest. line ∷ rest) (λ i. merged cmp unique (sym (all-before count lists count (omega arith) ∙ all-none lists count none) i) (sym (behind-here count lists line others is) i))

    left-next : (port : ℕ) → port < count → all lists count ≡ all (behind_first port lists) count → all lists (suc count) ≡ all (behind_first port lists) (suc count)
    left-next port before same = λ i. merged cmp unique (same i) (sym (behind-other port count lists (λ is. omega (arith, before, is))) i)

    module _ (first : ℕ) (line : List ℕ) (before : first < count) (leads : all lists count ≡ line ∷ all (behind_first first lists) count) where
      abbrev rest : List (List ℕ)
      rest = all (behind_first first lists) count

      still : behind_first first lists count ≡ lists count
      still = behind-other first count lists (λ is. omega (arith, before, is))

      step-none : lists count ≡ [] → all lists (suc count) ≡ line ∷ all (behind_first first lists) (suc count)
      step-none none =
          (λ i. merged cmp unique (leads i) (none i)) ∙ ap (λ rest. line ∷ rest) (sym (ap (merged cmp unique rest) (still ∙ none) ∙ merged-none rest))

      module _ (other : List ℕ) (others : List (List ℕ)) (is : lists count ≡ other ∷ others) where
        both : all lists (suc count)
            ≡ by_step (step_of unique (cmp line other)) (line ∷ merged cmp unique rest (other ∷ others)) (merged cmp unique (line ∷ rest) others) (other ∷ merged cmp unique (line ∷ rest) others)
        both = λ i. merged cmp unique (leads i) (is i)

        gone : merged cmp unique (line ∷ rest) others ≡ all (behind_first count lists) (suc count)
        gone = λ i. merged cmp unique ((sym leads ∙ sym (all-before count lists count (omega arith))) i) (sym (behind-here count lists other others is) i)

        step-left : step.PutLeft ≡ step_of unique (cmp line other) → all lists (suc count) ≡ line ∷ all (behind_first first lists) (suc count)
        step-left by =
            both
            ∙ (λ i. by_step (sym by i) (line ∷ merged cmp unique rest (other ∷ others)) (merged cmp unique (line ∷ rest) others) (other ∷ merged cmp unique (line ∷ rest) others))
            ∙ ap (λ coming. line ∷ merged cmp unique rest coming) (sym (still ∙ is))

        step-drop : step.DropRight ≡ step_of unique (cmp line other) → all lists (suc count) ≡ all (behind_first count lists) (suc count)
        step-drop by =
            both
            ∙ (λ i. by_step (sym by i) (line ∷ merged cmp unique rest (other ∷ others)) (merged cmp unique (line ∷ rest) others) (other ∷ merged cmp unique (line ∷ rest) others))
            ∙ gone

        step-right : step.PutRight ≡ step_of unique (cmp line other) → all lists (suc count) ≡ other ∷ all (behind_first count lists) (suc count)
        step-right by =
            both
            ∙ (λ i. by_step (sym by i) (line ∷ merged cmp unique rest (other ∷ others)) (merged cmp unique (line ∷ rest) others) (other ∷ merged cmp unique (line ∷ rest) others))
            ∙ ap (λ rest. other ∷ rest) gone

  module _ (sides : List Side) where
    -- the lines of a side whose first one is held, and of one that has ended
    pub lines-held : (port size : ℕ) → EndsFirstLine (held_at sides port) size → (texts : ℕ → List ℕ)
        → coming_lines sides texts port ≡ take size (held_at sides port) ∷ lines (drop (size + 1) (held_at sides port) ++ (if is_open_at sides port then texts port else []))
    lines-held port size cut texts =
        lines-cut (held_at sides port) (take size (held_at sides port)) (drop (size + 1) (held_at sides port)) (if is_open_at sides port then texts port else []) cut

    lines-none : (port : ℕ) → held_at sides port ≡ [] → is_open_at sides port ≡ false → (texts : ℕ → List ℕ) → coming_lines sides texts port ≡ []
    lines-none port none ended texts = λ i. lines (none i ++ (if ended i then texts port else []))

    next : (count : ℕ) → count + 1 ≡ suc count
    next count = omega arith

    pub chosen-none : Chosen cmp unique sides 0 choice.Done
    chosen-none = λ port before. absurd (omega (arith, before))

    module _ (port : ℕ) where
      abbrev IsDone : Type 0
      IsDone = Chosen cmp unique sides port choice.Done

      pub begin-put : (size : ℕ) → IsDone → EndsFirstLine (held_at sides port) size → Leads cmp unique sides (port + 1) port size
      begin-put size done cut = record {
        before = omega arith;
        cut = cut;
        first = λ texts.
            ap (merged_all cmp unique (coming_lines sides texts)) (next port)
            ∙ begin (coming_lines sides texts) port (take size (held_at sides port)) _ (λ other before. lines-none other (done other before).0 (done other before).1 texts) (lines-held port size cut texts)
            ∙ ap (λ count. take size (held_at sides port) ∷ merged_all cmp unique (behind_first port (coming_lines sides texts)) count) (sym (next port));
      }

      pub begin-done : IsDone → held_at sides port ≡ [] → is_open_at sides port ≡ false → Chosen cmp unique sides (port + 1) choice.Done
      begin-done done none ended = λ other before. ⊎_elim (λ (earlier : other < port). done other earlier) (λ (later : port ≤ other). here other (omega (arith, before, later))) (cases_lt other port)
        where
          here : (other : ℕ) → other ≡ port → (held_at sides other ≡ []) × (is_open_at sides other ≡ false)
          here other same = (ap (held_at sides) same ∙ none, ap (is_open_at sides) same ∙ ended)

      pub left-on : (other size : ℕ) → IsLeftOut cmp unique sides port other size → IsLeftOut cmp unique sides (port + 1) other size
      left-on other size left = record {
        before = omega (arith, left.before);
        cut = left.cut;
        same = λ texts.
            ap (merged_all cmp unique (coming_lines sides texts)) (next port)
            ∙ left-next (coming_lines sides texts) port other left.before (left.same texts)
            ∙ ap (merged_all cmp unique (behind_first other (coming_lines sides texts))) (sym (next port));
      }

      module _ (first size : ℕ) (leads : Leads cmp unique sides port first size) where
        abbrev line : List ℕ
        line = take size (held_at sides first)

        pub leads-none : held_at sides port ≡ [] → is_open_at sides port ≡ false → Leads cmp unique sides (port + 1) first size
        leads-none none ended = record {
          before = omega (arith, leads.before);
          cut = leads.cut;
          first = λ texts.
              ap (merged_all cmp unique (coming_lines sides texts)) (next port)
              ∙ step-none (coming_lines sides texts) port first line leads.before (leads.first texts) (lines-none port none ended texts)
              ∙ ap (λ count. line ∷ merged_all cmp unique (behind_first first (coming_lines sides texts)) count) (sym (next port));
        }

        module _ (size' : ℕ) (cut : EndsFirstLine (held_at sides port) size') where
          abbrev other : List ℕ
          other = take size' (held_at sides port)

          pub leads-left : step.PutLeft ≡ step_of unique (cmp line other) → Leads cmp unique sides (port + 1) first size
          leads-left by = record {
            before = omega (arith, leads.before);
            cut = leads.cut;
            first = λ texts.
                ap (merged_all cmp unique (coming_lines sides texts)) (next port)
                ∙ step-left (coming_lines sides texts) port first line leads.before (leads.first texts) other _ (lines-held port size' cut texts) by
                ∙ ap (λ count. line ∷ merged_all cmp unique (behind_first first (coming_lines sides texts)) count) (sym (next port));
          }

          pub leads-drop : step.DropRight ≡ step_of unique (cmp line other) → IsLeftOut cmp unique sides (port + 1) port size'
          leads-drop by = record {
            before = omega arith;
            cut = cut;
            same = λ texts.
                ap (merged_all cmp unique (coming_lines sides texts)) (next port)
                ∙ step-drop (coming_lines sides texts) port first line leads.before (leads.first texts) other _ (lines-held port size' cut texts) by
                ∙ ap (merged_all cmp unique (behind_first port (coming_lines sides texts))) (sym (next port));
          }

          pub leads-right : step.PutRight ≡ step_of unique (cmp line other) → Leads cmp unique sides (port + 1) port size'
          leads-right by = record {
            before = omega arith;
            cut = cut;
            first = λ texts.
                ap (merged_all cmp unique (coming_lines sides texts)) (next port)
                ∙ step-right (coming_lines sides texts) port first line leads.before (leads.first texts) other _ (lines-held port size' cut texts) by
                ∙ ap (λ count. other ∷ merged_all cmp unique (behind_first port (coming_lines sides texts)) count) (sym (next port));
          }

pub ruleset begins = (none-waits, begin-put, begin-done)

pub ruleset steps = (none-waits, first-within, left-on, leads-none, leads-left, leads-drop, leads-right)
