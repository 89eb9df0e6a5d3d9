-- What is due of lines that are all selected, or all not.
use Rattle.std.proofs.Common.{◌≡◌, ℕ, ◌+◌, ◌^◌, ◌<◌, ◌==◌, ◌||◌, Bool, true, false, not, List, [], ◌∷◌, ◌++◌, length, Option, Some, None, Result, Ok, Err, OnOk, decimal, if◌then◌else◌, refl, ap, sym, ◌∙◌, subst, append_assoc, append-nil, arith}
use Rattle.std.specs.List.{count_by, list_any, onto_first}
use Rattle.std.proofs.lemmas.Bool.{true≢false}
use Rattle.std.proofs.lemmas.List.Sums.{sum_by-append}
use Rattle.memchr.specs.Find.{is_byte}
use Rattle.ps_lines.specs.Lines.{is_closed, lines, text_of_lines, CutsLine}
use Rattle.ps_lines.proofs.LineLemmas.{lines-first, text_of_lines-closed}
use Rattle.ut_streams.specs.Streams.{Put, Wrote}
use Rattle.ut_streams.proofs.StreamLemmas.{Put-whole, Put-none, Put-after, Put-broken, Wrote-at, Wrote-put, Wrote-same, Wrote-broken, Wrote-next_line, Wrote-last_line, Wrote-line_stopped}
use Rattle.ut_args.specs.declared.commands.Report.{Report}
use Rattle.ut_args.specs.declared.commands.Report.TheVariants as report
use Rattle.ut_grep.specs.Output.{AllAre, count_shown, due_by, is_brief, is_plain, number_behind, saturated, selected_from, shown}

-- lines that aren't selected
module _ (test : List ℕ → Bool) where
  numbers-more : (first second : ℕ) (number : Option ℕ) → number_behind second (number_behind first number) ≡ number_behind (first + second) number
  numbers-more first second None = refl
  numbers-more first second (Some number) = let same : saturated (saturated (number + first) + second) ≡ saturated (number + (first + second)) = omega arith in ap (λ n. Some n) same

  selected-passed : (head : List ℕ) (number : Option ℕ) (first : List ℕ) (texts more : List (List ℕ)) → AllAre test false (first ∷ texts)
      → selected_from test head number ((first ∷ texts) ++ more) ≡ selected_from test head (number_behind (length (first ∷ texts)) number) more
  selected-passed head number first [] more all =
      ap (λ (selected : Bool). (if selected then shown head number first else []) ++ selected_from test head (number_behind 1 number) more) all.0
  selected-passed head number first (line ∷ texts) more all =
      ap (λ (selected : Bool). (if selected then shown head number first else []) ++ selected_from test head (number_behind 1 number) ((line ∷ texts) ++ more)) all.0
      ∙ selected-passed head (number_behind 1 number) line texts more all.1
      ∙ ap (λ number. selected_from test head number more) (numbers-more 1 (length (line ∷ texts)) number
      ∙ ap (λ count. number_behind count number) (let same : 1 + length (line ∷ texts) ≡ length (first ∷ line ∷ texts) = omega arith in same))

  count-one : (line : List ℕ) (texts : List (List ℕ)) (answer : Bool) → test line ≡ answer → count_by test (line ∷ texts) ≡ (if answer then 1 else 0) + count_by test texts
  count-one line texts answer is =
      sum_by-append _ (line ∷ []) texts ∙ ap (λ (answer : Bool). 0 + (if answer then 1 else 0) + count_by test texts) is ∙ by_answer answer
    where
      by_answer : (answer : Bool) → 0 + (if answer then 1 else 0) + count_by test texts ≡ (if answer then 1 else 0) + count_by test texts
      by_answer true = omega arith
      by_answer false = omega arith

  count-passed : (texts more : List (List ℕ)) → AllAre test false texts → count_by test (texts ++ more) ≡ count_by test more
  count-passed [] more all = refl
  count-passed (line ∷ texts) more all =
      count-one line (texts ++ more) false all.0 ∙ ap (λ count. 0 + count) (count-passed texts more all.1) ∙ omega arith

  any-passed : (texts more : List (List ℕ)) → AllAre test false texts → list_any test (texts ++ more) ≡ list_any test more
  any-passed [] more all = refl
  any-passed (line ∷ texts) more all = rw all.0 (any-passed texts more all.1)

  due-passed : (form : Report) (head : List ℕ) (number : Option ℕ) (count : ℕ) (selected : Bool) (texts more : List (List ℕ)) → 0 < length texts → AllAre test false texts
      → due_by form test head (number_behind (length texts) number) count selected more ≡ due_by form test head number count selected (texts ++ more)
  due-passed form head number count selected [] more some all = absurd (omega (arith, some))
  due-passed report.Lines head number count selected (first ∷ texts) more some all = sym (selected-passed head number first texts more all)
  due-passed report.Count head number count selected (first ∷ texts) more some all = ap (λ more. count_shown head (count + more)) (sym (count-passed (first ∷ texts) more all))
  due-passed report.Path head number count selected (first ∷ texts) more some all =
      ap (λ (any : Bool). if selected then [] else if any then head else []) (sym (any-passed (first ∷ texts) more all))
  due-passed report.Nothing head number count selected (first ∷ texts) more some all = refl

  pub Wrote-passed : (form : Report) (head : List ℕ) (number behind : Option ℕ) (count : ℕ) (selected picked : Bool) (texts : List (List ℕ)) (old : List ℕ)
      → behind ≡ number_behind (length texts) number → picked ≡ false → 0 < length texts → AllAre test picked texts
      → Wrote (λ more. due_by form test head number count selected (texts ++ more)) (due_by form test head behind count selected) old old true
  Wrote-passed form head number behind count selected picked texts old is not some all =
      subst (λ number'. Wrote (λ more. due_by form test head number count selected (texts ++ more)) (due_by form test head number' count selected) old old true) (sym is)
      (Wrote-same (λ more. due_by form test head number count selected (texts ++ more)) (due_by form test head (number_behind (length texts) number) count selected) old true
      (λ ok more. due-passed form head number count selected texts more some (subst (λ picked. AllAre test picked texts) not all)))

  pub Wrote-lines : (form : Report) (head : List ℕ) (number behind : Option ℕ) (count : ℕ) (selected : Bool) (texts : List (List ℕ)) (old new : List ℕ) (whole : Bool)
      → form ≡ report.Lines → Wrote (λ more. selected_from test head number (texts ++ more)) (selected_from test head behind) old new whole
      → Wrote (λ more. due_by form test head number count selected (texts ++ more)) (due_by form test head behind count true) old new whole
  Wrote-lines form head number behind count selected texts old new whole is wrote =
      subst (λ form. Wrote (λ more. due_by form test head number count selected (texts ++ more)) (due_by form test head behind count true) old new whole) (sym is) wrote

  pub selects-passed : (selected picked : Bool) (texts more : List (List ℕ)) → picked ≡ false → AllAre test picked texts
      → (selected || list_any test more) ≡ (selected || list_any test (texts ++ more))
  selects-passed selected picked texts more not all =
      ap (λ any. selected || any) (sym (any-passed texts more (subst (λ picked. AllAre test picked texts) not all)))

  -- lines that are selected
  count-picked : (texts more : List (List ℕ)) → AllAre test true texts → count_by test (texts ++ more) ≡ length texts + count_by test more
  count-picked [] more all = let same : count_by test more ≡ 0 + count_by test more = omega arith in same
  count-picked (line ∷ texts) more all =
      count-one line (texts ++ more) true all.0 ∙ ap (λ count. 1 + count) (count-picked texts more all.1)
      ∙ (let same : 1 + (length texts + count_by test more) ≡ length (line ∷ texts) + count_by test more = omega arith in same)

  any-picked : (texts more : List (List ℕ)) → 0 < length texts → AllAre test true texts → list_any test (texts ++ more) ≡ true
  any-picked [] more some all = absurd (omega (arith, some))
  any-picked (line ∷ texts) more some all = rw all.0 refl

  selects-found : (selected : Bool) (texts more : List (List ℕ)) → 0 < length texts → AllAre test true texts → true ≡ (selected || list_any test (texts ++ more))
  selects-found true texts more some all = refl
  selects-found false texts more some all = sym (any-picked texts more some all)

  pub selects-picked : (selected now picked : Bool) (texts more : List (List ℕ)) → now ≡ true → picked ≡ true → 0 < length texts → AllAre test picked texts
      → (now || list_any test more) ≡ (selected || list_any test (texts ++ more))
  selects-picked selected now picked texts more is picks some all =
      ap (λ now. now || list_any test more) is ∙ selects-found selected texts more some (subst (λ picked. AllAre test picked texts) picks all)

  due-counted : (head : List ℕ) (number : Option ℕ) (count : ℕ) (selected : Bool) (texts more : List (List ℕ)) → AllAre test true texts
      → due_by report.Count test head number (saturated (count + length texts)) true more ≡ due_by report.Count test head number count selected (texts ++ more)
  due-counted head number count selected texts more all =
      let same : saturated (saturated (count + length texts) + count_by test more) ≡ saturated (count + (length texts + count_by test more)) = omega arith in
      ap (λ number. head ++ (decimal number ++ 10 ∷ [])) same ∙ ap (λ more. count_shown head (count + more)) (sym (count-picked texts more all))

  pub Wrote-counted : (form : Report) (head : List ℕ) (number : Option ℕ) (count counted : ℕ) (selected picked : Bool) (texts : List (List ℕ)) (old : List ℕ)
      → form ≡ report.Count → counted ≡ saturated (count + length texts) → picked ≡ true → AllAre test picked texts
      → Wrote (λ more. due_by form test head number count selected (texts ++ more)) (due_by form test head number counted true) old old true
  Wrote-counted form head number count counted selected picked texts old is same picks all =
      subst (λ form. Wrote (λ more. due_by form test head number count selected (texts ++ more)) (due_by form test head number counted true) old old true) (sym is)
      (subst (λ counted. Wrote (λ more. due_by report.Count test head number count selected (texts ++ more)) (due_by report.Count test head number counted true) old old true) (sym same)
      (Wrote-same (λ more. due_by report.Count test head number count selected (texts ++ more)) (due_by report.Count test head number (saturated (count + length texts)) true) old true
      (λ ok more. due-counted head number count selected texts more (subst (λ picked. AllAre test picked texts) picks all))))

  due-named : (head : List ℕ) (number : Option ℕ) (count : ℕ) (selected : Bool) (texts more : List (List ℕ)) → 0 < length texts → AllAre test true texts
      → due_by report.Path test head number count selected (texts ++ more) ≡ (if selected then [] else head) ++ due_by report.Path test head number count true more
  due-named head number count true texts more some all = refl
  due-named head number count false texts more some all =
      ap (λ (any : Bool). if any then head else []) (any-picked texts more some all) ∙ sym (append-nil head)

  pub Wrote-named : (form : Report) (head : List ℕ) (number : Option ℕ) (count : ℕ) (selected now picked : Bool) (texts : List (List ℕ)) (old new : List ℕ) (whole : Bool)
      → form ≡ report.Path → now ≡ true → picked ≡ true → 0 < length texts → AllAre test picked texts → Put (if selected then [] else head) old new whole
      → Wrote (λ more. due_by form test head number count selected (texts ++ more)) (due_by form test head number count now) old new whole
  Wrote-named form head number count selected now picked texts old new whole is same picks some all put =
      subst (λ form. Wrote (λ more. due_by form test head number count selected (texts ++ more)) (due_by form test head number count now) old new whole) (sym is)
      (subst (λ now. Wrote (λ more. due_by report.Path test head number count selected (texts ++ more)) (due_by report.Path test head number count now) old new whole) (sym same)
      (Wrote-put (λ more. due_by report.Path test head number count selected (texts ++ more)) (due_by report.Path test head number count true) (if selected then [] else head) old new whole
      (λ more. due-named head number count selected texts more some (subst (λ picked. AllAre test picked texts) picks all)) put))

  pub Wrote-silent : (form : Report) (head : List ℕ) (number : Option ℕ) (count : ℕ) (selected : Bool) (texts : List (List ℕ)) (old : List ℕ) → form ≡ report.Nothing
      → Wrote (λ more. due_by form test head number count selected (texts ++ more)) (due_by form test head number count true) old old true
  Wrote-silent form head number count selected texts old is =
      subst (λ form. Wrote (λ more. due_by form test head number count selected (texts ++ more)) (due_by form test head number count true) old old true) (sym is)
      (Wrote-same (λ more. []) (λ more. []) old true (λ ok more. refl))

  -- one line more
  pub Wrote-shown : (head : List ℕ) (number : Option ℕ) (line old new : List ℕ) (whole : Bool) → test line ≡ true → Put (shown head number line) old new whole
      → Wrote (λ more. selected_from test head number (line ∷ more)) (selected_from test head (number_behind 1 number)) old new whole
  Wrote-shown head number line old new whole is put =
      Wrote-put (λ more. selected_from test head number (line ∷ more)) (selected_from test head (number_behind 1 number)) (shown head number line) old new whole
      (λ more. ap (λ (selected : Bool). (if selected then shown head number line else []) ++ selected_from test head (number_behind 1 number) more) is) put

  plain-block : (texts more : List (List ℕ)) → AllAre test true texts
      → selected_from test [] None (texts ++ more) ≡ text_of_lines texts ++ selected_from test [] None more
  plain-block [] more all = refl
  plain-block (line ∷ texts) more all =
      ap (λ (selected : Bool). (if selected then shown [] None line else []) ++ selected_from test [] None (texts ++ more)) all.0
      ∙ append_assoc line (10 ∷ []) (selected_from test [] None (texts ++ more))
      ∙ ap (λ rest. line ++ (10 ∷ rest)) (plain-block texts more all.1) ∙ sym (append_assoc line (10 ∷ text_of_lines texts) (selected_from test [] None more))

  pub Wrote-block : (block old new : List ℕ) (whole : Bool) → is_closed block ≡ true → AllAre test true (lines block) → Put block old new whole
      → Wrote (λ more. selected_from test [] None (lines block ++ more)) (selected_from test [] None) old new whole
  Wrote-block block old new whole closed all put =
      Wrote-put (λ more. selected_from test [] None (lines block ++ more)) (selected_from test [] None) block old new whole
      (λ more. plain-block (lines block) more all ∙ ap (λ text. text ++ selected_from test [] None more) (text_of_lines-closed block closed)) put

  pub Wrote-plain : (head : List ℕ) (number : Option ℕ) (block old new : List ℕ) (whole : Bool) → is_plain head number ≡ true → is_closed block ≡ true
      → AllAre test true (lines block) → Put block old new whole
      → Wrote (λ more. selected_from test head number (lines block ++ more)) (selected_from test head number) old new whole
  Wrote-plain [] None block old new whole plain closed all put = Wrote-block block old new whole closed all put
  Wrote-plain (byte ∷ head) None block old new whole plain closed all put = absurd (true≢false (sym plain))
  Wrote-plain head (Some number) block old new whole plain closed all put = absurd (true≢false (sym plain))

  pub Wrote-one : (head : List ℕ) (number behind : Option ℕ) (line old new : List ℕ) (whole : Bool) → behind ≡ number_behind 1 number → test line ≡ true
      → Put (shown head number line) old new whole
      → Wrote (λ more. selected_from test head number (line ∷ more)) (selected_from test head behind) old new whole
  Wrote-one head number behind line old new whole is picks put =
      subst (λ number'. Wrote (λ more. selected_from test head number (line ∷ more)) (selected_from test head number') old new whole) (sym is)
      (Wrote-shown head number line old new whole picks put)

  pub AllAre-first : (answer : Bool) (text line rest : List ℕ) → CutsLine text line rest → AllAre test answer (lines text) → (test line ≡ answer) × AllAre test answer (lines rest)
  AllAre-first answer text line rest cut all = subst (λ texts. AllAre test answer texts) (lines-first text line rest cut) all

  pub line-put : (head : List ℕ) (number behind : Option ℕ) (first : List (List ℕ) → List ℕ) (text line rest old half new : List ℕ) (whole : Bool) → CutsLine text line rest
      → behind ≡ number_behind 1 number → AllAre test true (lines text) → Wrote first (λ more. selected_from test head number (lines text ++ more)) old half true
      → Put (shown head number line) half new whole → Wrote first (λ more. selected_from test head behind (lines rest ++ more)) old new whole
  line-put head number behind first text line rest old half new whole cut is all done put =
      subst (λ number. Wrote first (λ more. selected_from test head number (lines rest ++ more)) old new whole) (sym is)
      (Wrote-next_line first (selected_from test head number) (selected_from test head (number_behind 1 number)) text line rest old half new whole cut done
      (Wrote-shown head number line half new whole (AllAre-first true text line rest cut all).0 put))

  pub line-stopped : (head : List ℕ) (number behind : Option ℕ) (first now : List (List ℕ) → List ℕ) (text line rest old half new : List ℕ) → CutsLine text line rest
      → behind ≡ number_behind 1 number → AllAre test true (lines text) → Wrote first (λ more. selected_from test head number (lines text ++ more)) old half true
      → Put (shown head number line) half new false → Wrote first now old new false
  line-stopped head number behind first now text line rest old half new cut is all done put =
      Wrote-broken first (λ more. selected_from test head behind (lines rest ++ more)) now old new
      (line-put head number behind first text line rest old half new false cut is all done put)

  -- nothing more is due
  pub due-done : (form : Report) (head : List ℕ) (number : Option ℕ) (count : ℕ) (texts more : List (List ℕ)) → is_brief form ≡ true
      → due_by form test head number count true more ≡ due_by form test head number count true (texts ++ more)
  due-done report.Lines head number count texts more brief = absurd (true≢false (sym brief))
  due-done report.Count head number count texts more brief = absurd (true≢false (sym brief))
  due-done report.Path head number count texts more brief = refl
  due-done report.Nothing head number count texts more brief = refl

saturated-self : (count : ℕ) → saturated (saturated count) ≡ saturated count
saturated-self count = omega arith

-- a count of 64 bits is written
saturated-small : (count : ℕ) → count < 2 ^ 64 → saturated count ≡ count
saturated-small count small = omega (arith, small)

pub Put-count : (head : List ℕ) (count : ℕ) (old new : List ℕ) (whole : Bool) → count < 2 ^ 64 → Put (head ++ (decimal count ++ 10 ∷ [])) old new whole
    → Put (count_shown head count) old new whole
Put-count head count old new whole small put = rw (saturated-small count small) put

pub ruleset counts = (Put-whole, Put-none, Put-after, Put-broken, Put-count)

-- a closed text has as many lines as newlines
some-lines : (byte : ℕ) (rest : List ℕ) → 0 < length (lines (byte ∷ rest))
some-lines byte rest = by_end (byte == 10) (lines rest)
  where
    by_end : (ends : Bool) (texts : List (List ℕ)) → 0 < length (if ends then [] ∷ texts else onto_first byte texts)
    by_end true texts = omega arith
    by_end false [] = omega arith
    by_end false (line ∷ others) = omega arith

length-onto : (byte : ℕ) (texts : List (List ℕ)) → 0 < length texts → length (onto_first byte texts) ≡ length texts
length-onto byte [] some = absurd (omega (arith, some))
length-onto byte (line ∷ others) some = refl

newline-one : (byte : ℕ) (rest : List ℕ) (answer : Bool) → (byte == 10) ≡ answer → count_by (is_byte 10) (byte ∷ rest) ≡ (if answer then 1 else 0) + count_by (is_byte 10) rest
newline-one byte rest answer is =
    sum_by-append _ (byte ∷ []) rest ∙ ap (λ (answer : Bool). 0 + (if answer then 1 else 0) + count_by (is_byte 10) rest) is ∙ by_answer answer
  where
    by_answer : (answer : Bool) → 0 + (if answer then 1 else 0) + count_by (is_byte 10) rest ≡ (if answer then 1 else 0) + count_by (is_byte 10) rest
    by_answer true = omega arith
    by_answer false = omega arith

pub newlines-lines : (text : List ℕ) → is_closed text ≡ true → count_by (is_byte 10) text ≡ length (lines text)
newlines-lines [] closed = refl
newlines-lines (byte ∷ []) closed =
    newline-one byte [] true closed ∙ sym (ap (λ (ends : Bool). length (if ends then [] ∷ lines [] else onto_first byte (lines []))) closed)
newlines-lines (byte ∷ next ∷ rest) closed = by_end (byte == 10) refl (newlines-lines (next ∷ rest) closed)
  where
    by_end : (ends : Bool) → (byte == 10) ≡ ends → count_by (is_byte 10) (next ∷ rest) ≡ length (lines (next ∷ rest))
        → count_by (is_byte 10) (byte ∷ next ∷ rest) ≡ length (if ends then [] ∷ lines (next ∷ rest) else onto_first byte (lines (next ∷ rest)))
    by_end true is same =
        newline-one byte (next ∷ rest) true is ∙ ap (λ count. 1 + count) same
        ∙ (let size : 1 + length (lines (next ∷ rest)) ≡ length ([] ∷ lines (next ∷ rest)) = omega arith in size)
    by_end false is same =
        newline-one byte (next ∷ rest) false is ∙ ap (λ count. 0 + count) same
        ∙ (let size : 0 + length (lines (next ∷ rest)) ≡ length (lines (next ∷ rest)) = omega arith in size)
        ∙ sym (length-onto byte (lines (next ∷ rest)) (some-lines next rest))

pub lines-some : (block : List ℕ) → false ≡ (length block == 0) → 0 < length (lines block)
lines-some [] some = absurd (true≢false (sym some))
lines-some (byte ∷ block) some = some-lines byte block

pub on-ok : {T E : Type 0} (result : Result T E) (fact : Type 0) → fact → OnOk result fact
on-ok (Ok value) fact is = is
on-ok (Err error) fact is = tt
