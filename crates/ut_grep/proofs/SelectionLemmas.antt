-- From one line in which something is found to the next.
use Rattle.std.proofs.Common.{◌≡◌, ℕ, ◌||◌, ◌&&◌, Bool, true, false, not, Option, List, [], ◌∷◌, ◌++◌, refl, ap, sym, ◌∙◌, subst, append_assoc}
use mathlib.Core.Path.{fun_ext}
use Rattle.std.specs.List.{list_any}
use Rattle.std.proofs.lemmas.Bool.{true≢false, or_parts}
use Rattle.ps_lines.specs.Lines.{lines}
use Rattle.ut_streams.specs.Streams.{Wrote}
use Rattle.ut_streams.proofs.StreamLemmas.{Wrote-at, Wrote-broken, Wrote-trans}
use Rattle.ut_args.specs.declared.commands.Report.{Report}
use Rattle.ut_regex.specs.Having.{CutsOut}
use Rattle.ut_regex.proofs.HavingLemmas.{lines_cut}
use Rattle.ut_grep.specs.Output.{AllAre, due_by, is_brief, picked, picked_by}
use Rattle.ut_grep.specs.Tallies.{due_of, selects_of}
use Rattle.ut_grep.specs.declared.tally.Tally.{Tally}
use Rattle.ut_grep.proofs.TallyLemmas.{due-done}

-- what answers alike selects alike
pub same-test : (inverts : Bool) (had other : List ℕ → Bool) → ((line : List ℕ) → other line ≡ had line) → picked_by inverts other ≡ picked_by inverts had
same-test inverts had other same = fun_ext (λ line. ap (picked inverts) (same line))

pub Wrote-tested : (was : List (List ℕ) → List ℕ) (tally : Tally) (inverts : Bool) (had other : List ℕ → Bool) (old new : List ℕ) (whole : Bool)
    → ((line : List ℕ) → other line ≡ had line) → Wrote was (due_of tally (picked_by inverts had)) old new whole → Wrote was (due_of tally (picked_by inverts other)) old new whole
Wrote-tested was tally inverts had other old new whole same wrote =
    subst (λ test. Wrote was (due_of tally test) old new whole) (sym (same-test inverts had other same)) wrote

pub selects-tested : (tally : Tally) (inverts : Bool) (had other : List ℕ → Bool) → ((line : List ℕ) → other line ≡ had line) → (more : List (List ℕ))
    → selects_of tally (picked_by inverts other) more ≡ selects_of tally (picked_by inverts had) more
selects-tested tally inverts had other same more = ap (λ test. selects_of tally test more) (same-test inverts had other same)

picked-found : (inverts : Bool) → picked inverts true ≡ not inverts
picked-found true = refl
picked-found false = refl

picked-not : (inverts : Bool) → picked inverts false ≡ inverts
picked-not true = refl
picked-not false = refl

pub found-picked : (inverts : Bool) (had : List ℕ → Bool) (line : List ℕ) → had line ≡ true → picked_by inverts had line ≡ not inverts
found-picked inverts had line is = ap (picked inverts) is ∙ picked-found inverts

pub lacking-picked : (inverts : Bool) (had : List ℕ → Bool) (texts : List (List ℕ)) → list_any had texts ≡ false → AllAre (picked_by inverts had) inverts texts
lacking-picked inverts had [] none = tt
lacking-picked inverts had (line ∷ texts) none =
    let parts = or_parts (had line) (list_any had texts) none in
    (ap (picked inverts) parts.0 ∙ picked-not inverts, lacking-picked inverts had texts parts.1)

-- a line that is found, and those before it
module _ (text before line rest : List ℕ) (cut : CutsOut text before line rest) where
  lines-on : (more : List (List ℕ)) → lines before ++ line ∷ (lines rest ++ more) ≡ lines text ++ more
  lines-on more =
      sym (append_assoc (lines before) (line ∷ lines rest) more) ∙ ap (λ texts. texts ++ more) (sym (lines_cut text before line rest cut))

  pub Wrote-found : (first due due' : List (List ℕ) → List ℕ) (old half new : List ℕ) (whole : Bool)
      → Wrote first (λ more. due (lines text ++ more)) old half true → Wrote (λ more. due (lines before ++ line ∷ more)) due' half new whole
      → Wrote first (λ more. due' (lines rest ++ more)) old new whole
  Wrote-found first due due' old half new whole done wrote =
      Wrote-trans first (λ more. due (lines text ++ more)) (λ more. due' (lines rest ++ more)) old half new whole done
      (record {
        kept = wrote.kept;
        grew = λ ok more. wrote.grew ok (lines rest ++ more) ∙ ap (λ coming. half ++ due coming) (lines-on more);
        part = λ more. rw (← lines-on more) (wrote.part (lines rest ++ more));
      })

  pub Wrote-found_stopped : (first now due due' : List (List ℕ) → List ℕ) (old half new : List ℕ)
      → Wrote first (λ more. due (lines text ++ more)) old half true → Wrote (λ more. due (lines before ++ line ∷ more)) due' half new false
      → Wrote first now old new false
  Wrote-found_stopped first now due due' old half new done wrote =
      Wrote-broken first (λ more. due' (lines rest ++ more)) now old new (Wrote-found first due due' old half new false done wrote)

  pub selects-found : (was now : List (List ℕ) → Bool) → ((more : List (List ℕ)) → now more ≡ was (lines before ++ line ∷ more)) → (more : List (List ℕ))
      → now (lines rest ++ more) ≡ was (lines text ++ more)
  selects-found was now step more = step (lines rest ++ more) ∙ ap was (lines-on more)

-- two steps of a tally
pub Wrote-both : (due due' due'' : List (List ℕ) → List ℕ) (before : List (List ℕ)) (line old half new : List ℕ) (whole : Bool)
    → Wrote (λ more. due (before ++ more)) due' old half true → Wrote (λ more. due' (line ∷ more)) due'' half new whole
    → Wrote (λ more. due (before ++ line ∷ more)) due'' old new whole
Wrote-both due due' due'' before line old half new whole first second =
    Wrote-trans (λ more. due (before ++ line ∷ more)) (λ more. due' (line ∷ more)) due'' old half new whole
    (record { kept = first.kept; grew = λ ok more. first.grew ok (line ∷ more); part = λ more. first.part (line ∷ more) }) second

pub Wrote-both_stopped : (due due' now : List (List ℕ) → List ℕ) (before : List (List ℕ)) (line old new : List ℕ)
    → Wrote (λ more. due (before ++ more)) due' old new false → Wrote (λ more. due (before ++ line ∷ more)) now old new false
Wrote-both_stopped due due' now before line old new first =
    Wrote-broken (λ more. due (before ++ line ∷ more)) (λ more. due' (line ∷ more)) now old new
    (record { kept = first.kept; grew = λ ok. absurd (true≢false (sym ok)); part = λ more. first.part (line ∷ more) })

-- a test that answers alike finds nothing alike
pub lacking-same : (inverts : Bool) (had now : List ℕ → Bool) (texts : List (List ℕ)) → ((line : List ℕ) → now line ≡ had line) → list_any now texts ≡ false
    → AllAre (picked_by inverts had) inverts texts
lacking-same inverts had now texts same none = lacking-picked inverts had texts (ap (λ had. list_any had texts) (sym (fun_ext same)) ∙ none)

-- nothing more is due
due-settled : (form : Report) (test : List ℕ → Bool) (head : List ℕ) (number : Option ℕ) (count : ℕ) (selected : Bool) (texts more : List (List ℕ))
    → (selected && is_brief form) ≡ true → due_by form test head number count selected more ≡ due_by form test head number count selected (texts ++ more)
due-settled form test head number count true texts more done = due-done test form head number count texts more done
due-settled form test head number count false texts more done = absurd (true≢false (sym done))

pub Wrote-settled : (was : List (List ℕ) → List ℕ) (tally : Tally) (test : List ℕ → Bool) (texts : List (List ℕ)) (old new : List ℕ) → (tally.selected && is_brief tally.report) ≡ true
    → Wrote was (λ more. due_of tally test (texts ++ more)) old new true → Wrote was (due_of tally test) old new true
Wrote-settled was tally test texts old new done wrote =
    Wrote-at was was (λ more. due_of tally test (texts ++ more)) (due_of tally test) old new true (λ more. refl)
    (λ more. due-settled tally.report test tally.head.items tally.number tally.count tally.selected texts more done) wrote

selects-done : (selected brief one other : Bool) → (selected && brief) ≡ true → (selected || one) ≡ (selected || other)
selects-done true brief one other done = refl
selects-done false brief one other done = absurd (true≢false (sym done))

pub selects-settled : (tally : Tally) (test : List ℕ → Bool) (texts more : List (List ℕ)) → (tally.selected && is_brief tally.report) ≡ true
    → selects_of tally test more ≡ selects_of tally test (texts ++ more)
selects-settled tally test texts more done = selects-done tally.selected (is_brief tally.report) (list_any test more) (list_any test (texts ++ more)) done
