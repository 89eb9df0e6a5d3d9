-- One step of a merge after another.
use Rattle.std.proofs.Common.{◌≡◌, ℕ, List, [], ◌∷◌, ◌++◌, Bool, true, false, not, refl, ap, sym, ◌∙◌, append_assoc, append-nil, ◌⊎◌, inl, inr, Ordering}
use Rattle.ps_lines.specs.Lines.{are_lines, lines, text_of_lines, has_newline, is_closed, CutsLine}
use Rattle.ps_lines.proofs.LineLemmas.{lines-held, text_of_lines-closed}
use Rattle.ps_lines.proofs.ClosedLemmas.{closed-plain}
use Rattle.ps_lines.proofs.TextsLemmas.{begins-trans}
use Rattle.std.proofs.lemmas.Bool.{and_parts, true≢false}
use Rattle.ut_streams.specs.Streams.{Put, Wrote}
use Rattle.ut_streams.proofs.StreamLemmas.{Wrote-trans, Wrote-put, Wrote-same, Wrote-broken}
use Rattle.ut_sort.specs.declared.merging.Step.{Step}
use Rattle.ut_sort.specs.declared.merging.Step.TheVariants as step
use Rattle.ut_sort.specs.Merging.{by_step, step_of, merged, merged_texts, merged_with}

-- the first lines of texts that go on
first_lines : (text line rest more : List ℕ) → CutsLine text line rest → lines (text ++ more) ≡ line ∷ lines (rest ++ more)
first_lines text line rest more cut = lines-held [] text line rest more refl cut

module _ (cmp : List ℕ → List ℕ → Ordering) (unique : Bool) where
  put_then : (line : List ℕ) (others : List (List ℕ)) → text_of_lines (line ∷ others) ≡ (line ++ 10 ∷ []) ++ text_of_lines others
  put_then line others = sym (append_assoc line (10 ∷ []) (text_of_lines others))

  both_first : (left right line other left_rest right_rest : List ℕ) (more : List ℕ × List ℕ) → CutsLine left line left_rest → CutsLine right other right_rest
      → merged_with cmp unique left right more ≡ text_of_lines (merged cmp unique (line ∷ lines (left_rest ++ more.0)) (other ∷ lines (right_rest ++ more.1)))
  both_first left right line other left_rest right_rest more cut cut' =
      λ i. text_of_lines (merged cmp unique (first_lines left line left_rest more.0 cut i) (first_lines right other right_rest more.1 cut' i))

  left_due : (left right line other left_rest right_rest : List ℕ) (more : List ℕ × List ℕ) → CutsLine left line left_rest → CutsLine right other right_rest
      → step.PutLeft ≡ step_of unique (cmp line other) → merged_with cmp unique left right more ≡ (line ++ 10 ∷ []) ++ merged_with cmp unique left_rest right more
  left_due left right line other left_rest right_rest more cut cut' is =
      both_first left right line other left_rest right_rest more cut cut'
      ∙ (λ i. text_of_lines (by_step (sym is i) (line ∷ merged cmp unique (lines (left_rest ++ more.0)) (other ∷ lines (right_rest ++ more.1)))
      (merged cmp unique (line ∷ lines (left_rest ++ more.0)) (lines (right_rest ++ more.1)))
      (other ∷ merged cmp unique (line ∷ lines (left_rest ++ more.0)) (lines (right_rest ++ more.1)))))
      ∙ put_then line (merged cmp unique (lines (left_rest ++ more.0)) (other ∷ lines (right_rest ++ more.1)))
      ∙ ap (λ coming. (line ++ 10 ∷ []) ++ text_of_lines (merged cmp unique (lines (left_rest ++ more.0)) coming)) (sym (first_lines right other right_rest more.1 cut'))

  right_due : (left right line other left_rest right_rest : List ℕ) (more : List ℕ × List ℕ) → CutsLine left line left_rest → CutsLine right other right_rest
      → step.PutRight ≡ step_of unique (cmp line other) → merged_with cmp unique left right more ≡ (other ++ 10 ∷ []) ++ merged_with cmp unique left right_rest more
  right_due left right line other left_rest right_rest more cut cut' is =
      both_first left right line other left_rest right_rest more cut cut'
      ∙ (λ i. text_of_lines (by_step (sym is i) (line ∷ merged cmp unique (lines (left_rest ++ more.0)) (other ∷ lines (right_rest ++ more.1)))
      (merged cmp unique (line ∷ lines (left_rest ++ more.0)) (lines (right_rest ++ more.1)))
      (other ∷ merged cmp unique (line ∷ lines (left_rest ++ more.0)) (lines (right_rest ++ more.1)))))
      ∙ put_then other (merged cmp unique (line ∷ lines (left_rest ++ more.0)) (lines (right_rest ++ more.1)))
      ∙ ap (λ coming. (other ++ 10 ∷ []) ++ text_of_lines (merged cmp unique coming (lines (right_rest ++ more.1)))) (sym (first_lines left line left_rest more.0 cut))

  drop_due : (left right line other left_rest right_rest : List ℕ) (more : List ℕ × List ℕ) → CutsLine left line left_rest → CutsLine right other right_rest
      → step.DropRight ≡ step_of unique (cmp line other) → merged_with cmp unique left right more ≡ merged_with cmp unique left right_rest more
  drop_due left right line other left_rest right_rest more cut cut' is =
      both_first left right line other left_rest right_rest more cut cut'
      ∙ (λ i. text_of_lines (by_step (sym is i) (line ∷ merged cmp unique (lines (left_rest ++ more.0)) (other ∷ lines (right_rest ++ more.1)))
      (merged cmp unique (line ∷ lines (left_rest ++ more.0)) (lines (right_rest ++ more.1)))
      (other ∷ merged cmp unique (line ∷ lines (left_rest ++ more.0)) (lines (right_rest ++ more.1)))))
      ∙ ap (λ coming. text_of_lines (merged cmp unique coming (lines (right_rest ++ more.1)))) (sym (first_lines left line left_rest more.0 cut))

  module _ (was : List ℕ × List ℕ → List ℕ) (left right line other left_rest right_rest old half : List ℕ) (cut : CutsLine left line left_rest)
      (cut' : CutsLine right other right_rest) (done : Wrote was (merged_with cmp unique left right) old half true) where
    pub left_put : (new : List ℕ) → step.PutLeft ≡ step_of unique (cmp line other) → Put (line ++ 10 ∷ []) half new true
        → Wrote was (merged_with cmp unique left_rest right) old new true
    left_put new is put =
        Wrote-trans was (merged_with cmp unique left right) (merged_with cmp unique left_rest right) old half new true done
        (Wrote-put (merged_with cmp unique left right) (merged_with cmp unique left_rest right) (line ++ 10 ∷ []) half new true
        (λ more. left_due left right line other left_rest right_rest more cut cut' is) put)

    pub left_stop : (new : List ℕ) → step.PutLeft ≡ step_of unique (cmp line other) → Put (line ++ 10 ∷ []) half new false → Wrote was (λ more. []) old new false
    left_stop new is put =
        Wrote-broken was (merged_with cmp unique left_rest right) (λ more. []) old new
        (Wrote-trans was (merged_with cmp unique left right) (merged_with cmp unique left_rest right) old half new false done
        (Wrote-put (merged_with cmp unique left right) (merged_with cmp unique left_rest right) (line ++ 10 ∷ []) half new false
        (λ more. left_due left right line other left_rest right_rest more cut cut' is) put))

    pub right_put : (new : List ℕ) → step.PutRight ≡ step_of unique (cmp line other) → Put (other ++ 10 ∷ []) half new true
        → Wrote was (merged_with cmp unique left right_rest) old new true
    right_put new is put =
        Wrote-trans was (merged_with cmp unique left right) (merged_with cmp unique left right_rest) old half new true done
        (Wrote-put (merged_with cmp unique left right) (merged_with cmp unique left right_rest) (other ++ 10 ∷ []) half new true
        (λ more. right_due left right line other left_rest right_rest more cut cut' is) put)

    pub right_stop : (new : List ℕ) → step.PutRight ≡ step_of unique (cmp line other) → Put (other ++ 10 ∷ []) half new false → Wrote was (λ more. []) old new false
    right_stop new is put =
        Wrote-broken was (merged_with cmp unique left right_rest) (λ more. []) old new
        (Wrote-trans was (merged_with cmp unique left right) (merged_with cmp unique left right_rest) old half new false done
        (Wrote-put (merged_with cmp unique left right) (merged_with cmp unique left right_rest) (other ++ 10 ∷ []) half new false
        (λ more. right_due left right line other left_rest right_rest more cut cut' is) put))

    pub right_drop : step.DropRight ≡ step_of unique (cmp line other) → Wrote was (merged_with cmp unique left right_rest) old half true
    right_drop is =
        Wrote-trans was (merged_with cmp unique left right) (merged_with cmp unique left right_rest) old half half true done
        (Wrote-same (merged_with cmp unique left right) (merged_with cmp unique left right_rest) half true
        (λ ok more. sym (drop_due left right line other left_rest right_rest more cut cut' is)))

  -- what is left where one side has come to its end
  pub rests_due : (left right : List ℕ) → is_closed left ≡ true → is_closed right ≡ true → (has_newline left ≡ false) ⊎ (has_newline right ≡ false)
      → merged_texts cmp unique left right ≡ left ++ right
  rests_due left right closed closed' (inl plain) =
      let none : left ≡ [] = closed-plain left closed plain in
      ap (λ left. merged_texts cmp unique left right) none ∙ text_of_lines-closed right closed' ∙ ap (λ left. left ++ right) (sym none)
  rests_due left right closed closed' (inr plain) =
      let none : right ≡ [] = closed-plain right closed' plain in
      ap (λ right. merged_texts cmp unique left right) none ∙ ap text_of_lines (ended (lines left)) ∙ text_of_lines-closed left closed
      ∙ sym (append-nil left) ∙ ap (λ right. left ++ right) (sym none)
    where
      ended : (items : List (List ℕ)) → merged cmp unique items [] ≡ items
      ended [] = refl
      ended (item ∷ items) = refl

  -- all of both
  pub merge_all : (left right rest rest' old half new : List ℕ) (whole : Bool) → is_closed rest ≡ true → is_closed rest' ≡ true
      → (has_newline rest ≡ false) ⊎ (has_newline rest' ≡ false)
      → Wrote (merged_with cmp unique left right) (merged_with cmp unique rest rest') old half true → Put (rest ++ rest') half new whole
      → Put (merged_texts cmp unique left right) old new whole
  merge_all left right rest rest' old half new whole closed closed' plain done put =
      let now : merged_with cmp unique rest rest' ([], []) ≡ rest ++ rest' =
      (λ i. merged_texts cmp unique (append-nil rest i) (append-nil rest' i)) ∙ rests_due rest rest' closed closed' plain in
      let was : merged_with cmp unique left right ([], []) ≡ merged_texts cmp unique left right =
      λ i. merged_texts cmp unique (append-nil left i) (append-nil right i) in
      let grown : half ++ (rest ++ rest') ≡ old ++ merged_texts cmp unique left right =
      ap (λ due. half ++ due) (sym now) ∙ done.grew refl ([], []) ∙ ap (λ due. old ++ due) was in
      record { kept = begins-trans new half old put.kept done.kept; grew = λ ok. put.grew ok ∙ grown; part = rw (← grown) put.part }

  pub merge_stopped : (left right old new : List ℕ) → Wrote (merged_with cmp unique left right) (λ more. []) old new false
      → Put (merged_texts cmp unique left right) old new false
  merge_stopped left right old new broken =
      let was : merged_with cmp unique left right ([], []) ≡ merged_texts cmp unique left right =
      λ i. merged_texts cmp unique (append-nil left i) (append-nil right i) in
      record { kept = broken.kept; grew = λ ok. absurd (true≢false (sym ok)); part = rw (← was) (broken.part ([], [])) }

-- the lines of both are lines
module _ (cmp : List ℕ → List ℕ → Ordering) (unique : Bool) where
  pub are_lines-merged : (items others : List (List ℕ)) → are_lines items ≡ true → are_lines others ≡ true → are_lines (merged cmp unique items others) ≡ true
  are_lines-merged [] others are are' = are'
  are_lines-merged (item ∷ items) [] are are' = are
  are_lines-merged (item ∷ items) (other ∷ others) are are' =
      let parts = and_parts (not (has_newline item)) (are_lines items) are in
      let parts' = and_parts (not (has_newline other)) (are_lines others) are' in
      by_next (step_of unique (cmp item other)) (merged cmp unique items (other ∷ others)) (merged cmp unique (item ∷ items) others) parts.0 parts'.0
      (are_lines-merged items (other ∷ others) parts.1 are') (are_lines-merged (item ∷ items) others are parts'.1)
    where
      by_next : (next : Step) (left right : List (List ℕ)) → not (has_newline item) ≡ true → not (has_newline other) ≡ true → are_lines left ≡ true → are_lines right ≡ true
          → are_lines (by_step next (item ∷ left) right (other ∷ right)) ≡ true
      by_next step.PutLeft left right plain plain' are are' = rw plain are
      by_next step.DropRight left right plain plain' are are' = are'
      by_next step.PutRight left right plain plain' are are' = rw plain' are'
