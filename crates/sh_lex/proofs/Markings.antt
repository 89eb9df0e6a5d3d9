-- Marks along a walk: what the open constructs add behind the innermost.
use Rattle.std.proofs.Common.{◌≡◌, ℕ, List, [], ◌∷◌, ◌++◌, length, map, refl, sym, ◌∙◌, ap, subst, append_assoc, arith}
use Rattle.std.proofs.lemmas.List.{append-nil, map-append}
use Rattle.sh_lex.specs.Acts.{goes, enters, ends}
use Rattle.sh_lex.specs.Reads.{act}
use Rattle.sh_lex.specs.Marks.{Marked, marks_on, marks_inner, marks_end, seen, opening, closing, entry_of}
use Rattle.sh_lex.specs.declared.parts.Construct.{Construct}
use Rattle.sh_lex.specs.declared.lexing.marks.Mark.{Mark}
use Rattle.sh_lex.specs.declared.lexing.marks.Entry.{Entry}

abbrev pub outer_part : Entry × Construct → Construct
outer_part opened = opened.1

module _ (total : ℕ) where
  -- the marks of a construct behind one that stood in it, and of all that are open
  abbrev pub AllMarked : List (Entry × Construct) → List ℕ → List Mark → List ℕ → Type 0
  AllMarked [] inner more end = (inner ≡ end) × (more ≡ [])
  AllMarked (first ∷ «open») inner more end = (middle : List ℕ) × ((inside : List Mark) × ((outside : List Mark)
      × (AllMarked «open» inner inside middle × (Marked total first.1 middle outside end × (more ≡ inside ++ (closing first.0 ++ outside))))))

  -- the innermost one goes on first
  pub all_split : («open» : List (Entry × Construct)) (last : Entry × Construct) (inner end : List ℕ) (more : List Mark)
      → AllMarked («open» ++ last ∷ []) inner more end
      → (middle : List ℕ) × ((inside : List Mark) × ((outside : List Mark)
      × (Marked total last.1 inner inside middle × (AllMarked «open» middle outside end
      × (more ≡ closing last.0 ++ (inside ++ outside))))))
  all_split [] last inner end more (middle, (inside, (outside, ((same, none), (marked, e))))) = (
    end,
    (
      outside,
      (
        [],
        (
          subst (λ x. Marked total last.1 x outside end) (sym same) marked,
          (
            (refl, refl),
            e ∙ ap (λ x. x ++ (closing last.0 ++ outside)) none ∙ ap (λ x. closing last.0 ++ x) (sym (append-nil outside)),
          ),
        ),
      ),
    ),
  )
  all_split (first ∷ «open») last inner end more (middle, (inside, (outside, (all, (marked, e))))) =
      let (next, (one, (two, (is_one, (rest, same))))) = all_split «open» last inner middle inside all in (
        next,
        (
          one,
          (
            two ++ (closing first.0 ++ outside),
            (
              is_one,
              (
                (middle, (two, (outside, (rest, (marked, refl))))),
                e ∙ ap (λ x. x ++ (closing first.0 ++ outside)) same
                    ∙ append_assoc (closing last.0) (one ++ two) (closing first.0 ++ outside)
                    ∙ ap (λ x. closing last.0 ++ x) (append_assoc one two (closing first.0 ++ outside)),
              ),
            ),
          ),
        ),
      )

  pub all_join : («open» : List (Entry × Construct)) (last : Entry × Construct) (inner middle end : List ℕ) (inside outside : List Mark)
      → Marked total last.1 inner inside middle → AllMarked «open» middle outside end
      → AllMarked («open» ++ last ∷ []) inner (closing last.0 ++ (inside ++ outside)) end
  all_join [] last inner middle end inside outside marked (same, none) = (
    inner,
    (
      [],
      (
        inside,
        (
          (refl, refl),
          (
            subst (λ x. Marked total last.1 inner inside x) same marked,
            ap (λ x. closing last.0 ++ (inside ++ x)) none ∙ ap (λ x. closing last.0 ++ x) (append-nil inside),
          ),
        ),
      ),
    ),
  )
  all_join (first ∷ «open») last inner middle end inside outside marked (next, (one, (two, (all, (behind, e))))) = (
    next,
    (
      closing last.0 ++ (inside ++ one),
      (
        two,
        (
          all_join «open» last inner middle next inside one marked all,
          (
            behind,
            ap (λ x. closing last.0 ++ (inside ++ x)) e
                ∙ ap (λ x. closing last.0 ++ x) (sym (append_assoc inside one (closing first.0 ++ two)))
                ∙ sym (append_assoc (closing last.0) (inside ++ one) (closing first.0 ++ two)),
          ),
        ),
      ),
    ),
  )

  pub all_none : («open» : List (Entry × Construct)) (end : List ℕ) → length «open» ≡ 0 → AllMarked «open» end [] end
  all_none [] end h = (refl, refl)
  all_none (first ∷ «open») end h = absurd (omega arith)

  -- the marks so far stand before those of what is open
  abbrev pub Ahead : Construct → List ℕ → List Mark → Construct → List ℕ → List (Entry × Construct) → Type 0
  Ahead construct text before part rest «open» =
      (found : List Mark) (inner : List ℕ) (more : List Mark) (end : List ℕ) → Marked total part rest found inner
      → AllMarked «open» inner more end → Marked total construct text (before ++ (found ++ more)) end

  module _ (construct : Construct) (text : List ℕ) (before : List Mark) (part : Construct) (rest : List ℕ) («open» : List (Entry × Construct)) where
    pub ahead_on : (next : Construct) (left : List ℕ) → Ahead construct text before part rest «open» → act part rest ≡ goes next left
        → (after : List Mark) → after ≡ before ++ seen total part rest → Ahead construct text after next left «open»
    ahead_on next left ahead e after grown found inner more end marked all =
        subst (λ x. Marked total construct text x end)
        (ap (λ x. before ++ x) (append_assoc (seen total part rest) found more)
        ∙ sym (append_assoc before (seen total part rest) (found ++ more)) ∙ ap (λ x. x ++ (found ++ more)) (sym grown))
        (ahead (seen total part rest ++ found) inner more end (marks_on e marked) all)

    pub ahead_inner : (inner outer : Construct) (left : List ℕ) → Ahead construct text before part rest «open»
        → act part rest ≡ enters inner outer left
        → (after all_after : List Mark) → after ≡ before ++ seen total part rest
        → all_after ≡ after ++ opening total rest left (entry_of inner outer)
        → (opened : List (Entry × Construct)) → opened ≡ «open» ++ (entry_of inner outer, outer) ∷ []
        → Ahead construct text all_after inner left opened
    ahead_inner inner outer left ahead e after all_after grown more_grown opened pushed found middle more end marked all =
        let (next, (one, (two, (is_one, (others, same))))) =
        all_split «open» (entry_of inner outer, outer) middle end more (subst (λ x. AllMarked x middle more end) pushed all) in
        subst (λ x. Marked total construct text x end)
        (placed (seen total part rest) (opening total rest left (entry_of inner outer)) found (closing (entry_of inner outer)) one two
        ∙ ap (λ x. ((before ++ seen total part rest) ++ opening total rest left (entry_of inner outer)) ++ (found ++ x)) (sym same)
        ∙ ap (λ x. (x ++ opening total rest left (entry_of inner outer)) ++ (found ++ more)) (sym grown)
        ∙ ap (λ x. x ++ (found ++ more)) (sym more_grown))
        (ahead _ next two end (marks_inner e marked is_one) others)
      where
        placed : (a b c d e f : List Mark)
            → before ++ ((a ++ (b ++ (c ++ (d ++ e)))) ++ f) ≡ ((before ++ a) ++ b) ++ (c ++ (d ++ (e ++ f)))
        placed a b c d e f =
            ap (λ x. before ++ x) (append_assoc a (b ++ (c ++ (d ++ e))) f
            ∙ ap (λ x. a ++ x) (append_assoc b (c ++ (d ++ e)) f ∙ ap (λ x. b ++ x) (append_assoc c (d ++ e) f
            ∙ ap (λ x. c ++ x) (append_assoc d e f))))
            ∙ sym (append_assoc before a (b ++ (c ++ (d ++ (e ++ f)))))
            ∙ sym (append_assoc (before ++ a) b (c ++ (d ++ (e ++ f))))

    pub ahead_end : (outer : Construct) (entry : Entry) (left : List ℕ) → Ahead construct text before part rest «open»
        → act part rest ≡ ends left → (after all_after : List Mark) → after ≡ before ++ seen total part rest
        → all_after ≡ after ++ closing entry → (popped : List (Entry × Construct)) → «open» ≡ popped ++ (entry, outer) ∷ []
        → Ahead construct text all_after outer left popped
    ahead_end outer entry left ahead e after all_after grown more_grown popped same found inner more end marked all =
        subst (λ x. Marked total construct text x end)
        (sym (append_assoc before (seen total part rest) (closing entry ++ (found ++ more)))
        ∙ sym (append_assoc (before ++ seen total part rest) (closing entry) (found ++ more))
        ∙ ap (λ x. (x ++ closing entry) ++ (found ++ more)) (sym grown) ∙ ap (λ x. x ++ (found ++ more)) (sym more_grown))
        (ahead (seen total part rest) left (closing entry ++ (found ++ more)) end (marks_end e)
        (subst (λ x. AllMarked x left (closing entry ++ (found ++ more)) end) (sym same)
        (all_join popped (entry, outer) left inner end found more marked all)))

    pub ahead_done : (left : List ℕ) → Ahead construct text before part rest «open» → act part rest ≡ ends left → length «open» ≡ 0
        → (after : List Mark) → after ≡ before ++ seen total part rest → Marked total construct text after left
    ahead_done left ahead e none after grown =
        subst (λ x. Marked total construct text x left)
        (ap (λ x. before ++ x) (append-nil (seen total part rest)) ∙ sym grown)
        (ahead (seen total part rest) left [] left (marks_end e) (all_none «open» left none))

  pub ahead_first : (construct : Construct) (text : List ℕ) → Ahead construct text [] construct text []
  ahead_first construct text found inner more end marked (same, none) =
      subst (λ x. Marked total construct text (found ++ x) end) (sym none)
      (subst (λ x. Marked total construct text x end) (sym (append-nil found)) (subst (λ x. Marked total construct text found x) same marked))

-- the outer parts of a stack that has grown
pub outer_parts_last : (new «open» : List (Entry × Construct)) (last : Entry × Construct) → new ≡ «open» ++ last ∷ []
    → map outer_part new ≡ map outer_part «open» ++ last.1 ∷ []
outer_parts_last new «open» last e = ap (map outer_part) e ∙ map-append outer_part «open» (last ∷ [])

pub outer_parts_none : («open» : List (Entry × Construct)) → length «open» ≡ 0 → length (map outer_part «open») ≡ 0
outer_parts_none [] h = refl
outer_parts_none (first ∷ rest) h = absurd (omega (arith, h))
