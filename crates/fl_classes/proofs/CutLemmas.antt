-- The laws of the classes over lists of texts that are cut at ends of lines.
use Rattle.std.proofs.Common.{◌≡◌, ℕ, ◌+◌, ◌&&◌, length, length-append, arith, Bool, true, false, List, [], ◌∷◌, ◌++◌, map, if◌then◌else◌, refl, ap, sym, ◌∙◌, append_assoc, append-nil}
use Rattle.std.specs.List.{concat, list_all}
use Rattle.std.proofs.lemmas.List.{nil_from_length}
use Rattle.std.proofs.lemmas.Bool.{true≢false, and_parts, cond-true, cond-false}
use Rattle.ps_lines.specs.Lines.{is_closed, is_cutlist, is_empty}
use Rattle.ut_args.specs.declared.invocations.Inv.{Inv}
use Rattle.fl_classes.specs.Aggregates.{map_of, aggregate_from, aggregate_of}
use Rattle.ps_lines.proofs.ClosedLemmas.{closed-append}
use Rattle.fl_classes.specs.Laws.{IsStateless, IsParallel, KeepsClosed, MayBeCut}
use Rattle.ut_args.specs.declared.classes.Seam.{Seam}
use Rattle.ut_args.specs.declared.classes.Seam.TheVariants as seam

-- empty texts
empty-is : (text : List ℕ) → is_empty text ≡ true → text ≡ []
empty-is [] none = refl
empty-is (byte ∷ text) none = absurd (true≢false (sym none))

empties-cut : (texts : List (List ℕ)) → list_all is_empty texts ≡ true → is_cutlist texts ≡ true
empties-cut [] none = refl
empties-cut (text ∷ texts) none =
    let parts = and_parts (is_empty text) (list_all is_empty texts) none in
    let closed : is_closed text ≡ true = ap is_closed (empty-is text parts.0) in
    cond-true (is_closed text) (is_cutlist texts) (list_all is_empty texts) closed ∙ empties-cut texts parts.1

empties-joined : (texts : List (List ℕ)) → list_all is_empty texts ≡ true → concat texts ≡ []
empties-joined [] none = refl
empties-joined (text ∷ texts) none =
    let parts = and_parts (is_empty text) (list_all is_empty texts) none in
    ap (λ text. text ++ concat texts) (empty-is text parts.0) ∙ empties-joined texts parts.1

-- what a cut list begins with, and its rest
module _ (text : List ℕ) (texts : List (List ℕ)) (cut : is_cutlist (text ∷ texts) ≡ true) where
  by_closed : (closed : Bool) → is_closed text ≡ closed → (if closed then is_cutlist texts else list_all is_empty texts) ≡ true
      → (is_cutlist texts ≡ true) × (is_cutlist (text ∷ concat texts ∷ []) ≡ true)
  by_closed true closed rest = (rest, cond-true (is_closed text) (is_cutlist (concat texts ∷ [])) (is_empty (concat texts) && true) closed ∙ either (is_closed (concat texts)))
    where
      either : (closed : Bool) → (if closed then true else true) ≡ true
      either true = refl
      either false = refl
  by_closed false unclosed none = (
    empties-cut texts none,
    cond-false (is_closed text) (is_cutlist (concat texts ∷ [])) (is_empty (concat texts) && true) unclosed ∙ ap (λ rest. is_empty rest && true) (empties-joined texts none),
  )

  pub cut-rest : is_cutlist texts ≡ true
  cut-rest = (by_closed (is_closed text) refl cut).0

  -- the first text and all the others joined are a cut list too
  pub cut-first : is_cutlist (text ∷ concat texts ∷ []) ≡ true
  cut-first = (by_closed (is_closed text) refl cut).1

-- two neighbours joined leave a cut list
pub cut-joined : (first second : List ℕ) (texts : List (List ℕ)) → is_cutlist (first ∷ second ∷ texts) ≡ true → is_cutlist ((first ++ second) ∷ texts) ≡ true
cut-joined first second texts cut = by_first (is_closed first) refl cut
  where
    by_whole : (closed : Bool) → is_cutlist texts ≡ true → list_all is_empty texts ≡ true → (if closed then is_cutlist texts else list_all is_empty texts) ≡ true
    by_whole true rest none = rest
    by_whole false rest none = none

    by_second : (closed : Bool) → is_closed second ≡ closed → is_closed first ≡ true → (if closed then is_cutlist texts else list_all is_empty texts) ≡ true
        → is_cutlist ((first ++ second) ∷ texts) ≡ true
    by_second true second_closed first_closed rest =
        cond-true (is_closed (first ++ second)) (is_cutlist texts) (list_all is_empty texts) (closed-append first second first_closed second_closed) ∙ rest
    by_second false _ _ none = by_whole (is_closed (first ++ second)) (empties-cut texts none) none

    by_first : (closed : Bool) → is_closed first ≡ closed → (if closed then is_cutlist (second ∷ texts) else list_all is_empty (second ∷ texts)) ≡ true
        → is_cutlist ((first ++ second) ∷ texts) ≡ true
    by_first true closed rest = by_second (is_closed second) refl closed rest
    by_first false _ none =
        let parts = and_parts (is_empty second) (list_all is_empty texts) none in
        by_whole (is_closed (first ++ second)) (empties-cut texts parts.1) parts.1

-- what a class says of lists
module _ (inv : Inv) where
  may-be-cut : (seam : Seam) (front back : List ℕ) → is_cutlist (front ∷ back ∷ []) ≡ true → MayBeCut seam front back
  may-be-cut seam.Bytes front back cut = tt
  may-be-cut seam.Lines front back cut = cut

  -- what is itself twice over is empty
  doubled : (text : List ℕ) → text ≡ text ++ text → text ≡ []
  doubled text same =
      let one : length text ≡ length (text ++ text) = ap length same in
      let two : length (text ++ text) ≡ length text + length text = length-append text text in
      nil_from_length text (omega (arith, one, two))

  pub over_lines : (seam : Seam) → IsStateless seam inv → (texts : List (List ℕ)) → is_cutlist texts ≡ true
      → map_of inv (concat texts) ≡ concat (map (map_of inv) texts)
  over_lines seam law [] cut = doubled (map_of inv []) (law.joins [] [] (may-be-cut seam [] [] refl))
  over_lines seam law (text ∷ texts) cut =
      law.joins text (concat texts) (may-be-cut seam text (concat texts) (cut-first text texts cut))
      ∙ ap (λ rest. map_of inv text ++ rest) (over_lines seam law texts (cut-rest text texts cut))

  aggregate-from : IsParallel inv → (first : List ℕ) (texts : List (List ℕ)) → is_cutlist (first ∷ texts) ≡ true
      → aggregate_from inv (map_of inv first) (map (map_of inv) texts) ≡ map_of inv (first ++ concat texts)
  aggregate-from law first [] cut = ap (map_of inv) (sym (append-nil first))
  aggregate-from law first (second ∷ texts) cut =
      ap (λ joined. aggregate_from inv joined (map (map_of inv) texts)) (sym (law.joins first second (pair cut)))
      ∙ aggregate-from law (first ++ second) texts (cut-joined first second texts cut)
      ∙ ap (map_of inv) (append_assoc first second (concat texts))
    where
      pair : is_cutlist (first ∷ second ∷ texts) ≡ true → is_cutlist (first ∷ second ∷ []) ≡ true
      pair cut = by_first (is_closed first) cut
        where
          either : (closed : Bool) → (if closed then true else true) ≡ true
          either true = refl
          either false = refl

          by_first : (closed : Bool) → (if closed then is_cutlist (second ∷ texts) else is_empty second && list_all is_empty texts) ≡ true
              → (if closed then is_cutlist (second ∷ []) else is_empty second && true) ≡ true
          by_first true _ = either (is_closed second)
          by_first false none = ap (λ empty. empty && true) (and_parts (is_empty second) (list_all is_empty texts) none).0

  pub over_parts : IsParallel inv → (first : List ℕ) (texts : List (List ℕ)) → is_cutlist (first ∷ texts) ≡ true
      → aggregate_of inv (map (map_of inv) (first ∷ texts)) ≡ map_of inv (concat (first ∷ texts))
  over_parts law first texts cut = aggregate-from law first texts cut

  maps-empty : map_of inv [] ≡ [] → (texts : List (List ℕ)) → list_all is_empty texts ≡ true → list_all is_empty (map (map_of inv) texts) ≡ true
  maps-empty none [] all = refl
  maps-empty none (text ∷ texts) all =
      let parts = and_parts (is_empty text) (list_all is_empty texts) all in
      ap (λ text. is_empty (map_of inv text) && list_all is_empty (map (map_of inv) texts)) (empty-is text parts.0)
      ∙ ap (λ text. is_empty text && list_all is_empty (map (map_of inv) texts)) none ∙ maps-empty none texts parts.1

  pub maps-cut : KeepsClosed inv → (texts : List (List ℕ)) → is_cutlist texts ≡ true → is_cutlist (map (map_of inv) texts) ≡ true
  maps-cut keeps [] cut = refl
  maps-cut keeps (text ∷ texts) cut = by_closed (is_closed text) refl cut (maps-cut keeps texts)
    where
      by_map : (closed : Bool) → list_all is_empty (map (map_of inv) texts) ≡ true
          → (if closed then is_cutlist (map (map_of inv) texts) else list_all is_empty (map (map_of inv) texts)) ≡ true
      by_map true none = empties-cut (map (map_of inv) texts) none
      by_map false none = none

      by_closed : (closed : Bool) → is_closed text ≡ closed → (if closed then is_cutlist texts else list_all is_empty texts) ≡ true
          → (is_cutlist texts ≡ true → is_cutlist (map (map_of inv) texts) ≡ true) → is_cutlist (map_of inv text ∷ map (map_of inv) texts) ≡ true
      by_closed true closed cut later =
          cond-true (is_closed (map_of inv text)) (is_cutlist (map (map_of inv) texts)) (list_all is_empty (map (map_of inv) texts)) (keeps.closed text closed) ∙ later cut
      by_closed false _ none _ = by_map (is_closed (map_of inv text)) (maps-empty keeps.none texts none)

pub ruleset cut_laws = (over_parts, maps-cut)
