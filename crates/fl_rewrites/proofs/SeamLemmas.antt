-- What the class of a command says of the texts that come to a Cat: the maps of these, joined, are the map of their whole, and something is
-- selected in the whole where it is in one of them.
use Rattle.std.proofs.Common.{◌≡◌, ℕ, List, [], ◌∷◌, ◌++◌, Bool, true, false, ◌||◌, map, refl, ap, sym, ◌∙◌, append-nil}
use Rattle.std.specs.List.{concat, list_any}
use Rattle.ps_lines.specs.Lines.{is_cutlist}
use Rattle.ut_args.specs.declared.invocations.Inv.{Inv}
use Rattle.ut_args.specs.declared.classes.Seam.{Seam}
use Rattle.ut_args.specs.declared.classes.Seam.TheVariants as seam
use Rattle.fl_classes.specs.Aggregates.{map_of}
use Rattle.fl_classes.specs.Laws.{IsStateless, MayBeCut, SelectsByParts}
use Rattle.fl_classes.specs.Utilities.{selects_of}
use Rattle.fl_classes.proofs.CutLemmas.{cut-first, cut-rest}

-- texts may be joined so: any, or those of a cut list
abbrev pub MayBeJoined : Seam → List (List ℕ) → Type 0
MayBeJoined seam.Bytes texts = Unit {0}
MayBeJoined seam.Lines texts = is_cutlist texts ≡ true

cut-once : (seam : Seam) (first : List ℕ) (texts : List (List ℕ)) → MayBeJoined seam (first ∷ texts) → MayBeCut seam first (concat texts)
cut-once seam.Bytes first texts may = tt
cut-once seam.Lines first texts may = cut-first first texts may

join-rest : (seam : Seam) (first : List ℕ) (texts : List (List ℕ)) → MayBeJoined seam (first ∷ texts) → MayBeJoined seam texts
join-rest seam.Bytes first texts may = tt
join-rest seam.Lines first texts may = cut-rest first texts may

module _ (inv : Inv) (seam : Seam) where
  pub maps-joined : IsStateless seam inv → (first : List ℕ) (texts : List (List ℕ)) → MayBeJoined seam (first ∷ texts)
      → map_of inv (concat (first ∷ texts)) ≡ concat (map (map_of inv) (first ∷ texts))
  maps-joined law first [] may = ap (map_of inv) (append-nil first) ∙ sym (append-nil (map_of inv first))
  maps-joined law first (second ∷ texts) may =
      law.joins first (concat (second ∷ texts)) (cut-once seam first (second ∷ texts) may)
      ∙ ap (λ (rest : List ℕ). map_of inv first ++ rest) (maps-joined law second texts (join-rest seam first (second ∷ texts) may))

  or-none : (test : Bool) → test ≡ (test || false)
  or-none true = refl
  or-none false = refl

  pub selects-joined : SelectsByParts seam inv → (first : List ℕ) (texts : List (List ℕ)) → MayBeJoined seam (first ∷ texts)
      → selects_of inv (concat (first ∷ texts) ∷ []) ≡ list_any (λ (text : List ℕ). selects_of inv (text ∷ [])) (first ∷ texts)
  selects-joined law first [] may = ap (λ (text : List ℕ). selects_of inv (text ∷ [])) (append-nil first) ∙ or-none (selects_of inv (first ∷ []))
  selects-joined law first (second ∷ texts) may =
      law first (concat (second ∷ texts)) (cut-once seam first (second ∷ texts) may)
      ∙ ap (λ (rest : Bool). selects_of inv (first ∷ []) || rest) (selects-joined law second texts (join-rest seam first (second ∷ texts) may))
