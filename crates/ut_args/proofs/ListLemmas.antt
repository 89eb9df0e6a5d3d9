-- Lists read part by part.
use Rattle.std.proofs.Common.{◌≡◌, ℕ, Bool, true, false, List, [], ◌∷◌, ◌++◌, Option, Some, None, option_map, refl, ap, sym, ◌∙◌, append_assoc}
use Rattle.ut_options.specs.Given.{and_on}
use Rattle.ut_args.specs.Lists.{list_of, range_of, ranges_of, list_separators}
use Rattle.ut_args.specs.Pieces.{cut_at, pieces}
use Rattle.ut_args.proofs.PieceLemmas.{pieces-some, pieces-none}
use Rattle.ut_args.specs.declared.lists.Range.{Range}

-- items in front of what is read of the rest
abbrev pub onto_all : {Item : Type 0} → List Item → Option (List Item) → Option (List Item)
onto_all items rest = option_map (λ others. items ++ others) rest

-- one item more in front
pub onto_all-more : {Item : Type 0} (items : List Item) (item : Item) (rest : Option (List Item))
    → onto_all (items ++ item ∷ []) rest ≡ onto_all items (option_map (λ others. item ∷ others) rest)
onto_all-more items item None = refl
onto_all-more items item (Some others) = ap Some (append_assoc items (item ∷ []) others)

pub onto_all-none : {Item : Type 0} (rest : Option (List Item)) → rest ≡ onto_all [] rest
onto_all-none None = refl
onto_all-none (Some others) = refl

-- a list is its first part and the rest, or one part
pub list_of-cut : (text before behind : List ℕ) → cut_at list_separators text ≡ Some (before, behind)
    → list_of text ≡ and_on (range_of before) (λ range. option_map (λ ranges. range ∷ ranges) (list_of behind))
list_of-cut text before behind cut = rw (pieces-some list_separators text before behind cut) refl

pub list_of-whole : (text : List ℕ) → cut_at list_separators text ≡ None → list_of text ≡ option_map (λ range. range ∷ []) (range_of text)
list_of-whole text whole = rw (pieces-none list_separators text whole) (one (range_of text))
  where
    one : (range : Option Range) → and_on range (λ range. Some (range ∷ [])) ≡ option_map (λ range. range ∷ []) range
    one None = refl
    one (Some range) = refl

-- one range more, or none at all
pub list_step : (text part behind : List ℕ) (range : Range) (ranges more : List Range) (whole : Option (List Range))
    → cut_at list_separators text ≡ Some (part, behind) → range_of part ≡ Some range → more ≡ ranges ++ range ∷ []
    → whole ≡ onto_all ranges (list_of text) → whole ≡ onto_all more (list_of behind)
list_step text part behind range ranges more whole cut reads is so_far =
    rw is (so_far ∙ (ap (onto_all ranges) (list_of-cut text part behind cut ∙ ap (λ read. and_on read (λ range. option_map (λ ranges. range ∷ ranges) (list_of behind))) reads)
    ∙ sym (onto_all-more ranges range (list_of behind))))

pub list_stop : (text part behind : List ℕ) (ranges : List Range) (whole : Option (List Range))
    → cut_at list_separators text ≡ Some (part, behind) → range_of part ≡ None
    → whole ≡ onto_all ranges (list_of text) → None ≡ whole
list_stop text part behind ranges whole cut fails so_far =
    sym (so_far ∙ ap (onto_all ranges) (list_of-cut text part behind cut ∙ ap (λ read. and_on read (λ range. option_map (λ ranges. range ∷ ranges) (list_of behind))) fails))

pub ruleset list_steps = (onto_all-more, onto_all-none, list_of-cut, list_of-whole)

pub ruleset key_steps = (onto_all-more, onto_all-none)
