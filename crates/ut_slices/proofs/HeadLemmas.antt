-- The first lines of several inputs, one after another.
use Rattle.std.proofs.Common.{◌≡◌, ℕ, List, [], ◌∷◌, ◌++◌, Bool, true, false, not, drop, get_or, if◌then◌else◌, refl, ap, sym, ◌∙◌}
use Rattle.std.specs.List.{filter, flat_map}
use Rattle.ut_args.specs.Utilities.{has_at_most_one}
use Rattle.ut_args.specs.declared.commands.HeadArgs.{HeadArgs}
use Rattle.ut_streams.specs.Streams.{Put, Wrote}
use Rattle.ut_streams.specs.Utilities.{Input, labelled}
use Rattle.ut_streams.proofs.StreamLemmas.{Wrote-behind, Wrote-put, Wrote-put_stopped, Wrote-put_then}
use Rattle.ut_slices.specs.Ends.{first_lines}
use Rattle.ut_slices.specs.Head.{head_output, headed}
use Rattle.ut_slices.specs.Inner.Heads.{header_by, heads_due, heads_of}
use Rattle.ut_slices.proofs.EndLemmas.{first_lines-empty}

-- inputs none of which has begun
pub heads-whole : (has_headers is_first : Bool) (count : ℕ) (labels texts : List (List ℕ))
    → heads_due has_headers is_first false count count labels texts ≡ heads_of has_headers is_first count (labelled labels texts)
heads-whole true is_first count labels [] = refl
heads-whole false is_first count labels [] = refl
heads-whole true is_first count labels (text ∷ others) = refl
heads-whole false is_first count labels (text ∷ others) = refl

-- those of an invocation
pub heads-begin : (args : HeadArgs) (one : Bool) (labels texts : List (List ℕ)) → one ≡ has_at_most_one args.operands
    → heads_due (not one) true false args.count args.count labels texts ≡ head_output args (labelled labels texts)
heads-begin args one labels texts is = heads-whole (not one) true args.count labels texts ∙ by_number one ∙ ap choice is
  where
    by_number : (one : Bool) → heads_of (not one) true args.count (labelled labels texts)
        ≡ (if one then flat_map (λ (input : Input). first_lines args.count input.text) (labelled labels texts) else headed true args.count (labelled labels texts))
    by_number true = refl
    by_number false = refl

    choice : Bool → List ℕ
    choice one = if one then flat_map (λ (input : Input). first_lines args.count input.text) (labelled labels texts) else headed true args.count (labelled labels texts)

pub ruleset begins = (heads-begin)

module _ (has_headers is_first begun : Bool) (count left : ℕ) (labels : List (List ℕ)) where
  abbrev own_header : List ℕ
  own_header = if begun then [] else header_by has_headers is_first (get_or labels 0 [])

  abbrev behind : List (List ℕ) → List ℕ
  behind others = heads_of has_headers false count (labelled (drop 1 labels) others)

  -- a piece behind the header
  pub heads-fed : (left' : ℕ) (piece : List ℕ) (others : List (List ℕ)) (old half new : List ℕ) (whole : Bool) → Put own_header old half true
      → Wrote (λ more. first_lines left (piece ++ more)) (first_lines left') half new whole
      → Wrote (λ more. heads_due has_headers is_first begun count left labels ((piece ++ more) ∷ others)) (λ more. heads_due has_headers is_first true count left' labels (more ∷ others)) old new whole
  heads-fed left' piece others old half new whole put wrote =
      Wrote-put_then (λ more. first_lines left (piece ++ more) ++ behind others) (λ more. first_lines left' more ++ behind others) own_header old half new whole put
      (Wrote-behind (λ more. first_lines left (piece ++ more)) (first_lines left') (behind others) half new whole wrote)

  -- memory was wanted for the header
  pub heads-stopped : (now : List ℕ → List ℕ) (piece : List ℕ) (others : List (List ℕ)) (old new : List ℕ) → Put own_header old new false
      → Wrote (λ more. heads_due has_headers is_first begun count left labels ((piece ++ more) ∷ others)) now old new false
  heads-stopped now piece others old new put = Wrote-put_stopped (λ more. first_lines left (piece ++ more) ++ behind others) now own_header old new put

  -- the input has ended
  pub heads-ended : (old new : List ℕ) (whole : Bool) → Put own_header old new whole
      → Wrote (λ others. heads_due has_headers is_first begun count left labels ([] ∷ others)) (heads_due has_headers false false count count (drop 1 labels)) old new whole
  heads-ended old new whole put =
      Wrote-put (λ others. heads_due has_headers is_first begun count left labels ([] ∷ others)) (heads_due has_headers false false count count (drop 1 labels)) own_header old new whole
      (λ others. ap (λ text. own_header ++ (text ++ behind others)) (first_lines-empty left) ∙ ap (λ rest. own_header ++ rest) (sym (heads-whole has_headers false count (drop 1 labels) others))) put

  -- the same, with what the code has in their places
  module _ (label : List ℕ) (named : label ≡ get_or labels 0 []) where
    pub heads-fed_by : (begun' : Bool) (left' : ℕ) (piece : List ℕ) (others : List (List ℕ)) (old half new : List ℕ) (whole : Bool) → begun' ≡ true
        → Put (if begun then [] else header_by has_headers is_first label) old half true → Wrote (λ more. first_lines left (piece ++ more)) (first_lines left') half new whole
        → Wrote (λ more. heads_due has_headers is_first begun count left labels ((piece ++ more) ∷ others)) (λ more. heads_due has_headers is_first begun' count left' labels (more ∷ others)) old new whole
    heads-fed_by begun' left' piece others old half new whole has_begun put wrote =
        rw has_begun (heads-fed left' piece others old half new whole (rw (← named) put) wrote)

    pub heads-stopped_by : (now : List ℕ → List ℕ) (piece : List ℕ) (others : List (List ℕ)) (old new : List ℕ)
        → Put (if begun then [] else header_by has_headers is_first label) old new false
        → Wrote (λ more. heads_due has_headers is_first begun count left labels ((piece ++ more) ∷ others)) now old new false
    heads-stopped_by now piece others old new put = heads-stopped now piece others old new (rw (← named) put)

    pub heads-ended_by : (labels' : List (List ℕ)) (old new : List ℕ) (whole : Bool) → labels' ≡ drop 1 labels
        → Put (if begun then [] else header_by has_headers is_first label) old new whole
        → Wrote (λ others. heads_due has_headers is_first begun count left labels ([] ∷ others)) (heads_due has_headers false false count count labels') old new whole
    heads-ended_by labels' old new whole passed put = rw passed (heads-ended old new whole (rw (← named) put))

pub ruleset ends = (heads-ended_by)
