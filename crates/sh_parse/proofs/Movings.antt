-- Moves of the code against those of the definitions.
use Rattle.std.proofs.Common.{◌≡◌, ◌∙◌, ◌+◌, cond, if◌then◌else◌, arith, Bool, true, false, List, [], ◌∷◌, ◌++◌, refl, ap}
use Rattle.std.proofs.lemmas.List.{append-nil}
use Rattle.sh_parse.specs.Inner.Owed.{Pending, Move, push, opens, skip, stuck, move, levels, is_level, may_end, is_option, pipes, joins, separator, next_command, next_pipeline, again, body, followed, pipeline_by, command_by, is_bang}
use Rattle.sh_parse.specs.Inner.Moves.{with_more, stacked}
use Rattle.sh_parse.specs.declared.items.Item.{Item}
use Rattle.sh_parse.specs.declared.items.Item.TheVariants as token
use Rattle.sh_parse.specs.declared.items.WordKind.TheVariants as word
use Rattle.sh_parse.specs.declared.items.Reserved.TheVariants as reserved

pub with_no_more : (m : Move) → with_more m [] ≡ m
with_no_more (push parts) = ap push (append-nil parts)
with_no_more (opens parts) = ap opens (append-nil parts)
with_no_more skip = refl
with_no_more stuck = refl

pub no_bang : (first : Item) → is_bang first ≡ false → pipeline_by first ≡ command_by first
no_bang (token.Word (word.Reserved reserved.Bang) at) h = cc
no_bang _ h = refl

-- an item that is no newline
pub next_command_rest : (first : Item) → (first ≡ token.Newline → ⊥) → move next_command first ≡ command_by first
next_command_rest token.Newline h = absurd (h refl)
next_command_rest _ h = refl

pub next_pipeline_rest : (first : Item) → (first ≡ token.Newline → ⊥)
    → move next_pipeline first ≡ followed (pipeline_by first) (pipes ∷ []) stuck
next_pipeline_rest token.Newline h = absurd (h refl)
next_pipeline_rest _ h = refl

pub again_rest : (first : Item) → (first ≡ token.Newline → ⊥)
    → move again first ≡ followed (pipeline_by first) (pipes ∷ joins ∷ separator ∷ []) skip
again_rest token.Newline h = absurd (h refl)
again_rest _ h = refl

pub body_rest : (first : Item) → (first ≡ token.Newline → ⊥)
    → move body first ≡ followed (pipeline_by first) (pipes ∷ joins ∷ separator ∷ []) stuck
body_rest token.Newline h = absurd (h refl)
body_rest _ h = refl

-- the stack whose top is last
pub stacked_last : (stack : List Pending) (last : Pending) → stacked (stack ++ last ∷ []) ≡ last ∷ stacked stack
stacked_last [] last = refl
stacked_last (first ∷ rest) last = ap (λ s. s ++ first ∷ []) (stacked_last rest last)

levels_last : (stack : List Pending) (last : Pending) → levels (stack ++ last ∷ []) ≡ (if is_level last then 1 else 0) + levels stack
levels_last [] last = by_test (is_level last)
  where
    by_test : (test : Bool) → cond test (0 + 1) 0 ≡ (if test then 1 else 0) + 0
    by_test true = refl
    by_test false = refl
levels_last (first ∷ rest) last = by_test (is_level first) (levels_last rest last)
  where
    by_test : (test : Bool) → levels (rest ++ last ∷ []) ≡ (if is_level last then 1 else 0) + levels rest
        → cond test (levels (rest ++ last ∷ []) + 1) (levels (rest ++ last ∷ [])) ≡ (if is_level last then 1 else 0) + cond test (levels rest + 1) (levels rest)
    by_test true e = omega (arith, e)
    by_test false e = e

pub levels_stacked : (first : Pending) (rest : List Pending) → levels (stacked (first ∷ rest)) ≡ (if is_level first then 1 else 0) + levels (stacked rest)
levels_stacked first rest = levels_last (stacked rest) first

may_end_last : (stack : List Pending) (last : Pending) → may_end (stack ++ last ∷ []) ≡ cond (is_option last) (may_end stack) false
may_end_last [] last = refl
may_end_last (first ∷ rest) last =
    ap (λ b. cond (is_option first) b false) (may_end_last rest last) ∙ swapped (is_option first) (is_option last) (may_end rest)
  where
    swapped : (one other both : Bool) → cond one (cond other both false) false ≡ cond other (cond one both false) false
    swapped true true both = refl
    swapped true false both = refl
    swapped false true both = refl
    swapped false false both = refl

pub may_end_stacked : (first : Pending) (rest : List Pending) → may_end (stacked (first ∷ rest)) ≡ cond (is_option first) (may_end (stacked rest)) false
may_end_stacked first rest = may_end_last (stacked rest) first
