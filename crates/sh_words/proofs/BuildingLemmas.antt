-- Pieces that are added at the end of a word.
use Rattle.std.proofs.Common.{◌≡◌, ℕ, Bool, true, false, List, [], ◌∷◌, ◌++◌, Option, None, Some, length, refl, ◌∙◌, ap, append_assoc}
use Rattle.sh_tree.specs.Trees.{WordTree, no_part, part, PartTree, plain, quoted, parameter, substitution, arithmetic, check}
use Rattle.sh_words.specs.Pieces.{before, literal}
use Rattle.sh_words.specs.Parameters.{check_form}
use Rattle.sh_tree.specs.Views.{part_tree}
use Rattle.sh_words.specs.Inner.Built.{trees_onto, run_onto, run_ended, is_expansion}
use Rattle.sh_tree.specs.declared.words.Part.{Part}

-- two runs of bytes of the same quoting
pub before-same : (is_quoted : Bool) (bytes more : List ℕ) (word : WordTree)
    → before (literal is_quoted (bytes ++ more)) word ≡ before (literal is_quoted bytes) (before (literal is_quoted more) word)
before-same true bytes more no_part = refl
before-same true bytes more (part (plain text) rest) = refl
before-same true bytes more (part (quoted text) rest) = ap (λ x. part (quoted x) rest) (append_assoc bytes more text)
before-same true bytes more (part (parameter what form flag) rest) = refl
before-same true bytes more (part (substitution number flag) rest) = refl
before-same true bytes more (part (arithmetic inner flag) rest) = refl
before-same false bytes more no_part = refl
before-same false bytes more (part (plain text) rest) = ap (λ x. part (plain x) rest) (append_assoc bytes more text)
before-same false bytes more (part (quoted text) rest) = refl
before-same false bytes more (part (parameter what form flag) rest) = refl
before-same false bytes more (part (substitution number flag) rest) = refl
before-same false bytes more (part (arithmetic inner flag) rest) = refl

-- bytes in front of bytes of the other quoting are a part of their own
pub before-true_false : (bytes more : List ℕ) (word : WordTree)
    → before (quoted bytes) (before (plain more) word) ≡ part (quoted bytes) (before (plain more) word)
before-true_false bytes more no_part = refl
before-true_false bytes more (part (plain text) rest) = refl
before-true_false bytes more (part (quoted text) rest) = refl
before-true_false bytes more (part (parameter what form flag) rest) = refl
before-true_false bytes more (part (substitution number flag) rest) = refl
before-true_false bytes more (part (arithmetic inner flag) rest) = refl

pub before-false_true : (bytes more : List ℕ) (word : WordTree)
    → before (plain bytes) (before (quoted more) word) ≡ part (plain bytes) (before (quoted more) word)
before-false_true bytes more no_part = refl
before-false_true bytes more (part (plain text) rest) = refl
before-false_true bytes more (part (quoted text) rest) = refl
before-false_true bytes more (part (parameter what form flag) rest) = refl
before-false_true bytes more (part (substitution number flag) rest) = refl
before-false_true bytes more (part (arithmetic inner flag) rest) = refl

-- bytes in front of an expansion, and of nothing, are a part of their own
pub before-expansion : (is_quoted : Bool) (bytes : List ℕ) (piece : PartTree) (word : WordTree) → is_expansion piece ≡ true
    → before (literal is_quoted bytes) (part piece word) ≡ part (literal is_quoted bytes) (part piece word)
before-expansion true bytes (plain text) word h = cc
before-expansion true bytes (quoted text) word h = cc
before-expansion true bytes (parameter what form flag) word h = refl
before-expansion true bytes (substitution number flag) word h = refl
before-expansion true bytes (arithmetic inner flag) word h = refl
before-expansion false bytes (plain text) word h = cc
before-expansion false bytes (quoted text) word h = cc
before-expansion false bytes (parameter what form flag) word h = refl
before-expansion false bytes (substitution number flag) word h = refl
before-expansion false bytes (arithmetic inner flag) word h = refl

pub before-is_expansion : (piece : PartTree) (word : WordTree) → is_expansion piece ≡ true → before piece word ≡ part piece word
before-is_expansion (plain text) word h = cc
before-is_expansion (quoted text) word h = cc
before-is_expansion (parameter what form flag) word h = refl
before-is_expansion (substitution number flag) word h = refl
before-is_expansion (arithmetic inner flag) word h = refl

-- the bytes at the end become a part, where an expansion or the end follows
pub run_onto-expansion : (run : Option Bool) (bytes : List ℕ) (piece : PartTree) (word : WordTree) → is_expansion piece ≡ true
    → run_onto run bytes (before piece word) ≡ run_ended run bytes (part piece word)
run_onto-expansion None bytes piece word h = before-is_expansion piece word h
run_onto-expansion (Some is_quoted) bytes piece word h =
    ap (before (literal is_quoted bytes)) (before-is_expansion piece word h) ∙ before-expansion is_quoted bytes piece word h

pub run_onto-end : (run : Option Bool) (bytes : List ℕ) → run_onto run bytes no_part ≡ run_ended run bytes no_part
run_onto-end None bytes = refl
run_onto-end (Some true) bytes = refl
run_onto-end (Some false) bytes = refl

-- and where bytes of the other quoting follow
pub run_onto-other : (run : Option Bool) (is_quoted : Bool) (bytes more : List ℕ) (word : WordTree) → (run ≡ Some is_quoted → ⊥)
    → run_onto run bytes (before (literal is_quoted more) word) ≡ run_ended run bytes (before (literal is_quoted more) word)
run_onto-other None is_quoted bytes more word h = refl
run_onto-other (Some true) true bytes more word h = absurd (h refl)
run_onto-other (Some true) false bytes more word h = before-true_false bytes more word
run_onto-other (Some false) true bytes more word h = before-false_true bytes more word
run_onto-other (Some false) false bytes more word h = absurd (h refl)

-- parts with one more at the end
pub trees_onto-pushed : (parts : List Part) (last : Part) (more : WordTree)
    → trees_onto (parts ++ last ∷ []) more ≡ trees_onto parts (part (part_tree last) more)
trees_onto-pushed [] last more = refl
trees_onto-pushed (first ∷ rest) last more = ap (part (part_tree first)) (trees_onto-pushed rest last more)

-- the bytes at the end are made a part
pub run_made : (parts pushed : List Part) (last : Part) (run : Option Bool) (is_quoted : Bool) (bytes text : List ℕ) (more : WordTree)
    → run ≡ Some is_quoted → pushed ≡ parts ++ last ∷ [] → part_tree last ≡ literal is_quoted text → text ≡ bytes
    → trees_onto pushed more ≡ trees_onto parts (run_ended run bytes more)
run_made parts pushed last run is_quoted bytes text more some items is same =
    rw (items, trees_onto-pushed parts last more, is, same, some) refl

-- an expansion is added behind them
pub expansion_added : (parts ended pushed : List Part) (last : Part) (run after : Option Bool) (bytes left : List ℕ) (more : WordTree)
    → ((word : WordTree) → trees_onto ended word ≡ trees_onto parts (run_ended run bytes word)) → after ≡ None
    → pushed ≡ ended ++ last ∷ [] → is_expansion (part_tree last) ≡ true
    → trees_onto pushed (run_onto after left more) ≡ trees_onto parts (run_onto run bytes (before (part_tree last) more))
expansion_added parts ended pushed last run after bytes left more made none items h =
    rw (items, none, trees_onto-pushed ended last more, made (part (part_tree last) more), run_onto-expansion run bytes (part_tree last) more h) refl

-- bytes of the same quoting, and of the other, come next
pub same_begun : (parts : List Part) (run : Option Bool) (is_quoted : Bool) (bytes next : List ℕ) (more : WordTree) → run ≡ Some is_quoted
    → trees_onto parts (before (literal is_quoted (bytes ++ next)) more)
    ≡ trees_onto parts (run_onto run bytes (before (literal is_quoted next) more))
same_begun parts run is_quoted bytes next more some = rw (some, before-same is_quoted bytes next more) refl

pub other_begun : (parts ended : List Part) (run : Option Bool) (is_quoted : Bool) (bytes left next : List ℕ) (more : WordTree)
    → (run ≡ Some is_quoted → ⊥) → left ≡ []
    → ((word : WordTree) → trees_onto ended word ≡ trees_onto parts (run_ended run bytes word))
    → trees_onto ended (before (literal is_quoted (left ++ next)) more)
    ≡ trees_onto parts (run_onto run bytes (before (literal is_quoted next) more))
other_begun parts ended run is_quoted bytes left next more other none made =
    rw (none, made (before (literal is_quoted next) more), run_onto-other run is_quoted bytes next more other) refl

-- a word of some part isn't omitted
pub check_form-some : (colon : Bool) (parts : List Part) → (length parts ≡ 0 → ⊥)
    → check_form colon (trees_onto parts no_part) ≡ check colon (trees_onto parts no_part)
check_form-some colon [] h = absurd (h refl)
check_form-some colon (first ∷ rest) h = refl
