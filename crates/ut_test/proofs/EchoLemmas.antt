-- Operands with a space between each two.
use Rattle.std.proofs.Common.{◌≡◌, ◌≤◌, ◌-◌, ℕ, List, [], ◌∷◌, ◌++◌, length, take, drop, get_or, ap, sym, ◌∙◌, append-nil, append_assoc, arith}
use Rattle.std.proofs.lemmas.List.{take_all}
use Rattle.std.specs.Global.{Vec}
use Rattle.std.specs.List.{join_with_byte}
use Rattle.ps_lines.specs.Texts.{texts_of}
use Rattle.ut_test.specs.Echo.{spaced}
use Rattle.ut_test.specs.declared.writing.TheConstants.{SPACE}

-- the first operand, and the others, each behind a space
joined : (first : List ℕ) (others : List (List ℕ)) → join_with_byte SPACE (first ∷ others) ≡ first ++ spaced others
joined first [] = sym (append-nil first)
joined first (next ∷ others) = ap (λ rest. first ++ SPACE ∷ rest) (joined next others)

-- the same of operands in memory, behind what was written before them
pub joined_all : (args : List (Vec ℕ)) (first : Vec ℕ) (before text middle after : List ℕ) → 1 ≤ length args → first ≡ get_or args 0 first → text ≡ first.items
    → middle ≡ before ++ text → after ≡ middle ++ spaced (texts_of (take (length args - 1) (drop 1 args))) → after ≡ before ++ join_with_byte SPACE (texts_of args)
joined_all [] first before text middle after some is same put rest = absurd (omega arith)
joined_all (one ∷ others) first before text middle after some is same put rest =
    let behind = spaced (texts_of others) in
    let all : take (length (one ∷ others) - 1) others ≡ others = take_all (length (one ∷ others) - 1) others (omega arith) in
    rest
    ∙ ap (λ rest. middle ++ spaced (texts_of rest)) all
    ∙ ap (λ front. front ++ behind) (put ∙ ap (λ front. before ++ front) (same ∙ ap (λ (word : Vec ℕ). word.items) is))
    ∙ append_assoc before one.items behind
    ∙ ap (λ back. before ++ back) (sym (joined one.items (texts_of others)))
