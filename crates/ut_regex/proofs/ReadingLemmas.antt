-- One piece more.
use Rattle.std.proofs.Common.{ℕ, ◌≡◌, ◌==◌, ◌⊎◌, inl, inr, ap, Bool, true, false, List, [], ◌∷◌, length, nat_lt, refl, subst, sym, ◌∙◌, arith}
use Rattle.std.proofs.lemmas.Bool.Decides.{Decides-eqb}
use Rattle.ut_regex.specs.declared.fault.ReFault.{ReFault}
use Rattle.ut_regex.specs.declared.fault.ReFault.TheVariants.{NotARegex, BackReference, RepeatTooLarge, TooLarge, Memory}
use Rattle.ut_regex.specs.declared.pieces.Before.{Before}
use Rattle.ut_regex.specs.declared.pieces.Piece.{Piece}
use Rattle.ut_regex.specs.Pieces.{next, IsPiece, IsNoPiece}
use Rattle.ut_regex.specs.declared.building.Builder.{Builder}
use Rattle.ut_regex.specs.declared.tree.Node.{Node}
use Rattle.ut_regex.specs.declared.pieces.Before.TheVariants as before
use Rattle.ut_regex.specs.Tree.{last_tree, with_nodes}
use Rattle.ut_regex.specs.Inner.Building.{start, built, ended, grown_by}
use Rattle.ut_regex.specs.Reading.{leaves, depth_behind, may_end, IsExpression, ends, goes_on, HasFault, unfinished, here, later, Reads, IsRead, Faults, Refuses}
use Rattle.ut_regex.proofs.NextLemmas.{IsFault, piece_fault}
use Rattle.ut_regex.proofs.SpellingLemmas.{expression_spelled}

pub read_on : (basic : Bool) (last last_on : Before) (depth depth_on : ℕ) (text rest : List ℕ) (one : Piece)
    → last_on ≡ leaves one → depth_on ≡ depth_behind depth one → IsPiece basic (next basic last (nat_lt 0 depth) text) one rest
    → (pieces : List Piece) → IsExpression basic last_on depth_on rest pieces → IsExpression basic last depth text (one ∷ pieces)
read_on basic last last_on depth depth_on text rest one leaves_is depth_is is pieces h =
    goes_on is (subst (λ d. IsExpression basic (leaves one) d rest pieces) depth_is
    (subst (λ b. IsExpression basic b depth_on rest pieces) leaves_is h))

pub fault_on : (basic : Bool) (last last_on : Before) (depth depth_on : ℕ) (text rest : List ℕ) (one : Piece)
    → last_on ≡ leaves one → depth_on ≡ depth_behind depth one → IsPiece basic (next basic last (nat_lt 0 depth) text) one rest
    → (fault : ReFault) → HasFault basic last_on depth_on rest fault → HasFault basic last depth text fault
fault_on basic last last_on depth depth_on text rest one leaves_is depth_is is fault h =
    later one is (subst (λ d. HasFault basic (leaves one) d rest fault) depth_is
    (subst (λ b. HasFault basic b depth_on rest fault) leaves_is h))

pub fault_here : (basic : Bool) (last : Before) (depth : ℕ) (text : List ℕ) (fault : ReFault) → (length text == 0) ≡ false
    → IsNoPiece basic (next basic last (nat_lt 0 depth) text) fault → HasFault basic last depth text fault
fault_here basic last depth [] fault some is = absurd (cc)
fault_here basic last depth (byte ∷ rest) fault some is = here is

pub empty_text : (text : List ℕ) → (length text == 0) ≡ true → text ≡ []
empty_text [] h = refl
empty_text (byte ∷ rest) h = absurd (omega (arith, (Decides-eqb (length (byte ∷ rest)) 0).0 h))

pub ends_there : (basic : Bool) (last : Before) (depth : ℕ) (text : List ℕ) → (length text == 0) ≡ true → may_end last depth ≡ true
    → IsExpression basic last depth text []
ends_there basic last depth text none may = subst (λ all. IsExpression basic last depth all []) (sym (empty_text text none)) (ends may)

pub unfinished_there : (basic : Bool) (last : Before) (depth : ℕ) (text : List ℕ) → (length text == 0) ≡ true → may_end last depth ≡ false
    → HasFault basic last depth text NotARegex
unfinished_there basic last depth text none may =
    subst (λ all. HasFault basic last depth all NotARegex) (sym (empty_text text none)) (unfinished may)

-- a text's fault is one that a text may have
fault_is : (basic : Bool) {last : Before} {depth : ℕ} {text : List ℕ} {fault : ReFault} → HasFault basic last depth text fault → IsFault fault
fault_is basic (unfinished may) = tt
fault_is basic (here {last} {depth} {byte} {rest} {fault} is) = piece_fault basic last (nat_lt 0 depth) (byte ∷ rest) fault is
fault_is basic (later one is more) = fault_is basic more

-- a text that has a fault isn't read for it
pub faults_refuse : (basic : Bool) (text : List ℕ) (fault : ReFault) → Faults basic text fault → Refuses basic text fault
faults_refuse basic text NotARegex h = h
faults_refuse basic text BackReference h = h
faults_refuse basic text RepeatTooLarge h = h
faults_refuse basic text TooLarge h = absurd (fault_is basic h)
faults_refuse basic text Memory h = absurd (fault_is basic h)

pub fails_refuse : (basic : Bool) (text : List ℕ) (fault : ReFault) → IsRead basic text → (fault ≡ Memory) ⊎ Faults basic text fault
    → Refuses basic text fault
fails_refuse basic text fault is (inl memory) = subst (λ f. Refuses basic text f) (sym memory) is
fails_refuse basic text fault is (inr h) = faults_refuse basic text fault h

-- the pieces of a text make its tree
pub pieces_read : (basic : Bool) (text : List ℕ) (pieces : List Piece) → IsExpression basic before.Start 0 text pieces → IsRead basic text
pieces_read basic text pieces is = let s = expression_spelled basic is in (s.0, (pieces, is, s.1))

-- a builder that was given the pieces of a text has its tree
pub builder_reads : (basic : Bool) (text : List ℕ) (pieces : List Piece) (builder : Builder) (nodes : List Node)
    → IsExpression basic before.Start 0 text pieces → grown_by pieces start ≡ built builder
    → with_nodes [] nodes ≡ ended builder.level (built builder).trees → Reads basic text (last_tree (with_nodes [] nodes))
builder_reads basic text pieces builder nodes is grows made =
    let s = expression_spelled basic is in
    let same : last_tree (with_nodes [] nodes) ≡ s.0 = ap last_tree (made ∙ sym (ap (λ t. ended t.level t.trees) grows) ∙ s.2) in
    subst (λ re. Reads basic text re) (sym same) (pieces, is, s.1)
