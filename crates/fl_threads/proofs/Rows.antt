-- What is known of rows of threads that are started, told and joined.
use Rattle.std.proofs.Common.{◌≡◌, Bool, true, false, ◌||◌, List, [], ◌∷◌, ◌++◌, map, refl, sym, ap, ◌∙◌, true≢false, append-nil, subst}
use Rattle.fl_graph.specs.Runs.{has_end, is_end}
use Rattle.fl_graph.specs.declared.pieces.Piece.{Piece}
use Rattle.fl_relay.specs.Relays.{given}
use Rattle.fl_threads.specs.declared.begun.Begun.{Begun}
use Rattle.fl_threads.specs.Threads.{AreGiven, EachOf}

-- pieces with no end and one more have an end where this one is one
pub ended_by : (pieces : List Piece) (piece : Piece) → has_end pieces ≡ false → has_end (pieces ++ piece ∷ []) ≡ is_end piece
ended_by [] piece none = or-none (is_end piece)
  where
    or-none : (ends : Bool) → ends || false ≡ ends
    or-none true = refl
    or-none false = refl
ended_by (first ∷ pieces) piece none = by_first (is_end first) none (ended_by pieces piece)
  where
    by_first : (ends : Bool) → ends || has_end pieces ≡ false
        → (has_end pieces ≡ false → has_end (pieces ++ piece ∷ []) ≡ is_end piece)
        → ends || has_end (pieces ++ piece ∷ []) ≡ is_end piece
    by_first true is more = absurd (true≢false is)
    by_first false is more = more is

-- one more behind the images of what is done is the first of those that are left
map-moved : {X Y : Type 0} (f : X → Y) (done : List X) (one : X) (rest : List Y) → map f (done ++ one ∷ []) ++ rest ≡ map f done ++ f one ∷ rest
map-moved f [] one rest = refl
map-moved f (first ∷ done) one rest = ap (λ ys. f first ∷ ys) (map-moved f done one rest)

-- a thread was started for the next job, and no job was refused yet
pub begun-more : {X Y : Type 0} (f : X → Y) (begun now : List X) (one : X) (here left later : List Y) (next : Y) (all : List Y) → now ≡ begun ++ one ∷ []
    → left ≡ next ∷ later → here ≡ [] → f one ≡ next → map f begun ++ (here ++ left) ≡ all → map f now ++ (here ++ later) ≡ all
begun-more f begun now one here left later next all grown is none same holds =
    ap (λ xs. map f xs ++ (here ++ later)) grown ∙ ap (λ ys. map f (begun ++ one ∷ []) ++ (ys ++ later)) none
    ∙ map-moved f begun one later ∙ ap (λ y. map f begun ++ y ∷ later) same ∙ ap (λ ys. map f begun ++ ys) (sym is)
    ∙ ap (λ ys. map f begun ++ (ys ++ left)) (sym none) ∙ holds

-- the next thread was told, and its job is what it was
pub told-more : {X Y : Type 0} (f : X → Y) (told now : List X) (one next : X) (left later : List X) (all : List Y) → now ≡ told ++ one ∷ []
    → left ≡ next ∷ later → f one ≡ f next → map f told ++ map f left ≡ all → map f now ++ map f later ≡ all
told-more f told now one next left later all grown is same holds =
    ap (λ xs. map f xs ++ map f later) grown ∙ map-moved f told one (map f later) ∙ ap (λ y. map f told ++ y ∷ map f later) same
    ∙ ap (λ xs. map f told ++ map f xs) (sym is) ∙ holds

-- one more thread that was given these pieces
given-snoc : {J S D : Type 0} (pieces : List Piece) (begun : List (Begun J S D)) (one : Begun J S D) → AreGiven pieces begun → given one.go ≡ pieces
    → AreGiven pieces (begun ++ one ∷ [])
given-snoc pieces [] one all is = (is, tt)
given-snoc pieces (first ∷ begun) one all is = (all.0, given-snoc pieces begun one all.1 is)

pub given-more : {J S D : Type 0} (pieces : List Piece) (begun now : List (Begun J S D)) (one : Begun J S D) → now ≡ begun ++ one ∷ [] → AreGiven pieces begun
    → given one.go ≡ pieces → AreGiven pieces now
given-more pieces begun now one grown all is = subst (λ items. AreGiven pieces items) (sym grown) (given-snoc pieces begun one all is)

-- those that are left were given them too
pub given-left : {J S D : Type 0} (pieces : List Piece) (left later : List (Begun J S D)) (next : Begun J S D) → left ≡ next ∷ later → AreGiven pieces left
    → (given next.go ≡ pieces) × AreGiven pieces later
given-left pieces left later next is all = subst (λ items. AreGiven pieces items) is all

-- where none is left, what came of all is what came of those that are done
pub all-came : {A B X : Type 0} (Comes : A → B → Type 0) (f : X → A) (left : List X) (all : List A) (done : List B) → left ≡ []
    → ((later : List B) → EachOf Comes (map f left) later → EachOf Comes all (done ++ later)) → EachOf Comes all done
all-came Comes f left all done none goes_on =
    subst (λ items. EachOf Comes all items) (append-nil done) (goes_on [] (subst (λ xs. EachOf Comes (map f xs) []) (sym none) tt))

-- and all that are back are those that came back so far
pub all-back : {A X : Type 0} (f : X → A) (left : List X) (back all : List A) → left ≡ [] → back ++ map f left ≡ all → back ≡ all
all-back f left back all none holds = sym (append-nil back) ∙ ap (λ xs. back ++ map f xs) (sym none) ∙ holds
