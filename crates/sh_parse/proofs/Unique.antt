-- A list of items is read in one way.
use Rattle.std.proofs.Common.{◌≡◌, ℕ, true, false, List, [], ◌∷◌, refl, sym, ◌∙◌, ap, subst, Option, Some, is_some}
use Rattle.sh_tree.specs.Trees.{ListTree, JoinedTrees, PipelineTree, CommandTree, CommandTrees, BranchTrees, ElseTree, InTree, SubTrees, item, and_or, joined, pipeline, command, simple, group, subshell, if_branches, while_loop, until_loop, for_loop, branch, else_list, in_words, sub}
use Rattle.sh_parse.specs.Pieces.{WordViews, Piece, assign, argument, redirection, gathered, no_piece, tail_of, words_of, default_number}
use Rattle.sh_parse.specs.Places.{begins_piece, is_used}
use Rattle.sh_parse.specs.Inner.Owed.{Move, push, opens, skip, stuck, piece_by, pipeline_by}
use Rattle.sh_parse.specs.Grammar as g
use Rattle.sh_parse.specs.Grammar.{NoneNext, IsAgain, IsBody, IsList, IsSeparated, IsJoined, IsNextPipeline, IsPipeline, IsPiped, IsNextCommand, IsCommand, IsBranches, IsLoopHead, IsLoopLines, IsLoopSeparator, IsLoopDo, IsPieces, IsPiece, IsSubs, goes_on, Reads, script_of}
use Rattle.sh_parse.proofs.Runs.{Moves, Begins, list_begins, pipeline_begins, command_begins, piece_begins}
use Rattle.sh_parse.proofs.Backs.{true_false, is_move, begins_is}
use Rattle.sh_parse.specs.declared.items.Item.{Item}
use Rattle.sh_parse.specs.declared.items.Item.TheVariants as token
use Rattle.sh_parse.specs.declared.pieces.Slot.{Slot}
use Rattle.sh_parse.specs.declared.pieces.Slot.TheVariants as place
use Rattle.sh_parse.specs.declared.pieces.Use.{Use}
use Rattle.sh_parse.specs.declared.pieces.Use.TheVariants as use_as

abbrev pub rest_of : List Item → List Item
rest_of [] = []
rest_of (first ∷ rest) = rest

abbrev pub first_of : Item → List Item → Item
first_of none [] = none
first_of none (first ∷ rest) = first

moves_is : (m : Move) → Moves m → is_move m ≡ true
moves_is (push parts) h = refl
moves_is (opens parts) h = refl
moves_is skip h = absurd h
moves_is stuck h = absurd h

-- a pipeline is next, or isn't
pub begins_none : (items : List Item) → Begins items → NoneNext goes_on items → ⊥
begins_none [] h none = h
begins_none (first ∷ rest) h none = no_newline first (moves_is (pipeline_by first) h) none
  where
    no_newline : (first : Item) → is_move (pipeline_by first) ≡ true → goes_on first ≡ false → ⊥
    no_newline token.Newline m none = true_false none
    no_newline first m none = true_false (sym m ∙ sym (begins_is first) ∙ none)

piece_none : {views : WordViews} {most depth : ℕ} {at behind : Slot} {items left : List Item} {piece : Piece}
    → IsPiece views most depth at items piece behind left → NoneNext (begins_piece at) items → ⊥
piece_none (g.is_assign u subs) none = true_false (sym (ap is_used u) ∙ none)
piece_none (g.is_argument u subs) none = true_false (sym (ap is_used u) ∙ none)
piece_none (g.is_numbered u subs) none = true_false (sym (ap is_some u) ∙ none)
piece_none (g.is_redirection u subs) none = true_false (sym (ap is_some u) ∙ none)

piece_reserved : {views : WordViews} {most depth : ℕ} {behind : Slot} {first : Item} {items left : List Item} {piece : Piece}
    → IsPiece views most depth place.First (first ∷ items) piece behind left → piece_by place.First first ≡ skip → ⊥
piece_reserved {first = first} is e =
    let (found, (rest, (same, moves))) = piece_begins is in
    never same moves e
  where
    never : {one other : Item} {behind rest : List Item} → one ∷ behind ≡ other ∷ rest → Moves (piece_by place.First other) → piece_by place.First one ≡ skip → ⊥
    never {one = one} same moves e = subst (λ m. Moves m) (subst (λ i. piece_by place.First i ≡ skip) (ap (first_of one) same) e) moves

assigned_given : {u : Use} {behind : Slot} → u ≡ use_as.Assigned → u ≡ use_as.Given behind → ⊥
assigned_given one other = cc

given_same : {u : Use} {one other : Slot} → u ≡ use_as.Given one → u ≡ use_as.Given other → one ≡ other
given_same one other = cc

some_same : {X : Type 0} {o : Option X} {one other : X} → o ≡ Some one → o ≡ Some other → one ≡ other
some_same one other = cc

do_one : {items left behind : List Item} → IsLoopDo items left → IsLoopDo items behind → left ≡ behind
do_one (g.loop_newline a) (g.loop_newline b) = do_one a b
do_one g.loop_do g.loop_do = refl

separator_one : {items left behind : List Item} → IsLoopSeparator items left → IsLoopSeparator items behind → left ≡ behind
separator_one (g.semicolon_do a) (g.semicolon_do b) = do_one a b
separator_one (g.newline_do a) (g.newline_do b) = do_one a b

ap2 : {A B C : Type 0} (f : A → B → C) {a b : A} {x y : B} → a ≡ b → x ≡ y → f a x ≡ f b y
ap2 f {b = b} {x = x} e h = ap (λ z. f z x) e ∙ ap (f b) h

ap3 : {A B C D : Type 0} (f : A → B → C → D) {a b : A} {x y : B} {m n : C} → a ≡ b → x ≡ y → m ≡ n → f a x m ≡ f b y n
ap3 f {b = b} {x = x} {m = m} e h i = ap (λ z. f z x m) e ∙ ap2 (f b) h i

ap5 : {A B C D E F : Type 0} (f : A → B → C → D → E → F) {a b : A} {x y : B} {m n : C} {p q : D} {s t : E}
    → a ≡ b → x ≡ y → m ≡ n → p ≡ q → s ≡ t → f a x m p s ≡ f b y n q t
ap5 f {b = b} {x = x} {y = y} {m = m} {p = p} {s = s} e h i j k =
    ap (λ z. f z x m p s) e ∙ ap (λ z. f b z m p s) h ∙ ap3 (f b y) i j k

moved_separator : {one other left : List Item} → one ≡ other → IsLoopSeparator other left → IsLoopSeparator one left
moved_separator {left = left} e is = subst (λ l. IsLoopSeparator l left) (sym e) is

-- what is read behind the same items
module _ {views : WordViews} {most depth : ℕ} where
  moved_joined : {one other left : List Item} {tree : JoinedTrees} → one ≡ other → IsJoined views most depth other tree left
      → IsJoined views most depth one tree left
  moved_joined {left = left} {tree = tree} e is = subst (λ l. IsJoined views most depth l tree left) (sym e) is

  moved_separated : {one other left : List Item} {tree : ListTree} → one ≡ other → IsSeparated views most depth other tree left
      → IsSeparated views most depth one tree left
  moved_separated {left = left} {tree = tree} e is = subst (λ l. IsSeparated views most depth l tree left) (sym e) is

  moved_piped : {one other left : List Item} {tree : CommandTrees} → one ≡ other → IsPiped views most depth other tree left
      → IsPiped views most depth one tree left
  moved_piped {left = left} {tree = tree} e is = subst (λ l. IsPiped views most depth l tree left) (sym e) is

  moved_body : {one other left : List Item} {tree : ListTree} → one ≡ other → IsBody views most depth other tree left
      → IsBody views most depth one tree left
  moved_body {left = left} {tree = tree} e is = subst (λ l. IsBody views most depth l tree left) (sym e) is

  moved_branches : {one other left : List Item} {tree : BranchTrees} {otherwise : ElseTree} → one ≡ other
      → IsBranches views most depth other tree otherwise left → IsBranches views most depth one tree otherwise left
  moved_branches {left = left} {tree = tree} {otherwise = otherwise} e is =
      subst (λ l. IsBranches views most depth l tree otherwise left) (sym e) is

  moved_subs : {one other left : List Item} {tree : SubTrees} → one ≡ other → IsSubs views most depth other tree left
      → IsSubs views most depth one tree left
  moved_subs {left = left} {tree = tree} e is = subst (λ l. IsSubs views most depth l tree left) (sym e) is

  moved_pieces : {at : Slot} {one other left : List Item} {found : List Piece} → one ≡ other → IsPieces views most depth at other found left
      → IsPieces views most depth at one found left
  moved_pieces {at = at} {left = left} {found = found} e is = subst (λ l. IsPieces views most depth at l found left) (sym e) is

  moved_place : {one other : Slot} {items left : List Item} {found : List Piece} → one ≡ other → IsPieces views most depth other items found left
      → IsPieces views most depth one items found left
  moved_place {items = items} {left = left} {found = found} e is = subst (λ p. IsPieces views most depth p items found left) (sym e) is

module _ {views : WordViews} {most : ℕ} where
  mutual
    pub again_one : {depth : ℕ} {items left behind : List Item} {one other : ListTree} → IsAgain views most depth items one left
        → IsAgain views most depth items other behind → (one ≡ other) × (left ≡ behind)
    again_one (g.again_newline a) (g.again_newline b) = again_one a b
    again_one (g.again_newline a) (g.again_list b) = absurd (list_begins b)
    again_one (g.again_newline a) (g.no_list none) = absurd (true_false none)
    again_one (g.again_list a) (g.again_newline b) = absurd (list_begins a)
    again_one (g.again_list a) (g.again_list b) = list_one a b
    again_one (g.again_list {items = items} a) (g.no_list none) = absurd (begins_none items (list_begins a) none)
    again_one (g.no_list none) (g.again_newline b) = absurd (true_false none)
    again_one (g.no_list {items = items} none) (g.again_list b) = absurd (begins_none items (list_begins b) none)
    again_one (g.no_list none) (g.no_list other) = (refl, refl)

    body_one : {depth : ℕ} {items left behind : List Item} {one other : ListTree} → IsBody views most depth items one left
        → IsBody views most depth items other behind → (one ≡ other) × (left ≡ behind)
    body_one (g.body_newline a) (g.body_newline b) = body_one a b
    body_one (g.body_newline a) (g.body_list b) = absurd (list_begins b)
    body_one (g.body_list a) (g.body_newline b) = absurd (list_begins a)
    body_one (g.body_list a) (g.body_list b) = list_one a b

    list_one : {depth : ℕ} {items left behind : List Item} {one other : ListTree} → IsList views most depth items one left
        → IsList views most depth items other behind → (one ≡ other) × (left ≡ behind)
    list_one (g.is_list a b c) (g.is_list x y z) =
        let (same, e) = pipeline_one a x in
        let (same_others, f) = joined_one b (moved_joined e y) in
        let (same_more, h) = separated_one c (moved_separated f z) in
        (ap3 (λ f o m. item (and_or f o) m) same same_others same_more, h)

    separated_one : {depth : ℕ} {items left behind : List Item} {one other : ListTree} → IsSeparated views most depth items one left
        → IsSeparated views most depth items other behind → (one ≡ other) × (left ≡ behind)
    separated_one (g.no_separator none) (g.no_separator other) = (refl, refl)
    separated_one (g.no_separator none) (g.by_semicolon b) = absurd (true_false none)
    separated_one (g.no_separator none) (g.by_newline b) = absurd (true_false none)
    separated_one (g.by_semicolon a) (g.no_separator none) = absurd (true_false none)
    separated_one (g.by_semicolon a) (g.by_semicolon b) = again_one a b
    separated_one (g.by_newline a) (g.no_separator none) = absurd (true_false none)
    separated_one (g.by_newline a) (g.by_newline b) = again_one a b

    joined_one : {depth : ℕ} {items left behind : List Item} {one other : JoinedTrees} → IsJoined views most depth items one left
        → IsJoined views most depth items other behind → (one ≡ other) × (left ≡ behind)
    joined_one (g.last_pipeline none) (g.last_pipeline other) = (refl, refl)
    joined_one (g.last_pipeline none) (g.join x y) = absurd (true_false none)
    joined_one (g.join a b) (g.last_pipeline none) = absurd (true_false none)
    joined_one (g.join {sign = sign} a b) (g.join x y) =
        let (same, e) = next_pipeline_one a x in
        let (same_others, f) = joined_one b (moved_joined e y) in
        (ap2 (λ t o. joined sign t o) same same_others, f)

    next_pipeline_one : {depth : ℕ} {items left behind : List Item} {one other : PipelineTree} → IsNextPipeline views most depth items one left
        → IsNextPipeline views most depth items other behind → (one ≡ other) × (left ≡ behind)
    next_pipeline_one (g.newline_pipeline a) (g.newline_pipeline b) = next_pipeline_one a b
    next_pipeline_one (g.newline_pipeline a) (g.next_pipeline b) = absurd (pipeline_begins b)
    next_pipeline_one (g.next_pipeline a) (g.newline_pipeline b) = absurd (pipeline_begins a)
    next_pipeline_one (g.next_pipeline a) (g.next_pipeline b) = pipeline_one a b

    pipeline_one : {depth : ℕ} {items left behind : List Item} {one other : PipelineTree} → IsPipeline views most depth items one left
        → IsPipeline views most depth items other behind → (one ≡ other) × (left ≡ behind)
    pipeline_one (g.negated a b) (g.negated x y) =
        let (same, e) = command_one a x in
        let (same_others, f) = piped_one b (moved_piped e y) in
        (ap2 (λ t o. pipeline true (command t o)) same same_others, f)
    pipeline_one (g.negated a b) (g.plain x y) = absurd (command_begins x)
    pipeline_one (g.plain a b) (g.negated x y) = absurd (command_begins a)
    pipeline_one (g.plain a b) (g.plain x y) =
        let (same, e) = command_one a x in
        let (same_others, f) = piped_one b (moved_piped e y) in
        (ap2 (λ t o. pipeline false (command t o)) same same_others, f)

    piped_one : {depth : ℕ} {items left behind : List Item} {one other : CommandTrees} → IsPiped views most depth items one left
        → IsPiped views most depth items other behind → (one ≡ other) × (left ≡ behind)
    piped_one (g.last_command none) (g.last_command other) = (refl, refl)
    piped_one (g.last_command none) (g.pipe x y) = absurd (true_false none)
    piped_one (g.pipe a b) (g.last_command none) = absurd (true_false none)
    piped_one (g.pipe a b) (g.pipe x y) =
        let (same, e) = next_command_one a x in
        let (same_others, f) = piped_one b (moved_piped e y) in
        (ap2 command same same_others, f)

    next_command_one : {depth : ℕ} {items left behind : List Item} {one other : CommandTree} → IsNextCommand views most depth items one left
        → IsNextCommand views most depth items other behind → (one ≡ other) × (left ≡ behind)
    next_command_one (g.newline_command a) (g.newline_command b) = next_command_one a b
    next_command_one (g.newline_command a) (g.next_command b) = absurd (command_begins b)
    next_command_one (g.next_command a) (g.newline_command b) = absurd (command_begins a)
    next_command_one (g.next_command a) (g.next_command b) = command_one a b

    command_one : {depth : ℕ} {items left behind : List Item} {one other : CommandTree} → IsCommand views most depth items one left
        → IsCommand views most depth items other behind → (one ≡ other) × (left ≡ behind)
    command_one (g.is_simple a b) (g.is_simple x y) =
        let (same, (place_same, e)) = piece_one a x in
        let (same_others, f) = pieces_one b (moved_pieces e (moved_place place_same y)) in
        (ap2 (λ p o. simple (gathered views no_piece (p ∷ o))) same same_others, f)
    command_one (g.is_simple a b) (g.is_group l x y) = absurd (piece_reserved a refl)
    command_one (g.is_simple a b) (g.is_subshell l x y) = absurd (piece_reserved a refl)
    command_one (g.is_simple a b) (g.is_if l x y z w) = absurd (piece_reserved a refl)
    command_one (g.is_simple a b) (g.is_while l x y z) = absurd (piece_reserved a refl)
    command_one (g.is_simple a b) (g.is_until l x y z) = absurd (piece_reserved a refl)
    command_one (g.is_simple a b) (g.is_for l n x y z) = absurd (piece_reserved a refl)
    command_one (g.is_group l a b) (g.is_simple x y) = absurd (piece_reserved x refl)
    command_one (g.is_subshell l a b) (g.is_simple x y) = absurd (piece_reserved x refl)
    command_one (g.is_if l a b c d) (g.is_simple x y) = absurd (piece_reserved x refl)
    command_one (g.is_while l a b c) (g.is_simple x y) = absurd (piece_reserved x refl)
    command_one (g.is_until l a b c) (g.is_simple x y) = absurd (piece_reserved x refl)
    command_one (g.is_for l n a b c) (g.is_simple x y) = absurd (piece_reserved x refl)
    command_one (g.is_group l a b) (g.is_group k x y) =
        let (same, e) = body_one a x in
        let (same_others, f) = pieces_one b (moved_pieces (ap rest_of e) y) in
        (ap2 (λ t o. group t (tail_of (gathered views no_piece o))) same same_others, f)
    command_one (g.is_subshell l a b) (g.is_subshell k x y) =
        let (same, e) = body_one a x in
        let (same_others, f) = pieces_one b (moved_pieces (ap rest_of e) y) in
        (ap2 (λ t o. subshell t (tail_of (gathered views no_piece o))) same same_others, f)
    command_one (g.is_if l a b c d) (g.is_if k x y z w) =
        let (same, e) = body_one a x in
        let (same_body, f) = body_one b (moved_body (ap rest_of e) y) in
        let (same_others, (same_otherwise, h)) = branches_one c (moved_branches f z) in
        let (same_tail, i) = pieces_one d (moved_pieces h w) in
        (ap5 (λ c b o e r. if_branches (branch c b o) e (tail_of (gathered views no_piece r))) same same_body same_others same_otherwise same_tail, i)
    command_one (g.is_while l a b c) (g.is_while k x y z) =
        let (same, e) = body_one a x in
        let (same_body, f) = body_one b (moved_body (ap rest_of e) y) in
        let (same_tail, i) = pieces_one c (moved_pieces (ap rest_of f) z) in
        (ap3 (λ c b r. while_loop c b (tail_of (gathered views no_piece r))) same same_body same_tail, i)
    command_one (g.is_until l a b c) (g.is_until k x y z) =
        let (same, e) = body_one a x in
        let (same_body, f) = body_one b (moved_body (ap rest_of e) y) in
        let (same_tail, i) = pieces_one c (moved_pieces (ap rest_of f) z) in
        (ap3 (λ c b r. until_loop c b (tail_of (gathered views no_piece r))) same same_body same_tail, i)
    command_one (g.is_for {name = name} l n a b c) (g.is_for k m x y z) =
        let (same, e) = loop_head_one a x in
        let (same_body, f) = body_one b (moved_body e y) in
        let (same_tail, i) = pieces_one c (moved_pieces (ap rest_of f) z) in
        (ap3 (λ c b r. for_loop (views.name name) c b (tail_of (gathered views no_piece r))) same same_body same_tail, i)

    branches_one : {depth : ℕ} {items left behind : List Item} {one other : BranchTrees} {else_one else_other : ElseTree}
        → IsBranches views most depth items one else_one left → IsBranches views most depth items other else_other behind
        → (one ≡ other) × ((else_one ≡ else_other) × (left ≡ behind))
    branches_one (g.elif_branch a b c) (g.elif_branch x y z) =
        let (same, e) = body_one a x in
        let (same_body, f) = body_one b (moved_body (ap rest_of e) y) in
        let (same_others, (same_otherwise, h)) = branches_one c (moved_branches f z) in
        (ap3 branch same same_body same_others, (same_otherwise, h))
    branches_one (g.else_branch a) (g.else_branch x) =
        let (same, e) = body_one a x in (refl, (ap else_list same, ap rest_of e))
    branches_one g.no_more g.no_more = (refl, (refl, refl))

    loop_head_one : {depth : ℕ} {items left behind : List Item} {one other : InTree} → IsLoopHead views most depth items one left
        → IsLoopHead views most depth items other behind → (one ≡ other) × (left ≡ behind)
    loop_head_one g.head_do g.head_do = (refl, refl)
    loop_head_one (g.head_semicolon a) (g.head_semicolon b) = (refl, do_one a b)
    loop_head_one (g.head_newline a) (g.head_newline b) = loop_lines_one a b
    loop_head_one (g.head_in a b) (g.head_in x y) =
        let (same, e) = pieces_one a x in
        let f = separator_one b (moved_separator e y) in
        (ap (λ w. in_words (words_of (gathered views no_piece w))) same, f)

    loop_lines_one : {depth : ℕ} {items left behind : List Item} {one other : InTree} → IsLoopLines views most depth items one left
        → IsLoopLines views most depth items other behind → (one ≡ other) × (left ≡ behind)
    loop_lines_one g.lines_do g.lines_do = (refl, refl)
    loop_lines_one (g.lines_newline a) (g.lines_newline b) = loop_lines_one a b
    loop_lines_one (g.lines_in a b) (g.lines_in x y) =
        let (same, e) = pieces_one a x in
        let f = separator_one b (moved_separator e y) in
        (ap (λ w. in_words (words_of (gathered views no_piece w))) same, f)

    pieces_one : {depth : ℕ} {at : Slot} {items left behind : List Item} {one other : List Piece} → IsPieces views most depth at items one left
        → IsPieces views most depth at items other behind → (one ≡ other) × (left ≡ behind)
    pieces_one (g.last_piece none) (g.last_piece other) = (refl, refl)
    pieces_one (g.last_piece none) (g.more_pieces x y) = absurd (piece_none x none)
    pieces_one (g.more_pieces a b) (g.last_piece none) = absurd (piece_none a none)
    pieces_one (g.more_pieces a b) (g.more_pieces x y) =
        let (same, (place_same, e)) = piece_one a x in
        let (same_others, f) = pieces_one b (moved_pieces e (moved_place place_same y)) in
        (ap2 (λ p o. p ∷ o) same same_others, f)

    piece_one : {depth : ℕ} {at one_place other_place : Slot} {items left behind : List Item} {one other : Piece}
        → IsPiece views most depth at items one one_place left → IsPiece views most depth at items other other_place behind
        → (one ≡ other) × ((one_place ≡ other_place) × (left ≡ behind))
    piece_one (g.is_assign {at = at} u a) (g.is_assign v x) = let (same, e) = subs_one a x in (ap (assign at) same, (refl, e))
    piece_one (g.is_assign u a) (g.is_argument v x) = absurd (assigned_given u v)
    piece_one (g.is_argument u a) (g.is_assign v x) = absurd (assigned_given v u)
    piece_one (g.is_argument {at = at} u a) (g.is_argument v x) = let (same, e) = subs_one a x in (ap (argument at) same, (given_same u v, e))
    piece_one (g.is_numbered {number = number} {how = how} {at = at} u a) (g.is_numbered v x) = let (same, e) = subs_one a x in (ap (redirection number how at) same, (some_same u v, e))
    piece_one (g.is_redirection {how = how} {at = at} u a) (g.is_redirection v x) = let (same, e) = subs_one a x in (ap (redirection (default_number how) how at) same, (some_same u v, e))

    subs_one : {depth : ℕ} {items left behind : List Item} {one other : SubTrees} → IsSubs views most depth items one left
        → IsSubs views most depth items other behind → (one ≡ other) × (left ≡ behind)
    subs_one (g.last_sub none) (g.last_sub other) = (refl, refl)
    subs_one (g.last_sub none) (g.next_sub l x y) = absurd (true_false none)
    subs_one (g.next_sub l a b) (g.last_sub none) = absurd (true_false none)
    subs_one (g.next_sub l a b) (g.next_sub k x y) =
        let (same, e) = again_one a x in
        let (same_others, f) = subs_one b (moved_subs (ap rest_of e) y) in
        (ap2 sub same same_others, f)
