-- Where each word of a list of items has as many command substitutions as items of its own follow it, each command of its script numbers its
-- command substitutions.
use Rattle.std.proofs.Common.{◌≡◌, ℕ, zero, suc, ◌+◌, true, false, None, Some, List, [], ◌∷◌, ◌++◌, refl, sym, ◌∙◌, ap, subst, append_assoc, arith}
use Rattle.std.specs.List.{range_with_len}
use Rattle.std.specs.List.Sorted.{IsPermutation}
use Rattle.std.proofs.lemmas.List.{append-nil}
use Rattle.std.proofs.lemmas.List.Sorted.{IsPermutation-refl, IsPermutation-trans, IsPermutation-append_comm, IsPermutation-append_left, IsPermutation-append_right}
use Rattle.sh_tree.specs.Trees.{WordTree, ListTree, no_item, item, JoinedTrees, PipelineTree, CommandTree, CommandTrees, BranchTrees, ElseTree, InTree, SimpleTree, simple_command, SubTrees, no_sub, sub, RedirTree, ScriptTree, tail, words}
use Rattle.sh_tree.specs.Numbering.{word_numbers, assigns_numbers, words_numbers, redirs_numbers, sub_count, NameEach, IsNumberedList, AreNumberedJoined, IsNumberedPipeline, AreNumberedCommands, IsNumberedCommand, AreNumberedBranches, IsNumberedElse, IsNumberedSimple, IsNumberedIn, AreNumberedWords, IsNumberedTail, AreNumberedSubs, IsNumberedScript}
use Rattle.sh_parse.specs.Pieces.{WordViews, Piece, assign, argument, redirection, subs_then, with_piece, gathered, no_piece, tail_of, words_of}
use Rattle.sh_parse.specs.Places.{used, redirects}
use Rattle.sh_parse.specs.Grammar.{NoneNext, is_sub_open, IsLoopDo, loop_newline, loop_do, IsLoopSeparator, semicolon_do, newline_do, IsAgain, again_newline, again_list, no_list, IsBody, body_newline, body_list, IsList, is_list, IsSeparated, no_separator, by_semicolon, by_newline, IsJoined, last_pipeline, join, IsNextPipeline, newline_pipeline, next_pipeline, IsPipeline, negated, plain, IsPiped, last_command, pipe, IsNextCommand, newline_command, next_command, IsCommand, is_simple, is_group, is_subshell, is_if, is_while, is_until, is_for, IsBranches, elif_branch, else_branch, no_more, IsLoopHead, head_do, head_semicolon, head_newline, head_in, IsLoopLines, lines_do, lines_newline, lines_in, IsPieces, last_piece, more_pieces, IsPiece, is_assign, is_argument, is_numbered, is_redirection, IsSubs, last_sub, next_sub, script_of, Reads}
use Rattle.sh_parse.specs.declared.items.Item.{Item}
use Rattle.sh_parse.specs.declared.items.Item.TheVariants as token
use Rattle.sh_parse.specs.declared.items.Span.{Span}
use Rattle.sh_parse.specs.declared.items.WordKind.{WordKind}
use Rattle.sh_parse.specs.declared.items.WordKind.TheVariants as word
use Rattle.sh_parse.specs.declared.pieces.Slot.{Slot}
use Rattle.sh_parse.specs.declared.pieces.Slot.TheVariants as place
use Rattle.sh_parse.specs.declared.pieces.Use.TheVariants as use_as

-- how many command substitutions follow an item directly, where so many are open
abbrev pub own_subs : ℕ → List Item → ℕ
own_subs depth [] = 0
own_subs zero (token.SubOpen at ∷ rest) = own_subs 1 rest + 1
own_subs zero (token.SubClose ∷ rest) = 0
own_subs zero (token.Word kind at ∷ rest) = 0
own_subs zero (token.IoNumber number at ∷ rest) = 0
own_subs zero (token.Redirect how at ∷ rest) = 0
own_subs zero (token.Newline ∷ rest) = 0
own_subs zero (token.Semi ∷ rest) = 0
own_subs zero (token.Join sign ∷ rest) = 0
own_subs zero (token.Pipe ∷ rest) = 0
own_subs zero (token.Open at ∷ rest) = 0
own_subs zero (token.Close ∷ rest) = 0
own_subs (suc depth) (token.SubOpen at ∷ rest) = own_subs (suc (suc depth)) rest
own_subs (suc depth) (token.SubClose ∷ rest) = own_subs depth rest
own_subs (suc depth) (token.Word kind at ∷ rest) = own_subs (suc depth) rest
own_subs (suc depth) (token.IoNumber number at ∷ rest) = own_subs (suc depth) rest
own_subs (suc depth) (token.Redirect how at ∷ rest) = own_subs (suc depth) rest
own_subs (suc depth) (token.Newline ∷ rest) = own_subs (suc depth) rest
own_subs (suc depth) (token.Semi ∷ rest) = own_subs (suc depth) rest
own_subs (suc depth) (token.Join sign ∷ rest) = own_subs (suc depth) rest
own_subs (suc depth) (token.Pipe ∷ rest) = own_subs (suc depth) rest
own_subs (suc depth) (token.Open at ∷ rest) = own_subs (suc depth) rest
own_subs (suc depth) (token.Close ∷ rest) = own_subs (suc depth) rest

-- the numbers of a word that has so many, and of the value of an assignment
pub record IsCounted (views : WordViews) (kind : WordKind) (at : Span) (count : ℕ) : Type 0 where
  pub as_word : (first : ℕ) → word_numbers (views.word at first) ≡ range_with_len first count
  pub as_value : kind ≡ word.Assign → (first : ℕ) → word_numbers (views.assign at first).1 ≡ range_with_len first count

-- each word has as many as follow it
abbrev pub AreCounted : WordViews → List Item → Type 0
AreCounted views [] = Unit {0}
AreCounted views (token.Word kind at ∷ rest) = IsCounted views kind at (own_subs 0 rest) × AreCounted views rest
AreCounted views (token.IoNumber number at ∷ rest) = AreCounted views rest
AreCounted views (token.Redirect how at ∷ rest) = AreCounted views rest
AreCounted views (token.Newline ∷ rest) = AreCounted views rest
AreCounted views (token.Semi ∷ rest) = AreCounted views rest
AreCounted views (token.Join sign ∷ rest) = AreCounted views rest
AreCounted views (token.Pipe ∷ rest) = AreCounted views rest
AreCounted views (token.Open at ∷ rest) = AreCounted views rest
AreCounted views (token.Close ∷ rest) = AreCounted views rest
AreCounted views (token.SubOpen at ∷ rest) = AreCounted views rest
AreCounted views (token.SubClose ∷ rest) = AreCounted views rest

-- ITEMS THAT A RULE READS close each substitution that they open
abbrev Keeps : List Item → List Item → Type 0
Keeps items left = (depth : ℕ) → own_subs (suc depth) items ≡ own_subs (suc depth) left

do-keeps : {items left : List Item} → IsLoopDo items left → Keeps items left
do-keeps (loop_newline more) = do-keeps more
do-keeps loop_do = λ depth. refl

separator-keeps : {items left : List Item} → IsLoopSeparator items left → Keeps items left
separator-keeps (semicolon_do more) = do-keeps more
separator-keeps (newline_do more) = do-keeps more

none_own : (items : List Item) → NoneNext is_sub_open items → own_subs 0 items ≡ 0
none_own [] none = refl
none_own (token.SubOpen at ∷ rest) none = absurd cc
none_own (token.SubClose ∷ rest) none = refl
none_own (token.Word kind at ∷ rest) none = refl
none_own (token.IoNumber number at ∷ rest) none = refl
none_own (token.Redirect how at ∷ rest) none = refl
none_own (token.Newline ∷ rest) none = refl
none_own (token.Semi ∷ rest) none = refl
none_own (token.Join sign ∷ rest) none = refl
none_own (token.Pipe ∷ rest) none = refl
none_own (token.Open at ∷ rest) none = refl
none_own (token.Close ∷ rest) none = refl

module _ {views : WordViews} {most : ℕ} where
  mutual
    again-keeps : {depth : ℕ} {items left : List Item} {list : ListTree} → IsAgain views most depth items list left → Keeps items left
    again-keeps (again_newline more) = again-keeps more
    again-keeps (again_list list) = list-keeps list
    again-keeps (no_list none) = λ depth. refl

    body-keeps : {depth : ℕ} {items left : List Item} {list : ListTree} → IsBody views most depth items list left → Keeps items left
    body-keeps (body_newline more) = body-keeps more
    body-keeps (body_list list) = list-keeps list

    list-keeps : {depth : ℕ} {items left : List Item} {list : ListTree} → IsList views most depth items list left → Keeps items left
    list-keeps (is_list first others more) = λ depth. pipeline-keeps first depth ∙ joined-keeps others depth ∙ separated-keeps more depth

    separated-keeps : {depth : ℕ} {items left : List Item} {list : ListTree} → IsSeparated views most depth items list left → Keeps items left
    separated-keeps (no_separator none) = λ depth. refl
    separated-keeps (by_semicolon more) = again-keeps more
    separated-keeps (by_newline more) = again-keeps more

    joined-keeps : {depth : ℕ} {items left : List Item} {trees : JoinedTrees} → IsJoined views most depth items trees left → Keeps items left
    joined-keeps (last_pipeline none) = λ depth. refl
    joined-keeps (join first others) = λ depth. next_pipeline-keeps first depth ∙ joined-keeps others depth

    next_pipeline-keeps : {depth : ℕ} {items left : List Item} {tree : PipelineTree} → IsNextPipeline views most depth items tree left → Keeps items left
    next_pipeline-keeps (newline_pipeline more) = next_pipeline-keeps more
    next_pipeline-keeps (next_pipeline first) = pipeline-keeps first

    pipeline-keeps : {depth : ℕ} {items left : List Item} {tree : PipelineTree} → IsPipeline views most depth items tree left → Keeps items left
    pipeline-keeps (negated first others) = λ depth. command-keeps first depth ∙ piped-keeps others depth
    pipeline-keeps (plain first others) = λ depth. command-keeps first depth ∙ piped-keeps others depth

    piped-keeps : {depth : ℕ} {items left : List Item} {trees : CommandTrees} → IsPiped views most depth items trees left → Keeps items left
    piped-keeps (last_command none) = λ depth. refl
    piped-keeps (pipe first others) = λ depth. next_command-keeps first depth ∙ piped-keeps others depth

    next_command-keeps : {depth : ℕ} {items left : List Item} {tree : CommandTree} → IsNextCommand views most depth items tree left → Keeps items left
    next_command-keeps (newline_command more) = next_command-keeps more
    next_command-keeps (next_command first) = command-keeps first

    command-keeps : {depth : ℕ} {items left : List Item} {tree : CommandTree} → IsCommand views most depth items tree left → Keeps items left
    command-keeps (is_simple first others) = λ depth. piece-keeps first depth ∙ pieces-keeps others depth
    command-keeps (is_group deep body redirs) = λ depth. body-keeps body depth ∙ pieces-keeps redirs depth
    command-keeps (is_subshell deep body redirs) = λ depth. body-keeps body depth ∙ pieces-keeps redirs depth
    command-keeps (is_if deep condition body others redirs) =
        λ depth. body-keeps condition depth ∙ body-keeps body depth ∙ branches-keeps others depth ∙ pieces-keeps redirs depth
    command-keeps (is_while deep condition body redirs) = λ depth. body-keeps condition depth ∙ body-keeps body depth ∙ pieces-keeps redirs depth
    command-keeps (is_until deep condition body redirs) = λ depth. body-keeps condition depth ∙ body-keeps body depth ∙ pieces-keeps redirs depth
    command-keeps (is_for deep name head body redirs) = λ depth. head-keeps head depth ∙ body-keeps body depth ∙ pieces-keeps redirs depth

    branches-keeps : {depth : ℕ} {items left : List Item} {trees : BranchTrees} {otherwise : ElseTree} → IsBranches views most depth items trees otherwise left
        → Keeps items left
    branches-keeps (elif_branch condition body others) = λ depth. body-keeps condition depth ∙ body-keeps body depth ∙ branches-keeps others depth
    branches-keeps (else_branch body) = body-keeps body
    branches-keeps no_more = λ depth. refl

    head-keeps : {depth : ℕ} {items left : List Item} {among : InTree} → IsLoopHead views most depth items among left → Keeps items left
    head-keeps head_do = λ depth. refl
    head-keeps (head_semicolon more) = do-keeps more
    head-keeps (head_newline lines) = lines-keeps lines
    head-keeps (head_in among more) = λ depth. pieces-keeps among depth ∙ separator-keeps more depth

    lines-keeps : {depth : ℕ} {items left : List Item} {among : InTree} → IsLoopLines views most depth items among left → Keeps items left
    lines-keeps lines_do = λ depth. refl
    lines-keeps (lines_newline lines) = lines-keeps lines
    lines-keeps (lines_in among more) = λ depth. pieces-keeps among depth ∙ separator-keeps more depth

    pieces-keeps : {depth : ℕ} {at : Slot} {items left : List Item} {pieces : List Piece} → IsPieces views most depth at items pieces left → Keeps items left
    pieces-keeps (last_piece none) = λ depth. refl
    pieces-keeps (more_pieces first others) = λ depth. piece-keeps first depth ∙ pieces-keeps others depth

    piece-keeps : {depth : ℕ} {at behind : Slot} {items left : List Item} {piece : Piece} → IsPiece views most depth at items piece behind left
        → Keeps items left
    piece-keeps (is_assign how subs) = subs-keeps subs
    piece-keeps (is_argument how subs) = subs-keeps subs
    piece-keeps (is_numbered how subs) = subs-keeps subs
    piece-keeps (is_redirection how subs) = subs-keeps subs

    subs-keeps : {depth : ℕ} {items left : List Item} {subs : SubTrees} → IsSubs views most depth items subs left → Keeps items left
    subs-keeps (last_sub none) = λ depth. refl
    subs-keeps (next_sub deep list others) = λ depth. again-keeps list (suc depth) ∙ subs-keeps others depth

  -- as many are read as follow
  subs-own : {depth : ℕ} {items left : List Item} {subs : SubTrees} → IsSubs views most depth items subs left → own_subs 0 items ≡ sub_count subs
  subs-own (last_sub {items = items} none) = none_own items none
  subs-own (next_sub deep list others) = ap (λ n. n + 1) (again-keeps list 0 ∙ subs-own others)

-- NUMBERS that go on
range-append : (from one two : ℕ) → range_with_len from (one + two) ≡ range_with_len from one ++ range_with_len (from + one) two
range-append from zero two =
    ap (range_with_len from) (let e : zero + two ≡ two = omega arith in e) ∙ ap (λ n. range_with_len n two) (let e : from ≡ from + zero = omega arith in e)
range-append from (suc one) two =
    ap (range_with_len from) (let e : suc one + two ≡ suc (one + two) = omega arith in e)
    ∙ ap (λ it. from ∷ it) (range-append (from + 1) one two
    ∙ ap (λ n. range_with_len (from + 1) one ++ range_with_len n two) (let e : (from + 1) + one ≡ from + suc one = omega arith in e))

sub_count-then : (subs more : SubTrees) → sub_count (subs_then subs more) ≡ sub_count subs + sub_count more
sub_count-then no_sub more = omega arith
sub_count-then (sub first rest) more = let so = sub_count-then rest more in omega (arith, so)

subs_then-numbered : (subs more : SubTrees) → AreNumberedSubs subs → AreNumberedSubs more → AreNumberedSubs (subs_then subs more)
subs_then-numbered no_sub more a b = b
subs_then-numbered (sub first rest) more a b = (a.0, subs_then-numbered rest more a.1 b)

named_on : (numbers new : List ℕ) (subs inner : SubTrees) → NameEach numbers subs → new ≡ range_with_len (sub_count subs) (sub_count inner)
    → NameEach (numbers ++ new) (subs_then subs inner)
named_on numbers new subs inner each is =
    let all : range_with_len 0 (sub_count subs) ++ new ≡ range_with_len 0 (sub_count (subs_then subs inner))
    = ap (λ it. range_with_len 0 (sub_count subs) ++ it) (is ∙ ap (λ n. range_with_len n (sub_count inner)) (let e : sub_count subs ≡ 0 + sub_count subs = omega arith in e))
    ∙ sym (range-append 0 (sub_count subs) (sub_count inner)) ∙ ap (range_with_len 0) (sym (sub_count-then subs inner)) in
    subst (IsPermutation (numbers ++ new)) all (IsPermutation-append_left new numbers (range_with_len 0 (sub_count subs)) each)

moved : (front new behind : List ℕ) → IsPermutation (front ++ (new ++ behind)) ((front ++ behind) ++ new)
moved front new behind =
    subst (IsPermutation (front ++ (new ++ behind))) (sym (append_assoc front behind new))
    (IsPermutation-append_right front (new ++ behind) (behind ++ new) (IsPermutation-append_comm new behind))

assigns-last : (assigns : List (List ℕ × WordTree)) (last : List ℕ × WordTree)
    → assigns_numbers (assigns ++ last ∷ []) ≡ assigns_numbers assigns ++ word_numbers last.1
assigns-last [] last = append-nil (word_numbers last.1)
assigns-last (first ∷ rest) last =
    ap (λ it. word_numbers first.1 ++ it) (assigns-last rest last)
    ∙ sym (append_assoc (word_numbers first.1) (assigns_numbers rest) (word_numbers last.1))

words-last : (list : List WordTree) (last : WordTree) → words_numbers (list ++ last ∷ []) ≡ words_numbers list ++ word_numbers last
words-last [] last = append-nil (word_numbers last)
words-last (first ∷ rest) last =
    ap (λ it. word_numbers first ++ it) (words-last rest last) ∙ sym (append_assoc (word_numbers first) (words_numbers rest) (word_numbers last))

redirs-last : (redirs : List RedirTree) (last : RedirTree) → redirs_numbers (redirs ++ last ∷ []) ≡ redirs_numbers redirs ++ word_numbers last.word
redirs-last [] last = append-nil (word_numbers last.word)
redirs-last (first ∷ rest) last =
    ap (λ it. word_numbers first.word ++ it) (redirs-last rest last)
    ∙ sym (append_assoc (word_numbers first.word) (redirs_numbers rest) (word_numbers last.word))

-- redirections alone, and words alone
abbrev AreRedirections : List Piece → Type 0
AreRedirections [] = Unit {0}
AreRedirections (assign at inner ∷ rest) = ⊥
AreRedirections (argument at inner ∷ rest) = ⊥
AreRedirections (redirection number how at inner ∷ rest) = AreRedirections rest

abbrev AreArguments : List Piece → Type 0
AreArguments [] = Unit {0}
AreArguments (assign at inner ∷ rest) = ⊥
AreArguments (argument at inner ∷ rest) = AreArguments rest
AreArguments (redirection number how at inner ∷ rest) = ⊥

tail_then : (first : Piece) (rest : List Piece) → AreRedirections (first ∷ []) → AreRedirections rest → AreRedirections (first ∷ rest)
tail_then (assign at inner) rest a b = a
tail_then (argument at inner) rest a b = a
tail_then (redirection number how at inner) rest a b = b

loop_then : (first : Piece) (rest : List Piece) → AreArguments (first ∷ []) → AreArguments rest → AreArguments (first ∷ rest)
loop_then (assign at inner) rest a b = a
loop_then (argument at inner) rest a b = b
loop_then (redirection number how at inner) rest a b = a

-- PIECES, each with as many substitutions as its word names
module _ (views : WordViews) where
  abbrev IsCountedPiece : Piece → Type 0
  IsCountedPiece (assign at inner) =
      ((first : ℕ) → word_numbers (views.assign at first).1 ≡ range_with_len first (sub_count inner)) × AreNumberedSubs inner
  IsCountedPiece (argument at inner) =
      ((first : ℕ) → word_numbers (views.word at first) ≡ range_with_len first (sub_count inner)) × AreNumberedSubs inner
  IsCountedPiece (redirection number how at inner) =
      ((first : ℕ) → word_numbers (views.word at first) ≡ range_with_len first (sub_count inner)) × AreNumberedSubs inner

  abbrev AreCountedPieces : List Piece → Type 0
  AreCountedPieces [] = Unit {0}
  AreCountedPieces (first ∷ rest) = IsCountedPiece first × AreCountedPieces rest

  with_piece-numbered : (command : SimpleTree) (piece : Piece) → IsNumberedSimple command → IsCountedPiece piece → IsNumberedSimple (with_piece views command piece)
  with_piece-numbered (simple_command assigns arguments redirs subs) (assign at inner) (each, inside) (counted, more) =
      let one = assigns_numbers assigns in
      let rest = words_numbers arguments ++ redirs_numbers redirs in
      let new = word_numbers (views.assign at (sub_count subs)).1 in
      let as_read : assigns_numbers (assigns ++ views.assign at (sub_count subs) ∷ []) ++ rest ≡ one ++ (new ++ rest)
      = ap (λ it. it ++ rest) (assigns-last assigns (views.assign at (sub_count subs))) ∙ append_assoc one new rest in (
        subst (λ it. NameEach it (subs_then subs inner)) (sym as_read)
            (IsPermutation-trans (one ++ (new ++ rest)) ((one ++ rest) ++ new) (range_with_len 0 (sub_count (subs_then subs inner))) (moved one new rest)
            (named_on (one ++ rest) new subs inner each (counted (sub_count subs)))),
        subs_then-numbered subs inner inside more,
      )
  with_piece-numbered (simple_command assigns arguments redirs subs) (argument at inner) (each, inside) (counted, more) =
      let one = assigns_numbers assigns in
      let two = words_numbers arguments in
      let three = redirs_numbers redirs in
      let new = word_numbers (views.word at (sub_count subs)) in
      let as_read : one ++ (words_numbers (arguments ++ views.word at (sub_count subs) ∷ []) ++ three) ≡ (one ++ two) ++ (new ++ three)
      = ap (λ it. one ++ (it ++ three)) (words-last arguments (views.word at (sub_count subs)))
      ∙ ap (λ it. one ++ it) (append_assoc two new three) ∙ sym (append_assoc one two (new ++ three)) in (
        subst (λ it. NameEach it (subs_then subs inner)) (sym as_read)
            (IsPermutation-trans ((one ++ two) ++ (new ++ three)) (((one ++ two) ++ three) ++ new) (range_with_len 0 (sub_count (subs_then subs inner)))
            (moved (one ++ two) new three)
            (subst (λ it. NameEach (it ++ new) (subs_then subs inner)) (sym (append_assoc one two three))
            (named_on (one ++ (two ++ three)) new subs inner each (counted (sub_count subs))))),
        subs_then-numbered subs inner inside more,
      )
  with_piece-numbered (simple_command assigns arguments redirs subs) (redirection number how at inner) (each, inside) (counted, more) =
      let one = assigns_numbers assigns in
      let two = words_numbers arguments in
      let three = redirs_numbers redirs in
      let new = word_numbers (views.word at (sub_count subs)) in
      let last : RedirTree = record { number = number; how = how; word = views.word at (sub_count subs) } in
      let as_read : one ++ (two ++ redirs_numbers (redirs ++ last ∷ [])) ≡ (one ++ (two ++ three)) ++ new
      = ap (λ it. one ++ (two ++ it)) (redirs-last redirs last) ∙ ap (λ it. one ++ it) (sym (append_assoc two three new))
      ∙ sym (append_assoc one (two ++ three) new) in (
        subst (λ it. NameEach it (subs_then subs inner)) (sym as_read) (named_on (one ++ (two ++ three)) new subs inner each (counted (sub_count subs))),
        subs_then-numbered subs inner inside more,
      )

  gathered-numbered : (command : SimpleTree) (pieces : List Piece) → IsNumberedSimple command → AreCountedPieces pieces
      → IsNumberedSimple (gathered views command pieces)
  gathered-numbered command [] is counted = is
  gathered-numbered command (first ∷ rest) is counted =
      gathered-numbered (with_piece views command first) rest (with_piece-numbered command first is counted.0) counted.1

  no_piece-numbered : IsNumberedSimple no_piece
  no_piece-numbered = (IsPermutation-refl [], tt)

  tail-numbered : (redirs : List RedirTree) (subs : SubTrees) (pieces : List Piece) → AreRedirections pieces
      → IsNumberedSimple (gathered views (simple_command [] [] redirs subs) pieces) → IsNumberedTail (tail_of (gathered views (simple_command [] [] redirs subs) pieces))
  tail-numbered redirs subs [] are is = is
  tail-numbered redirs subs (assign at inner ∷ rest) are is = absurd are
  tail-numbered redirs subs (argument at inner ∷ rest) are is = absurd are
  tail-numbered redirs subs (redirection number how at inner ∷ rest) are is =
      tail-numbered (redirs ++ record { number = number; how = how; word = views.word at (sub_count subs) } ∷ []) (subs_then subs inner) rest are is

  words-numbered : (arguments : List WordTree) (subs : SubTrees) (pieces : List Piece) → AreArguments pieces
      → IsNumberedSimple (gathered views (simple_command [] arguments [] subs) pieces)
      → AreNumberedWords (words_of (gathered views (simple_command [] arguments [] subs) pieces))
  words-numbered arguments subs [] are is = (subst (λ it. NameEach it subs) (append-nil (words_numbers arguments)) is.0, is.1)
  words-numbered arguments subs (assign at inner ∷ rest) are is = absurd are
  words-numbered arguments subs (argument at inner ∷ rest) are is =
      words-numbered (arguments ++ views.word at (sub_count subs) ∷ []) (subs_then subs inner) rest are is
  words-numbered arguments subs (redirection number how at inner ∷ rest) are is = absurd are

-- the assignments are the words that begin so
assigned : (at : Slot) (kind : WordKind) → used at kind ≡ use_as.Assigned → kind ≡ word.Assign
assigned place.First (word.Reserved name) e = absurd cc
assigned place.First word.In e = absurd cc
assigned place.First word.Name e = absurd cc
assigned place.First word.Assign e = refl
assigned place.First word.Other e = absurd cc
assigned place.BeforeName (word.Reserved name) e = absurd cc
assigned place.BeforeName word.In e = absurd cc
assigned place.BeforeName word.Name e = absurd cc
assigned place.BeforeName word.Assign e = refl
assigned place.BeforeName word.Other e = absurd cc
assigned place.BehindName kind e = absurd cc
assigned place.Tail kind e = absurd cc
assigned place.Loop kind e = absurd cc

-- EACH RULE
do-counted : (views : WordViews) {items left : List Item} → IsLoopDo items left → AreCounted views items → AreCounted views left
do-counted views (loop_newline more) counted = do-counted views more counted
do-counted views loop_do counted = counted.1

separator-counted : (views : WordViews) {items left : List Item} → IsLoopSeparator items left → AreCounted views items → AreCounted views left
separator-counted views (semicolon_do more) counted = do-counted views more counted
separator-counted views (newline_do more) counted = do-counted views more counted

module _ {views : WordViews} {most : ℕ} where
  tail_piece : {depth : ℕ} {at behind : Slot} {items left : List Item} {piece : Piece} → IsPiece views most depth at items piece behind left
      → at ≡ place.Tail → AreRedirections (piece ∷ []) × (behind ≡ place.Tail)
  tail_piece (is_assign {kind = kind} how subs) is = absurd (let e = subst (λ it. used it kind ≡ use_as.Assigned) is how in cc)
  tail_piece (is_argument {behind = behind} {kind = kind} how subs) is = absurd (let e = subst (λ it. used it kind ≡ use_as.Given behind) is how in cc)
  tail_piece (is_numbered {behind = behind} how subs) is = let e = subst (λ it. redirects it ≡ Some behind) is how in (tt, cc)
  tail_piece (is_redirection {behind = behind} how subs) is = let e = subst (λ it. redirects it ≡ Some behind) is how in (tt, cc)

  tail_pieces : {depth : ℕ} {at : Slot} {items left : List Item} {pieces : List Piece} → IsPieces views most depth at items pieces left
      → at ≡ place.Tail → AreRedirections pieces
  tail_pieces (last_piece none) is = tt
  tail_pieces (more_pieces {first = first} {others = others} one more) is =
      let so = tail_piece one is in tail_then first others so.0 (tail_pieces more so.1)

  loop_piece : {depth : ℕ} {at behind : Slot} {items left : List Item} {piece : Piece} → IsPiece views most depth at items piece behind left
      → at ≡ place.Loop → AreArguments (piece ∷ []) × (behind ≡ place.Loop)
  loop_piece (is_assign {kind = kind} how subs) is = absurd (let e = subst (λ it. used it kind ≡ use_as.Assigned) is how in cc)
  loop_piece (is_argument {behind = behind} {kind = kind} how subs) is = let e = subst (λ it. used it kind ≡ use_as.Given behind) is how in (tt, cc)
  loop_piece (is_numbered {behind = behind} how subs) is = absurd (let e = subst (λ it. redirects it ≡ Some behind) is how in cc)
  loop_piece (is_redirection {behind = behind} how subs) is = absurd (let e = subst (λ it. redirects it ≡ Some behind) is how in cc)

  loop_pieces : {depth : ℕ} {at : Slot} {items left : List Item} {pieces : List Piece} → IsPieces views most depth at items pieces left
      → at ≡ place.Loop → AreArguments pieces
  loop_pieces (last_piece none) is = tt
  loop_pieces (more_pieces {first = first} {others = others} one more) is =
      let so = loop_piece one is in loop_then first others so.0 (loop_pieces more so.1)

  tail-of : {depth : ℕ} {items left : List Item} {redirs : List Piece} → IsPieces views most depth place.Tail items redirs left → AreCountedPieces views redirs
      → IsNumberedTail (tail_of (gathered views no_piece redirs))
  tail-of {redirs = redirs} pieces counted =
      tail-numbered views [] no_sub redirs (tail_pieces pieces refl) (gathered-numbered views no_piece redirs (no_piece-numbered views) counted)

  words-of : {depth : ℕ} {items left : List Item} {among : List Piece} → IsPieces views most depth place.Loop items among left → AreCountedPieces views among
      → AreNumberedWords (words_of (gathered views no_piece among))
  words-of {among = among} pieces counted =
      words-numbered views [] no_sub among (loop_pieces pieces refl) (gathered-numbered views no_piece among (no_piece-numbered views) counted)

  mutual
    again-numbered : {depth : ℕ} {items left : List Item} {list : ListTree} → IsAgain views most depth items list left → AreCounted views items
        → IsNumberedList list × AreCounted views left
    again-numbered (again_newline more) counted = again-numbered more counted
    again-numbered (again_list list) counted = list-numbered list counted
    again-numbered (no_list none) counted = (tt, counted)

    body-numbered : {depth : ℕ} {items left : List Item} {list : ListTree} → IsBody views most depth items list left → AreCounted views items
        → IsNumberedList list × AreCounted views left
    body-numbered (body_newline more) counted = body-numbered more counted
    body-numbered (body_list list) counted = list-numbered list counted

    list-numbered : {depth : ℕ} {items left : List Item} {list : ListTree} → IsList views most depth items list left → AreCounted views items
        → IsNumberedList list × AreCounted views left
    list-numbered (is_list first others more) counted =
        let one = pipeline-numbered first counted in let two = joined-numbered others one.1 in let three = separated-numbered more two.1 in
        (((one.0, two.0), three.0), three.1)

    separated-numbered : {depth : ℕ} {items left : List Item} {list : ListTree} → IsSeparated views most depth items list left → AreCounted views items
        → IsNumberedList list × AreCounted views left
    separated-numbered (no_separator none) counted = (tt, counted)
    separated-numbered (by_semicolon more) counted = again-numbered more counted
    separated-numbered (by_newline more) counted = again-numbered more counted

    joined-numbered : {depth : ℕ} {items left : List Item} {trees : JoinedTrees} → IsJoined views most depth items trees left → AreCounted views items
        → AreNumberedJoined trees × AreCounted views left
    joined-numbered (last_pipeline none) counted = (tt, counted)
    joined-numbered (join first others) counted =
        let one = next_pipeline-numbered first counted in let two = joined-numbered others one.1 in ((one.0, two.0), two.1)

    next_pipeline-numbered : {depth : ℕ} {items left : List Item} {tree : PipelineTree} → IsNextPipeline views most depth items tree left
        → AreCounted views items → IsNumberedPipeline tree × AreCounted views left
    next_pipeline-numbered (newline_pipeline more) counted = next_pipeline-numbered more counted
    next_pipeline-numbered (next_pipeline first) counted = pipeline-numbered first counted

    pipeline-numbered : {depth : ℕ} {items left : List Item} {tree : PipelineTree} → IsPipeline views most depth items tree left → AreCounted views items
        → IsNumberedPipeline tree × AreCounted views left
    pipeline-numbered (negated first others) counted =
        let one = command-numbered first counted.1 in let two = piped-numbered others one.1 in ((one.0, two.0), two.1)
    pipeline-numbered (plain first others) counted =
        let one = command-numbered first counted in let two = piped-numbered others one.1 in ((one.0, two.0), two.1)

    piped-numbered : {depth : ℕ} {items left : List Item} {trees : CommandTrees} → IsPiped views most depth items trees left → AreCounted views items
        → AreNumberedCommands trees × AreCounted views left
    piped-numbered (last_command none) counted = (tt, counted)
    piped-numbered (pipe first others) counted =
        let one = next_command-numbered first counted in let two = piped-numbered others one.1 in ((one.0, two.0), two.1)

    next_command-numbered : {depth : ℕ} {items left : List Item} {tree : CommandTree} → IsNextCommand views most depth items tree left
        → AreCounted views items → IsNumberedCommand tree × AreCounted views left
    next_command-numbered (newline_command more) counted = next_command-numbered more counted
    next_command-numbered (next_command first) counted = command-numbered first counted

    command-numbered : {depth : ℕ} {items left : List Item} {tree : CommandTree} → IsCommand views most depth items tree left → AreCounted views items
        → IsNumberedCommand tree × AreCounted views left
    command-numbered (is_simple {first = first} {others = others} piece pieces) counted =
        let one = piece-counted piece counted in let two = pieces-counted pieces one.1 in
        (gathered-numbered views no_piece (first ∷ others) (no_piece-numbered views) (one.0, two.0), two.1)
    command-numbered (is_group deep body redirs) counted =
        let one = body-numbered body counted.1 in let two = pieces-counted redirs one.1.1 in ((one.0, tail-of redirs two.0), two.1)
    command-numbered (is_subshell deep body redirs) counted =
        let one = body-numbered body counted in let two = pieces-counted redirs one.1 in ((one.0, tail-of redirs two.0), two.1)
    command-numbered (is_if deep condition body others redirs) counted =
        let one = body-numbered condition counted.1 in let two = body-numbered body one.1.1 in let three = branches-numbered others two.1 in
        let four = pieces-counted redirs three.1 in
        (((one.0, (two.0, three.0.0)), (three.0.1, tail-of redirs four.0)), four.1)
    command-numbered (is_while deep condition body redirs) counted =
        let one = body-numbered condition counted.1 in let two = body-numbered body one.1.1 in let three = pieces-counted redirs two.1.1 in
        ((one.0, (two.0, tail-of redirs three.0)), three.1)
    command-numbered (is_until deep condition body redirs) counted =
        let one = body-numbered condition counted.1 in let two = body-numbered body one.1.1 in let three = pieces-counted redirs two.1.1 in
        ((one.0, (two.0, tail-of redirs three.0)), three.1)
    command-numbered (is_for deep name head body redirs) counted =
        let one = head-numbered head counted.1.1 in let two = body-numbered body one.1 in let three = pieces-counted redirs two.1.1 in
        ((one.0, (two.0, tail-of redirs three.0)), three.1)

    branches-numbered : {depth : ℕ} {items left : List Item} {trees : BranchTrees} {otherwise : ElseTree} → IsBranches views most depth items trees otherwise left
        → AreCounted views items → (AreNumberedBranches trees × IsNumberedElse otherwise) × AreCounted views left
    branches-numbered (elif_branch condition body others) counted =
        let one = body-numbered condition counted.1 in let two = body-numbered body one.1.1 in let three = branches-numbered others two.1 in
        (((one.0, (two.0, three.0.0)), three.0.1), three.1)
    branches-numbered (else_branch body) counted = let one = body-numbered body counted.1 in ((tt, one.0), one.1.1)
    branches-numbered no_more counted = ((tt, tt), counted.1)

    head-numbered : {depth : ℕ} {items left : List Item} {among : InTree} → IsLoopHead views most depth items among left → AreCounted views items
        → IsNumberedIn among × AreCounted views left
    head-numbered head_do counted = (tt, counted.1)
    head-numbered (head_semicolon more) counted = (tt, do-counted views more counted)
    head-numbered (head_newline lines) counted = lines-numbered lines counted
    head-numbered (head_in among more) counted =
        let one = pieces-counted among counted.1 in (words-of among one.0, separator-counted views more one.1)

    lines-numbered : {depth : ℕ} {items left : List Item} {among : InTree} → IsLoopLines views most depth items among left → AreCounted views items
        → IsNumberedIn among × AreCounted views left
    lines-numbered lines_do counted = (tt, counted.1)
    lines-numbered (lines_newline lines) counted = lines-numbered lines counted
    lines-numbered (lines_in among more) counted =
        let one = pieces-counted among counted.1 in (words-of among one.0, separator-counted views more one.1)

    pieces-counted : {depth : ℕ} {at : Slot} {items left : List Item} {pieces : List Piece} → IsPieces views most depth at items pieces left
        → AreCounted views items → AreCountedPieces views pieces × AreCounted views left
    pieces-counted (last_piece none) counted = (tt, counted)
    pieces-counted (more_pieces first others) counted =
        let one = piece-counted first counted in let two = pieces-counted others one.1 in ((one.0, two.0), two.1)

    piece-counted : {depth : ℕ} {at behind : Slot} {items left : List Item} {piece : Piece} → IsPiece views most depth at items piece behind left
        → AreCounted views items → IsCountedPiece views piece × AreCounted views left
    piece-counted (is_assign {spot = spot} {kind = kind} how subs) (it, counted) =
        let one = subs-numbered subs counted in
        (((λ first. it.as_value (assigned spot kind how) first ∙ ap (range_with_len first) (subs-own subs)), one.0), one.1)
    piece-counted (is_argument how subs) (it, counted) =
        let one = subs-numbered subs counted in (((λ first. it.as_word first ∙ ap (range_with_len first) (subs-own subs)), one.0), one.1)
    piece-counted (is_numbered how subs) (it, counted) =
        let one = subs-numbered subs counted in (((λ first. it.as_word first ∙ ap (range_with_len first) (subs-own subs)), one.0), one.1)
    piece-counted (is_redirection how subs) (it, counted) =
        let one = subs-numbered subs counted in (((λ first. it.as_word first ∙ ap (range_with_len first) (subs-own subs)), one.0), one.1)

    subs-numbered : {depth : ℕ} {items left : List Item} {subs : SubTrees} → IsSubs views most depth items subs left → AreCounted views items
        → AreNumberedSubs subs × AreCounted views left
    subs-numbered (last_sub none) counted = (tt, counted)
    subs-numbered (next_sub deep list others) counted =
        let one = again-numbered list counted in let two = subs-numbered others one.1 in ((one.0, two.0), two.1)

-- A SCRIPT
script_of-numbered : (list : ListTree) → IsNumberedList list → IsNumberedScript (script_of list)
script_of-numbered no_item is = tt
script_of-numbered (item first rest) is = is

pub script-numbered : (views : WordViews) (most : ℕ) (items : List Item) (script : ScriptTree) → Reads views most items script → AreCounted views items
    → IsNumberedScript script
script-numbered views most items script (list, (again, is)) counted =
    subst IsNumberedScript (sym is) (script_of-numbered list (again-numbered again counted).0)
