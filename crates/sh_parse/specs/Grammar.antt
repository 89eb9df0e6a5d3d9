-- The grammar (XCU 2.10.2, narrowed), by cases on its rules: what stands before, what is read, what is left. Each repetition and each
-- option takes what it can, which makes the reading unique; a simple command so takes all words and redirections that follow it.
-- At most `most` levels are open, and `depth` of them where a rule begins: each compound command and each command
-- substitution opens one. What words are is `views`.
use Rattle.std.specs.Prelude.{◌≡◌, ℕ, ◌+◌, ◌≤◌, Bool, true, false, List, [], ◌∷◌}
use Rattle.std.specs.declared.option.Option.TheVariants.{None, Some}
use Rattle.sh_tree.specs.Trees.{ListTree, no_item, item, and_or, JoinedTrees, none_joined, joined, PipelineTree, pipeline, CommandTrees, no_command, command, CommandTree, simple, group, subshell, if_branches, while_loop, until_loop, for_loop, BranchTrees, no_branch, branch, ElseTree, no_else, else_list, InTree, no_in, in_words, SubTrees, no_sub, sub, ScriptTree}
use Rattle.sh_tree.specs.declared.commands.How.{How}
use Rattle.sh_tree.specs.declared.commands.Join.{Join}
use Rattle.sh_parse.specs.Pieces.{WordViews, Piece, assign, argument, redirection, gathered, no_piece, tail_of, words_of, default_number}
use Rattle.sh_parse.specs.Places.{used, redirects, begins_piece, is_name, begins_pipeline}
use Rattle.sh_parse.specs.declared.items.Item.{Item}
use Rattle.sh_parse.specs.declared.items.Item.TheVariants as token
use Rattle.sh_parse.specs.declared.items.Span.{Span}
use Rattle.sh_parse.specs.declared.items.WordKind.{WordKind}
use Rattle.sh_parse.specs.declared.items.WordKind.TheVariants as word
use Rattle.sh_parse.specs.declared.items.Reserved.TheVariants as reserved
use Rattle.sh_parse.specs.declared.pieces.Slot.{Slot}
use Rattle.sh_parse.specs.declared.pieces.Slot.TheVariants as place
use Rattle.sh_parse.specs.declared.pieces.Use.TheVariants as use_as

-- no item that passes is next
abbrev pub NoneNext : (Item → Bool) → List Item → Type 0
NoneNext passes [] = Unit {0}
NoneNext passes (first ∷ rest) = passes first ≡ false

abbrev pub is_sub_open : Item → Bool
is_sub_open (token.SubOpen _) = true
is_sub_open _ = false

abbrev pub is_pipe : Item → Bool
is_pipe token.Pipe = true
is_pipe _ = false

abbrev pub is_join : Item → Bool
is_join (token.Join _) = true
is_join _ = false

abbrev pub is_separator : Item → Bool
is_separator token.Semi = true
is_separator token.Newline = true
is_separator _ = false

-- a list goes on: with a newline or a pipeline
abbrev pub goes_on : Item → Bool
goes_on token.Newline = true
goes_on first = begins_pipeline first

-- { newline } "do", and a separator before it
pub data IsLoopDo : List Item → List Item → Type 0 where
  loop_newline : {items left : List Item} → IsLoopDo items left → IsLoopDo (token.Newline ∷ items) left
  loop_do : {at : Span} {left : List Item} → IsLoopDo (token.Word (word.Reserved reserved.Do) at ∷ left) left

pub data IsLoopSeparator : List Item → List Item → Type 0 where
  semicolon_do : {items left : List Item} → IsLoopDo items left → IsLoopSeparator (token.Semi ∷ items) left
  newline_do : {items left : List Item} → IsLoopDo items left → IsLoopSeparator (token.Newline ∷ items) left

mutual
  -- { newline } [list]
  pub data IsAgain (views : WordViews) (most : ℕ) : ℕ → List Item → ListTree → List Item → Type 0 where
    again_newline : {depth : ℕ} {items left : List Item} {list : ListTree}
        → IsAgain views most depth items list left → IsAgain views most depth (token.Newline ∷ items) list left
    again_list : {depth : ℕ} {items left : List Item} {list : ListTree}
        → IsList views most depth items list left → IsAgain views most depth items list left
    no_list : {depth : ℕ} {items : List Item}
        → NoneNext goes_on items → IsAgain views most depth items no_item items

  -- { newline } list
  pub data IsBody (views : WordViews) (most : ℕ) : ℕ → List Item → ListTree → List Item → Type 0 where
    body_newline : {depth : ℕ} {items left : List Item} {list : ListTree}
        → IsBody views most depth items list left → IsBody views most depth (token.Newline ∷ items) list left
    body_list : {depth : ℕ} {items left : List Item} {list : ListTree}
        → IsList views most depth items list left → IsBody views most depth items list left

  -- and-or [ separator { newline } [list] ]
  pub data IsList (views : WordViews) (most : ℕ) : ℕ → List Item → ListTree → List Item → Type 0 where
    is_list : {depth : ℕ} {items middle behind left : List Item} {first : PipelineTree} {others : JoinedTrees} {more : ListTree}
        → IsPipeline views most depth items first middle → IsJoined views most depth middle others behind
        → IsSeparated views most depth behind more left
        → IsList views most depth items (item (and_or first others) more) left

  pub data IsSeparated (views : WordViews) (most : ℕ) : ℕ → List Item → ListTree → List Item → Type 0 where
    no_separator : {depth : ℕ} {items : List Item}
        → NoneNext is_separator items → IsSeparated views most depth items no_item items
    by_semicolon : {depth : ℕ} {items left : List Item} {list : ListTree}
        → IsAgain views most depth items list left → IsSeparated views most depth (token.Semi ∷ items) list left
    by_newline : {depth : ℕ} {items left : List Item} {list : ListTree}
        → IsAgain views most depth items list left → IsSeparated views most depth (token.Newline ∷ items) list left

  -- { ("&&" | "||") { newline } pipeline }
  pub data IsJoined (views : WordViews) (most : ℕ) : ℕ → List Item → JoinedTrees → List Item → Type 0 where
    last_pipeline : {depth : ℕ} {items : List Item}
        → NoneNext is_join items → IsJoined views most depth items none_joined items
    join : {depth : ℕ} {sign : Join} {items middle left : List Item} {first : PipelineTree} {others : JoinedTrees}
        → IsNextPipeline views most depth items first middle → IsJoined views most depth middle others left
        → IsJoined views most depth (token.Join sign ∷ items) (joined sign first others) left

  pub data IsNextPipeline (views : WordViews) (most : ℕ) : ℕ → List Item → PipelineTree → List Item → Type 0 where
    newline_pipeline : {depth : ℕ} {items left : List Item} {tree : PipelineTree}
        → IsNextPipeline views most depth items tree left
        → IsNextPipeline views most depth (token.Newline ∷ items) tree left
    next_pipeline : {depth : ℕ} {items left : List Item} {tree : PipelineTree}
        → IsPipeline views most depth items tree left → IsNextPipeline views most depth items tree left

  -- ["!"] command { "|" { newline } command }
  pub data IsPipeline (views : WordViews) (most : ℕ) : ℕ → List Item → PipelineTree → List Item → Type 0 where
    negated : {depth : ℕ} {at : Span} {items middle left : List Item} {first : CommandTree} {others : CommandTrees}
        → IsCommand views most depth items first middle → IsPiped views most depth middle others left
        → IsPipeline views most depth (token.Word (word.Reserved reserved.Bang) at ∷ items)
        (pipeline true (command first others)) left
    plain : {depth : ℕ} {items middle left : List Item} {first : CommandTree} {others : CommandTrees}
        → IsCommand views most depth items first middle → IsPiped views most depth middle others left
        → IsPipeline views most depth items (pipeline false (command first others)) left

  pub data IsPiped (views : WordViews) (most : ℕ) : ℕ → List Item → CommandTrees → List Item → Type 0 where
    last_command : {depth : ℕ} {items : List Item}
        → NoneNext is_pipe items → IsPiped views most depth items no_command items
    pipe : {depth : ℕ} {items middle left : List Item} {first : CommandTree} {others : CommandTrees}
        → IsNextCommand views most depth items first middle → IsPiped views most depth middle others left
        → IsPiped views most depth (token.Pipe ∷ items) (command first others) left

  pub data IsNextCommand (views : WordViews) (most : ℕ) : ℕ → List Item → CommandTree → List Item → Type 0 where
    newline_command : {depth : ℕ} {items left : List Item} {tree : CommandTree}
        → IsNextCommand views most depth items tree left
        → IsNextCommand views most depth (token.Newline ∷ items) tree left
    next_command : {depth : ℕ} {items left : List Item} {tree : CommandTree}
        → IsCommand views most depth items tree left → IsNextCommand views most depth items tree left

  -- a simple command, of one piece or more; or a compound command and its redirections
  pub data IsCommand (views : WordViews) (most : ℕ) : ℕ → List Item → CommandTree → List Item → Type 0 where
    is_simple : {depth : ℕ} {behind : Slot} {items middle left : List Item} {first : Piece} {others : List Piece}
        → IsPiece views most depth place.First items first behind middle
        → IsPieces views most depth behind middle others left
        → IsCommand views most depth items (simple (gathered views no_piece (first ∷ others))) left
    is_group : {depth : ℕ} {at close : Span} {items middle left : List Item} {list : ListTree} {redirs : List Piece}
        → depth + 1 ≤ most
        → IsBody views most (depth + 1) items list (token.Word (word.Reserved reserved.CloseBrace) close ∷ middle)
        → IsPieces views most depth place.Tail middle redirs left
        → IsCommand views most depth (token.Word (word.Reserved reserved.OpenBrace) at ∷ items)
        (group list (tail_of (gathered views no_piece redirs))) left
    is_subshell : {depth at : ℕ} {items middle left : List Item} {list : ListTree} {redirs : List Piece}
        → depth + 1 ≤ most
        → IsBody views most (depth + 1) items list (token.Close ∷ middle)
        → IsPieces views most depth place.Tail middle redirs left
        → IsCommand views most depth (token.Open at ∷ items)
        (subshell list (tail_of (gathered views no_piece redirs))) left
    is_if : {depth : ℕ} {at behind : Span} {items body_items rest middle left : List Item} {condition body : ListTree}
        {others : BranchTrees} {otherwise : ElseTree} {redirs : List Piece}
        → depth + 1 ≤ most
        → IsBody views most (depth + 1) items condition (token.Word (word.Reserved reserved.Then) behind ∷ body_items)
        → IsBody views most (depth + 1) body_items body rest
        → IsBranches views most (depth + 1) rest others otherwise middle
        → IsPieces views most depth place.Tail middle redirs left
        → IsCommand views most depth (token.Word (word.Reserved reserved.If) at ∷ items)
        (if_branches (branch condition body others) otherwise (tail_of (gathered views no_piece redirs))) left
    is_while : {depth : ℕ} {at behind close : Span} {items body_items middle left : List Item} {condition body : ListTree}
        {redirs : List Piece}
        → depth + 1 ≤ most
        → IsBody views most (depth + 1) items condition (token.Word (word.Reserved reserved.Do) behind ∷ body_items)
        → IsBody views most (depth + 1) body_items body (token.Word (word.Reserved reserved.Done) close ∷ middle)
        → IsPieces views most depth place.Tail middle redirs left
        → IsCommand views most depth (token.Word (word.Reserved reserved.While) at ∷ items)
        (while_loop condition body (tail_of (gathered views no_piece redirs))) left
    is_until : {depth : ℕ} {at behind close : Span} {items body_items middle left : List Item} {condition body : ListTree}
        {redirs : List Piece}
        → depth + 1 ≤ most
        → IsBody views most (depth + 1) items condition (token.Word (word.Reserved reserved.Do) behind ∷ body_items)
        → IsBody views most (depth + 1) body_items body (token.Word (word.Reserved reserved.Done) close ∷ middle)
        → IsPieces views most depth place.Tail middle redirs left
        → IsCommand views most depth (token.Word (word.Reserved reserved.Until) at ∷ items)
        (until_loop condition body (tail_of (gathered views no_piece redirs))) left
    is_for : {depth : ℕ} {at name close : Span} {kind : WordKind} {items body_items middle left : List Item} {among : InTree}
        {body : ListTree} {redirs : List Piece}
        → depth + 1 ≤ most
        → is_name kind ≡ true
        → IsLoopHead views most (depth + 1) items among body_items
        → IsBody views most (depth + 1) body_items body (token.Word (word.Reserved reserved.Done) close ∷ middle)
        → IsPieces views most depth place.Tail middle redirs left
        → IsCommand views most depth (token.Word (word.Reserved reserved.For) at ∷ token.Word kind name ∷ items)
        (for_loop (views.name name) among body (tail_of (gathered views no_piece redirs))) left

  -- { "elif" body "then" body } ["else" body] "fi"
  pub data IsBranches (views : WordViews) (most : ℕ) : ℕ → List Item → BranchTrees → ElseTree → List Item → Type 0 where
    elif_branch : {depth : ℕ} {at behind : Span} {items body_items rest left : List Item} {condition body : ListTree}
        {others : BranchTrees} {otherwise : ElseTree}
        → IsBody views most depth items condition (token.Word (word.Reserved reserved.Then) behind ∷ body_items)
        → IsBody views most depth body_items body rest
        → IsBranches views most depth rest others otherwise left
        → IsBranches views most depth (token.Word (word.Reserved reserved.Elif) at ∷ items)
        (branch condition body others) otherwise left
    else_branch : {depth : ℕ} {at close : Span} {items left : List Item} {body : ListTree}
        → IsBody views most depth items body (token.Word (word.Reserved reserved.Fi) close ∷ left)
        → IsBranches views most depth (token.Word (word.Reserved reserved.Else) at ∷ items) no_branch (else_list body) left
    no_more : {depth : ℕ} {at : Span} {left : List Item}
        → IsBranches views most depth (token.Word (word.Reserved reserved.Fi) at ∷ left) no_branch no_else left

  -- [ { newline } "in" { word } separator { newline } | separator { newline } ] "do"
  pub data IsLoopHead (views : WordViews) (most : ℕ) : ℕ → List Item → InTree → List Item → Type 0 where
    head_do : {depth : ℕ} {at : Span} {items : List Item}
        → IsLoopHead views most depth (token.Word (word.Reserved reserved.Do) at ∷ items) no_in items
    head_semicolon : {depth : ℕ} {items left : List Item}
        → IsLoopDo items left → IsLoopHead views most depth (token.Semi ∷ items) no_in left
    head_newline : {depth : ℕ} {items left : List Item} {among : InTree}
        → IsLoopLines views most depth items among left
        → IsLoopHead views most depth (token.Newline ∷ items) among left
    head_in : {depth : ℕ} {at : Span} {items middle left : List Item} {among : List Piece}
        → IsPieces views most depth place.Loop items among middle → IsLoopSeparator middle left
        → IsLoopHead views most depth (token.Word word.In at ∷ items)
        (in_words (words_of (gathered views no_piece among))) left

  pub data IsLoopLines (views : WordViews) (most : ℕ) : ℕ → List Item → InTree → List Item → Type 0 where
    lines_do : {depth : ℕ} {at : Span} {items : List Item}
        → IsLoopLines views most depth (token.Word (word.Reserved reserved.Do) at ∷ items) no_in items
    lines_newline : {depth : ℕ} {items left : List Item} {among : InTree}
        → IsLoopLines views most depth items among left
        → IsLoopLines views most depth (token.Newline ∷ items) among left
    lines_in : {depth : ℕ} {at : Span} {items middle left : List Item} {among : List Piece}
        → IsPieces views most depth place.Loop items among middle → IsLoopSeparator middle left
        → IsLoopLines views most depth (token.Word word.In at ∷ items)
        (in_words (words_of (gathered views no_piece among))) left

  -- pieces, as many as there are
  pub data IsPieces (views : WordViews) (most : ℕ) : ℕ → Slot → List Item → List Piece → List Item → Type 0 where
    last_piece : {depth : ℕ} {at : Slot} {items : List Item}
        → NoneNext (begins_piece at) items → IsPieces views most depth at items [] items
    more_pieces : {depth : ℕ} {at behind : Slot} {items middle left : List Item} {first : Piece} {others : List Piece}
        → IsPiece views most depth at items first behind middle → IsPieces views most depth behind middle others left
        → IsPieces views most depth at items (first ∷ others) left

  -- an assignment, a word, a redirection; and the place behind it
  pub data IsPiece (views : WordViews) (most : ℕ) : ℕ → Slot → List Item → Piece → Slot → List Item → Type 0 where
    is_assign : {depth : ℕ} {spot : Slot} {kind : WordKind} {at : Span} {items left : List Item} {subs : SubTrees}
        → used spot kind ≡ use_as.Assigned → IsSubs views most depth items subs left
        → IsPiece views most depth spot (token.Word kind at ∷ items) (assign at subs) place.BeforeName left
    is_argument : {depth : ℕ} {spot behind : Slot} {kind : WordKind} {at : Span} {items left : List Item} {subs : SubTrees}
        → used spot kind ≡ use_as.Given behind → IsSubs views most depth items subs left
        → IsPiece views most depth spot (token.Word kind at ∷ items) (argument at subs) behind left
    is_numbered : {depth number before from : ℕ} {spot behind : Slot} {how : How} {kind : WordKind} {at : Span} {items left : List Item}
        {subs : SubTrees}
        → redirects spot ≡ Some behind → IsSubs views most depth items subs left
        → IsPiece views most depth spot (token.IoNumber number before ∷ token.Redirect how from ∷ token.Word kind at ∷ items)
        (redirection number how at subs) behind left
    is_redirection : {depth from : ℕ} {spot behind : Slot} {how : How} {kind : WordKind} {at : Span} {items left : List Item}
        {subs : SubTrees}
        → redirects spot ≡ Some behind → IsSubs views most depth items subs left
        → IsPiece views most depth spot (token.Redirect how from ∷ token.Word kind at ∷ items)
        (redirection (default_number how) how at subs) behind left

  -- the substitutions of a word
  pub data IsSubs (views : WordViews) (most : ℕ) : ℕ → List Item → SubTrees → List Item → Type 0 where
    last_sub : {depth : ℕ} {items : List Item}
        → NoneNext is_sub_open items → IsSubs views most depth items no_sub items
    next_sub : {depth at : ℕ} {items middle left : List Item} {list : ListTree} {others : SubTrees}
        → depth + 1 ≤ most
        → IsAgain views most (depth + 1) items list (token.SubClose ∷ middle)
        → IsSubs views most depth middle others left
        → IsSubs views most depth (token.SubOpen at ∷ items) (sub list others) left

-- a script without and-or lists has no list
abbrev pub script_of : ListTree → ScriptTree
script_of no_item = None
script_of (item first rest) = Some (item first rest)

-- the items are a script of at most `most` levels
abbrev pub Reads : WordViews → ℕ → List Item → ScriptTree → Type 0
Reads views most items script = (list : ListTree) × (IsAgain views most 0 items list [] × (script ≡ script_of list))
