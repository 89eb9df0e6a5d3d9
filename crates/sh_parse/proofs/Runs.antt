-- What a rule reads, its part of a stack takes.
use Rattle.std.proofs.Common.{◌≡◌, ℕ, ◌+◌, ◌≤◌, Bool, true, false, List, [], ◌∷◌, ◌++◌, length, cond, refl, sym, ◌∙◌, ap, subst, append_assoc, is_some, arith, Option, Some, None}
use Rattle.std.proofs.Common.{nat_le}
use Rattle.std.proofs.lemmas.Bool.{le-leb}
use Rattle.sh_tree.specs.Trees.{ListTree, JoinedTrees, PipelineTree, CommandTree, CommandTrees, BranchTrees, ElseTree, InTree, SubTrees}
use Rattle.sh_parse.specs.Pieces.{WordViews, Piece}
use Rattle.sh_parse.specs.Places.{used, redirects, begins_piece, begins_pipeline, begins_compound, is_used}
use Rattle.sh_parse.specs.Inner.Owed.{Pending, Move, Next, Verdict, pieces, a_pipeline, a_command, pipes, next_command, joins, next_pipeline, separator, again, body, close_brace, close_parenthesis, close_substitution, then_body, branches, end_if, do_body, end_loop, loop_name, loop_head, loop_lines, loop_separator, loop_do, operator, target, substitutions, push, opens, skip, stuck, move, moved, step, levels, verdict, verdict_behind, goes, deeper, deep, fine, bad, may_end, word_by, redirection_by, piece_by, compound_by, command_by, pipeline_by, followed}
use Rattle.sh_parse.specs.Grammar as g
use Rattle.sh_parse.specs.Grammar.{NoneNext, IsAgain, IsBody, IsList, IsSeparated, IsJoined, IsNextPipeline, IsPipeline, IsPiped, IsNextCommand, IsCommand, IsBranches, IsLoopHead, IsLoopLines, IsLoopSeparator, IsLoopDo, IsPieces, IsPiece, IsSubs, is_sub_open, is_pipe, is_join, is_separator, goes_on}
use Rattle.sh_parse.specs.declared.items.Item.{Item}
use Rattle.sh_parse.specs.declared.items.Item.TheVariants as token
use Rattle.sh_parse.specs.declared.items.WordKind.TheVariants as word
use Rattle.sh_parse.specs.declared.items.Reserved as reserved_word
use Rattle.sh_parse.specs.declared.items.Reserved.TheVariants as reserved
use Rattle.sh_parse.specs.declared.pieces.Slot.{Slot}
use Rattle.sh_parse.specs.declared.pieces.Slot.TheVariants as place
use Rattle.sh_parse.specs.declared.pieces.Use.{Use}
use Rattle.sh_parse.specs.declared.pieces.Use.TheVariants as use_as

-- a move that a part makes, on a list
module _ (most : ℕ) where
  pub on_push : (part : Pending) (first : Item) (rest : List Item) (parts stack : List Pending) → move part first ≡ push parts
      → verdict most (first ∷ rest) (part ∷ stack) ≡ verdict most rest (parts ++ stack)
  on_push part first rest parts stack e =
      ap (λ m. verdict_behind most (length rest + 1) (verdict most rest) (moved m stack (step stack first))) e

  pub on_skip : (part : Pending) (first : Item) (rest : List Item) (stack : List Pending) → move part first ≡ skip
      → verdict most (first ∷ rest) (part ∷ stack) ≡ verdict most (first ∷ rest) stack
  on_skip part first rest stack e =
      ap (λ m. verdict_behind most (length rest + 1) (verdict most rest) (moved m stack (step stack first))) e

  pub on_opens : (part : Pending) (first : Item) (rest : List Item) (parts stack : List Pending) → move part first ≡ opens parts
      → nat_le (levels (parts ++ stack)) most ≡ true
      → verdict most (first ∷ rest) (part ∷ stack) ≡ verdict most rest (parts ++ stack)
  on_opens part first rest parts stack e fits =
      ap (λ m. verdict_behind most (length rest + 1) (verdict most rest) (moved m stack (step stack first))) e
      ∙ ap (λ b. cond b (verdict most rest (parts ++ stack)) (deep (length rest + 1))) fits

-- a level that fits
fits : (depth most count : ℕ) → depth + 1 ≤ most → count ≡ depth → nat_le (count + 1) most ≡ true
fits depth most count less e = le-leb (count + 1) most (omega arith)

on_true : (test : Bool) (one other : Verdict) → test ≡ true → cond test one other ≡ one
on_true test one other e = ap (λ b. cond b one other) e

one_more : (one other : ℕ) → one ≡ other → one + 1 ≡ other + 1
one_more one other e = ap (λ n. n + 1) e

-- a move with which a rule goes on
abbrev pub Moves : Move → Type 0
Moves (push parts) = Unit {0}
Moves (opens parts) = Unit {0}
Moves skip = ⊥
Moves stuck = ⊥

-- items that begin with a pipeline
abbrev pub Begins : List Item → Type 0
Begins [] = ⊥
Begins (first ∷ rest) = Moves (pipeline_by first)

abbrev pub BeginsCommand : List Item → Type 0
BeginsCommand [] = ⊥
BeginsCommand (first ∷ rest) = Moves (command_by first)

-- what isn't next is left out
word_unused : (u : Use) → is_used u ≡ false → word_by u ≡ skip
word_unused use_as.Assigned h = cc
word_unused (use_as.Given behind) h = cc
word_unused use_as.Unused h = refl

no_redirection : (part : Pending) (behind : Option Slot) → is_some behind ≡ false → redirection_by part behind ≡ skip
no_redirection part None h = refl
no_redirection part (Some behind) h = cc

pub piece_skips : (at : Slot) (first : Item) → begins_piece at first ≡ false → piece_by at first ≡ skip
piece_skips at (token.Word kind span) h = word_unused (used at kind) h
piece_skips at (token.IoNumber number from) h = no_redirection operator (redirects at) h
piece_skips at (token.Redirect how from) h = no_redirection target (redirects at) h
piece_skips at _ h = refl

word_used : (u : Use) → is_used u ≡ true → Moves (word_by u)
word_used use_as.Assigned h = tt
word_used (use_as.Given behind) h = tt
word_used use_as.Unused h = cc

pub command_by_piece : (first : Item) → Moves (piece_by place.First first) → command_by first ≡ piece_by place.First first
command_by_piece (token.Word (word.Reserved name) at) h = absurd h
command_by_piece (token.Word word.In at) h = refl
command_by_piece (token.Word word.Name at) h = refl
command_by_piece (token.Word word.Assign at) h = refl
command_by_piece (token.Word word.Other at) h = refl
command_by_piece (token.IoNumber number from) h = refl
command_by_piece (token.Redirect how from) h = refl
command_by_piece _ h = absurd h

no_compound : (name : reserved_word.Reserved) → begins_compound (word.Reserved name) ≡ false → compound_by name ≡ stuck
no_compound reserved.OpenBrace h = cc
no_compound reserved.If h = cc
no_compound reserved.While h = cc
no_compound reserved.Until h = cc
no_compound reserved.For h = cc
no_compound _ h = refl

pub no_pipeline : (first : Item) → begins_pipeline first ≡ false → pipeline_by first ≡ stuck
no_pipeline (token.Word (word.Reserved reserved.Bang) at) h = cc
no_pipeline (token.Word (word.Reserved reserved.OpenBrace) at) h = cc
no_pipeline (token.Word (word.Reserved reserved.If) at) h = cc
no_pipeline (token.Word (word.Reserved reserved.While) at) h = cc
no_pipeline (token.Word (word.Reserved reserved.Until) at) h = cc
no_pipeline (token.Word (word.Reserved reserved.For) at) h = cc
no_pipeline (token.Word (word.Reserved _) at) h = refl
no_pipeline (token.Word _ at) h = cc
no_pipeline (token.IoNumber number from) h = cc
no_pipeline (token.Redirect how from) h = cc
no_pipeline (token.Open at) h = cc
no_pipeline _ h = refl

pub again_skips : (first : Item) → goes_on first ≡ false → move again first ≡ skip
again_skips token.Newline h = cc
again_skips (token.Word kind at) h = ap (λ m. followed m (pipes ∷ joins ∷ separator ∷ []) skip) (no_pipeline (token.Word kind at) h)
again_skips (token.IoNumber number from) h = cc
again_skips (token.Redirect how from) h = cc
again_skips (token.Open at) h = cc
again_skips _ h = refl

-- a command that stands where more may
moves_on : (m : Move) → Moves m → (parts more : List Pending) (otherwise : Move) → (stack : List Pending) (one other : Next)
    → moved (followed m (parts ++ more) otherwise) stack one ≡ moved (followed m parts stuck) (more ++ stack) other
moves_on (push first) h parts more otherwise stack one other =
    ap goes (append_assoc first (parts ++ more) stack ∙ ap (λ x. first ++ x) (append_assoc parts more stack)
    ∙ sym (append_assoc first parts (more ++ stack)))
moves_on (opens first) h parts more otherwise stack one other =
    ap deeper (append_assoc first (parts ++ more) stack ∙ ap (λ x. first ++ x) (append_assoc parts more stack)
    ∙ sym (append_assoc first parts (more ++ stack)))
moves_on skip h parts more otherwise stack one other = absurd h
moves_on stuck h parts more otherwise stack one other = absurd h

pub again_by : (first : Item) → Moves (pipeline_by first)
    → move again first ≡ followed (pipeline_by first) (pipes ∷ joins ∷ separator ∷ []) skip
again_by token.Newline h = absurd h
again_by _ h = refl

pub body_by : (first : Item) → Moves (pipeline_by first)
    → move body first ≡ followed (pipeline_by first) (pipes ∷ joins ∷ separator ∷ []) stuck
body_by token.Newline h = absurd h
body_by _ h = refl

pub next_pipeline_by : (first : Item) → Moves (pipeline_by first) → move next_pipeline first ≡ move a_pipeline first
next_pipeline_by token.Newline h = absurd h
next_pipeline_by _ h = refl

pub next_command_by : (first : Item) → Moves (command_by first) → move next_command first ≡ move a_command first
next_command_by token.Newline h = absurd h
next_command_by _ h = refl

pub pipeline_by_command : (first : Item) → Moves (command_by first) → pipeline_by first ≡ command_by first
pipeline_by_command (token.Word (word.Reserved reserved.Bang) at) h = absurd h
pipeline_by_command _ h = refl

module _ (most : ℕ) where
  -- the verdict of a first item, by the stack behind it
  by_next : (first : Item) (rest : List Item) (one other : List Pending) → step one first ≡ step other first
      → verdict most (first ∷ rest) one ≡ verdict most (first ∷ rest) other
  by_next first rest one other e = ap (λ n. verdict_behind most (length rest + 1) (verdict most rest) n) e

  pub list_again : (items : List Item) (stack : List Pending) → Begins items
      → verdict most items (again ∷ stack) ≡ verdict most items (a_pipeline ∷ joins ∷ separator ∷ stack)
  list_again [] stack h = absurd h
  list_again (first ∷ rest) stack h = by_next first rest (again ∷ stack) (a_pipeline ∷ joins ∷ separator ∷ stack)
      (ap (λ m. moved m stack (step stack first)) (again_by first h)
      ∙ moves_on (pipeline_by first) h (pipes ∷ []) (joins ∷ separator ∷ []) skip stack (step stack first) (step (joins ∷ separator ∷ stack) first))

  pub list_body : (items : List Item) (stack : List Pending) → Begins items
      → verdict most items (body ∷ stack) ≡ verdict most items (a_pipeline ∷ joins ∷ separator ∷ stack)
  list_body [] stack h = absurd h
  list_body (first ∷ rest) stack h = by_next first rest (body ∷ stack) (a_pipeline ∷ joins ∷ separator ∷ stack)
      (ap (λ m. moved m stack (step stack first)) (body_by first h)
      ∙ moves_on (pipeline_by first) h (pipes ∷ []) (joins ∷ separator ∷ []) stuck stack (step stack first) (step (joins ∷ separator ∷ stack) first))

  pub pipeline_next : (items : List Item) (stack : List Pending) → Begins items
      → verdict most items (next_pipeline ∷ stack) ≡ verdict most items (a_pipeline ∷ stack)
  pipeline_next [] stack h = absurd h
  pipeline_next (first ∷ rest) stack h = by_next first rest (next_pipeline ∷ stack) (a_pipeline ∷ stack)
      (ap (λ m. moved m stack (step stack first)) (next_pipeline_by first h))

  pub command_next : (items : List Item) (stack : List Pending) → BeginsCommand items
      → verdict most items (next_command ∷ stack) ≡ verdict most items (a_command ∷ stack)
  command_next [] stack h = absurd h
  command_next (first ∷ rest) stack h = by_next first rest (next_command ∷ stack) (a_command ∷ stack)
      (ap (λ m. moved m stack (step stack first)) (next_command_by first h))

  moves_behind : (m : Move) → Moves m → (more stack : List Pending) (one other : Next)
      → moved (followed m more stuck) stack one ≡ moved m (more ++ stack) other
  moves_behind (push first) h more stack one other = ap goes (append_assoc first more stack)
  moves_behind (opens first) h more stack one other = ap deeper (append_assoc first more stack)
  moves_behind skip h more stack one other = absurd h
  moves_behind stuck h more stack one other = absurd h

  pub command_pipeline : (items : List Item) (stack : List Pending) → BeginsCommand items
      → verdict most items (a_pipeline ∷ stack) ≡ verdict most items (a_command ∷ pipes ∷ stack)
  command_pipeline [] stack h = absurd h
  command_pipeline (first ∷ rest) stack h = by_next first rest (a_pipeline ∷ stack) (a_command ∷ pipes ∷ stack)
      (ap (λ m. moved (followed m (pipes ∷ []) stuck) stack (step stack first)) (pipeline_by_command first h)
      ∙ moves_behind (command_by first) h (pipes ∷ []) stack (step stack first) (step (pipes ∷ stack) first))

  pub piece_command : (first : Item) (rest : List Item) (stack : List Pending) → Moves (piece_by place.First first)
      → verdict most (first ∷ rest) (a_command ∷ stack) ≡ verdict most (first ∷ rest) (pieces place.First ∷ stack)
  piece_command first rest stack h = by_next first rest (a_command ∷ stack) (pieces place.First ∷ stack)
      (ap (λ m. moved m stack (step stack first)) (command_by_piece first h))

  -- what may be left out is left out where its items aren't next
  pub left_out : (part : Pending) (begins : Item → Bool) (items : List Item) (stack : List Pending)
      → may_end (part ∷ stack) ≡ may_end stack → ((first : Item) → begins first ≡ false → move part first ≡ skip)
      → NoneNext begins items → verdict most items (part ∷ stack) ≡ verdict most items stack
  left_out part begins [] stack e skips h = ap (λ b. cond b fine (bad 0)) e
  left_out part begins (first ∷ rest) stack e skips h = on_skip most part first rest stack (skips first h)

pub separator_skips : (first : Item) → is_separator first ≡ false → move separator first ≡ skip
separator_skips token.Semi h = cc
separator_skips token.Newline h = cc
separator_skips _ h = refl

pub join_skips : (first : Item) → is_join first ≡ false → move joins first ≡ skip
join_skips (token.Join sign) h = cc
join_skips _ h = refl

pub pipe_skips : (first : Item) → is_pipe first ≡ false → move pipes first ≡ skip
pipe_skips token.Pipe h = cc
pipe_skips _ h = refl

pub sub_skips : (first : Item) → is_sub_open first ≡ false → move substitutions first ≡ skip
sub_skips (token.SubOpen at) h = cc
sub_skips _ h = refl

pub simple_begins : (items : List Item) → (first : Item) × ((rest : List Item) × ((items ≡ first ∷ rest) × Moves (piece_by place.First first)))
    → BeginsCommand items
simple_begins items (first, (rest, (e, m))) =
    subst BeginsCommand (sym e) (subst Moves (sym (command_by_piece first m)) m)

pub command_is_pipeline : (items : List Item) → BeginsCommand items → Begins items
command_is_pipeline [] h = absurd h
command_is_pipeline (first ∷ rest) h = subst Moves (sym (pipeline_by_command first h)) h

module _ (most : ℕ) where
  pub do_run : {items left : List Item} → IsLoopDo items left → (stack : List Pending)
      → verdict most items (loop_do ∷ stack) ≡ verdict most left (body ∷ end_loop ∷ stack)
  do_run (g.loop_newline more) stack = do_run more stack
  do_run g.loop_do stack = refl

  pub separator_run : {items left : List Item} → IsLoopSeparator items left → (stack : List Pending)
      → verdict most items (loop_separator ∷ stack) ≡ verdict most left (body ∷ end_loop ∷ stack)
  separator_run (g.semicolon_do more) stack = do_run more stack
  separator_run (g.newline_do more) stack = do_run more stack

  pub piece_as_command : (items : List Item) (stack : List Pending)
      → (first : Item) × ((rest : List Item) × ((items ≡ first ∷ rest) × Moves (piece_by place.First first)))
      → verdict most items (a_command ∷ stack) ≡ verdict most items (pieces place.First ∷ stack)
  piece_as_command items stack (first, (rest, (e, m))) =
      subst (λ i. verdict most i (a_command ∷ stack) ≡ verdict most i (pieces place.First ∷ stack)) (sym e)
      (piece_command most first rest stack m)

-- where a rule begins
module _ {views : WordViews} {most : ℕ} where
  pub piece_begins : {depth : ℕ} {at behind : Slot} {items left : List Item} {piece : Piece}
      → IsPiece views most depth at items piece behind left
      → (first : Item) × ((rest : List Item) × ((items ≡ first ∷ rest) × Moves (piece_by at first)))
  piece_begins (g.is_assign {kind = kind} {at = at} {items = items} u subs) =
      (token.Word kind at, (items, (refl, subst (λ x. Moves (word_by x)) (sym u) tt)))
  piece_begins (g.is_argument {kind = kind} {at = at} {items = items} u subs) =
      (token.Word kind at, (items, (refl, subst (λ x. Moves (word_by x)) (sym u) tt)))
  piece_begins (g.is_numbered {number = number} {before = before} {from = from} {how = how} {kind = kind} {at = at} {items = items} u subs) =
      (token.IoNumber number before, (token.Redirect how from ∷ token.Word kind at ∷ items, (refl, subst (λ x. Moves (redirection_by operator x)) (sym u) tt)))
  piece_begins (g.is_redirection {from = from} {how = how} {kind = kind} {at = at} {items = items} u subs) =
      (token.Redirect how from, (token.Word kind at ∷ items, (refl, subst (λ x. Moves (redirection_by target x)) (sym u) tt)))

  pub command_begins : {depth : ℕ} {items left : List Item} {tree : CommandTree} → IsCommand views most depth items tree left
      → BeginsCommand items
  command_begins (g.is_simple {items = items} first others) = simple_begins items (piece_begins first)
  command_begins (g.is_group less list redirs) = tt
  command_begins (g.is_subshell less list redirs) = tt
  command_begins (g.is_if less condition then others redirs) = tt
  command_begins (g.is_while less condition then redirs) = tt
  command_begins (g.is_until less condition then redirs) = tt
  command_begins (g.is_for less named head then redirs) = tt

  pub pipeline_begins : {depth : ℕ} {items left : List Item} {tree : PipelineTree} → IsPipeline views most depth items tree left
      → Begins items
  pipeline_begins (g.negated first others) = tt
  pipeline_begins (g.plain {items = items} first others) = command_is_pipeline items (command_begins first)

  pub list_begins : {depth : ℕ} {items left : List Item} {list : ListTree} → IsList views most depth items list left → Begins items
  list_begins (g.is_list first others more) = pipeline_begins first

  mutual
    pub again_run : {depth : ℕ} {items left : List Item} {list : ListTree} → IsAgain views most depth items list left
        → (stack : List Pending) → levels stack ≡ depth → verdict most items (again ∷ stack) ≡ verdict most left stack
    again_run (g.again_newline more) stack h = again_run more stack h
    again_run (g.again_list {items = items} list) stack h = list_again most items stack (list_begins list) ∙ list_run list stack h
    again_run (g.no_list {items = items} none) stack h = left_out most again goes_on items stack refl again_skips none

    pub body_run : {depth : ℕ} {items left : List Item} {list : ListTree} → IsBody views most depth items list left
        → (stack : List Pending) → levels stack ≡ depth → verdict most items (body ∷ stack) ≡ verdict most left stack
    body_run (g.body_newline more) stack h = body_run more stack h
    body_run (g.body_list {items = items} list) stack h = list_body most items stack (list_begins list) ∙ list_run list stack h

    pub list_run : {depth : ℕ} {items left : List Item} {list : ListTree} → IsList views most depth items list left
        → (stack : List Pending) → levels stack ≡ depth → verdict most items (a_pipeline ∷ joins ∷ separator ∷ stack) ≡ verdict most left stack
    list_run (g.is_list first others more) stack h =
        pipeline_run first (joins ∷ separator ∷ stack) h ∙ joined_run others (separator ∷ stack) h ∙ separated_run more stack h

    pub separated_run : {depth : ℕ} {items left : List Item} {list : ListTree} → IsSeparated views most depth items list left
        → (stack : List Pending) → levels stack ≡ depth → verdict most items (separator ∷ stack) ≡ verdict most left stack
    separated_run (g.no_separator {items = items} none) stack h = left_out most separator is_separator items stack refl separator_skips none
    separated_run (g.by_semicolon more) stack h = again_run more stack h
    separated_run (g.by_newline more) stack h = again_run more stack h

    pub joined_run : {depth : ℕ} {items left : List Item} {others : JoinedTrees} → IsJoined views most depth items others left
        → (stack : List Pending) → levels stack ≡ depth → verdict most items (joins ∷ stack) ≡ verdict most left stack
    joined_run (g.last_pipeline {items = items} none) stack h = left_out most joins is_join items stack refl join_skips none
    joined_run (g.join first others) stack h = next_pipeline_run first (joins ∷ stack) h ∙ joined_run others stack h

    pub next_pipeline_run : {depth : ℕ} {items left : List Item} {tree : PipelineTree} → IsNextPipeline views most depth items tree left
        → (stack : List Pending) → levels stack ≡ depth → verdict most items (next_pipeline ∷ stack) ≡ verdict most left stack
    next_pipeline_run (g.newline_pipeline more) stack h = next_pipeline_run more stack h
    next_pipeline_run (g.next_pipeline {items = items} first) stack h =
        pipeline_next most items stack (pipeline_begins first) ∙ pipeline_run first stack h

    pub pipeline_run : {depth : ℕ} {items left : List Item} {tree : PipelineTree} → IsPipeline views most depth items tree left
        → (stack : List Pending) → levels stack ≡ depth → verdict most items (a_pipeline ∷ stack) ≡ verdict most left stack
    pipeline_run (g.negated first others) stack h = command_run first (pipes ∷ stack) h ∙ piped_run others stack h
    pipeline_run (g.plain {items = items} first others) stack h =
        command_pipeline most items stack (command_begins first) ∙ command_run first (pipes ∷ stack) h ∙ piped_run others stack h

    pub piped_run : {depth : ℕ} {items left : List Item} {others : CommandTrees} → IsPiped views most depth items others left
        → (stack : List Pending) → levels stack ≡ depth → verdict most items (pipes ∷ stack) ≡ verdict most left stack
    piped_run (g.last_command {items = items} none) stack h = left_out most pipes is_pipe items stack refl pipe_skips none
    piped_run (g.pipe first others) stack h = next_command_run first (pipes ∷ stack) h ∙ piped_run others stack h

    pub next_command_run : {depth : ℕ} {items left : List Item} {tree : CommandTree} → IsNextCommand views most depth items tree left
        → (stack : List Pending) → levels stack ≡ depth → verdict most items (next_command ∷ stack) ≡ verdict most left stack
    next_command_run (g.newline_command more) stack h = next_command_run more stack h
    next_command_run (g.next_command {items = items} first) stack h =
        command_next most items stack (command_begins first) ∙ command_run first stack h

    pub command_run : {depth : ℕ} {items left : List Item} {tree : CommandTree} → IsCommand views most depth items tree left
        → (stack : List Pending) → levels stack ≡ depth → verdict most items (a_command ∷ stack) ≡ verdict most left stack
    command_run (g.is_simple {items = items} first others) stack h =
        piece_as_command most items stack (piece_begins first) ∙ piece_run first stack h ∙ pieces_run others stack h
    command_run (g.is_group {depth = depth} less list redirs) stack h =
        on_true _ _ _ (fits depth most (levels stack) less h)
        ∙ body_run list (close_brace ∷ pieces place.Tail ∷ stack) (one_more (levels stack) depth h) ∙ pieces_run redirs stack h
    command_run (g.is_subshell {depth = depth} less list redirs) stack h =
        on_true _ _ _ (fits depth most (levels stack) less h)
        ∙ body_run list (close_parenthesis ∷ pieces place.Tail ∷ stack) (one_more (levels stack) depth h) ∙ pieces_run redirs stack h
    command_run (g.is_if {depth = depth} less condition then_list others redirs) stack h =
        on_true _ _ _ (fits depth most (levels stack) less h)
        ∙ body_run condition (then_body ∷ pieces place.Tail ∷ stack) (one_more (levels stack) depth h)
        ∙ body_run then_list (branches ∷ pieces place.Tail ∷ stack) (one_more (levels stack) depth h)
        ∙ branches_run others (pieces place.Tail ∷ stack) (one_more (levels stack) depth h) ∙ pieces_run redirs stack h
    command_run (g.is_while {depth = depth} less condition list redirs) stack h =
        on_true _ _ _ (fits depth most (levels stack) less h)
        ∙ body_run condition (do_body ∷ pieces place.Tail ∷ stack) (one_more (levels stack) depth h)
        ∙ body_run list (end_loop ∷ pieces place.Tail ∷ stack) (one_more (levels stack) depth h) ∙ pieces_run redirs stack h
    command_run (g.is_until {depth = depth} less condition list redirs) stack h =
        on_true _ _ _ (fits depth most (levels stack) less h)
        ∙ body_run condition (do_body ∷ pieces place.Tail ∷ stack) (one_more (levels stack) depth h)
        ∙ body_run list (end_loop ∷ pieces place.Tail ∷ stack) (one_more (levels stack) depth h) ∙ pieces_run redirs stack h
    command_run (g.is_for {depth = depth} {name = name} {kind = kind} {items = items} less named head list redirs) stack h =
        on_true _ _ _ (fits depth most (levels stack) less h)
        ∙ on_push most loop_name (token.Word kind name) items (loop_head ∷ []) (pieces place.Tail ∷ stack)
        (ap (λ b. cond b (push (loop_head ∷ [])) stuck) named)
        ∙ loop_head_run head (pieces place.Tail ∷ stack) (one_more (levels stack) depth h)
        ∙ body_run list (end_loop ∷ pieces place.Tail ∷ stack) (one_more (levels stack) depth h) ∙ pieces_run redirs stack h

    pub branches_run : {depth : ℕ} {items left : List Item} {others : BranchTrees} {otherwise : ElseTree}
        → IsBranches views most depth items others otherwise left
        → (stack : List Pending) → levels stack + 1 ≡ depth → verdict most items (branches ∷ stack) ≡ verdict most left stack
    branches_run (g.elif_branch condition then_list others) stack h =
        body_run condition (then_body ∷ stack) h ∙ body_run then_list (branches ∷ stack) h ∙ branches_run others stack h
    branches_run (g.else_branch list) stack h = body_run list (end_if ∷ stack) h
    branches_run g.no_more stack h = refl

    pub loop_head_run : {depth : ℕ} {items left : List Item} {among : InTree} → IsLoopHead views most depth items among left
        → (stack : List Pending) → levels stack + 1 ≡ depth
        → verdict most items (loop_head ∷ stack) ≡ verdict most left (body ∷ end_loop ∷ stack)
    loop_head_run g.head_do stack h = refl
    loop_head_run (g.head_semicolon more) stack h = do_run most more stack
    loop_head_run (g.head_newline more) stack h = loop_lines_run more stack h
    loop_head_run (g.head_in among more) stack h = pieces_run among (loop_separator ∷ stack) h ∙ separator_run most more stack

    pub loop_lines_run : {depth : ℕ} {items left : List Item} {among : InTree} → IsLoopLines views most depth items among left
        → (stack : List Pending) → levels stack + 1 ≡ depth
        → verdict most items (loop_lines ∷ stack) ≡ verdict most left (body ∷ end_loop ∷ stack)
    loop_lines_run g.lines_do stack h = refl
    loop_lines_run (g.lines_newline more) stack h = loop_lines_run more stack h
    loop_lines_run (g.lines_in among more) stack h = pieces_run among (loop_separator ∷ stack) h ∙ separator_run most more stack

    pub pieces_run : {depth : ℕ} {at : Slot} {items left : List Item} {found : List Piece} → IsPieces views most depth at items found left
        → (stack : List Pending) → levels stack ≡ depth → verdict most items (pieces at ∷ stack) ≡ verdict most left stack
    pieces_run (g.last_piece {at = at} {items = items} none) stack h =
        left_out most (pieces at) (begins_piece at) items stack refl (piece_skips at) none
    pieces_run (g.more_pieces first others) stack h = piece_run first stack h ∙ pieces_run others stack h

    pub piece_run : {depth : ℕ} {at behind : Slot} {items left : List Item} {piece : Piece}
        → IsPiece views most depth at items piece behind left
        → (stack : List Pending) → levels stack ≡ depth → verdict most items (pieces at ∷ stack) ≡ verdict most left (pieces behind ∷ stack)
    piece_run (g.is_assign {spot = spot} {kind = kind} {at = at} {items = items} u subs) stack h =
        on_push most (pieces spot) (token.Word kind at) items (substitutions ∷ pieces place.BeforeName ∷ []) stack (ap word_by u)
        ∙ subs_run subs (pieces place.BeforeName ∷ stack) h
    piece_run (g.is_argument {spot = spot} {behind = behind} {kind = kind} {at = at} {items = items} u subs) stack h =
        on_push most (pieces spot) (token.Word kind at) items (substitutions ∷ pieces behind ∷ []) stack (ap word_by u)
        ∙ subs_run subs (pieces behind ∷ stack) h
    piece_run (g.is_numbered {number = number} {before = before} {from = from} {spot = spot} {behind = behind} {how = how} {kind = kind} {at = at} {items = items} u subs) stack h =
        on_push most (pieces spot) (token.IoNumber number before) (token.Redirect how from ∷ token.Word kind at ∷ items) (operator ∷ pieces behind ∷ []) stack
        (ap (redirection_by operator) u)
        ∙ subs_run subs (pieces behind ∷ stack) h
    piece_run (g.is_redirection {from = from} {spot = spot} {behind = behind} {how = how} {kind = kind} {at = at} {items = items} u subs) stack h =
        on_push most (pieces spot) (token.Redirect how from) (token.Word kind at ∷ items) (target ∷ pieces behind ∷ []) stack
        (ap (redirection_by target) u)
        ∙ subs_run subs (pieces behind ∷ stack) h

    pub subs_run : {depth : ℕ} {items left : List Item} {subs : SubTrees} → IsSubs views most depth items subs left
        → (stack : List Pending) → levels stack ≡ depth → verdict most items (substitutions ∷ stack) ≡ verdict most left stack
    subs_run (g.last_sub {items = items} none) stack h = left_out most substitutions is_sub_open items stack refl sub_skips none
    subs_run (g.next_sub {depth = depth} less list others) stack h =
        on_true _ _ _ (fits depth most (levels stack) less h)
        ∙ again_run list (close_substitution ∷ substitutions ∷ stack) (one_more (levels stack) depth h) ∙ subs_run others stack h
