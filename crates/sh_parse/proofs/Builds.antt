-- What a rule reads, its part of a stack builds.
use Rattle.std.proofs.Common.{◌≡◌, ℕ, Bool, true, false, List, [], ◌∷◌, ◌++◌, refl, sym, ◌∙◌, ap, subst, append_assoc, Option, Some, None, cond}
use Rattle.sh_tree.specs.Trees.{WordTree, RedirTree, ListTree, no_item, item, and_or, JoinedTrees, PipelineTree, pipeline, CommandTree, CommandTrees, if_branches, BranchTrees, no_branch, branch, ElseTree, no_else, else_list, TailTree, ScriptTree, InTree, no_in, in_words, SubTrees, no_sub, sub, SimpleTree, simple_command}
use Rattle.sh_tree.specs.Views.{commands_onto, joined_onto, branches_onto}
use Rattle.sh_tree.specs.declared.commands.How.TheVariants as how
use Rattle.sh_tree.specs.declared.commands.Join.{Join}
use Rattle.sh_tree.specs.declared.commands.Join.TheVariants as join
use Rattle.sh_parse.specs.Pieces.{WordViews, Piece, gathered, no_piece, with_piece, tail_of, words_of, subs_then}
use Rattle.sh_parse.specs.Places.{used, redirects, begins_piece}
use Rattle.sh_parse.specs.Inner.Owed.{Pending, Move, pieces, a_pipeline, a_command, pipes, next_command, joins, next_pipeline, separator, again, body, close_brace, close_parenthesis, close_substitution, then_body, branches, end_if, do_body, end_loop, loop_name, loop_head, loop_lines, loop_separator, loop_do, operator, target, substitutions, push, opens, skip, stuck, move, word_by, redirection_by, piece_by, command_by, pipeline_by, followed}
use Rattle.sh_parse.specs.Inner.Building.{Compound, whole, in_group, in_subshell, in_condition, in_branch, in_else, in_while, in_while_body, in_until, in_until_body, unnamed, in_for, Listing, listing, making, Level, level, State, state, nothing, fresh, start, list_then, compound, chained, with_stage, pieces_over, is_loop, left_out, role_of, acted, word_as, walk_by, walked, behind, build, script_built}
use Rattle.sh_parse.specs.Grammar as g
use Rattle.sh_parse.specs.Grammar.{Reads, NoneNext, IsAgain, IsBody, IsList, IsSeparated, IsJoined, IsNextPipeline, IsPipeline, IsPiped, IsNextCommand, IsCommand, IsBranches, IsLoopHead, IsLoopLines, IsLoopSeparator, IsLoopDo, IsPieces, IsPiece, IsSubs, is_sub_open, is_pipe, is_join, is_separator, goes_on}
use Rattle.sh_parse.proofs.Lists.{list_then-none, list_then-assoc, subs_then-none, subs_then-assoc, joined_onto-last, commands_onto-last, branches_onto-last}
use Rattle.sh_parse.proofs.Runs.{Moves, Begins, BeginsCommand, again_by, body_by, next_pipeline_by, next_command_by, pipeline_by_command, command_by_piece, piece_skips, again_skips, separator_skips, join_skips, pipe_skips, sub_skips, piece_begins, command_begins, pipeline_begins, list_begins}
use Rattle.sh_parse.specs.declared.items.Item.{Item}
use Rattle.sh_parse.specs.declared.items.Item.TheVariants as token
use Rattle.sh_parse.specs.declared.items.WordKind.{WordKind}
use Rattle.sh_parse.specs.declared.items.WordKind.TheVariants as word
use Rattle.sh_parse.specs.declared.pieces.Slot.{Slot}
use Rattle.sh_parse.specs.declared.pieces.Slot.TheVariants as place
use Rattle.sh_parse.specs.declared.building.Role.TheVariants as at_role
use Rattle.sh_parse.specs.declared.pieces.Use.TheVariants as use_as

-- a command that stands where more may
moves_on : (m : Move) → Moves m → (parts more : List Pending) (otherwise : Move) (stack : List Pending) (now : State)
    → (one other : List Pending × State)
    → walk_by (followed m (parts ++ more) otherwise) stack now one ≡ walk_by (followed m parts stuck) (more ++ stack) now other
moves_on (push first) h parts more otherwise stack now one other =
    ap (λ x. (x, now)) (append_assoc first (parts ++ more) stack ∙ ap (λ x. first ++ x) (append_assoc parts more stack)
    ∙ sym (append_assoc first parts (more ++ stack)))
moves_on (opens first) h parts more otherwise stack now one other =
    ap (λ x. (x, now)) (append_assoc first (parts ++ more) stack ∙ ap (λ x. first ++ x) (append_assoc parts more stack)
    ∙ sym (append_assoc first parts (more ++ stack)))
moves_on skip h parts more otherwise stack now one other = absurd h
moves_on stuck h parts more otherwise stack now one other = absurd h

moves_behind : (m : Move) → Moves m → (more stack : List Pending) (now : State) (one other : List Pending × State)
    → walk_by (followed m more stuck) stack now one ≡ walk_by m (more ++ stack) now other
moves_behind (push first) h more stack now one other = ap (λ x. (x, now)) (append_assoc first more stack)
moves_behind (opens first) h more stack now one other = ap (λ x. (x, now)) (append_assoc first more stack)
moves_behind skip h more stack now one other = absurd h
moves_behind stuck h more stack now one other = absurd h

-- the place of a piece in the words of a `for`, or elsewhere, stays so
assigned_place : (spot : Slot) (kind : WordKind) → used spot kind ≡ use_as.Assigned → is_loop place.BeforeName ≡ is_loop spot
assigned_place place.First kind u = refl
assigned_place place.BeforeName kind u = refl
assigned_place place.BehindName kind u = refl
assigned_place place.Tail kind u = refl
assigned_place place.Loop kind u = cc

given_place : (spot behind : Slot) (kind : WordKind) → used spot kind ≡ use_as.Given behind → is_loop behind ≡ is_loop spot
given_place place.First behind (word.Reserved name) u = cc
given_place place.First behind word.Assign u = cc
given_place place.First place.BehindName _ u = refl
given_place place.First _ _ u = cc
given_place place.BeforeName behind word.Assign u = cc
given_place place.BeforeName place.BehindName _ u = refl
given_place place.BeforeName _ _ u = cc
given_place place.BehindName place.BehindName kind u = refl
given_place place.BehindName _ kind u = cc
given_place place.Tail behind kind u = cc
given_place place.Loop place.Loop kind u = refl
given_place place.Loop _ kind u = cc

redirected_place : (spot behind : Slot) → redirects spot ≡ Some behind → is_loop behind ≡ is_loop spot
redirected_place place.First place.BeforeName u = refl
redirected_place place.BeforeName place.BeforeName u = refl
redirected_place place.BehindName place.BehindName u = refl
redirected_place place.Tail place.Tail u = refl
redirected_place _ _ u = cc

-- a list of which so much is read
abbrev at_list : Compound → ListTree → List Level → State
at_list construct list outer = state construct (listing list None join.And false []) fresh outer

module _ (views : WordViews) where
  -- a move that a part makes, on a list
  on_push : (part : Pending) (first : Item) (rest : List Item) (parts stack : List Pending) (now : State) → move part first ≡ push parts
      → build views (first ∷ rest) (part ∷ stack) now ≡ build views rest (parts ++ stack) (acted views (role_of part) first now)
  on_push part first rest parts stack now e =
      ap (λ m. behind (build views rest) (walk_by m stack (acted views (role_of part) first now) (walked views stack first (left_out part now)))) e

  on_skip : (part : Pending) (first : Item) (rest : List Item) (stack : List Pending) (now : State) → move part first ≡ skip
      → build views (first ∷ rest) (part ∷ stack) now ≡ build views (first ∷ rest) stack (left_out part now)
  on_skip part first rest stack now e =
      ap (λ m. behind (build views rest) (walk_by m stack (acted views (role_of part) first now) (walked views stack first (left_out part now)))) e

  -- what may be left out is left out where its items aren't next
  over : (part : Pending) (begins : Item → Bool) (items : List Item) (stack : List Pending) (now : State)
      → ((first : Item) → begins first ≡ false → move part first ≡ skip)
      → NoneNext begins items → build views items (part ∷ stack) now ≡ build views items stack (left_out part now)
  over part begins [] stack now skips h = refl
  over part begins (first ∷ rest) stack now skips h = on_skip part first rest stack now (skips first h)

  by_next : (first : Item) (rest : List Item) (one other : List Pending) (now : State) → walked views one first now ≡ walked views other first now
      → build views (first ∷ rest) one now ≡ build views (first ∷ rest) other now
  by_next first rest one other now e = ap (behind (build views rest)) e

  list_again : (items : List Item) (stack : List Pending) (now : State) → Begins items
      → build views items (again ∷ stack) now ≡ build views items (a_pipeline ∷ joins ∷ separator ∷ stack) now
  list_again [] stack now h = absurd h
  list_again (first ∷ rest) stack now h = by_next first rest (again ∷ stack) (a_pipeline ∷ joins ∷ separator ∷ stack) now
      (ap (λ m. walk_by m stack (acted views (at_role.Piece place.First) first now) (walked views stack first now)) (again_by first h)
      ∙ moves_on (pipeline_by first) h (pipes ∷ []) (joins ∷ separator ∷ []) skip stack (acted views (at_role.Piece place.First) first now) _ _)

  list_body : (items : List Item) (stack : List Pending) (now : State) → Begins items
      → build views items (body ∷ stack) now ≡ build views items (a_pipeline ∷ joins ∷ separator ∷ stack) now
  list_body [] stack now h = absurd h
  list_body (first ∷ rest) stack now h = by_next first rest (body ∷ stack) (a_pipeline ∷ joins ∷ separator ∷ stack) now
      (ap (λ m. walk_by m stack (acted views (at_role.Piece place.First) first now) (walked views stack first now)) (body_by first h)
      ∙ moves_on (pipeline_by first) h (pipes ∷ []) (joins ∷ separator ∷ []) stuck stack (acted views (at_role.Piece place.First) first now) _ _)

  pipeline_next : (items : List Item) (stack : List Pending) (now : State) → Begins items
      → build views items (next_pipeline ∷ stack) now ≡ build views items (a_pipeline ∷ stack) now
  pipeline_next [] stack now h = absurd h
  pipeline_next (first ∷ rest) stack now h = by_next first rest (next_pipeline ∷ stack) (a_pipeline ∷ stack) now
      (ap (λ m. walk_by m stack (acted views (at_role.Piece place.First) first now) (walked views stack first now)) (next_pipeline_by first h))

  command_next : (items : List Item) (stack : List Pending) (now : State) → BeginsCommand items
      → build views items (next_command ∷ stack) now ≡ build views items (a_command ∷ stack) now
  command_next [] stack now h = absurd h
  command_next (first ∷ rest) stack now h = by_next first rest (next_command ∷ stack) (a_command ∷ stack) now
      (ap (λ m. walk_by m stack (acted views (at_role.Piece place.First) first now) (walked views stack first now)) (next_command_by first h))

  command_pipeline : (items : List Item) (stack : List Pending) (now : State) → BeginsCommand items
      → build views items (a_pipeline ∷ stack) now ≡ build views items (a_command ∷ pipes ∷ stack) now
  command_pipeline [] stack now h = absurd h
  command_pipeline (first ∷ rest) stack now h = by_next first rest (a_pipeline ∷ stack) (a_command ∷ pipes ∷ stack) now
      (ap (λ m. walk_by (followed m (pipes ∷ []) stuck) stack (acted views (at_role.Piece place.First) first now) (walked views stack first now))
      (pipeline_by_command first h)
      ∙ moves_behind (command_by first) h (pipes ∷ []) stack (acted views (at_role.Piece place.First) first now) _ _)

  piece_as_command : (items : List Item) (stack : List Pending) (construct : Compound) (list : Listing) (outer : List Level)
      → (first : Item) × ((rest : List Item) × ((items ≡ first ∷ rest) × Moves (piece_by place.First first)))
      → build views items (a_command ∷ stack) (state construct list fresh outer)
      ≡ build views items (pieces place.First ∷ stack) (state construct list fresh outer)
  piece_as_command items stack construct list outer (first, (rest, (e, m))) =
      subst (λ i. build views i (a_command ∷ stack) now ≡ build views i (pieces place.First ∷ stack) now) (sym e)
      (by_next first rest (a_command ∷ stack) (pieces place.First ∷ stack) now (by_move (command_by first) (piece_by place.First first)
      (command_by_piece first m) m))
    where
      now : State
      now = state construct list fresh outer

      by_move : (one other : Move) → one ≡ other → Moves other
          → walk_by one stack (acted views (at_role.Piece place.First) first now) (walked views stack first now)
          ≡ walk_by other stack (acted views (at_role.Piece place.First) first now) (walked views stack first (left_out (pieces place.First) now))
      by_move one (push parts) e h = ap (λ m. walk_by m stack (acted views (at_role.Piece place.First) first now) (walked views stack first now)) e
      by_move one (opens parts) e h = ap (λ m. walk_by m stack (acted views (at_role.Piece place.First) first now) (walked views stack first now)) e
      by_move one skip e h = absurd h
      by_move one stuck e h = absurd h

  do_run : {items left : List Item} → IsLoopDo items left → (stack : List Pending) (name : List ℕ) (among : InTree) (outer : List Level)
      → build views items (loop_do ∷ stack) (at_list (in_for name among) no_item outer)
      ≡ build views left (body ∷ end_loop ∷ stack) (at_list (in_for name among) no_item outer)
  do_run (g.loop_newline more) stack name among outer = do_run more stack name among outer
  do_run g.loop_do stack name among outer = refl

  separator_run : {items left : List Item} → IsLoopSeparator items left → (stack : List Pending) (name : List ℕ) (among : InTree)
      → (outer : List Level)
      → build views items (loop_separator ∷ stack) (at_list (in_for name among) no_item outer)
      ≡ build views left (body ∷ end_loop ∷ stack) (at_list (in_for name among) no_item outer)
  separator_run (g.semicolon_do more) stack name among outer = do_run more stack name among outer
  separator_run (g.newline_do more) stack name among outer = do_run more stack name among outer

module _ {views : WordViews} {most : ℕ} where
  same_place : {depth : ℕ} {at behind : Slot} {items left : List Item} {found : Piece}
      → IsPiece views most depth at items found behind left → is_loop behind ≡ is_loop at
  same_place (g.is_assign {spot = spot} {kind = kind} u subs) = assigned_place spot kind u
  same_place (g.is_argument {spot = spot} {behind = behind} {kind = kind} u subs) = given_place spot behind kind u
  same_place (g.is_numbered {spot = spot} {behind = behind} u subs) = redirected_place spot behind u
  same_place (g.is_redirection {spot = spot} {behind = behind} u subs) = redirected_place spot behind u

  mutual
    pub again_run : {depth : ℕ} {items left : List Item} {list : ListTree} → IsAgain views most depth items list left
        → (stack : List Pending) (construct : Compound) (read : ListTree) (outer : List Level)
        → build views items (again ∷ stack) (at_list construct read outer) ≡ build views left stack (at_list construct (list_then read list) outer)
    again_run (g.again_newline more) stack construct read outer = again_run more stack construct read outer
    again_run (g.again_list {items = items} list) stack construct read outer =
        list_again views items stack (at_list construct read outer) (list_begins list) ∙ list_run list stack construct read outer
    again_run (g.no_list {items = items} none) stack construct read outer =
        over views again goes_on items stack (at_list construct read outer) again_skips none
        ∙ ap (λ x. build views items stack (at_list construct x outer)) (sym (list_then-none read))

    body_run : {depth : ℕ} {items left : List Item} {list : ListTree} → IsBody views most depth items list left
        → (stack : List Pending) (construct : Compound) (outer : List Level)
        → build views items (body ∷ stack) (at_list construct no_item outer) ≡ build views left stack (at_list construct list outer)
    body_run (g.body_newline more) stack construct outer = body_run more stack construct outer
    body_run (g.body_list {items = items} list) stack construct outer =
        list_body views items stack (at_list construct no_item outer) (list_begins list) ∙ list_run list stack construct no_item outer

    list_run : {depth : ℕ} {items left : List Item} {list : ListTree} → IsList views most depth items list left
        → (stack : List Pending) (construct : Compound) (read : ListTree) (outer : List Level)
        → build views items (a_pipeline ∷ joins ∷ separator ∷ stack) (at_list construct read outer)
        ≡ build views left stack (at_list construct (list_then read list) outer)
    list_run (g.is_list {left = left} {first = first_tree} {others = other_trees} {more = more_tree} first others more) stack construct read outer =
        pipeline_run first (joins ∷ separator ∷ stack) construct read None join.And outer
        ∙ joined_run others (separator ∷ stack) construct read first_tree [] outer
        ∙ separated_run more stack construct (list_then read (item (and_or first_tree other_trees) no_item)) outer
        ∙ ap (λ x. build views left stack (at_list construct x outer))
        (list_then-assoc read (item (and_or first_tree other_trees) no_item) more_tree)

    separated_run : {depth : ℕ} {items left : List Item} {list : ListTree} → IsSeparated views most depth items list left
        → (stack : List Pending) (construct : Compound) (read : ListTree) (outer : List Level)
        → build views items (separator ∷ stack) (at_list construct read outer)
        ≡ build views left stack (at_list construct (list_then read list) outer)
    separated_run (g.no_separator {items = items} none) stack construct read outer =
        over views separator is_separator items stack (at_list construct read outer) separator_skips none
        ∙ ap (λ x. build views items stack (at_list construct x outer)) (sym (list_then-none read))
    separated_run (g.by_semicolon more) stack construct read outer = again_run more stack construct read outer
    separated_run (g.by_newline more) stack construct read outer = again_run more stack construct read outer

    joined_run : {depth : ℕ} {items left : List Item} {others : JoinedTrees} → IsJoined views most depth items others left
        → (stack : List Pending) (construct : Compound) (read : ListTree) (first : PipelineTree) (front : List (Join × PipelineTree))
        → (outer : List Level)
        → build views items (joins ∷ stack) (state construct (listing read (Some (first, front)) join.And false []) fresh outer)
        ≡ build views left stack (at_list construct (list_then read (item (and_or first (joined_onto front others)) no_item)) outer)
    joined_run (g.last_pipeline {items = items} none) stack construct read first front outer =
        over views joins is_join items stack (state construct (listing read (Some (first, front)) join.And false []) fresh outer) join_skips none
    joined_run (g.join {sign = sign} {left = left} {first = next} {others = more} is_next others) stack construct read first front outer =
        next_pipeline_run is_next (joins ∷ stack) construct read (Some (first, front)) sign outer
        ∙ joined_run others stack construct read first (front ++ (sign, next) ∷ []) outer
        ∙ ap (λ x. build views left stack (at_list construct (list_then read (item (and_or first x) no_item)) outer))
        (joined_onto-last front sign next more)

    next_pipeline_run : {depth : ℕ} {items left : List Item} {tree : PipelineTree} → IsNextPipeline views most depth items tree left
        → (stack : List Pending) (construct : Compound) (read : ListTree) (chain : Option (PipelineTree × List (Join × PipelineTree)))
        → (sign : Join) (outer : List Level)
        → build views items (next_pipeline ∷ stack) (state construct (listing read chain sign false []) fresh outer)
        ≡ build views left stack (state construct (listing read (Some (chained chain sign tree)) join.And false []) fresh outer)
    next_pipeline_run (g.newline_pipeline more) stack construct read chain sign outer =
        next_pipeline_run more stack construct read chain sign outer
    next_pipeline_run (g.next_pipeline {items = items} first) stack construct read chain sign outer =
        pipeline_next views items stack (state construct (listing read chain sign false []) fresh outer) (pipeline_begins first)
        ∙ pipeline_run first stack construct read chain sign outer

    pipeline_run : {depth : ℕ} {items left : List Item} {tree : PipelineTree} → IsPipeline views most depth items tree left
        → (stack : List Pending) (construct : Compound) (read : ListTree) (chain : Option (PipelineTree × List (Join × PipelineTree)))
        → (sign : Join) (outer : List Level)
        → build views items (a_pipeline ∷ stack) (state construct (listing read chain sign false []) fresh outer)
        ≡ build views left stack (state construct (listing read (Some (chained chain sign tree)) join.And false []) fresh outer)
    pipeline_run (g.negated {first = first_tree} first others) stack construct read chain sign outer =
        command_run first (pipes ∷ stack) construct (listing read chain sign true []) outer
        ∙ piped_run others stack construct read chain sign true (first_tree ∷ []) outer
    pipeline_run (g.plain {items = items} {first = first_tree} first others) stack construct read chain sign outer =
        command_pipeline views items stack (state construct (listing read chain sign false []) fresh outer) (command_begins first)
        ∙ command_run first (pipes ∷ stack) construct (listing read chain sign false []) outer
        ∙ piped_run others stack construct read chain sign false (first_tree ∷ []) outer

    piped_run : {depth : ℕ} {items left : List Item} {others : CommandTrees} → IsPiped views most depth items others left
        → (stack : List Pending) (construct : Compound) (read : ListTree) (chain : Option (PipelineTree × List (Join × PipelineTree)))
        → (sign : Join) (bang : Bool) (front : List CommandTree) (outer : List Level)
        → build views items (pipes ∷ stack) (state construct (listing read chain sign bang front) fresh outer)
        ≡ build views left stack
        (state construct (listing read (Some (chained chain sign (pipeline bang (commands_onto front others)))) join.And false []) fresh outer)
    piped_run (g.last_command {items = items} none) stack construct read chain sign bang front outer =
        over views pipes is_pipe items stack (state construct (listing read chain sign bang front) fresh outer) pipe_skips none
    piped_run (g.pipe {left = left} {first = next} {others = more} is_next others) stack construct read chain sign bang front outer =
        next_command_run is_next (pipes ∷ stack) construct (listing read chain sign bang front) outer
        ∙ piped_run others stack construct read chain sign bang (front ++ next ∷ []) outer
        ∙ ap (λ x. build views left stack (state construct (listing read (Some (chained chain sign (pipeline bang x))) join.And false []) fresh outer))
        (commands_onto-last front next more)

    next_command_run : {depth : ℕ} {items left : List Item} {tree : CommandTree} → IsNextCommand views most depth items tree left
        → (stack : List Pending) (construct : Compound) (list : Listing) (outer : List Level)
        → build views items (next_command ∷ stack) (state construct list fresh outer)
        ≡ build views left stack (state construct (with_stage list tree) fresh outer)
    next_command_run (g.newline_command more) stack construct list outer = next_command_run more stack construct list outer
    next_command_run (g.next_command {items = items} first) stack construct list outer =
        command_next views items stack (state construct list fresh outer) (command_begins first) ∙ command_run first stack construct list outer

    command_run : {depth : ℕ} {items left : List Item} {tree : CommandTree} → IsCommand views most depth items tree left
        → (stack : List Pending) (construct : Compound) (list : Listing) (outer : List Level)
        → build views items (a_command ∷ stack) (state construct list fresh outer)
        ≡ build views left stack (state construct (with_stage list tree) fresh outer)
    command_run (g.is_simple {behind = spot} {items = items} {left = left} {first = first_piece} {others = other_pieces} first others)
        stack construct list outer =
        piece_as_command views items stack construct list outer (piece_begins first)
        ∙ piece_run first stack construct list no_piece None outer
        ∙ pieces_run others stack construct list (with_piece views no_piece first_piece) None outer
        ∙ ap (λ b. build views left stack (pieces_over b (state construct list
        (making (gathered views (with_piece views no_piece first_piece) other_pieces) 0 how.Read None) outer))) (same_place first)
    command_run (g.is_group {list = tree} less is_list redirs) stack construct list outer =
        body_run is_list (close_brace ∷ pieces place.Tail ∷ stack) in_group (level construct list fresh ∷ outer)
        ∙ pieces_run redirs stack construct list no_piece (Some (in_group, tree)) outer
    command_run (g.is_subshell {list = tree} less is_list redirs) stack construct list outer =
        body_run is_list (close_parenthesis ∷ pieces place.Tail ∷ stack) in_subshell (level construct list fresh ∷ outer)
        ∙ pieces_run redirs stack construct list no_piece (Some (in_subshell, tree)) outer
    command_run (g.is_if {left = left} {condition = condition} {body = tree} {redirs = found} less is_condition is_body others redirs)
        stack construct list outer =
        let (inner, (last, (same, is_compound))) = branches_run others (pieces place.Tail ∷ stack) construct list outer [] condition tree in
        body_run is_condition (then_body ∷ pieces place.Tail ∷ stack) (in_condition []) (level construct list fresh ∷ outer)
        ∙ body_run is_body (branches ∷ pieces place.Tail ∷ stack) (in_branch [] condition) (level construct list fresh ∷ outer)
        ∙ same ∙ pieces_run redirs stack construct list no_piece (Some (inner, last)) outer
        ∙ ap (λ x. build views left stack (state construct (with_stage list x) fresh outer)) (is_compound (tail_of (gathered views no_piece found)))
    command_run (g.is_while {condition = condition} {body = tree} less is_condition is_body redirs) stack construct list outer =
        body_run is_condition (do_body ∷ pieces place.Tail ∷ stack) in_while (level construct list fresh ∷ outer)
        ∙ body_run is_body (end_loop ∷ pieces place.Tail ∷ stack) (in_while_body condition) (level construct list fresh ∷ outer)
        ∙ pieces_run redirs stack construct list no_piece (Some (in_while_body condition, tree)) outer
    command_run (g.is_until {condition = condition} {body = tree} less is_condition is_body redirs) stack construct list outer =
        body_run is_condition (do_body ∷ pieces place.Tail ∷ stack) in_until (level construct list fresh ∷ outer)
        ∙ body_run is_body (end_loop ∷ pieces place.Tail ∷ stack) (in_until_body condition) (level construct list fresh ∷ outer)
        ∙ pieces_run redirs stack construct list no_piece (Some (in_until_body condition, tree)) outer
    command_run (g.is_for {name = name} {kind = kind} {items = items} {among = among} {body = tree} less is_named head is_body redirs)
        stack construct list outer =
        on_push views loop_name (token.Word kind name) items (loop_head ∷ []) (pieces place.Tail ∷ stack)
        (state unnamed nothing fresh (level construct list fresh ∷ outer)) (ap (λ b. cond b (push (loop_head ∷ [])) stuck) is_named)
        ∙ loop_head_run head (pieces place.Tail ∷ stack) (views.name name) (level construct list fresh ∷ outer)
        ∙ body_run is_body (end_loop ∷ pieces place.Tail ∷ stack) (in_for (views.name name) among) (level construct list fresh ∷ outer)
        ∙ pieces_run redirs stack construct list no_piece (Some (in_for (views.name name) among, tree)) outer

    branches_run : {depth : ℕ} {items left : List Item} {others : BranchTrees} {otherwise : ElseTree}
        → IsBranches views most depth items others otherwise left
        → (stack : List Pending) (construct : Compound) (list : Listing) (outer : List Level) (front : List (ListTree × ListTree))
        → (condition tree : ListTree)
        → (inner : Compound) × ((last : ListTree) × ((
        build views items (branches ∷ stack) (at_list (in_branch front condition) tree (level construct list fresh ∷ outer))
        ≡ build views left stack (state construct list (making no_piece 0 how.Read (Some (inner, last))) outer)
        ) × ((redirs : TailTree)
        → compound inner last redirs ≡ if_branches (branches_onto front (branch condition tree others)) otherwise redirs)))
    branches_run {otherwise = otherwise} (g.elif_branch {condition = next} {body = next_tree} {others = more} is_condition is_body others)
        stack construct list outer front condition tree =
        let more_front : List (ListTree × ListTree) = front ++ (condition, tree) ∷ [] in
        let (inner, (last, (same, is_compound))) = branches_run others stack construct list outer more_front next next_tree in (
          inner,
          (
            last,
            (
              body_run is_condition (then_body ∷ stack) (in_condition more_front) (level construct list fresh ∷ outer)
                  ∙ body_run is_body (branches ∷ stack) (in_branch more_front next) (level construct list fresh ∷ outer) ∙ same,
              λ redirs. is_compound redirs ∙ ap (λ x. if_branches x otherwise redirs) (branches_onto-last front condition tree (branch next next_tree more)),
            ),
          ),
        )
    branches_run (g.else_branch {body = last} is_body) stack construct list outer front condition tree = (
      in_else (front ++ (condition, tree) ∷ []),
      (
        last,
        (
          body_run is_body (end_if ∷ stack) (in_else (front ++ (condition, tree) ∷ [])) (level construct list fresh ∷ outer),
          λ redirs. ap (λ x. if_branches x (else_list last) redirs) (branches_onto-last front condition tree no_branch),
        ),
      ),
    )
    branches_run g.no_more stack construct list outer front condition tree = (
      in_branch front condition,
      (tree, (refl, λ redirs. ap (λ x. if_branches x no_else redirs) (branches_onto-last front condition tree no_branch))),
    )

    loop_head_run : {depth : ℕ} {items left : List Item} {among : InTree} → IsLoopHead views most depth items among left
        → (stack : List Pending) (name : List ℕ) (outer : List Level)
        → build views items (loop_head ∷ stack) (at_list (in_for name no_in) no_item outer)
        ≡ build views left (body ∷ end_loop ∷ stack) (at_list (in_for name among) no_item outer)
    loop_head_run g.head_do stack name outer = refl
    loop_head_run (g.head_semicolon more) stack name outer = do_run views more stack name no_in outer
    loop_head_run (g.head_newline more) stack name outer = loop_lines_run more stack name outer
    loop_head_run (g.head_in {among = among} is_among more) stack name outer =
        pieces_run is_among (loop_separator ∷ stack) (in_for name no_in) nothing no_piece None outer
        ∙ separator_run views more stack name (in_words (words_of (gathered views no_piece among))) outer

    loop_lines_run : {depth : ℕ} {items left : List Item} {among : InTree} → IsLoopLines views most depth items among left
        → (stack : List Pending) (name : List ℕ) (outer : List Level)
        → build views items (loop_lines ∷ stack) (at_list (in_for name no_in) no_item outer)
        ≡ build views left (body ∷ end_loop ∷ stack) (at_list (in_for name among) no_item outer)
    loop_lines_run g.lines_do stack name outer = refl
    loop_lines_run (g.lines_newline more) stack name outer = loop_lines_run more stack name outer
    loop_lines_run (g.lines_in {among = among} is_among more) stack name outer =
        pieces_run is_among (loop_separator ∷ stack) (in_for name no_in) nothing no_piece None outer
        ∙ separator_run views more stack name (in_words (words_of (gathered views no_piece among))) outer

    pieces_run : {depth : ℕ} {at : Slot} {items left : List Item} {found : List Piece} → IsPieces views most depth at items found left
        → (stack : List Pending) (construct : Compound) (list : Listing) (pieces_read : SimpleTree) (made : Option (Compound × ListTree))
        → (outer : List Level)
        → build views items (pieces at ∷ stack) (state construct list (making pieces_read 0 how.Read made) outer)
        ≡ build views left stack (pieces_over (is_loop at) (state construct list (making (gathered views pieces_read found) 0 how.Read made) outer))
    pieces_run (g.last_piece {at = at} {items = items} none) stack construct list pieces_read made outer =
        over views (pieces at) (begins_piece at) items stack (state construct list (making pieces_read 0 how.Read made) outer) (piece_skips at) none
    pieces_run (g.more_pieces {left = left} {first = first_piece} {others = other_pieces} first others) stack construct list pieces_read made outer =
        piece_run first stack construct list pieces_read made outer
        ∙ pieces_run others stack construct list (with_piece views pieces_read first_piece) made outer
        ∙ ap (λ b. build views left stack (pieces_over b (state construct list
        (making (gathered views (with_piece views pieces_read first_piece) other_pieces) 0 how.Read made) outer))) (same_place first)

    piece_run : {depth : ℕ} {at behind : Slot} {items left : List Item} {found : Piece}
        → IsPiece views most depth at items found behind left
        → (stack : List Pending) (construct : Compound) (list : Listing) (pieces_read : SimpleTree) (made : Option (Compound × ListTree))
        → (outer : List Level)
        → build views items (pieces at ∷ stack) (state construct list (making pieces_read 0 how.Read made) outer)
        ≡ build views left (pieces behind ∷ stack) (state construct list (making (with_piece views pieces_read found) 0 how.Read made) outer)
    piece_run (g.is_assign {spot = spot} {kind = kind} {at = at} {items = items} u subs) stack construct list
        (simple_command assigns arguments redirs read) made outer =
        on_push views (pieces spot) (token.Word kind at) items (substitutions ∷ pieces place.BeforeName ∷ []) stack
        (state construct list (making (simple_command assigns arguments redirs read) 0 how.Read made) outer) (ap word_by u)
        ∙ ap (λ x. build views items (substitutions ∷ pieces place.BeforeName ∷ stack) (word_as views x kind at
        (state construct list (making (simple_command assigns arguments redirs read) 0 how.Read made) outer))) u
        ∙ subs_run subs (pieces place.BeforeName ∷ stack) construct list _ arguments redirs read made outer
    piece_run (g.is_argument {spot = spot} {behind = behind_it} {kind = kind} {at = at} {items = items} u subs) stack construct list
        (simple_command assigns arguments redirs read) made outer =
        on_push views (pieces spot) (token.Word kind at) items (substitutions ∷ pieces behind_it ∷ []) stack
        (state construct list (making (simple_command assigns arguments redirs read) 0 how.Read made) outer) (ap word_by u)
        ∙ ap (λ x. build views items (substitutions ∷ pieces behind_it ∷ stack) (word_as views x kind at
        (state construct list (making (simple_command assigns arguments redirs read) 0 how.Read made) outer))) u
        ∙ subs_run subs (pieces behind_it ∷ stack) construct list assigns _ redirs read made outer
    piece_run (g.is_numbered {number = number} {before = before} {from = from} {spot = spot} {behind = behind_it} {how = by} {kind = kind} {at = at} {items = items} u subs)
        stack construct list (simple_command assigns arguments redirs read) made outer =
        on_push views (pieces spot) (token.IoNumber number before) (token.Redirect by from ∷ token.Word kind at ∷ items) (operator ∷ pieces behind_it ∷ []) stack
        (state construct list (making (simple_command assigns arguments redirs read) 0 how.Read made) outer) (ap (redirection_by operator) u)
        ∙ subs_run subs (pieces behind_it ∷ stack) construct list assigns arguments _ read made outer
    piece_run (g.is_redirection {from = from} {spot = spot} {behind = behind_it} {how = by} {kind = kind} {at = at} {items = items} u subs)
        stack construct list (simple_command assigns arguments redirs read) made outer =
        on_push views (pieces spot) (token.Redirect by from) (token.Word kind at ∷ items) (target ∷ pieces behind_it ∷ []) stack
        (state construct list (making (simple_command assigns arguments redirs read) 0 how.Read made) outer) (ap (redirection_by target) u)
        ∙ subs_run subs (pieces behind_it ∷ stack) construct list assigns arguments _ read made outer

    subs_run : {depth : ℕ} {items left : List Item} {subs : SubTrees} → IsSubs views most depth items subs left
        → (stack : List Pending) (construct : Compound) (list : Listing) (assigns : List (List ℕ × WordTree)) (arguments : List WordTree) (redirs : List RedirTree) (read : SubTrees)
        → (made : Option (Compound × ListTree)) (outer : List Level)
        → build views items (substitutions ∷ stack) (state construct list (making (simple_command assigns arguments redirs read) 0 how.Read made) outer)
        ≡ build views left stack
        (state construct list (making (simple_command assigns arguments redirs (subs_then read subs)) 0 how.Read made) outer)
    subs_run (g.last_sub {items = items} none) stack construct list assigns arguments redirs read made outer =
        over views substitutions is_sub_open items stack _ sub_skips none
        ∙ ap (λ x. build views items stack (state construct list (making (simple_command assigns arguments redirs x) 0 how.Read made) outer))
        (sym (subs_then-none read))
    subs_run (g.next_sub {left = left} {list = tree} {others = more} less is_list others) stack construct list assigns arguments redirs read made outer =
        again_run is_list (close_substitution ∷ substitutions ∷ stack) whole no_item
        (level construct list (making (simple_command assigns arguments redirs read) 0 how.Read made) ∷ outer)
        ∙ subs_run others stack construct list assigns arguments redirs (subs_then read (sub tree no_sub)) made outer
        ∙ ap (λ x. build views left stack (state construct list (making (simple_command assigns arguments redirs x) 0 how.Read made) outer))
        (subs_then-assoc read (sub tree no_sub) more)

  -- the items of a list are built
  pub built : {items : List Item} {list : ListTree} → IsAgain views most 0 items list []
      → build views items (again ∷ []) start ≡ at_list whole list []
  built reads = again_run reads [] whole no_item []

-- the script that is read of items is the one that they are
pub script_is : (views : WordViews) (most : ℕ) (items : List Item) (script : ScriptTree) → Reads views most items script
    → script_built (build views items (again ∷ []) start) ≡ script
script_is views most items script (list, (reads, same)) = ap script_built (built reads) ∙ sym same
