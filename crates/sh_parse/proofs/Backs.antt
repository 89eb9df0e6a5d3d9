-- What a stack takes is read by the rules whose parts it has.
use Rattle.std.proofs.Common.{◌≡◌, ℕ, ◌+◌, ◌≤◌, Bool, true, false, List, [], ◌∷◌, ◌++◌, length, cond, refl, sym, ◌∙◌, ap, subst, append_assoc, is_some, Option, Some, None}
use Rattle.std.proofs.Common.{nat_le}
use Rattle.std.proofs.lemmas.Bool.{leb-true}
use Rattle.sh_tree.specs.Trees.{ListTree, JoinedTrees, PipelineTree, CommandTree, CommandTrees, BranchTrees, ElseTree, InTree, SubTrees, item, and_or, none_joined, joined, pipeline, no_command, command, simple, group, subshell, if_branches, while_loop, until_loop, for_loop, no_branch, branch, no_else, else_list, no_in, in_words, no_sub, sub, no_item}
use Rattle.sh_parse.specs.Pieces.{WordViews, Piece, assign, argument, redirection, gathered, no_piece, tail_of, words_of, default_number}
use Rattle.sh_parse.specs.Places.{used, redirects, begins_piece, is_name, begins_pipeline, is_used}
use Rattle.sh_parse.specs.Inner.Owed.{Pending, Move, Next, Verdict, pieces, a_pipeline, a_command, pipes, next_command, joins, next_pipeline, separator, again, body, close_brace, close_parenthesis, close_substitution, then_body, branches, end_if, do_body, end_loop, loop_name, loop_head, loop_lines, loop_separator, loop_do, operator, target, substitutions, push, opens, skip, stuck, move, moved, step, levels, verdict, verdict_behind, goes, deeper, fails, deep, fine, bad, may_end, is_option, branch_by, word_by, redirection_by, piece_by, needed, command_by, pipeline_by, followed}
use Rattle.sh_parse.specs.Grammar as g
use Rattle.sh_parse.specs.Grammar.{NoneNext, IsAgain, IsBody, IsList, IsSeparated, IsJoined, IsNextPipeline, IsPipeline, IsPiped, IsNextCommand, IsCommand, IsBranches, IsLoopHead, IsLoopLines, IsLoopSeparator, IsLoopDo, IsPieces, IsPiece, IsSubs, is_sub_open, is_pipe, is_join, is_separator, goes_on}
use Rattle.sh_parse.specs.declared.items.Item.{Item}
use Rattle.sh_parse.specs.declared.items.Item.TheVariants as token
use Rattle.sh_parse.specs.declared.items.WordKind.{WordKind}
use Rattle.sh_parse.specs.declared.items.WordKind.TheVariants as word
use Rattle.sh_parse.specs.declared.items.Reserved.TheVariants as reserved
use Rattle.sh_parse.specs.declared.pieces.Slot.{Slot}
use Rattle.sh_parse.specs.declared.pieces.Slot.TheVariants as place
use Rattle.sh_parse.specs.declared.pieces.Use.{Use}
use Rattle.sh_parse.specs.declared.pieces.Use.TheVariants as use_as
use Rattle.sh_tree.specs.declared.commands.How.{How}
use Rattle.sh_parse.specs.declared.items.Span.{Span}

-- true isn't false
pub true_false : true ≡ false → ⊥
true_false e = cc

abbrev pub is_move : Move → Bool
is_move (push parts) = true
is_move (opens parts) = true
is_move skip = false
is_move stuck = false

-- a pipeline begins where its first item moves
pub begins_is : (first : Item) → begins_pipeline first ≡ is_move (pipeline_by first)
begins_is (token.Word (word.Reserved reserved.Bang) at) = refl
begins_is (token.Word (word.Reserved reserved.OpenBrace) at) = refl
begins_is (token.Word (word.Reserved reserved.If) at) = refl
begins_is (token.Word (word.Reserved reserved.While) at) = refl
begins_is (token.Word (word.Reserved reserved.Until) at) = refl
begins_is (token.Word (word.Reserved reserved.For) at) = refl
begins_is (token.Word (word.Reserved _) at) = refl
begins_is (token.Word _ at) = refl
begins_is _ = refl

module _ (views : WordViews) (most : ℕ) where
  -- the body of a loop, and its end
  abbrev pub LoopBody : ℕ → List Item → List Item → Type 0
  LoopBody depth items left = (list : ListTree) × ((close : Span)
      × IsBody views most (depth + 1) items list (token.Word (word.Reserved reserved.Done) close ∷ left))

  -- what the rule of a part reads, below a stack of so many levels
  abbrev pub Is : Pending → ℕ → List Item → List Item → Type 0
  Is (pieces at) depth items left = (found : List Piece) × IsPieces views most depth at items found left
  Is operator depth items left = (how : How) × ((from : ℕ) × ((kind : WordKind) × ((at : Span) × ((middle : List Item) × ((subs : SubTrees)
      × ((items ≡ token.Redirect how from ∷ token.Word kind at ∷ middle) × IsSubs views most depth middle subs left))))))
  Is target depth items left = (kind : WordKind) × ((at : Span) × ((middle : List Item) × ((subs : SubTrees)
      × ((items ≡ token.Word kind at ∷ middle) × IsSubs views most depth middle subs left))))
  Is substitutions depth items left = (subs : SubTrees) × IsSubs views most depth items subs left
  Is a_pipeline depth items left = (tree : PipelineTree) × IsPipeline views most depth items tree left
  Is a_command depth items left = (tree : CommandTree) × IsCommand views most depth items tree left
  Is pipes depth items left = (others : CommandTrees) × IsPiped views most depth items others left
  Is next_command depth items left = (tree : CommandTree) × IsNextCommand views most depth items tree left
  Is joins depth items left = (others : JoinedTrees) × IsJoined views most depth items others left
  Is next_pipeline depth items left = (tree : PipelineTree) × IsNextPipeline views most depth items tree left
  Is separator depth items left = (list : ListTree) × IsSeparated views most depth items list left
  Is again depth items left = (list : ListTree) × IsAgain views most depth items list left
  Is body depth items left = (list : ListTree) × IsBody views most depth items list left
  Is close_brace depth items left = (at : Span) × (items ≡ token.Word (word.Reserved reserved.CloseBrace) at ∷ left)
  Is close_parenthesis depth items left = items ≡ token.Close ∷ left
  Is close_substitution depth items left = items ≡ token.SubClose ∷ left
  Is then_body depth items left = (at : Span) × ((middle : List Item) × ((list : ListTree) × ((behind : List Item)
      × ((items ≡ token.Word (word.Reserved reserved.Then) at ∷ middle) × (IsBody views most (depth + 1) middle list behind
      × ((others : BranchTrees) × ((otherwise : ElseTree) × IsBranches views most (depth + 1) behind others otherwise left)))))))
  Is branches depth items left = (others : BranchTrees) × ((otherwise : ElseTree)
      × IsBranches views most (depth + 1) items others otherwise left)
  Is end_if depth items left = (at : Span) × (items ≡ token.Word (word.Reserved reserved.Fi) at ∷ left)
  Is do_body depth items left = (at : Span) × ((middle : List Item)
      × ((items ≡ token.Word (word.Reserved reserved.Do) at ∷ middle) × LoopBody depth middle left))
  Is end_loop depth items left = (at : Span) × (items ≡ token.Word (word.Reserved reserved.Done) at ∷ left)
  Is loop_name depth items left = (kind : WordKind) × ((at : Span) × ((middle : List Item) × ((behind : List Item) × ((among : InTree)
      × ((items ≡ token.Word kind at ∷ middle) × ((is_name kind ≡ true)
      × (IsLoopHead views most (depth + 1) middle among behind × LoopBody depth behind left)))))))
  Is loop_head depth items left = (among : InTree) × ((behind : List Item)
      × (IsLoopHead views most (depth + 1) items among behind × LoopBody depth behind left))
  Is loop_lines depth items left = (among : InTree) × ((behind : List Item)
      × (IsLoopLines views most (depth + 1) items among behind × LoopBody depth behind left))
  Is loop_separator depth items left = (behind : List Item) × (IsLoopSeparator items behind × LoopBody depth behind left)
  Is loop_do depth items left = (behind : List Item) × (IsLoopDo items behind × LoopBody depth behind left)

  -- the rules of a stack, one behind another
  abbrev pub Owed : List Pending → List Item → Type 0
  Owed [] items = items ≡ []
  Owed (part ∷ stack) items = (left : List Item) × (Is part (levels stack) items left × Owed stack left)

  -- what a move says of the rules
  abbrev pub Back : Pending → Item → List Pending → Move → Type 0
  Back part first stack (push parts) = (rest : List Item) → Owed (parts ++ stack) rest → Owed (part ∷ stack) (first ∷ rest)
  Back part first stack (opens parts) =
      levels (parts ++ stack) ≤ most → (rest : List Item) → Owed (parts ++ stack) rest → Owed (part ∷ stack) (first ∷ rest)
  Back part first stack skip = (rest : List Item) → Is part (levels stack) (first ∷ rest) (first ∷ rest)
  Back part first stack stuck = Unit {0}

  word_back : (at : Slot) (kind : WordKind) (span : Span) (stack : List Pending) (u : Use) → used at kind ≡ u
      → Back (pieces at) (token.Word kind span) stack (word_by u)
  word_back at kind span stack use_as.Assigned e = λ rest o.
      let (middle, ((subs, is_subs), (left, ((found, is_found), o)))) = o in
      (left, ((assign span subs ∷ found, g.more_pieces (g.is_assign e is_subs) is_found), o))
  word_back at kind span stack (use_as.Given behind) e = λ rest o.
      let (middle, ((subs, is_subs), (left, ((found, is_found), o)))) = o in
      (left, ((argument span subs ∷ found, g.more_pieces (g.is_argument e is_subs) is_found), o))
  word_back at kind span stack use_as.Unused e = λ rest. ([], g.last_piece (ap is_used e))

  number_back : (at : Slot) (number before : ℕ) (stack : List Pending) (o : Option Slot) → redirects at ≡ o
      → Back (pieces at) (token.IoNumber number before) stack (redirection_by operator o)
  number_back at number before stack None e = λ rest. ([], g.last_piece (ap is_some e))
  number_back at number before stack (Some behind) e = λ rest o.
      let (middle, ((how, (from, (kind, (span, (inner, (subs, (same, is_subs))))))), (left, ((found, is_found), o)))) = o in (
        left,
        (
          (
            redirection number how span subs ∷ found,
            subst (λ i. IsPieces views most (levels stack) at (token.IoNumber number before ∷ i) (redirection number how span subs ∷ found) left)
                (sym same) (g.more_pieces (g.is_numbered e is_subs) is_found),
          ),
          o,
        ),
      )

  redirect_back : (at : Slot) (how : How) (from : ℕ) (stack : List Pending) (o : Option Slot) → redirects at ≡ o
      → Back (pieces at) (token.Redirect how from) stack (redirection_by target o)
  redirect_back at how from stack None e = λ rest. ([], g.last_piece (ap is_some e))
  redirect_back at how from stack (Some behind) e = λ rest o.
      let (middle, ((kind, (span, (inner, (subs, (same, is_subs))))), (left, ((found, is_found), o)))) = o in (
        left,
        (
          (
            redirection (default_number how) how span subs ∷ found,
            subst (λ i. IsPieces views most (levels stack) at (token.Redirect how from ∷ i) (redirection (default_number how) how span subs ∷ found) left)
                (sym same) (g.more_pieces (g.is_redirection e is_subs) is_found),
          ),
          o,
        ),
      )

  piece_back : (at : Slot) (first : Item) (stack : List Pending) → Back (pieces at) first stack (piece_by at first)
  piece_back at (token.Word kind span) stack = word_back at kind span stack (used at kind) refl
  piece_back at (token.IoNumber number before) stack = number_back at number before stack (redirects at) refl
  piece_back at (token.Redirect how from) stack = redirect_back at how from stack (redirects at) refl
  piece_back at _ stack = λ rest. ([], g.last_piece refl)

  simple_back : {depth : ℕ} {first : Item} {rest left : List Item} {found : List Piece} → begins_piece place.First first ≡ true
      → IsPieces views most depth place.First (first ∷ rest) found left
      → (tree : CommandTree) × IsCommand views most depth (first ∷ rest) tree left
  simple_back h (g.last_piece none) = absurd (true_false (sym h ∙ none))
  simple_back h (g.more_pieces {first = piece} {others = others} is_first is_others) =
      (simple (gathered views no_piece (piece ∷ others)), g.is_simple is_first is_others)

  needed_back : (first : Item) (stack : List Pending) (m : Move) → begins_piece place.First first ≡ true
      → Back (pieces place.First) first stack m → Back a_command first stack (needed m)
  needed_back first stack (push parts) h back = λ rest o.
      let (left, ((found, is_found), o)) = back rest o in (left, (simple_back h is_found, o))
  needed_back first stack (opens parts) h back = λ less rest o.
      let (left, ((found, is_found), o)) = back less rest o in (left, (simple_back h is_found, o))
  needed_back first stack skip h back = tt
  needed_back first stack stuck h back = tt

  command_back : (first : Item) (stack : List Pending) → Back a_command first stack (command_by first)
  command_back (token.Word (word.Reserved reserved.OpenBrace) at) stack = λ less rest o.
      let (middle, ((list, is_list), (behind, ((close, same), (left, ((redirs, is_redirs), o)))))) = o in (
        left,
        (
          (
            group list (tail_of (gathered views no_piece redirs)),
            g.is_group less (subst (λ m. IsBody views most (levels stack + 1) rest list m) same is_list) is_redirs,
          ),
          o,
        ),
      )
  command_back (token.Word (word.Reserved reserved.If) at) stack = λ less rest o.
      let (middle, ((condition, is_condition), (behind, ((then_at, (inner, (list, (after, (same, (is_list, (others, (otherwise, is_others)))))))), (left, ((redirs, is_redirs), o)))))) = o in (
        left,
        (
          (
            if_branches (branch condition list others) otherwise (tail_of (gathered views no_piece redirs)),
            g.is_if less (subst (λ m. IsBody views most (levels stack + 1) rest condition m) same is_condition) is_list is_others is_redirs,
          ),
          o,
        ),
      )
  command_back (token.Word (word.Reserved reserved.While) at) stack = λ less rest o.
      let (middle, ((condition, is_condition), (behind, ((do_at, (inner, (same, (list, (close, is_list))))), (left, ((redirs, is_redirs), o)))))) = o in (
        left,
        (
          (
            while_loop condition list (tail_of (gathered views no_piece redirs)),
            g.is_while less (subst (λ m. IsBody views most (levels stack + 1) rest condition m) same is_condition) is_list is_redirs,
          ),
          o,
        ),
      )
  command_back (token.Word (word.Reserved reserved.Until) at) stack = λ less rest o.
      let (middle, ((condition, is_condition), (behind, ((do_at, (inner, (same, (list, (close, is_list))))), (left, ((redirs, is_redirs), o)))))) = o in (
        left,
        (
          (
            until_loop condition list (tail_of (gathered views no_piece redirs)),
            g.is_until less (subst (λ m. IsBody views most (levels stack + 1) rest condition m) same is_condition) is_list is_redirs,
          ),
          o,
        ),
      )
  command_back (token.Word (word.Reserved reserved.For) at) stack = λ less rest o.
      let (middle, ((kind, (name, (inner, (behind, (among, (same, (named, (is_head, (list, (close, is_list)))))))))), (left, ((redirs, is_redirs), o)))) = o in (
        left,
        (
          (
            for_loop (views.name name) among list (tail_of (gathered views no_piece redirs)),
            subst (λ i. IsCommand views most (levels stack) (token.Word (word.Reserved reserved.For) at ∷ i)
                (for_loop (views.name name) among list (tail_of (gathered views no_piece redirs))) left) (sym same)
                (g.is_for less named is_head is_list is_redirs),
          ),
          o,
        ),
      )
  command_back (token.Word (word.Reserved _) at) stack = tt
  command_back (token.Word word.In at) stack = needed_back (token.Word word.In at) stack (piece_by place.First (token.Word word.In at)) refl (piece_back place.First (token.Word word.In at) stack)
  command_back (token.Word word.Name at) stack = needed_back (token.Word word.Name at) stack (piece_by place.First (token.Word word.Name at)) refl (piece_back place.First (token.Word word.Name at) stack)
  command_back (token.Word word.Assign at) stack = needed_back (token.Word word.Assign at) stack (piece_by place.First (token.Word word.Assign at)) refl (piece_back place.First (token.Word word.Assign at) stack)
  command_back (token.Word word.Other at) stack = needed_back (token.Word word.Other at) stack (piece_by place.First (token.Word word.Other at)) refl (piece_back place.First (token.Word word.Other at) stack)
  command_back (token.IoNumber number before) stack = needed_back (token.IoNumber number before) stack (piece_by place.First (token.IoNumber number before)) refl (piece_back place.First (token.IoNumber number before) stack)
  command_back (token.Redirect how from) stack = needed_back (token.Redirect how from) stack (piece_by place.First (token.Redirect how from)) refl (piece_back place.First (token.Redirect how from) stack)
  command_back (token.Open at) stack = λ less rest o.
      let (middle, ((list, is_list), (behind, (same, (left, ((redirs, is_redirs), o)))))) = o in (
        left,
        (
          (
            subshell list (tail_of (gathered views no_piece redirs)),
            g.is_subshell less (subst (λ m. IsBody views most (levels stack + 1) rest list m) same is_list) is_redirs,
          ),
          o,
        ),
      )
  command_back _ stack = tt

  -- a pipeline, by what its first item owes and the rest of it
  abbrev pub PipelineBack : Item → List Pending → Move → Type 0
  PipelineBack first stack (push parts) = (rest : List Item) → Owed (parts ++ pipes ∷ stack) rest → Owed (a_pipeline ∷ stack) (first ∷ rest)
  PipelineBack first stack (opens parts) = levels (parts ++ pipes ∷ stack) ≤ most
      → (rest : List Item) → Owed (parts ++ pipes ∷ stack) rest → Owed (a_pipeline ∷ stack) (first ∷ rest)
  PipelineBack first stack skip = Unit {0}
  PipelineBack first stack stuck = Unit {0}

  plain_owed : (stack : List Pending) (items : List Item) → Owed (a_command ∷ pipes ∷ stack) items → Owed (a_pipeline ∷ stack) items
  plain_owed stack items (middle, ((tree, is_tree), (left, ((others, is_others), o)))) =
      (left, ((pipeline false (command tree others), g.plain is_tree is_others), o))

  plain_back : (first : Item) (stack : List Pending) (m : Move) → Back a_command first (pipes ∷ stack) m → PipelineBack first stack m
  plain_back first stack (push parts) back = λ rest o. plain_owed stack (first ∷ rest) (back rest o)
  plain_back first stack (opens parts) back = λ less rest o. plain_owed stack (first ∷ rest) (back less rest o)
  plain_back first stack skip back = tt
  plain_back first stack stuck back = tt

  pipeline_back : (first : Item) (stack : List Pending) → PipelineBack first stack (pipeline_by first)
  pipeline_back (token.Word (word.Reserved reserved.Bang) at) stack = λ rest o.
      let (middle, ((tree, is_tree), (left, ((others, is_others), o)))) = o in
      (left, ((pipeline true (command tree others), g.negated is_tree is_others), o))
  pipeline_back first stack = plain_back first stack (command_by first) (command_back first (pipes ∷ stack))

  -- the same with more owed in the move
  follow_back : (part : Pending) (first : Item) (more stack : List Pending) (otherwise : Move)
      → ((rest : List Item) → Owed (a_pipeline ∷ more ++ stack) (first ∷ rest) → Owed (part ∷ stack) (first ∷ rest))
      → (m : Move) → (is_move m ≡ false → Back part first stack otherwise)
      → PipelineBack first (more ++ stack) m → Back part first stack (followed m (pipes ∷ more) otherwise)
  follow_back part first more stack otherwise whole (push owed) other back = λ rest o.
      whole rest (back rest (subst (λ x. Owed x rest) (append_assoc owed (pipes ∷ more) stack) o))
  follow_back part first more stack otherwise whole (opens owed) other back = λ less rest o.
      whole rest (back (subst (λ x. levels x ≤ most) (append_assoc owed (pipes ∷ more) stack) less) rest
      (subst (λ x. Owed x rest) (append_assoc owed (pipes ∷ more) stack) o))
  follow_back part first more stack otherwise whole skip other back = other refl
  follow_back part first more stack otherwise whole stuck other back = other refl

  list_owed : (stack : List Pending) (items : List Item) → Owed (a_pipeline ∷ joins ∷ separator ∷ stack) items
      → (left : List Item) × (((list : ListTree) × IsList views most (levels stack) items list left) × Owed stack left)
  list_owed stack items (middle, ((tree, is_tree), (behind, ((others, is_others), (left, ((list, is_list), o)))))) =
      (left, ((item (and_or tree others) list, g.is_list is_tree is_others is_list), o))

  again_owed : (stack : List Pending) (items : List Item) → Owed (a_pipeline ∷ joins ∷ separator ∷ stack) items → Owed (again ∷ stack) items
  again_owed stack items o = let (left, ((list, reads), o)) = list_owed stack items o in (left, ((list, g.again_list reads), o))

  body_owed : (stack : List Pending) (items : List Item) → Owed (a_pipeline ∷ joins ∷ separator ∷ stack) items → Owed (body ∷ stack) items
  body_owed stack items o = let (left, ((list, reads), o)) = list_owed stack items o in (left, ((list, g.body_list reads), o))

  next_owed : (stack : List Pending) (items : List Item) → Owed (a_pipeline ∷ stack) items → Owed (next_pipeline ∷ stack) items
  next_owed stack items (left, ((tree, is_tree), o)) = (left, ((tree, g.next_pipeline is_tree), o))

  again_back : (first : Item) (stack : List Pending) → Back again first stack (move again first)
  again_back token.Newline stack = λ rest o. let (left, ((list, is_list), o)) = o in (left, ((list, g.again_newline is_list), o))
  again_back first stack = follow_back again first (joins ∷ separator ∷ []) stack skip (λ rest. again_owed stack (first ∷ rest)) (pipeline_by first)
      (λ h rest. (no_item, g.no_list (begins_is first ∙ h))) (pipeline_back first (joins ∷ separator ∷ stack))

  body_back : (first : Item) (stack : List Pending) → Back body first stack (move body first)
  body_back token.Newline stack = λ rest o. let (left, ((list, is_list), o)) = o in (left, ((list, g.body_newline is_list), o))
  body_back first stack = follow_back body first (joins ∷ separator ∷ []) stack stuck (λ rest. body_owed stack (first ∷ rest)) (pipeline_by first)
      (λ h. tt) (pipeline_back first (joins ∷ separator ∷ stack))

  next_pipeline_back : (first : Item) (stack : List Pending) → Back next_pipeline first stack (move next_pipeline first)
  next_pipeline_back token.Newline stack = λ rest o. let (left, ((tree, is_tree), o)) = o in (left, ((tree, g.newline_pipeline is_tree), o))
  next_pipeline_back first stack = follow_back next_pipeline first [] stack stuck (λ rest. next_owed stack (first ∷ rest)) (pipeline_by first)
      (λ h. tt) (pipeline_back first stack)

  next_back : (first : Item) (stack : List Pending) (m : Move) → Back a_command first stack (needed m) → Back next_command first stack (needed m)
  next_back first stack (push parts) back = λ rest o. let (left, ((tree, is_tree), o)) = back rest o in (left, ((tree, g.next_command is_tree), o))
  next_back first stack (opens parts) back = λ less rest o. let (left, ((tree, is_tree), o)) = back less rest o in (left, ((tree, g.next_command is_tree), o))
  next_back first stack skip back = tt
  next_back first stack stuck back = tt

  is_needed : (first : Item) → needed (command_by first) ≡ command_by first
  is_needed (token.Word (word.Reserved reserved.OpenBrace) at) = refl
  is_needed (token.Word (word.Reserved reserved.If) at) = refl
  is_needed (token.Word (word.Reserved reserved.While) at) = refl
  is_needed (token.Word (word.Reserved reserved.Until) at) = refl
  is_needed (token.Word (word.Reserved reserved.For) at) = refl
  is_needed (token.Word (word.Reserved _) at) = refl
  is_needed (token.Word _ at) = refl
  is_needed _ = refl

  next_command_back : (first : Item) (stack : List Pending) → Back next_command first stack (move next_command first)
  next_command_back token.Newline stack = λ rest o. let (left, ((tree, is_tree), o)) = o in (left, ((tree, g.newline_command is_tree), o))
  next_command_back first stack = subst (λ m. Back next_command first stack m) (is_needed first)
      (next_back first stack (command_by first) (subst (λ m. Back a_command first stack m) (sym (is_needed first)) (command_back first stack)))

  name_back : (kind : WordKind) (at : Span) (stack : List Pending) (test : Bool) → is_name kind ≡ test
      → Back loop_name (token.Word kind at) stack (cond test (push (loop_head ∷ [])) stuck)
  name_back kind at stack true e = λ rest o.
      let (left, ((among, (behind, (is_head, end_body))), o)) = o in
      (left, ((kind, (at, (rest, (behind, (among, (refl, (e, (is_head, end_body)))))))), o))
  name_back kind at stack false e = tt

  loop_owed : (stack : List Pending) (items : List Item) → Owed (body ∷ end_loop ∷ stack) items
      → (left : List Item) × (LoopBody (levels stack) items left × Owed stack left)
  loop_owed stack items (middle, ((list, is_list), (left, ((close, same), o)))) =
      (left, ((list, (close, subst (λ m. IsBody views most (levels stack + 1) items list m) same is_list)), o))

  branch_back : (first : Item) (stack : List Pending) → Back branches first stack (branch_by first)
  branch_back (token.Word (word.Reserved reserved.Elif) at) stack = λ rest o.
      let (middle, ((condition, is_condition), (left, ((then_at, (inner, (list, (behind, (same, (is_list, (others, (otherwise, is_others)))))))), o)))) = o in (
        left,
        (
          (
            branch condition list others,
            (
              otherwise,
              g.elif_branch (subst (λ m. IsBody views most (levels stack + 1) rest condition m) same is_condition) is_list is_others,
            ),
          ),
          o,
        ),
      )
  branch_back (token.Word (word.Reserved reserved.Else) at) stack = λ rest o.
      let (middle, ((list, is_list), (left, ((close, same), o)))) = o in
      (left, ((no_branch, (else_list list, g.else_branch (subst (λ m. IsBody views most (levels stack + 1) rest list m) same is_list))), o))
  branch_back (token.Word (word.Reserved reserved.Fi) at) stack = λ rest o. (rest, ((no_branch, (no_else, g.no_more)), o))
  branch_back _ stack = tt

  back : (part : Pending) (first : Item) (stack : List Pending) → Back part first stack (move part first)
  back (pieces at) first stack = piece_back at first stack
  back operator (token.Redirect how from) stack = λ rest o.
      let (left, ((kind, (at, (middle, (subs, (same, is_subs))))), o)) = o in
      (left, ((how, (from, (kind, (at, (middle, (subs, (ap (λ i. token.Redirect how from ∷ i) same, is_subs))))))), o))
  back operator _ stack = tt
  back target (token.Word kind at) stack = λ rest o.
      let (left, ((subs, is_subs), o)) = o in (left, ((kind, (at, (rest, (subs, (refl, is_subs))))), o))
  back target _ stack = tt
  back substitutions (token.SubOpen at) stack = λ less rest o.
      let (middle, ((list, is_list), (behind, (same, (left, ((subs, is_subs), o)))))) = o in
      (left, ((sub list subs, g.next_sub less (subst (λ m. IsAgain views most (levels stack + 1) rest list m) same is_list) is_subs), o))
  back substitutions _ stack = λ rest. (no_sub, g.last_sub refl)
  back a_pipeline first stack = follow_back a_pipeline first [] stack stuck (λ rest o. o) (pipeline_by first) (λ h. tt) (pipeline_back first stack)
  back a_command first stack = command_back first stack
  back pipes token.Pipe stack = λ rest o.
      let (middle, ((tree, is_tree), (left, ((others, is_others), o)))) = o in (left, ((command tree others, g.pipe is_tree is_others), o))
  back pipes _ stack = λ rest. (no_command, g.last_command refl)
  back next_command first stack = next_command_back first stack
  back joins (token.Join sign) stack = λ rest o.
      let (middle, ((tree, is_tree), (left, ((others, is_others), o)))) = o in (left, ((joined sign tree others, g.join is_tree is_others), o))
  back joins _ stack = λ rest. (none_joined, g.last_pipeline refl)
  back next_pipeline first stack = next_pipeline_back first stack
  back separator token.Semi stack = λ rest o. let (left, ((list, is_list), o)) = o in (left, ((list, g.by_semicolon is_list), o))
  back separator token.Newline stack = λ rest o. let (left, ((list, is_list), o)) = o in (left, ((list, g.by_newline is_list), o))
  back separator _ stack = λ rest. (no_item, g.no_separator refl)
  back again first stack = again_back first stack
  back body first stack = body_back first stack
  back close_brace (token.Word (word.Reserved reserved.CloseBrace) at) stack = λ rest o. (rest, ((at, refl), o))
  back close_brace _ stack = tt
  back close_parenthesis token.Close stack = λ rest o. (rest, (refl, o))
  back close_parenthesis _ stack = tt
  back close_substitution token.SubClose stack = λ rest o. (rest, (refl, o))
  back close_substitution _ stack = tt
  back then_body (token.Word (word.Reserved reserved.Then) at) stack = λ rest o.
      let (behind, ((list, is_list), (left, ((others, (otherwise, is_others)), o)))) = o in
      (left, ((at, (rest, (list, (behind, (refl, (is_list, (others, (otherwise, is_others)))))))), o))
  back then_body _ stack = tt
  back branches first stack = branch_back first stack
  back end_if (token.Word (word.Reserved reserved.Fi) at) stack = λ rest o. (rest, ((at, refl), o))
  back end_if _ stack = tt
  back do_body (token.Word (word.Reserved reserved.Do) at) stack = λ rest o.
      let (left, (end_body, o)) = loop_owed stack rest o in (left, ((at, (rest, (refl, end_body))), o))
  back do_body _ stack = tt
  back end_loop (token.Word (word.Reserved reserved.Done) at) stack = λ rest o. (rest, ((at, refl), o))
  back end_loop _ stack = tt
  back loop_name (token.Word kind at) stack = name_back kind at stack (is_name kind) refl
  back loop_name _ stack = tt
  back loop_head (token.Word (word.Reserved reserved.Do) at) stack = λ rest o.
      let (left, (end_body, o)) = loop_owed stack rest o in (left, ((no_in, (rest, (g.head_do, end_body))), o))
  back loop_head (token.Word word.In at) stack = λ rest o.
      let (middle, ((among, is_among), (left, ((behind, (is_separator, end_body)), o)))) = o in
      (left, ((in_words (words_of (gathered views no_piece among)), (behind, (g.head_in is_among is_separator, end_body))), o))
  back loop_head token.Newline stack = λ rest o.
      let (left, ((among, (behind, (is_lines, end_body))), o)) = o in (left, ((among, (behind, (g.head_newline is_lines, end_body))), o))
  back loop_head token.Semi stack = λ rest o.
      let (left, ((behind, (is_do, end_body)), o)) = o in (left, ((no_in, (behind, (g.head_semicolon is_do, end_body))), o))
  back loop_head _ stack = tt
  back loop_lines (token.Word (word.Reserved reserved.Do) at) stack = λ rest o.
      let (left, (end_body, o)) = loop_owed stack rest o in (left, ((no_in, (rest, (g.lines_do, end_body))), o))
  back loop_lines (token.Word word.In at) stack = λ rest o.
      let (middle, ((among, is_among), (left, ((behind, (is_separator, end_body)), o)))) = o in
      (left, ((in_words (words_of (gathered views no_piece among)), (behind, (g.lines_in is_among is_separator, end_body))), o))
  back loop_lines token.Newline stack = λ rest o.
      let (left, ((among, (behind, (is_lines, end_body))), o)) = o in (left, ((among, (behind, (g.lines_newline is_lines, end_body))), o))
  back loop_lines _ stack = tt
  back loop_separator token.Semi stack = λ rest o.
      let (left, ((behind, (is_do, end_body)), o)) = o in (left, ((behind, (g.semicolon_do is_do, end_body)), o))
  back loop_separator token.Newline stack = λ rest o.
      let (left, ((behind, (is_do, end_body)), o)) = o in (left, ((behind, (g.newline_do is_do, end_body)), o))
  back loop_separator _ stack = tt
  back loop_do token.Newline stack = λ rest o.
      let (left, ((behind, (is_do, end_body)), o)) = o in (left, ((behind, (g.loop_newline is_do, end_body)), o))
  back loop_do (token.Word (word.Reserved reserved.Do) at) stack = λ rest o.
      let (left, (end_body, o)) = loop_owed stack rest o in (left, ((rest, (g.loop_do, end_body)), o))
  back loop_do _ stack = tt

  -- what a step says of the rules
  abbrev pub BackNext : List Pending → Item → Next → Type 0
  BackNext stack first (goes behind) = (rest : List Item) → Owed behind rest → Owed stack (first ∷ rest)
  BackNext stack first (deeper behind) = levels behind ≤ most → (rest : List Item) → Owed behind rest → Owed stack (first ∷ rest)
  BackNext stack first fails = Unit {0}

  skipped_back : (part : Pending) (first : Item) (stack : List Pending) → ((rest : List Item) → Is part (levels stack) (first ∷ rest) (first ∷ rest))
      → (next : Next) → BackNext stack first next → BackNext (part ∷ stack) first next
  skipped_back part first stack none (goes behind) owed = λ rest o. (first ∷ rest, (none rest, owed rest o))
  skipped_back part first stack none (deeper behind) owed = λ less rest o. (first ∷ rest, (none rest, owed less rest o))
  skipped_back part first stack none fails owed = tt

  moved_back : (part : Pending) (first : Item) (stack : List Pending) (m : Move) → Back part first stack m
      → (next : Next) → BackNext stack first next → BackNext (part ∷ stack) first (moved m stack next)
  moved_back part first stack (push parts) owed next behind = owed
  moved_back part first stack (opens parts) owed next behind = owed
  moved_back part first stack skip owed next behind = skipped_back part first stack owed next behind
  moved_back part first stack stuck owed next behind = tt

  step_back : (stack : List Pending) (first : Item) → BackNext stack first (step stack first)
  step_back [] first = tt
  step_back (part ∷ stack) first = moved_back part first stack (move part first) (back part first stack) (step stack first) (step_back stack first)

  may_end_rest : (part : Pending) (stack : List Pending) → may_end (part ∷ stack) ≡ true → (is_option part ≡ true) × (may_end stack ≡ true)
  may_end_rest part stack h = both (is_option part) (may_end stack) h
    where
      both : (one other : Bool) → cond one other false ≡ true → (one ≡ true) × (other ≡ true)
      both true other h = (refl, h)
      both false other h = absurd (true_false (sym h))

  left_at_end : (part : Pending) (depth : ℕ) → is_option part ≡ true → Is part depth [] []
  left_at_end (pieces at) depth h = ([], g.last_piece tt)
  left_at_end substitutions depth h = (no_sub, g.last_sub tt)
  left_at_end pipes depth h = (no_command, g.last_command tt)
  left_at_end joins depth h = (none_joined, g.last_pipeline tt)
  left_at_end separator depth h = (no_item, g.no_separator tt)
  left_at_end again depth h = (no_item, g.no_list tt)
  left_at_end _ depth h = absurd (true_false (sym h))

  ends : (stack : List Pending) → may_end stack ≡ true → Owed stack []
  ends [] h = refl
  ends (part ∷ stack) h = let both = may_end_rest part stack h in ([], (left_at_end part (levels stack) both.0, ends stack both.1))

  end_fine : (test : Bool) → cond test fine (bad 0) ≡ fine → test ≡ true
  end_fine true h = refl
  end_fine false h = cc

  fits_fine : (test : Bool) (rest : Verdict) (left : ℕ) → cond test rest (deep left) ≡ fine → (test ≡ true) × (rest ≡ fine)
  fits_fine true rest left h = (refl, h)
  fits_fine false rest left h = cc

  behind : (stack : List Pending) (first : Item) (rest : List Item) (left : ℕ) (next : Next) → BackNext stack first next
      → ((after : List Pending) → verdict most rest after ≡ fine → Owed after rest)
      → verdict_behind most left (verdict most rest) next ≡ fine → Owed stack (first ∷ rest)
  behind stack first rest left (goes after) owed more h = owed rest (more after h)
  behind stack first rest left (deeper after) owed more h =
      let both = fits_fine (nat_le (levels after) most) (verdict most rest after) left h in
      owed (leb-true (levels after) most both.0) rest (more after both.1)
  behind stack first rest left fails owed more h = cc

  pub backs : (items : List Item) (stack : List Pending) → verdict most items stack ≡ fine → Owed stack items
  backs [] stack h = ends stack (end_fine (may_end stack) h)
  backs (first ∷ rest) stack h = behind stack first rest (length rest + 1) (step stack first) (step_back stack first) (backs rest) h
