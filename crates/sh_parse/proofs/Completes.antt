-- Every stack that steps make can be completed: each part by its shortest ending.
use Rattle.std.proofs.Common.{◌≡◌, ℕ, Bool, true, false, List, [], ◌∷◌, ◌++◌, cond, refl, sym, subst, append_assoc, Option, Some, None}
use Rattle.sh_parse.specs.Places.{used, redirects, is_name}
use Rattle.sh_parse.specs.Inner.Owed.{Pending, Move, Next, pieces, a_pipeline, a_command, pipes, next_command, joins, next_pipeline, separator, again, body, close_brace, close_parenthesis, close_substitution, then_body, branches, end_if, do_body, end_loop, loop_name, loop_head, loop_lines, loop_separator, loop_do, operator, target, substitutions, push, opens, skip, stuck, move, moved, step, verdict, goes, deeper, fails, fine, word_by, redirection_by, piece_by, needed, branch_by, command_by, pipeline_by, followed}
use Rattle.sh_parse.specs.declared.items.Item.{Item}
use Rattle.sh_parse.specs.declared.items.Item.TheVariants as token
use Rattle.sh_parse.specs.declared.items.WordKind.TheVariants as word
use Rattle.sh_parse.specs.declared.items.Reserved as reserved_word
use Rattle.sh_parse.specs.declared.items.Reserved.TheVariants as reserved
use Rattle.sh_parse.specs.declared.pieces.Slot.{Slot}
use Rattle.sh_parse.specs.declared.pieces.Slot.TheVariants as place
use Rattle.sh_parse.specs.declared.pieces.Use.{Use}
use Rattle.sh_parse.specs.declared.pieces.Use.TheVariants as use_as
use Rattle.sh_tree.specs.declared.commands.How.TheVariants as how

-- what may stand at a place of a stack
pub data Sort : Type 0 where
  anything : Sort
  piping : Sort
  joining : Sort
  separating : Sort
  closing : Sort
  substituting : Sort
  piecing : Sort
  pieces_end : Sort

-- what must stand behind a part
abbrev pub behind : Pending → Sort
behind (pieces at) = pieces_end
behind operator = piecing
behind target = piecing
behind substitutions = piecing
behind a_pipeline = joining
behind a_command = piping
behind pipes = joining
behind next_command = piping
behind joins = separating
behind next_pipeline = joining
behind separator = closing
behind again = closing
behind body = closing
behind close_substitution = substituting
behind _ = piecing

-- the parts that may stand there
abbrev pub stands : Sort → Pending → Bool
stands anything _ = true
stands piping pipes = true
stands piping _ = false
stands joining joins = true
stands joining _ = false
stands separating separator = true
stands separating _ = false
stands closing close_brace = true
stands closing close_parenthesis = true
stands closing close_substitution = true
stands closing then_body = true
stands closing branches = true
stands closing end_if = true
stands closing do_body = true
stands closing end_loop = true
stands closing _ = false
stands substituting substitutions = true
stands substituting _ = false
stands piecing (pieces at) = true
stands piecing _ = false
stands pieces_end pipes = true
stands pieces_end loop_separator = true
stands pieces_end _ = false

abbrev pub may_be_last : Sort → Bool
may_be_last anything = true
may_be_last closing = true
may_be_last _ = false

abbrev pub If : Bool → Type 0 → Type 0
If true claim = claim
If false claim = ⊥

abbrev pub Sound : Sort → List Pending → Type 0
Sound sort [] = If (may_be_last sort) (Unit {0})
Sound sort (part ∷ stack) = If (stands sort part) (Sound (behind part) stack)

part_of : (test : Bool) (claim : Type 0) → If test claim → claim
part_of true claim h = h
part_of false claim h = absurd h

pub any_sound : (sort : Sort) (stack : List Pending) → Sound sort stack → Sound anything stack
any_sound sort [] h = tt
any_sound sort (part ∷ stack) h = part_of (stands sort part) (Sound (behind part) stack) h

pub pipes_end : (stack : List Pending) → Sound piping stack → Sound pieces_end stack
pipes_end [] h = h
pipes_end (pipes ∷ stack) h = h
pipes_end (_ ∷ stack) h = absurd h

-- a move keeps a stack sound
abbrev pub Keeps : Pending → List Pending → Move → Type 0
Keeps part stack (push parts) = Sound (behind part) stack → Sound anything (parts ++ stack)
Keeps part stack (opens parts) = Sound (behind part) stack → Sound anything (parts ++ stack)
Keeps part stack skip = Sound (behind part) stack → Sound anything stack
Keeps part stack stuck = Unit {0}

word_keeps : (at : Slot) (stack : List Pending) (u : Use) → Keeps (pieces at) stack (word_by u)
word_keeps at stack use_as.Assigned = λ h. h
word_keeps at stack (use_as.Given place) = λ h. h
word_keeps at stack use_as.Unused = λ h. any_sound pieces_end stack h

number_keeps : (at : Slot) (stack : List Pending) (o : Option Slot) → Keeps (pieces at) stack (redirection_by operator o)
number_keeps at stack None = λ h. any_sound pieces_end stack h
number_keeps at stack (Some place) = λ h. h

redirect_keeps : (at : Slot) (stack : List Pending) (o : Option Slot) → Keeps (pieces at) stack (redirection_by target o)
redirect_keeps at stack None = λ h. any_sound pieces_end stack h
redirect_keeps at stack (Some place) = λ h. h

piece_keeps : (at : Slot) (first : Item) (stack : List Pending) → Keeps (pieces at) stack (piece_by at first)
piece_keeps at (token.Word kind span) stack = word_keeps at stack (used at kind)
piece_keeps at (token.IoNumber number from) stack = number_keeps at stack (redirects at)
piece_keeps at (token.Redirect how from) stack = redirect_keeps at stack (redirects at)
piece_keeps at _ stack = λ h. any_sound pieces_end stack h

needed_keeps : (at : Slot) (stack : List Pending) (m : Move) → Keeps (pieces at) stack m → Keeps a_command stack (needed m)
needed_keeps at stack (push parts) keeps = λ h. keeps (pipes_end stack h)
needed_keeps at stack (opens parts) keeps = λ h. keeps (pipes_end stack h)
needed_keeps at stack skip keeps = tt
needed_keeps at stack stuck keeps = tt

command_keeps : (first : Item) (stack : List Pending) → Keeps a_command stack (command_by first)
command_keeps (token.Word (word.Reserved reserved.OpenBrace) at) stack = λ h. pipes_end stack h
command_keeps (token.Word (word.Reserved reserved.If) at) stack = λ h. pipes_end stack h
command_keeps (token.Word (word.Reserved reserved.While) at) stack = λ h. pipes_end stack h
command_keeps (token.Word (word.Reserved reserved.Until) at) stack = λ h. pipes_end stack h
command_keeps (token.Word (word.Reserved reserved.For) at) stack = λ h. pipes_end stack h
command_keeps (token.Word (word.Reserved _) at) stack = tt
command_keeps (token.Word word.In at) stack = λ h. pipes_end stack h
command_keeps (token.Word word.Name at) stack = λ h. pipes_end stack h
command_keeps (token.Word word.Assign at) stack = λ h. pipes_end stack h
command_keeps (token.Word word.Other at) stack = λ h. pipes_end stack h
command_keeps (token.IoNumber number from) stack = λ h. pipes_end stack h
command_keeps (token.Redirect how from) stack = λ h. pipes_end stack h
command_keeps (token.Open at) stack = λ h. pipes_end stack h
command_keeps _ stack = tt

-- a pipeline, and what follows it
abbrev pub PipelineKeeps : List Pending → Move → Type 0
PipelineKeeps stack (push parts) = Sound joining stack → Sound anything (parts ++ pipes ∷ stack)
PipelineKeeps stack (opens parts) = Sound joining stack → Sound anything (parts ++ pipes ∷ stack)
PipelineKeeps stack skip = Unit {0}
PipelineKeeps stack stuck = Unit {0}

plain_keeps : (stack : List Pending) (m : Move) → Keeps a_command (pipes ∷ stack) m → PipelineKeeps stack m
plain_keeps stack (push parts) keeps = λ h. keeps h
plain_keeps stack (opens parts) keeps = λ h. keeps h
plain_keeps stack skip keeps = tt
plain_keeps stack stuck keeps = tt

pipeline_keeps : (first : Item) (stack : List Pending) → PipelineKeeps stack (pipeline_by first)
pipeline_keeps (token.Word (word.Reserved reserved.Bang) at) stack = λ h. h
pipeline_keeps first stack = plain_keeps stack (command_by first) (command_keeps first (pipes ∷ stack))

follow_keeps : (part : Pending) (more stack : List Pending) (otherwise : Move) → (Sound (behind part) stack → Sound joining (more ++ stack))
    → Keeps part stack otherwise → (m : Move) → PipelineKeeps (more ++ stack) m → Keeps part stack (followed m (pipes ∷ more) otherwise)
follow_keeps part more stack otherwise whole other (push parts) keeps = λ h.
    subst (λ x. Sound anything x) (sym (append_assoc parts (pipes ∷ more) stack)) (keeps (whole h))
follow_keeps part more stack otherwise whole other (opens parts) keeps = λ h.
    subst (λ x. Sound anything x) (sym (append_assoc parts (pipes ∷ more) stack)) (keeps (whole h))
follow_keeps part more stack otherwise whole other skip keeps = other
follow_keeps part more stack otherwise whole other stuck keeps = other

again_keeps : (first : Item) (stack : List Pending) → Keeps again stack (move again first)
again_keeps token.Newline stack = λ h. h
again_keeps first stack = follow_keeps again (joins ∷ separator ∷ []) stack skip (λ h. h) (λ h. any_sound closing stack h) (pipeline_by first)
    (pipeline_keeps first (joins ∷ separator ∷ stack))

body_keeps : (first : Item) (stack : List Pending) → Keeps body stack (move body first)
body_keeps token.Newline stack = λ h. h
body_keeps first stack = follow_keeps body (joins ∷ separator ∷ []) stack stuck (λ h. h) tt (pipeline_by first)
    (pipeline_keeps first (joins ∷ separator ∷ stack))

next_pipeline_keeps : (first : Item) (stack : List Pending) → Keeps next_pipeline stack (move next_pipeline first)
next_pipeline_keeps token.Newline stack = λ h. h
next_pipeline_keeps first stack = follow_keeps next_pipeline [] stack stuck (λ h. h) tt (pipeline_by first) (pipeline_keeps first stack)

same_keeps : (stack : List Pending) (m : Move) → Keeps a_command stack m → Keeps next_command stack m
same_keeps stack (push parts) keeps = keeps
same_keeps stack (opens parts) keeps = keeps
same_keeps stack skip keeps = keeps
same_keeps stack stuck keeps = tt

next_command_keeps : (first : Item) (stack : List Pending) → Keeps next_command stack (move next_command first)
next_command_keeps token.Newline stack = λ h. h
next_command_keeps first stack = same_keeps stack (command_by first) (command_keeps first stack)

name_keeps : (stack : List Pending) (test : Bool) → Keeps loop_name stack (cond test (push (loop_head ∷ [])) stuck)
name_keeps stack true = λ h. h
name_keeps stack false = tt

branch_keeps : (first : Item) (stack : List Pending) → Keeps branches stack (branch_by first)
branch_keeps (token.Word (word.Reserved reserved.Elif) at) stack = λ h. h
branch_keeps (token.Word (word.Reserved reserved.Else) at) stack = λ h. h
branch_keeps (token.Word (word.Reserved reserved.Fi) at) stack = λ h. any_sound piecing stack h
branch_keeps _ stack = tt

keeps : (part : Pending) (first : Item) (stack : List Pending) → Keeps part stack (move part first)
keeps (pieces at) first stack = piece_keeps at first stack
keeps operator (token.Redirect how from) stack = λ h. h
keeps operator _ stack = tt
keeps target (token.Word kind at) stack = λ h. h
keeps target _ stack = tt
keeps substitutions (token.SubOpen at) stack = λ h. h
keeps substitutions _ stack = λ h. any_sound piecing stack h
keeps a_pipeline first stack = follow_keeps a_pipeline [] stack stuck (λ h. h) tt (pipeline_by first) (pipeline_keeps first stack)
keeps a_command first stack = command_keeps first stack
keeps pipes token.Pipe stack = λ h. h
keeps pipes _ stack = λ h. any_sound joining stack h
keeps next_command first stack = next_command_keeps first stack
keeps joins (token.Join sign) stack = λ h. h
keeps joins _ stack = λ h. any_sound separating stack h
keeps next_pipeline first stack = next_pipeline_keeps first stack
keeps separator token.Semi stack = λ h. h
keeps separator token.Newline stack = λ h. h
keeps separator _ stack = λ h. any_sound closing stack h
keeps again first stack = again_keeps first stack
keeps body first stack = body_keeps first stack
keeps close_brace (token.Word (word.Reserved reserved.CloseBrace) at) stack = λ h. any_sound piecing stack h
keeps close_brace _ stack = tt
keeps close_parenthesis token.Close stack = λ h. any_sound piecing stack h
keeps close_parenthesis _ stack = tt
keeps close_substitution token.SubClose stack = λ h. any_sound substituting stack h
keeps close_substitution _ stack = tt
keeps then_body (token.Word (word.Reserved reserved.Then) at) stack = λ h. h
keeps then_body _ stack = tt
keeps branches first stack = branch_keeps first stack
keeps end_if (token.Word (word.Reserved reserved.Fi) at) stack = λ h. any_sound piecing stack h
keeps end_if _ stack = tt
keeps do_body (token.Word (word.Reserved reserved.Do) at) stack = λ h. h
keeps do_body _ stack = tt
keeps end_loop (token.Word (word.Reserved reserved.Done) at) stack = λ h. any_sound piecing stack h
keeps end_loop _ stack = tt
keeps loop_name (token.Word kind at) stack = name_keeps stack (is_name kind)
keeps loop_name _ stack = tt
keeps loop_head (token.Word (word.Reserved reserved.Do) at) stack = λ h. h
keeps loop_head (token.Word word.In at) stack = λ h. h
keeps loop_head token.Newline stack = λ h. h
keeps loop_head token.Semi stack = λ h. h
keeps loop_head _ stack = tt
keeps loop_lines (token.Word (word.Reserved reserved.Do) at) stack = λ h. h
keeps loop_lines (token.Word word.In at) stack = λ h. h
keeps loop_lines token.Newline stack = λ h. h
keeps loop_lines _ stack = tt
keeps loop_separator token.Semi stack = λ h. h
keeps loop_separator token.Newline stack = λ h. h
keeps loop_separator _ stack = tt
keeps loop_do token.Newline stack = λ h. h
keeps loop_do (token.Word (word.Reserved reserved.Do) at) stack = λ h. h
keeps loop_do _ stack = tt

abbrev pub NextSound : Next → Type 0
NextSound (goes stack) = Sound anything stack
NextSound (deeper stack) = Sound anything stack
NextSound fails = Unit {0}

moved_sound : (part : Pending) (stack : List Pending) (m : Move) (next : Next) → Keeps part stack m → (Sound anything stack → NextSound next)
    → Sound (behind part) stack → NextSound (moved m stack next)
moved_sound part stack (push parts) next keeps rest h = keeps h
moved_sound part stack (opens parts) next keeps rest h = keeps h
moved_sound part stack skip next keeps rest h = rest (keeps h)
moved_sound part stack stuck next keeps rest h = tt

pub step_sound : (stack : List Pending) (first : Item) → Sound anything stack → NextSound (step stack first)
step_sound [] first h = tt
step_sound (part ∷ stack) first h =
    moved_sound part stack (move part first) (step stack first) (keeps part first stack) (step_sound stack first) h

-- the shortest ending of each part
abbrev pub a_word : Item
a_word = token.Word word.Other (record { from = 0; to = 0 })

abbrev pub the_word : reserved_word.Reserved → Item
the_word name = token.Word (word.Reserved name) (record { from = 0; to = 0 })

abbrev pub loop_ending : List Item
loop_ending = the_word reserved.Do ∷ a_word ∷ token.Semi ∷ the_word reserved.Done ∷ []

abbrev pub ending : Pending → List Item
ending operator = token.Redirect how.Read 0 ∷ a_word ∷ []
ending target = a_word ∷ []
ending a_pipeline = a_word ∷ []
ending a_command = a_word ∷ []
ending next_command = a_word ∷ []
ending next_pipeline = a_word ∷ []
ending separator = token.Semi ∷ []
ending body = a_word ∷ token.Semi ∷ []
ending close_brace = the_word reserved.CloseBrace ∷ []
ending close_parenthesis = token.Close ∷ []
ending close_substitution = token.SubClose ∷ []
ending then_body = the_word reserved.Then ∷ a_word ∷ token.Semi ∷ the_word reserved.Fi ∷ []
ending branches = the_word reserved.Fi ∷ []
ending end_if = the_word reserved.Fi ∷ []
ending do_body = loop_ending
ending end_loop = the_word reserved.Done ∷ []
ending loop_name = token.Word word.Name (record { from = 0; to = 0 }) ∷ loop_ending
ending loop_head = loop_ending
ending loop_lines = loop_ending
ending loop_separator = token.Semi ∷ loop_ending
ending loop_do = loop_ending
ending _ = []

abbrev pub finish : List Pending → List Item
finish [] = []
finish (part ∷ stack) = ending part ++ finish stack

module _ (most : ℕ) where
  mutual
    pub completes : (stack : List Pending) → Sound anything stack → verdict most (finish stack) stack ≡ fine
    completes [] h = refl
    completes (pieces at ∷ stack) h = pieces_complete at stack h
    completes (operator ∷ stack) h = subs_complete stack h
    completes (target ∷ stack) h = subs_complete stack h
    completes (substitutions ∷ stack) h = subs_complete stack h
    completes (a_pipeline ∷ stack) h = joins_complete stack h
    completes (a_command ∷ stack) h = named_complete stack (pipes_end stack h)
    completes (pipes ∷ stack) h = joined_complete stack h
    completes (next_command ∷ stack) h = named_complete stack (pipes_end stack h)
    completes (joins ∷ stack) h = separated_complete stack h
    completes (next_pipeline ∷ stack) h = joins_complete stack h
    completes (separator ∷ stack) h = closes_complete stack h
    completes (again ∷ stack) h = closes_complete stack h
    completes (body ∷ stack) h = closes_complete stack h
    completes (close_substitution ∷ stack) h = completes stack (any_sound substituting stack h)
    completes (_ ∷ stack) h = completes stack (any_sound piecing stack h)

    closes_complete : (stack : List Pending) → Sound closing stack → verdict most (finish stack) (again ∷ stack) ≡ fine
    closes_complete [] h = refl
    closes_complete (close_brace ∷ stack) h = completes stack (any_sound piecing stack h)
    closes_complete (close_parenthesis ∷ stack) h = completes stack (any_sound piecing stack h)
    closes_complete (close_substitution ∷ stack) h = completes stack (any_sound substituting stack h)
    closes_complete (then_body ∷ stack) h = completes stack (any_sound piecing stack h)
    closes_complete (branches ∷ stack) h = completes stack (any_sound piecing stack h)
    closes_complete (end_if ∷ stack) h = completes stack (any_sound piecing stack h)
    closes_complete (do_body ∷ stack) h = completes stack (any_sound piecing stack h)
    closes_complete (end_loop ∷ stack) h = completes stack (any_sound piecing stack h)
    closes_complete (_ ∷ stack) h = absurd h

    separated_complete : (stack : List Pending) → Sound separating stack → verdict most (finish stack) (joins ∷ stack) ≡ fine
    separated_complete [] h = absurd h
    separated_complete (separator ∷ stack) h = closes_complete stack h
    separated_complete (_ ∷ stack) h = absurd h

    joined_complete : (stack : List Pending) → Sound joining stack → verdict most (finish stack) (pipes ∷ stack) ≡ fine
    joined_complete [] h = absurd h
    joined_complete (joins ∷ separator ∷ stack) h = closes_complete stack h
    joined_complete (joins ∷ _) h = absurd h
    joined_complete (_ ∷ stack) h = absurd h

    joins_complete : (stack : List Pending) → Sound joining stack
        → verdict most (finish stack) (substitutions ∷ pieces place.BehindName ∷ pipes ∷ stack) ≡ fine
    joins_complete [] h = absurd h
    joins_complete (joins ∷ separator ∷ stack) h = closes_complete stack h
    joins_complete (joins ∷ _) h = absurd h
    joins_complete (_ ∷ stack) h = absurd h

    named_complete : (stack : List Pending) → Sound pieces_end stack
        → verdict most (finish stack) (substitutions ∷ pieces place.BehindName ∷ stack) ≡ fine
    named_complete [] h = absurd h
    named_complete (pipes ∷ joins ∷ separator ∷ stack) h = closes_complete stack h
    named_complete (pipes ∷ joins ∷ _) h = absurd h
    named_complete (pipes ∷ _) h = absurd h
    named_complete (loop_separator ∷ stack) h = completes stack (any_sound piecing stack h)
    named_complete (_ ∷ stack) h = absurd h

    pieces_complete : (at : Slot) (stack : List Pending) → Sound pieces_end stack → verdict most (finish stack) (pieces at ∷ stack) ≡ fine
    pieces_complete at [] h = absurd h
    pieces_complete at (pipes ∷ joins ∷ separator ∷ stack) h = closes_complete stack h
    pieces_complete at (pipes ∷ joins ∷ _) h = absurd h
    pieces_complete at (pipes ∷ _) h = absurd h
    pieces_complete at (loop_separator ∷ stack) h = completes stack (any_sound piecing stack h)
    pieces_complete at (_ ∷ stack) h = absurd h

    subs_complete : (stack : List Pending) → Sound piecing stack → verdict most (finish stack) (substitutions ∷ stack) ≡ fine
    subs_complete [] h = absurd h
    subs_complete (pieces at ∷ pipes ∷ joins ∷ separator ∷ stack) h = closes_complete stack h
    subs_complete (pieces at ∷ pipes ∷ joins ∷ _) h = absurd h
    subs_complete (pieces at ∷ pipes ∷ _) h = absurd h
    subs_complete (pieces at ∷ loop_separator ∷ stack) h = completes stack (any_sound piecing stack h)
    subs_complete (pieces at ∷ _) h = absurd h
    subs_complete (_ ∷ stack) h = absurd h
