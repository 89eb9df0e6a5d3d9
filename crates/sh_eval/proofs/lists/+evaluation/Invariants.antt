use Rattle.std.proofs.Common.{drop, length, ◌≡◌, ◌≤◌, ◌-◌, ◌+◌, ◌*◌}
use Rattle.sh_tree.specs.Views.{command_tree, items_tree, joined_tree, stages_tree, subs_tree}
use Rattle.sh_eval.specs.Commands.{all_turns, most_turns}
use Rattle.sh_eval.specs.Inner.Bodies.{body_means, rounds_mean, turn_means}
use Rattle.ps_lines.specs.Texts.{texts_of}
use Rattle.sh_eval.specs.declared.outcomes.How.{How}
use Rattle.sh_eval.specs.Contract.{Evaluates, IsSound, Point, point_of, seen_of, faults_of, drawn_of}
use Rattle.sh_eval.specs.Meaning.{list_means, joined_means, stages_means, subs_mean}
use Rattle.sh_eval.specs.Table.{pages}
use Rattle.sh_eval.specs.Inner.Staging.{rest_means}
use Rattle.sh_eval.proofs.CommandSteps.{if_rest}
use Rattle.sh_eval.proofs.lists.+evaluation.Given as goal

-- what comes of the and-or lists that are left comes of all
abbrev pub invariant-eval_items-loop-item : goal.invariant-eval_items-loop-item
invariant-eval_items-loop-item g l = record {
  rest : (came : How) (new : Point)
      → Evaluates (λ expansions. list_means expansions pages (items_tree (drop l.item-index l.fn.items)))
      (point_of l.shell l.session (g.T.Tree.state l.tree) (seen_of (drawn_of (g.I.Source.left l.input) (g.X.Engine.used l.engine)) (g.O.Sink.taken l.out) (g.E.Sink.taken l.err)) (faults_of (g.I.Source.faults l.input) (g.O.Sink.faults l.out) (g.E.Sink.faults l.err) (g.T.Tree.faults l.tree))) came new
      → Evaluates (λ expansions. list_means expansions pages (items_tree l.fn.items))
      (point_of l.fn.shell l.fn.session (g.T.Tree.state l.fn.tree) (seen_of (drawn_of (g.I.Source.left l.fn.input) (g.X.Engine.used l.fn.engine)) (g.O.Sink.taken l.fn.out) (g.E.Sink.taken l.fn.err)) (faults_of (g.I.Source.faults l.fn.input) (g.O.Sink.faults l.fn.out) (g.E.Sink.faults l.fn.err) (g.T.Tree.faults l.fn.tree))) came new;
  sound : IsSound l.session (g.T.Tree.state l.tree);
}

-- what comes of the pipelines that are left comes of all
abbrev pub invariant-eval_joined-loop-join : goal.invariant-eval_joined-loop-join
invariant-eval_joined-loop-join g l = record {
  rest : (came : How) (new : Point)
      → Evaluates (λ expansions. joined_means expansions pages (joined_tree (drop l.join-index l.fn.rest)))
      (point_of l.shell l.session (g.T.Tree.state l.tree) (seen_of (drawn_of (g.I.Source.left l.input) (g.X.Engine.used l.engine)) (g.O.Sink.taken l.out) (g.E.Sink.taken l.err)) (faults_of (g.I.Source.faults l.input) (g.O.Sink.faults l.out) (g.E.Sink.faults l.err) (g.T.Tree.faults l.tree))) came new
      → Evaluates (λ expansions. joined_means expansions pages (joined_tree l.fn.rest))
      (point_of l.fn.shell l.fn.session (g.T.Tree.state l.fn.tree) (seen_of (drawn_of (g.I.Source.left l.fn.input) (g.X.Engine.used l.fn.engine)) (g.O.Sink.taken l.fn.out) (g.E.Sink.taken l.fn.err)) (faults_of (g.I.Source.faults l.fn.input) (g.O.Sink.faults l.fn.out) (g.E.Sink.faults l.fn.err) (g.T.Tree.faults l.fn.tree))) came new;
  sound : IsSound l.session (g.T.Tree.state l.tree);
}

-- what comes of the stages that are left comes of all
abbrev pub invariant-eval_several-loop-place : goal.invariant-eval_several-loop-place
invariant-eval_several-loop-place g l = record {
  within : l.place ≤ length l.fn.stages;
  rest : (came : How) (new : Point)
      → Evaluates (λ expansions. rest_means expansions l.place (drop l.place l.fn.stages))
      (point_of l.shell l.session (g.T.Tree.state l.tree) (seen_of (drawn_of (g.I.Source.left l.input) (g.X.Engine.used l.engine)) (g.O.Sink.taken l.out) (g.E.Sink.taken l.err)) (faults_of (g.I.Source.faults l.input) (g.O.Sink.faults l.out) (g.E.Sink.faults l.err) (g.T.Tree.faults l.tree))) came new
      → Evaluates (λ expansions. stages_means expansions pages (stages_tree l.fn.stages))
      (point_of l.fn.shell l.fn.session (g.T.Tree.state l.fn.tree) (seen_of (drawn_of (g.I.Source.left l.fn.input) (g.X.Engine.used l.fn.engine)) (g.O.Sink.taken l.fn.out) (g.E.Sink.taken l.fn.err)) (faults_of (g.I.Source.faults l.fn.input) (g.O.Sink.faults l.fn.out) (g.E.Sink.faults l.fn.err) (g.T.Tree.faults l.fn.tree))) came new;
  sound : IsSound l.session (g.T.Tree.state l.tree);
}

abbrev pub decreases-eval_several-loop-place : goal.decreases-eval_several-loop-place
decreases-eval_several-loop-place g l = length l.fn.stages - l.place

-- what comes of the substitutions that are left comes of all
abbrev pub invariant-eval_subs-loop-list : goal.invariant-eval_subs-loop-list
invariant-eval_subs-loop-list g l = record {
  rest : (came : How) (new : Point)
      → Evaluates (λ expansions. subs_mean expansions pages (subs_tree (drop l.list-index l.fn.subs)))
      (point_of l.shell l.session (g.T.Tree.state l.tree) (seen_of (drawn_of (g.I.Source.left l.input) (g.X.Engine.used l.engine)) (g.O.Sink.taken l.out) (g.E.Sink.taken l.err)) (faults_of (g.I.Source.faults l.input) (g.O.Sink.faults l.out) (g.E.Sink.faults l.err) (g.T.Tree.faults l.tree))) came new
      → Evaluates (λ expansions. subs_mean expansions pages (subs_tree l.fn.subs))
      (point_of l.fn.shell l.fn.session (g.T.Tree.state l.fn.tree) (seen_of (drawn_of (g.I.Source.left l.fn.input) (g.X.Engine.used l.fn.engine)) (g.O.Sink.taken l.fn.out) (g.E.Sink.taken l.fn.err)) (faults_of (g.I.Source.faults l.fn.input) (g.O.Sink.faults l.fn.out) (g.E.Sink.faults l.fn.err) (g.T.Tree.faults l.fn.tree))) came new;
  sound : IsSound l.session (g.T.Tree.state l.tree);
}

-- what comes of the branches that are left comes of all
abbrev pub invariant-eval_if-loop-branch : goal.invariant-eval_if-loop-branch
invariant-eval_if-loop-branch g l = record {
  rest : (came : How) (new : Point)
      → Evaluates (if_rest (drop l.branch-index l.branch-items) l.otherwise)
      (point_of l.shell l.session (g.T.Tree.state l.tree) (seen_of (drawn_of (g.I.Source.left l.input) (g.X.Engine.used l.engine)) (g.O.Sink.taken l.out) (g.E.Sink.taken l.err)) (faults_of (g.I.Source.faults l.input) (g.O.Sink.faults l.out) (g.E.Sink.faults l.err) (g.T.Tree.faults l.tree))) came new
      → Evaluates (λ expansions. body_means expansions pages (command_tree l.fn.command))
      (point_of l.fn.shell l.fn.session (g.T.Tree.state l.fn.tree) (seen_of (drawn_of (g.I.Source.left l.fn.input) (g.X.Engine.used l.fn.engine)) (g.O.Sink.taken l.fn.out) (g.E.Sink.taken l.fn.err)) (faults_of (g.I.Source.faults l.fn.input) (g.O.Sink.faults l.fn.out) (g.E.Sink.faults l.fn.err) (g.T.Tree.faults l.fn.tree))) came new;
  sound : IsSound l.session (g.T.Tree.state l.tree);
}

-- what comes of the turns that are left comes of all
abbrev pub invariant-eval_turns-loop-session : goal.invariant-eval_turns-loop-session
invariant-eval_turns-loop-session g l = record {
  rest : (came : How) (new : Point)
      → Evaluates (λ expansions. all_turns (turn_means expansions pages (command_tree l.fn.command)))
      (point_of l.shell l.session (g.T.Tree.state l.tree) (seen_of (drawn_of (g.I.Source.left l.input) (g.X.Engine.used l.engine)) (g.O.Sink.taken l.out) (g.E.Sink.taken l.err)) (faults_of (g.I.Source.faults l.input) (g.O.Sink.faults l.out) (g.E.Sink.faults l.err) (g.T.Tree.faults l.tree))) came new
      → Evaluates (λ expansions. all_turns (turn_means expansions pages (command_tree l.fn.command)))
      (point_of l.fn.shell l.fn.session (g.T.Tree.state l.fn.tree) (seen_of (drawn_of (g.I.Source.left l.fn.input) (g.X.Engine.used l.fn.engine)) (g.O.Sink.taken l.fn.out) (g.E.Sink.taken l.fn.err)) (faults_of (g.I.Source.faults l.fn.input) (g.O.Sink.faults l.fn.out) (g.E.Sink.faults l.fn.err) (g.T.Tree.faults l.fn.tree))) came new;
  sound : IsSound l.session (g.T.Tree.state l.tree);
}

abbrev pub decreases-eval_turns-loop-session : goal.decreases-eval_turns-loop-session
decreases-eval_turns-loop-session g l = most_turns - l.session.turns

-- what comes of the rounds that are left comes of all
abbrev pub invariant-eval_rounds-loop-field : goal.invariant-eval_rounds-loop-field
invariant-eval_rounds-loop-field g l = record {
  rest : (came : How) (new : Point)
      → Evaluates (λ expansions. rounds_mean expansions pages (command_tree l.fn.command) (texts_of (drop l.field-index l.fn.fields)))
      (point_of l.shell l.session (g.T.Tree.state l.tree) (seen_of (drawn_of (g.I.Source.left l.input) (g.X.Engine.used l.engine)) (g.O.Sink.taken l.out) (g.E.Sink.taken l.err)) (faults_of (g.I.Source.faults l.input) (g.O.Sink.faults l.out) (g.E.Sink.faults l.err) (g.T.Tree.faults l.tree))) came new
      → Evaluates (λ expansions. rounds_mean expansions pages (command_tree l.fn.command) (texts_of l.fn.fields))
      (point_of l.fn.shell l.fn.session (g.T.Tree.state l.fn.tree) (seen_of (drawn_of (g.I.Source.left l.fn.input) (g.X.Engine.used l.fn.engine)) (g.O.Sink.taken l.fn.out) (g.E.Sink.taken l.fn.err)) (faults_of (g.I.Source.faults l.fn.input) (g.O.Sink.faults l.fn.out) (g.E.Sink.faults l.fn.err) (g.T.Tree.faults l.fn.tree))) came new;
  sound : IsSound l.session (g.T.Tree.state l.tree);
}

-- A function's measure: the depth of its tree, and where a call hands the tree on whole, the place in that order
abbrev pub decreases-eval_list : goal.decreases-eval_list
decreases-eval_list g l = 10 * goal.size-eval_list g l + 0

abbrev pub decreases-eval_subshell : goal.decreases-eval_subshell
decreases-eval_subshell g l = 10 * goal.size-eval_subshell g l + 1

abbrev pub decreases-eval_loop_body : goal.decreases-eval_loop_body
decreases-eval_loop_body g l = 10 * goal.size-eval_loop_body g l + 1

abbrev pub decreases-eval_substituted : goal.decreases-eval_substituted
decreases-eval_substituted g l = 10 * goal.size-eval_substituted g l + 1

abbrev pub decreases-eval_substitution : goal.decreases-eval_substitution
decreases-eval_substitution g l = 10 * goal.size-eval_substitution g l + 2

abbrev pub decreases-eval_condition : goal.decreases-eval_condition
decreases-eval_condition g l = 10 * goal.size-eval_condition g l + 1

abbrev pub decreases-eval_branch : goal.decreases-eval_branch
decreases-eval_branch g l = 10 * goal.size-eval_branch g l + 1

abbrev pub decreases-eval_and_or : goal.decreases-eval_and_or
decreases-eval_and_or g l = 10 * goal.size-eval_and_or g l + 0

abbrev pub decreases-eval_items : goal.decreases-eval_items
decreases-eval_items g l = 10 * goal.size-eval_items g l + 1

abbrev pub decreases-eval_pipeline : goal.decreases-eval_pipeline
decreases-eval_pipeline g l = 10 * goal.size-eval_pipeline g l + 0

abbrev pub decreases-eval_next : goal.decreases-eval_next
decreases-eval_next g l = 10 * goal.size-eval_next g l + 1

abbrev pub decreases-eval_joined : goal.decreases-eval_joined
decreases-eval_joined g l = 10 * goal.size-eval_joined g l + 2

abbrev pub decreases-eval_simple : goal.decreases-eval_simple
decreases-eval_simple g l = 10 * goal.size-eval_simple g l + 0

abbrev pub decreases-eval_tail : goal.decreases-eval_tail
decreases-eval_tail g l = 10 * goal.size-eval_tail g l + 0

abbrev pub decreases-eval_while_turn : goal.decreases-eval_while_turn
decreases-eval_while_turn g l = 10 * goal.size-eval_while_turn g l + 0

abbrev pub decreases-eval_until_turn : goal.decreases-eval_until_turn
decreases-eval_until_turn g l = 10 * goal.size-eval_until_turn g l + 0

abbrev pub decreases-eval_turn : goal.decreases-eval_turn
decreases-eval_turn g l = 10 * goal.size-eval_turn g l + 1

abbrev pub decreases-eval_turns : goal.decreases-eval_turns
decreases-eval_turns g l = 10 * goal.size-eval_turns g l + 2

abbrev pub decreases-eval_while : goal.decreases-eval_while
decreases-eval_while g l = 10 * goal.size-eval_while g l + 3

abbrev pub decreases-eval_round : goal.decreases-eval_round
decreases-eval_round g l = 10 * goal.size-eval_round g l + 0

abbrev pub decreases-eval_rounds : goal.decreases-eval_rounds
decreases-eval_rounds g l = 10 * goal.size-eval_rounds g l + 1

abbrev pub decreases-eval_for_over : goal.decreases-eval_for_over
decreases-eval_for_over g l = 10 * goal.size-eval_for_over g l + 2

abbrev pub decreases-eval_for : goal.decreases-eval_for
decreases-eval_for g l = 10 * goal.size-eval_for g l + 3

abbrev pub decreases-eval_if : goal.decreases-eval_if
decreases-eval_if g l = 10 * goal.size-eval_if g l + 0

abbrev pub decreases-eval_body : goal.decreases-eval_body
decreases-eval_body g l = 10 * goal.size-eval_body g l + 4

abbrev pub decreases-eval_command : goal.decreases-eval_command
decreases-eval_command g l = 10 * goal.size-eval_command g l + 5

abbrev pub decreases-eval_stage : goal.decreases-eval_stage
decreases-eval_stage g l = 10 * goal.size-eval_stage g l + 6

abbrev pub decreases-eval_front : goal.decreases-eval_front
decreases-eval_front g l = 10 * goal.size-eval_front g l + 7

abbrev pub decreases-eval_several : goal.decreases-eval_several
decreases-eval_several g l = 10 * goal.size-eval_several g l + 8

abbrev pub decreases-eval_stages : goal.decreases-eval_stages
decreases-eval_stages g l = 10 * goal.size-eval_stages g l + 9

abbrev pub decreases-eval_subs : goal.decreases-eval_subs
decreases-eval_subs g l = 10 * goal.size-eval_subs g l + 3
