use Rattle.sh_tree.specs.Views.{script_tree}
use Rattle.sh_eval.specs.declared.flows.Flow.TheVariants as flow
use Rattle.sh_eval.specs.declared.outcomes.How.TheVariants as how
use Rattle.sh_eval.specs.Contract.{faults_of, point_of, seen_of, drawn_of}
use Rattle.sh_eval.specs.Meaning.{script_means}
use Rattle.sh_eval.specs.Table.{pages}
use Rattle.sh_eval.proofs.ScriptSteps.{begun-sound, script-kept, script-leaves, script-none, script-some}
use Rattle.sh_eval.proofs.top.run_begun.Goals as goal

pub eval_list-requires-clause-sound : goal.eval_list-requires-clause-sound
eval_list-requires-clause-sound g c κs outlive = begun-sound _ (g.T.Tree.state c.args.tree.now) c.begun-session.ensures c.requires.whole

pub returns-in-Some : goal.returns-in-Some
returns-in-Some g c =
    record {
      meaning = script-leaves (λ expansions. script_means expansions pages (script_tree c.args.script.now)) _ _ _ _ _ _ _ c.begun-session.ensures (script-some c.args.script.now _ _ _ _ c.in-Some.is c.eval_list.ensures);
      kept = script-kept (λ expansions. script_means expansions pages (script_tree c.args.script.now)) _ _ _ _ _ _ _ c.begun-session.ensures (script-some c.args.script.now _ _ _ _ c.in-Some.is c.eval_list.ensures);
      whole = λ gone. (c.eval_list.ensures.keeps gone).whole c.requires.whole;
      cause = c.eval_list.ensures.cause;
      lent = c.eval_list.ensures.lent;
    }

pub returns-clause-meaning : goal.returns-clause-meaning
returns-clause-meaning g c =
    script-leaves (λ expansions. script_means expansions pages (script_tree c.args.script.now)) c.args.shell.now c.begun-session.result (g.T.Tree.state c.args.tree.now) (seen_of (drawn_of (g.I.Source.left c.args.input) (g.X.Engine.used c.args.engine.now)) (g.O.Sink.taken c.args.out) (g.E.Sink.taken c.args.err.now)) (faults_of (g.I.Source.faults c.args.input) (g.O.Sink.faults c.args.out) (g.E.Sink.faults c.args.err.now) (g.T.Tree.faults c.args.tree.now))
    (how.Gone flow.On) (point_of c.args.shell.now c.begun-session.result (g.T.Tree.state c.args.tree.now) (seen_of (drawn_of (g.I.Source.left c.args.input) (g.X.Engine.used c.args.engine.now)) (g.O.Sink.taken c.args.out) (g.E.Sink.taken c.args.err.now)) (faults_of (g.I.Source.faults c.args.input) (g.O.Sink.faults c.args.out) (g.E.Sink.faults c.args.err.now) (g.T.Tree.faults c.args.tree.now))) c.begun-session.ensures (script-none c.args.script.now _ c.in-None.is)

pub returns-clause-kept : goal.returns-clause-kept
returns-clause-kept g c =
    script-kept (λ expansions. script_means expansions pages (script_tree c.args.script.now)) c.args.shell.now c.begun-session.result (g.T.Tree.state c.args.tree.now) (seen_of (drawn_of (g.I.Source.left c.args.input) (g.X.Engine.used c.args.engine.now)) (g.O.Sink.taken c.args.out) (g.E.Sink.taken c.args.err.now)) (faults_of (g.I.Source.faults c.args.input) (g.O.Sink.faults c.args.out) (g.E.Sink.faults c.args.err.now) (g.T.Tree.faults c.args.tree.now))
    (how.Gone flow.On) (point_of c.args.shell.now c.begun-session.result (g.T.Tree.state c.args.tree.now) (seen_of (drawn_of (g.I.Source.left c.args.input) (g.X.Engine.used c.args.engine.now)) (g.O.Sink.taken c.args.out) (g.E.Sink.taken c.args.err.now)) (faults_of (g.I.Source.faults c.args.input) (g.O.Sink.faults c.args.out) (g.E.Sink.faults c.args.err.now) (g.T.Tree.faults c.args.tree.now))) c.begun-session.ensures (script-none c.args.script.now _ c.in-None.is)
