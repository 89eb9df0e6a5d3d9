-- Graphs that have run, as runs of commands.
use Rattle.std.proofs.Common.{◌≡◌, ℕ, List, [], Bool, true, false, Option, Some, Result, OnOk, sym, ap, subst, ◌∙◌, inl}
use Rattle.std.specs.Option.{IfSome, option_map}
use Rattle.std.specs.Prelude.{if◌then◌else◌}
use Rattle.ps_world.specs.Files.{Files, NoWriterOut}
use Rattle.ps_world.specs.TreeState.{TreeState}
use Rattle.ps_world.proofs.ToldLemmas.{grew_by_nothing, then_bytes-nil}
use Rattle.fl_graph.specs.declared.graphs.Graph.{Graph}
use Rattle.fl_engines.specs.Logs.{Log}
use Rattle.fl_engines.specs.OwnEnds.{has_input}
use Rattle.fl_commands.specs.Graphs.{Executes}
use Rattle.fl_commands.specs.Runs.{Counts, HasCause, IfDone, counts_of, left_behind}
use Rattle.fl_commands.specs.Writers.{ChangesOnly}
use Rattle.fl_commands.specs.declared.runs.Ended.{Ended}
use Rattle.fl_commands.specs.declared.runs.Ended.TheVariants as ended
use Rattle.sh_eval.specs.Contract.{drawn_of, faults_of, seen_of}
use Rattle.sh_eval.specs.Scripts.{Stopped}
use Rattle.pash.specs.Answers.{finished}
use Rattle.pash.specs.Meaning.{executed, outside_of, run_of}
use Rattle.pash.specs.Runs.{Comes, Point, RunsAs, Stops, graph_came, point_of}
use Rattle.pash.specs.Starts.{as_start, executes}
use Rattle.pash.specs.declared.answers.Outcome.{Outcome}
use Rattle.pash.specs.declared.answers.RunFault.{RunFault}
use Rattle.pash.specs.declared.starts.Start.{Start as ReadStart}
use Rattle.pash.specs.declared.starts.Start.TheVariants as read
use Rattle.pash.proofs.RunLemmas.{told_anyway}

-- what is left of the input where it is told
left-so : (reads : Bool) (input : List ℕ) (left left' : Option (List ℕ)) → left ≡ Some input → left' ≡ left_behind reads left
    → left' ≡ Some (if reads then [] else input)
left-so true input left left' left_is is = is ∙ ap (λ (it : Option (List ℕ)). option_map (λ _. []) it) left_is
left-so false input left left' left_is is = is ∙ left_is

module _ (graph : Graph) (tree tree' : TreeState) (left left' taken taken' errors : Option (List ℕ)) (used used' : Option Log)
    (input output said faults input' output' faults' : ℕ) where
  abbrev Ran : Ended → Type 0
  Ran came = Executes graph tree tree' left left' taken taken' (counts_of input output faults) (counts_of input' output' faults') used used' came

  module _ (files : Files) (text : List ℕ) (held : tree.held ≡ Some files) (left_is : left ≡ Some text) where
    stopped-so : (came : Ended) → Ran came
        → Stopped (seen_of (drawn_of left used) taken errors) (seen_of (drawn_of left' used') taken' errors) (executed graph (outside_of tree.home files text)).world
    stopped-so came ran = record { output = ran.part text files held left_is; errors = grew_by_nothing errors [] }

    comes-so : (came : Ended) → Ran came
        → Comes (executed graph (outside_of tree.home files text)) (graph_came came) tree'.held
        (seen_of (drawn_of left used) taken errors) (seen_of (drawn_of left' used') taken' errors)
    comes-so (ended.Done status) ran =
        record {
          outcome_is = ap finished (ran.status text files held left_is);
          output = ran.output text files held left_is;
          errors = sym (then_bytes-nil errors);
          files = ran.held text files held left_is;
          input = left-so (has_input graph.nodes) text left left' left_is ran.read;
          used = ran.noted;
        }
    comes-so ended.Input ran = stopped-so ended.Input ran
    comes-so ended.Output ran = stopped-so ended.Output ran
    comes-so ended.Tree ran = stopped-so ended.Tree ran
    comes-so ended.Memory ran = stopped-so ended.Memory ran

  whole-so : (came : Ended) → IfDone came (λ status. IfSome tree'.held NoWriterOut) → OnOk (graph_came came) (IfSome tree'.held NoWriterOut)
  whole-so (ended.Done status) whole = whole
  whole-so ended.Input whole = tt
  whole-so ended.Output whole = tt
  whole-so ended.Tree whole = tt
  whole-so ended.Memory whole = tt

  stops-so : (came : Ended) → HasCause came (counts_of input output faults) (counts_of input' output' faults')
      → Stops (faults_of input output said faults) (faults_of input' output' said faults') (graph_came came)
  stops-so (ended.Done status) cause =
      record {
        ok = ap (λ (it : Counts). faults_of it.input it.output said it.tree) cause;
        read = λ never. cc;
        write = λ never. cc;
        tree = λ never. cc;
      }
  stops-so ended.Input cause = record { ok = tt; read = λ is. cause; write = λ is. cc; tree = λ is. cc }
  stops-so ended.Output cause = record { ok = tt; read = λ is. cc; write = λ is. inl cause; tree = λ is. cc }
  stops-so ended.Tree cause = record { ok = tt; read = λ is. cc; write = λ is. cc; tree = λ is. cause }
  stops-so ended.Memory cause = record { ok = tt; read = λ is. cc; write = λ is. cc; tree = λ is. cc }

  pub run-executed : (came : Ended) (result : Result Outcome RunFault) → result ≡ graph_came came → Ran came
      → RunsAs (λ reads. run_of (executes graph)) (point_of tree (seen_of (drawn_of left used) taken errors) (faults_of input output said faults))
      result (point_of tree' (seen_of (drawn_of left' used') taken' errors) (faults_of input' output' said faults'))
  run-executed came result is ran =
      subst (λ (it : Result Outcome RunFault). RunsAs (λ reads. run_of (executes graph))
      (point_of tree (seen_of (drawn_of left used) taken errors) (faults_of input output said faults)) it
      (point_of tree' (seen_of (drawn_of left' used') taken' errors) (faults_of input' output' said faults'))) (sym is) (record {
        comes = λ reads are expansions exps.
            told_anyway (λ files text. Comes (executed graph (outside_of tree.home files text)) (graph_came came) tree'.held
            (seen_of (drawn_of left used) taken errors) (seen_of (drawn_of left' used') taken' errors))
            tree.held left (λ files text held left_is. comes-so files text held left_is came ran);
        kept = λ reads are expansions exps.
            told_anyway (λ files text. ChangesOnly (executed graph (outside_of tree.home files text)).world.written tree.held tree'.held) tree.held left
            (λ files text held left_is. ran.kept);
        whole = whole-so came ran.whole;
        cause = stops-so came ran.cause;
        lent = ran.lent;
      })

pub run-of-graph : (old new : Point) (start : ReadStart) (graph : Graph) → start ≡ read.Graph graph → (result : Result Outcome RunFault)
    → RunsAs (λ reads. run_of (executes graph)) old result new → RunsAs (λ reads. run_of (as_start start)) old result new
run-of-graph old new start graph start_is result ran =
    subst (λ (it : ReadStart). RunsAs (λ reads. run_of (as_start it)) old result new) (sym start_is) ran
