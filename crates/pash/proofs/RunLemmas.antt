-- Runs of commands, from what their parts say.
use Rattle.std.proofs.Common.{◌≡◌, ℕ, ◌++◌, List, [], Option, Some, None, Result, Ok, Err, OnOk, OnErr, IfOk, IsErrOf}
use Rattle.std.proofs.Common.{refl, sym, ap, subst, ◌∙◌, append-nil, arith, inl, inr}
use Rattle.std.specs.Option.{IfSome, MatchOption, option_map}
use Rattle.ps_world.specs.Files.{Files, NoWriterOut}
use Rattle.ps_world.specs.Paths.{Components}
use Rattle.ps_world.specs.Told.{then_bytes, GrewByPrefix}
use Rattle.ps_world.specs.TreeState.{TreeState, Balanced, OnlyLent}
use Rattle.ps_world.proofs.ToldLemmas.{grew_by_front, grew_by_more, grew_by_nothing, grew_by_whole, then_bytes-append, then_bytes-nil}
use Rattle.ps_world.proofs.TreeStateLemmas.{balanced-more, balanced-none, balanced-only_lent}
use Rattle.fl_engines.specs.Logs.{Log, log_of, with_words}
use Rattle.fl_commands.specs.Writers.{ChangesOnly}
use Rattle.fl_commands.proofs.WriterLemmas.{only-same}
use Rattle.sh_tree.specs.Trees.{ScriptTree}
use Rattle.sh_tree.specs.Views.{script_tree}
use Rattle.sh_tree.specs.declared.commands.Script.{Script}
use Rattle.sh_parse.specs.Outcomes.{AreOutcomes, Readings}
use Rattle.sh_expand.specs.Outcomes.{AreExpansions, Expansions}
use Rattle.sh_eval.specs.Contract.{Drawn, Faults, HasCause, IsGone, Seen, drawn_of, faults_of, seen_of}
use Rattle.sh_eval.specs.Meaning.{begun, script_means}
use Rattle.sh_eval.specs.Scripts as scripts
use Rattle.sh_eval.specs.Scripts.{Stopped, ran_at}
use Rattle.sh_eval.specs.States.{Ends}
use Rattle.sh_eval.specs.Table.{pages}
use Rattle.sh_eval.specs.declared.flows.Flow.{Flow}
use Rattle.sh_eval.specs.declared.outcomes.How.{How}
use Rattle.sh_eval.specs.declared.outcomes.How.TheVariants as how
use Rattle.sh_eval.specs.declared.shell.Shell.{Shell}
use Rattle.pash.specs.Answers.{IsOfRun, IsOfScript, IsWithoutScript, finished, line_of, outcome_by, refusing}
use Rattle.pash.specs.Meaning.{Meaning, outside_of, over, run_of, told, with_input, written}
use Rattle.pash.specs.Runs.{Comes, DrawsNothing, Leaves, Means, OnlyTold, Point, RunsAs, Stops, TellsOnly, came_of, point_of}
use Rattle.pash.specs.Starts.{EndsWith, IfAnswered, IsAnswered, IsOfCommand, RunsNothing, Start, answered, as_start, runs, start_of, text_of, tries, writes}
use Rattle.pash.specs.Words.{Command}
use Rattle.pash.specs.declared.command.Sample.{Sample}
use Rattle.pash.specs.declared.starts.Setup.{Setup}
use Rattle.pash.specs.declared.starts.Start.{Start as ReadStart}
use Rattle.pash.specs.declared.starts.Start.TheVariants as read
use Rattle.pash.specs.declared.answers.Outcome.{Outcome}
use Rattle.pash.specs.declared.answers.RunFault.{RunFault}
use Rattle.pash.specs.declared.answers.RunFault.TheVariants as stop
use Rattle.pash.specs.declared.answers.Why.{Why}
use Rattle.pash.specs.declared.answers.Why.TheVariants as why

-- what comes of one thing where files and input are told comes of another
pub where_told : (First Next : Files → List ℕ → Type 0) (held : Option Files) (left : Option (List ℕ))
    → ((files : Files) (text : List ℕ) → First files text → Next files text)
    → IfSome held (λ files. IfSome left (λ text. First files text)) → IfSome held (λ files. IfSome left (λ text. Next files text))
where_told First Next None left step is = tt
where_told First Next (Some files) None step is = tt
where_told First Next (Some files) (Some text) step is = step files text is

-- it holds where they are told
pub told_anyway : (Holds : Files → List ℕ → Type 0) (held : Option Files) (left : Option (List ℕ))
    → ((files : Files) (text : List ℕ) → held ≡ Some files → left ≡ Some text → Holds files text)
    → IfSome held (λ files. IfSome left (λ text. Holds files text))
told_anyway Holds None left holds = tt
told_anyway Holds (Some files) None holds = tt
told_anyway Holds (Some files) (Some text) holds = holds files text refl refl

ran-none : (used : Option Log) → used ≡ option_map (with_words []) used
ran-none None = refl
ran-none (Some log) = ap (λ words. Some (log_of log.width words)) (sym (append-nil log.words))

-- where the files are as they were, nothing is changed
unchanged : (written : Files → List ℕ → List Components) (held : Option Files) (left : Option (List ℕ)) (old new : Option Files) → new ≡ old
    → IfSome held (λ files. IfSome left (λ text. ChangesOnly (written files text) old new))
unchanged written held left old new same =
    told_anyway (λ files text. ChangesOnly (written files text) old new) held left (λ files text held_is left_is. only-same same)

-- nothing stops where there is an answer
stops-not : (faults : Faults) (outcome : Outcome) → Stops faults faults (Ok outcome)
stops-not faults outcome = record { ok = refl; read = λ never. cc; write = λ never. cc; tree = λ never. cc }

-- NOTHING RUNS: the answer is left as it is
pub run-answered : (answer : Why) (at : Point) → IfSome at.tree.held NoWriterOut → RunsAs (λ reads. run_of (answered answer)) at (Ok (refusing answer)) at
run-answered answer at whole =
    record {
      comes = λ reads are expansions exps.
          told_anyway (λ files text. Leaves (run_of (answered answer) expansions (outside_of at.tree.home files text))
          (refusing answer) at.tree.held at.seen at.seen)
          at.tree.held at.seen.drawn.left (λ files text held left.
          record {
            outcome_is = refl;
            output = sym (then_bytes-nil at.seen.taken);
            errors = sym (then_bytes-nil at.seen.errors);
            files = held;
            input = left;
            used = ran-none at.seen.drawn.used;
          });
      kept = λ reads are expansions exps. unchanged (λ files text. (run_of (answered answer) expansions (outside_of at.tree.home files text)).world.written) at.tree.held at.seen.drawn.left at.tree.held at.tree.held refl;
      whole = whole;
      cause = stops-not at.faults (refusing answer);
      lent = balanced-none at.tree;
    }

-- A SCRIPT RUNS: what it leaves is its answer with the status, the world, and the utilities that ran
module _ (old new : Point) (status width : ℕ) (own : Shell) (same : status ≡ own.status) where
  left-so : (came : Flow) (meant : Ends) → scripts.Left (ran_at width old.seen.drawn.used) old.seen came own new.tree new.seen meant
      → Leaves (over width meant) (outcome_by came status) new.tree.held old.seen new.seen
  left-so came meant left =
      record {
        outcome_is = ap (λ (flow : Flow). outcome_by flow status) left.flow ∙ ap (outcome_by meant.flow) (same ∙ ap (λ (it : Shell). it.status) left.shell);
        output = left.output;
        errors = left.errors;
        files = left.files;
        input = left.input;
        used = left.used;
      }

  comes-so : (came : How) (meant : Ends) → scripts.Leaves (ran_at width old.seen.drawn.used) old.seen came own new.tree new.seen meant
      → Comes (over width meant) (came_of came status) new.tree.held old.seen new.seen
  comes-so (how.Gone flow) meant left = left-so flow meant left
  comes-so how.ReadFault meant left = left
  comes-so how.WriteFault meant left = left
  comes-so how.TreeFault meant left = left
  comes-so how.Memory meant left = left

  whole-so : (came : How) → (IsGone came → IfSome new.tree.held NoWriterOut) → OnOk (came_of came status) (IfSome new.tree.held NoWriterOut)
  whole-so (how.Gone flow) whole = whole tt
  whole-so how.ReadFault whole = tt
  whole-so how.WriteFault whole = tt
  whole-so how.TreeFault whole = tt
  whole-so how.Memory whole = tt

  stops-so : (came : How) → HasCause came old.faults new.faults → Stops old.faults new.faults (came_of came status)
  stops-so (how.Gone flow) cause = record { ok = cause; read = λ never. cc; write = λ never. cc; tree = λ never. cc }
  stops-so how.ReadFault cause = record { ok = tt; read = λ is. cause; write = λ is. cc; tree = λ is. cc }
  stops-so how.WriteFault cause = record { ok = tt; read = λ is. cc; write = λ is. cause; tree = λ is. cc }
  stops-so how.TreeFault cause = record { ok = tt; read = λ is. cc; write = λ is. cc; tree = λ is. cause }
  stops-so how.Memory cause = record { ok = tt; read = λ is. cc; write = λ is. cc; tree = λ is. cc }

  pub run-script : (start : ReadStart) (script : Script) (setup : Setup) → start ≡ read.Script script setup → setup.width ≡ width → (came : How) (result : Result Outcome RunFault)
      → result ≡ came_of came status
      → ((expansions : Expansions) → AreExpansions expansions → IfSome old.tree.held (λ files. IfSome old.seen.drawn.left (λ text.
      scripts.Leaves (ran_at width old.seen.drawn.used) old.seen came own new.tree new.seen (script_means expansions pages (script_tree script) (begun setup.shell old.tree.home files text)))))
      → ((expansions : Expansions) → AreExpansions expansions → IfSome old.tree.held (λ files. IfSome old.seen.drawn.left (λ text.
      ChangesOnly (script_means expansions pages (script_tree script) (begun setup.shell old.tree.home files text)).state.world.written old.tree.held new.tree.held)))
      → (IsGone came → IfSome new.tree.held NoWriterOut) → HasCause came old.faults new.faults → Balanced old.tree new.tree
      → RunsAs (λ reads. run_of (as_start start)) old result new
  run-script start script setup start_is spread came result is meaning kept whole cause lent =
      subst (λ (it : ReadStart). RunsAs (λ reads. run_of (as_start it)) old result new) (sym start_is)
      (subst (λ (it : Result Outcome RunFault). RunsAs (λ reads. run_of (runs (script_tree script) setup)) old it new) (sym is) (record {
        comes = λ reads are expansions exps.
            where_told (λ files text. scripts.Leaves (ran_at width old.seen.drawn.used) old.seen came own new.tree new.seen
            (script_means expansions pages (script_tree script) (begun setup.shell old.tree.home files text)))
            (λ files text. Comes (run_of (runs (script_tree script) setup) expansions (outside_of old.tree.home files text))
            (came_of came status) new.tree.held old.seen new.seen)
            old.tree.held old.seen.drawn.left
            (λ files text left.
            subst (λ (it : ℕ). Comes (over it (script_means expansions pages (script_tree script) (begun setup.shell old.tree.home files text))) (came_of came status) new.tree.held old.seen new.seen)
            (sym spread) (comes-so came (script_means expansions pages (script_tree script) (begun setup.shell old.tree.home files text)) left))
            (meaning expansions exps);
        kept = λ reads are expansions exps. kept expansions exps;
        whole = whole-so came whole;
        cause = stops-so came cause;
        lent = lent;
      }))

-- A TEXT IS WRITTEN, and nothing else happens
module _ (tree : TreeState) (drawn : Drawn) (taken errors taken' : Option (List ℕ)) (input output said tree_faults output' : ℕ) (text : List ℕ) where
  comes-written : (files : Files) (left : List ℕ) (result : Result Outcome RunFault) → tree.held ≡ Some files → drawn.left ≡ Some left
      → IfOk result (λ outcome. outcome ≡ finished 0) → OnOk result (taken' ≡ then_bytes taken text) → OnErr result (GrewByPrefix taken taken' text)
      → Comes (written text (outside_of tree.home files left)) result tree.held (seen_of drawn taken errors) (seen_of drawn taken' errors)
  comes-written files left (Ok outcome) held left_is is grew part =
      record { outcome_is = is; output = grew; errors = sym (then_bytes-nil errors); files = held; input = left_is; used = ran-none drawn.used }
  comes-written files left (Err stopped) held left_is is grew part = record { output = part; errors = grew_by_nothing errors [] }

  stops-written : (result : Result Outcome RunFault) → Stops (faults_of 0 output 0 0) (faults_of 0 output' 0 0) result
      → Stops (faults_of input output said tree_faults) (faults_of input output' said tree_faults) result
  stops-written (Ok outcome) them =
      record {
        ok = ap (λ (it : Faults). faults_of input it.output said tree_faults) them.ok;
        read = λ never. cc;
        write = λ never. cc;
        tree = λ never. cc;
      }
  stops-written (Err stopped) them =
      record {
        ok = tt;
        read = λ is. (let never = them.read is in omega arith);
        write = λ is. elim (them.write is) [ inl rose ↦ inl rose | inr never ↦ (let none : ⊥ = omega arith in absurd none) ];
        tree = λ is. (let never = them.tree is in omega arith);
      }

  whole-written : (result : Result Outcome RunFault) → IfSome tree.held NoWriterOut → OnOk result (IfSome tree.held NoWriterOut)
  whole-written (Ok outcome) whole = whole
  whole-written (Err stopped) whole = tt

  pub run-written : (start : ReadStart) (sample : Sample) → start ≡ read.Text sample → text ≡ text_of sample → (result : Result Outcome RunFault)
      → IfSome tree.held NoWriterOut → IfOk result (λ outcome. outcome ≡ finished 0) → OnOk result (taken' ≡ then_bytes taken text)
      → OnErr result (GrewByPrefix taken taken' text) → Stops (faults_of 0 output 0 0) (faults_of 0 output' 0 0) result
      → RunsAs (λ reads. run_of (as_start start)) (point_of tree (seen_of drawn taken errors) (faults_of input output said tree_faults)) result
      (point_of tree (seen_of drawn taken' errors) (faults_of input output' said tree_faults))
  run-written start sample start_is text_is result whole is grew part stops =
      subst (λ (it : ReadStart). RunsAs (λ reads. run_of (as_start it)) (point_of tree (seen_of drawn taken errors) (faults_of input output said tree_faults))
      result (point_of tree (seen_of drawn taken' errors) (faults_of input output' said tree_faults))) (sym start_is)
      (subst (λ (it : List ℕ). RunsAs (λ reads. run_of (writes it)) (point_of tree (seen_of drawn taken errors) (faults_of input output said tree_faults))
      result (point_of tree (seen_of drawn taken' errors) (faults_of input output' said tree_faults))) text_is (record {
        comes = λ reads are expansions exps.
            told_anyway (λ files left. Comes (written text (outside_of tree.home files left)) result tree.held (seen_of drawn taken errors)
            (seen_of drawn taken' errors))
            tree.held drawn.left (λ files left held left_is. comes-written files left result held left_is is grew part);
        kept = λ reads are expansions exps. unchanged (λ files left. []) tree.held drawn.left tree.held tree.held refl;
        whole = whole-written result whole;
        cause = stops-written result stops;
        lent = balanced-none tree;
      }))

-- what begins a command reads no input
pub no-read : {Began : Type 0} (output errors tree output' errors' tree' : ℕ) (stopped : RunFault) (result : Result Began RunFault) → result ≡ Err stopped
    → Stops (faults_of 0 output errors tree) (faults_of 0 output' errors' tree') result → (came : Result Outcome RunFault) → came ≡ Err stopped
    → IsErrOf came stop.Read → ⊥
no-read output errors tree output' errors' tree' stopped result result_is stops came came_is is =
    let same : stopped ≡ stop.Read = cc in
    let never = stops.read (result_is ∙ ap (λ (one : RunFault). Err one) same) in
    omega arith

-- memory was wanted before anything was done
pub run-wanted : (means : Means) (at : Point) → RunsAs means at (Err stop.Memory) at
run-wanted means at =
    record {
      comes = λ reads are expansions exps.
          told_anyway (λ files text. Stopped at.seen at.seen (means reads expansions (outside_of at.tree.home files text)).world) at.tree.held
          at.seen.drawn.left (λ files text held left.
          record {
            output = grew_by_nothing at.seen.taken (means reads expansions (outside_of at.tree.home files text)).world.output;
            errors = grew_by_nothing at.seen.errors (means reads expansions (outside_of at.tree.home files text)).world.errors;
          });
      kept = λ reads are expansions exps.
          unchanged (λ files text. (means reads expansions (outside_of at.tree.home files text)).world.written) at.tree.held at.seen.drawn.left at.tree.held at.tree.held refl;
      whole = tt;
      cause = record { ok = tt; read = λ is. cc; write = λ is. cc; tree = λ is. cc };
      lent = balanced-none at.tree;
    }

-- what comes where a text of its own is told comes where any input is
over_own : (First : Files → List ℕ → Type 0) (Next : Files → List ℕ → Type 0) (held : Option Files) (own left : Option (List ℕ)) (text : List ℕ) → own ≡ Some text
    → ((files : Files) (input : List ℕ) → left ≡ Some input → First files text → Next files input)
    → IfSome held (λ files. IfSome own (λ text. First files text)) → IfSome held (λ files. IfSome left (λ input. Next files input))
over_own First Next None own left text own_is step is = tt
over_own First Next (Some files) own None text own_is step is = tt
over_own First Next (Some files) own (Some input) text own_is step is =
    step files input refl (subst (λ (it : Option (List ℕ)). IfSome it (λ text. First files text)) own_is is)

-- a text of its own doesn't fail
pub never-read : (output said tree output' said' tree' status : ℕ) (came : How) (result : Result Outcome RunFault) → result ≡ came_of came status
    → HasCause came (faults_of 0 output said tree) (faults_of 0 output' said' tree') → IsErrOf result stop.Read → ⊥
never-read output said tree output' said' tree' status (how.Gone flow) result result_is cause is = cc
never-read output said tree output' said' tree' status how.ReadFault result result_is cause is = omega arith
never-read output said tree output' said' tree' status how.WriteFault result result_is cause is = cc
never-read output said tree output' said' tree' status how.TreeFault result result_is cause is = cc
never-read output said tree output' said' tree' status how.Memory result result_is cause is = cc

-- A TRIAL: a script runs over a text of its own, and any input stays as it is
module _ (old new : TreeState) (used used' : Option Log) (taken errors taken' errors' : Option (List ℕ)) (output said tree_faults output' said' tree_faults' : ℕ)
    (status width : ℕ) (own : Shell) (same : status ≡ own.status) where
  module _ (source source' left : Option (List ℕ)) (input : List ℕ) (left_is : left ≡ Some input) where
    tried-so : (came : Flow) (meant : Ends)
        → scripts.Left (ran_at width used) (seen_of (drawn_of source used) taken errors) came own new (seen_of (drawn_of source' used') taken' errors') meant
        → Leaves (with_input input (over width meant)) (outcome_by came status) new.held (seen_of (drawn_of left used) taken errors)
        (seen_of (drawn_of left used') taken' errors')
    tried-so came meant ends =
        record {
          outcome_is = ap (λ (flow : Flow). outcome_by flow status) ends.flow ∙ ap (outcome_by meant.flow) (same ∙ ap (λ (it : Shell). it.status) ends.shell);
          output = ends.output;
          errors = ends.errors;
          files = ends.files;
          input = left_is;
          used = ends.used;
        }

    behind-so : (meant : Ends) → Stopped (seen_of (drawn_of source used) taken errors) (seen_of (drawn_of source' used') taken' errors') meant.state.world
        → Stopped (seen_of (drawn_of left used) taken errors) (seen_of (drawn_of left used') taken' errors') (with_input input (over width meant)).world
    behind-so meant behind = record { output = behind.output; errors = behind.errors }

    comes-tried : (came : How) (meant : Ends)
        → scripts.Leaves (ran_at width used) (seen_of (drawn_of source used) taken errors) came own new (seen_of (drawn_of source' used') taken' errors') meant
        → Comes (with_input input (over width meant)) (came_of came status) new.held (seen_of (drawn_of left used) taken errors)
        (seen_of (drawn_of left used') taken' errors')
    comes-tried (how.Gone flow) meant ends = tried-so flow meant ends
    comes-tried how.ReadFault meant behind = behind-so meant behind
    comes-tried how.WriteFault meant behind = behind-so meant behind
    comes-tried how.TreeFault meant behind = behind-so meant behind
    comes-tried how.Memory meant behind = behind-so meant behind

  whole-tried : (came : How) → (IsGone came → IfSome new.held NoWriterOut) → OnOk (came_of came status) (IfSome new.held NoWriterOut)
  whole-tried (how.Gone flow) whole = whole tt
  whole-tried how.ReadFault whole = tt
  whole-tried how.WriteFault whole = tt
  whole-tried how.TreeFault whole = tt
  whole-tried how.Memory whole = tt

  stops-tried : (faults : ℕ) (came : How) → HasCause came (faults_of 0 output said tree_faults) (faults_of 0 output' said' tree_faults')
      → Stops (faults_of faults output said tree_faults) (faults_of faults output' said' tree_faults') (came_of came status)
  stops-tried faults (how.Gone flow) cause =
      record {
        ok = ap (λ (it : Faults). faults_of faults it.output it.errors it.tree) cause;
        read = λ never. cc;
        write = λ never. cc;
        tree = λ never. cc;
      }
  stops-tried faults how.ReadFault cause = let none : ⊥ = omega arith in absurd none
  stops-tried faults how.WriteFault cause = record { ok = tt; read = λ is. cc; write = λ is. cause; tree = λ is. cc }
  stops-tried faults how.TreeFault cause = record { ok = tt; read = λ is. cc; write = λ is. cc; tree = λ is. cause }
  stops-tried faults how.Memory cause = record { ok = tt; read = λ is. cc; write = λ is. cc; tree = λ is. cc }

  pub run-tried : (script : ScriptTree) (setup : Setup) (text : List ℕ) (source source' : Option (List ℕ)) → source ≡ Some text → setup.width ≡ width
      → (came : How) (result : Result Outcome RunFault) → result ≡ came_of came status
      → ((expansions : Expansions) → AreExpansions expansions → IfSome old.held (λ files. IfSome source (λ text.
      scripts.Leaves (ran_at width used) (seen_of (drawn_of source used) taken errors) came own new (seen_of (drawn_of source' used') taken' errors')
      (script_means expansions pages script (begun setup.shell old.home files text)))))
      → ((expansions : Expansions) → AreExpansions expansions → IfSome old.held (λ files. IfSome source (λ text.
      ChangesOnly (script_means expansions pages script (begun setup.shell old.home files text)).state.world.written old.held new.held)))
      → (IsGone came → IfSome new.held NoWriterOut) → HasCause came (faults_of 0 output said tree_faults) (faults_of 0 output' said' tree_faults')
      → Balanced old new → (left : Option (List ℕ)) (faults : ℕ)
      → RunsAs (λ reads. run_of (tries script setup text)) (point_of old (seen_of (drawn_of left used) taken errors) (faults_of faults output said tree_faults))
      result (point_of new (seen_of (drawn_of left used') taken' errors') (faults_of faults output' said' tree_faults'))
  run-tried script setup text source source' source_is spread came result is meaning kept whole cause lent left faults =
      subst (λ (it : Result Outcome RunFault). RunsAs (λ reads. run_of (tries script setup text))
      (point_of old (seen_of (drawn_of left used) taken errors) (faults_of faults output said tree_faults)) it
      (point_of new (seen_of (drawn_of left used') taken' errors') (faults_of faults output' said' tree_faults'))) (sym is) (record {
        comes = λ reads are expansions exps.
            over_own (λ files text. scripts.Leaves (ran_at width used) (seen_of (drawn_of source used) taken errors) came own new
            (seen_of (drawn_of source' used') taken' errors') (script_means expansions pages script (begun setup.shell old.home files text)))
            (λ files input. Comes (run_of (tries script setup text) expansions (outside_of old.home files input)) (came_of came status) new.held
            (seen_of (drawn_of left used) taken errors) (seen_of (drawn_of left used') taken' errors'))
            old.held source left text source_is
            (λ files input left_is ends.
            subst (λ (it : ℕ). Comes (with_input input (over it (script_means expansions pages script (begun setup.shell old.home files text))))
            (came_of came status) new.held (seen_of (drawn_of left used) taken errors) (seen_of (drawn_of left used') taken' errors')) (sym spread)
            (comes-tried source source' left input left_is came (script_means expansions pages script (begun setup.shell old.home files text)) ends))
            (meaning expansions exps);
        kept = λ reads are expansions exps.
            over_own (λ files text. ChangesOnly (script_means expansions pages script (begun setup.shell old.home files text)).state.world.written old.held new.held)
            (λ files input. ChangesOnly (run_of (tries script setup text) expansions (outside_of old.home files input)).world.written old.held new.held)
            old.held source left text source_is (λ files input left_is only. only) (kept expansions exps);
        whole = whole-tried came whole;
        cause = stops-tried faults came cause;
        lent = lent;
      })

-- and so does one over the text that a seed gives
pub run-over : (old new : Point) (script : ScriptTree) (setup : Setup) (text other : List ℕ) → text ≡ other → (result : Result Outcome RunFault)
    → RunsAs (λ reads. run_of (tries script setup text)) old result new → RunsAs (λ reads. run_of (tries script setup other)) old result new
run-over old new script setup text other same result ran =
    subst (λ (it : List ℕ). RunsAs (λ reads. run_of (tries script setup it)) old result new) same ran

pub run-of-trial : (old new : Point) (start : ReadStart) (script : Script) (setup : Setup) (sample : Sample) → start ≡ read.Trial script setup sample
    → (result : Result Outcome RunFault) → RunsAs (λ reads. run_of (tries (script_tree script) setup (text_of sample))) old result new
    → RunsAs (λ reads. run_of (as_start start)) old result new
run-of-trial old new start script setup sample start_is result ran =
    subst (λ (it : ReadStart). RunsAs (λ reads. run_of (as_start it)) old result new) (sym start_is) ran

-- THE LINE IS TOLD behind a run, and all is sent on
module _ (means : Means) (old : Point) (outcome : Outcome) (tree : TreeState) (drawn : Drawn) (taken errors taken' errors' : Option (List ℕ))
    (same : taken' ≡ taken) where
  leaves-told : (meaning : Meaning) (other : Outcome) → other ≡ outcome → errors' ≡ then_bytes errors (line_of outcome.why)
      → Leaves meaning outcome tree.held old.seen (seen_of drawn taken errors) → Leaves (told meaning) other tree.held old.seen (seen_of drawn taken' errors')
  leaves-told meaning other is grew left =
      record {
        outcome_is = is ∙ left.outcome_is;
        output = same ∙ left.output;
        errors = grew ∙ ap (λ (told_so : Option (List ℕ)). then_bytes told_so (line_of outcome.why)) left.errors
            ∙ then_bytes-append old.seen.errors meaning.world.errors (line_of outcome.why)
            ∙ ap (λ (one : Outcome). then_bytes old.seen.errors (meaning.world.errors ++ line_of one.why)) left.outcome_is;
        files = left.files;
        input = left.input;
        used = left.used;
      }

  stopped-telling : (meaning : Meaning) → GrewByPrefix errors errors' (line_of outcome.why)
      → Leaves meaning outcome tree.held old.seen (seen_of drawn taken errors) → Stopped old.seen (seen_of drawn taken' errors') (told meaning).world
  stopped-telling meaning grew left =
      record {
        output = grew_by_whole old.seen.taken taken' meaning.world.output (same ∙ left.output);
        errors = grew_by_more old.seen.errors errors errors' meaning.world.errors (line_of meaning.outcome.why) left.errors
            (subst (λ (one : Outcome). GrewByPrefix errors errors' (line_of one.why)) left.outcome_is grew);
      }

  comes-told : (meaning : Meaning) (result : Result Outcome RunFault) → IfOk result (λ other. other ≡ outcome)
      → OnOk result (errors' ≡ then_bytes errors (line_of outcome.why)) → OnErr result (GrewByPrefix errors errors' (line_of outcome.why))
      → Leaves meaning outcome tree.held old.seen (seen_of drawn taken errors) → Comes (told meaning) result tree.held old.seen (seen_of drawn taken' errors')
  comes-told meaning (Ok other) is grew part left = leaves-told meaning other is grew left
  comes-told meaning (Err stopped) is grew part left = stopped-telling meaning part left

  module _ (input tree_faults output said output' said' : ℕ) where
    stops-told : (result : Result Outcome RunFault) → faults_of input output said tree_faults ≡ old.faults
        → Stops (faults_of 0 output said 0) (faults_of 0 output' said' 0) result → Stops old.faults (faults_of input output' said' tree_faults) result
    stops-told result calm stops =
        subst (λ (it : Faults). Stops it (faults_of input output' said' tree_faults) result) calm (by_result result stops)
      where
        by_result : (it : Result Outcome RunFault) → Stops (faults_of 0 output said 0) (faults_of 0 output' said' 0) it
            → Stops (faults_of input output said tree_faults) (faults_of input output' said' tree_faults) it
        by_result (Ok other) them =
            record {
              ok = ap (λ (it : Faults). faults_of input it.output it.errors tree_faults) them.ok;
              read = λ never. cc;
              write = λ never. cc;
              tree = λ never. cc;
            }
        by_result (Err stopped) them =
            record {
              ok = tt;
              read = λ is. (let never = them.read is in omega arith);
              write = them.write;
              tree = λ is. (let never = them.tree is in omega arith);
            }

    pub run-told : (came result : Result Outcome RunFault) → came ≡ Ok outcome
        → RunsAs means old came (point_of tree (seen_of drawn taken errors) (faults_of input output said tree_faults))
        → IfOk result (λ other. other ≡ outcome) → OnOk result (errors' ≡ then_bytes errors (line_of outcome.why))
        → OnErr result (GrewByPrefix errors errors' (line_of outcome.why)) → Stops (faults_of 0 output said 0) (faults_of 0 output' said' 0) result
        → RunsAs (λ reads expansions outside. told (means reads expansions outside)) old result
        (point_of tree (seen_of drawn taken' errors') (faults_of input output' said' tree_faults))
    run-told came result came_is came_so is grew part stops =
        let ran : RunsAs means old (Ok outcome) (point_of tree (seen_of drawn taken errors) (faults_of input output said tree_faults)) =
        subst (λ (it : Result Outcome RunFault). RunsAs means old it
        (point_of tree (seen_of drawn taken errors) (faults_of input output said tree_faults))) came_is came_so in
        record {
          comes = λ reads are expansions exps.
              where_told (λ files text. Leaves (means reads expansions (outside_of old.tree.home files text)) outcome tree.held old.seen
              (seen_of drawn taken errors))
              (λ files text. Comes (told (means reads expansions (outside_of old.tree.home files text))) result tree.held old.seen
              (seen_of drawn taken' errors'))
              old.tree.held old.seen.drawn.left
              (λ files text left. comes-told (means reads expansions (outside_of old.tree.home files text)) result is grew part left)
              (ran.comes reads are expansions exps);
          kept = ran.kept;
          whole = whole-told result ran.whole;
          cause = stops-told result ran.cause.ok stops;
          lent = ran.lent;
        }
      where
        whole-told : (it : Result Outcome RunFault) → IfSome tree.held NoWriterOut → OnOk it (IfSome tree.held NoWriterOut)
        whole-told (Ok other) whole = whole
        whole-told (Err stopped) whole = tt

-- a run that has stopped tells no line
pub run-untold : (means : Means) (old new : Point) (stopped : RunFault) (came : Result Outcome RunFault) → came ≡ Err stopped → RunsAs means old came new
    → RunsAs (λ reads expansions outside. told (means reads expansions outside)) old (Err stopped) new
run-untold means old new stopped came came_is came_so =
    let ran : RunsAs means old (Err stopped) new = subst (λ (it : Result Outcome RunFault). RunsAs means old it new) came_is came_so in
    record {
      comes = λ reads are expansions exps.
          where_told (λ files text. Stopped old.seen new.seen (means reads expansions (outside_of old.tree.home files text)).world)
          (λ files text. Stopped old.seen new.seen (told (means reads expansions (outside_of old.tree.home files text))).world)
          old.tree.held old.seen.drawn.left
          (λ files text behind.
          (let run = means reads expansions (outside_of old.tree.home files text) in
          record { output = behind.output; errors = grew_by_front old.seen.errors new.seen.errors run.world.errors (line_of run.outcome.why) behind.errors }))
          (ran.comes reads are expansions exps);
      kept = ran.kept;
      whole = tt;
      cause = ran.cause;
      lent = ran.lent;
    }

-- A COMMAND BEGINS: why its beginning stopped, or that no count rose
module _ {Began : Type 0} (input output errors before now : ℕ) where
  stops-tree : (result : Result Began RunFault) → Stops (faults_of 0 0 0 before) (faults_of 0 0 0 now) result → Stops (faults_of input output errors before)
      (faults_of input output errors now) result
  stops-tree (Ok start) stops =
      record {
        ok = ap (λ (it : Faults). faults_of input output errors it.tree) stops.ok;
        read = λ never. cc;
        write = λ never. cc;
        tree = λ never. cc;
      }
  stops-tree (Err stopped) stops =
      record {
        ok = tt;
        read = λ is. (let never = stops.read is in omega arith);
        write = λ is. (let none : ⊥ = (elim (stops.write is) [ inl never ↦ omega arith | inr never ↦ omega arith ]) in absurd none);
        tree = stops.tree;
      }

-- what ran for the start ran for the words
module _ (start_by : Readings → Files → Components → Start) (start : Start) (old tree : TreeState) (seen : Seen) (lent : OnlyLent old tree) where
  with-start : (Holds : Start → Files → List ℕ → Type 0) (reads : Readings) (home : Components) (held : Option Files) (left : Option (List ℕ))
      → IfSome held (λ files. start ≡ start_by reads files home)
      → IfSome held (λ files. IfSome left (λ text. Holds start files text)) → IfSome held
      (λ files. IfSome left (λ text. Holds (start_by reads files home) files text))
  with-start Holds reads home None left is holds = tt
  with-start Holds reads home (Some files) None is holds = tt
  with-start Holds reads home (Some files) (Some text) is holds = subst (λ (it : Start). Holds it files text) is holds

  comes-begun : (reads : Readings) (expansions : Expansions) (result : Result Outcome RunFault) (new : Point)
      → IfSome old.held (λ files. start ≡ start_by reads files old.home)
      → IfSome tree.held (λ files. IfSome seen.drawn.left (λ text.
      Comes (told (run_of start expansions (outside_of tree.home files text))) result new.tree.held seen new.seen))
      → IfSome old.held (λ files. IfSome seen.drawn.left (λ text.
      Comes (told (run_of (start_by reads files old.home) expansions (outside_of old.home files text))) result new.tree.held seen new.seen))
  comes-begun reads expansions result new is ran =
      with-start (λ it files text. Comes (told (run_of it expansions (outside_of old.home files text))) result new.tree.held seen new.seen)
      reads old.home old.held seen.drawn.left is
      (subst (λ (home : Components). IfSome old.held (λ files. IfSome seen.drawn.left (λ text.
      Comes (told (run_of start expansions (outside_of home files text))) result new.tree.held seen new.seen))) lent.home
      (subst (λ (held : Option Files). IfSome held (λ files. IfSome seen.drawn.left (λ text.
      Comes (told (run_of start expansions (outside_of tree.home files text))) result new.tree.held seen new.seen))) lent.held ran))

  kept-begun : (reads : Readings) (expansions : Expansions) (new : Option Files) → IfSome old.held (λ files. start ≡ start_by reads files old.home)
      → IfSome tree.held (λ files. IfSome seen.drawn.left (λ text.
      ChangesOnly (run_of start expansions (outside_of tree.home files text)).world.written tree.held new))
      → IfSome old.held (λ files. IfSome seen.drawn.left (λ text.
      ChangesOnly (run_of (start_by reads files old.home) expansions (outside_of old.home files text)).world.written old.held new))
  kept-begun reads expansions new is ran =
      with-start (λ it files text. ChangesOnly (run_of it expansions (outside_of old.home files text)).world.written old.held new)
      reads old.home old.held seen.drawn.left is
      (subst (λ (home : Components). IfSome old.held (λ files. IfSome seen.drawn.left (λ text.
      ChangesOnly (run_of start expansions (outside_of home files text)).world.written old.held new))) lent.home
      (subst (λ (held : Option Files). IfSome held (λ files. IfSome seen.drawn.left (λ text.
      ChangesOnly (run_of start expansions (outside_of tree.home files text)).world.written held new))) lent.held ran))

  pub run-begun : (input output errors before now : ℕ) (result : Result Outcome RunFault) (new : Point)
      → faults_of 0 0 0 now ≡ faults_of 0 0 0 before
      → ((reads : Readings) → AreOutcomes reads → IfSome old.held (λ files. start ≡ start_by reads files old.home))
      → RunsAs (λ reads expansions outside. told (run_of start expansions outside)) (point_of tree seen (faults_of input output errors now)) result new
      → RunsAs (λ reads expansions outside. told (run_of (start_by reads outside.files outside.home) expansions outside))
      (point_of old seen (faults_of input output errors before)) result new
  run-begun input output errors before now result new calm is ran =
      record {
        comes = λ reads are expansions exps. comes-begun reads expansions result new (is reads are) (ran.comes reads are expansions exps);
        kept = λ reads are expansions exps. kept-begun reads expansions new.tree.held (is reads are) (ran.kept reads are expansions exps);
        whole = ran.whole;
        cause = subst (λ (it : Faults). Stops (faults_of input output errors it.tree) new.faults result) calm ran.cause;
        lent = balanced-more old tree new.tree (balanced-only_lent old tree lent) ran.lent;
      }

-- nothing was run where the beginning stopped
pub run-unbegun : (means : Means) (old tree : TreeState) (seen : Seen) (input output errors before now : ℕ) (stopped : RunFault) → OnlyLent old tree
    → {Began : Type 0} (result : Result Began RunFault) → result ≡ Err stopped → Stops (faults_of 0 0 0 before) (faults_of 0 0 0 now) result
    → RunsAs means (point_of old seen (faults_of input output errors before)) (Err stopped) (point_of tree seen (faults_of input output errors now))
run-unbegun means old tree seen input output errors before now stopped lent {Began} result is stops =
    let all : Stops (faults_of input output errors before)
    (faults_of input output errors now) result = stops-tree input output errors before now result stops in
    record {
      comes = λ reads are expansions exps.
          told_anyway (λ files text. Stopped seen seen (means reads expansions (outside_of old.home files text)).world)
          old.held seen.drawn.left (λ files text held left.
          record {
            output = grew_by_nothing seen.taken (means reads expansions (outside_of old.home files text)).world.output;
            errors = grew_by_nothing seen.errors (means reads expansions (outside_of old.home files text)).world.errors;
          });
      kept = λ reads are expansions exps.
          unchanged (λ files text. (means reads expansions (outside_of old.home files text)).world.written) old.held seen.drawn.left old.held tree.held lent.held;
      whole = tt;
      cause = record {
        ok = tt;
        read = λ it. all.read (is ∙ (let same : stopped ≡ stop.Read = cc in ap (λ (one : RunFault). Err one) same));
        write = λ it. all.write (is ∙ (let same : stopped ≡ stop.Write = cc in ap (λ (one : RunFault). Err one) same));
        tree = λ it. all.tree (is ∙ (let same : stopped ≡ stop.Tree = cc in ap (λ (one : RunFault). Err one) same));
      };
      lent = balanced-only_lent old tree lent;
    }

-- WHERE NOTHING RUNS, nothing but a line was told
module _ (Same : Type 0) (old tree new : TreeState) (lent : OnlyLent old tree) (was now : Seen) where
  stays : new ≡ tree → OnlyLent old new
  stays same = subst (λ (it : TreeState). OnlyLent old it) (sym same) lent

  no-script : (why : Why) → IsOfRun why → IsWithoutScript why → ⊥
  no-script why.Finished run without = without
  no-script (why.Refused cause) run without = without
  no-script why.Usage run without = run
  no-script (why.NoScript path) run without = run
  no-script why.NotJson run without = run
  no-script why.NotGraph run without = run
  no-script why.BadVersion run without = run
  no-script (why.NoFile path) run without = run
  no-script why.ReadFault run without = run
  no-script why.WriteFault run without = run
  no-script why.TreeFault run without = run
  no-script why.Memory run without = run

  pub without-script : (start : ReadStart) (result : Result Outcome RunFault) → IfOk result (λ outcome. EndsWith start outcome.why)
      → IfAnswered start (λ answer. Same × (new ≡ tree) × TellsOnly answer result was now)
      → IfOk result (λ outcome. IsWithoutScript outcome.why → Same × OnlyLent old new × OnlyTold outcome.why outcome.status was now)
  without-script (read.Answered answer) (Ok outcome) ends told_so =
      λ without. (told_so.0, stays told_so.1, subst (λ (it : Why). OnlyTold it outcome.status was now) (sym ends) told_so.2)
  without-script (read.Script script setup) (Ok outcome) ends told_so = λ without. absurd (no-script outcome.why ends without)
  without-script (read.Graph graph) (Ok outcome) ends told_so = λ without. absurd (no-script outcome.why ends without)
  without-script (read.Text sample) (Ok outcome) ends told_so = λ without. absurd (no-script outcome.why ends without)
  without-script (read.Trial script setup sample) (Ok outcome) ends told_so = λ without. absurd (no-script outcome.why ends without)
  without-script start (Err stopped) ends told_so = tt

  draws-nothing : (answer : Why) (result : Result Outcome RunFault) → TellsOnly answer result was now → DrawsNothing was now
  draws-nothing answer (Ok outcome) only = record { drawn = only.drawn; output = only.output }
  draws-nothing answer (Err stopped) only = record { drawn = only.drawn; output = only.output }

  answered-alone : (start : ReadStart) (result : Result Outcome RunFault) → IsAnswered (as_start start)
      → IfAnswered start (λ answer. Same × (new ≡ tree) × TellsOnly answer result was now) → Same × OnlyLent old new × DrawsNothing was now
  answered-alone (read.Answered answer) result is told_so = (told_so.0, stays told_so.1, draws-nothing answer result told_so.2)
  answered-alone (read.Script script setup) result is told_so = absurd is
  answered-alone (read.Graph graph) result is told_so = absurd is
  answered-alone (read.Text sample) result is told_so = absurd is
  answered-alone (read.Trial script setup sample) result is told_so = absurd is

  is-answered : (reads : Readings) (start : ReadStart) (command : Option Command) (held : Option Files)
      → MatchOption command (start ≡ read.Answered why.Usage) (λ _. IsOfCommand start)
      → IfSome held (λ files. as_start start ≡ start_of reads files old.home command)
      → RunsNothing reads (record old { held = held }) command → IsAnswered (as_start start)
  is-answered reads start None held usage is nothing = subst (λ (it : ReadStart). IsAnswered (as_start it)) (sym usage) tt
  is-answered reads start (Some command) None usage is nothing = absurd nothing
  is-answered reads start (Some command) (Some files) usage is nothing = subst IsAnswered (sym is) nothing

  pub nothing-run : (start : ReadStart) (result : Result Outcome RunFault) (command : Option Command)
      → MatchOption command (start ≡ read.Answered why.Usage) (λ _. IsOfCommand start)
      → ((reads : Readings) → AreOutcomes reads → IfSome old.held (λ files. as_start start ≡ start_of reads files old.home command))
      → IfAnswered start (λ answer. Same × (new ≡ tree) × TellsOnly answer result was now)
      → (reads : Readings) → AreOutcomes reads → RunsNothing reads old command → Same × OnlyLent old new × DrawsNothing was now
  nothing-run start result command usage is told_so reads are nothing =
      answered-alone start result (is-answered reads start command old.held usage (is reads are) nothing) told_so

-- what ran is for a script
of_run : (why : Why) → IsOfRun why → IsOfScript why
of_run why.Finished run = tt
of_run (why.Refused cause) run = tt
of_run why.Usage run = run
of_run (why.NoScript path) run = tt
of_run why.NotJson run = tt
of_run why.NotGraph run = tt
of_run why.BadVersion run = tt
of_run (why.NoFile path) run = tt
of_run why.ReadFault run = run
of_run why.WriteFault run = run
of_run why.TreeFault run = run
of_run why.Memory run = run

-- a start of no command is that of usage, and so is its answer
pub answer-of : (start : ReadStart) (command : Option Command) (result : Result Outcome RunFault) → IfOk result (λ outcome. EndsWith start outcome.why)
    → MatchOption command (start ≡ read.Answered why.Usage) (λ _. IsOfCommand start)
    → IfOk result (λ outcome. MatchOption command (outcome.why ≡ why.Usage) (λ _. IsOfScript outcome.why))
answer-of start None (Ok outcome) ends usage = subst (λ (it : ReadStart). EndsWith it outcome.why) usage ends
answer-of (read.Answered answer) (Some command) (Ok outcome) ends usage = subst IsOfScript (sym ends) usage
answer-of (read.Script script setup) (Some command) (Ok outcome) ends usage = of_run outcome.why ends
answer-of (read.Graph graph) (Some command) (Ok outcome) ends usage = of_run outcome.why ends
answer-of (read.Text sample) (Some command) (Ok outcome) ends usage = of_run outcome.why ends
answer-of (read.Trial script setup sample) (Some command) (Ok outcome) ends usage = of_run outcome.why ends
answer-of start command (Err stopped) ends usage = tt
