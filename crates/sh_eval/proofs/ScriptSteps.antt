-- What the evaluation of a list says of a whole script.
use Rattle.std.specs.Option.{option_map}
use Rattle.std.proofs.Common.{◌≡◌, ◌++◌, ℕ, List, [], Option, Some, None, IfSome, refl, sym, ap, ◌∙◌, subst, append-nil}
use Rattle.ps_world.specs.Files.{Files, NoWriterOut}
use Rattle.ps_world.specs.TreeState.{TreeState}
use Rattle.ps_world.specs.Told.{then_bytes}
use Rattle.ps_world.proofs.ToldLemmas.{then_bytes-nil}
use Rattle.sh_tree.specs.Views.{list_tree, script_tree}
use Rattle.sh_tree.specs.declared.commands.List as declared_list
use Rattle.sh_tree.specs.declared.commands.Script.{Script}
use Rattle.sh_expand.specs.Outcomes.{Expansions, AreExpansions}
use Rattle.sh_eval.specs.declared.flows.Flow.TheVariants as flow
use Rattle.sh_eval.specs.declared.outcomes.How.{How}
use Rattle.sh_eval.specs.declared.outcomes.How.TheVariants as how
use Rattle.sh_eval.specs.declared.session.Session.{Session}
use Rattle.sh_eval.specs.declared.shell.Shell.{Shell}
use Rattle.fl_commands.specs.Writers.{ChangesOnly}
use Rattle.fl_commands.proofs.WriterLemmas.{only-same}
use Rattle.fl_engines.specs.Logs.{Log, at_width, log_of}
use Rattle.fl_segments.specs.Noted.{Noted, used_at}
use Rattle.sh_eval.specs.States.{Ends}
use Rattle.sh_eval.specs.Contract.{Base, Seen, drawn_of, then_ran, Faults, Point, point_of, seen_of, Has, Comes, Stands, IsSound, Meaning, Evaluates}
use Rattle.sh_eval.specs.Meaning.{begun, begun_session, list_means, script_means}
use Rattle.sh_eval.specs.Scripts.{Leaves, ran_at}
use Rattle.sh_eval.specs.Table.{pages}
use Rattle.sh_eval.proofs.Steps.{nothing}

ran-none : (used : Option Log) → used ≡ then_ran used []
ran-none None = refl
ran-none (Some log) = ap (λ words. Some (log_of log.width words)) (sym (append-nil log.words))

begun-has : (shell : Shell) (tree : TreeState) (seen : Seen) (faults : Faults) (files : Files) (text : List ℕ) → tree.held ≡ Some files → seen.drawn.left ≡ Some text
    → Has (record { files = files; used = seen.drawn.used; taken = seen.taken; errors = seen.errors }) (point_of shell begun_session tree seen faults) (begun shell tree.home files text)
begun-has shell tree seen faults files text held left =
    record {
      shell = refl;
      session = refl;
      home = refl;
      held = held;
      kept = only-same held;
      seen = ap (λ (it : Option (List ℕ)). seen_of (drawn_of it seen.drawn.used) seen.taken seen.errors) left
          ∙ ap (λ (it : Option Log). seen_of (drawn_of (Some text) it) seen.taken seen.errors) (ran-none seen.drawn.used)
          ∙ ap (λ (it : Option (List ℕ)). seen_of (drawn_of (Some text) (then_ran seen.drawn.used [])) it seen.errors) (sym (then_bytes-nil seen.taken))
          ∙ ap (seen_of (drawn_of (Some text) (then_ran seen.drawn.used [])) (then_bytes seen.taken [])) (sym (then_bytes-nil seen.errors));
    }

leaves-so : (old : Seen) (files : Files) (came : How) (at : Point) (meant : Ends) → Comes (record { files = files; used = old.drawn.used; taken = old.taken; errors = old.errors }) came at meant
    → Leaves (then_ran old.drawn.used) old came at.shell at.tree at.seen meant
leaves-so old files (how.Gone it) at meant ended =
    record {
      flow = ended.flow;
      shell = ended.has.shell;
      files = ended.has.held;
      input = ap (λ (it : Seen). it.drawn.left) ended.has.seen;
      used = ap (λ (it : Seen). it.drawn.used) ended.has.seen;
      output = ap (λ (it : Seen). it.taken) ended.has.seen;
      errors = ap (λ (it : Seen). it.errors) ended.has.seen;
    }
leaves-so old files how.ReadFault at meant behind = record { output = behind.output; errors = behind.errors }
leaves-so old files how.WriteFault at meant behind = record { output = behind.output; errors = behind.errors }
leaves-so old files how.TreeFault at meant behind = record { output = behind.output; errors = behind.errors }
leaves-so old files how.Memory at meant behind = record { output = behind.output; errors = behind.errors }

-- a script that was evaluated leaves what it means
pub script-leaves : (means : Meaning) (shell : Shell) (session : Session) (tree : TreeState) (seen : Seen) (faults : Faults) (came : How) (new : Point) → session ≡ begun_session
    → Evaluates means (point_of shell session tree seen faults) came new
    → (expansions : Expansions) → AreExpansions expansions → IfSome tree.held (λ files. IfSome seen.drawn.left (λ text.
    Leaves (then_ran seen.drawn.used) seen came new.shell new.tree new.seen (means expansions (begun shell tree.home files text))))
script-leaves means shell session tree seen faults came new is found expansions are = by_told tree.held seen.drawn.left refl refl
  where
    by_told : (held : Option Files) (left : Option (List ℕ)) → tree.held ≡ held → seen.drawn.left ≡ left
        → IfSome held (λ files. IfSome left (λ text. Leaves (then_ran seen.drawn.used) seen came new.shell new.tree new.seen (means expansions (begun shell tree.home files text))))
    by_told None left held_is left_is = tt
    by_told (Some files) None held_is left_is = tt
    by_told (Some files) (Some text) held_is left_is =
        let one = subst (λ (it : Session). Evaluates means (point_of shell it tree seen faults) came new) is found in
        leaves-so seen files came new (means expansions (begun shell tree.home files text))
        (one.comes expansions are (record { files = files; used = seen.drawn.used; taken = seen.taken; errors = seen.errors }) (begun shell tree.home files text) (begun-has shell tree seen faults files text held_is left_is))

-- and nothing else is changed than what it writes
kept-so : (base : Base) (came : How) (at : Point) (meant : Ends) → Comes base came at meant → ChangesOnly meant.state.world.written (Some base.files) at.tree.held
kept-so base (how.Gone it) at meant ended = ended.has.kept
kept-so base how.ReadFault at meant behind = behind.kept
kept-so base how.WriteFault at meant behind = behind.kept
kept-so base how.TreeFault at meant behind = behind.kept
kept-so base how.Memory at meant behind = behind.kept

pub script-kept : (means : Meaning) (shell : Shell) (session : Session) (tree : TreeState) (seen : Seen) (faults : Faults) (came : How) (new : Point) → session ≡ begun_session
    → Evaluates means (point_of shell session tree seen faults) came new
    → (expansions : Expansions) → AreExpansions expansions → IfSome tree.held (λ files. IfSome seen.drawn.left (λ text.
    ChangesOnly (means expansions (begun shell tree.home files text)).state.world.written tree.held new.tree.held))
script-kept means shell session tree seen faults came new is found expansions are = by_told tree.held seen.drawn.left refl refl
  where
    by_told : (held : Option Files) (left : Option (List ℕ)) → tree.held ≡ held → seen.drawn.left ≡ left
        → IfSome held (λ files. IfSome left (λ text. ChangesOnly (means expansions (begun shell tree.home files text)).state.world.written tree.held new.tree.held))
    by_told None left held_is left_is = tt
    by_told (Some files) None held_is left_is = tt
    by_told (Some files) (Some text) held_is left_is =
        let one = subst (λ (it : Session). Evaluates means (point_of shell it tree seen faults) came new) is found in
        subst (λ (it : Option Files). ChangesOnly (means expansions (begun shell tree.home files text)).state.world.written it new.tree.held) (sym held_is)
        (kept-so (record { files = files; used = seen.drawn.used; taken = seen.taken; errors = seen.errors }) came new (means expansions (begun shell tree.home files text))
        (one.comes expansions are (record { files = files; used = seen.drawn.used; taken = seen.taken; errors = seen.errors }) (begun shell tree.home files text)
        (begun-has shell tree seen faults files text held_is left_is)))

-- AT A WIDTH: the engine spreads graphs so while the script runs, and as before behind it
ran-spread : (width before : ℕ) (used : Option Log) (ran : List Noted) → IfSome used (λ log. before ≡ log.width)
    → option_map (at_width before) (then_ran (option_map (at_width width) used) ran) ≡ ran_at width used ran
ran-spread width before None ran was = refl
ran-spread width before (Some log) ran was = ap (λ (it : ℕ). Some (log_of it (log.words ++ used_at width ran))) was

module _ (width before : ℕ) (left left' taken taken' errors errors' : Option (List ℕ)) (used mid mid' used' : Option Log)
    (spread : mid ≡ option_map (at_width width) used) (back : used' ≡ option_map (at_width before) mid') (was : IfSome used (λ log. before ≡ log.width))
    (came : How) (own : Shell) (tree : TreeState) where
  leaves-spread : (meant : Ends) → Leaves (then_ran mid) (seen_of (drawn_of left mid) taken errors) came own tree (seen_of (drawn_of left' mid') taken' errors') meant
      → Leaves (ran_at width used) (seen_of (drawn_of left used) taken errors) came own tree (seen_of (drawn_of left' used') taken' errors') meant
  leaves-spread meant leaves = by_how came leaves
    where
      by_how : (it : How) → Leaves (then_ran mid) (seen_of (drawn_of left mid) taken errors) it own tree (seen_of (drawn_of left' mid') taken' errors') meant
          → Leaves (ran_at width used) (seen_of (drawn_of left used) taken errors) it own tree (seen_of (drawn_of left' used') taken' errors') meant
      by_how (how.Gone flow) all =
          record {
            flow = all.flow;
            shell = all.shell;
            files = all.files;
            input = all.input;
            used = back ∙ ap (option_map (at_width before)) (all.used ∙ ap (λ (it : Option Log). then_ran it meant.state.world.ran) spread) ∙ ran-spread width before used meant.state.world.ran was;
            output = all.output;
            errors = all.errors;
          }
      by_how how.ReadFault part = record { output = part.output; errors = part.errors }
      by_how how.WriteFault part = record { output = part.output; errors = part.errors }
      by_how how.TreeFault part = record { output = part.output; errors = part.errors }
      by_how how.Memory part = record { output = part.output; errors = part.errors }

  pub script-spread : (held : Option Files) (meant : Files → List ℕ → Ends)
      → IfSome held (λ files. IfSome left (λ text. Leaves (then_ran mid) (seen_of (drawn_of left mid) taken errors) came own tree (seen_of (drawn_of left' mid') taken' errors') (meant files text)))
      → IfSome held (λ files. IfSome left (λ text. Leaves (ran_at width used) (seen_of (drawn_of left used) taken errors) came own tree (seen_of (drawn_of left' used') taken' errors') (meant files text)))
  script-spread held meant leaves = by_told held left (λ files text. leaves-spread (meant files text)) leaves
    where
      by_told : {First Next : Files → List ℕ → Type 0} (held : Option Files) (left : Option (List ℕ)) → ((files : Files) (text : List ℕ) → First files text → Next files text)
          → IfSome held (λ files. IfSome left (λ text. First files text)) → IfSome held (λ files. IfSome left (λ text. Next files text))
      by_told None left step is = tt
      by_told (Some files) None step is = tt
      by_told (Some files) (Some text) step is = step files text is

-- a script begins where nothing is written to a file
pub begun-sound : (session : Session) (tree : TreeState) → session ≡ begun_session → IfSome tree.held NoWriterOut → IsSound session tree
begun-sound session tree is whole = subst (λ (it : Session). IsSound it tree) (sym is) (by_held tree.held whole)
  where
    by_held : (held : Option Files) → IfSome held NoWriterOut → IfSome held (Stands begun_session.streams)
    by_held None whole = tt
    by_held (Some files) whole = record { whole = whole; output = tt; errors = tt }

-- a script is its list, or nothing
pub script-some : (script : Script) (list : declared_list.List) (old new : Point) (came : How) → script.body ≡ Some list → Evaluates (λ expansions. list_means expansions pages (list_tree list)) old came new
    → Evaluates (λ expansions. script_means expansions pages (script_tree script)) old came new
script-some script list old new came is one =
    subst (λ (it : Option declared_list.List). Evaluates (λ expansions. script_means expansions pages (option_map list_tree it)) old came new) (sym is) one

pub script-none : (script : Script) (at : Point) → script.body ≡ None → Evaluates (λ expansions. script_means expansions pages (script_tree script)) at (how.Gone flow.On) at
script-none script at is =
    subst (λ (it : Option declared_list.List). Evaluates (λ expansions. script_means expansions pages (option_map list_tree it)) at (how.Gone flow.On) at) (sym is) (nothing at)
