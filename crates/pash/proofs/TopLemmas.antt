-- What a run says of the answers of the top call.
use Rattle.std.proofs.Common.{◌≡◌, ℕ, Option, Some, None, Result, Ok, Err, IfOk, sym, subst}
use Rattle.std.specs.Option.{IfSome, MatchOption}
use Rattle.ps_world.specs.Files.{Files}
use Rattle.ps_world.proofs.ToldLemmas.{grew_by_whole}
use Rattle.sh_parse.specs.Outcomes.{AreOutcomes, Readings}
use Rattle.sh_expand.specs.Outcomes.{AreExpansions, Expansions}
use Rattle.sh_eval.specs.Contract.{Seen}
use Rattle.sh_eval.specs.Scripts.{Stopped}
use Rattle.pash.specs.Answers.{HasFaultStatus, IsAnswer, IsOfScript}
use Rattle.pash.specs.Meaning.{Meaning, outside_of}
use Rattle.pash.specs.Runs.{Leaves, Means, Point, RunsAs}
use Rattle.pash.specs.Words.{Command}
use Rattle.pash.specs.declared.answers.Outcome.{Outcome}
use Rattle.pash.specs.declared.answers.RunFault.{RunFault}
use Rattle.pash.specs.declared.answers.Why.{Why}
use Rattle.pash.specs.declared.answers.Why.TheVariants as why
use Rattle.pash.proofs.RunLemmas.{where_told}

-- a meaning that was left was written whole, and so by a prefix
pub left-stopped : (meaning : Meaning) (outcome : Outcome) (held : Option Files) (old new : Seen) → Leaves meaning outcome held old new
    → Stopped old new meaning.world
left-stopped meaning outcome held old new left =
    record {
      output = grew_by_whole old.taken new.taken meaning.world.output left.output;
      errors = grew_by_whole old.errors new.errors meaning.world.errors left.errors;
    }

-- however a run came out, output and errors have grown by prefixes
pub prefixes-so : (means : Means) (old new : Point) (result : Result Outcome RunFault) → RunsAs means old result new
    → (reads : Readings) → AreOutcomes reads → (expansions : Expansions) → AreExpansions expansions → IfSome old.tree.held
    (λ files. IfSome old.seen.drawn.left (λ text.
    Stopped old.seen new.seen (means reads expansions (outside_of old.tree.home files text)).world))
prefixes-so means old new (Ok outcome) ran reads are expansions exps =
    where_told (λ files text. Leaves (means reads expansions (outside_of old.tree.home files text)) outcome new.tree.held old.seen new.seen)
    (λ files text. Stopped old.seen new.seen (means reads expansions (outside_of old.tree.home files text)).world)
    old.tree.held old.seen.drawn.left
    (λ files text left. left-stopped (means reads expansions (outside_of old.tree.home files text)) outcome new.tree.held old.seen new.seen left)
    (ran.comes reads are expansions exps)
prefixes-so means old new (Err stopped) ran reads are expansions exps = ran.comes reads are expansions exps

-- a command that has come to an answer left its meaning
pub meaning-so : (means : Means) (old new : Point) (result : Result Outcome RunFault) (outcome : Outcome) → result ≡ Ok outcome → RunsAs means old result new
    → (reads : Readings) → AreOutcomes reads → (expansions : Expansions) → AreExpansions expansions → IsAnswer outcome.why → IfSome old.tree.held
    (λ files. IfSome old.seen.drawn.left (λ text.
    Leaves (means reads expansions (outside_of old.tree.home files text)) outcome new.tree.held old.seen new.seen))
meaning-so means old new result outcome is came reads are expansions exps answer =
    (subst (λ (it : Result Outcome RunFault). RunsAs means old it new) is came).comes reads are expansions exps

-- the answers for a script and that of usage are no faults
no-fault : (command : Option Command) (answer : Why) (status : ℕ) → MatchOption command (answer ≡ why.Usage) (λ _. IsOfScript answer)
    → HasFaultStatus answer status
no-fault None answer status is = subst (λ (it : Why). HasFaultStatus it status) (sym is) tt
no-fault (Some command) why.Finished status is = tt
no-fault (Some command) (why.Refused cause) status is = tt
no-fault (Some command) why.Usage status is = tt
no-fault (Some command) (why.NoScript path) status is = tt
no-fault (Some command) why.NotJson status is = tt
no-fault (Some command) why.NotGraph status is = tt
no-fault (Some command) why.BadVersion status is = tt
no-fault (Some command) (why.NoFile path) status is = tt
no-fault (Some command) why.ReadFault status is = absurd is
no-fault (Some command) why.WriteFault status is = absurd is
no-fault (Some command) why.TreeFault status is = absurd is
no-fault (Some command) why.Memory status is = absurd is

pub status-so : (command : Option Command) (result : Result Outcome RunFault) (outcome : Outcome) → result ≡ Ok outcome
    → IfOk result (λ it. MatchOption command (it.why ≡ why.Usage) (λ _. IsOfScript it.why)) → HasFaultStatus outcome.why outcome.status
status-so command result outcome is came =
    no-fault command outcome.why outcome.status
    (subst (λ (one : Result Outcome RunFault). IfOk one (λ it. MatchOption command (it.why ≡ why.Usage) (λ _. IsOfScript it.why))) is came)
