-- Stages of a pipeline of several, for the functions that run them (own).
use Rattle.std.specs.Prelude.{◌≡◌, ℕ, zero, suc, List}
use Rattle.sh_tree.specs.Views.{stages_tree}
use Rattle.sh_tree.specs.declared.commands.Command.{Command}
use Rattle.sh_expand.specs.Outcomes.{Expansions}
use Rattle.fl_commands.specs.declared.members.Member.{Member}
use Rattle.sh_eval.specs.Commands.{position_at, reading_piped, staged}
use Rattle.sh_eval.specs.Contract.{Meaning}
use Rattle.sh_eval.specs.Inner.Gathering.{calls_of, emptied}
use Rattle.sh_eval.specs.Meaning.{later_stages_mean, stages_means}
use Rattle.sh_eval.specs.Segments.{runs_through}
use Rattle.sh_eval.specs.Shells.{with_status}
use Rattle.sh_eval.specs.States.{Means, innermost, piping, reading, unpiped}
use Rattle.sh_eval.specs.Table.{pages}
use Rattle.sh_eval.specs.declared.outcomes.Position.{Position}
use Rattle.sh_eval.specs.declared.outcomes.Position.TheVariants as position
use Rattle.sh_eval.specs.declared.session.Session.{Session}
use Rattle.sh_eval.specs.declared.shell.Shell.{Shell}
use Rattle.sh_eval.specs.declared.staging.Aside.{Aside}
use Rattle.sh_eval.specs.declared.staging.Aside.TheVariants as aside

-- what the stages mean from the one on that has so many before it
abbrev pub rest_means : Expansions → ℕ → List Command → Means
rest_means expansions zero stages = stages_means expansions pages (stages_tree stages)
rest_means expansions (suc place) stages = later_stages_mean expansions pages (stages_tree stages)

-- what members mean that run as one
abbrev pub members_mean : List Member → Meaning
members_mean members expansions state = emptied (runs_through pages (calls_of members) state)

-- as the whole of a pipeline, or as a stage of it that has so many before it and behind it
abbrev pub part_means : ℕ → ℕ → Means → Means
part_means zero zero means state = means state
part_means zero (suc behind) means state = staged position.First means state
part_means (suc before) behind means state = staged (position_at (suc before) behind) means state

-- A STAGE reads what the one before has written, unless it is the first, and writes into a pipe, unless it is the last
abbrev pub entering : Position → Session → Session
entering position.First session = piping session
entering position.Middle session = piping (reading_piped session)
entering position.Last session = reading_piped session

-- what is put aside meanwhile
abbrev pub IsAside : Position → Session → Aside → Type 0
IsAside position.First session (aside.First to) = to ≡ session.streams.to
IsAside position.First session (aside.Middle from to) = ⊥
IsAside position.First session (aside.Last from) = ⊥
IsAside position.Middle session (aside.First to) = ⊥
IsAside position.Middle session (aside.Middle from to) = (from ≡ session.streams.from) × (to ≡ session.streams.to)
IsAside position.Middle session (aside.Last from) = ⊥
IsAside position.Last session (aside.First to) = ⊥
IsAside position.Last session (aside.Middle from to) = ⊥
IsAside position.Last session (aside.Last from) = from ≡ session.streams.from

-- and taken up again, behind the stage
abbrev pub back_to : Aside → Session → Session
back_to (aside.First to) session = unpiped to (record session { piped = innermost session })
back_to (aside.Middle from to) session = reading from (unpiped to (record session { piped = innermost session }))
back_to (aside.Last from) session = reading from session

-- the status of the last stays
abbrev pub status_kept : Aside → Shell → Shell → Shell
status_kept (aside.First to) shell inner = shell
status_kept (aside.Middle from to) shell inner = shell
status_kept (aside.Last from) shell inner = with_status inner.status shell
