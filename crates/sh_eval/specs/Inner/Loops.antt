-- How the shell changes where a condition leaves its loop, for the function that does it.
use Rattle.std.specs.Prelude.{nat_le, if◌then◌else◌}
use Rattle.sh_eval.specs.declared.flows.Flow.{Flow}
use Rattle.sh_eval.specs.declared.flows.Flow.TheVariants as flow
use Rattle.sh_eval.specs.declared.shell.Shell.{Shell}
use Rattle.sh_eval.specs.Shells.{with_status}

-- the loop has the status of its last body, unless it goes on
abbrev pub condition_left : Flow → Shell → Shell
condition_left flow.On shell = shell
condition_left (flow.Break count) shell = with_status shell.body_status shell
condition_left (flow.Continue count) shell = if nat_le count 1 then shell else with_status shell.body_status shell
condition_left flow.Exit shell = shell
condition_left (flow.Refused cause) shell = shell
