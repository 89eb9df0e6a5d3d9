-- uniq (XCU uniq): of each group of equal lines the first one, its count, or neither.
use Rattle.std.specs.Prelude.{ℕ, List, ◌++◌, map, false}
use Rattle.std.specs.List.{flat_map}
use Rattle.ps_lines.specs.Lines.{lines}
use Rattle.ut_args.specs.declared.commands.UniqArgs.{UniqArgs}
use Rattle.ut_args.specs.declared.commands.Groups.{Groups}
use Rattle.ut_args.specs.declared.commands.Groups.TheVariants as groups
use Rattle.ut_streams.specs.Utilities.{Utility, each_by_itself}
use Rattle.ut_groups.specs.declared.skips.Skip.{Skip}
use Rattle.ut_groups.specs.declared.forms.Form.{Form}
use Rattle.ut_groups.specs.declared.forms.Form.TheVariants as form
use Rattle.ut_groups.specs.Groups.{group_of, group_text, grouped}

abbrev pub skip_of : UniqArgs → Skip
skip_of args = record { fields = args.fields; bytes = args.bytes }

-- what is written of the groups of these lines
abbrev pub groups_of_lines : Skip → Form → Groups → List (List ℕ) → List ℕ
groups_of_lines skip form groups lines = flat_map (group_text groups) (grouped skip (map (group_of form) lines))

abbrev pub uniq_output : UniqArgs → List ℕ → List ℕ
uniq_output args text = groups_of_lines (skip_of args) form.Plain args.groups (lines text)

-- the map keeps the counts wherever they may be wanted, and so an aggregate reads them
abbrev pub groups_kept : Groups → Groups
groups_kept groups.All = groups.All
groups_kept groups.Counted = groups.Counted
groups_kept groups.Repeated = groups.Counted
groups_kept groups.Single = groups.Counted

abbrev pub form_kept : Groups → Form
form_kept groups.All = form.Plain
form_kept groups.Counted = form.Counted
form_kept groups.Repeated = form.Counted
form_kept groups.Single = form.Counted

abbrev pub uniq_part : UniqArgs → List ℕ → List ℕ
uniq_part args text = groups_of_lines (skip_of args) form.Plain (groups_kept args.groups) (lines text)

-- neighbours are joined again, wherever they come from
abbrev pub uniq_joined : UniqArgs → List ℕ → List ℕ → List ℕ
uniq_joined args first second = groups_of_lines (skip_of args) (form_kept args.groups) (groups_kept args.groups) (lines first ++ lines second)

-- each group by the count before it, which isn't written
abbrev pub each_counted : Groups → List ℕ → List ℕ
each_counted groups text = flat_map (λ line. group_text groups (group_of form.Counted line)) (lines text)

abbrev pub uniq_finish : Groups → List ℕ → List ℕ
uniq_finish groups.All text = text
uniq_finish groups.Counted text = text
uniq_finish groups.Repeated text = each_counted groups.Repeated text
uniq_finish groups.Single text = each_counted groups.Single text

abbrev pub uniq : UniqArgs → Utility
uniq args = record (each_by_itself (uniq_output args) (λ text. false)) {
  part = uniq_part args;
  aggregate = uniq_joined args;
  finish = uniq_finish args.groups;
}
