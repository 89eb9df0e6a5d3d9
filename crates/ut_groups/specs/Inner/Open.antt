-- A group that is open: its first line has come, and more of it may come.
use Rattle.std.specs.Prelude.{ℕ, List, [], ◌∷◌, ◌++◌, map, Bool, if◌then◌else◌}
use Rattle.std.specs.List.{flat_map}
use Rattle.ps_lines.specs.Lines.{lines}
use Rattle.ut_streams.specs.Streams.{Wrote}
use Rattle.ut_args.specs.declared.commands.Groups.{Groups}
use Rattle.ut_args.specs.declared.commands.Groups.TheVariants as groups
use Rattle.ut_groups.specs.declared.forms.Group.{Group as GroupAt}
use Rattle.ut_groups.specs.declared.grouping.Grouping.{Grouping}
use Rattle.ut_groups.specs.Groups.{Group, before_groups, group_of, group_text, grouped, line_of}
use Rattle.ut_groups.specs.Uniq.{groups_of_lines}

-- a group by its first line and its count
abbrev pub group_held : List ℕ → ℕ → Group
group_held first count = record { first = first; count = count }

abbrev pub group_at : GroupAt → Group
group_at group = group_held group.first.now group.count

-- what is written as its first line comes, and what as it has ended
abbrev pub opening : Groups → List ℕ → List ℕ
opening groups.All first = line_of first
opening groups.Counted first = []
opening groups.Repeated first = []
opening groups.Single first = []

abbrev pub ending : Groups → Group → List ℕ
ending groups.All group = []
ending groups.Counted group = group_text groups.Counted group
ending groups.Repeated group = group_text groups.Repeated group
ending groups.Single group = group_text groups.Single group

-- what is left to write of groups the first of which is open
abbrev pub left_of : Groups → List Group → List ℕ
left_of groups [] = []
left_of groups (group ∷ others) = ending groups group ++ flat_map (group_text groups) others

-- the same, where a group is open and these lines are still to come
abbrev pub due_behind : Grouping → Group → List (List ℕ) → List ℕ
due_behind grouping open_group coming =
    left_of grouping.groups (before_groups grouping.skip open_group (grouped grouping.skip (map (group_of grouping.form) coming)))

abbrev pub due_of : Grouping → Bool → Group → List (List ℕ) → List ℕ
due_of grouping is_open open_group coming =
    if is_open then due_behind grouping open_group coming else groups_of_lines grouping.skip grouping.form grouping.groups coming

-- the lines of a text come where one group is open, and then the next one is; old grew to new
abbrev pub PassesLines : Grouping → Group → List ℕ → Group → List ℕ → List ℕ → Bool → Type 0
PassesLines grouping group text next old new whole = Wrote (λ more. due_behind grouping group (lines text ++ more)) (due_behind grouping next) old new whole
