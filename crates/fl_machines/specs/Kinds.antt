-- The kinds of nodes that run a utility.
use Rattle.std.specs.Prelude.{◌≡◌, ℕ, List, [], ◌∷◌, Bool, true, false, not, ◌&&◌}
use Rattle.fl_classes.specs.Aggregates.{finish_of, map_of}
use Rattle.fl_classes.specs.Utilities.{output_of, selects_of}
use Rattle.ut_args.specs.declared.commands.Groups.{Groups}
use Rattle.ut_args.specs.declared.commands.Groups.TheVariants as groups
use Rattle.ut_args.specs.declared.invocations.Inv.{Inv}
use Rattle.ut_args.specs.declared.invocations.Inv.TheVariants as inv
use Rattle.fl_graph.specs.Kinds.{may_have, reads_one_input, runs_what_is_built}
use Rattle.fl_graph.specs.declared.kinds.NodeKind.{NodeKind}
use Rattle.fl_graph.specs.declared.kinds.NodeKind.TheVariants as kind

-- a map, a whole or a finish
abbrev pub runs_utility : NodeKind → Bool
runs_utility (kind.Map inv) = true
runs_utility (kind.Whole inv) = true
runs_utility (kind.Finish inv) = true
runs_utility other = false

-- a node of this kind with so many ports may stand in a valid graph
abbrev pub is_utility_node : NodeKind → ℕ → ℕ → Bool
is_utility_node kind ins outs = runs_utility kind && (may_have kind ins outs && (reads_one_input kind && runs_what_is_built kind))

-- the command reads its inputs apart, and a machine of it takes any number of ins
abbrev pub reads_apart : Inv → Bool
reads_apart (inv.Grep grep) = true
reads_apart (inv.Head head) = true
reads_apart (inv.Wc wc) = true
reads_apart (inv.Paste paste) = true
reads_apart other = false

-- it reads them at once, and not one after another
abbrev pub reads_at_once : Inv → Bool
reads_at_once (inv.Paste paste) = not paste.args.serial
reads_at_once other = false

-- the map of the command is its output for one input, also where it has a machine of any number of ins
abbrev pub maps_as_whole : Inv → Bool
maps_as_whole (inv.Paste paste) = true
maps_as_whole other = false

-- a node with such a machine: a whole, or a map that is run as one
abbrev pub takes_apart : NodeKind → Bool
takes_apart (kind.Whole inv) = reads_apart inv
takes_apart (kind.Map inv) = maps_as_whole inv
takes_apart other = false

-- the invocation that its machine runs
abbrev pub RunsApart : NodeKind → Inv → Type 0
RunsApart (kind.Whole inv) run = (inv ≡ run) × (reads_apart run ≡ true)
RunsApart (kind.Map inv) run = (inv ≡ run) × (maps_as_whole run ≡ true)
RunsApart other run = ⊥

-- the command writes its input as it is
abbrev pub copies_input : Inv → Bool
copies_input (inv.Cat cat) = true
copies_input (inv.Tee tee) = true
copies_input other = false

-- no group is left out of the counted ones
abbrev pub keeps_all : Groups → Bool
keeps_all groups.All = true
keeps_all groups.Counted = true
keeps_all groups.Repeated = false
keeps_all groups.Single = false

-- the map of the whole is the command's output
abbrev pub finishes_as_is : Inv → Bool
finishes_as_is (inv.Wc wc) = false
finishes_as_is (inv.Uniq uniq) = keeps_all uniq.args.groups
finishes_as_is other = true

-- what such a node writes is what comes at its in
abbrev pub copies : NodeKind → Bool
copies (kind.Map inv) = copies_input inv
copies (kind.Whole inv) = copies_input inv
copies (kind.Finish inv) = finishes_as_is inv
copies other = true

-- what the stream of any other such node writes for one input
abbrev pub stream_output : NodeKind → List ℕ → List ℕ
stream_output (kind.Map inv) text = map_of inv text
stream_output (kind.Whole inv) text = output_of inv (text ∷ [])
stream_output (kind.Finish inv) text = finish_of inv text
stream_output other text = text

-- and whether it selects something
abbrev pub stream_selects : NodeKind → List ℕ → Bool
stream_selects (kind.Map inv) text = selects_of inv (text ∷ [])
stream_selects (kind.Whole inv) text = selects_of inv (text ∷ [])
stream_selects other text = false
