-- The kind of node that parts are.
use Rattle.std.specs.Prelude.{◌≡◌, refl, ℕ, List, Bool, true, false, not, ◌&&◌, Option, Some, None, is_some, option_map, option_and_then, Result, Ok, Err, if◌then◌else◌}
use Rattle.ps_world.specs.Paths.{Components}
use Rattle.ps_world.specs.declared.tree.Mode.{Mode}
use Rattle.ps_world.specs.declared.tree.Mode.TheVariants as mode
use Rattle.ut_args.specs.Reading.{invocation}
use Rattle.ut_args.specs.declared.invocations.Inv.{Inv}
use Rattle.ut_args.specs.declared.invocations.Inv.TheVariants as inv
use Rattle.ut_args.specs.declared.commands.Command.{Command}
use Rattle.ut_args.specs.declared.commands.Command.TheVariants as command
use Rattle.ut_args.specs.declared.faults.ArgFault.{ArgFault}
use Rattle.fl_graph.specs.declared.kinds.NodeKind.{NodeKind}
use Rattle.fl_graph.specs.declared.kinds.NodeKind.TheVariants as kind
use Rattle.fl_graph.specs.declared.kinds.From.{From}
use Rattle.fl_graph.specs.declared.kinds.From.TheVariants as from
use Rattle.fl_graph.specs.declared.kinds.To.{To}
use Rattle.fl_graph.specs.declared.kinds.To.TheVariants as to
use Rattle.fl_text.specs.declared.names.Name.{Name}
use Rattle.fl_text.specs.declared.names.Name.TheVariants as name
use Rattle.fl_text.specs.declared.parts.Parts.{Parts}

-- the invocation of words that ask for a command
abbrev pub inv_with : (words : List (List ℕ)) (asked : Command) → invocation words ≡ Ok asked → Inv
inv_with words (command.Cat args) read = inv.Cat (record { words = words; args = args; read = read })
inv_with words (command.Grep args) read = inv.Grep (record { words = words; args = args; read = read })
inv_with words (command.Tr args) read = inv.Tr (record { words = words; args = args; read = read })
inv_with words (command.Cut args) read = inv.Cut (record { words = words; args = args; read = read })
inv_with words (command.Head args) read = inv.Head (record { words = words; args = args; read = read })
inv_with words (command.Tail args) read = inv.Tail (record { words = words; args = args; read = read })
inv_with words (command.Wc args) read = inv.Wc (record { words = words; args = args; read = read })
inv_with words (command.Uniq args) read = inv.Uniq (record { words = words; args = args; read = read })
inv_with words (command.Sort args) read = inv.Sort (record { words = words; args = args; read = read })
inv_with words (command.Paste args) read = inv.Paste (record { words = words; args = args; read = read })
inv_with words (command.Tee args) read = inv.Tee (record { words = words; args = args; read = read })
inv_with words command.True read = inv.True (record { words = words; read = read })
inv_with words command.False read = inv.False (record { words = words; read = read })
inv_with words command.Colon read = inv.Colon (record { words = words; read = read })
inv_with words (command.Break args) read = inv.Break (record { words = words; args = args; read = read })
inv_with words (command.Continue args) read = inv.Continue (record { words = words; args = args; read = read })
inv_with words (command.Exit args) read = inv.Exit (record { words = words; args = args; read = read })
inv_with words (command.Set args) read = inv.Set (record { words = words; args = args; read = read })
inv_with words (command.Shift args) read = inv.Shift (record { words = words; args = args; read = read })
inv_with words (command.Unset args) read = inv.Unset (record { words = words; args = args; read = read })
inv_with words (command.Read args) read = inv.Read (record { words = words; args = args; read = read })
inv_with words (command.Test args) read = inv.Test (record { words = words; args = args; read = read })
inv_with words (command.Bracket args) read = inv.Bracket (record { words = words; args = args; read = read })
inv_with words (command.Echo args) read = inv.Echo (record { words = words; args = args; read = read })

abbrev pub inv_from : (words : List (List ℕ)) (asked : Result Command ArgFault) → invocation words ≡ asked → Option Inv
inv_from words (Ok asked) read = Some (inv_with words asked read)
inv_from words (Err fault) read = None

-- the invocation that words are, if they are one
unfoldable pub inv_of : List (List ℕ) → Option Inv
inv_of words = inv_from words (invocation words) refl

-- with a switch and so on, where it is there; a name has these and no others
abbrev pub fit : Name → Bool → Bool → Bool → Bool → Bool → Bool
fit name.Source append close path text words = not append && (not close && (not text && not words))
fit name.Text append close path text words = not append && (not close && (not path && not words))
fit name.Split append close path text words = not append && (not close && (not path && (not text && not words)))
fit name.Map append close path text words = not append && (not close && (not path && not text))
fit name.Whole append close path text words = not append && (not close && (not path && not text))
fit name.Cat append close path text words = not append && (not path && (not text && not words))
fit name.Agg append close path text words = not append && (not close && (not path && not text))
fit name.Finish append close path text words = not append && (not close && (not path && not text))
fit name.Tee append close path text words = not close && (not text && not words)
fit name.Drain append close path text words = not append && (not close && (not path && (not text && not words)))
fit name.Sink append close path text words = not close && (not text && not words)

abbrev pub parts_fit : Parts → Bool
parts_fit parts = fit parts.name (is_some parts.append) (is_some parts.close) (is_some parts.path) (is_some parts.text) (is_some parts.words)

abbrev pub mode_of : Bool → Mode
mode_of false = mode.Fresh
mode_of true = mode.Append

abbrev pub source_of : Option Components → From
source_of None = from.Input
source_of (Some path) = from.File path

-- a file has a path and a mode
abbrev pub sink_of : Option Components → Option Bool → Option To
sink_of None None = Some to.Output
sink_of None (Some append) = None
sink_of (Some path) None = None
sink_of (Some path) (Some append) = Some (to.File path (mode_of append))

abbrev pub tee_of : Option Components → Option Bool → Option NodeKind
tee_of None append = None
tee_of (Some path) None = None
tee_of (Some path) (Some append) = Some (kind.TeeFile path (mode_of append))

-- the kind of this name with the parts that it asks for
abbrev pub kind_from : Name → Parts → Option NodeKind
kind_from name.Source parts = Some (kind.Source (source_of parts.path))
kind_from name.Text parts = option_map kind.Text parts.text
kind_from name.Split parts = Some kind.Split
kind_from name.Map parts = option_map kind.Map (option_and_then inv_of parts.words)
kind_from name.Whole parts = option_map kind.Whole (option_and_then inv_of parts.words)
kind_from name.Cat parts = option_map kind.Cat parts.close
kind_from name.Agg parts = option_map kind.Agg (option_and_then inv_of parts.words)
kind_from name.Finish parts = option_map kind.Finish (option_and_then inv_of parts.words)
kind_from name.Tee parts = tee_of parts.path parts.append
kind_from name.Drain parts = Some kind.Drain
kind_from name.Sink parts = option_map kind.Sink (sink_of parts.path parts.append)

abbrev pub kind_of : Parts → Option NodeKind
kind_of parts = if parts_fit parts then kind_from parts.name parts else None
