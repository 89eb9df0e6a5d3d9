-- Redirections as they are done (XCU 2.7): a file is begun, a descriptor leads elsewhere, and behind the command all is as it was.
use Rattle.std.specs.Prelude.{[], Bool, Option, Some, None, if◌then◌else◌}
use Rattle.std.specs.Option.{unwrap_or}
use Rattle.sh_eval.specs.declared.leading.Before.{Before}
use Rattle.sh_eval.specs.declared.streams.From.{From}
use Rattle.sh_eval.specs.declared.streams.Streams.{Streams}
use Rattle.std.specs.FinMap as map
use Rattle.ps_world.specs.Paths.{Components}
use Rattle.ps_world.specs.Files.{Files, Bytes, bytes_at}
use Rattle.ps_world.specs.declared.tree.Mode.{Mode}
use Rattle.ps_world.specs.declared.tree.Mode.TheVariants as mode

-- where descriptors lead before redirections
abbrev pub before_in : Streams → Before
before_in streams = record { from = None; to = streams.to; errors_to = streams.errors_to; held = streams.held }

-- what descriptor 0 read at first is kept
abbrev pub keeping : From → Before → Before
keeping read before = record before { from = Some (unwrap_or before.from read) }

abbrev pub kept_by : Option From → Before → Before
kept_by None before = before
kept_by (Some read) before = keeping read before

-- and it reads that again
abbrev pub read_again : Option From → Streams → Streams
read_again from streams = record streams { from = unwrap_or from streams.from }

-- the descriptors lead where they led
abbrev pub put_back : Before → Streams → Streams
put_back before streams = record { from = unwrap_or before.from streams.from; to = before.to; errors_to = before.errors_to; held = before.held }

-- how a file is opened that is begun
abbrev pub mode_of : Bool → Mode
mode_of anew = if anew then mode.Fresh else mode.Append

-- the files when one is begun: anew, or behind the bytes that it has
abbrev pub begun_at : Bool → Components → Files → Files
begun_at anew path files = map.insert files path (Bytes (if anew then [] else bytes_at files path))
