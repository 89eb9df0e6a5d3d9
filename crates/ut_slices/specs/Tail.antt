-- tail (XCU tail): the last lines or bytes of its input, or those from some one on.
use Rattle.std.specs.Prelude.{ℕ, ◌-◌, List, ◌++◌, false}
use Rattle.ut_args.specs.declared.commands.Origin.{Origin}
use Rattle.ut_args.specs.declared.commands.Origin.TheVariants as origin
use Rattle.ut_args.specs.declared.commands.TailArgs.{TailArgs}
use Rattle.ut_args.specs.declared.commands.Unit.{Unit}
use Rattle.ut_slices.specs.Ends.{behind, last}
use Rattle.ut_streams.specs.Utilities.{Utility, each_by_itself}

-- the output for a text: from the line or byte of a number on, counted from 1, or so many at the end
abbrev pub tail_by : Unit → Origin → List ℕ → List ℕ
tail_by unit (origin.Start number) text = behind unit (number - 1) text
tail_by unit (origin.End number) text = last unit number text

abbrev pub tail_output : TailArgs → List ℕ → List ℕ
tail_output args text = tail_by args.part.unit args.part.origin text

-- the end of the whole is the end of the ends of its parts
abbrev pub tail : TailArgs → Utility
tail args = record (each_by_itself (tail_output args) (λ text. false)) {
  aggregate = λ first second. tail_output args (first ++ second);
}
