-- tr (XCU tr): deletion, translation, then squeezing. `ut_strings` says which bytes a string stands for.
use Rattle.std.specs.Prelude.{ℕ, List, ◌++◌, false, Option, None, Some, if◌then◌else◌}
use Rattle.ut_args.specs.Strings.{image}
use Rattle.ut_args.specs.declared.commands.TrArgs.{TrArgs}
use Rattle.ut_bytes.specs.Steps.{deleted, squeezed_behind, translated}
use Rattle.ut_options.specs.Rows.{is_among}
use Rattle.ut_streams.specs.Utilities.{Utility, each_by_itself}

-- the byte that a byte becomes
abbrev pub image_of : List ℕ → List ℕ → ℕ → ℕ
image_of from to byte = image byte byte byte from to

-- the text translated, where there is a second string
abbrev pub translated_to : List ℕ → Option (List ℕ) → List ℕ → List ℕ
translated_to from None text = text
translated_to from (Some to) text = translated (image_of from to) text

-- the last string that is given
abbrev pub last_string : List ℕ → Option (List ℕ) → List ℕ
last_string from None = from
last_string from (Some to) = to

-- the bytes of the first string are deleted, or become those of the second
abbrev pub edited : TrArgs → List ℕ → List ℕ
edited args text = if args.deletes then deleted (is_among args.from) text else translated_to args.from args.to text

-- the bytes of the last string are squeezed
abbrev pub squeezed : TrArgs → List ℕ → List ℕ
squeezed args text = if args.squeezes then squeezed_behind None (is_among (last_string args.from args.to)) text else text

-- the output for a text
abbrev pub tr_output : TrArgs → List ℕ → List ℕ
tr_output args text = squeezed args (edited args text)

-- it reads one input; the parts of an input are squeezed once more where they meet
abbrev pub tr : TrArgs → Utility
tr args = record (each_by_itself (tr_output args) (λ text. false)) {
  aggregate = λ first second. squeezed args (first ++ second);
}
