-- tee (XCU tee): the output for a text is the text; what its files get is no output. cat's definition stands in `ut_streams`.
use Rattle.std.specs.Prelude.{false}
use Rattle.ut_args.specs.declared.commands.TeeArgs.{TeeArgs}
use Rattle.ut_streams.specs.Utilities.{Utility, each_by_itself}

abbrev pub tee : TeeArgs → Utility
tee args = each_by_itself (λ text. text) (λ text. false)
