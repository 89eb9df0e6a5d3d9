-- The option letters of each command: those without an argument, those with one, and whether `-N` is a count (the pages of XCU, narrowed).
-- The words of echo, set, test and `[` are no options and operands of this kind.
use Rattle.std.specs.Prelude.{ℕ, List, [], true, false, codes}
use Rattle.ut_options.specs.Rows.{Row}
use Rattle.ut_args.specs.declared.names.Name.{Name}
use Rattle.ut_args.specs.declared.names.Name.TheVariants as name

abbrev pub letters : List ℕ → List ℕ → Row
letters plain valued = record { plain = plain; valued = valued; counts = false }

-- with counts
abbrev pub counting : List ℕ → List ℕ → Row
counting plain valued = record { plain = plain; valued = valued; counts = true }

abbrev pub row : Name → Row
row name.Cat = letters (codes "u") []
row name.Grep = letters (codes "EFcilnqsvx") (codes "e")
row name.Tr = letters (codes "cCds") []
row name.Cut = letters (codes "s") (codes "bcdf")
row name.Head = counting [] (codes "n")
row name.Tail = counting [] (codes "cn")
row name.Wc = letters (codes "clmw") []
row name.Uniq = letters (codes "cdu") (codes "fs")
row name.Sort = letters (codes "bfnru") (codes "kt")
row name.Paste = letters (codes "s") (codes "d")
row name.Tee = letters (codes "a") []
row name.True = letters [] []
row name.False = letters [] []
row name.Colon = letters [] []
row name.Break = letters [] []
row name.Continue = letters [] []
row name.Exit = letters [] []
row name.Set = letters [] []
row name.Shift = letters [] []
row name.Unset = letters (codes "v") []
row name.Read = letters (codes "r") []
row name.Test = letters [] []
row name.Bracket = letters [] []
row name.Echo = letters [] []
