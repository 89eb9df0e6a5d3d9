-- The commands of the table, by name (XCU 2.14 and the page of each utility).
use Rattle.std.specs.Prelude.{ℕ, List, [], ◌∷◌, Option, nat_eq, codes, find}
use Rattle.std.specs.Cmp.Lexicographic.{pointwise}
use Rattle.ut_args.specs.declared.names.Name.{Name}
use Rattle.ut_args.specs.declared.names.Name.TheVariants as name

-- the name as a script writes it
abbrev pub name_text : Name → List ℕ
name_text name.Cat = codes "cat"
name_text name.Grep = codes "grep"
name_text name.Tr = codes "tr"
name_text name.Cut = codes "cut"
name_text name.Head = codes "head"
name_text name.Tail = codes "tail"
name_text name.Wc = codes "wc"
name_text name.Uniq = codes "uniq"
name_text name.Sort = codes "sort"
name_text name.Paste = codes "paste"
name_text name.Tee = codes "tee"
name_text name.True = codes "true"
name_text name.False = codes "false"
name_text name.Colon = codes ":"
name_text name.Break = codes "break"
name_text name.Continue = codes "continue"
name_text name.Exit = codes "exit"
name_text name.Set = codes "set"
name_text name.Shift = codes "shift"
name_text name.Unset = codes "unset"
name_text name.Read = codes "read"
name_text name.Test = codes "test"
name_text name.Bracket = codes "["
name_text name.Echo = codes "echo"

abbrev pub all_names : List Name
all_names =
    name.Cat ∷ name.Grep ∷ name.Tr ∷ name.Cut ∷ name.Head ∷ name.Tail ∷ name.Wc ∷ name.Uniq ∷ name.Sort ∷ name.Paste ∷ name.Tee ∷ name.True
    ∷ name.False ∷ name.Colon ∷ name.Break ∷ name.Continue ∷ name.Exit ∷ name.Set ∷ name.Shift ∷ name.Unset ∷ name.Read ∷ name.Test ∷ name.Bracket ∷ name.Echo ∷ []

-- the command that a word names; no two have one name
unfoldable pub name_of : List ℕ → Option Name
name_of word = find (λ name. pointwise nat_eq (name_text name) word) all_names
