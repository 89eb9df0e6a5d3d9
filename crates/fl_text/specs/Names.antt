-- The kinds of nodes, by the names that a graph's text gives them (own).
use Rattle.std.specs.Prelude.{ℕ, List, [], ◌∷◌, Option, nat_eq, codes, find}
use Rattle.std.specs.Cmp.Lexicographic.{pointwise}
use Rattle.fl_text.specs.declared.names.Name.{Name}
use Rattle.fl_text.specs.declared.names.Name.TheVariants as name

abbrev pub name_text : Name → List ℕ
name_text name.Source = codes "source"
name_text name.Text = codes "text"
name_text name.Split = codes "split"
name_text name.Map = codes "map"
name_text name.Whole = codes "whole"
name_text name.Cat = codes "cat"
name_text name.Agg = codes "agg"
name_text name.Finish = codes "finish"
name_text name.Tee = codes "tee"
name_text name.Drain = codes "drain"
name_text name.Sink = codes "sink"

abbrev pub all_names : List Name
all_names =
    name.Source ∷ name.Text ∷ name.Split ∷ name.Map ∷ name.Whole ∷ name.Cat ∷ name.Agg ∷ name.Finish ∷ name.Tee ∷ name.Drain ∷ name.Sink ∷ []

-- the kind that a text names; no two have one name
unfoldable pub name_of : List ℕ → Option Name
name_of text = find (λ name. pointwise nat_eq (name_text name) text) all_names
