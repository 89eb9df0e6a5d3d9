-- A list of entries that is scanned from the front.
use Rattle.std.proofs.Common.{◌≡◌, List, [], ◌∷◌, nat_eq, cond, Some, refl, sym, ap, ◌∙◌}
use Rattle.std.specs.Ordering.{eq_by_cmp, nat_cmp}
use Rattle.std.specs.Cmp.Lexicographic.{pointwise, slice_cmp, lists_ties, texts_ties}
use Rattle.std.specs.FinMap as finite
use Rattle.ps_world.specs.Paths.{Components, path_cmp, path_cmp_total}
use Rattle.ps_fakes.specs.Trees.{Placed, node_at}

-- equal paths are those that the order of paths doesn't tell apart
path_ties : (path other : Components) → eq_by_cmp path_cmp path other ≡ pointwise (pointwise nat_eq) path other
path_ties path other = sym (lists_ties (slice_cmp nat_cmp) texts_ties path other)

find_first : (entries : List Placed) (path : Components) → finite.find path_cmp path entries ≡ node_at entries path
find_first [] path = refl
find_first (entry ∷ entries) path =
    ap (λ test. cond test (Some entry.1) (finite.find path_cmp path entries)) (path_ties path entry.0)
    ∙ ap (cond (pointwise (pointwise nat_eq) path entry.0) (Some entry.1)) (find_first entries path)

-- what the map of entries has at a path is the first entry there
pub get_first : (entries : List Placed) (path : Components) → finite.get (finite.from_entries {R = path_cmp} entries) path ≡ node_at entries path
get_first entries path = finite.get-from_entries path_cmp_total entries path ∙ find_first entries path
