-- Whether entries can stand together in one tree. (own: what the caller owes who makes a tree in memory)
use Rattle.std.specs.Prelude.{ℕ, List, [], ◌∷◌, map, Bool, true, ◌&&◌, not, nat_eq}
use Rattle.std.specs.Option.{is_some}
use Rattle.std.specs.List.{list_all, starts_with}
use Rattle.std.specs.Cmp.Lexicographic.{pointwise}
use Rattle.ps_world.specs.Paths.{Components, path_of}
use Rattle.ps_fakes.specs.Trees.{Entry, named_path}
use Rattle.ps_fakes.specs.declared.standing.Site.{Site}

-- where an entry stands, and whether it is a file
abbrev pub site_of : Entry → Site
site_of entry = record { path = named_path entry.0; is_file = is_some entry.1 }

abbrev pub is_same_path : Components → Components → Bool
is_same_path path other = pointwise (pointwise nat_eq) path other

-- the one path is the other, or above it at some height
abbrev pub is_on_way_to : Components → Components → Bool
is_on_way_to path other = starts_with (pointwise nat_eq) other path

-- no file stands on the way to the path
abbrev pub leaves_free : Site → Components → Bool
leaves_free site path = not (site.is_file && is_on_way_to site.path path)

-- the two have two paths, and neither is a file on the way to the other
abbrev pub stand_beside : Site → Site → Bool
stand_beside site other = not (is_same_path site.path other.path) && (leaves_free site other.path && leaves_free other site.path)

-- every two of these stand beside each other
abbrev pub stand_together : List Site → Bool
stand_together [] = true
stand_together (site ∷ sites) = list_all (λ other. stand_beside site other) sites && stand_together sites

-- the text of each entry spells a normal absolute path
abbrev pub all_spell_paths : List Entry → Bool
all_spell_paths entries = list_all (λ entry. is_some (path_of entry.0)) entries

-- the entries make a tree with this home: home and all of them spell normal absolute paths, no path stands twice, and no file's
-- path is home, or a parent, at any height, of home or of another entry
abbrev pub is_tree : List ℕ → List Entry → Bool
is_tree home entries =
    (is_some (path_of home) && all_spell_paths entries)
    && (list_all (λ site. leaves_free site (named_path home)) (map site_of entries) && stand_together (map site_of entries))
