-- Normal absolute paths, as lists of components (XBD 3.2 Absolute Pathname, 4.13 Pathname Resolution).
use Rattle.std.specs.Prelude.{ℕ, ◌-◌, List, [], ◌∷◌, length, take, Bool, ◌&&◌, not, codes, nat_eq, true, if◌then◌else◌, Option, Some, None}
use Rattle.std.specs.List.{list_any, list_all, slice_split, flat_map}
use Rattle.std.specs.Str.{bytes_eq}
use Rattle.std.specs.declared.cmp.Ordering.{Ordering}
use Rattle.std.specs.Ordering.{nat_cmp}
use Rattle.std.specs.Cmp.{IsTotalOrder, nat_cmp_total}
use Rattle.std.specs.Cmp.Lexicographic.{slice_cmp, lists_total}
use Rattle.std.specs.FinMap.{IsAntisymmetric, nat_cmp-IsAntisymmetric, slice_cmp-IsAntisymmetric}

-- a path, from the root
abbrev pub Components : Type 0
Components = List (List ℕ)

-- the byte that parts components
abbrev pub slash : ℕ
slash = 47

abbrev pub is_slash : ℕ → Bool
is_slash byte = nat_eq byte slash

-- the component leaves the directory as it is: `.`, and the empty one between two slashes or after the last
unfoldable pub stays : List ℕ → Bool
stays [] = true
stays (byte ∷ bytes) = bytes_eq (byte ∷ bytes) (codes ".")

-- the component leads to the parent: `..`
unfoldable pub goes_up : List ℕ → Bool
goes_up component = bytes_eq component (codes "..")

-- a slash is in the text
abbrev pub has_slash : List ℕ → Bool
has_slash text = list_any is_slash text

-- a name that may stand in a directory
abbrev pub is_name : List ℕ → Bool
is_name component = not (stays component) && (not (goes_up component) && not (has_slash component))

-- the order of paths, component by component and byte by byte
abbrev pub path_cmp : Components → Components → Ordering
path_cmp = slice_cmp (slice_cmp nat_cmp)

pub path_cmp_total : IsTotalOrder path_cmp
path_cmp_total = lists_total (lists_total nat_cmp_total)

pub path_cmp-IsAntisymmetric : IsAntisymmetric path_cmp
path_cmp-IsAntisymmetric = slice_cmp-IsAntisymmetric (slice_cmp-IsAntisymmetric nat_cmp-IsAntisymmetric)

-- the directory above; the root is its own parent
abbrev pub parent_of : Components → Components
parent_of path = take (length path - 1) path

-- a path's text: a slash before each component, and a slash alone for the root
abbrev pub spelled : Components → List ℕ
spelled [] = slash ∷ []
spelled (name ∷ names) = flat_map (λ part. slash ∷ part) (name ∷ names)

-- the components of a text
abbrev pub components : List ℕ → List (List ℕ)
components text = slice_split is_slash text

-- the path whose text begins with a slash and goes on with these components, if all are names
abbrev pub path_from : List (List ℕ) → Option Components
path_from names = if list_all is_name names then Some names else None

-- the path that a text spells: a normal absolute one, or None
abbrev pub path_of : List ℕ → Option Components
path_of [] = None
path_of (byte ∷ []) = if is_slash byte then Some [] else None
path_of (byte ∷ next ∷ bytes) = if is_slash byte then path_from (components (next ∷ bytes)) else None
