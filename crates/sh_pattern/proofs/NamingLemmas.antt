-- Every marked text stands for some names: the files are finitely many, so all names can be listed.
use Rattle.std.proofs.Common.{◌≡◌, ℕ, ◌⊎◌, inl, inr, Bool, true, false, ◌||◌, List, [], ◌∷◌, ◌++◌, map, Option, Some, None, is_some, refl, sym, ap, subst, ◌∙◌, T}
use Rattle.std.specs.FinMap.{FinMap, from_entries, keys, entries, entries_sorted, get, contains_key-keys, get-from_entries, is_sorted}
use Rattle.std.specs.FinMap.Entries.{below_all, find, is_some-find}
use Rattle.std.specs.List.{list_any, AllByRecursion}
use Rattle.std.specs.List.Sorted.{IsStrictlySortedBy}
use Rattle.std.specs.Ordering.{eq_by_cmp, is_eq, is_lt, nat_cmp}
use Rattle.std.specs.Cmp.Lexicographic.{slice_cmp}
use Rattle.std.specs.declared.cmp.Ordering.{Ordering}
use Rattle.std.specs.declared.cmp.Ordering.TheVariants as order
use Rattle.std.proofs.lemmas.Bool.{and_parts, or_left, or_right, true≢false}
use Rattle.std.proofs.lemmas.Cmp.{nat_list_cmp_total, tied_itself}
use Rattle.std.proofs.lemmas.Map.Lookups.{exact_bytes}
use Rattle.std.proofs.lemmas.Map.Views.{tells_apart}
use Rattle.ps_world.specs.Files.{Files, kind_at}
use Rattle.ps_world.specs.Paths.{Components, is_name, path_cmp, path_cmp-IsAntisymmetric, slash}
use Rattle.ps_world.specs.Places.{start_of}
use Rattle.ps_world.specs.declared.tree.Kind.{Kind}
use Rattle.ps_world.specs.declared.tree.Kind.TheVariants as kind
use Rattle.sh_pattern.specs.declared.elements.Element.{Element}
use Rattle.sh_pattern.specs.declared.marks.Mark.{Mark}
use Rattle.sh_pattern.specs.Fits.{Fits}
use Rattle.sh_pattern.specs.PathExpansion.{bytes_of, components_of, has_special, begins_with_period, FitsComponent, place_in, Leads, Names, IsAmong, AreNamed, Expands, unlooked, matched, unmatched}
use Rattle.sh_pattern.specs.Reading.{Reads}
use Rattle.sh_pattern.proofs.ExpansionLemmas.{exists_there, place_of_name, same_place}
use Rattle.sh_pattern.proofs.PatternLemmas.{Decided, fits_decided, some_reading}
use Rattle.sh_pattern.proofs.ReadingLemmas.{one_reading}

-- Lists of all that a fact holds of

-- the item is in the list
abbrev Among : {X : Type 0} → List X → X → Type 0
Among [] item = ⊥
Among (first ∷ others) item = (first ≡ item) ⊎ Among others item

record Listed {X : Type 0} (Holds : X → Type 0) : Type 0 where
  items : List X
  each : (item : X) → Among items item → Holds item
  all : (item : X) → Holds item → Among items item

module _ {X : Type 0} where
  among_front : (front back : List X) (item : X) → Among front item → Among (front ++ back) item
  among_front [] back item there = absurd there
  among_front (first ∷ front) back item (inl is) = inl is
  among_front (first ∷ front) back item (inr later) = inr (among_front front back item later)

  among_back : (front back : List X) (item : X) → Among back item → Among (front ++ back) item
  among_back [] back item there = there
  among_back (first ∷ front) back item there = inr (among_back front back item there)

  among_either : (front back : List X) (item : X) → Among (front ++ back) item → Among front item ⊎ Among back item
  among_either [] back item there = inr there
  among_either (first ∷ front) back item (inl is) = inl (inl is)
  among_either (first ∷ front) back item (inr later) =
      elim (among_either front back item later) [
        | inl there ↦ inl (inr there)
        | inr there ↦ inr there
      ]

  -- it holds of none, or of one
  listed_none : {Holds : X → Type 0} → ((item : X) → Holds item → ⊥) → Listed Holds
  listed_none none = record { items = []; each = λ item there. absurd there; all = λ item holds. absurd (none item holds) }

  listed_one : {Holds : X → Type 0} (only : X) → Holds only → ((item : X) → Holds item → only ≡ item) → Listed Holds
  listed_one {Holds} only holds same = record { items = only ∷ []; each = λ item there. of_one item there; all = λ item here. inl (same item here) }
    where
      of_one : (item : X) → (only ≡ item) ⊎ ⊥ → Holds item
      of_one item (inl is) = subst Holds is holds
      of_one item (inr never) = absurd never

  -- the same, said otherwise
  listed_as : {One Other : X → Type 0} → ((item : X) → One item → Other item) → ((item : X) → Other item → One item) → Listed One → Listed Other
  listed_as there back list = record { items = list.items; each = λ item among. there item (list.each item among); all = λ item holds. list.all item (back item holds) }

-- what holds by some item of a list
listed_by : {X Y : Type 0} (Holds : X → Y → Type 0) → ((item : X) → Listed (Holds item)) → (items : List X) → Listed (λ (found : Y). (item : X) × Among items item × Holds item found)
listed_by Holds list [] = listed_none (λ found some. some.1)
listed_by {X} {Y} Holds list (first ∷ others) =
    let here = list first in
    let later = listed_by Holds list others in
    record {
      items = here.items ++ later.items;
      each = λ found there. by_part here later found (among_either here.items later.items found there);
      all = λ found some. of_all here later found some;
    }
  where
    by_part : (here : Listed (Holds first)) (later : Listed (λ (found : Y). (item : X) × Among others item × Holds item found)) (found : Y)
        → Among here.items found ⊎ Among later.items found → (item : X) × Among (first ∷ others) item × Holds item found
    by_part here later found (inl there) = (first, inl refl, here.each found there)
    by_part here later found (inr there) = let (item, among, holds) = later.each found there in (item, inr among, holds)

    of_all : (here : Listed (Holds first)) (later : Listed (λ (found : Y). (item : X) × Among others item × Holds item found)) (found : Y)
        → (item : X) × Among (first ∷ others) item × Holds item found → Among (here.items ++ later.items) found
    of_all here later found (item, inl is, holds) = among_front here.items later.items found (here.all found (subst (λ (it : X). Holds it found) (sym is) holds))
    of_all here later found (item, inr among, holds) = among_back here.items later.items found (later.all found (item, among, holds))

-- what a function gives
listed_map : {X Y : Type 0} {Holds : X → Type 0} (make : X → Y) → Listed Holds → Listed (λ (found : Y). (item : X) × Holds item × (found ≡ make item))
listed_map {X} {Y} {Holds} make list =
    listed_as
    (λ found some. let (item, among, is) = some in (item, list.each item among, is))
    (λ found some. let (item, holds, is) = some in (item, list.all item holds, is))
    (listed_by (λ item found. found ≡ make item) (λ item. listed_one (make item) refl (λ found is. sym is)) list.items)

-- Names in a directory

-- the name that a path has in a directory
name_under : Components → Components → List (List ℕ)
name_under [] [] = []
name_under [] (name ∷ []) = name ∷ []
name_under [] (name ∷ next ∷ path) = []
name_under (first ∷ dir) [] = []
name_under (first ∷ dir) (other ∷ path) = name_under dir path

names_under : Components → List Components → List (List ℕ)
names_under dir [] = []
names_under dir (path ∷ paths) = name_under dir path ++ names_under dir paths

name_there : (dir : Components) (name : List ℕ) → Among (name_under dir (dir ++ name ∷ [])) name
unfolding name_under
name_there [] name = inl refl
name_there (first ∷ dir) name = name_there dir name

names_all : (dir : Components) (name : List ℕ) (paths : List Components) → list_any (eq_by_cmp path_cmp (dir ++ name ∷ [])) paths ≡ true → Among (names_under dir paths) name
unfolding names_under
names_all dir name [] there = absurd (true≢false (sym there))
names_all dir name (path ∷ paths) there = by_first (eq_by_cmp path_cmp (dir ++ name ∷ []) path) refl there (names_all dir name paths)
  where
    by_first : (here : Bool) → eq_by_cmp path_cmp (dir ++ name ∷ []) path ≡ here → (here || list_any (eq_by_cmp path_cmp (dir ++ name ∷ [])) paths) ≡ true
        → (list_any (eq_by_cmp path_cmp (dir ++ name ∷ [])) paths ≡ true → Among (names_under dir paths) name) → Among (name_under dir path ++ names_under dir paths) name
    by_first true is behind rest =
        among_front (name_under dir path) (names_under dir paths) name
        (subst (λ (it : Components). Among (name_under dir it) name) (tells_apart path_cmp-IsAntisymmetric (dir ++ name ∷ []) path is) (name_there dir name))
    by_first false is behind rest = among_back (name_under dir path) (names_under dir paths) name (rest behind)

component_decided : (component : List Mark) (name : List ℕ) → Decided (FitsComponent component name)
component_decided component name = by_reading (some_reading component)
  where
    by_reading : (pattern : List Element) × Reads component pattern → Decided (FitsComponent component name)
    by_reading (pattern, reads) = by_fit (fits_decided pattern name)
      where
        by_period : Fits pattern name → (begins may : Bool) → begins_with_period name ≡ begins → begins_with_period (bytes_of component) ≡ may → Decided (FitsComponent component name)
        by_period fits false may first second = inl (record { pattern = pattern; reads = reads; fits = fits; period = λ is. absurd (true≢false (sym is ∙ first)) })
        by_period fits true true first second = inl (record { pattern = pattern; reads = reads; fits = fits; period = λ is. second })
        by_period fits true false first second = inr (λ found. true≢false (sym (found.period first) ∙ second))

        by_fit : Decided (Fits pattern name) → Decided (FitsComponent component name)
        by_fit (inl fits) = by_period fits (begins_with_period name) (begins_with_period (bytes_of component)) refl refl
        by_fit (inr none) = inr (λ found. none (subst (λ (it : List Element). Fits it name) (one_reading found.reads reads) found.fits))

module _ (files : Files) where
  -- a name that stands in a directory is a key
  name_of_key : (dir : Components) (name : List ℕ) → is_some (get files (dir ++ name ∷ [])) ≡ true → Among (names_under dir (keys files)) name
  name_of_key dir name there = names_all dir name (keys files) (sym (contains_key-keys files (dir ++ name ∷ [])) ∙ there)

  module _ (dir : Components) (component : List Mark) where
    -- where the component leads, and under which name
    abbrev LeadsTo : List ℕ × Components → Type 0
    LeadsTo pair = Leads files dir component pair.0 pair.1

    written_list : kind_at files dir ≡ kind.Dir → has_special component ≡ false → Listed LeadsTo
    written_list directory plain = by_place (place_in files dir (bytes_of component)) refl
      where
        spelled : (pair : List ℕ × Components) → LeadsTo pair → (pair.0 ≡ bytes_of component) × (place_in files dir (bytes_of component) ≡ Some pair.1)
        spelled pair leads =
            elim leads.how [
              | inl written ↦ (written.spelled, ap (place_in files dir) (sym written.spelled) ∙ written.named)
              | inr fitting ↦ absurd (true≢false (sym fitting.special ∙ plain))
            ]

        by_place : (found : Option Components) → place_in files dir (bytes_of component) ≡ found → Listed LeadsTo
        by_place None none = listed_none (λ pair leads. let named : None ≡ Some pair.1 = sym none ∙ (spelled pair leads).1 in absurd (cc))
        by_place (Some place) named =
            listed_one (bytes_of component, place) (record { directory = directory; how = inl (record { plain = plain; spelled = refl; named = named }) })
            (λ pair leads.
            let told = spelled pair leads in
            λ i. (sym told.0 i, same_place (sym named ∙ told.1) i))

    -- by one name of the directory
    abbrev LeadsAs : List ℕ → List ℕ × Components → Type 0
    LeadsAs name pair = LeadsTo pair × (pair.0 ≡ name)

    one_name : kind_at files dir ≡ kind.Dir → has_special component ≡ true → (name : List ℕ) → Listed (LeadsAs name)
    one_name directory special name = by_name (is_name name) refl
      where
        fitting : (pair : List ℕ × Components) → LeadsAs name pair → (is_name name ≡ true) × FitsComponent component name × (place_in files dir name ≡ Some pair.1)
        fitting pair (leads, is) =
            elim leads.how [
              | inl written ↦ absurd (true≢false (sym special ∙ written.plain))
              | inr fits ↦ (ap is_name (sym is) ∙ fits.proper, subst (FitsComponent component) is fits.fits, ap (place_in files dir) (sym is) ∙ fits.named)
            ]

        by_place : is_name name ≡ true → FitsComponent component name → (found : Option Components) → place_in files dir name ≡ found → Listed (LeadsAs name)
        by_place proper fits None none = listed_none (λ pair leads. let named : None ≡ Some pair.1 = sym none ∙ (fitting pair leads).2 in absurd (cc))
        by_place proper fits (Some place) named =
            listed_one (name, place) (record { directory = directory; how = inr (record { special = special; proper = proper; fits = fits; named = named }) }, refl)
            (λ pair leads.
            let told = fitting pair leads in
            λ i. (sym leads.1 i, same_place (sym named ∙ told.2) i))

        by_fit : is_name name ≡ true → Decided (FitsComponent component name) → Listed (LeadsAs name)
        by_fit proper (inl fits) = by_place proper fits (place_in files dir name) refl
        by_fit proper (inr none) = listed_none (λ pair leads. none (fitting pair leads).1)

        by_name : (proper : Bool) → is_name name ≡ proper → Listed (LeadsAs name)
        by_name true proper = by_fit proper (component_decided component name)
        by_name false improper = listed_none (λ pair leads. true≢false (sym (fitting pair leads).0 ∙ improper))

    fitting_list : kind_at files dir ≡ kind.Dir → has_special component ≡ true → Listed LeadsTo
    fitting_list directory special =
        listed_as
        (λ pair some. some.2.0)
        (λ pair leads. (pair.0, in_directory pair leads, (leads, refl)))
        (listed_by LeadsAs (one_name directory special) (names_under dir (keys files)))
      where
        in_directory : (pair : List ℕ × Components) → LeadsTo pair → Among (names_under dir (keys files)) pair.0
        in_directory pair leads =
            elim leads.how [
              | inl written ↦ absurd (true≢false (sym special ∙ written.plain))
              | inr fits ↦
                  name_of_key dir pair.0
                  (exists_there (get files (dir ++ pair.0 ∷ [])) (dir ++ pair.0 ∷ []) pair.1 (sym (place_of_name files dir pair.0 fits.proper) ∙ fits.named)).0
            ]

    leads_list : Listed LeadsTo
    leads_list = by_kind (kind_at files dir) refl (has_special component) refl
      where
        by_kind : (is : Kind) → kind_at files dir ≡ is → (special : Bool) → has_special component ≡ special → Listed LeadsTo
        by_kind kind.Dir directory true special = fitting_list directory special
        by_kind kind.Dir directory false plain = written_list directory plain
        by_kind kind.File other special is = listed_none (λ pair leads. let both : kind.File ≡ kind.Dir = sym other ∙ leads.directory in absurd (cc))
        by_kind kind.Missing other special is = listed_none (λ pair leads. let both : kind.Missing ≡ kind.Dir = sym other ∙ leads.directory in absurd (cc))

  -- the names of components, one after another
  names_list : (components : List (List Mark)) (dir : Components) → Listed (Names files dir components)
  names_list [] dir = listed_none (λ text never. never)
  names_list (last ∷ []) dir =
      listed_as
      (λ text some. let (pair, leads, is) = some in (pair.1, subst (λ (it : List ℕ). Leads files dir last it pair.1) (sym is) leads))
      (λ text some. let (place, leads) = some in ((text, place), leads, refl))
      (listed_map (λ (pair : List ℕ × Components). pair.0) (leads_list dir last))
  names_list (component ∷ next ∷ others) dir =
      let first = leads_list dir component in
      listed_as
      (λ text some.
      let (pair, among, behind) = some in
      let (rest, names, is) = behind in
      (pair.0, pair.1, rest, first.each pair among, names, is))
      (λ text some.
      let (name, place, rest, leads, names, is) = some in
      ((name, place), first.all (name, place) leads, (rest, names, is)))
      (listed_by (λ (pair : List ℕ × Components) (text : List ℕ). (rest : List ℕ) × Names files pair.1 (next ∷ others) rest × (text ≡ pair.0 ++ (slash ∷ rest)))
      (λ pair. listed_map (λ (rest : List ℕ). pair.0 ++ (slash ∷ rest)) (names_list (next ∷ others) pair.1)) first.items)

-- in the order of their bytes, each once
abbrev by_bytes : List ℕ → List ℕ → Ordering
by_bytes = slice_cmp nat_cmp

among_any : (names : List (List ℕ)) (name : List ℕ) → Among names name → list_any (eq_by_cmp by_bytes name) names ≡ true
among_any [] name there = absurd there
among_any (first ∷ others) name (inl is) =
    or_left (eq_by_cmp by_bytes name first) (list_any (eq_by_cmp by_bytes name) others)
    (subst (λ (it : List ℕ). eq_by_cmp by_bytes name it ≡ true) (sym is) (ap (λ (answer : Ordering). is_eq answer) (tied_itself nat_list_cmp_total name)))
among_any (first ∷ others) name (inr later) = or_right (eq_by_cmp by_bytes name first) (list_any (eq_by_cmp by_bytes name) others) (among_any others name later)

any_among : (names : List (List ℕ)) (name : List ℕ) → list_any (eq_by_cmp by_bytes name) names ≡ true → Among names name
any_among [] name there = absurd (true≢false (sym there))
any_among (first ∷ others) name there = by_first (eq_by_cmp by_bytes name first) refl there (any_among others name)
  where
    by_first : (here : Bool) → eq_by_cmp by_bytes name first ≡ here → (here || list_any (eq_by_cmp by_bytes name) others) ≡ true
        → (list_any (eq_by_cmp by_bytes name) others ≡ true → Among others name) → (first ≡ name) ⊎ Among others name
    by_first true is behind rest = inl (sym (tells_apart exact_bytes name first is))
    by_first false is behind rest = inr (rest behind)

module _ (found : List (List ℕ)) where
  as_entries : List (List ℕ) → List (List ℕ × Unit {0})
  as_entries [] = []
  as_entries (first ∷ others) = (first, tt) ∷ as_entries others

  entry_keys : (names : List (List ℕ)) → map (λ (entry : List ℕ × Unit {0}). entry.0) (as_entries names) ≡ names
  unfolding as_entries
  entry_keys [] = refl
  entry_keys (first ∷ others) = ap (λ (rest : List (List ℕ)). first ∷ rest) (entry_keys others)

  in_order : FinMap by_bytes (Unit {0})
  in_order = from_entries (as_entries found)

  same_any : (name : List ℕ) → list_any (eq_by_cmp by_bytes name) (keys in_order) ≡ list_any (eq_by_cmp by_bytes name) found
  unfolding in_order
  same_any name =
      sym (contains_key-keys in_order name)
      ∙ ap (λ (it : Option (Unit {0})). is_some it) (get-in_order name)
      ∙ is_some-find by_bytes name (as_entries found) ∙ ap (list_any (eq_by_cmp by_bytes name)) (entry_keys found)
    where
      get-in_order : (name : List ℕ) → get in_order name ≡ find by_bytes name (as_entries found)
      get-in_order name = get-from_entries nat_list_cmp_total (as_entries found) name

holds_true : (test : Bool) → T test → test ≡ true
holds_true true holds = refl
holds_true false never = absurd never

sorted_keys : (all : List (List ℕ × Unit {0})) → T (is_sorted by_bytes all) → IsStrictlySortedBy by_bytes (map (λ entry. entry.0) all)
unfolding IsStrictlySortedBy
sorted_keys [] sorted = tt
sorted_keys (first ∷ others) sorted =
    let parts = and_parts (below_all by_bytes first.0 others) (is_sorted by_bytes others) (holds_true (is_sorted by_bytes (first ∷ others)) sorted) in
    (below first.0 others parts.0, sorted_keys others (subst T (sym parts.1) tt))
  where
    below : (name : List ℕ) (behind : List (List ℕ × Unit {0})) → below_all by_bytes name behind ≡ true → AllByRecursion (λ (other : List ℕ). by_bytes name other ≡ order.Less) (map (λ entry. entry.0) behind)
    below name [] all = tt
    below name (entry ∷ behind) all =
        let parts = and_parts (is_lt (by_bytes name entry.0)) (below_all by_bytes name behind) all in
        (less (by_bytes name entry.0) parts.0, below name behind parts.1)
      where
        less : (answer : Ordering) → is_lt answer ≡ true → answer ≡ order.Less
        less order.Less is = refl
        less order.Equal is = absurd (true≢false (sym is))
        less order.Greater is = absurd (true≢false (sym is))

some_names : (files : Files) (home : Components) (text : List Mark) → (names : List (List ℕ)) × AreNamed files home text names
some_names files home text =
    let list = names_list files (components_of text) (start_of home (bytes_of text)) in (
      keys (in_order list.items),
      record {
        each = λ name there. list.each name (any_among list.items name (sym (same_any list.items name) ∙ among_any (keys (in_order list.items)) name (as_among (keys (in_order list.items)) name there)));
        all = λ name named. of_among (keys (in_order list.items)) name (any_among (keys (in_order list.items)) name (same_any list.items name ∙ among_any list.items name (list.all name named)));
        sorted = sorted_keys (entries (in_order list.items)) (entries_sorted (in_order list.items));
      },
    )
  where
    as_among : (names : List (List ℕ)) (name : List ℕ) → IsAmong names name → Among names name
    as_among [] name there = there
    as_among (first ∷ others) name (inl is) = inl is
    as_among (first ∷ others) name (inr later) = inr (as_among others name later)

    of_among : (names : List (List ℕ)) (name : List ℕ) → Among names name → IsAmong names name
    of_among [] name there = there
    of_among (first ∷ others) name (inl is) = inl is
    of_among (first ∷ others) name (inr later) = inr (of_among others name later)

-- what pathname expansion gives
pub some_expansion : (files : Files) (home : Components) (text : List Mark) → (names : List (List ℕ)) × Expands files home text names
some_expansion files home text = by_special (has_special text) refl
  where
    by_names : has_special text ≡ true → (names : List (List ℕ)) × AreNamed files home text names → (names : List (List ℕ)) × Expands files home text names
    by_names special ([], named) = (bytes_of text ∷ [], unmatched special named)
    by_names special (first ∷ others, named) = (first ∷ others, matched special named)

    by_special : (special : Bool) → has_special text ≡ special → (names : List (List ℕ)) × Expands files home text names
    by_special true special = by_names special (some_names files home text)
    by_special false plain = (bytes_of text ∷ [], unlooked plain)
