-- The names in a directory, as they are gathered.
use Rattle.std.proofs.Common.{◌≡◌, ℕ, ◌+◌, ◌≤◌, List, [], ◌∷◌, ◌++◌, nat_eq, Bool, true, false, cond, ◌||◌, ◌&&◌, length, map, Option, Some, None, refl, sym, ap, ◌∙◌, arith}
use Rattle.std.specs.Global.{Vec}
use Rattle.std.specs.Cmp.Lexicographic.{pointwise}
use Rattle.std.specs.List.{count_by, list_any}
use Rattle.std.specs.Option.{is_some, option_map_or}
use Rattle.std.specs.Str.{bytes_eq}
use Rattle.std.proofs.lemmas.Slice.Eq.{bytes_eq-Decides}
use Rattle.std.proofs.lemmas.List.{map-append}
use Rattle.std.proofs.lemmas.List.Sums.{sum_by-cons, sum_by_push}
use Rattle.std.specs.Cmp.Derive.Mapped.{pointwise-map}
use Rattle.ps_lines.specs.Texts.{texts_of}
use Rattle.ps_world.specs.Files.{IsListing, Node}
use Rattle.ps_world.specs.Paths.{Components}
use Rattle.ps_fakes.specs.Listing.{name_under, is_listed, with_name, with_names}
use Rattle.ps_fakes.specs.Trees.{files_of, node_at, node_in, placed_of}
use Rattle.ps_fakes.specs.declared.stored.Stored.{Stored}
use Rattle.ps_fakes.proofs.FindLemmas.{get_first}

listed_texts : (name : List ℕ) (texts : List (Vec ℕ)) → list_any (λ text. bytes_eq name text.items) texts ≡ is_listed (texts_of texts) name
listed_texts name [] = refl
listed_texts name (text ∷ texts) = ap (λ others. bytes_eq name text.items || others) (listed_texts name texts)

-- no path is right below itself, nor above
pub name_under-root : (dir : Components) → name_under dir [] ≡ None
name_under-root [] = refl
name_under-root (folder ∷ dir) = refl

either_none : {Item : Type 0} (test : Bool) (found : Option Item) → found ≡ None → cond test found None ≡ None
either_none true found none = none
either_none false found none = refl

below_root : (part : List ℕ) (parts : Components) (name : List ℕ) → name_under [] (part ∷ (parts ++ name ∷ [])) ≡ None
below_root part [] name = refl
below_root part (next ∷ parts) name = refl

deeper : (same others : Bool) (name : List ℕ) (found : Option (List ℕ)) → found ≡ cond others (Some name) None → cond same found None ≡ cond (same && others) (Some name) None
deeper true others name found is = is
deeper false others name found is = refl

-- a path is named in the directory that it stands right below
pub name_under-last : (dir above : Components) (name : List ℕ) → name_under dir (above ++ name ∷ []) ≡ cond (pointwise (pointwise nat_eq) dir above) (Some name) None
name_under-last [] [] name = refl
name_under-last [] (part ∷ parts) name = below_root part parts name
name_under-last (folder ∷ dir) [] name = either_none (bytes_eq folder name) (name_under dir []) (name_under-root dir)
name_under-last (folder ∷ dir) (part ∷ parts) name =
    deeper (bytes_eq folder part) (pointwise (pointwise nat_eq) dir parts) name (name_under dir (parts ++ name ∷ [])) (name_under-last dir parts name)

alone : (test : Bool) → (test && true) ≡ test
alone true = refl
alone false = refl

never : (test : Bool) → (test && false) ≡ false
never true = refl
never false = refl

further : (same : Bool) (others : Bool) (found : Option (List ℕ)) (test : List ℕ → Bool) → others ≡ option_map_or test found false → (same && others) ≡ option_map_or test (cond same found None) false
further true others found test is = is
further false others found test is = refl

-- the path of a name in a directory is another one exactly where that has this name there
pub same_under : (dir path : Components) (name : List ℕ) → pointwise (pointwise nat_eq) (dir ++ name ∷ []) path ≡ option_map_or (bytes_eq name) (name_under dir path) false
same_under [] [] name = refl
same_under [] (part ∷ []) name = alone (bytes_eq name part)
same_under [] (part ∷ next ∷ parts) name = never (bytes_eq name part)
same_under (folder ∷ dir) [] name = refl
same_under (folder ∷ dir) (part ∷ parts) name = further (bytes_eq folder part) (pointwise (pointwise nat_eq) (dir ++ name ∷ []) parts) (name_under dir parts) (bytes_eq name) (same_under dir parts name)

-- a path without components has no name
pub no_name : (dir path : Components) (parts : List (Vec ℕ)) → texts_of parts ≡ path → length parts ≡ 0 → None ≡ name_under dir path
no_name dir path [] is none = rw (← is) (sym (name_under-root dir))
no_name dir path (part ∷ parts) is none = absurd (omega arith)

-- a path's name in a directory, by its last component and what stands above that
pub name_of_last : (dir path : Components) (dirs above parts : List (Vec ℕ)) (name : Vec ℕ) (same : Bool) → texts_of dirs ≡ dir → texts_of parts ≡ path → parts ≡ above ++ name ∷ []
    → same ≡ pointwise (λ (text other : Vec ℕ). pointwise nat_eq text.items other.items) dirs above → cond same (Some name.items) None ≡ name_under dir path
name_of_last dir path dirs above parts name same dir_is path_is whole same_is =
    let ends : path ≡ texts_of above ++ name.items ∷ [] = sym path_is ∙ ap texts_of whole ∙ map-append (λ (text : Vec ℕ). text.items) above (name ∷ []) in
    let tests : same ≡ pointwise (pointwise nat_eq) dir (texts_of above) = same_is ∙ sym (pointwise-map (λ (text : Vec ℕ). text.items) (pointwise nat_eq) dirs above) ∙ ap (λ (front : Components). pointwise (pointwise nat_eq) front (texts_of above)) dir_is in
    rw (ends, tests) (sym (name_under-last dir (texts_of above) name.items))

-- names with one more, by a test whether it is listed
pub with_one : (names : List (Vec ℕ)) (name : List ℕ) (under : Option (List ℕ)) (listed : Bool) → Some name ≡ under → listed ≡ list_any (λ (text : Vec ℕ). bytes_eq name text.items) names
    → cond listed (texts_of names) (texts_of names ++ name ∷ []) ≡ with_name (texts_of names) under
with_one names name under listed named is =
    ap (λ test. cond test (texts_of names) (texts_of names ++ name ∷ [])) (is ∙ listed_texts name names) ∙ ap (with_name (texts_of names)) named

-- a text is pushed
pub pushed_text : (old new : List (Vec ℕ)) (pushed : Vec ℕ) (text : List ℕ) → pushed.items ≡ text → new ≡ old ++ pushed ∷ [] → texts_of new ≡ texts_of old ++ text ∷ []
pushed_text old new pushed text is grew =
    ap texts_of grew ∙ map-append (λ (one : Vec ℕ). one.items) old (pushed ∷ []) ∙ ap (λ last. texts_of old ++ last ∷ []) is

-- so many as one, where there is one
abbrev one_where : Bool → ℕ
one_where found = cond found 1 0

none_step : (first others : Bool) (count : ℕ) → (first || others) ≡ false → (others ≡ false → count ≡ 0) → cond first 1 0 + count ≡ 0
none_step true others count none after = cc
none_step false others count none after = omega (arith, after none)

some_step : (first others : Bool) (count : ℕ) → (first || others) ≡ true → (others ≡ true → 1 ≤ count) → 1 ≤ cond first 1 0 + count
some_step true others count some after = omega arith
some_step false others count some after = omega (arith, after some)

module _ {Item : Type 0} (test : Item → Bool) where
  -- where none passes, none is counted
  none_counted : (items : List Item) → list_any test items ≡ false → count_by test items ≡ 0
  none_counted [] none = refl
  none_counted (item ∷ items) none = sum_by-cons _ item items ∙ none_step (test item) (list_any test items) (count_by test items) none (none_counted items)

  -- where one passes, one is counted
  some_counted : (items : List Item) → list_any test items ≡ true → 1 ≤ count_by test items
  some_counted [] some = absurd (cc)
  some_counted (item ∷ items) some = rw (sum_by-cons _ item items) (some_step (test item) (list_any test items) (count_by test items) some (some_counted items))

-- each name is counted once if it was seen, and else not at all
abbrev Counted : List (List ℕ) → (List ℕ → Bool) → Type 0
Counted names seen = (name : List ℕ) → count_by (bytes_eq name) names ≡ one_where (seen name)

with_more : (count : ℕ) (seen same : Bool) → count ≡ one_where seen → (same ≡ true → count ≡ 0) → count + cond same 1 0 ≡ one_where (seen || same)
with_more count true true is none = let never = none refl in absurd (omega arith)
with_more count true false is none = omega arith
with_more count false true is none = omega arith
with_more count false false is none = omega arith

with_same : (count : ℕ) (seen same : Bool) → count ≡ one_where seen → (same ≡ true → 1 ≤ count) → count ≡ one_where (seen || same)
with_same count true same is some = is
with_same count false true is some = let one = some refl in absurd (omega arith)
with_same count false false is some = is

or_none : (test : Bool) → (test || false) ≡ test
or_none true = refl
or_none false = refl

more_listed : (names : List (List ℕ)) (seen : List ℕ → Bool) (added : List ℕ) (listed : Bool) → is_listed names added ≡ listed → Counted names seen →
    Counted (cond listed names (names ++ added ∷ [])) (λ name. seen name || bytes_eq name added)
more_listed names seen added true is counted name =
    with_same (count_by (bytes_eq name) names) (seen name) (bytes_eq name added) (counted name)
    (λ same. rw ((bytes_eq-Decides name added).0 same) (some_counted (bytes_eq added) names is))
more_listed names seen added false is counted name =
    sum_by_push _ names added ∙ with_more (count_by (bytes_eq name) names) (seen name) (bytes_eq name added) (counted name)
    (λ same. rw ((bytes_eq-Decides name added).0 same) (none_counted (bytes_eq added) names is))

name_counted : (names : List (List ℕ)) (seen : List ℕ → Bool) (under : Option (List ℕ)) → Counted names seen →
    Counted (with_name names under) (λ name. seen name || option_map_or (bytes_eq name) under false)
name_counted names seen None counted name = counted name ∙ ap one_where (sym (or_none (seen name)))
name_counted names seen (Some added) counted name = more_listed names seen added (is_listed names added) refl counted name

-- something stands at a name in the directory
abbrev stands_at : Components → List ℕ → List Stored → Bool
stands_at dir name stored = list_any (λ one. pointwise (pointwise nat_eq) (dir ++ name ∷ []) one.path) stored

or_assoc : (first second third : Bool) → ((first || second) || third) ≡ (first || (second || third))
or_assoc true second third = refl
or_assoc false second third = refl

gathered : (dir : Components) (stored : List Stored) (names : List (List ℕ)) (seen : List ℕ → Bool) → Counted names seen →
    Counted (with_names dir names stored) (λ name. seen name || stands_at dir name stored)
gathered dir [] names seen counted name = counted name ∙ ap one_where (sym (or_none (seen name)))
gathered dir (one ∷ others) names seen counted name =
    gathered dir others (with_name names (name_under dir one.path)) (λ other. seen other || option_map_or (bytes_eq other) (name_under dir one.path) false) (name_counted names seen (name_under dir one.path) counted) name
    ∙ ap one_where (or_assoc (seen name) _ (stands_at dir name others) ∙ ap (λ here. seen name || (here || stands_at dir name others)) (sym (same_under dir one.path name)))

first_there : (test others : Bool) (node : Node) (found : Option Node) → others ≡ is_some found → (test || others) ≡ is_some (cond test (Some node) found)
first_there true others node found is = refl
first_there false others node found is = is

found_there : (path : Components) (stored : List Stored) → list_any (λ (one : Stored). pointwise (pointwise nat_eq) path one.path) stored ≡ is_some (node_at (map placed_of stored) path)
found_there path [] = refl
found_there path (one ∷ others) = first_there (pointwise (pointwise nat_eq) path one.path) _ (node_in one.content) (node_at (map placed_of others) path) (found_there path others)

is_listing : (stored : List Stored) (dir : Components) → IsListing (files_of stored) dir (with_names dir [] stored)
is_listing stored dir name is_one =
    gathered dir stored [] (λ _. false) (λ _. refl) name
    ∙ ap one_where (found_there (dir ++ name ∷ []) stored ∙ ap is_some (sym (get_first (map placed_of stored) (dir ++ name ∷ []))))

-- the names that are gathered in a directory are its listing
pub is_listing_of : (stored : List Stored) (dir : Components) (names : List (List ℕ)) → names ≡ with_names dir [] stored → IsListing (files_of stored) dir names
is_listing_of stored dir names is name is_one = rw is (is_listing stored dir name is_one)
