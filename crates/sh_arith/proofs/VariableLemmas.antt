-- A list of variables, searched, written and thinned, as the map that it stands for.
use Rattle.std.proofs.Common.{◌≡◌, ◌≢◌, ◌⊎◌, inl, inr, ℕ, zero, suc, ◌+◌, ◌<◌, ◌≤◌, ◌&&◌, Bool, true, false, cond, not, filter, List, [], ◌∷◌, set, length, get_or, Some, None, Option, Result, Ok, Err, IfOk, IfErr, refl, sym, ap, ◌∙◌, subst, arith}
use Rattle.std.specs.Prelude.{T, slice_index_or}
use Rattle.std.specs.List.{insert}
use Rattle.std.specs.List.Sorted.{IsBinarySearchResult, IsNonDecreasingBy, IsSearchInRange, IsSortedBy}
use Rattle.std.proofs.lemmas.Bool.{false≢true}
use Rattle.std.proofs.lemmas.List.Sorted.{searchable_from_sorted}
use Rattle.std.specs.declared.cmp.Ordering.{Ordering}
use Rattle.std.specs.declared.cmp.Ordering.TheVariants.{Less, Equal, Greater}
use Rattle.std.specs.Ordering.{eq_by_cmp, is_eq, is_lt, ordering_index, ordering_reverse}
use Rattle.std.specs.Cmp.{tied_itself}
use Rattle.std.specs.Cmp.Lexicographic.{nat_list_cmp_total}
use Rattle.std.specs.FinMap as variables
use Rattle.std.specs.FinMap.{find, is_sorted, put, same_map, get-from_entries, get-insert, get-remove, slice_cmp-IsAntisymmetric, nat_cmp-IsAntisymmetric}
use Rattle.std.specs.FinMap.Entries.{below_all, where_key, find-put, is_sorted-put, is_sorted-where_key}
use Rattle.sh_arith.specs.declared.variables.Variable.{Variable}
use Rattle.sh_arith.specs.Names.{name_cmp}
use Rattle.sh_arith.specs.Variables.{AreAbove, AreOrdered, IsAt, IsGapFor, pairs, variables_of}

-- only equal names tie
pub names_differ : variables.IsAntisymmetric name_cmp
names_differ = slice_cmp-IsAntisymmetric nat_cmp-IsAntisymmetric

tie_by : (a b : List ℕ) (order : Ordering) → name_cmp a b ≡ order → ((eq_by_cmp name_cmp a b ≡ true) × (a ≡ b)) ⊎ ((eq_by_cmp name_cmp a b ≡ false) × (a ≢ b))
tie_by a b Less e = inr (ap is_eq e, λ same. let t : name_cmp a a ≡ Equal = tied_itself nat_list_cmp_total a in let k : name_cmp a b ≡ Equal = subst (λ x. name_cmp a x ≡ Equal) same t in cc)
tie_by a b Equal e = inl (ap is_eq e, names_differ a b e)
tie_by a b Greater e = inr (ap is_eq e, λ same. let t : name_cmp a a ≡ Equal = tied_itself nat_list_cmp_total a in let k : name_cmp a b ≡ Equal = subst (λ x. name_cmp a x ≡ Equal) same t in cc)

-- two names tie where they are one
pub tie : (a b : List ℕ) → ((eq_by_cmp name_cmp a b ≡ true) × (a ≡ b)) ⊎ ((eq_by_cmp name_cmp a b ≡ false) × (a ≢ b))
tie a b = tie_by a b (name_cmp a b) refl

-- to read the list is to read the map
pub get_variable : (list : List Variable) (name : List ℕ) → variables.get (variables_of list) name ≡ find name_cmp name (pairs list)
get_variable list name = get-from_entries nat_list_cmp_total (pairs list) name

pub find_here : (name : List ℕ) (variable : Variable) (rest : List Variable) → variable.name ≡ name → find name_cmp name (pairs (variable ∷ rest)) ≡ Some variable.value
find_here name variable rest same =
    elim (tie name variable.name) [
      | inl here ↦ ap (λ b. cond b (Some variable.value) (find name_cmp name (pairs rest))) here.0
      | inr other ↦ absurd (other.1 (sym same))
    ]

pub find_past : (name : List ℕ) (variable : Variable) (rest : List Variable) → variable.name ≢ name → find name_cmp name (pairs (variable ∷ rest)) ≡ find name_cmp name (pairs rest)
find_past name variable rest differs =
    elim (tie name variable.name) [
      | inl here ↦ absurd (differs (sym here.1))
      | inr other ↦ ap (λ b. cond b (Some variable.value) (find name_cmp name (pairs rest))) other.0
    ]

-- what two names in order say
apart_below : (a b : List ℕ) → name_cmp a b ≡ Less → a ≢ b
apart_below a b below same = let t : name_cmp b b ≡ Equal = tied_itself nat_list_cmp_total b in let k : name_cmp b b ≡ Less = subst (λ x. name_cmp x b ≡ Less) same below in cc

apart_above : (a b : List ℕ) → name_cmp a b ≡ Greater → a ≢ b
apart_above a b above same = let t : name_cmp b b ≡ Equal = tied_itself nat_list_cmp_total b in let k : name_cmp b b ≡ Greater = subst (λ x. name_cmp x b ≡ Greater) same above in cc

turned : (a b : List ℕ) (order : Ordering) → name_cmp a b ≡ order → name_cmp b a ≡ ordering_reverse order
turned a b order is = nat_list_cmp_total.antisymm b a ∙ ap ordering_reverse is

-- the tests of an order, one by one
first_holds : (a b : Bool) → T (a && b) → T a
first_holds true b holds = tt
first_holds false b holds = absurd holds

second_holds : (a b : Bool) → T (a && b) → T b
second_holds true b holds = holds
second_holds false b holds = absurd holds

is_below : (order : Ordering) → T (is_lt order) → order ≡ Less
is_below Less holds = refl
is_below Equal holds = absurd holds
is_below Greater holds = absurd holds

not_below : (order : Ordering) → order ≡ Greater → is_lt order ≡ false
not_below order is = ap is_lt is

-- a name that stands behind others is above them
below_at : (key : List ℕ) (list : List Variable) (place : ℕ) (name : List ℕ) → T (below_all name_cmp key (pairs list)) → IsAt name list place → name_cmp key name ≡ Less
below_at key [] place name all at = absurd at
below_at key (variable ∷ rest) zero name all at = subst (λ n. name_cmp key n ≡ Less) at (is_below _ (first_holds _ _ all))
below_at key (variable ∷ rest) (suc place) name all at = below_at key rest place name (second_holds _ _ all) at

-- where a variable stands, a read finds its text
pub find_at : (list : List Variable) (place : ℕ) (name : List ℕ) (default : Variable) → AreOrdered list → IsAt name list place
    → find name_cmp name (pairs list) ≡ Some (get_or list place default).value
find_at [] place name default ordered at = absurd at
find_at (variable ∷ rest) zero name default ordered at = find_here name variable rest at
find_at (variable ∷ rest) (suc place) name default ordered at =
    find_past name variable rest (apart_below variable.name name (below_at variable.name rest place name (first_holds _ _ ordered) at))
    ∙ find_at rest place name default (second_holds _ _ ordered) at

find_above : (list : List Variable) (name : List ℕ) → AreAbove name list → find name_cmp name (pairs list) ≡ None
find_above [] name above = refl
find_above (variable ∷ rest) name above = find_past name variable rest (apart_above variable.name name above.0) ∙ find_above rest name above.1

-- where it would stand and doesn't, a read finds none
pub find_gap : (list : List Variable) (place : ℕ) (name : List ℕ) → IsGapFor name list place → find name_cmp name (pairs list) ≡ None
find_gap list zero name gap = find_above list name gap
find_gap [] (suc place) name gap = absurd gap
find_gap (variable ∷ rest) (suc place) name gap = find_past name variable rest (apart_below variable.name name gap.0) ∙ find_gap rest place name gap.1

pub named_at : (list : List Variable) (place : ℕ) (name : List ℕ) (default : Variable) → IsAt name list place → (get_or list place default).name ≡ name
named_at [] place name default at = absurd at
named_at (variable ∷ rest) zero name default at = at
named_at (variable ∷ rest) (suc place) name default at = named_at rest place name default at

-- a text that is written at the place of its name, and one that is put into the gap for it, is in its place of the entries
pub put_at : (list : List Variable) (place : ℕ) (name value : List ℕ) → AreOrdered list → IsAt name list place
    → pairs (set list place (record { name = name; value = value })) ≡ put name_cmp name value (pairs list)
put_at [] place name value ordered at = absurd at
put_at (variable ∷ rest) zero name value ordered at =
    let ties : name_cmp name variable.name ≡ Equal = subst (λ n. name_cmp name n ≡ Equal) (sym at) (tied_itself nat_list_cmp_total name) in
    rw ties (ap (λ (n : List ℕ). (n, value) ∷ pairs rest) (sym at))
put_at (variable ∷ rest) (suc place) name value ordered at =
    let above : name_cmp name variable.name ≡ Greater = turned variable.name name Less (below_at variable.name rest place name (first_holds _ _ ordered) at) in
    rw above (ap (λ more. (variable.name, variable.value) ∷ more) (put_at rest place name value (second_holds _ _ ordered) at))

put_above : (list : List Variable) (name value : List ℕ) → AreAbove name list → (name, value) ∷ pairs list ≡ put name_cmp name value (pairs list)
put_above [] name value above = refl
put_above (variable ∷ rest) name value above = let below : name_cmp name variable.name ≡ Less = turned variable.name name Greater above.0 in rw below refl

pub put_gap : (list : List Variable) (place : ℕ) (name value : List ℕ) → IsGapFor name list place
    → pairs (insert list place (record { name = name; value = value })) ≡ put name_cmp name value (pairs list)
put_gap list zero name value gap = put_above list name value gap
put_gap [] (suc place) name value gap = absurd gap
put_gap (variable ∷ rest) (suc place) name value gap =
    let above : name_cmp name variable.name ≡ Greater = turned variable.name name Less gap.0 in
    rw above (ap (λ more. (variable.name, variable.value) ∷ more) (put_gap rest place name value gap.1))

-- the same, where the name and the text are copies
pub written : (list : List Variable) (place : ℕ) (name text own value : List ℕ) → AreOrdered list → IsAt name list place → own ≡ name → value ≡ text
    → pairs (set list place (record { name = own; value = value })) ≡ put name_cmp name text (pairs list)
written list place name text own value ordered at named is = rw (named, is) (put_at list place name text ordered at)

pub inserted : (list : List Variable) (place : ℕ) (name text own value : List ℕ) → IsGapFor name list place → own ≡ name → value ≡ text
    → pairs (insert list place (record { name = own; value = value })) ≡ put name_cmp name text (pairs list)
inserted list place name text own value gap named is = rw (named, is) (put_gap list place name text gap)

-- then the list stands for the map with that text, and is in order still
pub put_variable : (list new : List Variable) (name value : List ℕ) → pairs new ≡ put name_cmp name value (pairs list) → variables_of new ≡ variables.insert (variables_of list) name value
put_variable list new name value is =
    same_map nat_list_cmp_total names_differ _ _ (λ other.
    get_variable new other ∙ ap (find name_cmp other) is ∙ find-put name_cmp nat_list_cmp_total other name value (pairs list)
    ∙ ap (cond (eq_by_cmp name_cmp other name) (Some value)) (sym (get_variable list other))
    ∙ sym (get-insert nat_list_cmp_total (variables_of list) name value other))

pub ordered_put : (list new : List Variable) (name value : List ℕ) → pairs new ≡ put name_cmp name value (pairs list) → AreOrdered list → AreOrdered new
ordered_put list new name value is ordered = subst (λ es. T (is_sorted name_cmp es)) (sym is) (is_sorted-put name_cmp nat_list_cmp_total name value (pairs list) ordered)

pub ordered_same : (list new : List Variable) → pairs new ≡ pairs list → AreOrdered list → AreOrdered new
ordered_same list new is ordered = subst (λ es. T (is_sorted name_cmp es)) (sym is) ordered

-- the variables whose names pass a test are in order
pairs-filter : (test : List ℕ → Bool) (list : List Variable) → pairs (filter (λ variable. test variable.name) list) ≡ where_key name_cmp test (pairs list)
pairs-filter test [] = refl
pairs-filter test (variable ∷ rest) =
    elim (test variable.name) as (λ passes. pairs (cond passes (variable ∷ filter (λ variable. test variable.name) rest) (filter (λ variable. test variable.name) rest))
    ≡ cond passes ((variable.name, variable.value) ∷ where_key name_cmp test (pairs rest)) (where_key name_cmp test (pairs rest))) [
      | true ↦ ap (λ more. (variable.name, variable.value) ∷ more) (pairs-filter test rest)
      | false ↦ pairs-filter test rest
    ]

pub ordered_filter : (test : List ℕ → Bool) (list : List Variable) → AreOrdered list → AreOrdered (filter (λ variable. test variable.name) list)
ordered_filter test list ordered = subst (λ es. T (is_sorted name_cmp es)) (sym (pairs-filter test list)) (is_sorted-where_key name_cmp test (pairs list) ordered)

-- neighbours in the list are in order, so the answers of a search rise along it
neighbours : (list : List Variable) → AreOrdered list → IsSortedBy (λ a b. is_lt (name_cmp a.name b.name)) list
neighbours [] ordered place default from within = absurd (omega (arith, within))
neighbours (variable ∷ []) ordered place default from within = absurd (omega (arith, within))
neighbours (variable ∷ next ∷ rest) ordered zero default from within =
    not_below _ (turned variable.name next.name Less (is_below _ (first_holds _ _ (first_holds _ _ ordered))))
neighbours (variable ∷ next ∷ rest) ordered (suc place) default from within =
    let later : suc (place + 1) ≡ suc place + 1 = omega arith in
    subst (λ (at : ℕ). is_lt (name_cmp (get_or (variable ∷ next ∷ rest) at default).name (get_or (variable ∷ next ∷ rest) (suc place) default).name) ≡ false) later
    (neighbours (next ∷ rest) (second_holds _ _ ordered) place default (omega arith) (omega (arith, within)))

rising : (list : List Variable) (name : List ℕ) → AreOrdered list → IsNonDecreasingBy (λ variable. ordering_index (name_cmp variable.name name)) list
rising list name ordered = searchable_from_sorted nat_list_cmp_total (λ (variable : Variable). variable.name) list name (neighbours list ordered)

-- where a search may answer
pub within : (answer : Result ℕ ℕ) (count : ℕ) → IsSearchInRange answer count → IfOk answer (λ place. place < count)
within (Ok place) count ranges = ranges
within (Err place) count ranges = tt

pub inside : (answer : Result ℕ ℕ) (count : ℕ) → IsSearchInRange answer count → IfErr answer (λ place. place ≤ count)
inside (Ok place) count ranges = tt
inside (Err place) count ranges = ranges

-- what a search has answered of a place, said of the list from its beginning
at_place : (list : List Variable) (place : ℕ) (name : List ℕ) → place < length list → ((default : Variable) → name_cmp (slice_index_or list place default).name name ≡ Equal) → IsAt name list place
at_place [] place name within ties = absurd (omega (arith, within))
at_place (variable ∷ rest) zero name within ties = names_differ _ _ (ties variable)
at_place (variable ∷ rest) (suc place) name within ties = at_place rest place name (omega (arith, within)) (λ default. ties default)

all_above : (list : List Variable) (name : List ℕ) → ((place : ℕ) (default : Variable) → place < length list → name_cmp (slice_index_or list place default).name name ≡ Greater) → AreAbove name list
all_above [] name above = tt
all_above (variable ∷ rest) name above = (above 0 variable (omega arith), all_above rest name (λ place default within. above (suc place) default (omega (arith, within))))

gap_at : (list : List Variable) (place : ℕ) (name : List ℕ) → place ≤ length list
    → ((before : ℕ) (default : Variable) → before < place → name_cmp (slice_index_or list before default).name name ≡ Less)
    → ((behind : ℕ) (default : Variable) → place ≤ behind → behind < length list → name_cmp (slice_index_or list behind default).name name ≡ Greater) → IsGapFor name list place
gap_at list zero name within below above = all_above list name (λ place default inside. above place default (omega arith) inside)
gap_at [] (suc place) name within below above = absurd (omega (arith, within))
gap_at (variable ∷ rest) (suc place) name within below above = (
  below 0 variable (omega arith),
  gap_at rest place name (omega (arith, within))
      (λ before default inside. below (suc before) default (omega (arith, inside)))
      (λ behind default from inside. above (suc behind) default (omega (arith, from)) (omega (arith, inside))),
)

pub searched : (list : List Variable) (name : List ℕ) → AreOrdered list → (answer : Result ℕ ℕ) → IsSearchInRange answer (length list)
    → IsBinarySearchResult (λ (variable : Variable). name_cmp variable.name name) list answer → record { found : IfOk answer (IsAt name list); absent : IfErr answer (IsGapFor name list) }
searched list name ordered (Ok place) within ties = record { found = at_place list place name within (λ default. ties default); absent = tt }
searched list name ordered (Err place) within parts =
    let both = parts (rising list name ordered) in
    record {
      found = tt;
      absent = gap_at list place name within (λ before default inside. both.0 before default (omega arith) inside) (λ behind default from inside. both.1 behind default from inside);
    }

untrue : (b : Bool) → (b ≡ true → ⊥) → b ≡ false
untrue true h = absurd (h refl)
untrue false h = refl

-- a test that is true exactly for one name is that of the order
pub ties_if_named : (named : Bool) (a b : List ℕ) → (named ≡ true → b ≡ a) × (b ≡ a → named ≡ true) → named ≡ eq_by_cmp name_cmp a b
ties_if_named named a b iff =
    elim (tie a b) [
      | inl here ↦ iff.1 (sym here.1) ∙ sym here.0
      | inr apart ↦ untrue named (λ h. apart.1 (sym (iff.0 h))) ∙ sym apart.0
    ]

none_either : (b : Bool) → ◌≡◌ {A = Option (List ℕ)} None (cond b None None)
none_either true = refl
none_either false = refl

find_filtered : (list : List Variable) (name other : List ℕ) → find name_cmp other (pairs (filter (λ variable. not (eq_by_cmp name_cmp name variable.name)) list)) ≡ cond (eq_by_cmp name_cmp other name) None (find name_cmp other (pairs list))
find_filtered [] name other = none_either (eq_by_cmp name_cmp other name)
find_filtered (variable ∷ rest) name other =
    let more = find_filtered rest name other in
    elim (tie name variable.name) [
      | inl here ↦ rw here.0 (more ∙ elim (tie other name) [
        | inl there ↦ rw there.0 refl
        | inr apart ↦ rw apart.0 (sym (find_past other variable rest (λ same. apart.1 (sym same ∙ sym here.1))))
      ])
      | inr gone ↦ rw gone.0 (elim (tie other variable.name) [
        | inl there ↦ elim (tie other name) [
          | inl both ↦ absurd (gone.1 (sym both.1 ∙ there.1))
          | inr apart ↦ rw (apart.0, there.0) refl
        ]
        | inr apart ↦ rw apart.0 more
      ])
    ]

-- a list without the variables of a name stands for the map without it
pub drop_variable : (list : List Variable) (name : List ℕ) → variables_of (filter (λ variable. not (eq_by_cmp name_cmp name variable.name)) list) ≡ variables.remove (variables_of list) name
drop_variable list name =
    same_map nat_list_cmp_total names_differ _ _ (λ other.
    get_variable _ other ∙ find_filtered list name other
    ∙ ap (λ found. cond (eq_by_cmp name_cmp other name) None found) (sym (get_variable list other))
    ∙ sym (get-remove nat_list_cmp_total (variables_of list) name other))
