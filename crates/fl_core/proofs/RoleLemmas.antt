-- The roles of a graph's nodes: the end of a node is that of its role, and no two nodes have one.
use Rattle.std.proofs.Common.{◌≡◌, ℕ, zero, suc, ◌+◌, ◌<◌, ◌≤◌, ◌==◌, List, [], ◌∷◌, Bool, true, false, if◌then◌else◌, cond, length, slice_get, slice_set, slice_index_or, Option, Some, None, is_some, refl, ap, sym, subst, ◌∙◌, arith, eq-eqb}
use Rattle.std.specs.List.{list_any, count_by, position, position_from}
use Rattle.std.specs.Option.{option_map, option_map_or, option_and_then, unwrap_or}
use Rattle.std.proofs.Math.Path.{fun_ext}
use Rattle.std.proofs.Math.Seq.{map-set_same}
use Rattle.std.proofs.lemmas.Iterator.Adapters.{position_from-zero}
use Rattle.std.proofs.lemmas.Bool.{true≢false, eqb-true}
use Rattle.std.proofs.lemmas.List.Sums.{sum_by-cons}
use Rattle.std.proofs.lemmas.Option.{slice_get-map, slice_get_within, get_or_from_slice_get, unwrap_or-slice_get}
use Rattle.fl_graph.specs.declared.graphs.Cell.{Cell}
use Rattle.fl_graph.specs.Kinds.{is_input, is_output}
use Rattle.fl_graph.specs.Valid.{HasOneOfEachEnd}
use Rattle.fl_graph.specs.declared.kinds.NodeKind.{NodeKind}
use Rattle.fl_graph.specs.declared.kinds.NodeKind.TheVariants as kind
use Rattle.fl_graph.specs.declared.kinds.From.TheVariants as from
use Rattle.fl_graph.specs.declared.kinds.To.TheVariants as to
use Rattle.fl_classes.specs.Flow.{is_source}
use Rattle.fl_classes.specs.Kinds.{is_writer}
use Rattle.fl_core.specs.EndLists.{place_of, numbers_of, end_in, end_of, reads_file, writes_file, NodeEnd, Reader, Writer, Input, Output, own_end, end_at, KeepsOthers}
use Rattle.fl_core.specs.Roles.{role_of, role_at, AreApart, is_same, is_used, end_by, HasRoles, is_read, is_written, Kept, kept}
use Rattle.fl_net.specs.Starts.{NodesHave}
use Rattle.fl_core.specs.declared.end_lists.Ends.{Ends}
use Rattle.fl_core.specs.declared.roles.Role.{Role}
use Rattle.fl_core.specs.declared.roles.Role.TheVariants as role
use Rattle.fl_net.proofs.OutsideLemmas.{some_at}

some_is : {X : Type 0} (one other : X) → Some one ≡ Some other → one ≡ other
some_is one other is = cc

moved_on : (from : ℕ) (found : Option ℕ) → option_map (λ (place : ℕ). from + 1 + place) found ≡ option_map (λ (place : ℕ). from + place) (option_map suc found)
moved_on from None = refl
moved_on from (Some place) = ap (λ (it : ℕ). Some it) (omega arith)

as_found : (found : Option ℕ) → option_map (λ (place : ℕ). 0 + place) found ≡ found
as_found None = refl
as_found (Some place) = ap (λ (it : ℕ). Some it) (omega arith)

-- the first that is found in a list of ends is the first with its number
module _ {End : Type 0} (number : ℕ) where
  found_from : (from : ℕ) (ends : List (ℕ × End)) → position_from (λ (entry : ℕ × End). entry.0 == number) from ends ≡ option_map (λ (place : ℕ). from + place) (place_of (numbers_of ends) number)
  found_from from [] = refl
  found_from from (first ∷ ends) = by_test (first.0 == number) (found_from (from + 1) ends)
    where
      by_test : (test : Bool) → position_from (λ (entry : ℕ × End). entry.0 == number) (from + 1) ends ≡ option_map (λ (place : ℕ). from + 1 + place) (place_of (numbers_of ends) number)
          → cond test (Some from) (position_from (λ (entry : ℕ × End). entry.0 == number) (from + 1) ends)
          ≡ option_map (λ (place : ℕ). from + place) (if test then Some zero else option_map suc (place_of (numbers_of ends) number))
      by_test true behind = ap (λ (it : ℕ). Some it) (omega arith)
      by_test false behind = behind ∙ moved_on from (place_of (numbers_of ends) number)

  pub position_is : (ends : List (ℕ × End)) → position (λ (entry : ℕ × End). entry.0 == number) ends ≡ place_of (numbers_of ends) number
  position_is ends = position_from-zero (λ (entry : ℕ × End). entry.0 == number) ends ∙ found_from 0 ends ∙ as_found (place_of (numbers_of ends) number)

-- at the place of a number is the number
place_behind : (first : ℕ) (numbers : List ℕ) (number place : ℕ) (found : Option ℕ) → ((there : ℕ) → found ≡ Some there → slice_get numbers there ≡ Some number)
    → option_map suc found ≡ Some place → slice_get (first ∷ numbers) place ≡ Some number
place_behind first numbers number place None held behind = absurd (cc)
place_behind first numbers number place (Some there) held behind = ap (slice_get (first ∷ numbers)) (sym (some_is (suc there) place behind)) ∙ held there refl

pub place_there : (numbers : List ℕ) (number place : ℕ) → place_of numbers number ≡ Some place → slice_get numbers place ≡ Some number
place_there [] number place is = absurd (cc)
place_there (first ∷ numbers) number place is = by_test (first == number) refl is (place_there numbers number)
  where
    by_test : (test : Bool) → (first == number) ≡ test → (if test then Some zero else option_map suc (place_of numbers number)) ≡ Some place
        → ((there : ℕ) → place_of numbers number ≡ Some there → slice_get numbers there ≡ Some number) → slice_get (first ∷ numbers) place ≡ Some number
    by_test true same here held = ap (slice_get (first ∷ numbers)) (sym (some_is zero place here)) ∙ ap (λ (it : ℕ). Some it) (eqb-true first number same)
    by_test false other behind held = place_behind first numbers number place (place_of numbers number) held behind

-- so where there is one, there is the first end with it
pub end_there : {End : Type 0} (ends : List (ℕ × End)) (number : ℕ) → is_some (place_of (numbers_of ends) number) ≡ is_some (end_of ends number)
end_there {End} ends number = by_place (place_of (numbers_of ends) number) refl
  where
    by_entry : (place : ℕ) (found : Option (ℕ × End)) → slice_get ends place ≡ found → slice_get (numbers_of ends) place ≡ Some number → true ≡ is_some (option_map (λ (entry : ℕ × End). entry.1) found)
    by_entry place None is at = absurd (let past : slice_get (numbers_of ends) place ≡ None = slice_get-map (λ (entry : ℕ × End). entry.0) ends place ∙ ap (option_map (λ (entry : ℕ × End). entry.0)) is in cc)
    by_entry place (Some entry) is at = refl

    by_place : (found : Option ℕ) → place_of (numbers_of ends) number ≡ found → is_some found ≡ is_some (option_and_then (end_in ends) found)
    by_place None is = refl
    by_place (Some place) is = by_entry place (slice_get ends place) refl (place_there (numbers_of ends) number place is)

pub file_end : {End Other : Type 0} (as_end : End → Other) (ends : List (ℕ × End)) (number : ℕ) → is_some (place_of (numbers_of ends) number) ≡ is_some (option_map as_end (end_of ends number))
file_end {End} as_end ends number = end_there ends number ∙ by_end (end_of ends number)
  where
    by_end : (found : Option End) → is_some found ≡ is_some (option_map as_end found)
    by_end None = refl
    by_end (Some end) = refl

-- of items one of which at most passes a test, two that pass are one
module _ {Item : Type 0} (test : Item → Bool) where
  pub mark : Item → ℕ
  mark item = cond (test item) 1 0

  pub marked : (item : Item) → test item ≡ true → mark item ≡ 1
  unfolding mark
  marked item passes = ap (λ (it : Bool). cond it 1 0) passes

  pub counted : (first : Item) (items : List Item) → count_by test (first ∷ items) ≡ mark first + count_by test items
  unfolding mark
  counted first items = sum_by-cons (λ item. cond (test item) 1 0) first items

  pub is_counted : (items : List Item) (place : ℕ) (item : Item) → slice_get items place ≡ Some item → test item ≡ true → 1 ≤ count_by test items
  is_counted [] place item there passes = absurd (cc)
  is_counted (first ∷ items) zero item there passes =
      let one = marked first (ap test (some_is first item there) ∙ passes) in
      let all = counted first items in omega (arith, one, all)
  is_counted (first ∷ items) (suc place) item there passes =
      let behind = is_counted items place item there passes in
      let all = counted first items in omega (arith, behind, all)

  pub sole : (items : List Item) → count_by test items ≤ 1 → (place other : ℕ) (item found : Item) → slice_get items place ≡ Some item → test item ≡ true
      → slice_get items other ≡ Some found → test found ≡ true → place ≡ other
  sole [] few place other item found there passes there_too passes_too = absurd (cc)
  sole (first ∷ items) few zero zero item found there passes there_too passes_too = refl
  sole (first ∷ items) few zero (suc other) item found there passes there_too passes_too =
      let one = marked first (ap test (some_is first item there) ∙ passes) in
      let behind = is_counted items other found there_too passes_too in
      let all = counted first items in absurd (omega (arith, one, all, behind, few))
  sole (first ∷ items) few (suc place) zero item found there passes there_too passes_too =
      let one = marked first (ap test (some_is first found there_too) ∙ passes_too) in
      let behind = is_counted items place item there passes in
      let all = counted first items in absurd (omega (arith, one, all, behind, few))
  sole (first ∷ items) few (suc place) (suc other) item found there passes there_too passes_too =
      let all = counted first items in
      ap (λ (it : ℕ). suc it) (sole items (omega (arith, all, few)) place other item found there passes there_too passes_too)

  -- where none passes, none is found
  pub none_found : (items : List Item) → ((place : ℕ) (item : Item) → slice_get items place ≡ Some item → test item ≡ true → ⊥) → list_any test items ≡ false
  none_found [] none = refl
  none_found (first ∷ items) none = by_test (test first) refl (none_found items (λ place item. none (suc place) item))
    where
      by_test : (passes : Bool) → test first ≡ passes → list_any test items ≡ false → list_any test (first ∷ items) ≡ false
      by_test true is behind = absurd (none zero first refl is)
      by_test false is behind = rw is behind

  -- one that passes is found
  pub one_found : (items : List Item) (place : ℕ) (item : Item) → slice_get items place ≡ Some item → test item ≡ true → list_any test items ≡ true
  one_found [] place item there passes = absurd (cc)
  one_found (first ∷ items) zero item there passes = rw (ap test (some_is first item there) ∙ passes) refl
  one_found (first ∷ items) (suc place) item there passes = by_test (test first) refl (one_found items place item there passes)
    where
      by_test : (here : Bool) → test first ≡ here → list_any test items ≡ true → list_any test (first ∷ items) ≡ true
      by_test true is behind = rw is refl
      by_test false is behind = rw is behind

-- the test of one role
is_same-itself : (one : Role) → (one ≡ role.Nothing → ⊥) → is_same one one ≡ true
is_same-itself role.Nothing some = absurd (some refl)
is_same-itself role.Input some = refl
is_same-itself role.Output some = refl
is_same-itself (role.Reader place) some = eq-eqb place place refl
is_same-itself (role.Writer place) some = eq-eqb place place refl

same_is : (one other : Role) → is_same one other ≡ true → other ≡ one
same_is role.Input role.Input is = refl
same_is role.Output role.Output is = refl
same_is (role.Reader place) (role.Reader other) is = ap (λ (it : ℕ). role.Reader it) (sym (eqb-true place other is))
same_is (role.Writer place) (role.Writer other) is = ap (λ (it : ℕ). role.Writer it) (sym (eqb-true place other is))
same_is one other is = absurd (true≢false (sym is))

-- what a role tells of a node that has it
abbrev tells : List ℕ → List ℕ → NodeKind → ℕ → Role → Type 0
tells readers writers it node role.Nothing = Unit {0}
tells readers writers it node role.Input = is_input it ≡ true
tells readers writers it node role.Output = is_output it ≡ true
tells readers writers it node (role.Reader place) = (reads_file it ≡ true) × (place_of readers node ≡ Some place)
tells readers writers it node (role.Writer place) = (writes_file it ≡ true) × (place_of writers node ≡ Some place)

writer-tells : (readers writers : List ℕ) (it : NodeKind) (node : ℕ) → writes_file it ≡ true → (found : Option ℕ) → place_of writers node ≡ found
    → tells readers writers it node (option_map_or role.Writer found role.Nothing)
writer-tells readers writers it node writes None is = tt
writer-tells readers writers it node writes (Some place) is = (writes, is)

role_tells : (readers writers : List ℕ) (it : NodeKind) (node : ℕ) → tells readers writers it node (role_of it node readers writers)
role_tells readers writers (kind.Source from.Input) node = refl
role_tells readers writers (kind.Source (from.File path)) node = by_place (place_of readers node) refl
  where
    by_place : (found : Option ℕ) → place_of readers node ≡ found → tells readers writers (kind.Source (from.File path)) node (option_map_or role.Reader found role.Nothing)
    by_place None is = tt
    by_place (Some place) is = (refl, is)
role_tells readers writers (kind.Sink to.Output) node = refl
role_tells readers writers (kind.Sink (to.File path mode)) node = writer-tells readers writers (kind.Sink (to.File path mode)) node refl (place_of writers node) refl
role_tells readers writers (kind.TeeFile path mode) node = writer-tells readers writers (kind.TeeFile path mode) node refl (place_of writers node) refl
role_tells readers writers other node = tt

-- the end of a node's role is its own
module _ {R W I O : Type 0} where
  writer-role : (ends : Ends R W I O) (found : Option ℕ) → end_by (option_map_or role.Writer found role.Nothing) ends ≡ option_map Writer (option_and_then (end_in ends.writers.items) found)
  writer-role ends None = refl
  writer-role ends (Some place) = refl

  own_role : (it : NodeKind) (node : ℕ) (ends : Ends R W I O) → end_by (role_of it node (numbers_of ends.readers.items) (numbers_of ends.writers.items)) ends ≡ own_end it node ends
  own_role (kind.Source from.Input) node ends = refl
  own_role (kind.Source (from.File path)) node ends = by_place (place_of (numbers_of ends.readers.items) node)
    where
      by_place : (found : Option ℕ) → end_by (option_map_or role.Reader found role.Nothing) ends ≡ option_map Reader (option_and_then (end_in ends.readers.items) found)
      by_place None = refl
      by_place (Some place) = refl
  own_role (kind.Sink to.Output) node ends = refl
  own_role (kind.Sink (to.File path mode)) node ends = writer-role ends (place_of (numbers_of ends.writers.items) node)
  own_role (kind.TeeFile path mode) node ends = writer-role ends (place_of (numbers_of ends.writers.items) node)
  own_role other node ends = refl

pub has_roles : {R W I O : Type 0} (nodes : List (Cell NodeKind)) (ends : Ends R W I O) (roles : List Role) → length roles ≡ length nodes
    → NodesHave (λ node cell it. it ≡ role_of cell.kind node (numbers_of ends.readers.items) (numbers_of ends.writers.items)) nodes roles → HasRoles nodes ends roles
has_roles nodes ends roles all each = record { all = all; each = each }

module _ (cells : List (Cell NodeKind)) (readers writers : List ℕ) (roles : List Role) (all : length roles ≡ length cells)
    (each : NodesHave (λ node cell it. it ≡ role_of cell.kind node readers writers) cells roles) where
  -- the role of a node, and that of no node
  pub role_here : (node : ℕ) (cell : Cell NodeKind) → slice_get cells node ≡ Some cell → role_at roles node ≡ role_of cell.kind node readers writers
  role_here node cell at =
      let here = some_at roles node (subst (λ (count : ℕ). node < count) (sym all) (slice_get_within cells node cell at)) in
      get_or_from_slice_get roles node here.0 role.Nothing here.1 ∙ each node cell here.0 at here.1

  role_past : (node : ℕ) → slice_get cells node ≡ None → role_at roles node ≡ role.Nothing
  role_past node none = by_role (slice_get roles node) refl
    where
      by_role : (found : Option Role) → slice_get roles node ≡ found → role_at roles node ≡ role.Nothing
      by_role None past = sym (unwrap_or-slice_get roles node role.Nothing) ∙ ap (λ (it : Option Role). unwrap_or it role.Nothing) past
      by_role (Some found) there =
          let here = some_at cells node (subst (λ (count : ℕ). node < count) all (slice_get_within roles node found there)) in
          absurd (cc)

  -- a node with a role that has an end
  told : (node : ℕ) (one : Role) → role_at roles node ≡ one → (one ≡ role.Nothing → ⊥)
      → (cell : Cell NodeKind) × ((slice_get cells node ≡ Some cell) × tells readers writers cell.kind node one)
  told node one is some = by_cell (slice_get cells node) refl
    where
      by_cell : (found : Option (Cell NodeKind)) → slice_get cells node ≡ found → (cell : Cell NodeKind) × ((slice_get cells node ≡ Some cell) × tells readers writers cell.kind node one)
      by_cell None none = absurd (some (sym is ∙ role_past node none))
      by_cell (Some cell) at =
          (cell, (at, subst (tells readers writers cell.kind node) (sym (role_here node cell at) ∙ is) (role_tells readers writers cell.kind node)))

  pub roles_apart : HasOneOfEachEnd cells → AreApart roles
  roles_apart ends node other same some = by_role (role_at roles node) refl (sym same) some
    where
      by_role : (one : Role) → role_at roles node ≡ one → role_at roles other ≡ one → (one ≡ role.Nothing → ⊥) → node ≡ other
      by_role role.Nothing here there some = absurd (some refl)
      by_role role.Input here there some =
          let own = told node role.Input here some in
          let its = told other role.Input there some in
          sole (λ (cell : Cell NodeKind). is_input cell.kind) cells ends.input node other own.0 its.0 own.1.0 own.1.1 its.1.0 its.1.1
      by_role role.Output here there some =
          let own = told node role.Output here some in
          let its = told other role.Output there some in
          sole (λ (cell : Cell NodeKind). is_output cell.kind) cells ends.output node other own.0 its.0 own.1.0 own.1.1 its.1.0 its.1.1
      by_role (role.Reader place) here there some =
          let own = told node (role.Reader place) here some in
          let its = told other (role.Reader place) there some in
          some_is node other (sym (place_there readers node place own.1.1.1) ∙ place_there readers other place its.1.1.1)
      by_role (role.Writer place) here there some =
          let own = told node (role.Writer place) here some in
          let its = told other (role.Writer place) there some in
          some_is node other (sym (place_there writers node place own.1.1.1) ∙ place_there writers other place its.1.1.1)

  -- a role that no node has
  unused : (one : Role) → (one ≡ role.Nothing → ⊥) → ((node : ℕ) (cell : Cell NodeKind) → slice_get cells node ≡ Some cell → tells readers writers cell.kind node one → ⊥)
      → is_used roles one ≡ false
  unused one some none = none_found (is_same one) roles (λ node found at same.
      let own = told node one (get_or_from_slice_get roles node found role.Nothing at ∙ same_is one found same) some in none node own.0 own.1.0 own.1.1)

  module _ {R W I O : Type 0} (ends : Ends R W I O) (readers_are : readers ≡ numbers_of ends.readers.items) (writers_are : writers ≡ numbers_of ends.writers.items) where
    -- the end of a node is that of its role
    pub end_of_role : (node : ℕ) → end_by (role_at roles node) ends ≡ end_at cells ends node
    end_of_role node = by_cell (slice_get cells node) refl
      where
        by_cell : (found : Option (Cell NodeKind)) → slice_get cells node ≡ found → end_by (role_at roles node) ends ≡ option_and_then (λ (cell : Cell NodeKind). own_end cell.kind node ends) found
        by_cell None none = ap (λ (one : Role). end_by one ends) (role_past node none)
        by_cell (Some cell) at =
            ap (λ (one : Role). end_by one ends)
            (role_here node cell at ∙ ap (λ (numbers : List ℕ). role_of cell.kind node numbers writers) readers_are
            ∙ ap (λ (numbers : List ℕ). role_of cell.kind node (numbers_of ends.readers.items) numbers) writers_are)
            ∙ own_role cell.kind node ends

-- what an end is, out of a node's end
abbrev reader_in : {R W I O : Type 0} → Option (NodeEnd R W I O) → Option R
reader_in None = None
reader_in (Some (Reader reader)) = Some reader
reader_in (Some (Writer writer)) = None
reader_in (Some (Input input)) = None
reader_in (Some (Output out)) = None

abbrev writer_in : {R W I O : Type 0} → Option (NodeEnd R W I O) → Option W
writer_in None = None
writer_in (Some (Reader reader)) = None
writer_in (Some (Writer writer)) = Some writer
writer_in (Some (Input input)) = None
writer_in (Some (Output out)) = None

reader_back : {R : Type 0} (W I O : Type 0) (found : Option R) → reader_in {R = R} {W = W} {I = I} {O = O} (option_map Reader found) ≡ found
reader_back W I O None = refl
reader_back W I O (Some reader) = refl

writer_back : {W : Type 0} (R I O : Type 0) (found : Option W) → writer_in {R = R} {W = W} {I = I} {O = O} (option_map Writer found) ≡ found
writer_back R I O None = refl
writer_back R I O (Some writer) = refl

module _ {R W I O : Type 0} where
  -- what no call has changed
  module _ (roles roles' : List Role) (old new : Ends R W I O) (same : kept roles' new ≡ kept roles old) where
    pub roles_same : roles' ≡ roles
    roles_same = ap (λ (it : Kept R W I O). it.roles) same

    idle_same : (one : Role) → is_used roles one ≡ false → end_by one new ≡ end_by one old
    idle_same one idle =
        let left : (if is_used roles' one then None else end_by one new) ≡ (if is_used roles one then None else end_by one old) = ap (λ (it : Kept R W I O). it.idle one) same in
        let idle' : is_used roles' one ≡ false = ap (λ (list : List Role). is_used list one) roles_same ∙ idle in
        sym (ap (λ (used : Bool). if used then None else end_by one new) idle') ∙ left ∙ ap (λ (used : Bool). if used then None else end_by one old) idle

    module _ (cells : List (Cell NodeKind)) (own : HasRoles cells old roles) where
      idle_end : (one : Role) → (one ≡ role.Nothing → ⊥)
          → ((node : ℕ) (cell : Cell NodeKind) → slice_get cells node ≡ Some cell → tells (numbers_of old.readers.items) (numbers_of old.writers.items) cell.kind node one → ⊥)
          → end_by one new ≡ end_by one old
      idle_end one some none = idle_same one (unused cells (numbers_of old.readers.items) (numbers_of old.writers.items) roles own.all own.each one some none)

      pub keeps_others : KeepsOthers cells old new
      keeps_others = record {
        readers = ap (λ (it : Kept R W I O). it.readers) same;
        writers = ap (λ (it : Kept R W I O). it.writers) same;
        reader = λ place none.
            sym (reader_back W I O (end_in new.readers.items place))
            ∙ ap reader_in (idle_end (role.Reader place) (λ is. cc) (λ node cell at told. none node cell at told.0 told.1))
            ∙ reader_back W I O (end_in old.readers.items place);
        writer = λ place none.
            sym (writer_back R I O (end_in new.writers.items place))
            ∙ ap writer_in (idle_end (role.Writer place) (λ is. cc) (λ node cell at told. none node cell at told.0 told.1))
            ∙ writer_back R I O (end_in old.writers.items place);
        input = λ none. let here = idle_end role.Input (λ is. cc) (λ node cell at told. true≢false (sym told ∙ none node cell at)) in cc;
        out = λ none. let here = idle_end role.Output (λ is. cc) (λ node cell at told. true≢false (sym told ∙ none node cell at)) in cc;
      }

-- an end that changes at its place keeps all numbers
pub same_numbers : {End : Type 0} (entries : List (ℕ × End)) (place : ℕ) (end : End) (spare : ℕ × End)
    → numbers_of (slice_set entries place ((slice_index_or entries place spare).0, end)) ≡ numbers_of entries
same_numbers {End} entries place end spare = map-set_same (λ (entry : ℕ × End). entry.0) entries place ((slice_index_or entries place spare).0, end) spare refl

module _ {R W I O : Type 0} (ends : Ends R W I O) where
  -- a role with an end that is read or written is no role of none
  pub reads_some : (one : Role) → is_read (end_by one ends) ≡ true → one ≡ role.Nothing → ⊥
  reads_some one reads is = true≢false (sym reads ∙ ap (λ (it : Role). is_read (end_by it ends)) is)

  pub writes_some : (one : Role) → is_written (end_by one ends) ≡ true → one ≡ role.Nothing → ⊥
  writes_some one writes is = true≢false (sym writes ∙ ap (λ (it : Role). is_written (end_by it ends)) is)

module _ {R W I O : Type 0} where
  -- a file's end is read, and written
  read_some : (found : Option (NodeEnd R W I O)) (back : Option R) → found ≡ option_map Reader back → is_some found ≡ true → is_read found ≡ true
  read_some found None is some = absurd (true≢false (sym some ∙ ap is_some is))
  read_some found (Some reader) is some = ap is_read is

  written_some : (found : Option (NodeEnd R W I O)) (back : Option W) → found ≡ option_map Writer back → is_some found ≡ true → is_written found ≡ true
  written_some found None is some = absurd (true≢false (sym some ∙ ap is_some is))
  written_some found (Some writer) is some = ap is_written is

  -- a node's end is read where the node is a source, and written where it writes
  pub own_read : (it : NodeKind) (node : ℕ) (ends : Ends R W I O) → is_source it ≡ true → is_some (own_end it node ends) ≡ true → is_read (own_end it node ends) ≡ true
  own_read (kind.Source from.Input) node ends source some = refl
  own_read (kind.Source (from.File path)) node ends source some = read_some (own_end (kind.Source (from.File path)) node ends) (end_of ends.readers.items node) refl some
  own_read other node ends source some = absurd (true≢false (sym source))

  pub own_written : (it : NodeKind) (node : ℕ) (ends : Ends R W I O) → is_writer it ≡ true → is_some (own_end it node ends) ≡ true → is_written (own_end it node ends) ≡ true
  own_written (kind.Sink to.Output) node ends writes some = refl
  own_written (kind.Sink (to.File path mode)) node ends writes some = written_some (own_end (kind.Sink (to.File path mode)) node ends) (end_of ends.writers.items node) refl some
  own_written (kind.TeeFile path mode) node ends writes some = written_some (own_end (kind.TeeFile path mode) node ends) (end_of ends.writers.items node) refl some
  own_written other node ends writes some = absurd (true≢false (sym writes))

-- a call of one node's end: the ends of other roles are as they were
module _ {R W I O : Type 0} (roles : List Role) (apart : AreApart roles) (old new : Ends R W I O) (node : ℕ) (some : role_at roles node ≡ role.Nothing → ⊥)
    (others : (other : Role) → (other ≡ role_at roles node → ⊥) → end_by other new ≡ end_by other old) where
  -- so are those of other nodes
  pub other_end : (other : ℕ) → (other == node) ≡ false → end_by (role_at roles other) new ≡ end_by (role_at roles other) old
  other_end other differs = others (role_at roles other) (λ same. true≢false (sym (eq-eqb other node (sym (apart node other (sym same) some))) ∙ differs))

  -- what is told of each node's end is the same where it is so of this one's
  pub each_end : {Told : Type 0} (told : Option (NodeEnd R W I O) → Told) → told (end_by (role_at roles node) new) ≡ told (end_by (role_at roles node) old)
      → (other : ℕ) → told (end_by (role_at roles other) new) ≡ told (end_by (role_at roles other) old)
  each_end {Told} told here other = by_test (other == node) refl
    where
      by_test : (test : Bool) → (other == node) ≡ test → told (end_by (role_at roles other) new) ≡ told (end_by (role_at roles other) old)
      by_test true is = subst (λ (at : ℕ). told (end_by (role_at roles at) new) ≡ told (end_by (role_at roles at) old)) (sym (eqb-true other node is)) here
      by_test false is = ap told (other_end other is)

  used_here : is_used roles (role_at roles node) ≡ true
  used_here = by_role (slice_get roles node) refl
    where
      by_role : (found : Option Role) → slice_get roles node ≡ found → is_used roles (role_at roles node) ≡ true
      by_role None past = absurd (some (sym (unwrap_or-slice_get roles node role.Nothing) ∙ ap (λ (it : Option Role). unwrap_or it role.Nothing) past))
      by_role (Some found) there =
          let is : role_at roles node ≡ found = get_or_from_slice_get roles node found role.Nothing there in
          one_found (is_same (role_at roles node)) roles node found there (subst (λ (it : Role). is_same (role_at roles node) it ≡ true) is (is_same-itself (role_at roles node) some))

  pub still_kept : numbers_of new.readers.items ≡ numbers_of old.readers.items → numbers_of new.writers.items ≡ numbers_of old.writers.items → kept roles new ≡ kept roles old
  still_kept readers writers = λ i. record { roles = roles; readers = readers i; writers = writers i; idle = fun_ext idle i }
    where
      by_test : (one : Role) (used : Bool) → is_used roles one ≡ used → (if used then None else end_by one new) ≡ (if used then None else end_by one old)
      by_test one true is = refl
      by_test one false is = others one (λ same. true≢false (sym (ap (is_used roles) same ∙ used_here) ∙ is))

      idle : (one : Role) → (if is_used roles one then None else end_by one new) ≡ (if is_used roles one then None else end_by one old)
      idle one = by_test one (is_used roles one) refl
