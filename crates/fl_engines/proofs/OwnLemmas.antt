-- Runs over a graph's own ends: what is said of its nodes is said of the lists of ends.
use Rattle.std.proofs.Common.{◌≡◌, ℕ, zero, suc, ◌+◌, ◌≤◌, ◌==◌, List, [], ◌∷◌, ◌++◌, Bool, true, false, ◌||◌, if◌then◌else◌, length, map, get_or, drop, slice_get, Option, Some, None, is_some, refl, ap, sym, subst, ◌∙◌, length-append, append_assoc, arith, eq-eqb}
use Rattle.std.specs.List.{list_all, cons_option}
use Rattle.std.specs.Option.{option_map, option_and_then, option_map_or}
use Rattle.std.proofs.lemmas.Bool.{true≢false, and_from, ne_eqb, or_left, or_right}
use Rattle.ps_world.specs.Paths.{Components}
use Rattle.ps_world.specs.Told.{then_bytes}
use Rattle.ps_world.specs.declared.tree.Mode.{Mode}
use Rattle.fl_graph.specs.Kinds.{is_input}
use Rattle.fl_graph.specs.Net.{has}
use Rattle.fl_graph.specs.Paths.{path_read, paths_read}
use Rattle.fl_graph.specs.declared.graphs.Cell.{Cell}
use Rattle.fl_graph.specs.declared.kinds.NodeKind.{NodeKind}
use Rattle.fl_graph.specs.declared.kinds.NodeKind.TheVariants as kind
use Rattle.fl_graph.specs.declared.kinds.From.TheVariants as from
use Rattle.fl_graph.specs.declared.kinds.To.TheVariants as to
use Rattle.fl_graph.proofs.ListLemmas.{holds-has}
use Rattle.fl_classes.specs.Flow.{Placed, is_source, placed_from}
use Rattle.fl_classes.specs.Kinds.{is_writer}
use Rattle.fl_classes.specs.Sources.{source_texts, text_read}
use Rattle.fl_core.specs.EndLists.{GrewByFiles, HasItsEnds, NodeEnd, Reader, Writer, end_at, end_in, end_of, file_nodes, file_sources, left_at, left_by, numbers_of, numbers_where, own_end, place_of, reads_file, writes_file}
use Rattle.fl_engines.specs.OwnEnds.{HasOwnEnds, IsTold, each_of, grown, texts_for}
use Rattle.fl_net.specs.Plans.{AreTold}
use Rattle.fl_core.specs.declared.end_lists.Ends.{Ends}
use Rattle.fl_core.proofs.RoleLemmas.{one_found}

-- NUMBERS IN A ROW
-- each is at least this one, and above those before it
abbrev IsRising : ℕ → List ℕ → Type 0
IsRising from [] = Unit {0}
IsRising from (number ∷ numbers) = (from ≤ number) × IsRising (number + 1) numbers

rising-less : (from later : ℕ) (numbers : List ℕ) → from ≤ later → IsRising later numbers → IsRising from numbers
rising-less from later [] less rising = tt
rising-less from later (number ∷ numbers) less rising = let first = rising.0 in (omega (arith, less, first), rising.1)

map-above : {X : Type 0} (one other : ℕ → X) (from : ℕ) (numbers : List ℕ) → IsRising from numbers → ((number : ℕ) → from ≤ number → one number ≡ other number) → map one numbers ≡ map other numbers
map-above one other from [] rising same = refl
map-above {X} one other from (number ∷ numbers) rising same =
    let first = rising.0 in
    let rest = map-above one other (number + 1) numbers rising.1 (λ later above. same later (omega (arith, first, above))) in
    ap (λ (value : X). value ∷ map one numbers) (same number first) ∙ ap (λ (values : List X). other number ∷ values) rest

module _ (test : NodeKind → Bool) where
  numbers-rise : (from : ℕ) (cells : List (Cell NodeKind)) → IsRising from (numbers_where test from cells)
  numbers-rise from [] = tt
  numbers-rise from (cell ∷ cells) = by_test (test cell.kind) (numbers-rise (from + 1) cells)
    where
      by_test : (here : Bool) → IsRising (from + 1) (numbers_where test (from + 1) cells)
          → IsRising from (if here then from ∷ numbers_where test (from + 1) cells else numbers_where test (from + 1) cells)
      by_test true behind = (omega arith, behind)
      by_test false behind = rising-less from (from + 1) (numbers_where test (from + 1) cells) (omega arith) behind

  -- a node of such a kind is among them
  pub node-has : (from : ℕ) (cells : List (Cell NodeKind)) (node : ℕ) (cell : Cell NodeKind) → slice_get cells node ≡ Some cell → test cell.kind ≡ true
      → has (from + node) (numbers_where test from cells) ≡ true
  node-has from [] node cell at is = absurd (cc)
  node-has from (first ∷ cells) zero cell at is =
      let same : first ≡ cell = cc in
      let here : test first.kind ≡ true = ap (λ (it : Cell NodeKind). test it.kind) same ∙ is in
      ap (λ (passes : Bool). has (from + 0) (if passes then from ∷ numbers_where test (from + 1) cells else numbers_where test (from + 1) cells)) here
      ∙ or_left (from == (from + 0)) (has (from + 0) (numbers_where test (from + 1) cells)) (eq-eqb from (from + 0) (omega arith))
  node-has from (first ∷ cells) (suc node) cell at is =
      let next : from + suc node ≡ (from + 1) + node = omega arith in
      by_test (test first.kind) (ap (λ (number : ℕ). has number (numbers_where test (from + 1) cells)) next ∙ node-has (from + 1) cells node cell at is)
    where
      by_test : (passes : Bool) → has (from + suc node) (numbers_where test (from + 1) cells) ≡ true
          → has (from + suc node) (if passes then from ∷ numbers_where test (from + 1) cells else numbers_where test (from + 1) cells) ≡ true
      by_test true behind = or_right (from == (from + suc node)) (has (from + suc node) (numbers_where test (from + 1) cells)) behind
      by_test false behind = behind

  -- what holds at each node of such a kind holds of their list
  map-where : {X : Type 0} (one other : ℕ → X) (from : ℕ) (cells : List (Cell NodeKind))
      → ((node : ℕ) (cell : Cell NodeKind) → slice_get cells node ≡ Some cell → test cell.kind ≡ true → one (from + node) ≡ other (from + node))
      → map one (numbers_where test from cells) ≡ map other (numbers_where test from cells)
  map-where one other from [] same = refl
  map-where {X} one other from (first ∷ cells) same =
      by_test (test first.kind) refl
      (map-where one other (from + 1) cells (λ node cell at is. let next : from + suc node ≡ (from + 1) + node = omega arith in subst (λ (number : ℕ). one number ≡ other number) next (same (suc node) cell at is)))
    where
      by_test : (passes : Bool) → test first.kind ≡ passes → map one (numbers_where test (from + 1) cells) ≡ map other (numbers_where test (from + 1) cells)
          → map one (if passes then from ∷ numbers_where test (from + 1) cells else numbers_where test (from + 1) cells)
          ≡ map other (if passes then from ∷ numbers_where test (from + 1) cells else numbers_where test (from + 1) cells)
      by_test true is behind =
          let here : from + 0 ≡ from = omega arith in
          ap (λ (value : X). value ∷ map one (numbers_where test (from + 1) cells)) (subst (λ (number : ℕ). one number ≡ other number) here (same 0 first refl is))
          ∙ ap (λ (values : List X). other from ∷ values) behind
      by_test false is behind = behind

  pub map-nodes : {X : Type 0} (one other : ℕ → X) (cells : List (Cell NodeKind))
      → ((node : ℕ) (cell : Cell NodeKind) → slice_get cells node ≡ Some cell → test cell.kind ≡ true → one node ≡ other node)
      → map one (numbers_where test 0 cells) ≡ map other (numbers_where test 0 cells)
  map-nodes one other cells same =
      map-where one other 0 cells (λ node cell at is. let here : node ≡ 0 + node = omega arith in subst (λ (number : ℕ). one number ≡ other number) here (same node cell at is))

-- ENDS IN ORDER
-- the first end of a list is no other's
end-behind : {End : Type 0} (entry : ℕ × End) (entries : List (ℕ × End)) (number : ℕ) → (entry.0 == number) ≡ false → end_of (entry ∷ entries) number ≡ end_of entries number
end-behind entry entries number differ =
    ap (λ (here : Bool). option_and_then (end_in (entry ∷ entries)) (if here then Some zero else option_map suc (place_of (numbers_of entries) number))) differ
    ∙ behind (place_of (numbers_of entries) number)
  where
    behind : (place : Option ℕ) → option_and_then (end_in (entry ∷ entries)) (option_map suc place) ≡ option_and_then (end_in entries) place
    behind None = refl
    behind (Some place) = refl

-- what is told of the ends by their numbers is told of them in order
ends-in-order : {End Told : Type 0} (tell : Option End → Told) (from : ℕ) (entries : List (ℕ × End)) → IsRising from (numbers_of entries)
    → map (λ number. tell (end_of entries number)) (numbers_of entries) ≡ each_of (λ end. tell (Some end)) entries
ends-in-order tell from [] rising = refl
ends-in-order {End} {Told} tell from (entry ∷ entries) rising =
    let first : tell (end_of (entry ∷ entries) entry.0) ≡ tell (Some entry.1) =
    ap (λ (here : Bool). tell (option_and_then (end_in (entry ∷ entries)) (if here then Some zero else option_map suc (place_of (numbers_of entries) entry.0)))) (eq-eqb entry.0 entry.0 refl) in
    let rest : map (λ number. tell (end_of (entry ∷ entries) number)) (numbers_of entries) ≡ map (λ number. tell (end_of entries number)) (numbers_of entries) =
    map-above (λ number. tell (end_of (entry ∷ entries) number)) (λ number. tell (end_of entries number)) (entry.0 + 1) (numbers_of entries) rising.1
    (λ number above. ap tell (end-behind entry entries number (ne_eqb entry.0 number (λ same. omega (arith, same, above))))) in
    ap (λ (value : Told). value ∷ map (λ number. tell (end_of (entry ∷ entries) number)) (numbers_of entries)) first
    ∙ ap (λ (values : List Told). tell (Some entry.1) ∷ values) (rest ∙ ends-in-order tell (entry.0 + 1) entries rising.1)

-- what all of these tell is told of each number
all-told : {End : Type 0} (test : ℕ → Bool) (numbers : List ℕ) (entries : List (ℕ × End)) → map test numbers ≡ each_of (λ end. true) entries → list_all test numbers ≡ true
all-told test [] entries same = refl
all-told test (number ∷ numbers) [] same = absurd (cc)
all-told test (number ∷ numbers) (entry ∷ entries) same =
    and_from (test number) (list_all test numbers) (ap (λ (tests : List Bool). get_or tests 0 false) same)
    (all-told test numbers entries (ap (λ (tests : List Bool). drop 1 tests) same))

-- ends that grew by texts, in order
pub grew-in-order : (old new : ℕ → Option (List ℕ)) (nodes : List ℕ) (files : List (Components × (Mode × List ℕ))) → GrewByFiles old new nodes files
    → map new nodes ≡ grown (map old nodes) (texts_for files)
grew-in-order old new [] [] grew = refl
grew-in-order old new [] (file ∷ files) grew = absurd grew
grew-in-order old new (node ∷ nodes) [] grew = absurd grew
grew-in-order old new (node ∷ nodes) (file ∷ files) grew =
    ap (λ (told : Option (List ℕ)). told ∷ map new nodes) grew.0
    ∙ ap (λ (others : List (Option (List ℕ))). then_bytes (old node) file.1.1 ∷ others) (grew-in-order old new nodes files grew.1)

-- TEXTS OF SOURCES
reads-path : (it : NodeKind) → reads_file it ≡ is_some (path_read it)
reads-path (kind.Source (from.File path)) = refl
reads-path (kind.Source from.Input) = refl
reads-path other = refl

module _ (input : List ℕ) (files : Components → List ℕ) where
  reads-text : (it : NodeKind) → is_source it ≡ is_some (text_read input files it)
  reads-text (kind.Source (from.File path)) = refl
  reads-text (kind.Source from.Input) = refl
  reads-text other = refl

  path-text : (it : NodeKind) (path : Components) → path_read it ≡ Some path → text_read input files it ≡ Some (files path)
  path-text (kind.Source (from.File other)) path is = let same : other ≡ path = cc in ap (λ (it : Components). Some (files it)) same
  path-text (kind.Source from.Input) path is = absurd (cc)
  path-text other path is = absurd (cc)

  abbrev text_at : Components → Option (List ℕ)
  text_at path = Some (files path)

  -- a reader tells the text of its file, at its node
  told-read : (told : ℕ → Option (List ℕ)) (from : ℕ) (cells : List (Cell NodeKind)) → map told (file_sources from cells) ≡ map text_at (paths_read cells)
      → (node : ℕ) (cell : Cell NodeKind) → slice_get cells node ≡ Some cell → reads_file cell.kind ≡ true → told (from + node) ≡ text_read input files cell.kind
  told-read told from [] same node cell at reads = absurd (cc)
  told-read told from (first ∷ cells) same node cell at reads =
      by_path (path_read first.kind) refl
      (subst (λ (passes : Bool). map told (if passes then from ∷ file_sources (from + 1) cells else file_sources (from + 1) cells) ≡ map text_at (paths_read (first ∷ cells))) (reads-path first.kind) same)
      node at (λ rest node at. told-read told (from + 1) cells rest node cell at reads)
    where
      behind : (map told (file_sources (from + 1) cells) ≡ map text_at (paths_read cells) → (node : ℕ) → slice_get cells node ≡ Some cell → told ((from + 1) + node) ≡ text_read input files cell.kind)
          → map told (file_sources (from + 1) cells) ≡ map text_at (paths_read cells) → (node : ℕ) → slice_get cells node ≡ Some cell → told (from + suc node) ≡ text_read input files cell.kind
      behind again rest node at =
          let next : (from + 1) + node ≡ from + suc node = omega arith in
          subst (λ (number : ℕ). told number ≡ text_read input files cell.kind) next (again rest node at)

      by_path : (path : Option Components) → path_read first.kind ≡ path
          → map told (if is_some path then from ∷ file_sources (from + 1) cells else file_sources (from + 1) cells) ≡ map text_at (cons_option path (paths_read cells))
          → (node : ℕ) → slice_get (first ∷ cells) node ≡ Some cell
          → (map told (file_sources (from + 1) cells) ≡ map text_at (paths_read cells) → (node : ℕ) → slice_get cells node ≡ Some cell → told ((from + 1) + node) ≡ text_read input files cell.kind)
          → told (from + node) ≡ text_read input files cell.kind
      by_path None is same zero at again =
          let it : first ≡ cell = cc in
          absurd (true≢false (sym reads ∙ sym (ap (λ (one : Cell NodeKind). reads_file one.kind) it) ∙ reads-path first.kind ∙ ap is_some is))
      by_path None is same (suc node) at again = behind again same node at
      by_path (Some path) is same zero at again =
          let it : first ≡ cell = cc in
          let here : from + 0 ≡ from = omega arith in
          ap told here ∙ ap (λ (tells : List (Option (List ℕ))). get_or tells 0 None) same ∙ sym (path-text first.kind path is)
          ∙ ap (λ (one : Cell NodeKind). text_read input files one.kind) it
      by_path (Some path) is same (suc node) at again = behind again (ap (λ (tells : List (Option (List ℕ))). drop 1 tells) same) node at

  get-here : (front rest : List (List ℕ)) (text : List ℕ) → get_or (front ++ text ∷ rest) (length front) [] ≡ text
  get-here [] rest text = refl
  get-here (first ∷ front) rest text = get-here front rest text

  -- a source has its text by its number among the sources
  source-told : (front : List (List ℕ)) (cells : List (Cell NodeKind)) (node : ℕ) (cell : Cell Placed) → slice_get (placed_from (length front) cells) node ≡ Some cell
      → is_source cell.kind.1 ≡ true → text_read input files cell.kind.1 ≡ Some (get_or (front ++ source_texts cells input files) cell.kind.0 [])
  source-told front [] node cell at is = absurd (cc)
  source-told front (first ∷ cells) node cell at is =
      by_text (text_read input files first.kind) refl node at (λ front node at. source-told front cells node cell at is)
    where
      by_text : (text : Option (List ℕ)) → text_read input files first.kind ≡ text → (node : ℕ) → slice_get (placed_from (length front) (first ∷ cells)) node ≡ Some cell
          → ((front : List (List ℕ)) (node : ℕ) → slice_get (placed_from (length front) cells) node ≡ Some cell
          → text_read input files cell.kind.1 ≡ Some (get_or (front ++ source_texts cells input files) cell.kind.0 []))
          → text_read input files cell.kind.1 ≡ Some (get_or (front ++ cons_option text (source_texts cells input files)) cell.kind.0 [])
      by_text None reads zero at again =
          let same : (length front, first.kind) ≡ cell.kind = ap (λ (it : Option (Cell Placed)). option_map_or (λ (one : Cell Placed). one.kind) it cell.kind) at in
          absurd (true≢false (sym is ∙ sym (ap (λ (it : Placed). is_source it.1) same) ∙ reads-text first.kind ∙ ap is_some reads))
      by_text None reads (suc node) at again =
          again front node
          (subst (λ (passes : Bool). slice_get (placed_from (if passes then length front + 1 else length front) cells) node ≡ Some cell) (reads-text first.kind ∙ ap is_some reads) at)
      by_text (Some text) reads zero at again =
          let same : (length front, first.kind) ≡ cell.kind = ap (λ (it : Option (Cell Placed)). option_map_or (λ (one : Cell Placed). one.kind) it cell.kind) at in
          sym (ap (λ (it : Placed). text_read input files it.1) same) ∙ reads
          ∙ ap (λ (it : List ℕ). Some it) (sym (get-here front (source_texts cells input files) text) ∙ ap (λ (it : Placed). get_or (front ++ text ∷ source_texts cells input files) it.0 []) same)
      by_text (Some text) reads (suc node) at again =
          let size : length (front ++ text ∷ []) ≡ length front + 1 = length-append front (text ∷ []) in
          again (front ++ text ∷ []) node
          (subst (λ (number : ℕ). slice_get (placed_from number cells) node ≡ Some cell) (sym size)
          (subst (λ (passes : Bool). slice_get (placed_from (if passes then length front + 1 else length front) cells) node ≡ Some cell) (reads-text first.kind ∙ ap is_some reads) at))
          ∙ ap (λ (texts : List (List ℕ)). Some (get_or texts cell.kind.0 [])) (append_assoc front (text ∷ []) (source_texts cells input files))

-- a placed node stands at its place
placed-at : (number : ℕ) (cells : List (Cell NodeKind)) (node : ℕ) (cell : Cell Placed) → slice_get (placed_from number cells) node ≡ Some cell
    → (it : Cell NodeKind) × ((slice_get cells node ≡ Some it) × (it.kind ≡ cell.kind.1))
placed-at number [] node cell at = absurd (cc)
placed-at number (first ∷ cells) zero cell at =
    (first, (refl, ap (λ (it : Option (Cell Placed)). option_map_or (λ (one : Cell Placed). one.kind.1) it first.kind) at))
placed-at number (first ∷ cells) (suc node) cell at = placed-at (if is_source first.kind then number + 1 else number) cells node cell at

-- THE NODES OF A GRAPH
module _ {R W I O : Type 0} (cells : List (Cell NodeKind)) (ends : Ends R W I O) (own : HasOwnEnds cells ends) where
  own-at : (node : ℕ) (cell : Cell NodeKind) → slice_get cells node ≡ Some cell → end_at cells ends node ≡ own_end cell.kind node ends
  own-at node cell at = ap (option_and_then (λ (cell : Cell NodeKind). own_end cell.kind node ends)) at

  reader-end : (it : NodeKind) (node : ℕ) → reads_file it ≡ true → own_end it node ends ≡ option_map Reader (end_of ends.readers.items node)
  reader-end (kind.Source (from.File path)) node is = refl
  reader-end (kind.Source from.Input) node is = absurd (true≢false (sym is))
  reader-end other node is = absurd (true≢false (sym is))

  writer-end : (it : NodeKind) (node : ℕ) → writes_file it ≡ true → own_end it node ends ≡ option_map Writer (end_of ends.writers.items node)
  writer-end (kind.Sink (to.File path mode)) node is = refl
  writer-end (kind.Sink to.Output) node is = absurd (true≢false (sym is))
  writer-end (kind.TeeFile path mode) node is = refl
  writer-end other node is = absurd (true≢false (sym is))

  -- what is told of the ends of the nodes that read a file is told of the readers in order, and so of the writers
  module _ {Told : Type 0} (tell : Option (NodeEnd R W I O) → Told) where
    pub of-readers : map (λ node. tell (end_at cells ends node)) (file_sources 0 cells) ≡ each_of (λ reader. tell (Some (Reader reader))) ends.readers.items
    of-readers =
        map-nodes reads_file (λ node. tell (end_at cells ends node)) (λ node. tell (option_map Reader (end_of ends.readers.items node))) cells
        (λ node cell at is. ap tell (own-at node cell at ∙ reader-end cell.kind node is))
        ∙ ap (map (λ node. tell (option_map Reader (end_of ends.readers.items node)))) (sym own.readers)
        ∙ ends-in-order (λ end. tell (option_map Reader end)) 0 ends.readers.items (subst (IsRising 0) (sym own.readers) (numbers-rise reads_file 0 cells))

    pub of-writers : map (λ node. tell (end_at cells ends node)) (file_nodes 0 cells) ≡ each_of (λ writer. tell (Some (Writer writer))) ends.writers.items
    of-writers =
        map-nodes writes_file (λ node. tell (end_at cells ends node)) (λ node. tell (option_map Writer (end_of ends.writers.items node))) cells
        (λ node cell at is. ap tell (own-at node cell at ∙ writer-end cell.kind node is))
        ∙ ap (map (λ node. tell (option_map Writer (end_of ends.writers.items node)))) (sym own.writers)
        ∙ ends-in-order (λ end. tell (option_map Writer end)) 0 ends.writers.items (subst (IsRising 0) (sym own.writers) (numbers-rise writes_file 0 cells))

  -- each node that reads or writes has an end
  some-at : (test : NodeKind → Bool) → list_all (λ node. is_some (end_at cells ends node)) (numbers_where test 0 cells) ≡ true
      → (node : ℕ) (cell : Cell NodeKind) → slice_get cells node ≡ Some cell → test cell.kind ≡ true → is_some (own_end cell.kind node ends) ≡ true
  some-at test all node cell at is =
      let here : 0 + node ≡ node = omega arith in
      let there : has node (numbers_where test 0 cells) ≡ true = subst (λ (number : ℕ). has number (numbers_where test 0 cells) ≡ true) here (node-has test 0 cells node cell at is) in
      sym (ap is_some (own-at node cell at)) ∙ holds-has (λ node. is_some (end_at cells ends node)) node (numbers_where test 0 cells) all there

  has-ends : (it : NodeKind) (node : ℕ) (cell : Cell NodeKind) → slice_get cells node ≡ Some cell → cell.kind ≡ it → (is_source it || is_writer it) ≡ true → is_some (own_end it node ends) ≡ true
  has-ends (kind.Source from.Input) node cell at same is = refl
  has-ends (kind.Source (from.File path)) node cell at same is =
      sym (ap (λ (it : NodeKind). is_some (own_end it node ends)) same)
      ∙ some-at reads_file (all-told (λ node. is_some (end_at cells ends node)) (file_sources 0 cells) ends.readers.items (of-readers is_some)) node cell at (ap reads_file same)
  has-ends (kind.Sink to.Output) node cell at same is = refl
  has-ends (kind.Sink (to.File path mode)) node cell at same is =
      sym (ap (λ (it : NodeKind). is_some (own_end it node ends)) same)
      ∙ some-at writes_file (all-told (λ node. is_some (end_at cells ends node)) (file_nodes 0 cells) ends.writers.items (of-writers is_some)) node cell at (ap writes_file same)
  has-ends (kind.TeeFile path mode) node cell at same is =
      sym (ap (λ (it : NodeKind). is_some (own_end it node ends)) same)
      ∙ some-at writes_file (all-told (λ node. is_some (end_at cells ends node)) (file_nodes 0 cells) ends.writers.items (of-writers is_some)) node cell at (ap writes_file same)
  has-ends other node cell at same is = absurd (true≢false (sym is))

  pub has_its_ends : HasItsEnds cells ends
  has_its_ends node cell at is = has-ends cell.kind node cell at refl is

  -- the texts of the sources are told where those of the input and the readers are
  module _ (of_reader : R → Option (List ℕ)) (of_input : I → Option (List ℕ)) (input : List ℕ) (files : Components → List ℕ) (told : IsTold of_reader of_input cells ends input files) where
    text-at : (it : NodeKind) (node : ℕ) (cell : Cell NodeKind) → slice_get cells node ≡ Some cell → cell.kind ≡ it → is_source it ≡ true → left_at of_reader of_input cells ends node ≡ text_read input files it
    text-at (kind.Source from.Input) node cell at same is =
        ap (left_by of_reader of_input) (own-at node cell at ∙ ap (λ (it : NodeKind). own_end it node ends) same)
        ∙ told.from_input (one_found (λ (cell : Cell NodeKind). is_input cell.kind) cells node cell at (ap is_input same))
    text-at (kind.Source (from.File path)) node cell at same is =
        let here : 0 + node ≡ node = omega arith in
        sym (ap (left_at of_reader of_input cells ends) here)
        ∙ told-read input files (left_at of_reader of_input cells ends) 0 cells (of-readers (left_by of_reader of_input) ∙ told.from_files) node cell at (ap reads_file same)
        ∙ ap (text_read input files) same
    text-at other node cell at same is = absurd (true≢false (sym is))

    pub are_told : AreTold (source_texts cells input files) cells (left_at of_reader of_input cells ends)
    are_told node cell at is =
        let found = placed-at 0 cells node cell at in
        text-at cell.kind.1 node found.0 found.1.0 found.1.1 is ∙ source-told input files [] cells node cell at is
