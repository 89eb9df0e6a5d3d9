-- The tests of validity decide its conditions.
use Rattle.std.proofs.Common.{◌≡◌, ℕ, ◌<◌, ◌≤◌, ◌==◌, List, [], Bool, true, false, ◌&&◌, not, length, refl, ap, sym, ◌∙◌, arith, nat_le, eq-eqb}
use Rattle.std.specs.List.{list_all, list_any, count_by}
use Rattle.std.proofs.lemmas.Bool.{and_parts, and_from, or_parts, or_from, eqb-true, ltb-true, lt-ltb, leb-true, le-leb}
use Rattle.std.proofs.lemmas.List.Folds.{list_any-append}
use Rattle.ps_world.specs.Places.{is_null_path}
use Rattle.ut_args.specs.declared.invocations.Inv.{Inv}
use Rattle.ut_args.specs.Invocations.{words_of}
use Rattle.ut_args.proofs.CommandLemmas.{decided}
use Rattle.fl_graph.specs.Net.{has, count, takes, gives}
use Rattle.fl_graph.specs.declared.graphs.Cell.{Cell}
use Rattle.fl_graph.specs.Kinds.{has_its_ports, is_input, is_output, reads_one_input, has_its_class, runs_what_is_built}
use Rattle.fl_graph.specs.Makers.{same_words}
use Rattle.fl_graph.specs.Paths.{paths_read, paths_written, is_among, are_distinct, ArePathsApart}
use Rattle.fl_graph.specs.Valid.{HasEdges, HasOneOfEachEnd, Valid, nodes_named, names_selector}
use Rattle.fl_graph.specs.Checks.{is_single, has_single_edges, is_below, gives_below, takes_given, each_after, joins_its_maps, fits_alone, has_one_of_each_end, has_paths_apart, has_edges, is_valid}
use Rattle.fl_graph.specs.declared.kinds.NodeKind.{NodeKind}
use Rattle.fl_graph.specs.declared.graphs.StatusRule.{StatusRule}
use Rattle.fl_graph.proofs.ListLemmas.{same_tests, list_all-both, list_all-flat_map, holds-has, all-has, count-has, count-none}
use Rattle.fl_graph.proofs.PlaceLemmas.{each_below}
use Rattle.fl_graph.proofs.EdgeLemmas.{leads_on-each, joins_maps-each}

-- invocations are compared as their words are
pub same_as_words : (one other : Inv) (same : Bool) → (same ≡ true → one ≡ other) → (one ≡ other → same ≡ true) → same ≡ same_words (words_of one) (words_of other)
same_as_words one other same yes_same no_same =
    let words = decided one other (same_words (words_of one) (words_of other)) refl in
    same_tests same (same_words (words_of one) (words_of other)) (λ h. words.1 (yes_same h)) (λ h. no_same (words.0 h))

-- each node's edges are single where all that are taken and all that are given are
singles : (cells : List (Cell NodeKind)) → list_all (has_single_edges cells) cells ≡ (list_all (is_single cells) (takes cells) && list_all (is_single cells) (gives cells))
singles cells =
    list_all-both (λ (cell : Cell NodeKind). list_all (is_single cells) cell.ins) (λ (cell : Cell NodeKind). list_all (is_single cells) cell.outs) cells
    ∙ ap (λ (test : Bool). test && list_all (λ (cell : Cell NodeKind). list_all (is_single cells) cell.outs) cells) (sym (list_all-flat_map (is_single cells) (λ (cell : Cell NodeKind). cell.ins) cells))
    ∙ ap (λ (test : Bool). list_all (is_single cells) (takes cells) && test) (sym (list_all-flat_map (is_single cells) (λ (cell : Cell NodeKind). cell.outs) cells))

belows : (cells : List (Cell NodeKind)) → list_all (gives_below cells) cells ≡ list_all (is_below cells) (gives cells)
belows cells = sym (list_all-flat_map (is_below cells) (λ (cell : Cell NodeKind). cell.outs) cells)

-- an edge that is single, and one that is in neither list
record IsSingle (times_given times_taken : ℕ) : Type 0 where
  given : times_given ≡ 1
  taken : times_taken ≡ 1

single_parts : (cells : List (Cell NodeKind)) (edge : ℕ) → is_single cells edge ≡ true → IsSingle (count edge (gives cells)) (count edge (takes cells))
single_parts cells edge single =
    let parts = and_parts (count edge (gives cells) == 1) (count edge (takes cells) == 1) single in
    record { given = eqb-true (count edge (gives cells)) 1 parts.0; taken = eqb-true (count edge (takes cells)) 1 parts.1 }

single_from : (cells : List (Cell NodeKind)) (edge : ℕ) → count edge (gives cells) ≡ 1 → count edge (takes cells) ≡ 1 → is_single cells edge ≡ true
single_from cells edge given taken =
    and_from (count edge (gives cells) == 1) (count edge (takes cells) == 1) (eq-eqb (count edge (gives cells)) 1 given) (eq-eqb (count edge (takes cells)) 1 taken)

module _ (cells : List (Cell NodeKind)) where
  module _ (all_taken : list_all (is_single cells) (takes cells) ≡ true) (all_given : list_all (is_single cells) (gives cells) ≡ true) where
    once_each : (edge : ℕ) (given : Bool) → has edge (gives cells) ≡ given → count edge (gives cells) ≤ 1
    once_each edge true there = let single = single_parts cells edge (holds-has (is_single cells) edge (gives cells) all_given there) in omega (arith, single.given)
    once_each edge false there = let none = count-none edge (gives cells) there in omega (arith, none)

    taken_each : (edge : ℕ) (given taken : Bool) → has edge (gives cells) ≡ given → has edge (takes cells) ≡ taken → count edge (takes cells) ≡ count edge (gives cells)
    taken_each edge true taken is_given is_taken = let single = single_parts cells edge (holds-has (is_single cells) edge (gives cells) all_given is_given) in single.taken ∙ sym single.given
    taken_each edge false true is_given is_taken = let single = single_parts cells edge (holds-has (is_single cells) edge (takes cells) all_taken is_taken) in single.taken ∙ sym single.given
    taken_each edge false false is_given is_taken = count-none edge (takes cells) is_taken ∙ sym (count-none edge (gives cells) is_given)

  edges_if : has_edges cells ≡ true → HasEdges cells
  edges_if passes =
      let parts = and_parts (list_all (has_single_edges cells) cells) (list_all (gives_below cells) cells && each_after takes_given [] cells) passes in
      let more = and_parts (list_all (gives_below cells) cells) (each_after takes_given [] cells) parts.1 in
      let single = and_parts (list_all (is_single cells) (takes cells)) (list_all (is_single cells) (gives cells)) (sym (singles cells) ∙ parts.0) in
      let below = sym (belows cells) ∙ more.0 in
      record {
        below = λ edge there. ltb-true edge (length (gives cells)) (holds-has (is_below cells) edge (gives cells) below there);
        once = λ edge. once_each single.0 single.1 edge (has edge (gives cells)) refl;
        taken = λ edge. taken_each single.0 single.1 edge (has edge (gives cells)) (has edge (takes cells)) refl refl;
        later = leads_on-each cells ∙ more.1;
      }

  edges_only_if : HasEdges cells → has_edges cells ≡ true
  edges_only_if edges =
      let given = all-has (is_single cells) (gives cells) (λ edge there.
      let some = count-has edge (gives cells) there in let most = edges.once edge in let same = edges.taken edge in
      single_from cells edge (omega (arith, some, most)) (omega (arith, some, most, same))) in
      let taken = all-has (is_single cells) (takes cells) (λ edge there.
      let some = count-has edge (takes cells) there in let most = edges.once edge in let same = edges.taken edge in
      single_from cells edge (omega (arith, some, most, same)) (omega (arith, some, most, same))) in
      let single = singles cells ∙ and_from (list_all (is_single cells) (takes cells)) (list_all (is_single cells) (gives cells)) taken given in
      let below = belows cells ∙ all-has (is_below cells) (gives cells) (λ edge there. lt-ltb edge (length (gives cells)) (edges.below edge there)) in
      and_from (list_all (has_single_edges cells) cells) (list_all (gives_below cells) cells && each_after takes_given [] cells) single
      (and_from (list_all (gives_below cells) cells) (each_after takes_given [] cells) below (sym (leads_on-each cells) ∙ edges.later))

  -- what a node asks of itself, condition by condition
  all_alone : list_all fits_alone cells
      ≡ (list_all has_its_ports cells && (list_all (λ (cell : Cell NodeKind). reads_one_input cell.kind) cells
      && (list_all (λ (cell : Cell NodeKind). has_its_class cell.kind) cells && list_all (λ (cell : Cell NodeKind). runs_what_is_built cell.kind) cells)))
  all_alone =
      let built = λ (cell : Cell NodeKind). runs_what_is_built cell.kind in
      let its_class = λ (cell : Cell NodeKind). has_its_class cell.kind in
      let one_input = λ (cell : Cell NodeKind). reads_one_input cell.kind in
      list_all-both has_its_ports (λ (cell : Cell NodeKind). reads_one_input cell.kind && (has_its_class cell.kind && runs_what_is_built cell.kind)) cells
      ∙ ap (λ (rest : Bool). list_all has_its_ports cells && rest)
      (list_all-both one_input (λ (cell : Cell NodeKind). has_its_class cell.kind && runs_what_is_built cell.kind) cells
      ∙ ap (λ (rest : Bool). list_all one_input cells && rest) (list_all-both its_class built cells))

  ends_if : has_one_of_each_end cells ≡ true → HasOneOfEachEnd cells
  ends_if passes =
      let inputs = count_by (λ (cell : Cell NodeKind). is_input cell.kind) cells in
      let outputs = count_by (λ (cell : Cell NodeKind). is_output cell.kind) cells in
      let parts = and_parts (nat_le inputs 1) (nat_le outputs 1) passes in
      record { input = leb-true inputs 1 parts.0; output = leb-true outputs 1 parts.1 }

  ends_only_if : HasOneOfEachEnd cells → has_one_of_each_end cells ≡ true
  ends_only_if ends =
      let inputs = count_by (λ (cell : Cell NodeKind). is_input cell.kind) cells in
      let outputs = count_by (λ (cell : Cell NodeKind). is_output cell.kind) cells in
      and_from (nat_le inputs 1) (nat_le outputs 1) (le-leb inputs 1 ends.input) (le-leb outputs 1 ends.output)

-- a test that is denied fails
denied : (test : Bool) → not test ≡ true → test ≡ false
denied true passes = sym passes
denied false passes = refl

module _ (cells : List (Cell NodeKind)) where
  paths_if : has_paths_apart cells ≡ true → ArePathsApart (paths_read cells) (paths_written cells)
  paths_if passes =
      let reads_null = list_any is_null_path (paths_read cells) in
      let writes_null = list_any is_null_path (paths_written cells) in
      let both = list_any (is_among (paths_read cells)) (paths_written cells) in
      let distinct = are_distinct (paths_written cells) in
      let parts = and_parts (not reads_null) (not writes_null && (not both && distinct)) passes in
      let more = and_parts (not writes_null) (not both && distinct) parts.1 in
      let last = and_parts (not both) distinct more.1 in
      record {
        apart = denied both last.0;
        once = last.1;
        files = list_any-append is_null_path (paths_read cells) (paths_written cells) ∙ or_from reads_null writes_null (denied reads_null parts.0) (denied writes_null more.0);
      }

  paths_only_if : ArePathsApart (paths_read cells) (paths_written cells) → has_paths_apart cells ≡ true
  paths_only_if paths =
      let reads_null = list_any is_null_path (paths_read cells) in
      let writes_null = list_any is_null_path (paths_written cells) in
      let both = list_any (is_among (paths_read cells)) (paths_written cells) in
      let distinct = are_distinct (paths_written cells) in
      let parts = or_parts reads_null writes_null (sym (list_any-append is_null_path (paths_read cells) (paths_written cells)) ∙ paths.files) in
      and_from (not reads_null) (not writes_null && (not both && distinct)) (ap not parts.0)
      (and_from (not writes_null) (not both && distinct) (ap not parts.1) (and_from (not both) distinct (ap not paths.apart) paths.once))

-- `validate` is right in both directions
pub valid_if : (cells : List (Cell NodeKind)) (status : StatusRule) → is_valid cells status ≡ true → Valid cells status
valid_if cells status passes =
    let named = list_all (names_selector cells) (nodes_named status) in
    let maps = each_after joins_its_maps [] cells in
    let ends = has_one_of_each_end cells in
    let apart = has_paths_apart cells in
    let one = and_parts (has_edges cells) (list_all fits_alone cells && (maps && (ends && (apart && named)))) passes in
    let two = and_parts (list_all fits_alone cells) (maps && (ends && (apart && named))) one.1 in
    let three = and_parts maps (ends && (apart && named)) two.1 in
    let four = and_parts ends (apart && named) three.1 in
    let five = and_parts apart named four.1 in
    let one_input = list_all (λ (cell : Cell NodeKind). reads_one_input cell.kind) cells in
    let its_class = list_all (λ (cell : Cell NodeKind). has_its_class cell.kind) cells in
    let built = list_all (λ (cell : Cell NodeKind). runs_what_is_built cell.kind) cells in
    let alone = and_parts (list_all has_its_ports cells) (one_input && (its_class && built)) (sym (all_alone cells) ∙ two.0) in
    let rest = and_parts one_input (its_class && built) alone.1 in
    let last = and_parts its_class built rest.1 in
    record {
      edges = edges_if cells one.0;
      ports = alone.0;
      ends = ends_if cells four.0;
      inputs = rest.0;
      classes = last.0;
      built = last.1;
      maps = joins_maps-each cells ∙ three.0;
      paths = paths_if cells five.0;
      named = five.1;
    }

pub only_if_valid : (cells : List (Cell NodeKind)) (status : StatusRule) → Valid cells status → is_valid cells status ≡ true
only_if_valid cells status valid =
    let named = list_all (names_selector cells) (nodes_named status) in
    let maps = each_after joins_its_maps [] cells in
    let ends = has_one_of_each_end cells in
    let apart = has_paths_apart cells in
    let one_input = list_all (λ (cell : Cell NodeKind). reads_one_input cell.kind) cells in
    let its_class = list_all (λ (cell : Cell NodeKind). has_its_class cell.kind) cells in
    let built = list_all (λ (cell : Cell NodeKind). runs_what_is_built cell.kind) cells in
    let alone = all_alone cells ∙ and_from (list_all has_its_ports cells) (one_input && (its_class && built)) valid.ports
    (and_from one_input (its_class && built) valid.inputs (and_from its_class built valid.classes valid.built)) in
    let joined = sym (joins_maps-each cells) ∙ valid.maps in
    and_from (has_edges cells) (list_all fits_alone cells && (maps && (ends && (apart && named)))) (edges_only_if cells valid.edges)
    (and_from (list_all fits_alone cells) (maps && (ends && (apart && named))) alone
    (and_from maps (ends && (apart && named)) joined
    (and_from ends (apart && named) (ends_only_if cells valid.ends)
    (and_from apart named (paths_only_if cells valid.paths) valid.named))))

-- each number below the number of edges is given once and taken once
pub each_number : (cells : List (Cell NodeKind)) (status : StatusRule) → Valid cells status → (edge : ℕ) → edge < length (gives cells)
    → (count edge (gives cells) ≡ 1) × (count edge (takes cells) ≡ 1)
each_number cells status valid edge within =
    let given = each_below (gives cells) valid.edges.below valid.edges.once edge within in
    (given, valid.edges.taken edge ∙ given)
