-- Files that are kept one after another, and that this tells whether they are apart.
use Rattle.std.proofs.Common.{◌≡◌, List, [], ◌∷◌, Bool, true, false, ◌&&◌, ◌||◌, not, Option, Some, None, nat_eq, if◌then◌else◌, refl, ap, sym, ◌∙◌}
use Rattle.std.specs.List.{list_all, list_any, cons_option}
use Rattle.std.specs.BTreeSet.{BTreeSet, contains}
use Rattle.std.specs.Ordering.{is_eq, eq_by_cmp}
use Rattle.std.specs.Cmp.{eq_by_cmp_equiv}
use Rattle.std.specs.Cmp.Lexicographic.{pointwise, lists_ties, texts_ties, slice_cmp}
use Rattle.std.specs.Ordering.{nat_cmp}
use Rattle.std.proofs.Math.Path.{fun_ext}
use Rattle.ps_world.specs.Paths.{Components, path_cmp, path_cmp_total}
use Rattle.ps_world.specs.Places.{is_null_path}
use Rattle.fl_graph.specs.Checks.{has_paths_apart}
use Rattle.fl_graph.specs.Paths.{are_distinct, is_among, path_written, paths_read, paths_written}
use Rattle.fl_graph.specs.declared.graphs.Cell.{Cell}
use Rattle.fl_graph.specs.declared.kinds.NodeKind.{NodeKind}
use Rattle.fl_text.specs.Inner.Writings.{are_new, is_kept, is_new, is_none, with_path, with_paths}

-- paths are the same where neither comes before the other
path_ties : (path other : Components) → pointwise (pointwise nat_eq) path other ≡ eq_by_cmp path_cmp path other
path_ties path other = lists_ties (slice_cmp nat_cmp) texts_ties path other

-- from either side
ties-turned : (path other : Components) → eq_by_cmp path_cmp path other ≡ pointwise (pointwise nat_eq) other path
ties-turned path other = (eq_by_cmp_equiv path_cmp_total).symm path other ∙ sym (path_ties other path)

-- what is kept once a file has been put to it
pub kept-more : (files more : BTreeSet Components) (path : Components)
    → ((other : Components) → contains path_cmp more other ≡ (if is_eq (path_cmp path other) then true else contains path_cmp files other))
    → is_kept more ≡ with_path path (is_kept files)
kept-more files more path kept =
    fun_ext (λ (other : Components). kept other ∙ by_test (eq_by_cmp path_cmp path other) (contains path_cmp files other)
    ∙ ap (λ (same : Bool). same || contains path_cmp files other) (ties-turned path other))
  where
    by_test : (same there : Bool) → (if same then true else there) ≡ (same || there)
    by_test true there = refl
    by_test false there = refl

-- one node more: it writes a file that is new, or none
pub keeps-one : (cell : Cell NodeKind) (left rest : List (Cell NodeKind)) (path : Components) (known more all : Components → Bool) (are : Bool) → left ≡ cell ∷ rest
    → path_written cell.kind ≡ Some path → is_new known path ≡ true → more ≡ with_path path known
    → are_new known (paths_written left) ≡ are → with_paths (paths_written left) known ≡ all
    → (are_new more (paths_written rest) ≡ are) × (with_paths (paths_written rest) more ≡ all)
keeps-one cell left rest path known more all are next writes new more_is are_is all_is =
    let paths : paths_written left ≡ path ∷ paths_written rest =
    ap paths_written next ∙ ap (λ (first : Option Components). cons_option first (paths_written rest)) writes in (
      ap (λ (known : Components → Bool). are_new known (paths_written rest)) more_is
          ∙ ap (λ (first : Bool). first && are_new (with_path path known) (paths_written rest)) (sym new)
          ∙ ap (are_new known) (sym paths) ∙ are_is,
      ap (with_paths (paths_written rest)) more_is ∙ ap (λ (paths : List Components). with_paths paths known) (sym paths) ∙ all_is,
    )

-- one node more that writes no file
pub keeps-none : (cell : Cell NodeKind) (left rest : List (Cell NodeKind)) (known more all : Components → Bool) (are : Bool) → left ≡ cell ∷ rest
    → path_written cell.kind ≡ None → more ≡ known → are_new known (paths_written left) ≡ are → with_paths (paths_written left) known ≡ all
    → (are_new more (paths_written rest) ≡ are) × (with_paths (paths_written rest) more ≡ all)
keeps-none cell left rest known more all are next writes more_is are_is all_is =
    let paths : paths_written left ≡ paths_written rest =
    ap paths_written next ∙ ap (λ (first : Option Components). cons_option first (paths_written rest)) writes in (
      ap (λ (known : Components → Bool). are_new known (paths_written rest)) more_is ∙ ap (are_new known) (sym paths) ∙ are_is,
      ap (with_paths (paths_written rest)) more_is ∙ ap (λ (paths : List Components). with_paths paths known) (sym paths) ∙ all_is,
    )

-- nothing is kept at the beginning
none-kept : (files : BTreeSet Components) → files.keys ≡ [] → is_kept files ≡ is_none
none-kept files empty = fun_ext (λ (path : Components). ap (list_any (λ (other : Components). is_eq (path_cmp path other))) empty)

-- one of two tests holds of some path where the one does or the other
any-or : (one other : Components → Bool) (paths : List Components) → list_any (λ path. one path || other path) paths ≡ (list_any one paths || list_any other paths)
any-or one other [] = refl
any-or one other (path ∷ paths) = ap (λ (rest : Bool). (one path || other path) || rest) (any-or one other paths) ∙ swapped (one path) (other path) (list_any one paths) (list_any other paths)
  where
    swapped : (a b c d : Bool) → ((a || b) || (c || d)) ≡ ((a || c) || (b || d))
    swapped true b c d = refl
    swapped false true true d = refl
    swapped false true false d = refl
    swapped false false c d = refl

-- none of them is known where none is
any-none : (paths : List Components) → list_any is_none paths ≡ false
any-none [] = refl
any-none (path ∷ paths) = any-none paths

-- none is known, none is the null device, and none stands twice among them
new-all : (known : Components → Bool) (paths : List Components)
    → are_new known paths ≡ (not (list_any is_null_path paths) && (not (list_any known paths) && are_distinct paths))
new-all known [] = refl
new-all known (path ∷ paths) =
    ap (λ (rest : Bool). is_new known path && rest)
    (new-all (with_path path known) paths
    ∙ ap (λ (any : Bool). not (list_any is_null_path paths) && (not any && are_distinct paths)) (any-or (λ other. pointwise (pointwise nat_eq) other path) known paths))
    ∙ put (is_null_path path) (known path) (list_any is_null_path paths) (is_among paths path) (list_any known paths) (are_distinct paths)
  where
    put : (null here nulls among more distinct : Bool)
        → ((not null && not here) && (not nulls && (not (among || more) && distinct)))
        ≡ (not (null || nulls) && (not (here || more) && (not among && distinct)))
    put true here nulls among more distinct = refl
    put false true true among more distinct = refl
    put false true false among more distinct = refl
    put false false true among more distinct = refl
    put false false false true true distinct = refl
    put false false false true false distinct = refl
    put false false false false more distinct = refl

-- a path is known with others where it is one of them or was known
with-all : (paths : List Components) (known : Components → Bool) (path : Components)
    → with_paths paths known path ≡ (list_any (λ other. pointwise (pointwise nat_eq) path other) paths || known path)
with-all [] known path = refl
with-all (other ∷ paths) known path =
    with-all paths (with_path other known) path
    ∙ put (list_any (λ other. pointwise (pointwise nat_eq) path other) paths) (pointwise (pointwise nat_eq) path other) (known path)
  where
    put : (more here there : Bool) → (more || (here || there)) ≡ ((here || more) || there)
    put true true there = refl
    put true false there = refl
    put false true there = refl
    put false false there = refl

-- one of these is among those where one of those is among these
any-turned : (paths others : List Components)
    → list_any (λ path. list_any (λ other. pointwise (pointwise nat_eq) path other) others) paths ≡ list_any (is_among paths) others
any-turned [] others = sym (any-none others)
any-turned (path ∷ paths) others =
    ap (λ (more : Bool). list_any (λ other. pointwise (pointwise nat_eq) path other) others || more) (any-turned paths others)
    ∙ sym (any-or (λ other. pointwise (pointwise nat_eq) path other) (is_among paths) others)

-- tests that answer alike
any-same : (one other : Components → Bool) (paths : List Components) → ((path : Components) → one path ≡ other path) → list_any one paths ≡ list_any other paths
any-same one other [] same = refl
any-same one other (path ∷ paths) same = ap (λ (first : Bool). first || list_any one paths) (same path) ∙ ap (λ (rest : Bool). other path || rest) (any-same one other paths same)

-- those that are read are others than the known ones, and none is the null device
others-all : (known : Components → Bool) (paths : List Components) → list_all (is_new known) paths ≡ (not (list_any is_null_path paths) && not (list_any known paths))
others-all known [] = refl
others-all known (path ∷ paths) =
    ap (λ (rest : Bool). is_new known path && rest) (others-all known paths) ∙ put (is_null_path path) (known path) (list_any is_null_path paths) (list_any known paths)
  where
    put : (null here nulls more : Bool) → ((not null && not here) && (not nulls && not more)) ≡ (not (null || nulls) && not (here || more))
    put true here nulls more = refl
    put false true true more = refl
    put false true false more = refl
    put false false nulls more = refl

-- the files are apart where those that are written are new one after another, and those that are read are others
apart : (read written : List Components)
    → (are_new is_none written && list_all (is_new (with_paths written is_none)) read)
    ≡ (not (list_any is_null_path read) && (not (list_any is_null_path written) && (not (list_any (is_among read) written) && are_distinct written)))
apart read written =
    ap (λ (first : Bool). first && list_all (is_new (with_paths written is_none)) read)
    (new-all is_none written ∙ ap (λ (any : Bool). not (list_any is_null_path written) && (not any && are_distinct written)) (any-none written))
    ∙ ap (λ (rest : Bool). (not (list_any is_null_path written) && are_distinct written) && rest)
    (others-all (with_paths written is_none) read
    ∙ ap (λ (any : Bool). not (list_any is_null_path read) && not any)
    (any-same (with_paths written is_none) (λ path. list_any (λ other. pointwise (pointwise nat_eq) path other) written) read
    (λ path. with-all written is_none path ∙ or-none (list_any (λ other. pointwise (pointwise nat_eq) path other) written))
    ∙ any-turned read written))
    ∙ put (list_any is_null_path written) (are_distinct written) (list_any is_null_path read) (list_any (is_among read) written)
  where
    or-none : (test : Bool) → (test || false) ≡ test
    or-none true = refl
    or-none false = refl

    put : (writes distinct reads both : Bool) → ((not writes && distinct) && (not reads && not both)) ≡ (not reads && (not writes && (not both && distinct)))
    put true distinct true both = refl
    put true distinct false both = refl
    put false true true both = refl
    put false true false true = refl
    put false true false false = refl
    put false false true both = refl
    put false false false true = refl
    put false false false false = refl

-- files that are kept until one isn't new, or all are and one that is read is kept
pub stopped-apart : (files : BTreeSet Components) (cells : List (Cell NodeKind)) (are : Bool) → files.keys ≡ [] → are ≡ are_new (is_kept files) (paths_written cells)
    → are ≡ false → false ≡ has_paths_apart cells
stopped-apart files cells are empty are_is stops =
    sym (sym (apart (paths_read cells) (paths_written cells))
    ∙ ap (λ (first : Bool). first && list_all (is_new (with_paths (paths_written cells) is_none)) (paths_read cells))
    (ap (λ (known : Components → Bool). are_new known (paths_written cells)) (sym (none-kept files empty)) ∙ sym are_is ∙ stops))

pub kept-apart : (files all : BTreeSet Components) (cells : List (Cell NodeKind)) (are others : Bool) → files.keys ≡ []
    → are ≡ are_new (is_kept files) (paths_written cells) → are ≡ true → is_kept all ≡ with_paths (paths_written cells) (is_kept files)
    → others ≡ list_all (is_new (is_kept all)) (paths_read cells) → others ≡ has_paths_apart cells
kept-apart files all cells are others empty are_is goes_on kept others_is =
    let none = none-kept files empty in
    others_is
    ∙ ap (λ (known : Components → Bool). list_all (is_new known) (paths_read cells)) (kept ∙ ap (with_paths (paths_written cells)) none)
    ∙ ap (λ (first : Bool). first && list_all (is_new (with_paths (paths_written cells) is_none)) (paths_read cells))
    (sym goes_on ∙ are_is ∙ ap (λ (known : Components → Bool). are_new known (paths_written cells)) none)
    ∙ apart (paths_read cells) (paths_written cells)
