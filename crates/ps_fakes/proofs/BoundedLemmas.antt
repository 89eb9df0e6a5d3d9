-- Files of bounded length.
use Rattle.std.proofs.Common.{◌≡◌, ℕ, ◌≤◌, ◌^◌, List, [], ◌∷◌, ◌++◌, Bool, true, false, cond, ◌&&◌, nat_eq, length, map, Option, Some, None, refl, sym, subst, arith, Result, Ok, Err, MatchResult, OnOk, IsErrOf}
use Rattle.std.proofs.lemmas.Bool.{leb-true}
use Rattle.std.specs.Cmp.Lexicographic.{pointwise}
use Rattle.std.specs.FinMap as finite
use Rattle.std.specs.Option.{IfSome, unwrap_or}
use Rattle.std.specs.Ordering.{eq_by_cmp}
use Rattle.ps_world.specs.Paths.{Components, path_cmp, path_cmp_total}
use Rattle.ps_world.specs.Files.{Files, Node, Bytes, Directory, WriterOut, bytes_of}
use Rattle.ps_world.specs.TreeState.{IsFilled, TreeState, lend, take_back, take_out}
use Rattle.ps_world.specs.declared.error.WorldErr.{WorldErr}
use Rattle.ps_world.specs.declared.error.WorldErr.TheVariants.{Failed, Memory}
use Rattle.ps_fakes.specs.declared.tree.MemTree.{MemTree}
use Rattle.ps_fakes.specs.Bounded.{AreBounded, are_bounded, is_bounded}
use Rattle.ps_fakes.specs.Trees.{Entry, files_of, folder, fresh_state, state_of, named_path, node_at, node_of, placed}
use Rattle.ps_fakes.proofs.FindLemmas.{get_first}

one_or_before : (here : Bool) (node : Node) (before : Option Node) → length (bytes_of (Some node)) ≤ 2 ^ 40 → length (bytes_of before) ≤ 2 ^ 40
    → length (bytes_of (cond here (Some node) before)) ≤ 2 ^ 40
one_or_before true node before one all = one
one_or_before false node before one all = all

-- one bounded file more
pub with_node : (files : Files) (path : Components) (node : Node) → AreBounded files → length (bytes_of (Some node)) ≤ 2 ^ 40 → AreBounded (finite.insert files path node)
with_node files path node all one = record {
  bytes = λ at. rw (finite.get-insert path_cmp_total files path node at) (one_or_before (eq_by_cmp path_cmp at path) node (finite.get files at) one (all.bytes at));
}

-- what the files of one tree are, those of an equal state are
same_bounded : (state : TreeState) (tree : MemTree) → state_of tree ≡ state → IfSome state.held AreBounded → AreBounded (files_of tree.stored.items)
same_bounded state tree is all = subst (λ (one : TreeState). IfSome one.held AreBounded) (sym is) all

-- a file is taken out, or nothing is done
pub bounded-create : {Writer : Type 0} (old new : MemTree) (path : Components) (result : Result Writer WorldErr)
    → MatchResult result (λ _. state_of new ≡ lend (take_out path (state_of old))) (λ _. state_of new ≡ state_of old)
    → AreBounded (files_of old.stored.items) → AreBounded (files_of new.stored.items)
bounded-create old new path (Ok writer) is all = same_bounded _ new is (with_node (files_of old.stored.items) path WriterOut all (omega arith))
bounded-create old new path (Err error) is all = same_bounded _ new is all

filled : (old new : MemTree) (path : Components) (taken : List ℕ) → IsFilled path (Some taken) (state_of old) (state_of new) → length taken ≤ 2 ^ 40
    → AreBounded (files_of old.stored.items) → AreBounded (files_of new.stored.items)
filled old new path taken fills few all =
    same_bounded _ new fills.state (with_node (files_of old.stored.items) path (Bytes fills.bytes) all (rw fills.told few))

-- a file is filled by a bounded writer, or nothing is done
pub bounded-end_write : (old new : MemTree) (path : Components) (taken sent : List ℕ) (result : Result (Unit {0}) WorldErr)
    → OnOk result (IsFilled path (Some taken) (state_of old) (state_of new))
    → (IsErrOf result Failed → IsFilled path (Some sent) (state_of old) (state_of new))
    → (IsErrOf result Memory → state_of new ≡ take_back (state_of old))
    → length taken ≤ 2 ^ 40 → length sent ≤ 2 ^ 40 → AreBounded (files_of old.stored.items) → AreBounded (files_of new.stored.items)
bounded-end_write old new path taken sent (Ok done) ok failed memory few fewer all = filled old new path taken ok few all
bounded-end_write old new path taken sent (Err Failed) ok failed memory few fewer all = filled old new path sent (failed refl) fewer all
bounded-end_write old new path taken sent (Err Memory) ok failed memory few fewer all = same_bounded _ new (memory refl) all

both : (first others : Bool) → (first && others) ≡ true → (first ≡ true) × (others ≡ true)
both true others is = (refl, is)
both false others is = absurd (cc)

entered : (bytes : Option (List ℕ)) → is_bounded (unwrap_or bytes []) ≡ true → length (bytes_of (Some (node_of bytes))) ≤ 2 ^ 40
entered None is = omega arith
entered (Some bytes) is = leb-true _ _ is

folders_bounded : (dirs : List Components) (path : Components) → length (bytes_of (node_at (map folder dirs) path)) ≤ 2 ^ 40
folders_bounded [] path = omega arith
folders_bounded (dir ∷ dirs) path = one_or_before (pointwise (pointwise nat_eq) path dir) Directory (node_at (map folder dirs) path) (omega arith) (folders_bounded dirs path)

entries_bounded : (entries : List Entry) (dirs : List Components) (path : Components) → are_bounded entries ≡ true → length (bytes_of (node_at (map placed entries ++ map folder dirs) path)) ≤ 2 ^ 40
entries_bounded [] dirs path all = folders_bounded dirs path
entries_bounded (entry ∷ entries) dirs path all =
    let each = both (is_bounded (unwrap_or entry.1 [])) (are_bounded entries) all in
    one_or_before (pointwise (pointwise nat_eq) path (named_path entry.0)) (node_of entry.1) (node_at (map placed entries ++ map folder dirs) path) (entered entry.1 each.0) (entries_bounded entries dirs path each.1)

-- a tree of bounded entries
pub bounded-new : (tree : MemTree) (home : List ℕ) (entries : List Entry) → state_of tree ≡ fresh_state home entries → are_bounded entries ≡ true → AreBounded (files_of tree.stored.items)
bounded-new tree home entries is all =
    same_bounded _ tree is (record { bytes = λ path. rw (get_first _ path) (entries_bounded entries _ path all) })
