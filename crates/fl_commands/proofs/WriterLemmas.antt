-- Writers, one behind the other, and what their files hold then.
use Rattle.std.proofs.Common.{◌≡◌, inl, inr, ℕ, zero, ◌≤◌, ◌<◌, ◌+◌, suc, List, [], ◌∷◌, ◌++◌, Bool, true, false, ◌||◌, ◌&&◌, not, nat_eq, nat_lt, length, map, Option, Some, None, Result, Ok, Err, OnOk, IfSome, IsErrOf, refl, sym, ap, subst, ◌∙◌, append_assoc, arith}
use Rattle.std.specs.FinMap as map
use Rattle.std.specs.Cmp.Lexicographic.{pointwise}
use Rattle.std.specs.List.{cons_option, list_any}
use Rattle.std.specs.Option.{option_map}
use Rattle.std.specs.Ordering.{eq_by_cmp}
use Rattle.std.proofs.lemmas.Bool.{false≢true, true≢false}
use Rattle.std.proofs.lemmas.Bool.Decides.{Decides-eqb}
use Rattle.std.proofs.lemmas.Cmp.{eq_by_cmp_equiv}
use Rattle.std.proofs.lemmas.List.{length-map}
use Rattle.std.proofs.lemmas.Map.Views.{tells_apart}
use Rattle.std.proofs.lemmas.Slice.Eq.{slice_eq-Decides}
use Rattle.ps_world.specs.Counts.{CountsReturn, Rose}
use Rattle.ps_world.specs.Files.{Bytes, CanBe, CanBeMade, Files, IsFile, IsFileAt, IsOneOf, Node, WriterOut, bytes_at, bytes_of}
use Rattle.ps_world.specs.Paths.{Components, parent_of, path_cmp, path_cmp_total, path_cmp-IsAntisymmetric}
use Rattle.ps_world.specs.TreeState.{AreOut, IsFilled, TreeState, lend, take_back, take_out}
use Rattle.ps_world.specs.declared.error.WorldErr.{WorldErr}
use Rattle.ps_world.specs.declared.error.WorldErr.TheVariants as error
use Rattle.ps_world.proofs.TreeStateLemmas.{out-create, out-filled, out-take_back}
use Rattle.ps_world.proofs.WritingLemmas.{set_at}
use Rattle.fl_graph.specs.Paths.{are_distinct, is_among, path_written, paths_written}
use Rattle.fl_graph.specs.declared.graphs.Cell.{Cell}
use Rattle.fl_graph.specs.declared.kinds.NodeKind.{NodeKind}
use Rattle.fl_engines.specs.OwnEnds.{each_of, grown}
use Rattle.fl_commands.specs.Readers.{has_count}
use Rattle.fl_commands.specs.Writers.{AreFilesAt, AreFilled, ChangesOnly, all_added, filled, told_at}
use Rattle.fl_commands.specs.Inner.Writing.{AreAmong, AreApart, AreTold, Begins, Fills, Returns, earlier, out_at}
use Rattle.fl_commands.proofs.ReaderLemmas.{counted, each-more, either, fresh-opened, none-above, one-more, rose-earlier, rose-later}

-- WHAT FILES HOLD
-- two paths are one, or not
pub by_path : {Says : Type 0} (at path : Components) → (at ≡ path → Says) → ((at ≡ path → ⊥) → Says) → Says
by_path {Says} at path same other = by_test (eq_by_cmp path_cmp at path) refl
  where
    by_test : (test : Bool) → eq_by_cmp path_cmp at path ≡ test → Says
    by_test true is = same (tells_apart path_cmp-IsAntisymmetric at path is)
    by_test false is = other (λ equal. false≢true (sym is ∙ ap (eq_by_cmp path_cmp at) (sym equal) ∙ (eq_by_cmp_equiv path_cmp_total).refl at))

-- what is set at a path stands there, and changes nothing at another
pub here : (files : Files) (path : Components) (node : Node) → map.get (map.insert files path node) path ≡ Some node
here files path node = (set_at files path node).here

pub elsewhere : (files : Files) (path at : Components) (node : Node) → (at ≡ path → ⊥) → map.get (map.insert files path node) at ≡ map.get files at
elsewhere files path at node apart = (set_at files path node).elsewhere at apart

none-behind : (path : Components) (paths : List Components) (at : Components) → (at ≡ path → ⊥) → (IsOneOf paths at → ⊥) → IsOneOf (path ∷ paths) at → ⊥
none-behind path paths at differs none one = elim one [ inl same ↦ differs same | inr others ↦ none others ]

-- at no other paths has anything changed
get-out : (paths : List Components) (files : Files) (at : Components) → (IsOneOf paths at → ⊥) → map.get (out_at paths files) at ≡ map.get files at
get-out [] files at none = refl
get-out (path ∷ paths) files at none = get-out paths (map.insert files path WriterOut) at (λ one. none (inr one)) ∙ elsewhere files path at WriterOut (λ same. none (inl same))

-- WHAT STAYS AS IT WAS
pub only-none : {paths : List Components} {held : Option Files} → ChangesOnly paths held held
only-none = record { others = λ path none. refl }

pub only-same : {paths : List Components} {held held' : Option Files} → held' ≡ held → ChangesOnly paths held held'
only-same same = record { others = λ path none. ap (λ (it : Option Files). told_at it path) same }

-- in two steps
pub only-more : {paths : List Components} {held mid held' : Option Files} → ChangesOnly paths held mid → ChangesOnly paths mid held' → ChangesOnly paths held held'
only-more first second = record { others = λ path none. second.others path none ∙ first.others path none }

pub only-within : {paths wider : List Components} {held held' : Option Files} → AreAmong paths wider → ChangesOnly paths held held' → ChangesOnly wider held held'
only-within among only = record { others = λ path none. only.others path (λ one. none (among path one)) }

-- where this stands at a path now, or its writer is out, all others are as they were
pub only-set : (path : Components) (node : Files → Node) (held : Option Files) → ChangesOnly (path ∷ []) held (option_map (λ (files : Files). map.insert files path (node files)) held)
only-set path node None = only-none
only-set path node (Some files) = record { others = λ at none. ap Some (elsewhere files path at (node files) (λ same. none (inl same))) }

pub only-out : (held : Option Files) (paths : List Components) → ChangesOnly paths held (option_map (out_at paths) held)
only-out None paths = only-none
only-out (Some files) paths = record { others = λ at none. ap Some (get-out paths files at none) }

get-added : (paths : List Components) (texts : List (List ℕ)) (files : Files) (at : Components) → (IsOneOf paths at → ⊥) → map.get (all_added paths texts files) at ≡ map.get files at
get-added [] texts files at none = refl
get-added (path ∷ paths) [] files at none = refl
get-added (path ∷ paths) (text ∷ texts) files at none =
    let node : Node = Bytes (bytes_at files path ++ text) in
    get-added paths texts (map.insert files path node) at (λ one. none (inr one)) ∙ elsewhere files path at node (λ same. none (inl same))

-- what each of these files holds with its text behind
abbrev pub texts_begun : Files → List Components → List (List ℕ) → List (List ℕ)
texts_begun files [] texts = []
texts_begun files (path ∷ paths) [] = []
texts_begun files (path ∷ paths) (text ∷ texts) = (bytes_at files path ++ text) ∷ texts_begun files paths texts

begun-still : (files : Files) (path : Components) (node : Node) (paths : List Components) (texts : List (List ℕ)) → (IsOneOf paths path → ⊥)
    → texts_begun files paths texts ≡ texts_begun (map.insert files path node) paths texts
begun-still files path node [] texts apart = refl
begun-still files path node (other ∷ paths) [] apart = refl
begun-still files path node (other ∷ paths) (text ∷ texts) apart =
    ap (λ (found : Option Node). (bytes_of found ++ text) ∷ texts_begun files paths texts) (sym (elsewhere files path other node (λ same. apart (inl (sym same)))))
    ∙ ap (λ (rest : List (List ℕ)). (bytes_at (map.insert files path node) other ++ text) ∷ rest) (begun-still files path node paths texts (λ one. apart (inr one)))

-- files that are filled over others, which are alike elsewhere
over-at : (paths : List Components) (texts : List (List ℕ)) (base files : Files) (at : Components) → length texts ≡ length paths
    → ((IsOneOf paths at → ⊥) → map.get base at ≡ map.get files at) → map.get (filled paths texts base) at ≡ map.get (filled paths texts files) at
over-at [] texts base files at many same = same (λ none. none)
over-at (path ∷ paths) [] base files at many same = absurd (omega (arith, many))
over-at (path ∷ paths) (text ∷ texts) base files at many same =
    by_path at path
    (λ is. subst (λ (it : Components). map.get (map.insert (filled paths texts base) path (Bytes text)) it ≡ map.get (map.insert (filled paths texts files) path (Bytes text)) it) (sym is)
    (here (filled paths texts base) path (Bytes text) ∙ sym (here (filled paths texts files) path (Bytes text))))
    (λ differs.
    elsewhere (filled paths texts base) path at (Bytes text) differs
    ∙ over-at paths texts base files at (omega (arith, many)) (λ none. same (none-behind path paths at differs none))
    ∙ sym (elsewhere (filled paths texts files) path at (Bytes text) differs))

-- with the texts behind what they held, they are the files with these added
added-at : (paths : List Components) (texts : List (List ℕ)) (base files : Files) (at : Components) → AreApart paths → length texts ≡ length paths
    → ((IsOneOf paths at → ⊥) → map.get base at ≡ map.get files at) → map.get (filled paths (texts_begun files paths texts) base) at ≡ map.get (all_added paths texts files) at
added-at [] texts base files at apart many same = same (λ none. none)
added-at (path ∷ paths) [] base files at apart many same = absurd (omega (arith, many))
added-at (path ∷ paths) (text ∷ texts) base files at apart many same =
    let node : Node = Bytes (bytes_at files path ++ text) in
    let on : Files = map.insert files path node in
    let rest : Files = filled paths (texts_begun files paths texts) base in
    by_path at path
    (λ is. subst (λ (it : Components). map.get (map.insert rest path node) it ≡ map.get (all_added paths texts on) it) (sym is)
    (here rest path node ∙ sym (get-added paths texts on path apart.0 ∙ here files path node)))
    (λ differs.
    elsewhere rest path at node differs
    ∙ ap (λ (its : List (List ℕ)). map.get (filled paths its base) at) (begun-still files path node paths texts apart.0)
    ∙ added-at paths texts base on at apart.1 (omega (arith, many)) (λ none. same (none-behind path paths at differs none) ∙ sym (elsewhere files path at node differs)))

-- so it is of files whose writers were out
pub filled-out : (paths : List Components) (texts : List (List ℕ)) (files : Files) → length texts ≡ length paths → filled paths texts (out_at paths files) ≡ filled paths texts files
filled-out paths texts files many =
    map.same_map path_cmp_total path_cmp-IsAntisymmetric _ _ (λ at. over-at paths texts (out_at paths files) files at many (get-out paths files at))

pub filled-added : (paths : List Components) (texts : List (List ℕ)) (files : Files) → AreApart paths → length texts ≡ length paths
    → filled paths (texts_begun files paths texts) (out_at paths files) ≡ all_added paths texts files
filled-added paths texts files apart many =
    map.same_map path_cmp_total path_cmp-IsAntisymmetric _ _ (λ at. added-at paths texts (out_at paths files) files at apart many (get-out paths files at))

-- the last is filled in first
filled-last : (paths : List Components) (path : Components) (texts : List (List ℕ)) (text : List ℕ) (files : Files) → length texts ≡ length paths
    → filled (paths ++ path ∷ []) (texts ++ text ∷ []) files ≡ filled paths texts (map.insert files path (Bytes text))
filled-last [] path [] text files same = refl
filled-last [] path (other ∷ texts) text files same = absurd (omega (arith, same))
filled-last (first ∷ paths) path [] text files same = absurd (omega (arith, same))
filled-last (first ∷ paths) path (other ∷ texts) text files same =
    ap (λ (it : Files). map.insert it first (Bytes other)) (filled-last paths path texts text files (omega (arith, same)))

-- paths of which none is there twice
pub same-path : (one other : Components) → pointwise (pointwise nat_eq) one other ≡ true → one ≡ other
same-path one other is = (slice_eq-Decides (λ word other. slice_eq-Decides Decides-eqb word other _ refl) one other (pointwise (pointwise nat_eq) one other) refl).0 is

equal-path : (one other : Components) → one ≡ other → pointwise (pointwise nat_eq) one other ≡ true
equal-path one other is = (slice_eq-Decides (λ word other. slice_eq-Decides Decides-eqb word other _ refl) one other (pointwise (pointwise nat_eq) one other) refl).1 is

pub among : (paths : List Components) (path : Components) → IsOneOf paths path → is_among paths path ≡ true
among [] path one = absurd one
among (other ∷ paths) path one =
    elim one [
      | inl same ↦ ap (λ (is : Bool). is || is_among paths path) (equal-path other path (sym same))
      | inr others ↦ or-true (pointwise (pointwise nat_eq) other path) (is_among paths path) (among paths path others)
    ]
  where
    or-true : (one two : Bool) → two ≡ true → (one || two) ≡ true
    or-true true two is = refl
    or-true false two is = is

pub apart-of : (paths : List Components) → are_distinct paths ≡ true → AreApart paths
apart-of [] distinct = tt
apart-of (path ∷ paths) distinct =
    let parts = both (is_among paths path) (are_distinct paths) distinct in
    (λ one. true≢false (sym (among paths path one) ∙ parts.0), apart-of paths parts.1)
  where
    both : (one two : Bool) → (not one && two) ≡ true → (one ≡ false) × (two ≡ true)
    both true two is = absurd (true≢false (sym is))
    both false two is = (refl, is)

-- OPENING
-- which fault an answer tells
pub fault-is : {T : Type 0} (fault wanted : WorldErr) → IsErrOf {T = T} {E = WorldErr} (Err fault) wanted → fault ≡ wanted
fault-is fault wanted told = cc

-- a file that is there can be made
made-there : (node parent : Option Node) → IsFile node → CanBe node parent
made-there None parent there = absurd there
made-there (Some (Bytes bytes)) parent there = tt
made-there (Some other) parent there = absurd there

pub can-make : (held : Option Files) (path : Components) → IfSome held (λ files. IsFileAt files path) → IfSome held (λ files. CanBeMade files path)
can-make None path there = tt
can-make (Some files) path there = made-there (map.get files path) (map.get files (parent_of path)) there

-- a writer comes back however its return ends
pub out-ended : (count : ℕ) (first mid new : TreeState) (path : Components) (taken : Option (List ℕ)) (outcome : Result Unit WorldErr) → OnOk outcome (IsFilled path taken mid new)
    → (IsErrOf outcome error.Failed → IsFilled path None mid new) → (IsErrOf outcome error.Memory → new ≡ take_back mid) → AreOut (suc count) first mid → AreOut count first new
out-ended count first mid new path taken (Ok value) ok failed memory out = out-filled count first mid new path taken out ok
out-ended count first mid new path taken (Err error.Failed) ok failed memory out = out-filled count first mid new path None out (failed refl)
out-ended count first mid new path taken (Err error.Memory) ok failed memory out =
    subst (λ (it : TreeState). AreOut count first it) (sym (memory refl)) (out-take_back count first mid out)

-- one that is opened, and goes back at once
pub out-refused : (count : ℕ) (first old mid new : TreeState) (path : Components) (taken : Option (List ℕ)) (outcome : Result Unit WorldErr) → mid ≡ lend (take_out path old)
    → OnOk outcome (IsFilled path taken mid new) → (IsErrOf outcome error.Failed → IsFilled path None mid new) → (IsErrOf outcome error.Memory → new ≡ take_back mid)
    → AreOut count first old → AreOut count first new
out-refused count first old mid new path taken outcome lent ok failed memory out =
    out-ended count first mid new path taken outcome ok failed memory
    (subst (λ (it : TreeState). AreOut (suc count) first it) (sym lent) (out-create count first old path out))

-- nothing else is changed
pub only-created : (old mid : TreeState) (path : Components) → mid ≡ lend (take_out path old) → ChangesOnly (path ∷ []) old.held mid.held
only-created old mid path lent = subst (λ (it : TreeState). ChangesOnly (path ∷ []) old.held it.held) (sym lent) (only-set path (λ files. WriterOut) old.held)

only-filled : (mid new : TreeState) (path : Components) (taken : Option (List ℕ)) → IsFilled path taken mid new → ChangesOnly (path ∷ []) mid.held new.held
only-filled mid new path taken filling =
    subst (λ (it : TreeState). ChangesOnly (path ∷ []) mid.held it.held) (sym filling.state) (only-set path (λ files. Bytes filling.bytes) mid.held)

pub only-ended : (mid new : TreeState) (path : Components) (taken : Option (List ℕ)) (outcome : Result Unit WorldErr) → OnOk outcome (IsFilled path taken mid new)
    → (IsErrOf outcome error.Failed → IsFilled path None mid new) → (IsErrOf outcome error.Memory → new ≡ take_back mid) → ChangesOnly (path ∷ []) mid.held new.held
only-ended mid new path taken (Ok value) ok failed memory = only-filled mid new path taken ok
only-ended mid new path taken (Err error.Failed) ok failed memory = only-filled mid new path None (failed refl)
only-ended mid new path taken (Err error.Memory) ok failed memory = only-same (ap (λ (state : TreeState). state.held) (memory refl))

pub only-refused : (old mid new : TreeState) (path : Components) (taken : Option (List ℕ)) (outcome : Result Unit WorldErr) → mid ≡ lend (take_out path old)
    → OnOk outcome (IsFilled path taken mid new) → (IsErrOf outcome error.Failed → IsFilled path None mid new) → (IsErrOf outcome error.Memory → new ≡ take_back mid)
    → ChangesOnly (path ∷ []) old.held new.held
only-refused old mid new path taken outcome lent ok failed memory =
    only-more (only-created old mid path lent) (only-ended mid new path taken outcome ok failed memory)

-- the paths in front of others, and those behind
pub among-front : (front back : List Components) → AreAmong front (front ++ back)
among-front [] back path one = absurd one
among-front (first ∷ front) back path one = elim one [ inl same ↦ inl same | inr others ↦ inr (among-front front back path others) ]

pub among-back : (front back : List Components) → AreAmong back (front ++ back)
among-back [] back path one = one
among-back (first ∷ front) back path one = inr (among-back front back path one)

pub among-same : (paths others : List Components) → paths ≡ others → AreAmong paths others
among-same paths others same at one = subst (λ (it : List Components). IsOneOf it at) same one

-- where none was there before
pub among-begun : (opened none paths : List Components) → none ≡ [] → AreAmong opened (none ++ paths) → AreAmong opened paths
among-begun opened none paths empty among = subst (λ (it : List Components). AreAmong opened (it ++ paths)) empty among

-- all but those behind the others
pub among-shorter : (paths rest before others : List Components) → before ≡ paths ++ rest → before ≡ others → AreAmong paths others
among-shorter paths rest before others is same at one = subst (λ (it : List Components). IsOneOf it at) (sym is ∙ same) (among-front paths rest at one)

-- one behind the others
module _ {End : Type 0} (entries all : List (ℕ × End)) (number : ℕ) (end : End) (is : all ≡ entries ++ (number, end) ∷ []) where
  pub out-begun : (first : TreeState) (count : ℕ) (mid new : TreeState) (path : Components) → new ≡ lend (take_out path mid) → AreOut (length entries + count) first mid → AreOut (length all + count) first new
  out-begun first count mid new path lent out =
      let more : length all + count ≡ suc (length entries + count) = (let longer = one-more all entries (number, end) is in omega (arith, longer)) in
      subst (λ (it : TreeState). AreOut (length all + count) first it) (sym lent)
      (subst (λ (it : ℕ). AreOut it first (lend (take_out path mid))) (sym more) (out-create (length entries + count) first mid path out))

  pub count-begun : (paths more : List Components) (path : Components) → more ≡ paths ++ path ∷ [] → length entries ≡ length paths → length all ≡ length more
  count-begun paths more path also same =
      let of_ends = one-more all entries (number, end) is in
      let of_paths = one-more more paths path also in
      omega (arith, same, of_ends, of_paths)

pub held-begun : (old new : TreeState) (path : Components) → new ≡ lend (take_out path old) → new.held ≡ option_map (out_at (path ∷ [])) old.held
held-begun old new path is = ap (λ (state : TreeState). state.held) is

pub ruleset writer_steps = (each-more, fresh-opened, count-begun, held-begun, out-refused, can-make)

-- THE FILES THAT ARE LEFT, behind one that is opened
there-still : (files : Files) (path : Components) (paths : List Components) → (IsOneOf paths path → ⊥) → AreFilesAt files paths → AreFilesAt (map.insert files path WriterOut) paths
there-still files path [] apart there = tt
there-still files path (other ∷ paths) apart there =
    (subst IsFile (sym (elsewhere files path other WriterOut (λ same. apart (inl (sym same))))) there.0, there-still files path paths (λ one. apart (inr one)) there.1)

told-still : (files : Files) (path : Components) (paths : List Components) → (IsOneOf paths path → ⊥)
    → map (λ path. Some (bytes_at files path)) paths ≡ map (λ other. Some (bytes_at (map.insert files path WriterOut) other)) paths
told-still files path [] apart = refl
told-still files path (other ∷ paths) apart =
    ap (λ (it : List (Option (List ℕ))). Some (bytes_at files other) ∷ it) (told-still files path paths (λ one. apart (inr one)))
    ∙ ap (λ (found : Option Node). Some (bytes_of found) ∷ map (λ other. Some (bytes_at (map.insert files path WriterOut) other)) paths)
    (sym (elsewhere files path other WriterOut (λ same. apart (inl (sym same)))))

-- the first of the paths that are left, and the rest
module _ (left rest : List Components) (path : Components) (is : left ≡ path ∷ rest) (held held' : Option Files) where
  pub there-first : IfSome held (λ files. AreFilesAt files left) → IfSome held (λ files. IsFileAt files path)
  there-first there = by_held held there
    where
      by_held : (it : Option Files) → IfSome it (λ files. AreFilesAt files left) → IfSome it (λ files. IsFileAt files path)
      by_held None there = tt
      by_held (Some files) there = (subst (AreFilesAt files) is there).0

  pub apart-next : AreApart left → AreApart rest
  apart-next apart = (subst AreApart is apart).1

  -- no file but these is another
  pub kept-next : (last : Option Files) → ChangesOnly (path ∷ []) held held' → ChangesOnly rest held' last → ChangesOnly left held last
  kept-next last first only =
      subst (λ (it : List Components). ChangesOnly it held last) (sym is)
      (only-more (only-within (among-front (path ∷ []) rest) first) (only-within (among-back (path ∷ []) rest) only))

  pub kept-first : ChangesOnly (path ∷ []) held held' → ChangesOnly left held held'
  kept-first only = subst (λ (it : List Components). ChangesOnly it held held') (sym is) (only-within (among-front (path ∷ []) rest) only)

  -- and those that are open are among all
  pub among-first : (before whole opened : List Components) → whole ≡ before ++ left → AreAmong opened (before ++ path ∷ []) → AreAmong opened whole
  among-first before whole opened whole_is among at one =
      subst (λ (it : List Components). IsOneOf it at) (append_assoc before (path ∷ []) rest ∙ ap (λ (it : List Components). before ++ it) (sym is) ∙ sym whole_is)
      (among-front (before ++ path ∷ []) rest at (among at one))

  module _ (next : held' ≡ option_map (out_at (path ∷ [])) held) (apart : AreApart left) where
    pub there-next : IfSome held (λ files. AreFilesAt files left) → IfSome held' (λ files. AreFilesAt files rest)
    there-next there = subst (λ (it : Option Files). IfSome it (λ files. AreFilesAt files rest)) (sym next) (by_held held there)
      where
        by_held : (it : Option Files) → IfSome it (λ files. AreFilesAt files left) → IfSome (option_map (out_at (path ∷ [])) it) (λ files. AreFilesAt files rest)
        by_held None there = tt
        by_held (Some files) there = there-still files path rest (subst AreApart is apart).0 (subst (AreFilesAt files) is there).1

    pub held-next : option_map (out_at rest) held' ≡ option_map (out_at left) held
    held-next = ap (option_map (out_at rest)) next ∙ by_held held ∙ ap (λ (it : List Components). option_map (out_at it) held) (sym is)
      where
        by_held : (it : Option Files) → option_map (out_at rest) (option_map (out_at (path ∷ [])) it) ≡ option_map (out_at (path ∷ rest)) it
        by_held None = refl
        by_held (Some files) = refl

    -- what is told of those that are open, and of the files that are left
    pub told-next : (files : Files) → held ≡ Some files → (told told' whole : List (Option (List ℕ))) → told' ≡ told ++ Some (bytes_at files path) ∷ []
        → whole ≡ told ++ map (λ path. Some (bytes_at files path)) left → whole ≡ told' ++ map (λ other. Some (bytes_at (map.insert files path WriterOut) other)) rest
    told-next files held_is told told' whole more whole_is =
        whole_is ∙ ap (λ (it : List Components). told ++ map (λ path. Some (bytes_at files path)) it) is
        ∙ ap (λ (it : List (Option (List ℕ))). told ++ Some (bytes_at files path) ∷ it) (told-still files path rest (subst AreApart is apart).0)
        ∙ sym (append_assoc told (Some (bytes_at files path) ∷ []) (map (λ other. Some (bytes_at (map.insert files path WriterOut) other)) rest))
        ∙ ap (λ (it : List (Option (List ℕ))). it ++ map (λ other. Some (bytes_at (map.insert files path WriterOut) other)) rest) (sym more)

-- the paths of those that are open, and of those that are left
pub paths-left : (left rest : List Components) (path : Components) → left ≡ path ∷ rest → (first before after : List Components) → first ≡ before ++ left → after ≡ before ++ path ∷ []
    → first ≡ after ++ rest
paths-left left rest path is first before after so more =
    so ∙ ap (λ (it : List Components). before ++ it) is ∙ sym (append_assoc before (path ∷ []) rest) ∙ ap (λ (it : List Components). it ++ rest) (sym more)

-- where one is left, there was one
pub none-next : {Says : Type 0} (left rest : List Components) (path : Components) → left ≡ path ∷ rest → left ≡ [] → Says
none-next left rest path is none = absurd (let longer = ap (λ (it : List Components). length it) is in let empty = ap (λ (it : List Components). length it) none in omega (arith, longer, empty))

-- the texts that are told of the writers so far, and those of the files that are left
pub record Goes (held : Option Files) (told : List (Option (List ℕ))) (left : List Components) (whole : List (Option (List ℕ))) : Type 0 where
  pub files : Files
  pub held_is : held ≡ Some files
  pub whole_is : whole ≡ told ++ map (λ path. Some (bytes_at files path)) left

pub goes-next : (held held' : Option Files) (told told' whole : List (Option (List ℕ))) (left rest : List Components) (path : Components) → left ≡ path ∷ rest → AreApart left
    → held' ≡ option_map (out_at (path ∷ [])) held → ((files : Files) → held ≡ Some files → told' ≡ told ++ Some (bytes_at files path) ∷ []) → Goes held told left whole → Goes held' told' rest whole
goes-next held held' told told' whole left rest path is apart next more goes = record {
  files = map.insert goes.files path WriterOut;
  held_is = next ∙ ap (option_map (out_at (path ∷ []))) goes.held_is;
  whole_is = told-next left rest path is held held' next apart goes.files goes.held_is told told' whole (more goes.files goes.held_is) goes.whole_is;
}

-- ENDING
-- what is told, and one more
told-more : (others : List (Option (List ℕ))) (texts : List (List ℕ)) (told : Option (List ℕ)) (text : List ℕ) → AreTold others texts → IfSome told (λ written. text ≡ written)
    → AreTold (others ++ told ∷ []) (texts ++ text ∷ [])
told-more [] [] told text are one = (one, tt)
told-more [] (first ∷ texts) told text are one = absurd are
told-more (first ∷ others) [] told text are one = absurd are
told-more (first ∷ others) (next ∷ texts) told text are one = (are.0, told-more others texts told text are.1 one)

pub told-count : (told : List (Option (List ℕ))) (texts : List (List ℕ)) → AreTold told texts → length texts ≡ length told
told-count [] [] are = refl
told-count [] (text ∷ texts) are = absurd are
told-count (first ∷ told) [] are = absurd are
told-count (first ∷ told) (text ∷ texts) are = ap suc (told-count told texts are.1)

-- writers that have taken texts behind what their files held
pub grown-told : (files : Files) (paths : List Components) (texts finals : List (List ℕ)) → length texts ≡ length paths
    → AreTold (grown (map (λ path. Some (bytes_at files path)) paths) texts) finals → finals ≡ texts_begun files paths texts
grown-told files [] texts [] many are = refl
grown-told files [] texts (final ∷ finals) many are = absurd are
grown-told files (path ∷ paths) [] finals many are = absurd (omega (arith, many))
grown-told files (path ∷ paths) (text ∷ texts) [] many are = absurd are
grown-told files (path ∷ paths) (text ∷ texts) (final ∷ finals) many are =
    ap (λ (it : List ℕ). it ∷ finals) are.0 ∙ ap (λ (it : List (List ℕ)). (bytes_at files path ++ text) ∷ it) (grown-told files paths texts finals (omega (arith, many)) are.1)

held-same : (held : Option Files) → held ≡ option_map (λ files. files) held
held-same None = refl
held-same (Some files) = refl

none-left : {X : Type 0} (items : List X) → length items ≡ 0 → items ≡ []
none-left [] none = refl
none-left (item ∷ items) none = absurd (omega (arith, none))

pub fills-none : {W : Type 0} (of_writer : W → Option (List ℕ)) (writers : List (ℕ × W)) (paths : List Components) → writers ≡ [] → length writers ≡ length paths → (held : Option Files)
    → Fills paths (each_of of_writer writers) held held
fills-none of_writer writers paths is same held =
    let empty : length paths ≡ 0 = (let none = ap (λ (it : List (ℕ × _)). length it) is in omega (arith, same, none)) in
    subst (λ (it : List (ℕ × _)). Fills paths (each_of of_writer it) held held) (sym is)
    (subst (λ (it : List Components). Fills it [] held held) (sym (none-left paths empty)) (record { texts = []; told_are = tt; is = held-same held }))

held-last : (held : Option Files) (paths : List Components) (path : Components) (texts : List (List ℕ)) (text : List ℕ) → length texts ≡ length paths
    → option_map (filled paths texts) (option_map (λ files. map.insert files path (Bytes text)) held) ≡ option_map (filled (paths ++ path ∷ []) (texts ++ text ∷ [])) held
held-last None paths path texts text same = refl
held-last (Some files) paths path texts text same = ap Some (sym (filled-last paths path texts text files same))

-- writers that are left, and the last of them, which goes back
module _ {W : Type 0} (of_writer : W → Option (List ℕ)) (faults : W → ℕ) (entries rest : List (ℕ × W)) (number : ℕ) (end : W) (is : entries ≡ rest ++ (number, end) ∷ [])
    (paths behind : List Components) (path : Components) (also : paths ≡ behind ++ path ∷ []) (same : length entries ≡ length paths)
    (mid new : TreeState) (ended outcome after : Result Unit WorldErr) (after_is : after ≡ earlier ended outcome)
    (ok : OnOk outcome (IsFilled path (of_writer end) mid new)) (failed : IsErrOf outcome error.Failed → IsFilled path None mid new) (memory : IsErrOf outcome error.Memory → new ≡ take_back mid) where
  pub ended-paths : length rest ≡ length behind
  ended-paths =
      let of_ends = one-more entries rest (number, end) is in
      let of_paths = one-more paths behind path also in
      omega (arith, same, of_ends, of_paths)

  pub ended-out : (first : TreeState) (count : ℕ) → AreOut (length entries + count) first mid → AreOut (length rest + count) first new
  ended-out first count out =
      let more : length entries + count ≡ suc (length rest + count) = (let longer = one-more entries rest (number, end) is in omega (arith, longer)) in
      out-ended (length rest + count) first mid new path (of_writer end) outcome ok failed memory (subst (λ (it : ℕ). AreOut it first mid) more out)

  fills-on : IsFilled path (of_writer end) mid new → (final : Option Files) → Fills behind (each_of of_writer rest) new.held final → Fills paths (each_of of_writer entries) mid.held final
  fills-on filling final fills =
      let many : length fills.texts ≡ length behind = told-count (each_of of_writer rest) fills.texts fills.told_are ∙ length-map rest (λ entry. of_writer entry.1) ∙ ended-paths in
      record {
        texts = fills.texts ++ filling.bytes ∷ [];
        told_are = subst (λ (told : List (Option (List ℕ))). AreTold told (fills.texts ++ filling.bytes ∷ [])) (sym (each-more of_writer rest entries number end (of_writer end) is refl))
            (told-more (each_of of_writer rest) fills.texts (of_writer end) filling.bytes fills.told_are filling.told);
        is = fills.is ∙ ap (λ (state : TreeState). option_map (filled behind fills.texts) state.held) filling.state
            ∙ held-last mid.held behind path fills.texts filling.bytes many
            ∙ ap (λ (it : List Components). option_map (filled it (fills.texts ++ filling.bytes ∷ [])) mid.held) (sym also);
      }

  pub ended-fills : (Whole : Option Files → Type 0) → ((final : Option Files) → OnOk ended (Fills paths (each_of of_writer entries) mid.held final → Whole final))
      → (final : Option Files) → OnOk after (Fills behind (each_of of_writer rest) new.held final → Whole final)
  ended-fills Whole before final =
      subst (λ (it : Result Unit WorldErr). OnOk it (Fills behind (each_of of_writer rest) new.held final → Whole final)) (sym after_is) (by_answers ended outcome (before final) ok)
    where
      by_answers : (one other : Result Unit WorldErr) → OnOk one (Fills paths (each_of of_writer entries) mid.held final → Whole final) → OnOk other (IsFilled path (of_writer end) mid new)
          → OnOk (earlier one other) (Fills behind (each_of of_writer rest) new.held final → Whole final)
      by_answers (Ok value) (Ok done) whole filling = λ fills. whole (fills-on filling final fills)
      by_answers (Ok value) (Err error) whole filling = tt
      by_answers (Err error) other whole filling = tt

  -- no file but theirs is another
  pub ended-kept : (whole : List Components) (first : Option Files) → ((last : Option Files) → ChangesOnly paths mid.held last → ChangesOnly whole first last)
      → (last : Option Files) → ChangesOnly behind new.held last → ChangesOnly whole first last
  ended-kept whole first before last rest_only =
      before last (subst (λ (it : List Components). ChangesOnly it mid.held last) (sym also)
      (only-more (only-within (among-back behind (path ∷ [])) (only-ended mid new path (of_writer end) outcome ok failed memory)) (only-within (among-front behind (path ∷ [])) rest_only)))

  -- there was one
  pub ended-some : (all : List (ℕ × W)) (first : TreeState) → (all ≡ [] → (entries ≡ []) × (mid ≡ first)) → all ≡ [] → (rest ≡ []) × (new ≡ first)
  ended-some all first before none =
      absurd (let longer = one-more entries rest (number, end) is in let empty = ap (λ (it : List (ℕ × W)). length it) (before none).0 in omega (arith, longer, empty))

  module _ (first before now : ℕ) (counts : CountsReturn (faults end) before now outcome) (earlier_on : first ≤ before) where
    pub ended-later : first ≤ now
    ended-later = let more = counts.later in omega (arith, earlier_on, more)

    pub ended-calm : (all : Bool) → (all ≡ false → (has_count (each_of faults entries) ≡ false) × OnOk ended (before ≡ first)) → all ≡ false
        → (has_count (each_of faults rest) ≡ false) × OnOk after (now ≡ first)
    ended-calm all so none =
        let parts = either (has_count (each_of faults rest)) (nat_lt 0 (faults end)) (sym (counted faults entries rest number end is) ∙ (so none).0) in (
          parts.0,
          subst (λ (it : Result Unit WorldErr). OnOk it (now ≡ first)) (sym after_is) (by_answers ended outcome (so none).1 (counts.ok (none-above (faults end) parts.1))),
        )
      where
        by_answers : (one other : Result Unit WorldErr) → OnOk one (before ≡ first) → OnOk other (now ≡ before) → OnOk (earlier one other) (now ≡ first)
        by_answers (Ok value) (Ok done) calm still = still ∙ calm
        by_answers (Ok value) (Err error) calm still = tt
        by_answers (Err error) other calm still = tt

    pub ended-failed : (IsErrOf ended error.Failed → Rose first before) → IsErrOf after error.Failed → Rose first now
    ended-failed so told = by_answers ended outcome so counts.failed (subst (λ (it : Result Unit WorldErr). IsErrOf it error.Failed) after_is told)
      where
        by_answers : (one other : Result Unit WorldErr) → (IsErrOf one error.Failed → Rose first before) → (IsErrOf other error.Failed → Rose before now)
            → IsErrOf (earlier one other) error.Failed → Rose first now
        by_answers (Ok value) other so rises told = rose-earlier first before now earlier_on (rises told)
        by_answers (Err error) other so rises told = rose-later first before now (so told) counts.later

    pub ended-rose : (all : Bool) → (all ≡ true → has_count (each_of faults entries) ≡ false → Rose first before) → all ≡ true → has_count (each_of faults rest) ≡ false → Rose first now
    ended-rose all so some none = by_count (faults end) refl
      where
        by_count : (count : ℕ) → count ≡ faults end → Rose first now
        by_count zero same =
            rose-later first before now (so some (counted faults entries rest number end is ∙ ap (λ it. it || nat_lt 0 (faults end)) none ∙ ap (nat_lt 0) (sym same))) counts.later
        by_count (suc count) same = rose-earlier first before now earlier_on (counts.writer (omega (arith, same)))

-- all went back, where none is left
module _ {W : Type 0} (of_writer : W → Option (List ℕ)) (faults : W → ℕ) (paths left : List Components) (writers entries : List (ℕ × W)) (old new : TreeState) (before now : ℕ) (outcome : Result Unit WorldErr)
    (none : entries ≡ []) (same : length entries ≡ length left) where
  pub returned : ((first : TreeState) (count : ℕ) → AreOut (length writers + count) first old → AreOut (length entries + count) first new)
      → ((final : Option Files) → OnOk outcome (Fills left (each_of of_writer entries) new.held final → Fills paths (each_of of_writer writers) old.held final))
      → (writers ≡ [] → (entries ≡ []) × (new ≡ old)) → ((last : Option Files) → ChangesOnly left new.held last → ChangesOnly paths old.held last) → before ≤ now
      → (has_count (each_of faults writers) ≡ false → (has_count (each_of faults entries) ≡ false) × OnOk outcome (now ≡ before)) → (IsErrOf outcome error.Failed → Rose before now)
      → (has_count (each_of faults writers) ≡ true → has_count (each_of faults entries) ≡ false → Rose before now) → Returns of_writer faults paths writers old new before now outcome
  returned out fills still kept later calm failed rose =
      record {
        out = λ first count is. subst (λ (it : ℕ). AreOut it first new) (let empty = ap (λ (it : List (ℕ × W)). length it) none in omega (arith, empty)) (out first count is);
        fills = by_answer outcome (fills new.held);
        none = λ is. (still is).1;
        kept = kept new.held only-none;
        later = later;
        calm = λ fresh. (calm fresh).1;
        failed = failed;
        rose = λ some. rose some (ap (λ (it : List (ℕ × W)). has_count (each_of faults it)) none);
      }
    where
      by_answer : (it : Result Unit WorldErr) → OnOk it (Fills left (each_of of_writer entries) new.held new.held → Fills paths (each_of of_writer writers) old.held new.held)
          → OnOk it (Fills paths (each_of of_writer writers) old.held new.held)
      by_answer (Ok done) next = next (fills-none of_writer entries left none same new.held)
      by_answer (Err error) next = tt

-- none is out yet, and all are lent
pub begins-so : {W : Type 0} (of_writer : W → Option (List ℕ)) (faults : W → ℕ) (paths opened : List Components) (old new : TreeState) (none writers : List (ℕ × W)) (before : List Components)
    → none ≡ [] → before ≡ [] → opened ≡ before ++ paths
    → ((files : Files) → old.held ≡ Some files → each_of of_writer writers ≡ each_of of_writer none ++ map (λ path. Some (bytes_at files path)) paths)
    → (length none ≡ length before → length writers ≡ length opened)
    → (has_count (each_of faults none) ≡ false → has_count (each_of faults writers) ≡ false)
    → ((first : TreeState) (count : ℕ) → AreOut (length none + count) first old → AreOut (length writers + count) first new)
    → new.held ≡ option_map (out_at paths) old.held → Begins of_writer faults paths old new writers
begins-so of_writer faults paths opened old new none writers before none_is before_is opened_is texts count fresh out held =
    let empty : length none ≡ 0 = ap (λ (it : List (ℕ × _)). length it) none_is in
    let nothing : length before ≡ 0 = ap (λ (it : List Components). length it) before_is in
    record {
      texts = λ files told. texts files told ∙ ap (λ (it : List (ℕ × _)). each_of of_writer it ++ map (λ path. Some (bytes_at files path)) paths) none_is;
      count = count (omega (arith, empty, nothing)) ∙ ap (λ (it : List Components). length it) (opened_is ∙ ap (λ (it : List Components). it ++ paths) before_is);
      fresh = fresh (ap (λ (it : List (ℕ × _)). has_count (each_of faults it)) none_is);
      out = λ first count is. out first count (subst (λ (it : ℕ). AreOut it first old) (omega (arith, empty)) is);
      held = held;
    }

-- the path of a node, if it has one, and those of the rest
path-more : (path : Option Components) (paths : List Components) → cons_option path paths ≡ cons_option path [] ++ paths
path-more None paths = refl
path-more (Some path) paths = refl

-- the paths that nodes write, from the first on
pub paths-next : (all left rest : List (Cell NodeKind)) (node : Cell NodeKind) → left ≡ node ∷ rest → (path : Option Components) → path ≡ path_written node.kind
    → (before after : List Components) → paths_written all ≡ before ++ paths_written left → after ≡ before ++ cons_option path [] → paths_written all ≡ after ++ paths_written rest
paths-next all left rest node is path path_is before after so more =
    so ∙ ap (λ (it : List (Cell NodeKind)). before ++ paths_written it) is
    ∙ ap (λ (it : Option Components). before ++ cons_option it (paths_written rest)) (sym path_is)
    ∙ ap (λ (it : List Components). before ++ it) (path-more path (paths_written rest))
    ∙ sym (append_assoc before (cons_option path []) (paths_written rest))
    ∙ ap (λ (it : List Components). it ++ paths_written rest) (sym more)
