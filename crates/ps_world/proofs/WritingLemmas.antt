-- Files that are written.
use Rattle.std.proofs.Common.{◌≡◌, ℕ, List, [], ◌∷◌, inl, inr, Option, Some, None, Bool, true, false, cond, refl, sym, ap, ◌∙◌, subst}
use Rattle.std.specs.Option.{IfSome, option_map}
use Rattle.std.specs.FinMap as map
use Rattle.std.specs.Ordering.{eq_by_cmp}
use Rattle.std.proofs.lemmas.Bool.{false≢true}
use Rattle.std.proofs.lemmas.Cmp.{eq_by_cmp_equiv}
use Rattle.std.proofs.lemmas.Map.Views.{tells_apart}
use Rattle.ps_world.specs.Paths.{Components, parent_of, path_cmp, path_cmp_total, path_cmp-IsAntisymmetric}
use Rattle.ps_world.specs.Files.{AreOfOneKind, AreOutWithin, IsOneOf, IsOutAt, IsSetAt, Files, Node, Bytes, Directory, WriterOut, NoWriterOut, CanBe, CanBeMade, IsDir, IsDirAt, IsFile, IsFileAt, kind_at, kind_of}
use Rattle.ps_world.specs.TreeState.{IsFilled, TreeState, place, lend, take_back, take_out, fill}
use Rattle.ps_world.specs.declared.tree.Kind.TheVariants as kind

twice : (here : Bool) (first second : Node) (before : Option Node) → cond here (Some second) (cond here (Some first) before) ≡ cond here (Some second) before
twice true first second before = refl
twice false first second before = refl

set_here : (test : Bool) (node : Node) (before : Option Node) → test ≡ true → cond test (Some node) before ≡ Some node
set_here true node before is = refl
set_here false node before is = absurd (false≢true is)

set_elsewhere : (test : Bool) (node : Node) (before : Option Node) → (test ≡ true → ⊥) → cond test (Some node) before ≡ before
set_elsewhere true node before apart = absurd (apart refl)
set_elsewhere false node before apart = refl

-- what is put at a path stands there, and all else is as it was
pub set_at : (files : Files) (path : Components) (node : Node) → IsSetAt path node files (map.insert files path node)
set_at files path node =
    record {
      here = map.get-insert path_cmp_total files path node path ∙ set_here (eq_by_cmp path_cmp path path) node (map.get files path) ((eq_by_cmp_equiv path_cmp_total).refl path);
      elsewhere = λ other apart.
          map.get-insert path_cmp_total files path node other
          ∙ set_elsewhere (eq_by_cmp path_cmp other path) node (map.get files other) (λ is. apart (tells_apart path_cmp-IsAntisymmetric other path is));
    }

-- what of two paths is set last doesn't matter
either_order : (here there : Bool) (first second : Node) (before : Option Node) → (here ≡ true → there ≡ true → ⊥)
    → cond there (Some second) (cond here (Some first) before) ≡ cond here (Some first) (cond there (Some second) before)
either_order true true first second before apart = absurd (apart refl refl)
either_order true false first second before apart = refl
either_order false there first second before apart = refl

pub insert-apart : (files : Files) (path other : Components) (first second : Node) → (path ≡ other → ⊥)
    → map.insert (map.insert files path first) other second ≡ map.insert (map.insert files other second) path first
insert-apart files path other first second apart =
    map.same_map path_cmp_total path_cmp-IsAntisymmetric _ _ (λ at.
    map.get-insert path_cmp_total (map.insert files path first) other second at
    ∙ ap (cond (eq_by_cmp path_cmp at other) (Some second)) (map.get-insert path_cmp_total files path first at)
    ∙ either_order (eq_by_cmp path_cmp at path) (eq_by_cmp path_cmp at other) first second (map.get files at)
    (λ here there. apart (sym (tells_apart path_cmp-IsAntisymmetric at path here) ∙ tells_apart path_cmp-IsAntisymmetric at other there))
    ∙ ap (cond (eq_by_cmp path_cmp at path) (Some first)) (sym (map.get-insert path_cmp_total files other second at))
    ∙ sym (map.get-insert path_cmp_total (map.insert files other second) path first at))

one_kind : (test : Bool) (before : Option Node) (bytes : List ℕ) → kind_of (cond test (Some WriterOut) before) ≡ kind_of (cond test (Some (Bytes bytes)) before)
one_kind true before bytes = refl
one_kind false before bytes = refl

-- a file whose writer is out is of the kind of the file that comes of it
pub one_kind-out : (files : Files) (path : Components) (bytes : List ℕ) → AreOfOneKind (map.insert files path WriterOut) (map.insert files path (Bytes bytes))
one_kind-out files path bytes at =
    rw (map.get-insert path_cmp_total files path WriterOut at, map.get-insert path_cmp_total files path (Bytes bytes) at)
    (one_kind (eq_by_cmp path_cmp at path) (map.get files at) bytes)

kind_set : (test : Bool) (node : Node) (before : Option Node) → (test ≡ true → kind_of before ≡ kind_of (Some node)) → kind_of before ≡ kind_of (cond test (Some node) before)
kind_set true node before is = is refl
kind_set false node before is = refl

-- what is put where a thing of its kind is leaves all kinds as they were
pub one_kind-set : (files : Files) (path : Components) (node : Node) → kind_at files path ≡ kind_of (Some node) → AreOfOneKind files (map.insert files path node)
one_kind-set files path node is at =
    rw (map.get-insert path_cmp_total files path node at)
    (kind_set (eq_by_cmp path_cmp at path) node (map.get files at) (λ here. ap (kind_at files) (tells_apart path_cmp-IsAntisymmetric at path here) ∙ is))

-- of two things at one path the later one stands
pub insert-insert : (files : Files) (path : Components) (first second : Node) → map.insert (map.insert files path first) path second ≡ map.insert files path second
insert-insert files path first second =
    map.same_map path_cmp_total path_cmp-IsAntisymmetric _ _ (λ at.
    map.get-insert path_cmp_total (map.insert files path first) path second at
    ∙ ap (cond (eq_by_cmp path_cmp at path) (Some second)) (map.get-insert path_cmp_total files path first at)
    ∙ twice (eq_by_cmp path_cmp at path) first second (map.get files at)
    ∙ sym (map.get-insert path_cmp_total files path second at))

placed_again : (held : Option Files) (home : Components) (lent back : ℕ) (path : Components) (first second : Node)
    → place path second (place path first (record { home = home; held = held; lent = lent; back = back })) ≡ place path second (record { home = home; held = held; lent = lent; back = back })
placed_again None home lent back path first second = refl
placed_again (Some files) home lent back path first second =
    ap (λ (new : Files). record { home = home; held = Some new; lent = lent; back = back }) (insert-insert files path first second)

-- a file that was out, and is filled, is as if it had been filled at once
pub fill-take_out : (state : TreeState) (path : Components) (bytes : List ℕ) → fill path bytes (take_out path state) ≡ fill path bytes state
fill-take_out state path bytes = placed_again state.held state.home state.lent state.back path WriterOut (Bytes bytes)

in_again : (here : Bool) (bytes : List ℕ) (before : Option Node) → (before ≡ Some WriterOut → ⊥) → cond here (Some (Bytes bytes)) before ≡ Some WriterOut → ⊥
in_again true bytes before none is = cc
in_again false bytes before none is = none is

-- where no writer is out, none is once a file is filled
pub no_writer_out-filled : (files : Files) (path : Components) (bytes : List ℕ) → NoWriterOut files → NoWriterOut (map.insert files path (Bytes bytes))
no_writer_out-filled files path bytes none at is =
    in_again (eq_by_cmp path_cmp at path) bytes (map.get files at) (none at) (sym (map.get-insert path_cmp_total files path (Bytes bytes) at) ∙ is)

dir_of : (node : Option Node) → kind_of node ≡ kind.Dir → IsDir node
dir_of None is = absurd (cc)
dir_of (Some (Bytes bytes)) is = absurd (cc)
dir_of (Some Directory) is = tt
dir_of (Some WriterOut) is = absurd (cc)

-- where a directory is told, one is there
pub is_dir_at : (files : Files) (path : Components) → kind_at files path ≡ kind.Dir → IsDirAt files path
is_dir_at files path is = dir_of (map.get files path) is

file_of : (node : Option Node) → (node ≡ Some WriterOut → ⊥) → kind_of node ≡ kind.File → IsFile node
file_of None in_place is = absurd (cc)
file_of (Some (Bytes bytes)) in_place is = tt
file_of (Some Directory) in_place is = absurd (cc)
file_of (Some WriterOut) in_place is = absurd (in_place refl)

-- where a file is told whose writer isn't out, a file is there
pub is_file_in : (files : Files) (path : Components) → (IsOutAt files path → ⊥) → kind_at files path ≡ kind.File → IsFileAt files path
is_file_in files path in_place is = file_of (map.get files path) in_place is

-- where a file is told and no writer is out, a file is there
pub is_file_at : (files : Files) (path : Components) → NoWriterOut files → kind_at files path ≡ kind.File → IsFileAt files path
is_file_at files path none is = file_of (map.get files path) (none path) is

anew : (node parent : Option Node) → (node ≡ Some WriterOut → ⊥) → kind_of node ≡ kind.File → CanBe node parent
anew None parent in_place is = absurd (cc)
anew (Some (Bytes bytes)) parent in_place is = tt
anew (Some Directory) parent in_place is = absurd (cc)
anew (Some WriterOut) parent in_place is = absurd (in_place refl)

-- where a file is told whose writer isn't out, it can be made anew
pub made_over : (files : Files) (path : Components) → (IsOutAt files path → ⊥) → kind_at files path ≡ kind.File → CanBeMade files path
made_over files path in_place is = anew (map.get files path) _ in_place is

-- where a file is told and no writer is out, it can be made anew
pub made_anew : (files : Files) (path : Components) → NoWriterOut files → kind_at files path ≡ kind.File → CanBeMade files path
made_anew files path none is = anew (map.get files path) _ (none path) is

fresh : (node parent : Option Node) → IsDir parent → kind_of node ≡ kind.Missing → CanBe node parent
fresh None parent dir is = dir
fresh (Some (Bytes bytes)) parent dir is = absurd (cc)
fresh (Some Directory) parent dir is = absurd (cc)
fresh (Some WriterOut) parent dir is = absurd (cc)

-- where nothing is told, and a directory above, a file can be made
pub made_new : (files : Files) (path : Components) → kind_at files path ≡ kind.Missing → kind_at files (parent_of path) ≡ kind.Dir → CanBeMade files path
made_new files path is above = fresh (map.get files path) _ (is_dir_at files (parent_of path) above) is

held_after : (held : Option Files) (path : Components) (bytes : List ℕ) → IfSome held NoWriterOut → IfSome (option_map (λ files. map.insert files path (Bytes bytes)) held) NoWriterOut
held_after None path bytes none = tt
held_after (Some files) path bytes none = no_writer_out-filled files path bytes none

-- no writer is out once a file that was taken out is filled
pub whole_after : (old mid new : TreeState) (path : Components) (taken : Option (List ℕ)) → mid ≡ lend (take_out path old) → IsFilled path taken mid new → IfSome old.held NoWriterOut → IfSome new.held NoWriterOut
whole_after old mid new path taken out filled none =
    subst (λ (state : TreeState). IfSome state.held NoWriterOut) (sym (filled.state ∙ ap (λ (state : TreeState). take_back (fill path filled.bytes state)) out ∙ ap (λ (state : TreeState). take_back (lend state)) (fill-take_out old path filled.bytes)))
    (held_after old.held path filled.bytes none)

is_file : (node : Option Node) → IsFile node → kind_of node ≡ kind.File
is_file None there = absurd there
is_file (Some (Bytes bytes)) there = refl
is_file (Some Directory) there = absurd there
is_file (Some WriterOut) there = absurd there

-- a file that is taken out leaves all kinds as they were
pub one_kind-file : (files : Files) (path : Components) → IsFileAt files path → AreOfOneKind files (map.insert files path WriterOut)
one_kind-file files path there = one_kind-set files path WriterOut (is_file (map.get files path) there)

-- no writer is out where writers are out at none of no paths
pub none_within : (files : Files) → AreOutWithin [] files → NoWriterOut files
none_within files outs path is = outs path is

pub within_none : (files : Files) → NoWriterOut files → AreOutWithin [] files
within_none files none path is = none path is

out_or : (files : Files) (paths : List Components) (path : Components) (node : Node) (other : Components) (here : Bool) → eq_by_cmp path_cmp other path ≡ here
    → (IsOutAt files other → IsOneOf paths other) → cond here (Some node) (map.get files other) ≡ Some WriterOut → IsOneOf (path ∷ paths) other
out_or files paths path node other true is outs out = inl (tells_apart path_cmp-IsAntisymmetric other path is)
out_or files paths path node other false is outs out = inr (outs out)

-- a writer that is lent is out at its path
pub within-create : (files : Files) (paths : List Components) (path : Components) → AreOutWithin paths files → AreOutWithin (path ∷ paths) (map.insert files path WriterOut)
within-create files paths path outs other is =
    out_or files paths path WriterOut other (eq_by_cmp path_cmp other path) refl (outs other) (sym (map.get-insert path_cmp_total files path WriterOut other) ∙ is)

still_out : (files : Files) (paths : List Components) (path : Components) (bytes : List ℕ) (other : Components) (here : Bool) → eq_by_cmp path_cmp other path ≡ here
    → (IsOutAt files other → IsOneOf (path ∷ paths) other) → cond here (Some (Bytes bytes)) (map.get files other) ≡ Some WriterOut → IsOneOf paths other
still_out files paths path bytes other true is outs out = absurd (cc)
still_out files paths path bytes other false is outs out =
    elim (outs out) [ inl same ↦ absurd (false≢true (sym is ∙ ap (eq_by_cmp path_cmp other) (sym same) ∙ (eq_by_cmp_equiv path_cmp_total).refl other)) | inr others ↦ others ]

-- a writer that comes back is no longer out
pub within-filled : (files : Files) (paths : List Components) (path : Components) (bytes : List ℕ) → AreOutWithin (path ∷ paths) files
    → AreOutWithin paths (map.insert files path (Bytes bytes))
within-filled files paths path bytes outs other is =
    still_out files paths path bytes other (eq_by_cmp path_cmp other path) refl (outs other) (sym (map.get-insert path_cmp_total files path (Bytes bytes) other) ∙ is)
