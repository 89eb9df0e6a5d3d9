-- Graphs over the files of a tree: those that they write are begun, and those that they read stay as they were.
use Rattle.std.proofs.Common.{◌≡◌, inl, inr, ℕ, ◌≤◌, List, [], ◌∷◌, Bool, true, false, ◌||◌, Option, Some, None, Result, Ok, Err, OnOk, IfSome, refl, sym, ap, subst, ◌∙◌, arith}
use Rattle.std.specs.FinMap as map
use Rattle.std.specs.List.{cons_option, list_any}
use Rattle.std.specs.Option.{option_map, option_or}
use Rattle.std.proofs.lemmas.Bool.{true≢false}
use Rattle.ps_world.specs.Counts.{Rose}
use Rattle.ps_world.specs.Files.{Bytes, CanBe, CanBeMade, Directory, Files, IsDir, IsFile, IsFileAt, IsOneOf, Node, NoWriterOut, WriterOut, begun, bytes_at, bytes_of}
use Rattle.ps_world.specs.Paths.{Components, parent_of, spelled}
use Rattle.ps_world.specs.Told.{then_bytes, GrewByPrefix}
use Rattle.ps_world.specs.TreeState.{Balanced, IsFilled, TreeState, fill, lend, take_back, take_out}
use Rattle.ps_world.specs.Places.{StandsIn, resolve}
use Rattle.ps_world.specs.declared.places.Place.{Place}
use Rattle.ps_world.specs.declared.places.Place.TheVariants as place
use Rattle.ps_world.specs.declared.error.WorldErr.{WorldErr}
use Rattle.ps_world.specs.declared.error.WorldErr.TheVariants as error
use Rattle.ps_world.specs.declared.tree.Mode.{Mode}
use Rattle.ps_world.proofs.ToldLemmas.{grew_by_nothing}
use Rattle.ps_world.proofs.TreeStateLemmas.{balanced-more}
use Rattle.ps_world.proofs.StandingLemmas.{stands_resolved}
use Rattle.ps_world.proofs.WritingLemmas.{fill-take_out, no_writer_out-filled}
use Rattle.fl_graph.specs.Paths.{ArePathsApart, is_among, path_read, path_written, paths_read, paths_written}
use Rattle.fl_graph.specs.declared.graphs.Cell.{Cell}
use Rattle.fl_graph.specs.declared.graphs.Graph.{Graph}
use Rattle.fl_graph.specs.declared.kinds.From.TheVariants as from
use Rattle.fl_graph.specs.declared.kinds.NodeKind.{NodeKind}
use Rattle.fl_graph.specs.declared.kinds.NodeKind.TheVariants as kind
use Rattle.fl_graph.specs.declared.kinds.To.TheVariants as to
use Rattle.fl_classes.specs.Flow.{Outcome}
use Rattle.fl_classes.specs.Flow.{outcome as outcome_of}
use Rattle.fl_classes.specs.Sources.{source_texts, text_read}
use Rattle.fl_engines.specs.Logs.{Log}
use Rattle.fl_engines.specs.OwnEnds.{texts_for}
use Rattle.fl_commands.specs.Graphs.{Executes, begun_at, begun_for, files_begun, first_lacking, is_file, is_target, lacking, outcome_over, target, unless}
use Rattle.fl_commands.specs.Inner.Begun.{AllCanBegin, CanBegin, aimed_at}
use Rattle.fl_commands.specs.Inner.Overs.{ended_of}
use Rattle.fl_commands.specs.Inner.Writing.{AreApart}
use Rattle.fl_commands.specs.Runs.{Counts, HasCause, IfDone, NoFewer, Runs, counts_of, graph_asks}
use Rattle.fl_commands.specs.Writers.{AreFilesAt, AreFilled, ChangesOnly, all_added, filled}
use Rattle.fl_commands.specs.declared.runs.Ended.{Ended}
use Rattle.fl_commands.specs.declared.runs.Ended.TheVariants as ended
use Rattle.fl_commands.proofs.ReaderLemmas.{either}
use Rattle.fl_commands.proofs.RunLemmas.{done-on, graph-noted}
use Rattle.fl_commands.proofs.WriterLemmas.{among, among-back, among-front, apart-of, by_path, elsewhere, here, only-more, only-within, same-path}

-- WHERE A FILE IS LACKING
none-or : {Item : Type 0} (one other : Option Item) → option_or one other ≡ None → (one ≡ None) × (other ≡ None)
none-or None other none = (refl, none)
none-or (Some item) other none = absurd (cc)

-- none of the first of some nodes, and of the rest
pub none-next : (files : Files) (home : Components) (left rest : List (Cell NodeKind)) (node : Cell NodeKind) (found : Option Components) → left ≡ node ∷ rest → found ≡ lacking files home node.kind → found ≡ None
    → first_lacking files home left ≡ first_lacking files home rest
none-next files home left rest node found is found_is none =
    ap (first_lacking files home) is ∙ ap (λ (it : Option Components). option_or it (first_lacking files home rest)) (sym found_is ∙ none)

pub some-next : (files : Files) (home : Components) (left rest : List (Cell NodeKind)) (node : Cell NodeKind) (path : Components) → left ≡ node ∷ rest → Some path ≡ lacking files home node.kind
    → Some path ≡ first_lacking files home left
some-next files home left rest node path is found_is =
    sym (ap (first_lacking files home) is ∙ ap (λ (it : Option Components). option_or it (first_lacking files home rest)) (sym found_is))

-- so it is where files are told
pub lacks-not : (held : Option Files) (home : Components) (all left rest : List (Cell NodeKind)) (node : Cell NodeKind) (found : Option Components) → left ≡ node ∷ rest
    → IfSome held (λ files. found ≡ lacking files home node.kind) → found ≡ None → IfSome held (λ files. first_lacking files home all ≡ first_lacking files home left)
    → IfSome held (λ files. first_lacking files home all ≡ first_lacking files home rest)
lacks-not None home all left rest node found is found_is none so = tt
lacks-not (Some files) home all left rest node found is found_is none so = so ∙ none-next files home left rest node found is found_is none

pub lacks-so : (held : Option Files) (home : Components) (all left rest : List (Cell NodeKind)) (node : Cell NodeKind) (path : Components) → left ≡ node ∷ rest
    → IfSome held (λ files. Some path ≡ lacking files home node.kind) → IfSome held (λ files. first_lacking files home all ≡ first_lacking files home left)
    → IfSome held (λ files. Some path ≡ first_lacking files home all)
lacks-so None home all left rest node path is found_is so = tt
lacks-so (Some files) home all left rest node path is found_is so = some-next files home left rest node path is found_is ∙ sym so

-- WHERE NONE IS
unless-none : (test : Bool) (path : Components) → unless test path ≡ None → test ≡ true
unless-none true path none = refl
unless-none false path none = absurd (cc)

module _ (files : Files) (home : Components) (whole : NoWriterOut files) where
  file-so : (path : Components) (found : Place) → StandsIn files found → is_file path found ≡ true → IsFileAt files path
  file-so path place.Missing stands is = absurd (true≢false (sym is))
  file-so path (place.Makeable other) stands is = absurd (true≢false (sym is))
  file-so path (place.Dir other) stands is = absurd (true≢false (sym is))
  file-so path (place.File other) stands is = subst (IsFileAt files) (same-path other path is) (stands.1 (whole other)).0
  file-so path place.Null stands is = absurd (true≢false (sym is))

  made-so : (path : Components) (found : Place) → StandsIn files found → is_target path found ≡ true → CanBeMade files path
  made-so path place.Missing stands is = absurd (true≢false (sym is))
  made-so path (place.Makeable other) stands is = subst (CanBeMade files) (same-path other path is) stands
  made-so path (place.Dir other) stands is = absurd (true≢false (sym is))
  made-so path (place.File other) stands is = subst (CanBeMade files) (same-path other path is) (stands.1 (whole other)).1
  made-so path place.Null stands is = absurd (true≢false (sym is))

  named-there : (path : Components) → StandsIn files (resolve files home (spelled path))
  named-there path = stands_resolved (Some files) home (spelled path) (resolve files home (spelled path)) refl

  -- the files that are read are there
  pub all-there : (cells : List (Cell NodeKind)) → first_lacking files home cells ≡ None → AreFilesAt files (paths_read cells)
  all-there [] none = tt
  all-there (cell ∷ cells) none =
      let parts = none-or (lacking files home cell.kind) (first_lacking files home cells) none in by_kind cell.kind parts.0 (all-there cells parts.1)
    where
      by_kind : (it : NodeKind) → lacking files home it ≡ None → AreFilesAt files (paths_read cells) → AreFilesAt files (cons_option (path_read it) (paths_read cells))
      by_kind (kind.Source (from.File path)) none there = (file-so path (resolve files home (spelled path)) (named-there path) (unless-none (is_file path (resolve files home (spelled path))) path none), there)
      by_kind other none there = there

  -- and those that are written can be made
  pub all-made : (cells : List (Cell NodeKind)) → first_lacking files home cells ≡ None → (path : Components) → IsOneOf (paths_written cells) path → CanBeMade files path
  all-made [] none path one = absurd one
  all-made (cell ∷ cells) none path one =
      let parts = none-or (lacking files home cell.kind) (first_lacking files home cells) none in by_kind cell.kind parts.0 (all-made cells parts.1 path) one
    where
      at : (first : Components) → unless (is_target first (resolve files home (spelled first))) first ≡ None → (IsOneOf (paths_written cells) path → CanBeMade files path)
          → IsOneOf (first ∷ paths_written cells) path → CanBeMade files path
      at first none next one =
          elim one [
            | inl same ↦ subst (λ (it : Components). CanBeMade files it) (sym same) (made-so first (resolve files home (spelled first)) (named-there first) (unless-none (is_target first (resolve files home (spelled first))) first none))
            | inr others ↦ next others
          ]

      by_kind : (it : NodeKind) → lacking files home it ≡ None → (IsOneOf (paths_written cells) path → CanBeMade files path)
          → IsOneOf (cons_option (path_written it) (paths_written cells)) path → CanBeMade files path
      by_kind (kind.TeeFile first mode) none next one = at first none next one
      by_kind (kind.Sink (to.File first mode)) none next one = at first none next one
      by_kind other none next one = next one

-- FILES THAT ARE BEGUN
no-dir : (node parent : Option Node) → CanBe node parent → IsDir node → ⊥
no-dir None parent can dir = dir
no-dir (Some (Bytes bytes)) parent can dir = dir
no-dir (Some Directory) parent can dir = can
no-dir (Some WriterOut) parent can dir = dir

-- one that can be made can be so behind one that is begun
still-made : (files : Files) (path other : Components) (bytes : List ℕ) → CanBeMade files path → (other ≡ path → ⊥) → CanBeMade files other → CanBeMade (map.insert files path (Bytes bytes)) other
still-made files path other bytes can differs made =
    subst (λ (it : Option Node). CanBe it (map.get (map.insert files path (Bytes bytes)) (parent_of other))) (sym (elsewhere files path other (Bytes bytes) differs))
    (by_node (map.get files other) made)
  where
    dir-still : (at : Components) → IsDir (map.get files at) → IsDir (map.get (map.insert files path (Bytes bytes)) at)
    dir-still at dir =
        by_path at path (λ same. absurd (no-dir (map.get files path) (map.get files (parent_of path)) can (subst (λ (it : Components). IsDir (map.get files it)) same dir)))
        (λ apart. subst IsDir (sym (elsewhere files path at (Bytes bytes) apart)) dir)

    by_node : (node : Option Node) → CanBe node (map.get files (parent_of other)) → CanBe node (map.get (map.insert files path (Bytes bytes)) (parent_of other))
    by_node None dir = dir-still (parent_of other) dir
    by_node (Some (Bytes own)) can = tt
    by_node (Some Directory) can = absurd can
    by_node (Some WriterOut) can = absurd can

-- all can, one behind the other
pub can-begin : (cells : List (Cell NodeKind)) (files : Files) → AreApart (paths_written cells) → ((path : Components) → IsOneOf (paths_written cells) path → CanBeMade files path)
    → AllCanBegin files cells
can-begin [] files apart made = tt
can-begin (cell ∷ cells) files apart made = by_kind cell.kind (λ others free can. can-begin cells others free can) apart made
  where
    at : (first : Components) (bytes : List ℕ) → AreApart (first ∷ paths_written cells) → ((path : Components) → IsOneOf (first ∷ paths_written cells) path → CanBeMade files path)
        → (path : Components) → IsOneOf (paths_written cells) path → CanBeMade (map.insert files first (Bytes bytes)) path
    at first bytes apart made path one =
        still-made files first path bytes (made first (inl refl)) (λ same. apart.0 (subst (IsOneOf (paths_written cells)) same one)) (made path (inr one))

    by_kind : (it : NodeKind) → ((others : Files) → AreApart (paths_written cells) → ((path : Components) → IsOneOf (paths_written cells) path → CanBeMade others path) → AllCanBegin others cells)
        → AreApart (cons_option (path_written it) (paths_written cells))
        → ((path : Components) → IsOneOf (cons_option (path_written it) (paths_written cells)) path → CanBeMade files path)
        → CanBegin files (target it) × AllCanBegin (begun_for (target it) files) cells
    by_kind (kind.TeeFile first mode) next apart made =
        (made first (inl refl), next (begun_at first mode files) apart.1 (at first (begun files first mode) apart made))
    by_kind (kind.Sink (to.File first mode)) next apart made =
        (made first (inl refl), next (begun_at first mode files) apart.1 (at first (begun files first mode) apart made))
    by_kind other next apart made = (tt, next files apart made)

-- at a path that isn't written nothing changes
get-begun : (cells : List (Cell NodeKind)) (files : Files) (at : Components) → (IsOneOf (paths_written cells) at → ⊥) → map.get (files_begun cells files) at ≡ map.get files at
get-begun [] files at none = refl
get-begun (cell ∷ cells) files at none = by_kind cell.kind (λ others free. get-begun cells others at free) none
  where
    by_kind : (it : NodeKind) → ((others : Files) → (IsOneOf (paths_written cells) at → ⊥) → map.get (files_begun cells others) at ≡ map.get others at)
        → (IsOneOf (cons_option (path_written it) (paths_written cells)) at → ⊥) → map.get (files_begun cells (begun_for (target it) files)) at ≡ map.get files at
    by_kind (kind.TeeFile path mode) next none =
        next (begun_at path mode files) (λ one. none (inr one)) ∙ elsewhere files path at (Bytes (begun files path mode)) (λ same. none (inl same))
    by_kind (kind.Sink (to.File path mode)) next none =
        next (begun_at path mode files) (λ one. none (inr one)) ∙ elsewhere files path at (Bytes (begun files path mode)) (λ same. none (inl same))
    by_kind other next none = next files none

-- those that are written are files then
begun-there : (cells : List (Cell NodeKind)) (files : Files) → AreApart (paths_written cells) → AreFilesAt (files_begun cells files) (paths_written cells)
begun-there [] files apart = tt
begun-there (cell ∷ cells) files apart = by_kind cell.kind (λ others free. begun-there cells others free) apart
  where
    at : (path : Components) (mode : Mode) → (IsOneOf (paths_written cells) path → ⊥) → IsFileAt (files_begun cells (begun_at path mode files)) path
    at path mode none =
        subst IsFile (sym (get-begun cells (begun_at path mode files) path none ∙ here files path (Bytes (begun files path mode)))) tt

    by_kind : (it : NodeKind) → ((others : Files) → AreApart (paths_written cells) → AreFilesAt (files_begun cells others) (paths_written cells))
        → AreApart (cons_option (path_written it) (paths_written cells)) → AreFilesAt (files_begun cells (begun_for (target it) files)) (cons_option (path_written it) (paths_written cells))
    by_kind (kind.TeeFile path mode) next apart = (at path mode apart.0, next (begun_at path mode files) apart.1)
    by_kind (kind.Sink (to.File path mode)) next apart = (at path mode apart.0, next (begun_at path mode files) apart.1)
    by_kind other next apart = next files apart

-- no writer is out then, and none once they are filled
whole-begun : (cells : List (Cell NodeKind)) (files : Files) → NoWriterOut files → NoWriterOut (files_begun cells files)
whole-begun [] files none = none
whole-begun (cell ∷ cells) files none = by_kind cell.kind (λ others free. whole-begun cells others free)
  where
    by_kind : (it : NodeKind) → ((others : Files) → NoWriterOut others → NoWriterOut (files_begun cells others)) → NoWriterOut (files_begun cells (begun_for (target it) files))
    by_kind (kind.TeeFile path mode) next = next (begun_at path mode files) (no_writer_out-filled files path (begun files path mode) none)
    by_kind (kind.Sink (to.File path mode)) next = next (begun_at path mode files) (no_writer_out-filled files path (begun files path mode) none)
    by_kind other next = next files none

whole-filled : (paths : List Components) (texts : List (List ℕ)) (files : Files) → NoWriterOut files → NoWriterOut (filled paths texts files)
whole-filled [] texts files none = none
whole-filled (path ∷ paths) [] files none = none
whole-filled (path ∷ paths) (text ∷ texts) files none = no_writer_out-filled (filled paths texts files) path text (whole-filled paths texts files none)

-- WHAT IS READ stays as it was
texts-alike : (cells : List (Cell NodeKind)) (input : List ℕ) (one other : Components → List ℕ) → ((path : Components) → IsOneOf (paths_read cells) path → one path ≡ other path)
    → source_texts cells input one ≡ source_texts cells input other
texts-alike [] input one other same = refl
texts-alike (cell ∷ cells) input one other same = by_kind cell.kind (λ alike. texts-alike cells input one other alike) same
  where
    by_kind : (it : NodeKind) → (((path : Components) → IsOneOf (paths_read cells) path → one path ≡ other path) → source_texts cells input one ≡ source_texts cells input other)
        → ((path : Components) → IsOneOf (cons_option (path_read it) (paths_read cells)) path → one path ≡ other path)
        → cons_option (text_read input one it) (source_texts cells input one) ≡ cons_option (text_read input other it) (source_texts cells input other)
    by_kind (kind.Source from.Input) next same = ap (λ (it : List (List ℕ)). input ∷ it) (next same)
    by_kind (kind.Source (from.File path)) next same =
        ap (λ (it : List ℕ). it ∷ source_texts cells input one) (same path (inl refl)) ∙ ap (λ (it : List (List ℕ)). other path ∷ it) (next (λ at among. same at (inr among)))
    by_kind other_kind next same = next same

apart-from : (read written : List Components) → list_any (is_among read) written ≡ false → (path : Components) → IsOneOf read path → IsOneOf written path → ⊥
apart-from read [] apart path one other = other
apart-from read (first ∷ written) apart path one other =
    let parts = either (is_among read first) (list_any (is_among read) written) apart in
    elim other [
      | inl same ↦ true≢false (sym (among read first (subst (IsOneOf read) same one)) ∙ parts.0)
      | inr others ↦ apart-from read written parts.1 path one others
    ]

there-alike : (files others : Files) (paths : List Components) → ((path : Components) → IsOneOf paths path → map.get others path ≡ map.get files path) → AreFilesAt files paths
    → AreFilesAt others paths
there-alike files others [] same there = tt
there-alike files others (path ∷ paths) same there =
    (subst IsFile (sym (same path (inl refl))) there.0, there-alike files others paths (λ at one. same at (inr one)) there.1)

-- THE RUN of a valid graph, of whose files none is lacking
module _ (graph : Graph) (paths : ArePathsApart (paths_read graph.nodes) (paths_written graph.nodes)) where
  read-still : (files : Files) (path : Components) → IsOneOf (paths_read graph.nodes) path → map.get (files_begun graph.nodes files) path ≡ map.get files path
  read-still files path one = get-begun graph.nodes files path (apart-from (paths_read graph.nodes) (paths_written graph.nodes) paths.apart path one)

  outcome-still : (input : List ℕ) (files : Files) → outcome_over graph input (files_begun graph.nodes files) ≡ outcome_over graph input files
  outcome-still input files =
      ap (outcome_of graph) (texts-alike graph.nodes input (bytes_at (files_begun graph.nodes files)) (bytes_at files) (λ path one. ap bytes_of (read-still files path one)))

  -- what its parts ask for
  pub all-can-begin : (held : Option Files) (home : Components) → IfSome held NoWriterOut → IfSome held (λ files. first_lacking files home graph.nodes ≡ None) → IfSome held (λ files. AllCanBegin files graph.nodes)
  all-can-begin None home whole none = tt
  all-can-begin (Some files) home whole none = can-begin graph.nodes files (apart-of (paths_written graph.nodes) paths.once) (all-made files home whole graph.nodes none)

  pub read-begun : (held held' : Option Files) (home : Components) → held' ≡ option_map (files_begun graph.nodes) held → IfSome held NoWriterOut → IfSome held (λ files. first_lacking files home graph.nodes ≡ None)
      → IfSome held' (λ files. AreFilesAt files (paths_read graph.nodes))
  read-begun held held' home is whole none = subst (λ (it : Option Files). IfSome it (λ files. AreFilesAt files (paths_read graph.nodes))) (sym is) (by_held held whole none)
    where
      by_held : (it : Option Files) → IfSome it NoWriterOut → IfSome it (λ files. first_lacking files home graph.nodes ≡ None)
          → IfSome (option_map (files_begun graph.nodes) it) (λ files. AreFilesAt files (paths_read graph.nodes))
      by_held None whole none = tt
      by_held (Some files) whole none =
          there-alike files (files_begun graph.nodes files) (paths_read graph.nodes) (read-still files) (all-there files home whole graph.nodes none)

  pub written-begun : (held held' : Option Files) → held' ≡ option_map (files_begun graph.nodes) held → IfSome held' (λ files. AreFilesAt files (paths_written graph.nodes))
  written-begun held held' is = subst (λ (it : Option Files). IfSome it (λ files. AreFilesAt files (paths_written graph.nodes))) (sym is) (by_held held)
    where
      by_held : (it : Option Files) → IfSome (option_map (files_begun graph.nodes) it) (λ files. AreFilesAt files (paths_written graph.nodes))
      by_held None = tt
      by_held (Some files) = begun-there graph.nodes files (apart-of (paths_written graph.nodes) paths.once)

  whole-after : (held held' held'' : Option Files) → IfSome held NoWriterOut → held' ≡ option_map (files_begun graph.nodes) held → AreFilled (paths_written graph.nodes) held' held''
      → IfSome held'' NoWriterOut
  whole-after held held' held'' whole is fills =
      subst (λ (it : Option Files). IfSome it NoWriterOut) (sym (fills.is ∙ ap (option_map (filled (paths_written graph.nodes) fills.texts)) is)) (by_held held whole)
    where
      by_held : (it : Option Files) → IfSome it NoWriterOut → IfSome (option_map (filled (paths_written graph.nodes) fills.texts) (option_map (files_begun graph.nodes) it)) NoWriterOut
      by_held None whole = tt
      by_held (Some files) whole = whole-filled (paths_written graph.nodes) fills.texts (files_begun graph.nodes files) (whole-begun graph.nodes files whole)

  pub executed : (first mid last : TreeState) (left left' taken taken' : Option (List ℕ)) (input output before between : ℕ) (new : Counts) (used used' : Option Log) (how : Ended)
      → IfSome first.held NoWriterOut → mid.held ≡ option_map (files_begun graph.nodes) first.held → Balanced first mid → between ≡ before
      → ChangesOnly (paths_written graph.nodes) first.held mid.held → Runs (graph_asks graph) mid last left left' taken taken' (counts_of input output between) new used used' how
      → Executes graph first last left left' taken taken' (counts_of input output before) new used used' how
  executed first mid last left left' taken taken' input output before between new used used' how whole begins lent calm kept ran =
      let told : (files : Files) → first.held ≡ Some files → mid.held ≡ Some (files_begun graph.nodes files) =
      (λ files is. begins ∙ ap (option_map (files_begun graph.nodes)) is) in
      record {
        output = λ text files is is_text. done-on how (λ status wrote. wrote ∙ ap (λ (it : Outcome). then_bytes taken it.output) (outcome-still text files))
            (ran.output text (files_begun graph.nodes files) (told files is) is_text);
        status = λ text files is is_text. done-on how (λ status so. so ∙ ap (λ (it : Outcome). it.status) (outcome-still text files))
            (ran.status text (files_begun graph.nodes files) (told files is) is_text);
        held = λ text files is is_text. done-on how
            (λ status so. so ∙ ap (λ (it : Outcome). Some (all_added (paths_written graph.nodes) (texts_for it.files) (files_begun graph.nodes files))) (outcome-still text files))
            (ran.added text (files_begun graph.nodes files) (told files is) is_text);
        read = ran.read;
        noted = done-on how (λ status noted. noted ∙ sym (graph-noted graph used)) ran.noted;
        whole = done-on how (λ status fills. whole-after first.held mid.held last.held whole begins fills) ran.filled;
        part = λ text files is is_text. subst (λ (it : Outcome). GrewByPrefix taken taken' it.output) (outcome-still text files) (ran.part text (files_begun graph.nodes files) (told files is) is_text);
        kept = only-more kept ran.kept;
        lent = balanced-more first mid last lent ran.lent;
        later = record {
          input = ran.later.input;
          output = ran.later.output;
          tree = let more = ran.later.tree in omega (arith, calm, more);
        };
        cause = subst (λ (count : ℕ). HasCause how (counts_of input output count) new) calm ran.cause;
      }

  -- a file couldn't be begun
  pub not-executed : (first last : TreeState) (left taken : Option (List ℕ)) (input output before now : ℕ) (used : Option Log) (fault : WorldErr) → ChangesOnly (paths_written graph.nodes) first.held last.held → Balanced first last → before ≤ now
      → (fault ≡ error.Failed → Rose before now)
      → Executes graph first last left left taken taken (counts_of input output before) (counts_of input output now) used used (ended_of fault)
  not-executed first last left taken input output before now used error.Failed kept lent later failed = record {
    output = λ text files is is_text. tt;
    status = λ text files is is_text. tt;
    held = λ text files is is_text. tt;
    read = tt;
    noted = tt;
    whole = tt;
    kept = kept;
    part = λ text files is is_text. grew_by_nothing _ _;
    lent = lent;
    later = record { input = omega arith; output = omega arith; tree = later };
    cause = failed refl;
  }
  not-executed first last left taken input output before now used error.Memory kept lent later failed = record {
    output = λ text files is is_text. tt;
    status = λ text files is is_text. tt;
    held = λ text files is is_text. tt;
    read = tt;
    noted = tt;
    whole = tt;
    kept = kept;
    part = λ text files is is_text. grew_by_nothing _ _;
    lent = lent;
    later = record { input = omega arith; output = omega arith; tree = later };
    cause = tt;
  }

-- BEGINNING, one behind the other
-- the path that a node writes is that of its file
target-path : (kind : NodeKind) → path_written kind ≡ option_map (λ (aim : Components × Mode). aim.0) (target kind)
target-path (kind.TeeFile path mode) = refl
target-path (kind.Sink (to.File path mode)) = refl
target-path (kind.Sink to.Output) = refl
target-path other = refl

-- the first of the nodes that are left, and the rest
module _ (all left rest : List (Cell NodeKind)) (node : Cell NodeKind) (is : left ≡ node ∷ rest) (aim : Option (Components × Mode)) (aim_is : aim ≡ target node.kind) where
  pub first-made : (held : Option Files) → IfSome held (λ files. AllCanBegin files left) → IfSome held (λ files. CanBegin files aim)
  first-made None made = tt
  first-made (Some files) made = subst (CanBegin files) (sym aim_is) (subst (AllCanBegin files) is made).0

  -- no file but theirs is another
  pub rest-kept : (held held' last : Option Files) → ChangesOnly (aimed_at aim) held held' → ChangesOnly (paths_written rest) held' last → ChangesOnly (paths_written left) held last
  rest-kept held held' last first second =
      subst (λ (it : List (Cell NodeKind)). ChangesOnly (paths_written it) held last) (sym is)
      (subst (λ (it : Option Components). ChangesOnly (cons_option it (paths_written rest)) held last) (sym (target-path node.kind ∙ ap (option_map (λ (it : Components × Mode). it.0)) (sym aim_is)))
      (by_aim aim first))
    where
      by_aim : (it : Option (Components × Mode)) → ChangesOnly (aimed_at it) held held' → ChangesOnly (cons_option (option_map (λ (aim : Components × Mode). aim.0) it) (paths_written rest)) held last
      by_aim None first = only-more (only-within (λ at one. absurd one) first) second
      by_aim (Some it) first = only-more (only-within (among-front (it.0 ∷ []) (paths_written rest)) first) (only-within (among-back (it.0 ∷ []) (paths_written rest)) second)

  module _ (held held' : Option Files) (next : held' ≡ option_map (begun_for aim) held) where
    pub rest-made : IfSome held (λ files. AllCanBegin files left) → IfSome held' (λ files. AllCanBegin files rest)
    rest-made made = subst (λ (it : Option Files). IfSome it (λ files. AllCanBegin files rest)) (sym next) (by_held held made)
      where
        by_held : (it : Option Files) → IfSome it (λ files. AllCanBegin files left) → IfSome (option_map (begun_for aim) it) (λ files. AllCanBegin files rest)
        by_held None made = tt
        by_held (Some files) made = subst (λ (it : Option (Components × Mode)). AllCanBegin (begun_for it files) rest) (sym aim_is) (subst (AllCanBegin files) is made).1

    pub rest-held : option_map (files_begun rest) held' ≡ option_map (files_begun left) held
    rest-held = ap (option_map (files_begun rest)) next ∙ by_held held
      where
        by_held : (it : Option Files) → option_map (files_begun rest) (option_map (begun_for aim) it) ≡ option_map (files_begun left) it
        by_held None = refl
        by_held (Some files) = ap (λ (it : Option (Components × Mode)). Some (files_begun rest (begun_for it files))) aim_is ∙ ap (λ (it : List (Cell NodeKind)). Some (files_begun it files)) (sym is)

pub held-same : {Aim : Type 0} (give : Aim → Components × Mode) (aim : Option Aim) (held : Option Files) → aim ≡ None → held ≡ option_map (begun_for (option_map give aim)) held
held-same give None None is = refl
held-same give None (Some files) is = refl
held-same give (Some aim) held is = absurd (cc)

-- what the files are when one is begun, and its writer has come back at once
pub held-begun : (old mid new : TreeState) (path : Components) (mode : Mode) (taken : Option (List ℕ)) (outcome : Result Unit WorldErr)
    → IfSome old.held (λ files. taken ≡ Some (begun files path mode)) → mid ≡ lend (take_out path old) → OnOk outcome (IsFilled path taken mid new)
    → OnOk outcome (new.held ≡ option_map (begun_at path mode) old.held)
held-begun old mid new path mode taken (Err fault) begins out filled = tt
held-begun old mid new path mode taken (Ok value) begins out filled =
    ap (λ (state : TreeState). state.held)
    (filled.state ∙ ap (λ (state : TreeState). take_back (fill path filled.bytes state)) out ∙ ap (λ (state : TreeState). take_back (lend state)) (fill-take_out old path filled.bytes))
    ∙ by_held old.held begins
  where
    by_held : (held : Option Files) → IfSome held (λ files. taken ≡ Some (begun files path mode))
        → option_map (λ (files : Files). map.insert files path (Bytes filled.bytes)) held ≡ option_map (begun_at path mode) held
    by_held None begins = refl
    by_held (Some files) begins =
        let same : filled.bytes ≡ begun files path mode = subst (λ (told : Option (List ℕ)). IfSome told (λ written. filled.bytes ≡ written)) begins filled.told in
        ap (λ (it : List ℕ). Some (map.insert files path (Bytes it))) same
