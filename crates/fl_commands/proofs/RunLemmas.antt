-- What comes of stages that are run, from what comes of their graph.
use Rattle.std.proofs.Common.{◌≡◌, inl, ℕ, zero, suc, ◌≤◌, ◌<◌, ◌+◌, List, [], ◌∷◌, ◌++◌, Bool, true, false, ◌&&◌, ◌||◌, nat_le, nat_lt, if◌then◌else◌, length, map, slice_get, Option, Some, None, Result, Ok, Err, OnOk, IsErrOf, refl, sym, ap, ◌∙◌, subst, arith}
use Rattle.std.specs.Prelude.{replicate}
use Rattle.std.specs.List.{cons_option, filter_map, flat_map, list_all, list_any}
use Rattle.std.specs.Option.{IfSome, option_map}
use Rattle.std.proofs.lemmas.Bool.{and_from, and_parts, lt-ltb, true≢false}
use Rattle.std.proofs.lemmas.List.{length-map}
use Rattle.ps_world.specs.Counts.{Rose}
use Rattle.ps_world.specs.Counts.{Counts as CountsOf}
use Rattle.ps_world.specs.Files.{Files, bytes_at}
use Rattle.ps_world.specs.Paths.{Components}
use Rattle.ps_world.specs.Told.{then_bytes, GrewByPrefix}
use Rattle.ps_world.specs.TreeState.{AreOut, Balanced, TreeState}
use Rattle.ps_world.specs.declared.error.WorldErr.{WorldErr}
use Rattle.ps_world.specs.declared.error.WorldErr.TheVariants as error
use Rattle.ps_world.proofs.ToldLemmas.{grew_by_nothing}
use Rattle.ps_world.proofs.TreeStateLemmas.{balanced-none}
use Rattle.fl_graph.specs.Paths.{path_read, path_written, paths_read, paths_written}
use Rattle.fl_graph.specs.declared.graphs.Cell.{Cell}
use Rattle.fl_graph.specs.declared.graphs.Graph.{Graph}
use Rattle.fl_graph.specs.declared.kinds.From.TheVariants as from
use Rattle.fl_graph.specs.declared.kinds.NodeKind.{NodeKind}
use Rattle.fl_graph.specs.declared.kinds.NodeKind.TheVariants as kind
use Rattle.fl_graph.specs.declared.kinds.To.TheVariants as to
use Rattle.fl_graph.specs.Kinds.{has_its_class, is_input}
use Rattle.fl_graph.specs.Net.{run, step}
use Rattle.fl_graph.specs.Valid.{Valid}
use Rattle.fl_classes.specs.Flow.{Outcome, Placed, Write, equation, is_source, no_texts, placed_from, to_file, writes_of}
use Rattle.fl_classes.specs.Flow.{outcome as outcome_of}
use Rattle.fl_classes.specs.Kinds.{are_run, is_run}
use Rattle.fl_classes.specs.Used.{words_used}
use Rattle.fl_classes.specs.Sources.{source_texts}
use Rattle.fl_classes.proofs.KindLemmas.{runs-of_class}
use Rattle.fl_core.specs.EndLists.{file_nodes, file_sources, numbers_of, reads_file, writes_file}
use Rattle.fl_engines.specs.Engines.{then_used}
use Rattle.fl_engines.specs.Logs.{Log, with_words}
use Rattle.fl_engines.specs.OwnEnds.{EndCounts, IfCame, IsTold, RoseAmong, RunsOwn, counts_by, each_of, grown, has_input, texts_for}
use Rattle.fl_engines.specs.OwnEnds.{HasCause as CauseOf}
use Rattle.fl_core.specs.declared.end_lists.Ends.{Ends}
use Rattle.fl_engines.specs.declared.own_ends.Came.{Came}
use Rattle.fl_engines.specs.declared.own_ends.Came.TheVariants as came
use Rattle.fl_segments.specs.Chains.{begins_with, chain_means}
use Rattle.fl_segments.specs.Groups.{marks_hold}
use Rattle.fl_segments.specs.Noted.{noted_as, noted_in, used_at}
use Rattle.fl_segments.specs.Stages.{file_in, files_read, files_written, ins_of, reads_input, words_at}
use Rattle.fl_segments.specs.declared.stages.First.{First}
use Rattle.fl_segments.specs.declared.stages.In.{In}
use Rattle.fl_segments.specs.declared.stages.In.TheVariants as inlet
use Rattle.fl_segments.specs.declared.stages.Stage.{Stage}
use Rattle.fl_segments.proofs.NotedLemmas.{used-so}
use Rattle.fl_commands.specs.Inner.Overs.{Lends, RunsOver, done_by, ended_by, ended_of}
use Rattle.fl_commands.specs.Inner.Segments.{AllThere, IsGraphOf, segment_asks}
use Rattle.fl_commands.specs.Inner.Writing.{AreApart, AreTold, Fills, Returns, out_at}
use Rattle.fl_commands.specs.Readers.{AreThere, has_count}
use Rattle.fl_commands.specs.Runs.{Asks, Counts, HasCause, IfDone, NoFewer, Runs, counts_of, graph_asks, left_behind, with_noted}
use Rattle.fl_commands.specs.Writers.{AreFilesAt, AreFilled, ChangesOnly, all_added, filled}
use Rattle.fl_commands.specs.declared.runs.Ended.{Ended}
use Rattle.fl_commands.specs.declared.runs.Ended.TheVariants as ended
use Rattle.fl_commands.proofs.ReaderLemmas.{rose-earlier, rose-later}
use Rattle.fl_commands.proofs.WriterLemmas.{filled-added, filled-out, grown-told, only-more, only-none, only-out, only-same, texts_begun, told-count}

-- what is said of the graph of stages, in one
pub graph-so : (width : ℕ) (segment : List Stage) (from : First) (graph : Graph) → Valid graph.nodes graph.status → are_run graph.nodes ≡ true → paths_read graph.nodes ≡ files_read segment
    → paths_written graph.nodes ≡ files_written segment → list_any (λ cell. is_input cell.kind) graph.nodes ≡ reads_input segment from
    → ((input : List ℕ) (files : Components → List ℕ) → marks_hold files segment ≡ true → outcome_of graph (source_texts graph.nodes input files) ≡ chain_means segment (begins_with from input) files)
    → words_used graph.nodes ≡ words_at width segment → IsGraphOf width segment from graph
graph-so width segment from graph valid kinds reads writes input outcome_is used =
    record { valid = valid; kinds = kinds; reads = reads; writes = writes; input = input; outcome_is = outcome_is; used = used }

-- HOW MANY ENDS A GRAPH HAS
cons-length : {X : Type 0} (one : Option X) (items others : List X) → length items ≡ length others → length (cons_option one items) ≡ length (cons_option one others)
cons-length None items others same = same
cons-length (Some item) items others same = ap suc same

pub sources-count : (number : ℕ) (cells : List (Cell NodeKind)) → length (file_sources number cells) ≡ length (paths_read cells)
sources-count number [] = refl
sources-count number (cell ∷ cells) = by_kind cell.kind (sources-count (number + 1) cells)
  where
    by_kind : (it : NodeKind) → length (file_sources (number + 1) cells) ≡ length (paths_read cells)
        → length (if reads_file it then number ∷ file_sources (number + 1) cells else file_sources (number + 1) cells) ≡ length (cons_option (path_read it) (paths_read cells))
    by_kind (kind.Source (from.File path)) same = ap suc same
    by_kind other same = same

pub nodes-count : (number : ℕ) (cells : List (Cell NodeKind)) → length (file_nodes number cells) ≡ length (paths_written cells)
nodes-count number [] = refl
nodes-count number (cell ∷ cells) = by_kind cell.kind (nodes-count (number + 1) cells)
  where
    by_kind : (it : NodeKind) → length (file_nodes (number + 1) cells) ≡ length (paths_written cells)
        → length (if writes_file it then number ∷ file_nodes (number + 1) cells else file_nodes (number + 1) cells) ≡ length (cons_option (path_written it) (paths_written cells))
    by_kind (kind.Sink (to.File path mode)) same = ap suc same
    by_kind (kind.TeeFile path mode) same = ap suc same
    by_kind other same = same

-- HOW MANY TEXTS FOR FILES A GRAPH LEAVES: as many as it writes files
files-many : (sources : List (List ℕ)) (number : ℕ) (cells : List (Cell NodeKind)) (texts : ℕ → List ℕ)
    → length (texts_for (flat_map to_file (run (equation sources) (λ (node : Placed) (ins : List (List ℕ)). writes_of node.1 ins) (placed_from number cells) texts))) ≡ length (paths_written cells)
files-many sources number [] texts = refl
files-many sources number (cell ∷ cells) texts =
    let next : ℕ = if is_source cell.kind then number + 1 else number in
    let here : Cell Placed = record { kind = (number, cell.kind); ins = cell.ins; outs = cell.outs; stage = cell.stage } in
    let behind : ℕ → List ℕ = step (equation sources) here texts in
    by_kind (map texts cell.ins) (run (equation sources) (λ (node : Placed) (ins : List (List ℕ)). writes_of node.1 ins) (placed_from next cells) behind) cell.kind
    (files-many sources next cells behind)
  where
    by_kind : (ins : List (List ℕ)) (others : List Write) (it : NodeKind) → length (texts_for (flat_map to_file others)) ≡ length (paths_written cells)
        → length (texts_for (flat_map to_file (writes_of it ins ++ others))) ≡ length (cons_option (path_written it) (paths_written cells))
    by_kind ins others (kind.Sink (to.File path mode)) same = ap suc same
    by_kind ins others (kind.TeeFile path mode) same = ap suc same
    by_kind ins others other same = same

-- a graph whose nodes are of their classes runs
pub runs-all : (cells : List (Cell NodeKind)) → list_all (λ cell. has_its_class cell.kind) cells ≡ true → are_run cells ≡ true
runs-all [] all = refl
runs-all (cell ∷ cells) all =
    let parts = and_parts (has_its_class cell.kind) (list_all (λ cell. has_its_class cell.kind) cells) all in
    and_from (is_run cell.kind) (are_run cells) (runs-of_class cell.kind parts.0) (runs-all cells parts.1)

-- the words of utilities that are noted once, at any width
used-once : (width : ℕ) (words : List (List (List ℕ))) → used_at width (map (λ (it : List (List ℕ)). noted_as it false) words) ≡ words
used-once width [] = refl
used-once width (first ∷ rest) = by_test (nat_le 2 width) (used-once width rest)
  where
    by_test : (test : Bool) → used_at width (map (λ (it : List (List ℕ)). noted_as it false) rest) ≡ rest
        → replicate (if test && false then width else 1) first ++ used_at width (map (λ (it : List (List ℕ)). noted_as it false) rest) ≡ first ∷ rest
    by_test true same = ap (λ (it : List (List (List ℕ))). first ∷ it) same
    by_test false same = ap (λ (it : List (List (List ℕ))). first ∷ it) same

-- the engine's words are those of the utilities that are noted
pub graph-noted : (graph : Graph) (told : Option Log) → then_used told graph ≡ option_map (with_noted (graph_asks graph).noted) told
graph-noted graph None = refl
graph-noted graph (Some log) = ap (λ (words : List (List (List ℕ))). Some (with_words words log)) (sym (used-once log.width (words_used graph.nodes)))

-- as many are there as before they were numbered
pub as-many : {End : Type 0} (one other : List (ℕ × End)) → map (λ entry. entry.1) one ≡ map (λ entry. entry.1) other → length one ≡ length other
as-many one other same = sym (length-map one (λ entry. entry.1)) ∙ ap (λ it. length it) same ∙ length-map other (λ entry. entry.1)

pub as-numbered : {End : Type 0} (one other : List (ℕ × End)) → numbers_of one ≡ numbers_of other → length one ≡ length other
as-numbered one other same = sym (length-map one (λ entry. entry.0)) ∙ ap (λ it. length it) same ∙ length-map other (λ entry. entry.0)

-- what is told of ends doesn't hang on their numbers
each-ends : {End Told : Type 0} (tell : End → Told) (entries : List (ℕ × End)) → each_of tell entries ≡ map tell (map (λ entry. entry.1) entries)
each-ends tell [] = refl
each-ends tell (first ∷ rest) = ap (λ it. tell first.1 ∷ it) (each-ends tell rest)

each-same : {End Told : Type 0} (tell : End → Told) (one other : List (ℕ × End)) → map (λ entry. entry.1) one ≡ map (λ entry. entry.1) other → each_of tell one ≡ each_of tell other
each-same tell one other same = each-ends tell one ∙ ap (map tell) same ∙ sym (each-ends tell other)

-- a run that wants memory before it begins leaves all as it was
module _ {R W I O : Type 0} (of_reader : R → Option (List ℕ)) (of_input : I → Option (List ℕ)) (of_writer : W → Option (List ℕ)) (of_output : O → Option (List ℕ))
    (reader_faults : R → ℕ) (writer_faults : W → ℕ) (input_faults : I → ℕ) (output_faults : O → ℕ) (graph : Graph) (ends : Ends R W I O) (used : Option Log) where
  pub not-begun : RunsOwn of_reader of_input of_writer of_output reader_faults writer_faults input_faults output_faults graph ends used used came.Memory ends
  not-begun = record {
    leaves = λ input files told. tt;
    part = λ input files told. grew_by_nothing _ _;
    read = λ has. tt;
    input = λ none. refl;
    out = λ none. refl;
    readers = refl;
    writers = refl;
    cause = refl;
    later_input = omega arith;
    later_output = omega arith;
    used_whole = tt;
    used_or_not = inl refl;
  }

-- ALL THAT COMES OF THE RUN
no-fewer : (counts : Counts) → NoFewer counts counts
no-fewer counts = record { input = omega arith; output = omega arith; tree = omega arith }

-- what is asked for alike comes of the same runs
pub asked-alike : (one other : Asks) → one ≡ other → (tree tree' : TreeState) (left left' taken taken' : Option (List ℕ)) (old new : Counts) (used used' : Option Log) (how : Ended)
    → Runs one tree tree' left left' taken taken' old new used used' how → Runs other tree tree' left left' taken taken' old new used used' how
asked-alike one other same tree tree' left left' taken taken' old new used used' how ran =
    subst (λ (asks : Asks). Runs asks tree tree' left left' taken taken' old new used used' how) same ran

-- nothing was done
pub nothing-ran : (asks : Asks) (tree : TreeState) (left taken : Option (List ℕ)) (counts : Counts) (used : Option Log)
    → Runs asks tree tree left left taken taken counts counts used used ended.Memory
nothing-ran asks tree left taken counts used = record {
  output = λ input files told is. tt;
  status = λ input files told is. tt;
  read = tt;
  noted = tt;
  added = λ input files told is. tt;
  filled = tt;
  part = λ input files told is. grew_by_nothing _ _;
  held = λ none. refl;
  kept = only-none;
  lent = balanced-none tree;
  later = no-fewer counts;
  cause = tt;
}

-- a file wasn't opened
pub none-opened : (asks : Asks) (tree tree' : TreeState) (left taken : Option (List ℕ)) (input output before now : ℕ) (used : Option Log)
    (fault : WorldErr) → Balanced tree tree' → (asks.paths ≡ [] → tree'.held ≡ tree.held) → ChangesOnly asks.paths tree.held tree'.held → before ≤ now → (fault ≡ error.Failed → Rose before now)
    → Runs asks tree tree' left left taken taken (counts_of input output before) (counts_of input output now) used used (ended_of fault)
none-opened asks tree tree' left taken input output before now used error.Failed lent held kept later failed = record {
  output = λ text files told is. tt;
  status = λ text files told is. tt;
  read = tt;
  noted = tt;
  added = λ text files told is. tt;
  filled = tt;
  part = λ text files told is. grew_by_nothing _ _;
  held = held;
  kept = kept;
  lent = lent;
  later = record { input = omega arith; output = omega arith; tree = later };
  cause = failed refl;
}
none-opened asks tree tree' left taken input output before now used error.Memory lent held kept later failed = record {
  output = λ text files told is. tt;
  status = λ text files told is. tt;
  read = tt;
  noted = tt;
  added = λ text files told is. tt;
  filled = tt;
  part = λ text files told is. grew_by_nothing _ _;
  held = held;
  kept = kept;
  lent = lent;
  later = record { input = omega arith; output = omega arith; tree = later };
  cause = tt;
}

-- marks couldn't be set
pub none-marked : {Given : Type 0} (asks : Asks) (tree tree' : TreeState) (left taken : Option (List ℕ)) (input output before now : ℕ) (used : Option Log)
    (fault : WorldErr) → tree' ≡ tree → CountsOf {T = Given} before now (Err fault)
    → Runs asks tree tree' left left taken taken (counts_of input output before) (counts_of input output now) used used (ended_of fault)
none-marked {Given} asks tree tree' left taken input output before now used fault same counts =
    none-opened asks tree tree' left taken input output before now used fault (subst (Balanced tree) (sym same) (balanced-none tree)) (λ none. ap (λ (state : TreeState). state.held) same) (only-same (ap (λ (state : TreeState). state.held) same))
    counts.later (λ is. counts.failed (ap Err is))

-- what ran behind a call that leaves the tree as it was
pub ran-behind : (asks : Asks) (tree mid last : TreeState) (left left' taken taken' : Option (List ℕ)) (input output before between : ℕ) (new : Counts) (used used' : Option Log) (how : Ended) → mid ≡ tree → between ≡ before
    → Runs asks mid last left left' taken taken' (counts_of input output between) new used used' how → Runs asks tree last left left' taken taken' (counts_of input output before) new used used' how
ran-behind asks tree mid last left left' taken taken' input output before between new used used' how same calm ran =
    subst (λ (begun : TreeState). Runs asks begun last left left' taken taken' (counts_of input output before) new used used' how) same
    (subst (λ (count : ℕ). Runs asks mid last left left' taken taken' (counts_of input output count) new used used' how) calm ran)

-- one of the counts is above 0 where one rose
risen : (old new : List ℕ) → RoseAmong old new → has_count new ≡ true
risen old new among = by_place new among.place among.is
  where
    above : 0 < among.now
    above = let rose = among.rose in omega (arith, rose)

    by_place : (counts : List ℕ) (place : ℕ) → slice_get counts place ≡ Some among.now → has_count counts ≡ true
    by_place [] place at = absurd (none-some at)
      where
        none-some : None ≡ Some among.now → ⊥
        none-some same = true≢false (ap some-or same)
          where
            some-or : Option ℕ → Bool
            some-or None = true
            some-or (Some count) = false
    by_place (count ∷ counts) zero at = ap (λ (it : Bool). it || has_count counts) (lt-ltb 0 count (subst (λ (it : ℕ). 0 < it) (sym (some-is at)) above))
      where
        some-is : Some count ≡ Some among.now → count ≡ among.now
        some-is same = cc
    by_place (count ∷ counts) (suc place) at = or-true (nat_lt 0 count) (by_place counts place at)
      where
        or-true : (test : Bool) → has_count counts ≡ true → (test || has_count counts) ≡ true
        or-true true rest = refl
        or-true false rest = rest

-- what holds of a status that is left, where its writers went back so
done-so : {P Q : ℕ → Type 0} (it : Came) (outcome : Result Unit WorldErr) → IfCame it P → ((status : ℕ) → P status → Q status) → IfDone (ended_by it outcome) Q
done-so (came.Done status) (Ok done) holds next = next status holds
done-so (came.Done status) (Err error.Failed) holds next = tt
done-so (came.Done status) (Err error.Memory) holds next = tt
done-so came.Input outcome holds next = tt
done-so came.Output outcome holds next = tt
done-so came.Reader outcome holds next = tt
done-so came.Writer outcome holds next = tt
done-so came.Memory outcome holds next = tt

done-all : {Q : ℕ → Type 0} (it : Came) (outcome : Result Unit WorldErr) → ((status : ℕ) → Q status) → IfDone (ended_by it outcome) Q
done-all (came.Done status) (Ok done) all = all status
done-all (came.Done status) (Err error.Failed) all = tt
done-all (came.Done status) (Err error.Memory) all = tt
done-all came.Input outcome all = tt
done-all came.Output outcome all = tt
done-all came.Reader outcome all = tt
done-all came.Writer outcome all = tt
done-all came.Memory outcome all = tt

done-back : {P Back Q : Type 0} (it : Came) (outcome : Result Unit WorldErr) → IfCame it (λ status. P) → OnOk outcome Back → (P → Back → Q) → IfDone (ended_by it outcome) (λ status. Q)
done-back (came.Done status) (Ok done) holds back next = next holds back
done-back (came.Done status) (Err error.Failed) holds back next = tt
done-back (came.Done status) (Err error.Memory) holds back next = tt
done-back came.Input outcome holds back next = tt
done-back came.Output outcome holds back next = tt
done-back came.Reader outcome holds back next = tt
done-back came.Writer outcome holds back next = tt
done-back came.Memory outcome holds back next = tt

came-all : {P : Type 0} (it : Came) → P → IfCame it (λ status. P)
came-all (came.Done status) holds = holds
came-all came.Input holds = tt
came-all came.Output holds = tt
came-all came.Reader holds = tt
came-all came.Writer holds = tt
came-all came.Memory holds = tt

came-so : {P : ℕ → Type 0} {Q : Type 0} (it : Came) → IfCame it P → ((status : ℕ) → P status → Q) → IfCame it (λ status. Q)
came-so (came.Done status) holds next = next status holds
came-so came.Input holds next = tt
came-so came.Output holds next = tt
came-so came.Reader holds next = tt
came-so came.Writer holds next = tt
came-so came.Memory holds next = tt

-- files with these paths whose writers went back
out-filled-held : (held : Option Files) (paths : List Components) (texts : List (List ℕ)) → length texts ≡ length paths
    → option_map (filled paths texts) (option_map (out_at paths) held) ≡ option_map (filled paths texts) held
out-filled-held None paths texts many = refl
out-filled-held (Some files) paths texts many = ap Some (filled-out paths texts files many)

held-none : (held : Option Files) (paths : List Components) → paths ≡ [] → option_map (out_at paths) held ≡ held
held-none held paths none = ap (λ (it : List Components). option_map (out_at it) held) none ∙ by_held held
  where
    by_held : (it : Option Files) → option_map (out_at []) it ≡ it
    by_held None = refl
    by_held (Some files) = refl

empty-of : {X : Type 0} (items : List X) → length items ≡ 0 → items ≡ []
empty-of [] none = refl
empty-of (item ∷ items) none = absurd (omega (arith, none))

module _ {R W I O : Type 0} (of_reader : R → Option (List ℕ)) (of_input : I → Option (List ℕ)) (of_writer : W → Option (List ℕ)) (of_output : O → Option (List ℕ))
    (reader_faults : R → ℕ) (writer_faults : W → ℕ) (input_faults : I → ℕ) (output_faults : O → ℕ)
    (graph : Graph) (first lent : TreeState) (readers : List (ℕ × R)) (writers : List (ℕ × W))
    (lends : Lends of_reader reader_faults of_writer writer_faults (paths_read graph.nodes) (paths_written graph.nodes) first lent readers writers)
    (input : I) (out : O) (used used' : Option Log) (how : Came) (back : Ends R W I O)
    (over : RunsOver of_reader of_input of_writer of_output reader_faults writer_faults input_faults output_faults graph readers writers input out used used' how back) where
  -- as many readers and writers come back
  pub readers-back : length back.readers.items ≡ length readers
  readers-back = as-numbered back.readers.items over.numbered.readers.items over.runs.readers ∙ as-many over.numbered.readers.items readers over.readers_are

  pub writers-back : length back.writers.items ≡ length (paths_written graph.nodes)
  writers-back =
      as-numbered back.writers.items over.numbered.writers.items over.runs.writers ∙ as-many over.numbered.writers.items writers over.writers_are ∙ lends.begins.count

  told-so : (text : List ℕ) (files : Files) → first.held ≡ Some files → of_input input ≡ Some text → IsTold of_reader of_input graph.nodes over.numbered text (bytes_at files)
  told-so text files told is_text =
      record {
        from_input = λ has. ap of_input over.input_is ∙ is_text;
        from_files = each-same of_reader over.numbered.readers.items readers over.readers_are ∙ lends.opens.texts files told;
      }

  module _ (apart : AreApart (paths_written graph.nodes)) (returned last : TreeState) (before middle later now : ℕ) (calm_lent : middle ≡ before)
      (outcome : Result Unit WorldErr) (returns : Returns of_writer writer_faults (paths_written graph.nodes) back.writers.items lent returned middle later outcome)
      (given_back : (begun : TreeState) → AreOut (length back.readers.items) begun returned → Balanced begun last) (held_last : last.held ≡ returned.held) (more : later ≤ now)
      (calm : has_count (each_of reader_faults back.readers.items) ≡ false → now ≡ later) (rises : has_count (each_of reader_faults back.readers.items) ≡ true → Rose later now) where
    read-so : (reads : Bool) → has_input graph.nodes ≡ reads → IfDone (ended_by how outcome) (λ status. of_input back.input ≡ left_behind reads (of_input input))
    read-so true has = done-so how outcome (over.runs.read has) (λ status read. read ∙ ap (λ (it : I). option_map (λ _. []) (of_input it)) over.input_is)
    read-so false has = done-all how outcome (λ status. ap of_input (over.runs.input has ∙ over.input_is))

    -- the files
    lent-held : lent.held ≡ option_map (out_at (paths_written graph.nodes)) first.held
    lent-held = lends.begins.held ∙ ap (option_map (out_at (paths_written graph.nodes))) lends.held

    filled-so : Fills (paths_written graph.nodes) (each_of of_writer back.writers.items) lent.held returned.held → AreFilled (paths_written graph.nodes) first.held last.held
    filled-so fills =
        let many : length fills.texts ≡ length (paths_written graph.nodes) =
        told-count (each_of of_writer back.writers.items) fills.texts fills.told_are ∙ length-map back.writers.items (λ entry. of_writer entry.1) ∙ writers-back in
        record {
          texts = fills.texts;
          many = many;
          is = held_last ∙ fills.is ∙ ap (option_map (filled (paths_written graph.nodes) fills.texts)) lent-held ∙ out-filled-held first.held (paths_written graph.nodes) fills.texts many;
        }

    added-so : (text : List ℕ) (files : Files) → first.held ≡ Some files
        → each_of of_writer back.writers.items ≡ grown (each_of of_writer over.numbered.writers.items) (texts_for (outcome_of graph (source_texts graph.nodes text (bytes_at files))).files)
        → Fills (paths_written graph.nodes) (each_of of_writer back.writers.items) lent.held returned.held
        → last.held ≡ Some (all_added (paths_written graph.nodes) (texts_for (outcome_of graph (source_texts graph.nodes text (bytes_at files))).files) files)
    added-so text files told grew fills =
        let paths : List Components = paths_written graph.nodes in
        let texts : List (List ℕ) = texts_for (outcome_of graph (source_texts graph.nodes text (bytes_at files))).files in
        let many : length texts ≡ length paths = files-many (source_texts graph.nodes text (bytes_at files)) 0 graph.nodes no_texts in
        let told_is : each_of of_writer back.writers.items ≡ grown (map (λ path. Some (bytes_at files path)) paths) texts =
        grew
        ∙ ap (λ (it : List (Option (List ℕ))). grown it texts) (each-same of_writer over.numbered.writers.items writers over.writers_are ∙ lends.begins.texts files (lends.held ∙ told)) in
        let finals : fills.texts ≡ texts_begun files paths texts =
        grown-told files paths texts fills.texts many (subst (λ (it : List (Option (List ℕ))). AreTold it fills.texts) told_is fills.told_are) in
        held_last ∙ fills.is ∙ ap (λ (it : List (List ℕ)). option_map (filled paths it) lent.held) finals
        ∙ ap (option_map (filled paths (texts_begun files paths texts))) (lent-held ∙ ap (option_map (out_at paths)) told)
        ∙ ap Some (filled-added paths texts files apart many)

    held-so : paths_written graph.nodes ≡ [] → last.held ≡ first.held
    held-so none =
        let empty : back.writers.items ≡ [] = empty-of back.writers.items (writers-back ∙ ap (λ (it : List Components). length it) none) in
        held_last ∙ ap (λ (state : TreeState). state.held) (returns.none empty) ∙ lent-held ∙ held-none first.held (paths_written graph.nodes) none

    kept-so : ChangesOnly (paths_written graph.nodes) first.held last.held
    kept-so =
        only-more (subst (ChangesOnly (paths_written graph.nodes) first.held) (sym lent-held) (only-out first.held (paths_written graph.nodes)))
        (only-more returns.kept (only-same held_last))

    -- the counts
    before-now : before ≤ now
    before-now = let returns_later = returns.later in omega (arith, calm_lent, returns_later, more)

    rose-returned : Rose middle later → Rose before now
    rose-returned rose = rose-later before later now (subst (λ (it : ℕ). Rose it later) calm_lent rose) more

    done-cause : (it : Result Unit WorldErr) (status : ℕ) → counts_by reader_faults writer_faults input_faults output_faults back ≡ counts_by reader_faults writer_faults input_faults output_faults over.numbered
        → OnOk it (later ≡ middle) → (IsErrOf it error.Failed → Rose middle later)
        → HasCause (done_by status it) (counts_of (input_faults input) (output_faults out) before) (counts_of (input_faults back.input) (output_faults back.out) now)
    done-cause (Ok done) status same still failed = λ i. record { input = of_it i; output = of_out i; tree = of_tree i }
      where
        of_it : input_faults back.input ≡ input_faults input
        of_it = ap (λ (counts : EndCounts). counts.input) same ∙ ap input_faults over.input_is

        of_out : output_faults back.out ≡ output_faults out
        of_out = ap (λ (counts : EndCounts). counts.output) same ∙ ap output_faults over.out_is

        of_tree : now ≡ before
        of_tree =
            calm (ap has_count (ap (λ (counts : EndCounts). counts.readers) same ∙ each-same reader_faults over.numbered.readers.items readers over.readers_are) ∙ lends.opens.fresh)
            ∙ still ∙ calm_lent
    done-cause (Err error.Failed) status same still failed = rose-returned (failed refl)
    done-cause (Err error.Memory) status same still failed = tt

    cause-so : (it : Came) → CauseOf it (counts_by reader_faults writer_faults input_faults output_faults over.numbered) (counts_by reader_faults writer_faults input_faults output_faults back)
        → HasCause (ended_by it outcome) (counts_of (input_faults input) (output_faults out) before) (counts_of (input_faults back.input) (output_faults back.out) now)
    cause-so (came.Done status) same =
        done-cause outcome status same
        (returns.calm (ap has_count (ap (λ (counts : EndCounts). counts.writers) same ∙ each-same writer_faults over.numbered.writers.items writers over.writers_are) ∙ lends.begins.fresh))
        returns.failed
    cause-so came.Input rose = subst (λ (it : I). Rose (input_faults it) (input_faults back.input)) over.input_is rose
    cause-so came.Output rose = subst (λ (it : O). Rose (output_faults it) (output_faults back.out)) over.out_is rose
    cause-so came.Reader rose =
        let earlier : before ≤ later = (let returns_later = returns.later in omega (arith, calm_lent, returns_later)) in
        rose-earlier before later now earlier (rises (risen (each_of reader_faults over.numbered.readers.items) (each_of reader_faults back.readers.items) rose))
    cause-so came.Writer rose = rose-returned (returns.rose (risen (each_of writer_faults over.numbered.writers.items) (each_of writer_faults back.writers.items) rose))
    cause-so came.Memory same = tt

    -- all that was lent is back
    lent-so : Balanced first last
    lent-so =
        given_back first (returns.out first (length back.readers.items)
        (subst (λ (it : ℕ). AreOut it first lent)
        (let of_readers = readers-back in let of_writers = writers-back in let many = lends.begins.count in omega (arith, of_readers, of_writers, many))
        (lends.begins.out first (length readers) lends.opens.out)))

    pub ran-so : Runs (graph_asks graph) first last (of_input input) (of_input back.input) (of_output out) (of_output back.out)
        (counts_of (input_faults input) (output_faults out) before) (counts_of (input_faults back.input) (output_faults back.out) now) used used' (ended_by how outcome)
    ran-so =
        record {
          output = λ text files told is_text. done-so how outcome (over.runs.leaves text (bytes_at files) (told-so text files told is_text)) (λ status left.
              left.output
              ∙ ap (λ (it : O). then_bytes (of_output it) (outcome_of graph (source_texts graph.nodes text (bytes_at files))).output) over.out_is);
          status = λ text files told is_text. done-so how outcome (over.runs.leaves text (bytes_at files) (told-so text files told is_text)) (λ status left. left.status);
          read = read-so (has_input graph.nodes) refl;
          noted = done-so how outcome over.runs.used_whole (λ status noted. noted ∙ graph-noted graph used);
          added = λ text files told is_text. done-back how outcome
              (came-so how (over.runs.leaves text (bytes_at files) (told-so text files told is_text)) (λ status left. left.writers)) returns.fills
              (added-so text files told);
          filled = done-back how outcome (came-all {P = Unit {0}} how tt) returns.fills (λ nothing fills. filled-so fills);
          part = λ text files told is_text.
              subst (λ (it : O). GrewByPrefix (of_output it) (of_output back.out) (outcome_of graph (source_texts graph.nodes text (bytes_at files))).output) over.out_is
              (over.runs.part text (bytes_at files) (told-so text files told is_text));
          held = held-so;
          kept = kept-so;
          lent = lent-so;
          later = record {
            input = let same = ap input_faults over.input_is in let more = over.runs.later_input in omega (arith, same, more);
            output = let same = ap output_faults over.out_is in let more = over.runs.later_output in omega (arith, same, more);
            tree = before-now;
          };
          cause = cause-so how over.runs.cause;
        }

-- STAGES RAN where their graph did
pub done-on : {One Other : ℕ → Type 0} (how : Ended) → ((status : ℕ) → One status → Other status) → IfDone how One → IfDone how Other
done-on (ended.Done status) next holds = next status holds
done-on ended.Input next holds = tt
done-on ended.Output next holds = tt
done-on ended.Tree next holds = tt
done-on ended.Memory next holds = tt

module _ (width : ℕ) (segment : List Stage) (from : First) (graph : Graph) (is : IsGraphOf width segment from graph) (used : Option Log) (is_width : IfSome used (λ log. width ≡ log.width))
    (tree : TreeState) (marks : (files : Files) → tree.held ≡ Some files → marks_hold (bytes_at files) segment ≡ true) where
  means-so : (text : List ℕ) (files : Files) → tree.held ≡ Some files
      → outcome_of graph (source_texts graph.nodes text (bytes_at files)) ≡ chain_means segment (begins_with from text) (bytes_at files)
  means-so text files told = is.outcome_is text (bytes_at files) (marks files told)

  stages-noted : (told : Option Log) → IfSome told (λ log. width ≡ log.width)
      → option_map (with_noted (graph_asks graph).noted) told ≡ option_map (with_noted (noted_in segment)) told
  stages-noted None at = refl
  stages-noted (Some log) at =
      ap (λ (words : List (List (List ℕ))). Some (with_words words log))
      (used-once log.width (words_used graph.nodes) ∙ is.used ∙ used-so width segment ∙ ap (λ (it : ℕ). used_at it (noted_in segment)) at)

  pub stages-ran : (tree' : TreeState) (left left' taken taken' : Option (List ℕ)) (old new : Counts) (used' : Option Log) (how : Ended)
      → Runs (graph_asks graph) tree tree' left left' taken taken' old new used used' how → Runs (segment_asks segment from) tree tree' left left' taken taken' old new used used' how
  stages-ran tree' left left' taken taken' old new used' how ran =
      record {
        output = λ text files told is_text. done-on how (λ status output. output ∙ ap (λ (it : Outcome). then_bytes taken it.output) (means-so text files told)) (ran.output text files told is_text);
        status = λ text files told is_text. done-on how (λ status so. so ∙ ap (λ (it : Outcome). it.status) (means-so text files told)) (ran.status text files told is_text);
        read = done-on how (λ status read. read ∙ ap (λ (it : Bool). left_behind it left) is.input) ran.read;
        noted = done-on how (λ status noted. noted ∙ stages-noted used is_width) ran.noted;
        added = λ text files told is_text. done-on how (λ status added.
            added
            ∙ ap (λ (it : List Components). Some (all_added it (texts_for (outcome_of graph (source_texts graph.nodes text (bytes_at files))).files) files)) is.writes
            ∙ ap (λ (it : Outcome). Some (all_added (files_written segment) (texts_for it.files) files)) (means-so text files told)) (ran.added text files told is_text);
        filled = done-on how (λ status filled. subst (λ (it : List Components). AreFilled it tree.held tree'.held) is.writes filled) ran.filled;
        part = λ text files told is_text. subst (λ (it : Outcome). GrewByPrefix taken taken' it.output) (means-so text files told) (ran.part text files told is_text);
        held = λ none. ran.held (is.writes ∙ none);
        kept = subst (λ (it : List Components). ChangesOnly it tree.held tree'.held) is.writes ran.kept;
        lent = ran.lent;
        later = ran.later;
        cause = ran.cause;
      }

-- THE FILES OF STAGES
in-there : (files : Files) (ins : List In) → AreThere files ins → AreFilesAt files (filter_map file_in ins)
in-there files [] there = tt
in-there files (inlet.Stream ∷ ins) there = in-there files ins there.1
in-there files (inlet.File path closed ∷ ins) there = (there.0, in-there files ins there.1)
in-there files (inlet.Empty ∷ ins) there = in-there files ins there.1

both-there : (files : Files) (paths others : List Components) → AreFilesAt files paths → AreFilesAt files others → AreFilesAt files (paths ++ others)
both-there files [] others there more = more
both-there files (path ∷ paths) others there more = (there.0, both-there files paths others there.1 more)

stages-there : (files : Files) (segment : List Stage) → AllThere files segment → AreFilesAt files (files_read segment)
stages-there files [] there = tt
stages-there files (stage ∷ segment) there =
    both-there files (filter_map file_in (ins_of stage)) (files_read segment) (in-there files (ins_of stage) there.0) (stages-there files segment there.1)

-- those that they read are there, and so are those that their graph reads
pub read-there : (held : Option Files) (segment : List Stage) (paths : List Components) → paths ≡ files_read segment → IfSome held (λ files. AllThere files segment)
    → IfSome held (λ files. AreFilesAt files paths)
read-there None segment paths is there = tt
read-there (Some files) segment paths is there = subst (AreFilesAt files) (sym is) (stages-there files segment there)
