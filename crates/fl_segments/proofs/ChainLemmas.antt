-- The graph of a segment is valid, has its files, and leaves what the segment means.
use Rattle.std.proofs.Common.{◌≡◌, ℕ, ◌≤◌, List, [], ◌∷◌, Bool, true, ◌&&◌, ◌==◌, Bor, length, nat_le, refl, ap, sym, subst, ◌∙◌, arith, eq-eqb}
use Rattle.std.specs.List.{flat_map, list_all, list_any}
use Rattle.std.specs.Prelude.{Result, Ok, Err, IfOk}
use Rattle.std.proofs.lemmas.Bool.{true≢false, and_from, and_parts, le-leb}
use Rattle.ps_world.specs.Paths.{Components}
use Rattle.ps_world.specs.declared.tree.Mode.{Mode}
use Rattle.ut_args.specs.Classes.{class_of}
use Rattle.ut_args.specs.Inputs.{inputs_of}
use Rattle.ut_args.specs.declared.classes.Class.{Class}
use Rattle.ut_args.specs.declared.classes.Class.TheVariants as class
use Rattle.fl_graph.specs.Kinds.{has_its_class, has_map, may_have, is_input, is_output, reads_one_input, runs_what_is_built}
use Rattle.fl_graph.specs.Paths.{ArePathsApart, path_read, path_written, paths_read, paths_written}
use Rattle.fl_graph.specs.Valid.{Valid}
use Rattle.fl_graph.specs.declared.graphs.Cell.{Cell}
use Rattle.fl_graph.specs.declared.graphs.Graph.{Graph}
use Rattle.fl_graph.specs.declared.graphs.StatusRule.{StatusRule}
use Rattle.fl_graph.specs.declared.kinds.NodeKind.{NodeKind}
use Rattle.fl_graph.specs.declared.kinds.NodeKind.TheVariants as kind
use Rattle.fl_graph.specs.declared.kinds.To.{To}
use Rattle.fl_classes.specs.Flow.{outcome, status_by as status_by_rule, to_file, to_output, writes_of}
use Rattle.fl_classes.specs.Kinds.{are_run, is_run}
use Rattle.fl_classes.specs.Sources.{source_texts}
use Rattle.fl_classes.specs.Used.{words_by as words_of_node, words_used}
use Rattle.fl_classes.proofs.KindLemmas.{runs-of_class}
use Rattle.fl_segments.specs.Chains.{begins_with, chain_means}
use Rattle.fl_segments.specs.Groups.{holds_mark, is_grouped, marks_hold}
use Rattle.fl_segments.specs.Spread.{IsSpread}
use Rattle.fl_segments.specs.Stages.{files_read, files_written, gives_output, ins_of, ins_read, is_stage, may_spread, reads_input, reads_stream, words_at}
use Rattle.fl_segments.specs.Inner.Drawing.{Step, drawn}
use Rattle.fl_segments.specs.Inner.Steps.{chain_nodes, chain_rule, chain_steps}
use Rattle.fl_segments.specs.declared.parts.Coming.TheVariants as coming
use Rattle.fl_segments.specs.declared.stages.Does.{Does}
use Rattle.fl_segments.specs.declared.stages.First.{First}
use Rattle.fl_segments.specs.declared.stages.Stage.{Stage}
use Rattle.fl_segments.proofs.DrawingLemmas.{AreBelow, AreTaken, all-drawn, any-drawn, count-drawn, edges-drawn, fits_ports, found-drawn, ports-drawn, told-drawn}
use Rattle.fl_segments.proofs.GroupLemmas.{GoesInGroups, grouped-so}
use Rattle.fl_segments.proofs.GroupedLemmas.{chain-grouped}
use Rattle.fl_segments.proofs.HoldLemmas.{chain-joins}
use Rattle.fl_segments.proofs.FoundLemmas.{Pass, shell-is, chain-all, chain-input, chain-inputs, chain-output, chain-outputs, chain-reads, chain-words, chain-writes, of-kinds}
use Rattle.fl_segments.proofs.MeaningLemmas.{told-all}
use Rattle.fl_segments.proofs.OutcomeLemmas.{chain-told}
use Rattle.fl_segments.proofs.SpreadLemmas.{chain-spread}
use Rattle.fl_segments.proofs.StageLemmas.{chain-passes, spread-class, spread-one}
use Rattle.fl_segments.proofs.StatusLemmas.{chain-named, chain-status, selected}

-- the files of a first stage that goes in groups are closed where they are marked so
abbrev pub LedSo : ℕ → List Stage → (Components → List ℕ) → Type 0
LedSo width [] files = Unit {0}
LedSo width (stage ∷ stages) files = is_grouped width true stage.does stage.ins ≡ true → list_all (holds_mark files) stage.ins ≡ true

-- none goes in groups at the width 1
pub led-narrow : (segment : List Stage) (files : Components → List ℕ) → LedSo 1 segment files
led-narrow [] files = tt
led-narrow (stage ∷ stages) files = λ is.
    let so : GoesInGroups 1 true stage.does stage.ins = grouped-so 1 true stage.does stage.ins is in let wide = so.wide in absurd (omega (arith, wide))

pub led-marked : (width : ℕ) (segment : List Stage) (files : Components → List ℕ) → marks_hold files segment ≡ true → LedSo width segment files
led-marked width [] files marks = tt
led-marked width (stage ∷ stages) files marks = λ is.
    let so : GoesInGroups width true stage.does stage.ins = grouped-so width true stage.does stage.ins is in
    sym (ap (λ (it : Does). list_all (holds_mark files) (ins_read it stage.ins)) so.runs) ∙ (and_parts (list_all (holds_mark files) (ins_of stage)) (marks_hold files stages) marks).0

-- all that is said of the graph of a segment
pub record IsChained (width : ℕ) (segment : List Stage) (begin : First) (graph : Graph) : Type 0 where
  pub valid : Valid graph.nodes graph.status
  pub kinds : are_run graph.nodes ≡ true
  pub reads : paths_read graph.nodes ≡ files_read segment
  pub writes : paths_written graph.nodes ≡ files_written segment
  pub input : list_any (λ (cell : Cell NodeKind). is_input cell.kind) graph.nodes ≡ reads_input segment begin
  pub output : list_any (λ (cell : Cell NodeKind). is_output cell.kind) graph.nodes ≡ gives_output segment
  pub outcome : (input : List ℕ) (files : Components → List ℕ) → LedSo width segment files → outcome graph (source_texts graph.nodes input files) ≡ chain_means segment (begins_with begin input) files
  pub used : words_used graph.nodes ≡ words_at width segment
  pub spread : IsSpread width segment graph.nodes

-- the ports of a node of this kind
abbrev ports_by : NodeKind → ℕ → ℕ → Bool
ports_by it ins outs = may_have it ins outs

-- a utility that is spread has a map
spread-map : (of : Class) → may_spread of ≡ true → has_map of ≡ true
spread-map (class.S seam) may = refl
spread-map class.P may = refl
spread-map class.N may = absurd (true≢false (sym may))
spread-map class.E may = absurd (true≢false (sym may))

module _ (width : ℕ) (begin : Bor First) (stage : Stage) (stages : List Stage) (is : list_all is_stage (stage ∷ stages) ≡ true) where
  abbrev segment : List Stage
  segment = stage ∷ stages

  abbrev steps : List Step
  steps = chain_steps width 0 (coming.Begins begin) (stage ∷ stages) 0

  abbrev cells : List (Cell NodeKind)
  cells = drawn 0 (chain_steps width 0 (coming.Begins begin) (stage ∷ stages) 0)

  abbrev rule : StatusRule
  rule = chain_rule (stage ∷ stages) (chain_nodes width 0 (coming.Begins begin) (stage ∷ stages) 0 0)

  -- a test of the kinds
  kinds-pass : (test : NodeKind → Bool) → Pass width (λ kind ins outs. test kind) → ((path : Components) (mode : Mode) → test (kind.TeeFile path mode) ≡ true) → ((sink : To) → test (kind.Sink sink) ≡ true)
      → list_all (λ (it : Step). test it.kind) steps ≡ true
  kinds-pass test pass tee sink = chain-all width (λ kind ins outs. test kind) pass tee sink 0 (coming.Begins begin) segment 0 is tt

  run-all : list_all (λ (it : Step). is_run it.kind) steps ≡ true
  run-all = kinds-pass is_run (of-kinds width is_run (λ text. refl) (λ close. refl) refl (λ source. refl) (λ inv built. refl) refl (λ inv built spread. refl) (λ inv built spread folds. runs-of_class (kind.Agg inv) folds) (λ inv built spread folds. refl)) (λ path mode. refl) (λ sink. refl)

  inputs-all : list_all (λ (it : Step). reads_one_input it.kind) steps ≡ true
  inputs-all = kinds-pass reads_one_input (of-kinds width reads_one_input (λ text. refl) (λ close. refl) refl (λ source. refl) (λ inv built. refl) refl (λ inv built spread. eq-eqb (inputs_of inv) 1 (spread-one width inv spread)) (λ inv built spread folds. eq-eqb (inputs_of inv) 1 (spread-one width inv spread)) (λ inv built spread folds. refl)) (λ path mode. refl) (λ sink. refl)

  classes-all : list_all (λ (it : Step). has_its_class it.kind) steps ≡ true
  classes-all = kinds-pass has_its_class (of-kinds width has_its_class (λ text. refl) (λ close. refl) refl (λ source. refl) (λ inv built. refl) refl (λ inv built spread. spread-map (class_of inv) (spread-class width inv spread)) (λ inv built spread folds. folds) (λ inv built spread folds. folds)) (λ path mode. refl) (λ sink. refl)

  built-all : list_all (λ (it : Step). runs_what_is_built it.kind) steps ≡ true
  built-all = kinds-pass runs_what_is_built (of-kinds width runs_what_is_built (λ text. refl) (λ close. refl) refl (λ source. refl) (λ inv built. built) refl (λ inv built spread. built) (λ inv built spread folds. built) (λ inv built spread folds. built)) (λ path mode. refl) (λ sink. refl)

  ports-pass : Pass width ports_by
  ports-pass = record {
    text = λ text. refl;
    cat = λ close count some. and_from (nat_le 1 count) true (le-leb 1 count some) refl;
    drain = refl;
    source = λ source. refl;
    whole = λ inv count built inputs. and_from (count == inputs_of inv) true (eq-eqb count (inputs_of inv) (sym inputs)) refl;
    split = λ wide. le-leb 1 width (omega (arith, wide));
    map = λ inv built spread. refl;
    agg = λ inv built spread folds. refl;
    finish = λ inv built spread folds. refl;
  }

  ports-all : list_all fits_ports steps ≡ true
  ports-all = chain-all width ports_by ports-pass (λ path mode. refl) (λ sink. refl) 0 (coming.Begins begin) segment 0 is tt

  -- the edges
  taken-all : AreTaken steps
  taken-all edge = (let here = (chain-passes width 0 (coming.Begins begin) stage stages 0 is).turns edge in omega (arith, here))

  below-all : AreBelow 0 steps
  below-all = (chain-passes width 0 (coming.Begins begin) stage stages 0 is).below refl

  -- the files
  reads-are : paths_read cells ≡ files_read segment
  reads-are = found-drawn path_read 0 steps ∙ chain-reads width 0 (coming.Begins begin) segment 0 is tt

  writes-are : paths_written cells ≡ files_written segment
  writes-are = found-drawn path_written 0 steps ∙ chain-writes width 0 (coming.Begins begin) segment 0 is tt

  chain-valid : ArePathsApart (files_read segment) (files_written segment) → Valid cells rule
  chain-valid apart = record {
    edges = edges-drawn steps below-all taken-all;
    ports = ports-drawn 0 steps ∙ ports-all;
    ends = record {
      input = subst (λ (count : ℕ). count ≤ 1) (sym (count-drawn is_input 0 steps)) (chain-inputs width 0 (coming.Begins begin) segment 0 is tt);
      output = subst (λ (count : ℕ). count ≤ 1) (sym (count-drawn is_output 0 steps)) (chain-outputs width 0 (coming.Begins begin) segment 0 is tt);
    };
    inputs = all-drawn reads_one_input 0 steps ∙ inputs-all;
    classes = all-drawn has_its_class 0 steps ∙ classes-all;
    built = all-drawn runs_what_is_built 0 steps ∙ built-all;
    maps = chain-joins width (coming.Begins begin) stage stages is refl below-all;
    paths = subst (λ (read : List Components). ArePathsApart read (paths_written cells)) (sym reads-are) (subst (ArePathsApart (files_read segment)) (sym writes-are) apart);
    named = chain-named width [] 0 (coming.Begins begin) stage stages 0;
  }

  -- what it leaves
  chain-leaves : (input : List ℕ) (files : Components → List ℕ) → LedSo width (stage ∷ stages) files → outcome (record { nodes = cells; status = rule }) (source_texts cells input files) ≡ chain_means segment (begins_with begin.now input) files
  chain-leaves input files marks =
      let sources : List (List ℕ) = source_texts cells input files in
      let told = chain-told input files width 0 (coming.Begins begin) stage stages [] (begins_with begin.now input) is tt refl (tt, marks) (λ reads. refl) in
      let status = chain-status input files width [] 0 (coming.Begins begin) stage stages [] (begins_with begin.now input) is tt refl (tt, marks) (λ reads. refl) in
      λ i. record {
        output = (ap (flat_map to_output) (told-all input files writes_of steps below-all ports-all) ∙ told.0) i;
        files = (ap (flat_map to_file) (told-all input files writes_of steps below-all ports-all) ∙ told.1) i;
        status = (ap (status_by_rule rule) (told-all input files (selected input files) steps below-all ports-all) ∙ status) i;
      }

pub chained : (width : ℕ) (begin : Bor First) (stage : Stage) (stages : List Stage) (graph : Graph) → list_all is_stage (stage ∷ stages) ≡ true → ArePathsApart (files_read (stage ∷ stages)) (files_written (stage ∷ stages))
    → graph.nodes ≡ drawn 0 (chain_steps width 0 (coming.Begins begin) (stage ∷ stages) 0) → graph.status ≡ chain_rule (stage ∷ stages) (chain_nodes width 0 (coming.Begins begin) (stage ∷ stages) 0 0)
    → IsChained width (stage ∷ stages) begin.now graph
chained width begin stage stages graph is apart nodes rule =
    let all : List Step = chain_steps width 0 (coming.Begins begin) (stage ∷ stages) 0 in
    let status : StatusRule = chain_rule (stage ∷ stages) (chain_nodes width 0 (coming.Begins begin) (stage ∷ stages) 0 0) in
    record {
      valid = subst (λ (cells : List (Cell NodeKind)). Valid cells graph.status) (sym nodes) (subst (Valid (drawn 0 all)) (sym rule) (chain-valid width begin stage stages is apart));
      kinds = ap are_run nodes ∙ all-drawn is_run 0 all ∙ run-all width begin stage stages is;
      reads = ap paths_read nodes ∙ reads-are width begin stage stages is;
      writes = ap paths_written nodes ∙ writes-are width begin stage stages is;
      input = ap (list_any (λ (cell : Cell NodeKind). is_input cell.kind)) nodes ∙ any-drawn is_input 0 all ∙ chain-input width 0 (coming.Begins begin) (stage ∷ stages) 0 is tt
          ∙ ap (λ (shell : Bool). shell && reads_stream (stage ∷ stages)) (shell-is width begin.now);
      output = ap (list_any (λ (cell : Cell NodeKind). is_output cell.kind)) nodes ∙ any-drawn is_output 0 all ∙ chain-output width 0 (coming.Begins begin) (stage ∷ stages) 0 is tt;
      outcome = λ input files marks.
          ap (λ (cells : List (Cell NodeKind)). outcome (record { nodes = cells; status = graph.status }) (source_texts cells input files)) nodes
          ∙ ap (λ (rule : StatusRule). outcome (record { nodes = drawn 0 all; status = rule }) (source_texts (drawn 0 all) input files)) rule
          ∙ chain-leaves width begin stage stages is input files marks;
      used = ap words_used nodes ∙ told-drawn words_of_node 0 all ∙ chain-words width 0 (coming.Begins begin) (stage ∷ stages) 0 is tt;
      spread = subst (IsSpread width (stage ∷ stages)) (sym nodes) (chain-spread width (coming.Begins begin) stage stages refl is tt (chain-grouped width begin stage stages));
    }

-- so it is of what is answered
pub chained_if : {Refused : Type 0} (width : ℕ) (result : Result Graph Refused) (begin : Bor First) (segment : List Stage) → 1 ≤ length segment → list_all is_stage segment ≡ true
    → ArePathsApart (files_read segment) (files_written segment)
    → IfOk result (λ graph. graph.nodes ≡ drawn 0 (chain_steps width 0 (coming.Begins begin) segment 0)) → IfOk result (λ graph. graph.status ≡ chain_rule segment (chain_nodes width 0 (coming.Begins begin) segment 0 0))
    → IfOk result (IsChained width segment begin.now)
chained_if width (Err refused) begin segment some stages apart nodes rule = tt
chained_if width (Ok graph) begin [] some stages apart nodes rule = absurd (omega (arith, some))
chained_if width (Ok graph) begin (stage ∷ others) some stages apart nodes rule = chained width begin stage others graph stages apart nodes rule

pub if_ok : {Value Refused : Type 0} {One Other : Value → Type 0} (result : Result Value Refused) → IfOk result One → ((value : Value) → One value → Other value) → IfOk result Other
if_ok (Ok value) is next = next value is
if_ok (Err refused) is next = tt
