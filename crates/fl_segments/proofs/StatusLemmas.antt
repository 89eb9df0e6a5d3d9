-- The status of a segment is that of its last stage: where this is grep, its nodes are named, and one of them has selected what the stage means.
use Rattle.std.proofs.Common.{◌≡◌, ℕ, suc, ◌+◌, ◌≤◌, ◌==◌, List, [], ◌∷◌, ◌++◌, Bool, true, false, ◌||◌, if◌then◌else◌, get_or, length, map, nat_lt, slice_get, Option, Some, refl, ap, sym, subst, ◌∙◌, append-nil, append_assoc, length-append, arith}
use Rattle.std.specs.List.{concat, list_all, list_any, range_with_len}
use Rattle.std.specs.Option.{option_map_or}
use Rattle.std.proofs.lemmas.Bool.{true≢false, and_from, and_parts, leb-true}
use Rattle.ps_lines.specs.Lines.{is_cutlist}
use Rattle.ps_world.specs.Paths.{Components}
use Rattle.ut_args.specs.Classes.{class_of}
use Rattle.ut_args.specs.declared.classes.Class.{Class}
use Rattle.ut_args.specs.declared.classes.Class.TheVariants as class
use Rattle.ut_args.specs.declared.classes.Seam.{Seam}
use Rattle.ut_args.specs.declared.classes.Seam.TheVariants as seam
use Rattle.ut_args.specs.declared.invocations.GrepInv.{GrepInv}
use Rattle.ut_args.specs.declared.invocations.Inv.{Inv}
use Rattle.ut_args.specs.declared.invocations.Inv.TheVariants as inv
use Rattle.fl_graph.specs.Kinds.{is_grep, selects_lines}
use Rattle.fl_graph.specs.Valid.{names_selector, nodes_named}
use Rattle.fl_graph.specs.declared.graphs.Cell.{Cell}
use Rattle.fl_graph.specs.declared.graphs.StatusRule.{StatusRule}
use Rattle.fl_graph.specs.declared.graphs.StatusRule.TheVariants as ruled
use Rattle.fl_graph.specs.declared.kinds.NodeKind.{NodeKind}
use Rattle.fl_graph.specs.declared.kinds.NodeKind.TheVariants as kind
use Rattle.fl_classes.specs.Flow.{Outcome, selects, status_by as status_by_rule}
use Rattle.fl_classes.specs.Laws.{IsOfClass, SelectsByParts}
use Rattle.fl_classes.specs.Utilities.{selects_of}
use Rattle.fl_classes.proofs.ClassLemmas.{is-of-class, or-none}
use Rattle.fl_classes.proofs.CutLemmas.{cut-first, cut-rest}
use Rattle.fl_segments.specs.Chains.{chain_means, grep_status, is_quiet, stage_means, status_by, text_in, texts_read}
use Rattle.fl_segments.specs.Stages.{ins_read, is_reader, is_spread, is_stage, is_stream, may_spread}
use Rattle.fl_segments.specs.Inner.Drawing.{Step, step, drawn, behind, next_of}
use Rattle.fl_segments.specs.Inner.Steps.{begins, beside_steps, chain_nodes, chain_rule, chain_steps, comes_behind, comes_cut, does_nodes, does_steps, done_next, done_parts, done_steps, earlier_steps, end_edge, end_next, front_edges, front_next, front_steps, grep_rule, last_steps, main_nodes, main_parts, map_steps, out_steps, rule_by, split_cut, split_edges, split_steps, takes_any, util_nodes, util_steps, whole_steps, spread_steps, fold_steps, mapped_steps, mapped_edges, stage_steps}
use Rattle.fl_segments.specs.declared.parts.Coming.{Coming}
use Rattle.fl_segments.specs.declared.stages.Does.{Does}
use Rattle.fl_segments.specs.declared.stages.Does.TheVariants as does
use Rattle.fl_segments.specs.declared.stages.Stage.{Stage}
use Rattle.fl_segments.proofs.ComingLemmas.{MayCome, goes-may}
use Rattle.fl_segments.proofs.DrawingLemmas.{all-drawn, drawn-append}
use Rattle.fl_segments.proofs.MeaningLemmas.{text_at, texts-append, texts_behind, texts_on, texts-count, told_from, told-append}
use Rattle.fl_segments.proofs.OutcomeLemmas.{FrontReads, OneInput, Parted, Ready, earlier-goes, edges-keep, front-reads, ins-same, split-below, split-parted, stream_text}
use Rattle.fl_segments.proofs.RowLemmas.{get-here}
use Rattle.fl_segments.proofs.FitLemmas.{few-streams}
use Rattle.fl_segments.proofs.StageLemmas.{AllBelow, all-more, front-passes, open_coming, split-count, spread-class, spread-wide}

-- what stands behind a list's front
slice-here : {Value : Type 0} (front rest : List Value) (value : Value) → slice_get (front ++ value ∷ rest) (length front) ≡ Some value
slice-here [] rest value = refl
slice-here (first ∷ front) rest value = slice-here front rest value

pub drawn-length : (next : ℕ) (steps : List Step) → length (drawn next steps) ≡ length steps
drawn-length next [] = refl
drawn-length next (it ∷ steps) = ap (λ (size : ℕ). suc size) (drawn-length (next_of it.outs next) steps)

by-grep : (Says : Inv → Type 0) (it : Inv) → is_grep it ≡ true → ((grep : GrepInv) → Says (inv.Grep grep)) → Says it
by-grep Says (inv.Grep grep) is says = says grep
by-grep Says other is says = absurd (true≢false (sym is))

-- THE NODES OF THE LAST STAGE'S GREP
-- what stands before its maps or its whole, and these
module _ (width number : ℕ) (grep : GrepInv) (edges : List ℕ) where
  abbrev heads : List Step
  heads = if is_spread width (inv.Grep grep) then split_steps width number edges else []

  abbrev mids : ℕ → List Step
  mids next = if is_spread width (inv.Grep grep) then map_steps number (inv.Grep grep) (split_edges width edges next) else step (kind.Whole (inv.Grep grep)) edges number ∷ []

  -- what is made of the maps
  abbrev tails : ℕ → List Step
  tails next =
      if is_spread width (inv.Grep grep)
      then fold_steps number (inv.Grep grep) (mapped_edges width number (inv.Grep grep) edges next) (behind next (mapped_steps width number (inv.Grep grep) edges next)) else []

  maps-length : (edges : List ℕ) → length (map_steps number (inv.Grep grep) edges) ≡ length edges
  maps-length [] = refl
  maps-length (edge ∷ edges) = ap suc (maps-length edges)

  maps-select : (edges : List ℕ) → list_all (λ (it : Step). selects_lines it.kind) (map_steps number (inv.Grep grep) edges) ≡ true
  maps-select [] = refl
  maps-select (edge ∷ edges) = maps-select edges

  done-is : (leads : Bool) (next : ℕ) → util_steps width number leads (inv.Grep grep) edges next ≡ heads ++ (mids next ++ tails next)
  done-is leads next = by_test (is_spread width (inv.Grep grep))
    where
      by_test : (spread : Bool)
          → (if spread then spread_steps width number (inv.Grep grep) edges next else step (kind.Whole (inv.Grep grep)) edges number ∷ [])
          ≡ (if spread then split_steps width number edges else []) ++ ((if spread then map_steps number (inv.Grep grep) (split_edges width edges next) else step (kind.Whole (inv.Grep grep)) edges number ∷ [])
          ++ (if spread then fold_steps number (inv.Grep grep) (mapped_edges width number (inv.Grep grep) edges next) (behind next (mapped_steps width number (inv.Grep grep) edges next)) else []))
      by_test true =
          append_assoc (split_steps width number edges) (map_steps number (inv.Grep grep) (split_edges width edges next))
          (fold_steps number (inv.Grep grep) (mapped_edges width number (inv.Grep grep) edges next) (behind next (mapped_steps width number (inv.Grep grep) edges next)))
      by_test false = refl

  nodes-are : (leads : Bool) (next before : ℕ) → util_nodes width number leads (inv.Grep grep) edges before ≡ range_with_len (before + length heads) (length (mids next))
  nodes-are leads next before = by_test (is_spread width (inv.Grep grep))
    where
      by_test : (spread : Bool)
          → (if spread then range_with_len (before + length (split_steps width number edges)) width else before ∷ [])
          ≡ range_with_len (before + length (if spread then split_steps width number edges else []))
          (length (if spread then map_steps number (inv.Grep grep) (split_edges width edges next) else step (kind.Whole (inv.Grep grep)) edges number ∷ []))
      by_test true =
          ap (range_with_len (before + length (split_steps width number edges))) (sym (maps-length (split_edges width edges next) ∙ split-count width edges next))
      by_test false = let none : before ≡ before + 0 = omega arith in ap (λ (from : ℕ). from ∷ []) none

  mids-select : (next : ℕ) → list_all (λ (it : Step). selects_lines it.kind) (mids next) ≡ true
  mids-select next = by_test (is_spread width (inv.Grep grep))
    where
      by_test : (spread : Bool)
          → list_all (λ (it : Step). selects_lines it.kind) (if spread then map_steps number (inv.Grep grep) (split_edges width edges next) else step (kind.Whole (inv.Grep grep)) edges number ∷ []) ≡ true
      by_test true = maps-select (split_edges width edges next)
      by_test false = refl

module _ (width number : ℕ) (comes : Coming) (stage : Stage) (next : ℕ) (grep : GrepInv) (same : stage.does ≡ does.Util (inv.Grep grep)) where
  abbrev edges : List ℕ
  edges = front_edges number comes stage next

  abbrev head_steps : List Step
  head_steps = front_steps number comes stage next ++ heads width number grep (front_edges number comes stage next)

  abbrev mid_steps : List Step
  mid_steps = mids width number grep (front_edges number comes stage next) (front_next number comes stage next)

  abbrev back_steps : List Step
  back_steps =
      tails width number grep (front_edges number comes stage next) (front_next number comes stage next)
      ++ (beside_steps number stage.does stage.tees stage.first (done_parts width number comes stage next) (done_next width number comes stage next)
      ++ (whole_steps number (main_parts width number comes stage next).edges ++ out_steps number stage.out stage.piped (end_edge width number comes stage next) (end_next width number comes stage next)))

  last-is : last_steps width number comes stage next ≡ head_steps ++ (mid_steps ++ back_steps)
  last-is =
      let front : List Step = front_steps number comes stage next in
      let done : List Step = done_steps width number comes stage next in
      let besides : List Step = beside_steps number stage.does stage.tees stage.first (done_parts width number comes stage next) (done_next width number comes stage next) in
      let outs : List Step = whole_steps number (main_parts width number comes stage next).edges ++ out_steps number stage.out stage.piped (end_edge width number comes stage next) (end_next width number comes stage next) in
      let head : List Step = heads width number grep edges in
      let tail : List Step = tails width number grep edges (front_next number comes stage next) in
      append_assoc front (done ++ besides) outs ∙ ap (λ (rest : List Step). front ++ rest) (append_assoc done besides outs)
      ∙ ap (λ (done : List Step). front ++ (done ++ (besides ++ outs)))
      (ap (λ (it : Does). stage_steps width number (begins comes) it stage.ins stage.first edges (front_next number comes stage next)) same ∙ done-is width number grep edges (begins comes) (front_next number comes stage next))
      ∙ ap (λ (rest : List Step). front ++ rest) (append_assoc head (mid_steps ++ tail) (besides ++ outs) ∙ ap (λ (rest : List Step). head ++ rest) (append_assoc mid_steps tail (besides ++ outs)))
      ∙ sym (append_assoc front head (mid_steps ++ (tail ++ (besides ++ outs))))

  nodes-is : (before : ℕ) → main_nodes width number comes stage next before ≡ range_with_len (before + length head_steps) (length mid_steps)
  nodes-is before =
      let front : List Step = front_steps number comes stage next in
      let head : List Step = heads width number grep edges in
      let size : (before + length front) + length head ≡ before + length (front ++ head) = (let all = length-append front head in omega (arith, all)) in
      ap (λ (it : Does). does_nodes width number (begins comes) it edges (before + length front)) same
      ∙ nodes-are width number grep edges (begins comes) (front_next number comes stage next) (before + length front)
      ∙ ap (λ (from : ℕ). range_with_len from (length mid_steps)) size

-- ITS NODES ARE NAMED
named-here : (front back : List (Cell NodeKind)) (cell : Cell NodeKind) → selects_lines cell.kind ≡ true → names_selector (front ++ cell ∷ back) (length front) ≡ true
named-here front back cell is = ap (λ (found : Option (Cell NodeKind)). option_map_or (λ (cell : Cell NodeKind). selects_lines cell.kind) found false) (slice-here front back cell) ∙ is

named-row : (front mid back : List (Cell NodeKind)) → list_all (λ (cell : Cell NodeKind). selects_lines cell.kind) mid ≡ true
    → list_all (names_selector (front ++ (mid ++ back))) (range_with_len (length front) (length mid)) ≡ true
named-row front [] back all = refl
named-row front (cell ∷ mid) back all =
    let parts = and_parts (selects_lines cell.kind) (list_all (λ (cell : Cell NodeKind). selects_lines cell.kind) mid) all in
    let whole : (front ++ cell ∷ []) ++ (mid ++ back) ≡ front ++ (cell ∷ (mid ++ back)) = append_assoc front (cell ∷ []) (mid ++ back) in
    let size : length (front ++ cell ∷ []) ≡ length front + 1 = length-append front (cell ∷ []) in
    and_from (names_selector (front ++ (cell ∷ (mid ++ back))) (length front)) (list_all (names_selector (front ++ (cell ∷ (mid ++ back)))) (range_with_len (length front + 1) (length mid)))
    (named-here front (mid ++ back) cell parts.0)
    (ap (λ (cells : List (Cell NodeKind)). list_all (names_selector cells) (range_with_len (length front + 1) (length mid))) (sym whole)
    ∙ ap (λ (from : ℕ). list_all (names_selector ((front ++ cell ∷ []) ++ (mid ++ back))) (range_with_len from (length mid))) (sym size)
    ∙ named-row (front ++ cell ∷ []) mid back parts.1)

rule-named : (cells : List (Cell NodeKind)) (quiet : Bool) (status : ℕ) (nodes : List ℕ) → list_all (names_selector cells) nodes ≡ true → list_all (names_selector cells) (nodes_named (grep_rule quiet status nodes)) ≡ true
rule-named cells quiet status nodes named = by_test (status == 0) quiet
  where
    by_test : (zero quiet : Bool) → list_all (names_selector cells) (nodes_named (if zero then ruled.Selected nodes 0 1 else if quiet then ruled.Selected nodes 0 status else ruled.Fixed status)) ≡ true
    by_test true quiet = named
    by_test false true = named
    by_test false false = refl

last-named : (width : ℕ) (before : List (Cell NodeKind)) (number : ℕ) (comes : Coming) (stage : Stage) (next : ℕ)
    → list_all (names_selector (before ++ drawn next (last_steps width number comes stage next))) (nodes_named (rule_by stage.does stage.status (main_nodes width number comes stage next (length before)))) ≡ true
last-named width before number comes stage next = by_does stage.does refl
  where
    grep_named : (grep : GrepInv) → stage.does ≡ does.Util (inv.Grep grep)
        → list_all (names_selector (before ++ drawn next (last_steps width number comes stage next))) (main_nodes width number comes stage next (length before)) ≡ true
    grep_named grep same =
        let first : List Step = head_steps width number comes stage next grep same in
        let mid : List Step = mid_steps width number comes stage next grep same in
        let rest : List Step = back_steps width number comes stage next grep same in
        let there : ℕ = behind next first in
        let front : List (Cell NodeKind) = before ++ drawn next first in
        let cells : List (Cell NodeKind) = drawn there mid in
        let back : List (Cell NodeKind) = drawn (behind there mid) rest in
        let split : before ++ drawn next (last_steps width number comes stage next) ≡ front ++ (cells ++ back) =
        ap (λ (steps : List Step). before ++ drawn next steps) (last-is width number comes stage next grep same)
        ∙ ap (λ (cells : List (Cell NodeKind)). before ++ cells) (drawn-append next first (mid ++ rest) ∙ ap (λ (more : List (Cell NodeKind)). drawn next first ++ more) (drawn-append there mid rest))
        ∙ sym (append_assoc before (drawn next first) (cells ++ back)) in
        let size : length before + length first ≡ length front = sym (length-append before (drawn next first) ∙ ap (λ (count : ℕ). length before + count) (drawn-length next first)) in
        ap (λ (cells : List (Cell NodeKind)). list_all (names_selector cells) (main_nodes width number comes stage next (length before))) split
        ∙ ap (list_all (names_selector (front ++ (cells ++ back))))
        (nodes-is width number comes stage next grep same (length before) ∙ ap (λ (from : ℕ). range_with_len from (length mid)) size ∙ ap (range_with_len (length front)) (sym (drawn-length there mid)))
        ∙ named-row front cells back
        (all-drawn selects_lines there mid ∙ mids-select width number grep (front_edges number comes stage next) (front_next number comes stage next))

    by_grep : (inv : Inv) → stage.does ≡ does.Util inv → (grep : Bool) → is_grep inv ≡ grep
        → list_all (names_selector (before ++ drawn next (last_steps width number comes stage next)))
        (nodes_named (if grep then grep_rule (is_quiet inv) stage.status (main_nodes width number comes stage next (length before)) else ruled.Fixed stage.status)) ≡ true
    by_grep inv same false grep = refl
    by_grep inv same true grep =
        rule-named (before ++ drawn next (last_steps width number comes stage next)) (is_quiet inv) stage.status (main_nodes width number comes stage next (length before))
        (by-grep (λ it. stage.does ≡ does.Util it → list_all (names_selector (before ++ drawn next (last_steps width number comes stage next))) (main_nodes width number comes stage next (length before)) ≡ true) inv grep
        grep_named same)

    by_does : (it : Does) → stage.does ≡ it
        → list_all (names_selector (before ++ drawn next (last_steps width number comes stage next))) (nodes_named (rule_by it stage.status (main_nodes width number comes stage next (length before)))) ≡ true
    by_does does.Skip same = refl
    by_does (does.Util inv) same = by_grep inv same (is_grep inv) refl

pub chain-named : (width : ℕ) (before : List (Cell NodeKind)) (number : ℕ) (comes : Coming) (stage : Stage) (stages : List Stage) (next : ℕ)
    → list_all (names_selector (before ++ drawn next (chain_steps width number comes (stage ∷ stages) next))) (nodes_named (chain_rule (stage ∷ stages) (chain_nodes width number comes (stage ∷ stages) next (length before)))) ≡ true
chain-named width before number comes stage [] next = last-named width before number comes stage next
chain-named width before number comes stage (following ∷ stages) next =
    let here : List Step = earlier_steps width number comes stage next following in
    let on : Coming = comes_behind width number comes stage next following in
    let there : ℕ = behind next here in
    let rest : List Step = chain_steps width (number + 1) on (following ∷ stages) there in
    let nodes : ℕ → List ℕ = chain_nodes width (number + 1) on (following ∷ stages) there in
    let split : before ++ drawn next (here ++ rest) ≡ (before ++ drawn next here) ++ drawn there rest =
    ap (λ (cells : List (Cell NodeKind)). before ++ cells) (drawn-append next here rest) ∙ sym (append_assoc before (drawn next here) (drawn there rest)) in
    let size : length before + length here ≡ length (before ++ drawn next here) =
    (let all = length-append before (drawn next here) in let count = drawn-length next here in omega (arith, all, count)) in
    ap (λ (cells : List (Cell NodeKind)). list_all (names_selector cells) (nodes_named (chain_rule (following ∷ stages) (nodes (length before + length here))))) split
    ∙ ap (λ (place : ℕ). list_all (names_selector ((before ++ drawn next here) ++ drawn there rest)) (nodes_named (chain_rule (following ∷ stages) (nodes place)))) size
    ∙ chain-named width (before ++ drawn next here) (number + 1) on following stages there

-- ITS STATUS
abbrev rule_with : ℕ → List ℕ → Bool → Bool → StatusRule
rule_with status nodes is_zero quiet = if is_zero then ruled.Selected nodes 0 1 else if quiet then ruled.Selected nodes 0 status else ruled.Fixed status

abbrev status_with : ℕ → Bool → Bool → Bool → ℕ
status_with status is_zero quiet selected = if selected then (if is_zero || quiet then 0 else status) else (if is_zero then 1 else status)

grep-status : (quiet : Bool) (status : ℕ) (nodes : List ℕ) (told : List Bool) (selected : Bool) → list_any (λ node. get_or told node false) nodes ≡ selected
    → status_by_rule (grep_rule quiet status nodes) told ≡ grep_status quiet status selected
grep-status quiet status nodes told selected is = by_rule (status == 0) quiet selected is ∙ sym (meant selected)
  where
    meant : (selected : Bool) → grep_status quiet status selected ≡ status_with status (status == 0) quiet selected
    meant true = refl
    meant false = refl

    by_rule : (zero quiet selected : Bool) → list_any (λ node. get_or told node false) nodes ≡ selected → status_by_rule (rule_with status nodes zero quiet) told ≡ status_with status zero quiet selected
    by_rule true quiet true is = ap (λ (found : Bool). if found then 0 else 1) is
    by_rule true quiet false is = ap (λ (found : Bool). if found then 0 else 1) is
    by_rule false true true is = ap (λ (found : Bool). if found then 0 else status) is
    by_rule false true false is = ap (λ (found : Bool). if found then 0 else status) is
    by_rule false false true is = refl
    by_rule false false false is = refl

-- one of a row that stands among others holds
any-row : (front mid back : List Bool) → list_any (λ node. get_or (front ++ (mid ++ back)) node false) (range_with_len (length front) (length mid)) ≡ list_any (λ it. it) mid
any-row front [] back = refl
any-row front (it ∷ mid) back =
    let whole : (front ++ it ∷ []) ++ (mid ++ back) ≡ front ++ (it ∷ (mid ++ back)) = append_assoc front (it ∷ []) (mid ++ back) in
    let size : length (front ++ it ∷ []) ≡ length front + 1 = length-append front (it ∷ []) in
    ap (λ (here : Bool). here || list_any (λ node. get_or (front ++ (it ∷ (mid ++ back))) node false) (range_with_len (length front + 1) (length mid))) (get-here front (mid ++ back) it false)
    ∙ ap (λ (rest : Bool). it || rest)
    (ap (λ (all : List Bool). list_any (λ node. get_or all node false) (range_with_len (length front + 1) (length mid))) (sym whole)
    ∙ ap (λ (from : ℕ). list_any (λ node. get_or ((front ++ it ∷ []) ++ (mid ++ back)) node false) (range_with_len from (length mid))) (sym size)
    ∙ any-row (front ++ it ∷ []) mid back)

-- something is selected in a text where it is in one of the parts
abbrev AllCut : Seam → List (List ℕ) → Type 0
AllCut seam.Bytes texts = Unit {0}
AllCut seam.Lines texts = is_cutlist texts ≡ true

any-selects : (inv : Inv) (seam : Seam) → SelectsByParts seam inv → (text : List ℕ) (texts : List (List ℕ)) → AllCut seam (text ∷ texts)
    → list_any (λ part. selects_of inv (part ∷ [])) (text ∷ texts) ≡ selects_of inv (concat (text ∷ texts) ∷ [])
any-selects inv seam law text [] cut = or-none (selects_of inv (text ∷ [])) ∙ ap (λ (whole : List ℕ). selects_of inv (whole ∷ [])) (sym (append-nil text))
any-selects inv seam.Bytes law text (next ∷ texts) cut =
    ap (λ (rest : Bool). selects_of inv (text ∷ []) || rest) (any-selects inv seam.Bytes law next texts tt) ∙ sym (law text (concat (next ∷ texts)) tt)
any-selects inv seam.Lines law text (next ∷ texts) cut =
    ap (λ (rest : Bool). selects_of inv (text ∷ []) || rest) (any-selects inv seam.Lines law next texts (cut-rest text (next ∷ texts) cut))
    ∙ sym (law text (concat (next ∷ texts)) (cut-first text (next ∷ texts) cut))

parted-selects : (inv : Inv) (text : List ℕ) (texts : List (List ℕ)) (cut : Bool) → may_spread (class_of inv) ≡ true → 1 ≤ length texts → Parted inv text texts cut
    → list_any (λ part. selects_of inv (part ∷ [])) texts ≡ selects_of inv (text ∷ [])
parted-selects inv text [] cut may some parted = absurd (omega (arith, some))
parted-selects inv text (first ∷ texts) cut may some parted = by_class (class_of inv) refl (is-of-class inv)
  where
    by_class : (of : Class) → class_of inv ≡ of → IsOfClass of inv → list_any (λ part. selects_of inv (part ∷ [])) (first ∷ texts) ≡ selects_of inv (text ∷ [])
    by_class (class.S seam.Bytes) is law = any-selects inv seam.Bytes law.selects first texts tt ∙ ap (λ (whole : List ℕ). selects_of inv (whole ∷ [])) parted.whole
    by_class (class.S seam.Lines) is law =
        let cut_is : cut ≡ true = sym (or-none cut) ∙ ap (λ (of : Class). cut || takes_any of) (sym is) ∙ parted.may in
        any-selects inv seam.Lines law.selects first texts (parted.is_cut cut_is) ∙ ap (λ (whole : List ℕ). selects_of inv (whole ∷ [])) parted.whole
    by_class class.P is law =
        let cut_is : cut ≡ true = sym (or-none cut) ∙ ap (λ (of : Class). cut || takes_any of) (sym is) ∙ parted.may in
        any-selects inv seam.Lines law.selects first texts (parted.is_cut cut_is) ∙ ap (λ (whole : List ℕ). selects_of inv (whole ∷ [])) parted.whole
    by_class class.N is law = absurd (true≢false (sym (sym (ap may_spread is) ∙ may)))
    by_class class.E is law = absurd (true≢false (sym (sym (ap may_spread is) ∙ may)))

module _ (input : List ℕ) (files : Components → List ℕ) where
  abbrev pub selected : NodeKind → List (List ℕ) → List Bool
  selected it ins = selects it ins ∷ []

  abbrev pub told_selected : List (List ℕ) → List Step → List Bool
  told_selected texts steps = told_from input files selected texts steps

  one-each : (texts : List (List ℕ)) (steps : List Step) → length (told_selected texts steps) ≡ length steps
  one-each texts [] = refl
  one-each texts (it ∷ steps) = ap (λ (size : ℕ). suc size) (one-each (texts_on input files texts it) steps)

  -- what maps select
  maps-told : (number : ℕ) (inv : Inv) (edges : List ℕ) (texts : List (List ℕ)) → AllBelow (length texts) edges
      → list_any (λ it. it) (told_selected texts (map_steps number inv edges)) ≡ list_any (λ part. selects_of inv (part ∷ [])) (map (text_at texts) edges)
  maps-told number inv [] texts all = refl
  maps-told number inv (edge ∷ edges) texts all =
      let parts = and_parts (nat_lt edge (length texts)) (list_all (λ edge. nat_lt edge (length texts)) edges) all in
      let it : Step = step (kind.Map inv) (edge ∷ []) number in
      let on : List (List ℕ) = texts_behind input files texts (it ∷ []) in
      let size : length on ≡ length texts + 1 = texts-count input files texts (it ∷ []) in
      ap (λ (rest : Bool). selects_of inv (text_at texts edge ∷ []) || rest)
      (maps-told number inv edges on (all-more (length texts) (length on) (omega (arith, size)) edges parts.1)
      ∙ ap (list_any (λ part. selects_of inv (part ∷ []))) (edges-keep input files texts (it ∷ []) edges parts.1))

  module _ (width : ℕ) (before : List Bool) (number : ℕ) (comes : Coming) (stage : Stage) (texts : List (List ℕ)) (stream : List ℕ) (is : is_stage stage ≡ true) (may : MayCome width comes stage)
      (all : AllBelow (length texts) (open_coming comes)) (cut : Ready input files width comes stage texts) (comes_so : is_reader stage ≡ true → stream_text input files comes texts ≡ stream) where
    abbrev told : List Bool
    told = before ++ told_selected texts (last_steps width number comes stage (length texts))

    abbrev nodes : List ℕ
    nodes = main_nodes width number comes stage (length texts) (length before)

    abbrev read : List (List ℕ)
    read = map (text_in stream files) stage.ins

    abbrev fronts : List (List ℕ)
    fronts = texts_behind input files texts (front_steps number comes stage (length texts))

    fronts-size : length fronts ≡ front_next number comes stage (length texts)
    fronts-size = texts-count input files texts (front_steps number comes stage (length texts))

    fronts-below : AllBelow (length fronts) (front_edges number comes stage (length texts))
    fronts-below = subst (λ (size : ℕ). AllBelow size (front_edges number comes stage (length texts))) (sym fronts-size) ((front-passes width number comes stage (length texts) (few-streams stage is)).within all)

    -- what grep's nodes select
    mids-told : (grep : GrepInv) → stage.does ≡ does.Util (inv.Grep grep)
        → list_any (λ it. it) (told_selected (texts_behind input files fronts (heads width number grep (front_edges number comes stage (length texts)))) (mids width number grep (front_edges number comes stage (length texts)) (length fronts)))
        ≡ selects_of (inv.Grep grep) (texts_read (inv.Grep grep) (map (text_in (stream_text input files comes texts) files) stage.ins))
    mids-told grep same = by_test (is_spread width (inv.Grep grep)) refl
      where
        util : Inv
        util = inv.Grep grep

        edges : List ℕ
        edges = front_edges number comes stage (length texts)

        reads : FrontReads input files width (begins comes) (inv.Grep grep) (map (text_in (stream_text input files comes texts) files) stage.ins) fronts (front_edges number comes stage (length texts)) (comes_cut comes)
        reads = front-reads input files width number comes stage texts is may all cut (inv.Grep grep) same

        by_test : (spread : Bool) → is_spread width (inv.Grep grep) ≡ spread
            → list_any (λ it. it)
            (told_selected (texts_behind input files fronts (if spread then split_steps width number (front_edges number comes stage (length texts)) else []))
            (if spread then map_steps number (inv.Grep grep) (split_edges width (front_edges number comes stage (length texts)) (length fronts)) else step (kind.Whole (inv.Grep grep)) (front_edges number comes stage (length texts)) number ∷ []))
            ≡ selects_of (inv.Grep grep) (texts_read (inv.Grep grep) (map (text_in (stream_text input files comes texts) files) stage.ins))
        by_test true so =
            let it : OneInput input files width (inv.Grep grep) (map (text_in (stream_text input files comes texts) files) stage.ins) fronts (front_edges number comes stage (length texts)) (comes_cut comes) = reads.spread refl so in
            let parts : List ℕ = front_edges number comes stage (length texts) in
            let on : List (List ℕ) = texts_behind input files fronts (split_steps width number parts) in
            let there : List ℕ = split_edges width parts (length fronts) in
            let wide = leb-true 2 width (spread-wide width (inv.Grep grep) so) in
            let size : length (map (text_at on) there) ≡ width = map-length on there ∙ split-count width parts (length fronts) in
            maps-told number (inv.Grep grep) there on (split-below input files width number parts fronts fronts-below)
            ∙ parted-selects (inv.Grep grep) it.text (map (text_at on) there) (split_cut width parts (comes_cut comes)) (spread-class width (inv.Grep grep) so) (omega (arith, wide, size))
            (split-parted input files width number (inv.Grep grep) parts (comes_cut comes) it.text fronts (omega (arith, wide)) it.comes)
            ∙ ap (selects_of (inv.Grep grep)) (sym it.is_read)
          where
            map-length : (texts : List (List ℕ)) (edges : List ℕ) → length (map (text_at texts) edges) ≡ length edges
            map-length texts [] = refl
            map-length texts (edge ∷ edges) = ap suc (map-length texts edges)
        by_test false so =
            or-none (selects_of (inv.Grep grep) (map (text_at fronts) (front_edges number comes stage (length texts)))) ∙ ap (selects_of (inv.Grep grep)) (reads.whole refl so)

    grep-chosen : (grep : GrepInv) → stage.does ≡ does.Util (inv.Grep grep) → list_any (λ node. get_or told node false) nodes ≡ selects_of (inv.Grep grep) (texts_read (inv.Grep grep) read)
    grep-chosen grep same =
        let front : List Step = front_steps number comes stage (length texts) in
        let head : List Step = heads width number grep (front_edges number comes stage (length texts)) in
        let mid : ℕ → List Step = mids width number grep (front_edges number comes stage (length texts)) in
        let there : ℕ = front_next number comes stage (length texts) in
        let rest : List Step = back_steps width number comes stage (length texts) grep same in
        let on : List (List ℕ) = texts_behind input files texts (front ++ head) in
        let first : List Bool = told_selected texts (front ++ head) in
        let here : List Bool = told_selected on (mid there) in
        let back : List Bool = told_selected (texts_behind input files on (mid there)) rest in
        let split : told ≡ (before ++ first) ++ (here ++ back) =
        ap (λ (steps : List Step). before ++ told_selected texts steps) (last-is width number comes stage (length texts) grep same)
        ∙ ap (λ (told : List Bool). before ++ told) (told-append input files selected texts (front ++ head) (mid there ++ rest) ∙ ap (λ (more : List Bool). first ++ more) (told-append input files selected on (mid there) rest))
        ∙ sym (append_assoc before first (here ++ back)) in
        let size : length before + length (front ++ head) ≡ length (before ++ first) = sym (length-append before first ∙ ap (λ (count : ℕ). length before + count) (one-each texts (front ++ head))) in
        ap (λ (told : List Bool). list_any (λ node. get_or told node false) nodes) split
        ∙ ap (list_any (λ node. get_or ((before ++ first) ++ (here ++ back)) node false))
        (nodes-is width number comes stage (length texts) grep same (length before) ∙ ap (λ (from : ℕ). range_with_len from (length (mid there))) size ∙ ap (range_with_len (length (before ++ first))) (sym (one-each on (mid there))))
        ∙ any-row (before ++ first) here back
        ∙ ap (λ (texts : List (List ℕ)). list_any (λ it. it) (told_selected texts (mid there))) (texts-append input files texts front head)
        ∙ ap (λ (from : ℕ). list_any (λ it. it) (told_selected (texts_behind input files fronts head) (mid from))) (sym fronts-size)
        ∙ mids-told grep same
        ∙ ap (λ (ins : List (List ℕ)). selects_of (inv.Grep grep) (texts_read (inv.Grep grep) ins))
        (ins-same input files (stream_text input files comes texts) stream stage.ins (λ some. comes_so (ap (λ (it : Does). list_any is_stream (ins_read it stage.ins)) same ∙ some)))

    last-status : status_by_rule (rule_by stage.does stage.status nodes) told ≡ status_by stage.does stage.status read
    last-status = by_does stage.does refl
      where
        by_grep : (inv : Inv) → stage.does ≡ does.Util inv → (grep : Bool) → is_grep inv ≡ grep
            → status_by_rule (if grep then grep_rule (is_quiet inv) stage.status nodes else ruled.Fixed stage.status) told
            ≡ (if grep then grep_status (is_quiet inv) stage.status (selects_of inv (texts_read inv read)) else stage.status)
        by_grep inv same false grep = refl
        by_grep inv same true grep =
            grep-status (is_quiet inv) stage.status nodes told (selects_of inv (texts_read inv read))
            (by-grep (λ it. stage.does ≡ does.Util it → list_any (λ node. get_or told node false) nodes ≡ selects_of it (texts_read it read)) inv grep grep-chosen same)

        by_does : (it : Does) → stage.does ≡ it → status_by_rule (rule_by it stage.status nodes) told ≡ status_by it stage.status read
        by_does does.Skip same = refl
        by_does (does.Util inv) same = by_grep inv same (is_grep inv) refl

  pub chain-status : (width : ℕ) (before : List Bool) (number : ℕ) (comes : Coming) (stage : Stage) (stages : List Stage) (texts : List (List ℕ)) (stream : List ℕ) → list_all is_stage (stage ∷ stages) ≡ true
      → MayCome width comes stage → AllBelow (length texts) (open_coming comes) → Ready input files width comes stage texts → (is_reader stage ≡ true → stream_text input files comes texts ≡ stream)
      → status_by_rule (chain_rule (stage ∷ stages) (chain_nodes width number comes (stage ∷ stages) (length texts) (length before))) (before ++ told_selected texts (chain_steps width number comes (stage ∷ stages) (length texts)))
      ≡ (chain_means (stage ∷ stages) stream files).status
  chain-status width before number comes stage [] texts stream is may all cut comes_so = last-status width before number comes stage texts stream (and_parts (is_stage stage) true is).0 may all cut comes_so
  chain-status width before number comes stage (following ∷ stages) texts stream is may all cut comes_so =
      let parts = and_parts (is_stage stage) (list_all is_stage (following ∷ stages)) is in
      let here : List Step = earlier_steps width number comes stage (length texts) following in
      let on : Coming = comes_behind width number comes stage (length texts) following in
      let left : List (List ℕ) = texts_behind input files texts here in
      let means : Outcome = stage_means stage stream files in
      let goes = earlier-goes input files width number comes stage following texts stream parts.0 may all cut comes_so in
      let first : List Bool = told_selected texts here in
      let there : ℕ = behind (length texts) here in
      let rest : ℕ → List Step = chain_steps width (number + 1) on (following ∷ stages) in
      let places : ℕ → ℕ → List ℕ = chain_nodes width (number + 1) on (following ∷ stages) in
      let told : before ++ told_selected texts (here ++ rest there) ≡ (before ++ first) ++ told_selected left (rest there) =
      ap (λ (told : List Bool). before ++ told) (told-append input files selected texts here (rest there)) ∙ sym (append_assoc before first (told_selected left (rest there))) in
      let size : length before + length here ≡ length (before ++ first) =
      (let all = length-append before first in let count = one-each texts here in omega (arith, all, count)) in
      ap (λ (told : List Bool). status_by_rule (chain_rule (following ∷ stages) (places there (length before + length here))) told) told
      ∙ ap (λ (count : ℕ). status_by_rule (chain_rule (following ∷ stages) (places there count)) ((before ++ first) ++ told_selected left (rest there))) size
      ∙ ap (λ (from : ℕ). status_by_rule (chain_rule (following ∷ stages) (places from (length (before ++ first)))) ((before ++ first) ++ told_selected left (rest from))) (sym (texts-count input files texts here))
      ∙ chain-status width (before ++ first) (number + 1) on following stages left means.output parts.1 (goes-may width number comes stage following (length texts)) goes.below goes.cut goes.goes_on
