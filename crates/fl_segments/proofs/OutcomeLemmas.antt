-- What the graph of a segment leaves is what the segment means.
use Rattle.std.proofs.Common.{◌≡◌, ℕ, zero, suc, ◌+◌, ◌-◌, ◌<◌, ◌≤◌, ◌==◌, ◌⊎◌, inl, inr, List, [], ◌∷◌, ◌++◌, Bool, true, false, not, ◌&&◌, ◌||◌, if◌then◌else◌, drop, take, get_or, length, map, nat_lt, refl, ap, sym, subst, ◌∙◌, append-nil, length-append, arith}
use Rattle.std.specs.List.{concat, flat_map, list_all, list_any, range_with_len}
use Rattle.std.proofs.lemmas.Bool.{true≢false, and_from, and_parts, eq-eqb, leb-true, lt-ltb, ltb-true, ne_eqb}
use Rattle.std.proofs.lemmas.Grind.{flat_map-append}
use Rattle.std.proofs.lemmas.List.{length-map, take-map}
use Rattle.std.proofs.lemmas.List.Folds.{concat-append, list_all-map}
use Rattle.std.proofs.lemmas.List.{length-map}
use Rattle.ps_lines.specs.Lines.{is_closed, is_cutlist, is_empty}
use Rattle.ps_world.specs.Paths.{Components}
use Rattle.ps_world.specs.declared.tree.Mode.{Mode}
use Rattle.ut_args.specs.Built.{is_built_of}
use Rattle.ut_args.specs.Classes.{class_of, keeps_closed_of}
use Rattle.ut_args.specs.declared.classes.Class.{Class}
use Rattle.ut_args.specs.declared.classes.Class.TheVariants as class
use Rattle.ut_args.specs.declared.classes.Seam.TheVariants as seam
use Rattle.ut_args.specs.declared.invocations.Inv.{Inv}
use Rattle.ut_args.specs.declared.invocations.Inv.TheVariants as inv
use Rattle.ut_args.specs.declared.invocations.CatInv.{CatInv}
use Rattle.ut_args.specs.declared.invocations.TeeInv.{TeeInv}
use Rattle.fl_graph.specs.declared.kinds.NodeKind.{NodeKind}
use Rattle.fl_graph.specs.declared.kinds.NodeKind.TheVariants as kind
use Rattle.fl_graph.specs.declared.kinds.To.TheVariants as to
use Rattle.fl_classes.specs.Aggregates.{finish_of, map_of}
use Rattle.fl_classes.specs.Flow.{Outcome, Write, ToOutput, ToFile, only, to_file, to_output, writes_of}
use Rattle.fl_classes.specs.Laws.{IsOfClass, IsParallel, IsStateless}
use Rattle.fl_classes.specs.Parts.{parts_of}
use Rattle.fl_classes.specs.Used.{is_cat}
use Rattle.fl_classes.specs.Utilities.{labelled, names_of, output_of}
use Rattle.fl_classes.proofs.ClassLemmas.{is-of-class, keeps-closed, or-none}
use Rattle.fl_classes.proofs.CutLemmas.{maps-cut, over_lines}
use Rattle.fl_classes.proofs.PartLemmas.{parts_of-count, parts-cut, parts-joined}
use Rattle.fl_segments.specs.Chains.{begins_with, chain_means, files_teed, joined_text, joined_texts, led_on, led_to_file, output_by, stage_means, status_by, tee_mode, text_in, texts_read}
use Rattle.fl_segments.specs.Stages.{closes_before, ins_read, is_none, is_reader, is_spread, is_stage, is_stream, joins_before, may_spread, read_of, has_finish}
use Rattle.fl_segments.specs.Inner.Drawing.{Step, step, behind, split_step}
use Rattle.fl_segments.specs.Inner.Steps.{begins, beside_parts, beside_steps, cat_steps, chain_steps, comes_behind, comes_cut, comes_on, does_parts, does_steps, done_next, done_parts, done_steps, drain_steps, each_ended, earlier_steps, end_edge, end_next, files_parts, files_steps, first_parts, first_steps, front_edges, front_next, front_steps, goes_steps, group_parts, group_steps, groups_from, hands_on, in_edges, in_steps, input_edges, input_steps, is_leading_cat, is_next, join_steps, joined_edges, kind_first, kind_in, last_steps, main_parts, main_steps, map_steps, on_steps, one_part, out_steps, parts_on, piped_steps, read_edges, read_steps, split_cut, split_edges, split_steps, spread_parts, spread_steps, stands, takes_any, takes_parts, tee_edge, tee_steps, teed_parts, teed_steps, util_parts, util_steps, whole_edge, whole_steps, Tree, finish_edge, finish_steps, fold_parts, fold_steps, mapped_parts, mapped_steps, tree_of, tree_steps, folded_steps, folded_edge, tree_edge, tree_over, stage_parts, stage_steps}
use Rattle.fl_segments.specs.declared.parts.Coming.{Coming}
use Rattle.fl_segments.specs.declared.parts.Coming.TheVariants as coming
use Rattle.fl_segments.specs.declared.parts.Parts.{Parts}
use Rattle.fl_segments.specs.declared.stages.Does.{Does}
use Rattle.fl_segments.specs.declared.stages.Does.TheVariants as does
use Rattle.fl_segments.specs.declared.stages.First.{First}
use Rattle.fl_segments.specs.declared.stages.First.TheVariants as first
use Rattle.fl_segments.specs.declared.stages.In.{In}
use Rattle.fl_segments.specs.declared.stages.In.TheVariants as inlet
use Rattle.fl_segments.specs.declared.stages.Out.{Out}
use Rattle.fl_segments.specs.declared.stages.Out.TheVariants as out
use Rattle.fl_segments.specs.declared.stages.Stage.{Stage}
use Rattle.fl_segments.proofs.ComingLemmas.{IsSingle, IsTaken, MayCome, goes-may, lone-edges, lone-steps, same-util, taken-of}
use Rattle.fl_segments.proofs.FitLemmas.{Fits, few-streams, parts-of}
use Rattle.fl_segments.specs.Groups.{group_start, holds_mark, is_grouped, is_marked}
use Rattle.fl_segments.proofs.GroupLemmas.{GoesInGroups, grouped-so, groups-count, groups-cut, groups-joined, later-whole}
use Rattle.fl_segments.proofs.FoundLemmas.{Pass, begins-behind, done-all, first-all, front-all, of-kinds}
use Rattle.fl_segments.proofs.MeaningLemmas.{ins_texts, keeps-text, fitted, fitted-count, fitted-same, text_at, texts_behind, texts_on, texts-count, told_from, texts-append, told-append}
use Rattle.fl_segments.proofs.RowLemmas.{get-front, get-here, map-both, row-texts, put-is, put_behind}
use Rattle.fl_segments.proofs.StageLemmas.{AllBelow, all-more, all-parts, behind-more, does-passes, does-some, earlier-passes, files-passes, files-some, front-passes, input-passes, main-some, open_coming, spread-class, spread-one, spread-wide, split-count, split-passes, whole-passes, leaves, leaves-are, mapped-passes, mapped-some}
use Rattle.fl_segments.proofs.FoldLemmas.{tree-text}
use Rattle.fl_segments.proofs.FinishLemmas.{finish-none}
use Rattle.fl_graph.specs.Kinds.{has_aggregator}

none-empty : (text : List ℕ) → is_empty text ≡ true → text ≡ []
none-empty [] is = refl
none-empty (byte ∷ text) is = absurd (true≢false (sym is))

one-below : (edge next : ℕ) → AllBelow next (edge ∷ []) → edge < next
one-below edge next all = ltb-true edge next (and_parts (nat_lt edge next) true all).0

-- cat writes its inputs joined
flat-labelled : (names texts : List (List ℕ)) → flat_map (λ it. it.text) (labelled names texts) ≡ concat texts
flat-labelled names [] = refl
flat-labelled names (text ∷ texts) = ap (λ (rest : List ℕ). text ++ rest) (flat-labelled (drop 1 names) texts)

cat-output : (cat : CatInv) (texts : List (List ℕ)) → output_of (inv.Cat cat) texts ≡ concat texts
cat-output cat texts = flat-labelled (names_of (inv.Cat cat)) texts

-- so its inputs are its output, also where they are joined before
cat-joined : (inv : Inv) → is_cat inv ≡ true → (texts : List (List ℕ)) → concat texts ≡ output_of inv (texts_read inv texts)
cat-joined (inv.Cat cat) is [] = sym (cat-output cat [])
cat-joined (inv.Cat cat) is (text ∷ texts) = sym (append-nil (concat (text ∷ texts))) ∙ sym (cat-output cat (concat (text ∷ texts) ∷ []))
cat-joined other is texts = absurd (true≢false (sym is))

one-joined : (closes : Bool) (text : List ℕ) → joined_text closes (text ∷ []) ≡ text
one-joined true text = refl
one-joined false text = append-nil text

-- one text is read as it is, and so many texts are read
pub one-read : (inv : Inv) (text : List ℕ) → texts_read inv (text ∷ []) ≡ text ∷ []
one-read inv text = by_joins (closes_before inv) (joins_before inv)
  where
    by_joins : (closes joins : Bool) → (if joins then joined_texts closes (text ∷ []) else text ∷ []) ≡ text ∷ []
    by_joins closes true = ap (λ (it : List ℕ). it ∷ []) (one-joined closes text)
    by_joins closes false = refl

read-count : (inv : Inv) (texts : List (List ℕ)) → length (texts_read inv texts) ≡ read_of inv (length texts)
read-count inv texts = by_joins (closes_before inv) (joins_before inv) texts
  where
    by_joins : (closes joins : Bool) (texts : List (List ℕ)) → length (if joins then joined_texts closes texts else texts) ≡ (if joins then (if length texts == 0 then 0 else 1) else length texts)
    by_joins closes false texts = refl
    by_joins closes true [] = refl
    by_joins closes true (text ∷ texts) = sym (ap (λ (none : Bool). if none then 0 else 1) (ne_eqb (length (text ∷ texts)) 0 (λ same. omega (arith, same))))

-- THE PARTS OF AN INPUT
-- these texts are an input that is cut as an invocation wants it
pub record Parted (inv : Inv) (text : List ℕ) (texts : List (List ℕ)) (cut : Bool) : Type 0 where
  pub whole : concat texts ≡ text
  pub may : (cut || takes_any (class_of inv)) ≡ true
  pub is_cut : cut ≡ true → is_cutlist texts ≡ true

-- an invocation that takes any cut goes over all lists
over_bytes : (inv : Inv) → IsStateless seam.Bytes inv → (texts : List (List ℕ)) → map_of inv (concat texts) ≡ concat (map (map_of inv) texts)
over_bytes inv law [] = over_lines inv seam.Bytes law [] refl
over_bytes inv law (text ∷ texts) = law.joins text (concat texts) tt ∙ ap (λ (rest : List ℕ). map_of inv text ++ rest) (over_bytes inv law texts)

-- the maps of its parts, joined, are its output
pub parted-output : (inv : Inv) (text : List ℕ) (texts : List (List ℕ)) (cut : Bool) → may_spread (class_of inv) ≡ true → has_aggregator (class_of inv) ≡ false → Parted inv text texts cut
    → concat (map (map_of inv) texts) ≡ output_of inv (text ∷ [])
parted-output inv text texts cut may folds parted = by_class (class_of inv) refl (is-of-class inv)
  where
    by_class : (of : Class) → class_of inv ≡ of → IsOfClass of inv → concat (map (map_of inv) texts) ≡ output_of inv (text ∷ [])
    by_class (class.S seam.Bytes) is law = sym (over_bytes inv law texts) ∙ ap (map_of inv) parted.whole ∙ sym (law.whole text)
    by_class (class.S seam.Lines) is law =
        let cut_is : cut ≡ true = sym (or-none cut) ∙ ap (λ (of : Class). cut || takes_any of) (sym is) ∙ parted.may in
        sym (over_lines inv seam.Lines law texts (parted.is_cut cut_is)) ∙ ap (map_of inv) parted.whole ∙ sym (law.whole text)
    by_class class.P is law = absurd (true≢false (sym (ap has_aggregator is) ∙ folds))
    by_class class.N is law = absurd (true≢false (sym (sym (ap may_spread is) ∙ may)))
    by_class class.E is law = absurd (true≢false (sym (sym (ap may_spread is) ∙ may)))

-- where maps are aggregated, the texts are a cut list
parallel-law : (inv : Inv) → has_aggregator (class_of inv) ≡ true → IsParallel inv × (takes_any (class_of inv) ≡ false)
parallel-law inv folds = by_class (class_of inv) refl (is-of-class inv)
  where
    by_class : (of : Class) → class_of inv ≡ of → IsOfClass of inv → IsParallel inv × (takes_any (class_of inv) ≡ false)
    by_class (class.S seam) is law = absurd (true≢false (sym (sym (ap has_aggregator is) ∙ folds)))
    by_class class.P is law = (law, ap takes_any is)
    by_class class.N is law = absurd (true≢false (sym (sym (ap has_aggregator is) ∙ folds)))
    by_class class.E is law = absurd (true≢false (sym (sym (ap has_aggregator is) ∙ folds)))

-- the parts that a split makes
pub parted-split : (inv : Inv) (text : List ℕ) (width : ℕ) → 1 ≤ width → Parted inv text (parts_of text width) true
parted-split inv text width some = record { whole = parts-joined text width some; may = refl; is_cut = λ is. parts-cut text width some }

-- WHAT PARTS CARRY
pub record Carries (texts : List (List ℕ)) (parts : Parts) (text : List ℕ) : Type 0 where
  pub whole : concat (map (text_at texts) parts.edges) ≡ text
  pub is_cut : parts.cut ≡ true → is_cutlist (map (text_at texts) parts.edges) ≡ true

carries-one : (texts : List (List ℕ)) (edge : ℕ) (text : List ℕ) → text_at texts edge ≡ text → Carries texts (one_part edge) text
carries-one texts edge text is = record { whole = append-nil (text_at texts edge) ∙ is; is_cut = λ cut. absurd (true≢false (sym cut)) }

carries-same : (texts : List (List ℕ)) (parts : Parts) (one other : List ℕ) → one ≡ other → Carries texts parts one → Carries texts parts other
carries-same texts parts one other same carries = record { whole = carries.whole ∙ same; is_cut = carries.is_cut }

-- THE TEXTS OF GROUPS
groups-texts : (at : ℕ → List ℕ) (groups : List (List ℕ)) → concat (map (λ group. concat (map at group)) groups) ≡ concat (map at (concat groups))
groups-texts at [] = refl
groups-texts at (edges ∷ groups) =
    ap (λ (rest : List ℕ). concat (map at edges) ++ rest) (groups-texts at groups)
    ∙ sym (ap concat (map-both at edges (concat groups)) ∙ concat-append (map at edges) (map at (concat groups)))

-- edges whose texts are those of inputs, and so many of the first
closed-front : (at : ℕ → List ℕ) (text : In → List ℕ) (edges : List ℕ) (ins : List In) (count : ℕ → ℕ) → map at edges ≡ map text ins
    → ((count : ℕ) → list_all is_marked (take count ins) ≡ true → list_all is_closed (map text (take count ins)) ≡ true)
    → list_all is_marked (take (count (length ins)) ins) ≡ true → list_all (λ edge. is_closed (at edge)) (take (count (length edges)) edges) ≡ true
closed-front at text edges ins count are closed marked =
    let same : length edges ≡ length ins = sym (length-map edges at) ∙ ap length are ∙ length-map ins text in
    ap (λ (size : ℕ). list_all (λ edge. is_closed (at edge)) (take (count size) edges)) same
    ∙ sym (list_all-map is_closed at (take (count (length ins)) edges)) ∙ ap (list_all is_closed) (sym (take-map at (count (length ins)) edges) ∙ ap (take (count (length ins))) are ∙ take-map text (count (length ins)) ins)
    ∙ closed (count (length ins)) marked

module _ (input : List ℕ) (files : Components → List ℕ) where
  -- edges that are open behind nodes have their texts there
  pub below-texts : (texts : List (List ℕ)) (steps : List Step) (edges : List ℕ) → AllBelow (behind (length texts) steps) edges → AllBelow (length (texts_behind input files texts steps)) edges
  below-texts texts steps edges all = subst (λ (size : ℕ). AllBelow size edges) (sym (texts-count input files texts steps)) all

  pub edges-keep : (texts : List (List ℕ)) (steps : List Step) (edges : List ℕ) → AllBelow (length texts) edges → map (text_at (texts_behind input files texts steps)) edges ≡ map (text_at texts) edges
  edges-keep texts steps [] all = refl
  edges-keep texts steps (edge ∷ edges) all =
      let parts = and_parts (nat_lt edge (length texts)) (list_all (λ edge. nat_lt edge (length texts)) edges) all in
      ap (λ (text : List ℕ). text ∷ map (text_at (texts_behind input files texts steps)) edges) (keeps-text input files texts steps edge (ltb-true edge (length texts) parts.0))
      ∙ ap (λ (rest : List (List ℕ)). text_at texts edge ∷ rest) (edges-keep texts steps edges parts.1)

  -- THE INPUTS
  -- the text that comes to a stage
  abbrev pub stream_text : Coming → List (List ℕ) → List ℕ
  stream_text (coming.Begins begin) texts = begins_with begin.now input
  stream_text (coming.On parts) texts = concat (map (text_at texts) parts.edges)
  stream_text coming.Nothing texts = []

  -- it is a cut list where that is known
  abbrev pub ComesCut : Coming → List (List ℕ) → Type 0
  ComesCut (coming.Begins begin) texts = Unit {0}
  ComesCut (coming.On parts) texts = parts.cut ≡ true → is_cutlist (map (text_at texts) parts.edges) ≡ true
  ComesCut coming.Nothing texts = Unit {0}

  -- and the files of a cat that goes in groups are closed where they are marked so
  abbrev pub Ready : ℕ → Coming → Stage → List (List ℕ) → Type 0
  Ready width comes stage texts = ComesCut comes texts × (is_grouped width (begins comes) stage.does stage.ins ≡ true → list_all (holds_mark files) stage.ins ≡ true)

  stream-keeps : (comes : Coming) (texts : List (List ℕ)) (steps : List Step) → AllBelow (length texts) (open_coming comes) → stream_text comes (texts_behind input files texts steps) ≡ stream_text comes texts
  stream-keeps (coming.Begins begin) texts steps all = refl
  stream-keeps (coming.On parts) texts steps all = ap concat (edges-keep texts steps parts.edges all)
  stream-keeps coming.Nothing texts steps all = refl

  input-texts : (number : ℕ) (comes : Coming) (it : In) (texts : List (List ℕ)) (stream : List ℕ) → IsSingle comes → stream_text comes texts ≡ stream
      → map (text_at (texts_behind input files texts (input_steps number (kind_in comes it)))) (input_edges comes it (length texts)) ≡ text_in stream files it ∷ []
  input-texts number (coming.Begins begin) inlet.Stream texts stream single is = ap (λ (text : List ℕ). text ∷ []) (by_first begin.now is)
    where
      by_first : (begin : First) → begins_with begin input ≡ stream → text_at (texts_behind input files texts (step (kind_first begin) [] number ∷ [])) (length texts) ≡ stream
      by_first first.Input is = get-here texts [] input [] ∙ is
      by_first (first.Text text) is = get-here texts [] text [] ∙ is
  input-texts number (coming.On parts) inlet.Stream texts stream single is = by_edges parts.edges single is
    where
      by_edges : (edges : List ℕ) → length edges ≡ 1 → concat (map (text_at texts) edges) ≡ stream → map (text_at texts) edges ≡ stream ∷ []
      by_edges [] one is = absurd (omega (arith, one))
      by_edges (edge ∷ []) one is = ap (λ (text : List ℕ). text ∷ []) (sym (append-nil (text_at texts edge)) ∙ is)
      by_edges (edge ∷ other ∷ edges) one is = absurd (omega (arith, one))
  input-texts number coming.Nothing inlet.Stream texts stream single is = ap (λ (text : List ℕ). text ∷ []) (get-here texts [] [] [] ∙ is)
  input-texts number comes (inlet.File path closed) texts stream single is = ap (λ (text : List ℕ). text ∷ []) (get-here texts [] (files path) [])
  input-texts number comes inlet.Empty texts stream single is = ap (λ (text : List ℕ). text ∷ []) (get-here texts [] [] [])

  -- those of the stream alone are below
  input-below : (number : ℕ) (comes : Coming) (it : In) (texts : List (List ℕ)) → AllBelow (length texts) (open_coming comes)
      → AllBelow (length (texts_behind input files texts (input_steps number (kind_in comes it)))) (input_edges comes it (length texts))
  input-below number comes it texts all =
      below-texts texts (input_steps number (kind_in comes it)) (input_edges comes it (length texts)) (by_in it)
    where
      by_in : (it : In) → AllBelow (behind (length texts) (input_steps number (kind_in comes it))) (input_edges comes it (length texts))
      by_in inlet.Stream = (input-passes number comes inlet.Stream (length texts)).within all
      by_in (inlet.File path closed) = (input-passes number comes (inlet.File path closed) (length texts)).within refl
      by_in inlet.Empty = (input-passes number comes inlet.Empty (length texts)).within refl

  in-texts : (number : ℕ) (comes : Coming) (ins : List In) (texts : List (List ℕ)) (stream : List ℕ) → IsSingle comes → AllBelow (length texts) (open_coming comes) → stream_text comes texts ≡ stream
      → map (text_at (texts_behind input files texts (in_steps number comes ins))) (in_edges number comes ins (length texts)) ≡ map (text_in stream files) ins
  in-texts number comes [] texts stream single all is = refl
  in-texts number comes (it ∷ ins) texts stream single all is =
      let here : List Step = input_steps number (kind_in comes it) in
      let rest : List Step = in_steps number comes ins in
      let edges : List ℕ = input_edges comes it (length texts) in
      let on : List (List ℕ) = texts_behind input files texts here in
      let last : List (List ℕ) = texts_behind input files on rest in
      ap (λ (final : List (List ℕ)). map (text_at final) (edges ++ in_edges number comes ins (behind (length texts) here))) (texts-append input files texts here rest)
      ∙ ap (λ (from : ℕ). map (text_at last) (edges ++ in_edges number comes ins from)) (sym (texts-count input files texts here))
      ∙ map-both (text_at last) edges (in_edges number comes ins (length on))
      ∙ ap (λ (first : List (List ℕ)). first ++ map (text_at last) (in_edges number comes ins (length on)))
      (edges-keep on rest edges (input-below number comes it texts all) ∙ input-texts number comes it texts stream single is)
      ∙ ap (λ (others : List (List ℕ)). text_in stream files it ∷ others)
      (in-texts number comes ins on stream single (below-texts texts here (open_coming comes) (all-more (length texts) (behind (length texts) here) (behind-more (length texts) here) (open_coming comes) all))
      (stream-keeps comes texts here all ∙ is))

  -- the texts that a utility takes
  abbrev pub read_by : Bool → Inv → List (List ℕ) → List (List ℕ)
  read_by leads inv texts = if is_leading_cat leads inv then texts else texts_read inv texts

  join-texts : (number : ℕ) (leads : Bool) (inv : Inv) (ins : List In) (edges : List ℕ) (texts : List (List ℕ)) → length ins ≡ length (map (text_at texts) edges)
      → map (text_at (texts_behind input files texts (join_steps number leads inv ins edges))) (joined_edges leads inv ins edges (length texts)) ≡ read_by leads inv (map (text_at texts) edges)
  join-texts number leads inv ins edges texts same =
      ap (λ (count : ℕ). map (text_at (texts_behind input files texts (if (joins_before inv && (not (is_leading_cat leads inv) && nat_lt 1 count)) then step (kind.Cat (closes_before inv)) edges number ∷ [] else [])))
      (if (joins_before inv && (not (is_leading_cat leads inv) && nat_lt 1 count)) then length texts ∷ [] else edges)) same
      ∙ by_joins (closes_before inv) (joins_before inv) (is_leading_cat leads inv) edges
    where
      by_joins : (closes joins cat : Bool) (edges : List ℕ)
          → map (text_at (texts_behind input files texts (if (joins && (not cat && nat_lt 1 (length (map (text_at texts) edges)))) then step (kind.Cat closes) edges number ∷ [] else [])))
          (if (joins && (not cat && nat_lt 1 (length (map (text_at texts) edges)))) then length texts ∷ [] else edges)
          ≡ (if cat then map (text_at texts) edges else if joins then joined_texts closes (map (text_at texts) edges) else map (text_at texts) edges)
      by_joins closes false true edges = refl
      by_joins closes false false edges = refl
      by_joins closes true true edges = refl
      by_joins closes true false [] = refl
      by_joins closes true false (edge ∷ []) = ap (λ (it : List ℕ). it ∷ []) (sym (one-joined closes (text_at texts edge)))
      by_joins closes true false (edge ∷ other ∷ edges) =
          let all : List (List ℕ) = map (text_at texts) (edge ∷ other ∷ edges) in
          let many : nat_lt 1 (length all) ≡ true = lt-ltb 1 (length all) (omega arith) in
          ap (λ (joined : Bool). map (text_at (texts_behind input files texts (if joined then step (kind.Cat closes) (edge ∷ other ∷ edges) number ∷ [] else []))) (if joined then length texts ∷ [] else edge ∷ other ∷ edges)) many
          ∙ ap (λ (it : List ℕ). it ∷ []) (get-here texts [] (joined_text closes all) [])

  abbrev pub read_texts : Bool → Does → List (List ℕ) → List (List ℕ)
  read_texts leads does.Skip texts = []
  read_texts leads (does.Util inv) texts = read_by leads inv texts

  map-count : (stream : List ℕ) (ins : List In) → length (map (text_in stream files) ins) ≡ length ins
  map-count stream [] = refl
  map-count stream (it ∷ ins) = ap suc (map-count stream ins)

  read-texts : (number : ℕ) (comes : Coming) (it : Does) (ins : List In) (texts : List (List ℕ)) → IsSingle comes → AllBelow (length texts) (open_coming comes)
      → map (text_at (texts_behind input files texts (read_steps number comes it ins (length texts)))) (read_edges number comes it ins (length texts))
      ≡ read_texts (begins comes) it (map (text_in (stream_text comes texts) files) ins)
  read-texts number comes does.Skip ins texts single all = refl
  read-texts number comes (does.Util inv) ins texts single all =
      let inputs : List Step = in_steps number comes ins in
      let edges : List ℕ = in_edges number comes ins (length texts) in
      let on : List (List ℕ) = texts_behind input files texts inputs in
      let joins : List Step = join_steps number (begins comes) inv ins edges in
      let are : map (text_at on) edges ≡ map (text_in (stream_text comes texts) files) ins = in-texts number comes ins texts (stream_text comes texts) single all refl in
      ap (λ (final : List (List ℕ)). map (text_at final) (joined_edges (begins comes) inv ins edges (behind (length texts) inputs))) (texts-append input files texts inputs joins)
      ∙ ap (λ (from : ℕ). map (text_at (texts_behind input files on joins)) (joined_edges (begins comes) inv ins edges from)) (sym (texts-count input files texts inputs))
      ∙ join-texts number (begins comes) inv ins edges on (sym (ap length are ∙ map-count (stream_text comes texts) ins)) ∙ ap (read_by (begins comes) inv) are

  drain-texts : (number : ℕ) (comes : Coming) (reads : Bool) (texts : List (List ℕ)) → texts_behind input files texts (drain_steps number comes reads) ≡ texts
  drain-texts number comes true texts = refl
  drain-texts number (coming.Begins begin) false texts = refl
  drain-texts number (coming.On parts) false texts = each-same parts.edges
    where
      each-same : (edges : List ℕ) → texts_behind input files texts (each_ended number edges) ≡ texts
      each-same [] = refl
      each-same (edge ∷ edges) = each-same edges
  drain-texts number coming.Nothing false texts = refl

  pub front-texts : (number : ℕ) (comes : Coming) (stage : Stage) (texts : List (List ℕ)) → IsSingle comes → AllBelow (length texts) (open_coming comes)
      → map (text_at (texts_behind input files texts (front_steps number comes stage (length texts)))) (front_edges number comes stage (length texts))
      ≡ read_texts (begins comes) stage.does (map (text_in (stream_text comes texts) files) stage.ins)
  front-texts number comes stage texts single all =
      let drain : List Step = drain_steps number comes (is_reader stage) in
      let read : List Step = read_steps number comes stage.does stage.ins (length texts) in
      ap (λ (final : List (List ℕ)). map (text_at final) (front_edges number comes stage (length texts)))
      (texts-append input files texts drain read ∙ ap (λ (on : List (List ℕ)). texts_behind input files on read) (drain-texts number comes (is_reader stage) texts))
      ∙ read-texts number comes stage.does stage.ins texts single all

  -- PARTS JOINED
  whole-text : (number : ℕ) (edges : List ℕ) (texts : List (List ℕ)) → 1 ≤ length edges
      → text_at (texts_behind input files texts (whole_steps number edges)) (whole_edge edges (length texts)) ≡ concat (map (text_at texts) edges)
  whole-text number [] texts some = absurd (omega (arith, some))
  whole-text number (edge ∷ []) texts some = sym (append-nil (text_at texts edge))
  whole-text number (edge ∷ other ∷ edges) texts some =
      let all : List ℕ = edge ∷ other ∷ edges in
      ap (λ (many : Bool). text_at (texts_behind input files texts (if many then step (kind.Cat false) all number ∷ [] else [])) (if many then length texts else get_or all 0 (length texts)))
      (lt-ltb 1 (length all) (omega arith)) ∙ get-here texts [] (concat (map (text_at texts) all)) []

  -- GROUPS OF FILES
  groups-keep : (texts : List (List ℕ)) (steps : List Step) (groups : List (List ℕ)) → AllBelow (length texts) (concat groups)
      → map (λ group. concat (map (text_at (texts_behind input files texts steps)) group)) groups ≡ map (λ group. concat (map (text_at texts) group)) groups
  groups-keep texts steps [] all = refl
  groups-keep texts steps (edges ∷ groups) all =
      let parts = all-parts (length texts) edges (concat groups) all in
      ap (λ (first : List (List ℕ)). concat first ∷ map (λ group. concat (map (text_at (texts_behind input files texts steps)) group)) groups) (edges-keep texts steps edges parts.0)
      ∙ ap (λ (rest : List (List ℕ)). concat (map (text_at texts) edges) ∷ rest) (groups-keep texts steps groups parts.1)

  cats-texts : (number : ℕ) (groups : List (List ℕ)) (texts : List (List ℕ)) → AllBelow (length texts) (concat groups)
      → map (text_at (texts_behind input files texts (cat_steps number groups))) (range_with_len (length texts) (length groups)) ≡ map (λ group. concat (map (text_at texts) group)) groups
  cats-texts number [] texts all = refl
  cats-texts number (edges ∷ groups) texts all =
      let parts = all-parts (length texts) edges (concat groups) all in
      let it : Step = step (kind.Cat false) edges number in
      let text : List ℕ = concat (map (text_at texts) edges) in
      let on : List (List ℕ) = texts ++ text ∷ [] in
      let rest : List Step = cat_steps number groups in
      let last : List (List ℕ) = texts_behind input files on rest in
      let size : length on ≡ length texts + 1 = length-append texts (text ∷ []) in
      ap (λ (first : List ℕ). first ∷ map (text_at last) (range_with_len (length texts + 1) (length groups)))
      (keeps-text input files on rest (length texts) (omega (arith, size)) ∙ get-here texts [] text [])
      ∙ ap (λ (from : ℕ). text ∷ map (text_at last) (range_with_len from (length groups))) (sym size)
      ∙ ap (λ (others : List (List ℕ)). text ∷ others)
      (cats-texts number groups on (all-more (length texts) (length on) (omega (arith, size)) (concat groups) parts.1)
      ∙ groups-keep texts (it ∷ []) groups parts.1)

  -- the groups are cut where the files that are marked closed are so
  groups-carry : (width number : ℕ) (stream : List ℕ) (ins : List In) (edges : List ℕ) (texts : List (List ℕ)) → 2 ≤ width → list_all is_marked (take (group_start width (length ins) (width - 1)) ins) ≡ true
      → list_all (holds_mark files) ins ≡ true → AllBelow (length texts) edges → map (text_at texts) edges ≡ map (text_in stream files) ins
      → Carries (texts_behind input files texts (group_steps width number edges)) (group_parts width (length texts)) (concat (map (text_in stream files) ins))
  groups-carry width number stream ins edges texts wide marked marks all are =
      let groups : List (List ℕ) = groups_from width edges 0 width in
      let last : List (List ℕ) = texts_behind input files texts (cat_steps number groups) in
      let some : 0 < width = omega (arith, wide) in
      let whole : concat groups ≡ edges = groups-joined width edges some in
      let row : map (text_at last) (range_with_len (length texts) width) ≡ map (λ group. concat (map (text_at texts) group)) groups =
      ap (λ (count : ℕ). map (text_at last) (range_with_len (length texts) count)) (sym (groups-count width edges 0 width))
      ∙ cats-texts number groups texts (subst (AllBelow (length texts)) (sym whole) all) in
      let closed : list_all (λ (edge : ℕ). is_closed (text_at texts edge)) (take (group_start width (length edges) (width - 1)) edges) ≡ true =
      closed-front (text_at texts) (text_in stream files) edges ins (λ (count : ℕ). group_start width count (width - 1)) are (λ count. marked-closed stream count ins marks) marked in
      record {
        whole = ap concat row ∙ groups-texts (text_at texts) groups ∙ ap (λ (edges : List ℕ). concat (map (text_at texts) edges)) whole ∙ ap concat are;
        is_cut = λ cut. (ap is_cutlist row ∙ groups-cut width edges some (text_at texts) closed);
      }
    where
      marked-closed : (stream : List ℕ) (count : ℕ) (ins : List In) → list_all (holds_mark files) ins ≡ true → list_all is_marked (take count ins) ≡ true
          → list_all is_closed (map (text_in stream files) (take count ins)) ≡ true
      marked-closed stream zero ins marks marked = refl
      marked-closed stream (suc count) [] marks marked = refl
      marked-closed stream (suc count) (inlet.File path true ∷ ins) marks marked =
          let parts = and_parts (is_closed (files path)) (list_all (holds_mark files) ins) marks in
          and_from (is_closed (files path)) (list_all is_closed (map (text_in stream files) (take count ins))) parts.0 (marked-closed stream count ins parts.1 marked)
      marked-closed stream (suc count) (inlet.File path false ∷ ins) marks marked = absurd (true≢false (sym marked))
      marked-closed stream (suc count) (inlet.Stream ∷ ins) marks marked = absurd (true≢false (sym marked))
      marked-closed stream (suc count) (inlet.Empty ∷ ins) marks marked = absurd (true≢false (sym marked))

  -- A UTILITY THAT IS SPREAD
  -- the maps of what is on edges
  pub maps-texts : (number : ℕ) (inv : Inv) (edges : List ℕ) (texts : List (List ℕ)) → AllBelow (length texts) edges
      → map (text_at (texts_behind input files texts (map_steps number inv edges))) (range_with_len (length texts) (length edges)) ≡ map (map_of inv) (map (text_at texts) edges)
  maps-texts number inv [] texts all = refl
  maps-texts number inv (edge ∷ edges) texts all =
      let parts = and_parts (nat_lt edge (length texts)) (list_all (λ edge. nat_lt edge (length texts)) edges) all in
      let it : Step = step (kind.Map inv) (edge ∷ []) number in
      let text : List ℕ = map_of inv (text_at texts edge) in
      let on : List (List ℕ) = texts ++ text ∷ [] in
      let rest : List Step = map_steps number inv edges in
      let last : List (List ℕ) = texts_behind input files on rest in
      let size : length on ≡ length texts + 1 = length-append texts (text ∷ []) in
      ap (λ (first : List ℕ). first ∷ map (text_at last) (range_with_len (length texts + 1) (length edges)))
      (keeps-text input files on rest (length texts) (omega (arith, size)) ∙ get-here texts [] text [])
      ∙ ap (λ (from : ℕ). text ∷ map (text_at last) (range_with_len from (length edges))) (sym size)
      ∙ ap (λ (others : List (List ℕ)). text ∷ others)
      (maps-texts number inv edges on (all-more (length texts) (length on) (omega (arith, size)) edges parts.1)
      ∙ ap (map (map_of inv)) (edges-keep texts (it ∷ []) edges parts.1))

  -- an input that comes in parts, or on one edge
  abbrev pub Comes : ℕ → Inv → List ℕ → List (List ℕ) → List ℕ → Bool → Type 0
  Comes width inv text texts edges cut =
      ((stands width edges ≡ true) × Parted inv text (map (text_at texts) edges) cut) ⊎ ((stands width edges ≡ false) × (map (text_at texts) edges ≡ text ∷ []))

  -- it is there in parts behind the split
  pub split-parted : (width number : ℕ) (inv : Inv) (edges : List ℕ) (cut : Bool) (text : List ℕ) (texts : List (List ℕ)) → 1 ≤ width → Comes width inv text texts edges cut
      → Parted inv text (map (text_at (texts_behind input files texts (split_steps width number edges))) (split_edges width edges (length texts))) (split_cut width edges cut)
  split-parted width number inv edges cut text texts some comes = by_comes comes
    where
      by_stand : (stand : Bool) → Type 0
      by_stand stand =
          Parted inv text (map (text_at (texts_behind input files texts (if stand then [] else split_step edges width number ∷ []))) (if stand then edges else range_with_len (length texts) width)) (if stand then cut else true)

      by_comes : ((stands width edges ≡ true) × Parted inv text (map (text_at texts) edges) cut) ⊎ ((stands width edges ≡ false) × (map (text_at texts) edges ≡ text ∷ []))
          → Parted inv text (map (text_at (texts_behind input files texts (split_steps width number edges))) (split_edges width edges (length texts))) (split_cut width edges cut)
      by_comes (inl parted) =
          subst (λ (stand : Bool). Parted inv text (map (text_at (texts_behind input files texts (if stand then [] else split_step edges width number ∷ []))) (if stand then edges else range_with_len (length texts) width)) (if stand then cut else true))
          (sym parted.0) parted.1
      by_comes (inr single) =
          let parts : List (List ℕ) = parts_of (only (map (text_at texts) edges)) width in
          let new : fitted width parts ≡ parts = fitted-same width parts (parts_of-count (only (map (text_at texts) edges)) width) in
          let row : map (text_at (put_behind texts (fitted width parts))) (range_with_len (length texts) width) ≡ parts_of text width =
          ap (λ (all : List (List ℕ)). map (text_at all) (range_with_len (length texts) width)) (put-is texts (fitted width parts))
          ∙ ap (λ (count : ℕ). map (text_at (texts ++ fitted width parts)) (range_with_len (length texts) count)) (sym (fitted-count width parts))
          ∙ row-texts texts (fitted width parts) [] ∙ new ∙ ap (λ (ins : List (List ℕ)). parts_of (only ins) width) single.1 in
          subst (λ (stand : Bool). Parted inv text (map (text_at (texts_behind input files texts (if stand then [] else split_step edges width number ∷ []))) (if stand then edges else range_with_len (length texts) width)) (if stand then cut else true))
          (sym single.0) (subst (λ (texts : List (List ℕ)). Parted inv text texts true) (sym row) (parted-split inv text width some))

  pub split-below : (width number : ℕ) (edges : List ℕ) (texts : List (List ℕ)) → AllBelow (length texts) edges
      → AllBelow (length (texts_behind input files texts (split_steps width number edges))) (split_edges width edges (length texts))
  split-below width number edges texts all =
      below-texts texts (split_steps width number edges) (split_edges width edges (length texts)) ((split-passes width number edges (length texts)).within all)

  -- the texts of its maps
  mapped-texts : (width number : ℕ) (inv : Inv) (edges : List ℕ) (cut : Bool) (texts : List (List ℕ)) → AllBelow (length texts) edges
      → map (text_at (texts_behind input files texts (mapped_steps width number inv edges (length texts)))) (mapped_parts width number inv edges (length texts) cut).edges
      ≡ map (map_of inv) (map (text_at (texts_behind input files texts (split_steps width number edges))) (split_edges width edges (length texts)))
  mapped-texts width number inv edges cut texts all =
      let split : List Step = split_steps width number edges in
      let parts : List ℕ = split_edges width edges (length texts) in
      let on : List (List ℕ) = texts_behind input files texts split in
      let maps : List Step = map_steps number inv parts in
      ap (λ (final : List (List ℕ)). map (text_at final) (range_with_len (behind (length texts) split) width)) (texts-append input files texts split maps)
      ∙ ap (λ (from : ℕ). map (text_at (texts_behind input files on maps)) (range_with_len from width)) (sym (texts-count input files texts split))
      ∙ ap (λ (count : ℕ). map (text_at (texts_behind input files on maps)) (range_with_len (length on) count)) (sym (split-count width edges (length texts)))
      ∙ maps-texts number inv parts on (split-below width number edges texts all)

  -- what is made of them
  fold-carries : (number : ℕ) (inv : Inv) (parts : Parts) (text : List ℕ) (there texts : List (List ℕ)) (cut : Bool) → may_spread (class_of inv) ≡ true → 1 ≤ length parts.edges → AllBelow (length texts) parts.edges
      → map (text_at texts) parts.edges ≡ map (map_of inv) there → Parted inv text there cut → (parts.cut ≡ true → cut ≡ true × keeps_closed_of inv ≡ true)
      → Carries (texts_behind input files texts (fold_steps number inv parts.edges (length texts))) (fold_parts number inv parts (length texts)) (output_of inv (text ∷ []))
  fold-carries number inv parts text there texts cut may some all are parted cuts = by_test (has_aggregator (class_of inv)) refl
    where
      tree : Tree
      tree = tree_of (length parts.edges) parts.edges

      by_finish : (law : IsParallel inv) (on : List (List ℕ)) (edge : ℕ) → text_at on edge ≡ map_of inv text
          → Carries (texts_behind input files on (finish_steps number inv edge)) (one_part (finish_edge inv edge (length on))) (output_of inv (text ∷ []))
      by_finish law on edge is = by_has (has_finish inv) refl
        where
          by_has : (finishes : Bool) → has_finish inv ≡ finishes
              → Carries (texts_behind input files on (if finishes then step (kind.Finish inv) (edge ∷ []) number ∷ [] else [])) (one_part (if finishes then length on else edge)) (output_of inv (text ∷ []))
          by_has true so =
              carries-one (on ++ finish_of inv (text_at on edge) ∷ []) (length on) (output_of inv (text ∷ []))
              (get-here on [] (finish_of inv (text_at on edge)) [] ∙ ap (finish_of inv) is ∙ sym (law.whole text))
          by_has false so = carries-one on edge (output_of inv (text ∷ [])) (is ∙ sym (finish-none inv law so text) ∙ sym (law.whole text))

      by_test : (folds : Bool) → has_aggregator (class_of inv) ≡ folds
          → Carries (texts_behind input files texts (if folds then folded_steps number inv parts.edges (length texts) else []))
          (if folds then one_part (folded_edge number inv parts.edges (length texts)) else parts) (output_of inv (text ∷ []))
      by_test false so = record {
        whole = ap concat are ∙ parted-output inv text there cut may so parted;
        is_cut = λ both. (let each = cuts both in ap is_cutlist are ∙ maps-cut inv (keeps-closed inv each.1) there (parted.is_cut each.0));
      }
      by_test true so =
          let law = parallel-law inv so in
          let cut_is : cut ≡ true = sym (or-none cut) ∙ ap (λ (any : Bool). cut || any) (sym law.1) ∙ parted.may in
          let took : leaves (tree_of (length parts.edges) parts.edges) ≡ parts.edges = leaves-are (length parts.edges) parts.edges some (omega arith) in
          let edge : ℕ = tree_edge (tree_over parts.edges) (length texts) in
          let steps : List Step = tree_steps number inv (tree_of (length parts.edges) parts.edges) (length texts) in
          let on : List (List ℕ) = texts_behind input files texts steps in
          let last : text_at on edge ≡ map_of inv text =
          tree-text input files number inv law.0 (tree_of (length parts.edges) parts.edges) texts there (subst (AllBelow (length texts)) (sym took) all) (ap (map (text_at texts)) took ∙ are) (parted.is_cut cut_is)
          ∙ ap (map_of inv) parted.whole in
          subst (λ (final : List (List ℕ)). Carries final (one_part (finish_edge inv edge (behind (length texts) steps))) (output_of inv (text ∷ []))) (sym (texts-append input files texts steps (finish_steps number inv edge)))
          (subst (λ (from : ℕ). Carries (texts_behind input files on (finish_steps number inv edge)) (one_part (finish_edge inv edge from)) (output_of inv (text ∷ []))) (texts-count input files texts steps)
          (by_finish law.0 on edge last))

  spread-carries : (width number : ℕ) (inv : Inv) (parts : Parts) (text : List ℕ) (texts : List (List ℕ)) → is_spread width inv ≡ true → AllBelow (length texts) parts.edges → Comes width inv text texts parts.edges parts.cut
      → Carries (texts_behind input files texts (spread_steps width number inv parts.edges (length texts))) (spread_parts width number inv parts (length texts)) (output_of inv (text ∷ []))
  spread-carries width number inv parts text texts spread all comes =
      let wide = leb-true 2 width (spread-wide width inv spread) in
      let there : List (List ℕ) = map (text_at (texts_behind input files texts (split_steps width number parts.edges))) (split_edges width parts.edges (length texts)) in
      let cut : Bool = split_cut width parts.edges parts.cut in
      let parted : Parted inv text there cut = split-parted width number inv parts.edges parts.cut text texts (omega (arith, wide)) comes in
      let mapped : List Step = mapped_steps width number inv parts.edges (length texts) in
      let maps : Parts = mapped_parts width number inv parts.edges (length texts) parts.cut in
      let on : List (List ℕ) = texts_behind input files texts mapped in
      let size : length on ≡ behind (length texts) mapped = texts-count input files texts mapped in
      let below : AllBelow (length on) maps.edges = below-texts texts mapped maps.edges ((mapped-passes width number inv parts.edges parts.cut (length texts)).within all) in
      let here = fold-carries number inv maps text there on cut (spread-class width inv spread) (mapped-some width number inv parts.edges parts.cut (length texts) (omega (arith, wide))) below
      (mapped-texts width number inv parts.edges parts.cut texts all) parted (λ both. and_parts cut (keeps_closed_of inv) both) in
      subst (λ (final : List (List ℕ)). Carries final (spread_parts width number inv parts (length texts)) (output_of inv (text ∷ []))) (sym (texts-append input files texts mapped (fold_steps number inv maps.edges (behind (length texts) mapped))))
      (subst (λ (from : ℕ). Carries (texts_behind input files on (fold_steps number inv maps.edges from)) (fold_parts number inv maps from) (output_of inv (text ∷ []))) size here)

  -- WHAT A STAGE WRITES
  -- the one input of a utility that is spread
  pub record OneInput (width : ℕ) (inv : Inv) (reads texts : List (List ℕ)) (edges : List ℕ) (cut : Bool) : Type 0 where
    pub text : List ℕ
    pub is_read : texts_read inv reads ≡ text ∷ []
    pub comes : Comes width inv text texts edges cut

  -- what stands on the edges that a utility takes, where it reads these texts
  pub record FrontReads (width : ℕ) (leads : Bool) (inv : Inv) (reads texts : List (List ℕ)) (edges : List ℕ) (cut : Bool) : Type 0 where
    pub led : is_leading_cat leads inv ≡ true → map (text_at texts) edges ≡ reads
    pub spread : is_leading_cat leads inv ≡ false → is_spread width inv ≡ true → OneInput width inv reads texts edges cut
    pub whole : is_leading_cat leads inv ≡ false → is_spread width inv ≡ false → map (text_at texts) edges ≡ texts_read inv reads

  one-text : (read : List (List ℕ)) → length read ≡ 1 → read ≡ only read ∷ []
  one-text [] is = absurd (omega (arith, is))
  one-text (text ∷ []) is = refl
  one-text (text ∷ other ∷ read) is = absurd (omega (arith, is))

  same-count : (texts : List (List ℕ)) (edges : List ℕ) → length (map (text_at texts) edges) ≡ length edges
  same-count texts [] = refl
  same-count texts (edge ∷ edges) = ap suc (same-count texts edges)

  -- a stream on one edge
  single-reads : (width : ℕ) (leads : Bool) (inv : Inv) (reads texts : List (List ℕ)) (edges : List ℕ) (cut : Bool) → (is_spread width inv ≡ true → length (texts_read inv reads) ≡ 1)
      → map (text_at texts) edges ≡ read_by leads inv reads → FrontReads width leads inv reads texts edges cut
  single-reads width leads inv reads texts edges cut one are = record {
    led = λ cat. are ∙ ap (λ (cat : Bool). if cat then reads else texts_read inv reads) cat;
    whole = λ cat spread. are ∙ ap (λ (cat : Bool). if cat then reads else texts_read inv reads) cat;
    spread = λ cat spread. (let read : map (text_at texts) edges ≡ texts_read inv reads = are ∙ ap (λ (cat : Bool). if cat then reads else texts_read inv reads) cat in
        let single : texts_read inv reads ≡ only (texts_read inv reads) ∷ [] = one-text (texts_read inv reads) (one spread) in
        let size : length edges ≡ 1 = sym (same-count texts edges) ∙ ap length read ∙ one spread in
        let wide = leb-true 2 width (spread-wide width inv spread) in
        record {
          text = only (texts_read inv reads);
          is_read = single;
          comes = inr (ne_eqb (length edges) width (λ same. omega (arith, same, size, wide)), read ∙ single);
        });
  }

  and-none : (test : Bool) → (test && false) ≡ false
  and-none true = refl
  and-none false = refl

  -- one that comes in parts
  parts-read : (width : ℕ) (leads : Bool) (inv : Inv) (reads texts : List (List ℕ)) (edges : List ℕ) (cut : Bool) (text : List ℕ) → leads ≡ false → is_spread width inv ≡ true → reads ≡ text ∷ []
      → Comes width inv text texts edges cut → FrontReads width leads inv reads texts edges cut
  parts-read width leads inv reads texts edges cut text later spread are comes = record {
    led = λ cat. absurd (true≢false (sym cat ∙ ap (λ (leads : Bool). is_cat inv && leads) later ∙ and-none (is_cat inv)));
    whole = λ cat other. absurd (true≢false (sym spread ∙ other));
    spread = λ cat is. record { text = text; is_read = ap (texts_read inv) are ∙ one-read inv text; comes = comes };
  }

  util-carries : (width number : ℕ) (leads : Bool) (inv : Inv) (parts : Parts) (texts reads : List (List ℕ)) → AllBelow (length texts) parts.edges → FrontReads width leads inv reads texts parts.edges parts.cut
      → Carries (texts_behind input files texts (util_steps width number leads inv parts.edges (length texts))) (util_parts width number leads inv parts (length texts)) (output_of inv (texts_read inv reads))
  util-carries width number leads inv parts texts reads all front = by_test (is_leading_cat leads inv) refl (is_spread width inv) refl
    where
      by_edges : (edges : List ℕ) → map (text_at texts) edges ≡ reads
          → Carries (texts_behind input files texts (if is_none edges then step (kind.Text []) [] number ∷ [] else [])) (parts_on (if is_none edges then length texts ∷ [] else edges) false) (concat reads)
      by_edges [] are = carries-one (texts ++ [] ∷ []) (length texts) (concat reads) (get-here texts [] [] [] ∙ ap concat are)
      by_edges (edge ∷ edges) are = record { whole = ap concat are; is_cut = λ cut. absurd (true≢false (sym cut)) }

      by_test : (cat : Bool) → is_leading_cat leads inv ≡ cat → (spread : Bool) → is_spread width inv ≡ spread
          → Carries
          (texts_behind input files texts (if cat then (if is_none parts.edges then step (kind.Text []) [] number ∷ [] else []) else if spread then spread_steps width number inv parts.edges (length texts) else step (kind.Whole inv) parts.edges number ∷ []))
          (if cat then parts_on (if is_none parts.edges then length texts ∷ [] else parts.edges) false else if spread then spread_parts width number inv parts (length texts) else one_part (length texts))
          (output_of inv (texts_read inv reads))
      by_test true cat spread is =
          carries-same (texts_behind input files texts (if is_none parts.edges then step (kind.Text []) [] number ∷ [] else [])) (parts_on (if is_none parts.edges then length texts ∷ [] else parts.edges) false)
          (concat reads) (output_of inv (texts_read inv reads)) (cat-joined inv (and_parts (is_cat inv) leads cat).0 reads) (by_edges parts.edges (front.led cat))
      by_test false cat true is =
          let it : OneInput width inv reads texts parts.edges parts.cut = front.spread cat is in
          carries-same (texts_behind input files texts (spread_steps width number inv parts.edges (length texts))) (spread_parts width number inv parts (length texts))
          (output_of inv (it.text ∷ [])) (output_of inv (texts_read inv reads)) (ap (output_of inv) (sym it.is_read))
          (spread-carries width number inv parts it.text texts is all it.comes)
      by_test false cat false is =
          carries-one (texts ++ output_of inv (map (text_at texts) parts.edges) ∷ []) (length texts) (output_of inv (texts_read inv reads))
          (get-here texts [] (output_of inv (map (text_at texts) parts.edges)) [] ∙ ap (output_of inv) (front.whole cat is))

  -- all that is written is carried, behind what comes first
  abbrev all_text : Does → List ℕ → List ℕ → List ℕ
  all_text does.Skip text written = written
  all_text (does.Util inv) text written = text ++ written

  first-carries : (number : ℕ) (it : Does) (text written : List ℕ) (parts : Parts) (texts : List (List ℕ)) → 1 ≤ length parts.edges → AllBelow (length texts) parts.edges → Carries texts parts written
      → Carries (texts_behind input files texts (first_steps number it text parts.edges)) (first_parts number it text parts (length texts)) (all_text it text written)
  first-carries number does.Skip text written parts texts some all carries = carries
  first-carries number (does.Util inv) text written parts texts some all carries = by_test (is_empty text) refl
    where
      by_test : (none : Bool) → is_empty text ≡ none
          → Carries (texts_behind input files texts (if none then [] else whole_steps number parts.edges ++ step (kind.Text text) [] number ∷ []))
          (if none then parts else parts_on (behind (length texts) (whole_steps number parts.edges) ∷ whole_edge parts.edges (length texts) ∷ []) false) (text ++ written)
      by_test true none = carries-same texts parts written (text ++ written) (ap (λ (it : List ℕ). it ++ written) (sym (none-empty text none))) carries
      by_test false some_text =
          let wholes : List Step = whole_steps number parts.edges in
          let edge : ℕ = whole_edge parts.edges (length texts) in
          let on : List (List ℕ) = texts_behind input files texts wholes in
          let last : List (List ℕ) = on ++ text ∷ [] in
          let below : edge < length on = one-below edge (length on) (below-texts texts wholes (edge ∷ []) ((whole-passes number parts.edges (length texts) some).within all)) in
          let there : text_at last edge ≡ written = get-front on (text ∷ []) edge [] below ∙ whole-text number parts.edges texts some ∙ carries.whole in
          record {
            whole = ap (λ (final : List (List ℕ)). concat (map (text_at final) (behind (length texts) wholes ∷ edge ∷ []))) (texts-append input files texts wholes (step (kind.Text text) [] number ∷ []))
                ∙ ap (λ (from : ℕ). text_at last from ++ (text_at last edge ++ [])) (sym (texts-count input files texts wholes))
                ∙ ap (λ (first : List ℕ). first ++ (text_at last edge ++ [])) (get-here on [] text [])
                ∙ ap (λ (rest : List ℕ). text ++ rest) (append-nil (text_at last edge) ∙ there);
            is_cut = λ cut. absurd (true≢false (sym cut));
          }

  -- the files of tee get it whole, and hand it on
  tee-text : (number : ℕ) (mode : Mode) (paths : List Components) (edge : ℕ) (texts : List (List ℕ)) → edge < length texts
      → text_at (texts_behind input files texts (tee_steps number mode paths edge (length texts))) (tee_edge paths edge (length texts)) ≡ text_at texts edge
  tee-text number mode [] edge texts less = refl
  tee-text number mode (path ∷ paths) edge texts less =
      let on : List (List ℕ) = texts ++ text_at texts edge ∷ [] in
      let size : length on ≡ length texts + 1 = length-append texts (text_at texts edge ∷ []) in
      ap (λ (from : ℕ). text_at (texts_behind input files on (tee_steps number mode paths (length texts) from)) (tee_edge paths (length texts) from)) (sym size)
      ∙ tee-text number mode paths (length texts) on (omega (arith, size)) ∙ get-here texts [] (text_at texts edge) []

  -- the edge on which they get it
  whole-below : (number : ℕ) (edges : List ℕ) (texts : List (List ℕ)) → 1 ≤ length edges → AllBelow (length texts) edges
      → whole_edge edges (length texts) < length (texts_behind input files texts (whole_steps number edges))
  whole-below number edges texts some all =
      let wholes : List Step = whole_steps number edges in
      let edge : ℕ = whole_edge edges (length texts) in
      one-below edge (length (texts_behind input files texts wholes)) (below-texts texts wholes (edge ∷ []) ((whole-passes number edges (length texts) some).within all))

  teed-carries : (number : ℕ) (mode : Mode) (paths : List Components) (written : List ℕ) (parts : Parts) (texts : List (List ℕ)) → 1 ≤ length parts.edges → AllBelow (length texts) parts.edges → Carries texts parts written
      → Carries (texts_behind input files texts (teed_steps number mode paths parts.edges (length texts))) (teed_parts number paths parts (length texts)) written
  teed-carries number mode [] written parts texts some all carries = carries
  teed-carries number mode (path ∷ paths) written parts texts some all carries =
      let all_paths : List Components = path ∷ paths in
      let wholes : List Step = whole_steps number parts.edges in
      let edge : ℕ = whole_edge parts.edges (length texts) in
      let on : List (List ℕ) = texts_behind input files texts wholes in
      let size : length on ≡ behind (length texts) wholes = texts-count input files texts wholes in
      let there : ℕ = behind (length texts) wholes in
      let tees : ℕ → List Step = tee_steps number mode all_paths edge in
      carries-one (texts_behind input files texts (wholes ++ tees there)) (tee_edge all_paths edge there) written
      (ap (λ (final : List (List ℕ)). text_at final (tee_edge all_paths edge there)) (texts-append input files texts wholes (tees there))
      ∙ ap (λ (from : ℕ). text_at (texts_behind input files on (tees from)) (tee_edge all_paths edge from)) (sym size)
      ∙ tee-text number mode all_paths edge on (whole-below number parts.edges texts some all)
      ∙ whole-text number parts.edges texts some ∙ carries.whole)

  files-carries : (number : ℕ) (it : Does) (paths : List Components) (written : List ℕ) (parts : Parts) (texts : List (List ℕ)) → 1 ≤ length parts.edges → AllBelow (length texts) parts.edges → Carries texts parts written
      → Carries (texts_behind input files texts (files_steps number it paths parts.edges (length texts))) (files_parts number it paths parts (length texts)) written
  files-carries number does.Skip paths written parts texts some all carries = carries
  files-carries number (does.Util inv) paths written parts texts some all carries = teed-carries number (tee_mode inv) paths written parts texts some all carries

  -- both
  beside-carries : (number : ℕ) (it : Does) (paths : List Components) (text written : List ℕ) (parts : Parts) (texts : List (List ℕ)) → 1 ≤ length parts.edges → AllBelow (length texts) parts.edges → Carries texts parts written
      → Carries (texts_behind input files texts (beside_steps number it paths text parts (length texts))) (beside_parts number it paths text parts (length texts)) (all_text it text written)
  beside-carries number it paths text written parts texts some all carries =
      let teed : List Step = files_steps number it paths parts.edges (length texts) in
      let given : Parts = files_parts number it paths parts (length texts) in
      let firsts : List Step = first_steps number it text given.edges in
      let on : List (List ℕ) = texts_behind input files texts teed in
      let size : length on ≡ behind (length texts) teed = texts-count input files texts teed in
      subst (λ (final : List (List ℕ)). Carries final (beside_parts number it paths text parts (length texts)) (all_text it text written)) (sym (texts-append input files texts teed firsts))
      (subst (λ (from : ℕ). Carries (texts_behind input files on firsts) (first_parts number it text given from) (all_text it text written)) size
      (first-carries number it text written given on (files-some number it paths parts (length texts) some)
      (below-texts texts teed given.edges ((files-passes number it paths parts (length texts) some).within all))
      (files-carries number it paths written parts texts some all carries)))

  abbrev done_text : Does → List ℕ → List (List ℕ) → List ℕ
  done_text does.Skip text reads = text
  done_text (does.Util inv) text reads = output_of inv (texts_read inv reads)

  written-is : (it : Does) (text : List ℕ) (reads : List (List ℕ)) → all_text it text (done_text it text reads) ≡ text ++ output_by it reads
  written-is does.Skip text reads = sym (append-nil text)
  written-is (does.Util inv) text reads = refl

  module _ (width number : ℕ) (comes : Coming) (stage : Stage) (texts : List (List ℕ)) (is : is_stage stage ≡ true) (may : MayCome width comes stage) (all : AllBelow (length texts) (open_coming comes)) (cut : Ready width comes stage texts) where
    abbrev next_edge : ℕ
    next_edge = length texts

    abbrev ins_texts_read : List (List ℕ)
    ins_texts_read = map (text_in (stream_text comes texts) files) stage.ins

    front_below : AllBelow (front_next number comes stage next_edge) (front_edges number comes stage next_edge)
    front_below = (front-passes width number comes stage next_edge (few-streams stage is)).within all

    abbrev fronts : List (List ℕ)
    fronts = texts_behind input files texts (front_steps number comes stage (length texts))

    fronts-size : length fronts ≡ front_next number comes stage next_edge
    fronts-size = texts-count input files texts (front_steps number comes stage next_edge)

    fronts-below : AllBelow (length fronts) (front_edges number comes stage next_edge)
    fronts-below = subst (λ (size : ℕ). AllBelow size (front_edges number comes stage next_edge)) (sym fronts-size) front_below

    abbrev taken : Parts
    taken = parts_on (front_edges number comes stage (length texts)) (comes_cut comes)

    pub front-reads : (inv : Inv) → stage.does ≡ does.Util inv
        → FrontReads width (begins comes) inv (map (text_in (stream_text comes texts) files) stage.ins) (texts_behind input files texts (front_steps number comes stage (length texts))) (front_edges number comes stage (length texts)) (comes_cut comes)
    front-reads inv same = by_comes comes refl may
      where
        fits : Fits inv stage
        fits = parts-of stage is inv same

        by_single : IsSingle comes → FrontReads width (begins comes) inv ins_texts_read fronts (front_edges number comes stage next_edge) (comes_cut comes)
        by_single single =
            single-reads width (begins comes) inv ins_texts_read fronts (front_edges number comes stage next_edge) (comes_cut comes)
            (λ spread. read-count inv ins_texts_read ∙ ap (read_of inv) (map-count (stream_text comes texts) stage.ins) ∙ sym fits.inputs ∙ spread-one width inv spread)
            (front-texts number comes stage texts single all ∙ ap (λ (it : Does). read_texts (begins comes) it ins_texts_read) same)

        by_taken : (parts : Parts) → comes ≡ coming.On parts → (it : IsTaken width parts stage) → it.inv ≡ inv → FrontReads width (begins comes) inv ins_texts_read fronts (front_edges number comes stage next_edge) (comes_cut comes)
        by_taken parts so it runs =
            let text : List ℕ = stream_text comes texts in
            let steps : front_steps number comes stage next_edge ≡ [] = ap (λ (it : Coming). front_steps number it stage next_edge) so ∙ lone-steps number parts stage next_edge it.inv it.runs it.lone in
            let edges : front_edges number comes stage next_edge ≡ parts.edges = ap (λ (it : Coming). front_edges number it stage next_edge) so ∙ lone-edges number parts stage next_edge it.inv it.runs it.lone in
            let on : fronts ≡ texts = ap (texts_behind input files texts) steps in
            let are : map (text_at fronts) (front_edges number comes stage next_edge) ≡ map (text_at texts) parts.edges =
            ap (λ (texts : List (List ℕ)). map (text_at texts) (front_edges number comes stage next_edge)) on ∙ ap (map (text_at texts)) edges in
            let cut_is : comes_cut comes ≡ parts.cut = ap comes_cut so in
            parts-read width (begins comes) inv ins_texts_read fronts (front_edges number comes stage next_edge) (comes_cut comes) text (ap begins so)
            (ap (is_spread width) (sym runs) ∙ it.spread) (ap (map (text_in text files)) it.lone)
            (inl (
              eq-eqb (length (front_edges number comes stage next_edge)) width (ap length edges ∙ it.count),
              record {
                whole = ap concat are ∙ sym (ap (λ (it : Coming). stream_text it texts) so);
                may = ap (λ (cut : Bool). cut || takes_any (class_of inv)) cut_is ∙ ap (λ (inv : Inv). parts.cut || takes_any (class_of inv)) (sym runs) ∙ it.may;
                is_cut = λ cut_so. (ap is_cutlist are ∙ subst (λ (it : Coming). ComesCut it texts) so cut.0 (sym cut_is ∙ cut_so));
              },
            ))

        by_comes : (it : Coming) → comes ≡ it → MayCome width it stage → FrontReads width (begins comes) inv ins_texts_read fronts (front_edges number comes stage next_edge) (comes_cut comes)
        by_comes (coming.Begins begin) so may = by_single (subst IsSingle (sym so) tt)
        by_comes (coming.On parts) so (inl one) = by_single (subst IsSingle (sym so) one)
        by_comes (coming.On parts) so (inr takes) = let it : IsTaken width parts stage = taken-of width parts stage takes in by_taken parts so it (same-util it.inv inv (sym it.runs ∙ same))
        by_comes coming.Nothing so may = by_single (subst IsSingle (sym so) tt)

    done-carries : Carries (texts_behind input files fronts (stage_steps width number (begins comes) stage.does stage.ins stage.first (front_edges number comes stage next_edge) (length fronts)))
        (stage_parts width number (begins comes) stage.does stage.ins taken (length fronts)) (done_text stage.does stage.first ins_texts_read)
    done-carries = by_test (is_grouped width (begins comes) stage.does stage.ins) refl
      where
        by_does : (it : Does) → stage.does ≡ it
            → Carries (texts_behind input files fronts (does_steps width number (begins comes) it stage.first (front_edges number comes stage next_edge) (length fronts)))
            (does_parts width number (begins comes) it taken (length fronts)) (done_text it stage.first ins_texts_read)
        by_does does.Skip same = carries-one (fronts ++ stage.first ∷ []) (length fronts) stage.first (get-here fronts [] stage.first [])
        by_does (does.Util inv) same = util-carries width number (begins comes) inv taken fronts ins_texts_read fronts-below (front-reads inv same)

        by_groups : GoesInGroups width (begins comes) stage.does stage.ins → list_all (holds_mark files) stage.ins ≡ true
            → Carries (texts_behind input files fronts (group_steps width number (front_edges number comes stage next_edge))) (group_parts width (length fronts)) (done_text stage.does stage.first ins_texts_read)
        by_groups so marks =
            let is_led = and_parts (is_cat so.inv) (begins comes) so.cat in
            carries-same (texts_behind input files fronts (group_steps width number (front_edges number comes stage next_edge))) (group_parts width (length fronts)) (concat ins_texts_read)
            (done_text stage.does stage.first ins_texts_read)
            (cat-joined so.inv is_led.0 ins_texts_read ∙ sym (ap (λ (it : Does). done_text it stage.first ins_texts_read) so.runs))
            (groups-carry width number (stream_text comes texts) stage.ins (front_edges number comes stage next_edge) fronts so.wide so.marked marks fronts-below ((front-reads so.inv so.runs).led so.cat))

        by_test : (groups : Bool) → is_grouped width (begins comes) stage.does stage.ins ≡ groups
            → Carries
            (texts_behind input files fronts (if groups then group_steps width number (front_edges number comes stage next_edge) else does_steps width number (begins comes) stage.does stage.first (front_edges number comes stage next_edge) (length fronts)))
            (if groups then group_parts width (length fronts) else does_parts width number (begins comes) stage.does taken (length fronts)) (done_text stage.does stage.first ins_texts_read)
        by_test true so = by_groups (grouped-so width (begins comes) stage.does stage.ins so) (cut.1 so)
        by_test false so = by_does stage.does refl

    abbrev dones : List (List ℕ)
    dones = texts_behind input files (texts_behind input files texts (front_steps number comes stage (length texts))) (done_steps width number comes stage (length texts))

    dones-size : length dones ≡ done_next width number comes stage next_edge
    dones-size = texts-count input files fronts (done_steps width number comes stage next_edge) ∙ ap (λ (from : ℕ). behind from (done_steps width number comes stage next_edge)) fronts-size

    dones-below : AllBelow (length dones) (done_parts width number comes stage next_edge).edges
    dones-below =
        subst (λ (size : ℕ). AllBelow size (done_parts width number comes stage next_edge).edges) (sym dones-size) ((does-passes width number comes stage next_edge (few-streams stage is)).within front_below)

    dones-carry : Carries dones (done_parts width number comes stage next_edge) (done_text stage.does stage.first ins_texts_read)
    dones-carry =
        subst
        (λ (from : ℕ). Carries (texts_behind input files fronts (stage_steps width number (begins comes) stage.does stage.ins stage.first (front_edges number comes stage next_edge) from)) (stage_parts width number (begins comes) stage.does stage.ins taken from)
        (done_text stage.does stage.first ins_texts_read)) fronts-size done-carries

    pub main-carries : Carries (texts_behind input files texts (main_steps width number comes stage (length texts))) (main_parts width number comes stage (length texts))
        (stage.first ++ output_by stage.does (map (text_in (stream_text comes texts) files) stage.ins))
    main-carries =
        let front : List Step = front_steps number comes stage next_edge in
        let done : List Step = done_steps width number comes stage next_edge in
        let parts : Parts = done_parts width number comes stage next_edge in
        let besides : ℕ → List Step = beside_steps number stage.does stage.tees stage.first parts in
        let there : ℕ = done_next width number comes stage next_edge in
        carries-same (texts_behind input files texts (main_steps width number comes stage next_edge)) (main_parts width number comes stage next_edge) (all_text stage.does stage.first (done_text stage.does stage.first ins_texts_read))
        (stage.first ++ output_by stage.does ins_texts_read) (written-is stage.does stage.first ins_texts_read)
        (subst (λ (final : List (List ℕ)). Carries final (main_parts width number comes stage next_edge) (all_text stage.does stage.first (done_text stage.does stage.first ins_texts_read)))
        (sym (texts-append input files texts front (done ++ besides there) ∙ texts-append input files fronts done (besides there)))
        (subst
        (λ (from : ℕ). Carries (texts_behind input files dones (besides from)) (beside_parts number stage.does stage.tees stage.first parts from) (all_text stage.does stage.first (done_text stage.does stage.first ins_texts_read))) dones-size
        (beside-carries number stage.does stage.tees stage.first (done_text stage.does stage.first ins_texts_read) parts dones (does-some width number comes stage next_edge (few-streams stage is)) dones-below dones-carry)))

    -- and on one edge
    pub end-text : text_at (texts_behind input files (texts_behind input files texts (main_steps width number comes stage (length texts))) (whole_steps number (main_parts width number comes stage (length texts)).edges)) (end_edge width number comes stage (length texts))
        ≡ stage.first ++ output_by stage.does (map (text_in (stream_text comes texts) files) stage.ins)
    end-text =
        let main : List Step = main_steps width number comes stage next_edge in
        let parts : Parts = main_parts width number comes stage next_edge in
        let on : List (List ℕ) = texts_behind input files texts main in
        ap (λ (from : ℕ). text_at (texts_behind input files on (whole_steps number parts.edges)) (whole_edge parts.edges from)) (sym (texts-count input files texts main))
        ∙ whole-text number parts.edges on (main-some width number comes stage next_edge (few-streams stage is)) ∙ main-carries.whole

  -- WRITES
  abbrev pub told_writes : List (List ℕ) → List Step → List Write
  told_writes texts steps = told_from input files writes_of texts steps

  -- these write nothing to the outside
  abbrev writes_nothing : NodeKind → Bool
  writes_nothing (kind.Sink sink) = false
  writes_nothing (kind.TeeFile path mode) = false
  writes_nothing other = true

  writes-none : (it : NodeKind) (ins : List (List ℕ)) → writes_nothing it ≡ true → writes_of it ins ≡ []
  writes-none (kind.Sink sink) ins is = absurd (true≢false (sym is))
  writes-none (kind.TeeFile path mode) ins is = absurd (true≢false (sym is))
  writes-none other ins is = refl

  quiet-writes : (texts : List (List ℕ)) (steps : List Step) → list_all (λ (it : Step). writes_nothing it.kind) steps ≡ true → told_writes texts steps ≡ []
  quiet-writes texts [] quiet = refl
  quiet-writes texts (it ∷ steps) quiet =
      let parts = and_parts (writes_nothing it.kind) (list_all (λ (it : Step). writes_nothing it.kind) steps) quiet in
      ap (λ (here : List Write). here ++ told_writes (texts_on input files texts it) steps) (writes-none it.kind (ins_texts texts it) parts.0)
      ∙ quiet-writes (texts_on input files texts it) steps parts.1

  nothing-passes : (width : ℕ) → Pass width (λ kind ins outs. writes_nothing kind)
  nothing-passes width =
      of-kinds width writes_nothing (λ text. refl) (λ close. refl) refl (λ source. refl) (λ inv built. refl) refl (λ inv built spread. refl) (λ inv built spread folds. refl) (λ inv built spread folds. refl)

  whole-quiet : (number : ℕ) (edges : List ℕ) (texts : List (List ℕ)) → told_writes texts (whole_steps number edges) ≡ []
  whole-quiet number edges texts = by_test (nat_lt 1 (length edges))
    where
      by_test : (many : Bool) → told_writes texts (if many then step (kind.Cat false) edges number ∷ [] else []) ≡ []
      by_test true = refl
      by_test false = refl

  -- the files of tee get what is on the edge
  abbrev tee_writes : Mode → List Components → List ℕ → List Write
  tee_writes mode [] text = []
  tee_writes mode (path ∷ paths) text = ToFile path mode text ∷ tee_writes mode paths text

  abbrev files_writes : Does → List Components → List ℕ → List Write
  files_writes does.Skip paths text = []
  files_writes (does.Util inv) paths text = tee_writes (tee_mode inv) paths text

  tee-writes : (number : ℕ) (mode : Mode) (paths : List Components) (edge : ℕ) (texts : List (List ℕ)) → edge < length texts
      → told_writes texts (tee_steps number mode paths edge (length texts)) ≡ tee_writes mode paths (text_at texts edge)
  tee-writes number mode [] edge texts less = refl
  tee-writes number mode (path ∷ paths) edge texts less =
      let on : List (List ℕ) = texts ++ text_at texts edge ∷ [] in
      let size : length on ≡ length texts + 1 = length-append texts (text_at texts edge ∷ []) in
      ap (λ (rest : List Write). ToFile path mode (text_at texts edge) ∷ rest)
      (ap (λ (from : ℕ). told_writes on (tee_steps number mode paths (length texts) from)) (sym size)
      ∙ tee-writes number mode paths (length texts) on (omega (arith, size))
      ∙ ap (tee_writes mode paths) (get-here texts [] (text_at texts edge) []))

  teed-writes : (number : ℕ) (mode : Mode) (paths : List Components) (written : List ℕ) (parts : Parts) (texts : List (List ℕ)) → 1 ≤ length parts.edges → AllBelow (length texts) parts.edges → Carries texts parts written
      → told_writes texts (teed_steps number mode paths parts.edges (length texts)) ≡ tee_writes mode paths written
  teed-writes number mode [] written parts texts some all carries = refl
  teed-writes number mode (path ∷ paths) written parts texts some all carries =
      let all_paths : List Components = path ∷ paths in
      let wholes : List Step = whole_steps number parts.edges in
      let edge : ℕ = whole_edge parts.edges (length texts) in
      let on : List (List ℕ) = texts_behind input files texts wholes in
      let tees : ℕ → List Step = tee_steps number mode all_paths edge in
      told-append input files writes_of texts wholes (tees (behind (length texts) wholes))
      ∙ ap (λ (quiet : List Write). quiet ++ told_writes on (tees (behind (length texts) wholes))) (whole-quiet number parts.edges texts)
      ∙ ap (λ (from : ℕ). told_writes on (tees from)) (sym (texts-count input files texts wholes))
      ∙ tee-writes number mode all_paths edge on (whole-below number parts.edges texts some all)
      ∙ ap (tee_writes mode all_paths) (whole-text number parts.edges texts some ∙ carries.whole)

  files-writes : (number : ℕ) (it : Does) (paths : List Components) (written : List ℕ) (parts : Parts) (texts : List (List ℕ)) → 1 ≤ length parts.edges → AllBelow (length texts) parts.edges → Carries texts parts written
      → told_writes texts (files_steps number it paths parts.edges (length texts)) ≡ files_writes it paths written
  files-writes number does.Skip paths written parts texts some all carries = refl
  files-writes number (does.Util inv) paths written parts texts some all carries = teed-writes number (tee_mode inv) paths written parts texts some all carries

  -- and what comes first writes nothing
  beside-writes : (width number : ℕ) (it : Does) (paths : List Components) (text written : List ℕ) (parts : Parts) (texts : List (List ℕ)) → 1 ≤ length parts.edges → AllBelow (length texts) parts.edges → Carries texts parts written
      → told_writes texts (beside_steps number it paths text parts (length texts)) ≡ files_writes it paths written
  beside-writes width number it paths text written parts texts some all carries =
      let teed : List Step = files_steps number it paths parts.edges (length texts) in
      let edges : List ℕ = (files_parts number it paths parts (length texts)).edges in
      told-append input files writes_of texts teed (first_steps number it text edges)
      ∙ ap (λ (quiet : List Write). told_writes texts teed ++ quiet)
      (quiet-writes (texts_behind input files texts teed) (first_steps number it text edges) (first-all width (λ kind ins outs. writes_nothing kind) (nothing-passes width) number it text edges))
      ∙ append-nil (told_writes texts teed) ∙ files-writes number it paths written parts texts some all carries

  tee-output : (mode : Mode) (paths : List Components) (text : List ℕ) → flat_map to_output (tee_writes mode paths text) ≡ []
  tee-output mode [] text = refl
  tee-output mode (path ∷ paths) text = tee-output mode paths text

  files-output : (it : Does) (paths : List Components) (text : List ℕ) → flat_map to_output (files_writes it paths text) ≡ []
  files-output does.Skip paths text = refl
  files-output (does.Util inv) paths text = tee-output (tee_mode inv) paths text

  tee-files : (mode : Mode) (paths : List Components) (text : List ℕ) → flat_map to_file (tee_writes mode paths text) ≡ map (λ path. (path, (mode, text))) paths
  tee-files mode [] text = refl
  tee-files mode (path ∷ paths) text = ap (λ (rest : List (Components × (Mode × List ℕ))). (path, (mode, text)) ∷ rest) (tee-files mode paths text)

  -- a tee that is built writes its input
  tee-writes-input : (tee : TeeInv) (texts : List (List ℕ)) → is_built_of (inv.Tee tee) ≡ true → length texts ≡ 1 → output_of (inv.Tee tee) texts ≡ only texts
  tee-writes-input tee [] built one = absurd (omega (arith, one))
  tee-writes-input tee (text ∷ other ∷ texts) built one = absurd (omega (arith, one))
  tee-writes-input tee (text ∷ []) built one = by_built (is_built_of (inv.Tee tee)) built
    where
      by_built : (is_built : Bool) → is_built ≡ true → (if is_built then text ++ [] else []) ≡ text
      by_built true built = append-nil text
      by_built false built = absurd (true≢false (sym built))

  abbrev teed_by : Inv → List ℕ → List Components → List (Components × (Mode × List ℕ))
  teed_by inv text paths = map (λ path. (path, (tee_mode inv, text))) paths

  gets-input : (stage : Stage) (texts : List (List ℕ)) → length texts ≡ length stage.ins → (inv : Inv) → Fits inv stage → (paths : List Components) → stage.tees ≡ paths
      → teed_by inv (output_of inv (texts_read inv texts)) paths ≡ teed_by inv (only (texts_read inv texts)) paths
  gets-input stage texts many inv fits [] same = refl
  gets-input stage texts many (inv.Tee tee) fits (path ∷ paths) same =
      ap (λ (text : List ℕ). teed_by (inv.Tee tee) text (path ∷ paths)) (tee-writes-input tee texts fits.built (many ∙ sym fits.inputs))
  gets-input stage texts many other fits (path ∷ paths) same = absurd (true≢false (sym fits.tees ∙ ap (λ (paths : List Components). is_none paths) same))

  -- so the files of a stage get what it means that they do
  teed-files : (stage : Stage) → is_stage stage ≡ true → (stream : List ℕ) → (it : Does) → stage.does ≡ it
      → flat_map to_file (files_writes it stage.tees (done_text it stage.first (map (text_in stream files) stage.ins))) ≡ files_teed it stage.tees (map (text_in stream files) stage.ins)
  teed-files stage is stream does.Skip same = refl
  teed-files stage is stream (does.Util inv) same =
      tee-files (tee_mode inv) stage.tees (output_of inv (texts_read inv (map (text_in stream files) stage.ins)))
      ∙ gets-input stage (map (text_in stream files) stage.ins) (length-map stage.ins (text_in stream files)) inv (parts-of stage is inv same) stage.tees refl

  -- what a stage writes up to where its output goes
  abbrev main_writes : Stage → List ℕ → List Write
  main_writes stage stream = files_writes stage.does stage.tees (done_text stage.does stage.first (map (text_in stream files) stage.ins))

  main-told : (width number : ℕ) (comes : Coming) (stage : Stage) (texts : List (List ℕ)) → is_stage stage ≡ true → MayCome width comes stage → AllBelow (length texts) (open_coming comes) → Ready width comes stage texts
      → told_writes texts (main_steps width number comes stage (length texts)) ≡ main_writes stage (stream_text comes texts)
  main-told width number comes stage texts is may all cut =
      let front : List Step = front_steps number comes stage (length texts) in
      let done : List Step = done_steps width number comes stage (length texts) in
      let parts : Parts = done_parts width number comes stage (length texts) in
      let besides : ℕ → List Step = beside_steps number stage.does stage.tees stage.first parts in
      let there : ℕ = done_next width number comes stage (length texts) in
      let one : List (List ℕ) = texts_behind input files texts front in
      let two : List (List ℕ) = texts_behind input files one done in
      told-append input files writes_of texts front (done ++ besides there)
      ∙ ap (λ (quiet : List Write). quiet ++ told_writes one (done ++ besides there))
      (quiet-writes texts front (front-all width (λ kind ins outs. writes_nothing kind) (nothing-passes width) number comes stage (length texts) may))
      ∙ told-append input files writes_of one done (besides there)
      ∙ ap (λ (quiet : List Write). quiet ++ told_writes two (besides there))
      (quiet-writes one done (done-all width (λ kind ins outs. writes_nothing kind) (nothing-passes width) number comes stage (length texts) is may))
      ∙ ap (λ (from : ℕ). told_writes two (besides from)) (sym (dones-size width number comes stage texts is may all cut))
      ∙ beside-writes width number stage.does stage.tees stage.first (done_text stage.does stage.first (map (text_in (stream_text comes texts) files) stage.ins)) parts two
      (does-some width number comes stage (length texts) (few-streams stage is)) (dones-below width number comes stage texts is may all cut) (dones-carry width number comes stage texts is may all cut)

  main-output : (stage : Stage) (stream : List ℕ) (others : List Write) → flat_map to_output (main_writes stage stream ++ others) ≡ flat_map to_output others
  main-output stage stream others =
      flat_map-append to_output (main_writes stage stream) others
      ∙ ap (λ (text : List ℕ). text ++ flat_map to_output others) (files-output stage.does stage.tees (done_text stage.does stage.first (map (text_in stream files) stage.ins)))

  stage-files : (stage : Stage) → is_stage stage ≡ true → (stream : List ℕ) (others : List Write)
      → flat_map to_file others ≡ led_to_file stage.out (stage.first ++ output_by stage.does (map (text_in stream files) stage.ins))
      → flat_map to_file (main_writes stage stream ++ others) ≡ (stage_means stage stream files).files
  stage-files stage is stream others led =
      flat_map-append to_file (main_writes stage stream) others
      ∙ ap (λ (teed : List (Components × (Mode × List ℕ))). teed ++ flat_map to_file others) (teed-files stage is stream stage.does refl)
      ∙ ap (λ (file : List (Components × (Mode × List ℕ))). files_teed stage.does stage.tees (map (text_in stream files) stage.ins) ++ file) led

  -- what is written where the output goes
  abbrev piped_writes : List ℕ → List Write
  piped_writes piped = if is_empty piped then [] else ToOutput piped ∷ []

  abbrev out_writes : Out → List ℕ → List ℕ → List Write
  out_writes out.Next text piped = ToOutput text ∷ []
  out_writes (out.File path mode) text piped = ToFile path mode text ∷ piped_writes piped
  out_writes out.Null text piped = piped_writes piped

  piped-writes : (number : ℕ) (piped : List ℕ) (texts : List (List ℕ)) → told_writes texts (piped_steps number piped (length texts)) ≡ piped_writes piped
  piped-writes number piped texts = by_test (is_empty piped)
    where
      by_test : (none : Bool)
          → told_writes texts (if none then [] else step (kind.Text piped) [] number ∷ step (kind.Sink to.Output) (length texts ∷ []) number ∷ []) ≡ (if none then [] else ToOutput piped ∷ [])
      by_test true = refl
      by_test false = ap (λ (text : List ℕ). ToOutput text ∷ []) (get-here texts [] piped [])

  out-writes : (number : ℕ) (it : Out) (piped : List ℕ) (edge : ℕ) (texts : List (List ℕ)) → told_writes texts (out_steps number it piped edge (length texts)) ≡ out_writes it (text_at texts edge) piped
  out-writes number out.Next piped edge texts = refl
  out-writes number (out.File path mode) piped edge texts = ap (λ (rest : List Write). ToFile path mode (text_at texts edge) ∷ rest) (piped-writes number piped texts)
  out-writes number out.Null piped edge texts = piped-writes number piped texts

  piped-output : (piped : List ℕ) → flat_map to_output (piped_writes piped) ≡ piped
  piped-output piped = by_test (is_empty piped) refl
    where
      by_test : (none : Bool) → is_empty piped ≡ none → flat_map to_output (if none then [] else ToOutput piped ∷ []) ≡ piped
      by_test true none = sym (none-empty piped none)
      by_test false some = append-nil piped

  piped-files : (piped : List ℕ) → flat_map to_file (piped_writes piped) ≡ []
  piped-files piped = by_test (is_empty piped)
    where
      by_test : (none : Bool) → flat_map to_file (if none then [] else ToOutput piped ∷ []) ≡ []
      by_test true = refl
      by_test false = refl

  out-output : (it : Out) (text piped : List ℕ) → flat_map to_output (out_writes it text piped) ≡ led_on it text piped
  out-output out.Next text piped = append-nil text
  out-output (out.File path mode) text piped = piped-output piped
  out-output out.Null text piped = piped-output piped

  out-files : (it : Out) (text piped : List ℕ) → flat_map to_file (out_writes it text piped) ≡ led_to_file it text
  out-files out.Next text piped = refl
  out-files (out.File path mode) text piped = ap (λ (rest : List (Components × (Mode × List ℕ))). (path, (mode, text)) ∷ rest) (piped-files piped)
  out-files out.Null text piped = piped-files piped

  -- and where it goes on to the next stage
  abbrev on_writes : Out → List ℕ → List Write
  on_writes out.Next text = []
  on_writes (out.File path mode) text = ToFile path mode text ∷ []
  on_writes out.Null text = []

  on-writes : (number : ℕ) (it : Out) (piped : List ℕ) (reads : Bool) (edge : ℕ) (texts : List (List ℕ)) → told_writes texts (on_steps number it piped reads edge) ≡ on_writes it (text_at texts edge)
  on-writes number out.Next piped reads edge texts = refl
  on-writes number (out.File path mode) piped true edge texts = refl
  on-writes number (out.File path mode) piped false edge texts = refl
  on-writes number out.Null piped true edge texts = refl
  on-writes number out.Null piped false edge texts = refl

  on-output : (it : Out) (text : List ℕ) → flat_map to_output (on_writes it text) ≡ []
  on-output out.Next text = refl
  on-output (out.File path mode) text = refl
  on-output out.Null text = refl

  on-files : (it : Out) (text : List ℕ) → flat_map to_file (on_writes it text) ≡ led_to_file it text
  on-files out.Next text = refl
  on-files (out.File path mode) text = refl
  on-files out.Null text = refl

  on-text : (number : ℕ) (it : Out) (piped : List ℕ) (reads : Bool) (edge : ℕ) (texts : List (List ℕ)) → reads ≡ true
      → stream_text (comes_on it reads edge (length texts)) (texts_behind input files texts (on_steps number it piped reads edge)) ≡ led_on it (text_at texts edge) piped
  on-text number out.Next piped reads edge texts is = append-nil (text_at texts edge)
  on-text number (out.File path mode) piped true edge texts is = append-nil (text_at (texts ++ piped ∷ []) (length texts)) ∙ get-here texts [] piped []
  on-text number (out.File path mode) piped false edge texts is = absurd (true≢false (sym is))
  on-text number out.Null piped true edge texts is = append-nil (text_at (texts ++ piped ∷ []) (length texts)) ∙ get-here texts [] piped []
  on-text number out.Null piped false edge texts is = absurd (true≢false (sym is))

  on-cut : (it : Out) (reads : Bool) (edge next : ℕ) (texts : List (List ℕ)) → ComesCut (comes_on it reads edge next) texts
  on-cut out.Next reads edge next texts = λ cut. absurd (true≢false (sym cut))
  on-cut (out.File path mode) true edge next texts = λ cut. absurd (true≢false (sym cut))
  on-cut (out.File path mode) false edge next texts = tt
  on-cut out.Null true edge next texts = λ cut. absurd (true≢false (sym cut))
  on-cut out.Null false edge next texts = tt

  -- A STAGE THAT DOESN'T READ ITS STREAM MEANS THE SAME WITH ANY
  pub ins-same : (one other : List ℕ) (ins : List In) → (list_any is_stream ins ≡ true → one ≡ other) → map (text_in one files) ins ≡ map (text_in other files) ins
  ins-same one other [] same = refl
  ins-same one other (inlet.Stream ∷ ins) same = ap (λ (stream : List ℕ). map (text_in stream files) (inlet.Stream ∷ ins)) (same refl)
  ins-same one other (inlet.File path closed ∷ ins) same = ap (λ (rest : List (List ℕ)). files path ∷ rest) (ins-same one other ins same)
  ins-same one other (inlet.Empty ∷ ins) same = ap (λ (rest : List (List ℕ)). [] ∷ rest) (ins-same one other ins same)

  abbrev stage_by : Stage → Does → List (List ℕ) → Outcome
  stage_by stage it texts =
      record {
        output = led_on stage.out (stage.first ++ output_by it texts) stage.piped;
        files = files_teed it stage.tees texts ++ led_to_file stage.out (stage.first ++ output_by it texts);
        status = status_by it stage.status texts;
      }

  pub stage-same : (stage : Stage) (one other : List ℕ) → (is_reader stage ≡ true → one ≡ other) → stage_means stage one files ≡ stage_means stage other files
  stage-same stage one other same = by_does stage.does refl
    where
      by_does : (it : Does) → stage.does ≡ it → stage_by stage stage.does (map (text_in one files) stage.ins) ≡ stage_by stage stage.does (map (text_in other files) stage.ins)
      by_does does.Skip is =
          ap (λ (it : Does). stage_by stage it (map (text_in one files) stage.ins)) is ∙ sym (ap (λ (it : Does). stage_by stage it (map (text_in other files) stage.ins)) is)
      by_does (does.Util inv) is =
          ap (stage_by stage stage.does) (ins-same one other stage.ins (λ some. same (ap (λ (it : Does). list_any is_stream (ins_read it stage.ins)) is ∙ some)))

  -- ALL STAGES
  abbrev pub Leaves : List Write → Outcome → Type 0
  Leaves written means = (flat_map to_output written ≡ means.output) × (flat_map to_file written ≡ means.files)

  pub last-told : (width number : ℕ) (comes : Coming) (stage : Stage) (texts : List (List ℕ)) (stream : List ℕ) → is_stage stage ≡ true → MayCome width comes stage → AllBelow (length texts) (open_coming comes) → Ready width comes stage texts
      → (is_reader stage ≡ true → stream_text comes texts ≡ stream) → Leaves (told_writes texts (last_steps width number comes stage (length texts))) (stage_means stage stream files)
  last-told width number comes stage texts stream is may all cut comes_so =
      let main : List Step = main_steps width number comes stage (length texts) in
      let wholes : List Step = whole_steps number (main_parts width number comes stage (length texts)).edges in
      let edge : ℕ = end_edge width number comes stage (length texts) in
      let outs : ℕ → List Step = out_steps number stage.out stage.piped edge in
      let last : ℕ = end_next width number comes stage (length texts) in
      let here : List ℕ = stream_text comes texts in
      let on : List (List ℕ) = texts_behind input files texts main in
      let end : List (List ℕ) = texts_behind input files on wholes in
      let size : length end ≡ last = texts-count input files on wholes ∙ ap (λ (from : ℕ). behind from wholes) (texts-count input files texts main) in
      let written : List ℕ = stage.first ++ output_by stage.does (map (text_in here files) stage.ins) in
      let out : List Write = out_writes stage.out written stage.piped in
      let told : told_writes texts (last_steps width number comes stage (length texts)) ≡ main_writes stage here ++ out =
      told-append input files writes_of texts main (wholes ++ outs last)
      ∙ ap (λ (teed : List Write). teed ++ told_writes on (wholes ++ outs last)) (main-told width number comes stage texts is may all cut)
      ∙ ap (λ (out : List Write). main_writes stage here ++ out)
      (told-append input files writes_of on wholes (outs last)
      ∙ ap (λ (quiet : List Write). quiet ++ told_writes end (outs last)) (whole-quiet number (main_parts width number comes stage (length texts)).edges on)
      ∙ ap (λ (from : ℕ). told_writes end (outs from)) (sym size)
      ∙ out-writes number stage.out stage.piped edge end
      ∙ ap (λ (text : List ℕ). out_writes stage.out text stage.piped) (end-text width number comes stage texts is may all cut)) in
      let same : stage_means stage here files ≡ stage_means stage stream files = stage-same stage here stream comes_so in (
        ap (flat_map to_output) told ∙ main-output stage here out ∙ out-output stage.out written stage.piped ∙ ap (λ (means : Outcome). means.output) same,
        ap (flat_map to_file) told ∙ stage-files stage is here out (out-files stage.out written stage.piped) ∙ ap (λ (means : Outcome). means.files) same,
      )

  -- an earlier stage
  next-writes : (it : Out) (text : List ℕ) → is_next it ≡ true → on_writes it text ≡ []
  next-writes out.Next text is = refl
  next-writes (out.File path mode) text is = absurd (true≢false (sym is))
  next-writes out.Null text is = absurd (true≢false (sym is))

  next-led : (it : Out) (text piped : List ℕ) → is_next it ≡ true → led_on it text piped ≡ text
  next-led out.Next text piped is = refl
  next-led (out.File path mode) text piped is = absurd (true≢false (sym is))
  next-led out.Null text piped is = absurd (true≢false (sym is))

  module _ (width number : ℕ) (comes : Coming) (stage following : Stage) (texts : List (List ℕ)) (is : is_stage stage ≡ true) (may : MayCome width comes stage) (all : AllBelow (length texts) (open_coming comes)) (cut : Ready width comes stage texts) where
    abbrev mains : List (List ℕ)
    mains = texts_behind input files texts (main_steps width number comes stage (length texts))

    abbrev parts : Parts
    parts = main_parts width number comes stage (length texts)

    abbrev edge : ℕ
    edge = end_edge width number comes stage (length texts)

    abbrev last : ℕ
    last = end_next width number comes stage (length texts)

    abbrev written : List ℕ
    written = stage.first ++ output_by stage.does (map (text_in (stream_text comes texts) files) stage.ins)

    abbrev ends : List (List ℕ)
    ends = texts_behind input files (texts_behind input files texts (main_steps width number comes stage (length texts))) (whole_steps number (main_parts width number comes stage (length texts)).edges)

    ends-size : length ends ≡ last
    ends-size = texts-count input files mains (whole_steps number parts.edges) ∙ ap (λ (from : ℕ). behind from (whole_steps number parts.edges)) (texts-count input files texts (main_steps width number comes stage (length texts)))

    goes-told : told_writes mains (goes_steps width number comes stage (length texts) following) ≡ on_writes stage.out written
    goes-told = by_test (hands_on width stage.out following parts) refl
      where
        by_test : (hands : Bool) → hands_on width stage.out following parts ≡ hands
            → told_writes mains (if hands then [] else whole_steps number parts.edges ++ on_steps number stage.out stage.piped (is_reader following) edge) ≡ on_writes stage.out written
        by_test true so = sym (next-writes stage.out written (and_parts (is_next stage.out) (takes_parts width following parts) so).0)
        by_test false so =
            told-append input files writes_of mains (whole_steps number parts.edges) (on_steps number stage.out stage.piped (is_reader following) edge)
            ∙ ap (λ (quiet : List Write). quiet ++ told_writes ends (on_steps number stage.out stage.piped (is_reader following) edge)) (whole-quiet number parts.edges mains)
            ∙ on-writes number stage.out stage.piped (is_reader following) edge ends ∙ ap (on_writes stage.out) (end-text width number comes stage texts is may all cut)

    goes-text : is_reader following ≡ true
        → stream_text (comes_behind width number comes stage (length texts) following) (texts_behind input files mains (goes_steps width number comes stage (length texts) following)) ≡ led_on stage.out written stage.piped
    goes-text reads = by_test (hands_on width stage.out following parts) refl
      where
        by_test : (hands : Bool) → hands_on width stage.out following parts ≡ hands
            → stream_text (if hands then coming.On parts else comes_on stage.out (is_reader following) edge last)
            (texts_behind input files mains (if hands then [] else whole_steps number parts.edges ++ on_steps number stage.out stage.piped (is_reader following) edge)) ≡ led_on stage.out written stage.piped
        by_test true so =
            (main-carries width number comes stage texts is may all cut).whole ∙ sym (next-led stage.out written stage.piped (and_parts (is_next stage.out) (takes_parts width following parts) so).0)
        by_test false so =
            ap (stream_text (comes_on stage.out (is_reader following) edge last)) (texts-append input files mains (whole_steps number parts.edges) (on_steps number stage.out stage.piped (is_reader following) edge))
            ∙ ap (λ (from : ℕ). stream_text (comes_on stage.out (is_reader following) edge from) (texts_behind input files ends (on_steps number stage.out stage.piped (is_reader following) edge))) (sym ends-size)
            ∙ on-text number stage.out stage.piped (is_reader following) edge ends reads
            ∙ ap (λ (text : List ℕ). led_on stage.out text stage.piped) (end-text width number comes stage texts is may all cut)

    goes-cut : ComesCut (comes_behind width number comes stage (length texts) following) (texts_behind input files mains (goes_steps width number comes stage (length texts) following))
    goes-cut = by_test (hands_on width stage.out following parts)
      where
        by_test : (hands : Bool)
            → ComesCut (if hands then coming.On parts else comes_on stage.out (is_reader following) edge last)
            (texts_behind input files mains (if hands then [] else whole_steps number parts.edges ++ on_steps number stage.out stage.piped (is_reader following) edge))
        by_test true = (main-carries width number comes stage texts is may all cut).is_cut
        by_test false =
            on-cut stage.out (is_reader following) edge last (texts_behind input files mains (whole_steps number parts.edges ++ on_steps number stage.out stage.piped (is_reader following) edge))

  -- an earlier stage
  pub record Goes (width number : ℕ) (comes : Coming) (stage following : Stage) (texts : List (List ℕ)) (stream : List ℕ) : Type 0 where
    pub quiet : flat_map to_output (told_writes texts (earlier_steps width number comes stage (length texts) following)) ≡ []
    pub written : flat_map to_file (told_writes texts (earlier_steps width number comes stage (length texts) following)) ≡ (stage_means stage stream files).files
    pub below : AllBelow (length (texts_behind input files texts (earlier_steps width number comes stage (length texts) following))) (open_coming (comes_behind width number comes stage (length texts) following))
    pub cut : Ready width (comes_behind width number comes stage (length texts) following) following (texts_behind input files texts (earlier_steps width number comes stage (length texts) following))
    pub goes_on : is_reader following ≡ true
        → stream_text (comes_behind width number comes stage (length texts) following) (texts_behind input files texts (earlier_steps width number comes stage (length texts) following)) ≡ (stage_means stage stream files).output

  pub earlier-goes : (width number : ℕ) (comes : Coming) (stage following : Stage) (texts : List (List ℕ)) (stream : List ℕ) → is_stage stage ≡ true → MayCome width comes stage → AllBelow (length texts) (open_coming comes)
      → Ready width comes stage texts → (is_reader stage ≡ true → stream_text comes texts ≡ stream) → Goes width number comes stage following texts stream
  earlier-goes width number comes stage following texts stream is may all cut comes_so =
      let main : List Step = main_steps width number comes stage (length texts) in
      let goes : List Step = goes_steps width number comes stage (length texts) following in
      let here : List ℕ = stream_text comes texts in
      let on : List (List ℕ) = texts_behind input files texts main in
      let written : List ℕ = stage.first ++ output_by stage.does (map (text_in here files) stage.ins) in
      let out : List Write = on_writes stage.out written in
      let told : told_writes texts (earlier_steps width number comes stage (length texts) following) ≡ main_writes stage here ++ out =
      told-append input files writes_of texts main goes
      ∙ ap (λ (teed : List Write). teed ++ told_writes on goes) (main-told width number comes stage texts is may all cut)
      ∙ ap (λ (out : List Write). main_writes stage here ++ out) (goes-told width number comes stage following texts is may all cut) in
      let same : stage_means stage here files ≡ stage_means stage stream files = stage-same stage here stream comes_so in
      record {
        quiet = ap (flat_map to_output) told ∙ main-output stage here out ∙ on-output stage.out written;
        written = ap (flat_map to_file) told ∙ stage-files stage is here out (on-files stage.out written) ∙ ap (λ (means : Outcome). means.files) same;
        below = below-texts texts (earlier_steps width number comes stage (length texts) following) (open_coming (comes_behind width number comes stage (length texts) following))
            ((earlier-passes width number comes stage (length texts) (few-streams stage is) following).within all);
        cut = (
          subst (λ (final : List (List ℕ)). ComesCut (comes_behind width number comes stage (length texts) following) final) (sym (texts-append input files texts main goes))
              (goes-cut width number comes stage following texts is may all cut),
          λ grouped. absurd (later-whole width (begins (comes_behind width number comes stage (length texts) following)) following.does following.ins (begins-behind width number comes stage (length texts) following) grouped),
        );
        goes_on = λ read.
            ap (stream_text (comes_behind width number comes stage (length texts) following)) (texts-append input files texts main goes)
            ∙ goes-text width number comes stage following texts is may all cut read ∙ ap (λ (means : Outcome). means.output) same;
      }

  pub chain-told : (width number : ℕ) (comes : Coming) (stage : Stage) (stages : List Stage) (texts : List (List ℕ)) (stream : List ℕ) → list_all is_stage (stage ∷ stages) ≡ true
      → MayCome width comes stage → AllBelow (length texts) (open_coming comes) → Ready width comes stage texts → (is_reader stage ≡ true → stream_text comes texts ≡ stream)
      → Leaves (told_writes texts (chain_steps width number comes (stage ∷ stages) (length texts))) (chain_means (stage ∷ stages) stream files)
  chain-told width number comes stage [] texts stream is may all cut comes_so = last-told width number comes stage texts stream (and_parts (is_stage stage) true is).0 may all cut comes_so
  chain-told width number comes stage (following ∷ stages) texts stream is may all cut comes_so =
      let parts = and_parts (is_stage stage) (list_all is_stage (following ∷ stages)) is in
      let here : List Step = earlier_steps width number comes stage (length texts) following in
      let on : Coming = comes_behind width number comes stage (length texts) following in
      let left : List (List ℕ) = texts_behind input files texts here in
      let means : Outcome = stage_means stage stream files in
      let goes = earlier-goes width number comes stage following texts stream parts.0 may all cut comes_so in
      let rest = chain-told width (number + 1) on following stages left means.output parts.1 (goes-may width number comes stage following (length texts)) goes.below goes.cut goes.goes_on in
      let told : told_writes texts (chain_steps width number comes (stage ∷ following ∷ stages) (length texts)) ≡ told_writes texts here ++ told_writes left (chain_steps width (number + 1) on (following ∷ stages) (length left)) =
      told-append input files writes_of texts here (chain_steps width (number + 1) on (following ∷ stages) (behind (length texts) here))
      ∙ ap (λ (from : ℕ). told_writes texts here ++ told_writes left (chain_steps width (number + 1) on (following ∷ stages) from)) (sym (texts-count input files texts here)) in
      let others : List Write = told_writes left (chain_steps width (number + 1) on (following ∷ stages) (length left)) in (
        ap (flat_map to_output) told ∙ flat_map-append to_output (told_writes texts here) others
            ∙ ap (λ (text : List ℕ). text ++ flat_map to_output others) goes.quiet ∙ rest.0,
        ap (flat_map to_file) told ∙ flat_map-append to_file (told_writes texts here) others
            ∙ ap (λ (written : List (Components × (Mode × List ℕ))). written ++ flat_map to_file others) goes.written
            ∙ ap (λ (written : List (Components × (Mode × List ℕ))). means.files ++ written) rest.1,
      )
