-- A tree of aggregates in place of one: the graph keeps the flow.
use Rattle.std.proofs.Common.{◌≡◌, ℕ, zero, suc, ◌+◌, ◌-◌, ◌/◌, ◌<◌, ◌≤◌, ◌==◌, List, [], ◌∷◌, ◌++◌, Bool, true, false, ◌&&◌, nat_eq, nat_le, nat_lt, if◌then◌else◌, Option, None, Some, IfSome, length, map, get_or, take, drop, replicate, refl, ap, sym, subst, ◌∙◌, append-nil, append_assoc, arith, eq-eqb, ⊎_elim}
use Rattle.std.specs.List.{concat, flat_map, list_all, list_any, range_with_len, slice_get}
use Rattle.std.specs.Cmp.Lexicographic.{pointwise}
use Rattle.std.specs.Option.{option_and_then, option_map}
use Rattle.std.proofs.lemmas.Bool.{true≢false, and_parts, and_from, or_left, or_right, or_cases, eqb-true, leb-true, ltb-true}
use Rattle.std.proofs.lemmas.Option.{none-some, cond_some, slice_get_within}
use Rattle.std.proofs.lemmas.List.{length-map, length-take-le, length-drop, take-append-drop}
use Rattle.std.proofs.lemmas.List.{nil_from_length}
use Rattle.std.proofs.lemmas.Grind.{flat_map-append}
use Rattle.std.proofs.lemmas.List.Folds.{list_all-append, list_all-map}
use Rattle.ps_lines.specs.Lines.{is_cutlist}
use Rattle.ut_args.specs.Built.{is_built_of}
use Rattle.ut_args.specs.Classes.{class_of}
use Rattle.ut_args.specs.Inputs.{inputs_of}
use Rattle.ut_args.specs.Invocations.{words_of}
use Rattle.ut_args.specs.declared.invocations.Inv.{Inv}
use Rattle.ut_args.proofs.CommandLemmas.{determined}
use Rattle.fl_graph.specs.Net.{has, count, takes, gives, after}
use Rattle.fl_graph.specs.Checks.{takes_given, each_after}
use Rattle.fl_graph.specs.Kinds.{has_its_ports, reads_one_input, has_its_class, has_aggregator, runs_what_is_built, may_have}
use Rattle.fl_graph.specs.Makers.{Made, Absent, Given, Mapped, makes, made_by, absent, tells_maps, is_mapped, same_words, all_hold}
use Rattle.fl_graph.specs.Valid.{Valid}
use Rattle.fl_graph.specs.declared.graphs.Cell.{Cell}
use Rattle.fl_graph.specs.declared.graphs.Graph.{Graph}
use Rattle.fl_graph.specs.declared.graphs.StatusRule.{StatusRule}
use Rattle.fl_graph.specs.declared.kinds.NodeKind.{NodeKind}
use Rattle.fl_graph.specs.declared.kinds.NodeKind.TheVariants as kind
use Rattle.fl_graph.proofs.ListLemmas.{holds-has, count-append}
use Rattle.fl_graph.proofs.NetLemmas.{has-front, has-back}
use Rattle.fl_classes.specs.Aggregates.{map_of, joined_maps, aggregate_from, aggregate_of}
use Rattle.fl_classes.specs.Laws.{IsParallel}
use Rattle.fl_classes.proofs.ClassLemmas.{is-of-class}
use Rattle.fl_classes.specs.Flow.{status_by}
use Rattle.fl_rewrites.specs.Keeps.{Keeps, Answers, KeepsFlow}
use Rattle.fl_rewrites.specs.declared.answers.Rewritten.{Rewritten}
use Rattle.fl_rewrites.specs.Numbering.{numbered}
use Rattle.fl_rewrites.specs.Places.{replaced}
use Rattle.fl_rewrites.specs.Replacing.{renamed_status, exchanged}
use Rattle.fl_rewrites.specs.Suits.{Value, with_origin, values_given, asks}
use Rattle.fl_rewrites.proofs.OrderLemmas.{Each, each-front, each-back, OfAll, IsMet, told, along, same-values}
use Rattle.fl_rewrites.proofs.SoundLemmas.{IsSound, sound-valid, maps-told, made-met}
use Rattle.fl_rewrites.proofs.CarryLemmas.{Carries, text_of, asked, selected, LeavesAlways, keeps, answers-keep, made-of}
use Rattle.fl_rewrites.proofs.PlacedLemmas.{next_source, numbered_cell, sources_behind}
use Rattle.fl_rewrites.proofs.SpliceLemmas.{after-front, count-before, count-row}
use Rattle.fl_rewrites.proofs.PlaceLemmas.{stands-at}
use Rattle.fl_rewrites.proofs.KnownLemmas.{one-edge, only-one, same-edges}
use Rattle.fl_rewrites.proofs.ExchangeLemmas.{was, becomes, Rewires, Follows}
use Rattle.fl_rewrites.proofs.ExchangedLemmas.{AreFit, JoinsMaps, IsMore, is_inner, held-both, held-parts, sound-exchange}
use Rattle.fl_rewrites.proofs.CarriedLemmas.{is_map, Lost, GivesSame, AtExchange, at-exchange, leaves-exchange, carries-parts, one-each}
use Rattle.fl_rewrites.proofs.StandLemmas.{names-standing, status-standing}
use Rattle.fl_rewrites.proofs.ValueLemmas.{Fewer, fewer-append, fewer-cut, fewer-none, fewer-same}
use Rattle.fl_rewrites.proofs.JoinedLemmas.{same-cell, ports-of}
use Rattle.fl_combine.specs.Aggregating.{agg_cell}
use Rattle.fl_segments.specs.Inner.Steps.{Tree, Leaf, Join, joins_of, tree_over, half_of}
use Rattle.fl_segments.proofs.StageLemmas.{leaves, leaves-are, over-halves}
use Rattle.fl_segments.proofs.FoldLemmas.{cut-two}
use Rattle.fl_combine.specs.Fanning.{root, tree_cells, tree_for, tree_at, fanned}
use Rattle.fl_combine.proofs.AggregateLemmas.{words-same, parallel-law}
use Rattle.fl_combine.proofs.TreeLemmas.{gives-tree, takes-tree, all-tree, follows-tree, concat-parts, gathers, tree-holds}

-- words that are compared
words-are : (one other : List (List ℕ)) → same_words one other ≡ true → one ≡ other
words-are [] [] same = refl
words-are [] (word ∷ other) same = absurd (true≢false (sym same))
words-are (word ∷ one) [] same = absurd (true≢false (sym same))
words-are (word ∷ one) (another ∷ other) same =
    let parts = and_parts (pointwise nat_eq word another) (same_words one other) same in
    ap (λ (first : List ℕ). first ∷ one) (same-edges word another parts.0) ∙ ap (λ (rest : List (List ℕ)). another ∷ rest) (words-are one other parts.1)

-- an edge of a map carries the map of the texts joined whose maps it gathers
abbrev pub Gathers : (ℕ → Made) → (ℕ → Value) → ℕ → Type 0
Gathers made one edge = (inv : Inv) → is_mapped (words_of inv) (made edge) ≡ true → (one edge).text ≡ map_of inv (concat (one edge).maps)

made-outs : (made : ℕ → Made) (by : Made) (outs : List ℕ) → map made outs ≡ replicate (length outs) by → OfAll (λ edge. made edge ≡ by) outs
made-outs made by outs same = same-values outs made (λ edge. by) (same ∙ constant outs)
  where
    constant : (edges : List ℕ) → replicate (length edges) by ≡ map (λ (edge : ℕ). by) edges
    constant [] = refl
    constant (edge ∷ edges) = ap (λ (rest : List Made). by ∷ rest) (constant edges)

-- maps joined from the left are that of their texts joined
module _ (inv : Inv) (law : IsParallel inv) where
  abbrev CarriesMap : Value → Type 0
  CarriesMap value = value.text ≡ map_of inv (concat value.maps)

  fold-from : (texts : List (List ℕ)) (values : List Value) → Each CarriesMap values → is_cutlist (texts ++ flat_map (λ (value : Value). value.maps) values) ≡ true
      → aggregate_from inv (map_of inv (concat texts)) (map text_of values) ≡ map_of inv (concat (texts ++ flat_map (λ (value : Value). value.maps) values))
  fold-from texts [] each cut = ap (λ (it : List (List ℕ)). map_of inv (concat it)) (sym (append-nil texts))
  fold-from texts (value ∷ values) each cut =
      let rest : List (List ℕ) = flat_map (λ (value : Value). value.maps) values in
      let whole : is_cutlist ((texts ++ value.maps) ++ rest) ≡ true = ap is_cutlist (append_assoc texts value.maps rest) ∙ cut in
      let front : is_cutlist (texts ++ value.maps) ≡ true =
      ap is_cutlist (sym (append-nil (texts ++ value.maps))) ∙ fewer-cut (fewer-append (fewer-same (texts ++ value.maps)) (fewer-none rest)) whole in
      ap (λ (text : List ℕ). aggregate_from inv (joined_maps inv (map_of inv (concat texts)) text) (map text_of values)) each.0
      ∙ ap (λ (joined : List ℕ). aggregate_from inv joined (map text_of values))
      (sym (law.joins (concat texts) (concat value.maps) (cut-two texts value.maps front)) ∙ ap (map_of inv) (sym (concat-parts texts value.maps)))
      ∙ fold-from (texts ++ value.maps) values each.1 whole
      ∙ ap (λ (it : List (List ℕ)). map_of inv (concat it)) (append_assoc texts value.maps rest)

  fold-all : (values : List Value) → 1 ≤ length values → Each CarriesMap values → is_cutlist (flat_map (λ (value : Value). value.maps) values) ≡ true
      → aggregate_of inv (map text_of values) ≡ map_of inv (concat (flat_map (λ (value : Value). value.maps) values))
  fold-all [] none each cut = absurd (omega (arith, none))
  fold-all (value ∷ values) some each cut =
      ap (λ (text : List ℕ). aggregate_from inv text (map text_of values)) each.0 ∙ fold-from value.maps values each.1 cut

  each-carries : (one : ℕ → Value) (edges : List ℕ) → OfAll (λ edge. CarriesMap (one edge)) edges → Each CarriesMap (map one edges)
  each-carries one [] all = tt
  each-carries one (edge ∷ edges) all =
      (all edge (or_left (edge == edge) (has edge edges) (eq-eqb edge edge refl)), each-carries one edges (λ other there. all other (or_right (edge == other) (has other edges) there)))

module _ (made : ℕ → Made) (sources : List (List ℕ)) (one : ℕ → Value) where
  plain-gathers : (cell : Cell NodeKind) → IsMet makes made cell → made_by cell.kind ≡ Given → OfAll (Gathers made one) cell.outs
  plain-gathers cell met plain edge there inv is =
      absurd (true≢false (sym is ∙ ap (is_mapped (words_of inv)) (made-outs made (made_by cell.kind) cell.outs met edge there ∙ plain)))

  map-gathers : (number : ℕ) (cell : Cell NodeKind) (inv : Inv) → cell.kind ≡ kind.Map inv → has_its_ports cell ≡ true → IsMet (values_given sources) one (numbered_cell number cell) → IsMet makes made cell
      → OfAll (Gathers made one) cell.outs
  map-gathers number cell inv is ports met made_is edge there other mapped =
      let ports_are = and_parts (length cell.ins == 1) (length cell.outs == 1) (ap (λ (node : NodeKind). may_have node (length cell.ins) (length cell.outs)) (sym is) ∙ ports) in
      let ins = one-edge cell.ins ports_are.0 in
      let outs = one-edge cell.outs ports_are.1 in
      let edge_is : outs.edge ≡ edge = only-one edge outs.edge (ap (has edge) (sym outs.all) ∙ there) in
      let carried : one outs.edge ∷ [] ≡ with_origin (kind.Map inv) (one ins.edge ∷ []) (map_of inv (one ins.edge).text) ∷ [] =
      ap (map one) (sym outs.all) ∙ met ∙ ap (λ (node : NodeKind). values_given sources (number, node) (length cell.outs) (map one cell.ins)) is
      ∙ ap (λ (edges : List ℕ). values_given sources (number, kind.Map inv) (length cell.outs) (map one edges)) ins.all in
      let value : one edge ≡ with_origin (kind.Map inv) (one ins.edge ∷ []) (map_of inv (one ins.edge).text) = ap one (sym edge_is) ∙ ap (λ (all : List Value). get_or all 0 (one outs.edge)) carried in
      let of : made edge ≡ Mapped (words_of inv) = made-outs made (made_by cell.kind) cell.outs made_is edge there ∙ ap made_by is in
      let same : other ≡ inv = determined other inv (words-are (words_of other) (words_of inv) (sym (ap (is_mapped (words_of other)) of) ∙ mapped)) in
      ap text_of value ∙ ap (map_of inv) (sym (append-nil (one ins.edge).text)) ∙ ap (λ (texts : List (List ℕ)). map_of inv (concat texts)) (sym (ap (λ (it : Value). it.maps) value))
      ∙ ap (λ (it : Inv). map_of it (concat (one edge).maps)) (sym same)

  agg-gathers : (number : ℕ) (cell : Cell NodeKind) (inv : Inv) → cell.kind ≡ kind.Agg inv → has_its_ports cell ≡ true → has_its_class cell.kind ≡ true
      → IsMet (values_given sources) one (numbered_cell number cell) → IsMet makes made cell → all_hold (tells_maps cell.kind (map made cell.ins)) ≡ true → all_hold (asks cell.kind (map one cell.ins)) ≡ true
      → OfAll (Gathers made one) cell.ins → OfAll (Gathers made one) cell.outs
  agg-gathers number cell inv is ports of_class met made_is joins asked_of ins edge there other mapped =
      let ports_are = and_parts (nat_le 2 (length cell.ins)) (length cell.outs == 1) (ap (λ (node : NodeKind). may_have node (length cell.ins) (length cell.outs)) (sym is) ∙ ports) in
      let two = leb-true 2 (length cell.ins) ports_are.0 in
      let outs = one-edge cell.outs ports_are.1 in
      let edge_is : outs.edge ≡ edge = only-one edge outs.edge (ap (has edge) (sym outs.all) ∙ there) in
      let carried : one outs.edge ∷ [] ≡ with_origin (kind.Agg inv) (map one cell.ins) (aggregate_of inv (map text_of (map one cell.ins))) ∷ [] =
      ap (map one) (sym outs.all) ∙ met ∙ ap (λ (node : NodeKind). values_given sources (number, node) (length cell.outs) (map one cell.ins)) is in
      let value : one edge ≡ with_origin (kind.Agg inv) (map one cell.ins) (aggregate_of inv (map text_of (map one cell.ins))) = ap one (sym edge_is) ∙ ap (λ (all : List Value). get_or all 0 (one outs.edge)) carried in
      let of : made edge ≡ Mapped (words_of inv) = made-outs made (made_by cell.kind) cell.outs made_is edge there ∙ ap made_by is in
      let same : other ≡ inv = determined other inv (words-are (words_of other) (words_of inv) (sym (ap (is_mapped (words_of other)) of) ∙ mapped)) in
      let law : IsParallel inv = (parallel-law inv (class_of inv) refl (is-of-class inv) (sym (ap has_its_class is) ∙ of_class)).0 in
      let all_mapped : list_all (is_mapped (words_of inv)) (map made cell.ins) ≡ true =
      (and_parts (list_all (is_mapped (words_of inv)) (map made cell.ins)) true (sym (ap (λ (node : NodeKind). all_hold (tells_maps node (map made cell.ins))) is) ∙ joins)).0 in
      let each_mapped : list_all (λ edge. is_mapped (words_of inv) (made edge)) cell.ins ≡ true = sym (list_all-map (is_mapped (words_of inv)) made cell.ins) ∙ all_mapped in
      let cut : is_cutlist (flat_map (λ (value : Value). value.maps) (map one cell.ins)) ≡ true =
      (and_parts (is_cutlist (flat_map (λ (value : Value). value.maps) (map one cell.ins))) true (sym (ap (λ (node : NodeKind). all_hold (asks node (map one cell.ins))) is) ∙ asked_of)).0 in
      let some : 1 ≤ length (map one cell.ins) = (let size = length-map cell.ins one in omega (arith, two, size)) in
      let each = each-carries inv law one cell.ins (λ it taken. ins it taken inv (holds-has (λ edge. is_mapped (words_of inv) (made edge)) it cell.ins each_mapped taken)) in
      ap text_of value ∙ fold-all inv law (map one cell.ins) some each cut
      ∙ ap (λ (texts : List (List ℕ)). map_of inv (concat texts)) (sym (ap (λ (it : Value). it.maps) value)) ∙ ap (λ (it : Inv). map_of it (concat (one edge).maps)) (sym same)

  gathers-step : (number : ℕ) (cell : Cell NodeKind) (node : NodeKind) → cell.kind ≡ node → has_its_ports cell ≡ true → has_its_class cell.kind ≡ true
      → IsMet (values_given sources) one (numbered_cell number cell) → IsMet makes made cell → all_hold (tells_maps cell.kind (map made cell.ins)) ≡ true → all_hold (asks cell.kind (map one cell.ins)) ≡ true
      → OfAll (Gathers made one) cell.ins → OfAll (Gathers made one) cell.outs
  gathers-step number cell (kind.Map inv) is ports of_class met made_is joins asked_of ins = map-gathers number cell inv is ports met made_is
  gathers-step number cell (kind.Agg inv) is ports of_class met made_is joins asked_of ins = agg-gathers number cell inv is ports of_class met made_is joins asked_of ins
  gathers-step number cell (kind.Source source) is ports of_class met made_is joins asked_of ins = plain-gathers cell made_is (ap made_by is)
  gathers-step number cell (kind.Text text) is ports of_class met made_is joins asked_of ins = plain-gathers cell made_is (ap made_by is)
  gathers-step number cell kind.Split is ports of_class met made_is joins asked_of ins = plain-gathers cell made_is (ap made_by is)
  gathers-step number cell (kind.Whole inv) is ports of_class met made_is joins asked_of ins = plain-gathers cell made_is (ap made_by is)
  gathers-step number cell (kind.Cat close) is ports of_class met made_is joins asked_of ins = plain-gathers cell made_is (ap made_by is)
  gathers-step number cell (kind.Finish inv) is ports of_class met made_is joins asked_of ins = plain-gathers cell made_is (ap made_by is)
  gathers-step number cell (kind.TeeFile path mode) is ports of_class met made_is joins asked_of ins = plain-gathers cell made_is (ap made_by is)
  gathers-step number cell kind.Drain is ports of_class met made_is joins asked_of ins = plain-gathers cell made_is (ap made_by is)
  gathers-step number cell (kind.Sink sink) is ports of_class met made_is joins asked_of ins = plain-gathers cell made_is (ap made_by is)

  gathers-on : (number : ℕ) (cells : List (Cell NodeKind)) → list_all has_its_ports cells ≡ true → list_all (λ cell. has_its_class cell.kind) cells ≡ true → Carries sources number cells one
      → Each (IsMet makes made) cells → all_hold (told tells_maps made cells) ≡ true → all_hold (asked sources one cells) ≡ true
      → Each (λ cell. OfAll (Gathers made one) cell.ins → OfAll (Gathers made one) cell.outs) cells
  gathers-on number [] ports classes met made_is joins asked_of = tt
  gathers-on number (cell ∷ cells) ports classes met made_is joins asked_of =
      let port = and_parts (has_its_ports cell) (list_all has_its_ports cells) ports in
      let classed = and_parts (has_its_class cell.kind) (list_all (λ cell. has_its_class cell.kind) cells) classes in
      let joined = and_parts (all_hold (tells_maps cell.kind (map made cell.ins))) (all_hold (told tells_maps made cells))
      (sym (list_all-append (λ (it : Bool). it) (tells_maps cell.kind (map made cell.ins)) (told tells_maps made cells)) ∙ joins) in
      let asking = and_parts (all_hold (asks cell.kind (map one cell.ins))) (all_hold (asked sources one cells))
      (sym (list_all-append (λ (it : Bool). it) (asks cell.kind (map one cell.ins)) (asked sources one cells)) ∙ asked_of) in
      (gathers-step number cell cell.kind refl port.0 classed.0 met.0 made_is.0 joined.0 asking.0, gathers-on (next_source number cell) cells port.1 classed.1 met.1 made_is.1 joined.1 asking.1)

-- an aggregate of these edges, and the tree in its place
module _ (front back : List (Cell NodeKind)) (inv : Inv) (left right : Tree) (out stage next : ℕ) (before : StatusRule) where
  abbrev ins : List ℕ
  ins = leaves left ++ leaves right

  abbrev joins : Cell NodeKind
  joins = agg_cell inv ins (out ∷ []) stage

  abbrev news : List (Cell NodeKind)
  news = tree_cells inv stage (Join left right) (out ∷ []) next

  abbrev all : List (Cell NodeKind)
  all = was front [] [] (joins ∷ []) back

  abbrev now : StatusRule
  now = renamed_status (length front) (length news) 0 before

  module _ (sound : IsSound all before) where
    -- the aggregate is as validity asks
    record IsFit : Type 0 where
      given : OfAll (λ edge. has edge (gives front) ≡ true) ins
      reads_one : inputs_of inv ≡ 1
      has_joins : has_aggregator (class_of inv) ≡ true
      built : is_built_of inv ≡ true
      law : IsParallel inv

    fit : IsFit
    fit =
        let first = and_parts (each_after takes_given [] front) (each_after takes_given front (joins ∷ back)) (sym (after-front takes_given [] front (joins ∷ back)) ∙ sound.wired.later) in
        let second = and_parts (takes_given front joins) (each_after takes_given (front ++ joins ∷ []) back) first.1 in
        let reads = and_parts (inputs_of inv == 1) (list_all (λ cell. reads_one_input cell.kind) back)
        (and_parts (list_all (λ cell. reads_one_input cell.kind) front) (list_all (λ cell. reads_one_input cell.kind) (joins ∷ back)) (sym (list_all-append (λ (cell : Cell NodeKind). reads_one_input cell.kind) front (joins ∷ back)) ∙ sound.inputs)).1 in
        let classes = and_parts (has_aggregator (class_of inv)) (list_all (λ cell. has_its_class cell.kind) back)
        (and_parts (list_all (λ cell. has_its_class cell.kind) front) (list_all (λ cell. has_its_class cell.kind) (joins ∷ back)) (sym (list_all-append (λ (cell : Cell NodeKind). has_its_class cell.kind) front (joins ∷ back)) ∙ sound.classes)).1 in
        let builds = and_parts (is_built_of inv) (list_all (λ cell. runs_what_is_built cell.kind) back)
        (and_parts (list_all (λ cell. runs_what_is_built cell.kind) front) (list_all (λ cell. runs_what_is_built cell.kind) (joins ∷ back)) (sym (list_all-append (λ (cell : Cell NodeKind). runs_what_is_built cell.kind) front (joins ∷ back)) ∙ sound.built)).1 in
        record {
          given = λ edge there. holds-has (λ edge. has edge (gives front)) edge ins second.0 there;
          reads_one = eqb-true (inputs_of inv) 1 reads.0;
          has_joins = classes.0;
          built = builds.0;
          law = (parallel-law inv (class_of inv) refl (is-of-class inv) classes.0).0;
        }

    rewires : Rewires [] (joins ∷ []) news next
    rewires =
        let row : List ℕ = range_with_len next (joins_of left + joins_of right) in
        record {
          inner = [];
          fresh = row;
          takes_same = λ edge. (let one = takes-tree inv stage left right (out ∷ []) next edge in let two = count-append edge ins [] in omega (arith, one, two));
          gives_same = λ edge. (let one = gives-tree inv stage left right (out ∷ []) next edge in omega (arith, one));
          high = λ edge low. count-before edge next (joins_of left + joins_of right) low;
          single = λ edge. count-row edge next (joins_of left + joins_of right);
          joins = λ edge. omega arith;
          taken = λ edge. omega arith;
        }

    news_fit : AreFit news
    news_fit = record {
      inner = all-tree inv stage (λ cell. is_inner cell.kind) (λ one other outs size. refl) (Join left right) (out ∷ []) next refl;
      ports = all-tree inv stage has_its_ports (λ one other outs size. ap (λ (it : ℕ). it == 1) size) (Join left right) (out ∷ []) next refl;
      inputs = all-tree inv stage (λ cell. reads_one_input cell.kind) (λ one other outs size. ap (λ (it : ℕ). it == 1) fit.reads_one) (Join left right) (out ∷ []) next refl;
      classes = all-tree inv stage (λ cell. has_its_class cell.kind) (λ one other outs size. fit.has_joins) (Join left right) (out ∷ []) next refl;
      built = all-tree inv stage (λ cell. runs_what_is_built cell.kind) (λ one other outs size. fit.built) (Join left right) (out ∷ []) next refl;
    }

    -- all of its nodes join maps of their words
    tree-joins : (made : ℕ → Made) (tree : Tree) (outs : List ℕ) (from : ℕ) → Each (IsMet makes made) (tree_cells inv stage tree outs from)
        → OfAll (λ edge. is_mapped (words_of inv) (made edge) ≡ true) (leaves tree) → all_hold (told tells_maps made (tree_cells inv stage tree outs from)) ≡ true
    tree-joins made (Leaf leaf) outs from met mapped = refl
    tree-joins made (Join one other) outs from met mapped =
        let lefts : List (Cell NodeKind) = tree_cells inv stage one (from ∷ []) (from + 1) in
        let rights : List (Cell NodeKind) = tree_cells inv stage other ((from + joins_of one) ∷ []) (from + joins_of one + 1) in
        let last : Cell NodeKind = agg_cell inv (root one from ∷ root other (from + joins_of one) ∷ []) outs stage in
        let behind = each-back (IsMet makes made) lefts (rights ++ last ∷ []) met in
        let left_met = each-front (IsMet makes made) lefts (rights ++ last ∷ []) met in
        let right_met = each-front (IsMet makes made) rights (last ∷ []) behind in
        let left_mapped : OfAll (λ edge. is_mapped (words_of inv) (made edge) ≡ true) (leaves one) = λ edge there. mapped edge (has-front edge (leaves one) (leaves other) there) in
        let right_mapped : OfAll (λ edge. is_mapped (words_of inv) (made edge) ≡ true) (leaves other) = λ edge there. mapped edge (has-back edge (leaves one) (leaves other) there) in
        held-both tells_maps made lefts (rights ++ last ∷ []) (tree-joins made one (from ∷ []) (from + 1) left_met left_mapped)
        (held-both tells_maps made rights (last ∷ []) (tree-joins made other ((from + joins_of one) ∷ []) (from + joins_of one + 1) right_met right_mapped)
        (and_from (is_mapped (words_of inv) (made (root one from)) && (is_mapped (words_of inv) (made (root other (from + joins_of one))) && true)) true
        (and_from (is_mapped (words_of inv) (made (root one from))) (is_mapped (words_of inv) (made (root other (from + joins_of one))) && true) (root-mapped made one from left_met left_mapped)
        (and_from (is_mapped (words_of inv) (made (root other (from + joins_of one)))) true (root-mapped made other (from + joins_of one) right_met right_mapped) refl)) refl))
      where
        root-mapped : (made : ℕ → Made) (tree : Tree) (from : ℕ) → Each (IsMet makes made) (tree_cells inv stage tree (from ∷ []) (from + 1)) → OfAll (λ edge. is_mapped (words_of inv) (made edge) ≡ true) (leaves tree)
            → is_mapped (words_of inv) (made (root tree from)) ≡ true
        root-mapped made (Leaf leaf) from met mapped = mapped leaf (or_left (leaf == leaf) false (eq-eqb leaf leaf refl))
        root-mapped made (Join one other) from met mapped =
            let lefts : List (Cell NodeKind) = tree_cells inv stage one ((from + 1) ∷ []) (from + 1 + 1) in
            let rights : List (Cell NodeKind) = tree_cells inv stage other ((from + 1 + joins_of one) ∷ []) (from + 1 + joins_of one + 1) in
            let last : Cell NodeKind = agg_cell inv (root one (from + 1) ∷ root other (from + 1 + joins_of one) ∷ []) (from ∷ []) stage in
            let met_last = each-back (IsMet makes made) rights (last ∷ []) (each-back (IsMet makes made) lefts (rights ++ last ∷ []) met) in
            ap (λ (all : List Made). is_mapped (words_of inv) (get_or all 0 (made from))) met_last.0 ∙ words-same (words_of inv)

    joined_all : (made : ℕ → Made) → all_hold (told tells_maps made (joins ∷ [])) ≡ true → OfAll (λ edge. is_mapped (words_of inv) (made edge) ≡ true) ins
    joined_all made told_all edge there =
        let held = and_parts (all_hold (tells_maps (kind.Agg inv) (map made ins))) true (sym (list_all-append (λ (it : Bool). it) (tells_maps (kind.Agg inv) (map made ins)) []) ∙ told_all) in
        let mapped = and_parts (list_all (is_mapped (words_of inv)) (map made ins)) true held.0 in
        holds-has (λ edge. is_mapped (words_of inv) (made edge)) edge ins (sym (list_all-map (is_mapped (words_of inv)) made ins) ∙ mapped.0) there

    joins_new : JoinsMaps front (joins ∷ []) news
    joins_new = record {
      raises = λ one other met new edge there words is. (
          let last_met = each-back (IsMet makes other) (tree_cells inv stage right ((next + joins_of left) ∷ []) (next + joins_of left + 1)) (agg_cell inv (root left next ∷ root right (next + joins_of left) ∷ []) (out ∷ []) stage ∷ [])
          (each-back (IsMet makes other) (tree_cells inv stage left (next ∷ []) (next + 1))
          (tree_cells inv stage right ((next + joins_of left) ∷ []) (next + joins_of left + 1) ++ agg_cell inv (root left next ∷ root right (next + joins_of left) ∷ []) (out ∷ []) stage ∷ []) new) in
          let old_out : one out ≡ Mapped (words_of inv) = ap (λ (all : List Made). get_or all 0 (one out)) met.0 in
          let new_out : other out ≡ Mapped (words_of inv) = ap (λ (all : List Made). get_or all 0 (other out)) last_met.0 in
          let same : out ≡ edge = only-one edge out there in
          ap (λ (it : ℕ). is_mapped words (other it)) (sym same) ∙ ap (is_mapped words) (new_out ∙ sym old_out) ∙ ap (λ (it : ℕ). is_mapped words (one it)) same ∙ is);
      joins = λ one other more new told_before. tree-joins other (Join left right) (out ∷ []) next new (λ edge there. more edge (fit.given edge there) (words_of inv) (joined_all one told_before edge there));
    }

    module _ (made : ℕ → Made) (sources : List (List ℕ)) (one other : ℕ → Value) (at : AtExchange front [] (joins ∷ []) news all made sources one other) where
      ins_mapped : OfAll (λ edge. is_mapped (words_of inv) (made edge) ≡ true) ins
      ins_mapped = joined_all made (held-parts tells_maps made (joins ∷ []) back (held-parts tells_maps made front (joins ∷ back) at.joined).1).0

      all_gather : OfAll (Gathers made one) (gives all)
      all_gather = along (Gathers made one) [] all sound.wired.later (gathers-on made sources one 0 all sound.ports sound.classes at.all_carried at.makers at.joined at.all_asked) (λ edge none. absurd (true≢false (sym none)))

      given_front : (edge : ℕ) → has edge ins ≡ true → has edge (gives all) ≡ true
      given_front edge there = ap (has edge) (flat_map-append (λ (cell : Cell NodeKind). cell.outs) front (joins ∷ back)) ∙ has-front edge (gives front) (gives (joins ∷ back)) (fit.given edge there)

      mapped-map : (words : List (List ℕ)) (it : Made) → is_mapped words it ≡ true → is_map it ≡ true
      mapped-map words Absent is = is
      mapped-map words Given is = is
      mapped-map words (Mapped others) is = refl

      same_maps : (edge : ℕ) → has edge ins ≡ true → (one edge).maps ≡ (other edge).maps
      same_maps edge there = (at.front_lost edge (fit.given edge there)).maps (mapped-map (words_of inv) (made edge) (ins_mapped edge there))

      gathered-same : (edges : List ℕ) → ((edge : ℕ) → has edge edges ≡ true → (one edge).maps ≡ (other edge).maps)
          → flat_map (λ (value : Value). value.maps) (map one edges) ≡ flat_map (λ (value : Value). value.maps) (map other edges)
      gathered-same [] same = refl
      gathered-same (edge ∷ edges) same =
          ap (λ (texts : List (List ℕ)). texts ++ flat_map (λ (value : Value). value.maps) (map one edges)) (same edge (or_left (edge == edge) (has edge edges) (eq-eqb edge edge refl)))
          ∙ ap (λ (rest : List (List ℕ)). (other edge).maps ++ rest) (gathered-same edges (λ it there. same it (or_right (edge == it) (has it edges) there)))

      leaf_texts : OfAll (λ edge. (other edge).text ≡ map_of inv (concat (other edge).maps)) ins
      leaf_texts edge there =
          sym (at.front_lost edge (fit.given edge there)).near.text ∙ all_gather edge (given_front edge there) inv (ins_mapped edge there) ∙ ap (λ (texts : List (List ℕ)). map_of inv (concat texts)) (same_maps edge there)

      agg_is : one out ≡ with_origin (kind.Agg inv) (map one ins) (aggregate_of inv (map text_of (map one ins)))
      agg_is = ap (λ (values : List Value). get_or values 0 (one out)) at.olds_carried.0

      maps_are : (one out).maps ≡ flat_map (λ (value : Value). value.maps) (map other ins)
      maps_are = ap (λ (value : Value). value.maps) agg_is ∙ gathered-same ins same_maps

      cut : is_cutlist (flat_map (λ (value : Value). value.maps) (map other ins)) ≡ true
      cut =
          let held = and_parts (all_hold (asks (kind.Agg inv) (map one ins))) true (sym (list_all-append (λ (it : Bool). it) (asks (kind.Agg inv) (map one ins)) []) ∙ at.olds_asked) in
          ap is_cutlist (sym (gathered-same ins same_maps)) ∙ (and_parts (is_cutlist (flat_map (λ (value : Value). value.maps) (map one ins))) true held.0).0

      made_out : is_mapped (words_of inv) (made out) ≡ true
      made_out =
          let met = each-back (IsMet makes made) front (joins ∷ back) at.makers in
          ap (λ (values : List Made). is_mapped (words_of inv) (get_or values 0 (made out))) met.0 ∙ words-same (words_of inv)

      given_out : has out (gives all) ≡ true
      given_out =
          ap (has out) (flat_map-append (λ (cell : Cell NodeKind). cell.outs) front (joins ∷ back))
          ∙ has-back out (gives front) (gives (joins ∷ back)) (or_left (out == out) (has out (gives back)) (eq-eqb out out refl))

      new_is : (other out).file ≡ false × ((other out).group ≡ [])
      new_is =
          let lefts : List (Cell NodeKind) = tree_cells inv stage left (next ∷ []) (next + 1) in
          let rights : List (Cell NodeKind) = tree_cells inv stage right ((next + joins_of left) ∷ []) (next + joins_of left + 1) in
          let last : Cell NodeKind = agg_cell inv (root left next ∷ root right (next + joins_of left) ∷ []) (out ∷ []) stage in
          let first = carries-parts sources other at.news_number lefts (rights ++ last ∷ []) at.news_carried in
          let second = carries-parts sources other (sources_behind at.news_number lefts) rights (last ∷ []) first.1 in
          (ap (λ (values : List Value). (get_or values 0 (other out)).file) second.1.0, ap (λ (values : List Value). (get_or values 0 (other out)).group) second.1.0)

      gives-same : GivesSame front [] [] (joins ∷ []) news before now made sources one other
      gives-same =
          let holds = tree-holds inv stage fit.law sources other (Join left right) out next at.news_number at.news_carried leaf_texts cut in
          let lost : Lost made one other out = record {
            near = record {
              text =
                  all_gather out given_out inv made_out ∙ ap (λ (texts : List (List ℕ)). map_of inv (concat texts)) maps_are ∙ sym holds.value.text;
              file = λ is. absurd (true≢false (sym is ∙ new_is.0));
              group = subst (λ (group : List (List ℕ)). Fewer (one out).group group) (sym new_is.1) (fewer-none (one out).group);
            };
            maps = λ is. maps_are ∙ sym holds.value.maps;
          } in
          record {
            lost = λ edge there. subst (Lost made one other) (only-one edge out there) lost;
            asks = holds.asked_all;
            codes = λ first second last_answers fronts middles. (
                let answers : List Bool = selected sources other news in
                let none : second ≡ [] = nil_from_length second middles in
                let size : length answers ≡ length news = one-each sources other news in
                ap (λ (it : List Bool). status_by before (first ++ (it ++ (false ∷ last_answers)))) none
                ∙ status-standing first false [] answers last_answers refl before
                ∙ ap (λ (it : ℕ). status_by (renamed_status it (length answers) 0 before) (first ++ (answers ++ last_answers))) fronts
                ∙ ap (λ (it : ℕ). status_by (renamed_status (length front) it 0 before) (first ++ (answers ++ last_answers))) size
                ∙ ap (λ (it : List Bool). status_by now (first ++ (it ++ (answers ++ last_answers)))) (sym none));
          }

    module _ (below : (edge : ℕ) → has edge (gives all) ≡ true → edge < next) where
      follows : Follows (λ edge. has edge (gives front) ≡ true) news
      follows = follows-tree inv stage (λ edge. has edge (gives front) ≡ true) (Join left right) (out ∷ []) next fit.given

      sound_new : IsSound (becomes front [] news back) now
      sound_new =
          sound-exchange front [] [] (joins ∷ []) news back next rewires before now sound below follows refl refl news_fit joins_new
          (names-standing front joins [] news back before (λ is. refl) sound.named)

      leaves_new : LeavesAlways all (becomes front [] news back) before now
      leaves_new sources known one other first second asks =
          let at = at-exchange front [] [] (joins ∷ []) news back before now next rewires sound.wired sound.maps refl refl news_fit.inner sources one other first second asks in
          leaves-exchange front [] [] (joins ∷ []) news back before now next rewires sound.wired sound.maps refl refl news_fit.inner sources one other first second asks
          (gives-same (after makes all absent) sources one other at)

      pub keeps_new : (old : Graph) → Valid old.nodes old.status → old.nodes ≡ all → old.status ≡ before → Keeps old (record { nodes = numbered (becomes front [] news back); status = now })
      keeps_new old valid nodes status =
          keeps old (becomes front [] news back) now valid sound_new
          (subst (λ (cells : List (Cell NodeKind)). LeavesAlways cells (becomes front [] news back) old.status now) (sym nodes)
          (subst (λ (rule : StatusRule). LeavesAlways all (becomes front [] news back) rule now) (sym status) leaves_new))

-- the tree that comes in the place of an aggregate keeps the flow
module _ (old : Graph) (node : ℕ) (valid : Valid old.nodes old.status) where
  abbrev size : ℕ
  size = length (gives old.nodes)

  module _ (cell : Cell NodeKind) (there : slice_get old.nodes node ≡ Some cell) (inv : Inv) (is : cell.kind ≡ kind.Agg inv) where
    tree-keeps : (left right : Tree) → cell.ins ≡ leaves left ++ leaves right → Keeps old (exchanged node old (tree_cells inv cell.stage (Join left right) cell.outs size))
    tree-keeps left right ins_are =
        let at = stands-at old.nodes node cell there in
        let sound = sound-valid old.nodes old.status valid in
        let ports = and_parts (nat_le 2 (length cell.ins)) (length cell.outs == 1)
        (ports-of at.front cell at.back (kind.Agg inv) (ap (list_all has_its_ports) (sym at.whole) ∙ sound.ports) is) in
        let outs = one-edge cell.outs ports.1 in
        let same : cell ≡ agg_cell inv (leaves left ++ leaves right) (outs.edge ∷ []) cell.stage = same-cell cell (kind.Agg inv) (leaves left ++ leaves right) (outs.edge ∷ []) cell.stage is ins_are outs.all refl in
        let news : List (Cell NodeKind) = tree_cells inv cell.stage (Join left right) (outs.edge ∷ []) size in
        let all : List (Cell NodeKind) = at.front ++ (agg_cell inv (leaves left ++ leaves right) (outs.edge ∷ []) cell.stage ∷ at.back) in
        let nodes : old.nodes ≡ all = at.whole ∙ ap (λ (it : Cell NodeKind). at.front ++ (it ∷ at.back)) same in
        let kept = keeps_new at.front at.back inv left right outs.edge cell.stage size old.status (subst (λ (cells : List (Cell NodeKind)). IsSound cells old.status) nodes sound)
        (λ edge given. valid.edges.below edge (ap (λ (cells : List (Cell NodeKind)). has edge (gives cells)) nodes ∙ given)) old valid nodes refl in
        let moved : Keeps old (record { nodes = numbered (replaced (λ (it : Cell NodeKind). news) node old.nodes); status = renamed_status node (length news) 0 old.status }) =
        subst (λ (cells : List (Cell NodeKind)). Keeps old (record { nodes = numbered cells; status = renamed_status node (length news) 0 old.status })) (sym (at.others (λ (it : Cell NodeKind). news)))
        (subst (λ (place : ℕ). Keeps old (record { nodes = numbered (at.front ++ (news ++ at.back)); status = renamed_status place (length news) 0 old.status })) at.number kept) in
        subst (λ (edges : List ℕ). Keeps old (exchanged node old (tree_cells inv cell.stage (Join left right) edges size))) (sym outs.all) moved

    by-ins : (edges : List ℕ) → cell.ins ≡ edges → 2 < length edges → Keeps old (exchanged node old (tree_cells inv cell.stage (tree_over edges) cell.outs size))
    by-ins edges ins_are more =
        let half : ℕ = half_of (length edges) in
        let halves : tree_over edges ≡ Join (tree_over (take half edges)) (tree_over (drop half edges)) = over-halves edges (omega (arith, more)) in
        let all : leaves (tree_over edges) ≡ edges = leaves-are (length edges) edges (omega (arith, more)) (omega arith) in
        subst (λ (tree : Tree). Keeps old (exchanged node old (tree_cells inv cell.stage tree cell.outs size))) (sym halves)
        (tree-keeps (tree_over (take half edges)) (tree_over (drop half edges)) (ins_are ∙ sym all ∙ ap leaves halves))

  by-node : (cell : Cell NodeKind) → slice_get old.nodes node ≡ Some cell → (it : NodeKind) → cell.kind ≡ it → (cells : List (Cell NodeKind)) → tree_for size cell it ≡ Some cells
      → Keeps old (exchanged node old cells)
  by-node cell there (kind.Agg inv) is cells made =
      let chosen = cond_some (nat_lt 2 (length cell.ins)) (tree_cells inv cell.stage (tree_over cell.ins) cell.outs size) cells made in
      subst (λ (it : List (Cell NodeKind)). Keeps old (exchanged node old it)) chosen.1 (by-ins cell there inv is cell.ins refl (ltb-true 2 (length cell.ins) chosen.0))
  by-node cell there (kind.Source source) is cells made = absurd (none-some cells made)
  by-node cell there (kind.Text text) is cells made = absurd (none-some cells made)
  by-node cell there kind.Split is cells made = absurd (none-some cells made)
  by-node cell there (kind.Map inv) is cells made = absurd (none-some cells made)
  by-node cell there (kind.Whole inv) is cells made = absurd (none-some cells made)
  by-node cell there (kind.Cat close) is cells made = absurd (none-some cells made)
  by-node cell there (kind.Finish inv) is cells made = absurd (none-some cells made)
  by-node cell there (kind.TeeFile path mode) is cells made = absurd (none-some cells made)
  by-node cell there kind.Drain is cells made = absurd (none-some cells made)
  by-node cell there (kind.Sink sink) is cells made = absurd (none-some cells made)

  found-at : (cells : List (Cell NodeKind)) → tree_at old.nodes node ≡ Some cells → Keeps old (exchanged node old cells) × (node < length old.nodes)
  found-at cells made = by_cell (slice_get old.nodes node) refl made
    where
      by_cell : (found : Option (Cell NodeKind)) → slice_get old.nodes node ≡ found → option_and_then (λ (cell : Cell NodeKind). tree_for size cell cell.kind) found ≡ Some cells
          → Keeps old (exchanged node old cells) × (node < length old.nodes)
      by_cell None absent none = absurd (none-some cells none)
      by_cell (Some cell) there some = (by-node cell there cell.kind refl cells some, slice_get_within old.nodes node cell there)

  -- what is found may stand there, and the answer keeps the flow
  pub found-tree : (found : Option (List (Cell NodeKind))) → found ≡ tree_at old.nodes node → IfSome found (λ cells. node < length old.nodes)
  found-tree None is = tt
  found-tree (Some cells) is = (found-at cells (sym is)).1

  pub tree-keeps-flow : (found : Option (List (Cell NodeKind))) (result : Rewritten) → found ≡ tree_at old.nodes node → Answers (option_map (exchanged node old) found) old result → KeepsFlow old result
  tree-keeps-flow found result is answers =
      answers-keep (option_map (exchanged node old) found) old result (λ graph made.
      made-of (exchanged node old) found graph (Keeps old) (λ cells there. (found-at cells (sym is ∙ there)).0) made) answers

  pub tree-answers : (found : Option (List (Cell NodeKind))) (result : Rewritten) → found ≡ tree_at old.nodes node → Answers (option_map (exchanged node old) found) old result → Answers (fanned node old) old result
  tree-answers found result is answers = subst (λ (it : Option (List (Cell NodeKind))). Answers (option_map (exchanged node old) it) old result) is answers

pub ruleset fan_laws = (found-tree, tree-keeps-flow, tree-answers)
