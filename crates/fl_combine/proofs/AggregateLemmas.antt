-- Maps of the parts, aggregated, in place of a whole: the graph keeps the flow.
use Rattle.std.proofs.Common.{◌≡◌, ℕ, zero, suc, ◌+◌, ◌<◌, ◌≤◌, ◌==◌, List, [], ◌∷◌, ◌++◌, Bool, true, false, ◌&&◌, ◌||◌, nat_eq, nat_le, Option, None, Some, IfSome, length, map, get_or, replicate, refl, ap, sym, subst, ◌∙◌, arith, eq-eqb, ⊎_elim, ◌⊎◌, inl, inr}
use Rattle.std.specs.List.{concat, flat_map, list_all, list_any, range_with_len}
use Rattle.std.specs.Cmp.Lexicographic.{pointwise}
use Rattle.std.specs.Option.{option_and_then, option_map}
use Rattle.std.proofs.lemmas.Bool.{true≢false, and_parts, and_from, or_left, or_right, leb-true, le-leb}
use Rattle.std.proofs.lemmas.Option.{none-some, cond_some}
use Rattle.std.proofs.lemmas.List.{length-map}
use Rattle.std.proofs.lemmas.List.FromFn.{length-range_with_len}
use Rattle.ps_lines.specs.Lines.{is_cutlist}
use Rattle.ut_args.specs.Built.{is_built_of}
use Rattle.ut_args.specs.Classes.{class_of, keeps_closed_of}
use Rattle.ut_args.specs.Inputs.{inputs_of}
use Rattle.ut_args.specs.Invocations.{words_of}
use Rattle.ut_args.specs.declared.classes.Class.{Class}
use Rattle.ut_args.specs.declared.classes.Class.TheVariants as class
use Rattle.ut_args.specs.declared.classes.Seam.TheVariants as seam
use Rattle.ut_args.specs.declared.invocations.Inv.{Inv}
use Rattle.fl_graph.specs.Net.{has, count, takes, gives}
use Rattle.fl_graph.specs.Kinds.{has_its_ports, has_map, has_aggregator}
use Rattle.fl_graph.specs.Makers.{Made, Mapped, makes, tells_maps, is_mapped, same_words, all_hold}
use Rattle.fl_graph.specs.Valid.{Valid}
use Rattle.fl_graph.specs.declared.graphs.Cell.{Cell}
use Rattle.fl_graph.specs.declared.graphs.Graph.{Graph}
use Rattle.fl_graph.specs.declared.kinds.NodeKind.{NodeKind}
use Rattle.fl_graph.specs.declared.kinds.NodeKind.TheVariants as kind
use Rattle.fl_graph.proofs.ListLemmas.{count-append}
use Rattle.fl_classes.specs.Aggregates.{map_of, aggregate_of, finish_of}
use Rattle.fl_classes.specs.Laws.{IsOfClass, IsParallel}
use Rattle.fl_classes.specs.Utilities.{output_of, selects_of}
use Rattle.fl_classes.proofs.ClassLemmas.{is-of-class, keeps-closed}
use Rattle.fl_classes.proofs.CutLemmas.{over_parts}
use Rattle.fl_rewrites.specs.Joined.{Joined, joined_at, unjoined}
use Rattle.fl_rewrites.specs.declared.joined.Unjoined.{Unjoined}
use Rattle.fl_rewrites.specs.Keeps.{Keeps, Answers, KeepsFlow}
use Rattle.fl_rewrites.specs.declared.answers.Rewritten.{Rewritten}
use Rattle.fl_rewrites.specs.Known.{is_known}
use Rattle.fl_rewrites.specs.Suits.{Value, with_origin}
use Rattle.fl_rewrites.proofs.OrderLemmas.{Each, IsMet}
use Rattle.fl_rewrites.proofs.SoundLemmas.{sound-valid}
use Rattle.fl_rewrites.proofs.CarryLemmas.{Carries, text_of, answers-keep, made-of}
use Rattle.fl_rewrites.proofs.SpliceLemmas.{count-before, count-row, count-low, count-fresh}
use Rattle.fl_rewrites.proofs.SeamLemmas.{selects-joined}
use Rattle.fl_rewrites.proofs.JoinedLemmas.{mapped, joined-within}
use Rattle.fl_rewrites.proofs.UnjoinLemmas.{texts_at, mapped-texts, GivesOut, StandsBehind, unjoined-keeps}
use Rattle.fl_combine.specs.Aggregating.{agg_cell, finish_cell, behind_maps, aggregate_cells, may_aggregate, aggregate_of_parts, aggregate_at, aggregated}
use Rattle.fl_segments.specs.Stages.{has_finish}
use Rattle.fl_segments.proofs.FinishLemmas.{finish-none}

-- words are those of themselves
pub words-same : (words : List (List ℕ)) → same_words words words ≡ true
words-same [] = refl
words-same (word ∷ words) = and_from (pointwise nat_eq word word) (same_words words words) (bytes-same word) (words-same words)
  where
    bytes-same : (word : List ℕ) → pointwise nat_eq word word ≡ true
    bytes-same [] = refl
    bytes-same (byte ∷ word) = and_from (nat_eq byte byte) (pointwise nat_eq word word) (eq-eqb byte byte refl) (bytes-same word)

pub all-mapped : (words : List (List ℕ)) (count_of : ℕ) → list_all (is_mapped words) (replicate count_of (Mapped words)) ≡ true
all-mapped words zero = refl
all-mapped words (suc count_of) = and_from (same_words words words) (list_all (is_mapped words) (replicate count_of (Mapped words))) (words-same words) (all-mapped words count_of)

-- maps carry the maps of what comes to them, and gather its texts
mapped-gathers : (inv : Inv) (stage : ℕ) (sources : List (List ℕ)) (values : ℕ → Value) (edges : List ℕ) → flat_map (λ (value : Value). value.maps) (map (mapped inv stage sources values) edges) ≡ texts_at values edges
mapped-gathers inv stage sources values [] = refl
mapped-gathers inv stage sources values (edge ∷ edges) = ap (λ (rest : List (List ℕ)). (values edge).text ∷ rest) (mapped-gathers inv stage sources values edges)

-- what the class of a command says that has an aggregator
pub parallel-law : (inv : Inv) (of : Class) → class_of inv ≡ of → IsOfClass of inv → has_aggregator of ≡ true → IsParallel inv × (has_map (class_of inv) ≡ true)
parallel-law inv (class.S kept) is law has = absurd (true≢false (sym has))
parallel-law inv class.P is law has = (law, ap has_map is)
parallel-law inv class.N is law has = absurd (true≢false (sym has))
parallel-law inv class.E is law has = absurd (true≢false (sym has))

module _ (inv : Inv) (known : Bool) (stage next out : ℕ) (parts : List ℕ) (some : 2 ≤ length parts) (law : IsParallel inv) (has_maps : has_map (class_of inv) ≡ true)
    (has_joins : has_aggregator (class_of inv) ≡ true) (reads_one : inputs_of inv ≡ 1) (built : is_built_of inv ≡ true) (cuts : known ≡ true) where
  abbrev row : List ℕ
  row = range_with_len next (length parts)

  abbrev words : List (List ℕ)
  words = words_of inv

  joined-maps : (texts : List (List ℕ)) → 1 ≤ length texts → is_cutlist texts ≡ true → aggregate_of inv (map (map_of inv) texts) ≡ map_of inv (concat texts)
  joined-maps [] none cut = absurd (omega (arith, none))
  joined-maps (first ∷ texts) _ cut = over_parts inv law first texts cut

  joined-selects : (texts : List (List ℕ)) → 1 ≤ length texts → is_cutlist texts ≡ true → selects_of inv (concat texts ∷ []) ≡ list_any (λ text. selects_of inv (text ∷ [])) texts
  joined-selects [] none cut = absurd (omega (arith, none))
  joined-selects (first ∷ texts) _ cut = selects-joined inv seam.Lines law.selects first texts cut

  agg-ports : (edge : ℕ) → has_its_ports (agg_cell inv row (edge ∷ []) stage) ≡ true
  agg-ports edge = ap (λ (size : ℕ). nat_le 2 size && (1 == 1)) (length-range_with_len next (length parts)) ∙ and_from (nat_le 2 (length parts)) (1 == 1) (le-leb 2 (length parts) some) refl

  row-mapped : (made : ℕ → Made) → map made row ≡ replicate (length parts) (Mapped words) → list_all (is_mapped words) (map made row) ≡ true
  row-mapped made maps = ap (list_all (is_mapped words)) maps ∙ all-mapped words (length parts)

  -- what the aggregate gives
  module _ (sources : List (List ℕ)) (other : ℕ → Value) (edge : ℕ) (cut : is_cutlist (texts_at other parts) ≡ true) (maps : map other row ≡ map (mapped inv stage sources other) parts)
      (met : other edge ∷ [] ≡ with_origin (kind.Agg inv) (map other row) (aggregate_of inv (map text_of (map other row))) ∷ []) where
    some_texts : 1 ≤ length (texts_at other parts)
    some_texts = let size = length-map parts (λ edge. (other edge).text) in omega (arith, some, size)

    agg-is : other edge ≡ with_origin (kind.Agg inv) (map other row) (aggregate_of inv (map text_of (map other row)))
    agg-is = ap (λ (all : List Value). get_or all 0 (other edge)) met

    agg-text : (other edge).text ≡ map_of inv (concat (texts_at other parts))
    agg-text =
        ap text_of agg-is ∙ ap (λ (ins : List Value). aggregate_of inv (map text_of ins)) maps ∙ ap (aggregate_of inv) (mapped-texts inv stage sources other parts)
        ∙ joined-maps (texts_at other parts) some_texts cut

    agg-asked : is_cutlist (flat_map (λ (value : Value). value.maps) (map other row)) ≡ true
    agg-asked = ap (λ (ins : List Value). is_cutlist (flat_map (λ (value : Value). value.maps) ins)) maps ∙ ap is_cutlist (mapped-gathers inv stage sources other parts) ∙ cut

  without-finish : has_finish inv ≡ false → StandsBehind known inv stage next out parts (behind_maps false inv stage next (length parts) (out ∷ []))
  without-finish none = record {
    fresh = [];
    takes_others = λ edge. (let both = count-append edge row [] in omega (arith, both));
    gives_others = λ edge. omega arith;
    high = λ edge low. (let none_there = count-before edge next (length parts) low in omega (arith, none_there));
    single = λ edge. (let most = count-row edge next (length parts) in omega (arith, most));
    follows = (λ edge there. there, tt);
    fit = record {
      inner = refl;
      ports = and_from (has_its_ports (agg_cell inv row (out ∷ []) stage)) true (agg-ports out) refl;
      inputs = and_from (inputs_of inv == 1) true (ap (λ (size : ℕ). size == 1) reads_one) refl;
      classes = and_from (has_aggregator (class_of inv)) true has_joins refl;
      built = and_from (is_built_of inv) true built refl;
    };
    has_maps = has_maps;
    joins = λ made met maps. and_from (list_all (is_mapped words) (map made row)) true (row-mapped made maps) refl;
    values = λ sources other number cut groups carried maps. record {
      text = agg-text sources other out (cut cuts) maps carried.0 ∙ sym (finish-none inv law none (concat (texts_at other parts))) ∙ sym (law.whole (concat (texts_at other parts)));
      file = ap (λ (value : Value). value.file) (agg-is sources other out (cut cuts) maps carried.0);
      group = ap (λ (value : Value). value.group) (agg-is sources other out (cut cuts) maps carried.0);
      asked_others = and_from (is_cutlist (flat_map (λ (value : Value). value.maps) (map other row))) true (agg-asked sources other out (cut cuts) maps carried.0) refl;
    };
    selects = λ texts some_texts cut. joined-selects texts some_texts (cut cuts);
  }

  abbrev last : ℕ
  last = next + length parts

  with-finish : StandsBehind known inv stage next out parts (behind_maps true inv stage next (length parts) (out ∷ []))
  with-finish = record {
    fresh = last ∷ [];
    takes_others = λ edge. count-append edge row (last ∷ []);
    gives_others = λ edge. omega arith;
    high = λ edge low. count-low edge next (length parts) low;
    single = λ edge. count-fresh edge next (length parts);
    follows = (λ edge there. there, (λ edge there. inr there, tt));
    fit = record {
      inner = refl;
      ports = and_from (has_its_ports (agg_cell inv row (last ∷ []) stage)) true (agg-ports last) refl;
      inputs = and_from (inputs_of inv == 1) true (ap (λ (size : ℕ). size == 1) reads_one) refl;
      classes = and_from (has_aggregator (class_of inv)) (has_aggregator (class_of inv) && true) has_joins (and_from (has_aggregator (class_of inv)) true has_joins refl);
      built = and_from (is_built_of inv) (is_built_of inv && true) built (and_from (is_built_of inv) true built refl);
    };
    has_maps = has_maps;
    joins = λ made met maps. (
        let made_last : made last ≡ Mapped words = ap (λ (all : List Made). get_or all 0 (made last)) met.0 in
        and_from (list_all (is_mapped words) (map made row)) ((is_mapped words (made last) && true) && true) (row-mapped made maps)
        (and_from (is_mapped words (made last) && true) true (and_from (is_mapped words (made last)) true (ap (is_mapped words) made_last ∙ words-same words) refl) refl));
    values = λ sources other number cut groups carried maps. (
        let is : other out ≡ with_origin (kind.Finish inv) (other last ∷ []) (finish_of inv (other last).text) = ap (λ (all : List Value). get_or all 0 (other out)) carried.1.0 in
        record {
          text = ap text_of is ∙ ap (finish_of inv) (agg-text sources other last (cut cuts) maps carried.0) ∙ sym (law.whole (concat (texts_at other parts)));
          file = ap (λ (value : Value). value.file) is;
          group = ap (λ (value : Value). value.group) is;
          asked_others = and_from (is_cutlist (flat_map (λ (value : Value). value.maps) (map other row))) true (agg-asked sources other last (cut cuts) maps carried.0) refl;
        });
    selects = λ texts some_texts cut. joined-selects texts some_texts (cut cuts);
  }

  pub stands-behind : StandsBehind known inv stage next out parts (behind_maps (has_finish inv) inv stage next (length parts) (out ∷ []))
  stands-behind = by_finish (has_finish inv) refl
    where
      by_finish : (finishes : Bool) → has_finish inv ≡ finishes → StandsBehind known inv stage next out parts (behind_maps finishes inv stage next (length parts) (out ∷ []))
      by_finish true is = with-finish
      by_finish false is = without-finish is

-- a graph with the maps of the parts, aggregated, in place of the Whole keeps the flow
module _ (old : Graph) (node : ℕ) (new : Unjoined) (valid : Valid old.nodes old.status) where
  abbrev next : ℕ
  next = length (gives old.nodes)

  abbrev site : Joined → Unjoined
  site at = record { cat = at.cat; named = length at.parts; nodes = aggregate_cells next at }

  chosen : (at : Joined) → aggregate_of_parts old.nodes at ≡ Some new → (may_aggregate at.inv at.parts (is_known old.nodes at.parts) ≡ true) × (site at ≡ new)
  chosen at made = cond_some (may_aggregate at.inv at.parts (is_known old.nodes at.parts)) (site at) new made

  keeps-at : (at : Joined) → joined_at old.nodes node ≡ Some at → aggregate_of_parts old.nodes at ≡ Some new → Keeps old (unjoined old node new)
  keeps-at at is made =
      let known : Bool = is_known old.nodes at.parts in
      let may = chosen at made in
      let first = and_parts (has_aggregator (class_of at.inv)) (nat_le 2 (length at.parts) && known) may.0 in
      let second = and_parts (nat_le 2 (length at.parts)) known first.1 in
      let law = parallel-law at.inv (class_of at.inv) refl (is-of-class at.inv) first.0 in
      let kept : Keeps old (unjoined old node (site at)) =
      unjoined-keeps keeps-closed old node at (behind_maps (has_finish at.inv) at.inv at.stage next (length at.parts) at.outs) valid is (λ out outs reads_one built some.
      subst (λ (edges : List ℕ). StandsBehind known at.inv at.stage next out at.parts (behind_maps (has_finish at.inv) at.inv at.stage next (length at.parts) edges)) (sym outs)
      (stands-behind at.inv known at.stage next out at.parts (leb-true 2 (length at.parts) second.0) law.0 law.1 first.0 reads_one built second.1)) in
      subst (λ (it : Unjoined). Keeps old (unjoined old node it)) may.1 kept

  within-at : (at : Joined) → joined_at old.nodes node ≡ Some at → aggregate_of_parts old.nodes at ≡ Some new → (node < length old.nodes) × (new.cat < node)
  within-at at is made =
      let within = joined-within old.nodes old.status node at (sound-valid old.nodes old.status valid) is in
      let cat : at.cat ≡ new.cat = ap (λ (it : Unjoined). it.cat) (chosen at made).1 in
      let first = within.0 in
      let second = within.1 in (first, omega (arith, second, cat))

  pub aggregated-keeps : aggregate_at old.nodes node ≡ Some new → Keeps old (unjoined old node new)
  aggregated-keeps made = by_site (joined_at old.nodes node) refl made
    where
      by_site : (found : Option Joined) → joined_at old.nodes node ≡ found → option_and_then (aggregate_of_parts old.nodes) found ≡ Some new → Keeps old (unjoined old node new)
      by_site None is none = absurd (none-some new none)
      by_site (Some at) is some = keeps-at at is some

  -- the Whole is there, and the Cat stands before it
  pub aggregate-within : aggregate_at old.nodes node ≡ Some new → (node < length old.nodes) × (new.cat < node)
  aggregate-within made = by_site (joined_at old.nodes node) refl made
    where
      by_site : (found : Option Joined) → joined_at old.nodes node ≡ found → option_and_then (aggregate_of_parts old.nodes) found ≡ Some new → (node < length old.nodes) × (new.cat < node)
      by_site None is none = absurd (none-some new none)
      by_site (Some at) is some = within-at at is some

-- so what is found may stand there, and the answer keeps the flow
module _ (old : Graph) (node : ℕ) (valid : Valid old.nodes old.status) where
  pub found-whole : (found : Option Unjoined) → found ≡ aggregate_at old.nodes node → IfSome found (λ new. node < length old.nodes)
  found-whole None is = tt
  found-whole (Some new) is = (aggregate-within old node new valid (sym is)).0

  pub found-cat : (found : Option Unjoined) → found ≡ aggregate_at old.nodes node → IfSome found (λ new. new.cat < node)
  found-cat None is = tt
  found-cat (Some new) is = (aggregate-within old node new valid (sym is)).1

  pub found-keeps : (found : Option Unjoined) (result : Rewritten) → found ≡ aggregate_at old.nodes node → Answers (option_map (unjoined old node) found) old result → KeepsFlow old result
  found-keeps found result is answers =
      answers-keep (option_map (unjoined old node) found) old result (λ graph made.
      made-of (unjoined old node) found graph (Keeps old) (λ new there. aggregated-keeps old node new valid (sym is ∙ there)) made) answers

  pub found-answers : (found : Option Unjoined) (result : Rewritten) → found ≡ aggregate_at old.nodes node → Answers (option_map (unjoined old node) found) old result → Answers (aggregated node old) old result
  found-answers found result is answers = subst (λ (it : Option Unjoined). Answers (option_map (unjoined old node) it) old result) is answers

pub ruleset aggregate_laws = (found-whole, found-cat, found-keeps, found-answers)
