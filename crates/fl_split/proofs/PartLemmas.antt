-- A split and a Cat before a node: what comes at the node is the text that came, and knows less of where it comes from. So all edges carry
-- what they did, and know less.
use Rattle.std.proofs.Common.{◌≡◌, ℕ, ◌+◌, ◌≤◌, ◌==◌, List, [], ◌∷◌, Bool, true, false, ◌&&◌, if◌then◌else◌, length, map, get_or, refl, ap, sym, subst, ◌∙◌, arith, eq-eqb}
use Rattle.std.specs.List.{concat, flat_map, list_all, range_with_len, AllZip}
use Rattle.std.proofs.lemmas.Bool.{true≢false, and_parts, and_from, eqb-true, or_left, or_right}
use Rattle.std.proofs.lemmas.List.{map-id}
use Rattle.std.proofs.lemmas.List.FromFn.{length-range_with_len}
use Rattle.std.proofs.lemmas.List.Folds.{list_all-append}
use Rattle.ps_lines.specs.Lines.{is_cutlist}
use Rattle.fl_graph.specs.Net.{has, takes}
use Rattle.fl_graph.specs.declared.graphs.Cell.{Cell}
use Rattle.fl_graph.specs.Makers.{all_hold}
use Rattle.fl_graph.specs.declared.kinds.NodeKind.{NodeKind}
use Rattle.fl_graph.specs.declared.kinds.NodeKind.TheVariants as kind
use Rattle.fl_graph.proofs.NetLemmas.{has-front, has-back}
use Rattle.fl_classes.specs.Flow.{writes_of, selects}
use Rattle.fl_classes.specs.Parts.{parts_of}
use Rattle.fl_classes.proofs.PartLemmas.{parts-joined, parts_of-count}
use Rattle.fl_rewrites.specs.Suits.{Value, with_origin, values_given, group_of, asks}
use Rattle.fl_rewrites.proofs.OrderLemmas.{Each, OfAll, IsMet, told-agree}
use Rattle.fl_rewrites.proofs.PlacedLemmas.{numbered_cell, next_source}
use Rattle.fl_rewrites.proofs.CarryLemmas.{Carries, text_of, map-after, asked, written, selected}
use Rattle.fl_rewrites.proofs.SpliceLemmas.{related-values, all-related}
use Rattle.fl_rewrites.proofs.ValueLemmas.{Fewer, IsNear, KnowsLess, fewer-none, less-given, less-asked, less-near, less-gathered, near-gathered, near-texts, takes_texts_only}
use Rattle.fl_split.specs.Inserting.{may_take_parts, split_cell, join_cell, turned_cell, turned}

-- values at the outs of a split
text-origin : (node : NodeKind) (ins : List Value) (texts : List (List ℕ)) → map text_of (map (with_origin node ins) texts) ≡ texts
text-origin node ins texts = map-after (with_origin node ins) text_of texts ∙ map-id texts

no-files : (ins : List Value) (texts : List (List ℕ)) → 1 ≤ length texts → list_all (λ (value : Value). value.file) (map (with_origin kind.Split ins) texts) ≡ false
no-files ins [] some = absurd (omega (arith, some))
no-files ins (text ∷ texts) some = refl

no-groups : (ins : List Value) (texts : List (List ℕ)) → flat_map (λ (value : Value). value.group) (map (with_origin kind.Split ins) texts) ≡ []
no-groups ins [] = refl
no-groups ins (text ∷ texts) = no-groups ins texts

plain-texts : (node : NodeKind) → may_take_parts node ≡ true → takes_texts_only node ≡ true
plain-texts (kind.Agg inv) plain = absurd (true≢false (sym plain))
plain-texts (kind.Finish inv) plain = absurd (true≢false (sym plain))
plain-texts (kind.Source source) plain = refl
plain-texts (kind.Text text) plain = refl
plain-texts kind.Split plain = refl
plain-texts (kind.Map inv) plain = refl
plain-texts (kind.Whole inv) plain = refl
plain-texts (kind.Cat close) plain = refl
plain-texts (kind.TeeFile path mode) plain = refl
plain-texts kind.Drain plain = refl
plain-texts (kind.Sink sink) plain = refl

module _ (sources : List (List ℕ)) (one other : ℕ → Value) where
  -- an edge carries what it did, and knows less
  abbrev pub Lost : ℕ → Type 0
  Lost edge = KnowsLess (one edge) (other edge)

  lost-outs : (number : ℕ) (cell : Cell NodeKind) (ins : List Value) → AllZip IsNear (map one cell.ins) ins → AllZip KnowsLess (values_given sources (number, cell.kind) (length cell.outs) (map one cell.ins)) (values_given sources (number, cell.kind) (length cell.outs) ins)
      → map one cell.outs ≡ values_given sources (number, cell.kind) (length cell.outs) (map one cell.ins)
      → map other cell.outs ≡ values_given sources (number, cell.kind) (length cell.outs) ins → OfAll Lost cell.outs
  lost-outs number cell ins near given first second =
      all-related KnowsLess cell.outs one other
      (subst (λ (values : List Value). AllZip KnowsLess values (map other cell.outs)) (sym first)
      (subst (λ (values : List Value). AllZip KnowsLess (values_given sources (number, cell.kind) (length cell.outs) (map one cell.ins)) values) (sym second) given))

  -- a node at which edges come that know less gives such edges
  pub lost-on : (number : ℕ) (cells : List (Cell NodeKind)) → Carries sources number cells one → Carries sources number cells other → Each (λ cell. OfAll Lost cell.ins → OfAll Lost cell.outs) cells
  lost-on number [] first second = tt
  lost-on number (cell ∷ cells) first second = (
    (λ lost.
        let less : AllZip KnowsLess (map one cell.ins) (map other cell.ins) = related-values KnowsLess cell.ins one other lost in
        let near : AllZip IsNear (map one cell.ins) (map other cell.ins) = less-near (map one cell.ins) (map other cell.ins) less in
        lost-outs number cell (map other cell.ins) near
        (less-given (map one cell.ins) (map other cell.ins) near sources number cell.kind (length cell.outs) (less-gathered cell.kind (map one cell.ins) (map other cell.ins) less))
        first.0 second.0),
    lost-on (next_source number cell) cells first.1 second.1,
  )

  -- such nodes ask no more, and write and select the same
  pub lost-asked : (cells : List (Cell NodeKind)) → OfAll Lost (takes cells) → all_hold (asked sources one cells) ≡ true → all_hold (asked sources other cells) ≡ true
  lost-asked [] lost asked_before = refl
  lost-asked (cell ∷ cells) lost asked_before =
      let ins : OfAll Lost cell.ins = λ edge there. lost edge (has-front edge cell.ins (takes cells) there) in
      let less : AllZip KnowsLess (map one cell.ins) (map other cell.ins) = related-values KnowsLess cell.ins one other ins in
      let near : AllZip IsNear (map one cell.ins) (map other cell.ins) = less-near (map one cell.ins) (map other cell.ins) less in
      let parts = and_parts (all_hold (asks cell.kind (map one cell.ins))) (all_hold (asked sources one cells))
      (sym (list_all-append (λ (holds : Bool). holds) (asks cell.kind (map one cell.ins)) (asked sources one cells)) ∙ asked_before) in
      list_all-append (λ (holds : Bool). holds) (asks cell.kind (map other cell.ins)) (asked sources other cells)
      ∙ and_from (all_hold (asks cell.kind (map other cell.ins))) (all_hold (asked sources other cells))
      (less-asked (map one cell.ins) (map other cell.ins) near cell.kind (less-gathered cell.kind (map one cell.ins) (map other cell.ins) less) parts.0)
      (lost-asked cells (λ edge there. lost edge (has-back edge cell.ins (takes cells) there)) parts.1)

  pub lost-written : (cells : List (Cell NodeKind)) → OfAll Lost (takes cells) → written sources one cells ≡ written sources other cells
  lost-written cells lost = told-agree writes_of cells (λ edge. (one edge).text) (λ edge. (other edge).text) (λ edge there. (lost edge there).near.text)

  pub lost-selected : (cells : List (Cell NodeKind)) → OfAll Lost (takes cells) → selected sources one cells ≡ selected sources other cells
  lost-selected cells lost =
      told-agree (λ (node : NodeKind) (ins : List (List ℕ)). selects node ins ∷ []) cells (λ edge. (one edge).text) (λ edge. (other edge).text) (λ edge there. (lost edge there).near.text)

  -- the node that takes the parts joined
  module _ (number next edge parts stage : ℕ) (some : 1 ≤ parts)
      (split : IsMet (values_given sources) other (numbered_cell number (split_cell next edge parts stage)))
      (join : IsMet (values_given sources) other (numbered_cell number (join_cell next parts stage))) where
    row : length (range_with_len next parts) ≡ parts
    row = length-range_with_len next parts

    pub parts-are : map other (range_with_len next parts) ≡ map (with_origin kind.Split (other edge ∷ [])) (parts_of (other edge).text parts)
    parts-are = split ∙ ap (λ (count_of : ℕ). map (with_origin kind.Split (other edge ∷ [])) (parts_of (other edge).text count_of)) row

    joined-is : other (next + parts) ≡ with_origin (kind.Cat false) (map other (range_with_len next parts)) (concat (map text_of (map other (range_with_len next parts))))
    joined-is = ap (λ (values : List Value). get_or values 0 (other (next + parts))) join

    joined-text : (other (next + parts)).text ≡ (other edge).text
    joined-text =
        ap text_of joined-is ∙ ap (λ (values : List Value). concat (map text_of values)) parts-are
        ∙ ap concat (text-origin kind.Split (other edge ∷ []) (parts_of (other edge).text parts)) ∙ parts-joined (other edge).text parts (omega (arith, some))

    joined-file : (other (next + parts)).file ≡ false
    joined-file = ap (λ (value : Value). value.file) joined-is

    joined-group : (other (next + parts)).group ≡ []
    joined-group =
        let size : 1 ≤ length (parts_of (other edge).text parts) = (let count_of = parts_of-count (other edge).text parts in omega (arith, some, count_of)) in
        ap (λ (value : Value). value.group) joined-is ∙ ap (λ (values : List Value). group_of false values) parts-are
        ∙ ap (λ (files : Bool). if files then concat (map text_of (map (with_origin kind.Split (other edge ∷ [])) (parts_of (other edge).text parts))) ∷ [] else [])
        (no-files (other edge ∷ []) (parts_of (other edge).text parts) size)

    joined-near : Lost edge → IsNear (one edge) (other (next + parts))
    joined-near lost =
        record {
          text = lost.near.text ∙ sym joined-text;
          file = λ is. absurd (true≢false (sym is ∙ joined-file));
          group = subst (λ (group : List (List ℕ)). Fewer (one edge).group group) (sym joined-group) (fewer-none (one edge).group);
        }

    pub near-ins : (ins : List ℕ) → OfAll Lost ins → AllZip IsNear (map one ins) (map other (map (turned edge (next + parts)) ins))
    near-ins [] lost = tt
    near-ins (first ∷ ins) lost = (
      by_test (first == edge) refl (lost first (or_left (first == first) (has first ins) (eq-eqb first first refl))),
      near-ins ins (λ another there. lost another (or_right (first == another) (has another ins) there)),
    )
      where
        by_test : (same : Bool) → (first == edge) ≡ same → Lost first → IsNear (one first) (other (if same then next + parts else first))
        by_test true is here =
            let equal : first ≡ edge = eqb-true first edge is in
            subst (λ (it : ℕ). IsNear (one it) (other (next + parts))) (sym equal) (joined-near (subst (λ (it : ℕ). Lost it) equal here))
        by_test false is here = here.near

    -- it gives edges that know less, asks no more, and writes and selects the same
    module _ (taker : Cell NodeKind) (plain : may_take_parts taker.kind ≡ true) (lost : OfAll Lost taker.ins) where
      pub taker-lost : IsMet (values_given sources) one (numbered_cell number taker) → IsMet (values_given sources) other (numbered_cell number (turned_cell edge (next + parts) taker)) → OfAll Lost taker.outs
      taker-lost first second =
          let ins : List Value = map other (map (turned edge (next + parts)) taker.ins) in
          let near : AllZip IsNear (map one taker.ins) ins = near-ins taker.ins lost in
          lost-outs number taker ins near
          (less-given (map one taker.ins) ins near sources number taker.kind (length taker.outs) (near-gathered taker.kind (map one taker.ins) ins (plain-texts taker.kind plain) near))
          first second

      pub taker-asked : all_hold (asks taker.kind (map one taker.ins)) ≡ true → all_hold (asks taker.kind (map other (map (turned edge (next + parts)) taker.ins))) ≡ true
      taker-asked asked_before =
          let ins : List Value = map other (map (turned edge (next + parts)) taker.ins) in
          let near : AllZip IsNear (map one taker.ins) ins = near-ins taker.ins lost in
          less-asked (map one taker.ins) ins near taker.kind (near-gathered taker.kind (map one taker.ins) ins (plain-texts taker.kind plain) near) asked_before

      pub taker-texts : map (λ edge. (one edge).text) taker.ins ≡ map (λ edge. (other edge).text) (map (turned edge (next + parts)) taker.ins)
      taker-texts =
          let ins : List ℕ = map (turned edge (next + parts)) taker.ins in
          sym (map-after one text_of taker.ins) ∙ near-texts (map one taker.ins) (map other ins) (near-ins taker.ins lost) ∙ map-after other text_of ins

    -- the Cat asks nothing
    pub join-asked : all_hold (asks (kind.Cat false) (map other (range_with_len next parts))) ≡ true
    join-asked =
        ap (λ (values : List Value). is_cutlist (flat_map (λ (value : Value). value.group) values) && true) parts-are
        ∙ ap (λ (groups : List (List ℕ)). is_cutlist groups && true) (no-groups (other edge ∷ []) (parts_of (other edge).text parts))
