-- Nodes exchanged for others: where the new ones give what the old ones did, all edges of the nodes that stay carry what they did.
use Rattle.std.proofs.Common.{◌≡◌, ℕ, suc, ◌+◌, List, [], ◌∷◌, ◌++◌, Bool, true, false, ◌&&◌, if◌then◌else◌, length, map, refl, ap, sym, subst, ◌∙◌, append_assoc}
use Rattle.std.specs.List.{list_all, flat_map, AllZip}
use Rattle.std.proofs.lemmas.Bool.{true≢false, and_parts, and_from}
use Rattle.std.proofs.lemmas.List.Folds.{list_all-append, list_all-map}
use Rattle.std.proofs.lemmas.Grind.{flat_map-append}
use Rattle.ut_args.specs.Invocations.{words_of}
use Rattle.fl_graph.specs.Net.{has, takes, gives, after}
use Rattle.fl_graph.specs.Checks.{takes_given, each_after}
use Rattle.fl_graph.specs.declared.graphs.Cell.{Cell}
use Rattle.fl_graph.specs.declared.graphs.StatusRule.{StatusRule}
use Rattle.fl_graph.specs.Makers.{Made, Absent, Given, Mapped, makes, absent, tells_maps, joins_maps, is_mapped, all_hold}
use Rattle.fl_graph.specs.declared.kinds.NodeKind.{NodeKind}
use Rattle.fl_graph.specs.declared.kinds.NodeKind.TheVariants as kind
use Rattle.fl_graph.proofs.ListLemmas.{holds-has, all-has}
use Rattle.fl_graph.proofs.NetLemmas.{has-front, has-back}
use Rattle.fl_classes.specs.Flow.{Placed, placed_from, Write, writes_of, selects, status_by, is_source}
use Rattle.fl_rewrites.specs.Suits.{Value, values_given, maps_given, asks}
use Rattle.fl_rewrites.proofs.OrderLemmas.{Each, each-front, each-back, each-append, OfAll, of-both, IsWired, IsMet, along, told, told-agree}
use Rattle.fl_rewrites.proofs.NumberLemmas.{taken-given}
use Rattle.fl_rewrites.proofs.PlacedLemmas.{sources_behind, placed-append, next_source, numbered_cell}
use Rattle.fl_rewrites.proofs.SoundLemmas.{maps-told, made-met}
use Rattle.fl_rewrites.proofs.CarryLemmas.{Carries, asked, written, selected, text_of, LeavesSame, LeavesWhere}
use Rattle.fl_rewrites.proofs.SpliceLemmas.{told-append, related-values, all-related}
use Rattle.fl_rewrites.proofs.ValueLemmas.{IsNear, KnowsLess, less-given, less-asked, less-gathered, near-gathered, takes_texts_only}
use Rattle.fl_rewrites.proofs.ExchangeLemmas.{was, becomes, Rewires, outer-front, outer-middle, outer-back, in-parts}
use Rattle.fl_rewrites.proofs.ExchangedLemmas.{is_inner, are_inner, inner-cases, held-was, held-becomes, front-was, middle-was, back-was}

-- an edge that a map or an aggregate gives
abbrev pub is_map : Made → Bool
is_map Absent = false
is_map Given = false
is_map (Mapped words) = true

words-map : (words : List (List ℕ)) (made : Made) → is_mapped words made ≡ true → is_map made ≡ true
words-map words Absent is = is
words-map words Given is = is
words-map words (Mapped others) is = refl

all-maps : (words : List (List ℕ)) (all : List Made) → list_all (is_mapped words) all ≡ true → list_all is_map all ≡ true
all-maps words [] mapped = refl
all-maps words (made ∷ all) mapped =
    let parts = and_parts (is_mapped words made) (list_all (is_mapped words) all) mapped in and_from (is_map made) (list_all is_map all) (words-map words made parts.0) (all-maps words all parts.1)

-- a node that gathers the maps of its ins has maps as its ins
gathers-maps : (node : NodeKind) (ins : List Made) → all_hold (tells_maps node ins) ≡ true → takes_texts_only node ≡ false → list_all is_map ins ≡ true
gathers-maps (kind.Agg inv) ins joins gathers = all-maps (words_of inv) ins (and_parts (list_all (is_mapped (words_of inv)) ins) true joins).0
gathers-maps (kind.Finish inv) ins joins gathers = absurd (true≢false gathers)
gathers-maps (kind.Source source) ins joins gathers = absurd (true≢false gathers)
gathers-maps (kind.Text text) ins joins gathers = absurd (true≢false gathers)
gathers-maps kind.Split ins joins gathers = absurd (true≢false gathers)
gathers-maps (kind.Map inv) ins joins gathers = absurd (true≢false gathers)
gathers-maps (kind.Whole inv) ins joins gathers = absurd (true≢false gathers)
gathers-maps (kind.Cat close) ins joins gathers = absurd (true≢false gathers)
gathers-maps (kind.TeeFile path mode) ins joins gathers = absurd (true≢false gathers)
gathers-maps kind.Drain ins joins gathers = absurd (true≢false gathers)
gathers-maps (kind.Sink sink) ins joins gathers = absurd (true≢false gathers)

-- an edge carries the text that it did and knows less of where it comes from; one of a map gathers the maps that it did
pub record Lost (made : ℕ → Made) (one other : ℕ → Value) (edge : ℕ) : Type 0 where
  pub near : IsNear (one edge) (other edge)
  pub maps : is_map (made edge) ≡ true → (one edge).maps ≡ (other edge).maps

module _ (made : ℕ → Made) (sources : List (List ℕ)) (one other : ℕ → Value) where
  -- what a node gathers, and what comes to it
  ins-near : (cell : Cell NodeKind) → OfAll (Lost made one other) cell.ins → AllZip IsNear (map one cell.ins) (map other cell.ins)
  ins-near cell lost = related-values IsNear cell.ins one other (λ edge there. (lost edge there).near)

  gathered : (cell : Cell NodeKind) → all_hold (tells_maps cell.kind (map made cell.ins)) ≡ true → OfAll (Lost made one other) cell.ins
      → maps_given cell.kind (map one cell.ins) ≡ maps_given cell.kind (map other cell.ins)
  gathered cell joins lost = by_test (takes_texts_only cell.kind) refl
    where
      by_test : (texts : Bool) → takes_texts_only cell.kind ≡ texts → maps_given cell.kind (map one cell.ins) ≡ maps_given cell.kind (map other cell.ins)
      by_test true is = near-gathered cell.kind (map one cell.ins) (map other cell.ins) is (ins-near cell lost)
      by_test false is =
          let mapped : list_all (λ edge. is_map (made edge)) cell.ins ≡ true = sym (list_all-map is_map made cell.ins) ∙ gathers-maps cell.kind (map made cell.ins) joins is in
          less-gathered cell.kind (map one cell.ins) (map other cell.ins) (related-values KnowsLess cell.ins one other (λ edge there.
          record { near = (lost edge there).near; maps = (lost edge there).maps (holds-has (λ edge. is_map (made edge)) edge cell.ins mapped there) }))

  -- nodes at which such edges come give such edges
  lost-on : (number : ℕ) (cells : List (Cell NodeKind)) → Carries sources number cells one → Carries sources number cells other → all_hold (told tells_maps made cells) ≡ true
      → Each (λ cell. OfAll (Lost made one other) cell.ins → OfAll (Lost made one other) cell.outs) cells
  lost-on number [] first second joins = tt
  lost-on number (cell ∷ cells) first second joins =
      let parts = and_parts (all_hold (tells_maps cell.kind (map made cell.ins))) (all_hold (told tells_maps made cells))
      (sym (list_all-append (λ (it : Bool). it) (tells_maps cell.kind (map made cell.ins)) (told tells_maps made cells)) ∙ joins) in (
        (λ lost edge there.
            let less = all-related KnowsLess cell.outs one other
            (subst (λ (values : List Value). AllZip KnowsLess values (map other cell.outs)) (sym first.0)
            (subst (λ (values : List Value). AllZip KnowsLess (values_given sources (number, cell.kind) (length cell.outs) (map one cell.ins)) values) (sym second.0)
            (less-given (map one cell.ins) (map other cell.ins) (ins-near cell lost) sources number cell.kind (length cell.outs) (gathered cell parts.0 lost)))) edge there in
            record { near = less.near; maps = λ is. less.maps }),
        lost-on (next_source number cell) cells first.1 second.1 parts.1,
      )

  -- they ask no more, and write and select the same
  lost-asked : (cells : List (Cell NodeKind)) → all_hold (told tells_maps made cells) ≡ true → OfAll (Lost made one other) (takes cells)
      → all_hold (asked sources one cells) ≡ true → all_hold (asked sources other cells) ≡ true
  lost-asked [] joins lost asked_before = refl
  lost-asked (cell ∷ cells) joins lost asked_before =
      let ins : OfAll (Lost made one other) cell.ins = λ edge there. lost edge (has-front edge cell.ins (takes cells) there) in
      let joins_parts = and_parts (all_hold (tells_maps cell.kind (map made cell.ins))) (all_hold (told tells_maps made cells))
      (sym (list_all-append (λ (it : Bool). it) (tells_maps cell.kind (map made cell.ins)) (told tells_maps made cells)) ∙ joins) in
      let parts = and_parts (all_hold (asks cell.kind (map one cell.ins))) (all_hold (asked sources one cells))
      (sym (list_all-append (λ (it : Bool). it) (asks cell.kind (map one cell.ins)) (asked sources one cells)) ∙ asked_before) in
      list_all-append (λ (it : Bool). it) (asks cell.kind (map other cell.ins)) (asked sources other cells)
      ∙ and_from (all_hold (asks cell.kind (map other cell.ins))) (all_hold (asked sources other cells))
      (less-asked (map one cell.ins) (map other cell.ins) (ins-near cell ins) cell.kind (gathered cell joins_parts.0 ins) parts.0)
      (lost-asked cells joins_parts.1 (λ edge there. lost edge (has-back edge cell.ins (takes cells) there)) parts.1)

  lost-written : (cells : List (Cell NodeKind)) → OfAll (Lost made one other) (takes cells) → written sources one cells ≡ written sources other cells
  lost-written cells lost = told-agree writes_of cells (λ edge. (one edge).text) (λ edge. (other edge).text) (λ edge there. (lost edge there).near.text)

  lost-selected : (cells : List (Cell NodeKind)) → OfAll (Lost made one other) (takes cells) → selected sources one cells ≡ selected sources other cells
  lost-selected cells lost =
      told-agree (λ (node : NodeKind) (ins : List (List ℕ)). selects node ins ∷ []) cells (λ edge. (one edge).text) (λ edge. (other edge).text) (λ edge there. (lost edge there).near.text)

-- nodes that write nothing outside, and are no sources
none-written : (sources : List (List ℕ)) (values : ℕ → Value) (cells : List (Cell NodeKind)) → are_inner cells ≡ true → written sources values cells ≡ []
none-written sources values [] inner = refl
none-written sources values (cell ∷ cells) inner =
    let parts = and_parts (is_inner cell.kind) (are_inner cells) inner in
    let ins : List (List ℕ) = map (λ edge. (values edge).text) cell.ins in
    ap (λ (first : List Write). first ++ written sources values cells)
    (inner-cases (λ node. writes_of node ins ≡ []) refl (λ inv. refl) (λ inv. refl) (λ close. refl) (λ inv. refl) (λ inv. refl) cell.kind parts.0)
    ∙ none-written sources values cells parts.1

inner-sources : (number : ℕ) (cells : List (Cell NodeKind)) → are_inner cells ≡ true → sources_behind number cells ≡ number
inner-sources number [] inner = refl
inner-sources number (cell ∷ cells) inner =
    let parts = and_parts (is_inner cell.kind) (are_inner cells) inner in
    ap (λ (is : Bool). sources_behind (if is then number + 1 else number) cells)
    (inner-cases (λ node. is_source node ≡ false) refl (λ inv. refl) (λ inv. refl) (λ close. refl) (λ inv. refl) (λ inv. refl) cell.kind parts.0)
    ∙ inner-sources number cells parts.1

-- what two parts carry
pub carries-parts : (sources : List (List ℕ)) (values : ℕ → Value) (number : ℕ) (front back : List (Cell NodeKind)) → Carries sources number (front ++ back) values
    → (Carries sources number front values) × (Carries sources (sources_behind number front) back values)
carries-parts sources values number front back all =
    let parts = subst (λ (cells : List (Cell Placed)). Each (IsMet (values_given sources) values) cells) (placed-append number front back) all in (
      each-front (IsMet (values_given sources) values) (placed_from number front) (placed_from (sources_behind number front) back) parts,
      each-back (IsMet (values_given sources) values) (placed_from number front) (placed_from (sources_behind number front) back) parts,
    )

-- one answer a node
pub one-each : (sources : List (List ℕ)) (values : ℕ → Value) (cells : List (Cell NodeKind)) → length (selected sources values cells) ≡ length cells
one-each sources values [] = refl
one-each sources values (cell ∷ cells) = ap suc (one-each sources values cells)

-- what is to be shown of the new nodes, with these values: they give what the old ones did, ask nothing that doesn't hold, and the status is the
-- same, whatever the other nodes select
pub record GivesSame (front gone middle olds news : List (Cell NodeKind)) (before now : StatusRule) (made : ℕ → Made) (sources : List (List ℕ)) (one other : ℕ → Value) : Type 0 where
  pub lost : OfAll (Lost made one other) (gives olds)
  pub asks : all_hold (asked sources other news) ≡ true
  pub codes : (first second last : List Bool) → length first ≡ length front → length second ≡ length middle
      → status_by before (first ++ (selected sources one gone ++ (second ++ (selected sources one olds ++ last)))) ≡ status_by now (first ++ (second ++ (selected sources other news ++ last)))

-- and what is known for it
pub record AtExchange (front gone olds news : List (Cell NodeKind)) (all : List (Cell NodeKind)) (made : ℕ → Made) (sources : List (List ℕ)) (one other : ℕ → Value) : Type 0 where
  pub makers : Each (IsMet makes made) all
  pub joined : all_hold (told tells_maps made all) ≡ true
  pub all_carried : Carries sources 0 all one
  pub all_asked : all_hold (asked sources one all) ≡ true
  pub gone_number : ℕ
  pub gone_carried : Carries sources gone_number gone one
  pub gone_asked : all_hold (asked sources one gone) ≡ true
  pub olds_number : ℕ
  pub olds_carried : Carries sources olds_number olds one
  pub olds_asked : all_hold (asked sources one olds) ≡ true
  pub news_number : ℕ
  pub news_carried : Carries sources news_number news other
  pub front_lost : OfAll (Lost made one other) (gives front)

module _ (front gone middle olds news back : List (Cell NodeKind)) (before now : StatusRule) (next : ℕ) (rewires : Rewires gone olds news next)
    (wired : IsWired (was front gone middle olds back)) (maps : joins_maps (was front gone middle olds back) ≡ true)
    (gone_inner : are_inner gone ≡ true) (olds_inner : are_inner olds ≡ true) (news_inner : are_inner news ≡ true) where
  abbrev all : List (Cell NodeKind)
  all = was front gone middle olds back

  abbrev made : ℕ → Made
  made = after makes all absent

  module _ (sources : List (List ℕ)) (one other : ℕ → Value) (first : Carries sources 0 all one) (second : Carries sources 0 (becomes front middle news back) other)
      (asked_before : all_hold (asked sources one all) ≡ true) where
    abbrev number : ℕ
    number = sources_behind 0 front

    -- what each part carries
    record Parts : Type 0 where
      one_front : Carries sources 0 front one
      one_gone : Carries sources number gone one
      one_middle : Carries sources number middle one
      one_olds : Carries sources (sources_behind number middle) olds one
      one_back : Carries sources (sources_behind number middle) back one
      other_front : Carries sources 0 front other
      other_middle : Carries sources number middle other
      other_news : Carries sources (sources_behind number middle) news other
      other_back : Carries sources (sources_behind number middle) back other

    parts : Parts
    parts =
        let a = carries-parts sources one 0 front (gone ++ (middle ++ (olds ++ back))) first in
        let b = carries-parts sources one number gone (middle ++ (olds ++ back)) a.1 in
        let same_gone : sources_behind number gone ≡ number = inner-sources number gone gone_inner in
        let behind : Carries sources number (middle ++ (olds ++ back)) one = subst (λ (count : ℕ). Carries sources count (middle ++ (olds ++ back)) one) same_gone b.1 in
        let c = carries-parts sources one number middle (olds ++ back) behind in
        let d = carries-parts sources one (sources_behind number middle) olds back c.1 in
        let e = carries-parts sources other 0 front (middle ++ (news ++ back)) second in
        let f = carries-parts sources other number middle (news ++ back) e.1 in
        let g = carries-parts sources other (sources_behind number middle) news back f.1 in
        record {
          one_front = a.0;
          one_gone = b.0;
          one_middle = c.0;
          one_olds = d.0;
          one_back = subst (λ (count : ℕ). Carries sources count back one) (inner-sources (sources_behind number middle) olds olds_inner) d.1;
          other_front = e.0;
          other_middle = f.0;
          other_news = g.0;
          other_back = subst (λ (count : ℕ). Carries sources count back other) (inner-sources (sources_behind number middle) news news_inner) g.1;
        }

    joined : all_hold (told tells_maps made all) ≡ true
    joined = sym (maps-told all made wired (made-met all wired)) ∙ maps

    front_lost : OfAll (Lost made one other) (gives front)
    front_lost =
        let held = held-was tells_maps made front gone middle olds back joined in
        along (Lost made one other) [] front (in-parts front gone middle olds news back next wired rewires).front_holds
        (lost-on made sources one other 0 front parts.one_front parts.other_front held.front_holds) (λ edge none. absurd (true≢false (sym none)))

    pub at-exchange : AtExchange front gone olds news all made sources one other
    at-exchange =
        let asks = held-was asks one front gone middle olds back asked_before in
        record {
          makers = made-met all wired;
          joined = joined;
          all_carried = first;
          all_asked = asked_before;
          gone_number = number;
          gone_carried = parts.one_gone;
          gone_asked = asks.gone_holds;
          olds_number = sources_behind number middle;
          olds_carried = parts.one_olds;
          olds_asked = asks.olds_hold;
          news_number = sources_behind number middle;
          news_carried = parts.other_news;
          front_lost = front_lost;
        }

    module _ (gives_same : GivesSame front gone middle olds news before now made sources one other) where
      -- edges of the nodes that go aside
      abbrev Kept : ℕ → Type 0
      Kept edge = has edge (gives gone) ≡ false → Lost made one other edge

      keep-steps : (cells : List (Cell NodeKind)) → OfAll (λ edge. has edge (gives gone) ≡ false) (takes cells) → Each (λ cell. OfAll (Lost made one other) cell.ins → OfAll (Lost made one other) cell.outs) cells
          → Each (λ cell. OfAll Kept cell.ins → OfAll Kept cell.outs) cells
      keep-steps [] outer steps = tt
      keep-steps (cell ∷ cells) outer steps = (
        λ kept edge there none. steps.0 (λ edge taken. kept edge taken (outer edge (has-front edge cell.ins (takes cells) taken))) edge there,
        keep-steps cells (λ edge there. outer edge (has-back edge cell.ins (takes cells) there)) steps.1,
      )

      given-steps : (cells : List (Cell NodeKind)) → OfAll (Lost made one other) (gives cells) → Each (λ cell. OfAll Kept cell.ins → OfAll Kept cell.outs) cells
      given-steps [] lost = tt
      given-steps (cell ∷ cells) lost = (
        λ kept edge there none. lost edge (has-front edge cell.outs (gives cells) there),
        given-steps cells (λ edge there. lost edge (has-back edge cell.outs (gives cells) there)),
      )

      front_outer : OfAll (λ edge. has edge (gives gone) ≡ false) (takes front)
      front_outer = outer-front front gone middle olds news back next wired rewires

      middle_outer : OfAll (λ edge. has edge (gives gone) ≡ false) (takes middle)
      middle_outer = outer-middle front gone middle olds news back next wired rewires

      back_outer : OfAll (λ edge. has edge (gives gone) ≡ false) (takes back)
      back_outer = outer-back front gone middle olds news back next wired rewires

      all_kept : OfAll Kept (gives ((front ++ gone) ++ (middle ++ (olds ++ back))))
      all_kept =
          let held = held-was tells_maps made front gone middle olds back joined in
          let steps : Each (λ cell. OfAll Kept cell.ins → OfAll Kept cell.outs) (middle ++ (olds ++ back)) =
          each-append (λ cell. OfAll Kept cell.ins → OfAll Kept cell.outs) middle (olds ++ back)
          (keep-steps middle middle_outer (lost-on made sources one other number middle parts.one_middle parts.other_middle held.middle_holds))
          (each-append (λ cell. OfAll Kept cell.ins → OfAll Kept cell.outs) olds back (given-steps olds gives_same.lost)
          (keep-steps back back_outer (lost-on made sources one other (sources_behind number middle) back parts.one_back parts.other_back held.back_holds))) in
          along Kept (front ++ gone) (middle ++ (olds ++ back)) (in-parts front gone middle olds news back next wired rewires).behind_holds steps
          (λ edge there.
          of-both Kept (gives front) (gives gone) (λ edge there none. front_lost edge there) (λ edge there none. absurd (true≢false (sym there ∙ none)))
          edge (ap (has edge) (sym (flat_map-append (λ (cell : Cell NodeKind). cell.outs) front gone)) ∙ there))

      kept-given : (edge : ℕ) → has edge (gives all) ≡ true → Kept edge
      kept-given edge there =
          all_kept edge (ap (λ (cells : List (Cell NodeKind)). has edge (gives cells)) (append_assoc front gone (middle ++ (olds ++ back))) ∙ there)

      -- what comes at the nodes that stay
      takes_front : OfAll (Lost made one other) (takes front)
      takes_front edge there = kept-given edge (taken-given all wired edge (front-was (λ cell. cell.ins) front gone middle olds back edge there)) (front_outer edge there)

      takes_middle : OfAll (Lost made one other) (takes middle)
      takes_middle edge there = kept-given edge (taken-given all wired edge (middle-was (λ cell. cell.ins) front gone middle olds back edge there)) (middle_outer edge there)

      takes_back : OfAll (Lost made one other) (takes back)
      takes_back edge there = kept-given edge (taken-given all wired edge (back-was (λ cell. cell.ins) front gone middle olds back edge there)) (back_outer edge there)

      asks_new : all_hold (asked sources other (becomes front middle news back)) ≡ true
      asks_new =
          let held = held-was tells_maps made front gone middle olds back joined in
          let old = held-was asks one front gone middle olds back asked_before in
          held-becomes asks other front middle news back
          (lost-asked made sources one other front held.front_holds takes_front old.front_holds)
          (lost-asked made sources one other middle held.middle_holds takes_middle old.middle_holds)
          gives_same.asks
          (lost-asked made sources one other back held.back_holds takes_back old.back_holds)

      writes_new : written sources one all ≡ written sources other (becomes front middle news back)
      writes_new =
          let a : List Write = written sources other front in
          let b : List Write = written sources other middle in
          let c : List Write = written sources other back in
          let text : ℕ → List ℕ = λ edge. (one edge).text in
          let text_new : ℕ → List ℕ = λ edge. (other edge).text in
          let old : written sources one all ≡ a ++ (b ++ c) =
          told-append writes_of text front (gone ++ (middle ++ (olds ++ back)))
          ∙ ap (λ (some : List Write). some ++ written sources one (gone ++ (middle ++ (olds ++ back)))) (lost-written made sources one other front takes_front)
          ∙ ap (λ (rest : List Write). a ++ rest) (told-append writes_of text gone (middle ++ (olds ++ back))
          ∙ ap (λ (some : List Write). some ++ written sources one (middle ++ (olds ++ back))) (none-written sources one gone gone_inner)
          ∙ told-append writes_of text middle (olds ++ back)
          ∙ ap (λ (some : List Write). some ++ written sources one (olds ++ back)) (lost-written made sources one other middle takes_middle)
          ∙ ap (λ (rest : List Write). b ++ rest) (told-append writes_of text olds back
          ∙ ap (λ (some : List Write). some ++ written sources one back) (none-written sources one olds olds_inner) ∙ lost-written made sources one other back takes_back)) in
          let new : written sources other (becomes front middle news back) ≡ a ++ (b ++ c) =
          told-append writes_of text_new front (middle ++ (news ++ back))
          ∙ ap (λ (rest : List Write). a ++ rest) (told-append writes_of text_new middle (news ++ back)
          ∙ ap (λ (rest : List Write). b ++ rest) (told-append writes_of text_new news back ∙ ap (λ (some : List Write). some ++ c) (none-written sources other news news_inner))) in
          old ∙ sym new

      selects_new : status_by before (selected sources one all) ≡ status_by now (selected sources other (becomes front middle news back))
      selects_new =
          let a : List Bool = selected sources other front in
          let b : List Bool = selected sources other middle in
          let c : List Bool = selected sources other back in
          let tell : NodeKind → List (List ℕ) → List Bool = λ (node : NodeKind) (ins : List (List ℕ)). selects node ins ∷ [] in
          let text : ℕ → List ℕ = λ edge. (one edge).text in
          let text_new : ℕ → List ℕ = λ edge. (other edge).text in
          let old : selected sources one all ≡ a ++ (selected sources one gone ++ (b ++ (selected sources one olds ++ c))) =
          told-append tell text front (gone ++ (middle ++ (olds ++ back)))
          ∙ ap (λ (some : List Bool). some ++ selected sources one (gone ++ (middle ++ (olds ++ back)))) (lost-selected made sources one other front takes_front)
          ∙ ap (λ (rest : List Bool). a ++ rest) (told-append tell text gone (middle ++ (olds ++ back))
          ∙ ap (λ (rest : List Bool). selected sources one gone ++ rest) (told-append tell text middle (olds ++ back)
          ∙ ap (λ (some : List Bool). some ++ selected sources one (olds ++ back)) (lost-selected made sources one other middle takes_middle)
          ∙ ap (λ (rest : List Bool). b ++ rest) (told-append tell text olds back
          ∙ ap (λ (rest : List Bool). selected sources one olds ++ rest) (lost-selected made sources one other back takes_back)))) in
          let new : selected sources other (becomes front middle news back) ≡ a ++ (b ++ (selected sources other news ++ c)) =
          told-append tell text_new front (middle ++ (news ++ back))
          ∙ ap (λ (rest : List Bool). a ++ rest) (told-append tell text_new middle (news ++ back)
          ∙ ap (λ (rest : List Bool). b ++ rest) (told-append tell text_new news back)) in
          ap (status_by before) old ∙ gives_same.codes a b c (one-each sources other front) (one-each sources other middle) ∙ ap (status_by now) (sym new)

      pub leaves-exchange : LeavesSame all (becomes front middle news back) before now sources one other
      leaves-exchange = record { asks = asks_new; writes = writes_new; selects = selects_new }
