-- A split and a Cat before a node that joins no maps: aggregates and finishes still join maps of their own words.
use Rattle.std.proofs.Common.{◌≡◌, ℕ, zero, suc, ◌+◌, ◌<◌, ◌≤◌, List, [], ◌∷◌, ◌++◌, Bool, true, ◌&&◌, nat_lt, if◌then◌else◌, length, map, replicate, refl, ap, sym, ◌∙◌, arith}
use Rattle.std.specs.List.{range_with_len}
use Rattle.std.proofs.lemmas.Bool.{true≢false, lt-ltb, le-ltb}
use Rattle.std.proofs.lemmas.List.Folds.{list_all-append}
use Rattle.std.proofs.lemmas.Grind.{flat_map-append}
use Rattle.fl_graph.specs.Net.{has, takes, gives, after}
use Rattle.fl_graph.specs.declared.graphs.Cell.{Cell}
use Rattle.fl_graph.specs.Makers.{Made, Given, makes, absent, tells_maps, joins_maps, all_hold}
use Rattle.fl_graph.specs.declared.kinds.NodeKind.{NodeKind}
use Rattle.fl_graph.specs.declared.kinds.NodeKind.TheVariants as kind
use Rattle.fl_graph.proofs.NetLemmas.{Agree, values-agree, has-front, has-back}
use Rattle.fl_rewrites.proofs.OrderLemmas.{Each, each-append, each-front, each-back, IsWired, IsMet, met-agree, told, told-agree}
use Rattle.fl_rewrites.proofs.NumberLemmas.{taken-given}
use Rattle.fl_rewrites.proofs.SoundLemmas.{maps-told, made-met}
use Rattle.fl_rewrites.proofs.SpliceLemmas.{told-append}
use Rattle.fl_split.specs.Inserting.{may_take_parts, turned}
use Rattle.fl_split.proofs.KindLemmas.{put}

-- a node that joins no maps asks nothing of their words
tells-nothing : (node : NodeKind) → may_take_parts node ≡ true → (made : List Made) → tells_maps node made ≡ true ∷ []
tells-nothing (kind.Agg inv) plain made = absurd (true≢false (sym plain))
tells-nothing (kind.Finish inv) plain made = absurd (true≢false (sym plain))
tells-nothing (kind.Source source) plain made = refl
tells-nothing (kind.Text text) plain made = refl
tells-nothing kind.Split plain made = refl
tells-nothing (kind.Map inv) plain made = refl
tells-nothing (kind.Whole inv) plain made = refl
tells-nothing (kind.Cat close) plain made = refl
tells-nothing (kind.TeeFile path mode) plain made = refl
tells-nothing kind.Drain plain made = refl
tells-nothing (kind.Sink sink) plain made = refl

-- edges from this number on are given, and are no maps
abbrev with_given : ℕ → (ℕ → Made) → ℕ → Made
with_given next made edge = if nat_lt edge next then made edge else Given

given-row : (next : ℕ) (made : ℕ → Made) (from count_of : ℕ) → next ≤ from
    → map (with_given next made) (range_with_len from count_of) ≡ replicate (length (range_with_len from count_of)) Given
given-row next made from zero high = refl
given-row next made from (suc count_of) high =
    ap (λ (is : Bool). (if is then made from else Given) ∷ map (with_given next made) (range_with_len (from + 1) count_of)) (le-ltb from next high)
    ∙ ap (λ (rest : List Made). Given ∷ rest) (given-row next made (from + 1) count_of (omega (arith, high)))

module _ (next edge parts : ℕ) (taker : Cell NodeKind) (front back : List (Cell NodeKind)) (wired : IsWired (front ++ (taker ∷ back)))
    (below : (other : ℕ) → has other (gives (front ++ (taker ∷ back))) ≡ true → other < next) (plain : may_take_parts taker.kind ≡ true) where
  low-given : (made : ℕ → Made) (edges : List ℕ) → ((other : ℕ) → has other edges ≡ true → has other (gives (front ++ (taker ∷ back))) ≡ true) → Agree edges made (with_given next made)
  low-given made edges within other there = sym (ap (λ (is : Bool). if is then made other else Given) (lt-ltb other next (below other (within other there))))

  given-front : (other : ℕ) → has other (gives front) ≡ true → has other (gives (front ++ (taker ∷ back))) ≡ true
  given-front other there =
      ap (has other) (flat_map-append (λ (cell : Cell NodeKind). cell.outs) front (taker ∷ back)) ∙ has-front other (gives front) (gives (taker ∷ back)) there

  given-behind : (other : ℕ) → has other (gives (taker ∷ back)) ≡ true → has other (gives (front ++ (taker ∷ back))) ≡ true
  given-behind other there =
      ap (has other) (flat_map-append (λ (cell : Cell NodeKind). cell.outs) front (taker ∷ back)) ∙ has-back other (gives front) (gives (taker ∷ back)) there

  taken-front : (other : ℕ) → has other (takes front) ≡ true → has other (gives (front ++ (taker ∷ back))) ≡ true
  taken-front other there =
      taken-given (front ++ (taker ∷ back)) wired other
      (ap (has other) (flat_map-append (λ (cell : Cell NodeKind). cell.ins) front (taker ∷ back)) ∙ has-front other (takes front) (takes (taker ∷ back)) there)

  taken-behind : (other : ℕ) → has other (takes back) ≡ true → has other (gives (front ++ (taker ∷ back))) ≡ true
  taken-behind other there =
      taken-given (front ++ (taker ∷ back)) wired other
      (ap (has other) (flat_map-append (λ (cell : Cell NodeKind). cell.ins) front (taker ∷ back)) ∙ has-back other (takes front) (takes (taker ∷ back)) (has-back other taker.ins (takes back) there))

  module _ (made : ℕ → Made) (met : Each (IsMet makes made) (front ++ (taker ∷ back))) where
    met-split : Each (IsMet makes (with_given next made)) (front ++ put next edge parts taker back)
    met-split =
        let new : ℕ → Made = with_given next made in
        let first : Each (IsMet makes new) front =
        met-agree makes front made new (low-given made (takes front) taken-front) (low-given made (gives front) given-front) (each-front (IsMet makes made) front (taker ∷ back) met) in
        let behind : Each (IsMet makes made) (taker ∷ back) = each-back (IsMet makes made) front (taker ∷ back) met in
        let last : Each (IsMet makes new) back =
        met-agree makes back made new (low-given made (takes back) taken-behind) (low-given made (gives back) (λ other there. given-behind other (has-back other taker.outs (gives back) there))) behind.1 in
        let outs : map made taker.outs ≡ map new taker.outs =
        values-agree taker.outs made new (low-given made taker.outs (λ other there. given-behind other (has-front other taker.outs (gives back) there))) in
        let joined : map new ((next + parts) ∷ []) ≡ replicate 1 Given =
        ap (λ (is : Bool). (if is then made (next + parts) else Given) ∷ []) (le-ltb (next + parts) next (omega arith)) in
        each-append (IsMet makes new) front (put next edge parts taker back) first
        (given-row next made next parts (omega arith), (joined, (sym outs ∙ behind.0, last)))

  told-holds : (made : ℕ → Made) → all_hold (told tells_maps made (front ++ (taker ∷ back))) ≡ (all_hold (told tells_maps made front) && all_hold (told tells_maps made back))
  told-holds made =
      let first : List Bool = told tells_maps made front in
      let last : List Bool = told tells_maps made back in
      ap all_hold (told-append tells_maps made front (taker ∷ back)) ∙ list_all-append (λ (holds : Bool). holds) first (told tells_maps made (taker ∷ back))
      ∙ ap (λ (here : List Bool). all_hold first && all_hold (here ++ last)) (tells-nothing taker.kind plain (map made taker.ins))

  told-holds-split : (made : ℕ → Made) → all_hold (told tells_maps made (front ++ put next edge parts taker back)) ≡ (all_hold (told tells_maps made front) && all_hold (told tells_maps made back))
  told-holds-split made =
      let first : List Bool = told tells_maps made front in
      let last : List Bool = told tells_maps made back in
      ap all_hold (told-append tells_maps made front (put next edge parts taker back)) ∙ list_all-append (λ (holds : Bool). holds) first (told tells_maps made (put next edge parts taker back))
      ∙ ap (λ (here : List Bool). all_hold first && all_hold (true ∷ true ∷ (here ++ last))) (tells-nothing taker.kind plain (map made (map (turned edge (next + parts)) taker.ins)))

  pub maps-split : IsWired (front ++ put next edge parts taker back) → joins_maps (front ++ (taker ∷ back)) ≡ true → joins_maps (front ++ put next edge parts taker back) ≡ true
  maps-split wired_new joins =
      let made : ℕ → Made = after makes (front ++ (taker ∷ back)) absent in
      let met : Each (IsMet makes made) (front ++ (taker ∷ back)) = made-met (front ++ (taker ∷ back)) wired in
      let new : ℕ → Made = with_given next made in
      maps-told (front ++ put next edge parts taker back) new wired_new (met-split made met) ∙ told-holds-split new
      ∙ ap (λ (first : List Bool). all_hold first && all_hold (told tells_maps new back)) (sym (told-agree tells_maps front made new (low-given made (takes front) taken-front)))
      ∙ ap (λ (last : List Bool). all_hold (told tells_maps made front) && all_hold last) (sym (told-agree tells_maps back made new (low-given made (takes back) taken-behind)))
      ∙ sym (told-holds made) ∙ sym (maps-told (front ++ (taker ∷ back)) made wired met) ∙ joins
