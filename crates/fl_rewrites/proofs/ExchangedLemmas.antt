-- Nodes exchanged for others that are neither ends nor texts: the nodes are sound where the new ones are.
use Rattle.std.proofs.Common.{◌≡◌, ℕ, ◌+◌, ◌<◌, ◌≤◌, List, [], ◌∷◌, ◌++◌, Bool, true, false, ◌&&◌, if◌then◌else◌, Option, None, map, refl, ap, sym, subst, ◌∙◌, arith, ⊎_elim}
use Rattle.std.specs.List.{list_all, count_by, filter_map, cons_option, flat_map, sum_by, AllZip}
use Rattle.std.proofs.lemmas.Bool.{true≢false, and_parts, and_from}
use Rattle.std.proofs.lemmas.List.Folds.{list_all-append}
use Rattle.std.proofs.lemmas.List.Sums.{sum_by-append, sum_by-cons}
use Rattle.std.proofs.lemmas.List.Elements.{filter_map-append}
use Rattle.std.proofs.lemmas.Grind.{flat_map-append}
use Rattle.ut_args.specs.Invocations.{words_of}
use Rattle.ut_args.specs.declared.invocations.Inv.{Inv}
use Rattle.ps_world.specs.Paths.{Components}
use Rattle.fl_graph.specs.Net.{has, takes, gives, after}
use Rattle.fl_graph.specs.declared.graphs.Cell.{Cell}
use Rattle.fl_graph.specs.declared.graphs.StatusRule.{StatusRule}
use Rattle.fl_graph.specs.Kinds.{has_its_ports, is_input, is_output, reads_one_input, has_its_class, runs_what_is_built}
use Rattle.fl_graph.specs.Makers.{Made, Absent, Given, Mapped, makes, absent, tells_maps, joins_maps, is_mapped, all_hold}
use Rattle.fl_graph.specs.Paths.{paths_read, paths_written, path_read, path_written, ArePathsApart}
use Rattle.fl_graph.specs.Valid.{nodes_named, names_selector}
use Rattle.fl_graph.specs.declared.kinds.NodeKind.{NodeKind}
use Rattle.fl_graph.specs.declared.kinds.NodeKind.TheVariants as kind
use Rattle.fl_graph.proofs.NetLemmas.{has-front, has-back}
use Rattle.fl_rewrites.proofs.OrderLemmas.{Each, each-front, each-back, OfAll, of-both, same-values, IsWired, IsMet, told}
use Rattle.fl_rewrites.proofs.NumberLemmas.{taken-given}
use Rattle.fl_rewrites.proofs.SoundLemmas.{IsSound, maps-told, made-met}
use Rattle.fl_rewrites.proofs.SpliceLemmas.{told-append, related-values}
use Rattle.fl_rewrites.proofs.ExchangeLemmas.{was, becomes, Rewires, Follows, outer-front, outer-middle, outer-back, wired-exchange}

-- a node that works within the graph: it is no end, no text, and writes nothing outside
abbrev pub is_inner : NodeKind → Bool
is_inner kind.Split = true
is_inner (kind.Map inv) = true
is_inner (kind.Whole inv) = true
is_inner (kind.Cat close) = true
is_inner (kind.Agg inv) = true
is_inner (kind.Finish inv) = true
is_inner other = false

abbrev pub are_inner : List (Cell NodeKind) → Bool
are_inner cells = list_all (λ cell. is_inner cell.kind) cells

-- what holds of each kind of them
pub inner-cases : (holds : NodeKind → Type 0) → holds kind.Split → ((inv : Inv) → holds (kind.Map inv)) → ((inv : Inv) → holds (kind.Whole inv)) → ((close : Bool) → holds (kind.Cat close))
    → ((inv : Inv) → holds (kind.Agg inv)) → ((inv : Inv) → holds (kind.Finish inv)) → (node : NodeKind) → is_inner node ≡ true → holds node
inner-cases holds split maps wholes cats aggs finishes kind.Split inner = split
inner-cases holds split maps wholes cats aggs finishes (kind.Map inv) inner = maps inv
inner-cases holds split maps wholes cats aggs finishes (kind.Whole inv) inner = wholes inv
inner-cases holds split maps wholes cats aggs finishes (kind.Cat close) inner = cats close
inner-cases holds split maps wholes cats aggs finishes (kind.Agg inv) inner = aggs inv
inner-cases holds split maps wholes cats aggs finishes (kind.Finish inv) inner = finishes inv
inner-cases holds split maps wholes cats aggs finishes (kind.Source source) inner = absurd (true≢false (sym inner))
inner-cases holds split maps wholes cats aggs finishes (kind.Text text) inner = absurd (true≢false (sym inner))
inner-cases holds split maps wholes cats aggs finishes (kind.TeeFile path mode) inner = absurd (true≢false (sym inner))
inner-cases holds split maps wholes cats aggs finishes kind.Drain inner = absurd (true≢false (sym inner))
inner-cases holds split maps wholes cats aggs finishes (kind.Sink sink) inner = absurd (true≢false (sym inner))

-- what no such node is, is none of them
none-counted : (test : NodeKind → Bool) → ((node : NodeKind) → is_inner node ≡ true → test node ≡ false) → (cells : List (Cell NodeKind)) → are_inner cells ≡ true
    → count_by (λ (cell : Cell NodeKind). test cell.kind) cells ≡ 0
none-counted test none [] inner = refl
none-counted test none (cell ∷ cells) inner =
    let parts = and_parts (is_inner cell.kind) (are_inner cells) inner in
    let rest = none-counted test none cells parts.1 in
    sum_by-cons (λ (cell : Cell NodeKind). if test cell.kind then 1 else 0) cell cells
    ∙ ap (λ (is : Bool). (if is then 1 else 0) + sum_by (λ (cell : Cell NodeKind). if test cell.kind then 1 else 0) cells) (none cell.kind parts.0) ∙ omega (arith, rest)

none-found : {Found : Type 0} (find : NodeKind → Option Found) → ((node : NodeKind) → is_inner node ≡ true → find node ≡ None) → (cells : List (Cell NodeKind)) → are_inner cells ≡ true
    → filter_map (λ (cell : Cell NodeKind). find cell.kind) cells ≡ []
none-found find none [] inner = refl
none-found {Found} find none (cell ∷ cells) inner =
    let parts = and_parts (is_inner cell.kind) (are_inner cells) inner in
    ap (λ (first : Option Found). cons_option first (filter_map (λ (cell : Cell NodeKind). find cell.kind) cells)) (none cell.kind parts.0) ∙ none-found find none cells parts.1

-- it is a map of these words where the other is
abbrev pub IsMore : Made → Made → Type 0
IsMore one other = (words : List (List ℕ)) → is_mapped words one ≡ true → is_mapped words other ≡ true

more-mapped : (words : List (List ℕ)) (ones others : List Made) → AllZip IsMore ones others → list_all (is_mapped words) ones ≡ true → list_all (is_mapped words) others ≡ true
more-mapped words [] [] more all = refl
more-mapped words [] (other ∷ others) more all = absurd more
more-mapped words (one ∷ ones) [] more all = absurd more
more-mapped words (one ∷ ones) (other ∷ others) more all =
    let parts = and_parts (is_mapped words one) (list_all (is_mapped words) ones) all in
    and_from (is_mapped words other) (list_all (is_mapped words) others) (more.0 words parts.0) (more-mapped words ones others more.1 parts.1)

more-joined : (words : List (List ℕ)) (ones others : List Made) → AllZip IsMore ones others → all_hold (list_all (is_mapped words) ones ∷ []) ≡ true → all_hold (list_all (is_mapped words) others ∷ []) ≡ true
more-joined words ones others more all =
    let parts = and_parts (list_all (is_mapped words) ones) true all in and_from (list_all (is_mapped words) others) true (more-mapped words ones others more parts.0) refl

more-told : (node : NodeKind) (ones others : List Made) → AllZip IsMore ones others → all_hold (tells_maps node ones) ≡ true → all_hold (tells_maps node others) ≡ true
more-told (kind.Agg inv) ones others more all = more-joined (words_of inv) ones others more all
more-told (kind.Finish inv) ones others more all = more-joined (words_of inv) ones others more all
more-told (kind.Source source) ones others more all = refl
more-told (kind.Text text) ones others more all = refl
more-told kind.Split ones others more all = refl
more-told (kind.Map inv) ones others more all = refl
more-told (kind.Whole inv) ones others more all = refl
more-told (kind.Cat close) ones others more all = refl
more-told (kind.TeeFile path mode) ones others more all = refl
more-told kind.Drain ones others more all = refl
more-told (kind.Sink sink) ones others more all = refl

-- what is told of two parts holds where it holds of each
module _ {Kind Value : Type 0} (tell : Kind → List Value → List Bool) (values : ℕ → Value) where
  pub held-append : (front back : List (Cell Kind)) → all_hold (told tell values (front ++ back)) ≡ (all_hold (told tell values front) && all_hold (told tell values back))
  held-append front back =
      ap all_hold (told-append tell values front back) ∙ list_all-append (λ (it : Bool). it) (told tell values front) (told tell values back)

  pub held-parts : (front back : List (Cell Kind)) → all_hold (told tell values (front ++ back)) ≡ true → (all_hold (told tell values front) ≡ true) × (all_hold (told tell values back) ≡ true)
  held-parts front back all = and_parts (all_hold (told tell values front)) (all_hold (told tell values back)) (sym (held-append front back) ∙ all)

  pub held-both : (front back : List (Cell Kind)) → all_hold (told tell values front) ≡ true → all_hold (told tell values back) ≡ true → all_hold (told tell values (front ++ back)) ≡ true
  held-both front back first second = held-append front back ∙ and_from (all_hold (told tell values front)) (all_hold (told tell values back)) first second

  -- what is told of the nodes before an exchange
  pub record HeldOf (front gone middle olds back : List (Cell Kind)) : Type 0 where
    pub front_holds : all_hold (told tell values front) ≡ true
    pub gone_holds : all_hold (told tell values gone) ≡ true
    pub middle_holds : all_hold (told tell values middle) ≡ true
    pub olds_hold : all_hold (told tell values olds) ≡ true
    pub back_holds : all_hold (told tell values back) ≡ true

  pub held-was : (front gone middle olds back : List (Cell Kind)) → all_hold (told tell values (was front gone middle olds back)) ≡ true → HeldOf front gone middle olds back
  held-was front gone middle olds back all =
      let one = held-parts front (gone ++ (middle ++ (olds ++ back))) all in
      let two = held-parts gone (middle ++ (olds ++ back)) one.1 in
      let three = held-parts middle (olds ++ back) two.1 in
      let four = held-parts olds back three.1 in
      record { front_holds = one.0; gone_holds = two.0; middle_holds = three.0; olds_hold = four.0; back_holds = four.1 }

  pub held-becomes : (front middle news back : List (Cell Kind)) → all_hold (told tell values front) ≡ true → all_hold (told tell values middle) ≡ true
      → all_hold (told tell values news) ≡ true → all_hold (told tell values back) ≡ true → all_hold (told tell values (becomes front middle news back)) ≡ true
  held-becomes front middle news back one two three four =
      held-both front (middle ++ (news ++ back)) one (held-both middle (news ++ back) two (held-both news back three four))

-- it holds of all edges before an exchange where it holds of those of each part
pub of-was : (pick : Cell NodeKind → List ℕ) (holds : ℕ → Type 0) (front gone middle olds back : List (Cell NodeKind)) → OfAll holds (flat_map pick front) → OfAll holds (flat_map pick gone)
    → OfAll holds (flat_map pick middle) → OfAll holds (flat_map pick olds) → OfAll holds (flat_map pick back) → OfAll holds (flat_map pick (was front gone middle olds back))
of-was pick holds front gone middle olds back one two three four five =
    joined front (gone ++ (middle ++ (olds ++ back))) one (joined gone (middle ++ (olds ++ back)) two (joined middle (olds ++ back) three (joined olds back four five)))
  where
    joined : (first second : List (Cell NodeKind)) → OfAll holds (flat_map pick first) → OfAll holds (flat_map pick second) → OfAll holds (flat_map pick (first ++ second))
    joined first second left right edge there = of-both holds (flat_map pick first) (flat_map pick second) left right edge (ap (has edge) (sym (flat_map-append pick first second)) ∙ there)

-- the edges of the nodes that stay are among those before
module _ (pick : Cell NodeKind → List ℕ) (front gone middle olds back : List (Cell NodeKind)) where
  among-first : (first second : List (Cell NodeKind)) (edge : ℕ) → has edge (flat_map pick first) ≡ true → has edge (flat_map pick (first ++ second)) ≡ true
  among-first first second edge there = ap (has edge) (flat_map-append pick first second) ∙ has-front edge (flat_map pick first) (flat_map pick second) there

  among-second : (first second : List (Cell NodeKind)) (edge : ℕ) → has edge (flat_map pick second) ≡ true → has edge (flat_map pick (first ++ second)) ≡ true
  among-second first second edge there = ap (has edge) (flat_map-append pick first second) ∙ has-back edge (flat_map pick first) (flat_map pick second) there

  pub front-was : OfAll (λ edge. has edge (flat_map pick (was front gone middle olds back)) ≡ true) (flat_map pick front)
  front-was edge there = among-first front (gone ++ (middle ++ (olds ++ back))) edge there

  pub middle-was : OfAll (λ edge. has edge (flat_map pick (was front gone middle olds back)) ≡ true) (flat_map pick middle)
  middle-was edge there = among-second front (gone ++ (middle ++ (olds ++ back))) edge (among-second gone (middle ++ (olds ++ back)) edge (among-first middle (olds ++ back) edge there))

  pub back-was : OfAll (λ edge. has edge (flat_map pick (was front gone middle olds back)) ≡ true) (flat_map pick back)
  back-was edge there =
      among-second front (gone ++ (middle ++ (olds ++ back))) edge (among-second gone (middle ++ (olds ++ back)) edge (among-second middle (olds ++ back) edge (among-second olds back edge there)))

-- the new nodes are as their kinds ask
pub record AreFit (cells : List (Cell NodeKind)) : Type 0 where
  pub inner : are_inner cells ≡ true
  pub ports : list_all has_its_ports cells ≡ true
  pub inputs : list_all (λ cell. reads_one_input cell.kind) cells ≡ true
  pub classes : list_all (λ cell. has_its_class cell.kind) cells ≡ true
  pub built : list_all (λ cell. runs_what_is_built cell.kind) cells ≡ true

-- what the old nodes give is of a map where it was, and the new ones join maps of their words
pub record JoinsMaps (front olds news : List (Cell NodeKind)) : Type 0 where
  pub raises : (one other : ℕ → Made) → Each (IsMet makes one) olds → Each (IsMet makes other) news → OfAll (λ edge. IsMore (one edge) (other edge)) (gives olds)
  pub joins : (one other : ℕ → Made) → OfAll (λ edge. IsMore (one edge) (other edge)) (gives front) → Each (IsMet makes other) news
      → all_hold (told tells_maps one olds) ≡ true → all_hold (told tells_maps other news) ≡ true

same-made : (one other : ℕ → Made) (cells : List (Cell NodeKind)) → Each (IsMet makes one) cells → Each (IsMet makes other) cells → OfAll (λ edge. one edge ≡ other edge) (gives cells)
same-made one other [] first second = λ edge there. absurd (true≢false (sym there))
same-made one other (cell ∷ cells) first second =
    of-both (λ edge. one edge ≡ other edge) cell.outs (gives cells) (same-values cell.outs one other (first.0 ∙ sym second.0)) (same-made one other cells first.1 second.1)

module _ (front gone middle olds news back : List (Cell NodeKind)) (next : ℕ) (rewires : Rewires gone olds news next) where
  module _ (wired : IsWired (was front gone middle olds back)) (wired_new : IsWired (becomes front middle news back)) (joins : JoinsMaps front olds news)
      (holds : joins_maps (was front gone middle olds back) ≡ true) where
    abbrev one : ℕ → Made
    one = after makes (was front gone middle olds back) absent

    abbrev other : ℕ → Made
    other = after makes (becomes front middle news back) absent

    one_front : Each (IsMet makes one) front
    one_front = each-front (IsMet makes one) front (gone ++ (middle ++ (olds ++ back))) (made-met (was front gone middle olds back) wired)

    one_behind : Each (IsMet makes one) (middle ++ (olds ++ back))
    one_behind =
        each-back (IsMet makes one) gone (middle ++ (olds ++ back)) (each-back (IsMet makes one) front (gone ++ (middle ++ (olds ++ back))) (made-met (was front gone middle olds back) wired))

    other_behind : Each (IsMet makes other) (middle ++ (news ++ back))
    other_behind = each-back (IsMet makes other) front (middle ++ (news ++ back)) (made-met (becomes front middle news back) wired_new)

    other_news : Each (IsMet makes other) news
    other_news = each-front (IsMet makes other) news back (each-back (IsMet makes other) middle (news ++ back) other_behind)

    abbrev Kept : ℕ → Type 0
    Kept edge = has edge (gives gone) ≡ false → IsMore (one edge) (other edge)

    same-kept : (cells : List (Cell NodeKind)) → OfAll (λ edge. one edge ≡ other edge) (gives cells) → OfAll Kept (gives cells)
    same-kept cells same edge there outer words is = ap (is_mapped words) (sym (same edge there)) ∙ is

    front_same : OfAll (λ edge. one edge ≡ other edge) (gives front)
    front_same = same-made one other front one_front (each-front (IsMet makes other) front (middle ++ (news ++ back)) (made-met (becomes front middle news back) wired_new))

    olds_more : OfAll (λ edge. IsMore (one edge) (other edge)) (gives olds)
    olds_more = joins.raises one other (each-front (IsMet makes one) olds back (each-back (IsMet makes one) middle (olds ++ back) one_behind)) other_news

    all_kept : OfAll Kept (gives (was front gone middle olds back))
    all_kept =
        of-was (λ cell. cell.outs) Kept front gone middle olds back
        (same-kept front front_same)
        (λ edge there outer. absurd (true≢false (sym there ∙ outer)))
        (same-kept middle (same-made one other middle (each-front (IsMet makes one) middle (olds ++ back) one_behind) (each-front (IsMet makes other) middle (news ++ back) other_behind)))
        (λ edge there outer. olds_more edge there)
        (same-kept back (same-made one other back (each-back (IsMet makes one) olds back (each-back (IsMet makes one) middle (olds ++ back) one_behind))
        (each-back (IsMet makes other) news back (each-back (IsMet makes other) middle (news ++ back) other_behind))))

    told-kept : (cells : List (Cell NodeKind)) → OfAll (λ edge. has edge (gives (was front gone middle olds back)) ≡ true) (takes cells) → OfAll (λ edge. has edge (gives gone) ≡ false) (takes cells)
        → all_hold (told tells_maps one cells) ≡ true → all_hold (told tells_maps other cells) ≡ true
    told-kept [] given outer all = refl
    told-kept (cell ∷ cells) given outer all =
        let parts = held-parts tells_maps one (cell ∷ []) cells all in
        let more : AllZip IsMore (map one cell.ins) (map other cell.ins) =
        related-values IsMore cell.ins one other (λ edge there.
        all_kept edge (given edge (has-front edge cell.ins (takes cells) there)) (outer edge (has-front edge cell.ins (takes cells) there))) in
        let first : all_hold (tells_maps cell.kind (map one cell.ins)) ≡ true =
        (and_parts (all_hold (tells_maps cell.kind (map one cell.ins))) (all_hold (told tells_maps one [])) (sym (list_all-append (λ (it : Bool). it) (tells_maps cell.kind (map one cell.ins)) []) ∙ parts.0)).0 in
        list_all-append (λ (it : Bool). it) (tells_maps cell.kind (map other cell.ins)) (told tells_maps other cells)
        ∙ and_from (all_hold (tells_maps cell.kind (map other cell.ins))) (all_hold (told tells_maps other cells))
        (more-told cell.kind (map one cell.ins) (map other cell.ins) more first)
        (told-kept cells (λ edge there. given edge (has-back edge cell.ins (takes cells) there)) (λ edge there. outer edge (has-back edge cell.ins (takes cells) there)) parts.1)

    all_given : (edge : ℕ) → has edge (takes (was front gone middle olds back)) ≡ true → has edge (gives (was front gone middle olds back)) ≡ true
    all_given = taken-given (was front gone middle olds back) wired

    maps_new : joins_maps (becomes front middle news back) ≡ true
    maps_new =
        let held = held-was tells_maps one front gone middle olds back (sym (maps-told (was front gone middle olds back) one wired (made-met (was front gone middle olds back) wired)) ∙ holds) in
        let front_given : OfAll (λ edge. has edge (gives (was front gone middle olds back)) ≡ true) (takes front) =
        λ edge there. all_given edge (front-was (λ cell. cell.ins) front gone middle olds back edge there) in
        let middle_given : OfAll (λ edge. has edge (gives (was front gone middle olds back)) ≡ true) (takes middle) =
        λ edge there. all_given edge (middle-was (λ cell. cell.ins) front gone middle olds back edge there) in
        let back_given : OfAll (λ edge. has edge (gives (was front gone middle olds back)) ≡ true) (takes back) =
        λ edge there. all_given edge (back-was (λ cell. cell.ins) front gone middle olds back edge there) in
        let front_more : OfAll (λ edge. IsMore (one edge) (other edge)) (gives front) = λ edge there words is. ap (is_mapped words) (sym (front_same edge there)) ∙ is in
        maps-told (becomes front middle news back) other wired_new (made-met (becomes front middle news back) wired_new)
        ∙ held-becomes tells_maps other front middle news back
        (told-kept front front_given (outer-front front gone middle olds news back next wired rewires) held.front_holds)
        (told-kept middle middle_given (outer-middle front gone middle olds news back next wired rewires) held.middle_holds)
        (joins.joins one other front_more other_news held.olds_hold)
        (told-kept back back_given (outer-back front gone middle olds news back next wired rewires) held.back_holds)

  -- what holds of the kinds of all nodes
  all-becomes : (test : Cell NodeKind → Bool) → list_all test (was front gone middle olds back) ≡ true → list_all test news ≡ true → list_all test (becomes front middle news back) ≡ true
  all-becomes test all new =
      let one = and_parts (list_all test front) (list_all test (gone ++ (middle ++ (olds ++ back)))) (sym (list_all-append test front (gone ++ (middle ++ (olds ++ back)))) ∙ all) in
      let two = and_parts (list_all test gone) (list_all test (middle ++ (olds ++ back))) (sym (list_all-append test gone (middle ++ (olds ++ back))) ∙ one.1) in
      let three = and_parts (list_all test middle) (list_all test (olds ++ back)) (sym (list_all-append test middle (olds ++ back)) ∙ two.1) in
      let four = and_parts (list_all test olds) (list_all test back) (sym (list_all-append test olds back) ∙ three.1) in
      list_all-append test front (middle ++ (news ++ back))
      ∙ and_from (list_all test front) (list_all test (middle ++ (news ++ back))) one.0
      (list_all-append test middle (news ++ back)
      ∙ and_from (list_all test middle) (list_all test (news ++ back)) three.0
      (list_all-append test news back ∙ and_from (list_all test news) (list_all test back) new four.1))

  module _ (gone_inner : are_inner gone ≡ true) (olds_inner : are_inner olds ≡ true) (news_inner : are_inner news ≡ true) where
    count-becomes : (test : NodeKind → Bool) → ((node : NodeKind) → is_inner node ≡ true → test node ≡ false)
        → count_by (λ (cell : Cell NodeKind). test cell.kind) (becomes front middle news back) ≡ count_by (λ (cell : Cell NodeKind). test cell.kind) (was front gone middle olds back)
    count-becomes test none =
        let each : Cell NodeKind → ℕ = λ (cell : Cell NodeKind). if test cell.kind then 1 else 0 in
        let one = sum_by-append each front (gone ++ (middle ++ (olds ++ back))) in
        let two = sum_by-append each gone (middle ++ (olds ++ back)) in
        let three = sum_by-append each middle (olds ++ back) in
        let four = sum_by-append each olds back in
        let five = sum_by-append each front (middle ++ (news ++ back)) in
        let six = sum_by-append each middle (news ++ back) in
        let seven = sum_by-append each news back in
        let gone_none : sum_by each gone ≡ 0 = none-counted test none gone gone_inner in
        let olds_none : sum_by each olds ≡ 0 = none-counted test none olds olds_inner in
        let news_none : sum_by each news ≡ 0 = none-counted test none news news_inner in
        omega (arith, one, two, three, four, five, six, seven, gone_none, olds_none, news_none)

    found-becomes : {Found : Type 0} (find : NodeKind → Option Found) → ((node : NodeKind) → is_inner node ≡ true → find node ≡ None)
        → filter_map (λ (cell : Cell NodeKind). find cell.kind) (becomes front middle news back) ≡ filter_map (λ (cell : Cell NodeKind). find cell.kind) (was front gone middle olds back)
    found-becomes {Found} find none =
        let each : Cell NodeKind → Option Found = λ (cell : Cell NodeKind). find cell.kind in
        let first : List Found = filter_map each front in
        let second : List Found = filter_map each middle in
        let last : List Found = filter_map each back in
        let new : filter_map each (becomes front middle news back) ≡ first ++ (second ++ last) =
        filter_map-append each front (middle ++ (news ++ back))
        ∙ ap (λ (rest : List Found). first ++ rest) (filter_map-append each middle (news ++ back)
        ∙ ap (λ (rest : List Found). second ++ rest) (filter_map-append each news back ∙ ap (λ (some : List Found). some ++ last) (none-found find none news news_inner))) in
        let old : filter_map each (was front gone middle olds back) ≡ first ++ (second ++ last) =
        filter_map-append each front (gone ++ (middle ++ (olds ++ back)))
        ∙ ap (λ (rest : List Found). first ++ rest) (filter_map-append each gone (middle ++ (olds ++ back)) ∙ ap (λ (some : List Found). some ++ filter_map each (middle ++ (olds ++ back))) (none-found find none gone gone_inner)
        ∙ filter_map-append each middle (olds ++ back)
        ∙ ap (λ (rest : List Found). second ++ rest) (filter_map-append each olds back ∙ ap (λ (some : List Found). some ++ last) (none-found find none olds olds_inner))) in
        new ∙ sym old

  pub sound-exchange : (before now : StatusRule) → IsSound (was front gone middle olds back) before
      → ((edge : ℕ) → has edge (gives (was front gone middle olds back)) ≡ true → edge < next) → Follows (λ edge. has edge (gives front) ≡ true) news
      → are_inner gone ≡ true → are_inner olds ≡ true → AreFit news → JoinsMaps front olds news
      → list_all (names_selector (becomes front middle news back)) (nodes_named now) ≡ true → IsSound (becomes front middle news back) now
  sound-exchange before now old below follows gone_inner olds_inner fit joins named =
      let wired : IsWired (becomes front middle news back) = wired-exchange front gone middle olds news back next old.wired rewires below follows in
      record {
        wired = wired;
        ports = all-becomes has_its_ports old.ports fit.ports;
        ends = record {
          input = subst (λ (times : ℕ). times ≤ 1) (sym (count-becomes gone_inner olds_inner fit.inner is_input (inner-cases (λ node. is_input node ≡ false) refl (λ inv. refl) (λ inv. refl) (λ close. refl) (λ inv. refl) (λ inv. refl)))) old.ends.input;
          output = subst (λ (times : ℕ). times ≤ 1) (sym (count-becomes gone_inner olds_inner fit.inner is_output (inner-cases (λ node. is_output node ≡ false) refl (λ inv. refl) (λ inv. refl) (λ close. refl) (λ inv. refl) (λ inv. refl)))) old.ends.output;
        };
        inputs = all-becomes (λ cell. reads_one_input cell.kind) old.inputs fit.inputs;
        classes = all-becomes (λ cell. has_its_class cell.kind) old.classes fit.classes;
        built = all-becomes (λ cell. runs_what_is_built cell.kind) old.built fit.built;
        maps = maps_new old.wired wired joins old.maps;
        paths =
            subst (λ (read : List Components). ArePathsApart read (paths_written (becomes front middle news back)))
            (sym (found-becomes gone_inner olds_inner fit.inner path_read (inner-cases (λ node. path_read node ≡ None) refl (λ inv. refl) (λ inv. refl) (λ close. refl) (λ inv. refl) (λ inv. refl))))
            (subst (λ (written : List Components). ArePathsApart (paths_read (was front gone middle olds back)) written)
            (sym (found-becomes gone_inner olds_inner fit.inner path_written (inner-cases (λ node. path_written node ≡ None) refl (λ inv. refl) (λ inv. refl) (λ close. refl) (λ inv. refl) (λ inv. refl)))) old.paths);
        named = named;
      }
