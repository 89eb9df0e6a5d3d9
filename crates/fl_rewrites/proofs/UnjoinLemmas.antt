-- A Whole behind a Cat whose ins get maps of their own: where what stands behind the maps gives the Whole's output, the graph keeps the flow.
use Rattle.std.proofs.Common.{◌≡◌, ℕ, ◌+◌, ◌<◌, ◌≤◌, ◌==◌, List, [], ◌∷◌, ◌++◌, Bool, true, false, ◌&&◌, ◌||◌, Some, length, map, get_or, replicate, refl, ap, sym, subst, ◌∙◌, append-nil, arith, ⊎_elim, ◌⊎◌, inl, inr}
use Rattle.std.specs.List.{concat, flat_map, list_all, list_any, range_with_len, AllZip}
use Rattle.std.proofs.lemmas.Bool.{true≢false, and_parts, and_from, or_cases, eqb-true}
use Rattle.std.proofs.lemmas.List.{length-map}
use Rattle.std.proofs.lemmas.List.Folds.{list_all-append}
use Rattle.std.proofs.lemmas.Grind.{flat_map-append}
use Rattle.ps_lines.specs.Lines.{is_cutlist}
use Rattle.ut_args.specs.Built.{is_built_of}
use Rattle.ut_args.specs.Classes.{class_of, keeps_closed_of}
use Rattle.ut_args.specs.Inputs.{inputs_of}
use Rattle.ut_args.specs.Invocations.{words_of}
use Rattle.ut_args.specs.declared.invocations.Inv.{Inv}
use Rattle.fl_graph.specs.Net.{has, count, takes, gives, after}
use Rattle.fl_graph.specs.Checks.{takes_given, each_after}
use Rattle.fl_graph.specs.Kinds.{has_its_ports, reads_one_input, has_its_class, has_map, runs_what_is_built, selects_lines}
use Rattle.fl_graph.specs.Makers.{Made, Given, Mapped, makes, absent, tells_maps, is_mapped, all_hold}
use Rattle.fl_graph.specs.Valid.{Valid}
use Rattle.fl_graph.specs.declared.graphs.Cell.{Cell}
use Rattle.fl_graph.specs.declared.graphs.Graph.{Graph}
use Rattle.fl_graph.specs.declared.graphs.StatusRule.{StatusRule}
use Rattle.fl_graph.specs.declared.kinds.NodeKind.{NodeKind}
use Rattle.fl_graph.specs.declared.kinds.NodeKind.TheVariants as kind
use Rattle.fl_graph.proofs.ListLemmas.{holds-has, count-append}
use Rattle.fl_graph.proofs.NetLemmas.{values-agree}
use Rattle.fl_classes.specs.Laws.{KeepsClosed}
use Rattle.fl_classes.specs.Utilities.{output_of, selects_of}
use Rattle.fl_classes.specs.Aggregates.{map_of}
use Rattle.fl_classes.specs.Flow.{selects, status_by}
use Rattle.fl_rewrites.specs.Joined.{Joined, joined_at, map_cells, unjoined}
use Rattle.fl_rewrites.specs.Keeps.{Keeps}
use Rattle.fl_rewrites.specs.Known.{is_known}
use Rattle.fl_rewrites.specs.Numbering.{numbered}
use Rattle.fl_rewrites.specs.Places.{replaced}
use Rattle.fl_rewrites.specs.Replacing.{renamed_status}
use Rattle.fl_rewrites.specs.Suits.{Value, with_origin, asks}
use Rattle.fl_rewrites.proofs.OrderLemmas.{Each, each-front, each-back, OfAll, IsWired, IsMet, told}
use Rattle.fl_rewrites.proofs.PlacedLemmas.{sources_behind}
use Rattle.fl_rewrites.proofs.SoundLemmas.{IsSound, sound-valid}
use Rattle.fl_rewrites.proofs.CarryLemmas.{Carries, text_of, asked, selected, map-after, LeavesAlways, keeps}
use Rattle.fl_rewrites.proofs.SpliceLemmas.{after-front, told-append, related-values, has-either}
use Rattle.fl_rewrites.proofs.ValueLemmas.{Fewer, IsNear, fewer-none, fewer-cut, near-groups}
use Rattle.fl_rewrites.proofs.KnownLemmas.{known-cut}
use Rattle.fl_rewrites.proofs.ExchangeLemmas.{Follows, follows-append, follows-more, was, becomes, Rewires}
use Rattle.fl_rewrites.proofs.ExchangedLemmas.{is_inner, are_inner, AreFit, JoinsMaps, IsMore, held-both, sound-exchange}
use Rattle.fl_rewrites.proofs.CarriedLemmas.{is_map, Lost, GivesSame, AtExchange, at-exchange, leaves-exchange, carries-parts, one-each}
use Rattle.fl_rewrites.proofs.JoinedLemmas.{cat_cell, whole_cell, StandsJoined, stands-joined, unjoined-nodes, unjoined_status, unjoined-names, unjoined-codes, takes-maps, gives-maps, size-maps, all-maps, follows-maps, mapped, values-maps, selected-maps, selectors-maps}

abbrev pub texts_at : (ℕ → Value) → List ℕ → List (List ℕ)
texts_at values edges = map (λ edge. (values edge).text) edges

-- maps carry the maps of what comes to them
pub mapped-texts : (inv : Inv) (stage : ℕ) (sources : List (List ℕ)) (values : ℕ → Value) (edges : List ℕ) → map text_of (map (mapped inv stage sources values) edges) ≡ map (map_of inv) (texts_at values edges)
mapped-texts inv stage sources values [] = refl
mapped-texts inv stage sources values (edge ∷ edges) = ap (λ (rest : List (List ℕ)). map_of inv (values edge).text ∷ rest) (mapped-texts inv stage sources values edges)

-- the text of the Whole's output comes from no group, and nothing is asked that doesn't hold
pub record GivesOut (inv : Inv) (out : ℕ) (others : List (Cell NodeKind)) (parts : List ℕ) (sources : List (List ℕ)) (other : ℕ → Value) : Type 0 where
  pub text : (other out).text ≡ output_of inv (concat (texts_at other parts) ∷ [])
  pub file : (other out).file ≡ false
  pub group : (other out).group ≡ []
  pub asked_others : all_hold (asked sources other others) ≡ true

-- nodes behind the maps of these edges, which take all that they give, and give what the Whole did: the text of its output, of no group
pub record StandsBehind (known : Bool) (inv : Inv) (stage next out : ℕ) (parts : List ℕ) (others : List (Cell NodeKind)) : Type 0 where
  pub fresh : List ℕ
  pub takes_others : (edge : ℕ) → count edge (takes others) ≡ count edge (range_with_len next (length parts)) + count edge fresh
  pub gives_others : (edge : ℕ) → count edge (gives others) ≡ count edge (out ∷ []) + count edge fresh
  pub high : (edge : ℕ) → edge < next → count edge (range_with_len next (length parts)) + count edge fresh ≡ 0
  pub single : (edge : ℕ) → count edge (range_with_len next (length parts)) + count edge fresh ≤ 1
  pub follows : Follows (λ edge. has edge (range_with_len next (length parts)) ≡ true) others
  pub fit : AreFit others
  pub has_maps : has_map (class_of inv) ≡ true
  pub joins : (made : ℕ → Made) → Each (IsMet makes made) others → map made (range_with_len next (length parts)) ≡ replicate (length parts) (Mapped (words_of inv))
      → all_hold (told tells_maps made others) ≡ true
  pub values : (sources : List (List ℕ)) (other : ℕ → Value) (number : ℕ) → (known ≡ true → is_cutlist (texts_at other parts) ≡ true)
      → is_cutlist (flat_map (λ (value : Value). value.group) (map other parts)) ≡ true → Carries sources number others other
      → map other (range_with_len next (length parts)) ≡ map (mapped inv stage sources other) parts → GivesOut inv out others parts sources other
  pub selects : (texts : List (List ℕ)) → 1 ≤ length texts → (known ≡ true → is_cutlist texts ≡ true)
      → selects_of inv (concat texts ∷ []) ≡ list_any (λ text. selects_of inv (text ∷ [])) texts

-- the Whole's command is built
built-of : (front : List (Cell NodeKind)) (cat : Cell NodeKind) (middle : List (Cell NodeKind)) (inv : Inv) (edge out stage : ℕ) (back : List (Cell NodeKind))
    → list_all (λ cell. runs_what_is_built cell.kind) (was front (cat ∷ []) middle (whole_cell inv edge out stage ∷ []) back) ≡ true → is_built_of inv ≡ true
built-of front cat middle inv edge out stage back all =
    let test : Cell NodeKind → Bool = λ (cell : Cell NodeKind). runs_what_is_built cell.kind in
    let whole : Cell NodeKind = whole_cell inv edge out stage in
    let first = and_parts (list_all test front) (list_all test (cat ∷ (middle ++ (whole ∷ back)))) (sym (list_all-append test front (cat ∷ (middle ++ (whole ∷ back)))) ∙ all) in
    let second = and_parts (test cat) (list_all test (middle ++ (whole ∷ back))) first.1 in
    let third = and_parts (list_all test middle) (list_all test (whole ∷ back)) (sym (list_all-append test middle (whole ∷ back)) ∙ second.1) in
    (and_parts (is_built_of inv) (list_all test back) third.1).0

module _ (closes : (inv : Inv) → keeps_closed_of inv ≡ true → KeepsClosed inv) (front middle back : List (Cell NodeKind)) (inv : Inv) (edge out cat_stage stage next : ℕ) (parts : List ℕ)
    (others : List (Cell NodeKind)) (before : StatusRule) (some : 1 ≤ length parts) (reads_one : inputs_of inv ≡ 1) where
  abbrev cat : Cell NodeKind
  cat = cat_cell parts edge cat_stage

  abbrev whole : Cell NodeKind
  whole = whole_cell inv edge out stage

  abbrev maps : List (Cell NodeKind)
  maps = map_cells inv stage next parts

  abbrev all : List (Cell NodeKind)
  all = was front (cat ∷ []) middle (whole ∷ []) back

  abbrev now : StatusRule
  now = unjoined_status front cat middle (length (maps ++ others)) (length maps) before

  module _ (sound : IsSound all before) (behind : StandsBehind (is_known all parts) inv stage next out parts others) where
    -- the Cat takes what those before it give
    parts_given : OfAll (λ edge. has edge (gives front) ≡ true) parts
    parts_given =
        let first = and_parts (each_after takes_given [] front) (each_after takes_given front (cat ∷ (middle ++ (whole ∷ back)))) (sym (after-front takes_given [] front (cat ∷ (middle ++ (whole ∷ back)))) ∙ sound.wired.later) in
        let second = and_parts (takes_given front cat) (each_after takes_given (front ++ cat ∷ []) (middle ++ (whole ∷ back))) first.1 in
        λ edge there. holds-has (λ edge. has edge (gives front)) edge parts second.0 there

    rewires : Rewires (cat ∷ []) (whole ∷ []) (maps ++ others) next
    rewires =
        let row : List ℕ = range_with_len next (length parts) in
        record {
          inner = edge ∷ [];
          fresh = row ++ behind.fresh;
          takes_same = λ it. (
              let one = ap (count it) (flat_map-append (λ (cell : Cell NodeKind). cell.ins) maps others) ∙ count-append it (takes maps) (takes others) in
              let two = ap (count it) (takes-maps inv stage next parts) in
              let three = behind.takes_others it in
              let four = count-append it row behind.fresh in
              let five = count-append it parts [] in
              omega (arith, one, two, three, four, five));
          gives_same = λ it. (
              let one = ap (count it) (flat_map-append (λ (cell : Cell NodeKind). cell.outs) maps others) ∙ count-append it (gives maps) (gives others) in
              let two = ap (count it) (gives-maps inv stage next parts) in
              let three = behind.gives_others it in
              let four = count-append it row behind.fresh in
              omega (arith, one, two, three, four));
          high = λ it low. (let both = count-append it row behind.fresh in let none = behind.high it low in omega (arith, both, none));
          single = λ it. (let both = count-append it row behind.fresh in let most = behind.single it in omega (arith, both, most));
          joins = λ it. omega arith;
          taken = λ it. omega arith;
        }

    follows : Follows (λ edge. has edge (gives front) ≡ true) (maps ++ others)
    follows =
        follows-append (λ edge. has edge (gives front) ≡ true) maps others (follows-maps inv stage (λ edge. has edge (gives front) ≡ true) next parts parts_given)
        (follows-more (λ edge. has edge (range_with_len next (length parts)) ≡ true) (λ edge. (has edge (gives front) ≡ true) ⊎ (has edge (gives maps) ≡ true))
        (λ edge there. inr (ap (has edge) (gives-maps inv stage next parts) ∙ there)) others behind.follows)

    built : is_built_of inv ≡ true
    built = built-of front cat middle inv edge out stage back sound.built

    all-of-both : (test : Cell NodeKind → Bool) → list_all test maps ≡ true → list_all test others ≡ true → list_all test (maps ++ others) ≡ true
    all-of-both test first second = list_all-append test maps others ∙ and_from (list_all test maps) (list_all test others) first second

    fit : AreFit (maps ++ others)
    fit = record {
      inner = all-of-both (λ cell. is_inner cell.kind) (all-maps inv stage (λ cell. is_inner cell.kind) (λ edge next. refl) next parts) behind.fit.inner;
      ports = all-of-both has_its_ports (all-maps inv stage has_its_ports (λ edge next. refl) next parts) behind.fit.ports;
      inputs = all-of-both (λ cell. reads_one_input cell.kind) (all-maps inv stage (λ cell. reads_one_input cell.kind) (λ edge next. ap (λ (size : ℕ). size == 1) reads_one) next parts) behind.fit.inputs;
      classes = all-of-both (λ cell. has_its_class cell.kind) (all-maps inv stage (λ cell. has_its_class cell.kind) (λ edge next. behind.has_maps) next parts) behind.fit.classes;
      built = all-of-both (λ cell. runs_what_is_built cell.kind) (all-maps inv stage (λ cell. runs_what_is_built cell.kind) (λ edge next. built) next parts) behind.fit.built;
    }

    -- what the maps and those behind them say of the makers of edges
    made-maps : (made : ℕ → Made) (from : ℕ) (edges : List ℕ) → Each (IsMet makes made) (map_cells inv stage from edges)
        → (map made (range_with_len from (length edges)) ≡ replicate (length edges) (Mapped (words_of inv))) × (all_hold (told tells_maps made (map_cells inv stage from edges)) ≡ true)
    made-maps made from [] met = (refl, refl)
    made-maps made from (edge ∷ edges) met =
        let rest = made-maps made (from + 1) edges met.1 in
        let here : made from ≡ Mapped (words_of inv) = ap (λ (all : List Made). get_or all 0 (made from)) met.0 in (
          ap (λ (first : Made). first ∷ map made (range_with_len (from + 1) (length edges))) here ∙ ap (λ (others : List Made). Mapped (words_of inv) ∷ others) rest.0,
          rest.1,
        )

    joins_maps_new : JoinsMaps front (whole ∷ []) (maps ++ others)
    joins_maps_new = record {
      raises = λ one other met new it there words is. (
          let made_out : one out ≡ Given = ap (λ (all : List Made). get_or all 0 (one out)) met.0 in
          let same : out ≡ it = only_one it there in
          absurd (true≢false (sym is ∙ ap (λ (number : ℕ). is_mapped words (one number)) (sym same) ∙ ap (is_mapped words) made_out)));
      joins = λ one other more met told_before. (
          let first = made-maps other next parts (each-front (IsMet makes other) maps others met) in
          held-both tells_maps other maps others first.1 (behind.joins other (each-back (IsMet makes other) maps others met) first.0));
    }
      where
        only_one : (it : ℕ) → has it (out ∷ []) ≡ true → out ≡ it
        only_one it there = ⊎_elim (λ (here : (out == it) ≡ true). eqb-true out it here) (λ (none : false ≡ true). absurd (true≢false (sym none))) (or_cases (out == it) false there)

    module _ (made : ℕ → Made) (sources : List (List ℕ)) (one other : ℕ → Value) (at : AtExchange front (cat ∷ []) (whole ∷ []) (maps ++ others) all made sources one other) where
      near_parts : AllZip IsNear (map one parts) (map other parts)
      near_parts = related-values IsNear parts one other (λ edge there. (at.front_lost edge (parts_given edge there)).near)

      same_texts : texts_at one parts ≡ texts_at other parts
      same_texts = over parts parts_given
        where
          over : (edges : List ℕ) → OfAll (λ edge. has edge (gives front) ≡ true) edges → texts_at one edges ≡ texts_at other edges
          over edges given = values-agree edges (λ edge. (one edge).text) (λ edge. (other edge).text) (λ edge there. (at.front_lost edge (given edge there)).near.text)

      groups_cut : is_cutlist (flat_map (λ (value : Value). value.group) (map one parts)) ≡ true
      groups_cut =
          let held = and_parts (all_hold (asks cat.kind (map one parts))) true (sym (list_all-append (λ (it : Bool). it) (asks cat.kind (map one parts)) []) ∙ at.gone_asked) in
          (and_parts (is_cutlist (flat_map (λ (value : Value). value.group) (map one parts))) true held.0).0

      texts_cut : is_known all parts ≡ true → is_cutlist (texts_at other parts) ≡ true
      texts_cut known = ap is_cutlist (sym same_texts) ∙ known-cut sources one closes all sound.ports at.all_carried parts known groups_cut

      -- the Whole's output was that for the texts joined
      cat_is : one edge ≡ with_origin (kind.Cat false) (map one parts) (concat (map text_of (map one parts)))
      cat_is = ap (λ (values : List Value). get_or values 0 (one edge)) at.gone_carried.0

      whole_is : one out ≡ with_origin (kind.Whole inv) (one edge ∷ []) (output_of inv ((one edge).text ∷ []))
      whole_is = ap (λ (values : List Value). get_or values 0 (one out)) at.olds_carried.0

      joined_text : (one edge).text ≡ concat (texts_at other parts)
      joined_text = ap text_of cat_is ∙ ap concat (map-after one text_of parts) ∙ ap concat same_texts

      out_text : (one out).text ≡ output_of inv (concat (texts_at other parts) ∷ [])
      out_text = ap text_of whole_is ∙ ap (λ (text : List ℕ). output_of inv (text ∷ [])) joined_text

      news_parts : (Carries sources at.news_number maps other) × (Carries sources (sources_behind at.news_number maps) others other)
      news_parts = carries-parts sources other at.news_number maps others at.news_carried

      gives_out : GivesOut inv out others parts sources other
      gives_out =
          behind.values sources other (sources_behind at.news_number maps) texts_cut (fewer-cut (near-groups (map one parts) (map other parts) near_parts) groups_cut) news_parts.1
          (values-maps inv stage sources other at.news_number next parts news_parts.0)

      lost_out : Lost made one other out
      lost_out =
          let outs = met_whole at.makers in
          record {
            near = record {
              text = out_text ∙ sym gives_out.text;
              file = λ is. absurd (true≢false (sym is ∙ gives_out.file));
              group = subst (λ (group : List (List ℕ)). Fewer (one out).group group) (sym gives_out.group) (fewer-none (one out).group);
            };
            maps = λ is. absurd (true≢false (sym is ∙ ap is_map outs));
          }
        where
          met_whole : Each (IsMet makes made) all → made out ≡ Given
          met_whole met =
              let behind_front = each-back (IsMet makes made) front (cat ∷ (middle ++ (whole ∷ back))) met in
              let behind_middle = each-back (IsMet makes made) middle (whole ∷ back) behind_front.1 in
              ap (λ (all : List Made). get_or all 0 (made out)) behind_middle.0

      asked-maps : (from : ℕ) (edges : List ℕ) → all_hold (asked sources other (map_cells inv stage from edges)) ≡ true
      asked-maps from [] = refl
      asked-maps from (edge ∷ edges) = asked-maps (from + 1) edges

      gives-same : GivesSame front (cat ∷ []) middle (whole ∷ []) (maps ++ others) before now made sources one other
      gives-same = record {
        lost = λ it there. subst (Lost made one other) (⊎_elim (λ (here : (out == it) ≡ true). eqb-true out it here) (λ (none : false ≡ true). absurd (true≢false (sym none))) (or_cases (out == it) false there)) lost_out;
        asks = held-both asks other maps others (asked-maps next parts) gives_out.asked_others;
        codes = λ first second last fronts middles. (
            let tell : NodeKind → List (List ℕ) → List Bool = λ (node : NodeKind) (ins : List (List ℕ)). selects node ins ∷ [] in
            let named : List Bool = selected sources other maps in
            let rest : List Bool = selected sources other others in
            let names : named ≡ map (λ edge. selects_of inv ((other edge).text ∷ [])) parts = selected-maps inv stage sources other next parts in
            let some_texts : 1 ≤ length (texts_at other parts) = (let size = length-map parts (λ edge. (other edge).text) in omega (arith, some, size)) in
            let same : selects_of inv ((one edge).text ∷ []) ≡ list_any (λ (it : Bool). it) named =
            ap (λ (text : List ℕ). selects_of inv (text ∷ [])) joined_text ∙ behind.selects (texts_at other parts) some_texts texts_cut ∙ any-mapped parts ∙ ap (list_any (λ (it : Bool). it)) (sym names) in
            let whole_list : selected sources other (maps ++ others) ≡ named ++ rest = told-append tell (λ edge. (other edge).text) maps others in
            let sizes : length (named ++ rest) ≡ length (maps ++ others) = ap length (sym whole_list) ∙ one-each sources other (maps ++ others) in
            unjoined-codes front cat middle before (length (maps ++ others)) (length maps) (selects_of inv ((one edge).text ∷ [])) named rest first second last same fronts middles sizes (one-each sources other maps)
            ∙ ap (λ (list : List Bool). status_by now (first ++ (second ++ (list ++ last)))) (sym whole_list));
      }
        where
          any-mapped : (edges : List ℕ) → list_any (λ text. selects_of inv (text ∷ [])) (texts_at other edges) ≡ list_any (λ (it : Bool). it) (map (λ edge. selects_of inv ((other edge).text ∷ [])) edges)
          any-mapped [] = refl
          any-mapped (edge ∷ edges) = ap (λ (rest : Bool). selects_of inv ((other edge).text ∷ []) || rest) (any-mapped edges)

    module _ (below : (edge : ℕ) → has edge (gives all) ≡ true → edge < next) where
      sound_new : IsSound (becomes front middle (maps ++ others) back) now
      sound_new =
          sound-exchange front (cat ∷ []) middle (whole ∷ []) (maps ++ others) back next rewires before now sound below follows refl refl fit joins_maps_new
          (unjoined-names front cat middle whole maps others back before refl (λ is. selectors-maps inv stage is next parts) sound.named)

      pub leaves_new : LeavesAlways all (becomes front middle (maps ++ others) back) before now
      leaves_new sources known one other first second asks =
          let at = at-exchange front (cat ∷ []) middle (whole ∷ []) (maps ++ others) back before now next rewires sound.wired sound.maps refl refl fit.inner sources one other first second asks in
          leaves-exchange front (cat ∷ []) middle (whole ∷ []) (maps ++ others) back before now next rewires sound.wired sound.maps refl refl fit.inner sources one other first second asks
          (gives-same (after makes all absent) sources one other at)

      pub keeps_new : (old : Graph) → Valid old.nodes old.status → old.nodes ≡ all → old.status ≡ before
          → Keeps old (record { nodes = numbered (becomes front middle (maps ++ others) back); status = now })
      keeps_new old valid nodes status =
          keeps old (becomes front middle (maps ++ others) back) now valid sound_new
          (subst (λ (cells : List (Cell NodeKind)). LeavesAlways cells (becomes front middle (maps ++ others) back) old.status now) (sym nodes)
          (subst (λ (rule : StatusRule). LeavesAlways all (becomes front middle (maps ++ others) back) rule now) (sym status) leaves_new))

-- a graph with such nodes in the place of the Whole keeps the flow
pub unjoined-keeps : (closes : (inv : Inv) → keeps_closed_of inv ≡ true → KeepsClosed inv) (old : Graph) (node : ℕ) (at : Joined) (others : List (Cell NodeKind)) → Valid old.nodes old.status
    → joined_at old.nodes node ≡ Some at
    → ((out : ℕ) → at.outs ≡ out ∷ [] → inputs_of at.inv ≡ 1 → is_built_of at.inv ≡ true → 1 ≤ length at.parts
    → StandsBehind (is_known old.nodes at.parts) at.inv at.stage (length (gives old.nodes)) out at.parts others)
    → Keeps old (unjoined old node (record { cat = at.cat; named = length at.parts; nodes = map_cells at.inv at.stage (length (gives old.nodes)) at.parts ++ others }))
unjoined-keeps closes old node at others valid is behind =
    let next : ℕ = length (gives old.nodes) in
    let stands = stands-joined old.nodes old.status node at (sound-valid old.nodes old.status valid) is in
    let cat : Cell NodeKind = cat_cell at.parts stands.edge stands.cat_stage in
    let whole : Cell NodeKind = whole_cell at.inv stands.edge stands.out at.stage in
    let all : List (Cell NodeKind) = was stands.front (cat ∷ []) stands.middle (whole ∷ []) stands.back in
    let maps : List (Cell NodeKind) = map_cells at.inv at.stage next at.parts in
    let sound : IsSound all old.status = subst (λ (cells : List (Cell NodeKind)). IsSound cells old.status) stands.nodes (sound-valid old.nodes old.status valid) in
    let below : (edge : ℕ) → has edge (gives all) ≡ true → edge < next =
    λ edge there. valid.edges.below edge (ap (λ (cells : List (Cell NodeKind)). has edge (gives cells)) stands.nodes ∙ there) in
    let built : is_built_of at.inv ≡ true = built-of stands.front cat stands.middle at.inv stands.edge stands.out at.stage stands.back sound.built in
    let known : StandsBehind (is_known all at.parts) at.inv at.stage next stands.out at.parts others =
    subst (λ (cells : List (Cell NodeKind)). StandsBehind (is_known cells at.parts) at.inv at.stage next stands.out at.parts others) stands.nodes (behind stands.out stands.outs stands.reads_one built stands.parts_some) in
    let kept = keeps_new closes stands.front stands.middle stands.back at.inv stands.edge stands.out stands.cat_stage at.stage next at.parts others old.status stands.parts_some stands.reads_one sound known below
    old valid stands.nodes refl in
    let nodes : replaced (λ (cell : Cell NodeKind). []) at.cat (replaced (λ (cell : Cell NodeKind). maps ++ others) node old.nodes) ≡ becomes stands.front stands.middle (maps ++ others) stands.back =
    ap (λ (place : ℕ). replaced (λ (cell : Cell NodeKind). []) place (replaced (λ (cell : Cell NodeKind). maps ++ others) node old.nodes)) stands.cat_number
    ∙ ap (λ (place : ℕ). replaced (λ (cell : Cell NodeKind). []) (length stands.front) (replaced (λ (cell : Cell NodeKind). maps ++ others) place old.nodes)) stands.whole_number
    ∙ ap (λ (cells : List (Cell NodeKind)). replaced (λ (cell : Cell NodeKind). []) (length stands.front) (replaced (λ (cell : Cell NodeKind). maps ++ others) (length (stands.front ++ (cat ∷ stands.middle))) cells)) stands.nodes
    ∙ unjoined-nodes stands.front cat stands.middle whole (maps ++ others) stands.back in
    let status : renamed_status at.cat 0 0 (renamed_status node (length (maps ++ others)) (length at.parts) old.status) ≡ unjoined_status stands.front cat stands.middle (length (maps ++ others)) (length maps) old.status =
    ap (λ (place : ℕ). renamed_status place 0 0 (renamed_status node (length (maps ++ others)) (length at.parts) old.status)) stands.cat_number
    ∙ ap (λ (place : ℕ). renamed_status (length stands.front) 0 0 (renamed_status place (length (maps ++ others)) (length at.parts) old.status)) stands.whole_number
    ∙ ap (λ (count_of : ℕ). unjoined_status stands.front cat stands.middle (length (maps ++ others)) count_of old.status) (sym (size-maps at.inv at.stage next at.parts)) in
    subst (λ (cells : List (Cell NodeKind)). Keeps old (record { nodes = numbered cells; status = renamed_status at.cat 0 0 (renamed_status node (length (maps ++ others)) (length at.parts) old.status) })) (sym nodes)
    (subst (λ (rule : StatusRule). Keeps old (record { nodes = numbered (becomes stands.front stands.middle (maps ++ others) stands.back); status = rule })) (sym status) kept)
