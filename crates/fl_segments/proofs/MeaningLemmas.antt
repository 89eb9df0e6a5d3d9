-- What a graph that is made node by node leaves: each node's texts are had from those before it.
use Rattle.std.proofs.Common.{◌≡◌, ℕ, zero, suc, ◌+◌, ◌<◌, ◌==◌, List, [], ◌∷◌, ◌++◌, Bool, true, ◌&&◌, Option, Some, None, is_some, if◌then◌else◌, get_or, length, map, nat_le, nat_lt, replicate, refl, ap, sym, subst, ◌∙◌, append-nil, append_assoc, length-append, arith}
use Rattle.std.specs.List.{list_all, cons_option, range_with_len}
use Rattle.std.proofs.lemmas.Bool.{and_parts, eqb-true, ltb-true}
use Rattle.std.proofs.lemmas.List.FromFn.{length-range_with_len}
use Rattle.ps_world.specs.Paths.{Components}
use Rattle.fl_graph.specs.Net.{run, step as node_step, store}
use Rattle.fl_graph.specs.Kinds.{may_have}
use Rattle.fl_graph.specs.declared.graphs.Cell.{Cell}
use Rattle.fl_graph.specs.declared.kinds.NodeKind.{NodeKind}
use Rattle.fl_graph.specs.declared.kinds.NodeKind.TheVariants as kind
use Rattle.fl_graph.specs.declared.kinds.From.TheVariants as from
use Rattle.fl_graph.proofs.ListLemmas.{holds-has}
use Rattle.fl_graph.proofs.NetLemmas.{values-agree}
use Rattle.fl_classes.specs.Flow.{Placed, equation, is_source, no_texts, only, placed_from, texts_given}
use Rattle.fl_classes.specs.Sources.{source_texts, text_read}
use Rattle.fl_classes.proofs.PartLemmas.{parts_of-count}
use Rattle.fl_segments.specs.Inner.Drawing.{Step, behind, drawn, next_of, outs_of}
use Rattle.fl_segments.proofs.DrawingLemmas.{AreBelow, fits_ports, next-is}
use Rattle.fl_segments.proofs.RowLemmas.{Agrees, put-count, put-front, put_behind, store-row}

-- the text on an edge, where these are on the edges in order
abbrev pub text_at : List (List ℕ) → ℕ → List ℕ
text_at texts edge = get_or texts edge []

abbrev pub ins_texts : List (List ℕ) → Step → List (List ℕ)
ins_texts texts it = map (text_at texts) it.ins

abbrev pub option_texts : Option (List ℕ) → List (List ℕ)
option_texts None = []
option_texts (Some text) = text ∷ []

-- so many texts: those that lack are empty
abbrev pub fitted : ℕ → List (List ℕ) → List (List ℕ)
fitted zero texts = []
fitted (suc count) [] = [] ∷ fitted count []
fitted (suc count) (text ∷ texts) = text ∷ fitted count texts

pub fitted-count : (count : ℕ) (texts : List (List ℕ)) → length (fitted count texts) ≡ count
fitted-count zero texts = refl
fitted-count (suc count) [] = ap suc (fitted-count count [])
fitted-count (suc count) (text ∷ texts) = ap suc (fitted-count count texts)

pub fitted-same : (count : ℕ) (texts : List (List ℕ)) → length texts ≡ count → fitted count texts ≡ texts
fitted-same zero [] is = refl
fitted-same zero (text ∷ texts) is = absurd (omega (arith, is))
fitted-same (suc count) [] is = absurd (omega (arith, is))
fitted-same (suc count) (text ∷ texts) is = ap (λ (rest : List (List ℕ)). text ∷ rest) (fitted-same count texts (omega (arith, is)))

module _ (input : List ℕ) (files : Components → List ℕ) where
  -- the texts that a node gives
  abbrev pub given_texts : NodeKind → ℕ → List (List ℕ) → List (List ℕ)
  given_texts (kind.Source from.Input) outs ins = input ∷ []
  given_texts (kind.Source (from.File path)) outs ins = files path ∷ []
  given_texts other outs ins = texts_given [] 0 other outs ins

  -- the texts behind a node, and behind all
  abbrev pub texts_on : List (List ℕ) → Step → List (List ℕ)
  texts_on texts it = put_behind texts (fitted it.outs (given_texts it.kind it.outs (ins_texts texts it)))

  abbrev pub texts_behind : List (List ℕ) → List Step → List (List ℕ)
  texts_behind texts [] = texts
  texts_behind texts (it ∷ steps) = texts_behind (texts_on texts it) steps

  pub texts-append : (texts : List (List ℕ)) (front back : List Step) → texts_behind texts (front ++ back) ≡ texts_behind (texts_behind texts front) back
  texts-append texts [] back = refl
  texts-append texts (it ∷ front) back = texts-append (texts_on texts it) front back

  on-count : (texts : List (List ℕ)) (it : Step) → length (texts_on texts it) ≡ next_of it.outs (length texts)
  on-count texts it =
      put-count texts (fitted it.outs (given_texts it.kind it.outs (ins_texts texts it)))
      ∙ ap (λ (count : ℕ). length texts + count) (fitted-count it.outs (given_texts it.kind it.outs (ins_texts texts it)))
      ∙ sym (next-is it.outs (length texts))

  -- where each edge's text stands
  pub texts-count : (texts : List (List ℕ)) (steps : List Step) → length (texts_behind texts steps) ≡ behind (length texts) steps
  texts-count texts [] = refl
  texts-count texts (it ∷ steps) = texts-count (texts_on texts it) steps ∙ ap (λ (from : ℕ). behind from steps) (on-count texts it)

  -- a text that is on an edge stays there
  pub keeps-text : (texts : List (List ℕ)) (steps : List Step) (edge : ℕ) → edge < length texts → text_at (texts_behind texts steps) edge ≡ text_at texts edge
  keeps-text texts [] edge below = refl
  keeps-text texts (it ∷ steps) edge below =
      let size = on-count texts it in
      let more = next-is it.outs (length texts) in
      keeps-text (texts_on texts it) steps edge (omega (arith, below, size, more))
      ∙ put-front [] texts (fitted it.outs (given_texts it.kind it.outs (ins_texts texts it))) edge below

  reads-text : (it : NodeKind) → is_source it ≡ is_some (text_read input files it)
  reads-text (kind.Source (from.File path)) = refl
  reads-text (kind.Source from.Input) = refl
  reads-text other = refl

  -- the source's text is the one by its number
  gives-texts : (it : NodeKind) (front rest : List (List ℕ)) (outs : ℕ) (ins : List (List ℕ))
      → texts_given (front ++ cons_option (text_read input files it) rest) (length front) it outs ins ≡ given_texts it outs ins
  gives-texts (kind.Source from.Input) front rest outs ins = ap (λ (text : List ℕ). text ∷ []) (get-here front rest input)
    where
      get-here : (front rest : List (List ℕ)) (text : List ℕ) → get_or (front ++ text ∷ rest) (length front) [] ≡ text
      get-here [] rest text = refl
      get-here (first ∷ front) rest text = get-here front rest text
  gives-texts (kind.Source (from.File path)) front rest outs ins = ap (λ (text : List ℕ). text ∷ []) (get-here front rest (files path))
    where
      get-here : (front rest : List (List ℕ)) (text : List ℕ) → get_or (front ++ text ∷ rest) (length front) [] ≡ text
      get-here [] rest text = refl
      get-here (first ∷ front) rest text = get-here front rest text
  gives-texts other front rest outs ins = refl

  -- as many as its ports
  one-text : (outs : ℕ) (text : List ℕ) (before : Bool) → (before && (outs == 1)) ≡ true → length (text ∷ []) ≡ outs
  one-text outs text before is = sym (eqb-true outs 1 (and_parts before (outs == 1) is).1)

  replicate-count : (count : ℕ) (text : List ℕ) → length (replicate count text) ≡ count
  replicate-count zero text = refl
  replicate-count (suc count) text = ap suc (replicate-count count text)

  given-count : (it : NodeKind) (count outs : ℕ) (ins : List (List ℕ)) → may_have it count outs ≡ true → length (given_texts it outs ins) ≡ outs
  given-count (kind.Source from.Input) count outs ins is = one-text outs input (count == 0) is
  given-count (kind.Source (from.File path)) count outs ins is = one-text outs (files path) (count == 0) is
  given-count (kind.Text text) count outs ins is = one-text outs text (count == 0) is
  given-count kind.Split count outs ins is = parts_of-count (only ins) outs
  given-count (kind.Map inv) count outs ins is = one-text outs [] (count == 1) is
  given-count (kind.Whole inv) count outs ins is = one-text outs [] _ is
  given-count (kind.Cat close) count outs ins is = one-text outs [] (nat_le 1 count) is
  given-count (kind.Agg inv) count outs ins is = one-text outs [] (nat_le 2 count) is
  given-count (kind.Finish inv) count outs ins is = one-text outs [] (count == 1) is
  given-count (kind.TeeFile path mode) count outs ins is = replicate-count outs (only ins)
  given-count kind.Drain count outs ins is = sym (eqb-true outs 0 (and_parts (count == 1) (outs == 0) is).1)
  given-count (kind.Sink sink) count outs ins is = sym (eqb-true outs 0 (and_parts (count == 1) (outs == 0) is).1)

  -- what nodes tell of their ins
  module _ {Told : Type 0} (tell : NodeKind → List (List ℕ) → List Told) where
    abbrev pub told_from : List (List ℕ) → List Step → List Told
    told_from texts [] = []
    told_from texts (it ∷ steps) = tell it.kind (ins_texts texts it) ++ told_from (texts_on texts it) steps

    pub told-append : (texts : List (List ℕ)) (front back : List Step) → told_from texts (front ++ back) ≡ told_from texts front ++ told_from (texts_behind texts front) back
    told-append texts [] back = refl
    told-append texts (it ∷ front) back =
        ap (λ (rest : List Told). tell it.kind (ins_texts texts it) ++ rest) (told-append (texts_on texts it) front back)
        ∙ sym (append_assoc (tell it.kind (ins_texts texts it)) (told_from (texts_on texts it) front) (told_from (texts_behind (texts_on texts it) front) back))

    abbrev tell_placed : Placed → List (List ℕ) → List Told
    tell_placed node ins = tell node.1 ins

    -- where the texts on the edges so far are known
    told-drawn : (front texts : List (List ℕ)) (steps : List Step) (values : ℕ → List ℕ) → AreBelow (length texts) steps → list_all fits_ports steps ≡ true → Agrees [] values texts
        → run (equation (front ++ source_texts (drawn (length texts) steps) input files)) tell_placed (placed_from (length front) (drawn (length texts) steps)) values ≡ told_from texts steps
    told-drawn front texts [] values below fit agrees = refl
    told-drawn front texts (it ∷ steps) values below fit agrees =
        let parts = and_parts (fits_ports it) (list_all fits_ports steps) fit in
        let given : List (List ℕ) = given_texts it.kind it.outs (ins_texts texts it) in
        let new : List (List ℕ) = fitted it.outs given in
        let all : List (List ℕ) = texts_on texts it in
        let next : next_of it.outs (length texts) ≡ length all = sym (on-count texts it) in
        let cells : List (Cell NodeKind) = drawn (next_of it.outs (length texts)) steps in
        let sources : List (List ℕ) = front ++ cons_option (text_read input files it.kind) (source_texts cells input files) in
        let row : List ℕ = outs_of it.outs (length texts) in
        let stored : ℕ → List ℕ = node_step (equation sources) (record { kind = (length front, it.kind); ins = it.ins; outs = row; stage = it.stage }) values in
        let put : (edge : ℕ) → stored edge ≡ store (range_with_len (length texts) (length new)) new values edge = λ edge.
        ap (λ (count : ℕ). store row (texts_given sources (length front) it.kind count (map values it.ins)) values edge) (length-range_with_len (length texts) it.outs)
        ∙ ap (λ (ins : List (List ℕ)). store row (texts_given sources (length front) it.kind it.outs ins) values edge) same_ins
        ∙ ap (λ (texts : List (List ℕ)). store row texts values edge)
        (gives-texts it.kind front (source_texts cells input files) it.outs (ins_texts texts it)
        ∙ sym (fitted-same it.outs given (given-count it.kind (length it.ins) it.outs (ins_texts texts it) parts.0)))
        ∙ ap (λ (count : ℕ). store (range_with_len (length texts) count) new values edge) (sym (fitted-count it.outs given)) in
        let agree : Agrees [] stored all = λ edge within. put edge ∙ store-row [] texts new values agrees edge within in
        ap (λ (ins : List (List ℕ)). tell it.kind ins ++ run (equation sources) tell_placed (placed_from (if is_source it.kind then length front + 1 else length front) cells) stored) same_ins
        ∙ ap (λ (rest : List Told). tell it.kind (ins_texts texts it) ++ rest)
        (behind_front cells stored (told_from (texts_on texts it) steps)
        (ap (λ (from : ℕ). run (equation ((front ++ option_texts (text_read input files it.kind)) ++ source_texts (drawn from steps) input files)) tell_placed (placed_from (length (front ++ option_texts (text_read input files it.kind))) (drawn from steps)) stored) next
        ∙ told-drawn (front ++ option_texts (text_read input files it.kind)) all steps stored (subst (λ (from : ℕ). AreBelow from steps) next below.1) parts.1 agree))
      where
        same_ins : map values it.ins ≡ ins_texts texts it
        same_ins = values-agree it.ins values (text_at texts) (λ edge there. agrees edge (ltb-true edge (length texts) (holds-has (λ edge. nat_lt edge (length texts)) edge it.ins below.0 there)))

        -- the number of sources, and their texts, behind this node
        behind_front : (cells : List (Cell NodeKind)) (values : ℕ → List ℕ) (told : List Told)
            → run (equation ((front ++ option_texts (text_read input files it.kind)) ++ source_texts cells input files)) tell_placed (placed_from (length (front ++ option_texts (text_read input files it.kind))) cells) values ≡ told
            → run (equation (front ++ cons_option (text_read input files it.kind) (source_texts cells input files))) tell_placed (placed_from (if is_source it.kind then length front + 1 else length front) cells) values ≡ told
        behind_front cells values told is = by_text (text_read input files it.kind) (reads-text it.kind) is
          where
            by_text : (text : Option (List ℕ)) → is_source it.kind ≡ is_some text
                → run (equation ((front ++ option_texts text) ++ source_texts cells input files)) tell_placed (placed_from (length (front ++ option_texts text)) cells) values ≡ told
                → run (equation (front ++ cons_option text (source_texts cells input files))) tell_placed (placed_from (if is_source it.kind then length front + 1 else length front) cells) values ≡ told
            by_text None source is =
                ap (λ (passes : Bool). run (equation (front ++ source_texts cells input files)) tell_placed (placed_from (if passes then length front + 1 else length front) cells) values) source
                ∙ ap (λ (all : List (List ℕ)). run (equation (all ++ source_texts cells input files)) tell_placed (placed_from (length all) cells) values) (sym (append-nil front)) ∙ is
            by_text (Some text) source is =
                ap (λ (passes : Bool). run (equation (front ++ text ∷ source_texts cells input files)) tell_placed (placed_from (if passes then length front + 1 else length front) cells) values) source
                ∙ ap (λ (all : List (List ℕ)). run (equation all) tell_placed (placed_from (length front + 1) cells) values) (sym (append_assoc front (text ∷ []) (source_texts cells input files)))
                ∙ ap (λ (number : ℕ). run (equation ((front ++ text ∷ []) ++ source_texts cells input files)) tell_placed (placed_from number cells) values) (sym (length-append front (text ∷ [])))
                ∙ is

    pub told-all : (steps : List Step) → AreBelow 0 steps → list_all fits_ports steps ≡ true
        → run (equation (source_texts (drawn 0 steps) input files)) tell_placed (placed_from 0 (drawn 0 steps)) no_texts ≡ told_from [] steps
    told-all steps below fit = told-drawn [] [] steps no_texts below fit (λ edge within. absurd (omega (arith, within)))
