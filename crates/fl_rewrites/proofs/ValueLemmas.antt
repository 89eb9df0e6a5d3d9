-- Values that know less of where their text comes from: a graph at which only these come asks less of its sources, and does the same.
use Rattle.std.proofs.Common.{◌≡◌, ℕ, List, [], ◌∷◌, ◌++◌, Bool, true, false, ◌&&◌, if◌then◌else◌, map, refl, ap, sym, subst, ◌∙◌}
use Rattle.std.specs.List.{concat, flat_map, list_all, AllZip}
use Rattle.std.proofs.lemmas.Bool.{true≢false, and_parts, and_from}
use Rattle.ps_lines.specs.Lines.{is_closed, is_cutlist, is_empty}
use Rattle.fl_graph.specs.Makers.{all_hold}
use Rattle.fl_graph.specs.declared.kinds.NodeKind.{NodeKind}
use Rattle.fl_graph.specs.declared.kinds.NodeKind.TheVariants as kind
use Rattle.fl_classes.specs.Flow.{texts_given}
use Rattle.fl_rewrites.specs.Suits.{Value, group_of, groups_given, maps_given, with_origin, values_given, asks}
use Rattle.fl_rewrites.proofs.CarryLemmas.{text_of}

-- the second list is the first with some left out
pub data Fewer : List (List ℕ) → List (List ℕ) → Type 0 where
  no_more : Fewer [] []
  kept : {texts others : List (List ℕ)} (text : List ℕ) → Fewer texts others → Fewer (text ∷ texts) (text ∷ others)
  left_out : {texts others : List (List ℕ)} (text : List ℕ) → Fewer texts others → Fewer (text ∷ texts) others

pub fewer-same : (texts : List (List ℕ)) → Fewer texts texts
fewer-same [] = no_more
fewer-same (text ∷ texts) = kept text (fewer-same texts)

pub fewer-none : (texts : List (List ℕ)) → Fewer texts []
fewer-none [] = no_more
fewer-none (text ∷ texts) = left_out text (fewer-none texts)

pub fewer-append : {texts others more fewer : List (List ℕ)} → Fewer texts others → Fewer more fewer → Fewer (texts ++ more) (others ++ fewer)
fewer-append no_more rest = rest
fewer-append (kept text first) rest = kept text (fewer-append first rest)
fewer-append (left_out text first) rest = left_out text (fewer-append first rest)

fewer-empties : {texts others : List (List ℕ)} → Fewer texts others → list_all is_empty texts ≡ true → list_all is_empty others ≡ true
fewer-empties no_more all = refl
fewer-empties (kept {texts = texts} {others = others} text rest) all =
    let parts = and_parts (is_empty text) (list_all is_empty texts) all in
    and_from (is_empty text) (list_all is_empty others) parts.0 (fewer-empties rest parts.1)
fewer-empties (left_out {texts = texts} text rest) all = fewer-empties rest (and_parts (is_empty text) (list_all is_empty texts) all).1

empties-cut : (texts : List (List ℕ)) → list_all is_empty texts ≡ true → is_cutlist texts ≡ true
empties-cut [] all = refl
empties-cut (text ∷ texts) all =
    let parts = and_parts (is_empty text) (list_all is_empty texts) all in
    by_closed (is_closed text) (empties-cut texts parts.1) parts.1
  where
    by_closed : (closed : Bool) → is_cutlist texts ≡ true → list_all is_empty texts ≡ true → (if closed then is_cutlist texts else list_all is_empty texts) ≡ true
    by_closed true cut all = cut
    by_closed false cut all = all

-- a cut list from which texts are left out is one
pub fewer-cut : {texts others : List (List ℕ)} → Fewer texts others → is_cutlist texts ≡ true → is_cutlist others ≡ true
fewer-cut no_more cut = refl
fewer-cut (kept {texts = texts} {others = others} text rest) cut = by_closed (is_closed text) cut (fewer-cut rest) (fewer-empties rest)
  where
    by_closed : (closed : Bool) → (if closed then is_cutlist texts else list_all is_empty texts) ≡ true → (is_cutlist texts ≡ true → is_cutlist others ≡ true)
        → (list_all is_empty texts ≡ true → list_all is_empty others ≡ true) → (if closed then is_cutlist others else list_all is_empty others) ≡ true
    by_closed true cut cuts empties = cuts cut
    by_closed false cut cuts empties = empties cut
fewer-cut (left_out {texts = texts} text rest) cut = fewer-cut rest (by_closed (is_closed text) cut)
  where
    by_closed : (closed : Bool) → (if closed then is_cutlist texts else list_all is_empty texts) ≡ true → is_cutlist texts ≡ true
    by_closed true cut = cut
    by_closed false all = empties-cut texts all

-- a value with the same text that knows of no more files and groups
pub record IsNear (one other : Value) : Type 0 where
  pub text : one.text ≡ other.text
  pub file : other.file ≡ true → one.file ≡ true
  pub group : Fewer one.group other.group

-- and gathers the same maps
pub record KnowsLess (one other : Value) : Type 0 where
  pub near : IsNear one other
  pub maps : one.maps ≡ other.maps

pub near-texts : (ones others : List Value) → AllZip IsNear ones others → map text_of ones ≡ map text_of others
near-texts [] [] all = refl
near-texts [] (other ∷ others) all = absurd all
near-texts (one ∷ ones) [] all = absurd all
near-texts (one ∷ ones) (other ∷ others) all =
    ap (λ (text : List ℕ). text ∷ map text_of ones) all.0.text ∙ ap (λ (rest : List (List ℕ)). other.text ∷ rest) (near-texts ones others all.1)

near-files : (ones others : List Value) → AllZip IsNear ones others → list_all (λ (value : Value). value.file) others ≡ true → list_all (λ (value : Value). value.file) ones ≡ true
near-files [] [] all files = refl
near-files [] (other ∷ others) all files = absurd all
near-files (one ∷ ones) [] all files = absurd all
near-files (one ∷ ones) (other ∷ others) all files =
    let parts = and_parts other.file (list_all (λ (value : Value). value.file) others) files in
    and_from one.file (list_all (λ (value : Value). value.file) ones) (all.0.file parts.0) (near-files ones others all.1 parts.1)

pub near-groups : (ones others : List Value) → AllZip IsNear ones others → Fewer (flat_map (λ (value : Value). value.group) ones) (flat_map (λ (value : Value). value.group) others)
near-groups [] [] all = no_more
near-groups [] (other ∷ others) all = absurd all
near-groups (one ∷ ones) [] all = absurd all
near-groups (one ∷ ones) (other ∷ others) all = fewer-append all.0.group (near-groups ones others all.1)

near-group : (close : Bool) (ones others : List Value) → AllZip IsNear ones others → Fewer (group_of close ones) (group_of close others)
near-group true ones others all = no_more
near-group false ones others all =
    by_files (list_all (λ (value : Value). value.file) others) (list_all (λ (value : Value). value.file) ones) (near-files ones others all) (near-texts ones others all)
  where
    by_files : (now before : Bool) → (now ≡ true → before ≡ true) → map text_of ones ≡ map text_of others
        → Fewer (if before then concat (map text_of ones) ∷ [] else []) (if now then concat (map text_of others) ∷ [] else [])
    by_files false before files same = fewer-none (if before then concat (map text_of ones) ∷ [] else [])
    by_files true false files same = absurd (true≢false (sym (files refl)))
    by_files true true files same = subst (λ (texts : List (List ℕ)). Fewer (concat (map text_of ones) ∷ []) (concat texts ∷ [])) same (fewer-same (concat (map text_of ones) ∷ []))

near-given : (node : NodeKind) (ones others : List Value) → AllZip IsNear ones others → Fewer (groups_given node ones) (groups_given node others)
near-given (kind.Source source) ones others all = no_more
near-given (kind.Text text) ones others all = no_more
near-given kind.Split ones others all = no_more
near-given (kind.Map inv) ones others all = near-groups ones others all
near-given (kind.Whole inv) ones others all = no_more
near-given (kind.Cat close) ones others all = near-group close ones others all
near-given (kind.Agg inv) ones others all = no_more
near-given (kind.Finish inv) ones others all = no_more
near-given (kind.TeeFile path mode) ones others all = no_more
near-given kind.Drain ones others all = no_more
near-given (kind.Sink sink) ones others all = no_more

-- a node at which they come, and gathers the same maps, gives values that know less, and asks no more
module _ (ones others : List Value) (near : AllZip IsNear ones others) where
  less-texts : (node : NodeKind) → maps_given node ones ≡ maps_given node others → (texts : List (List ℕ))
      → AllZip KnowsLess (map (with_origin node ones) texts) (map (with_origin node others) texts)
  less-texts node maps [] = tt
  less-texts node maps (text ∷ texts) =
      (record { near = record { text = refl; file = λ is. is; group = near-given node ones others near }; maps = maps }, less-texts node maps texts)

  pub less-given : (sources : List (List ℕ)) (number : ℕ) (node : NodeKind) (outs : ℕ) → maps_given node ones ≡ maps_given node others
      → AllZip KnowsLess (values_given sources (number, node) outs ones) (values_given sources (number, node) outs others)
  less-given sources number node outs maps =
      subst (λ (texts : List (List ℕ)). AllZip KnowsLess (map (with_origin node ones) (texts_given sources number node outs (map text_of ones))) (map (with_origin node others) (texts_given sources number node outs texts)))
      (near-texts ones others near) (less-texts node maps (texts_given sources number node outs (map text_of ones)))

  pub less-asked : (node : NodeKind) → maps_given node ones ≡ maps_given node others → all_hold (asks node ones) ≡ true → all_hold (asks node others) ≡ true
  less-asked (kind.Source source) maps asked = refl
  less-asked (kind.Text text) maps asked = refl
  less-asked kind.Split maps asked = refl
  less-asked (kind.Map inv) maps asked = refl
  less-asked (kind.Whole inv) maps asked = refl
  less-asked (kind.Cat close) maps asked =
      and_from (is_cutlist (flat_map (λ (value : Value). value.group) others)) true
      (fewer-cut (near-groups ones others near) (and_parts (is_cutlist (flat_map (λ (value : Value). value.group) ones)) true asked).0) refl
  less-asked (kind.Agg inv) maps asked = ap (λ (texts : List (List ℕ)). is_cutlist texts && true) (sym maps) ∙ asked
  less-asked (kind.Finish inv) maps asked = refl
  less-asked (kind.TeeFile path mode) maps asked = refl
  less-asked kind.Drain maps asked = refl
  less-asked (kind.Sink sink) maps asked = refl

-- a node that takes no maps gathers those of its texts alone
abbrev pub takes_texts_only : NodeKind → Bool
takes_texts_only (kind.Agg inv) = false
takes_texts_only other = true

pub near-gathered : (node : NodeKind) (ones others : List Value) → takes_texts_only node ≡ true → AllZip IsNear ones others → maps_given node ones ≡ maps_given node others
near-gathered (kind.Agg inv) ones others plain all = absurd (true≢false (sym plain))
near-gathered (kind.Map inv) ones others plain all = near-texts ones others all
near-gathered (kind.Source source) ones others plain all = refl
near-gathered (kind.Text text) ones others plain all = refl
near-gathered kind.Split ones others plain all = refl
near-gathered (kind.Whole inv) ones others plain all = refl
near-gathered (kind.Cat close) ones others plain all = refl
near-gathered (kind.Finish inv) ones others plain all = refl
near-gathered (kind.TeeFile path mode) ones others plain all = refl
near-gathered kind.Drain ones others plain all = refl
near-gathered (kind.Sink sink) ones others plain all = refl

pub less-near : (ones others : List Value) → AllZip KnowsLess ones others → AllZip IsNear ones others
less-near [] [] all = tt
less-near [] (other ∷ others) all = absurd all
less-near (one ∷ ones) [] all = absurd all
less-near (one ∷ ones) (other ∷ others) all = (all.0.near, less-near ones others all.1)

less-maps : (ones others : List Value) → AllZip KnowsLess ones others → flat_map (λ (value : Value). value.maps) ones ≡ flat_map (λ (value : Value). value.maps) others
less-maps [] [] all = refl
less-maps [] (other ∷ others) all = absurd all
less-maps (one ∷ ones) [] all = absurd all
less-maps (one ∷ ones) (other ∷ others) all =
    ap (λ (maps : List (List ℕ)). maps ++ flat_map (λ (value : Value). value.maps) ones) all.0.maps
    ∙ ap (λ (rest : List (List ℕ)). other.maps ++ rest) (less-maps ones others all.1)

pub less-gathered : (node : NodeKind) (ones others : List Value) → AllZip KnowsLess ones others → maps_given node ones ≡ maps_given node others
less-gathered (kind.Agg inv) ones others all = less-maps ones others all
less-gathered (kind.Map inv) ones others all = near-texts ones others (less-near ones others all)
less-gathered (kind.Source source) ones others all = refl
less-gathered (kind.Text text) ones others all = refl
less-gathered kind.Split ones others all = refl
less-gathered (kind.Whole inv) ones others all = refl
less-gathered (kind.Cat close) ones others all = refl
less-gathered (kind.Finish inv) ones others all = refl
less-gathered (kind.TeeFile path mode) ones others all = refl
less-gathered kind.Drain ones others all = refl
less-gathered (kind.Sink sink) ones others all = refl
