-- Maps of the parts, joined, in place of a whole: the graph keeps the flow.
use Rattle.std.proofs.Common.{◌≡◌, ℕ, ◌+◌, ◌<◌, ◌≤◌, ◌==◌, List, [], ◌∷◌, ◌++◌, Bool, true, false, ◌&&◌, nat_le, Option, None, Some, IfSome, if◌then◌else◌, length, map, get_or, refl, ap, sym, subst, ◌∙◌, append-nil, arith}
use Rattle.std.specs.List.{concat, flat_map, list_all, list_any, range_with_len}
use Rattle.std.specs.Option.{option_and_then, option_map}
use Rattle.std.proofs.lemmas.Bool.{true≢false, and_from, le-leb}
use Rattle.std.proofs.lemmas.List.{length-map}
use Rattle.std.proofs.lemmas.Option.{none-some, cond_some}
use Rattle.std.proofs.lemmas.List.FromFn.{length-range_with_len}
use Rattle.ps_lines.specs.Lines.{is_cutlist}
use Rattle.ut_args.specs.Classes.{class_of, keeps_closed_of}
use Rattle.ut_args.specs.declared.classes.Class.{Class}
use Rattle.ut_args.specs.declared.classes.Class.TheVariants as class
use Rattle.ut_args.specs.declared.classes.Seam.{Seam}
use Rattle.ut_args.specs.declared.classes.Seam.TheVariants as seam
use Rattle.ut_args.specs.declared.invocations.Inv.{Inv}
use Rattle.fl_graph.specs.Net.{has, count, takes, gives}
use Rattle.fl_graph.specs.Kinds.{has_its_ports, has_map}
use Rattle.fl_graph.specs.Makers.{all_hold}
use Rattle.fl_graph.specs.Valid.{Valid}
use Rattle.fl_graph.specs.declared.graphs.Cell.{Cell}
use Rattle.fl_graph.specs.declared.graphs.Graph.{Graph}
use Rattle.fl_graph.specs.declared.kinds.NodeKind.{NodeKind}
use Rattle.fl_graph.specs.declared.kinds.NodeKind.TheVariants as kind
use Rattle.fl_graph.proofs.ListLemmas.{count-append}
use Rattle.fl_classes.specs.Aggregates.{map_of}
use Rattle.fl_classes.specs.Laws.{IsOfClass, IsStateless, KeepsClosed}
use Rattle.fl_classes.specs.Utilities.{output_of, selects_of}
use Rattle.fl_classes.proofs.ClassLemmas.{is-of-class, keeps-closed}
use Rattle.fl_rewrites.specs.Joined.{Joined, joined_at, unjoined}
use Rattle.fl_rewrites.specs.declared.joined.Unjoined.{Unjoined}
use Rattle.fl_rewrites.specs.Keeps.{Keeps, Answers, KeepsFlow}
use Rattle.fl_rewrites.specs.declared.answers.Rewritten.{Rewritten}
use Rattle.fl_rewrites.specs.Known.{is_known}
use Rattle.fl_rewrites.specs.Suits.{Value, with_origin, group_of}
use Rattle.fl_rewrites.proofs.CarryLemmas.{Carries, text_of, answers-keep, made-of}
use Rattle.fl_rewrites.proofs.SpliceLemmas.{count-before, count-row}
use Rattle.fl_rewrites.proofs.JoinedLemmas.{mapped, joined-within}
use Rattle.fl_rewrites.proofs.SoundLemmas.{sound-valid}
use Rattle.fl_rewrites.proofs.UnjoinLemmas.{texts_at, mapped-texts, GivesOut, StandsBehind, unjoined-keeps}
use Rattle.fl_split.specs.Commuting.{may_spread, spread_cells, spread_of, spread_at, commuted}
use Rattle.fl_rewrites.proofs.SeamLemmas.{MayBeJoined, maps-joined, selects-joined}

-- what the class of a command says where it may be spread
record MaySpread (inv : Inv) (known : Bool) : Type 0 where
  seam : Seam
  law : IsStateless seam inv
  joins : (texts : List (List ℕ)) → (known ≡ true → is_cutlist texts ≡ true) → MayBeJoined seam texts
  has_maps : has_map (class_of inv) ≡ true

may-spread : (inv : Inv) (known : Bool) (of : Class) → class_of inv ≡ of → IsOfClass of inv → may_spread of known ≡ true → MaySpread inv known
may-spread inv known (class.S seam.Bytes) is law may = record { seam = seam.Bytes; law = law; joins = λ texts cut. tt; has_maps = ap has_map is }
may-spread inv known (class.S seam.Lines) is law may = record { seam = seam.Lines; law = law; joins = λ texts cut. cut may; has_maps = ap has_map is }
may-spread inv known class.P is law may = absurd (true≢false (sym may))
may-spread inv known class.N is law may = absurd (true≢false (sym may))
may-spread inv known class.E is law may = absurd (true≢false (sym may))

-- maps hand on the groups of their ins, and are no files
mapped-groups : (inv : Inv) (stage : ℕ) (sources : List (List ℕ)) (values : ℕ → Value) (edges : List ℕ)
    → flat_map (λ (value : Value). value.group) (map (mapped inv stage sources values) edges) ≡ flat_map (λ (value : Value). value.group) (map values edges)
mapped-groups inv stage sources values [] = refl
mapped-groups inv stage sources values (edge ∷ edges) =
    ap (λ (group : List (List ℕ)). group ++ flat_map (λ (value : Value). value.group) (map (mapped inv stage sources values) edges)) (append-nil (values edge).group)
    ∙ ap (λ (rest : List (List ℕ)). (values edge).group ++ rest) (mapped-groups inv stage sources values edges)

mapped-files : (inv : Inv) (stage : ℕ) (sources : List (List ℕ)) (values : ℕ → Value) (edges : List ℕ) → 1 ≤ length edges
    → list_all (λ (value : Value). value.file) (map (mapped inv stage sources values) edges) ≡ false
mapped-files inv stage sources values [] some = absurd (omega (arith, some))
mapped-files inv stage sources values (edge ∷ edges) some = refl

module _ (inv : Inv) (known : Bool) (stage next out : ℕ) (parts : List ℕ) (some : 1 ≤ length parts) (may : MaySpread inv known) where
  abbrev row : List ℕ
  row = range_with_len next (length parts)

  abbrev join : Cell NodeKind
  join = record { kind = kind.Cat false; ins = row; outs = out ∷ []; stage = stage }

  joined-maps : (texts : List (List ℕ)) → 1 ≤ length texts → MayBeJoined may.seam texts → map_of inv (concat texts) ≡ concat (map (map_of inv) texts)
  joined-maps [] none joins = absurd (omega (arith, none))
  joined-maps (first ∷ texts) _ joins = maps-joined inv may.seam may.law first texts joins

  joined-selects : (texts : List (List ℕ)) → 1 ≤ length texts → MayBeJoined may.seam texts → selects_of inv (concat texts ∷ []) ≡ list_any (λ text. selects_of inv (text ∷ [])) texts
  joined-selects [] none joins = absurd (omega (arith, none))
  joined-selects (first ∷ texts) _ joins = selects-joined inv may.seam may.law.selects first texts joins

  gives-out : (sources : List (List ℕ)) (other : ℕ → Value) (number : ℕ) → (known ≡ true → is_cutlist (texts_at other parts) ≡ true)
      → is_cutlist (flat_map (λ (value : Value). value.group) (map other parts)) ≡ true → Carries sources number (join ∷ []) other
      → map other row ≡ map (mapped inv stage sources other) parts → GivesOut inv out (join ∷ []) parts sources other
  gives-out sources other number cut groups carried maps =
      let values : List Value = map (mapped inv stage sources other) parts in
      let texts : List (List ℕ) = texts_at other parts in
      let is : other out ≡ with_origin (kind.Cat false) values (concat (map text_of values)) =
      ap (λ (all : List Value). get_or all 0 (other out)) carried.0 ∙ ap (λ (ins : List Value). with_origin (kind.Cat false) ins (concat (map text_of ins))) maps in
      let some_texts : 1 ≤ length texts = (let size = length-map parts (λ edge. (other edge).text) in omega (arith, some, size)) in
      let whole : concat (map text_of values) ≡ output_of inv (concat texts ∷ []) =
      ap concat (mapped-texts inv stage sources other parts) ∙ sym (joined-maps texts some_texts (may.joins texts cut)) ∙ sym (may.law.whole (concat texts)) in
      let asked : is_cutlist (flat_map (λ (value : Value). value.group) (map other row)) ≡ true =
      ap (λ (ins : List Value). is_cutlist (flat_map (λ (value : Value). value.group) ins)) maps ∙ ap is_cutlist (mapped-groups inv stage sources other parts) ∙ groups in
      record {
        text = ap text_of is ∙ whole;
        file = ap (λ (value : Value). value.file) is;
        group = ap (λ (value : Value). value.group) is ∙ ap (λ (files : Bool). if files then concat (map text_of values) ∷ [] else []) (mapped-files inv stage sources other parts some);
        asked_others = and_from (is_cutlist (flat_map (λ (value : Value). value.group) (map other row))) true asked refl;
      }

  stands-behind : StandsBehind known inv stage next out parts (join ∷ [])
  stands-behind = record {
    fresh = [];
    takes_others = λ edge. (let both = count-append edge row [] in omega (arith, both));
    gives_others = λ edge. omega arith;
    high = λ edge low. (let none = count-before edge next (length parts) low in omega (arith, none));
    single = λ edge. (let most = count-row edge next (length parts) in omega (arith, most));
    follows = (λ edge there. there, tt);
    fit = record {
      inner = refl;
      ports =
          and_from (has_its_ports join) true
          (ap (λ (size : ℕ). nat_le 1 size && (1 == 1)) (length-range_with_len next (length parts)) ∙ and_from (nat_le 1 (length parts)) (1 == 1) (le-leb 1 (length parts) some) refl) refl;
      inputs = refl;
      classes = refl;
      built = refl;
    };
    has_maps = may.has_maps;
    joins = λ made met maps. refl;
    values = gives-out;
    selects = λ texts some_texts cut. joined-selects texts some_texts (may.joins texts cut);
  }

-- a graph with the maps of the parts, joined, in place of the Whole keeps the flow
spread-keeps : ((inv : Inv) → IsOfClass (class_of inv) inv) → ((inv : Inv) → keeps_closed_of inv ≡ true → KeepsClosed inv) → (old : Graph) (node : ℕ) (at : Joined) (new : Unjoined)
    → Valid old.nodes old.status → joined_at old.nodes node ≡ Some at → spread_of old.nodes at ≡ Some new → Keeps old (unjoined old node new)
spread-keeps laws closes old node at new valid is made =
    let known : Bool = is_known old.nodes at.parts in
    let next : ℕ = length (gives old.nodes) in
    let site : Unjoined = record { cat = at.cat; named = length at.parts; nodes = spread_cells next at } in
    let chosen = cond_some (may_spread (class_of at.inv) known) site new made in
    let may : MaySpread at.inv known = may-spread at.inv known (class_of at.inv) refl (laws at.inv) chosen.0 in
    let join : List ℕ → Cell NodeKind = λ edges. record { kind = kind.Cat false; ins = range_with_len next (length at.parts); outs = edges; stage = at.stage } in
    let kept : Keeps old (unjoined old node site) =
    unjoined-keeps closes old node at (join at.outs ∷ []) valid is (λ out outs reads_one built some.
    subst (λ (edges : List ℕ). StandsBehind known at.inv at.stage next out at.parts (join edges ∷ [])) (sym outs) (stands-behind at.inv known at.stage next out at.parts some may)) in
    subst (λ (it : Unjoined). Keeps old (unjoined old node it)) chosen.1 kept

pub commuted-keeps : (old : Graph) (node : ℕ) (new : Unjoined) → Valid old.nodes old.status → spread_at old.nodes node ≡ Some new → Keeps old (unjoined old node new)
commuted-keeps old node new valid made = by_site (joined_at old.nodes node) refl made
  where
    by_site : (site : Option Joined) → joined_at old.nodes node ≡ site → option_and_then (spread_of old.nodes) site ≡ Some new → Keeps old (unjoined old node new)
    by_site None is none = absurd (none-some new none)
    by_site (Some at) is some = spread-keeps is-of-class keeps-closed old node at new valid is some

-- the Whole is there, and the Cat stands before it
pub spread-within : (old : Graph) (node : ℕ) (new : Unjoined) → Valid old.nodes old.status → spread_at old.nodes node ≡ Some new → (node < length old.nodes) × (new.cat < node)
spread-within old node new valid made = by_site (joined_at old.nodes node) refl made
  where
    by_site : (site : Option Joined) → joined_at old.nodes node ≡ site → option_and_then (spread_of old.nodes) site ≡ Some new → (node < length old.nodes) × (new.cat < node)
    by_site None is none = absurd (none-some new none)
    by_site (Some at) is some =
        let next : ℕ = length (gives old.nodes) in
        let site : Unjoined = record { cat = at.cat; named = length at.parts; nodes = spread_cells next at } in
        let chosen = cond_some (may_spread (class_of at.inv) (is_known old.nodes at.parts)) site new some in
        let within = joined-within old.nodes old.status node at (sound-valid old.nodes old.status valid) is in
        let cat : at.cat ≡ new.cat = ap (λ (it : Unjoined). it.cat) chosen.1 in
        let first = within.0 in
        let second = within.1 in (first, omega (arith, second, cat))

-- so what is found may stand there, and the answer keeps the flow
module _ (old : Graph) (node : ℕ) (valid : Valid old.nodes old.status) where
  pub found-whole : (found : Option Unjoined) → found ≡ spread_at old.nodes node → IfSome found (λ new. node < length old.nodes)
  found-whole None is = tt
  found-whole (Some new) is = (spread-within old node new valid (sym is)).0

  pub found-cat : (found : Option Unjoined) → found ≡ spread_at old.nodes node → IfSome found (λ new. new.cat < node)
  found-cat None is = tt
  found-cat (Some new) is = (spread-within old node new valid (sym is)).1

  pub found-keeps : (found : Option Unjoined) (result : Rewritten) → found ≡ spread_at old.nodes node → Answers (option_map (unjoined old node) found) old result → KeepsFlow old result
  found-keeps found result is answers =
      answers-keep (option_map (unjoined old node) found) old result (λ graph made.
      made-of (unjoined old node) found graph (Keeps old) (λ new there. commuted-keeps old node new valid (sym is ∙ there)) made) answers

  pub found-answers : (found : Option Unjoined) (result : Rewritten) → found ≡ spread_at old.nodes node → Answers (option_map (unjoined old node) found) old result → Answers (commuted node old) old result
  found-answers found result is answers = subst (λ (it : Option Unjoined). Answers (option_map (unjoined old node) it) old result) is answers

pub ruleset commute_laws = (found-whole, found-cat, found-keeps, found-answers)
