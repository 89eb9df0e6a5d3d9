-- Nodes that are a valid graph but for the numbers of their edges become one when they are numbered anew.
use Rattle.std.proofs.Common.{◌≡◌, ℕ, zero, suc, ◌+◌, ◌≤◌, List, [], ◌∷◌, Bool, true, ◌&&◌, if◌then◌else◌, Option, length, map, refl, ap, sym, subst, ◌∙◌}
use Rattle.std.specs.List.{list_all, count_by, filter_map, cons_option}
use Rattle.std.proofs.lemmas.List.Folds.{list_all-map}
use Rattle.std.proofs.lemmas.List.Sums.{sum_by-cons}
use Rattle.std.proofs.lemmas.List.{length-replicate, length-map}
use Rattle.ps_world.specs.Paths.{Components}
use Rattle.fl_graph.specs.Net.{gives, after}
use Rattle.fl_graph.specs.declared.graphs.Cell.{Cell}
use Rattle.fl_graph.specs.Kinds.{may_have, has_its_ports, is_input, is_output, reads_one_input, has_its_class, runs_what_is_built}
use Rattle.fl_graph.specs.Makers.{Made, makes, made_by, absent, tells_maps, joins_maps, all_hold}
use Rattle.fl_graph.specs.Paths.{paths_read, paths_written, path_read, path_written, ArePathsApart}
use Rattle.fl_graph.specs.Valid.{HasOneOfEachEnd, Valid, nodes_named, names_selector}
use Rattle.fl_graph.specs.declared.kinds.NodeKind.{NodeKind}
use Rattle.fl_graph.specs.declared.graphs.StatusRule.{StatusRule}
use Rattle.fl_graph.proofs.EdgeLemmas.{leads_on-each}
use Rattle.fl_graph.proofs.ListLemmas.{list_all-agree}
use Rattle.fl_rewrites.specs.Numbering.{place, renamed, numbered}
use Rattle.fl_rewrites.proofs.OrderLemmas.{Each, each-all, IsWired, IsMet, Fits, told, told-met, after-met}
use Rattle.fl_rewrites.proofs.NumberLemmas.{wired-numbered, below-numbered, told-numbered}

-- all that a valid graph is, but for the numbers of edges
pub record IsSound (cells : List (Cell NodeKind)) (status : StatusRule) : Type 0 where
  pub wired : IsWired cells
  pub ports : list_all has_its_ports cells ≡ true
  pub ends : HasOneOfEachEnd cells
  pub inputs : list_all (λ cell. reads_one_input cell.kind) cells ≡ true
  pub classes : list_all (λ cell. has_its_class cell.kind) cells ≡ true
  pub built : list_all (λ cell. runs_what_is_built cell.kind) cells ≡ true
  pub maps : joins_maps cells ≡ true
  pub paths : ArePathsApart (paths_read cells) (paths_written cells)
  pub named : list_all (names_selector cells) (nodes_named status) ≡ true

pub sound-valid : (cells : List (Cell NodeKind)) (status : StatusRule) → Valid cells status → IsSound cells status
sound-valid cells status valid =
    record {
      wired = record { once = valid.edges.once; taken = valid.edges.taken; later = sym (leads_on-each cells) ∙ valid.edges.later };
      ports = valid.ports;
      ends = valid.ends;
      inputs = valid.inputs;
      classes = valid.classes;
      built = valid.built;
      maps = valid.maps;
      paths = valid.paths;
      named = valid.named;
    }

-- what is asked of kinds alone
module _ (turn : ℕ → ℕ) where
  ports-renamed : (cells : List (Cell NodeKind)) → list_all has_its_ports (map (renamed turn) cells) ≡ list_all has_its_ports cells
  ports-renamed [] = refl
  ports-renamed (cell ∷ cells) =
      ap (λ (ins : ℕ). may_have cell.kind ins (length (map turn cell.outs)) && list_all has_its_ports (map (renamed turn) cells)) (length-map cell.ins turn)
      ∙ ap (λ (outs : ℕ). may_have cell.kind (length cell.ins) outs && list_all has_its_ports (map (renamed turn) cells)) (length-map cell.outs turn)
      ∙ ap (λ (rest : Bool). has_its_ports cell && rest) (ports-renamed cells)

  count-renamed : (test : NodeKind → Bool) (cells : List (Cell NodeKind)) → count_by (λ (cell : Cell NodeKind). test cell.kind) (map (renamed turn) cells) ≡ count_by (λ (cell : Cell NodeKind). test cell.kind) cells
  count-renamed test [] = refl
  count-renamed test (cell ∷ cells) =
      sum_by-cons (λ (cell : Cell NodeKind). if test cell.kind then 1 else 0) (renamed turn cell) (map (renamed turn) cells)
      ∙ ap (λ (rest : ℕ). (if test cell.kind then 1 else 0) + rest) (count-renamed test cells)
      ∙ sym (sum_by-cons (λ (cell : Cell NodeKind). if test cell.kind then 1 else 0) cell cells)

  found-renamed : {Found : Type 0} (find : NodeKind → Option Found) (cells : List (Cell NodeKind))
      → filter_map (λ (cell : Cell NodeKind). find cell.kind) (map (renamed turn) cells) ≡ filter_map (λ (cell : Cell NodeKind). find cell.kind) cells
  found-renamed find [] = refl
  found-renamed {Found} find (cell ∷ cells) = ap (λ (rest : List Found). cons_option (find cell.kind) rest) (found-renamed find cells)

  selector-renamed : (cells : List (Cell NodeKind)) (node : ℕ) → names_selector (map (renamed turn) cells) node ≡ names_selector cells node
  selector-renamed [] node = refl
  selector-renamed (cell ∷ cells) zero = refl
  selector-renamed (cell ∷ cells) (suc node) = selector-renamed cells node

-- who makes an edge hangs on no other edge
fits-makes : (cell : Cell NodeKind) → Fits makes cell
fits-makes cell ins = length-replicate (length cell.outs) (made_by cell.kind)

pub maps-told : (cells : List (Cell NodeKind)) (made : ℕ → Made) → IsWired cells → Each (IsMet makes made) cells → joins_maps cells ≡ all_hold (told tells_maps made cells)
maps-told cells made wired met = ap all_hold (told-met makes tells_maps cells absent made wired (each-all (Fits makes) fits-makes cells) met)

pub made-met : (cells : List (Cell NodeKind)) → IsWired cells → Each (IsMet makes (after makes cells absent)) cells
made-met cells wired = after-met makes cells absent wired (each-all (Fits makes) fits-makes cells)

maps-numbered : (cells : List (Cell NodeKind)) → IsWired cells → joins_maps (numbered cells) ≡ joins_maps cells
maps-numbered cells wired =
    let made : ℕ → Made = after makes cells absent in
    ap all_hold (told-numbered makes tells_maps cells absent made wired (each-all (Fits makes) fits-makes cells) (made-met cells wired))
    ∙ sym (maps-told cells made wired (made-met cells wired))

pub valid-numbered : (cells : List (Cell NodeKind)) (status : StatusRule) → IsSound cells status → Valid (numbered cells) status
valid-numbered cells status sound =
    let turn : ℕ → ℕ = place (gives cells) in
    let wired = wired-numbered cells sound.wired in
    record {
      edges = record { below = below-numbered cells sound.wired; once = wired.once; taken = wired.taken; later = leads_on-each (numbered cells) ∙ wired.later };
      ports = ports-renamed turn cells ∙ sound.ports;
      ends = record {
        input = subst (λ (times : ℕ). times ≤ 1) (sym (count-renamed turn is_input cells)) sound.ends.input;
        output = subst (λ (times : ℕ). times ≤ 1) (sym (count-renamed turn is_output cells)) sound.ends.output;
      };
      inputs = list_all-map (λ (cell : Cell NodeKind). reads_one_input cell.kind) (renamed turn) cells ∙ sound.inputs;
      classes = list_all-map (λ (cell : Cell NodeKind). has_its_class cell.kind) (renamed turn) cells ∙ sound.classes;
      built = list_all-map (λ (cell : Cell NodeKind). runs_what_is_built cell.kind) (renamed turn) cells ∙ sound.built;
      maps = maps-numbered cells sound.wired ∙ sound.maps;
      paths =
          subst (λ (read : List Components). ArePathsApart read (paths_written (numbered cells))) (sym (found-renamed turn path_read cells))
          (subst (λ (written : List Components). ArePathsApart (paths_read cells) written) (sym (found-renamed turn path_written cells)) sound.paths);
      named = list_all-agree (names_selector (numbered cells)) (names_selector cells) (selector-renamed turn cells) (nodes_named status) ∙ sound.named;
    }
