-- The engine over lists of ends: what is said of the ends by their roles is said of those of the nodes.
use Rattle.std.proofs.Common.{◌≡◌, ℕ, ◌+◌, ◌<◌, ◌≤◌, ◌||◌, not, List, Bool, true, false, length, slice_get, get_or, Option, Some, is_some, inl, inr, refl, ap, sym, subst, ◌∙◌, arith}
use Rattle.std.specs.Option.{option_and_then}
use Rattle.std.proofs.lemmas.Bool.{cases_lt, true≢false}
use Rattle.std.proofs.lemmas.Option.{slice_get_read, slice_get_within}
use Rattle.std.proofs.Math.Path.{fun_ext}
use Rattle.ps_world.specs.Counts.{Rose}
use Rattle.ps_world.specs.Paths.{Components}
use Rattle.ps_world.specs.declared.tree.Mode.{Mode}
use Rattle.fl_graph.specs.declared.graphs.Cell.{Cell}
use Rattle.fl_graph.specs.Valid.{HasOneOfEachEnd}
use Rattle.fl_graph.specs.declared.kinds.NodeKind.{NodeKind}
use Rattle.fl_graph.specs.declared.kinds.NodeKind.TheVariants as kind
use Rattle.fl_graph.specs.declared.kinds.From.TheVariants as from
use Rattle.fl_graph.specs.declared.kinds.To.TheVariants as to
use Rattle.fl_classes.specs.Flow.{is_source}
use Rattle.fl_core.specs.EndLists.{Blames, HasItsEnds, IsFaultOf, KeepsOthers, NodeEnd, Reader, Writer, end_at, numbers_of, own_end, place_of}
use Rattle.fl_classes.specs.Kinds.{is_writer}
use Rattle.fl_core.specs.Roles.{AreApart, HasRoles, end_by, is_read, is_written, kept, needs_no_more, role_at, Kept}
use Rattle.fl_core.specs.declared.end_lists.Ends.{Ends}
use Rattle.fl_core.specs.declared.end_lists.Ran.{Ran}
use Rattle.fl_core.specs.declared.end_lists.Ran.TheVariants as ran
use Rattle.fl_core.specs.declared.roles.Role.{Role}
use Rattle.fl_core.proofs.RoleLemmas.{end_of_role, file_end, keeps_others, own_read, own_written, roles_apart, roles_same}

some_is : {X : Type 0} (one other : X) → Some one ≡ Some other → one ≡ other
some_is one other is = cc

or_left : (one other : Bool) → one ≡ true → (one || other) ≡ true
or_left one other is = rw is refl

or_right : (one other : Bool) → other ≡ true → (one || other) ≡ true
or_right true other is = refl
or_right false other is = is

-- a node of a file has an end where its number is there
module _ {R W I O : Type 0} (it : NodeKind) (node : ℕ) (ends : Ends R W I O) (answer : Bool) where
  pub reader_there : (path : Components) → it ≡ kind.Source (from.File path) → answer ≡ is_some (place_of (numbers_of ends.readers.items) node) → answer ≡ needs_no_more it node ends
  reader_there path is found = found ∙ file_end Reader ends.readers.items node ∙ sym (ap (λ (it : NodeKind). needs_no_more it node ends) is)

  pub writer_there : (path : Components) (mode : Mode) → it ≡ kind.Sink (to.File path mode) → answer ≡ is_some (place_of (numbers_of ends.writers.items) node) → answer ≡ needs_no_more it node ends
  writer_there path mode is found = found ∙ file_end Writer ends.writers.items node ∙ sym (ap (λ (it : NodeKind). needs_no_more it node ends) is)

  pub tee_there : (path : Components) (mode : Mode) → it ≡ kind.TeeFile path mode → answer ≡ is_some (place_of (numbers_of ends.writers.items) node) → answer ≡ needs_no_more it node ends
  tee_there path mode is found = found ∙ file_end Writer ends.writers.items node ∙ sym (ap (λ (it : NodeKind). needs_no_more it node ends) is)

-- one more node has its end
module _ {R W I O : Type 0} (nodes : List (Cell NodeKind)) (ends : Ends R W I O) where
  abbrev pub HaveEndsBelow : ℕ → Type 0
  HaveEndsBelow below = (node : ℕ) (cell : Cell NodeKind) → node < below → slice_get nodes node ≡ Some cell → (is_source cell.kind || is_writer cell.kind) ≡ true
      → is_some (own_end cell.kind node ends) ≡ true

  has_its : (it : NodeKind) (node : ℕ) → needs_no_more it node ends ≡ true → (is_source it || is_writer it) ≡ true → is_some (own_end it node ends) ≡ true
  has_its it node has is = sym (ap (λ (test : Bool). not test || is_some (own_end it node ends)) is) ∙ has

  node_at : (node : ℕ) (it : Cell NodeKind) → node < length nodes → it ≡ get_or nodes node it → slice_get nodes node ≡ Some it
  node_at node it within is = slice_get_read nodes (length nodes) node it refl within is

  pub ends_below : (node : ℕ) (it : Cell NodeKind) → node < length nodes → it ≡ get_or nodes node it → needs_no_more it.kind node ends ≡ true → HaveEndsBelow node → HaveEndsBelow (node + 1)
  ends_below node it within is has before other found below at reads =
      elim (cases_lt other node) [
        | inl earlier ↦ before other found earlier at reads
        | inr later ↦
            let same : other ≡ node = omega (arith, below, later) in
            let found_is : Some it ≡ Some found = sym (node_at node it within is) ∙ ap (slice_get nodes) (sym same) ∙ at in
            let kind_is : it.kind ≡ found.kind = ap (λ (one : Cell NodeKind). one.kind) (some_is it found found_is) in
            has_its found.kind other (subst (λ (kind : NodeKind). needs_no_more kind other ends ≡ true) kind_is (subst (λ (at : ℕ). needs_no_more it.kind at ends ≡ true) (sym same) has)) reads
      ]

  pub lacks_end : (node : ℕ) (it : Cell NodeKind) → node < length nodes → it ≡ get_or nodes node it → needs_no_more it.kind node ends ≡ false → HasItsEnds nodes ends → ⊥
  lacks_end node it within is lacks has = by_test (is_source it.kind || is_writer it.kind) refl
    where
      by_test : (test : Bool) → (is_source it.kind || is_writer it.kind) ≡ test → ⊥
      by_test true reads = true≢false (sym (has node it (node_at node it within is) reads) ∙ sym (ap (λ (test : Bool). not test || is_some (own_end it.kind node ends)) reads) ∙ lacks)
      by_test false reads = true≢false (sym (ap (λ (test : Bool). not test || is_some (own_end it.kind node ends)) reads) ∙ lacks)

  pub ends_all : HaveEndsBelow (length nodes) → HasItsEnds nodes ends
  ends_all all node found at reads = all node found (slice_get_within nodes node found at) at reads

module _ {R W I O : Type 0} (cells : List (Cell NodeKind)) (ends : Ends R W I O) (roles : List Role) (own : HasRoles cells ends roles) where
  pub are_apart : HasOneOfEachEnd cells → AreApart roles
  are_apart one = roles_apart cells _ _ roles own.all own.each one

  here : (node : ℕ) → end_by (role_at roles node) ends ≡ end_at cells ends node
  here node = end_of_role cells _ _ roles own.all own.each ends refl refl node

  at_cell : (node : ℕ) (cell : Cell NodeKind) → slice_get cells node ≡ Some cell → end_by (role_at roles node) ends ≡ own_end cell.kind node ends
  at_cell node cell at = here node ∙ ap (option_and_then (λ (cell : Cell NodeKind). own_end cell.kind node ends)) at

  -- each source has an end to read, and each node that writes one to write
  pub reads_all : HasItsEnds cells ends → (node : ℕ) (cell : Cell NodeKind) → slice_get cells node ≡ Some cell → is_source cell.kind ≡ true → is_read (end_by (role_at roles node) ends) ≡ true
  reads_all has node cell at source =
      ap is_read (at_cell node cell at) ∙ own_read cell.kind node ends source (has node cell at (or_left (is_source cell.kind) (is_writer cell.kind) source))

  pub writes_all : HasItsEnds cells ends → (node : ℕ) (cell : Cell NodeKind) → slice_get cells node ≡ Some cell → is_writer cell.kind ≡ true → is_written (end_by (role_at roles node) ends) ≡ true
  writes_all has node cell at writes =
      ap is_written (at_cell node cell at) ∙ own_written cell.kind node ends writes (has node cell at (or_right (is_source cell.kind) (is_writer cell.kind) writes))

  module _ (roles' : List Role) (ends' : Ends R W I O) (same : kept roles' ends' ≡ kept roles ends) where
    here' : (node : ℕ) → end_by (role_at roles' node) ends' ≡ end_at cells ends' node
    here' node =
        ap (λ (list : List Role). end_by (role_at list node) ends') (roles_same roles roles' ends ends' same)
        ∙ end_of_role cells _ _ roles own.all own.each ends' (sym (ap (λ (it : Kept R W I O). it.readers) same)) (sym (ap (λ (it : Kept R W I O). it.writers) same)) node

    pub keeps : KeepsOthers cells ends ends'
    keeps = keeps_others roles roles' ends ends' same cells own

    -- what holds of the ends of the roles holds of those of the nodes
    pub moved : (holds : (ℕ → Option (NodeEnd R W I O)) → (ℕ → Option (NodeEnd R W I O)) → Type 0)
        → holds (λ node. end_by (role_at roles node) ends) (λ node. end_by (role_at roles' node) ends') → holds (end_at cells ends) (end_at cells ends')
    moved holds is = subst (holds (end_at cells ends)) (fun_ext here') (subst (λ (it : ℕ → Option (NodeEnd R W I O)). holds it (λ node. end_by (role_at roles' node) ends')) (fun_ext here) is)

    -- as the causes of an answer do
    module _ (faults : Option (NodeEnd R W I O) → ℕ) (later : (node : ℕ) → faults (end_by (role_at roles node) ends) ≤ faults (end_by (role_at roles' node) ends')) where
      pub blames_none : (result : Ran R W I O) → ((node : ℕ) → IsFaultOf result node → ⊥)
          → ((node : ℕ) → faults (end_by (role_at roles' node) ends') ≡ faults (end_by (role_at roles node) ends))
          → Blames (λ node. faults (end_at cells ends node)) (λ node. faults (end_at cells ends' node)) result
      blames_none result none calm = moved (λ old new. Blames (λ node. faults (old node)) (λ node. faults (new node)) result) (record {
        fault = λ node is. absurd (none node is);
        lowest = λ node is. absurd (none node is);
        calm = λ never. calm;
        later = later;
      })

      pub blames_node : (failed : ℕ) → Rose (faults (end_by (role_at roles failed) ends)) (faults (end_by (role_at roles' failed) ends'))
          → ((node : ℕ) → (failed ≡ node → ⊥) → faults (end_by (role_at roles' node) ends') ≡ faults (end_by (role_at roles node) ends))
          → Blames (λ node. faults (end_at cells ends node)) (λ node. faults (end_at cells ends' node)) (ran.Fault failed ends')
      blames_node failed rose calm = moved (λ old new. Blames (λ node. faults (old node)) (λ node. faults (new node)) (ran.Fault failed ends')) (record {
        fault = λ node is. subst (λ (it : ℕ). Rose (faults (end_by (role_at roles it) ends)) (faults (end_by (role_at roles' it) ends'))) is rose;
        lowest = λ node is other below. calm other (λ (same : failed ≡ other). omega (arith, is, below, same));
        calm = λ never. absurd (never failed refl);
        later = later;
      })
