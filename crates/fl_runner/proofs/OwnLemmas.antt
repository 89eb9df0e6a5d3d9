-- Ends that are taken out of the places of their roles and put back there, one node after another.
use Rattle.std.proofs.Common.{◌≡◌, ℕ, zero, suc, ◌+◌, ◌<◌, ◌==◌, ◌||◌, List, [], ◌∷◌, ◌++◌, Bool, true, false, map, length, get_or, take, Option, Some, None, refl, ap, sym, ◌∙◌, arith, eq-eqb}
use Rattle.std.proofs.Math.Seq.{take-suc}
use Rattle.std.proofs.lemmas.Bool.{or_parts, true≢false, eqb-true}
use Rattle.std.proofs.lemmas.List.Folds.{list_any-append}
use Rattle.fl_core.specs.EndLists.{NodeEnd, Reader, Writer, Input, Output}
use Rattle.fl_core.specs.Roles.{AreApart, is_same, is_used, role_at}
use Rattle.fl_core.specs.declared.end_lists.Ends.{Ends}
use Rattle.fl_core.specs.declared.roles.Role.{Role}
use Rattle.fl_core.specs.declared.roles.Role.TheVariants as role
use Rattle.fl_nodes.specs.Ends.{EndState, Nothing as IsNothing, Reader as IsReader, Writer as IsWriter, Input as IsInput, Output as IsOutput}
use Rattle.fl_graph.specs.declared.machines.Machine.{Ghosts as MachineGhosts}
use Rattle.fl_nodes.specs.declared.ends.OwnEnd.{Ghosts as EndGhosts}
use Rattle.fl_nodes.specs.declared.inlets.Inlet.{Inlet}
use Rattle.fl_nodes.specs.declared.nodes.NodeJob.{NodeJob}
use Rattle.fl_nodes.specs.declared.own.Own.{Own}
use Rattle.fl_nodes.specs.declared.own.Own.TheVariants as own
use Rattle.fl_runner.specs.Lent.{end_with, held_by, kind_with}

eqb-turned : (one other : ℕ) → (one == other) ≡ (other == one)
eqb-turned one other = by_test (one == other) (other == one) refl refl
  where
    by_test : (first second : Bool) → (one == other) ≡ first → (other == one) ≡ second → first ≡ second
    by_test true true is turned = refl
    by_test false false is turned = refl
    by_test true false is turned = absurd (true≢false (sym (eq-eqb other one (sym (eqb-true one other is))) ∙ turned))
    by_test false true is turned = absurd (true≢false (sym (eq-eqb one other (sym (eqb-true other one turned))) ∙ is))

-- roles are the same either way, and one that has an end is the same as itself alone
same-turned : (one other : Role) → is_same one other ≡ is_same other one
same-turned role.Nothing role.Nothing = refl
same-turned role.Nothing role.Input = refl
same-turned role.Nothing role.Output = refl
same-turned role.Nothing (role.Reader place) = refl
same-turned role.Nothing (role.Writer place) = refl
same-turned role.Input role.Nothing = refl
same-turned role.Input role.Input = refl
same-turned role.Input role.Output = refl
same-turned role.Input (role.Reader place) = refl
same-turned role.Input (role.Writer place) = refl
same-turned role.Output role.Nothing = refl
same-turned role.Output role.Input = refl
same-turned role.Output role.Output = refl
same-turned role.Output (role.Reader place) = refl
same-turned role.Output (role.Writer place) = refl
same-turned (role.Reader place) role.Nothing = refl
same-turned (role.Reader place) role.Input = refl
same-turned (role.Reader place) role.Output = refl
same-turned (role.Reader place) (role.Reader other) = eqb-turned place other
same-turned (role.Reader place) (role.Writer other) = refl
same-turned (role.Writer place) role.Nothing = refl
same-turned (role.Writer place) role.Input = refl
same-turned (role.Writer place) role.Output = refl
same-turned (role.Writer place) (role.Reader other) = refl
same-turned (role.Writer place) (role.Writer other) = eqb-turned place other

pub same-is : (one other : Role) → is_same one other ≡ true → (one ≡ other) × (one ≡ role.Nothing → ⊥)
same-is role.Nothing other is = absurd (true≢false (sym is))
same-is role.Input role.Input is = (refl, λ none. cc)
same-is role.Input role.Nothing is = absurd (true≢false (sym is))
same-is role.Input role.Output is = absurd (true≢false (sym is))
same-is role.Input (role.Reader place) is = absurd (true≢false (sym is))
same-is role.Input (role.Writer place) is = absurd (true≢false (sym is))
same-is role.Output role.Output is = (refl, λ none. cc)
same-is role.Output role.Nothing is = absurd (true≢false (sym is))
same-is role.Output role.Input is = absurd (true≢false (sym is))
same-is role.Output (role.Reader place) is = absurd (true≢false (sym is))
same-is role.Output (role.Writer place) is = absurd (true≢false (sym is))
same-is (role.Reader place) (role.Reader other) is = (ap role.Reader (eqb-true place other is), λ none. cc)
same-is (role.Reader place) role.Nothing is = absurd (true≢false (sym is))
same-is (role.Reader place) role.Input is = absurd (true≢false (sym is))
same-is (role.Reader place) role.Output is = absurd (true≢false (sym is))
same-is (role.Reader place) (role.Writer other) is = absurd (true≢false (sym is))
same-is (role.Writer place) (role.Writer other) is = (ap role.Writer (eqb-true place other is), λ none. cc)
same-is (role.Writer place) role.Nothing is = absurd (true≢false (sym is))
same-is (role.Writer place) role.Input is = absurd (true≢false (sym is))
same-is (role.Writer place) role.Output is = absurd (true≢false (sym is))
same-is (role.Writer place) (role.Reader other) is = absurd (true≢false (sym is))

-- a role that is used is that of a node
used-at : (roles : List Role) (one : Role) → is_used roles one ≡ true → (node : ℕ) × ((node < length roles) × ((role_at roles node ≡ one) × (one ≡ role.Nothing → ⊥)))
used-at [] one used = absurd (true≢false (sym used))
used-at (first ∷ roles) one used = by_first (is_same one first) refl used (λ behind. used-at roles one behind)
  where
    by_first : (here : Bool) → is_same one first ≡ here → (here || is_used roles one) ≡ true
        → (is_used roles one ≡ true → (node : ℕ) × ((node < length roles) × ((role_at roles node ≡ one) × (one ≡ role.Nothing → ⊥)))) → (node : ℕ) × ((node < length (first ∷ roles)) × ((role_at (first ∷ roles) node ≡ one) × (one ≡ role.Nothing → ⊥)))
    by_first true is used later = let same = same-is one first is in (0, (omega arith, (sym same.0, same.1)))
    by_first false is used later =
        let behind = later used in
        let within = behind.1.0 in
        (suc behind.0, (omega (arith, within), behind.1.1))

-- the first roles are those of their places
take-at : (roles : List Role) (count node : ℕ) → node < length (take count roles) → (role_at (take count roles) node ≡ role_at roles node) × (node < count)
take-at [] zero node within = absurd (omega (arith, within))
take-at [] (suc count) node within = absurd (omega (arith, within))
take-at (first ∷ roles) zero node within = absurd (omega (arith, within))
take-at (first ∷ roles) (suc count) zero within = (refl, omega arith)
take-at (first ∷ roles) (suc count) (suc node) within =
    let behind = take-at roles count node (omega (arith, within)) in
    let low = behind.1 in
    (behind.0, omega (arith, low))

-- no node before has the role of this one
pub unused-before : (roles : List Role) → AreApart roles → (node : ℕ) → is_used (take node roles) (role_at roles node) ≡ false
unused-before roles apart node = by_used (is_used (take node roles) (role_at roles node)) refl
  where
    by_used : (used : Bool) → is_used (take node roles) (role_at roles node) ≡ used → used ≡ false
    by_used false is = refl
    by_used true is =
        let found = used-at (take node roles) (role_at roles node) is in
        let earlier = take-at roles node found.0 found.1.0 in
        let same : role_at roles found.0 ≡ role_at roles node = sym earlier.0 ∙ found.1.1.0 in
        let one : found.0 ≡ node = apart found.0 node same (λ none. found.1.1.1 (sym same ∙ none)) in
        let low = earlier.1 in
        absurd (omega (arith, low, one))

-- a role that is there is had with any default
pub at-here : (roles : List Role) (node : ℕ) (here : Role) → node < length roles → here ≡ role_at roles node → here ≡ get_or roles node here
at-here roles node here within same = same ∙ any_default roles node role.Nothing here within
  where
    any_default : (roles : List Role) (node : ℕ) (one other : Role) → node < length roles → get_or roles node one ≡ get_or roles node other
    any_default [] node one other within = absurd (omega (arith, within))
    any_default (first ∷ roles) zero one other within = refl
    any_default (first ∷ roles) (suc node) one other within = any_default roles node one other (omega (arith, within))

-- one more role
pub take-next : (roles : List Role) (node : ℕ) (here : Role) → node < length roles → here ≡ role_at roles node → take (node + 1) roles ≡ take node roles ++ here ∷ []
take-next roles node here within same =
    let next : suc node ≡ node + 1 = omega arith in
    ap (λ (it : ℕ). take it roles) (sym next) ∙ take-suc roles node role.Nothing within ∙ ap (λ (it : Role). take node roles ++ it ∷ []) (sym same)

pub used-more : (roles : List Role) (node : ℕ) (here one : Role) → node < length roles → here ≡ role_at roles node → is_used (take (node + 1) roles) one ≡ false
    → (is_used (take node roles) one ≡ false) × (is_same one here ≡ false)
used-more roles node here one within same none =
    let front = take-next roles node here within same in
    let both : (is_used (take node roles) one || (is_same one here || false)) ≡ false =
    sym (list_any-append (is_same one) (take node roles) (here ∷ [])) ∙ ap (λ (it : List Role). is_used it one) (sym front) ∙ none in
    let parts = or_parts (is_used (take node roles) one) (is_same one here || false) both in
    (parts.0, (or_parts (is_same one here) false parts.1).0)

module _ {R W I O : Type 0} (old new : Ends (Option R) (Option W) (Option I) (Option O)) (here : Role)
    (others : (other : Role) → is_same other here ≡ false → held_by other new ≡ held_by other old) where
  -- what other roles have stays
  pub held-others : (roles : List Role) → is_used roles here ≡ false → map (λ one. held_by one new) roles ≡ map (λ one. held_by one old) roles
  held-others [] none = refl
  held-others (first ∷ roles) none =
      let parts = or_parts (is_same here first) (is_used roles here) none in
      ap (λ (it : Option (NodeEnd R W I O)). it ∷ map (λ one. held_by one new) roles) (others first (same-turned first here ∙ parts.0))
      ∙ ap (λ (it : List (Option (NodeEnd R W I O))). held_by first old ∷ it) (held-others roles parts.1)

-- what is told of each kind of end is told of the end that is with a node
module _ {R W I O M G : Type 0} {machines : MachineGhosts M} {ends : EndGhosts (Own R W I O)} (jobs : List (NodeJob M (Own R W I O) G machines ends)) where
  pub state_is : (told : Option (NodeEnd R W I O) → EndState) → ends.state own.Nothing ≡ told None → ((inlet : Inlet R) → ends.state (own.Reader inlet) ≡ told (Some (Reader inlet.end)))
      → ((writer : W) → ends.state (own.Writer writer) ≡ told (Some (Writer writer))) → ((inlet : Inlet I) → ends.state (own.Input inlet) ≡ told (Some (Input inlet.end)))
      → ((out : O) → ends.state (own.Output out) ≡ told (Some (Output out))) → (end : Own R W I O) → ends.state end ≡ told (end_with end)
  state_is told nothing reader writer input output own.Nothing = nothing
  state_is told nothing reader writer input output (own.Reader inlet) = reader inlet
  state_is told nothing reader writer input output (own.Writer it) = writer it
  state_is told nothing reader writer input output (own.Input inlet) = input inlet
  state_is told nothing reader writer input output (own.Output out) = output out

  pub role_is : (ends.state own.Nothing).role ≡ IsNothing → ((inlet : Inlet R) → (ends.state (own.Reader inlet)).role ≡ IsReader) → ((writer : W) → (ends.state (own.Writer writer)).role ≡ IsWriter)
      → ((inlet : Inlet I) → (ends.state (own.Input inlet)).role ≡ IsInput) → ((out : O) → (ends.state (own.Output out)).role ≡ IsOutput) → (end : Own R W I O) → (ends.state end).role ≡ kind_with end
  role_is nothing reader writer input output own.Nothing = nothing
  role_is nothing reader writer input output (own.Reader inlet) = reader inlet
  role_is nothing reader writer input output (own.Writer it) = writer it
  role_is nothing reader writer input output (own.Input inlet) = input inlet
  role_is nothing reader writer input output (own.Output out) = output out
