-- What a rewrite keeps (own): the graph is valid again, and wherever the texts of its sources suit it, they suit the new graph, which leaves
-- the same. A rewrite keeps the sources in their order, so the texts are those of the same sources.
use Rattle.std.specs.Prelude.{◌≡◌, ℕ, List, Option, Some, None}
use Rattle.fl_graph.specs.Valid.{Valid}
use Rattle.fl_graph.specs.declared.graphs.Graph.{Graph}
use Rattle.fl_classes.specs.Flow.{outcome}
use Rattle.fl_rewrites.specs.Suits.{Suits}
use Rattle.fl_rewrites.specs.declared.answers.Rewritten.{Rewritten}
use Rattle.fl_rewrites.specs.declared.answers.Rewritten.TheVariants as rewritten

pub record Keeps (old new : Graph) : Type 0 where
  pub valid : Valid new.nodes new.status
  pub suits : (sources : List (List ℕ)) → Suits old.nodes sources → Suits new.nodes sources
  pub leaves : (sources : List (List ℕ)) → Suits old.nodes sources → outcome new sources ≡ outcome old sources

-- the same for those texts of the sources of which this is known
pub record KeepsWhere (known : List (List ℕ) → Type 0) (old new : Graph) : Type 0 where
  pub valid : Valid new.nodes new.status
  pub suits : (sources : List (List ℕ)) → known sources → Suits old.nodes sources → Suits new.nodes sources
  pub leaves : (sources : List (List ℕ)) → known sources → Suits old.nodes sources → outcome new sources ≡ outcome old sources

-- a rewrite that makes this graph of the given one, or doesn't apply, has answered
abbrev pub Answers : Option Graph → Graph → Rewritten → Type 0
Answers made graph (rewritten.Done new) = made ≡ Some new
Answers made graph (rewritten.NotApplicable same) = (made ≡ None) × (same ≡ graph)
Answers made graph rewritten.Memory = Unit {0}

-- and a new graph keeps the flow
abbrev pub KeepsFlow : Graph → Rewritten → Type 0
KeepsFlow graph (rewritten.Done new) = Keeps graph new
KeepsFlow graph (rewritten.NotApplicable same) = Unit {0}
KeepsFlow graph rewritten.Memory = Unit {0}

-- the same for those texts of the sources of which this is known
abbrev pub KeepsFlowWhere : (List (List ℕ) → Type 0) → Graph → Rewritten → Type 0
KeepsFlowWhere known graph (rewritten.Done new) = KeepsWhere known graph new
KeepsFlowWhere known graph (rewritten.NotApplicable same) = Unit {0}
KeepsFlowWhere known graph rewritten.Memory = Unit {0}
