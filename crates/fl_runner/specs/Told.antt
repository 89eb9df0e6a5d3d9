-- What is told of nodes that have run to their stops (own).
use Rattle.std.specs.Prelude.{◌≡◌, ◌<◌, ℕ, List, true, false, map, slice_get, Some, is_some}
use Rattle.fl_classes.specs.Flow.{status_by}
use Rattle.fl_graph.specs.declared.graphs.StatusRule.{StatusRule}
use Rattle.fl_nodes.specs.Work.{is_fault}
use Rattle.fl_nodes.specs.declared.nodes.NodeDone.{NodeDone}
use Rattle.fl_runner.specs.declared.telling.Told.{Told}
use Rattle.fl_runner.specs.declared.telling.Told.TheVariants as told

module _ {E : Type 0} where
  -- no node has failed, and none by its end
  abbrev pub NoneFailed : List (NodeDone E) → Type 0
  NoneFailed nodes = (node : ℕ) (done : NodeDone E) → slice_get nodes node ≡ Some done → is_some done.failure ≡ false

  abbrev pub NoFault : List (NodeDone E) → Type 0
  NoFault nodes = (node : ℕ) (done : NodeDone E) → slice_get nodes node ≡ Some done → is_fault done.failure ≡ false

  -- this one's end failed, and none of a lower node did
  pub record IsFirstFault (nodes : List (NodeDone E)) (failed : ℕ) : Type 0 where
    pub done : NodeDone E
    pub there : slice_get nodes failed ≡ Some done
    pub fault : is_fault done.failure ≡ true
    pub lower : (node : ℕ) (other : NodeDone E) → node < failed → slice_get nodes node ≡ Some other → is_fault other.failure ≡ false

  -- done comes where none has failed, with the status; else the lowest node whose end failed is told, or want of memory where none did
  abbrev pub Tells : StatusRule → List (NodeDone E) → Told → Type 0
  Tells rule nodes (told.Done status) = NoneFailed nodes × (status ≡ status_by rule (map (λ done. done.selected) nodes))
  Tells rule nodes (told.Fault node) = IsFirstFault nodes node
  Tells rule nodes told.Memory = NoFault nodes
