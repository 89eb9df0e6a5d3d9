-- A worker as the point that it has come to (own).
use Rattle.fl_graph.specs.Machines.{State}
use Rattle.fl_nodes.specs.Ends.{EndState}
use Rattle.fl_nodes.specs.Work.{Point}
use Rattle.fl_nodes.specs.declared.worker.Worker.{Worker}

module _ {M E : Type 0} (of_machine : M → State) (of_end : E → EndState) where
  abbrev pub point : Worker M E → Point
  point worker = record {
    state = of_machine worker.machine;
    takers = worker.takers.items;
    givers = worker.givers.items;
    own = of_end worker.own;
    failure = worker.failure;
  }
