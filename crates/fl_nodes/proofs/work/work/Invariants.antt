use Rattle.fl_nodes.specs.Points.{point}
use Rattle.fl_nodes.specs.Work.{IsUnderWay, Leads}
use Rattle.fl_nodes.proofs.work.work.Given as goal

abbrev pub invariant-loop : goal.invariant-loop
invariant-loop g l =
    (goal.iterator-loop g).can_next l.iterator' × (goal.iterator-loop g).is_finite l.iterator'
    × IsUnderWay (point g.M.Machine.state g.E.OwnEnd.state l.worker)
    × Leads (point g.M.Machine.state g.E.OwnEnd.state l.initial.worker) (point g.M.Machine.state g.E.OwnEnd.state l.worker)
