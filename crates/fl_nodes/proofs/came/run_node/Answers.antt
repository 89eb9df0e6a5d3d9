use Rattle.std.proofs.Common.{refl}
use Rattle.fl_nodes.specs.Points.{point}
use Rattle.fl_nodes.proofs.CameLemmas.{came_to, fits, from, reached-start, under_way}
use Rattle.fl_nodes.proofs.came.run_node.Goals as goal

pub work-requires : goal.work-requires
work-requires g c = record {
  way = under_way (g.M.Machine.state c.args.job.machine) (g.E.OwnEnd.state c.args.job.own) c.args.job.takers.items c.args.job.givers.items c.args.job.ready;
}

pub returns : goal.returns
returns g c =
    let start = g.M.Machine.state c.args.job.machine in
    let own = g.E.OwnEnd.state c.args.job.own in
    let takers = c.args.job.takers.items in
    let givers = c.args.job.givers.items in record {
      number = refl;
      came = came_to (from start own takers givers c.args.job.ready) (point g.M.Machine.state g.E.OwnEnd.state c.work.new.worker) c.selected-selected.result
          (c.work.ensures.leads (from start own takers givers c.args.job.ready) (fits start own takers givers c.args.job.ready) (reached-start start own takers givers c.args.job.ready))
          c.work.ensures.stop c.work.ensures.may (c.selected-selected.ensures c.work.ensures.stop);
    }
