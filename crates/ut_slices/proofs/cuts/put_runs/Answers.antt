use Rattle.std.proofs.Common.{[], if◌then◌else◌}
use Rattle.std.specs.Result.{is_ok}
use Rattle.ut_slices.specs.Cut.{selected}
use Rattle.ut_slices.specs.Inner.Runs.{in_runs}
use Rattle.ut_slices.proofs.CutLemmas.{bytes-rest, bytes-run, Put-last}
use Rattle.ut_slices.proofs.PutLemmas.{PutSoFar-next, Put-stopped_at}
use Rattle.ut_slices.proofs.cuts.put_runs.Goals as goal

pub loop-run-preserved : goal.loop-run-preserved
loop-run-preserved c =
    PutSoFar-next (selected (in_runs c.args.runs.now c.args.rest_selected) 0 c.args.line.now) (selected (in_runs c.loop-run.left.now c.args.rest_selected) 0 c.loop-run.rest.now)
    (if c.in-Some.run'.now.selected then c.cut_behind_bytes.result.0.now else [])
    (selected (in_runs c.in-Some.others.now c.args.rest_selected) 0 c.cut_behind_bytes.result.1.now) c.args.out.now.items c.loop-run.out.items c.put_if.new.out.items
    c.loop-run.invariant
    (bytes-run c.in-Some.run'.now c.loop-run.left.now c.in-Some.others.now c.args.rest_selected c.loop-run.rest.now c.cut_behind_bytes.result.0.now
    c.cut_behind_bytes.result.1.now c.in-Some.ensures.cases.0 c.cut_behind_bytes.ensures.front c.cut_behind_bytes.ensures.behind)
    c.in-Ok.ensures

pub returns-in-Err : goal.returns-in-Err
returns-in-Err c =
    Put-stopped_at (selected (in_runs c.args.runs.now c.args.rest_selected) 0 c.args.line.now) (selected (in_runs c.loop-run.left.now c.args.rest_selected) 0 c.loop-run.rest.now)
    (if c.in-Some.run'.now.selected then c.cut_behind_bytes.result.0.now else [])
    (selected (in_runs c.in-Some.others.now c.args.rest_selected) 0 c.cut_behind_bytes.result.1.now) c.args.out.now.items c.loop-run.out.items c.put_if.new.out.items
    c.loop-run.invariant
    (bytes-run c.in-Some.run'.now c.loop-run.left.now c.in-Some.others.now c.args.rest_selected c.loop-run.rest.now c.cut_behind_bytes.result.0.now
    c.cut_behind_bytes.result.1.now c.in-Some.ensures.cases.0 c.cut_behind_bytes.ensures.front c.cut_behind_bytes.ensures.behind)
    c.in-Err.ensures

pub returns : goal.returns
returns c =
    Put-last (selected (in_runs c.args.runs.now c.args.rest_selected) 0 c.args.line.now) (selected (in_runs c.loop-run.left.now c.args.rest_selected) 0 c.loop-run.rest.now)
    (if c.args.rest_selected then c.loop-run.rest.now else []) c.args.out.now.items c.loop-run.out.items c.put_if-2.new.out.items (is_ok c.put_if-2.result) c.loop-run.invariant
    (bytes-rest c.loop-run.left.now c.args.rest_selected c.loop-run.rest.now c.in_default.ensures.cases) c.put_if-2.ensures
