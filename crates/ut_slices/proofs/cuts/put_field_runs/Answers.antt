use Rattle.std.proofs.Common.{[], ◌||◌, false, if◌then◌else◌}
use Rattle.std.specs.Result.{is_ok}
use Rattle.ut_slices.specs.Cut.{fields, selected}
use Rattle.ut_slices.specs.Inner.Begun.{behind_fields, joined_behind}
use Rattle.ut_slices.specs.Inner.Runs.{in_runs}
use Rattle.ut_slices.proofs.CutLemmas.{fields-few, fields-rest, fields-run, Put-last}
use Rattle.ut_slices.proofs.FieldLemmas.{join-begin}
use Rattle.ut_slices.proofs.PutLemmas.{PutSoFar-next, Put-stopped_at}
use Rattle.ut_slices.proofs.cuts.put_field_runs.Goals as goal

pub loop-run-preserved : goal.loop-run-preserved
loop-run-preserved c =
    PutSoFar-next (joined_behind false c.args.delimiter (selected (in_runs c.args.runs.now c.args.rest_selected) 0 (fields c.args.delimiter c.args.line.now)))
    (joined_behind c.loop-run.begun c.args.delimiter (selected (in_runs c.loop-run.left.now c.args.rest_selected) 0 (fields c.args.delimiter c.loop-run.rest.now)))
    (if c.in-Some.run'.now.selected then behind_fields c.loop-run.begun c.args.delimiter c.in-Some-cut_at_delimiter.front.now else [])
    (joined_behind (c.loop-run.begun || c.in-Some.run'.now.selected) c.args.delimiter
    (selected (in_runs c.in-Some.others.now c.args.rest_selected) 0 (fields c.args.delimiter c.in-Some-cut_at_delimiter.behind.now)))
    c.args.out.now.items c.loop-run.out.items c.put_more-in-Some.new.out.items c.loop-run.invariant
    (fields-run c.loop-run.begun c.args.delimiter c.in-Some.run'.now c.loop-run.left.now c.in-Some.others.now c.args.rest_selected c.loop-run.rest.now
    c.in-Some-cut_at_delimiter.front.now c.in-Some-cut_at_delimiter.behind.now c.in-Some.ensures.cases.0 c.in-Some-cut_at_delimiter.ensures.cut)
    c.in-Ok.ensures

pub returns-in-Err : goal.returns-in-Err
returns-in-Err c =
    rw (join-begin c.args.delimiter (selected (in_runs c.args.runs.now c.args.rest_selected) 0 (fields c.args.delimiter c.args.line.now)))
    (Put-stopped_at (joined_behind false c.args.delimiter (selected (in_runs c.args.runs.now c.args.rest_selected) 0 (fields c.args.delimiter c.args.line.now)))
    (joined_behind c.loop-run.begun c.args.delimiter (selected (in_runs c.loop-run.left.now c.args.rest_selected) 0 (fields c.args.delimiter c.loop-run.rest.now)))
    (if c.in-Some.run'.now.selected then behind_fields c.loop-run.begun c.args.delimiter c.in-Some-cut_at_delimiter.front.now else [])
    (joined_behind (c.loop-run.begun || c.in-Some.run'.now.selected) c.args.delimiter
    (selected (in_runs c.in-Some.others.now c.args.rest_selected) 0 (fields c.args.delimiter c.in-Some-cut_at_delimiter.behind.now)))
    c.args.out.now.items c.loop-run.out.items c.put_more-in-Some.new.out.items c.loop-run.invariant
    (fields-run c.loop-run.begun c.args.delimiter c.in-Some.run'.now c.loop-run.left.now c.in-Some.others.now c.args.rest_selected c.loop-run.rest.now
    c.in-Some-cut_at_delimiter.front.now c.in-Some-cut_at_delimiter.behind.now c.in-Some.ensures.cases.0 c.in-Some-cut_at_delimiter.ensures.cut)
    c.in-Err.ensures)

pub returns : goal.returns
returns c =
    rw (join-begin c.args.delimiter (selected (in_runs c.args.runs.now c.args.rest_selected) 0 (fields c.args.delimiter c.args.line.now)))
    (Put-last (joined_behind false c.args.delimiter (selected (in_runs c.args.runs.now c.args.rest_selected) 0 (fields c.args.delimiter c.args.line.now)))
    (joined_behind c.loop-run.begun c.args.delimiter (selected (in_runs c.loop-run.left.now c.args.rest_selected) 0 (fields c.args.delimiter c.loop-run.rest.now)))
    (if c.args.rest_selected then behind_fields c.loop-run.begun c.args.delimiter c.loop-run.rest.now else []) c.args.out.now.items c.loop-run.out.items
    c.put_more-2.new.out.items (is_ok c.put_more-2.result) c.loop-run.invariant
    (fields-rest c.loop-run.begun c.args.delimiter c.loop-run.left.now c.args.rest_selected c.loop-run.rest.now c.in_default.ensures.cases) c.put_more-2.ensures)

pub returns-in_default-cut_at_delimiter : goal.returns-in_default-cut_at_delimiter
returns-in_default-cut_at_delimiter c =
    rw (join-begin c.args.delimiter (selected (in_runs c.args.runs.now c.args.rest_selected) 0 (fields c.args.delimiter c.args.line.now)))
    (Put-last (joined_behind false c.args.delimiter (selected (in_runs c.args.runs.now c.args.rest_selected) 0 (fields c.args.delimiter c.args.line.now)))
    (joined_behind c.loop-run.begun c.args.delimiter (selected (in_runs c.loop-run.left.now c.args.rest_selected) 0 (fields c.args.delimiter c.loop-run.rest.now)))
    (if c.in-Some.run'.now.selected then behind_fields c.loop-run.begun c.args.delimiter c.loop-run.rest.now else []) c.args.out.now.items c.loop-run.out.items
    c.put_more.new.out.items (is_ok c.put_more.result) c.loop-run.invariant
    (fields-few c.loop-run.begun c.args.delimiter c.in-Some.run'.now c.loop-run.left.now c.in-Some.others.now c.args.rest_selected c.loop-run.rest.now
    c.in-Some.ensures.cases.0 c.in_default-cut_at_delimiter.ensures.none)
    c.put_more.ensures)
