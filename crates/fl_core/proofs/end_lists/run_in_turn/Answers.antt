use Rattle.std.proofs.Common.{◌≡◌, List, ℕ, [], sym, rules}
use Rattle.ps_world.specs.Told.{then_bytes, GrewByPrefix}
use Rattle.ps_world.proofs.ToldLemmas.{grew_by_nothing, then_bytes-nil}
use Rattle.fl_classes.specs.Flow.{outcome}
use Rattle.fl_core.specs.EndLists.{KeepsOthers, faults_by, left_at, left_by, taken_at, taken_by}
use Rattle.fl_net.specs.Ends.{HasRead, HasWritten, HasWrittenFronts}
use Rattle.fl_net.specs.Plans.{AreTold}
use Rattle.fl_core.proofs.EndListLemmas.{are_apart, blames_node, blames_none, keeps, moved, reads_all, writes_all}
use Rattle.fl_core.proofs.FileLemmas.{files_grew}
use Rattle.fl_core.proofs.OutputLemmas.{output_grows}
use Rattle.fl_core.proofs.end_lists.run_in_turn.Goals as goal

pub returns-in-Err : goal.returns-in-Err
returns-in-Err g c = record {
  written = tt;
  output = tt;
  files = tt;
  read = tt;
  status = tt;
  front = λ sources told node cell at sink. grew_by_nothing _ _;
  part = λ sources told. grew_by_nothing _ _;
  cause = search rules;
  kept = search rules;
}

pub invariant_of-numbered : goal.invariant_of-numbered
invariant_of-numbered g c = record { apart = are_apart _ c.args.ends _ c.in-Ok.ensures c.requires.valid.ends }

pub run_over_ends-ending-requires-clause-reads : goal.run_over_ends-ending-requires-clause-reads
run_over_ends-ending-requires-clause-reads g c = reads_all _ c.args.ends _ c.in-Ok.ensures c.requires.ends

pub run_over_ends-ending-requires-clause-writes : goal.run_over_ends-ending-requires-clause-writes
run_over_ends-ending-requires-clause-writes g c = writes_all _ c.args.ends _ c.in-Ok.ensures c.requires.ends

pub returns-in-Done : goal.returns-in-Done
returns-in-Done g c =
    let kept : KeepsOthers c.args.graph.now.nodes c.args.ends c.run_over_ends-ending.new.ends.ends = keeps _ c.args.ends _ c.in-Ok.ensures _ c.run_over_ends-ending.new.ends.ends c.run_over_ends-ending.ensures.borrows in
    let written : HasWritten c.args.graph.now.nodes (left_at g.R.Source.left g.I.Source.left c.args.graph.now.nodes c.args.ends)
    (taken_at g.W.Sink.taken g.O.Sink.taken c.args.graph.now.nodes c.args.ends) (taken_at g.W.Sink.taken g.O.Sink.taken c.args.graph.now.nodes c.run_over_ends-ending.new.ends.ends) =
    moved _ c.args.ends _ c.in-Ok.ensures _ c.run_over_ends-ending.new.ends.ends c.run_over_ends-ending.ensures.borrows
    (λ old new. HasWritten c.args.graph.now.nodes (λ node. left_by g.R.Source.left g.I.Source.left (old node))
    (λ node. taken_by g.W.Sink.taken g.O.Sink.taken (old node)) (λ node. taken_by g.W.Sink.taken g.O.Sink.taken (new node)))
    c.in-Done.ensures.written in
    let front : HasWrittenFronts c.args.graph.now.nodes (left_at g.R.Source.left g.I.Source.left c.args.graph.now.nodes c.args.ends)
    (taken_at g.W.Sink.taken g.O.Sink.taken c.args.graph.now.nodes c.args.ends) (taken_at g.W.Sink.taken g.O.Sink.taken c.args.graph.now.nodes c.run_over_ends-ending.new.ends.ends) =
    moved _ c.args.ends _ c.in-Ok.ensures _ c.run_over_ends-ending.new.ends.ends c.run_over_ends-ending.ensures.borrows
    (λ old new. HasWrittenFronts c.args.graph.now.nodes (λ node. left_by g.R.Source.left g.I.Source.left (old node))
    (λ node. taken_by g.W.Sink.taken g.O.Sink.taken (old node)) (λ node. taken_by g.W.Sink.taken g.O.Sink.taken (new node)))
    c.run_over_ends-ending.ensures.front in
    record {
      written = written;
      output = λ sources told. output_grows (λ old new text. new ≡ then_bytes old text) (λ told. sym (then_bytes-nil told)) c.args.graph.now c.requires.valid
          c.args.ends c.run_over_ends-ending.new.ends.ends kept g.W.Sink.taken g.O.Sink.taken sources (written sources told);
      files = λ sources told. files_grew c.args.graph.now c.requires.valid sources _ _ (written sources told);
      read = moved _ c.args.ends _ c.in-Ok.ensures _ c.run_over_ends-ending.new.ends.ends c.run_over_ends-ending.ensures.borrows
          (λ old new. HasRead c.args.graph.now.nodes (λ node. left_by g.R.Source.left g.I.Source.left (old node)) (λ node. left_by g.R.Source.left g.I.Source.left (new node)))
          c.in-Done.ensures.read;
      status = moved _ c.args.ends _ c.in-Ok.ensures _ c.run_over_ends-ending.new.ends.ends c.run_over_ends-ending.ensures.borrows
          (λ old new. (sources : List (List ℕ)) → AreTold sources c.args.graph.now.nodes (λ node. left_by g.R.Source.left g.I.Source.left (old node))
          → c.in-Done.status ≡ (outcome c.args.graph.now sources).status) c.in-Done.ensures.status;
      front = front;
      part = λ sources told. output_grows GrewByPrefix (λ told. grew_by_nothing told []) c.args.graph.now c.requires.valid c.args.ends c.run_over_ends-ending.new.ends.ends
          kept g.W.Sink.taken g.O.Sink.taken sources (front sources told);
      cause = blames_none _ c.args.ends _ c.in-Ok.ensures _ c.run_over_ends-ending.new.ends.ends c.run_over_ends-ending.ensures.borrows
          (λ end. faults_by g.R.Source.faults g.W.Sink.faults g.I.Source.faults g.O.Sink.faults end) c.run_over_ends-ending.ensures.later _ (λ node is. is)
          (λ node. c.run_over_ends-ending.ensures.others node (λ failed. let is = c.in-Done.is in cc));
      kept = kept;
    }

pub returns-in-Fault : goal.returns-in-Fault
returns-in-Fault g c =
    let kept : KeepsOthers c.args.graph.now.nodes c.args.ends c.run_over_ends-ending.new.ends.ends = keeps _ c.args.ends _ c.in-Ok.ensures _ c.run_over_ends-ending.new.ends.ends c.run_over_ends-ending.ensures.borrows in
    let front : HasWrittenFronts c.args.graph.now.nodes (left_at g.R.Source.left g.I.Source.left c.args.graph.now.nodes c.args.ends)
    (taken_at g.W.Sink.taken g.O.Sink.taken c.args.graph.now.nodes c.args.ends) (taken_at g.W.Sink.taken g.O.Sink.taken c.args.graph.now.nodes c.run_over_ends-ending.new.ends.ends) =
    moved _ c.args.ends _ c.in-Ok.ensures _ c.run_over_ends-ending.new.ends.ends c.run_over_ends-ending.ensures.borrows
    (λ old new. HasWrittenFronts c.args.graph.now.nodes (λ node. left_by g.R.Source.left g.I.Source.left (old node))
    (λ node. taken_by g.W.Sink.taken g.O.Sink.taken (old node)) (λ node. taken_by g.W.Sink.taken g.O.Sink.taken (new node)))
    c.run_over_ends-ending.ensures.front in
    record {
      written = tt;
      output = tt;
      files = tt;
      read = tt;
      status = tt;
      front = front;
      part = λ sources told. output_grows GrewByPrefix (λ told. grew_by_nothing told []) c.args.graph.now c.requires.valid c.args.ends c.run_over_ends-ending.new.ends.ends
          kept g.W.Sink.taken g.O.Sink.taken sources (front sources told);
      cause = blames_node _ c.args.ends _ c.in-Ok.ensures _ c.run_over_ends-ending.new.ends.ends c.run_over_ends-ending.ensures.borrows
          (λ end. faults_by g.R.Source.faults g.W.Sink.faults g.I.Source.faults g.O.Sink.faults end) c.run_over_ends-ending.ensures.later c.in-Fault.node
          (c.run_over_ends-ending.ensures.fault c.in-Fault.node c.in-Fault.is)
          (λ node other. c.run_over_ends-ending.ensures.others node (λ failed. other (let is = c.in-Fault.is in cc)));
      kept = kept;
    }

pub returns : goal.returns
returns g c =
    let kept : KeepsOthers c.args.graph.now.nodes c.args.ends c.run_over_ends-ending.new.ends.ends = keeps _ c.args.ends _ c.in-Ok.ensures _ c.run_over_ends-ending.new.ends.ends c.run_over_ends-ending.ensures.borrows in
    let front : HasWrittenFronts c.args.graph.now.nodes (left_at g.R.Source.left g.I.Source.left c.args.graph.now.nodes c.args.ends)
    (taken_at g.W.Sink.taken g.O.Sink.taken c.args.graph.now.nodes c.args.ends) (taken_at g.W.Sink.taken g.O.Sink.taken c.args.graph.now.nodes c.run_over_ends-ending.new.ends.ends) =
    moved _ c.args.ends _ c.in-Ok.ensures _ c.run_over_ends-ending.new.ends.ends c.run_over_ends-ending.ensures.borrows
    (λ old new. HasWrittenFronts c.args.graph.now.nodes (λ node. left_by g.R.Source.left g.I.Source.left (old node))
    (λ node. taken_by g.W.Sink.taken g.O.Sink.taken (old node)) (λ node. taken_by g.W.Sink.taken g.O.Sink.taken (new node)))
    c.run_over_ends-ending.ensures.front in
    record {
      written = tt;
      output = tt;
      files = tt;
      read = tt;
      status = tt;
      front = front;
      part = λ sources told. output_grows GrewByPrefix (λ told. grew_by_nothing told []) c.args.graph.now c.requires.valid c.args.ends c.run_over_ends-ending.new.ends.ends
          kept g.W.Sink.taken g.O.Sink.taken sources (front sources told);
      cause = blames_none _ c.args.ends _ c.in-Ok.ensures _ c.run_over_ends-ending.new.ends.ends c.run_over_ends-ending.ensures.borrows
          (λ end. faults_by g.R.Source.faults g.W.Sink.faults g.I.Source.faults g.O.Sink.faults end) c.run_over_ends-ending.ensures.later _ (λ node is. is)
          (λ node. c.run_over_ends-ending.ensures.others node (λ failed. let is = c.in-Memory.is in cc));
      kept = kept;
    }
