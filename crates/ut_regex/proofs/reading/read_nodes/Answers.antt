use Rattle.std.proofs.Common.{◌∙◌, ◌∷◌, [], inr, ap, sym, arith}
use Rattle.ut_regex.specs.Inner.Building.{grown_by}
use Rattle.ut_regex.proofs.ReadingLemmas.{read_on, fault_on, fault_here, ends_there, unfinished_there, builder_reads}
use Rattle.ut_regex.proofs.reading.read_nodes.Goals as goal

pub pieces-preserved : goal.pieces-preserved
pieces-preserved c =
    let l = c.pieces in
    record {
      read = λ pieces h.
          let whole = l.invariant.read (c.in-Ok.piece ∷ pieces)
          (read_on c.args.basic l.before c.left_by-before.result l.depth c.depth_after-depth.result l.left.now c.in-Ok.rest.now c.in-Ok.piece
          c.left_by-before.ensures c.depth_after-depth.ensures.depth c.in-Ok.ensures.piece pieces h) in
          (whole.0, whole.1, whole.2 ∙ ap (λ t. grown_by pieces t) (sym c.in-Ok-add.ensures));
      fault = λ fault h. l.invariant.fault fault
          (fault_on c.args.basic l.before c.left_by-before.result l.depth c.depth_after-depth.result l.left.now c.in-Ok.rest.now c.in-Ok.piece
          c.left_by-before.ensures c.depth_after-depth.ensures.depth c.in-Ok.ensures.piece fault h);
      shallow = omega (arith, l.invariant.shallow, c.in-Ok.ensures.shorter, c.depth_after-depth.ensures.one);
    }

pub returns-in-Err-clause-fault : goal.returns-in-Err-clause-fault
returns-in-Err-clause-fault c =
    let l = c.pieces in
    inr (l.invariant.fault c.in-Err.fault
    (fault_here c.args.basic l.before l.depth l.left.now c.in-Err.fault (sym c.is_empty.ensures ∙ c.pieces-test.true) c.in-Err.ensures.piece))

pub returns-else-ends_here-clause-fault : goal.returns-else-ends_here-clause-fault
returns-else-ends_here-clause-fault c =
    let l = c.pieces in
    inr (l.invariant.fault _
    (unfinished_there c.args.basic l.before l.depth l.left.now (sym c.is_empty.ensures ∙ c.pieces-test.false) (sym c.ends_here.ensures ∙ c.if-ends_here.false)))

pub returns-in-Ok-finish-clause-read : goal.returns-in-Ok-finish-clause-read
returns-in-Ok-finish-clause-read c =
    let l = c.pieces in
    let whole = l.invariant.read []
    (ends_there c.args.basic l.before l.depth l.left.now (sym c.is_empty.ensures ∙ c.pieces-test.false) (sym c.ends_here.ensures ∙ c.if-ends_here.true)) in
    builder_reads c.args.basic c.args.text.now whole.0 l.builder c.in-Ok-finish.nodes.items whole.1 whole.2 c.in-Ok-finish.ensures
