use Rattle.std.proofs.Common.{◌≡◌, ◌++◌, [], Ok, drop}
use Rattle.std.proofs.lemmas.List.{append-nil}
use Rattle.std.proofs.Math.ListN.{drop_of_length-le}
use Rattle.sh_expand.specs.Given.{given_of}
use Rattle.sh_expand.specs.Values.{WordGives, no_more, one_more, first_stops, later_stops, its_word_stops, word_in}
use Rattle.sh_tree.specs.Views.{part_tree}
use Rattle.sh_expand.proofs.WordLemmas.{done, stopped, ended_marks, ended_fault, parts_step, behind}
use Rattle.sh_expand.proofs.values.+values.Goals as goal

pub add_by_word-returns-in-Ok-clause-marks : goal.add_by_word-returns-in-Ok-clause-marks
add_by_word-returns-in-Ok-clause-marks t c =
    let word : WordGives (given_of c.args.known.now) c.args.within c.args.env.now (word_in (part_tree c.args.part.now)) (Ok c.as_slice.result.now, c.marks_in.new.env) = rw c.as_slice.ensures.value c.in-Ok.ensures.marks in
    ended_marks (given_of c.args.known.now) c.args.used c.args.within c.args.env.now _ c.end_part.new.env (part_tree c.args.part.now) c.args.text _ c.args.out.now.items c.end_part.new.out.items c.end_part.result
    c.requires.begun c.requires.text word c.end_part.ensures.marks

pub add_by_word-returns-in-Ok-clause-fault : goal.add_by_word-returns-in-Ok-clause-fault
add_by_word-returns-in-Ok-clause-fault t c =
    let word : WordGives (given_of c.args.known.now) c.args.within c.args.env.now (word_in (part_tree c.args.part.now)) (Ok c.as_slice.result.now, c.marks_in.new.env) = rw c.as_slice.ensures.value c.in-Ok.ensures.marks in
    ended_fault (given_of c.args.known.now) c.args.used c.args.within c.args.env.now _ c.end_part.new.env (part_tree c.args.part.now) c.args.text _ c.end_part.result
    c.requires.begun c.requires.text word c.end_part.ensures.fault

pub add_by_word-returns-in-Err-clause-fault : goal.add_by_word-returns-in-Err-clause-fault
add_by_word-returns-in-Err-clause-fault t c = its_word_stops c.requires.begun c.in-Err.ensures.fault

pub add_part-returns-in-Ok-Done-clause-marks : goal.add_part-returns-in-Ok-Done-clause-marks
add_part-returns-in-Ok-Done-clause-marks t c = done _ _ _ _ _ _ (rw c.in-Ok-Done.field-0-is at c.in-Ok-Done.ensures)

pub add_part-returns-in-Err-clause-fault : goal.add_part-returns-in-Err-clause-fault
add_part-returns-in-Err-clause-fault t c = stopped _ _ _ _ _ c.in-Err.ensures

pub add_parts-returns-in-Err-clause-fault : goal.add_parts-returns-in-Err-clause-fault
add_parts-returns-in-Err-clause-fault t c =
    let step = parts_step c.args.parts.now c.loop-part.part-index c.part-item.result c.part-item.is c.loop-part-test.true in
    c.loop-part.invariant.stop _ _ (rw step (first_stops c.in-Err.ensures.fault))

pub add_parts-loop-part-preserved : goal.add_parts-loop-part-preserved
add_parts-loop-part-preserved t c =
    let step = parts_step c.args.parts.now c.loop-part.part-index c.part-item.result c.part-item.is c.loop-part-test.true in
    let added = c.in-Ok.ensures.marks in
    record {
      go = λ others end rest. behind _ _ _ _ added.marks others added.grew (c.loop-part.invariant.go (added.marks ++ others) end (rw step (one_more added.gives rest)));
      stop = λ fault end rest. c.loop-part.invariant.stop fault end (rw step (later_stops added.gives rest));
    }

pub add_parts-returns-clause-marks : goal.add_parts-returns-clause-marks
add_parts-returns-clause-marks t c =
    let over : drop c.loop-part.part-index c.args.parts.now ≡ [] = drop_of_length-le c.args.parts.now c.loop-part-test.false in
    let all = c.loop-part.invariant.go [] c.loop-part.env (rw over no_more) in
    rw append-nil at all
