use Rattle.std.proofs.Common.{◌≡◌, [], map, drop, ap}
use Rattle.std.proofs.Math.ListN.{drop_of_length-le}
use Rattle.sh_tree.specs.Views.{word_tree}
use Rattle.sh_expand.specs.Given.{given_of}
use Rattle.sh_expand.specs.Fields.{stops_here, stops_later}
use Rattle.sh_expand.proofs.FieldLemmas.{words_step, pattern_on, pattern_end}
use Rattle.sh_expand.proofs.fields.pattern_in_words.Goals as goal

pub returns-in-Err-clause-fault : goal.returns-in-Err-clause-fault
returns-in-Err-clause-fault c =
    let step = words_step c.args.words.now c.loop-word.word-index c.word-item.result c.word-item.is c.loop-word-test.true in
    c.loop-word.invariant.stop _ _ (rw step (stops_here c.in-Err.ensures.fault))

pub loop-word-preserved : goal.loop-word-preserved
loop-word-preserved c =
    let step = words_step c.args.words.now c.loop-word.word-index c.word-item.result c.word-item.is c.loop-word-test.true in
    let has = c.in-Ok.ensures.marks in
    record {
      go = pattern_on (given_of c.args.known.now) c.args.env.now c.loop-word.env c.marks_of_word.new.env (map word_tree c.args.words.now) _ _ (word_tree c.word-item.result) c.in-Ok.marks.items c.as_slice.result.now c.ifs_of.result.now c.loop-word.found c.is_pattern_left-found.result step c.as_slice.ensures.value c.ifs_of.ensures has c.is_pattern_left-found.ensures c.loop-word.invariant.go;
      stop = λ shown end rest. c.loop-word.invariant.stop shown end (rw step (stops_later has rest));
    }

pub returns-clause-found : goal.returns-clause-found
returns-clause-found c =
    let over : map word_tree (drop c.loop-word.word-index c.args.words.now) ≡ [] = ap (map word_tree) (drop_of_length-le c.args.words.now c.loop-word-test.false) in
    pattern_end _ _ _ _ _ c.loop-word.found over c.loop-word.invariant.go
