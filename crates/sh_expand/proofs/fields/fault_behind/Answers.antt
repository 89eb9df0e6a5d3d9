use Rattle.std.proofs.Common.{◌≡◌, [], map, drop, ap}
use Rattle.std.proofs.Math.ListN.{drop_of_length-le}
use Rattle.sh_tree.specs.Views.{word_tree}
use Rattle.sh_expand.specs.Fields.{stops_here, stops_later, too_many}
use Rattle.sh_expand.proofs.FieldLemmas.{words_step}
use Rattle.sh_expand.proofs.fields.fault_behind.Goals as goal

pub returns-in-Err-clause-fault : goal.returns-in-Err-clause-fault
returns-in-Err-clause-fault c =
    let step = words_step c.args.words.now c.loop-word.word-index c.word-item.result c.word-item.is c.loop-word-test.true in
    c.loop-word.invariant _ _ (rw step (stops_here c.in-Err.ensures.fault))

pub loop-word-preserved : goal.loop-word-preserved
loop-word-preserved c =
    let step = words_step c.args.words.now c.loop-word.word-index c.word-item.result c.word-item.is c.loop-word-test.true in
    λ shown end rest. c.loop-word.invariant shown end (rw step (stops_later c.in-Ok.ensures.marks rest))

pub returns-clause-fault : goal.returns-clause-fault
returns-clause-fault c =
    let over : map word_tree (drop c.loop-word.word-index c.args.words.now) ≡ [] = ap (map word_tree) (drop_of_length-le c.args.words.now c.loop-word-test.false) in
    c.loop-word.invariant _ _ (rw over too_many)
