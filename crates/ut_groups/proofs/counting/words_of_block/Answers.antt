use Rattle.std.proofs.Common.{rules, ◌≡◌, ◌+◌, ◌<◌, take, get_or, length, ap, sym, ◌∙◌, arith}
use Rattle.std.proofs.lemmas.List.{length-take}
use Rattle.ut_groups.specs.Counting.{word_begins}
use Rattle.ut_groups.specs.Inner.Columns.{last_behind}
use Rattle.ut_groups.proofs.CountingLemmas.{last-more, words-more, words-most}
use Rattle.ut_groups.proofs.counting.words_of_block.Goals as goal

pub overflow_add-count : goal.overflow_add-count
overflow_add-count c =
    let block = c.args.block.now in
    let place = c.loop-byte.byte-index in
    let within : place < length block = search rules in
    let more = words-more c.args.before block place 0 within in
    let is : c.word_begins-count.result ≡ word_begins (last_behind c.args.before (take place block)) (get_or block place 0) =
    c.word_begins-count.ensures ∙ ap (λ last. word_begins last (get_or block place 0)) c.loop-byte.invariant.1 in
    let most = words-most c.args.before (take (place + 1) block) in
    omega (arith, within, more, is, most, c.loop-byte.invariant.0, length-take (place + 1) block, c.requires)

pub loop-byte-preserved : goal.loop-byte-preserved
loop-byte-preserved c =
    let block = c.args.block.now in
    let place = c.loop-byte.byte-index in
    let within : place < length block = search rules in
    let more = words-more c.args.before block place 0 within in
    let is : c.word_begins-count.result ≡ word_begins (last_behind c.args.before (take place block)) (get_or block place 0) =
    c.word_begins-count.ensures ∙ ap (λ last. word_begins last (get_or block place 0)) c.loop-byte.invariant.1 in
    (omega (arith, more, is, c.loop-byte.invariant.0), sym (last-more c.args.before block place 0 within))
