use Rattle.std.proofs.Common.{◌≡◌, ◌+◌, ap, ◌∙◌, arith}
use Rattle.ut_groups.specs.Counting.{words_behind}
use Rattle.ut_groups.specs.Inner.Columns.{last_behind}
use Rattle.ut_groups.proofs.CountingLemmas.{words-cut}
use Rattle.ut_groups.proofs.counting.words.Goals as goal

pub loop-rest-preserved : goal.loop-rest-preserved
loop-rest-preserved c =
    let last = c.loop-rest.last in
    let block = c.split_at.result.0.now in
    let after = c.split_at.result.1.now in
    let cut : words_behind last block + words_behind (last_behind last block) after ≡ words_behind last c.loop-rest.rest.now =
    (λ i. words_behind last (c.split_at.ensures.front i) + words_behind (last_behind last (c.split_at.ensures.front i)) (c.split_at.ensures.back i))
    ∙ words-cut last c.loop-rest.rest.now 192 in
    let next : words_behind c.last_byte-last.result after ≡ words_behind (last_behind last block) after = ap (λ before. words_behind before after) c.last_byte-last.ensures in
    let size : c.from-count.result ≡ words_behind last block = c.from-count.ensures ∙ c.words_of_block.ensures in
    omega (arith, cut, next, size, c.loop-rest.invariant)
