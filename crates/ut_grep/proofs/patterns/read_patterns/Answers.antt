use Rattle.std.proofs.Common.{◌-◌, ◌∙◌, ◌∷◌, ◌++◌, [], ap, append_assoc, drop, length, subst, sym, take}
use Rattle.ps_lines.specs.Texts.{texts_of}
use Rattle.ut_regex.specs.Several.{trees_of}
use Rattle.ut_grep.specs.Patterns.{ArePatterns}
use Rattle.ut_grep.proofs.PatternLemmas.{patterns-more, text_more, texts_before}
use Rattle.ut_grep.proofs.patterns.read_patterns.Goals as goal

pub loop-left-preserved : goal.loop-left-preserved
loop-left-preserved c =
    let l = c.loop-left in
    let h = l.invariant in
    let pattern = c.pattern-item.result.items in
    let read = rw c.as_slice.ensures.value at c.in-Ok.ensures.read in (
      h.0 ++ pattern ∷ [],
      h.1 ∙ ap (λ texts. h.0 ++ texts) (text_more l.left.now c.pattern-item.result c.pattern-item.is c.in-len1-up.len_at_least)
          ∙ sym (append_assoc h.0 (pattern ∷ []) (texts_of (take (length l.left.now - 1) (drop 1 l.left.now)))),
      subst (λ trees. ArePatterns c.args.form (h.0 ++ pattern ∷ []) trees) (sym read.1) (patterns-more c.args.form h.0 (trees_of l.all.items) pattern read.0 h.2 read.2),
    )

pub returns-in-Err-clause-fault : goal.returns-in-Err-clause-fault
returns-in-Err-clause-fault c =
    let l = c.loop-left in
    let h = l.invariant in
    record {
      before = h.0;
      pattern = c.pattern-item.result.items;
      behind = texts_of (take (length l.left.now - 1) (drop 1 l.left.now));
      whole = h.1 ∙ ap (λ texts. h.0 ++ texts) (text_more l.left.now c.pattern-item.result c.pattern-item.is c.in-len1-up.len_at_least);
      trees = trees_of l.all.items;
      read = h.2;
      refused = rw c.as_slice.ensures.value at c.in-Err.ensures.fault;
    }

pub returns-clause-read : goal.returns-clause-read
returns-clause-read c =
    texts_before c.args.form c.loop-left.invariant.0 (texts_of c.args.patterns.now) c.loop-left.left.now (trees_of c.loop-left.all.items) c.in_default.len_below
    c.loop-left.invariant.1 c.loop-left.invariant.2
