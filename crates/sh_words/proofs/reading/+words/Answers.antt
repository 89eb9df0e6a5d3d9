use Rattle.std.proofs.Common.{◌≡◌, ◌<◌, None, [], ◌∷◌, length, sym, ◌∙◌, ap, subst, arith, rules}
use Rattle.std.specs.Option.{option_map, option_or}
use Rattle.sh_tree.specs.Trees.{no_part, quoted, parameter}
use Rattle.sh_words.specs.Pieces.{before, found_before, literal}
use Rattle.sh_words.specs.Parameters as form
use Rattle.sh_tree.specs.Views.{part_tree}
use Rattle.sh_words.specs.Words.{done, ReadsPieces, has_ended, passes_on, gives_piece, expands_to}
use Rattle.sh_words.specs.Inner.Built.{expansion_of}
use Rattle.sh_words.proofs.ReadLemmas.{parameter_read, word_read, word_deep, arithmetic_read, arithmetic_deep, ended_read, found_read}
use Rattle.sh_words.proofs.Readings.{passes-less, gives-less, expands-less, expansion-Leaves}
use Rattle.sh_words.proofs.reading.+words.Goals as goal

pub pieces-returns-in-Ends : goal.pieces-returns-in-Ends
pieces-returns-in-Ends t c =
    let l = c.loop-after in
    ended_read (ReadsPieces c.args.most c.args.mode c.args.number c.args.text.now) _ _ l.fault l.next c.in-Ends.after.now
    c.in_ok-parts-in-Ends.ensures (l.invariant.read no_part None l.next c.in-Ends.after.now (has_ended (sym c.in-Ends.ensures)))

pub pieces-loop-after-smaller-in-Passes : goal.pieces-loop-after-smaller-in-Passes
pieces-loop-after-smaller-in-Passes t c =
    let l = c.loop-after in
    let less = passes-less l.at c.in-Passes.inside l.rest.now c.in-Passes.after.now (sym c.in-Passes.ensures) in
    let shorter : length c.in-Passes.after.now < length l.rest.now = less.0 in
    omega arith

pub pieces-loop-after-preserved-in-Passes : goal.pieces-loop-after-preserved-in-Passes
pieces-loop-after-preserved-in-Passes t c =
    let l = c.loop-after in
    let less = passes-less l.at c.in-Passes.inside l.rest.now c.in-Passes.after.now (sym c.in-Passes.ensures) in
    record {
      read = λ word fault number rest reads. l.invariant.read word fault number rest (passes_on (sym c.in-Passes.ensures) reads);
      depth = omega (arith, less.1, l.invariant.depth);
    }

pub pieces-loop-after-smaller-in-Byte : goal.pieces-loop-after-smaller-in-Byte
pieces-loop-after-smaller-in-Byte t c =
    let l = c.loop-after in
    let less = gives-less l.at c.in-Byte.inside l.rest.now c.in-Byte.after.now _ (sym c.in-Byte.ensures) in
    let shorter : length c.in-Byte.after.now < length l.rest.now = less.0 in
    omega arith

pub pieces-loop-after-preserved-in-Byte : goal.pieces-loop-after-preserved-in-Byte
pieces-loop-after-preserved-in-Byte t c =
    let l = c.loop-after in
    let less = gives-less l.at c.in-Byte.inside l.rest.now c.in-Byte.after.now _ (sym c.in-Byte.ensures) in
    record {
      read = λ word fault number rest reads.
          subst (λ w. ReadsPieces c.args.most c.args.mode c.args.number c.args.text.now (done w (option_or l.fault fault) number rest))
          (sym (c.in_ok-push_byte-in-Byte.ensures word))
          (l.invariant.read (before (literal c.in-Byte.quoted (c.in-Byte.byte ∷ [])) word) fault number rest
          (gives_piece (sym c.in-Byte.ensures) reads));
      depth = omega (arith, less.1, l.invariant.depth);
    }

pub pieces-loop-after-smaller-in-Empty : goal.pieces-loop-after-smaller-in-Empty
pieces-loop-after-smaller-in-Empty t c =
    let l = c.loop-after in
    let less = gives-less l.at c.in-Empty.inside l.rest.now c.in-Empty.after.now _ (sym c.in-Empty.ensures) in
    let shorter : length c.in-Empty.after.now < length l.rest.now = less.0 in
    omega arith

pub pieces-loop-after-preserved-in-Empty : goal.pieces-loop-after-preserved-in-Empty
pieces-loop-after-preserved-in-Empty t c =
    let l = c.loop-after in
    let less = gives-less l.at c.in-Empty.inside l.rest.now c.in-Empty.after.now _ (sym c.in-Empty.ensures) in
    record {
      read = λ word fault number rest reads.
          subst (λ w. ReadsPieces c.args.most c.args.mode c.args.number c.args.text.now (done w (option_or l.fault fault) number rest))
          (sym (c.in_ok-push_empty-in-Empty.ensures word))
          (l.invariant.read (before (quoted []) word) fault number rest (gives_piece (sym c.in-Empty.ensures) reads));
      depth = omega (arith, less.1, l.invariant.depth);
    }

pub pieces-loop-after-smaller : goal.pieces-loop-after-smaller
pieces-loop-after-smaller t c =
    let l = c.loop-after in
    let less = expands-less l.at l.rest.now c.in-Expands.after.now c.in-Expands.quoted c.in-Expands.left (sym c.in-Expands.ensures) in
    let within = expansion-Leaves c.in_ok-part-in-Expands.ensures.read in
    let shorter : length c.in_ok-part-in-Expands.field-0.rest.now < length l.rest.now = omega (arith, less.0, less.1, within.1) in
    omega arith

pub pieces-loop-after-preserved : goal.pieces-loop-after-preserved
pieces-loop-after-preserved t c =
    let l = c.loop-after in
    let found = c.in_ok-part-in-Expands.field-0 in
    let less = expands-less l.at l.rest.now c.in-Expands.after.now c.in-Expands.quoted c.in-Expands.left (sym c.in-Expands.ensures) in
    let within = expansion-Leaves c.in_ok-part-in-Expands.ensures.read in
    record {
      read = λ word fault number rest reads.
          found_read (ReadsPieces c.args.most c.args.mode c.args.number c.args.text.now) _ _ _ l.fault found.fault fault number rest
          (c.in_ok-push_found-in-Expands.ensures word) c.or-fault.ensures
          (l.invariant.read (found_before (option_map part_tree found.part) word) (option_or found.fault fault) number rest
          (expands_to (sym c.in-Expands.ensures) c.in_ok-part-in-Expands.ensures.read reads));
      depth = omega (arith, less.0, less.1, within.1, l.invariant.depth);
    }

pub arithmetic-returns-then-most-eq0-clause-read : goal.arithmetic-returns-then-most-eq0-clause-read
arithmetic-returns-then-most-eq0-clause-read t c = λ whole e.
    arithmetic_deep c.args.most c.args.left c.args.number c.args.quoted whole c.args.text.now _ (search rules) e c.no_part.ensures.made

pub with_word-returns-then-most-eq0-clause-read : goal.with_word-returns-then-most-eq0-clause-read
with_word-returns-then-most-eq0-clause-read t c = λ whole e.
    word_deep c.args.most c.args.left c.args.number c.args.quoted whole c.args.text.now c.args.what c.args.operator _ (search rules) e
    c.no_part.ensures.made

pub with_word-returns-clause-read : goal.with_word-returns-clause-read
with_word-returns-clause-read t c = λ whole e.
    word_read c.args.most c.args.left c.args.number c.args.quoted whole c.args.text.now c.args.what c.args.operator c.word_owner-owner.result
    _ _ _ _ _ (λ none. search rules) e c.word_owner-owner.ensures c.in_ok-parts.ensures
    (c.parameter_part.ensures ∙ ap (λ f. parameter c.args.what f c.args.quoted)
    (c.form_with.ensures ∙ ap (form.form_of c.args.operator) c.word_of.ensures))

pub arithmetic-returns-clause-read : goal.arithmetic-returns-clause-read
arithmetic-returns-clause-read t c = λ whole e.
    arithmetic_read c.args.most c.args.left c.args.number c.args.quoted whole c.args.text.now
    _ _ _ _ _ (λ none. search rules) e c.in_ok-parts.ensures c.arithmetic_part.ensures

pub expanded-returns-in-Whole-clause-read : goal.expanded-returns-in-Whole-clause-read
expanded-returns-in-Whole-clause-read t c =
    let found : form.whole c.in-Whole.what c.in-Whole.measured c.in-Whole.rest.now ≡ form.expansion c.args.text.now
    = ap expansion_of (sym c.in-Whole.is) ∙ c.in_ok-what.ensures in
    parameter_read c.args.most c.args.left c.args.number c.args.quoted c.in-Whole.measured c.in-Whole.what c.args.text.now
    c.in-Whole.rest.now (part_tree c.parameter_part.result) found
    (c.parameter_part.ensures ∙ ap (λ f. parameter c.in-Whole.what f c.args.quoted) c.bare_form.ensures)
