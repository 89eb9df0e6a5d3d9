use Rattle.std.proofs.Common.{◌<◌, ◌≤◌, [], ◌∷◌, ◌++◌, length, map, sym, ◌∙◌, ap, subst, arith}
use Rattle.sh_lex.specs.Lexes.{one_word}
use Rattle.sh_lex.specs.Marks.{opening}
use Rattle.sh_lex.specs.Reads.{past, refused, goes_on, has_ended, offended}
use Rattle.sh_lex.proofs.Markings.{outer_part, ahead_on, ahead_inner, ahead_end, ahead_done, outer_parts_last}
use Rattle.sh_lex.proofs.Stacks.{AllGoOn, AllGoOn-split, AllGoOn-join, AllGoOn-refused, entered, goes-less, enters-less, ends-less}
use Rattle.sh_lex.proofs.lexing.marks.walk.Goals as goal

pub loop-more-smaller-in-Goes : goal.loop-more-smaller-in-Goes
loop-more-smaller-in-Goes c =
    let l = c.loop-more in
    let less : length c.in-Goes.after.now < length l.rest.now
    = goes-less l.part c.in-Goes.next l.rest.now c.in-Goes.after.now c.in-Goes.ensures in
    omega arith

pub loop-more-preserved-in-Goes : goal.loop-more-preserved-in-Goes
loop-more-preserved-in-Goes c =
    let l = c.loop-more in record {
      marked =
          ahead_on c.args.total one_word c.args.text.now l.marks.items l.part l.rest.now l.open.items c.in-Goes.next c.in-Goes.after.now
          l.invariant.marked (sym c.in-Goes.ensures) c.in-Ok.more.items c.in-Ok.ensures.marks;
      reads = λ inner end reads all. l.invariant.reads inner end (goes_on (sym c.in-Goes.ensures) reads) all;
    }

pub loop-more-smaller-in-Enters : goal.loop-more-smaller-in-Enters
loop-more-smaller-in-Enters c =
    let l = c.loop-more in
    let less : length c.in-Enters.after.now < length l.rest.now
    = enters-less l.part c.in-Enters.inner c.in-Enters.outer l.rest.now c.in-Enters.after.now c.in-Enters.ensures in
    omega (arith, c.in-Ok-push.ensures.len)

pub loop-more-preserved-in-Enters : goal.loop-more-preserved-in-Enters
loop-more-preserved-in-Enters c =
    let l = c.loop-more in record {
      marked =
          ahead_inner c.args.total one_word c.args.text.now l.marks.items l.part l.rest.now l.open.items c.in-Enters.inner c.in-Enters.outer
          c.in-Enters.after.now l.invariant.marked (sym c.in-Enters.ensures) c.in-Ok.more.items c.in-Ok-with_mark.more.items
          c.in-Ok.ensures.marks
          (c.in-Ok-with_mark.ensures.marks ∙ ap (λ x. c.in-Ok.more.items ++ x)
          (c.opening.ensures ∙ ap (opening c.args.total l.rest.now c.in-Enters.after.now) c.entry_of-entry.ensures))
          c.push.new.self.items
          (c.in-Ok-push.ensures.items ∙ ap (λ x. l.open.items ++ (x, c.in-Enters.outer) ∷ []) c.entry_of-entry.ensures);
      reads =
          λ inner end reads all.
          let found = AllGoOn-split (map outer_part l.open.items) c.in-Enters.outer inner end
          (subst (λ «open». AllGoOn «open» inner end)
          (outer_parts_last c.push.new.self.items l.open.items (c.entry_of-entry.result, c.in-Enters.outer) c.in-Ok-push.ensures.items) all) in
          l.invariant.reads found.0 end
          (entered l.part c.in-Enters.inner c.in-Enters.outer l.rest.now c.in-Enters.after.now inner found.0
          (sym c.in-Enters.ensures) reads found.1.0) found.1.1;
    }

pub loop-more-smaller : goal.loop-more-smaller
loop-more-smaller c =
    let l = c.loop-more in
    let less : length c.in-Ends.after.now ≤ length l.rest.now
    = ends-less l.part l.rest.now c.in-Ends.after.now c.in-Ends.ensures in
    omega (arith, c.in-Some.ensures.cases)

pub loop-more-preserved : goal.loop-more-preserved
loop-more-preserved c =
    let l = c.loop-more in record {
      marked =
          ahead_end c.args.total one_word c.args.text.now l.marks.items l.part l.rest.now l.open.items c.in-Some.outer c.in-Some.entry
          c.in-Ends.after.now l.invariant.marked (sym c.in-Ends.ensures) c.in-Ok.more.items c.in-Ok-with_mark-2.more.items
          c.in-Ok.ensures.marks
          (c.in-Ok-with_mark-2.ensures.marks ∙ ap (λ x. c.in-Ok.more.items ++ x) c.closing.ensures)
          c.pop.new.self.items c.in-Some.ensures.items;
      reads =
          λ inner end reads all.
          l.invariant.reads (past c.in-Ends.after.now) end (has_ended (sym c.in-Ends.ensures))
          (subst (λ «open». AllGoOn «open» (past c.in-Ends.after.now) end)
          (sym (outer_parts_last l.open.items c.pop.new.self.items (c.in-Some.entry, c.in-Some.outer) c.in-Some.ensures.items))
          (AllGoOn-join (map outer_part c.pop.new.self.items) c.in-Some.outer (past c.in-Ends.after.now) inner end reads all));
    }

pub returns-in-None-clause-marked : goal.returns-in-None-clause-marked
returns-in-None-clause-marked c =
    let l = c.loop-more in
    ahead_done c.args.total one_word c.args.text.now l.marks.items l.part l.rest.now l.open.items c.in-Ends.after.now l.invariant.marked
    (sym c.in-Ends.ensures) (omega (arith, c.in-None.ensures.cases, l.open.ok.0)) c.in-Ok.more.items c.in-Ok.ensures.marks

pub returns-in-Offends-clause-refused : goal.returns-in-Offends-clause-refused
returns-in-Offends-clause-refused c =
    let l = c.loop-more in
    l.invariant.reads (refused c.in-Offends.fault) (refused c.in-Offends.fault) (offended (sym c.in-Offends.ensures))
    (AllGoOn-refused (map outer_part l.open.items) c.in-Offends.fault)
