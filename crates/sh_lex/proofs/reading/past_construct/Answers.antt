use Rattle.std.proofs.Common.{◌<◌, ◌≤◌, length, sym, subst, arith}
use Rattle.sh_lex.specs.Reads.{past, refused, goes_on, has_ended, offended}
use Rattle.sh_lex.proofs.Stacks.{AllGoOn, AllGoOn-split, AllGoOn-join, AllGoOn-refused, AllGoOn-none, entered, goes-less, enters-less, ends-less}
use Rattle.sh_lex.proofs.reading.past_construct.Goals as goal

pub loop-next-smaller-in-Goes : goal.loop-next-smaller-in-Goes
loop-next-smaller-in-Goes c =
    let l = c.loop-next in
    let less : length c.in-Goes.after.now < length l.rest.now
    = goes-less l.part c.in-Goes.next l.rest.now c.in-Goes.after.now c.in-Goes.ensures in
    omega arith

pub loop-next-preserved-in-Goes : goal.loop-next-preserved-in-Goes
loop-next-preserved-in-Goes c = λ inner end reads all. c.loop-next.invariant inner end (goes_on (sym c.in-Goes.ensures) reads) all

pub loop-next-smaller-in-Enters : goal.loop-next-smaller-in-Enters
loop-next-smaller-in-Enters c =
    let l = c.loop-next in
    let less : length c.in-Enters.after.now < length l.rest.now
    = enters-less l.part c.in-Enters.inner c.in-Enters.outer l.rest.now c.in-Enters.after.now c.in-Enters.ensures in
    omega (arith, c.in-Ok.ensures.len)

pub loop-next-preserved-in-Enters : goal.loop-next-preserved-in-Enters
loop-next-preserved-in-Enters c =
    let l = c.loop-next in
    λ inner end reads all.
    let found = AllGoOn-split l.open.items c.in-Enters.outer inner end
    (subst (λ «open». AllGoOn «open» inner end) c.in-Ok.ensures.items all) in
    l.invariant found.0 end
    (entered l.part c.in-Enters.inner c.in-Enters.outer l.rest.now c.in-Enters.after.now inner found.0
    (sym c.in-Enters.ensures) reads found.1.0) found.1.1

pub loop-next-smaller : goal.loop-next-smaller
loop-next-smaller c =
    let l = c.loop-next in
    let less : length c.in-Ends.after.now ≤ length l.rest.now
    = ends-less l.part l.rest.now c.in-Ends.after.now c.in-Ends.ensures in
    omega (arith, c.in-Some.ensures.cases)

pub loop-next-preserved : goal.loop-next-preserved
loop-next-preserved c =
    let l = c.loop-next in
    λ inner end reads all.
    l.invariant (past c.in-Ends.after.now) end (has_ended (sym c.in-Ends.ensures))
    (subst (λ «open». AllGoOn «open» (past c.in-Ends.after.now) end) (sym c.in-Some.ensures.items)
    (AllGoOn-join c.pop.new.self.items c.in-Some.outer (past c.in-Ends.after.now) inner end reads all))

pub returns-in-None-clause-past : goal.returns-in-None-clause-past
returns-in-None-clause-past c =
    let l = c.loop-next in
    l.invariant (past c.in-Ends.after.now) (past c.in-Ends.after.now) (has_ended (sym c.in-Ends.ensures))
    (AllGoOn-none l.open.items (past c.in-Ends.after.now) (omega (arith, c.in-None.ensures.cases, l.open.ok.0)))

pub returns-in-Offends-clause-refused : goal.returns-in-Offends-clause-refused
returns-in-Offends-clause-refused c =
    let l = c.loop-next in
    l.invariant (refused c.in-Offends.fault) (refused c.in-Offends.fault) (offended (sym c.in-Offends.ensures))
    (AllGoOn-refused l.open.items c.in-Offends.fault)
