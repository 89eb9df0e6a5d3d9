use Rattle.std.proofs.Common.{◌<◌, ◌≤◌, length, sym, rules, arith}
use Rattle.sh_lex.proofs.Stacks.{goes-less, enters-less, ends-less}
use Rattle.sh_words.proofs.ExtentLemmas.{Holds-goes, Holds-enters, Holds-ends}
use Rattle.sh_words.proofs.substitutions.extents_of.Goals as goal

pub loop-next-smaller-in-Goes : goal.loop-next-smaller-in-Goes
loop-next-smaller-in-Goes c =
    let l = c.loop-next in
    let less : length c.in-Goes.after.now < length l.rest.now
    = goes-less l.part c.in-Goes.next l.rest.now c.in-Goes.after.now c.in-Goes.ensures in
    omega arith

pub loop-next-preserved-in-Goes : goal.loop-next-preserved-in-Goes
loop-next-preserved-in-Goes c =
    let l = c.loop-next in Holds-goes _ l.part c.in-Goes.next l.rest.now c.in-Goes.after.now (sym c.in-Goes.ensures) l.invariant

pub loop-next-smaller-in-Enters : goal.loop-next-smaller-in-Enters
loop-next-smaller-in-Enters c =
    let l = c.loop-next in
    let less : length c.in-Enters.after.now < length l.rest.now
    = enters-less l.part c.in-Enters.inner c.in-Enters.outer l.rest.now c.in-Enters.after.now c.in-Enters.ensures in
    omega (arith, c.in_ok-push-in-Enters.ensures.len)

pub loop-next-preserved-in-Enters : goal.loop-next-preserved-in-Enters
loop-next-preserved-in-Enters c =
    let l = c.loop-next in
    Holds-enters l.«open».items c.push.new.self.items (record { outer = c.in-Enters.outer; inner = c.in-Enters.inner; text = c.in-Enters.after })
    l.part l.rest.now (sym c.in-Enters.ensures) c.in_ok-push-in-Enters.ensures.items l.invariant

pub extent_of-requires : goal.extent_of-requires
extent_of-requires c =
    let l = c.loop-next in
    (Holds-ends l.«open».items c.pop.new.self.items c.in-Some.opened l.part l.rest.now c.in-Ends.after.now (sym c.in-Ends.ensures)
    c.in-Some.ensures.items l.invariant).read

pub loop-next-smaller-in_ok-push-in-Ends : goal.loop-next-smaller-in_ok-push-in-Ends
loop-next-smaller-in_ok-push-in-Ends c =
    let l = c.loop-next in
    let less : length c.in-Ends.after.now ≤ length l.rest.now
    = ends-less l.part l.rest.now c.in-Ends.after.now c.in-Ends.ensures in
    omega (arith, c.in-Some.ensures.cases)

pub loop-next-preserved-in_ok-push-in-Ends : goal.loop-next-preserved-in_ok-push-in-Ends
loop-next-preserved-in_ok-push-in-Ends c =
    let l = c.loop-next in
    (Holds-ends l.«open».items c.pop.new.self.items c.in-Some.opened l.part l.rest.now c.in-Ends.after.now (sym c.in-Ends.ensures)
    c.in-Some.ensures.items l.invariant).around

pub loop-next-smaller : goal.loop-next-smaller
loop-next-smaller c =
    let l = c.loop-next in
    let less : length c.in-Ends.after.now ≤ length l.rest.now
    = ends-less l.part l.rest.now c.in-Ends.after.now c.in-Ends.ensures in
    omega (arith, c.in-Some.ensures.cases)

pub loop-next-preserved : goal.loop-next-preserved
loop-next-preserved c =
    let l = c.loop-next in
    (Holds-ends l.«open».items c.pop.new.self.items c.in-Some.opened l.part l.rest.now c.in-Ends.after.now (sym c.in-Ends.ensures)
    c.in-Some.ensures.items l.invariant).around
