use Rattle.std.proofs.Common.{refl, ap}
use Rattle.ut_regex.specs.Answers.{answered}
use Rattle.ut_regex.proofs.cache.Cache.has.Goals as goal

pub loop-left-init : goal.loop-left-init
loop-left-init c =
    let m = c.args.machine.now in
    let serves = c.make_room.ensures m.steps.items m.fold m.whole c.requires.serves in
    record {
      known = c.make_room.new.self.some;
      serves = serves;
      same = record { steps = refl; fold = refl; whole = refl };
      told = ap (λ s. answered m.steps.items m.fold m.whole s c.args.line.now) serves.first;
    }
