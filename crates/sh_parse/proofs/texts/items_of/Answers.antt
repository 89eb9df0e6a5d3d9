use Rattle.std.proofs.Common.{[], sym}
use Rattle.std.proofs.lemmas.List.{append-nil}
use Rattle.sh_parse.proofs.texts.items_of.Goals as goal

pub loop-last-init : goal.loop-last-init
loop-last-init c = record {
  passed = [];
  whole = sym (append-nil c.args.marks.now);
  known = c.nothing-behind.ensures c.args.text.now;
}
