use Rattle.std.proofs.Common.{rules, sym, refl, ◌∙◌}
use Rattle.ut_regex.proofs.RunLemmas.{are_bytes}
use Rattle.ut_regex.proofs.StuckLemmas.{stuck-behind}
use Rattle.ut_regex.proofs.table.Table.has.Goals as goal

pub loop-left-init : goal.loop-left-init
loop-left-init c = record {
  same = refl;
  bytes = are_bytes c.args.line.now c.type_inv.line;
}

pub returns-then-entry-stuck : goal.returns-then-entry-stuck
returns-then-entry-stuck c =
    let table = c.args.self.now in
    let l = c.loop-left in
    sym (l.invariant.same ∙ stuck-behind table.next.items table.ends.items table.texts.stuck table.sticks l.state c.entry_of-entry.result l.left.now (search rules) l.invariant.bytes
    (search rules) (search rules) (search rules))
