use Rattle.std.proofs.Common.{rules, ◌<◌, arith, slice_index, take}
use Rattle.std.proofs.lemmas.Bool.{ne_eqb}
use Rattle.ut_regex.specs.declared.table.TheConstants.{FOUND}
use Rattle.ut_regex.proofs.TextLemmas.{goes-known, goes-on-at}
use Rattle.ut_regex.proofs.texts.run_over_four.Goals as goal

pub loop-at-preserved : goal.loop-at-preserved
loop-at-preserved c =
    let entries = c.args.next.now in
    let l = c.loop-at in
    let low : l.at < c.min-count.result = c.loop-at-test.true in
    record {
      first = goes-on-at entries c.args.first.now c.min-count.result l.at l.first_state c.known_entry-first_entry.result low (search rules) l.invariant.first
          c.known_entry-first_entry.ensures (ne_eqb c.known_entry-first_entry.result FOUND c.if-first_entry.false);
      second = goes-on-at entries c.args.second.now c.min-count.result l.at l.second_state c.known_entry-second_entry.result low (search rules) l.invariant.second
          c.known_entry-second_entry.ensures (ne_eqb c.known_entry-second_entry.result FOUND c.if-second_entry.false);
      third = goes-on-at entries c.args.third.now c.min-count.result l.at l.third_state c.known_entry-third_entry.result low (search rules) l.invariant.third
          c.known_entry-third_entry.ensures (ne_eqb c.known_entry-third_entry.result FOUND c.if-third_entry.false);
      fourth = goes-on-at entries c.args.fourth.now c.min-count.result l.at l.fourth_state c.known_entry-fourth_entry.result low (search rules) l.invariant.fourth
          c.known_entry-fourth_entry.ensures (ne_eqb c.known_entry-fourth_entry.result FOUND c.if-fourth_entry.false);
      first_known = goes-known entries c.requires l.first_state (slice_index (take c.min-count.result c.args.first.now) l.at) c.known_entry-first_entry.result
          (let small = c.type_inv.first_front l.at in omega arith) l.invariant.first_known c.known_entry-first_entry.ensures
          (ne_eqb c.known_entry-first_entry.result FOUND c.if-first_entry.false);
      second_known = goes-known entries c.requires l.second_state (slice_index (take c.min-count.result c.args.second.now) l.at) c.known_entry-second_entry.result
          (let small = c.type_inv.second_front l.at in omega arith) l.invariant.second_known c.known_entry-second_entry.ensures
          (ne_eqb c.known_entry-second_entry.result FOUND c.if-second_entry.false);
      third_known = goes-known entries c.requires l.third_state (slice_index (take c.min-count.result c.args.third.now) l.at) c.known_entry-third_entry.result
          (let small = c.type_inv.third_front l.at in omega arith) l.invariant.third_known c.known_entry-third_entry.ensures
          (ne_eqb c.known_entry-third_entry.result FOUND c.if-third_entry.false);
      fourth_known = goes-known entries c.requires l.fourth_state (slice_index (take c.min-count.result c.args.fourth.now) l.at) c.known_entry-fourth_entry.result
          (let small = c.type_inv.fourth_front l.at in omega arith) l.invariant.fourth_known c.known_entry-fourth_entry.ensures
          (ne_eqb c.known_entry-fourth_entry.result FOUND c.if-fourth_entry.false);
      within = omega (arith, low);
    }
