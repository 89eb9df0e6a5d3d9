use Rattle.std.proofs.Common.{rules}
use Rattle.fl_core.proofs.RoleLemmas.{still_kept, writes_some}
use Rattle.fl_core.proofs.numbered_ends.NumberedEndsNodeEnds.write_all.Goals as goal

pub returns-clause-kept : goal.returns-clause-kept
returns-clause-kept g c = record {
  reads = search rules;
  writes = search rules;
  borrows = still_kept c.args.self.now.roles.items c.args.self.now.apart c.args.self.now.ends c.write_end.new.ends c.args.node
      (writes_some c.args.self.now.ends _ c.requires) (search rules) c.write_end.ensures.readers c.write_end.ensures.writers;
}
