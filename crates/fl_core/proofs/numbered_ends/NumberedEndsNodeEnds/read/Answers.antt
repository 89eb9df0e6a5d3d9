use Rattle.std.proofs.Common.{rules}
use Rattle.fl_core.proofs.RoleLemmas.{reads_some, still_kept}
use Rattle.fl_core.proofs.numbered_ends.NumberedEndsNodeEnds.read.Goals as goal

pub returns-clause-kept : goal.returns-clause-kept
returns-clause-kept g c = record {
  reads = search rules;
  writes = search rules;
  borrows = still_kept c.args.self.now.roles.items c.args.self.now.apart c.args.self.now.ends c.read_end.new.ends c.args.node
      (reads_some c.args.self.now.ends _ c.requires) (search rules) c.read_end.ensures.readers c.read_end.ensures.writers;
}
