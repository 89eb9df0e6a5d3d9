use Rattle.std.proofs.Common.{rules}
use Rattle.fl_rewrites.proofs.MarkLemmas.{passes_so}
use Rattle.fl_rewrites.proofs.known.pass_roots.Goals as goal

pub returns-clause-roots : goal.returns-clause-roots
returns-clause-roots c =
    passes_so c.args.node.now c.set_roots.new.table.items c.args.table.now.items c.as_slice-3.result.now c.as_slice-2.result.now c.as_slice-4.result.now c.root_in-root.result c.first_of-first.result
    c.set_roots.ensures.roots c.as_slice-4.ensures c.root_in-root.ensures c.as_slice-3.ensures.value c.first_of-first.ensures c.as_slice-2.ensures (search rules) (search rules)
