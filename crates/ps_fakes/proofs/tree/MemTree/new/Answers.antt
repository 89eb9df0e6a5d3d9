use Rattle.ps_fakes.specs.Trees.{entries_of}
use Rattle.ps_fakes.proofs.SettledLemmas.{no_writer_out}
use Rattle.ps_fakes.proofs.tree.MemTree.new.Goals as goal

pub returns-clause-settled : goal.returns-clause-settled
returns-clause-settled c =
    no_writer_out c.in_ok-stored.stored.items c.in_ok-folders.folders.items c.append.new.self.items (entries_of c.args.entries.items) c.in_ok-home.home
    c.in_ok-append.ensures.items c.in_ok-stored.ensures (rw c.as_slice.ensures.value at c.in_ok-folders.ensures)
