use Rattle.ps_world.proofs.TreeStateLemmas.{balanced-around, balanced-more, balanced-none, balanced-only_lent, balanced-written, out-lend, out-take_back}
use Rattle.ps_world.proofs.laws.what_is_lent_comes_back.Goals as goal

pub returns-clause-none : goal.returns-clause-none
returns-clause-none c state = balanced-none state

pub returns-clause-more : goal.returns-clause-more
returns-clause-more c old mid new first second = balanced-more old mid new first second

pub returns-clause-readers : goal.returns-clause-readers
returns-clause-readers c old new only = balanced-only_lent old new only

pub returns-clause-reader : goal.returns-clause-reader
returns-clause-reader c old mid inner = balanced-around old mid inner

pub returns-clause-writer : goal.returns-clause-writer
returns-clause-writer c old mid new path taken inner filled = balanced-written old mid new path taken inner filled

pub returns-clause-lend : goal.returns-clause-lend
returns-clause-lend c count old new out = out-lend count old new out

pub returns-clause-back : goal.returns-clause-back
returns-clause-back c count old new out = out-take_back count old new out
