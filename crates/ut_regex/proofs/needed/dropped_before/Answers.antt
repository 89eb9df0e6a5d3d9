use Rattle.std.proofs.Common.{drop, sym, ap, ◌∙◌}
use Rattle.ut_regex.specs.Tree.{with_node}
use Rattle.ut_regex.proofs.NodeLemmas.{drop-one, drop-two}
use Rattle.ut_regex.proofs.needed.dropped_before.Goals as goal

pub returns-in-Group-clause-same : goal.returns-in-Group-clause-same
returns-in-Group-clause-same c = λ trees.
    drop-one c.args.dropped _ trees c.requires.some ∙ ap (λ node. drop c.args.dropped (with_node trees node)) (sym c.in-Group.is)

pub returns-in-Repetition-clause-same : goal.returns-in-Repetition-clause-same
returns-in-Repetition-clause-same c = λ trees.
    drop-one c.args.dropped _ trees c.requires.some ∙ ap (λ node. drop c.args.dropped (with_node trees node)) (sym c.in-Repetition.is)

pub returns-in-Sequence-clause-same : goal.returns-in-Sequence-clause-same
returns-in-Sequence-clause-same c = λ trees.
    drop-two c.args.dropped _ trees c.requires.some ∙ ap (λ node. drop c.args.dropped (with_node trees node)) (sym c.in-Sequence.is)

pub returns-in-Alternative-clause-same : goal.returns-in-Alternative-clause-same
returns-in-Alternative-clause-same c = λ trees.
    drop-two c.args.dropped _ trees c.requires.some ∙ ap (λ node. drop c.args.dropped (with_node trees node)) (sym c.in-Alternative.is)
