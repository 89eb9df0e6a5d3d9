use Rattle.fl_segments.proofs.ChainLemmas.{chained_if, if_ok, led-narrow}
use Rattle.fl_segments.proofs.chains.chain.Goals as goal

pub returns-clause-valid : goal.returns-clause-valid
returns-clause-valid c =
    if_ok c.chain_graph.result
    (chained_if 1 c.chain_graph.result c.args.from c.args.segment.now c.requires.some c.requires.stages c.requires.paths c.chain_graph.ensures.nodes c.chain_graph.ensures.status)
    (λ graph is. is.valid)

pub returns-clause-kinds : goal.returns-clause-kinds
returns-clause-kinds c =
    if_ok c.chain_graph.result
    (chained_if 1 c.chain_graph.result c.args.from c.args.segment.now c.requires.some c.requires.stages c.requires.paths c.chain_graph.ensures.nodes c.chain_graph.ensures.status)
    (λ graph is. is.kinds)

pub returns-clause-reads : goal.returns-clause-reads
returns-clause-reads c =
    if_ok c.chain_graph.result
    (chained_if 1 c.chain_graph.result c.args.from c.args.segment.now c.requires.some c.requires.stages c.requires.paths c.chain_graph.ensures.nodes c.chain_graph.ensures.status)
    (λ graph is. is.reads)

pub returns-clause-writes : goal.returns-clause-writes
returns-clause-writes c =
    if_ok c.chain_graph.result
    (chained_if 1 c.chain_graph.result c.args.from c.args.segment.now c.requires.some c.requires.stages c.requires.paths c.chain_graph.ensures.nodes c.chain_graph.ensures.status)
    (λ graph is. is.writes)

pub returns-clause-input : goal.returns-clause-input
returns-clause-input c =
    if_ok c.chain_graph.result
    (chained_if 1 c.chain_graph.result c.args.from c.args.segment.now c.requires.some c.requires.stages c.requires.paths c.chain_graph.ensures.nodes c.chain_graph.ensures.status)
    (λ graph is. is.input)

pub returns-clause-output : goal.returns-clause-output
returns-clause-output c =
    if_ok c.chain_graph.result
    (chained_if 1 c.chain_graph.result c.args.from c.args.segment.now c.requires.some c.requires.stages c.requires.paths c.chain_graph.ensures.nodes c.chain_graph.ensures.status)
    (λ graph is. is.output)

pub returns-clause-outcome : goal.returns-clause-outcome
returns-clause-outcome c =
    if_ok c.chain_graph.result
    (chained_if 1 c.chain_graph.result c.args.from c.args.segment.now c.requires.some c.requires.stages c.requires.paths c.chain_graph.ensures.nodes c.chain_graph.ensures.status)
    (λ graph is input files. is.outcome input files (led-narrow c.args.segment.now files))

pub returns-clause-used : goal.returns-clause-used
returns-clause-used c =
    if_ok c.chain_graph.result
    (chained_if 1 c.chain_graph.result c.args.from c.args.segment.now c.requires.some c.requires.stages c.requires.paths c.chain_graph.ensures.nodes c.chain_graph.ensures.status)
    (λ graph is. is.used)
