use Rattle.std.proofs.Common.{rules}
use Rattle.fl_net.specs.Inputs.{input_of}
use Rattle.fl_net.proofs.LoadLemmas.{nodes_loaded, nodes_loaded_more}
use Rattle.fl_net.proofs.inputs.load.Goals as goal

pub loop-node-preserved : goal.loop-node-preserved
loop-node-preserved c = (
  search rules,
  nodes_loaded_more c.args.nodes.now (input_of c.args.inputs.now) c.args.edges c.loop-node.node c.index-nodes-node.result c.loop-node.wires c.index-wires-edges.result c.load_node.new.wire
      c.input_of-text.result.now c.requires.counted (search rules) c.index-nodes-node.is (search rules) c.index-wires-edges.is (search rules) c.loop-node.invariant.1
      c.in_ok-load_node.ensures.source c.load_node.ensures.other,
)

pub returns-clause-loaded : goal.returns-clause-loaded
returns-clause-loaded c = nodes_loaded c.args.nodes.now (input_of c.args.inputs.now) c.loop-node.node c.loop-node.wires (search rules) c.loop-node.invariant.1
