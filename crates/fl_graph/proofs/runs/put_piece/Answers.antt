use Rattle.fl_graph.proofs.StateLemmas.{put_is_plain, put_is_sound, put_run}
use Rattle.fl_graph.proofs.runs.put_piece.Goals as goal

pub returns-clause-run : goal.returns-clause-run
returns-clause-run g c start taken put failed run =
    put_run start (g.M.Machine.state c.args.machine.now) (g.M.Machine.state c.put.new.self) taken put failed c.put.result c.requires.turn c.requires.may
    c.put.ensures.takes c.put.ensures.puts c.put.ensures.numbered_ins c.put.ensures.numbered_outs c.put.ensures.put c.put.ensures.selects c.put.ensures.broken c.put.ensures.memory run

pub returns-clause-plain : goal.returns-clause-plain
returns-clause-plain g c = put_is_plain (g.M.Machine.state c.args.machine.now) (g.M.Machine.state c.put.new.self) c.put.result c.put.ensures.put

pub returns-clause-sound : goal.returns-clause-sound
returns-clause-sound g c = put_is_sound (g.M.Machine.state c.args.machine.now) (g.M.Machine.state c.put.new.self) c.put.result c.put.ensures.put
