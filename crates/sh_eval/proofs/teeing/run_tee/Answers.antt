use Rattle.std.proofs.Common.{None}
use Rattle.sh_eval.specs.Contract.{drawn_of, seen_of}
use Rattle.sh_eval.specs.Inner.Inputs.{called_by}
use Rattle.sh_eval.specs.Teeing.{tells_and_copies}
use Rattle.sh_eval.proofs.TeeingSteps.{sound-begun, tees-failed, tees-so}
use Rattle.sh_eval.proofs.teeing.run_tee.Goals as goal

pub tell_and_copy-requires-clause-sound : goal.tell_and_copy-requires-clause-sound
tell_and_copy-requires-clause-sound g c κs within =
    sound-begun _ _ (tells_and_copies (called_by c.args.inv.now)) c.args.shell.now c.args.session.now (g.T.Tree.state c.args.tree.now) (g.T.Tree.state c.begin_all.new.tree) (seen_of (drawn_of None None) None None) 0 0 0 _ _ c.in-Ok.ensures.begins c.in-Ok.ensures.calm c.requires.sound

pub returns-in-Ok : goal.returns-in-Ok
returns-in-Ok g c =
    tees-so c.args.name.now (called_by c.args.inv.now) _ _ _ _ _ (g.T.Tree.state c.args.tree.now) (g.T.Tree.state c.begin_all.new.tree) _ _ _ _ _ _ _ _ c.begins_anew.ensures c.files_written.ensures c.in-Ok.ensures.begins
    c.in-Ok.ensures.calm c.tell_and_copy.ensures

pub returns-in-Err : goal.returns-in-Err
returns-in-Err g c = tees-failed c.args.name.now (called_by c.args.inv.now) _ _ _ _ (g.T.Tree.state c.args.tree.now) (g.T.Tree.state c.begin_all.new.tree) _ _ _ _ _ _ _ c.begins_anew.ensures c.files_written.ensures
    c.in-Err.ensures.err
