-- What a frame gives an expansion, besides the variables.
use Rattle.ps_lines.specs.Texts.{texts_of}
use Rattle.sh_expand.specs.declared.frames.Frame.{Frame}
use Rattle.sh_expand.specs.Given.{Given}

abbrev pub frame_given : Frame → Given
frame_given frame = record { zero = frame.zero.now; arguments = texts_of frame.args.now; status = frame.status; substitutions = texts_of frame.subs.now }
