use Rattle.std.proofs.Common.{rules}
use Rattle.ps_lines.proofs.SeekLemmas.{first_of_front}
use Rattle.ps_lines.proofs.seek.up_to_newline_ahead.Goals as goal

pub returns-in-Some : goal.returns-in-Some
returns-in-Some c place found = first_of_front c.args.text.now 320 (search rules) (search rules) place found
