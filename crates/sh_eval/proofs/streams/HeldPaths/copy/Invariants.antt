use Rattle.std.proofs.Common.{◌≡◌, take}
use Rattle.sh_eval.proofs.streams.HeldPaths.copy.Given as goal

-- the paths up to this one are copied
abbrev pub invariant-loop-held : goal.invariant-loop-held
invariant-loop-held l = l.paths.items ≡ take l.held-index l.held-items
