use Rattle.std.proofs.Common.{◌≡◌, ◌++◌, length, map}
use Rattle.ps_fakes.specs.Trees.{entries_of}
use Rattle.ps_fakes.specs.Standing.{all_spell_paths, site_of}
use Rattle.ps_fakes.proofs.standing.sites_of.Given as goal

abbrev pub invariant-loop-left : goal.invariant-loop-left
invariant-loop-left l =
    (all_spell_paths (entries_of l.initial.left) ≡ all_spell_paths (entries_of l.left))
    × (map site_of (entries_of l.initial.left) ≡ l.sites.items ++ map site_of (entries_of l.left))

abbrev pub decreases-loop-left : goal.decreases-loop-left
decreases-loop-left l = length l.left
