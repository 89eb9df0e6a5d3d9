-- How the readers of a path give their bytes.
use Rattle.std.specs.Prelude.{◌-◌, ◌^◌, List, [], ◌∷◌, if◌then◌else◌, nat_eq, None}
use Rattle.std.specs.Cmp.Lexicographic.{pointwise}
use Rattle.ps_world.specs.Paths.{Components}
use Rattle.ps_fakes.specs.declared.reads.Reads.{Reads}
use Rattle.ps_fakes.specs.declared.reads.ReadPlan.{ReadPlan}

-- a reader that nothing was planned for gives what there is room for, and doesn't fail
abbrev pub plain_reads : Reads
plain_reads = record { most = 2 ^ 64 - 1; fail_at = None }

-- the first plan of a path counts
abbrev pub reads_at : List ReadPlan → Components → Reads
reads_at [] path = plain_reads
reads_at (plan ∷ plans) path = if pointwise (pointwise nat_eq) path plan.path then plan.reads else reads_at plans path
