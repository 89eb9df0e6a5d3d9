use Rattle.std.proofs.Common.{◌≡◌, ◌++◌, length}
use Rattle.sh_expand.specs.Splitting.{split, split_behind, fields_of, spliced, IsHeld}
use Rattle.sh_expand.proofs.splitting.split.Given as goal

-- the fields so far, and those to come, of which the first goes on with the field that has begun
abbrev pub invariant-loop-mark : goal.invariant-loop-mark
invariant-loop-mark l = record {
  fields : fields_of l.fields.items ++ spliced l.field.items (split_behind l.ifs l.before l.left) ≡ split l.ifs l.marks;
  held : IsHeld l.before l.field.items;
}

abbrev pub decreases-loop-mark : goal.decreases-loop-mark
decreases-loop-mark l = length l.left
