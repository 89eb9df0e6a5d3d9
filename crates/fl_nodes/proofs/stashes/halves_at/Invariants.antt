use Rattle.std.proofs.Common.{◌≡◌, Some, map, take, drop}
use Rattle.fl_nodes.specs.Stashes.{half_of, has_each, without_all}
use Rattle.fl_nodes.proofs.stashes.halves_at.Given as goal

abbrev pub invariant-loop-place : goal.invariant-loop-place
invariant-loop-place g l = record {
  halves : map Some l.halves.items ≡ map (half_of l.initial.stash.items) (take l.place l.edges);
  gone : l.stash.items ≡ without_all l.initial.stash.items (take l.place l.edges);
  there : has_each l.initial.stash.items l.edges ≡ has_each l.stash.items (drop l.place l.edges);
}
