use Rattle.std.proofs.Common.{◌≡◌, ◌≤◌, ◌++◌, drop, length, map, take}
use Rattle.fl_core.specs.EndLists.{has_file, numbers_of, numbers_where}
use Rattle.fl_engines.proofs.own_ends.number_entries.Given as goal

abbrev pub invariant-loop-number : goal.invariant-loop-number
invariant-loop-number g l =
    (map (λ entry. entry.1) l.entries ≡ map (λ entry. entry.1) l.initial.entries) × (l.place ≤ length l.entries)
    × (numbers_of (take l.place l.entries) ++ numbers_where (has_file l.written) l.number (drop l.number l.nodes) ≡ numbers_where (has_file l.written) 0 l.nodes)
