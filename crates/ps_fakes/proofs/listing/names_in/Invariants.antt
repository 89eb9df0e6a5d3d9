use Rattle.std.proofs.Common.{◌≡◌, [], IsTrue, length}
use Rattle.std.specs.List.{list_all}
use Rattle.ps_lines.specs.Texts.{texts_of}
use Rattle.ps_world.specs.Paths.{is_name}
use Rattle.ps_fakes.specs.Listing.{with_names}
use Rattle.ps_fakes.proofs.listing.names_in.Given as goal

abbrev pub invariant-loop-left : goal.invariant-loop-left
invariant-loop-left l = record {
  names : with_names l.dir [] l.initial.left ≡ with_names l.dir (texts_of l.names.items) l.left;
  each : IsTrue (list_all is_name (texts_of l.names.items));
}

abbrev pub decreases-loop-left : goal.decreases-loop-left
decreases-loop-left l = length l.left
