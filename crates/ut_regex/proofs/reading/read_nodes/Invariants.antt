use Rattle.std.proofs.Common.{◌≡◌, ◌+◌, ◌≤◌, List, length}
use Rattle.ut_regex.specs.declared.fault.ReFault.{ReFault}
use Rattle.ut_regex.specs.declared.pieces.Piece.{Piece}
use Rattle.ut_regex.specs.declared.pieces.Before.TheVariants as before
use Rattle.ut_regex.specs.Inner.Building.{built, start, grown_by}
use Rattle.ut_regex.specs.Reading.{IsExpression, HasFault, Faults}
use Rattle.ut_regex.proofs.reading.read_nodes.Given as goal

abbrev pub invariant-pieces : goal.invariant-pieces
invariant-pieces l = record {
  read : (pieces : List Piece) → IsExpression l.basic l.before l.depth l.left pieces
      → (whole : List Piece) × IsExpression l.basic before.Start 0 l.text whole × (grown_by whole start ≡ grown_by pieces (built l.builder));
  fault : (fault : ReFault) → HasFault l.basic l.before l.depth l.left fault → Faults l.basic l.text fault;
  shallow : l.depth + length l.left ≤ length l.text;
}

abbrev pub decreases-pieces : goal.decreases-pieces
decreases-pieces l = length l.left
