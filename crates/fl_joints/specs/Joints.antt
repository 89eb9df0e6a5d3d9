-- The nodes that join and split (own), and what is due of them. The machines keep what is due at each piece.
use Rattle.std.specs.Prelude.{ℕ, zero, suc, ◌+◌, ◌-◌, ◌==◌, nat_lt, List, [], ◌∷◌, ◌++◌, Bool, true, false, get_or, if◌then◌else◌}
use Rattle.ps_lines.specs.Lines.{closing}
use Rattle.ps_lines.specs.declared.newlines.TheConstants.{NEWLINE}
use Rattle.ut_args.specs.declared.invocations.Inv.TheVariants as inv
use Rattle.fl_graph.specs.declared.kinds.NodeKind.{NodeKind}
use Rattle.fl_graph.specs.declared.kinds.NodeKind.TheVariants as kind
use Rattle.ut_grep.specs.Grep.{count_on}
use Rattle.ut_groups.specs.Columns.{counts_on}
use Rattle.ut_groups.specs.Counting.{added, no_counts}
use Rattle.ut_groups.specs.declared.Columns.{Columns}
use Rattle.ut_groups.specs.declared.Counts.{Counts}
use Rattle.fl_classes.specs.Kinds.{is_count, is_from_end}
use Rattle.fl_classes.specs.Parts.{slice, parts_of}
use Rattle.fl_joints.specs.declared.readings.Reading.{Reading}
use Rattle.fl_joints.specs.declared.readings.Reading.TheVariants as reading

-- the node has a joint
abbrev pub is_joint : NodeKind → Bool
is_joint (kind.Cat close) = true
is_joint kind.Drain = true
is_joint kind.Split = true
is_joint (kind.Text text) = true
is_joint (kind.Agg (inv.Wc wc)) = true
is_joint (kind.Agg (inv.Grep grep)) = is_count grep.args.report
is_joint (kind.Agg (inv.Uniq uniq)) = true
is_joint (kind.Agg (inv.Tr tr)) = true
is_joint (kind.Agg (inv.Head head)) = true
is_joint (kind.Agg (inv.Tail tail)) = is_from_end tail.args.part.origin
is_joint (kind.Agg (inv.Sort sort)) = true
is_joint (kind.TeeFile path mode) = true
is_joint other = false

-- the texts at so many ports from one on, joined
abbrev pub joined_from : (ℕ → List ℕ) → ℕ → ℕ → List ℕ
joined_from texts port zero = []
joined_from texts port (suc count) = texts port ++ joined_from texts (port + 1) count

-- the rest of a text, closed, where what came before it ends within a line or doesn't
abbrev pub closing_rest : Bool → List ℕ → List ℕ
closing_rest within [] = if within then NEWLINE ∷ [] else []
closing_rest within (byte ∷ rest) = closing (byte ∷ rest)

-- the texts at so many ports from one on, joined, each but the last closed, where what has come of the first ends within a line or doesn't
abbrev pub joined_lines_from : Bool → (ℕ → List ℕ) → ℕ → ℕ → List ℕ
joined_lines_from within texts port zero = []
joined_lines_from within texts port (suc zero) = texts port
joined_lines_from within texts port (suc (suc count)) = closing_rest within (texts port) ++ joined_lines_from false texts (port + 1) (suc count)

-- these texts, joined in the one way or the other
abbrev pub joined_by : Bool → Bool → (ℕ → List ℕ) → ℕ → ℕ → List ℕ
joined_by close within texts port count = if close then joined_lines_from within texts port count else joined_from texts port count

-- what is left of what a stream gives for these texts: what waits, and what it owes for those that are still to come
abbrev pub gathered_on : List ℕ → (List ℕ → List ℕ) → Bool → Bool → (ℕ → List ℕ) → ℕ → ℕ → ℕ → List ℕ
gathered_on waiting due close within texts at ins port =
    if port == 0 then waiting ++ (if nat_lt at ins then due (joined_by close within texts at (ins - at)) else []) else []

-- the columns of a sum of counts; the count of grep has the place of that of lines
abbrev pub columns_by : Reading → Columns
columns_by (reading.OfWc columns) = columns
columns_by reading.OfGrep = record { lines = true; words = false; bytes = false }

-- the counts that a text has
abbrev pub counts_by : Reading → List ℕ → Counts
counts_by (reading.OfWc columns) text = counts_on columns text
counts_by reading.OfGrep text = record { lines = count_on text; words = 0; bytes = 0 }

-- the sums of the counts of the texts at so many ports from one on, where this of the first has come
abbrev pub counts_from : Reading → List ℕ → (ℕ → List ℕ) → ℕ → ℕ → Counts
counts_from of come texts port zero = no_counts
counts_from of come texts port (suc count) = added (counts_by of (come ++ texts port)) (counts_from of [] texts (port + 1) count)

-- what is left of the parts of a text, where this one is put and the text is given up to a place: of it the rest, and those behind
abbrev pub parts_left : List ℕ → ℕ → ℕ → ℕ → ℕ → ℕ → List ℕ
parts_left text parts part given end other =
    if nat_lt part other then get_or (parts_of text parts) other [] else if other == part then slice text given end else []

-- what is left for an out, of so many, of a text that each of them gets: outs with lower numbers than the first have the piece that is held
abbrev pub left_for : ℕ → ℕ → List ℕ → List ℕ → ℕ → List ℕ
left_for outs first held rest out = if nat_lt out outs then (if nat_lt out first then rest else held ++ rest) else []
