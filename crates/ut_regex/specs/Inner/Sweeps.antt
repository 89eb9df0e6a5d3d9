-- The two sweeps of a matcher over its steps: up, which finds the parts that close at a place, and back, which sets the
-- marks behind the next byte. Each keeps what it needs on stacks of bits, of which the last bit comes first.
use Rattle.std.specs.Prelude.{ℕ, Bool, true, false, ◌&&◌, ◌||◌, List, [], ◌∷◌}
use Rattle.ut_regex.specs.declared.program.Op.{Op}
use Rattle.ut_regex.specs.declared.program.Op.TheVariants as op
use Rattle.ut_regex.specs.Spans.{fits}

-- the top of a stack, which is false where there is none
abbrev pub top : List Bool → Bool
top [] = false
top (bit ∷ bits) = bit

-- what is below the top
abbrev pub below : List Bool → List Bool
below [] = []
below (bit ∷ bits) = bits

-- what the sweep up holds: whether each open part skips and closes, the marks that are left, and what is kept for the way back
pub record Rising : Type 0 where
  pub values : List Bool
  pub marks : List Bool
  pub kept : List Bool

-- a step of the sweep up, at a place that is or isn't the line's beginning and end
abbrev pub rise : Bool → Bool → Op → Rising → Rising
rise begins ends (op.Point one) s = record { values = false ∷ top s.marks ∷ s.values; marks = below s.marks; kept = s.kept }
rise begins ends op.Begin s = record { values = begins ∷ false ∷ s.values; marks = s.marks; kept = s.kept }
rise begins ends op.End s = record { values = ends ∷ false ∷ s.values; marks = s.marks; kept = s.kept }
rise begins ends op.Empty s = record { values = true ∷ false ∷ s.values; marks = s.marks; kept = s.kept }
rise begins ends op.Both s = record {
  values = (top (below (below s.values)) && top s.values)
      ∷ (top (below s.values) || (top s.values && top (below (below (below s.values))))) ∷ below (below (below (below s.values)));
  marks = s.marks;
  kept = top (below (below s.values)) ∷ top (below (below (below s.values))) ∷ s.kept;
}
rise begins ends op.Either s = record {
  values = (top (below (below s.values)) || top s.values)
      ∷ (top (below (below (below s.values))) || top (below s.values)) ∷ below (below (below (below s.values)));
  marks = s.marks;
  kept = s.kept;
}
rise begins ends op.Many s = record {
  values = true ∷ top (below s.values) ∷ below (below s.values);
  marks = s.marks;
  kept = top (below s.values) ∷ s.kept;
}
rise begins ends op.Maybe s = record { values = true ∷ below s.values; marks = s.marks; kept = s.kept }

-- the whole sweep up
abbrev pub risen : Bool → Bool → List Op → Rising → Rising
risen begins ends [] s = s
risen begins ends (first ∷ steps) s = risen begins ends steps (rise begins ends first s)

-- what the sweep back holds: whether each part that is still to come is entered, what was kept, and the new marks
pub record Sinking : Type 0 where
  pub entries : List Bool
  pub kept : List Bool
  pub marks : List Bool

-- a step of the sweep back, over a byte of the line
abbrev pub sink : Bool → ℕ → Op → Sinking → Sinking
sink fold byte (op.Point one) s = record { entries = below s.entries; kept = s.kept; marks = (top s.entries && fits fold one byte) ∷ s.marks }
sink fold byte op.Begin s = record { entries = below s.entries; kept = s.kept; marks = s.marks }
sink fold byte op.End s = record { entries = below s.entries; kept = s.kept; marks = s.marks }
sink fold byte op.Empty s = record { entries = below s.entries; kept = s.kept; marks = s.marks }
sink fold byte op.Both s = record {
  entries = (top (below s.kept) || (top s.kept && top s.entries)) ∷ top s.entries ∷ below s.entries;
  kept = below (below s.kept);
  marks = s.marks;
}
sink fold byte op.Either s = record { entries = top s.entries ∷ top s.entries ∷ below s.entries; kept = s.kept; marks = s.marks }
sink fold byte op.Many s = record { entries = (top s.kept || top s.entries) ∷ below s.entries; kept = below s.kept; marks = s.marks }
sink fold byte op.Maybe s = s

-- the whole sweep back, over the steps with the last one first
abbrev pub sunk : Bool → ℕ → List Op → Sinking → Sinking
sunk fold byte [] s = s
sunk fold byte (last ∷ steps) s = sunk fold byte steps (sink fold byte last s)
