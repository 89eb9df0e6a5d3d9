-- The steps of tr as its stream has them.
use Rattle.std.specs.Prelude.{ℕ, List, Bool, Option, None, Some}
use Rattle.ut_bytes.specs.declared.edits.Edit.{Edit}
use Rattle.ut_bytes.specs.declared.edits.Edit.TheVariants as edit
use Rattle.ut_bytes.specs.Inner.Before.{before_of}
use Rattle.ut_bytes.specs.Inner.Tables.{image_at, marked}
use Rattle.ut_bytes.specs.Steps.{deleted, squeezed_behind, translated}

-- what is done to each byte of a text
abbrev pub edited_by : Edit → List ℕ → List ℕ
edited_by edit.Nothing text = text
edited_by (edit.Delete set) text = deleted (marked set) text
edited_by (edit.Translate images) text = translated (image_at images) text

-- a text squeezed behind a byte, where some bytes are squeezed
abbrev pub squeezed_by : Option (List Bool) → ℕ → List ℕ → List ℕ
squeezed_by None last text = text
squeezed_by (Some set) last text = squeezed_behind (before_of last) (marked set) text
