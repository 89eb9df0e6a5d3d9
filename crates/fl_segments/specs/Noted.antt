-- What is noted of the utilities that run (own): the words of those that aren't cat and read an input, and how often each runs at a width.
use Rattle.std.specs.Prelude.{ℕ, List, [], ◌&&◌, Bool, map, nat_le, replicate, if◌then◌else◌}
use Rattle.std.specs.List.{flat_map}
use Rattle.ut_args.specs.Inputs.{inputs_of}
use Rattle.fl_classes.specs.Used.{words_with}
use Rattle.fl_segments.specs.Stages.{spreads}
use Rattle.fl_segments.specs.declared.stages.Does.{Does}
use Rattle.fl_segments.specs.declared.stages.Does.TheVariants as does
use Rattle.fl_segments.specs.declared.stages.Stage.{Stage}

-- a utility that runs: its words, and whether it runs once for each part of its input where that is spread
pub record Noted : Type 0 where
  pub words : List (List ℕ)
  pub spreads : Bool

abbrev pub noted_as : List (List ℕ) → Bool → Noted
noted_as words spreads = record { words = words; spreads = spreads }

abbrev pub noted_by : Does → List Noted
noted_by (does.Util inv) = map (λ words. noted_as words (spreads inv)) (words_with inv (inputs_of inv))
noted_by does.Skip = []

abbrev pub noted_in : List Stage → List Noted
noted_in segment = flat_map (λ stage. noted_by stage.does) segment

-- the words of those that run at a width
abbrev pub times_at : ℕ → Bool → ℕ
times_at width spreads = if nat_le 2 width && spreads then width else 1

abbrev pub used_at : ℕ → List Noted → List (List (List ℕ))
used_at width noted = flat_map (λ it. replicate (times_at width it.spreads) it.words) noted
