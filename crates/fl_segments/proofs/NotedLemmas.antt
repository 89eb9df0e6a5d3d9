-- The words of a segment at a width are those of the utilities that are noted of it.
use Rattle.std.proofs.Common.{◌≡◌, ℕ, List, [], ◌∷◌, ◌++◌, map, replicate, refl, ap, sym, ◌∙◌}
use Rattle.std.proofs.lemmas.Grind.{flat_map-append}
use Rattle.std.specs.List.{flat_map}
use Rattle.ut_args.specs.Inputs.{inputs_of}
use Rattle.ut_args.specs.declared.invocations.Inv.{Inv}
use Rattle.fl_classes.specs.Used.{words_with}
use Rattle.fl_segments.specs.Noted.{Noted, noted_by, noted_in, noted_as, times_at, used_at}
use Rattle.fl_segments.specs.Stages.{spreads, times, words_at, words_by}
use Rattle.fl_segments.specs.declared.stages.Does.{Does}
use Rattle.fl_segments.specs.declared.stages.Does.TheVariants as does
use Rattle.fl_segments.specs.declared.stages.Stage.{Stage}

-- those of two lists, one behind the other
pub used-append : (width : ℕ) (one other : List Noted) → used_at width (one ++ other) ≡ used_at width one ++ used_at width other
used-append width one other = flat_map-append (λ (it : Noted). replicate (times_at width it.spreads) it.words) one other

used-each : (width : ℕ) (inv : Inv) (lists : List (List (List ℕ)))
    → flat_map (λ words. replicate (times width inv) words) lists ≡ used_at width (map (λ words. noted_as words (spreads inv)) lists)
used-each width inv [] = refl
used-each width inv (words ∷ lists) = ap (λ it. replicate (times width inv) words ++ it) (used-each width inv lists)

used-by : (width : ℕ) (does : Does) → words_by width does ≡ used_at width (noted_by does)
used-by width (does.Util inv) = used-each width inv (words_with inv (inputs_of inv))
used-by width does.Skip = refl

pub used-so : (width : ℕ) (segment : List Stage) → words_at width segment ≡ used_at width (noted_in segment)
used-so width [] = refl
used-so width (stage ∷ stages) =
    ap (λ it. it ++ words_at width stages) (used-by width stage.does)
    ∙ ap (λ it. used_at width (noted_by stage.does) ++ it) (used-so width stages)
    ∙ sym (used-append width (noted_by stage.does) (noted_in stages))
