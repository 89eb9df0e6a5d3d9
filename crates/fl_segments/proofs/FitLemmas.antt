-- What is known of a stage: its utility is built and has its inputs, one of these at most is the stream, and only tee writes files.
use Rattle.std.proofs.Common.{◌≡◌, ◌≤◌, ◌==◌, List, [], ◌∷◌, true, ◌&&◌, ◌||◌, length, nat_le, refl, ap, sym, ◌∙◌, arith}
use Rattle.std.specs.List.{count_by}
use Rattle.std.proofs.lemmas.Bool.{true≢false, and_parts, eqb-true, leb-true}
use Rattle.ut_args.specs.Built.{is_built_of}
use Rattle.ut_args.specs.Inputs.{inputs_of}
use Rattle.ut_args.specs.declared.invocations.Inv.{Inv}
use Rattle.fl_segments.specs.Stages.{fits, ins_of, ins_read, is_none, is_stage, is_stream, is_tee, read_of}
use Rattle.fl_segments.specs.declared.stages.Does.{Does}
use Rattle.fl_segments.specs.declared.stages.Does.TheVariants as does
use Rattle.fl_segments.specs.declared.stages.Stage.{Stage}

pub record Fits (inv : Inv) (stage : Stage) : Type 0 where
  pub built : is_built_of inv ≡ true
  pub inputs : inputs_of inv ≡ read_of inv (length stage.ins)
  pub few : count_by is_stream stage.ins ≤ 1
  pub tees : (is_tee inv || is_none stage.tees) ≡ true

none-of : {X : Type 0} (items : List X) → is_none items ≡ true → items ≡ []
none-of [] none = refl
none-of (item ∷ items) none = absurd (true≢false (sym none))

module _ (stage : Stage) (is : is_stage stage ≡ true) where
  fits-of : (it : Does) → stage.does ≡ it → fits it stage.ins stage.tees ≡ true
  fits-of it same = sym (ap (λ (it : Does). fits it stage.ins stage.tees) same) ∙ is

  pub parts-of : (inv : Inv) → stage.does ≡ does.Util inv → Fits inv stage
  parts-of inv same =
      let few = nat_le (count_by is_stream stage.ins) 1 in
      let tees = is_tee inv || is_none stage.tees in
      let one = and_parts (is_built_of inv) ((inputs_of inv == read_of inv (length stage.ins)) && (few && tees)) (fits-of (does.Util inv) same) in
      let two = and_parts (inputs_of inv == read_of inv (length stage.ins)) (few && tees) one.1 in
      let three = and_parts few tees two.1 in
      record { built = one.0; inputs = eqb-true (inputs_of inv) (read_of inv (length stage.ins)) two.0; few = leb-true (count_by is_stream stage.ins) 1 three.0; tees = three.1 }

  -- a command that is skipped writes no files
  pub skips-files : stage.does ≡ does.Skip → stage.tees ≡ []
  skips-files same = none-of stage.tees (fits-of does.Skip same)

  pub few-streams : count_by is_stream (ins_of stage) ≤ 1
  few-streams = by_does stage.does refl
    where
      by_does : (it : Does) → stage.does ≡ it → count_by is_stream (ins_read it stage.ins) ≤ 1
      by_does does.Skip same = (let empty : count_by is_stream (ins_read does.Skip stage.ins) ≡ 0 = refl in omega (arith, empty))
      by_does (does.Util inv) same = (parts-of inv same).few
