-- Members of a pipeline, one behind others.
use Rattle.std.proofs.Common.{◌≡◌, List, [], ◌∷◌, ◌++◌, Option, ap, sym, subst, ◌∙◌}
use Rattle.std.proofs.lemmas.Grind.{flat_map-append}
use Rattle.ps_world.specs.Files.{Files}
use Rattle.ps_world.specs.Paths.{Components}
use Rattle.fl_commands.specs.Members.{AllCanRun, AllNamesStand, CanRun, files_teed}
use Rattle.fl_commands.specs.Operands.{AllStand}
use Rattle.fl_commands.specs.Writers.{AreBegun, AreWrittenApart}
use Rattle.fl_commands.specs.declared.members.Member.{Member}

-- one more can be run
pub all-run : (before : List Member) (last : Member) → AllCanRun before → CanRun last → AllCanRun (before ++ last ∷ [])
all-run [] last all one = (one, tt)
all-run (first ∷ before) last all one = (all.0, all-run before last all.1 one)

-- what the operands of one more name stands there
pub all-names-stand : (files : Files) (before : List Member) (last : Member) → AllNamesStand files before → AllStand files last.operands.items
    → AllNamesStand files (before ++ last ∷ [])
all-names-stand files [] last all one = (one, tt)
all-names-stand files (first ∷ before) last all one = (all.0, all-names-stand files before last all.1 one)

-- one more that writes no file beside its output
pub none-teed : (before : List Member) (last : Member) → files_teed before ≡ [] → last.tees.items ≡ [] → files_teed (before ++ last ∷ []) ≡ []
none-teed before last none one =
    flat_map-append (λ (member : Member). member.tees.items) before (last ∷ [])
    ∙ ap (λ (it : List Components). it ++ files_teed (last ∷ [])) none ∙ ap (λ (it : List Components). it ++ []) one

pub ruleset member_steps = (all-run, all-names-stand, none-teed)

-- where no file is written, nothing is owed of those that are
pub none-begun : (held : Option Files) (written : List Components) → written ≡ [] → AreBegun held written
none-begun held written none = subst (AreBegun held) (sym none) tt

pub none-apart : (read written : List Components) → written ≡ [] → AreWrittenApart read written
none-apart read written none = subst (AreWrittenApart read) (sym none) tt
