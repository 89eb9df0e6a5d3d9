-- The answers of the top call, the lines that tell them, and the statuses (own).
use Rattle.std.specs.Prelude.{◌≡◌, ℕ, List, [], ◌∷◌, ◌++◌, codes, decimal}
use Rattle.sh_lex.specs.declared.refusals.Static.{Static}
use Rattle.sh_lex.specs.declared.refusals.Static.TheVariants as static
use Rattle.fl_printed.specs.declared.checks.Unfit.{Unfit}
use Rattle.fl_printed.specs.declared.checks.Unfit.TheVariants as unfit
use Rattle.sh_eval.specs.Lines.{diagnostic, no_such_file}
use Rattle.sh_eval.specs.declared.flows.Flow.{Flow}
use Rattle.sh_eval.specs.declared.flows.Flow.TheVariants as flow
use Rattle.sh_eval.specs.declared.refusals.Refusal.{Refusal}
use Rattle.sh_eval.specs.declared.refusals.Refusal.TheVariants as refusal
use Rattle.pash.specs.declared.answers.TheConstants.{REFUSED}
use Rattle.pash.specs.declared.answers.Outcome.{Outcome}
use Rattle.pash.specs.declared.answers.Why.{Why}
use Rattle.pash.specs.declared.answers.Why.TheVariants as why
use Rattle.pash.specs.declared.answers.RunFault.{RunFault}
use Rattle.pash.specs.declared.answers.RunFault.TheVariants as stop

-- the text, a space, and a number
abbrev pub with_number : List ℕ → ℕ → List ℕ
with_number text number = text ++ codes " " ++ decimal number

-- the text, a space, and a letter
abbrev pub with_letter : List ℕ → ℕ → List ℕ
with_letter text letter = text ++ codes " " ++ letter ∷ []

-- the name of a refusal and its details, each behind a space
abbrev pub refusal_text : Refusal → List ℕ
refusal_text (refusal.UnclosedQuote offset) = with_number (codes "UnclosedQuote") offset
refusal_text (refusal.UnclosedBrace offset) = with_number (codes "UnclosedBrace") offset
refusal_text (refusal.OutOfProfile spelling offset) = codes "OutOfProfile " ++ with_number spelling offset
refusal_text refusal.ScriptTooLong = codes "ScriptTooLong"
refusal_text refusal.BadSyntax = codes "BadSyntax"
refusal_text (refusal.TooDeep offset) = with_number (codes "TooDeep") offset
refusal_text (refusal.SubstitutionMix offset) = with_number (codes "SubstitutionMix") offset
refusal_text (refusal.ParameterForm offset) = with_number (codes "ParameterForm") offset
refusal_text (refusal.UnknownCommand name) = codes "UnknownCommand " ++ name
refusal_text (refusal.UnsupportedFlag name letter) = codes "UnsupportedFlag " ++ with_letter name letter
refusal_text (refusal.PathBusy path) = codes "PathBusy " ++ path
refusal_text refusal.TurnsOver = codes "TurnsOver"
refusal_text refusal.ArgsTooMany = codes "ArgsTooMany"
refusal_text (refusal.UnsupportedPattern pattern) = codes "UnsupportedPattern " ++ pattern

-- the line that tells an answer; none where the script or the graph ran to its end, and none begins after a fault or want of memory
abbrev pub line_of : Why → List ℕ
line_of why.Finished = []
line_of (why.Refused cause) = codes "pash: refused: " ++ refusal_text cause ++ codes "\n"
line_of why.Usage = codes "pash: usage\n"
line_of (why.NoScript path) = diagnostic (codes "pash") path no_such_file
line_of why.NotJson = codes "pash: NotJson\n"
line_of why.NotGraph = codes "pash: NotGraph\n"
line_of why.BadVersion = codes "pash: BadVersion\n"
line_of (why.NoFile path) = diagnostic (codes "pash") path no_such_file
line_of why.ReadFault = []
line_of why.WriteFault = []
line_of why.TreeFault = []
line_of why.Memory = []

-- the refusal of a script whose text is refused so
abbrev pub refusal_of : Static → Refusal
refusal_of (static.UnclosedQuote offset) = refusal.UnclosedQuote offset
refusal_of (static.UnclosedBrace offset) = refusal.UnclosedBrace offset
refusal_of (static.OutOfProfile spelling offset) = refusal.OutOfProfile spelling offset
refusal_of static.ScriptTooLong = refusal.ScriptTooLong
refusal_of static.BadSyntax = refusal.BadSyntax
refusal_of (static.TooDeep offset) = refusal.TooDeep offset
refusal_of (static.SubstitutionMix offset) = refusal.SubstitutionMix offset
refusal_of (static.ParameterForm offset) = refusal.ParameterForm offset

-- the answer where a text isn't that of a graph that can run
abbrev pub answer_of : Unfit → Why
answer_of unfit.NotJson = why.NotJson
answer_of unfit.BadVersion = why.BadVersion
answer_of unfit.NotGraph = why.NotGraph
answer_of (unfit.NoFile path) = why.NoFile path

-- the answer where nothing runs, with its status
abbrev pub refusing : Why → Outcome
refusing answer = record { status = REFUSED; why = answer }

-- a command has come to its end with this status
abbrev pub finished : ℕ → Outcome
finished status = record { status = status; why = why.Finished }

-- a script that is over was refused in the middle, or it has ended, and then its status is `$?` (XCU 2.8.2)
abbrev pub outcome_by : Flow → ℕ → Outcome
outcome_by flow.On status = finished status
outcome_by (flow.Break count) status = finished status
outcome_by (flow.Continue count) status = finished status
outcome_by flow.Exit status = finished status
outcome_by (flow.Refused cause) status = refusing (why.Refused cause)

-- the answers that tell a command's meaning: all but the faults and want of memory
abbrev pub IsAnswer : Why → Type 0
IsAnswer why.Finished = Unit {0}
IsAnswer (why.Refused cause) = Unit {0}
IsAnswer why.Usage = Unit {0}
IsAnswer (why.NoScript path) = Unit {0}
IsAnswer why.NotJson = Unit {0}
IsAnswer why.NotGraph = Unit {0}
IsAnswer why.BadVersion = Unit {0}
IsAnswer (why.NoFile path) = Unit {0}
IsAnswer why.ReadFault = ⊥
IsAnswer why.WriteFault = ⊥
IsAnswer why.TreeFault = ⊥
IsAnswer why.Memory = ⊥

-- the answers of a script that has run, and of a graph
abbrev pub IsOfRun : Why → Type 0
IsOfRun why.Finished = Unit {0}
IsOfRun (why.Refused cause) = Unit {0}
IsOfRun why.Usage = ⊥
IsOfRun (why.NoScript path) = ⊥
IsOfRun why.NotJson = ⊥
IsOfRun why.NotGraph = ⊥
IsOfRun why.BadVersion = ⊥
IsOfRun (why.NoFile path) = ⊥
IsOfRun why.ReadFault = ⊥
IsOfRun why.WriteFault = ⊥
IsOfRun why.TreeFault = ⊥
IsOfRun why.Memory = ⊥

-- the answers for a script or a graph: it ran, it was refused before it ran or in the middle, or it isn't there
abbrev pub IsOfScript : Why → Type 0
IsOfScript why.Finished = Unit {0}
IsOfScript (why.Refused cause) = Unit {0}
IsOfScript why.Usage = ⊥
IsOfScript (why.NoScript path) = Unit {0}
IsOfScript why.NotJson = Unit {0}
IsOfScript why.NotGraph = Unit {0}
IsOfScript why.BadVersion = Unit {0}
IsOfScript (why.NoFile path) = Unit {0}
IsOfScript why.ReadFault = ⊥
IsOfScript why.WriteFault = ⊥
IsOfScript why.TreeFault = ⊥
IsOfScript why.Memory = ⊥

-- the answers where there is no script to run, and no graph
abbrev pub IsWithoutScript : Why → Type 0
IsWithoutScript why.Finished = ⊥
IsWithoutScript (why.Refused cause) = ⊥
IsWithoutScript why.Usage = Unit {0}
IsWithoutScript (why.NoScript path) = Unit {0}
IsWithoutScript why.NotJson = Unit {0}
IsWithoutScript why.NotGraph = Unit {0}
IsWithoutScript why.BadVersion = Unit {0}
IsWithoutScript (why.NoFile path) = Unit {0}
IsWithoutScript why.ReadFault = ⊥
IsWithoutScript why.WriteFault = ⊥
IsWithoutScript why.TreeFault = ⊥
IsWithoutScript why.Memory = ⊥

-- the answer of a run that stopped, and its status
abbrev pub fault_of : RunFault → Why
fault_of stop.Read = why.ReadFault
fault_of stop.Write = why.WriteFault
fault_of stop.Tree = why.TreeFault
fault_of stop.Memory = why.Memory

abbrev pub fault_status : RunFault → ℕ
fault_status stop.Read = 120
fault_status stop.Write = 121
fault_status stop.Tree = 122
fault_status stop.Memory = 123

-- the status of a fault and of want of memory
abbrev pub HasFaultStatus : Why → ℕ → Type 0
HasFaultStatus why.Finished status = Unit {0}
HasFaultStatus (why.Refused cause) status = Unit {0}
HasFaultStatus why.Usage status = Unit {0}
HasFaultStatus (why.NoScript path) status = Unit {0}
HasFaultStatus why.NotJson status = Unit {0}
HasFaultStatus why.NotGraph status = Unit {0}
HasFaultStatus why.BadVersion status = Unit {0}
HasFaultStatus (why.NoFile path) status = Unit {0}
HasFaultStatus why.ReadFault status = status ≡ 120
HasFaultStatus why.WriteFault status = status ≡ 121
HasFaultStatus why.TreeFault status = status ≡ 122
HasFaultStatus why.Memory status = status ≡ 123
