-- What words come to, and the texts of scripts.
use Rattle.std.proofs.Common.{◌≡◌, ℕ, ◌+◌, ◌<◌, ◌≤◌, List, [], ◌++◌, length, Option, Some, None, Result, Ok, Err, IfOk, sym, ap, subst, ◌∙◌, arith, inl, inr}
use Rattle.std.specs.Option.{IfSome}
use Rattle.std.proofs.lemmas.Bool.{cases_lt}
use Rattle.std.proofs.lemmas.List.{append-nil, length-append}
use Rattle.ps_world.specs.Files.{Files, bytes_at}
use Rattle.ps_world.specs.Paths.{Components}
use Rattle.ps_world.specs.Places.{resolve}
use Rattle.ps_world.specs.Told.{IsFront}
use Rattle.ps_world.specs.TreeState.{OnlyLent, TreeState}
use Rattle.sh_lex.specs.declared.lexing.TheConstants.{MAX_SCRIPT}
use Rattle.sh_lex.specs.declared.refusals.Static.{Static}
use Rattle.sh_lex.specs.declared.refusals.Static.TheVariants.{ScriptTooLong}
use Rattle.sh_parse.specs.Outcomes.{AreOutcomes, Outcome, HasOutcome, Readings, refused}
use Rattle.sh_parse.specs.declared.scripts.ParseRefusal.{ParseRefusal}
use Rattle.sh_parse.specs.declared.scripts.ParseRefusal.TheVariants.{Refused}
use Rattle.pash.specs.Readings.{AreReadAlike, IsFrontOf, IsLoaded, IsUnread}
use Rattle.pash.specs.Starts.{Start, answered, as_start, file_of, over_text, setup_of, start_at, start_named, start_of, start_of_exec, start_of_graph}
use Rattle.pash.specs.Starts.{start_of_outcome, start_of_run, start_of_script, start_of_trial}
use Rattle.pash.specs.Words.{Command, RunCommand, trial}
use Rattle.pash.specs.declared.command.Sample.{Sample}
use Rattle.pash.specs.declared.answers.RunFault.{RunFault}
use Rattle.pash.specs.declared.starts.Setup.{Setup}
use Rattle.pash.specs.declared.answers.Why.TheVariants as why
use Rattle.pash.specs.declared.starts.Start.{Start as ReadStart}
use Rattle.pash.specs.declared.starts.Start.TheVariants as read

-- a text that is too long is told so
too_long : (reads : Readings) → AreOutcomes reads → (text : List ℕ) → MAX_SCRIPT < length text → refused ScriptTooLong ≡ reads text
too_long reads are text long = are.only text (refused ScriptTooLong) (inl long)

front_cases : (whole text rest : List ℕ) → whole ≡ text ++ rest → length text ≤ MAX_SCRIPT + 1 → (length text < MAX_SCRIPT + 1 → Some rest ≡ Some [])
    → AreReadAlike text whole
front_cases whole text rest is within ended =
    elim (cases_lt (length text) (MAX_SCRIPT + 1)) [
      | inl short ↦
          let nothing : rest ≡ [] = (let end = ended short in cc) in
          let same : text ≡ whole = sym (append-nil text) ∙ ap (λ (more : List ℕ). text ++ more) (sym nothing) ∙ sym is in
          record { same = λ reads are. ap reads same }
      | inr long ↦
          let size : length whole ≡ length text + length rest = ap length is ∙ length-append text rest in
          record { same = λ reads are. sym (too_long reads are text (omega arith)) ∙ too_long reads are whole (omega arith) }
    ]

front_of : (whole : List ℕ) (left' : Option (List ℕ)) (text : List ℕ) → IsFront (Some whole) left' text (MAX_SCRIPT + 1) → AreReadAlike text whole
front_of whole None text front = let never = front.before in cc
front_of whole (Some rest) text front = front_cases whole text rest (let is = front.before in cc) front.within front.ended

-- a text that wasn't read, and not for want of memory, is refused so
pub has_refusal : (text : List ℕ) (unread : ParseRefusal) (cause : Static) → unread ≡ Refused cause → IsUnread text unread → HasOutcome text (refused cause)
has_refusal text unread cause is has = subst (λ (one : ParseRefusal). IsUnread text one) is has

-- what a text is read as says what it comes to
pub started-as : (text : List ℕ) (read : Outcome) (setup : Setup) (start : Start) → HasOutcome text read → start ≡ start_of_outcome setup read
    → (reads : Readings) → AreOutcomes reads → start ≡ start_of_outcome setup (reads text)
started-as text read setup start has is reads are = is ∙ ap (start_of_outcome setup) (are.only text read has)

pub started-so : (text : List ℕ) (read : Outcome) (setup : Setup) (result : Result ReadStart RunFault) → HasOutcome text read
    → IfOk result (λ start. as_start start ≡ start_of_outcome setup read)
    → IfOk result (λ start. (reads : Readings) → AreOutcomes reads → as_start start ≡ start_of_outcome setup (reads text))
started-so text read setup (Ok start) has is = started-as text read setup (as_start start) has is
started-so text read setup (Err stopped) has is = tt

-- what was read of a file is its front
pub front_is_loaded : (held : Option Files) (path : Components) (most : ℕ) (left left' : Option (List ℕ)) (text : List ℕ)
    → IfSome held (λ files. left ≡ Some (bytes_at files path)) → IsFront left left' text most → IfSome held (λ files. IsFrontOf (bytes_at files path) most text)
front_is_loaded None path most left left' text is front = tt
front_is_loaded (Some files) path most left left' text is front =
    (left', subst (λ (before : Option (List ℕ)). IsFront before left' text most) is front)

-- a script is told by its front
by_front : (start : Start) (files : Files) (given : List ℕ) (command : RunCommand) (path : Option Components) (text : List ℕ)
    → IsLoaded files path (MAX_SCRIPT + 1) (Some text)
    → (reads : Readings) → AreOutcomes reads → start ≡ start_of_script reads command text → start ≡ start_at (start_of_script reads command) files given path
by_front start files given command None text loaded reads are is = absurd loaded
by_front start files given command (Some path) text loaded reads are is =
    is ∙ ap (start_of_outcome (setup_of command)) ((front_of (bytes_at files path) loaded.0 text loaded.1).same reads are)

pub started-loaded : (held : Option Files) (home : Components) (command : RunCommand) (text : List ℕ) (found : Option (List ℕ)) (result : Result ReadStart RunFault)
    → found ≡ Some text → IfSome held (λ files. IsLoaded files (file_of (resolve files home command.script)) (MAX_SCRIPT + 1) found)
    → IfOk result (λ start. (reads : Readings) → AreOutcomes reads → as_start start ≡ start_of_script reads command text)
    → IfOk result (λ start. (reads : Readings) → AreOutcomes reads → IfSome held (λ files. as_start start ≡ start_of_run files home reads command))
started-loaded None home command text found (Ok start) found_is loaded is = λ reads are. tt
started-loaded (Some files) home command text found (Ok start) found_is loaded is =
    λ reads are. by_front (as_start start) files command.script command (file_of (resolve files home command.script)) text
    (subst (IsLoaded files (file_of (resolve files home command.script)) (MAX_SCRIPT + 1)) found_is loaded) reads are (is reads are)
started-loaded held home command text found (Err stopped) found_is loaded is = tt

-- the text of a graph is loaded whole
whole_front : (whole : List ℕ) (left : Option (List ℕ)) (most : ℕ) (text : List ℕ) → IsFront (Some whole) left text most → length text < most → whole ≡ text
whole_front whole None most text front short = let never = front.before in cc
whole_front whole (Some rest) most text front short =
    let is : whole ≡ text ++ rest = (let before = front.before in cc) in
    let nothing : rest ≡ [] = (let end = front.ended short in cc) in
    is ∙ ap (λ (more : List ℕ). text ++ more) nothing ∙ append-nil text

by_whole : (start : Start) (files : Files) (home : Components) (given : List ℕ) (path : Option Components) (most : ℕ) (text : List ℕ)
    → IsLoaded files path most (Some text) → length text < most → start ≡ start_of_graph files home text
    → start ≡ start_at (start_of_graph files home) files given path
by_whole start files home given None most text loaded short is = absurd loaded
by_whole start files home given (Some path) most text loaded short is =
    is ∙ ap (start_of_graph files home) (sym (whole_front (bytes_at files path) loaded.0 most text loaded.1 short))

pub started-printed : (old mid : TreeState) (given : List ℕ) (most : ℕ) (text : List ℕ) (found : Option (List ℕ)) (result : Result ReadStart RunFault)
    → OnlyLent old mid → length text < most → found ≡ Some text → IfSome old.held (λ files. IsLoaded files (file_of (resolve files old.home given)) most found)
    → IfOk result (λ start. IfSome mid.held (λ files. as_start start ≡ start_of_graph files mid.home text))
    → IfOk result (λ start. (reads : Readings) → AreOutcomes reads → IfSome old.held (λ files. as_start start ≡ start_of_exec files old.home given))
started-printed old mid given most text found result lent short found_is loaded is =
    at old.held (subst (λ (it : Option (List ℕ)). IfSome old.held (λ files. IsLoaded files (file_of (resolve files old.home given)) most it)) found_is loaded) result
    (subst (λ (home : Components). IfOk result (λ start. IfSome old.held (λ files. as_start start ≡ start_of_graph files home text))) lent.home
    (subst (λ (held : Option Files). IfOk result (λ start. IfSome held (λ files. as_start start ≡ start_of_graph files mid.home text))) lent.held is))
  where
    at : (held : Option Files) → IfSome held (λ files. IsLoaded files (file_of (resolve files old.home given)) most (Some text))
        → (result : Result ReadStart RunFault) → IfOk result (λ start. IfSome held (λ files. as_start start ≡ start_of_graph files old.home text))
        → IfOk result (λ start. (reads : Readings) → AreOutcomes reads → IfSome held (λ files. as_start start ≡ start_of_exec files old.home given))
    at None loaded (Ok start) is = λ reads are. tt
    at (Some files) loaded (Ok start) is =
        λ reads are. by_whole (as_start start) files old.home given (file_of (resolve files old.home given)) most text loaded short is
    at held loaded (Err stopped) is = tt

-- no text is there where a path names no file
by_none : (start : Start) (start_by : List ℕ → Start) (files : Files) (given : List ℕ) (path : Option Components) (most : ℕ)
    → IsLoaded files path most None → start ≡ answered (why.NoScript given) → start ≡ start_at start_by files given path
by_none start start_by files given None most loaded is = is
by_none start start_by files given (Some path) most loaded is = absurd loaded

pub started-missing : (start_by : Readings → Files → List ℕ → Start) (held : Option Files) (home : Components) (given : List ℕ) (most : ℕ)
    (found : Option (List ℕ)) (result : Result ReadStart RunFault) → found ≡ None
    → IfSome held (λ files. IsLoaded files (file_of (resolve files home given)) most found)
    → IfOk result (λ start. start ≡ read.Answered (why.NoScript given))
    → IfOk result (λ start. (reads : Readings) → AreOutcomes reads → IfSome held (λ files. as_start start ≡ start_named files home (start_by reads files) given))
started-missing start_by None home given most found (Ok start) found_is loaded is = λ reads are. tt
started-missing start_by (Some files) home given most found (Ok start) found_is loaded is =
    λ reads are. by_none (as_start start) (start_by reads files) files given (file_of (resolve files home given)) most
    (subst (IsLoaded files (file_of (resolve files home given)) most) found_is loaded) (ap as_start is)
started-missing start_by held home given most found (Err stopped) found_is loaded is = tt

-- a trial's start is that of its script, over its text
pub started-over : (text script : List ℕ) (setup : Setup) (start made : ReadStart) → as_start made ≡ over_text text (as_start start)
    → ((reads : Readings) → AreOutcomes reads → as_start start ≡ start_of_outcome setup (reads script))
    → (reads : Readings) → AreOutcomes reads → as_start made ≡ over_text text (start_of_outcome setup (reads script))
started-over text script setup start made is before reads are = is ∙ ap (over_text text) (before reads are)

-- what a command comes to is what its words come to
pub started-command : (held : Option Files) (home : Components) (asked : Option Command) (command : Command) (result : Result ReadStart RunFault)
    → asked ≡ Some command
    → IfOk result (λ start. (reads : Readings) → AreOutcomes reads → IfSome held (λ files. as_start start ≡ start_of reads files home (Some command)))
    → IfOk result (λ start. (reads : Readings) → AreOutcomes reads → IfSome held (λ files. as_start start ≡ start_of reads files home asked))
started-command held home asked command result asked_is is =
    subst (λ (it : Option Command). IfOk result (λ start. (reads : Readings) → AreOutcomes reads → IfSome held
    (λ files. as_start start ≡ start_of reads files home it))) (sym asked_is) is

-- and so does that of a trial, which hangs on no file
pub started-told : (held : Option Files) (home : Components) (asked : Option Command) (sample : Sample) (command : RunCommand) (result : Result ReadStart RunFault)
    → asked ≡ Some (trial sample command)
    → IfOk result (λ start. (reads : Readings) → AreOutcomes reads → as_start start ≡ start_of_trial reads sample command)
    → IfOk result (λ start. (reads : Readings) → AreOutcomes reads → IfSome held (λ files. as_start start ≡ start_of reads files home asked))
started-told None home asked sample command (Ok start) asked_is is = λ reads are. tt
started-told (Some files) home asked sample command (Ok start) asked_is is =
    λ reads are. is reads are ∙ ap (start_of reads files home) (sym asked_is)
started-told held home asked sample command (Err stopped) asked_is is = tt
