-- Utilities of a pipeline mean as one what they mean one after the other.
use Rattle.std.proofs.Common.{◌≡◌, ℕ, suc, ◌+◌, ◌-◌, List, [], ◌∷◌, ◌++◌, map, length, take, get_or, Bool, true, false, not, ◌&&◌, ◌||◌, refl, sym, ap, ◌∙◌, append_assoc, append-nil, length-append, arith, if◌then◌else◌}
use Rattle.std.specs.List.{flat_map, list_any}
use Rattle.std.proofs.lemmas.Bool.{true≢false}
use Rattle.ps_world.specs.Files.{Files}
use Rattle.ps_world.specs.Paths.{Components}
use Rattle.ps_world.specs.declared.places.Place.{Place}
use Rattle.ps_world.specs.declared.places.Place.TheVariants as place
use Rattle.ut_args.specs.Inputs.{is_standard, operands_by}
use Rattle.fl_segments.specs.Noted.{Noted}
use Rattle.fl_commands.specs.Inputs.{noted_over, status_of}
use Rattle.sh_tree.specs.Trees.{CommandTree, CommandTrees, no_command, command}
use Rattle.sh_tree.specs.Views.{command_tree, stages_tree}
use Rattle.sh_tree.specs.declared.commands.Command.{Command}
use Rattle.sh_expand.specs.Outcomes.{Expansions}
use Rattle.sh_eval.specs.declared.session.Session.{Session}
use Rattle.sh_eval.specs.declared.shell.Shell.{Shell}
use Rattle.sh_eval.specs.declared.streams.From.{From}
use Rattle.sh_eval.specs.declared.streams.From.TheVariants as from
use Rattle.sh_eval.specs.declared.streams.Held.{Held}
use Rattle.sh_eval.specs.declared.streams.To.{To}
use Rattle.sh_eval.specs.declared.streams.To.TheVariants as to
use Rattle.sh_eval.specs.Commands.{first_stage, last_stage, middle_stage, reading_piped}
use Rattle.sh_eval.specs.Lines.{diagnostic, no_such_file, is_a_directory}
use Rattle.sh_eval.specs.Meaning.{command_means, later_stages_mean, stages_means}
use Rattle.sh_eval.specs.Redirections.{named_by}
use Rattle.sh_eval.specs.Inner.Gathering.{AllPlain, AreMembers, IsMember, IsPlain, emptied}
use Rattle.sh_eval.specs.Segments.{is_plain_place, name_of, given_for, inputs_fed, ran_of, lines_for, reads_first, member_means, written_by, text_through, status_for, status_through, takes_through, runs_through}
use Rattle.sh_eval.specs.Shells.{inside, with_status}
use Rattle.sh_eval.specs.States.{World, State, Ends, after, on, in_session, in_world, innermost, leaves, leaving, left_in, grown_at, piping, puts, reading, to_read, unpiped, write}
use Rattle.sh_eval.specs.Utilities.{Given, input, Called, Pages, complaints_in, deals, does_nothing, file_input, given_from, given_to, has_none, inputs_in, is_silent, needs_all, notes, reads_standard, standard_again, standard_input, taken_in, takes_inputs, tells_some, words_without, writes_out}

-- WHAT OPERANDS GIVE hangs on the files, the working directory and the stream alone
module _ (one other : State) (files : one.world.files ≡ other.world.files) (home : one.world.home ≡ other.world.home) where
  -- a state between
  abbrev mid : (text : List ℕ) (files : Files) (home : Components) → State
  mid text files home =
      record {
        shell = one.shell;
        session = reading (from.Kept text) one.session;
        world = record { home = home; files = files; written = []; input = []; output = []; errors = []; ran = [] };
      }

  module _ (same : to_read one ≡ to_read other) (deals : Bool) (name : List ℕ) where
    given_from-same : (is_taken : Bool) (operands : List (List ℕ)) → given_from one deals name is_taken operands ≡ given_from other deals name is_taken operands
    given_from-same is_taken [] = refl
    given_from-same is_taken (operand ∷ operands) =
        λ i.
        if is_standard operand then (if is_taken then standard_again deals operand else standard_input (mid (same i) (files i) (home i)) operand) ∷ given_from-same true operands i
        else file_input (mid (same i) (files i) (home i)) name operand (named_by (mid (same i) (files i) (home i)) operand) ∷ given_from-same is_taken operands i

    pub given-same : (operands : List (List ℕ)) → given_to one deals name operands ≡ given_to other deals name operands
    given-same [] = λ i. input (record { label = []; text = same i }) ∷ []
    given-same (operand ∷ operands) = given_from-same false (operand ∷ operands)

  -- where the stream is no matter
  module _ (deals : Bool) (name : List ℕ) where
    complaints_from-same : (is_taken : Bool) (operands : List (List ℕ))
        → complaints_in (given_from one deals name is_taken operands) ≡ complaints_in (given_from other deals name is_taken operands)
    complaints_from-same is_taken [] = refl
    complaints_from-same is_taken (operand ∷ operands) =
        by_test (complaints_from-same true operands) (complaints_from-same is_taken operands) (is_standard operand)
      where
        by_again : (first second : List Given) → complaints_in first ≡ complaints_in second → (dealt taken : Bool)
            → complaints_in ((if taken then standard_again dealt operand else standard_input one operand) ∷ first)
            ≡ complaints_in ((if taken then standard_again dealt operand else standard_input other operand) ∷ second)
        by_again first second rest true true = rest
        by_again first second rest false true = rest
        by_again first second rest dealt false = rest

        by_place : (first second : List Given) → complaints_in first ≡ complaints_in second → (at : Place)
            → complaints_in (file_input one name operand at ∷ first) ≡ complaints_in (file_input other name operand at ∷ second)
        by_place first second rest place.Missing = ap (λ (it : List (List ℕ)). diagnostic name operand no_such_file ∷ it) rest
        by_place first second rest (place.Makeable path) = ap (λ (it : List (List ℕ)). diagnostic name operand no_such_file ∷ it) rest
        by_place first second rest (place.Dir path) = ap (λ (it : List (List ℕ)). diagnostic name operand is_a_directory ∷ it) rest
        by_place first second rest (place.File path) = rest
        by_place first second rest place.Null = rest

        by_test : complaints_in (given_from one deals name true operands) ≡ complaints_in (given_from other deals name true operands)
            → complaints_in (given_from one deals name is_taken operands) ≡ complaints_in (given_from other deals name is_taken operands) → (standard : Bool)
            → complaints_in (if standard then (if is_taken then standard_again deals operand else standard_input one operand) ∷ given_from one deals name true operands
            else file_input one name operand (named_by one operand) ∷ given_from one deals name is_taken operands)
            ≡ complaints_in (if standard then (if is_taken then standard_again deals operand else standard_input other operand) ∷ given_from other deals name true operands
            else file_input other name operand (named_by other operand) ∷ given_from other deals name is_taken operands)
        by_test again rest true = by_again (given_from one deals name true operands) (given_from other deals name true operands) again deals is_taken
        by_test again rest false =
            by_place (given_from one deals name is_taken operands) (given_from other deals name is_taken operands) rest (named_by one operand)
            ∙ ap (λ (it : Place). complaints_in (file_input other name operand it ∷ given_from other deals name is_taken operands)) (λ i. named_by (mid [] (files i) (home i)) operand)

    pub complaints-same : (operands : List (List ℕ)) → complaints_in (given_to one deals name operands) ≡ complaints_in (given_to other deals name operands)
    complaints-same [] = refl
    complaints-same (operand ∷ operands) = complaints_from-same false (operand ∷ operands)

    count_from-same : (is_taken : Bool) (operands : List (List ℕ))
        → length (inputs_in (given_from one deals name is_taken operands)) ≡ length (inputs_in (given_from other deals name is_taken operands))
    count_from-same is_taken [] = refl
    count_from-same is_taken (operand ∷ operands) =
        by_test (count_from-same true operands) (count_from-same is_taken operands) (is_standard operand)
      where
        by_again : (first second : List Given) → length (inputs_in first) ≡ length (inputs_in second) → (dealt taken : Bool)
            → length (inputs_in ((if taken then standard_again dealt operand else standard_input one operand) ∷ first))
            ≡ length (inputs_in ((if taken then standard_again dealt operand else standard_input other operand) ∷ second))
        by_again first second rest true true = rest
        by_again first second rest false true = ap suc rest
        by_again first second rest dealt false = ap suc rest

        by_place : (first second : List Given) → length (inputs_in first) ≡ length (inputs_in second) → (at : Place)
            → length (inputs_in (file_input one name operand at ∷ first)) ≡ length (inputs_in (file_input other name operand at ∷ second))
        by_place first second rest place.Missing = rest
        by_place first second rest (place.Makeable path) = rest
        by_place first second rest (place.Dir path) = rest
        by_place first second rest (place.File path) = ap suc rest
        by_place first second rest place.Null = ap suc rest

        by_test : length (inputs_in (given_from one deals name true operands)) ≡ length (inputs_in (given_from other deals name true operands))
            → length (inputs_in (given_from one deals name is_taken operands)) ≡ length (inputs_in (given_from other deals name is_taken operands)) → (standard : Bool)
            → length (inputs_in (if standard then (if is_taken then standard_again deals operand else standard_input one operand) ∷ given_from one deals name true operands
            else file_input one name operand (named_by one operand) ∷ given_from one deals name is_taken operands))
            ≡ length (inputs_in (if standard then (if is_taken then standard_again deals operand else standard_input other operand) ∷ given_from other deals name true operands
            else file_input other name operand (named_by other operand) ∷ given_from other deals name is_taken operands))
        by_test again rest true = by_again (given_from one deals name true operands) (given_from other deals name true operands) again deals is_taken
        by_test again rest false =
            by_place (given_from one deals name is_taken operands) (given_from other deals name is_taken operands) rest (named_by one operand)
            ∙ ap (λ (it : Place). length (inputs_in (file_input other name operand it ∷ given_from other deals name is_taken operands))) (λ i. named_by (mid [] (files i) (home i)) operand)

    pub count-same : (operands : List (List ℕ)) → length (inputs_in (given_to one deals name operands)) ≡ length (inputs_in (given_to other deals name operands))
    count-same [] = refl
    count-same (operand ∷ operands) = count_from-same false (operand ∷ operands)

  lacking-same : (operand : List ℕ) → has_none one operand ≡ has_none other operand
  lacking-same operand = λ i. has_none (mid [] (files i) (home i)) operand

  lacks-same : (operands : List (List ℕ)) → list_any (has_none one) operands ≡ list_any (has_none other) operands
  lacks-same [] = refl
  lacks-same (operand ∷ operands) = λ i. lacking-same operand i || lacks-same operands i

  module _ (pages : Pages) (member : Called) where
    -- likewise of a member

    pub lines-same : lines_for one member ≡ lines_for other member
    lines-same = ap (λ (it : List (List ℕ)). if is_silent member.command then [] else flat_map (λ line. line) it)
        (complaints-same (deals member.command) (name_of member) (operands_by member.command))

  blanks-same : (operands : List (List ℕ)) → map (λ operand. if has_none one operand then [] else operand) operands ≡ map (λ operand. if has_none other operand then [] else operand) operands
  blanks-same [] = refl
  blanks-same (operand ∷ operands) = λ i. (if lacking-same operand i then [] else operand) ∷ blanks-same operands i

  pub words-same : (called : Called) → words_without (has_none one) called ≡ words_without (has_none other) called
  words-same called = ap (λ (it : List (List ℕ)). take (length called.words - length (operands_by called.command)) called.words ++ it) (blanks-same (operands_by called.command))

  pub ran-same : (member : Called) → ran_of one member ≡ ran_of other member
  ran-same member =
      λ i. noted_over member.command (words-same member i) (count-same (deals member.command) (name_of member) (operands_by member.command) i)

-- of a state that reads a text
module _ (one other : State) (files : one.world.files ≡ other.world.files) (home : one.world.home ≡ other.world.home) (pages : Pages) where
  pub fed-same : (member : Called) (text : List ℕ) → inputs_fed one member text ≡ inputs_fed other member text
  fed-same member text =
      ap inputs_in (given-same (in_session (reading (from.Kept text)) one) (in_session (reading (from.Kept text)) other) files home refl (deals member.command) (name_of member) (operands_by member.command))

  pub written-same : (member : Called) (text : List ℕ) → written_by pages one member text ≡ written_by pages other member text
  written-same member text = ap (pages.output member.command) (fed-same member text)

  pub status-same : (member : Called) (text : List ℕ) → status_for pages one member text ≡ status_for pages other member text
  status-same member text =
      λ i. status_of member.command (lacks-same one other files home (operands_by member.command) i) (pages.selects member.command (fed-same member text i))

  -- of several
  pub through-same : (members : List Called) (text : List ℕ) → text_through pages one members text ≡ text_through pages other members text
  through-same [] text = refl
  through-same (member ∷ rest) text = ap (text_through pages one rest) (written-same member text) ∙ through-same rest (written_by pages other member text)

  pub statuses-same : (members : List Called) (text : List ℕ) → status_through pages one members text ≡ status_through pages other members text
  statuses-same [] text = refl
  statuses-same (last ∷ []) text = status-same last text
  statuses-same (member ∷ next ∷ rest) text =
      ap (status_through pages one (next ∷ rest)) (written-same member text) ∙ statuses-same (next ∷ rest) (written_by pages other member text)

  pub all_lines-same : (members : List Called) → flat_map (lines_for one) members ≡ flat_map (lines_for other) members
  all_lines-same [] = refl
  all_lines-same (member ∷ rest) = λ i. lines-same one other files home pages member i ++ all_lines-same rest i

  pub all_ran-same : (members : List Called) → flat_map (ran_of one) members ≡ flat_map (ran_of other) members
  all_ran-same [] = refl
  all_ran-same (member ∷ rest) = λ i. ran-same one other files home member i ++ all_ran-same rest i

-- what operands give in a state, read as the stream's text
pub fed-self : (state : State) (member : Called) → inputs_fed state member (to_read state) ≡ inputs_in (given_for state member)
fed-self state member =
    ap inputs_in (given-same (in_session (reading (from.Kept (to_read state))) state) state refl refl refl (deals member.command) (name_of member) (operands_by member.command))

-- LINES THAT ARE TOLD at the standard output or error, or nowhere, change no more than the world's
abbrev pub to_output : To → List ℕ → List ℕ
to_output to.Output lines = lines
to_output to.Errors lines = []
to_output (to.Pipe number) lines = []
to_output (to.File path) lines = []
to_output to.Null lines = []

abbrev pub to_errors : To → List ℕ → List ℕ
to_errors to.Output lines = []
to_errors to.Errors lines = lines
to_errors (to.Pipe number) lines = []
to_errors (to.File path) lines = []
to_errors to.Null lines = []

abbrev pub world_told : To → List ℕ → World → World
world_told place lines world = record world { output = world.output ++ to_output place lines; errors = world.errors ++ to_errors place lines }

told-at : (place : To) (lines : List ℕ) (state : State) → is_plain_place place ≡ true → write place lines state ≡ in_world (world_told place lines) state
told-at to.Output lines state is = λ i. in_world (λ world. record world { output = world.output ++ lines; errors = sym (append-nil world.errors) i }) state
told-at to.Errors lines state is = λ i. in_world (λ world. record world { output = sym (append-nil world.output) i; errors = world.errors ++ lines }) state
told-at (to.Pipe number) lines state is = absurd (true≢false (sym is))
told-at (to.File path) lines state is = absurd (true≢false (sym is))
told-at to.Null lines state is = λ i. in_world (λ world. record world { output = sym (append-nil world.output) i; errors = sym (append-nil world.errors) i }) state

none-output : (place : To) → to_output place [] ≡ []
none-output to.Output = refl
none-output to.Errors = refl
none-output (to.Pipe number) = refl
none-output (to.File path) = refl
none-output to.Null = refl

none-errors : (place : To) → to_errors place [] ≡ []
none-errors to.Output = refl
none-errors to.Errors = refl
none-errors (to.Pipe number) = refl
none-errors (to.File path) = refl
none-errors to.Null = refl

pub told-is : (lines : List ℕ) (state : State) → is_plain_place state.session.streams.errors_to ≡ true → tells_some lines state ≡ in_world (world_told state.session.streams.errors_to lines) state
told-is [] state is =
    λ i. in_world (λ world. record world {
      output = (sym (append-nil world.output) ∙ ap (λ (it : List ℕ). world.output ++ it) (sym (none-output state.session.streams.errors_to))) i;
      errors = (sym (append-nil world.errors) ∙ ap (λ (it : List ℕ). world.errors ++ it) (sym (none-errors state.session.streams.errors_to))) i;
    }) state
told-is (byte ∷ bytes) state is = told-at state.session.streams.errors_to (byte ∷ bytes) state is

output-more : (place : To) (first second : List ℕ) → to_output place (first ++ second) ≡ to_output place first ++ to_output place second
output-more to.Output first second = refl
output-more to.Errors first second = refl
output-more (to.Pipe number) first second = refl
output-more (to.File path) first second = refl
output-more to.Null first second = refl

errors-more : (place : To) (first second : List ℕ) → to_errors place (first ++ second) ≡ to_errors place first ++ to_errors place second
errors-more to.Output first second = refl
errors-more to.Errors first second = refl
errors-more (to.Pipe number) first second = refl
errors-more (to.File path) first second = refl
errors-more to.Null first second = refl

-- ONE MEMBER
module _ (pages : Pages) where
  taken-is : (state : State) (member : Called) → on (puts (pages.output member.command (inputs_in (given_for state member)))
      (leaves (status_of member.command (list_any (has_none state) (operands_by member.command)) (pages.selects member.command (inputs_in (given_for state member))))
      (in_world (notes (ran_of state member)) (taken_in (reads_standard (operands_by member.command)) state))))
      ≡ takes_through pages (member ∷ []) state
  taken-is state member =
      λ i. on (puts (pages.output member.command (sym (fed-self state member) i))
      (leaves (status_of member.command (list_any (has_none state) (operands_by member.command)) (pages.selects member.command (sym (fed-self state member) i)))
      (noted-so i)))
    where
      noted-so : in_world (notes (ran_of state member)) (taken_in (reads_standard (operands_by member.command)) state)
          ≡ in_world (notes (flat_map (ran_of state) (member ∷ []))) (taken_in (reads_standard (operands_by member.command)) state)
      noted-so = λ i. in_world (notes (sym (append-nil (ran_of state member)) i)) (taken_in (reads_standard (operands_by member.command)) state)

  pub single-is : (state : State) (member : Called) → IsPlain state member → member_means pages member state ≡ runs_through pages (member ∷ []) state
  single-is state member plain =
      ap (λ (it : Bool). if it then does_nothing pages (name_of member) member state
      else writes_out pages (name_of member) member state) plain.is_whole
      ∙ ap (λ (it : List ℕ). takes_inputs pages (name_of member) member (tells_some it state)) (sym (append-nil (lines_for state member)))
      ∙ taken-is (tells_some (lines_for state member ++ []) state) member

-- A PIPE that is opened takes in what is written, and is closed
grown-last : (pipes : List (List ℕ)) (bytes : List ℕ) → grown_at (length pipes) bytes (pipes ++ [] ∷ []) ≡ pipes ++ bytes ∷ []
grown-last [] bytes = refl
grown-last (pipe ∷ pipes) bytes = ap (λ (it : List (List ℕ)). pipe ∷ it) (grown-last pipes bytes)

one-fewer : (pipes : List (List ℕ)) (bytes : List ℕ) → length (pipes ++ bytes ∷ []) - 1 ≡ length pipes
one-fewer pipes bytes = let longer = length-append pipes (bytes ∷ []) in omega (arith, longer)

last-at : (pipes : List (List ℕ)) (bytes : List ℕ) → get_or (pipes ++ bytes ∷ []) (length pipes) [] ≡ bytes
last-at [] bytes = refl
last-at (pipe ∷ pipes) bytes = last-at pipes bytes

front-at : (pipes : List (List ℕ)) (bytes : List ℕ) → take (length pipes) (pipes ++ bytes ∷ []) ≡ pipes
front-at [] bytes = refl
front-at (pipe ∷ pipes) bytes = ap (λ (it : List (List ℕ)). pipe ∷ it) (front-at pipes bytes)

last-of : (pipes : List (List ℕ)) (bytes : List ℕ) → get_or (pipes ++ bytes ∷ []) (length (pipes ++ bytes ∷ []) - 1) [] ≡ bytes
last-of pipes bytes = ap (λ (it : ℕ). get_or (pipes ++ bytes ∷ []) it []) (one-fewer pipes bytes) ∙ last-at pipes bytes

front-of : (pipes : List (List ℕ)) (bytes : List ℕ) → take (length (pipes ++ bytes ∷ []) - 1) (pipes ++ bytes ∷ []) ≡ pipes
front-of pipes bytes = ap (λ (it : ℕ). take it (pipes ++ bytes ∷ [])) (one-fewer pipes bytes) ∙ front-at pipes bytes

-- of the pipes, what the stage hands on, and what stays open
closed-pipes : (session : Session) (bytes : List ℕ)
    → unpiped session.streams.to (record session { pipes = grown_at (length session.pipes) bytes (session.pipes ++ [] ∷ []); piped = innermost (record session { pipes = grown_at (length session.pipes) bytes (session.pipes ++ [] ∷ []) }) })
    ≡ record session { piped = bytes }
closed-pipes session bytes =
    ap (λ (it : List (List ℕ)). unpiped session.streams.to (record session { pipes = it; piped = innermost (record session { pipes = it }) })) (grown-last session.pipes bytes)
    ∙ (λ i. record session { pipes = front-of session.pipes bytes i; piped = last-of session.pipes bytes i })

-- STAGES. One behind another reads what was handed on, and hands on what it writes
abbrev first_in : (Shell → Shell) → State → State
first_in changes state = record { shell = changes (inside state.shell); session = piping state.session; world = state.world }

abbrev middle_in : (Shell → Shell) → State → State
middle_in changes state = record { shell = changes (inside state.shell); session = piping (reading_piped state.session); world = state.world }

abbrev last_in : (Shell → Shell) → State → State
last_in changes state = record { shell = changes (inside state.shell); session = reading_piped state.session; world = state.world }

-- what a stage leaves, by how its command came out
abbrev first_from : State → Ends → Ends
first_from state left = first_stage (λ inner. left) state

abbrev middle_from : State → Ends → Ends
middle_from state left = middle_stage (λ inner. left) state

abbrev last_from : State → Ends → Ends
last_from state left = last_stage (λ inner. left) state

-- the world behind lines that were told, where these words are noted
abbrev world_behind : To → List ℕ → List Noted → World → World
world_behind place lines ran world = notes ran (world_told place lines world)

behind-more : (place : To) (first second : List ℕ) (ran more : List Noted) (world : World)
    → world_behind place second more (world_behind place first ran world) ≡ world_behind place (first ++ second) (ran ++ more) world
behind-more place first second ran more world =
    λ i. record world {
      output = (append_assoc world.output (to_output place first) (to_output place second) ∙ ap (λ (it : List ℕ). world.output ++ it) (sym (output-more place first second))) i;
      errors = (append_assoc world.errors (to_errors place first) (to_errors place second) ∙ ap (λ (it : List ℕ). world.errors ++ it) (sym (errors-more place first second))) i;
      ran = append_assoc world.ran ran more i;
    }

-- a state behind lines, whose output is still to be written
abbrev ready : List ℕ → List Noted → ℕ → Bool → State → State
ready lines ran status reads state = leaves status (in_world (notes ran) (taken_in reads (in_world (world_told state.session.streams.errors_to lines) state)))

-- a middle stage leaves this
abbrev middle_left : List ℕ → List Noted → List ℕ → State → State
middle_left lines ran written state =
    record {
      shell = state.shell;
      session = record state.session { piped = written };
      world = world_behind state.session.streams.errors_to lines ran state.world;
    }

middle-ready : (changes : Shell → Shell) (reads : Bool) (lines written : List ℕ) (ran : List Noted) (status : ℕ) (state : State)
    → middle_from state (on (puts written (ready lines ran status reads (middle_in changes state)))) ≡ on (middle_left lines ran written state)
middle-ready changes true lines written ran status state =
    λ i. on (record {
      shell = state.shell;
      session = reading state.session.streams.from (closed-pipes (reading (from.Kept []) (record state.session { piped = [] })) written i);
      world = world_behind state.session.streams.errors_to lines ran state.world;
    })
middle-ready changes false lines written ran status state =
    λ i. on (record {
      shell = state.shell;
      session = reading state.session.streams.from (closed-pipes (reading (from.Kept state.session.piped) (record state.session { piped = [] })) written i);
      world = world_behind state.session.streams.errors_to lines ran state.world;
    })

-- and the first this: what it has read of the standard input stays read
abbrev first_left : List ℕ → List Noted → List ℕ → Bool → State → State
first_left lines ran written reads state =
    let taken = taken_in reads state in
    record {
      shell = state.shell;
      session = record taken.session { piped = written };
      world = world_behind state.session.streams.errors_to lines ran taken.world;
    }

first-taken : (changes : Shell → Shell) (place : From) (lines written : List ℕ) (ran : List Noted) (status : ℕ) (state : State) → state.session.streams.from ≡ place
    → first_from state (on (puts written (leaves status (in_world (notes ran) (leaving place [] (in_world (world_told state.session.streams.errors_to lines) (first_in changes state)))))))
    ≡ on (record {
      shell = state.shell;
      session = record (leaving place [] state).session { piped = written };
      world = world_behind state.session.streams.errors_to lines ran (leaving place [] state).world;
    })
first-taken changes from.Standard lines written ran status state is =
    λ i. on (record {
      shell = state.shell;
      session = closed-pipes state.session written i;
      world = world_behind state.session.streams.errors_to lines ran (leaving from.Standard [] state).world;
    })
first-taken changes (from.Kept text) lines written ran status state is =
    λ i. on (record {
      shell = state.shell;
      session = closed-pipes (reading (from.Kept []) state.session) written i;
      world = world_behind state.session.streams.errors_to lines ran state.world;
    })

first-ready : (changes : Shell → Shell) (reads : Bool) (lines written : List ℕ) (ran : List Noted) (status : ℕ) (state : State)
    → first_from state (on (puts written (ready lines ran status reads (first_in changes state)))) ≡ on (first_left lines ran written reads state)
first-ready changes true lines written ran status state = first-taken changes state.session.streams.from lines written ran status state refl
first-ready changes false lines written ran status state =
    λ i. on (record {
      shell = state.shell;
      session = closed-pipes state.session written i;
      world = world_behind state.session.streams.errors_to lines ran state.world;
    })

-- the last writes where the shell writes
abbrev last_left : List ℕ → List Noted → ℕ → List ℕ → State → State
last_left lines ran status text state =
    write state.session.streams.to text (record {
      shell = with_status status state.shell;
      session = record state.session { piped = [] };
      world = world_behind state.session.streams.errors_to lines ran state.world;
    })

last-written : (changes : Shell → Shell) (place : To) (reads : Bool) (lines text : List ℕ) (ran : List Noted) (status : ℕ) (state : State)
    → last_from state (on (write place text (ready lines ran status reads (last_in changes state))))
    ≡ on (write place text (record {
      shell = with_status status state.shell;
      session = record state.session { piped = [] };
      world = world_behind state.session.streams.errors_to lines ran state.world;
    }))
last-written changes to.Output true lines text ran status state = refl
last-written changes to.Output false lines text ran status state = refl
last-written changes to.Errors true lines text ran status state = refl
last-written changes to.Errors false lines text ran status state = refl
last-written changes (to.Pipe number) true lines text ran status state = refl
last-written changes (to.Pipe number) false lines text ran status state = refl
last-written changes (to.File path) true lines text ran status state = refl
last-written changes (to.File path) false lines text ran status state = refl
last-written changes to.Null true lines text ran status state = refl
last-written changes to.Null false lines text ran status state = refl

-- and nothing else is left in a pipe
last-emptied : (changes : Shell → Shell) (place : To) (reads : Bool) (lines text : List ℕ) (ran : List Noted) (status : ℕ) (state : State)
    → last_from state (emptied (on (write place text (ready lines ran status reads (last_in changes state)))))
    ≡ on (write place text (record {
      shell = with_status status state.shell;
      session = record state.session { piped = [] };
      world = world_behind state.session.streams.errors_to lines ran state.world;
    }))
last-emptied changes to.Output true lines text ran status state = refl
last-emptied changes to.Output false lines text ran status state = refl
last-emptied changes to.Errors true lines text ran status state = refl
last-emptied changes to.Errors false lines text ran status state = refl
last-emptied changes (to.Pipe number) true lines text ran status state = refl
last-emptied changes (to.Pipe number) false lines text ran status state = refl
last-emptied changes (to.File path) true lines text ran status state = refl
last-emptied changes (to.File path) false lines text ran status state = refl
last-emptied changes to.Null true lines text ran status state = refl
last-emptied changes to.Null false lines text ran status state = refl

to-taken : (changes : Shell → Shell) (reads : Bool) (lines : List ℕ) (ran : List Noted) (status : ℕ) (state : State) → (ready lines ran status reads (last_in changes state)).session.streams.to ≡ state.session.streams.to
to-taken changes true lines ran status state = refl
to-taken changes false lines ran status state = refl

last-ready : (changes : Shell → Shell) (reads : Bool) (lines text : List ℕ) (ran : List Noted) (status : ℕ) (state : State)
    → last_from state (on (puts text (ready lines ran status reads (last_in changes state)))) ≡ on (last_left lines ran status text state)
last-ready changes reads lines text ran status state =
    ap (λ (it : To). last_from state (on (write it text (ready lines ran status reads (last_in changes state))))) (to-taken changes reads lines ran status state)
    ∙ last-written changes state.session.streams.to reads lines text ran status state

emptied-ready : (changes : Shell → Shell) (reads : Bool) (lines text : List ℕ) (ran : List Noted) (status : ℕ) (state : State)
    → last_from state (emptied (on (puts text (ready lines ran status reads (last_in changes state))))) ≡ on (last_left lines ran status text state)
emptied-ready changes reads lines text ran status state =
    ap (λ (it : To). last_from state (emptied (on (write it text (ready lines ran status reads (last_in changes state)))))) (to-taken changes reads lines ran status state)
    ∙ last-emptied changes state.session.streams.to reads lines text ran status state

plain-same : (one other : State) (files : one.world.files ≡ other.world.files) (home : one.world.home ≡ other.world.home) (member : Called) → IsPlain one member → IsPlain other member
plain-same one other files home member plain =
    record {
      is_whole = ap (λ (it : Bool). needs_all member.command && it) (sym (lacks-same one other files home (operands_by member.command))) ∙ plain.is_whole;
    }

pub all_plain-same : (one other : State) (files : one.world.files ≡ other.world.files) (home : one.world.home ≡ other.world.home) (members : List Called) → AllPlain one members → AllPlain other members
all_plain-same one other files home [] plain = tt
all_plain-same one other files home (member ∷ rest) plain = (plain-same one other files home member plain.0, all_plain-same one other files home rest plain.1)

module _ (pages : Pages) where
  -- what is done in a state, in which the stream that is read is this text, by what is meant outside of it
  module _ (members : List Called) (outer inner : State) (files : inner.world.files ≡ outer.world.files) (home : inner.world.home ≡ outer.world.home) (leave : Ends → Ends)
      (plain : is_plain_place inner.session.streams.errors_to ≡ true) where
    abbrev lines_in : List ℕ
    lines_in = flat_map (lines_for inner) members

    abbrev told_in : State
    told_in = in_world (world_told inner.session.streams.errors_to lines_in) inner

    pub readied : leave (runs_through pages members inner)
        ≡ leave (on (puts (text_through pages outer members (to_read told_in))
        (ready (flat_map (lines_for outer) members) (flat_map (ran_of outer) members) (status_through pages outer members (to_read told_in)) (reads_first members) inner)))
    readied =
        ap (λ (it : State). leave (takes_through pages members it)) (told-is lines_in inner plain)
        ∙ λ i. leave (on (puts (through-same told_in outer files home pages members (to_read told_in) i)
        (leaves (statuses-same told_in outer files home pages members (to_read told_in) i)
        (in_world (notes (all_ran-same told_in outer files home pages members i))
        (taken_in (reads_first members) (in_world (world_told inner.session.streams.errors_to (all_lines-same inner outer files home pages members i)) inner))))))

  -- ONE BEHIND ANOTHER
  abbrev later_left : List Called → State → State
  later_left members state =
      last_left (flat_map (lines_for state) members) (flat_map (ran_of state) members) (status_through pages state members state.session.piped)
      (text_through pages state members state.session.piped) state

  abbrev handed_by : Called → State → State
  handed_by member state = middle_left (flat_map (lines_for state) (member ∷ [])) (flat_map (ran_of state) (member ∷ [])) (written_by pages state member state.session.piped) state

  to_read-told : (from_place : From) (place : To) (lines : List ℕ) (world : World) → left_in from_place (world_told place lines world) ≡ left_in from_place world
  to_read-told from.Standard place lines world = refl
  to_read-told (from.Kept text) place lines world = refl

  abbrev started_by : Called → State → State
  started_by member state =
      first_left (flat_map (lines_for state) (member ∷ [])) (flat_map (ran_of state) (member ∷ [])) (written_by pages state member (to_read state)) (reads_first (member ∷ [])) state

  -- what all leave
  abbrev all_left : List ℕ → List Noted → ℕ → List ℕ → Bool → State → State
  all_left lines ran status text reads state =
      let taken = taken_in reads state in
      write state.session.streams.to text (record {
        shell = with_status status state.shell;
        session = record taken.session { piped = [] };
        world = world_behind state.session.streams.errors_to lines ran taken.world;
      })

  files-taken : (reads : Bool) (place : From) (state : State)
      → ((if reads then leaving place [] state else state).world.files ≡ state.world.files) × ((if reads then leaving place [] state else state).world.home ≡ state.world.home)
  files-taken true from.Standard state = (refl, refl)
  files-taken true (from.Kept text) state = (refl, refl)
  files-taken false place state = (refl, refl)

  places-taken : (reads : Bool) (place : From) (state : State)
      → ((if reads then leaving place [] state else state).session.streams.to ≡ state.session.streams.to) × ((if reads then leaving place [] state else state).session.streams.errors_to ≡ state.session.streams.errors_to)
  places-taken true from.Standard state = (refl, refl)
  places-taken true (from.Kept text) state = (refl, refl)
  places-taken false place state = (refl, refl)

  all-written : (place : To) (from_place : From) (reads : Bool) (lines text : List ℕ) (ran : List Noted) (status : ℕ) (state : State)
      → emptied (on (write place text (leaves status (in_world (notes ran) (if reads then leaving from_place [] (in_world (world_told state.session.streams.errors_to lines) state) else in_world (world_told state.session.streams.errors_to lines) state)))))
      ≡ on (write place text (record {
        shell = with_status status state.shell;
        session = record (if reads then leaving from_place [] state else state).session { piped = [] };
        world = world_behind state.session.streams.errors_to lines ran (if reads then leaving from_place [] state else state).world;
      }))
  all-written to.Output from.Standard true lines text ran status state = refl
  all-written to.Output (from.Kept rest) true lines text ran status state = refl
  all-written to.Output place false lines text ran status state = refl
  all-written to.Errors from.Standard true lines text ran status state = refl
  all-written to.Errors (from.Kept rest) true lines text ran status state = refl
  all-written to.Errors place false lines text ran status state = refl
  all-written (to.Pipe number) from.Standard true lines text ran status state = refl
  all-written (to.Pipe number) (from.Kept rest) true lines text ran status state = refl
  all-written (to.Pipe number) place false lines text ran status state = refl
  all-written (to.File path) from.Standard true lines text ran status state = refl
  all-written (to.File path) (from.Kept rest) true lines text ran status state = refl
  all-written (to.File path) place false lines text ran status state = refl
  all-written to.Null from.Standard true lines text ran status state = refl
  all-written to.Null (from.Kept rest) true lines text ran status state = refl
  all-written to.Null place false lines text ran status state = refl

  to-ready : (reads : Bool) (place : From) (told_to : To) (lines : List ℕ) (state : State) → (if reads then leaving place [] (in_world (world_told told_to lines) state) else in_world (world_told told_to lines) state).session.streams.to ≡ state.session.streams.to
  to-ready true from.Standard told_to lines state = refl
  to-ready true (from.Kept text) told_to lines state = refl
  to-ready false place told_to lines state = refl

  all-as_one : (members : List Called) (state : State) → is_plain_place state.session.streams.errors_to ≡ true
      → emptied (runs_through pages members state)
      ≡ on (all_left (flat_map (lines_for state) members) (flat_map (ran_of state) members) (status_through pages state members (to_read state)) (text_through pages state members (to_read state)) (reads_first members) state)
  all-as_one members state plain =
      readied members state state refl refl emptied plain
      ∙ ap (λ (it : List ℕ). emptied (on (puts (text_through pages state members it)
      (ready (flat_map (lines_for state) members) (flat_map (ran_of state) members) (status_through pages state members it) (reads_first members) state))))
      (to_read-told state.session.streams.from state.session.streams.errors_to (flat_map (lines_for state) members) state.world)
      ∙ ap (λ (it : To). emptied (on (write it (text_through pages state members (to_read state))
      (ready (flat_map (lines_for state) members) (flat_map (ran_of state) members) (status_through pages state members (to_read state)) (reads_first members) state))))
      (to-ready (reads_first members) state.session.streams.from state.session.streams.errors_to (flat_map (lines_for state) members) state)
      ∙ all-written state.session.streams.to state.session.streams.from (reads_first members) (flat_map (lines_for state) members) (text_through pages state members (to_read state))
      (flat_map (ran_of state) members) (status_through pages state members (to_read state)) state

  -- THE COMMANDS OF STAGES run the utilities
  module _ (expansions : Expansions) (files : Files) (home : Components) (held : List Held) (shell : Shell) where
    abbrev Member : CommandTree → Called → Type 0
    Member tree member = IsMember expansions pages files home held shell tree member

    abbrev Members : CommandTrees → List Called → Type 0
    Members trees members = AreMembers expansions pages files home held shell trees members

    -- a state in which they do
    pub record IsAt (state : State) : Type 0 where
      pub files_are : state.world.files ≡ files
      pub home_is : state.world.home ≡ home
      pub held_are : state.session.streams.held ≡ held
      pub shell_is : state.shell ≡ shell
      pub plain : is_plain_place state.session.streams.errors_to ≡ true

    last-so : (tree : CommandTree) (member : Called) (state : State) → Member tree member → IsAt state → IsPlain state member
        → last_stage (command_means expansions pages tree) state ≡ on (later_left (member ∷ []) state)
    last-so tree member state one at is =
        let changes = one.changes in
        ap (last_from state) (one.is (last_in (λ it. it) state) at.files_are at.home_is at.held_are (ap inside at.shell_is)
        ∙ single-is pages (last_in changes state) member (plain-same state (last_in changes state) refl refl member is))
        ∙ readied (member ∷ []) state (last_in changes state) refl refl (last_from state) at.plain
        ∙ last-ready changes (reads_first (member ∷ [])) (flat_map (lines_for state) (member ∷ [])) (text_through pages state (member ∷ []) state.session.piped) (flat_map (ran_of state) (member ∷ []))
        (status_through pages state (member ∷ []) state.session.piped) state

    middle-so : (tree : CommandTree) (member : Called) (state : State) → Member tree member → IsAt state → IsPlain state member
        → middle_stage (command_means expansions pages tree) state ≡ on (handed_by member state)
    middle-so tree member state one at is =
        let changes = one.changes in
        ap (middle_from state) (one.is (middle_in (λ it. it) state) at.files_are at.home_is at.held_are (ap inside at.shell_is)
        ∙ single-is pages (middle_in changes state) member (plain-same state (middle_in changes state) refl refl member is))
        ∙ readied (member ∷ []) state (middle_in changes state) refl refl (middle_from state) at.plain
        ∙ middle-ready changes (reads_first (member ∷ [])) (flat_map (lines_for state) (member ∷ [])) (text_through pages state (member ∷ []) state.session.piped) (flat_map (ran_of state) (member ∷ []))
        (status_through pages state (member ∷ []) state.session.piped) state

    handed-at : (member : Called) (state : State) → IsAt state → IsAt (handed_by member state)
    handed-at member state at = record { files_are = at.files_are; home_is = at.home_is; held_are = at.held_are; shell_is = at.shell_is; plain = at.plain }

    pub later-so : (tree : CommandTree) (trees : CommandTrees) (member : Called) (rest : List Called) (state : State) → Members (command tree trees) (member ∷ rest) → IsAt state → AllPlain state (member ∷ rest)
        → later_stages_mean expansions pages (command tree trees) state ≡ on (later_left (member ∷ rest) state)
    later-so tree no_command member [] state are at all = last-so tree member state are.0 at all.0
    later-so tree no_command member (next ∷ rest) state are at all = absurd are.1
    later-so tree (command after_it trees) member [] state are at all = absurd are.1
    later-so tree (command after_it trees) member (next ∷ rest) state are at all =
        ap (λ (it : Ends). after it (later_stages_mean expansions pages (command after_it trees))) (middle-so tree member state are.0 at all.0)
        ∙ later-so after_it trees next rest (handed_by member state) are.1 (handed-at member state at) (all_plain-same state (handed_by member state) refl refl (next ∷ rest) all.1)
        ∙ (λ i. on (write state.session.streams.to (through-same (handed_by member state) state refl refl pages (next ∷ rest) (written_by pages state member state.session.piped) i) (record {
          shell = with_status (statuses-same (handed_by member state) state refl refl pages (next ∷ rest) (written_by pages state member state.session.piped) i) state.shell;
          session = record state.session { piped = [] };
          world = world_behind state.session.streams.errors_to (all_lines-same (handed_by member state) state refl refl pages (next ∷ rest) i) (all_ran-same (handed_by member state) state refl refl pages (next ∷ rest) i) (handed_by member state).world;
        })))
        ∙ ap (λ (it : World). on (write state.session.streams.to (text_through pages state (member ∷ next ∷ rest) state.session.piped) (record {
          shell = with_status (status_through pages state (member ∷ next ∷ rest) state.session.piped) state.shell;
          session = record state.session { piped = [] };
          world = it;
        })))
        (behind-more state.session.streams.errors_to (flat_map (lines_for state) (member ∷ [])) (flat_map (lines_for state) (next ∷ rest)) (flat_map (ran_of state) (member ∷ []))
        (flat_map (ran_of state) (next ∷ rest)) state.world
        ∙ λ i. world_behind state.session.streams.errors_to (append_assoc (lines_for state member) [] (flat_map (lines_for state) (next ∷ rest)) i)
        (append_assoc (ran_of state member) [] (flat_map (ran_of state) (next ∷ rest)) i) state.world)

    -- STAGES BEHIND WHICH OTHERS STAND leave this for these
    abbrev left_as : List ℕ → World → State → State
    left_as text world state = record { shell = state.shell; session = record state.session { piped = text }; world = world }

    abbrev pub handed_all : List Called → State → State
    handed_all members state =
        middle_left (flat_map (lines_for state) members) (flat_map (ran_of state) members) (text_through pages state members state.session.piped) state

    handed-more : (member next : Called) (rest : List Called) (state : State) → handed_all (next ∷ rest) (handed_by member state) ≡ handed_all (member ∷ next ∷ rest) state
    handed-more member next rest state =
        (λ i. left_as (through-same (handed_by member state) state refl refl pages (next ∷ rest) (written_by pages state member state.session.piped) i)
        (world_behind state.session.streams.errors_to (all_lines-same (handed_by member state) state refl refl pages (next ∷ rest) i) (all_ran-same (handed_by member state) state refl refl pages (next ∷ rest) i) (handed_by member state).world) state)
        ∙ ap (λ (it : World). left_as (text_through pages state (member ∷ next ∷ rest) state.session.piped) it state)
        (behind-more state.session.streams.errors_to (flat_map (lines_for state) (member ∷ [])) (flat_map (lines_for state) (next ∷ rest)) (flat_map (ran_of state) (member ∷ []))
        (flat_map (ran_of state) (next ∷ rest)) state.world
        ∙ λ i. world_behind state.session.streams.errors_to (append_assoc (lines_for state member) [] (flat_map (lines_for state) (next ∷ rest)) i)
        (append_assoc (ran_of state member) [] (flat_map (ran_of state) (next ∷ rest)) i) state.world)

    pub later-front : (one : Command) (front : List Command) (behind : Command) (more : List Command) (member : Called) (rest : List Called) (state : State)
        → Members (stages_tree (one ∷ front)) (member ∷ rest) → IsAt state → AllPlain state (member ∷ rest)
        → later_stages_mean expansions pages (stages_tree ((one ∷ front) ++ behind ∷ more)) state ≡ later_stages_mean expansions pages (stages_tree (behind ∷ more)) (handed_all (member ∷ rest) state)
    later-front one [] behind more member [] state are at all =
        ap (λ (it : Ends). after it (later_stages_mean expansions pages (stages_tree (behind ∷ more)))) (middle-so (command_tree one) member state are.0 at all.0)
    later-front one [] behind more member (next ∷ rest) state are at all = absurd are.1
    later-front one (second ∷ front) behind more member [] state are at all = absurd are.1
    later-front one (second ∷ front) behind more member (next ∷ rest) state are at all =
        ap (λ (it : Ends). after it (later_stages_mean expansions pages (stages_tree ((second ∷ front) ++ behind ∷ more)))) (middle-so (command_tree one) member state are.0 at all.0)
        ∙ later-front second front behind more next rest (handed_by member state) are.1 (handed-at member state at) (all_plain-same state (handed_by member state) refl refl (next ∷ rest) all.1)
        ∙ ap (later_stages_mean expansions pages (stages_tree (behind ∷ more))) (handed-more member next rest state)

    -- as one they leave the same
    pub middle-as_one : (members : List Called) (state : State) → IsAt state → middle_stage (λ inner. emptied (runs_through pages members inner)) state ≡ on (handed_all members state)
    middle-as_one members state at =
        readied members state (middle_in (λ it. it) state) refl refl (middle_from state) at.plain
        ∙ middle-ready (λ it. it) (reads_first members) (flat_map (lines_for state) members) (text_through pages state members state.session.piped) (flat_map (ran_of state) members)
        (status_through pages state members state.session.piped) state

    pub last-as_one : (members : List Called) (state : State) → IsAt state → last_stage (λ inner. emptied (runs_through pages members inner)) state ≡ on (later_left members state)
    last-as_one members state at =
        readied members state (last_in (λ it. it) state) refl refl (λ it. last_from state (emptied it)) at.plain
        ∙ emptied-ready (λ it. it) (reads_first members) (flat_map (lines_for state) members) (text_through pages state members state.session.piped) (flat_map (ran_of state) members)
        (status_through pages state members state.session.piped) state

    first-so : (tree : CommandTree) (member : Called) (state : State) → Member tree member → IsAt state → IsPlain state member
        → first_stage (command_means expansions pages tree) state ≡ on (started_by member state)
    first-so tree member state one at is =
        let changes = one.changes in
        let told : State = in_world (world_told state.session.streams.errors_to (flat_map (lines_for (first_in changes state)) (member ∷ []))) (first_in changes state) in
        ap (first_from state) (one.is (first_in (λ it. it) state) at.files_are at.home_is at.held_are (ap inside at.shell_is)
        ∙ single-is pages (first_in changes state) member (plain-same state (first_in changes state) refl refl member is))
        ∙ readied (member ∷ []) state (first_in changes state) refl refl (first_from state) at.plain
        ∙ first-ready changes (reads_first (member ∷ [])) (flat_map (lines_for state) (member ∷ [])) (text_through pages state (member ∷ []) (to_read told))
        (flat_map (ran_of state) (member ∷ [])) (status_through pages state (member ∷ []) (to_read told)) state
        ∙ ap (λ (it : List ℕ). on (first_left (flat_map (lines_for state) (member ∷ [])) (flat_map (ran_of state) (member ∷ [])) (written_by pages state member it) (reads_first (member ∷ [])) state))
        (to_read-told state.session.streams.from state.session.streams.errors_to (flat_map (lines_for (first_in changes state)) (member ∷ [])) state.world)

    started-at : (member : Called) (reads : Bool) (place : From) (state : State) → IsAt state
        → IsAt (record {
          shell = state.shell;
          session = record (if reads then leaving place [] state else state).session { piped = written_by pages state member (to_read state) };
          world = world_behind state.session.streams.errors_to (flat_map (lines_for state) (member ∷ [])) (flat_map (ran_of state) (member ∷ [])) (if reads then leaving place [] state else state).world;
        })
    started-at member true from.Standard state at = record { files_are = at.files_are; home_is = at.home_is; held_are = at.held_are; shell_is = at.shell_is; plain = at.plain }
    started-at member true (from.Kept text) state at = record { files_are = at.files_are; home_is = at.home_is; held_are = at.held_are; shell_is = at.shell_is; plain = at.plain }
    started-at member false place state at = record { files_are = at.files_are; home_is = at.home_is; held_are = at.held_are; shell_is = at.shell_is; plain = at.plain }

    -- THE FIRST STAGES leave this for those behind them
    abbrev pub first_handed : List Called → State → State
    first_handed members state =
        first_left (flat_map (lines_for state) members) (flat_map (ran_of state) members) (text_through pages state members (to_read state)) (reads_first members) state

    pub first-as_one : (members : List Called) (state : State) → IsAt state → first_stage (λ inner. emptied (runs_through pages members inner)) state ≡ on (first_handed members state)
    first-as_one members state at =
        readied members state (first_in (λ it. it) state) refl refl (first_from state) at.plain
        ∙ first-ready (λ it. it) (reads_first members) (flat_map (lines_for state) members) (text_through pages state members (to_read told)) (flat_map (ran_of state) members)
        (status_through pages state members (to_read told)) state
        ∙ ap (λ (it : List ℕ). on (first_left (flat_map (lines_for state) members) (flat_map (ran_of state) members) (text_through pages state members it) (reads_first members) state))
        (to_read-told state.session.streams.from state.session.streams.errors_to (flat_map (lines_for (first_in (λ it. it) state)) members) state.world)
      where
        told : State
        told = in_world (world_told state.session.streams.errors_to (flat_map (lines_for (first_in (λ it. it) state)) members)) (first_in (λ it. it) state)

    module _ (member next : Called) (rest : List Called) (state : State) where
      abbrev taken_first : State
      taken_first = taken_in (reads_first (member ∷ [])) state

      abbrev first_written : List ℕ
      first_written = written_by pages state member (to_read state)

      files_first : taken_first.world.files ≡ state.world.files
      files_first = (files-taken (reads_first (member ∷ [])) state.session.streams.from state).0

      home_first : taken_first.world.home ≡ state.world.home
      home_first = (files-taken (reads_first (member ∷ [])) state.session.streams.from state).1

      abbrev taken_as : List ℕ → World → State
      taken_as text world = record { shell = state.shell; session = record taken_first.session { piped = text }; world = world }

      started-more : handed_all (next ∷ rest) (started_by member state) ≡ first_handed (member ∷ next ∷ rest) state
      started-more =
          (λ i. taken_as (through-same (started_by member state) state files_first home_first pages (next ∷ rest) first_written i)
          (world_behind ((places-taken (reads_first (member ∷ [])) state.session.streams.from state).1 i) (all_lines-same (started_by member state) state files_first home_first pages (next ∷ rest) i)
          (all_ran-same (started_by member state) state files_first home_first pages (next ∷ rest) i) (started_by member state).world))
          ∙ ap (taken_as (text_through pages state (next ∷ rest) first_written))
          (behind-more state.session.streams.errors_to (flat_map (lines_for state) (member ∷ [])) (flat_map (lines_for state) (next ∷ rest)) (flat_map (ran_of state) (member ∷ []))
          (flat_map (ran_of state) (next ∷ rest)) taken_first.world
          ∙ λ i. world_behind state.session.streams.errors_to (append_assoc (lines_for state member) [] (flat_map (lines_for state) (next ∷ rest)) i)
          (append_assoc (ran_of state member) [] (flat_map (ran_of state) (next ∷ rest)) i) taken_first.world)

    pub first-front : (one second : Command) (front : List Command) (behind : Command) (more : List Command) (member next : Called) (rest : List Called) (state : State)
        → Members (stages_tree (one ∷ second ∷ front)) (member ∷ next ∷ rest) → IsAt state → AllPlain state (member ∷ next ∷ rest)
        → stages_means expansions pages (stages_tree ((one ∷ second ∷ front) ++ behind ∷ more)) state ≡ later_stages_mean expansions pages (stages_tree (behind ∷ more)) (first_handed (member ∷ next ∷ rest) state)
    first-front one second front behind more member next rest state are at all =
        ap (λ (it : Ends). after it (later_stages_mean expansions pages (stages_tree ((second ∷ front) ++ behind ∷ more)))) (first-so (command_tree one) member state are.0 at all.0)
        ∙ later-front second front behind more next rest (started_by member state) are.1 (started-at member (reads_first (member ∷ [])) state.session.streams.from state at)
        (all_plain-same state (started_by member state) (sym (files_first member next rest state)) (sym (home_first member next rest state)) (next ∷ rest) all.1)
        ∙ ap (later_stages_mean expansions pages (stages_tree (behind ∷ more))) (started-more member next rest state)

    -- all stages run as one command
    pub several-as_one : (tree second : CommandTree) (trees : CommandTrees) (first next : Called) (rest : List Called) (state : State) → Members (command tree (command second trees)) (first ∷ next ∷ rest)
        → IsAt state → AllPlain state (first ∷ next ∷ rest)
        → stages_means expansions pages (command tree (command second trees)) state ≡ emptied (runs_through pages (first ∷ next ∷ rest) state)
    several-as_one tree second trees first next rest state are at all =
        ap (λ (it : Ends). after it (later_stages_mean expansions pages (command second trees))) (first-so tree first state are.0 at all.0)
        ∙ later-so second trees next rest started are.1 (started-at first reads state.session.streams.from state at) (all_plain-same state started (sym files') (sym home') (next ∷ rest) all.1)
        ∙ (λ i. on (write (places.0 i) (through-same started state files' home' pages (next ∷ rest) written i) (record {
          shell = with_status (statuses-same started state files' home' pages (next ∷ rest) written i) state.shell;
          session = record taken.session { piped = [] };
          world = world_behind (places.1 i) (all_lines-same started state files' home' pages (next ∷ rest) i) (all_ran-same started state files' home' pages (next ∷ rest) i) started.world;
        })))
        ∙ ap (λ (it : World). on (write state.session.streams.to (text_through pages state (next ∷ rest) written) (record {
          shell = with_status (status_through pages state (next ∷ rest) written) state.shell;
          session = record taken.session { piped = [] };
          world = it;
        })))
        (behind-more state.session.streams.errors_to (flat_map (lines_for state) (first ∷ [])) (flat_map (lines_for state) (next ∷ rest)) (flat_map (ran_of state) (first ∷ []))
        (flat_map (ran_of state) (next ∷ rest)) taken.world
        ∙ λ i. world_behind state.session.streams.errors_to (append_assoc (lines_for state first) [] (flat_map (lines_for state) (next ∷ rest)) i)
        (append_assoc (ran_of state first) [] (flat_map (ran_of state) (next ∷ rest)) i) taken.world)
        ∙ sym (all-as_one (first ∷ next ∷ rest) state at.plain)
      where
        reads : Bool
        reads = reads_first (first ∷ [])

        taken : State
        taken = taken_in reads state

        written : List ℕ
        written = written_by pages state first (to_read state)

        started : State
        started = started_by first state

        files' : taken.world.files ≡ state.world.files
        files' = (files-taken reads state.session.streams.from state).0

        home' : taken.world.home ≡ state.world.home
        home' = (files-taken reads state.session.streams.from state).1

        places : (taken.session.streams.to ≡ state.session.streams.to) × (taken.session.streams.errors_to ≡ state.session.streams.errors_to)
        places = places-taken reads state.session.streams.from state
