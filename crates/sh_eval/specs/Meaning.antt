-- What a script means (XCU 2.9, 2.10.2), by its structure: a function from a state to how the script goes on and the state then. What words
-- mean, and what a utility's page says, is given.
use Rattle.std.specs.Prelude.{ℕ, List, [], Bool, true, false, Some, None}
use Rattle.ps_world.specs.Paths.{Components}
use Rattle.ps_world.specs.Files.{Files}
use Rattle.sh_tree.specs.Trees.{ListTree, no_item, item, AndOrTree, and_or, JoinedTrees, none_joined, joined, PipelineTree, pipeline, CommandTrees, no_command, command, CommandTree, simple, group, subshell, if_branches, while_loop, until_loop, for_loop, BranchTrees, no_branch, branch, ElseTree, no_else, else_list, SimpleTree, simple_command, RedirTree, InTree, no_in, in_words, WordsTree, words, TailTree, tail, SubTrees, no_sub, sub, ScriptTree}
use Rattle.sh_expand.specs.Outcomes.{Expansions}
use Rattle.sh_eval.specs.declared.flows.Flow.TheVariants as flow
use Rattle.sh_eval.specs.declared.streams.To.TheVariants as to
use Rattle.sh_eval.specs.declared.session.Session.{Session}
use Rattle.sh_eval.specs.declared.shell.Shell.{Shell}
use Rattle.sh_eval.specs.declared.streams.From.TheVariants as from
use Rattle.sh_eval.specs.States.{State, Means, on, after, in_shell}
use Rattle.sh_eval.specs.Commands as forms
use Rattle.sh_eval.specs.Expanding.{with_fields, with_targets}
use Rattle.sh_eval.specs.Redirections.{uses_of, where_free, in_redirections, holding}
use Rattle.sh_eval.specs.Utilities.{Pages}
use Rattle.sh_eval.specs.Simple.{runs_simple}

-- the list has a command in it
abbrev pub has_item : ListTree → Bool
has_item no_item = false
has_item (item first rest) = true

module _ (expansions : Expansions) (pages : Pages) where
  -- a compound command behind its redirections, whose paths it holds
  abbrev pub held_in : List RedirTree → Means → Means
  held_in redirs means state =
      with_targets expansions redirs (λ targets state.
      where_free (uses_of state targets) (in_redirections flow.On targets (λ inner. means (holding (uses_of state targets) inner))) state) state

  abbrev mutual
    pub list_means : ListTree → Means
    list_means no_item state = on state
    list_means (item first rest) state = after (and_or_means first state) (list_means rest)

    pub and_or_means : AndOrTree → Means
    and_or_means (and_or first rest) state = after (pipeline_means first state) (joined_means rest)

    pub joined_means : JoinedTrees → Means
    joined_means none_joined state = on state
    joined_means (joined join next rest) state = after (forms.joined_by join (pipeline_means next) state) (joined_means rest)

    pub pipeline_means : PipelineTree → Means
    pipeline_means (pipeline negated stages) state = after (stages_means stages state) (forms.negated negated)

    pub stages_means : CommandTrees → Means
    stages_means no_command state = on state
    stages_means (command only no_command) state = command_means only state
    stages_means (command first (command second more)) state =
        after (forms.first_stage (command_means first) state) (later_stages_mean (command second more))

    pub later_stages_mean : CommandTrees → Means
    later_stages_mean no_command state = on state
    later_stages_mean (command last no_command) state = forms.last_stage (command_means last) state
    later_stages_mean (command stage (command next more)) state =
        after (forms.middle_stage (command_means stage) state) (later_stages_mean (command next more))

    pub command_means : CommandTree → Means
    command_means (simple it) state = simple_means it state
    command_means (group list behind) state = tail_means behind (list_means list) state
    command_means (subshell list behind) state = tail_means behind (forms.subshell (list_means list)) state
    command_means (if_branches branches otherwise behind) state = tail_means behind (branches_mean branches (else_means otherwise)) state
    command_means (while_loop condition body behind) state =
        tail_means behind (forms.while_holds forms.succeeded (list_means condition) (list_means body)) state
    command_means (until_loop condition body behind) state =
        tail_means behind (forms.while_holds forms.failed (list_means condition) (list_means body)) state
    command_means (for_loop name fields body behind) state = tail_means behind (in_means fields (forms.for_fields name (list_means body))) state

    pub branches_mean : BranchTrees → Means → Means
    branches_mean no_branch otherwise state = otherwise state
    branches_mean (branch condition body rest) otherwise state =
        forms.chosen (list_means condition) (list_means body) (branches_mean rest otherwise) state

    pub else_means : ElseTree → Means
    else_means no_else state = forms.no_branch_runs state
    else_means (else_list list) state = list_means list state

    pub simple_means : SimpleTree → Means
    simple_means (simple_command assigns fields redirs subs) state =
        after (subs_mean subs (in_shell forms.none_substituted state)) (runs_simple expansions pages assigns fields redirs)

    -- without `in` a `for` goes over the arguments
    pub in_means : InTree → (List (List ℕ) → Means) → Means
    in_means no_in loop state = loop state.shell.arguments state
    in_means (in_words list) loop state = words_mean list loop state

    pub words_mean : WordsTree → (List (List ℕ) → Means) → Means
    words_mean (words list subs) loop state = after (subs_mean subs (in_shell forms.none_substituted state)) (with_fields expansions list loop)

    -- the substitutions of redirections run before the compound command
    pub tail_means : TailTree → Means → Means
    tail_means (tail redirs subs) means state = after (subs_mean subs (in_shell forms.none_substituted state)) (held_in redirs means)

    -- all substitutions of a command run first, in text order (own)
    pub subs_mean : SubTrees → Means
    subs_mean no_sub state = on state
    subs_mean (sub list rest) state = after (forms.substitution (forms.some_command (has_item list) (list_means list)) state) (subs_mean rest)

  -- a script that is read
  abbrev pub script_means : ScriptTree → Means
  script_means None state = on state
  script_means (Some list) state = list_means list state

-- the session in which a run begins: no pipe is open, and no path is held
abbrev pub begun_session : Session
begun_session = record { streams = record { from = from.Standard; to = to.Output; errors_to = to.Errors; held = [] }; pipes = []; piped = []; turns = 0 }

-- the state in which it begins: nothing is written
abbrev pub begun : Shell → Components → Files → List ℕ → State
begun shell home files input =
    record {
      shell = shell;
      session = begun_session;
      world = record { home = home; files = files; written = []; input = input; output = []; errors = []; ran = [] };
    }
