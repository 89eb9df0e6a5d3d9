-- What is evaluated of simple and compound commands comes of what is evaluated of the parts of them.
use Rattle.std.proofs.Common.{◌≡◌, ◌⊎◌, inl, inr, ◌<◌, ◌≤◌, ◌+◌, ◌-◌, if◌then◌else◌, ℕ, List, [], ◌∷◌, true, false, Option, Some, None, length, get_or, drop, map, refl, sym, ap, ◌∙◌, subst, add-one}
use Rattle.std.specs.FinMap as finite
use Rattle.std.proofs.Math.Seq.{drop-cons}
use Rattle.std.proofs.Math.ListN.{drop_of_length-le}
use Rattle.std.proofs.lemmas.Bool.{cond-true, cond-false, eq-eqb, ne_eqb}
use Rattle.std.specs.Option.{option_map}
use Rattle.std.specs.declared.alloc.Global.{Global}
use Rattle.std.specs.declared.vec.Vec.{Vec}
use Rattle.ps_lines.specs.declared.text.Text.{Text}
use Rattle.ps_world.specs.TreeState.{TreeState}
use Rattle.sh_tree.specs.Trees.{CommandTree, simple, group, subshell, if_branches, while_loop, until_loop, for_loop, BranchTrees, SubTrees, no_in, in_words, words, WordsTree, sub, branch}
use Rattle.sh_tree.specs.Views.{items_tree, word_tree, redir_tree, list_tree, command_tree, simple_tree, tail_tree, words_tree, branches_tree, subs_tree, else_of, in_of}
use Rattle.sh_tree.specs.declared.commands.List as declared_list
use Rattle.sh_tree.specs.declared.commands.AndOr.{AndOr}
use Rattle.sh_tree.specs.declared.commands.Command.{Command}
use Rattle.sh_tree.specs.declared.commands.Command.TheVariants as command
use Rattle.sh_tree.specs.declared.commands.Command.TheViews.{out-List, out-Simple, out-Tail, out-Words}
use Rattle.sh_tree.specs.declared.commands.Redir.{Redir}
use Rattle.sh_tree.specs.declared.commands.Simple.{Simple}
use Rattle.sh_tree.specs.declared.commands.Tail.{Tail}
use Rattle.sh_tree.specs.declared.commands.Words.{Words}
use Rattle.sh_tree.specs.declared.words.Word.{Word}
use Rattle.sh_tree.proofs.TreeLemmas.{list_tree-is, simple_tree-is, tail_tree-is, command_tree-group, command_tree-subshell, command_tree-if, command_tree-while, command_tree-until, command_tree-for, words_tree-is}
use Rattle.sh_expand.specs.Outcomes.{Expansions}
use Rattle.sh_eval.specs.declared.flows.Flow.TheVariants as flow
use Rattle.sh_eval.specs.declared.outcomes.How.{How}
use Rattle.sh_eval.specs.declared.outcomes.How.TheVariants as how
use Rattle.sh_eval.specs.declared.session.Session.{Session}
use Rattle.sh_eval.specs.declared.shell.Shell.{Shell}
use Rattle.sh_eval.specs.Expanding.{with_fields}
use Rattle.sh_eval.specs.Shells.{with_env, with_status}
use Rattle.sh_eval.specs.States.{State, Ends, Means, on, after, in_shell}
use Rattle.sh_eval.specs.Commands.{all_turns, entered, in_loop, most_turns, turn, succeeded, failed, none_substituted, noted, set_to, substitution, some_command, for_fields}
use Rattle.sh_eval.specs.Contract.{Seen, Faults, Point, point_of, Base, IsBehind, Comes, goes_on, Meaning, Evaluates}
use Rattle.sh_eval.specs.Growth.{Adds}
use Rattle.sh_eval.specs.Inner.Bodies.{assign_tree, body_means, for_body, name_of, round_means, rounds_mean, subs_begun, turn_means}
use Rattle.sh_eval.specs.Meaning.{has_item, list_means, branches_mean, command_means, else_means, simple_means, subs_mean, held_in}
use Rattle.sh_eval.specs.Simple.{runs_simple}
use Rattle.sh_eval.specs.Table.{pages}
use Rattle.sh_eval.proofs.Growing.{grows-self, adds-choice, adds-noted, adds-rounds, adds-turn, adds-turns, adds-subshell, adds-while_holds, adds-for_fields, adds-held_in, adds-runs_simple, adds-with_fields, list-adds, subs-adds, branches-adds, else-adds, in-adds, simple-adds}
use Rattle.sh_eval.proofs.Steps.{changed, changed-before, followed, stopped, nothing, behind-told}
use Rattle.sh_eval.proofs.ListSteps.{meant}

-- MEMORY that is wanted behind what was evaluated
weakened : (base : Base) (came : How) (at : Point) (left : Ends) → Comes base came at left → IsBehind base at.tree.held at.seen left.state.world
weakened base (how.Gone it) at left comes = behind-told base at left.state left.state comes.has (grows-self left.state)
weakened base how.ReadFault at left comes = comes
weakened base how.WriteFault at left comes = comes
weakened base how.TreeFault at left comes = comes
weakened base how.Memory at left comes = comes

pub wanted-behind : (means : Meaning) (old : Point) (shell shell' : Shell) (session : Session) (tree : TreeState) (seen : Seen) (faults : Faults) (came : How)
    → Evaluates means old came (point_of shell session tree seen faults) → Evaluates means old how.Memory (point_of shell' session tree seen faults)
wanted-behind means old shell shell' session tree seen faults came one =
    record {
      comes = λ expansions are base state has. weakened base came (point_of shell session tree seen faults) (means expansions state) (one.comes expansions are base state has);
      keeps = λ gone. absurd gone;
      turns = one.turns;
      later = one.later;
      cause = tt;
      lent = one.lent;
    }

some-item : (items : List AndOr) → (items ≡ [] → ⊥) → has_item (items_tree items) ≡ true
some-item [] is = absurd (is refl)
some-item (first ∷ rest) is = refl

-- what is in a compound command adds to what is there
pub body-adds : (expansions : Expansions) (tree : CommandTree) → Adds (body_means expansions pages tree)
body-adds expansions (simple it) state = simple-adds expansions pages it state
body-adds expansions (group list behind) state = list-adds expansions pages list state
body-adds expansions (subshell list behind) state = adds-subshell (list_means expansions pages list) (list-adds expansions pages list) state
body-adds expansions (if_branches branches otherwise behind) state =
    branches-adds expansions pages branches (else_means expansions pages otherwise) (else-adds expansions pages otherwise) state
body-adds expansions (while_loop condition body behind) state =
    adds-while_holds succeeded (list_means expansions pages condition) (list_means expansions pages body) (list-adds expansions pages condition) (list-adds expansions pages body) state
body-adds expansions (until_loop condition body behind) state =
    adds-while_holds failed (list_means expansions pages condition) (list_means expansions pages body) (list-adds expansions pages condition) (list-adds expansions pages body) state
body-adds expansions (for_loop name fields body behind) state =
    in-adds expansions pages fields (for_fields name (list_means expansions pages body)) (adds-for_fields name (list_means expansions pages body) (list-adds expansions pages body)) state

-- the status tells whether the last command succeeded
pub succeeds-so : (shell : Shell) (state : State) → shell ≡ state.shell → shell.status ≡ 0 → succeeded state ≡ true
succeeds-so shell state same is = eq-eqb state.shell.status 0 (ap (λ (it : Shell). it.status) (sym same) ∙ is)

pub fails-so : (shell : Shell) (state : State) → shell ≡ state.shell → (shell.status ≡ 0 → ⊥) → succeeded state ≡ false
fails-so shell state same is = ne_eqb state.shell.status 0 (λ status. is (ap (λ (it : Shell). it.status) same ∙ status))

-- THE SUBSTITUTIONS of a command
subs-step : (subs : List declared_list.List) (place : ℕ) (one : declared_list.List) → one ≡ get_or subs place one → place < length subs
    → subs_tree (drop place subs) ≡ sub (list_tree one) (subs_tree (drop (place + 1) subs))
subs-step subs place one here below =
    let cut : drop place subs ≡ get_or subs place one ∷ drop (place + 1) subs = rw add-one (drop-cons subs place one below) in
    ap subs_tree cut ∙ ap (λ (it : declared_list.List). sub (list_tree it) (subs_tree (drop (place + 1) subs))) (sym here)

abbrev pub substituted_means : declared_list.List → Meaning
substituted_means list = λ expansions. substitution (some_command (has_item (list_tree list)) (list_means expansions pages (list_tree list)))

pub subs-followed : (subs : List declared_list.List) (place : ℕ) (one : declared_list.List) (old mid new : Point) (came then_how : How) → one ≡ get_or subs place one → place < length subs
    → goes_on came ≡ true → Evaluates (substituted_means one) old came mid
    → Evaluates (λ expansions. subs_mean expansions pages (subs_tree (drop (place + 1) subs))) mid then_how new
    → Evaluates (λ expansions. subs_mean expansions pages (subs_tree (drop place subs))) old then_how new
subs-followed subs place one old mid new came then_how here below is first rest =
    rw (subs-step subs place one here below)
    (followed (substituted_means one) (λ expansions. subs_mean expansions pages (subs_tree (drop (place + 1) subs))) old mid new came then_how is first rest)

pub subs-stopped : (subs : List declared_list.List) (place : ℕ) (one : declared_list.List) (old new : Point) (came : How) → one ≡ get_or subs place one → place < length subs
    → goes_on came ≡ false → Evaluates (substituted_means one) old came new
    → Evaluates (λ expansions. subs_mean expansions pages (subs_tree (drop place subs))) old came new
subs-stopped subs place one old new came here below is first =
    rw (subs-step subs place one here below)
    (stopped (substituted_means one) (λ expansions. subs_mean expansions pages (subs_tree (drop (place + 1) subs))) old new came is
    (λ expansions. subs-adds expansions pages (subs_tree (drop (place + 1) subs))) first)

pub subs-done : (subs : List declared_list.List) (place : ℕ) (at : Point) → length subs ≤ place → Evaluates (λ expansions. subs_mean expansions pages (subs_tree (drop place subs))) at (how.Gone flow.On) at
subs-done subs place at over = rw (drop_of_length-le subs over) (nothing at)

-- they begin with none
pub subs-begun : (subs : SubTrees) (shell inner : Shell) (session : Session) (tree : TreeState) (seen : Seen) (faults : Faults) (came : How) (new : Point) → inner ≡ none_substituted shell
    → Evaluates (λ expansions. subs_mean expansions pages subs) (point_of inner session tree seen faults) came new
    → Evaluates (λ expansions. subs_begun expansions pages subs) (point_of shell session tree seen faults) came new
subs-begun subs shell inner session tree seen faults came new begun found =
    changed-before (λ expansions. subs_mean expansions pages subs) none_substituted shell inner session tree seen faults came new begun found

-- the list of a substitution
pub substituted-empty : (it : declared_list.List) (shell shell' : Shell) (session : Session) (tree : TreeState) (seen : Seen) (faults : Faults) → (out-List it).items.items ≡ [] → shell' ≡ with_status 0 shell
    → Evaluates (λ expansions. some_command (has_item (list_tree it)) (list_means expansions pages (list_tree it))) (point_of shell session tree seen faults) (how.Gone flow.On) (point_of shell' session tree seen faults)
substituted-empty it shell shell' session tree seen faults none set =
    let has : has_item (list_tree it) ≡ false = ap has_item (list_tree-is it) ∙ ap (λ (items : List AndOr). has_item (items_tree items)) none in
    rw has (changed flow.On (with_status 0) shell shell' session tree seen faults set)

pub substituted-some : (it : declared_list.List) (old new : Point) (came : How) → ((out-List it).items.items ≡ [] → ⊥)
    → Evaluates (λ expansions. list_means expansions pages (list_tree it)) old came new
    → Evaluates (λ expansions. some_command (has_item (list_tree it)) (list_means expansions pages (list_tree it))) old came new
substituted-some it old new came some one =
    let has : has_item (list_tree it) ≡ true = ap has_item (list_tree-is it) ∙ some-item (out-List it).items.items some in
    rw has one

-- SIMPLE COMMANDS
pub simple-followed : (it : Simple) (subs : List declared_list.List) (assigns : List (Text × Word)) (list : List Word) (redirs : List Redir)
    → subs ≡ (out-Simple it).subs.items → assigns ≡ (out-Simple it).assigns.items → list ≡ (out-Simple it).words.items → redirs ≡ (out-Simple it).redirs.items
    → (shell inner : Shell) (session : Session) (tree : TreeState) (seen : Seen) (faults : Faults) (mid new : Point) (came then_how : How) → inner ≡ none_substituted shell → goes_on came ≡ true
    → Evaluates (λ expansions. subs_mean expansions pages (subs_tree subs)) (point_of inner session tree seen faults) came mid
    → Evaluates (λ expansions. runs_simple expansions pages (map assign_tree assigns) (map word_tree list) (map redir_tree redirs)) mid then_how new
    → Evaluates (λ expansions. simple_means expansions pages (simple_tree it)) (point_of shell session tree seen faults) then_how new
simple-followed it subs assigns list redirs subs_are assigns_are words_are redirs_are shell inner session tree seen faults mid new came then_how begun is first rest =
    rw (simple_tree-is it) rw (sym subs_are) rw (sym assigns_are) rw (sym words_are) rw (sym redirs_are)
    (followed (λ expansions. subs_begun expansions pages (subs_tree subs))
    (λ expansions. runs_simple expansions pages (map assign_tree assigns) (map word_tree list) (map redir_tree redirs))
    (point_of shell session tree seen faults) mid new came then_how is (subs-begun (subs_tree subs) shell inner session tree seen faults came mid begun first) rest)

pub simple-stopped : (it : Simple) (subs : List declared_list.List) → subs ≡ (out-Simple it).subs.items
    → (shell inner : Shell) (session : Session) (tree : TreeState) (seen : Seen) (faults : Faults) (new : Point) (came : How) → inner ≡ none_substituted shell → goes_on came ≡ false
    → Evaluates (λ expansions. subs_mean expansions pages (subs_tree subs)) (point_of inner session tree seen faults) came new
    → Evaluates (λ expansions. simple_means expansions pages (simple_tree it)) (point_of shell session tree seen faults) came new
simple-stopped it subs subs_are shell inner session tree seen faults new came begun is first =
    let next : Meaning = λ expansions. runs_simple expansions pages (map assign_tree (out-Simple it).assigns.items) (map word_tree (out-Simple it).words.items) (map redir_tree (out-Simple it).redirs.items) in
    rw (simple_tree-is it) rw (sym subs_are)
    (stopped (λ expansions. subs_begun expansions pages (subs_tree subs)) next (point_of shell session tree seen faults) new came is
    (λ expansions. adds-runs_simple expansions pages (map assign_tree (out-Simple it).assigns.items) (map word_tree (out-Simple it).words.items) (map redir_tree (out-Simple it).redirs.items))
    (subs-begun (subs_tree subs) shell inner session tree seen faults came new begun first))

-- IF
abbrev if_over : BranchTrees → Option declared_list.List → Meaning
if_over tree otherwise = λ expansions. branches_mean expansions pages tree (else_means expansions pages (else_of (option_map list_tree otherwise)))

abbrev pub if_rest : List (declared_list.List × declared_list.List) → Option declared_list.List → Meaning
if_rest branches otherwise = if_over (branches_tree branches) otherwise

branch-step : (branches : List (declared_list.List × declared_list.List)) (place : ℕ) (one : declared_list.List × declared_list.List) → one ≡ get_or branches place one → place < length branches
    → branches_tree (drop place branches) ≡ branch (list_tree one.0) (list_tree one.1) (branches_tree (drop (place + 1) branches))
branch-step branches place one here below =
    let cut : drop place branches ≡ get_or branches place one ∷ drop (place + 1) branches = rw add-one (drop-cons branches place one below) in
    ap branches_tree cut ∙ ap (λ (it : declared_list.List × declared_list.List). branch (list_tree it.0) (list_tree it.1) (branches_tree (drop (place + 1) branches))) (sym here)

abbrev behind_test : declared_list.List → Meaning → Meaning
behind_test body otherwise = λ expansions tested. if succeeded tested then list_means expansions pages (list_tree body) tested else otherwise expansions tested

rest-adds : (branches : List (declared_list.List × declared_list.List)) (otherwise : Option declared_list.List) (expansions : Expansions) → Adds (if_rest branches otherwise expansions)
rest-adds branches otherwise expansions =
    branches-adds expansions pages (branches_tree branches) (else_means expansions pages (else_of (option_map list_tree otherwise))) (else-adds expansions pages (else_of (option_map list_tree otherwise)))

behind_test-adds : (body : declared_list.List) (otherwise : Meaning) → ((expansions : Expansions) → Adds (otherwise expansions)) → (expansions : Expansions) → Adds (behind_test body otherwise expansions)
behind_test-adds body otherwise adds expansions = adds-choice succeeded (list_means expansions pages (list_tree body)) (otherwise expansions) (list-adds expansions pages (list_tree body)) (adds expansions)

module _ (branches : List (declared_list.List × declared_list.List)) (otherwise : Option declared_list.List) (place : ℕ) (one : declared_list.List × declared_list.List)
    (here : one ≡ get_or branches place one) (below : place < length branches) where
  pub if-stopped : (old new : Point) (came : How) → goes_on came ≡ false → Evaluates (λ expansions. list_means expansions pages (list_tree one.0)) old came new
      → Evaluates (if_rest (drop place branches) otherwise) old came new
  if-stopped old new came is first =
      subst (λ (it : BranchTrees). Evaluates (if_over it otherwise) old came new) (sym (branch-step branches place one here below))
      (stopped (λ expansions. list_means expansions pages (list_tree one.0)) (behind_test one.1 (if_rest (drop (place + 1) branches) otherwise)) old new came is
      (behind_test-adds one.1 (if_rest (drop (place + 1) branches) otherwise) (rest-adds (drop (place + 1) branches) otherwise)) first)

  pub if-taken : (old mid new : Point) (came then_how : How) → goes_on came ≡ true → mid.shell.status ≡ 0
      → Evaluates (λ expansions. list_means expansions pages (list_tree one.0)) old came mid → Evaluates (λ expansions. list_means expansions pages (list_tree one.1)) mid then_how new
      → Evaluates (if_rest (drop place branches) otherwise) old then_how new
  if-taken old mid new came then_how is holds first body =
      subst (λ (it : BranchTrees). Evaluates (if_over it otherwise) old then_how new) (sym (branch-step branches place one here below))
      (followed (λ expansions. list_means expansions pages (list_tree one.0)) (behind_test one.1 (if_rest (drop (place + 1) branches) otherwise)) old mid new came then_how is first
      (meant (λ expansions. list_means expansions pages (list_tree one.1)) (behind_test one.1 (if_rest (drop (place + 1) branches) otherwise)) mid new then_how
      (λ expansions state same. sym (cond-true (succeeded state) (list_means expansions pages (list_tree one.1) state) (if_rest (drop (place + 1) branches) otherwise expansions state)
      (succeeds-so mid.shell state same holds))) body))

  pub if-passed : (old mid new : Point) (came then_how : How) → goes_on came ≡ true → (mid.shell.status ≡ 0 → ⊥)
      → Evaluates (λ expansions. list_means expansions pages (list_tree one.0)) old came mid → Evaluates (if_rest (drop (place + 1) branches) otherwise) mid then_how new
      → Evaluates (if_rest (drop place branches) otherwise) old then_how new
  if-passed old mid new came then_how is fails first rest =
      subst (λ (it : BranchTrees). Evaluates (if_over it otherwise) old then_how new) (sym (branch-step branches place one here below))
      (followed (λ expansions. list_means expansions pages (list_tree one.0)) (behind_test one.1 (if_rest (drop (place + 1) branches) otherwise)) old mid new came then_how is first
      (meant (if_rest (drop (place + 1) branches) otherwise) (behind_test one.1 (if_rest (drop (place + 1) branches) otherwise)) mid new then_how
      (λ expansions state same. sym (cond-false (succeeded state) (list_means expansions pages (list_tree one.1) state) (if_rest (drop (place + 1) branches) otherwise expansions state)
      (fails-so mid.shell state same fails))) rest))

-- `else`
pub if-else : (branches : List (declared_list.List × declared_list.List)) (otherwise : Option declared_list.List) (list : declared_list.List) (place : ℕ) (old new : Point) (came : How) → length branches ≤ place
    → otherwise ≡ Some list → Evaluates (λ expansions. list_means expansions pages (list_tree list)) old came new → Evaluates (if_rest (drop place branches) otherwise) old came new
if-else branches otherwise list place old new came over is one =
    subst (λ (it : List (declared_list.List × declared_list.List)). Evaluates (if_rest it otherwise) old came new) (sym (drop_of_length-le branches over))
    (subst (λ (it : Option declared_list.List). Evaluates (if_rest [] it) old came new) (sym is) one)

pub if-none : (branches : List (declared_list.List × declared_list.List)) (otherwise : Option declared_list.List) (place : ℕ) (shell shell' : Shell) (session : Session) (tree : TreeState) (seen : Seen) (faults : Faults)
    → length branches ≤ place → otherwise ≡ None → shell' ≡ with_status 0 shell
    → Evaluates (if_rest (drop place branches) otherwise) (point_of shell session tree seen faults) (how.Gone flow.On) (point_of shell' session tree seen faults)
if-none branches otherwise place shell shell' session tree seen faults over is set =
    subst (λ (it : List (declared_list.List × declared_list.List)). Evaluates (if_rest it otherwise) (point_of shell session tree seen faults) (how.Gone flow.On) (point_of shell' session tree seen faults)) (sym (drop_of_length-le branches over))
    (subst (λ (it : Option declared_list.List). Evaluates (if_rest [] it) (point_of shell session tree seen faults) (how.Gone flow.On) (point_of shell' session tree seen faults)) (sym is)
    (changed flow.On (with_status 0) shell shell' session tree seen faults set))

pub if-body : (it : Command) (branches : Vec (declared_list.List × declared_list.List) Global) (otherwise : Option declared_list.List) (behind : Tail) (items : List (declared_list.List × declared_list.List)) (old new : Point) (came : How)
    → it ≡ command.If branches otherwise behind → items ≡ branches.items
    → Evaluates (if_rest items otherwise) old came new → Evaluates (λ expansions. body_means expansions pages (command_tree it)) old came new
if-body it branches otherwise behind items old new came is same one =
    subst (λ (it : CommandTree). Evaluates (λ expansions. body_means expansions pages it) old came new) (sym (ap command_tree is ∙ command_tree-if branches otherwise behind))
    (subst (λ (it : List (declared_list.List × declared_list.List)). Evaluates (if_rest it otherwise) old came new) same one)

-- COMPOUND COMMANDS. What each means, behind the substitutions of its redirections
abbrev behind_tail : Command → Tail → Meaning
behind_tail it behind = λ expansions state.
    after (subs_begun expansions pages (subs_tree (out-Tail behind).subs.items) state) (held_in expansions pages (map redir_tree (out-Tail behind).redirs.items) (body_means expansions pages (command_tree it)))

-- it is one of these, and this stands behind it
abbrev pub HasTail : Command → Tail → Type 0
HasTail it behind =
    ((list : declared_list.List) × (it ≡ command.Group list behind))
    ⊎ (((list : declared_list.List) × (it ≡ command.Subshell list behind))
    ⊎ (((branches : Vec (declared_list.List × declared_list.List) Global) × (otherwise : Option declared_list.List) × (it ≡ command.If branches otherwise behind))
    ⊎ (((condition : declared_list.List) × (body : declared_list.List) × (it ≡ command.While condition body behind))
    ⊎ (((condition : declared_list.List) × (body : declared_list.List) × (it ≡ command.Until condition body behind))
    ⊎ ((name : Text) × (list : Option Words) × (body : declared_list.List) × (it ≡ command.For name list body behind))))))

compound-is : (it : Command) (behind : Tail) → HasTail it behind → (expansions : Expansions) (state : State) → behind_tail it behind expansions state ≡ command_means expansions pages (command_tree it) state
compound-is it behind (inl (list, is)) expansions state = rw is rw (command_tree-group list behind) rw (tail_tree-is behind) refl
compound-is it behind (inr (inl (list, is))) expansions state = rw is rw (command_tree-subshell list behind) rw (tail_tree-is behind) refl
compound-is it behind (inr (inr (inl (branches, otherwise, is)))) expansions state = rw is rw (command_tree-if branches otherwise behind) rw (tail_tree-is behind) refl
compound-is it behind (inr (inr (inr (inl (condition, body, is))))) expansions state = rw is rw (command_tree-while condition body behind) rw (tail_tree-is behind) refl
compound-is it behind (inr (inr (inr (inr (inl (condition, body, is)))))) expansions state = rw is rw (command_tree-until condition body behind) rw (tail_tree-is behind) refl
compound-is it behind (inr (inr (inr (inr (inr (name, list, body, is)))))) expansions state = rw is rw (command_tree-for name list body behind) rw (tail_tree-is behind) refl

pub compound-stopped : (it : Command) (behind : Tail) → HasTail it behind → (old new : Point) (came : How) → goes_on came ≡ false
    → Evaluates (λ expansions. subs_begun expansions pages (subs_tree (out-Tail behind).subs.items)) old came new
    → Evaluates (λ expansions. command_means expansions pages (command_tree it)) old came new
compound-stopped it behind has old new came is first =
    meant (behind_tail it behind) (λ expansions. command_means expansions pages (command_tree it)) old new came (λ expansions state same. compound-is it behind has expansions state)
    (stopped (λ expansions. subs_begun expansions pages (subs_tree (out-Tail behind).subs.items))
    (λ expansions. held_in expansions pages (map redir_tree (out-Tail behind).redirs.items) (body_means expansions pages (command_tree it))) old new came is
    (λ expansions. adds-held_in expansions pages (map redir_tree (out-Tail behind).redirs.items) (body_means expansions pages (command_tree it)) (body-adds expansions (command_tree it))) first)

-- behind its substitutions it is what is in it, in its redirections
pub compound-opened : (it : Command) (behind : Tail) (redirs : List Redir) → HasTail it behind → redirs ≡ (out-Tail behind).redirs.items → (old mid new : Point) (came then_how : How) → goes_on came ≡ true
    → Evaluates (λ expansions. subs_begun expansions pages (subs_tree (out-Tail behind).subs.items)) old came mid
    → Evaluates (λ expansions. held_in expansions pages (map redir_tree redirs) (body_means expansions pages (command_tree it))) mid then_how new
    → Evaluates (λ expansions. command_means expansions pages (command_tree it)) old then_how new
compound-opened it behind redirs has same old mid new came then_how is first body =
    meant (behind_tail it behind) (λ expansions. command_means expansions pages (command_tree it)) old new then_how (λ expansions state same. compound-is it behind has expansions state)
    (followed (λ expansions. subs_begun expansions pages (subs_tree (out-Tail behind).subs.items))
    (λ expansions. held_in expansions pages (map redir_tree (out-Tail behind).redirs.items) (body_means expansions pages (command_tree it))) old mid new came then_how is first
    (subst (λ (it' : List Redir). Evaluates (λ expansions. held_in expansions pages (map redir_tree it') (body_means expansions pages (command_tree it))) mid then_how new) same body))

-- LOOPS, by the trees that they are
pub while-body : (it : Command) (condition body : declared_list.List) (behind : Tail) (old new : Point) (came : How) → it ≡ command.While condition body behind
    → Evaluates (λ expansions. in_loop (all_turns (turn_means expansions pages (command_tree it)))) old came new → Evaluates (λ expansions. body_means expansions pages (command_tree it)) old came new
while-body it condition body behind old new came is one =
    let tree = ap command_tree is ∙ command_tree-while condition body behind in
    let found = subst (λ (it : CommandTree). Evaluates (λ expansions. in_loop (all_turns (turn_means expansions pages it))) old came new) tree one in
    subst (λ (it : CommandTree). Evaluates (λ expansions. body_means expansions pages it) old came new) (sym tree) found

pub until-body : (it : Command) (condition body : declared_list.List) (behind : Tail) (old new : Point) (came : How) → it ≡ command.Until condition body behind
    → Evaluates (λ expansions. in_loop (all_turns (turn_means expansions pages (command_tree it)))) old came new → Evaluates (λ expansions. body_means expansions pages (command_tree it)) old came new
until-body it condition body behind old new came is one =
    let tree = ap command_tree is ∙ command_tree-until condition body behind in
    let found = subst (λ (it : CommandTree). Evaluates (λ expansions. in_loop (all_turns (turn_means expansions pages it))) old came new) tree one in
    subst (λ (it : CommandTree). Evaluates (λ expansions. body_means expansions pages it) old came new) (sym tree) found

pub while-turn : (it : Command) (condition body : declared_list.List) (behind : Tail) (old new : Point) (came : How) → it ≡ command.While condition body behind
    → Evaluates (λ expansions. turn succeeded (list_means expansions pages (list_tree condition)) (list_means expansions pages (list_tree body))) old came new
    → Evaluates (λ expansions. turn_means expansions pages (command_tree it)) old came new
while-turn it condition body behind old new came is one =
    subst (λ (it : CommandTree). Evaluates (λ expansions. turn_means expansions pages it) old came new) (sym (ap command_tree is ∙ command_tree-while condition body behind)) one

pub until-turn : (it : Command) (condition body : declared_list.List) (behind : Tail) (old new : Point) (came : How) → it ≡ command.Until condition body behind
    → Evaluates (λ expansions. turn failed (list_means expansions pages (list_tree condition)) (list_means expansions pages (list_tree body))) old came new
    → Evaluates (λ expansions. turn_means expansions pages (command_tree it)) old came new
until-turn it condition body behind old new came is one =
    subst (λ (it : CommandTree). Evaluates (λ expansions. turn_means expansions pages it) old came new) (sym (ap command_tree is ∙ command_tree-until condition body behind)) one

pub turn-adds : (expansions : Expansions) (tree : CommandTree) → Adds (turn_means expansions pages tree)
turn-adds expansions (simple it) state = grows-self state
turn-adds expansions (group list behind) state = grows-self state
turn-adds expansions (subshell list behind) state = grows-self state
turn-adds expansions (if_branches branches otherwise behind) state = grows-self state
turn-adds expansions (while_loop condition body behind) state =
    adds-turn succeeded (list_means expansions pages condition) (list_means expansions pages body) (list-adds expansions pages condition) (list-adds expansions pages body) state
turn-adds expansions (until_loop condition body behind) state =
    adds-turn failed (list_means expansions pages condition) (list_means expansions pages body) (list-adds expansions pages condition) (list-adds expansions pages body) state
turn-adds expansions (for_loop name fields body behind) state = grows-self state

pub turns-add : (expansions : Expansions) (tree : CommandTree) → Adds (all_turns (turn_means expansions pages tree))
turns-add expansions tree state = adds-turns (most_turns - state.session.turns) (turn_means expansions pages tree) (turn-adds expansions tree) state

pub loop-adds : (means : Means) → Adds means → Adds (in_loop means)
loop-adds means adds state = adds (in_shell entered state)

-- `for`, by the tree that it is
pub for_body-adds : (expansions : Expansions) (tree : CommandTree) → Adds (for_body expansions pages tree)
for_body-adds expansions (simple it) state = grows-self state
for_body-adds expansions (group list behind) state = grows-self state
for_body-adds expansions (subshell list behind) state = grows-self state
for_body-adds expansions (if_branches branches otherwise behind) state = grows-self state
for_body-adds expansions (while_loop condition body behind) state = grows-self state
for_body-adds expansions (until_loop condition body behind) state = grows-self state
for_body-adds expansions (for_loop name list body behind) state = list-adds expansions pages body state

pub round-adds : (expansions : Expansions) (tree : CommandTree) (field : List ℕ) → Adds (round_means expansions pages tree field)
round-adds expansions tree field state = adds-noted (for_body expansions pages tree) (for_body-adds expansions tree) (set_to (name_of tree) field state)

pub rounds-add : (expansions : Expansions) (tree : CommandTree) (fields : List (List ℕ)) → Adds (rounds_mean expansions pages tree fields)
rounds-add expansions tree fields state = adds-rounds (name_of tree) (for_body expansions pages tree) (for_body-adds expansions tree) fields state

for-tree : (it : Command) (name : Text) (list : Option Words) (body : declared_list.List) (behind : Tail) → it ≡ command.For name list body behind
    → command_tree it ≡ for_loop name (in_of (option_map words_tree list)) (list_tree body) (tail_tree behind)
for-tree it name list body behind is = ap command_tree is ∙ command_tree-for name list body behind

-- one round
pub round-of : (it : Command) (name : Text) (list : Option Words) (body : declared_list.List) (behind : Tail) (field : List ℕ) (shell inner : Shell) (session : Session) (tree : TreeState) (seen : Seen) (faults : Faults) (came : How) (new : Point)
    → it ≡ command.For name list body behind → inner ≡ with_env (finite.insert shell.variables name field) shell
    → Evaluates (λ expansions state. noted (list_means expansions pages (list_tree body) state)) (point_of inner session tree seen faults) came new
    → Evaluates (λ expansions. round_means expansions pages (command_tree it) field) (point_of shell session tree seen faults) came new
round-of it name list body behind field shell inner session tree seen faults came new is set one =
    subst (λ (it : CommandTree). Evaluates (λ expansions. round_means expansions pages it field) (point_of shell session tree seen faults) came new) (sym (for-tree it name list body behind is))
    (changed-before (λ expansions state. noted (list_means expansions pages (list_tree body) state)) (λ shell. with_env (finite.insert shell.variables name field) shell) shell inner session tree seen faults came new set one)

-- over the arguments
pub for-arguments : (it : Command) (name : Text) (list : Option Words) (body : declared_list.List) (behind : Tail) (fields : List (List ℕ)) (old new : Point) (came : How) → it ≡ command.For name list body behind → list ≡ None → fields ≡ old.shell.arguments
    → Evaluates (λ expansions. in_loop (rounds_mean expansions pages (command_tree it) fields)) old came new
    → Evaluates (λ expansions. body_means expansions pages (command_tree it)) old came new
for-arguments it name list body behind fields old new came is none same one =
    let tree : command_tree it ≡ for_loop name no_in (list_tree body) (tail_tree behind) =
    for-tree it name list body behind is ∙ ap (λ (it : Option Words). for_loop name (in_of (option_map words_tree it)) (list_tree body) (tail_tree behind)) none in
    let over : Evaluates (λ expansions. in_loop (rounds_mean expansions pages (for_loop name no_in (list_tree body) (tail_tree behind)) fields)) old came new =
    subst (λ (it : CommandTree). Evaluates (λ expansions. in_loop (rounds_mean expansions pages it fields)) old came new) tree one in
    subst (λ (it : CommandTree). Evaluates (λ expansions. body_means expansions pages it) old came new) (sym tree)
    (meant (λ expansions. in_loop (rounds_mean expansions pages (for_loop name no_in (list_tree body) (tail_tree behind)) fields))
    (λ expansions. body_means expansions pages (for_loop name no_in (list_tree body) (tail_tree behind))) old new came
    (λ expansions state same_shell. ap (λ (it : List (List ℕ)). for_fields name (list_means expansions pages (list_tree body)) it state) (same ∙ ap (λ (it : Shell). it.arguments) same_shell)) over)

-- over what words mean
abbrev for_over : CommandTree → Expansions → List (List ℕ) → Means
for_over tree expansions fields = in_loop (rounds_mean expansions pages tree fields)

abbrev pub for_behind : Command → Expansions → List (List ℕ) → Means
for_behind it = for_over (command_tree it)

pub for-adds : (it : Command) (expansions : Expansions) (fields : List (List ℕ)) → Adds (for_behind it expansions fields)
for-adds it expansions fields = loop-adds (rounds_mean expansions pages (command_tree it) fields) (rounds-add expansions (command_tree it) fields)

abbrev for_words_over : CommandTree → Words → Meaning
for_words_over tree list = λ expansions state.
    after (subs_begun expansions pages (subs_tree (out-Words list).subs.items) state) (with_fields expansions (map word_tree (out-Words list).words.items) (for_over tree expansions))

abbrev for_words : Command → Words → Meaning
for_words it list = for_words_over (command_tree it) list

for-words-so : (it : Command) (name : Text) (found : Option Words) (list : Words) (body : declared_list.List) (behind : Tail) → it ≡ command.For name found body behind → found ≡ Some list → (expansions : Expansions) (state : State)
    → for_words it list expansions state ≡ body_means expansions pages (command_tree it) state
for-words-so it name found list body behind is some expansions state =
    let tree : command_tree it ≡ for_loop name (in_words (words (map word_tree (out-Words list).words.items) (subs_tree (out-Words list).subs.items))) (list_tree body) (tail_tree behind) =
    for-tree it name found body behind is ∙ ap (λ (it : Option Words). for_loop name (in_of (option_map words_tree it)) (list_tree body) (tail_tree behind)) some
    ∙ ap (λ (it : WordsTree). for_loop name (in_words it) (list_tree body) (tail_tree behind)) (words_tree-is list) in
    ap (λ (it : CommandTree). for_words_over it list expansions state) tree ∙ sym (ap (λ (it : CommandTree). body_means expansions pages it state) tree)

pub for-stopped : (it : Command) (name : Text) (found : Option Words) (list : Words) (body : declared_list.List) (behind : Tail) (subs : List declared_list.List) → it ≡ command.For name found body behind → found ≡ Some list → subs ≡ (out-Words list).subs.items
    → (shell inner : Shell) (session : Session) (tree : TreeState) (seen : Seen) (faults : Faults) (new : Point) (came : How) → inner ≡ none_substituted shell → goes_on came ≡ false
    → Evaluates (λ expansions. subs_mean expansions pages (subs_tree subs)) (point_of inner session tree seen faults) came new
    → Evaluates (λ expansions. body_means expansions pages (command_tree it)) (point_of shell session tree seen faults) came new
for-stopped it name found list body behind subs is some same shell inner session tree seen faults new came begun off first =
    meant (for_words it list) (λ expansions. body_means expansions pages (command_tree it)) (point_of shell session tree seen faults) new came (λ expansions state shells. for-words-so it name found list body behind is some expansions state)
    (stopped (λ expansions. subs_begun expansions pages (subs_tree (out-Words list).subs.items)) (λ expansions. with_fields expansions (map word_tree (out-Words list).words.items) (for_behind it expansions))
    (point_of shell session tree seen faults) new came off (λ expansions. adds-with_fields expansions (map word_tree (out-Words list).words.items) (for_behind it expansions) (for-adds it expansions))
    (subst (λ (it : List declared_list.List). Evaluates (λ expansions. subs_begun expansions pages (subs_tree it)) (point_of shell session tree seen faults) came new) same
    (subs-begun (subs_tree subs) shell inner session tree seen faults came new begun first)))

pub for-followed : (it : Command) (name : Text) (found : Option Words) (list : Words) (body : declared_list.List) (behind : Tail) (subs : List declared_list.List) (list_words : List Word) → it ≡ command.For name found body behind → found ≡ Some list
    → subs ≡ (out-Words list).subs.items → list_words ≡ (out-Words list).words.items
    → (shell inner : Shell) (session : Session) (tree : TreeState) (seen : Seen) (faults : Faults) (mid new : Point) (came then_how : How) → inner ≡ none_substituted shell → goes_on came ≡ true
    → Evaluates (λ expansions. subs_mean expansions pages (subs_tree subs)) (point_of inner session tree seen faults) came mid
    → Evaluates (λ expansions. with_fields expansions (map word_tree list_words) (for_behind it expansions)) mid then_how new
    → Evaluates (λ expansions. body_means expansions pages (command_tree it)) (point_of shell session tree seen faults) then_how new
for-followed it name found list body behind subs list_words is some same words_same shell inner session tree seen faults mid new came then_how begun on first rest =
    meant (for_words it list) (λ expansions. body_means expansions pages (command_tree it)) (point_of shell session tree seen faults) new then_how (λ expansions state shells. for-words-so it name found list body behind is some expansions state)
    (followed (λ expansions. subs_begun expansions pages (subs_tree (out-Words list).subs.items)) (λ expansions. with_fields expansions (map word_tree (out-Words list).words.items) (for_behind it expansions))
    (point_of shell session tree seen faults) mid new came then_how on
    (subst (λ (it : List declared_list.List). Evaluates (λ expansions. subs_begun expansions pages (subs_tree it)) (point_of shell session tree seen faults) came mid) same
    (subs-begun (subs_tree subs) shell inner session tree seen faults came mid begun first))
    (subst (λ (found : List Word). Evaluates (λ expansions. with_fields expansions (map word_tree found) (for_behind it expansions)) mid then_how new) words_same rest))

pub for-fields : (it : Command) (fields given : List (List ℕ)) (old new : Point) (came : How) → fields ≡ given → Evaluates (λ expansions. for_behind it expansions fields) old came new → Evaluates (λ expansions. for_behind it expansions given) old came new
for-fields it fields given old new came same one = subst (λ (texts : List (List ℕ)). Evaluates (λ expansions. for_behind it expansions texts) old came new) same one
