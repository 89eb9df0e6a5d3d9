-- What is evaluated of a command comes of what is evaluated behind its words.
use Rattle.std.proofs.Common.{◌≡◌, ◌⊎◌, inl, inr, ◌<◌, ◌≤◌, ◌+◌, ◌∷◌, ◌++◌, [], ℕ, List, Some, None, Result, Ok, Err, length, get_or, drop, map, refl, sym, ap, ◌∙◌, subst, add-one, append_assoc, append-nil, arith}
use Rattle.std.specs.FinMap as finite
use Rattle.std.proofs.lemmas.List.{map-append}
use Rattle.std.proofs.Math.Seq.{drop-cons}
use Rattle.std.proofs.Math.ListN.{drop_of_length-le}
use Rattle.std.proofs.Math.Path.{fun_ext}
use Rattle.ps_lines.specs.declared.text.Text.{Text}
use Rattle.ps_world.specs.Counts.{Rose}
use Rattle.ps_world.specs.Files.{Files}
use Rattle.ps_world.specs.TreeState.{TreeState}
use Rattle.sh_arith.specs.Variables.{Variables}
use Rattle.sh_tree.specs.Trees.{WordTree, RedirTree}
use Rattle.sh_tree.specs.Views.{redir_tree, word_tree}
use Rattle.sh_tree.specs.declared.commands.Redir.{Redir}
use Rattle.sh_tree.specs.declared.words.Word.{Word}
use Rattle.sh_expand.specs.declared.faults.ExpandFault.{ExpandFault}
use Rattle.sh_expand.specs.declared.faults.ExpandFault.TheVariants as fault
use Rattle.sh_expand.specs.Fields.{IsOfWords, IsOutside}
use Rattle.sh_expand.specs.Outcomes.{Expansions, AreExpansions, Answer, told_fields, told_of}
use Rattle.sh_eval.specs.declared.flows.Flow.TheVariants as flow
use Rattle.sh_eval.specs.declared.outcomes.How.{How}
use Rattle.sh_eval.specs.declared.outcomes.How.TheVariants as how
use Rattle.sh_eval.specs.declared.session.Session.{Session}
use Rattle.sh_eval.specs.declared.shell.Shell.{Shell}
use Rattle.sh_eval.specs.Shells.{with_env}
use Rattle.sh_eval.specs.Ending.{how_behind, status_behind}
use Rattle.sh_eval.specs.States.{State, Ends, Means, on, tells}
use Rattle.sh_eval.specs.Contract.{Seen, Faults, Point, faults_of, point_of, Base, Has, Comes, HasCause, IsGone, Meaning, Evaluates, PassesOn, StopsAt}
use Rattle.sh_eval.specs.Commands.{set_to}
use Rattle.sh_eval.specs.Inner.Bodies.{assign_tree}
use Rattle.sh_eval.specs.Inner.Faults.{EndsSo, Undone}
use Rattle.sh_eval.specs.Simple.{put_back, restored}
use Rattle.sh_eval.specs.Expanding.{assigning, ends_told, given_by, with_variables, stops_at, goes_on_with, with_fields, with_targets, with_text}
use Rattle.sh_eval.specs.Targets.{Target}
use Rattle.sh_eval.specs.Growth.{Adds}
use Rattle.sh_eval.proofs.EndingLemmas.{ended}
use Rattle.sh_eval.proofs.Growing.{adds-assigning, adds-with_fields, adds-with_targets}
use Rattle.sh_eval.proofs.Steps.{changed-before, failed-early, meant-at, no-fewer}

-- the meaning of a part whose variables are these then
answers-has : (base : Base) (shell : Shell) (session : Session) (tree : TreeState) (seen : Seen) (faults : Faults) (state : State) (after : Variables) → Has base (point_of shell session tree seen faults) state
    → Has base (point_of (with_env after shell) session tree seen faults) (with_variables after state)
answers-has base shell session tree seen faults state after has =
    record { shell = ap (with_env after) has.shell; session = has.session; home = has.home; held = has.held; kept = has.kept; seen = has.seen }

-- an answer is gone on with, where the tree and what is written are as they were
pub answered : (first second : Meaning) (shell shell' : Shell) (session : Session) (tree : TreeState) (seen : Seen) (faults : Faults) (came : How) (new : Point) → shell' ≡ with_env shell'.variables shell
    → ((expansions : Expansions) → AreExpansions expansions → (base : Base) (state : State) → Has base (point_of shell session tree seen faults) state
    → first expansions state ≡ second expansions (with_variables shell'.variables state))
    → Evaluates second (point_of shell' session tree seen faults) came new → Evaluates first (point_of shell session tree seen faults) came new
answered first second shell shell' session tree seen faults came new others same found =
    let one : Evaluates second (point_of (with_env shell'.variables shell) session tree seen faults) came new =
    subst (λ (it : Shell). Evaluates second (point_of it session tree seen faults) came new) others found in
    record {
      comes = λ expansions are base state has. subst (λ (left : Ends). Comes base came new left) (sym (same expansions are base state has))
          (one.comes expansions are base (with_variables shell'.variables state) (answers-has base shell session tree seen faults state shell'.variables has));
      keeps = λ gone. let keeps = one.keeps gone in record { whole = keeps.whole; files = keeps.files; output = keeps.output; errors = keeps.errors };
      turns = one.turns;
      later = one.later;
      cause = one.cause;
      lent = one.lent;
    }

-- a fault that words mean isn't one of the outside
abbrev pub is-meant : ExpandFault → Type 0
is-meant (fault.Unset name text) = Unit {0}
is-meant (fault.Arith why) = Unit {0}
is-meant fault.ArgsTooMany = Unit {0}
is-meant fault.Failed = ⊥
is-meant fault.Memory = ⊥

pub meant-so : {A : Type 0} (why : ExpandFault) → is-meant why → IsOutside why ⊎ A → A
meant-so why meant (inl (inl same)) = absurd (subst is-meant same meant)
meant-so why meant (inl (inr same)) = absurd (subst is-meant same meant)
meant-so why meant (inr it) = it

-- FIELDS of words
module _ (words : List WordTree) (shell shell' : Shell) (session : Session) (tree : TreeState) (seen : Seen) (faults : Faults) (others : shell' ≡ with_env shell'.variables shell) where
  abbrev pub fields_told : Result (List (List ℕ)) ExpandFault → Type 0
  fields_told answer = (expansions : Expansions) → AreExpansions expansions → (files : Files) → tree.held ≡ Some files
      → told_fields (expansions.fields files tree.home (given_by shell) shell.variables words) ≡ (answer, shell'.variables)

  fields-so : (answer : Result (List (List ℕ)) ExpandFault) → fields_told answer → (next : List (List ℕ) → Means) (expansions : Expansions) → AreExpansions expansions → (base : Base) (state : State)
      → Has base (point_of shell session tree seen faults) state → with_fields expansions words next state ≡ goes_on_with next (answer, shell'.variables) state
  fields-so answer told next expansions are base state has =
      let by_world = told expansions are state.world.files has.held in
      let by_state : told_fields (expansions.fields state.world.files state.world.home (given_by state.shell) state.shell.variables words) ≡ (answer, shell'.variables) =
      subst (λ (home : _). told_fields (expansions.fields state.world.files home (given_by state.shell) state.shell.variables words) ≡ (answer, shell'.variables)) has.home
      (subst (λ (it : Shell). told_fields (expansions.fields state.world.files tree.home (given_by it) it.variables words) ≡ (answer, shell'.variables)) has.shell by_world) in
      ap (λ (it : Answer (List (List ℕ))). goes_on_with next it state) by_state

  pub words-pass : (fields : List (List ℕ)) → fields_told (Ok fields)
      → PassesOn (λ expansions. with_fields expansions words) (point_of shell session tree seen faults) fields (point_of shell' session tree seen faults)
  words-pass fields told next came new found =
      answered (λ expansions. with_fields expansions words (next expansions)) (λ expansions. next expansions fields) shell shell' session tree seen faults came new others
      (λ expansions are base state has. fields-so (Ok fields) told (next expansions) expansions are base state has) found

  pub words-stop : (why : ExpandFault) → fields_told (Err why) → (came : How) (new : Point) → Evaluates (λ expansions. stops_at why) (point_of shell' session tree seen faults) came new
      → StopsAt (λ expansions. with_fields expansions words) (point_of shell session tree seen faults) came new
  words-stop why told came new found next adds =
      answered (λ expansions. with_fields expansions words (next expansions)) (λ expansions. stops_at why) shell shell' session tree seen faults came new others
      (λ expansions are base state has. fields-so (Err why) told (next expansions) expansions are base state has) found

-- the call that asked the tree leaves its state and its count
pub words-passed : (words : List WordTree) (shell shell' : Shell) (session : Session) (tree tree' : TreeState) (seen : Seen) (faults faults' : Faults) (others : shell' ≡ with_env shell'.variables shell) (fields : List (List ℕ))
    → fields_told words shell shell' session tree seen faults others (Ok fields) → tree' ≡ tree → faults' ≡ faults
    → PassesOn (λ expansions. with_fields expansions words) (point_of shell session tree seen faults) fields (point_of shell' session tree' seen faults')
words-passed words shell shell' session tree tree' seen faults faults' others fields told tree_is faults_is =
    rw tree_is rw faults_is (words-pass words shell shell' session tree seen faults others fields told)

pub words-stopped : (words : List WordTree) (shell shell' : Shell) (session : Session) (tree tree' : TreeState) (seen : Seen) (faults faults' : Faults) (others : shell' ≡ with_env shell'.variables shell) (why : ExpandFault)
    → fields_told words shell shell' session tree seen faults others (Err why) → tree' ≡ tree → faults' ≡ faults → (came : How) (new : Point)
    → Evaluates (λ expansions. stops_at why) (point_of shell' session tree' seen faults') came new
    → StopsAt (λ expansions. with_fields expansions words) (point_of shell session tree seen faults) came new
words-stopped words shell shell' session tree tree' seen faults faults' others why told tree_is faults_is came new found =
    words-stop words shell shell' session tree seen faults others why told came new
    (subst (λ (it : TreeState). Evaluates (λ expansions. stops_at why) (point_of shell' session it seen faults) came new) tree_is
    (subst (λ (it : Faults). Evaluates (λ expansions. stops_at why) (point_of shell' session tree' seen it) came new) faults_is found))

-- the tree failed, or memory was wanted
pub asked-in-vain : (means : Meaning) → ((expansions : Expansions) → Adds (means expansions)) → (shell shell' : Shell) (session : Session) (tree tree' : TreeState) (seen : Seen) (input output errors before now : ℕ) (came : How) → (IsGone came → ⊥)
    → tree' ≡ tree → before ≤ now → HasCause came (faults_of input output errors before) (faults_of input output errors now)
    → Evaluates means (point_of shell session tree seen (faults_of input output errors before)) came (point_of shell' session tree' seen (faults_of input output errors now))
asked-in-vain means adds shell shell' session tree tree' seen input output errors before now came off tree_is later cause =
    rw tree_is
    (failed-early means adds shell shell' session tree seen (faults_of input output errors before) (faults_of input output errors now) came off
    (record { input = omega arith; output = omega arith; errors = omega arith; tree = later }) cause)

-- THE TEXT of a word of which nothing is split
module _ (word : WordTree) (shell shell' : Shell) (session : Session) (tree : TreeState) (seen : Seen) (faults : Faults) (others : shell' ≡ with_env shell'.variables shell) where
  abbrev pub text_told : Result (List ℕ) ExpandFault → Type 0
  text_told answer = (expansions : Expansions) → AreExpansions expansions → told_of (expansions.text (given_by shell) shell.variables word) ≡ (answer, shell'.variables)

  text-so : (answer : Result (List ℕ) ExpandFault) → text_told answer → (next : List ℕ → Means) (expansions : Expansions) → AreExpansions expansions → (base : Base) (state : State)
      → Has base (point_of shell session tree seen faults) state → with_text expansions word next state ≡ goes_on_with next (answer, shell'.variables) state
  text-so answer told next expansions are base state has =
      let by_state : told_of (expansions.text (given_by state.shell) state.shell.variables word) ≡ (answer, shell'.variables) =
      subst (λ (it : Shell). told_of (expansions.text (given_by it) it.variables word) ≡ (answer, shell'.variables)) has.shell (told expansions are) in
      ap (λ (it : Answer (List ℕ)). goes_on_with next it state) by_state

  pub text-passes : (text : List ℕ) → text_told (Ok text)
      → PassesOn (λ expansions. with_text expansions word) (point_of shell session tree seen faults) text (point_of shell' session tree seen faults)
  text-passes text told next came new found =
      answered (λ expansions. with_text expansions word (next expansions)) (λ expansions. next expansions text) shell shell' session tree seen faults came new others
      (λ expansions are base state has. text-so (Ok text) told (next expansions) expansions are base state has) found

  pub text-stops : (why : ExpandFault) → text_told (Err why) → (came : How) (new : Point) → Evaluates (λ expansions. stops_at why) (point_of shell' session tree seen faults) came new
      → StopsAt (λ expansions. with_text expansions word) (point_of shell session tree seen faults) came new
  text-stops why told came new found next adds =
      answered (λ expansions. with_text expansions word (next expansions)) (λ expansions. stops_at why) shell shell' session tree seen faults came new others
      (λ expansions are base state has. text-so (Err why) told (next expansions) expansions are base state has) found

-- A FAULT of words, whatever it is
calm-so : (why : ExpandFault) (before now : ℕ) → is-meant why → ((why ≡ fault.Failed) ⊎ (now ≡ before)) → now ≡ before
calm-so why before now meant (inl failed) = absurd (subst is-meant failed meant)
calm-so why before now meant (inr same) = same

undone-so : (means : Meaning) → ((expansions : Expansions) → Adds (means expansions)) → (shell shell' : Shell) (session : Session) (tree tree' : TreeState) (seen : Seen) (input output errors before now : ℕ) (came why : How) (new : Point) → (IsGone why → ⊥)
    → tree' ≡ tree → before ≤ now → HasCause why (faults_of input output errors before) (faults_of input output errors now) → Undone came (point_of shell' session tree' seen (faults_of input output errors now)) new why
    → Evaluates means (point_of shell session tree seen (faults_of input output errors before)) came new
undone-so means adds shell shell' session tree tree' seen input output errors before now came why new off tree_is later cause undone =
    rw undone.came_is rw undone.same (asked-in-vain means adds shell shell' session tree tree' seen input output errors before now why off tree_is later cause)

module _ (words : List WordTree) (shell shell' : Shell) (session : Session) (tree tree' : TreeState) (seen : Seen) (input output errors before now : ℕ) (others : shell' ≡ with_env shell'.variables shell) (tree_is : tree' ≡ tree) where
  abbrev pub tells_fields : ExpandFault → Type 0
  tells_fields why = (expansions : Expansions) → AreExpansions expansions → (files : Files) → tree.held ≡ Some files
      → IsOutside why ⊎ (told_fields (expansions.fields files tree.home (given_by shell) shell.variables words) ≡ (Err why, shell'.variables))

  words-end-meant : (why : ExpandFault) → is-meant why → tells_fields why → ((why ≡ fault.Failed) ⊎ (now ≡ before)) → (came : How) (new : Point)
      → Evaluates (λ expansions. stops_at why) (point_of shell' session tree' seen (faults_of input output errors now)) came new
      → StopsAt (λ expansions. with_fields expansions words) (point_of shell session tree seen (faults_of input output errors before)) came new
  words-end-meant why meant tells count came new found =
      words-stopped words shell shell' session tree tree' seen (faults_of input output errors before) (faults_of input output errors now) others why
      (λ expansions are files held. meant-so why meant (tells expansions are files held)) tree_is (ap (faults_of input output errors) (calm-so why before now meant count)) came new found

  pub words-end : (why : ExpandFault) → tells_fields why → before ≤ now → (why ≡ fault.Failed → Rose before now) → ((why ≡ fault.Failed) ⊎ (now ≡ before)) → (came : How) (new : Point)
      → EndsSo why (point_of shell' session tree' seen (faults_of input output errors now)) came new
      → StopsAt (λ expansions. with_fields expansions words) (point_of shell session tree seen (faults_of input output errors before)) came new
  words-end (fault.Unset name text) tells later rose count came new found = words-end-meant (fault.Unset name text) tt tells count came new found
  words-end (fault.Arith why) tells later rose count came new found = words-end-meant (fault.Arith why) tt tells count came new found
  words-end fault.ArgsTooMany tells later rose count came new found = words-end-meant fault.ArgsTooMany tt tells count came new found
  words-end fault.Failed tells later rose count came new found = λ next adds.
      undone-so (λ expansions. with_fields expansions words (next expansions)) (λ expansions. adds-with_fields expansions words (next expansions) (adds expansions))
      shell shell' session tree tree' seen input output errors before now came how.TreeFault new (λ gone. gone) tree_is later (rose refl) found
  words-end fault.Memory tells later rose count came new found = λ next adds.
      undone-so (λ expansions. with_fields expansions words (next expansions)) (λ expansions. adds-with_fields expansions words (next expansions) (adds expansions))
      shell shell' session tree tree' seen input output errors before now came how.Memory new (λ gone. gone) tree_is later tt found

-- a list from a place on, by its trees
trees-step : {Item Tree : Type 0} (tree : Item → Tree) (items : List Item) (place : ℕ) (one : Item) → one ≡ get_or items place one → place < length items
    → map tree (drop place items) ≡ tree one ∷ map tree (drop (place + 1) items)
trees-step tree items place one here below =
    let cut : drop place items ≡ get_or items place one ∷ drop (place + 1) items = rw add-one (drop-cons items place one below) in
    ap (map tree) cut ∙ ap (λ (it : _). tree it ∷ map tree (drop (place + 1) items)) (sym here)

-- REDIRECTIONS. What goes on with the targets of those from a place on, behind these
abbrev pub with_more : List Redir → ℕ → List Target → (Expansions → List Target → Means) → Meaning
with_more redirs place targets next = λ expansions. with_targets expansions (map redir_tree (drop place redirs)) (λ more. next expansions (targets ++ more))

target-more : (targets : List Target) (one : Target) (next : List Target → Means) → ◌≡◌ {A = List Target → Means} (λ more. next ((targets ++ one ∷ []) ++ more)) (λ more. next (targets ++ one ∷ more))
target-more targets one next = fun_ext (λ more. ap next (append_assoc targets (one ∷ []) more))

module _ (redirs : List Redir) (place : ℕ) (one : Redir) (here : one ≡ get_or redirs place one) (below : place < length redirs) (targets : List Target)
    (shell shell' : Shell) (session : Session) (tree : TreeState) (seen : Seen) (faults : Faults) (others : shell' ≡ with_env shell'.variables shell) where
  abbrev pub target_of : List ℕ → Target
  target_of text = record { number = one.number; how = one.how; text = text }

  abbrev behind_target : (Expansions → List Target → Means) → Expansions → List ℕ → Means
  behind_target next expansions text = with_targets expansions (map redir_tree (drop (place + 1) redirs)) (λ more. next expansions (targets ++ target_of text ∷ more))

  pub targets-stop : (why : ExpandFault) → text_told (word_tree one.word) shell shell' session tree seen faults others (Err why) → (came : How) (new : Point)
      → Evaluates (λ expansions. stops_at why) (point_of shell' session tree seen faults) came new → (next : Expansions → List Target → Means) → ((expansions : Expansions) (targets : List Target) → Adds (next expansions targets))
      → Evaluates (with_more redirs place targets next) (point_of shell session tree seen faults) came new
  targets-stop why told came new found next adds =
      subst (λ (it : List RedirTree). Evaluates (λ expansions. with_targets expansions it (λ more. next expansions (targets ++ more))) (point_of shell session tree seen faults) came new) (sym (trees-step redir_tree redirs place one here below))
      (text-stops (word_tree one.word) shell shell' session tree seen faults others why told came new found (behind_target next)
      (λ expansions text. adds-with_targets expansions (map redir_tree (drop (place + 1) redirs)) (λ more. next expansions (targets ++ target_of text ∷ more)) (λ more. adds expansions (targets ++ target_of text ∷ more))))

  pub targets-pass : (text made : List ℕ) (targets' : List Target) → text_told (word_tree one.word) shell shell' session tree seen faults others (Ok text) → made ≡ text → targets' ≡ targets ++ target_of made ∷ []
      → (came : How) (new : Point) (next : Expansions → List Target → Means) → Evaluates (with_more redirs (place + 1) targets' next) (point_of shell' session tree seen faults) came new
      → Evaluates (with_more redirs place targets next) (point_of shell session tree seen faults) came new
  targets-pass text made targets' told same is came new next rest =
      let rest' : Evaluates (λ expansions. behind_target next expansions text) (point_of shell' session tree seen faults) came new =
      meant-at (λ expansions. behind_target next expansions text) (with_more redirs (place + 1) targets' next) (point_of shell' session tree seen faults) new came
      (λ expansions base state has.
      sym (ap (λ (it : List Target). with_targets expansions (map redir_tree (drop (place + 1) redirs)) (λ more. next expansions (it ++ more)) state) (is ∙ ap (λ (it : List ℕ). targets ++ target_of it ∷ []) same)
      ∙ ap (λ (it : List Target → Means). with_targets expansions (map redir_tree (drop (place + 1) redirs)) it state) (target-more targets (target_of text) (next expansions)))) rest in
      subst (λ (it : List RedirTree). Evaluates (λ expansions. with_targets expansions it (λ more. next expansions (targets ++ more))) (point_of shell session tree seen faults) came new) (sym (trees-step redir_tree redirs place one here below))
      (text-passes (word_tree one.word) shell shell' session tree seen faults others text told (behind_target next) came new rest')

-- a redirection's word has a fault
pub targets-end : (redirs : List Redir) (place : ℕ) (one : Redir) → one ≡ get_or redirs place one → place < length redirs → (targets : List Target)
    → (shell shell' : Shell) (session : Session) (tree : TreeState) (seen : Seen) (input output errors of_tree : ℕ) (others : shell' ≡ with_env shell'.variables shell) (why : ExpandFault) → IsOfWords why
    → ((expansions : Expansions) → AreExpansions expansions → IsOutside why ⊎ (told_of (expansions.text (given_by shell) shell.variables (word_tree one.word)) ≡ (Err why, shell'.variables)))
    → (came : How) (new : Point) → EndsSo why (point_of shell' session tree seen (faults_of input output errors of_tree)) came new
    → (next : Expansions → List Target → Means) → ((expansions : Expansions) (targets : List Target) → Adds (next expansions targets))
    → Evaluates (with_more redirs place targets next) (point_of shell session tree seen (faults_of input output errors of_tree)) came new
targets-end redirs place one here below targets shell shell' session tree seen input output errors of_tree others (fault.Unset name text) of_words tells came new found next adds =
    targets-stop redirs place one here below targets shell shell' session tree seen (faults_of input output errors of_tree) others (fault.Unset name text) (λ expansions are. meant-so (fault.Unset name text) tt (tells expansions are)) came new found next adds
targets-end redirs place one here below targets shell shell' session tree seen input output errors of_tree others (fault.Arith why) of_words tells came new found next adds =
    targets-stop redirs place one here below targets shell shell' session tree seen (faults_of input output errors of_tree) others (fault.Arith why) (λ expansions are. meant-so (fault.Arith why) tt (tells expansions are)) came new found next adds
targets-end redirs place one here below targets shell shell' session tree seen input output errors of_tree others fault.ArgsTooMany of_words tells came new found next adds = absurd of_words
targets-end redirs place one here below targets shell shell' session tree seen input output errors of_tree others fault.Failed of_words tells came new found next adds = absurd of_words
targets-end redirs place one here below targets shell shell' session tree seen input output errors of_tree others fault.Memory of_words tells came new found next adds =
    undone-so (with_more redirs place targets next) (λ expansions. adds-with_targets expansions (map redir_tree (drop place redirs)) (λ more. next expansions (targets ++ more)) (λ more. adds expansions (targets ++ more)))
    shell shell' session tree tree seen input output errors of_tree of_tree came how.Memory new (λ gone. gone) refl (omega arith) tt found

-- memory is wanted for them
pub targets-wanted : (redirs : List Redir) (place : ℕ) (targets : List Target) (shell shell' : Shell) (session : Session) (tree : TreeState) (seen : Seen) (faults : Faults)
    (next : Expansions → List Target → Means) → ((expansions : Expansions) (targets : List Target) → Adds (next expansions targets))
    → Evaluates (with_more redirs place targets next) (point_of shell session tree seen faults) how.Memory (point_of shell' session tree seen faults)
targets-wanted redirs place targets shell shell' session tree seen faults next adds =
    failed-early (with_more redirs place targets next) (λ expansions. adds-with_targets expansions (map redir_tree (drop place redirs)) (λ more. next expansions (targets ++ more)) (λ more. adds expansions (targets ++ more)))
    shell shell' session tree seen faults faults how.Memory (λ gone. gone) (no-fewer faults) tt

-- all of them
pub targets-done : (redirs : List Redir) (place : ℕ) (targets : List Target) → length redirs ≤ place → (next : Expansions → List Target → Means) (at new : Point) (came : How)
    → Evaluates (λ expansions. next expansions targets) at came new → Evaluates (with_more redirs place targets next) at came new
targets-done redirs place targets over next at new came one =
    subst (λ (it : List Redir). Evaluates (λ expansions. with_targets expansions (map redir_tree it) (λ more. next expansions (targets ++ more))) at came new) (sym (drop_of_length-le redirs over))
    (subst (λ (it : List Target). Evaluates (λ expansions. next expansions it) at came new) (sym (append-nil targets)) one)

-- none yet
pub targets-begun : (redirs : List Redir) (targets : List Target) → targets ≡ [] → (next : Expansions → List Target → Means) (at new : Point) (came : How)
    → Evaluates (with_more redirs 0 targets next) at came new → Evaluates (λ expansions. with_targets expansions (map redir_tree redirs) (next expansions)) at came new
targets-begun redirs targets none next at new came one =
    subst (λ (it : List Target). Evaluates (with_more redirs 0 it next) at came new) none one

-- ASSIGNMENTS
module _ (assigns : List (Text × Word)) (place : ℕ) (one : Text × Word) (here : one ≡ get_or assigns place one) (below : place < length assigns)
    (shell : Shell) (session : Session) (tree : TreeState) (seen : Seen) (faults : Faults) where
  abbrev behind_text : (Expansions → Means) → Expansions → List ℕ → Means
  behind_text next expansions text state = assigning expansions (map assign_tree (drop (place + 1) assigns)) (next expansions) (set_to one.0 text state)

  pub assigns-stop : (shell' : Shell) (others : shell' ≡ with_env shell'.variables shell) (why : ExpandFault) → text_told (word_tree one.1) shell shell' session tree seen faults others (Err why) → (came : How) (new : Point)
      → Evaluates (λ expansions. stops_at why) (point_of shell' session tree seen faults) came new → (next : Expansions → Means) → ((expansions : Expansions) → Adds (next expansions))
      → Evaluates (λ expansions. assigning expansions (map assign_tree (drop place assigns)) (next expansions)) (point_of shell session tree seen faults) came new
  assigns-stop shell' others why told came new found next adds =
      rw (trees-step assign_tree assigns place one here below)
      (text-stops (word_tree one.1) shell shell' session tree seen faults others why told came new found (behind_text next)
      (λ expansions text state. adds-assigning expansions (map assign_tree (drop (place + 1) assigns)) (next expansions) (adds expansions) (set_to one.0 text state)))

  pub assigns-pass : (shell' shell'' : Shell) (others : shell' ≡ with_env shell'.variables shell) (text : List ℕ) → text_told (word_tree one.1) shell shell' session tree seen faults others (Ok text)
      → shell'' ≡ with_env (finite.insert shell'.variables one.0 text) shell' → (came : How) (new : Point) (next : Expansions → Means)
      → Evaluates (λ expansions. assigning expansions (map assign_tree (drop (place + 1) assigns)) (next expansions)) (point_of shell'' session tree seen faults) came new
      → Evaluates (λ expansions. assigning expansions (map assign_tree (drop place assigns)) (next expansions)) (point_of shell session tree seen faults) came new
  assigns-pass shell' shell'' others text told set came new next rest =
      rw (trees-step assign_tree assigns place one here below)
      (text-passes (word_tree one.1) shell shell' session tree seen faults others text told (behind_text next) came new
      (changed-before (λ expansions. assigning expansions (map assign_tree (drop (place + 1) assigns)) (next expansions)) (λ shell. with_env (finite.insert shell.variables one.0 text) shell) shell' shell'' session tree seen faults came new set rest))

-- an assignment ends at a fault of its word
pub assigns-end : (assigns : List (Text × Word)) (place : ℕ) (one : Text × Word) → one ≡ get_or assigns place one → place < length assigns
    → (shell shell' : Shell) (session : Session) (tree : TreeState) (seen : Seen) (input output errors of_tree : ℕ) (others : shell' ≡ with_env shell'.variables shell) (why : ExpandFault) → IsOfWords why
    → ((expansions : Expansions) → AreExpansions expansions → IsOutside why ⊎ (told_of (expansions.text (given_by shell) shell.variables (word_tree one.1)) ≡ (Err why, shell'.variables)))
    → (came : How) (new : Point) → EndsSo why (point_of shell' session tree seen (faults_of input output errors of_tree)) came new → (next : Expansions → Means) → ((expansions : Expansions) → Adds (next expansions))
    → Evaluates (λ expansions. assigning expansions (map assign_tree (drop place assigns)) (next expansions)) (point_of shell session tree seen (faults_of input output errors of_tree)) came new
assigns-end assigns place one here below shell shell' session tree seen input output errors of_tree others (fault.Unset name text) of_words tells came new found next adds =
    assigns-stop assigns place one here below shell session tree seen (faults_of input output errors of_tree) shell' others (fault.Unset name text) (λ expansions are. meant-so (fault.Unset name text) tt (tells expansions are)) came new found next adds
assigns-end assigns place one here below shell shell' session tree seen input output errors of_tree others (fault.Arith why) of_words tells came new found next adds =
    assigns-stop assigns place one here below shell session tree seen (faults_of input output errors of_tree) shell' others (fault.Arith why) (λ expansions are. meant-so (fault.Arith why) tt (tells expansions are)) came new found next adds
assigns-end assigns place one here below shell shell' session tree seen input output errors of_tree others fault.ArgsTooMany of_words tells came new found next adds = absurd of_words
assigns-end assigns place one here below shell shell' session tree seen input output errors of_tree others fault.Failed of_words tells came new found next adds = absurd of_words
assigns-end assigns place one here below shell shell' session tree seen input output errors of_tree others fault.Memory of_words tells came new found next adds =
    undone-so (λ expansions. assigning expansions (map assign_tree (drop place assigns)) (next expansions)) (λ expansions. adds-assigning expansions (map assign_tree (drop place assigns)) (next expansions) (adds expansions))
    shell shell' session tree tree seen input output errors of_tree of_tree came how.Memory new (λ gone. gone) refl (omega arith) tt found

pub assigns-done : (assigns : List (Text × Word)) (place : ℕ) → length assigns ≤ place → (next : Expansions → Means) (expansions : Expansions)
    → assigning expansions (map assign_tree (drop place assigns)) (next expansions) ≡ next expansions
assigns-done assigns place over next expansions = rw (drop_of_length-le assigns over) refl

-- the variables of a command have their old values again, the last first
restored-last : (front : List (List ℕ × WordTree)) (last : List ℕ × WordTree) (old variables : Variables)
    → restored (front ++ last ∷ []) old variables ≡ restored front old (put_back last.0 (finite.get old last.0) variables)
restored-last [] last old variables = refl
restored-last (first ∷ front) last old variables = ap (put_back first.0 (finite.get old first.0)) (restored-last front last old variables)

trees-last : (front : List (Text × Word)) (last : Text × Word) → map assign_tree (front ++ last ∷ []) ≡ map assign_tree front ++ assign_tree last ∷ []
trees-last front last = map-append assign_tree front (last ∷ [])

pub restored-some : (front : List (Text × Word)) (last : Text × Word) (old variables : Variables) (text : List ℕ) → finite.get old last.0 ≡ Some text
    → restored (map assign_tree (front ++ last ∷ [])) old variables ≡ restored (map assign_tree front) old (finite.insert variables last.0 text)
restored-some front last old variables text is = rw (trees-last front last) rw (restored-last (map assign_tree front) (assign_tree last) old variables) rw is refl

pub restored-none : (front : List (Text × Word)) (last : Text × Word) (old variables : Variables) → finite.get old last.0 ≡ None
    → restored (map assign_tree (front ++ last ∷ [])) old variables ≡ restored (map assign_tree front) old (finite.remove variables last.0)
restored-none front last old variables is = rw (trees-last front last) rw (restored-last (map assign_tree front) (assign_tree last) old variables) rw is refl

pub ruleset restored_steps = (restored-some, restored-none)

-- the shell ends behind a line
pub told-so : (text line : List ℕ) (shell shell' : Shell) (session session' : Session) (tree tree' : TreeState) (seen seen' : Seen) (faults faults' : Faults) (came came' : How) → line ≡ text
    → shell' ≡ status_behind came 1 shell → came' ≡ how_behind came flow.Exit → Evaluates (λ expansions state. on (tells line state)) (point_of shell session tree seen faults) came (point_of shell session' tree' seen' faults')
    → Evaluates (λ expansions. ends_told text) (point_of shell session tree seen faults) came' (point_of shell' session' tree' seen' faults')
told-so text line shell shell' session session' tree tree' seen seen' faults faults' came came' is shell_is came_is one =
    ended (λ expansions state. on (tells text state)) flow.Exit 1 shell shell' session session' tree tree' seen seen' faults faults' came came' shell_is came_is
    (subst (λ (it : List ℕ). Evaluates (λ expansions state. on (tells it state)) (point_of shell session tree seen faults) came (point_of shell session' tree' seen' faults')) is one)
