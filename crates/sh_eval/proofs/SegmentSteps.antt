-- Members of a pipeline that ran as one graph are evaluated.
use Rattle.std.proofs.Common.{◌≡◌, ◌≤◌, ◌+◌, ◌-◌, ℕ, zero, suc, List, [], ◌∷◌, ◌++◌, Bool, true, false, ◌&&◌, drop, length, take, Option, Some, IfSome, refl, sym, ap, append-nil, ◌∙◌, subst, arith}
use Rattle.std.proofs.Math.Seq.{take-length}
use Rattle.std.proofs.lemmas.List.{drop-drop, length-drop, take-append-drop}
use Rattle.std.specs.List.{flat_map}
use Rattle.ps_world.specs.Files.{Files, bytes_at}
use Rattle.ps_world.specs.Paths.{Components}
use Rattle.ps_world.specs.TreeState.{TreeState}
use Rattle.ps_world.proofs.TreeStateLemmas.{balanced-none}
use Rattle.ut_args.specs.Inputs.{operands_of}
use Rattle.ut_args.specs.Invocations.{command_of}
use Rattle.fl_segments.specs.Chains.{begins_with}
use Rattle.fl_commands.specs.Inner.Stages.{some_lacks}
use Rattle.fl_commands.specs.Members as members
use Rattle.fl_commands.specs.Members.{files_teed, member_output, member_status, noted_of, output_through, texts_through}
use Rattle.fl_commands.specs.Runs.{pipeline_asks}
use Rattle.fl_commands.specs.Writers.{all_added}
use Rattle.fl_commands.specs.declared.members.Member.{Member}
use Rattle.sh_tree.specs.Views.{command_tree, stages_tree}
use Rattle.sh_tree.specs.declared.commands.Command.{Command}
use Rattle.sh_expand.specs.Outcomes.{AreExpansions, Expansions}
use Rattle.sh_eval.specs.declared.flows.Flow.TheVariants as flow
use Rattle.sh_eval.specs.declared.outcomes.How.{How}
use Rattle.sh_eval.specs.declared.outcomes.Position.{Position}
use Rattle.sh_eval.specs.declared.outcomes.How.TheVariants as how
use Rattle.sh_eval.specs.declared.session.Session.{Session}
use Rattle.sh_eval.specs.declared.shell.Shell.{Shell}
use Rattle.sh_eval.specs.declared.streams.From.TheVariants as from
use Rattle.sh_eval.specs.declared.gathering.Segment.{Segment}
use Rattle.sh_eval.specs.declared.streams.Held.{Held}
use Rattle.sh_eval.specs.declared.streams.Streams.{Streams}
use Rattle.sh_eval.specs.Commands.{last_stage, position_at, staged}
use Rattle.sh_eval.specs.Contract.{Seen, Faults, Point, point_of, Base, Has, Comes, Meaning, Evaluates, goes_on}
use Rattle.sh_eval.specs.Growth.{Adds}
use Rattle.sh_eval.specs.Inner.Gathering.{AllLooked, AllPlain, GathersFront, IsPlain, IsRunnable, AreMembers, AreTold, calls_of, emptied}
use Rattle.sh_eval.specs.Inner.Inputs.{IsLooked, called_by, reads_stream}
use Rattle.sh_eval.specs.Inner.Runs.{AreMeant, given_all, pipeline_does, reads_head, takes}
use Rattle.sh_eval.specs.Inner.Staging.{members_mean, part_means, rest_means}
use Rattle.sh_eval.specs.Meaning.{later_stages_mean, stages_means}
use Rattle.sh_eval.specs.Segments.{is_plain_place, lines_for, name_of, no_pipe, runs_through, status_for, status_through, takes_through, text_through, ran_of, written_by}
use Rattle.sh_eval.specs.States.{State, Ends, Means, after, in_session, on, reading, to_read}
use Rattle.sh_eval.specs.Table.{pages}
use Rattle.sh_eval.specs.Utilities.{Called, needs_all, tells_some}
use Rattle.sh_eval.proofs.Growing.{adds-takes, grows-self, grows-tells_some, grows-trans}
use Rattle.sh_eval.proofs.OperandSteps.{lacks-are, looked, reads-are}
use Rattle.sh_eval.proofs.ListSteps.{after-on, behind-those, rest-adds, rest-later}
use Rattle.sh_eval.proofs.SegmentLemmas.{IsAt, first-as_one, first-front, last-as_one, later-front, later-so, middle-as_one, several-as_one}
use Rattle.sh_eval.proofs.Steps.{followed, held-none, meant-at, meant-where, no-fewer, stopped}
use Rattle.sh_eval.proofs.UtilitySteps.{noted-so, output-so, own-so, status-so}

-- WHAT IS ASKED FOR of members is what they mean
module _ (tree : TreeState) (state : State) (told : tree.held ≡ Some state.world.files) (home : tree.home ≡ state.world.home) where
  -- the state in which descriptor 0 gives this text
  abbrev fed : List ℕ → State
  fed text = in_session (reading (from.Kept text)) state

  module _ (member : Member) (looks : IsLooked tree (operands_of member.inv) member.operands.items) (plain : IsPlain state (called_by member.inv)) where
    named : member.operands.items ≡ looked state (operands_of member.inv)
    named = looks.named state told home

    -- where it needs all its operands, each has an input
    needed : (needs_all (command_of member.inv) && some_lacks member.operands.items) ≡ false
    needed = ap (λ (it : Bool). needs_all (command_of member.inv) && it) (ap some_lacks named ∙ sym (lacks-are state (operands_of member.inv))) ∙ plain.is_whole

    -- what it writes, where the stream is this text or isn't read
    written-so : (stream text : List ℕ) → (reads_stream member.operands.items ≡ true → stream ≡ text) → member_output member (bytes_at state.world.files) stream ≡ written_by pages state (called_by member.inv) text
    written-so stream text same = output-so (name_of (called_by member.inv)) member.inv member.operands.items needed (fed text) named stream same

    left-so : (stream text : List ℕ) → (reads_stream member.operands.items ≡ true → stream ≡ text) → member_status member (bytes_at state.world.files) stream ≡ status_for pages state (called_by member.inv) text
    left-so stream text same = status-so (name_of (called_by member.inv)) member.inv member.operands.items needed (fed text) named stream same

  -- each over the output of the one before
  through-so : (all : List Member) → AllLooked tree all → AllPlain state (calls_of all) → (text : List ℕ) → output_through all (bytes_at state.world.files) text ≡ text_through pages state (calls_of all) text
  through-so [] looks plain text = refl
  through-so (member ∷ rest) looks plain text =
      ap (output_through rest (bytes_at state.world.files)) (written-so member looks.0 plain.0 text text (λ is. refl))
      ∙ through-so rest looks.1 plain.1 (written_by pages state (called_by member.inv) text)

  statuses-so : (member : Member) (rest : List Member) → AllLooked tree (member ∷ rest) → AllPlain state (calls_of (member ∷ rest)) → (stream text : List ℕ) → (reads_stream member.operands.items ≡ true → stream ≡ text)
      → members.status_through (member ∷ rest) (bytes_at state.world.files) stream ≡ status_through pages state (calls_of (member ∷ rest)) text
  statuses-so member [] looks plain stream text same = left-so member looks.0 plain.0 stream text same
  statuses-so member (next ∷ rest) looks plain stream text same =
      ap (members.status_through (next ∷ rest) (bytes_at state.world.files)) (written-so member looks.0 plain.0 stream text same)
      ∙ statuses-so next rest looks.1 plain.1 (written_by pages state (called_by member.inv) text) (written_by pages state (called_by member.inv) text) (λ is. refl)

  ran-so : (all : List Member) → AllLooked tree all → AllPlain state (calls_of all) → noted_of all ≡ flat_map (ran_of state) (calls_of all)
  ran-so [] looks plain = refl
  ran-so (member ∷ rest) looks plain =
      (λ i. noted-so (name_of (called_by member.inv)) member.inv member.operands.items (needed member looks.0 plain.0) state (named member looks.0 plain.0) i ++ ran-so rest looks.1 plain.1 i)

pub pipeline-meant : (all : List Member) (lines : List ℕ) (tree : TreeState) → 1 ≤ length all → files_teed all ≡ [] → AllLooked tree all → AreTold all lines tree → AreMeant (pipeline_asks all) (reads_head all) (pipeline_does (calls_of all)) tree
pipeline-meant [] lines tree some teeless looks plain first state told home begins = absurd (omega (arith, some))
pipeline-meant (member ∷ rest) lines tree some teeless looks plain first state told home begins =
    let are = (plain state told home).0 in
    let here = named tree state told home member looks.0 are.0 in
    let whole = needed tree state told home member looks.0 are.0 in
    record {
      same = ap reads_stream here ∙ reads-are state (operands_of member.inv);
      output =
          ap (output_through rest (bytes_at state.world.files)) (written-so tree state told home member looks.0 are.0 (begins_with first state.world.input) (to_read state) begins.text)
          ∙ through-so tree state told home rest looks.1 are.1 (written_by pages state (called_by member.inv) (to_read state));
      status = statuses-so tree state told home member rest looks are (begins_with first state.world.input) (to_read state) begins.text;
      noted = ran-so tree state told home (member ∷ rest) looks are;
      drawn = own-so (name_of (called_by member.inv)) member.inv member.operands.items whole state here first (reads_stream member.operands.items) refl begins.own;
      added = λ files.
          subst (λ (it : List Components). all_added it (texts_through (member ∷ rest) (bytes_at state.world.files) (begins_with first state.world.input)) files
          ≡ given_all it ((pipeline_does (calls_of (member ∷ rest))).written state) files) (sym teeless) refl;
    }

-- THE RUN: the lines, the members, and nothing left in the pipe
pub emptied-so : (shell : Shell) (session session' : Session) (tree : TreeState) (seen : Seen) (faults : Faults) → session' ≡ no_pipe session
    → Evaluates (λ expansions state. on (in_session no_pipe state)) (point_of shell session tree seen faults) (how.Gone flow.On) (point_of shell session' tree seen faults)
emptied-so shell session session' tree seen faults is =
    record {
      comes = λ expansions are base state has. record {
        flow = refl;
        has = record { shell = has.shell; session = is ∙ ap no_pipe has.session; home = has.home; held = has.held; kept = has.kept; seen = has.seen };
      };
      keeps = λ gone. record { whole = λ held. held; files = held-none tree.held; output = ap (λ (it : Session). it.streams.to) is; errors = ap (λ (it : Session). it.streams.errors_to) is };
      turns = rw is (omega arith);
      later = no-fewer faults;
      cause = refl;
      lent = balanced-none tree;
    }

module _ (all : List Member) (lines : List ℕ) where
  abbrev tells_lines : Meaning
  tells_lines expansions state = on (tells_some lines state)

  abbrev takes_all : Meaning
  takes_all expansions = takes [] (pipeline_does (calls_of all))

  abbrev empties : Meaning
  empties expansions state = on (in_session no_pipe state)

  abbrev takes_then : Meaning
  takes_then expansions state = after (takes_all expansions state) (empties expansions)

  abbrev all_means : Meaning
  all_means expansions state = emptied (runs_through pages (calls_of all) state)

  then-adds : (expansions : Expansions) → Adds (takes_then expansions)
  then-adds expansions state = let grows = adds-takes [] (pipeline_does (calls_of all)) state in record { output = grows.output; errors = grows.errors; written = grows.written; turns = grows.turns }

  module _ (old : Point) (told : AreTold all lines old.tree) where
    same : (expansions : Expansions) (base : Base) (state : State) → Has base old state → all_means expansions state ≡ after (tells_lines expansions state) (takes_then expansions)
    same expansions base state has = ap (λ (it : List ℕ). emptied (takes_through pages (calls_of all) (tells_some it state))) (sym (told state has.held has.home).1)

    pub lines-stopped : (new : Point) (came : How) → goes_on came ≡ false → Evaluates tells_lines old came new → Evaluates all_means old came new
    lines-stopped new came off one = meant-at all_means (λ expansions state. after (tells_lines expansions state) (takes_then expansions)) old new came same (stopped tells_lines takes_then old new came off then-adds one)

    pub members-stopped : (mid new : Point) (came then_how : How) → goes_on came ≡ true → goes_on then_how ≡ false → Evaluates tells_lines old came mid → Evaluates takes_all mid then_how new → Evaluates all_means old then_how new
    members-stopped mid new came then_how is off one other =
        meant-at all_means (λ expansions state. after (tells_lines expansions state) (takes_then expansions)) old new then_how same
        (followed tells_lines takes_then old mid new came then_how is one
        (stopped takes_all empties mid new then_how off (λ expansions state. grows-self state) other))

    pub members-ran : (mid next new : Point) (came then_how : How) → goes_on came ≡ true → goes_on then_how ≡ true → Evaluates tells_lines old came mid → Evaluates takes_all mid then_how next → Evaluates empties next (how.Gone flow.On) new
        → Evaluates all_means old (how.Gone flow.On) new
    members-ran mid next new came then_how is goes one other last =
        meant-at all_means (λ expansions state. after (tells_lines expansions state) (takes_then expansions)) old new (how.Gone flow.On) same
        (followed tells_lines takes_then old mid new came (how.Gone flow.On) is one
        (followed takes_all empties mid next new then_how (how.Gone flow.On) goes other last))

-- A PART OF A PIPELINE means what its stages do, one after the other
front-so : (expansions : Expansions) (files : Files) (home : Components) (held : List Held) (shell : Shell) (before : ℕ) (front more : List Command) (calls : List Called) (state : State) → 2 ≤ length calls
    → AreMembers expansions pages files home held shell (stages_tree front) calls → IsAt pages expansions files home held shell state → AllPlain state calls
    → rest_means expansions before (front ++ more) state
    ≡ after (part_means before (length more) (λ inner. emptied (runs_through pages calls inner)) state) (later_stages_mean expansions pages (stages_tree more))
front-so expansions files home held shell before front more [] state several are at plain = absurd (omega (arith, several))
front-so expansions files home held shell before front more (first ∷ []) state several are at plain = absurd (omega (arith, several))
front-so expansions files home held shell before [] more (first ∷ next ∷ rest) state several are at plain = absurd are
front-so expansions files home held shell before (one ∷ []) more (first ∷ next ∷ rest) state several are at plain = absurd are.1
front-so expansions files home held shell zero (one ∷ second ∷ front) [] (first ∷ next ∷ rest) state several are at plain =
    ap (λ (it : List Command). stages_means expansions pages (stages_tree it) state) (append-nil (one ∷ second ∷ front))
    ∙ several-as_one pages expansions files home held shell (command_tree one) (command_tree second) (stages_tree front) first next rest state are at plain
    ∙ after-on (emptied (runs_through pages (first ∷ next ∷ rest) state))
front-so expansions files home held shell zero (one ∷ second ∷ front) (behind ∷ more) (first ∷ next ∷ rest) state several are at plain =
    first-front pages expansions files home held shell one second front behind more first next rest state are at plain
    ∙ sym (ap (λ (it : Ends). after it (later_stages_mean expansions pages (stages_tree (behind ∷ more)))) (first-as_one pages expansions files home held shell (first ∷ next ∷ rest) state at))
front-so expansions files home held shell (suc before) (one ∷ second ∷ front) [] (first ∷ next ∷ rest) state several are at plain =
    ap (λ (it : List Command). later_stages_mean expansions pages (stages_tree it) state) (append-nil (one ∷ second ∷ front))
    ∙ later-so pages expansions files home held shell (command_tree one) (stages_tree (second ∷ front)) first (next ∷ rest) state are at plain
    ∙ sym (last-as_one pages expansions files home held shell (first ∷ next ∷ rest) state at)
    ∙ after-on (last_stage (λ inner. emptied (runs_through pages (first ∷ next ∷ rest) inner)) state)
front-so expansions files home held shell (suc before) (one ∷ second ∷ front) (behind ∷ more) (first ∷ next ∷ rest) state several are at plain =
    later-front pages expansions files home held shell one (second ∷ front) behind more first (next ∷ rest) state are at plain
    ∙ sym (ap (λ (it : Ends). after it (later_stages_mean expansions pages (stages_tree (behind ∷ more)))) (middle-as_one pages expansions files home held shell (first ∷ next ∷ rest) state at))

calls-many : (all : List Member) → length (calls_of all) ≡ length all
calls-many [] = refl
calls-many (member ∷ rest) = ap suc (calls-many rest)

module _ (stages : List Command) (place : ℕ) (segment : Segment) (shell : Shell) (session : Session) (tree : TreeState) (seen : Seen) (faults : Faults)
    (gathers : GathersFront (drop place stages) shell session.streams tree segment) (taken : ℕ) (counted : taken ≡ length segment.members.items) where
  abbrev all : List Member
  all = segment.members.items

  abbrev part_of : ℕ → Meaning
  part_of count expansions = part_means place (length stages - place - count) (members_mean all expansions)

  abbrev behind_of : ℕ → Meaning
  behind_of count expansions = rest_means expansions (place + count) (drop (place + count) stages)

  abbrev part : Meaning
  part = part_of taken

  abbrev behind : Meaning
  behind = behind_of taken

  cut : drop place stages ≡ take (length all) (drop place stages) ++ drop (place + length all) stages
  cut = sym (take-append-drop (length all) (drop place stages)) ∙ ap (λ (it : List Command). take (length all) (drop place stages) ++ it) (drop-drop (length all) place stages)

  at-here : (expansions : Expansions) (base : Base) (state : State) → Has base (point_of shell session tree seen faults) state → IsAt pages expansions state.world.files tree.home session.streams.held shell state
  at-here expansions base state has =
      record {
        files_are = refl;
        home_is = sym has.home;
        held_are = ap (λ (it : Session). it.streams.held) (sym has.session);
        shell_is = sym has.shell;
        plain = ap (λ (it : Session). is_plain_place it.streams.errors_to) (sym has.session) ∙ gathers.plain;
      }

  part-so : (expansions : Expansions) → AreExpansions expansions → (base : Base) (state : State) → Has base (point_of shell session tree seen faults) state
      → rest_means expansions place (drop place stages) state ≡ after (part expansions state) (behind expansions)
  part-so expansions are base state has =
      let several = gathers.several in
      ap (λ (it : List Command). rest_means expansions place it state) cut
      ∙ front-so expansions state.world.files tree.home session.streams.held shell place (take (length all) (drop place stages)) (drop (place + length all) stages) (calls_of all) state (rw (calls-many all) several)
      (gathers.front.gathered.stand expansions are state.world.files has.held) (at-here expansions base state has) (gathers.front.gathered.told state has.held has.home).0
      ∙ ap (λ (it : ℕ). after (part_means place it (members_mean all expansions) state) (later_stages_mean expansions pages (stages_tree (drop (place + length all) stages)))) (behind-those stages place (length all))
      ∙ ap (after (part_of (length all) expansions state)) (sym (rest-later expansions (place + length all) (drop (place + length all) stages) (omega (arith, several))))
      ∙ ap (λ (it : ℕ). after (part_of it expansions state) (behind_of it expansions)) (sym counted)

  pub part-followed : (mid new : Point) (came then_how : How) → goes_on came ≡ true → Evaluates part (point_of shell session tree seen faults) came mid → Evaluates behind mid then_how new
      → Evaluates (λ expansions. rest_means expansions place (drop place stages)) (point_of shell session tree seen faults) then_how new
  part-followed mid new came then_how is one others =
      meant-where (λ expansions. rest_means expansions place (drop place stages)) (λ expansions state. after (part expansions state) (behind expansions)) (point_of shell session tree seen faults) new then_how part-so
      (followed part behind (point_of shell session tree seen faults) mid new came then_how is one others)

  pub part-stopped : (new : Point) (came : How) → goes_on came ≡ false → Evaluates part (point_of shell session tree seen faults) came new
      → Evaluates (λ expansions. rest_means expansions place (drop place stages)) (point_of shell session tree seen faults) came new
  part-stopped new came off one =
      meant-where (λ expansions. rest_means expansions place (drop place stages)) (λ expansions state. after (part expansions state) (behind expansions)) (point_of shell session tree seen faults) new came part-so
      (stopped part behind (point_of shell session tree seen faults) new came off (λ expansions. rest-adds expansions (place + taken) (drop (place + taken) stages)) one)

-- what is gathered of the rest of a slice
pub gathered-rest : (stages : List Command) (place : ℕ) (shell : Shell) (streams : Streams) (tree : TreeState) (found : Option Segment) (segment : Segment) → found ≡ Some segment
    → IfSome found (GathersFront (take (length stages - place) (drop place stages)) shell streams tree) → GathersFront (drop place stages) shell streams tree segment
gathered-rest stages place shell streams tree found segment is gathers =
    subst (λ (it : List Command). GathersFront it shell streams tree segment) (ap (λ (it : ℕ). take it (drop place stages)) (sym (length-drop place stages)) ∙ take-length (drop place stages))
    (subst (λ (it : Option Segment). IfSome it (GathersFront (take (length stages - place) (drop place stages)) shell streams tree)) is gathers)

-- it is one that can run
pub runnable : (stages : List Command) (shell : Shell) (streams : Streams) (tree tree' : TreeState) (segment : Segment) → tree' ≡ tree → GathersFront stages shell streams tree segment → IsRunnable segment streams tree'
runnable stages shell streams tree tree' segment same gathers =
    subst (λ (it : TreeState). IsRunnable segment streams it) (sym same)
    (let several = gathers.several in
    record {
      some = omega (arith, several);
      most = gathers.front.most;
      ready = gathers.front.gathered.ready;
      teeless = gathers.front.gathered.teeless;
      there = gathers.front.gathered.there;
      looked = gathers.front.gathered.looked;
      told = gathers.front.gathered.told;
      plain = gathers.plain;
    })

-- as a stage, where it isn't the whole pipeline
pub part-staged : (before after : ℕ) (means : Means) → (before ≡ 0 → after ≡ 0 → ⊥) → (state : State) → part_means before after means state ≡ staged (position_at before after) means state
part-staged zero zero means several state = absurd (several refl refl)
part-staged zero (suc more) means several state = refl
part-staged (suc before) more means several state = refl

pub part-at : (before after : ℕ) (position : Position) (means : Meaning) (old new : Point) (came : How) → (before ≡ 0 → after ≡ 0 → ⊥) → position ≡ position_at before after
    → Evaluates (λ expansions. staged position (means expansions)) old came new → Evaluates (λ expansions. part_means before after (means expansions)) old came new
part-at before after position means old new came several is one =
    meant-at (λ expansions. part_means before after (means expansions)) (λ expansions. staged position (means expansions)) old new came
    (λ expansions base state has. part-staged before after (means expansions) several state ∙ ap (λ (it : Position). staged it (means expansions) state) (sym is)) one

pub members-add : (members : List Member) (expansions : Expansions) → Adds (members_mean members expansions)
members-add members expansions state =
    let lines : List ℕ = flat_map (lines_for state) (calls_of members) in
    let grown = grows-trans state (tells_some lines state) (takes [] (pipeline_does (calls_of members)) (tells_some lines state)).state
    (grows-tells_some state lines state (grows-self state)) (adds-takes [] (pipeline_does (calls_of members)) (tells_some lines state)) in
    record { output = grown.output; errors = grown.errors; written = grown.written; turns = grown.turns }
