-- Streams in machines, and what is due of a machine at its beginning.
use Rattle.std.proofs.Common.{◌≡◌, ℕ, zero, suc, ◌+◌, ◌-◌, ◌≤◌, ◌<◌, ◌==◌, ◌&&◌, nat_lt, List, [], ◌∷◌, ◌++◌, Bool, true, false, if◌then◌else◌, get_or, refl, ap, sym, ◌∙◌, append-nil, subst, arith}
use Rattle.std.specs.List.{list_all}
use Rattle.std.proofs.lemmas.Bool.{le-leb, true≢false, and_from, and_parts, eqb-true, eq-eqb, ltb-false, ltb-true, lt-ltb, false_from_ne_true}
use Rattle.std.proofs.Math.Dec.{eqb-suc-zero}
use Rattle.ps_lines.specs.Lines.{is_empty}
use Rattle.ut_args.specs.Built.{is_built_of}
use Rattle.ut_args.specs.Inputs.{counted, inputs_of, is_named, joined_inputs, separate_inputs}
use Rattle.ut_args.specs.Utilities.{has_at_most_one}
use Rattle.ut_args.specs.declared.commands.Groups.{Groups}
use Rattle.ut_args.specs.declared.commands.Groups.TheVariants as groups
use Rattle.ut_args.specs.declared.invocations.Inv.{Inv}
use Rattle.ut_args.specs.declared.invocations.Inv.TheVariants as inv
use Rattle.fl_graph.specs.Kinds.{may_have, reads_one_input, runs_what_is_built}
use Rattle.fl_graph.specs.Machines.{State}
use Rattle.fl_graph.specs.declared.kinds.NodeKind.{NodeKind}
use Rattle.fl_graph.specs.declared.kinds.NodeKind.TheVariants as kind
use Rattle.fl_graph.specs.declared.pieces.Act.{Act}
use Rattle.fl_graph.proofs.ListLemmas.{same_tests}
use Rattle.fl_classes.specs.Flow.{selects}
use Rattle.fl_classes.specs.Nodes.{Begins, given_on, texts_at}
use Rattle.fl_classes.specs.Aggregates.{finish_of, map_of}
use Rattle.fl_classes.specs.Utilities.{labelled, names_of, output_of, selects_of, utility_by}
use Rattle.fl_classes.proofs.ClassLemmas.{by_built}
use Rattle.ut_args.specs.Invocations.{command_of}
use Rattle.ut_sort.specs.Order.{sorted_text}
use Rattle.ut_bytes.specs.Tr.{tr_output}
use Rattle.ut_groups.specs.Uniq.{uniq_finish}
use Rattle.ut_slices.specs.Cut.{cut_output}
use Rattle.ut_slices.specs.Tail.{tail_output}
use Rattle.fl_machines.specs.Kinds.{copies, copies_input, finishes_as_is, is_utility_node, keeps_all, maps_as_whole, reads_apart, runs_utility, stream_output, stream_selects, takes_apart, RunsApart}
use Rattle.fl_machines.specs.InSeries.{due_in_series, ports_from, selects_in_series, texts_from}
use Rattle.fl_machines.specs.Through.{due_through, only_port}

-- an invocation that is built reads one input at most
joined-few : (operands : List (List ℕ)) → joined_inputs operands ≤ 1
joined-few [] = omega arith
joined-few (operand ∷ operands) = by_all (list_all is_empty (operand ∷ operands))
  where
    by_all : (all : Bool) → (if all then 0 else 1) ≤ 1
    by_all true = omega arith
    by_all false = omega arith

separate-few : (operands : List (List ℕ)) → has_at_most_one operands ≡ true → separate_inputs operands ≤ 1
separate-few [] few = omega arith
separate-few (operand ∷ []) few = by_name (is_named operand)
  where
    by_name : (named : Bool) → counted (0 + (if named then 1 else 0)) ≤ 1
    by_name true = omega arith
    by_name false = omega arith
separate-few (operand ∷ another ∷ others) few = absurd (true≢false (sym few))

built-few : (command : Inv) → is_built_of command ≡ true → reads_apart command ≡ false → inputs_of command ≤ 1
built-few (inv.Cat cat) built single = joined-few cat.args.operands
built-few (inv.Grep grep) built single = absurd (true≢false single)
built-few (inv.Tr tr) built single = omega arith
built-few (inv.Cut cut) built single = joined-few cut.args.operands
built-few (inv.Head head) built single = absurd (true≢false single)
built-few (inv.Tail tail) built single = separate-few tail.args.operands built
built-few (inv.Wc wc) built single = absurd (true≢false single)
built-few (inv.Uniq uniq) built single = separate-few uniq.args.operands built
built-few (inv.Sort sort) built single = joined-few sort.args.operands
built-few (inv.Paste paste) built single = absurd (true≢false single)
built-few (inv.Tee tee) built single = omega arith
built-few other built single = absurd (true≢false (sym built))

-- the output for one input is the map but of uniq, whose map keeps counts, and of those that read their inputs in order
abbrev pub whole_is_map : Inv → Bool
whole_is_map (inv.Grep grep) = false
whole_is_map (inv.Head head) = false
whole_is_map (inv.Wc wc) = false
whole_is_map (inv.Uniq uniq) = false
whole_is_map (inv.Paste paste) = false
whole_is_map other = true

pub whole-is-map : (command : Inv) (text : List ℕ) → whole_is_map command ≡ true → map_of command text ≡ output_of command (text ∷ [])
whole-is-map command text one = by_built command (λ utility. utility.part text ≡ utility.output (labelled (names_of command) (text ∷ []))) (λ built. by_command command one) refl
  where
    by_command : (command : Inv) → whole_is_map command ≡ true
        → (utility_by (command_of command)).part text ≡ (utility_by (command_of command)).output (labelled (names_of command) (text ∷ []))
    by_command (inv.Cat cat) one = sym (append-nil text)
    by_command (inv.Grep grep) one = absurd (true≢false (sym one))
    by_command (inv.Tr tr) one = sym (append-nil (tr_output tr.args text))
    by_command (inv.Cut cut) one = sym (append-nil (cut_output cut.args text))
    by_command (inv.Head head) one = absurd (true≢false (sym one))
    by_command (inv.Tail tail) one = sym (append-nil (tail_output tail.args text))
    by_command (inv.Wc wc) one = absurd (true≢false (sym one))
    by_command (inv.Uniq uniq) one = absurd (true≢false (sym one))
    by_command (inv.Sort sort) one = sym (append-nil (sorted_text sort.args text))
    by_command (inv.Paste paste) one = absurd (true≢false (sym one))
    by_command (inv.Tee tee) one = sym (append-nil text)
    by_command other one = refl

pub ruleset wholes = (whole-is-map)

-- what copies its input
map-copies : (command : Inv) (text : List ℕ) → copies_input command ≡ true → map_of command text ≡ text
map-copies (inv.Cat cat) text is = refl
map-copies (inv.Tee tee) text is = refl
map-copies other text is = absurd (true≢false (sym is))

whole-copies : (command : Inv) (text : List ℕ) → copies_input command ≡ true → output_of command (text ∷ []) ≡ text
whole-copies (inv.Cat cat) text is = append-nil text
whole-copies (inv.Tee tee) text is = append-nil text
whole-copies other text is = absurd (true≢false (sym is))

copies-silent : (command : Inv) (text : List ℕ) → copies_input command ≡ true → selects_of command (text ∷ []) ≡ false
copies-silent (inv.Cat cat) text is = refl
copies-silent (inv.Tee tee) text is = refl
copies-silent other text is = absurd (true≢false (sym is))

-- no finish changes what it is given but that of wc, which adds a name, and that of uniq where it leaves groups out
finish-copies : (command : Inv) (text : List ℕ) → finishes_as_is command ≡ true → finish_of command text ≡ text
finish-copies command text same = by_built command (λ utility. utility.finish text ≡ text) (λ built. by_command command same) refl
  where
    by_groups : (groups : Groups) → keeps_all groups ≡ true → uniq_finish groups text ≡ text
    by_groups groups.All same = refl
    by_groups groups.Counted same = refl
    by_groups groups.Repeated same = absurd (true≢false (sym same))
    by_groups groups.Single same = absurd (true≢false (sym same))

    by_command : (command : Inv) → finishes_as_is command ≡ true → (utility_by (command_of command)).finish text ≡ text
    by_command (inv.Cat cat) same = refl
    by_command (inv.Grep grep) same = refl
    by_command (inv.Tr tr) same = refl
    by_command (inv.Cut cut) same = refl
    by_command (inv.Head head) same = refl
    by_command (inv.Tail tail) same = refl
    by_command (inv.Wc wc) same = absurd (true≢false (sym same))
    by_command (inv.Uniq uniq) same = by_groups uniq.args.groups same
    by_command (inv.Sort sort) same = refl
    by_command (inv.Paste paste) same = refl
    by_command other same = refl

stream-copies : (kind : NodeKind) (text : List ℕ) → copies kind ≡ true → stream_output kind text ≡ text
stream-copies (kind.Map inv) text is = map-copies inv text is
stream-copies (kind.Whole inv) text is = whole-copies inv text is
stream-copies (kind.Finish inv) text is = finish-copies inv text is
stream-copies other text is = refl

stream-silent : (kind : NodeKind) (text : List ℕ) → copies kind ≡ true → stream_selects kind text ≡ false
stream-silent (kind.Map inv) text is = copies-silent inv text is
stream-silent (kind.Whole inv) text is = copies-silent inv text is
stream-silent other text is = refl

-- without an input nothing is written and selected, but by those that read their inputs in order
nothing-from : (command : Inv) → reads_apart command ≡ false → (output_of command [] ≡ []) × (selects_of command [] ≡ false)
nothing-from command single = (
  by_built command (λ utility. utility.output [] ≡ []) (λ built. writes command single) refl,
  by_built command (λ utility. utility.selects [] ≡ false) (λ built. picks command) refl,
)
  where
    writes : (command : Inv) → reads_apart command ≡ false → (utility_by (command_of command)).output [] ≡ []
    writes (inv.Cat cat) single = refl
    writes (inv.Grep grep) single = absurd (true≢false single)
    writes (inv.Tr tr) single = refl
    writes (inv.Cut cut) single = refl
    writes (inv.Head head) single = absurd (true≢false single)
    writes (inv.Tail tail) single = refl
    writes (inv.Wc wc) single = absurd (true≢false single)
    writes (inv.Uniq uniq) single = refl
    writes (inv.Sort sort) single = refl
    writes (inv.Paste paste) single = absurd (true≢false single)
    writes other single = refl

    picks : (command : Inv) → (utility_by (command_of command)).selects [] ≡ false
    picks (inv.Cat cat) = refl
    picks (inv.Grep grep) = refl
    picks (inv.Tr tr) = refl
    picks (inv.Cut cut) = refl
    picks (inv.Head head) = refl
    picks (inv.Tail tail) = refl
    picks (inv.Wc wc) = refl
    picks (inv.Uniq uniq) = refl
    picks (inv.Sort sort) = refl
    picks (inv.Paste paste) = refl
    picks other = refl

-- how many ins and outs a node has that runs a utility
both : (ins outs : ℕ) (rest : Bool) → (((ins == 1) && (outs == 1)) && rest) ≡ true → (ins ≡ 1) × (outs ≡ 1)
both ins outs rest is =
    let ports = and_parts (ins == 1) (outs == 1) (and_parts ((ins == 1) && (outs == 1)) rest is).0 in
    (eqb-true ins 1 ports.0, eqb-true outs 1 ports.1)

one-port : (ins outs : ℕ) → (ins ≡ 1) × (outs ≡ 1) → (ins ≤ 1) × (outs ≡ 1)
one-port ins outs are = let one = are.0 in (omega (arith, one), are.1)

pub whole-ports : (inv : Inv) (ins outs : ℕ) → is_utility_node (kind.Whole inv) ins outs ≡ true → (ins ≡ inputs_of inv) × ((outs ≡ 1) × (is_built_of inv ≡ true))
whole-ports inv ins outs is =
    let parts = and_parts ((ins == inputs_of inv) && (outs == 1)) (is_built_of inv) is in
    let own = and_parts (ins == inputs_of inv) (outs == 1) parts.0 in
    (eqb-true ins (inputs_of inv) own.0, (eqb-true outs 1 own.1, parts.1))

ports : (kind : NodeKind) (ins outs : ℕ) → is_utility_node kind ins outs ≡ true → takes_apart kind ≡ false → (ins ≤ 1) × (outs ≡ 1)
ports (kind.Map inv) ins outs is single = one-port ins outs (both ins outs (reads_one_input (kind.Map inv) && is_built_of inv) is)
ports (kind.Finish inv) ins outs is single = one-port ins outs (both ins outs (is_built_of inv) is)
ports (kind.Whole inv) ins outs is single =
    let own = whole-ports inv ins outs is in
    let count = own.0 in
    let few = built-few inv own.1.1 single in
    (omega (arith, count, few), own.1.0)
ports other ins outs is single = absurd (true≢false (sym is))

-- what it gives and selects, where it has one in and where it has none
only-given : (text : List ℕ) (port : ℕ) → get_or (text ∷ []) port [] ≡ (if port == 0 then text else [])
only-given text zero = refl
only-given text (suc port) = ap (λ (here : Bool). if here then text else []) (sym (eqb-suc-zero port))

given-some : (kind : NodeKind) (outs : ℕ) (texts : ℕ → List ℕ) (port : ℕ) → runs_utility kind ≡ true
    → given_on kind 1 outs texts port ≡ (if port == 0 then stream_output kind (texts 0) else [])
given-some (kind.Map inv) outs texts port runs = only-given (map_of inv (texts 0)) port
given-some (kind.Whole inv) outs texts port runs = only-given (output_of inv (texts 0 ∷ [])) port
given-some (kind.Finish inv) outs texts port runs = only-given (finish_of inv (texts 0)) port
given-some other outs texts port runs = absurd (true≢false (sym runs))

-- nothing, on either port
pub either-none : (here : Bool) (text : List ℕ) → text ≡ [] → (if here then text else []) ≡ []
either-none true text none = none
either-none false text none = refl

-- only a whole may have no in
given-none : (kind : NodeKind) (outs : ℕ) (texts : ℕ → List ℕ) (port : ℕ) → is_utility_node kind 0 outs ≡ true → takes_apart kind ≡ false
    → given_on kind 0 outs texts port ≡ []
given-none (kind.Map inv) outs texts port is single = absurd (let one = (both 0 outs (reads_one_input (kind.Map inv) && is_built_of inv) is).0 in omega arith)
given-none (kind.Whole inv) outs texts port is single =
    only-given (output_of inv []) port ∙ ap (λ (text : List ℕ). if port == 0 then text else []) (nothing-from inv single).0 ∙ either-none (port == 0) [] refl
given-none (kind.Finish inv) outs texts port is single = absurd (let one = (both 0 outs (is_built_of inv) is).0 in omega arith)
given-none other outs texts port is single = absurd (true≢false (sym is))

selects-some : (kind : NodeKind) (texts : ℕ → List ℕ) → stream_selects kind (texts 0) ≡ selects kind (texts_at 1 texts)
selects-some (kind.Map inv) texts = refl
selects-some (kind.Whole inv) texts = refl
selects-some other texts = refl

selects-none : (kind : NodeKind) (outs : ℕ) (texts : ℕ → List ℕ) → is_utility_node kind 0 outs ≡ true → takes_apart kind ≡ false
    → selects kind (texts_at 0 texts) ≡ false
selects-none (kind.Map inv) outs texts is single = absurd (let one = (both 0 outs (reads_one_input (kind.Map inv) && is_built_of inv) is).0 in omega arith)
selects-none (kind.Whole inv) outs texts is single = (nothing-from inv single).1
selects-none other outs texts is single = refl

-- the one port
first-port : (port : ℕ) → (port == 0) ≡ nat_lt port 1
first-port port =
    same_tests (port == 0) (nat_lt port 1) (λ here. let is = eqb-true port 0 here in lt-ltb port 1 (omega (arith, is)))
    (λ here. let below = ltb-true port 1 here in eq-eqb port 0 (omega (arith, below)))

no-port : (port : ℕ) → false ≡ nat_lt port 0
no-port port = sym (false_from_ne_true (nat_lt port 0) (λ here. let below = ltb-true port 0 here in absurd (omega (arith, below))))

-- a machine with the stream of a node stands at the node's beginning
module _ (kind : NodeKind) (ins outs : ℕ) (is : is_utility_node kind ins outs ≡ true) (single : takes_apart kind ≡ false) (act : Act) (taking putting broken : Bool)
    (due : (ℕ → List ℕ) → ℕ → List ℕ) (will : (ℕ → List ℕ) → Bool) (is_putting : putting ≡ true) (is_whole : broken ≡ false) where
  abbrev through : State
  through = record {
    act = act;
    takes = only_port taking;
    puts = only_port putting;
    numbered_ins = λ port. false;
    numbered_outs = λ port. false;
    broken = broken;
    due = due;
    selects = will;
  }

  runs : runs_utility kind ≡ true
  runs = (and_parts (runs_utility kind) (may_have kind ins outs && (reads_one_input kind && runs_what_is_built kind)) is).0

  puts-all : (port : ℕ) → only_port putting port ≡ nat_lt port outs
  puts-all port = ap (λ (is_open : Bool). only_port is_open port) is_putting ∙ first-port port ∙ ap (nat_lt port) (sym (ports kind ins outs is single).1)

  pub begins-some : (ins ≡ 0 → ⊥) → taking ≡ true → ((texts : ℕ → List ℕ) (port : ℕ) → due texts port ≡ (if port == 0 then stream_output kind (texts 0) else []))
      → ((texts : ℕ → List ℕ) → will texts ≡ stream_selects kind (texts 0)) → Begins kind ins outs through
  begins-some some is_taking owed willed =
      let one : ins ≡ 1 = at_most ins (ports kind ins outs is single).0 some in
      record {
        takes_all = λ port. ap (λ (is_open : Bool). only_port is_open port) is_taking ∙ first-port port ∙ ap (nat_lt port) (sym one);
        puts_all = puts-all;
        plain_ins = λ port. refl;
        plain_outs = λ port. refl;
        is_whole = is_whole;
        owes = λ texts port. owed texts port ∙ sym (given-some kind outs texts port runs) ∙ ap (λ (ins : ℕ). given_on kind ins outs texts port) (sym one);
        may_select = λ texts. willed texts ∙ selects-some kind texts ∙ ap (λ (ins : ℕ). selects kind (texts_at ins texts)) (sym one);
      }
    where
      at_most : (ins : ℕ) → ins ≤ 1 → (ins ≡ 0 → ⊥) → ins ≡ 1
      at_most zero few some = absurd (some refl)
      at_most (suc zero) few some = refl
      at_most (suc (suc ins)) few some = absurd (omega arith)

  pub begins-none : ins ≡ 0 → taking ≡ false → ((texts : ℕ → List ℕ) (port : ℕ) → due texts port ≡ [])
      → ((texts : ℕ → List ℕ) → will texts ≡ false) → Begins kind ins outs through
  begins-none none is_taking owed willed =
      let here : is_utility_node kind 0 outs ≡ true = ap (λ (ins : ℕ). is_utility_node kind ins outs) (sym none) ∙ is in
      record {
        takes_all = λ port. ap (λ (is_open : Bool). only_port is_open port) is_taking ∙ no-port port ∙ ap (nat_lt port) (sym none);
        puts_all = puts-all;
        plain_ins = λ port. refl;
        plain_outs = λ port. refl;
        is_whole = is_whole;
        owes = λ texts port. owed texts port ∙ sym (given-none kind outs texts port here single) ∙ ap (λ (ins : ℕ). given_on kind ins outs texts port) (sym none);
        may_select = λ texts. willed texts ∙ sym (selects-none kind outs texts here single) ∙ ap (λ (ins : ℕ). selects kind (texts_at ins texts)) (sym none);
      }

-- a machine that copies stands at the beginning of a node that does, or that has no in
module _ (kind : NodeKind) (ins outs : ℕ) (is : is_utility_node kind ins outs ≡ true) (single : takes_apart kind ≡ false) (act : Act) (taking putting broken : Bool)
    (held : List ℕ) (is_taking : taking ≡ nat_lt 0 ins) (is_putting : putting ≡ true) (is_whole : broken ≡ false) (none : held ≡ [])
    (copied : 0 < ins → copies kind ≡ true) where
  abbrev owed : (ℕ → List ℕ) → ℕ → List ℕ
  owed = due_through held taking (λ text. text)

  owed-by : (some : Bool) → taking ≡ some → (texts : ℕ → List ℕ) (port : ℕ) → owed texts port ≡ (if port == 0 then (if some then texts 0 else []) else [])
  owed-by some is texts port = λ i. if port == 0 then none i ++ (if is i then texts 0 else []) else []

  pub begins-copying : Begins kind ins outs (record {
    act = act;
    takes = only_port taking;
    puts = only_port putting;
    numbered_ins = λ port. false;
    numbered_outs = λ port. false;
    broken = broken;
    due = due_through held taking (λ text. text);
    selects = λ texts. false;
  })
  begins-copying = by_ins (nat_lt 0 ins) refl
    where
      by_ins : (some : Bool) → nat_lt 0 ins ≡ some → Begins kind ins outs (through kind ins outs is single act taking putting broken owed (λ texts. false) is_putting is_whole)
      by_ins true some =
          let within = ltb-true 0 ins some in
          begins-some kind ins outs is single act taking putting broken owed (λ texts. false) is_putting is_whole (λ nothing. absurd (omega (arith, within, nothing))) (is_taking ∙ some)
          (λ texts port. owed-by true (is_taking ∙ some) texts port ∙ ap (λ (text : List ℕ). if port == 0 then text else []) (sym (stream-copies kind (texts 0) (copied within))))
          (λ texts. sym (stream-silent kind (texts 0) (copied within)))
      by_ins false some =
          let past = ltb-false 0 ins some in
          begins-none kind ins outs is single act taking putting broken owed (λ texts. false) is_putting is_whole (omega (arith, past)) (is_taking ∙ some)
          (λ texts port. owed-by false (is_taking ∙ some) texts port ∙ either-none (port == 0) [] refl) (λ texts. refl)

-- a machine with a series stands at the beginning of a whole that takes its ins in order
module _ (inv : Inv) (ins outs : ℕ) (is : is_utility_node (kind.Whole inv) ins outs ≡ true) (act : Act) (at own : ℕ) (putting broken : Bool)
    (due : (ℕ → List ℕ) → ℕ → List ℕ) (will : (ℕ → List ℕ) → Bool) (is_first : at ≡ 0) (is_own : own ≡ ins) (is_putting : putting ≡ true) (is_whole : broken ≡ false) where
  abbrev in_series : State
  in_series = record {
    act = act;
    takes = ports_from at own;
    puts = only_port putting;
    numbered_ins = λ port. false;
    numbered_outs = λ port. false;
    broken = broken;
    due = due;
    selects = will;
  }

  pub begins-in_series : ((texts : ℕ → List ℕ) (port : ℕ) → due texts port ≡ (if port == 0 then output_of inv (texts_at ins texts) else []))
      → ((texts : ℕ → List ℕ) → will texts ≡ selects_of inv (texts_at ins texts)) → Begins (kind.Whole inv) ins outs in_series
  begins-in_series owed willed = record {
    takes_all = λ port. (λ i. ports_from (is_first i) (is_own i) port) ∙ ap (λ behind. behind && nat_lt port ins) (le-leb 0 port (omega arith));
    puts_all = λ port. ap (λ (is_open : Bool). only_port is_open port) is_putting ∙ first-port port ∙ ap (nat_lt port) (sym (whole-ports inv ins outs is).1.0);
    plain_ins = λ port. refl;
    plain_outs = λ port. refl;
    is_whole = is_whole;
    owes = λ texts port. owed texts port ∙ sym (only-given (output_of inv (texts_at ins texts)) port);
    may_select = willed;
  }

-- what is due of a series in it, and selected, where it has an in
no-more : (ins : ℕ) → ins - 0 ≡ ins
no-more ins = omega arith

module _ (inv : Inv) (owes : List (List ℕ) → List ℕ) (picks : List (List ℕ) → Bool) (at own ins : ℕ) (is_first : at ≡ 0) (is_own : own ≡ ins) (some : 0 < ins)
    (texts : ℕ → List ℕ) where
  pub owed-some : (waiting : List ℕ) (port : ℕ) → waiting ≡ [] → ((texts : List (List ℕ)) → owes texts ≡ output_of inv texts)
      → due_in_series waiting at own owes texts port ≡ (if port == 0 then output_of inv (texts_at ins texts) else [])
  owed-some waiting port none owed =
      (λ i. due_in_series (none i) (is_first i) (is_own i) owes texts port)
      ∙ ap (λ is_open. if port == 0 then (if is_open then owes (texts_from texts 0 ins) else []) else []) (lt-ltb 0 ins some)
      ∙ ap (λ text. if port == 0 then text else []) (owed (texts_from texts 0 ins) ∙ ap (λ count. output_of inv (texts_at count texts)) (no-more ins))

  pub picked-some : (picked : Bool) → ((texts : List (List ℕ)) → picks texts ≡ selects_of inv texts)
      → selects_in_series at own picks picked texts ≡ selects_of inv (texts_at ins texts)
  picked-some picked willed =
      (λ i. selects_in_series (is_first i) (is_own i) picks picked texts)
      ∙ ap (λ is_open. if is_open then picks (texts_from texts 0 ins) else picked) (lt-ltb 0 ins some)
      ∙ willed (texts_from texts 0 ins) ∙ ap (λ count. selects_of inv (texts_at count texts)) (no-more ins)

-- and where it has none
module _ (inv : Inv) (owes : List (List ℕ) → List ℕ) (picks : List (List ℕ) → Bool) (at own ins : ℕ) (is_first : at ≡ 0) (is_own : own ≡ 0) (none : ins ≡ 0)
    (texts : ℕ → List ℕ) where
  pub owed-none : (waiting : List ℕ) (port : ℕ) → waiting ≡ output_of inv []
      → due_in_series waiting at own owes texts port ≡ (if port == 0 then output_of inv (texts_at ins texts) else [])
  owed-none waiting port owed =
      (λ i. due_in_series waiting (is_first i) (is_own i) owes texts port) ∙ ap (λ text. if port == 0 then text else []) (append-nil waiting ∙ owed)
      ∙ ap (λ count. if port == 0 then output_of inv (texts_at count texts) else []) (sym none)

  pub picked-none : (picked : Bool) → picked ≡ selects_of inv [] → selects_in_series at own picks picked texts ≡ selects_of inv (texts_at ins texts)
  picked-none picked willed =
      (λ i. selects_in_series (is_first i) (is_own i) picks picked texts) ∙ willed ∙ ap (λ count. selects_of inv (texts_at count texts)) (sym none)

-- a machine with a stream of several inputs at once stands at the beginning of a whole
module _ (inv : Inv) (ins outs : ℕ) (is : is_utility_node (kind.Whole inv) ins outs ≡ true) (act : Act) (opens : List Bool) (putting broken : Bool)
    (due : (ℕ → List ℕ) → ℕ → List ℕ) (are_open : (port : ℕ) → get_or opens port false ≡ nat_lt port ins) (is_putting : putting ≡ true) (is_whole : broken ≡ false) where
  abbrev at_ports : State
  at_ports = record {
    act = act;
    takes = λ port. get_or opens port false;
    puts = only_port putting;
    numbered_ins = λ port. false;
    numbered_outs = λ port. false;
    broken = broken;
    due = due;
    selects = λ texts. false;
  }

  pub begins-at_ports : ((texts : ℕ → List ℕ) (port : ℕ) → due texts port ≡ (if port == 0 then output_of inv (texts_at ins texts) else []))
      → ((texts : List (List ℕ)) → selects_of inv texts ≡ false) → Begins (kind.Whole inv) ins outs at_ports
  begins-at_ports owed silent = record {
    takes_all = are_open;
    puts_all = λ port. ap (λ (is_open : Bool). only_port is_open port) is_putting ∙ first-port port ∙ ap (nat_lt port) (sym (whole-ports inv ins outs is).1.0);
    plain_ins = λ port. refl;
    plain_outs = λ port. refl;
    is_whole = is_whole;
    owes = λ texts port. owed texts port ∙ sym (only-given (output_of inv (texts_at ins texts)) port);
    may_select = λ texts. sym (silent (texts_at ins texts));
  }

-- MAPS THAT ARE RUN AS WHOLES
map-is-whole : (run : Inv) → maps_as_whole run ≡ true → (text : List ℕ) → map_of run text ≡ output_of run (text ∷ [])
map-is-whole (inv.Paste paste) maps text = refl
map-is-whole other maps text = absurd (true≢false (sym maps))

maps-apart : (run : Inv) → maps_as_whole run ≡ true → reads_apart run ≡ true
maps-apart (inv.Paste paste) maps = refl
maps-apart other maps = absurd (true≢false (sym maps))

-- a map has one in
map-ports : (inv : Inv) (ins outs : ℕ) → is_utility_node (kind.Map inv) ins outs ≡ true → (ins ≡ 1) × ((outs ≡ 1) × ((inputs_of inv ≡ 1) × (is_built_of inv ≡ true)))
map-ports inv ins outs is =
    let own = both ins outs ((inputs_of inv == 1) && is_built_of inv) is in
    let rest = and_parts (inputs_of inv == 1) (is_built_of inv) (and_parts ((ins == 1) && (outs == 1)) ((inputs_of inv == 1) && is_built_of inv) is).1 in
    (own.0, (own.1, (eqb-true (inputs_of inv) 1 rest.0, rest.1)))

map-node : (inv : Inv) (ins outs : ℕ) → is_utility_node (kind.Map inv) ins outs ≡ true → is_utility_node (kind.Whole inv) ins outs ≡ true
map-node inv ins outs is =
    let own = map-ports inv ins outs is in
    and_from ((ins == inputs_of inv) && (outs == 1)) (is_built_of inv)
    (and_from (ins == inputs_of inv) (outs == 1) (eq-eqb ins (inputs_of inv) (own.0 ∙ sym own.1.1.0)) (eq-eqb outs 1 own.1.0)) own.1.1.1

pub apart-node : (node : NodeKind) (run : Inv) (ins outs : ℕ) → is_utility_node node ins outs ≡ true → RunsApart node run → is_utility_node (kind.Whole run) ins outs ≡ true
apart-node (kind.Whole inv) run ins outs is fits = ap (λ inv. is_utility_node (kind.Whole inv) ins outs) (sym fits.0) ∙ is
apart-node (kind.Map inv) run ins outs is fits = ap (λ inv. is_utility_node (kind.Whole inv) ins outs) (sym fits.0) ∙ map-node inv ins outs is
apart-node other run ins outs is fits = absurd fits

pub apart-reads : (node : NodeKind) (run : Inv) → RunsApart node run → reads_apart run ≡ true
apart-reads (kind.Whole inv) run fits = fits.1
apart-reads (kind.Map inv) run fits = maps-apart run fits.1
apart-reads other run fits = absurd fits

begins-map : (run : Inv) (ins outs : ℕ) (state : State) → ins ≡ 1 → maps_as_whole run ≡ true → Begins (kind.Whole run) ins outs state → Begins (kind.Map run) ins outs state
begins-map run ins outs state one maps begins = record {
  takes_all = begins.takes_all;
  puts_all = begins.puts_all;
  plain_ins = begins.plain_ins;
  plain_outs = begins.plain_outs;
  is_whole = begins.is_whole;
  owes = λ texts port.
      begins.owes texts port ∙ ap (λ (ins : ℕ). given_on (kind.Whole run) ins outs texts port) one ∙ ap (λ text. get_or (text ∷ []) port []) (sym (map-is-whole run maps (texts 0)))
      ∙ ap (λ (ins : ℕ). given_on (kind.Map run) ins outs texts port) (sym one);
  may_select = λ texts.
      begins.may_select texts ∙ ap (λ (ins : ℕ). selects (kind.Whole run) (texts_at ins texts)) one ∙ ap (λ (ins : ℕ). selects (kind.Map run) (texts_at ins texts)) (sym one);
}

pub begins-apart : (node : NodeKind) (run : Inv) (ins outs : ℕ) (state : State) → is_utility_node node ins outs ≡ true → RunsApart node run
    → Begins (kind.Whole run) ins outs state → Begins node ins outs state
begins-apart (kind.Whole inv) run ins outs state is fits begins = subst (λ inv. Begins (kind.Whole inv) ins outs state) (sym fits.0) begins
begins-apart (kind.Map inv) run ins outs state is fits begins =
    subst (λ inv. Begins (kind.Map inv) ins outs state) (sym fits.0) (begins-map run ins outs state (map-ports inv ins outs is).0 fits.1 begins)
begins-apart other run ins outs state is fits begins = absurd fits

pub ruleset aparts = (apart-node, apart-reads, begins-apart)
