-- The kind of node that parts are, and the parts of a kind.
use Rattle.std.proofs.lemmas.Bool.{eqb-true}
use Rattle.std.proofs.Common.{◌≡◌, ℕ, ◌==◌, List, [], ◌∷◌, length, Vec, Global, IfOk, arith, Bool, true, false, Option, Some, None, is_some, option_map, option_and_then, Result, Ok, Err, refl, ap, sym, subst, ◌∙◌, cond}
use Rattle.ps_world.specs.Paths.{Components}
use Rattle.ps_world.specs.declared.tree.Mode.{Mode}
use Rattle.ps_world.specs.declared.tree.Mode.TheVariants as mode
use Rattle.ut_args.specs.Invocations.{command_of, words_of}
use Rattle.ut_args.specs.Reading.{invocation}
use Rattle.ut_args.specs.declared.invocations.Inv.{Inv}
use Rattle.ut_args.specs.declared.commands.Command.{Command}
use Rattle.ut_args.specs.declared.commands.Command.TheVariants as command
use Rattle.ut_args.specs.declared.faults.ArgFault.{ArgFault}
use Rattle.ut_args.specs.declared.faults.ArgFault.TheVariants as fault
use Rattle.ps_lines.specs.Texts.{texts_of}
use Rattle.ps_lines.specs.declared.memory.Memory.{Memory}
use Rattle.ut_args.proofs.CommandLemmas.{determined, reads}
use Rattle.fl_graph.specs.declared.kinds.NodeKind.{NodeKind}
use Rattle.fl_graph.specs.declared.kinds.NodeKind.TheVariants as kind
use Rattle.fl_graph.specs.declared.kinds.From.TheVariants as from
use Rattle.fl_graph.specs.declared.kinds.To.TheVariants as to
use Rattle.fl_text.specs.Parts.{appends, parts_of, running}
use Rattle.fl_text.specs.declared.names.Name.{Name}
use Rattle.fl_text.specs.declared.names.Name.TheVariants as name
use Rattle.fl_text.specs.declared.parts.Parts.{Parts}
use Rattle.fl_text.specs.Inner.Kinds.{fit, inv_from, inv_of, inv_with, kind_from, kind_of, mode_of, parts_fit}
use Rattle.fl_text.proofs.InverseLemmas.{mapped-forth, same_some}

-- ---- invocations

inv_with-words : (words : List (List ℕ)) (asked : Command) (read : invocation words ≡ Ok asked) → words_of (inv_with words asked read) ≡ words
inv_with-words words (command.Cat args) read = refl
inv_with-words words (command.Grep args) read = refl
inv_with-words words (command.Tr args) read = refl
inv_with-words words (command.Cut args) read = refl
inv_with-words words (command.Head args) read = refl
inv_with-words words (command.Tail args) read = refl
inv_with-words words (command.Wc args) read = refl
inv_with-words words (command.Uniq args) read = refl
inv_with-words words (command.Sort args) read = refl
inv_with-words words (command.Paste args) read = refl
inv_with-words words (command.Tee args) read = refl
inv_with-words words command.True read = refl
inv_with-words words command.False read = refl
inv_with-words words command.Colon read = refl
inv_with-words words (command.Break args) read = refl
inv_with-words words (command.Continue args) read = refl
inv_with-words words (command.Exit args) read = refl
inv_with-words words (command.Set args) read = refl
inv_with-words words (command.Shift args) read = refl
inv_with-words words (command.Unset args) read = refl
inv_with-words words (command.Read args) read = refl
inv_with-words words (command.Test args) read = refl
inv_with-words words (command.Bracket args) read = refl
inv_with-words words (command.Echo args) read = refl

from-forth : (words : List (List ℕ)) (asked : Result Command ArgFault) (read : invocation words ≡ asked) (inv : Inv) → inv_from words asked read ≡ Some inv → words_of inv ≡ words
from-forth words (Ok asked) read inv is = ap words_of (sym (same_some (inv_with words asked read) inv is)) ∙ inv_with-words words asked read
from-forth words (Err fault) read inv is = absurd (cc)

inv_of-forth : (words : List (List ℕ)) (inv : Inv) → inv_of words ≡ Some inv → words_of inv ≡ words
unfolding inv_of
inv_of-forth words inv is = from-forth words (invocation words) refl inv is

from-back : (words : List (List ℕ)) (asked : Result Command ArgFault) (read : invocation words ≡ asked) (inv : Inv) → words_of inv ≡ words → inv_from words asked read ≡ Some inv
from-back words (Ok asked) read inv same = ap Some (determined (inv_with words asked read) inv (inv_with-words words asked read ∙ sym same))
from-back words (Err fault) read inv same =
    let asks : invocation words ≡ Ok (command_of inv) = ap invocation (sym same) ∙ reads inv in absurd (cc)

-- the invocation that was read of words is theirs
pub inv_of-read : (words : List (List ℕ)) (inv : Inv) → words_of inv ≡ words → inv_of words ≡ Some inv
unfolding inv_of
inv_of-read words inv same = from-back words (invocation words) refl inv same

from-none : (words : List (List ℕ)) (asked : Result Command ArgFault) (read : invocation words ≡ asked) (fault : ArgFault) → asked ≡ Err fault → inv_from words asked read ≡ None
from-none words (Ok asked) read fault is = absurd (cc)
from-none words (Err other) read fault is = refl

-- words that ask for nothing have none
pub inv_of-none : (words : List (List ℕ)) (fault : ArgFault) → invocation words ≡ Err fault → inv_of words ≡ None
unfolding inv_of
inv_of-none words fault is = from-none words (invocation words) refl fault is

-- no words ask for nothing
pub inv_of-nothing : (words : List (Vec ℕ Global)) → (length words == 0) ≡ true → inv_of (texts_of words) ≡ None
inv_of-nothing [] is = inv_of-none [] (fault.UnknownCommand []) refl
inv_of-nothing (word ∷ words) is = let none : length (word ∷ words) ≡ 0 = eqb-true (length (word ∷ words)) 0 is in absurd (omega arith)

pub none-read : (words : List (List ℕ)) (told : ArgFault) (result : Result (Option Inv) Memory) → ((told ≡ fault.Memory → ⊥) → invocation words ≡ Err told)
    → IfOk result (λ inv. (inv ≡ None) × (told ≡ fault.Memory → ⊥)) → IfOk result (λ inv. inv ≡ inv_of words)
none-read words told (Ok inv) asks is = is.0 ∙ sym (inv_of-none words told (asks is.1))
none-read words told (Err refused) asks is = tt

pub ruleset inv_steps = (inv_of-read, inv_of-nothing, none-read)

-- ---- kinds from their parts

mode-back : (mode : Mode) → mode_of (appends mode) ≡ mode
mode-back mode.Fresh = refl
mode-back mode.Append = refl

mode-forth : (append : Bool) → appends (mode_of append) ≡ append
mode-forth true = refl
mode-forth false = refl

pub kind-back : (kind : NodeKind) → kind_of (parts_of kind) ≡ Some kind
kind-back (kind.Source from.Input) = refl
kind-back (kind.Source (from.File path)) = refl
kind-back (kind.Text text) = refl
kind-back kind.Split = refl
kind-back (kind.Map inv) = ap (option_map kind.Map) (inv_of-read (words_of inv) inv refl)
kind-back (kind.Whole inv) = ap (option_map kind.Whole) (inv_of-read (words_of inv) inv refl)
kind-back (kind.Cat close) = refl
kind-back (kind.Agg inv) = ap (option_map kind.Agg) (inv_of-read (words_of inv) inv refl)
kind-back (kind.Finish inv) = ap (option_map kind.Finish) (inv_of-read (words_of inv) inv refl)
kind-back (kind.TeeFile path mode) = ap (λ it. Some (kind.TeeFile path it)) (mode-back mode)
kind-back kind.Drain = refl
kind-back (kind.Sink to.Output) = refl
kind-back (kind.Sink (to.File path mode)) = ap (λ it. Some (kind.Sink (to.File path it))) (mode-back mode)

-- a kind that runs an invocation
run-forth : (name : Name) (make : Inv → NodeKind) → ((inv : Inv) → parts_of (make inv) ≡ running name inv) → (words : Option (List (List ℕ))) (kind : NodeKind)
    → option_map make (option_and_then inv_of words) ≡ Some kind
    → parts_of kind ≡ record { name = name; append = None; close = None; path = None; text = None; words = words }
run-forth name make parts_are None kind is = absurd (cc)
run-forth name make parts_are (Some words) kind is =
    let made = mapped-forth make (inv_of words) kind is in
    subst (λ it. parts_of it ≡ record { name = name; append = None; close = None; path = None; text = None; words = Some words }) made.whole_is
    (parts_are made.part ∙ ap (λ it. record { name = name; append = None; close = None; path = None; text = None; words = Some it }) (inv_of-forth words made.part made.found_is))

-- one that doesn't hang on anything that is looked up
some-forth : (made : NodeKind) (parts : Parts) (kind : NodeKind) → parts_of made ≡ parts → Some made ≡ Some kind → parts_of kind ≡ parts
some-forth made parts kind parts_are is = ap parts_of (sym (same_some made kind is)) ∙ parts_are

fits-forth : (name : Name) (append close : Option Bool) (path : Option Components) (text : Option (List ℕ)) (words : Option (List (List ℕ))) (what : NodeKind)
    → fit name (is_some append) (is_some close) (is_some path) (is_some text) (is_some words) ≡ true
    → kind_from name (record { name = name; append = append; close = close; path = path; text = text; words = words }) ≡ Some what
    → parts_of what ≡ record { name = name; append = append; close = close; path = path; text = text; words = words }
fits-forth name.Source (Some append) close path text words what fitting is = absurd (cc)
fits-forth name.Source None (Some close) path text words what fitting is = absurd (cc)
fits-forth name.Source None None path (Some text) words what fitting is = absurd (cc)
fits-forth name.Source None None path None (Some words) what fitting is = absurd (cc)
fits-forth name.Source None None None None None what fitting is = some-forth _ _ what refl is
fits-forth name.Source None None (Some path) None None what fitting is = some-forth _ _ what refl is
fits-forth name.Text (Some append) close path text words what fitting is = absurd (cc)
fits-forth name.Text None (Some close) path text words what fitting is = absurd (cc)
fits-forth name.Text None None (Some path) text words what fitting is = absurd (cc)
fits-forth name.Text None None None text (Some words) what fitting is = absurd (cc)
fits-forth name.Text None None None None None what fitting is = absurd (cc)
fits-forth name.Text None None None (Some text) None what fitting is = some-forth _ _ what refl is
fits-forth name.Split (Some append) close path text words what fitting is = absurd (cc)
fits-forth name.Split None (Some close) path text words what fitting is = absurd (cc)
fits-forth name.Split None None (Some path) text words what fitting is = absurd (cc)
fits-forth name.Split None None None (Some text) words what fitting is = absurd (cc)
fits-forth name.Split None None None None (Some words) what fitting is = absurd (cc)
fits-forth name.Split None None None None None what fitting is = some-forth _ _ what refl is
fits-forth name.Drain (Some append) close path text words what fitting is = absurd (cc)
fits-forth name.Drain None (Some close) path text words what fitting is = absurd (cc)
fits-forth name.Drain None None (Some path) text words what fitting is = absurd (cc)
fits-forth name.Drain None None None (Some text) words what fitting is = absurd (cc)
fits-forth name.Drain None None None None (Some words) what fitting is = absurd (cc)
fits-forth name.Drain None None None None None what fitting is = some-forth _ _ what refl is
fits-forth name.Map (Some append) close path text words what fitting is = absurd (cc)
fits-forth name.Map None (Some close) path text words what fitting is = absurd (cc)
fits-forth name.Map None None (Some path) text words what fitting is = absurd (cc)
fits-forth name.Map None None None (Some text) words what fitting is = absurd (cc)
fits-forth name.Map None None None None words what fitting is = run-forth name.Map kind.Map (λ inv. refl) words what is
fits-forth name.Whole (Some append) close path text words what fitting is = absurd (cc)
fits-forth name.Whole None (Some close) path text words what fitting is = absurd (cc)
fits-forth name.Whole None None (Some path) text words what fitting is = absurd (cc)
fits-forth name.Whole None None None (Some text) words what fitting is = absurd (cc)
fits-forth name.Whole None None None None words what fitting is = run-forth name.Whole kind.Whole (λ inv. refl) words what is
fits-forth name.Agg (Some append) close path text words what fitting is = absurd (cc)
fits-forth name.Agg None (Some close) path text words what fitting is = absurd (cc)
fits-forth name.Agg None None (Some path) text words what fitting is = absurd (cc)
fits-forth name.Agg None None None (Some text) words what fitting is = absurd (cc)
fits-forth name.Agg None None None None words what fitting is = run-forth name.Agg kind.Agg (λ inv. refl) words what is
fits-forth name.Finish (Some append) close path text words what fitting is = absurd (cc)
fits-forth name.Finish None (Some close) path text words what fitting is = absurd (cc)
fits-forth name.Finish None None (Some path) text words what fitting is = absurd (cc)
fits-forth name.Finish None None None (Some text) words what fitting is = absurd (cc)
fits-forth name.Finish None None None None words what fitting is = run-forth name.Finish kind.Finish (λ inv. refl) words what is
fits-forth name.Cat (Some append) close path text words what fitting is = absurd (cc)
fits-forth name.Cat None close (Some path) text words what fitting is = absurd (cc)
fits-forth name.Cat None close None (Some text) words what fitting is = absurd (cc)
fits-forth name.Cat None close None None (Some words) what fitting is = absurd (cc)
fits-forth name.Cat None None None None None what fitting is = absurd (cc)
fits-forth name.Cat None (Some close) None None None what fitting is = some-forth _ _ what refl is
fits-forth name.Tee append (Some close) path text words what fitting is = absurd (cc)
fits-forth name.Tee append None path (Some text) words what fitting is = absurd (cc)
fits-forth name.Tee append None path None (Some words) what fitting is = absurd (cc)
fits-forth name.Tee None None None None None what fitting is = absurd (cc)
fits-forth name.Tee (Some append) None None None None what fitting is = absurd (cc)
fits-forth name.Tee None None (Some path) None None what fitting is = absurd (cc)
fits-forth name.Tee (Some append) None (Some path) None None what fitting is = some-forth _ _ what (ap (λ it. record { name = name.Tee; append = Some it; close = None; path = Some path; text = None; words = None }) (mode-forth append)) is
fits-forth name.Sink append (Some close) path text words what fitting is = absurd (cc)
fits-forth name.Sink append None path (Some text) words what fitting is = absurd (cc)
fits-forth name.Sink append None path None (Some words) what fitting is = absurd (cc)
fits-forth name.Sink None None None None None what fitting is = some-forth _ _ what refl is
fits-forth name.Sink (Some append) None None None None what fitting is = absurd (cc)
fits-forth name.Sink None None (Some path) None None what fitting is = absurd (cc)
fits-forth name.Sink (Some append) None (Some path) None None what fitting is = some-forth _ _ what (ap (λ it. record { name = name.Sink; append = Some it; close = None; path = Some path; text = None; words = None }) (mode-forth append)) is

pub kind-forth : (parts : Parts) (kind : NodeKind) → kind_of parts ≡ Some kind → parts_of kind ≡ parts
kind-forth parts kind is = by (parts_fit parts) refl is
  where
    by : (answer : Bool) → parts_fit parts ≡ answer → cond answer (kind_from parts.name parts) None ≡ Some kind → parts_of kind ≡ parts
    by true fits is = fits-forth parts.name parts.append parts.close parts.path parts.text parts.words kind fits is
    by false fits is = absurd (cc)
