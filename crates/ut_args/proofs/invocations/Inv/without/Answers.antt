use Rattle.std.proofs.Common.{◌≡◌, ◌<◌, ◌∷◌, [], ℕ, List, Ok, Err, length, ap, sym, ◌∙◌, arith}
use Rattle.std.specs.Global.{Vec}
use Rattle.ps_lines.specs.Texts.{texts_of}
use Rattle.ut_options.proofs.ScanLemmas.{no-fault, same-ok}
use Rattle.ut_args.specs.Reading.{invocation}
use Rattle.ut_args.specs.declared.commands.Command.{Command}
use Rattle.ut_args.specs.declared.faults.ArgFault.{ArgFault}
use Rattle.ut_args.specs.declared.faults.ArgFault.TheVariants as fault
use Rattle.ut_args.proofs.invocations.Inv.without.Goals as goal

module _ (words : List (Vec ℕ)) (texts : List (List ℕ)) (asked : Command) (are : texts_of words ≡ texts) (read : invocation texts ≡ Ok asked) where
  asks : invocation (texts_of words) ≡ Ok asked
  asks = ap invocation are ∙ read

  -- no fault is told of words that ask for something
  untold : (told : ArgFault) → ((told ≡ fault.Memory → ⊥) → invocation (texts_of words) ≡ Err told) → (told ≡ fault.Memory → ⊥) → ⊥
  untold told tells other = no-fault told asked (sym (tells other) ∙ asks)

-- words that ask for something are some
some : (words : List (Vec ℕ)) (texts : List (List ℕ)) (asked : Command) → texts_of words ≡ texts → invocation texts ≡ Ok asked → 0 < length words
some [] texts asked are read = absurd (no-fault _ asked (ap invocation are ∙ read))
some (word ∷ words) texts asked are read = omega arith

pub read_inv-requires : goal.read_inv-requires
read_inv-requires c = record { named = some _ _ _ c.as_slice.ensures c.in_ok-words.ensures.asked }

pub returns-in-Ok-clause-command : goal.returns-in-Ok-clause-command
returns-in-Ok-clause-command c = same-ok _ _ _ c.in-Ok.ensures.command (asks _ _ _ c.as_slice.ensures c.in_ok-words.ensures.asked)

pub unreachable-requires : goal.unreachable-requires
unreachable-requires c =
    untold _ _ _ c.as_slice.ensures c.in_ok-words.ensures.asked c.in-Err-UnknownCommand.field-0 c.in-Err-UnknownCommand.ensures.fault (λ memory. cc)

pub unreachable-requires-in-Err-UnsupportedFlag : goal.unreachable-requires-in-Err-UnsupportedFlag
unreachable-requires-in-Err-UnsupportedFlag c =
    untold _ _ _ c.as_slice.ensures c.in_ok-words.ensures.asked c.in-Err-UnsupportedFlag.field-0 c.in-Err-UnsupportedFlag.ensures.fault (λ memory. cc)

pub unreachable-requires-in-Err-BadUsage : goal.unreachable-requires-in-Err-BadUsage
unreachable-requires-in-Err-BadUsage c =
    untold _ _ _ c.as_slice.ensures c.in_ok-words.ensures.asked c.in-Err-BadUsage.field-0 c.in-Err-BadUsage.ensures.fault (λ memory. cc)
