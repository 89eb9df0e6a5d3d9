use Rattle.std.proofs.Common.{rules, refl, arith}
use Rattle.sh_eval.specs.declared.outcomes.How.TheVariants as how
use Rattle.sh_eval.proofs.ReadingLemmas.{read-done}
use Rattle.sh_eval.proofs.BuiltinLemmas.{read-stopped}
use Rattle.sh_eval.proofs.reading.read_names.Goals as goal

pub returns-in_default : goal.returns-in_default
returns-in_default g c =
    λ tree taken errors used of_output of_errors of_tree. read-stopped c.args.names.now _ _ _ _ tree _ _ taken errors used _ _ of_output of_errors of_tree how.Memory (λ gone. gone) (omega arith) c.take_line.ensures.cause.later tt

pub returns-in-Ok-set_fields : goal.returns-in-Ok-set_fields
returns-in-Ok-set_fields g c =
    λ tree taken errors used of_output of_errors of_tree. read-done c.args.names.now _ _ _ _ tree _ _ taken errors used _ _ of_output of_errors of_tree _ _ c.in-Ok.ensures.ok refl (search rules) c.in-Ok.ensures.cause.ok

pub returns-in-Err-Failed : goal.returns-in-Err-Failed
returns-in-Err-Failed g c =
    λ tree taken errors used of_output of_errors of_tree. read-stopped c.args.names.now _ _ _ _ tree _ _ taken errors used _ _ of_output of_errors of_tree how.ReadFault (λ gone. gone) (omega arith) c.take_line.ensures.cause.later
    (c.take_line.ensures.cause.failed (search rules))

pub returns-in-Err-Memory : goal.returns-in-Err-Memory
returns-in-Err-Memory g c =
    λ tree taken errors used of_output of_errors of_tree. read-stopped c.args.names.now _ _ _ _ tree _ _ taken errors used _ _ of_output of_errors of_tree how.Memory (λ gone. gone) (omega arith) c.take_line.ensures.cause.later tt
