use Rattle.std.proofs.Common.{ap, ◌∙◌, drop}
use Rattle.std.proofs.lemmas.List.{take_rest}
use Rattle.ut_regex.specs.Inner.Tables.{left_at_found}
use Rattle.ut_regex.proofs.IdleLemmas.{passed-over}
use Rattle.ut_regex.proofs.RunLemmas.{are_bytes}
use Rattle.ut_regex.proofs.idle.Idle.run_from.Goals as goal

pub returns-clause-same : goal.returns-clause-same
returns-clause-same c = λ next idles. rw take_rest (
    ap (λ state. left_at_found next state (drop c.first_place-passed.result c.args.left.now)) c.idle_behind.ensures
    ∙ passed-over next c.args.self.now.state c.args.self.now.starts.set idles c.args.left.now c.first_place-passed.result c.args.state
    (are_bytes c.args.left.now c.type_inv.left) c.first_place-passed.ensures.within c.if-passed-eq0.false c.first_place-passed.ensures.first
    (c.waits_in.ensures.0 c.if-not-waits_in.false)
    )
