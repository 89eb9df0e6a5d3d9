use Rattle.std.proofs.Common.{◌≡◌, ap, rules}
use Rattle.sh_tree.specs.Views.{script_tree}
use Rattle.sh_eval.specs.declared.refusals.Refusal.{Refusal}
use Rattle.sh_parse.specs.Outcomes.{script, refused}
use Rattle.sh_parse.specs.declared.scripts.ParseRefusal.TheVariants as parse
use Rattle.pash.specs.Answers.{refusal_of}
use Rattle.pash.specs.Starts.{answered, setup_of}
use Rattle.pash.specs.Words.{as_run}
use Rattle.pash.specs.declared.answers.Why.TheVariants as why
use Rattle.pash.proofs.StartLemmas.{has_refusal, started-as, started-so}
use Rattle.pash.proofs.starts.begin_text.Goals as goal

pub returns-in-Ok-clause-start : goal.returns-in-Ok-clause-start
returns-in-Ok-clause-start c =
    started-so c.args.text.now (script (script_tree c.in-Ok.script))
    (setup_of (as_run c.args.command.now)) _ c.in-Ok.ensures.script c.begin_script.ensures.start

pub returns-in-Err-Refused-clause-start : goal.returns-in-Err-Refused-clause-start
returns-in-Err-Refused-clause-start c =
    let is : c.in-Err-Refused.field-0 ≡ parse.Refused c.in-Err-Refused.cause = search rules in
    let told : c.refusal_of.result ≡ refusal_of c.in-Err-Refused.cause = search rules in
    started-as c.args.text.now (refused c.in-Err-Refused.cause) (setup_of (as_run c.args.command.now)) _
    (has_refusal _ _ _ is c.in-Err-Refused.ensures.refusal)
    (ap (λ (cause : Refusal). answered (why.Refused cause)) told)
