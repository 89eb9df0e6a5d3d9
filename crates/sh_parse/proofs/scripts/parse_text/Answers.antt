use Rattle.std.proofs.Common.{subst, IfOk, IfErr}
use Rattle.sh_tree.specs.Views.{script_tree}
use Rattle.sh_parse.specs.Outcomes.{IsSound}
use Rattle.sh_parse.specs.Inner.Parses.{RefusesItems}
use Rattle.sh_parse.specs.Inner.WordsOf.{words_of}
use Rattle.sh_parse.proofs.scripts.parse_text.Goals as goal

pub returns-in-Ok-clause-script : goal.returns-in-Ok-clause-script
returns-in-Ok-clause-script c =
    subst (λ text. IfOk c.parse_with.result (λ script. IsSound (script_tree script) (words_of text) c.args.items.now)) c.in-Ok.ensures
    c.parse_with.ensures.script

pub returns-in-Ok-clause-refusal : goal.returns-in-Ok-clause-refusal
returns-in-Ok-clause-refusal c =
    subst (λ text. IfErr c.parse_with.result (λ refusal. RefusesItems (words_of text) c.args.items.now refusal)) c.in-Ok.ensures
    c.parse_with.ensures.refusal
