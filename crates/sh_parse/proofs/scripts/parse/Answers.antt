use Rattle.std.proofs.Common.{subst, IfOk}
use Rattle.sh_tree.specs.Views.{script_tree}
use Rattle.sh_parse.specs.Outcomes.{IsSound}
use Rattle.sh_parse.specs.Inner.WordsOf.{words_of}
use Rattle.sh_parse.proofs.Parsings.{script_of_text, numbered_text}
use Rattle.sh_parse.proofs.scripts.parse.Goals as goal

pub returns-in-Ok-clause-script : goal.returns-in-Ok-clause-script
returns-in-Ok-clause-script c =
    script_of_text c.args.text.now c.in-Ok.items.items c.in-Ok.ensures.items c.parse_text.result
    (subst (λ items. IfOk c.parse_text.result (λ script. IsSound (script_tree script) (words_of c.args.text.now) items)) c.as_slice.ensures.value
    c.parse_text.ensures.script)

pub returns-in-Ok-clause-numbered : goal.returns-in-Ok-clause-numbered
returns-in-Ok-clause-numbered c =
    numbered_text c.args.text.now c.in-Ok.items.items c.in-Ok.ensures.items c.parse_text.result
    (subst (λ items. IfOk c.parse_text.result (λ script. IsSound (script_tree script) (words_of c.args.text.now) items)) c.as_slice.ensures.value
    c.parse_text.ensures.script)
