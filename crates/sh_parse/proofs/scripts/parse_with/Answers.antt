use Rattle.std.proofs.Common.{◌∙◌, sym, subst}
use Rattle.sh_parse.specs.Stops.{HasScript}
use Rattle.sh_parse.specs.Misuses.{FirstMisuse}
use Rattle.sh_parse.specs.Inner.Parses.{RefusesItems}
use Rattle.sh_parse.specs.declared.items.TheConstants.{MAX_LEVELS}
use Rattle.sh_parse.proofs.Builds.{script_is}
use Rattle.sh_parse.proofs.Parsings.{grammar_told}
use Rattle.sh_parse.proofs.scripts.parse_with.Goals as goal

pub returns-in-Ok-build-clause-script : goal.returns-in-Ok-build-clause-script
returns-in-Ok-build-clause-script g c =
    let views = g.W.WordReader.views c.args.reader.now in
    let found = c.in-Ok.ensures.script views in
    record {
      script = subst (λ script. HasScript views c.args.items.now script)
          (sym (script_is views MAX_LEVELS c.args.items.now found.0 found.1.reads) ∙ sym c.in-Ok-build.ensures) found.1;
      no_misuse = subst (FirstMisuse views c.args.items.now) c.in-Ok-None.field-0-is c.in-Ok-None.ensures;
    }

pub returns-in-Err-clause-refusal : goal.returns-in-Err-clause-refusal
returns-in-Err-clause-refusal g c =
    let views = g.W.WordReader.views c.args.reader.now in
    subst (RefusesItems views c.args.items.now) (sym c.of_grammar.ensures) (grammar_told views c.args.items.now c.in-Err.refusal (c.in-Err.ensures.refusal views))
