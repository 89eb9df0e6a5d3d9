use Rattle.std.proofs.Common.{◌∙◌, sym, subst}
use Rattle.sh_parse.specs.Stops.{HasScript}
use Rattle.sh_parse.specs.declared.items.TheConstants.{MAX_LEVELS}
use Rattle.sh_parse.proofs.Builds.{script_is}
use Rattle.sh_parse.proofs.parsing.parse_items.Goals as goal

pub returns-in-Ok-build-clause-script : goal.returns-in-Ok-build-clause-script
returns-in-Ok-build-clause-script g c =
    let found = c.in-Ok.ensures.script (g.W.WordReader.views c.args.reader.now) in
    subst (λ script. HasScript (g.W.WordReader.views c.args.reader.now) c.args.items.now script)
    (sym (script_is (g.W.WordReader.views c.args.reader.now) MAX_LEVELS c.args.items.now found.0 found.1.reads) ∙ sym c.in-Ok-build.ensures)
    found.1
