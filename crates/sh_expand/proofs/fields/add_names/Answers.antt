use Rattle.std.proofs.Common.{rules, ◌≡◌, false}
use Rattle.ps_lines.specs.Texts.{texts_of}
use Rattle.sh_expand.specs.Marks.{has_pattern}
use Rattle.sh_expand.proofs.FieldLemmas.{itself}
use Rattle.sh_expand.proofs.fields.add_names.Goals as goal

pub returns-then-not-has_pattern-clause-names : goal.returns-then-not-has_pattern-clause-names
returns-then-not-has_pattern-clause-names g c = λ files home sees.
    let plain : has_pattern c.args.field.now ≡ false = search rules in
    itself files home c.args.field.now (texts_of c.args.out.now.items) (texts_of c.add_bare.new.out.items) plain c.in_ok-add_bare.ensures
