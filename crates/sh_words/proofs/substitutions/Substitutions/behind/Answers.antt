use Rattle.std.proofs.lemmas.Bool.Decides.{Decides-eqb}
use Rattle.std.proofs.lemmas.Slice.Eq.{strip_prefix_is}
use Rattle.sh_words.proofs.ExtentLemmas.{stripped}
use Rattle.sh_words.proofs.substitutions.Substitutions.behind.Goals as goal

pub returns-in-Some : goal.returns-in-Some
returns-in-Some c =
    let extent = c.in-Some.extent.now in
    stripped extent.bytes.now c.args.here.now c.strip_prefix.result _ extent.ends
    (strip_prefix_is Decides-eqb c.args.here.now extent.bytes.now c.strip_prefix.result c.strip_prefix.ensures.cases)
