use Rattle.std.proofs.Common.{◌∙◌}
use Rattle.ps_lines.proofs.TextsLemmas.{texts_of-clones}
use Rattle.ps_world.proofs.path.Path.copy.Goals as goal

pub invariant_of-result : goal.invariant_of-result
invariant_of-result c = rw (texts_of-clones c.self.inside.parts.items c.in_ok-parts.parts.items c.in_ok-parts.ensures.cases.0) c.self.invariant

pub returns : goal.returns
returns c = texts_of-clones c.self.inside.parts.items c.in_ok-parts.parts.items c.in_ok-parts.ensures.cases.0 ∙ c.self.view_is
