-- Texts at places of lists of byte strings.
use Rattle.std.proofs.lemmas.Option.{slice_get-map}

pub ruleset texts = (slice_get-map)
