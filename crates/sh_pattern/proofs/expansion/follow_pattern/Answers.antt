use Rattle.std.proofs.Common.{◌≡◌, List, ℕ, true, sym, subst}
use Rattle.std.specs.Global.{Vec}
use Rattle.std.specs.Option.{IfSome}
use Rattle.std.specs.List.{list_all}
use Rattle.ps_lines.specs.Texts.{texts_of}
use Rattle.ps_world.specs.Paths.{is_name}
use Rattle.ps_world.specs.Files.{IsListing}
use Rattle.sh_pattern.proofs.ExpansionLemmas.{pattern_on, on_ok}
use Rattle.sh_pattern.proofs.expansion.follow_pattern.Goals as goal

pub returns-clause-found : goal.returns-clause-found
returns-clause-found g c =
    let held = (g.T.Tree.state c.args.tree.now).held in
    let dir = c.args.from.now.place in
    let listing = subst (λ (names : List (Vec ℕ)). IfSome held (λ files. IsListing files dir (texts_of names))) (sym c.as_slice.ensures.value) c.in_ok-names.ensures.names in
    let each = subst (λ (names : List (Vec ℕ)). list_all is_name (texts_of names) ≡ true) (sym c.as_slice.ensures.value) c.in_ok-names.ensures.each in
    on_ok c.add_fitting.result
    (λ added. pattern_on held c.args.from.now c.args.component.now c.args.ending.now (texts_of c.as_slice.result.now) c.args.found.now.items c.add_fitting.new.found.items
    c.requires.special c.requires.directory listing each added)
    c.add_fitting.ensures.found
