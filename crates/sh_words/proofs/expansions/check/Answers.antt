use Rattle.std.proofs.Common.{◌≡◌, Some, length, sym, ◌∙◌, ap, rules}
use Rattle.sh_tree.specs.declared.words.Form.{the_lemmas}
use Rattle.sh_tree.specs.declared.words.Form.TheVariants as form_is
use Rattle.sh_tree.specs.Trees.{no_part, check}
use Rattle.sh_tree.specs.Views.{word_tree, form_tree}
use Rattle.sh_words.specs.Parameters.{check_form}
use Rattle.sh_words.specs.Inner.Built.{trees_onto}
use Rattle.sh_words.proofs.BuildingLemmas.{check_form-some}
use Rattle.sh_words.proofs.expansions.check.Goals as goal

pub returns-else-is_empty : goal.returns-else-is_empty
returns-else-is_empty c =
    let word = c.args.word in
    let seen : word_tree word ≡ trees_onto word.parts.items no_part = search (rules, the_lemmas) in
    let some : length word.parts.items ≡ 0 → ⊥ = λ none. search rules in
    let formed : form_tree (form_is.Check c.args.colon (Some word)) ≡ check c.args.colon (word_tree word) = search (rules, the_lemmas) in
    formed ∙ (ap (check c.args.colon) seen ∙ (sym (check_form-some c.args.colon word.parts.items some) ∙ ap (check_form c.args.colon) (sym seen)))
