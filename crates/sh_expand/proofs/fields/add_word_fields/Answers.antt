use Rattle.std.proofs.Common.{ap₂, ◌∙◌, ℕ, List}
use Rattle.std.specs.List.{list_any}
use Rattle.sh_tree.specs.Views.{word_tree}
use Rattle.sh_expand.specs.declared.fields.TheConstants.{MAX_FIELDS}
use Rattle.sh_expand.specs.declared.marks.Marked.{Marked}
use Rattle.sh_expand.specs.Given.{given_of}
use Rattle.sh_expand.specs.Marks.{has_pattern}
use Rattle.sh_expand.specs.Splitting.{split}
use Rattle.sh_expand.proofs.CutLemmas.{word_fields}
use Rattle.sh_expand.proofs.UniqueLemmas.{marks_plain}
use Rattle.sh_expand.proofs.fields.add_word_fields.Goals as goal

pub returns-in-Ok-add_fields-clause-fields : goal.returns-in-Ok-add_fields-clause-fields
returns-in-Ok-add_fields-clause-fields g c =
    word_fields (g.T.Tree.state c.args.tree.now) MAX_FIELDS (given_of c.args.known.now) c.args.env.now c.marks_of_word.new.env (word_tree c.args.word.now) c.in-Ok.marks.items c.as_slice.result.now c.ifs_of.result.now _ _
    c.ifs_of.ensures c.as_slice.ensures.value c.in-Ok.ensures.marks
    (λ plain. ap₂ (λ (i : List ℕ) (m : List Marked). list_any has_pattern (split i m)) c.ifs_of.ensures c.as_slice.ensures.value ∙ marks_plain c.in-Ok.ensures.marks plain)
    c.in-Ok-add_fields.ensures.names

pub returns-in-Ok-add_fields-clause-unasked : goal.returns-in-Ok-add_fields-clause-unasked
returns-in-Ok-add_fields-clause-unasked g c = λ plain.
    c.add_fields.ensures.unasked (ap₂ (λ (i : List ℕ) (m : List Marked). list_any has_pattern (split i m)) c.ifs_of.ensures c.as_slice.ensures.value ∙ marks_plain c.in-Ok.ensures.marks plain)

pub returns-in-Ok-clause-unasked : goal.returns-in-Ok-clause-unasked
returns-in-Ok-clause-unasked g c = λ plain.
    c.add_fields.ensures.unasked (ap₂ (λ (i : List ℕ) (m : List Marked). list_any has_pattern (split i m)) c.ifs_of.ensures c.as_slice.ensures.value ∙ marks_plain c.in-Ok.ensures.marks plain)
