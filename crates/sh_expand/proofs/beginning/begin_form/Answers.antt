use Rattle.std.proofs.Common.{rules, ◌≡◌}
use Rattle.sh_tree.specs.declared.words.Form.{the_lemmas}
use Rattle.sh_tree.specs.Trees.{default, assign, check, check_omitted, alternate, no_part}
use Rattle.sh_tree.specs.Views.{word_tree}
use Rattle.sh_tree.specs.Views.{form_tree}
use Rattle.sh_expand.proofs.beginning.begin_form.Goals as goal

pub returns-in-Default : goal.returns-in-Default
returns-in-Default c =
    let e : form_tree c.args.form.now ≡ default c.in-Default.colon (word_tree c.in-Default.word) = search (rules, the_lemmas) in
    let h = c.unless_set.ensures (word_tree c.in-Default.word) in
    rw e (rw (← c.inside.ensures) h)

pub returns-in-Assign : goal.returns-in-Assign
returns-in-Assign c =
    let e : form_tree c.args.form.now ≡ assign c.in-Assign.colon (word_tree c.in-Assign.word) = search (rules, the_lemmas) in
    rw e (c.unless_set-in-Assign.ensures (word_tree c.in-Assign.word))

pub returns-in-Some : goal.returns-in-Some
returns-in-Some c =
    let e : form_tree c.args.form.now ≡ check c.in-Check.colon (word_tree c.in-Some.field-0) = search (rules, the_lemmas) in
    rw e (c.unless_set-in-Some.ensures (word_tree c.in-Some.field-0))

pub returns-in-None : goal.returns-in-None
returns-in-None c =
    let e : form_tree c.args.form.now ≡ check_omitted c.in-Check.colon = search (rules, the_lemmas) in
    rw e (c.set_or_fault.ensures no_part)

pub returns-in-Alternate : goal.returns-in-Alternate
returns-in-Alternate c =
    let e : form_tree c.args.form.now ≡ alternate c.in-Alternate.colon (word_tree c.in-Alternate.word) = search (rules, the_lemmas) in
    rw e (rw (← c.inside-in-Alternate.ensures) (c.where_set.ensures (word_tree c.in-Alternate.word)))
