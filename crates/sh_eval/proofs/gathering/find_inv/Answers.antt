use Rattle.std.proofs.Common.{rules, List, ℕ, map, sym, ap, subst, ◌∙◌}
use Rattle.ps_lines.specs.Texts.{texts_of}
use Rattle.ut_args.specs.Invocations.{words_of}
use Rattle.sh_tree.specs.Views.{word_tree}
use Rattle.sh_eval.specs.Inner.Gathering.{GiveFields, IsRead}
use Rattle.sh_eval.specs.declared.shell.Shell.{Shell}
use Rattle.sh_eval.proofs.gathering.find_inv.Goals as goal

pub returns-clause-asked : goal.returns-clause-asked
returns-clause-asked g c =
    let gives : GiveFields (map word_tree c.args.words.now) c.in_ok-inner.inner (g.T.Tree.state c.args.tree.now) (texts_of c.in-Some.fields.items) = search rules in
    let is_read : IsRead (texts_of c.as_slice.result.now) c.in-Some-2.inv = search rules in
    record {
      fields =
          subst (λ (it : Shell). GiveFields (map word_tree c.args.words.now) it (g.T.Tree.state c.args.tree.now) (words_of c.in-Some-2.inv)) c.in_ok-inner.ensures
          (subst (GiveFields (map word_tree c.args.words.now) c.in_ok-inner.inner (g.T.Tree.state c.args.tree.now)) (sym (is_read.words ∙ ap texts_of c.as_slice.ensures.value)) gives);
      read = subst (λ (it : List (List ℕ)). IsRead it c.in-Some-2.inv) (sym is_read.words) is_read;
    }
