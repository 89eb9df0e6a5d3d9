use Rattle.std.proofs.Common.{rules, ◌≡◌, ℕ, List, ap, ◌∙◌, subst}
use Rattle.ps_world.proofs.ToldLemmas.{on_any_err}
use Rattle.sh_eval.specs.States.{grown_at}
use Rattle.sh_eval.proofs.WritingLemmas.{grown_at-set, grown_at-past, texts-same}
use Rattle.sh_eval.proofs.session.Pipes.append.Goals as goal

pub returns-in_err-extend_from_slice-clause-err : goal.returns-in_err-extend_from_slice-clause-err
returns-in_err-extend_from_slice-clause-err c =
    on_any_err _ (texts-same c.self.inside.texts.items c.args.number _ c.index_mut.result.now c.extend_from_slice.new.self (search rules) c.index_mut.ensures.value c.in_err-extend_from_slice.ensures.items ∙ c.self.view_is)

pub returns-in_ok-extend_from_slice-clause-ok : goal.returns-in_ok-extend_from_slice-clause-ok
returns-in_ok-extend_from_slice-clause-ok c =
    grown_at-set c.self.inside.texts.items c.args.number c.args.bytes.now _ c.index_mut.result.now c.extend_from_slice.new.self (search rules) c.index_mut.ensures.value c.in_ok-extend_from_slice.ensures.items
    ∙ ap (grown_at c.args.number c.args.bytes.now) c.self.view_is

pub returns-else-place-len-clause-ok : goal.returns-else-place-len-clause-ok
returns-else-place-len-clause-ok c =
    subst (λ (it : List (List ℕ)). it ≡ grown_at c.args.number c.args.bytes.now it) c.self.view_is (grown_at-past c.self.inside.texts.items c.args.number c.args.bytes.now (search rules))
