use Rattle.std.proofs.Common.{ℕ, List, sym, ◌∙◌, inr, subst, refl, ap}
use Rattle.sh_arith.specs.Tokens.{Lexes, past_blanks}
use Rattle.sh_arith.proofs.TokenLemmas.{past_blanks_twice, blanks_before, blanks_after, rest_lexes, no_tokens, more_tokens, all_tokens}
use Rattle.sh_arith.proofs.tokens.tokens.Goals as goal

pub loop-rest-init : goal.loop-rest-init
loop-rest-init c =
    let past = c.past_blanks-rest.ensures.past in
    record {
      read = λ others h. rw c.new-found.ensures.items (blanks_before (subst (λ (t : List ℕ). Lexes t others) past h));
      back = λ list h. (list, subst (λ (t : List ℕ). Lexes t list) (sym past) (blanks_after h));
      blank = ap past_blanks past ∙ past_blanks_twice c.args.text.now ∙ sym past;
    }

pub loop-rest-preserved : goal.loop-rest-preserved
loop-rest-preserved c =
    let kept = c.loop-rest.invariant in
    let past = c.past_blanks-rest-in-loop-rest.ensures.past in
    let next = c.in-Some.ensures.token in
    record {
      read = λ others h. more_tokens c.in-Some.token c.loop-rest.found.items kept.read c.in_ok-push.ensures.items kept.blank next others (subst (λ (t : List ℕ). Lexes t others) past h);
      back = λ list h.
          let left = rest_lexes kept.blank next (kept.back list h).1 in
          (left.0, subst (λ (t : List ℕ). Lexes t left.0) (sym past) (blanks_after left.1));
      blank = ap past_blanks past ∙ past_blanks_twice c.in-Some.left.now ∙ sym past;
    }

pub returns-in_default-clause-refused : goal.returns-in_default-clause-refused
returns-in_default-clause-refused c =
    let kept = c.loop-rest.invariant in
    inr (
      refl,
      λ list h.
          let left = kept.back list h in
          no_tokens kept.blank (sym c.is_empty.ensures ∙ c.loop-rest-test.true) c.in_default.ensures.token left.0 left.1,
    )

pub returns-clause-read : goal.returns-clause-read
returns-clause-read c = all_tokens c.loop-rest.found.items c.loop-rest.invariant.read (sym c.is_empty.ensures ∙ c.loop-rest-test.false)
