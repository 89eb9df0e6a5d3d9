use Rattle.std.proofs.Common.{◌≡◌, ◌++◌, [], ◌∷◌, subst, refl, rules}
use Rattle.std.specs.Char.{is_ascii_digit}
use Rattle.sh_lex.specs.Heads.{place_value}
use Rattle.sh_lex.proofs.Fronts.{run_ends_none, run_ends_other, run_goes_on, runs}
use Rattle.sh_lex.proofs.PlaceLemmas.{place_value-one}
use Rattle.sh_lex.proofs.heads.place.Goals as goal

pub loop-byte-init : goal.loop-byte-init
loop-byte-init c = record {
  value = (c.args.first ∷ [], (search (rules, place_value-one), refl));
  behind = refl;
}

pub returns-then-not-is_ascii_digit-clause-value : goal.returns-then-not-is_ascii_digit-clause-value
returns-then-not-is_ascii_digit-clause-value c =
    let l = c.loop-byte in
    let (digits, (value, whole)) = l.invariant.value in
    subst (λ digits. l.value ≡ place_value digits)
    (run_ends_other is_ascii_digit c.in-Some.byte c.in-Some.after.now digits l.rest.now _ c.in-Some.ensures.front (search rules) whole) value

pub loop-byte-preserved : goal.loop-byte-preserved
loop-byte-preserved c =
    let l = c.loop-byte in
    let (digits, (value, whole)) = l.invariant.value in
    record {
      value = (
        digits ++ c.in-Some.byte ∷ [],
        (
          c.with_digit-value.ensures digits value,
          run_goes_on is_ascii_digit c.in-Some.byte c.in-Some.after.now digits l.rest.now _ c.in-Some.ensures.front (search rules) whole,
        ),
      );
      behind = search (rules, runs);
    }

pub returns-clause-value : goal.returns-clause-value
returns-clause-value c =
    let l = c.loop-byte in
    let (digits, (value, whole)) = l.invariant.value in
    subst (λ digits. l.value ≡ place_value digits)
    (run_ends_none is_ascii_digit digits l.rest.now _ c.in_default.ensures.front whole) value
