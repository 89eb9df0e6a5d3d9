use Rattle.std.proofs.Common.{◌≡◌, ◌++◌, subst, sym, rules}
use Rattle.sh_lex.specs.Runs.{has}
use Rattle.sh_lex.specs.Texts.{run}
use Rattle.sh_lex.proofs.Fronts.{run_ends_none, run_ends_other, run_goes_on}
use Rattle.sh_lex.proofs.runs.run.Goals as goal

pub returns-then-not-has : goal.returns-then-not-has
returns-then-not-has c =
    let l = c.loop-byte in
    run_ends_other (has c.args.class) c.in-Some.byte c.in-Some.after.now l.bytes.items l.rest.now _ c.in-Some.ensures.front (search rules) l.invariant

pub loop-byte-preserved : goal.loop-byte-preserved
loop-byte-preserved c =
    let l = c.loop-byte in
    subst (λ items. items ++ run (has c.args.class) c.in-Some.after.now ≡ run (has c.args.class) c.args.text.now)
    (sym c.in_ok-push.ensures.items)
    (run_goes_on (has c.args.class) c.in-Some.byte c.in-Some.after.now l.bytes.items l.rest.now _ c.in-Some.ensures.front (search rules) l.invariant)

pub returns : goal.returns
returns c =
    let l = c.loop-byte in run_ends_none (has c.args.class) l.bytes.items l.rest.now _ c.in_default.ensures.front l.invariant
