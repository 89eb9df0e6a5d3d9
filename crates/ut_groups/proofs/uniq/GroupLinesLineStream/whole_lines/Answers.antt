use Rattle.std.proofs.Common.{List, ℕ, ◌++◌, true, refl}
use Rattle.ps_lines.specs.Lines.{lines}
use Rattle.ut_streams.proofs.StreamLemmas.{closed-rest, Wrote-last_line, Wrote-line_stopped, Wrote-next_line, Wrote-same, Wrote-trans}
use Rattle.ut_groups.specs.declared.uniq.GroupLines.{GroupLines}
use Rattle.ut_groups.specs.Inner.Open.{due_of, group_held}
use Rattle.ut_groups.proofs.uniq.GroupLinesLineStream.whole_lines.Goals as goal

abbrev due : GroupLines → List (List ℕ) → List ℕ
due it coming = due_of it.grouping it.is_open (group_held it.first.items it.count) coming

pub returns-in_default-clause-wrote : goal.returns-in_default-clause-wrote
returns-in_default-clause-wrote c =
    let text = c.args.text.now in
    let was = due c.args.self.now in
    Wrote-last_line (λ more. was (lines text ++ more)) was text c.args.out.now.items c.args.out.now.items c.requires c.in_default.ensures.none
    (Wrote-same (λ more. was (lines text ++ more)) (λ more. was (lines text ++ more)) c.args.out.now.items true (λ ok more. refl))

pub go_on-requires-in-Ok-clause-closed : goal.go_on-requires-in-Ok-clause-closed
go_on-requires-in-Ok-clause-closed c = closed-rest c.args.text.now c.in-Some.line.now c.in-Some.rest.now c.in-Some.ensures.cut c.requires

pub returns-in-Ok-clause-wrote : goal.returns-in-Ok-clause-wrote
returns-in-Ok-clause-wrote c =
    let text = c.args.text.now in
    let rest = c.in-Some.rest.now in
    let old = c.args.out.now.items in
    let was = due c.args.self.now in
    let half = due c.begin.new.self in
    Wrote-trans (λ more. was (lines text ++ more)) (λ more. half (lines rest ++ more)) (due c.go_on-in-Ok.new.self) old c.begin.new.out.items c.go_on-in-Ok.new.out.items _
    (Wrote-next_line (λ more. was (lines text ++ more)) was half text c.in-Some.line.now rest old old c.begin.new.out.items true c.in-Some.ensures.cut
    (Wrote-same (λ more. was (lines text ++ more)) (λ more. was (lines text ++ more)) old true (λ ok more. refl)) c.in-Ok.ensures.wrote)
    c.go_on-in-Ok.ensures

pub returns-in-Err-clause-wrote : goal.returns-in-Err-clause-wrote
returns-in-Err-clause-wrote c =
    let text = c.args.text.now in
    let old = c.args.out.now.items in
    let was = due c.args.self.now in
    let half = due c.begin.new.self in
    Wrote-line_stopped (λ more. was (lines text ++ more)) half was half text c.in-Some.line.now c.in-Some.rest.now old old c.begin.new.out.items c.in-Some.ensures.cut
    (Wrote-same (λ more. was (lines text ++ more)) (λ more. was (lines text ++ more)) old true (λ ok more. refl)) c.in-Err.ensures.wrote
