use Rattle.std.proofs.Common.{rules, ◌≡◌, true}
use Rattle.fl_text.proofs.WritingLemmas.{kept-apart, stopped-apart}
use Rattle.fl_text.proofs.files.has_paths_apart.Goals as goal

pub returns-then-not-branch : goal.returns-then-not-branch
returns-then-not-branch c =
    stopped-apart c.new-files.result c.args.nodes.now c.in_ok-keep_all.field-0 c.new-files.ensures.empty c.in_ok-keep_all.ensures.new (search rules)

pub returns : goal.returns
returns c =
    let goes_on : c.in_ok-keep_all.field-0 ≡ true = search rules in
    kept-apart c.new-files.result c.keep_all.new.files c.args.nodes.now c.in_ok-keep_all.field-0 c.read_others.result c.new-files.ensures.empty
    c.in_ok-keep_all.ensures.new goes_on (c.in_ok-keep_all.ensures.kept goes_on) c.read_others.ensures
