use Rattle.std.proofs.Common.{◌≡◌, ℕ, List, Bool, ap, ◌∙◌}
use Rattle.std.specs.List.{list_all}
use Rattle.fl_rewrites.specs.Inner.Tables.{holds, marked}
use Rattle.fl_rewrites.specs.Known.{files_given}
use Rattle.fl_rewrites.proofs.known.are_files.Goals as goal

pub returns : goal.returns
returns c =
    let files : c.as_slice.result.now ≡ files_given c.args.nodes.now = c.as_slice.ensures.value ∙ c.in_ok-files.ensures in
    c.all_marked.ensures ∙ ap (λ (marks : List Bool). list_all (marked marks) c.args.edges.now) c.as_slice-2.ensures.value
    ∙ ap (λ (test : ℕ → Bool). list_all test c.args.edges.now) (c.in_ok-marks.ensures ∙ ap holds files)
