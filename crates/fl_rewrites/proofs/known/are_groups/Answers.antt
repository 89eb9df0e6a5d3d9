use Rattle.std.proofs.Common.{◌≡◌, ℕ, List, Bool, ap, ◌∙◌}
use Rattle.std.specs.List.{list_all}
use Rattle.fl_rewrites.specs.Inner.Tables.{holds, marked}
use Rattle.fl_rewrites.specs.Known.{files_given, groups_by, groups_given}
use Rattle.fl_rewrites.proofs.known.are_groups.Goals as goal

pub returns : goal.returns
returns c =
    let files : c.as_slice.result.now ≡ files_given c.args.nodes.now = c.as_slice.ensures.value ∙ c.in_ok-files.ensures in
    let test : marked c.as_slice-2.result.now ≡ holds (files_given c.args.nodes.now) = ap marked c.as_slice-2.ensures.value ∙ c.in_ok-file_marks.ensures ∙ ap holds files in
    let groups : c.as_slice-3.result.now ≡ groups_given c.args.nodes.now =
    c.as_slice-3.ensures.value ∙ c.in_ok-groups.ensures ∙ ap (λ (test : ℕ → Bool). groups_by test c.args.nodes.now) test in
    c.all_marked.ensures ∙ ap (λ (marks : List Bool). list_all (marked marks) c.args.edges.now) c.as_slice-4.ensures.value
    ∙ ap (λ (test : ℕ → Bool). list_all test c.args.edges.now) (c.in_ok-marks.ensures ∙ ap holds groups)
