use Rattle.std.proofs.Common.{ap, sym, ◌∙◌, option_map}
use Rattle.std.proofs.lemmas.Bool.{and_from}
use Rattle.serde_json.proofs.Views.{view-Object}
use Rattle.serde_json.specs.Data.{boolean}
use Rattle.serde_json.specs.View.{members_view}
use Rattle.fl_text.specs.Names.{name_text}
use Rattle.fl_text.specs.Values.{are_counts, bytes_value, count_value, list_value}
use Rattle.fl_text.proofs.PrintLemmas.{cell-put}
use Rattle.fl_text.proofs.printing.node_value.Goals as goal

pub returns-clause-value : goal.returns-clause-value
returns-clause-value c =
    view-Object c.put_some-5.new.members
    ∙ cell-put c.args.node.now (members_view c.new-members.result.entries) (members_view c.put_some.new.members.entries) (members_view c.put_some-2.new.members.entries)
    (members_view c.put.new.members.entries) (members_view c.put_some-3.new.members.entries) (members_view c.put-2.new.members.entries) (members_view c.put-3.new.members.entries)
    (members_view c.put-4.new.members.entries) (members_view c.put_some-4.new.members.entries) (members_view c.put_some-5.new.members.entries)
    _ _ _ _ _ _ _ _ _ (ap members_view c.new-members.ensures.empty)
    c.in_ok-words_value.ensures.value c.in_ok-put_some.ensures
    c.in_ok-text_value.ensures.value c.in_ok-put_some-2.ensures
    c.count_value.ensures.value c.in_ok-put.ensures
    c.in_ok-path_value.ensures.value c.in_ok-put_some-3.ensures
    (c.in_ok-counts_value.ensures.value ∙ ap (list_value count_value) c.as_slice.ensures) c.in_ok-put-2.ensures
    (c.in_ok-bytes_value.ensures.value ∙ ap bytes_value (c.text.ensures ∙ ap name_text c.name_of.ensures)) c.in_ok-put-3.ensures
    (c.in_ok-counts_value-2.ensures.value ∙ ap (list_value count_value) c.as_slice-2.ensures) c.in_ok-put-4.ensures
    (c.switch_value.ensures ∙ ap (option_map boolean) c.close_of.ensures) c.in_ok-put_some-4.ensures
    (c.switch_value-2.ensures ∙ ap (option_map boolean) c.append_of.ensures) c.in_ok-put_some-5.ensures

pub returns-clause-held : goal.returns-clause-held
returns-clause-held c =
    and_from _ _ (ap are_counts (sym c.as_slice-2.ensures) ∙ c.in_ok-counts_value-2.ensures.held)
    (and_from _ _ (ap are_counts (sym c.as_slice.ensures) ∙ c.in_ok-counts_value.ensures.held)
    (and_from _ _ c.count_value.ensures.held
    (and_from _ _ c.in_ok-path_value.ensures.held (and_from _ _ c.in_ok-text_value.ensures.held c.in_ok-words_value.ensures.held))))
