-- What a paste owes at its beginning, by its inputs one after another or at once.
use Rattle.std.proofs.Common.{◌≡◌, ℕ, nat_lt, List, [], Bool, true, false, not, if◌then◌else◌, get_or, refl, sym, ◌∙◌, arith}
use Rattle.std.specs.List.{flat_map}
use Rattle.std.proofs.lemmas.Bool.{true≢false, cond-true, cond-false, ltb-true}
use Rattle.std.proofs.lemmas.List.FromFn.{get_or-map-range_with_len}
use Rattle.ps_lines.specs.Lines.{lines}
use Rattle.ut_args.specs.Inputs.{separate_inputs, shared_inputs}
use Rattle.ut_args.specs.declared.invocations.Inv.TheVariants as inv
use Rattle.ut_args.specs.declared.invocations.PasteInv.{PasteInv}
use Rattle.ut_slices.specs.Paste.{column_inputs, row, side_by_side}
use Rattle.ut_slices.specs.Inner.Rows.{has_port}
use Rattle.ut_slices.proofs.InputLemmas.{side-same}
use Rattle.fl_graph.specs.declared.kinds.NodeKind.TheVariants as kind
use Rattle.fl_classes.specs.Nodes.{texts_at}
use Rattle.fl_classes.specs.Utilities.{output_of}
use Rattle.fl_classes.proofs.ClassLemmas.{paste-output}
use Rattle.fl_machines.specs.Kinds.{is_utility_node, reads_at_once}
use Rattle.fl_machines.proofs.MachineLemmas.{whole-ports}

module _ (paste : PasteInv) where
  -- a row for each input
  abbrev serial_rows : List (List ℕ) → List ℕ
  serial_rows texts = flat_map (λ text. row paste.args.delimiters (lines text)) texts

  abbrev side_rows : (ℕ → List ℕ) → List ℕ
  side_rows texts = side_by_side paste.args.delimiters (column_inputs paste.args.operands) texts

  pub serial-owed : (texts : List (List ℕ)) → paste.args.serial ≡ true → serial_rows texts ≡ output_of (inv.Paste paste) texts
  serial-owed texts serial =
      sym (cond-true paste.args.serial (serial_rows texts) (side_rows (λ input. get_or texts input [])) serial) ∙ sym (paste-output texts paste)

  -- one that doesn't read its inputs at once is serial
  pub serial-so : reads_at_once (inv.Paste paste) ≡ false → paste.args.serial ≡ true
  serial-so = by_form paste.args.serial
    where
      by_form : (serial : Bool) → not serial ≡ false → serial ≡ true
      by_form true is = refl
      by_form false is = absurd (true≢false is)

  -- lines side by side, of as many inputs as there are ins
  module _ (ins outs : ℕ) (is : is_utility_node (kind.Whole (inv.Paste paste)) ins outs ≡ true) (side : paste.args.serial ≡ false) where
    pub side-ins : ins ≡ shared_inputs paste.args.operands
    side-ins = (whole-ports (inv.Paste paste) ins outs is).0 ∙ by_form paste.args.serial side
      where
        by_form : (serial : Bool) → serial ≡ false → (if serial then separate_inputs paste.args.operands else shared_inputs paste.args.operands) ≡ shared_inputs paste.args.operands
        by_form serial is = rw is refl

    pub side-owed : (owes : (ℕ → List ℕ) → List ℕ) → ((texts : ℕ → List ℕ) → owes texts ≡ side_rows texts)
        → ((port : ℕ) → has_port port (column_inputs paste.args.operands) ≡ nat_lt port ins) → (texts : ℕ → List ℕ) → owes texts ≡ output_of (inv.Paste paste) (texts_at ins texts)
    side-owed owes owed used texts =
        owed texts
        ∙ side-same paste.args.delimiters (column_inputs paste.args.operands) texts (λ input. get_or (texts_at ins texts) input [])
        (λ input has. sym (get_or-map-range_with_len texts 0 ins input input [] (ltb-true input ins (sym (used input) ∙ has)) (omega arith)))
        ∙ sym (cond-false paste.args.serial (serial_rows (texts_at ins texts)) (side_rows (λ input. get_or (texts_at ins texts) input [])) side)
        ∙ sym (paste-output (texts_at ins texts) paste)
