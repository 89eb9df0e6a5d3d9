use Rattle.std.proofs.Common.{rules, sym, subst, ◌<◌, ℕ, length}
use Rattle.std.proofs.lemmas.List.{length-map}
use Rattle.ps_lines.specs.Texts.{texts_of}
use Rattle.sh_expand.specs.declared.fields.TheConstants.{MAX_FIELDS}
use Rattle.sh_expand.specs.Splitting.{fields_of}
use Rattle.sh_expand.proofs.FieldLemmas.{names_step, unasked_step}
use Rattle.sh_expand.proofs.CutLemmas.{names_end, names_cut}
use Rattle.sh_expand.proofs.fields.add_all_names.Goals as goal

pub loop-field-preserved : goal.loop-field-preserved
loop-field-preserved g c = record {
  state = search rules;
  faults = search rules;
  unasked = unasked_step c.args.tree.now c.loop-field.tree c.add_names.new.tree (fields_of c.args.fields.now) _ (fields_of c.in-Some.rest.now) c.in-Some.field.now c.in-Some.ensures.first c.add_names.ensures.unasked c.loop-field.invariant.unasked;
  go = names_step (g.T.Tree.state c.args.tree.now) (g.T.Tree.state c.loop-field.tree) (fields_of c.args.fields.now) _ (fields_of c.in-Some.rest.now) c.in-Some.field.now _ (texts_of c.loop-field.out.items) _ c.loop-field.invariant.state c.in-Some.ensures.first
      (λ plain. (c.loop-field.invariant.unasked plain).1) c.in_ok-add_names.ensures.names c.loop-field.invariant.go;
}

pub returns-clause-names : goal.returns-clause-names
returns-clause-names g c = names_end (g.T.Tree.state c.args.tree.now) MAX_FIELDS (fields_of c.args.fields.now) _ _ _ (search rules) c.loop-field.invariant.go

pub returns-in_err-add_names-clause-unasked : goal.returns-in_err-add_names-clause-unasked
returns-in_err-add_names-clause-unasked g c = λ plain.
    (unasked_step c.args.tree.now c.loop-field.tree c.add_names.new.tree (fields_of c.args.fields.now) _ (fields_of c.in-Some.rest.now) c.in-Some.field.now c.in-Some.ensures.first c.add_names.ensures.unasked c.loop-field.invariant.unasked plain).0

pub returns-clause-unasked : goal.returns-clause-unasked
returns-clause-unasked g c = λ plain. (c.loop-field.invariant.unasked plain).0

pub returns-then-len-gt-MAX_FIELDS-clause-names : goal.returns-then-len-gt-MAX_FIELDS-clause-names
returns-then-len-gt-MAX_FIELDS-clause-names g c =
    let more : MAX_FIELDS < length c.add_names.new.out.items = search rules in
    names_cut (g.T.Tree.state c.args.tree.now) MAX_FIELDS (fields_of c.args.fields.now) (fields_of c.in-Some.rest.now) _ (texts_of c.add_names.new.out.items) (subst (λ (count : ℕ). MAX_FIELDS < count) (sym (length-map c.add_names.new.out.items _)) more)
    (names_step (g.T.Tree.state c.args.tree.now) (g.T.Tree.state c.loop-field.tree) (fields_of c.args.fields.now) _ (fields_of c.in-Some.rest.now) c.in-Some.field.now _ (texts_of c.loop-field.out.items) _ c.loop-field.invariant.state c.in-Some.ensures.first
    (λ plain. (c.loop-field.invariant.unasked plain).1) c.in_ok-add_names.ensures.names c.loop-field.invariant.go)
