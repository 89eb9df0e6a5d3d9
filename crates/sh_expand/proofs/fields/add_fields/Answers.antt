use Rattle.std.proofs.Common.{List, sym, subst}
use Rattle.std.specs.Global.{Vec}
use Rattle.sh_expand.specs.declared.fields.TheConstants.{MAX_FIELDS}
use Rattle.sh_expand.specs.declared.marks.Marked.{Marked}
use Rattle.sh_expand.specs.Splitting.{split, fields_of, AreUpTo}
use Rattle.sh_expand.proofs.CutLemmas.{cut_names_of}
use Rattle.sh_expand.proofs.fields.add_fields.Goals as goal

pub returns-clause-names : goal.returns-clause-names
returns-clause-names g c =
    let cut : AreUpTo MAX_FIELDS (split c.args.ifs.now c.args.marks.now) (fields_of c.as_slice.result.now) =
    subst (λ (all : List (Vec Marked)). AreUpTo MAX_FIELDS (split c.args.ifs.now c.args.marks.now) (fields_of all)) (sym c.as_slice.ensures.value) c.in_ok-fields.ensures in
    cut_names_of c.add_all_names.result (g.T.Tree.state c.args.tree.now) MAX_FIELDS _ _ _ _ cut c.add_all_names.ensures.names
