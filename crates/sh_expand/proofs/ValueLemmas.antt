-- Steps by which a part of a word has its marks.
use Rattle.std.proofs.Common.{◌≡◌, ◌++◌, ℕ, ℤ, Bool, List, Ok}
use Rattle.sh_pattern.specs.declared.elements.Element.{Element}
use Rattle.sh_pattern.specs.Reading.{Reads}
use Rattle.sh_arith.specs.Variables.{Variables}
use Rattle.sh_arith.specs.Values.{assigned_text}
use Rattle.sh_arith.specs.Arithmetic.{HasOutcome}
use Rattle.sh_tree.specs.Trees.{FormTree}
use Rattle.sh_tree.specs.declared.words.Param.{Param}
use Rattle.sh_expand.specs.declared.marks.Marked.{Marked}
use Rattle.sh_pattern.specs.declared.trims.Side.{Side}
use Rattle.sh_expand.specs.Marks.{value, pattern_of}
use Rattle.sh_pattern.specs.Trims.{Cuts}
use Rattle.sh_expand.specs.Values.{Begun, at_once, Adds, Computes, computes, fails, short, short_at_last, Trims, trims, FormEnds}

-- the marks were had at once
pub had : (how : Begun) (old new marks : List Marked) → new ≡ old ++ marks → how ≡ at_once (Ok marks) → Adds (λ all. how ≡ at_once (Ok all)) old new
had how old new marks grew once = record { marks = marks; grew = grew; gives = once }

pub ruleset begins = (had)

pub had_number : {flag : Bool} {text : List ℕ} {before after : Variables} {number : ℤ} (old new : List Marked) → new ≡ old ++ value flag (assigned_text number) → HasOutcome text before (Ok number, after)
    → Adds (λ added. Computes flag text before (Ok added, after)) old new
had_number {flag} {text} {before} {after} {number} old new grew outcome = record { marks = value flag (assigned_text number); grew = grew; gives = computes outcome }

pub had_rest : {cut_from : Side} {longest flag : Bool} {text rest : List ℕ} {marks : List Marked} {pattern : List Element} (old new : List Marked) → new ≡ old ++ value flag rest → Reads (pattern_of marks) pattern → Cuts cut_from longest pattern text rest
    → Adds (λ added. Trims cut_from longest flag text marks (Ok added)) old new
had_rest {cut_from} {longest} {flag} {text} {rest} {marks} {pattern} old new grew read cuts = record { marks = value flag rest; grew = grew; gives = trims pattern rest read cuts }

pub had_form : (what : Param) (flag : Bool) (text : List ℕ) (marks : List Marked) (form : FormTree) (old new added : List Marked) → new ≡ old ++ added → FormEnds what flag text marks form (Ok added)
    → Adds (λ all. FormEnds what flag text marks form (Ok all)) old new
had_form what flag text marks form old new added grew ends = record { marks = added; grew = grew; gives = ends }

pub ruleset ends = (computes, fails, short, short_at_last, trims, had_number, had_rest, had_form)
