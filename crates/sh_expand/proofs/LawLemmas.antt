-- Laws of field splitting.
use Rattle.std.proofs.Common.{◌≡◌, ℕ, ◌||◌, Bool, true, false, List, [], ◌∷◌, ◌++◌, Option, Some, None, Ok, map, refl, sym, ap, ◌∙◌, subst}
use Rattle.std.specs.List.{list_any}
use Rattle.std.proofs.lemmas.List.{append-nil}
use Rattle.ps_world.specs.Files.{Files}
use Rattle.ps_world.specs.Paths.{Components}
use Rattle.sh_pattern.specs.PathExpansion.{Expands, unlooked}
use Rattle.sh_arith.specs.Variables.{Variables}
use Rattle.sh_tree.specs.Trees.{no_part, part, plain}
use Rattle.sh_expand.specs.declared.marks.Marked.{Marked}
use Rattle.sh_expand.specs.declared.marks.Marked.TheVariants.{Written, Quoted}
use Rattle.sh_expand.specs.declared.marks.Manner.TheVariants as manner
use Rattle.sh_expand.specs.declared.splitting.Act.{Act}
use Rattle.sh_expand.specs.declared.splitting.Act.TheVariants as act
use Rattle.sh_expand.specs.declared.splitting.Before.{Before}
use Rattle.sh_expand.specs.declared.splitting.Before.TheVariants as before
use Rattle.sh_expand.specs.declared.parameters.Setting.TheVariants as setting
use Rattle.sh_expand.specs.Given.{Given}
use Rattle.sh_expand.specs.Marks.{bare, byte_of, before as byte_before, marked, value, begins_pattern, has_pattern, pattern_of}
use Rattle.sh_expand.specs.Parameters.{as_fields, behind_fields}
use Rattle.sh_expand.specs.Separators.{ifs_of}
use Rattle.sh_expand.specs.Splitting.{split, split_behind, onto, at_mark, act_at, after, class_of, spliced}
use Rattle.sh_expand.specs.Values.{WordGives, no_more, one_more, told_at_once}
use Rattle.sh_expand.specs.Fields.{AreFields, no_word, next_word, AreNames, no_field, next_field}
use Rattle.sh_expand.specs.Laws.{bytes_of_fields, IsPartOf, nothing, kept, left_out}
use Rattle.sh_expand.proofs.SplitLemmas.{spliced-end}
use Rattle.sh_expand.proofs.FieldLemmas.{same_bytes, same_pattern}

-- quoted bytes stay in their field
quoted_run : (ifs : List ℕ) (bytes : List ℕ) (more : List Marked) → split_behind ifs before.Field (marked manner.Quoted bytes ++ more) ≡ spliced (marked manner.Quoted bytes) (split_behind ifs before.Field more)
quoted_run ifs [] more = refl
quoted_run ifs (byte ∷ bytes) more = ap (onto (Quoted byte)) (quoted_run ifs bytes more)

value_run : (ifs : List ℕ) (text : List ℕ) (more : List Marked) → split_behind ifs before.Start (value true text ++ more) ≡ spliced (value true text) (split_behind ifs before.Field more)
value_run ifs [] more = refl
value_run ifs (byte ∷ bytes) more = ap (onto (Quoted byte)) (quoted_run ifs bytes more)

others_are_fields : (ifs : List ℕ) (arguments : List (List ℕ)) → split_behind ifs before.Field (behind_fields true arguments) ≡ [] ∷ map (value true) arguments
others_are_fields ifs [] = refl
others_are_fields ifs (text ∷ rest) =
    ap (λ (fields : List (List Marked)). [] ∷ fields)
    (value_run ifs text (behind_fields true rest) ∙ ap (spliced (value true text)) (others_are_fields ifs rest) ∙ spliced-end (value true text) (map (value true) rest))

are_fields : (ifs : List ℕ) (arguments : List (List ℕ)) → split ifs (as_fields true arguments) ≡ map (value true) arguments
are_fields ifs [] = refl
are_fields ifs (text ∷ rest) = value_run ifs text (behind_fields true rest) ∙ ap (spliced (value true text)) (others_are_fields ifs rest) ∙ spliced-end (value true text) (map (value true) rest)

bare_quoted : (bytes : List ℕ) → bare (marked manner.Quoted bytes) ≡ bytes
bare_quoted [] = refl
bare_quoted (byte ∷ bytes) = ap (λ (all : List ℕ). byte ∷ all) (bare_quoted bytes)

bare_value : (text : List ℕ) → bare (value true text) ≡ text
bare_value [] = refl
bare_value (byte ∷ bytes) = ap (λ (all : List ℕ). byte ∷ all) (bare_quoted bytes)

bare_values : (arguments : List (List ℕ)) → map bare (map (value true) arguments) ≡ arguments
bare_values [] = refl
bare_values (text ∷ rest) = ap (λ (first : List ℕ). first ∷ map bare (map (value true) rest)) (bare_value text) ∙ ap (λ (others : List (List ℕ)). text ∷ others) (bare_values rest)

pub arguments_stay : (ifs : List ℕ) (arguments : List (List ℕ)) → map bare (split ifs (as_fields true arguments)) ≡ arguments
arguments_stay ifs arguments = ap (map bare) (are_fields ifs arguments) ∙ bare_values arguments

-- a byte before bytes
before_joined : (byte : Option ℕ) (front rest : List ℕ) → byte_before byte front ++ rest ≡ byte_before byte (front ++ rest)
before_joined None front rest = refl
before_joined (Some byte) front rest = refl

bytes-onto : (mark : Marked) (fields : List (List Marked)) → bytes_of_fields (onto mark fields) ≡ byte_before (byte_of mark) (bytes_of_fields fields)
bytes-onto mark [] = append-nil (byte_before (byte_of mark) [])
bytes-onto mark (field ∷ fields) = before_joined (byte_of mark) (bare field) (bytes_of_fields fields)

put_before : (byte : Option ℕ) (some whole : List ℕ) → IsPartOf some whole → IsPartOf (byte_before byte some) (byte_before byte whole)
put_before None some whole among = among
put_before (Some byte) some whole among = kept among

skipped : (byte : Option ℕ) (some whole : List ℕ) → IsPartOf some whole → IsPartOf some (byte_before byte whole)
skipped None some whole among = among
skipped (Some byte) some whole among = left_out among

at_one_mark : (done : Act) (mark : Marked) (fields : List (List Marked)) (rest : List Marked) → IsPartOf (bytes_of_fields fields) (bare rest) → IsPartOf (bytes_of_fields (at_mark done mark fields)) (byte_before (byte_of mark) (bare rest))
at_one_mark act.Keep mark fields rest among = rw (bytes-onto mark fields) (put_before (byte_of mark) (bytes_of_fields fields) (bare rest) among)
at_one_mark act.Skip mark fields rest among = skipped (byte_of mark) (bytes_of_fields fields) (bare rest) among
at_one_mark act.End mark fields rest among = skipped (byte_of mark) (bytes_of_fields fields) (bare rest) among

pub invents_nothing_behind : (ifs : List ℕ) (stands : Before) (marks : List Marked) → IsPartOf (bytes_of_fields (split_behind ifs stands marks)) (bare marks)
invents_nothing_behind ifs before.Start [] = nothing
invents_nothing_behind ifs before.Field [] = nothing
invents_nothing_behind ifs before.White [] = nothing
invents_nothing_behind ifs stands (mark ∷ rest) = at_one_mark (act_at (class_of ifs mark) stands) mark (split_behind ifs (after (class_of ifs mark) stands) rest) rest (invents_nothing_behind ifs (after (class_of ifs mark) stands) rest)

-- written bytes are one field
written_run : (ifs : List ℕ) (bytes : List ℕ) → split_behind ifs before.Field (marked manner.Written bytes) ≡ marked manner.Written bytes ∷ []
written_run ifs [] = refl
written_run ifs (byte ∷ bytes) = ap (onto (Written byte)) (written_run ifs bytes)

written_field : (ifs : List ℕ) (first : ℕ) (rest : List ℕ) → split ifs (marked manner.Written (first ∷ rest)) ≡ marked manner.Written (first ∷ rest) ∷ []
written_field ifs first rest = ap (onto (Written first)) (written_run ifs rest)

bare_written : (bytes : List ℕ) → bare (marked manner.Written bytes) ≡ bytes
bare_written [] = refl
bare_written (byte ∷ bytes) = ap (λ (all : List ℕ). byte ∷ all) (bare_written bytes)

pattern_written : (bytes : List ℕ) → has_pattern (marked manner.Written bytes) ≡ list_any begins_pattern bytes
pattern_written [] = refl
pattern_written (byte ∷ bytes) = ap (λ (b : Bool). begins_pattern byte || b) (pattern_written bytes)

one_name : (files : Files) (home : Components) (bytes : List ℕ) → list_any begins_pattern bytes ≡ false → AreNames files home (marked manner.Written bytes ∷ []) (bytes ∷ [])
one_name files home bytes free =
    let field = marked manner.Written bytes in
    let one : Expands files home (pattern_of field) (bare field ∷ []) = rw (← same_bytes field) (unlooked (same_pattern field ∙ pattern_written bytes ∙ free)) in
    let named : AreNames files home (field ∷ []) (bare field ∷ []) = next_field one no_field in
    subst (λ (text : List ℕ). AreNames files home (marked manner.Written bytes ∷ []) (text ∷ [])) (bare_written bytes) named

pub plain_word : (files : Files) (home : Components) (given : Given) (variables : Variables) (first : ℕ) (rest : List ℕ) → list_any begins_pattern (first ∷ rest) ≡ false
    → AreFields files home given variables (part (plain (first ∷ rest)) no_part ∷ []) ((first ∷ rest) ∷ []) variables
plain_word files home given variables first rest free =
    let gives : WordGives given setting.Outer variables (part (plain (first ∷ rest)) no_part) (Ok (marked manner.Written (first ∷ rest) ++ []), variables) = one_more (told_at_once refl) no_more in
    let has : WordGives given setting.Outer variables (part (plain (first ∷ rest)) no_part) (Ok (marked manner.Written (first ∷ rest)), variables) =
    subst (λ (marks : List Marked). WordGives given setting.Outer variables (part (plain (first ∷ rest)) no_part) (Ok marks, variables)) (append-nil (marked manner.Written (first ∷ rest))) gives in
    let names : AreNames files home (split (ifs_of variables) (marked manner.Written (first ∷ rest))) ((first ∷ rest) ∷ []) =
    subst (λ (fields : List (List Marked)). AreNames files home fields ((first ∷ rest) ∷ [])) (sym (written_field (ifs_of variables) first rest)) (one_name files home (first ∷ rest) free) in
    next_word has names no_word
