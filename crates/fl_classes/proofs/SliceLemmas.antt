-- What tr and cut make of texts that are joined, and of closed ones.
use Rattle.std.proofs.Common.{◌≡◌, ◌==◌, ℕ, ◌<◌, zero, suc, List, [], ◌∷◌, ◌++◌, Bool, true, false, not, Option, None, Some, map, if◌then◌else◌, refl, ap, sym, ◌∙◌, length, arith}
use Rattle.std.specs.List.{filter, flat_map, join_with_byte}
use Rattle.std.proofs.lemmas.Bool.{eqb-true}
use Rattle.std.proofs.lemmas.Grind.{flat_map-append}
use Rattle.std.proofs.lemmas.List.{map-append}
use Rattle.std.proofs.lemmas.List.Elements.{filter-append}
use Rattle.ps_lines.specs.Lines.{is_closed, is_cutlist, lines}
use Rattle.ps_lines.proofs.ClosedLemmas.{closed-append}
use Rattle.ps_lines.proofs.LineLemmas.{is_closed-push, lines_of_cut}
use Rattle.ut_args.specs.Strings.{is_kept, keeps_newline}
use Rattle.ut_args.specs.declared.commands.CutArgs.{CutArgs}
use Rattle.ut_args.specs.declared.commands.Parts.{Parts}
use Rattle.ut_args.specs.declared.commands.Parts.TheVariants as parts
use Rattle.ut_args.specs.declared.commands.TrArgs.{TrArgs}
use Rattle.ut_bytes.specs.Steps.{deleted, squeezed_behind, translated}
use Rattle.ut_bytes.specs.Tr.{edited, image_of, last_string, squeezed, tr_output, translated_to}
use Rattle.ut_bytes.proofs.SqueezeLemmas.{squeezed-closed, squeezed-parts}
use Rattle.ut_options.specs.Rows.{is_among}
use Rattle.ut_slices.specs.Cut.{cut_line, cut_output, fields, has_delimiter, is_selected, selected, whole_or_none}

-- tr: what is done to each byte goes on over a cut
translated-append : (from : List ℕ) (to : Option (List ℕ)) (front back : List ℕ) → translated_to from to (front ++ back) ≡ translated_to from to front ++ translated_to from to back
translated-append from None front back = refl
translated-append from (Some to) front back = map-append (image_of from to) front back

edited-by : (deletes : Bool) (from : List ℕ) (to : Option (List ℕ)) (front back : List ℕ)
    → (if deletes then deleted (is_among from) (front ++ back) else translated_to from to (front ++ back))
    ≡ (if deletes then deleted (is_among from) front else translated_to from to front) ++ (if deletes then deleted (is_among from) back else translated_to from to back)
edited-by true from to front back = filter-append (λ byte. not (is_among from byte)) front back
edited-by false from to front back = translated-append from to front back

-- and what is squeezed is squeezed once more where its parts meet
squeezed-by : (squeezes : Bool) (set : ℕ → Bool) (front back : List ℕ)
    → (if squeezes then squeezed_behind None set (front ++ back) else front ++ back)
    ≡ (if squeezes then squeezed_behind None set ((if squeezes then squeezed_behind None set front else front) ++ (if squeezes then squeezed_behind None set back else back))
    else (if squeezes then squeezed_behind None set front else front) ++ (if squeezes then squeezed_behind None set back else back))
squeezed-by true set front back = squeezed-parts set front back
squeezed-by false set front back = refl

pub tr-parts : (args : TrArgs) (front back : List ℕ) → tr_output args (front ++ back) ≡ squeezed args (tr_output args front ++ tr_output args back)
tr-parts args front back =
    ap (squeezed args) (edited-by args.deletes args.from args.to front back)
    ∙ squeezed-by args.squeezes (is_among (last_string args.from args.to)) (edited args front) (edited args back)

pub tr-joins : (args : TrArgs) → args.squeezes ≡ false → (front back : List ℕ) → tr_output args (front ++ back) ≡ tr_output args front ++ tr_output args back
tr-joins args plain front back = tr-parts args front back ∙ rw plain refl

-- a closed text is empty or ends in a newline
pub record EndsInNewline (text : List ℕ) : Type 0 where
  pub front : List ℕ
  pub whole : text ≡ front ++ 10 ∷ []

ends-in : (byte : ℕ) (rest : List ℕ) → is_closed (byte ∷ rest) ≡ true → EndsInNewline (byte ∷ rest)
ends-in byte [] closed = record { front = []; whole = ap (λ byte. byte ∷ []) (eqb-true byte 10 closed) }
ends-in byte (next ∷ rest) closed =
    let others = ends-in next rest closed in
    record { front = byte ∷ others.front; whole = ap (λ rest. byte ∷ rest) others.whole }

closed-by : (made : List ℕ → List ℕ) → made [] ≡ [] → ((front back : List ℕ) → made (front ++ back) ≡ made front ++ made back) → made (10 ∷ []) ≡ 10 ∷ []
    → (text : List ℕ) → is_closed text ≡ true → is_closed (made text) ≡ true
closed-by made none joins newline [] closed = ap is_closed none
closed-by made none joins newline (byte ∷ rest) closed =
    let ends = ends-in byte rest closed in
    ap (λ text. is_closed (made text)) ends.whole ∙ ap is_closed (joins ends.front (10 ∷ []) ∙ ap (λ last. made ends.front ++ last) newline) ∙ is_closed-push (made ends.front) 10

newline-by : (deletes : Bool) (from : List ℕ) (to : Option (List ℕ)) → (if deletes then not (is_among from 10) else is_kept from to) ≡ true
    → (if deletes then deleted (is_among from) (10 ∷ []) else translated_to from to (10 ∷ [])) ≡ 10 ∷ []
newline-by true from to keeps = ap (λ keeps. if keeps then 10 ∷ [] else []) keeps
newline-by false from None keeps = refl
newline-by false from (Some to) keeps = ap (λ byte. byte ∷ []) (eqb-true (image_of from to 10) 10 keeps)

none-by : (deletes : Bool) (from : List ℕ) (to : Option (List ℕ)) → (if deletes then deleted (is_among from) [] else translated_to from to []) ≡ []
none-by true from to = refl
none-by false from None = refl
none-by false from (Some to) = refl

squeezed-none : (squeezes : Bool) (set : ℕ → Bool) → (if squeezes then squeezed_behind None set [] else []) ≡ []
squeezed-none true set = refl
squeezed-none false set = refl

pub tr-none : (args : TrArgs) → tr_output args [] ≡ []
tr-none args =
    ap (squeezed args) (none-by args.deletes args.from args.to) ∙ squeezed-none args.squeezes (is_among (last_string args.from args.to))

edited-closed : (args : TrArgs) → keeps_newline args ≡ true → (text : List ℕ) → is_closed text ≡ true → is_closed (edited args text) ≡ true
edited-closed args keeps =
    closed-by (edited args) (none-by args.deletes args.from args.to) (edited-by args.deletes args.from args.to) (newline-by args.deletes args.from args.to keeps)

closed-squeezed : (squeezes : Bool) (set : ℕ → Bool) (text : List ℕ) → is_closed text ≡ true → is_closed (if squeezes then squeezed_behind None set text else text) ≡ true
closed-squeezed true set text closed = squeezed-closed set text ∙ closed
closed-squeezed false set text closed = closed

pub tr-closed : (args : TrArgs) → keeps_newline args ≡ true → (text : List ℕ) → is_closed text ≡ true → is_closed (tr_output args text) ≡ true
tr-closed args keeps text closed =
    closed-squeezed args.squeezes (is_among (last_string args.from args.to)) (edited args text) (edited-closed args keeps text closed)

-- cut: each line is cut by itself
pub cut-joins : (args : CutArgs) (front back : List ℕ) → is_cutlist (front ∷ back ∷ []) ≡ true → cut_output args (front ++ back) ≡ cut_output args front ++ cut_output args back
cut-joins args front back cut =
    ap (flat_map (cut_line args.parts (is_selected args.ranges))) (lines_of_cut front back cut)
    ∙ flat_map-append (cut_line args.parts (is_selected args.ranges)) (lines front) (lines back)

whole-closed : (only_delimited : Bool) (line : List ℕ) → is_closed (whole_or_none only_delimited line) ≡ true
whole-closed true line = refl
whole-closed false line = is_closed-push line 10

fields-closed : (has only_delimited : Bool) (cut line : List ℕ) → is_closed (if has then cut ++ 10 ∷ [] else whole_or_none only_delimited line) ≡ true
fields-closed true only_delimited cut line = is_closed-push cut 10
fields-closed false only_delimited cut line = whole-closed only_delimited line

line-closed : (of : Parts) (selects : ℕ → Bool) (line : List ℕ) → is_closed (cut_line of selects line) ≡ true
line-closed parts.Bytes selects line = is_closed-push (selected selects 0 line) 10
line-closed (parts.Fields delimiter only_delimited) selects line =
    fields-closed (has_delimiter delimiter line) only_delimited (join_with_byte delimiter (selected selects 0 (fields delimiter line))) line

lines-closed : (of : Parts) (selects : ℕ → Bool) (texts : List (List ℕ)) → is_closed (flat_map (cut_line of selects) texts) ≡ true
lines-closed of selects [] = refl
lines-closed of selects (line ∷ texts) =
    closed-append (cut_line of selects line) (flat_map (cut_line of selects) texts) (line-closed of selects line) (lines-closed of selects texts)

pub cut-closed : (args : CutArgs) (text : List ℕ) → is_closed (cut_output args text) ≡ true
cut-closed args text = lines-closed args.parts (is_selected args.ranges) (lines text)
