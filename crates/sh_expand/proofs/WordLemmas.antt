-- Steps by which a word has the marks of its parts.
use Rattle.std.proofs.Common.{◌≡◌, ◌⊎◌, inl, inr, ◌<◌, ◌+◌, ◌++◌, ◌∷◌, ℕ, List, Option, Result, Ok, Err, OnOk, IfErr, length, get_or, drop, sym, ap, ◌∙◌, subst, add-one}
use Rattle.std.proofs.lemmas.List.{append_assoc}
use Rattle.std.proofs.Math.Seq.{drop-cons}
use Rattle.sh_arith.specs.Variables.{Variables}
use Rattle.sh_tree.specs.Trees.{part, PartTree}
use Rattle.sh_tree.specs.declared.words.Part.{Part}
use Rattle.sh_expand.specs.declared.faults.ValueFault.{ValueFault}
use Rattle.sh_expand.specs.declared.faults.ValueFault.TheVariants.{Memory}
use Rattle.sh_expand.specs.declared.marks.Marked.{Marked}
use Rattle.sh_expand.specs.declared.parameters.Setting.{Setting}
use Rattle.sh_expand.specs.Given.{Given}
use Rattle.sh_expand.specs.Values.{at_once, needs, begun, Adds, Ends, word_in, text_in, WordGives, PartGives, told_at_once, by_its_word, no_memory, none_after_its_word}
use Rattle.sh_tree.specs.Views.{part_tree, parts_tree}

-- a part that is done
pub done : (given : Given) (used : Setting) (before : Variables) (it : PartTree) (old new : List Marked) → Adds (λ (marks : List Marked). begun given used before it ≡ at_once (Ok marks)) old new
    → Adds (λ (marks : List Marked). PartGives given used before it (Ok marks, before)) old new
done given used before it old new had = record { marks = had.marks; grew = had.grew; gives = told_at_once had.gives }

pub stopped : (given : Given) (used : Setting) (before : Variables) (it : PartTree) (fault : ValueFault) → (begun given used before it ≡ at_once (Err fault)) ⊎ (fault ≡ Memory) → PartGives given used before it (Err fault, before)
stopped given used before it fault (inl once) = told_at_once once
stopped given used before it fault (inr memory) = no_memory memory

-- a part that ends by its word
pub ended_marks : (given : Given) (used within : Setting) (before between after : Variables) (it : PartTree) (text : Option (List ℕ)) (marks old new : List Marked) (result : Result Unit ValueFault)
    → begun given used before it ≡ needs within (word_in it) → text ≡ text_in given before it → WordGives given within before (word_in it) (Ok marks, between)
    → OnOk result (Adds (λ (added : List Marked). Ends text marks between it (Ok added, after)) old new) → OnOk result (Adds (λ (added : List Marked). PartGives given used before it (Ok added, after)) old new)
ended_marks given used within before between after it text marks old new (Ok done) begins same word ends =
    record { marks = ends.marks; grew = ends.grew; gives = by_its_word begins word (subst (λ (t : Option (List ℕ)). Ends t marks between it (Ok ends.marks, after)) same ends.gives) }
ended_marks given used within before between after it text marks old new (Err fault) begins same word ends = tt

faulted : (given : Given) (used within : Setting) (before between after : Variables) (it : PartTree) (text : Option (List ℕ)) (marks : List Marked) (fault : ValueFault)
    → begun given used before it ≡ needs within (word_in it) → text ≡ text_in given before it → WordGives given within before (word_in it) (Ok marks, between)
    → Ends text marks between it (Err fault, after) ⊎ ((fault ≡ Memory) × (after ≡ between)) → PartGives given used before it (Err fault, after)
faulted given used within before between after it text marks fault begins same word (inl ends) = by_its_word begins word (subst (λ (t : Option (List ℕ)). Ends t marks between it (Err fault, after)) same ends)
faulted given used within before between after it text marks fault begins same word (inr memory) =
    subst (λ (v : Variables). PartGives given used before it (Err fault, v)) (sym memory.1) (none_after_its_word memory.0 begins word)

pub ended_fault : (given : Given) (used within : Setting) (before between after : Variables) (it : PartTree) (text : Option (List ℕ)) (marks : List Marked) (result : Result Unit ValueFault)
    → begun given used before it ≡ needs within (word_in it) → text ≡ text_in given before it → WordGives given within before (word_in it) (Ok marks, between)
    → IfErr result (λ fault. Ends text marks between it (Err fault, after) ⊎ ((fault ≡ Memory) × (after ≡ between))) → IfErr result (λ fault. PartGives given used before it (Err fault, after))
ended_fault given used within before between after it text marks (Ok done) begins same word ends = tt
ended_fault given used within before between after it text marks (Err fault) begins same word ends = faulted given used within before between after it text marks fault begins same word ends

-- the parts from a place on
pub parts_step : (parts : List Part) (place : ℕ) (one : Part) → one ≡ get_or parts place one → place < length parts
    → parts_tree (drop place parts) ≡ part (part_tree one) (parts_tree (drop (place + 1) parts))
parts_step parts place one here below =
    let cut : drop place parts ≡ get_or parts place one ∷ drop (place + 1) parts = rw add-one (drop-cons parts place one below) in
    ap parts_tree cut ∙ ap (λ (p : Part). part (part_tree p) (parts_tree (drop (place + 1) parts))) (sym here)

-- marks before those that are added
pub behind : (Gives : List Marked → Type 0) (start old new marks others : List Marked) → new ≡ old ++ marks → Adds Gives start (old ++ (marks ++ others)) → Adds Gives start (new ++ others)
behind Gives start old new marks others grew added =
    let same : old ++ (marks ++ others) ≡ new ++ others = sym (append_assoc old marks others) ∙ ap (λ (all : List Marked). all ++ others) (sym grew) in
    subst (λ (all : List Marked). Adds Gives start all) same added
