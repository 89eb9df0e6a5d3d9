-- Lists of trees with more behind them.
use Rattle.sh_parse.specs.Grammar.{script_of}
use Rattle.std.proofs.Common.{Some, None, ◌≡◌, ◌+◌, List, [], ◌∷◌, ◌++◌, refl, ap, length, map, arith, ◌∙◌}
use Rattle.std.proofs.lemmas.List.{map-append}
use Rattle.sh_tree.specs.Trees.{ListTree, no_item, item, AndOrTree, JoinedTrees, joined, PipelineTree, CommandTree, CommandTrees, command, BranchTrees, branch, SubTrees, no_sub, sub}
use Rattle.sh_tree.specs.Views.{commands_onto, joined_onto, branches_onto, items_onto, subs_onto}
use Rattle.sh_tree.specs.declared.commands.Join.{Join}
use Rattle.sh_tree.specs.Numbering.{sub_count}
use Rattle.sh_parse.specs.Pieces.{subs_then}
use Rattle.sh_parse.specs.Inner.Building.{list_then}

-- lists with more behind them
pub list_then-none : (list : ListTree) → list_then list no_item ≡ list
list_then-none no_item = refl
list_then-none (item first rest) = ap (item first) (list_then-none rest)

pub list_then-assoc : (one two three : ListTree) → list_then (list_then one two) three ≡ list_then one (list_then two three)
list_then-assoc no_item two three = refl
list_then-assoc (item first rest) two three = ap (item first) (list_then-assoc rest two three)

pub subs_then-assoc : (one two three : SubTrees) → subs_then (subs_then one two) three ≡ subs_then one (subs_then two three)
subs_then-assoc no_sub two three = refl
subs_then-assoc (sub first rest) two three = ap (sub first) (subs_then-assoc rest two three)

pub subs_then-none : (subs : SubTrees) → subs_then subs no_sub ≡ subs
subs_then-none no_sub = refl
subs_then-none (sub first rest) = ap (sub first) (subs_then-none rest)

pub joined_onto-last : (front : List (Join × PipelineTree)) (sign : Join) (last : PipelineTree) (more : JoinedTrees)
    → joined_onto (front ++ (sign, last) ∷ []) more ≡ joined_onto front (joined sign last more)
joined_onto-last [] sign last more = refl
joined_onto-last (first ∷ rest) sign last more = ap (joined first.0 first.1) (joined_onto-last rest sign last more)

pub commands_onto-last : (front : List CommandTree) (last : CommandTree) (more : CommandTrees)
    → commands_onto (front ++ last ∷ []) more ≡ commands_onto front (command last more)
commands_onto-last [] last more = refl
commands_onto-last (first ∷ rest) last more = ap (command first) (commands_onto-last rest last more)

pub branches_onto-last : (front : List (ListTree × ListTree)) (condition list : ListTree) (more : BranchTrees)
    → branches_onto (front ++ (condition, list) ∷ []) more ≡ branches_onto front (branch condition list more)
branches_onto-last [] condition list more = refl
branches_onto-last (first ∷ rest) condition list more = ap (branch first.0 first.1) (branches_onto-last rest condition list more)

pub items_onto-last : (front : List AndOrTree) (last : AndOrTree)
    → items_onto (front ++ last ∷ []) no_item ≡ list_then (items_onto front no_item) (item last no_item)
items_onto-last [] last = refl
items_onto-last (first ∷ rest) last = ap (item first) (items_onto-last rest last)

pub subs_onto-last : (front : List ListTree) (last : ListTree)
    → subs_onto (front ++ last ∷ []) no_sub ≡ subs_then (subs_onto front no_sub) (sub last no_sub)
subs_onto-last [] last = refl
subs_onto-last (first ∷ rest) last = ap (sub first) (subs_onto-last rest last)

-- substitutions are counted by their lists
pub sub_count-onto : {A : Type 0} (tree : A → ListTree) (lists : List A) → sub_count (subs_onto (map tree lists) no_sub) ≡ length lists
sub_count-onto tree [] = refl
sub_count-onto tree (first ∷ rest) = ap (λ n. n + 1) (sub_count-onto tree rest) ∙ omega arith

pub ruleset listings = (list_then-none)

pub ruleset counted = (sub_count-onto)

-- a vector with one more
pub items_pushed : {A : Type 0} (tree : A → AndOrTree) (old new : List A) (last : A) (it : AndOrTree)
    → new ≡ old ++ last ∷ [] → tree last ≡ it
    → items_onto (map tree new) no_item ≡ list_then (items_onto (map tree old) no_item) (item it no_item)
items_pushed tree old new last it e same =
    ap (λ x. items_onto (map tree x) no_item) e ∙ ap (λ x. items_onto x no_item) (map-append tree old (last ∷ []))
    ∙ ap (λ x. items_onto (map tree old ++ x ∷ []) no_item) same ∙ items_onto-last (map tree old) it

pub subs_pushed : {A : Type 0} (tree : A → ListTree) (old new : List A) (last : A) → new ≡ old ++ last ∷ []
    → subs_onto (map tree new) no_sub ≡ subs_then (subs_onto (map tree old) no_sub) (sub (tree last) no_sub)
subs_pushed tree old new last e =
    ap (λ x. subs_onto (map tree x) no_sub) e ∙ ap (λ x. subs_onto x no_sub) (map-append tree old (last ∷ []))
    ∙ subs_onto-last (map tree old) (tree last)

-- a list has a body where it has items
pub no_body : {A : Type 0} (tree : A → AndOrTree) (items : List A) → length items ≡ 0 → None ≡ script_of (items_onto (map tree items) no_item)
no_body tree [] e = refl
no_body tree (first ∷ rest) e = absurd (omega (arith, e))

pub some_body : {A : Type 0} (tree : A → AndOrTree) (items : List A) → (length items ≡ 0 → ⊥)
    → Some (items_onto (map tree items) no_item) ≡ script_of (items_onto (map tree items) no_item)
some_body tree [] e = absurd (e refl)
some_body tree (first ∷ rest) e = refl

pub ruleset bodies = (no_body, some_body)
