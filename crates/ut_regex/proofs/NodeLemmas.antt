-- Nodes in postfix, one after another.
use Rattle.std.proofs.Common.{ℕ, zero, suc, ◌≡◌, ◌+◌, ◌<◌, false, List, [], ◌∷◌, ◌++◌, length, take, drop, get_or, refl, ap, ap₂, sym, ◌∙◌, add-one, arith}
use Rattle.std.proofs.Math.Seq.{take-suc}
use Rattle.ut_regex.specs.declared.tree.Node.{Node}
use Rattle.ut_regex.specs.declared.tree.Node.TheVariants as node
use Rattle.ut_regex.specs.Inner.Program.{Core, point, at_begin, at_end, nothing, both, either, repeated, core, cores}
use Rattle.ut_regex.specs.Tree.{Tree, last_tree, trees_before, with_node, with_nodes}

pub with_nodes-append : (trees : List Tree) (front back : List Node) → with_nodes trees (front ++ back) ≡ with_nodes (with_nodes trees front) back
with_nodes-append trees [] back = refl
with_nodes-append trees (node ∷ front) back = with_nodes-append (with_node trees node) front back

-- one node more
pub with_nodes-take : (nodes : List Node) (place : ℕ) (node : Node) → node ≡ get_or nodes place node → place < length nodes
    → with_nodes [] (take (place + 1) nodes) ≡ with_node (with_nodes [] (take place nodes)) node
with_nodes-take nodes place node is h =
    ap (λ n. with_nodes [] (take n nodes)) (add-one place)
    ∙ ap (λ front. with_nodes [] front) (take-suc nodes place node h)
    ∙ with_nodes-append [] (take place nodes) (get_or nodes place node ∷ [])
    ∙ ap (λ one. with_node (with_nodes [] (take place nodes)) one) (sym is)

pub with_nodes_one : (front : List Node) (node : Node) → with_nodes [] (front ++ node ∷ []) ≡ with_node (with_nodes [] front) node
with_nodes_one front node = with_nodes-append [] front (node ∷ [])

-- the programs that nodes make hang on the programs before them alone
last_core : List Core → Core
last_core [] = nothing
last_core (part ∷ parts) = part

cores_before : List Core → List Core
cores_before [] = []
cores_before (part ∷ parts) = parts

with_core : List Core → Node → List Core
with_core parts (node.Leaf one) = point one false ∷ parts
with_core parts node.Begin = at_begin ∷ parts
with_core parts node.End = at_end ∷ parts
with_core parts node.Empty = nothing ∷ parts
with_core parts node.Group = last_core parts ∷ cores_before parts
with_core parts node.Sequence = both (last_core (cores_before parts)) (last_core parts) ∷ cores_before (cores_before parts)
with_core parts node.Alternative = either (last_core (cores_before parts)) (last_core parts) ∷ cores_before (cores_before parts)
with_core parts (node.Repetition bounds) = repeated bounds.high bounds.low (last_core parts) ∷ cores_before parts

cores-last : (trees : List Tree) → core (last_tree trees) ≡ last_core (cores trees)
unfolding last_core
cores-last [] = refl
cores-last (re ∷ trees) = refl

cores-before : (trees : List Tree) → cores (trees_before trees) ≡ cores_before (cores trees)
unfolding cores_before
cores-before [] = refl
cores-before (re ∷ trees) = refl

cores-two : (join : Core → Core → Core) (trees : List Tree)
    → join (core (last_tree (trees_before trees))) (core (last_tree trees)) ∷ cores (trees_before (trees_before trees))
    ≡ join (last_core (cores_before (cores trees))) (last_core (cores trees)) ∷ cores_before (cores_before (cores trees))
unfolding last_core cores_before
cores-two join [] = refl
cores-two join (re ∷ []) = refl
cores-two join (re ∷ other ∷ trees) = refl

cores-node : (trees : List Tree) (node : Node) → cores (with_node trees node) ≡ with_core (cores trees) node
unfolding with_core
cores-node trees (node.Leaf one) = refl
cores-node trees node.Begin = refl
cores-node trees node.End = refl
cores-node trees node.Empty = refl
cores-node trees node.Group = ap₂ (λ part parts. part ∷ parts) (cores-last trees) (cores-before trees)
cores-node trees node.Sequence = cores-two (λ first second. both first second) trees
cores-node trees node.Alternative = cores-two (λ first second. either first second) trees
cores-node trees (node.Repetition bounds) =
    ap₂ (λ part parts. repeated bounds.high bounds.low part ∷ parts) (cores-last trees) (cores-before trees)

-- nodes behind trees of the same programs make the same programs
pub cores-nodes : (nodes : List Node) (trees others : List Tree) → cores trees ≡ cores others → cores (with_nodes trees nodes) ≡ cores (with_nodes others nodes)
cores-nodes [] trees others same = same
cores-nodes (node ∷ nodes) trees others same =
    cores-nodes nodes (with_node trees node) (with_node others node)
    (cores-node trees node ∙ ap (λ parts. with_core parts node) same ∙ sym (cores-node others node))

pub cores-same : (trees others : List Tree) → cores trees ≡ cores others → core (last_tree trees) ≡ core (last_tree others)
cores-same trees others same = cores-last trees ∙ ap last_core same ∙ sym (cores-last others)

-- trees are dropped before the last
drop-none : (count : ℕ) → drop {A = Tree} count [] ≡ []
drop-none zero = refl
drop-none (suc count) = refl

drop-before : (trees : List Tree) (count : ℕ) → drop count (trees_before trees) ≡ drop (suc count) trees
drop-before [] count = drop-none count
drop-before (re ∷ trees) count = refl

-- a tree that was made of the last one, and one that was made of the last two
pub drop-one : (count : ℕ) (re : Tree) (trees : List Tree) → 0 < count → drop count trees ≡ drop count (re ∷ trees_before trees)
drop-one zero re trees some = absurd (omega (arith, some))
drop-one (suc count) re trees some = sym (drop-before trees count)

pub drop-two : (count : ℕ) (re : Tree) (trees : List Tree) → 0 < count → drop (count + 1) trees ≡ drop count (re ∷ trees_before (trees_before trees))
drop-two zero re trees some = absurd (omega (arith, some))
drop-two (suc count) re trees some =
    ap (λ count. drop count trees) (add-one (suc count)) ∙ sym (drop-before trees (suc count)) ∙ sym (drop-before (trees_before trees) count)
