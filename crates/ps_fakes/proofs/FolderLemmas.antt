-- The directories above paths, as they are appended one by one.
use Rattle.std.proofs.Common.{◌≡◌, ℕ, ◌+◌, ◌-◌, ◌≤◌, List, [], ◌∷◌, ◌++◌, length, map, take, sym, ap, ◌∙◌, arith, append_assoc}
use Rattle.std.proofs.lemmas.List.{map-append, length-take, take-take}
use Rattle.std.proofs.lemmas.List.FromFn.{map-range_with_len_more}
use Rattle.ps_world.specs.Paths.{Components, parent_of}
use Rattle.ps_fakes.specs.declared.stored.Stored.{Stored}
use Rattle.ps_fakes.specs.Trees.{Placed, climb, folder, placed_of}

-- one step up
pub parent_climbed : (path : Components) (steps : ℕ) → parent_of (take (length path - steps) path) ≡ take (length path - (steps + 1)) path
parent_climbed path steps =
    let size : length (take (length path - steps) path) - 1 ≡ length path - (steps + 1) = omega (arith, length-take (length path - steps) path) in
    let within : length path - (steps + 1) ≤ length path - steps = omega arith in
    ap (λ count. take count (take (length path - steps) path)) size ∙ take-take (length path - (steps + 1)) (length path - steps) path within

-- one directory more
pub climbed_more : (path : Components) (steps : ℕ) (old before new : List Placed) (dir : Components) → dir ≡ take (length path - (steps + 1)) path →
    before ≡ old ++ map folder (climb path steps) → new ≡ before ++ folder dir ∷ [] → new ≡ old ++ map folder (climb path (steps + 1))
climbed_more path steps old before new dir up held pushed =
    let count : 1 + steps ≡ steps + 1 = omega arith in
    let more : climb path (steps + 1) ≡ climb path steps ++ take (length path - (steps + 1)) path ∷ [] = map-range_with_len_more _ 1 steps (steps + 1) count in
    let named : climb path (steps + 1) ≡ climb path steps ++ dir ∷ [] = more ∙ ap (λ last. climb path steps ++ last ∷ []) (sym up) in
    let mapped : map folder (climb path (steps + 1)) ≡ map folder (climb path steps) ++ folder dir ∷ [] = ap (map folder) named ∙ map-append folder (climb path steps) (dir ∷ []) in
    pushed ∙ ap (λ front. front ++ folder dir ∷ []) held ∙ append_assoc old (map folder (climb path steps)) (folder dir ∷ []) ∙ ap (λ back. old ++ back) (sym mapped)

-- a directory is pushed
pub pushed_folder : (old new : List Stored) (pushed : Stored) (dir : Components) → placed_of pushed ≡ folder dir → new ≡ old ++ pushed ∷ [] →
    map placed_of new ≡ map placed_of old ++ folder dir ∷ []
pushed_folder old new pushed dir is grew =
    ap (map placed_of) grew ∙ map-append placed_of old (pushed ∷ []) ∙ ap (λ last. map placed_of old ++ last ∷ []) is
