-- The constructs that are open, the outermost first, and what becomes of them when the innermost has ended.
use Rattle.std.proofs.Common.{◌≡◌, ℕ, List, [], ◌∷◌, ◌++◌, ◌<◌, ◌≤◌, length, refl, sym, subst, arith}
use Rattle.sh_lex.specs.Acts.{goes, enters, ends}
use Rattle.sh_lex.proofs.Shrinking.{Shrinks}
use Rattle.sh_lex.proofs.Shorter.{act-Shrinks}
use Rattle.sh_lex.specs.Reads.{act, Outcome, past, refused, Reads, reads_inner, refused_inside}
use Rattle.sh_lex.specs.declared.parts.Construct.{Construct}
use Rattle.sh_lex.specs.declared.parts.Fault.{Fault}

-- a construct goes on behind one that stood in it
abbrev pub GoesOn : Construct → Outcome → Outcome → Type 0
GoesOn outer (past rest) end = Reads outer rest end
GoesOn outer (refused fault) end = end ≡ refused fault

-- all that are open go on
abbrev pub AllGoOn : List Construct → Outcome → Outcome → Type 0
AllGoOn [] inner end = inner ≡ end
AllGoOn (outer ∷ «open») inner end = (middle : Outcome) × (AllGoOn «open» inner middle × GoesOn outer middle end)

-- the innermost one goes on first
pub AllGoOn-split : («open» : List Construct) (last : Construct) (inner end : Outcome) → AllGoOn («open» ++ last ∷ []) inner end
    → (middle : Outcome) × (GoesOn last inner middle × AllGoOn «open» middle end)
AllGoOn-split [] last inner end (middle, (same, one)) = (end, (subst (λ o. GoesOn last o end) (sym same) one, refl))
AllGoOn-split (outer ∷ «open») last inner end (middle, (all, outside)) =
    let found = AllGoOn-split «open» last inner middle all in (found.0, (found.1.0, (middle, (found.1.1, outside))))

pub AllGoOn-join : («open» : List Construct) (last : Construct) (inner middle end : Outcome) → GoesOn last inner middle
    → AllGoOn «open» middle end → AllGoOn («open» ++ last ∷ []) inner end
AllGoOn-join [] last inner middle end one same = (inner, (refl, subst (λ o. GoesOn last inner o) same one))
AllGoOn-join (outer ∷ «open») last inner middle end one (next, (all, outside)) =
    (next, (AllGoOn-join «open» last inner middle next one all, outside))

-- a refusal passes through all
pub AllGoOn-refused : («open» : List Construct) (fault : Fault) → AllGoOn «open» (refused fault) (refused fault)
AllGoOn-refused [] fault = refl
AllGoOn-refused (outer ∷ «open») fault = (refused fault, (AllGoOn-refused «open» fault, refl))

-- a construct that was entered, and the outer one behind it
pub entered : (construct inner outer : Construct) (text rest : List ℕ) (middle end : Outcome)
    → act construct text ≡ enters inner outer rest → Reads inner rest middle → GoesOn outer middle end
    → Reads construct text end
entered construct inner outer text rest (past after) end e reads outside = reads_inner e reads outside
entered construct inner outer text rest (refused fault) end e reads same =
    subst (λ o. Reads construct text o) (sym same) (refused_inside e reads)

-- where none is open, the construct that has ended is the first one
pub AllGoOn-none : («open» : List Construct) (end : Outcome) → length «open» ≡ 0 → AllGoOn «open» end end
AllGoOn-none [] end h = refl
AllGoOn-none (outer ∷ «open») end h = absurd (omega arith)

-- how much less a step leaves
pub goes-less : (construct next : Construct) (text rest : List ℕ) → goes next rest ≡ act construct text → length rest < length text
goes-less construct next text rest e =
    let less : Shrinks (length text) (goes next rest)
    = subst (λ a. Shrinks (length text) a) (sym e) (act-Shrinks construct text) in less

pub enters-less : (construct inner outer : Construct) (text rest : List ℕ) → enters inner outer rest ≡ act construct text
    → length rest < length text
enters-less construct inner outer text rest e =
    let less : Shrinks (length text) (enters inner outer rest)
    = subst (λ a. Shrinks (length text) a) (sym e) (act-Shrinks construct text) in less

pub ends-less : (construct : Construct) (text rest : List ℕ) → ends rest ≡ act construct text → length rest ≤ length text
ends-less construct text rest e =
    let less : Shrinks (length text) (ends rest)
    = subst (λ a. Shrinks (length text) a) (sym e) (act-Shrinks construct text) in less
