-- Runs of a line that are put, one after another.
use Rattle.std.proofs.Common.{◌≡◌, ◌≤◌, ◌||◌, ℕ, List, [], ◌∷◌, ◌++◌, length, take, drop, Bool, ap, sym, ◌∙◌, append-nil, arith, if◌then◌else◌}
use Rattle.ut_streams.specs.Streams.{Put}
use Rattle.ut_slices.specs.declared.selections.Run.{Run}
use Rattle.ut_slices.specs.Cut.{fields, selected}
use Rattle.ut_slices.specs.Inner.Begun.{behind_fields, joined_behind}
use Rattle.ut_slices.specs.Inner.Runs.{CutsAtDelimiter, in_runs}
use Rattle.ut_slices.proofs.FieldLemmas.{joined-last, joined-run, run-cut, run-last}
use Rattle.ut_slices.proofs.PutLemmas.{PutSoFar, Put-rest}
use Rattle.ut_slices.proofs.RunLemmas.{selected-rest, selected-run}

-- bytes
pub bytes-run : (run : Run) (left others : List Run) (rest : Bool) (text front behind : List ℕ) → left ≡ run ∷ others
    → front ≡ take run.count text → behind ≡ drop run.count text
    → selected (in_runs left rest) 0 text ≡ (if run.selected then front else []) ++ selected (in_runs others rest) 0 behind
bytes-run run left others rest text front behind is fore back =
    ap (λ runs. selected (in_runs runs rest) 0 text) is ∙ selected-run run others rest text
    ∙ ap (λ front. (if run.selected then front else []) ++ selected (in_runs others rest) 0 (drop run.count text)) (sym fore)
    ∙ ap (λ behind. (if run.selected then front else []) ++ selected (in_runs others rest) 0 behind) (sym back)

pub bytes-rest : (left : List Run) (rest : Bool) (text : List ℕ) → length left ≡ 0 → selected (in_runs left rest) 0 text ≡ (if rest then text else [])
bytes-rest [] rest text none = selected-rest rest text
bytes-rest (run ∷ others) rest text none = absurd (omega (arith, none))

-- fields
pub fields-run : (begun : Bool) (delimiter : ℕ) (run : Run) (left others : List Run) (rest : Bool) (text front behind : List ℕ) → left ≡ run ∷ others
    → CutsAtDelimiter delimiter run.count text front behind
    → joined_behind begun delimiter (selected (in_runs left rest) 0 (fields delimiter text))
    ≡ (if run.selected then behind_fields begun delimiter front else [])
    ++ joined_behind (begun || run.selected) delimiter (selected (in_runs others rest) 0 (fields delimiter behind))
fields-run begun delimiter run left others rest text front behind is cut =
    ap (λ runs. joined_behind begun delimiter (selected (in_runs runs rest) 0 (fields delimiter text))) is
    ∙ ap (joined_behind begun delimiter) (run-cut delimiter run others rest text front behind cut)
    ∙ joined-run run.selected begun delimiter front (selected (in_runs others rest) 0 (fields delimiter behind))

pub fields-few : (begun : Bool) (delimiter : ℕ) (run : Run) (left others : List Run) (rest : Bool) (text : List ℕ) → left ≡ run ∷ others
    → length (fields delimiter text) ≤ run.count
    → joined_behind begun delimiter (selected (in_runs left rest) 0 (fields delimiter text)) ≡ (if run.selected then behind_fields begun delimiter text else [])
fields-few begun delimiter run left others rest text is few =
    ap (λ runs. joined_behind begun delimiter (selected (in_runs runs rest) 0 (fields delimiter text))) is
    ∙ ap (joined_behind begun delimiter) (run-last delimiter run others rest text few) ∙ joined-last run.selected begun delimiter text

pub fields-rest : (begun : Bool) (delimiter : ℕ) (left : List Run) (rest : Bool) (text : List ℕ) → length left ≡ 0
    → joined_behind begun delimiter (selected (in_runs left rest) 0 (fields delimiter text)) ≡ (if rest then behind_fields begun delimiter text else [])
fields-rest begun delimiter [] rest text none =
    ap (joined_behind begun delimiter) (selected-rest rest (fields delimiter text) ∙ sym (append-nil (if rest then fields delimiter text else [])))
    ∙ joined-last rest begun delimiter text
fields-rest begun delimiter (run ∷ others) rest text none = absurd (omega (arith, none))

pub Put-last : (whole left text old now new : List ℕ) (ok : Bool) → PutSoFar whole left old now → left ≡ text → Put text now new ok → Put whole old new ok
Put-last whole left text old now new ok done is put = Put-rest whole left old now new ok done (rw is put)
