-- Texts joined, each but the last closed, as pieces of the first of them come.
use Rattle.std.proofs.Common.{◌≡◌, ℕ, zero, suc, ◌+◌, ◌-◌, ◌<◌, ◌==◌, List, [], ◌∷◌, ◌++◌, Bool, true, false, not, ◌&&◌, nat_lt, if◌then◌else◌, get_or, map, length, refl, ap, sym, ◌∙◌, append_assoc, append-nil, true≢false, arith}
use Rattle.std.specs.List.{concat, range_with_len}
use Rattle.std.proofs.lemmas.Bool.{ltb-true, ltb-false}
use Rattle.ps_lines.specs.Lines.{is_closed, closing}
use Rattle.ps_lines.specs.declared.newlines.TheConstants.{NEWLINE}
use Rattle.fl_graph.specs.Machines.{comes_first, comes}
use Rattle.fl_graph.specs.declared.pieces.Piece.{Piece}
use Rattle.fl_graph.specs.declared.pieces.Piece.TheVariants as piece
use Rattle.fl_classes.specs.Flow.{joined_lines}
use Rattle.fl_classes.specs.Nodes.{texts_at}
use Rattle.fl_joints.specs.Joints.{closing_rest, joined_lines_from, joined_by}
use Rattle.fl_joints.proofs.JoinLemmas.{comes-there, comes-elsewhere, joined-bytes, joined-end, joined-given, get_or-one}

-- the end of a text decides whether it is closed
is_closed-append : (front : List ℕ) (byte : ℕ) (back : List ℕ) → is_closed (front ++ byte ∷ back) ≡ is_closed (byte ∷ back)
is_closed-append [] byte back = refl
is_closed-append (first ∷ []) byte back = refl
is_closed-append (first ∷ next ∷ front) byte back = is_closed-append (next ∷ front) byte back

closing-behind : (bytes rest : List ℕ) (closed : Bool)
    → (if closed then bytes ++ rest else (bytes ++ rest) ++ NEWLINE ∷ []) ≡ bytes ++ (if closed then rest else rest ++ NEWLINE ∷ [])
closing-behind bytes rest true = refl
closing-behind bytes rest false = append_assoc bytes rest (NEWLINE ∷ [])

-- a text that begins with these bytes is closed behind them
closing_rest-bytes : (within : Bool) (bytes rest : List ℕ) → 0 < length bytes → closing_rest within (bytes ++ rest) ≡ bytes ++ closing_rest (not (is_closed bytes)) rest
closing_rest-bytes within [] rest some = absurd (omega arith)
closing_rest-bytes within (byte ∷ bytes) [] some =
    ap (closing_rest within) (append-nil (byte ∷ bytes)) ∙ by_end (is_closed (byte ∷ bytes))
  where
    by_end : (closed : Bool) → (if closed then byte ∷ bytes else (byte ∷ bytes) ++ NEWLINE ∷ []) ≡ (byte ∷ bytes) ++ (if not closed then NEWLINE ∷ [] else [])
    by_end true = sym (append-nil (byte ∷ bytes))
    by_end false = refl
closing_rest-bytes within (byte ∷ bytes) (next ∷ rest) some =
    ap (λ closed. if closed then (byte ∷ bytes) ++ next ∷ rest else ((byte ∷ bytes) ++ next ∷ rest) ++ NEWLINE ∷ []) (is_closed-append (byte ∷ bytes) next rest)
    ∙ closing-behind (byte ∷ bytes) (next ∷ rest) (is_closed (next ∷ rest))

lines-elsewhere : (within : Bool) (port : ℕ) (last : Piece) (texts : ℕ → List ℕ) (from count : ℕ) → port < from
    → joined_lines_from within (comes port last texts) from count ≡ joined_lines_from within texts from count
lines-elsewhere within port last texts from zero later = refl
lines-elsewhere within port last texts from (suc zero) later = comes-elsewhere port last texts from later
lines-elsewhere within port last texts from (suc (suc count)) later =
    ap (λ text. closing_rest within text ++ joined_lines_from false (comes port last texts) (from + 1) (suc count)) (comes-elsewhere port last texts from later)
    ∙ ap (λ rest. closing_rest within (texts from) ++ rest) (lines-elsewhere false port last texts (from + 1) (suc count) (omega arith))

-- the first text begins with what comes
lines-first : (within : Bool) (port : ℕ) (last : Piece) (texts : ℕ → List ℕ) (count : ℕ)
    → joined_lines_from within (comes port last texts) port (suc (suc count))
    ≡ closing_rest within (comes_first last (texts port)) ++ joined_lines_from false texts (port + 1) (suc count)
lines-first within port last texts count =
    ap (λ text. closing_rest within text ++ joined_lines_from false (comes port last texts) (port + 1) (suc count)) (comes-there port last texts)
    ∙ ap (λ rest. closing_rest within (comes_first last (texts port)) ++ rest) (lines-elsewhere false port last texts (port + 1) (suc count) (omega arith))

lines-bytes : (within : Bool) (port : ℕ) (bytes : List ℕ) (texts : ℕ → List ℕ) (count : ℕ) → 0 < length bytes → 0 < count
    → joined_lines_from within (comes port (piece.Bytes bytes) texts) port count ≡ bytes ++ joined_lines_from (not (is_closed bytes)) texts port count
lines-bytes within port bytes texts zero _ some = absurd (omega arith)
lines-bytes within port bytes texts (suc zero) long some = comes-there port (piece.Bytes bytes) texts
lines-bytes within port bytes texts (suc (suc count)) long some =
    lines-first within port (piece.Bytes bytes) texts count
    ∙ ap (λ text. text ++ joined_lines_from false texts (port + 1) (suc count)) (closing_rest-bytes within bytes (texts port) long)
    ∙ append_assoc bytes (closing_rest (not (is_closed bytes)) (texts port)) (joined_lines_from false texts (port + 1) (suc count))

-- where it ends after whole lines, the others are left
lines-whole : (port : ℕ) (texts : ℕ → List ℕ) (count left : ℕ) → count ≡ left + 1
    → joined_lines_from false (comes port piece.End texts) port count ≡ joined_lines_from false texts (port + 1) left
lines-whole port texts zero left next = absurd (omega arith)
lines-whole port texts (suc zero) zero next = comes-there port piece.End texts
lines-whole port texts (suc zero) (suc left) next = absurd (omega arith)
lines-whole port texts (suc (suc count)) left next =
    let same : suc count ≡ left = omega arith in lines-first false port piece.End texts count ∙ ap (joined_lines_from false texts (port + 1)) same

-- as behind the last
lines-last : (within : Bool) (port : ℕ) (texts : ℕ → List ℕ) (count left : ℕ) → count ≡ 1 → left ≡ 0
    → joined_lines_from within (comes port piece.End texts) port count ≡ joined_lines_from false texts (port + 1) left
lines-last within port texts count left one none =
    ap (joined_lines_from within (comes port piece.End texts) port) one ∙ comes-there port piece.End texts ∙ ap (joined_lines_from false texts (port + 1)) (sym none)

-- and where it ends within a line, a newline before the others
lines-lacking : (port : ℕ) (texts : ℕ → List ℕ) (count left : ℕ) → count ≡ left + 1 → 1 < count
    → joined_lines_from true (comes port piece.End texts) port count ≡ NEWLINE ∷ joined_lines_from false texts (port + 1) left
lines-lacking port texts zero left next more = absurd (omega arith)
lines-lacking port texts (suc zero) left next more = absurd (omega arith)
lines-lacking port texts (suc (suc count)) left next more =
    let same : suc count ≡ left = omega arith in lines-first true port piece.End texts count ∙ ap (λ left. NEWLINE ∷ joined_lines_from false texts (port + 1) left) same

pub joined_by-bytes : (close within : Bool) (port : ℕ) (bytes : List ℕ) (texts : ℕ → List ℕ) (count : ℕ) → 0 < length bytes → 0 < count
    → joined_by close within (comes port (piece.Bytes bytes) texts) port count ≡ bytes ++ joined_by close (not (is_closed bytes)) texts port count
joined_by-bytes true within port bytes texts count long some = lines-bytes within port bytes texts count long some
joined_by-bytes false within port bytes texts count long some = joined-bytes port bytes texts count some

pub joined_by-whole : (close within : Bool) (port ins : ℕ) (texts : ℕ → List ℕ) → port < ins → (close && (within && nat_lt 1 (ins - port))) ≡ false
    → joined_by close within (comes port piece.End texts) port (ins - port) ≡ joined_by close false texts (port + 1) (ins - (port + 1))
joined_by-whole false within port ins texts before whole = joined-end port texts (ins - port) (ins - (port + 1)) (omega arith)
joined_by-whole true false port ins texts before whole = lines-whole port texts (ins - port) (ins - (port + 1)) (omega arith)
joined_by-whole true true port ins texts before last =
    let few = ltb-false 1 (ins - port) last in lines-last true port texts (ins - port) (ins - (port + 1)) (omega arith) (omega arith)

pub joined_by-lacking : (close within : Bool) (port ins : ℕ) (texts : ℕ → List ℕ) → (close && (within && nat_lt 1 (ins - port))) ≡ true
    → joined_by close within (comes port piece.End texts) port (ins - port) ≡ NEWLINE ∷ joined_by close false texts (port + 1) (ins - (port + 1))
joined_by-lacking false within port ins texts lacks = absurd (true≢false (sym lacks))
joined_by-lacking true false port ins texts lacks = absurd (true≢false (sym lacks))
joined_by-lacking true true port ins texts more =
    let follow = ltb-true 1 (ins - port) more in lines-lacking port texts (ins - port) (ins - (port + 1)) (omega arith) follow

-- those of all ports are the texts joined
joined_lines-all : (texts : ℕ → List ℕ) (from count : ℕ) → joined_lines_from false texts from count ≡ joined_lines (map texts (range_with_len from count))
joined_lines-all texts from zero = refl
joined_lines-all texts from (suc zero) = refl
joined_lines-all texts from (suc (suc count)) =
    ap (λ text. text ++ joined_lines_from false texts (from + 1) (suc count)) (closing_rest-all (texts from))
    ∙ ap (λ rest. closing (texts from) ++ rest) (joined_lines-all texts (from + 1) (suc count))
  where
    closing_rest-all : (text : List ℕ) → closing_rest false text ≡ closing text
    closing_rest-all [] = refl
    closing_rest-all (byte ∷ text) = refl

pub joined_by-given : (close : Bool) (texts : ℕ → List ℕ) (ins port : ℕ)
    → (if port == 0 then [] ++ joined_by close false texts 0 (ins - 0) else []) ≡ get_or ((if close then joined_lines (texts_at ins texts) else concat (texts_at ins texts)) ∷ []) port []
joined_by-given false texts ins port = joined-given texts ins port
joined_by-given true texts ins port =
    let all : ins - 0 ≡ ins = omega arith in
    ap (λ text. if port == 0 then text else []) (ap (joined_lines_from false texts 0) all ∙ joined_lines-all texts 0 ins) ∙ sym (get_or-one (joined_lines (texts_at ins texts)) port)

pub ruleset joins = (joined_by-bytes, joined_by-whole, joined_by-lacking)
