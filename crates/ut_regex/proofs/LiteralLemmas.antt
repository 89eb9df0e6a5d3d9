-- What is required of an expression stands in each line that has it.
use Rattle.std.proofs.Common.{ℕ, zero, suc, ◌≡◌, ◌+◌, ◌<◌, ◌≤◌, ◌==◌, ◌||◌, ◌&&◌, Bool, true, false, List, [], ◌∷◌, ◌++◌, length, slice_index, take, Option, Some, None, Result, Ok, Err, IfOk, IfSome, MatchOption, refl, ap, sym, subst, ◌∙◌, arith, length-append}
use Rattle.std.proofs.Math.Seq.{take_all}
use Rattle.std.proofs.lemmas.Bool.{false≢true, eq-eqb, eqb-true}
use Rattle.std.proofs.lemmas.Bool.Decides.{nat_tests}
use Rattle.memchr.specs.Find.{FindsNeedle, Nowhere, OccursAt, is_byte2}
use Rattle.ut_regex.specs.declared.literals.Required.{Required}
use Rattle.ut_regex.specs.declared.search.Search.{Search}
use Rattle.ut_regex.specs.declared.folded.Folded.{Folded}
use Rattle.ut_regex.specs.declared.front.Front.{Front}
use Rattle.ut_regex.specs.declared.front_search.FrontSearch.{FrontSearch}
use Rattle.ut_regex.specs.declared.search.Search.TheVariants as search
use Rattle.ut_regex.specs.declared.tree.Leaf.{Leaf}
use Rattle.ut_regex.specs.declared.tree.Leaf.TheVariants.{Byte}
use Rattle.ut_regex.specs.declared.tree.Node.{Node}
use Rattle.ut_regex.specs.Tree.{Tree, last_tree, trees_before, with_node, with_nodes, sequence}
use Rattle.ut_regex.specs.Spans.{is_from, other_case, fits, Spans, Has}
use Rattle.ut_regex.specs.Inner.Fronts.{FitAt, IsFront}
use Rattle.ut_regex.specs.Inner.Searches.{IsSoughtAt, Looks}
use Rattle.ut_regex.specs.Inner.Literals.{StandsAt, Contains, StandsBefore, IsLiteral, Requires, AreRequired}

-- nothing at all is required of any expression
pub nothing_required : (required : Required) → required.inner.items ≡ [] → required.suffix.items ≡ [] → required.exact ≡ false
    → (fold : Bool) (re : Tree) → IsFront fold re required.front → Requires fold re required
nothing_required required inner suffix exact fold re front = record {
  inner = λ line from to h. subst (λ bytes. Contains fold line bytes) (sym inner) (0, tt);
  suffix = λ line from to h. subst (λ bytes. StandsBefore fold line bytes to) (sym suffix) (to, omega arith, tt);
  exact = λ is. absurd (false≢true (sym exact ∙ is));
  front = front;
}

-- what spans no bytes is spanned exactly by none
pub no_bytes_required : (required : Required) → required.inner.items ≡ [] → required.suffix.items ≡ []
    → (fold : Bool) (re : Tree) → ((line : List ℕ) (from to : ℕ) → Spans fold line re from to → to ≡ from) → IsFront fold re required.front
    → Requires fold re required
no_bytes_required required inner suffix fold re nowhere front = record {
  inner = λ line from to h. subst (λ bytes. Contains fold line bytes) (sym inner) (0, tt);
  suffix = λ line from to h. subst (λ bytes. StandsBefore fold line bytes to) (sym suffix) (to, omega arith, tt);
  exact = λ is line from to h. let no : length required.suffix.items ≡ 0 = ap length suffix in omega (arith, nowhere line from to h, no);
  front = front;
}

-- bytes stand behind others
stands-append : (fold : Bool) (line front back : List ℕ) (place : ℕ) → StandsAt fold line front place → StandsAt fold line back (place + length front)
    → StandsAt fold line (front ++ back) place
stands-append fold line [] back place h k = subst (λ p. StandsAt fold line back p) (omega arith) k
stands-append fold line (byte ∷ front) back place (within, is, more) k =
    (within, is, stands-append fold line front back (place + 1) more (subst (λ p. StandsAt fold line back p) (omega arith) k))

-- an exact part behind another one makes its suffix longer
pub exact_followed : (fold : Bool) (re last : Tree) (first second required : Required) → Requires fold re first → Requires fold last second → second.exact ≡ true
    → ((line : List ℕ) → Contains fold line first.inner.items → Contains fold line second.inner.items → Contains fold line required.inner.items)
    → required.suffix.items ≡ first.suffix.items ++ second.suffix.items → required.exact ≡ first.exact → IsFront fold (sequence re last) required.front
    → Requires fold (sequence re last) required
exact_followed fold re last first second required front back second_exact longer suffix exact begins =
    let size : length required.suffix.items ≡ length first.suffix.items + length second.suffix.items =
    ap length suffix ∙ length-append first.suffix.items second.suffix.items in
    record {
      inner = λ line from to h. longer line (front.inner line from h.0 h.1) (back.inner line h.0 to h.2);
      suffix = λ line from to h.
          let before = front.suffix line from h.0 h.1 in
          let behind = back.suffix line h.0 to h.2 in
          let wide = back.exact second_exact line h.0 to h.2 in
          let place : behind.0 ≡ before.0 + length first.suffix.items = omega (arith, before.1, behind.1, wide) in (
            before.0,
            omega (arith, before.1, wide, size),
            subst (λ bytes. StandsAt fold line bytes before.0) (sym suffix)
                (stands-append fold line first.suffix.items second.suffix.items before.0 before.2 (subst (λ p. StandsAt fold line second.suffix.items p) place behind.2)),
          );
      exact = λ is line from to h.
          omega (arith, front.exact (sym exact ∙ is) line from h.0 h.1, back.exact second_exact line h.0 to h.2, size);
      front = begins;
    }

-- what is required of a node's tree, and of the trees before it
pub at_node : (fold : Bool) (trees : List Tree) (made : Required) (rest : List Required) (node there : Node) → node ≡ there
    → Requires fold (last_tree (with_node trees there)) made → AreRequired fold rest (trees_before (with_node trees there))
    → Requires fold (last_tree (with_node trees node)) made × AreRequired fold rest (trees_before (with_node trees node))
at_node fold trees made rest node there is required are =
    subst (λ n. Requires fold (last_tree (with_node trees n)) made × AreRequired fold rest (trees_before (with_node trees n))) (sym is) (required, are)

pub if_ok_map : {T E : Type 0} {P Q : T → Type 0} (result : Result T E) → ((value : T) → P value → Q value) → IfOk result P → IfOk result Q
if_ok_map (Ok value) more h = more value h
if_ok_map (Err error) more h = tt

-- what stands before a place is contained
pub before_contained : (fold : Bool) (line bytes : List ℕ) (end : ℕ) → StandsBefore fold line bytes end → Contains fold line bytes
before_contained fold line bytes end (place, is, h) = (place, h)

-- bytes that stand in a line stand within it
pub stands_within : (fold : Bool) (line bytes : List ℕ) (place : ℕ) → place ≤ length line → StandsAt fold line bytes place → place + length bytes ≤ length line
stands_within fold line [] place within h = omega (arith, within)
stands_within fold line (byte ∷ bytes) place within (here, is, more) =
    omega (arith, stands_within fold line bytes (place + 1) (omega (arith, here)) more)

pub stands_long : (fold : Bool) (line bytes : List ℕ) (place : ℕ) → StandsAt fold line bytes place → 0 < length bytes → place < length line
stands_long fold line [] place h some = absurd (omega (arith, some))
stands_long fold line (byte ∷ bytes) place (within, is, more) some = within

-- each byte of the line is what the one of the bytes asks for
pub stands_fits : (fold : Bool) (line bytes : List ℕ) (place : ℕ) → StandsAt fold line bytes place → (offset : ℕ) → offset < length bytes
    → fits fold (Byte (slice_index bytes offset)) (slice_index line (place + offset)) ≡ true
stands_fits fold line [] place h offset within = absurd (omega (arith, within))
stands_fits fold line (byte ∷ bytes) place (here, is, more) zero within = let e : place + zero ≡ place = omega arith in rw e is
stands_fits fold line (byte ∷ bytes) place (here, is, more) (suc offset) within =
    let e : place + suc offset ≡ place + 1 + offset = omega arith in
    rw e (stands_fits fold line bytes (place + 1) more offset (omega (arith, within)))

-- one byte alone fits a byte that has no other case
pub only_plain : (fold : Bool) (wanted byte : ℕ) → fold ≡ false → fits fold (Byte wanted) byte ≡ true → byte ≡ wanted
only_plain true wanted byte plain h = absurd (cc)
only_plain false wanted byte plain h = by_test (byte == wanted) refl h
  where
    by_test : (same : Bool) → (byte == wanted) ≡ same → (same || false) ≡ true → byte ≡ wanted
    by_test true is h = eqb-true byte wanted is
    by_test false is h = absurd (false≢true h)

-- bytes that stand in a line as they are occur there
pub occurs_there : (line bytes : List ℕ) (place : ℕ) → place ≤ length line → StandsAt false line bytes place → OccursAt line bytes place
occurs_there line bytes place within h = record {
  fits = stands_within false line bytes place within h;
  reads = λ offset low. only_plain false (slice_index bytes offset) (slice_index line (place + offset)) refl (stands_fits false line bytes place h offset low);
}

-- bytes of which each fits stand there
pub stands_all : (fold : Bool) (line bytes : List ℕ) (place : ℕ) → place + length bytes ≤ length line
    → ((offset : ℕ) → offset < length bytes → fits fold (Byte (slice_index bytes offset)) (slice_index line (place + offset)) ≡ true)
    → StandsAt fold line bytes place
stands_all fold line [] place within each = tt
stands_all fold line (byte ∷ bytes) place within each = (
  omega (arith, within),
  let e : place ≡ place + zero = omega arith in ap (λ at. fits fold (Byte byte) (slice_index line at)) e ∙ each zero (omega arith),
  stands_all fold line bytes (place + 1) (omega (arith, within)) (λ offset low.
      let e : place + 1 + offset ≡ place + suc offset = omega arith in
      ap (λ at. fits fold (Byte (slice_index bytes offset)) (slice_index line at)) e ∙ each (suc offset) (omega (arith, low))),
)

-- bytes that occur in a line stand there as they are
pub stands_where_occurs : (line bytes : List ℕ) (place : ℕ) → OccursAt line bytes place → StandsAt false line bytes place
stands_where_occurs line bytes place occurs = stands_all false line bytes place occurs.fits (λ offset low.
    ap (λ same. same || false) (eq-eqb (slice_index line (place + offset)) (slice_index bytes offset) (occurs.reads offset low)))

-- in a line that has an expression stands what is searched for
pub has_sought : (fold whole : Bool) (re : Tree) (line : List ℕ) (search : Search) → Looks search fold re → Has fold whole line re
    → (place : ℕ) × IsSoughtAt search line place
has_sought fold true re line search looks h = looks.required line 0 (length line) h
has_sought fold false re line search looks (from, to, within, h) = looks.required line from to h

-- searches for a literal and for a front
pub looks-exact : (fold : Bool) (re : Tree) (bytes found : List ℕ) → found ≡ bytes → fold ≡ false → 0 < length bytes → IsLiteral fold re bytes
    → Looks (search.Exact found) fold re
looks-exact fold re bytes found same plain some literal = record {
  required = λ line from to h.
      let there = literal line from to h in
      (there.0, subst (λ bytes. StandsAt false line bytes there.0) (sym same) (subst (λ fold. StandsAt fold line bytes there.0) plain there.1));
  some = λ line place h. stands_long false line found place h (subst (λ bytes. 0 < length bytes) (sym same) some);
}

pub looks-folded : (fold : Bool) (re : Tree) (bytes : List ℕ) (folded : Folded) → folded.bytes.items ≡ bytes → fold ≡ true → 0 < length bytes → IsLiteral fold re bytes
    → Looks (search.Folded folded) fold re
looks-folded fold re bytes folded same both some literal = record {
  required = λ line from to h.
      let there = literal line from to h in
      (there.0, subst (λ bytes. StandsAt true line bytes there.0) (sym same) (subst (λ fold. StandsAt fold line bytes there.0) both there.1));
  some = λ line place h. stands_long true line folded.bytes.items place h (subst (λ bytes. 0 < length bytes) (sym same) some);
}

fit-long : (fold : Bool) (line : List ℕ) (leaves : List Leaf) (place : ℕ) → FitAt fold line leaves place → 0 < length leaves → place < length line
fit-long fold line [] place h some = absurd (omega (arith, some))
fit-long fold line (one ∷ leaves) place (within, is, more) some = within

pub looks-front : (fold : Bool) (re : Tree) (front : Front) (found : FrontSearch) → found.leaves.items ≡ front.leaves.items → found.fold ≡ fold
    → 0 < length found.leaves.items → IsFront fold re front → Looks (search.Front found) fold re
looks-front fold re front found same folds some begun = record {
  required = λ line from to h.
      (from, subst (λ leaves. FitAt found.fold line leaves from) (sym same) (subst (λ fold. FitAt fold line front.leaves.items from) (sym folds) (begun.begins line from to h)));
  some = λ line place h. fit-long found.fold line found.leaves.items place h some;
}

-- what is searched for is required of an expression
pub front-looks : (made : Option Search) (fold : Bool) (required : Required) → IfSome made (λ search. (re : Tree) → IsFront fold re required.front → Looks search fold re)
    → IfSome made (λ search. (re : Tree) → Requires fold re required → Looks search fold re)
front-looks (Some search) fold required looks = λ re h. looks re h.front
front-looks None fold required looks = tt

pub looks-made : (made : Option Search) (fold : Bool) (required : Required) (re : Tree) → IfSome made (λ search. (re : Tree) → Requires fold re required → Looks search fold re)
    → Requires fold re required → IfSome made (λ search. Looks search fold re)
looks-made (Some search) fold required re looks h = looks re h
looks-made None fold required re looks h = tt

-- the nodes that a walk has come over at its end are all of them
pub all_taken : (nodes : List Node) (count : ℕ) → length nodes ≤ count → with_nodes [] (take count nodes) ≡ with_nodes [] nodes
all_taken nodes count h = ap (λ all. with_nodes [] all) (take_all count nodes h)

-- a search for bytes as they are
pub exact-first : (sought : Search) (bytes text : List ℕ) (place : ℕ) → sought ≡ search.Exact bytes → FindsNeedle text bytes 0 (Some place)
    → Nowhere (IsSoughtAt sought text) 0 place
exact-first sought bytes text place is found = rw is (λ at low before stands.
    let within = found.0.high in
    found.0.before at low before (occurs_there text bytes at (omega (arith, within, before)) stands))

pub exact-stands : (sought : Search) (bytes text : List ℕ) (place : ℕ) → sought ≡ search.Exact bytes → FindsNeedle text bytes 0 (Some place)
    → IsSoughtAt sought text place
exact-stands sought bytes text place is found = rw is (stands_where_occurs text bytes place found.1)

pub exact-none : (sought : Search) (bytes text : List ℕ) → sought ≡ search.Exact bytes → FindsNeedle text bytes 0 None
    → Nowhere (IsSoughtAt sought text) 0 (length text)
exact-none sought bytes text is none = rw is (λ at low before stands.
    none at low (omega (arith, before)) (occurs_there text bytes at (omega (arith, before)) stands))

-- a letter's other case has that letter as its other case
other_case_twice : (byte : ℕ) → other_case (other_case byte) ≡ byte
unfolding other_case is_from
other_case_twice byte = grind (arith, nat_tests)

-- what fits a byte in both cases is the byte or its other case
pub fits_either : (wanted byte : ℕ) → fits true (Byte wanted) byte ≡ true → is_byte2 wanted (other_case wanted) byte ≡ true
fits_either wanted byte h = by_test (byte == wanted) refl h
  where
    by_test : (same : Bool) → (byte == wanted) ≡ same → (same || (true && (other_case byte == wanted))) ≡ true → (same || (byte == other_case wanted)) ≡ true
    by_test true is h = refl
    by_test false is h = eq-eqb byte (other_case wanted) (sym (other_case_twice byte) ∙ ap other_case (eqb-true (other_case byte) wanted h))

-- a line in which what is searched for stands nowhere lacks the expression
pub lacking_literal : (fold whole : Bool) (re : Tree) (line : List ℕ) (literal : Option Search) → IfSome literal (λ search. Looks search fold re)
    → MatchOption literal ⊥ (λ search. Nowhere (IsSoughtAt search line) 0 (length line)) → ¬ Has fold whole line re
lacking_literal fold whole re line (Some search) looks nowhere has =
    let there = has_sought fold whole re line search looks has in
    nowhere there.0 (omega arith) (looks.some line there.0 there.1) there.1
lacking_literal fold whole re line None looks nowhere has = absurd nowhere

-- where the first place is the line's end, what is searched for stands nowhere in it
pub nowhere_there : (literal : Option Search) (search : Search) (line : List ℕ) (place : ℕ) → literal ≡ Some search → (place == length line) ≡ true
    → Nowhere (IsSoughtAt search line) 0 place → MatchOption literal ⊥ (λ search. Nowhere (IsSoughtAt search line) 0 (length line))
nowhere_there literal search line place is same nowhere =
    rw is (subst (λ end. Nowhere (IsSoughtAt search line) 0 end) (eqb-true place (length line) same) nowhere)
