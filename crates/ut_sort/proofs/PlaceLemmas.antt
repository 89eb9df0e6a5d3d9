-- The places of lines: sorting them sorts the lines.
use Rattle.std.proofs.Common.{◌≡◌, ℕ, zero, suc, ◌+◌, ◌-◌, ◌*◌, ◌/◌, ◌%◌, ◌<◌, ◌≤◌, ◌==◌, ◌&&◌, ◌⊎◌, inl, inr, List, [], ◌∷◌, ◌++◌, length, replicate, take, drop, get_or, min, nat_lt, nat_le, Bool, true, false, not, cond, if◌then◌else◌, Option, None, Some, refl, ap, sym, ◌∙◌, arith, Ordering, subst, take_all, length-append, append_assoc}
use Rattle.std.specs.Prelude.{⊤}
use Rattle.std.specs.Cmp.{IsTotalOrder, IsStrictWeakOrder, nat_cmp_is}
use Rattle.std.specs.Bool.{Decides}
use Rattle.std.specs.Cmp.Derive.{point_total}
use Rattle.std.specs.List.{dedup, filter}
use Rattle.std.specs.List.Sorted.{IsPermutation, IsSortedBy}
use Rattle.std.specs.declared.cmp.Ordering.TheVariants.{Less, Equal, Greater}
use Rattle.std.specs.Ordering.{nat_cmp, is_lt, is_eq, on, eq_by_cmp, ordering_then, ordering_reverse, MatchOrdering}
use Rattle.std.proofs.lemmas.Bool.{true≢false, and_parts, or_parts}
use Rattle.std.proofs.lemmas.Bool.Decides.{nat_tests}
use Rattle.std.proofs.lemmas.Cmp.{then_total, on_total, nat_cmp_total, ranked, tied_itself}
use Rattle.std.proofs.Math.Seq.{drop-append-add}
use Rattle.std.proofs.lemmas.List.{drop-drop, drop_all, drop_min, take_more, take_rest, take-append-drop}
use Rattle.std.proofs.lemmas.List.MinMax.{ranks_by}
use Rattle.std.proofs.lemmas.List.Sums.{length-filter}
use Rattle.std.proofs.lemmas.List.Sorted.{sum_by-IsPermutation}
use Rattle.ps_lines.specs.Lines.{CutsLine, has_newline, text_of_lines}
use Rattle.ut_args.specs.declared.Key.{Key}
use Rattle.ut_args.specs.declared.KeyEnd.{KeyEnd}
use Rattle.ut_sort.specs.declared.places.LinePlace.{LinePlace}
use Rattle.ut_sort.specs.declared.line_orders.LineOrder.{LineOrder}
use Rattle.ut_sort.specs.Keys.{bytes_cmp, directed, folded, key_in, keys_cmp, letters_of, letters_with, texts_cmp}
use Rattle.ut_sort.specs.Numbers.{numbers_cmp}
use Rattle.ut_sort.specs.LineOrders.{cmp_by, number_by, rest_by, sorted_by, tied_by}
use Rattle.ut_sort.specs.Order.{last_cmp}
use Rattle.ut_sort.specs.Places.{first_line, line_in, lines_in, tie_cmp, place_cmp, IsPlace, ArePlaces, StandBehind, RiseTo}
use Rattle.ut_sort.specs.Writing.{PutSome, left_behind}
use Rattle.ut_streams.specs.Streams.{Put, Wrote}
use Rattle.ut_streams.proofs.StreamLemmas.{Wrote-put}
use Rattle.ut_sort.specs.Prefixes.{FirstKey, begins_whole, keys_number, first_letters, has_no_end, is_as_it_stands, is_exact, is_line_start, is_whole_key}
use Rattle.ut_sort.specs.Sorted.{equals, insert, others_of, sorted}
use Rattle.ut_sort.proofs.SortedLemmas.{tied, only_sorted, sorted_is, in_order-from, dedup_is, map-sorted}
use Rattle.ut_sort.proofs.OrderLemmas.{bytes_same, lines_total}
use Rattle.ut_sort.proofs.PrefixLemmas.{less_number, same_keys, same_key}

-- the first line
pub first_line-cut : (text line rest : List ℕ) → CutsLine text line rest → first_line text ≡ line
first_line-cut text line rest cut = ap first_line cut.whole ∙ up_to_end line cut.plain
  where
    up_to_end : (line : List ℕ) → has_newline line ≡ false → first_line (line ++ 10 ∷ rest) ≡ line
    up_to_end [] plain = refl
    up_to_end (byte ∷ line) plain =
        let parts = or_parts (byte == 10) (has_newline line) plain in rw parts.0 (ap (λ others. byte ∷ others) (up_to_end line parts.1))

pub first_line-plain : (text : List ℕ) → has_newline text ≡ false → first_line text ≡ text
first_line-plain [] plain = refl
first_line-plain (byte ∷ text) plain =
    let parts = or_parts (byte == 10) (has_newline text) plain in rw parts.0 (ap (λ others. byte ∷ others) (first_line-plain text parts.1))

pub ruleset first_lines = (first_line-cut, first_line-plain)

take-first_line : (text : List ℕ) → take (length (first_line text)) text ≡ first_line text
take-first_line [] = refl
take-first_line (byte ∷ text) = by_end (byte == 10) (take-first_line text)
  where
    by_end : (ends : Bool) → take (length (first_line text)) text ≡ first_line text
        → take (length (if ends then [] else byte ∷ first_line text)) (byte ∷ text) ≡ (if ends then [] else byte ∷ first_line text)
    by_end true rest = refl
    by_end false rest = ap (λ others. byte ∷ others) rest

-- where a line begins and its length name it
pub line_in-at : (text : List ℕ) (at size : ℕ) → size ≡ min (length (first_line (drop at text))) 65535 → line_in text (at * 65536 + size) ≡ first_line (drop at text)
line_in-at text at size is =
    let from : (at * 65536 + size) / 65536 ≡ at = omega (arith, is) in
    let count : (at * 65536 + size) % 65536 ≡ size = omega (arith, is) in
    rw (from, count) (by_size (nat_lt size 65535) refl)
  where
    by_size : (short : Bool) → nat_lt size 65535 ≡ short
        → (if short then take size (drop at text) else first_line (drop at text)) ≡ first_line (drop at text)
    by_size true short =
        let low : size < 65535 = grind (arith, nat_tests) in
        let all : size ≡ length (first_line (drop at text)) = omega (arith, is, low) in
        ap (λ count. take count (drop at text)) all ∙ take-first_line (drop at text)
    by_size false long = refl

pub at-place : (text left line : List ℕ) (size : ℕ) → left ≡ drop (length text - length left) text → line ≡ first_line left → size ≡ min (length line) 65535
    → line_in text ((length text - length left) * 65536 + size) ≡ line
at-place text left line size from first is =
    line_in-at text (length text - length left) size (is ∙ ap (λ line. min (length line) 65535) (first ∙ ap first_line from)) ∙ ap first_line (sym from) ∙ sym first

-- the rest of a text behind its first line
pub rest-at : (text left line rest : List ℕ) → length left ≤ length text → left ≡ drop (length text - length left) text → CutsLine left line rest
    → rest ≡ drop (length text - length rest) text
rest-at text left line rest within from cut =
    let size : length left ≡ length line + suc (length rest) = ap length cut.whole ∙ length-append line (10 ∷ rest) in
    let behind : rest ≡ drop (length line + 1) left = sym (ap (drop (length line + 1)) cut.whole ∙ drop-append-add line (10 ∷ rest) 1) in
    behind ∙ ap (drop (length line + 1)) from ∙ drop-drop (length line + 1) (length text - length left) text
    ∙ ap (λ count. drop count text) (omega (arith, size, within))

-- places that are appended
pub places-push : (order : LineOrder) (text : List ℕ) (places : List LinePlace) (place : LinePlace) → ArePlaces order text places → IsPlace order text place
    → ArePlaces order text (places ++ place ∷ [])
places-push order text [] place are is = (is, tt)
places-push order text (first ∷ places) place are is = (are.0, places-push order text places place are.1 is)

behind-push : (span : ℕ) (places : List LinePlace) (place : LinePlace) → StandBehind span places → span < place.span → StandBehind span (places ++ place ∷ [])
behind-push span [] place behind after = (after, tt)
behind-push span (first ∷ places) place behind after = (behind.0, behind-push span places place behind.1 after)

pub rise-push : (end end' : ℕ) (places : List LinePlace) (place : LinePlace) → RiseTo end places → end ≤ place.span → place.span < end' → RiseTo end' (places ++ place ∷ [])
rise-push end end' [] place rise after before = (before, (tt, tt))
rise-push end end' (first ∷ places) place rise after before =
    let low = rise.0 in
    (omega (arith, low, after, before), (behind-push first.span places place rise.1.0 (omega (arith, low, after)), rise-push end end' places place rise.1.1 after before))

pub rise-more : (end end' : ℕ) (places : List LinePlace) → RiseTo end places → end ≤ end' → RiseTo end' places
rise-more end end' [] rise more = tt
rise-more end end' (first ∷ places) rise more = let low = rise.0 in (omega (arith, low, more), (rise.1.0, rise-more end end' places rise.1.1 more))

pub lines-push : (text : List ℕ) (places : List LinePlace) (place : LinePlace) (line : List ℕ) → line_in text place.span ≡ line
    → lines_in text (places ++ place ∷ []) ≡ lines_in text places ++ line ∷ []
lines-push text [] place line is = ap (λ line. line ∷ []) is
lines-push text (first ∷ places) place line is = ap (λ lines. line_in text first.span ∷ lines) (lines-push text places place line is)

pub place-is : (order : LineOrder) (text : List ℕ) (place : LinePlace) (line : List ℕ) → line_in text place.span ≡ line → place.number ≡ number_by order line
    → FirstKey order.separator order.keys.items line → IsPlace order text place
place-is order text place line is number key =
    record { number = number ∙ ap (number_by order) (sym is); key = subst (FirstKey order.separator order.keys.items) (sym is) key }

-- an order by a number, and where it is the same by an order that depends on it
module _ {Item : Type 0} (number : Item → ℕ) (same : ℕ → Item → Item → Ordering) (total : (n : ℕ) → IsTotalOrder (same n)) where
  abbrev by_number : Item → Item → Ordering
  by_number one other = ordering_then (nat_cmp (number one) (number other)) (same (number one) one other)

  by-less : (x y : Item) → by_number x y ≡ Less → (number x < number y) ⊎ ((number x ≡ number y) × (same (number x) x y ≡ Less))
  by-less x y less = by_cmp (nat_cmp (number x) (number y)) (ranked (number x) (number y) _ refl) less
    where
      by_cmp : (o : Ordering) → MatchOrdering o (number x < number y) (number x ≡ number y) (number y < number x) → ordering_then o (same (number x) x y) ≡ Less
          → (number x < number y) ⊎ ((number x ≡ number y) × (same (number x) x y ≡ Less))
      by_cmp Less low less = inl low
      by_cmp Equal equal less = inr (equal, less)
      by_cmp Greater low less = absurd (true≢false (sym (ap is_lt less)))

  less-by : (x y : Item) → (number x < number y) ⊎ ((number x ≡ number y) × (same (number x) x y ≡ Less)) → by_number x y ≡ Less
  less-by x y (inl low) = ap (λ o. ordering_then o (same (number x) x y)) (sym (nat_cmp_is (number x) (number y) Less low))
  less-by x y (inr both) = ap (λ o. ordering_then o (same (number x) x y)) (sym (nat_cmp_is (number x) (number y) Equal both.0)) ∙ both.1

  pub by_number_total : IsTotalOrder by_number
  by_number_total = record {
    antisymm = λ x y. turned x y (nat_cmp (number x) (number y)) (ranked (number x) (number y) _ refl);
    trans = λ x y z first second. less-by x z (chain x y z (by-less x y first) (by-less y z second));
    congr = λ x y z first. alike x y z (nat_cmp (number x) (number y)) (ranked (number x) (number y) _ refl) first;
  }
    where
      turned : (x y : Item) (o : Ordering) → MatchOrdering o (number x < number y) (number x ≡ number y) (number y < number x)
          → ordering_then o (same (number x) x y) ≡ ordering_reverse (by_number y x)
      turned x y Less low = ap (λ o. ordering_reverse (ordering_then o (same (number y) y x))) (nat_cmp_is (number y) (number x) Greater low)
      turned x y Equal equal =
          (total (number x)).antisymm x y ∙ ap (λ n. ordering_reverse (same n y x)) equal
          ∙ ap (λ o. ordering_reverse (ordering_then o (same (number y) y x))) (nat_cmp_is (number y) (number x) Equal (sym equal))
      turned x y Greater low = ap (λ o. ordering_reverse (ordering_then o (same (number y) y x))) (nat_cmp_is (number y) (number x) Less low)

      chain : (x y z : Item) → (number x < number y) ⊎ ((number x ≡ number y) × (same (number x) x y ≡ Less))
          → (number y < number z) ⊎ ((number y ≡ number z) × (same (number y) y z ≡ Less)) → (number x < number z) ⊎ ((number x ≡ number z) × (same (number x) x z ≡ Less))
      chain x y z (inl low) (inl next) = inl (omega (arith, low, next))
      chain x y z (inl low) (inr next) = let equal = next.0 in inl (omega (arith, low, equal))
      chain x y z (inr low) (inl next) = let equal = low.0 in inl (omega (arith, equal, next))
      chain x y z (inr low) (inr next) =
          inr (low.0 ∙ next.0, (total (number x)).trans x y z low.1 (subst (λ n. same n y z ≡ Less) (sym low.0) next.1))

      alike : (x y z : Item) (o : Ordering) → MatchOrdering o (number x < number y) (number x ≡ number y) (number y < number x)
          → ordering_then o (same (number x) x y) ≡ Equal → by_number x z ≡ by_number y z
      alike x y z Less low is = absurd (true≢false (sym (ap is_eq is)))
      alike x y z Equal equal is =
          (λ i. ordering_then (nat_cmp (equal i) (number z)) ((total (number x)).congr x y z is i))
          ∙ ap (λ n. ordering_then (nat_cmp (number y) (number z)) (same n y z)) equal
      alike x y z Greater low is = absurd (true≢false (sym (ap is_eq is)))

-- the order of places
gate_total : (exact whole unique reverse : Bool) (separator : Option ℕ) (keys : List Key)
    → IsTotalOrder (λ one other. if exact then (if whole then Equal else ordering_then (keys_cmp separator (drop 1 keys) one other) (last_cmp unique reverse one other))
    else ordering_then (keys_cmp separator keys one other) (last_cmp unique reverse one other))
gate_total true true unique reverse separator keys = point_total
gate_total true false unique reverse separator keys = lines_total separator (drop 1 keys) unique reverse
gate_total false whole unique reverse separator keys = lines_total separator keys unique reverse

tied_total : (order : LineOrder) (number : ℕ) → IsTotalOrder (tied_by order number)
tied_total order number =
    gate_total (is_exact (first_letters order.keys.items) number) (begins_whole order.keys.items) order.unique order.reverse order.separator order.keys.items

tie_total : (order : LineOrder) (text : List ℕ) → IsTotalOrder (tie_cmp order text)
tie_total order text =
    by_number_total (λ (place : LinePlace). place.number) (λ number one other. tied_by order number (line_in text one.span) (line_in text other.span))
    (λ number. on_total (λ (place : LinePlace). line_in text place.span) (tied_total order number))

place_total : (order : LineOrder) (text : List ℕ) → IsTotalOrder (place_cmp order text)
place_total order text = then_total (tie_total order text) (on_total (λ (place : LinePlace). place.span) nat_cmp_total)

pub place_ranks : (order : LineOrder) (text : List ℕ) → IsStrictWeakOrder (λ one other. is_lt (place_cmp order text one other))
place_ranks order text = ranks_by (place_total order text) (λ place. place)

order_total : (order : LineOrder) → IsTotalOrder (cmp_by order)
order_total order = lines_total order.separator order.keys.items order.unique order.reverse

then_parts : (o p : Ordering) → ordering_then o p ≡ Equal → (o ≡ Equal) × (p ≡ Equal)
then_parts Less p is = absurd (true≢false (sym (ap is_eq is)))
then_parts Equal p is = (refl, is)
then_parts Greater p is = absurd (true≢false (sym (ap is_eq is)))

same_place : (order : LineOrder) (text : List ℕ) (one other : LinePlace) → place_cmp order text one other ≡ Equal → one ≡ other
same_place order text one other is =
    let parts = then_parts (tie_cmp order text one other) (nat_cmp one.span other.span) is in
    let number =
    ranked one.number other.number Equal
    (sym (then_parts (nat_cmp one.number other.number) (tied_by order one.number (line_in text one.span) (line_in text other.span)) parts.0).0) in
    let span = ranked one.span other.span Equal (sym parts.1) in
    λ i. record { number = number i; span = span i }

-- a key that is the line as it stands
whole_key : (separator : Option ℕ) (key : Key) (line : List ℕ) → is_whole_key key ≡ true → key_in separator key line ≡ line
whole_key separator key line whole = grind (arith, nat_tests, take_all)

whole_order : (key : Key) (one other : List ℕ) → is_whole_key key ≡ true → directed (letters_of key).reverse (texts_cmp (letters_of key)) one other ≡ Equal → one ≡ other
whole_order key one other whole is =
    let outer = and_parts (is_line_start key.start) (has_no_end key.end && is_as_it_stands key.start.letters) whole in
    let inner = and_parts (has_no_end key.end) (is_as_it_stands key.start.letters) outer.1 in
    by_end key.end inner.0 inner.1 is
  where
    by_letters : (fold numeric reverse : Bool) → (not fold && not numeric) ≡ true
        → directed reverse (λ one other. if numeric then numbers_cmp one other else if fold then bytes_cmp (folded one) (folded other) else bytes_cmp one other) one other ≡ Equal
        → one ≡ other
    by_letters true numeric reverse plain is = absurd (true≢false (sym plain))
    by_letters false true reverse plain is = absurd (true≢false (sym plain))
    by_letters false false true plain is = sym (bytes_same other one is)
    by_letters false false false plain is = bytes_same one other is

    by_end : (end : Option KeyEnd) → has_no_end end ≡ true → is_as_it_stands key.start.letters ≡ true
        → directed (letters_with key.start.letters end).reverse (texts_cmp (letters_with key.start.letters end)) one other ≡ Equal → one ≡ other
    by_end None none plain is = by_letters key.start.letters.fold key.start.letters.numeric key.start.letters.reverse plain is
    by_end (Some end) none plain is = absurd (true≢false (sym none))

-- where two lines have one number that is exact, the rest decides
module _ (order : LineOrder) (one other : List ℕ) (is : FirstKey order.separator order.keys.items one) (is' : FirstKey order.separator order.keys.items other)
    (same : number_by order one ≡ number_by order other) (exact : is_exact (first_letters order.keys.items) (number_by order one) ≡ true) where
  whole_same : (keys : List Key) → FirstKey order.separator keys one → FirstKey order.separator keys other
      → keys_number order.separator keys one ≡ keys_number order.separator keys other → is_exact (first_letters keys) (keys_number order.separator keys one) ≡ true
      → begins_whole keys ≡ true → one ≡ other
  whole_same [] is is' same exact whole = absurd (true≢false (sym whole))
  whole_same (key ∷ others) is is' same exact whole =
      let equal = same_key order.separator key one other is is' same exact in
      whole_order key one other whole
      (sym (λ i. directed (letters_of key).reverse (texts_cmp (letters_of key)) (whole_key order.separator key one whole i) (whole_key order.separator key other whole i)) ∙ equal)

  rest-is : rest_by order one other ≡ cmp_by order one other
  rest-is = by_whole (begins_whole order.keys.items) refl
    where
      by_whole : (whole : Bool) → begins_whole order.keys.items ≡ whole
          → (if whole then Equal else ordering_then (keys_cmp order.separator (drop 1 order.keys.items) one other) (last_cmp order.unique order.reverse one other))
          ≡ cmp_by order one other
      by_whole true whole =
          sym (ap (cmp_by order one) (sym (whole_same order.keys.items is is' same exact whole)) ∙ tied_itself (order_total order) one)
      by_whole false _ =
          ap (λ o. ordering_then o (last_cmp order.unique order.reverse one other)) (sym (same_keys order.separator order.keys.items one other is is' same exact))

-- places of lines are in the order of these
tie-is : (order : LineOrder) (text : List ℕ) (one other : LinePlace) → IsPlace order text one → IsPlace order text other
    → tie_cmp order text one other ≡ cmp_by order (line_in text one.span) (line_in text other.span)
tie-is order text one other is is' = by_number (nat_cmp one.number other.number) (ranked one.number other.number _ refl)
  where
    first : List ℕ
    first = line_in text one.span

    second : List ℕ
    second = line_in text other.span

    by_number : (o : Ordering) → MatchOrdering o (one.number < other.number) (one.number ≡ other.number) (other.number < one.number)
        → ordering_then o (tied_by order one.number first second) ≡ cmp_by order first second
    by_number Less low =
        let less : number_by order first < number_by order second = subst (λ n. n < number_by order second) is.number (subst (λ n. one.number < n) is'.number low) in
        sym (less_number order first second is.key is'.key less)
    by_number Greater low =
        let less : number_by order second < number_by order first = subst (λ n. n < number_by order first) is'.number (subst (λ n. other.number < n) is.number low) in
        sym ((order_total order).antisymm first second ∙ ap ordering_reverse (less_number order second first is'.key is.key less))
    by_number Equal equal =
        by_exact (is_exact (first_letters order.keys.items) one.number) refl
      where
        by_exact : (exact : Bool) → is_exact (first_letters order.keys.items) one.number ≡ exact
            → (if exact then rest_by order first second else cmp_by order first second) ≡ cmp_by order first second
        by_exact true exact =
            rest-is order first second is.key is'.key (sym is.number ∙ equal ∙ is'.number) (ap (is_exact (first_letters order.keys.items)) (sym is.number) ∙ exact)
        by_exact false _ = refl

-- what holds of each item, and two orders that agree on these
module _ {Item : Type 0} (Holds : Item → Type 0) where
  abbrev pub Each : List Item → Type 0
  Each [] = ⊤
  Each (item ∷ items) = Holds item × Each items

  each-filter : (test : Item → Bool) (items : List Item) → Each items → Each (filter test items)
  each-filter test [] each = tt
  each-filter test (item ∷ items) each = by_test (test item) (each-filter test items each.1)
    where
      by_test : (passes : Bool) → Each (filter test items) → Each (cond passes (item ∷ filter test items) (filter test items))
      by_test true rest = (each.0, rest)
      by_test false rest = rest

  module _ (cmp : Item → Item → Ordering) where
    each-insert : (new : Item) (items : List Item) → Holds new → Each items → Each (insert cmp new items)
    each-insert new [] holds each = (holds, tt)
    each-insert new (item ∷ items) holds each = by_lt (is_lt (cmp item new)) (each-insert new items holds each.1)
      where
        by_lt : (lt : Bool) → Each (insert cmp new items) → Each (if lt then item ∷ insert cmp new items else new ∷ item ∷ items)
        by_lt true rest = (each.0, rest)
        by_lt false rest = (holds, each)

    each-others : (unique : Bool) (item : Item) (items : List Item) → Each items → Each (others_of cmp unique item items)
    each-others true item items each = each-filter (λ other. not (is_eq (cmp item other))) items each
    each-others false item items each = each

    pub each-sorted : (unique : Bool) (items : List Item) → Each items → Each (sorted cmp unique items)
    each-sorted unique [] each = tt
    each-sorted unique (item ∷ items) each =
        each-insert item (others_of cmp unique item (sorted cmp unique items)) each.0
        (each-others unique item (sorted cmp unique items) (each-sorted unique items each.1))

insert-alike : {Item : Type 0} (cmp cmp' : Item → Item → Ordering) (new : Item) (items : List Item)
    → Each (λ item. is_lt (cmp item new) ≡ is_lt (cmp' item new)) items → insert cmp new items ≡ insert cmp' new items
insert-alike cmp cmp' new [] each = refl
insert-alike cmp cmp' new (item ∷ items) each =
    (λ i. if each.0 i then item ∷ insert cmp new items else new ∷ item ∷ items)
    ∙ ap (λ others. if is_lt (cmp' item new) then item ∷ others else new ∷ item ∷ items) (insert-alike cmp cmp' new items each.1)

filter-alike : {Item : Type 0} (test test' : Item → Bool) (items : List Item) → Each (λ item. test item ≡ test' item) items → filter test items ≡ filter test' items
filter-alike test test' [] each = refl
filter-alike test test' (item ∷ items) each =
    (λ i. cond (each.0 i) (item ∷ filter test items) (filter test items))
    ∙ ap (λ others. cond (test' item) (item ∷ others) others) (filter-alike test test' items each.1)

each-map : {Item : Type 0} (Holds Holds' : Item → Type 0) (items : List Item) → ((item : Item) → Holds item → Holds' item) → Each Holds items → Each Holds' items
each-map Holds Holds' [] from each = tt
each-map Holds Holds' (item ∷ items) from each = (from item each.0, each-map Holds Holds' items from each.1)

module _ {Item : Type 0} (Holds : Item → Type 0) (cmp cmp' : Item → Item → Ordering)
    (agree : (one other : Item) → Holds one → Holds other → cmp one other ≡ cmp' one other) where
  others-alike : (unique : Bool) (item : Item) (items : List Item) → Holds item → Each Holds items → others_of cmp unique item items ≡ others_of cmp' unique item items
  others-alike true item items holds each =
      filter-alike (λ other. not (is_eq (cmp item other))) (λ other. not (is_eq (cmp' item other))) items
      (each-map Holds (λ other. not (is_eq (cmp item other)) ≡ not (is_eq (cmp' item other))) items (λ other holds'. ap (λ o. not (is_eq o)) (agree item other holds holds')) each)
  others-alike false item items holds each = refl

  sorted-alike : (unique : Bool) (items : List Item) → Each Holds items → sorted cmp unique items ≡ sorted cmp' unique items
  sorted-alike unique [] each = refl
  sorted-alike unique (item ∷ items) each =
      let there = each-sorted Holds cmp unique items each.1 in
      let left = each-others Holds cmp unique item (sorted cmp unique items) there in
      insert-alike cmp cmp' item (others_of cmp unique item (sorted cmp unique items))
      (each-map Holds (λ other. is_lt (cmp other item) ≡ is_lt (cmp' other item)) (others_of cmp unique item (sorted cmp unique items))
      (λ other holds'. ap is_lt (agree other item holds' each.0)) left)
      ∙ ap (insert cmp' item) (others-alike unique item (sorted cmp unique items) each.0 there ∙ ap (others_of cmp' unique item) (sorted-alike unique items each.1))

-- of places that rise, those that are equal but for where they stand keep their order
behind-each : (span : ℕ) (places : List LinePlace) → StandBehind span places → Each (λ (place : LinePlace). span < place.span) places
behind-each span [] behind = tt
behind-each span (place ∷ places) behind = (behind.0, behind-each span places behind.1)

are-each : (order : LineOrder) (text : List ℕ) (places : List LinePlace) → ArePlaces order text places → Each (IsPlace order text) places
are-each order text [] are = tt
are-each order text (place ∷ places) are = (are.0, are-each order text places are.1)

later : (o : Ordering) (one other : ℕ) → one < other → is_lt (ordering_then o (nat_cmp other one)) ≡ is_lt o
later Less one other after = refl
later Equal one other after = ap is_lt (sym (nat_cmp_is other one Greater after))
later Greater one other after = refl

module _ (order : LineOrder) (text : List ℕ) where
  rise-sorted : (end : ℕ) (places : List LinePlace) → RiseTo end places → sorted (place_cmp order text) false places ≡ sorted (tie_cmp order text) false places
  rise-sorted end [] rise = refl
  rise-sorted end (place ∷ places) rise =
      ap (insert (place_cmp order text) place) (rise-sorted end places rise.1.1)
      ∙ insert-alike (place_cmp order text) (tie_cmp order text) place (sorted (tie_cmp order text) false places)
      (each-map (λ (other : LinePlace). place.span < other.span) (λ other. is_lt (place_cmp order text other place) ≡ is_lt (tie_cmp order text other place))
      (sorted (tie_cmp order text) false places) (λ other after. later (tie_cmp order text other place) place.span other.span after)
      (each-sorted (λ (other : LinePlace). place.span < other.span) (tie_cmp order text) false places (behind-each place.span places rise.1.0)))

  -- what an unstable sort leaves
  all_same : (item : LinePlace) (items : List LinePlace) → equals (place_cmp order text) item items ≡ replicate (length (equals (place_cmp order text) item items)) item
  all_same item [] = refl
  all_same item (x ∷ items) = by_eq (is_eq (place_cmp order text item x)) refl (all_same item items)
    where
      Others : List LinePlace
      Others = equals (place_cmp order text) item items

      by_eq : (eq : Bool) → is_eq (place_cmp order text item x) ≡ eq → Others ≡ replicate (length Others) item
          → cond eq (x ∷ Others) Others ≡ replicate (length (cond eq (x ∷ Others) Others)) item
      by_eq true eq rest =
          λ i. sym (same_place order text item x (tied (place_cmp order text) (place_total order text) item x eq)) i ∷ rest i
      by_eq false eq rest = rest

  equals-moved : (item : LinePlace) (items list : List LinePlace) → IsPermutation items list → equals (place_cmp order text) item list ≡ equals (place_cmp order text) item items
  equals-moved item items list moved =
      all_same item list
      ∙ ap (λ count. replicate count item)
      (length-filter (λ x. is_eq (place_cmp order text item x)) list ∙ sum_by-IsPermutation (λ x. cond (is_eq (place_cmp order text item x)) 1 0) items list moved
      ∙ sym (length-filter (λ x. is_eq (place_cmp order text item x)) items))
      ∙ sym (all_same item items)

  unstable-is : (old new : List LinePlace) → IsPermutation old new → IsSortedBy (λ one other. is_lt (place_cmp order text one other)) new
      → new ≡ sorted (place_cmp order text) false old
  unstable-is old new moved up =
      only_sorted (place_cmp order text) (place_total order text) false old new
      (record { order = in_order-from (place_cmp order text) (place_total order text) new up; each = λ item. equals-moved item old new moved })

  lines-sorted : (unique : Bool) (old : List LinePlace) → ArePlaces order text old
      → lines_in text (sorted (tie_cmp order text) unique old) ≡ sorted (cmp_by order) unique (lines_in text old)
  lines-sorted unique old are =
      ap (lines_in text)
      (sorted-alike (IsPlace order text) (tie_cmp order text) (on (λ (place : LinePlace). line_in text place.span) (cmp_by order))
      (λ one other is is'. tie-is order text one other is is') unique old (are-each order text old are))
      ∙ map-sorted (λ (place : LinePlace). line_in text place.span) (cmp_by order) unique old

  pub all_places : (end : ℕ) (old new : List LinePlace) → order.unique ≡ false → ArePlaces order text old → RiseTo end old → IsPermutation old new
      → IsSortedBy (λ one other. is_lt (place_cmp order text one other)) new → lines_in text new ≡ sorted_by order (lines_in text old)
  all_places end old new all are rise moved up =
      ap (lines_in text) (unstable-is old new moved up ∙ rise-sorted end old rise) ∙ lines-sorted false old are
      ∙ ap (λ unique. sorted (cmp_by order) unique (lines_in text old)) (sym all)

  pub first_places : (end : ℕ) (old half new : List LinePlace) → order.unique ≡ true → ArePlaces order text old → RiseTo end old → IsPermutation old half
      → IsSortedBy (λ one other. is_lt (place_cmp order text one other)) half → new ≡ dedup (eq_by_cmp (tie_cmp order text)) half
      → lines_in text new ≡ sorted_by order (lines_in text old)
  first_places end old half new unique are rise moved up is =
      let whole : half ≡ sorted (tie_cmp order text) false old = unstable-is old half moved up ∙ rise-sorted end old rise in
      let first : new ≡ sorted (tie_cmp order text) true old =
      is ∙ ap (dedup (eq_by_cmp (tie_cmp order text))) whole
      ∙ only_sorted (tie_cmp order text) (tie_total order text) true old (dedup (eq_by_cmp (tie_cmp order text)) (sorted (tie_cmp order text) false old))
      (dedup_is (tie_cmp order text) (tie_total order text) old (sorted (tie_cmp order text) false old) (sorted_is (tie_cmp order text) (tie_total order text) false old)) in
      ap (lines_in text) first ∙ lines-sorted true old are ∙ ap (λ unique. sorted (cmp_by order) unique (lines_in text old)) (sym unique)

-- lines that are written
text-append : (text : List ℕ) (front back : List LinePlace)
    → text_of_lines (lines_in text (front ++ back)) ≡ text_of_lines (lines_in text front) ++ text_of_lines (lines_in text back)
text-append text [] back = refl
text-append text (place ∷ front) back =
    ap (λ rest. line_in text place.span ++ 10 ∷ rest) (text-append text front back)
    ∙ sym (append_assoc (line_in text place.span) (10 ∷ text_of_lines (lines_in text front)) (text_of_lines (lines_in text back)))

pub text-next : (text : List ℕ) (places : List LinePlace) (count : ℕ) (d : LinePlace) → count < length places
    → text_of_lines (lines_in text (take (count + 1) places)) ≡ text_of_lines (lines_in text (take count places)) ++ (line_in text (get_or places count d).span ++ 10 ∷ [])
text-next text places count d low =
    ap (λ front. text_of_lines (lines_in text front)) (take_more places count d low) ∙ text-append text (take count places) (get_or places count d ∷ [])

pub text-parts : (text : List ℕ) (places : List LinePlace) (count : ℕ)
    → text_of_lines (lines_in text places) ≡ text_of_lines (lines_in text (take count places)) ++ text_of_lines (lines_in text (drop count places))
text-parts text places count =
    ap (λ places. text_of_lines (lines_in text places)) (sym (take-append-drop count places)) ∙ text-append text (take count places) (drop count places)

-- nothing is left where no line is
some-line : (text : List ℕ) (place : LinePlace) (places : List LinePlace) → 0 < length (text_of_lines (lines_in text (place ∷ places)))
some-line text place places =
    let size = length-append (line_in text place.span) (10 ∷ text_of_lines (lines_in text places)) in omega (arith, size)

-- a piece of what is left
pub left-is : (places : List LinePlace) (given from : ℕ) → from ≡ min given (length places) → take (length places - from) (drop from places) ≡ drop given places
left-is places given from is = take_rest places from ∙ ap (λ from. drop from places) is ∙ drop_min given places

pub left-parts : (text : List ℕ) (places : List LinePlace) (given from count : ℕ) → from ≡ min given (length places)
    → left_behind text places given ≡ text_of_lines (lines_in text (take count (take (length places - from) (drop from places)))) ++ left_behind text places (from + count)
left-parts text places given from count is =
    ap (λ left. text_of_lines (lines_in text left)) (sym (left-is places given from is))
    ∙ text-parts text (take (length places - from) (drop from places)) count
    ∙ ap (λ left. text_of_lines (lines_in text (take count (take (length places - from) (drop from places)))) ++ text_of_lines (lines_in text (drop count left))) (take_rest places from)
    ∙ ap (λ left. text_of_lines (lines_in text (take count (take (length places - from) (drop from places)))) ++ text_of_lines (lines_in text left)) (drop-drop count from places)

-- and where some is left, a piece has some
front-some : (text : List ℕ) (left : List LinePlace) (count : ℕ) → 0 < length (text_of_lines (lines_in text left)) → (0 < length left → 0 < count)
    → 0 < length (text_of_lines (lines_in text (take count left)))
front-some text [] count some more = absurd (omega (arith, some))
front-some text (place ∷ left) zero some more = let none = more (omega arith) in absurd (omega (arith, none))
front-some text (place ∷ left) (suc count) some more = some-line text place (take count left)

pub piece-grows : (text : List ℕ) (places : List LinePlace) (given from count : ℕ) (old new : List ℕ) → from ≡ min given (length places)
    → (0 < length (take (length places - from) (drop from places)) → 0 < count)
    → Put (text_of_lines (lines_in text (take count (take (length places - from) (drop from places))))) old new true
    → 0 < length (left_behind text places given) → length old < length new
piece-grows text places given from count old new is more put some =
    let left : 0 < length (text_of_lines (lines_in text (take (length places - from) (drop from places)))) =
    subst (λ left. 0 < length (text_of_lines (lines_in text left))) (sym (left-is places given from is)) some in
    let front = front-some text (take (length places - from) (drop from places)) count left more in
    let size = ap length (put.grew refl) ∙ length-append old (text_of_lines (lines_in text (take count (take (length places - from) (drop from places))))) in
    omega (arith, front, size)

pub put-some : (was front now old new : List ℕ) → was ≡ front ++ now → Put front old new true → PutSome was now old new true
put-some was front now old new is put =
    let wrote : Wrote {Input = List ℕ} (λ _. was) (λ _. now) old new true = Wrote-put (λ _. was) (λ _. now) front old new true (λ _. is) put in
    record { kept = wrote.kept; grew = λ ok. wrote.grew ok []; part = wrote.part [] }

pub put-broken : (was front now now' old new : List ℕ) → was ≡ front ++ now → Put front old new false → PutSome was now' old new false
put-broken was front now now' old new is put =
    let wrote : Wrote {Input = List ℕ} (λ _. was) (λ _. now) old new false = Wrote-put (λ _. was) (λ _. now) front old new false (λ _. is) put in
    record { kept = wrote.kept; grew = λ ok. absurd (true≢false (sym ok)); part = wrote.part [] }

pub done-is : (text : List ℕ) (places : List LinePlace) (given : ℕ) → Decides (nat_le (length places) given) (left_behind text places given ≡ [])
done-is text places given = (all, none (nat_le (length places) given) refl)
  where
    all : nat_le (length places) given ≡ true → left_behind text places given ≡ []
    all past =
        let low : length places ≤ given = grind (arith, nat_tests) in
        ap (λ left. text_of_lines (lines_in text left)) (drop_all given places low)

    none : (past : Bool) → nat_le (length places) given ≡ past → left_behind text places given ≡ [] → past ≡ true
    none true _ _ = refl
    none false past empty =
        let low : given < length places = grind (arith, nat_tests) in
        let some = some_left places given low in
        let size : length (left_behind text places given) ≡ 0 = ap length empty in
        absurd (omega (arith, some, size))
      where
        some_left : (places : List LinePlace) (given : ℕ) → given < length places → 0 < length (left_behind text places given)
        some_left [] given low = absurd (omega (arith, low))
        some_left (place ∷ places) zero low = some-line text place places
        some_left (place ∷ places) (suc given) low = some_left places given (omega (arith, low))
