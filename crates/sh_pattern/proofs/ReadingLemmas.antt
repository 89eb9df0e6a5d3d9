-- A marked text reads as one pattern alone.
use Rattle.std.proofs.Common.{◌≡◌, ℕ, Bool, true, false, List, [], ◌∷◌, ◌++◌, Some, None, Option, MatchOption, Bor, refl, sym, ap, ◌∙◌, subst, arith}
use Rattle.std.proofs.lemmas.List.{append_assoc, append-nil}
use Rattle.std.proofs.lemmas.Bool.{false≢true}
use Rattle.std.proofs.lemmas.Bool.Decides.{nat_tests}
use Rattle.std.proofs.Math.Bool.{or-true}
use Rattle.sh_pattern.specs.declared.marks.Mark.{Mark}
use Rattle.sh_pattern.specs.declared.elements.Item.{Item}
use Rattle.sh_pattern.specs.declared.elements.Element.{Element}
use Rattle.sh_pattern.specs.declared.elements.Element.TheVariants as element
use Rattle.sh_pattern.specs.Marks.{is_unquoted, past}
use Rattle.sh_pattern.specs.Brackets.{next_item, first_item, is_close, IsItems, no_item, one_more, IsList, a_list}
use Rattle.sh_pattern.specs.Reading.{IsSet, matching, non_matching, IsNoSet, is_special, IsElement, ordinary, any_string, any_byte, bracket, open_bracket, Reads, nothing, element_first}

-- where a list ends no further item stands
ends_here : (close : Bool) (first : Mark) (text rest : List Mark) → is_close first ≡ close → past 93 (first ∷ text) ≡ Some rest → next_item (first ∷ text) ≡ None
ends_here true first text rest h e = rw h refl
ends_here false first text rest h e = let k : None ≡ Some rest = rw h at e in cc

pub no_item_at_end : (text rest : List Mark) → past 93 text ≡ Some rest → next_item text ≡ None
no_item_at_end [] rest e = refl
no_item_at_end (first ∷ text) rest e = ends_here (is_close first) first text rest refl e

-- two readings of one text say the same, and leave the same
pub record SameReading {A : Type 0} (a b : A) (r s : List Mark) : Type 0 where
  pub what : a ≡ b
  pub rest : r ≡ s

-- equal answers of something read and what follows it have equal parts
pub parts : {A : Type 0} {i j : A} {m n : List Mark} → ◌≡◌ {A = Option (A × List Mark)} (Some (i, m)) (Some (j, n)) → (i ≡ j) × (m ≡ n)
parts {A} {i} {j} {m} {n} e =
    let pair : ◌≡◌ {A = A × List Mark} (i, m) (j, n) = cc in (ap (λ (p : A × List Mark). p.0) pair, ap (λ (p : A × List Mark). p.1) pair)

one_more_same : {i j : Item} {is js : List Item} {m n r s : List Mark} → ◌≡◌ {A = Option (Item × List Mark)} (Some (i, m)) (Some (j, n)) → (m ≡ n → SameReading is js r s) → SameReading (i ∷ is) (j ∷ js) r s
one_more_same e rest = let both = parts e in let tail = rest both.1 in let head = both.0 in let others = tail.what in record { what = cc; rest = tail.rest }

pub same_items : {text r s : List Mark} {is js : List Item} → IsItems text is r → IsItems text js s → SameReading is js r s
same_items (no_item e) (no_item f) = record { what = refl; rest = cc }
same_items {text} {r} (no_item e) (one_more f g) = let h = no_item_at_end text r e in absurd cc
same_items {text} {r} {s} (one_more f g) (no_item e) = let h = no_item_at_end text s e in absurd cc
same_items {r = r} {s = s} (one_more {items = is} e f) (one_more {items = js} g h) =
    one_more_same (sym e ∙ g) (λ same. same_items f (subst (λ m. IsItems m js s) (sym same) h))

same_list : {text r s : List Mark} {is js : List Item} → IsList text is r → IsList text js s → SameReading is js r s
same_list {s = s} (a_list e f) (a_list {items = js} g h) =
    one_more_same (sym e ∙ g) (λ same. same_items f (subst (λ m. IsItems m js s) (sym same) h))

same_set : {text r s : List Mark} {a b : Element} → IsSet text a r → IsSet text b s → SameReading a b r s
same_set (matching e f) (matching g h) = let same = same_list f h in record { what = ap element.OneOf same.what; rest = same.rest }
same_set (matching e f) (non_matching g h) = absurd cc
same_set (non_matching e f) (matching g h) = absurd cc
same_set {s = s} (non_matching {rest = m} e f) (non_matching {rest = n} {items = js} g h) =
    let cut : n ≡ m = cc in let same = same_list f (subst (λ m. IsList m js s) cut h) in record { what = ap element.NoneOf same.what; rest = same.rest }

-- an unquoted byte is one byte
one_unquoted : (a b : ℕ) (m : Mark) → is_unquoted a m ≡ true → is_unquoted b m ≡ true → a ≡ b
one_unquoted a b m h k = grind (arith, nat_tests)

special_star : (m : Mark) → is_unquoted 42 m ≡ true → is_special m ≡ true
special_star m h = rw h refl

special_point : (m : Mark) → is_unquoted 63 m ≡ true → is_special m ≡ true
special_point m h = rw h (or-true _)

special_open : (m : Mark) → is_unquoted 91 m ≡ true → is_special m ≡ true
special_open m h = rw h (rw or-true (or-true _))

pub same_element : {text r s : List Mark} {a b : Element} → IsElement text a r → IsElement text b s → SameReading a b r s
same_element (ordinary {mark = mark} h) (ordinary k) = record { what = refl; rest = refl }
same_element (ordinary {mark = mark} h) (any_string k) = absurd (false≢true (sym h ∙ special_star mark k))
same_element (ordinary {mark = mark} h) (any_byte k) = absurd (false≢true (sym h ∙ special_point mark k))
same_element (ordinary {mark = mark} h) (bracket k kset) = absurd (false≢true (sym h ∙ special_open mark k))
same_element (ordinary {mark = mark} h) (open_bracket k knone) = absurd (false≢true (sym h ∙ special_open mark k))
same_element (any_string {mark = mark} h) (ordinary k) = absurd (false≢true (sym k ∙ special_star mark h))
same_element (any_string {mark = mark} h) (any_string k) = record { what = refl; rest = refl }
same_element (any_string {mark = mark} h) (any_byte k) = absurd (let e = one_unquoted 42 63 mark h k in omega (arith, e))
same_element (any_string {mark = mark} h) (bracket k kset) = absurd (let e = one_unquoted 42 91 mark h k in omega (arith, e))
same_element (any_string {mark = mark} h) (open_bracket k knone) = absurd (let e = one_unquoted 42 91 mark h k in omega (arith, e))
same_element (any_byte {mark = mark} h) (ordinary k) = absurd (false≢true (sym k ∙ special_point mark h))
same_element (any_byte {mark = mark} h) (any_string k) = absurd (let e = one_unquoted 63 42 mark h k in omega (arith, e))
same_element (any_byte {mark = mark} h) (any_byte k) = record { what = refl; rest = refl }
same_element (any_byte {mark = mark} h) (bracket k kset) = absurd (let e = one_unquoted 63 91 mark h k in omega (arith, e))
same_element (any_byte {mark = mark} h) (open_bracket k knone) = absurd (let e = one_unquoted 63 91 mark h k in omega (arith, e))
same_element (bracket {mark = mark} h hset) (ordinary k) = absurd (false≢true (sym k ∙ special_open mark h))
same_element (bracket {mark = mark} h hset) (any_string k) = absurd (let e = one_unquoted 91 42 mark h k in omega (arith, e))
same_element (bracket {mark = mark} h hset) (any_byte k) = absurd (let e = one_unquoted 91 63 mark h k in omega (arith, e))
same_element (bracket {mark = mark} h hset) (bracket k kset) = same_set hset kset
same_element (bracket {mark = mark} h hset) (open_bracket k knone) = absurd (knone _ _ hset)
same_element (open_bracket {mark = mark} h hnone) (ordinary k) = absurd (false≢true (sym k ∙ special_open mark h))
same_element (open_bracket {mark = mark} h hnone) (any_string k) = absurd (let e = one_unquoted 91 42 mark h k in omega (arith, e))
same_element (open_bracket {mark = mark} h hnone) (any_byte k) = absurd (let e = one_unquoted 91 63 mark h k in omega (arith, e))
same_element (open_bracket {mark = mark} h hnone) (bracket k kset) = absurd (hnone _ _ kset)
same_element (open_bracket {mark = mark} h hnone) (open_bracket k knone) = record { what = refl; rest = refl }

-- no element stands in no text
no_element_of_nothing : {P : Type 0} {e : Element} {r : List Mark} → IsElement [] e r → P
no_element_of_nothing e = elim e [ ]

-- the text reads as one pattern alone
pub one_reading : {text : List Mark} {p q : List Element} → Reads text p → Reads text q → p ≡ q
one_reading nothing nothing = refl
one_reading nothing (element_first e r) = no_element_of_nothing e
one_reading (element_first e r) nothing = no_element_of_nothing e
one_reading (element_first e r) (element_first {elements = q} f s) =
    let same = same_element e f in
    let others = one_reading r (subst (λ t. Reads t q) (sym same.rest) s) in
    let what = same.what in cc

-- the steps by which the code reads a list
pub begin_list : {text rest : List Mark} {item : Item} {items : List Item} → items ≡ item ∷ [] → first_item text ≡ Some (item, rest) → (others : List Item) (after : List Mark) → IsItems rest others after → IsList text (items ++ others) after
begin_list {text} {item = item} e first others after h = subst (λ is. IsList text (is ++ others) after) (sym e) (a_list first h)

pub rest_of_list : {text rest after : List Mark} {item : Item} {items : List Item} → first_item text ≡ Some (item, rest) → IsList text items after → (others : List Item) × IsItems rest others after
rest_of_list {after = after} first (a_list {items = others} e h) =
    let same = (parts (sym e ∙ first)).1 in (others, subst (λ t. IsItems t others after) same h)

pub rest_of_items : {text rest after : List Mark} {item : Item} {items : List Item} → next_item text ≡ Some (item, rest) → IsItems text items after → (others : List Item) × IsItems rest others after
rest_of_items {text} {after = after} next (no_item e) = let h = no_item_at_end text after e in absurd cc
rest_of_items {after = after} next (one_more {items = others} e h) =
    let same = (parts (sym e ∙ next)).1 in (others, subst (λ t. IsItems t others after) same h)

pub more_items : {start text rest : List Mark} {item : Item} {items : List Item} (before : List Item) → ((others : List Item) (after : List Mark) → IsItems text others after → IsList start (before ++ others) after) → items ≡ before ++ item ∷ [] → next_item text ≡ Some (item, rest) → (others : List Item) (after : List Mark) → IsItems rest others after → IsList start (items ++ others) after
more_items {start} {item = item} before read e next others after h =
    subst (λ is. IsList start is after) (sym (append_assoc before (item ∷ []) others) ∙ ap (λ is. is ++ others) (sym e)) (read (item ∷ others) after (one_more next h))

pub no_list : {text : List Mark} → next_item text ≡ None → past 93 text ≡ None → (items : List Item) (after : List Mark) → IsItems text items after → ⊥
no_list next close items after (no_item e) = cc
no_list next close items after (one_more e h) = cc

-- the end of a list: at its `]`, or where no further item stands
pub list_ended : {start text : List Mark} (items : List Item) (result : Option (Bor (List Mark)))
    → ((others : List Item) (after : List Mark) → IsItems text others after → IsList start (items ++ others) after)
    → ((list : List Item) (after : List Mark) → IsList start list after → (others : List Item) × IsItems text others after)
    → next_item text ≡ None
    → MatchOption result (past 93 text ≡ None) (λ rest. past 93 text ≡ Some rest.now)
    → MatchOption result ((list : List Item) (after : List Mark) → IsList start list after → ⊥) (λ after. IsList start items after.now)
list_ended items None read back next close = λ list after h. let left = back list after h in no_list next close left.0 after left.1
list_ended {start} items (Some rest) read back next close = subst (λ is. IsList start is rest.now) (append-nil items) (read [] rest.now (no_item close))

-- how the code finds a bracket expression, and an element
pub no_matching : {text : List Mark} → past 33 text ≡ None → ((list : List Item) (after : List Mark) → IsList text list after → ⊥) → IsNoSet text
no_matching first none set after (matching {items = items} e h) = none items after h
no_matching first none set after (non_matching e h) = cc

pub no_non_matching : {text rest : List Mark} → past 33 text ≡ Some rest → ((list : List Item) (after : List Mark) → IsList rest list after → ⊥) → IsNoSet text
no_non_matching first none set after (matching e h) = cc
no_non_matching {rest = rest} first none set after (non_matching {rest = left} {items = items} e h) =
    let same : left ≡ rest = cc in none items after (subst (λ t. IsList t items after) same h)

pub ruleset sets = (matching, non_matching, no_matching, no_non_matching)

pub ordinary_byte : {mark : Mark} {rest : List Mark} → is_unquoted 42 mark ≡ false → is_unquoted 63 mark ≡ false → is_unquoted 91 mark ≡ false → IsElement (mark ∷ rest) (element.Byte mark.byte) rest
ordinary_byte star point bracketed = ordinary (rw (star, point, bracketed) refl)

pub ruleset elements = (any_string, any_byte, bracket, open_bracket, ordinary_byte)

-- the steps by which the code reads a pattern
pub more_elements : {start text rest left : List Mark} {first : Mark} {element : Element} {elements : List Element} (before : List Element) → ((others : List Element) → Reads text others → Reads start (before ++ others)) → elements ≡ before ++ element ∷ [] → text ≡ first ∷ left → IsElement (first ∷ left) element rest → (others : List Element) → Reads rest others → Reads start (elements ++ others)
more_elements {start} {element = element} before read e cut h others reads =
    subst (λ es. Reads start es) (sym (append_assoc before (element ∷ []) others) ∙ ap (λ es. es ++ others) (sym e)) (read (element ∷ others) (subst (λ t. Reads t (element ∷ others)) (sym cut) (element_first h reads)))

pub all_elements : {start text : List Mark} (before : List Element) → ((others : List Element) → Reads text others → Reads start (before ++ others)) → text ≡ [] → Reads start before
all_elements {start} before read end = subst (λ es. Reads start es) (append-nil before) (read [] (subst (λ t. Reads t []) (sym end) nothing))
