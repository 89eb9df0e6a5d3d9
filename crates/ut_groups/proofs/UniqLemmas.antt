-- The groups of two parts, joined, are those of the whole: also where each part's are written and read again between.
use Rattle.std.proofs.Common.{◌≡◌, ℕ, ◌+◌, ◌==◌, ◌&&◌, ◌||◌, Bool, true, false, not, List, [], ◌∷◌, ◌++◌, map, drop, decimal, zero, suc, if◌then◌else◌, refl, ap, sym, ◌∙◌, append_assoc, append-nil, arith, subst}
use Rattle.std.proofs.lemmas.Bool.{and_parts, cond-true, cond-false, true≢false}
use Rattle.std.proofs.lemmas.Bool.Decides.{nat_tests}
use Rattle.std.proofs.lemmas.List.{map-append}
use Rattle.std.specs.Prelude.{⊤}
use Rattle.std.specs.Char.{is_ascii_digit}
use Rattle.std.specs.List.{flat_map, position_or_len}
use Rattle.std.specs.Str.{all_ascii_digits}
use Rattle.ps_lines.specs.Lines.{are_lines, has_newline, is_cutlist, lines, text_of_lines}
use Rattle.ps_lines.proofs.LineLemmas.{are_lines-lines, lines-text_of_lines, lines_of_cut}
use Rattle.ut_args.specs.declared.commands.UniqArgs.{UniqArgs}
use Rattle.ut_args.specs.declared.commands.Groups.{Groups}
use Rattle.ut_args.specs.declared.commands.Groups.TheVariants as groups
use Rattle.ut_groups.specs.declared.skips.Skip.{Skip}
use Rattle.ut_groups.specs.declared.forms.Form.{Form}
use Rattle.ut_groups.specs.declared.forms.Form.TheVariants as form
use Rattle.ut_groups.specs.Counting.{saturated}
use Rattle.ut_groups.specs.Groups.{Group, before_groups, group_of, group_text, grouped, is_same, line_of}
use Rattle.ut_groups.specs.Columns.{is_space, number_before}
use Rattle.ut_groups.specs.Inner.Open.{group_held}
use Rattle.ut_groups.specs.Uniq.{each_counted, form_kept, groups_kept, groups_of_lines, skip_of, uniq_finish, uniq_joined, uniq_output, uniq_part}
use Rattle.ut_groups.proofs.ColumnLemmas.{behind-number, decimal-digits, number-before}
use Rattle.ut_groups.proofs.CountingLemmas.{saturated-self}
use Rattle.ut_groups.proofs.GroupingLemmas.{same-others, text-alike}

-- groups may be joined with those before them in any order
module _ (skip : Skip) where
  pub joins-before : (group next : Group) → is_same skip group.first next.first ≡ true → (coming : List Group)
      → before_groups skip (group_held group.first (group.count + next.count)) coming ≡ before_groups skip group (before_groups skip next coming)
  joins-before group next same [] = sym (cond-true (is_same skip group.first next.first) (group_held group.first (group.count + next.count) ∷ []) (group ∷ next ∷ []) same)
  joins-before group next same (third ∷ others) = by_third (is_same skip next.first third.first) refl
    where
      by_third : (test : Bool) → is_same skip next.first third.first ≡ test
          → before_groups skip (group_held group.first (group.count + next.count)) (third ∷ others) ≡ before_groups skip group (before_groups skip next (third ∷ others))
      by_third true is =
          cond-true (is_same skip group.first third.first) (group_held group.first ((group.count + next.count) + third.count) ∷ others) (group_held group.first (group.count + next.count) ∷ third ∷ others) (same-others skip group.first next.first third.first same ∙ is)
          ∙ ap (λ count. group_held group.first count ∷ others) (omega arith)
          ∙ sym (cond-true (is_same skip group.first next.first) (group_held group.first (group.count + (next.count + third.count)) ∷ others) (group ∷ group_held next.first (next.count + third.count) ∷ others) same)
          ∙ ap (before_groups skip group) (sym (cond-true (is_same skip next.first third.first) (group_held next.first (next.count + third.count) ∷ others) (next ∷ third ∷ others) is))
      by_third false is =
          cond-false (is_same skip group.first third.first) (group_held group.first ((group.count + next.count) + third.count) ∷ others) (group_held group.first (group.count + next.count) ∷ third ∷ others) (same-others skip group.first next.first third.first same ∙ is)
          ∙ sym (cond-true (is_same skip group.first next.first) (group_held group.first (group.count + next.count) ∷ third ∷ others) (group ∷ next ∷ third ∷ others) same)
          ∙ ap (before_groups skip group) (sym (cond-false (is_same skip next.first third.first) (group_held next.first (next.count + third.count) ∷ others) (next ∷ third ∷ others) is))

  grouped-before : (group : Group) (behind more : List Group)
      → grouped skip (before_groups skip group behind ++ more) ≡ before_groups skip group (grouped skip (behind ++ more))
  grouped-before group [] more = refl
  grouped-before group (next ∷ others) more = by_next (is_same skip group.first next.first) refl
    where
      by_next : (test : Bool) → is_same skip group.first next.first ≡ test
          → grouped skip ((if test then group_held group.first (group.count + next.count) ∷ others else group ∷ next ∷ others) ++ more)
          ≡ before_groups skip group (before_groups skip next (grouped skip (others ++ more)))
      by_next true is = joins-before group next is (grouped skip (others ++ more))
      by_next false is = refl

  pub grouped-front : (front more : List Group) → grouped skip (grouped skip front ++ more) ≡ grouped skip (front ++ more)
  grouped-front [] more = refl
  grouped-front (group ∷ front) more =
      grouped-before group (grouped skip front) more ∙ ap (before_groups skip group) (grouped-front front more)

  pub grouped-back : (front more : List Group) → grouped skip (front ++ grouped skip more) ≡ grouped skip (front ++ more)
  grouped-back [] more = ap (grouped skip) (sym (append-nil (grouped skip more))) ∙ grouped-front more [] ∙ ap (grouped skip) (append-nil more)
  grouped-back (group ∷ front) more = ap (before_groups skip group) (grouped-back front more)

-- how a group is written, and what is read of it again
abbrev written_as : Form → Groups
written_as form.Plain = groups.All
written_as form.Counted = groups.Counted

abbrev count_as : Form → ℕ → ℕ
count_as form.Plain count = 1
count_as form.Counted count = saturated count

abbrev read_as : Form → Group → Group
read_as form group = group_held group.first (count_as form group.count)

abbrev shown_as : Form → Group → List ℕ
shown_as form.Plain group = group.first
shown_as form.Counted group = decimal (saturated group.count) ++ 32 ∷ group.first

text-shown : (form : Form) (group : Group) → group_text (written_as form) group ≡ shown_as form group ++ 10 ∷ []
text-shown form.Plain group = refl
text-shown form.Counted group = sym (append_assoc (decimal (saturated group.count)) (32 ∷ group.first) (10 ∷ []))

group-shown : (form : Form) (group : Group) → group_of form (shown_as form group) ≡ read_as form group
group-shown form.Plain group = refl
group-shown form.Counted group =
    ap (λ first. group_held first (number_before (decimal (saturated group.count) ++ 32 ∷ group.first))) (behind-number group.count group.first)
    ∙ ap (λ count. group_held group.first count) (number-before group.count group.first)

-- groups of lines, as no newline is in their first ones
abbrev AreOfLines : List Group → Type 0
AreOfLines [] = ⊤
AreOfLines (group ∷ others) = (has_newline group.first ≡ false) × AreOfLines others

newline-append : (front back : List ℕ) → has_newline front ≡ false → has_newline back ≡ false → has_newline (front ++ back) ≡ false
newline-append [] back plain none = none
newline-append (byte ∷ front) back plain none = by_first (byte == 10) plain (λ rest. newline-append front back rest none)
  where
    by_first : (test : Bool) → (test || has_newline front) ≡ false → (has_newline front ≡ false → has_newline (front ++ back) ≡ false) → (test || has_newline (front ++ back)) ≡ false
    by_first true plain rest = plain
    by_first false plain rest = rest plain

digit-newline : (byte : ℕ) → is_ascii_digit byte ≡ true → (byte == 10) ≡ false
digit-newline byte is = grind (arith, nat_tests)

digits-newline : (digits : List ℕ) → all_ascii_digits digits ≡ true → has_newline digits ≡ false
digits-newline [] are = refl
digits-newline (byte ∷ digits) are =
    let parts = and_parts (is_ascii_digit byte) (all_ascii_digits digits) are in
    ap (λ test. test || has_newline digits) (digit-newline byte parts.0) ∙ digits-newline digits parts.1

shown-newline : (form : Form) (group : Group) → has_newline group.first ≡ false → has_newline (shown_as form group) ≡ false
shown-newline form.Plain group plain = plain
shown-newline form.Counted group plain =
    newline-append (decimal (saturated group.count)) (32 ∷ group.first) (digits-newline (decimal (saturated group.count)) (decimal-digits group.count)) plain

abbrev written : Form → List Group → List ℕ
written form groups = flat_map (group_text (written_as form)) groups

written-shown : (form : Form) (groups : List Group) → written form groups ≡ text_of_lines (map (shown_as form) groups)
written-shown form [] = refl
written-shown form (group ∷ others) =
    ap (λ text. text ++ written form others) (text-shown form group)
    ∙ append_assoc (shown_as form group) (10 ∷ []) (written form others)
    ∙ ap (λ rest. shown_as form group ++ 10 ∷ rest) (written-shown form others)

shown-lines : (form : Form) (groups : List Group) → AreOfLines groups → are_lines (map (shown_as form) groups) ≡ true
shown-lines form [] are = refl
shown-lines form (group ∷ others) are =
    ap (λ test. not test && are_lines (map (shown_as form) others)) (shown-newline form group are.0) ∙ shown-lines form others are.1

lines-written : (form : Form) (groups : List Group) → AreOfLines groups → lines (written form groups) ≡ map (shown_as form) groups
lines-written form groups are = ap lines (written-shown form groups) ∙ lines-text_of_lines (map (shown_as form) groups) (shown-lines form groups are)

groups-shown : (form : Form) (groups : List Group) → map (group_of form) (map (shown_as form) groups) ≡ map (read_as form) groups
groups-shown form [] = refl
groups-shown form (group ∷ others) = λ i. group-shown form group i ∷ groups-shown form others i

pub groups-read : (form : Form) (groups : List Group) → AreOfLines groups → map (group_of form) (lines (written form groups)) ≡ map (read_as form) groups
groups-read form groups are = ap (map (group_of form)) (lines-written form groups are) ∙ groups-shown form groups

-- lines are groups of lines, and so are their groups
of-lines : (texts : List (List ℕ)) → are_lines texts ≡ true → AreOfLines (map (group_of form.Plain) texts)
of-lines [] are = tt
of-lines (line ∷ texts) are =
    let parts = and_parts (not (has_newline line)) (are_lines texts) are in (plain (has_newline line) parts.0, of-lines texts parts.1)
  where
    plain : (test : Bool) → not test ≡ true → test ≡ false
    plain true never = absurd (true≢false (sym never))
    plain false is = refl

before-lines : (skip : Skip) (group : Group) (behind : List Group) → has_newline group.first ≡ false → AreOfLines behind → AreOfLines (before_groups skip group behind)
before-lines skip group [] plain are = (plain, tt)
before-lines skip group (next ∷ others) plain are = by_next (is_same skip group.first next.first)
  where
    by_next : (test : Bool) → AreOfLines (if test then group_held group.first (group.count + next.count) ∷ others else group ∷ next ∷ others)
    by_next true = (plain, are.1)
    by_next false = (plain, are)

pub grouped-lines : (skip : Skip) (groups : List Group) → AreOfLines groups → AreOfLines (grouped skip groups)
grouped-lines skip [] are = tt
grouped-lines skip (group ∷ others) are = before-lines skip group (grouped skip others) are.0 (grouped-lines skip others are.1)

-- groups that are written alike
module _ (form : Form) where
  abbrev AreAlike : List Group → List Group → Type 0
  AreAlike [] [] = ⊤
  AreAlike [] (other ∷ others) = ⊥
  AreAlike (group ∷ groups) [] = ⊥
  AreAlike (group ∷ groups) (other ∷ others) = (group.first ≡ other.first) × ((count_as form group.count ≡ count_as form other.count) × AreAlike groups others)

  alike-self : (groups : List Group) → AreAlike groups groups
  alike-self [] = tt
  alike-self (group ∷ groups) = (refl, (refl, alike-self groups))

  alike-append : (front front' back : List Group) → AreAlike front front' → AreAlike (front ++ back) (front' ++ back)
  alike-append [] [] back are = alike-self back
  alike-append [] (other ∷ others) back are = absurd are
  alike-append (group ∷ groups) [] back are = absurd are
  alike-append (group ∷ groups) (other ∷ others) back are = (are.0, (are.1.0, alike-append groups others back are.1.1))

  alike-behind : (front back back' : List Group) → AreAlike back back' → AreAlike (front ++ back) (front ++ back')
  alike-behind [] back back' are = are
  alike-behind (group ∷ front) back back' are = (refl, (refl, alike-behind front back back' are))

count-again : (form : Form) (count : ℕ) → count_as form (count_as form count) ≡ count_as form count
count-again form.Plain count = refl
count-again form.Counted count = saturated-self count

count-sum : (form : Form) (one other one' other' : ℕ) → count_as form one ≡ count_as form one' → count_as form other ≡ count_as form other'
    → count_as form (one + other) ≡ count_as form (one' + other')
count-sum form.Plain one other one' other' same same' = refl
count-sum form.Counted one other one' other' same same' = omega arith

alike-read : (form : Form) (groups : List Group) → AreAlike form (map (read_as form) groups) groups
alike-read form [] = tt
alike-read form (group ∷ groups) = (refl, (count-again form group.count, alike-read form groups))

alike-before : (form : Form) (skip : Skip) (group other : Group) (behind behind' : List Group) → group.first ≡ other.first
    → count_as form group.count ≡ count_as form other.count → AreAlike form behind behind'
    → AreAlike form (before_groups skip group behind) (before_groups skip other behind')
alike-before form skip group other [] [] first count are = (first, (count, tt))
alike-before form skip group other [] (next' ∷ others') first count are = absurd are
alike-before form skip group other (next ∷ others) [] first count are = absurd are
alike-before form skip group other (next ∷ others) (next' ∷ others') first count are =
    by_next (is_same skip group.first next.first) (is_same skip other.first next'.first) (λ i. is_same skip (first i) (are.0 i))
  where
    by_next : (test test' : Bool) → test ≡ test'
        → AreAlike form (if test then group_held group.first (group.count + next.count) ∷ others else group ∷ next ∷ others)
        (if test' then group_held other.first (other.count + next'.count) ∷ others' else other ∷ next' ∷ others')
    by_next true true same = (first, (count-sum form group.count next.count other.count next'.count count are.1.0, are.1.1))
    by_next true false same = absurd (true≢false same)
    by_next false true same = absurd (true≢false (sym same))
    by_next false false same = (first, (count, are))

alike-grouped : (form : Form) (skip : Skip) (groups others : List Group) → AreAlike form groups others → AreAlike form (grouped skip groups) (grouped skip others)
alike-grouped form skip [] [] are = tt
alike-grouped form skip [] (other ∷ others) are = absurd are
alike-grouped form skip (group ∷ groups) [] are = absurd are
alike-grouped form skip (group ∷ groups) (other ∷ others) are =
    alike-before form skip group other (grouped skip groups) (grouped skip others) are.0 are.1.0 (alike-grouped form skip groups others are.1.1)

text-as : (form : Form) (group other : Group) → group.first ≡ other.first → count_as form group.count ≡ count_as form other.count
    → group_text (written_as form) group ≡ group_text (written_as form) other
text-as form.Plain group other first count = ap line_of first
text-as form.Counted group other first count = λ i. decimal (count i) ++ 32 ∷ line_of (first i)

written-alike : (form : Form) (groups others : List Group) → AreAlike form groups others → written form groups ≡ written form others
written-alike form [] [] are = refl
written-alike form [] (other ∷ others) are = absurd are
written-alike form (group ∷ groups) [] are = absurd are
written-alike form (group ∷ groups) (other ∷ others) are = λ i. text-as form group other are.0 are.1.0 i ++ written-alike form groups others are.1.1 i

-- groups that were written and are read again are joined with others as they would have been
module _ (shape : Form) (skip : Skip) where
  pub read-front : (groups more : List Group) → AreOfLines groups
      → written shape (grouped skip (map (group_of shape) (lines (written shape (grouped skip groups))) ++ more)) ≡ written shape (grouped skip (groups ++ more))
  read-front groups more are =
      ap (λ read. written shape (grouped skip (read ++ more))) (groups-read shape (grouped skip groups) (grouped-lines skip groups are))
      ∙ written-alike shape (grouped skip (map (read_as shape) (grouped skip groups) ++ more)) (grouped skip (grouped skip groups ++ more))
      (alike-grouped shape skip (map (read_as shape) (grouped skip groups) ++ more) (grouped skip groups ++ more) (alike-append shape (map (read_as shape) (grouped skip groups)) (grouped skip groups) more (alike-read shape (grouped skip groups))))
      ∙ ap (written shape) (grouped-front skip groups more)

  pub read-back : (front groups : List Group) → AreOfLines groups
      → written shape (grouped skip (front ++ map (group_of shape) (lines (written shape (grouped skip groups))))) ≡ written shape (grouped skip (front ++ groups))
  read-back front groups are =
      ap (λ read. written shape (grouped skip (front ++ read))) (groups-read shape (grouped skip groups) (grouped-lines skip groups are))
      ∙ written-alike shape (grouped skip (front ++ map (read_as shape) (grouped skip groups))) (grouped skip (front ++ grouped skip groups))
      (alike-grouped shape skip (front ++ map (read_as shape) (grouped skip groups)) (front ++ grouped skip groups) (alike-behind shape front (map (read_as shape) (grouped skip groups)) (grouped skip groups) (alike-read shape (grouped skip groups))))
      ∙ ap (written shape) (grouped-back skip front groups)

  abbrev of_text : List ℕ → List Group
  of_text text = map (group_of form.Plain) (lines text)

  of_text-lines : (text : List ℕ) → AreOfLines (of_text text)
  of_text-lines text = of-lines (lines text) (are_lines-lines text)

  -- the groups of a text are those of its parts, joined
  pub parts-joined : (front back : List ℕ) → is_cutlist (front ∷ back ∷ []) ≡ true
      → written shape (grouped skip (of_text (front ++ back)))
      ≡ written shape (grouped skip (map (group_of shape) (lines (written shape (grouped skip (of_text front))) ++ lines (written shape (grouped skip (of_text back))))))
  parts-joined front back cut =
      ap (λ texts. written shape (grouped skip (map (group_of form.Plain) texts))) (lines_of_cut front back cut)
      ∙ ap (λ all. written shape (grouped skip all)) (map-append (group_of form.Plain) (lines front) (lines back))
      ∙ sym (read-front (of_text front) (of_text back) (of_text-lines front))
      ∙ sym (read-back (map (group_of shape) (lines (written shape (grouped skip (of_text front))))) (of_text back) (of_text-lines back))
      ∙ ap (λ all. written shape (grouped skip all)) (sym (map-append (group_of shape) (lines (written shape (grouped skip (of_text front)))) (lines (written shape (grouped skip (of_text back))))))

-- lines that are counted groups are groups of lines too
newline-behind : (text : List ℕ) (count : ℕ) → has_newline text ≡ false → has_newline (drop count text) ≡ false
newline-behind text zero plain = plain
newline-behind [] (suc count) plain = plain
newline-behind (byte ∷ text) (suc count) plain = newline-behind text count (rest (byte == 10) plain)
  where
    rest : (test : Bool) → (test || has_newline text) ≡ false → has_newline text ≡ false
    rest true never = absurd (true≢false never)
    rest false is = is

are-of-lines : (shape : Form) (texts : List (List ℕ)) → are_lines texts ≡ true → AreOfLines (map (group_of shape) texts)
are-of-lines shape [] are = tt
are-of-lines shape (line ∷ texts) are =
    let parts = and_parts (not (has_newline line)) (are_lines texts) are in (by_form shape (plain (has_newline line) parts.0), are-of-lines shape texts parts.1)
  where
    plain : (test : Bool) → not test ≡ true → test ≡ false
    plain true never = absurd (true≢false (sym never))
    plain false is = refl

    by_form : (shape : Form) → has_newline line ≡ false → has_newline (group_of shape line).first ≡ false
    by_form form.Plain is = is
    by_form form.Counted is = newline-behind line (position_or_len is_space line + 1) is

kept-as : (groups : Groups) → groups_kept groups ≡ written_as (form_kept groups)
kept-as groups.All = refl
kept-as groups.Counted = refl
kept-as groups.Repeated = refl
kept-as groups.Single = refl

pub uniq-joins : (args : UniqArgs) (front back : List ℕ) → is_cutlist (front ∷ back ∷ []) ≡ true
    → uniq_part args (front ++ back) ≡ uniq_joined args (uniq_part args front) (uniq_part args back)
uniq-joins args front back cut =
    subst (λ groups. groups_of_lines (skip_of args) form.Plain groups (lines (front ++ back))
    ≡ groups_of_lines (skip_of args) (form_kept args.groups) groups
    (lines (groups_of_lines (skip_of args) form.Plain groups (lines front)) ++ lines (groups_of_lines (skip_of args) form.Plain groups (lines back))))
    (sym (kept-as args.groups)) (parts-joined (form_kept args.groups) (skip_of args) front back cut)

-- lines that were grouped are grouped with others as if they hadn't been
pub groups-again : (args : UniqArgs) (front back : List (List ℕ)) → are_lines front ≡ true
    → groups_of_lines (skip_of args) (form_kept args.groups) (groups_kept args.groups)
    (lines (groups_of_lines (skip_of args) (form_kept args.groups) (groups_kept args.groups) front) ++ back)
    ≡ groups_of_lines (skip_of args) (form_kept args.groups) (groups_kept args.groups) (front ++ back)
groups-again args front back are =
    subst (λ groups. groups_of_lines (skip_of args) (form_kept args.groups) groups
    (lines (groups_of_lines (skip_of args) (form_kept args.groups) groups front) ++ back)
    ≡ groups_of_lines (skip_of args) (form_kept args.groups) groups (front ++ back))
    (sym (kept-as args.groups)) (again (form_kept args.groups) (skip_of args))
  where
    again : (shape : Form) (skip : Skip)
        → groups_of_lines skip shape (written_as shape) (lines (groups_of_lines skip shape (written_as shape) front) ++ back) ≡ groups_of_lines skip shape (written_as shape) (front ++ back)
    again shape skip =
        ap (λ all. written shape (grouped skip all)) (map-append (group_of shape) (lines (written shape (grouped skip (map (group_of shape) front)))) back)
        ∙ read-front shape skip (map (group_of shape) front) (map (group_of shape) back) (are-of-lines shape front are)
        ∙ ap (λ all. written shape (grouped skip all)) (sym (map-append (group_of shape) front back))

-- and the finish chooses by the counts
module _ (kind : Groups) where
  chosen-again : (found : List Group) → flat_map (λ line. group_text kind (group_of form.Counted line)) (map (shown_as form.Counted) found) ≡ flat_map (group_text kind) found
  chosen-again [] = refl
  chosen-again (group ∷ found) =
      λ i. (ap (group_text kind) (group-shown form.Counted group) ∙ text-alike kind group.first (saturated group.count) group.count (saturated-self group.count)) i
      ++ chosen-again found i

  each-chosen : (skip : Skip) (text : List ℕ)
      → groups_of_lines skip form.Plain kind (lines text) ≡ each_counted kind (groups_of_lines skip form.Plain groups.Counted (lines text))
  each-chosen skip text =
      sym (chosen-again (grouped skip (map (group_of form.Plain) (lines text))))
      ∙ ap (flat_map (λ line. group_text kind (group_of form.Counted line)))
      (sym (lines-written form.Counted (grouped skip (map (group_of form.Plain) (lines text))) (grouped-lines skip (map (group_of form.Plain) (lines text)) (of-lines (lines text) (are_lines-lines text)))))

finished : (skip : Skip) (kind : Groups) (text : List ℕ)
    → groups_of_lines skip form.Plain kind (lines text) ≡ uniq_finish kind (groups_of_lines skip form.Plain (groups_kept kind) (lines text))
finished skip groups.All text = refl
finished skip groups.Counted text = refl
finished skip groups.Repeated text = each-chosen groups.Repeated skip text
finished skip groups.Single text = each-chosen groups.Single skip text

pub uniq-finished : (args : UniqArgs) (text : List ℕ) → uniq_output args text ≡ uniq_finish args.groups (uniq_part args text)
uniq-finished args text = finished (skip_of args) args.groups text
