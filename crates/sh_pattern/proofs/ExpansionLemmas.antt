-- Path expansion: how the parts of the walk make the whole.
use Rattle.std.proofs.Common.{◌≡◌, ◌↔◌, ◌⊎◌, ◌≢◌, ◌&&◌, ◌||◌, not, ℕ, ◌+◌, ◌-◌, ◌<◌, zero, suc, get_or, Bool, true, false, cond, Result, Ok, Err, OnOk, IfOk, List, [], ◌∷◌, ◌++◌, length, take, drop, map, Option, Some, None, refl, sym, ap, subst, ◌∙◌, inl, inr, arith}
use Rattle.std.specs.Option.{IfSome}
use Rattle.std.specs.List.{list_any, list_all, position, position_or_len, onto_first, count_by}
use Rattle.std.proofs.lemmas.List.{take_rest, take_more, append_assoc, append-nil}
use Rattle.std.proofs.lemmas.List.Splits.{slice_split_first}
use Rattle.std.proofs.lemmas.Bool.{false≢true}
use Rattle.std.proofs.lemmas.List.Sums.{sum_by-cons}
use Rattle.std.proofs.lemmas.List.Filters.{dedup_is}
use Rattle.std.proofs.lemmas.List.Kept.{IsStrictlySortedBy-dedup}
use Rattle.std.proofs.lemmas.List.Sorted.{list_any-IsPermutation}
use Rattle.std.proofs.lemmas.Slice.Eq.{bytes_eq-Decides}
use Rattle.std.proofs.lemmas.Map.Text.{is_eq-slice_cmp}
use Rattle.std.proofs.Math.Bool.{or-true}
use Rattle.std.specs.List.{dedup, dedup_from, AllByRecursion}
use Rattle.std.specs.List.Retain.{IsFiltered, DiffersFromLast}
use Rattle.std.specs.List.Sorted.{IsPermutation, IsSorted, IsStrictlySortedBy}
use Rattle.std.specs.Ordering.{nat_cmp}
use Rattle.std.specs.Cmp.{nat_cmp_total, on_total}
use Rattle.std.specs.Cmp.Lexicographic.{slice_cmp, lists_total}
use Rattle.std.specs.declared.cmp.Ordering.{Ordering}
use Rattle.std.specs.declared.cmp.Ordering.TheVariants.{Less}
use Rattle.std.specs.Option.{is_some}
use Rattle.ps_lines.specs.Texts.{texts_of}
use Rattle.std.specs.Global.{Vec}
use Rattle.std.specs.FinMap as map
use Rattle.std.specs.Str.{bytes_eq}
use Rattle.ps_world.specs.Paths.{Components, slash, has_slash, is_name, stays, goes_up}
use Rattle.ps_world.specs.Files.{Files, Node, Bytes, Directory, WriterOut, kind_of, kind_at, IsListing, IsDirAt}
use Rattle.ps_world.specs.Places.{start_of}
use Rattle.ps_world.specs.declared.tree.Kind.{Kind}
use Rattle.ps_world.specs.declared.tree.Kind.TheVariants as kind
use Rattle.ps_world.proofs.WritingLemmas.{is_dir_at}
use Rattle.ps_world.proofs.PlacesLemmas.{list_any-before_first, slice_split-alone, position-first, position-none}
use Rattle.sh_pattern.specs.declared.marks.Mark.{Mark}
use Rattle.sh_pattern.specs.declared.elements.Element.{Element}
use Rattle.sh_pattern.specs.declared.expansion.Found.{Found}
use Rattle.sh_pattern.specs.Fits.{Fits}
use Rattle.sh_pattern.specs.Reading.{Reads}
use Rattle.sh_pattern.specs.PathExpansion.{bytes_of, is_slash_mark, HasNoSlash, components_of, has_special, begins_with_period, existing, place_in, FitsComponent, LeadsAsWritten, LeadsByPattern, Leads, Names, IsAmong, AreNamed, Expands, unlooked, matched, unmatched}
use Rattle.sh_pattern.specs.Finding.{IsFound, IsText, Adds, LeadsOn, Follows, FollowsAll, AddsFitting, GoesOn}

-- the first component of a text is what stands before its first slash
pub first_part : (text : List Mark) (end : ℕ) → Some end ≡ position is_slash_mark text → end < length text
    → (components_of text ≡ take end text ∷ components_of (take (length text - (end + 1)) (drop (end + 1) text))) × HasNoSlash (take end text)
first_part text end found within =
    let is : end ≡ position_or_len is_slash_mark text = position-first is_slash_mark text end found in
    let inside : position_or_len is_slash_mark text < length text = omega arith in
    (rw (take_rest text (end + 1), is) (slice_split_first is_slash_mark text (record { byte = 0; quoted = false }) inside), rw is (list_any-before_first is_slash_mark text))

-- without a slash the text is one component
pub last_part : (text : List Mark) → None ≡ position is_slash_mark text → (components_of text ≡ text ∷ []) × HasNoSlash text
last_part text none =
    let part : HasNoSlash text = position-none is_slash_mark text none in (slice_split-alone is_slash_mark text part, part)

-- a text has a slash as its bytes have one
pub same_slashes : (text : List Mark) → has_slash (bytes_of text) ≡ list_any is_slash_mark text
same_slashes [] = refl
same_slashes (first ∷ rest) = rw (same_slashes rest) refl

-- a name fits the component where it fits the one pattern that this reads as
pub fits_by : {component : List Mark} {pattern : List Element} {name : List ℕ} (result : Bool) → Reads component pattern
    → ((other : List Element) → Reads component other → other ≡ pattern) → (begins_with_period name ≡ true → begins_with_period (bytes_of component) ≡ true)
    → ((result ≡ true) ↔ Fits pattern name) → (result ≡ true) ↔ FitsComponent component name
fits_by {name = name} result reads only period is = (
  λ yes. record { pattern = _; reads = reads; fits = is.0 yes; period = period },
  λ fit. is.1 (subst (λ p. Fits p name) (only fit.pattern fit.reads) fit.fits),
)

pub no_fit : {component : List Mark} {name : List ℕ} → begins_with_period name ≡ true → begins_with_period (bytes_of component) ≡ false → FitsComponent component name → ⊥
no_fit first none fit = false≢true (sym none ∙ fit.period first)

-- one more that is found
more_found : (found : List Found) (one : Found) (place : Components) (text : List ℕ)
    → IsFound (found ++ one ∷ []) place text → IsFound found place text ⊎ ((one.place ≡ place) × (one.text.items ≡ text))
more_found [] one place text (inl is) = inr is
more_found [] one place text (inr none) = absurd none
more_found (first ∷ others) one place text (inl is) = inl (inl is)
more_found (first ∷ others) one place text (inr later) = elim (more_found others one place text later) [ inl there ↦ inl (inr there) | inr is ↦ inr is ]

still_found : (found : List Found) (one : Found) (place : Components) (text : List ℕ)
    → IsFound found place text ⊎ ((one.place ≡ place) × (one.text.items ≡ text)) → IsFound (found ++ one ∷ []) place text
still_found [] one place text (inl none) = absurd none
still_found [] one place text (inr is) = inl is
still_found (first ∷ others) one place text (inl (inl is)) = inl is
still_found (first ∷ others) one place text (inl (inr later)) = inr (still_found others one place text (inl later))
still_found (first ∷ others) one place text (inr is) = inr (still_found others one place text (inr is))

pub adds : (old : List Found) {new : List Found} (one : Found) {spelled : List ℕ} → new ≡ old ++ one ∷ [] → one.text.items ≡ spelled → Adds old new one.place spelled
adds old {new} one {spelled} is text place spelling = (
  λ found. elim (more_found old one place spelling (subst (λ fs. IsFound fs place spelling) is found)) [ inl there ↦ inl there | inr here ↦ inr (here.0, sym text ∙ here.1) ],
  λ found. subst (λ fs. IsFound fs place spelling) (sym is) (still_found old one place spelling (elim found [ inl there ↦ inl there | inr here ↦ inr (here.0, text ∙ here.1) ])),
)

-- one more name
more_among : (names : List (List ℕ)) (one name : List ℕ) → IsAmong (names ++ one ∷ []) name → IsAmong names name ⊎ (one ≡ name)
more_among [] one name (inl is) = inr is
more_among [] one name (inr none) = absurd none
more_among (first ∷ others) one name (inl is) = inl (inl is)
more_among (first ∷ others) one name (inr later) = elim (more_among others one name later) [ inl there ↦ inl (inr there) | inr is ↦ inr is ]

still_among : (names : List (List ℕ)) (one name : List ℕ) → IsAmong names name ⊎ (one ≡ name) → IsAmong (names ++ one ∷ []) name
still_among [] one name (inl none) = absurd none
still_among [] one name (inr is) = inl is
still_among (first ∷ others) one name (inl (inl is)) = inl is
still_among (first ∷ others) one name (inl (inr later)) = inr (still_among others one name (inl later))
still_among (first ∷ others) one name (inr is) = inr (still_among others one name (inr is))

-- where a component doesn't lead on, nothing more is found
nothing_more : {files : Files} (from : Found) {component : List Mark} {ending : List ℕ} (old : List Found)
    → ((place : Components) (text : List ℕ) → LeadsOn files from.place from.text.items component ending place text → ⊥) → Follows files from component ending old old
nothing_more from old none place text = (λ found. inl found, λ found. elim found [ inl there ↦ there | inr on ↦ absurd (none place text on) ])

pub directory_there : (held : Option Files) (dir : Components) → IfSome held (λ files. kind_at files dir ≡ kind.Dir) → IfSome held (λ files. IsDirAt files dir)
directory_there None dir is = tt
directory_there (Some files) dir is = is_dir_at files dir is

pub no_directory : (held : Option Files) (from : Found) (component : List Mark) (ending : List ℕ) (old : List Found) (is : Kind)
    → is ≢ kind.Dir → IfSome held (λ files. is ≡ kind_at files from.place) → IfSome held (λ files. Follows files from component ending old old)
no_directory None from component ending old is other at = tt
no_directory (Some files) from component ending old is other at = nothing_more from old (λ place text on. other (at ∙ on.leads.directory))

-- a component without pattern bytes leads to one place or to none
as_written : {files : Files} {dir place : Components} {component : List Mark} {name : List ℕ} → has_special component ≡ false → Leads files dir component name place → LeadsAsWritten files dir component name place
as_written plain leads = elim leads.how [ inl written ↦ written | inr fit ↦ absurd (false≢true (sym plain ∙ fit.special)) ]

by_pattern : {files : Files} {dir place : Components} {component : List Mark} {name : List ℕ} → has_special component ≡ true → Leads files dir component name place → LeadsByPattern files dir component name place
by_pattern special leads = elim leads.how [ inl written ↦ absurd (false≢true (sym written.plain ∙ special)) | inr fit ↦ fit ]

pub same_place : {one other : Components} → Some one ≡ Some other → one ≡ other
same_place is = cc

pub written_on : (held : Option Files) (from : Found) (component : List Mark) (ending name : List ℕ) (there : Components) (old new : List Found)
    → has_special component ≡ false → name ≡ bytes_of component → IfSome held (λ files. kind_at files from.place ≡ kind.Dir)
    → IfSome held (λ files. Some there ≡ place_in files from.place name) → Adds old new there (from.text.items ++ (name ++ ending))
    → IfSome held (λ files. Follows files from component ending old new)
written_on None from component ending name there old new plain is at named added = tt
written_on (Some files) from component ending name there old new plain is at named added = λ place text. (
  λ found. elim ((added place text).0 found) [
    | inl before ↦ inl before
    | inr here ↦ inr (record { name = name; leads = record { directory = at; how = inl (record { plain = plain; spelled = is; named = sym named ∙ ap (λ (p : Components). Some p) here.0 }) }; spelled = here.1 })
  ],
  λ found. (added place text).1 (elim found [
    | inl before ↦ inl before
    | inr on ↦ inr (
        let written = as_written plain on.leads in
        let same : name ≡ on.name = is ∙ sym written.spelled in
        (same_place (named ∙ ap (place_in files from.place) same ∙ written.named), ap (λ n. from.text.items ++ (n ++ ending)) same ∙ on.spelled))
  ]),
)

pub written_off : (held : Option Files) (from : Found) (component : List Mark) (ending name : List ℕ) (old : List Found)
    → has_special component ≡ false → name ≡ bytes_of component → IfSome held (λ files. None ≡ place_in files from.place name)
    → IfSome held (λ files. Follows files from component ending old old)
written_off None from component ending name old plain is nowhere = tt
written_off (Some files) from component ending name old plain is nowhere = nothing_more from old (λ place text on.
    let written = as_written plain on.leads in
    let same : name ≡ on.name = is ∙ sym written.spelled in
    let never : None ≡ Some place = nowhere ∙ ap (place_in files from.place) same ∙ written.named in cc)

-- the names of a directory, one after another
pub none_fit : (from : Found) (component : List Mark) (ending : List ℕ) (old : List Found) → AddsFitting [] from component ending old old
none_fit from component ending old place text = (λ found. inl found, λ found. elim found [ inl there ↦ there | inr one ↦ absurd one.listed ])

pub one_fits : (names : List (List ℕ)) (name : List ℕ) (from : Found) (component : List Mark) (ending : List ℕ) (old mid new : List Found)
    → AddsFitting names from component ending old mid → FitsComponent component name
    → Adds mid new (from.place ++ name ∷ []) (from.text.items ++ (name ++ ending)) → AddsFitting (names ++ name ∷ []) from component ending old new
one_fits names name from component ending old mid new before fit added place text = (
  λ found. elim ((added place text).0 found) [
    | inl there ↦ elim ((before place text).0 there) [
      | inl first ↦ inl first
      | inr one ↦ inr (record { name = one.name; listed = still_among names name one.name (inl one.listed); fits = one.fits; there = one.there; spelled = one.spelled })
    ]
    | inr here ↦ inr (record { name = name; listed = still_among names name name (inr refl); fits = fit; there = here.0; spelled = here.1 })
  ],
  λ found. (added place text).1 (elim found [
    | inl first ↦ inl ((before place text).1 (inl first))
    | inr one ↦ elim (more_among names name one.name one.listed) [
      | inl listed ↦ inl ((before place text).1 (inr (record { name = one.name; listed = listed; fits = one.fits; there = one.there; spelled = one.spelled })))
      | inr same ↦ inr (ap (λ n. from.place ++ n ∷ []) same ∙ one.there, ap (λ n. from.text.items ++ (n ++ ending)) same ∙ one.spelled)
    ]
  ]),
)

pub one_fails : (names : List (List ℕ)) (name : List ℕ) (from : Found) (component : List Mark) (ending : List ℕ) (old mid : List Found)
    → AddsFitting names from component ending old mid → (FitsComponent component name → ⊥) → AddsFitting (names ++ name ∷ []) from component ending old mid
one_fails names name from component ending old mid before none place text = (
  λ found. elim ((before place text).0 found) [
    | inl first ↦ inl first
    | inr one ↦ inr (record { name = one.name; listed = still_among names name one.name (inl one.listed); fits = one.fits; there = one.there; spelled = one.spelled })
  ],
  λ found. (before place text).1 (elim found [
    | inl first ↦ inl first
    | inr one ↦ elim (more_among names name one.name one.listed) [
      | inl listed ↦ inr (record { name = one.name; listed = listed; fits = one.fits; there = one.there; spelled = one.spelled })
      | inr same ↦ absurd (none (subst (FitsComponent component) (sym same) one.fits))
    ]
  ]),
)

both_true : (one other : Bool) → (one && other) ≡ true → (one ≡ true) × (other ≡ true)
both_true true other is = (refl, is)
both_true false other is = absurd (false≢true is)

not_false : (test : Bool) → not test ≡ true → test ≡ false
not_false true is = absurd (false≢true is)
not_false false is = refl

each_name : (names : List (List ℕ)) (name : List ℕ) → list_all is_name names ≡ true → IsAmong names name → is_name name ≡ true
each_name [] name all listed = absurd listed
each_name (first ∷ others) name all (inl is) = subst (λ n. is_name n ≡ true) is (both_true (is_name first) (list_all is_name others) all).0
each_name (first ∷ others) name all (inr later) = each_name others name (both_true (is_name first) (list_all is_name others) all).1 later

-- a name that may stand in a directory leads to what has it there
pub place_of_name : (files : Files) (dir : Components) (name : List ℕ) → is_name name ≡ true → place_in files dir name ≡ existing (kind_at files (dir ++ name ∷ [])) (dir ++ name ∷ [])
place_of_name files dir name proper =
    let parts = both_true (not (stays name)) (not (goes_up name) && not (has_slash name)) proper in
    let others = both_true (not (goes_up name)) (not (has_slash name)) parts.1 in
    rw (not_false (stays name) parts.0, not_false (goes_up name) others.0) refl

there_exists : (node : Option Node) (path : Components) → is_some node ≡ true → existing (kind_of node) path ≡ Some path
there_exists None path some = absurd (false≢true some)
there_exists (Some (Bytes bytes)) path some = refl
there_exists (Some Directory) path some = refl
there_exists (Some WriterOut) path some = refl

pub exists_there : (node : Option Node) (path place : Components) → existing (kind_of node) path ≡ Some place → (is_some node ≡ true) × (path ≡ place)
exists_there None path place is = absurd (cc)
exists_there (Some (Bytes bytes)) path place is = (refl, same_place is)
exists_there (Some Directory) path place is = (refl, same_place is)
exists_there (Some WriterOut) path place is = (refl, same_place is)

-- a name is counted in a list exactly where it is among its names
counted_first : (others : ℕ) (same : Bool) → same ≡ true → 0 < cond same 1 0 + others
counted_first others true is = omega arith
counted_first others false is = absurd (false≢true is)

counted_later : (others : ℕ) (same : Bool) → 0 < others → 0 < cond same 1 0 + others
counted_later others true some = omega arith
counted_later others false some = omega arith

counted : (names : List (List ℕ)) (name : List ℕ) → IsAmong names name → 0 < count_by (bytes_eq name) names
counted [] name listed = absurd listed
counted (first ∷ others) name (inl is) = rw (sum_by-cons (λ (n : List ℕ). cond (bytes_eq name n) 1 0) first others) (counted_first (count_by (bytes_eq name) others) (bytes_eq name first) ((bytes_eq-Decides name first).1 (sym is)))
counted (first ∷ others) name (inr later) = rw (sum_by-cons (λ (n : List ℕ). cond (bytes_eq name n) 1 0) first others) (counted_later (count_by (bytes_eq name) others) (bytes_eq name first) (counted others name later))

among_case : (first name : List ℕ) (others : List (List ℕ)) (same : Bool) → bytes_eq name first ≡ same → (0 < count_by (bytes_eq name) others → IsAmong others name)
    → 0 < cond same 1 0 + count_by (bytes_eq name) others → IsAmong (first ∷ others) name
among_case first name others true is later some = inl (sym ((bytes_eq-Decides name first).0 is))
among_case first name others false is later some = inr (later (omega (arith, some)))

among_counted : (names : List (List ℕ)) (name : List ℕ) → 0 < count_by (bytes_eq name) names → IsAmong names name
among_counted [] name some = absurd (omega (arith, some))
among_counted (first ∷ others) name some =
    among_case first name others (bytes_eq name first) refl (among_counted others name) (rw (← sum_by-cons (λ (n : List ℕ). cond (bytes_eq name n) 1 0) first others) some)

listed_case : (there : Bool) (count : ℕ) → count ≡ cond there 1 0 → 0 < count → there ≡ true
listed_case true count is some = refl
listed_case false count is some = absurd (omega (arith, is, some))

one_counted : (there : Bool) (count : ℕ) → count ≡ cond there 1 0 → there ≡ true → 0 < count
one_counted true count is some = omega (arith, is)
one_counted false count is some = absurd (false≢true some)

-- a component with pattern bytes leads to the names in the directory that fit
pub pattern_on : (held : Option Files) (from : Found) (component : List Mark) (ending : List ℕ) (names : List (List ℕ)) (old new : List Found)
    → has_special component ≡ true → IfSome held (λ files. kind_at files from.place ≡ kind.Dir) → IfSome held (λ files. IsListing files from.place names)
    → list_all is_name names ≡ true → AddsFitting names from component ending old new → IfSome held (λ files. Follows files from component ending old new)
pattern_on None from component ending names old new special at listing all added = tt
pattern_on (Some files) from component ending names old new special at listing all added = λ place text. (
  λ found. elim ((added place text).0 found) [
    | inl before ↦ inl before
    | inr one ↦ inr (
        let proper = each_name names one.name all one.listed in
        let path : Components = from.place ++ one.name ∷ [] in
        let key = listed_case (map.contains_key files path) (count_by (bytes_eq one.name) names) (listing one.name proper) (counted names one.name one.listed) in
        record {
          name = one.name;
          leads = record {
            directory = at;
            how = inr (record {
              special = special;
              proper = proper;
              fits = one.fits;
              named = place_of_name files from.place one.name proper ∙ there_exists (map.get files path) path key ∙ ap (λ (p : Components). Some p) one.there;
            });
          };
          spelled = one.spelled;
        })
  ],
  λ found. (added place text).1 (elim found [
    | inl before ↦ inl before
    | inr on ↦ inr (
        let fit = by_pattern special on.leads in
        let path : Components = from.place ++ on.name ∷ [] in
        let there = exists_there (map.get files path) path place (sym (place_of_name files from.place on.name fit.proper) ∙ fit.named) in
        record {
          name = on.name;
          listed = among_counted names on.name (one_counted (map.contains_key files path) (count_by (bytes_eq on.name) names) (listing on.name fit.proper) there.0);
          fits = fit.fits;
          there = there.1;
          spelled = on.spelled;
        })
  ]),
)

-- what was found, one after another
pub all_none : (files : Files) (component : List Mark) (ending : List ℕ) → FollowsAll files [] component ending []
all_none files component ending place text = (λ found. absurd found, λ one. absurd one.from_here)

all_more : (files : Files) (from : List Found) (one : Found) (component : List Mark) (ending : List ℕ) (mid new : List Found)
    → FollowsAll files from component ending mid → Follows files one component ending mid new → FollowsAll files (from ++ one ∷ []) component ending new
all_more files from one component ending mid new before follows place text = (
  λ found. elim ((follows place text).0 found) [
    | inl there ↦ (let first = (before place text).0 there in
        record { dir = first.dir; before = first.before; from_here = still_found from one first.dir first.before (inl first.from_here); on = first.on })
    | inr on ↦ record { dir = one.place; before = one.text.items; from_here = still_found from one one.place one.text.items (inr (refl, refl)); on = on }
  ],
  λ leads. (follows place text).1 (elim (more_found from one leads.dir leads.before leads.from_here) [
    | inl there ↦ inl ((before place text).1 (record { dir = leads.dir; before = leads.before; from_here = there; on = leads.on }))
    | inr same ↦ inr (record {
      name = leads.on.name;
      leads = subst (λ d. Leads files d component leads.on.name place) (sym same.0) leads.on.leads;
      spelled = ap (λ (b : List ℕ). b ++ (leads.on.name ++ ending)) same.1 ∙ leads.on.spelled;
    })
  ]),
)

pub all_none_held : (held : Option Files) (component : List Mark) (ending : List ℕ) → IfSome held (λ files. FollowsAll files [] component ending [])
all_none_held None component ending = tt
all_none_held (Some files) component ending = all_none files component ending

pub all_more_held : (held : Option Files) (from longer : List Found) (one : Found) (component : List Mark) (ending : List ℕ) (mid new : List Found)
    → longer ≡ from ++ one ∷ [] → IfSome held (λ files. FollowsAll files from component ending mid) → IfSome held (λ files. Follows files one component ending mid new)
    → IfSome held (λ files. FollowsAll files longer component ending new)
all_more_held None from longer one component ending mid new is before follows = tt
all_more_held (Some files) from longer one component ending mid new is before follows =
    subst (λ fs. FollowsAll files fs component ending new) (sym is) (all_more files from one component ending mid new before follows)

-- the components that are left
abbrev pub Remain : Files → Components → List Mark → List Found → List (List Mark) → Type 0
Remain files start text found left = (name : List ℕ) → Names files start (components_of text) name ↔ GoesOn files found left name

pub remain_first : (held : Option Files) (start : Components) (text : List Mark) (one : Found) → one.place ≡ start → one.text.items ≡ []
    → IfSome held (λ files. Remain files start text (one ∷ []) (components_of text))
remain_first None start text one at empty = tt
remain_first (Some files) start text one at empty = λ name. (
  λ names. record { dir = start; before = []; rest = name; from_here = inl (at, empty); names = names; whole = refl },
  λ on. elim on.from_here [
    | inl same ↦ subst (λ n. Names files start (components_of text) n) (sym (on.whole ∙ ap (λ (b : List ℕ). b ++ on.rest) (sym same.1 ∙ empty)))
        (subst (λ d. Names files d (components_of text) on.rest) (sym same.0 ∙ at) on.names)
    | inr none ↦ absurd none
  ],
)

parts_of : (begins : Bool) (mark : Mark) (parts : List (List Mark)) → (first : List Mark) × (others : List (List Mark)) × (cond begins ([] ∷ parts) (onto_first mark parts) ≡ first ∷ others)
parts_of true mark parts = ([], parts, refl)
parts_of false mark [] = (mark ∷ [], [], refl)
parts_of false mark (part ∷ parts) = (mark ∷ part, parts, refl)

some_part : (text : List Mark) → (first : List Mark) × (others : List (List Mark)) × (components_of text ≡ first ∷ others)
some_part [] = ([], [], refl)
some_part (mark ∷ text) = parts_of (is_slash_mark mark) mark (components_of text)

on_later : (files : Files) (found new : List Found) (component next : List Mark) (others : List (List Mark)) (name : List ℕ)
    → FollowsAll files found component (slash ∷ []) new → GoesOn files found (component ∷ next ∷ others) name ↔ GoesOn files new (next ∷ others) name
on_later files found new component next others name follows = (
  λ on.
      let part = on.names in
      let spelled : List ℕ = on.before ++ (part.0 ++ slash ∷ []) in
      record {
        dir = part.1;
        before = spelled;
        rest = part.2;
        from_here = (follows part.1 spelled).1 (record { dir = on.dir; before = on.before; from_here = on.from_here; on = record { name = part.0; leads = part.3; spelled = refl } });
        names = part.4;
        whole = on.whole ∙ ap (λ (r : List ℕ). on.before ++ r) part.5 ∙ sym (append_assoc on.before (part.0 ++ slash ∷ []) part.2 ∙ ap (λ (r : List ℕ). on.before ++ r) (append_assoc part.0 (slash ∷ []) part.2));
      },
  λ on.
      let one = (follows on.dir on.before).0 on.from_here in
      record {
        dir = one.dir;
        before = one.before;
        rest = one.on.name ++ (slash ∷ on.rest);
        from_here = one.from_here;
        names = (one.on.name, on.dir, on.rest, one.on.leads, on.names, refl);
        whole = on.whole ∙ ap (λ (b : List ℕ). b ++ on.rest) (sym one.on.spelled) ∙ append_assoc one.before (one.on.name ++ slash ∷ []) on.rest ∙ ap (λ (r : List ℕ). one.before ++ r) (append_assoc one.on.name (slash ∷ []) on.rest);
      },
)

pub remain_later : (held : Option Files) (start : Components) (text left component rest : List Mark) (found new : List Found)
    → components_of left ≡ component ∷ components_of rest → IfSome held (λ files. Remain files start text found (components_of left))
    → IfSome held (λ files. FollowsAll files found component (slash ∷ []) new) → IfSome held (λ files. Remain files start text new (components_of rest))
remain_later None start text left component rest found new cut before follows = tt
remain_later (Some files) start text left component rest found new cut before follows = λ name.
    let next = some_part rest in
    let whole : components_of left ≡ component ∷ next.0 ∷ next.1 = cut ∙ ap (λ (cs : List (List Mark)). component ∷ cs) next.2 in
    let so_far = subst (λ cs. Names files start (components_of text) name ↔ GoesOn files found cs name) whole (before name) in
    let step = on_later files found new component next.0 next.1 name follows in
    subst (λ cs. Names files start (components_of text) name ↔ GoesOn files new cs name) (sym next.2) (λ names. step.0 (so_far.0 names), λ on. so_far.1 (step.1 on))

-- at the last component the texts are those that are named
pub remain_last : (held : Option Files) (start : Components) (text last : List Mark) (found new : List Found)
    → components_of last ≡ last ∷ [] → IfSome held (λ files. Remain files start text found (components_of last))
    → IfSome held (λ files. FollowsAll files found last [] new) → IfSome held (λ files. (name : List ℕ) → IsText new name ↔ Names files start (components_of text) name)
remain_last None start text last found new alone before follows = tt
remain_last (Some files) start text last found new alone before follows = λ name.
    let so_far = subst (λ cs. Names files start (components_of text) name ↔ GoesOn files found cs name) alone (before name) in (
      λ there.
          let one = (follows there.0 name).0 there.1 in
          so_far.1 (record {
            dir = one.dir;
            before = one.before;
            rest = one.on.name;
            from_here = one.from_here;
            names = (there.0, one.on.leads);
            whole = sym one.on.spelled ∙ ap (λ (r : List ℕ). one.before ++ r) (append-nil one.on.name);
          }),
      λ names.
          let on = so_far.0 names in (
            on.names.0,
            (follows on.names.0 name).1 (record {
              dir = on.dir;
              before = on.before;
              from_here = on.from_here;
              on = record { name = on.rest; leads = on.names.1; spelled = ap (λ (r : List ℕ). on.before ++ r) (append-nil on.rest) ∙ sym on.whole };
            }),
          ),
    )

-- the texts in order, each once
among_texts : (texts : List (Vec ℕ)) (name : List ℕ) → IsAmong (texts_of texts) name → list_any (λ (text : Vec ℕ). bytes_eq name text.items) texts ≡ true
among_texts [] name listed = absurd listed
among_texts (first ∷ others) name (inl is) = rw ((bytes_eq-Decides name first.items).1 (sym is)) refl
among_texts (first ∷ others) name (inr later) = rw (among_texts others name later) (or-true _)

texts_case : (first : Vec ℕ) (others : List (Vec ℕ)) (name : List ℕ) (same : Bool) → bytes_eq name first.items ≡ same → (list_any (λ (text : Vec ℕ). bytes_eq name text.items) others ≡ true → IsAmong (texts_of others) name)
    → (same || list_any (λ (text : Vec ℕ). bytes_eq name text.items) others) ≡ true → IsAmong (texts_of (first ∷ others)) name
texts_case first others name true is later some = inl (sym ((bytes_eq-Decides name first.items).0 is))
texts_case first others name false is later some = inr (later some)

texts_among : (texts : List (Vec ℕ)) (name : List ℕ) → list_any (λ (text : Vec ℕ). bytes_eq name text.items) texts ≡ true → IsAmong (texts_of texts) name
texts_among [] name some = absurd (false≢true some)
texts_among (first ∷ others) name some = texts_case first others name (bytes_eq name first.items) refl (texts_among others name) some

abbrev same_items : Vec ℕ → Vec ℕ → Bool
same_items one other = bytes_eq one.items other.items

abbrev by_items : Vec ℕ → Vec ℕ → Ordering
by_items one other = slice_cmp nat_cmp one.items other.items

kept_case : (first second : Vec ℕ) (others : List (Vec ℕ)) (name : List ℕ) (same : Bool) → same_items second first ≡ same
    → ((k : Vec ℕ) → IsAmong (texts_of (k ∷ others)) name ↔ IsAmong (texts_of (dedup_from same_items k others)) name)
    → IsAmong (texts_of (first ∷ second ∷ others)) name ↔ IsAmong (texts_of (cond same (dedup_from same_items first others) (first ∷ dedup_from same_items second others))) name
kept_case first second others name true is later = (
  λ listed. (later first).0 (elim listed [ inl here ↦ inl here | inr more ↦ elim more [ inl here ↦ inl (sym ((bytes_eq-Decides second.items first.items).0 is) ∙ here) | inr last ↦ inr last ] ]),
  λ kept. elim ((later first).1 kept) [ inl here ↦ inl here | inr last ↦ inr (inr last) ],
)
kept_case first second others name false is later = (
  λ listed. elim listed [ inl here ↦ inl here | inr more ↦ inr ((later second).0 more) ],
  λ kept. elim kept [ inl here ↦ inl here | inr more ↦ inr ((later second).1 more) ],
)

kept : (others : List (Vec ℕ)) (first : Vec ℕ) (name : List ℕ) → IsAmong (texts_of (first ∷ others)) name ↔ IsAmong (texts_of (dedup_from same_items first others)) name
kept [] first name = (λ listed. listed, λ listed. listed)
kept (second ∷ others) first name = kept_case first second others name (same_items second first) refl (λ k. kept others k name)

all_kept : (texts : List (Vec ℕ)) (name : List ℕ) → IsAmong (texts_of texts) name ↔ IsAmong (texts_of (dedup same_items texts)) name
all_kept [] name = (λ listed. listed, λ listed. listed)
all_kept (first ∷ others) name = kept others first name

all_below : (first : Vec ℕ) (others : List (Vec ℕ)) → AllByRecursion (λ (other : Vec ℕ). by_items first other ≡ Less) others → AllByRecursion (λ (other : List ℕ). slice_cmp nat_cmp first.items other ≡ Less) (texts_of others)
all_below first [] below = tt
all_below first (second ∷ others) below = (below.0, all_below first others below.1)

texts_sorted : (texts : List (Vec ℕ)) → IsStrictlySortedBy by_items texts → IsStrictlySortedBy (slice_cmp nat_cmp) (texts_of texts)
unfolding IsStrictlySortedBy
texts_sorted [] sorted = tt
texts_sorted (first ∷ others) sorted = (all_below first others sorted.0, texts_sorted others sorted.1)

found_texts : (found : List Found) (name : List ℕ) → IsAmong (texts_of (map (λ (one : Found). one.text) found)) name ↔ IsText found name
found_texts [] name = (λ listed. absurd listed, λ text. absurd text.1)
found_texts (first ∷ others) name = (
  λ listed. elim listed [ inl is ↦ (first.place, inl (refl, is)) | inr later ↦ (let one = (found_texts others name).0 later in (one.0, inr one.1)) ],
  λ text. elim text.1 [ inl same ↦ inl same.1 | inr later ↦ inr ((found_texts others name).1 (text.0, later)) ],
)

-- sorting and leaving out what stands twice keeps the texts
pub in_order : (found : List Found) (texts sorted distinct : List (Vec ℕ)) → texts ≡ map (λ (one : Found). one.text) found → IsPermutation texts sorted
    → IsFiltered (DiffersFromLast same_items) [] sorted distinct → (name : List ℕ) → IsAmong (texts_of distinct) name ↔ IsText found name
in_order found texts sorted distinct is moved filtered name =
    let left = dedup_is same_items sorted distinct filtered in
    let same = list_any-IsPermutation (λ (text : Vec ℕ). bytes_eq name text.items) texts sorted moved in
    let texts_are = found_texts found name in (
      λ listed.
          texts_are.0 (subst (λ ts. IsAmong (texts_of ts) name) is (texts_among texts name (same ∙ among_texts sorted name ((all_kept sorted name).1 (subst (λ ts. IsAmong (texts_of ts) name) left listed))))),
      λ text.
          subst (λ ts. IsAmong (texts_of ts) name) (sym left) ((all_kept sorted name).0 (texts_among sorted name (sym same ∙ among_texts texts name (subst (λ ts. IsAmong (texts_of ts) name) (sym is) (texts_are.1 text))))),
    )

pub each_once : (sorted distinct : List (Vec ℕ)) → IsSorted by_items sorted → IsFiltered (DiffersFromLast same_items) [] sorted distinct → IsStrictlySortedBy (slice_cmp nat_cmp) (texts_of distinct)
each_once sorted distinct is filtered =
    texts_sorted distinct (subst (IsStrictlySortedBy by_items) (sym (dedup_is same_items sorted distinct filtered))
    (IsStrictlySortedBy-dedup (on_total (λ (text : Vec ℕ). text.items) (lists_total nat_cmp_total)) (λ one other. sym (is_eq-slice_cmp one.items other.items)) sorted is))

pub are_named : (held : Option Files) (home start : Components) (text : List Mark) (found : List Found) (names : List (List ℕ))
    → start ≡ start_of home (bytes_of text) → IfSome held (λ files. (name : List ℕ) → IsText found name ↔ Names files start (components_of text) name)
    → ((name : List ℕ) → IsAmong names name ↔ IsText found name) → IsStrictlySortedBy (slice_cmp nat_cmp) names → IfSome held (λ files. AreNamed files home text names)
are_named None home start text found names at named texts sorted = tt
are_named (Some files) home start text found names at named texts sorted = record {
  each = λ name listed. subst (λ s. Names files s (components_of text) name) at ((named name).0 ((texts name).0 listed));
  all = λ name is. (texts name).1 ((named name).1 (subst (λ s. Names files s (components_of text) name) (sym at) is));
  sorted = sorted;
}

-- the answer of path expansion
pub stays_plain : (held : Option Files) (home : Components) (text : List Mark) (names : List (List ℕ)) → has_special text ≡ false → names ≡ bytes_of text ∷ []
    → IfSome held (λ files. Expands files home text names)
stays_plain None home text names none is = tt
stays_plain (Some files) home text names none is = subst (Expands files home text) (sym is) (unlooked none)

pub stays_unnamed : (held : Option Files) (home : Components) (text : List Mark) (found : List (Vec ℕ)) (names : List (List ℕ)) → has_special text ≡ true
    → IfSome held (λ files. AreNamed files home text (texts_of found)) → length found ≡ 0 → names ≡ bytes_of text ∷ [] → IfSome held (λ files. Expands files home text names)
stays_unnamed None home text found names special are empty is = tt
stays_unnamed (Some files) home text [] names special are empty is = subst (Expands files home text) (sym is) (unmatched special are)
stays_unnamed (Some files) home text (first ∷ others) names special are empty is = absurd (omega (arith, empty))

pub gives_named : (held : Option Files) (home : Components) (text : List Mark) (found : List (Vec ℕ)) → has_special text ≡ true
    → IfSome held (λ files. AreNamed files home text (texts_of found)) → (length found ≡ 0 → ⊥) → IfSome held (λ files. Expands files home text (texts_of found))
gives_named None home text found special are some = tt
gives_named (Some files) home text [] special are some = absurd (some refl)
gives_named (Some files) home text (first ∷ others) special are some = matched special are

pub fits_one : (name : List ℕ) (from : Found) (component : List Mark) (ending : List ℕ) (place : Components) (old new : List Found) → FitsComponent component name
    → place ≡ from.place ++ name ∷ [] → Adds old new place (from.text.items ++ (name ++ ending)) → AddsFitting (name ∷ []) from component ending old new
fits_one name from component ending place old new fit at added =
    one_fits [] name from component ending old old new (none_fit from component ending old) fit (subst (λ p. Adds old new p (from.text.items ++ (name ++ ending))) at added)

pub fails_one : (name : List ℕ) (from : Found) (component : List Mark) (ending : List ℕ) (old : List Found) → (FitsComponent component name → ⊥) → AddsFitting (name ∷ []) from component ending old old
fails_one name from component ending old none = one_fails [] name from component ending old old (none_fit from component ending old) none

texts_more : (texts : List (Vec ℕ)) (one : Vec ℕ) → texts_of (texts ++ one ∷ []) ≡ texts_of texts ++ one.items ∷ []
texts_more [] one = refl
texts_more (first ∷ others) one = ap (λ ts. first.items ∷ ts) (texts_more others one)

adds_join : (names : List (List ℕ)) (name : List ℕ) (from : Found) (component : List Mark) (ending : List ℕ) (old mid new : List Found)
    → AddsFitting names from component ending old mid → AddsFitting (name ∷ []) from component ending mid new → AddsFitting (names ++ name ∷ []) from component ending old new
adds_join names name from component ending old mid new before after = λ place text. (
  λ found. elim ((after place text).0 found) [
    | inl there ↦ elim ((before place text).0 there) [
      | inl first ↦ inl first
      | inr one ↦ inr (record { name = one.name; listed = still_among names name one.name (inl one.listed); fits = one.fits; there = one.there; spelled = one.spelled })
    ]
    | inr one ↦ elim one.listed [
      | inl same ↦ inr (record { name = one.name; listed = still_among names name one.name (inr same); fits = one.fits; there = one.there; spelled = one.spelled })
      | inr none ↦ absurd none
    ]
  ],
  λ found. (after place text).1 (elim found [
    | inl first ↦ inl ((before place text).1 (inl first))
    | inr one ↦ elim (more_among names name one.name one.listed) [
      | inl listed ↦ inl ((before place text).1 (inr (record { name = one.name; listed = listed; fits = one.fits; there = one.there; spelled = one.spelled })))
      | inr same ↦ inr (record { name = one.name; listed = inl same; fits = one.fits; there = one.there; spelled = one.spelled })
    ]
  ]),
)

pub adds_next : (names : List (Vec ℕ)) (at : ℕ) (one : Vec ℕ) (name : List ℕ) (from : Found) (component : List Mark) (ending : List ℕ) (old mid new : List Found)
    → one ≡ get_or names at one → at < length names → name ≡ one.items
    → AddsFitting (texts_of (take at names)) from component ending old mid → AddsFitting (name ∷ []) from component ending mid new
    → AddsFitting (texts_of (take (at + 1) names)) from component ending old new
adds_next names at one name from component ending old mid new is within spelled before after =
    let cut : texts_of (take (at + 1) names) ≡ texts_of (take at names) ++ one.items ∷ [] =
    ap texts_of (take_more names at one within ∙ ap (λ (v : Vec ℕ). take at names ++ v ∷ []) (sym is)) ∙ texts_more (take at names) one in
    subst (λ ts. AddsFitting ts from component ending old new) (sym cut)
    (adds_join (texts_of (take at names)) one.items from component ending old mid new before (subst (λ n. AddsFitting (n ∷ []) from component ending mid new) spelled after))

pub name_at : (names : List (Vec ℕ)) (at : ℕ) (one : Vec ℕ) → at < length names → list_all is_name (texts_of names) ≡ true → is_name (get_or names at one).items ≡ true
name_at [] at one within all = absurd (omega (arith, within))
name_at (first ∷ others) zero one within all = (both_true (is_name first.items) (list_all is_name (texts_of others)) all).0
name_at (first ∷ others) (suc at) one within all = name_at others at one (omega (arith, within)) (both_true (is_name first.items) (list_all is_name (texts_of others)) all).1

pub longer : (found : List Found) (at : ℕ) (one : Found) → one ≡ get_or found at one → at < length found → take (at + 1) found ≡ take at found ++ one ∷ []
longer found at one is within = take_more found at one within ∙ ap (λ (f : Found). take at found ++ f ∷ []) (sym is)

pub on_ok : {T E : Type 0} {P Q : Type 0} (result : Result T E) → (P → Q) → OnOk result P → OnOk result Q
on_ok (Ok value) gives fact = gives fact
on_ok (Err error) gives fact = tt

pub if_ok : {T E : Type 0} {P Q : T → Type 0} (result : Result T E) → ((value : T) → P value → Q value) → IfOk result P → IfOk result Q
if_ok (Ok value) gives fact = gives value fact
if_ok (Err error) gives fact = tt

pub ruleset one_by_one = (fits_one, fails_one)

pub ruleset fitting = (fits_by, no_fit)

pub ruleset written = (written_on, written_off)

pub ruleset by_names = (directory_there, pattern_on)

pub ruleset ordered = (in_order, each_once)

pub ruleset expanded = (stays_plain, stays_unnamed, gives_named)
