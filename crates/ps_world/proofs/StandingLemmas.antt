-- What a path names is there, and hangs on the kinds of things alone.
use Rattle.std.proofs.Common.{◌≡◌, ℕ, List, [], ◌∷◌, ◌++◌, Option, Some, None, Bool, true, false, not, ◌&&◌, ◌||◌, codes, cond, refl, sym, ap, subst, ◌∙◌}
use Rattle.std.proofs.lemmas.Bool.{false≢true}
use Rattle.std.specs.Option.{IfSome, option_map_or}
use Rattle.std.specs.FinMap as map
use Rattle.ps_world.specs.Paths.{components, Components, has_slash, is_name, is_slash, parent_of, path_cmp, stays, goes_up}
use Rattle.ps_world.specs.Files.{AreOfOneKind, Files, IsDirAt, kind_at, kind_of}
use Rattle.ps_world.specs.Places.{StandsIn, directory, ending_at, enter, is_null_path, is_null_text, last_place, makeable, named, nulled, resolve, resolve_from, start_of}
use Rattle.ps_world.specs.declared.places.Place.{Place}
use Rattle.ps_world.specs.declared.places.Place.TheVariants as place
use Rattle.ps_world.specs.declared.tree.Kind.{Kind}
use Rattle.ps_world.specs.declared.tree.Kind.TheVariants as kind
use Rattle.ps_world.proofs.PlacesLemmas.{parent_of_child, slice_split-alone}
use Rattle.ps_world.proofs.WritingLemmas.{is_dir_at, is_file_in, made_new, made_over}

module _ (files : Files) where
  stands_if : (test : Bool) (one other : Place) → StandsIn files one → StandsIn files other → StandsIn files (cond test one other)
  stands_if true one other first second = first
  stands_if false one other first second = second

  stands_ending : (found : Kind) (path : Components) → kind_at files path ≡ found → StandsIn files (ending_at found path)
  stands_ending kind.Missing path is = tt
  stands_ending kind.File path is = tt
  stands_ending kind.Dir path is = is_dir_at files path is

  stands_makeable : (above : Kind) (path : Components) → kind_at files path ≡ kind.Missing → kind_at files (parent_of path) ≡ above
      → StandsIn files (makeable above path)
  stands_makeable kind.Missing path none is = tt
  stands_makeable kind.File path none is = tt
  stands_makeable kind.Dir path none is = made_new files path none is

  stands_named : (found above : Kind) (path : Components) → kind_at files path ≡ found → kind_at files (parent_of path) ≡ above
      → StandsIn files (named found above path)
  stands_named kind.Missing above path is is_above = stands_makeable above path is is_above
  stands_named kind.File above path is is_above = (is, λ in_place. (is_file_in files path in_place is, made_over files path in_place is))
  stands_named kind.Dir above path is is_above = is_dir_at files path is

  stands_last : (dir : Components) (component : List ℕ) → StandsIn files (last_place files dir component)
  stands_last dir component =
      stands_if (stays component) _ _ (stands_ending (kind_at files dir) dir refl)
      (stands_if (goes_up component) _ _ (stands_ending (kind_at files (parent_of dir)) (parent_of dir) refl)
      (stands_named (kind_at files (dir ++ component ∷ [])) (kind_at files dir) (dir ++ component ∷ []) refl (ap (kind_at files) (parent_of_child dir component))))

  stands_behind : (parts : List (List ℕ)) (inner : Option Components) → ((dir : Components) → StandsIn files (resolve_from files dir parts))
      → StandsIn files (option_map_or (λ dir. resolve_from files dir parts) inner place.Missing)
  stands_behind parts None stands = tt
  stands_behind parts (Some dir) stands = stands dir

  stands_from : (dir : Components) (parts : List (List ℕ)) → StandsIn files (resolve_from files dir parts)
  stands_from dir [] = stands_ending (kind_at files dir) dir refl
  stands_from dir (component ∷ []) = stands_last dir component
  stands_from dir (component ∷ next ∷ others) = stands_behind (next ∷ others) (enter files dir component) (λ inner. stands_from inner (next ∷ others))

  stands_nulled : (found : Place) → StandsIn files found → StandsIn files (nulled found)
  stands_nulled place.Missing stands = tt
  stands_nulled (place.Makeable path) stands = stands_if (is_null_path path) place.Null (place.Makeable path) tt stands
  stands_nulled (place.Dir path) stands = stands_if (is_null_path path) place.Null (place.Dir path) tt stands
  stands_nulled (place.File path) stands = stands_if (is_null_path path) place.Null (place.File path) tt stands
  stands_nulled place.Null stands = tt

  stands_place : (home : Components) (text : List ℕ) → StandsIn files (resolve files home text)
  stands_place home [] = tt
  stands_place home (byte ∷ bytes) =
      stands_if (is_null_text (byte ∷ bytes)) place.Null _ tt (stands_nulled _ (stands_from (start_of home (byte ∷ bytes)) (components (byte ∷ bytes))))

-- what a text names stands in the files in which it was looked up
pub stands_resolved : (held : Option Files) (home : Components) (text : List ℕ) (found : Place) → IfSome held (λ files. found ≡ resolve files home text)
    → IfSome held (λ files. StandsIn files found)
stands_resolved None home text found is = tt
stands_resolved (Some files) home text found is = subst (StandsIn files) (sym is) (stands_place files home text)

-- files of one kind
module _ (files others : Files) (same : AreOfOneKind files others) where
  same_enter : (dir : Components) (component : List ℕ) → enter files dir component ≡ enter others dir component
  same_enter dir component =
      ap (λ (found : Kind). cond (stays component) (Some dir) (cond (goes_up component) (Some (parent_of dir)) (directory found (dir ++ component ∷ []))))
      (same (dir ++ component ∷ []))

  same_last : (dir : Components) (component : List ℕ) → last_place files dir component ≡ last_place others dir component
  same_last dir component = rw (same dir, same (parent_of dir), same (dir ++ component ∷ [])) refl

  same_behind : (parts : List (List ℕ)) (inner : Option Components) → ((dir : Components) → resolve_from files dir parts ≡ resolve_from others dir parts)
      → option_map_or (λ dir. resolve_from files dir parts) inner place.Missing ≡ option_map_or (λ dir. resolve_from others dir parts) inner place.Missing
  same_behind parts None leads = refl
  same_behind parts (Some dir) leads = leads dir

  same_from : (dir : Components) (parts : List (List ℕ)) → resolve_from files dir parts ≡ resolve_from others dir parts
  same_from dir [] = ap (λ (found : Kind). ending_at found dir) (same dir)
  same_from dir (component ∷ []) = same_last dir component
  same_from dir (component ∷ next ∷ left) =
      rw (same_enter dir component) (same_behind (next ∷ left) (enter others dir component) (λ inner. same_from inner (next ∷ left)))

  -- where a text leads hangs on the kinds of things alone
  pub resolve_by_kinds : (home : Components) (text : List ℕ) → resolve files home text ≡ resolve others home text
  resolve_by_kinds home [] = refl
  resolve_by_kinds home (byte ∷ bytes) =
      ap (λ (found : Place). cond (is_null_text (byte ∷ bytes)) place.Null (nulled found)) (same_from (start_of home (byte ∷ bytes)) (components (byte ∷ bytes)))

no_kind : (path : Components) → kind_at map.empty path ≡ kind.Missing
no_kind path = ap kind_of (map.get-empty path_cmp path)

nowhere_entered : (some : Option Components) (parts : List (List ℕ)) → ((dir : Components) → resolve_from map.empty dir parts ≡ place.Missing)
    → option_map_or (λ dir. resolve_from map.empty dir parts) some place.Missing ≡ place.Missing
nowhere_entered None parts others = refl
nowhere_entered (Some dir) parts others = others dir

nowhere_last : (dir : Components) (component : List ℕ) → last_place map.empty dir component ≡ place.Missing
nowhere_last dir component = rw (no_kind dir, no_kind (parent_of dir), no_kind (dir ++ component ∷ [])) (either (stays component) (goes_up component))
  where
    either : (stay up : Bool) → cond stay place.Missing (cond up place.Missing place.Missing) ≡ place.Missing
    either true up = refl
    either false true = refl
    either false false = refl

nowhere_from : (dir : Components) (parts : List (List ℕ)) → resolve_from map.empty dir parts ≡ place.Missing
nowhere_from dir [] = ap (λ (found : Kind). ending_at found dir) (no_kind dir)
nowhere_from dir (component ∷ []) = nowhere_last dir component
nowhere_from dir (component ∷ next ∷ others) =
    nowhere_entered (enter map.empty dir component) (next ∷ others) (λ inner. nowhere_from inner (next ∷ others))

-- where nothing is, no text names anything but the null device
pub resolve-empty : (home : Components) (text : List ℕ) → resolve map.empty home text ≡ cond (is_null_text text) place.Null place.Missing
resolve-empty home [] = refl
resolve-empty home (byte ∷ bytes) =
    ap (λ (found : Place). cond (is_null_text (byte ∷ bytes)) place.Null (nulled found)) (nowhere_from (start_of home (byte ∷ bytes)) (components (byte ∷ bytes)))

-- files in which home is no directory
module _ (files : Files) (home : Components) (no_home : IsDirAt files home → ⊥) where
  never_ends : (found : Kind) (path : Components) → kind_at files home ≡ found → ending_at found path ≡ place.Missing
  never_ends kind.Missing path is = refl
  never_ends kind.File path is = refl
  never_ends kind.Dir path is = absurd (no_home (is_dir_at files home is))

  never_made : (found : Kind) (path : Components) → kind_at files home ≡ found → makeable found path ≡ place.Missing
  never_made kind.Missing path is = refl
  never_made kind.File path is = refl
  never_made kind.Dir path is = absurd (no_home (is_dir_at files home is))

  pub here-no_home : resolve files home (codes ".") ≡ place.Missing
  unfolding stays
  here-no_home = ap nulled (never_ends (kind_at files home) home refl)

  last-no_home : (stay up slashed : Bool) (name : List ℕ) → stays name ≡ stay → goes_up name ≡ up → (not stay && (not up && not slashed)) ≡ true
      → kind_at files (home ++ name ∷ []) ≡ kind.Missing → last_place files home name ≡ place.Missing
  last-no_home true up slashed name is_stay is_up is_named is = absurd (false≢true is_named)
  last-no_home false true slashed name is_stay is_up is_named is = absurd (false≢true is_named)
  last-no_home false false slashed name is_stay is_up is_named is = rw (is_stay, is_up, is) (never_made (kind_at files home) (home ++ name ∷ []) refl)

  without_slash : (stay up slashed : Bool) → (not stay && (not up && not slashed)) ≡ true → slashed ≡ false
  without_slash true up slashed is_named = absurd (false≢true is_named)
  without_slash false true slashed is_named = absurd (false≢true is_named)
  without_slash false false true is_named = absurd (false≢true is_named)
  without_slash false false false is_named = refl

  named_from : (byte : ℕ) (bytes : List ℕ) (slashed : Bool) → is_slash byte ≡ slashed → (slashed || has_slash bytes) ≡ false
      → has_slash (byte ∷ bytes) ≡ false → is_name (byte ∷ bytes) ≡ true → kind_at files (home ++ (byte ∷ bytes) ∷ []) ≡ kind.Missing
      → resolve files home (byte ∷ bytes) ≡ place.Missing
  named_from byte bytes true at none part is_named is = absurd (false≢true (sym none))
  named_from byte bytes false at none part is_named is =
      ap (λ (parts : List (List ℕ)). cond (is_null_text (byte ∷ bytes)) place.Null (nulled (resolve_from files (start_of home (byte ∷ bytes)) parts)))
      (slice_split-alone is_slash (byte ∷ bytes) part)
      ∙ rw at (ap nulled (last-no_home (stays (byte ∷ bytes)) (goes_up (byte ∷ bytes)) (has_slash (byte ∷ bytes)) (byte ∷ bytes) refl refl is_named is))

  -- a name that nothing has
  pub name-no_home : (name : List ℕ) → is_name name ≡ true → kind_at files (home ++ name ∷ []) ≡ kind.Missing → resolve files home name ≡ place.Missing
  name-no_home [] is_named is = refl
  name-no_home (byte ∷ bytes) is_named is =
      let part = without_slash (stays (byte ∷ bytes)) (goes_up (byte ∷ bytes)) (has_slash (byte ∷ bytes)) is_named in
      named_from byte bytes (is_slash byte) refl part part is_named is
