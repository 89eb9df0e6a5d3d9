-- The ends of a graph, out of their places and back in them.
use Rattle.std.proofs.Common.{◌≡◌, ℕ, zero, suc, ◌<◌, List, [], ◌∷◌, true, map, length, Option, Some, None, is_some, refl, ap, sym, ◌∙◌, arith}
use Rattle.std.specs.Option.{option_and_then, option_map}
use Rattle.std.proofs.lemmas.Bool.{and_from}
use Rattle.std.proofs.lemmas.List.{length-map}
use Rattle.fl_core.specs.EndLists.{NodeEnd, Reader, Writer, Input, Output, end_in, numbers_of}
use Rattle.fl_core.specs.Roles.{end_by}
use Rattle.fl_core.specs.declared.end_lists.Ends.{Ends}
use Rattle.fl_core.specs.declared.roles.Role.{Role}
use Rattle.fl_core.specs.declared.roles.Role.TheVariants as role
use Rattle.fl_runner.specs.Lent.{AreAllBack, are_back, held, held_by, held_in, lent_of}

pub lent_of-in : {End : Type 0} (entries : List (ℕ × End)) (place : ℕ) → held_in (lent_of entries) place ≡ end_in entries place
lent_of-in [] place = refl
lent_of-in (entry ∷ entries) zero = refl
lent_of-in (entry ∷ entries) (suc place) = lent_of-in entries place

pub lent_of-numbers : {End : Type 0} (entries : List (ℕ × End)) → numbers_of (lent_of entries) ≡ numbers_of entries
lent_of-numbers [] = refl
lent_of-numbers (entry ∷ entries) = ap (λ (it : List ℕ). entry.0 ∷ it) (lent_of-numbers entries)

-- lists with the same numbers are of one length
pub as-long : {End Other : Type 0} (entries : List (ℕ × End)) (others : List (ℕ × Other)) → numbers_of entries ≡ numbers_of others → length entries ≡ length others
as-long {End} {Other} entries others same =
    sym (length-map entries (λ (entry : ℕ × End). entry.0)) ∙ ap (λ (it : List ℕ). length it) same ∙ length-map others (λ (entry : ℕ × Other). entry.0)

-- the end of a file's role, where it is there
held-reader : {R : Type 0} (W I O : Type 0) (found : Option (Option R)) → held {R = R} {W = W} {I = I} {O = O} (option_map Reader found) ≡ option_map Reader (option_and_then (λ end. end) found)
held-reader W I O None = refl
held-reader W I O (Some end) = refl

held-writer : {W : Type 0} (R I O : Type 0) (found : Option (Option W)) → held {R = R} {W = W} {I = I} {O = O} (option_map Writer found) ≡ option_map Writer (option_and_then (λ end. end) found)
held-writer R I O None = refl
held-writer R I O (Some end) = refl

module _ {R W I O : Type 0} (ends : Ends R W I O) (lent : Ends (Option R) (Option W) (Option I) (Option O)) where
  -- where all are there, each place has its end
  pub held-all : lent.readers.items ≡ lent_of ends.readers.items → lent.writers.items ≡ lent_of ends.writers.items → lent.input ≡ Some ends.input → lent.out ≡ Some ends.out
      → (one : Role) → held_by one lent ≡ end_by one ends
  held-all readers writers input out role.Nothing = refl
  held-all readers writers input out role.Input = ap (λ (it : Option I). option_map Input it) input
  held-all readers writers input out role.Output = ap (λ (it : Option O). option_map Output it) out
  held-all readers writers input out (role.Reader place) =
      held-reader W I O (end_in lent.readers.items place)
      ∙ ap (option_map Reader) (ap (λ (it : List (ℕ × Option R)). held_in it place) readers ∙ lent_of-in ends.readers.items place)
  held-all readers writers input out (role.Writer place) =
      held-writer R I O (end_in lent.writers.items place)
      ∙ ap (option_map Writer) (ap (λ (it : List (ℕ × Option W)). held_in it place) writers ∙ lent_of-in ends.writers.items place)

  pub held-each : lent.readers.items ≡ lent_of ends.readers.items → lent.writers.items ≡ lent_of ends.writers.items → lent.input ≡ Some ends.input → lent.out ≡ Some ends.out
      → (roles : List Role) → map (λ one. held_by one lent) roles ≡ map (λ one. end_by one ends) roles
  held-each readers writers input out [] = refl
  held-each readers writers input out (one ∷ roles) =
      ap (λ (it : Option (NodeEnd R W I O)). it ∷ map (λ one. held_by one lent) roles) (held-all readers writers input out one)
      ∙ ap (λ (it : List (Option (NodeEnd R W I O))). end_by one ends ∷ it) (held-each readers writers input out roles)

  -- where each place that has had an end has one, all are back
  all-back : {End : Type 0} (entries : List (ℕ × Option End)) → ((place : ℕ) → place < length entries → is_some (held_in entries place) ≡ true) → are_back entries ≡ true
  all-back [] there = refl
  all-back (entry ∷ entries) there =
      and_from (is_some entry.1) (are_back entries) (there 0 (omega arith)) (all-back entries (λ place within. there (suc place) (omega (arith, within))))

  module _ (readers : numbers_of lent.readers.items ≡ numbers_of ends.readers.items) (writers : numbers_of lent.writers.items ≡ numbers_of ends.writers.items)
      (there : (one : Role) → is_some (held_by one lent) ≡ is_some (end_by one ends)) where
    some-end : {End : Type 0} (entries : List (ℕ × End)) (place : ℕ) → place < length entries → is_some (end_in entries place) ≡ true
    some-end [] place within = absurd (omega (arith, within))
    some-end (entry ∷ entries) zero within = refl
    some-end (entry ∷ entries) (suc place) within = some-end entries place (omega (arith, within))

    mapped-some : {A B : Type 0} (tell : A → B) (found : Option A) → is_some (option_map tell found) ≡ is_some found
    mapped-some tell None = refl
    mapped-some tell (Some it) = refl

    reader-there : (place : ℕ) → place < length lent.readers.items → is_some (held_in lent.readers.items place) ≡ true
    reader-there place within =
        sym (mapped-some Reader (held_in lent.readers.items place))
        ∙ ap is_some (sym (held-reader W I O (end_in lent.readers.items place)))
        ∙ there (role.Reader place)
        ∙ mapped-some Reader (end_in ends.readers.items place)
        ∙ some-end ends.readers.items place (let same = as-long lent.readers.items ends.readers.items readers in omega (arith, within, same))

    writer-there : (place : ℕ) → place < length lent.writers.items → is_some (held_in lent.writers.items place) ≡ true
    writer-there place within =
        sym (mapped-some Writer (held_in lent.writers.items place))
        ∙ ap is_some (sym (held-writer R I O (end_in lent.writers.items place)))
        ∙ there (role.Writer place)
        ∙ mapped-some Writer (end_in ends.writers.items place)
        ∙ some-end ends.writers.items place (let same = as-long lent.writers.items ends.writers.items writers in omega (arith, within, same))

    pub are_all_back : AreAllBack lent
    are_all_back = record {
      readers = all-back lent.readers.items reader-there;
      writers = all-back lent.writers.items writer-there;
      input = sym (mapped-some Input lent.input) ∙ there role.Input;
      out = sym (mapped-some Output lent.out) ∙ there role.Output;
    }
