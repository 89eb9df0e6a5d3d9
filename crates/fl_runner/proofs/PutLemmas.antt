-- Ends come back into the places of their roles, one node after another.
use Rattle.std.proofs.Common.{◌≡◌, ℕ, ◌+◌, ◌<◌, List, [], ◌∷◌, ◌++◌, true, false, map, length, take, drop, Option, refl, ap, sym, subst, ◌∙◌, append-nil}
use mathlib.Core.List.{append_assoc}
use Rattle.std.proofs.lemmas.List.{map-append, take-append-drop}
use Rattle.fl_core.specs.EndLists.{NodeEnd, numbers_of}
use Rattle.fl_core.specs.Roles.{AreApart, is_same, is_used, role_at}
use Rattle.fl_core.specs.declared.end_lists.Ends.{Ends}
use Rattle.fl_core.specs.declared.roles.Role.{Role}
use Rattle.fl_edges.proofs.EachLemmas.{each-first, each-none, each-rest, each-within}
use Rattle.fl_nodes.specs.declared.own.Own.{Own}
use Rattle.fl_threads.specs.Threads.{EachOf}
use Rattle.fl_runner.specs.Lent.{end_with, fits, held_by, kind_with}
use Rattle.fl_runner.proofs.LendLemmas.{as-long}
use Rattle.fl_runner.proofs.OwnLemmas.{at-here, held-others, take-next, unused-before, used-more}

-- no node before has this role
pub unused-here : (roles : List Role) → AreApart roles → (node : ℕ) (here : Role) → here ≡ role_at roles node → is_used (take node roles) here ≡ false
unused-here roles apart node here same = ap (λ (it : Role). is_used (take node roles) it) same ∙ unused-before roles apart node

-- behind the last one there is no role
pub take-all : (roles : List Role) (node : ℕ) → drop node roles ≡ [] → take node roles ≡ roles
take-all roles node none = sym (append-nil (take node roles)) ∙ ap (λ (it : List Role). take node roles ++ it) (sym none) ∙ take-append-drop node roles

module _ {R W I O : Type 0} where
  abbrev pub held_at : Ends (Option R) (Option W) (Option I) (Option O) → Role → Option (NodeEnd R W I O)
  held_at it one = held_by one it

  -- the ends of the first roles are back, and those that are left are of the others
  pub record PutBack (readers writers : ℕ) (roles : List Role) (was : Ends (Option R) (Option W) (Option I) (Option O)) (all : List (Own R W I O))
      (node : ℕ) (now : Ends (Option R) (Option W) (Option I) (Option O)) (left : List (Own R W I O)) : Type 0 where
    pub fit : EachOf (λ one end. fits readers writers one (kind_with end) ≡ true) (drop node roles) left
    pub ends : map (held_at now) (take node roles) ++ map end_with left ≡ map end_with all
    pub others : (one : Role) → is_used (take node roles) one ≡ false → held_by one now ≡ held_by one was
    pub reader_numbers : numbers_of now.readers.items ≡ numbers_of was.readers.items
    pub writer_numbers : numbers_of now.writers.items ≡ numbers_of was.writers.items

  -- all of them are
  pub record AreBack (roles : List Role) (was : Ends (Option R) (Option W) (Option I) (Option O)) (all : List (Own R W I O)) (now : Ends (Option R) (Option W) (Option I) (Option O)) : Type 0 where
    pub ends : map (held_at now) roles ≡ map end_with all
    pub others : (one : Role) → is_used roles one ≡ false → held_by one now ≡ held_by one was

  pub put-first : (readers writers : ℕ) (roles : List Role) (was : Ends (Option R) (Option W) (Option I) (Option O)) (all left : List (Own R W I O)) → left ≡ all
      → EachOf (λ one end. fits readers writers one (kind_with end) ≡ true) roles all → PutBack readers writers roles was all 0 was left
  put-first readers writers roles was all left is fit = record {
    fit = subst (EachOf (λ (one : Role) (end : Own R W I O). fits readers writers one (kind_with end) ≡ true) roles) (sym is) fit;
    ends = ap (λ (it : List (Own R W I O)). map end_with it) is;
    others = λ one idle. refl;
    reader_numbers = refl;
    writer_numbers = refl;
  }

  module _ (readers writers : ℕ) (roles : List Role) (was : Ends (Option R) (Option W) (Option I) (Option O)) (all : List (Own R W I O)) (node : ℕ)
      (now : Ends (Option R) (Option W) (Option I) (Option O)) (left : List (Own R W I O)) (put : PutBack readers writers roles was all node now left) where
    pub put-within : (end : Own R W I O) (rest : List (Own R W I O)) → left ≡ end ∷ rest → node < length roles
    put-within end rest is = each-within (λ (one : Role) (end : Own R W I O). fits readers writers one (kind_with end) ≡ true) roles node end rest left is put.fit

    module _ (end : Own R W I O) (rest : List (Own R W I O)) (is : left ≡ end ∷ rest) (here : Role) (same : here ≡ role_at roles node) where
      -- the next end fits its role, in lists that are as long as before
      pub put-fits : readers ≡ length was.readers.items → writers ≡ length was.writers.items → fits (length now.readers.items) (length now.writers.items) here (kind_with end) ≡ true
      put-fits many_readers many_writers =
          ap (λ (it : ℕ). fits it (length now.writers.items) here (kind_with end)) (as-long now.readers.items was.readers.items put.reader_numbers ∙ sym many_readers)
          ∙ ap (λ (it : ℕ). fits readers it here (kind_with end)) (as-long now.writers.items was.writers.items put.writer_numbers ∙ sym many_writers)
          ∙ each-first (λ (one : Role) (end : Own R W I O). fits readers writers one (kind_with end) ≡ true) roles node here end rest left is (put-within end rest is) (at-here roles node here (put-within end rest is) same) put.fit

      -- one more is back
      pub put-next : AreApart roles → (next : Ends (Option R) (Option W) (Option I) (Option O)) → held_by here next ≡ end_with end
          → ((other : Role) → is_same other here ≡ false → held_by other next ≡ held_by other now)
          → numbers_of next.readers.items ≡ numbers_of now.readers.items → numbers_of next.writers.items ≡ numbers_of now.writers.items
          → PutBack readers writers roles was all (node + 1) next rest
      put-next apart next back stays reader_numbers writer_numbers = record {
        fit = each-rest (λ (one : Role) (end : Own R W I O). fits readers writers one (kind_with end) ≡ true) roles node here end rest left is (put-within end rest is) put.fit;
        ends =
            ap (λ (it : List Role). map (held_at next) it ++ map end_with rest) (take-next roles node here (put-within end rest is) same)
            ∙ ap (λ (it : List (Option (NodeEnd R W I O))). it ++ map end_with rest) (map-append (held_at next) (take node roles) (here ∷ []))
            ∙ append_assoc (map (held_at next) (take node roles)) (held_by here next ∷ []) (map end_with rest)
            ∙ ap (λ (it : List (Option (NodeEnd R W I O))). it ++ held_by here next ∷ map end_with rest)
            (held-others now next here stays (take node roles) (unused-here roles apart node here same))
            ∙ ap (λ (it : Option (NodeEnd R W I O)). map (held_at now) (take node roles) ++ it ∷ map end_with rest) back
            ∙ ap (λ (it : List (Own R W I O)). map (held_at now) (take node roles) ++ map end_with it) (sym is)
            ∙ put.ends;
        others = λ one none. let parts = used-more roles node here one (put-within end rest is) same none in stays one parts.1 ∙ put.others one parts.0;
        reader_numbers = reader_numbers ∙ put.reader_numbers;
        writer_numbers = writer_numbers ∙ put.writer_numbers;
      }

    -- all are
    pub put-all : left ≡ [] → AreBack roles was all now
    put-all none =
        let behind : drop node roles ≡ [] = each-none (λ (one : Role) (end : Own R W I O). fits readers writers one (kind_with end) ≡ true) (drop node roles) left none put.fit in
        let whole : take node roles ≡ roles = take-all roles node behind in
        record {
          ends =
              sym (append-nil (map (held_at now) roles))
              ∙ ap (λ (it : List (Own R W I O)). map (held_at now) roles ++ map end_with it) (sym none)
              ∙ ap (λ (it : List Role). map (held_at now) it ++ map end_with left) (sym whole)
              ∙ put.ends;
          others = λ one idle. put.others one (ap (λ (it : List Role). is_used it one) whole ∙ idle);
        }
