-- Texts that are put one after another.
use Rattle.std.proofs.Common.{◌≡◌, ◌++◌, List, [], ℕ, Bool, true, false, refl, ap, sym, ◌∙◌, append_assoc, append-nil}
use Rattle.ps_lines.proofs.TextsLemmas.{begins-append, begins-self}
use Rattle.ut_streams.specs.Streams.{Put}
use Rattle.ut_streams.proofs.StreamLemmas.{Put-after, Put-broken, Put-none, Put-whole}

pub ruleset puts = (Put-whole, Put-none, Put-after, Put-broken)

-- the whole is what was put behind the old text, and what is left to put
pub record PutSoFar (whole left old now : List ℕ) : Type 0 where
  pub front : List ℕ
  pub put : Put front old now true
  pub same : whole ≡ front ++ left

pub PutSoFar-start : (whole old : List ℕ) → PutSoFar whole whole old old
PutSoFar-start whole old = record { front = []; put = record { kept = begins-self old; grew = λ ok. sym (append-nil old); part = begins-append old [] }; same = refl }

pub PutSoFar-next : (whole left text rest old now new : List ℕ) → PutSoFar whole left old now → left ≡ text ++ rest → Put text now new true → PutSoFar whole rest old new
PutSoFar-next whole left text rest old now new done is put =
    record {
      front = done.front ++ text;
      put = Put-after done.front text old now new true done.put put;
      same = done.same ∙ ap (λ left. done.front ++ left) is ∙ sym (append_assoc done.front text rest);
    }

pub Put-rest : (whole left old now new : List ℕ) (ok : Bool) → PutSoFar whole left old now → Put left now new ok → Put whole old new ok
Put-rest whole left old now new ok done put = rw done.same (Put-after done.front left old now new ok done.put put)

pub Put-stopped_at : (whole left text rest old now new : List ℕ) → PutSoFar whole left old now → left ≡ text ++ rest → Put text now new false → Put whole old new false
Put-stopped_at whole left text rest old now new done is put = Put-rest whole left old now new false done (rw is (Put-broken text rest now new put))
