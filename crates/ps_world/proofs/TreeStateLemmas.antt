-- Readers and writers that were lent and given back.
use Rattle.std.proofs.Common.{◌≡◌, ℕ, List, Option, ◌+◌, zero, suc, refl, sym, ap, ◌∙◌, zero-add, arith}
use Rattle.ps_world.specs.Counts.{one_more}
use Rattle.ps_world.specs.TreeState.{AreOut, Balanced, IsFilled, OnlyLent, TreeState, lend, raised, take_back, take_out}
use Rattle.ps_world.specs.Paths.{Components}

raised-raised : (first second count : ℕ) → raised second (raised first count) ≡ raised (first + second) count
raised-raised zero second count = rw (zero-add second) refl
raised-raised (suc first) second count =
    let after : suc first + second ≡ suc (first + second) = omega arith in
    rw after (raised-raised first second (one_more count))

-- nothing was lent
pub only_lent-none : (state : TreeState) → OnlyLent state state
only_lent-none state = record { home = refl; held = refl; times = 0; lent = refl; back = refl }

-- one reader was lent and given back
pub only_lent-one : (state : TreeState) → OnlyLent state (take_back (lend state))
only_lent-one state = record { home = refl; held = refl; times = 1; lent = refl; back = refl }

-- readers were lent and given back, and then others
pub only_lent-more : (old mid new : TreeState) → OnlyLent old mid → OnlyLent mid new → OnlyLent old new
only_lent-more old mid new first second =
    record {
      home = second.home ∙ first.home;
      held = second.held ∙ first.held;
      times = first.times + second.times;
      lent = second.lent ∙ ap (raised second.times) first.lent ∙ raised-raised first.times second.times old.lent;
      back = second.back ∙ ap (raised second.times) first.back ∙ raised-raised first.times second.times old.back;
    }

raised-more : (times count : ℕ) → one_more (raised times count) ≡ raised times (one_more count)
raised-more zero count = refl
raised-more (suc times) count = raised-more times (one_more count)

-- nothing was lent
pub balanced-none : (state : TreeState) → Balanced state state
balanced-none state = record { home = refl; times = 0; lent = refl; back = refl }

-- what is out stays out while others are lent and given back
pub out-more : (count : ℕ) (old mid new : TreeState) → AreOut count old mid → Balanced mid new → AreOut count old new
out-more count old mid new first second =
    record {
      home = second.home ∙ first.home;
      times = first.times + second.times;
      lent = second.lent ∙ ap (raised second.times) first.lent ∙ raised-raised first.times second.times (raised count old.lent);
      back = second.back ∙ ap (raised second.times) first.back ∙ raised-raised first.times second.times old.back;
    }

-- readers and writers were lent and given back, and then others
pub balanced-more : (old mid new : TreeState) → Balanced old mid → Balanced mid new → Balanced old new
balanced-more old mid new first second = out-more 0 old mid new first second

-- where readers alone were lent and given back, as many are back
pub balanced-only_lent : (old new : TreeState) → OnlyLent old new → Balanced old new
balanced-only_lent old new only = record { home = only.home; times = only.times; lent = only.lent; back = only.back }

-- one more is out
pub out-lend : (count : ℕ) (old new : TreeState) → AreOut count old new → AreOut (suc count) old (lend new)
out-lend count old new out =
    record {
      home = out.home;
      times = out.times;
      lent = ap one_more out.lent ∙ raised-more out.times (raised count old.lent) ∙ ap (raised out.times) (raised-more count old.lent);
      back = out.back;
    }

-- one of those that were out is back
pub out-take_back : (count : ℕ) (old new : TreeState) → AreOut (suc count) old new → AreOut count old (take_back new)
out-take_back count old new out =
    record {
      home = out.home;
      times = suc out.times;
      lent = out.lent ∙ ap (raised out.times) (sym (raised-more count old.lent));
      back = ap one_more out.back ∙ raised-more out.times old.back;
    }

-- a writer is out
pub out-create : (count : ℕ) (old new : TreeState) (path : Components) → AreOut count old new → AreOut (suc count) old (lend (take_out path new))
out-create count old new path out =
    let lent : AreOut (suc count) old (lend new) = out-lend count old new out in
    record { home = lent.home; times = lent.times; lent = lent.lent; back = lent.back }

-- a writer is back, and what it had taken is there
pub out-filled : (count : ℕ) (old mid new : TreeState) (path : Components) (taken : Option (List ℕ)) → AreOut (suc count) old mid → IsFilled path taken mid new
    → AreOut count old new
out-filled count old mid new path taken out filled =
    let back : AreOut count old (take_back mid) = out-take_back count old mid out in
    record {
      home = ap (λ (state : TreeState). state.home) filled.state ∙ back.home;
      times = back.times;
      lent = ap (λ (state : TreeState). state.lent) filled.state ∙ back.lent;
      back = ap (λ (state : TreeState). state.back) filled.state ∙ back.back;
    }

-- a reader was lent, and is back after others were
pub balanced-around : (old mid : TreeState) → Balanced (lend old) mid → Balanced old (take_back mid)
balanced-around old mid inner = out-take_back 0 old mid (out-more 1 old (lend old) mid (out-lend 0 old old (balanced-none old)) inner)

-- a writer was lent, and is back after others were
pub balanced-written : (old mid new : TreeState) (path : Components) (taken : Option (List ℕ)) → Balanced (lend (take_out path old)) mid → IsFilled path taken mid new
    → Balanced old new
balanced-written old mid new path taken inner filled =
    out-filled 0 old mid new path taken (out-more 1 old (lend (take_out path old)) mid (out-create 0 old old path (balanced-none old)) inner) filled
