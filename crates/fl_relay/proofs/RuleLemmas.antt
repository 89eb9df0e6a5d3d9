-- Each kind of atomic step keeps the rule of the relay.
use Rattle.std.proofs.Common.{◌≡◌, ◌≢◌, ℕ, zero, suc, true, false, true≢false, List, [], ◌∷◌, ◌++◌, length, set, sym, refl, ap, ◌∙◌, subst, ⊎_elim, append_assoc}
use mathlib.Core.Option.{some, some-ne-none}
use lib.ListN.{get_elem?}
use Rattle.atomic_table.proofs.Lists.{at_set, at_snoc}
use Rattle.crossbeam_channel.specs.Fifo.{Pushes, Pops, Forks, Merges, Learns}
use Rattle.fl_graph.specs.Runs.{are_closed, is_clean}
use Rattle.fl_graph.specs.declared.pieces.Piece.{Piece}
use Rattle.fl_relay.specs.declared.rule.View.{View}
use Rattle.fl_relay.specs.Rule.{Balances, Fits, Relayed, TakenIsFront, giving, taking, whole, spent, sent, received}
use Rattle.fl_graph.proofs.PieceLemmas.{is_clean-add}

-- a view that stands behind a list, and not in it, stands at its end
at_end : (views : List View) (last view : View) (pass : ℕ) → get_elem? views pass ≢ some view → get_elem? (views ++ last ∷ []) pass ≡ some view → pass ≡ length views
at_end [] last view zero apart is = refl
at_end [] last view (suc pass) apart is = absurd (some-ne-none view (sym is))
at_end (first ∷ views) last view zero apart is = absurd (apart is)
at_end (first ∷ views) last view (suc pass) apart is = ap suc (at_end views last view pass apart is)

-- a fact of each pass with its view
abbrev Each : (ℕ → View → Type 0) → List View → Type 0
Each Fact views = (pass : ℕ) (view : View) → get_elem? views pass ≡ some view → Fact pass view

-- it holds still where one pass has another view, if it holds of this view and of all other passes
each-set : (Fact : ℕ → View → Type 0) (views : List View) (pass : ℕ) (now : View) → Fact pass now
    → ((other : ℕ) (view : View) → other ≢ pass → get_elem? views other ≡ some view → Fact other view) → Each Fact (set views pass now)
each-set Fact views pass now mine others other view is =
    ⊎_elim (λ (same : (other ≡ pass) × (now ≡ view)). subst (λ (it : ℕ × View). Fact it.0 it.1) (λ i. (sym same.0 i, same.1 i)) mine)
    (λ (apart : (other ≢ pass) × (get_elem? views other ≡ some view)). others other view apart.0 apart.1) (at_set views pass other now view is)

pub make : Relayed [] (whole [] [] ∷ [])
make = record {
  giver = 0;
  taker = 0;
  given = [];
  taken = [];
  balance = (refl, refl);
  each = each-set (Fits 0 0 [] []) (whole [] [] ∷ []) 0 (whole [] []) ((λ _. (refl, refl)), λ _. (refl, refl))
      (λ other view apart is. absurd (apart (at_end [] _ view other (λ at. some-ne-none view (sym at)) is)));
}

pub send : (room pass : ℕ) (view : View) (piece : Piece) → view.gives ≡ true → are_closed view.given ≡ false → Pushes Relayed room pass view piece (λ now. now ≡ sent view piece)
send room pass view piece gives still waiting views _ rule at = let now : View = sent view piece in let mine = rule.each pass view at in let same = (mine.0 gives).1 in (
  now,
  record {
    giver = rule.giver;
    taker = rule.taker;
    given = rule.given ++ piece ∷ [];
    taken = rule.taken;
    balance = (
      ap (λ pieces. pieces ++ piece ∷ []) rule.balance.0 ∙ append_assoc rule.taken waiting (piece ∷ []),
      is_clean-add rule.given piece (ap are_closed (sym same) ∙ still),
    );
    each = each-set (Fits rule.giver rule.taker (rule.given ++ piece ∷ []) rule.taken) views pass now
        ((λ _. ((mine.0 gives).0, ap (λ pieces. pieces ++ piece ∷ []) same)), mine.1)
        (λ other theirs apart is. ((λ may. absurd (apart (((rule.each other theirs is).0 may).0 ∙ sym (mine.0 gives).0))), (rule.each other theirs is).1));
  },
  refl,
)

pub receive : (pass : ℕ) (view : View) → view.takes ≡ true → Pops Relayed pass view (λ piece now. now ≡ received view piece)
receive pass view takes piece waiting views rule at = let now : View = received view piece in let mine = rule.each pass view at in (
  now,
  record {
    giver = rule.giver;
    taker = rule.taker;
    given = rule.given;
    taken = rule.taken ++ piece ∷ [];
    balance = (rule.balance.0 ∙ sym (append_assoc rule.taken (piece ∷ []) waiting), rule.balance.1);
    each = each-set (Fits rule.giver rule.taker rule.given (rule.taken ++ piece ∷ [])) views pass now
        (mine.0, λ _. ((mine.1 takes).0, ap (λ pieces. pieces ++ piece ∷ []) (mine.1 takes).1))
        (λ other theirs apart is. ((rule.each other theirs is).0, λ may. absurd (apart (((rule.each other theirs is).1 may).0 ∙ sym (mine.1 takes).0))));
  },
  refl,
)

pub split : (pass : ℕ) (view : View) → view.gives ≡ true → view.takes ≡ true → Forks Relayed pass view (giving view.given) (taking view.taken)
split pass view gives takes waiting views rule at =
    let giver : View = giving view.given in let taker : View = taking view.taken in let mine = rule.each pass view at in let behind : List View = set views pass giver in
    let Before : ℕ → View → Type 0 = λ other theirs. (theirs.gives ≡ true → (other ≡ rule.giver) × (theirs.given ≡ rule.given)) × (theirs.takes ≢ true) in
    let before : Each Before behind = each-set Before views pass giver ((λ _. mine.0 gives), λ never. true≢false (sym never))
    (λ other theirs apart is. ((rule.each other theirs is).0, λ may. apart (((rule.each other theirs is).1 may).0 ∙ sym (mine.1 takes).0))) in record {
      giver = rule.giver;
      taker = length behind;
      given = rule.given;
      taken = rule.taken;
      balance = rule.balance;
      each = λ other theirs is. ⊎_elim (λ at_front. ((before other theirs at_front).0, λ may. absurd ((before other theirs at_front).1 may)))
          (λ (same : taker ≡ theirs). (
            (λ may. absurd (true≢false (sym (ap (λ (it : View). it.gives) same ∙ may)))),
            λ may. (at_end behind taker theirs other (λ at_front. (before other theirs at_front).1 may) is, ap (λ (it : View). it.taken) (sym same) ∙ (mine.1 takes).1),
          )) (at_snoc behind taker theirs other is);
    }

pub join : (pass : ℕ) (view : View) (other : ℕ) (theirs : View) → view.gives ≡ true → theirs.takes ≡ true → Merges Relayed pass view other theirs (whole view.given theirs.taken) spent
join pass view other theirs gives takes waiting views rule at apart at_other =
    let both : View = whole view.given theirs.taken in let mine = rule.each pass view at in let joined : List View = set views pass both in
    let was : get_elem? views other ≡ some theirs = ⊎_elim (λ same. absurd (apart same.0)) (λ is. is.1) (at_set views pass other both theirs at_other) in
    let its = (rule.each other theirs was).1 takes in
    let Now : ℕ → View → Type 0 = λ each view. each ≢ other → Fits rule.giver pass rule.given rule.taken each view in
    let now : Each Now joined = each-set Now views pass both (λ _. ((λ _. mine.0 gives), λ _. (refl, its.1)))
    (λ each view _ is aside. ((rule.each each view is).0, λ may. absurd (aside (((rule.each each view is).1 may).0 ∙ sym its.0)))) in record {
      giver = rule.giver;
      taker = pass;
      given = rule.given;
      taken = rule.taken;
      balance = rule.balance;
      each = each-set (Fits rule.giver pass rule.given rule.taken) joined other spent ((λ never. absurd (true≢false (sym never))), λ never. absurd (true≢false (sym never)))
          (λ each view aside is. now each view is aside);
    }

-- what the views of the two know is what the rule says
balances : (waiting : List Piece) (views : List View) (rule : Relayed waiting views) (gives takes : View) → gives.given ≡ rule.given → takes.taken ≡ rule.taken
    → Balances gives.given takes.taken waiting
balances waiting views rule gives takes given taken =
    (given ∙ rule.balance.0 ∙ ap (λ pieces. pieces ++ waiting) (sym taken), ap is_clean given ∙ rule.balance.1)

pub learn : (pass : ℕ) (view : View) → view.gives ≡ true → view.takes ≡ true → Learns Relayed pass view (Balances view.given view.taken)
learn pass view gives takes waiting views rule at = let mine = rule.each pass view at in balances waiting views rule view view (mine.0 gives).1 (mine.1 takes).1

pub taken_is_front : TakenIsFront
taken_is_front waiting views rule giver taker gives takes at_giver may_give at_taker may_take =
    balances waiting views rule gives takes ((rule.each giver gives at_giver).0 may_give).1 ((rule.each taker takes at_taker).1 may_take).1
