-- Every text has exactly one outcome.
use Rattle.std.proofs.Common.{◌≡◌, ℕ, inl, inr, List, refl, sym, ◌∙◌, ap, subst, arith}
use Rattle.std.specs.declared.option.Option.{Option}
use Rattle.std.specs.declared.option.Option.TheVariants.{None, Some}
use Rattle.sh_tree.specs.Trees.{ScriptTree}
use Rattle.sh_lex.specs.Lexes.{Offence, HasOneReading}
use Rattle.sh_lex.proofs.Scripts.{one_reading}
use Rattle.sh_lex.specs.declared.refusals.Static.{Static}
use Rattle.sh_lex.specs.declared.refusals.Static.TheVariants as static
use Rattle.sh_parse.specs.Pieces.{WordViews}
use Rattle.sh_parse.specs.Stops.{HasScript, HasStop, IsSomeScript, HasOneOutcome}
use Rattle.sh_parse.specs.Texts.{HasItems}
use Rattle.sh_parse.specs.Misuses.{IsFirstForm, IsFirstMix, FirstMisuse}
use Rattle.sh_parse.specs.declared.misuses.Misuse.{Misuse}
use Rattle.sh_parse.specs.declared.misuses.Misuse.TheVariants as misuse
use Rattle.sh_parse.specs.Outcomes.{AreWordsOf, Reading, IsSound, EndsAt, IsScript, IsStopped, Outcome, script, refused, HasOutcome}
use Rattle.sh_parse.specs.Outcomes as text_outcomes
use Rattle.sh_parse.specs.declared.items.Item.{Item}
use Rattle.sh_parse.specs.declared.refusals.SyntaxRefusal.{SyntaxRefusal}
use Rattle.sh_parse.specs.declared.refusals.SyntaxRefusal.TheVariants as grammar
use Rattle.sh_parse.proofs.OneList.{one_list}
use Rattle.sh_parse.proofs.Misusing.{misuse_some}
use Rattle.sh_parse.proofs.Tops.{one_outcome}
use Rattle.sh_parse.proofs.TextItems.{some_items}
use Rattle.sh_parse.specs.Inner.WordsOf.{words_of}
use Rattle.sh_parse.proofs.ManyWords.{words_same, some_words}

-- how the items of a text that is lexed end
data Ends (views : WordViews) (items : List Item) : Static → Type 0 where
  at_bad : HasStop views items grammar.BadSyntax → Ends views items static.BadSyntax
  at_deep : {offset : ℕ} → HasStop views items (grammar.TooDeep offset) → Ends views items (static.TooDeep offset)
  at_form : {offset : ℕ} → IsSomeScript views items → IsFirstForm views items offset → Ends views items (static.ParameterForm offset)
  at_mix : {offset : ℕ} → IsSomeScript views items → IsFirstMix views items offset → Ends views items (static.SubstitutionMix offset)

module _ (views : WordViews) (items : List Item) where
  ends : (refusal : Static) → EndsAt refusal views items → Ends views items refusal
  ends static.BadSyntax stop = at_bad stop
  ends (static.TooDeep offset) stop = at_deep stop
  ends (static.ParameterForm offset) end = at_form end.script end.first
  ends (static.SubstitutionMix offset) end = at_mix end.script end.first
  ends (static.UnclosedQuote _) never = absurd never
  ends (static.UnclosedBrace _) never = absurd never
  ends (static.OutOfProfile _ _) never = absurd never
  ends static.ScriptTooLong never = absurd never

  -- a stop and a script aren't both there
  not_both : (stop : SyntaxRefusal) → HasStop views items stop → IsSomeScript views items → ⊥
  not_both stop has (tree, is) = is.not_stopped stop has.stops

  ends_one : {one other : Static} → Ends views items one → Ends views items other → one ≡ other
  ends_one (at_bad a) (at_bad b) = refl
  ends_one (at_bad a) (at_deep {offset = offset} b) = let same : grammar.TooDeep offset ≡ grammar.BadSyntax = a.only (grammar.TooDeep offset) b.stops in cc
  ends_one (at_bad a) (at_form is b) = absurd (not_both grammar.BadSyntax a is)
  ends_one (at_bad a) (at_mix is b) = absurd (not_both grammar.BadSyntax a is)
  ends_one (at_deep {offset = offset} a) (at_bad b) = let same : grammar.BadSyntax ≡ grammar.TooDeep offset = a.only grammar.BadSyntax b.stops in cc
  ends_one (at_deep {offset = offset} a) (at_deep {offset = other} b) = let same : grammar.TooDeep other ≡ grammar.TooDeep offset = a.only (grammar.TooDeep other) b.stops in cc
  ends_one (at_deep {offset = offset} a) (at_form is b) = absurd (not_both (grammar.TooDeep offset) a is)
  ends_one (at_deep {offset = offset} a) (at_mix is b) = absurd (not_both (grammar.TooDeep offset) a is)
  ends_one (at_form is a) (at_bad b) = absurd (not_both grammar.BadSyntax b is)
  ends_one (at_form is a) (at_deep {offset = offset} b) = absurd (not_both (grammar.TooDeep offset) b is)
  ends_one (at_form {offset = offset} is a) (at_form {offset = other} also b) = ap static.ParameterForm (omega (arith, a.of_forms other b.is, b.of_forms offset a.is))
  ends_one (at_form {offset = offset} is a) (at_mix {offset = other} also b) = absurd (omega (arith, a.of_mixes other b.is, b.of_forms offset a.is))
  ends_one (at_mix is a) (at_bad b) = absurd (not_both grammar.BadSyntax b is)
  ends_one (at_mix is a) (at_deep {offset = offset} b) = absurd (not_both (grammar.TooDeep offset) b is)
  ends_one (at_mix {offset = offset} is a) (at_form {offset = other} also b) = absurd (omega (arith, b.of_mixes offset a.is, a.of_forms other b.is))
  ends_one (at_mix {offset = offset} is a) (at_mix {offset = other} also b) = ap static.SubstitutionMix (omega (arith, a.of_mixes other b.is, b.of_mixes offset a.is))

  -- a script with nothing misused ends nowhere
  sound_ends : (tree : ScriptTree) → IsSound tree views items → {refusal : Static} → Ends views items refusal → ⊥
  sound_ends tree sound (at_bad stop) = not_both grammar.BadSyntax stop (tree, sound.script)
  sound_ends tree sound (at_deep {offset = offset} stop) = not_both (grammar.TooDeep offset) stop (tree, sound.script)
  sound_ends tree sound (at_form {offset = offset} is first) = sound.no_misuse.formed offset first.is
  sound_ends tree sound (at_mix {offset = offset} is first) = sound.no_misuse.unmixed offset first.is

module _ (text : List ℕ) where
  -- two readings are of the same words and items
  together : {One Other : WordViews → List Item → Type 0} → Reading text One → (second : Reading text Other) → One second.views second.items
  together {One = One} first second =
      subst (λ views. One views second.items) (words_same text first.views second.views first.words second.words)
      (subst (λ items. One first.views items) (one_list text first.items second.items first.has second.has) first.is)

  not_lexed : {Is : WordViews → List Item → Type 0} (refusal : Static) → Reading text Is → Offence text refusal → ⊥
  not_lexed refusal reading offence = reading.has.marked.lexed.1.not_refused refusal offence

  offence_one : (one other : Static) → Offence text one → Offence text other → HasOneReading text → one ≡ other
  offence_one one other first second (inl (tokens, has)) = absurd (has.not_refused one first)
  offence_one one other first second (inr (refusal, has)) = has.only one first ∙ sym (has.only other second)

  pub outcome_one : {one other : Outcome} → HasOutcome text one → HasOutcome text other → one ≡ other
  outcome_one {one = script tree} {other = script other} first second =
      ap script (let same : IsSound tree second.views second.items = together {One = IsSound tree} {Other = IsSound other} first second in second.is.script.only tree same.script.reads)
  outcome_one {one = script tree} {other = refused other} first (inl offence) = absurd (not_lexed other first offence)
  outcome_one {one = script tree} {other = refused other} first (inr second) =
      absurd (sound_ends second.views second.items tree (together {One = IsSound tree} {Other = EndsAt other} first second) (ends second.views second.items other second.is))
  outcome_one {one = refused one} {other = script tree} (inl offence) second = absurd (not_lexed one second offence)
  outcome_one {one = refused one} {other = script tree} (inr first) second =
      absurd (sound_ends first.views first.items tree (together {One = IsSound tree} {Other = EndsAt one} second first) (ends first.views first.items one first.is))
  outcome_one {one = refused one} {other = refused other} (inl first) (inl second) = ap refused (offence_one one other first second (one_reading text))
  outcome_one {one = refused one} {other = refused other} (inl first) (inr second) = absurd (not_lexed one second first)
  outcome_one {one = refused one} {other = refused other} (inr first) (inl second) = absurd (not_lexed other first second)
  outcome_one {one = refused one} {other = refused other} (inr first) (inr second) =
      ap refused (ends_one second.views second.items (ends second.views second.items one (together {One = EndsAt one} {Other = EndsAt other} first second)) (ends second.views second.items other second.is))

module _ (text : List ℕ) (items : List Item) (has : HasItems text items) (views : WordViews) (words : AreWordsOf text views) where
  abbrev Read : (WordViews → List Item → Type 0) → Type 0
  Read Is = Is views items → Reading text Is

  read : {Is : WordViews → List Item → Type 0} → Read Is
  read is = record { items = items; views = views; has = has; words = words; is = is }

  by_misuse : (tree : ScriptTree) → HasScript views items tree → (found : Option Misuse) × FirstMisuse views items found
      → (outcome : Outcome) × HasOutcome text outcome
  by_misuse tree is (None, none) = (script tree, read {Is = IsSound tree} (record { script = is; no_misuse = none }))
  by_misuse tree is (Some (misuse.Form offset), first) =
      (refused (static.ParameterForm offset), inr (read {Is = EndsAt (static.ParameterForm offset)} (record { script = (tree, is); first = first })))
  by_misuse tree is (Some (misuse.Mix offset), first) =
      (refused (static.SubstitutionMix offset), inr (read {Is = EndsAt (static.SubstitutionMix offset)} (record { script = (tree, is); first = first })))

  by_grammar : HasOneOutcome views items → (outcome : Outcome) × HasOutcome text outcome
  by_grammar (inl (tree, is)) = by_misuse tree is (misuse_some views items)
  by_grammar (inr (grammar.BadSyntax, stop)) = (refused static.BadSyntax, inr (read {Is = EndsAt static.BadSyntax} stop))
  by_grammar (inr (grammar.TooDeep offset, stop)) =
      (refused (static.TooDeep offset), inr (read {Is = EndsAt (static.TooDeep offset)} stop))

by_tokens : (text : List ℕ) → HasOneReading text → (outcome : Outcome) × HasOutcome text outcome
by_tokens text (inl (tokens, has)) =
    let (items, has_items) = some_items text tokens has.lexed in
    by_grammar text items has_items (words_of text) (some_words text) (one_outcome (words_of text) items)
by_tokens text (inr (refusal, has)) = (refused refusal, inl has.met)

pub one_outcome_of : (text : List ℕ) → text_outcomes.HasOneOutcome text
one_outcome_of text =
    let (outcome, is) = by_tokens text (one_reading text) in
    record { outcome = outcome; is = is; only = λ other second. outcome_one text second is }
