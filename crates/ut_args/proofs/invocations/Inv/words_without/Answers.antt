use Rattle.std.proofs.Common.{◌≡◌, ◌≤◌, ◌-◌, ◌++◌, ℕ, Bool, List, Ok, length, take, ap, sym, ◌∙◌, arith}
use Rattle.std.proofs.lemmas.List.{length-map}
use Rattle.std.proofs.lemmas.Result.{IfOk-weaker}
use Rattle.std.specs.Global.{Vec}
use Rattle.ps_lines.specs.Texts.{texts_of}
use Rattle.ut_args.specs.Inputs.{emptied, operands_of, with_operands}
use Rattle.ut_args.specs.Invocations.{command_of, words_of}
use Rattle.ut_args.specs.Reading.{invocation}
use Rattle.ut_args.specs.declared.invocations.Inv.{Inv}
use Rattle.ut_args.proofs.CommandLemmas.{reads}
use Rattle.ut_args.proofs.OperandLemmas.{operands-within, reads-emptied}
use Rattle.ut_args.proofs.invocations.Inv.words_without.Goals as goal

-- there are as many texts
size : (texts : List (Vec ℕ)) (others : List (List ℕ)) → texts_of texts ≡ others → length texts ≡ length others
size texts others is = sym (length-map texts (λ (text : Vec ℕ). text.items)) ∙ ap length is

module _ (inv : Inv) (flags : List Bool) (words operands : List (Vec ℕ))
    (words_are : texts_of words ≡ words_of inv) (operands_are : texts_of operands ≡ operands_of inv) where
  within : length operands ≤ length words
  within =
      let most = operands-within (words_of inv) (command_of inv) (reads inv) in
      let of_words = size words (words_of inv) words_are in
      let of_operands = size operands (operands_of inv) operands_are in
      omega arith

  -- the new words, of those of the invocation
  texts_are : take (length words - length operands) (texts_of words) ++ emptied flags (texts_of operands)
      ≡ take (length (words_of inv) - length (operands_of inv)) (words_of inv) ++ emptied flags (operands_of inv)
  texts_are =
      let counts : length words - length operands ≡ length (words_of inv) - length (operands_of inv) =
      ap (λ count. count - length operands) (size words (words_of inv) words_are)
      ∙ ap (λ count. length (words_of inv) - count) (size operands (operands_of inv) operands_are) in
      ap (λ count. take count (texts_of words) ++ emptied flags (texts_of operands)) counts
      ∙ ap (λ texts. take (length (words_of inv) - length (operands_of inv)) texts ++ emptied flags (texts_of operands)) words_are
      ∙ ap (λ texts. take (length (words_of inv) - length (operands_of inv)) (words_of inv) ++ emptied flags texts) operands_are

  asks : (texts : List (List ℕ)) → texts ≡ take (length words - length operands) (texts_of words) ++ emptied flags (texts_of operands)
      → invocation texts ≡ Ok (with_operands (emptied flags (operands_of inv)) (command_of inv))
  asks texts is = ap invocation (is ∙ texts_are) ∙ reads-emptied (words_of inv) (command_of inv) flags (reads inv)

pub emptied_words-requires : goal.emptied_words-requires
emptied_words-requires c = within c.args.self.now c.args.lacking.now c.words.result.now c.operands.result.now c.words.ensures c.operands.ensures

pub returns-clause-asked : goal.returns-clause-asked
returns-clause-asked c =
    IfOk-weaker c.emptied_words.result _ _
    (asks c.args.self.now c.args.lacking.now c.words.result.now c.operands.result.now c.words.ensures c.operands.ensures) c.emptied_words.ensures
