use Rattle.std.proofs.Common.{rules, ◌≡◌, ◌≤◌, ◌<◌, ℕ, [], ◌∷◌, map, length, sym, subst}
use Rattle.std.proofs.lemmas.List.{length-map}
use Rattle.ps_lines.specs.Texts.{texts_of}
use Rattle.sh_tree.specs.Views.{word_tree}
use Rattle.sh_expand.specs.declared.fields.TheConstants.{MAX_FIELDS}
use Rattle.sh_expand.specs.Given.{given_of}
use Rattle.sh_expand.specs.Fields.{all_passed, passes, stops_here, stops_later, IsPlain, Stop}
use Rattle.sh_expand.proofs.FieldLemmas.{fields_step, alone}
use Rattle.sh_expand.proofs.CutLemmas.{appends_all, fields_end, too_many_fields, no_words}
use Rattle.sh_expand.proofs.UniqueLemmas.{untouched_here, untouched_step, too_many_passes}
use Rattle.sh_expand.proofs.fields.fields_of_words.Goals as goal

pub returns-in-Err-clause-fault : goal.returns-in-Err-clause-fault
returns-in-Err-clause-fault g c =
    let step : map word_tree c.loop-word.left.now ≡ word_tree c.in-Some.word.now ∷ map word_tree c.in-Some.rest.now = search rules in
    c.loop-word.invariant.stop _ _ (rw step (stops_here c.in-Err.ensures.fault))

pub returns-in-Err-clause-unasked : goal.returns-in-Err-clause-unasked
returns-in-Err-clause-unasked g c =
    let step : map word_tree c.loop-word.left.now ≡ word_tree c.in-Some.word.now ∷ map word_tree c.in-Some.rest.now = search rules in
    untouched_here c.args.tree.now c.loop-word.tree c.add_word_fields.new.tree (given_of c.args.known.now) c.args.env.now c.loop-word.env (map word_tree c.args.words.now) _ _ (word_tree c.in-Some.word.now) step c.add_word_fields.ensures.unasked c.loop-word.invariant.unasked

pub returns-then-len-gt-MAX_FIELDS-clause-fault : goal.returns-then-len-gt-MAX_FIELDS-clause-fault
returns-then-len-gt-MAX_FIELDS-clause-fault g c =
    let step : map word_tree c.loop-word.left.now ≡ word_tree c.in-Some.word.now ∷ map word_tree c.in-Some.rest.now = search rules in
    c.loop-word.invariant.stop _ _ (rw step (stops_later c.in-Ok.ensures.passed.1 c.fault_behind.ensures.fault))

pub returns-then-len-gt-MAX_FIELDS-clause-unasked : goal.returns-then-len-gt-MAX_FIELDS-clause-unasked
returns-then-len-gt-MAX_FIELDS-clause-unasked g c =
    let step : map word_tree c.loop-word.left.now ≡ word_tree c.in-Some.word.now ∷ map word_tree c.in-Some.rest.now = search rules in
    untouched_here c.args.tree.now c.loop-word.tree c.add_word_fields.new.tree (given_of c.args.known.now) c.args.env.now c.loop-word.env (map word_tree c.args.words.now) _ _ (word_tree c.in-Some.word.now) step c.add_word_fields.ensures.unasked c.loop-word.invariant.unasked

pub returns-then-len-gt-MAX_FIELDS-clause-many : goal.returns-then-len-gt-MAX_FIELDS-clause-many
returns-then-len-gt-MAX_FIELDS-clause-many g c = λ files home sees told.
    let step : map word_tree c.loop-word.left.now ≡ word_tree c.in-Some.word.now ∷ map word_tree c.in-Some.rest.now = search rules in
    let more : MAX_FIELDS < length c.add_word_fields.new.out.items = search rules in
    let same : c.fault_behind.result ≡ _ = cc in
    too_many_fields (g.T.Tree.state c.args.tree.now) (g.T.Tree.state c.loop-word.tree) (IsPlain (given_of c.args.known.now) c.args.env.now (map word_tree c.args.words.now)) MAX_FIELDS (given_of c.args.known.now) c.args.env.now c.loop-word.env c.add_word_fields.new.env c.fault_behind.new.env
    (map word_tree c.args.words.now) (map word_tree c.loop-word.left.now) (map word_tree c.in-Some.rest.now) (word_tree c.in-Some.word.now) (texts_of c.loop-word.fields.items) (texts_of c.add_word_fields.new.out.items) c.loop-word.invariant.state step
    (subst (λ (count : ℕ). MAX_FIELDS < count) (sym (length-map c.add_word_fields.new.out.items _)) more)
    (λ plain. alone (subst (λ these. IsPlain (given_of c.args.known.now) c.loop-word.env these) step (c.loop-word.invariant.unasked plain).1))
    (too_many_passes (subst (λ why. Stop (given_of c.args.known.now) c.add_word_fields.new.env (map word_tree c.in-Some.rest.now) why c.fault_behind.new.env) same c.fault_behind.ensures.fault))
    c.in-Ok.ensures.fields c.loop-word.invariant.go files home sees

pub loop-word-preserved : goal.loop-word-preserved
loop-word-preserved g c =
    let step : map word_tree c.loop-word.left.now ≡ word_tree c.in-Some.word.now ∷ map word_tree c.in-Some.rest.now = search rules in
    let few : length c.add_word_fields.new.out.items ≤ MAX_FIELDS = search rules in
    let has = c.in-Ok.ensures.passed.1 in
    record {
      state = search rules;
      faults = search rules;
      few = few;
      unasked = untouched_step c.args.tree.now c.loop-word.tree c.add_word_fields.new.tree (given_of c.args.known.now) c.args.env.now c.loop-word.env c.add_word_fields.new.env (map word_tree c.args.words.now) _ _ (word_tree c.in-Some.word.now) step c.in-Ok.ensures.passed c.add_word_fields.ensures.unasked c.loop-word.invariant.unasked;
      go = fields_step (g.T.Tree.state c.args.tree.now) (g.T.Tree.state c.loop-word.tree) (IsPlain (given_of c.args.known.now) c.args.env.now (map word_tree c.args.words.now)) (given_of c.args.known.now) _ c.loop-word.env c.add_word_fields.new.env
          (map word_tree c.args.words.now) _ _ (word_tree c.in-Some.word.now) (texts_of c.loop-word.fields.items) _ c.loop-word.invariant.state step
          (λ plain. (c.loop-word.invariant.unasked plain).1)
          (λ files home sees. appends_all MAX_FIELDS _ _ (subst (λ (count : ℕ). count ≤ MAX_FIELDS) (sym (length-map c.add_word_fields.new.out.items _)) few) (c.in-Ok.ensures.fields files home sees))
          c.loop-word.invariant.go;
      pass = λ end rest. c.loop-word.invariant.pass end (rw step (passes has rest));
      stop = λ shown end rest. c.loop-word.invariant.stop shown end (rw step (stops_later has rest));
    }

pub returns-clause-fields : goal.returns-clause-fields
returns-clause-fields g c =
    let over : map word_tree c.loop-word.left.now ≡ [] = no_words c.loop-word.left.now c.in_default.ensures.cases in
    fields_end (g.T.Tree.state c.args.tree.now) (IsPlain (given_of c.args.known.now) c.args.env.now (map word_tree c.args.words.now)) _ _ _ _ _ _ over c.loop-word.invariant.go

pub returns-clause-passed : goal.returns-clause-passed
returns-clause-passed g c =
    let over : map word_tree c.loop-word.left.now ≡ [] = no_words c.loop-word.left.now c.in_default.ensures.cases in
    c.loop-word.invariant.pass _ (rw over all_passed)
