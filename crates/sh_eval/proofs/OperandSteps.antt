-- What the operands of a utility give is what they name.
use Rattle.std.proofs.Common.{◌≡◌, ℕ, suc, List, [], ◌∷◌, ◌++◌, map, Bool, true, false, ◌&&◌, ◌||◌, ◌==◌, ◌≤◌, length, refl, sym, ap, ◌∙◌, arith, if◌then◌else◌}
use Rattle.std.proofs.lemmas.Bool.{true≢false}
use Rattle.std.specs.List.{list_any, flat_map}
use Rattle.ps_world.specs.Files.{bytes_at}
use Rattle.ps_world.specs.Places.{resolve}
use Rattle.ps_world.specs.declared.places.Place.{Place}
use Rattle.ps_world.specs.declared.places.Place.TheVariants as place
use Rattle.ut_args.specs.Inputs.{emptied, is_standard, operands_by, remaining, with_operands}
use Rattle.ut_args.specs.declared.commands.Command.{Command}
use Rattle.ut_args.specs.declared.commands.Command.TheVariants as command
use Rattle.ut_streams.specs.Utilities.{Input}
use Rattle.fl_classes.specs.Utilities.{labelled}
use Rattle.fl_classes.proofs.OperandLemmas.{output-emptied, selects-emptied}
use Rattle.fl_segments.specs.Chains.{text_in}
use Rattle.fl_segments.specs.Stages.{is_stream}
use Rattle.fl_segments.specs.declared.stages.In.{In}
use Rattle.fl_commands.specs.Inner.Stages.{command_left, some_lacks}
use Rattle.fl_commands.specs.Inputs.{output_for, selects_for}
use Rattle.fl_commands.specs.Operands.{AreNamed, in_at, in_standard, ins_from, ins_of, lacks, named, without_input}
use Rattle.fl_commands.specs.declared.operands.Operand.{Operand}
use Rattle.fl_commands.specs.declared.operands.Operand.TheVariants as operand
use Rattle.sh_eval.specs.Inner.Inputs.{is_stream_operand, lines_of, reads_stream}
use Rattle.sh_eval.specs.Lines.{diagnostic, no_such_file, is_a_directory}
use Rattle.sh_eval.specs.States.{State, to_read}
use Rattle.sh_eval.specs.Utilities.{Given, complaints_in, file_input, given_from, given_to, has_none, inputs_in, needs_all, reads_standard, standard_again, standard_input}

module _ (state : State) where
  -- what texts name in a state
  abbrev pub looked : List (List ℕ) → List Operand
  looked texts = map (named state.world.files state.world.home) texts

  abbrev one_at : Bool → List ℕ → Operand
  one_at is text = if is then operand.Standard else operand.At (resolve state.world.files state.world.home text)

  abbrev text_at : In → List ℕ
  text_at one = text_in (to_read state) (bytes_at state.world.files) one

  module _ (name : List ℕ) where
    -- the inputs are those that the operands name
    inputs-from : (deals is_taken : Bool) (texts : List (List ℕ))
        → inputs_in (given_from state deals name is_taken texts) ≡ labelled (remaining (without_input deals is_taken (looked texts)) texts) (map text_at (ins_from deals is_taken (looked texts)))
    inputs-from deals is_taken [] = refl
    inputs-from deals is_taken (text ∷ texts) = by_test (inputs-from deals true texts) (inputs-from deals is_taken texts) (is_standard text)
      where
        by_taken : inputs_in (given_from state deals name true texts) ≡ labelled (remaining (without_input deals true (looked texts)) texts) (map text_at (ins_from deals true (looked texts)))
            → (deals_on is_taken : Bool) → inputs_in ((if is_taken then standard_again deals_on text else standard_input state text) ∷ given_from state deals name true texts)
            ≡ labelled (remaining ((deals_on && is_taken) ∷ without_input deals true (looked texts)) (text ∷ texts)) (map text_at (in_standard deals_on is_taken ++ ins_from deals true (looked texts)))
        by_taken again true true = again
        by_taken again false true = ap (λ (it : List Input). record { label = text; text = [] } ∷ it) again
        by_taken again true false = ap (λ (it : List Input). record { label = text; text = to_read state } ∷ it) again
        by_taken again false false = ap (λ (it : List Input). record { label = text; text = to_read state } ∷ it) again

        by_place : inputs_in (given_from state deals name is_taken texts) ≡ labelled (remaining (without_input deals is_taken (looked texts)) texts) (map text_at (ins_from deals is_taken (looked texts)))
            → (at : Place) → inputs_in (file_input state name text at ∷ given_from state deals name is_taken texts)
            ≡ labelled (remaining (lacks (operand.At at) ∷ without_input deals is_taken (looked texts)) (text ∷ texts)) (map text_at (in_at at ++ ins_from deals is_taken (looked texts)))
        by_place same place.Missing = same
        by_place same (place.Makeable path) = same
        by_place same (place.Dir path) = same
        by_place same (place.File path) = ap (λ (it : List Input). record { label = text; text = bytes_at state.world.files path } ∷ it) same
        by_place same place.Null = ap (λ (it : List Input). record { label = text; text = [] } ∷ it) same

        by_test : inputs_in (given_from state deals name true texts) ≡ labelled (remaining (without_input deals true (looked texts)) texts) (map text_at (ins_from deals true (looked texts)))
            → inputs_in (given_from state deals name is_taken texts) ≡ labelled (remaining (without_input deals is_taken (looked texts)) texts) (map text_at (ins_from deals is_taken (looked texts)))
            → (is : Bool) → inputs_in
            (if is then (if is_taken then standard_again deals text else standard_input state text) ∷ given_from state deals name true texts
            else file_input state name text (resolve state.world.files state.world.home text) ∷ given_from state deals name is_taken texts)
            ≡ labelled (remaining (without_input deals is_taken (one_at is text ∷ looked texts)) (text ∷ texts)) (map text_at (ins_from deals is_taken (one_at is text ∷ looked texts)))
        by_test again same true = by_taken again deals is_taken
        by_test again same false = by_place same (resolve state.world.files state.world.home text)

    pub inputs-are : (deals : Bool) (texts : List (List ℕ))
        → inputs_in (given_to state deals name texts) ≡ labelled (remaining (without_input deals false (looked texts)) texts) (map text_at (ins_of deals (looked texts)))
    inputs-are deals [] = refl
    inputs-are deals (text ∷ texts) = inputs-from deals false (text ∷ texts)

    -- and the lines are those of the operands that name none
    lines-from : (deals is_taken : Bool) (texts : List (List ℕ)) → flat_map (λ line. line) (complaints_in (given_from state deals name is_taken texts)) ≡ lines_of name texts (looked texts)
    lines-from deals is_taken [] = refl
    lines-from deals is_taken (text ∷ texts) = by_test (lines-from deals true texts) (lines-from deals is_taken texts) (is_standard text)
      where
        by_deals : (deals is_taken : Bool) (given : List Given)
            → flat_map (λ line. line) (complaints_in ((if is_taken then standard_again deals text else standard_input state text) ∷ given)) ≡ flat_map (λ line. line) (complaints_in given)
        by_deals true true given = refl
        by_deals true false given = refl
        by_deals false true given = refl
        by_deals false false given = refl

        by_place : flat_map (λ line. line) (complaints_in (given_from state deals name is_taken texts)) ≡ lines_of name texts (looked texts) → (at : Place) → flat_map (λ line. line) (complaints_in (file_input state name text at ∷ given_from state deals name is_taken texts)) ≡ lines_of name (text ∷ texts) (operand.At at ∷ looked texts)
        by_place same place.Missing = ap (λ (it : List ℕ). diagnostic name text no_such_file ++ it) same
        by_place same (place.Makeable path) = ap (λ (it : List ℕ). diagnostic name text no_such_file ++ it) same
        by_place same (place.Dir path) = ap (λ (it : List ℕ). diagnostic name text is_a_directory ++ it) same
        by_place same (place.File path) = same
        by_place same place.Null = same

        by_test : flat_map (λ line. line) (complaints_in (given_from state deals name true texts)) ≡ lines_of name texts (looked texts) → flat_map (λ line. line) (complaints_in (given_from state deals name is_taken texts)) ≡ lines_of name texts (looked texts) → (is : Bool) → flat_map (λ line. line) (complaints_in
            (if is then (if is_taken then standard_again deals text else standard_input state text) ∷ given_from state deals name true texts
            else file_input state name text (resolve state.world.files state.world.home text) ∷ given_from state deals name is_taken texts))
            ≡ lines_of name (text ∷ texts) (one_at is text ∷ looked texts)
        by_test again same true = by_deals deals is_taken (given_from state deals name true texts) ∙ again
        by_test again same false = by_place same (resolve state.world.files state.world.home text)

    pub lines-are : (deals : Bool) (texts : List (List ℕ)) → flat_map (λ line. line) (complaints_in (given_to state deals name texts)) ≡ lines_of name texts (looked texts)
    lines-are deals [] = refl
    lines-are deals (text ∷ texts) = lines-from deals false (text ∷ texts)

  -- some operand has no input
  pub lacks-are : (texts : List (List ℕ)) → list_any (has_none state) texts ≡ some_lacks (looked texts)
  lacks-are [] = refl
  lacks-are (text ∷ texts) = ap (λ (it : Bool). has_none state text || it) (lacks-are texts)

  -- the words with the empty text in place of operands without an input
  pub emptied-are : (texts : List (List ℕ)) → map (λ text. if has_none state text then [] else text) texts ≡ emptied (map lacks (looked texts)) texts
  emptied-are [] = refl
  emptied-are (text ∷ texts) = ap (λ (it : List (List ℕ)). (if has_none state text then [] else text) ∷ it) (emptied-are texts)

  -- and so the command without them
  pub command_left-is : (asked : Command) → with_operands (map (λ text. if has_none state text then [] else text) (operands_by asked)) asked ≡ command_left asked (looked (operands_by asked))
  command_left-is asked = ap (λ (it : List (List ℕ)). with_operands it asked) (emptied-are (operands_by asked))

  -- the standard input is read
  reads-from : (texts : List (List ℕ)) → list_any is_stream_operand (looked texts) ≡ list_any is_standard texts
  reads-from [] = refl
  reads-from (text ∷ texts) = by_test (reads-from texts) (is_standard text)
    where
      by_test : list_any is_stream_operand (looked texts) ≡ list_any is_standard texts → (is : Bool) → (is_stream_operand (one_at is text) || list_any is_stream_operand (looked texts)) ≡ (is || list_any is_standard texts)
      by_test same true = refl
      by_test same false = same

  pub reads-are : (texts : List (List ℕ)) → reads_stream (looked texts) ≡ reads_standard texts
  reads-are [] = refl
  reads-are (text ∷ texts) = reads-from (text ∷ texts)

-- the stream is an input where an operand names it, or there is none
streams-in : (deals : Bool) (operands : List Operand) → list_any is_stream (ins_from deals false operands) ≡ list_any is_stream_operand operands
streams-in deals [] = refl
streams-in deals (operand.Standard ∷ rest) = refl
streams-in deals (operand.At place.Missing ∷ rest) = streams-in deals rest
streams-in deals (operand.At (place.Makeable path) ∷ rest) = streams-in deals rest
streams-in deals (operand.At (place.Dir path) ∷ rest) = streams-in deals rest
streams-in deals (operand.At (place.File path) ∷ rest) = streams-in deals rest
streams-in deals (operand.At place.Null ∷ rest) = streams-in deals rest

pub streams-are : (deals : Bool) (operands : List Operand) → list_any is_stream (ins_of deals operands) ≡ reads_stream operands
streams-are deals [] = refl
streams-are deals (first ∷ rest) = streams-in deals (first ∷ rest)

-- there are as many inputs
pub all-inputs : (names : List (List ℕ)) (ins : List In) (text : In → List ℕ) → length (labelled names (map text ins)) ≡ length ins
all-inputs names [] text = refl
all-inputs [] (first ∷ rest) text = ap suc (all-inputs [] rest text)
all-inputs (name ∷ names) (first ∷ rest) text = ap suc (all-inputs names rest text)

-- as many operands are named as there are texts
pub as-many : (texts : List (List ℕ)) (operands : List Operand) → AreNamed texts operands → length operands ≡ length texts
as-many [] [] are = refl
as-many [] (first ∷ rest) are = absurd are
as-many (text ∷ texts) [] are = absurd are
as-many (text ∷ texts) (first ∷ rest) are = ap suc (as-many texts rest are.1)

pub reads-some : (operands : List Operand) → 1 ≤ length operands → reads_stream operands ≡ list_any is_stream_operand operands
reads-some [] some = absurd (omega (arith, some))
reads-some (first ∷ rest) some = refl

-- THE COMMAND WITHOUT OPERANDS THAT HAVE NO INPUT: where each has one it is the command itself
emptied-none : (operands : List Operand) (texts : List (List ℕ)) → some_lacks operands ≡ false → emptied (map lacks operands) texts ≡ texts
emptied-none operands [] none = refl
emptied-none [] (text ∷ texts) none = refl
emptied-none (first ∷ rest) (text ∷ texts) none = by_first (emptied-none rest texts) (lacks first) none
  where
    by_first : (some_lacks rest ≡ false → emptied (map lacks rest) texts ≡ texts) → (is : Bool) → (is || some_lacks rest) ≡ false
        → ((if is then [] else text) ∷ emptied (map lacks rest) texts) ≡ text ∷ texts
    by_first others true some = absurd (true≢false some)
    by_first others false some = ap (λ (it : List (List ℕ)). text ∷ it) (others some)

own-operands : (asked : Command) → with_operands (operands_by asked) asked ≡ asked
own-operands (command.Cat args) = refl
own-operands (command.Grep args) = refl
own-operands (command.Cut args) = refl
own-operands (command.Head args) = refl
own-operands (command.Tail args) = refl
own-operands (command.Wc args) = refl
own-operands (command.Uniq args) = refl
own-operands (command.Sort args) = refl
own-operands (command.Paste args) = refl
own-operands other = refl

pub command_left-whole : (asked : Command) (operands : List Operand) → some_lacks operands ≡ false → command_left asked operands ≡ asked
command_left-whole asked operands none = ap (λ (it : List (List ℕ)). with_operands it asked) (emptied-none operands (operands_by asked) none) ∙ own-operands asked

-- and a command that goes on without them makes the same of its inputs
module _ (operands : List Operand) (inputs : List Input) where
  pub output-left : (asked : Command) → (needs_all asked && some_lacks operands) ≡ false → output_for (command_left asked operands) inputs ≡ output_for asked inputs
  output-left (command.Cat args) whole = refl
  output-left (command.Grep args) whole = output-emptied (map lacks operands) (command.Grep args) inputs (λ dealt. absurd (true≢false (sym dealt)))
  output-left (command.Cut args) whole = refl
  output-left (command.Head args) whole = output-emptied (map lacks operands) (command.Head args) inputs (λ dealt. absurd (true≢false (sym dealt)))
  output-left (command.Tail args) whole = ap (λ (it : Command). output_for it inputs) (command_left-whole (command.Tail args) operands whole)
  output-left (command.Wc args) whole = output-emptied (map lacks operands) (command.Wc args) inputs (λ dealt. absurd (true≢false (sym dealt)))
  output-left (command.Uniq args) whole = ap (λ (it : Command). output_for it inputs) (command_left-whole (command.Uniq args) operands whole)
  output-left (command.Sort args) whole = ap (λ (it : Command). output_for it inputs) (command_left-whole (command.Sort args) operands whole)
  output-left (command.Paste args) whole = ap (λ (it : Command). output_for it inputs) (command_left-whole (command.Paste args) operands whole)
  output-left other whole = refl

  pub selects-left : (asked : Command) → (needs_all asked && some_lacks operands) ≡ false → selects_for (command_left asked operands) inputs ≡ selects_for asked inputs
  selects-left (command.Cat args) whole = refl
  selects-left (command.Grep args) whole = selects-emptied (map lacks operands) (command.Grep args) inputs
  selects-left (command.Cut args) whole = refl
  selects-left (command.Head args) whole = selects-emptied (map lacks operands) (command.Head args) inputs
  selects-left (command.Tail args) whole = ap (λ (it : Command). selects_for it inputs) (command_left-whole (command.Tail args) operands whole)
  selects-left (command.Wc args) whole = selects-emptied (map lacks operands) (command.Wc args) inputs
  selects-left (command.Uniq args) whole = ap (λ (it : Command). selects_for it inputs) (command_left-whole (command.Uniq args) operands whole)
  selects-left (command.Sort args) whole = ap (λ (it : Command). selects_for it inputs) (command_left-whole (command.Sort args) operands whole)
  selects-left (command.Paste args) whole = ap (λ (it : Command). selects_for it inputs) (command_left-whole (command.Paste args) operands whole)
  selects-left other whole = refl
