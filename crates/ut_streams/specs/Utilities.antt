-- What a utility means for whole inputs (XCU, each utility's page), and how its work on the parts of one input is put together (own; PaSh's
-- maps and aggregators). A stream does it piece by piece. Each utility's definition stands in its own crate, over its own record.
use Rattle.std.specs.Prelude.{ℕ, List, [], ◌∷◌, ◌++◌, Bool, false, drop, get_or}
use Rattle.std.specs.List.{flat_map, list_any}

-- an input: the operand that names it, which is empty where none does, and its text
pub record Input : Type 0 where
  pub label : List ℕ
  pub text : List ℕ

-- texts with the names of their inputs, in order; where there are fewer names, those of the others are empty
abbrev pub labelled : List (List ℕ) → List (List ℕ) → List Input
labelled names [] = []
labelled names (text ∷ texts) = record { label = get_or names 0 []; text = text } ∷ labelled (drop 1 names) texts

pub record Utility : Type 0 where
  -- what is written for the inputs in their order, and whether something in them is selected
  pub output : List Input → List ℕ
  pub selects : List Input → Bool
  -- the map: what is made of one part of the one input
  pub part : List ℕ → List ℕ
  -- the aggregator: what is made of two neighbouring parts joined, from what is made of each
  pub aggregate : List ℕ → List ℕ → List ℕ
  -- the finish: the output, from what is made of the whole input
  pub finish : List ℕ → List ℕ

-- a utility that reads each input by itself, writes for it what it makes of its text, and goes on over parts without a change
abbrev pub each_by_itself : (List ℕ → List ℕ) → (List ℕ → Bool) → Utility
each_by_itself written selected = record {
  output = λ inputs. flat_map (λ input. written input.text) inputs;
  selects = λ inputs. list_any (λ input. selected input.text) inputs;
  part = written;
  aggregate = λ first second. first ++ second;
  finish = λ text. text;
}

-- cat (XCU cat)
abbrev pub cat : Utility
cat = each_by_itself (λ text. text) (λ text. false)
