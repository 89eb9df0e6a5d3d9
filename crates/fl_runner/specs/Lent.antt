-- The ends of a graph, some of which are with their nodes (own): a place in a list is empty while its end is.
use Rattle.std.specs.Prelude.{◌≡◌, ℕ, List, Bool, true, false, not, map, nat_lt, Option, Some, None, is_some}
use Rattle.std.specs.List.{list_all}
use Rattle.std.specs.Option.{option_and_then, option_map}
use Rattle.fl_core.specs.EndLists.{NodeEnd, Reader, Writer, Input, Output, end_in}
use Rattle.fl_core.specs.Roles.{end_by}
use Rattle.fl_core.specs.declared.end_lists.Ends.{Ends}
use Rattle.fl_core.specs.declared.roles.Role.{Role}
use Rattle.fl_core.specs.declared.roles.Role.TheVariants as role
use Rattle.fl_nodes.specs.Ends.{EndState, nothing, reading, writing}
use Rattle.fl_nodes.specs.Ends.{Role as Kind, Nothing as IsNothing, Reader as IsReader, Writer as IsWriter, Input as IsInput, Output as IsOutput}
use Rattle.fl_nodes.specs.declared.own.Own.{Own}
use Rattle.fl_nodes.specs.declared.own.Own.TheVariants as own

-- the entries of a list, with all ends in their places
abbrev pub lent_of : {End : Type 0} → List (ℕ × End) → List (ℕ × Option End)
lent_of entries = map (λ entry. (entry.0, Some entry.1)) entries

-- the end at a place, where it is there
abbrev pub held_in : {End : Type 0} → List (ℕ × Option End) → ℕ → Option End
held_in entries place = option_and_then (λ end. end) (end_in entries place)

abbrev pub are_back : {End : Type 0} → List (ℕ × Option End) → Bool
are_back entries = list_all (λ entry. is_some entry.1) entries

-- an end of this kind is that of this role, which has a place for it where there are so many of readers and writers; where it has none, there is no end
abbrev pub fits : ℕ → ℕ → Role → Kind → Bool
fits readers writers role.Nothing IsNothing = true
fits readers writers role.Input IsInput = true
fits readers writers role.Output IsOutput = true
fits readers writers (role.Reader place) IsReader = nat_lt place readers
fits readers writers (role.Reader place) IsNothing = not (nat_lt place readers)
fits readers writers (role.Writer place) IsWriter = nat_lt place writers
fits readers writers (role.Writer place) IsNothing = not (nat_lt place writers)
fits readers writers one other = false

module _ {R W I O : Type 0} where
  -- the end that a place has, where it is there
  abbrev pub held : Option (NodeEnd (Option R) (Option W) (Option I) (Option O)) → Option (NodeEnd R W I O)
  held None = None
  held (Some (Reader reader)) = option_map Reader reader
  held (Some (Writer writer)) = option_map Writer writer
  held (Some (Input input)) = option_map Input input
  held (Some (Output out)) = option_map Output out

  abbrev pub held_by : Role → Ends (Option R) (Option W) (Option I) (Option O) → Option (NodeEnd R W I O)
  held_by one lent = held (end_by one lent)

  -- the end that is with a node
  abbrev pub end_with : Own R W I O → Option (NodeEnd R W I O)
  end_with own.Nothing = None
  end_with (own.Reader inlet) = Some (Reader inlet.end)
  end_with (own.Writer writer) = Some (Writer writer)
  end_with (own.Input inlet) = Some (Input inlet.end)
  end_with (own.Output out) = Some (Output out)

  -- which kind of end is with a node
  abbrev pub kind_with : Own R W I O → Kind
  kind_with own.Nothing = IsNothing
  kind_with (own.Reader inlet) = IsReader
  kind_with (own.Writer writer) = IsWriter
  kind_with (own.Input inlet) = IsInput
  kind_with (own.Output out) = IsOutput

  -- all ends are back in their places
  pub record AreAllBack (lent : Ends (Option R) (Option W) (Option I) (Option O)) : Type 0 where
    pub readers : are_back lent.readers.items ≡ true
    pub writers : are_back lent.writers.items ≡ true
    pub input : is_some lent.input ≡ true
    pub out : is_some lent.out ≡ true

  -- what an end is to a node's thread, where ends tell their texts and counts by these functions
  abbrev pub end_state : (R → Option (List ℕ)) → (W → Option (List ℕ)) → (I → Option (List ℕ)) → (O → Option (List ℕ)) → (R → ℕ) → (W → ℕ) → (I → ℕ) → (O → ℕ)
      → Option (NodeEnd R W I O) → EndState
  end_state of_reader of_writer of_input of_output reader_faults writer_faults input_faults output_faults None = nothing
  end_state of_reader of_writer of_input of_output reader_faults writer_faults input_faults output_faults (Some (Reader it)) = reading IsReader (of_reader it) (reader_faults it)
  end_state of_reader of_writer of_input of_output reader_faults writer_faults input_faults output_faults (Some (Writer it)) = writing IsWriter (of_writer it) (writer_faults it)
  end_state of_reader of_writer of_input of_output reader_faults writer_faults input_faults output_faults (Some (Input it)) = reading IsInput (of_input it) (input_faults it)
  end_state of_reader of_writer of_input of_output reader_faults writer_faults input_faults output_faults (Some (Output it)) = writing IsOutput (of_output it) (output_faults it)
