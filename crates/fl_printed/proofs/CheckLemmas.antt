-- What a text comes to, from its reading and from what is found of its graph.
use Rattle.std.proofs.Common.{◌≡◌, ℕ, List, Bool, true, false, Option, Some, None, Result, Err, IfOk, refl, sym, ap, subst, ◌∙◌}
use Rattle.std.specs.Option.{IfSome}
use Rattle.ps_world.specs.Files.{Files}
use Rattle.ps_world.specs.Paths.{Components}
use Rattle.ps_world.specs.TreeState.{TreeState}
use Rattle.ps_world.specs.declared.error.WorldErr.{WorldErr}
use Rattle.fl_graph.specs.Valid.{Valid}
use Rattle.fl_graph.specs.declared.graphs.Graph.{Graph}
use Rattle.fl_text.specs.Readings.{IsReadAs, Reading, of_graph, reading}
use Rattle.fl_text.proofs.ReadingLemmas.{one_reading, reading_is}
use Rattle.fl_commands.specs.Graphs.{first_lacking, read_all_patterns}
use Rattle.fl_printed.specs.Checks.{CanRun, checked_over, unfit_by, unfit_over, unless_unfit}
use Rattle.fl_printed.specs.declared.checks.Unfit.{Unfit}

-- a text that is read so comes to what the reading does
pub checked-so : (held : Option Files) (home : Components) (text : List ℕ) (one : Reading) (result : Result (Result Graph Unfit) WorldErr) → IsReadAs text one
    → IfOk result (λ checked. IfSome held (λ files. checked ≡ checked_over files home one))
    → IfOk result (λ checked. IfSome held (λ files. checked ≡ checked_over files home (reading text)))
checked-so held home text one result has is =
    subst (λ (it : Reading). IfOk result (λ checked. IfSome held (λ files. checked ≡ checked_over files home it)))
    (one_reading text one (reading text) has (reading_is text)) is

-- and so does one that is none of a graph
pub faulty-so : (held : Option Files) (home : Components) (text : List ℕ) (one : Reading) (cause : Unfit) → IsReadAs text one
    → ((files : Files) → Err cause ≡ checked_over files home one) → IfSome held (λ files. Err cause ≡ checked_over files home (reading text))
faulty-so None home text one cause has is = tt
faulty-so (Some files) home text one cause has is = is files ∙ ap (checked_over files home) (one_reading text one (reading text) has (reading_is text))

-- a graph is given, or the cause is
pub given-so : (held : Option Files) (home : Components) (graph : Graph) (found cause : Option Unfit) → found ≡ cause
    → IfSome held (λ files. found ≡ unfit_over files home graph) → IfSome held (λ files. unless_unfit cause graph ≡ checked_over files home (of_graph graph))
given-so None home graph found cause found_is is = tt
given-so (Some files) home graph found cause found_is is = ap (λ (it : Option Unfit). unless_unfit it graph) (sym found_is ∙ is)

none-lacking : (all : Bool) (lacking : Option Components) → None ≡ unfit_by all lacking → lacking ≡ None
none-lacking true None is = refl
none-lacking true (Some path) is = cc
none-lacking false lacking is = cc

-- one for which there is no cause can run
pub can-run : (tree : TreeState) (graph : Graph) (found : Option Unfit) → found ≡ None → Valid graph.nodes graph.status
    → IfSome tree.held (λ files. found ≡ unfit_over files tree.home graph) → CanRun tree graph
can-run tree graph found found_is valid is = record { valid = valid; there = at tree.held is }
  where
    at : (held : Option Files) → IfSome held (λ files. found ≡ unfit_over files tree.home graph)
        → IfSome held (λ files. first_lacking files tree.home graph.nodes ≡ None)
    at None is = tt
    at (Some files) is = none-lacking (read_all_patterns graph.nodes) (first_lacking files tree.home graph.nodes) (sym found_is ∙ is)
