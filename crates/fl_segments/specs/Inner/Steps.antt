-- The nodes of a segment at a width (own), stage by stage. Those of a stage, in their order: the end of a stream that it doesn't read, those
-- of its inputs, what joins them, its utility or what that is spread over, the files that tee writes, what comes first, and where its output
-- goes. All have the stage's number, and each part is said of the number of the next edge. What comes of a part is a stream on one or several
-- edges.
use Rattle.std.specs.Prelude.{ℕ, zero, suc, ◌+◌, ◌-◌, ◌/◌, List, [], ◌∷◌, ◌++◌, Bool, true, false, not, ◌&&◌, ◌||◌, ◌==◌, nat_lt, if◌then◌else◌, length, get_or, take, drop, Option, Some, None}
use Rattle.std.specs.List.{flat_map, range_with_len}
use Rattle.ps_lines.specs.Lines.{is_empty}
use Rattle.ps_world.specs.Paths.{Components}
use Rattle.ps_world.specs.declared.tree.Mode.{Mode}
use Rattle.ut_args.specs.Classes.{class_of, keeps_closed_of}
use Rattle.ut_args.specs.declared.classes.Class.{Class}
use Rattle.ut_args.specs.declared.classes.Class.TheVariants as class
use Rattle.ut_args.specs.declared.classes.Seam.TheVariants as seam
use Rattle.ut_args.specs.declared.invocations.Inv.{Inv}
use Rattle.fl_graph.specs.Kinds.{has_aggregator, is_grep}
use Rattle.fl_graph.specs.declared.graphs.StatusRule.{StatusRule}
use Rattle.fl_graph.specs.declared.graphs.StatusRule.TheVariants as ruled
use Rattle.fl_graph.specs.declared.kinds.NodeKind.{NodeKind}
use Rattle.fl_graph.specs.declared.kinds.NodeKind.TheVariants as kind
use Rattle.fl_graph.specs.declared.kinds.From.TheVariants as from
use Rattle.fl_graph.specs.declared.kinds.To.TheVariants as to
use Rattle.fl_classes.specs.Parts.{slice}
use Rattle.fl_classes.specs.Used.{is_cat}
use Rattle.fl_segments.specs.Chains.{is_quiet, tee_mode}
use Rattle.fl_segments.specs.Groups.{group_start, is_grouped}
use Rattle.fl_segments.specs.Stages.{closes_before, has_finish, is_none, is_reader, is_spread, is_stream, joins_before}
use Rattle.fl_segments.specs.Inner.Drawing.{Step, step, split_step, behind}
use Rattle.fl_segments.specs.declared.parts.Coming.{Coming}
use Rattle.fl_segments.specs.declared.parts.Coming.TheVariants as coming
use Rattle.fl_segments.specs.declared.parts.Parts.{Parts}
use Rattle.fl_segments.specs.declared.stages.Does.{Does}
use Rattle.fl_segments.specs.declared.stages.Does.TheVariants as does
use Rattle.fl_segments.specs.declared.stages.First.{First}
use Rattle.fl_segments.specs.declared.stages.First.TheVariants as first
use Rattle.fl_segments.specs.declared.stages.In.{In}
use Rattle.fl_segments.specs.declared.stages.In.TheVariants as inlet
use Rattle.fl_segments.specs.declared.stages.Out.{Out}
use Rattle.fl_segments.specs.declared.stages.Out.TheVariants as out
use Rattle.fl_segments.specs.declared.stages.Stage.{Stage}

-- a stream on these edges, and on one
abbrev pub parts_on : List ℕ → Bool → Parts
parts_on edges cut = record { edges = edges; cut = cut }

abbrev pub one_part : ℕ → Parts
one_part edge = parts_on (edge ∷ []) false

-- the parts on these edges joined, where there are several, and the edge with their text
abbrev pub whole_steps : ℕ → List ℕ → List Step
whole_steps number edges = if nat_lt 1 (length edges) then step (kind.Cat false) edges number ∷ [] else []

abbrev pub whole_edge : List ℕ → ℕ → ℕ
whole_edge edges next = if nat_lt 1 (length edges) then next else get_or edges 0 next

-- the stream that a stage doesn't read is let go
abbrev pub each_ended : ℕ → List ℕ → List Step
each_ended number [] = []
each_ended number (edge ∷ edges) = step kind.Drain (edge ∷ []) number ∷ each_ended number edges

abbrev pub end_steps : ℕ → Coming → List Step
end_steps number (coming.Begins begin) = []
end_steps number (coming.On parts) = each_ended number parts.edges
end_steps number coming.Nothing = []

abbrev pub drain_steps : ℕ → Coming → Bool → List Step
drain_steps number comes reads = if reads then [] else end_steps number comes

-- the inputs: a stream that is on edges already has no node
abbrev pub kind_first : First → NodeKind
kind_first first.Input = kind.Source from.Input
kind_first (first.Text text) = kind.Text text

abbrev pub kind_stream : Coming → Option NodeKind
kind_stream (coming.Begins begin) = Some (kind_first begin.now)
kind_stream (coming.On parts) = None
kind_stream coming.Nothing = Some (kind.Text [])

abbrev pub kind_in : Coming → In → Option NodeKind
kind_in comes inlet.Stream = kind_stream comes
kind_in comes (inlet.File path closed) = Some (kind.Source (from.File path))
kind_in comes inlet.Empty = Some (kind.Text [])

abbrev pub input_steps : ℕ → Option NodeKind → List Step
input_steps number None = []
input_steps number (Some kind) = step kind [] number ∷ []

abbrev pub in_steps : ℕ → Coming → List In → List Step
in_steps number comes ins = flat_map (λ it. input_steps number (kind_in comes it)) ins

-- the edges with their texts
abbrev pub stream_edges : Coming → ℕ → List ℕ
stream_edges (coming.Begins begin) next = next ∷ []
stream_edges (coming.On parts) next = parts.edges
stream_edges coming.Nothing next = next ∷ []

abbrev pub input_edges : Coming → In → ℕ → List ℕ
input_edges comes inlet.Stream next = stream_edges comes next
input_edges comes (inlet.File path closed) next = next ∷ []
input_edges comes inlet.Empty next = next ∷ []

abbrev pub in_edges : ℕ → Coming → List In → ℕ → List ℕ
in_edges number comes [] next = []
in_edges number comes (it ∷ ins) next = input_edges comes it next ++ in_edges number comes ins (behind next (input_steps number (kind_in comes it)))

-- the stage is the segment's first
abbrev pub begins : Coming → Bool
begins (coming.Begins begin) = true
begins (coming.On parts) = false
begins coming.Nothing = false

-- a cat that leads the segment is its inputs, and the empty text where it has none
abbrev pub is_leading_cat : Bool → Inv → Bool
is_leading_cat leads inv = is_cat inv && leads

-- the inputs of other utilities are joined by a node, where they are read joined, and the edges that the utility then takes
abbrev pub is_joined : Bool → Inv → List In → Bool
is_joined leads inv ins = joins_before inv && (not (is_leading_cat leads inv) && nat_lt 1 (length ins))

abbrev pub join_steps : ℕ → Bool → Inv → List In → List ℕ → List Step
join_steps number leads inv ins edges = if is_joined leads inv ins then step (kind.Cat (closes_before inv)) edges number ∷ [] else []

abbrev pub joined_edges : Bool → Inv → List In → List ℕ → ℕ → List ℕ
joined_edges leads inv ins edges next = if is_joined leads inv ins then next ∷ [] else edges

-- what a stage reads: nothing where its command is skipped
abbrev pub read_steps : ℕ → Coming → Does → List In → ℕ → List Step
read_steps number comes does.Skip ins next = []
read_steps number comes (does.Util inv) ins next =
    in_steps number comes ins ++ join_steps number (begins comes) inv ins (in_edges number comes ins next)

abbrev pub read_edges : ℕ → Coming → Does → List In → ℕ → List ℕ
read_edges number comes does.Skip ins next = []
read_edges number comes (does.Util inv) ins next =
    joined_edges (begins comes) inv ins (in_edges number comes ins next) (behind next (in_steps number comes ins))

-- the stream that comes is a cut list
abbrev pub comes_cut : Coming → Bool
comes_cut (coming.Begins begin) = false
comes_cut (coming.On parts) = parts.cut
comes_cut coming.Nothing = false

-- a utility is spread over these parts where they are as many as the width, and else over those of a split
abbrev pub stands : ℕ → List ℕ → Bool
stands width edges = length edges == width

abbrev pub split_steps : ℕ → ℕ → List ℕ → List Step
split_steps width number edges = if stands width edges then [] else split_step edges width number ∷ []

abbrev pub split_edges : ℕ → List ℕ → ℕ → List ℕ
split_edges width edges next = if stands width edges then edges else range_with_len next width

abbrev pub split_cut : ℕ → List ℕ → Bool → Bool
split_cut width edges cut = if stands width edges then cut else true

-- a map of each part
abbrev pub map_steps : ℕ → Inv → List ℕ → List Step
map_steps number inv [] = []
map_steps number inv (edge ∷ edges) = step (kind.Map inv) (edge ∷ []) number ∷ map_steps number inv edges

-- the maps of neighbours are aggregated two by two: a tree over the edges, halved, with the greater half left
pub data Tree : Type 0 where
  Leaf : ℕ → Tree
  Join : Tree → Tree → Tree

abbrev pub half_of : ℕ → ℕ
half_of size = size - size / 2

abbrev pub tree_of : ℕ → List ℕ → Tree
tree_of zero edges = Leaf (get_or edges 0 0)
tree_of (suc levels) edges =
    if nat_lt 1 (length edges) then Join (tree_of levels (take (half_of (length edges)) edges)) (tree_of levels (drop (half_of (length edges)) edges))
    else Leaf (get_or edges 0 0)

abbrev pub tree_over : List ℕ → Tree
tree_over edges = tree_of (length edges) edges

-- how many aggregates that are, and the edge with the last one's output
abbrev pub joins_of : Tree → ℕ
joins_of (Leaf edge) = 0
joins_of (Join one other) = joins_of one + joins_of other + 1

abbrev pub tree_edge : Tree → ℕ → ℕ
tree_edge (Leaf edge) next = edge
tree_edge (Join one other) next = next + joins_of one + joins_of other

abbrev pub tree_steps : ℕ → Inv → Tree → ℕ → List Step
tree_steps number inv (Leaf edge) next = []
tree_steps number inv (Join one other) next =
    (tree_steps number inv one next ++ tree_steps number inv other (next + joins_of one))
    ++ step (kind.Agg inv) (tree_edge one next ∷ tree_edge other (next + joins_of one) ∷ []) number ∷ []

-- the output from the map of the whole
abbrev pub finish_steps : ℕ → Inv → ℕ → List Step
finish_steps number inv edge = if has_finish inv then step (kind.Finish inv) (edge ∷ []) number ∷ [] else []

abbrev pub finish_edge : Inv → ℕ → ℕ → ℕ
finish_edge inv edge next = if has_finish inv then next else edge

-- so it is of class P; the maps of class S are the output
module _ (number : ℕ) (inv : Inv) (edges : List ℕ) (next : ℕ) where
  abbrev pub tree_next : ℕ
  tree_next = behind next (tree_steps number inv (tree_over edges) next)

  abbrev pub folded_steps : List Step
  folded_steps = tree_steps number inv (tree_over edges) next ++ finish_steps number inv (tree_edge (tree_over edges) next)

  abbrev pub folded_edge : ℕ
  folded_edge = finish_edge inv (tree_edge (tree_over edges) next) tree_next

  abbrev pub fold_steps : List Step
  fold_steps = if has_aggregator (class_of inv) then folded_steps else []

abbrev pub fold_parts : ℕ → Inv → Parts → ℕ → Parts
fold_parts number inv parts next = if has_aggregator (class_of inv) then one_part (folded_edge number inv parts.edges next) else parts

-- a utility that is spread: its maps, on so many edges, and what is made of them
module _ (width number : ℕ) (inv : Inv) (edges : List ℕ) (next : ℕ) where
  abbrev pub mapped_steps : List Step
  mapped_steps = split_steps width number edges ++ map_steps number inv (split_edges width edges next)

  abbrev pub mapped_edges : List ℕ
  mapped_edges = range_with_len (behind next (split_steps width number edges)) width

  abbrev pub mapped_parts : Bool → Parts
  mapped_parts cut = parts_on mapped_edges (split_cut width edges cut && keeps_closed_of inv)

abbrev pub spread_steps : ℕ → ℕ → Inv → List ℕ → ℕ → List Step
spread_steps width number inv edges next =
    mapped_steps width number inv edges next ++ fold_steps number inv (mapped_edges width number inv edges next) (behind next (mapped_steps width number inv edges next))

abbrev pub spread_parts : ℕ → ℕ → Inv → Parts → ℕ → Parts
spread_parts width number inv parts next =
    fold_parts number inv (mapped_parts width number inv parts.edges next parts.cut) (behind next (mapped_steps width number inv parts.edges next))

-- the nodes of a utility that takes these parts
module _ (width number : ℕ) (leads : Bool) (inv : Inv) where
  abbrev pub util_steps : List ℕ → ℕ → List Step
  util_steps edges next =
      if is_leading_cat leads inv then (if is_none edges then step (kind.Text []) [] number ∷ [] else [])
      else if is_spread width inv then spread_steps width number inv edges next else step (kind.Whole inv) edges number ∷ []

  -- its output
  abbrev pub util_parts : Parts → ℕ → Parts
  util_parts parts next =
      if is_leading_cat leads inv then parts_on (if is_none parts.edges then next ∷ [] else parts.edges) false
      else if is_spread width inv then spread_parts width number inv parts next else one_part next

  -- the numbers of its maps, or of its whole, where so many nodes stand before
  abbrev pub util_nodes : List ℕ → ℕ → List ℕ
  util_nodes edges before =
      if is_leading_cat leads inv then []
      else if is_spread width inv then range_with_len (before + length (split_steps width number edges)) width else before ∷ []

-- what a stage does: a command that is skipped has what comes first as its output
abbrev pub does_steps : ℕ → ℕ → Bool → Does → List ℕ → List ℕ → ℕ → List Step
does_steps width number leads does.Skip text edges next = step (kind.Text text) [] number ∷ []
does_steps width number leads (does.Util inv) text edges next = util_steps width number leads inv edges next

abbrev pub does_parts : ℕ → ℕ → Bool → Does → Parts → ℕ → Parts
does_parts width number leads does.Skip parts next = one_part next
does_parts width number leads (does.Util inv) parts next = util_parts width number leads inv parts next

abbrev pub does_nodes : ℕ → ℕ → Bool → Does → List ℕ → ℕ → List ℕ
does_nodes width number leads does.Skip edges before = []
does_nodes width number leads (does.Util inv) edges before = util_nodes width number leads inv edges before

-- each file that tee writes gets what is on this edge, and hands it on
abbrev pub tee_steps : ℕ → Mode → List Components → ℕ → ℕ → List Step
tee_steps number mode [] edge next = []
tee_steps number mode (path ∷ paths) edge next = step (kind.TeeFile path mode) (edge ∷ []) number ∷ tee_steps number mode paths next (next + 1)

abbrev pub tee_edge : List Components → ℕ → ℕ → ℕ
tee_edge [] edge next = edge
tee_edge (path ∷ paths) edge next = tee_edge paths next (next + 1)

-- where there are such files, they get the output whole
abbrev pub teed_steps : ℕ → Mode → List Components → List ℕ → ℕ → List Step
teed_steps number mode paths edges next =
    if is_none paths then [] else whole_steps number edges ++ tee_steps number mode paths (whole_edge edges next) (behind next (whole_steps number edges))

abbrev pub teed_parts : ℕ → List Components → Parts → ℕ → Parts
teed_parts number paths parts next =
    if is_none paths then parts else one_part (tee_edge paths (whole_edge parts.edges next) (behind next (whole_steps number parts.edges)))

abbrev pub files_steps : ℕ → Does → List Components → List ℕ → ℕ → List Step
files_steps number does.Skip paths edges next = []
files_steps number (does.Util inv) paths edges next = teed_steps number (tee_mode inv) paths edges next

abbrev pub files_parts : ℕ → Does → List Components → Parts → ℕ → Parts
files_parts number does.Skip paths parts next = parts
files_parts number (does.Util inv) paths parts next = teed_parts number paths parts next

-- the edges in groups, so many from this one on, and a Cat over each
abbrev pub groups_from : ℕ → List ℕ → ℕ → ℕ → List (List ℕ)
groups_from width edges group zero = []
groups_from width edges group (suc left) =
    slice edges (group_start width (length edges) group) (group_start width (length edges) (group + 1)) ∷ groups_from width edges (group + 1) left

abbrev pub cat_steps : ℕ → List (List ℕ) → List Step
cat_steps number [] = []
cat_steps number (edges ∷ groups) = step (kind.Cat false) edges number ∷ cat_steps number groups

abbrev pub group_steps : ℕ → ℕ → List ℕ → List Step
group_steps width number edges = cat_steps number (groups_from width edges 0 width)

abbrev pub group_parts : ℕ → ℕ → Parts
group_parts width next = parts_on (range_with_len next width) true

-- what a stage does, where the files of a cat that leads may go in groups
abbrev pub stage_steps : ℕ → ℕ → Bool → Does → List In → List ℕ → List ℕ → ℕ → List Step
stage_steps width number leads it ins text edges next =
    if is_grouped width leads it ins then group_steps width number edges else does_steps width number leads it text edges next

abbrev pub stage_parts : ℕ → ℕ → Bool → Does → List In → Parts → ℕ → Parts
stage_parts width number leads it ins parts next = if is_grouped width leads it ins then group_parts width next else does_parts width number leads it parts next

-- what comes first is a part before the output, which is whole then
abbrev pub before_steps : ℕ → List ℕ → List ℕ → List Step
before_steps number text edges = if is_empty text then [] else whole_steps number edges ++ step (kind.Text text) [] number ∷ []

abbrev pub before_parts : ℕ → List ℕ → Parts → ℕ → Parts
before_parts number text parts next =
    if is_empty text then parts else parts_on (behind next (whole_steps number parts.edges) ∷ whole_edge parts.edges next ∷ []) false

abbrev pub first_steps : ℕ → Does → List ℕ → List ℕ → List Step
first_steps number does.Skip text edges = []
first_steps number (does.Util inv) text edges = before_steps number text edges

abbrev pub first_parts : ℕ → Does → List ℕ → Parts → ℕ → Parts
first_parts number does.Skip text parts next = parts
first_parts number (does.Util inv) text parts next = before_parts number text parts next

-- both: the files, and what comes before what they hand on
module _ (number : ℕ) (it : Does) (paths : List Components) (text : List ℕ) (parts : Parts) (next : ℕ) where
  abbrev pub beside_steps : List Step
  beside_steps = files_steps number it paths parts.edges next ++ first_steps number it text (files_parts number it paths parts next).edges

  abbrev pub beside_parts : Parts
  beside_parts = first_parts number it text (files_parts number it paths parts next) (behind next (files_steps number it paths parts.edges next))

-- where the output of the last stage goes
abbrev pub piped_steps : ℕ → List ℕ → ℕ → List Step
piped_steps number piped next =
    if is_empty piped then [] else step (kind.Text piped) [] number ∷ step (kind.Sink to.Output) (next ∷ []) number ∷ []

abbrev pub out_steps : ℕ → Out → List ℕ → ℕ → ℕ → List Step
out_steps number out.Next piped edge next = step (kind.Sink to.Output) (edge ∷ []) number ∷ []
out_steps number (out.File path mode) piped edge next = step (kind.Sink (to.File path mode)) (edge ∷ []) number ∷ piped_steps number piped next
out_steps number out.Null piped edge next = step kind.Drain (edge ∷ []) number ∷ piped_steps number piped next

-- where that of an earlier stage goes: the next stage has a stream of its own in its place, if it reads it
abbrev pub stream_steps : ℕ → List ℕ → Bool → List Step
stream_steps number piped reads = if reads then step (kind.Text piped) [] number ∷ [] else []

abbrev pub on_steps : ℕ → Out → List ℕ → Bool → ℕ → List Step
on_steps number out.Next piped reads edge = []
on_steps number (out.File path mode) piped reads edge = step (kind.Sink (to.File path mode)) (edge ∷ []) number ∷ stream_steps number piped reads
on_steps number out.Null piped reads edge = step kind.Drain (edge ∷ []) number ∷ stream_steps number piped reads

-- what comes to the next stage
abbrev pub stream_comes : Bool → ℕ → Coming
stream_comes reads next = if reads then coming.On (one_part next) else coming.Nothing

abbrev pub comes_on : Out → Bool → ℕ → ℕ → Coming
comes_on out.Next reads edge next = coming.On (one_part edge)
comes_on (out.File path mode) reads edge next = stream_comes reads next
comes_on out.Null reads edge next = stream_comes reads next

-- the next stage takes the parts as they are: the stream is its one input, they are as many as the width, and cut as its class wants it
abbrev pub takes_any : Class → Bool
takes_any (class.S seam.Bytes) = true
takes_any (class.S seam.Lines) = false
takes_any class.P = false
takes_any class.N = false
takes_any class.E = false

abbrev pub is_lone : List In → Bool
is_lone [] = false
is_lone (it ∷ []) = is_stream it
is_lone (it ∷ next ∷ ins) = false

abbrev pub takes_by : ℕ → Does → List In → ℕ → Bool → Bool
takes_by width does.Skip ins count cut = false
takes_by width (does.Util inv) ins count cut = is_spread width inv && (is_lone ins && ((count == width) && (cut || takes_any (class_of inv))))

abbrev pub takes_parts : ℕ → Stage → Parts → Bool
takes_parts width stage parts = takes_by width stage.does stage.ins (length parts.edges) parts.cut

abbrev pub is_next : Out → Bool
is_next out.Next = true
is_next (out.File path mode) = false
is_next out.Null = false

-- the parts go on as they are
abbrev pub hands_on : ℕ → Out → Stage → Parts → Bool
hands_on width it following parts = is_next it && takes_parts width following parts

-- where the parts of a stage's output go, where this stage comes next, and what comes to that
module _ (width number : ℕ) (stage following : Stage) (parts : Parts) (next : ℕ) where
  abbrev pub goes_from : List Step
  goes_from =
      if hands_on width stage.out following parts then []
      else whole_steps number parts.edges ++ on_steps number stage.out stage.piped (is_reader following) (whole_edge parts.edges next)

  abbrev pub comes_from : Coming
  comes_from =
      if hands_on width stage.out following parts then coming.On parts
      else comes_on stage.out (is_reader following) (whole_edge parts.edges next) (behind next (whole_steps number parts.edges))

-- where they go from the last stage
abbrev pub ends_from : ℕ → Stage → Parts → ℕ → List Step
ends_from number stage parts next =
    whole_steps number parts.edges ++ out_steps number stage.out stage.piped (whole_edge parts.edges next) (behind next (whole_steps number parts.edges))

-- a stage up to where its output goes
module _ (number : ℕ) (comes : Coming) (stage : Stage) (next : ℕ) where
  abbrev pub front_steps : List Step
  front_steps = drain_steps number comes (is_reader stage) ++ read_steps number comes stage.does stage.ins next

  abbrev pub front_edges : List ℕ
  front_edges = read_edges number comes stage.does stage.ins next

  abbrev pub front_next : ℕ
  front_next = behind next front_steps

module _ (width number : ℕ) (comes : Coming) (stage : Stage) (next : ℕ) where
  abbrev pub done_steps : List Step
  done_steps =
      stage_steps width number (begins comes) stage.does stage.ins stage.first (front_edges number comes stage next) (front_next number comes stage next)

  abbrev pub done_parts : Parts
  done_parts =
      stage_parts width number (begins comes) stage.does stage.ins (parts_on (front_edges number comes stage next) (comes_cut comes)) (front_next number comes stage next)

  abbrev pub done_next : ℕ
  done_next = behind (front_next number comes stage next) done_steps

  abbrev pub main_steps : List Step
  main_steps = front_steps number comes stage next ++ (done_steps ++ beside_steps number stage.does stage.tees stage.first done_parts done_next)

  abbrev pub main_parts : Parts
  main_parts = beside_parts number stage.does stage.tees stage.first done_parts done_next

  abbrev pub main_next : ℕ
  main_next = behind next main_steps

  -- the numbers of its utility's nodes, where so many stand before the stage
  abbrev pub main_nodes : ℕ → List ℕ
  main_nodes before = does_nodes width number (begins comes) stage.does (front_edges number comes stage next) (before + length (front_steps number comes stage next))

  -- its output on one edge
  abbrev pub end_edge : ℕ
  end_edge = whole_edge main_parts.edges main_next

  abbrev pub end_next : ℕ
  end_next = behind main_next (whole_steps number main_parts.edges)

  abbrev pub last_steps : List Step
  last_steps = main_steps ++ ends_from number stage main_parts main_next

  -- where this stage comes next
  module _ (following : Stage) where
    abbrev pub goes_steps : List Step
    goes_steps = goes_from width number stage following main_parts main_next

    abbrev pub comes_behind : Coming
    comes_behind = comes_from width number stage following main_parts main_next

    abbrev pub earlier_steps : List Step
    earlier_steps = main_steps ++ goes_steps

-- all stages
abbrev pub chain_steps : ℕ → ℕ → Coming → List Stage → ℕ → List Step
chain_steps width number comes [] next = []
chain_steps width number comes (stage ∷ []) next = last_steps width number comes stage next
chain_steps width number comes (stage ∷ following ∷ stages) next =
    earlier_steps width number comes stage next following
    ++ chain_steps width (number + 1) (comes_behind width number comes stage next following) (following ∷ stages) (behind next (earlier_steps width number comes stage next following))

-- the numbers of the nodes of the last stage's utility, where so many stand before these stages
abbrev pub chain_nodes : ℕ → ℕ → Coming → List Stage → ℕ → ℕ → List ℕ
chain_nodes width number comes [] next before = []
chain_nodes width number comes (stage ∷ []) next before = main_nodes width number comes stage next before
chain_nodes width number comes (stage ∷ following ∷ stages) next before =
    chain_nodes width (number + 1) (comes_behind width number comes stage next following) (following ∷ stages) (behind next (earlier_steps width number comes stage next following))
    (before + length (earlier_steps width number comes stage next following))

-- the status rule is that of the last stage: that of grep goes by its nodes
abbrev pub grep_rule : Bool → ℕ → List ℕ → StatusRule
grep_rule quiet status nodes =
    if status == 0 then ruled.Selected nodes 0 1 else if quiet then ruled.Selected nodes 0 status else ruled.Fixed status

abbrev pub rule_by : Does → ℕ → List ℕ → StatusRule
rule_by does.Skip status nodes = ruled.Fixed status
rule_by (does.Util inv) status nodes = if is_grep inv then grep_rule (is_quiet inv) status nodes else ruled.Fixed status

abbrev pub chain_rule : List Stage → List ℕ → StatusRule
chain_rule [] nodes = ruled.Fixed 0
chain_rule (stage ∷ []) nodes = rule_by stage.does stage.status nodes
chain_rule (stage ∷ following ∷ stages) nodes = chain_rule (following ∷ stages) nodes
