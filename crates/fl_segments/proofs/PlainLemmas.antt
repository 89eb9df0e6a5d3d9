-- What a test of all nodes says of the parts of a stage, but for those that join maps.
use Rattle.std.proofs.Common.{◌≡◌, ℕ, ◌+◌, List, [], ◌∷◌, ◌++◌, Bool, true, false, Some, if◌then◌else◌, length, nat_lt, refl, ◌∙◌}
use Rattle.std.specs.List.{list_all}
use Rattle.std.proofs.lemmas.Bool.{and_from}
use Rattle.std.proofs.lemmas.List.Folds.{list_all-append}
use Rattle.ps_lines.specs.Lines.{is_empty}
use Rattle.ps_world.specs.Paths.{Components}
use Rattle.ps_world.specs.declared.tree.Mode.{Mode}
use Rattle.ut_args.specs.declared.invocations.Inv.{Inv}
use Rattle.fl_graph.specs.declared.kinds.NodeKind.{NodeKind}
use Rattle.fl_graph.specs.declared.kinds.NodeKind.TheVariants as kind
use Rattle.fl_graph.specs.declared.kinds.From.TheVariants as from
use Rattle.fl_graph.specs.declared.kinds.To.TheVariants as to
use Rattle.fl_segments.specs.Chains.{tee_mode}
use Rattle.fl_segments.specs.Stages.{closes_before, is_none, is_reader}
use Rattle.fl_segments.specs.Inner.Drawing.{Step, behind, step, split_step}
use Rattle.fl_segments.specs.Inner.Steps.{begins, beside_steps, cat_steps, drain_steps, each_ended, files_parts, files_steps, first_steps, front_steps, goes_from, hands_on, in_edges, in_steps, input_steps, is_joined, join_steps, kind_first, kind_in, map_steps, mapped_steps, on_steps, out_steps, piped_steps, read_steps, split_edges, split_steps, stands, stream_steps, tee_steps, whole_edge, whole_steps}
use Rattle.fl_segments.specs.declared.parts.Coming.{Coming}
use Rattle.fl_segments.specs.declared.parts.Coming.TheVariants as coming
use Rattle.fl_segments.specs.declared.parts.Parts.{Parts}
use Rattle.fl_segments.specs.declared.stages.Does.{Does}
use Rattle.fl_segments.specs.declared.stages.Does.TheVariants as does
use Rattle.fl_segments.specs.declared.stages.First.{First}
use Rattle.fl_segments.specs.declared.stages.First.TheVariants as first
use Rattle.fl_segments.specs.declared.stages.In.{In}
use Rattle.fl_segments.specs.declared.stages.In.TheVariants as inlet
use Rattle.fl_segments.specs.declared.stages.Out.{Out}
use Rattle.fl_segments.specs.declared.stages.Out.TheVariants as out
use Rattle.fl_segments.specs.declared.stages.Stage.{Stage}
use Rattle.fl_segments.proofs.DrawingLemmas.{joins_none}

module _ (test : Step → Bool) where
  abbrev pub AllPass : List Step → Type 0
  AllPass steps = list_all test steps ≡ true

  pub pass-append : (front back : List Step) → AllPass front → AllPass back → AllPass (front ++ back)
  pass-append front back first second = list_all-append test front back ∙ and_from (list_all test front) (list_all test back) first second

  pub pass-if : (choice : Bool) (one other : List Step) → AllPass one → AllPass other → AllPass (if choice then one else other)
  pass-if true one other first second = first
  pass-if false one other first second = second

-- a test that each node of a stage passes which joins no maps
module _ (number : ℕ) (test : Step → Bool) (plain : (it : NodeKind) (ins : List ℕ) → joins_none it ≡ true → test (step it ins number) ≡ true)
    (split : (ins : List ℕ) (parts : ℕ) → test (split_step ins parts number) ≡ true) where
  pass-one : (it : NodeKind) (ins : List ℕ) → joins_none it ≡ true → AllPass test (step it ins number ∷ [])
  pass-one it ins none = and_from (test (step it ins number)) true (plain it ins none) refl

  each-plain : (edges : List ℕ) → AllPass test (each_ended number edges)
  each-plain [] = refl
  each-plain (edge ∷ edges) = pass-append test (step kind.Drain (edge ∷ []) number ∷ []) (each_ended number edges) (pass-one kind.Drain (edge ∷ []) refl) (each-plain edges)

  maps-plain : (inv : Inv) (edges : List ℕ) → AllPass test (map_steps number inv edges)
  maps-plain inv [] = refl
  maps-plain inv (edge ∷ edges) = pass-append test (step (kind.Map inv) (edge ∷ []) number ∷ []) (map_steps number inv edges) (pass-one (kind.Map inv) (edge ∷ []) refl) (maps-plain inv edges)

  drain-plain : (comes : Coming) (reads : Bool) → AllPass test (drain_steps number comes reads)
  drain-plain comes true = refl
  drain-plain (coming.Begins begin) false = refl
  drain-plain (coming.On parts) false = each-plain parts.edges
  drain-plain coming.Nothing false = refl

  input-plain : (comes : Coming) (it : In) → AllPass test (input_steps number (kind_in comes it))
  input-plain (coming.Begins begin) inlet.Stream = by_first begin.now
    where
      by_first : (begin : First) → AllPass test (input_steps number (Some (kind_first begin)))
      by_first first.Input = pass-one (kind.Source from.Input) [] refl
      by_first (first.Text text) = pass-one (kind.Text text) [] refl
  input-plain (coming.On parts) inlet.Stream = refl
  input-plain coming.Nothing inlet.Stream = pass-one (kind.Text []) [] refl
  input-plain comes (inlet.File path closed) = pass-one (kind.Source (from.File path)) [] refl
  input-plain comes inlet.Empty = pass-one (kind.Text []) [] refl

  in-plain : (comes : Coming) (ins : List In) → AllPass test (in_steps number comes ins)
  in-plain comes [] = refl
  in-plain comes (it ∷ ins) = pass-append test (input_steps number (kind_in comes it)) (in_steps number comes ins) (input-plain comes it) (in-plain comes ins)

  read-plain : (comes : Coming) (it : Does) (ins : List In) (next : ℕ) → AllPass test (read_steps number comes it ins next)
  read-plain comes does.Skip ins next = refl
  read-plain comes (does.Util inv) ins next =
      let edges : List ℕ = in_edges number comes ins next in
      pass-append test (in_steps number comes ins) (join_steps number (begins comes) inv ins edges) (in-plain comes ins)
      (pass-if test (is_joined (begins comes) inv ins) (step (kind.Cat (closes_before inv)) edges number ∷ []) [] (pass-one (kind.Cat (closes_before inv)) edges refl) refl)

  pub front-plain : (comes : Coming) (stage : Stage) (next : ℕ) → AllPass test (front_steps number comes stage next)
  front-plain comes stage next =
      pass-append test (drain_steps number comes (is_reader stage)) (read_steps number comes stage.does stage.ins next) (drain-plain comes (is_reader stage)) (read-plain comes stage.does stage.ins next)

  pub whole-plain : (edges : List ℕ) → AllPass test (whole_steps number edges)
  whole-plain edges = pass-if test (nat_lt 1 (length edges)) (step (kind.Cat false) edges number ∷ []) [] (pass-one (kind.Cat false) edges refl) refl

  -- of a utility: the text of a leading cat, its whole, and its maps behind their split
  pub none-plain : (edges : List ℕ) → AllPass test (if is_none edges then step (kind.Text []) [] number ∷ [] else [])
  none-plain edges = pass-if test (is_none edges) (step (kind.Text []) [] number ∷ []) [] (pass-one (kind.Text []) [] refl) refl

  pub util-plain : (inv : Inv) (edges : List ℕ) → AllPass test (step (kind.Whole inv) edges number ∷ [])
  util-plain inv edges = pass-one (kind.Whole inv) edges refl

  pub cats-plain : (groups : List (List ℕ)) → AllPass test (cat_steps number groups)
  cats-plain [] = refl
  cats-plain (edges ∷ groups) = pass-append test (step (kind.Cat false) edges number ∷ []) (cat_steps number groups) (pass-one (kind.Cat false) edges refl) (cats-plain groups)

  pub text-plain : (text : List ℕ) → AllPass test (step (kind.Text text) [] number ∷ [])
  text-plain text = pass-one (kind.Text text) [] refl

  pub mapped-plain : (width : ℕ) (inv : Inv) (edges : List ℕ) (next : ℕ) → AllPass test (mapped_steps width number inv edges next)
  mapped-plain width inv edges next =
      pass-append test (split_steps width number edges) (map_steps number inv (split_edges width edges next))
      (pass-if test (stands width edges) [] (split_step edges width number ∷ []) refl (and_from (test (split_step edges width number)) true (split edges width) refl))
      (maps-plain inv (split_edges width edges next))

  first-plain : (it : Does) (text edges : List ℕ) → AllPass test (first_steps number it text edges)
  first-plain does.Skip text edges = refl
  first-plain (does.Util inv) text edges =
      pass-if test (is_empty text) [] (whole_steps number edges ++ step (kind.Text text) [] number ∷ []) refl
      (pass-append test (whole_steps number edges) (step (kind.Text text) [] number ∷ []) (whole-plain edges) (text-plain text))

  tee-plain : (mode : Mode) (paths : List Components) (edge next : ℕ) → AllPass test (tee_steps number mode paths edge next)
  tee-plain mode [] edge next = refl
  tee-plain mode (path ∷ paths) edge next =
      pass-append test (step (kind.TeeFile path mode) (edge ∷ []) number ∷ []) (tee_steps number mode paths next (next + 1)) (pass-one (kind.TeeFile path mode) (edge ∷ []) refl) (tee-plain mode paths next (next + 1))

  files-plain : (it : Does) (paths : List Components) (edges : List ℕ) (next : ℕ) → AllPass test (files_steps number it paths edges next)
  files-plain does.Skip paths edges next = refl
  files-plain (does.Util inv) paths edges next =
      let tees : List Step = tee_steps number (tee_mode inv) paths (whole_edge edges next) (behind next (whole_steps number edges)) in
      pass-if test (is_none paths) [] (whole_steps number edges ++ tees) refl
      (pass-append test (whole_steps number edges) tees (whole-plain edges) (tee-plain (tee_mode inv) paths (whole_edge edges next) (behind next (whole_steps number edges))))

  pub beside-plain : (it : Does) (paths : List Components) (text : List ℕ) (parts : Parts) (next : ℕ) → AllPass test (beside_steps number it paths text parts next)
  beside-plain it paths text parts next =
      pass-append test (files_steps number it paths parts.edges next) (first_steps number it text (files_parts number it paths parts next).edges) (files-plain it paths parts.edges next)
      (first-plain it text (files_parts number it paths parts next).edges)

  piped-plain : (piped : List ℕ) (next : ℕ) → AllPass test (piped_steps number piped next)
  piped-plain piped next =
      pass-if test (is_empty piped) [] (step (kind.Text piped) [] number ∷ step (kind.Sink to.Output) (next ∷ []) number ∷ []) refl
      (pass-append test (step (kind.Text piped) [] number ∷ []) (step (kind.Sink to.Output) (next ∷ []) number ∷ []) (text-plain piped) (pass-one (kind.Sink to.Output) (next ∷ []) refl))

  out-plain : (it : Out) (piped : List ℕ) (edge next : ℕ) → AllPass test (out_steps number it piped edge next)
  out-plain out.Next piped edge next = pass-one (kind.Sink to.Output) (edge ∷ []) refl
  out-plain (out.File path mode) piped edge next =
      pass-append test (step (kind.Sink (to.File path mode)) (edge ∷ []) number ∷ []) (piped_steps number piped next) (pass-one (kind.Sink (to.File path mode)) (edge ∷ []) refl) (piped-plain piped next)
  out-plain out.Null piped edge next =
      pass-append test (step kind.Drain (edge ∷ []) number ∷ []) (piped_steps number piped next) (pass-one kind.Drain (edge ∷ []) refl) (piped-plain piped next)

  stream-plain : (piped : List ℕ) (reads : Bool) → AllPass test (stream_steps number piped reads)
  stream-plain piped reads = pass-if test reads (step (kind.Text piped) [] number ∷ []) [] (text-plain piped) refl

  on-plain : (it : Out) (piped : List ℕ) (reads : Bool) (edge : ℕ) → AllPass test (on_steps number it piped reads edge)
  on-plain out.Next piped reads edge = refl
  on-plain (out.File path mode) piped reads edge =
      pass-append test (step (kind.Sink (to.File path mode)) (edge ∷ []) number ∷ []) (stream_steps number piped reads) (pass-one (kind.Sink (to.File path mode)) (edge ∷ []) refl) (stream-plain piped reads)
  on-plain out.Null piped reads edge =
      pass-append test (step kind.Drain (edge ∷ []) number ∷ []) (stream_steps number piped reads) (pass-one kind.Drain (edge ∷ []) refl) (stream-plain piped reads)

  pub goes-plain : (width : ℕ) (stage following : Stage) (parts : Parts) (next : ℕ) → AllPass test (goes_from width number stage following parts next)
  goes-plain width stage following parts next =
      let ons : List Step = on_steps number stage.out stage.piped (is_reader following) (whole_edge parts.edges next) in
      pass-if test (hands_on width stage.out following parts) [] (whole_steps number parts.edges ++ ons) refl
      (pass-append test (whole_steps number parts.edges) ons (whole-plain parts.edges) (on-plain stage.out stage.piped (is_reader following) (whole_edge parts.edges next)))

  pub ends-plain : (stage : Stage) (parts : Parts) (next last : ℕ) → AllPass test (whole_steps number parts.edges ++ out_steps number stage.out stage.piped (whole_edge parts.edges next) last)
  ends-plain stage parts next last =
      pass-append test (whole_steps number parts.edges) (out_steps number stage.out stage.piped (whole_edge parts.edges next) last) (whole-plain parts.edges) (out-plain stage.out stage.piped (whole_edge parts.edges next) last)
