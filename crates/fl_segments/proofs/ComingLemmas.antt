-- What comes to a stage: nothing, a stream on one edge, or the parts that it takes.
use Rattle.std.proofs.Common.{◌≡◌, ℕ, ◌==◌, ◌⊎◌, inl, inr, List, [], ◌∷◌, ◌++◌, Bool, true, false, not, ◌&&◌, ◌||◌, if◌then◌else◌, length, refl, ap, sym, ◌∙◌, append-nil}
use Rattle.std.specs.List.{list_any}
use Rattle.std.proofs.lemmas.Bool.{true≢false, and_parts, eqb-true}
use Rattle.ut_args.specs.Classes.{class_of}
use Rattle.ut_args.specs.declared.invocations.Inv.{Inv}
use Rattle.fl_graph.specs.declared.kinds.NodeKind.TheVariants as kind
use Rattle.fl_classes.specs.Used.{is_cat}
use Rattle.fl_segments.specs.Stages.{closes_before, ins_read, is_reader, is_spread, is_stream, joins_before}
use Rattle.fl_segments.specs.Inner.Drawing.{Step, step}
use Rattle.fl_segments.specs.Inner.Steps.{comes_behind, comes_on, drain_steps, end_edge, end_next, front_edges, front_steps, hands_on, is_lone, is_next, main_parts, read_edges, read_steps, takes_any, takes_by, takes_parts}
use Rattle.fl_segments.specs.declared.parts.Coming.{Coming}
use Rattle.fl_segments.specs.declared.parts.Coming.TheVariants as coming
use Rattle.fl_segments.specs.declared.parts.Parts.{Parts}
use Rattle.fl_segments.specs.declared.stages.Does.{Does}
use Rattle.fl_segments.specs.declared.stages.Does.TheVariants as does
use Rattle.fl_segments.specs.declared.stages.In.{In}
use Rattle.fl_segments.specs.declared.stages.In.TheVariants as inlet
use Rattle.fl_segments.specs.declared.stages.Out.{Out}
use Rattle.fl_segments.specs.declared.stages.Out.TheVariants as out
use Rattle.fl_segments.specs.declared.stages.Stage.{Stage}

-- a stream is on one edge
abbrev pub IsSingle : Coming → Type 0
IsSingle (coming.Begins begin) = Unit {0}
IsSingle (coming.On parts) = length parts.edges ≡ 1
IsSingle coming.Nothing = Unit {0}

-- or on the edges that a stage takes as they are
abbrev pub MayCome : ℕ → Coming → Stage → Type 0
MayCome width (coming.Begins begin) stage = Unit {0}
MayCome width (coming.On parts) stage = (length parts.edges ≡ 1) ⊎ (takes_parts width stage parts ≡ true)
MayCome width coming.Nothing stage = Unit {0}

abbrev pub MayBegin : ℕ → Coming → List Stage → Type 0
MayBegin width comes [] = Unit {0}
MayBegin width comes (stage ∷ stages) = MayCome width comes stage

-- a utility is had from what is done
abbrev inv_of : Inv → Does → Inv
inv_of other does.Skip = other
inv_of other (does.Util inv) = inv

pub same-util : (one other : Inv) → does.Util one ≡ does.Util other → one ≡ other
same-util one other same = ap (inv_of one) same

-- a stage that takes these parts
pub record IsTaken (width : ℕ) (parts : Parts) (stage : Stage) : Type 0 where
  pub inv : Inv
  pub runs : stage.does ≡ does.Util inv
  pub lone : stage.ins ≡ inlet.Stream ∷ []
  pub spread : is_spread width inv ≡ true
  pub count : length parts.edges ≡ width
  pub may : (parts.cut || takes_any (class_of inv)) ≡ true

lone-is : (ins : List In) → is_lone ins ≡ true → ins ≡ inlet.Stream ∷ []
lone-is [] is = absurd (true≢false (sym is))
lone-is (inlet.Stream ∷ []) is = refl
lone-is (inlet.File path closed ∷ []) is = absurd (true≢false (sym is))
lone-is (inlet.Empty ∷ []) is = absurd (true≢false (sym is))
lone-is (it ∷ next ∷ ins) is = absurd (true≢false (sym is))

pub taken-of : (width : ℕ) (parts : Parts) (stage : Stage) → takes_parts width stage parts ≡ true → IsTaken width parts stage
taken-of width parts stage takes = by_does stage.does refl takes
  where
    by_does : (it : Does) → stage.does ≡ it → takes_by width it stage.ins (length parts.edges) parts.cut ≡ true → IsTaken width parts stage
    by_does does.Skip same takes = absurd (true≢false (sym takes))
    by_does (does.Util inv) same takes =
        let may : Bool = parts.cut || takes_any (class_of inv) in
        let one = and_parts (is_spread width inv) (is_lone stage.ins && ((length parts.edges == width) && may)) takes in
        let two = and_parts (is_lone stage.ins) ((length parts.edges == width) && may) one.1 in
        let three = and_parts (length parts.edges == width) may two.1 in
        record {
          inv = inv;
          runs = same;
          lone = lone-is stage.ins two.0;
          spread = one.0;
          count = eqb-true (length parts.edges) width three.0;
          may = three.1;
        }

on-may : (width : ℕ) (it : Out) (reads : Bool) (edge next : ℕ) (following : Stage) → MayCome width (comes_on it reads edge next) following
on-may width out.Next reads edge next following = inl refl
on-may width (out.File path mode) true edge next following = inl refl
on-may width (out.File path mode) false edge next following = tt
on-may width out.Null true edge next following = inl refl
on-may width out.Null false edge next following = tt

-- so what goes on from a stage may come to the next one
pub goes-may : (width number : ℕ) (comes : Coming) (stage following : Stage) (next : ℕ) → MayCome width (comes_behind width number comes stage next following) following
goes-may width number comes stage following next = by_test (hands_on width stage.out following (main_parts width number comes stage next)) refl
  where
    by_test : (hands : Bool) → hands_on width stage.out following (main_parts width number comes stage next) ≡ hands
        → MayCome width (if hands then coming.On (main_parts width number comes stage next) else comes_on stage.out (is_reader following) (end_edge width number comes stage next) (end_next width number comes stage next)) following
    by_test true so = inr (and_parts (is_next stage.out) (takes_parts width following (main_parts width number comes stage next)) so).1
    by_test false so = on-may width stage.out (is_reader following) (end_edge width number comes stage next) (end_next width number comes stage next) following

-- A STAGE WHOSE ONE INPUT IS ON EDGES
joins-none : (joins cat : Bool) → (joins && (not cat && false)) ≡ false
joins-none true true = refl
joins-none true false = refl
joins-none false cat = refl

module _ (number : ℕ) (parts : Parts) where
  lone-read : (inv : Inv) (next : ℕ) → (read_steps number (coming.On parts) (does.Util inv) (inlet.Stream ∷ []) next ≡ []) × (read_edges number (coming.On parts) (does.Util inv) (inlet.Stream ∷ []) next ≡ parts.edges)
  lone-read inv next =
      let edges : List ℕ = parts.edges ++ [] in
      let none : (joins_before inv && (not (is_cat inv && false) && false)) ≡ false = joins-none (joins_before inv) (is_cat inv && false) in (
        ap (λ (joined : Bool). if joined then step (kind.Cat (closes_before inv)) edges number ∷ [] else []) none,
        ap (λ (joined : Bool). if joined then next ∷ [] else edges) none ∙ append-nil parts.edges,
      )

  abbrev front_by : Does → List In → ℕ → List Step
  front_by it ins next = drain_steps number (coming.On parts) (list_any is_stream (ins_read it ins)) ++ read_steps number (coming.On parts) it ins next

  module _ (stage : Stage) (next : ℕ) (inv : Inv) (runs : stage.does ≡ does.Util inv) (lone : stage.ins ≡ inlet.Stream ∷ []) where
    pub lone-steps : front_steps number (coming.On parts) stage next ≡ []
    lone-steps = ap (λ (it : Does). front_by it stage.ins next) runs ∙ ap (λ (ins : List In). front_by (does.Util inv) ins next) lone ∙ (lone-read inv next).0

    pub lone-edges : front_edges number (coming.On parts) stage next ≡ parts.edges
    lone-edges =
        ap (λ (it : Does). read_edges number (coming.On parts) it stage.ins next) runs ∙ ap (λ (ins : List In). read_edges number (coming.On parts) (does.Util inv) ins next) lone
        ∙ (lone-read inv next).1
