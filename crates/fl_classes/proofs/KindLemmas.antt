-- A node of a class that its kind asks for is run.
use Rattle.std.proofs.Common.{◌≡◌, Bool, true, false, refl, sym, if◌then◌else◌}
use Rattle.std.proofs.lemmas.Bool.{true≢false}
use Rattle.ut_args.specs.Classes.{origin_class, report_class}
use Rattle.ut_args.specs.Utilities.{has_at_most_one}
use Rattle.ut_args.specs.declared.classes.Class.{Class}
use Rattle.ut_args.specs.declared.classes.Class.TheVariants as class
use Rattle.ut_args.specs.declared.commands.Origin.{Origin}
use Rattle.ut_args.specs.declared.commands.Origin.TheVariants as origin
use Rattle.ut_args.specs.declared.commands.Report.{Report}
use Rattle.ut_args.specs.declared.commands.Report.TheVariants as report
use Rattle.ut_args.specs.declared.invocations.Inv.TheVariants as inv
use Rattle.fl_graph.specs.Kinds.{has_aggregator, has_its_class}
use Rattle.fl_graph.specs.declared.kinds.NodeKind.{NodeKind}
use Rattle.fl_graph.specs.declared.kinds.NodeKind.TheVariants as kind
use Rattle.fl_classes.specs.Kinds.{is_count, is_from_end, is_run}

count-runs : (one : Bool) (form : Report) (numbers : Bool) → has_aggregator (if one then report_class form numbers else class.N) ≡ true → is_count form ≡ true
count-runs false form numbers has = absurd (true≢false (sym has))
count-runs true report.Count numbers has = refl
count-runs true report.Lines true has = absurd (true≢false (sym has))
count-runs true report.Lines false has = absurd (true≢false (sym has))
count-runs true report.Path numbers has = absurd (true≢false (sym has))
count-runs true report.Nothing numbers has = absurd (true≢false (sym has))

end-runs : (from : Origin) → has_aggregator (origin_class from) ≡ true → is_from_end from ≡ true
end-runs (origin.Start number) has = absurd (true≢false (sym has))
end-runs (origin.End number) has = refl

pub runs-of_class : (it : NodeKind) → has_its_class it ≡ true → is_run it ≡ true
runs-of_class (kind.Agg (inv.Wc wc)) has = refl
runs-of_class (kind.Agg (inv.Grep grep)) has = count-runs (has_at_most_one grep.args.operands) grep.args.report grep.args.numbers has
runs-of_class (kind.Agg (inv.Uniq uniq)) has = refl
runs-of_class (kind.Agg (inv.Tr tr)) has = refl
runs-of_class (kind.Agg (inv.Head head)) has = refl
runs-of_class (kind.Agg (inv.Tail tail)) has = end-runs tail.args.part.origin has
runs-of_class (kind.Agg (inv.Sort sort)) has = refl
runs-of_class (kind.Agg other) has = absurd (true≢false (sym has))
runs-of_class other has = refl

pub ruleset kind_laws = runs-of_class
