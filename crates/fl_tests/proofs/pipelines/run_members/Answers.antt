use Rattle.std.proofs.Common.{Some}
use Rattle.fl_tests.proofs.MemberLemmas.{none-apart, none-begun}
use Rattle.fl_tests.proofs.pipelines.run_members.Goals as goal

pub run_pipeline-commanded-requires-clause-apart : goal.run_pipeline-commanded-requires-clause-apart
run_pipeline-commanded-requires-clause-apart g c κs within = none-apart _ _ c.requires.teeless

pub run_pipeline-commanded-requires-clause-begun : goal.run_pipeline-commanded-requires-clause-begun
run_pipeline-commanded-requires-clause-begun g c κs within = none-begun (Some _) _ c.requires.teeless
