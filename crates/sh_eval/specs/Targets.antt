-- Redirections whose words are expanded (XCU 2.7).
pub use Rattle.sh_eval.specs.declared.targets.Target.{Target}
