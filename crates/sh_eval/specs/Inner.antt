-- Words that the functions of the evaluator need for themselves; what a script means doesn't hang on them.
pub mod Bodies
pub mod Loops
pub mod Doing
pub mod Checks
pub mod Faults
pub mod Opening
pub mod Inputs
pub mod Runs
pub mod Teeing
pub mod Gathering
pub mod Staging
