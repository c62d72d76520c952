-- Calls that only look.
pub use Rattle.pool_survey.specs.Remaining.{Remains}
