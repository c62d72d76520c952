use Rattle.std.proofs.Common.{Err, refl, ap}
use Rattle.client_ops.proofs.Ending.{same_fault, says_else}
use Rattle.client_ops.proofs.writing.write_start.Goals as goal

pub returns-in-Ok-clause-step : goal.returns-in-Ok-clause-step
returns-in-Ok-clause-step g c cells stands =
    says_else (c.in-Ok.ensures.step cells stands) (λ cell says. (λ e. absurd cc, λ e waits. absurd cc, λ e. absurd cc, λ e. says.3 refl))

pub returns-in-Err-clause-step : goal.returns-in-Err-clause-step
returns-in-Err-clause-step g c cells stands =
    says_else (c.in-Err.ensures.step cells stands) (λ cell says. (λ e. says.0 (ap Err (same_fault _ _ e)), λ e waits. says.1 (ap Err (same_fault _ _ e)) waits, λ e. says.2 refl, λ e. absurd cc))
