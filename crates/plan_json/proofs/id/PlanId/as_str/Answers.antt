use Rattle.std.proofs.Common.{Result, Ok, Err, refl}
use Rattle.std.specs.Prelude.{IsOk, MatchResult}
use Rattle.std.proofs.lemmas.Str.{IsUtf8-from_ascii}
use Rattle.plan_json.proofs.id.PlanId.as_str.Goals as goal

-- a result is no error where its errors can't be
IsOk-unless : {T E U : Type 0} (P : T → Type 0) (Q : E → Type 0) (r : Result T E) → MatchResult r P (λ e. ¬ U × Q e) → U → IsOk r
IsOk-unless P Q (Ok value) cases holds = refl
IsOk-unless P Q (Err fault) cases holds = absurd (cases.0 holds)

pub unwrap-requires : goal.unwrap-requires
unwrap-requires c = IsOk-unless _ _ _ c.from_utf8.ensures.cases (IsUtf8-from_ascii _ c.self.invariant)
