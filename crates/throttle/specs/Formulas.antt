-- The formulas of the balancer's steps, on whole numbers. Divisions round down unless a line says otherwise.
use Rattle.std.specs.Prelude.{ℕ, ◌+◌, ◌-◌, ◌*◌, ◌/◌, ◌<◌, ◌≤◌}

-- a quotient, rounded up
abbrev pub ceiling : ℕ → ℕ → ℕ
ceiling a b = (a + (b - 1)) / b

-- the milliseconds that so many bytes take at so many MiB per second, rounded up
abbrev pub duration_ms : (bytes mib : ℕ) → ℕ
duration_ms bytes mib = ceiling (bytes * 1000) (mib * 1048576)

-- what is left of the planned bytes
abbrev pub bytes_left : (planned copied : ℕ) → ℕ
bytes_left planned copied = planned - copied

-- a number, and the tolerance's percentage of it
abbrev pub with_tolerance : (n tolerance : ℕ) → ℕ
with_tolerance n tolerance = n + n * tolerance / 100

-- a replica of this size is no longer than what is left of the step, within the tolerance
abbrev pub Fits : (size planned copied tolerance : ℕ) → Type 0
Fits size planned copied tolerance = size ≤ with_tolerance (bytes_left planned copied) tolerance

-- the copied bytes are more than the planned ones, within the tolerance
abbrev pub IsCloseEnough : (planned copied tolerance : ℕ) → Type 0
IsCloseEnough planned copied tolerance = planned < with_tolerance copied tolerance
