-- The rows of a report, one for each volume of a node.
use Rattle.std.specs.Prelude.{ℕ, ◌^◌, nat_le, nat_lt, ◌&&◌, not, Bool, if◌then◌else◌, List, [], ◌∷◌, length, sum_by, position, Option, Some, None, Result, Ok, Err}
use Rattle.density.specs.declared.volume_use.VolumeUse.{VolumeUse}
use Rattle.density.specs.declared.report_fault.ReportFault.{ReportFault}
use Rattle.density.specs.declared.report_fault.ReportFault.TheVariants.{Empty, Many, Range}

-- the capacity is 1 to 2^54 bytes, and at most 2^54 bytes are used
abbrev pub is_in_limits : VolumeUse → Bool
is_in_limits row = nat_le 1 row.capacity && nat_le row.capacity (2 ^ 54) && nat_le row.used (2 ^ 54)

-- a report of the rows, unless one is out of the limits
abbrev pub unless_out_of_range : Option ℕ → List VolumeUse → Result (List VolumeUse) ReportFault
unless_out_of_range None rows = Ok rows
unless_out_of_range (Some row) rows = Err (Range row)

-- the report of the rows: there are 1 to 64, and none is out of the limits
abbrev pub report_of : List VolumeUse → Result (List VolumeUse) ReportFault
report_of [] = Err Empty
report_of (row ∷ rows) =
    if nat_lt 64 (length (row ∷ rows)) then Err (Many (length (row ∷ rows)))
    else unless_out_of_range (position (λ r. not (is_in_limits r)) (row ∷ rows)) (row ∷ rows)

-- what the volumes of a report hold together
abbrev pub total_capacity : List VolumeUse → ℕ
total_capacity rows = sum_by (λ row. row.capacity) rows

abbrev pub total_used : List VolumeUse → ℕ
total_used rows = sum_by (λ row. row.used) rows
