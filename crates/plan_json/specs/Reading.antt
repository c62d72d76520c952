-- What a text reads as, and the members of an object.
use Rattle.std.specs.Prelude.{ℕ, ◌==◌, ◌&&◌, nat_le, List, codes, Option, Some, None, if◌then◌else◌, option_and_then, option_map}
use Rattle.std.specs.Str.{is_utf8}
use Rattle.serde_json.specs.Data.{Data, Items}
use Rattle.serde_json.specs.Read as json
use Rattle.serde_json.specs.Find.{get, as_number, as_u64, as_str, as_array}

-- the value of a text, which is of UTF-8
abbrev pub reading : List ℕ → Option Data
reading text = if is_utf8 text then json.read text else None

-- a member that is a text
abbrev pub text_at : List ℕ → Data → Option (List ℕ)
text_at name value = option_and_then as_str (get name value)

-- the UUID of a member that is a volume
abbrev pub volume_at : List ℕ → Data → Option (List ℕ)
volume_at name value = option_and_then (text_at (codes "uuid")) (get name value)

-- a member that is a list
abbrev pub array_at : List ℕ → Data → Option Items
array_at name value = option_and_then as_array (get name value)

-- the number, where it is from `low` to `high`
abbrev pub within : ℕ → ℕ → ℕ → Option ℕ
within low high n = if nat_le low n && nat_le n high then Some n else None

-- a whole number below 2 ^ 64
abbrev pub whole : Data → Option ℕ
whole value = option_and_then as_u64 (as_number value)

-- a member that is such a number
abbrev pub number_at : List ℕ → Data → Option ℕ
number_at name value = option_and_then whole (get name value)

-- a number, or the default in its place where it is 0
abbrev pub or_default : ℕ → ℕ → ℕ
or_default default n = if n == 0 then default else n

-- a member that is a number up to `high`; where it is absent or 0, the default
abbrev pub number_or : ℕ → ℕ → Option Data → Option ℕ
number_or default high None = Some default
number_or default high (Some value) = option_map (or_default default) (option_and_then (within 0 high) (whole value))
