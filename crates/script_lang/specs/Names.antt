-- The forms of names.
use Rattle.std.specs.Prelude.{ℕ, ◌==◌, ◌&&◌, ◌||◌, nat_le, not, Bool, true, false, List, [], ◌∷◌, length}
use Rattle.std.specs.Char.{is_ascii_alphanumeric}
use Rattle.std.specs.List.{list_all, list_any}
use Rattle.std.specs.Str.{bytes_eq}

-- a letter, a digit or `-`
abbrev pub is_node_byte : ℕ → Bool
is_node_byte b = is_ascii_alphanumeric b || b == 45

-- the same, or `.` or `_`
abbrev pub is_pool_byte : ℕ → Bool
is_pool_byte b = is_node_byte b || b == 46 || b == 95

-- 1 to 64 bytes
abbrev pub is_short : List ℕ → Bool
is_short text = nat_le 1 (length text) && nat_le (length text) 64

-- the name of a node or the UUID of a volume
abbrev pub is_node : List ℕ → Bool
is_node text = is_short text && list_all is_node_byte text

-- the first byte is `.`
abbrev pub begins_with_dot : List ℕ → Bool
begins_with_dot [] = false
begins_with_dot (b ∷ text) = b == 46

-- the name of a pool
abbrev pub is_pool : List ℕ → Bool
is_pool text = is_short text && list_all is_pool_byte text && not (begins_with_dot text)

-- no two texts are one
abbrev pub are_distinct : List (List ℕ) → Bool
are_distinct [] = true
are_distinct (text ∷ texts) = not (list_any (bytes_eq text) texts) && are_distinct texts
