-- Words with what they stand for.
use Rattle.std.specs.Prelude.{ℕ, if◌then◌else◌, List, [], ◌∷◌, Option, Some, None}
use Rattle.std.specs.Str.{bytes_eq}

-- what a word of a table stands for
abbrev pub meaning_of : {T : Type 0} → List (List ℕ × T) → List ℕ → Option T
meaning_of [] word = None
meaning_of (row ∷ rows) word = if bytes_eq word row.0 then Some row.1 else meaning_of rows word
