-- What a word says that is a field of a line.
use Rattle.std.specs.Prelude.{ℕ, Bool, true, false, if◌then◌else◌, List, [], ◌∷◌, Option, Some, None, option_and_then, codes}
use Rattle.std.specs.Str.{bytes_eq, is_utf8}
use Rattle.std.specs.Result.{result_ok}
use Rattle.hex.specs.Hex.{decode_of}
use Rattle.script_lang.specs.Number.{number_of, within}

-- the bytes that hexadecimal digits write
abbrev pub bytes_of : List ℕ → Option (List ℕ)
bytes_of word = result_ok (decode_of word)

-- a text that is not empty
abbrev pub unless_empty : List ℕ → Option (List ℕ)
unless_empty [] = None
unless_empty (b ∷ text) = Some (b ∷ text)

-- a text of UTF-8 that is not empty
abbrev pub text_of : List ℕ → Option (List ℕ)
text_of word = if is_utf8 word then unless_empty word else None

-- a number from 0 on and below `high`
abbrev pub number_below : ℕ → List ℕ → Option ℕ
number_below high word = option_and_then (within 0 high) (number_of word)

-- the number of a volume: 1 to 64
abbrev pub volume_number_of : List ℕ → Option ℕ
volume_number_of word = option_and_then (within 1 65) (number_of word)

-- the number of a directory in its parent: 0 to 31
abbrev pub subdir_of : List ℕ → Option ℕ
subdir_of = number_below 32

-- a percentage: 0 to 100
abbrev pub percent_of : List ℕ → Option ℕ
percent_of = number_below 101

-- how many blocks are written at once: 0 to 1000000
abbrev pub fill_count_of : List ℕ → Option ℕ
fill_count_of = number_below 1000001

-- 0 for no and 1 for yes
abbrev pub truth_of : List ℕ → Option Bool
truth_of word =
    if bytes_eq word (codes "0") then Some false
    else if bytes_eq word (codes "1") then Some true
    else None
