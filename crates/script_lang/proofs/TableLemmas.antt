-- Lemmas on words with what they stand for.
use Rattle.std.proofs.Common.{◌≡◌, ℕ, ◌+◌, ◌<◌, if◌then◌else◌, List, length, map, drop, get_or, Bor, ap, Option, Some}
use Rattle.std.specs.Str.{bytes_eq}
use Rattle.std.proofs.lemmas.List.{drop_more}
use Rattle.script_lang.specs.Table.{meaning_of}

-- the meaning of a word in a table of lent words
abbrev pub meaning_in : {T : Type 0} → List (Bor (List ℕ) × T) → List ℕ → Option T
meaning_in rows word = meaning_of (map (λ row. (row.0.now, row.1)) rows) word

-- the row at a place, and those behind it
pub next_row : {T : Type 0} (rows : List (Bor (List ℕ) × T)) (i : ℕ) (row : Bor (List ℕ) × T) (word : List ℕ) → i < length rows → meaning_in (drop i rows) word ≡ (if bytes_eq word (get_or rows i row).0.now then Some (get_or rows i row).1 else meaning_in (drop (i + 1) rows) word)
next_row rows i row word inside = ap (λ rs. meaning_in rs word) (drop_more rows i row inside)
