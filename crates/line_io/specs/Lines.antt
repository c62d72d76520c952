-- The lines of some bytes, and what a reader of lines gives.
use Rattle.std.specs.Prelude.{◌≡◌, ◌≢◌, ℕ, ◌+◌, nat_lt, ◌==◌, ◌||◌, Bool, true, false, if◌then◌else◌, List, [], ◌∷◌, ◌++◌, length, map, Option, Some, None, ⊤}
use Rattle.line_io.specs.declared.TheConstants.{LINE_LIMIT, INPUT_LIMIT}

-- no byte of the text ends a line
abbrev pub HasNoLineFeed : List ℕ → Type 0
HasNoLineFeed [] = ⊤
HasNoLineFeed (b ∷ text) = (b ≢ 10) × HasNoLineFeed text

-- the byte at the front of the first line
abbrev pub onto_first : ℕ → List (List ℕ) → List (List ℕ)
onto_first b [] = (b ∷ []) ∷ []
onto_first b (line ∷ lines) = (b ∷ line) ∷ lines

-- the lines of the bytes, each with the line feed that ends it; only the last may lack it
abbrev pub terminated_lines : List ℕ → List (List ℕ)
terminated_lines [] = []
terminated_lines (b ∷ bytes) = if b == 10 then (b ∷ []) ∷ terminated_lines bytes else onto_first b (terminated_lines bytes)

-- a line without the line feed that ends it
abbrev pub line_text : List ℕ → List ℕ
line_text [] = []
line_text (b ∷ line) = if b == 10 then [] else b ∷ line_text line

-- the texts of the lines of the bytes
abbrev pub lines_of : List ℕ → List (List ℕ)
lines_of bytes = map line_text (terminated_lines bytes)

-- whether a line passes a limit, after so many bytes of input: its text that of a line, or the input up to its end that of an input
abbrev pub passes_limit : ℕ → List ℕ → Bool
passes_limit before line = nat_lt LINE_LIMIT (length (line_text line)) || nat_lt INPUT_LIMIT (before + length line)

-- The text is that of the first unread line, which passes no limit, and the rest is unread after it. The counts are of the bytes of input before the line and after it.
pub record TakesLine (before : ℕ) (unread text : List ℕ) (after : ℕ) (rest : List ℕ) : Type 0 where
  pub line : List ℕ
  pub first : terminated_lines unread ≡ line ∷ terminated_lines rest
  pub text_is : text ≡ line_text line
  pub counted : after ≡ before + length line
  pub within : passes_limit before line ≡ false

-- the first unread line passes a limit
pub record FirstPassesLimit (before : ℕ) (unread : List ℕ) : Type 0 where
  pub line : List ℕ
  pub more : List (List ℕ)
  pub first : terminated_lines unread ≡ line ∷ more
  pub passes : passes_limit before line ≡ true

-- P of what is unread before a call and after it: what is pending in a reader, and then what the source has left, where it tells
abbrev pub OfUnread : (List ℕ → List ℕ → Type 0) → List ℕ → Option (List ℕ) → List ℕ → Option (List ℕ) → Type 0
OfUnread P pending None pending' left' = ⊤
OfUnread P pending (Some left) pending' None = ⊥
OfUnread P pending (Some left) pending' (Some left') = P (pending ++ left) (pending' ++ left')
