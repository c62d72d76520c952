-- A lemma on digits that are written into the room behind a line.
use borrow.Rule.Slice.PartMut.{post_of}
use Rattle.std.proofs.Common.{◌≡◌, ℕ, ◌+◌, ◌-◌, ◌≤◌, List, [], ◌∷◌, ◌++◌, length, take, drop, ap, ◌∙◌, arith, length-append, append-nil}
use Rattle.std.proofs.Math.ListN.{replicate}
use Rattle.std.proofs.Math.Seq.{take-append_seam, drop-append_seam}
use Rattle.std.proofs.lemmas.List.{drop-replicate, drop_all, take_all}

-- the digits in the middle, what stood before them and what stands behind them
abbrev pub around : ℕ → ℕ → List ℕ → List ℕ → List ℕ
around start end digits items = take start items ++ (digits ++ post_of start (end - start) items)

-- behind a line there is room for the digits and the line feed
room_end : (line : List ℕ) (digits count : ℕ) → count ≡ digits + 1 → post_of (length line) digits (line ++ replicate count 10) ≡ 10 ∷ []
room_end line digits count e = ap (drop digits) (drop-append_seam line (replicate count 10)) ∙ drop-replicate digits count 10 ∙ ap (λ n. replicate n 10) (let one : count - digits ≡ 1 = omega arith in one)

around_room : (line digits : List ℕ) (end : ℕ) → end ≡ length line + length digits → around (length line) end digits (line ++ replicate (end + 1 - length line) 10) ≡ line ++ (digits ++ 10 ∷ [])
around_room line digits end e =
    let between : end - length line ≡ length digits = omega arith in
    let count : end + 1 - length line ≡ length digits + 1 = omega arith in
    let behind : post_of (length line) (end - length line) (line ++ replicate (end + 1 - length line) 10) ≡ 10 ∷ [] =
    ap (λ n. post_of (length line) n (line ++ replicate (end + 1 - length line) 10)) between ∙ room_end line (length digits) (end + 1 - length line) count in
    ap (λ front. front ++ (digits ++ post_of (length line) (end - length line) (line ++ replicate (end + 1 - length line) 10))) (take-append_seam line (replicate (end + 1 - length line) 10))
    ∙ ap (λ rest. line ++ (digits ++ rest)) behind

whole : (made items : List ℕ) (len : ℕ) → length made ≡ len → length items ≤ length made → take len (made ++ drop (length made) items) ≡ made
whole made items len e le =
    ap (λ rest. take len (made ++ rest)) (drop_all (length made) items le) ∙ ap (take len) (append-nil made) ∙ take_all len made (omega arith)

-- the digits were written
pub digits_written : (line digits items lent : List ℕ) (start end len : ℕ) → start ≡ length line → end ≡ start + length digits → len ≡ end + 1 → items ≡ take (end + 1) line ++ replicate (end + 1 - start) 10 → length items ≡ len → lent ≡ items
    → take len (around start end digits lent ++ drop (length (around start end digits lent)) items) ≡ line ++ (digits ++ 10 ∷ [])
digits_written line digits items lent start end len s e l i n same =
    let kept : take (end + 1) line ≡ line = take_all (end + 1) line (omega arith) in
    let filled : lent ≡ line ++ replicate (end + 1 - length line) 10 = same ∙ i ∙ ap (λ front. front ++ replicate (end + 1 - start) 10) kept ∙ ap (λ k. line ++ replicate (end + 1 - k) 10) s in
    let is : around start end digits lent ≡ line ++ (digits ++ 10 ∷ []) =
    ap (λ k. around k end digits lent) s ∙ ap (around (length line) end digits) filled ∙ around_room line digits end (e ∙ ap (λ k. k + length digits) s) in
    let long : length (line ++ (digits ++ 10 ∷ [])) ≡ len = length-append line (digits ++ 10 ∷ []) ∙ ap (λ k. length line + k) (length-append digits (10 ∷ [])) ∙ omega arith in
    let made_long : length (around start end digits lent) ≡ len = ap length is ∙ long in
    whole (around start end digits lent) items len made_long (omega arith) ∙ is
