-- A piece that a source in memory hands out.
use Rattle.std.proofs.Common.{◌≡◌, ℕ, ◌+◌, ◌-◌, List, ◌++◌, length, take, drop, sym, ◌∙◌, ap, arith}
use Rattle.std.specs.List.{slice_range}
use Rattle.std.proofs.lemmas.List.{take-append-le, take-append-drop, take_all, drop-drop}

-- the first n bytes from a place on are handed out, and the bytes after them are left
pub handed_out : (bytes source left copied rest : List ℕ) (at n : ℕ) → drop at bytes ≡ left → source ≡ bytes → copied ≡ slice_range source at (at + n)
    → length copied ≡ n → left ≡ take n (copied ++ rest) ++ drop (at + n) bytes
handed_out bytes source left copied rest at n left_is source_is copied_is all =
    let front : take n (copied ++ rest) ≡ copied = take-append-le n copied rest (omega (arith, all)) ∙ take_all n copied (omega (arith, all)) in
    let count : (at + n) - at ≡ n = omega arith in
    let piece : copied ≡ take n (drop at bytes) = copied_is ∙ ap (λ (l : List ℕ). slice_range l at (at + n)) source_is ∙ ap (λ k. take k (drop at bytes)) count in
    sym left_is ∙ sym (take-append-drop n (drop at bytes))
    ∙ ap (λ (l : List ℕ). take n (drop at bytes) ++ l) (drop-drop n at bytes)
    ∙ ap (λ (l : List ℕ). l ++ drop (at + n) bytes) (sym (front ∙ piece))
