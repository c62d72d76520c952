-- Pieces that are read one behind another.
use Rattle.std.proofs.Common.{◌≡◌, ℕ, ◌+◌, ◌≤◌, List, ◌++◌, length, take, drop, sym, ◌∙◌, ap}
use Rattle.std.proofs.Math.Seq.{take-add, take-append-add}
use Rattle.std.proofs.lemmas.List.{take-append-le}

-- a piece behind those that are right
pub take_two : (done count : ℕ) (out new rest all : List ℕ) → length (take done out) ≡ done → count ≤ length new → take done out ≡ take done all →
    take count new ≡ take count (drop done all) → take (done + count) (take done out ++ (new ++ rest)) ≡ take (done + count) all
take_two done count out new rest all full within front piece =
    ap (λ n. take (n + count) (take done out ++ (new ++ rest))) (sym full)
    ∙ take-append-add (take done out) (new ++ rest) count
    ∙ ap (λ p. take done out ++ p) (take-append-le count new rest within ∙ piece)
    ∙ ap (λ p. p ++ take count (drop done all)) front
    ∙ sym (take-add done count all)
