-- Pieces that are read one behind another.
use Rattle.std.proofs.Common.{◌≡◌, ℕ, ◌+◌, ◌%◌, ◌≤◌, List, ◌++◌, length, take, drop, sym, ◌∙◌, ap, arith}
use Rattle.std.proofs.Math.Seq.{take-add, take-append-add}
use Rattle.std.proofs.Math.Nat.{add-mod-mod}
use Rattle.std.proofs.lemmas.List.{take-append-le, length-take-le}

-- a piece behind those that are right
pub take_two : (done count : ℕ) (out new rest all : List ℕ) → length (take done out) ≡ done → count ≤ length new → take done out ≡ take done all →
    take count new ≡ take count (drop done all) → take (done + count) (take done out ++ (new ++ rest)) ≡ take (done + count) all
take_two done count out new rest all full within front piece =
    ap (λ n. take (n + count) (take done out ++ (new ++ rest))) (sym full)
    ∙ take-append-add (take done out) (new ++ rest) count
    ∙ ap (λ p. take done out ++ p) (take-append-le count new rest within ∙ piece)
    ∙ ap (λ p. p ++ take count (drop done all)) front
    ∙ sym (take-add done count all)

-- what is written behind a front
pub take_put : (place k : ℕ) (out new rest : List ℕ) → place ≤ length out → k ≤ length new
    → take (place + k) (take place out ++ (new ++ rest)) ≡ take place out ++ take k new
take_put place k out new rest inside within =
    let full : length (take place out) ≡ place = length-take-le place out inside in
    ap (λ (n : ℕ). take (n + k) (take place out ++ (new ++ rest))) (sym full)
    ∙ take-append-add (take place out) (new ++ rest) k
    ∙ ap (λ (p : List ℕ). take place out ++ p) (take-append-le k new rest within)

-- how far the next chunk is filled
pub filled_later : {filled step later later_step : ℕ} (at len : ℕ) → filled ≡ at % step → later ≡ (filled + len) % step → later_step ≡ step
    → later ≡ (at + len) % later_step
filled_later {filled} {step} {later} {later_step} at len before now same =
    now ∙ ap (λ (n : ℕ). (n + len) % step) before ∙ ap (λ (n : ℕ). n % step) (let swap : at % step + len ≡ len + at % step = omega arith in swap)
    ∙ add-mod-mod len at step ∙ ap (λ (n : ℕ). n % step) (let swap : len + at ≡ at + len = omega arith in swap)
    ∙ ap (λ (n : ℕ). (at + len) % n) (sym same)
