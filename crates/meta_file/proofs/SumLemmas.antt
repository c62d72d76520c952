-- A register that goes on, a chunk that is full, and the last chunk.
use Rattle.std.proofs.Common.{◌≡◌, ℕ, zero, suc, ◌+◌, ◌-◌, ◌*◌, ◌/◌, ◌%◌, ◌<◌, ◌≤◌, List, [], ◌∷◌, ◌++◌, length, take, drop, refl, sym, ap, subst, ◌∙◌, arith, length-append, length-drop, append_assoc, below_more}
use Rattle.std.specs.Prelude.{bit_xor}
use Rattle.std.proofs.Math.Nat.{mul-le-mul_left, add-div_left, add-mod_left, mul-add-div_right}
use Rattle.std.proofs.Math.Seq.{drop-append_seam, take-append-add}
use Rattle.std.proofs.lemmas.Nat.{div-mul-add, div-add-mod'}
use Rattle.std.proofs.lemmas.List.{length-take-le, take_all, take-append-le, drop-append-le, drop_all, append-nil}
use Rattle.meta_file.specs.Checksums.{crc, crc_byte, crc_from, big_endian, chunk_count, HasSums}
use Rattle.meta_file.specs.Tables.{after, bit_step, bit_steps, byte_step}
use Rattle.meta_file.specs.Sums.{Progress, polynomial, HasSummed, Summed, Gives, Ends, Adds}

-- eight bits at once are a byte
crc_byte-steps : (poly sum byte : ℕ) → byte_step poly sum byte ≡ crc_byte poly sum byte
unfolding crc_byte bit_steps bit_step
crc_byte-steps poly sum byte = refl

-- so tables go on as the definition does
pub after-crc_from : (poly sum : ℕ) (bytes : List ℕ) → after poly sum bytes ≡ crc_from poly sum bytes
after-crc_from poly sum [] = refl
after-crc_from poly sum (byte ∷ bytes) =
    ap (λ s. after poly s bytes) (crc_byte-steps poly sum byte) ∙ after-crc_from poly (crc_byte poly sum byte) bytes

crc_from-append : (poly sum : ℕ) (xs ys : List ℕ) → crc_from poly sum (xs ++ ys) ≡ crc_from poly (crc_from poly sum xs) ys
crc_from-append poly sum [] ys = refl
crc_from-append poly sum (x ∷ xs) ys = crc_from-append poly (crc_byte poly sum x) xs ys

-- what stands early enough isn't changed by what is added
take-drop-append : (n m : ℕ) (xs ys : List ℕ) → m + n ≤ length xs → take n (drop m (xs ++ ys)) ≡ take n (drop m xs)
take-drop-append n m xs ys fits =
    ap (take n) (drop-append-le m xs ys (omega arith)) ∙ take-append-le n (drop m xs) ys (omega (arith, length-drop m xs))

-- a piece that the chunk takes in
more : (poly : ℕ) (p : Progress) (sums bytes piece : List ℕ) → HasSummed poly p sums bytes
    → HasSummed poly (record p { filled = p.filled + length piece; register = crc_from poly p.register piece }) sums (bytes ++ piece)
more poly p sums bytes piece h =
    let parted = h.parted in
    let fits : p.step * h.chunks ≤ length bytes = omega arith in
    let longer = length-append bytes piece in
    record {
      chunks = h.chunks;
      parted = omega arith;
      register =
          ap (λ r. crc_from poly r piece) h.register
          ∙ sym (crc_from-append poly 0xffff_ffff (drop (p.step * h.chunks) bytes) piece)
          ∙ ap (crc_from poly 0xffff_ffff) (sym (drop-append-le (p.step * h.chunks) bytes piece fits));
      count = h.count;
      each = λ chunk below.
          let next : p.step * (chunk + 1) ≤ p.step * h.chunks = mul-le-mul_left p.step (omega arith) in
          h.each chunk below ∙ ap (crc poly) (sym (take-drop-append p.step (p.step * chunk) bytes piece (omega arith)));
    }

-- with the checksum of the last chunk each chunk has one
each_more : (poly : ℕ) (p : Progress) (sums bytes sum : List ℕ) (h : HasSummed poly p sums bytes) → p.filled ≤ p.step
    → length sum ≡ 4 → big_endian 0 sum ≡ bit_xor p.register 0xffff_ffff
    → (chunk : ℕ) → chunk < h.chunks + 1
    → big_endian 0 (take 4 (drop (4 * chunk) (sums ++ sum))) ≡ crc poly (take p.step (drop (p.step * chunk) bytes))
each_more poly p sums bytes sum h few four is =
    let parted = h.parted in
    let count = h.count in
    let last = drop (p.step * h.chunks) bytes in
    let short : length last ≤ p.step = omega (arith, length-drop (p.step * h.chunks) bytes) in
    below_more _ _
    (λ chunk below. ap (big_endian 0) (take-drop-append 4 (4 * chunk) sums sum (omega arith)) ∙ h.each chunk below)
    (ap (λ n. big_endian 0 (take 4 (drop n (sums ++ sum)))) (sym h.count)
    ∙ ap (λ s. big_endian 0 (take 4 s)) (drop-append_seam sums sum)
    ∙ ap (big_endian 0) (take_all 4 sum (omega arith))
    ∙ is ∙ ap (λ r. bit_xor r 0xffff_ffff) h.register ∙ ap (crc poly) (sym (take_all p.step last short)))

-- a chunk that is full
closed : (poly : ℕ) (p : Progress) (sums bytes sum : List ℕ) → HasSummed poly p sums bytes → p.filled ≡ p.step
    → length sum ≡ 4 → big_endian 0 sum ≡ bit_xor p.register 0xffff_ffff
    → HasSummed poly (record p { filled = 0; register = 0xffff_ffff }) (sums ++ sum) bytes
closed poly p sums bytes sum h full four is =
    let parted = h.parted in
    let count = h.count in
    let longer = length-append sums sum in
    let none : drop (p.step * (h.chunks + 1)) bytes ≡ [] = drop_all (p.step * (h.chunks + 1)) bytes (omega arith) in
    record {
      chunks = h.chunks + 1;
      parted = omega arith;
      register = ap (crc_from poly 0xffff_ffff) (sym none);
      count = omega arith;
      each = each_more poly p sums bytes sum h (omega arith) four is;
    }

-- the last chunk, which isn't full
completed : (poly : ℕ) (p : Progress) (sums bytes sum : List ℕ) → HasSummed poly p sums bytes → 0 < p.filled → p.filled < p.step
    → length sum ≡ 4 → big_endian 0 sum ≡ bit_xor p.register 0xffff_ffff → HasSums poly p.step (sums ++ sum) bytes
completed poly p sums bytes sum h some few four is =
    let parted = h.parted in
    let count = h.count in
    let longer = length-append sums sum in
    let as_parts : length bytes + (p.step - 1) ≡ (h.chunks + 1) * p.step + (p.filled - 1) = omega arith in
    let chunks : chunk_count p.step (length bytes) ≡ h.chunks + 1 =
    ap (λ n. n / p.step) as_parts ∙ div-mul-add (h.chunks + 1) p.step (p.filled - 1) (omega arith)
    in
    record {
      count = omega (arith, chunks);
      each = λ chunk below. each_more poly p sums bytes sum h (omega arith) four is chunk (omega (arith, chunks, below));
    }

-- no last chunk
whole : (poly : ℕ) (p : Progress) (sums bytes : List ℕ) → HasSummed poly p sums bytes → p.filled ≡ 0 → 0 < p.step
    → HasSums poly p.step sums bytes
whole poly p sums bytes h none some =
    let parted = h.parted in
    let count = h.count in
    let as_parts : length bytes + (p.step - 1) ≡ h.chunks * p.step + (p.step - 1) = omega arith in
    let chunks : chunk_count p.step (length bytes) ≡ h.chunks =
    ap (λ n. n / p.step) as_parts ∙ div-mul-add h.chunks p.step (p.step - 1) (omega arith)
    in
    record {
      count = omega (arith, chunks);
      each = λ chunk below. h.each chunk (omega (arith, chunks, below));
    }

-- the checksums of a batch and of what is behind it are those of both
pub batch_rest : (filled len all step : ℕ) → 0 < step → len ≤ all
    → (filled + len) / step + ((filled + len) % step + (all - len)) / step ≡ (filled + all) / step
batch_rest filled len all step some few =
    let whole = div-add-mod' (filled + len) step in
    let parts : filled + all ≡ (filled + len) / step * step + ((filled + len) % step + (all - len)) = omega (arith, whole) in
    sym (ap (λ (n : ℕ). n / step) parts ∙ mul-add-div_right some ((filled + len) / step) ((filled + len) % step + (all - len)))

-- what is written behind a front
pub take_put : (place k : ℕ) (out new rest : List ℕ) → place ≤ length out → k ≤ length new
    → take (place + k) (take place out ++ (new ++ rest)) ≡ take place out ++ take k new
take_put place k out new rest inside within =
    let full : length (take place out) ≡ place = length-take-le place out inside in
    ap (λ (n : ℕ). take (n + k) (take place out ++ (new ++ rest))) (sym full)
    ∙ take-append-add (take place out) (new ++ rest) k
    ∙ ap (λ (p : List ℕ). take place out ++ p) (take-append-le k new rest within)

-- the end of a chunk, and what is behind it
pub next_chunk : (filled len step rest : ℕ) → 0 < step → filled + len ≡ step + rest → (filled + len) / step ≡ rest / step + 1
next_chunk filled len step rest some same = ap (λ n. n / step) same ∙ add-div_left rest some

pub next_filled : (filled len step rest : ℕ) → filled + len ≡ step + rest → (filled + len) % step ≡ rest % step
next_filled filled len step rest same = ap (λ n. n % step) same ∙ add-mod_left step rest

-- a summer that takes in a piece of a chunk
pub Gives-more : (kind step filled register poly after_it : ℕ) (piece : List ℕ) → 0 < kind → poly ≡ polynomial kind
    → after_it ≡ after poly register piece
    → Gives (record { kind = kind; step = step; filled = filled; register = register })
    (record { kind = kind; step = step; filled = filled + length piece; register = after_it }) piece []
Gives-more zero step filled register poly after_it piece some is_poly is_after = absurd (omega arith)
Gives-more (suc kind) step filled register poly after_it piece some is_poly is_after =
    let p : Progress = record { kind = suc kind; step = step; filled = filled; register = register } in
    let goes : after_it ≡ crc_from (polynomial (suc kind)) register piece =
    is_after ∙ after-crc_from poly register piece ∙ ap (λ q. crc_from q register piece) is_poly
    in
    λ sums bytes h.
    subst (λ (s : List ℕ). HasSummed (polynomial (suc kind)) (record { kind = suc kind; step = step; filled = filled + length piece; register = after_it }) s (bytes ++ piece)) (sym (append-nil sums))
    (subst (λ (r : ℕ). HasSummed (polynomial (suc kind)) (record { kind = suc kind; step = step; filled = filled + length piece; register = r }) sums (bytes ++ piece)) (sym goes)
    (more (polynomial (suc kind)) p sums bytes piece h))

-- a summer that takes in the end of a chunk
pub Gives-closed : (kind step filled register poly after_it : ℕ) (piece sum : List ℕ) → 0 < kind → poly ≡ polynomial kind
    → after_it ≡ after poly register piece → filled + length piece ≡ step
    → length sum ≡ 4 → big_endian 0 sum ≡ bit_xor after_it 0xffff_ffff
    → Gives (record { kind = kind; step = step; filled = filled; register = register })
    (record { kind = kind; step = step; filled = 0; register = 0xffff_ffff }) piece sum
Gives-closed zero step filled register poly after_it piece sum some is_poly is_after full four is = absurd (omega arith)
Gives-closed (suc kind) step filled register poly after_it piece sum some is_poly is_after full four is =
    let p : Progress = record { kind = suc kind; step = step; filled = filled; register = register } in
    let q : Progress = record { kind = suc kind; step = step; filled = filled + length piece; register = crc_from (polynomial (suc kind)) register piece } in
    let goes : after_it ≡ crc_from (polynomial (suc kind)) register piece =
    is_after ∙ after-crc_from poly register piece ∙ ap (λ q. crc_from q register piece) is_poly
    in
    λ sums bytes h.
    closed (polynomial (suc kind)) q sums (bytes ++ piece) sum (more (polynomial (suc kind)) p sums bytes piece h) full four
    (is ∙ ap (λ r. bit_xor r 0xffff_ffff) goes)

-- nothing is taken in
pub Gives-none : (p : Progress) → Gives p p [] []
Gives-none p = λ sums bytes h.
    subst (λ (s : List ℕ). Summed p s (bytes ++ [])) (sym (append-nil sums))
    (subst (λ (b : List ℕ). Summed p sums b) (sym (append-nil bytes)) h)

-- one piece after another
pub Gives-again : (p q r : Progress) (piece next added more_added : List ℕ) → Gives p q piece added → Gives q r next more_added
    → Gives p r (piece ++ next) (added ++ more_added)
Gives-again p q r piece next added more_added first second = λ sums bytes h.
    subst (λ (s : List ℕ). Summed r s (bytes ++ (piece ++ next))) (append_assoc sums added more_added)
    (subst (λ (b : List ℕ). Summed r ((sums ++ added) ++ more_added) b) (append_assoc bytes piece next)
    (second (sums ++ added) (bytes ++ piece) (first sums bytes h)))

pub Adds-again : (p q r : Progress) (piece next before now later : List ℕ) → Adds p q piece before now → Adds q r next now later
    → Adds p r (piece ++ next) before later
Adds-again p q r piece next before now later first second = (
  first.0 ++ second.0,
  second.1 ∙ ap (λ s. s ++ second.0) first.1 ∙ append_assoc before first.0 second.0,
  Gives-again p q r piece next first.0 second.0 first.2 second.2,
)

-- the last chunk of a summer
pub Ends-last : (kind step filled register : ℕ) (sum : List ℕ) → 0 < kind → 0 < filled → filled < step
    → length sum ≡ 4 → big_endian 0 sum ≡ bit_xor register 0xffff_ffff
    → Ends (record { kind = kind; step = step; filled = filled; register = register }) sum
Ends-last zero step filled register sum known some few four is = absurd (omega arith)
Ends-last (suc zero) step filled register sum known some few four is =
    λ sums bytes h. completed (polynomial 1) (record { kind = 1; step = step; filled = filled; register = register }) sums bytes sum h some few four is
Ends-last (suc (suc kind)) step filled register sum known some few four is =
    λ sums bytes h. completed (polynomial (suc (suc kind))) (record { kind = suc (suc kind); step = step; filled = filled; register = register }) sums bytes sum h some few four is

-- a summer of no checksums, or without a last chunk
pub Ends-whole : (kind step filled register : ℕ) → filled < step → (0 < kind → filled ≡ 0)
    → Ends (record { kind = kind; step = step; filled = filled; register = register }) []
Ends-whole zero step filled register few none = λ sums bytes h. tt
Ends-whole (suc zero) step filled register few none =
    λ sums bytes h. subst (λ (s : List ℕ). HasSums (polynomial 1) step s bytes) (sym (append-nil sums))
    (whole (polynomial 1) (record { kind = 1; step = step; filled = filled; register = register }) sums bytes h (none (omega arith)) (omega arith))
Ends-whole (suc (suc kind)) step filled register few none =
    λ sums bytes h. subst (λ (s : List ℕ). HasSums (polynomial (suc (suc kind))) step s bytes) (sym (append-nil sums))
    (whole (polynomial (suc (suc kind))) (record { kind = suc (suc kind); step = step; filled = filled; register = register }) sums bytes h (none (omega arith)) (omega arith))
