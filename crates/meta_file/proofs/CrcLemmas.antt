-- Steps of the register commute with exclusive-or, so a table of single bytes serves for all.
use Rattle.std.proofs.Common.{get_or, lit<, List, take, drop, drop-cons, length, ◌≡◌, ℕ, zero, suc, ◌+◌, ◌-◌, ◌*◌, ◌/◌, ◌%◌, ◌^◌, ◌<◌, ◌≤◌, refl, sym, ap, ap₂, ◌∙◌, arith}
use Rattle.std.specs.Prelude.{bit_xor, bit_and}
use Rattle.std.specs.Int.Bits.{xor_self, xor_assoc, xor_zero_r}
use Rattle.std.proofs.Math.Nat.{pow-suc}
use Rattle.std.proofs.lemmas.Nat.{xor_comm, xor_shr, xor_mod, xor_block, and_mask, shr_split, pow_pos, mod_below}
use Rattle.std.proofs.Math.Seq.{take-add}
use Rattle.std.proofs.lemmas.List.{take-take, take_all, take-append-drop, length-drop}
use Rattle.std.proofs.lemmas.List.Sums.{fold-append}
use Rattle.byteorder.specs.Endian.{little_from}
use Rattle.meta_file.specs.Tables.{half_with, bit_step, bit_steps, IsTable, AreTables, after, byte_step}

half_with-xor : (p i j x y : ℕ) → i < 2 → j < 2
    → half_with p (bit_xor i j) (bit_xor x y) ≡ bit_xor (half_with p i x) (half_with p j y)
half_with-xor p zero zero x y a b = refl
half_with-xor p zero (suc zero) x y a b = xor_assoc x y p
half_with-xor p (suc zero) zero x y a b =
    xor_assoc x y p ∙ ap (bit_xor x) (xor_comm y p) ∙ sym (xor_assoc x p y)
half_with-xor p (suc zero) (suc zero) x y a b =
    let inner : bit_xor p (bit_xor y p) ≡ y =
    xor_comm p (bit_xor y p) ∙ xor_assoc y p p ∙ ap (bit_xor y) (xor_self p) ∙ xor_zero_r y in
    sym (xor_assoc x p (bit_xor y p) ∙ ap (bit_xor x) inner)
half_with-xor p zero (suc (suc j)) x y a b = absurd (omega arith)
half_with-xor p (suc zero) (suc (suc j)) x y a b = absurd (omega arith)
half_with-xor p (suc (suc i)) j x y a b = absurd (omega arith)

-- a step of an exclusive-or is the exclusive-or of the steps
pub bit_step-xor : (p x y : ℕ) → bit_step p (bit_xor x y) ≡ bit_xor (bit_step p x) (bit_step p y)
unfolding bit_step
bit_step-xor p x y =
    ap₂ (half_with p) (xor_mod x y 1) (xor_shr x y 1)
    ∙ half_with-xor p (x % 2) (y % 2) (x / 2) (y / 2) (omega arith) (omega arith)

pub bit_steps-xor : (p n x y : ℕ) → bit_steps p n (bit_xor x y) ≡ bit_xor (bit_steps p n x) (bit_steps p n y)
unfolding bit_steps
bit_steps-xor p zero x y = refl
bit_steps-xor p (suc n) x y =
    ap (bit_steps p n) (bit_step-xor p x y) ∙ bit_steps-xor p n (bit_step p x) (bit_step p y)

-- a step of an even number halves it
bit_step-even : (p h : ℕ) → bit_step p (h * 2) ≡ h
unfolding bit_step
bit_step-even p h =
    let low : (h * 2) % 2 ≡ 0 = omega arith in
    let half : (h * 2) / 2 ≡ h = omega arith in
    ap₂ (half_with p) low half

-- as many steps as a number has zeros at its end shift it
pub bit_steps-shifted : (p n h : ℕ) → bit_steps p n (h * 2 ^ n) ≡ h
unfolding bit_steps
bit_steps-shifted p zero h = omega arith
bit_steps-shifted p (suc n) h =
    let even : h * 2 ^ suc n ≡ (h * 2 ^ n) * 2 = omega (arith, ap (λ k. h * k) (pow-suc 2 n)) in
    ap (λ k. bit_steps p n (bit_step p k)) even ∙ ap (bit_steps p n) (bit_step-even p (h * 2 ^ n))
    ∙ bit_steps-shifted p n h

-- steps after steps
pub bit_steps-add : (p m n x : ℕ) → bit_steps p (m + n) x ≡ bit_steps p n (bit_steps p m x)
unfolding bit_steps
bit_steps-add p zero n x = ap (λ k. bit_steps p k x) (let e : 0 + n ≡ n = omega arith in e)
bit_steps-add p (suc m) n x =
    let e : suc m + n ≡ suc (m + n) = omega arith in
    ap (λ k. bit_steps p k x) e ∙ bit_steps-add p m n (bit_step p x)

-- a number is the exclusive-or of its high and its low part
xor-parts : (x k : ℕ) → x ≡ bit_xor (x / 2 ^ k * 2 ^ k) (x % 2 ^ k)
xor-parts x k =
    let below : x % 2 ^ k < 2 ^ k = mod_below x (2 ^ k) (pow_pos k) in
    let none : 0 < 2 ^ k = pow_pos k in
    let joined = xor_block k (x / 2 ^ k) 0 0 (x % 2 ^ k) none below in
    let left : x / 2 ^ k * 2 ^ k + 0 ≡ x / 2 ^ k * 2 ^ k = omega arith in
    let right : 0 * 2 ^ k + x % 2 ^ k ≡ x % 2 ^ k = omega arith in
    let whole : x / 2 ^ k * 2 ^ k + x % 2 ^ k ≡ x = shr_split x k in
    sym (ap₂ bit_xor (sym left) (sym right) ∙ joined ∙ ap₂ (λ a b. a * 2 ^ k + b) (xor_zero_r (x / 2 ^ k)) refl ∙ whole)

-- steps take the low part through them and shift the rest
pub bit_steps-parts : (p k x : ℕ) → bit_steps p k x ≡ bit_xor (x / 2 ^ k) (bit_steps p k (x % 2 ^ k))
bit_steps-parts p k x =
    ap (bit_steps p k) (xor-parts x k) ∙ bit_steps-xor p k (x / 2 ^ k * 2 ^ k) (x % 2 ^ k)
    ∙ ap (λ a. bit_xor a (bit_steps p k (x % 2 ^ k))) (bit_steps-shifted p k (x / 2 ^ k))

-- one step more
pub bit_steps-more : (p n x : ℕ) → bit_steps p (n + 1) x ≡ bit_step p (bit_steps p n x)
unfolding bit_steps
bit_steps-more p n x = bit_steps-add p n 1 x

-- a byte by the table
pub table_step : (p s b : ℕ) (t : List ℕ) → IsTable p t → b < 256
    → bit_xor (s / 256) (get_or t (bit_and (bit_xor s b) 255) 0) ≡ bit_steps p 8 (bit_xor s b)
table_step p s b t filled below =
    let high : bit_xor s b / 256 ≡ s / 256 =
    xor_shr s b 8 ∙ ap (bit_xor (s / 256)) (let e : b / 256 ≡ 0 = omega arith in e) ∙ xor_zero_r (s / 256) in
    let low : bit_and (bit_xor s b) 255 ≡ bit_xor s b % 256 = and_mask (bit_xor s b) 8 in
    let fits : bit_xor s b % 256 < 256 = omega arith in
    ap₂ bit_xor (sym high) (ap (λ k. get_or t k 0) low ∙ filled (bit_xor s b % 256) fits)
    ∙ sym (bit_steps-parts p 8 (bit_xor s b))

-- the lowest byte goes through all steps, and the others through eight fewer
pub byte_off : (p n x : ℕ) → bit_steps p (8 + n) x ≡ bit_xor (bit_steps p n (x / 256)) (bit_steps p (8 + n) (x % 256))
byte_off p n x =
    ap (bit_steps p (8 + n)) (xor-parts x 8) ∙ bit_steps-xor p (8 + n) (x / 256 * 256) (x % 256)
    ∙ ap (λ a. bit_xor a (bit_steps p (8 + n) (x % 256)))
    (bit_steps-add p 8 n (x / 256 * 256) ∙ ap (bit_steps p n) (bit_steps-shifted p 8 (x / 256)))

-- two bytes and more at once
join-low : (s b w : ℕ) → b < 256 → bit_xor (bit_xor s b) (w * 256) ≡ bit_xor s (b + 256 * w)
join-low s b w below =
    let one : 0 < 2 ^ 8 = pow_pos 8 in
    let joined = xor_block 8 0 w b 0 below one in
    let left : 0 * 2 ^ 8 + b ≡ b = omega arith in
    let right : w * 2 ^ 8 + 0 ≡ w * 256 = omega arith in
    let zeroed : bit_xor 0 w ≡ w = refl in
    let whole : w * 2 ^ 8 + b ≡ b + 256 * w = omega arith in
    let sum : bit_xor b (w * 256) ≡ b + 256 * w =
    ap₂ bit_xor (sym left) (sym right) ∙ joined ∙ ap₂ (λ a c. a * 2 ^ 8 + c) zeroed (xor_zero_r b) ∙ whole in
    xor_assoc s b (w * 256) ∙ ap (bit_xor s) sum

-- several bytes at once, as one number with the lowest byte first
pub bytes_at_once : (p n i s : ℕ) (xs : List ℕ) → i + n ≤ length xs → ((k : ℕ) → get_or xs k 0 < 256)
    → after p s (take n (drop i xs)) ≡ bit_steps p (8 * n) (bit_xor s (little_from i n xs))
unfolding bit_steps
bytes_at_once p zero i s xs fits bytes = sym (xor_zero_r s)
bytes_at_once p (suc n) i s xs fits bytes =
    let here : i < length xs = omega arith in
    let rest : suc i + n ≤ length xs = omega arith in
    let b = get_or xs i 0 in
    let w = little_from (suc i) n xs in
    let next = bit_xor s b in
    let steps : 8 + 8 * n ≡ 8 * suc n = omega arith in
    ap (λ l. after p s (take (suc n) l)) (drop-cons xs i 0 here)
    ∙ bytes_at_once p n (suc i) (bit_steps p 8 next) xs rest bytes
    ∙ ap (λ v. bit_steps p (8 * n) (bit_xor (bit_steps p 8 next) v)) (sym (bit_steps-shifted p 8 w))
    ∙ ap (bit_steps p (8 * n)) (sym (bit_steps-xor p 8 next (w * 256)))
    ∙ sym (bit_steps-add p 8 (8 * n) (bit_xor next (w * 256)))
    ∙ ap₂ (bit_steps p) steps (join-low s b w (bytes i))

-- an entry of the tables, from the entries before it
pub tables_step : (p i : ℕ) (t : List ℕ) → 256 ≤ i
    → ((m : ℕ) → m < i → get_or t m 0 ≡ bit_steps p (8 * (m / 256) + 8) (m % 256))
    → bit_xor (get_or t (i - 256) 0 / 256) (get_or t (bit_and (get_or t (i - 256) 0) 255) 0)
    ≡ bit_steps p (8 * (i / 256) + 8) (i % 256)
tables_step p i t ge entries =
    let bits : ℕ = 8 * ((i - 256) / 256) + 8 in
    let b = get_or t (i - 256) 0 in
    let under : i - 256 < i = omega arith in
    let before : b ≡ bit_steps p bits ((i - 256) % 256) = entries (i - 256) under in
    let low : bit_and b 255 ≡ b % 256 = and_mask b 8 in
    let near : b % 256 < i = omega arith in
    let first_row : 8 * (b % 256 / 256) + 8 ≡ 8 = omega arith in
    let same : b % 256 % 256 ≡ b % 256 = omega arith in
    let entry : get_or t (b % 256) 0 ≡ bit_steps p 8 (b % 256) =
    entries (b % 256) near ∙ ap₂ (bit_steps p) first_row same in
    let rows : bits + 8 ≡ 8 * (i / 256) + 8 = omega arith in
    let column : (i - 256) % 256 ≡ i % 256 = omega arith in
    ap (bit_xor (b / 256)) (ap (λ k. get_or t k 0) low ∙ entry) ∙ sym (bit_steps-parts p 8 b)
    ∙ ap (bit_steps p 8) before ∙ sym (bit_steps-add p bits 8 ((i - 256) % 256)) ∙ ap₂ (bit_steps p) rows column

-- the first row of the tables is the table of single bytes
pub first_row : (p : ℕ) (t : List ℕ) → AreTables p t → IsTable p t
first_row p t filled k below =
    let far : k < 2048 = omega arith in
    let row : 8 * (k / 256) + 8 ≡ 8 = omega arith in
    let column : k % 256 ≡ k = omega arith in
    filled k far ∙ ap₂ (bit_steps p) row column

-- one row more
rows_step : (p j y : ℕ) (t : List ℕ) (a : ℕ) → AreTables p t → j < 8 → a ≡ bit_steps p (8 * j) (y / 256)
    → bit_xor a (get_or t (256 * j + bit_and y 255) 0) ≡ bit_steps p (8 + 8 * j) y
rows_step p j y t a filled below is =
    let low : bit_and y 255 ≡ y % 256 = and_mask y 8 in
    let far : 256 * j + y % 256 < 2048 = omega arith in
    let row : 8 * ((256 * j + y % 256) / 256) + 8 ≡ 8 + 8 * j = omega arith in
    let column : (256 * j + y % 256) % 256 ≡ y % 256 = omega arith in
    ap₂ bit_xor is (ap (λ k. get_or t (256 * j + k) 0) low ∙ filled (256 * j + y % 256) far ∙ ap₂ (bit_steps p) row column)
    ∙ sym (byte_off p (8 * j) y)

-- all eight rows
pub eight_rows : (p x : ℕ) (t : List ℕ) → AreTables p t → x < 2 ^ 64
    → bit_xor (bit_xor (bit_xor (bit_xor (bit_xor (bit_xor (bit_xor
    (get_or t (x / 72057594037927936) 0)
    (get_or t (256 + bit_and (x / 281474976710656) 255) 0))
    (get_or t (512 + bit_and (x / 1099511627776) 255) 0))
    (get_or t (768 + bit_and (x / 4294967296) 255) 0))
    (get_or t (1024 + bit_and (x / 16777216) 255) 0))
    (get_or t (1280 + bit_and (x / 65536) 255) 0))
    (get_or t (1536 + bit_and (x / 256) 255) 0))
    (get_or t (1792 + bit_and x 255) 0)
    ≡ bit_steps p 64 x
eight_rows p x t filled fits =
    let top : x / 72057594037927936 < 256 = omega arith in
    let e1 : x / 72057594037927936 ≡ x / 281474976710656 / 256 = omega arith in
    let e2 : x / 281474976710656 ≡ x / 1099511627776 / 256 = omega arith in
    let e3 : x / 1099511627776 ≡ x / 4294967296 / 256 = omega arith in
    let e4 : x / 4294967296 ≡ x / 16777216 / 256 = omega arith in
    let e5 : x / 16777216 ≡ x / 65536 / 256 = omega arith in
    let e6 : x / 65536 ≡ x / 256 / 256 = omega arith in
    rows_step p 7 x t _ filled (lit< tt)
    (rows_step p 6 (x / 256) t _ filled (lit< tt)
    (rows_step p 5 (x / 65536) t _ filled (lit< tt)
    (rows_step p 4 (x / 16777216) t _ filled (lit< tt)
    (rows_step p 3 (x / 4294967296) t _ filled (lit< tt)
    (rows_step p 2 (x / 1099511627776) t _ filled (lit< tt)
    (rows_step p 1 (x / 281474976710656) t _ filled (lit< tt)
    (first_row p t filled (x / 72057594037927936) top ∙ ap (bit_steps p 8) e1)
    ∙ ap (bit_steps p 16) e2) ∙ ap (bit_steps p 24) e3) ∙ ap (bit_steps p 32) e4) ∙ ap (bit_steps p 40) e5)
    ∙ ap (bit_steps p 48) e6) ∙ refl)

-- eight bytes more
pub eight_more : (poly start state next at : ℕ) (bytes : List ℕ) → 8 ≤ length bytes - at
    → state ≡ after poly start (take at bytes) → next ≡ after poly state (take 8 (take (length bytes - at) (drop at bytes)))
    → next ≡ after poly start (take (at + 8) bytes)
eight_more poly start state next at bytes fits is more =
    let rest = drop at bytes in
    let first : take 8 (take (length bytes - at) rest) ≡ take 8 rest = take-take 8 (length bytes - at) rest fits in
    more ∙ ap (after poly state) first ∙ ap (λ s. after poly s (take 8 rest)) is
    ∙ sym (ap (after poly start) (take-add at 8 bytes) ∙ fold-append (byte_step poly) start (take at bytes) (take 8 rest))

-- the rest
pub rest_more : (poly start state last at : ℕ) (bytes : List ℕ)
    → state ≡ after poly start (take at bytes) → last ≡ after poly state (take (length bytes - at) (drop at bytes))
    → last ≡ after poly start bytes
rest_more poly start state last at bytes is more =
    let rest = drop at bytes in
    let all : take (length bytes - at) rest ≡ rest = take_all (length bytes - at) rest (omega (arith, length-drop at bytes)) in
    more ∙ ap (after poly state) all ∙ ap (λ s. after poly s rest) is
    ∙ sym (fold-append (byte_step poly) start (take at bytes) rest)
    ∙ ap (after poly start) (take-append-drop at bytes)
