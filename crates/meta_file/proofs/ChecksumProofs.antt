-- The checksums and metas of some bytes.
use Rattle.std.proofs.Common.{◌≡◌, ◌≢◌, ℕ, zero, suc, ◌*◌, ◌<◌, ◌≤◌, List, [], ◌∷◌, ◌++◌, length, take, drop, refl, sym, ◌∙◌, subst, arith}
use Rattle.meta_file.specs.Checksums.{crc_byte, crc, castagnoli, ethernet, big_endian, chunk_count, HeaderIs, HasSums, SumsMatch, Matches}
use Rattle.meta_file.specs.ChecksumLaws.{check_bytes, header, HasCheckValues, SomeMatch, SomeDoNot}

crc_castagnoli : crc castagnoli check_bytes ≡ 0xe306_9283
unfolding crc_byte
crc_castagnoli = refl

crc_ethernet : crc ethernet check_bytes ≡ 0xcbf4_3926
unfolding crc_byte
crc_ethernet = refl

pub has_check_values : HasCheckValues
has_check_values = (crc_castagnoli, crc_ethernet)

header_of : (kind : ℕ) (sums : List ℕ) → kind ≤ 2 → 7 ≤ length (header kind ++ sums) → HeaderIs (header kind ++ sums) kind 512
header_of kind sums small long = record {
  whole = long;
  version = refl;
  kind_is = refl;
  step_is = refl;
  in_range = (small, omega arith, omega arith);
}

first_chunk : (poly : ℕ) (sums : List ℕ) → big_endian 0 (take 4 sums) ≡ crc poly check_bytes → (chunk : ℕ) → chunk < chunk_count 512 (length check_bytes) →
    big_endian 0 (take 4 (drop (4 * chunk) sums)) ≡ crc poly (take 512 (drop (512 * chunk) check_bytes))
first_chunk poly sums same zero below = same
first_chunk poly sums same (suc chunk) below = absurd (omega (arith, below))

sums_of : (poly : ℕ) (sums : List ℕ) → length sums ≡ 4 → big_endian 0 (take 4 sums) ≡ crc poly check_bytes → HasSums poly 512 sums check_bytes
sums_of poly sums four same = record { count = four; each = first_chunk poly sums same }

pub some_match : SomeMatch
some_match = (
  λ bytes. (0, 512, header_of 0 [] (omega arith) (omega arith), tt),
  (1, 512, header_of 1 (0xcb ∷ 0xf4 ∷ 0x39 ∷ 0x26 ∷ []) (omega arith) (omega arith), sums_of ethernet (0xcb ∷ 0xf4 ∷ 0x39 ∷ 0x26 ∷ []) refl (sym crc_ethernet)),
  (2, 512, header_of 2 (0xe3 ∷ 0x06 ∷ 0x92 ∷ 0x83 ∷ []) (omega arith) (omega arith), sums_of castagnoli (0xe3 ∷ 0x06 ∷ 0x92 ∷ 0x83 ∷ []) refl (sym crc_castagnoli)),
)

-- ---- metas that don't match

header_tells : (sums : List ℕ) (kind other step : ℕ) → HeaderIs (header kind ++ sums) other step → (kind ≡ other) × (512 ≡ step)
header_tells sums kind other step is = (is.kind_is, is.step_is)

wrong_sum : (poly wrong : ℕ) (sums : List ℕ) → big_endian 0 (take 4 sums) ≡ wrong → crc poly check_bytes ≢ wrong → HasSums poly 512 sums check_bytes → ⊥
wrong_sum poly wrong sums is differ has = differ (sym (has.each 0 (omega arith)) ∙ is)

no_sum : (poly : ℕ) → HasSums poly 512 [] check_bytes → ⊥
no_sum poly has = let none : 0 ≡ 4 = has.count in absurd (omega (arith, none))

at_kind : (sums : List ℕ) (kind : ℕ) → ((other : ℕ) → kind ≡ other → SumsMatch other 512 sums check_bytes → ⊥) → Matches (header kind ++ sums) check_bytes → ⊥
at_kind sums kind none matches =
    let tells = header_tells sums kind matches.0 matches.1 matches.2 in
    none matches.0 tells.0 (subst (λ step. SumsMatch matches.0 step sums check_bytes) (sym tells.1) matches.3)

castagnoli_only : (sums : List ℕ) → (HasSums castagnoli 512 sums check_bytes → ⊥) → (other : ℕ) → 2 ≡ other → SumsMatch other 512 sums check_bytes → ⊥
castagnoli_only sums none other is has = none (subst (λ kind. SumsMatch kind 512 sums check_bytes) (sym is) has)

ethernet_only : (sums : List ℕ) → (HasSums ethernet 512 sums check_bytes → ⊥) → (other : ℕ) → 1 ≡ other → SumsMatch other 512 sums check_bytes → ⊥
ethernet_only sums none other is has = none (subst (λ kind. SumsMatch kind 512 sums check_bytes) (sym is) has)

no_header : Matches [] check_bytes → ⊥
no_header matches = absurd (omega (arith, matches.2.whole))

pub some_do_not_match : SomeDoNot
some_do_not_match = (
  at_kind (0xe3 ∷ 0x06 ∷ 0x92 ∷ 0x84 ∷ []) 2 (castagnoli_only (0xe3 ∷ 0x06 ∷ 0x92 ∷ 0x84 ∷ [])
      (wrong_sum castagnoli 0xe306_9284 (0xe3 ∷ 0x06 ∷ 0x92 ∷ 0x84 ∷ []) refl (λ same. let bad : 0xe306_9283 ≡ 0xe306_9284 = sym crc_castagnoli ∙ same in absurd (omega (arith, bad))))),
  at_kind (0xe3 ∷ 0x06 ∷ 0x92 ∷ 0x83 ∷ []) 1 (ethernet_only (0xe3 ∷ 0x06 ∷ 0x92 ∷ 0x83 ∷ [])
      (wrong_sum ethernet 0xe306_9283 (0xe3 ∷ 0x06 ∷ 0x92 ∷ 0x83 ∷ []) refl (λ same. let bad : 0xcbf4_3926 ≡ 0xe306_9283 = sym crc_ethernet ∙ same in absurd (omega (arith, bad))))),
  at_kind [] 2 (castagnoli_only [] (no_sum castagnoli)),
  no_header,
)
