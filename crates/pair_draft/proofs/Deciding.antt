-- Which verdict the checksums of a piece decide.
use Rattle.std.proofs.Common.{◌≡◌, ◌≢◌, ℕ, ◌+◌, ◌-◌, ◌*◌, ◌/◌, ◌%◌, ◌<◌, ◌≤◌, List, ◌++◌, length, take, drop, refl, sym, ap, subst, ◌∙◌, arith, inl, inr, Some, None}
use Rattle.std.specs.Prelude.{Option, min, Result, Ok, ◌==◌, false}
use Rattle.std.proofs.Math.Nat.{div-mul-le_self, div-eq_of_lt, mul-add-div_right}
use Rattle.std.proofs.lemmas.Nat.{le-div, div-add-mod'}
use Rattle.std.proofs.lemmas.Bool.{cases_lt}
use Rattle.std.proofs.lemmas.Bool.Decides.{nat_tests}
use Rattle.std.proofs.lemmas.List.{take-take, drop-take, drop-drop, take-append-le, length-take-le}
use Rattle.meta_file.specs.Checksums.{big_endian, chunk_count}
use Rattle.meta_file.specs.declared.verdict.Verdict.TheVariants.{Whole, BadChunk, Short}
use Rattle.meta_file.specs.declared.header.Header.{Header}
use Rattle.meta_file.specs.declared.header.MetaFault.{MetaFault}
use Rattle.meta_file.specs.Headers.{header_of}
use Rattle.meta_file.specs.Sums.{polynomial}
use Rattle.meta_file.specs.Verdicts.{verdict_of, verdict_with, verdict_under, stored_sum, chunk_sum, given_chunks, first_different, chunk_verdict, length_verdict, sums_verdict, SameSums, IsFirstDifference}
use Rattle.meta_file.proofs.VerdictLemmas.{first_different-some, first_different-none, counted, given_all, length_whole}
use Rattle.pair_draft.specs.Checking.{AreSums}

-- more bytes, more chunks
div_grows : (step less more : ℕ) → 0 < step → less ≤ more → less / step ≤ more / step
div_grows step less more some within =
    let part = div-mul-le_self less step in
    le-div (less / step) more step some (omega (arith, part, within))

pub given_grows : (step len now have : ℕ) → 0 < step → now ≤ have → now ≤ len → given_chunks step len now ≤ given_chunks step len have
given_grows step len now have some more within =
    let by_now : now / step ≤ have / step = div_grows step now have some more in
    let by_len : now / step ≤ chunk_count step len = div_grows step now (len + (step - 1)) some (omega arith) in
    grind (arith, nat_tests)

-- the checksums of a meta file from a chunk on
pub stored_sum-part : (meta : List ℕ) (first count k : ℕ) → 4 * k + 4 ≤ count
    → stored_sum (take count (drop (7 + 4 * first) meta)) k ≡ stored_sum (drop 7 meta) (first + k)
stored_sum-part meta first count k fits =
    let parts : count ≡ 4 * k + (count - 4 * k) = omega arith in
    let there : 7 + 4 * first + 4 * k ≡ 7 + 4 * (first + k) = omega arith in
    ap (λ (n : ℕ). big_endian 0 (take 4 (drop (4 * k) (take n (drop (7 + 4 * first) meta))))) parts
    ∙ ap (λ (l : List ℕ). big_endian 0 (take 4 l)) (drop-take (4 * k) (count - 4 * k) (drop (7 + 4 * first) meta))
    ∙ ap (big_endian 0) (take-take 4 (count - 4 * k) (drop (4 * k) (drop (7 + 4 * first) meta)) (omega arith))
    ∙ ap (λ (l : List ℕ). big_endian 0 (take 4 l)) (drop-drop (4 * k) (7 + 4 * first) meta)
    ∙ ap (λ (n : ℕ). big_endian 0 (take 4 (drop n meta))) there
    ∙ ap (λ (l : List ℕ). big_endian 0 (take 4 l)) (sym (drop-drop (4 * (first + k)) 7 meta))

module _ (poly step len now first : ℕ) (all sums stored computed : List ℕ)
    (before : (chunk : ℕ) → chunk < first → stored_sum sums chunk ≡ chunk_sum poly step (take len all) chunk)
    (are : AreSums poly step len now first all computed)
    (same_length : length stored ≡ length computed)
    (is : (k : ℕ) → 4 * k + 4 ≤ length stored → stored_sum stored k ≡ stored_sum sums (first + k)) where
  -- chunks up to one of these agree where the checksums before it do
  up_to : (place : ℕ) → 4 * place ≤ length stored → ((k : ℕ) → k < place → stored_sum stored k ≡ stored_sum computed k)
      → (chunk : ℕ) → chunk < first + place → stored_sum sums chunk ≡ chunk_sum poly step (take len all) chunk
  up_to place fits same chunk below = elim (cases_lt chunk first) [
    | inl early ↦ before chunk early
    | inr late ↦
        let k : ℕ = chunk - first in
        let here : first + (chunk - first) ≡ chunk = omega (arith, late) in
        let low : chunk - first < place = omega (arith, late, below) in
        let inside : 4 * (chunk - first) + 4 ≤ length stored = omega (arith, low, fits) in
        subst (λ (i : ℕ). stored_sum sums i ≡ chunk_sum poly step (take len all) i) here
        (sym (is (chunk - first) inside) ∙ same (chunk - first) low ∙ are.each (chunk - first) (omega (arith, inside, same_length)))
  ]

  -- the first checksums that differ are those of the first chunk that does
  pub differs : 0 < step → (place one other : ℕ) → IsFirstDifference stored computed place one other → now ≤ length all → now ≤ len
      → BadChunk (first + place) one other ≡ sums_verdict poly step sums all len
  differs some place one other found more within =
      let inside = found.within in
      let count = are.count in
      let grows = given_grows step len now (length all) some more within in
      let agree = up_to place (omega (arith, inside)) found.before in
      let stored_is : one ≡ stored_sum sums (first + place) = found.stored_is ∙ is place inside in
      let computed_is : other ≡ chunk_sum poly step (take len all) (first + place) =
      found.computed_is ∙ are.each place (omega (arith, inside, same_length))
      in
      let differ : stored_sum sums (first + place) ≢ chunk_sum poly step (take len all) (first + place) =
      λ same. found.differ (stored_is ∙ same ∙ sym computed_is)
      in
      let start : 0 + (first + place) ≡ first + place = omega arith in
      let it : first_different (stored_sum sums) (chunk_sum poly step (take len all)) 0 (given_chunks step len (length all)) ≡ Some (0 + (first + place)) =
      first_different-some (stored_sum sums) (chunk_sum poly step (take len all)) 0 (given_chunks step len (length all)) (first + place)
      (λ k below. let here : k ≡ 0 + k = omega arith in
      subst (λ (i : ℕ). stored_sum sums i ≡ chunk_sum poly step (take len all) i) here (agree k below))
      (omega (arith, inside, count, same_length, grows))
      (subst (λ (i : ℕ). stored_sum sums i ≢ chunk_sum poly step (take len all) i) (sym start) differ)
      in
      ap (λ (n : ℕ). BadChunk (first + place) n other) stored_is
      ∙ ap (λ (n : ℕ). BadChunk (first + place) (stored_sum sums (first + place)) n) computed_is
      ∙ sym (ap (λ (found : Option ℕ). chunk_verdict (stored_sum sums) (chunk_sum poly step (take len all)) found (length_verdict len (length all)))
      (it ∙ ap Some start))

  -- where no checksums differ, the chunks agree
  pub agree_on : SameSums stored computed → (chunk : ℕ) → chunk < given_chunks step len now
      → stored_sum sums chunk ≡ chunk_sum poly step (take len all) chunk
  agree_on same chunk below =
      let count = are.count in
      up_to (length stored / 4) (omega arith) (λ k low. same k (omega (arith, low))) chunk (omega (arith, below, count, same_length))

-- all chunks of what the block gave agree
pub agreed : (poly step len have : ℕ) (all sums : List ℕ) → have ≡ length all
    → ((chunk : ℕ) → chunk < given_chunks step len have → stored_sum sums chunk ≡ chunk_sum poly step (take len all) chunk)
    → length_verdict len have ≡ sums_verdict poly step sums all len
agreed poly step len have all sums same agree =
    let none : first_different (stored_sum sums) (chunk_sum poly step (take len all)) 0 (given_chunks step len (length all)) ≡ None =
    first_different-none (stored_sum sums) (chunk_sum poly step (take len all)) 0 (given_chunks step len (length all))
    (λ k below. let here : k ≡ 0 + k = omega arith in
    subst (λ (i : ℕ). stored_sum sums i ≡ chunk_sum poly step (take len all) i) here
    (agree k (subst (λ (n : ℕ). k < given_chunks step len n) (sym same) below)))
    in
    ap (length_verdict len) same
    ∙ sym (ap (λ (found : Option ℕ). chunk_verdict (stored_sum sums) (chunk_sum poly step (take len all)) found (length_verdict len (length all))) none)

-- the block gave too few bytes
pub short : (poly step len have : ℕ) (all sums : List ℕ) → have ≡ length all → have < len
    → ((chunk : ℕ) → chunk < given_chunks step len have → stored_sum sums chunk ≡ chunk_sum poly step (take len all) chunk)
    → Short len have ≡ sums_verdict poly step sums all len
short poly step len have all sums same few agree =
    let is : Short len have ≡ length_verdict len have = grind (arith, nat_tests) in
    is ∙ agreed poly step len have all sums same agree

-- all bytes are given and all chunks agree
pub whole : (poly step len : ℕ) (all sums : List ℕ) → len ≤ length all
    → ((chunk : ℕ) → chunk < given_chunks step len len → stored_sum sums chunk ≡ chunk_sum poly step (take len all) chunk)
    → Whole ≡ sums_verdict poly step sums all len
whole poly step len all sums enough agree =
    let here = given_all step len len (omega arith) in
    let there = given_all step len (length all) enough in
    sym (length_whole len (length all) enough)
    ∙ agreed poly step len (length all) all sums refl (λ chunk below. agree chunk (omega (arith, below, here, there)))

-- the checksums of a piece are among those of all chunks
pub batch_within : (step at len count rest : ℕ) → 0 < step → count ≡ 4 * ((at % step + len) / step) → rest ≤ 4
    → (whole : ℕ) → at + len ≤ whole → (at + len < whole → rest ≡ 0) → ((at + len) % step ≡ 0 → rest ≡ 0)
    → 4 * (at / step) + (count + rest) ≤ 4 * chunk_count step whole
batch_within step at len count rest some is few whole within inside full =
    let parts : at + len ≡ at / step * step + (at % step + len) = (let p = div-add-mod' at step in omega (arith, p)) in
    let chunks : (at + len) / step ≡ at / step + (at % step + len) / step =
    ap (λ (n : ℕ). n / step) parts ∙ mul-add-div_right some (at / step) (at % step + len)
    in
    let last : (at + len) / step ≤ chunk_count step whole = div_grows step (at + len) (whole + (step - 1)) some (omega arith) in
    elim (cases_lt (at + len) whole) [
      | inl early ↦ let none = inside early in omega (arith, is, chunks, last, none)
      | inr late ↦ elim (cases_lt 0 ((at + len) % step)) [
        | inl part ↦
            let all = div-add-mod' (at + len) step in
            let one_more : (at + len) / step + 1 ≤ chunk_count step whole = le-div ((at + len) / step + 1) (whole + (step - 1)) step some (omega (arith, all, part, within)) in
            omega (arith, is, chunks, few, one_more)
        | inr none ↦ let zero : (at + len) % step ≡ 0 = omega (arith, none) in
            let none = full zero in omega (arith, is, chunks, last, none)
      ]
    ]

-- what was read of a file
pub piece_is : (have at : ℕ) (new rest all : List ℕ) → have ≤ length new → have ≤ length all - at → take have new ≡ take have (drop at all)
    → take have (new ++ rest) ≡ take (length (take have (new ++ rest))) (drop at all)
piece_is have at new rest all within few same =
    let front : take have (new ++ rest) ≡ take have new = take-append-le have new rest within in
    let len : length (take have (new ++ rest)) ≡ have = ap length front ∙ length-take-le have new within in
    front ∙ same ∙ ap (λ (n : ℕ). take n (drop at all)) (sym len)

-- the stored checksums that were read
pub stored_are : (sums new rest : List ℕ) (first chunk count n : ℕ) → chunk ≡ first → count ≡ length new → 7 + 4 * first + count ≤ length sums
    → n ≡ min (length new) (length sums - (7 + 4 * chunk)) → take n new ≡ take n (drop (7 + 4 * chunk) sums)
    → (k : ℕ) → 4 * k + 4 ≤ length (take count (new ++ rest)) → stored_sum (take count (new ++ rest)) k ≡ stored_sum (drop 7 sums) (first + k)
stored_are sums new rest first chunk count n here full within many same k fits =
    let all : n ≡ count = omega (arith, here, full, within, many) in
    let front : take count (new ++ rest) ≡ take count new = take-append-le count new rest (omega (arith, full)) in
    let read : take count new ≡ take count (drop (7 + 4 * first) sums) =
    subst (λ (m : ℕ). take m new ≡ take m (drop (7 + 4 * chunk) sums)) all same
    ∙ ap (λ (m : ℕ). take count (drop (7 + 4 * m) sums)) here
    in
    let len : length (take count (new ++ rest)) ≡ count = ap length front ∙ length-take-le count new (omega (arith, full)) in
    ap (λ (l : List ℕ). stored_sum l k) (front ∙ read) ∙ stored_sum-part sums first count k (omega (arith, len, fits))

pub stored_length : (new rest : List ℕ) (count : ℕ) → count ≡ length new → length (take count (new ++ rest)) ≡ count
stored_length new rest count full = ap length (take-append-le count new rest (omega (arith, full))) ∙ length-take-le count new (omega (arith, full))

-- a check that goes on has compared the chunks that are full
pub chunks_before : (step len at : ℕ) → at < len → given_chunks step len at ≡ at / step
chunks_before step len at below = grind (arith, nat_tests)

-- no chunk ends before the first byte
pub none_at_start : (step len : ℕ) → 0 < step → given_chunks step len 0 ≡ 0
none_at_start step len some =
    let start : 0 / step ≡ 0 = div-eq_of_lt some in
    let empty : chunk_count step 0 ≡ 0 = div-eq_of_lt (omega (arith, some)) in
    elim (cases_lt 0 len) [
      | inl more ↦ chunks_before step len 0 more ∙ start
      | inr none ↦ let zero : len ≡ 0 = omega (arith, none) in
          given_all step len 0 (omega (arith, zero)) ∙ ap (chunk_count step) zero ∙ empty
    ]

-- the same facts of a check that goes on
pub agree_later : (kind step len later_kind later_step later_len at : ℕ) (sums all : List ℕ) → later_kind ≡ kind → later_step ≡ step → later_len ≡ len
    → ((chunk : ℕ) → chunk < given_chunks step len at → stored_sum sums chunk ≡ chunk_sum (polynomial kind) step (take len all) chunk)
    → (chunk : ℕ) → chunk < given_chunks later_step later_len at → stored_sum sums chunk ≡ chunk_sum (polynomial later_kind) later_step (take later_len all) chunk
agree_later kind step len later_kind later_step later_len at sums all same_kind same_step same_len agree =
    subst (λ (n : ℕ). (chunk : ℕ) → chunk < given_chunks later_step later_len at → stored_sum sums chunk ≡ chunk_sum (polynomial n) later_step (take later_len all) chunk) (sym same_kind)
    (subst (λ (n : ℕ). (chunk : ℕ) → chunk < given_chunks n later_len at → stored_sum sums chunk ≡ chunk_sum (polynomial kind) n (take later_len all) chunk) (sym same_step)
    (subst (λ (n : ℕ). (chunk : ℕ) → chunk < given_chunks step n at → stored_sum sums chunk ≡ chunk_sum (polynomial kind) step (take n all) chunk) (sym same_len) agree))

-- where the header is read and its checksums are counted, the checksums decide
pub verdict_is : (meta block : List ℕ) (len : ℕ) (header : Header) → header_of meta ≡ Ok header → 0 < header.kind
    → length (drop 7 meta) ≡ 4 * chunk_count header.step len
    → sums_verdict (polynomial header.kind) header.step (drop 7 meta) block len ≡ verdict_of meta block len
verdict_is meta block len header is some count =
    let test : (header.kind == 0) ≡ false = grind (arith, nat_tests) in
    let under : verdict_under header (drop 7 meta) block len ≡ sums_verdict (polynomial header.kind) header.step (drop 7 meta) block len =
    rw test (counted (4 * chunk_count header.step len) (length (drop 7 meta)) (sums_verdict (polynomial header.kind) header.step (drop 7 meta) block len) count)
    in
    sym (ap (λ (read : Result Header MetaFault). verdict_with read (drop 7 meta) block len) is ∙ under)
