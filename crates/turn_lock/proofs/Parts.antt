-- The numbers of the two parts of a split seat.
use Rattle.std.specs.Prelude.{◌≡◌, ℕ, ◌+◌, ◌*◌, zero, suc}
use Rattle.std.proofs.Common.{sym, ap, ◌∙◌, inl, inr, arith}
use Rattle.std.proofs.Math.Nat.{mul-zero}
use Rattle.turn_lock.specs.declared.view.View.{View}
use Rattle.turn_lock.specs.Views.{with_one_less, split_off}
use Rattle.turn_lock.specs.Laws.{MayHave, PartsAreApart}
use Rattle.turn_lock.proofs.Numbers.{left_number, right_number, first_number, number_once}

module _ {E : Type 0} where
  -- the part that stays may have the even numbers of the seat, and the part that is split off the odd ones
  pub left_even : (v : View E) (n : ℕ) → MayHave (with_one_less v) n → (k : ℕ) × (n ≡ v.number + v.stride * (2 * k))
  left_even v n (inl own) = let zero' : v.stride * (2 * 0) ≡ 0 = mul-zero v.stride in let same : v.number ≡ v.number + v.stride * (2 * 0) = omega arith in (0, own ∙ same)
  left_even v n (inr h) = (h.0 + 1, h.1 ∙ (left_number v.number v.stride h.0 ∙ ap (λ (x : ℕ). v.number + v.stride * x) (omega arith)))

  pub right_odd : (v : View E) (n : ℕ) → MayHave (split_off v) n → (k : ℕ) × (n ≡ v.number + v.stride * (2 * k + 1))
  right_odd v n (inl own) = (0, own ∙ (first_number v.number v.stride ∙ ap (λ (x : ℕ). v.number + v.stride * x) (omega arith)))
  right_odd v n (inr h) = (h.0 + 1, h.1 ∙ (right_number v.number v.stride h.0 ∙ ap (λ (x : ℕ). v.number + v.stride * x) (omega arith)))

  -- a number of the row that begins with the seat's is one that the seat may have or give
  may_have : (v : View E) (n k : ℕ) → n ≡ v.number + v.stride * k → MayHave v n
  may_have v n zero e = let none : v.stride * 0 ≡ 0 = mul-zero v.stride in let own : n ≡ v.number = omega arith in inl own
  may_have v n (suc k) e = let next : suc k ≡ k + 1 = omega arith in inr (k, e ∙ ap (λ (x : ℕ). v.number + v.stride * x) next)

  -- the two parts of a seat, and all that is split off them, have different numbers
  pub parts_apart : PartsAreApart E
  parts_apart v n m some_stride p q =
      let a = left_even v n p in
      let b = right_odd v m q in (
        (λ same.
            let z : 2 * a.0 ≡ 2 * b.0 + 1 = number_once v.number v.stride (2 * a.0) (2 * b.0 + 1) some_stride (sym a.1 ∙ (same ∙ b.1)) in
            omega arith),
        may_have v n (2 * a.0) a.1,
        may_have v m (2 * b.0 + 1) b.1,
      )
