-- Each step keeps as many lists as seats were made.
use Rattle.std.proofs.Common.{◌≡◌, ℕ, ◌+◌, List, [], ◌∷◌, ◌++◌, length, set, refl, sym, ap, ◌∙◌, arith, length-set, length-append}
use Rattle.turn_lock.specs.declared.view.Stage.TheVariants.{Idle}
use Rattle.turn_lock.specs.declared.view.View.{View}
use Rattle.turn_lock.specs.History.{total}
use Rattle.turn_lock.specs.Views.{own_lists, live_lists, with_one_less, split_off, just_joined, spent}
use Rattle.turn_lock.specs.Rule.{IsAt, AllListsStay}
use Rattle.turn_lock.proofs.Totals.{total_set, total_kept, total_snoc}
use Rattle.turn_lock.proofs.Places.{idle_lists}

module _ {E : Type 0} where
  abbrev pub lists_of : View E → ℕ
  lists_of v = length (live_lists v)

  -- a seat changes that keeps as many lists
  pub stay_set : (vs : List (View E)) (id : ℕ) (v w : View E) → AllListsStay vs → IsAt vs id v → lists_of w ≡ lists_of v → AllListsStay (set vs id w)
  stay_set vs id v w stay at same = total_kept lists_of vs id v w at same ∙ (stay ∙ sym (length-set vs id w))

  pub stay_split : (vs : List (View E)) (id : ℕ) (v : View E) → AllListsStay vs → IsAt vs id v → AllListsStay (set vs id (with_one_less v) ++ split_off v ∷ [])
  stay_split vs id v stay at =
      let left : View E = with_one_less v in
      let right : View E = split_off v in
      let a : total lists_of (set vs id left ++ right ∷ []) ≡ total lists_of (set vs id left) + 1 = total_snoc lists_of (set vs id left) right in
      let b : total lists_of (set vs id left) ≡ total lists_of vs = total_kept lists_of vs id v left at refl in
      let c : length (set vs id left ++ right ∷ []) ≡ length (set vs id left) + 1 = length-append (set vs id left) (right ∷ []) in
      let d : length (set vs id left) ≡ length vs = length-set vs id left in
      omega arith

  pub stay_join : (vs : List (View E)) (id other : ℕ) (v w : View E) → AllListsStay vs → IsAt vs id v → v.stage ≡ Idle → w.stage ≡ Idle → IsAt (set vs id (just_joined v w)) other w
      → AllListsStay (set (set vs id (just_joined v w)) other spent)
  stay_join vs id other v w stay at idle idle' there =
      let both : View E = just_joined v w in
      let a : total lists_of (set (set vs id both) other spent) + lists_of w ≡ total lists_of (set vs id both) + 0 = total_set lists_of (set vs id both) other w spent there in
      let b = total_set lists_of vs id v both at in
      let c : lists_of v ≡ length (own_lists v) = ap length (idle_lists v idle) in
      let d : lists_of w ≡ length (own_lists w) = ap length (idle_lists w idle') in
      let e : lists_of both ≡ length (own_lists v) + length (own_lists w) = ap length (idle_lists both idle) ∙ length-append (own_lists v) (own_lists w) in
      let f : length (set (set vs id both) other spent) ≡ length (set vs id both) = length-set (set vs id both) other spent in
      let g : length (set vs id both) ≡ length vs = length-set vs id both in
      omega arith
