-- Each step keeps the seat numbers apart.
use Rattle.std.proofs.Common.{◌≡◌, ◌≢◌, ℕ, ◌+◌, ◌*◌, ◌<◌, Bool, cond, List, [], ◌∷◌, ◌++◌, set, refl, sym, ap, ◌∙◌, inl, inr, arith}
use Rattle.std.proofs.lemmas.Bool.{cases_eq, eq-eqb, ne_eqb}
use Rattle.turn_lock.specs.declared.view.Stage.TheVariants.{Idle}
use Rattle.turn_lock.specs.declared.view.View.{View}
use Rattle.turn_lock.specs.History.{times}
use Rattle.turn_lock.specs.Views.{is_live, own_lists, live_lists, later_number, with_one_less, split_off, just_joined, spent}
use Rattle.turn_lock.specs.Rule.{IsAt, Live, NumbersApart, kept_for}
use Rattle.turn_lock.proofs.Totals.{total_set, total_kept, total_snoc}
use Rattle.turn_lock.proofs.Numbers.{left_number, right_number, first_number, number_once}
use Rattle.turn_lock.proofs.Places.{view_set, view_snoc, pair_set, pair_snoc, idle_lists}

module _ {E : Type 0} where
  pub times_append : (n : ℕ) (ps qs : List (ℕ × List E)) → times n (ps ++ qs) ≡ times n ps + times n qs
  times_append n [] qs = omega arith
  times_append n (p ∷ ps) qs = let e = times_append n ps qs in omega arith

  -- one list, of the number m
  pub times_here : (n m : ℕ) (own : List E) → m ≡ n → times n ((m, own) ∷ []) ≡ 1
  times_here n m own e = ap (λ (b : Bool). cond b 1 0 + 0) (eq-eqb m n e)

  pub times_else : (n m : ℕ) (own : List E) → m ≢ n → times n ((m, own) ∷ []) ≡ 0
  times_else n m own e = ap (λ (b : Bool). cond b 1 0 + 0) (ne_eqb m n e)

  abbrev pub Apart : View E → View E → Type 0
  Apart v u = Live v → Live u → (k l : ℕ) → later_number v k ≢ later_number u l

  abbrev pub NotMade : List (View E) → ℕ → View E → Type 0
  NotMade vs i v = Live v → (k : ℕ) → kept_for (later_number v k) vs ≡ 0

  -- a seat changes, keeps lists for the same numbers, and may give none but those that it might
  pub numbers_set : (vs : List (View E)) (id : ℕ) (v w : View E) → NumbersApart vs → IsAt vs id v → Live v
      → ((n : ℕ) → times n (live_lists w) ≡ times n (live_lists v)) → 0 < w.stride → ((k : ℕ) → (l : ℕ) × (later_number w k ≡ later_number v l)) → NumbersApart (set vs id w)
  numbers_set vs id v w a at live same some_stride among =
      let count : (n : ℕ) → kept_for n (set vs id w) ≡ kept_for n vs = λ n. total_kept (λ (x : View E). times n (live_lists x)) vs id v w at (same n) in
      record {
        once = λ n. let c = count n in let o = a.once n in omega arith;
        stride = view_set (λ i u. Live u → 0 < u.stride) vs id w (λ i u _ e. a.stride i u e) (λ _. some_stride);
        not_made = view_set (NotMade (set vs id w)) vs id w
            (λ i u _ e alive k. count (later_number u k) ∙ a.not_made i u e alive k)
            (λ _ k. let l = among k in count (later_number w k) ∙ (ap (λ (n : ℕ). kept_for n vs) l.1 ∙ a.not_made id v at live l.0));
        apart = pair_set Apart vs id w a.apart (λ j u other e. (
          (λ _ alive k m is. let l = among k in a.apart id j v u (λ x. other (sym x)) at e live alive l.0 m (sym l.1 ∙ is)),
          (λ alive _ k m is. let l = among m in a.apart j id u v other e at alive live k l.0 (is ∙ l.1)),
        ));
      }

  -- the lists that a new seat keeps: its own, which is empty
  abbrev pub new_list : ℕ → List (ℕ × List E)
  new_list n = (n, []) ∷ []

  -- a seat comes whose number was to be given
  numbers_snoc : (vs : List (View E)) (w : View E) → NumbersApart vs → live_lists w ≡ new_list w.number → kept_for w.number vs ≡ 0 → 0 < w.stride
      → ((k : ℕ) → (kept_for (later_number w k) vs ≡ 0) × (w.number ≢ later_number w k))
      → ((j : ℕ) (u : View E) → IsAt vs j u → Live u → (k l : ℕ) → (later_number w k ≢ later_number u l) × (w.number ≢ later_number u l))
      → NumbersApart (vs ++ w ∷ [])
  numbers_snoc vs w a lists fresh some_stride later others =
      let count : (n : ℕ) → kept_for n (vs ++ w ∷ []) ≡ kept_for n vs + times n (new_list w.number) =
      λ n. total_snoc (λ (x : View E). times n (live_lists x)) vs w ∙ ap (λ (l : List (ℕ × List E)). kept_for n vs + times n l) lists in
      let else' : (n : ℕ) → w.number ≢ n → kept_for n (vs ++ w ∷ []) ≡ kept_for n vs = λ n ne. let c = count n in let t = times_else n w.number [] ne in omega arith in
      record {
        once = λ n. elim (cases_eq w.number n) [
          | inl here ↦ let c = count n in let t = times_here n w.number [] here in let z : kept_for n vs ≡ 0 = sym (ap (λ (m : ℕ). kept_for m vs) here) ∙ fresh in omega arith
          | inr ne ↦ let c = else' n ne in let o = a.once n in omega arith
        ];
        stride = view_snoc (λ i u. Live u → 0 < u.stride) vs w a.stride (λ _. some_stride);
        not_made = view_snoc (NotMade (vs ++ w ∷ [])) vs w
            (λ i u e alive k. else' (later_number u k) (others i u e alive 0 k).1 ∙ a.not_made i u e alive k)
            (λ _ k. let l = later k in else' (later_number w k) l.1 ∙ l.0);
        apart = pair_snoc Apart vs w a.apart (λ j u e. (
          (λ _ alive k l. (others j u e alive k l).0),
          (λ alive _ k l is. (others j u e alive l k).0 (sym is)),
        ));
      }

  pub numbers_split : (vs : List (View E)) (id : ℕ) (v : View E) → NumbersApart vs → IsAt vs id v → v.stage ≡ Idle → NumbersApart (set vs id (with_one_less v) ++ split_off v ∷ [])
  numbers_split vs id v a at idle =
      let live : Live v = ap is_live idle in
      let left : View E = with_one_less v in
      let right : View E = split_off v in
      let some_stride = a.stride id v at live in
      let count : (n : ℕ) → kept_for n (set vs id left) ≡ kept_for n vs = λ n. total_kept (λ (x : View E). times n (live_lists x)) vs id v left at refl in
      let after : NumbersApart (set vs id left) = numbers_set vs id v left a at live (λ n. refl) (omega arith) (λ k. (2 * k + 1, left_number v.number v.stride k)) in
      let first : right.number ≡ later_number v 0 = first_number v.number v.stride in
      let next : (k : ℕ) → later_number right k ≡ later_number v (2 * k + 2) = λ k. right_number v.number v.stride k in
      let once : (j k : ℕ) → later_number v j ≡ later_number v k → j ≡ k = λ j k e. let s = number_once v.number v.stride (j + 1) (k + 1) some_stride e in omega arith in
      numbers_snoc (set vs id left) right after refl
      (count right.number ∙ (ap (λ (n : ℕ). kept_for n vs) first ∙ a.not_made id v at live 0))
      (omega arith)
      (λ k. (
        count (later_number right k) ∙ (ap (λ (n : ℕ). kept_for n vs) (next k) ∙ a.not_made id v at live (2 * k + 2)),
        (λ is. let z = once 0 (2 * k + 2) (sym first ∙ (is ∙ next k)) in omega arith),
      ))
      (view_set (λ j u. Live u → (k l : ℕ) → (later_number right k ≢ later_number u l) × (right.number ≢ later_number u l)) vs id left
      (λ j u other e alive k l. (
        (λ is. a.apart id j v u (λ x. other (sym x)) at e live alive (2 * k + 2) l (sym (next k) ∙ is)),
        (λ is. a.apart id j v u (λ x. other (sym x)) at e live alive 0 l (sym first ∙ is)),
      ))
      (λ _ k l. (
        (λ is. let z = once (2 * k + 2) (2 * l + 1) (sym (next k) ∙ (is ∙ left_number v.number v.stride l)) in omega arith),
        (λ is. let z = once 0 (2 * l + 1) (sym first ∙ (is ∙ left_number v.number v.stride l)) in omega arith),
      )))

  pub kept_join : (n : ℕ) (vs : List (View E)) (id other : ℕ) (v w : View E) → IsAt vs id v → v.stage ≡ Idle → w.stage ≡ Idle → IsAt (set vs id (just_joined v w)) other w
      → kept_for n (set (set vs id (just_joined v w)) other spent) ≡ kept_for n vs
  kept_join n vs id other v w at idle idle' there =
      let a = total_set (λ (x : View E). times n (live_lists x)) (set vs id (just_joined v w)) other w spent there in
      let b = total_set (λ (x : View E). times n (live_lists x)) vs id v (just_joined v w) at in
      let c : times n (live_lists v) ≡ times n (own_lists v) = ap (times n) (idle_lists v idle) in
      let d : times n (live_lists w) ≡ times n (own_lists w) = ap (times n) (idle_lists w idle') in
      let e : times n (live_lists (just_joined v w)) ≡ times n (own_lists v) + times n (own_lists w) = ap (times n) (idle_lists (just_joined v w) idle) ∙ times_append n (own_lists v) (own_lists w) in
      omega arith

  pub numbers_join : (vs : List (View E)) (id other : ℕ) (v w : View E) → NumbersApart vs → IsAt vs id v → v.stage ≡ Idle → w.stage ≡ Idle → IsAt (set vs id (just_joined v w)) other w
      → NumbersApart (set (set vs id (just_joined v w)) other spent)
  numbers_join vs id other v w a at idle idle' there =
      let live : Live v = ap is_live idle in
      let both : View E = just_joined v w in
      let count : (n : ℕ) → kept_for n (set (set vs id both) other spent) ≡ kept_for n vs = λ n. kept_join n vs id other v w at idle idle' there in
      record {
        once = λ n. let c = count n in let o = a.once n in omega arith;
        stride = view_set (λ i u. Live u → 0 < u.stride) (set vs id both) other spent
            (λ i u _ e. view_set (λ i u. Live u → 0 < u.stride) vs id both (λ j x _ f. a.stride j x f) (λ _. a.stride id v at live) i u e)
            (λ alive. absurd (cc (alive)));
        not_made = view_set (NotMade (set (set vs id both) other spent)) (set vs id both) other spent
            (λ i u _ e. view_set (NotMade (set (set vs id both) other spent)) vs id both
            (λ j x _ f alive k. count (later_number x k) ∙ a.not_made j x f alive k)
            (λ _ k. count (later_number v k) ∙ a.not_made id v at live k) i u e)
            (λ alive. absurd (cc (alive)));
        apart = pair_set Apart (set vs id both) other spent
            (pair_set Apart vs id both a.apart (λ j u elsewhere e. (
              (λ _ alive k l. a.apart id j v u (λ x. elsewhere (sym x)) at e live alive k l),
              (λ alive _ k l. a.apart j id u v elsewhere e at alive live k l),
            )))
            (λ j u _ _. ((λ alive. absurd (cc (alive))), (λ _ alive. absurd (cc (alive)))));
      }
