-- Facts of all views, where one view changes or one more comes; and the two parts of the rule that speak of one view at a time.
use Rattle.std.proofs.Common.{◌≡◌, ◌≢◌, ℕ, ◌+◌, ◌-◌, ◌^◌, ◌<◌, ◌≤◌, List, [], ◌∷◌, ◌++◌, length, set, Some, sym, ap, ◌∙◌, subst, ⊎_elim, arith}
use Rattle.atomic_table.proofs.Lists.{at_set}
use Rattle.turn_lock.specs.declared.view.Stage.{Stage}
use Rattle.turn_lock.specs.declared.view.Stage.TheVariants.{Empty, Filling, Idle, Drawn, Due, Spent}
use Rattle.turn_lock.specs.declared.view.View.{View}
use Rattle.turn_lock.specs.Views.{turn_of, numbers_out, is_live, if_live, own_lists, live_lists, members, with_one_less, split_off, just_joined, spent}
use Rattle.turn_lock.specs.Rule.{IsAt, Live, Counted, out}
use Rattle.turn_lock.proofs.Totals.{total_set, total_kept, total_snoc, total_mono, at_end}

pub no_turn : (st : Stage) (n : ℕ) → st ≡ Idle → turn_of st ≡ Some n → ⊥
no_turn st n idle e = absurd (cc (sym (ap turn_of idle) ∙ e))

pub numbers_out-le-live : (st : Stage) (n : ℕ) → numbers_out st ≤ if_live st (n + 1) 0
numbers_out-le-live Empty n = omega arith
numbers_out-le-live Filling n = omega arith
numbers_out-le-live Idle n = omega arith
numbers_out-le-live (Drawn m) n = omega arith
numbers_out-le-live (Due m) n = omega arith
numbers_out-le-live Spent n = omega arith

module _ {E : Type 0} where
  pub view_set : (P : ℕ → View E → Type 0) (vs : List (View E)) (id : ℕ) (w : View E) → ((i : ℕ) (v : View E) → i ≢ id → IsAt vs i v → P i v) → P id w
      → (i : ℕ) (v : View E) → IsAt (set vs id w) i v → P i v
  view_set P vs id w others mine i v e = ⊎_elim
      (λ (t : (i ≡ id) × (w ≡ v)). subst (λ (x : ℕ × View E). P x.0 x.1) (λ k. (sym t.0 k, t.1 k)) mine)
      (λ (t : (i ≢ id) × IsAt vs i v). others i v t.0 t.1)
      (at_set vs id i w v e)

  pub view_snoc : (P : ℕ → View E → Type 0) (vs : List (View E)) (w : View E) → ((i : ℕ) (v : View E) → IsAt vs i v → P i v) → P (length vs) w
      → (i : ℕ) (v : View E) → IsAt (vs ++ w ∷ []) i v → P i v
  view_snoc P vs w others mine i v e = ⊎_elim
      (λ (t : IsAt vs i v). others i v t)
      (λ (t : (i ≡ length vs) × (w ≡ v)). subst (λ (x : ℕ × View E). P x.0 x.1) (λ k. (sym t.0 k, t.1 k)) mine)
      (at_end vs w v i e)

  pub pair_set : (R : View E → View E → Type 0) (vs : List (View E)) (id : ℕ) (w : View E)
      → ((i j : ℕ) (v u : View E) → i ≢ j → IsAt vs i v → IsAt vs j u → R v u)
      → ((j : ℕ) (u : View E) → j ≢ id → IsAt vs j u → R w u × R u w)
      → (i j : ℕ) (v u : View E) → i ≢ j → IsAt (set vs id w) i v → IsAt (set vs id w) j u → R v u
  pair_set R vs id w old new i j v u apart a b = ⊎_elim
      (λ (t : (i ≡ id) × (w ≡ v)). ⊎_elim
      (λ (s : (j ≡ id) × (w ≡ u)). absurd (apart (t.0 ∙ sym s.0)))
      (λ (s : (j ≢ id) × IsAt vs j u). subst (λ (x : View E). R x u) t.1 (new j u s.0 s.1).0)
      (at_set vs id j w u b))
      (λ (t : (i ≢ id) × IsAt vs i v). ⊎_elim
      (λ (s : (j ≡ id) × (w ≡ u)). subst (λ (x : View E). R v x) s.1 (new i v t.0 t.1).1)
      (λ (s : (j ≢ id) × IsAt vs j u). old i j v u apart t.1 s.1)
      (at_set vs id j w u b))
      (at_set vs id i w v a)

  pub pair_snoc : (R : View E → View E → Type 0) (vs : List (View E)) (w : View E)
      → ((i j : ℕ) (v u : View E) → i ≢ j → IsAt vs i v → IsAt vs j u → R v u)
      → ((j : ℕ) (u : View E) → IsAt vs j u → R w u × R u w)
      → (i j : ℕ) (v u : View E) → i ≢ j → IsAt (vs ++ w ∷ []) i v → IsAt (vs ++ w ∷ []) j u → R v u
  pair_snoc R vs w old new i j v u apart a b = ⊎_elim
      (λ (t : IsAt vs i v). ⊎_elim
      (λ (s : IsAt vs j u). old i j v u apart t s)
      (λ (s : (j ≡ length vs) × (w ≡ u)). subst (λ (x : View E). R v x) s.1 (new i v t).1)
      (at_end vs w u j b))
      (λ (t : (i ≡ length vs) × (w ≡ v)). ⊎_elim
      (λ (s : IsAt vs j u). subst (λ (x : View E). R x u) t.1 (new j u s).0)
      (λ (s : (j ≡ length vs) × (w ≡ u)). absurd (apart (t.0 ∙ sym s.0)))
      (at_end vs w u j b))
      (at_end vs w v i a)

  pub idle_members : (v : View E) → v.stage ≡ Idle → members v ≡ v.spare + 1
  idle_members v idle = ap (λ (st : Stage). if_live st (v.spare + 1) 0) idle

  pub idle_lists : (v : View E) → v.stage ≡ Idle → live_lists v ≡ own_lists v
  idle_lists v idle = ap (λ (st : Stage). if_live st (own_lists v) []) idle

  pub counted_set : (seats : ℕ) (vs : List (View E)) (id : ℕ) (v w : View E) → Counted seats vs → IsAt vs id v → members w ≡ members v → w.seats ≡ v.seats → Live v → Counted seats (set vs id w)
  counted_set seats vs id v w c at same also live = record {
    few = c.few;
    in_all = total_kept members vs id v w at same ∙ c.in_all;
    known = view_set (λ i u. Live u → u.seats ≡ seats) vs id w (λ i u _ e. c.known i u e) (λ _. also ∙ c.known id v at live);
  }

  pub counted_split : (seats : ℕ) (vs : List (View E)) (id : ℕ) (v : View E) → Counted seats vs → IsAt vs id v → v.stage ≡ Idle → 0 < v.spare
      → Counted seats (set vs id (with_one_less v) ++ split_off v ∷ [])
  counted_split seats vs id v c at idle more =
      let a = total_snoc members (set vs id (with_one_less v)) (split_off v) in
      let b = total_set members vs id v (with_one_less v) at in
      let d : members v ≡ v.spare + 1 = idle_members v idle in
      let e : members (with_one_less v) ≡ (v.spare - 1) + 1 = idle_members (with_one_less v) idle in
      let f = c.in_all in
      let same : v.seats ≡ seats = c.known id v at (ap is_live idle) in
      record {
        few = c.few;
        in_all = omega arith;
        known = view_snoc (λ i u. Live u → u.seats ≡ seats) (set vs id (with_one_less v)) (split_off v)
            (view_set (λ i u. Live u → u.seats ≡ seats) vs id (with_one_less v) (λ i u _ e. c.known i u e) (λ _. same))
            (λ _. same);
      }

  pub counted_join : (seats : ℕ) (vs : List (View E)) (id other : ℕ) (v w : View E) → Counted seats vs → IsAt vs id v → v.stage ≡ Idle → w.stage ≡ Idle → IsAt (set vs id (just_joined v w)) other w
      → Counted seats (set (set vs id (just_joined v w)) other spent)
  counted_join seats vs id other v w c at idle idle' there =
      let a = total_set members (set vs id (just_joined v w)) other w spent there in
      let b = total_set members vs id v (just_joined v w) at in
      let d : members v ≡ v.spare + 1 = idle_members v idle in
      let e : members (just_joined v w) ≡ (v.spare + w.spare + 1) + 1 = idle_members (just_joined v w) idle in
      let g : members w ≡ w.spare + 1 = idle_members w idle' in
      let f = c.in_all in
      let same : v.seats ≡ seats = c.known id v at (ap is_live idle) in
      record {
        few = c.few;
        in_all = omega arith;
        known = view_set (λ i u. Live u → u.seats ≡ seats) (set vs id (just_joined v w)) other spent
            (λ i u _ e. view_set (λ i u. Live u → u.seats ≡ seats) vs id (just_joined v w) (λ j x _ f. c.known j x f) (λ _. same) i u e)
            (λ live. absurd (cc (live)));
      }

  -- no more turn numbers are out than there are seats
  pub out_few : (seats : ℕ) (vs : List (View E)) → Counted seats vs → out vs < 2 ^ 32
  out_few seats vs c = let h = total_mono (λ (v : View E). numbers_out v.stage) members vs (λ v. numbers_out-le-live v.stage v.spare) in let f = c.few in let g = c.in_all in omega arith
