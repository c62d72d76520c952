-- The two steps with which a lock gets its first value, and the end of a lock.
use Rattle.std.proofs.Common.{◌≡◌, ℕ, zero, suc, ◌+◌, ◌%◌, ◌^◌, ◌<◌, ◌≤◌, true, false, cond, List, [], ◌∷◌, get_or, Option, Some, None, refl, sym, ap, ◌∙◌, subst, ⊎_elim, inl, inr, arith}
use mathlib.Core.Option.{some, none, some-ne-none}
use mathlib.Core.List.{IsPrefix}
use lib.ListN.{get_elem?}
use Rattle.std.proofs.lemmas.Bool.{cases_eq, cases_lt}
use Rattle.atomic_table.specs.Table.{State, Me, Act, Valid, carried_after, takes, gives, stepped, rest, Allows, Final, Seen, opening}
use Rattle.turn_lock.specs.declared.view.Stage.TheVariants.{Empty, Filling, Idle, Due}
use Rattle.turn_lock.specs.declared.view.View.{View}
use Rattle.turn_lock.specs.History.{Each, is_number, AreOwn, AreApart, Covers}
use Rattle.turn_lock.specs.Views.{turn_of, turns_held, is_live, is_open, own_lists, at_stage, first_seat, later_number}
use Rattle.turn_lock.specs.Rule.{IsAt, Live, Opened, Unopened, Holds, unopened, in_turn, kept_for}
use Rattle.turn_lock.specs.Steps.{Fills, Opens}
use Rattle.turn_lock.proofs.Totals.{total_some, prefix_self}
use Rattle.turn_lock.proofs.Numbering.{times_here, times_else}
use Rattle.turn_lock.proofs.Keeping.{lists_apart, only_view, only_saw, only_covers}
use Rattle.turn_lock.proofs.Steps.{turns_held_due, lone_view, opened_from}

module _ {X : Type 0} where
  lone_place : (x : X) (i : ℕ) (v : X) → get_elem? (x ∷ []) i ≡ some v → i ≡ 0
  lone_place x zero v e = refl
  lone_place x (suc i) v e = absurd (some-ne-none v (sym e))

  -- a fact of the only element
  lone : (P : ℕ → X → Type 0) (x : X) → P 0 x → (i : ℕ) (v : X) → get_elem? (x ∷ []) i ≡ some v → P i v
  lone P x p i v e = subst (λ (y : ℕ × X). P y.0 y.1) (λ k. (sym (lone_place x i v e) k, lone_view x i v e k)) p

module _ {T E : Type 0} (stands_for : T → List E → Type 0) (seat_of : E → Option ℕ) (seats : ℕ) where
  abbrev pub Rule : State (Option T) (View E) → Type 0
  Rule = Holds stands_for seat_of seats

  abbrev pub start : State (Option T) (View E)
  start = opening (0 ∷ 0 ∷ []) (None ∷ []) (unopened seats)

  abbrev pub filling : State (Option T) (View E)
  filling = record { words = 0 ∷ 0 ∷ []; homes = none ∷ []; views = first_seat seats Filling [] ∷ [] }

  -- the first seat of a lock without a value knows which state it is in
  at_start : (s : State (Option T) (View E)) (id : ℕ) → Rule s → IsAt s.views id (unopened seats) → s ≡ start
  at_start s id h at = ⊎_elim
      (λ (u : Unopened seats s). ⊎_elim
      (λ (e : s ≡ start). e)
      (λ (e : s ≡ filling).
      let same : first_seat seats Filling [] ≡ unopened seats = lone_view (first_seat seats Filling []) id (unopened seats) (subst (λ (t : State (Option T) (View E)). IsAt t.views id (unopened seats)) e at) in
      let clash : Filling ≡ Empty = ap (λ (x : View E). x.stage) same in
      absurd (cc (clash)))
      u)
      (λ (o : Opened stands_for seat_of seats s). let clash : false ≡ true = o.all_see.opened id (unopened seats) at in absurd (cc (clash)))
      h

  at_filling : (s : State (Option T) (View E)) (id : ℕ) → Rule s → IsAt s.views id (first_seat seats Filling []) → s ≡ filling
  at_filling s id h at = ⊎_elim
      (λ (u : Unopened seats s). ⊎_elim
      (λ (e : s ≡ start).
      let same : unopened seats ≡ first_seat seats Filling [] = lone_view (unopened seats) id (first_seat seats Filling []) (subst (λ (t : State (Option T) (View E)). IsAt t.views id (first_seat seats Filling [])) e at) in
      let clash : Empty ≡ Filling = ap (λ (x : View E). x.stage) same in
      absurd (cc (clash)))
      (λ (e : s ≡ filling). e)
      u)
      (λ (o : Opened stands_for seat_of seats s). let clash : false ≡ true = o.all_see.opened id (first_seat seats Filling []) at in absurd (cc (clash)))
      h

  -- what a step asks of one state
  abbrev Step_ok : ℕ → ℕ → Me (Option T) (View E) → (ℕ → Me (Option T) (View E) → Type 0) → State (Option T) (View E) → Type 0
  Step_ok slots id me then s = (w : View E) × (a : Act (Option T)) × Valid s.homes me.1 a
      × Rule (stepped s 1 (get_or s.words 1 0) id me.1 w a) × then (get_or s.words 1 0) (w, carried_after me.1 a)

  pub fills : (slots id : ℕ) → Allows Rule slots id (unopened seats, []) 1 (λ n. n) (Fills (unopened seats, []))
  fills slots id s h len at fits =
      let e = at_start s id h at in
      let here : id ≡ 0 = lone_place (unopened seats) id (unopened seats) (subst (λ (t : State (Option T) (View E)). IsAt t.views id (unopened seats)) e at) in
      subst (λ (x : State (Option T) (View E) × ℕ). Step_ok slots x.1 (unopened seats, []) (Fills (unopened seats, [])) x.0) (λ k. (sym e k, sym here k))
      (first_seat seats Filling [], takes 0 None, refl, inl (inr refl), refl)

  -- the lock with its first value
  first_value : (x : T) (e : E) → 0 < seats → seats < 2 ^ 32 → stands_for x (e ∷ []) → seat_of e ≡ None
      → Rule record { words = 0 ∷ 0 ∷ []; homes = some (Some x) ∷ []; views = first_seat seats Idle (e ∷ []) ∷ [] }
  first_value x e more few stands no_seat =
      let v : View E = first_seat seats Idle (e ∷ []) in
      inr record {
        first = e;
        later = [];
        two_words = refl;
        counted = record { few = few; in_all = omega arith; known = lone (λ i u. Live u → u.seats ≡ seats) v (λ _. refl) };
        turns = record {
          served_is = refl;
          next_is = refl;
          run = lone (λ i u. (n : ℕ) → turn_of u.stage ≡ Some n → (k : ℕ) × (k < 0) × (n ≡ (0 + k) % 2 ^ 64)) v (λ n is. absurd (cc (is)));
          distinct = λ i j u w apart a b. absurd (apart (lone_place v i u a ∙ sym (lone_place v j w b)));
          due = lone (λ i u. (n : ℕ) → u.stage ≡ Due n → (n ≡ 0) × (u.seen ≡ e ∷ [])) v (λ n is. absurd (cc (is)));
        };
        at_rest = λ _. (x, refl, stands);
        at_turn = λ more. absurd (omega arith);
        all_see = record {
          opened = lone (λ i u. is_open u.stage ≡ true) v refl;
          begins = lone (λ i u. Live u → IsPrefix u.seen (e ∷ [])) v (λ _. prefix_self (e ∷ []));
          heard = lone (λ i u. Live u → Each (λ l. IsPrefix l u.seen) u.heard) v (λ _. tt);
          one_saw_all = (0, v, refl, refl, refl);
        };
        numbers = record {
          once = λ n. elim (cases_eq 0 n) [
            | inl here ↦ let t = times_here n 0 v.own here in omega arith
            | inr other ↦ let t = times_else n 0 v.own other in omega arith
          ];
          stride = lone (λ i u. Live u → 0 < u.stride) v (λ _. omega arith);
          not_made = lone (λ i u. Live u → (k : ℕ) → kept_for (later_number u k) (v ∷ []) ≡ 0) v (λ _ k. let t = times_else (later_number v k) 0 v.own (λ z. omega arith) in omega arith);
          apart = λ i j u w other a b. absurd (other (lone_place v i u a ∙ sym (lone_place v j w b)));
        };
        stay = refl;
        lists = record {
          opening = no_seat;
          own = lone (λ i u. Live u → AreOwn seat_of (e ∷ []) (own_lists u)) v (λ _. (sym (ap (λ (o : Option ℕ). own_of e o) no_seat), tt));
          all_kept = tt;
        };
      }
    where
      own_of : E → Option ℕ → List E
      own_of e o = cond (is_number 0 o) (e ∷ []) []

  pub opens : (slots id : ℕ) (x : T) (e : E) → 0 < seats → seats < 2 ^ 32 → stands_for x (e ∷ []) → seat_of e ≡ None
      → Allows Rule slots id (first_seat seats Filling [], (0, Some x) ∷ []) 1 (λ n. n) (Opens (e ∷ []) (first_seat seats Filling [], (0, Some x) ∷ []))
  opens slots id x e more few stands no_seat s h len at fits =
      let is = at_filling s id h at in
      let here : id ≡ 0 = lone_place (first_seat seats Filling []) id (first_seat seats Filling []) (subst (λ (t : State (Option T) (View E)). IsAt t.views id (first_seat seats Filling [])) is at) in
      subst (λ (y : State (Option T) (View E) × ℕ). Step_ok slots y.1 (first_seat seats Filling [], (0, Some x) ∷ []) (Opens (e ∷ []) (first_seat seats Filling [], (0, Some x) ∷ [])) y.0) (λ k. (sym is k, sym here k))
      (first_seat seats Idle (e ∷ []), gives, tt, first_value x e more few stands no_seat, refl)

  -- the same at a seat that is known by equations
  pub fills_at : (slots id : ℕ) (me : Me (Option T) (View E)) → me ≡ (unopened seats, []) → Allows Rule slots id me 1 (λ n. n) (Fills me)
  fills_at slots id me is = subst (λ (y : Me (Option T) (View E)). Allows Rule slots id y 1 (λ n. n) (Fills y)) (sym is) (fills slots id)

  pub opens_at : (slots id : ℕ) (me : Me (Option T) (View E)) (x : T) (e : E) (added : List E) → 0 < seats → seats < 2 ^ 32 → me ≡ (first_seat seats Filling [], (0, Some x) ∷ []) → added ≡ e ∷ []
      → stands_for x (e ∷ []) → seat_of e ≡ None → Allows Rule slots id me 1 (λ n. n) (Opens added me)
  opens_at slots id me x e added more few is adds stands no_seat = subst
      (λ (y : Me (Option T) (View E) × List E). Allows Rule slots id y.0 1 (λ n. n) (Opens y.1 y.0))
      (λ k. (sym is k, sym adds k))
      (opens slots id x e more few stands no_seat)

  pub opens_from : (slots id : ℕ) (before mid after : Me (Option T) (View E)) (x : T) (e : E) (added : List E) → 0 < seats → seats < 2 ^ 32 → before ≡ (unopened seats, []) → Fills before 0 mid
      → after ≡ (mid.0, (0, Some x) ∷ rest mid.1) → added ≡ e ∷ [] → stands_for x (e ∷ []) → seat_of e ≡ None → Allows Rule slots id after 1 (λ n. n) (Opens added after)
  opens_from slots id before mid after x e added more few is filled put adds stands no_seat = opens_at slots id after x e added more few
      (put ∙ (ap (λ (y : Me (Option T) (View E)). (y.0, (0, Some x) ∷ rest y.1)) filled ∙ ap (λ (y : Me (Option T) (View E)). (at_stage Filling y.0, (0, Some x) ∷ [])) is))
      adds stands no_seat

  -- what the last seat leaves: its slot has a value that stands for all that it had seen
  pub closes : (id : ℕ) (v : View E) (words : List ℕ) (slots : List (Option T)) → v.stage ≡ Idle → v.spare + 1 ≡ v.seats → Final (Seen Rule id v) words slots
      → ((x : T) × (get_elem? slots 0 ≡ some (Some x)) × stands_for x v.seen) × AreOwn seat_of v.seen (own_lists v) × AreApart (own_lists v) × Covers seat_of (own_lists v) v.seen
  closes id v words slots idle full f =
      let s : State (Option T) (View E) = f.0 in
      let at : IsAt s.views id v = f.1.1 in
      let o = opened_from stands_for seat_of seats s id v f.1.0 at (ap is_open idle) in
      let live : Live v = ap is_live idle in
      let log : List E = o.first ∷ o.later in
      let seen : v.seen ≡ log = only_saw seats log s.views id v o.counted o.all_see at live full in
      let rest = o.at_rest (quiet s o id v at idle full) in (
        (rest.0, f.4 0 (Some rest.0) rest.1, subst (stands_for rest.0) (sym seen) rest.2),
        subst (λ (l : List E). AreOwn seat_of l (own_lists v)) (sym seen) (o.lists.own id v at live),
        lists_apart s.views id v o.numbers at live,
        subst (λ (l : List E). Covers seat_of (own_lists v) l) (sym seen) (only_covers seat_of seats o.first o.later s.views id v o.counted o.lists at live full),
      )
    where
      quiet : (s : State (Option T) (View E)) (o : Opened stands_for seat_of seats s) (id : ℕ) (v : View E) → IsAt s.views id v → v.stage ≡ Idle → v.spare + 1 ≡ v.seats → in_turn s.views ≡ 0
      quiet s o id v at idle full = ⊎_elim
          (λ (more : 0 < in_turn s.views).
          let t = total_some (λ (x : View E). turns_held x.stage) s.views more in
          let d = turns_held_due t.1.stage t.3 in
          let one : t.1 ≡ v = only_view seats s.views id v o.counted at (ap is_live idle) full t.0 t.1 t.2 (ap is_live d.1) in
          let clash : Due d.0 ≡ Idle = sym d.1 ∙ (ap (λ (x : View E). x.stage) one ∙ idle) in
          absurd (cc (clash)))
          (λ (less : in_turn s.views ≤ 0). omega arith)
          (cases_lt 0 (in_turn s.views))

module _ {T E : Type 0} where
  pub same_value : (stands_for : T → List E → Type 0) (x y : T) (log : List E) → Some x ≡ Some y → stands_for x log → stands_for y log
  same_value stands_for x y log e h = let same : x ≡ y = cc (e) in subst (λ (z : T). stands_for z log) same h
