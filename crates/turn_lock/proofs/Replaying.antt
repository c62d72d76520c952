-- What the last seat can make of the lists that it keeps, where all entries but its own are quiet.
use Rattle.std.specs.Prelude.{◌≡◌, ℕ, ◌+◌, ◌<◌, Bool, true, false, cond, List, [], ◌∷◌, Option, Some, None, refl}
use Rattle.std.proofs.Common.{eqb, sym, ap, ◌∙◌, subst, inl, inr, arith}
use Rattle.std.proofs.lemmas.Bool.{cases_eq, eq-eqb, ne_eqb}
use Rattle.turn_lock.specs.History.{Each, times, is_number, entries_of, AreOwn, Covers}
use Rattle.turn_lock.specs.Laws.{replay, IsQuiet, OwnEntriesSuffice}

module _ {S E : Type 0} (step : S → E → S) (seat_of : E → Option ℕ) where
  abbrev Quiet : E → Type 0
  Quiet e = IsQuiet step e

  quiet_step : (n : ℕ) (e : E) (b : Bool) (rest : List E) → is_number n (seat_of e) ≡ b → Each Quiet (cond b (e ∷ rest) rest) → (seat_of e ≡ Some n → Quiet e) × Each Quiet rest
  quiet_step n e true rest is all = ((λ _. all.0), all.1)
  quiet_step n e false rest is all = ((λ named. let clash : false ≡ true = sym is ∙ (ap (is_number n) named ∙ eq-eqb n n refl) in absurd (cc (clash))), all)

  quiet_in : (n : ℕ) (log : List E) → Each Quiet (entries_of seat_of n log) → Each (λ e. seat_of e ≡ Some n → Quiet e) log
  quiet_in n [] all = tt
  quiet_in n (e ∷ es) all = let h = quiet_step n e (is_number n (seat_of e)) (entries_of seat_of n es) refl all in (h.0, quiet_in n es h.1)

  quiet_list : (log : List E) (lists : List (ℕ × List E)) → AreOwn seat_of log lists → Each (λ p. Each Quiet p.1) lists → (n : ℕ) → 0 < times n lists → Each Quiet (entries_of seat_of n log)
  quiet_list log [] own all n more = absurd (omega arith)
  quiet_list log (p ∷ ps) own all n more = elim (cases_eq p.0 n) [
    | inl same ↦ subst (λ (l : List E). Each Quiet l) (own.0 ∙ ap (λ (m : ℕ). entries_of seat_of m log) same) all.0
    | inr other ↦
        let zero' : 0 + cond (eqb p.0 n) 1 0 ≡ 0 + 0 = ap (λ (b : Bool). 0 + cond b 1 0) (ne_eqb p.0 n other) in
        quiet_list log ps own.1 all.1 n (omega arith)
  ]

  each_swap : (Q : ℕ → Type 0) (R : ℕ → E → Type 0) (xs : List E) → ((n : ℕ) → Q n → Each (R n) xs) → Each (λ e. (n : ℕ) → Q n → R n e) xs
  each_swap Q R [] h = tt
  each_swap Q R (x ∷ xs) h = ((λ n q. (h n q).0), each_swap Q R xs (λ n q. (h n q).1))

  replay_own : (number : ℕ) (joined : List (ℕ × List E)) (own : List E) (later : List E)
      → Each (λ e. (n : ℕ) × (seat_of e ≡ Some n) × (0 < times n ((number, own) ∷ joined))) later
      → Each (λ e. (n : ℕ) → 0 < times n joined → seat_of e ≡ Some n → Quiet e) later
      → (s : S) → replay step s later ≡ replay step s (entries_of seat_of number later)
  replay_own number joined own [] named quiet s = refl
  replay_own number joined own (e ∷ es) named quiet s =
      let n = named.0.0 in
      let is = named.0.1 in
      let more = named.0.2 in
      elim (cases_eq number n) [
        | inl same ↦
            let yes' : is_number number (seat_of e) ≡ true = ap (is_number number) is ∙ eq-eqb n number (sym same) in
            let takes : entries_of seat_of number (e ∷ es) ≡ e ∷ entries_of seat_of number es = ap (λ (b : Bool). cond b (e ∷ entries_of seat_of number es) (entries_of seat_of number es)) yes' in
            replay_own number joined own es named.1 quiet.1 (step s e) ∙ ap (replay step s) (sym takes)
        | inr other ↦
            let no' : is_number number (seat_of e) ≡ false = ap (is_number number) is ∙ ne_eqb n number (λ x. other (sym x)) in
            let skips : entries_of seat_of number (e ∷ es) ≡ entries_of seat_of number es = ap (λ (b : Bool). cond b (e ∷ entries_of seat_of number es) (entries_of seat_of number es)) no' in
            let zero' : 0 + cond (eqb number n) 1 0 ≡ 0 + 0 = ap (λ (b : Bool). 0 + cond b 1 0) (ne_eqb number n other) in
            replay_own number joined own es named.1 quiet.1 (step s e)
            ∙ (ap (λ (t : S). replay step t (entries_of seat_of number es)) (quiet.0 n (omega arith) is s)
            ∙ ap (replay step s) (sym skips))
      ]

  -- Where the entries of all the other seats change nothing, the history makes of s what the own entries alone make of it
  only_own_entries : (first : E) (later : List E) (number : ℕ) (own : List E) (joined : List (ℕ × List E)) → seat_of first ≡ None
      → AreOwn seat_of (first ∷ later) ((number, own) ∷ joined) → Covers seat_of ((number, own) ∷ joined) (first ∷ later) → Each (λ p. Each Quiet p.1) joined
      → (s : S) → replay step s later ≡ replay step s own
  only_own_entries first later number own joined opening lists covers quiet s =
      let none' : is_number number (seat_of first) ≡ false = ap (is_number number) opening in
      let skips : entries_of seat_of number (first ∷ later) ≡ entries_of seat_of number later = ap (λ (b : Bool). cond b (first ∷ entries_of seat_of number later) (entries_of seat_of number later)) none' in
      replay_own number joined own later covers
      (each_swap (λ n. 0 < times n joined) (λ n e. seat_of e ≡ Some n → Quiet e) later (λ n more. (quiet_in n (first ∷ later) (quiet_list (first ∷ later) joined lists.1 quiet n more)).1)) s
      ∙ ap (replay step s) (sym (lists.0 ∙ skips))

pub own_entries_suffice : (S : Type 0) {E : Type 0} (seat_of : E → Option ℕ) → OwnEntriesSuffice S seat_of
own_entries_suffice S seat_of step first later number own joined opening lists covers quiet s = only_own_entries step seat_of first later number own joined opening lists covers quiet s
