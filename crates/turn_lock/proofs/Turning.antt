-- Each step keeps the turn numbers as the rule wants them.
use Rattle.std.proofs.Common.{◌≡◌, ◌≢◌, ℕ, ◌+◌, ◌-◌, ◌%◌, ◌^◌, ◌<◌, List, [], ◌∷◌, ◌++◌, length, set, Some, refl, sym, ap, ◌∙◌, inl, inr, arith}
use Rattle.std.proofs.lemmas.Bool.{cases_eq}
use Rattle.turn_lock.specs.declared.view.Stage.TheVariants.{Idle, Drawn, Due}
use Rattle.turn_lock.specs.declared.view.View.{View}
use Rattle.turn_lock.specs.Views.{turn_of, numbers_out, at_stage}
use Rattle.turn_lock.specs.Rule.{IsAt, TurnsRun, out}
use Rattle.turn_lock.proofs.Totals.{total_set, total_kept, total_snoc}
use Rattle.turn_lock.proofs.Numbers.{one_more, one_number}
use Rattle.turn_lock.proofs.Places.{no_turn, view_set, view_snoc, pair_set, pair_snoc}

module _ {E : Type 0} where
  -- the seat has no turn number
  abbrev pub NoTurn : View E → Type 0
  NoTurn v = (n : ℕ) → turn_of v.stage ≢ Some n

  abbrev pub OneTurn : View E → View E → Type 0
  OneTurn v u = (n : ℕ) → turn_of v.stage ≡ Some n → turn_of u.stage ≢ Some n

  abbrev pub Run : ℕ → ℕ → ℕ → View E → Type 0
  Run tenures count i v = (n : ℕ) → turn_of v.stage ≡ Some n → (k : ℕ) × (k < count) × (n ≡ (tenures + k) % 2 ^ 64)

  abbrev pub DueIs : ℕ → List E → ℕ → View E → Type 0
  DueIs served log i v = (n : ℕ) → v.stage ≡ Due n → (n ≡ served) × (v.seen ≡ log)

  pub idle_none : (v : View E) → v.stage ≡ Idle → NoTurn v
  idle_none v idle n e = no_turn v.stage n idle e

  not_due : (served : ℕ) (log : List E) (i : ℕ) (v : View E) → NoTurn v → DueIs served log i v
  not_due served log i v none n e = absurd (none n (ap turn_of e))

  -- a seat without a turn number changes, and has none afterwards
  pub turns_set : (t s n : ℕ) (log : List E) (vs : List (View E)) (id : ℕ) (v w : View E) → TurnsRun t s n log vs → IsAt vs id v → numbers_out w.stage ≡ numbers_out v.stage → NoTurn w
      → TurnsRun t s n log (set vs id w)
  turns_set t s n log vs id v w r at same none =
      let count : out (set vs id w) ≡ out vs = total_kept (λ (x : View E). numbers_out x.stage) vs id v w at same in
      record {
        served_is = r.served_is;
        next_is = r.next_is ∙ ap (λ (x : ℕ). (t + x) % 2 ^ 64) (sym count);
        run = view_set (Run t (out (set vs id w))) vs id w
            (λ i u _ e m is. let k = r.run i u e m is in let less = k.1 in (k.0, omega arith, k.2))
            (λ m is. absurd (none m is));
        distinct = pair_set OneTurn vs id w r.distinct (λ j u _ _. ((λ m is _. none m is), (λ m _ is. none m is)));
        due = view_set (DueIs s log) vs id w (λ i u _ e. r.due i u e) (not_due s log id w none);
      }

  -- a seat without a turn number comes
  pub turns_snoc : (t s n : ℕ) (log : List E) (vs : List (View E)) (w : View E) → TurnsRun t s n log vs → numbers_out w.stage ≡ 0 → NoTurn w → TurnsRun t s n log (vs ++ w ∷ [])
  turns_snoc t s n log vs w r none_out none =
      let a = total_snoc (λ (x : View E). numbers_out x.stage) vs w in
      let count : out (vs ++ w ∷ []) ≡ out vs = omega arith in
      record {
        served_is = r.served_is;
        next_is = r.next_is ∙ ap (λ (x : ℕ). (t + x) % 2 ^ 64) (sym count);
        run = view_snoc (Run t (out (vs ++ w ∷ []))) vs w
            (λ i u e m is. let k = r.run i u e m is in let less = k.1 in (k.0, omega arith, k.2))
            (λ m is. absurd (none m is));
        distinct = pair_snoc OneTurn vs w r.distinct (λ j u _. ((λ m is _. none m is), (λ m _ is. none m is)));
        due = view_snoc (DueIs s log) vs w r.due (not_due s log (length vs) w none);
      }

  -- a seat draws the next number
  pub turns_draw : (t s n : ℕ) (log : List E) (vs : List (View E)) (id : ℕ) (v : View E) → TurnsRun t s n log vs → out vs < 2 ^ 32 → IsAt vs id v → v.stage ≡ Idle
      → TurnsRun t s ((n + 1) % 2 ^ 64) log (set vs id (at_stage (Drawn n) v))
  turns_draw t s n log vs id v r few at idle =
      let w : View E = at_stage (Drawn n) v in
      let a = total_set (λ (x : View E). numbers_out x.stage) vs id v w at in
      let b : numbers_out v.stage ≡ 0 = ap numbers_out idle in
      let count : out (set vs id w) ≡ out vs + 1 = omega arith in
      let clash : (j : ℕ) (u : View E) (m : ℕ) → IsAt vs j u → n ≡ m → turn_of u.stage ≡ Some m → ⊥ = λ j u m e is has.
      let k = r.run j u e m has in
      let less = k.1 in
      let one : k.0 ≡ out vs = one_number t k.0 (out vs) (omega arith) (omega arith) (sym k.2 ∙ (sym is ∙ r.next_is)) in
      omega arith in
      record {
        served_is = r.served_is;
        next_is = ap (λ (x : ℕ). (x + 1) % 2 ^ 64) r.next_is ∙ (one_more (t + out vs) ∙ ap (λ (x : ℕ). x % 2 ^ 64) (omega arith));
        run = view_set (Run t (out (set vs id w))) vs id w
            (λ i u _ e m is. let k = r.run i u e m is in let less = k.1 in (k.0, omega arith, k.2))
            (λ m is. let same : n ≡ m = cc (is) in (out vs, omega arith, sym same ∙ r.next_is));
        distinct = pair_set OneTurn vs id w r.distinct
            (λ j u _ e. ((λ m is has. clash j u m e (cc (is)) has), (λ m has is. clash j u m e (cc (is)) has)));
        due = view_set (DueIs s log) vs id w (λ i u _ e. r.due i u e) (λ m is. absurd (cc (is)));
      }

  -- the turn of a seat comes
  pub turns_look : (t s n : ℕ) (log : List E) (vs : List (View E)) (id : ℕ) (v : View E) → TurnsRun t s n log vs → IsAt vs id v → v.stage ≡ Drawn s
      → TurnsRun t s n log (set vs id (record v { stage = Due s; seen = log }))
  turns_look t s n log vs id v r at drawn =
      let w : View E = record v { stage = Due s; seen = log } in
      let has : turn_of v.stage ≡ Some s = ap turn_of drawn in
      let count : out (set vs id w) ≡ out vs = total_kept (λ (x : View E). numbers_out x.stage) vs id v w at (sym (ap numbers_out drawn)) in
      record {
        served_is = r.served_is;
        next_is = r.next_is ∙ ap (λ (x : ℕ). (t + x) % 2 ^ 64) (sym count);
        run = view_set (Run t (out (set vs id w))) vs id w
            (λ i u _ e m is. let k = r.run i u e m is in let less = k.1 in (k.0, omega arith, k.2))
            (λ m is. let k = r.run id v at m (has ∙ is) in let less = k.1 in (k.0, omega arith, k.2));
        distinct = pair_set OneTurn vs id w r.distinct
            (λ j u other e. ((λ m is. r.distinct id j v u (λ x. other (sym x)) at e m (has ∙ is)), (λ m mine is. r.distinct j id u v other e at m mine (has ∙ is))));
        due = view_set (DueIs s log) vs id w (λ i u _ e. r.due i u e) (λ m is. (cc (is), refl));
      }

  -- the seat whose turn it is ends its tenure
  pub turns_advance : (t s n : ℕ) (log log' : List E) (vs : List (View E)) (id : ℕ) (v w : View E) (m : ℕ) → TurnsRun t s n log vs → IsAt vs id v → v.stage ≡ Due m → w.stage ≡ Idle
      → TurnsRun (t + 1) ((s + 1) % 2 ^ 64) n log' (set vs id w)
  turns_advance t s n log log' vs id v w m r at due idle =
      let has : turn_of v.stage ≡ Some m = ap turn_of due in
      let is_served : m ≡ s = (r.due id v at m due).0 in
      let a = total_set (λ (x : View E). numbers_out x.stage) vs id v w at in
      let b : numbers_out v.stage ≡ 1 = ap numbers_out due in
      let c : numbers_out w.stage ≡ 0 = ap numbers_out idle in
      let count : out (set vs id w) + 1 ≡ out vs = omega arith in
      let none : NoTurn w = idle_none w idle in
      record {
        served_is = ap (λ (x : ℕ). (x + 1) % 2 ^ 64) r.served_is ∙ one_more t;
        next_is = r.next_is ∙ ap (λ (x : ℕ). x % 2 ^ 64) (omega arith);
        run = view_set (Run (t + 1) (out (set vs id w))) vs id w
            (λ i u other e j is. later_turn i u other e j is)
            (λ j is. absurd (none j is));
        distinct = pair_set OneTurn vs id w r.distinct (λ j u _ _. ((λ x is _. none x is), (λ x _ is. none x is)));
        due = view_set (DueIs ((s + 1) % 2 ^ 64) log') vs id w
            (λ i u other e j is. absurd (r.distinct i id u v other e at j (ap turn_of is) (has ∙ ap Some (is_served ∙ sym (r.due i u e j is).0))))
            (not_due ((s + 1) % 2 ^ 64) log' id w none);
      }
    where
      later_turn : (i : ℕ) (u : View E) → i ≢ id → IsAt vs i u → (j : ℕ) → turn_of u.stage ≡ Some j → (k : ℕ) × (k < out (set vs id w)) × (j ≡ (t + 1 + k) % 2 ^ 64)
      later_turn i u other e j is =
          let k = r.run i u e j is in
          let less = k.1 in
          let a = total_set (λ (x : View E). numbers_out x.stage) vs id v w at in
          let b : numbers_out v.stage ≡ 1 = ap numbers_out due in
          let c : numbers_out w.stage ≡ 0 = ap numbers_out idle in
          elim (cases_eq k.0 0) [
            | inl none ↦
                let first : j ≡ m = k.2 ∙ (ap (λ (x : ℕ). x % 2 ^ 64) (omega arith) ∙ (sym r.served_is ∙ sym (r.due id v at m due).0)) in
                absurd (r.distinct i id u v other e at j is (ap turn_of due ∙ ap Some (sym first)))
            | inr more ↦ (k.0 - 1, omega arith, k.2 ∙ ap (λ (x : ℕ). x % 2 ^ 64) (omega arith))
          ]

  -- two seats whose turn it is are one
  pub one_due : (t s n : ℕ) (log : List E) (vs : List (View E)) → TurnsRun t s n log vs → (i j : ℕ) (v w : View E) (k l : ℕ) → IsAt vs i v → IsAt vs j w → v.stage ≡ Due k → w.stage ≡ Due l → i ≡ j
  one_due t s n log vs r i j v w k l at there due due' = elim (cases_eq i j) [
    | inl same ↦ same
    | inr apart ↦
        absurd (r.distinct i j v w apart at there s (ap turn_of due ∙ ap Some (r.due i v at k due).0) (ap turn_of due' ∙ ap Some (r.due j w there l due').0))
  ]
