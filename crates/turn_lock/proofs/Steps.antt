-- Each kind of step keeps the lock's rule.
use Rattle.std.proofs.Common.{◌≡◌, ◌≢◌, ℕ, zero, suc, ◌+◌, ◌%◌, ◌^◌, ◌<◌, ◌≤◌, true, List, [], ◌∷◌, ◌++◌, length, get_or, set, Option, Some, None, refl, sym, ap, ◌∙◌, subst, ⊎_elim, inr, arith, length-set, get_or-set_other, get_or-set_same, length-append}
use mathlib.Core.Option.{some, none, some-injective, some-ne-none}
use mathlib.Core.List.{IsPrefix}
use lib.ListN.{get_elem?}
use lib.Seq.{set-get_or}
use Rattle.std.proofs.lemmas.Bool.{cases_eq, cases_lt}
use Rattle.atomic_table.specs.Table.{State, Me, keeps, takes, gives, stepped, rest, Allows, Splits, Joins, opening}
use Rattle.atomic_table.proofs.Lists.{set_again, set_here, set_else}
use Rattle.turn_lock.specs.declared.view.Stage.{Stage}
use Rattle.turn_lock.specs.declared.view.Stage.TheVariants.{Empty, Filling, Idle, Drawn, Due, Spent}
use Rattle.turn_lock.specs.declared.view.View.{View}
use Rattle.turn_lock.specs.History.{times}
use Rattle.turn_lock.specs.Views.{turn_of, numbers_out, turns_held, is_live, is_open, live_lists, at_stage, first_seat, with_one_less, split_off, just_joined, with_own, spent}
use Rattle.turn_lock.specs.Rule.{IsAt, Live, TurnsRun, Opened, Unopened, Holds, unopened, in_turn, next, served}
use Rattle.turn_lock.specs.Steps.{Draws, Hears, Looks, ComesDue, SawAll, Advances}
use Rattle.turn_lock.proofs.Totals.{total_set, total_kept, total_snoc, total_some, at_once, prefix_self, prefix_snoc, prefix_trans, Each-map, at_below}
use Rattle.turn_lock.proofs.Places.{view_set, idle_lists, idle_members, counted_set, counted_split, counted_join, out_few}
use Rattle.turn_lock.proofs.Turning.{idle_none, turns_set, turns_snoc, turns_draw, turns_look, turns_advance}
use Rattle.turn_lock.proofs.Seeing.{see_set, see_snoc, see_advance, see_join}
use Rattle.turn_lock.proofs.Numbering.{numbers_set, numbers_split, numbers_join}
use Rattle.turn_lock.proofs.Staying.{stay_set, stay_split, stay_join}
use Rattle.turn_lock.proofs.Keeping.{own_where_live, live_members, lists_apart, only_saw, only_covers, lists_set, lists_split, lists_join, lists_advance}

pub turns_held_due : (st : Stage) → 0 < turns_held st → (n : ℕ) × (st ≡ Due n)
turns_held_due Empty h = absurd (omega arith)
turns_held_due Filling h = absurd (omega arith)
turns_held_due Idle h = absurd (omega arith)
turns_held_due (Drawn n) h = absurd (omega arith)
turns_held_due (Due n) h = (n, refl)
turns_held_due Spent h = absurd (omega arith)

pub lone_view : {X : Type 0} (x : X) (i : ℕ) (v : X) → get_elem? (x ∷ []) i ≡ some v → x ≡ v
lone_view x zero v e = some-injective x v e
lone_view x (suc i) v e = absurd (some-ne-none v (sym e))

module _ {E : Type 0} where
  turns_at : (t s s' n n' : ℕ) (log : List E) (vs : List (View E)) → s ≡ s' → n ≡ n' → TurnsRun t s n log vs → TurnsRun t s' n' log vs
  turns_at t s s' n n' log vs e f r = subst (λ (x : ℕ). TurnsRun t s' x log vs) f (subst (λ (x : ℕ). TurnsRun t x n log vs) e r)

  in_turn_set : (vs : List (View E)) (id : ℕ) (v w : View E) → IsAt vs id v → turns_held w.stage ≡ turns_held v.stage → in_turn (set vs id w) ≡ in_turn vs
  in_turn_set vs id v w at same = total_kept (λ (x : View E). turns_held x.stage) vs id v w at same

  -- once the seat whose turn it is has ended its tenure, it is no seat's turn
  none_after : (t s n : ℕ) (log : List E) (vs : List (View E)) (id : ℕ) (v w : View E) (m : ℕ) → TurnsRun t s n log vs → IsAt vs id v → v.stage ≡ Due m → w.stage ≡ Idle → in_turn (set vs id w) ≡ 0
  none_after t s n log vs id v w m r at due idle = ⊎_elim
      (λ (more : 0 < in_turn (set vs id w)).
      let one = total_some (λ (x : View E). turns_held x.stage) (set vs id w) more in
      let d = turns_held_due one.1.stage one.3 in
      absurd (view_set (λ i u. u.stage ≡ Due d.0 → ⊥) vs id w
      (λ i u other e is. r.distinct i id u v other e at d.0 (ap turn_of is) (ap turn_of due ∙ ap Some ((r.due id v at m due).0 ∙ sym (r.due i u e d.0 is).0)))
      (λ is. let clash : Idle ≡ Due d.0 = sym idle ∙ is in cc (clash))
      one.0 one.1 one.2 d.1))
      (λ (less : in_turn (set vs id w) ≤ 0). omega arith)
      (cases_lt 0 (in_turn (set vs id w)))

module _ {T E : Type 0} (stands_for : T → List E → Type 0) (seat_of : E → Option ℕ) (seats : ℕ) where
  abbrev pub Rule : State (Option T) (View E) → Type 0
  Rule = Holds stands_for seat_of seats

  -- a lock with a seat that is past the opening has its value
  pub opened_from : (s : State (Option T) (View E)) (id : ℕ) (v : View E) → Rule s → IsAt s.views id v → is_open v.stage ≡ true → Opened stands_for seat_of seats s
  opened_from s id v h at past = ⊎_elim
      (λ (u : Unopened seats s). ⊎_elim
      (λ (e : s ≡ opening (0 ∷ 0 ∷ []) (None ∷ []) (unopened seats)).
      let same : unopened seats ≡ v = lone_view (unopened seats) id v (subst (λ (t : State (Option T) (View E)). IsAt t.views id v) e at) in
      absurd (cc (ap (λ (x : View E). is_open x.stage) same ∙ past)))
      (λ (e : s ≡ record { words = 0 ∷ 0 ∷ []; homes = none ∷ []; views = first_seat seats Filling [] ∷ [] }).
      let same : first_seat seats Filling [] ≡ v = lone_view (first_seat seats Filling []) id v (subst (λ (t : State (Option T) (View E)). IsAt t.views id v) e at) in
      absurd (cc (ap (λ (x : View E). is_open x.stage) same ∙ past)))
      u)
      (λ (o : Opened stands_for seat_of seats s). o)
      h

  -- a step that changes nothing
  unchanged : (s : State (Option T) (View E)) (i id : ℕ) (v : View E) (c : List (ℕ × Option T)) → Rule s → IsAt s.views id v → Rule (stepped s i (get_or s.words i 0) id c v keeps)
  unchanged s i id v c h at = subst
      (λ (x : List ℕ × List (View E)). Rule record { words = x.0; homes = s.homes; views = x.1 })
      (λ k. (sym (set-get_or s.words i 0) k, sym (set_again s.views id v at) k))
      h

  pub draws : (slots id : ℕ) (v : View E) (c : List (ℕ × Option T)) → v.stage ≡ Idle
      → Allows Rule slots id (v, c) 0 (λ n. (n + 1) % 2 ^ 64) (Draws (v, c))
  draws slots id v c idle s h len at fits =
      let o = opened_from s id v h at (ap is_open idle) in
      let w : View E = at_stage (Drawn (next s)) v in
      let live : Live v = ap is_live idle in
      let two = o.two_words in
      let lists : (n : ℕ) → times n (live_lists w) ≡ times n (live_lists v) = λ n. sym (ap (times n) (idle_lists v idle)) in (
        w,
        keeps,
        tt,
        inr record {
          first = o.first;
          later = o.later;
          two_words = length-set s.words 0 ((next s + 1) % 2 ^ 64) ∙ o.two_words;
          counted = counted_set seats s.views id v w o.counted at (sym (idle_members v idle)) refl live;
          turns = turns_at (length o.later) (served s) (get_or (set s.words 0 ((next s + 1) % 2 ^ 64)) 1 0) ((next s + 1) % 2 ^ 64) (get_or (set s.words 0 ((next s + 1) % 2 ^ 64)) 0 0) (o.first ∷ o.later) (set s.views id w)
              (sym (get_or-set_other s.words 0 1 ((next s + 1) % 2 ^ 64) 0 (λ e. omega arith)))
              (sym (get_or-set_same s.words 0 ((next s + 1) % 2 ^ 64) 0 (omega arith)))
              (turns_draw (length o.later) (served s) (next s) (o.first ∷ o.later) s.views id v o.turns (out_few seats s.views o.counted) at idle);
          at_rest = λ none'. o.at_rest (sym (in_turn_set s.views id v w at (sym (ap turns_held idle))) ∙ none');
          at_turn = λ more. let e = in_turn_set s.views id v w at (sym (ap turns_held idle)) in o.at_turn (omega arith);
          all_see = see_set (o.first ∷ o.later) s.views id v w o.all_see at refl (λ _. o.all_see.begins id v at live) (λ _. o.all_see.heard id v at live) (λ e. (refl, e));
          numbers = numbers_set s.views id v w o.numbers at live lists (o.numbers.stride id v at live) (λ k. (k, refl));
          stay = stay_set s.views id v w o.stay at (sym (ap length (idle_lists v idle)));
          lists = lists_set seat_of o.first o.later s.views id v w o.lists at live (λ n. total_kept (λ (x : View E). times n (live_lists x)) s.views id v w at (lists n)) refl;
        },
        refl,
      )

  pub splits : (id : ℕ) (v : View E) → v.stage ≡ Idle → 0 < v.spare → Splits Rule id v (with_one_less v) (split_off v)
  splits id v idle more s h at =
      let o = opened_from s id v h at (ap is_open idle) in
      let left : View E = with_one_less v in
      let right : View E = split_off v in
      let live : Live v = ap is_live idle in
      let begins = o.all_see.begins id v at live in
      inr record {
        first = o.first;
        later = o.later;
        two_words = o.two_words;
        counted = counted_split seats s.views id v o.counted at idle more;
        turns = turns_snoc (length o.later) (served s) (next s) (o.first ∷ o.later) (set s.views id left) right
            (turns_set (length o.later) (served s) (next s) (o.first ∷ o.later) s.views id v left o.turns at refl (idle_none left idle)) refl (idle_none right refl);
        at_rest = λ none'.
            let a = total_snoc (λ (x : View E). turns_held x.stage) (set s.views id left) right in
            let b = in_turn_set s.views id v left at refl in
            o.at_rest (omega arith);
        at_turn = λ more.
            let a = total_snoc (λ (x : View E). turns_held x.stage) (set s.views id left) right in
            let b = in_turn_set s.views id v left at refl in
            o.at_turn (omega arith);
        all_see = see_snoc (o.first ∷ o.later) (set s.views id left) right
            (see_set (o.first ∷ o.later) s.views id v left o.all_see at (ap is_open idle) (λ _. begins) (λ _. o.all_see.heard id v at live) (λ e. (live, e))) refl begins tt;
        numbers = numbers_split s.views id v o.numbers at idle;
        stay = stay_split s.views id v o.stay at;
        lists = lists_split seat_of o.first o.later s.views id v o.lists o.numbers at idle;
      }

  pub joins : (id other : ℕ) (v w : View E) → v.stage ≡ Idle → w.stage ≡ Idle → Joins Rule id v other w (just_joined v w) spent
  joins id other v w idle idle' s h at apart there' =
      let o = opened_from s id v h at (ap is_open idle) in
      let both : View E = just_joined v w in
      let there : IsAt s.views other w = sym (set_else s.views id other both apart) ∙ there' in
      inr record {
        first = o.first;
        later = o.later;
        two_words = o.two_words;
        counted = counted_join seats s.views id other v w o.counted at idle idle' there';
        turns = turns_set (length o.later) (served s) (next s) (o.first ∷ o.later) (set s.views id both) other w spent
            (turns_set (length o.later) (served s) (next s) (o.first ∷ o.later) s.views id v both o.turns at refl (idle_none both idle))
            there' (sym (ap numbers_out idle')) (λ n e. absurd (cc (e)));
        at_rest = λ none'.
            let a = in_turn_set (set s.views id both) other w spent there' (sym (ap turns_held idle')) in
            let b = in_turn_set s.views id v both at refl in
            o.at_rest (omega arith);
        at_turn = λ more.
            let a = in_turn_set (set s.views id both) other w spent there' (sym (ap turns_held idle')) in
            let b = in_turn_set s.views id v both at refl in
            o.at_turn (omega arith);
        all_see = see_join (o.first ∷ o.later) s.views id other v w o.all_see at idle there idle' apart;
        numbers = numbers_join s.views id other v w o.numbers at idle idle' there';
        stay = stay_join s.views id other v w o.stay at idle idle' there';
        lists = lists_join seat_of o.first o.later s.views id other v w o.lists at idle there idle' there';
      }

  -- the seat that stays looks after a join
  pub hears : (slots id : ℕ) (me : Me (Option T) (View E)) → me.0.stage ≡ Idle → Allows Rule slots id me 1 (λ n. n) (Hears me)
  hears slots id me idle s h len at fits =
      let v : View E = me.0 in
      let o = opened_from s id v h at (ap is_open idle) in
      let w : View E = record v { heard = [] } in
      let live : Live v = ap is_live idle in (
        w,
        keeps,
        tt,
        subst (λ (ws : List ℕ). Rule record { words = ws; homes = s.homes; views = set s.views id w }) (sym (set-get_or s.words 1 0)) (inr record {
          first = o.first;
          later = o.later;
          two_words = o.two_words;
          counted = counted_set seats s.views id v w o.counted at refl refl live;
          turns = turns_set (length o.later) (served s) (next s) (o.first ∷ o.later) s.views id v w o.turns at refl (idle_none w idle);
          at_rest = λ none'. o.at_rest (sym (in_turn_set s.views id v w at refl) ∙ none');
          at_turn = λ more. let e = in_turn_set s.views id v w at refl in o.at_turn (omega arith);
          all_see = see_set (o.first ∷ o.later) s.views id v w o.all_see at (ap is_open idle) (λ _. o.all_see.begins id v at live) (λ _. tt) (λ e. (live, e));
          numbers = numbers_set s.views id v w o.numbers at live (λ n. refl) (o.numbers.stride id v at live) (λ k. (k, refl));
          stay = stay_set s.views id v w o.stay at refl;
          lists = lists_set seat_of o.first o.later s.views id v w o.lists at live (λ n. total_kept (λ (x : View E). times n (live_lists x)) s.views id v w at refl) refl;
        }),
        (refl, o.all_see.heard id v at live, lists_apart s.views id v o.numbers at live),
      )

  -- when the number that is served is a seat's, no seat has its turn
  none_due : (s : State (Option T) (View E)) (o : Opened stands_for seat_of seats s) (id : ℕ) (v : View E) → IsAt s.views id v → v.stage ≡ Drawn (served s) → in_turn s.views ≡ 0
  none_due s o id v at drawn = ⊎_elim
      (λ (more : 0 < in_turn s.views).
      let t = total_some (λ (x : View E). turns_held x.stage) s.views more in
      let d = turns_held_due t.1.stage t.3 in
      let is_served = (o.turns.due t.0 t.1 t.2 d.0 d.1).0 in
      absurd (⊎_elim
      (λ (same : t.0 ≡ id).
      let one : t.1 ≡ v = at_once s.views id t.1 v (subst (λ (i : ℕ). IsAt s.views i t.1) same t.2) at in
      let clash : Due d.0 ≡ Drawn (served s) = sym d.1 ∙ (ap (λ (x : View E). x.stage) one ∙ drawn) in cc (clash))
      (λ (other : t.0 ≢ id). o.turns.distinct t.0 id t.1 v other t.2 at (served s) (ap turn_of d.1 ∙ ap Some is_served) (ap turn_of drawn))
      (cases_eq t.0 id)))
      (λ (less : in_turn s.views ≤ 0). omega arith)
      (cases_lt 0 (in_turn s.views))

  saw_all : (s : State (Option T) (View E)) (o : Opened stands_for seat_of seats s) (id : ℕ) (v : View E) → IsAt s.views id v → Live v → SawAll seat_of v (o.first ∷ o.later)
  saw_all s o id v at live = record {
    more = o.all_see.begins id v at live;
    own = o.lists.own id v at live;
    apart = lists_apart s.views id v o.numbers at live;
    alone = λ full. (sym (only_saw seats (o.first ∷ o.later) s.views id v o.counted o.all_see at live full), only_covers seat_of seats o.first o.later s.views id v o.counted o.lists at live full);
  }

  -- the number that is served is the seat's
  looks_due : (id : ℕ) (v : View E) (s : State (Option T) (View E)) → Rule s → IsAt s.views id v → v.stage ≡ Drawn (served s)
      → (w : View E) × (x : T) × (get_elem? s.homes 0 ≡ some (some (Some x))) × Rule (stepped s 1 (served s) id [] w (takes 0 (Some x))) × ComesDue stands_for seat_of (served s) v (w, (0, Some x) ∷ [])
  looks_due id v s h at drawn =
      let o = opened_from s id v h at (ap is_open drawn) in
      let log : List E = o.first ∷ o.later in
      let w : View E = record v { stage = Due (served s); seen = log } in
      let live : Live v = ap is_live drawn in
      let rest = o.at_rest (none_due s o id v at drawn) in
      let lists : (n : ℕ) → times n (live_lists w) ≡ times n (live_lists v) = λ n. sym (ap (times n) (own_where_live v live)) in
      let words : set s.words 1 (served s) ≡ s.words = set-get_or s.words 1 0 in (
        w,
        rest.0,
        rest.1,
        subst (λ (ws : List ℕ). Rule record { words = ws; homes = set s.homes 0 none; views = set s.views id w }) (sym words) (inr record {
          first = o.first;
          later = o.later;
          two_words = o.two_words;
          counted = counted_set seats s.views id v w o.counted at (sym (live_members v live)) refl live;
          turns = turns_look (length o.later) (served s) (next s) log s.views id v o.turns at drawn;
          at_rest = λ none'. let a = total_set (λ (x : View E). turns_held x.stage) s.views id v w at in let b : turns_held v.stage ≡ 0 = ap turns_held drawn in absurd (omega arith);
          at_turn = λ _. set_here s.homes 0 none (at_below s.homes 0 (some (Some rest.0)) rest.1);
          all_see = see_set log s.views id v w o.all_see at refl (λ _. prefix_self log)
              (λ _. Each-map (λ l. IsPrefix l v.seen) (λ l. IsPrefix l log) (λ l p. prefix_trans l v.seen log p (o.all_see.begins id v at live)) v.heard (o.all_see.heard id v at live)) (λ e. (refl, refl));
          numbers = numbers_set s.views id v w o.numbers at live lists (o.numbers.stride id v at live) (λ k. (k, refl));
          stay = stay_set s.views id v w o.stay at (sym (ap length (own_where_live v live)));
          lists = lists_set seat_of o.first o.later s.views id v w o.lists at live (λ n. total_kept (λ (x : View E). times n (live_lists x)) s.views id v w at (lists n)) refl;
        }),
        (rest.0, refl, rest.2, refl, saw_all s o id v at live),
      )

  pub looks : (slots id : ℕ) (v : View E) (n : ℕ) → v.stage ≡ Drawn n → Allows Rule slots id (v, []) 1 (λ m. m) (Looks stands_for seat_of (v, []))
  looks slots id v n drawn s h len at fits = ⊎_elim
      (λ (same : served s ≡ n).
      let d = looks_due id v s h at (drawn ∙ ap Drawn (sym same)) in (
        d.0,
        takes 0 (Some d.1),
        d.2,
        d.3,
        λ m is.
            let number : n ≡ m = cc (drawn, is) in
            ((λ other. absurd (other (same ∙ number))), (λ e. subst (λ (k : ℕ). ComesDue stands_for seat_of k v (d.0, (0, Some d.1) ∷ [])) e d.4)),
      ))
      (λ (other : served s ≢ n). (
        v,
        keeps,
        tt,
        unchanged s 1 id v [] h at,
        λ m is.
            let number : n ≡ m = cc (drawn, is) in
            ((λ _. refl), (λ e. absurd (other (e ∙ sym number)))),
      ))
      (cases_eq (served s) n)

  pub advances : (slots id : ℕ) (v : View E) (m : ℕ) (x : T) (e : E) → slots ≡ 1 → v.stage ≡ Due m → seat_of e ≡ Some v.number → stands_for x (v.seen ++ e ∷ [])
      → Allows Rule slots id (v, (0, Some x) ∷ []) 1 (λ n. (n + 1) % 2 ^ 64) (Advances (e ∷ []) (v, (0, Some x) ∷ []))
  advances slots id v m x e one due names stands s h len at fits =
      let o = opened_from s id v h at (ap is_open due) in
      let log : List E = o.first ∷ o.later in
      let w : View E = with_own (e ∷ []) v in
      let live : Live v = ap is_live due in
      let two = o.two_words in
      let seen : v.seen ≡ log = (o.turns.due id v at m due).1 in
      let lists : (n : ℕ) → times n (live_lists w) ≡ times n (live_lists v) = λ n. sym (ap (times n) (own_where_live v live)) in
      let longer : length (o.later ++ e ∷ []) ≡ length o.later + 1 = length-append o.later (e ∷ []) in
      let after : ℕ = (served s + 1) % 2 ^ 64 in (
        w,
        gives,
        tt,
        inr record {
          first = o.first;
          later = o.later ++ e ∷ [];
          two_words = length-set s.words 1 after ∙ o.two_words;
          counted = counted_set seats s.views id v w o.counted at (sym (live_members v live)) refl live;
          turns = subst (λ (t : ℕ). TurnsRun t (get_or (set s.words 1 after) 1 0) (get_or (set s.words 1 after) 0 0) (log ++ e ∷ []) (set s.views id w)) (sym longer)
              (turns_at (length o.later + 1) after (get_or (set s.words 1 after) 1 0) (next s) (get_or (set s.words 1 after) 0 0) (log ++ e ∷ []) (set s.views id w)
              (sym (get_or-set_same s.words 1 after 0 (omega arith)))
              (sym (get_or-set_other s.words 1 0 after 0 (λ z. omega arith)))
              (turns_advance (length o.later) (served s) (next s) log (log ++ e ∷ []) s.views id v w m o.turns at due refl));
          at_rest = λ none'. (x, set_here s.homes 0 (some (Some x)) (omega arith), subst (λ (l : List E). stands_for x (l ++ e ∷ [])) seen stands);
          at_turn = λ more. let ended = none_after (length o.later) (served s) (next s) log s.views id v w m o.turns at due refl in absurd (omega arith);
          all_see = see_advance log e s.views id v w o.all_see at refl refl (ap (λ (l : List E). l ++ e ∷ []) seen)
              (Each-map (λ l. IsPrefix l v.seen) (λ l. IsPrefix l (v.seen ++ e ∷ [])) (λ l p. prefix_snoc l v.seen e p) v.heard (o.all_see.heard id v at live));
          numbers = numbers_set s.views id v w o.numbers at live lists (o.numbers.stride id v at live) (λ k. (k, refl));
          stay = stay_set s.views id v w o.stay at (sym (ap length (own_where_live v live)));
          lists = lists_advance seat_of o.first o.later e s.views id v o.lists o.numbers at live names;
        },
        refl,
      )

  -- the same at a seat that is known by equations
  pub draws_at : (slots id : ℕ) (me : Me (Option T) (View E)) → me.0.stage ≡ Idle → Allows Rule slots id me 0 (λ n. (n + 1) % 2 ^ 64) (Draws me)
  draws_at slots id me idle = draws slots id me.0 me.1 idle

  pub looks_at : (slots id : ℕ) (me : Me (Option T) (View E)) (n : ℕ) → me.0.stage ≡ Drawn n → me.1 ≡ [] → Allows Rule slots id me 1 (λ m. m) (Looks stands_for seat_of me)
  looks_at slots id me n drawn empty = subst (λ (c : List (ℕ × Option T)). Allows Rule slots id (me.0, c) 1 (λ m. m) (Looks stands_for seat_of (me.0, c))) (sym empty) (looks slots id me.0 n drawn)

  pub advances_at : (slots id : ℕ) (me : Me (Option T) (View E)) (m : ℕ) (x : T) (e : E) (added : List E) → slots ≡ 1 → me.0.stage ≡ Due m → me.1 ≡ (0, Some x) ∷ [] → added ≡ e ∷ []
      → seat_of e ≡ Some me.0.number → stands_for x (me.0.seen ++ e ∷ []) → Allows Rule slots id me 1 (λ n. (n + 1) % 2 ^ 64) (Advances added me)
  advances_at slots id me m x e added one due holds is names stands = subst
      (λ (y : List (ℕ × Option T) × List E). Allows Rule slots id (me.0, y.0) 1 (λ n. (n + 1) % 2 ^ 64) (Advances y.1 (me.0, y.0)))
      (λ k. (sym holds k, sym is k))
      (advances slots id me.0 m x e one due names stands)

  -- once the slot was exchanged for the value
  pub advances_from : (slots id : ℕ) (before after : Me (Option T) (View E)) (m : ℕ) (x : T) (e : E) (added : List E) → slots ≡ 1 → before.0.stage ≡ Due m → before.1 ≡ (0, None) ∷ [] → after ≡ (before.0, (0, Some x) ∷ rest before.1)
      → added ≡ e ∷ [] → seat_of e ≡ Some before.0.number → stands_for x (before.0.seen ++ e ∷ []) → Allows Rule slots id after 1 (λ n. (n + 1) % 2 ^ 64) (Advances added after)
  advances_from slots id before after m x e added one due holds put is names stands =
      let all : after ≡ (before.0, (0, Some x) ∷ []) = put ∙ ap (λ (c : List (ℕ × Option T)). (before.0, (0, Some x) ∷ rest c)) holds in
      subst (λ (y : Me (Option T) (View E)). Allows Rule slots id y 1 (λ n. (n + 1) % 2 ^ 64) (Advances added y)) (sym all)
      (advances_at slots id (before.0, (0, Some x) ∷ []) m x e added one due refl is names stands)

  -- after these steps the seat is as `give` says
  pub advanced : (before after last : Me (Option T) (View E)) (x : T) (added : List E) → after ≡ (before.0, (0, Some x) ∷ rest before.1) → Advances added after 0 last → last ≡ (with_own added before.0, [])
  advanced before after last x added put end = end ∙ ap (λ (y : Me (Option T) (View E)). (with_own added y.0, [])) put

  -- what a look tells a seat whose number is served
  pub came_due : (me after : Me (Option T) (View E)) (first : View E) (mine found : ℕ) → me.0 ≡ first → first.stage ≡ Drawn mine → Looks stands_for seat_of me found after → found ≡ mine → ComesDue stands_for seat_of mine first after
  came_due me after first mine found is drawn told same =
      subst (λ (v : View E). ComesDue stands_for seat_of mine v after) is ((told mine (ap (λ (v : View E). v.stage) is ∙ drawn)).1 same)

  pub missed : (me after : Me (Option T) (View E)) (mine found : ℕ) → me.0.stage ≡ Drawn mine → Looks stands_for seat_of me found after → found ≢ mine → after ≡ me
  missed me after mine found drawn told other = (told mine drawn).0 other
