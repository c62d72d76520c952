-- Each step keeps the own lists as the rule wants them, and what the last seat knows.
use Rattle.std.proofs.Common.{◌≡◌, ◌≢◌, ℕ, ◌+◌, ◌==◌, ◌<◌, ◌≤◌, Bool, true, false, cond, List, [], ◌∷◌, ◌++◌, set, Option, Some, None, refl, sym, ap, ◌∙◌, subst, inl, inr, arith}
use Rattle.std.proofs.lemmas.Bool.{cases_eq, eq-eqb, ne_eqb}
use Rattle.std.proofs.lemmas.List.Elements.{filter-append}
use Rattle.std.proofs.lemmas.List.{append-nil}
use Rattle.turn_lock.specs.declared.view.Stage.{Stage}
use Rattle.turn_lock.specs.declared.view.Stage.TheVariants.{Empty, Filling, Idle, Drawn, Due, Spent}
use Rattle.turn_lock.specs.declared.view.View.{View}
use Rattle.turn_lock.specs.History.{times, Each, is_number, entries_of, AreOwn, AreApart, Covers}
use Rattle.turn_lock.specs.Views.{is_live, if_live, own_lists, live_lists, members, with_one_less, split_off, just_joined, with_own, spent}
use Rattle.turn_lock.specs.Rule.{IsAt, Live, Counted, AllSee, NumbersApart, ListsKept, kept_for}
use Rattle.turn_lock.proofs.Totals.{total_has, total_kept, total_snoc, total_two, total_some, at_once, Each-map, Each-snoc, Each-append}
use Rattle.turn_lock.proofs.Numbers.{first_number}
use Rattle.turn_lock.proofs.Places.{view_set, view_snoc}
use Rattle.turn_lock.proofs.Numbering.{kept_join}

live_is : {X : Type 0} (st : Stage) (x y : X) → is_live st ≡ true → if_live st x y ≡ x
live_is Empty x y e = refl
live_is Filling x y e = refl
live_is Idle x y e = refl
live_is (Drawn n) x y e = refl
live_is (Due n) x y e = refl
live_is Spent x y e = absurd (cc (e))

module _ {E : Type 0} where
  pub own_where_live : (v : View E) → Live v → live_lists v ≡ own_lists v
  own_where_live v live = live_is v.stage (own_lists v) [] live

  pub live_members : (v : View E) → Live v → members v ≡ v.spare + 1
  live_members v live = live_is v.stage (v.spare + 1) 0 live

  -- the lists that one seat keeps are of different seats
  pub lists_apart : (vs : List (View E)) (id : ℕ) (v : View E) → NumbersApart vs → IsAt vs id v → Live v → AreApart (own_lists v)
  lists_apart vs id v a at live n =
      let has = total_has (λ (x : View E). times n (live_lists x)) vs id v at in
      let once = a.once n in
      let lists : times n (live_lists v) ≡ times n (own_lists v) = ap (times n) (own_where_live v live) in
      omega arith

  spent_lists : (st : Stage) (ps : List (ℕ × List E)) (n : ℕ) → 0 < times n (if_live st ps []) → is_live st ≡ true
  spent_lists Empty ps n h = refl
  spent_lists Filling ps n h = refl
  spent_lists Idle ps n h = refl
  spent_lists (Drawn m) ps n h = refl
  spent_lists (Due m) ps n h = refl
  spent_lists Spent ps n h = absurd (omega arith)

  -- a seat to which all others were joined is the only one
  pub only_seat : (seats : ℕ) (vs : List (View E)) (id : ℕ) (v : View E) → Counted seats vs → IsAt vs id v → Live v → v.spare + 1 ≡ v.seats → (j : ℕ) (u : View E) → IsAt vs j u → Live u → j ≡ id
  only_seat seats vs id v c at live full j u there alive = elim (cases_eq j id) [
    | inl same ↦ same
    | inr apart ↦
        let two = total_two members vs id j v u (λ e. apart (sym e)) at there in
        let a = live_members v live in
        let b = live_members u alive in
        let d = c.in_all in
        let k : v.seats ≡ seats = c.known id v at live in
        absurd (omega arith)
  ]

  pub only_view : (seats : ℕ) (vs : List (View E)) (id : ℕ) (v : View E) → Counted seats vs → IsAt vs id v → Live v → v.spare + 1 ≡ v.seats → (j : ℕ) (u : View E) → IsAt vs j u → Live u → u ≡ v
  only_view seats vs id v c at live full j u there alive = at_once vs id u v (subst (λ (i : ℕ). IsAt vs i u) (only_seat seats vs id v c at live full j u there alive) there) at

  pub only_saw : (seats : ℕ) (log : List E) (vs : List (View E)) (id : ℕ) (v : View E) → Counted seats vs → AllSee log vs → IsAt vs id v → Live v → v.spare + 1 ≡ v.seats → v.seen ≡ log
  only_saw seats log vs id v c a at live full =
      let o = a.one_saw_all in
      sym (ap (λ (u : View E). u.seen) (only_view seats vs id v c at live full o.0 o.1 o.2 o.3)) ∙ o.4

module _ {E : Type 0} (seat_of : E → Option ℕ) where
  abbrev pub Named : (ℕ → ℕ) → E → Type 0
  Named f e = (n : ℕ) × (seat_of e ≡ Some n) × (0 < f n)

  entries_skip : (m : ℕ) (e : E) (es : List E) → is_number m (seat_of e) ≡ false → entries_of seat_of m (e ∷ es) ≡ entries_of seat_of m es
  entries_skip m e es is = ap (λ (b : Bool). cond b (e ∷ entries_of seat_of m es) (entries_of seat_of m es)) is

  entries_take : (m : ℕ) (e : E) (es : List E) → is_number m (seat_of e) ≡ true → entries_of seat_of m (e ∷ es) ≡ e ∷ entries_of seat_of m es
  entries_take m e es is = ap (λ (b : Bool). cond b (e ∷ entries_of seat_of m es) (entries_of seat_of m es)) is

  -- a number for which no list is kept has no entry
  entries_none : (m : ℕ) (f : ℕ → ℕ) (later : List E) → Each (Named f) later → f m ≡ 0 → entries_of seat_of m later ≡ []
  entries_none m f [] all zero' = refl
  entries_none m f (e ∷ es) all zero' =
      let named = all.0 in
      let other : named.0 ≢ m = λ same. let more = named.2 in let z : f named.0 ≡ 0 = ap f same ∙ zero' in omega arith in
      entries_skip m e es (ap (is_number m) named.1 ∙ ne_eqb named.0 m other) ∙ entries_none m f es all.1 zero'

  entries_of_new : (m : ℕ) (f : ℕ → ℕ) (first : E) (later : List E) → seat_of first ≡ None → Each (Named f) later → f m ≡ 0 → entries_of seat_of m (first ∷ later) ≡ []
  entries_of_new m f first later opening all zero' = entries_skip m first later (ap (is_number m) opening) ∙ entries_none m f later all zero'

  entries_more : (m : ℕ) (log : List E) (e : E) → seat_of e ≡ Some m → entries_of seat_of m (log ++ e ∷ []) ≡ entries_of seat_of m log ++ e ∷ []
  entries_more m log e is = filter-append (λ x. is_number m (seat_of x)) log (e ∷ []) ∙ ap (λ (l : List E). entries_of seat_of m log ++ l) (entries_take m e [] (ap (is_number m) is ∙ eq-eqb m m refl))

  entries_other : (m n : ℕ) (log : List E) (e : E) → seat_of e ≡ Some m → m ≢ n → entries_of seat_of n (log ++ e ∷ []) ≡ entries_of seat_of n log
  entries_other m n log e is other =
      filter-append (λ x. is_number n (seat_of x)) log (e ∷ [])
      ∙ (ap (λ (l : List E). entries_of seat_of n log ++ l) (entries_skip n e [] (ap (is_number n) is ∙ ne_eqb m n other)) ∙ append-nil (entries_of seat_of n log))

  -- an entry of another seat leaves the lists own
  own_others : (m : ℕ) (log : List E) (e : E) (ps : List (ℕ × List E)) → seat_of e ≡ Some m → times m ps ≡ 0 → AreOwn seat_of log ps → AreOwn seat_of (log ++ e ∷ []) ps
  own_others m log e [] is zero' own = tt
  own_others m log e (p ∷ ps) is zero' own = elim (cases_eq p.0 m) [
    | inl same ↦ let one : 0 + cond (p.0 == m) 1 0 ≡ 0 + 1 = ap (λ (b : Bool). 0 + cond b 1 0) (eq-eqb p.0 m same) in absurd (omega arith)
    | inr other ↦ (own.0 ∙ sym (entries_other m p.0 log e is (λ x. other (sym x))), own_others m log e ps is (omega arith) own.1)
  ]

  named_map : (f g : ℕ → ℕ) → ((n : ℕ) → g n ≡ f n) → (later : List E) → Each (Named f) later → Each (Named g) later
  named_map f g same later all = Each-map (Named f) (Named g) (λ e h. let more = h.2 in let s = same h.0 in (h.0, h.1, omega arith)) later all

  -- a seat changes that keeps the same lists
  pub lists_set : (first : E) (later : List E) (vs : List (View E)) (id : ℕ) (v w : View E) → ListsKept seat_of first later vs → IsAt vs id v → Live v
      → ((n : ℕ) → kept_for n (set vs id w) ≡ kept_for n vs) → own_lists w ≡ own_lists v → ListsKept seat_of first later (set vs id w)
  lists_set first later vs id v w l at live count same = record {
    opening = l.opening;
    own = view_set (λ i u. Live u → AreOwn seat_of (first ∷ later) (own_lists u)) vs id w (λ i u _ e. l.own i u e) (λ _. subst (AreOwn seat_of (first ∷ later)) (sym same) (l.own id v at live));
    all_kept = named_map (λ n. kept_for n vs) (λ n. kept_for n (set vs id w)) count later l.all_kept;
  }

  pub lists_split : (first : E) (later : List E) (vs : List (View E)) (id : ℕ) (v : View E) → ListsKept seat_of first later vs → NumbersApart vs → IsAt vs id v → v.stage ≡ Idle
      → ListsKept seat_of first later (set vs id (with_one_less v) ++ split_off v ∷ [])
  lists_split first later vs id v l a at idle =
      let live : Live v = ap is_live idle in
      let left : View E = with_one_less v in
      let right : View E = split_off v in
      let count : (n : ℕ) → kept_for n (set vs id left) ≡ kept_for n vs = λ n. total_kept (λ (x : View E). times n (live_lists x)) vs id v left at refl in
      let more : (n : ℕ) → kept_for n vs ≤ kept_for n (set vs id left ++ right ∷ []) = λ n.
      let c = count n in let s = total_snoc (λ (x : View E). times n (live_lists x)) (set vs id left) right in omega arith in
      let fresh : kept_for right.number vs ≡ 0 = ap (λ (n : ℕ). kept_for n vs) (first_number v.number v.stride) ∙ a.not_made id v at live 0 in
      record {
        opening = l.opening;
        own = view_snoc (λ i u. Live u → AreOwn seat_of (first ∷ later) (own_lists u)) (set vs id left) right
            (view_set (λ i u. Live u → AreOwn seat_of (first ∷ later) (own_lists u)) vs id left (λ i u _ e. l.own i u e) (λ _. l.own id v at live))
            (λ _. (sym (entries_of_new right.number (λ n. kept_for n vs) first later l.opening l.all_kept fresh), tt));
        all_kept = Each-map (Named (λ n. kept_for n vs)) (Named (λ n. kept_for n (set vs id left ++ right ∷ []))) (λ e h. let some' = h.2 in let m = more h.0 in (h.0, h.1, omega arith)) later l.all_kept;
      }

  pub lists_join : (first : E) (later : List E) (vs : List (View E)) (id other : ℕ) (v w : View E) → ListsKept seat_of first later vs → IsAt vs id v → v.stage ≡ Idle → IsAt vs other w → w.stage ≡ Idle
      → IsAt (set vs id (just_joined v w)) other w → ListsKept seat_of first later (set (set vs id (just_joined v w)) other spent)
  lists_join first later vs id other v w l at idle there idle' there' =
      let both : View E = just_joined v w in
      let mine = l.own id v at (ap is_live idle) in
      let theirs = l.own other w there (ap is_live idle') in
      record {
        opening = l.opening;
        own = view_set (λ i u. Live u → AreOwn seat_of (first ∷ later) (own_lists u)) (set vs id both) other spent
            (λ i u _ e. view_set (λ i u. Live u → AreOwn seat_of (first ∷ later) (own_lists u)) vs id both
            (λ j x _ f. l.own j x f)
            (λ _. (mine.0, Each-append (λ p. p.1 ≡ entries_of seat_of p.0 (first ∷ later)) v.joined (own_lists w) mine.1 theirs)) i u e)
            (λ live. absurd (cc (live)));
        all_kept = named_map (λ n. kept_for n vs) (λ n. kept_for n (set (set vs id both) other spent)) (λ n. kept_join n vs id other v w at idle idle' there') later l.all_kept;
      }

  pub lists_advance : (first : E) (later : List E) (e : E) (vs : List (View E)) (id : ℕ) (v : View E) → ListsKept seat_of first later vs → NumbersApart vs → IsAt vs id v → Live v → seat_of e ≡ Some v.number
      → ListsKept seat_of first (later ++ e ∷ []) (set vs id (with_own (e ∷ []) v))
  lists_advance first later e vs id v l a at live is =
      let w : View E = with_own (e ∷ []) v in
      let m : ℕ = v.number in
      let here : times m (own_lists v) ≡ 1 + times m v.joined = ap (λ (b : Bool). cond b 1 0 + times m v.joined) (eq-eqb m m refl) in
      let lists : times m (live_lists v) ≡ times m (own_lists v) = ap (times m) (own_where_live v live) in
      let once = a.once m in
      let has = total_has (λ (x : View E). times m (live_lists x)) vs id v at in
      let count : (n : ℕ) → kept_for n (set vs id w) ≡ kept_for n vs = λ n. total_kept (λ (x : View E). times n (live_lists x)) vs id v w at (sym (ap (times n) (own_where_live v live))) in
      let mine = l.own id v at live in
      let c = count m in
      record {
        opening = l.opening;
        own = view_set (λ i u. Live u → AreOwn seat_of (first ∷ (later ++ e ∷ [])) (own_lists u)) vs id w
            (λ j u other there alive.
            let two = total_two (λ (x : View E). times m (live_lists x)) vs id j v u (λ x. other (sym x)) at there in
            let theirs : times m (live_lists u) ≡ times m (own_lists u) = ap (times m) (own_where_live u alive) in
            own_others m (first ∷ later) e (own_lists u) is (omega arith) (l.own j u there alive))
            (λ _. (
              ap (λ (x : List E). x ++ e ∷ []) mine.0 ∙ sym (entries_more m (first ∷ later) e is),
              own_others m (first ∷ later) e v.joined is (omega arith) mine.1,
            ));
        all_kept = Each-snoc (Named (λ n. kept_for n (set vs id w))) later e
            (named_map (λ n. kept_for n vs) (λ n. kept_for n (set vs id w)) count later l.all_kept)
            (m, is, omega arith);
      }

  -- the seat to which all others were joined keeps a list for each entry
  pub only_covers : (seats : ℕ) (first : E) (later : List E) (vs : List (View E)) (id : ℕ) (v : View E) → Counted seats vs → ListsKept seat_of first later vs → IsAt vs id v → Live v → v.spare + 1 ≡ v.seats
      → Covers seat_of (own_lists v) (first ∷ later)
  only_covers seats first later vs id v c l at live full = Each-map (Named (λ n. kept_for n vs)) (Named (λ n. times n (own_lists v))) (λ e h.
      let t = total_some (λ (x : View E). times h.0 (live_lists x)) vs h.2 in
      let alive : Live t.1 = spent_lists t.1.stage (own_lists t.1) h.0 t.3 in
      let same = only_view seats vs id v c at live full t.0 t.1 t.2 alive in
      let lists : times h.0 (live_lists t.1) ≡ times h.0 (own_lists v) = ap (λ (x : View E). times h.0 (live_lists x)) same ∙ ap (times h.0) (own_where_live v live) in
      let more = t.3 in
      (h.0, h.1, omega arith)) later l.all_kept
