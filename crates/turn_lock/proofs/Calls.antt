-- What one more call does to a history of notes, and what the lists of three seats make of it.
use Rattle.std.proofs.Common.{◌≡◌, ℕ, ◌+◌, ◌<◌, Bool, true, false, cond, List, [], ◌∷◌, ◌++◌, length, take, get_or, Some, refl, sym, ap, ◌∙◌, subst, inl, inr, arith, append_assoc}
use Rattle.std.specs.Prelude.{MatchBool}
use Rattle.std.proofs.lemmas.List.{take_more}
use Rattle.std.proofs.lemmas.Bool.{cases_eq, ne_eqb}
use Rattle.atomic_table.specs.Table.{Me}
use Rattle.turn_lock.specs.declared.view.View.{View}
use Rattle.turn_lock.specs.declared.view.Stage.TheVariants.{Idle}
use Rattle.turn_lock.specs.declared.notes.NoteEntry.{NoteEntry}
use Rattle.turn_lock.specs.declared.notes.NoteEntry.TheVariants.{Opening, Call}
use Rattle.turn_lock.specs.History.{times, after_opening, AreOwn, Covers}
use Rattle.turn_lock.specs.Views.{own_lists, first_seat, with_one_less, split_off, with_joined}
use Rattle.turn_lock.specs.Notes.{note_seat, call_of, kept_items, asked_items, IsSameSeat, Added, Worked, IsOfThree, IsMerge}
use Rattle.turn_lock.proofs.Totals.{Each-map}

kept_more_yes : (log : List NoteEntry) (n item : ℕ) → kept_items (log ++ call_of n item true ∷ []) ≡ kept_items log ++ item ∷ []
kept_more_yes [] n item = refl
kept_more_yes (Opening ∷ es) n item = kept_more_yes es n item
kept_more_yes (Call m other true ∷ es) n item = ap (λ (l : List ℕ). other ∷ l) (kept_more_yes es n item)
kept_more_yes (Call m other false ∷ es) n item = kept_more_yes es n item

kept_more_no : (log : List NoteEntry) (n item : ℕ) → kept_items (log ++ call_of n item false ∷ []) ≡ kept_items log
kept_more_no [] n item = refl
kept_more_no (Opening ∷ es) n item = kept_more_no es n item
kept_more_no (Call m other true ∷ es) n item = ap (λ (l : List ℕ). other ∷ l) (kept_more_no es n item)
kept_more_no (Call m other false ∷ es) n item = kept_more_no es n item

-- the notes after a call stand for the history with its entry
pub kept_more : (log : List NoteEntry) (n item : ℕ) (kept : Bool) (old new : List ℕ) → old ≡ kept_items log → MatchBool kept (new ≡ old ++ item ∷ []) (new ≡ old) → new ≡ kept_items (log ++ call_of n item kept ∷ [])
kept_more log n item true old new is h = h ∙ (ap (λ (l : List ℕ). l ++ item ∷ []) is ∙ sym (kept_more_yes log n item))
kept_more log n item false old new is h = h ∙ (is ∙ sym (kept_more_no log n item))

asked_more : (log : List NoteEntry) (n item : ℕ) (kept : Bool) → asked_items (log ++ call_of n item kept ∷ []) ≡ asked_items log ++ item ∷ []
asked_more [] n item kept = refl
asked_more (Opening ∷ es) n item kept = asked_more es n item kept
asked_more (Call m other b ∷ es) n item kept = ap (λ (l : List ℕ). other ∷ l) (asked_more es n item kept)

same_again : (v w u : View NoteEntry) → IsSameSeat v w → IsSameSeat w u → IsSameSeat v u
same_again v w u p q = (q.0 ∙ p.0, q.1 ∙ p.1, q.2 ∙ p.2, q.3 ∙ p.3, q.4 ∙ p.4)

-- one more of the items was added
pub worked_more : (xs : List ℕ) (k n : ℕ) (kept : Bool) (v w u : View NoteEntry) → k < length xs → Worked (take k xs) v w → Added (call_of n (get_or xs k 0) kept) w u → Worked (take (k + 1) xs) v u
worked_more xs k n kept v w u less p q = (
  ap asked_items q.0
      ∙ (asked_more w.own n (get_or xs k 0) kept
      ∙ (ap (λ (l : List ℕ). l ++ get_or xs k 0 ∷ []) p.0
      ∙ (append_assoc (asked_items v.own) (take k xs) (get_or xs k 0 ∷ [])
      ∙ ap (λ (l : List ℕ). asked_items v.own ++ l) (sym (take_more xs k 0 less))))),
  same_again v w u p.1 q.1,
)

-- the three seats of a lock, before any call
abbrev pub made : View NoteEntry
made = first_seat 3 Idle (Opening ∷ [])

abbrev pub start_one : View NoteEntry
start_one = with_one_less (with_one_less made)

abbrev pub start_two : View NoteEntry
start_two = split_off made

abbrev pub start_three : View NoteEntry
start_three = split_off (with_one_less made)

-- an entry whose number is that of one of three lists is of one of the three seats
of_three : (a b c : List NoteEntry) (e : NoteEntry) → (n : ℕ) × (note_seat e ≡ Some n) × (0 < times n ((0, a) ∷ (1, b) ∷ (2, c) ∷ [])) → IsOfThree e
of_three a b c e h = elim (cases_eq 0 h.0) [
  | inl zero' ↦ inl (h.1 ∙ ap Some (sym zero'))
  | inr not_zero ↦ elim (cases_eq 1 h.0) [
    | inl one ↦ inr (inl (h.1 ∙ ap Some (sym one)))
    | inr not_one ↦ elim (cases_eq 2 h.0) [
      | inl two ↦ inr (inr (h.1 ∙ ap Some (sym two)))
      | inr not_two ↦
          let none : times h.0 ((0, a) ∷ (1, b) ∷ (2, c) ∷ []) ≡ 0 =
          ap (λ (x : Bool). cond x 1 0 + times h.0 ((1, b) ∷ (2, c) ∷ [])) (ne_eqb 0 h.0 not_zero)
          ∙ (ap (λ (x : Bool). 0 + (cond x 1 0 + times h.0 ((2, c) ∷ []))) (ne_eqb 1 h.0 not_one)
          ∙ ap (λ (x : Bool). 0 + (0 + (cond x 1 0 + 0))) (ne_eqb 2 h.0 not_two)) in
          let less = h.2 in
          absurd (omega arith)
    ]
  ]
]

-- the lists of the three seats are all that the history has
pub merged : (first second third items : List ℕ) (one two three last : View NoteEntry) → Worked first start_one one → Worked second start_two two → Worked third start_three three
    → last ≡ with_joined (with_joined one two) three → items ≡ kept_items last.seen → AreOwn note_seat last.seen (own_lists last) → Covers note_seat (own_lists last) last.seen → IsMerge first second third items
merged first second third items one two three last p q r is value own all =
    let lists : List (ℕ × List NoteEntry) = (0, one.own) ∷ (1, two.own) ∷ (2, three.own) ∷ [] in
    let same : own_lists last ≡ lists = ap own_lists is ∙ (λ i. (p.1.0 i, one.own) ∷ ((p.1.4 i ++ ((q.1.0 i, two.own) ∷ q.1.4 i)) ++ ((r.1.0 i, three.own) ∷ r.1.4 i))) in
    let own' : AreOwn note_seat last.seen lists = subst (AreOwn note_seat last.seen) same own in
    let all' : Covers note_seat lists last.seen = subst (λ (l : List (ℕ × List NoteEntry)). Covers note_seat l last.seen) same all in
    record {
      log = last.seen;
      kept = value;
      of_first = sym (ap asked_items own'.0) ∙ p.0;
      of_second = sym (ap asked_items own'.1.0) ∙ q.0;
      of_third = sym (ap asked_items own'.1.1.0) ∙ r.0;
      no_others = Each-map (λ e. (n : ℕ) × (note_seat e ≡ Some n) × (0 < times n lists)) IsOfThree (of_three one.own two.own three.own) (after_opening last.seen) all';
    }

-- the same, from what the calls of the lock say
module _ {S : Type 0} where
  pub one_view : (first second third : Me S (View NoteEntry)) → first ≡ (made, []) → second ≡ (with_one_less first.0, []) → third ≡ (with_one_less second.0, []) → third.0 ≡ start_one
  one_view first second third p q r = ap (λ (m : Me S (View NoteEntry)). m.0) r ∙ (ap (λ (m : Me S (View NoteEntry)). with_one_less m.0) q ∙ ap (λ (m : Me S (View NoteEntry)). with_one_less (with_one_less m.0)) p)

  pub two_view : (first two : Me S (View NoteEntry)) → first ≡ (made, []) → two ≡ (split_off first.0, []) → two.0 ≡ start_two
  two_view first two p q = ap (λ (m : Me S (View NoteEntry)). m.0) q ∙ ap (λ (m : Me S (View NoteEntry)). split_off m.0) p

  pub three_view : (first second three : Me S (View NoteEntry)) → first ≡ (made, []) → second ≡ (with_one_less first.0, []) → three ≡ (split_off second.0, []) → three.0 ≡ start_three
  three_view first second three p q r = ap (λ (m : Me S (View NoteEntry)). m.0) r ∙ (ap (λ (m : Me S (View NoteEntry)). split_off m.0) q ∙ ap (λ (m : Me S (View NoteEntry)). split_off (with_one_less m.0)) p)

  pub last_view : (one two three : View NoteEntry) (before last : Me S (View NoteEntry)) → before ≡ (with_joined one two, []) → last ≡ (with_joined before.0 three, []) → last.0 ≡ with_joined (with_joined one two) three
  last_view one two three before last p q = ap (λ (m : Me S (View NoteEntry)). m.0) q ∙ ap (λ (m : Me S (View NoteEntry)). with_joined m.0 three) p
