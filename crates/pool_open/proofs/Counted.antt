-- Which of several metas counts, and which go.
use Rattle.std.proofs.Common.{◌≡◌, ◌⊎◌, ◌<◌, ◌≤◌, ◌≢◌, inl, inr, ℕ, Bool, true, false, cond, List, [], ◌∷◌, ◌++◌, Option, None, Some, ◌+◌, Contains, map, take, length, get_or, max, refl, ap, sym, ◌∙◌, subst, append_assoc, arith}
use Rattle.std.specs.Prelude.{MatchOption, filter, nat_lt}
use Rattle.std.proofs.lemmas.Bool.{false≢true, lt-ltb, ltb-true, ltb-false, cases_Bool}
use Rattle.std.proofs.lemmas.Option.{none-some, same_Some}
use Rattle.std.proofs.lemmas.List.{map-append, get_or_default}
use Rattle.std.proofs.lemmas.List.Elements.{Contains-append_left, Contains-append_right, Contains-append_cases, Contains-get_or, filter_more}
use Rattle.dup_resolve.specs.Picks.{HasStamp}
use Rattle.pool_survey.specs.declared.found.FoundFiles.{FoundFiles}
use Rattle.volume_layout.specs.Choice.{IsOnly, IsGreatest, IsSecond, GateKeeps}
use Rattle.pool_open.specs.Surplus.{greatest, below, above, greatest_or, second, kept_stamp, counted, surplus_stamps}
use Rattle.pool_open.proofs.Lists.{nothing_more}
use Rattle.pool_open.proofs.Placed.{none_in, first_in, later_in, in_cases}

-- ---- what is filtered

module _ {X : Type 0} (y : X) (l : List X) where
  head_kept : (b : Bool) → b ≡ true → Contains (cond b (y ∷ l) l) y
  head_kept true is = first_in y l
  head_kept false is = absurd (false≢true is)

  later_kept : (b : Bool) (x : X) → Contains l x → Contains (cond b (y ∷ l) l) x
  later_kept true x has = later_in y l x has
  later_kept false x has = has

  kept_cases : (b : Bool) (x : X) → Contains (cond b (y ∷ l) l) x → ((y ≡ x) × (b ≡ true)) ⊎ Contains l x
  kept_cases true x has = elim (in_cases y l x has) [ inl here ↦ inl (here, refl) | inr later ↦ inr later ]
  kept_cases false x has = inr has

pub in_filter : {X : Type 0} (p : X → Bool) (xs : List X) (x : X) → Contains xs x → p x ≡ true → Contains (filter p xs) x
in_filter p [] x has is = absurd (none_in x has)
in_filter {X} p (y ∷ ys) x has is = elim (in_cases y ys x has) [
  | inl here ↦ subst (λ (z : X). Contains (filter p (y ∷ ys)) z) here (head_kept y (filter p ys) (p y) (ap p here ∙ is))
  | inr later ↦ later_kept y (filter p ys) (p y) x (in_filter p ys x later is)
]

pub from_filter : {X : Type 0} (p : X → Bool) (xs : List X) (x : X) → Contains (filter p xs) x → Contains xs x × (p x ≡ true)
from_filter p [] x has = absurd (none_in x has)
from_filter {X} p (y ∷ ys) x has = elim (kept_cases y (filter p ys) (p y) x has) [
  | inl here ↦ (subst (λ (z : X). Contains (y ∷ ys) z) here.0 (first_in y ys), sym (ap p here.0) ∙ here.1)
  | inr later ↦ let rest = from_filter p ys x later in (later_in y ys x rest.0, rest.1)
]

pub in_below : (kept : ℕ) (stamps : List ℕ) (stamp : ℕ) → Contains stamps stamp → stamp < kept → Contains (below kept stamps) stamp
in_below kept stamps stamp has less = in_filter (λ other. nat_lt other kept) stamps stamp has (lt-ltb stamp kept less)

pub from_below : (kept : ℕ) (stamps : List ℕ) (stamp : ℕ) → Contains (below kept stamps) stamp → Contains stamps stamp × (stamp < kept)
from_below kept stamps stamp has = let from = from_filter (λ other. nat_lt other kept) stamps stamp has in (from.0, ltb-true stamp kept from.1)

pub in_above : (kept : ℕ) (stamps : List ℕ) (stamp : ℕ) → Contains stamps stamp → kept < stamp → Contains (above kept stamps) stamp
in_above kept stamps stamp has more = in_filter (λ other. nat_lt kept other) stamps stamp has (lt-ltb kept stamp more)

pub from_above : (kept : ℕ) (stamps : List ℕ) (stamp : ℕ) → Contains (above kept stamps) stamp → Contains stamps stamp × (kept < stamp)
from_above kept stamps stamp has = let from = from_filter (λ other. nat_lt kept other) stamps stamp has in (from.0, ltb-true kept stamp from.1)

-- ---- the greatest

max_cases : (a b : ℕ) → (max a b ≡ a) ⊎ (max a b ≡ b)
max_cases a b = elim (cases_Bool (nat_lt a b)) [
  | inl less ↦ let l = ltb-true a b less in inr (omega (arith, l))
  | inr more ↦ let m = ltb-false a b more in inl (omega (arith, m))
]

pub greatest_in : (stamp : ℕ) (stamps : List ℕ) → Contains (stamp ∷ stamps) (greatest (stamp ∷ stamps))
greatest_in stamp [] =
    let same : stamp ≡ max stamp 0 = omega arith in
    subst (λ n. Contains (stamp ∷ []) n) same (first_in stamp [])
greatest_in stamp (next ∷ stamps) = elim (max_cases stamp (greatest (next ∷ stamps))) [
  | inl first ↦ subst (λ n. Contains (stamp ∷ next ∷ stamps) n) (sym first) (first_in stamp (next ∷ stamps))
  | inr later ↦ subst (λ n. Contains (stamp ∷ next ∷ stamps) n) (sym later) (later_in stamp (next ∷ stamps) (greatest (next ∷ stamps)) (greatest_in next stamps))
]

pub greatest_above : (stamps : List ℕ) (stamp : ℕ) → Contains stamps stamp → stamp ≤ greatest stamps
greatest_above [] stamp has = absurd (none_in stamp has)
greatest_above (first ∷ stamps) stamp has = elim (in_cases first stamps stamp has) [
  | inl here ↦ omega (arith, here)
  | inr later ↦ let rest = greatest_above stamps stamp later in omega (arith, rest)
]

-- ---- the gate

gated_by : (stamps lower : List ℕ) (top : ℕ) → below top stamps ≡ lower → Contains stamps top → ((stamp : ℕ) → Contains stamps stamp → stamp ≤ top) →
    IsOnly (Contains stamps) (greatest_or top lower) ⊎ IsSecond (Contains stamps) (greatest_or top lower)
gated_by stamps [] top are has above = inl (record {
  stands = has;
  only = λ other there. elim (cases_Bool (nat_lt other top)) [
    | inl less ↦ absurd (none_in other (subst (λ (l : List ℕ). Contains l other) are (in_below top stamps other there (ltb-true other top less))))
    | inr more ↦ let low = ltb-false other top more in let high = above other there in omega (arith, low, high)
  ];
})
gated_by stamps (first ∷ more) top are has above =
    let next = greatest (first ∷ more) in
    let from = from_below top stamps next (subst (λ (l : List ℕ). Contains l next) (sym are) (greatest_in first more)) in
    inr (record {
      stands = from.0;
      top = top;
      top_stands = has;
      below = from.1;
      next = λ other there. elim (cases_Bool (nat_lt other top)) [
        | inl less ↦ inr (greatest_above (first ∷ more) other (subst (λ (l : List ℕ). Contains l other) are (in_below top stamps other there (ltb-true other top less))))
        | inr past ↦ let low = ltb-false other top past in let high = above other there in inl (omega (arith, low, high))
      ];
    })

-- the stamp that is kept is the one that the gate keeps
pub kept_keeps : (gated : Bool) (stamps : List ℕ) (kept : ℕ) → kept_stamp gated stamps ≡ Some kept → GateKeeps (Contains stamps) gated kept
kept_keeps gated [] kept is = absurd (none-some kept is)
kept_keeps true (stamp ∷ stamps) kept is =
    let all : List ℕ = stamp ∷ stamps in
    subst (λ n. IsOnly (Contains all) n ⊎ IsSecond (Contains all) n) (same_Some (second all) kept is)
    (gated_by all (below (greatest all) all) (greatest all) refl (greatest_in stamp stamps) (greatest_above all))
kept_keeps false (stamp ∷ stamps) kept is =
    let all : List ℕ = stamp ∷ stamps in
    subst (λ n. IsGreatest (Contains all) n) (same_Some (greatest all) kept is)
    (record { stands = greatest_in stamp stamps; greatest = greatest_above all })

-- the gate keeps one
module _ (Has : ℕ → Type 0) where
  second_le : (a b : ℕ) → IsSecond Has a → IsSecond Has b → a ≤ b
  second_le a b first other =
      let b_in_first = first.next b other.stands in
      let top_in_first = first.next other.top other.top_stands in
      let a_in_second = other.next a first.stands in
      let top_in_second = other.next first.top first.top_stands in
      grind (arith, b_in_first, top_in_first, a_in_second, top_in_second, first.below, other.below)

  pub gate_unique : (gated : Bool) (a b : ℕ) → GateKeeps Has gated a → GateKeeps Has gated b → a ≡ b
  gate_unique true a b (inl first) (inl other) = other.only a first.stands
  gate_unique true a b (inl first) (inr other) =
      let low = first.only b other.stands in let high = first.only other.top other.top_stands in absurd (omega (arith, low, high, other.below))
  gate_unique true a b (inr first) (inl other) =
      let low = other.only a first.stands in let high = other.only first.top first.top_stands in absurd (omega (arith, low, high, first.below))
  gate_unique true a b (inr first) (inr other) =
      let up = second_le a b first other in let down = second_le b a other first in omega (arith, up, down)
  gate_unique false a b first other =
      let up = other.greatest a first.stands in let down = first.greatest b other.stands in omega (arith, up, down)

-- a property that tells the same numbers
pub gate_same : (One Other : ℕ → Type 0) (gated : Bool) (stamp : ℕ) → ((n : ℕ) → One n → Other n) → ((n : ℕ) → Other n → One n) → GateKeeps One gated stamp → GateKeeps Other gated stamp
gate_same One Other true stamp there back (inl only) = inl (record { stands = there stamp only.stands; only = λ other has. only.only other (back other has) })
gate_same One Other true stamp there back (inr next) = inr (record {
  stands = there stamp next.stands;
  top = next.top;
  top_stands = there next.top next.top_stands;
  below = next.below;
  next = λ other has. next.next other (back other has);
})
gate_same One Other false stamp there back great = record { stands = there stamp great.stands; greatest = λ other has. great.greatest other (back other has) }

-- and it stands
pub gate_stands : (Has : ℕ → Type 0) (gated : Bool) (stamp : ℕ) → GateKeeps Has gated stamp → Has stamp
gate_stands Has true stamp (inl only) = only.stands
gate_stands Has true stamp (inr next) = next.stands
gate_stands Has false stamp great = great.stands

pub kept_some : (gated : Bool) (stamps : List ℕ) (stamp : ℕ) → Contains stamps stamp → (kept : ℕ) × (kept_stamp gated stamps ≡ Some kept)
kept_some gated [] stamp has = absurd (none_in stamp has)
kept_some gated (first ∷ stamps) stamp has = (_, refl)

-- what the gate keeps is what is counted
pub gate_counts : (gated : Bool) (stamps : List ℕ) (stamp : ℕ) → GateKeeps (Contains stamps) gated stamp → kept_stamp gated stamps ≡ Some stamp
gate_counts gated stamps stamp keeps =
    let some = kept_some gated stamps stamp (gate_stands (Contains stamps) gated stamp keeps) in
    some.1 ∙ ap Some (gate_unique (Contains stamps) gated some.0 stamp (kept_keeps gated stamps some.0 some.1) keeps)

pub kept_none : (gated : Bool) (stamps : List ℕ) → length stamps ≡ 0 → kept_stamp gated stamps ≡ None
kept_none gated [] empty = refl
kept_none gated (stamp ∷ stamps) empty = absurd (omega (arith, empty))

-- ---- the others

pub surplus_in : (kept : ℕ) (stamps : List ℕ) (stamp : ℕ) → Contains stamps stamp → stamp ≢ kept → Contains (surplus_stamps (Some kept) stamps) stamp
surplus_in kept stamps stamp has apart = elim (cases_Bool (nat_lt stamp kept)) [
  | inl less ↦ Contains-append_left (below kept stamps) (above kept stamps) stamp (in_below kept stamps stamp has (ltb-true stamp kept less))
  | inr more ↦
      let low = ltb-false stamp kept more in
      elim (cases_Bool (nat_lt kept stamp)) [
        | inl great ↦ Contains-append_right (below kept stamps) (above kept stamps) stamp (in_above kept stamps stamp has (ltb-true kept stamp great))
        | inr small ↦ let high = ltb-false kept stamp small in absurd (apart (omega (arith, low, high)))
      ]
]

pub surplus_from : (kept : ℕ) (stamps : List ℕ) (stamp : ℕ) → Contains (surplus_stamps (Some kept) stamps) stamp → Contains stamps stamp × ((stamp < kept) ⊎ (kept < stamp))
surplus_from kept stamps stamp has = elim (Contains-append_cases (below kept stamps) (above kept stamps) stamp has) [
  | inl low ↦ let from = from_below kept stamps stamp low in (from.0, inl from.1)
  | inr high ↦ let from = from_above kept stamps stamp high in (from.0, inr from.1)
]

-- ---- in a loop

module _ {Y : Type 0} (p : ℕ → Bool) (g : ℕ → Y) (base so_far : List Y) (xs : List ℕ) (i x : ℕ) (inside : i < length xs) (is : x ≡ get_or xs i x) (was : so_far ≡ base ++ map g (filter p (take i xs))) where
  one_more : (b : Bool) → p x ≡ b → map g (filter p (take (i + 1) xs)) ≡ map g (filter p (take i xs)) ++ map g (cond b (x ∷ []) [])
  one_more b at =
      ap (map g) (filter_more p xs i x inside
      ∙ ap (λ n. filter p (take i xs) ++ cond (p n) (n ∷ []) []) (sym is)
      ∙ ap (λ c. filter p (take i xs) ++ cond c (x ∷ []) []) at)
      ∙ map-append g (filter p (take i xs)) (cond b (x ∷ []) [])

  pub passes : (new : List Y) → p x ≡ true → new ≡ so_far ++ g x ∷ [] → new ≡ base ++ map g (filter p (take (i + 1) xs))
  passes new passing now =
      now ∙ ap (λ s. s ++ g x ∷ []) was ∙ append_assoc base (map g (filter p (take i xs))) (g x ∷ []) ∙ ap (λ l. base ++ l) (sym (one_more true passing))

  pub is_passed : p x ≡ false → so_far ≡ base ++ map g (filter p (take (i + 1) xs))
  is_passed failing = was ∙ ap (λ l. base ++ l) (sym (one_more false failing ∙ nothing_more (map g (filter p (take i xs)))))

-- ---- what is picked

has_stamp : (stamps : List ℕ) (stamp : ℕ) → Contains stamps stamp → HasStamp stamps stamp
has_stamp stamps stamp has = (has.0, has.1, get_or_default stamps has.0 0 stamp has.1 ∙ has.2)

stamp_in : (stamps : List ℕ) (stamp : ℕ) → HasStamp stamps stamp → Contains stamps stamp
stamp_in stamps stamp has = subst (λ n. Contains stamps n) has.2 (Contains-get_or stamps has.0 0 has.1)

pub picked : (files : FoundFiles) (result : Option ℕ) → files.block ≡ true →
    MatchOption result (length files.metas.items ≡ 0) (λ stamp. GateKeeps (HasStamp files.metas.items) files.writing stamp) → result ≡ counted files
picked files None there empty = sym (rw there (kept_none files.writing files.metas.items empty))
picked files (Some stamp) there keeps = sym (rw there (gate_counts files.writing files.metas.items stamp
    (gate_same (HasStamp files.metas.items) (Contains files.metas.items) files.writing stamp (stamp_in files.metas.items) (has_stamp files.metas.items) keeps)))

pub not_counted : (files : FoundFiles) → files.block ≡ false → None ≡ counted files
not_counted files none = sym (rw none refl)
