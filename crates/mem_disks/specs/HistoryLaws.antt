-- The laws of the trait, for disks in memory.
use Rattle.std.proofs.Common.{◌≡◌, ◌≢◌, ℕ, zero, suc, ◌+◌, ◌*◌, ◌<◌, ◌≤◌, ◌⊎◌, inl, inr, List, [], ◌∷◌, length, take, get_or, Bool, true, false, not, refl, sym, ◌∙◌, ap, subst, arith, Option, None, Some, All, Contains, filter, fold, string_bytes, length-append}
use Rattle.std.specs.List.{list_any, AllByRecursion}
use Rattle.std.proofs.lemmas.Bool.{cases_Bool, both_ways, cases_lt}
use Rattle.std.proofs.lemmas.Option.{same_Some}
use Rattle.std.proofs.lemmas.List.{take_all, take-append-le}
use Rattle.std.proofs.lemmas.List.Sums.{fold-append}
use Rattle.std.proofs.lemmas.List.Elements.{All-cons, All-filter, recursion_from_All}
use Rattle.mem_disks.specs.declared.history.Change.{Change}
use Rattle.mem_disks.specs.declared.history.Change.TheVariants.{Created, Published, Removed, Put}
use Rattle.mem_disks.specs.declared.history.Recorded.{Recorded}
use Rattle.disk_model.specs.Files.{Files, is_place}
use Rattle.disk_model.specs.Worlds.{DraftPlace, World, IsWorld, Holds, IsAbsent, has_draft, stands_at, draft_at, created, removed, settled_at}
use Rattle.disk_model.specs.Told.{IsDisk, StandsWithin, IsWorldOf, Leaves, CanLeave, PicksOne, StandsBeforeOrAfter}
use Rattle.disk_model.specs.Moments.{Elapses}
use Rattle.disk_model.specs.Places.{same_place, any_filter_false, any_dropped, holds_created, holds_removed, holds_settled, gone_at}
use Rattle.mem_disks.specs.History.{empty_world, changed, Opens, Fork, if_done, step, fork_after, worlds_of, told, moment_of, LeftBy, LeftSince, numbers_end, volume_of, IsOnVolume, makes, Records}

-- ---- what each change keeps

-- a draft that was kept stood before
from_kept : {X : Type 0} (test keep : X → Bool) (xs : List X) → list_any test (filter keep xs) ≡ true → list_any test xs ≡ true
from_kept test keep xs some = elim (cases_Bool (list_any test xs)) [
  | inl was ↦ was
  | inr none ↦ absurd (both_ways _ (any_filter_false test keep xs none) some)
]

-- no draft is left at a place that was cleared
cleared : (vol : ℕ) (path : List ℕ) (v : ℕ) (p : List ℕ) (drafts : List DraftPlace) → is_place vol path v p ≡ true
    → list_any (stands_at v p) (filter (λ draft. not (stands_at vol path draft)) drafts) ≡ false
cleared vol path v p drafts here =
    let same = same_place vol path v p here in
    subst (λ n. list_any (stands_at n p) (filter (λ draft. not (stands_at vol path draft)) drafts) ≡ false) same.0
    (subst (λ (q : List ℕ). list_any (stands_at vol q) (filter (λ draft. not (stands_at vol path draft)) drafts) ≡ false) same.1
    (any_dropped (stands_at vol path) drafts))

module _ (next : ℕ) where
  created_is : (draft : DraftPlace) (world : World) → draft.number < next → IsWorld next world → IsWorld next (created draft world)
  created_is draft world below is = record {
    apart = λ v p some. elim (cases_Bool (is_place draft.vol draft.path v p)) [
      | inl here ↦ rw here refl
      | inr other ↦ rw other (is.apart v p (other_stands v p other some))
    ];
    numbered = All-cons (λ (d : DraftPlace). d.number < next) draft world.drafts below is.numbered;
  }
    where
      other_stands : (v : ℕ) (p : List ℕ) → is_place draft.vol draft.path v p ≡ false → has_draft (created draft world) v p ≡ true → has_draft world v p ≡ true
      other_stands v p other some = grind arith

  removed_is : (vol : ℕ) (path : List ℕ) (world : World) → IsWorld next world → IsWorld next (removed vol path world)
  removed_is vol path world is = record {
    apart = λ v p some. elim (cases_Bool (is_place vol path v p)) [
      | inl here ↦ rw here refl
      | inr other ↦ rw other (is.apart v p (from_kept _ _ world.drafts some))
    ];
    numbered = All-filter _ (λ (draft : DraftPlace). draft.number < next) world.drafts is.numbered;
  }

  settled_is : (vol : ℕ) (path bytes : List ℕ) (world : World) → IsWorld next world → IsWorld next (settled_at vol path bytes world)
  settled_is vol path bytes world is = record {
    apart = λ v p some. elim (cases_Bool (is_place vol path v p)) [
      | inl here ↦ absurd (both_ways _ (cleared vol path v p world.drafts here) some)
      | inr other ↦ rw other (is.apart v p (from_kept _ _ world.drafts some))
    ];
    numbered = All-filter _ (λ (draft : DraftPlace). draft.number < next) world.drafts is.numbered;
  }

  changed_is : (world : World) (change : Change) → numbers_end change ≤ next → IsWorld next world → IsWorld next (changed world change)
  changed_is world (Created number vol path) below is = created_is (draft_at number vol (string_bytes path)) world (omega arith) is
  changed_is world (Published vol path bytes target) below is = settled_is vol (string_bytes target) bytes.items (removed vol (string_bytes path) world) (removed_is vol (string_bytes path) world is)
  changed_is world (Removed vol path) below is = removed_is vol (string_bytes path) world is
  changed_is world (Put vol path bytes) below is = settled_is vol (string_bytes path) bytes.items world is

  empty_is : IsWorld next empty_world
  empty_is = record { apart = λ v p some. refl; numbered = λ k d within. absurd (omega arith) }

module _ (vol : ℕ) (path : List ℕ) where
  cleared_absent : (v : ℕ) (p : List ℕ) (world : World) → Holds vol path None world → Holds vol path None (removed v p world)
  cleared_absent v p world absent = elim (cases_Bool (is_place v p vol path)) [
    | inl here ↦ gone_at vol path v p world here
    | inr other ↦ holds_removed vol path None v p world other absent
  ]

  -- a change that makes nothing there leaves the place absent
  stays_absent : (world : World) (change : Change) → makes vol path change ≡ false → Holds vol path None world → Holds vol path None (changed world change)
  stays_absent world (Created number v p) other absent = holds_created vol path None (draft_at number v (string_bytes p)) world other absent
  stays_absent world (Published v p bytes target) other absent =
      holds_settled vol path None v (string_bytes target) bytes.items (removed v (string_bytes p) world) other (cleared_absent v (string_bytes p) world absent)
  stays_absent world (Removed v p) other absent = cleared_absent v (string_bytes p) world absent
  stays_absent world (Put v p bytes) other absent = holds_settled vol path None v (string_bytes p) bytes.items world other absent

  -- a change makes something on its own volume alone
  made_on : (change : Change) → makes vol path change ≡ true → volume_of change ≡ vol
  made_on (Created number v p) is = (same_place v (string_bytes p) vol path is).0
  made_on (Published v p bytes target) is = (same_place v (string_bytes target) vol path is).0
  made_on (Removed v p) is = absurd (cc is)
  made_on (Put v p bytes) is = (same_place v (string_bytes p) vol path is).0

-- files and drafts of the world stand only on the volumes 1 to this number
abbrev pub Within : ℕ → World → Type 0
Within count world = (vol : ℕ) (path : List ℕ) → (IsAbsent world vol path → ⊥) → (1 ≤ vol) × (vol ≤ count)

changed_within : (count : ℕ) (world : World) (change : Change) → IsOnVolume count change → Within count world → Within count (changed world change)
changed_within count world change on within vol path stands = elim (cases_Bool (makes vol path change)) [
  | inl here ↦ (let same = made_on vol path change here in omega (arith, on.0, same), let same = made_on vol path change here in omega (arith, on.1, same))
  | inr other ↦ within vol path (λ absent. stands (stays_absent vol path world change other absent))
]

-- ---- what holds after all calls

module _ (P : World → Type 0) (Q : Recorded → Type 0) (keeps : (world : World) (recorded : Recorded) → Q recorded → P world → P (changed world recorded.change)) where
  kept_if_done : (done : Bool) (after before : World) → P after → P before → P (if_done done after before)
  kept_if_done true after before one two = one
  kept_if_done false after before one two = two

  fork_keeps : (fork : Fork) (records : List Recorded) → AllByRecursion Q records → P fork.now → P fork.tried
      → P (fold step fork records).now × P (fold step fork records).tried
  fork_keeps fork [] all now tried = (now, tried)
  fork_keeps fork (recorded ∷ records) all now tried =
      let after = keeps fork.now recorded all.0 now in
      fork_keeps (step fork recorded) records all.1 (kept_if_done recorded.done (changed fork.now recorded.change) fork.now after now) after

-- a world that is told is one of the two, the second only while the last call is open
pub world_cases : (pending : Bool) (fork : Fork) (world : World) → IsWorldOf (Some (worlds_of pending fork)) world → (fork.now ≡ world) ⊎ ((pending ≡ true) × (fork.tried ≡ world))
world_cases true fork world is = two (subst (λ worlds. Contains worlds world) (sym (same_Some _ _ is.1)) is.2)
  where
    alone : Contains (fork.tried ∷ []) world → fork.tried ≡ world
    alone (zero, below, is) = is
    alone (suc k, below, is) = absurd (omega arith)

    two : Contains (fork.now ∷ fork.tried ∷ []) world → (fork.now ≡ world) ⊎ ((true ≡ true) × (fork.tried ≡ world))
    two (zero, below, is) = inl is
    two (suc k, below, is) = inr (refl, alone (k, omega (arith, below), is))
world_cases false fork world is = inl (alone (subst (λ worlds. Contains worlds world) (sym (same_Some _ _ is.1)) is.2))
  where
    alone : Contains (fork.now ∷ []) world → fork.now ≡ world
    alone (zero, below, is) = is
    alone (suc k, below, is) = absurd (omega arith)

pub now_told : (pending : Bool) (fork : Fork) → IsWorldOf (Some (worlds_of pending fork)) fork.now
now_told true fork = (fork.now ∷ fork.tried ∷ [], refl, (0, omega arith, refl))
now_told false fork = (fork.now ∷ [], refl, (0, omega arith, refl))

pub tried_told : (fork : Fork) → IsWorldOf (Some (worlds_of true fork)) fork.tried
tried_told fork = (fork.now ∷ fork.tried ∷ [], refl, (1, omega arith, refl))

not_empty : (pending : Bool) (fork : Fork) → Some (worlds_of pending fork) ≢ Some []
not_empty true fork is = absurd (cc is)
not_empty false fork is = absurd (cc is)

-- a fact of both worlds holds of each that is told
each_told : (P : World → Type 0) (pending : Bool) (fork : Fork) (world : World) → P fork.now → P fork.tried → IsWorldOf (Some (worlds_of pending fork)) world → P world
each_told P pending fork world now tried is = elim (world_cases pending fork world is) [
  | inl same ↦ subst P same now
  | inr same ↦ subst P same.1 tried
]

pub history_is_disk : (pending : Bool) (records : List Recorded) (next : ℕ) → All (λ recorded. numbers_end recorded.change ≤ next) records
    → IsDisk next (Some (told pending records))
history_is_disk pending records next below =
    let both = fork_keeps (IsWorld next) (λ recorded. numbers_end recorded.change ≤ next) (λ world recorded. changed_is next world recorded.change)
    (record { now = empty_world; tried = empty_world }) records (recursion_from_All _ records below) (empty_is next) (empty_is next) in
    record {
      some = not_empty pending (fork_after records);
      worlds = λ world is. each_told (IsWorld next) pending (fork_after records) world both.0 both.1 is;
    }

pub history_within : (pending : Bool) (records : List Recorded) (count : ℕ) → All (λ recorded. IsOnVolume count recorded.change) records
    → StandsWithin count (Some (told pending records))
history_within pending records count placed world is =
    let both = fork_keeps (Within count) (λ recorded. IsOnVolume count recorded.change) (λ world recorded. changed_within count world recorded.change)
    (record { now = empty_world; tried = empty_world }) records (recursion_from_All _ records placed)
    (λ vol path stands. absurd (stands (record { file = refl; no_draft = refl })))
    (λ vol path stands. absurd (stands (record { file = refl; no_draft = refl }))) in
    each_told (Within count) pending (fork_after records) world both.0 both.1 is

-- ---- moments

moment_low : (pending : Bool) (count : ℕ) → 2 * count ≤ moment_of pending count
moment_low true count = omega arith
moment_low false count = omega arith

moment_high : (pending : Bool) (count : ℕ) → moment_of pending count ≤ 2 * count + 1
moment_high true count = omega arith
moment_high false count = omega arith

pub history_counts_now : (pending : Bool) (records : List Recorded) (t : ℕ) (image : Files) → t ≤ moment_of pending (length records)
    → CanLeave (Some (told pending records)) image → LeftSince records t image
history_counts_now pending records t image early leaves = record {
  count = length records;
  within = omega arith;
  left = subst (λ front. LeftBy (fork_after front) (length records) t image) (sym (take_all (length records) records (omega arith)))
      (elim (world_cases pending (fork_after records) leaves.0 leaves.1) [
        | inl same ↦ inl (let high = moment_high pending (length records) in omega (arith, early, high), subst (λ world. Leaves world image) (sym same) leaves.2)
        | inr same ↦ inr (subst (λ b. t ≤ moment_of b (length records)) same.0 early, subst (λ world. Leaves world image) (sym same.1) leaves.2)
      ]);
}

-- what the last moment could have left
last_left : (pending : Bool) (fork : Fork) (count n : ℕ) (image : Files) → count ≤ n → LeftBy fork count (moment_of pending n) image → (count ≡ n) × CanLeave (Some (worlds_of pending fork)) image
last_left true fork count n image within (inl left) = (omega (arith, within, left.0), (fork.now, now_told true fork, left.1))
last_left true fork count n image within (inr left) = (omega (arith, within, left.0), (fork.tried, tried_told fork, left.1))
last_left false fork count n image within (inl left) = (omega (arith, within, left.0), (fork.now, now_told false fork, left.1))
last_left false fork count n image within (inr left) = absurd (omega (arith, within, left.0))

pub history_only_now : (pending : Bool) (records : List Recorded) (image : Files) → LeftSince records (moment_of pending (length records)) image
    → CanLeave (Some (told pending records)) image
history_only_now pending records image left =
    let last = last_left pending (fork_after (take left.count records)) left.count (length records) image left.within left.left in
    let all : take left.count records ≡ records = take_all left.count records (omega (arith, last.0)) in
    subst (λ front. CanLeave (Some (told pending front)) image) all last.1

-- the last call may be taken as not done, and else nothing is recorded
moment_closes : (pending now : Bool) (count : ℕ) → (now ≡ true → pending ≡ true) → moment_of pending count ≤ moment_of now count
moment_closes true true count keeps = omega arith
moment_closes true false count keeps = omega arith
moment_closes false true count keeps = absurd (cc (keeps refl))
moment_closes false false count keeps = omega arith

pub closes_time : (pending now : Bool) (records : List Recorded) → (now ≡ true → pending ≡ true)
    → Elapses (moment_of pending (length records)) (moment_of now (length records)) (λ t image. LeftSince records t image) (λ t image. LeftSince records t image) (CanLeave (Some (told now records)))
closes_time pending now records keeps = record {
  later = moment_closes pending now (length records) keeps;
  nothing_else = λ t image left. inl left;
  keeps = λ t image left. left;
  still = λ same image leaves. history_counts_now now records (moment_of now (length records)) image (omega arith) leaves;
}

-- one more call is recorded, done, or failed and open
module _ {done : Bool} {change : World → World} {old new : List Recorded} (records : Records done change old new) where
  grown : length new ≡ length old + 1
  grown = ap length records.items ∙ length-append old (records.one ∷ [])

  same_front : (n : ℕ) → n ≤ length old → take n new ≡ take n old
  same_front n within = ap (λ (l : List Recorded). take n l) records.items ∙ take-append-le n old (records.one ∷ []) within

  after_recording : fork_after new ≡ step (fork_after old) records.one
  after_recording = ap fork_after records.items ∙ fold-append step (record { now = empty_world; tried = empty_world }) old (records.one ∷ [])

  pub tried_after : (fork_after new).tried ≡ change (fork_after old).now
  tried_after = ap (λ (fork : Fork). fork.tried) after_recording ∙ records.does (fork_after old).now

  pub now_after : (fork_after new).now ≡ if_done done (change (fork_after old).now) (fork_after old).now
  now_after = ap (λ (fork : Fork). fork.now) after_recording
      ∙ ap (λ b. if_done b (changed (fork_after old).now records.one.change) (fork_after old).now) records.is_done
      ∙ ap (λ world. if_done done world (fork_after old).now) (records.does (fork_after old).now)

  pub recorded_time : (pending : Bool) → Elapses (moment_of pending (length old)) (moment_of (not done) (length new)) (λ t image. LeftSince old t image) (λ t image. LeftSince new t image) (CanLeave (Some (told (not done) new)))
  recorded_time pending =
      let high = moment_high pending (length old) in
      let low = moment_low (not done) (length new) in
      record {
        later = omega (arith, high, low, grown);
        nothing_else = λ t image left. elim (cases_lt (length old) left.count) [
          | inl past ↦ inr (all_new t image left.count left.left (take_all left.count new (omega (arith, grown, past))))
          | inr within ↦ inl (record { count = left.count; within = within; left = subst (λ front. LeftBy (fork_after front) left.count t image) (same_front left.count within) left.left })
        ];
        keeps = λ t image left. record {
          count = left.count;
          within = omega (arith, grown, left.within);
          left = subst (λ front. LeftBy (fork_after front) left.count t image) (sym (same_front left.count left.within)) left.left;
        };
        still = λ same. absurd (omega (arith, high, low, grown, same));
      }
    where
      by_done : (d : Bool) (fork : Fork) → (d ≡ true → fork.tried ≡ fork.now) → (image : Files) → Leaves fork.tried image → CanLeave (Some (worlds_of (not d) fork)) image
      by_done true fork same image leaves = (fork.now, now_told false fork, subst (λ world. Leaves world image) (same refl) leaves)
      by_done false fork same image leaves = (fork.tried, tried_told fork, leaves)

      is_same : (d : Bool) (after before : World) → d ≡ true → after ≡ if_done d after before
      is_same true after before is = refl
      is_same false after before is = absurd (cc is)

      all_new : (t : ℕ) (image : Files) (count : ℕ) → LeftBy (fork_after (take count new)) count t image → take count new ≡ new → CanLeave (Some (told (not done) new)) image
      all_new t image count left all = by_case (subst (λ front. LeftBy (fork_after front) count t image) all left)
        where
          by_case : LeftBy (fork_after new) count t image → CanLeave (Some (told (not done) new)) image
          by_case (inl one) = (((fork_after new).now), now_told (not done) (fork_after new), one.1)
          by_case (inr two) = by_done done (fork_after new)
              (λ is. tried_after ∙ is_same done (change (fork_after old).now) (fork_after old).now is ∙ sym now_after) image two.1

-- ---- the clauses of the calls

-- a call that changes no name answered Ok, by what the first world holds
pub picks : (P : World → Type 0) (was is : Bool) (old new : List Recorded) → new ≡ old → is ≡ false → P (fork_after old).now
    → PicksOne P (λ world. world) (Some (told was old)) (Some (told is new))
picks P was is old new same closed holds = record {
  honest = (λ some. refl, λ some. refl);
  picked = λ worlds tells. (
    (fork_after old).now,
    subst (λ ws. Contains ws (fork_after old).now) (same_Some _ _ tells) (first_told was (fork_after old)),
    holds,
    ap (λ b. Some (told b new)) closed ∙ ap (λ (l : List Recorded). Some (told false l)) same,
  );
}
  where
    first_told : (pending : Bool) (fork : Fork) → Contains (worlds_of pending fork) fork.now
    first_told true fork = (0, omega arith, refl)
    first_told false fork = (0, omega arith, refl)

-- nothing is recorded: the worlds are those from before, or the first of them
pub closes_each : (change : World → World) (was is : Bool) (old new : List Recorded) → new ≡ old → (is ≡ true → was ≡ true)
    → StandsBeforeOrAfter change (Some (told was old)) (Some (told is new))
closes_each change was is old new same keeps = record {
  honest = (λ some. refl, λ some. refl);
  each = λ world one. elim (world_cases is (fork_after new) world one) [
    | inl now ↦ (world, subst (λ w. IsWorldOf (Some (told was old)) w) (ap (λ (l : List Recorded). (fork_after l).now) (sym same) ∙ now) (now_told was (fork_after old)), inl refl)
    | inr tried ↦ (
      world,
      subst (λ b. IsWorldOf (Some (told b old)) world) (sym (keeps tried.0))
          (subst (λ w. IsWorldOf (Some (told true old)) w) (ap (λ (l : List Recorded). (fork_after l).tried) (sym same) ∙ tried.1) (tried_told (fork_after old))),
      inl refl,
    )
  ];
}

pub same_time : (was is : Bool) (old new : List Recorded) → new ≡ old → (is ≡ true → was ≡ true)
    → Elapses (moment_of was (length old)) (moment_of is (length new)) (λ t image. LeftSince old t image) (λ t image. LeftSince new t image) (CanLeave (Some (told is new)))
same_time was is old new same keeps =
    subst (λ (l : List Recorded). Elapses (moment_of was (length old)) (moment_of is (length l)) (λ t image. LeftSince old t image) (λ t image. LeftSince l t image) (CanLeave (Some (told is l))))
    (sym same) (closes_time was is old keeps)

pub records_as : {done : Bool} (f g : World → World) (old new : List Recorded) → ((world : World) → f world ≡ g world) → Records done f old new → Records done g old new
records_as f g old new same recorded = record { one = recorded.one; items = recorded.items; is_done = recorded.is_done; does = λ world. recorded.does world ∙ same world }

-- a call that changes names was done
module _ {change : World → World} {old new : List Recorded} (was is : Bool) (recorded : Records true change old new) (closed : is ≡ false) where
  pub carries : PicksOne (λ world. Unit {0}) change (Some (told was old)) (Some (told is new))
  carries = record {
    honest = (λ some. refl, λ some. refl);
    picked = λ worlds tells. (
      (fork_after old).now,
      subst (λ ws. Contains ws (fork_after old).now) (same_Some _ _ tells) (first_told was (fork_after old)),
      tt,
      ap (λ b. Some (told b new)) closed ∙ ap (λ world. Some (world ∷ [])) (now_after recorded),
    );
  }
    where
      first_told : (pending : Bool) (fork : Fork) → Contains (worlds_of pending fork) fork.now
      first_told true fork = (0, omega arith, refl)
      first_told false fork = (0, omega arith, refl)

  pub carries_each : StandsBeforeOrAfter change (Some (told was old)) (Some (told is new))
  carries_each = record {
    honest = (λ some. refl, λ some. refl);
    each = λ world one. elim (world_cases is (fork_after new) world one) [
      | inl now ↦ ((fork_after old).now, now_told was (fork_after old), inr (sym now ∙ now_after recorded))
      | inr tried ↦ absurd (both_ways is closed tried.0)
    ];
  }

  pub carries_time : Elapses (moment_of was (length old)) (moment_of is (length new)) (λ t image. LeftSince old t image) (λ t image. LeftSince new t image) (CanLeave (Some (told is new)))
  carries_time =
      subst (λ b. Elapses (moment_of was (length old)) (moment_of b (length new)) (λ t image. LeftSince old t image) (λ t image. LeftSince new t image) (CanLeave (Some (told b new))))
      (sym closed) (recorded_time recorded was)

-- a call that changes names failed, and is open
module _ {change : World → World} {old new : List Recorded} (was is : Bool) (recorded : Records false change old new) (opened : is ≡ true) where
  pub opens_each : StandsBeforeOrAfter change (Some (told was old)) (Some (told is new))
  opens_each = record {
    honest = (λ some. refl, λ some. refl);
    each = λ world one. elim (world_cases is (fork_after new) world one) [
      | inl now ↦ ((fork_after old).now, now_told was (fork_after old), inl (sym now ∙ now_after recorded))
      | inr tried ↦ ((fork_after old).now, now_told was (fork_after old), inr (sym tried.1 ∙ tried_after recorded))
    ];
  }

  pub opens_time : Elapses (moment_of was (length old)) (moment_of is (length new)) (λ t image. LeftSince old t image) (λ t image. LeftSince new t image) (CanLeave (Some (told is new)))
  opens_time =
      subst (λ b. Elapses (moment_of was (length old)) (moment_of b (length new)) (λ t image. LeftSince old t image) (λ t image. LeftSince new t image) (CanLeave (Some (told b new))))
      (sym opened) (recorded_time recorded was)

-- ---- a change in other words

pub stands_as : {f g : World → World} {old new : Option (List World)} → ((world : World) → f world ≡ g world) → StandsBeforeOrAfter f old new → StandsBeforeOrAfter g old new
stands_as same call = record {
  honest = call.honest;
  each = λ world is.
      let from = call.each world is in
      (from.0, from.1, elim from.2 [ inl before ↦ inl before | inr after ↦ inr (after ∙ same from.0) ]);
}

pub picks_as : {P : World → Type 0} {f g : World → World} {old new : Option (List World)} → ((world : World) → f world ≡ g world) → PicksOne P f old new → PicksOne P g old new
picks_as same call = record {
  honest = call.honest;
  picked = λ worlds is.
      let from = call.picked worlds is in
      (from.0, from.1, from.2, from.3 ∙ ap (λ world. Some (world ∷ [])) (same from.0));
}

pub opens_as : {f g : World → World} {old new : List Recorded} {is : Bool} {now next : ℕ} → ((world : World) → f world ≡ g world) → Opens f old new is now next → Opens g old new is now next
opens_as {f} {g} {old} {new} same call = record { records = records_as f g old new same call.records; pending = call.pending; number = call.number }

-- the first world that is told is the one without the open calls
pub first_is : (pending : Bool) (fork : Fork) (world : World) (others : List World) → Some (worlds_of pending fork) ≡ Some (world ∷ others) → fork.now ≡ world
first_is true fork world others is = ap (λ (ws : List World). get_or ws 0 fork.now) (same_Some _ _ is)
first_is false fork world others is = ap (λ (ws : List World). get_or ws 0 fork.now) (same_Some _ _ is)
