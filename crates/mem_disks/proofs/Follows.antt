-- The names go on showing what stands, after one more change.
use Rattle.std.proofs.Common.{◌≡◌, ℕ, zero, suc, ◌+◌, ◌-◌, ◌<◌, ◌≤◌, Bool, true, false, not, List, [], ◌∷◌, ◌++◌, length, get_or, filter, All, Option, None, Some, if◌then◌else◌, string_bytes, refl, sym, ◌∙◌, ap, subst, arith, inl, inr, length-append}
use Rattle.std.specs.BTreeMap.{BTreeMap}
use Rattle.std.specs.declared.string.String.{String}
use Rattle.std.specs.List.{list_any}
use Rattle.std.proofs.lemmas.Bool.{cases_Bool, both_ways}
use Rattle.std.proofs.lemmas.List.Elements.{All-push, All-weaker}
use Rattle.disk_model.specs.Files.{is_place}
use Rattle.disk_model.specs.Worlds.{DraftPlace, World, has_draft, stands_at}
use Rattle.disk_model.specs.Places.{is_place_self, same_place, any_filter_false, any_dropped}
use Rattle.mem_disks.specs.declared.history.Change.{Change}
use Rattle.mem_disks.specs.declared.history.Change.TheVariants.{Created, Published, Removed, Put}
use Rattle.mem_disks.specs.declared.history.Recorded.{Recorded}
use Rattle.mem_disks.specs.declared.shelves.Entry.{Entry}
use Rattle.mem_disks.specs.declared.shelves.Entry.TheVariants.{Draft, File}
use Rattle.mem_disks.specs.Shelves.{held, Same}
use Rattle.mem_disks.specs.History.{changed, fork_after, numbers_end, IsOnVolume}
use Rattle.mem_disks.specs.HistoryLaws.{now_after}
use Rattle.mem_disks.specs.Entries.{bytes_in, bytes_at, is_draft, file_of, reads_end, ShowsDrafts, ShowsFiles, ReadsWithin, entry_after, Follows}

-- an element that passes is kept by a filter that keeps what passes
any_kept : {X : Type 0} (test keep : X → Bool) → ((x : X) → test x ≡ true → keep x ≡ true) → (xs : List X)
    → list_any test xs ≡ true → list_any test (filter keep xs) ≡ true
any_kept test keep keeps [] some = some
any_kept test keep keeps (x ∷ xs) some = elim (cases_Bool (test x)) [
  | inl passes ↦ rw (keeps x passes) (rw passes refl)
  | inr fails ↦
      let rest : list_any test xs ≡ true = grind arith in
      let kept = any_kept test keep keeps xs rest in
      elim (cases_Bool (keep x)) [ inl stays ↦ rw stays (rw fails kept) | inr goes ↦ rw goes kept ]
]

-- the drafts at a place, after those at another place were taken away
pub kept_drafts : (v : ℕ) (p : List ℕ) (vol : ℕ) (path : List ℕ) (drafts : List DraftPlace)
    → list_any (stands_at vol path) (filter (λ draft. not (stands_at v p draft)) drafts) ≡ (if is_place v p vol path then false else list_any (stands_at vol path) drafts)
kept_drafts v p vol path drafts = elim (cases_Bool (is_place v p vol path)) [
  | inl here ↦ rw here (
      let same = same_place v p vol path here in
      subst (λ n. list_any (stands_at n path) (filter (λ draft. not (stands_at v p draft)) drafts) ≡ false) same.0
      (subst (λ (q : List ℕ). list_any (stands_at v q) (filter (λ draft. not (stands_at v p draft)) drafts) ≡ false) same.1
      (any_dropped (stands_at v p) drafts)))
  | inr other ↦ rw other (elim (cases_Bool (list_any (stands_at vol path) drafts)) [
    | inl some ↦ any_kept _ _ (λ draft there. cond_not (stands_at v p draft) (λ here. elsewhere draft there here other)) drafts some ∙ sym some
    | inr none ↦ any_filter_false _ _ drafts none ∙ sym none
  ])
]
  where
    cond_not : (b : Bool) → (b ≡ true → ⊥) → not b ≡ true
    cond_not true no_way = absurd (no_way refl)
    cond_not false no_way = refl

    elsewhere : (draft : DraftPlace) → stands_at vol path draft ≡ true → stands_at v p draft ≡ true → is_place v p vol path ≡ false → ⊥
    elsewhere draft here there other =
        let one = same_place draft.vol draft.path vol path here in
        let two = same_place draft.vol draft.path v p there in
        both_ways (is_place v p vol path) other (subst (λ n. is_place v p n path ≡ true) (sym two.0 ∙ one.0)
        (subst (λ (q : List ℕ). is_place v p v q ≡ true) (sym two.1 ∙ one.1) (is_place_self v p)))

-- the record at the end settled these bytes, and the others what they did
bytes_last : (records : List Recorded) (one : Recorded) → bytes_at (records ++ one ∷ []) (length records) ≡ bytes_in one.change
bytes_last [] one = refl
bytes_last (first ∷ records) one = bytes_last records one

bytes_before : (records : List Recorded) (one : Recorded) (index : ℕ) → index < length records → bytes_at (records ++ one ∷ []) index ≡ bytes_at records index
bytes_before [] one index within = absurd (omega (arith, within))
bytes_before (first ∷ records) one zero within = refl
bytes_before (first ∷ records) one (suc index) within = bytes_before records one index (omega (arith, within))

file_before : (records : List Recorded) (one : Recorded) (entry : Option Entry) → reads_end entry ≤ length records → file_of (records ++ one ∷ []) entry ≡ file_of records entry
file_before records one None within = refl
file_before records one (Some Draft) within = refl
file_before records one (Some (File index)) within = ap (λ (bytes : List ℕ). Some bytes) (bytes_before records one index (omega (arith, within)))

module _ (records : List Recorded) (one : Recorded) (world : World) (vol : ℕ) (path : List ℕ) (was : Option Entry) where
  -- the drafts that stand after the change
  drafts_after : (change : Change) (index : ℕ) → has_draft world vol path ≡ is_draft was
      → has_draft (changed world change) vol path ≡ is_draft (entry_after change index vol path was)
  drafts_after (Created number v p) index stands = elim (cases_Bool (is_place v (string_bytes p) vol path)) [
    | inl here ↦ rw here refl
    | inr other ↦ rw other stands
  ]
  drafts_after (Published v p bytes target) index stands =
      kept_drafts v (string_bytes target) vol path (filter (λ draft. not (stands_at v (string_bytes p) draft)) world.drafts)
      ∙ elim (cases_Bool (is_place v (string_bytes target) vol path)) [
        | inl here ↦ rw here refl
        | inr other ↦ rw other (kept_drafts v (string_bytes p) vol path world.drafts ∙ elim (cases_Bool (is_place v (string_bytes p) vol path)) [
          | inl there ↦ rw there refl
          | inr nowhere ↦ rw nowhere stands
        ])
      ]
  drafts_after (Removed v p) index stands =
      kept_drafts v (string_bytes p) vol path world.drafts ∙ elim (cases_Bool (is_place v (string_bytes p) vol path)) [
        | inl here ↦ rw here refl
        | inr other ↦ rw other stands
      ]
  drafts_after (Put v p bytes) index stands =
      kept_drafts v (string_bytes p) vol path world.drafts ∙ elim (cases_Bool (is_place v (string_bytes p) vol path)) [
        | inl here ↦ rw here refl
        | inr other ↦ rw other stands
      ]

  -- the files that stand after the change
  files_after : (change : Change) → one.change ≡ change → reads_end was ≤ length records → world.settled vol path ≡ file_of records was
      → (changed world change).settled vol path ≡ file_of (records ++ one ∷ []) (entry_after change (length records) vol path was)
  files_after (Created number v p) is within stands = elim (cases_Bool (is_place v (string_bytes p) vol path)) [
    | inl here ↦ rw here refl
    | inr other ↦ rw other (stands ∙ sym (file_before records one was within))
  ]
  files_after (Published v p bytes target) is within stands = elim (cases_Bool (is_place v (string_bytes target) vol path)) [
    | inl here ↦ rw here (ap (λ (b : List ℕ). Some b) (sym (bytes_last records one ∙ ap bytes_in is)))
    | inr other ↦ rw other (elim (cases_Bool (is_place v (string_bytes p) vol path)) [
      | inl there ↦ rw there refl
      | inr nowhere ↦ rw nowhere (stands ∙ sym (file_before records one was within))
    ])
  ]
  files_after (Removed v p) is within stands = elim (cases_Bool (is_place v (string_bytes p) vol path)) [
    | inl here ↦ rw here refl
    | inr other ↦ rw other (stands ∙ sym (file_before records one was within))
  ]
  files_after (Put v p bytes) is within stands = elim (cases_Bool (is_place v (string_bytes p) vol path)) [
    | inl here ↦ rw here (ap (λ (b : List ℕ). Some b) (sym (bytes_last records one ∙ ap bytes_in is)))
    | inr other ↦ rw other (stands ∙ sym (file_before records one was within))
  ]

-- the entry reads no record past the new one
reads_after : (change : Change) (index vol : ℕ) (path : List ℕ) (was : Option Entry) → reads_end was ≤ index → reads_end (entry_after change index vol path was) ≤ index + 1
reads_after (Created number v p) index vol path was within = elim (cases_Bool (is_place v (string_bytes p) vol path)) [
  | inl here ↦ rw here (omega arith)
  | inr other ↦ rw other (omega (arith, within))
]
reads_after (Published v p bytes target) index vol path was within = elim (cases_Bool (is_place v (string_bytes target) vol path)) [
  | inl here ↦ rw here (omega arith)
  | inr other ↦ rw other (elim (cases_Bool (is_place v (string_bytes p) vol path)) [
    | inl there ↦ rw there (omega arith)
    | inr nowhere ↦ rw nowhere (omega (arith, within))
  ])
]
reads_after (Removed v p) index vol path was within = elim (cases_Bool (is_place v (string_bytes p) vol path)) [
  | inl here ↦ rw here (omega arith)
  | inr other ↦ rw other (omega (arith, within))
]
reads_after (Put v p bytes) index vol path was within = elim (cases_Bool (is_place v (string_bytes p) vol path)) [
  | inl here ↦ rw here (omega arith)
  | inr other ↦ rw other (omega (arith, within))
]

module _ {Y : Type 0} (count : ℕ) (old new : List Recorded) (one : Recorded) (shelves next : List (BTreeMap (String Y) Entry))
    (items : new ≡ old ++ one ∷ []) (is_done : one.done ≡ true) (follows : Follows one.change (length old) shelves next) (within : ReadsWithin old shelves) where
  now_is : (fork_after new).now ≡ changed (fork_after old).now one.change
  now_is = now_after (record { one = one; items = items; is_done = is_done; does = λ world. refl })

  pub shows_drafts : ShowsDrafts count old shelves → ShowsDrafts count new next
  shows_drafts shows vol path low high = rw now_is (rw (follows vol path low)
      (drafts_after old one (fork_after old).now vol path (held shelves (vol - 1) path) one.change (length old) (shows vol path low high)))

  pub shows_files : ShowsFiles count old shelves → ShowsFiles count new next
  shows_files shows vol path low high = rw now_is (rw (follows vol path low) (rw items
      (files_after old one (fork_after old).now vol path (held shelves (vol - 1) path) one.change refl (within (vol - 1) path) (shows vol path low high))))

  pub reads_within : ReadsWithin new next
  reads_within index path =
      let grown : length new ≡ length old + 1 = ap length items ∙ length-append old (one ∷ []) in
      let follow : held next index path ≡ entry_after one.change (length old) (index + 1) path (held shelves index path) =
      subst (λ (n : ℕ). held next n path ≡ entry_after one.change (length old) (index + 1) path (held shelves n path)) (back index) (follows (index + 1) path (omega arith)) in
      rw grown (rw follow (reads_after one.change (length old) (index + 1) path (held shelves index path) (within index path)))
    where
      back : (n : ℕ) → (n + 1) - 1 ≡ n
      back n = omega arith

-- the bytes that the record of an index settled
pub bytes_get : (records : List Recorded) (index : ℕ) (d : Recorded) → index < length records → bytes_at records index ≡ bytes_in (get_or records index d).change
bytes_get [] index d within = absurd (omega (arith, within))
bytes_get (first ∷ records) zero d within = refl
bytes_get (first ∷ records) (suc index) d within = bytes_get records index d (omega (arith, within))

pub bytes_past : (records : List Recorded) (index : ℕ) → length records ≤ index → bytes_at records index ≡ []
bytes_past [] index past = refl
bytes_past (first ∷ records) zero past = absurd (omega (arith, past))
bytes_past (first ∷ records) (suc index) past = bytes_past records index (omega (arith, past))

module _ {Y : Type 0} (count : ℕ) (records : List Recorded) (shelves next : List (BTreeMap (String Y) Entry)) (same : Same shelves next) where
  pub drafts_same : ShowsDrafts count records shelves → ShowsDrafts count records next
  drafts_same shows vol path low high = shows vol path low high ∙ ap is_draft (sym (same (vol - 1) path))

  pub files_same : ShowsFiles count records shelves → ShowsFiles count records next
  files_same shows vol path low high = shows vol path low high ∙ ap (file_of records) (sym (same (vol - 1) path))

  pub reads_same : ReadsWithin records shelves → ReadsWithin records next
  reads_same reads index path = rw (same index path) (reads index path)

-- a call that failed is recorded
module _ {Y : Type 0} (count : ℕ) (old new : List Recorded) (one : Recorded) (shelves : List (BTreeMap (String Y) Entry))
    (items : new ≡ old ++ one ∷ []) (is_done : one.done ≡ false) (within : ReadsWithin old shelves) where
  stays_now : (fork_after new).now ≡ (fork_after old).now
  stays_now = now_after (record { one = one; items = items; is_done = is_done; does = λ world. refl })

  pub drafts_open : ShowsDrafts count old shelves → ShowsDrafts count new shelves
  drafts_open shows vol path low high = rw stays_now (shows vol path low high)

  pub files_open : ShowsFiles count old shelves → ShowsFiles count new shelves
  files_open shows vol path low high = rw stays_now (shows vol path low high
      ∙ rw items (sym (file_before old one (held shelves (vol - 1) path) (within (vol - 1) path))))

  pub reads_open : ReadsWithin new shelves
  reads_open index path =
      let grown : length new ≡ length old + 1 = ap length items ∙ length-append old (one ∷ []) in
      let low = within index path in
      omega (arith, grown, low)

-- one more record, with the numbers and on the volumes that are allowed
pub numbered_more : (old new : List Recorded) (one : Recorded) (before next : ℕ) → new ≡ old ++ one ∷ [] → before ≤ next → numbers_end one.change ≤ next
    → All (λ (recorded : Recorded). numbers_end recorded.change ≤ before) old → All (λ (recorded : Recorded). numbers_end recorded.change ≤ next) new
numbered_more old new one before next items later within all =
    subst (λ (l : List Recorded). All (λ (recorded : Recorded). numbers_end recorded.change ≤ next) l) (sym items)
    (All-push (λ (recorded : Recorded). numbers_end recorded.change ≤ next) old one
    (All-weaker (λ (recorded : Recorded). numbers_end recorded.change ≤ before) (λ (recorded : Recorded). numbers_end recorded.change ≤ next)
    (λ recorded low. omega (arith, low, later)) old all) within)

pub placed_more : (old new : List Recorded) (one : Recorded) (count : ℕ) → new ≡ old ++ one ∷ [] → IsOnVolume count one.change
    → All (λ (recorded : Recorded). IsOnVolume count recorded.change) old → All (λ (recorded : Recorded). IsOnVolume count recorded.change) new
placed_more old new one count items on all =
    subst (λ (l : List Recorded). All (λ (recorded : Recorded). IsOnVolume count recorded.change) l) (sym items)
    (All-push (λ (recorded : Recorded). IsOnVolume count recorded.change) old one all on)

-- the names follow the change, as the call that did it read the shelves
pub follows_from : {Y : Type 0} (change : Change) (n index : ℕ) (was old new : List (BTreeMap (String Y) Entry)) → n ≡ index → was ≡ old → Follows change n was new → Follows change index old new
follows_from {Y = Y} change n index was old new same is follows vol path low =
    follows vol path low ∙ ap (λ (k : ℕ). entry_after change k vol path (held was (vol - 1) path)) same
    ∙ ap (λ (l : List (BTreeMap (String Y) Entry)). entry_after change index vol path (held l (vol - 1) path)) is
