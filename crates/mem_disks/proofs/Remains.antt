-- What a crash leaves of a world, and the disks that are opened on it.
use Rattle.std.proofs.Common.{◌≡◌, ℕ, ◌-◌, ◌<◌, ◌≤◌, ◌⊎◌, inl, inr, Bool, true, false, not, List, [], ◌∷◌, ◌++◌, filter, Option, None, Some, IsSome, IsTrue, string_bytes, Result, Ok, Err, OnOk, refl, sym, ◌∙◌, ap, subst, arith}
use Rattle.std.proofs.Math.Path.{fun_ext}
use Rattle.std.specs.BTreeMap.{BTreeMap, get_by_text}
use Rattle.std.specs.declared.string.String.{String}
use Rattle.std.proofs.lemmas.Bool.{cases_Bool, both_ways, cases_lt}
use Rattle.std.proofs.lemmas.Option.{same_Some}
use Rattle.std.proofs.lemmas.List.{append_assoc, append-nil}
use Rattle.disk_model.specs.Files.{Files, is_place}
use Rattle.disk_model.specs.Worlds.{DraftPlace, World, IsAbsent, stands_at, draft_at, created, removed, settled_at}
use Rattle.disk_model.specs.Told.{IsWorldOf, IsFresh, Leaves, CanLeave}
use Rattle.disk_model.specs.Places.{is_place_self, same_place}
use Rattle.mem_disks.specs.declared.history.Recorded.{Recorded}
use Rattle.mem_disks.specs.declared.shelves.Entry.{Entry}
use Rattle.mem_disks.specs.Shelves.{held}
use Rattle.mem_disks.specs.History.{Fork, fork_after, worlds_of}
use Rattle.mem_disks.specs.HistoryLaws.{now_told, tried_told}
use Rattle.mem_disks.specs.Entries.{file_of, ShowsDrafts, ShowsFiles}
use Rattle.mem_disks.specs.Images.{left_of, only_files, counted, counted_done, IsImageOf, TakesOver}
use Rattle.mem_disks.proofs.Follows.{kept_drafts}
use Rattle.mem_disks.proofs.Directory.{Has, has_last, finds}

-- ---- a call that was done leaves its change in the image

pub no_drafts : (vol : ℕ) (path : List ℕ) (drafts : List DraftPlace) → drafts ≡ [] → filter (λ draft. not (stands_at vol path draft)) drafts ≡ []
no_drafts vol path drafts none = ap (λ (ds : List DraftPlace). filter (λ draft. not (stands_at vol path draft)) ds) none

module _ (fill : List ℕ) (world image : World) (is : IsImageOf world fill image) where
  pub image_created : (number vol : ℕ) (path : List ℕ) → IsImageOf (created (draft_at number vol path) world) fill (settled_at vol path fill image)
  image_created number vol path = record {
    drafts = no_drafts vol path image.drafts is.drafts;
    files = λ v p. elim (cases_Bool (is_place vol path v p)) [
      | inl here ↦ rw here refl
      | inr other ↦ rw other (is.files v p)
    ];
  }

  pub image_removed : (vol : ℕ) (path : List ℕ) → IsImageOf (removed vol path world) fill (removed vol path image)
  image_removed vol path = record {
    drafts = no_drafts vol path image.drafts is.drafts;
    files = λ v p. rw (kept_drafts vol path v p world.drafts) (elim (cases_Bool (is_place vol path v p)) [
      | inl here ↦ rw here refl
      | inr other ↦ rw other (is.files v p)
    ]);
  }

  pub image_settled : (vol : ℕ) (path bytes : List ℕ) → IsImageOf (settled_at vol path bytes world) fill (settled_at vol path bytes image)
  image_settled vol path bytes = record {
    drafts = no_drafts vol path image.drafts is.drafts;
    files = λ v p. rw (kept_drafts vol path v p world.drafts) (elim (cases_Bool (is_place vol path v p)) [
      | inl here ↦ rw here refl
      | inr other ↦ rw other (is.files v p)
    ]);
  }

-- ---- an image grows

module _ (files : Files) (Seen : ℕ → List ℕ → Type 0) (image : World) (takes : TakesOver files Seen image) where
  pub sees : (More : ℕ → List ℕ → Type 0) → ((v : ℕ) (p : List ℕ) → More v p → Seen v p) → TakesOver files More image
  sees More from = record { drafts = takes.drafts; some = takes.some; seen = λ v p more. takes.seen v p (from v p more) }

  -- nothing stands at one more place
  pub sees_none : (vol : ℕ) (path : List ℕ) → files vol path ≡ None → TakesOver files (λ v p. Seen v p ⊎ IsTrue (is_place vol path v p)) image
  sees_none vol path none = record {
    drafts = takes.drafts;
    some = takes.some;
    seen = λ v p at. elim at [
      | inl before ↦ takes.seen v p before
      | inr here ↦
          let same = same_place vol path v p here in
          subst (λ n. image.settled n p ≡ files n p) same.0 (subst (λ (q : List ℕ). image.settled vol q ≡ files vol q) same.1
          (elim (takes.some vol path) [ inl is ↦ is | inr absent ↦ absent ∙ sym none ]))
    ];
  }

  -- a file stands at one more place
  pub sees_file : (vol : ℕ) (path bytes : List ℕ) → files vol path ≡ Some bytes
      → TakesOver files (λ v p. Seen v p ⊎ IsTrue (is_place vol path v p)) (settled_at vol path bytes image)
  sees_file vol path bytes is = record {
    drafts = no_drafts vol path image.drafts takes.drafts;
    some = λ v p. elim (cases_Bool (is_place vol path v p)) [
      | inl here ↦ rw here (inl (sym (at_place v p here)))
      | inr other ↦ rw other (takes.some v p)
    ];
    seen = λ v p at. elim (cases_Bool (is_place vol path v p)) [
      | inl here ↦ rw here (sym (at_place v p here))
      | inr other ↦ rw other (elim at [ inl before ↦ takes.seen v p before | inr here ↦ absurd (both_ways _ other here) ])
    ];
  }
    where
      at_place : (v : ℕ) (p : List ℕ) → is_place vol path v p ≡ true → files v p ≡ Some bytes
      at_place v p here =
          let same = same_place vol path v p here in
          subst (λ n. files n p ≡ Some bytes) same.0 (subst (λ (q : List ℕ). files vol q ≡ Some bytes) same.1 is)

-- an empty image, of no volume
pub takes_nothing : (files : Files) → TakesOver files (λ v p. (1 ≤ v) × (v ≤ 0)) (record { settled = λ v p. None; drafts = [] })
takes_nothing files = record { drafts = refl; some = λ v p. inr refl; seen = λ v p seen. absurd (omega (arith, seen.0, seen.1)) }

-- ---- the names of a volume, one after the other

module _ {Y : Type 0} where
  -- all earlier volumes, and the names before the rest
  abbrev pub SeenSo : ℕ → List (String Y × Entry) → ℕ → List ℕ → Type 0
  SeenSo vol done v p = ((1 ≤ v) × (v < vol)) ⊎ ((v ≡ vol) × Has done p)

  pub record Taken (files : Files) (vol : ℕ) (all rest : List (String Y × Entry)) (image : World) : Type 0 where
    pub done : List (String Y × Entry)
    pub whole : all ≡ done ++ rest
    pub takes : TakesOver files (SeenSo vol done) image

  pub none_taken : (files : Files) (vol : ℕ) (all : List (String Y × Entry)) (image : World) → TakesOver files (λ v p. (1 ≤ v) × (v ≤ vol - 1)) image → Taken files vol all all image
  none_taken files vol all image takes = record {
    done = [];
    whole = refl;
    takes = sees files _ image takes (SeenSo vol []) (λ v p seen. elim seen [
      | inl before ↦ (before.0, omega (arith, before.1))
      | inr has ↦ absurd has.1
    ]);
  }

  module _ (files : Files) (vol : ℕ) (all rest : List (String Y × Entry)) (image : World) (taken : Taken files vol all rest image)
      (e : String Y × Entry) (more : List (String Y × Entry)) (is : rest ≡ e ∷ more) where
    again : all ≡ (taken.done ++ e ∷ []) ++ more
    again = taken.whole ∙ ap (λ (l : List (String Y × Entry)). taken.done ++ l) is ∙ sym (append_assoc taken.done (e ∷ []) more)

    one_more : (after : World) → TakesOver files (λ v p. SeenSo vol taken.done v p ⊎ IsTrue (is_place vol (string_bytes e.0) v p)) after → Taken files vol all more after
    one_more after takes = record {
      done = taken.done ++ e ∷ [];
      whole = again;
      takes = sees files _ after takes (SeenSo vol (taken.done ++ e ∷ [])) (λ v p seen. elim seen [
        | inl before ↦ inl (inl before)
        | inr has ↦ elim (has_last taken.done e p has.1) [
          | inl earlier ↦ inl (inr (has.0, earlier))
          | inr last ↦ inr (here v p has.0 last)
        ]
      ]);
    }
      where
        here : (v : ℕ) (p : List ℕ) → v ≡ vol → string_bytes e.0 ≡ p → is_place vol (string_bytes e.0) v p ≡ true
        here v p same last =
            subst (λ n. is_place vol (string_bytes e.0) n p ≡ true) (sym same)
            (subst (λ (q : List ℕ). is_place vol (string_bytes e.0) vol q ≡ true) last (is_place_self vol (string_bytes e.0)))

    pub none_more : files vol (string_bytes e.0) ≡ None → Taken files vol all more image
    none_more none = one_more image (sees_none files _ image taken.takes vol (string_bytes e.0) none)

    pub file_more : (bytes : List ℕ) → files vol (string_bytes e.0) ≡ Some bytes → (after : World) → after ≡ settled_at vol (string_bytes e.0) bytes image → Taken files vol all more after
    file_more bytes is after same =
        one_more after (subst (λ w. TakesOver files (λ v p. SeenSo vol taken.done v p ⊎ IsTrue (is_place vol (string_bytes e.0) v p)) w) (sym same)
        (sees_file files _ image taken.takes vol (string_bytes e.0) bytes is))

  -- all names of the volume were taken over
  pub all_taken : (count : ℕ) (records : List Recorded) (shelves : List (BTreeMap (String Y) Entry)) (fill : List ℕ) (vol : ℕ) (shelf : BTreeMap (String Y) Entry) (image : World)
      → 1 ≤ vol → vol ≤ count → ShowsDrafts count records shelves → ShowsFiles count records shelves → ((path : List ℕ) → held shelves (vol - 1) path ≡ get_by_text shelf path)
      → (all rest : List (String Y × Entry)) → all ≡ shelf.entries → rest ≡ [] → Taken (left_of (fork_after records).now fill) vol all rest image
      → TakesOver (left_of (fork_after records).now fill) (λ v p. (1 ≤ v) × (v ≤ vol)) image
  all_taken count records shelves fill vol shelf image low high drafts files same all rest is ended taken = record {
    drafts = taken.takes.drafts;
    some = taken.takes.some;
    seen = λ v p at. elim (cases_lt v vol) [
      | inl before ↦ taken.takes.seen v p (inl (at.0, before))
      | inr past ↦
          let here : vol ≡ v = omega (arith, past, at.1) in
          subst (λ n. image.settled n p ≡ left_of (fork_after records).now fill n p) here (on_volume p (get_by_text shelf p) refl)
    ];
  }
    where
      whole : taken.done ≡ shelf.entries
      whole = sym (append-nil taken.done) ∙ ap (λ (l : List (String Y × Entry)). taken.done ++ l) (sym ended) ∙ sym taken.whole ∙ is

      on_volume : (p : List ℕ) (entry : Option Entry) → get_by_text shelf p ≡ entry → image.settled vol p ≡ left_of (fork_after records).now fill vol p
      on_volume p None none =
          let nothing : left_of (fork_after records).now fill vol p ≡ None =
          rw (drafts vol p low high) (rw (same p ∙ none) (files vol p low high ∙ ap (file_of records) (same p ∙ none))) in
          elim (taken.takes.some vol p) [ inl has ↦ has | inr absent ↦ absent ∙ sym nothing ]
      on_volume p (Some entry) stands =
          taken.takes.seen vol p (inr (refl, subst (λ (l : List (String Y × Entry)). Has l p) (sym whole) (finds shelf.entries p (subst (λ o. IsSome o) (sym stands) refl))))

-- ---- all volumes

-- where no volume is, nothing stands
pub all_volumes : (count : ℕ) (world : World) (fill : List ℕ) (image : World) → ((vol : ℕ) (path : List ℕ) → (IsAbsent world vol path → ⊥) → (1 ≤ vol) × (vol ≤ count))
    → TakesOver (left_of world fill) (λ v p. (1 ≤ v) × (v ≤ count)) image → IsImageOf world fill image
all_volumes count world fill image within takes = record {
  drafts = takes.drafts;
  files = λ v p. elim (takes.some v p) [
    | inl is ↦ is
    | inr none ↦ by_content v p none (left_of world fill v p) refl
  ];
}
  where
    stands : (v : ℕ) (p bytes : List ℕ) → left_of world fill v p ≡ Some bytes → IsAbsent world v p → ⊥
    stands v p bytes is absent =
        let nothing : left_of world fill v p ≡ None = rw absent.no_draft absent.file in
        cc (sym nothing ∙ is)

    by_content : (v : ℕ) (p : List ℕ) → image.settled v p ≡ None → (content : Option (List ℕ)) → left_of world fill v p ≡ content → image.settled v p ≡ left_of world fill v p
    by_content v p none None is = none ∙ sym is
    by_content v p none (Some bytes) is = takes.seen v p (within v p (stands v p bytes is))

-- ---- the disks that are opened on the image

pub image_is : (world : World) (fill : List ℕ) (image : World) → IsImageOf world fill image → image ∷ [] ≡ only_files (left_of world fill)
image_is world fill image is =
    ap (λ (files : Files). record { settled = files; drafts = image.drafts } ∷ []) (fun_ext (λ v. fun_ext (λ p. is.files v p)))
    ∙ ap (λ (drafts : List DraftPlace). record { settled = left_of world fill; drafts = drafts } ∷ []) is.drafts

-- a world can leave what a crash leaves of it
pub leaves : (world : World) (fill : List ℕ) → Leaves world (left_of world fill)
leaves world fill = record {
  drafts = λ v p stands. rw stands refl;
  settled = λ v p none. rw none refl;
}

pub on_ok : {T E : Type 0} {P Q : Type 0} (result : Result T E) → (P → Q) → OnOk result P → OnOk result Q
on_ok (Ok x) leads holds = leads holds
on_ok (Err e) leads holds = tt

-- ---- which world is taken

-- the world that the open call leaves where it counts as done, else the one where no open call was done
abbrev chosen : Bool → Bool → Fork → World
chosen true pending fork = counted_done pending fork
chosen false pending fork = fork.now

-- the world that counts, of a list that may be empty
abbrev of_list : World → Bool → List World → World
of_list none d [] = none
of_list none d (w ∷ ws) = counted d w ws

-- the files of the first world
abbrev settled_of : Files → List World → Files
settled_of none [] = none
settled_of none (w ∷ ws) = w.settled

module _ (done pending is : Bool) (fork after : Fork) (fill : List ℕ) (closed : is ≡ false)
    (left : done ≡ false → IsImageOf fork.now fill after.now) (left_done : done ≡ true → IsImageOf (counted_done pending fork) fill after.now) where
  of_chosen : Some (worlds_of is after) ≡ Some (only_files (left_of (chosen done pending fork) fill))
  of_chosen = rw closed (by_done done left left_done)
    where
      by_done : (d : Bool) → (d ≡ false → IsImageOf fork.now fill after.now) → (d ≡ true → IsImageOf (counted_done pending fork) fill after.now)
          → Some (after.now ∷ []) ≡ Some (only_files (left_of (chosen d pending fork) fill))
      by_done true one two = ap (λ (ws : List World). Some ws) (image_is (counted_done pending fork) fill after.now (two refl))
      by_done false one two = ap (λ (ws : List World). Some ws) (image_is fork.now fill after.now (one refl))

  pub image_told : (world : World) (others : List World) → Some (worlds_of pending fork) ≡ Some (world ∷ others)
      → Some (worlds_of is after) ≡ Some (only_files (left_of (counted done world others) fill))
  image_told world others tells =
      of_chosen ∙ ap (λ (w : World). Some (only_files (left_of w fill))) (by_pending done pending ∙ ap (λ (ws : List World). of_list fork.now done ws) (same_Some _ _ tells))
    where
      by_pending : (d p : Bool) → chosen d p fork ≡ of_list fork.now d (worlds_of p fork)
      by_pending true true = refl
      by_pending true false = refl
      by_pending false true = refl
      by_pending false false = refl

  pub image_fresh : IsFresh (Some (worlds_of is after))
  image_fresh = (left_of (chosen done pending fork) fill, of_chosen)

  pub image_left : (files : Files) → Some (worlds_of is after) ≡ Some (only_files files) → CanLeave (Some (worlds_of pending fork)) files
  image_left files opens = (
    chosen done pending fork,
    is_told done pending,
    subst (λ (image : Files). Leaves (chosen done pending fork) image) same (leaves (chosen done pending fork) fill),
  )
    where
      same : left_of (chosen done pending fork) fill ≡ files
      same = ap (λ (ws : List World). settled_of files ws) (same_Some _ _ (sym of_chosen ∙ opens))

      is_told : (d p : Bool) → IsWorldOf (Some (worlds_of p fork)) (chosen d p fork)
      is_told true true = tried_told fork
      is_told true false = now_told false fork
      is_told false p = now_told p fork
