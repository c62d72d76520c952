-- What stands at a place of the disk, and what each call of the disk changes there.
use Rattle.std.proofs.Common.{◌≡◌, ◌≢◌, ℕ, suc, Bool, true, false, cond, eqb, not, List, [], ◌∷◌, Option, Some, None, filter, Contains, refl, ap, sym, ◌∙◌, arith}
use Rattle.std.specs.Prelude.{is_some, IsFalse, ◌||◌, ◌&&◌, bytes_eq, if◌then◌else◌}
use Rattle.std.specs.List.{list_any}
use Rattle.std.proofs.lemmas.Slice.Eq.{bytes_eq-Decides}
use Rattle.std.proofs.lemmas.Bool.{and_right, and_parts, false_from_ne_true, eqb-true, true≢false}
use Rattle.std.proofs.lemmas.Option.{same_Some}
use Rattle.disk_model.specs.Files.{is_place, with_content}
use Rattle.disk_model.specs.Worlds.{DraftPlace, draft_at, World, stands_at, has_draft, created, removed, settled_at, HasDraft, Holds, IsAbsent}
use Rattle.map_model.specs.World.{draft_number}
use Rattle.map_model.specs.Slots.{empty, holds, drafted, is_standing, slot_of, slot_at}

-- ---- places

and_true : (x : Bool) → (x && true) ≡ x
and_true true = refl
and_true false = refl

pub is_place-parts : (vol : ℕ) (path : List ℕ) (v : ℕ) (p : List ℕ) → is_place vol path v p ≡ true → (vol ≡ v) × (path ≡ p)
is_place-parts vol path v p same =
    let parts = and_parts (eqb vol v) (bytes_eq path p) same in (eqb-true vol v parts.0, (bytes_eq-Decides path p).0 parts.1)

pub is_place-apart : (vol : ℕ) (path : List ℕ) (v : ℕ) (p : List ℕ) → path ≢ p → is_place vol path v p ≡ false
is_place-apart vol path v p differ =
    and_right (eqb vol v) (bytes_eq path p) (false_from_ne_true (bytes_eq path p) (λ same. differ ((bytes_eq-Decides path p).0 same)))

pub is_place-path : (vol : ℕ) (path : List ℕ) (v : ℕ) → is_place vol path v path ≡ eqb vol v
is_place-path vol path v = ap (λ t. eqb vol v && t) ((bytes_eq-Decides path path).1 refl) ∙ and_true (eqb vol v)

-- ---- the number of the draft at a place

number_step : (e : Bool) (number : ℕ) (rest : Option ℕ) (others : Bool) → others ≡ is_some rest → (e || others) ≡ is_some (if e then Some number else rest)
number_step true number rest others same = refl
number_step false number rest others same = same

pub has_draft-number : (drafts : List DraftPlace) (v : ℕ) (p : List ℕ) → list_any (stands_at v p) drafts ≡ is_some (draft_number drafts v p)
has_draft-number [] v p = refl
has_draft-number (d ∷ drafts) v p = number_step (is_place d.vol d.path v p) d.number (draft_number drafts v p) (list_any (stands_at v p) drafts) (has_draft-number drafts v p)

none_of : {A : Type 0} (o : Option A) → is_some o ≡ false → o ≡ None
none_of None is = refl
none_of (Some x) is = absurd (true≢false is)

pub no_number : (world : World) (v : ℕ) (p : List ℕ) → IsFalse (has_draft world v p) → draft_number world.drafts v p ≡ None
no_number world v p none = none_of (draft_number world.drafts v p) (sym (has_draft-number world.drafts v p) ∙ none)

-- a number that is given is that of a draft that stands there
number_from : (e : Bool) (d : DraftPlace) (drafts : List DraftPlace) (n v : ℕ) (p : List ℕ) → is_place d.vol d.path v p ≡ e →
    (draft_number drafts v p ≡ Some n → Contains drafts (draft_at n v p)) → (if e then Some d.number else draft_number drafts v p) ≡ Some n →
    Contains (d ∷ drafts) (draft_at n v p)
number_from true d drafts n v p here rest is =
    let parts = is_place-parts d.vol d.path v p here in
    let number : d.number ≡ n = same_Some d.number n is in
    (0, omega arith, λ i. record { number = number i; vol = parts.0 i; path = parts.1 i })
number_from false d drafts n v p here rest is =
    let found = rest is in (suc found.0, omega (arith, found.1), found.2)

number_stands : (drafts : List DraftPlace) (n v : ℕ) (p : List ℕ) → draft_number drafts v p ≡ Some n → Contains drafts (draft_at n v p)
number_stands [] n v p is = absurd (cc is)
number_stands (d ∷ drafts) n v p is = number_from (is_place d.vol d.path v p) d drafts n v p refl (number_stands drafts n v p) is

-- the number at a place, without the drafts at another
without_step : (b c e : Bool) (d : DraftPlace) (without : List DraftPlace) (v : ℕ) (p : List ℕ) (rest : Option ℕ) →
    (c ≡ true → e ≡ b) → (b ≡ true → e ≡ c) → e ≡ is_place d.vol d.path v p → draft_number without v p ≡ cond b None rest →
    draft_number (cond (not c) (d ∷ without) without) v p ≡ cond b None (if e then Some d.number else rest)
without_step true true true d without v p rest first second is induction = induction
without_step true true false d without v p rest first second is induction = induction
without_step false true true d without v p rest first second is induction = absurd (true≢false (first refl))
without_step false true false d without v p rest first second is induction = induction
without_step true false true d without v p rest first second is induction = absurd (true≢false (second refl))
without_step true false false d without v p rest first second is induction = rw (sym is) induction
without_step false false true d without v p rest first second is induction = rw (sym is) refl
without_step false false false d without v p rest first second is induction = rw (sym is) induction

none_cond : (b : Bool) → ◌≡◌ {A = Option ℕ} None (cond b None None)
none_cond true = refl
none_cond false = refl

number_without : (drafts : List DraftPlace) (vol : ℕ) (path : List ℕ) (v : ℕ) (p : List ℕ) →
    draft_number (filter (λ d. not (stands_at vol path d)) drafts) v p ≡ cond (is_place vol path v p) None (draft_number drafts v p)
number_without [] vol path v p = none_cond (is_place vol path v p)
number_without (d ∷ drafts) vol path v p =
    without_step (is_place vol path v p) (is_place d.vol d.path vol path) (is_place d.vol d.path v p) d (filter (λ d. not (stands_at vol path d)) drafts) v p (draft_number drafts v p)
    (λ gone. let parts = is_place-parts d.vol d.path vol path gone in λ i. is_place (parts.0 i) (parts.1 i) v p)
    (λ here. let parts = is_place-parts vol path v p here in λ i. is_place d.vol d.path (sym parts.0 i) (sym parts.1 i))
    refl (number_without drafts vol path v p)

-- ---- what each call changes

create_cond : (b : Bool) (number : ℕ) (d : Option ℕ) (c : Option (List ℕ)) →
    slot_of (if b then Some number else d) (if b then None else c) ≡ cond b (drafted number) (slot_of d c)
create_cond true number d c = refl
create_cond false number d c = refl

remove_cond : (b : Bool) (d : Option ℕ) (c : Option (List ℕ)) → slot_of (cond b None d) (if b then None else c) ≡ cond b empty (slot_of d c)
remove_cond true d c = refl
remove_cond false d c = refl

settle_cond : (b : Bool) (bytes : List ℕ) (d : Option ℕ) (c : Option (List ℕ)) →
    slot_of (cond b None d) (if b then Some bytes else c) ≡ cond b (holds bytes) (slot_of d c)
settle_cond true bytes d c = refl
settle_cond false bytes d c = refl

pub slot_created : (draft : DraftPlace) (world : World) (v : ℕ) (p : List ℕ) →
    slot_at (created draft world) v p ≡ cond (is_place draft.vol draft.path v p) (drafted draft.number) (slot_at world v p)
slot_created draft world v p = create_cond (is_place draft.vol draft.path v p) draft.number (draft_number world.drafts v p) (world.settled v p)

pub slot_removed : (vol : ℕ) (path : List ℕ) (world : World) (v : ℕ) (p : List ℕ) →
    slot_at (removed vol path world) v p ≡ cond (is_place vol path v p) empty (slot_at world v p)
slot_removed vol path world v p =
    ap (λ d. slot_of d (with_content world.settled vol path None v p)) (number_without world.drafts vol path v p)
    ∙ remove_cond (is_place vol path v p) (draft_number world.drafts v p) (world.settled v p)

pub slot_settled : (vol : ℕ) (path bytes : List ℕ) (world : World) (v : ℕ) (p : List ℕ) →
    slot_at (settled_at vol path bytes world) v p ≡ cond (is_place vol path v p) (holds bytes) (slot_at world v p)
slot_settled vol path bytes world v p =
    ap (λ d. slot_of d (with_content world.settled vol path (Some bytes) v p)) (number_without world.drafts vol path v p)
    ∙ settle_cond (is_place vol path v p) bytes (draft_number world.drafts v p) (world.settled v p)

-- ---- a slot in the disk's own words

of_drafted : (d : Option ℕ) (c : Option (List ℕ)) (n : ℕ) → slot_of d c ≡ drafted n → d ≡ Some n
of_drafted (Some m) c n is = let same : m ≡ n = cc is in ap Some same
of_drafted None None n is = absurd (cc is)
of_drafted None (Some bytes) n is = absurd (cc is)

of_holds : (d : Option ℕ) (c : Option (List ℕ)) (bytes : List ℕ) → slot_of d c ≡ holds bytes → (c ≡ Some bytes) × (is_some d ≡ false)
of_holds (Some m) c bytes is = absurd (cc is)
of_holds None None bytes is = absurd (cc is)
of_holds None (Some other) bytes is = let same : other ≡ bytes = cc is in (ap Some same, refl)

of_empty : (d : Option ℕ) (c : Option (List ℕ)) → is_standing (slot_of d c) ≡ false → (c ≡ None) × (is_some d ≡ false)
of_empty (Some m) c is = absurd (true≢false is)
of_empty None None is = (refl, refl)
of_empty None (Some bytes) is = absurd (true≢false is)

slot_empty : (d : Option ℕ) (c : Option (List ℕ)) → is_some d ≡ false → c ≡ None → slot_of d c ≡ empty
slot_empty (Some m) c none bare = absurd (true≢false none)
slot_empty None c none bare = ap (slot_of None) bare

module _ (world : World) (v : ℕ) (p : List ℕ) where
  pub drafted_number : (n : ℕ) → slot_at world v p ≡ drafted n → draft_number world.drafts v p ≡ Some n
  drafted_number n is = of_drafted (draft_number world.drafts v p) (world.settled v p) n is

  pub drafted_stands : (n : ℕ) → slot_at world v p ≡ drafted n → HasDraft world (draft_at n v p)
  drafted_stands n is = number_stands world.drafts n v p (of_drafted (draft_number world.drafts v p) (world.settled v p) n is)

  pub held_holds : (bytes : List ℕ) → slot_at world v p ≡ holds bytes → Holds v p (Some bytes) world
  held_holds bytes is =
      let parts = of_holds (draft_number world.drafts v p) (world.settled v p) bytes is in
      record { file = parts.0; no_draft = has_draft-number world.drafts v p ∙ parts.1 }

  pub bare_absent : IsFalse (is_standing (slot_at world v p)) → IsAbsent world v p
  bare_absent is =
      let parts = of_empty (draft_number world.drafts v p) (world.settled v p) is in
      record { file = parts.0; no_draft = has_draft-number world.drafts v p ∙ parts.1 }

  pub absent_empty : IsAbsent world v p → slot_at world v p ≡ empty
  absent_empty absent =
      slot_empty (draft_number world.drafts v p) (world.settled v p) (sym (has_draft-number world.drafts v p) ∙ absent.no_draft) absent.file
