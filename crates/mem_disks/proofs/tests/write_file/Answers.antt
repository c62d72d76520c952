use Rattle.std.proofs.Common.{◌≡◌, ℕ, List, [], ◌++◌, Option, Some, IsSome, false, not, refl, sym, ◌∙◌, ap, subst, option_map}
use Rattle.disk_model.specs.Worlds.{DraftPlace, World, Holds, has_draft, stands_at, drafts_without, published}
use Rattle.disk_model.specs.Told.{told_bytes}
use Rattle.disk_model.proofs.Laws.{from_done, told_list, is_told}
use Rattle.disk_model.specs.Places.{any_filter_false, any_dropped, holds_published}
use Rattle.mem_disks.proofs.tests.write_file.Goals as goal

-- what the sealed draft tells, where the disks tell
all_told : (told : Option (List World)) (piece : List ℕ) (first then' last : Option (List ℕ)) → IsSome told
    → first ≡ option_map (λ _. []) told → then' ≡ option_map (λ b. b ++ piece) first → last ≡ then' → told_bytes last ≡ piece
all_told told piece first then' last is empty more same =
    let list = told_list told is in
    let one : first ≡ Some [] = empty ∙ rw list.1 refl in
    let two : then' ≡ Some piece = more ∙ rw one refl in
    rw (same ∙ two) refl

settles : (vol : ℕ) (target bytes : List ℕ) (sealed : DraftPlace) (content : List ℕ) (world : World) → sealed.vol ≡ vol → content ≡ bytes
    → Holds vol target (Some bytes) (published sealed content target world)
settles vol target bytes sealed content world here same =
    subst (λ v. Holds v target (Some bytes) (published sealed content target world)) here
    (subst (λ b. Holds sealed.vol target (Some b) (published sealed content target world)) same (holds_published sealed content target world))

-- the draft's own path is free again
frees : (vol : ℕ) (path target content : List ℕ) (sealed : DraftPlace) (world : World) → sealed.vol ≡ vol → sealed.path ≡ path
    → has_draft (published sealed content target world) vol path ≡ false
frees vol path target content sealed world here same =
    subst (λ v. has_draft (published sealed content target world) v path ≡ false) here
    (subst (λ (p : List ℕ). has_draft (published sealed content target world) sealed.vol p ≡ false) same
    (any_filter_false {X = DraftPlace} (stands_at sealed.vol sealed.path) (λ d. not (stands_at sealed.vol target d)) (drafts_without world sealed.vol sealed.path)
    (any_dropped (stands_at sealed.vol sealed.path) world.drafts)))

pub returns-in-Ok-publish-clause-written : goal.returns-in-Ok-publish-clause-written
returns-in-Ok-publish-clause-written g c world is =
    let place = c.in-Ok.ensures.place ∙ c.append.ensures.place ∙ c.in_ok-draft.ensures.place in
    let from = from_done c.in-Ok-publish.ensures.ok world is in
    let told = c.create.ensures.worlds.honest.1 (is_told _ from.1.0 from.1.1) in
    let same = all_told _ _ _ _ _ told c.in_ok-draft.ensures.empty c.in_ok-append.ensures.ok c.in-Ok.ensures.bytes in
    subst (λ w. Holds c.args.vol c.args.target.now (Some c.args.bytes.now) w) (sym from.3)
    (settles c.args.vol c.args.target.now c.args.bytes.now (g.D.Sealed.SealedDraft.place c.in-Ok.sealed) _ from.0 (ap (λ (d : DraftPlace). d.vol) place) same)

pub returns-in-Ok-publish-clause-free : goal.returns-in-Ok-publish-clause-free
returns-in-Ok-publish-clause-free g c world is =
    let place = c.in-Ok.ensures.place ∙ c.append.ensures.place ∙ c.in_ok-draft.ensures.place in
    let from = from_done c.in-Ok-publish.ensures.ok world is in
    subst (λ w. has_draft w c.args.vol c.args.draft_path.now ≡ false) (sym from.3)
    (frees c.args.vol c.args.draft_path.now c.args.target.now (told_bytes (g.D.Sealed.SealedDraft.bytes c.in-Ok.sealed)) (g.D.Sealed.SealedDraft.place c.in-Ok.sealed) from.0 (ap (λ (d : DraftPlace). d.vol) place) (ap (λ (d : DraftPlace). d.path) place))
