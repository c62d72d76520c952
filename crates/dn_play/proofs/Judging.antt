-- Words that aren't carried out.
use Rattle.std.proofs.Common.{◌≡◌, ◌⊎◌, inl, inr, ℕ, Bool, true, false, List, [], Option, None, Some, IfSome, refl, sym, ◌∙◌, ap, subst, arith}
use Rattle.disk_model.specs.Worlds.{World}
use Rattle.disk_model.specs.Files.{Files}
use Rattle.map_model.specs.Sound.{IsSound}
use Rattle.disk_model.specs.Told.{CanLeave}
use Rattle.disk_model.specs.Marks.{Mark}
use Rattle.dn_play.proofs.Opening.{alike_start, only_start}
use Rattle.run_end.specs.declared.ending.Ending.{Ending}
use Rattle.run_end.specs.declared.ending.Ending.TheVariants.{Usage, NoMemory, NotCarriedOut}
use Rattle.run_end.specs.Ending.{status_of}
use Rattle.run_end.specs.Closing.{Declines}
use Rattle.run_end.proofs.LastLine.{closed_for_memory}
use Rattle.dn_play.specs.Endings.{status_at}
use Rattle.run_model.specs.Script.{script_of}
use Rattle.dn_play.specs.Outside.{IsJudged}
use Rattle.dn_play.specs.Play.{Runs}
use Rattle.line_io.proofs.Appending.{appends_nothing}
use Rattle.dn_play.proofs.LastLine.{run_of}

-- words that fit and name one pool and volume are refused for want of memory alone
pub judged_memory : (fit later : Bool) (ending : Ending) → IsJudged fit later (Some ending) → fit ≡ true → later ≡ false → ending ≡ NoMemory
judged_memory fit later Usage j fits one = absurd (let x : true ≡ false = sym fits ∙ j in cc x)
judged_memory fit later NoMemory j fits one = refl
judged_memory fit later NotCarriedOut j fits one = absurd (let x : false ≡ true = sym one ∙ j.1 in cc x)
judged_memory fit later ending j fits one = absurd j

pub judged_usage : (fit later : Bool) (ending : Ending) (taken taken' : Option (List ℕ)) (status : ℕ) → IsJudged fit later (Some ending) → fit ≡ false → Declines ending taken taken' status → Declines Usage taken taken' status
judged_usage fit later Usage taken taken' status j unfit k = k
judged_usage fit later NoMemory taken taken' status j unfit k = closed_for_memory Usage taken taken' [] status (λ e. cc e) (λ e. cc e) k
judged_usage fit later NotCarriedOut taken taken' status j unfit k = absurd (let x : false ≡ true = sym unfit ∙ j.0 in cc x)
judged_usage fit later ending taken taken' status j unfit k = absurd j

pub judged_later : (fit later : Bool) (ending : Ending) (taken taken' : Option (List ℕ)) (status : ℕ) → IsJudged fit later (Some ending) → fit ≡ true → Declines ending taken taken' status → Declines NotCarriedOut taken taken' status
judged_later fit later Usage taken taken' status j fits k = absurd (let x : true ≡ false = sym fits ∙ j in cc x)
judged_later fit later NoMemory taken taken' status j fits k = closed_for_memory NotCarriedOut taken taken' [] status (λ e. cc e) (λ e. cc e) k
judged_later fit later NotCarriedOut taken taken' status j fits k = k
judged_later fit later ending taken taken' status j fits k = absurd j

-- the endings that the words never have
pub never_judged : (fit later : Bool) (ending other : Ending) → IsJudged fit later (Some ending) → ending ≡ other → IsJudged fit later (Some other)
never_judged fit later ending other j e = subst (λ (x : Ending). IsJudged fit later (Some x)) e j

-- nothing was carried out for want of memory
pub run_without : (Faulty : ℕ → ℕ → Type 0) (since : ℕ → Files → Type 0) (mark : Mark) (told : Option (List World)) (shares : List ℕ) (input taken taken' : Option (List ℕ)) (ending : Ending) (status : ℕ) → ending ≡ NoMemory → ((image : Files) → since mark.moment image → CanLeave told image) → Declines ending taken taken' status →
    Runs Faulty since (CanLeave told) (record { entry = mark; exit = mark; told = told; shares = shares; input = input }) taken taken' status
run_without Faulty since mark told shares input taken taken' ending status is only k = run_of Faulty since (CanLeave told) _ taken taken taken' NoMemory status
    (record {
      shown = [];
      goes = inl (record {
        is_before = inl refl;
        nothing = refl;
        counts = record { faults = omega arith; absences = omega arith; next_number = omega arith; moment = omega arith };
        open_fault = λ e. absurd (cc e);
        images = λ start holds image s. alike_start start image (only_start told start image holds (only image s));
        sound = λ start holds sound image s. subst IsSound (sym (only_start told start image holds (only image s))) sound;
      });
      written = appends_nothing taken;
    })
    (subst (λ (x : Ending). Declines x taken taken' status) is k)

-- so the status is 4, unless the sink fails
pub memory_stops : (A B C : Type 0) (ending : Ending) (input : Option (List ℕ)) (status : ℕ) → ending ≡ NoMemory → (status ≡ status_of ending) ⊎ (status ≡ 3) ⊎ (status ≡ 4) → (status ≡ 3 → B) →
    IfSome input (λ bytes. (status ≡ status_at (script_of bytes).stop) ⊎ (status ≡ 4) ⊎ A ⊎ B ⊎ C)
memory_stops A B C ending None status e is sink = tt
memory_stops A B C ending (Some bytes) status e is sink = elim is [ inl k ↦ inr (inl (k ∙ ap status_of e)) | inr k ↦ elim k [ inl three ↦ inr (inr (inr (inl (sink three)))) | inr four ↦ inr (inl four) ] ]
