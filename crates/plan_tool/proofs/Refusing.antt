-- What the words say, by whether the command takes them.
use Rattle.std.proofs.Common.{◌≡◌, ◌∙◌, ◌⊎◌, inl, inr, sym, ap, refl, List, [], ◌∷◌, Result, Err}
use Rattle.clap.specs.Words.{Text, fault_of}
use Rattle.clap.specs.Simple.{matches_of}
use Rattle.clap.specs.Walk.{Row}
use Rattle.script_lang.specs.declared.words_fault.WordsFault.{WordsFault}
use Rattle.script_lang.specs.declared.words_fault.WordsFault.TheVariants.{Usage, Memory}
use Rattle.plan_tool.specs.declared.options.Options.{Options}
use Rattle.plan_tool.specs.Command.{planner, IsTaken}
use Rattle.plan_tool.specs.Options.{options_in, options_unless, options_of}

unless_refused : {E : Type 0} (faults : List E) (rows : List Row) → (faults ≡ [] → ⊥) → options_unless faults rows ≡ Err Usage
unless_refused [] rows refused = absurd (refused refl)
unless_refused (fault ∷ faults) rows refused = refl

-- words that the command refuses are not of the form
pub options_refused : (words : List Text) (fault : WordsFault) → (fault ≡ Memory) ⊎ (IsTaken words → ⊥)
    → let refusal : Result Options WordsFault = Err fault in (refusal ≡ Err Memory) ⊎ (refusal ≡ options_of words)
unfolding IsTaken options_of
options_refused words Memory h = inl refl
options_refused words Usage (inl e) = absurd cc
options_refused words Usage (inr refused) = inr (sym (unless_refused (fault_of planner words) (matches_of planner words) refused))

-- others say what their options say
pub options_taken : (words : List Text) (rows : List Row) → IsTaken words → rows ≡ matches_of planner words → options_in rows ≡ options_of words
unfolding IsTaken options_of
options_taken words rows taken is = ap options_in is ∙ sym (ap (λ faults. options_unless faults (matches_of planner words)) taken)
