-- A run that was closed.
use Rattle.std.proofs.Common.{◌≡◌, ◌≢◌, ◌≤◌, ◌⊎◌, ◌∙◌, inl, inr, ℕ, List, [], refl, sym, ap, subst, arith, Option, Some, None, IfSome}
use Rattle.disk_model.specs.Causes.{Rose}
use Rattle.run_end.specs.declared.ending.Ending.{Ending}
use Rattle.run_end.specs.declared.ending.Ending.TheVariants.{Complete, SourceFault, SinkFault, NoMemory, Outside, Limit}
use Rattle.run_end.specs.Ending.{status_of}
use Rattle.run_end.specs.Closing.{Ends, Closed}
use Rattle.plan_tool.specs.declared.options.Options.{Options}
use Rattle.plan_tool.specs.Rows.{Input, input_of}
use Rattle.plan_tool.specs.Session.{status_at, Outputs, Planned, Runs}

-- a run that is neither complete nor failed by the sink has written nothing
no_output : (options : Options) (input : Option (List ℕ)) (ending : Ending) (output : List ℕ) → ending ≢ SinkFault → ending ≢ Complete → Outputs options input ending output → output ≡ []
no_output options input Complete output sink complete outputs = absurd (complete refl)
no_output options input SinkFault output sink complete outputs = absurd (sink refl)
no_output options input SourceFault output sink complete outputs = outputs
no_output options input NoMemory output sink complete outputs = outputs
no_output options input (Outside line column) output sink complete outputs = outputs.0
no_output options input (Limit line) output sink complete outputs = outputs.0
no_output options input ending output sink complete outputs = absurd outputs

pub run_of : (options : Options) (input taken mid taken' : Option (List ℕ)) (ending : Ending) (status : ℕ) → (p : Planned options input taken mid ending) → Closed ending taken taken' p.output status → Runs options input taken taken' status
run_of options input taken mid taken' ending status p k = elim k.closing_is [
  | inl e ↦ record { ending = ending; output = p.output; outputs = p.outputs; ends = subst (λ (c : Ending). Ends c taken taken' p.output status) e k.ends }
  | inr e ↦ record {
    ending = NoMemory;
    output = p.output;
    outputs = no_output options input ending p.output e.1 e.2 p.outputs;
    ends = subst (λ (c : Ending). Ends c taken taken' p.output status) e.0 k.ends;
  }
]

-- the place where the input stops, by the ending of a run
stops_by : {A B : Type 0} (options : Options) (bytes : List ℕ) (ending : Ending) (output : List ℕ) (status : ℕ) → Outputs options (Some bytes) ending output → (status ≡ 2 → A) → (status ≡ 3 → B) → status ≡ status_of ending
    → (status ≡ status_at (input_of bytes).stop) ⊎ (status ≡ 4) ⊎ A ⊎ B
stops_by options bytes Complete output status outputs source sink is = inl (is ∙ ap (λ (i : Input). status_at i.stop) (sym outputs.1))
stops_by options bytes SinkFault output status outputs source sink is = inr (inr (inr (sink is)))
stops_by options bytes SourceFault output status outputs source sink is = inr (inr (inl (source is)))
stops_by options bytes NoMemory output status outputs source sink is = inr (inl is)
stops_by options bytes (Outside line column) output status outputs source sink is = inl (is ∙ ap status_at (sym outputs.1))
stops_by options bytes (Limit line) output status outputs source sink is = inl (is ∙ ap status_at (sym outputs.1))
stops_by options bytes ending output status outputs source sink is = absurd outputs

-- where the source tells its input, the status is that of the place where it stops, or a cause is known
pub stops_at : {A B : Type 0} (options : Options) (input taken taken' : Option (List ℕ)) (status : ℕ) → Runs options input taken taken' status → (status ≡ 2 → A) → (status ≡ 3 → B)
    → IfSome input (λ bytes. (status ≡ status_at (input_of bytes).stop) ⊎ (status ≡ 4) ⊎ A ⊎ B)
stops_at options None taken taken' status r source sink = tt
stops_at options (Some bytes) taken taken' status r source sink = elim r.ends.status_is [
  | inl is ↦ stops_by options bytes r.ending r.output status r.outputs source sink is
  | inr three ↦ inr (inr (inr (sink three)))
]

-- the sink's fault, in the run or at the last line
pub rose_in : (ending : Ending) (first before now : ℕ) → (ending ≡ SinkFault → Rose first before) → first ≤ before → before ≤ now → (ending ≡ SinkFault) ⊎ Rose before now → Rose first now
rose_in ending first before now rose h k is = elim is [ inl e ↦ let r = rose e in omega arith | inr r ↦ omega arith ]
