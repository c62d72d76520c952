use Rattle.std.proofs.Common.{rules, ◌≡◌, ◌∙◌, sym, ap, subst, refl, inl, inr, Err, List, length, map, string_bytes}
use Rattle.std.proofs.lemmas.List.{length-map}
use Rattle.work_table.specs.declared.answers.SubmitFault.TheVariants.{InProgress, Memory}
use Rattle.work_table.specs.declared.step_work.StepWork.{StepWork}
use Rattle.work_table.specs.Steps.{fresh_steps}
use Rattle.work_table.specs.History.{state_of}
use Rattle.work_table.specs.Assigned.{assigned, AreVolumes}
use Rattle.std.specs.Prelude.{All}
use Rattle.work_table.proofs.Assigning.{fresh-volumes}
use Rattle.work_table.proofs.Stepping.{length-fresh_steps}
use Rattle.work_table.proofs.Adding.{submit-refused, submit-accepted}
use Rattle.work_table.proofs.table.WorkTable.submit.Goals as goal

pub returns-then-eq-clause-stands : goal.returns-then-eq-clause-stands
returns-then-eq-clause-stands c = submit-refused c.args.self.now c.args.plan c.args.id (map string_bytes c.args.volumes.now) InProgress (inr (search rules))

pub returns-in_err-steps-clause-stands : goal.returns-in_err-steps-clause-stands
returns-in_err-steps-clause-stands c =
    let is : c.from_residual.result ≡ Err Memory = search rules in
    rw is (submit-refused c.args.self.now c.args.plan c.args.id (map string_bytes c.args.volumes.now) Memory (inl refl))

pub invariant_of-self : goal.invariant_of-self
invariant_of-self c =
    let planned : c.into_vec-planned.result.items ≡ c.args.plan.steps = search rules in
    let steps : c.new.result ≡ fresh_steps (map string_bytes c.args.volumes.now) c.args.plan.steps = search rules in
    record {
      as_many = ap length steps ∙ length-fresh_steps _ c.args.plan.steps ∙ ap length (sym planned);
      few = rw planned c.requires.in_form.few_steps;
      in_form = rw planned c.requires.in_form.steps_in_form;
    }

pub returns-clause-stands : goal.returns-clause-stands
returns-clause-stands c =
    let planned : c.into_vec-planned.result.items ≡ c.args.plan.steps = search rules in
    let steps : c.new.result ≡ fresh_steps (map string_bytes c.args.volumes.now) c.args.plan.steps = search rules in
    let state : c.state_of.result ≡ state_of (fresh_steps (map string_bytes c.args.volumes.now) c.args.plan.steps) = search rules in
    let number : c.self.inside.work.plan_no ≡ c.args.self.now.work.plan_no = search rules in
    submit-accepted c.args.self.now _ c.args.plan c.args.id (map string_bytes c.args.volumes.now) (search rules)
    (rw (state, steps, number)) planned

pub returns-clause-volumes : goal.returns-clause-volumes
returns-clause-volumes c =
    let steps : c.new.result ≡ fresh_steps (map string_bytes c.args.volumes.now) c.args.plan.steps = search rules in
    let many : length (map string_bytes c.args.volumes.now) ≡ length c.args.volumes.now = length-map c.args.volumes.now string_bytes in
    let fresh = fresh-volumes (map string_bytes c.args.volumes.now) c.args.plan.steps c.requires.on_node in
    subst (λ n. All (AreVolumes n) (map assigned c.new.result)) many
    (subst (λ (l : List StepWork). All (AreVolumes (length (map string_bytes c.args.volumes.now))) (map assigned l)) (sym steps) fresh)
