use Rattle.std.proofs.Common.{◌≡◌, ◌++◌, ℕ, List, All, Some, sym, ap, ◌∙◌, subst}
use Rattle.std.specs.List.{flat_map}
use Rattle.std.specs.Ordering.{nat_cmp}
use Rattle.std.specs.BTreeMap.{get}
use Rattle.std.specs.Map.Iter.{deref_pair}
use Rattle.std.specs.declared.alloc.Global.{Global}
use Rattle.std.specs.declared.vec.Vec.{Vec}
use Rattle.std.proofs.lemmas.Map.Iter.{rest_more}
use Rattle.std.proofs.lemmas.List.Elements.{All-rest, All-same, All-head}
use Rattle.pool_survey.specs.declared.places.FoundOn.{FoundOn}
use Rattle.pool_open.specs.Plan.{places_at}
use Rattle.pool_open.specs.Surplus.{HasFiles, surplus_on, surplus_of}
use Rattle.pool_open.proofs.Lists.{flat_more}
use Rattle.pool_open.proofs.Placed.{places_here}
use Rattle.pool_open.proofs.metas.list_surplus.Goals as goal

pub block_id-requires : goal.block_id-requires
block_id-requires c =
    let is = rest_more deref_pair _ _ _ (c.in-Some.id, c.in-Some.found) c.in-Some.is c.next.ensures.steps in
    let P : ℕ × Vec FoundOn Global → Type 0 = λ entry. get nat_cmp c.args.blocks.now entry.0 ≡ Some entry.1 in
    let listed : get nat_cmp c.args.blocks.now c.in-Some.id.now ≡ Some c.in-Some.found.now =
    All-head P (c.in-Some.id.now, c.in-Some.found.now) c.next.new.self (All-same P _ _ (sym is) c.loop-id.invariant.listed) in
    c.requires.ids c.in-Some.id.now c.in-Some.found.now listed

pub push_all_surplus-requires : goal.push_all_surplus-requires
push_all_surplus-requires c =
    let is = rest_more deref_pair _ _ _ (c.in-Some.id, c.in-Some.found) c.in-Some.is c.next.ensures.steps in
    let P : ℕ × Vec FoundOn Global → Type 0 = λ entry. get nat_cmp c.args.blocks.now entry.0 ≡ Some entry.1 in
    let listed : get nat_cmp c.args.blocks.now c.in-Some.id.now ≡ Some c.in-Some.found.now =
    All-head P (c.in-Some.id.now, c.in-Some.found.now) c.next.new.self (All-same P _ _ (sym is) c.loop-id.invariant.listed) in
    subst (λ (l : List FoundOn). All HasFiles l) (places_here c.args.blocks.now c.in-Some.id.now c.in-Some.found.now listed ∙ sym c.deref.ensures.value) (c.requires.files c.in-Some.id.now)

pub loop-id-preserved : goal.loop-id-preserved
loop-id-preserved c =
    let is = rest_more deref_pair _ _ _ (c.in-Some.id, c.in-Some.found) c.in-Some.is c.next.ensures.steps in
    let one : ℕ × Vec FoundOn Global = (c.in-Some.id.now, c.in-Some.found.now) in
    let same : flat_map (surplus_on c.block_id.result) c.deref.result.now ≡ surplus_of one =
    ap (λ n. flat_map (surplus_on n) c.deref.result.now) c.block_id.ensures ∙ ap (λ (l : List FoundOn). flat_map (surplus_on one.0) l) c.deref.ensures.value in
    record {
      listed = All-rest (λ (entry : ℕ × Vec FoundOn Global). get nat_cmp c.args.blocks.now entry.0 ≡ Some entry.1) one c.next.new.self _ is c.loop-id.invariant.listed;
      places_are = flat_more surplus_of _ _ _ one _ c.next.new.self is c.loop-id.invariant.places_are
          (c.in_ok-push_all_surplus.ensures ∙ ap (λ l. places_at c.loop-id.places.items ++ l) same);
    }
