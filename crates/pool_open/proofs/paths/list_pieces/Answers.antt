use Rattle.std.proofs.Common.{◌≡◌, ◌++◌, ℕ, List, ap, ◌∙◌}
use Rattle.std.specs.List.{flat_map}
use Rattle.std.specs.Map.Iter.{deref_pair}
use Rattle.std.specs.declared.alloc.Global.{Global}
use Rattle.std.specs.declared.vec.Vec.{Vec}
use Rattle.std.proofs.lemmas.Map.Iter.{rest_more}
use Rattle.std.proofs.lemmas.List.Elements.{All-rest}
use Rattle.volume_layout.specs.Paths.{IsBlockId}
use Rattle.pool_survey.specs.declared.places.FoundOn.{FoundOn}
use Rattle.pool_open.specs.Plan.{places_at, piece_on, pieces_of, kept_in}
use Rattle.pool_open.proofs.Lists.{flat_more}
use Rattle.pool_open.proofs.paths.list_pieces.Goals as goal

pub loop-id-preserved : goal.loop-id-preserved
loop-id-preserved c =
    let is = rest_more deref_pair _ _ _ (c.in-Some.id, c.in-Some.found) c.in-Some.is c.next.ensures.steps in
    let one : ℕ × Vec FoundOn Global = (c.in-Some.id.now, c.in-Some.found.now) in
    let kept = kept_in c.args.map.now in
    let same : flat_map (piece_on c.args.piece c.kept_volume.result c.block_id-id.result) c.deref.result.now ≡ pieces_of c.args.piece kept one =
    ap (λ k. flat_map (piece_on c.args.piece k c.block_id-id.result) c.deref.result.now) c.kept_volume.ensures
    ∙ ap (λ n. flat_map (piece_on c.args.piece (kept n) n) c.deref.result.now) c.block_id-id.ensures
    ∙ ap (λ (l : List FoundOn). flat_map (piece_on c.args.piece (kept one.0) one.0) l) c.deref.ensures.value in
    record {
      ids = All-rest (λ (entry : ℕ × Vec FoundOn Global). IsBlockId entry.0) one c.next.new.self _ is c.loop-id.invariant.ids;
      places_are = flat_more (pieces_of c.args.piece kept) _ _ _ one _ c.next.new.self is c.loop-id.invariant.places_are
          (c.in_ok-push_pieces.ensures ∙ ap (λ l. places_at c.loop-id.places.items ++ l) same);
    }
