use Rattle.std.proofs.Common.{◌≡◌, ◌+◌, ◌++◌, ℕ, List, [], ◌∷◌, length, arith, sym, ap, ◌∙◌, subst}
use Rattle.std.specs.Map.Iter.{deref_pair}
use Rattle.std.specs.declared.alloc.Global.{Global}
use Rattle.std.specs.declared.vec.Vec.{Vec}
use Rattle.std.proofs.lemmas.Map.Iter.{rest_more, rest_all}
use Rattle.std.proofs.lemmas.List.Elements.{All-rest, All-same, All-head}
use Rattle.volume_layout.specs.Paths.{IsBlockId}
use Rattle.map_model.specs.Stands.{BlockBooks}
use Rattle.replica_map.specs.declared.row.Row.{Row}
use Rattle.replica_map.specs.declared.leftover.Leftover.{Leftover}
use Rattle.pool_state.specs.Books.{block_books}
use Rattle.pool_survey.specs.declared.places.FoundOn.{FoundOn}
use Rattle.pool_survey.specs.Places.{ArePlaces, places_of}
use Rattle.pool_open.specs.Found.{SaysFound, gathered}
use Rattle.pool_open.specs.Numbering.{IsNumbered}
use Rattle.pool_open.proofs.Adding.{ids_of, places_are, places_among, says_empty, says_nothing, says_more}
use Rattle.pool_open.proofs.Lists.{passed_more, passed_all, nothing_more}
use Rattle.pool_open.proofs.Rows.{no_rows, rise_more}
use Rattle.pool_open.proofs.Numbers.{drawn_none, drawn_more, drawn_all}
use Rattle.pool_open.proofs.Drawing.{draws_next, no_entries}
use Rattle.pool_open.proofs.Looks.{looks_none, looks_then}
use Rattle.pool_open.proofs.books.make_books.Goals as goal

pub loop-id-init : goal.loop-id-init
loop-id-init g c =
    let gives = c.into_iter-id-iterator.ensures.into_iter_gives in
    let volumes = g.D.PoolDisks.volume_count c.args.disks.now in
    record {
      ids = All-same (λ (entry : ℕ × Vec FoundOn Global). IsBlockId entry.0) _ _ gives.0 (ids_of volumes c.args.blocks.now c.requires.blocks gives.6);
      places = All-same (λ (entry : ℕ × Vec FoundOn Global). ArePlaces volumes entry.1.items) _ _ gives.0 (places_are volumes c.args.blocks.now c.requires.blocks gives.6);
      ordered = gives.5;
      passed = [];
      split = gives.0;
      says = says_empty (g.D.PoolDisks.worlds c.args.disks.now) _ _ c.in_ok-rows.ensures.items c.new-leftovers.ensures.items;
      rise = no_rows _ _ c.in_ok-rows.ensures.items;
      drawn = drawn_none c.args.first_rev (block_books (gathered c.in_ok-rows.rows.items c.new-leftovers.result.items)) (length c.in_ok-rows.rows.items) _ (ap length c.in_ok-rows.ensures.items)
          (no_entries c.in_ok-rows.rows.items c.new-leftovers.result.items c.in_ok-rows.ensures.items);
      looks = looks_none g.D.PoolDisks c.args.disks.now;
    }

pub block_id-requires : goal.block_id-requires
block_id-requires g c =
    let is = rest_more deref_pair _ _ _ (c.in-Some.id, c.in-Some.places) c.in-Some.is c.next.ensures.steps in
    let one : ℕ × Vec FoundOn Global = (c.in-Some.id.now, c.in-Some.places.now) in
    let P : ℕ × Vec FoundOn Global → Type 0 = λ entry. IsBlockId entry.0 in
    All-head P one c.next.new.self (All-same P _ _ (sym is) c.loop-id.invariant.ids)

pub add_block-requires-clause-places : goal.add_block-requires-clause-places
add_block-requires-clause-places g c =
    let is = rest_more deref_pair _ _ _ (c.in-Some.id, c.in-Some.places) c.in-Some.is c.next.ensures.steps in
    let one : ℕ × Vec FoundOn Global = (c.in-Some.id.now, c.in-Some.places.now) in
    let P : ℕ × Vec FoundOn Global → Type 0 = λ entry. ArePlaces (g.D.PoolDisks.volume_count c.args.disks.now) entry.1.items in
    let here : P one = All-head P one c.next.new.self (All-same P _ _ (sym is) c.loop-id.invariant.places) in
    subst (λ (l : List FoundOn). ArePlaces (g.D.PoolDisks.volume_count c.loop-id.disks) l) (sym c.deref.ensures.value)
    (subst (λ n. ArePlaces n c.in-Some.places.now.items) (sym c.loop-id.invariant.looks.goes_on.volume_count) here)

pub add_block-requires-clause-nothing : goal.add_block-requires-clause-nothing
add_block-requires-clause-nothing g c =
    let is = rest_more deref_pair _ _ _ (c.in-Some.id, c.in-Some.places) c.in-Some.is c.next.ensures.steps in
    let one : ℕ × Vec FoundOn Global = (c.in-Some.id.now, c.in-Some.places.now) in
    let loop = c.loop-id.invariant in
    says_nothing (g.D.PoolDisks.worlds c.loop-id.disks) (g.D.PoolDisks.worlds c.loop-id.disks) (gathered c.loop-id.rows.items c.loop-id.leftovers.items) (gathered c.loop-id.rows.items c.loop-id.leftovers.items)
    c.args.blocks.now.entries loop.passed _ c.next.new.self one c.block_id.result is loop.split loop.ordered c.block_id.ensures loop.says

pub loop-id-preserved : goal.loop-id-preserved
loop-id-preserved g c =
    let is = rest_more deref_pair _ _ _ (c.in-Some.id, c.in-Some.places) c.in-Some.is c.next.ensures.steps in
    let one : ℕ × Vec FoundOn Global = (c.in-Some.id.now, c.in-Some.places.now) in
    let loop = c.loop-id.invariant in
    let told = g.D.PoolDisks.worlds c.add_block.new.disks in
    let here : SaysFound told c.block_id.result c.in-Some.places.now.items (block_books (gathered c.add_block.new.rows.items c.add_block.new.leftovers.items) c.block_id.result) =
    subst (λ (l : List FoundOn). SaysFound told c.block_id.result l (block_books (gathered c.add_block.new.rows.items c.add_block.new.leftovers.items) c.block_id.result)) c.deref.ensures.value
    c.in_ok-add_block.ensures.says in
    let nothing = says_nothing (g.D.PoolDisks.worlds c.loop-id.disks) (g.D.PoolDisks.worlds c.loop-id.disks) (gathered c.loop-id.rows.items c.loop-id.leftovers.items)
    (gathered c.loop-id.rows.items c.loop-id.leftovers.items) c.args.blocks.now.entries loop.passed _ c.next.new.self one c.block_id.result is loop.split loop.ordered c.block_id.ensures loop.says in
    record {
      ids = All-rest (λ (entry : ℕ × Vec FoundOn Global). IsBlockId entry.0) one c.next.new.self _ is loop.ids;
      places = All-rest (λ (entry : ℕ × Vec FoundOn Global). ArePlaces (g.D.PoolDisks.volume_count c.args.disks.now) entry.1.items) one c.next.new.self _ is loop.places;
      ordered = loop.ordered;
      passed = loop.passed ++ one ∷ [];
      split = passed_more c.args.blocks.now.entries loop.passed _ c.next.new.self one is loop.split;
      says = says_more (g.D.PoolDisks.worlds c.loop-id.disks) told (gathered c.loop-id.rows.items c.loop-id.leftovers.items) (gathered c.add_block.new.rows.items c.add_block.new.leftovers.items)
          c.args.blocks.now.entries loop.passed _ c.next.new.self one c.block_id.result is loop.split loop.ordered c.block_id.ensures loop.says c.add_block.ensures.looks.remains
          c.in_ok-add_block.ensures.others here;
      rise = rise_more c.args.blocks.now.entries loop.passed _ c.next.new.self one c.block_id.result c.in-Some-checked_add.rev is loop.split loop.ordered c.block_id.ensures _ _ loop.rise
          c.in_ok-add_block.ensures.row;
      drawn = drawn_more c.args.first_rev (block_books (gathered c.loop-id.rows.items c.loop-id.leftovers.items)) (block_books (gathered c.add_block.new.rows.items c.add_block.new.leftovers.items))
          (length c.loop-id.rows.items) (length c.add_block.new.rows.items) c.in-Some-checked_add.rev c.args.blocks.now.entries loop.passed _ c.next.new.self one c.block_id.result
          is loop.split loop.ordered c.block_id.ensures loop.drawn c.in_ok-add_block.ensures.others
          (draws_next c.loop-id.rows.items c.add_block.new.rows.items c.loop-id.leftovers.items c.add_block.new.leftovers.items c.block_id.result c.in-Some-checked_add.rev nothing c.in_ok-add_block.ensures.row)
          (omega (arith, c.in-Some-checked_add.ensures, c.len-in-loop-id.ensures));
      looks = looks_then g.D.PoolDisks _ _ _ loop.looks c.add_block.ensures.looks;
    }

pub returns-in_err-add_block-clause-looks : goal.returns-in_err-add_block-clause-looks
returns-in_err-add_block-clause-looks g c = looks_then g.D.PoolDisks _ _ _ c.loop-id.invariant.looks c.add_block.ensures.looks

pub returns-clause-says : goal.returns-clause-says
returns-clause-says g c = λ id.
    let loop = c.loop-id.invariant in
    let told = g.D.PoolDisks.worlds c.loop-id.disks in
    let rows : List Row = c.loop-id.rows.items in
    let leftovers : List Leftover = c.loop-id.leftovers.items in
    let made = c.in_ok-from_rows.field-0 in
    let none = rest_all deref_pair _ _ _ c.in-None.is c.next.ensures.steps in
    let whole : loop.passed ≡ c.args.blocks.now.entries = sym (nothing_more loop.passed) ∙ passed_all c.args.blocks.now.entries loop.passed _ none loop.split in
    let books_are : block_books made id ≡ block_books (gathered rows leftovers) id =
    ap (λ (r : List Row). block_books (gathered r made.leftovers) id) c.in_ok-from_rows.ensures.rows
    ∙ ap (λ (l : List Leftover). block_books (gathered rows l) id) c.in_ok-from_rows.ensures.leftovers in
    subst (λ (b : BlockBooks). SaysFound told id (places_of c.args.blocks.now id) b) (sym books_are)
    (subst (λ (es : List (ℕ × Vec FoundOn Global)). SaysFound told id (places_among es id) (block_books (gathered rows leftovers) id)) whole (loop.says id))

pub returns-clause-numbered : goal.returns-clause-numbered
returns-clause-numbered g c =
    let rows : List Row = c.loop-id.rows.items in
    let leftovers : List Leftover = c.loop-id.leftovers.items in
    let made = c.in_ok-from_rows.field-0 in
    let drawn = drawn_all c.args.first_rev (block_books (gathered rows leftovers)) (length rows) _ c.loop-id.invariant.drawn in
    subst (λ (r : List Row). IsNumbered c.args.first_rev (block_books (gathered r made.leftovers)) (c.args.first_rev + length r)) (sym c.in_ok-from_rows.ensures.rows)
    (subst (λ (l : List Leftover). IsNumbered c.args.first_rev (block_books (gathered rows l)) (c.args.first_rev + length rows)) (sym c.in_ok-from_rows.ensures.leftovers) drawn)
