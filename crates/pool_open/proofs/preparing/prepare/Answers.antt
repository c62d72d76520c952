use Rattle.std.proofs.Common.{rules, inl, inr, refl, sym, subst, arith}
use Rattle.pool_state.specs.Books.{block_books}
use Rattle.pool_survey.specs.declared.surveying_pool.PoolSurvey.{PoolSurvey}
use Rattle.pool_survey.specs.Places.{ArePoolBlocks}
use Rattle.pool_open.specs.Numbering.{IsNumbered}
use Rattle.pool_open.proofs.Looks.{looks_then}
use Rattle.pool_open.proofs.Down.{blocks_down}
use Rattle.pool_open.proofs.Ending.{looked, ids_of}
use Rattle.pool_open.proofs.preparing.prepare.Goals as goal

pub list_surplus-requires-clause-files : goal.list_surplus-requires-clause-files
list_surplus-requires-clause-files g c = λ id. (c.in_ok-found.ensures.blocks.places id).files

pub bring_down-requires-clause-files : goal.bring_down-requires-clause-files
bring_down-requires-clause-files g c = λ id. (c.in_ok-found.ensures.blocks.places id).files

pub make_books-requires : goal.make_books-requires
make_books-requires g c =
    let table : PoolSurvey = record { blocks = c.in_ok-bring_down.field-0; temporary = c.in_ok-found.found.temporary } in
    record {
      blocks = subst (λ n. ArePoolBlocks n c.in_ok-bring_down.field-0) (sym c.survey_pool.ensures.volumes)
          (blocks_down (g.D.PoolDisks.volume_count c.args.disks.now) c.in_ok-found.found table c.in_ok-found.ensures.blocks c.in_ok-bring_down.ensures.brought_down c.in_ok-bring_down.ensures.ids);
    }

pub returns-in_err-map-clause-looks : goal.returns-in_err-map-clause-looks
returns-in_err-map-clause-looks g c =
    let looks = looked g.D.PoolDisks c.args.disks.now c.survey_pool.new.disks
    c.survey_pool.ensures.looks c.survey_pool.ensures.honest c.survey_pool.ensures.cause.later c.survey_pool.ensures.absences c.survey_pool.ensures.numbers c.survey_pool.ensures.volumes c.survey_pool.ensures.time (g.met.D.PoolDisks.counts_now c.survey_pool.new.disks) in
    looks_then g.D.PoolDisks c.args.disks.now c.survey_pool.new.disks c.make_books.new.disks looks c.make_books.ensures.looks

pub returns-in_default-clause-looks : goal.returns-in_default-clause-looks
returns-in_default-clause-looks g c =
    let looks = looked g.D.PoolDisks c.args.disks.now c.survey_pool.new.disks
    c.survey_pool.ensures.looks c.survey_pool.ensures.honest c.survey_pool.ensures.cause.later c.survey_pool.ensures.absences c.survey_pool.ensures.numbers c.survey_pool.ensures.volumes c.survey_pool.ensures.time (g.met.D.PoolDisks.counts_now c.survey_pool.new.disks) in
    looks_then g.D.PoolDisks c.args.disks.now c.survey_pool.new.disks c.make_books.new.disks looks c.make_books.ensures.looks

pub list_places-requires-clause-ids : goal.list_places-requires-clause-ids
list_places-requires-clause-ids g c =
    let table : PoolSurvey = record { blocks = c.in_ok-bring_down.field-0; temporary = c.in_ok-found.found.temporary } in
    let volumes = g.D.PoolDisks.volume_count c.args.disks.now in
    ids_of volumes table (blocks_down volumes c.in_ok-found.found table c.in_ok-found.ensures.blocks c.in_ok-bring_down.ensures.brought_down c.in_ok-bring_down.ensures.ids) c.in_ok-map.ensures.listed

pub returns-in_err-places-clause-looks : goal.returns-in_err-places-clause-looks
returns-in_err-places-clause-looks g c =
    let looks = looked g.D.PoolDisks c.args.disks.now c.survey_pool.new.disks
    c.survey_pool.ensures.looks c.survey_pool.ensures.honest c.survey_pool.ensures.cause.later c.survey_pool.ensures.absences c.survey_pool.ensures.numbers c.survey_pool.ensures.volumes c.survey_pool.ensures.time (g.met.D.PoolDisks.counts_now c.survey_pool.new.disks) in
    looks_then g.D.PoolDisks c.args.disks.now c.survey_pool.new.disks c.make_books.new.disks looks c.make_books.ensures.looks

pub returns-clause-prepared : goal.returns-clause-prepared
returns-clause-prepared g c = record {
  found = c.in_ok-found.found;
  table = record { blocks = c.in_ok-bring_down.field-0; temporary = c.in_ok-found.found.temporary };
  surveyed = g.D.PoolDisks.worlds c.survey_pool.new.disks;
  call = c.in_ok-found.ensures.ok;
  remains = c.make_books.ensures.looks.remains;
  images = λ t image left. elim (c.make_books.ensures.looks.images t image left) [ inl earlier ↦ c.survey_pool.ensures.time.nothing_else t image earlier | inr leaves ↦ inr leaves ];
  blocks = c.in_ok-found.ensures.blocks;
  listed = c.in_ok-surplus.ensures.listed;
  brought_down = c.in_ok-bring_down.ensures.brought_down;
  temporary = refl;
  counted = c.in_ok-found.ensures.counted;
  ids = c.in_ok-bring_down.ensures.ids;
  table_listed = c.in_ok-map.ensures.listed;
  some_volume = omega (arith, c.in_ok-found.ensures.limit.0, c.in_ok-found.ensures.counted);
  says = c.in_ok-map.ensures.says;
  idle = c.in_ok-map.ensures.idle;
  no_moves = c.in_ok-map.ensures.no_moves;
  numbered = subst (λ n. IsNumbered c.args.first_rev (block_books c.in_ok-map.map) n) (search rules) c.in_ok-map.ensures.numbered;
  surplus_are = c.in_ok-surplus.ensures.surplus;
  places_are = c.in_ok-places.ensures;
}

pub returns-clause-looks : goal.returns-clause-looks
returns-clause-looks g c =
    let looks = looked g.D.PoolDisks c.args.disks.now c.survey_pool.new.disks
    c.survey_pool.ensures.looks c.survey_pool.ensures.honest c.survey_pool.ensures.cause.later c.survey_pool.ensures.absences c.survey_pool.ensures.numbers c.survey_pool.ensures.volumes c.survey_pool.ensures.time (g.met.D.PoolDisks.counts_now c.survey_pool.new.disks) in
    looks_then g.D.PoolDisks c.args.disks.now c.survey_pool.new.disks c.make_books.new.disks looks c.make_books.ensures.looks
