-- What an opening looks up and reserves before it removes anything.
use Rattle.std.specs.Prelude.{ℕ, ◌≡◌, ◌≤◌, List, [], length, All, Option, Some}
use Rattle.std.specs.Ordering.{nat_cmp}
use Rattle.std.specs.BTreeMap.{get}
use Rattle.disk_model.specs.Worlds.{World}
use Rattle.disk_model.specs.Files.{Files}
use Rattle.disk_model.specs.Told.{PicksOne, CanLeave}
use Rattle.disk_model.specs.Moments.{AddsOnly}
use Rattle.replica_map.specs.Books.{writers}
use Rattle.pool_state.specs.Books.{block_books}
use Rattle.pool_survey.specs.declared.surveying_pool.PoolSurvey.{PoolSurvey}
use Rattle.pool_survey.specs.Places.{HaveBlockIds, places_of, ArePoolBlocks, IsPoolSurveyOf}
use Rattle.pool_survey.specs.Remaining.{Remains}
use Rattle.pool_open.specs.declared.preparing.Prepared.{Prepared}
use Rattle.pool_open.specs.Plan.{places_at, cleared_places, kept_in}
use Rattle.pool_open.specs.Surplus.{surplus_places, IsTableBroughtDown}
use Rattle.pool_open.specs.Found.{SaysFound}
use Rattle.pool_open.specs.Numbering.{IsNumbered}

-- the entry of a table is what is found under its key
abbrev pub AreListed : PoolSurvey → Type 0
AreListed survey = All (λ entry. get nat_cmp survey.blocks entry.0 ≡ Some entry.1) survey.blocks.entries

-- What was found by a survey, the table of it without the metas that don't count, the books that say it, and what goes.
pub record IsPrepared (before after : Option (List World)) (past since : ℕ → Files → Type 0) (volumes first_rev : ℕ) (prepared : Prepared) : Type 0 where
  pub found : PoolSurvey
  pub table : PoolSurvey
  pub surveyed : Option (List World)
  pub call : PicksOne (λ world. IsPoolSurveyOf world volumes found) (λ w. w) before surveyed
  pub remains : Remains surveyed after
  pub images : AddsOnly past since (CanLeave surveyed)
  pub blocks : ArePoolBlocks volumes found.blocks
  pub listed : AreListed found
  pub brought_down : IsTableBroughtDown found.blocks table.blocks
  pub temporary : table.temporary ≡ found.temporary
  pub counted : length found.temporary.items ≡ volumes
  pub ids : HaveBlockIds table.blocks
  pub table_listed : AreListed table
  pub some_volume : 1 ≤ volumes
  pub says : (id : ℕ) → SaysFound after id (places_of table.blocks id) (block_books prepared.map id)
  pub idle : writers prepared.map ≡ 0
  pub no_moves : prepared.map.tickets ≡ []
  pub numbered : IsNumbered first_rev (block_books prepared.map) prepared.next_rev
  pub surplus_are : places_at prepared.surplus.items ≡ surplus_places found.blocks.entries
  pub places_are : places_at prepared.places.items ≡ cleared_places (kept_in prepared.map) table.blocks.entries table.temporary.items
