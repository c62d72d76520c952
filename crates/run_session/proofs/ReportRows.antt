-- The rows of a report, one behind the other, and a report of the state that a session stands for.
use Rattle.std.proofs.Common.{◌≡◌, ◌+◌, ◌-◌, ℕ, List, [], ◌∷◌, ◌++◌, Option, length, get_or, refl, ap, sym, ◌∙◌, subst, arith}
use Rattle.disk_model.specs.Worlds.{World}
use Rattle.disk_model.specs.Files.{Files}
use Rattle.disk_model.specs.Marks.{Mark}
use Rattle.pair_draft.specs.Writers.{Writer}
use Rattle.map_model.specs.Cells.{Cells}
use Rattle.map_model.specs.Stands.{BlockBooks}
use Rattle.replica_map.proofs.BlockSums.{sums_by}
use Rattle.script_lang.specs.declared.line.Line.TheVariants.{Node as OfNode}
use Rattle.script_lang.specs.declared.line.NodeLine.TheVariants.{Report as ReportLine}
use Rattle.script_lang.specs.declared.reply.Reply.{Reply}
use Rattle.script_lang.specs.declared.reply.Reply.TheVariants.{Node}
use Rattle.script_lang.specs.declared.reply.node_reply.NodeReply.TheVariants.{Report}
use Rattle.script_lang.specs.declared.reply.report.VolumeRow.{VolumeRow}
use Rattle.pool_state.specs.Rooms.{Choosing}
use Rattle.pool_state.specs.Uses.{books_use}
use Rattle.pool_state.specs.Reports.{ShowsVolume, books_replicas, books_loose, AreLoose}
use Rattle.run_model.specs.State.{RunState}
use Rattle.run_model.specs.Reports.{row_use, ShowsRow, ShowRows}
use Rattle.run_model.specs.Carrying.{LineCarried}
use Rattle.run_session.specs.Standing.{Standing}
use Rattle.run_session.proofs.Stepping.{crash_same}

-- one more row
pub show_more : (shares : List ℕ) (books : ℕ → BlockBooks) (vol : ℕ) (rows : List VolumeRow) (row : VolumeRow) → ShowRows shares books vol rows →
    ShowsRow shares books (vol + length rows) row → ShowRows shares books vol (rows ++ row ∷ [])
show_more shares books vol [] row before here = (subst (λ v. ShowsRow shares books v row) (let e : vol + 0 ≡ vol = omega arith in e) here, tt)
show_more shares books vol (first ∷ rows) row before here = (
  before.0,
  show_more shares books (vol + 1) rows row before.1 (subst (λ v. ShowsRow shares books v row) (let e : vol + length (first ∷ rows) ≡ vol + 1 + length rows = omega arith in e) here),
)

-- what is shown of books is shown of those that say the same, and of the same shares
module _ {shares shares' : List ℕ} {books books' : ℕ → BlockBooks} (same_shares : shares' ≡ shares) (same : (id : ℕ) → books' id ≡ books id) where
  shows_too : (vol : ℕ) (row : VolumeRow) → ShowsVolume shares books vol (row_use row) → ShowsVolume shares' books' vol (row_use row)
  shows_too vol row shows = record {
    capacity = shows.capacity ∙ ap (λ (s : List ℕ). get_or s (vol - 1) 0) (sym same_shares);
    used = shows.used;
    is_used = sums_by (λ id. ap (books_use vol) (sym (same id))) shows.is_used;
    shown_used = shows.shown_used;
    replicas = sums_by (λ id. ap (books_replicas vol) (sym (same id))) shows.replicas;
  }

  pub show_too : (vol : ℕ) (rows : List VolumeRow) → ShowRows shares books vol rows → ShowRows shares' books' vol rows
  show_too vol [] show = tt
  show_too vol (row ∷ rows) show = (record { number = show.0.number; shows = shows_too vol row show.0.shows }, show_too (vol + 1) rows show.1)

  pub loose_too : (count : ℕ) → AreLoose books count → AreLoose books' count
  loose_too count loose = sums_by (λ id. ap books_loose (sym (same id))) loose

-- a report is carried out: the session stands for the same state
pub carried_report : {Faulty : ℕ → ℕ → Type 0} {choosing : Choosing} {told : Option (List World)} {volumes : ℕ} {books : ℕ → BlockBooks} {writers : ℕ → Option Writer} {state : RunState}
    {mark : Mark} {Sound : Cells → Type 0} {past : ℕ → Files → Type 0} → Standing choosing told volumes books writers state → length choosing.shares ≡ volumes → (reply : Reply) (leftovers : ℕ) (rows : List VolumeRow) →
    reply ≡ Node (Report (length rows) leftovers rows) → length rows ≡ volumes → ShowRows choosing.shares books 1 rows → AreLoose books leftovers →
    LineCarried Faulty told state mark (OfNode ReportLine) reply mark (Standing choosing told volumes books writers) Sound Sound past past
carried_report {choosing = choosing} {books = books} {state = state} {Sound = Sound} {past = past} standing shared reply leftovers rows is counted show loose =
    let same_shares : state.choosing.shares ≡ choosing.shares = ap (λ (c : Choosing). c.shares) standing.chooses_by in
    record {
      new = state;
      stands = standing;
      does = λ trust known. record {
        same = refl;
        leftovers = leftovers;
        rows = rows;
        is = is;
        each_volume = counted ∙ sym shared ∙ ap length (sym same_shares);
        shows = show_too same_shares standing.said 1 rows show;
        loose = loose_too same_shares standing.said leftovers loose;
      };
      crash = crash_same state.cells Sound past;
    }
