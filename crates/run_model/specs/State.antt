-- The state of a run, the disks' counts beside it, and the lines that were carried out.
use Rattle.std.specs.Prelude.{ℕ, List, [], ◌∷◌, map}
use Rattle.disk_model.specs.Marks.{Mark}
use Rattle.script_lang.specs.declared.line.Line.{Line}
use Rattle.script_lang.specs.declared.reply.Reply.{Reply}
use Rattle.map_model.specs.Cells.{Cells}
use Rattle.map_model.specs.Sound.{Metas}
use Rattle.map_model.specs.Stands.{BlockBooks}
use Rattle.pool_state.specs.Rooms.{Choosing}

-- numbers of drafts and readers, from the first on and below the last
pub record Numbers : Type 0 where
  pub first : ℕ
  pub last : ℕ

-- What a run knows: the cells of the pool, the meta files of its replicas, of each block that grows the numbers that the
-- command which began its writer gave, what the pool's books say of each block, and what it chooses volumes and revisions by.
pub record RunState : Type 0 where
  pub cells : Cells
  pub metas : Metas
  pub writers : ℕ → Numbers
  pub books : ℕ → BlockBooks
  pub choosing : Choosing

-- a line that was carried out, its reply, and the state and the counts after it
pub record Turn : Type 0 where
  pub line : Line
  pub reply : Reply
  pub state : RunState
  pub mark : Mark

-- the state after the last of the lines
abbrev pub last_state : RunState → List Turn → RunState
last_state state [] = state
last_state state (turn ∷ turns) = last_state turn.state turns

-- the counts after the last of the lines
abbrev pub last_mark : Mark → List Turn → Mark
last_mark mark [] = mark
last_mark mark (turn ∷ turns) = last_mark turn.mark turns

-- the lines, and their replies
abbrev pub turn_lines : List Turn → List Line
turn_lines turns = map (λ turn. turn.line) turns

abbrev pub turn_replies : List Turn → List Reply
turn_replies turns = map (λ turn. turn.reply) turns
