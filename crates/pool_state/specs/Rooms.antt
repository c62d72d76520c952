-- How much room a pool has for a replica, and where a fresh one goes.
use Rattle.std.specs.Prelude.{ℕ, Bool, ◌+◌, ◌-◌, ◌^◌, ◌==◌, max, nat_le, if◌then◌else◌, List, [], ◌∷◌, length, drop, Option, None, Some, unwrap_or}
use Rattle.disk_model.specs.declared.disks.PoolDisks.{Ghosts}
use Rattle.disk_model.specs.declared.disks.Draft as drafts
use Rattle.disk_model.specs.declared.disks.SealedDraft as sealed
use Rattle.disk_model.specs.declared.disks.Reader as readers
use Rattle.map_model.specs.Steps.{Room, max_length}
use Rattle.replica_map.specs.Books.{used}
use Rattle.pool_state.specs.declared.pool_record.Pool.{Pool}

-- What a pool chooses volumes and revisions by, beside what its books count: its share of each volume, the next revision,
-- and the volume from which the next choice goes on.
pub record Choosing : Type 0 where
  pub shares : List ℕ
  pub next_rev : ℕ
  pub pointer : ℕ

-- the free bytes of the volume that has most, of those from this one on: of each its share less what is used of it, or 0
abbrev pub most_free : (uses : ℕ → ℕ) → (vol : ℕ) → (shares : List ℕ) → ℕ
most_free uses vol [] = 0
most_free uses vol (share ∷ shares) = max (share - uses vol) (most_free uses (vol + 1) shares)

-- no revision is left to be drawn
abbrev pub is_worn : ℕ → Bool
is_worn next_rev = nat_le (2 ^ 63) next_rev

-- the room of volumes of which so much is used
abbrev pub room_by : Choosing → (uses : ℕ → ℕ) → Room
room_by choosing uses = record { limit = max_length; free = most_free uses 1 choosing.shares; own_free = 0; is_worn = is_worn choosing.next_rev }

-- the first of the volumes from this one on that has so many bytes free
abbrev pub first_fitting : (uses : ℕ → ℕ) → (need vol : ℕ) → (shares : List ℕ) → Option ℕ
first_fitting uses need vol [] = None
first_fitting uses need vol (share ∷ shares) = if nat_le need (share - uses vol) then Some vol else first_fitting uses need (vol + 1) shares

-- the one, or else the other
abbrev pub or_first : Option ℕ → Option ℕ → ℕ
or_first (Some vol) other = vol
or_first None other = unwrap_or other 1

-- the volume of a fresh replica of so many bytes: from the pointer on, in a circle, the first that has them free
abbrev pub chosen : Choosing → (uses : ℕ → ℕ) → (need : ℕ) → ℕ
chosen choosing uses need = or_first (first_fitting uses need choosing.pointer (drop (choosing.pointer - 1) choosing.shares))
    (first_fitting uses need 1 choosing.shares)

-- after a revision was drawn for this volume: the next one, and the pointer behind the volume, in a circle
abbrev pub volume_after : (vol volumes : ℕ) → ℕ
volume_after vol volumes = if vol == volumes then 1 else vol + 1

abbrev pub drawn : (vol : ℕ) → Choosing → Choosing
drawn vol choosing = record { shares = choosing.shares; next_rev = choosing.next_rev + 1; pointer = volume_after vol (length choosing.shares) }

module _ {D S T R : Type 0} {g : Ghosts D S T R} {d : drafts.Ghosts T S} {s : sealed.Ghosts S} {r : readers.Ghosts R} where
  -- what a pool chooses by
  abbrev pub choosing_of : Pool D S T R g d s r → Choosing
  choosing_of pool = record { shares = pool.shares.items; next_rev = pool.next_rev; pointer = pool.pointer }

  -- the room of a pool, and the volume that it chooses for so many bytes
  abbrev pub room_of : Pool D S T R g d s r → Room
  room_of pool = room_by (choosing_of pool) (λ vol. used vol pool.map)

  abbrev pub volume_for : Pool D S T R g d s r → (need : ℕ) → ℕ
  volume_for pool need = chosen (choosing_of pool) (λ vol. used vol pool.map) need
