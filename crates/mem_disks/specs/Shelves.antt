-- What stands under the names of the volumes.
use Rattle.std.specs.Prelude.{◌≡◌, ℕ, zero, suc, ◌==◌, ◌&&◌, List, [], ◌∷◌, Option, None, if◌then◌else◌, bytes_eq}
use Rattle.std.specs.BTreeMap.{BTreeMap, get_by_text}
use Rattle.std.specs.declared.string.String.{String}
use Rattle.mem_disks.specs.declared.shelves.Entry.{Entry}

-- what stands at a path of the volume of this index, from 0 on
abbrev pub held : {Y : Type 0} → List (BTreeMap (String Y) Entry) → ℕ → List ℕ → Option Entry
held [] index path = None
held (shelf ∷ shelves) zero path = get_by_text shelf path
held (shelf ∷ shelves) (suc index) path = held shelves index path

-- one place has this entry, and each other what it had
abbrev pub Puts : {Y : Type 0} → List (BTreeMap (String Y) Entry) → List (BTreeMap (String Y) Entry) → ℕ → List ℕ → Option Entry → Type 0
Puts old new index path entry = (i : ℕ) (p : List ℕ) → held new i p ≡ (if (index == i) && bytes_eq path p then entry else held old i p)

-- one path has nothing, a target on the same volume has this entry, and each other place what it had
abbrev pub Moves : {Y : Type 0} → List (BTreeMap (String Y) Entry) → List (BTreeMap (String Y) Entry) → ℕ → List ℕ → List ℕ → Option Entry → Type 0
Moves old new index path target entry = (i : ℕ) (p : List ℕ)
    → held new i p ≡ (if (index == i) && bytes_eq target p then entry else (if (index == i) && bytes_eq path p then None else held old i p))

-- each place has what it had
abbrev pub Same : {Y : Type 0} → List (BTreeMap (String Y) Entry) → List (BTreeMap (String Y) Entry) → Type 0
Same old new = (i : ℕ) (p : List ℕ) → held new i p ≡ held old i p
