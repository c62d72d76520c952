-- The words of the command line of a node: POOLS NODE VOLUME...
use Rattle.std.specs.Prelude.{ℕ, ◌==◌, ◌&&◌, nat_le, if◌then◌else◌, List, [], ◌∷◌, length, Bool, Option, Some, None}
use Rattle.std.specs.List.{list_all, slice_split}
use Rattle.script_lang.specs.Names.{is_node, is_pool, are_distinct}
use Rattle.script_lang.specs.Volumes.{volumes_of}
use Rattle.script_lang.specs.declared.node_words.NodeWords.{NodeWords}

-- what the words of a node say
abbrev pub NodeSaid : Type 0
NodeSaid = NodeWords

-- the second step, where the first gave a value
infixl 10 ◌>>=◌
abbrev pub ◌>>=◌ : {A B : Type 0} → Option A → (A → Option B) → Option B
None >>= f = None
Some x >>= f = f x

-- 1 to 16 distinct names of pools; what commas part is one name at least
abbrev pub are_node_pools : List (List ℕ) → Bool
are_node_pools names = nat_le (length names) 16 && list_all is_pool names && are_distinct names

-- the names of the pools, which commas part
unfoldable pub pools_of : List ℕ → Option (List (List ℕ))
pools_of word =
    let names = slice_split (λ b. b == 44) word in
    if are_node_pools names then Some names else None

-- the name of the node
abbrev pub node_name_of : List ℕ → Option (List ℕ)
node_name_of word = if is_node word then Some word else None

-- what the words say, or nothing where they are not of the form
unfoldable pub node_of : List (List ℕ) → Option NodeSaid
node_of [] = None
node_of (pools ∷ []) = None
node_of (pools ∷ node ∷ volumes) = do
  p ← pools_of pools
  n ← node_name_of node
  v ← volumes_of volumes
  Some (record { pools = p; node = n; volumes = v })
