-- The words that name the volumes of a node.
use Rattle.std.specs.Prelude.{ℕ, ◌+◌, ◌^◌, ◌==◌, ◌&&◌, nat_le, Bool, if◌then◌else◌, List, [], ◌∷◌, length, map, Option, Some, None, option_and_then}
use Rattle.std.specs.List.{before_first, after_first}
use Rattle.std.specs.Option.{option_map}
use Rattle.script_lang.specs.Names.{is_node, are_distinct}
use Rattle.script_lang.specs.Number.{number_of, within}
use Rattle.script_lang.specs.declared.volume_word.VolumeWord.{VolumeWord}

-- up to the first colon
abbrev pub before_colon : List ℕ → List ℕ
before_colon text = before_first (λ b. b == 58) text

-- behind the first colon; nothing where there is none
abbrev pub after_colon : List ℕ → List ℕ
after_colon text = after_first (λ b. b == 58) text

-- how many bytes each pool may use on a volume: 1 to 2^50
abbrev pub share_of : List ℕ → Option ℕ
share_of word = option_and_then (within 1 (2 ^ 50 + 1)) (number_of word)

-- the volume of this UUID that SHARE:DIR describes, the directory being all that stands behind the colon
unfoldable pub volume_behind : List ℕ → List ℕ → Option VolumeWord
volume_behind uuid rest =
    if nat_le 1 (length (after_colon rest)) && is_node uuid
    then option_map (λ share. record { uuid = uuid; share = share; dir = after_colon rest }) (share_of (before_colon rest))
    else None

-- the volume that UUID:SHARE:DIR describes
unfoldable pub volume_of : List ℕ → Option VolumeWord
volume_of word = volume_behind (before_colon word) (after_colon word)

-- the volumes that the words describe, one by one
unfoldable pub each_volume_of : List (List ℕ) → Option (List VolumeWord)
each_volume_of [] = Some []
each_volume_of (word ∷ words) = option_and_then (λ volume. option_map (λ volumes. volume ∷ volumes) (each_volume_of words)) (volume_of word)

-- 1 to 64 volumes
abbrev pub is_count : ℕ → Bool
is_count volumes = nat_le 1 volumes && nat_le volumes 64

-- no two volumes have one UUID, and no two have one directory
abbrev pub are_apart : List VolumeWord → Bool
are_apart volumes = are_distinct (map (λ v. v.uuid) volumes) && are_distinct (map (λ v. v.dir) volumes)

-- these volumes, where they can be those of a node
abbrev pub node_volumes : List VolumeWord → Option (List VolumeWord)
node_volumes volumes = if is_count (length volumes) && are_apart volumes then Some volumes else None

-- the volumes of a node that the words describe
unfoldable pub volumes_of : List (List ℕ) → Option (List VolumeWord)
volumes_of words = option_and_then node_volumes (each_volume_of words)
