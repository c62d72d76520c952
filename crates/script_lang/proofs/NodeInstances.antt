-- The form of a node's words at single command lines.
use Rattle.std.proofs.Common.{◌≡◌, List, ℕ, [], ◌∷◌, codes, refl, Option, Some, None}
use Rattle.script_lang.specs.NodeWords.{node_of, pools_of, NodeSaid}
use Rattle.script_lang.specs.Volumes.{volumes_of, each_volume_of, volume_of, volume_behind}

-- words of one pool, the node DN-1 and one volume
abbrev with_volume : List ℕ → List (List ℕ)
with_volume volume = codes "bp1" ∷ codes "DN-1" ∷ volume ∷ []

-- words of those pools
abbrev with_pools : List ℕ → List (List ℕ)
with_pools pools = pools ∷ codes "DN-1" ∷ codes "DS-1:1000:v1" ∷ []

-- what the words of one volume say
abbrev one_volume : List ℕ → Option NodeSaid
one_volume dir = Some (record { pools = codes "bp1" ∷ []; node = codes "DN-1"; volumes = record { uuid = codes "DS-1"; share = 1000; dir = dir } ∷ [] })

no_words : node_of [] ≡ None
unfolding node_of
no_words = refl

one_fits : node_of (with_volume (codes "DS-1:1000:v1")) ≡ one_volume (codes "v1")
unfolding node_of pools_of volumes_of each_volume_of volume_of volume_behind
one_fits = refl

colons_in_directory : node_of (with_volume (codes "DS-1:1000:a:b")) ≡ one_volume (codes "a:b")
unfolding node_of pools_of volumes_of each_volume_of volume_of volume_behind
colons_in_directory = refl

no_share : node_of (with_volume (codes "DS-1:0:v1")) ≡ None
unfolding node_of pools_of volumes_of each_volume_of volume_of volume_behind
no_share = refl

greatest_share : volume_of (codes "DS-1:1125899906842624:v1") ≡ Some (record { uuid = codes "DS-1"; share = 1125899906842624; dir = codes "v1" })
unfolding volume_of volume_behind
greatest_share = refl

too_great_share : volume_of (codes "DS-1:1125899906842625:v1") ≡ None
unfolding volume_of volume_behind
too_great_share = refl

no_directory : node_of (with_volume (codes "DS-1:1000:")) ≡ None
unfolding node_of pools_of volumes_of each_volume_of volume_of volume_behind
no_directory = refl

no_volume : node_of (codes "bp1" ∷ codes "DN-1" ∷ []) ≡ None
unfolding node_of pools_of volumes_of each_volume_of
no_volume = refl

equal_uuids : node_of (codes "bp1" ∷ codes "DN-1" ∷ codes "DS-1:1000:v1" ∷ codes "DS-1:1000:v2" ∷ []) ≡ None
unfolding node_of pools_of volumes_of each_volume_of volume_of volume_behind
equal_uuids = refl

equal_directories : node_of (codes "bp1" ∷ codes "DN-1" ∷ codes "DS-1:1000:v1" ∷ codes "DS-2:1000:v1" ∷ []) ≡ None
unfolding node_of pools_of volumes_of each_volume_of volume_of volume_behind
equal_directories = refl

dot_first : node_of (with_pools (codes ".bp")) ≡ None
unfolding node_of pools_of
dot_first = refl

empty_name : node_of (with_pools (codes "a,,b")) ≡ None
unfolding node_of pools_of
empty_name = refl

equal_pools : node_of (with_pools (codes "a,a")) ≡ None
unfolding node_of pools_of
equal_pools = refl

sixteen_pools : pools_of (codes "a,b,c,d,e,f,g,h,i,j,k,l,m,n,o,p") ≡ Some (codes "a" ∷ codes "b" ∷ codes "c" ∷ codes "d" ∷ codes "e" ∷ codes "f" ∷ codes "g" ∷ codes "h" ∷ codes "i" ∷ codes "j" ∷ codes "k" ∷ codes "l" ∷ codes "m" ∷ codes "n" ∷ codes "o" ∷ codes "p" ∷ [])
unfolding pools_of
sixteen_pools = refl

seventeen_pools : pools_of (codes "a,b,c,d,e,f,g,h,i,j,k,l,m,n,o,p,q") ≡ None
unfolding pools_of
seventeen_pools = refl
