-- How many volumes a node has.
use Rattle.std.proofs.Common.{◌≡◌, ℕ, ◌≤◌, ◌&&◌, nat_le, if◌then◌else◌, Bool, true, false, List, [], ◌∷◌, length, Option, Some, None, option_and_then, refl, subst}
use Rattle.std.proofs.lemmas.Bool.{and_parts, leb-true}
use Rattle.std.proofs.lemmas.Option.{same_Some}
use Rattle.script_lang.specs.NodeWords.{NodeSaid, node_of, node_name_of, pools_of, ◌>>=◌}
use Rattle.script_lang.specs.Volumes.{volumes_of, each_volume_of, node_volumes, is_count, are_apart}
use Rattle.script_lang.specs.declared.volume_word.VolumeWord.{VolumeWord}

-- 1 to 64
abbrev pub IsCount : ℕ → Type 0
IsCount volumes = (1 ≤ volumes) × (volumes ≤ 64)

counted : (n : ℕ) (apart : Bool) → (is_count n && apart) ≡ true → IsCount n
counted n apart is =
    let count = and_parts (is_count n) apart is in
    let both = and_parts (nat_le 1 n) (nat_le n 64) count.0 in
    (leb-true 1 n both.0, leb-true n 64 both.1)

of_node : (given taken : List VolumeWord) → node_volumes given ≡ Some taken → IsCount (length taken)
of_node given taken is = by_cases (is_count (length given) && are_apart given) (λ yes. counted _ _ yes) is
  where
    by_cases : (b : Bool) → (b ≡ true → IsCount (length given)) → (if b then Some given else None) ≡ Some taken → IsCount (length taken)
    by_cases true count same = subst (λ (vs : List VolumeWord). IsCount (length vs)) (same_Some _ _ same) (count refl)
    by_cases false count same = absurd (cc same)

of_words : (words : List (List ℕ)) (taken : List VolumeWord) → volumes_of words ≡ Some taken → IsCount (length taken)
unfolding volumes_of
of_words words taken is = by_cases (each_volume_of words) is
  where
    by_cases : (each : Option (List VolumeWord)) → option_and_then node_volumes each ≡ Some taken → IsCount (length taken)
    by_cases (Some given) same = of_node given taken same
    by_cases None same = absurd (cc same)

-- the words of a node name as many volumes
pub volumes_counted : (words : List (List ℕ)) (said : NodeSaid) → node_of words ≡ Some said → IsCount (length said.volumes)
unfolding node_of
volumes_counted [] said is = absurd (cc is)
volumes_counted (pools ∷ []) said is = absurd (cc is)
volumes_counted (pools ∷ node ∷ volumes) said is = first (pools_of pools) (node_name_of node) (volumes_of volumes) refl is
  where
    first : (p : Option (List (List ℕ))) (n : Option (List ℕ)) (v : Option (List VolumeWord)) → volumes_of volumes ≡ v
        → (p >>= λ ps. n >>= λ m. v >>= λ vs. Some (record { pools = ps; node = m; volumes = vs })) ≡ Some said → IsCount (length said.volumes)
    first None n v from same = absurd (cc same)
    first (Some ps) None v from same = absurd (cc same)
    first (Some ps) (Some m) None from same = absurd (cc same)
    first (Some ps) (Some m) (Some vs) from same =
        subst (λ (s : NodeSaid). IsCount (length s.volumes)) (same_Some _ _ same) (of_words volumes vs from)
