-- Words that are carried out name one pool.
use Rattle.std.proofs.Common.{◌≡◌, ℕ, ◌≤◌, ◌&&◌, ◌==◌, nat_le, if◌then◌else◌, Bool, true, false, List, [], ◌∷◌, ◌++◌, length, All, map, Option, Some, None, option_and_then, refl, sym, ap, ◌∙◌, subst, arith}
use Rattle.std.proofs.lemmas.Bool.{and_parts, leb-true, ltb-false, eqb-true}
use Rattle.std.proofs.lemmas.Option.{same_Some}
use Rattle.std.proofs.lemmas.List.{length-map}
use Rattle.std.proofs.lemmas.List.Splits.{length-slice_split}
use Rattle.std.proofs.lemmas.List.Elements.{All-head, All-cons, All-nil}
use Rattle.std.specs.List.{list_all, slice_split}
use Rattle.std.specs.Option.{option_map_or}
use Rattle.script_lang.specs.NodeWords.{NodeSaid, node_of, node_name_of, pools_of, are_node_pools, ◌>>=◌}
use Rattle.script_lang.specs.Volumes.{volumes_of, each_volume_of, node_volumes, is_count, are_apart}
use Rattle.script_lang.specs.declared.volume_word.VolumeWord.{VolumeWord}
use Rattle.run_end.specs.declared.ending.Ending.{Ending}
use Rattle.dn_play.specs.Outside.{shares_said, shares_in, fit_disks, words_fit, names_several, words_are_later, IsJudged}

some_pools : (word : List ℕ) (names : List (List ℕ)) → pools_of word ≡ Some names → 1 ≤ length names
unfolding pools_of
some_pools word names is = by_cases (are_node_pools split) is
  where
    split : List (List ℕ)
    split = slice_split (λ b. b == 44) word

    by_cases : (b : Bool) → (if b then Some split else None) ≡ Some names → 1 ≤ length names
    by_cases true same = subst (λ (ns : List (List ℕ)). 1 ≤ length ns) (same_Some _ _ same) (let e = length-slice_split (λ b. b == 44) word in omega (arith, e))
    by_cases false same = absurd (cc same)

counted : (n : ℕ) (apart : Bool) → (is_count n && apart) ≡ true → 1 ≤ n
counted n apart is = leb-true 1 n (and_parts (nat_le 1 n) (nat_le n 64) (and_parts (is_count n) apart is).0).0

of_node : (given taken : List VolumeWord) → node_volumes given ≡ Some taken → 1 ≤ length taken
of_node given taken is = by_cases (is_count (length given) && are_apart given) (λ yes. counted _ _ yes) is
  where
    by_cases : (b : Bool) → (b ≡ true → 1 ≤ length given) → (if b then Some given else None) ≡ Some taken → 1 ≤ length taken
    by_cases true count same = subst (λ (vs : List VolumeWord). 1 ≤ length vs) (same_Some _ _ same) (count refl)
    by_cases false count same = absurd (cc same)

some_volumes : (words : List (List ℕ)) (taken : List VolumeWord) → volumes_of words ≡ Some taken → 1 ≤ length taken
unfolding volumes_of
some_volumes words taken is = by_cases (each_volume_of words) is
  where
    by_cases : (each : Option (List VolumeWord)) → option_and_then node_volumes each ≡ Some taken → 1 ≤ length taken
    by_cases (Some given) same = of_node given taken same
    by_cases None same = absurd (cc same)

-- the words of a node name a pool and a volume
abbrev NamesSome : NodeSaid → Type 0
NamesSome said = (1 ≤ length said.pools) × (1 ≤ length said.volumes)

names_some : (words : List (List ℕ)) (said : NodeSaid) → node_of words ≡ Some said → NamesSome said
unfolding node_of
names_some [] said is = absurd (cc is)
names_some (pools ∷ []) said is = absurd (cc is)
names_some (pools ∷ node ∷ volumes) said is = first (pools_of pools) (node_name_of node) (volumes_of volumes) refl refl is
  where
    first : (p : Option (List (List ℕ))) (n : Option (List ℕ)) (v : Option (List VolumeWord)) → pools_of pools ≡ p → volumes_of volumes ≡ v
        → (p >>= λ ps. n >>= λ m. v >>= λ vs. Some (record { pools = ps; node = m; volumes = vs })) ≡ Some said → NamesSome said
    first None n v one two same = absurd (cc same)
    first (Some ps) None v one two same = absurd (cc same)
    first (Some ps) (Some m) None one two same = absurd (cc same)
    first (Some ps) (Some m) (Some vs) one two same =
        subst NamesSome (same_Some _ _ same) (some_pools pools ps one, some_volumes volumes vs two)

-- the only disk, with so many volumes
pub record OneDisk {D : Type 0} (volume_count : D → ℕ) (volumes : ℕ) (disks : List D) : Type 0 where
  pub disk : D
  pub only : disks ≡ disk ∷ []
  pub has : volume_count disk ≡ volumes
  pub some : 1 ≤ volumes

module _ {D : Type 0} (volume_count : D → ℕ) where
  of_list : (volumes : ℕ) (disks : List D) → length disks ≡ 1 → list_all (λ d. volume_count d == volumes) disks ≡ true → 1 ≤ volumes → OneDisk volume_count volumes disks
  of_list volumes [] e all some = absurd (omega (arith, e))
  of_list volumes (d ∷ []) e all some =
      record { disk = d; only = refl; has = eqb-true (volume_count d) volumes (and_parts (volume_count d == volumes) true all).0; some = some }
  of_list volumes (d ∷ f ∷ more) e all some = absurd (omega (arith, e))

  of_said : (disks : List D) (said : NodeSaid) → NamesSome said → fit_disks volume_count disks said ≡ true → names_several said ≡ false → OneDisk volume_count (length said.volumes) disks
  of_said disks said some fit one =
      let parts = and_parts (length said.pools == length disks) (list_all (λ d. volume_count d == length said.volumes) disks) fit in
      let same = eqb-true (length said.pools) (length disks) parts.0 in
      let few_pools = ltb-false 1 (length said.pools) one in
      let one_pool : length disks ≡ 1 = omega (arith, same, few_pools, some.0) in
      of_list (length said.volumes) disks one_pool parts.1 some.1

  -- as many volumes as the words say shares
  pub one_disk : (words : List (List ℕ)) (disks : List D) → words_fit volume_count words disks ≡ true → words_are_later words ≡ false → OneDisk volume_count (length (shares_in words)) disks
  one_disk words disks fit later = by_cases (node_of words) refl fit later
    where
      by_cases : (said : Option NodeSaid) → node_of words ≡ said → option_map_or (fit_disks volume_count disks) said false ≡ true → option_map_or names_several said false ≡ false →
          OneDisk volume_count (length (option_map_or shares_said said [])) disks
      by_cases None is fits one = absurd (cc fits)
      by_cases (Some said) is fits one =
          subst (λ n. OneDisk volume_count n disks) (sym (length-map said.volumes (λ volume. volume.share))) (of_said disks said (names_some words said is) fits one)

  -- the same of the disks as they were lent
  pub one_disk_lent : (words : List (List ℕ)) (lent disks : List D) → lent ≡ disks → words_fit volume_count words lent ≡ true → words_are_later words ≡ false → OneDisk volume_count (length (shares_in words)) disks
  one_disk_lent words lent disks is fit later = subst (OneDisk volume_count (length (shares_in words))) is (one_disk words lent fit later)

  -- the last of a list of one, and another in its place
  last_of : (rest : List D) (disk first : D) → first ∷ [] ≡ rest ++ disk ∷ [] → (rest ≡ []) × (disk ≡ first)
  last_of [] disk first e = (refl, cc e)
  last_of (d ∷ rest) disk first e = absurd (none rest (cc e))
    where
      none : (more : List D) → [] ≡ more ++ disk ∷ [] → ⊥
      none [] k = cc k
      none (x ∷ more) k = cc k

  pub in_place : (items rest out : List D) (disk after : D) {volumes : ℕ} → OneDisk volume_count volumes items → items ≡ rest ++ disk ∷ [] → out ≡ rest ++ after ∷ [] →
      (items ≡ disk ∷ []) × (out ≡ after ∷ []) × (volume_count disk ≡ volumes)
  in_place items rest out disk after one before behind =
      let last = last_of rest disk one.disk (sym one.only ∙ before) in
      (one.only ∙ ap (λ d. d ∷ []) (sym last.1), behind ∙ ap (λ r. r ++ after ∷ []) last.0, ap volume_count last.1 ∙ one.has)

  pub volumes_stay : (items out : List D) (disk after : D) → items ≡ disk ∷ [] → out ≡ after ∷ [] → volume_count after ≡ volume_count disk → map volume_count out ≡ map volume_count items
  volumes_stay items out disk after before behind same = ap (map volume_count) behind ∙ ap (λ n. n ∷ []) same ∙ sym (ap (map volume_count) before)

  pub some_disk : (items : List D) {volumes : ℕ} → OneDisk volume_count volumes items → length items ≡ 0 → ⊥
  some_disk items one none = let e : length items ≡ 1 = ap length one.only in omega (arith, e, none)

-- what holds of all holds of the only one
pub holds_of_only : {D : Type 0} (P : D → Type 0) (items : List D) (disk : D) → items ≡ disk ∷ [] → All P items → P disk
holds_of_only P items disk is all = All-head P disk [] (subst (All P) is all)

-- how the words were judged, of the disks as they were lent
pub judged_items : {D : Type 0} (volume_count : D → ℕ) (words : List (List ℕ)) (ending : Option Ending) (lent disks : List D) → lent ≡ disks →
    IsJudged (words_fit volume_count words lent) (words_are_later words) ending → IsJudged (words_fit volume_count words disks) (words_are_later words) ending
judged_items volume_count words ending lent disks is j = subst (λ items. IsJudged (words_fit volume_count words items) (words_are_later words) ending) is j

-- what holds of the only one holds of all
pub holds_of_one : {D : Type 0} (P : D → Type 0) (disk : D) → P disk → All P (disk ∷ [])
holds_of_one P disk holds = All-cons P disk [] holds (All-nil P)
