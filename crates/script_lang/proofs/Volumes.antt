-- Lemmas on the words that name volumes, read one by one.
use Rattle.std.proofs.Common.{◌≡◌, ℕ, ◌+◌, ◌<◌, ◌≤◌, List, [], ◌∷◌, ◌++◌, length, map, drop, get_or, refl, ap, sym, ◌∙◌, append_assoc, append-nil, String, Global, string_bytes, Option, Some, None}
use Rattle.std.proofs.lemmas.List.{drop_more, drop_all}
use Rattle.std.specs.Option.{option_map}
use Rattle.script_lang.specs.Volumes.{volume_of, each_volume_of}
use Rattle.script_lang.specs.declared.volume_word.VolumeWord.{VolumeWord}

-- the volumes that were read, before those of the words that are left
abbrev pub before_rest : List VolumeWord → List (String Global) → Option (List VolumeWord)
before_rest volumes words = option_map (λ others. volumes ++ others) (each_volume_of (map string_bytes words))

map_again : (volumes : List VolumeWord) (volume : VolumeWord) (others : Option (List VolumeWord)) → option_map (λ o. volumes ++ o) (option_map (λ o. volume ∷ o) others) ≡ option_map (λ o. (volumes ++ volume ∷ []) ++ o) others
map_again volumes volume None = refl
map_again volumes volume (Some others) = ap Some (sym (append_assoc volumes (volume ∷ []) others))

with_first : (volumes : List VolumeWord) (volume : VolumeWord) (word : String Global) (words : List (String Global)) → volume_of (string_bytes word) ≡ Some volume → before_rest volumes (word ∷ words) ≡ before_rest (volumes ++ volume ∷ []) words
unfolding each_volume_of
with_first volumes volume word words e = rw e (map_again volumes volume (each_volume_of (map string_bytes words)))

no_first : (volumes : List VolumeWord) (word : String Global) (words : List (String Global)) → volume_of (string_bytes word) ≡ None → before_rest volumes (word ∷ words) ≡ None
unfolding each_volume_of
no_first volumes word words e = rw e refl

-- one more word
pub volume_read : (volumes : List VolumeWord) (volume : VolumeWord) (words : List (String Global)) (i : ℕ) (word : String Global) → i < length words → volume_of (string_bytes (get_or words i word)) ≡ Some volume → before_rest volumes (drop i words) ≡ before_rest (volumes ++ volume ∷ []) (drop (i + 1) words)
volume_read volumes volume words i word inside e = ap (before_rest volumes) (drop_more words i word inside) ∙ with_first volumes volume (get_or words i word) (drop (i + 1) words) e

-- a word that is of another form
pub volume_refused : (volumes : List VolumeWord) (words : List (String Global)) (i : ℕ) (word : String Global) → i < length words → volume_of (string_bytes (get_or words i word)) ≡ None → before_rest volumes (drop i words) ≡ None
volume_refused volumes words i word inside e = ap (before_rest volumes) (drop_more words i word inside) ∙ no_first volumes (get_or words i word) (drop (i + 1) words) e

-- no word is left
pub volumes_read : (volumes : List VolumeWord) (words : List (String Global)) (i : ℕ) → length words ≤ i → before_rest volumes (drop i words) ≡ Some volumes
unfolding each_volume_of
volumes_read volumes words i all = ap (before_rest volumes) (drop_all i words all) ∙ ap Some (append-nil volumes)
