-- Lemmas on the names of pools.
use Rattle.std.proofs.Common.{◌≡◌, ℕ, ◌&&◌, ◌==◌, nat_le, true, false, List, length, map, Bor, refl, sym, ap, ◌∙◌, Some, None}
use Rattle.std.proofs.lemmas.List.{length-map}
use Rattle.std.specs.List.{list_all, slice_split}
use Rattle.script_lang.specs.Names.{is_pool, are_distinct}
use Rattle.script_lang.specs.NodeWords.{pools_of, are_node_pools}
use Rattle.script_lang.proofs.TextLists.{all_pool_texts}

lent_pools : (names : List (Bor (List ℕ))) → are_node_pools (map (λ name. name.now) names) ≡ (nat_le (length names) 16 && list_all (λ name. is_pool name.now) names && are_distinct (map (λ name. name.now) names))
lent_pools names = rw (length-map, all_pool_texts names) refl

-- names that a node can't have
pub pools_refused : (word : List ℕ) (names : List (Bor (List ℕ))) → map (λ name. name.now) names ≡ slice_split (λ b. b == 44) word → (nat_le (length names) 16 && list_all (λ name. is_pool name.now) names && are_distinct (map (λ name. name.now) names)) ≡ false → pools_of word ≡ None
unfolding pools_of
pools_refused word names e refused = let no_pools : are_node_pools (slice_split (λ b. b == 44) word) ≡ false = ap are_node_pools (sym e) ∙ lent_pools names ∙ refused in rw no_pools refl

-- names that a node can have
pub pools_given : (word : List ℕ) (names : List (Bor (List ℕ))) → map (λ name. name.now) names ≡ slice_split (λ b. b == 44) word → (nat_le (length names) 16 && list_all (λ name. is_pool name.now) names && are_distinct (map (λ name. name.now) names)) ≡ true → pools_of word ≡ Some (map (λ name. name.now) names)
unfolding pools_of
pools_given word names e given = let pools : are_node_pools (slice_split (λ b. b == 44) word) ≡ true = ap are_node_pools (sym e) ∙ lent_pools names ∙ given in rw pools (ap Some (sym e))
