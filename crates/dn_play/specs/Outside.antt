-- What the words of a run say of its disks.
use Rattle.std.specs.Prelude.{ℕ, ◌≡◌, Bool, true, false, ◌&&◌, ◌==◌, nat_lt, List, [], length, map, Option, None, Some, Result, Ok, Err, ⊤}
use Rattle.std.specs.List.{list_all}
use Rattle.std.specs.Option.{option_map_or}
use Rattle.script_lang.specs.NodeWords.{NodeSaid, node_of}
use Rattle.run_end.specs.declared.ending.Ending.{Ending}
use Rattle.run_end.specs.declared.ending.Ending.TheVariants.{Usage, NoMemory, NotCarriedOut}

-- as many pools as there are disks, and as many volumes as each of them has
abbrev pub fit_disks : {D : Type 0} → (D → ℕ) → List D → NodeSaid → Bool
fit_disks volume_count disks said = (length said.pools == length disks) && list_all (λ d. volume_count d == length said.volumes) disks

-- whether the words are of the form and fit the disks
abbrev pub words_fit : {D : Type 0} → (D → ℕ) → List (List ℕ) → List D → Bool
words_fit volume_count words disks = option_map_or (fit_disks volume_count disks) (node_of words) false

-- several pools, which isn't carried out yet
abbrev pub names_several : NodeSaid → Bool
names_several said = nat_lt 1 (length said.pools)

-- whether the words name several pools
abbrev pub words_are_later : List (List ℕ) → Bool
words_are_later words = option_map_or names_several (node_of words) false

-- the shares of the volumes, by their numbers
abbrev pub shares_said : NodeSaid → List ℕ
shares_said said = map (λ volume. volume.share) said.volumes

abbrev pub shares_in : List (List ℕ) → List ℕ
shares_in words = option_map_or shares_said (node_of words) []

-- the fault of a result
abbrev pub err_of : {T E : Type 0} → Result T E → Option E
err_of (Ok value) = None
err_of (Err fault) = Some fault

-- how a run ends whose words aren't carried out: they don't fit, or name several pools, or there is no memory to
-- read them
abbrev pub IsJudged : Bool → Bool → Option Ending → Type 0
IsJudged fit later None = (fit ≡ true) × (later ≡ false)
IsJudged fit later (Some Usage) = fit ≡ false
IsJudged fit later (Some NoMemory) = ⊤
IsJudged fit later (Some NotCarriedOut) = (fit ≡ true) × (later ≡ true)
IsJudged fit later (Some ending) = ⊥
