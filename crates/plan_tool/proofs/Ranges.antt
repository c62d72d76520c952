-- The numbers of options that words say are in their ranges.
use Rattle.std.proofs.Common.{◌≡◌, ◌⊎◌, ◌∙◌, inl, inr, sym, subst, refl, ℕ, ◌≤◌, ◌^◌, ◌-◌, List, [], ◌∷◌, true, false, Bool, Option, Some, None, Result, Ok, Err, arith, cond}
use Rattle.std.specs.Prelude.{nat_le, ◌&&◌, codes, option_and_then}
use Rattle.std.proofs.lemmas.Grind.{common_steps}
use Rattle.clap.specs.Words.{Text, fault_of}
use Rattle.clap.specs.Simple.{matches_of}
use Rattle.clap.specs.Walk.{Row, first_of}
use Rattle.script_lang.specs.Number.{number_of}
use Rattle.script_lang.specs.declared.words_fault.WordsFault.{WordsFault}
use Rattle.script_lang.specs.declared.words_fault.WordsFault.TheVariants.{Memory}
use Rattle.plan_tool.specs.declared.options.Options.{Options}
use Rattle.plan_tool.specs.Command.{planner}
use Rattle.plan_tool.specs.Options.{between, node_in, number_in, or_usage, ◌>>=◌, options_in, options_unless, options_of, AreInRange}

-- where the second step gave a value, so did the first
record Gave {T B : Type 0} (o : Option T) (f : T → Result B WordsFault) (b : B) : Type 0 where
  value : T
  is : o ≡ Some value
  then : f value ≡ Ok b

gave : {T B : Type 0} (o : Option T) (f : T → Result B WordsFault) (b : B) → (or_usage o >>= f) ≡ Ok b → Gave o f b
gave None f b e = absurd cc
gave (Some x) f b e = record { value = x; is = refl; then = e }

record IsBetween (low high n : ℕ) : Type 0 where
  above : low ≤ n
  below : n ≤ high

between_at : (b : Bool) (low high n m : ℕ) → (nat_le low n && nat_le n high) ≡ b → (let none : Option ℕ = None in cond b (Some n) none) ≡ Some m → IsBetween low high m
between_at true low high n m e is =
    let same : n ≡ m = cc in
    subst (IsBetween low high) same (record { above = grind (arith, common_steps); below = grind (arith, common_steps) })
between_at false low high n m e is = absurd cc

between_of : (low high : ℕ) (o : Option ℕ) (m : ℕ) → option_and_then (between low high) o ≡ Some m → IsBetween low high m
between_of low high None m e = absurd cc
between_of low high (Some n) m e = between_at (nat_le low n && nat_le n high) low high n m refl e

in_range : (rows : List Row) (options : Options) → options_in rows ≡ Ok options → AreInRange options
in_range rows options e =
    let node = gave (node_in rows) _ options e in
    let at = gave (number_in (codes "at") 0 (2 ^ 64 - 1) rows) _ options node.then in
    let threshold = gave (number_in (codes "threshold") 0 100 rows) _ options at.then in
    let bandwidth = gave (number_in (codes "bandwidth") 1 1048576 rows) _ options threshold.then in
    let tolerance = gave (number_in (codes "tolerance") 1 100 rows) _ options bandwidth.then in
    let errors = gave (number_in (codes "errors") 1 (2 ^ 32 - 1) rows) _ options tolerance.then in
    let t = between_of 0 100 (option_and_then number_of (first_of (codes "threshold") rows)) threshold.value threshold.is in
    let b = between_of 1 1048576 (option_and_then number_of (first_of (codes "bandwidth") rows)) bandwidth.value bandwidth.is in
    let p = between_of 1 100 (option_and_then number_of (first_of (codes "tolerance") rows)) tolerance.value tolerance.is in
    let m = between_of 1 (2 ^ 32 - 1) (option_and_then number_of (first_of (codes "errors") rows)) errors.value errors.is in
    let made : Options = record { node = node.value; time_ms = at.value; threshold = threshold.value; bandwidth = bandwidth.value; tolerance = tolerance.value; max_errors = errors.value } in
    let same : made ≡ options = ok_same made options errors.then in
    subst AreInRange same (record {
      threshold = t.below;
      some_bandwidth = b.above;
      low_bandwidth = b.below;
      some_tolerance = p.above;
      low_tolerance = p.below;
      some_errors = m.above;
      few_errors = m.below;
    })
  where
    ok_same : (x y : Options) → (let r : Result Options WordsFault = Ok x in r ≡ Ok y) → x ≡ y
    ok_same x y e = cc

unless_taken : {E : Type 0} (faults : List E) (rows : List Row) (options : Options) → options_unless faults rows ≡ Ok options → AreInRange options
unless_taken [] rows options e = in_range rows options e
unless_taken (fault ∷ faults) rows options e = absurd cc

-- options that the words say are in their ranges
pub options_in_range : (words : List Text) (options : Options) → options_of words ≡ Ok options → AreInRange options
unfolding options_of
options_in_range words options e = unless_taken (fault_of planner words) (matches_of planner words) options e

-- the options that were read are those that the words say
pub told_options : (words : List Text) (options : Options) → (let answer : Result Options WordsFault = Ok options in (answer ≡ Err Memory) ⊎ (answer ≡ options_of words)) → options_of words ≡ Ok options
told_options words options (inl e) = absurd cc
told_options words options (inr e) = sym e

-- and no others
pub only_options : (words : List Text) (said options : Options) → options_of words ≡ Ok said → options_of words ≡ Ok options → said ≡ options
only_options words said options e k = ok_same said options (sym e ∙ k)
  where
    ok_same : (x y : Options) → (let r : Result Options WordsFault = Ok x in r ≡ Ok y) → x ≡ y
    ok_same x y h = cc
