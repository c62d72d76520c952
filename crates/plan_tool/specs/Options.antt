-- What the words of the command line say.
use Rattle.std.specs.Prelude.{ℕ, ◌-◌, ◌^◌, ◌≤◌, nat_le, ◌&&◌, List, [], ◌∷◌, codes, Option, Some, None, Result, Ok, Err, if◌then◌else◌, option_and_then}
use Rattle.clap.specs.Words.{Text, fault_of}
use Rattle.clap.specs.Simple.{matches_of}
use Rattle.clap.specs.Walk.{first_of, Row}
use Rattle.script_lang.specs.Number.{number_of}
use Rattle.script_lang.specs.Names.{is_node}
use Rattle.script_lang.specs.declared.words_fault.WordsFault.{WordsFault}
use Rattle.script_lang.specs.declared.words_fault.WordsFault.TheVariants.{Usage}
use Rattle.plan_tool.specs.declared.options.Options.{Options}
use Rattle.plan_tool.specs.Command.{planner}

-- the number, where it is from `low` to `high`
abbrev pub between : ℕ → ℕ → ℕ → Option ℕ
between low high n = if nat_le low n && nat_le n high then Some n else None

-- the text, where it is the name of a node
abbrev pub node_name : List ℕ → Option (List ℕ)
node_name text = if is_node text then Some text else None

-- the node that the options name
abbrev pub node_in : List Row → Option (List ℕ)
node_in rows = option_and_then node_name (first_of (codes "node") rows)

-- the number that an option writes, without a sign or leading zeros
abbrev pub number_in : Text → ℕ → ℕ → List Row → Option ℕ
number_in name low high rows = option_and_then (between low high) (option_and_then number_of (first_of name rows))

-- a value, or else the words are not of the form
abbrev pub or_usage : {T : Type 0} → Option T → Result T WordsFault
or_usage None = Err Usage
or_usage (Some value) = Ok value

-- the second step, where the first gave a value
infixl 10 ◌>>=◌
abbrev pub ◌>>=◌ : {A B : Type 0} → Result A WordsFault → (A → Result B WordsFault) → Result B WordsFault
Ok x >>= f = f x
Err fault >>= f = Err fault

-- what the options say
abbrev pub options_in : List Row → Result Options WordsFault
options_in rows = do
  node ← or_usage (node_in rows)
  time_ms ← or_usage (number_in (codes "at") 0 (2 ^ 64 - 1) rows)
  threshold ← or_usage (number_in (codes "threshold") 0 100 rows)
  bandwidth ← or_usage (number_in (codes "bandwidth") 1 1048576 rows)
  tolerance ← or_usage (number_in (codes "tolerance") 1 100 rows)
  max_errors ← or_usage (number_in (codes "errors") 1 (2 ^ 32 - 1) rows)
  Ok (record {
    node = node;
    time_ms = time_ms;
    threshold = threshold;
    bandwidth = bandwidth;
    tolerance = tolerance;
    max_errors = max_errors;
  })

-- what they say, unless the command refuses them
abbrev pub options_unless : {E : Type 0} → List E → List Row → Result Options WordsFault
options_unless [] rows = options_in rows
options_unless (fault ∷ faults) rows = Err Usage

-- what the words say
unfoldable pub options_of : List Text → Result Options WordsFault
options_of words = options_unless (fault_of planner words) (matches_of planner words)

-- the numbers of options are in their ranges
pub record AreInRange (options : Options) : Type 0 where
  pub threshold : options.threshold ≤ 100
  pub some_bandwidth : 1 ≤ options.bandwidth
  pub low_bandwidth : options.bandwidth ≤ 1048576
  pub some_tolerance : 1 ≤ options.tolerance
  pub low_tolerance : options.tolerance ≤ 100
  pub some_errors : 1 ≤ options.max_errors
  pub few_errors : options.max_errors ≤ 2 ^ 32 - 1
