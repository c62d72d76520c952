-- The planner's command line, as one simple command of options.
use Rattle.std.specs.Prelude.{List, [], ◌∷◌, codes, Some, true, ◌≡◌}
use Rattle.clap.specs.Words.{App, Rule, Text, new_app, new_rule, with_rule, fault_of}
use Rattle.clap.specs.Simple.{on_top}
use Rattle.clap.specs.declared.builder.ArgAction.TheVariants.{Set}

-- an option that takes a value, as `--name VALUE`
abbrev pub option_named : Text → Rule
option_named name = record (new_rule name) { long = Some name; action = Some Set }

-- one that is to be there
abbrev pub required_option : Text → Rule
required_option name = record (option_named name) { required = true }

-- one that has a value where it isn't there
abbrev pub default_option : Text → Text → Rule
default_option name value = record (option_named name) { defaults = value ∷ [] }

-- the command, whose words begin with no program's name
abbrev pub planner : App
planner = with_rule (with_rule (with_rule (with_rule (with_rule (with_rule
    (on_top (λ s. record s { no_binary_name = true; disable_help_flag = true }) (new_app (codes "dbplan")))
    (required_option (codes "node"))) (required_option (codes "at"))) (default_option (codes "threshold") (codes "10")))
    (default_option (codes "bandwidth") (codes "10"))) (default_option (codes "tolerance") (codes "10"))) (default_option (codes "errors") (codes "5"))

-- the command takes the words
unfoldable pub IsTaken : List Text → Type 0
IsTaken words = fault_of planner words ≡ []
