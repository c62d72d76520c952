use Rattle.volume_layout.proofs.OtherFiles.{elsewhere_is_foreign, other_names_are_foreign, strays_are_foreign}
use Rattle.volume_layout.proofs.paths.other_files_are_foreign.Goals as goal

pub returns-clause-elsewhere : goal.returns-clause-elsewhere
returns-clause-elsewhere c = elsewhere_is_foreign

pub returns-clause-names : goal.returns-clause-names
returns-clause-names c = other_names_are_foreign

pub returns-clause-strays : goal.returns-clause-strays
returns-clause-strays c = strays_are_foreign
