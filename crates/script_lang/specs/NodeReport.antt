-- The report of a node.
use Rattle.std.specs.Prelude.{ℕ, List, ◌∷◌, ◌++◌, codes}
use Rattle.std.specs.List.{flat_map}
use Rattle.script_lang.specs.ReplyWords.{and_number}
use Rattle.script_lang.specs.declared.reply.report.VolumeRow.{VolumeRow}

-- the line of a volume
abbrev pub volume_row_text : VolumeRow → List ℕ
volume_row_text row = and_number (and_number (and_number (and_number (codes "volume") row.i) row.capacity) row.used) row.replicas

-- its first line, and then the line of each volume
abbrev pub report_text : ℕ → ℕ → List VolumeRow → List ℕ
report_text volumes leftovers rows = and_number (and_number (codes "report") volumes) leftovers ++ flat_map (λ row. 10 ∷ volume_row_text row) rows
