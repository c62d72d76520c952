use Rattle.std.proofs.Common.{◌≡◌, ◌++◌, ◌∷◌, take, codes, string_bytes}
use Rattle.std.specs.List.{flat_map}
use Rattle.script_lang.specs.ReplyWords.{and_number}
use Rattle.script_lang.specs.NodeReport.{volume_row_text}
use Rattle.script_lang.proofs.reply.report.write_report.Given as goal

abbrev pub invariant-loop-row : goal.invariant-loop-row
invariant-loop-row l =
    string_bytes l.lines ≡ and_number (and_number (codes "report") l.fn.volumes) l.fn.leftovers ++ flat_map (λ row. 10 ∷ volume_row_text row) (take l.row-index l.rows)
