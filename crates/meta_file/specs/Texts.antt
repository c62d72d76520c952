-- How verdicts are printed.
use Rattle.std.specs.Prelude.{ℕ, List, ◌∷◌, ◌++◌, codes}
use Rattle.std.specs.Fmt.{decimal}
use Rattle.meta_file.specs.declared.header.MetaFault.{MetaFault}
use Rattle.meta_file.specs.declared.header.MetaFault.TheVariants.{Short as MetaShort, Version, Kind, Step}
use Rattle.meta_file.specs.declared.verdict.Verdict.{Verdict}
use Rattle.meta_file.specs.declared.verdict.Verdict.TheVariants.{Whole, BadChunk, Count, Short, Meta}

-- a text and a number behind a space
abbrev pub and_number : List ℕ → ℕ → List ℕ
and_number text n = text ++ 32 ∷ decimal n

-- a text and another one behind a space
abbrev pub and_text : List ℕ → List ℕ → List ℕ
and_text text more = text ++ 32 ∷ more

-- why a meta file has no header
abbrev pub fault_text : MetaFault → List ℕ
fault_text (MetaShort have) = and_number (codes "short") have
fault_text (Version v) = and_number (codes "version") v
fault_text (Kind t) = and_number (codes "type") t
fault_text (Step n) = and_number (codes "step") n

-- what a check of a replica answers
abbrev pub verdict_text : Verdict → List ℕ
verdict_text Whole = codes "whole"
verdict_text (BadChunk chunk stored computed) = and_number (and_number (and_number (codes "badchunk") chunk) stored) computed
verdict_text (Count want have) = and_number (and_number (codes "count") want) have
verdict_text (Short want have) = and_number (and_number (codes "short") want) have
verdict_text (Meta fault) = and_text (codes "badmeta") (fault_text fault)
