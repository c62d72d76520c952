-- The first words of the lines of a script of jobs and clients.
use Rattle.std.specs.Prelude.{ℕ, List, [], ◌∷◌, Option, codes}
use Rattle.script_lang.specs.Table.{meaning_of}
use Rattle.script_lang.specs.declared.serve_verb.ServeVerb.{ServeVerb}
use Rattle.script_lang.specs.declared.serve_verb.ServeVerb.TheVariants.{End, Report, Fill, Job, Use, Write, Append, Read, Delete, Query, Cancel}
use Rattle.script_lang.specs.declared.serve_verb.JobVerb.{JobVerb}
use Rattle.script_lang.specs.declared.serve_verb.JobVerb.TheVariants.{Balance, Execute, DirScan, VolScan}

-- the words with the first words that they are
abbrev pub serve_verbs : List (List ℕ × ServeVerb)
serve_verbs =
    (codes "end", End) ∷ (codes "report", Report) ∷ (codes "fill", Fill) ∷ (codes "job", Job)
    ∷ (codes "use", Use) ∷ (codes "write", Write) ∷ (codes "append", Append) ∷ (codes "read", Read) ∷ (codes "delete", Delete)
    ∷ (codes "query", Query) ∷ (codes "cancel", Cancel) ∷ []

-- the words with the second words of a job's line that they are
abbrev pub job_verbs : List (List ℕ × JobVerb)
job_verbs = (codes "balance", Balance) ∷ (codes "execute", Execute) ∷ (codes "dirscan", DirScan) ∷ (codes "volscan", VolScan) ∷ []

-- the first word that a word is
unfoldable pub serve_verb_of : List ℕ → Option ServeVerb
serve_verb_of word = meaning_of serve_verbs word

-- the second word of a job's line that a word is
unfoldable pub job_verb_of : List ℕ → Option JobVerb
job_verb_of word = meaning_of job_verbs word
