-- The lines of a script of jobs and clients.
use Rattle.std.specs.Prelude.{ℕ, if◌then◌else◌, List, Result, Ok, Err}
use Rattle.script_lang.specs.declared.LineFault.{LineFault}
use Rattle.script_lang.specs.declared.line.Line.{Line}
use Rattle.script_lang.specs.declared.serve.ServeLine.{ServeLine}
use Rattle.script_lang.specs.declared.serve.ServeLine.TheVariants.{Blank, End, Report, Fill, Balance, Execute, DirScan, VolScan, Client}
use Rattle.script_lang.specs.declared.serve_verb.ServeVerb.{ServeVerb}
use Rattle.script_lang.specs.declared.serve_verb.ServeVerb.TheVariants.{End as EndVerb, Report as ReportVerb, Fill as FillVerb, Job, Use, Write, Append, Read, Delete, Query, Cancel}
use Rattle.script_lang.specs.declared.serve_verb.JobVerb.{JobVerb}
use Rattle.script_lang.specs.declared.serve_verb.JobVerb.TheVariants.{Balance as BalanceJob, Execute as ExecuteJob, DirScan as DirScanJob, VolScan as VolScanJob}
use Rattle.script_lang.specs.NodeLines.{use_line}
use Rattle.script_lang.specs.ClientLines.{write_line, append_line, read_line, delete_line}
use Rattle.script_lang.specs.BalancerLines.{query_line, cancel_line}
use Rattle.script_lang.specs.Fields.{text_of, volume_number_of, percent_of, fill_count_of, truth_of}
use Rattle.script_lang.specs.Number.{number_of}
use Rattle.script_lang.specs.Script.{is_blank}
use Rattle.script_lang.specs.ServeVerbs.{serve_verb_of, job_verb_of}
use Rattle.script_lang.specs.Words.{Cursor, start_of, behind_word, field, rest_field, ends_with, ◌>>=◌}

-- COUNT SEED
abbrev pub fill_blocks : Cursor → Result ServeLine LineFault
fill_blocks c = do
  count ← field fill_count_of c
  seed ← field number_of (behind_word c)
  ends_with (behind_word (behind_word c)) (Fill count seed)

-- T
abbrev pub balance_job : Cursor → Result ServeLine LineFault
balance_job c = do
  t ← field percent_of c
  ends_with (behind_word c) (Balance t)

-- ID VERSION FORCE JSON
abbrev pub execute_job : Cursor → Result ServeLine LineFault
execute_job c = do
  id ← field text_of c
  version ← field number_of (behind_word c)
  force ← field truth_of (behind_word (behind_word c))
  json ← rest_field (behind_word (behind_word (behind_word c)))
  Ok (Execute id version force json)

-- VOL
abbrev pub volscan_job : Cursor → Result ServeLine LineFault
volscan_job c = do
  vol ← field volume_number_of c
  ends_with (behind_word c) (VolScan vol)

-- a job behind its two words
abbrev pub job_after : JobVerb → Cursor → Result ServeLine LineFault
job_after BalanceJob = balance_job
job_after ExecuteJob = execute_job
job_after DirScanJob = λ c. ends_with c DirScan
job_after VolScanJob = volscan_job

-- a job behind its first word
abbrev pub job_line : Cursor → Result ServeLine LineFault
job_line c = do
  verb ← field job_verb_of c
  job_after verb (behind_word c)

-- a line of a client
abbrev pub client_of : Result Line LineFault → Result ServeLine LineFault
client_of (Ok line) = Ok (Client line)
client_of (Err fault) = Err fault

-- a line behind its first word
abbrev pub serve_line_after : ServeVerb → Cursor → Result ServeLine LineFault
serve_line_after EndVerb = λ c. ends_with c End
serve_line_after ReportVerb = λ c. ends_with c Report
serve_line_after FillVerb = fill_blocks
serve_line_after Job = job_line
serve_line_after Use = λ c. client_of (use_line c)
serve_line_after Write = λ c. client_of (write_line c)
serve_line_after Append = λ c. client_of (append_line c)
serve_line_after Read = λ c. client_of (read_line c)
serve_line_after Delete = λ c. client_of (delete_line c)
serve_line_after Query = λ c. client_of (query_line c)
serve_line_after Cancel = λ c. client_of (cancel_line c)

-- a line with words
abbrev pub serve_words_line : Cursor → Result ServeLine LineFault
serve_words_line c = do
  verb ← field serve_verb_of c
  serve_line_after verb (behind_word c)

-- the line that a text is, or the column of its first word that does not fit
unfoldable pub serve_line_of : List ℕ → Result ServeLine LineFault
serve_line_of text = if is_blank text then Ok Blank else serve_words_line (start_of text)
