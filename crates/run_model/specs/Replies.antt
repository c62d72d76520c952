-- What a read replies that has verified a replica.
use Rattle.std.specs.Prelude.{ℕ, List}
use Rattle.meta_file.specs.declared.verdict.Verdict.{Verdict}
use Rattle.meta_file.specs.declared.verdict.Verdict.TheVariants.{Whole}
use Rattle.script_lang.specs.declared.reply.Reply.{Reply}
use Rattle.script_lang.specs.declared.reply.Reply.TheVariants.{Data, Bad}

-- what a read replies that has verified a replica with this stamp and these bytes
abbrev pub read_reply : ℕ → List ℕ → Verdict → Reply
read_reply stamp bytes Whole = Data stamp bytes
read_reply stamp bytes verdict = Bad verdict
