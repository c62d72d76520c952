use Rattle.std.proofs.Common.{◌∙◌, ap, map}
use Rattle.script_lang.specs.Table.{meaning_of}
use Rattle.script_lang.specs.Verbs.{verb_of}
use Rattle.script_lang.proofs.verb.read_verb.Goals as goal

pub returns : goal.returns
unfolding verb_of
returns c = c.meaning_of.ensures ∙ ap (λ rows. meaning_of (map (λ row. (row.0.now, row.1)) rows) c.args.word.now) c.as_slice.ensures
