use Rattle.std.proofs.Common.{◌≡◌, ◌∙◌, sym, refl, ap, Err, None, string_bytes, get_or}
use Rattle.std.proofs.lemmas.Result.{err_from_is_err_and}
use Rattle.script_lang.specs.Volumes.{volume_of}
use Rattle.script_lang.specs.declared.words_fault.WordsFault.TheVariants.{Usage}
use Rattle.script_lang.proofs.Volumes.{volume_read, volume_refused, volumes_read}
use Rattle.script_lang.proofs.volume_word.read_each_volume.Goals as goal

pub returns-in_err-read_volume-clause-usage : goal.returns-in_err-read_volume-clause-usage
returns-in_err-read_volume-clause-usage c = λ is.
    let given = err_from_is_err_and c.from_residual.result c.from_residual.ensures.1 in
    let usage : c.in_err-read_volume.field-0.0 ≡ Usage = cc (given.1, given.2, is) in
    let none : volume_of c.as_str.result.now ≡ None = c.in_err-read_volume.ensures.usage (ap Err usage) in
    let word = c.word-item.result in
    let i = c.loop-word.word-index in
    let at : string_bytes (get_or c.args.words.now i word) ≡ c.as_str.result.now = ap string_bytes (sym c.word-item.is) ∙ sym c.as_str.ensures.value in
    c.loop-word.invariant ∙ volume_refused c.loop-word.volumes.items c.args.words.now i word c.loop-word-test.true (ap volume_of at ∙ none)

pub loop-word-preserved : goal.loop-word-preserved
loop-word-preserved c =
    let word = c.word-item.result in
    let i = c.loop-word.word-index in
    let at : string_bytes (get_or c.args.words.now i word) ≡ c.as_str.result.now = ap string_bytes (sym c.word-item.is) ∙ sym c.as_str.ensures.value in
    c.loop-word.invariant
    ∙ volume_read c.loop-word.volumes.items c.in_ok-read_volume.field-0 c.args.words.now i word c.loop-word-test.true (ap volume_of at ∙ c.in_ok-read_volume.ensures.ok)
    ∙ rw (← c.in_ok-push.ensures.items) refl

pub returns-clause-ok : goal.returns-clause-ok
returns-clause-ok c = c.loop-word.invariant ∙ volumes_read c.loop-word.volumes.items c.args.words.now c.loop-word.word-index c.loop-word-test.false
