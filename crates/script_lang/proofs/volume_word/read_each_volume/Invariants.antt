use Rattle.std.proofs.Common.{◌≡◌, map, drop, string_bytes}
use Rattle.script_lang.specs.Volumes.{each_volume_of}
use Rattle.script_lang.proofs.Volumes.{before_rest}
use Rattle.script_lang.proofs.volume_word.read_each_volume.Given as goal

abbrev pub invariant-loop-word : goal.invariant-loop-word
invariant-loop-word l = each_volume_of (map string_bytes l.words) ≡ before_rest l.volumes.items (drop l.word-index l.words)
