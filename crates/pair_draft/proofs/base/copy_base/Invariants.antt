use Rattle.std.proofs.Common.{◌≡◌, ◌≤◌, ◌+◌, ◌-◌, [], List}
use Rattle.std.specs.Prelude.{Option}
use Rattle.disk_model.specs.Worlds.{World}
use Rattle.pair_draft.specs.Files.{file_bytes, file_faults, SameFile}
use Rattle.pair_draft.specs.Writers.{writer_of, HasPushed, Keeps}
use Rattle.pair_draft.specs.Bases.{HasBase}
use Rattle.pair_draft.proofs.base.copy_base.Given as goal

-- so many bytes were copied
abbrev pub invariant-pieces : goal.invariant-pieces
invariant-pieces g l = record {
  within : l.done ≤ l.fn.len;
  len : l.writer.len ≡ l.fn.writer.len + l.done;
  base : (told : Option (List World)) → HasPushed told (writer_of g.D.Draft.Draft.place g.D.Draft.Draft.bytes l.fn.writer) [] →
      HasBase told (file_bytes g.D.Reader.Reader.bytes l.fn.block) l.done (writer_of g.D.Draft.Draft.place g.D.Draft.Draft.bytes l.writer);
  goes_on : l.writer.meta ≡ l.fn.writer.meta;
  keeps : Keeps (writer_of g.D.Draft.Draft.place g.D.Draft.Draft.bytes l.fn.writer) (writer_of g.D.Draft.Draft.place g.D.Draft.Draft.bytes l.writer);
  same : SameFile g.D.Reader.Reader.number g.D.Reader.Reader.bytes l.fn.block l.block;
  draft_later : g.D.Draft.Draft.faults l.fn.writer.block ≤ g.D.Draft.Draft.faults l.writer.block;
  block_later : file_faults g.D.Reader.Reader.faults l.fn.block ≤ file_faults g.D.Reader.Reader.faults l.block;
}

abbrev pub decreases-pieces : goal.decreases-pieces
decreases-pieces g l = l.fn.len - l.done
