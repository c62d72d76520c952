use Rattle.std.proofs.Common.{ℕ, ◌+◌, drop, ap, arith, length-append}
use Rattle.std.proofs.lemmas.List.{drop_all, length-drop, length-take-le, length-take}
use Rattle.mem_disks.specs.Streams.{SourceState}
use Rattle.mem_disks.proofs.Pieces.{handed_out}
use Rattle.mem_disks.proofs.streams.MemSourceSource.read.Goals as goal

pub returns-clause-bytes : goal.returns-clause-bytes
returns-clause-bytes c = (
  handed_out c.self.inside.bytes.items c.deref.result.now _ c.copy_from_slice.new.self _ c.self.inside.at c.min-count.result
      (ap (λ (s : SourceState). s.bytes) c.self.view_is) c.deref.ensures.value c.copy_from_slice.ensures.after
      (omega (arith, c.copy_from_slice.ensures.len, length-take-le c.min-count.result c.args.out.now, length-take {A = ℕ}, c.min.ensures, c.min-count.ensures)),
  λ none room. drop_all (c.self.inside.at + c.min-count.result) c.self.inside.bytes.items
      (omega (arith, none, room, c.copy_from_slice.ensures.len, length-append c.copy_from_slice.new.self (drop c.min-count.result c.args.out.now), length-drop {A = ℕ}, length-take {A = ℕ}, c.min.ensures, c.min-count.ensures, c.self.invariant.0, c.self.invariant.1)),
)
