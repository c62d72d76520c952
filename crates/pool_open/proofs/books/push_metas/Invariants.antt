use Rattle.std.proofs.Common.{map, take}
use Rattle.volume_layout.specs.declared.block_file.BlockFile.TheVariants.{WritingMeta}
use Rattle.pool_open.specs.Plan.{held_file}
use Rattle.pool_open.specs.Found.{AddsLeftovers}
use Rattle.pool_open.proofs.books.push_metas.Given as goal

abbrev pub invariant-loop-meta : goal.invariant-loop-meta
invariant-loop-meta l = AddsLeftovers l.id (map (λ meta. held_file l.vol l.stamp 0 (WritingMeta meta)) (take l.meta-index l.metas)) l.fn.leftovers.items l.leftovers.items
