-- A name has one reading.
use Rattle.std.proofs.Common.{◌≡◌, ℕ, List, ap, sym, ◌∙◌}
use Rattle.volume_layout.specs.Paths.{IsBlockId, IsStamp, block_name, meta_name}
use Rattle.volume_layout.specs.Names.{NamesHaveOneReading}
use Rattle.volume_layout.specs.declared.names.Named.{Named}
use Rattle.volume_layout.specs.declared.names.Named.TheVariants.{Block, Meta, Other}
use Rattle.volume_layout.proofs.Reading.{NameParts, block, meta, name_parts, name_parts-block, name_parts-meta}

abbrev named_of : NameParts → Named
named_of (block id) = Block id
named_of (meta id stamp) = Meta id stamp

read_block : (name : List ℕ) (id : ℕ) → IsBlockId id → name ≡ block_name id → named_of (name_parts name) ≡ Block id
read_block name id valid is = ap (λ n. named_of (name_parts n)) is ∙ ap named_of (name_parts-block id valid)

read_meta : (name : List ℕ) (id stamp : ℕ) → IsBlockId id → IsStamp stamp → name ≡ meta_name id stamp → named_of (name_parts name) ≡ Meta id stamp
read_meta name id stamp valid stamped is = ap (λ n. named_of (name_parts n)) is ∙ ap named_of (name_parts-meta id stamp valid stamped)

pub one_reading : NamesHaveOneReading
one_reading name (Block id) (Block other) names reads = sym (read_block name id names.0 names.1) ∙ read_block name other reads.0 reads.1
one_reading name (Block id) (Meta other stamp) names reads = sym (read_block name id names.0 names.1) ∙ read_meta name other stamp reads.0 reads.1 reads.2
one_reading name (Block id) Other names reads = absurd (reads.0 id names.0 names.1)
one_reading name (Meta id stamp) (Block other) names reads = sym (read_meta name id stamp names.0 names.1 names.2) ∙ read_block name other reads.0 reads.1
one_reading name (Meta id stamp) (Meta other last) names reads =
    sym (read_meta name id stamp names.0 names.1 names.2) ∙ read_meta name other last reads.0 reads.1 reads.2
one_reading name (Meta id stamp) Other names reads = absurd (reads.1 id stamp names.0 names.1 names.2)
one_reading name Other (Block other) names reads = absurd (names.0 other reads.0 reads.1)
one_reading name Other (Meta other last) names reads = absurd (names.1 other last reads.0 reads.1 reads.2)
one_reading name Other Other names reads = λ i. Other
