-- The words of a reply.
pub use Rattle.meta_file.specs.Texts.{and_number, and_text}
