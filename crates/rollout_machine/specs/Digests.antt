-- The digest of a file.
pub use Rattle.artifact_pieces.specs.Digests.{digest_of}
