-- The id of a plan.
use Rattle.std.specs.Prelude.{ℕ, List}
use Rattle.sha1.specs.Sha1.{sha1}
use Rattle.hex.specs.Hex.{encode_lower}

-- the SHA-1 digest of a text, in hexadecimal digits of lower case
abbrev pub id_of : List ℕ → List ℕ
id_of text = encode_lower (sha1 text)
