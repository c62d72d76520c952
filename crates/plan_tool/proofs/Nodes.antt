-- The name of a node is text.
use Rattle.std.proofs.Common.{◌≡◌, ℕ, ◌<◌, true, false, Bool, List, [], ◌∷◌, arith, refl, cond, Option, Some, None}
use Rattle.std.specs.Str.{IsUtf8, IsAscii}
use Rattle.std.specs.List.{list_all}
use Rattle.std.proofs.lemmas.Str.{IsUtf8-from_ascii}
use Rattle.std.proofs.lemmas.Str.Ascii.{IsAscii-cons}
use Rattle.std.proofs.lemmas.Grind.{common_steps}
use Rattle.script_lang.specs.Names.{is_node, is_node_byte}
use Rattle.plan_tool.specs.Options.{node_name}

node_byte_ascii : (b : ℕ) → is_node_byte b ≡ true → b < 128
node_byte_ascii b h = grind (arith, common_steps)

-- names of nodes are ASCII
pub node_bytes_ascii : (word : List ℕ) → list_all is_node_byte word ≡ true → IsAscii word
node_bytes_ascii [] h = λ i. omega arith
node_bytes_ascii (b ∷ word) h =
    IsAscii-cons b word (node_byte_ascii b (grind (arith, common_steps))) (node_bytes_ascii word (grind (arith, common_steps)))

pub node_utf8 : (word : List ℕ) → is_node word ≡ true → IsUtf8 word
node_utf8 word h = IsUtf8-from_ascii word (node_bytes_ascii word (grind (arith, common_steps)))

node_name_at : (word : List ℕ) (b : Bool) → (IsUtf8 word → ⊥) → is_node word ≡ b → let none : Option (List ℕ) = None in none ≡ cond b (Some word) None
node_name_at word true refused e = absurd (refused (node_utf8 word e))
node_name_at word false refused e = refl

-- what isn't text isn't the name of a node
pub node_name_refused : (word : List ℕ) → (IsUtf8 word → ⊥) → None ≡ node_name word
node_name_refused word refused = node_name_at word (is_node word) refused refl
