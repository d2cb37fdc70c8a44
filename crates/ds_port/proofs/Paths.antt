-- The bytes of a name are text.
use Rattle.std.proofs.Common.{◌≡◌, ℕ, ◌<◌, ◌≤◌, List, true, arith}
use Rattle.std.specs.Str.{IsUtf8}
use Rattle.std.proofs.lemmas.Bool.{leb-true, and_parts}
use Rattle.std.proofs.lemmas.Str.{IsUtf8-from_ascii}
use Rattle.std.proofs.lemmas.Str.Ascii.{IsAscii-from_all}
use Rattle.ds_value.specs.Names.{IsName, is_name_byte}

under : (b : ℕ) → b ≤ 126 → b < 128
under b most = omega arith

below : (b : ℕ) → is_name_byte b ≡ true → b < 128
below b is = under b (leb-true b 126 (and_parts _ _ (and_parts _ _ is).1).0)

pub name_is_text : (bytes : List ℕ) → IsName bytes → IsUtf8 bytes
name_is_text bytes n = IsUtf8-from_ascii bytes (IsAscii-from_all bytes (λ k d inside. below _ (n.each k d inside)))
