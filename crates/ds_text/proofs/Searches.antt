-- What a search for a byte says of a list.
use Rattle.std.proofs.Common.{◌≡◌, ◌<◌, ◌==◌, not, ℕ, suc, List, [], ◌∷◌, Bool, true, false, Option, Some, None, is_some, refl, sym, ap, arith, length, get_or}
use Rattle.std.specs.List.{list_any}
use Rattle.std.proofs.lemmas.List.Folds.{list_any_at}
use Rattle.std.proofs.lemmas.List.Sums.{prefix_len_is}
use Rattle.memchr.specs.Find.{IsFirstByte, is_byte}
use Rattle.ds_text.specs.Reading.{plain_len}

pub test_false : (b : Bool) → (b ≡ true → ⊥) → b ≡ false
test_false true h = absurd (h refl)
test_false false h = refl

pub found_len : (d n : ℕ) (bytes : List ℕ) → IsFirstByte (is_byte d) bytes (Some n) → n ≡ plain_len d bytes
found_len d n bytes h =
    sym (prefix_len_is (λ b. not (b == d)) bytes n 0 (omega (arith, h.0.high)) (λ k l. ap not (test_false (get_or bytes k 0 == d) (h.0.before k (omega arith) l))) (λ _. ap not h.1))

pub no_len : (d : ℕ) (bytes : List ℕ) → IsFirstByte (is_byte d) bytes None → length bytes ≡ plain_len d bytes
no_len d bytes h =
    sym (prefix_len_is (λ b. not (b == d)) bytes (length bytes) 0 (omega arith) (λ k l. ap not (test_false (get_or bytes k 0 == d) (h k (omega arith) l))) (λ l. absurd (omega arith)))

pub any_found : (test : ℕ → Bool) (bytes : List ℕ) (r : Option ℕ) → IsFirstByte test bytes r → is_some r ≡ list_any test bytes
any_found test [] None h = refl
any_found test (b ∷ bytes) None h = rw (test_false (test b) (h 0 (omega arith) (omega arith))) (any_found test bytes None (λ k l m. h (suc k) (omega arith) (let e : suc k < suc (length bytes) = omega arith in e)))
any_found test bytes (Some n) h = sym (list_any_at test bytes n 0 h.0.high h.1)
