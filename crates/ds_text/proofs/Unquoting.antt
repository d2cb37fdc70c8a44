-- The content of a quoted field is read piece by piece.
use Rattle.std.proofs.Common.{◌≡◌, ◌≤◌, ◌<◌, ◌+◌, ◌++◌, ◌∷◌, [], ◌==◌, ℕ, zero, suc, List, true, false, Option, Some, None, IfSome, IfNone, refl, sym, ap, ◌∙◌, arith, length, take, drop, get_or, length-drop, append_assoc, append-nil}
use Rattle.std.proofs.lemmas.List.{drop-drop}
use Rattle.memchr.specs.Find.{IsFirstByte, is_byte}
use Rattle.ds_text.specs.Reading.{Quoted, unquoted, with_front, begins_quoted, HasPiece}
use Rattle.ds_text.proofs.Searches.{test_false}

front_none : (r : Option Quoted) → with_front [] r ≡ r
front_none None = refl
front_none (Some q) = refl

front_more : (xs ys : List ℕ) (r : Option Quoted) → with_front xs (with_front ys r) ≡ with_front (xs ++ ys) r
front_more xs ys None = refl
front_more xs ys (Some q) = ap (λ l. let r : Option Quoted = Some (record { bytes = l; rest = q.rest }) in r) (sym (append_assoc xs ys q.bytes))

-- content up to a quote
piece_at : (n : ℕ) (bs : List ℕ) → n < length bs → ((k : ℕ) → k < n → (get_or bs k 0 == 34) ≡ false) → (get_or bs n 0 == 34) ≡ true → unquoted false bs ≡ with_front (take n bs) (unquoted true (drop (n + 1) bs))
piece_at n [] h free quote = absurd (omega arith)
piece_at zero (b ∷ bs) h free quote = rw quote (sym (front_none (unquoted true bs)))
piece_at (suc n) (b ∷ bs) h free quote =
    let first : (b == 34) ≡ false = free 0 (omega arith) in
    let next : suc n + 1 ≡ suc (n + 1) = omega arith in
    let rest = piece_at n bs (omega arith) (λ k l. free (suc k) (let e : suc k < suc n = omega arith in e)) quote in
    rw (first, next) (ap (with_front (b ∷ [])) rest ∙ front_more (b ∷ []) (take n bs) (unquoted true (drop (n + 1) bs)))

no_piece : (bs : List ℕ) → ((k : ℕ) → k < length bs → (get_or bs k 0 == 34) ≡ false) → unquoted false bs ≡ None
no_piece [] free = refl
no_piece (b ∷ bs) free =
    let first : (b == 34) ≡ false = free 0 (omega arith) in
    rw first (ap (with_front (b ∷ [])) (no_piece bs (λ k l. free (suc k) (let e : suc k < suc (length bs) = omega arith in e))))

pub piece_found : (bs : List ℕ) (r : Option ℕ) → IsFirstByte (is_byte 34) bs r → IfSome r (λ n. HasPiece bs n)
piece_found bs None h = tt
piece_found bs (Some n) h = (h.0.high, piece_at n bs h.0.high (λ k l. test_false (get_or bs k 0 == 34) (h.0.before k (omega arith) l)) h.1)

pub piece_none : (bs : List ℕ) (r : Option ℕ) → IsFirstByte (is_byte 34) bs r → IfNone r (unquoted false bs ≡ None)
piece_none bs None h = no_piece bs (λ k l. test_false (get_or bs k 0 == 34) (h k (omega arith) l))
piece_none bs (Some n) h = tt

-- behind a quote the content ends, or goes on with a quote
ends_here : (bs : List ℕ) → begins_quoted bs ≡ false → unquoted true bs ≡ Some (record { bytes = []; rest = bs })
ends_here [] h = refl
ends_here (b ∷ bs) h = rw h refl

goes_on : (bs : List ℕ) → begins_quoted bs ≡ true → unquoted true bs ≡ with_front (34 ∷ []) (unquoted false (drop 1 bs))
goes_on [] h = cc
goes_on (b ∷ bs) h = rw h refl

quoted_some : (bs : List ℕ) → begins_quoted bs ≡ true → 1 ≤ length bs
quoted_some [] h = cc
quoted_some (b ∷ bs) h = omega arith

-- content was taken up to a place
pub record Taken (bytes into : List ℕ) (at : ℕ) : Type 0 where
  pub within : at ≤ length bytes
  pub all : with_front into (unquoted false (drop at bytes)) ≡ unquoted false bytes

pub taken_none : (bytes : List ℕ) → Taken bytes [] 0
taken_none bytes = record { within = omega arith; all = front_none (unquoted false bytes) }

behind_piece : (bytes into : List ℕ) (at n : ℕ) → Taken bytes into at → HasPiece (drop at bytes) n → unquoted false bytes ≡ with_front (into ++ take n (drop at bytes)) (unquoted true (drop (at + (n + 1)) bytes))
behind_piece bytes into at n t h =
    let rest : drop (n + 1) (drop at bytes) ≡ drop (at + (n + 1)) bytes = drop-drop (n + 1) at bytes in
    sym t.all ∙ (ap (with_front into) h.1 ∙ (front_more into (take n (drop at bytes)) _ ∙ ap (λ l. with_front (into ++ take n (drop at bytes)) (unquoted true l)) rest))

pub taken_end : (bytes into more : List ℕ) (at n : ℕ) → Taken bytes into at → HasPiece (drop at bytes) n → more ≡ into ++ take n (drop at bytes) → begins_quoted (drop (at + (n + 1)) bytes) ≡ false
    → unquoted false bytes ≡ Some (record { bytes = more; rest = drop (at + (n + 1)) bytes })
taken_end bytes into more at n t h e q =
    behind_piece bytes into at n t h ∙ (ap (with_front (into ++ take n (drop at bytes))) (ends_here (drop (at + (n + 1)) bytes) q)
    ∙ ap (λ l. let r : Option Quoted = Some (record { bytes = l; rest = drop (at + (n + 1)) bytes }) in r) (append-nil (into ++ take n (drop at bytes)) ∙ sym e))

pub taken_more : (bytes into more new : List ℕ) (at n : ℕ) → Taken bytes into at → HasPiece (drop at bytes) n → more ≡ into ++ take n (drop at bytes) → begins_quoted (drop (at + (n + 1)) bytes) ≡ true
    → new ≡ more ++ 34 ∷ [] → Taken bytes new (at + (n + 1) + 1)
taken_more bytes into more new at n t h e q k =
    let behind = at + (n + 1) in
    let some = quoted_some (drop behind bytes) q in
    let rest = goes_on (drop behind bytes) q ∙ ap (λ l. with_front (34 ∷ []) (unquoted false l)) (drop-drop 1 behind bytes) in
    let whole = into ++ take n (drop at bytes) in
    record {
      within = omega (arith, some, length-drop behind bytes);
      all = sym (behind_piece bytes into at n t h ∙ (ap (with_front whole) rest ∙ (front_more whole (34 ∷ []) (unquoted false (drop (behind + 1) bytes))
          ∙ ap (λ l. with_front l (unquoted false (drop (behind + 1) bytes))) (ap (λ l. l ++ 34 ∷ []) (sym e) ∙ sym k))));
    }
