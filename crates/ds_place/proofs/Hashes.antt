-- The hash of bytes that come one after another.
use Rattle.std.proofs.Common.{◌≡◌, ℕ, ◌+◌, ◌<◌, refl, ap, ◌∙◌, List, [], ◌∷◌, length, ◌++◌, take, get_or, append-nil}
use Rattle.std.specs.List.{flat_map}
use Rattle.std.proofs.lemmas.Grind.{fold-append, flat_map-append}
use Rattle.std.proofs.lemmas.List.{map_more}
use Rattle.ds_value.specs.declared.value.Value.{Value}
use Rattle.ds_value.specs.Canonical.{canonical_bytes}
use Rattle.ds_schema.specs.Rows.{at, val}
use Rattle.ds_place.specs.Places.{fnv, hash_on}

pub fnv-is : (bytes : List ℕ) → fnv bytes ≡ hash_on 0xcbf29ce484222325 bytes
unfolding fnv
fnv-is bytes = refl

-- the hash of the values in one column more
pub column_more : (h : ℕ) (row : List Value) (columns : List ℕ) (i d : ℕ) → i < length columns →
    hash_on h (flat_map canonical_bytes (val (take (i + 1) columns) row)) ≡ hash_on (hash_on h (flat_map canonical_bytes (val (take i columns) row))) (canonical_bytes (at row (get_or columns i d)))
column_more h row columns i d below =
    ap (λ values. hash_on h (flat_map canonical_bytes values)) (map_more (at row) columns i d below)
    ∙ ap (hash_on h) (flat_map-append canonical_bytes (val (take i columns) row) (at row (get_or columns i d) ∷ []) ∙ ap (λ bytes. flat_map canonical_bytes (val (take i columns) row) ++ bytes) (append-nil (canonical_bytes (at row (get_or columns i d)))))
    ∙ fold-append _ h (flat_map canonical_bytes (val (take i columns) row)) (canonical_bytes (at row (get_or columns i d)))
