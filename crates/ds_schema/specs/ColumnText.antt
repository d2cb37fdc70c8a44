-- The one printed spelling of a column list, as `a,b`, and of a key list, as `a desc,b`.
use Rattle.std.specs.Prelude.{ℕ, Bool, true, false, List, [], ◌∷◌, ◌++◌, codes}
use Rattle.std.specs.List.{flat_map}

abbrev pub desc_text : Bool → List ℕ
desc_text true = codes " desc"
desc_text false = []

abbrev pub key_text : List ℕ × Bool → List ℕ
key_text key = key.0 ++ desc_text key.1

abbrev pub names_text : List (List ℕ) → List ℕ
names_text [] = []
names_text (name ∷ names) = name ++ flat_map (λ other. codes "," ++ other) names

abbrev pub keys_text : List (List ℕ × Bool) → List ℕ
keys_text [] = []
keys_text (key ∷ keys) = key_text key ++ flat_map (λ other. codes "," ++ key_text other) keys
