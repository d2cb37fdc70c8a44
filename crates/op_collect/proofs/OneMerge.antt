-- Lists have one merge.
use Rattle.std.proofs.Common.{◌≡◌, ◌<◌, ◌+◌, ℕ, zero, suc, Bool, true, false, cond, refl, sym, ap, ap₂, ◌∙◌, subst, arith, List, [], ◌∷◌, ◌++◌, length, get_or, set, Option, Some, None}
use Rattle.std.specs.Ordering.{is_lt}
use Rattle.std.specs.declared.cmp.Ordering.{Ordering}
use Rattle.std.specs.declared.cmp.Ordering.TheVariants.{Less, Equal, Greater}
use Rattle.std.proofs.lemmas.List.{length-append}
use Rattle.streams.specs.Lists.{AllEmpty, IsLeast, IsOrder, Merges}
use Rattle.ds_schema.specs.Rows.{row_cmp}
use Rattle.op_base.specs.Lists.{joined}
use Rattle.op_base.proofs.Orders.{row_total}
use Rattle.op_collect.specs.Merged.{Begun, least, lesser, merged, merged_to, moved, taken, OneMerge}
use Rattle.op_collect.proofs.Means.{is_order}

-- ---- no two merges

empty_at : {X : Type 0} (lists : List (List X)) (i : ℕ) → AllEmpty lists → get_or lists i [] ≡ []
empty_at [] i a = refl
empty_at (xs ∷ lists) zero a = a.0
empty_at (xs ∷ lists) (suc i) a = empty_at lists i a.1

-- what begins least begins at one place
one_place : {X : Type 0} (cmp : X → X → Ordering) (lists : List (List X)) (i j : ℕ) (x y : X) (xs ys : List X) → get_or lists i [] ≡ x ∷ xs → get_or lists j [] ≡ y ∷ ys → IsLeast cmp lists i x → IsLeast cmp lists j y → i < j → ⊥
one_place cmp lists i j x y xs ys here there a b h =
    let less : true ≡ false = sym (ap is_lt ((b i x xs here).1 h)) ∙ (a j y ys there).0 in cc

same_place : {X : Type 0} (cmp : X → X → Ordering) (lists : List (List X)) (i j : ℕ) (x y : X) (xs ys : List X) → get_or lists i [] ≡ x ∷ xs → get_or lists j [] ≡ y ∷ ys → IsLeast cmp lists i x → IsLeast cmp lists j y → i ≡ j
same_place cmp lists i j x y xs ys here there a b = omega (arith, one_place cmp lists i j x y xs ys here there a b, one_place cmp lists j i y x ys xs there here b a)

one_merge : {X : Type 0} (cmp : X → X → Ordering) (lists : List (List X)) (xs ys : List X) → Merges cmp lists xs → Merges cmp lists ys → xs ≡ ys
one_merge cmp lists [] [] a b = refl
one_merge cmp lists [] (y ∷ ys) a b = let no = sym (empty_at lists b.0 a) ∙ b.3 in cc
one_merge cmp lists (x ∷ xs) [] a b = let no = sym (empty_at lists a.0 b) ∙ a.3 in cc
one_merge cmp lists (x ∷ xs) (y ∷ ys) a b =
    let place : a.0 ≡ b.0 = same_place cmp lists a.0 b.0 x y a.1 b.1 a.3 b.3 a.4 b.4 in
    let both : x ∷ a.1 ≡ y ∷ b.1 = sym a.3 ∙ (ap (λ i. get_or lists i []) place ∙ b.3) in
    let item : x ≡ y = cc in
    let rest : a.1 ≡ b.1 = cc in
    let later : Merges cmp (set lists a.0 a.1) ys = subst (λ i. Merges cmp (set lists i a.1) ys) (sym place) (subst (λ r. Merges cmp (set lists b.0 r) ys) (sym rest) b.5) in
    ap₂ (λ z zs. z ∷ zs) item (one_merge cmp (set lists a.0 a.1) xs ys a.5 later)

-- ---- the merge

abbrev IsFound : {X : Type 0} → (X → X → Ordering) → List (List X) → Option (Begun X) → Type 0
IsFound cmp lists None = AllEmpty lists
IsFound cmp lists (Some f) = (f.0 < length lists) × (get_or lists f.0 [] ≡ f.1 ∷ f.2) × IsLeast cmp lists f.0 f.1

is_less : (o : Ordering) → is_lt o ≡ true → o ≡ Less
is_less Less h = refl
is_less Equal h = cc
is_less Greater h = cc

module _ {X : Type 0} (cmp : X → X → Ordering) (order : IsOrder cmp) where
  -- what isn't below what isn't below x isn't below x
  above : (x b y : X) → is_lt (cmp b x) ≡ false → is_lt (cmp y b) ≡ false → is_lt (cmp y x) ≡ false
  above x b y h k = go (is_lt (cmp y x)) refl
    where
      go : (t : Bool) → is_lt (cmp y x) ≡ t → is_lt (cmp y x) ≡ false
      go false e = e
      go true e = let no : true ≡ false = sym (ap is_lt (order.below y x b e h)) ∙ k in cc

  found_moved : (lists : List (List X)) (o : Option (Begun X)) → IsFound cmp lists o → IsFound cmp ([] ∷ lists) (moved o)
  found_moved lists None h = (refl, h)
  found_moved lists (Some f) h = (omega (arith, h.0), h.1, behind)
    where
      behind : IsLeast cmp ([] ∷ lists) (suc f.0) f.1
      behind zero y rest e = cc
      behind (suc j) y rest e = let k = h.2 j y rest e in (k.0, λ l. k.1 (omega (arith, l)))

  first_least : (x : X) (rest : List X) (lists : List (List X)) → ((j : ℕ) (y : X) (later : List X) → get_or lists j [] ≡ y ∷ later → is_lt (cmp y x) ≡ false) → IsLeast cmp ((x ∷ rest) ∷ lists) 0 x
  first_least x rest lists h zero y later e = let same : x ≡ y = cc in (subst (λ z. is_lt (cmp z x) ≡ false) same (order.itself x), λ l. absurd (omega arith))
  first_least x rest lists h (suc j) y later e = (h j y later e, λ l. absurd (omega arith))

  found_lesser : (x : X) (rest : List X) (lists : List (List X)) (o : Option (Begun X)) → IsFound cmp lists o → IsFound cmp ((x ∷ rest) ∷ lists) (lesser cmp x rest o)
  found_lesser x rest lists None h = (omega arith, refl, first_least x rest lists (λ j y later e. absurd (let no = sym (empty_at lists j h) ∙ e in cc)))
  found_lesser x rest lists (Some f) h = go (is_lt (cmp f.1 x)) refl
    where
      first : (y : X) (later : List X) → x ∷ rest ≡ y ∷ later → is_lt (cmp f.1 x) ≡ true → (is_lt (cmp y f.1) ≡ false) × (0 < suc f.0 → cmp f.1 y ≡ Less)
      first y later e b = let same : x ≡ y = cc in subst (λ z. (is_lt (cmp z f.1) ≡ false) × (0 < suc f.0 → cmp f.1 z ≡ Less)) same (order.one_way f.1 x (is_less (cmp f.1 x) b), λ l. is_less (cmp f.1 x) b)

      behind : is_lt (cmp f.1 x) ≡ true → IsLeast cmp ((x ∷ rest) ∷ lists) (suc f.0) f.1
      behind b zero y later e = first y later e b
      behind b (suc j) y later e = let k = h.2 j y later e in (k.0, λ l. k.1 (omega (arith, l)))

      go : (t : Bool) → is_lt (cmp f.1 x) ≡ t → IsFound cmp ((x ∷ rest) ∷ lists) (cond t (Some (suc f.0, f.1, f.2)) (Some (0, x, rest)))
      go true e = (omega (arith, h.0), h.1, behind e)
      go false e = (omega arith, refl, first_least x rest lists (λ j y later k. above x f.1 y e (h.2 j y later k).0))

  least_found : (lists : List (List X)) → IsFound cmp lists (least cmp lists)
  least_found [] = tt
  least_found ([] ∷ lists) = found_moved lists (least cmp lists) (least_found lists)
  least_found ((x ∷ rest) ∷ lists) = found_lesser x rest lists (least cmp lists) (least_found lists)

  -- one item less
  shorter : (lists : List (List X)) (i : ℕ) (x : X) (rest : List X) → i < length lists → get_or lists i [] ≡ x ∷ rest → length (joined lists) ≡ suc (length (joined (set lists i rest)))
  shorter [] i x rest l e = absurd (omega arith)
  shorter (xs ∷ lists) zero x rest l e = ap (λ ys. length (ys ++ joined lists)) e
  shorter (xs ∷ lists) (suc i) x rest l e =
      let k = shorter lists i x rest (omega arith) e in
      length-append xs (joined lists) ∙ (let up : length xs + length (joined lists) ≡ suc (length xs + length (joined (set lists i rest))) = omega (arith, k) in up) ∙ sym (ap suc (length-append xs (joined (set lists i rest))))

  none_left : (lists : List (List X)) → length (joined lists) ≡ 0 → AllEmpty lists
  none_left [] e = tt
  none_left ([] ∷ lists) e = (refl, none_left lists e)
  none_left ((x ∷ xs) ∷ lists) e = absurd (omega arith)

  nothing : (lists : List (List X)) → AllEmpty lists → length (joined lists) ≡ 0
  nothing [] a = refl
  nothing (xs ∷ lists) a = ap (λ ys. length (ys ++ joined lists)) a.0 ∙ nothing lists a.1

  merges_to : (n : ℕ) (lists : List (List X)) → length (joined lists) ≡ n → Merges cmp lists (merged_to cmp n lists)
  merges_to zero lists e = none_left lists e
  merges_to (suc n) lists e = go (λ later k. merges_to n later k) (least cmp lists) (least_found lists)
    where
      go : ((later : List (List X)) → length (joined later) ≡ n → Merges cmp later (merged_to cmp n later)) → (o : Option (Begun X)) → IsFound cmp lists o → Merges cmp lists (taken (merged_to cmp n) lists o)
      go more None h = absurd (let z = nothing lists h in omega (arith, z, e))
      go more (Some f) h = let k = shorter lists f.0 f.1 f.2 h.0 h.1 in (f.0, f.2, h.0, h.1, h.2, more (set lists f.0 f.2) (omega (arith, k, e)))

pub rows_merge : OneMerge
rows_merge keys lists =
    let is = merges_to (row_cmp keys) (is_order (row_total keys)) (length (joined lists)) lists refl in
    (is, λ rows other. one_merge (row_cmp keys) lists rows (merged (row_cmp keys) lists) other is)
