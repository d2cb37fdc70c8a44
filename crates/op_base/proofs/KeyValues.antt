-- The key values of several inputs, and what is given for each.
use Rattle.std.proofs.Common.{Bool, List, ap, append-nil, ap₂, cond, false, filter, flat_map, inl, inr, map, not, refl, subst, sym, true, true≢false, ℕ, ◌≡◌, ◌⊎◌, ◌∷◌, ◌++◌, ◌∙◌, []}
use Rattle.std.proofs.lemmas.Cmp.{lists_total, tied_itself}
use Rattle.std.proofs.lemmas.List.Elements.{filter-append}
use Rattle.std.specs.Cmp.{IsTotalOrder}
use Rattle.std.specs.Cmp.Lexicographic.{slice_cmp}
use Rattle.std.specs.List.{AllByRecursion}
use Rattle.std.specs.Ordering.{is_eq, is_lt, ordering_reverse}
use Rattle.std.specs.declared.cmp.Ordering.{Ordering}
use Rattle.std.specs.declared.cmp.Ordering.TheVariants.{Less}
use Rattle.ds_schema.specs.Rows.{has, sub, val, vals_cmp}
use Rattle.ds_value.specs.Values.{value_cmp}
use Rattle.ds_value.specs.declared.value.Value.{Value}
use Rattle.op_base.specs.Columns.{Row}
use Rattle.op_base.specs.Keyed.{for_values, in_order, keys_in, same_vals, seen, subs}
use Rattle.op_base.specs.Lists.{AllEmpty, IsArranged, firsts, put_at, with_rank}
use Rattle.op_base.proofs.All.{all_append, all_filter, all_firsts, all_map}
use Rattle.op_base.proofs.Filters.{filter_apart, filter_within}
use Rattle.op_base.proofs.Orders.{equal_from_is, exact_lists, has_val, vals_exact, vals_total, value_exact, value_total}
use Rattle.op_base.proofs.Ranks.{Ascends, filter_all, filter_none, firsts_ascend, firsts_filter, flat_map_filter}
use Rattle.op_base.proofs.Sorting.{arranged_append}

pub same_vals_true : (v u : List Value) → same_vals v u ≡ true → u ≡ v
same_vals_true v u e = exact_lists value_cmp value_exact u v (equal_from_is (slice_cmp value_cmp u v) e)

pub same_vals_itself : (v : List Value) → same_vals v v ≡ true
same_vals_itself v = ap is_eq (tied_itself (lists_total value_total) v)

-- how the rows of a key's value show among the key values
pub sub_keys : (cs : List ℕ) (v : List Value) (rows : List Row) → filter (same_vals v) (map (val cs) rows) ≡ map (val cs) (sub cs v rows)
sub_keys cs v [] = refl
sub_keys cs v (r ∷ rows) = go (has cs v r) (sub_keys cs v rows)
  where
    go : (b : Bool) → filter (same_vals v) (map (val cs) rows) ≡ map (val cs) (sub cs v rows) → cond b (val cs r ∷ filter (same_vals v) (map (val cs) rows)) (filter (same_vals v) (map (val cs) rows)) ≡ map (val cs) (cond b (r ∷ sub cs v rows) (sub cs v rows))
    go true k = ap (λ xs. val cs r ∷ xs) k
    go false k = k

pub map_nothing : {X Y : Type 0} (f : X → Y) (xs : List X) → map f xs ≡ [] → xs ≡ []
map_nothing f [] e = refl
map_nothing f (x ∷ xs) e = cc

pub both_nothing : {X : Type 0} (xs ys : List X) → xs ++ ys ≡ [] → (xs ≡ []) × (ys ≡ [])
both_nothing [] ys e = (refl, e)
both_nothing (x ∷ xs) ys e = cc

pub no_subs : (columns : List (List ℕ)) (v : List Value) (inputs : List (List Row)) → filter (same_vals v) (keys_in columns inputs) ≡ [] → AllEmpty (subs columns v inputs)
no_subs [] v inputs e = tt
no_subs (cs ∷ columns) v [] e = tt
no_subs (cs ∷ columns) v (rows ∷ inputs) e =
    let s = both_nothing (filter (same_vals v) (map (val cs) rows)) (filter (same_vals v) (keys_in columns inputs)) (sym (filter-append (same_vals v) (map (val cs) rows) (keys_in columns inputs)) ∙ e) in
    (map_nothing (val cs) (sub cs v rows) (sym (sub_keys cs v rows) ∙ s.0), no_subs columns v inputs s.1)

-- the one rank of a list that is all v
pub rank_of : {Q : Type 0} {R : Q → Q → Ordering} → IsTotalOrder R → (v : Q) (qs : List Q) → AllByRecursion (λ u. u ≡ v) qs → (qs ≡ []) ⊎ (firsts R qs ≡ v ∷ [])
rank_of o v [] h = inl refl
rank_of {Q} {R} o v (q ∷ qs) h = inr (go (rank_of o v qs h.1) ∙ ap (λ u. u ∷ []) h.0)
  where
    go : (qs ≡ []) ⊎ (firsts R qs ≡ v ∷ []) → with_rank R q (firsts R qs) ≡ q ∷ []
    go (inl e) = ap (λ xs. with_rank R q (firsts R xs)) e
    go (inr e) = ap (with_rank R q) e ∙ ap (λ c. put_at c q v [] (q ∷ [])) (ap (R q) (sym h.0) ∙ tied_itself o q)

pub passed_all : (v : List Value) (qs : List (List Value)) → AllByRecursion (λ u. u ≡ v) (filter (same_vals v) qs)
passed_all v [] = tt
passed_all v (q ∷ qs) = go (same_vals v q) refl (passed_all v qs)
  where
    go : (b : Bool) → same_vals v q ≡ b → AllByRecursion (λ u. u ≡ v) (filter (same_vals v) qs) → AllByRecursion (λ u. u ≡ v) (cond b (q ∷ filter (same_vals v) qs) (filter (same_vals v) qs))
    go true e k = (same_vals_true v q e, k)
    go false e k = k

pub all_answer : {Y : Type 0} (named : Y → List Value) (v u : List Value) (b : Bool) (ys : List Y) → same_vals v u ≡ b → AllByRecursion (λ y. named y ≡ u) ys → AllByRecursion (λ y. same_vals v (named y) ≡ b) ys
all_answer named v u b [] e h = tt
all_answer named v u b (y ∷ ys) e h = (ap (same_vals v) h.0 ∙ e, all_answer named v u b ys e h.1)

-- all rows have the value
abbrev pub Keyed : List (List ℕ) → List Value → List (List Row) → Type 0
Keyed [] v inputs = inputs ≡ []
Keyed (cs ∷ columns) v [] = Unit {0}
Keyed (cs ∷ columns) v (rows ∷ inputs) = AllByRecursion (λ r. val cs r ≡ v) rows × Keyed columns v inputs

pub sub_all : (cs : List ℕ) (v : List Value) (rows : List Row) → AllByRecursion (λ r. val cs r ≡ v) (sub cs v rows)
sub_all cs v [] = tt
sub_all cs v (r ∷ rows) = go (has cs v r) refl (sub_all cs v rows)
  where
    go : (b : Bool) → has cs v r ≡ b → AllByRecursion (λ s. val cs s ≡ v) (sub cs v rows) → AllByRecursion (λ s. val cs s ≡ v) (cond b (r ∷ sub cs v rows) (sub cs v rows))
    go true e k = (has_val cs v r e, k)
    go false e k = k

pub subs_keyed : (columns : List (List ℕ)) (v : List Value) (inputs : List (List Row)) → Keyed columns v (subs columns v inputs)
subs_keyed [] v inputs = refl
subs_keyed (cs ∷ columns) v [] = tt
subs_keyed (cs ∷ columns) v (rows ∷ inputs) = (sub_all cs v rows, subs_keyed columns v inputs)

-- each value comes once, where it comes at all
abbrev Once : List Value → List (List Value) → List (List Value) → Type 0
Once v qs vs = ((filter (same_vals v) qs ≡ []) × (filter (same_vals v) vs ≡ [])) ⊎ (filter (same_vals v) vs ≡ v ∷ [])

seen_once : (v : List Value) (qs : List (List Value)) → Once v qs (seen qs)
seen_once v [] = inl (refl, refl)
seen_once v (q ∷ qs) = go (same_vals v q) refl (seen_once v qs)
  where
    rest : List (List Value)
    rest = filter (λ u. not (same_vals q u)) (seen qs)

    go : (b : Bool) → same_vals v q ≡ b → Once v qs (seen qs) → ((cond b (q ∷ filter (same_vals v) qs) (filter (same_vals v) qs) ≡ []) × (cond b (q ∷ filter (same_vals v) rest) (filter (same_vals v) rest) ≡ [])) ⊎ (cond b (q ∷ filter (same_vals v) rest) (filter (same_vals v) rest) ≡ v ∷ [])
    go true e k = inr (ap₂ (λ a b. a ∷ b) (same_vals_true v q e) (filter_apart (λ u. not (same_vals q u)) (same_vals v) (λ u t.
        ap not (subst (λ w. same_vals w u ≡ true) (sym (same_vals_true v q e)) t)) (seen qs)))
    go false e k =
        let same : filter (same_vals v) rest ≡ filter (same_vals v) (seen qs) = filter_within (λ u. not (same_vals q u)) (same_vals v) (λ u t.
        let f : u ≡ v = same_vals_true v u t in away u f (same_vals q u) refl) (seen qs) in
        move same k
      where
        away : (u : List Value) → u ≡ v → (b : Bool) → same_vals q u ≡ b → not b ≡ true
        away u f true g = let h : u ≡ q = same_vals_true q u g in absurd (true≢false (sym (subst (λ w. same_vals v w ≡ true) (sym f ∙ h) (same_vals_itself v)) ∙ e))
        away u f false g = refl

        move : filter (same_vals v) rest ≡ filter (same_vals v) (seen qs) → Once v qs (seen qs) → ((filter (same_vals v) qs ≡ []) × (filter (same_vals v) rest ≡ [])) ⊎ (filter (same_vals v) rest ≡ v ∷ [])
        move s (inl h) = inl (h.0, s ∙ h.1)
        move s (inr h) = inr (s ∙ h)

order_once : (hashes : Bool) (ds : List Bool) (v : List Value) (qs : List (List Value)) → Once v qs (in_order hashes ds qs)
order_once true ds v qs = seen_once v qs
order_once false ds v qs = go (rank_of (vals_total ds) v (filter (same_vals v) qs) (passed_all v qs))
  where
    commutes : filter (same_vals v) (firsts (vals_cmp ds) qs) ≡ firsts (vals_cmp ds) (filter (same_vals v) qs)
    commutes = firsts_filter (vals_total ds) (same_vals v) (λ x y e. ap (same_vals v) (vals_exact ds x y e)) qs

    go : ((filter (same_vals v) qs ≡ []) ⊎ (firsts (vals_cmp ds) (filter (same_vals v) qs) ≡ v ∷ [])) → Once v qs (firsts (vals_cmp ds) qs)
    go (inl e) = inl (e, commutes ∙ ap (firsts (vals_cmp ds)) e)
    go (inr e) = inr (commutes ∙ e)

-- What is given for a value is what the rule gives for its rows.
pub sub_for_values : {Y : Type 0} (hashes : Bool) (ds : List Bool) (columns : List (List ℕ)) (rule : List Value → List (List Row) → List Y) (named : Y → List Value) →
    ((v : List Value) (inputs : List (List Row)) → Keyed columns v inputs → AllByRecursion (λ y. named y ≡ v) (rule v inputs)) →
    ((v : List Value) (inputs : List (List Row)) → AllEmpty inputs → rule v inputs ≡ []) →
    (v : List Value) (inputs : List (List Row)) → filter (λ y. same_vals v (named y)) (for_values hashes ds columns rule inputs) ≡ rule v (subs columns v inputs)
sub_for_values {Y} hashes ds columns rule named says none v inputs =
    flat_map_filter (same_vals v) (λ (y : Y). same_vals v (named y)) give give
    (λ u t. filter_all (λ (y : Y). same_vals v (named y)) (give u) (all_answer named v u true (give u) t (says u (subs columns u inputs) (subs_keyed columns u inputs))))
    (λ u t. filter_none (λ (y : Y). same_vals v (named y)) (give u) (all_answer named v u false (give u) t (says u (subs columns u inputs) (subs_keyed columns u inputs))))
    (in_order hashes ds qs)
    ∙ go (order_once hashes ds v qs)
  where
    qs : List (List Value)
    qs = keys_in columns inputs

    give : List Value → List Y
    give u = rule u (subs columns u inputs)

    go : Once v qs (in_order hashes ds qs) → flat_map give (filter (same_vals v) (in_order hashes ds qs)) ≡ give v
    go (inl e) = ap (flat_map give) e.1 ∙ sym (none v (subs columns v inputs) (no_subs columns v inputs e.0))
    go (inr e) = ap (flat_map give) e ∙ append-nil (give v)

-- the values that are gone through are those of rows
pub order_all : (P : List Value → Type 0) (hashes : Bool) (ds : List Bool) (qs : List (List Value)) → AllByRecursion P qs → AllByRecursion P (in_order hashes ds qs)
order_all P false ds qs h = all_firsts P (vals_cmp ds) qs h
order_all P true ds qs h = go qs h
  where
    go : (us : List (List Value)) → AllByRecursion P us → AllByRecursion P (seen us)
    go [] k = tt
    go (u ∷ us) k = (k.0, all_filter P (λ w. not (same_vals u w)) (seen us) (go us k.1))

pub flat_values : {Y : Type 0} (P : List Value → Type 0) (Q : Y → Type 0) (give : List Value → List Y) → ((v : List Value) → P v → AllByRecursion Q (give v)) → (vs : List (List Value)) → AllByRecursion P vs → AllByRecursion Q (flat_map give vs)
flat_values P Q give h [] k = tt
flat_values P Q give h (v ∷ vs) k = all_append Q (give v) (flat_map give vs) (h v k.0) (flat_values P Q give h vs k.1)

-- what is given for values that ascend is in their order
pub names_arranged : {Y : Type 0} (ds : List Bool) (named : Y → List Value) (give : List Value → List Y) → ((v : List Value) → AllByRecursion (λ y. named y ≡ v) (give v)) → (vs : List (List Value)) → Ascends (vals_cmp ds) vs → IsArranged (λ x y. vals_cmp ds (named x) (named y)) (flat_map give vs)
names_arranged ds named give says [] up = tt
names_arranged {Y} ds named give says (v ∷ vs) up =
    arranged_append (λ (x y : Y). vals_cmp ds (named x) (named y)) (give v) (flat_map give vs) (alike (give v) (says v)) (names_arranged ds named give says vs up.1)
    (all_map (λ (x : Y). named x ≡ v) (λ (x : Y). AllByRecursion (λ (y : Y). is_lt (vals_cmp ds (named y) (named x)) ≡ false) (flat_map give vs))
    (λ x e. flat_values (λ u. vals_cmp ds v u ≡ Less) (λ (y : Y). is_lt (vals_cmp ds (named y) (named x)) ≡ false) give (λ u l. all_map (λ (y : Y). named y ≡ u) (λ (y : Y). is_lt (vals_cmp ds (named y) (named x)) ≡ false)
    (λ y f. ap₂ (λ a b. is_lt (vals_cmp ds a b)) f e ∙ ap is_lt ((vals_total ds).antisymm u v ∙ ap ordering_reverse l)) (give u) (says u)) vs up.0)
    (give v) (says v))
  where
    alike : (ys : List Y) → AllByRecursion (λ (y : Y). named y ≡ v) ys → IsArranged (λ (x y : Y). vals_cmp ds (named x) (named y)) ys
    alike [] k = tt
    alike (y ∷ ys) k = (all_map (λ (z : Y). named z ≡ v) (λ (z : Y). is_lt (vals_cmp ds (named z) (named y)) ≡ false) (λ z e. ap₂ (λ a b. is_lt (vals_cmp ds a b)) e k.0 ∙ ap is_lt (tied_itself (vals_total ds) v)) ys k.1, alike ys k.1)

pub values_arranged : {Y : Type 0} (ds : List Bool) (columns : List (List ℕ)) (rule : List Value → List (List Row) → List Y) (named : Y → List Value) →
    ((v : List Value) (inputs : List (List Row)) → Keyed columns v inputs → AllByRecursion (λ y. named y ≡ v) (rule v inputs)) →
    (inputs : List (List Row)) → IsArranged (λ x y. vals_cmp ds (named x) (named y)) (for_values false ds columns rule inputs)
values_arranged ds columns rule named says inputs =
    names_arranged ds named (λ v. rule v (subs columns v inputs)) (λ v. says v (subs columns v inputs) (subs_keyed columns v inputs)) (firsts (vals_cmp ds) (keys_in columns inputs)) (firsts_ascend (vals_total ds) (keys_in columns inputs))
