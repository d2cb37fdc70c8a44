-- States filled in along the order of a flow: what is filled in later changes no earlier one.
use Rattle.std.proofs.Common.{Bool, List, add-one, ap, ap₂, append-nil, append_assoc, arith, cond, drop, false, filter, get_or, inl, inr, length, map, refl, set, subst, suc, sym, take, true, zero, ℕ, ◌+◌, ◌<◌, ◌≤◌, ◌||◌, ◌==◌, ◌≡◌, ◌⊎◌, ◌∷◌, ◌++◌, ◌∙◌, []}
use Rattle.std.proofs.Math.Seq.{drop-cons, take-suc}
use Rattle.std.proofs.lemmas.Bool.Decides.{nat_tests}
use Rattle.std.proofs.lemmas.List.{get_or-set_other, get_or-set_same}
use Rattle.std.proofs.lemmas.List.Elements.{filter-append}
use Rattle.std.proofs.lemmas.List.Sorted.{list_any-IsPermutation}
use Rattle.std.proofs.lemmas.Map.Keys.{IsDistinct-IsPermutation}
use Rattle.std.specs.List.{AllByRecursion, IsDistinct, list_any, range_with_len}
use Rattle.std.specs.Prelude.{eqb}
use Rattle.op_base.specs.Columns.{IsIn}
use Rattle.op_base.proofs.ColumnLaws.{in_range}
use Rattle.flow_graph.specs.Charts.{Chart, cols_at, first_width, form_at, into_seq, link_at, links_from, links_into, op_at, width_at}
use Rattle.flow_graph.specs.declared.flow.LinkSpec.{LinkSpec}
use Rattle.flow_graph.specs.declared.op_kind.OpKind.{OpKind}
use Rattle.flow_graph.specs.declared.route.Choice.{Choice}
use Rattle.flow_derive.specs.Outlines.{kind_passes, outline_form, passes_at}
use Rattle.flow_derive.specs.declared.outline.Outline.{Outline}
use Rattle.flow_graph.specs.FlowShape.{ForwardOrder, IsOrder, IsShape}
use Rattle.flow_graph.specs.declared.state.State.{State}
use Rattle.flow_derive.specs.Derive.{derived, first_state, refined, routed_state, settled, sorted_state}
use Rattle.flow_derive.specs.Filling.{Fills}
use Rattle.flow_derive.specs.LinkStates.{AreStates, choice_at, link_state, output_at, state_at}
use Rattle.flow_derive.proofs.Settled.{columns_more, refined_same}

into_more : (p : ℕ → Bool) (n : ℕ) → filter p (range_with_len 0 (n + 1)) ≡ filter p (range_with_len 0 n) ++ cond (p n) (n ∷ []) []
into_more p n = ap (filter p) (columns_more n) ∙ filter-append p (range_with_len 0 n) (n ∷ [])

-- the links into an operator among the first n
pub into_below : Chart → ℕ → ℕ → List ℕ
into_below c o n = filter (λ l. (link_at c l).to == o) (range_with_len 0 n)

pub into_none : (c : Chart) (o : ℕ) → into_below c o 0 ≡ []
unfolding into_below
into_none c o = refl

pub into_one : (c : Chart) (o n : ℕ) → (link_at c n).to ≡ o → into_below c o (n + 1) ≡ into_below c o n ++ n ∷ []
unfolding into_below
into_one c o n e = let t : ((link_at c n).to == o) ≡ true = grind (arith, nat_tests) in into_more (λ l. (link_at c l).to == o) n ∙ ap (λ b. filter (λ l. (link_at c l).to == o) (range_with_len 0 n) ++ cond b (n ∷ []) []) t

pub into_other : (c : Chart) (o n : ℕ) → ((link_at c n).to ≡ o → ⊥) → into_below c o (n + 1) ≡ into_below c o n
unfolding into_below
into_other c o n e =
    let t : ((link_at c n).to == o) ≡ false = grind (arith, nat_tests) in
    into_more (λ l. (link_at c l).to == o) n ∙ ap (λ b. filter (λ l. (link_at c l).to == o) (range_with_len 0 n) ++ cond b (n ∷ []) []) t ∙ append-nil (filter (λ l. (link_at c l).to == o) (range_with_len 0 n))

pub into_all : (c : Chart) (o n : ℕ) → n ≡ length c.flow.links → into_below c o n ≡ links_into c o
unfolding into_below
into_all c o n e = ap (λ m. filter (λ l. (link_at c l).to == o) (range_with_len 0 m)) e

pub states_step : (states : List State) (links : List ℕ) (i : ℕ) → i < length links → map (state_at states) (drop i links) ≡ state_at states (get_or links i 0) ∷ map (state_at states) (drop (i + 1) links)
states_step states links i h =
    let e : drop i links ≡ get_or links i 0 ∷ drop (i + 1) links = rw add-one (drop-cons links i 0 h) in
    ap (map (state_at states)) e

-- members of lists
pub in_left : (x : ℕ) (xs ys : List ℕ) → IsIn x xs → IsIn x (xs ++ ys)
in_left x [] ys i = absurd i
in_left x (y ∷ xs) ys (inl e) = inl e
in_left x (y ∷ xs) ys (inr i) = inr (in_left x xs ys i)

pub in_right : (x : ℕ) (xs ys : List ℕ) → IsIn x ys → IsIn x (xs ++ ys)
in_right x [] ys i = i
in_right x (y ∷ xs) ys i = inr (in_right x xs ys i)

in_either : (x : ℕ) (xs ys : List ℕ) → IsIn x (xs ++ ys) → IsIn x xs ⊎ IsIn x ys
in_either x [] ys i = inr i
in_either x (y ∷ xs) ys (inl e) = inl (inl e)
in_either x (y ∷ xs) ys (inr i) = go (in_either x xs ys i)
  where
    go : (IsIn x xs ⊎ IsIn x ys) → IsIn x (y ∷ xs) ⊎ IsIn x ys
    go (inl j) = inl (inr j)
    go (inr j) = inr j

all_in : (P : ℕ → Type 0) (x : ℕ) (xs : List ℕ) → AllByRecursion P xs → IsIn x xs → P x
all_in P x [] h i = absurd i
all_in P x (y ∷ xs) h (inl e) = subst P (sym e) h.0
all_in P x (y ∷ xs) h (inr i) = all_in P x xs h.1 i

any_in : (q : ℕ) (xs : List ℕ) → list_any (eqb q) xs ≡ true → IsIn q xs
any_in q [] e = cc
any_in q (x ∷ xs) e = go (eqb q x) refl e (λ f. any_in q xs f)
  where
    go : (b : Bool) → eqb q x ≡ b → (b || list_any (eqb q) xs) ≡ true → (list_any (eqb q) xs ≡ true → IsIn q xs) → IsIn q (x ∷ xs)
    go true f g r = inl (grind (arith, nat_tests))
    go false f g r = inr (r g)

in_any : (q : ℕ) (xs : List ℕ) → IsIn q xs → list_any (eqb q) xs ≡ true
in_any q [] i = absurd i
in_any q (x ∷ xs) (inl e) = let t : eqb q x ≡ true = grind (arith, nat_tests) in ap (λ b. b || list_any (eqb q) xs) t
in_any q (x ∷ xs) (inr i) = or_true (eqb q x) (in_any q xs i)
  where
    or_true : (b : Bool) → list_any (eqb q) xs ≡ true → (b || list_any (eqb q) xs) ≡ true
    or_true true e = refl
    or_true false e = e

-- the order has each operator, and none twice
pub ordered : (c : Chart) → IsOrder c → (o : ℕ) → o < length c.flow.ops → IsIn o c.order
ordered c h o l = any_in o c.order (sym (list_any-IsPermutation (eqb o) (range_with_len 0 (length c.flow.ops)) c.order h.once) ∙ in_any o (range_with_len 0 (length c.flow.ops)) (in_range o 0 (length c.flow.ops) (omega arith) (omega arith)))

range_distinct : (a n : ℕ) → IsDistinct eqb (range_with_len a n)
unfolding IsDistinct
range_distinct a zero = tt
range_distinct a (suc n) = (beyond a (a + 1) n (omega arith), range_distinct (a + 1) n)
  where
    beyond : (m b k : ℕ) → m < b → AllByRecursion (λ y. eqb m y ≡ false) (range_with_len b k)
    beyond m b zero l = tt
    beyond m b (suc k) l = (grind (arith, nat_tests), beyond m (b + 1) k (omega arith))

flips : (x y : ℕ) → eqb x y ≡ eqb y x
flips x y = grind (arith, nat_tests)

once_only : (xs : List ℕ) → IsDistinct eqb xs → (i : ℕ) → i < length xs → IsIn (get_or xs i 0) (take i xs) → ⊥
unfolding IsDistinct
once_only [] h i l m = absurd (omega arith)
once_only (x ∷ xs) h zero l m = m
once_only (x ∷ xs) h (suc i) l (inl e) =
    let n : eqb x (get_or xs i 0) ≡ false = at_place (λ y. eqb x y ≡ false) xs i (omega arith) h.0 in
    let s : get_or xs i 0 ≡ x = e in
    absurd (grind (arith, nat_tests))
  where
    at_place : (P : ℕ → Type 0) (ys : List ℕ) (j : ℕ) → j < length ys → AllByRecursion P ys → P (get_or ys j 0)
    at_place P [] j l h = absurd (omega arith)
    at_place P (y ∷ ys) zero l h = h.0
    at_place P (y ∷ ys) (suc j) l h = at_place P ys j (omega arith) h.1
once_only (x ∷ xs) h (suc i) l (inr m) = once_only xs h.1 i (omega arith) m

pub not_before : (c : Chart) → IsOrder c → (i : ℕ) → i < length c.order → IsIn (get_or c.order i 0) (take i c.order) → ⊥
not_before c h i l m = once_only c.order (IsDistinct-IsPermutation eqb flips (range_with_len 0 (length c.flow.ops)) c.order h.once (range_distinct 0 (length c.flow.ops))) i l m

-- what a filter of numbers by one of their marks leaves
pub marked : (f : ℕ → ℕ) (o a k : ℕ) → AllByRecursion (λ l. (f l ≡ o) × (l < a + k)) (filter (λ l. f l == o) (range_with_len a k))
marked f o a zero = tt
marked f o a (suc k) = go (f a == o) refl (wider (filter (λ l. f l == o) (range_with_len (a + 1) k)) (marked f o (a + 1) k))
  where
    wider : (ls : List ℕ) → AllByRecursion (λ l. (f l ≡ o) × (l < (a + 1) + k)) ls → AllByRecursion (λ l. (f l ≡ o) × (l < a + suc k)) ls
    wider [] h = tt
    wider (l ∷ ls) h = ((h.0.0, let m = h.0.1 in omega arith), wider ls h.1)

    go : (b : Bool) → (f a == o) ≡ b → AllByRecursion (λ l. (f l ≡ o) × (l < a + suc k)) (filter (λ l. f l == o) (range_with_len (a + 1) k)) → AllByRecursion (λ l. (f l ≡ o) × (l < a + suc k)) (cond b (a ∷ filter (λ l. f l == o) (range_with_len (a + 1) k)) (filter (λ l. f l == o) (range_with_len (a + 1) k)))
    go true e h = ((grind (arith, nat_tests), omega arith), h)
    go false e h = h

-- the links into an operator leave those before it
from_of : (c : Chart) (o m : ℕ) → IsIn m (links_from c o) → (link_at c m).from ≡ o
from_of c o m i = (all_in (λ l. ((link_at c l).from ≡ o) × (l < 0 + length c.flow.links)) m (links_from c o) (marked (λ l. (link_at c l).from) o 0 (length c.flow.links)) i).0

behind : (c : Chart) (order seen past : List ℕ) → ((m : ℕ) → IsIn m seen → IsIn (link_at c m).from past) → ForwardOrder c seen order → (i o : ℕ) → IsIn o (take (suc i) order) →
    (m : ℕ) → IsIn m (links_into c o) → IsIn (link_at c m).from (past ++ take i order)
behind c [] seen past s f i o a m b = absurd a
behind c (p ∷ order) seen past s f i o (inl e) m b = in_left (link_at c m).from past (take i (p ∷ order)) (s m (all_in (λ l. IsIn l seen) m (links_into c p) f.0 (subst (λ q. IsIn m (links_into c q)) e b)))
behind c (p ∷ order) seen past s f zero o (inr a) m b = absurd a
behind c (p ∷ order) seen past s f (suc i) o (inr a) m b =
    subst (λ os. IsIn (link_at c m).from os) (append_assoc past (p ∷ []) (take i order)) (behind c order (links_from c p ++ seen) (past ++ p ∷ []) more f.1 i o a m b)
  where
    more : (k : ℕ) → IsIn k (links_from c p ++ seen) → IsIn (link_at c k).from (past ++ p ∷ [])
    more k j = go (in_either k (links_from c p) seen j)
      where
        go : (IsIn k (links_from c p) ⊎ IsIn k seen) → IsIn (link_at c k).from (past ++ p ∷ [])
        go (inl x) = in_right (link_at c k).from past (p ∷ []) (inl (from_of c p k x))
        go (inr x) = in_left (link_at c k).from past (p ∷ []) (s k x)

-- what is filled in at one operator leaves the inputs of all up to it
same_inputs : (c : Chart) (o : ℕ) (old new : List State) → Fills c o old new → (ls : List ℕ) → ((m : ℕ) → IsIn m ls → (link_at c m).from ≡ o → ⊥) → map (state_at new) ls ≡ map (state_at old) ls
same_inputs c o old new h [] f = refl
same_inputs c o old new h (l ∷ ls) f = ap₂ (λ s ss. s ∷ ss) (h.kept l (f l (inl refl))) (same_inputs c o old new h ls (λ m i. f m (inr i)))

pub same_link : (c : Chart) (s t : List State) (l : ℕ) → map (state_at s) (links_into c (link_at c l).from) ≡ map (state_at t) (links_into c (link_at c l).from) → link_state false c s l ≡ link_state false c t l
same_link c s t l e =
    ap (λ ss. refined false (width_at c l) (sorted_state (choice_at c l).sort (routed_state (into_seq c l) (choice_at c l).method (refined false (width_at c l) (derived (form_at c (link_at c l).from) (link_at c l).out ss))))) e

-- the states of the links that leave the first n operators of the order
abbrev pub AreKnown : Chart → ℕ → List State → Type 0
AreKnown c n states = (l : ℕ) → l < length c.flow.links → IsIn (link_at c l).from (take n c.order) → state_at states l ≡ link_state false c states l

pub known_more : (c : Chart) → IsShape c → (n o : ℕ) (old new : List State) → n < length c.order → get_or c.order n 0 ≡ o → Fills c o old new → AreKnown c n old → AreKnown c (n + 1) new
known_more c h n o old new l e f k m a i =
    let j : IsIn (link_at c m).from (take (suc n) c.order) = rw add-one at i in
    go (in_either (link_at c m).from (take n c.order) (o ∷ []) (subst (λ os. IsIn (link_at c m).from os) (take-suc c.order n 0 l ∙ ap (λ p. take n c.order ++ p ∷ []) e) j)) ∙ sym (same_link c new old m (same_inputs c o old new f (links_into c (link_at c m).from) (λ q b z. not_before c h.order n l (subst (λ p. IsIn p (take n c.order)) (z ∙ sym e) (behind c c.order [] [] (λ x y. absurd y) h.order.forward n (link_at c m).from j q b)))))
  where
    go : (IsIn (link_at c m).from (take n c.order) ⊎ IsIn (link_at c m).from (o ∷ [])) → state_at new m ≡ link_state false c old m
    go (inl b) = f.kept m (λ z. not_before c h.order n l (subst (λ p. IsIn p (take n c.order)) (z ∙ sym e) b)) ∙ k m a b
    go (inr (inl z)) = f.filled m a z
    go (inr (inr z)) = absurd z

pub all_known : (c : Chart) → IsShape c → (n : ℕ) (states : List State) → length c.order ≤ n → length states ≡ length c.flow.links → AreKnown c n states → AreStates false c states
all_known c h n states l e k = record {
  each = e;
  derived = λ m a. k m a (subst (λ os. IsIn (link_at c m).from os) (sym (take_whole n c.order l)) (ordered c h.order (link_at c m).from (h.links m a).from));
}
  where
    take_whole : (i : ℕ) (xs : List ℕ) → length xs ≤ i → take i xs ≡ xs
    take_whole zero [] b = refl
    take_whole (suc i) [] b = refl
    take_whole zero (x ∷ xs) b = absurd (omega arith)
    take_whole (suc i) (x ∷ xs) b = ap (λ ys. x ∷ ys) (take_whole i xs (omega arith))

-- link by link: the first n links that leave an operator have their states, all others stay
pub record Filled (c : Chart) (o n : ℕ) (old new : List State) : Type 0 where
  pub each : length new ≡ length old
  pub filled : (l : ℕ) → l < n → (link_at c l).from ≡ o → state_at new l ≡ link_state false c old l
  pub kept : (l : ℕ) → ((link_at c l).from ≡ o → ⊥) → state_at new l ≡ state_at old l

pub filled_more : (c : Chart) (o n : ℕ) (old new : List State) (s : State) → Filled c o n old new → n < length new → (link_at c n).from ≡ o → s ≡ link_state false c old n → Filled c o (n + 1) old (set new n s)
filled_more c o n old new s h l e w = record {
  each = long new n s ∙ h.each;
  filled = λ m b f. pick m b f (m == n) refl;
  kept = λ m f. get_or-set_other new n m s (first_state []) (λ z. f (ap (λ p. (link_at c p).from) z ∙ e)) ∙ h.kept m f;
}
  where
    long : (xs : List State) (i : ℕ) (x : State) → length (set xs i x) ≡ length xs
    long [] i x = refl
    long (y ∷ xs) zero x = refl
    long (y ∷ xs) (suc i) x = ap suc (long xs i x)

    pick : (m : ℕ) → m < n + 1 → (link_at c m).from ≡ o → (b : Bool) → (m == n) ≡ b → state_at (set new n s) m ≡ link_state false c old m
    pick m b f true g = let z : m ≡ n = grind (arith, nat_tests) in subst (λ k. state_at (set new n s) k ≡ link_state false c old k) (sym z) (get_or-set_same new n s (first_state []) l ∙ w)
    pick m b f false g =
        let z : m ≡ n → ⊥ = λ q. grind (arith, nat_tests) in
        let y : m < n = grind (arith, nat_tests) in
        get_or-set_other new n m s (first_state []) z ∙ h.filled m y f

pub filled_past : (c : Chart) (o n : ℕ) (old new : List State) → Filled c o n old new → ((link_at c n).from ≡ o → ⊥) → Filled c o (n + 1) old new
filled_past c o n old new h e = record {
  each = h.each;
  filled = λ m b f. pick m b f (m == n) refl;
  kept = h.kept;
}
  where
    pick : (m : ℕ) → m < n + 1 → (link_at c m).from ≡ o → (b : Bool) → (m == n) ≡ b → state_at new m ≡ link_state false c old m
    pick m b f true g = let z : m ≡ n = grind (arith, nat_tests) in absurd (e (subst (λ k. (link_at c k).from ≡ o) z f))
    pick m b f false g = let y : m < n = grind (arith, nat_tests) in h.filled m y f

-- what the code finds of a link, from its parts
pub output_is : (c : Chart) (link : ℕ) (spec : LinkSpec) (o : Outline) (kind : OpKind) (columns : List ℕ) (width w : ℕ) (inputs : List State) (state known : State) → spec ≡ link_at c link → outline_form o (passes_at c spec.from) ≡ form_at c spec.from →
    kind ≡ (op_at c spec.from).kind → columns ≡ cols_at c spec.from → width ≡ first_width c spec.from → settled state ≡ settled (derived (outline_form o (kind_passes kind columns width)) spec.out inputs) → w ≡ width_at c link → known ≡ refined false w state →
    (states : List State) → inputs ≡ map (state_at states) (links_into c (link_at c link).from) → known ≡ output_at false c states link
output_is c link spec o kind columns width w inputs state known a b k m n d e f states g =
    f ∙ ap (λ x. refined false x state) e
    ∙ refined_same (width_at c link) state (derived (outline_form o (kind_passes kind columns width)) spec.out inputs) d
    ∙ ap (λ x. refined false (width_at c link) (derived (outline_form o (kind_passes x columns width)) spec.out inputs)) k
    ∙ ap (λ x. refined false (width_at c link) (derived (outline_form o (kind_passes (op_at c spec.from).kind x width)) spec.out inputs)) m
    ∙ ap (λ x. refined false (width_at c link) (derived (outline_form o (kind_passes (op_at c spec.from).kind (cols_at c spec.from) x)) spec.out inputs)) n
    ∙ ap (λ x. refined false (width_at c link) (derived x spec.out inputs)) b
    ∙ ap (λ (x : LinkSpec). refined false (width_at c link) (derived (form_at c x.from) x.out inputs)) a
    ∙ ap (λ x. refined false (width_at c link) (derived (form_at c (link_at c link).from) (link_at c link).out x)) g

pub link_is : (c : Chart) (link : ℕ) (choice : Choice) (seq : Bool) (w : ℕ) (states : List State) (output state known : State) → output ≡ output_at false c states link → choice ≡ choice_at c link → seq ≡ into_seq c link → settled state ≡ settled (routed_state seq choice.method output) →
    w ≡ width_at c link → known ≡ refined false w state → known ≡ link_state false c states link
link_is c link choice seq w states output state known a b d e f g =
    g ∙ ap (λ x. refined false x state) f
    ∙ refined_same (width_at c link) state (routed_state seq choice.method output) e
    ∙ ap (λ x. refined false (width_at c link) (routed_state x choice.method output)) d
    ∙ ap (λ (x : Choice). refined false (width_at c link) (routed_state (into_seq c link) x.method output)) b
    ∙ ap (λ x. refined false (width_at c link) (routed_state (into_seq c link) (choice_at c link).method x)) a
