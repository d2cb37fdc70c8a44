-- Laws of streams, and of tests below a number.
use Rattle.std.proofs.Common.{◌≡◌, ℕ, zero, suc, ◌<◌, ◌==◌, Bool, true, false, ◌&&◌, ◌||◌, cond, ◌⊎◌, inl, inr, refl, sym, ap, ap₂, ◌∙◌, subst, List, [], ◌∷◌, ◌++◌, map, append_assoc, append-nil, arith}
use Rattle.std.proofs.lemmas.Bool.Decides.{eqb_tells}
use Rattle.streams.specs.Streams.{row, Feed, Out, sends, fails, Stream, on, rows_out, has_end, rows, items_of, ended, all_below, any_below, all_ended, emits_after, emits, FedAfter, whole, Gives, IsStream, IsSingle}
use Rattle.streams.proofs.Basics.{and_true, and_left, and_right, or_right}

pub emits-append : {X F : Type 0} (operator : Stream X F) (done xs ys : List (Feed X)) → emits_after operator done (xs ++ ys) ≡ emits_after operator done xs ++ emits_after operator (done ++ xs) ys
emits-append operator done [] ys = ap (λ d. emits_after operator d ys) (sym (append-nil done))
emits-append operator done (x ∷ xs) ys =
    ap (λ t. operator.gives done x ++ t) (emits-append operator (done ++ x ∷ []) xs ys) ∙ sym (append_assoc (operator.gives done x) _ _)
    ∙ ap (λ d. (operator.gives done x ++ emits_after operator (done ++ x ∷ []) xs) ++ emits_after operator d ys) (append_assoc done (x ∷ []) xs)

pub fed-more : {X F : Type 0} (operator : Stream X F) (done feeds : List (Feed X)) (f : Feed X) → FedAfter operator done feeds → operator.wants (done ++ feeds) f.port ≡ true → FedAfter operator done (feeds ++ f ∷ [])
fed-more operator done [] f h w = (ap (λ d. operator.wants d f.port) (sym (append-nil done)) ∙ w, tt)
fed-more operator done (g ∷ feeds) f h w = (h.0, fed-more operator (done ++ g ∷ []) feeds f h.1 (ap (λ d. operator.wants d f.port) (append_assoc done (g ∷ []) feeds) ∙ w))

pub items-append : {X : Type 0} (i : ℕ) (xs ys : List (Feed X)) → items_of i (xs ++ ys) ≡ items_of i xs ++ items_of i ys
items-append i [] ys = refl
items-append {X} i (x ∷ xs) ys = go (x.port == i) (items-append i xs ys)
  where
    go : (b : Bool) → items_of i (xs ++ ys) ≡ items_of i xs ++ items_of i ys → cond b (x.item ∷ items_of i (xs ++ ys)) (items_of i (xs ++ ys)) ≡ cond b (x.item ∷ items_of i xs) (items_of i xs) ++ items_of i ys
    go true h = ap (λ t. x.item ∷ t) h
    go false h = h

pub eq_true : (a b : ℕ) → a ≡ b → (a == b) ≡ true
eq_true a b e = elim (eqb_tells a b) [ inl t ↦ t.0 | inr t ↦ absurd (t.1 e) ]

pub eq_false : (a b : ℕ) → (a ≡ b → ⊥) → (a == b) ≡ false
eq_false a b n = elim (eqb_tells a b) [ inl t ↦ absurd (n t.1) | inr t ↦ t.0 ]

pub all_at : (n : ℕ) (p : ℕ → Bool) → all_below n p ≡ true → (k : ℕ) → k < n → p k ≡ true
all_at zero p h k lt = absurd (omega arith)
all_at (suc n) p h k lt = elim (eqb_tells k n) [ inl t ↦ ap p t.1 ∙ and_left _ _ h | inr t ↦ all_at n p (and_right _ _ h) k (below k n lt t.1) ]
  where
    below : (k n : ℕ) → k < suc n → (k ≡ n → ⊥) → k < n
    below k n lt ne = grind arith

pub all_from : (n : ℕ) (p : ℕ → Bool) → ((k : ℕ) → k < n → p k ≡ true) → all_below n p ≡ true
all_from zero p h = refl
all_from (suc n) p h = and_true (h n (omega arith)) (all_from n p (λ k lt. h k (omega arith)))

pub any_at : (n : ℕ) (p : ℕ → Bool) → any_below n p ≡ true → (k : ℕ) × (k < n) × (p k ≡ true)
any_at zero p h = absurd (let e : false ≡ true = h in cc)
any_at (suc n) p h = go (p n) refl h (any_at n p)
  where
    go : (b : Bool) → p n ≡ b → (b || any_below n p) ≡ true → (any_below n p ≡ true → (k : ℕ) × (k < n) × (p k ≡ true)) → (k : ℕ) × (k < suc n) × (p k ≡ true)
    go true e h rest = (n, omega arith, e)
    go false e h rest = let r = rest h in (r.0, omega (arith, r.1), r.2)

pub or_left : {a : Bool} (b : Bool) → a ≡ true → (a || b) ≡ true
or_left b h = ap (λ x. x || b) h

pub any_from : (n : ℕ) (p : ℕ → Bool) (k : ℕ) → k < n → p k ≡ true → any_below n p ≡ true
any_from zero p k lt h = absurd (omega arith)
any_from (suc n) p k lt h = elim (eqb_tells k n) [ inl t ↦ or_left _ (ap p (sym t.1) ∙ h) | inr t ↦ or_right _ (any_from n p k (below k n lt t.1) h) ]
  where
    below : (k n : ℕ) → k < suc n → (k ≡ n → ⊥) → k < n
    below k n lt ne = grind arith

-- a number at which a test fails, or it holds of all
pub all_or : (n : ℕ) (p : ℕ → Bool) → ((k : ℕ) × (k < n) × (p k ≡ false)) ⊎ (all_below n p ≡ true)
all_or zero p = inr refl
all_or (suc n) p = go (p n) refl (all_or n p)
  where
    go : (b : Bool) → p n ≡ b → ((k : ℕ) × (k < n) × (p k ≡ false)) ⊎ (all_below n p ≡ true) → ((k : ℕ) × (k < suc n) × (p k ≡ false)) ⊎ ((p n && all_below n p) ≡ true)
    go false e rest = inl (n, omega arith, e)
    go true e (inl r) = inl (r.0, omega (arith, r.1), r.2)
    go true e (inr h) = inr (and_true e h)

pub true_false : {b : Bool} → b ≡ true → b ≡ false → ⊥
true_false {b} h k = let e : true ≡ false = sym h ∙ k in cc

pub not_all : (n : ℕ) (p : ℕ → Bool) (k : ℕ) → k < n → p k ≡ false → all_below n p ≡ false
not_all n p k lt h = go (all_below n p) refl
  where
    go : (b : Bool) → all_below n p ≡ b → b ≡ false
    go true e = absurd (true_false (all_at n p e k lt) h)
    go false e = refl

-- where some port is wanted, not all have ended
pub wants_open : {X F : Type 0} (operator : Stream X F) → IsStream operator → (feeds : List (Feed X)) (i : ℕ) → operator.wants feeds i ≡ true → all_ended operator feeds ≡ false
wants_open operator is feeds i w = let o = is.opens feeds i w in not_all operator.ports (λ j. ended j feeds) i o.0 o.1

pub map-append : {A B : Type 0} (f : A → B) (xs ys : List A) → map f (xs ++ ys) ≡ map f xs ++ map f ys
map-append f [] ys = refl
map-append f (x ∷ xs) ys = ap (λ t. f x ∷ t) (map-append f xs ys)

pub rows-whole : {X : Type 0} (xs : List X) → rows (whole xs) ≡ xs
rows-whole [] = refl
rows-whole (x ∷ xs) = ap (λ t. x ∷ t) (rows-whole xs)

pub no_end : {X : Type 0} (xs : List X) → has_end (map row xs) ≡ false
no_end [] = refl
no_end (x ∷ xs) = no_end xs

abbrev head_or : {A : Type 0} → A → List A → A
head_or d [] = d
head_or d (z ∷ zs) = z

abbrev tail_of : {A : Type 0} → List A → List A
tail_of [] = []
tail_of (z ∷ zs) = zs

-- Where one port at a time is wanted, the port lists decide the order in which they are fed.
pub one_order : {X F : Type 0} (operator : Stream X F) → IsStream operator → IsSingle operator → (done xs ys : List (Feed X)) → FedAfter operator done xs → FedAfter operator done ys → ((i : ℕ) → i < operator.ports → items_of i xs ≡ items_of i ys) → xs ≡ ys
one_order operator is single done [] [] h k same = refl
one_order operator is single done (x ∷ xs) [] h k same = let e = same x.port (is.opens done x.port h.0).0 in let n : x.item ∷ items_of x.port xs ≡ [] = ap (λ b. cond b (x.item ∷ items_of x.port xs) (items_of x.port xs)) (sym (eq_true x.port x.port refl)) ∙ e in cc
one_order operator is single done [] (y ∷ ys) h k same = let e = same y.port (is.opens done y.port k.0).0 in let n : [] ≡ y.item ∷ items_of y.port ys = e ∙ ap (λ b. cond b (y.item ∷ items_of y.port ys) (items_of y.port ys)) (eq_true y.port y.port refl) in cc
one_order {X} operator is single done (x ∷ xs) (y ∷ ys) h k same =
    let port : x.port ≡ y.port = single done x.port y.port h.0 k.0 in
    let there = (is.opens done x.port h.0).0 in
    let here : x.item ∷ items_of x.port xs ≡ y.item ∷ items_of x.port ys =
    ap (λ b. cond b (x.item ∷ items_of x.port xs) (items_of x.port xs)) (sym (eq_true x.port x.port refl)) ∙ same x.port there ∙ ap (λ b. cond b (y.item ∷ items_of x.port ys) (items_of x.port ys)) (eq_true y.port x.port (sym port)) in
    let item : x.item ≡ y.item = ap (head_or x.item) here in
    let first : x ≡ y = λ i. record { port = port i; item = item i } in
    ap₂ (λ a b. a ∷ b) first (one_order operator is single (done ++ x ∷ []) xs ys h.1 (subst (λ z. FedAfter operator (done ++ z ∷ []) ys) (sym first) k.1)
    (λ i lt. elim (eqb_tells x.port i) [
      | inl t ↦ subst (λ z. items_of z xs ≡ items_of z ys) t.1 (ap tail_of here)
      | inr t ↦ ap (λ b. cond b (x.item ∷ items_of i xs) (items_of i xs)) (sym t.0) ∙ same i lt ∙ ap (λ b. cond b (y.item ∷ items_of i ys) (items_of i ys)) (eq_false y.port i (λ e. t.1 (port ∙ e)))
    ]))

-- What such a stream emits depends on the port lists alone.
pub decided : {X F : Type 0} (operator : Stream X F) → IsStream operator → IsSingle operator → (lists : ℕ → List X) (outs more : List (Out X F)) → Gives operator lists outs → Gives operator lists more → outs ≡ more
decided operator is single lists outs more g h =
    sym g.made ∙ ap (emits operator) (one_order operator is single [] g.feeds h.feeds g.fed h.fed (λ i lt. g.taken i lt ∙ sym (h.taken i lt))) ∙ h.made

pub rows_out-append : {X F : Type 0} (xs ys : List (Out X F)) → rows_out (xs ++ ys) ≡ rows_out xs ++ rows_out ys
rows_out-append [] ys = refl
rows_out-append (sends port x ∷ xs) ys = ap (λ t. x ∷ t) (rows_out-append xs ys)
rows_out-append (fails fault ∷ xs) ys = rows_out-append xs ys

pub on-append : {X F : Type 0} (i : ℕ) (xs ys : List (Out X F)) → on i (xs ++ ys) ≡ on i xs ++ on i ys
on-append i [] ys = refl
on-append i (fails fault ∷ xs) ys = on-append i xs ys
on-append i (sends port x ∷ xs) ys = go (port == i) (on-append i xs ys)
  where
    go : (b : Bool) → on i (xs ++ ys) ≡ on i xs ++ on i ys → cond b (x ∷ on i (xs ++ ys)) (on i (xs ++ ys)) ≡ cond b (x ∷ on i xs) (on i xs) ++ on i ys
    go true h = ap (λ t. x ∷ t) h
    go false h = h
