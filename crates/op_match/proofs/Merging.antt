-- What merge sends for a key value.
use Rattle.std.proofs.Common.{◌≡◌, ◌≢◌, ℕ, zero, suc, ◌+◌, ◌<◌, ◌≤◌, ◌==◌, Bool, true, false, not, ◌&&◌, cond, refl, sym, ap, ap₂, ◌∙◌, subst, inl, inr, List, [], ◌∷◌, ◌++◌, map, length, take, drop, get_or, append_assoc, append-nil, arith}
use Rattle.std.specs.Prelude.{nat_lt}
use Rattle.std.specs.List.{filter, flat_map, range_with_len}
use Rattle.std.proofs.lemmas.Bool.{ltb-false, ltb-true}
use Rattle.std.proofs.lemmas.Bool.Decides.{eqb_tells}
use Rattle.std.proofs.lemmas.Grind.{flat_map-append}
use Rattle.std.proofs.lemmas.List.Elements.{filter-append}
use Rattle.streams.specs.Streams.{Out, faults_out, on, sends}
use Rattle.streams.proofs.StreamLaws.{eq_false, eq_true, map-append, on-append}
use Rattle.ds_value.specs.declared.value.Value.{Value}
use Rattle.ds_schema.specs.declared.key.Key.{Key}
use Rattle.ds_schema.specs.Rows.{at, val}
use Rattle.op_base.specs.declared.emit.Emit.{Emit}
use Rattle.op_base.specs.declared.fault.Fault.{Fault}
use Rattle.op_base.specs.Columns.{Row}
use Rattle.op_base.specs.Emits.{Adds}
use Rattle.op_base.specs.Meanings.{Merging, are_none, first_row, input, is_none, merge_rule, update_values}
use Rattle.op_base.proofs.Adding.{Adds-then, faults_out-append}
use Rattle.op_match.specs.declared.layout.Layout.{Layout}
use Rattle.op_match.specs.Merges.{merge_outs, others, others_in}
use Rattle.op_match.specs.Merged.{joined, left_over, masters, meant}
use Rattle.op_match.proofs.Pieces.{one_more, take_more}

cond_same : {X : Type 0} (b : Bool) (x : X) → cond b x x ≡ x
cond_same true x = refl
cond_same false x = refl

-- rows that are sent on one output
sent_same : (p q : ℕ) (xs : List Row) → p ≡ q → on {F = Fault} q (map (sends p) xs) ≡ xs
sent_same p q [] e = refl
sent_same p q (x ∷ xs) e = ap (λ b. cond b (x ∷ on {F = Fault} q (map (sends p) xs)) (on {F = Fault} q (map (sends p) xs))) (eq_true p q e) ∙ ap (λ t. x ∷ t) (sent_same p q xs e)

sent_other : (p q : ℕ) (xs : List Row) → (p ≡ q → ⊥) → on {F = Fault} q (map (sends p) xs) ≡ []
sent_other p q [] n = refl
sent_other p q (x ∷ xs) n = ap (λ b. cond b (x ∷ on {F = Fault} q (map (sends p) xs)) (on {F = Fault} q (map (sends p) xs))) (eq_false p q n) ∙ sent_other p q xs n

no_faults : (p : ℕ) (xs : List Row) → faults_out {F = Fault} (map (sends p) xs) ≡ []
no_faults p [] = refl
no_faults p (x ∷ xs) = no_faults p xs

-- rows that are sent on some outputs, one after another
module _ (rows : ℕ → List Row) where
  abbrev all_outs : ℕ → ℕ → List (Out Row Fault)
  all_outs s n = flat_map (λ p. map (sends p) (rows p)) (range_with_len s n)

  on_before : (q s n : ℕ) → q < s → on q (all_outs s n) ≡ []
  on_before q s zero l = refl
  on_before q s (suc n) l = on-append q (map (sends s) (rows s)) (all_outs (s + 1) n) ∙ ap₂ (λ xs ys. xs ++ ys) (sent_other s q (rows s) (λ e. absurd (omega (arith, e, l)))) (on_before q (s + 1) n (omega (arith, l)))

  on_beyond : (q s n : ℕ) → s + n ≤ q → on q (all_outs s n) ≡ []
  on_beyond q s zero l = refl
  on_beyond q s (suc n) l = on-append q (map (sends s) (rows s)) (all_outs (s + 1) n) ∙ ap₂ (λ xs ys. xs ++ ys) (sent_other s q (rows s) (λ e. absurd (omega (arith, e, l)))) (on_beyond q (s + 1) n (omega (arith, l)))

  on_there : (q s n : ℕ) → s ≤ q → q < s + n → on q (all_outs s n) ≡ rows q
  on_there q s zero l m = absurd (omega (arith, l, m))
  on_there q s (suc n) l m = on-append q (map (sends s) (rows s)) (all_outs (s + 1) n) ∙ elim (eqb_tells s q) [
    | inl t ↦ ap₂ (λ xs ys. xs ++ ys) (sent_same s q (rows s) t.1 ∙ ap rows t.1) (on_before q (s + 1) n (let e : s ≡ q = t.1 in omega (arith, e))) ∙ append-nil (rows q)
    | inr t ↦ ap₂ (λ xs ys. xs ++ ys) (sent_other s q (rows s) t.1) (on_there q (s + 1) n (next s q l t.1) (omega (arith, m)))
  ]
    where
      next : (s q : ℕ) → s ≤ q → (s ≡ q → ⊥) → s + 1 ≤ q
      next s q l n = grind arith

  outs_bare : (s n : ℕ) → faults_out (all_outs s n) ≡ []
  outs_bare s zero = refl
  outs_bare s (suc n) = faults_out-append (map (sends s) (rows s)) (all_outs (s + 1) n) ∙ ap₂ (λ xs ys. xs ++ ys) (no_faults s (rows s)) (outs_bare (s + 1) n)

input_beyond : (i : ℕ) (inputs : List (List Row)) → length inputs ≤ i → input i inputs ≡ []
input_beyond zero [] l = refl
input_beyond (suc i) [] l = refl
input_beyond zero (xs ∷ inputs) l = absurd (omega (arith, l))
input_beyond (suc i) (xs ∷ inputs) l = input_beyond i inputs (omega (arith, l))

-- beyond the last output there is nothing
rule_beyond : (m : Merging) (q : ℕ) (v : List Value) (inputs : List (List Row)) → length inputs ≤ q → merge_rule m q v inputs ≡ []
rule_beyond m zero v [] l = cond_same (not m.keeps_bad) []
rule_beyond m zero v (xs ∷ inputs) l = absurd (omega (arith, l))
rule_beyond m (suc i) v inputs l =
    ap (λ t. cond m.rejects (cond (is_none (input 0 inputs)) t (drop 1 t)) []) (input_beyond (suc i) inputs l)
    ∙ ap (λ t. cond m.rejects t []) (cond_same (is_none (input 0 inputs)) []) ∙ cond_same m.rejects []

-- each output has what is meant
pub outs_on : (m : Merging) (q : ℕ) (v : List Value) (inputs : List (List Row)) → on q (merge_outs m v inputs) ≡ merge_rule m q v inputs
outs_on m q v inputs = go (nat_lt q (length inputs)) refl
  where
    go : (b : Bool) → nat_lt q (length inputs) ≡ b → on q (merge_outs m v inputs) ≡ merge_rule m q v inputs
    go true e = on_there (λ p. merge_rule m p v inputs) q 0 (length inputs) (omega arith) (let l : q < length inputs = ltb-true q (length inputs) e in omega (arith, l))
    go false e = let l : length inputs ≤ q = ltb-false q (length inputs) e in on_beyond (λ p. merge_rule m p v inputs) q 0 (length inputs) (omega (arith, l)) ∙ sym (rule_beyond m q v inputs l)

pub outs_bare_of : (m : Merging) (v : List Value) (inputs : List (List Row)) → faults_out (merge_outs m v inputs) ≡ []
outs_bare_of m v inputs = outs_bare (λ p. merge_rule m p v inputs) 0 (length inputs)

-- numbers one by one
range_more : (a n : ℕ) → range_with_len a (suc n) ≡ range_with_len a n ++ (a + n) ∷ []
range_more a zero = ap (λ x. x ∷ []) (omega arith)
range_more a (suc n) = ap (λ t. a ∷ t) (range_more (a + 1) n ∙ ap (λ x. range_with_len (a + 1) n ++ x ∷ []) (omega arith))

range_next : (n : ℕ) → range_with_len 0 (n + 1) ≡ range_with_len 0 n ++ n ∷ []
range_next n = ap (range_with_len 0) (one_more n) ∙ range_more 0 n ∙ ap (λ x. range_with_len 0 n ++ x ∷ []) (zero_is n)
  where
    zero_is : (m : ℕ) → 0 + m ≡ m
    zero_is m = omega arith

-- one more column, where no key names it
pub found_more : (p : ℕ → Bool) (n : ℕ) (b : Bool) (xs ys : List ℕ) → xs ≡ filter p (range_with_len 0 n) → p n ≡ b → ys ≡ xs ++ cond b (n ∷ []) [] → ys ≡ filter p (range_with_len 0 (n + 1))
found_more p n b xs ys h e k = k ∙ ap₂ (λ zs t. zs ++ cond t (n ∷ []) []) h (sym e) ∙ sym (ap (filter p) (range_next n) ∙ filter-append p (range_with_len 0 n) (n ∷ []))

-- one more value of the first columns
pub pushed_column : (row : Row) (n : ℕ) (old xs ys : List Value) (v : Value) → xs ≡ old ++ val (range_with_len 0 n) row → v ≡ at row n → ys ≡ xs ++ v ∷ [] → ys ≡ old ++ val (range_with_len 0 (n + 1)) row
pushed_column row n old xs ys v h e p =
    p ∙ ap₂ (λ zs x. zs ++ x ∷ []) h e ∙ append_assoc old (val (range_with_len 0 n) row) (at row n ∷ [])
    ∙ ap (λ t. old ++ t) (sym (ap (λ cs. val cs row) (range_next n) ∙ map-append (at row) (range_with_len 0 n) (n ∷ [])))

drop_all : {X : Type 0} (xs : List X) (i : ℕ) → length xs ≤ i → drop i xs ≡ []
drop_all [] zero l = refl
drop_all [] (suc i) l = refl
drop_all (x ∷ xs) zero l = absurd (omega (arith, l))
drop_all (x ∷ xs) (suc i) l = drop_all xs i (omega (arith, l))

-- one more update
updates_step : (os : List (List ℕ)) (us : List (List Row)) (i : ℕ) (d : List ℕ) → i < length os → update_values (drop i os) (drop i us) ≡ val (get_or os i d) (first_row (input i us)) ++ update_values (drop (suc i) os) (drop (suc i) us)
updates_step [] us i d l = absurd (omega (arith, l))
updates_step (o ∷ os) [] zero d l = refl
updates_step (o ∷ os) (u ∷ us) zero d l = refl
updates_step (o ∷ os) [] (suc i) d l = ap (update_values (drop i os)) (sym (drop_all [] i (omega arith))) ∙ updates_step os [] i d (omega (arith, l))
updates_step (o ∷ os) (u ∷ us) (suc i) d l = updates_step os us i d (omega (arith, l))

pub pushed_update : (os : List (List ℕ)) (us : List (List Row)) (i : ℕ) (o : List ℕ) (whole xs ys : List Value) → i < length os → o ≡ get_or os i o → xs ++ update_values (drop i os) (drop i us) ≡ whole → ys ≡ xs ++ val o (first_row (input i us)) → ys ++ update_values (drop (i + 1) os) (drop (i + 1) us) ≡ whole
pushed_update os us i o whole xs ys l is h e =
    ap₂ (λ zs n. zs ++ update_values (drop n os) (drop n us)) (e ∙ ap (λ cs. xs ++ val cs (first_row (input i us))) is) (one_more i)
    ∙ append_assoc xs (val (get_or os i o) (first_row (input i us))) (update_values (drop (suc i) os) (drop (suc i) us))
    ∙ ap (λ t. xs ++ t) (sym (updates_step os us i o l)) ∙ h

pub updates_end : (os : List (List ℕ)) (us : List (List Row)) (i : ℕ) (whole xs : List Value) → length os ≤ i → xs ++ update_values (drop i os) (drop i us) ≡ whole → xs ≡ whole
updates_end os us i whole xs l h = sym (append-nil xs) ∙ ap (λ t. xs ++ update_values t (drop i us)) (sym (drop_all os i l)) ∙ h

-- one more input's others
others_step : (keys : List (List Key)) (widths : List ℕ) (i : ℕ) (k : List Key) (w : ℕ) → i < length keys → i < length widths → others_in (drop i keys) (drop i widths) ≡ others (get_or keys i k) (get_or widths i w) ∷ others_in (drop (suc i) keys) (drop (suc i) widths)
others_step [] widths i k w l m = absurd (omega (arith, l))
others_step (a ∷ keys) [] i k w l m = absurd (omega (arith, m))
others_step (a ∷ keys) (b ∷ widths) zero k w l m = refl
others_step (a ∷ keys) (b ∷ widths) (suc i) k w l m = others_step keys widths i k w (omega (arith, l)) (omega (arith, m))

pub others_more : (keys : List (List Key)) (widths : List ℕ) (i : ℕ) (k : List Key) (w : ℕ) (o : List ℕ) (whole xs ys : List (List ℕ)) → i < length keys → i < length widths → k ≡ get_or keys i k → w ≡ get_or widths i 0 → xs ++ others_in (drop i keys) (drop i widths) ≡ whole → o ≡ others k w → ys ≡ xs ++ o ∷ [] →
    ys ++ others_in (drop (i + 1) keys) (drop (i + 1) widths) ≡ whole
others_more keys widths i k w o whole xs ys l m is js h e p =
    ap₂ (λ zs n. zs ++ others_in (drop n keys) (drop n widths)) (p ∙ ap (λ t. xs ++ t ∷ []) (e ∙ ap₂ others is js)) (one_more i)
    ∙ append_assoc xs (others (get_or keys i k) (get_or widths i 0) ∷ []) (others_in (drop (suc i) keys) (drop (suc i) widths))
    ∙ ap (λ t. xs ++ t) (sym (others_step keys widths i k 0 l m)) ∙ h

pub others_end : (keys : List (List Key)) (widths : List ℕ) (i : ℕ) (whole xs : List (List ℕ)) → length keys ≤ i → xs ++ others_in (drop i keys) (drop i widths) ≡ whole → xs ≡ whole
others_end keys widths i whole xs l h = sym (append-nil xs) ∙ ap (λ t. xs ++ others_in t (drop i widths)) (sym (drop_all keys i l)) ∙ h

-- the rejects of one more update
pub rejects_more : (f : ℕ → List (Out Row Fault)) (before now later : Emit) (i : ℕ) (outs : List (Out Row Fault)) → Adds before now (flat_map f (range_with_len 0 i)) → Adds now later outs → outs ≡ f i → Adds before later (flat_map f (range_with_len 0 (i + 1)))
rejects_more f before now later i outs h k e =
    let P : List (Out Row Fault) → Type 0 = λ os. Adds before later os in
    subst P (ap (λ t. flat_map f (range_with_len 0 i) ++ t) (e ∙ sym (append-nil (f i))) ∙ sym (flat_map-append f (range_with_len 0 i) (i ∷ [])) ∙ ap (flat_map f) (sym (range_next i)))
    (Adds-then before now later (flat_map f (range_with_len 0 i)) outs h k)

range_shift : (f : ℕ → List (Out Row Fault)) (s n : ℕ) → flat_map f (range_with_len (suc s) n) ≡ flat_map (λ i. f (suc i)) (range_with_len s n)
range_shift f s zero = refl
range_shift f s (suc n) = ap (λ t. f (suc s) ++ t) (ap (λ z. flat_map f (range_with_len z n)) (up s) ∙ range_shift f (s + 1) n)
  where
    up : (m : ℕ) → suc m + 1 ≡ suc (m + 1)
    up m = omega arith

left_is : (b : Bool) (rows : List Row) → left_over (not b) rows ≡ cond b rows (drop 1 rows)
left_is true rows = refl
left_is false rows = refl

agree : (f g : ℕ → List (Out Row Fault)) → ((i : ℕ) → f i ≡ g i) → (is : List ℕ) → flat_map f is ≡ flat_map g is
agree f g e [] = refl
agree f g e (i ∷ is) = ap₂ (λ xs ys. xs ++ ys) (e i) (agree f g e is)

nothing : (is : List ℕ) → flat_map {A = Out Row Fault} (λ i. []) is ≡ []
nothing [] = refl
nothing (i ∷ is) = nothing is

empty_is : (rows : List Row) → (length rows == 0) ≡ is_none rows
empty_is [] = refl
empty_is (r ∷ rows) = eq_false (length (r ∷ rows)) 0 (λ e. absurd (omega (arith, e)))

module _ (layout : Layout) (keys : List (List Key)) (v : List Value) where
  abbrev rejected : List Row → List (List Row) → ℕ → List (Out Row Fault)
  rejected rows updates i = map (sends (suc i)) (left_over (not (is_none rows)) (input i updates))

  abbrev outs_from : List (List Row) → ℕ → List (Out Row Fault)
  outs_from runs q = map (sends q) (merge_rule (meant keys layout) q v runs)

  with_rejects : (rows : List Row) (updates : List (List Row)) → layout.reject ≡ true → flat_map (outs_from (rows ∷ updates)) (range_with_len 1 (length updates)) ≡ flat_map (rejected rows updates) (range_with_len 0 (length updates))
  with_rejects rows updates e =
      range_shift (outs_from (rows ∷ updates)) 0 (length updates)
      ∙ agree (λ i. outs_from (rows ∷ updates) (suc i)) (rejected rows updates)
      (λ i. ap (λ b. map (sends (suc i)) (cond b (cond (is_none rows) (input i updates) (drop 1 (input i updates))) [])) e ∙ ap (map (sends (suc i))) (sym (left_is (is_none rows) (input i updates))))
      (range_with_len 0 (length updates))

  without_rejects : (rows : List Row) (updates : List (List Row)) → layout.reject ≡ false → flat_map (outs_from (rows ∷ updates)) (range_with_len 1 (length updates)) ≡ []
  without_rejects rows updates e =
      range_shift (outs_from (rows ∷ updates)) 0 (length updates)
      ∙ agree (λ i. outs_from (rows ∷ updates) (suc i)) (λ i. []) (λ i. ap (λ b. map (sends (suc i)) (cond b (cond (is_none rows) (input i updates) (drop 1 (input i updates))) [])) e) (range_with_len 0 (length updates))
      ∙ nothing (range_with_len 0 (length updates))

  all_parts : (runs : List (List Row)) → layout.reject ≡ true → map (sends 0) (masters layout (input 0 runs) (drop 1 runs)) ++ flat_map (rejected (input 0 runs) (drop 1 runs)) (range_with_len 0 (length (drop 1 runs))) ≡ merge_outs (meant keys layout) v runs
  all_parts [] e = ap (λ t. map (sends 0) t ++ []) (cond_same (not layout.keep) [])
  all_parts (rows ∷ updates) e = ap (λ t. map (sends 0) (masters layout rows updates) ++ t) (sym (with_rejects rows updates e))

  some_parts : (runs : List (List Row)) → layout.reject ≡ false → map (sends 0) (masters layout (input 0 runs) (drop 1 runs)) ≡ merge_outs (meant keys layout) v runs
  some_parts [] e = ap (map (sends 0)) (cond_same (not layout.keep) [])
  some_parts (rows ∷ updates) e = sym (append-nil (map (sends 0) (masters layout rows updates))) ∙ ap (λ t. map (sends 0) (masters layout rows updates) ++ t) (sym (without_rejects rows updates e))

  pub merged_all : (before now later : Emit) (runs : List (List Row)) (rows : List Row) (updates : List (List Row)) (has : Bool) → layout.reject ≡ true → rows ≡ input 0 runs → updates ≡ drop 1 runs → has ≡ not (length rows == 0) →
      Adds before now (map (sends 0) (masters layout rows updates)) → Adds now later (flat_map (λ i. map (sends (suc i)) (left_over has (input i updates))) (range_with_len 0 (length updates))) → Adds before later (merge_outs (meant keys layout) v runs)
  merged_all before now later runs rows updates has e f g b h k =
      let P : List (Out Row Fault) → Type 0 = λ outs. Adds before later outs in
      let Q : List Row → List (List Row) → Type 0 = λ rs us. Adds before later (map (sends 0) (masters layout rs us) ++ flat_map (rejected rs us) (range_with_len 0 (length us))) in
      let both : Q rows updates = Adds-then before now later (map (sends 0) (masters layout rows updates)) (flat_map (rejected rows updates) (range_with_len 0 (length updates))) h
      (subst (λ c. Adds now later (flat_map (λ i. map (sends (suc i)) (left_over c (input i updates))) (range_with_len 0 (length updates)))) (b ∙ ap not (empty_is rows)) k) in
      subst P (all_parts runs e) (subst (λ us. Q (input 0 runs) us) g (subst (λ rs. Q rs updates) f both))

  pub merged_some : (before now : Emit) (runs : List (List Row)) (rows : List Row) (updates : List (List Row)) → layout.reject ≡ false → rows ≡ input 0 runs → updates ≡ drop 1 runs → Adds before now (map (sends 0) (masters layout rows updates)) → Adds before now (merge_outs (meant keys layout) v runs)
  merged_some before now runs rows updates e f g h =
      let P : List (Out Row Fault) → Type 0 = λ outs. Adds before now outs in
      let Q : List Row → List (List Row) → Type 0 = λ rs us. Adds before now (map (sends 0) (masters layout rs us)) in
      subst P (some_parts runs e) (subst (λ us. Q (input 0 runs) us) g (subst (λ rs. Q rs updates) f h))
