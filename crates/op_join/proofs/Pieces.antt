-- Columns, rows that are sent one by one, and the runs of one side.
use Rattle.std.proofs.Common.{◌≡◌, ℕ, zero, suc, ◌+◌, ◌<◌, Bool, true, false, ◌||◌, cond, refl, sym, ap, ap₂, ◌∙◌, subst, List, [], ◌∷◌, ◌++◌, map, length, take, get_or, append_assoc, append-nil, arith, Option, Some, None}
use Rattle.std.specs.Prelude.{is_some, option_to_list}
use Rattle.std.specs.List.{AllByRecursion, filter, flat_map, range_with_len}
use Rattle.std.proofs.lemmas.List.Elements.{filter-append}
use Rattle.std.proofs.lemmas.Grind.{flat_map-append}
use Rattle.streams.specs.Streams.{Out, sends}
use Rattle.streams.proofs.StreamLaws.{map-append}
use Rattle.ds_value.specs.declared.value.Value.{Value}
use Rattle.ds_schema.specs.declared.key.Key.{Key}
use Rattle.ds_schema.specs.Rows.{at, cols, has, val, ways}
use Rattle.op_base.specs.declared.emit.Emit.{Emit}
use Rattle.op_base.specs.declared.fault.Fault.{Fault}
use Rattle.op_base.specs.Columns.{Row}
use Rattle.op_base.specs.Emits.{Adds}
use Rattle.op_base.specs.Feeds.{behind, front, has_some, run_done}
use Rattle.op_base.proofs.Adding.{Adds-then}
use Rattle.op_base.proofs.Orders.{has_is_tie, has_val, val-append, val_has}
use Rattle.op_join.specs.Waiting.{IsOther, IsRun, is_same}

range_more : (a n : ℕ) → range_with_len a (suc n) ≡ range_with_len a n ++ (a + n) ∷ []
range_more a zero = ap (λ x. x ∷ []) (omega arith)
range_more a (suc n) = ap (λ t. a ∷ t) (range_more (a + 1) n ∙ ap (λ x. range_with_len (a + 1) n ++ x ∷ []) (omega arith))

-- one more column
filter_more : (p : ℕ → Bool) (n : ℕ) → filter p (range_with_len 0 (suc n)) ≡ filter p (range_with_len 0 n) ++ cond (p n) (n ∷ []) []
filter_more p n = ap (filter p) (range_more 0 n ∙ ap (λ x. range_with_len 0 n ++ x ∷ []) (zero_is n)) ∙ filter-append p (range_with_len 0 n) (n ∷ [])
  where
    zero_is : (m : ℕ) → 0 + m ≡ m
    zero_is m = omega arith

-- one more row that is sent
sent_more : (f : Row → Row) (before now later : Emit) (rows : List Row) (r s : Row) → Adds before now (map (sends 0) (map f rows)) → s ≡ f r → Adds now later (sends 0 s ∷ []) → Adds before later (map (sends 0) (map f (rows ++ r ∷ [])))
sent_more f before now later rows r s h e k =
    let P : List (Out Row Fault) → Type 0 = λ outs. Adds before later outs in
    subst P (ap (λ x. map (sends 0) (map f rows) ++ sends 0 x ∷ []) e ∙ sym (map-append (sends 0) (map f rows) (f r ∷ [])) ∙ ap (map (sends 0)) (sym (map-append f rows (r ∷ []))))
    (Adds-then before now later (map (sends 0) (map f rows)) (sends 0 s ∷ []) h k)

sent_all : (f : Row → List Row) (before now later : Emit) (rows : List Row) (r : Row) → Adds before now (map (sends 0) (flat_map f rows)) → Adds now later (map (sends 0) (f r)) → Adds before later (map (sends 0) (flat_map f (rows ++ r ∷ [])))
sent_all f before now later rows r h k =
    let P : List (Out Row Fault) → Type 0 = λ outs. Adds before later outs in
    subst P (sym (map-append (sends 0) (flat_map f rows) (f r)) ∙ ap (map (sends 0)) (ap (λ t. flat_map f rows ++ t) (sym (append-nil (f r))) ∙ sym (flat_map-append f rows (r ∷ []))))
    (Adds-then before now later (map (sends 0) (flat_map f rows)) (map (sends 0) (f r)) h k)

-- a run and what is behind it
pub run_parts : (cs : List ℕ) (v : List Value) (run : List Row) (next : Option Row) → AllByRecursion (λ s. val cs s ≡ v) run → IsOther cs v next →
    (front cs v (run ++ option_to_list next) ≡ run) × (behind cs v (run ++ option_to_list next) ≡ option_to_list next)
run_parts cs v [] None a o = (refl, refl)
run_parts cs v [] (Some r) a o = (ap (λ b. cond b (r ∷ []) []) (o r refl), ap (λ b. cond b [] (r ∷ [])) (o r refl))
run_parts cs v (s ∷ run) next a o =
    let rec = run_parts cs v run next a.1 o in
    (ap₂ (λ b t. cond b (s ∷ t) []) (val_has cs v s a.0) rec.0, ap₂ (λ b t. cond b t (s ∷ (run ++ option_to_list next))) (val_has cs v s a.0) rec.1)

-- of a list that begins with another value, nothing is in front
pub other_parts : (cs : List ℕ) (v : List Value) (r : Row) (rows : List Row) → (val cs r ≡ v → ⊥) → (front cs v (r ∷ rows) ≡ []) × (behind cs v (r ∷ rows) ≡ r ∷ rows)
other_parts cs v r rows n = go (has cs v r) refl
  where
    go : (b : Bool) → has cs v r ≡ b → (cond b (r ∷ front cs v rows) [] ≡ []) × (cond b (behind cs v rows) (r ∷ rows) ≡ r ∷ rows)
    go true e = absurd (n (has_val cs v r e))
    go false e = (refl, refl)

pub done_is : (cs : List ℕ) (over : Bool) (run : List Row) (next : Option Row) → IsRun cs run next → run_done cs over (run ++ option_to_list next) ≡ (over || is_some next)
done_is cs over [] next h = ap (λ n. run_done cs over (option_to_list n)) h ∙ go over ∙ sym (ap (λ n. over || is_some n) h)
  where
    go : (o : Bool) → o ≡ (o || false)
    go true = refl
    go false = refl
done_is cs over (r ∷ run) next h = ap (λ t. cond over true (has_some t)) (run_parts cs (val cs r) run next h.0 h.1).1 ∙ go over next
  where
    go : (o : Bool) (n : Option Row) → cond o true (has_some (option_to_list n)) ≡ (o || is_some n)
    go true None = refl
    go true (Some x) = refl
    go false None = refl
    go false (Some x) = refl

none_other : (cs : List ℕ) (v : List Value) (next : Option Row) → next ≡ None → IsOther cs v next
none_other cs v next e r f = let g : None ≡ Some r = sym e ∙ f in cc

-- what is left of a side whose run is taken off
pub rest_run : (cs : List ℕ) (next later : Option Row) (run : List Row) → run ≡ option_to_list next → later ≡ None → IsRun cs run later
rest_run cs None later run e f = subst (λ xs. IsRun cs xs later) (sym e) f
rest_run cs (Some r) later run e f = let P : List Row → Type 0 = λ xs. IsRun cs xs later in subst P (sym e) (tt, none_other cs (val cs r) later f)

all_more : {X : Type 0} (P : X → Type 0) (xs : List X) (x : X) → AllByRecursion P xs → P x → AllByRecursion P (xs ++ x ∷ [])
all_more P [] x h k = (k, tt)
all_more P (y ∷ xs) x h k = (h.0, all_more P xs x h.1 k)

-- one more row of the run's value, and a first row of another
pub run_more : (keys : List Key) (run : List Row) (next : Option Row) (r : Row) → next ≡ None → IsRun (cols keys) run next → is_same keys run r ≡ true → IsRun (cols keys) (run ++ r ∷ []) next
run_more keys [] next r e h s = (tt, none_other (cols keys) (val (cols keys) r) next e)
run_more keys (a ∷ run) next r e h s = (all_more (λ x. val (cols keys) x ≡ val (cols keys) a) run r h.0 (has_val (cols keys) (val (cols keys) a) r (has_is_tie keys a r ∙ s)), h.1)

pub run_then : (keys : List Key) (run : List Row) (next : Option Row) (r : Row) → IsRun (cols keys) run next → is_same keys run r ≡ false → IsRun (cols keys) run (Some r)
run_then keys [] next r h s = cc
run_then keys (a ∷ run) next r h s = (h.0, λ x e. let f : r ≡ x = cc in ap (has (cols keys) (val (cols keys) a)) (sym f) ∙ has_is_tie keys a r ∙ s)

-- loops over lists
take_more : {X : Type 0} (xs : List X) (i : ℕ) (d : X) → i < length xs → take (suc i) xs ≡ take i xs ++ get_or xs i d ∷ []
take_more [] i d l = absurd (omega (arith, l))
take_more (x ∷ xs) zero d l = refl
take_more (x ∷ xs) (suc i) d l = ap (λ t. x ∷ t) (take_more xs i d (omega (arith, l)))

one_more : (i : ℕ) → i + 1 ≡ suc i
one_more i = omega arith

pub sent_next : (f : Row → Row) (before now later : Emit) (xs : List Row) (i : ℕ) (r s : Row) → i < length xs → r ≡ get_or xs i r → Adds before now (map (sends 0) (map f (take i xs))) → s ≡ f r → Adds now later (sends 0 s ∷ []) → Adds before later (map (sends 0) (map f (take (i + 1) xs)))
sent_next f before now later xs i r s l is h e k =
    let P : List Row → Type 0 = λ rows. Adds before later (map (sends 0) (map f rows)) in
    subst P (ap (λ x. take i xs ++ x ∷ []) is ∙ sym (take_more xs i r l) ∙ ap (λ n. take n xs) (sym (one_more i))) (sent_more f before now later (take i xs) r s h e k)

pub sent_all_next : (f : Row → List Row) (before now later : Emit) (xs : List Row) (i : ℕ) (r : Row) → i < length xs → r ≡ get_or xs i r → Adds before now (map (sends 0) (flat_map f (take i xs))) → Adds now later (map (sends 0) (f r)) → Adds before later (map (sends 0) (flat_map f (take (i + 1) xs)))
sent_all_next f before now later xs i r l is h k =
    let P : List Row → Type 0 = λ rows. Adds before later (map (sends 0) (flat_map f rows)) in
    subst P (ap (λ x. take i xs ++ x ∷ []) is ∙ sym (take_more xs i r l) ∙ ap (λ n. take n xs) (sym (one_more i))) (sent_all f before now later (take i xs) r h k)

cols_more : (keys : List Key) (i : ℕ) (d : Key) → i < length keys → cols (take (suc i) keys) ≡ cols (take i keys) ++ (get_or keys i d).col ∷ []
cols_more [] i d l = absurd (omega (arith, l))
cols_more (k ∷ keys) zero d l = refl
cols_more (k ∷ keys) (suc i) d l = ap (λ t. k.col ∷ t) (cols_more keys i d (omega (arith, l)))

-- one more key value
pub pushed_key : (keys : List Key) (i : ℕ) (d : Key) (row : Row) (old xs ys : List Value) (v : Value) → i < length keys → xs ≡ old ++ val (cols (take i keys)) row → v ≡ at row (get_or keys i d).col → ys ≡ xs ++ v ∷ [] → ys ≡ old ++ val (cols (take (i + 1) keys)) row
pushed_key keys i d row old xs ys v l h e p =
    p ∙ ap₂ (λ zs x. zs ++ x ∷ []) h e ∙ append_assoc old (val (cols (take i keys)) row) (at row (get_or keys i d).col ∷ [])
    ∙ ap (λ t. old ++ t) (sym (ap (λ n. val (cols (take n keys)) row) (one_more i) ∙ ap (λ cs. val cs row) (cols_more keys i d l) ∙ val-append (cols (take i keys)) ((get_or keys i d).col ∷ []) row))

-- one more column, where it is none of the keys
pub found_more : (p : ℕ → Bool) (n : ℕ) (b : Bool) (xs ys : List ℕ) → xs ≡ filter p (range_with_len 0 n) → p n ≡ b → ys ≡ xs ++ cond b (n ∷ []) [] → ys ≡ filter p (range_with_len 0 (n + 1))
found_more p n b xs ys h e k = k ∙ ap₂ (λ zs t. zs ++ cond t (n ∷ []) []) h (sym e) ∙ sym (ap (λ m. filter p (range_with_len 0 m)) (one_more n) ∙ filter_more p n)

length-ways : (keys : List Key) → length (ways keys) ≡ length keys
length-ways [] = refl
length-ways (k ∷ keys) = ap suc (length-ways keys)

pub same_length : (xs ys : List Key) → ways xs ≡ ways ys → length xs ≡ length ys
same_length xs ys e = sym (length-ways xs) ∙ ap length e ∙ length-ways ys
