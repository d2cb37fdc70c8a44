-- Single tokens, names and lists of them: each is read by the tokens up to the next one alone.
use Rattle.std.proofs.Common.{◌≡◌, ℕ, zero, suc, List, [], ◌∷◌, ◌++◌, length, Bool, true, false, Ok, Err, Option, Some, None, refl}
use Rattle.std.specs.Prelude.{codes, if◌then◌else◌}
use Rattle.std.specs.Str.{bytes_eq}
use Rattle.ds_lex.specs.declared.token.Sort.{Sort}
use Rattle.ds_lex.specs.declared.token.Sort.TheVariants as sort
use Rattle.ds_lex.specs.declared.refusal.Refusal.TheVariants as refusal
use Rattle.ds_lex.specs.Lexemes.{Lexeme}
use Rattle.ds_lex.specs.Reading.{◌>>=◌, refuse, is_sort, sort_at, expect_at, accept_at}
use Rattle.ds_lex.proofs.Readers.{bind}
use Rattle.ds_schema.specs.ColumnReading.{is_name, has_name, has_key, name_at, new_name_at, key_at, further_at, names_at, keys_at}
use Rattle.ds_schema.proofs.ListReaders.{accepted, word_fewer}
use Rattle.osh_read.specs.declared.fault.OshWhy.TheVariants as causes
use Rattle.osh_read.specs.Reading.{Read, sign_at, repeated, append, if_comes}
use Rattle.osh_first.proofs.Local.{Reads, Act, done, IsLocal, Fewer, One, one_local, gives_local, bind_local, same_local, all_local, fewer_by, Placing}

-- ---- single tokens

abbrev pub take_if : {X : Type 0} → Bool → X → Act X
take_if b x = if b then Act.Take x else Act.Refuse

taken_if : {X : Type 0} (b : Bool) (x : X) (t : Lexeme) (ts : List Lexeme) → (let r : Read X = if b then Ok (x, ts) else refuse t causes.Syntax in r) ≡ done (take_if b x) t ts
taken_if true x t ts = refl
taken_if false x t ts = refl

pub sort_local : (places : Placing) (wanted : Sort) → IsLocal places (sort_at wanted causes.Syntax) (sort_at wanted causes.Syntax)
unfolding sort_at
sort_local places wanted = one_local places (sort_at wanted causes.Syntax) None (λ t. take_if (is_sort wanted t.sort) t) refl (λ t ts. taken_if (is_sort wanted t.sort) t t ts)

pub expect_local : (places : Placing) (bytes : List ℕ) → IsLocal places (expect_at bytes causes.Syntax) (expect_at bytes causes.Syntax)
unfolding expect_at
expect_local places bytes = one_local places (expect_at bytes causes.Syntax) None (λ t. take_if (bytes_eq t.bytes bytes) t) refl (λ t ts. taken_if (bytes_eq t.bytes bytes) t t ts)

-- whether this word or sign comes
abbrev pub accept : List ℕ → Reads Bool
accept bytes ts = Ok (accept_at bytes ts)

abbrev accept_act : Bool → Act Bool
accept_act true = Act.Take true
accept_act false = Act.Leave false

accept_step : (b : Bool) (t : Lexeme) (ts : List Lexeme) → (let r : Read Bool = Ok (if b then (true, ts) else (false, t ∷ ts)) in r) ≡ done (accept_act b) t ts
accept_step true t ts = refl
accept_step false t ts = refl

pub accept_local : (places : Placing) (bytes : List ℕ) → IsLocal places (accept bytes) (accept bytes)
unfolding accept_at
accept_local places bytes = one_local places (accept bytes) (Some false) (λ t. accept_act (bytes_eq t.bytes bytes)) refl (λ t ts. accept_step (bytes_eq t.bytes bytes) t ts)

-- the word or sign, where it comes
abbrev pub come : List ℕ → Reads (Option Lexeme)
come bytes ts = Ok (sign_at bytes ts)

abbrev come_act : Bool → Lexeme → Act (Option Lexeme)
come_act true t = Act.Take (Some t)
come_act false t = Act.Leave None

come_step : (b : Bool) (t : Lexeme) (ts : List Lexeme) → (let r : Read (Option Lexeme) = Ok (if b then (Some t, ts) else (None, t ∷ ts)) in r) ≡ done (come_act b t) t ts
come_step true t ts = refl
come_step false t ts = refl

pub come_local : (places : Placing) (bytes : List ℕ) → IsLocal places (come bytes) (come bytes)
unfolding sign_at
come_local places bytes = one_local places (come bytes) (Some None) (λ t. come_act (bytes_eq t.bytes bytes) t) refl (λ t ts. come_step (bytes_eq t.bytes bytes) t ts)

-- the one reader or the other
abbrev pub either_at : {X : Type 0} → Reads X → Reads X → Bool → Reads X
either_at r s true = r
either_at r s false = s

pub either_local : {X : Type 0} (places : Placing) (r s p q : Reads X) → IsLocal places r p → IsLocal places s q → (b : Bool) → IsLocal places (either_at r s b) (either_at p q b)
either_local places r s p q one two true = one
either_local places r s p q one two false = two

pub by_choice : {X : Type 0} (r s : Reads X) (p : Bool × List Lexeme) → (if p.0 then r p.1 else s p.1) ≡ either_at r s p.0 p.1
by_choice r s (true, ts) = refl
by_choice r s (false, ts) = refl

-- ---- names

abbrev name_act : Bool → Bool → Bool → List ℕ → Act (List ℕ)
name_act word has is bytes = if word then (if has then Act.Refuse else take_if is bytes) else Act.Refuse

new_name_step : (names : List (List ℕ)) (t : Lexeme) (ts : List Lexeme) (a b c : Bool) → is_sort sort.Word t.sort ≡ a → has_name names t.bytes ≡ b → is_name t.bytes ≡ c → new_name_at causes.Syntax names (t ∷ ts) ≡ done (name_act a b c t.bytes) t ts
unfolding new_name_at sort_at
new_name_step names t ts true true c e f g = rw (e, f) refl
new_name_step names t ts true false true e f g = rw (e, f, g) refl
new_name_step names t ts true false false e f g = rw (e, f, g) refl
new_name_step names t ts false b c e f g = rw e refl

new_name_local : (places : Placing) (names : List (List ℕ)) → IsLocal places (new_name_at causes.Syntax names) (new_name_at causes.Syntax names)
unfolding new_name_at sort_at
new_name_local places names =
    one_local places (new_name_at causes.Syntax names) None (λ t. name_act (is_sort sort.Word t.sort) (has_name names t.bytes) (is_name t.bytes) t.bytes) refl
    (λ t ts. new_name_step names t ts (is_sort sort.Word t.sort) (has_name names t.bytes) (is_name t.bytes) refl refl refl)

name_step : (t : Lexeme) (ts : List Lexeme) (a c : Bool) → is_sort sort.Word t.sort ≡ a → is_name t.bytes ≡ c → name_at causes.Syntax (t ∷ ts) ≡ done (name_act a false c t.bytes) t ts
unfolding name_at sort_at
name_step t ts true true e g = rw (e, g) refl
name_step t ts true false e g = rw (e, g) refl
name_step t ts false c e g = rw e refl

pub name_local : (places : Placing) → IsLocal places (name_at causes.Syntax) (name_at causes.Syntax)
unfolding name_at sort_at
name_local places =
    one_local places (name_at causes.Syntax) None (λ t. name_act (is_sort sort.Word t.sort) false (is_name t.bytes) t.bytes) refl
    (λ t ts. name_step t ts (is_sort sort.Word t.sort) (is_name t.bytes) refl refl)

-- ---- keys

abbrev Key : Type 0
Key = List ℕ × Bool

-- the name of a key
abbrev key_name_at : List Key → Reads (List ℕ)
key_name_at keys [] = Err refusal.AtEnd
key_name_at keys (t ∷ ts) = done (name_act (is_sort sort.Word t.sort) (has_key keys t.bytes) (is_name t.bytes) t.bytes) t ts

key_name_local : (places : Placing) (keys : List Key) → IsLocal places (key_name_at keys) (key_name_at keys)
key_name_local places keys = one_local places (key_name_at keys) None (λ t. name_act (is_sort sort.Word t.sort) (has_key keys t.bytes) (is_name t.bytes) t.bytes) refl (λ t ts. refl)

-- whether `desc` follows
abbrev desc_at : List ℕ → Reads Key
desc_at name ts = Ok ((name, (accept_at (codes "desc") ts).0), (accept_at (codes "desc") ts).1)

desc_local : (places : Placing) (name : List ℕ) → IsLocal places (desc_at name) (desc_at name)
desc_local places name = bind_local places (accept (codes "desc")) (accept (codes "desc")) (λ b ts. Ok ((name, b), ts)) (λ b ts. Ok ((name, b), ts)) (accept_local places (codes "desc")) (λ b. gives_local places (name, b))

key_step : (keys : List Key) (t : Lexeme) (ts : List Lexeme) (a b c : Bool) → is_sort sort.Word t.sort ≡ a → has_key keys t.bytes ≡ b → is_name t.bytes ≡ c → key_at causes.Syntax keys (t ∷ ts) ≡ (done (name_act a b c t.bytes) t ts >>= λ p. desc_at p.0 p.1)
unfolding key_at sort_at
key_step keys t ts true true c e f g = rw (e, f) refl
key_step keys t ts true false true e f g = rw (e, f, g) refl
key_step keys t ts true false false e f g = rw (e, f, g) refl
key_step keys t ts false b c e f g = rw e refl

key_parts : (keys : List Key) (ts : List Lexeme) → key_at causes.Syntax keys ts ≡ bind (key_name_at keys) desc_at ts
unfolding key_at sort_at
key_parts keys [] = refl
key_parts keys (t ∷ ts) = key_step keys t ts (is_sort sort.Word t.sort) (has_key keys t.bytes) (is_name t.bytes) refl refl refl

key_local : (places : Placing) (keys : List Key) → IsLocal places (key_at causes.Syntax keys) (key_at causes.Syntax keys)
key_local places keys =
    same_local places (bind (key_name_at keys) desc_at) (bind (key_name_at keys) desc_at) (key_at causes.Syntax keys) (key_at causes.Syntax keys) (key_parts keys) (key_parts keys)
    (bind_local places (key_name_at keys) (key_name_at keys) desc_at desc_at (key_name_local places keys) (desc_local places))

-- ---- lists with commas

abbrev Each : Type 0 → Type 0
Each X = List X → Reads X

abbrev as_some : {X : Type 0} → X × List Lexeme → Read (Option X)
as_some x = Ok (Some x.0, x.1)

-- one behind a comma
abbrev behind_comma : {X : Type 0} → Each X → List X → Reads (Option X)
behind_comma one xs ts = one xs ts >>= as_some

abbrev none_comes : {X : Type 0} → Reads (Option X)
none_comes ts = Ok (None, ts)

abbrev comma_at : {X : Type 0} → Each X → One (List X) X
comma_at one xs = bind (accept (codes ",")) (either_at (behind_comma one xs) none_comes)

comma_by : {X : Type 0} (one : Each X) (n : ℕ) (xs : List X) (us : List Lexeme) → ((ys : List X) (vs : List Lexeme) → further_at one n ys vs ≡ repeated (comma_at one) append n ys vs)
    → (v : Read X) → (v >>= λ x. further_at one n (xs ++ x.0 ∷ []) x.1) ≡ ((v >>= as_some) >>= λ x. if_comes x.0 (λ y. repeated (comma_at one) append n (append xs y) x.1) (Ok (xs, x.1)))
comma_by one n xs us more (Ok x) = more (xs ++ x.0 ∷ []) x.1
comma_by one n xs us more (Err e) = refl

choice_by : {X : Type 0} (one : Each X) (n : ℕ) (xs : List X) → ((ys : List X) (vs : List Lexeme) → further_at one n ys vs ≡ repeated (comma_at one) append n ys vs)
    → (p : Bool × List Lexeme) → (if p.0 then (one xs p.1 >>= λ x. further_at one n (xs ++ x.0 ∷ []) x.1) else Ok (xs, p.1)) ≡ (either_at (behind_comma one xs) none_comes p.0 p.1 >>= λ x. if_comes x.0 (λ y. repeated (comma_at one) append n (append xs y) x.1) (Ok (xs, x.1)))
choice_by one n xs more (true, us) = comma_by one n xs us more (one xs us)
choice_by one n xs more (false, us) = refl

further_parts : {X : Type 0} (one : Each X) (n : ℕ) (xs : List X) (ts : List Lexeme) → further_at one n xs ts ≡ repeated (comma_at one) append n xs ts
unfolding further_at repeated
further_parts one zero xs ts = refl
further_parts one (suc n) xs ts = choice_by one n xs (λ ys vs. further_parts one n ys vs) (accept_at (codes ",") ts)

comma_end : {X : Type 0} (one : Each X) (xs : List X) → comma_at one xs [] ≡ Ok (None, [])
unfolding accept_at
comma_end one xs = refl

behind_local : {X : Type 0} (places : Placing) (one : Each X) → ((xs : List X) → IsLocal places (one xs) (one xs)) → (xs : List X) → IsLocal places (behind_comma one xs) (behind_comma one xs)
behind_local places one local xs = bind_local places (one xs) (one xs) (λ x ts. Ok (Some x, ts)) (λ x ts. Ok (Some x, ts)) (local xs) (λ x. gives_local places (Some x))

comma_local : {X : Type 0} (places : Placing) (one : Each X) → ((xs : List X) → IsLocal places (one xs) (one xs)) → (xs : List X) → IsLocal places (comma_at one xs) (comma_at one xs)
comma_local places one local xs =
    bind_local places (accept (codes ",")) (accept (codes ",")) (either_at (behind_comma one xs) none_comes) (either_at (behind_comma one xs) none_comes) (accept_local places (codes ","))
    (either_local places (behind_comma one xs) none_comes (behind_comma one xs) none_comes (behind_local places one local xs) (gives_local places None))

comma_fewer_by : {X : Type 0} (places : Placing) (one : Each X) → ((xs : List X) → IsLocal places (one xs) (one xs)) → (xs : List X) (ts : List Lexeme) (p : Bool × List Lexeme) → accept_at (codes ",") ts ≡ p → Fewer ts (either_at (behind_comma one xs) none_comes p.0 p.1)
comma_fewer_by places one local xs ts (true, us) e = fewer_by places.Is (behind_comma one xs) ts us (word_fewer (codes ",") ts us (accepted (codes ",") ts us e)) (behind_comma one xs us) (behind_local places one local xs us)
comma_fewer_by places one local xs ts (false, us) e = tt

further_local : {X : Type 0} (places : Placing) (one : Each X) → ((xs : List X) → IsLocal places (one xs) (one xs)) → (xs : List X) → IsLocal places (λ ts. further_at one (length ts) xs ts) (λ ts. further_at one (length ts) xs ts)
further_local places one local xs =
    same_local places (λ ts. repeated (comma_at one) append (length ts) xs ts) (λ ts. repeated (comma_at one) append (length ts) xs ts) (λ ts. further_at one (length ts) xs ts) (λ ts. further_at one (length ts) xs ts) (λ ts. further_parts one (length ts) xs ts) (λ ts. further_parts one (length ts) xs ts)
    (all_local places (comma_at one) (comma_at one) append (comma_end one) (comma_local places one local) (λ ys ts. comma_fewer_by places one local ys ts (accept_at (codes ",") ts) refl) xs)

abbrev list_at : {X : Type 0} → Each X → Reads (List X)
list_at one = bind (one []) (λ x ts. further_at one (length ts) (x ∷ []) ts)

list_local : {X : Type 0} (places : Placing) (one : Each X) → ((xs : List X) → IsLocal places (one xs) (one xs)) → IsLocal places (list_at one) (list_at one)
list_local places one local = bind_local places (one []) (one []) (λ x ts. further_at one (length ts) (x ∷ []) ts) (λ x ts. further_at one (length ts) (x ∷ []) ts) (local []) (λ x. further_local places one local (x ∷ []))

pub names_local : (places : Placing) → IsLocal places (names_at causes.Syntax) (names_at causes.Syntax)
unfolding names_at
names_local places = list_local places (new_name_at causes.Syntax) (new_name_local places)

pub keys_local : (places : Placing) → IsLocal places (keys_at causes.Syntax) (keys_at causes.Syntax)
unfolding keys_at
keys_local places = list_local places (key_at causes.Syntax) (key_local places)
