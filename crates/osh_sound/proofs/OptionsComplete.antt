-- The options that an operator must have: they stand ahead where they are written, and are written where they stand ahead.
use Rattle.std.proofs.Common.{◌≡◌, ◌≤◌, ◌⊎◌, inl, inr, ℕ, List, [], ◌∷◌, length, Bool, true, false, Option, Some, refl, sym, ap, ◌∙◌, subst, arith}
use Rattle.std.specs.Prelude.{if◌then◌else◌, not, ◌&&◌, ◌||◌}
use Rattle.std.specs.List.{AllByRecursion, list_any, list_all}
use Rattle.std.specs.Str.{bytes_eq}
use Rattle.std.proofs.lemmas.Bool.{or_cases}
use Rattle.ds_lex.specs.declared.token.Sort.{Sort}
use Rattle.ds_lex.specs.declared.token.Sort.TheVariants as sort
use Rattle.ds_lex.specs.Lexemes.{Lexeme}
use Rattle.ds_lex.proofs.Readers.{same_bytes, bytes_same}
use Rattle.osh_table.specs.declared.operator.OpName.{OpName}
use Rattle.osh_table.specs.declared.operator.OpName.TheVariants as op
use Rattle.osh_table.specs.declared.option.OptName.{OptName}
use Rattle.osh_table.specs.declared.option.Form.{Form}
use Rattle.osh_table.specs.declared.option.Form.TheVariants as form
use Rattle.osh_table.specs.declared.option.OptRow.{OptRow}
use Rattle.osh_table.specs.Words.{option_word}
use Rattle.osh_table.specs.Options.{options_of, row_among, row_named}
use Rattle.osh_value.specs.declared.value.OptValue.{OptValue}
use Rattle.osh_read.specs.Options.{is_value, is_opt, stands_ahead, needs_any, is_absent, is_lacking, lacks_option}
use Rattle.osh_sound.specs.Grammar.{WrittenOption, value_phrase, options_phrase, Among, AreComplete}

or_parts : (a b : Bool) → (a || b) ≡ false → (a ≡ false) × (b ≡ false)
or_parts false b h = (refl, h)
or_parts true b h = absurd cc

or_right : (a b : Bool) → b ≡ true → (a || b) ≡ true
or_right true b h = refl
or_right false b h = h

some_is : {A : Type 0} (x y : A) → (let o : Option A = Some x in o) ≡ Some y → x ≡ y
some_is x y h = cc

-- ---- the table

row_by : (r row : OptRow) (word : List ℕ) (other : Option OptRow) (b : Bool) → bytes_eq (option_word r.opt) word ≡ b → (other ≡ Some row → option_word row.opt ≡ word) → (if b then Some r else other) ≡ Some row → option_word row.opt ≡ word
row_by r row word other true e more h = (let same : r ≡ row = cc in ap (λ (x : OptRow). option_word x.opt) (sym same) ∙ same_bytes (option_word r.opt) word e)
row_by r row word other false e more h = more h

pub row_word : (rs : List OptRow) (word : List ℕ) (row : OptRow) → row_among rs word ≡ Some row → option_word row.opt ≡ word
row_word [] word row h = absurd cc
row_word (r ∷ rs) word row h = row_by r row word (row_among rs word) (bytes_eq (option_word r.opt) word) refl (λ k. row_word rs word row k) h

-- what is false of a row that is found isn't true of all
not_all_by : (p : OptRow → Bool) (r row : OptRow) (word : List ℕ) (rs : List OptRow) (b : Bool) → p row ≡ false → (row_among rs word ≡ Some row → list_all p rs ≡ false) → (if b then Some r else row_among rs word) ≡ Some row → (p r && list_all p rs) ≡ false
not_all_by p r row word rs true e more h = let same : r ≡ row = cc in let no : p r ≡ false = ap p same ∙ e in rw no refl
not_all_by p r row word rs false e more h = none (p r) (list_all p rs) (more h)
  where
    none : (a b : Bool) → b ≡ false → (a && b) ≡ false
    none true b k = k
    none false b k = refl

not_all : (p : OptRow → Bool) (rs : List OptRow) (word : List ℕ) (row : OptRow) → row_among rs word ≡ Some row → p row ≡ false → list_all p rs ≡ false
not_all p [] word row h e = absurd cc
not_all p (r ∷ rs) word row h e = not_all_by p r row word rs (bytes_eq (option_word r.opt) word) e (λ k. not_all p rs word row k e) h

-- each row is found by its word
rows_named : (o : OpName) → AllByRecursion (λ (r : OptRow). row_named o (option_word r.opt) ≡ Some r) (options_of o)
rows_named op.Import = (refl, (refl, (refl, (refl, (refl, tt)))))
rows_named op.Export = (refl, (refl, (refl, tt)))
rows_named op.Dsread = (refl, tt)
rows_named op.Dswrite = (refl, tt)
rows_named op.Copy = tt
rows_named op.Filter = (refl, (refl, tt))
rows_named op.Transform = (refl, (refl, tt))
rows_named op.Modify = (refl, (refl, (refl, tt)))
rows_named op.Switch = (refl, (refl, (refl, tt)))
rows_named op.Tsort = (refl, tt)
rows_named op.Remdup = (refl, (refl, tt))
rows_named op.Group = (refl, (refl, (refl, (refl, (refl, (refl, (refl, (refl, tt))))))))
rows_named op.InnerJoin = (refl, tt)
rows_named op.LeftOuterJoin = (refl, tt)
rows_named op.RightOuterJoin = (refl, tt)
rows_named op.FullOuterJoin = (refl, tt)
rows_named op.Merge = (refl, (refl, (refl, tt)))
rows_named op.Lookup = (refl, (refl, tt))
rows_named op.Changecapture = (refl, (refl, (refl, tt)))
rows_named op.Funnel = (refl, (refl, tt))

-- ---- what is written stands ahead

value_no_opt : (s : Sort) → is_value s ≡ true → is_opt s ≡ false
value_no_opt sort.Word h = refl
value_no_opt sort.Number h = refl
value_no_opt sort.Quoted h = refl
value_no_opt other h = absurd cc

-- behind a value
past_value : (word : List ℕ) (f : Form) (v : OptValue) (ts rest : List Lexeme) → value_phrase f v ts rest → ((may : Bool) → stands_ahead may word rest ≡ true) → stands_ahead true word ts ≡ true
past_value word form.Flag v ts rest h k = subst (λ (us : List Lexeme). stands_ahead true word us ≡ true) (sym h.1) (k true)
past_value word f v [] rest h k = absurd h
past_value word f v (t ∷ ts) rest h k = rw (value_no_opt t.sort h.0, h.0) (subst (λ (us : List Lexeme). stands_ahead false word us ≡ true) (sym h.2) (k false))

ahead_by : (word : List ℕ) (may : Bool) (t : Lexeme) (ts : List Lexeme) → t.sort ≡ sort.Opt → (t.bytes ≡ word) ⊎ (stands_ahead true word ts ≡ true) → stands_ahead may word (t ∷ ts) ≡ true
ahead_by word may t ts s h =
    let o : is_opt t.sort ≡ true = ap is_opt s in
    rw o (elim h [
      | inl e ↦ (let b : bytes_eq t.bytes word ≡ true = bytes_same t.bytes word e in rw b refl)
      | inr k ↦ or_right (bytes_eq t.bytes word) (stands_ahead true word ts) k
    ])

pub ahead : (o : OpName) (may : Bool) (w : OptName) (ws : List WrittenOption) (ts rest : List Lexeme) → options_phrase o ws ts rest → Among w ws → stands_ahead may (option_word w) ts ≡ true
ahead o may w [] ts rest h a = absurd a
ahead o may w (x ∷ ws) [] rest h a = absurd h.1.1
ahead o may w (x ∷ ws) (t ∷ ts) rest h a =
    let first = h.1 in
    let value : value_phrase x.row.form x.value ts h.0 = subst (λ (us : List Lexeme). value_phrase x.row.form x.value us h.0) (sym first.1.2) first.2 in
    ahead_by (option_word w) may t ts first.1.0 (elim a [
      | inl e ↦ inl (sym (row_word (options_of o) t.bytes x.row first.1.1) ∙ ap option_word e)
      | inr b ↦ inr (past_value (option_word w) x.row.form x.value ts h.0 value (λ m. ahead o m w ws h.0 rest h.2 b))
    ])

none_lacking : (o : OpName) (ws : List WrittenOption) (ts rest : List Lexeme) → options_phrase o ws ts rest → (rs : List OptRow) → AllByRecursion (λ (r : OptRow). r.required ≡ true → Among r.opt ws) rs → list_any (is_lacking ts) rs ≡ false
none_lacking o ws ts rest p [] h = refl
none_lacking o ws ts rest p (r ∷ rs) h = rw (by r.required refl) (none_lacking o ws ts rest p rs h.1)
  where
    by : (b : Bool) → r.required ≡ b → is_lacking ts r ≡ false
    by true e = let k = ahead o false r.opt ws ts rest p (h.0 e) in rw (e, k) refl
    by false e = rw e refl

-- what stands first is present
not_absent : (o : OpName) (ws : List WrittenOption) (ts rest : List Lexeme) → options_phrase o ws ts rest → 1 ≤ length ws → list_all (is_absent ts) (options_of o) ≡ false
not_absent o [] ts rest p h = absurd (omega arith)
not_absent o (w ∷ ws) [] rest p h = absurd p.1.1
not_absent o (w ∷ ws) (t ∷ ts) rest p h =
    let k = ahead o false w.row.opt (w ∷ ws) (t ∷ ts) rest p (inl refl) in
    not_all (is_absent (t ∷ ts)) (options_of o) t.bytes w.row p.1.1.1 (rw k refl)

pub none_lacks : (o : OpName) (ws : List WrittenOption) (ts rest : List Lexeme) → AreComplete o ws → options_phrase o ws ts rest → lacks_option o ts ≡ false
none_lacks o ws ts rest c p = rw (none_lacking o ws ts rest p (options_of o) c.required) (by (needs_any o) refl)
  where
    by : (b : Bool) → needs_any o ≡ b → (b && list_all (is_absent ts) (options_of o)) ≡ false
    by true e = not_absent o ws ts rest p (c.some e)
    by false e = refl

-- ---- what stands ahead is written

-- no value stands in front
abbrev pub NoValue : List Lexeme → Type 0
NoValue [] = Unit {0}
NoValue (t ∷ ts) = is_value t.sort ≡ false

-- one of the options is called so
abbrev pub Called : OpName → List ℕ → List WrittenOption → Type 0
Called o word [] = ⊥
Called o word (w ∷ ws) = (row_named o word ≡ Some w.row) ⊎ Called o word ws

-- whatever stands ahead is among the options; `may` says whether a value may come first
abbrev pub TellsAll : OpName → List WrittenOption → List Lexeme → Type 0
TellsAll o ws ts = (may : Bool) (word : List ℕ) → (may ≡ true → NoValue ts) → stands_ahead may word ts ≡ true → Called o word ws

pub none_ahead : (o : OpName) (t : Lexeme) (ts : List Lexeme) → is_opt t.sort ≡ false → TellsAll o [] (t ∷ ts)
none_ahead o t ts e true word n h = let v : is_value t.sort ≡ false = n refl in absurd (let k : false ≡ true = sym (rw (e, v) refl) ∙ h in cc)
none_ahead o t ts e false word n h = absurd (let k : false ≡ true = sym (rw e refl) ∙ h in cc)

behind_value : (word : List ℕ) (f : Form) (v : OptValue) (ts rest : List Lexeme) → value_phrase f v ts rest → (f ≡ form.Flag → NoValue ts) → stands_ahead true word ts ≡ true → (may : Bool) × (may ≡ true → NoValue rest) × (stands_ahead may word rest ≡ true)
behind_value word form.Flag v ts rest h n k = (true, λ e. subst NoValue h.1 (n refl), subst (λ (us : List Lexeme). stands_ahead true word us ≡ true) h.1 k)
behind_value word f v [] rest h n k = absurd h
behind_value word f v (t ∷ ts) rest h n k =
    let passed : stands_ahead true word (t ∷ ts) ≡ stands_ahead false word ts = rw (value_no_opt t.sort h.0, h.0) refl in
    (false, λ e. absurd cc, subst (λ (us : List Lexeme). stands_ahead false word us ≡ true) h.2 (sym passed ∙ k))

pub one_ahead : (o : OpName) (w : WrittenOption) (ws : List WrittenOption) (t : Lexeme) (ts rest : List Lexeme) → is_opt t.sort ≡ true → row_named o t.bytes ≡ Some w.row → value_phrase w.row.form w.value ts rest → (w.row.form ≡ form.Flag → NoValue ts) → TellsAll o ws rest → TellsAll o (w ∷ ws) (t ∷ ts)
one_ahead o w ws t ts rest e r v n more may word m h =
    let here : stands_ahead may word (t ∷ ts) ≡ (bytes_eq t.bytes word || stands_ahead true word ts) = rw e refl in
    elim (or_cases (bytes_eq t.bytes word) (stands_ahead true word ts) (sym here ∙ h)) [
      | inl b ↦ inl (ap (row_named o) (sym (same_bytes t.bytes word b)) ∙ r)
      | inr b ↦ inr (let k = behind_value word w.row.form w.value ts rest v n b in more k.0 word k.1 k.2)
    ]

called_among : (o : OpName) (r : OptRow) (ws : List WrittenOption) → row_named o (option_word r.opt) ≡ Some r → Called o (option_word r.opt) ws → Among r.opt ws
called_among o r [] e h = absurd h
called_among o r (w ∷ ws) e h =
    elim h [
      | inl a ↦ inl (ap (λ (x : OptRow). x.opt) (some_is w.row r (sym a ∙ e)))
      | inr b ↦ inr (called_among o r ws e b)
    ]

called_some : (o : OpName) (word : List ℕ) (ws : List WrittenOption) → Called o word ws → 1 ≤ length ws
called_some o word [] h = absurd h
called_some o word (w ∷ ws) h = omega arith

all_required : (o : OpName) (ws : List WrittenOption) (ts : List Lexeme) → TellsAll o ws ts → (rs : List OptRow) → AllByRecursion (λ (r : OptRow). row_named o (option_word r.opt) ≡ Some r) rs → list_any (is_lacking ts) rs ≡ false → AllByRecursion (λ (r : OptRow). r.required ≡ true → Among r.opt ws) rs
all_required o ws ts tells [] n h = tt
all_required o ws ts tells (r ∷ rs) n h =
    let k = or_parts (is_lacking ts r) (list_any (is_lacking ts) rs) h in
    (λ e. called_among o r ws n.0 (tells false (option_word r.opt) (λ f. absurd cc) (by r.required (stands_ahead false (option_word r.opt) ts) e k.0)), all_required o ws ts tells rs n.1 k.1)
  where
    by : (a b : Bool) → a ≡ true → (a && not b) ≡ false → b ≡ true
    by true true e h = refl
    by true false e h = absurd cc
    by false b e h = absurd cc

abbrev Present : List Lexeme → Type 0
Present ts = (word : List ℕ) × (stands_ahead false word ts ≡ true)

present_by : (ts : List Lexeme) (r : OptRow) (rs : List OptRow) (b : Bool) → stands_ahead false (option_word r.opt) ts ≡ b → (list_all (is_absent ts) rs ≡ false → Present ts) → (not b && list_all (is_absent ts) rs) ≡ false → Present ts
present_by ts r rs true e more k = (option_word r.opt, e)
present_by ts r rs false e more k = more k

some_present : (ts : List Lexeme) (rs : List OptRow) → list_all (is_absent ts) rs ≡ false → Present ts
some_present ts [] h = absurd cc
some_present ts (r ∷ rs) h = present_by ts r rs (stands_ahead false (option_word r.opt) ts) refl (λ k. some_present ts rs k) h

and_false : (a b : Bool) → a ≡ true → (a && b) ≡ false → b ≡ false
and_false true b e h = h
and_false false b e h = absurd cc

pub are_complete : (o : OpName) (ws : List WrittenOption) (ts : List Lexeme) → TellsAll o ws ts → lacks_option o ts ≡ false → AreComplete o ws
are_complete o ws ts tells h =
    let k = or_parts (list_any (is_lacking ts) (options_of o)) (needs_any o && list_all (is_absent ts) (options_of o)) h in
    record {
      required = all_required o ws ts tells (options_of o) (rows_named o) k.0;
      some = λ e. (let p = some_present ts (options_of o) (and_false (needs_any o) (list_all (is_absent ts) (options_of o)) e k.1) in called_some o p.0 ws (tells false p.0 (λ f. absurd cc) p.1));
    }
