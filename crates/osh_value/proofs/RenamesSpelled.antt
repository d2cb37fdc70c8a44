-- New columns, alone and with old ones: what is read is one, and what is one is read.
use Rattle.std.proofs.Common.{◌≡◌, ◌<◌, ℕ, List, [], ◌∷◌, ◌++◌, true, false, Result, Ok, length, refl, sym, ap, ◌∙◌, subst, arith}
use Rattle.std.specs.Prelude.{if◌then◌else◌, codes}
use Rattle.std.specs.List.{AllByRecursion}
use Rattle.ds_value.specs.Names.{IsName}
use Rattle.ds_lex.specs.declared.token.Sort.TheVariants as sort
use Rattle.ds_lex.specs.declared.refusal.Refusal.{Refusal}
use Rattle.ds_lex.specs.Lexemes.{Lexeme}
use Rattle.ds_lex.specs.Reading.{sort_at, expect_at, refuse}
use Rattle.ds_lex.specs.Phrases.{word}
use Rattle.ds_lex.proofs.Readers.{bind_ok, read_holds, said, expect_reads, expect_read, to_word, from_word}
use Rattle.ds_schema.specs.Schemas.{IsFieldName}
use Rattle.ds_schema.specs.SchemaReading.{is_field_name}
use Rattle.ds_schema.specs.ColumnGrammar.{AreNamed, name_phrase}
use Rattle.ds_schema.specs.ColumnReading.{is_name, held}
use Rattle.ds_schema.proofs.FieldNames.{field_name, name_of_field}
use Rattle.ds_schema.proofs.ListReaders.{ok_parts, word_fewer}
use Rattle.ds_schema.proofs.NamedLists.{no_named, push_named, front_named, last_named}
use Rattle.op_base.proofs.All.{all_append}
use Rattle.osh_value.specs.Values.{new_name_at, has_old, rename_at, renames_at}
use Rattle.osh_value.specs.ValueGrammar.{column_form, pair_phrase, pair_form, old_name, renames_form}
use Rattle.osh_value.proofs.Names.{name_tested}
use Rattle.osh_value.proofs.TokensTaken.{test_taken, test_passed, sort_taken, sort_read, token_fewer, held_taken, field_tested}
use Rattle.osh_value.proofs.ListsSpelled.{TakesOne, ReadsOne, list_taken, list_read}

-- ---- new columns

name_stands : (t : Lexeme) (ts us rest : List Lexeme) (name : List ℕ) → t.sort ≡ sort.Word → ts ≡ t ∷ us → t.bytes ≡ name → us ≡ rest → name_phrase name ts rest
name_stands t ts us rest name s p e r = subst (λ (vs : List Lexeme). name_phrase name vs rest) (sym p) (s, e, r)

pub column_taken : (ts rest : List Lexeme) (name : List ℕ) → new_name_at ts ≡ Ok (name, rest) → column_form name ts rest
unfolding new_name_at
column_taken ts rest name h =
    let a = bind_ok (sort_at sort.Word (tt {0}) ts) _ (name, rest) h in
    let s = sort_taken sort.Word (tt {0}) ts a.0.1 a.0.0 a.1 in
    let b = bind_ok (let r : Result Lexeme (Refusal (Unit {0})) = if is_field_name a.0.0.bytes then Ok a.0.0 else refuse a.0.0 tt in r) _ (name, rest) a.2 in
    let c = bind_ok (held (tt {0}) a.0.0) _ (name, rest) b.2 in
    let field = (test_taken (is_field_name a.0.0.bytes) a.0.0 b.0 _ b.1).0 in
    let k = ok_parts (c.0, a.0.1) (name, rest) c.2 in
    let same : a.0.0.bytes ≡ name = (held_taken (tt {0}) a.0.0 c.0 c.1).1 ∙ k.0 in
    (subst IsFieldName same (field_name a.0.0.bytes field), name_stands a.0.0 ts a.0.1 rest name s.0 s.1 same k.1)

pub column_read : (name : List ℕ) (ts rest : List Lexeme) → column_form name ts rest → new_name_at ts ≡ Ok (name, rest)
unfolding new_name_at
column_read name [] rest h = absurd h.1
column_read name (t ∷ ts) rest h =
    let field : is_field_name t.bytes ≡ true = ap is_field_name h.1.1 ∙ field_tested name h.0 in
    let named : is_name t.bytes ≡ true = ap is_name h.1.1 ∙ name_tested name (name_of_field name h.0) in
    rw (sort_read sort.Word (tt {0}) t ts h.1.0, field, named, h.1.1, h.1.2) refl

-- ---- new columns with old ones

-- a pair that was read, whose old name is none of those before
record PairTaken (found : List (List ℕ × List ℕ)) (ts rest : List Lexeme) (p : List ℕ × List ℕ) : Type 0 where
  given : IsFieldName p.0
  old : IsName p.1
  stands : pair_phrase p ts rest
  fresh : has_old found p.1 ≡ false

equals_taken : (ts us : List Lexeme) (t : Lexeme) → expect_at (codes "=") (tt {0}) ts ≡ Ok (t, us) → word (codes "=") ts us
equals_taken ts us t h = to_word (codes "=") t ts us (read_holds (said (codes "=")) (expect_at (codes "=") (tt {0})) (expect_reads (codes "=") (tt {0})) ts us t h)

rename_taken : (found : List (List ℕ × List ℕ)) (ts rest : List Lexeme) (p : List ℕ × List ℕ) → rename_at found ts ≡ Ok (p, rest) → PairTaken found ts rest p
unfolding rename_at
rename_taken found ts rest p h =
    let a = bind_ok (new_name_at ts) _ (p, rest) h in
    let b = bind_ok (expect_at (codes "=") (tt {0}) a.0.1) _ (p, rest) a.2 in
    let c = bind_ok (sort_at sort.Word (tt {0}) b.0.1) _ (p, rest) b.2 in
    let d = test_passed (has_old found c.0.0.bytes) c.0.0 _ _ (p, rest) c.2 in
    let e = bind_ok (held (tt {0}) c.0.0) _ (p, rest) d.1 in
    let new = column_taken ts a.0.1 a.0.0 a.1 in
    let is = equals_taken a.0.1 b.0.1 b.0.0 b.1 in
    let s = sort_taken sort.Word (tt {0}) b.0.1 c.0.1 c.0.0 c.1 in
    let n = held_taken (tt {0}) c.0.0 e.0 e.1 in
    let k = ok_parts ((a.0.0, e.0), c.0.1) (p, rest) e.2 in
    let made : PairTaken found ts rest (a.0.0, e.0) = record {
      given = new.0;
      old = subst IsName n.1 n.0;
      stands = (a.0.1, new.1, (b.0.1, is, name_stands c.0.0 b.0.1 c.0.1 rest e.0 s.0 s.1 n.1 k.1));
      fresh = ap (has_old found) (sym n.1) ∙ d.0;
    } in
    subst (PairTaken found ts rest) k.0 made

pub pair_taken : (ts rest : List Lexeme) (p : List ℕ × List ℕ) → rename_at [] ts ≡ Ok (p, rest) → pair_form p ts rest
pair_taken ts rest p h = let t = rename_taken [] ts rest p h in (t.given, t.old, t.stands)

-- where the second name is none of those before
rename_read : (found : List (List ℕ × List ℕ)) (p : List ℕ × List ℕ) (ts us vs rest : List Lexeme) → column_form p.0 ts us → word (codes "=") us vs → name_phrase p.1 vs rest → IsName p.1 → has_old found p.1 ≡ false → rename_at found ts ≡ Ok (p, rest)
unfolding rename_at
rename_read found p ts us [] rest a e o n f = absurd o
rename_read found p ts us (t ∷ vs) rest a e o n f =
    let w = from_word (codes "=") us (t ∷ vs) e in
    let is = expect_read (codes "=") (tt {0}) w.0 us (t ∷ vs) w.1 tt in
    let fresh : has_old found t.bytes ≡ false = ap (has_old found) o.1 ∙ f in
    let named : is_name t.bytes ≡ true = ap is_name o.1 ∙ name_tested p.1 n in
    rw (column_read p.0 ts us a, is, sort_read sort.Word (tt {0}) t vs o.0, fresh, named, o.1, o.2) refl

pub pair_read : (p : List ℕ × List ℕ) (ts rest : List Lexeme) → pair_form p ts rest → rename_at [] ts ≡ Ok (p, rest)
pair_read p ts rest h = rename_read [] p ts h.2.0 h.2.2.0 rest (h.0, h.2.1) h.2.2.1 h.2.2.2 h.1 refl

-- ---- lists of them

abbrev IsGiven : List ℕ × List ℕ → Type 0
IsGiven p = IsFieldName p.0

abbrev AreRenames : List (List ℕ × List ℕ) → Type 0
AreRenames pairs = AllByRecursion IsGiven pairs × AreNamed old_name pairs

takes : TakesOne AreRenames pair_phrase rename_at
takes found ts rest p f h =
    let k = rename_taken found ts rest p h in
    (k.stands, (all_append IsGiven found (p ∷ []) f.0 (k.given, tt), push_named old_name found p f.1 k.old k.fresh))

pub renames_taken : (ts rest : List Lexeme) (pairs : List (List ℕ × List ℕ)) → renames_at ts ≡ Ok (pairs, rest) → renames_form pairs ts rest
renames_taken ts rest pairs h = let k = list_taken AreRenames pair_phrase rename_at takes (tt, no_named old_name) ts rest pairs h in (k.0.0, k.0.1, k.1)

given_front : (xs ys : List (List ℕ × List ℕ)) → AllByRecursion IsGiven (xs ++ ys) → AllByRecursion IsGiven xs
given_front [] ys h = tt
given_front (x ∷ xs) ys h = (h.0, given_front xs ys h.1)

given_last : (xs : List (List ℕ × List ℕ)) (p : List ℕ × List ℕ) → AllByRecursion IsGiven (xs ++ p ∷ []) → IsGiven p
given_last [] p h = h.0
given_last (x ∷ xs) p h = given_last xs p h.1

one_read : (found : List (List ℕ × List ℕ)) (p : List ℕ × List ℕ) (ts rest : List Lexeme) → AreRenames (found ++ p ∷ []) → pair_phrase p ts rest → rename_at found ts ≡ Ok (p, rest)
one_read found p ts rest f h =
    let n = last_named old_name found p f.1 in
    rename_read found p ts h.0 h.2.0 rest (given_last found p f.0, h.1) h.2.1 h.2.2 n.0 n.1

pair_fewer : (p : List ℕ × List ℕ) (ts rest : List Lexeme) → pair_phrase p ts rest → length rest < length ts
pair_fewer p ts rest h =
    let a = token_fewer sort.Word (λ bytes. bytes ≡ p.0) ts h.0 h.1 in
    let b = word_fewer (codes "=") h.0 h.2.0 h.2.1 in
    let c = token_fewer sort.Word (λ bytes. bytes ≡ p.1) h.2.0 rest h.2.2 in
    omega (arith, a, b, c)

reads : ReadsOne AreRenames pair_phrase rename_at
reads = record {
  read = one_read;
  fewer = pair_fewer;
  front = λ xs ys f. (given_front xs ys f.0, front_named old_name xs ys f.1);
}

pub renames_read : (pairs : List (List ℕ × List ℕ)) (ts : List Lexeme) → renames_form pairs ts [] → renames_at ts ≡ Ok (pairs, [])
renames_read pairs ts h = list_read AreRenames pair_phrase rename_at reads pairs ts ((h.0, h.1), h.2)
