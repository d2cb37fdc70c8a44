-- A step of the loop over the fields.
use Rattle.std.proofs.Common.{◌≡◌, ◌≢◌, ◌-◌, ◌++◌, ◌∷◌, [], ℕ, zero, suc, List, Ok, Err, true, false, refl, ap, ◌∙◌, arith}
use Rattle.std.specs.Prelude.{if◌then◌else◌}
use Rattle.ds_lex.specs.declared.refusal.Refusal.{Refusal}
use Rattle.ds_lex.specs.declared.refusal.Stop.{Stop}
use Rattle.ds_lex.specs.Lexemes.{Lexeme}
use Rattle.ds_lex.specs.Reading.{◌>>=◌, refuse, Fails}
use Rattle.ds_lex.proofs.Readers.{fails_bind}
use Rattle.ds_schema.specs.declared.schema.Field.{Field}
use Rattle.ds_schema.specs.declared.schema_text.fault.SchemaWhy.{SchemaWhy}
use Rattle.ds_schema.specs.declared.schema_text.fault.SchemaWhy.TheVariants.{Count}
use Rattle.ds_schema.specs.SchemaReading.{name_at, field_at, separator_at, fields_at}

full : (n : ℕ) (fields : List Field) (ts : List Lexeme) → n ≡ 0 → fields_at n fields ts ≡ (name_at fields ts >>= λ w. refuse w.0 Count)
unfolding fields_at
full zero fields ts h = refl
full (suc n) fields ts h = absurd (omega arith)

pub fields_no_name : (n : ℕ) (fields : List Field) (ts : List Lexeme) (e : Refusal SchemaWhy) → n ≡ 0 → name_at fields ts ≡ Err e → fields_at n fields ts ≡ Err e
fields_no_name n fields ts e h f = full n fields ts h ∙ ap (λ o. o >>= λ w. refuse w.0 Count) f

pub fields_full : (n : ℕ) (fields : List Field) (ts r : List Lexeme) (w : Lexeme) → n ≡ 0 → name_at fields ts ≡ Ok (w, r) → fields_at n fields ts ≡ refuse w Count
fields_full n fields ts r w h e = full n fields ts h ∙ ap (λ o. o >>= λ w. refuse w.0 Count) e

more : (n : ℕ) (fields : List Field) (ts : List Lexeme) → n ≢ 0 → fields_at n fields ts ≡ (field_at fields ts >>= λ f. separator_at f.1 >>= λ s. if s.0 then fields_at (n - 1) (fields ++ f.0 ∷ []) s.1 else Ok (fields ++ f.0 ∷ [], s.1))
unfolding fields_at
more zero fields ts h = absurd (h refl)
more (suc n) fields ts h = let e : suc n - 1 ≡ n = omega arith in rw e refl

pub fields_fail : (n : ℕ) (fields : List Field) (ts : List Lexeme) (e : Stop SchemaWhy) → n ≢ 0 → Fails e (field_at fields ts) → Fails e (fields_at n fields ts)
fields_fail n fields ts e h f = rw (more n fields ts h) (fails_bind e (field_at fields ts) _ f)

pub fields_no_separator : (n : ℕ) (fields : List Field) (ts r : List Lexeme) (f : Field) (e : Refusal SchemaWhy) → n ≢ 0 → field_at fields ts ≡ Ok (f, r) → separator_at r ≡ Err e → fields_at n fields ts ≡ Err e
fields_no_separator n fields ts r f e h a b = rw (more n fields ts h, a, b) refl

pub fields_last : (n : ℕ) (fields : List Field) (ts r s : List Lexeme) (f : Field) → n ≢ 0 → field_at fields ts ≡ Ok (f, r) → separator_at r ≡ Ok (false, s) → fields_at n fields ts ≡ Ok (fields ++ f ∷ [], s)
fields_last n fields ts r s f h a b = rw (more n fields ts h, a, b) refl

pub fields_next : (n : ℕ) (fields : List Field) (ts r s : List Lexeme) (f : Field) → n ≢ 0 → field_at fields ts ≡ Ok (f, r) → separator_at r ≡ Ok (true, s) → fields_at n fields ts ≡ fields_at (n - 1) (fields ++ f ∷ []) s
fields_next n fields ts r s f h a b = rw (more n fields ts h, a, b) refl
