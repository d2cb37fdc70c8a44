-- Methods, marks and redirects: each is read by the tokens up to the next one alone.
use Rattle.std.proofs.Common.{◌≡◌, ◌<◌, inl, inr, ℕ, List, [], ◌∷◌, ◌++◌, length, Bool, true, false, Ok, Err, Option, Some, None, refl, sym, ap, ◌∙◌, subst, arith}
use Rattle.std.specs.Prelude.{codes, if◌then◌else◌}
use Rattle.std.specs.Str.{bytes_eq}
use Rattle.ds_lex.specs.declared.token.Sort.TheVariants as sort
use Rattle.ds_lex.specs.declared.refusal.Refusal.TheVariants as refusal
use Rattle.ds_lex.specs.Lexemes.{Lexeme}
use Rattle.ds_lex.specs.Phrases.{word}
use Rattle.ds_lex.specs.Reading.{◌>>=◌, is_sort, sort_at, expect_at, token_at, accept_at}
use Rattle.ds_lex.proofs.Readers.{bind, same_bytes}
use Rattle.ds_schema.specs.ColumnReading.{name_at, names_at, keys_at}
use Rattle.flow_graph.specs.declared.flow.Method.{Method}
use Rattle.flow_graph.specs.declared.flow.Method.TheVariants as method
use Rattle.flow_graph.specs.declared.flow.Flag.{Flag}
use Rattle.flow_graph.specs.declared.flow.Flag.TheVariants as flag
use Rattle.flow_graph.specs.declared.flow.Mark.{Mark}
use Rattle.flow_graph.specs.declared.flow.Mark.TheVariants as mark
use Rattle.osh_table.specs.declared.operator.OpName.{OpName}
use Rattle.osh_read.specs.declared.fault.OshWhy.{OshWhy}
use Rattle.osh_read.specs.declared.fault.OshWhy.TheVariants as causes
use Rattle.osh_read.specs.declared.stage.Redirect.{Redirect}
use Rattle.osh_read.specs.declared.stage.Redirect.TheVariants as redirect
use Rattle.osh_read.specs.Reading.{Read, sign_at, append, if_comes}
use Rattle.osh_read.specs.Methods.{flag_named, method_named, method_of, kind_at, prop_at, clear_at, flag_at, closed_at, behind_at, bracket_at, method_at}
use Rattle.osh_read.specs.Stages.{plain_mark, bears, mark_named, marked_at, mark_at, input_at, output_at, maybe_output_at, redirect_at, redirects_at}
use Rattle.osh_sound.proofs.Fronts.{one_of, sign_came, sign_missed}
use Rattle.osh_sound.specs.Grammar.{mark_word}
use Rattle.osh_first.specs.Places.{IsNext}
use Rattle.osh_first.proofs.Local.{Reads, Place, Act, done, Outcome, IsLocal, Fewer, some_first, answer_is, no_answer, end_by, leave_by, one_local, gives_local, bind_local, same_local, all_local, fewer_by, anywhere, Placing, then_with, stuck_first}
use Rattle.osh_first.proofs.Lists.{accept, accept_local, come, come_local, expect_local, sort_local, name_local, names_local, keys_local, either_at, either_local, by_choice}

-- ---- flags

-- this flag where its word comes, else what is read otherwise
abbrev flag_or : Flag → Reads Flag → Bool → Reads Flag
flag_or f other = either_at (λ ts. Ok (f, ts)) other

abbrev prop_flag : Reads Flag
prop_flag = bind (accept (codes "prop")) (λ b ts. Ok (flag.Prop, ts))

abbrev clear_flag : Reads Flag
clear_flag = bind (accept (codes "clear")) (flag_or flag.Clear prop_flag)

abbrev set_flag : Reads Flag
set_flag = bind (accept (codes "set")) (flag_or flag.Set clear_flag)

clear_by : (p : Bool × List Lexeme) → (let r : Read Flag = Ok (if p.0 then (flag.Clear, p.1) else prop_at p.1) in r) ≡ flag_or flag.Clear prop_flag p.0 p.1
clear_by (true, ts) = refl
clear_by (false, ts) = refl

set_by : (p : Bool × List Lexeme) → (let r : Read Flag = Ok (if p.0 then (flag.Set, p.1) else clear_at p.1) in r) ≡ flag_or flag.Set clear_flag p.0 p.1
set_by (true, ts) = refl
set_by (false, ts) = clear_by (accept_at (codes "clear") ts)

abbrev some_flag : Reads Flag
some_flag ts = Ok (flag_at ts)

flag_parts : (ts : List Lexeme) → some_flag ts ≡ set_flag ts
unfolding flag_at
flag_parts ts = set_by (accept_at (codes "set") ts)

or_local : (places : Placing) (f : Flag) (other : Reads Flag) → IsLocal places other other → (b : Bool) → IsLocal places (flag_or f other b) (flag_or f other b)
or_local places f other local = either_local places (λ ts. Ok (f, ts)) other (λ ts. Ok (f, ts)) other (gives_local places f) local

prop_local : (places : Placing) → IsLocal places prop_flag prop_flag
prop_local places = bind_local places (accept (codes "prop")) (accept (codes "prop")) (λ b ts. Ok (flag.Prop, ts)) (λ b ts. Ok (flag.Prop, ts)) (accept_local places (codes "prop")) (λ b. gives_local places flag.Prop)

clear_local : (places : Placing) → IsLocal places clear_flag clear_flag
clear_local places = bind_local places (accept (codes "clear")) (accept (codes "clear")) (flag_or flag.Clear prop_flag) (flag_or flag.Clear prop_flag) (accept_local places (codes "clear")) (or_local places flag.Clear prop_flag (prop_local places))

flag_local : (places : Placing) → IsLocal places some_flag some_flag
flag_local places =
    same_local places set_flag set_flag some_flag some_flag flag_parts flag_parts
    (bind_local places (accept (codes "set")) (accept (codes "set")) (flag_or flag.Set clear_flag) (flag_or flag.Set clear_flag) (accept_local places (codes "set")) (or_local places flag.Set clear_flag (clear_local places)))

-- ---- methods

closed_local : (places : Placing) (m : Method) (f : Flag) → IsLocal places (closed_at m f) (closed_at m f)
unfolding closed_at
closed_local places m f = bind_local places (expect_at (codes "]") causes.Syntax) (expect_at (codes "]") causes.Syntax) (λ c ts. Ok ((m, f), ts)) (λ c ts. Ok ((m, f), ts)) (expect_local places (codes "]")) (λ c. gives_local places (m, f))

-- behind the kind of a method
abbrev flagged : Method → Reads (Method × Flag)
flagged m = bind some_flag (closed_at m)

flagged_local : (places : Placing) (m : Method) → IsLocal places (flagged m) (flagged m)
flagged_local places m = bind_local places some_flag some_flag (closed_at m) (closed_at m) (flag_local places) (closed_local places m)

-- what the first word of a method says
data First : Type 0 where
  Flagged : Flag → First
  Hash : First
  Modulus : First
  Merge : First
  Plain : Method → First

abbrev plain_first : Option Method → Act First
plain_first None = Act.Refuse
plain_first (Some m) = Act.Take (First.Plain m)

abbrev kind_first : Bool → Bool → Bool → Option Method → Act First
kind_first hash modulus merge m = if hash then Act.Take First.Hash else if modulus then Act.Take First.Modulus else if merge then Act.Take First.Merge else plain_first m

abbrev first_act : Option Flag → Bool → Bool → Bool → Option Method → Act First
first_act (Some f) hash modulus merge m = Act.Take (First.Flagged f)
first_act None hash modulus merge m = kind_first hash modulus merge m

abbrev word_act : Lexeme → Act First
word_act t = if is_sort sort.Word t.sort then first_act (flag_named t.bytes) (bytes_eq t.bytes (codes "hash")) (bytes_eq t.bytes (codes "modulus")) (bytes_eq t.bytes (codes "merge")) (method_named t.bytes) else Act.Refuse

abbrev first_at : Reads First
first_at [] = Err refusal.AtEnd
first_at (t ∷ ts) = done (word_act t) t ts

abbrev behind_first : First → Reads (Method × Flag)
behind_first (First.Flagged f) = closed_at method.Auto f
behind_first First.Hash = bind (names_at causes.Syntax) (λ n. flagged (method.Hash n))
behind_first First.Modulus = bind (name_at causes.Syntax) (λ n. flagged (method.Modulus n))
behind_first First.Merge = bind (keys_at causes.Syntax) (λ k. flagged (method.Merge k))
behind_first (First.Plain m) = flagged m

behind_local : (places : Placing) (f : First) → IsLocal places (behind_first f) (behind_first f)
behind_local places (First.Flagged f) = closed_local places method.Auto f
behind_local places First.Hash = bind_local places (names_at causes.Syntax) (names_at causes.Syntax) (λ n. flagged (method.Hash n)) (λ n. flagged (method.Hash n)) (names_local places) (λ n. flagged_local places (method.Hash n))
behind_local places First.Modulus = bind_local places (name_at causes.Syntax) (name_at causes.Syntax) (λ n. flagged (method.Modulus n)) (λ n. flagged (method.Modulus n)) (name_local places) (λ n. flagged_local places (method.Modulus n))
behind_local places First.Merge = bind_local places (keys_at causes.Syntax) (keys_at causes.Syntax) (λ k. flagged (method.Merge k)) (λ k. flagged (method.Merge k)) (keys_local places) (λ k. flagged_local places (method.Merge k))
behind_local places (First.Plain m) = flagged_local places m

first_local : (places : Placing) → IsLocal places first_at first_at
first_local places = one_local places first_at None word_act refl (λ t ts. refl)

-- the kind, and then its flag
abbrev with_flag : Method × List Lexeme → Read (Method × Flag)
with_flag m = closed_at m.0 (flag_at m.1).0 (flag_at m.1).1

abbrev as_method : {A : Type 0} → (A → Method) → A × List Lexeme → Read Method
as_method make a = Ok (make a.0, a.1)

kind_with : {A : Type 0} (make : A → Method) (v : Read A) → ((v >>= as_method make) >>= with_flag) ≡ (v >>= λ a. flagged (make a.0) a.1)
kind_with make (Ok a) = refl
kind_with make (Err e) = refl

plain_with : (t : Lexeme) (ts : List Lexeme) (m : Option Method) → (method_of t ts m >>= with_flag) ≡ (done (plain_first m) t ts >>= λ f. behind_first f.0 f.1)
plain_with t ts None = refl
plain_with t ts (Some m) = refl

kind_parts : (t : Lexeme) (ts : List Lexeme) (a b c : Bool) → bytes_eq t.bytes (codes "hash") ≡ a → bytes_eq t.bytes (codes "modulus") ≡ b → bytes_eq t.bytes (codes "merge") ≡ c → (kind_at t ts >>= with_flag) ≡ (done (kind_first a b c (method_named t.bytes)) t ts >>= λ f. behind_first f.0 f.1)
unfolding kind_at
kind_parts t ts true b c e f g = rw e (kind_with method.Hash (names_at causes.Syntax ts))
kind_parts t ts false true c e f g = rw (e, f) (kind_with method.Modulus (name_at causes.Syntax ts))
kind_parts t ts false false true e f g = rw (e, f, g) (kind_with method.Merge (keys_at causes.Syntax ts))
kind_parts t ts false false false e f g = rw (e, f, g) (plain_with t ts (method_named t.bytes))

word_parts : (t : Lexeme) (ts : List Lexeme) (o : Option Flag) → behind_at o t ts ≡ (done (first_act o (bytes_eq t.bytes (codes "hash")) (bytes_eq t.bytes (codes "modulus")) (bytes_eq t.bytes (codes "merge")) (method_named t.bytes)) t ts >>= λ f. behind_first f.0 f.1)
unfolding behind_at
word_parts t ts (Some f) = refl
word_parts t ts None = kind_parts t ts (bytes_eq t.bytes (codes "hash")) (bytes_eq t.bytes (codes "modulus")) (bytes_eq t.bytes (codes "merge")) refl refl refl

token_parts : (t : Lexeme) (ts : List Lexeme) (b : Bool) → is_sort sort.Word t.sort ≡ b → bracket_at (t ∷ ts) ≡ bind first_at behind_first (t ∷ ts)
unfolding bracket_at sort_at
token_parts t ts true e = rw e (word_parts t ts (flag_named t.bytes))
token_parts t ts false e = rw e refl

bracket_parts : (ts : List Lexeme) → bracket_at ts ≡ bind first_at behind_first ts
unfolding bracket_at sort_at
bracket_parts [] = refl
bracket_parts (t ∷ ts) = token_parts t ts (is_sort sort.Word t.sort) refl

bracket_local : (places : Placing) → IsLocal places bracket_at bracket_at
bracket_local places = same_local places (bind first_at behind_first) (bind first_at behind_first) bracket_at bracket_at bracket_parts bracket_parts (bind_local places first_at first_at behind_first behind_first (first_local places) (behind_local places))

abbrev no_method : Reads (Method × Flag)
no_method ts = Ok ((method.Auto, flag.Prop), ts)

method_parts : (ts : List Lexeme) → method_at ts ≡ bind (accept (codes "[")) (either_at bracket_at no_method) ts
unfolding method_at
method_parts ts = by_choice bracket_at no_method (accept_at (codes "[") ts)

pub method_local : (places : Placing) → IsLocal places method_at method_at
method_local places =
    same_local places (bind (accept (codes "[")) (either_at bracket_at no_method)) (bind (accept (codes "[")) (either_at bracket_at no_method)) method_at method_at method_parts method_parts
    (bind_local places (accept (codes "[")) (accept (codes "[")) (either_at bracket_at no_method) (either_at bracket_at no_method) (accept_local places (codes "["))
    (either_local places bracket_at no_method bracket_at no_method (bracket_local places) (gives_local places (method.Auto, flag.Prop))))

-- ---- redirects

input_local : (places : Placing) (at : ℕ) → IsLocal places (input_at at) (input_at at)
unfolding input_at
input_local places at =
    bind_local places method_at method_at _ _ (method_local places)
    (λ m. bind_local places (sort_at sort.Word causes.Syntax) (sort_at sort.Word causes.Syntax) _ _ (sort_local places sort.Word) (λ w. gives_local places (Some (redirect.In at w.bytes m.0 m.1))))

output_local : (places : Placing) (at : ℕ) → IsLocal places (output_at at) (output_at at)
unfolding output_at
output_local places at = bind_local places (sort_at sort.Word causes.Syntax) (sort_at sort.Word causes.Syntax) _ _ (sort_local places sort.Word) (λ w. gives_local places (Some (redirect.Out at w.bytes)))

-- what is read behind a sign, where it comes, or else
abbrev behind_sign : (ℕ → Reads (Option Redirect)) → Reads (Option Redirect) → Option Lexeme → Reads (Option Redirect)
behind_sign one other None = other
behind_sign one other (Some t) = one t.at

by_sign : (one : ℕ → Reads (Option Redirect)) (other : Reads (Option Redirect)) (p : Option Lexeme × List Lexeme) → if_comes p.0 (λ t. one t.at p.1) (other p.1) ≡ behind_sign one other p.0 p.1
by_sign one other (None, ts) = refl
by_sign one other (Some t, ts) = refl

abbrev none_redirected : Reads (Option Redirect)
none_redirected ts = Ok (None, ts)

sign_local : (places : Placing) (one : ℕ → Reads (Option Redirect)) (other : Reads (Option Redirect)) → ((at : ℕ) → IsLocal places (one at) (one at)) → IsLocal places other other → (o : Option Lexeme) → IsLocal places (behind_sign one other o) (behind_sign one other o)
sign_local places one other a b None = b
sign_local places one other a b (Some t) = a t.at

maybe_parts : (ts : List Lexeme) → maybe_output_at ts ≡ bind (come (codes ">")) (behind_sign output_at none_redirected) ts
maybe_parts ts = by_sign output_at none_redirected (sign_at (codes ">") ts)

maybe_local : (places : Placing) → IsLocal places maybe_output_at maybe_output_at
maybe_local places =
    same_local places (bind (come (codes ">")) (behind_sign output_at none_redirected)) (bind (come (codes ">")) (behind_sign output_at none_redirected)) maybe_output_at maybe_output_at maybe_parts maybe_parts
    (bind_local places (come (codes ">")) (come (codes ">")) (behind_sign output_at none_redirected) (behind_sign output_at none_redirected) (come_local places (codes ">")) (sign_local places output_at none_redirected (output_local places) (gives_local places None)))

redirect_parts : (ts : List Lexeme) → redirect_at ts ≡ bind (come (codes "<")) (behind_sign input_at maybe_output_at) ts
redirect_parts ts = by_sign input_at maybe_output_at (sign_at (codes "<") ts)

redirect_local : (places : Placing) → IsLocal places redirect_at redirect_at
redirect_local places =
    same_local places (bind (come (codes "<")) (behind_sign input_at maybe_output_at)) (bind (come (codes "<")) (behind_sign input_at maybe_output_at)) redirect_at redirect_at redirect_parts redirect_parts
    (bind_local places (come (codes "<")) (come (codes "<")) (behind_sign input_at maybe_output_at) (behind_sign input_at maybe_output_at) (come_local places (codes "<")) (sign_local places input_at maybe_output_at (input_local places) (maybe_local places)))

fewer_behind : (ts us : List Lexeme) (t : Lexeme) → ts ≡ t ∷ us → length us < length ts
fewer_behind ts us t e = let k = ap length e in omega arith

maybe_by : (ts : List Lexeme) (p : Option Lexeme × List Lexeme) → sign_at (codes ">") ts ≡ p → Fewer ts (if_comes p.0 (λ t. output_at t.at p.1) (Ok (None, p.1)))
maybe_by ts (None, us) e = tt
maybe_by ts (Some t, us) e = fewer_by anywhere.Is (output_at t.at) ts us (fewer_behind ts us t (sign_came (codes ">") ts us t e).0) (output_at t.at us) (output_local anywhere t.at us)

redirect_by : (ts : List Lexeme) (p : Option Lexeme × List Lexeme) → sign_at (codes "<") ts ≡ p → Fewer ts (if_comes p.0 (λ t. input_at t.at p.1) (maybe_output_at p.1))
redirect_by ts (None, us) e = subst (λ (xs : List Lexeme). Fewer ts (maybe_output_at xs)) (sym (sign_missed (codes "<") ts us e)) (maybe_by ts (sign_at (codes ">") ts) refl)
redirect_by ts (Some t, us) e = fewer_by anywhere.Is (input_at t.at) ts us (fewer_behind ts us t (sign_came (codes "<") ts us t e).0) (input_at t.at us) (input_local anywhere t.at us)

redirect_end : redirect_at [] ≡ Ok (None, [])
unfolding sign_at
redirect_end = refl

pub redirects_local : (places : Placing) → IsLocal places redirects_at redirects_at
redirects_local places = all_local places (λ found. redirect_at) (λ found. redirect_at) append (λ found. redirect_end) (λ found. redirect_local places) (λ found ts. redirect_by ts (sign_at (codes "<") ts) refl) []

-- ---- marks

marked : (o : OpName) (t : Lexeme) (us : List Lexeme) → bytes_eq t.bytes (codes "[") ≡ true → mark_at o (t ∷ us) ≡ marked_at o t us
unfolding sign_at
marked o t us e = rw e refl

unmarked : (o : OpName) (t : Lexeme) (us : List Lexeme) → bytes_eq t.bytes (codes "[") ≡ false → mark_at o (t ∷ us) ≡ Ok (plain_mark o, t ∷ us)
unfolding sign_at
unmarked o t us e = rw e refl

no_mark : (o : OpName) → mark_at o [] ≡ Ok (plain_mark o, [])
unfolding sign_at
no_mark o = refl

bracket_last : (o : OpName) (t : Lexeme) → marked_at o t [] ≡ Err refusal.AtEnd
unfolding marked_at token_at
bracket_last o t = refl

no_name : (o : OpName) (t w : Lexeme) (us : List Lexeme) → mark_named w.bytes ≡ None → marked_at o t (w ∷ us) ≡ Err (refusal.At w.at causes.Syntax)
unfolding marked_at token_at
no_name o t w us e = rw e refl

name_last : (o : OpName) (t w : Lexeme) (m : Mark) → mark_named w.bytes ≡ Some m → marked_at o t (w ∷ []) ≡ Err refusal.AtEnd
unfolding marked_at token_at expect_at
name_last o t w m e = rw e refl

unclosed : (o : OpName) (t w c : Lexeme) (us : List Lexeme) (m : Mark) → mark_named w.bytes ≡ Some m → bytes_eq c.bytes (codes "]") ≡ false → marked_at o t (w ∷ c ∷ us) ≡ Err (refusal.At c.at causes.Syntax)
unfolding marked_at token_at expect_at
unclosed o t w c us m e f = rw (e, f) refl

borne : (o : OpName) (t w c : Lexeme) (us : List Lexeme) (m : Mark) → mark_named w.bytes ≡ Some m → bytes_eq c.bytes (codes "]") ≡ true → bears (plain_mark o) m ≡ true → marked_at o t (w ∷ c ∷ us) ≡ Ok (m, us)
unfolding marked_at token_at expect_at
borne o t w c us m e f g = rw (e, f, g) refl

unborne : (o : OpName) (t w c : Lexeme) (us : List Lexeme) (m : Mark) → mark_named w.bytes ≡ Some m → bytes_eq c.bytes (codes "]") ≡ true → bears (plain_mark o) m ≡ false → marked_at o t (w ∷ c ∷ us) ≡ Err (refusal.At t.at causes.Constraint)
unfolding marked_at token_at expect_at
unborne o t w c us m e f g = rw (e, f, g) refl

name_word : (bytes : List ℕ) (m : Mark) (t : Lexeme) (ts : List Lexeme) → t.bytes ≡ bytes → mark_named bytes ≡ Some m → mark_word m (t ∷ ts) ts
name_word bytes m t ts same h =
    elim (one_of (bytes_eq bytes (codes "seq")) mark.Seq m _ h) [
      | inl a ↦ subst (λ (x : Mark). mark_word x (t ∷ ts) ts) a.1 (same ∙ same_bytes bytes (codes "seq") a.0, refl)
      | inr b ↦ elim (one_of (bytes_eq bytes (codes "par")) mark.Par m None b) [
        | inl a ↦ subst (λ (x : Mark). mark_word x (t ∷ ts) ts) a.1 (same ∙ same_bytes bytes (codes "par") a.0, refl)
        | inr c ↦ absurd cc
      ]
    ]

-- no rule goes on with the next token
abbrev pub SyntaxFails : Place
SyntaxFails at causes.Syntax front left = IsNext at (λ t ts. Unit {0}) left
SyntaxFails at other front left = ⊥

pub syntax_shift : (at : ℕ) (why : OshWhy) (pre front left : List Lexeme) → SyntaxFails at why front left → SyntaxFails at why (pre ++ front) left
syntax_shift at causes.Syntax pre front left p = p
syntax_shift at other pre front left p = absurd p

abbrev pub syntax_places : Placing
syntax_places = record { Is = SyntaxFails; shift = syntax_shift; syntax = λ t ts. (refl, tt) }

-- a mark that the operator can't have, at the front; the bracket that closes it is the next token
pub record MarkUnborne (op : OpName) (at : ℕ) (front left : List Lexeme) : Type 0 where
  pub bracket : Lexeme
  pub name : Lexeme
  pub parts : front ≡ bracket ∷ name ∷ []
  pub opens : bracket.bytes ≡ codes "["
  pub mark : Mark
  pub says : mark_word mark (name ∷ left) left
  pub closes : (rest : List Lexeme) × word (codes "]") left rest
  pub unborne : bears (plain_mark op) mark ≡ false
  pub place : at ≡ bracket.at

abbrev pub MarkFails : OpName → Place
MarkFails op at causes.Syntax front left = IsNext at (λ t ts. Unit {0}) left
MarkFails op at causes.Constraint front left = MarkUnborne op at front left
MarkFails op at other front left = ⊥

bears_by : (o : OpName) (t w c : Lexeme) (us : List Lexeme) (m : Mark) (b : Bool) → bytes_eq t.bytes (codes "[") ≡ true → mark_named w.bytes ≡ Some m → bytes_eq c.bytes (codes "]") ≡ true → bears (plain_mark o) m ≡ b → Outcome (MarkFails o) (mark_at o) (t ∷ w ∷ c ∷ us) (marked_at o t (w ∷ c ∷ us))
bears_by o t w c us m true d e f g =
    rw (borne o t w c us m e f g) (record { front = t ∷ w ∷ c ∷ []; parts = refl; again = λ more p h k. answer_is (mark_at o (t ∷ w ∷ c ∷ more)) (m, more) p (marked o t (w ∷ c ∷ more) d ∙ borne o t w c more m e f g) k })
bears_by o t w c us m false d e f g =
    rw (unborne o t w c us m e f g) (record {
      front = t ∷ w ∷ [];
      left = c ∷ us;
      parts = refl;
      never = λ more p h k. (let some = some_first more c h in no_answer (mark_at o (t ∷ w ∷ more)) (refusal.At t.at causes.Constraint) p (ap (λ (xs : List Lexeme). mark_at o (t ∷ w ∷ xs)) some.1 ∙ (marked o t (w ∷ c ∷ some.0) d ∙ unborne o t w c some.0 m e f g)) k);
      place = record { bracket = t; name = w; parts = refl; opens = same_bytes t.bytes (codes "[") d; mark = m; says = name_word w.bytes m w (c ∷ us) refl e; closes = (us, (same_bytes c.bytes (codes "]") f, refl)); unborne = g; place = refl };
    })

close_by : (o : OpName) (t w c : Lexeme) (us : List Lexeme) (m : Mark) (b : Bool) → bytes_eq t.bytes (codes "[") ≡ true → mark_named w.bytes ≡ Some m → bytes_eq c.bytes (codes "]") ≡ b → Outcome (MarkFails o) (mark_at o) (t ∷ w ∷ c ∷ us) (marked_at o t (w ∷ c ∷ us))
close_by o t w c us m true d e f = bears_by o t w c us m (bears (plain_mark o) m) d e f refl
close_by o t w c us m false d e f =
    rw (unclosed o t w c us m e f) (record {
      front = t ∷ w ∷ [];
      left = c ∷ us;
      parts = refl;
      never = λ more p h k. (let some = some_first more c h in no_answer (mark_at o (t ∷ w ∷ more)) (refusal.At c.at causes.Syntax) p (ap (λ (xs : List Lexeme). mark_at o (t ∷ w ∷ xs)) some.1 ∙ (marked o t (w ∷ c ∷ some.0) d ∙ unclosed o t w c some.0 m e f)) k);
      place = (refl, tt);
    })

name_by : (o : OpName) (t w : Lexeme) (us : List Lexeme) (m : Option Mark) → bytes_eq t.bytes (codes "[") ≡ true → mark_named w.bytes ≡ m → Outcome (MarkFails o) (mark_at o) (t ∷ w ∷ us) (marked_at o t (w ∷ us))
name_by o t w us None d e =
    rw (no_name o t w us e) (record {
      front = t ∷ [];
      left = w ∷ us;
      parts = refl;
      never = λ more p h k. (let some = some_first more w h in no_answer (mark_at o (t ∷ more)) (refusal.At w.at causes.Syntax) p (ap (λ (xs : List Lexeme). mark_at o (t ∷ xs)) some.1 ∙ (marked o t (w ∷ some.0) d ∙ no_name o t w some.0 e)) k);
      place = (refl, tt);
    })
name_by o t w [] (Some m) d e = rw (name_last o t w m e) tt
name_by o t w (c ∷ us) (Some m) d e = close_by o t w c us m (bytes_eq c.bytes (codes "]")) d e refl

mark_by : (o : OpName) (t : Lexeme) (us : List Lexeme) (b : Bool) → bytes_eq t.bytes (codes "[") ≡ b → Outcome (MarkFails o) (mark_at o) (t ∷ us) (mark_at o (t ∷ us))
mark_by o t us false d = rw (unmarked o t us d) (leave_by (mark_at o) t us (plain_mark o) (λ more. unmarked o t more d))
mark_by o t [] true d = rw (marked o t [] d, bracket_last o t) tt
mark_by o t (w ∷ us) true d = rw (marked o t (w ∷ us) d) (name_by o t w us (mark_named w.bytes) d refl)

pub mark_local : (o : OpName) (ts : List Lexeme) → Outcome (MarkFails o) (mark_at o) ts (mark_at o ts)
mark_local o [] = rw (no_mark o) (end_by (MarkFails o) (mark_at o) (Some (plain_mark o)) (no_mark o))
mark_local o (t ∷ us) = mark_by o t us (bytes_eq t.bytes (codes "[")) refl

syntax_behind : (o : OpName) (at : ℕ) (why : OshWhy) (pre front left : List Lexeme) → SyntaxFails at why front left → MarkFails o at why (pre ++ front) left
syntax_behind o at causes.Syntax pre front left p = p
syntax_behind o at other pre front left p = absurd p

-- a mark, and behind it what no other cause than syntax comes of
pub mark_then : {X : Type 0} (o : OpName) (g : Mark → Reads X) → ((m : Mark) → IsLocal syntax_places (g m) (g m)) → (us : List Lexeme) (v : Read Mark) → Outcome (MarkFails o) (mark_at o) us v → Outcome (MarkFails o) (bind (mark_at o) g) us (v >>= λ p. g p.0 p.1)
mark_then o g locals us (Ok p) a = then_with SyntaxFails (MarkFails o) (mark_at o) g us p.0 p.1 a (λ at why front left e x. syntax_behind o at why a.front front left x) (g p.0 p.1) (locals p.0 p.1)
mark_then o g locals us (Err refusal.AtEnd) a = tt
mark_then o g locals us (Err (refusal.At at why)) a = stuck_first (MarkFails o) (mark_at o) g us at why a
