-- Operators with their options: where reading them stops nothing is read, whatever follows. A text that is cut off behind its
-- tokens is read as one that isn't, but that fewer faults come.
use Rattle.std.proofs.Common.{◌≡◌, inl, inr, ℕ, List, [], ◌∷◌, ◌++◌, length, Bool, true, false, Ok, Err, Option, Some, None, refl, sym, ap, ◌∙◌, subst, append_assoc, arith, length-append}
use Rattle.std.specs.Prelude.{nat_le, not, ◌&&◌, ◌||◌}
use Rattle.std.specs.List.{list_any, list_all, AllByRecursion}
use Rattle.std.specs.Str.{bytes_eq}
use Rattle.std.specs.Cmp.{first_so, second_so}
use Rattle.std.proofs.lemmas.Bool.{not-true, or_cases}
use Rattle.ds_lex.specs.declared.token.Sort.TheVariants as sort
use Rattle.ds_lex.specs.declared.refusal.Refusal.TheVariants as refusal
use Rattle.ds_lex.specs.Lexemes.{Lexeme}
use Rattle.ds_lex.specs.Reading.{◌>>=◌, is_sort, sort_at, first_of}
use Rattle.ds_lex.proofs.Readers.{bind, bind_ok, same_sort, bytes_same}
use Rattle.ds_schema.proofs.ListReaders.{ok_parts}
use Rattle.flow_graph.specs.declared.op_kind.OpKind.{OpKind}
use Rattle.osh_table.specs.declared.operator.OpName.{OpName}
use Rattle.osh_table.specs.declared.option.OptRow.{OptRow}
use Rattle.osh_table.specs.Words.{operator_named, option_word}
use Rattle.osh_table.specs.Options.{options_of}
use Rattle.osh_value.specs.declared.setting.Setting.{Setting}
use Rattle.osh_value.specs.Kinds.{kind_of}
use Rattle.osh_read.specs.declared.fault.OshWhy.{OshWhy}
use Rattle.osh_read.specs.declared.fault.OshWhy.TheVariants as causes
use Rattle.osh_read.specs.Reading.{Read}
use Rattle.osh_read.specs.Options.{is_opt, is_value, settings_at, stands_ahead, ends_ahead, is_absent, is_lacking, needs_any, lacks_option, is_missing, operator_of, complete, head_at}
use Rattle.osh_sound.proofs.OptionsHold.{passed_test}
use Rattle.osh_sound.proofs.Fronts.{pair_parts, sort_taken}
use Rattle.osh_first.specs.Places.{Goes, IsOption, IsAbsent, LacksOne, Lacks, StageFails, behind_options}
use Rattle.osh_first.proofs.Local.{Reads, Outcome, some_first, none_first, no_answer, went_gives, stuck_first}
use Rattle.osh_first.proofs.Options.{OptionsFail, AreSaid, behind_token, settings_local, settings_said}

-- ---- options that an operator must have

-- the options at the front, and what is left behind them
record Ahead (may : Bool) (ts : List Lexeme) : Type 0 where
  options : List Lexeme
  left : List Lexeme
  parts : ts ≡ options ++ left
  all : behind_options may (options ++ left) ≡ left
  same : (word : List ℕ) (more : List Lexeme) → first_of more ≡ first_of left → stands_ahead may word (options ++ more) ≡ stands_ahead may word ts
  ends : left ≡ [] → ends_ahead may ts ≡ true

ahead_by : (may : Bool) (t : Lexeme) (ts : List Lexeme) (a b : Bool) → is_opt t.sort ≡ a → (may && is_value t.sort) ≡ b → Ahead true ts → Ahead false ts → Ahead may (t ∷ ts)
ahead_by may t ts true b e f r s = record {
  options = t ∷ r.options;
  left = r.left;
  parts = ap (λ (xs : List Lexeme). t ∷ xs) r.parts;
  all = rw e r.all;
  same = λ word more h. rw e (ap (λ x. bytes_eq t.bytes word || x) (r.same word more h));
  ends = λ n. rw e (r.ends n);
}
ahead_by may t ts false true e f r s = record {
  options = t ∷ s.options;
  left = s.left;
  parts = ap (λ (xs : List Lexeme). t ∷ xs) s.parts;
  all = rw (e, f) s.all;
  same = λ word more h. rw (e, f) (s.same word more h);
  ends = λ n. rw (e, f) (s.ends n);
}
ahead_by may t ts false false e f r s = record {
  options = [];
  left = t ∷ ts;
  parts = refl;
  all = rw (e, f) refl;
  same = λ word more h. (let some = some_first more t h in ap (stands_ahead may word) some.1 ∙ rw (e, f) refl);
  ends = λ n. absurd cc;
}

ahead : (may : Bool) (ts : List Lexeme) → Ahead may ts
ahead may [] = record { options = []; left = []; parts = refl; all = refl; same = λ word more h. ap (stands_ahead may word) (none_first more h); ends = λ n. refl }
ahead may (t ∷ ts) = ahead_by may t ts (is_opt t.sort) (may && is_value t.sort) refl refl (ahead true ts) (ahead false ts)

-- what isn't seen among the options at the front isn't there
not_either : (a b : Bool) → (a || b) ≡ false → (a ≡ false) × (b ≡ false)
not_either true b h = absurd cc
not_either false b h = (refl, h)

never_shorter : (t : Lexeme) (front left : List Lexeme) → t ∷ (front ++ left) ≡ left → ⊥
never_shorter t front left e = let k = ap length e in let l = length-append front left in absurd (omega arith)

absent_by : (may : Bool) (word : List ℕ) (t : Lexeme) (options left : List Lexeme) (a b : Bool) → is_opt t.sort ≡ a → (may && is_value t.sort) ≡ b
    → ((m : Bool) → behind_options m (options ++ left) ≡ left → stands_ahead m word (options ++ left) ≡ false → AllByRecursion (λ (o : Lexeme). o.sort ≡ sort.Opt → o.bytes ≡ word → ⊥) options)
    → behind_options may (t ∷ (options ++ left)) ≡ left → stands_ahead may word (t ∷ (options ++ left)) ≡ false → AllByRecursion (λ (o : Lexeme). o.sort ≡ sort.Opt → o.bytes ≡ word → ⊥) (t ∷ options)
absent_by may word t options left true b e f others h k =
    let seen : (bytes_eq t.bytes word || stands_ahead true word (options ++ left)) ≡ false = rw e at k in
    let n = not_either (bytes_eq t.bytes word) (stands_ahead true word (options ++ left)) seen in
    ((λ s same. (let y = bytes_same t.bytes word same in let z : true ≡ false = sym y ∙ n.0 in absurd cc)), others true (rw e at h) n.1)
absent_by may word t options left false true e f others h k =
    ((λ s same. (let y : is_opt t.sort ≡ true = rw s refl in let z : true ≡ false = sym y ∙ e in absurd cc)), others false (rw (e, f) at h) (rw (e, f) at k))
absent_by may word t options left false false e f others h k = absurd (never_shorter t options left (rw (e, f) at h))

absent_ahead : (may : Bool) (word : List ℕ) (options left : List Lexeme) → behind_options may (options ++ left) ≡ left → stands_ahead may word (options ++ left) ≡ false → AllByRecursion (λ (o : Lexeme). o.sort ≡ sort.Opt → o.bytes ≡ word → ⊥) options
absent_ahead may word [] left h k = tt
absent_ahead may word (t ∷ options) left h k = absent_by may word t options left (is_opt t.sort) (may && is_value t.sort) refl refl (λ m x y. absent_ahead m word options left x y) h k

row_absent : (options left : List Lexeme) (row : OptRow) → behind_options false (options ++ left) ≡ left → is_absent (options ++ left) row ≡ true → IsAbsent options row
row_absent options left row h k = absent_ahead false (option_word row.opt) options left h (not-true (stands_ahead false (option_word row.opt) (options ++ left)) k)

lacks_by : (options left : List Lexeme) (row : OptRow) (rows : List OptRow) (b : Bool) → behind_options false (options ++ left) ≡ left → is_lacking (options ++ left) row ≡ b → (list_any (is_lacking (options ++ left)) rows ≡ true → LacksOne options rows) → (b || list_any (is_lacking (options ++ left)) rows) ≡ true → LacksOne options (row ∷ rows)
lacks_by options left row rows true h e others k = inl (first_so row.required (is_absent (options ++ left) row) e, row_absent options left row h (second_so row.required (is_absent (options ++ left) row) e))
lacks_by options left row rows false h e others k = inr (others k)

lacks_one : (options left : List Lexeme) (rows : List OptRow) → behind_options false (options ++ left) ≡ left → list_any (is_lacking (options ++ left)) rows ≡ true → LacksOne options rows
lacks_one options left [] h k = absurd cc
lacks_one options left (row ∷ rows) h k = lacks_by options left row rows (is_lacking (options ++ left) row) h refl (λ x. lacks_one options left rows h x) k

all_absent : (options left : List Lexeme) (rows : List OptRow) → behind_options false (options ++ left) ≡ left → list_all (is_absent (options ++ left)) rows ≡ true → AllByRecursion (IsAbsent options) rows
all_absent options left [] h k = tt
all_absent options left (row ∷ rows) h k = (row_absent options left row h (first_so (is_absent (options ++ left) row) (list_all (is_absent (options ++ left)) rows) k), all_absent options left rows h (second_so (is_absent (options ++ left) row) (list_all (is_absent (options ++ left)) rows) k))

option_lacks : (op : OpName) (options left : List Lexeme) → behind_options false (options ++ left) ≡ left → lacks_option op (options ++ left) ≡ true → Lacks op options
option_lacks op options left h k =
    elim (or_cases (list_any (is_lacking (options ++ left)) (options_of op)) (needs_any op && list_all (is_absent (options ++ left)) (options_of op)) k) [
      | inl a ↦ inl (lacks_one options left (options_of op) h a)
      | inr b ↦ inr (first_so (needs_any op) (list_all (is_absent (options ++ left)) (options_of op)) b, all_absent options left (options_of op) h (second_so (needs_any op) (list_all (is_absent (options ++ left)) (options_of op)) b))
    ]

any_same : {X : Type 0} (f g : X → Bool) → ((x : X) → f x ≡ g x) → (xs : List X) → list_any f xs ≡ list_any g xs
any_same f g h [] = refl
any_same f g h (x ∷ xs) = rw (h x, any_same f g h xs) refl

all_same : {X : Type 0} (f g : X → Bool) → ((x : X) → f x ≡ g x) → (xs : List X) → list_all f xs ≡ list_all g xs
all_same f g h [] = refl
all_same f g h (x ∷ xs) = rw (h x, all_same f g h xs) refl

lacks_same : (op : OpName) (ts us : List Lexeme) → ((word : List ℕ) → stands_ahead false word us ≡ stands_ahead false word ts) → lacks_option op us ≡ lacks_option op ts
lacks_same op ts us h =
    let absent : (row : OptRow) → is_absent us row ≡ is_absent ts row = λ row. ap not (h (option_word row.opt)) in
    let lacking : (row : OptRow) → is_lacking us row ≡ is_lacking ts row = λ row. ap (λ b. row.required && b) (absent row) in
    rw (any_same (is_lacking us) (is_lacking ts) lacking (options_of op), all_same (is_absent us) (is_absent ts) absent (options_of op)) refl

never_ends : (l e : Bool) → l ≡ true → (l && not (e && false)) ≡ true
never_ends true true h = refl
never_ends true false h = refl
never_ends false e h = h

still_missing : (op : OpName) (ts us : List Lexeme) → lacks_option op ts ≡ true → lacks_option op us ≡ lacks_option op ts → is_missing op false us ≡ true
still_missing op ts us h e = never_ends (lacks_option op us) (ends_ahead false us) (e ∙ h)

goes_on : (cut e : Bool) (left : List Lexeme) → not (e && cut) ≡ true → (left ≡ [] → e ≡ true) → Goes cut left
goes_on cut e (t ∷ left) h k = tt
goes_on true e [] h k = let f = k refl in absurd (let g : not (e && true) ≡ false = rw f refl in let n : true ≡ false = sym h ∙ g in cc)
goes_on false e [] h k = refl

-- ---- an operator with its options

no_operator : (before : ℕ) (cut : Bool) → head_at before cut [] ≡ Err refusal.AtEnd
unfolding head_at sort_at
no_operator before cut = refl

no_word : (before : ℕ) (cut : Bool) (w : Lexeme) (ts : List Lexeme) → is_sort sort.Word w.sort ≡ false → head_at before cut (w ∷ ts) ≡ Err (refusal.At w.at causes.Syntax)
unfolding head_at sort_at
no_word before cut w ts e = rw e refl

no_such : (before : ℕ) (cut : Bool) (w : Lexeme) (ts : List Lexeme) → is_sort sort.Word w.sort ≡ true → operator_named w.bytes ≡ None → head_at before cut (w ∷ ts) ≡ Err (refusal.At w.at causes.UnknownOperator)
unfolding head_at sort_at
no_such before cut w ts e f = rw (e, f) refl

missing : (before : ℕ) (cut : Bool) (w : Lexeme) (ts : List Lexeme) (op : OpName) → is_sort sort.Word w.sort ≡ true → operator_named w.bytes ≡ Some op → is_missing op cut ts ≡ true → head_at before cut (w ∷ ts) ≡ Err (refusal.At w.at causes.MissingOption)
unfolding head_at sort_at
missing before cut w ts op e f g = rw (e, f, g) refl

many : (before : ℕ) (cut : Bool) (w : Lexeme) (ts : List Lexeme) (op : OpName) → is_sort sort.Word w.sort ≡ true → operator_named w.bytes ≡ Some op → is_missing op cut ts ≡ false → nat_le 200 before ≡ true → head_at before cut (w ∷ ts) ≡ Err (refusal.At w.at causes.TooMany)
unfolding head_at sort_at
many before cut w ts op e f g h = rw (e, f, g, h) refl

abbrev of_kind : OpName → Option OpKind → Reads (OpName × OpKind)
of_kind op o ts = complete o >>= λ kind. Ok ((op, kind), ts)

abbrev said_at : OpName → List Setting → Reads (OpName × OpKind)
said_at op found = of_kind op (kind_of op found)

abbrev options_at : OpName → Bool → Reads (OpName × OpKind)
options_at op cut = bind (settings_at op cut) (said_at op)

with_options : (before : ℕ) (cut : Bool) (w : Lexeme) (ts : List Lexeme) (op : OpName) → is_sort sort.Word w.sort ≡ true → operator_named w.bytes ≡ Some op → is_missing op cut ts ≡ false → nat_le 200 before ≡ false → head_at before cut (w ∷ ts) ≡ options_at op cut ts
unfolding head_at sort_at
with_options before cut w ts op e f g h = rw (e, f, g, h) refl

kind_by : (cut : Bool) (op : OpName) (ts us : List Lexeme) (found : List Setting) (o : Option OpKind) → kind_of op found ≡ o → Outcome (OptionsFail cut op []) (settings_at op false) ts (Ok (found, us)) → Outcome (OptionsFail cut op []) (options_at op false) ts (of_kind op o us)
kind_by cut op ts us found None e a = tt
kind_by cut op ts us found (Some kind) e a = went_gives (settings_at op false) (said_at op) ts us found (op, kind) (λ more. ap (λ o. of_kind op o more) e) a

said_by : (cut : Bool) (op : OpName) (ts : List Lexeme) (v : Read (List Setting)) → Outcome (OptionsFail cut op []) (settings_at op false) ts v → Outcome (OptionsFail cut op []) (options_at op false) ts (v >>= λ p. said_at op p.0 p.1)
said_by cut op ts (Ok (found, us)) a = kind_by cut op ts us found (kind_of op found) refl a
said_by cut op ts (Err refusal.AtEnd) a = tt
said_by cut op ts (Err (refusal.At at why)) a = stuck_first (OptionsFail cut op []) (settings_at op false) (said_at op) ts at why a

options_local : (cut : Bool) (op : OpName) (ts : List Lexeme) → Outcome (OptionsFail cut op []) (options_at op false) ts (options_at op cut ts)
options_local cut op ts = said_by cut op ts (settings_at op cut ts) (settings_local cut op ts)

-- an option that fails stands in the stage of its operator
an_option_in : (cut : Bool) (op : OpName) (w : Lexeme) (ts : List Lexeme) (at : ℕ) (why : OshWhy) (front left : List Lexeme) → is_sort sort.Word w.sort ≡ true → operator_named w.bytes ≡ Some op → is_missing op cut ts ≡ false → ts ≡ front ++ left → OptionsFail cut op [] at why front left → IsOption cut at why (w ∷ front) left
an_option_in cut op w ts at why front left e f g parts p = record {
  operator = w;
  options = p.options;
  taken = p.taken;
  parts = ap (λ (xs : List Lexeme). w ∷ xs) p.parts;
  is_word = same_sort sort.Word w.sort e;
  op = op;
  named = f;
  whole = subst (λ (xs : List Lexeme). is_missing op cut xs ≡ false) (parts ∙ (ap (λ (xs : List Lexeme). xs ++ left) p.parts ∙ append_assoc p.options p.taken left)) g;
  others = p.others;
  written = p.written;
  together = p.together;
  fails = p.fails;
}

in_stage : (cut : Bool) (op : OpName) (w : Lexeme) (ts : List Lexeme) → is_sort sort.Word w.sort ≡ true → operator_named w.bytes ≡ Some op → is_missing op cut ts ≡ false → (at : ℕ) (why : OshWhy) (front left : List Lexeme) → ts ≡ front ++ left → OptionsFail cut op [] at why front left → StageFails cut at why (w ∷ front) left
in_stage cut op w ts e f g at causes.UnknownOption front left parts p = an_option_in cut op w ts at causes.UnknownOption front left e f g parts p
in_stage cut op w ts e f g at causes.DoubleOption front left parts p = an_option_in cut op w ts at causes.DoubleOption front left e f g parts p
in_stage cut op w ts e f g at causes.BadValue front left parts p = an_option_in cut op w ts at causes.BadValue front left e f g parts p
in_stage cut op w ts e f g at other front left parts p = absurd p.fails

-- what is read behind an operator are its options
options_behind : (before : ℕ) (w : Lexeme) (xs : List Lexeme) (op : OpName) (b : Bool) (p : (OpName × OpKind) × List Lexeme) → is_sort sort.Word w.sort ≡ true → operator_named w.bytes ≡ Some op → nat_le 200 before ≡ false → is_missing op false xs ≡ b → head_at before false (w ∷ xs) ≡ Ok p → options_at op false xs ≡ Ok p
options_behind before w xs op true p e f h g k = absurd (no_answer (head_at before false (w ∷ xs)) (refusal.At w.at causes.MissingOption) p (missing before false w xs op e f g) k)
options_behind before w xs op false p e f h g k = sym (with_options before false w xs op e f g h) ∙ k

too_many : (before : ℕ) (w : Lexeme) (xs : List Lexeme) (op : OpName) (b : Bool) (p : (OpName × OpKind) × List Lexeme) → is_sort sort.Word w.sort ≡ true → operator_named w.bytes ≡ Some op → nat_le 200 before ≡ true → is_missing op false xs ≡ b → head_at before false (w ∷ xs) ≡ Ok p → ⊥
too_many before w xs op true p e f h g k = no_answer (head_at before false (w ∷ xs)) (refusal.At w.at causes.MissingOption) p (missing before false w xs op e f g) k
too_many before w xs op false p e f h g k = no_answer (head_at before false (w ∷ xs)) (refusal.At w.at causes.TooMany) p (many before false w xs op e f g h) k

room_by : (before : ℕ) (cut : Bool) (w : Lexeme) (ts : List Lexeme) (op : OpName) (b : Bool) → is_sort sort.Word w.sort ≡ true → operator_named w.bytes ≡ Some op → is_missing op cut ts ≡ false → nat_le 200 before ≡ b → Outcome (StageFails cut) (head_at before false) (w ∷ ts) (head_at before cut (w ∷ ts))
room_by before cut w ts op true e f g h =
    rw (many before cut w ts op e f g h) (record {
      front = [];
      left = w ∷ ts;
      parts = refl;
      never = λ more p k l. (let some = some_first more w k in too_many before w some.0 op (is_missing op false some.0) p e f h refl (sym (ap (head_at before false) some.1) ∙ l));
      place = (refl, (refl, (same_sort sort.Word w.sort e, (op, f, g))));
    })
room_by before cut w ts op false e f g h =
    rw (with_options before cut w ts op e f g h) (behind_token (OptionsFail cut op []) (StageFails cut) (head_at before false) (options_at op false) w ts (λ xs p k. options_behind before w xs op (is_missing op false xs) p e f h refl k) (in_stage cut op w ts e f g) (options_at op cut ts) (options_local cut op ts))

missing_by : (before : ℕ) (cut : Bool) (w : Lexeme) (ts : List Lexeme) (op : OpName) (b : Bool) → is_sort sort.Word w.sort ≡ true → operator_named w.bytes ≡ Some op → is_missing op cut ts ≡ b → Outcome (StageFails cut) (head_at before false) (w ∷ ts) (head_at before cut (w ∷ ts))
missing_by before cut w ts op false e f g = room_by before cut w ts op (nat_le 200 before) e f g refl
missing_by before cut w ts op true e f g =
    let a = ahead false ts in
    let lacks = first_so (lacks_option op ts) (not (ends_ahead false ts && cut)) g in
    let goes = second_so (lacks_option op ts) (not (ends_ahead false ts && cut)) g in
    rw (missing before cut w ts op e f g) (record {
      front = w ∷ a.options;
      left = a.left;
      parts = ap (λ (xs : List Lexeme). w ∷ xs) a.parts;
      never = λ more p h k. no_answer (head_at before false (w ∷ (a.options ++ more))) (refusal.At w.at causes.MissingOption) p (missing before false w (a.options ++ more) op e f (still_missing op ts (a.options ++ more) lacks (lacks_same op ts (a.options ++ more) (λ word. a.same word more h)))) k;
      place = record {
        operator = w;
        options = a.options;
        parts = refl;
        is_word = same_sort sort.Word w.sort e;
        op = op;
        named = f;
        lacks = ap (lacks_option op) (sym a.parts) ∙ lacks;
        absent = option_lacks op a.options a.left a.all (ap (lacks_option op) (sym a.parts) ∙ lacks);
        all = a.all;
        goes = goes_on cut (ends_ahead false ts) a.left goes a.ends;
        place = refl;
      };
    })

operator_by : (before : ℕ) (cut : Bool) (w : Lexeme) (ts : List Lexeme) (o : Option OpName) → is_sort sort.Word w.sort ≡ true → operator_named w.bytes ≡ o → Outcome (StageFails cut) (head_at before false) (w ∷ ts) (head_at before cut (w ∷ ts))
operator_by before cut w ts (Some op) e f = missing_by before cut w ts op (is_missing op cut ts) e f refl
operator_by before cut w ts None e f =
    rw (no_such before cut w ts e f) (record {
      front = [];
      left = w ∷ ts;
      parts = refl;
      never = λ more p k l. (let some = some_first more w k in no_answer (head_at before false more) (refusal.At w.at causes.UnknownOperator) p (ap (head_at before false) some.1 ∙ no_such before false w some.0 e f) l);
      place = (refl, (refl, (same_sort sort.Word w.sort e, f)));
    })

word_by : (before : ℕ) (cut : Bool) (w : Lexeme) (ts : List Lexeme) (b : Bool) → is_sort sort.Word w.sort ≡ b → Outcome (StageFails cut) (head_at before false) (w ∷ ts) (head_at before cut (w ∷ ts))
word_by before cut w ts true e = operator_by before cut w ts (operator_named w.bytes) e refl
word_by before cut w ts false e =
    rw (no_word before cut w ts e) (record {
      front = [];
      left = w ∷ ts;
      parts = refl;
      never = λ more p k l. (let some = some_first more w k in no_answer (head_at before false more) (refusal.At w.at causes.Syntax) p (ap (head_at before false) some.1 ∙ no_word before false w some.0 e) l);
      place = (refl, tt);
    })

pub head_local : (before : ℕ) (cut : Bool) (ts : List Lexeme) → Outcome (StageFails cut) (head_at before false) ts (head_at before cut ts)
head_local before cut [] = rw (no_operator before cut) tt
head_local before cut (w ∷ ts) = word_by before cut w ts (is_sort sort.Word w.sort) refl

-- ---- what an operator with its options says

pub record HeadSaid (cut : Bool) (op : OpName) (ts mid : List Lexeme) : Type 0 where
  pub operator : Lexeme
  pub behind : List Lexeme
  pub tokens : ts ≡ operator ∷ behind
  pub is_word : operator.sort ≡ sort.Word
  pub named : operator_named operator.bytes ≡ Some op
  pub whole : is_missing op cut behind ≡ false
  pub options : AreSaid op [] behind mid

operator_is : (o : Option OpName) (w : Lexeme) (op : OpName) → operator_of o w ≡ Ok op → o ≡ Some op
operator_is None w op h = absurd cc
operator_is (Some p) w op h = let e : p ≡ op = cc in ap (λ x. Some x) e

pub head_said : (before : ℕ) (cut : Bool) (ts mid : List Lexeme) (h : OpName × OpKind) → head_at before cut ts ≡ Ok (h, mid) → HeadSaid cut h.0 ts mid
unfolding head_at
head_said before cut ts mid h r =
    let a = bind_ok (sort_at sort.Word causes.Syntax ts) _ (h, mid) r in
    let b = bind_ok (operator_of (operator_named a.0.0.bytes) a.0.0) _ (h, mid) a.2 in
    let c = passed_test (is_missing b.0 cut a.0.1) b.0 _ _ (h, mid) b.2 in
    let d = passed_test (nat_le 200 before) b.0 _ _ (h, mid) c.1 in
    let e = bind_ok (settings_at b.0 cut a.0.1) _ (h, mid) d.1 in
    let f = bind_ok (complete (kind_of b.0 e.0.0)) _ (h, mid) e.2 in
    let k = ok_parts ((b.0, f.0), e.0.1) (h, mid) f.2 in
    let p = pair_parts (b.0, f.0) h k.0 in
    let s = sort_taken sort.Word causes.Syntax ts a.0.1 a.0.0 a.1 in
    let made : HeadSaid cut b.0 ts e.0.1 = record { operator = a.0.0; behind = a.0.1; tokens = s.0; is_word = s.1; named = operator_is (operator_named a.0.0.bytes) a.0.0 b.0 b.1; whole = c.0; options = settings_said cut b.0 a.0.1 e.0.1 e.0.0 e.1 } in
    subst (λ (us : List Lexeme). HeadSaid cut h.0 ts us) k.1 (subst (λ (x : OpName). HeadSaid cut x ts e.0.1) p.0 made)
