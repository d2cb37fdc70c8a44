-- Options: where reading them stops nothing is read, whatever follows, and what was read before it are options of the operator.
use Rattle.std.proofs.Common.{◌≡◌, ◌≤◌, ◌<◌, inl, inr, ℕ, zero, suc, List, [], ◌∷◌, ◌++◌, length, map, Bool, true, false, Result, Ok, Err, Option, Some, None, refl, sym, ap, ◌∙◌, subst, append_assoc, arith}
use Rattle.std.specs.Prelude.{not, ◌&&◌, if◌then◌else◌}
use Rattle.std.specs.Option.{is_none}
use Rattle.std.proofs.lemmas.Bool.{not-true}
use Rattle.std.proofs.lemmas.List.{append-nil}
use Rattle.ds_lex.specs.declared.token.Sort.{Sort}
use Rattle.ds_lex.specs.declared.token.Sort.TheVariants as sort
use Rattle.ds_lex.specs.declared.refusal.Refusal.{Refusal}
use Rattle.ds_lex.specs.declared.refusal.Refusal.TheVariants as refusal
use Rattle.ds_lex.specs.Lexemes.{Lexeme}
use Rattle.ds_lex.specs.Reading.{◌>>=◌, first_of}
use Rattle.ds_lex.proofs.Readers.{bind}
use Rattle.ds_schema.proofs.ListReaders.{ok_parts}
use Rattle.osh_table.specs.declared.operator.OpName.{OpName}
use Rattle.osh_table.specs.declared.option.Form.{Form}
use Rattle.osh_table.specs.declared.option.Form.TheVariants as form
use Rattle.osh_table.specs.declared.option.OptRow.{OptRow}
use Rattle.osh_table.specs.Options.{row_named}
use Rattle.osh_value.specs.declared.value.OptValue.{OptValue}
use Rattle.osh_value.specs.declared.value.OptValue.TheVariants as value
use Rattle.osh_value.specs.declared.setting.Setting.{Setting}
use Rattle.osh_value.specs.Values.{value_of, content_of}
use Rattle.osh_value.specs.ValueGrammar.{SpellsValue}
use Rattle.osh_value.proofs.ValuesSpelled.{value_spelled, spelled_value}
use Rattle.osh_read.specs.declared.fault.OshWhy.{OshWhy}
use Rattle.osh_read.specs.declared.fault.OshWhy.TheVariants as causes
use Rattle.osh_read.specs.Reading.{Read, repeated, append, if_comes}
use Rattle.osh_read.specs.Options.{is_opt, is_value, is_flag, value_comes, lacks_value, clashes, taken_at, setting_at, opt_at, next_setting_at, settings_at}
use Rattle.osh_sound.specs.Grammar.{WrittenOption, setting_of, value_phrase, options_phrase, StandTogether}
use Rattle.osh_first.specs.Places.{IsNext, Goes, IsMisspelled, OptionFails}
use Rattle.osh_first.proofs.Local.{Reads, Place, Went, Outcome, OutcomeBy, Fewer, some_first, no_answer, end_by, take_by, leave_by, went_gives, stuck_first, none_more, stuck_more, others_with, by_length, fewer_by}

-- ---- values

-- a value that is none of the form, at the front
abbrev ValueFails : Form → Place
ValueFails f at causes.BadValue front left = (front ≡ []) × IsNext at (λ t ts. (is_value t.sort ≡ true) × ((v : OptValue) → SpellsValue f (content_of t) v → ⊥)) left
ValueFails f at other front left = ⊥

no_flag : (f : Form) (b : Bool) → is_flag f ≡ b → Outcome (ValueFails f) (taken_at f) [] (taken_at f [])
no_flag f true e = rw e (end_by (ValueFails f) (taken_at f) (Some value.Flag) (rw e refl))
no_flag f false e = rw e tt

left_value : (f : Form) (t : Lexeme) (us : List Lexeme) (b : Bool) → is_value t.sort ≡ false → is_flag f ≡ b → Outcome (ValueFails f) (taken_at f) (t ∷ us) (taken_at f (t ∷ us))
left_value f t us true v e = rw (v, e) (leave_by (taken_at f) t us value.Flag (λ more. rw (v, e) refl))
left_value f t us false v e = rw (v, e) tt

good_step : (f : Form) (t : Lexeme) (us : List Lexeme) (x : OptValue) → is_value t.sort ≡ true → value_of f (content_of t) ≡ Some x → taken_at f (t ∷ us) ≡ Ok (x, us)
good_step f t us x v e = rw (v, e) refl

bad_step : (f : Form) (t : Lexeme) (us : List Lexeme) → is_value t.sort ≡ true → value_of f (content_of t) ≡ None → taken_at f (t ∷ us) ≡ Err (refusal.At t.at causes.BadValue)
bad_step f t us v e = rw (v, e) refl

not_spelled : (f : Form) (bytes : List ℕ) → value_of f bytes ≡ None → (v : OptValue) → SpellsValue f bytes v → ⊥
not_spelled f bytes e v s = let k : Some v ≡ None = sym (spelled_value f bytes v s) ∙ e in absurd cc

value_by : (f : Form) (t : Lexeme) (us : List Lexeme) (o : Option OptValue) → is_value t.sort ≡ true → value_of f (content_of t) ≡ o → Outcome (ValueFails f) (taken_at f) (t ∷ us) (taken_at f (t ∷ us))
value_by f t us (Some x) v e = rw (good_step f t us x v e) (take_by (taken_at f) t us x (λ more. good_step f t more x v e))
value_by f t us None v e =
    rw (bad_step f t us v e) (record {
      front = [];
      left = t ∷ us;
      parts = refl;
      never = λ more p h k. (let some = some_first more t h in no_answer (taken_at f more) (refusal.At t.at causes.BadValue) p (ap (taken_at f) some.1 ∙ bad_step f t some.0 v e) k);
      place = (refl, (refl, (v, not_spelled f (content_of t) e)));
    })

taken_by : (f : Form) (t : Lexeme) (us : List Lexeme) (b : Bool) → is_value t.sort ≡ b → Outcome (ValueFails f) (taken_at f) (t ∷ us) (taken_at f (t ∷ us))
taken_by f t us true v = value_by f t us (value_of f (content_of t)) v refl
taken_by f t us false v = left_value f t us (is_flag f) v refl

taken_local : (f : Form) (ts : List Lexeme) → Outcome (ValueFails f) (taken_at f) ts (taken_at f ts)
taken_local f [] = no_flag f (is_flag f) refl
taken_local f (t ∷ us) = taken_by f t us (is_value t.sort) refl

-- ---- what is read as a value spells it

flag_value : (f : Form) (v : OptValue) (ts rest : List Lexeme) → is_flag f ≡ true → v ≡ value.Flag → ts ≡ rest → value_phrase f v ts rest
flag_value form.Flag v ts rest h e r = (e, r)
flag_value other v ts rest h e r = absurd cc

said_value : (f : Form) (v : OptValue) (t : Lexeme) (ts rest : List Lexeme) → is_value t.sort ≡ true → value_of f (content_of t) ≡ Some v → ts ≡ rest → value_phrase f v (t ∷ ts) rest
unfolding value_of
said_value form.Flag v t ts rest s e r = absurd cc
said_value other v t ts rest s e r = (s, value_spelled other (content_of t) v e, r)

no_value : (f : Form) (v : OptValue) (ts rest : List Lexeme) (b : Bool) → is_flag f ≡ b → (let r : Read OptValue = if b then Ok (value.Flag, ts) else Err refusal.AtEnd in r) ≡ Ok (v, rest) → value_phrase f v ts rest
no_value f v ts rest true e h = let k = ok_parts (value.Flag, ts) (v, rest) h in flag_value f v ts rest e (sym k.0) k.1
no_value f v ts rest false e h = absurd cc

some_value : (f : Form) (v : OptValue) (t : Lexeme) (ts rest : List Lexeme) (o : Option OptValue) → is_value t.sort ≡ true → value_of f (content_of t) ≡ o → taken_at f (t ∷ ts) ≡ Ok (v, rest) → value_phrase f v (t ∷ ts) rest
some_value f v t ts rest None s e h = absurd (no_answer (taken_at f (t ∷ ts)) (refusal.At t.at causes.BadValue) (v, rest) (bad_step f t ts s e) h)
some_value f v t ts rest (Some x) s e h = let k = ok_parts (x, ts) (v, rest) (sym (good_step f t ts x s e) ∙ h) in said_value f v t ts rest s (e ∙ ap (λ y. Some y) k.0) k.1

left_step : (f : Form) (t : Lexeme) (us : List Lexeme) → is_value t.sort ≡ false → taken_at f (t ∷ us) ≡ (let r : Read OptValue = if is_flag f then Ok (value.Flag, t ∷ us) else Err refusal.AtEnd in r)
left_step f t us e = rw e refl

value_in : (f : Form) (v : OptValue) (t : Lexeme) (ts rest : List Lexeme) (b : Bool) → is_value t.sort ≡ b → taken_at f (t ∷ ts) ≡ Ok (v, rest) → value_phrase f v (t ∷ ts) rest
value_in f v t ts rest true e h = some_value f v t ts rest (value_of f (content_of t)) e refl h
value_in f v t ts rest false e h = no_value f v (t ∷ ts) rest (is_flag f) refl (sym (left_step f t ts e) ∙ h)

value_holds : (f : Form) (v : OptValue) (ts rest : List Lexeme) → taken_at f ts ≡ Ok (v, rest) → value_phrase f v ts rest
value_holds f v [] rest h = no_value f v [] rest (is_flag f) refl h
value_holds f v (t ∷ ts) rest h = value_in f v t ts rest (is_value t.sort) refl h

-- ---- options

-- a reader that goes on behind a token as another one does, if it answers
pub behind_token : {X : Type 0} (P Q : Place) (q tail : Reads X) (t : Lexeme) (us : List Lexeme) → ((xs : List Lexeme) (p : X × List Lexeme) → q (t ∷ xs) ≡ Ok p → tail xs ≡ Ok p) → ((at : ℕ) (why : OshWhy) (front left : List Lexeme) → us ≡ front ++ left → P at why front left → Q at why (t ∷ front) left)
    → (v : Result (X × List Lexeme) (Refusal OshWhy)) → Outcome P tail us v → Outcome Q q (t ∷ us) v
behind_token P Q q tail t us step behind (Ok p) a = record { front = t ∷ a.front; parts = ap (λ (xs : List Lexeme). t ∷ xs) a.parts; again = λ more o h e. a.again more o h (step (a.front ++ more) o e) }
behind_token P Q q tail t us step behind (Err refusal.AtEnd) a = tt
behind_token P Q q tail t us step behind (Err (refusal.At at why)) a = record {
  front = t ∷ a.front;
  left = a.left;
  parts = ap (λ (xs : List Lexeme). t ∷ xs) a.parts;
  never = λ more o h e. a.never more o h (step (a.front ++ more) o e);
  place = behind at why a.front a.left a.parts a.place;
}

abbrev setting_with : OptRow → OptValue → Setting
setting_with row v = record { opt = row.opt; group = row.group; value = v }

abbrev valued_at : OptRow → Reads (Option Setting)
valued_at row = bind (taken_at row.form) (λ v ts. Ok (Some (setting_with row v), ts))

valued_by : (row : OptRow) (us : List Lexeme) (v : Read OptValue) → Outcome (ValueFails row.form) (taken_at row.form) us v → Outcome (ValueFails row.form) (valued_at row) us (v >>= λ p. Ok (Some (setting_with row p.0), p.1))
valued_by row us (Ok p) a = went_gives (taken_at row.form) (λ v ts. Ok (Some (setting_with row v), ts)) us p.1 p.0 (Some (setting_with row p.0)) (λ more. refl) a
valued_by row us (Err refusal.AtEnd) a = tt
valued_by row us (Err (refusal.At at why)) a = stuck_first (ValueFails row.form) (taken_at row.form) (λ v ts. Ok (Some (setting_with row v), ts)) us at why a

valued_local : (row : OptRow) (us : List Lexeme) → Outcome (ValueFails row.form) (valued_at row) us (valued_at row us)
valued_local row us = valued_by row us (taken_at row.form us) (taken_local row.form us)

-- what was read behind an option is its value
record Said (op : OpName) (found : List Setting) (o : Lexeme) (s : Setting) (ts rest : List Lexeme) : Type 0 where
  written : WrittenOption
  row : row_named op o.bytes ≡ Some written.row
  value : value_phrase written.row.form written.value ts rest
  alone : clashes found written.row.group ≡ false
  setting : s ≡ setting_of written

abbrev IsSaid : OpName → List Setting → List Lexeme → Read (Option Setting) → Type 0
IsSaid op found ts (Ok (Some s, rest)) = (o : Lexeme) × (us : List Lexeme) × (ts ≡ o ∷ us) × (o.sort ≡ sort.Opt) × Said op found o s us rest
IsSaid op found ts (Ok (None, rest)) = ts ≡ rest
IsSaid op found ts (Err e) = Unit {0}

said_by : (op : OpName) (found : List Setting) (o : Lexeme) (us : List Lexeme) (row : OptRow) (v : Read OptValue) → o.sort ≡ sort.Opt → row_named op o.bytes ≡ Some row → clashes found row.group ≡ false → taken_at row.form us ≡ v → IsSaid op found (o ∷ us) (v >>= λ p. Ok (Some (setting_with row p.0), p.1))
said_by op found o us row (Ok p) i e g h = (o, us, refl, i, (record { written = record { row = row; value = p.0 }; row = e; value = value_holds row.form p.0 us p.1 h; alone = g; setting = refl }))
said_by op found o us row (Err e) i r g h = tt

an_option : (op : OpName) (cut : Bool) (found : List Setting) (o : Lexeme) (us : List Lexeme) → is_opt o.sort ≡ true → next_setting_at op cut found (o ∷ us) ≡ setting_at op cut found o us
unfolding opt_at
an_option op cut found o us e = rw e refl

no_option : (op : OpName) (cut : Bool) (found : List Setting) (t : Lexeme) (us : List Lexeme) → is_opt t.sort ≡ false → next_setting_at op cut found (t ∷ us) ≡ Ok (None, t ∷ us)
unfolding opt_at
no_option op cut found t us e = rw e refl

no_tokens : (op : OpName) (cut : Bool) (found : List Setting) → next_setting_at op cut found [] ≡ Ok (None, [])
unfolding opt_at
no_tokens op cut found = refl

unknown : (op : OpName) (cut : Bool) (found : List Setting) (o : Lexeme) (us : List Lexeme) → row_named op o.bytes ≡ None → setting_at op cut found o us ≡ Err (refusal.At o.at causes.UnknownOption)
unfolding setting_at
unknown op cut found o us e = rw e refl

bare : (op : OpName) (cut : Bool) (found : List Setting) (o : Lexeme) (us : List Lexeme) (row : OptRow) → row_named op o.bytes ≡ Some row → lacks_value row cut (first_of us) ≡ true → setting_at op cut found o us ≡ Err (refusal.At o.at causes.BadValue)
unfolding setting_at
bare op cut found o us row e f = rw (e, f) refl

double : (op : OpName) (cut : Bool) (found : List Setting) (o : Lexeme) (us : List Lexeme) (row : OptRow) → row_named op o.bytes ≡ Some row → lacks_value row cut (first_of us) ≡ false → clashes found row.group ≡ true → setting_at op cut found o us ≡ Err (refusal.At o.at causes.DoubleOption)
unfolding setting_at
double op cut found o us row e f g = rw (e, f, g) refl

valued : (op : OpName) (cut : Bool) (found : List Setting) (o : Lexeme) (us : List Lexeme) (row : OptRow) → row_named op o.bytes ≡ Some row → lacks_value row cut (first_of us) ≡ false → clashes found row.group ≡ false → setting_at op cut found o us ≡ valued_at row us
unfolding setting_at
valued op cut found o us row e f g = rw (e, f, g) refl

pub opt_sort : (t : Lexeme) → is_opt t.sort ≡ true → t.sort ≡ sort.Opt
opt_sort t h = sort_by t.sort h
  where
    sort_by : (s : Sort) → is_opt s ≡ true → s ≡ sort.Opt
    sort_by sort.Opt h = refl
    sort_by other h = absurd cc

-- what was read, that tokens were taken for it, and what it says
abbrev Each : Place → OpName → List Setting → Reads (Option Setting) → List Lexeme → Read (Option Setting) → Type 0
Each P op found q ts v = Outcome P q ts v × Fewer ts v × IsSaid op found ts v

-- an excluded option is refused, whatever follows
double_by : (op : OpName) (found : List Setting) (o : Lexeme) (us : List Lexeme) (row : OptRow) (b : Bool) (p : Option Setting × List Lexeme) → row_named op o.bytes ≡ Some row → clashes found row.group ≡ true → lacks_value row false (first_of us) ≡ b → setting_at op false found o us ≡ Ok p → ⊥
double_by op found o us row true p e g f k = no_answer (setting_at op false found o us) (refusal.At o.at causes.BadValue) p (bare op false found o us row e f) k
double_by op found o us row false p e g f k = no_answer (setting_at op false found o us) (refusal.At o.at causes.DoubleOption) p (double op false found o us row e f g) k

-- what is read behind an option is its value
value_behind : (op : OpName) (found : List Setting) (o : Lexeme) (us : List Lexeme) (row : OptRow) (b : Bool) (p : Option Setting × List Lexeme) → row_named op o.bytes ≡ Some row → clashes found row.group ≡ false → lacks_value row false (first_of us) ≡ b → setting_at op false found o us ≡ Ok p → valued_at row us ≡ Ok p
value_behind op found o us row true p e g f k = absurd (no_answer (setting_at op false found o us) (refusal.At o.at causes.BadValue) p (bare op false found o us row e f) k)
value_behind op found o us row false p e g f k = sym (valued op false found o us row e f g) ∙ k

fewer_than : (t : Lexeme) (us : List Lexeme) → length us < length (t ∷ us)
fewer_than t us = omega arith

-- the value behind an option is none of its form
misspelled : (op : OpName) (found : List Setting) (o : Lexeme) (row : OptRow) (at : ℕ) (left : List Lexeme) → row_named op o.bytes ≡ Some row → clashes found row.group ≡ false
    → IsNext at (λ t ts. (is_value t.sort ≡ true) × ((v : OptValue) → SpellsValue row.form (content_of t) v → ⊥)) left → IsNext at (λ t ts. IsMisspelled op found o t) left
misspelled op found o row at [] e g n = n
misspelled op found o row at (t ∷ ts) e g n = (n.0, record { row = row; named = e; alone = g; is_value = n.1.0; none = n.1.1 })

value_fails : (op : OpName) (cut : Bool) (found : List Setting) (o : Lexeme) (row : OptRow) → o.sort ≡ sort.Opt → row_named op o.bytes ≡ Some row → clashes found row.group ≡ false → (at : ℕ) (why : OshWhy) (front left : List Lexeme) → ValueFails row.form at why front left → OptionFails cut op found at why (o ∷ front) left
value_fails op cut found o row i e g at causes.BadValue front left p = (o, ap (λ (xs : List Lexeme). o ∷ xs) p.0, i, inl (misspelled op found o row at left e g p.1))
value_fails op cut found o row i e g at other front left p = absurd p

clash_by : (op : OpName) (cut : Bool) (found : List Setting) (o : Lexeme) (us : List Lexeme) (row : OptRow) (b : Bool) → is_opt o.sort ≡ true → row_named op o.bytes ≡ Some row → lacks_value row cut (first_of us) ≡ false → clashes found row.group ≡ b → Each (OptionFails cut op found) op found (next_setting_at op false found) (o ∷ us) (setting_at op cut found o us)
clash_by op cut found o us row true i e f g =
    rw (double op cut found o us row e f g) (
      record {
        front = [];
        left = o ∷ us;
        parts = refl;
        never = λ more p h k. (let some = some_first more o h in double_by op found o some.0 row (lacks_value row false (first_of some.0)) p e g refl (sym (ap (next_setting_at op false found) some.1 ∙ an_option op false found o some.0 i) ∙ k));
        place = (refl, (refl, (opt_sort o i, record { row = row; named = e; clash = g; valued = f })));
      },
      tt,
      tt,
    )
clash_by op cut found o us row false i e f g =
    rw (valued op cut found o us row e f g) (
      behind_token (ValueFails row.form) (OptionFails cut op found) (next_setting_at op false found) (valued_at row) o us (λ xs p k. value_behind op found o xs row (lacks_value row false (first_of xs)) p e g refl (sym (an_option op false found o xs i) ∙ k)) (λ at why front left parts p. value_fails op cut found o row (opt_sort o i) e g at why front left p) (valued_at row us) (valued_local row us),
      fewer_by (ValueFails row.form) (valued_at row) (o ∷ us) us (fewer_than o us) (valued_at row us) (valued_local row us),
      said_by op found o us row (taken_at row.form us) (opt_sort o i) e g refl,
    )

-- what lacks its value does so before tokens that begin alike, and so does it where the text isn't cut off
not_cut : (f v c n : Bool) → (f && (v && not (c && n))) ≡ true → (f ≡ true) × (v ≡ true) × ((c && n) ≡ false)
not_cut true true true true h = absurd cc
not_cut true true true false h = (refl, refl, refl)
not_cut true true false n h = (refl, refl, refl)
not_cut true false c n h = absurd cc
not_cut false v c n h = absurd cc

pub goes_by : (cut : Bool) (us : List Lexeme) → (cut && is_none (first_of us)) ≡ false → Goes cut us
goes_by true [] h = absurd cc
goes_by false [] h = refl
goes_by cut (t ∷ us) h = tt

bare_by : (op : OpName) (cut : Bool) (found : List Setting) (o : Lexeme) (us : List Lexeme) (row : OptRow) (b : Bool) → is_opt o.sort ≡ true → row_named op o.bytes ≡ Some row → lacks_value row cut (first_of us) ≡ b → Each (OptionFails cut op found) op found (next_setting_at op false found) (o ∷ us) (setting_at op cut found o us)
bare_by op cut found o us row false i e f = clash_by op cut found o us row (clashes found row.group) i e f refl
bare_by op cut found o us row true i e f =
    let n = not_cut (not (is_flag row.form)) (not (value_comes (first_of us))) cut (is_none (first_of us)) f in
    rw (bare op cut found o us row e f) (
      record {
        front = o ∷ [];
        left = us;
        parts = refl;
        never = λ more p h k.
            (let lacks : lacks_value row false (first_of more) ≡ true = rw (h, n.0, n.1) refl in
            no_answer (next_setting_at op false found (o ∷ more)) (refusal.At o.at causes.BadValue) p (an_option op false found o more i ∙ bare op false found o more row e lacks) k);
        place = (o, refl, opt_sort o i, inr (refl, record { row = row; named = e; needs = not-true (is_flag row.form) n.0; bare = not-true (value_comes (first_of us)) n.1; goes = goes_by cut us n.2 }));
      },
      tt,
      tt,
    )

row_by : (op : OpName) (cut : Bool) (found : List Setting) (o : Lexeme) (us : List Lexeme) (r : Option OptRow) → is_opt o.sort ≡ true → row_named op o.bytes ≡ r → Each (OptionFails cut op found) op found (next_setting_at op false found) (o ∷ us) (setting_at op cut found o us)
row_by op cut found o us (Some row) i e = bare_by op cut found o us row (lacks_value row cut (first_of us)) i e refl
row_by op cut found o us None i e =
    rw (unknown op cut found o us e) (
      record {
        front = [];
        left = o ∷ us;
        parts = refl;
        never = λ more p h k. (let some = some_first more o h in no_answer (next_setting_at op false found more) (refusal.At o.at causes.UnknownOption) p (ap (next_setting_at op false found) some.1 ∙ (an_option op false found o some.0 i ∙ unknown op false found o some.0 e)) k);
        place = (refl, (refl, (opt_sort o i, e)));
      },
      tt,
      tt,
    )

opt_by : (op : OpName) (cut : Bool) (found : List Setting) (t : Lexeme) (us : List Lexeme) (b : Bool) → is_opt t.sort ≡ b → Each (OptionFails cut op found) op found (next_setting_at op false found) (t ∷ us) (next_setting_at op cut found (t ∷ us))
opt_by op cut found t us true e = rw (an_option op cut found t us e) (row_by op cut found t us (row_named op t.bytes) e refl)
opt_by op cut found t us false e = rw (no_option op cut found t us e) (leave_by (next_setting_at op false found) t us None (λ more. no_option op false found t more e), tt, refl)

option_each : (op : OpName) (cut : Bool) (found : List Setting) (ts : List Lexeme) → Each (OptionFails cut op found) op found (next_setting_at op false found) ts (next_setting_at op cut found ts)
option_each op cut found [] = rw (no_tokens op cut found) (end_by (OptionFails cut op found) (next_setting_at op false found) (Some None) (no_tokens op false found), tt, refl)
option_each op cut found (t ∷ us) = opt_by op cut found t us (is_opt t.sort) refl

-- ---- all options

-- options of the operator behind those that were found, and one that fails behind them
pub record OptionsFail (cut : Bool) (op : OpName) (found : List Setting) (at : ℕ) (why : OshWhy) (front left : List Lexeme) : Type 0 where
  pub options : List Lexeme
  pub taken : List Lexeme
  pub parts : front ≡ options ++ taken
  pub others : List WrittenOption
  pub written : options_phrase op others (options ++ (taken ++ left)) (taken ++ left)
  pub together : StandTogether found others
  pub fails : OptionFails cut op (found ++ map setting_of others) at why taken left

-- options of the operator behind those that were found
pub record AreSaid (op : OpName) (found : List Setting) (ts rest : List Lexeme) : Type 0 where
  pub others : List WrittenOption
  pub written : options_phrase op others ts rest
  pub together : StandTogether found others

abbrev SaidBy : OpName → List Setting → List Lexeme → Read (List Setting) → Type 0
SaidBy op found ts (Ok p) = AreSaid op found ts p.1
SaidBy op found ts (Err e) = Unit {0}

option_first : (cut : Bool) (op : OpName) (found : List Setting) (at : ℕ) (why : OshWhy) (front left : List Lexeme) → OptionFails cut op found at why front left → OptionsFail cut op found at why front left
option_first cut op found at why front left p = record { options = []; taken = front; parts = refl; others = []; written = refl; together = tt; fails = subst (λ (all : List Setting). OptionFails cut op all at why front left) (sym (append-nil found)) p }

one_more : (op : OpName) (found : List Setting) (s : Setting) (o : Lexeme) (us rest : List Lexeme) → o.sort ≡ sort.Opt → (said : Said op found o s us rest) → (others : List WrittenOption) (all end : List Lexeme) → options_phrase op others rest end → all ≡ o ∷ us → options_phrase op (said.written ∷ others) all end
one_more op found s o us rest i said others all end p e = subst (λ (xs : List Lexeme). options_phrase op (said.written ∷ others) xs end) (sym e) (rest, (us, (i, said.row, refl), said.value), p)

one_together : (op : OpName) (found : List Setting) (s : Setting) (o : Lexeme) (us rest : List Lexeme) → (said : Said op found o s us rest) → (others : List WrittenOption) → StandTogether (found ++ s ∷ []) others → StandTogether found (said.written ∷ others)
one_together op found s o us rest said others t = (said.alone, subst (λ (x : Setting). StandTogether (found ++ x ∷ []) others) said.setting t)

regroup : (a b c d : List Lexeme) → a ++ ((b ++ c) ++ d) ≡ (a ++ b) ++ (c ++ d)
regroup a b c d = ap (λ (xs : List Lexeme). a ++ xs) (append_assoc b c d) ∙ sym (append_assoc a b (c ++ d))

option_behind : (cut : Bool) (op : OpName) (found : List Setting) (s : Setting) (ts rest pre : List Lexeme) → ts ≡ pre ++ rest → IsSaid op found ts (Ok (Some s, rest)) → (at : ℕ) (why : OshWhy) (front left : List Lexeme) → rest ≡ front ++ left → OptionsFail cut op (found ++ s ∷ []) at why front left → OptionsFail cut op found at why (pre ++ front) left
option_behind cut op found s ts rest pre parts x at why front left e p =
    let said = x.4 in
    let split : rest ≡ p.options ++ (p.taken ++ left) = e ∙ (ap (λ (xs : List Lexeme). xs ++ left) p.parts ∙ append_assoc p.options p.taken left) in
    let whole : (pre ++ p.options) ++ (p.taken ++ left) ≡ x.0 ∷ x.1 = append_assoc pre p.options (p.taken ++ left) ∙ (ap (λ (xs : List Lexeme). pre ++ xs) (sym split) ∙ (sym parts ∙ x.2)) in
    let all : (found ++ s ∷ []) ++ map setting_of p.others ≡ found ++ (setting_of said.written ∷ map setting_of p.others) = append_assoc found (s ∷ []) (map setting_of p.others) ∙ ap (λ (y : Setting). found ++ (y ∷ map setting_of p.others)) said.setting in
    record {
      options = pre ++ p.options;
      taken = p.taken;
      parts = ap (λ (xs : List Lexeme). pre ++ xs) p.parts ∙ sym (append_assoc pre p.options p.taken);
      others = said.written ∷ p.others;
      written = one_more op found s x.0 x.1 rest x.3 said p.others ((pre ++ p.options) ++ (p.taken ++ left)) (p.taken ++ left) (subst (λ (xs : List Lexeme). options_phrase op p.others xs (p.taken ++ left)) (sym split) p.written) whole;
      together = one_together op found s x.0 x.1 rest said p.others p.together;
      fails = subst (λ (xs : List Setting). OptionFails cut op xs at why p.taken left) all p.fails;
    }

said_behind : (op : OpName) (found : List Setting) (s : Setting) (ts rest : List Lexeme) → IsSaid op found ts (Ok (Some s, rest)) → (v : Read (List Setting)) → SaidBy op (found ++ s ∷ []) rest v → SaidBy op found ts v
said_behind op found s ts rest x (Ok p) a = record {
  others = x.4.written ∷ a.others;
  written = one_more op found s x.0 x.1 rest x.3 x.4 a.others ts p.1 a.written x.2;
  together = one_together op found s x.0 x.1 rest x.4 a.others a.together;
}
said_behind op found s ts rest x (Err e) a = tt

-- what was read of all options, and what they say
abbrev All : Bool → OpName → List Setting → List Lexeme → Read (List Setting) → Type 0
All cut op found ts v = OutcomeBy (OptionsFail cut op found) (λ m. repeated (next_setting_at op false) append m found) ts v × SaidBy op found ts v

none_said : (op : OpName) (found : List Setting) (ts rest : List Lexeme) → ts ≡ rest → AreSaid op found ts rest
none_said op found ts rest e = record { others = []; written = e; together = tt }

options_by : (cut : Bool) (op : OpName) (n : ℕ) (found : List Setting) (ts : List Lexeme) → length ts ≤ suc n → ((more : List Setting) (us : List Lexeme) → length us ≤ n → All cut op more us (repeated (next_setting_at op cut) append n more us))
    → (v : Read (Option Setting)) → Each (OptionFails cut op found) op found (next_setting_at op false found) ts v → All cut op found ts (v >>= λ x. if_comes x.0 (λ y. repeated (next_setting_at op cut) append n (append found y) x.1) (Ok (found, x.1)))
options_by cut op n found ts l others (Ok (None, us)) a =
    let went = a.0 in
    (record { front = went.front; parts = went.parts; again = λ m more p h k e. none_more (next_setting_at op false) append (no_tokens op false) found ts us went m more p h k e }, none_said op found ts us a.2)
options_by cut op n found ts l others (Ok (Some s, us)) a =
    let went = a.0 in
    let fewer = a.1 in
    let b = others (found ++ s ∷ []) us (omega arith) in (
      others_with (OptionsFail cut op (found ++ s ∷ [])) (OptionsFail cut op found) (next_setting_at op false) append found s ts us went fewer (λ at why front left e p. option_behind cut op found s ts us went.front went.parts a.2 at why front left e p) (repeated (next_setting_at op cut) append n (append found s) us) b.0,
      said_behind op found s ts us a.2 (repeated (next_setting_at op cut) append n (append found s) us) b.1,
    )
options_by cut op n found ts l others (Err refusal.AtEnd) a = (tt, tt)
options_by cut op n found ts l others (Err (refusal.At at why)) a =
    let stuck = a.0 in
    (record { front = stuck.front; left = stuck.left; parts = stuck.parts; never = λ m more p h k e. stuck_more (OptionFails cut op found) (next_setting_at op false) append (no_tokens op false) found ts at why stuck m more p h k e; place = option_first cut op found at why stuck.front stuck.left stuck.place }, tt)

all_options : (cut : Bool) (op : OpName) (n : ℕ) (found : List Setting) (ts : List Lexeme) → length ts ≤ n → All cut op found ts (repeated (next_setting_at op cut) append n found ts)
unfolding repeated
all_options cut op zero found [] l =
    let went : Went (next_setting_at op false found) [] None [] = end_by (OptionFails cut op found) (next_setting_at op false found) (Some None) (no_tokens op false found) in
    (record { front = went.front; parts = went.parts; again = λ m more p h k e. none_more (next_setting_at op false) append (no_tokens op false) found [] [] went m more p h k e }, none_said op found [] [] refl)
all_options cut op zero found (t ∷ ts) l = absurd (omega arith)
all_options cut op (suc n) found ts l = options_by cut op n found ts l (λ more us k. all_options cut op n more us k) (next_setting_at op cut found ts) (option_each op cut found ts)

pub settings_local : (cut : Bool) (op : OpName) (ts : List Lexeme) → Outcome (OptionsFail cut op []) (settings_at op false) ts (settings_at op cut ts)
settings_local cut op ts = by_length (OptionsFail cut op []) (λ m. repeated (next_setting_at op false) append m []) ts (repeated (next_setting_at op cut) append (length ts) [] ts) (all_options cut op (length ts) [] ts (omega arith)).0

pub settings_said : (cut : Bool) (op : OpName) (ts rest : List Lexeme) (all : List Setting) → settings_at op cut ts ≡ Ok (all, rest) → AreSaid op [] ts rest
settings_said cut op ts rest all h = subst (SaidBy op [] ts) h (all_options cut op (length ts) [] ts (omega arith)).1
