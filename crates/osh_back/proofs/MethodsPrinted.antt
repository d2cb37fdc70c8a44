-- Printed methods and redirects are tokens that spell them.
use Rattle.std.proofs.Common.{◌≡◌, ◌<◌, ◌^◌, ℕ, List, [], ◌∷◌, ◌++◌, map, refl, sym, ap, ◌∙◌, subst, append_assoc}
use Rattle.std.specs.Prelude.{codes}
use Rattle.ds_lex.specs.declared.token.Mode.TheVariants.{Osh}
use Rattle.ds_lex.specs.declared.token.Sort.TheVariants as sort
use Rattle.ds_lex.specs.Lexemes.{Lexeme}
use Rattle.ds_lex.specs.Phrases.{Phrase, word, token, nothing, nothing_where, ◌~◌, ◌<|>◌}
use Rattle.ds_lex.proofs.Printed.{Prints, prints_nothing, prints_then, blank_before, prints_word, prints_name, anything}
use Rattle.ds_schema.specs.ColumnGrammar.{names_form, keys_form}
use Rattle.ds_schema.specs.ColumnText.{names_text, keys_text}
use Rattle.ds_value.specs.Names.{IsName}
use Rattle.flow_graph.specs.declared.flow.Method.{Method}
use Rattle.flow_graph.specs.declared.flow.Method.TheVariants as method
use Rattle.flow_graph.specs.declared.flow.Flag.{Flag}
use Rattle.flow_graph.specs.declared.flow.Flag.TheVariants as flag
use Rattle.osh_read.specs.declared.stage.Redirect.{Redirect}
use Rattle.osh_read.specs.declared.stage.Redirect.TheVariants as redirect
use Rattle.osh_print.specs.LinkText.{kind_text, link_flag, bracketed, method_text, link_name}
use Rattle.osh_sound.specs.Grammar.{flag_word, name_form, kind_phrase, inside_phrase, method_phrase, redirects_phrase}
use Rattle.osh_sound.specs.ValueLaws.{IsColumn}
use Rattle.osh_back.specs.Spelled.{MethodFits}
use Rattle.osh_back.proofs.PrintedWords.{narrow, prints_as, prints_where, either_left, either_right, opens, closes, Placed, sign_then, NoWordByte, name_prints, link_word, names_print, keys_print}

-- ---- methods

column_prints : (name : List ℕ) → IsColumn name → Prints Osh (name_form name) name NoWordByte
column_prints [] h = absurd h.0
column_prints (b ∷ bytes) h = prints_name Osh b bytes (λ x. (x ≡ b ∷ bytes) × IsName x) (refl, h.1) h.0.0 h.0.1

kind_prints : (m : Method) → MethodFits m → Prints Osh (kind_phrase m) (kind_text m) NoWordByte
kind_prints method.Auto h = prints_word Osh 97 (codes "uto") refl refl
kind_prints method.Same h = prints_word Osh 115 (codes "ame") refl refl
kind_prints method.RoundRobin h = prints_word Osh 114 (codes "r") refl refl
kind_prints method.Entire h = prints_word Osh 101 (codes "ntire") refl refl
kind_prints (method.Hash names) h = prints_then Osh (word (codes "hash")) (names_form names) (codes "hash") (32 ∷ names_text names) NoWordByte NoWordByte (prints_word Osh 104 (codes "ash") refl refl) (blank_before Osh (names_form names) 32 (names_text names) NoWordByte refl (names_print names h)) (λ after f. refl)
kind_prints (method.Modulus name) h = prints_then Osh (word (codes "modulus")) (name_form name) (codes "modulus") (32 ∷ name) NoWordByte NoWordByte (prints_word Osh 109 (codes "odulus") refl refl) (blank_before Osh (name_form name) 32 name NoWordByte refl (column_prints name h)) (λ after f. refl)
kind_prints method.Any h = prints_word Osh 97 (codes "ny") refl refl
kind_prints method.Ordered h = prints_word Osh 111 (codes "rdered") refl refl
kind_prints (method.Merge keys) h = prints_then Osh (word (codes "merge")) (keys_form keys) (codes "merge") (32 ∷ keys_text keys) NoWordByte NoWordByte (prints_word Osh 109 (codes "erge") refl refl) (blank_before Osh (keys_form keys) 32 (keys_text keys) NoWordByte refl (keys_print keys h)) (λ after f. refl)

abbrev FlagPhrase : Flag → Phrase
FlagPhrase f = flag_word f <|> nothing_where (f ≡ flag.Prop)

flag_prints : (f : Flag) → Prints Osh (FlagPhrase f) (link_flag f) NoWordByte
flag_prints flag.Set = either_left (flag_word flag.Set) (nothing_where (flag.Set ≡ flag.Prop)) (codes " set") NoWordByte (blank_before Osh (word (codes "set")) 32 (codes "set") NoWordByte refl (prints_word Osh 115 (codes "et") refl refl))
flag_prints flag.Clear = either_left (flag_word flag.Clear) (nothing_where (flag.Clear ≡ flag.Prop)) (codes " clear") NoWordByte (blank_before Osh (word (codes "clear")) 32 (codes "clear") NoWordByte refl (prints_word Osh 99 (codes "lear") refl refl))
flag_prints flag.Prop = either_right (flag_word flag.Prop) (nothing_where (flag.Prop ≡ flag.Prop)) [] NoWordByte (narrow (nothing_where (flag.Prop ≡ flag.Prop)) [] anything NoWordByte (λ after f. tt) (prints_where (flag.Prop ≡ flag.Prop) refl))

flag_ends : (f : Flag) (after : List ℕ) → NoWordByte after → NoWordByte (link_flag f ++ after)
flag_ends flag.Set after h = refl
flag_ends flag.Clear after h = refl
flag_ends flag.Prop after h = h

inside_prints : (m : Method) (f : Flag) → MethodFits m → Prints Osh (inside_phrase m f) (kind_text m ++ link_flag f) NoWordByte
inside_prints m f h =
    either_right (nothing_where (m ≡ method.Auto) ~ flag_word f) (kind_phrase m ~ FlagPhrase f) (kind_text m ++ link_flag f) NoWordByte
    (prints_then Osh (kind_phrase m) (FlagPhrase f) (kind_text m) (link_flag f) NoWordByte NoWordByte (kind_prints m h) (flag_prints f) (flag_ends f))

bracket_prints : (m : Method) (f : Flag) → MethodFits m → Prints Osh (method_phrase m f) (bracketed m f) anything
bracket_prints m f h =
    either_left (word (codes "[") ~ inside_phrase m f ~ word (codes "]")) (nothing_where ((m ≡ method.Auto) × (f ≡ flag.Prop))) (bracketed m f) anything
    (prints_then Osh (word (codes "[")) (inside_phrase m f ~ word (codes "]")) (codes "[") (kind_text m ++ (link_flag f ++ codes "]")) anything anything opens
    (subst (λ (t : List ℕ). Prints Osh (inside_phrase m f ~ word (codes "]")) t anything) (append_assoc (kind_text m) (link_flag f) (codes "]"))
    (prints_then Osh (inside_phrase m f) (word (codes "]")) (kind_text m ++ link_flag f) (codes "]") NoWordByte anything (inside_prints m f h) closes (λ after g. refl)))
    (λ after g. tt))

method_prints : (m : Method) (f : Flag) → MethodFits m → Prints Osh (method_phrase m f) (method_text m f) anything
method_prints method.Auto flag.Prop h = either_right (word (codes "[") ~ inside_phrase method.Auto flag.Prop ~ word (codes "]")) (nothing_where ((method.Auto ≡ method.Auto) × (flag.Prop ≡ flag.Prop))) [] anything (prints_where ((method.Auto ≡ method.Auto) × (flag.Prop ≡ flag.Prop)) (refl, refl))
method_prints method.Auto flag.Set h = bracket_prints method.Auto flag.Set h
method_prints method.Auto flag.Clear h = bracket_prints method.Auto flag.Clear h
method_prints method.Same f h = bracket_prints method.Same f h
method_prints method.RoundRobin f h = bracket_prints method.RoundRobin f h
method_prints method.Entire f h = bracket_prints method.Entire f h
method_prints (method.Hash names) f h = bracket_prints (method.Hash names) f h
method_prints (method.Modulus name) f h = bracket_prints (method.Modulus name) f h
method_prints method.Any f h = bracket_prints method.Any f h
method_prints method.Ordered f h = bracket_prints method.Ordered f h
method_prints (method.Merge keys) f h = bracket_prints (method.Merge keys) f h

-- ---- redirects, wherever they stand

unfoldable pub unplaced : Redirect → Redirect
unplaced (redirect.In at name m f) = redirect.In 0 name m f
unplaced (redirect.Out at name) = redirect.Out 0 name

unfoldable pub Somewhere : List Redirect → Phrase
Somewhere rs ts rest = (found : List Redirect) × (map unplaced found ≡ rs) × redirects_phrase found ts rest

redirects_then : (xs ys : List Redirect) (ts us rest : List Lexeme) → redirects_phrase xs ts us → redirects_phrase ys us rest → redirects_phrase (xs ++ ys) ts rest
redirects_then [] ys ts us rest h k = subst (λ (vs : List Lexeme). redirects_phrase ys vs rest) (sym h) k
redirects_then (x ∷ xs) ys ts us rest h k = (h.0, h.1, redirects_then xs ys h.0 us rest h.2 k)

map_append : (xs ys : List Redirect) → map unplaced (xs ++ ys) ≡ map unplaced xs ++ map unplaced ys
map_append [] ys = refl
map_append (x ∷ xs) ys = ap (λ (zs : List Redirect). unplaced x ∷ zs) (map_append xs ys)

pub somewhere_then : (xs ys : List Redirect) (x y : List ℕ) (A B : List ℕ → Type 0) → Prints Osh (Somewhere xs) x A → Prints Osh (Somewhere ys) y B → ((after : List ℕ) → B after → A (y ++ after)) → Prints Osh (Somewhere (xs ++ ys)) (x ++ y) B
unfolding Somewhere
somewhere_then xs ys x y A B p q h = prints_as (Somewhere xs ~ Somewhere ys) (Somewhere (xs ++ ys)) (x ++ y) B
    (λ ts rest k. (let a = k.1 in let b = k.2 in (a.0 ++ b.0, map_append a.0 b.0 ∙ (ap (λ (zs : List Redirect). zs ++ map unplaced b.0) a.1 ∙ ap (λ (zs : List Redirect). xs ++ zs) b.1), redirects_then a.0 b.0 ts k.0 rest a.2 b.2)))
    (prints_then Osh (Somewhere xs) (Somewhere ys) x y A B p q h)

pub nowhere : Prints Osh (Somewhere []) [] NoWordByte
unfolding Somewhere
nowhere = narrow (Somewhere []) [] anything NoWordByte (λ after f. tt) (prints_as nothing (Somewhere []) [] anything (λ ts rest e. ([], refl, e)) (prints_nothing Osh))

-- an input of this link
pub in_prints : (number : ℕ) (m : Method) (f : Flag) → number < 2 ^ 64 → MethodFits m → Prints Osh (Somewhere (redirect.In 0 (link_name number) m f ∷ [])) (codes " < " ++ (method_text m f ++ link_name number)) NoWordByte
unfolding Somewhere Placed unplaced
in_prints number m f n h =
    let P : Phrase = method_phrase m f ~ token sort.Word (λ bytes. bytes ≡ link_name number) in
    let x = method_text m f ++ link_name number in
    blank_before Osh (Somewhere (redirect.In 0 (link_name number) m f ∷ [])) 32 (60 ∷ 32 ∷ x) NoWordByte refl
    (prints_as (Placed 60 P) (Somewhere (redirect.In 0 (link_name number) m f ∷ [])) (60 ∷ 32 ∷ x) NoWordByte (λ ts rest k. (redirect.In k.0 (link_name number) m f ∷ [], refl, (rest, k.1, refl)))
    (sign_then 60 P (32 ∷ x) NoWordByte (λ after. refl)
    (blank_before Osh P 32 x NoWordByte refl
    (prints_then Osh (method_phrase m f) (token sort.Word (λ bytes. bytes ≡ link_name number)) (method_text m f) (link_name number) anything NoWordByte (method_prints m f h) (name_prints (link_name number) (link_word number n)) (λ after g. tt)))))

-- an output of this link
pub out_prints : (number : ℕ) → number < 2 ^ 64 → Prints Osh (Somewhere (redirect.Out 0 (link_name number) ∷ [])) (codes " > " ++ link_name number) NoWordByte
unfolding Somewhere Placed unplaced
out_prints number n =
    let P : Phrase = token sort.Word (λ bytes. bytes ≡ link_name number) in
    let x = link_name number in
    blank_before Osh (Somewhere (redirect.Out 0 (link_name number) ∷ [])) 32 (62 ∷ 32 ∷ x) NoWordByte refl
    (prints_as (Placed 62 P) (Somewhere (redirect.Out 0 (link_name number) ∷ [])) (62 ∷ 32 ∷ x) NoWordByte (λ ts rest k. (redirect.Out k.0 (link_name number) ∷ [], refl, (rest, k.1, refl)))
    (sign_then 62 P (32 ∷ x) NoWordByte (λ after. refl)
    (blank_before Osh P 32 x NoWordByte refl (name_prints (link_name number) (link_word number n)))))
