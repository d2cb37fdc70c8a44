-- What a typed tree gives its parts.
use Rattle.std.proofs.Common.{◌≡◌, ◌≢◌, ◌<◌, ◌+◌, ℕ, suc, List, [], ◌∷◌, Option, Some, None, Result, Ok, Err, true, map, length, get_or, drop, drop-cons, slice_get, sym, ap, subst, ◌∙◌, refl, arith}
use Rattle.std.specs.Prelude.{IfSome, IfOk}
use Rattle.std.specs.List.{AllByRecursion}
use Rattle.std.proofs.lemmas.Option.{slice_get_within}
use Rattle.ds_value.specs.declared.value.Value.{Value}
use Rattle.ds_schema.specs.declared.schema.Field.{Field}
use Rattle.ds_schema.specs.Schemas.{IsSchema, IsField, row_fits}
use Rattle.expr_table.specs.declared.arg.Arg.{Arg}
use Rattle.expr_table.specs.declared.arg.EvalFault.{EvalFault}
use Rattle.expr_table.specs.declared.arg.EvalFault.TheVariants as fault
use Rattle.expr_table.specs.declared.entry.Entry.{Entry}
use Rattle.expr_table.specs.TableRows.{rows}
use Rattle.expr_table.specs.Calls.{Answers, AreInRange, IsInRange}
use Rattle.expr_table.specs.Meaning.{◌>>=◌, value_of}
use Rattle.ds_expr.specs.declared.node.Typing.{Typing}
use Rattle.ds_expr.specs.declared.node.Applied.{Applied}
use Rattle.ds_expr.specs.declared.node.Node.{Node}
use Rattle.ds_expr.specs.Typing.{typing_in, typing_of_use, all_typed, then_some, typings_joined}
use Rattle.ds_expr.specs.Typed.{AreArgs, Fits, HasTyping, IsRow, JoinsFrom, link_typing}
use Rattle.ds_expr.specs.Values.{value_in, values, applied, joined, all_joined, then_joined, valued_link, Valued}
use Rattle.ds_expr.specs.declared.node.Node.TheVariants as made
use Rattle.ds_expr.proofs.Trees.{chain_typed, call_typing, chain_valued}
use Rattle.ds_expr.proofs.Fits.{RowIs, row_is, NodeFits}
use Rattle.ds_expr.proofs.FitsTrees.{node_fits, args_fit, first_link, joined_fits}

-- ---- rows

pub row_within : (u : Applied) → IsRow u → u.row < 53
row_within u r = slice_get_within rows u.row r.entry r.at

pub row_answers : (u : Applied) (args : List Arg) (answer : Valued) → IsRow u → IfSome (slice_get rows u.row) (λ e. Answers answer (value_of e.name u.scales args)) → Answers answer (applied u args)
row_answers u args answer r h =
    let a : Answers answer (value_of r.entry.name u.scales args) = subst (λ (o : Option Entry). IfSome o (λ e. Answers answer (value_of e.name u.scales args))) r.at h in
    λ n. a n ∙ ap (λ f. value_of f u.scales args) r.name

row_of : (u : Applied) (ts : List Typing) (t : Typing) → RowIs u ts t → IsRow u
row_of u ts t r = record { entry = r.entry; at = r.at; name = r.name; small = r.small }

-- ---- calls

args_row_by : (u : Applied) (ts : List Typing) (o : Option Typing) → typing_of_use u ts ≡ o → o ≢ None → IsRow u
args_row_by u ts None g h = absurd (h refl)
args_row_by u ts (Some t) g h = row_of u ts t (row_is u ts t g)

args_row_from : (u : Applied) (o : Option (List Typing)) → then_some o (typing_of_use u) ≢ None → IsRow u
args_row_from u None h = absurd (h refl)
args_row_from u (Some ts) h = args_row_by u ts (typing_of_use u ts) refl h

pub args_row : (fields : List Field) (u : Applied) (args : List Node) → AreArgs fields u args → IsRow u
args_row fields u args h = args_row_from u (all_typed (map (typing_in fields) args)) h

some_typed : {A B : Type 0} (o : Option A) (f : A → Option B) → then_some o f ≢ None → o ≢ None
some_typed None f h = λ e. h refl
some_typed (Some x) f h = λ e. absurd cc

each_by : (fields : List Field) (n : Node) (nodes : List Node) (o : Option Typing) → typing_in fields n ≡ o → then_some o (λ t. then_some (all_typed (map (typing_in fields) nodes)) (λ ts. Some (t ∷ ts))) ≢ None → HasTyping fields n × (all_typed (map (typing_in fields) nodes) ≢ None)
each_by fields n nodes None g h = absurd (h refl)
each_by fields n nodes (Some t) g h = ((λ e. (let k : Some t ≡ None = sym g ∙ e in absurd cc)), some_typed (all_typed (map (typing_in fields) nodes)) (λ ts. Some (t ∷ ts)) h)

each_typed : (fields : List Field) (nodes : List Node) → all_typed (map (typing_in fields) nodes) ≢ None → AllByRecursion (HasTyping fields) nodes
each_typed fields [] h = tt
each_typed fields (n ∷ nodes) h = let k = each_by fields n nodes (typing_in fields n) refl h in (k.0, each_typed fields nodes k.1)

pub args_typed : (fields : List Field) (u : Applied) (args : List Node) → AreArgs fields u args → AllByRecursion (HasTyping fields) args
args_typed fields u args h = each_typed fields args (some_typed (all_typed (map (typing_in fields) args)) (typing_of_use u) h)

nodes_fit : (fields : List Field) (row : List Value) (nodes : List Node) → AllByRecursion IsField fields → row_fits fields row ≡ true → AllByRecursion (NodeFits fields row) nodes
nodes_fit fields row [] h r = tt
nodes_fit fields row (n ∷ nodes) h r = (node_fits fields row h r n, nodes_fit fields row nodes h r)

range_by : (fields : List Field) (row : List Value) (nodes : List Node) (vs : List Arg) (o : Option (List Typing)) → IsSchema fields → row_fits fields row ≡ true → all_typed (map (typing_in fields) nodes) ≡ o → o ≢ None → values [] (map (value_in row) nodes) ≡ Ok vs → AreInRange vs
range_by fields row nodes vs None s r g h e = absurd (h refl)
range_by fields row nodes vs (Some ts) s r g h e =
    let a = args_fit fields row nodes ts [] vs (nodes_fit fields row nodes s.each r) g e in
    subst AreInRange (sym a.whole) a.fit.range

pub args_in_range : (fields : List Field) (row : List Value) (u : Applied) (args : List Node) (vs : List Arg) → IsSchema fields → row_fits fields row ≡ true → AreArgs fields u args → values [] (map (value_in row) args) ≡ Ok vs → AreInRange vs
args_in_range fields row u args vs s r h e = range_by fields row args vs (all_typed (map (typing_in fields) args)) s r refl (some_typed (all_typed (map (typing_in fields) args)) (typing_of_use u) h) e

-- ---- a value

value_by : (fields : List Field) (row : List Value) (n : Node) (v : Arg) (o : Option Typing) → IsSchema fields → row_fits fields row ≡ true → typing_in fields n ≡ o → o ≢ None → value_in row n ≡ Ok v → (t : Typing) × Fits t v × (typing_in fields n ≡ Some t)
value_by fields row n v None s r g h e = absurd (h refl)
value_by fields row n v (Some t) s r g h e = (t, node_fits fields row s.each r n t v g e, g)

pub value_in_range : (fields : List Field) (row : List Value) (n : Node) (v : Arg) → IsSchema fields → row_fits fields row ≡ true → HasTyping fields n → value_in row n ≡ Ok v → IsInRange v
value_in_range fields row n v s r h e = (value_by fields row n v (typing_in fields n) s r refl h e).1.1

-- ---- operands joined from the left

pub joins_first : (fields : List Field) (row : List Value) (first : Node) (links : List (Applied × Node)) (x : Arg) → IsSchema fields → row_fits fields row ≡ true → then_some (typing_in fields first) (λ t. typings_joined t (map (link_typing fields) links)) ≢ None → value_in row first ≡ Ok x → JoinsFrom fields links x
joins_first fields row first links x s r h e =
    let k = value_by fields row first x (typing_in fields first) s r refl (some_typed (typing_in fields first) _ h) e in
    record { typing = k.0; fits = k.1; joins = λ n. h (ap (λ (o : Option Typing). then_some o (λ t. typings_joined t (map (link_typing fields) links))) k.2 ∙ n) }

-- the first of some operands, and those behind it
pub record Step (fields : List Field) (row : List Value) (l : Applied × Node) (links : List (Applied × Node)) (x : Arg) : Type 0 where
  pub right : HasTyping fields l.1
  pub row_is : IsRow l.0
  pub left : IsInRange x
  pub behind : (y : Arg) → joined l.0 x (value_in row l.1) ≡ Ok y → JoinsFrom fields links y

step_by : (fields : List Field) (row : List Value) (l : Applied × Node) (links : List (Applied × Node)) (x : Arg) (s : Typing) (o : Option Typing) → IsSchema fields → row_fits fields row ≡ true → Fits s x → typings_joined s (map (link_typing fields) (l ∷ links)) ≡ o → o ≢ None → Step fields row l links x
step_by fields row l links x s None sc r f g h = absurd (h refl)
step_by fields row l links x s (Some t) sc r f g h =
    let k = first_link (typing_in fields l.1) l.0 s (map (link_typing fields) links) t g in
    record {
      right = λ e. (let c : None ≡ Some k.right = sym e ∙ k.first in absurd cc);
      row_is = row_of l.0 (s ∷ k.right ∷ []) k.both (row_is l.0 (s ∷ k.right ∷ []) k.both k.row);
      left = f.1;
      behind = λ y e. record {
        typing = k.both;
        fits = joined_fits l.0 s k.right k.both x y (value_in row l.1) k.row f (λ z m. node_fits fields row sc.each r l.1 k.right z k.first m) e;
        joins = λ n. (let c : Some t ≡ None = sym k.rest ∙ n in absurd cc);
      };
    }

pub step : (fields : List Field) (row : List Value) (l : Applied × Node) (links : List (Applied × Node)) (x : Arg) → IsSchema fields → row_fits fields row ≡ true → JoinsFrom fields (l ∷ links) x → Step fields row l links x
step fields row l links x s r j = step_by fields row l links x j.typing (typings_joined j.typing (map (link_typing fields) (l ∷ links))) s r j.fits refl j.joins

pub split_at : (links : List (Applied × Node)) (i : ℕ) (l : Applied × Node) → i < length links → l ≡ get_or links i l → drop i links ≡ l ∷ drop (i + 1) links
split_at links i l within at = drop-cons links i l within ∙ (ap (λ (m : Applied × Node). m ∷ drop (suc i) links) (sym at) ∙ ap (λ (n : ℕ). l ∷ drop n links) (let one : suc i ≡ i + 1 = omega arith in one))

pub fault_known : (answer v : Valued) (f : EvalFault) → Answers (let r : Valued = Err f in r) v → (let r : Valued = Err f in r) ≢ Err fault.Memory → v ≡ Err f
fault_known answer v f a n = sym (a n)

pub ok_known : (v : Valued) (x : Arg) → Answers (let r : Valued = Ok x in r) v → v ≡ Ok x
ok_known v x a = sym (a (λ e. absurd cc))

pub all_known : (v : Result (List Arg) EvalFault) (xs : List Arg) → Answers (let r : Result (List Arg) EvalFault = Ok xs in r) v → v ≡ Ok xs
all_known v xs a = sym (a (λ e. absurd cc))

-- a step of the loop
pub join_next : (row : List Value) (links : List (Applied × Node)) (i : ℕ) (l : Applied × Node) (x y first : Arg) → i < length links → l ≡ get_or links i l → joined l.0 x (value_in row l.1) ≡ Ok y
    → all_joined x (map (valued_link row) (drop i links)) ≡ all_joined first (map (valued_link row) links) → all_joined y (map (valued_link row) (drop (i + 1) links)) ≡ all_joined first (map (valued_link row) links)
join_next row links i l x y first within at e h =
    let s = split_at links i l within at in
    sym (ap (λ (ls : List (Applied × Node)). all_joined x (map (valued_link row) ls)) s ∙ ap (λ (v : Valued). v >>= λ z. all_joined z (map (valued_link row) (drop (i + 1) links))) e) ∙ h

pub join_fault : (row : List Value) (links : List (Applied × Node)) (i : ℕ) (l : Applied × Node) (x first : Arg) (f : EvalFault) → i < length links → l ≡ get_or links i l → Answers (let r : Valued = Err f in r) (joined l.0 x (value_in row l.1))
    → all_joined x (map (valued_link row) (drop i links)) ≡ all_joined first (map (valued_link row) links) → Answers (let r : Valued = Err f in r) (all_joined first (map (valued_link row) links))
join_fault row links i l x first f within at a h = λ n.
    let s = split_at links i l within at in
    let e : joined l.0 x (value_in row l.1) ≡ Err f = sym (a n) in
    sym (ap (λ (ls : List (Applied × Node)). all_joined x (map (valued_link row) ls)) s ∙ ap (λ (v : Valued). v >>= λ z. all_joined z (map (valued_link row) (drop (i + 1) links))) e) ∙ h

-- ---- trees

pub chain_joins : (fields : List Field) (row : List Value) (tree first read : Node) (links more : List (Applied × Node)) (x : Arg) → IsSchema fields → row_fits fields row ≡ true → HasTyping fields tree → tree ≡ made.Chain first links → read ≡ first → more ≡ links → value_in row read ≡ Ok x → JoinsFrom fields more x
chain_joins fields row tree first read links more x s r h is got listed e =
    let known : JoinsFrom fields links x = joins_first fields row first links x s r (λ n. h (ap (typing_in fields) is ∙ (chain_typed fields first links ∙ n))) (ap (value_in row) (sym got) ∙ e) in
    subst (λ (ls : List (Applied × Node)). JoinsFrom fields ls x) (sym listed) known

pub chain_value : (row : List Value) (tree first read : Node) (links more : List (Applied × Node)) (x : Arg) (answer : Valued) → tree ≡ made.Chain first links → read ≡ first → more ≡ links → value_in row read ≡ Ok x → Answers answer (all_joined x (map (valued_link row) more)) → Answers answer (value_in row tree)
chain_value row tree first read links more x answer is got listed e a = λ n.
    a n ∙ (ap (λ (ls : List (Applied × Node)). all_joined x (map (valued_link row) ls)) listed
    ∙ sym (ap (value_in row) is ∙ (chain_valued row first links ∙ ap (λ (v : Valued). then_joined v (map (valued_link row) links)) (ap (value_in row) (sym got) ∙ e))))

pub first_typed : (fields : List Field) (tree first read : Node) (links : List (Applied × Node)) → HasTyping fields tree → tree ≡ made.Chain first links → read ≡ first → HasTyping fields read
first_typed fields tree first read links h is got =
    let k = some_typed (typing_in fields first) (λ t. typings_joined t (map (link_typing fields) links)) (λ n. h (ap (typing_in fields) is ∙ (chain_typed fields first links ∙ n))) in
    subst (HasTyping fields) (sym got) k

pub call_args : (fields : List Field) (tree : Node) (u : Applied) (args more : List Node) → HasTyping fields tree → tree ≡ made.Call u args → more ≡ args → AreArgs fields u more
call_args fields tree u args more h is listed = λ n.
    h (ap (typing_in fields) is ∙ (call_typing fields u args ∙ (ap (λ (ns : List Node). then_some (all_typed (map (typing_in fields) ns)) (typing_of_use u)) (sym listed) ∙ n)))

-- ---- the loop over operands

next_step : (fields : List Field) (row : List Value) (links : List (Applied × Node)) (i : ℕ) (l : Applied × Node) (x : Arg) → i < length links → l ≡ get_or links i l → IsSchema fields → row_fits fields row ≡ true → JoinsFrom fields (drop i links) x → Step fields row l (drop (i + 1) links) x
next_step fields row links i l x within at s r j = step fields row l (drop (i + 1) links) x s r (subst (λ (ls : List (Applied × Node)). JoinsFrom fields ls x) (split_at links i l within at) j)

pub next_operand : (fields : List Field) (row : List Value) (links : List (Applied × Node)) (i : ℕ) (l : Applied × Node) (x : Arg) → i < length links → l ≡ get_or links i l → IsSchema fields → row_fits fields row ≡ true → JoinsFrom fields (drop i links) x
    → HasTyping fields l.1 × (IsInRange x × (IsRow l.0 × (IsSchema fields × (row_fits fields row ≡ true))))
next_operand fields row links i l x within at s r j = let k = next_step fields row links i l x within at s r j in (k.right, (k.left, (k.row_is, (s, r))))

pub next_joins : (fields : List Field) (row : List Value) (links : List (Applied × Node)) (i : ℕ) (l : Applied × Node) (x y : Arg) → i < length links → l ≡ get_or links i l → IsSchema fields → row_fits fields row ≡ true → JoinsFrom fields (drop i links) x → joined l.0 x (value_in row l.1) ≡ Ok y
    → JoinsFrom fields (drop (i + 1) links) y
next_joins fields row links i l x y within at s r j e = (next_step fields row links i l x within at s r j).behind y e

-- ---- the whole

pub value_fits : (fields : List Field) (row : List Value) (n : Node) (t : Typing) (r : Valued) → IsSchema fields → row_fits fields row ≡ true → typing_in fields n ≡ Some t → Answers r (value_in row n) → IfOk r (Fits t)
value_fits fields row n t (Ok v) s f g a = node_fits fields row s.each f n t v g (ok_known (value_in row n) v a)
value_fits fields row n t (Err e) s f g a = tt

pub eval_fits : (fields read : List Field) (row : List Value) (n seen : Node) (t : Typing) (r : Valued) → read ≡ fields → IsSchema read → row_fits fields row ≡ true → seen ≡ n → typing_in fields n ≡ Some t → Answers r (value_in row seen) → IfOk r (Fits t)
eval_fits fields read row n seen t r same s f got g a = value_fits fields row n t r (subst IsSchema same s) f g (subst (λ (m : Node). Answers r (value_in row m)) got a)
