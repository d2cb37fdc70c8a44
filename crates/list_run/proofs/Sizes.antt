-- The lists on all links: they are settled after a turn for each operator, and have as many partitions as their consumers and rows that fit.
use Rattle.std.proofs.Common.{◌≡◌, ◌⊎◌, inl, inr, ℕ, zero, suc, ◌+◌, ◌<◌, ◌≤◌, cond, refl, sym, ap, ap₂, ◌∙◌, subst, List, [], ◌∷◌, ◌++◌, map, length, get_or, arith}
use Rattle.std.specs.List.{AllByRecursion, range_with_len}
use Rattle.std.proofs.lemmas.List.{length-map}
use Rattle.std.proofs.lemmas.List.Elements.{recursion_from_All}
use Rattle.std.proofs.lemmas.List.FromFn.{length-map-range_with_len}
use Rattle.ds_schema.specs.declared.schema.Field.{Field}
use Rattle.op_base.proofs.All.{all_each, all_map}
use Rattle.op_base.specs.Columns.{Row, IsIn, Lies}
use Rattle.flow_graph.specs.declared.op_kind.OpKind.{OpKind}
use Rattle.flow_graph.specs.declared.op_kind.OpKind.TheVariants as kind
use Rattle.flow_graph.specs.declared.route.Choice.{Choice}
use Rattle.flow_graph.specs.Charts.{Chart, link_at, links_into, links_from, op_at, parts_of, into_seq}
use Rattle.flow_graph.specs.FlowShape.{IsShape, ForwardOrder}
use Rattle.flow_graph.specs.Fitting.{FitsFields}
use Rattle.flow_graph.specs.Runs.{arranged_if, slice}
use Rattle.flow_derive.specs.LinkStates.{choice_at}
use Rattle.flow_ops.specs.Kept.{GivesFields}
use Rattle.list_run.specs.Held.{inputs_of, sent_by, sent_from, sent_on, got_on}
use Rattle.list_run.specs.Made.{degree_of, made_by, made_of}
use Rattle.flow_ops.specs.Kinds.{op_by, widths_into}
use Rattle.list_run.specs.Routed.{Joins, routed}
use Rattle.flow_rules.specs.Exports.{input_of}
use Rattle.list_run.specs.Runnable.{degree_at, IsBuilt, IsRunnable}
use Rattle.list_run.specs.Turns.{lists_after, got_in, sent_in}
use Rattle.list_run.proofs.Links.{in_from, in_into, from_in}
use Rattle.list_run.proofs.Inputs.{some_inputs, some_member}
use Rattle.list_run.proofs.Kept.{fields_given, inputs_fit}
use Rattle.list_run.proofs.Ordered.{in_either, order_below, ordered}
use Rattle.list_run.proofs.RowsKept.{Each, delivered_all}
use Rattle.list_run.proofs.Routes.{routed_long}

-- Members of what is asked of all.
pub lies_in : (xs ys : List ℕ) (x : ℕ) → Lies xs ys → IsIn x xs → IsIn x ys
lies_in [] ys x h i = absurd i
lies_in (z ∷ xs) ys x h (inl e) = subst (λ w. IsIn w ys) (sym e) h.0
lies_in (z ∷ xs) ys x h (inr i) = lies_in xs ys x h.1 i

-- what comes at the inputs of an operator is decided by the links into it
pub same_inputs : (got have : ℕ → List (List Row)) (ins : List ℕ) → ((i : ℕ) → IsIn i ins → got i ≡ have i) → map got ins ≡ map have ins
same_inputs got have [] h = refl
same_inputs got have (i ∷ ins) h = ap₂ (λ a b. a ∷ b) (h i (inl refl)) (same_inputs got have ins (λ j k. h j (inr k)))

-- a link whose list no longer changes from turn m on
abbrev pub Settled : Chart → ℕ → List (List Row) → ℕ → ℕ → Type 0
Settled c nodes given m l = (j k : ℕ) → m ≤ j → m ≤ k → lists_after c nodes given j l ≡ lists_after c nodes given k l

settled_later : (c : Chart) (nodes : ℕ) (given : List (List Row)) (m n l : ℕ) → m ≤ n → Settled c nodes given m l → Settled c nodes given n l
settled_later c nodes given m n l h s = λ j k a b. s j k (omega (arith, h, a)) (omega (arith, h, b))

next_list : (c : Chart) (nodes : ℕ) (given : List (List Row)) (k l : ℕ) → lists_after c nodes given (suc k) l ≡ got_on c nodes l (sent_on c (lists_after c nodes given k) (λ i. get_or given i []) l)
unfolding lists_after
next_list c nodes given k l = refl

-- what is sent depends on what came at the inputs
pub sent_again : (c : Chart) (o l : ℕ) (got have : ℕ → List (List Row)) (given : ℕ → List Row) → (link_at c l).from ≡ o → ((i : ℕ) → IsIn i (links_into c o) → got i ≡ have i) → sent_on c got given l ≡ sent_on c have given l
sent_again c o l got have given e h =
    ap (λ p. sent_from c l p (inputs_of c p got) (given l)) e
    ∙ ap (λ ins. sent_from c l o ins (given l)) (same_inputs got have (links_into c o) h)
    ∙ sym (ap (λ p. sent_from c l p (inputs_of c p have) (given l)) e)

settled_next : (c : Chart) (nodes : ℕ) (given : List (List Row)) (m o l : ℕ) → (link_at c l).from ≡ o → ((i : ℕ) → IsIn i (links_into c o) → Settled c nodes given m i) → Settled c nodes given (suc m) l
settled_next c nodes given m o l e f zero k a d = absurd (omega (arith, a))
settled_next c nodes given m o l e f (suc j) zero a d = absurd (omega (arith, d))
settled_next c nodes given m o l e f (suc j) (suc k) a d =
    next_list c nodes given j l
    ∙ ap (got_on c nodes l) (sent_again c o l (lists_after c nodes given j) (lists_after c nodes given k) (λ i. get_or given i []) e (λ i n. f i n j k (omega (arith, a)) (omega (arith, d))))
    ∙ sym (next_list c nodes given k l)

pub all_settled : (c : Chart) (nodes : ℕ) (given : List (List Row)) (m : ℕ) (seen order : List ℕ) → ForwardOrder c seen order → ((l : ℕ) → IsIn l seen → Settled c nodes given m l) → (l : ℕ) → IsIn (link_at c l).from order → Settled c nodes given (m + length order) l
all_settled c nodes given m seen [] f s l i = absurd i
all_settled c nodes given m seen (o ∷ order) f s l i = go i (λ j. all_settled c nodes given (suc m) (links_from c o ++ seen) order f.1 (λ p q. split p (in_either p (links_from c o) seen q)) l j)
  where
    inputs : (p : ℕ) → IsIn p (links_into c o) → Settled c nodes given m p
    inputs p j = s p (lies_in (links_into c o) seen p f.0 j)

    split : (p : ℕ) → (IsIn p (links_from c o) ⊎ IsIn p seen) → Settled c nodes given (suc m) p
    split p (inl j) = settled_next c nodes given m o p (in_from c o p j).1 inputs
    split p (inr j) = settled_later c nodes given m (suc m) p (omega arith) (s p j)

    go : ((link_at c l).from ≡ o) ⊎ IsIn (link_at c l).from order → (IsIn (link_at c l).from order → Settled c nodes given (suc m + length order) l) → Settled c nodes given (m + suc (length order)) l
    go (inl e) rec = settled_later c nodes given (suc m) (m + suc (length order)) l (omega arith) (settled_next c nodes given m o l e inputs)
    go (inr j) rec = settled_later c nodes given (suc m + length order) (m + suc (length order)) l (omega arith) (rec j)

-- the lists on links in the end, and those that are sent, determine one another
pub got_is : (c : Chart) (nodes : ℕ) (given : List (List Row)) → IsShape c → (l : ℕ) → IsIn (link_at c l).from c.order → got_in c nodes given l ≡ got_on c nodes l (sent_in c nodes given l)
got_is c nodes given shape l i = all_settled c nodes given 0 [] c.order shape.order.forward (λ p q. absurd q) l i (length c.order) (suc (length c.order)) (omega arith) (omega arith) ∙ next_list c nodes given (length c.order) l

-- the fields of a link
abbrev pub fields_at : Chart → ℕ → List Field
fields_at c l = get_or c.schemas l []

-- partitions and rows as they should be
abbrev pub GotFits : Chart → ℕ → List (List Row) → ℕ → Type 0
GotFits c nodes given l = (length (got_in c nodes given l) ≡ degree_at c nodes (link_at c l).to) × Each (FitsFields (fields_at c l)) (got_in c nodes given l)

abbrev pub SentFits : Chart → ℕ → List (List Row) → ℕ → Type 0
SentFits c nodes given l = (length (sent_in c nodes given l) ≡ degree_at c nodes (link_at c l).from) × Each (FitsFields (fields_at c l)) (sent_in c nodes given l)

-- what comes at an operator's inputs
abbrev pub AllCame : Chart → ℕ → ℕ → (ℕ → List (List Row)) → Type 0
AllCame c nodes o got = (i : ℕ) → IsIn i (links_into c o) → (length (got i) ≡ degree_at c nodes o) × Each (FitsFields (fields_at c i)) (got i)

-- and what the operator puts on a link
abbrev GivenFits : Chart → ℕ → ℕ → ℕ → List (List Row) → Type 0
GivenFits c nodes o l sent = (length sent ≡ degree_at c nodes o) × Each (FitsFields (fields_at c l)) sent

first_input : (got : ℕ → List (List Row)) (ins : List ℕ) → 0 < length ins → get_or (map got ins) 0 [] ≡ got (get_or ins 0 0)
first_input got [] m = absurd (omega (arith, m))
first_input got (i ∷ ins) m = refl

-- as many partitions as the operator has
pub degree_is : (c : Chart) (nodes o : ℕ) (got : ℕ → List (List Row)) → 0 < length (links_into c o) → ((i : ℕ) → IsIn i (links_into c o) → length (got i) ≡ degree_at c nodes o) → degree_of (inputs_of c o got) ≡ degree_at c nodes o
degree_is c nodes o got some long = ap length (first_input got (links_into c o) some) ∙ long (input_of c o) (some_member (links_into c o) some)

made_fits : (c : Chart) (nodes : ℕ) (o l : ℕ) (k : OpKind) (got : ℕ → List (List Row)) → IsShape c → o < length c.flow.ops → (op_at c o).kind ≡ k → IsBuilt c o k → 0 < length (links_into c o) → GivesFields c o (op_by o k (parts_of c o) (widths_into c o)) → IsIn l (links_from c o) → AllCame c nodes o got →
    GivenFits c nodes o l (made_by o k (parts_of c o) (widths_into c o) (link_at c l).out (inputs_of c o got))
made_fits c nodes o l k got shape m e b some gives i came =
    let inputs = inputs_of c o got in
    let make : ℕ → List Row = λ p. made_of o k (parts_of c o) (widths_into c o) (link_at c l).out (slice p inputs) in (
      length-map-range_with_len make 0 (degree_of inputs) ∙ degree_is c nodes o got some (λ j n. (came j n).0),
      all_each (AllByRecursion (FitsFields (fields_at c l))) make (λ p. gives l i (slice p inputs) (inputs_fit c got (links_into c o) p (λ j n. (came j n).1))) (range_with_len 0 (degree_of inputs)),
    )

kind_fits : (c : Chart) (nodes : ℕ) (o l : ℕ) (k : OpKind) → IsShape c → o < length c.flow.ops → (op_at c o).kind ≡ k → IsBuilt c o k → (got : ℕ → List (List Row)) (rows : List Row) → IsIn l (links_from c o) → AllByRecursion (FitsFields (fields_at c l)) rows → AllCame c nodes o got →
    GivenFits c nodes o l (sent_by o k (parts_of c o) (widths_into c o) (link_at c l).out (inputs_of c o got) rows)
kind_fits c nodes o l (kind.Import file schema delim fixed reject) shape m e b got rows i r h = (sym (ap (λ s. cond s 1 nodes) b), (r, tt))
kind_fits c nodes o l (kind.Export file delim fixed) shape m e b got rows i r h = absurd (subst (IsIn l) b i)
kind_fits c nodes o l k shape m e b got rows i r h = made_fits c nodes o l k got shape m e b (some_inputs c o k shape m e b tt) (fields_given c o k shape m e b tt) i h

pub sent_fits : (c : Chart) (nodes : ℕ) (given : List (List Row)) (o l : ℕ) → IsShape c → o < length c.flow.ops → IsBuilt c o (op_at c o).kind → l < length c.flow.links → (link_at c l).from ≡ o → AllByRecursion (FitsFields (fields_at c l)) (get_or given l []) →
    AllCame c nodes o (got_in c nodes given) → SentFits c nodes given l
sent_fits c nodes given o l shape m b k e r h =
    let is = ap (λ p. sent_from c l p (inputs_of c p (got_in c nodes given)) (get_or given l [])) e in
    let f = kind_fits c nodes o l (op_at c o).kind shape m refl b (got_in c nodes given) (get_or given l []) (from_in c o l k e) r h in
    (ap length is ∙ f.0 ∙ ap (degree_at c nodes) (sym e), subst (λ (s : List (List Row)). Each (FitsFields (fields_at c l)) s) (sym is) f.1)

pub got_fits : (c : Chart) (nodes : ℕ) (given : List (List Row)) (l : ℕ) → got_in c nodes given l ≡ got_on c nodes l (sent_in c nodes given l) →
    Joins (into_seq c l) (choice_at c l).method (degree_at c nodes (link_at c l).from) (degree_at c nodes (link_at c l).to) → SentFits c nodes given l → GotFits c nodes given l
got_fits c nodes given l is j f =
    let n = degree_at c nodes (link_at c l).to in
    let sent = sent_in c nodes given l in
    let j' = subst (λ (k : ℕ). Joins (into_seq c l) (choice_at c l).method k n) (sym f.0) j in (
      ap length is ∙ length-map (routed (into_seq c l) (choice_at c l).method n sent) (arranged_if (choice_at c l).sort) ∙ routed_long (into_seq c l) (choice_at c l).method n sent j',
      subst (λ (g : List (List Row)). Each (FitsFields (fields_at c l)) g) (sym is) (delivered_all (FitsFields (fields_at c l)) (into_seq c l) (choice_at c l) n sent f.1),
    )

-- what is asked of a flow
abbrev pub Built : Chart → List ℕ → Type 0
Built c order = AllByRecursion (λ o. (o < length c.flow.ops) × IsBuilt c o (op_at c o).kind) order

pub built_order : (c : Chart) (choices : List Choice) (nodes : ℕ) (given : List (List Row)) → IsRunnable c choices nodes given → Built c c.order
built_order c choices nodes given r = all_map (λ o. o < length c.flow.ops) (λ o. (o < length c.flow.ops) × IsBuilt c o (op_at c o).kind) (λ o m. (m, r.run.built o m)) c.order (order_below c r.shape.order)

pub from_ordered : (c : Chart) (choices : List Choice) (nodes : ℕ) (given : List (List Row)) → IsRunnable c choices nodes given → (l : ℕ) → l < length c.flow.links → IsIn (link_at c l).from c.order
from_ordered c choices nodes given r l m = ordered c r.shape.order (link_at c l).from (r.shape.links l m).from

pub got_means : (c : Chart) (choices : List Choice) (nodes : ℕ) (given : List (List Row)) → IsRunnable c choices nodes given → (l : ℕ) → l < length c.flow.links → got_in c nodes given l ≡ got_on c nodes l (sent_in c nodes given l)
got_means c choices nodes given r l m = got_is c nodes given r.shape l (from_ordered c choices nodes given r l m)

-- all lists are as they should be
abbrev pub Fits : Chart → ℕ → List (List Row) → ℕ → Type 0
Fits c nodes given l = SentFits c nodes given l × GotFits c nodes given l

fits_from : (c : Chart) (choices : List Choice) (nodes : ℕ) (given : List (List Row)) → IsRunnable c choices nodes given → (seen order : List ℕ) → Built c order → ForwardOrder c seen order → ((l : ℕ) → IsIn l seen → Fits c nodes given l) →
    (l : ℕ) → l < length c.flow.links → IsIn (link_at c l).from order → Fits c nodes given l
fits_from c choices nodes given r seen [] b f s l k i = absurd i
fits_from c choices nodes given r seen (o ∷ order) b f s l k i = go i (λ j. fits_from c choices nodes given r (links_from c o ++ seen) order b.1 f.1 (λ p q. split p (in_either p (links_from c o) seen q)) l k j)
  where
    came : AllCame c nodes o (got_in c nodes given)
    came p j = let g = (s p (lies_in (links_into c o) seen p f.0 j)).1 in (g.0 ∙ ap (degree_at c nodes) (in_into c o p j).1, g.1)

    here : (p : ℕ) → p < length c.flow.links → (link_at c p).from ≡ o → Fits c nodes given p
    here p m e =
        let sent = sent_fits c nodes given o p r.shape b.0.0 b.0.1 m e (recursion_from_All (FitsFields (fields_at c p)) (get_or given p []) (r.run.rows p m)) came in
        (sent, got_fits c nodes given p (got_means c choices nodes given r p m) (r.run.joins p m) sent)

    split : (p : ℕ) → (IsIn p (links_from c o) ⊎ IsIn p seen) → Fits c nodes given p
    split p (inl j) = let k = in_from c o p j in here p k.0 k.1
    split p (inr j) = s p j

    go : ((link_at c l).from ≡ o) ⊎ IsIn (link_at c l).from order → (IsIn (link_at c l).from order → Fits c nodes given l) → Fits c nodes given l
    go (inl e) rec = here l k e
    go (inr j) rec = rec j

pub all_fit : (c : Chart) (choices : List Choice) (nodes : ℕ) (given : List (List Row)) → IsRunnable c choices nodes given → (l : ℕ) → l < length c.flow.links → Fits c nodes given l
all_fit c choices nodes given r l m = fits_from c choices nodes given r [] c.order (built_order c choices nodes given r) r.shape.order.forward (λ p q. absurd q) l m (from_ordered c choices nodes given r l m)

-- what comes at an operator
pub all_came : (c : Chart) (choices : List Choice) (nodes : ℕ) (given : List (List Row)) → IsRunnable c choices nodes given → (o : ℕ) → AllCame c nodes o (got_in c nodes given)
all_came c choices nodes given r o i j = let k = in_into c o i j in let g = (all_fit c choices nodes given r i k.0).1 in (g.0 ∙ ap (degree_at c nodes) k.1, g.1)
