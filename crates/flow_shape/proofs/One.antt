-- A flow has one answer.
use Rattle.std.proofs.Common.{◌≡◌, ◌<◌, ◌++◌, ◌∷◌, [], ◌==◌, not, ℕ, List, true, Option, Some, refl, sym, ap, ◌∙◌, arith, length, get_or, map, append_assoc, append-nil, subst, inl, inr}
use Rattle.std.specs.List.{AllByRecursion, range_with_len}
use Rattle.std.proofs.lemmas.Bool.{eqb-true}
use Rattle.std.proofs.lemmas.List.{ext_get_or}
use Rattle.ds_schema.specs.declared.schema.Field.{Field}
use Rattle.flow_graph.specs.Charts.{Chart, no_link}
use Rattle.flow_graph.specs.declared.flow.Flow.{Flow}
use Rattle.flow_graph.specs.declared.parts.OpParts.{OpParts}
use Rattle.flow_graph.specs.declared.parts.Stored.{Stored}
use Rattle.flow_graph.specs.declared.route.Route.{Route}
use Rattle.shape_base.specs.declared.fault.ShapeWhy.{ShapeWhy}
use Rattle.flow_shape.specs.Answers.{OneShape, ShapeOrFault, OneFault}
use Rattle.flow_shape.specs.Lowest.{IsLowest, HasNone}
use Rattle.flow_shape.specs.Files.{Clashes}
use Rattle.flow_shape.specs.Links.{AreWithin, OnCycle, is_done, is_ready, Follows}
use Rattle.flow_shape.specs.Ports.{WrongPorts}
use Rattle.flow_shape.specs.Refusals.{chart_of, operator_cause, Fits, AllFit, IsShapeOf, FirstFault, parts_at, written_at, stored_at}
use Rattle.flow_shape.proofs.Given.{ends}
use Rattle.flow_shape.proofs.Found.{made}
use Rattle.flow_shape.proofs.Labels.{link_feeds}
use Rattle.flow_shape.proofs.Orders.{and_parts, or_or, done_more, fed, one_order, same_lowest, ordered_is_free}
use Rattle.flow_shape.proofs.Same.{AgreeInto, same_cause, same_given}

-- two labellings agree on the links out of what is done
abbrev pub AgreeOn : Flow → List ℕ → List (List Field) → List (List Field) → Type 0
AgreeOn flow done a b = (l : ℕ) → l < length flow.links → is_done done (get_or flow.links l no_link).from ≡ true → get_or a l [] ≡ get_or b l []

ready_into : (flow : Flow) (done : List ℕ) (a b : List (List Field)) (x : ℕ) → AgreeOn flow done a b → is_ready flow.links done x ≡ true → AgreeInto flow a b x
ready_into flow done a b x g r l h e =
    g l h (fed flow.links done (get_or flow.links l no_link).from x (and_parts (not (is_done done x)) _ r).1 (link_feeds flow l (get_or flow.links l no_link).from x h refl e))

agree_more : (flow : Flow) (done : List ℕ) (a b : List (List Field)) (x : ℕ) → AgreeOn flow done a b → is_ready flow.links done x ≡ true → Fits (chart_of flow a) x → Fits (chart_of flow b) x → AgreeOn flow (done ++ x ∷ []) a b
agree_more flow done a b x g r s t l h d =
    let into = ready_into flow done a b x g r in
    elim (or_or (is_done done (get_or flow.links l no_link).from) (x == (get_or flow.links l no_link).from) (sym (done_more done x (get_or flow.links l no_link).from) ∙ d)) [
      | inl e ↦ g l h e
      | inr e ↦ (let same : (get_or flow.links l no_link).from ≡ x = sym (eqb-true x (get_or flow.links l no_link).from e) in
          s.gives l h same ∙ (same_given flow a b l (subst (AgreeInto flow a b) (sym same) into) ∙ sym (t.gives l h same)))
    ]

head_ready : (n : ℕ) (flow : Flow) (done more : List ℕ) (x : ℕ) (rest : List ℕ) → more ≡ x ∷ rest → Follows n flow.links done more → is_ready flow.links done x ≡ true
head_ready n flow done [] x rest e f = cc e
head_ready n flow done (y ∷ more) x rest e f = let same : y ≡ x = cc e in subst (λ w. is_ready flow.links done w ≡ true) same f.0.1

first_same : (n : ℕ) (flow : Flow) (a b : List (List Field)) (i j : ℕ) (why other : ShapeWhy) (done more before before-2 behind behind-2 : List ℕ)
    → Follows n flow.links done more → AgreeOn flow done a b → more ≡ before ++ i ∷ behind → more ≡ before-2 ++ j ∷ behind-2
    → AllByRecursion (Fits (chart_of flow a)) before → AllByRecursion (Fits (chart_of flow b)) before-2 → operator_cause (chart_of flow a) i ≡ Some why → operator_cause (chart_of flow b) j ≡ Some other → (why ≡ other) × (i ≡ j)
first_same n flow a b i j why other done more [] [] u v f g e h s t p q =
    let same : i ≡ j = cc (sym e ∙ h) in
    let one = sym p ∙ (same_cause flow a b i (ready_into flow done a b i g (head_ready n flow done more i u e f)) ∙ (ap (operator_cause (chart_of flow b)) same ∙ q)) in
    (cc one, same)
first_same n flow a b i j why other done more [] (y ∷ k) u v f g e h s t p q =
    let same : i ≡ y = cc (sym e ∙ h) in
    let one = sym p ∙ (same_cause flow a b i (ready_into flow done a b i g (head_ready n flow done more i u e f)) ∙ (ap (operator_cause (chart_of flow b)) same ∙ t.0.sound)) in
    absurd (cc one)
first_same n flow a b i j why other done more (x ∷ k) [] u v f g e h s t p q =
    let same : x ≡ j = cc (sym e ∙ h) in
    let one = sym s.0.sound ∙ (same_cause flow a b x (ready_into flow done a b x g (head_ready n flow done more x (k ++ i ∷ u) e f)) ∙ (ap (operator_cause (chart_of flow b)) same ∙ q)) in
    absurd (cc one)
first_same n flow a b i j why other done [] (x ∷ k) (y ∷ m) u v f g e h s t p q = absurd (cc e)
first_same n flow a b i j why other done (z ∷ more) (x ∷ k) (y ∷ m) u v f g e h s t p q =
    let zx : z ≡ x = cc e in
    let zy : z ≡ y = cc h in
    let one = subst (Fits (chart_of flow a)) (sym zx) s.0 in
    let two = subst (Fits (chart_of flow b)) (sym zy) t.0 in
    first_same n flow a b i j why other (done ++ z ∷ []) more k m u v f.1 (agree_more flow done a b z g f.0.1 one two) (cc e) (cc h) s.1 t.1 p q

no_first : (n : ℕ) (flow : Flow) (a b : List (List Field)) (j : ℕ) (other : ShapeWhy) (done more before behind : List ℕ)
    → Follows n flow.links done more → AgreeOn flow done a b → more ≡ before ++ j ∷ behind → ((o : ℕ) → o < n → Fits (chart_of flow a) o) → AllByRecursion (Fits (chart_of flow b)) before → operator_cause (chart_of flow b) j ≡ Some other → ⊥
no_first n flow a b j other done [] [] v f g h s t q = cc h
no_first n flow a b j other done (z ∷ more) [] v f g h s t q =
    let same : z ≡ j = cc h in
    let one = sym (s z f.0.0).sound ∙ (same_cause flow a b z (ready_into flow done a b z g f.0.1) ∙ (ap (operator_cause (chart_of flow b)) same ∙ q)) in
    cc one
no_first n flow a b j other done [] (y ∷ m) v f g h s t q = cc h
no_first n flow a b j other done (z ∷ more) (y ∷ m) v f g h s t q =
    let zy : z ≡ y = cc h in
    no_first n flow a b j other (done ++ z ∷ []) more m v f.1 (agree_more flow done a b z g f.0.1 (s z f.0.0) (subst (Fits (chart_of flow b)) (sym zy) t.0)) (cc h) s t.1 q

agree_all : (n : ℕ) (flow : Flow) (a b : List (List Field)) (done more : List ℕ) → Follows n flow.links done more → AgreeOn flow done a b → ((o : ℕ) → o < n → Fits (chart_of flow a) o) → ((o : ℕ) → o < n → Fits (chart_of flow b) o) → AgreeOn flow (done ++ more) a b
agree_all n flow a b done [] f g s t = subst (λ d. AgreeOn flow d a b) (sym (append-nil done)) g
agree_all n flow a b done (x ∷ more) f g s t =
    subst (λ d. AgreeOn flow d a b) (append_assoc done (x ∷ []) more) (agree_all n flow a b (done ++ x ∷ []) more f.1 (agree_more flow done a b x g f.0.1 (s x f.0.0) (t x f.0.0)) s t)

nothing : (flow : Flow) (a b : List (List Field)) → AgreeOn flow [] a b
nothing flow a b l h d = cc

faults_same : (flow : Flow) (why other : ShapeWhy) (o p : ℕ) → FirstFault flow why o → FirstFault flow other p → (why ≡ other) × (o ≡ p)
faults_same flow why other o p x y =
    let same : y.order ≡ x.order = one_order (length flow.ops) flow.links y.order x.order y.is_order x.is_order in
    first_same (length flow.ops) flow x.schemas y.schemas o p why other [] x.order x.before y.before x.behind y.behind x.is_order (nothing flow x.schemas y.schemas) x.place (sym same ∙ y.place) x.fit y.fit x.stands y.stands

fit_or_fault : (flow : Flow) (a : List (List Field)) (other : ShapeWhy) (p : ℕ) → AllFit (chart_of flow a) → FirstFault flow other p → ⊥
fit_or_fault flow a other p x y = no_first (length flow.ops) flow a y.schemas p other [] y.order y.before y.behind y.is_order (nothing flow a y.schemas) y.place x.fits y.fit y.stands

lowest_none : (n : ℕ) (P : ℕ → Type 0) (i : ℕ) → IsLowest n P i → HasNone n P → ⊥
lowest_none n P i low none = none i low.0 low.1

both_causes : (n : ℕ) (P : ℕ → Type 0) (cause why other : ShapeWhy) (i j : ℕ) → why ≡ cause → other ≡ cause → IsLowest n P i → IsLowest n P j → (why ≡ other) × (i ≡ j)
both_causes n P cause why other i j e f low high = (e ∙ sym f, same_lowest n P i j low high)

pub one_fault : OneFault
one_fault flow why other o p (inl x) (inl y) = both_causes (length flow.ops) (WrongPorts flow) _ why other o p x.0 y.0 x.1 y.1
one_fault flow why other o p (inl x) (inr (inl y)) = absurd (lowest_none (length flow.ops) (WrongPorts flow) o x.1 y.1)
one_fault flow why other o p (inl x) (inr (inr (inl y))) = absurd (lowest_none (length flow.ops) (WrongPorts flow) o x.1 y.0)
one_fault flow why other o p (inl x) (inr (inr (inr y))) = absurd (lowest_none (length flow.ops) (WrongPorts flow) o x.1 y.1)
one_fault flow why other o p (inr (inl x)) (inl y) = absurd (lowest_none (length flow.ops) (WrongPorts flow) p y.1 x.1)
one_fault flow why other o p (inr (inl x)) (inr (inl y)) = both_causes (length flow.ops) (OnCycle flow.links) _ why other o p x.0 y.0 x.2 y.2
one_fault flow why other o p (inr (inl x)) (inr (inr (inl y))) = absurd (lowest_none (length flow.ops) (OnCycle flow.links) o x.2 y.1)
one_fault flow why other o p (inr (inl x)) (inr (inr (inr y))) = absurd (lowest_none (length flow.ops) (OnCycle flow.links) o x.2 y.2)
one_fault flow why other o p (inr (inr (inl x))) (inl y) = absurd (lowest_none (length flow.ops) (WrongPorts flow) p y.1 x.0)
one_fault flow why other o p (inr (inr (inl x))) (inr (inl y)) = absurd (lowest_none (length flow.ops) (OnCycle flow.links) p y.2 x.1)
one_fault flow why other o p (inr (inr (inl x))) (inr (inr (inl y))) = faults_same flow why other o p x.2 y.2
one_fault flow why other o p (inr (inr (inl x))) (inr (inr (inr y))) = absurd (fit_or_fault flow y.3.0 why o y.3.1 x.2)
one_fault flow why other o p (inr (inr (inr x))) (inl y) = absurd (lowest_none (length flow.ops) (WrongPorts flow) p y.1 x.1)
one_fault flow why other o p (inr (inr (inr x))) (inr (inl y)) = absurd (lowest_none (length flow.ops) (OnCycle flow.links) p y.2 x.2)
one_fault flow why other o p (inr (inr (inr x))) (inr (inr (inl y))) = absurd (fit_or_fault flow x.3.0 other p x.3.1 y.2)
one_fault flow why other o p (inr (inr (inr x))) (inr (inr (inr y))) = both_causes (length flow.ops) (Clashes flow.ops) _ why other o p x.0 y.0 x.4 y.4

-- a shape's schemas fit the flow
fit_of : (flow : Flow) (dict : List Stored) (c : Chart) → IsShapeOf flow dict c → AllFit (chart_of flow c.schemas)
fit_of flow dict c x = subst (λ f. AllFit (chart_of f c.schemas)) x.same (record { each_link = x.schemas.each_link; fits = λ o h. record { sound = (x.schemas.fits o h).sound; gives = (x.schemas.fits o h).gives } })

pub shape_or_fault : ShapeOrFault
shape_or_fault flow dict c why o x (inl y) = lowest_none (length flow.ops) (WrongPorts flow) o y.1 x.ports
shape_or_fault flow dict c why o x (inr (inl y)) = ordered_is_free (length flow.ops) flow.links c.order o x.order (x.whole o y.2.0) y.2.1
shape_or_fault flow dict c why o x (inr (inr (inl y))) = fit_or_fault flow c.schemas why o (fit_of flow dict c x) y.2
shape_or_fault flow dict c why o x (inr (inr (inr y))) = lowest_none (length flow.ops) (Clashes flow.ops) o y.4 x.files

same_schemas : (flow : Flow) (dict : List Stored) (c d : Chart) → AreWithin (length flow.ops) flow.links → IsShapeOf flow dict c → IsShapeOf flow dict d → c.schemas ≡ d.schemas
same_schemas flow dict c d w x y =
    let a = fit_of flow dict c x in
    let b = fit_of flow dict d y in
    ext_get_or [] c.schemas d.schemas (a.each_link ∙ sym b.each_link) (λ l h.
    let within : l < length flow.links = omega (arith, h, a.each_link) in
    agree_all (length flow.ops) flow c.schemas d.schemas [] c.order x.order (nothing flow c.schemas d.schemas) a.fits b.fits l within (x.whole (get_or flow.links l no_link).from (ends flow l w within).0))

chart_same : (f g : Flow) (s s-2 : List (List Field)) (p p-2 : List OpParts) (r r-2 : List (Option Route)) (o o-2 : List ℕ) (t t-2 : List (Option Stored)) → f ≡ g → s ≡ s-2 → p ≡ p-2 → r ≡ r-2 → o ≡ o-2 → t ≡ t-2 → made f s p r o t ≡ made g s-2 p-2 r-2 o-2 t-2
chart_same f g s s-2 p p-2 r r-2 o o-2 t t-2 a b c d e h =
    ap (λ x. made x s p r o t) a ∙ (ap (λ x. made g x p r o t) b ∙ (ap (λ x. made g s-2 x r o t) c ∙ (ap (λ x. made g s-2 p-2 x o t) d ∙ (ap (λ x. made g s-2 p-2 r-2 x t) e ∙ ap (λ x. made g s-2 p-2 r-2 o-2 x) h))))

pub one_shape : OneShape
one_shape flow dict c d w x y =
    let flows : c.flow ≡ d.flow = x.same ∙ sym y.same in
    let schemas = same_schemas flow dict c d w x y in
    let parts : Flow → List (List Field) → List OpParts = λ f s. map (parts_at (chart_of f s)) (range_with_len 0 (length f.ops)) in
    let routes : Flow → List (List Field) → List (Option Route) = λ f s. map (written_at (chart_of f s)) (range_with_len 0 (length f.links)) in
    let stored : Flow → List (Option Stored) = λ f. map (stored_at dict (chart_of f [])) (range_with_len 0 (length f.ops)) in
    chart_same c.flow d.flow c.schemas d.schemas c.parts d.parts c.written d.written c.order d.order c.stored d.stored flows schemas
    (x.parts ∙ (ap (λ f. parts f c.schemas) flows ∙ (ap (parts d.flow) schemas ∙ sym y.parts)))
    (x.written ∙ (ap (λ f. routes f c.schemas) flows ∙ (ap (routes d.flow) schemas ∙ sym y.written)))
    (one_order (length flow.ops) flow.links c.order d.order x.order y.order)
    (x.stored ∙ (ap stored flows ∙ sym y.stored))
