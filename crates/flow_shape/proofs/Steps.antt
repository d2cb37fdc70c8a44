-- The operators of an order one by one: those before fit, and stay so when the links of the next get their fields.
use Rattle.std.proofs.Common.{◌≡◌, ◌<◌, ◌+◌, ◌==◌, ◌++◌, ◌∷◌, [], not, ℕ, zero, suc, List, Bool, true, false, Some, None, refl, sym, ap, ◌∙◌, arith, length, get_or, take, drop, append_assoc, append-nil, subst, inl, inr}
use Rattle.std.specs.List.{AllByRecursion}
use Rattle.std.proofs.lemmas.Bool.{eqb-true, eq-eqb}
use Rattle.std.proofs.lemmas.List.{take_more, take-append-drop, drop_more}
use Rattle.ds_schema.specs.declared.schema.Field.{Field}
use Rattle.flow_graph.specs.Charts.{no_link}
use Rattle.flow_graph.specs.declared.flow.Flow.{Flow}
use Rattle.flow_graph.specs.declared.flow.LinkSpec.{LinkSpec}
use Rattle.shape_base.specs.declared.fault.ShapeWhy.{ShapeWhy}
use Rattle.flow_shape.specs.Giving.{HasGiven}
use Rattle.flow_shape.specs.Links.{feeds, is_done, is_ready, Follows, IsOrder}
use Rattle.flow_shape.specs.Refusals.{chart_of, operator_cause, Fits, FirstFault}
use Rattle.flow_shape.proofs.Labels.{link_feeds}
use Rattle.flow_shape.proofs.Marks.{or_left, or_right}
use Rattle.flow_shape.proofs.Orders.{and_parts, or_or, done_more, fed, ready_undone}
use Rattle.flow_shape.proofs.Same.{AgreeInto, AgreeFrom, same_cause, same_given, same_fit}

-- whose consumer is done is done
abbrev pub Closed : List LinkSpec → List ℕ → Type 0
Closed links done = (c j : ℕ) → feeds links c j ≡ true → is_done done j ≡ true → is_done done c ≡ true

pub done_still : (done : List ℕ) (x c : ℕ) → is_done done c ≡ true → is_done (done ++ x ∷ []) c ≡ true
done_still done x c h = done_more done x c ∙ or_left (is_done done c) (x == c) h

closed_next : (links : List LinkSpec) (done : List ℕ) (x : ℕ) → is_ready links done x ≡ true → Closed links done → Closed links (done ++ x ∷ [])
closed_next links done x r closed c j f d = elim (or_or (is_done done j) (x == j) (sym (done_more done x j) ∙ d)) [
  | inl e ↦ done_still done x c (closed c j f e)
  | inr e ↦ done_still done x c (fed links done c x (and_parts (not (is_done done x)) _ r).1 (subst (λ k. feeds links c k ≡ true) (sym (eqb-true x j e)) f))
]

-- the k-th operator of an order, where done are those before it
pub record Place (n : ℕ) (links : List LinkSpec) (done : List ℕ) (i : ℕ) : Type 0 where
  pub within : i < n
  pub fresh : is_done done i ≡ false
  pub closed : Closed links done
  pub fed_by : (c : ℕ) → feeds links c i ≡ true → is_done done c ≡ true

pub place_at : (n k d : ℕ) (links : List LinkSpec) (done more : List ℕ) → Follows n links done more → Closed links done → k < length more → Place n links (done ++ take k more) (get_or more k d)
place_at n k d links done [] f closed h = absurd (omega arith)
place_at n zero d links done (x ∷ more) f closed h = subst (λ l. Place n links l x) (sym (append-nil done)) (record { within = f.0.0; fresh = ready_undone links done x f.0.1; closed = closed; fed_by = λ c e. fed links done c x (and_parts (not (is_done done x)) _ f.0.1).1 e })
place_at n (suc k) d links done (x ∷ more) f closed h =
    subst (λ l. Place n links l (get_or more k d)) (append_assoc done (x ∷ []) (take k more))
    (place_at n k d links (done ++ x ∷ []) more f.1 (closed_next links done x f.0.1 closed) (let e : k < length more = omega arith in e))

pub place_in : (n k d : ℕ) (links : List LinkSpec) (order : List ℕ) → IsOrder n links order → k < length order → Place n links (take k order) (get_or order k d)
place_in n k d links order f h = place_at n k d links [] order f (λ c j e g. cc) h

-- no link leads from it to itself
pub alone_by : (x : Bool) (n : ℕ) (links : List LinkSpec) (done : List ℕ) (o : ℕ) → feeds links o o ≡ x → Place n links done o → feeds links o o ≡ false
alone_by true n links done o e p = cc (sym p.fresh ∙ p.fed_by o e)
alone_by false n links done o e p = e

-- what is done isn't this one
apart : (done : List ℕ) (o c : ℕ) → is_done done o ≡ false → is_done done c ≡ true → c ≡ o → ⊥
apart done o c fresh d e = cc (sym fresh ∙ subst (λ x. is_done done x ≡ true) e d)

kept_into : (flow : Flow) (old new : List (List Field)) (done : List ℕ) (o j : ℕ) → is_done done o ≡ false → ((c : ℕ) → feeds flow.links c j ≡ true → is_done done c ≡ true)
    → HasGiven flow old new o (length flow.links) → AgreeInto flow old new j
kept_into flow old new done o j fresh fed_by g l h e = sym (g.kept l (λ f. apart done o (get_or flow.links l no_link).from fresh (fed_by (get_or flow.links l no_link).from (link_feeds flow l (get_or flow.links l no_link).from j h refl e)) f))

kept_from : (flow : Flow) (old new : List (List Field)) (done : List ℕ) (o j : ℕ) → is_done done o ≡ false → is_done done j ≡ true → HasGiven flow old new o (length flow.links) → AgreeFrom flow old new j
kept_from flow old new done o j fresh d g l h e = sym (g.kept l (λ f. apart done o j fresh d (sym e ∙ f)))

all_kept : (flow : Flow) (old new : List (List Field)) (done part : List ℕ) (o : ℕ) → is_done done o ≡ false → Closed flow.links done → HasGiven flow old new o (length flow.links)
    → ((j : ℕ) → is_done part j ≡ true → is_done done j ≡ true) → AllByRecursion (Fits (chart_of flow old)) part → AllByRecursion (Fits (chart_of flow new)) part
all_kept flow old new done [] o fresh closed g sub t = tt
all_kept flow old new done (j ∷ part) o fresh closed g sub t =
    let d = sub j (or_left (j == j) _ (eq-eqb j j refl)) in (
      same_fit flow old new j (kept_into flow old new done o j fresh (λ c f. closed c j f d) g) (kept_from flow old new done o j fresh d g) t.0,
      all_kept flow old new done part o fresh closed g (λ k e. sub k (or_right (j == k) _ e)) t.1,
    )

pub all_more : {X : Type 0} (P : X → Type 0) (xs : List X) (y : X) → AllByRecursion P xs → P y → AllByRecursion P (xs ++ y ∷ [])
all_more P [] y a p = (p, tt)
all_more P (x ∷ xs) y a p = (a.0, all_more P xs y a.1 p)

-- an operator without a cause fits, once its links have what it gives
fits_now : (flow : Flow) (old new : List (List Field)) (done : List ℕ) (o : ℕ) → Place (length flow.ops) flow.links done o → HasGiven flow old new o (length flow.links) → operator_cause (chart_of flow old) o ≡ None → Fits (chart_of flow new) o
fits_now flow old new done o p g none =
    let into = kept_into flow old new done o o p.fresh p.fed_by g in
    record {
      sound = sym (same_cause flow old new o into) ∙ none;
      gives = λ l h e. g.given l h e ∙ same_given flow old new l (subst (AgreeInto flow old new) (sym e) into);
    }

pub fit_more : (flow : Flow) (old new : List (List Field)) (order : List ℕ) (k d : ℕ) → IsOrder (length flow.ops) flow.links order → k < length order → operator_cause (chart_of flow old) (get_or order k d) ≡ None
    → HasGiven flow old new (get_or order k d) (length flow.links) → AllByRecursion (Fits (chart_of flow old)) (take k order) → AllByRecursion (Fits (chart_of flow new)) (take (k + 1) order)
fit_more flow old new order k d f h none g t =
    let p = place_in (length flow.ops) k d flow.links order f h in
    rw (take_more order k d h) (all_more (Fits (chart_of flow new)) (take k order) (get_or order k d)
    (all_kept flow old new (take k order) (take k order) (get_or order k d) p.fresh p.closed g (λ j y. y) t)
    (fits_now flow old new (take k order) (get_or order k d) p g none))

pub fault_at : (flow : Flow) (schemas : List (List Field)) (order : List ℕ) (k d : ℕ) (why : ShapeWhy) → IsOrder (length flow.ops) flow.links order → k < length order → operator_cause (chart_of flow schemas) (get_or order k d) ≡ Some why
    → AllByRecursion (Fits (chart_of flow schemas)) (take k order) → FirstFault flow why (get_or order k d)
fault_at flow schemas order k d why f h e t = record {
  order = order;
  is_order = f;
  before = take k order;
  behind = drop (k + 1) order;
  place = sym (take-append-drop k order) ∙ ap (λ l. take k order ++ l) (drop_more order k d h);
  schemas = schemas;
  fit = t;
  stands = e;
}
