-- An operator over one kind of items, among items of several kinds.
use Rattle.std.proofs.Common.{◌≡◌, ℕ, zero, suc, ◌==◌, Bool, true, false, ◌&&◌, cond, inl, inr, refl, sym, ap, ap₂, ◌∙◌, subst, List, [], ◌∷◌, ◌++◌, map, append-nil, Option, Some, None}
use Rattle.std.specs.Prelude.{option_map}
use Rattle.std.specs.List.{filter_map, cons_option}
use Rattle.std.proofs.lemmas.List.Elements.{filter_map-append}
use Rattle.streams.specs.Streams.{Item, row, end, Feed, Out, Stream, has_end, items_of, ended, all_below, emits_after, emits, FedAfter, whole, Gives, IsStream}
use Rattle.streams.specs.Lifted.{picked_item, picked_feed, picked, with_rows, lifted, LiftedFits}
use Rattle.streams.proofs.StreamLaws.{emits-append, map-append}

module _ {X Y : Type 0} (pick : X → Option Y) where
  picked-more : (feeds : List (Feed X)) (f : Feed X) → picked pick (feeds ++ f ∷ []) ≡ picked pick feeds ++ picked pick (f ∷ [])
  picked-more feeds f = filter_map-append (picked_feed pick) feeds (f ∷ [])

  -- the items of a port that are of the kind
  items-picked : (i : ℕ) (feeds : List (Feed X)) → items_of i (picked pick feeds) ≡ filter_map (picked_item pick) (items_of i feeds)
  items-picked i [] = refl
  items-picked i (f ∷ feeds) = left (picked_item pick f.item) ∙ ap (λ t. cond (f.port == i) (cons_option (picked_item pick f.item) t) t) (items-picked i feeds) ∙ sym (right (f.port == i))
    where
      left : (o : Option (Item Y)) → items_of i (cons_option (option_map (λ item. record { port = f.port; item = item }) o) (picked pick feeds)) ≡ cond (f.port == i) (cons_option o (items_of i (picked pick feeds))) (items_of i (picked pick feeds))
      left (Some item) = refl
      left None = same (f.port == i)
        where
          same : (b : Bool) → items_of i (picked pick feeds) ≡ cond b (items_of i (picked pick feeds)) (items_of i (picked pick feeds))
          same true = refl
          same false = refl

      right : (b : Bool) → filter_map (picked_item pick) (cond b (f.item ∷ items_of i feeds) (items_of i feeds)) ≡ cond b (cons_option (picked_item pick f.item) (filter_map (picked_item pick) (items_of i feeds))) (filter_map (picked_item pick) (items_of i feeds))
      right true = refl
      right false = refl

  end-kept : (items : List (Item X)) → has_end (filter_map (picked_item pick) items) ≡ has_end items
  end-kept [] = refl
  end-kept (end ∷ items) = refl
  end-kept (row x ∷ items) = go (pick x) ∙ end-kept items
    where
      go : (o : Option Y) → has_end (cons_option (option_map row o) (filter_map (picked_item pick) items)) ≡ has_end (filter_map (picked_item pick) items)
      go None = refl
      go (Some y) = refl

  ended-picked : (i : ℕ) (feeds : List (Feed X)) → ended i (picked pick feeds) ≡ ended i feeds
  ended-picked i feeds = ap has_end (items-picked i feeds) ∙ end-kept (items_of i feeds)

  all-same : (n : ℕ) (p q : ℕ → Bool) → ((i : ℕ) → p i ≡ q i) → all_below n p ≡ all_below n q
  all-same zero p q h = refl
  all-same (suc n) p q h = ap₂ (λ a b. a && b) (h n) (all-same n p q h)

  whole-picked : (xs : List X) → filter_map (picked_item pick) (whole xs) ≡ whole (filter_map pick xs)
  whole-picked [] = refl
  whole-picked (x ∷ xs) = ap (cons_option (option_map row (pick x))) (whole-picked xs) ∙ go (pick x)
    where
      go : (o : Option Y) → cons_option (option_map row o) (whole (filter_map pick xs)) ≡ whole (cons_option o (filter_map pick xs))
      go None = refl
      go (Some y) = refl

module _ {X Y F : Type 0} (pick : X → Option Y) (as_item : Y → X) (operator : Stream Y F) where
  -- what was fed was wanted by the operator too
  fed-picked : (done feeds : List (Feed X)) → FedAfter (lifted pick as_item operator) done feeds → FedAfter operator (picked pick done) (picked pick feeds)
  fed-picked done [] h = tt
  fed-picked done (f ∷ feeds) h = go (picked_item pick f.item) (subst (λ d. FedAfter operator d (picked pick feeds)) (picked-more pick done f) (fed-picked (done ++ f ∷ []) feeds h.1))
    where
      one : Option (Item Y) → Option (Feed Y)
      one o = option_map (λ item. record { port = f.port; item = item }) o

      go : (o : Option (Item Y)) → FedAfter operator (picked pick done ++ cons_option (one o) []) (picked pick feeds) → FedAfter operator (picked pick done) (cons_option (one o) (picked pick feeds))
      go None k = subst (λ d. FedAfter operator d (picked pick feeds)) (append-nil (picked pick done)) k
      go (Some item) k = (h.0, k)

  emits-picked : (done feeds : List (Feed X)) → emits_after (lifted pick as_item operator) done feeds ≡ map (with_rows as_item) (emits_after operator (picked pick done) (picked pick feeds))
  emits-picked done [] = refl
  emits-picked done (f ∷ feeds) =
      ap (λ t. map (with_rows as_item) (emits_after operator (picked pick done) (picked pick (f ∷ []))) ++ t) (emits-picked (done ++ f ∷ []) feeds)
      ∙ sym (map-append (with_rows as_item) (emits_after operator (picked pick done) (picked pick (f ∷ []))) (emits_after operator (picked pick (done ++ f ∷ [])) (picked pick feeds)))
      ∙ ap (map (with_rows as_item)) (ap (λ d. emits_after operator (picked pick done) (picked pick (f ∷ [])) ++ emits_after operator d (picked pick feeds)) (picked-more pick done f)
      ∙ sym (emits-append operator (picked pick done) (picked pick (f ∷ [])) (picked pick feeds)) ∙ ap (emits_after operator (picked pick done)) (sym (filter_map-append (picked_feed pick) (f ∷ []) feeds)))

  lifted_is : IsStream operator → IsStream (lifted pick as_item operator)
  lifted_is is = record {
    some = is.some;
    opens = λ feeds i w. let o = is.opens (picked pick feeds) i w in (o.0, sym (ended-picked pick i feeds) ∙ o.1);
    hungry = λ feeds fed. elim (is.hungry (picked pick feeds) (fed-picked [] feeds fed)) [
      | inl w ↦ inl w
      | inr h ↦ inr (all-same pick operator.ports (λ i. ended i feeds) (λ i. ended i (picked pick feeds)) (λ i. sym (ended-picked pick i feeds)) ∙ h)
    ];
  }

  lifted_gives : (lists : ℕ → List X) (outs : List (Out X F)) → Gives (lifted pick as_item operator) lists outs → (inner : List (Out Y F)) × Gives operator (λ i. filter_map pick (lists i)) inner × (outs ≡ map (with_rows as_item) inner)
  lifted_gives lists outs g = (
    emits operator (picked pick g.feeds),
    record {
      feeds = picked pick g.feeds;
      fed = fed-picked [] g.feeds g.fed;
      taken = λ i lt. items-picked pick i g.feeds ∙ ap (filter_map (picked_item pick)) (g.taken i lt) ∙ whole-picked pick (lists i);
      made = refl;
    },
    sym g.made ∙ emits-picked [] g.feeds,
  )

pub lifted-fits : {X Y F : Type 0} → LiftedFits X Y F
lifted-fits pick as_item operator is = (lifted_is pick as_item operator is, λ single feeds i j h k. single (picked pick feeds) i j h k, lifted_gives pick as_item operator)
