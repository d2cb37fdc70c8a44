-- Rows cut into batches are a cutting of what is due.
use Rattle.std.proofs.Common.{◌≡◌, ℕ, ◌+◌, Bool, true, false, cond, refl, sym, ap, ◌∙◌, List, [], ◌∷◌, ◌++◌, length, map, append_assoc, append-nil}
use Rattle.std.specs.Prelude.{nat_lt}
use Rattle.std.specs.List.{AllByRecursion}
use Rattle.streams.specs.Lists.{IsIn}
use Rattle.streams.specs.Streams.{Item, row, end, Out, all_ended, emits, emits_after, whole, on}
use Rattle.streams.specs.Core.{Player, Lane, Parcel}
use Rattle.streams.specs.Plans.{Net, sent, inner, pass, shape_of, IsPlan}
use Rattle.streams.specs.Batches.{Message, batch, stop, unpack, unpack_all, Cuts, closed, begun_after, last_batch, cut, batch_owed}
use Rattle.streams.proofs.StreamLaws.{emits-append, wants_open, map-append, not_all, on-append}
use Rattle.streams.proofs.PlayerLaws.{newest, inner-more, sent-append, operator_ended}
use Rattle.streams.proofs.BatchKept.{unpack-append}

module _ {X : Type 0} (size : X → ℕ) (limit : ℕ) where
  abbrev weight_after : List X → ℕ → List X → ℕ
  weight_after begun w [] = w
  weight_after begun w (x ∷ xs) = cond (nat_lt (w + size x) limit) (weight_after (begun ++ x ∷ []) (w + size x) xs) (weight_after [] 0 xs)

  -- what more rows close
  closed-append : (begun : List X) (w : ℕ) (xs ys : List X) → closed size limit begun w (xs ++ ys) ≡ closed size limit begun w xs ++ closed size limit (begun_after size limit begun w xs) (weight_after begun w xs) ys
  closed-append begun w [] ys = refl
  closed-append begun w (x ∷ xs) ys = go (nat_lt (w + size x) limit) (closed-append (begun ++ x ∷ []) (w + size x) xs ys) (closed-append [] 0 xs ys)
    where
      go : (b : Bool) →
          closed size limit (begun ++ x ∷ []) (w + size x) (xs ++ ys) ≡ closed size limit (begun ++ x ∷ []) (w + size x) xs ++ closed size limit (begun_after size limit (begun ++ x ∷ []) (w + size x) xs) (weight_after (begun ++ x ∷ []) (w + size x) xs) ys →
          closed size limit [] 0 (xs ++ ys) ≡ closed size limit [] 0 xs ++ closed size limit (begun_after size limit [] 0 xs) (weight_after [] 0 xs) ys →
          cond b (closed size limit (begun ++ x ∷ []) (w + size x) (xs ++ ys)) (batch (begun ++ x ∷ []) ∷ closed size limit [] 0 (xs ++ ys)) ≡
          cond b (closed size limit (begun ++ x ∷ []) (w + size x) xs) (batch (begun ++ x ∷ []) ∷ closed size limit [] 0 xs)
          ++ closed size limit (cond b (begun_after size limit (begun ++ x ∷ []) (w + size x) xs) (begun_after size limit [] 0 xs)) (cond b (weight_after (begun ++ x ∷ []) (w + size x) xs) (weight_after [] 0 xs)) ys
      go true h k = h
      go false h k = ap (λ t. batch (begun ++ x ∷ []) ∷ t) k

  -- the closed batches and what is begun are the rows
  cut_rows : (begun : List X) (w : ℕ) (xs : List X) → unpack_all (closed size limit begun w xs) ++ map row (begun_after size limit begun w xs) ≡ map row (begun ++ xs)
  cut_rows begun w [] = ap (map row) (sym (append-nil begun))
  cut_rows begun w (x ∷ xs) = go (nat_lt (w + size x) limit) (cut_rows (begun ++ x ∷ []) (w + size x) xs) (cut_rows [] 0 xs)
    where
      go : (b : Bool) → unpack_all (closed size limit (begun ++ x ∷ []) (w + size x) xs) ++ map row (begun_after size limit (begun ++ x ∷ []) (w + size x) xs) ≡ map row ((begun ++ x ∷ []) ++ xs) →
          unpack_all (closed size limit [] 0 xs) ++ map row (begun_after size limit [] 0 xs) ≡ map row xs →
          unpack_all (cond b (closed size limit (begun ++ x ∷ []) (w + size x) xs) (batch (begun ++ x ∷ []) ∷ closed size limit [] 0 xs)) ++ map row (cond b (begun_after size limit (begun ++ x ∷ []) (w + size x) xs) (begun_after size limit [] 0 xs)) ≡ map row (begun ++ x ∷ xs)
      go true h k = h ∙ ap (map row) (append_assoc begun (x ∷ []) xs)
      go false h k = append_assoc (map row (begun ++ x ∷ [])) (unpack_all (closed size limit [] 0 xs)) (map row (begun_after size limit [] 0 xs)) ∙ ap (λ t. map row (begun ++ x ∷ []) ++ t) k
          ∙ sym (map-append row (begun ++ x ∷ []) xs) ∙ ap (map row) (append_assoc begun (x ∷ []) xs)

  not_empty : (begun : List X) (x : X) → map row (begun ++ x ∷ []) ≡ [] → ⊥
  not_empty [] x e = cc
  not_empty (y ∷ begun) x e = cc

  closed_full : (begun : List X) (w : ℕ) (xs : List X) → AllByRecursion (λ m. unpack m ≡ [] → ⊥) (closed size limit begun w xs)
  closed_full begun w [] = tt
  closed_full begun w (x ∷ xs) = go (nat_lt (w + size x) limit) (closed_full (begun ++ x ∷ []) (w + size x) xs) (closed_full [] 0 xs)
    where
      go : (b : Bool) → AllByRecursion (λ m. unpack m ≡ [] → ⊥) (closed size limit (begun ++ x ∷ []) (w + size x) xs) → AllByRecursion (λ m. unpack m ≡ [] → ⊥) (closed size limit [] 0 xs) →
          AllByRecursion (λ m. unpack m ≡ [] → ⊥) (cond b (closed size limit (begun ++ x ∷ []) (w + size x) xs) (batch (begun ++ x ∷ []) ∷ closed size limit [] 0 xs))
      go true h k = h
      go false h k = (not_empty begun x, k)

  full-append : (xs ys : List (Message X)) → AllByRecursion (λ m. unpack m ≡ [] → ⊥) xs → AllByRecursion (λ m. unpack m ≡ [] → ⊥) ys → AllByRecursion (λ m. unpack m ≡ [] → ⊥) (xs ++ ys)
  full-append [] ys h k = k
  full-append (x ∷ xs) ys h k = (h.0, full-append xs ys h.1 k)

  stop_full : unpack {X = X} stop ≡ [] → ⊥
  stop_full e = cc

  ending_full : (rest : List X) (over : Bool) → AllByRecursion (λ m. unpack m ≡ [] → ⊥) (cond over (last_batch rest ++ stop ∷ []) [])
  ending_full rest false = tt
  ending_full [] true = (stop_full, tt)
  ending_full (x ∷ rest) true = (cons, (stop_full, tt))
    where
      cons : map row (x ∷ rest) ≡ [] → ⊥
      cons e = cc

  pub cut_full : (xs : List X) (over : Bool) → AllByRecursion (λ m. unpack m ≡ [] → ⊥) (cut size limit xs over)
  cut_full xs over = full-append (closed size limit [] 0 xs) _ (closed_full [] 0 xs) (ending_full (begun_after size limit [] 0 xs) over)

  last_rows : (rest : List X) → unpack_all (last_batch rest) ≡ map row rest
  last_rows [] = refl
  last_rows (x ∷ rest) = append-nil (map row (x ∷ rest))

  pub cut_whole : (xs : List X) → unpack_all (cut size limit xs true) ≡ whole xs
  cut_whole xs =
      let rest : List X = begun_after size limit [] 0 xs in
      unpack-append (closed size limit [] 0 xs) (last_batch rest ++ stop ∷ []) ∙ ap (λ t. unpack_all (closed size limit [] 0 xs) ++ t) (unpack-append (last_batch rest) (stop ∷ []) ∙ ap (λ t. t ++ end ∷ []) (last_rows rest))
      ∙ sym (append_assoc (unpack_all (closed size limit [] 0 xs)) (map row rest) (end ∷ [])) ∙ ap (λ t. t ++ end ∷ []) (cut_rows [] 0 xs)

  pub cut_part : (xs : List X) (over : Bool) → (rest : List (Item X)) × (map row xs ++ cond over (end ∷ []) [] ≡ unpack_all (cut size limit xs over) ++ rest)
  cut_part xs true = ([], sym (append-nil _ ∙ cut_whole xs))
  cut_part xs false = (map row (begun_after size limit [] 0 xs), append-nil (map row xs) ∙ sym (ap (λ t. unpack_all t ++ map row (begun_after size limit [] 0 xs)) (append-nil (closed size limit [] 0 xs)) ∙ cut_rows [] 0 xs))

  pub cut_more : (xs add : List X) (over : Bool) → (ms : List (Message X)) × (cut size limit (xs ++ add) over ≡ cut size limit xs false ++ ms)
  cut_more xs add over =
      let tail : List (Message X) = cond over (last_batch (begun_after size limit [] 0 (xs ++ add)) ++ stop ∷ []) [] in
      let new : List (Message X) = closed size limit (begun_after size limit [] 0 xs) (weight_after [] 0 xs) add in
      (new ++ tail, ap (λ t. t ++ tail) (closed-append [] 0 xs add) ∙ append_assoc (closed size limit [] 0 xs) new tail ∙ ap (λ t. t ++ (new ++ tail)) (sym (append-nil (closed size limit [] 0 xs))))

module _ {X F : Type 0} (net : Net X F) (plan : IsPlan net) (size : X → ℕ) (limit : ℕ) where
  abbrev gone : Player → Lane → List (Parcel X) → List X
  gone p k feeds = sent (net.goes k) 0 (on (net.out k) (emits (net.operator p) (inner net p feeds)))

  abbrev over : Player → List (Parcel X) → Bool
  over p feeds = all_ended (net.operator p) (inner net p feeds)

  gone-more : (p : Player) → IsIn p net.players → (k : Lane) (feeds : List (Parcel X)) (f : Parcel X) → (add : List X) × (gone p k (feeds ++ f ∷ []) ≡ gone p k feeds ++ add)
  gone-more p seat k feeds f =
      let old : List (Out X F) = emits (net.operator p) (inner net p feeds) in
      let new : List (Out X F) = emits_after (net.operator p) (inner net p feeds) (pass net p feeds f) in (
        sent (net.goes k) (length (on (net.out k) old) + 0) (on (net.out k) new),
        ap (λ F. sent (net.goes k) 0 (on (net.out k) (emits (net.operator p) F))) (inner-more net p feeds f) ∙ ap (λ t. sent (net.goes k) 0 (on (net.out k) t)) (emits-append (net.operator p) [] (inner net p feeds) (pass net p feeds f))
            ∙ ap (sent (net.goes k) 0) (on-append (net.out k) old new) ∙ sent-append net plan p seat (net.goes k) 0 (on (net.out k) old) (on (net.out k) new),
      )

  pub owed_cuts : Cuts (shape_of net) (batch_owed net size limit)
  owed_cuts = record {
    begins = λ p seat k. ap (λ b. cut size limit [] b) (none_over p seat);
    more = λ p seat k feeds f h.
        let n = newest net plan p seat feeds f h in
        let still : over p feeds ≡ false = wants_open (net.operator p) (plan.operators p seat) (inner net p feeds) _ n.wanted.operator in
        let add = gone-more p seat k feeds f in
        let m = cut_more size limit (gone p k feeds) add.0 (over p (feeds ++ f ∷ [])) in
        (m.0, ap (λ t. cut size limit t (over p (feeds ++ f ∷ []))) add.1 ∙ m.1 ∙ ap (λ b. cut size limit (gone p k feeds) b ++ m.0) (sym still));
    full = λ p k feeds. cut_full size limit (gone p k feeds) (over p feeds);
    part = λ p k feeds. cut_part size limit (gone p k feeds) (over p feeds);
    all = λ p seat k feeds fed h.
        let o : over p feeds ≡ true = operator_ended net plan p seat feeds fed h in
        ap (λ b. unpack_all (cut size limit (gone p k feeds) b)) o ∙ cut_whole size limit (gone p k feeds) ∙ ap (λ b. map row (gone p k feeds) ++ cond b (end ∷ []) []) (sym o);
  }
    where
      none_over : (p : Player) → IsIn p net.players → over p [] ≡ false
      none_over p seat = not_all (net.operator p).ports (λ i. false) 0 (plan.operators p seat).some refl
