-- What put and take make of what a link tells.
use Rattle.std.specs.Prelude.{◌≡◌, ℕ, zero, suc, ◌<◌, ◌≤◌, List, [], ◌∷◌, ◌++◌, option_map, IfSome, length}
use Rattle.ds_pack.specs.declared.message.Msg.{Msg}
use Rattle.link_queue.specs.declared.parcel.Parcel.{Parcel}
use Rattle.link_queue.specs.Told.{LaneTold, QueueTold, Told, risen, Fits}

-- the message was put on the lane
abbrev pub lane_put : Msg → LaneTold → LaneTold
lane_put msg l = record l { put = option_map (λ ms. ms ++ msg ∷ []) l.put }

-- put answered Full
abbrev pub lane_refused : LaneTold → LaneTold
lane_refused l = record l { fulls = option_map risen l.fulls }

abbrev pub queue_taken : Parcel → QueueTold → QueueTold
queue_taken x q = record q { taken = option_map (λ ps. ps ++ x ∷ []) q.taken }

abbrev pub queue_refused : QueueTold → QueueTold
queue_refused q = record q { nones = option_map risen q.nones }

-- the list with f at one place
abbrev pub changed_at : {A : Type 0} → ℕ → (A → A) → List A → List A
changed_at n f [] = []
changed_at zero f (x ∷ xs) = f x ∷ xs
changed_at (suc n) f (x ∷ xs) = x ∷ changed_at n f xs

-- what is at the place n of the list has the fact
abbrev pub AtPlace : {A : Type 0} → ℕ → (A → Type 0) → List A → Type 0
AtPlace n P [] = ⊥
AtPlace zero P (x ∷ xs) = P x
AtPlace (suc n) P (x ∷ xs) = AtPlace n P xs

abbrev pub tail_of : {A : Type 0} → List A → List A
tail_of [] = []
tail_of (x ∷ xs) = xs

-- put answered Ok: the message joins the lane's put list, or the back of its queue, whichever is told
abbrev pub HasPut : ℕ → Msg → Told → Told → Type 0
HasPut lane msg t u =
    AtPlace lane (λ l. u ≡ record t {
      lanes = changed_at lane (lane_put msg) t.lanes;
      net = option_map (changed_at l.way.number (λ ps. ps ++ record { from = t.partition; msg = msg } ∷ [])) t.net;
    }) t.lanes
    × AtPlace lane (λ l. IfSome t.net (λ net. AtPlace l.way.number (λ ps. length ps < t.capacity) net)) t.lanes

-- put answered Full: the lane's number rises, or the queue holds its capacity, whichever is told
abbrev pub HasRefusedPut : ℕ → Told → Told → Type 0
HasRefusedPut lane t u =
    (u ≡ record t { lanes = changed_at lane lane_refused t.lanes })
    × AtPlace lane (λ l. IfSome t.net (λ net. AtPlace l.way.number (λ ps. t.capacity ≤ length ps) net)) t.lanes

-- take answered Some
abbrev pub HasTaken : ℕ → Parcel → Told → Told → Type 0
HasTaken queue x t u =
    AtPlace queue (λ q. Fits q.schema q.degree x
    × (u ≡ record t {
      queues = changed_at queue (queue_taken x) t.queues;
      net = option_map (changed_at q.way.number tail_of) t.net;
    })
    × IfSome t.net (λ net. AtPlace q.way.number (λ ps. ps ≡ x ∷ tail_of ps) net)) t.queues

-- take answered None
abbrev pub HasRefusedTake : ℕ → Told → Told → Type 0
HasRefusedTake queue t u =
    (u ≡ record t { queues = changed_at queue queue_refused t.queues })
    × AtPlace queue (λ q. IfSome t.net (λ net. AtPlace q.way.number (λ ps. ps ≡ []) net)) t.queues
