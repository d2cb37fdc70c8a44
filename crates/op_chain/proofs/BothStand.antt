-- Two operators in turn: what the second may be fed, that both stand for one feed more, and what they emit.
use Rattle.std.proofs.Common.{◌≡◌, Bool, true, List, [], ◌∷◌, ◌++◌, refl, ap, sym, ◌∙◌, subst}
use Rattle.streams.specs.Streams.{Feed, ended, all_below, all_ended, emits_after, IsStream, on}
use Rattle.streams.specs.Chains.{others, hand_on, passed_on, then_stream, IsOnePort}
use Rattle.streams.proofs.Basics.{and_true, and_right}
use Rattle.streams.proofs.StreamLaws.{wants_open}
use Rattle.op_base.specs.declared.emit.Emit.{Emit}
use Rattle.op_base.specs.Columns.{Row}
use Rattle.op_base.specs.Emits.{Adds}
use Rattle.op_base.specs.Standing.{RowStream, MayFeed}
use Rattle.op_base.proofs.Adding.{Adds-then}
use Rattle.op_chain.specs.InTurn.{handed_feeds, suits_each, suits_both, MayHandOn, StepsBy, StandBoth}
use Rattle.op_chain.proofs.HandedOn.{passed_ended, passed-more, suits_append, handed_is}

pub may_follow : (a b : RowStream) (suits_a suits_b : List (Feed Row) → Bool) (Stands_a Stands_b : List (Feed Row) → Type 0) (f : Feed Row) (rows : List Row) (over : Bool) → IsStream a → (m : MayFeed (then_stream a b) (suits_both a suits_a suits_b) (StandBoth a b Stands_a Stands_b) f) → rows ≡ on 0 (a.gives m.feeds f) → over ≡ all_ended a (m.feeds ++ f ∷ []) → MayHandOn b suits_b Stands_b (handed_feeds rows over)
may_follow a b suits_a suits_b Stands_a Stands_b f rows over is m r o = record {
  before = passed_on a m.feeds;
  stands = m.stands.second;
  one_port = m.stands.one_port;
  runs = passed_ended a is m.feeds ∙ wants_open a is m.feeds f.port m.wanted;
  suited =
      ap (suits_each suits_b (passed_on a m.feeds)) (handed_is a m.feeds f rows over r o)
      ∙ (suits_append suits_b [] (passed_on a m.feeds) (hand_on a m.feeds f) (ap (suits_each suits_b []) (sym (passed-more a m.feeds f)) ∙ and_right _ _ m.suited)).1;
}

pub both_step : (a c b d : RowStream) (Stands_a Stands_c Stands_b Stands_d : List (Feed Row) → Type 0) (f : Feed Row) (rows : List Row) (over : Bool) (feeds : List (Feed Row)) → c ≡ a → d ≡ b → rows ≡ on 0 (a.gives feeds f) → over ≡ all_ended a (feeds ++ f ∷ []) → Stands_c (feeds ++ f ∷ []) → StepsBy Stands_b Stands_d (handed_feeds rows over) → StandBoth a b Stands_a Stands_b feeds → StandBoth c d Stands_c Stands_d (feeds ++ f ∷ [])
both_step a c b d Stands_a Stands_c Stands_b Stands_d f rows over feeds same_a same_b r o first steps h = record {
  first = first;
  second =
      subst Stands_d (ap (λ t. passed_on a feeds ++ t) (handed_is a feeds f rows over r o) ∙ sym (passed-more a feeds f) ∙ ap (λ (s : RowStream). passed_on s (feeds ++ f ∷ [])) (sym same_a))
      (steps (passed_on a feeds) h.second);
  one_port = subst (λ (s : RowStream). IsOnePort s) (sym same_b) h.one_port;
}

pub both_emit : (a b : RowStream) (f : Feed Row) (rows : List Row) (over : Bool) (feeds : List (Feed Row)) (old mid new : Emit) → rows ≡ on 0 (a.gives feeds f) → over ≡ all_ended a (feeds ++ f ∷ []) → Adds old mid (others (a.gives feeds f)) → Adds mid new (emits_after b (passed_on a feeds) (handed_feeds rows over)) → Adds old new (others (a.gives feeds f) ++ emits_after b (passed_on a feeds) (hand_on a feeds f))
both_emit a b f rows over feeds old mid new r o first second =
    Adds-then old mid new (others (a.gives feeds f)) (emits_after b (passed_on a feeds) (hand_on a feeds f)) first
    (subst (λ fs. Adds mid new (emits_after b (passed_on a feeds) fs)) (handed_is a feeds f rows over r o) second)

pub passed_over : (a b : RowStream) → IsStream a → IsOnePort b → (feeds : List (Feed Row)) → all_ended a feeds ≡ true → all_ended b (passed_on a feeds) ≡ true
passed_over a b is one feeds h = ap (λ n. all_below n (λ i. ended i (passed_on a feeds))) one.one ∙ and_true (passed_ended a is feeds ∙ h) refl
