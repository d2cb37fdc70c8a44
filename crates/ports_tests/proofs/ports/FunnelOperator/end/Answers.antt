use Rattle.std.proofs.Common.{◌≡◌, ℕ, ◌<◌, true, cond, ◌∙◌, sym, ap, List, [], ◌∷◌, ◌++◌, append-nil, arith}
use Rattle.std.proofs.lemmas.Bool.{ltb-true}
use Rattle.streams.specs.Streams.{end, Feed, has_end, items_of, ended}
use Rattle.streams.proofs.Basics.{and_left}
use Rattle.streams.proofs.StreamLaws.{items-append, eq_false}
use Rattle.op_base.specs.Columns.{Row}
use Rattle.op_base.specs.Standing.{end_feed}
use Rattle.op_base.proofs.StandingLaws.{ended-end}
use Rattle.ports_tests.proofs.ports.FunnelOperator.end.Goals as goal

here : (p q : ℕ) (feeds : List (Feed Row)) → q ≡ p → true ≡ ended p (feeds ++ end_feed q ∷ [])
here p q feeds e = sym (ap (λ k. ended p (feeds ++ end_feed k ∷ [])) e ∙ ended-end p feeds)

-- the end of another port
elsewhere : (p q : ℕ) (feeds : List (Feed Row)) → (q ≡ p → ⊥) → ended p feeds ≡ ended p (feeds ++ end_feed q ∷ [])
elsewhere p q feeds n = sym (ap has_end (items-append p feeds (end_feed q ∷ []) ∙ ap (λ b. items_of p feeds ++ cond b (end ∷ []) []) (eq_false q p n) ∙ append-nil (items_of p feeds)))

pub returns-then-port-eq0-clause-stands : goal.returns-then-port-eq0-clause-stands
returns-then-port-eq0-clause-stands c = λ feeds h. (here 0 c.args.port feeds (omega arith), h.1 ∙ elsewhere 1 c.args.port feeds (λ e. omega arith))

pub returns-else-port-eq0-clause-stands : goal.returns-else-port-eq0-clause-stands
returns-else-port-eq0-clause-stands c = λ feeds h.
    let below : c.args.port < 2 = ltb-true _ _ (and_left _ _ c.requires.wanted) in
    (h.0 ∙ elsewhere 0 c.args.port feeds (λ e. omega arith), here 1 c.args.port feeds (omega arith))
