-- What was sent on output 0, taken out of what was emitted.
use Rattle.std.proofs.Common.{◌≡◌, Bool, true, false, cond, ◌==◌, List, [], ◌∷◌, ◌++◌, length, refl, ap, ap₂, ◌∙◌}
use Rattle.streams.specs.Streams.{Out, sends, fails, faults_out, on}
use Rattle.streams.specs.Chains.{others}
use Rattle.streams.proofs.StreamLaws.{eq_false}
use Rattle.op_base.specs.declared.fault.Fault.{Fault}
use Rattle.op_base.specs.declared.emit.Sent.{Sent}
use Rattle.op_base.specs.declared.emit.Emit.{Emit}
use Rattle.op_base.specs.Columns.{Row}
use Rattle.op_base.specs.Emits.{rows_sent, counted, least_of, Adds}
use Rattle.op_chain.specs.InTurn.{handed_rows, elsewhere}

pub handed_here : (sent : List Sent) (s : Sent) → s.port ≡ 0 → handed_rows (sent ++ s ∷ []) ≡ handed_rows sent ++ s.row ∷ []
handed_here [] s e = ap (λ p. cond (p == 0) (s.row ∷ []) []) e
handed_here (x ∷ sent) s e = go (x.port == 0) (handed_here sent s e)
  where
    go : (t : Bool) → handed_rows (sent ++ s ∷ []) ≡ handed_rows sent ++ s.row ∷ [] → cond t (x.row ∷ handed_rows (sent ++ s ∷ [])) (handed_rows (sent ++ s ∷ [])) ≡ cond t (x.row ∷ handed_rows sent) (handed_rows sent) ++ s.row ∷ []
    go true h = ap (λ rows. x.row ∷ rows) h
    go false h = h

pub handed_past : (sent : List Sent) (s : Sent) → (s.port ≡ 0 → ⊥) → handed_rows (sent ++ s ∷ []) ≡ handed_rows sent
handed_past [] s apart = ap (λ t. cond t (s.row ∷ []) []) (eq_false s.port 0 apart)
handed_past (x ∷ sent) s apart = ap (λ rows. cond (x.port == 0) (x.row ∷ rows) rows) (handed_past sent s apart)

pub elsewhere_here : (sent : List Sent) (s : Sent) → s.port ≡ 0 → elsewhere (sent ++ s ∷ []) ≡ elsewhere sent
elsewhere_here [] s e = ap (λ p. cond (p == 0) [] (s ∷ [])) e
elsewhere_here (x ∷ sent) s e = ap (λ rows. cond (x.port == 0) rows (x ∷ rows)) (elsewhere_here sent s e)

pub elsewhere_past : (sent : List Sent) (s : Sent) → (s.port ≡ 0 → ⊥) → elsewhere (sent ++ s ∷ []) ≡ elsewhere sent ++ s ∷ []
elsewhere_past [] s apart = ap (λ t. cond t [] (s ∷ [])) (eq_false s.port 0 apart)
elsewhere_past (x ∷ sent) s apart = go (x.port == 0) (elsewhere_past sent s apart)
  where
    go : (t : Bool) → elsewhere (sent ++ s ∷ []) ≡ elsewhere sent ++ s ∷ [] → cond t (elsewhere (sent ++ s ∷ [])) (x ∷ elsewhere (sent ++ s ∷ [])) ≡ cond t (elsewhere sent) (x ∷ elsewhere sent) ++ s ∷ []
    go true h = h
    go false h = ap (λ rows. x ∷ rows) h

sent_apart : (outs : List (Out Row Fault)) → elsewhere (rows_sent outs) ≡ rows_sent (others outs)
sent_apart [] = refl
sent_apart (fails fault ∷ outs) = sent_apart outs
sent_apart (sends port row ∷ outs) = go (port == 0) (sent_apart outs)
  where
    go : (t : Bool) → elsewhere (rows_sent outs) ≡ rows_sent (others outs) → cond t (elsewhere (rows_sent outs)) (record { port = port; row = row } ∷ elsewhere (rows_sent outs)) ≡ rows_sent (cond t (others outs) (sends port row ∷ others outs))
    go true h = h
    go false h = ap (λ rows. record { port = port; row = row } ∷ rows) h

rows_apart : (outs : List (Out Row Fault)) → handed_rows (rows_sent outs) ≡ on 0 outs
rows_apart [] = refl
rows_apart (fails fault ∷ outs) = rows_apart outs
rows_apart (sends port row ∷ outs) = ap (λ rows. cond (port == 0) (row ∷ rows) rows) (rows_apart outs)

faults_apart : (outs : List (Out Row Fault)) → faults_out outs ≡ faults_out (others outs)
faults_apart [] = refl
faults_apart (fails fault ∷ outs) = ap (λ faults. fault ∷ faults) (faults_apart outs)
faults_apart (sends port row ∷ outs) = go (port == 0) (faults_apart outs)
  where
    go : (t : Bool) → faults_out outs ≡ faults_out (others outs) → faults_out outs ≡ faults_out (cond t (others outs) (sends port row ∷ others outs))
    go true h = h
    go false h = h

-- with the rows set aside before and those of output 0 taken out after, what was added is what was emitted elsewhere
pub apart_adds : (old mid after new : Emit) (before : List Sent) (outs : List (Out Row Fault)) → before ≡ old.sent → mid.sent ≡ [] → mid.faults ≡ old.faults → mid.least ≡ old.least → Adds mid after outs → new.sent ≡ before ++ elsewhere after.sent → new.faults ≡ after.faults → new.least ≡ after.least → Adds old new (others outs)
apart_adds old mid after new before outs kept none same_faults same_least h sent faults least = record {
  sent = sent ∙ ap₂ (λ b s. b ++ elsewhere s) kept (h.sent ∙ ap (λ s. s ++ rows_sent outs) none) ∙ ap (λ s. old.sent ++ s) (sent_apart outs);
  faults = faults ∙ h.faults ∙ ap (λ n. counted n (length (faults_out outs))) same_faults ∙ ap (λ fs. counted old.faults (length fs)) (faults_apart outs);
  least = least ∙ h.least ∙ ap (λ l. least_of l (faults_out outs)) same_least ∙ ap (least_of old.least) (faults_apart outs);
}

pub apart_rows : (mid after : Emit) (rows : List Row) (outs : List (Out Row Fault)) → mid.sent ≡ [] → Adds mid after outs → rows ≡ handed_rows after.sent → rows ≡ on 0 outs
apart_rows mid after rows outs none h taken = taken ∙ ap handed_rows (h.sent ∙ ap (λ s. s ++ rows_sent outs) none) ∙ rows_apart outs
