-- What is brought is what a route may bring.
use Rattle.std.proofs.Common.{◌≡◌, ℕ, ◌+◌, ◌%◌, Bool, true, false, refl, sym, subst, List, length}
use Rattle.std.proofs.lemmas.List.{length-replicate}
use Rattle.ds_schema.specs.Rows.{row_cmp}
use Rattle.op_base.specs.Columns.{Row}
use Rattle.op_base.specs.Lists.{Interleaves, joined}
use Rattle.op_base.proofs.Interleavings.{joined_interleaves}
use Rattle.op_collect.specs.Merged.{merged}
use Rattle.op_collect.proofs.OneMerge.{rows_merge}
use Rattle.flow_graph.specs.Destinations.{SentFrom}
use Rattle.ds_place.specs.declared.place.Place.TheVariants as place
use Rattle.flow_graph.specs.declared.route.Route.{Route}
use Rattle.flow_graph.specs.declared.route.Route.TheVariants as route
use Rattle.ds_place.specs.Places.{place_number}
use Rattle.flow_graph.specs.Runs.{Arrives}
use Rattle.list_run.specs.Dealt.{dealt}
use Rattle.list_run.specs.Routed.{Joins, routed}
use Rattle.list_run.proofs.Dealing.{dealt_long, dealt_sent}
use Rattle.list_run.proofs.RowsKept.{all_copies}

pub routed_long : (seq : Bool) (m : Route) (n : ℕ) (sent : List (List Row)) → Joins seq m (length sent) n → length (routed seq m n sent) ≡ n
routed_long seq route.Same n sent j = j
routed_long false route.RoundRobin n sent j = dealt_long (λ p t r. (p + t) % n) sent n
routed_long true route.RoundRobin n sent j = sym j.0
routed_long false route.Entire n sent j = length-replicate n (joined sent)
routed_long true route.Entire n sent j = absurd j
routed_long seq (route.Hash K) n sent j = dealt_long (λ p t r. place_number (place.Hash K) r n) sent n
routed_long seq (route.Modulus c) n sent j = dealt_long (λ p t r. place_number (place.Modulus c) r n) sent n
routed_long seq route.Any n sent j = sym j
routed_long seq route.Ordered n sent j = sym j
routed_long seq (route.Merge keys) n sent j = sym j.0

pub routed_arrives : (seq : Bool) (m : Route) (n : ℕ) (sent : List (List Row)) → Joins seq m (length sent) n → Arrives seq m sent (routed seq m n sent)
routed_arrives seq route.Same n sent j = refl
routed_arrives false route.RoundRobin n sent j = subst (λ k. SentFrom (λ p t (r : Row). (p + t) % k) 0 sent (dealt (λ p t r. (p + t) % n) n sent)) (sym (dealt_long (λ p t r. (p + t) % n) sent n)) (dealt_sent (λ p t r. (p + t) % n) sent n)
routed_arrives true route.RoundRobin n sent j = refl
routed_arrives false route.Entire n sent j = all_copies (Interleaves sent) (joined sent) (joined_interleaves sent) n
routed_arrives true route.Entire n sent j = absurd j
routed_arrives seq (route.Hash K) n sent j =
    subst (λ k. SentFrom (λ p t (r : Row). place_number (place.Hash K) r k) 0 sent (dealt (λ p t r. place_number (place.Hash K) r n) n sent)) (sym (dealt_long (λ p t r. place_number (place.Hash K) r n) sent n)) (dealt_sent (λ p t r. place_number (place.Hash K) r n) sent n)
routed_arrives seq (route.Modulus c) n sent j =
    subst (λ k. SentFrom (λ p t (r : Row). place_number (place.Modulus c) r k) 0 sent (dealt (λ p t r. place_number (place.Modulus c) r n) n sent)) (sym (dealt_long (λ p t r. place_number (place.Modulus c) r n) sent n)) (dealt_sent (λ p t r. place_number (place.Modulus c) r n) sent n)
routed_arrives seq route.Any n sent j = (joined sent, refl, joined_interleaves sent)
routed_arrives seq route.Ordered n sent j = refl
routed_arrives seq (route.Merge keys) n sent j = (merged (row_cmp keys) sent, refl, (rows_merge keys sent).0)
