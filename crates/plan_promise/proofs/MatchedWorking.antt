-- Merges, changes, funnels and dsreads, as the streams of their code, work in a flow.
use Rattle.std.proofs.Common.{◌≡◌, ℕ, ◌<◌, Bool, true, false, refl, sym, ap, ap₂, ◌∙◌, subst, List, [], ◌∷◌, map, length, get_or, arith, None}
use Rattle.std.specs.Prelude.{◌&&◌}
use Rattle.std.specs.List.{AllByRecursion}
use Rattle.std.proofs.lemmas.List.{length-map}
use Rattle.streams.specs.Operators.{any_stream, ordered_stream, merge_stream}
use Rattle.ds_schema.specs.declared.key.Key.{Key}
use Rattle.ds_schema.specs.declared.schema.Field.{Field}
use Rattle.ds_schema.specs.Rows.{row_cmp}
use Rattle.ds_schema.specs.Schemas.{row_fits}
use Rattle.op_base.specs.declared.fault.Fault.{Fault}
use Rattle.op_base.specs.Columns.{IsIn, Row}
use Rattle.op_base.specs.Keyed.{get_keys}
use Rattle.op_base.specs.Meanings.{Merging, Segment, input}
use Rattle.op_base.specs.Standing.{RowStream}
use Rattle.op_base.proofs.All.{all_at, map_two}
use Rattle.op_base.proofs.Interleavings.{interleaves_all}
use Rattle.op_base.proofs.Merging.{merge_rows_interleave}
use Rattle.op_match.specs.Captures.{capturing, capture_stream}
use Rattle.op_match.specs.Merges.{merging}
use Rattle.op_match.specs.Merges as match
use Rattle.flow_graph.specs.declared.op_kind.OpKind.{OpKind}
use Rattle.flow_graph.specs.declared.op_kind.OpKind.TheVariants as kind
use Rattle.flow_graph.specs.Charts.{Chart, link_at, links_into, links_from, op_at, parts_of, width_at}
use Rattle.flow_graph.specs.FlowShape.{PortsInOrder}
use Rattle.flow_graph.specs.Operators.{Op, changecapture, dsread, funnel, funnel_sequence, funnel_sort, merge}
use Rattle.flow_graph.specs.Runs.{result_on}
use Rattle.flow_ops.specs.Keyed.{capture_of, merge_of}
use Rattle.flow_ops.specs.Kinds.{funnelled_by, op_by, widths_into}
use Rattle.shape_base.specs.Fields.{first_fields}
use Rattle.shape_base.specs.Naming.{key_columns}
use Rattle.keyed_shape.specs.Matched.{capture_fields, inputs_cause, inputs_keys, merge_output, schemas_cause, value_columns}
use Rattle.flow_shape.specs.Refusals.{fields_at, inputs_at}
use Rattle.flow_sound.specs.Fitting.{RowsFit}
use Rattle.flow_sound.specs.Matched.{EachInputFits}
use Rattle.flow_sound.proofs.MatchedRows.{changes_fit, funnels_fit, input_at, merges_fit, no_more}
use Rattle.flow_sound.proofs.Matching.{all_alike, alike_fit, inputs_alike}
use Rattle.flow_plan.specs.Data.{dsread_stream, numbered_at}
use Rattle.plan_sound.specs.OperatorStreams.{InputsFit, Means, Stays, any_lists, both_width}
use Rattle.plan_sound.specs.Working.{GivesOn, Works}
use Rattle.plan_sound.proofs.Meaning.{streams_mean}
use Rattle.plan_sound.proofs.Working.{meaning_works, sources_work}
use Rattle.kind_streams.specs.OfKinds.{funnel_stream}
use Rattle.plan_promise.specs.KindStreams.{IsMatchedAt, MatchedWork, StoredWork, fits_at, stream_by}
use Rattle.plan_promise.proofs.KindsWorking.{wide_rows}

-- ---- dsread

at_first : (q : ℕ) → q ≡ 0 → q < 1
at_first q e = omega (arith, e)

pub stored_work : StoredWork
stored_work c unwritable o name stored op e reads none there =
    subst (λ (k : OpKind). Works c (fits_at c) o op (stream_by o k (parts_of c o) (widths_into c o) (length (links_from c o)) (unwritable o))) (sym e)
    (subst (λ (z : Op). Works c (fits_at c) o z dsread_stream) (sym reads.is_read)
    (sources_work.dsread c (fits_at c) o reads.segments stored.place none (λ l i. at_first (link_at c l).out (there l i).0) stays))
  where
    parts_fit : (segments : List Segment) → AllByRecursion (λ (s : Segment). RowsFit stored.schema s.rows) segments → AllByRecursion (RowsFit stored.schema) (map (λ (s : Segment). s.rows) segments)
    parts_fit [] h = tt
    parts_fit (s ∷ segments) h = (h.0, parts_fit segments h.1)

    stays : Stays c (fits_at c) o (dsread reads.segments stored.place)
    stays l p inputs rows i fit given =
        subst (λ (fs : List Field). RowsFit fs rows) (sym (there l i).1)
        (subst (RowsFit stored.schema) (sym given) (all_at (RowsFit stored.schema) tt (map (λ (s : Segment). s.rows) reads.segments) p (parts_fit reads.segments reads.fit)))

-- ---- inputs

each_input : (c : Chart) (ls : List ℕ) (inputs : List (List Row)) → InputsFit (fits_at c) ls inputs → EachInputFits (map (fields_at c) ls) inputs
each_input c [] [] h = tt
each_input c [] (rows ∷ inputs) h = absurd h
each_input c (l ∷ ls) [] h = absurd h
each_input c (l ∷ ls) (rows ∷ inputs) h = (h.0, each_input c ls inputs h.1)

-- the width of the first input, by its fields
first_width_is : (ins : List (List Field)) → get_or (map length ins) 0 0 ≡ length (first_fields ins)
first_width_is [] = refl
first_width_is (fields ∷ ins) = refl

first_keys : (key : List (List ℕ × Bool)) (ins : List (List Field)) → length ins ≡ 2 → get_keys (inputs_keys key ins) 0 ≡ key_columns (first_fields ins) key
first_keys key [] l = absurd (omega (arith, l))
first_keys key (fields ∷ ins) l = refl

-- two inputs
as_two : (P : List (List Field) → Type 0) → ((before after : List Field) → P (before ∷ (after ∷ []))) → (ins : List (List Field)) → length ins ≡ 2 → P ins
as_two P h [] e = absurd (omega (arith, e))
as_two P h (before ∷ []) e = absurd (omega (arith, e))
as_two P h (before ∷ (after ∷ [])) e = h before after
as_two P h (before ∷ (after ∷ (more ∷ ins))) e = absurd (omega (arith, e))

both_wide : (fields : List Field) (inputs : List (List Row)) → RowsFit fields (input 0 inputs) → RowsFit fields (input 1 inputs) → both_width (length fields) inputs ≡ true
both_wide fields inputs h k = ap₂ (λ a b. a && b) (wide_rows fields (input 0 inputs) h) (wide_rows fields (input 1 inputs) k)

-- what a capture of changes between two inputs makes of rows that fit
abbrev ChangesMade : List (List ℕ × Bool) → List (List ℕ) → Bool → List (List Field) → Type 0
ChangesMade key values keepcopy ins = inputs_cause key ins ≡ None → schemas_cause ins ≡ None → (q p : ℕ) (inputs : List (List Row)) → EachInputFits ins inputs →
    RowsFit (capture_fields (first_fields ins)) (result_on (changecapture (capturing (key_columns (first_fields ins) key) (value_columns key values (first_fields ins)) keepcopy (length (first_fields ins)))) q p inputs)

changes_made : (key : List (List ℕ × Bool)) (values : List (List ℕ)) (keepcopy : Bool) (ins : List (List Field)) → length ins ≡ 2 → ChangesMade key values keepcopy ins
changes_made key values keepcopy ins e = as_two (ChangesMade key values keepcopy) (λ before after keyed same q p inputs f. ((changes_fit key values keepcopy before after keyed same).1 q p inputs f).1) ins e

-- a merge of inputs of these fields
abbrev merge_over : List (List ℕ × Bool) → Bool → Bool → List (List Field) → Merging
merge_over key keepbad reject ins = merging (inputs_keys key ins) (map length ins) keepbad reject

module _ (c : Chart) (o : ℕ) (ports : PortsInOrder c o) where
  abbrev fields : List Field
  fields = first_fields (inputs_at c o)

  abbrev arriving : ℕ
  arriving = length (links_into c o)

  widths_are : widths_into c o ≡ map length (inputs_at c o)
  widths_are = sym (map_two (fields_at c) length (links_into c o))

  many_are : length (inputs_at c o) ≡ arriving
  many_are = length-map (links_into c o) (fields_at c)

  each : (inputs : List (List Row)) → InputsFit (fits_at c) (links_into c o) inputs → EachInputFits (inputs_at c o) inputs
  each inputs f = each_input c (links_into c o) inputs f

  -- an operator over rows, by what it means and what it makes of rows that fit
  by_meaning : (op : Op) (stream : RowStream) (n many : ℕ) (suits : List (List Row) → Bool) (made : ℕ → List Field) → arriving ≡ n → 0 < n → ((l : ℕ) → IsIn l (links_from c o) → ((link_at c l).out < many) × (fields_at c l ≡ made (link_at c l).out)) →
      ((inputs : List (List Row)) → InputsFit (fits_at c) (links_into c o) inputs → suits inputs ≡ true) → ((q p : ℕ) (inputs : List (List Row)) (rows : List Row) → EachInputFits (inputs_at c o) inputs → GivesOn op q p inputs rows → RowsFit (made q) rows) →
      Means o n many suits op stream → Works c (fits_at c) o op (numbered_at o stream)
  by_meaning op stream n many suits made one some there suited makes means =
      meaning_works c (fits_at c) o many suits op stream ports (subst (λ m. 0 < m) (sym one) some) (λ l i. (there l i).0) suited
      (λ l p inputs rows i f given. subst (λ (fs : List Field). RowsFit fs rows) (sym (there l i).1) (makes (link_at c l).out p inputs rows (each inputs f) given)) (subst (λ m. Means o m many suits op stream) (sym one) means)

  merge_works : (key : List (List ℕ × Bool)) (keepbad reject : Bool) → IsMatchedAt c o (kind.Merge key keepbad reject) → Works c (fits_at c) o (merge (merge_of keepbad reject (parts_of c o) (widths_into c o))) (numbered_at o (match.merge_stream (merge_of keepbad reject (parts_of c o) (widths_into c o))))
  merge_works key keepbad reject h =
      let m = merge_over key keepbad reject (inputs_at c o) in
      subst (λ (n : Merging). Works c (fits_at c) o (merge n) (numbered_at o (match.merge_stream n))) (ap₂ (λ ks ws. merging ks ws keepbad reject) (sym h.2) (sym widths_are))
      (by_meaning (merge m) (match.merge_stream m) (length m.keys) (length m.keys) any_lists (merge_output key keepbad (inputs_at c o)) many some
      (λ l i. (subst (λ n. (link_at c l).out < n) many (h.3 l i).0, (h.3 l i).1)) (λ inputs f. refl)
      (λ q p inputs rows f given. subst (RowsFit (merge_output key keepbad (inputs_at c o) q)) (sym given) ((merges_fit key keepbad reject (inputs_at c o) h.1).1 q p inputs f).1)
      ((streams_mean o).merge m some))
    where
      many : length (links_into c o) ≡ length (inputs_keys key (inputs_at c o))
      many = sym (length-map (inputs_at c o) (λ fields. key_columns fields key) ∙ many_are)

      some : 0 < length (inputs_keys key (inputs_at c o))
      some = subst (λ n. 0 < n) many h.0

  capture_works : (key : List (List ℕ × Bool)) (values : List (List ℕ)) (keepcopy : Bool) → IsMatchedAt c o (kind.Changecapture key values keepcopy) → Works c (fits_at c) o (changecapture (capture_of keepcopy (parts_of c o) (get_or (widths_into c o) 0 0))) (numbered_at o (capture_stream (get_keys (parts_of c o).keys 0) (parts_of c o).cols keepcopy))
  capture_works key values keepcopy h =
      subst (λ (ks : List Key). Works c (fits_at c) o (changecapture (capturing ks (parts_of c o).cols keepcopy (get_or (widths_into c o) 0 0))) (numbered_at o (capture_stream ks (parts_of c o).cols keepcopy))) (sym keys_are)
      (subst (λ (cs : List ℕ). Works c (fits_at c) o (changecapture (capturing (key_columns fields key) cs keepcopy (get_or (widths_into c o) 0 0))) (numbered_at o (capture_stream (key_columns fields key) cs keepcopy))) (sym h.4)
      (subst (λ n. Works c (fits_at c) o (changecapture (capturing (key_columns fields key) (value_columns key values fields) keepcopy n)) (numbered_at o (capture_stream (key_columns fields key) (value_columns key values fields) keepcopy))) (sym width_is)
      (by_meaning (changecapture (capturing (key_columns fields key) (value_columns key values fields) keepcopy (length fields))) (capture_stream (key_columns fields key) (value_columns key values fields) keepcopy) 2 1 (both_width (length fields)) (λ q. capture_fields fields) h.0 (omega arith)
      h.5 (λ inputs f. wide inputs (each inputs f))
      (λ q p inputs rows f given. subst (RowsFit (capture_fields fields)) (sym given) (changes_made key values keepcopy (inputs_at c o) two h.1 h.2 q p inputs f))
      ((streams_mean o).changecapture (key_columns fields key) (value_columns key values fields) keepcopy (length fields)))))
    where
      two : length (inputs_at c o) ≡ 2
      two = many_are ∙ h.0

      keys_are : get_keys (parts_of c o).keys 0 ≡ key_columns (first_fields (inputs_at c o)) key
      keys_are = ap (λ ks. get_keys ks 0) h.3 ∙ first_keys key (inputs_at c o) two

      width_is : get_or (widths_into c o) 0 0 ≡ length (first_fields (inputs_at c o))
      width_is = ap (λ ws. get_or ws 0 0) widths_are ∙ first_width_is (inputs_at c o)

      wide : (inputs : List (List Row)) → EachInputFits (inputs_at c o) inputs → both_width (length (first_fields (inputs_at c o))) inputs ≡ true
      wide inputs f =
          let both = two in
          both_wide (first_fields (inputs_at c o)) inputs (alike_fit (first_fields (inputs_at c o)) (inputs_at c o) 0 _ (all_alike (inputs_at c o) h.2) (omega (arith, both)) (input_at (inputs_at c o) inputs f 0))
          (alike_fit (first_fields (inputs_at c o)) (inputs_at c o) 1 _ (all_alike (inputs_at c o) h.2) (omega (arith, both)) (input_at (inputs_at c o) inputs f 1))

  funnel_works : (sequence : Bool) (sort : List (List ℕ × Bool)) → IsMatchedAt c o (kind.Funnel sequence sort) → (b : Bool) (keys : List Key) → Works c (fits_at c) o (funnelled_by b keys) (numbered_at o (funnel_stream b keys arriving))
  funnel_works sequence sort h true keys =
      by_meaning funnel_sequence (ordered_stream arriving) arriving 1 any_lists (λ q. first_fields (inputs_at c o)) refl h.0 h.2 (λ inputs f. refl)
      (λ q p inputs rows f given. subst (RowsFit (first_fields (inputs_at c o))) (sym given) ((funnels_fit true keys (inputs_at c o) h.1).1 q p inputs f).1) ((streams_mean o).funnel_sequence arriving h.0)
  funnel_works sequence sort h false [] =
      by_meaning funnel (any_stream arriving) arriving 1 any_lists (λ q. first_fields (inputs_at c o)) refl h.0 h.2 (λ inputs f. refl)
      (λ q p inputs rows f given. interleaves_all (λ (r : Row). row_fits (first_fields (inputs_at c o)) r ≡ true) inputs rows (all_rows inputs f) given) ((streams_mean o).funnel arriving h.0)
    where
      all_rows : (inputs : List (List Row)) → EachInputFits (inputs_at c o) inputs → AllByRecursion (RowsFit (first_fields (inputs_at c o))) inputs
      all_rows inputs f = inputs_alike (first_fields (inputs_at c o)) (inputs_at c o) inputs (all_alike (inputs_at c o) h.1) (no_more (inputs_at c o) inputs f) (input_at (inputs_at c o) inputs f)
  funnel_works sequence sort h false (k ∷ keys) =
      by_meaning (funnel_sort (k ∷ keys)) (merge_stream arriving (row_cmp (k ∷ keys))) arriving 1 any_lists (λ q. first_fields (inputs_at c o)) refl h.0 h.2 (λ inputs f. refl)
      (λ q p inputs rows f given. interleaves_all (λ (r : Row). row_fits (first_fields (inputs_at c o)) r ≡ true) inputs rows (all_rows inputs f) (merge_rows_interleave (k ∷ keys) inputs rows given)) ((streams_mean o).funnel_sort arriving (k ∷ keys) h.0)
    where
      all_rows : (inputs : List (List Row)) → EachInputFits (inputs_at c o) inputs → AllByRecursion (RowsFit (first_fields (inputs_at c o))) inputs
      all_rows inputs f = inputs_alike (first_fields (inputs_at c o)) (inputs_at c o) inputs (all_alike (inputs_at c o) h.1) (no_more (inputs_at c o) inputs f) (input_at (inputs_at c o) inputs f)

  works : (k : OpKind) (unwritable : Row → List Fault) → IsMatchedAt c o k → Works c (fits_at c) o (op_by o k (parts_of c o) (widths_into c o)) (stream_by o k (parts_of c o) (widths_into c o) (length (links_from c o)) unwritable)
  works (kind.Merge key keepbad reject) unwritable h = merge_works key keepbad reject h
  works (kind.Changecapture key values keepcopy) unwritable h = capture_works key values keepcopy h
  works (kind.Funnel sequence sort) unwritable h =
      subst (λ n. Works c (fits_at c) o (funnelled_by sequence (get_keys (parts_of c o).keys 0)) (numbered_at o (funnel_stream sequence (get_keys (parts_of c o).keys 0) n))) (sym (length-map (links_into c o) (width_at c)))
      (funnel_works sequence sort h sequence (get_keys (parts_of c o).keys 0))
  works k unwritable h = absurd h

pub matched_work : MatchedWork
matched_work c unwritable o ports h = works c o ports (op_at c o).kind (unwritable o) h
