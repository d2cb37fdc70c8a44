-- The operators that are built work in a shaped flow.
use Rattle.std.proofs.Common.{◌≡◌, ℕ, zero, suc, ◌<◌, ◌==◌, Bool, true, false, cond, refl, sym, ap, ap₂, ◌∙◌, subst, List, [], ◌∷◌, map, length, get_or, arith}
use Rattle.std.specs.Prelude.{◌&&◌, None}
use Rattle.std.specs.List.{AllByRecursion, flat_map}
use Rattle.streams.specs.Lists.{IsIn}
use Rattle.ds_schema.specs.declared.schema.Field.{Field}
use Rattle.ds_schema.specs.Rows.{cols, ways}
use Rattle.ds_schema.specs.Schemas.{row_fits}
use Rattle.op_base.specs.declared.fault.Fault.{Fault}
use Rattle.op_base.specs.declared.missing.Missing.{Missing}
use Rattle.op_base.specs.declared.missing.Missing.TheVariants as missing
use Rattle.op_base.specs.Columns.{Row, all_columns}
use Rattle.op_base.specs.Feeds.{by_runs, run_by_run, rows_in, front, behind}
use Rattle.op_base.specs.Keyed.{get_keys}
use Rattle.op_base.specs.Meanings.{input, one_row}
use Rattle.op_base.specs.RowOperators.{RowRule, copy_rule, sink_rule}
use Rattle.op_base.specs.Standing.{RowStream}
use Rattle.op_base.proofs.All.{all_append, map_two}
use Rattle.op_base.proofs.RowLists.{by_key_all}
use Rattle.op_row.specs.ByRow.{by_row as by_row_stream}
use Rattle.op_row.specs.Expressed.{with_rejects}
use Rattle.flow_graph.specs.declared.flow.Flow.{Flow}
use Rattle.flow_graph.specs.declared.parts.Stored.{Stored}
use Rattle.flow_graph.specs.declared.op_kind.OpKind.{OpKind}
use Rattle.flow_graph.specs.declared.op_kind.OpKind.TheVariants as kind
use Rattle.flow_graph.specs.declared.parts.OpParts.{OpParts}
use Rattle.flow_graph.specs.Charts.{Chart, link_at, links_into, links_from, op_at, parts_of, first_fields as fields_into, kind_form, form_at}
use Rattle.flow_graph.specs.FlowShape.{FormPorts}
use Rattle.flow_graph.specs.Operators.{Op, import, by_row, tsort, remdup, group, join, lookup}
use Rattle.flow_graph.specs.RowRules.{row_rule, numbered}
use Rattle.flow_graph.specs.Runs.{result_on}
use Rattle.flow_ops.specs.Keyed.{aggs_of}
use Rattle.flow_ops.specs.Kinds.{widths_into}
use Rattle.flow_rules.specs.Exports.{IsExport}
use Rattle.op_shape.specs.Options.{IsKeyed, output_fields}
use Rattle.shape_base.specs.Fields.{first_fields}
use Rattle.flow_shape.specs.Refusals.{fields_at, inputs_at}
use Rattle.flow_shape.specs.Ports.{rejects, with_reject}
use Rattle.flow_links.specs.Outputs.{outputs_of, outputs_at, LinksOutputs}
use Rattle.flow_sound.specs.Fitting.{IsByRow, RowsFit}
use Rattle.flow_sound.specs.Kinds.{IsOfKind}
use Rattle.flow_sound.specs.Promise.{ShapedFlow}
use Rattle.flow_sound.proofs.ByRow.{works_at, rows_fit, one_input}
use Rattle.flow_sound.proofs.Fitting.{given_there, lines_fit}
use Rattle.flow_sound.proofs.KeyedOps.{EachFits, keyed_at, keyed_gives}
use Rattle.flow_sound.proofs.Order.{leaves_it}
use Rattle.flow_sound.proofs.Working.{fits_long}
use Rattle.flow_plan.specs.Data.{Datum, numbered_at}
use Rattle.flow_plan.specs.Planned.{op_count}
use Rattle.plan_sound.specs.OperatorStreams.{Means, OperatorsMean, InputsFit, Stays, any_lists, main_width, have_width}
use Rattle.plan_sound.specs.Working.{GivesOn, Works}
use Rattle.plan_sound.proofs.Meaning.{streams_mean}
use Rattle.plan_sound.proofs.Working.{meaning_works, sources_work}
use Rattle.plan_promise.specs.KindStreams.{stream_by, fits_at, SinksAre, KindsWork}

one_more : {n : ℕ} (b : Bool) (m : ℕ) → n < with_reject b m → n < with_rejects m b
one_more true m l = omega (arith, l)
one_more false m l = l

-- rows run by run
runs_all : (P : Row → Type 0) (last : Bool) (n : ℕ) (ds : List Bool) (cs : List ℕ) (rows : List Row) → AllByRecursion P rows → AllByRecursion P (run_by_run n ds (cs ∷ []) (λ v same. one_row last (input 0 same)) (rows ∷ []))
runs_all P last zero ds cs rows h = tt
runs_all P last (suc n) ds cs [] h = tt
runs_all P last (suc n) ds cs (r ∷ rows) h =
    all_append P (one_row last (front cs (Rattle.ds_schema.specs.Rows.val cs r) (r ∷ rows))) _ (one_all last (front cs (Rattle.ds_schema.specs.Rows.val cs r) (r ∷ rows)) (front_all (Rattle.ds_schema.specs.Rows.val cs r) (r ∷ rows) h))
    (runs_all P last n ds cs (behind cs (Rattle.ds_schema.specs.Rows.val cs r) (r ∷ rows)) (behind_all (Rattle.ds_schema.specs.Rows.val cs r) (r ∷ rows) h))
  where
    front_all : (v : List Rattle.ds_value.specs.declared.value.Value.Value) (xs : List Row) → AllByRecursion P xs → AllByRecursion P (front cs v xs)
    front_all v [] h = tt
    front_all v (x ∷ xs) h = go (Rattle.ds_schema.specs.Rows.has cs v x) (front_all v xs h.1)
      where
        go : (b : Bool) → AllByRecursion P (front cs v xs) → AllByRecursion P (cond b (x ∷ front cs v xs) [])
        go true k = (h.0, k)
        go false k = tt

    behind_all : (v : List Rattle.ds_value.specs.declared.value.Value.Value) (xs : List Row) → AllByRecursion P xs → AllByRecursion P (behind cs v xs)
    behind_all v [] h = tt
    behind_all v (x ∷ xs) h = go (Rattle.ds_schema.specs.Rows.has cs v x) (behind_all v xs h.1)
      where
        go : (b : Bool) → AllByRecursion P (behind cs v xs) → AllByRecursion P (cond b (behind cs v xs) (x ∷ xs))
        go true k = k
        go false k = h

    one_all : (last : Bool) (xs : List Row) → AllByRecursion P xs → AllByRecursion P (one_row last xs)
    one_all false [] h = tt
    one_all false (x ∷ xs) h = (h.0, tt)
    one_all true [] h = tt
    one_all true (x ∷ []) h = h
    one_all true (x ∷ (y ∷ xs)) h = one_all true (y ∷ xs) h.1

flat_all : (P Q : Row → Type 0) (g : Row → List Row) → ((r : Row) → P r → AllByRecursion Q (g r)) → (rows : List Row) → AllByRecursion P rows → AllByRecursion Q (flat_map g rows)
flat_all P Q g h [] k = tt
flat_all P Q g h (r ∷ rows) k = all_append Q (g r) (flat_map g rows) (h r k.0) (flat_all P Q g h rows k.1)

-- rows that fit the links into an operator fit the fields of its inputs
each_fits : (c : Chart) (ls : List ℕ) (inputs : List (List Row)) → InputsFit (fits_at c) ls inputs → EachFits (map (fields_at c) ls) inputs
each_fits c [] [] h i = tt
each_fits c [] (rows ∷ inputs) h i = absurd h
each_fits c (l ∷ ls) [] h i = absurd h
each_fits c (l ∷ ls) (rows ∷ inputs) h zero = h.0
each_fits c (l ∷ ls) (rows ∷ inputs) h (suc i) = each_fits c ls inputs h.1 i

equal_test : (a b : ℕ) → a ≡ b → (a == b) ≡ true
equal_test a b e = grind (arith, Rattle.std.proofs.lemmas.Bool.Decides.nat_tests)

pub wide_rows : (fields : List Field) (rows : List Row) → RowsFit fields rows → have_width (length fields) rows ≡ true
wide_rows fields [] h = refl
wide_rows fields (r ∷ rows) h = ap₂ (λ a b. a && b) (equal_test (length r) (length fields) (fits_long fields r h.0)) (wide_rows fields rows h.1)

main_rows : (c : Chart) (ls : List ℕ) (inputs : List (List Row)) → InputsFit (fits_at c) ls inputs → main_width (get_or (map (λ l. length (fields_at c l)) ls) 0 0) inputs ≡ true
main_rows c [] [] h = refl
main_rows c [] (rows ∷ inputs) h = absurd h
main_rows c (l ∷ ls) [] h = absurd h
main_rows c (l ∷ ls) (rows ∷ inputs) h = wide_rows (fields_at c l) rows h.0

none_into : (ls : List ℕ) → length ls ≡ 0 → ls ≡ []
none_into [] e = refl
none_into (l ∷ ls) e = absurd (omega (arith, e))

module _ (flow : Flow) (dict : List Stored) (c : Chart) (ops : ℕ → Op) (unwritable : ℕ → Row → List Fault) (s : ShapedFlow flow dict c ops) (outs : LinksOutputs c) (sinks : SinksAre c ops unwritable) (o : ℕ) (h : o < op_count c) where
  abbrev parts : OpParts
  parts = parts_of c o

  abbrev widths : List ℕ
  widths = widths_into c o

  abbrev arriving : ℕ
  arriving = length (links_into c o)

  abbrev leaving : ℕ
  leaving = length (links_from c o)

  abbrev Of : OpKind → Type 0
  Of k = IsOfKind o k (parts_of c o) (widths_into c o) (ops o)

  is_of : (k : OpKind) → (op_at c o).kind ≡ k → Of k
  is_of k e = subst (λ (z : OpKind). IsOfKind o z (parts_of c o) (widths_into c o) (ops o)) e (s.kinds o h)

  ports : (k : OpKind) → (op_at c o).kind ≡ k → FormPorts (kind_form k (Rattle.flow_graph.specs.Charts.keys_at c o) (Rattle.flow_graph.specs.Charts.cols_at c o) (get_or c.stored o None) (Rattle.flow_graph.specs.Charts.first_width c o)) (length (links_into c o))
  ports k e = subst (λ (z : OpKind). FormPorts (kind_form z (Rattle.flow_graph.specs.Charts.keys_at c o) (Rattle.flow_graph.specs.Charts.cols_at c o) (get_or c.stored o None) (Rattle.flow_graph.specs.Charts.first_width c o)) (length (links_into c o))) e (s.shape.ops o h).inputs

  at_outs : (k : OpKind) → (op_at c o).kind ≡ k → (l : ℕ) → IsIn l (links_from c o) → (link_at c l).out < outputs_of k arriving leaving
  at_outs k e l i =
      let b = leaves_it c o l i in
      subst (λ (z : OpKind). (link_at c l).out < outputs_of z arriving leaving) e (subst (λ p. (link_at c l).out < outputs_at c p) b.0 (outs.below l b.1))

  fields : (k : OpKind) → (op_at c o).kind ≡ k → (l : ℕ) → IsIn l (links_from c o) → fields_at c l ≡ output_fields k (inputs_at c o) (link_at c l).out
  fields k e l i =
      let b = leaves_it c o l i in
      given_there c o l (s.shape_of.schemas.fits o h) b.1 b.0 ∙ ap (λ (z : OpKind). output_fields z (inputs_at c o) (link_at c l).out) e

  each : (inputs : List (List Row)) → InputsFit (fits_at c) (links_into c o) inputs → EachFits (inputs_at c o) inputs
  each inputs f = each_fits c (links_into c o) inputs f

  -- an operator over rows, by what it means
  by_meaning : (op : Op) (stream : RowStream) (n many : ℕ) (suits : List (List Row) → Bool) → ops o ≡ op → length (links_into c o) ≡ n → 0 < n → ((l : ℕ) → IsIn l (links_from c o) → (link_at c l).out < many) →
      ((inputs : List (List Row)) → InputsFit (fits_at c) (links_into c o) inputs → suits inputs ≡ true) → Stays c (fits_at c) o op → Means o n many suits op stream → Works c (fits_at c) o (ops o) (numbered_at o stream)
  by_meaning op stream n many suits is one some there suited stays means =
      subst (λ (z : Op). Works c (fits_at c) o z (numbered_at o stream)) (sym is)
      (meaning_works c (fits_at c) o many suits op stream (s.shape.ops o h).ports (subst (λ m. 0 < m) (sym one) some) there suited stays (subst (λ m. Means o m many suits op stream) (sym one) means))

  any_suits : (inputs : List (List Row)) → InputsFit (fits_at c) (links_into c o) inputs → any_lists inputs ≡ true
  any_suits inputs f = refl

  -- what fits its fields, on the links that leave it
  stays_by : (k : OpKind) (op : Op) → (op_at c o).kind ≡ k → ((q p : ℕ) (inputs : List (List Row)) (rows : List Row) → EachFits (inputs_at c o) inputs → GivesOn op q p inputs rows → RowsFit (output_fields k (inputs_at c o) q) rows) → Stays c (fits_at c) o op
  stays_by k op e f l p inputs rows i fit given = subst (λ (fs : List Field). RowsFit fs rows) (sym (fields k e l i)) (f (link_at c l).out p inputs rows (each inputs fit) given)

  -- rows that stay as they are
  passing : (k : OpKind) (op : Op) → (op_at c o).kind ≡ k → ((q : ℕ) → output_fields k (inputs_at c o) q ≡ first_fields (inputs_at c o)) → ((q p : ℕ) (inputs : List (List Row)) (rows : List Row) → GivesOn op q p inputs rows → (P : Row → Type 0) → AllByRecursion P (input 0 inputs) → AllByRecursion P rows) → Stays c (fits_at c) o op
  passing k op e same f = stays_by k op e (λ q p inputs rows fit given. subst (λ (fs : List Field). RowsFit fs rows) (sym (same q)) (f q p inputs rows given (λ (r : Row). row_fits (first_fields (inputs_at c o)) r ≡ true) (fit 0)))

  -- by rows
  by_rule : (k : OpKind) (rule : RowRule) (many : ℕ) → (op_at c o).kind ≡ k → IsByRow k → length (links_into c o) ≡ 1 → ops o ≡ by_row (row_rule o k parts) → row_rule o k parts ≡ numbered o rule → ((l : ℕ) → IsIn l (links_from c o) → (link_at c l).out < many) → Works c (fits_at c) o (ops o) (numbered_at o (by_row_stream rule many))
  by_rule k rule many e b one is same there =
      by_meaning (by_row (numbered o rule)) (by_row_stream rule many) 1 many any_lists (is ∙ ap by_row same) one (omega arith) there any_suits
      (subst (λ (r : RowRule). Stays c (fits_at c) o (by_row r)) same (stays_by k (by_row (row_rule o k parts)) e fit)) ((streams_mean o).by_row rule many)
    where
      is_by : IsByRow (op_at c o).kind
      is_by = subst IsByRow (sym e) b

      only : inputs_at c o ≡ fields_into c o ∷ []
      only = one_input c o s.shape h is_by

      fit : (q p : ℕ) (inputs : List (List Row)) (rows : List Row) → EachFits (inputs_at c o) inputs → rows ≡ flat_map ((row_rule o k parts).rows q) (input 0 inputs) → RowsFit (output_fields k (inputs_at c o) q) rows
      fit q p inputs rows f given =
          subst (λ ins. RowsFit (output_fields k ins q) rows) (sym only) (subst (RowsFit (output_fields k (fields_into c o ∷ []) q)) (sym given)
          (flat_all (λ (r : Row). row_fits (fields_into c o) r ≡ true) (λ (r : Row). row_fits (output_fields k (fields_into c o ∷ []) q) r ≡ true) ((row_rule o k parts).rows q)
          (λ r t. rows_fit o k (fields_into c o) parts b (subst (λ (z : OpKind). Rattle.flow_sound.proofs.Working.Works z (fields_into c o) parts) e (works_at flow dict c s.shape s.shape_of o h is_by)) q r t)
          (input 0 inputs) (subst (λ ins. EachFits ins inputs) only f 0)))

  -- by keys
  keyed_fits : (k : OpKind) (op : Op) → (op_at c o).kind ≡ k → IsKeyed k → ops o ≡ op → (q : ℕ) (inputs : List (List Row)) → EachFits (inputs_at c o) inputs → RowsFit (output_fields k (inputs_at c o) q) (result_on op q 0 inputs)
  keyed_fits k op e b is q inputs f =
      (keyed_gives o k parts (inputs_at c o) op q inputs b
      (subst (λ (z : Op). IsOfKind o k parts (map length (inputs_at c o)) z) is (subst (λ ws. IsOfKind o k parts ws (ops o)) (sym (map_two (fields_at c) length (links_into c o))) (is_of k e)))
      (subst (λ (z : OpKind). Rattle.flow_sound.proofs.KeyedOps.WorksByKey z (inputs_at c o) parts) e (keyed_at flow dict c s.shape s.shape_of o h (subst IsKeyed (sym e) b))) f).1

  joins : (k : OpKind) (j : Rattle.op_base.specs.Meanings.Join) → (op_at c o).kind ≡ k → IsKeyed k → outputs_of k arriving leaving ≡ 1 → length (links_into c o) ≡ 2 → ops o ≡ join j → Works c (fits_at c) o (ops o) (numbered_at o (Rattle.op_join.specs.Joining.join_stream j))
  joins k j e b one two is =
      by_meaning (join j) (Rattle.op_join.specs.Joining.join_stream j) 2 1 any_lists is two (omega arith) (λ l i. subst (λ n. (link_at c l).out < n) one (at_outs k e l i)) any_suits
      (stays_by k (join j) e (λ q p inputs rows f given. subst (RowsFit (output_fields k (inputs_at c o) q)) (sym given) (keyed_fits k (join j) e b is q inputs f))) ((streams_mean o).join j)

  works : (k : OpKind) → (op_at c o).kind ≡ k → Works c (fits_at c) o (ops o) (stream_by o k parts widths leaving (unwritable o))
  works (kind.Import file schema delim fixed reject) e =
      let is = is_of (kind.Import file schema delim fixed reject) e in
      subst (λ (z : Op). Works c (fits_at c) o z (Rattle.flow_plan.specs.Data.import_stream reject)) (sym is.3)
      (sources_work.import c (fits_at c) o is.0 reject is.1 (none_into (links_into c o) (ports (kind.Import file schema delim fixed reject) e)) (λ l i. few reject (at_outs (kind.Import file schema delim fixed reject) e l i))
      (stays_by (kind.Import file schema delim fixed reject) (import is.0 reject is.1) e (λ q p inputs rows f given. subst (RowsFit (output_fields (kind.Import file schema delim fixed reject) (inputs_at c o) q)) (sym given) (lines_fit schema reject is.0 q is.2))))
    where
      few : {n : ℕ} (b : Bool) → n < with_reject b 1 → n < 2
      few true l = l
      few false l = omega (arith, l)
  works (kind.Export file delim fixed) e =
      by_meaning (by_row (numbered o (sink_rule (unwritable o)))) (by_row_stream (sink_rule (unwritable o)) 0) 1 0 any_lists (sinks o h (subst IsExport (sym e) tt)) (ports (kind.Export file delim fixed) e) (omega arith) (at_outs (kind.Export file delim fixed) e) any_suits
      (λ l p inputs rows i f given. absurd (let n = at_outs (kind.Export file delim fixed) e l i in omega (arith, n))) ((streams_mean o).by_row (sink_rule (unwritable o)) 0)
  works kind.Copy e =
      by_meaning (by_row (numbered o copy_rule)) (by_row_stream copy_rule leaving) 1 leaving any_lists (is_of kind.Copy e) (ports kind.Copy e) (omega arith) (at_outs kind.Copy e) any_suits
      (passing kind.Copy (by_row (numbered o copy_rule)) e (λ q. refl) (λ q p inputs rows given P a. subst (AllByRecursion P) (sym given) (flat_all P P (λ r. r ∷ []) (λ r t. (t, tt)) (input 0 inputs) a)))
      ((streams_mean o).by_row copy_rule leaving)
  works (kind.Filter test reject) e = by_rule (kind.Filter test reject) _ _ e tt (ports (kind.Filter test reject) e) (is_of (kind.Filter test reject) e) refl (at_outs (kind.Filter test reject) e)
  works (kind.Transform set reject) e = by_rule (kind.Transform set reject) _ _ e tt (ports (kind.Transform set reject) e) (is_of (kind.Transform set reject) e) refl (at_outs (kind.Transform set reject) e)
  works (kind.Modify keep drop rename) e = by_rule (kind.Modify keep drop rename) (Rattle.op_base.specs.RowOperators.modify_rule parts.cols) 1 e tt (ports (kind.Modify keep drop rename) e) (is_of (kind.Modify keep drop rename) e) refl (at_outs (kind.Modify keep drop rename) e)
  works (kind.Switch on cases reject) e = by_rule (kind.Switch on cases reject) _ _ e tt (ports (kind.Switch on cases reject) e) (is_of (kind.Switch on cases reject) e) refl (λ l i. one_more reject (length cases) (at_outs (kind.Switch on cases reject) e l i))
  works (kind.Tsort key) e =
      let keys = get_keys parts.keys 0 in
      by_meaning (tsort keys) (Rattle.op_order.specs.Ordered.tsort_stream keys) 1 1 any_lists (is_of (kind.Tsort key) e) (ports (kind.Tsort key) e) (omega arith) (at_outs (kind.Tsort key) e) any_suits
      (passing (kind.Tsort key) (tsort keys) e (λ q. refl) (λ q p inputs rows given P a. subst (AllByRecursion P) (sym given) (by_key_all keys (λ same. same) (λ P rows all. all) P (input 0 inputs) a))) ((streams_mean o).tsort keys)
  works (kind.Remdup key last) e =
      let keys = get_keys parts.keys 0 in
      by_meaning (remdup last keys) (Rattle.op_order.specs.Ordered.remdup_stream keys last) 1 1 any_lists (is_of (kind.Remdup key last) e) (ports (kind.Remdup key last) e) (omega arith) (at_outs (kind.Remdup key last) e) any_suits
      (passing (kind.Remdup key last) (remdup last keys) e (λ q. refl) (λ q p inputs rows given P a. subst (AllByRecursion P) (sym given) (by_runs_all P keys inputs a))) ((streams_mean o).remdup last keys)
    where
      by_runs_all : (P : Row → Type 0) (keys : List Rattle.ds_schema.specs.declared.key.Key.Key) (inputs : List (List Row)) → AllByRecursion P (input 0 inputs) → AllByRecursion P (by_runs (ways keys) (cols keys ∷ []) (λ v same. one_row last (input 0 same)) inputs)
      by_runs_all P keys [] a = tt
      by_runs_all P keys (rows ∷ []) a = runs_all P last (rows_in (cols keys ∷ []) (rows ∷ [])) (ways keys) (cols keys) rows a
      by_runs_all P keys (rows ∷ (more ∷ inputs)) a = only_one (rows_in (cols keys ∷ []) (rows ∷ (more ∷ inputs))) rows a
        where
          only_one : (n : ℕ) (rows : List Row) → AllByRecursion P rows → AllByRecursion P (run_by_run n (ways keys) (cols keys ∷ []) (λ v same. one_row last (input 0 same)) (rows ∷ (more ∷ inputs)))
          only_one n rows a = subst (AllByRecursion P) (first_alone n rows) (runs_all P last n (ways keys) (cols keys) rows a)
            where
              first_alone : (n : ℕ) (rows : List Row) → run_by_run n (ways keys) (cols keys ∷ []) (λ v same. one_row last (input 0 same)) (rows ∷ []) ≡ run_by_run n (ways keys) (cols keys ∷ []) (λ v same. one_row last (input 0 same)) (rows ∷ (more ∷ inputs))
              first_alone zero rows = refl
              first_alone (suc n) [] = refl
              first_alone (suc n) (r ∷ rows) = refl
  works (kind.Group key hash results) e =
      let g = Rattle.op_group.specs.Results.grouping (get_keys parts.keys 0) hash (aggs_of results parts.cols) in
      let op = group (Rattle.flow_ops.specs.Keyed.grouping_at o g) in
      by_meaning op (Rattle.kind_streams.specs.OfKinds.group_stream (get_keys parts.keys 0) hash (aggs_of results parts.cols)) 1 1 any_lists (is_of (kind.Group key hash results) e) (ports (kind.Group key hash results) e) (omega arith) (at_outs (kind.Group key hash results) e) any_suits
      (stays_by (kind.Group key hash results) op e (λ q p inputs rows f given. subst (RowsFit (output_fields (kind.Group key hash results) (inputs_at c o) q)) (sym given) (keyed_fits (kind.Group key hash results) op e tt (is_of (kind.Group key hash results) e) q inputs f)))
      ((streams_mean o).group (get_keys parts.keys 0) hash (aggs_of results parts.cols))
  works (kind.InnerJoin key) e = joins (kind.InnerJoin key) _ e tt refl (ports (kind.InnerJoin key) e) (is_of (kind.InnerJoin key) e)
  works (kind.LeftOuterJoin key) e = joins (kind.LeftOuterJoin key) _ e tt refl (ports (kind.LeftOuterJoin key) e) (is_of (kind.LeftOuterJoin key) e)
  works (kind.RightOuterJoin key) e = joins (kind.RightOuterJoin key) _ e tt refl (ports (kind.RightOuterJoin key) e) (is_of (kind.RightOuterJoin key) e)
  works (kind.FullOuterJoin key) e = joins (kind.FullOuterJoin key) _ e tt refl (ports (kind.FullOuterJoin key) e) (is_of (kind.FullOuterJoin key) e)
  works (kind.Lookup key m) e =
      let k0 : Rattle.op_base.specs.Meanings.Looking = record {
        main_keys = get_keys parts.keys 0;
        reference_keys = get_keys parts.keys 1;
        main = all_columns (get_or widths 0 0);
        others = Rattle.op_lookup.specs.Looked.others_of (cols (get_keys parts.keys 1)) (get_or widths 1 0);
        missing = m;
        fault = λ a. Rattle.op_lookup.specs.Looked.missing_fault a;
      } in
      let op = lookup (Rattle.plan_sound.specs.OperatorStreams.looking_at o k0) in
      by_meaning op (Rattle.op_lookup.specs.Looked.looked_stream (cols (get_keys parts.keys 0)) (cols (get_keys parts.keys 1)) (get_or widths 1 0) m) 2 2 (main_width (get_or widths 0 0)) (is_of (kind.Lookup key m) e) (ports (kind.Lookup key m) e) (omega arith)
      (λ l i. few m (at_outs (kind.Lookup key m) e l i)) (λ inputs f. main_rows c (links_into c o) inputs f)
      (stays_by (kind.Lookup key m) op e (λ q p inputs rows f given. subst (RowsFit (output_fields (kind.Lookup key m) (inputs_at c o) q)) (sym given) (keyed_fits (kind.Lookup key m) op e tt (is_of (kind.Lookup key m) e) q inputs f)))
      ((streams_mean o).lookup (get_or widths 0 0) (cols (get_keys parts.keys 0)) (cols (get_keys parts.keys 1)) (get_or widths 1 0) m k0 (record { main_is = refl; reference_is = refl; own_is = refl; others_are = refl; missing_is = refl; fault_is = λ a. refl }))
    where
      few : {n : ℕ} (z : Missing) → n < with_reject (rejects z) 1 → n < 2
      few missing.Continue l = omega (arith, l)
      few missing.Drop l = omega (arith, l)
      few missing.Fail l = omega (arith, l)
      few missing.Reject l = l
  works (kind.Dsread ds) e = absurd (is_of (kind.Dsread ds) e)
  works (kind.Dswrite ds) e = absurd (is_of (kind.Dswrite ds) e)
  works (kind.Merge key keepbad reject) e = absurd (is_of (kind.Merge key keepbad reject) e)
  works (kind.Changecapture key values keepcopy) e = absurd (is_of (kind.Changecapture key values keepcopy) e)
  works (kind.Funnel sequence sort) e = absurd (is_of (kind.Funnel sequence sort) e)

pub kinds_work : KindsWork
kinds_work flow dict c ops unwritable s outs sinks o h = works flow dict c ops unwritable s outs sinks o h (op_at c o).kind refl
