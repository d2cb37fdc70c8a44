-- The groups of key values after one row more, and what they give.
use Rattle.std.proofs.Common.{◌≡◌, ℕ, Bool, true, false, ◌||◌, cond, is_some, Some, None, List, [], ◌∷◌, ◌++◌, map, append-nil, refl, sym, ap, ap₂, ◌∙◌, subst, true≢false}
use Rattle.std.specs.Global.{Vec}
use Rattle.std.specs.List.{AllByRecursion, flat_map}
use Rattle.std.specs.Map.{lookup, set_value}
use Rattle.std.specs.Str.{bytes_eq}
use Rattle.std.proofs.lemmas.List.Concat.{flat_map-append}
use Rattle.streams.specs.Streams.{Feed, Out, ended, rows_of}
use Rattle.streams.proofs.StreamLaws.{map-append}
use Rattle.ds_value.specs.declared.value.Value.{Value}
use Rattle.ds_value.specs.Canonical.{canonical_bytes}
use Rattle.ds_schema.specs.declared.key.Key.{Key}
use Rattle.ds_schema.specs.Rows.{cols, val, sub}
use Rattle.op_base.specs.declared.fault.Fault.{Fault}
use Rattle.op_base.specs.declared.emit.Emit.{Emit}
use Rattle.op_base.specs.Columns.{Row}
use Rattle.op_base.specs.Emits.{Adds}
use Rattle.op_base.specs.Keyed.{same_vals, seen}
use Rattle.op_base.specs.Standing.{row_feed, end_feed}
use Rattle.op_base.proofs.Adding.{Adds-then}
use Rattle.op_base.proofs.All.{all_append, split_right}
use Rattle.op_base.proofs.KeyValues.{same_vals_true, same_vals_itself}
use Rattle.op_base.proofs.StandingLaws.{ended-row, ended-end, rows_of-row}
use Rattle.op_group.specs.declared.agg.Agg.{Agg}
use Rattle.op_group.specs.declared.table.Group.{Group}
use Rattle.op_group.specs.Results.{grouping, results}
use Rattle.op_group.specs.Groups.{group_outs, value_groups}
use Rattle.op_group.specs.Kept.{TallyStands, given}
use Rattle.op_group.specs.Tables.{IsTold, IsGroup, AreGroups, HashedStands}
use Rattle.op_group.proofs.Told.{bytes_tell, same_sym}
use Rattle.op_group.proofs.Seen.{among, seen-more, among-seen, AllDiffer, AreApart, seen_apart, sub-more, none_sub, HasRow, seen_there}

abbrev pub Entry : Type 0
Entry = Vec ℕ × Group

abbrev pub values_in : List Entry → List (List Value)
values_in es = map (λ (e : Entry). e.1.values) es

abbrev pub groups_in : List Entry → List Group
groups_in es = map (λ (e : Entry). e.1) es

-- One row more
module _ (keys : List Key) (aggs : List Agg) (rows : List Row) (r : Row) where
  abbrev IsNow : Entry → Type 0
  IsNow e = IsGroup keys aggs rows e

  abbrev IsThen : Entry → Type 0
  IsThen e = IsGroup keys aggs (rows ++ r ∷ []) e

  abbrev v : List Value
  v = val (cols keys) r

  other_group : (e : Entry) → same_vals v e.1.values ≡ false → IsNow e → IsThen e
  other_group e apart h = record {
    bytes_are = h.bytes_are;
    told = h.told;
    tally =
        subst (λ (rs : List Row). TallyStands aggs rs e.1.tally)
        (sym (sub-more (cols keys) e.1.values rows r ∙ ap (λ b. sub (cols keys) e.1.values rows ++ cond b (r ∷ []) []) (same_sym e.1.values v ∙ apart) ∙ append-nil (sub (cols keys) e.1.values rows))) h.tally;
  }

  same_group : (k : Vec ℕ) (old new : Group) → same_vals v old.values ≡ true → new.values ≡ old.values → TallyStands aggs (sub (cols keys) old.values rows ++ r ∷ []) new.tally → IsNow (k, old) → IsThen (k, new)
  same_group k old new same values tally h = record {
    bytes_are = h.bytes_are ∙ ap (flat_map canonical_bytes) (sym values);
    told = subst (AllByRecursion IsTold) (sym values) h.told;
    tally =
        subst (λ (rs : List Row). TallyStands aggs rs new.tally)
        (sym (ap (λ u. sub (cols keys) u (rows ++ r ∷ [])) values ∙ sub-more (cols keys) old.values rows r ∙ ap (λ b. sub (cols keys) old.values rows ++ cond b (r ∷ []) []) (same_sym old.values v ∙ same))) tally;
  }

  others : (es : List Entry) → AllByRecursion IsNow es → AllDiffer v (values_in es) → AllByRecursion IsThen es
  others [] h a = tt
  others (e ∷ es) h a = (other_group e a.0 h.0, others es h.1 a.1)

  -- by a test that the bytes of its key values pass
  module _ (key : List ℕ) (test : Vec ℕ → Bool) (is : key ≡ flat_map canonical_bytes v) (told : AllByRecursion IsTold v) (tests : (k : Vec ℕ) → test k ≡ bytes_eq key k.items) where
    tells : (e : Entry) → IsNow e → test e.0 ≡ same_vals v e.1.values
    tells e h = tests e.0 ∙ bytes_tell v e.1.values key e.0.items told h.told is h.bytes_are

    is_there : (es : List Entry) → AllByRecursion IsNow es → is_some (lookup test es) ≡ among v (values_in es)
    is_there [] h = refl
    is_there (e ∷ es) h = ap (λ b. is_some (cond b (Some e.1) (lookup test es))) (tells e h.0) ∙ go (same_vals v e.1.values) (is_there es h.1)
      where
        go : (b : Bool) → is_some (lookup test es) ≡ among v (values_in es) → is_some (cond b (Some e.1) (lookup test es)) ≡ (b || among v (values_in es))
        go true k = refl
        go false k = k

    among_rows : (es : List Entry) (b : Bool) → AreGroups keys aggs es rows → is_some (lookup test es) ≡ b → among v (map (val (cols keys)) rows) ≡ b
    among_rows es b h e = sym (among-seen v (map (val (cols keys)) rows)) ∙ ap (among v) (sym h.values_are) ∙ sym (is_there es h.each) ∙ e

    seen_then : (b : Bool) → among v (map (val (cols keys)) rows) ≡ b → seen (map (val (cols keys)) (rows ++ r ∷ [])) ≡ seen (map (val (cols keys)) rows) ++ cond b [] (v ∷ [])
    seen_then b e = ap seen (map-append (val (cols keys)) rows (r ∷ [])) ∙ seen-more (map (val (cols keys)) rows) v ∙ ap (λ c. seen (map (val (cols keys)) rows) ++ cond c [] (v ∷ [])) e

    abbrev IsFound : Group → Type 0
    IsFound g = (k : Vec ℕ) × IsNow (k, g) × (same_vals v g.values ≡ true)

    pub found : (es : List Entry) (g : Group) → AllByRecursion IsNow es → lookup test es ≡ Some g → (k : Vec ℕ) × IsNow (k, g) × (same_vals v g.values ≡ true)
    found [] g h f = cc
    found (e ∷ es) g h f = go (same_vals v e.1.values) refl (sym (ap (λ b. cond b (Some e.1) (lookup test es)) (tells e h.0)) ∙ f) (found es g h.1)
      where
        go : (b : Bool) → same_vals v e.1.values ≡ b → cond b (Some e.1) (lookup test es) ≡ Some g → (lookup test es ≡ Some g → IsFound g) → IsFound g
        go true s t k = let same : e.1 ≡ g = cc in subst IsFound same (e.0, h.0, s)
        go false s t k = k t

    -- the row is in a group that is there
    module _ (old new : Group) (values : new.values ≡ old.values) (more : TallyStands aggs (sub (cols keys) old.values rows) old.tally → TallyStands aggs (sub (cols keys) old.values rows ++ r ∷ []) new.tally) where
      values_stay : (es : List Entry) → lookup test es ≡ Some old → values_in (set_value test es new) ≡ values_in es
      values_stay [] f = refl
      values_stay (e ∷ es) f = go (test e.0) f (values_stay es)
        where
          go : (b : Bool) → cond b (Some e.1) (lookup test es) ≡ Some old → (lookup test es ≡ Some old → values_in (set_value test es new) ≡ values_in es) → values_in (cond b ((e.0, new) ∷ es) (e ∷ set_value test es new)) ≡ e.1.values ∷ values_in es
          go true t k = let same : old ≡ e.1 = cc in ap (λ u. u ∷ values_in es) (values ∙ ap (λ (g : Group). g.values) same)
          go false t k = ap (λ us. e.1.values ∷ us) (k t)

      each_then : (es : List Entry) → AllByRecursion IsNow es → AreApart (values_in es) → lookup test es ≡ Some old → AllByRecursion IsThen (set_value test es new)
      each_then [] h a f = tt
      each_then (e ∷ es) h a f = go (test e.0) (sym (tells e h.0)) f (each_then es h.1 a.1)
        where
          go : (b : Bool) → same_vals v e.1.values ≡ b → cond b (Some e.1) (lookup test es) ≡ Some old → (lookup test es ≡ Some old → AllByRecursion IsThen (set_value test es new)) → AllByRecursion IsThen (cond b ((e.0, new) ∷ es) (e ∷ set_value test es new))
          go true s t k =
              let same : e.1 ≡ old = cc in
              let now : IsNow (e.0, old) = subst (λ (g : Group). IsNow (e.0, g)) same h.0 in (
                same_group e.0 old new (ap (λ (g : Group). same_vals v g.values) (sym same) ∙ s) values (more now.tally) now,
                others es h.1 (subst (λ w. AllDiffer w (values_in es)) (same_vals_true v e.1.values s) a.0),
              )
          go false s t k = (other_group e s h.0, k t)

      pub row_joins : (es entries : List Entry) → AreGroups keys aggs es rows → lookup test es ≡ Some old → entries ≡ set_value test es new → AreGroups keys aggs entries (rows ++ r ∷ [])
      row_joins es entries h f e = subst (λ (xs : List Entry). AreGroups keys aggs xs (rows ++ r ∷ [])) (sym e) (record {
        values_are = values_stay es f ∙ h.values_are ∙ sym (seen_then true (among_rows es true h (ap is_some f)) ∙ append-nil (seen (map (val (cols keys)) rows)));
        each = each_then es h.each (subst AreApart (sym h.values_are) (seen_apart (map (val (cols keys)) rows))) f;
      })

    -- the row begins a group
    none_same : (es : List Entry) → among v (values_in es) ≡ false → AllDiffer v (values_in es)
    none_same [] e = tt
    none_same (x ∷ es) e = go (same_vals v x.1.values) refl e (none_same es)
      where
        go : (b : Bool) → same_vals v x.1.values ≡ b → (b || among v (values_in es)) ≡ false → (among v (values_in es) ≡ false → AllDiffer v (values_in es)) → (same_vals v x.1.values ≡ false) × AllDiffer v (values_in es)
        go true s t k = absurd (true≢false t)
        go false s t k = (s, k t)

    pub row_begins : (es entries : List Entry) (k : Vec ℕ) (g : Group) → AreGroups keys aggs es rows → lookup test es ≡ None → k.items ≡ key → g.values ≡ v → TallyStands aggs (r ∷ []) g.tally → entries ≡ es ++ (k, g) ∷ [] → AreGroups keys aggs entries (rows ++ r ∷ [])
    row_begins es entries k g h f bytes values tally e = subst (λ (xs : List Entry). AreGroups keys aggs xs (rows ++ r ∷ [])) (sym e) (record {
      values_are = map-append (λ (x : Entry). x.1.values) es ((k, g) ∷ []) ∙ ap₂ (λ us u. us ++ u ∷ []) h.values_are values ∙ sym (seen_then false none);
      each = all_append IsThen es ((k, g) ∷ []) (others es h.each (none_same es (sym (is_there es h.each) ∙ ap is_some f))) (begun, tt);
    })
      where
        none : among v (map (val (cols keys)) rows) ≡ false
        none = among_rows es false h (ap is_some f)

        alone : sub (cols keys) g.values (rows ++ r ∷ []) ≡ r ∷ []
        alone =
            ap (λ u. sub (cols keys) u (rows ++ r ∷ [])) values ∙ sub-more (cols keys) v rows r
            ∙ ap₂ (λ rs b. rs ++ cond b (r ∷ []) []) (none_sub (cols keys) v rows none) (same_vals_itself v)

        begun : IsThen (k, g)
        begun = record {
          bytes_are = bytes ∙ is ∙ ap (flat_map canonical_bytes) (sym values);
          told = subst (AllByRecursion IsTold) (sym values) told;
          tally = subst (λ (rs : List Row). TallyStands aggs rs g.tally) (sym alone) tally;
        }

-- What the groups give
module _ (keys : List Key) (aggs : List Agg) (rows : List Row) where
  abbrev pub outs_of : Group → List (Out Row Fault)
  outs_of g = given g.values (results aggs (sub (cols keys) g.values rows))

  value_gives : (v : List Value) → HasRow (cols keys) rows v → given v (results aggs (sub (cols keys) v rows)) ≡ group_outs (grouping keys true aggs) v (sub (cols keys) v rows)
  value_gives v h = ap (λ rs. given v (results aggs rs)) h.2 ∙ ap (group_outs (grouping keys true aggs) v) (sym h.2)

  each_gives : (es : List Entry) → AllByRecursion (HasRow (cols keys) rows) (values_in es) → flat_map outs_of (groups_in es) ≡ flat_map (λ v. group_outs (grouping keys true aggs) v (sub (cols keys) v rows)) (values_in es)
  each_gives [] h = refl
  each_gives (e ∷ es) h = ap₂ (λ xs ys. xs ++ ys) (value_gives e.1.values h.0) (each_gives es h.1)

  groups_give : (es : List Entry) → AreGroups keys aggs es rows → flat_map outs_of (groups_in es) ≡ value_groups keys aggs rows
  groups_give es h =
      each_gives es (subst (AllByRecursion (HasRow (cols keys) rows)) (sym h.values_are) (seen_there (cols keys) rows))
      ∙ ap (flat_map (λ v. group_outs (grouping keys true aggs) v (sub (cols keys) v rows))) (h.values_are ∙ ap seen (sym (append-nil (map (val (cols keys)) rows))))

  -- group by group
  abbrev IsKept : Group → Type 0
  IsKept g = AllByRecursion IsTold g.values × TallyStands aggs (sub (cols keys) g.values rows) g.tally

  all_kept : (es : List Entry) → AllByRecursion (IsGroup keys aggs rows) es → AllByRecursion IsKept (groups_in es)
  all_kept [] h = tt
  all_kept (e ∷ es) h = ((h.0.told, h.0.tally), all_kept es h.1)

  pub next_kept : (es : List Entry) → AreGroups keys aggs es rows → (done rest : List Group) (g : Group) → done ++ g ∷ rest ≡ groups_in es → AllByRecursion IsTold g.values × TallyStands aggs (sub (cols keys) g.values rows) g.tally
  next_kept es h done rest g e = (split_right IsKept done (g ∷ rest) (subst (AllByRecursion IsKept) (sym e) (all_kept es h.each))).0

  pub gives_more : (before between after : Emit) (done : List Group) (g : Group) → Adds before between (flat_map outs_of done) → Adds between after (outs_of g) → Adds before after (flat_map outs_of (done ++ g ∷ []))
  gives_more before between after done g f h =
      subst (Adds before after) (sym (flat_map-append outs_of done (g ∷ []) ∙ ap (λ xs. flat_map outs_of done ++ xs) (append-nil (outs_of g)))) (Adds-then before between after (flat_map outs_of done) (outs_of g) f h)

  pub all_given : (before after : Emit) (es : List Entry) → AreGroups keys aggs es rows → (done rest : List Group) → done ++ rest ≡ groups_in es → rest ≡ [] → Adds before after (flat_map outs_of done) → Adds before after (value_groups keys aggs rows)
  all_given before after es h done rest e none f =
      subst (Adds before after) (ap (flat_map outs_of) (sym (append-nil done) ∙ ap (λ xs. done ++ xs) (sym none) ∙ e) ∙ groups_give es h) f

-- What the operator keeps
module _ (keys : List Key) (aggs : List Agg) where
  pub HashedStands-row : (over : Bool) (old new : List Entry) (feeds : List (Feed Row)) (port : ℕ) (x : Row) → port ≡ 0 → (over ≡ false → AreGroups keys aggs old (rows_of 0 feeds) → AreGroups keys aggs new (rows_of 0 feeds ++ x ∷ [])) → HashedStands keys aggs over old feeds → HashedStands keys aggs over new (feeds ++ row_feed port x ∷ [])
  HashedStands-row over old new feeds port x first_port more stands = record {
    over_is = stands.over_is ∙ sym (ended-row 0 feeds port x);
    groups_are = λ still. subst (AreGroups keys aggs new) (sym (rows_of-row 0 feeds x) ∙ ap (λ p. rows_of 0 (feeds ++ row_feed p x ∷ [])) (sym first_port)) (more still (stands.groups_are still));
  }

  pub HashedStands-end : (entries : List Entry) (feeds : List (Feed Row)) (port : ℕ) → port ≡ 0 → HashedStands keys aggs true entries (feeds ++ end_feed port ∷ [])
  HashedStands-end entries feeds port first_port = record {
    over_is = sym (ended-end 0 feeds) ∙ ap (λ p. ended 0 (feeds ++ end_feed p ∷ [])) (sym first_port);
    groups_are = λ still. absurd (true≢false still);
  }
