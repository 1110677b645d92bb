-- A full row that goes into a table, wherever that stands, keeps values sound.
use Rattle.std.proofs.Common.{◌≡◌, ℕ, suc, ◌<◌, ◌≤◌, List, [], ◌∷◌, ◌++◌, flat_map, Bool, true, false, cond, not, ◌&&◌, Option, Some, None, refl, sym, ap, ap₂, ◌∙◌, subst, nat_le, nat_lt, arith, ltb-true, le-leb}
use Rattle.std.specs.Prelude.{slice_get, IsTrue, is_some, option_and_then}
use mathlib.Core.Path.{fun_ext}
use Rattle.herm_model.specs.Lists.{IsIn, numbered, list_of}
use Rattle.herm_model.specs.Paths.{Fact, path_of, is_at_or_below}
use Rattle.herm_model.specs.Types.{TypeTable, Shape, fields, rows, type_at, held_parts, full_parts, IsPartPath, is_within_depth, greatest_depth}
use Rattle.herm_model.specs.Statements.{Insert}
use Rattle.herm_model.specs.FactsOfStatements.{full, present}
use Rattle.herm_model.specs.Outcomes.{Outcome, ok, raised, depletion, duplicate_key}
use Rattle.herm_model.specs.Values.{Cell, cell, a_table, Parts, no_parts, gap, part, part_at, parts_of, inside, size, joined, cell_at, read_at, clear_at}
use Rattle.herm_model.specs.Tables.{scalars_of, key_of, has_key, has_distinct_keys}
use Rattle.herm_model.specs.Finalising.{clear_all}
use Rattle.herm_model.specs.Typed.{many, greatest_rows, is_bounded, Fits, HasType, IsFull}
use Rattle.herm_model.proofs.Lists.{not_true, and-both, both-and, in-append_left}
use Rattle.herm_model.proofs.Keys.{distinct-joined}
use Rattle.herm_model.proofs.FullFacts.{leads-full}
use Rattle.herm_model.proofs.Options.{some-injective}
use Rattle.herm_forms.specs.Frames.{Name, Frame, goes, if_there, reading}
use Rattle.herm_forms.specs.InsertForm
use Rattle.herm_forms.specs.Forms.{moving}
use Rattle.herm_forms.specs.InsertForm.{change_rows, add_row}
use Rattle.herm_forms.specs.Excess.{excess_over_full}
use Rattle.herm_forms.specs.Modules.{Module}
use Rattle.herm_forms.specs.Acts.{key_fields}
use Rattle.herm_forms.specs.laws.EdgeLaws.{AreSound, without, held_after}
use Rattle.herm_forms.specs.laws.ComponentLaws.{RowsAreInserted}
use Rattle.herm_forms.proofs.TypedReading.{typed-read}
use Rattle.herm_forms.proofs.Arrived.{drop-variables}
use Rattle.herm_forms.proofs.forms.PlainForms.{never, without-cond}
use Rattle.herm_forms.proofs.forms.MovedContents.{typed-at}
use Rattle.herm_forms.proofs.forms.ToldFacts.{in-closed}
use Rattle.herm_forms.proofs.forms.FullSources.{taken-full, lost-below}
use Rattle.herm_forms.proofs.forms.ReadTypes.{read-typed, is-table}
use Rattle.herm_forms.proofs.forms.FoundRows.{goes-sound}
use Rattle.herm_forms.proofs.forms.ChangedTables.{change-sound}
use Rattle.herm_forms.proofs.forms.ClearedReads.{all-reads, field, Kept, fields-kept}

-- one row more
joined-fits : (N : Type 0) (table : TypeTable) (row : ℕ) (c : Cell N) (ps : Parts N) → Fits table (many row) ps → IsFull table row c → Fits table (many row) (joined ps (part c no_parts))
joined-fits N table row c no_parts h whole' = (whole', tt)
joined-fits N table row c (gap ps) h whole' = absurd h
joined-fits N table row c (part d ps) h whole' = (h.0, joined-fits N table row c ps h.1 whole')

joined-size : {N : Type 0} (c : Cell N) (ps : Parts N) → size (joined ps (part c no_parts)) ≡ suc (size ps)
joined-size c no_parts = refl
joined-size c (gap ps) = ap suc (joined-size c ps)
joined-size c (part d ps) = ap suc (joined-size c ps)

joined-bounded : {N : Type 0} (row : ℕ) (key : List ℕ) (c : Cell N) (ps : Parts N) → IsTrue (is_bounded (rows row key) ps) → IsTrue (nat_lt (size ps) greatest_rows) → has_key key (key_of key c) ps ≡ false
    → IsTrue (is_bounded (rows row key) (joined ps (part c no_parts)))
joined-bounded row key c ps h room new =
    let both = and-both (nat_le (size ps) greatest_rows) (has_distinct_keys key ps) h in
    let few : size ps < greatest_rows = ltb-true (size ps) greatest_rows room in
    let more = joined-size c ps in
    let enough : size (joined ps (part c no_parts)) ≤ greatest_rows = omega (arith, few, more) in
    both-and (nat_le (size (joined ps (part c no_parts))) greatest_rows) (has_distinct_keys key (joined ps (part c no_parts))) (le-leb (size (joined ps (part c no_parts))) greatest_rows enough)
    (distinct-joined key c ps ∙ ap₂ (λ a b. a && not b) both.1 new)

-- a field of a record's type that is there is there in a full value too
field-full : (types : TypeTable) (row : ℕ) (ts : List ℕ) → slice_get types row ≡ Some (fields ts) → (d e : Cell Name) → HasType types row d → IsFull types row e → (k : ℕ) → IsTrue (is_some (part_at k (inside (Some d)))) → IsTrue (is_some (part_at k (inside (Some e))))
field-full types row ts shape d e typed whole' k here = by (part_at k (inside (Some d))) refl here
  where
    by : (o : Option (Cell Name)) → part_at k (inside (Some d)) ≡ o → IsTrue (is_some o) → IsTrue (is_some (part_at k (inside (Some e))))
    by None at h = absurd (not_true h)
    by (Some y) at h =
        let r = typed-read Name types (row ∷ []) 0 (k ∷ []) (part d no_parts) y (typed, tt) at in
        let same : r.first ≡ row = sym (some-injective r.there) in
        let leads = subst (λ t. IsPartPath held_parts types t (k ∷ [])) same r.leads in
        let listed : IsIn (k, leads.0) (numbered 0 ts) = subst (λ (o : Option Shape). IsIn (k, leads.0) (list_of held_parts o)) shape leads.1 in
        leads-full types (k ∷ []) row e whole' (leads.0, subst (λ (o : Option Shape). IsIn (k, leads.0) (list_of full_parts o)) (sym shape) listed, leads.2)

-- so the key of a row of a record's type stays
key-kept : (types : TypeTable) (row : ℕ) (ts : List ℕ) → slice_get types row ≡ Some (fields ts) → (d e : Cell Name) → HasType types row d → IsFull types row e → ((k : ℕ) → Kept Name k e d) → (key : List ℕ) → key_of key e ≡ key_of key d
key-kept types row ts shape d e typed whole' kept key = ap (λ f. flat_map f key) (fun_ext (λ k. by k (part_at k (inside (Some e))) refl))
  where
    none-before : (k : ℕ) → part_at k (inside (Some e)) ≡ None → (o : Option (Cell Name)) → part_at k (inside (Some d)) ≡ o → [] ≡ list_of scalars_of o
    none-before k none None at = refl
    none-before k none (Some y) at = absurd (not_true (sym (ap is_some none) ∙ field-full types row ts shape d e typed whole' k (ap is_some at)))

    by : (k : ℕ) (o : Option (Cell Name)) → part_at k (inside (Some e)) ≡ o → field Name k e ≡ field Name k d
    by k None at = ap (list_of scalars_of) at ∙ none-before k at (part_at k (inside (Some d))) refl
    by k (Some y) at = (kept k (ap is_some at)).1

module _ (c : Module) (i : ℕ) (q : List ℕ) (j : ℕ) (r : List ℕ) (row u : ℕ) (key ts : List ℕ) (table : type_at c.types c.variables (j ∷ r) ≡ Some u) (shape : slice_get c.types u ≡ Some (rows row key)) (record' : slice_get c.types row ≡ Some (fields ts))
    (source : type_at c.types c.variables (i ∷ q) ≡ Some row) (deep : IsTrue (is_within_depth greatest_depth c.types row)) (has : Fact → Bool) (b : Frame Name) (sound : AreSound c has b.variables)
    (needed : (f : Fact) → IsIn f (full c.types c.variables (i ∷ q)) → IsTrue (has f)) where
  abbrev Goal : Outcome → Frame Name → Type 0
  Goal o b' = AreSound c (held_after c.types c.variables (Insert (i ∷ q) (j ∷ r)) o has) b'.variables

  -- a row whose key is new goes into a table with room
  added : (d0 : Cell Name) → cell_at (i ∷ q) b.variables ≡ Some d0 → (t0 : Cell Name) → read_at (j ∷ r) b.variables ≡ Some t0 → has_key key (key_of key d0) (parts_of t0) ≡ false → IsTrue (nat_lt (size (parts_of t0)) greatest_rows)
      → (e : Cell Name) → cell_at (i ∷ q) (clear_all (excess_over_full c (i ∷ q) b) b.variables) ≡ Some e → IsFull c.types row e → (cut : Frame Name) → cut.variables ≡ clear_at (i ∷ q) (clear_all (excess_over_full c (i ∷ q) b) b.variables)
      → AreSound c (without (i ∷ q) has) cut.variables → (o : Outcome) (b' : Frame Name) (x : Option (Cell Name)) → read_at (j ∷ r) cut.variables ≡ x → if_there (λ d. goes ok (change_rows (j ∷ r) (add_row e) cut)) x ≡ goes o b' → Goal o b'
  added d0 at0 t0 read0 new room e at whole' cut vars rest o b' None read is = never o b' is
  added d0 at0 t0 read0 new room e at whole' cut vars rest o b' (Some t1) read is =
      let x = is-table Name c.types u row key t1 shape (read-typed Name c.types c.variables j r u cut.variables t1 rest.types table read) in
      let changed = change-sound c (without (i ∷ q) has) cut.variables rest j r u row key table shape (add_row e) keep x.name x.rows' (read ∙ ap Some x.is) in
      goes-sound c (Insert (i ∷ q) (j ∷ r)) has (without (i ∷ q) has) (change_rows (j ∷ r) (add_row e) cut) changed ok (λ f. without-cond (is_at_or_below (i ∷ q) (path_of f)) (has f)) o b' is
    where
      keys-same : key_of key e ≡ key_of key d0
      keys-same =
          key-kept c.types row ts record' d0 e (typed-at c has b.variables sound i q row source d0 at0) whole'
          (fields-kept Name i q (excess_over_full c (i ∷ q) b) (lost-below c i q row source deep has b sound needed d0 at0) b.variables d0 e at0 at) key

      keep : (n : Name) (rs : Parts Name) → read_at (j ∷ r) cut.variables ≡ Some (cell n a_table rs) → Fits c.types (many row) rs → IsTrue (is_bounded (rows row key) rs) → Fits c.types (many row) (add_row e rs) × IsTrue (is_bounded (rows row key) (add_row e rs))
      keep n rs here fits bounded =
          let there = all-reads Name (excess_over_full c (i ∷ q) b) j r b.variables n rs (all-reads Name ((i ∷ q) ∷ []) j r (clear_all (excess_over_full c (i ∷ q) b) b.variables) n rs (sym (ap (read_at (j ∷ r)) vars) ∙ here)) in
          let same : t0 ≡ cell n a_table rs = some-injective (sym read0 ∙ there) in (
            joined-fits Name c.types row e rs fits whole',
            joined-bounded row key e rs bounded (subst (λ (t : Cell Name). IsTrue (nat_lt (size (parts_of t)) greatest_rows)) same room)
                (ap (λ k. has_key key k rs) keys-same ∙ subst (λ (t : Cell Name). has_key key (key_of key d0) (parts_of t) ≡ false) same new),
          )

  -- the row leaves with its full facts
  inserting : (d0 : Cell Name) → cell_at (i ∷ q) b.variables ≡ Some d0 → (t0 : Cell Name) → read_at (j ∷ r) b.variables ≡ Some t0 → has_key key (key_of key d0) (parts_of t0) ≡ false → IsTrue (nat_lt (size (parts_of t0)) greatest_rows)
      → (o : Outcome) (b' : Frame Name) → moving (excess_over_full c (i ∷ q) b) (i ∷ q) (λ row b. reading (j ∷ r) (λ table. goes ok (change_rows (j ∷ r) (add_row row) b)) b) b ≡ goes o b' → Goal o b'
  inserting d0 at0 t0 read0 new room o b' is =
      let x = taken-full c i q row source deep has b sound needed (λ row b. reading (j ∷ r) (λ table. goes ok (change_rows (j ∷ r) (add_row row) b)) b) o b' is in
      let there = drop-variables (excess_over_full c (i ∷ q) b) b in
      added d0 at0 t0 read0 new room x.content (sym (ap (cell_at (i ∷ q)) there) ∙ x.at) x.whole x.frame
      (ap (λ (b : Frame Name). b.variables) x.cut ∙ ap (clear_at (i ∷ q)) there) x.rest o b' (read_at (j ∷ r) x.frame.variables) refl x.on

  -- what the tests of key and room lead to
  tested : (d0 : Cell Name) → cell_at (i ∷ q) b.variables ≡ Some d0 → (t0 : Cell Name) → read_at (j ∷ r) b.variables ≡ Some t0 → (o : Outcome) (b' : Frame Name)
      → (has_it : Bool) → has_key key (key_of key d0) (parts_of t0) ≡ has_it → (room : Bool) → nat_lt (size (parts_of t0)) greatest_rows ≡ room
      → cond has_it (goes (raised duplicate_key) b)
      (cond room (moving (excess_over_full c (i ∷ q) b) (i ∷ q) (λ row b. reading (j ∷ r) (λ table. goes ok (change_rows (j ∷ r) (add_row row) b)) b) b) (goes (raised depletion) b)) ≡ goes o b' → Goal o b'
  tested d0 at0 t0 read0 o b' true e room f is = goes-sound c (Insert (i ∷ q) (j ∷ r)) has has b sound (raised duplicate_key) (λ f. refl) o b' is
  tested d0 at0 t0 read0 o b' false e false f is = goes-sound c (Insert (i ∷ q) (j ∷ r)) has has b sound (raised depletion) (λ f. refl) o b' is
  tested d0 at0 t0 read0 o b' false e true f is = inserting d0 at0 t0 read0 e f o b' is

  inserted : (o : Outcome) (b' : Frame Name) → InsertForm.insert key (excess_over_full c (i ∷ q) b) (i ∷ q) (j ∷ r) b ≡ goes o b' → Goal o b'
  inserted o b' is = by (cell_at (i ∷ q) b.variables) refl is
    where
      with_table : (d0 : Cell Name) → cell_at (i ∷ q) b.variables ≡ Some d0 → (y : Option (Cell Name)) → read_at (j ∷ r) b.variables ≡ y
          → if_there
          (λ t0. cond (has_key key (key_of key d0) (parts_of t0)) (goes (raised duplicate_key) b)
          (cond (nat_lt (size (parts_of t0)) greatest_rows) (moving (excess_over_full c (i ∷ q) b) (i ∷ q) (λ row b. reading (j ∷ r) (λ table. goes ok (change_rows (j ∷ r) (add_row row) b)) b) b) (goes (raised depletion) b)))
          y ≡ goes o b' → Goal o b'
      with_table d0 at0 None read0 is = never o b' is
      with_table d0 at0 (Some t0) read0 is = tested d0 at0 t0 read0 o b' (has_key key (key_of key d0) (parts_of t0)) refl (nat_lt (size (parts_of t0)) greatest_rows) refl is

      by : (x : Option (Cell Name)) → cell_at (i ∷ q) b.variables ≡ x
          → if_there
          (λ d0. reading (j ∷ r)
          (λ t0. cond (has_key key (key_of key d0) (parts_of t0)) (goes (raised duplicate_key) b)
          (cond (nat_lt (size (parts_of t0)) greatest_rows) (moving (excess_over_full c (i ∷ q) b) (i ∷ q) (λ row b. reading (j ∷ r) (λ table. goes ok (change_rows (j ∷ r) (add_row row) b)) b) b) (goes (raised depletion) b)))
          b)
          x ≡ goes o b' → Goal o b'
      by None at0 is = never o b' is
      by (Some d0) at0 is = with_table d0 at0 (read_at (j ∷ r) b.variables) refl is

pub rows-inserted : (c : Module) → RowsAreInserted c
rows-inserted c i q j r row u key ts table shape record' source deep name s has b b' o sound there is =
    inserted c i q j r row u key ts table shape record' source deep has b sound
    (λ f h. there f (in-closed c.types c.variables (full c.types c.variables (i ∷ q) ++ present c.types c.variables (j ∷ r)) f (in-append_left f (full c.types c.variables (i ∷ q)) (present c.types c.variables (j ∷ r)) h))) o b'
    (ap (λ key. InsertForm.insert key (excess_over_full c (i ∷ q) b) (i ∷ q) (j ∷ r) b) (sym (ap key_fields (ap (option_and_then (slice_get c.types)) table ∙ shape))) ∙ is)
