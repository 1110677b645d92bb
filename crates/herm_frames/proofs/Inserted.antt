-- Rows that go into tables and come out of them, where the tables stand.
use Rattle.std.proofs.Common.{◌≡◌, ◌<◌, ◌≤◌, ℕ, List, [], ◌∷◌, Bool, true, false, cond, not, ◌&&◌, Option, Some, None, is_some, option_map, option_and_then, refl, sym, ap, ap₂, subst, ◌∙◌, arith, true≢false}
use Rattle.std.proofs.Common.{length, nat_le, nat_lt, ltb-true, leb-true}
use Rattle.std.proofs.lemmas.Bool.{lt-ltb, le-ltb}
use Rattle.std.specs.Prelude.{⊤, IfNone}
use Rattle.herm_model.specs.Paths.{Path}
use Rattle.herm_model.specs.Outcomes.{ok, raised, depletion, duplicate_key, not_found}
use Rattle.herm_model.specs.Tables.{key_of, has_key, place_of_key, without_part}
use Rattle.herm_model.specs.Typed.{greatest_rows}
use Rattle.herm_model.specs.Values.{a_table, Cell, cell, Parts, no_parts, part, part_at, parts_of, joined, size, cell_at, read_at, change_at, clear_at, Scalar, Value}
use Rattle.herm_model.specs.Finalising.{clear_all}
use Rattle.herm_model.proofs.Keys.{place-there, place-row}
use Rattle.herm_model.proofs.Lists.{and-both}
use Rattle.herm_model.proofs.Options.{some-injective, chain-some, none-not_some}
use Rattle.herm_forms.specs.Excess.{excess_over_full}
use Rattle.herm_forms.specs.Forms.{moving}
use Rattle.herm_forms.specs.Frames.{Frame, Completion, goes, stuck, if_there, reading, putting}
use Rattle.herm_forms.specs.InsertForm.{insert, add_row, with_parts, change_rows}
use Rattle.herm_forms.specs.Modules.{Module}
use Rattle.herm_forms.specs.RemoveAndGet.{finding, remove}
use Rattle.herm_rows.specs.Keys.{most_rows}
use Rattle.herm_places.proofs.Changed.{size-from}
use Rattle.herm_values.specs.Keys.{row_with, without_key}
use Rattle.herm_values.specs.View.{row_views, table_parts}
use Rattle.herm_values.specs.declared.value.Table.{Table}
use Rattle.herm_frames.specs.KeyedTables.{adding, Allows, HasKeyFields, IsTableOf}
use Rattle.herm_frames.specs.Refusals.{IsAllowed, refusal}
use Rattle.herm_frames.proofs.ChangedTwice.{put-twice, put-own}
use Rattle.herm_frames.proofs.KeysStay.{row-key_stays}
use Rattle.herm_frames.proofs.TablesStay.{table-had, table-stays}

-- what an insertion comes to
module _ (key : List ℕ) (lost : List Path) (r t : Path) (s : Frame ⊤) where
  abbrev on_table : Value → Value → Completion ⊤
  on_table row table = cond (has_key key (key_of key row) (parts_of table)) (goes (raised duplicate_key) s) (cond (nat_lt (size (parts_of table)) greatest_rows) (moving lost r (adding t) s) (goes (raised depletion) s))

  pub no_row : None ≡ cell_at r s.variables → insert key lost r t s ≡ stuck
  no_row at = ap (if_there (λ row. reading t (on_table row) s)) (sym at)

  row_there : (row : Value) → Some row ≡ cell_at r s.variables → insert key lost r t s ≡ reading t (on_table row) s
  row_there row at = ap (if_there (λ row. reading t (on_table row) s)) (sym at)

  pub no_table : (row : Value) → Some row ≡ cell_at r s.variables → None ≡ read_at t s.variables → insert key lost r t s ≡ stuck
  no_table row at none = row_there row at ∙ ap (if_there (on_table row)) (sym none)

  table_there : (row table : Value) → Some row ≡ cell_at r s.variables → Some table ≡ read_at t s.variables → insert key lost r t s ≡ on_table row table
  table_there row table at read = row_there row at ∙ ap (if_there (on_table row)) (sym read)

  pub row_refused : (row table : Value) (o : Option ℕ) (e : ℕ) → Some row ≡ cell_at r s.variables → Some table ≡ read_at t s.variables → o ≡ refusal key row (parts_of table) → o ≡ Some e → insert key lost r t s ≡ goes (raised e) s
  row_refused row table o e at read is some = table_there row table at read ∙ by (has_key key (key_of key row) (parts_of table)) (nat_lt (size (parts_of table)) greatest_rows) (sym is ∙ some)
    where
      by : (there room : Bool) → cond there (Some 4) (cond room None (Some 1)) ≡ Some e → cond there (goes (raised duplicate_key) s) (cond room (moving lost r (adding t) s) (goes (raised depletion) s)) ≡ goes (raised e) s
      by true room h = ap (λ e. goes (raised e) s) (some-injective h)
      by false true h = none-not_some h
      by false false h = ap (λ e. goes (raised e) s) (some-injective h)

  pub row_moves : IsAllowed key r t s → insert key lost r t s ≡ moving lost r (adding t) s
  row_moves h =
      table_there h.row (cell tt a_table h.rows) (sym h.at) (sym h.read)
      ∙ ap (λ b. cond b (goes (raised duplicate_key) s) (cond (nat_lt (size h.rows) greatest_rows) (moving lost r (adding t) s) (goes (raised depletion) s))) h.allows.0
      ∙ ap (λ b. cond b (moving lost r (adding t) s) (goes (raised depletion) s)) h.allows.1

pub row_allowed : (key : List ℕ) (r t : Path) (s : Frame ⊤) (row : Value) (rows : Parts ⊤) (o : Option ℕ) → Some row ≡ cell_at r s.variables → Some (cell tt a_table rows) ≡ read_at t s.variables → o ≡ refusal key row rows → o ≡ None → IsAllowed key r t s
row_allowed key r t s row rows o at read is none = record { row = row; at = sym at; rows = rows; read = sym read; allows = by (has_key key (key_of key row) rows) (nat_lt (size rows) greatest_rows) (sym none ∙ is) }
  where
    by : (there room : Bool) → ◌≡◌ {A = Option ℕ} None (cond there (Some 4) (cond room None (Some 1))) → (there ≡ false) × (room ≡ true)
    by true room h = none-not_some h
    by false true h = (refl, refl)
    by false false h = none-not_some h

-- what a table tells
module _ (key : List ℕ) (k : List Scalar) (rows : Parts ⊤) where
  none_has : (o : Option ℕ) → place_of_key key k rows ≡ o → row_with key k rows ≡ None → is_some o ≡ false
  none_has None is none = refl
  none_has (Some i) is none =
      let found = place-row key k rows i is in
      none-not_some (sym none ∙ ap (option_and_then (λ i. part_at i rows)) is ∙ found.1)

  pub no_key : None ≡ row_with key k rows → has_key key k rows ≡ false
  no_key none = sym (place-there key k rows) ∙ none_has (place_of_key key k rows) refl (sym none)

  pub some_key : (row : Value) → Some row ≡ row_with key k rows → has_key key k rows ≡ true
  some_key row some =
      let found = chain-some (λ i. part_at i rows) (place_of_key key k rows) row (sym some) in
      sym (place-there key k rows) ∙ ap is_some found.1

-- a row is put behind the others
pub row_added : (t : Path) (away row : Value) (ps mid new rows more : Parts ⊤) → read_at t ps ≡ Some (cell tt a_table rows) → mid ≡ change_at t (λ d. away) ps → new ≡ change_at t (λ d. cell tt a_table more) mid
    → more ≡ joined rows (part row no_parts) → new ≡ change_at t (with_parts (add_row row)) ps
row_added t away row ps mid new rows more at first last grown =
    last ∙ ap (change_at t (λ d. cell tt a_table more)) first
    ∙ put-twice t away (cell tt a_table more) (with_parts (add_row row)) ps (λ c is. ap (cell tt a_table) grown ∙ ap (with_parts (add_row row)) (some-injective (sym at ∙ is)))

-- a row is taken out, or none has the key
pub row_gone : (t : Path) (away row : Value) (columns : List ℕ) (k : List Scalar) (ps mid new rows less : Parts ⊤) → read_at t ps ≡ Some (cell tt a_table rows) → mid ≡ change_at t (λ d. away) ps → new ≡ change_at t (λ d. cell tt a_table less) mid
    → less ≡ without_key columns k rows → Some row ≡ row_with columns k rows → (i : ℕ) × (place_of_key columns k rows ≡ Some i) × (part_at i rows ≡ Some row) × (new ≡ change_at t (with_parts (without_part i)) ps)
row_gone t away row columns k ps mid new rows less at first last left some =
    let found = chain-some (λ i. part_at i rows) (place_of_key columns k rows) row (sym some) in
    let fewer : less ≡ without_part found.0 rows = left ∙ ap (λ (o : Option ℕ). elim o [ None ↦ rows | Some i ↦ without_part i rows ]) found.1 in (
      found.0,
      found.1,
      found.2,
      last ∙ ap (change_at t (λ d. cell tt a_table less)) first
          ∙ put-twice t away (cell tt a_table less) (with_parts (without_part found.0)) ps (λ c is. ap (cell tt a_table) fewer ∙ ap (with_parts (without_part found.0)) (some-injective (sym at ∙ is))),
    )

pub no_row_gone : (t : Path) (away : Value) (columns : List ℕ) (k : List Scalar) (ps mid new rows less : Parts ⊤) → read_at t ps ≡ Some (cell tt a_table rows) → mid ≡ change_at t (λ d. away) ps → new ≡ change_at t (λ d. cell tt a_table less) mid
    → less ≡ without_key columns k rows → None ≡ row_with columns k rows → new ≡ ps
no_row_gone t away columns k ps mid new rows less at first last left none =
    let same : less ≡ rows = left ∙ by (place_of_key columns k rows) refl in
    last ∙ ap (change_at t (λ d. cell tt a_table less)) first ∙ put-own t away (cell tt a_table less) ps (at ∙ ap (λ ps. Some (cell tt a_table ps)) (sym same))
  where
    by : (o : Option ℕ) → place_of_key columns k rows ≡ o → without_key columns k rows ≡ rows
    by None is = ap (λ (o : Option ℕ). elim o [ None ↦ rows | Some i ↦ without_part i rows ]) is
    by (Some i) is =
        let found = place-row columns k rows i is in
        none-not_some (none ∙ ap (option_and_then (λ i. part_at i rows)) is ∙ found.1)

-- a table that allows a row refuses it in no way
module _ (key columns : List ℕ) (row : Value) (rows : Parts ⊤) (o : Option Value) (p : Option (Cell (List ℕ))) (keyed : Parts (List ℕ)) (seen : o ≡ Some (cell tt a_table rows)) (is : p ≡ Some (cell columns a_table keyed)) (table : IsTableOf key p) (allows : Allows key row o) where
  pub columns-key : columns ≡ key
  columns-key = (subst (IsTableOf key) is table).0

  new-key : has_key columns (key_of columns row) rows ≡ false
  new-key = ap (λ k. has_key k (key_of k row) rows) columns-key ∙ (subst (Allows key row) seen allows).0

  pub not_duplicate : true ≡ has_key columns (key_of columns row) rows → ⊥
  not_duplicate h = true≢false (h ∙ new-key)

  pub not_full : true ≡ (not (has_key columns (key_of columns row) rows) && nat_le most_rows (size rows)) → ⊥
  not_full h =
      let full : 4096 ≤ size rows = leb-true most_rows (size rows) (and-both (not (has_key columns (key_of columns row) rows)) (nat_le most_rows (size rows)) (sym h)).1 in
      let room : size rows < 4096 = ltb-true (size rows) greatest_rows (subst (Allows key row) seen allows).1 in
      omega (arith, full, room)

-- a row that moved without what it held beyond a full value is still allowed
module _ (c : Module) (key : List ℕ) (i : ℕ) (q : Path) (k : ℕ) (p : Path) (b : Frame ⊤) (allowed : IsAllowed key (i ∷ q) (k ∷ p) b) (fields : HasKeyFields c key (i ∷ q)) where
  abbrev lost : List Path
  lost = excess_over_full c (i ∷ q) b

  left_read : (row : Value) → cell_at (i ∷ q) (clear_all lost b.variables) ≡ Some row → (o : Option Value) → read_at (k ∷ p) (clear_at (i ∷ q) (clear_all lost b.variables)) ≡ o → Allows key row o
  left_read row at None now = tt
  left_read row at (Some e) now =
      let same : e ≡ cell tt a_table allowed.rows = table-stays ⊤ lost (i ∷ q) k p b.variables tt allowed.rows e allowed.read now in
      let kept : key_of key row ≡ key_of key allowed.row = row-key_stays c i q key b allowed.row row fields allowed.at at in (
        ap (λ (k : List Scalar). has_key key k (parts_of e)) kept ∙ ap (λ (e : Value). has_key key (key_of key allowed.row) (parts_of e)) same ∙ allowed.allows.0,
        ap (λ (e : Value). nat_lt (size (parts_of e)) greatest_rows) same ∙ allowed.allows.1,
      )

  pub still_allowed : (row : Value) → cell_at (i ∷ q) (clear_all lost b.variables) ≡ Some row → Allows key row (read_at (k ∷ p) (clear_at (i ∷ q) (clear_all lost b.variables)))
  still_allowed row at = left_read row at (read_at (k ∷ p) (clear_at (i ∷ q) (clear_all lost b.variables))) refl

module _ (key : List ℕ) (lost : List Path) (r : Path) (k : ℕ) (p : Path) (ps new : Parts (List ℕ)) (table : IsTableOf key (read_at (k ∷ p) ps)) (is : new ≡ clear_at r (clear_all lost ps)) where
  same-table : (c d : Cell (List ℕ)) → read_at (k ∷ p) new ≡ Some c → read_at (k ∷ p) ps ≡ Some d → IsTableOf key (Some c)
  same-table c (cell n kind rs) now at =
      let of : IsTableOf key (Some (cell n kind rs)) = subst (IsTableOf key) at table in
      let e : cell n kind rs ≡ cell key a_table rs = ap₂ (λ n kind. cell n kind rs) of.0 of.1 in
      subst (λ c. IsTableOf key (Some c)) (sym (table-stays (List ℕ) lost r k p ps key rs c (at ∙ ap Some e) (ap (read_at (k ∷ p)) (sym is) ∙ now))) (refl, refl)

  left_table : (o : Option (Cell (List ℕ))) → read_at (k ∷ p) new ≡ o → IsTableOf key o
  left_table None now = tt
  left_table (Some c) now =
      let had = table-had (List ℕ) lost r k p ps c (ap (read_at (k ∷ p)) (sym is) ∙ now) in
      same-table c had.0 now had.1

  pub still_table : IsTableOf key (read_at (k ∷ p) new)
  still_table = left_table (read_at (k ∷ p) new) refl

pub if_none : {X A : Type 0} (o : Option X) → o ≡ None → IfNone o A → A
if_none None is h = h
if_none (Some x) is h = none-not_some (sym is)

-- what a table tells at a row
abbrev told : Bool → Bool → Option ℕ
told there room = cond there (Some 4) (cond room None (Some 1))

pub told_there : (key : List ℕ) (row : Value) (rows : Parts ⊤) → has_key key (key_of key row) rows ≡ true → ◌≡◌ {A = Option ℕ} (Some 4) (refusal key row rows)
told_there key row rows has = sym (ap (λ b. told b (nat_lt (size rows) greatest_rows)) has)

module _ (t : Table) where
  rows-many : size (table_parts t) ≡ length (row_views t)
  rows-many = size-from (row_views t)

  pub told_full : (key : List ℕ) (row : Value) → has_key key (key_of key row) (table_parts t) ≡ false → 4096 ≤ length (row_views t) → ◌≡◌ {A = Option ℕ} (Some 1) (refusal key row (table_parts t))
  told_full key row new full =
      let more : 4096 ≤ size (table_parts t) = omega (arith, full, rows-many) in
      sym (ap (λ b. told b (nat_lt (size (table_parts t)) greatest_rows)) new ∙ ap (told false) (le-ltb (size (table_parts t)) greatest_rows more))

  pub told_nothing : (key : List ℕ) (row : Value) → has_key key (key_of key row) (table_parts t) ≡ false → length (row_views t) < 4096 → ◌≡◌ {A = Option ℕ} None (refusal key row (table_parts t))
  told_nothing key row new room =
      let less : size (table_parts t) < 4096 = omega (arith, room, rows-many) in
      sym (ap (λ b. told b (nat_lt (size (table_parts t)) greatest_rows)) new ∙ ap (told false) (lt-ltb (size (table_parts t)) greatest_rows less))

-- whether a table is there to put a row into
pub added_there : (t : Path) (row : Value) (s : Frame ⊤) → is_some (read_at t s.variables) ≡ true → adding t row s ≡ goes ok (change_rows t (add_row row) s)
added_there t row s some = by (read_at t s.variables) some
  where
    by : (o : Option Value) → is_some o ≡ true → if_there (λ (table : Value). goes ok (change_rows t (add_row row) s)) o ≡ goes ok (change_rows t (add_row row) s)
    by None h = absurd (true≢false (sym h))
    by (Some c) h = refl

pub added_not : (t : Path) (row : Value) (s : Frame ⊤) → is_some (read_at t s.variables) ≡ false → adding t row s ≡ stuck
added_not t row s none = by (read_at t s.variables) none
  where
    by : (o : Option Value) → is_some o ≡ false → if_there (λ (table : Value). goes ok (change_rows t (add_row row) s)) o ≡ stuck
    by None h = refl
    by (Some c) h = absurd (true≢false h)

-- what a removal comes to
module _ (key : List ℕ) (k : List Scalar) (r t : Path) (s : Frame ⊤) where
  abbrev next : ℕ → Value → Completion ⊤
  next i row = putting r ok row (change_rows t (without_part i) s)

  abbrev on_table' : Parts ⊤ → Option ℕ → Completion ⊤
  on_table' rows o = elim o [ None ↦ goes (raised not_found) s | Some i ↦ if_there (next i) (part_at i rows) ]

  pub removed_not : None ≡ read_at t s.variables → remove key k r t s ≡ stuck
  removed_not none = ap (if_there (λ table. on_table' (parts_of table) (place_of_key key k (parts_of table)))) (sym none)

  table-found : (rows : Parts ⊤) → Some (cell tt a_table rows) ≡ read_at t s.variables → remove key k r t s ≡ on_table' rows (place_of_key key k rows)
  table-found rows at = ap (if_there (λ table. on_table' (parts_of table) (place_of_key key k (parts_of table)))) (sym at)

  pub removed_none : (rows : Parts ⊤) → Some (cell tt a_table rows) ≡ read_at t s.variables → row_with key k rows ≡ None → remove key k r t s ≡ goes (raised not_found) s
  removed_none rows at none = table-found rows at ∙ by (place_of_key key k rows) refl
    where
      by : (o : Option ℕ) → place_of_key key k rows ≡ o → on_table' rows (place_of_key key k rows) ≡ goes (raised not_found) s
      by None is = ap (on_table' rows) is
      by (Some i) is =
          let found = place-row key k rows i is in
          none-not_some (sym none ∙ ap (option_and_then (λ i. part_at i rows)) is ∙ found.1)

  pub removed_some : (rows : Parts ⊤) (i : ℕ) (row : Value) → Some (cell tt a_table rows) ≡ read_at t s.variables → place_of_key key k rows ≡ Some i → part_at i rows ≡ Some row → remove key k r t s ≡ putting r ok row (change_rows t (without_part i) s)
  removed_some rows i row at place held = table-found rows at ∙ ap (on_table' rows) place ∙ ap (if_there (next i)) held
