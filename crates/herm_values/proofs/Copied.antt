-- Copies are equal and whole where their parts are.
use Rattle.std.proofs.Common.{◌≡◌, ℕ, ◌+◌, List, [], ◌∷◌, ◌++◌, map, drop, slice_get, append_assoc, drop-cons, add-one, Option, Some, None, get_or, refl, sym, ap, ap₂, subst, ◌∙◌, Vec, Global, Box}
use Rattle.std.specs.List.{AllByRecursion}
use Rattle.std.proofs.lemmas.Option.{get_or_from_slice_get, slice_get_within}
use Rattle.std.proofs.lemmas.List.{map-append}
use Rattle.herm_base.specs.declared.numbers.ProcNo.{ProcNo}
use Rattle.herm_parcels.specs.declared.call.CallMsg.{CallMsg}
use Rattle.herm_rows.specs.Keys.{rows_of}
use Rattle.herm_model.specs.Values as model
use Rattle.herm_model.specs.Values.{cell}
use Rattle.herm_model.specs.Statements.{Differ}
use Rattle.herm_model.specs.Tables.{key_of}
use Rattle.herm_model.specs.Lists.{IsIn}
use Rattle.herm_values.specs.Parts.{parts_from, rows_at}
use Rattle.herm_values.specs.View.{views_of, places_of}
use Rattle.herm_values.specs.Keyed.{keyed_view, keyed_of, keyed_parts}
use Rattle.herm_values.specs.Copies.{key_row_view}
use Rattle.herm_values.specs.Whole.{AllWhole, HasRow, AreKept, IsWholeTable}
use Rattle.herm_values.specs.declared.scalar.KeyRow.{KeyRow}
use Rattle.herm_values.specs.declared.value.Value.{Value, Fields, Table as a_table, Call}
use Rattle.herm_values.specs.declared.value.Table.{Table}
use Rattle.herm_values.proofs.Forgotten.{fields_keyed, table_keyed, call_keyed, equal-places}

pub fields-copied : (v : Value) (x copy : Vec (Option Value) Global) (places : List (Option Value)) → v ≡ Fields x → places ≡ x.items → keyed_of copy.items ≡ keyed_of places → keyed_view (Fields copy) ≡ keyed_view v
fields-copied v x copy places is same equal =
    fields_keyed (Fields copy) copy refl
    ∙ ap (λ os. cell [] model.a_record (parts_from os)) (equal ∙ ap keyed_of same)
    ∙ sym (fields_keyed v x is)

pub table-copied : (v : Value) (x boxed : Box Table Global) (table copied : Table) → v ≡ a_table x → table ≡ x.value → copied.columns.items ≡ table.columns.items → keyed_parts copied ≡ keyed_parts table → boxed.value ≡ copied → keyed_view (a_table boxed) ≡ keyed_view v
table-copied v x boxed table copied is same columns equal held =
    table_keyed (a_table boxed) boxed refl
    ∙ ap₂ (λ cs ps. cell cs model.a_table ps) (ap (λ (t : Table). t.columns.items) held ∙ columns ∙ ap (λ (t : Table). t.columns.items) same) (ap keyed_parts held ∙ equal ∙ ap keyed_parts same)
    ∙ sym (table_keyed v x is)

pub call-copied : (v : Value) (x copy : CallMsg Value) (places : List (Option Value)) → v ≡ Call x → copy.caller ≡ x.caller → copy.call ≡ x.call → places ≡ x.params.items → keyed_of copy.params.items ≡ keyed_of places → keyed_view (Call copy) ≡ keyed_view v
call-copied v x copy places is by number same equal =
    call_keyed (Call copy) copy refl
    ∙ ap (λ (caller : ProcNo). cell [] (model.a_callmessage caller.number copy.call) (parts_from (keyed_of copy.params.items))) by
    ∙ ap (λ n. cell [] (model.a_callmessage x.caller.number n) (parts_from (keyed_of copy.params.items))) number
    ∙ ap (λ os. cell [] (model.a_callmessage x.caller.number x.call) (parts_from os)) (equal ∙ ap keyed_of same)
    ∙ sym (call_keyed v x is)

places-by : (keys : List KeyRow) → places_of keys ≡ map (λ k. k.1) (map key_row_view keys)
places-by [] = refl
places-by (k ∷ keys) = ap (λ ps. k.place ∷ ps) (places-by keys)

places-alike : (keys copies : List KeyRow) → map key_row_view copies ≡ map key_row_view keys → places_of copies ≡ places_of keys
places-alike keys copies e = places-by copies ∙ ap (map (λ k. k.1)) e ∙ sym (places-by keys)

-- a key and its row, by what the key stands for
abbrev IsFound : List ℕ → List (Option model.Value) → List model.Scalar × ℕ → Type 0
IsFound columns rows k = (row : model.Value) × (get_or rows k.1 None ≡ Some row) × (key_of columns row ≡ k.0)

found-to : (columns : List ℕ) (rows : List (Option model.Value)) (keys : List KeyRow) → AllByRecursion (HasRow columns rows) keys → AllByRecursion (IsFound columns rows) (map key_row_view keys)
found-to columns rows [] h = h
found-to columns rows (k ∷ keys) h = ((h.0.row, h.0.there, h.0.keyed), found-to columns rows keys h.1)

found-from : (columns : List ℕ) (rows : List (Option model.Value)) (keys : List KeyRow) → AllByRecursion (IsFound columns rows) (map key_row_view keys) → AllByRecursion (HasRow columns rows) keys
found-from columns rows [] h = h
found-from columns rows (k ∷ keys) h = (record { row = h.0.0; there = h.0.1; keyed = h.0.2 }, found-from columns rows keys h.1)

kept-alike : (columns : List ℕ) (rows : List (Option model.Value)) (keys copies : List KeyRow) → map key_row_view copies ≡ map key_row_view keys → AreKept columns keys rows → AreKept columns copies rows
kept-alike columns rows keys copies e kept = record {
  differ = subst Differ (sym (places-alike keys copies e)) kept.differ;
  found = found-from columns rows copies (subst (AllByRecursion (IsFound columns rows)) (sym e) (found-to columns rows keys kept.found));
  elsewhere = λ i out. kept.elsewhere i (λ h. out (subst (IsIn i) (sym (places-alike keys copies e)) h));
}

-- a table with columns, keys and rows that stand for the same
module _ (t copy : Table) (places : List (Option Value)) (columns : copy.columns.items ≡ t.columns.items) (keys : map key_row_view (rows_of copy.keys) ≡ map key_row_view (rows_of t.keys)) (same : places ≡ t.rows.items) (rows : keyed_of copy.rows.items ≡ keyed_of places) where
  pub parts-copied : keyed_parts copy ≡ keyed_parts t
  parts-copied = ap₂ (λ ps os. parts_from (rows_at ps os)) (places-alike (rows_of t.keys) (rows_of copy.keys) keys) (rows ∙ ap keyed_of same)

  pub table-kept : AllWhole copy.rows.items → IsWholeTable t → IsWholeTable copy
  table-kept whole h = record {
    kept = subst (λ os. AreKept copy.columns.items (rows_of copy.keys) os) (sym (equal-places places copy.rows.items rows ∙ ap views_of same)) (subst (λ cs. AreKept cs (rows_of copy.keys) (views_of t.rows.items)) (sym columns) (kept-alike t.columns.items (views_of t.rows.items) (rows_of t.keys) (rows_of copy.keys) keys h.kept));
    whole = whole;
  }

-- one key more has been copied
pub keys-more : (keys copies new : List KeyRow) (n : ℕ) (row copy : KeyRow) → slice_get keys n ≡ Some row → new ≡ copies ++ copy ∷ [] → key_row_view copy ≡ key_row_view row
    → map key_row_view copies ++ map key_row_view (drop n keys) ≡ map key_row_view keys → map key_row_view new ++ map key_row_view (drop (n + 1) keys) ≡ map key_row_view keys
keys-more keys copies new n row copy at is same so-far =
    let rest = map key_row_view (drop (n + 1) keys) in
    ap (λ ks. map key_row_view ks ++ rest) is
    ∙ ap (λ ks. ks ++ rest) (map-append key_row_view copies (copy ∷ []))
    ∙ append_assoc (map key_row_view copies) (key_row_view copy ∷ []) rest
    ∙ ap (λ k. map key_row_view copies ++ k ∷ rest) same
    ∙ ap (λ ks. map key_row_view copies ++ map key_row_view ks) (ap (λ k. k ∷ drop (n + 1) keys) (sym (get_or_from_slice_get keys n row row at)) ∙ ap (λ m. get_or keys n row ∷ drop m keys) (add-one n) ∙ sym (drop-cons keys n row (slice_get_within keys n row at)))
    ∙ so-far
