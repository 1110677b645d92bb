-- Values that are made.
use Rattle.std.proofs.Common.{◌≡◌, ℕ, zero, suc, ◌+◌, ◌-◌, List, [], ◌∷◌, ◌++◌, map, get_or, Option, Some, None, Vec, Global, Box, refl, sym, ap, ap₂, subst, ◌∙◌, arith, add-one}
use Rattle.std.specs.Prelude.{⊤, IfSome}
use Rattle.std.proofs.lemmas.List.Elements.{All-nil, All-push}
use Rattle.std.specs.List.{All}
use Rattle.herm_model.specs.Values as model
use Rattle.herm_model.specs.Values.{Cell, cell, Parts, no_parts, gap, part, gaps}
use Rattle.herm_model.specs.CellNames.{copy_from, copy_in}
use Rattle.herm_rows.specs.Keys.{rows_of}
use Rattle.herm_values.specs.Parts.{parts_from, rows_at}
use Rattle.herm_values.specs.Keyed.{keyed_view, keyed_parts, keyed_of}
use Rattle.herm_values.specs.View.{value_view, views_of, table_parts, places_of}
use Rattle.herm_values.specs.Whole.{IsWhole, AllWhole, IsWholeTable}
use Rattle.herm_values.specs.declared.value.Value.{Value, Fields, Table as a_table}
use Rattle.herm_values.specs.declared.value.Table.{Table}
use Rattle.herm_values.proofs.Seen.{fields_view, table_view}
use Rattle.herm_values.proofs.Forgotten.{table_keyed}
use Rattle.herm_values.proofs.Wholes.{whole-table, whole-fields}
use Rattle.herm_frames.specs.EmptyPlaces.{nothings}

one_more : (n : ℕ) → nothings n ++ None ∷ [] ≡ nothings (suc n)
one_more zero = refl
one_more (suc n) = ap (None ∷◌) (one_more n)

pub one_nothing : (n : ℕ) → nothings n ++ None ∷ [] ≡ nothings (n + 1)
one_nothing n = one_more n ∙ ap nothings (sym (add-one n))

nothings_seen : (n : ℕ) → parts_from (views_of (nothings n)) ≡ gaps n
nothings_seen zero = refl
nothings_seen (suc n) = ap gap (nothings_seen n)

pub nothings_record : (x : Vec (Option Value) Global) (n : ℕ) → x.items ≡ nothings n → value_view (Fields x) ≡ cell tt model.a_record (gaps n)
nothings_record x n is = fields_view (Fields x) x refl ∙ ap (λ vs. cell tt model.a_record (parts_from (views_of vs))) is ∙ ap (cell tt model.a_record) (nothings_seen n)

-- a copy without names of a value is the value
mutual
  pub copied_own : (n : ℕ) (c : model.Value) → copy_from (λ s. tt) n c ≡ c
  copied_own n (cell m k ps) = ap (cell tt k) (copied_parts (suc n) ps)

  pub copied_parts : (n : ℕ) (ps : Parts ⊤) → copy_in (λ s. tt) n ps ≡ ps
  copied_parts n no_parts = refl
  copied_parts n (gap ps) = ap gap (copied_parts n ps)
  copied_parts n (part c ps) = ap₂ part (copied_own n c) (copied_parts _ ps)

no_rows : {N : Type 0} (os : List (Option (Cell N))) → parts_from os ≡ no_parts → os ≡ []
no_rows [] h = refl
no_rows (None ∷ os) h = cc
no_rows (Some c ∷ os) h = cc

no_places : {X Y : Type 0} (f : X → Y) (xs : List X) → map f xs ≡ [] → xs ≡ []
no_places f [] h = refl
no_places f (x ∷ xs) h = cc

-- a table of no rows
unkeyed : (t : Table) → table_parts t ≡ no_parts → keyed_parts t ≡ no_parts
unkeyed t h = ap (λ (places : List ℕ). parts_from (rows_at places (keyed_of t.rows.items))) (no_places (λ i. get_or (views_of t.rows.items) i None) (places_of (rows_of t.keys)) (no_rows (rows_at (places_of (rows_of t.keys)) (views_of t.rows.items)) h))

pub empty_seen : (x : Box Table Global) (t : Table) → x.value ≡ t → table_parts t ≡ no_parts → value_view (a_table x) ≡ cell tt model.a_table no_parts
empty_seen x t is h = table_view (a_table x) x refl ∙ ap (λ t. cell tt model.a_table (table_parts t)) is ∙ ap (cell tt model.a_table) h

pub empty_keyed : (x : Box Table Global) (t : Table) (keys : List ℕ) → x.value ≡ t → table_parts t ≡ no_parts → t.columns.items ≡ keys → keyed_view (a_table x) ≡ cell keys model.a_table no_parts
empty_keyed x t keys is h columns = table_keyed (a_table x) x refl ∙ ap (λ t. cell t.columns.items model.a_table (keyed_parts t)) is ∙ ap₂ (λ ks ps. cell ks model.a_table ps) columns (unkeyed t h)

pub empty_whole : (x : Box Table Global) (t : Table) → x.value ≡ t → IsWholeTable t → IsWhole (a_table x)
empty_whole x t is w = whole-table x (subst IsWholeTable (sym is) w)

pub nothings_whole : (n : ℕ) → AllWhole (nothings n)
nothings_whole zero = All-nil _
nothings_whole (suc n) = subst AllWhole (one_more n) (All-push (λ o. IfSome o IsWhole) (nothings n) None (nothings_whole n) tt)

pub empty_record_whole : (x : Vec (Option Value) Global) (n : ℕ) → x.items ≡ nothings n → IsWhole (Fields x)
empty_record_whole x n is = whole-fields x (subst AllWhole (sym is) (nothings_whole n))

pub ruleset making_lemmas = (one_nothing, nothings_record)
