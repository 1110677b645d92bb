-- The rows of a table have different keys.
use Rattle.std.proofs.Common.{◌≡◌, ℕ, suc, List, [], ◌∷◌, Bool, false, true, not, ◌&&◌, Option, refl, ap, ◌∙◌, arith}
use Rattle.std.specs.List.{AllByRecursion}
use Rattle.herm_rows.specs.Keys.{HaveDifferentKeys}
use Rattle.herm_model.specs.Values as model
use Rattle.herm_model.specs.Tables.{has_key, has_distinct_keys}
use Rattle.herm_model.proofs.Equality.{same_key_self}
use Rattle.herm_values.specs.View.{key_view}
use Rattle.herm_values.specs.Whole.{HasRow}
use Rattle.herm_values.specs.declared.scalar.KeyRow.{KeyRow}
use Rattle.herm_values.proofs.KeyedRows.{named, named-first, named-keys}
use Rattle.herm_values.proofs.TakenRows.{single, ordered}

pub named-distinct : (columns : List ℕ) (rows : List (Option model.Value)) (keys : List KeyRow) → AllByRecursion (HasRow columns rows) keys → HaveDifferentKeys ordered keys
    → has_distinct_keys columns (named columns rows keys) ≡ true
named-distinct columns rows [] h differ = refl
named-distinct columns rows (k ∷ keys) h differ =
    let key = key_view k.key.items in
    let none : has_key columns key (named columns rows keys) ≡ false = named-keys columns rows key keys h.1 ∙ (single key (k ∷ keys) differ).0 (same_key_self key) in
    ap (has_distinct_keys columns) (named-first columns rows k keys h.0)
    ∙ ap (λ s. not (has_key columns s (named columns rows keys)) && has_distinct_keys columns (named columns rows keys)) h.0.keyed
    ∙ ap (λ b. not b && has_distinct_keys columns (named columns rows keys)) none
    ∙ named-distinct columns rows keys h.1 (λ i j d before less. differ (suc i) (suc j) d (omega arith) (omega arith))
