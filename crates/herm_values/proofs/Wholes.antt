-- Values are whole where what the code's lists hold is whole.
use Rattle.std.proofs.Common.{◌≡◌, ℕ, List, Option, Some, None, IfSome, ◌<◌, length, get_or, sym, subst, Vec, Global, Box}
use Rattle.std.specs.Option.{option_copied}
use denote.Bor.{Bor}
use Rattle.std.proofs.lemmas.List.Elements.{All-nil, All-cons, All-head, All-tail}
use Rattle.herm_parcels.specs.declared.call.CallMsg.{CallMsg}
use Rattle.herm_rows.specs.Keys.{rows_of}
use Rattle.herm_values.specs.Whole.{IsWhole, AreWhole, AllWhole, IsWholeTable, AreKept}
use Rattle.herm_values.specs.declared.value.Value.{Value, Fields, Table as a_table, Call}
use Rattle.herm_values.specs.declared.value.Value.TheBlock as values
use Rattle.herm_values.specs.declared.value.Table.{Table}
use Rattle.herm_values.proofs.Seen.{row_in, fields_held}

rows-whole : {m : _} (row : values.Row_of-Value-Fields-0-1 m) → AreWhole row → AllWhole (values.items-the_row-Value-Fields-0-1 m row)
rows-whole values.end_of-Value-Fields-0-1 h = All-nil _
rows-whole (values.more_of-Value-Fields-0-1 values.None' rest) h = All-cons (λ o. IfSome o IsWhole) None _ tt (rows-whole rest h.1)
rows-whole (values.more_of-Value-Fields-0-1 (values.Some' v) rest) h = All-cons (λ o. IfSome o IsWhole) (Some v) _ h.0 (rows-whole rest h.1)

whole-rows : {m : _} (row : values.Row_of-Value-Fields-0-1 m) → AllWhole (values.items-the_row-Value-Fields-0-1 m row) → AreWhole row
whole-rows values.end_of-Value-Fields-0-1 h = tt
whole-rows (values.more_of-Value-Fields-0-1 values.None' rest) h = (tt, whole-rows rest (All-tail (λ o. IfSome o IsWhole) None _ h))
whole-rows (values.more_of-Value-Fields-0-1 (values.Some' v) rest) h = (All-head (λ o. IfSome o IsWhole) (Some v) _ h, whole-rows rest (All-tail (λ o. IfSome o IsWhole) (Some v) _ h))

held-whole : (x : Vec (Option Value) Global) → AreWhole (row_in (Fields x)).1 → AllWhole x.items
held-whole x h = subst AllWhole (values.items_hidden-the_row-Value-Fields-0-1-0 x) (rows-whole (row_in (Fields x)).1 h)

whole-held : (x : Vec (Option Value) Global) → AllWhole x.items → AreWhole (row_in (Fields x)).1
whole-held x h = whole-rows (row_in (Fields x)).1 (subst AllWhole (sym (values.items_hidden-the_row-Value-Fields-0-1-0 x)) h)

pub fields-whole : (v : Value) (x : Vec (Option Value) Global) → v ≡ Fields x → IsWhole v → AllWhole x.items
fields-whole v x is h = held-whole x (subst IsWhole is h)

pub call-whole : (v : Value) (x : CallMsg Value) → v ≡ Call x → IsWhole v → AllWhole x.params.items
call-whole v x is h = held-whole x.params (subst IsWhole is h)

pub table-whole : (v : Value) (x : Box Table Global) → v ≡ a_table x → IsWhole v → IsWholeTable x.value
table-whole v x is h =
    let w = subst IsWhole is h in
    record {
      kept = subst (λ rows. AreKept x.value.columns.items (rows_of x.value.keys) rows) (fields_held x.value.rows) w.0;
      whole = held-whole x.value.rows w.1;
    }

pub whole-fields : (x : Vec (Option Value) Global) → AllWhole x.items → IsWhole (Fields x)
whole-fields x h = whole-held x h

pub whole-call : (x : CallMsg Value) → AllWhole x.params.items → IsWhole (Call x)
whole-call x h = whole-held x.params h

pub whole-table : (x : Box Table Global) → IsWholeTable x.value → IsWhole (a_table x)
whole-table x h = (subst (λ rows. AreKept x.value.columns.items (rows_of x.value.keys) rows) (sym (fields_held x.value.rows)) h.kept, whole-held x.value.rows h.whole)

-- a place that is read holds what is whole
pub held-at : (rows lent : List (Option Value)) (place : ℕ) (o : Option Value) → lent ≡ rows → place < length lent → ((d : Option Value) → o ≡ get_or lent place d) → AllWhole rows → IfSome o IsWhole
held-at rows lent place o same within at h = subst (λ o. IfSome o IsWhole) (sym (at None)) (subst AllWhole (sym same) h place None within)

pub lent-whole : (lent : Option (Bor Value)) (o : Option Value) → option_copied lent ≡ o → IfSome o IsWhole → IfSome lent (λ v. IsWhole v.now)
lent-whole None o is h = tt
lent-whole (Some v) o is h = subst (λ o. IfSome o IsWhole) (sym is) h

pub ruleset records = (whole-fields, whole-call, All-cons, All-nil)
