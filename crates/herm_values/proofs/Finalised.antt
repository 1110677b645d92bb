-- What waits in a value waits in its parts.
use Rattle.std.proofs.Common.{◌≡◌, ◌≤◌, ◌+◌, ◌++◌, ◌∷◌, [], ℕ, suc, List, Option, sym, ap, subst, ◌∙◌, length, Vec, Global, Box, append_assoc, arith}
use Rattle.herm_base.specs.declared.numbers.ProcNo.{ProcNo}
use Rattle.herm_parcels.specs.declared.call.CallMsg.{CallMsg}
use Rattle.herm_model.specs.Finalising.{pending, pending_in}
use Rattle.herm_model.specs.Values as model
use Rattle.herm_values.specs.Parts.{parts_from}
use Rattle.herm_values.specs.View.{value_view, views_of, table_parts}
use Rattle.herm_values.specs.Works.{item_view}
use Rattle.herm_values.specs.declared.value.Value.{Value, Fields, Table as a_table, Call}
use Rattle.herm_values.specs.declared.value.Table.{Table}
use Rattle.herm_values.specs.declared.work.WorkItem.TheVariants.{Answer}
use Rattle.herm_values.proofs.Seen.{fields_view, table_view, call_view}

-- what waits in these places
abbrev pub waits_at : List (Option Value) → List model.Value
waits_at vs = pending_in (parts_from (views_of vs))

pub fields-wait : (v : Value) (x : Vec (Option Value) Global) (places : List (Option Value)) (room : ℕ) → v ≡ Fields x → places ≡ x.items → length (pending (value_view v)) ≤ room → length (waits_at places) ≤ room
fields-wait v x places room is same h = subst (λ p. length p ≤ room) (ap pending (fields_view v x is) ∙ ap waits_at (sym same)) h

pub rows-wait : (v : Value) (x : Box Table Global) (table : Table) (room : ℕ) → v ≡ a_table x → table ≡ x.value → length (pending (value_view v)) ≤ room → length (pending_in (table_parts table)) ≤ room
rows-wait v x table room is same h = subst (λ p. length p ≤ room) (ap pending (table_view v x is) ∙ ap (λ t. pending_in (table_parts t)) (sym same)) h

call-waits : (v : Value) (x : CallMsg Value) (places : List (Option Value)) → v ≡ Call x → places ≡ x.params.items → pending (value_view v) ≡ item_view (Answer x.caller x.call) ∷ waits_at places
call-waits v x places is same = ap pending (call_view v x is) ∙ ap (λ vs. item_view (Answer x.caller x.call) ∷ waits_at vs) (sym same)

pub params-wait : (v : Value) (x : CallMsg Value) (places : List (Option Value)) (room left : ℕ) → v ≡ Call x → places ≡ x.params.items → left + 1 ≡ room → length (pending (value_view v)) ≤ room → length (waits_at places) ≤ left
params-wait v x places room left is same less h =
    let one : suc (length (waits_at places)) ≤ room = subst (λ p. length p ≤ room) (call-waits v x places is same) h in
    omega (arith, one, less)

pub call-waiting : (v : Value) (x : CallMsg Value) (places : List (Option Value)) (before between behind : List model.Value) (caller : ProcNo) (call : ℕ) → v ≡ Call x → places ≡ x.params.items → caller ≡ x.caller → call ≡ x.call
    → between ≡ before ++ item_view (Answer caller call) ∷ [] → behind ≡ between ++ waits_at places → behind ≡ before ++ pending (value_view v)
call-waiting v x places before between behind caller call is same by number first rest =
    rest
    ∙ ap (λ q. q ++ waits_at places) (first ∙ ap (λ c. before ++ item_view (Answer c call) ∷ []) by ∙ ap (λ n. before ++ item_view (Answer x.caller n) ∷ []) number)
    ∙ append_assoc before (item_view (Answer x.caller x.call) ∷ []) (waits_at places)
    ∙ ap (λ p. before ++ p) (sym (call-waits v x places is same))
