-- Copies of rows are equal ones.
use Rattle.std.proofs.Common.{◌≡◌, ◌<◌, ℕ, zero, suc, ◌+◌, length, drop, get_or, arith, List, [], ◌∷◌, ◌++◌, map, Option, Some, None, option_map, refl, sym, ap, subst, ◌∙◌, append_assoc, Vec, Global, Box}
use Rattle.std.proofs.lemmas.List.Elements.{All-nil, All-cons, All-push}
use Rattle.std.proofs.lemmas.List.{map-append}
use Rattle.std.specs.Prelude.{IfSome, ⊤}
use Rattle.herm_model.specs.Values as model
use Rattle.herm_model.specs.Values.{Parts, parts_of}
use Rattle.herm_values.specs.View.{value_view, views_of, table_parts}
use Rattle.herm_values.specs.Whole.{IsWhole, AllWhole}
use Rattle.herm_values.specs.declared.value.Value.{Value, Fields, Table as a_table, Call}
use Rattle.herm_values.specs.Parts.{parts_from}
use Rattle.herm_values.specs.declared.value.Table.{Table}
use Rattle.herm_values.proofs.Seen.{fields_view, table_view, call_view}
use Rattle.herm_parcels.specs.declared.call.CallMsg.{CallMsg}

pub views_joined : (vs ws : List (Option Value)) → views_of (vs ++ ws) ≡ views_of vs ++ views_of ws
views_joined vs ws = map-append (option_map value_view) vs ws

pub none_whole : AllWhole []
none_whole = All-nil _

pub more_whole : (vs new : List (Option Value)) (o : Option Value) → new ≡ vs ++ o ∷ [] → AllWhole vs → IfSome o IsWhole → AllWhole new
more_whole vs new o is h w = subst AllWhole (sym is) (All-push (λ o. IfSome o IsWhole) vs o h w)

-- an empty place is the next one
pub none_next : (places : List (Option Value)) (i : ℕ) (x : Option Value) → i < length places → x ≡ get_or places i x → x ≡ None → drop i places ≡ None ∷ drop (i + 1) places
none_next [] i x less is none = absurd (omega (arith, less))
none_next (o ∷ os) zero x less is none = ap (λ o. o ∷ os) (sym is ∙ none)
none_next (o ∷ os) (suc i) x less is none = none_next os i x (omega (arith, less)) is none ∙ ap (λ n. None ∷ drop n (o ∷ os)) (let e : suc (i + 1) ≡ suc i + 1 = omega arith in e)

-- the parts that a value has
pub fields_parts : (v : Value) (x : Vec (Option Value) Global) (places : List (Option Value)) (parts : Parts ⊤) → v ≡ Fields x → places ≡ x.items → parts ≡ parts_from (views_of places) → parts ≡ parts_of (value_view v)
fields_parts v x places parts is same h = h ∙ ap (λ vs. parts_from (views_of vs)) same ∙ sym (ap parts_of (fields_view v x is))

pub table_rows : (v : Value) (x : Box Table Global) (table : Table) (parts : Parts ⊤) → v ≡ a_table x → table ≡ x.value → parts ≡ table_parts table → parts ≡ parts_of (value_view v)
table_rows v x table parts is same h = h ∙ ap table_parts same ∙ sym (ap parts_of (table_view v x is))

pub call_parts : (v : Value) (x : CallMsg Value) (places : List (Option Value)) (parts : Parts ⊤) → v ≡ Call x → places ≡ x.params.items → parts ≡ parts_from (views_of places) → parts ≡ parts_of (value_view v)
call_parts v x places parts is same h = h ∙ ap (λ vs. parts_from (views_of vs)) same ∙ sym (ap parts_of (call_view v x is))

pub ruleset seeing_parts = (fields_view, table_view, call_view)

pub ruleset copying_rows = (views_joined, none_whole, more_whole)
