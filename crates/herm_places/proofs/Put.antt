-- What is placed at a path, by the parts of the code's answers.
use Rattle.std.proofs.Common.{◌≡◌, ◌<◌, ◌≤◌, ℕ, List, [], ◌∷◌, Bool, true, false, Option, Some, None, Result, Ok, Err, IfOk, OnOk, OnErr, option_map, get_or, length, refl, sym, ap, ap₂, ◌∙◌, Vec, Global}
use Rattle.std.proofs.lemmas.List.{length-map, get_or_past}
use Rattle.std.proofs.lemmas.Bool.{lt-ltb, le-ltb}
use Rattle.std.specs.Prelude.{slice_set, nat_lt}
use Rattle.herm_model.specs.Values as model
use Rattle.herm_model.specs.Values.{Cell, cell, Parts, no_parts, part_at, size, inside, cell_at, set_at, put_at, clear_at, has_place, change_inside}
use Rattle.herm_values.specs.Parts.{parts_from}
use Rattle.herm_values.specs.Keyed.{keyed_view, keyed_of}
use Rattle.herm_parcels.specs.declared.call.CallMsg.{CallMsg}
use Rattle.herm_values.specs.declared.value.Value.{Value, Fields, Call}
use Rattle.herm_values.proofs.Forgotten.{fields_keyed, call_keyed}
use Rattle.herm_values.proofs.Wholes.{fields-whole, call-whole, whole-fields, whole-call}
use Rattle.herm_places.specs.Held.{keyed_places, cell_in}
use Rattle.herm_places.proofs.Read.{part-at, keyed_get, none_at, some_at}
use Rattle.herm_places.proofs.Changed.{size-from, no_place, set_keyed, set_itself, set_here, set_past, set_within, put_back, set_nowhere, empty, kept, closed, table_closed, fields_changed, call_changed, fields_taken, call_taken}

-- a place by what is there
at_none : (vs : List (Option Value)) (i : ℕ) → None ≡ get_or vs i None → part_at i (keyed_places vs) ≡ None
at_none vs i h = part-at i (keyed_of vs) ∙ keyed_get vs i ∙ sym (ap (option_map keyed_view) h)

at_some : (vs : List (Option Value)) (i : ℕ) (outer : Value) → Some outer ≡ get_or vs i None → part_at i (keyed_places vs) ≡ Some (keyed_view outer)
at_some vs i outer h = part-at i (keyed_of vs) ∙ keyed_get vs i ∙ sym (ap (option_map keyed_view) h)

counted : (vs : List (Option Value)) → size (keyed_places vs) ≡ length vs
counted vs = size-from (keyed_of vs) ∙ length-map vs (option_map keyed_view)

-- there is a place: beyond the last, at one, behind an empty one, and behind one that has a value
pub place_past : (vs : List (Option Value)) (i : ℕ) (p : List ℕ) → length vs ≤ i → false ≡ has_place (keyed_places vs) (i ∷ p)
place_past vs i [] h = sym (ap (nat_lt i) (counted vs) ∙ le-ltb i (length vs) h)
place_past vs i (j ∷ r) h = sym (ap (λ o. has_place (inside o) (j ∷ r)) (at_none vs i (sym (get_or_past vs i None h))) ∙ no_place j r)

pub place_here : (vs : List (Option Value)) (i : ℕ) (p : List ℕ) → p ≡ [] → i < length vs → true ≡ has_place (keyed_places vs) (i ∷ p)
place_here vs i p is h = sym (ap (λ p. has_place (keyed_places vs) (i ∷ p)) is ∙ ap (nat_lt i) (counted vs) ∙ lt-ltb i (length vs) h)

pub place_nowhere : (vs : List (Option Value)) (i j : ℕ) (r p : List ℕ) → p ≡ j ∷ r → None ≡ get_or vs i None → false ≡ has_place (keyed_places vs) (i ∷ p)
place_nowhere vs i j r p is h = sym (ap (λ p. has_place (keyed_places vs) (i ∷ p)) is ∙ ap (λ o. has_place (inside o) (j ∷ r)) (at_none vs i h) ∙ no_place j r)

pub place_within : (vs : List (Option Value)) (i j : ℕ) (r p : List ℕ) (outer : Value) (b : Bool) → p ≡ j ∷ r → Some outer ≡ get_or vs i None → b ≡ has_place (inside (Some (keyed_view outer))) (j ∷ r) → b ≡ has_place (keyed_places vs) (i ∷ p)
place_within vs i j r p outer b is h there =
    there ∙ sym (ap (λ p. has_place (keyed_places vs) (i ∷ p)) is ∙ ap (λ o. has_place (inside o) (j ∷ r)) (at_some vs i outer h))

-- what stood there
pub old_here : (vs : List (Option Value)) (i : ℕ) (p : List ℕ) (o : Option Value) → p ≡ [] → o ≡ get_or vs i None → option_map keyed_view o ≡ cell_at (i ∷ p) (keyed_places vs)
old_here vs i p o is h = ap (option_map keyed_view) h ∙ sym (ap (λ p. cell_at (i ∷ p) (keyed_places vs)) is ∙ part-at i (keyed_of vs) ∙ keyed_get vs i)

pub old_within : (vs : List (Option Value)) (i j : ℕ) (r p : List ℕ) (outer : Value) (answer : Result (Option Value) Value) → p ≡ j ∷ r → Some outer ≡ get_or vs i None → IfOk answer (λ o. option_map keyed_view o ≡ cell_in (j ∷ r) (keyed_view outer)) → IfOk answer (λ o. option_map keyed_view o ≡ cell_at (i ∷ p) (keyed_places vs))
old_within vs i j r p outer (Err w) is h there = tt
old_within vs i j r p outer (Ok o) is h there =
    some_at (keyed_of vs) (keyed_view outer) i (j ∷ r) (option_map keyed_view o) (ap (option_map keyed_view) h ∙ sym (keyed_get vs i)) there ∙ ap (λ p. cell_at (i ∷ p) (keyed_places vs)) (sym is)

-- what is taken at each of these places, and what is left
pub past_taken : (vs : List (Option Value)) (i : ℕ) (p : List ℕ) → length vs ≤ i → None ≡ cell_at (i ∷ p) (keyed_places vs)
past_taken vs i p h = none_at (keyed_of vs) i p (sym (keyed_get vs i ∙ ap (option_map keyed_view) (get_or_past vs i None h)))

pub past_cleared : (vs : List (Option Value)) (i : ℕ) (p : List ℕ) → length vs ≤ i → keyed_places vs ≡ clear_at (i ∷ p) (keyed_places vs)
past_cleared vs i p h = set_past vs i p None h

pub here_cleared : (vs new : List (Option Value)) (i : ℕ) (p : List ℕ) → p ≡ [] → new ≡ slice_set vs i None → keyed_places new ≡ clear_at (i ∷ p) (keyed_places vs)
here_cleared vs new i p is put = set_here vs new i None put ∙ ap (λ p. clear_at (i ∷ p) (keyed_places vs)) (sym is)

pub here_put : (vs new : List (Option Value)) (i : ℕ) (p : List ℕ) (v : Value) → p ≡ [] → new ≡ slice_set vs i (Some v) → keyed_places new ≡ put_at (i ∷ p) (keyed_view v) (keyed_places vs)
here_put vs new i p v is put = set_here vs new i (Some v) put ∙ ap (λ p. put_at (i ∷ p) (keyed_view v) (keyed_places vs)) (sym is)

pub nowhere_taken : (vs : List (Option Value)) (i j : ℕ) (r p : List ℕ) → p ≡ j ∷ r → None ≡ get_or vs i None → None ≡ cell_at (i ∷ p) (keyed_places vs)
nowhere_taken vs i j r p is h = none_at (keyed_of vs) i p (ap (option_map keyed_view) h ∙ sym (keyed_get vs i))

pub nowhere_cleared : (vs new : List (Option Value)) (i j : ℕ) (r p : List ℕ) → p ≡ j ∷ r → None ≡ get_or vs i None → new ≡ slice_set vs i None → keyed_places new ≡ clear_at (i ∷ p) (keyed_places vs)
nowhere_cleared vs new i j r p is h put = set_nowhere vs new i j r None h put ∙ ap (λ p. clear_at (i ∷ p) (keyed_places vs)) (sym is)

pub within_taken : (vs : List (Option Value)) (i j : ℕ) (r p : List ℕ) (outer : Value) (o : Option (Cell (List ℕ))) → p ≡ j ∷ r → Some outer ≡ get_or vs i None → o ≡ cell_in (j ∷ r) (keyed_view outer) → o ≡ cell_at (i ∷ p) (keyed_places vs)
within_taken vs i j r p outer o is h there =
    some_at (keyed_of vs) (keyed_view outer) i (j ∷ r) o (ap (option_map keyed_view) h ∙ sym (keyed_get vs i)) there ∙ ap (λ p. cell_at (i ∷ p) (keyed_places vs)) (sym is)

pub within_cleared : (vs mid new : List (Option Value)) (i j : ℕ) (r p : List ℕ) (outer left : Value)
    → p ≡ j ∷ r → Some outer ≡ get_or vs i None → mid ≡ slice_set vs i None → new ≡ slice_set mid i (Some left) → keyed_view left ≡ change_inside (set_at (j ∷ r) None) (keyed_view outer)
    → keyed_places new ≡ clear_at (i ∷ p) (keyed_places vs)
within_cleared vs mid new i j r p outer left is at first last changed = set_within vs mid new i j r None outer left at first last changed ∙ ap (λ p. clear_at (i ∷ p) (keyed_places vs)) (sym is)

pub within_put : (vs mid new : List (Option Value)) (i j : ℕ) (r p : List ℕ) (outer left v : Value) (answer : Result (Option Value) Value)
    → p ≡ j ∷ r → Some outer ≡ get_or vs i None → mid ≡ slice_set vs i None → new ≡ slice_set mid i (Some left)
    → OnOk answer (keyed_view left ≡ change_inside (set_at (j ∷ r) (Some (keyed_view v))) (keyed_view outer))
    → OnOk answer (keyed_places new ≡ put_at (i ∷ p) (keyed_view v) (keyed_places vs))
within_put vs mid new i j r p outer left v (Err w) is at first last changed = tt
within_put vs mid new i j r p outer left v (Ok o) is at first last changed =
    set_within vs mid new i j r (Some (keyed_view v)) outer left at first last changed ∙ ap (λ p. put_at (i ∷ p) (keyed_view v) (keyed_places vs)) (sym is)

pub within_kept : (vs mid new : List (Option Value)) (i : ℕ) (outer left : Value) (answer : Result (Option Value) Value)
    → Some outer ≡ get_or vs i None → mid ≡ slice_set vs i None → new ≡ slice_set mid i (Some left)
    → OnErr answer (keyed_view left ≡ keyed_view outer) → OnErr answer (keyed_places new ≡ keyed_places vs)
within_kept vs mid new i outer left (Err w) at first last same = put_back vs mid new i outer left at first last same
within_kept vs mid new i outer left (Ok o) at first last same = tt

pub ruleset taken_places = (past_taken, past_cleared, old_here, here_cleared, nowhere_taken, nowhere_cleared, within_taken, within_cleared)

pub ruleset put_places = (place_past, place_here, place_nowhere, place_within, old_here, old_within, here_put, within_put, within_kept)

-- the same inside a value
pub fields_place : (v : Value) (x : Vec (Option Value) Global) (j : ℕ) (r : List ℕ) → v ≡ Fields x → has_place (keyed_places x.items) (j ∷ r) ≡ has_place (inside (Some (keyed_view v))) (j ∷ r)
fields_place v x j r is = sym (ap (λ c. has_place (inside (Some c)) (j ∷ r)) (fields_keyed v x is))

pub call_place : (v : Value) (x : CallMsg Value) (j : ℕ) (r : List ℕ) → v ≡ Call x → has_place (keyed_places x.params.items) (j ∷ r) ≡ has_place (inside (Some (keyed_view v))) (j ∷ r)
call_place v x j r is = sym (ap (λ c. has_place (inside (Some c)) (j ∷ r)) (call_keyed v x is))

pub ruleset taken_inside = (empty, kept, table_closed, fields_changed, call_changed, fields_taken, call_taken, fields-whole, call-whole, whole-fields, whole-call)

pub ruleset put_inside = (closed, table_closed, fields_changed, call_changed, fields_taken, call_taken, fields_place, call_place, fields-whole, call-whole, whole-fields, whole-call)

-- behind a place that is empty nothing was put
pub nowhere_kept : (vs new : List (Option Value)) (i : ℕ) → None ≡ get_or vs i None → new ≡ slice_set vs i None → keyed_places new ≡ keyed_places vs
nowhere_kept vs new i none put =
    ap keyed_places put ∙ ap parts_from (set_keyed vs i None) ∙ ap (λ o. parts_from (slice_set (keyed_of vs) i o)) (ap (option_map keyed_view) none ∙ sym (keyed_get vs i)) ∙ ap parts_from (set_itself (keyed_of vs) i)

-- a value with another one inside, and one that is as it was
pub fields_put : {X : Type 0} (v : Value) (x new : Vec (Option Value) Global) (p : List ℕ) (c : Cell (List ℕ)) (answer : Result X Value) → v ≡ Fields x
    → OnOk answer (keyed_places new.items ≡ put_at p c (keyed_places x.items)) → OnOk answer (keyed_view (Fields new) ≡ change_inside (set_at p (Some c)) (keyed_view v))
fields_put v x new p c (Err w) is put = tt
fields_put v x new p c (Ok o) is put = fields_changed v x new p (Some c) is put

pub fields_held : {X : Type 0} (v : Value) (x new : Vec (Option Value) Global) (answer : Result X Value) → v ≡ Fields x → OnErr answer (keyed_places new.items ≡ keyed_places x.items) → OnErr answer (keyed_view (Fields new) ≡ keyed_view v)
fields_held v x new (Err w) is same = fields_keyed (Fields new) new refl ∙ ap (cell [] model.a_record) same ∙ sym (fields_keyed v x is)
fields_held v x new (Ok o) is same = tt

pub call_put : (v : Value) (x new : CallMsg Value) (before after : Vec (Option Value) Global) (p : List ℕ) (c : Cell (List ℕ)) (answer : Result (Option Value) Value)
    → v ≡ Call x → new.caller ≡ x.caller → new.call ≡ x.call → before ≡ x.params → new.params ≡ after
    → OnOk answer (keyed_places after.items ≡ put_at p c (keyed_places before.items)) → OnOk answer (keyed_view (Call new) ≡ change_inside (set_at p (Some c)) (keyed_view v))
call_put v x new before after p c (Err w) is by number first last put = tt
call_put v x new before after p c (Ok o) is by number first last put =
    call_changed v x new p (Some c) is by number (ap (λ (ps : Vec (Option Value) Global). keyed_places ps.items) last ∙ put ∙ ap (λ (ps : Vec (Option Value) Global). put_at p c (keyed_places ps.items)) first)

pub call_held : (v : Value) (x new : CallMsg Value) (before after : Vec (Option Value) Global) (answer : Result (Option Value) Value)
    → v ≡ Call x → new.caller ≡ x.caller → new.call ≡ x.call → before ≡ x.params → new.params ≡ after
    → OnErr answer (keyed_places after.items ≡ keyed_places before.items) → OnErr answer (keyed_view (Call new) ≡ keyed_view v)
call_held v x new before after (Ok o) is by number first last same = tt
call_held v x new before after (Err w) is by number first last same =
    call_keyed (Call new) new refl
    ∙ ap₂ (λ caller call. cell [] (model.a_callmessage caller call) (keyed_places new.params.items)) (ap (λ c. c.number) by) number
    ∙ ap (λ (ps : Vec (Option Value) Global). cell [] (model.a_callmessage x.caller.number x.call) (keyed_places ps.items)) last
    ∙ ap (cell [] (model.a_callmessage x.caller.number x.call)) (same ∙ ap (λ (ps : Vec (Option Value) Global). keyed_places ps.items) first)
    ∙ sym (call_keyed v x is)
