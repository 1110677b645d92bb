-- Where a value is put in the place of nothing, or of a value of one cell.
use Rattle.std.proofs.Common.{◌≡◌, ◌<◌, ◌≤◌, ℕ, zero, suc, List, [], ◌∷◌, Bool, true, false, Option, Some, None, Result, Ok, Err, is_ok, is_some, OnOk, IfSome, option_map, get_or, length, refl, sym, ap, subst, ◌∙◌, arith, Vec, Global, Box}
use Rattle.std.proofs.lemmas.List.{length-map, get_or_past, set-set}
use Rattle.std.proofs.lemmas.Bool.{lt-ltb, le-ltb}
use Rattle.std.proofs.Math.ListN as lists
use Rattle.std.specs.Prelude.{slice_set, nat_lt, ◌&&◌, ⊤}
use Rattle.herm_parcels.specs.declared.call.CallMsg.{CallMsg}
use Rattle.herm_model.specs.Values as model
use Rattle.herm_model.specs.Values.{Cell, cell, Parts, no_parts, part_at, size, inside, cell_at, has_value, has_place, set_at, put_at, change_inside}
use Rattle.herm_values.specs.Keyed.{keyed_view}
use Rattle.herm_values.specs.View.{value_view, views_of}
use Rattle.herm_values.specs.declared.value.Value.{Value, Fields, Call, Table as a_table}
use Rattle.herm_values.specs.declared.value.Table.{Table}
use Rattle.herm_values.proofs.Seen.{fields_view, table_view, call_view}
use Rattle.herm_places.specs.Held.{keyed_places, seen_places}
use Rattle.herm_places.specs.Plain.{IsPlain, fields_in, has_replaceable, is_replaceable}
use Rattle.herm_places.proofs.Read.{part-at}
use Rattle.herm_places.proofs.Changed.{size-from, set_here, set_within, fields_changed}

-- a place by what is there
seen_get : (vs : List (Option Value)) (i : ℕ) → get_or (views_of vs) i None ≡ option_map value_view (get_or vs i None)
seen_get vs i = lists.get_or-map (option_map value_view) vs i None

pub part_seen : (vs : List (Option Value)) (i : ℕ) → part_at i (seen_places vs) ≡ option_map value_view (get_or vs i None)
part_seen vs i = part-at i (views_of vs) ∙ seen_get vs i

counted : (vs : List (Option Value)) → size (seen_places vs) ≡ length vs
counted vs = size-from (views_of vs) ∙ length-map vs (option_map value_view)

none_replaceable : (N : Type 0) (j : ℕ) → has_replaceable {N = N} no_parts (j ∷ []) ≡ false
none_replaceable N j = ap (λ b. b && true) (le-ltb j 0 (omega arith))

-- such a place is a place
first_of : (a b : Bool) → (a && b) ≡ true → a ≡ true
first_of true b h = refl
first_of false b h = h

nothing_there : (N : Type 0) (b : Bool) (j : ℕ) → has_replaceable {N = N} no_parts (j ∷ []) ≡ true → b ≡ true
nothing_there N b j h = absurd (cc (none_replaceable N j, h))

there_within : {N : Type 0} (j : ℕ) (o : Option (Cell N)) → has_replaceable (fields_in o) (j ∷ []) ≡ true → has_place (inside o) (j ∷ []) ≡ true
there_within {N = N} j None h = nothing_there N _ j h
there_within j (Some (cell n model.a_record qs)) h = first_of (nat_lt j (size qs)) _ h
there_within {N = N} j (Some (cell n (model.a_scalar s) qs)) h = nothing_there N _ j h
there_within {N = N} j (Some (cell n (model.a_variant c) qs)) h = nothing_there N _ j h
there_within {N = N} j (Some (cell n model.a_table qs)) h = nothing_there N _ j h
there_within {N = N} j (Some (cell n (model.a_polymorph t) qs)) h = nothing_there N _ j h
there_within {N = N} j (Some (cell n (model.a_callmessage caller call) qs)) h = nothing_there N _ j h
there_within {N = N} j (Some (cell n (model.an_inport port) qs)) h = nothing_there N _ j h
there_within {N = N} j (Some (cell n (model.an_outport port) qs)) h = nothing_there N _ j h

replaceable_there : {N : Type 0} (p : List ℕ) (ps : Parts N) → has_replaceable ps p ≡ true → has_place ps p ≡ true
replaceable_there [] ps h = h
replaceable_there (i ∷ []) ps h = first_of (nat_lt i (size ps)) _ h
replaceable_there (i ∷ j ∷ []) ps h = there_within j (part_at i ps) h
replaceable_there (i ∷ j ∷ k ∷ p) ps h = absurd (cc h)

pub there_told : (r : Result Bool Value) (p : List ℕ) (vs : List (Option Value)) → is_ok r ≡ has_replaceable (seen_places vs) p → OnOk r (has_place (seen_places vs) p ≡ true)
there_told (Err w) p vs h = tt
there_told (Ok b) p vs h = replaceable_there p (seen_places vs) (sym h)

pub past : (vs : List (Option Value)) (i : ℕ) (p : List ℕ) → length vs ≤ i → false ≡ has_replaceable (seen_places vs) (i ∷ p)
past vs i [] h = sym (ap (λ b. b && is_replaceable (part_at i (seen_places vs))) (ap (nat_lt i) (counted vs) ∙ le-ltb i (length vs) h))
past vs i (j ∷ []) h = sym (ap (λ o. has_replaceable (fields_in o) (j ∷ [])) (part_seen vs i ∙ ap (option_map value_view) (get_or_past vs i None h)) ∙ none_replaceable ⊤ j)
past vs i (j ∷ k ∷ p) h = refl

pub here_done : (vs : List (Option Value)) (i : ℕ) (b : Bool) → i < length vs → b ≡ is_replaceable (part_at i (seen_places vs)) → b ≡ has_replaceable (seen_places vs) (i ∷ [])
here_done vs i b h is = is ∙ sym (ap (λ c. c && is_replaceable (part_at i (seen_places vs))) (ap (nat_lt i) (counted vs) ∙ lt-ltb i (length vs) h))

pub here_put : (vs new : List (Option Value)) (i : ℕ) (v : Value) → new ≡ slice_set vs i (Some v) → keyed_places new ≡ put_at (i ∷ []) (keyed_view v) (keyed_places vs)
here_put vs new i v put = set_here vs new i (Some v) put

-- a path with more steps than one
pub behind : (vs : List (Option Value)) (i j k : ℕ) (r q p : List ℕ) → p ≡ j ∷ q → q ≡ k ∷ r → false ≡ has_replaceable (seen_places vs) (i ∷ p)
behind vs i j k r q p is more = sym (ap (λ p. has_replaceable (seen_places vs) (i ∷ p)) (is ∙ ap (λ q. j ∷ q) more))

-- the field of what stands at a place
pub nowhere : (vs : List (Option Value)) (i j : ℕ) → None ≡ get_or vs i None → false ≡ has_replaceable (seen_places vs) (i ∷ j ∷ [])
nowhere vs i j none = sym (ap (λ o. has_replaceable (fields_in o) (j ∷ [])) (part_seen vs i ∙ ap (option_map value_view) (sym none)) ∙ none_replaceable ⊤ j)

pub within_done : (vs : List (Option Value)) (i j : ℕ) (outer : Value) (b : Bool) → Some outer ≡ get_or vs i None → b ≡ has_replaceable (fields_in (Some (value_view outer))) (j ∷ []) → b ≡ has_replaceable (seen_places vs) (i ∷ j ∷ [])
within_done vs i j outer b some done =
    done ∙ ap (λ o. has_replaceable (fields_in o) (j ∷ [])) (sym (part_seen vs i ∙ ap (option_map value_view) (sym some)))

cell_within : (vs : List (Option Value)) (i j : ℕ) (outer : Value) → Some outer ≡ get_or vs i None → cell_at (j ∷ []) (inside (Some (value_view outer))) ≡ cell_at (i ∷ j ∷ []) (seen_places vs)
cell_within vs i j outer some = ap (λ o. cell_at (j ∷ []) (inside o)) (sym (part_seen vs i ∙ ap (option_map value_view) (sym some)))

pub within_held : (vs : List (Option Value)) (i j : ℕ) (outer : Value) (answer : Option Bool) → Some outer ≡ get_or vs i None
    → IfSome answer (λ b. b ≡ has_value (inside (Some (value_view outer))) (j ∷ [])) → IfSome answer (λ b. b ≡ has_value (seen_places vs) (i ∷ j ∷ []))
within_held vs i j outer answer some held = subst (λ o. IfSome answer (λ b. b ≡ is_some o)) (cell_within vs i j outer some) held

pub within_plain : (vs : List (Option Value)) (i j : ℕ) (outer : Value) → Some outer ≡ get_or vs i None
    → IfSome (cell_at (j ∷ []) (inside (Some (value_view outer)))) IsPlain → IfSome (cell_at (i ∷ j ∷ []) (seen_places vs)) IsPlain
within_plain vs i j outer some plain = subst (λ o. IfSome o IsPlain) (cell_within vs i j outer some) plain

-- the fields of the record at a place
pub fields_at : (vs : List (Option Value)) (i : ℕ) (outer : Value) → Some outer ≡ get_or vs i None → size (fields_in (part_at i (seen_places vs))) ≡ size (fields_in (Some (value_view outer)))
fields_at vs i outer some = ap (λ o. size (fields_in o)) (part_seen vs i ∙ ap (option_map value_view) (sym some))

pub within_there : (vs : List (Option Value)) (i j : ℕ) (outer : Value) (answer : Option Bool) → Some outer ≡ get_or vs i None
    → IfSome answer (λ b. j < size (fields_in (Some (value_view outer)))) → IfSome answer (λ b. j < size (fields_in (part_at i (seen_places vs))))
within_there vs i j outer answer some there = subst (λ n. IfSome answer (λ b. j < n)) (sym (fields_at vs i outer some)) there

by_part : (vs : List (Option Value)) (i j : ℕ) (o : Option Value) → get_or vs i None ≡ o → j < size (fields_in (option_map value_view o)) → i < length vs
by_part [] i j o is h = absurd (no_part o (sym is) h) where
  no_part : (o : Option Value) → o ≡ None → j < size (fields_in (option_map value_view o)) → ⊥
  no_part None e h = omega (arith, h)
  no_part (Some v) e h = cc
by_part (x ∷ vs) zero j o is h = omega arith
by_part (x ∷ vs) (suc i) j o is h = let less = by_part vs i j o is h in omega (arith, less)

pub a_place : (vs : List (Option Value)) (i j : ℕ) → j < size (fields_in (part_at i (seen_places vs))) → i < length vs
a_place vs i j h = by_part vs i j (get_or vs i None) refl (subst (λ o. j < size (fields_in o)) (part_seen vs i) h)

-- what is lent at a place stands there
got : {X : Type 0} (os : List (Option X)) (i : ℕ) (o : Option X) → i < length os → o ≡ get_or os i o → o ≡ get_or os i None
got [] i o h is = absurd (omega (arith, h))
got (x ∷ os) zero o h is = is
got (x ∷ os) (suc i) o h is = got os i o (omega (arith, h)) is

pub lent_some : (vs : List (Option Value)) (i j : ℕ) (o : Option Value) (outer : Value) → j < size (fields_in (part_at i (seen_places vs))) → o ≡ get_or vs i o → o ≡ Some outer → Some outer ≡ get_or vs i None
lent_some vs i j o outer h at is = sym is ∙ got vs i o (a_place vs i j h) at

pub lent_there : (vs : List (Option Value)) (i j : ℕ) (o : Option Value) (outer : Value) → j < size (fields_in (part_at i (seen_places vs))) → o ≡ get_or vs i o → o ≡ Some outer → j < size (fields_in (Some (value_view outer)))
lent_there vs i j o outer h at is = subst (λ n. j < n) (fields_at vs i outer (lent_some vs i j o outer h at is)) h

pub lent_none : {A : Type 0} (vs : List (Option Value)) (i j : ℕ) (o : Option Value) → j < size (fields_in (part_at i (seen_places vs))) → o ≡ get_or vs i o → o ≡ None → A
lent_none vs i j o h at is =
    let none : None ≡ get_or vs i None = sym is ∙ got vs i o (a_place vs i j h) at in
    absurd (omega (arith, subst (λ o. j < size (fields_in o)) (part_seen vs i ∙ ap (option_map value_view) (sym none)) h))

pub within_put : (vs new : List (Option Value)) (i j : ℕ) (outer left v : Value)
    → Some outer ≡ get_or vs i None → new ≡ slice_set vs i (Some left) → keyed_view left ≡ change_inside (set_at (j ∷ []) (Some (keyed_view v))) (keyed_view outer)
    → keyed_places new ≡ put_at (i ∷ j ∷ []) (keyed_view v) (keyed_places vs)
within_put vs new i j outer left v at put changed = set_within vs (slice_set vs i None) new i j [] (Some (keyed_view v)) outer left at refl (put ∙ sym (set-set vs i None (Some left))) changed

pub ruleset here = (part_seen, past, here_done, here_put)

pub ruleset places = (past, behind, nowhere, within_done, within_held, within_plain, within_there)

-- what is no record has no fields
abbrev pub IsNoRecord : Value → Type 0
IsNoRecord w = fields_in (Some (value_view w)) ≡ no_parts

pub closed : (v w : Value) (j : ℕ) → v ≡ w → IsNoRecord w → false ≡ has_replaceable (fields_in (Some (value_view v))) (j ∷ [])
closed v w j is h = sym (none_replaceable ⊤ j) ∙ ap (λ ps. has_replaceable ps (j ∷ [])) (sym h) ∙ ap (λ v. has_replaceable (fields_in (Some (value_view v))) (j ∷ [])) (sym is)

pub table_closed : (x : Box Table Global) → IsNoRecord (a_table x)
table_closed x = ap (λ c. fields_in (Some c)) (table_view (a_table x) x refl)

pub call_closed : (x : CallMsg Value) → IsNoRecord (Call x)
call_closed x = ap (λ c. fields_in (Some c)) (call_view (Call x) x refl)

-- inside a record
pub record_seen : (v : Value) (x : Vec (Option Value) Global) (vs : List (Option Value)) → v ≡ Fields x → vs ≡ x.items → value_view v ≡ cell tt model.a_record (seen_places vs)
record_seen v x vs is same = fields_view v x is ∙ ap (λ vs. cell tt model.a_record (seen_places vs)) (sym same)

module _ (v : Value) (vs : List (Option Value)) (seen : value_view v ≡ cell tt model.a_record (seen_places vs)) where
  pub fields_done : (p : List ℕ) (b : Bool) → b ≡ has_replaceable (seen_places vs) p → b ≡ has_replaceable (fields_in (Some (value_view v))) p
  fields_done p b done = done ∙ sym (ap (λ c. has_replaceable (fields_in (Some c)) p) seen)

  pub fields_here : (p : List ℕ) (answer : Option Bool) → IfSome answer (λ b. b ≡ has_value (seen_places vs) p) → IfSome answer (λ b. b ≡ has_value (inside (Some (value_view v))) p)
  fields_here p answer held = subst (λ c. IfSome answer (λ b. b ≡ has_value (inside (Some c)) p)) (sym seen) held

  pub fields_plain : (p : List ℕ) → IfSome (cell_at p (seen_places vs)) IsPlain → IfSome (cell_at p (inside (Some (value_view v)))) IsPlain
  fields_plain p plain = subst (λ c. IfSome (cell_at p (inside (Some c))) IsPlain) (sym seen) plain

  pub fields_size : size (fields_in (Some (value_view v))) ≡ length vs
  fields_size = ap (λ c. size (fields_in (Some c))) seen ∙ counted vs

  pub fields_there : (j : ℕ) (answer : Option Bool) → IfSome answer (λ b. j < length vs) → IfSome answer (λ b. j < size (fields_in (Some (value_view v))))
  fields_there j answer there = subst (λ n. IfSome answer (λ b. j < n)) (sym fields_size) there

pub ruleset in_record = (closed, table_closed, call_closed)

-- a value put at a field of a record
pub a_field : (v : Value) (x : Vec (Option Value) Global) (j : ℕ) → v ≡ Fields x → j < size (fields_in (Some (value_view v))) → j < length x.items
a_field v x j is h = subst (λ n. j < n) (fields_size v x.items (fields_view v x is)) h

pub field_put : (v w : Value) (x new : Vec (Option Value) Global) (j : ℕ) → v ≡ Fields x → new.items ≡ slice_set x.items j (Some w) → keyed_view (Fields new) ≡ change_inside (set_at (j ∷ []) (Some (keyed_view w))) (keyed_view v)
field_put v w x new j is put = fields_changed v x new (j ∷ []) (Some (keyed_view w)) is (set_here x.items new.items j (Some w) put)

pub no_field : (v w : Value) (j : ℕ) (f : Parts (List ℕ) → Parts (List ℕ)) → v ≡ w → IsNoRecord w → j < size (fields_in (Some (value_view v))) → keyed_view v ≡ change_inside f (keyed_view v)
no_field v w j f is none h = absurd (omega (arith, subst (λ n. j < n) (ap (λ v. size (fields_in (Some (value_view v)))) is ∙ ap size none) h))

pub ruleset put_within = (a_place, no_field, table_closed, call_closed)
