-- What a change at a path leaves.
use Rattle.std.proofs.Common.{◌≡◌, ◌≤◌, ℕ, zero, suc, List, [], ◌∷◌, false, cond, Option, Some, None, option_map, get_or, length, refl, sym, ap, ap₂, ◌∙◌, arith, Vec, Global, Box}
use Rattle.std.proofs.lemmas.List.{map-set, set-set, length-map, get_or_past}
use Rattle.std.proofs.lemmas.Bool.{le-ltb}
use Rattle.std.specs.Prelude.{slice_set}
use Rattle.herm_parcels.specs.declared.call.CallMsg.{CallMsg}
use Rattle.herm_model.specs.Values as model
use Rattle.herm_model.specs.Values.{Kind, Cell, Parts, cell, no_parts, gap, part, place, part_at, size, inside, opens, kind_of, cell_at, set_part, set_at, clear_at, change_part, change_inside, has_place}
use Rattle.herm_values.specs.Parts.{parts_from}
use Rattle.herm_values.specs.Keyed.{keyed_view, keyed_of}
use Rattle.herm_values.specs.declared.value.Value.{Value, Fields, Call, Table as a_table}
use Rattle.herm_values.specs.declared.value.Table.{Table}
use Rattle.herm_values.proofs.Forgotten.{fields_keyed, table_keyed, call_keyed}
use Rattle.herm_places.specs.Held.{keyed_places, cell_in}
use Rattle.herm_places.proofs.Read.{keyed_get}

module _ {N : Type 0} where
  set_part-from : (i : ℕ) (o : Option (Cell N)) (os : List (Option (Cell N))) → set_part i o (parts_from os) ≡ parts_from (slice_set os i o)
  set_part-from i o [] = refl
  set_part-from zero o (None ∷ os) = refl
  set_part-from zero o (Some c ∷ os) = refl
  set_part-from (suc i) o (None ∷ os) = ap gap (set_part-from i o os)
  set_part-from (suc i) o (Some c ∷ os) = ap (part c) (set_part-from i o os)

  change_part-from : (i : ℕ) (f : Cell N → Cell N) (os : List (Option (Cell N))) → change_part i f (parts_from os) ≡ parts_from (slice_set os i (option_map f (get_or os i None)))
  change_part-from i f [] = refl
  change_part-from zero f (None ∷ os) = refl
  change_part-from zero f (Some c ∷ os) = refl
  change_part-from (suc i) f (None ∷ os) = ap gap (change_part-from i f os)
  change_part-from (suc i) f (Some c ∷ os) = ap (part c) (change_part-from i f os)

  pub size-from : (os : List (Option (Cell N))) → size (parts_from os) ≡ length os
  size-from [] = refl
  size-from (None ∷ os) = ap suc (size-from os)
  size-from (Some c ∷ os) = ap suc (size-from os)

  set_beyond : (i : ℕ) (o : Option (Cell N)) (ps : Parts N) → size ps ≤ i → set_part i o ps ≡ ps
  set_beyond i o no_parts h = refl
  set_beyond zero o (gap ps) h = absurd (omega arith)
  set_beyond zero o (part c ps) h = absurd (omega arith)
  set_beyond (suc i) o (gap ps) h = ap gap (set_beyond i o ps (omega arith))
  set_beyond (suc i) o (part c ps) h = ap (part c) (set_beyond i o ps (omega arith))

  change_beyond : (i : ℕ) (f : Cell N → Cell N) (ps : Parts N) → size ps ≤ i → change_part i f ps ≡ ps
  change_beyond i f no_parts h = refl
  change_beyond zero f (gap ps) h = absurd (omega arith)
  change_beyond zero f (part c ps) h = absurd (omega arith)
  change_beyond (suc i) f (gap ps) h = ap gap (change_beyond i f ps (omega arith))
  change_beyond (suc i) f (part c ps) h = ap (part c) (change_beyond i f ps (omega arith))

  set_at-beyond : (i : ℕ) (p : List ℕ) (o : Option (Cell N)) (ps : Parts N) → size ps ≤ i → set_at (i ∷ p) o ps ≡ ps
  set_at-beyond i [] o ps h = set_beyond i o ps h
  set_at-beyond i (j ∷ p) o ps h = change_beyond i (change_inside (set_at (j ∷ p) o)) ps h

pub set_keyed : (vs : List (Option Value)) (i : ℕ) (o : Option Value) → keyed_of (slice_set vs i o) ≡ slice_set (keyed_of vs) i (option_map keyed_view o)
set_keyed vs i o = map-set (option_map keyed_view) vs i o

-- nothing is beyond the last place
pub set_past : (vs : List (Option Value)) (i : ℕ) (p : List ℕ) (o : Option (Cell (List ℕ))) → length vs ≤ i → keyed_places vs ≡ set_at (i ∷ p) o (keyed_places vs)
set_past vs i p o h = sym (set_at-beyond i p o (keyed_places vs) (omega (arith, h, size-from (keyed_of vs), length-map vs (option_map keyed_view))))

pub get_past : (vs : List (Option Value)) (i : ℕ) → length vs ≤ i → get_or vs i None ≡ None
get_past vs i h = get_or_past vs i None h

-- a place itself
pub set_here : (vs new : List (Option Value)) (i : ℕ) (o : Option Value) → new ≡ slice_set vs i o → keyed_places new ≡ set_at (i ∷ []) (option_map keyed_view o) (keyed_places vs)
set_here vs new i o is = ap keyed_places is ∙ ap parts_from (set_keyed vs i o) ∙ sym (set_part-from i (option_map keyed_view o) (keyed_of vs))

-- behind a place that is empty nothing changes
pub set_nowhere : (vs new : List (Option Value)) (i j : ℕ) (r : List ℕ) (o : Option (Cell (List ℕ))) → None ≡ get_or vs i None → new ≡ slice_set vs i None → keyed_places new ≡ set_at (i ∷ j ∷ r) o (keyed_places vs)
set_nowhere vs new i j r o none is =
    ap keyed_places is
    ∙ ap parts_from (set_keyed vs i None)
    ∙ ap (λ x. parts_from (slice_set (keyed_of vs) i (option_map (change_inside (set_at (j ∷ r) o)) x))) (ap (option_map keyed_view) none ∙ sym (keyed_get vs i))
    ∙ sym (change_part-from i (change_inside (set_at (j ∷ r) o)) (keyed_of vs))

-- behind a place its value changes
pub set_within : (vs mid new : List (Option Value)) (i j : ℕ) (r : List ℕ) (o : Option (Cell (List ℕ))) (outer left : Value)
    → Some outer ≡ get_or vs i None → mid ≡ slice_set vs i None → new ≡ slice_set mid i (Some left) → keyed_view left ≡ change_inside (set_at (j ∷ r) o) (keyed_view outer)
    → keyed_places new ≡ set_at (i ∷ j ∷ r) o (keyed_places vs)
set_within vs mid new i j r o outer left at first last changed =
    ap keyed_places (last ∙ ap (λ vs. slice_set vs i (Some left)) first ∙ set-set vs i None (Some left))
    ∙ ap parts_from (set_keyed vs i (Some left))
    ∙ ap (λ c. parts_from (slice_set (keyed_of vs) i (Some c))) changed
    ∙ ap (λ x. parts_from (slice_set (keyed_of vs) i (option_map (change_inside (set_at (j ∷ r) o)) x))) (ap (option_map keyed_view) at ∙ sym (keyed_get vs i))
    ∙ sym (change_part-from i (change_inside (set_at (j ∷ r) o)) (keyed_of vs))

pub set_itself : {X : Type 0} (os : List (Option X)) (i : ℕ) → slice_set os i (get_or os i None) ≡ os
set_itself [] i = refl
set_itself (o ∷ os) zero = refl
set_itself (o ∷ os) (suc i) = ap (λ os. o ∷ os) (set_itself os i)

-- a value that was taken out and put back
pub put_back : (vs mid new : List (Option Value)) (i : ℕ) (outer left : Value) → Some outer ≡ get_or vs i None → mid ≡ slice_set vs i None → new ≡ slice_set mid i (Some left) → keyed_view left ≡ keyed_view outer → keyed_places new ≡ keyed_places vs
put_back vs mid new i outer left at first last same =
    ap keyed_places (last ∙ ap (λ vs. slice_set vs i (Some left)) first ∙ set-set vs i None (Some left))
    ∙ ap parts_from (set_keyed vs i (Some left))
    ∙ ap (λ c. parts_from (slice_set (keyed_of vs) i (Some c))) same
    ∙ ap (λ x. parts_from (slice_set (keyed_of vs) i x)) (ap (option_map keyed_view) at ∙ sym (keyed_get vs i))
    ∙ ap parts_from (set_itself (keyed_of vs) i)

-- inside a record or a callmessage
pub fields_changed : (v : Value) (x new : Vec (Option Value) Global) (p : List ℕ) (o : Option (Cell (List ℕ))) → v ≡ Fields x → keyed_places new.items ≡ set_at p o (keyed_places x.items) → keyed_view (Fields new) ≡ change_inside (set_at p o) (keyed_view v)
fields_changed v x new p o is changed =
    fields_keyed (Fields new) new refl ∙ ap (cell [] model.a_record) changed ∙ sym (ap (change_inside (set_at p o)) (fields_keyed v x is))

pub call_changed : (v : Value) (x new : CallMsg Value) (p : List ℕ) (o : Option (Cell (List ℕ))) → v ≡ Call x → new.caller ≡ x.caller → new.call ≡ x.call → keyed_places new.params.items ≡ set_at p o (keyed_places x.params.items) → keyed_view (Call new) ≡ change_inside (set_at p o) (keyed_view v)
call_changed v x new p o is by number changed =
    call_keyed (Call new) new refl
    ∙ ap₂ (λ caller call. cell [] (model.a_callmessage caller call) (keyed_places new.params.items)) (ap (λ c. c.number) by) number
    ∙ ap (cell [] (model.a_callmessage x.caller.number x.call)) changed
    ∙ sym (ap (change_inside (set_at p o)) (call_keyed v x is))

pub fields_taken : (v : Value) (x : Vec (Option Value) Global) (j : ℕ) (r : List ℕ) → v ≡ Fields x → cell_at (j ∷ r) (keyed_places x.items) ≡ cell_in (j ∷ r) (keyed_view v)
fields_taken v x j r is = sym (ap (cell_in (j ∷ r)) (fields_keyed v x is))

pub call_taken : (v : Value) (x : CallMsg Value) (j : ℕ) (r : List ℕ) → v ≡ Call x → cell_at (j ∷ r) (keyed_places x.params.items) ≡ cell_in (j ∷ r) (keyed_view v)
call_taken v x j r is = sym (ap (cell_in (j ∷ r)) (call_keyed v x is))

-- what is no record and no callmessage has nothing inside
module _ {N : Type 0} where
  closed_kept : (c : Cell N) (f : Parts N → Parts N) → opens (kind_of c) ≡ false → c ≡ change_inside f c
  closed_kept (cell n k ps) f h = ap (λ b. cell n k (cond b (f ps) ps)) (sym h)

  closed_empty : (c : Cell N) → opens (kind_of c) ≡ false → no_parts ≡ inside (Some c)
  closed_empty (cell n k ps) h = ap (λ b. cond b ps no_parts) (sym h)

  nothing_in : (j : ℕ) (r : List ℕ) → cell_at {N = N} (j ∷ r) no_parts ≡ None
  nothing_in j [] = refl
  nothing_in j (k ∷ r) = nothing_in k r

pub no_place : (j : ℕ) (r : List ℕ) → has_place {N = List ℕ} no_parts (j ∷ r) ≡ false
no_place j [] = le-ltb j 0 (omega arith)
no_place j (k ∷ r) = no_place k r

abbrev pub IsClosed : Value → Type 0
IsClosed v = opens (kind_of (keyed_view v)) ≡ false

pub kept : (v w : Value) (f : Parts (List ℕ) → Parts (List ℕ)) → v ≡ w → IsClosed w → keyed_view w ≡ change_inside f (keyed_view v)
kept v w f is h = closed_kept (keyed_view w) f h ∙ ap (λ v. change_inside f (keyed_view v)) (sym is)

pub empty : (v w : Value) (j : ℕ) (r : List ℕ) → v ≡ w → IsClosed w → None ≡ cell_in (j ∷ r) (keyed_view v)
empty v w j r is h = sym (nothing_in j r) ∙ ap (cell_at (j ∷ r)) (closed_empty (keyed_view w) h) ∙ ap (λ v. cell_in (j ∷ r) (keyed_view v)) (sym is)

pub closed : (v w : Value) (j : ℕ) (r : List ℕ) → v ≡ w → IsClosed w → false ≡ has_place (inside (Some (keyed_view v))) (j ∷ r)
closed v w j r is h = sym (no_place j r) ∙ ap (λ ps. has_place ps (j ∷ r)) (closed_empty (keyed_view w) h) ∙ ap (λ v. has_place (inside (Some (keyed_view v))) (j ∷ r)) (sym is)

pub table_closed : (x : Box Table Global) → IsClosed (a_table x)
table_closed x = ap (λ c. opens (kind_of c)) (table_keyed (a_table x) x refl)
