-- What an exchange at a path leaves.
use Rattle.std.proofs.Common.{◌≡◌, ◌≤◌, ℕ, zero, suc, List, [], ◌∷◌, Bool, true, false, Option, Some, None, option_map, get_or, length, refl, sym, ap, ap₂, ◌∙◌, Vec, Global, Box}
use Rattle.std.specs.Prelude.{slice_set}
use Rattle.herm_parcels.specs.declared.call.CallMsg.{CallMsg}
use Rattle.herm_model.specs.Paths.{Path}
use Rattle.herm_model.specs.Values.{Kind, a_scalar, a_record, a_variant, a_table, a_polymorph, a_callmessage, an_inport, an_outport, Cell, cell, Parts, no_parts, gap, part, part_at, set_part, kind_of, read_at, readable_of, change_part, change_behind, change_from, change_readable}
use Rattle.herm_model.proofs.Options.{some-injective}
use Rattle.herm_places.specs.Held.{keyed_places, read_in, change_in}
use Rattle.herm_places.proofs.Changed.{set_here, get_past}
use Rattle.herm_places.proofs.Read.{part-at, keyed_get, none_in, none_read, some_read, none_read_at, some_read_at, in_fields, in_call, component-at, no-component}
use Rattle.herm_values.specs.Keyed.{keyed_view, keyed_of}
use Rattle.herm_values.specs.declared.value.Value.{Value, Fields, Case, Call, Table as a_held_table}
use Rattle.herm_values.specs.declared.value.Table.{Table}
use Rattle.herm_values.proofs.Forgotten.{fields_keyed, call_keyed, table_keyed}
use Rattle.herm_values.proofs.Wholes.{fields-whole, call-whole, whole-fields, whole-call}

module _ {N : Type 0} where
  set-own : (i : ℕ) (ps : Parts N) → part_at i ps ≡ None → set_part i None ps ≡ ps
  set-own i no_parts h = refl
  set-own zero (gap ps) h = refl
  set-own zero (part c ps) h = cc
  set-own (suc i) (gap ps) h = ap gap (set-own i ps h)
  set-own (suc i) (part c ps) h = ap (part c) (set-own i ps h)

  -- a change that leaves the cell there as it is
  change-own : (i : ℕ) (g : Cell N → Cell N) (ps : Parts N) → ((d : Cell N) → part_at i ps ≡ Some d → g d ≡ d) → change_part i g ps ≡ ps
  change-own i g no_parts h = refl
  change-own zero g (gap ps) h = refl
  change-own zero g (part c ps) h = ap (λ d. part d ps) (h c refl)
  change-own (suc i) g (gap ps) h = ap gap (change-own i g ps h)
  change-own (suc i) g (part c ps) h = ap (part c) (change-own i g ps h)

  first-step : (i : ℕ) (p : Path) (w : Cell N) (ps : Parts N) → change_from (i ∷ p) (λ d. w) 0 ps ≡ change_part i (change_in p w) ps
  first-step i [] w ps = refl
  first-step i (j ∷ p) w ps = refl

  set-changed : (i : ℕ) (g : Cell N → Cell N) (c d : Cell N) (ps : Parts N) → part_at i ps ≡ Some d → c ≡ g d → set_part i (Some c) (set_part i None ps) ≡ change_part i g ps
  set-changed i g c d no_parts at is = cc
  set-changed zero g c d (gap ps) at is = cc
  set-changed zero g c d (part e ps) at is = ap (λ c. part c ps) (is ∙ ap g (sym (some-injective at)))
  set-changed (suc i) g c d (gap ps) at is = ap gap (set-changed i g c d ps at is)
  set-changed (suc i) g c d (part e ps) at is = ap (part e) (set-changed i g c d ps at is)

  component-changed : (i : ℕ) (g : Cell N → Cell N) (c : Cell N) → change_behind i i g (part c no_parts) ≡ part (g c) no_parts
  component-changed zero g c = refl
  component-changed (suc i) g c = component-changed i g c

  other-component : (i j : ℕ) (g : Cell N → Cell N) (c : Cell N) → (i ≡ j → ⊥) → change_behind i j g (part c no_parts) ≡ part c no_parts
  other-component zero zero g c apart = absurd (apart refl)
  other-component zero (suc j) g c apart = refl
  other-component (suc i) zero g c apart = refl
  other-component (suc i) (suc j) g c apart = other-component i j g c (λ e. apart (ap suc e))

  first-behind : (i j : ℕ) (p : Path) (w : Cell N) (ps : Parts N) → change_from (j ∷ p) (λ d. w) i ps ≡ change_behind i j (change_in p w) ps
  first-behind i j [] w ps = refl
  first-behind i j (k ∷ p) w ps = refl

place_read : (vs : List (Option Value)) (i : ℕ) → part_at i (keyed_places vs) ≡ option_map keyed_view (get_or vs i None)
place_read vs i = part-at i (keyed_of vs) ∙ keyed_get vs i

-- nothing is there
unchanged : (vs : List (Option Value)) (i : ℕ) (p : Path) (w : Cell (List ℕ)) → None ≡ get_or vs i None → keyed_places vs ≡ change_from (i ∷ p) (λ d. w) 0 (keyed_places vs)
unchanged vs i p w none =
    sym (change-own i (change_in p w) (keyed_places vs) (λ d at. let e : None ≡ Some d = sym (place_read vs i ∙ ap (option_map keyed_view) (sym none)) ∙ at in cc (e)))
    ∙ sym (first-step i p w (keyed_places vs))

pub exchanged_past : (vs : List (Option Value)) (i : ℕ) (p : Path) (w : Cell (List ℕ)) → length vs ≤ i → keyed_places vs ≡ change_from (i ∷ p) (λ d. w) 0 (keyed_places vs)
exchanged_past vs i p w past = unchanged vs i p w (sym (get_past vs i past))

pub exchanged_none : (vs new : List (Option Value)) (i : ℕ) (p : Path) (w : Cell (List ℕ)) → None ≡ get_or vs i None → new ≡ slice_set vs i None → keyed_places new ≡ change_from (i ∷ p) (λ d. w) 0 (keyed_places vs)
exchanged_none vs new i p w none is =
    set_here vs new i None is
    ∙ set-own i (keyed_places vs) (place_read vs i ∙ ap (option_map keyed_view) (sym none))
    ∙ unchanged vs i p w none

pub exchanged_some : (vs mid new : List (Option Value)) (i : ℕ) (p : Path) (w : Cell (List ℕ)) (outer left : Value) → Some outer ≡ get_or vs i None → mid ≡ slice_set vs i None → new ≡ slice_set mid i (Some left) → keyed_view left ≡ change_in p w (keyed_view outer)
    → keyed_places new ≡ change_from (i ∷ p) (λ d. w) 0 (keyed_places vs)
exchanged_some vs mid new i p w outer left at first last changed =
    set_here mid new i (Some left) last
    ∙ ap (set_part i (Some (keyed_view left))) (set_here vs mid i None first)
    ∙ set-changed i (change_in p w) (keyed_view left) (keyed_view outer) (keyed_places vs) (place_read vs i ∙ ap (option_map keyed_view) (sym at)) changed
    ∙ sym (first-step i p w (keyed_places vs))

-- inside a value
pub fields_exchanged : (v : Value) (x new : Vec (Option Value) Global) (j : ℕ) (p : Path) (w : Cell (List ℕ)) → v ≡ Fields x → keyed_places new.items ≡ change_from (j ∷ p) (λ d. w) 0 (keyed_places x.items) → keyed_view (Fields new) ≡ change_in (j ∷ p) w (keyed_view v)
fields_exchanged v x new j p w is changed = fields_keyed (Fields new) new refl ∙ ap (cell [] a_record) changed ∙ sym (ap (change_in (j ∷ p) w) (fields_keyed v x is))

pub call_exchanged : (v : Value) (x new : CallMsg Value) (j : ℕ) (p : Path) (w : Cell (List ℕ)) → v ≡ Call x → new.caller ≡ x.caller → new.call ≡ x.call → keyed_places new.params.items ≡ change_from (j ∷ p) (λ d. w) 0 (keyed_places x.params.items) → keyed_view (Call new) ≡ change_in (j ∷ p) w (keyed_view v)
call_exchanged v x new j p w is by number changed =
    call_keyed (Call new) new refl
    ∙ ap₂ (λ caller call. cell [] (a_callmessage caller call) (keyed_places new.params.items)) (ap (λ c. c.number) by) number
    ∙ ap (cell [] (a_callmessage x.caller.number x.call)) changed
    ∙ sym (ap (change_in (j ∷ p) w) (call_keyed v x is))

pub case_exchanged : (v : Value) (k j : ℕ) (x new : Box Value Global) (p : Path) (w : Cell (List ℕ)) → v ≡ Case k x → k ≡ j → keyed_view new.value ≡ change_in p w (keyed_view x.value) → keyed_view (Case k new) ≡ change_in (j ∷ p) w (keyed_view v)
case_exchanged v k j x new p w is same changed =
    ap (λ c. cell [] (a_variant k) (part c no_parts)) changed
    ∙ ap (cell [] (a_variant k)) (sym (component-changed k (change_in p w) (keyed_view x.value)) ∙ ap (λ j. change_behind k j (change_in p w) (part (keyed_view x.value) no_parts)) same ∙ sym (first-behind k j p w (part (keyed_view x.value) no_parts)))
    ∙ sym (ap (λ v. change_in (j ∷ p) w (keyed_view v)) is)

pub case_kept : (v : Value) (k j : ℕ) (x : Box Value Global) (p : Path) (w : Cell (List ℕ)) → v ≡ Case k x → (k ≡ j → ⊥) → keyed_view (Case k x) ≡ change_in (j ∷ p) w (keyed_view v)
case_kept v k j x p w is apart =
    ap (cell [] (a_variant k)) (sym (other-component k j (change_in p w) (keyed_view x.value) apart) ∙ sym (first-behind k j p w (part (keyed_view x.value) no_parts)))
    ∙ sym (ap (λ v. change_in (j ∷ p) w (keyed_view v)) is)

-- what has nothing to read in it
abbrev pub is_shut : Kind → Bool
is_shut (a_scalar s) = true
is_shut a_record = false
is_shut (a_variant c) = false
is_shut a_table = true
is_shut (a_polymorph t) = true
is_shut (a_callmessage caller call) = false
is_shut (an_inport port) = true
is_shut (an_outport port) = true

module _ {N : Type 0} where
  shut-kept : (c : Cell N) (f : ℕ → Parts N → Parts N) → is_shut (kind_of c) ≡ true → change_readable f c ≡ c
  shut-kept (cell n (a_scalar s) ps) f h = refl
  shut-kept (cell n a_record ps) f h = cc
  shut-kept (cell n (a_variant c) ps) f h = cc
  shut-kept (cell n a_table ps) f h = refl
  shut-kept (cell n (a_polymorph t) ps) f h = refl
  shut-kept (cell n (a_callmessage caller call) ps) f h = cc
  shut-kept (cell n (an_inport port) ps) f h = refl
  shut-kept (cell n (an_outport port) ps) f h = refl

  shut-empty : (c : Cell N) → is_shut (kind_of c) ≡ true → readable_of (Some c) ≡ no_parts
  shut-empty (cell n (a_scalar s) ps) h = refl
  shut-empty (cell n a_record ps) h = cc
  shut-empty (cell n (a_variant c) ps) h = cc
  shut-empty (cell n a_table ps) h = refl
  shut-empty (cell n (a_polymorph t) ps) h = refl
  shut-empty (cell n (a_callmessage caller call) ps) h = cc
  shut-empty (cell n (an_inport port) ps) h = refl
  shut-empty (cell n (an_outport port) ps) h = refl

  nothing-read : (j : ℕ) (p : Path) → read_at {N = N} (j ∷ p) no_parts ≡ None
  nothing-read j [] = refl
  nothing-read j (k ∷ p) = nothing-read k p

abbrev pub IsShut : Value → Type 0
IsShut v = is_shut (kind_of (keyed_view v)) ≡ true

pub kept_shut : (v w : Value) (j : ℕ) (p : Path) (u : Cell (List ℕ)) → v ≡ w → IsShut w → keyed_view w ≡ change_in (j ∷ p) u (keyed_view v)
kept_shut v w j p u is h = sym (shut-kept (keyed_view w) (change_from (j ∷ p) (λ d. u)) h) ∙ ap (λ v. change_in (j ∷ p) u (keyed_view v)) (sym is)

pub empty_shut : (v w : Value) (j : ℕ) (p : Path) → v ≡ w → IsShut w → None ≡ read_in (j ∷ p) (keyed_view v)
empty_shut v w j p is h = sym (nothing-read j p) ∙ ap (read_at (j ∷ p)) (sym (shut-empty (keyed_view w) h)) ∙ ap (λ v. read_in (j ∷ p) (keyed_view v)) (sym is)

pub table_shut : (x : Box Table Global) → IsShut (a_held_table x)
table_shut x = ap (λ c. is_shut (kind_of c)) (table_keyed (a_held_table x) x refl)

pub fields_read : (v : Value) (x : Vec (Option Value) Global) (j : ℕ) (p : Path) → v ≡ Fields x → read_at (j ∷ p) (keyed_places x.items) ≡ read_in (j ∷ p) (keyed_view v)
fields_read v x j p is = sym (ap (read_in (j ∷ p)) (fields_keyed v x is))

pub call_read : (v : Value) (x : CallMsg Value) (j : ℕ) (p : Path) → v ≡ Call x → read_at (j ∷ p) (keyed_places x.params.items) ≡ read_in (j ∷ p) (keyed_view v)
call_read v x j p is = sym (ap (read_in (j ∷ p)) (call_keyed v x is))

pub case_read : (v : Value) (k j : ℕ) (x : Box Value Global) (p : Path) (o : Option (Cell (List ℕ))) → v ≡ Case k x → k ≡ j → o ≡ read_in p (keyed_view x.value) → o ≡ read_in (j ∷ p) (keyed_view v)
case_read v k j x p o is same h =
    some_read (keyed_view (Case k x)) (keyed_view x.value) j p o (component-at k (keyed_view x.value) ∙ ap (λ i. part_at i (readable_of (Some (keyed_view (Case k x))))) same) h
    ∙ ap (λ v. read_in (j ∷ p) (keyed_view v)) (sym is)

pub case_not_read : (v : Value) (k j : ℕ) (x : Box Value Global) (p : Path) → v ≡ Case k x → (k ≡ j → ⊥) → None ≡ read_in (j ∷ p) (keyed_view v)
case_not_read v k j x p is apart = none_read (keyed_view (Case k x)) j p (no-component j k (keyed_view x.value) apart) ∙ ap (λ v. read_in (j ∷ p) (keyed_view v)) (sym is)

pub ruleset exchanging = (exchanged_past, exchanged_none, exchanged_some, fields_exchanged, call_exchanged, case_exchanged, case_kept, kept_shut, empty_shut, table_shut, fields_read, call_read, case_read, case_not_read, none_read_at, some_read_at, keyed_get, get_past, fields-whole, call-whole, whole-fields, whole-call)

pub case_changed : (v : Value) (k j : ℕ) (x : Box Value Global) (inner left : Value) (p rest : Path) (w : Cell (List ℕ)) → v ≡ Case k x → k ≡ j → rest ≡ j ∷ p → inner ≡ x.value → keyed_view left ≡ change_in p w (keyed_view inner) → cell [] (a_variant k) (part (keyed_view left) no_parts) ≡ change_in rest w (keyed_view v)
case_changed v k j x inner left p rest w is same steps was changed =
    ap (λ c. cell [] (a_variant k) (part c no_parts)) (changed ∙ ap (λ d. change_in p w (keyed_view d)) was)
    ∙ ap (cell [] (a_variant k)) (sym (component-changed k (change_in p w) (keyed_view x.value)) ∙ ap (λ j. change_behind k j (change_in p w) (part (keyed_view x.value) no_parts)) same ∙ sym (first-behind k j p w (part (keyed_view x.value) no_parts)))
    ∙ sym (ap (λ v. change_in (j ∷ p) w (keyed_view v)) is)
    ∙ ap (λ r. change_in r w (keyed_view v)) (sym steps)

pub case_unchanged : (v : Value) (k j : ℕ) (x : Box Value Global) (p rest : Path) (w : Cell (List ℕ)) → v ≡ Case k x → (k ≡ j → ⊥) → rest ≡ j ∷ p → cell [] (a_variant k) (part (keyed_view x.value) no_parts) ≡ change_in rest w (keyed_view v)
case_unchanged v k j x p rest w is apart steps = case_kept v k j x p w is apart ∙ ap (λ r. change_in r w (keyed_view v)) (sym steps)

pub read_past : (vs : List (Option Value)) (i : ℕ) (p : Path) → None ≡ get_or vs i None → None ≡ read_at (i ∷ p) (keyed_places vs)
read_past vs i p none = none_read_at (keyed_of vs) i p (sym (keyed_get vs i ∙ ap (option_map keyed_view) (sym none)))

pub read_there : (vs : List (Option Value)) (i : ℕ) (p : Path) (d : Value) (o : Option (Cell (List ℕ))) → Some d ≡ get_or vs i None → o ≡ read_in p (keyed_view d) → o ≡ read_at (i ∷ p) (keyed_places vs)
read_there vs i p d o some h = some_read_at (keyed_of vs) (keyed_view d) i p o (sym (keyed_get vs i ∙ ap (option_map keyed_view) (sym some))) h
