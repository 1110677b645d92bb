-- What is read at a path, one step further.
use Rattle.std.proofs.Common.{◌≡◌, ℕ, zero, suc, List, [], ◌∷◌, Option, Some, None, option_map, get_or, true, cond, refl, sym, ap, ◌∙◌, Vec, Global}
use Rattle.std.proofs.Math.ListN as lists
use Rattle.herm_parcels.specs.declared.call.CallMsg.{CallMsg}
use Rattle.herm_model.specs.Values as model
use Rattle.herm_model.specs.Values.{Kind, Cell, Parts, cell, no_parts, gap, part, part_at, inside, opens, readable, readable_of, cell_at, read_at, behind_gaps}
use Rattle.herm_values.specs.Parts.{parts_from}
use Rattle.herm_values.specs.Keyed.{keyed_view, keyed_of}
use Rattle.herm_values.specs.declared.value.Value.{Value, Fields, Call}
use Rattle.herm_values.proofs.Forgotten.{fields_keyed, call_keyed}
use Rattle.herm_values.proofs.Wholes.{fields-whole, call-whole}
use Rattle.herm_places.specs.Held.{cell_in, read_in}

module _ {N : Type 0} where
  -- a place of parts is the place of their list
  pub part-at : (i : ℕ) (os : List (Option (Cell N))) → part_at i (parts_from os) ≡ get_or os i None
  part-at i [] = refl
  part-at zero (None ∷ os) = refl
  part-at zero (Some c ∷ os) = refl
  part-at (suc i) (None ∷ os) = part-at i os
  part-at (suc i) (Some c ∷ os) = part-at i os

  cell-none : (j : ℕ) (p : List ℕ) (ps : Parts N) → part_at j ps ≡ None → cell_at (j ∷ p) ps ≡ None
  cell-none j [] ps h = h
  cell-none j (k ∷ []) ps h = ap (λ o. part_at k (inside o)) h
  cell-none j (k ∷ l ∷ p) ps h = ap (λ o. cell_at (k ∷ l ∷ p) (inside o)) h ∙ cell-none k (l ∷ p) no_parts refl

  cell-some : (j : ℕ) (p : List ℕ) (d : Cell N) (ps : Parts N) → part_at j ps ≡ Some d → cell_at (j ∷ p) ps ≡ cell_in p d
  cell-some j [] d ps h = h
  cell-some j (k ∷ p) d ps h = ap (λ o. cell_at (k ∷ p) (inside o)) h

  read-none : (j : ℕ) (p : List ℕ) (ps : Parts N) → part_at j ps ≡ None → read_at (j ∷ p) ps ≡ None
  read-none j [] ps h = h
  read-none j (k ∷ []) ps h = ap (λ o. part_at k (readable_of o)) h
  read-none j (k ∷ l ∷ p) ps h = ap (λ o. read_at (k ∷ l ∷ p) (readable_of o)) h ∙ read-none k (l ∷ p) no_parts refl

  read-some : (j : ℕ) (p : List ℕ) (d : Cell N) (ps : Parts N) → part_at j ps ≡ Some d → read_at (j ∷ p) ps ≡ read_in p d
  read-some j [] d ps h = h
  read-some j (k ∷ p) d ps h = ap (λ o. read_at (k ∷ p) (readable_of o)) h

  -- nothing is behind a part that is not there, and behind a part stands what it has
  pub none_in : (c : Cell N) (j : ℕ) (p : List ℕ) → None ≡ part_at j (inside (Some c)) → None ≡ cell_in (j ∷ p) c
  none_in c j p h = sym (cell-none j p (inside (Some c)) (sym h))

  pub some_in : (c d : Cell N) (j : ℕ) (p : List ℕ) (o : Option (Cell N)) → Some d ≡ part_at j (inside (Some c)) → o ≡ cell_in p d → o ≡ cell_in (j ∷ p) c
  some_in c d j p o h there = there ∙ sym (cell-some j p d (inside (Some c)) (sym h))

  pub none_read : (c : Cell N) (j : ℕ) (p : List ℕ) → None ≡ part_at j (readable_of (Some c)) → None ≡ read_in (j ∷ p) c
  none_read c j p h = sym (read-none j p (readable_of (Some c)) (sym h))

  pub some_read : (c d : Cell N) (j : ℕ) (p : List ℕ) (o : Option (Cell N)) → Some d ≡ part_at j (readable_of (Some c)) → o ≡ read_in p d → o ≡ read_in (j ∷ p) c
  some_read c d j p o h there = there ∙ sym (read-some j p d (readable_of (Some c)) (sym h))

  -- the same of places
  pub none_at : (os : List (Option (Cell N))) (j : ℕ) (p : List ℕ) → None ≡ get_or os j None → None ≡ cell_at (j ∷ p) (parts_from os)
  none_at os j p h = sym (cell-none j p (parts_from os) (part-at j os ∙ sym h))

  pub some_at : (os : List (Option (Cell N))) (d : Cell N) (j : ℕ) (p : List ℕ) (o : Option (Cell N)) → Some d ≡ get_or os j None → o ≡ cell_in p d → o ≡ cell_at (j ∷ p) (parts_from os)
  some_at os d j p o h there = there ∙ sym (cell-some j p d (parts_from os) (part-at j os ∙ sym h))

  pub none_read_at : (os : List (Option (Cell N))) (j : ℕ) (p : List ℕ) → None ≡ get_or os j None → None ≡ read_at (j ∷ p) (parts_from os)
  none_read_at os j p h = sym (read-none j p (parts_from os) (part-at j os ∙ sym h))

  pub some_read_at : (os : List (Option (Cell N))) (d : Cell N) (j : ℕ) (p : List ℕ) (o : Option (Cell N)) → Some d ≡ get_or os j None → o ≡ read_in p d → o ≡ read_at (j ∷ p) (parts_from os)
  some_read_at os d j p o h there = there ∙ sym (read-some j p d (parts_from os) (part-at j os ∙ sym h))

  -- a component stands at its own place alone
  pub component-at : (i : ℕ) (c : Cell N) → Some c ≡ part_at i (behind_gaps i (part c no_parts))
  component-at zero c = refl
  component-at (suc i) c = component-at i c

  pub no-component : (i j : ℕ) (c : Cell N) → (j ≡ i → ⊥) → None ≡ part_at i (behind_gaps j (part c no_parts))
  no-component zero zero c other = absurd (other refl)
  no-component zero (suc j) c other = refl
  no-component (suc i) zero c other = refl
  no-component (suc i) (suc j) c other = no-component i j c (λ e. other (ap suc e))

  -- what a record or a callmessage has at a place
  field-of : (v : Cell N) (n : N) (k : Kind) (os : List (Option (Cell N))) (i : ℕ) → v ≡ cell n k (parts_from os) → opens k ≡ true → get_or os i None ≡ part_at i (inside (Some v))
  field-of v n k os i is open' = sym (part-at i os) ∙ ap (λ b. part_at i (cond b (parts_from os) no_parts)) (sym open') ∙ ap (λ x. part_at i (inside (Some x))) (sym is)

-- places of the code
pub keyed_get : (vs : List (Option Value)) (i : ℕ) → get_or (keyed_of vs) i None ≡ option_map keyed_view (get_or vs i None)
keyed_get vs i = lists.get_or-map (option_map keyed_view) vs i None

pub in_fields : (v : Value) (x : Vec (Option Value) Global) (i : ℕ) → v ≡ Fields x → option_map keyed_view (get_or x.items i None) ≡ part_at i (inside (Some (keyed_view v)))
in_fields v x i is = sym (keyed_get x.items i) ∙ field-of (keyed_view v) [] model.a_record (keyed_of x.items) i (fields_keyed v x is) refl

pub in_call : (v : Value) (x : CallMsg Value) (i : ℕ) → v ≡ Call x → option_map keyed_view (get_or x.params.items i None) ≡ part_at i (inside (Some (keyed_view v)))
in_call v x i is = sym (keyed_get x.params.items i) ∙ field-of (keyed_view v) [] (model.a_callmessage x.caller.number x.call) (keyed_of x.params.items) i (call_keyed v x is) refl

pub ruleset fields = (in_fields, in_call, fields-whole, call-whole, component-at, no-component)

pub ruleset steps = (none_in, some_in, none_read, some_read)

pub ruleset starts = (none_at, some_at, none_read_at, some_read_at, keyed_get)
