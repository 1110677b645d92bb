-- What stands at a path, one step further.
use Rattle.std.proofs.Common.{◌≡◌, ℕ, zero, suc, List, [], ◌∷◌, Option, Some, None, refl, sym, ap, ◌∙◌}
use Rattle.std.specs.Prelude.{⊤}
use Rattle.herm_model.specs.Values as model
use Rattle.herm_model.specs.Values.{part, no_parts, part_at, inside, cell_at, read_at, readable_of, behind_gaps, Parts}

pub at-none : (i : ℕ) (p : List ℕ) (ps : Parts ⊤) → part_at i ps ≡ None → cell_at (i ∷ p) ps ≡ None
at-none i [] ps h = h
at-none i (j ∷ []) ps h = ap (λ o. part_at j (inside o)) h
at-none i (j ∷ k ∷ p) ps h = ap (λ o. cell_at (j ∷ k ∷ p) (inside o)) h ∙ at-none j (k ∷ p) no_parts refl

at-some : (i : ℕ) (p : List ℕ) (c : model.Value) (ps : Parts ⊤) → part_at i ps ≡ Some c → cell_at (i ∷ p) ps ≡ cell_at (0 ∷ p) (part c no_parts)
at-some i [] c ps h = h
at-some i (j ∷ p) c ps h = ap (λ o. cell_at (j ∷ p) (inside o)) h

-- nothing is behind a part that is not there
pub step-none : (v : model.Value) (i : ℕ) (p : List ℕ) → None ≡ part_at i (inside (Some v)) → None ≡ cell_at (0 ∷ i ∷ p) (part v no_parts)
step-none v i p h = sym (at-none i p (inside (Some v)) (sym h))

-- behind a part stands what the part has
pub step-some : (v c : model.Value) (i : ℕ) (p : List ℕ) (o : Option model.Value) → Some c ≡ part_at i (inside (Some v)) → o ≡ cell_at (0 ∷ p) (part c no_parts) → o ≡ cell_at (0 ∷ i ∷ p) (part v no_parts)
step-some v c i p o h there = there ∙ sym (at-some i p c (inside (Some v)) (sym h))

-- the same where components are passed through
read-none : (i : ℕ) (p : List ℕ) (ps : Parts ⊤) → part_at i ps ≡ None → read_at (i ∷ p) ps ≡ None
read-none i [] ps h = h
read-none i (j ∷ []) ps h = ap (λ o. part_at j (readable_of o)) h
read-none i (j ∷ k ∷ p) ps h = ap (λ o. read_at (j ∷ k ∷ p) (readable_of o)) h ∙ read-none j (k ∷ p) no_parts refl

read-some : (i : ℕ) (p : List ℕ) (c : model.Value) (ps : Parts ⊤) → part_at i ps ≡ Some c → read_at (i ∷ p) ps ≡ read_at (0 ∷ p) (part c no_parts)
read-some i [] c ps h = h
read-some i (j ∷ p) c ps h = ap (λ o. read_at (j ∷ p) (readable_of o)) h

pub through-none : (v : model.Value) (i : ℕ) (p : List ℕ) → None ≡ part_at i (readable_of (Some v)) → None ≡ read_at (0 ∷ i ∷ p) (part v no_parts)
through-none v i p h = sym (read-none i p (readable_of (Some v)) (sym h))

pub through-some : (v c : model.Value) (i : ℕ) (p : List ℕ) (o : Option model.Value) → Some c ≡ part_at i (readable_of (Some v)) → o ≡ read_at (0 ∷ p) (part c no_parts) → o ≡ read_at (0 ∷ i ∷ p) (part v no_parts)
through-some v c i p o h there = there ∙ sym (read-some i p c (readable_of (Some v)) (sym h))

-- a component stands at its own place alone
pub component-at : (i : ℕ) (c : model.Value) → Some c ≡ part_at i (behind_gaps i (part c no_parts))
component-at zero c = refl
component-at (suc i) c = component-at i c

pub no-component : (i j : ℕ) (c : model.Value) → (j ≡ i → ⊥) → None ≡ part_at i (behind_gaps j (part c no_parts))
no-component zero zero c other = absurd (other refl)
no-component zero (suc j) c other = refl
no-component (suc i) zero c other = refl
no-component (suc i) (suc j) c other = no-component i j c (λ e. other (ap suc e))

-- another variable than the first has nothing
pub nothing-at : (i : ℕ) (p : List ℕ) (c : model.Value) → (i ≡ 0 → ⊥) → None ≡ cell_at (i ∷ p) (part c no_parts)
nothing-at zero p c other = absurd (other refl)
nothing-at (suc i) p c other = sym (at-none (suc i) p (part c no_parts) refl)

pub nothing-read : (i : ℕ) (p : List ℕ) (c : model.Value) → (i ≡ 0 → ⊥) → None ≡ read_at (i ∷ p) (part c no_parts)
nothing-read zero p c other = absurd (other refl)
nothing-read (suc i) p c other = sym (read-none (suc i) p (part c no_parts) refl)

pub ruleset steps = (step-none, step-some, through-none, through-some, component-at, no-component, nothing-at, nothing-read)
