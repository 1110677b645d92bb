-- What tests of the shape of a type say.
use Rattle.std.proofs.Common.{◌≡◌, ◌<◌, ◌≤◌, ◌⊎◌, inl, inr, ℕ, zero, suc, Bool, true, false, not, ◌||◌, ◌&&◌, nat_lt, List, [], ◌∷◌, length, map, Option, Some, None, option_map, slice_get, IsTrue, is_some, refl, sym, ◌∙◌, ap, subst, arith, true≢false}
use Rattle.std.proofs.lemmas.Option.{slice_get_within}
use Rattle.std.proofs.lemmas.Bool.{ltb-true, ltb-false}
use denote.Bor.{Bor}
use Rattle.herm_model.specs.Lists.{map_or, all_pass}
use Rattle.herm_model.specs.Paths.{Fact}
use Rattle.herm_model.specs.Types.{TypeTable, Shape, boolean, integer, text, polymorph, names, fields, cases, rows, inport, outport, callmessage, named_types, is_within_depth, greatest_depth}
use Rattle.herm_model.specs.TypedExpressions.{HasShape, is_scalar_shape}
use Rattle.herm_model.specs.WellFormedTables.{IsType}
use Rattle.herm_syntax.specs.Trees.{Letters}
use Rattle.herm_types.specs.declared.shape.Shape.{Shape as Code}
use Rattle.herm_types.specs.View.{shape_view}
use Rattle.herm_meaning.specs.Names.{NamedTable}
use Rattle.herm_meaning.specs.Walks.{place_of, parts_of}
use Rattle.herm_meaning.specs.DefinitionFaults.{IsNoRecord, IsNoKey, IsSettled, itself}
use Rattle.herm_graph.specs.Depth.{IsBeyond}
use Rattle.herm_graph.specs.Tells.{Tells, Refutes}
use Rattle.herm_defs.specs.Plain.{is_record, is_inport, passes, no_key}

-- a shape that was read
pub read-shape : (f : Shape → Bool) (table : TypeTable) (t : ℕ) (o : Option (Bor Code)) → option_map (λ (s : Bor Code). shape_view s.now) o ≡ slice_get table t → (s : Bor Code) → o ≡ Some s → f (shape_view s.now) ≡ passes f table t
read-shape f table t o e s is = ap (λ x. map_or false f x) {x = Some (shape_view s.now)} (ap (option_map (λ (x : Bor Code). shape_view x.now)) (sym is) ∙ e)

pub no-shape : (f : Shape → Bool) (table : TypeTable) (t : ℕ) (o : Option (Bor Code)) → option_map (λ (s : Bor Code). shape_view s.now) o ≡ slice_get table t → o ≡ None → false ≡ passes f table t
no-shape f table t o e is = ap (λ x. map_or false f x) {x = None} (ap (option_map (λ (x : Bor Code). shape_view x.now)) (sym is) ∙ e)

some-same : {X : Type 0} {a b : X} → Some a ≡ Some b → a ≡ b
some-same h = cc

none-some : {X Y : Type 0} {a : X} → None ≡ Some a → Y
none-some h = absurd cc

pub no-record : (table : NamedTable) (t : ℕ) → Tells (not (passes is_record table.shapes t)) (IsNoRecord table t)
no-record table t = by (slice_get table.shapes t) refl
  where
    by : (o : Option Shape) → slice_get table.shapes t ≡ o → Tells (not (map_or false is_record o)) ((ts : List ℕ) → slice_get table.shapes t ≡ Some (fields ts) → ⊥)
    by None e = λ ts h. none-some (sym e ∙ h)
    by (Some boolean) e = λ ts h. absurd cc
    by (Some integer) e = λ ts h. absurd cc
    by (Some text) e = λ ts h. absurd cc
    by (Some polymorph) e = λ ts h. absurd cc
    by (Some (names count)) e = λ ts h. absurd cc
    by (Some (fields us)) e = λ none. none us e
    by (Some (cases us)) e = λ ts h. absurd cc
    by (Some (rows row key)) e = λ ts h. absurd cc
    by (Some (inport message declared)) e = λ ts h. absurd cc
    by (Some (outport port)) e = λ ts h. absurd cc
    by (Some (callmessage ps raises)) e = λ ts h. absurd cc

pub no-inport : (table : NamedTable) (t : ℕ) → Tells (not (passes is_inport table.shapes t)) ((message : ℕ) (declared : List Fact) → HasShape table.shapes t (inport message declared) → ⊥)
no-inport table t = by (slice_get table.shapes t) refl
  where
    by : (o : Option Shape) → slice_get table.shapes t ≡ o → Tells (not (map_or false is_inport o)) ((message : ℕ) (declared : List Fact) → slice_get table.shapes t ≡ Some (inport message declared) → ⊥)
    by None e = λ m d h. none-some (sym e ∙ h)
    by (Some boolean) e = λ m d h. absurd cc
    by (Some integer) e = λ m d h. absurd cc
    by (Some text) e = λ m d h. absurd cc
    by (Some polymorph) e = λ m d h. absurd cc
    by (Some (names count)) e = λ m d h. absurd cc
    by (Some (fields us)) e = λ m d h. absurd cc
    by (Some (cases us)) e = λ m d h. absurd cc
    by (Some (rows row key)) e = λ m d h. absurd cc
    by (Some (inport message declared)) e = λ none. none message declared e
    by (Some (outport port)) e = λ m d h. absurd cc
    by (Some (callmessage ps raises)) e = λ m d h. absurd cc

-- ---- keys

past-end : {X : Type 0} (xs : List X) (i : ℕ) → slice_get xs i ≡ None → length xs ≤ i
past-end [] i e = omega arith
past-end (x ∷ xs) zero e = none-some (sym e)
past-end (x ∷ xs) (suc i) e = omega (arith, past-end xs i e)

scalar-at : (table : TypeTable) (ts : List ℕ) (i t : ℕ) → slice_get ts i ≡ Some t → Tells (passes (λ s. not (is_scalar_shape s)) table t) ((length ts ≤ i) ⊎ ((u : ℕ) × (s : Shape) × (slice_get ts i ≡ Some u) × HasShape table u s × (is_scalar_shape s ≡ false)))
scalar-at table ts i t e = by (slice_get table t) refl
  where
    by : (o : Option Shape) → slice_get table t ≡ o → Tells (map_or false (λ s. not (is_scalar_shape s)) o) ((length ts ≤ i) ⊎ ((u : ℕ) × (s : Shape) × (slice_get ts i ≡ Some u) × (slice_get table u ≡ Some s) × (is_scalar_shape s ≡ false)))
    by None h = no
      where
        no : ((length ts ≤ i) ⊎ ((u : ℕ) × (s : Shape) × (slice_get ts i ≡ Some u) × (slice_get table u ≡ Some s) × (is_scalar_shape s ≡ false))) → ⊥
        no (inl l) = omega (arith, l, slice_get_within ts i t e)
        no (inr r) = none-some (sym h ∙ (ap (slice_get table) (some-same (sym e ∙ r.2)) ∙ r.3))
    by (Some s) h = which (is_scalar_shape s) refl
      where
        which : (b : Bool) → is_scalar_shape s ≡ b → Tells (not b) ((length ts ≤ i) ⊎ ((u : ℕ) × (s' : Shape) × (slice_get ts i ≡ Some u) × (slice_get table u ≡ Some s') × (is_scalar_shape s' ≡ false)))
        which false q = inr (t, s, e, h, q)
        which true q = no
          where
            no : ((length ts ≤ i) ⊎ ((u : ℕ) × (s' : Shape) × (slice_get ts i ≡ Some u) × (slice_get table u ≡ Some s') × (is_scalar_shape s' ≡ false))) → ⊥
            no (inl l) = omega (arith, l, slice_get_within ts i t e)
            no (inr r) = true≢false (sym q ∙ (ap is_scalar_shape (some-same (sym h ∙ (ap (slice_get table) (some-same (sym e ∙ r.2)) ∙ r.3))) ∙ r.4))

key-of : (table : TypeTable) (ts : List ℕ) (i : ℕ) → Tells (no_key table (fields ts) i) ((length ts ≤ i) ⊎ ((u : ℕ) × (s : Shape) × (slice_get ts i ≡ Some u) × HasShape table u s × (is_scalar_shape s ≡ false)))
key-of table ts i = by (slice_get ts i) refl
  where
    by : (o : Option ℕ) → slice_get ts i ≡ o → Tells (map_or true (λ t. passes (λ s. not (is_scalar_shape s)) table t) o) ((length ts ≤ i) ⊎ ((u : ℕ) × (s : Shape) × (slice_get ts i ≡ Some u) × HasShape table u s × (is_scalar_shape s ≡ false)))
    by None e = inl (past-end ts i e)
    by (Some t) e = scalar-at table ts i t e

told-some : (P : List ℕ → Type 0) (table : TypeTable) (row : ℕ) (ts : List ℕ) (b : Bool) → slice_get table row ≡ Some (fields ts) → Tells b (P ts) → Tells b ((us : List ℕ) × HasShape table row (fields us) × P us)
told-some P table row ts true e t = (ts, e, t)
told-some P table row ts false e t = λ r. t (subst P (fields-same (some-same (sym r.1 ∙ e))) r.2)
  where
    fields-same : {us vs : List ℕ} → fields us ≡ fields vs → us ≡ vs
    fields-same h = cc

pub no-key : (table : NamedTable) (row place : ℕ) (name : Letters) → place ≡ place_of (parts_of table row) name → Tells (passes (λ s. no_key table.shapes s place) table.shapes row) ((ts : List ℕ) × HasShape table.shapes row (fields ts) × IsNoKey table row ts name)
no-key table row place name e =
    subst (λ i. Tells (passes (λ s. no_key table.shapes s i) table.shapes row) ((ts : List ℕ) × HasShape table.shapes row (fields ts) × IsNoKey table row ts name)) (sym e) (by (slice_get table.shapes row) refl)
  where
    by : (o : Option Shape) → slice_get table.shapes row ≡ o → Tells (map_or false (λ s. no_key table.shapes s (place_of (parts_of table row) name)) o) ((ts : List ℕ) × (slice_get table.shapes row ≡ Some (fields ts)) × IsNoKey table row ts name)
    by None h = λ r. none-some (sym h ∙ r.1)
    by (Some boolean) h = λ r. absurd (let e' = sym h ∙ r.1 in cc)
    by (Some integer) h = λ r. absurd (let e' = sym h ∙ r.1 in cc)
    by (Some text) h = λ r. absurd (let e' = sym h ∙ r.1 in cc)
    by (Some polymorph) h = λ r. absurd (let e' = sym h ∙ r.1 in cc)
    by (Some (names count)) h = λ r. absurd (let e' = sym h ∙ r.1 in cc)
    by (Some (fields us)) h = told-some (λ ts. IsNoKey table row ts name) table.shapes row us (no_key table.shapes (fields us) (place_of (parts_of table row) name)) h (key-of table.shapes us (place_of (parts_of table row) name))
    by (Some (cases us)) h = λ r. absurd (let e' = sym h ∙ r.1 in cc)
    by (Some (rows row' key)) h = λ r. absurd (let e' = sym h ∙ r.1 in cc)
    by (Some (inport message declared)) h = λ r. absurd (let e' = sym h ∙ r.1 in cc)
    by (Some (outport port)) h = λ r. absurd (let e' = sym h ∙ r.1 in cc)
    by (Some (callmessage ps raises)) h = λ r. absurd (let e' = sym h ∙ r.1 in cc)

-- ---- types that are there

pub type-told : (shapes : List Code) (t : ℕ) (b : Bool) → b ≡ nat_lt t (length shapes) → Tells b (IsType (map shape_view shapes) t)
type-told shapes t b e = by b (sym e)
  where
    same : (xs : List Code) → length (map shape_view xs) ≡ length xs
    same [] = refl
    same (x ∷ xs) = ap suc (same xs)

    below : (xs : TypeTable) (i : ℕ) → i < length xs → IsTrue (is_some (slice_get xs i))
    below [] i l = absurd (omega (arith, l))
    below (x ∷ xs) zero l = refl
    below (x ∷ xs) (suc i) l = below xs i (omega (arith, l))

    by : (x : Bool) → nat_lt t (length shapes) ≡ x → Tells x (IsType (map shape_view shapes) t)
    by true l = below (map shape_view shapes) t (omega (arith, ltb-true t (length shapes) l, same shapes))
    by false l = λ k. beyond (slice_get (map shape_view shapes) t) refl k
      where
        beyond : (o : Option Shape) → slice_get (map shape_view shapes) t ≡ o → IsTrue (is_some o) → ⊥
        beyond None h k = true≢false (sym k)
        beyond (Some s) h k = omega (arith, ltb-false t (length shapes) l, same shapes, slice_get_within (map shape_view shapes) t s h)

missing : (table : TypeTable) (t : ℕ) → (IsType table t → ⊥) → slice_get table t ≡ None
missing table t no-type = by (slice_get table t) refl
  where
    by : (o : Option Shape) → slice_get table t ≡ o → slice_get table t ≡ None
    by None e = e
    by (Some s) e = absurd (no-type (ap is_some e))

not-within : (n : ℕ) (table : TypeTable) (t : ℕ) → slice_get table t ≡ None → is_within_depth n table t ≡ false
not-within zero table t e = refl
not-within (suc n) table t e = ap (map_or false (λ s. all_pass (is_within_depth n table) (named_types s))) e

pub beyond-told : (table : NamedTable) (t : ℕ) (a b : Bool) → Tells a (IsType table.shapes t) → (IsType table.shapes t → Tells b (IsBeyond table.shapes t)) → Tells (not a || b) (IsBeyond table.shapes t)
beyond-told table t true b k f = f k
beyond-told table t false b k f = inl (not-within greatest_depth table.shapes t (missing table.shapes t k))

pub settled-told : (table : NamedTable) (t : ℕ) (a b : Bool) → Tells a (IsType table.shapes t) → (IsType table.shapes t → Refutes b (IsSettled table t)) → Tells (a && not b) (IsSettled table t)
settled-told table t true true k f = f k
settled-told table t true false k f = f k
settled-told table t false b k f = λ settled. k (settled t (itself t))
