-- What tests of kept parameters say.
use Rattle.std.proofs.Common.{◌≡◌, ◌⊎◌, inl, inr, ℕ, suc, Bool, true, false, not, ◌&&◌, ◌||◌, nat_eq, List, [], ◌∷◌, length, map, Option, Some, None, option_map, slice_get, refl, sym, ◌∙◌, ap, subst, arith, true≢false}
use Rattle.std.specs.List.{list_any}
use Rattle.std.proofs.lemmas.Option.{slice_get-map}
use Rattle.std.proofs.lemmas.Bool.{eqb-true, eq-eqb}
use Rattle.herm_model.specs.Lists.{IsIn, map_or}
use Rattle.herm_model.specs.Types as types
use Rattle.herm_model.specs.Calls.{is_returned}
use Rattle.herm_model.specs.Outcomes.{disconnected}
use Rattle.herm_base.specs.declared.word.Name.{Name}
use Rattle.herm_syntax.specs.declared.definitions.RaiseForm.{RaiseForm}
use Rattle.herm_syntax.specs.View.{raise_form_view}
use Rattle.herm_syntax.specs.Trees.{Letters, Param, Mode, In, Inout, Out, Raising}
use Rattle.herm_meaning.specs.Names.{NamedTable}
use Rattle.herm_meaning.specs.Walks.{place_of}
use Rattle.herm_meaning.specs.Meaning.{parameter_meant, mode_meant}
use Rattle.herm_meaning.specs.DefinitionFaults.{IsNotReturned, KeepsBadly}
use Rattle.herm_graph.specs.Tells.{Tells}
use Rattle.herm_defs.specs.Plain.{comes_back, not_returned, keeps_badly, any_keeps_badly}
use Rattle.herm_defs.proofs.Roles.{tells-and}

pub tells-or : (P Q : Type 0) (a b : Bool) → Tells a P → Tells b Q → Tells (a || b) (P ⊎ Q)
tells-or P Q true b s t = inl s
tells-or P Q false true s t = inr t
tells-or P Q false false s t = no
  where
    no : P ⊎ Q → ⊥
    no (inl p) = s p
    no (inr q) = t q

pub any-of-map : {X Y : Type 0} (test : Y → Bool) (f : X → Y) (xs : List X) → list_any (λ x. test (f x)) xs ≡ list_any test (map f xs)
any-of-map test f [] = refl
any-of-map test f (x ∷ xs) = rw (any-of-map test f xs) refl

length-of-map : {X Y : Type 0} (f : X → Y) (xs : List X) → length (map f xs) ≡ length xs
length-of-map f [] = refl
length-of-map f (x ∷ xs) = ap suc (length-of-map f xs)

-- whether a fact holds of some element
pub tells-any : {X : Type 0} (P : X → Type 0) (test : X → Bool) → ((x : X) → Tells (test x) (P x)) → (xs : List X) → Tells (list_any test xs) ((x : X) × IsIn x xs × P x)
tells-any P test told [] = λ r. r.1
tells-any {X = X} P test told (x ∷ xs) = by (test x) (list_any test xs) (told x) (tells-any P test told xs)
  where
    by : (a b : Bool) → Tells a (P x) → Tells b ((y : X) × IsIn y xs × P y) → Tells (a || b) ((y : X) × IsIn y (x ∷ xs) × P y)
    by true b s t = (x, inl refl, s)
    by false true s t = (t.0, inr t.1, t.2)
    by false false s t = no
      where
        no : ((y : X) × IsIn y (x ∷ xs) × P y) → ⊥
        no (y, inl same, p) = s (subst P same p)
        no (y, inr i, p) = t (y, i, p)

back-mode : (m : Mode) → comes_back m ≡ is_returned (mode_meant m)
back-mode In = refl
back-mode Inout = refl
back-mode Out = refl

module _ (table : NamedTable) (params : List Param) where
  returned-at : (o : Option Param) → (q : types.Parameter) → option_map (parameter_meant table.names) o ≡ Some q → map_or false (λ (p : Param). comes_back p.0) o ≡ is_returned q.mode
  returned-at None q e = absurd cc
  returned-at (Some p) q e = back-mode p.0 ∙ ap (λ (x : types.Parameter). is_returned x.mode) (some-same e)
    where
      some-same : {a b : types.Parameter} → Some a ≡ Some b → a ≡ b
      some-same h = cc

  not-told : (k : Letters) → Tells (not_returned params k) (IsNotReturned table params k)
  not-told k = by (slice_get params (place_of (map (λ (p : Param). p.1.0) params) k)) refl
    where
      meant : (o : Option Param) → slice_get params (place_of (map (λ (p : Param). p.1.0) params) k) ≡ o → slice_get (map (parameter_meant table.names) params) (place_of (map (λ (p : Param). p.1.0) params) k) ≡ option_map (parameter_meant table.names) o
      meant o e = slice_get-map (parameter_meant table.names) params (place_of (map (λ (p : Param). p.1.0) params) k) ∙ ap (option_map (parameter_meant table.names)) e

      by : (o : Option Param) → slice_get params (place_of (map (λ (p : Param). p.1.0) params) k) ≡ o → Tells (not (map_or false (λ (p : Param). comes_back p.0) o)) ((q : types.Parameter) → slice_get (map (parameter_meant table.names) params) (place_of (map (λ (p : Param). p.1.0) params) k) ≡ Some q → is_returned q.mode ≡ true → ⊥)
      by None e = λ q h r. absurd (let n = sym (meant None e) ∙ h in cc)
      by (Some p) e = which (comes_back p.0) refl
        where
          which : (b : Bool) → comes_back p.0 ≡ b → Tells (not b) ((q : types.Parameter) → slice_get (map (parameter_meant table.names) params) (place_of (map (λ (p' : Param). p'.1.0) params) k) ≡ Some q → is_returned q.mode ≡ true → ⊥)
          which true c = λ none. none (parameter_meant table.names p) (meant (Some p) e) (sym (back-mode p.0) ∙ c)
          which false c = λ q h r. true≢false (sym r ∙ (sym (returned-at (Some p) q (sym (meant (Some p) e) ∙ h)) ∙ c))

  filled : (xs : List Letters) → Tells (not (nat_eq (length xs) 0)) (xs ≡ [] → ⊥)
  filled [] = λ n. n refl
  filled (x ∷ xs) = by (nat_eq (length (x ∷ xs)) 0) refl
    where
      by : (t : Bool) → nat_eq (length (x ∷ xs)) 0 ≡ t → Tells (not t) (x ∷ xs ≡ [] → ⊥)
      by true e = absurd (omega (arith, eqb-true (length (x ∷ xs)) 0 e))
      by false e = λ same. absurd cc

  same-number : (a b : ℕ) → Tells (nat_eq a b) (a ≡ b)
  same-number a b = by (nat_eq a b) refl
    where
      by : (t : Bool) → nat_eq a b ≡ t → Tells t (a ≡ b)
      by true e = eqb-true a b e
      by false e = λ same. true≢false (sym (eq-eqb a b same) ∙ e)

  swapped : (P Q : Type 0) (b : Bool) → Tells b (P ⊎ Q) → Tells b (Q ⊎ P)
  swapped P Q true (inl p) = inr p
  swapped P Q true (inr q) = inl q
  swapped P Q false t = no
    where
      no : Q ⊎ P → ⊥
      no (inl q) = t (inr q)
      no (inr p) = t (inl p)

  pub keep-told : (r : Raising) → Tells (keeps_badly table.exceptions params r) (KeepsBadly table params r)
  keep-told r = swapped _ _ (keeps_badly table.exceptions params r) (
      tells-or ((place_of table.exceptions r.0 ≡ disconnected) × (r.1 ≡ [] → ⊥)) ((k : Letters) × IsIn k r.1 × IsNotReturned table params k)
      (nat_eq (place_of table.exceptions r.0) disconnected && not (nat_eq (length r.1) 0)) (list_any (not_returned params) r.1)
      (tells-and (place_of table.exceptions r.0 ≡ disconnected) (r.1 ≡ [] → ⊥) (nat_eq (place_of table.exceptions r.0) disconnected) (not (nat_eq (length r.1) 0)) (same-number (place_of table.exceptions r.0) disconnected) (filled r.1))
      (tells-any (IsNotReturned table params) (not_returned params) not-told r.1))

  pub keeps-told : (raises : List Raising) → Tells (any_keeps_badly table.exceptions params raises) ((r : Raising) × IsIn r raises × KeepsBadly table params r)
  keeps-told raises = tells-any (KeepsBadly table params) (keeps_badly table.exceptions params) keep-told raises

-- the same as the code tells it
pub keeps-is : (exceptions : List Letters) (params : List Param) (r : RaiseForm) (n : ℕ) (keeps : List Name) (any result : Bool) → n ≡ place_of exceptions r.name.text → keeps ≡ r.keeps.items → any ≡ list_any (λ (k : Name). not_returned params k.text) keeps → result ≡ ((nat_eq n disconnected && not (nat_eq (length keeps) 0)) || any) → result ≡ keeps_badly exceptions params (raise_form_view r)
keeps-is exceptions params r n keeps any result e f g h =
    h
    ∙ (ap (λ x. (nat_eq x disconnected && not (nat_eq (length keeps) 0)) || any) e
    ∙ (ap (λ x. (nat_eq (place_of exceptions r.name.text) disconnected && not (nat_eq (length keeps) 0)) || x) (g ∙ any-of-map (not_returned params) (λ (k : Name). k.text) keeps)
    ∙ (ap (λ x. (nat_eq (place_of exceptions r.name.text) disconnected && not (nat_eq x 0)) || list_any (not_returned params) (map (λ (k : Name). k.text) keeps)) (sym (length-of-map (λ (k : Name). k.text) keeps))
    ∙ ap (λ xs. (nat_eq (place_of exceptions r.name.text) disconnected && not (nat_eq (length (map (λ (k : Name). k.text) xs)) 0)) || list_any (not_returned params) (map (λ (k : Name). k.text) xs)) f)))
