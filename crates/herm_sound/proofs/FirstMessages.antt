-- The first message of a run is one of main's port, with its cells at places of their types, in any table that begins with the
-- predefined types.
use Rattle.std.proofs.Common.{◌≡◌, ℕ, zero, suc, List, [], ◌∷◌, ◌++◌, false, Some, None, IsTrue, inl, inr, refl, sym, subst, ◌∙◌, true≢false, arith}
use Rattle.std.proofs.lemmas.Bool.Decides.{nat_tests}
use Rattle.std.specs.Prelude.{nat_eq}
use Rattle.herm_model.specs.Lists.{IsIn, any_pass}
use Rattle.herm_model.specs.Paths.{Path, Fact, init, case, same_fact}
use Rattle.herm_model.specs.Types.{TypeTable, predefined}
use Rattle.herm_model.specs.Facts.{declared_facts}
use Rattle.herm_model.specs.FactsOfValues.{HasExactly}
use Rattle.herm_model.specs.Typed.{is_text, leaf_if, Fits, HasType}
use Rattle.herm_model.specs.Values.{Name, Kind, a_scalar, a_text, cell, Parts, no_parts, part, has_value}
use Rattle.herm_model.proofs.FactTests.{listed-IsIn, IsIn-listed}
use Rattle.herm_model.proofs.NothingThere.{nothing-there}
use Rattle.herm_model.proofs.Options.{some-injective}
use Rattle.herm_journal.specs.Entries.{Text}
use Rattle.herm_journal.specs.Messages.{IsMessage, message_of_port}
use Rattle.herm_system.specs.Kinds.{typed_of}
use Rattle.herm_system.specs.Systems.{first_message}
use Rattle.herm_sound.specs.Standing.{StandsAt, AllStand}

not-zero : (i : ℕ) → nat_eq (suc i) 0 ≡ false
not-zero i = grind (arith, nat_tests)

far-one : (i : ℕ) → nat_eq (suc (suc i)) 1 ≡ false
far-one i = grind (arith, nat_tests)

-- values have exactly the listed facts where the test of the list says so at each path
exactly-listed : (ps : Parts Name) (facts : List Fact) → ((p : Path) → has_value ps p ≡ any_pass (same_fact (init p)) facts) → ((p : Path) (c : ℕ) → any_pass (same_fact (case p c)) facts ≡ false) → HasExactly ps (λ f. IsIn f facts)
exactly-listed ps facts values components = record {
  values = λ p. (λ h. listed-IsIn (init p) facts (sym (values p) ∙ h), λ h. values p ∙ IsIn-listed (init p) facts h);
  components = λ p c h. absurd (true≢false (sym (IsIn-listed (case p c) facts h) ∙ components p c));
}

abbrev first_facts : List Fact
first_facts = init (0 ∷ []) ∷ init (0 ∷ 0 ∷ []) ∷ init (0 ∷ 1 ∷ []) ∷ []

first-told : (arg : Text) (p : Path) → has_value (part (first_message arg) no_parts) p ≡ any_pass (same_fact (init p)) first_facts
first-told arg [] = refl
first-told arg (zero ∷ []) = refl
first-told arg (zero ∷ zero ∷ []) = refl
first-told arg (zero ∷ zero ∷ k ∷ q) = nothing-there Name (k ∷ q)
first-told arg (zero ∷ suc zero ∷ []) = refl
first-told arg (zero ∷ suc zero ∷ k ∷ q) = nothing-there Name (k ∷ q)
first-told arg (zero ∷ suc (suc j) ∷ []) = rw (not-zero (suc j), far-one j) refl
first-told arg (zero ∷ suc (suc j) ∷ k ∷ q) = rw (not-zero (suc j), far-one j) (nothing-there Name (k ∷ q))
first-told arg (suc i ∷ []) = rw (not-zero i) refl
first-told arg (suc i ∷ j ∷ q) = rw (not-zero i) (nothing-there Name (j ∷ q))

module _ (defined : TypeTable) where
  abbrev pub types : TypeTable
  types = predefined ++ defined

  text-typed : (n : Name) (bytes : Text) → IsTrue (is_text bytes) → HasType types 2 (cell n (a_scalar (a_text bytes)) no_parts)
  text-typed n bytes text = (subst (λ b. Fits {N = Name} types (leaf_if b) no_parts) (sym text) tt, refl)

  message-typed : (arg : Text) → IsTrue (is_text arg) → HasType types 6 (first_message arg)
  message-typed arg text = ((text-typed (0, 3) arg text, ((tt, refl), tt)), refl)

  pub first-message : (arg : Text) → IsTrue (is_text arg) → IsMessage types 7 (first_message arg)
  first-message arg text = (message-typed arg text, exactly-listed (part (first_message arg) no_parts) (declared_facts types 7 (0 ∷ [])) (first-told arg) (λ p c. refl))

  -- the console's port and main's
  pub first-stands : (arg : Text) (u : ℕ) → message_of_port types 7 ≡ Some u → AllStand types (4 ∷ 7 ∷ []) (λ caller call. None) (typed_of types u (first_message arg))
  first-stands arg u is = subst (λ u. AllStand types (4 ∷ 7 ∷ []) (λ caller call. None) (typed_of types u (first_message arg))) (some-injective is) all
    where
      all : AllStand types (4 ∷ 7 ∷ []) (λ caller call. None) (typed_of types 6 (first_message arg))
      all t k (inl e) = subst (λ (x : ℕ × Kind). StandsAt types (4 ∷ 7 ∷ []) (λ caller call. None) x.0 x.1) (sym e) tt
      all t k (inr (inl e)) = subst (λ (x : ℕ × Kind). StandsAt types (4 ∷ 7 ∷ []) (λ caller call. None) x.0 x.1) (sym e) tt
      all t k (inr (inr (inl e))) = subst (λ (x : ℕ × Kind). StandsAt types (4 ∷ 7 ∷ []) (λ caller call. None) x.0 x.1) (sym e) (4, refl, refl)
      all t k (inr (inr (inr h))) = absurd h
