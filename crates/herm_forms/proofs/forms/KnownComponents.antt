-- A component that is known of a variant is a fact more: `reveal` and `case` keep values sound.
use Rattle.std.proofs.Common.{◌≡◌, ◌⊎◌, inl, inr, ℕ, List, [], ◌∷◌, Bool, true, false, cond, ◌||◌, Option, Some, None, refl, sym, ◌∙◌, subst}
use Rattle.std.specs.Prelude.{IsTrue, flat_map}
use mathlib.Core.Bool.{false≢true}
use borrow.Author.Tests.{eq-eqb}
use Rattle.herm_model.specs.Lists.{IsIn, any_pass}
use Rattle.herm_model.specs.Paths.{Path, Fact, case, same_fact}
use Rattle.herm_model.specs.Facts.{facts_to, prefixes, with_prefixes}
use Rattle.herm_model.specs.Statements.{Reveal, Case}
use Rattle.herm_model.specs.FactsOfStatements.{present, closed}
use Rattle.herm_model.specs.Outcomes.{Outcome, ok, raised, component, case_error}
use Rattle.herm_model.specs.Values.{a_variant, Cell, cell, Parts, read_at}
use Rattle.herm_model.specs.FactsOfValues.{is_component, satisfies}
use Rattle.herm_model.proofs.Lists.{in-append_cases, in-append_right, in-flat_map, in-flat_map_from}
use Rattle.herm_model.proofs.FactTests.{listed-IsIn, IsIn-listed}
use Rattle.herm_model.proofs.Equality.{same_fact-is, same_fact_self}
use Rattle.herm_model.proofs.ClosedFacts.{once-IsIn, IsIn-once}
use Rattle.herm_model.proofs.Options.{none-not_some, some-injective}
use Rattle.herm_forms.specs.Frames.{Name, Frame, goes, if_there}
use Rattle.herm_forms.specs.Forms.{component_of}
use Rattle.herm_forms.specs.Modules.{Module}
use Rattle.herm_forms.specs.laws.EdgeLaws.{AreSound, held_after}
use Rattle.herm_forms.specs.laws.ComponentLaws.{ComponentsAreKnown}
use Rattle.herm_forms.proofs.forms.PlainForms.{same_body, same_outcome_of, never, same_facts}

-- with the fact of a component that is there
pub case-sound : (c : Module) (has : Fact → Bool) (ps : Parts Name) (p : Path) (k : ℕ) → AreSound c has ps → IsTrue (is_component (read_at p ps) k) → AreSound c (λ f. same_fact f (case p k) || has f) ps
case-sound c has ps p k sound is = record {
  types = sound.types;
  facts = record { values = sound.facts.values; components = λ q m h. by q m (same_fact (case q m) (case p k)) refl h };
}
  where
    by : (q : Path) (m : ℕ) (b : Bool) → same_fact (case q m) (case p k) ≡ b → b || has (case q m) ≡ true → IsTrue (satisfies ps (case q m))
    by q m true e h = subst (λ f. IsTrue (satisfies ps f)) (sym (same_fact-is (case q m) (case p k) e)) is
    by q m false e h = sound.facts.components q m h

known-or : (s m h : Bool) → (s ≡ true → m ≡ true) → (m ≡ true → (s ≡ true) ⊎ (h ≡ true)) → s || h ≡ cond m true h
known-or true true h to from = refl
known-or true false h to from = absurd (false≢true (to refl))
known-or false false h to from = refl
known-or false true h to from = by (from refl)
  where
    by : (false ≡ true) ⊎ (h ≡ true) → h ≡ true
    by (inl e) = absurd (false≢true e)
    by (inr e) = e

module _ (c : Module) (has : Fact → Bool) (p : Path) (k : ℕ) (there : (f : Fact) → IsIn f (closed c.types c.variables (present c.types c.variables p)) → IsTrue (has f)) where
  -- the facts that are made are that of the component, and those to the variant
  made-from : (f : Fact) → IsIn f (closed c.types c.variables (case p k ∷ [])) → (same_fact f (case p k) ≡ true) ⊎ (has f ≡ true)
  made-from f h =
      let g = in-flat_map_from (with_prefixes c.types c.variables) f (case p k ∷ []) (once-IsIn f (flat_map (with_prefixes c.types c.variables) (case p k ∷ [])) h) in by g.0 g.1 (in-append_cases f (prefixes c.types c.variables g.0) (g.0 ∷ []) g.2)
    where
      of-variant : IsIn f (facts_to c.types c.variables p) → has f ≡ true
      of-variant h =
          there f (IsIn-once f (flat_map (with_prefixes c.types c.variables) (facts_to c.types c.variables p)) (in-flat_map (with_prefixes c.types c.variables) f f (facts_to c.types c.variables p) h (in-append_right f (prefixes c.types c.variables f) (f ∷ []) (inl refl))))

      by : (g : Fact) → IsIn g (case p k ∷ []) → IsIn f (prefixes c.types c.variables g) ⊎ IsIn f (g ∷ []) → (same_fact f (case p k) ≡ true) ⊎ (has f ≡ true)
      by g (inr h) x = absurd h
      by g (inl e) (inl h) = inr (of-variant (subst (λ g. IsIn f (prefixes c.types c.variables g)) e h))
      by g (inl e) (inr (inl h)) = inl (subst (λ f. same_fact f (case p k) ≡ true) (sym (h ∙ e)) (same_fact_self (case p k)))
      by g (inl e) (inr (inr h)) = absurd h

  known-same : (f : Fact) → same_fact f (case p k) || has f ≡ cond (any_pass (same_fact f) (closed c.types c.variables (case p k ∷ []))) true (has f)
  known-same f =
      known-or (same_fact f (case p k)) (any_pass (same_fact f) (closed c.types c.variables (case p k ∷ []))) (has f)
      (λ h. IsIn-listed f (closed c.types c.variables (case p k ∷ [])) (IsIn-once f (flat_map (with_prefixes c.types c.variables) (case p k ∷ [])) (in-flat_map (with_prefixes c.types c.variables) (case p k) f (case p k ∷ []) (inl refl) (in-append_right f (prefixes c.types c.variables (case p k)) (case p k ∷ []) (inl (same_fact-is f (case p k) h))))))
      (λ h. made-from f (listed-IsIn f (closed c.types c.variables (case p k ∷ [])) h))

  pub known-sound : (ps : Parts Name) → AreSound c has ps → IsTrue (is_component (read_at p ps) k) → AreSound c (λ f. cond (any_pass (same_fact f) (closed c.types c.variables (case p k ∷ []))) true (has f)) ps
  known-sound ps sound is = same_facts c (λ f. same_fact f (case p k) || has f) (λ f. cond (any_pass (same_fact f) (closed c.types c.variables (case p k ∷ []))) true (has f)) ps known-same (case-sound c has ps p k sound is)

module _ (c : Module) (has : Fact → Bool) (p : Path) (b : Frame Name) (sound : AreSound c has b.variables) (there : (f : Fact) → IsIn f (closed c.types c.variables (present c.types c.variables p)) → IsTrue (has f)) where
  revealed : (k : ℕ) (o : Outcome) (b' : Frame Name) (x : Option (Cell Name)) → read_at p b.variables ≡ x → if_there (λ d. goes (cond (is_component (Some d) k) ok (raised case_error)) b) x ≡ goes o b'
      → AreSound c (held_after c.types c.variables (Reveal p k) o has) b'.variables
  revealed k o b' None at is = never o b' is
  revealed k o b' (Some d) at is = by (is_component (Some d) k) refl is
    where
      by : (t : Bool) → is_component (Some d) k ≡ t → goes (cond t ok (raised case_error)) b ≡ goes o b' → AreSound c (held_after c.types c.variables (Reveal p k) o has) b'.variables
      by true e is =
          subst (λ o. AreSound c (held_after c.types c.variables (Reveal p k) o has) b'.variables) (same_outcome_of ok o b b' is)
          (subst (λ (b : Frame Name). AreSound c (held_after c.types c.variables (Reveal p k) ok has) b.variables) (same_body ok o b b' is)
          (known-sound c has p k there b.variables sound (subst (λ x. IsTrue (is_component x k)) (sym at) e)))
      by false e is =
          subst (λ o. AreSound c (held_after c.types c.variables (Reveal p k) o has) b'.variables) (same_outcome_of (raised case_error) o b b' is)
          (subst (λ (b : Frame Name). AreSound c has b.variables) (same_body (raised case_error) o b b' is) sound)

  is-component : (d : Cell Name) (k : ℕ) → component_of d ≡ Some k → IsTrue (is_component (Some d) k)
  is-component (cell n (a_variant m) ps) k e = eq-eqb m k (some-injective e)
  is-component d k e = none-not_some e

  chosen : (ks : List ℕ) (o : Outcome) (b' : Frame Name) (x : Option (Cell Name)) → read_at p b.variables ≡ x → if_there (λ d. if_there (λ k. goes (component k) b) (component_of d)) x ≡ goes o b'
      → AreSound c (held_after c.types c.variables (Case p ks) o has) b'.variables
  chosen ks o b' None at is = never o b' is
  chosen ks o b' (Some d) at is = by (component_of d) refl is
    where
      by : (x : Option ℕ) → component_of d ≡ x → if_there (λ k. goes (component k) b) x ≡ goes o b' → AreSound c (held_after c.types c.variables (Case p ks) o has) b'.variables
      by None e is = never o b' is
      by (Some k) e is =
          subst (λ o. AreSound c (held_after c.types c.variables (Case p ks) o has) b'.variables) (same_outcome_of (component k) o b b' is)
          (subst (λ (b : Frame Name). AreSound c (held_after c.types c.variables (Case p ks) (component k) has) b.variables) (same_body (component k) o b b' is)
          (known-sound c has p k there b.variables sound (subst (λ x. IsTrue (is_component x k)) (sym at) (is-component d k e))))

pub components-known : (c : Module) → ComponentsAreKnown c
components-known c = record {
  reveal = λ p k name s has b b' o sound there is. revealed c has p b sound there k o b' (read_at p b.variables) refl is;
  choose = λ p ks name s has b b' o sound there is. chosen c has p b sound there ks o b' (read_at p b.variables) refl is;
}
