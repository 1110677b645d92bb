-- The exceptions of a call that lead on, from the tables.
use Rattle.std.proofs.Common.{◌≡◌, ℕ, List, [], ◌∷◌, Bool, true, false, cond, ◌&&◌, nat_eq, inl, inr, Option, Some, None, is_some, refl, sym, ap, ◌∙◌, subst}
use Rattle.std.proofs.lemmas.Bool.{eqb-true}
use Rattle.herm_model.specs.Lists.{IsIn, any_pass, list_of}
use Rattle.herm_model.specs.Paths.{Fact}
use Rattle.herm_model.specs.Types.{TypeTable, Raised}
use Rattle.herm_model.specs.Expressions.{Atom}
use Rattle.herm_model.specs.Calls.{kept_for}
use Rattle.herm_model.specs.Handlers.{Catch, caught}
use Rattle.herm_model.specs.laws.FlowLaws.{Rise}
use Rattle.herm_model.proofs.Lists.{and-both, both-and, not_true}
use Rattle.herm_flow.specs.NumberTables.{at_number, kept_if_raised, kept_at, has_entry}
use Rattle.herm_flow.specs.Kept.{goes_on}
use Rattle.herm_flow.specs.Touched.{makes_by, AreWanted, touched_by}
use Rattle.herm_flow.specs.CoveredExceptions.{AreCovering, AreTables, kept_by, touched_of, lead_of, raised_numbers, makes_at_exception, AreCallNumbers}
use Rattle.herm_flow.proofs.NumberTables.{point-node, kept-some, raised-kept_for, raised-in, in-raised}
use Rattle.herm_flow.proofs.Tests.{any-same, any-flat, none-passes}

some-is : (o : Option ℕ) → is_some o ≡ true → (p : ℕ) × (o ≡ Some p)
some-is None h = not_true h
some-is (Some p) h = (p, refl)

-- an exception that keeps something is declared
kept-raised : (raises : List Raised) (e k : ℕ) → IsIn k (kept_for raises e) → (r : Raised) × IsIn r raises × (r.exception ≡ e) × IsIn k r.kept
kept-raised [] e k h = absurd h
kept-raised (r ∷ raises) e k h = by (nat_eq r.exception e) refl h (kept-raised raises e k)
  where
    by : (b : Bool) → nat_eq r.exception e ≡ b → IsIn k (cond b r.kept (kept_for raises e)) → (IsIn k (kept_for raises e) → (x : Raised) × IsIn x raises × (x.exception ≡ e) × IsIn k x.kept) → (x : Raised) × IsIn x (r ∷ raises) × (x.exception ≡ e) × IsIn k x.kept
    by true same m again = (r, inl refl, eqb-true r.exception e same, m)
    by false apart m again = let x = again m in (x.0, inr x.1, x.2, x.3)

module _ (catches : List Catch) (raises : List Raised) (points declared : List (Option ℕ))
    (lead : (e : ℕ) → at_number points e ≡ lead_of catches e)
    (kept : (e : ℕ) → kept_at raises (at_number declared e) ≡ cond (is_some (at_number points e)) (kept_if_raised raises e) None) where
  leads : (e : ℕ) → is_some (at_number points e) ≡ goes_on catches e
  leads e = ap is_some (lead e) ∙ point-node (caught catches e)

  led-is : (e : ℕ) → has_entry declared e ≡ (goes_on catches e && is_some (kept_if_raised raises e))
  led-is e = sym (kept-some raises (at_number declared e)) ∙ (ap is_some (kept e) ∙ (both (is_some (at_number points e)) ∙ ap (λ b. b && is_some (kept_if_raised raises e)) (leads e)))
    where
      both : (b : Bool) → is_some (cond b (kept_if_raised raises e) None) ≡ (b && is_some (kept_if_raised raises e))
      both true = refl
      both false = refl

  parts : (e : ℕ) → has_entry declared e ≡ true → (goes_on catches e ≡ true) × (is_some (kept_if_raised raises e) ≡ true)
  parts e h = and-both (goes_on catches e) (is_some (kept_if_raised raises e)) (sym (led-is e) ∙ h)

  kept-is : (e : ℕ) → has_entry declared e ≡ true → kept_by declared raises e ≡ kept_for raises e
  kept-is e h = ap (list_of (λ k. k)) (kept e) ∙ (ap (λ b. list_of (λ k. k) (cond b (kept_if_raised raises e) None)) (leads e ∙ (parts e h).0) ∙ raised-kept_for raises e)

  listed : (m : ℕ) → IsIn m (raised_numbers raises) → goes_on catches m ≡ true → has_entry declared m ≡ true
  listed m i h = led-is m ∙ both-and (goes_on catches m) (is_some (kept_if_raised raises m)) h (in-raised raises m i)

  -- where an exception leads to a point, its numbers tell what it makes
  module _ (types : TypeTable) (variables : List ℕ) (arguments : List Atom) (wanted : ℕ → Bool) (are_wanted : AreWanted raises points wanted) (numbers : ℕ → List ℕ) (f : Fact) (among : ℕ → Bool)
      (made : (k : ℕ) → wanted k ≡ true → makes_by types variables arguments f k ≡ any_pass among (numbers k)) where
    wanted-kept : (e k : ℕ) → has_entry declared e ≡ true → IsIn k (kept_for raises e) → wanted k ≡ true
    wanted-kept e k h m =
        let r = kept-raised raises e k m in
        let p = some-is (at_number points e) (leads e ∙ (parts e h).0) in
        are_wanted r.0 k p.0 r.1 (ap (at_number points) r.2 ∙ p.1) r.3

    made-touched : (e : ℕ) → has_entry declared e ≡ true → makes_at_exception types variables arguments raises f e ≡ any_pass among (touched_of numbers declared raises e)
    made-touched e h =
        any-same (makes_by types variables arguments f) (λ k. any_pass among (numbers k)) (kept_for raises e) (λ k m. made k (wanted-kept e k h m))
        ∙ (sym (any-flat among numbers (kept_for raises e)) ∙ ap (λ ks. any_pass among (touched_by numbers ks)) (sym (kept-is e h)))

pub numbers_called : (types : TypeTable) (variables : List ℕ) (arguments : List Atom) (catches : List Catch) (raises : List Raised) (points declared : List (Option ℕ)) (single : Bool) (numbers : ℕ → List ℕ) (ns : List ℕ)
    → AreTables arguments catches raises points declared single numbers → Rise ns → ((m : ℕ) → IsIn m ns → has_entry declared m ≡ true)
    → ((m : ℕ) → has_entry declared m ≡ true → AreCovering (at_number points) (touched_of numbers declared raises) single ns (at_number points m) (touched_of numbers declared raises m))
    → AreCallNumbers types variables arguments catches raises ns
numbers_called types variables arguments catches raises points declared single numbers ns t rise there covered = record {
  rise = rise;
  there = λ m i. raised-in raises m (parts catches raises points declared t.leads t.declared_are m (there m i)).1;
  leads = λ m i on.
      let by = covered m (has m i on) (λ k. false) (λ s i j h k. cc) (none-passes (touched_of numbers declared raises m)) in
      (by.0, by.1, sym (t.leads by.0) ∙ (by.2 ∙ t.leads m));
  lost = λ m i on f none.
      let made = t.made types variables f in
      let same = made-touched catches raises points declared t.leads t.declared_are types variables arguments t.wanted t.wanted_are numbers f made.0 made.2 in
      let by = covered m (has m i on) made.0 made.1 (sym (same m (has m i on)) ∙ none) in
      (by.0, by.1, sym (t.leads by.0) ∙ (by.2 ∙ t.leads m), same by.0 (there by.0 by.1) ∙ by.3);
}
  where
    has : (m : ℕ) → IsIn m (raised_numbers raises) → goes_on catches m ≡ true → has_entry declared m ≡ true
    has m i on = listed catches raises points declared t.leads t.declared_are m i on

-- without a handler nothing leads on
pub none_called : (types : TypeTable) (variables : List ℕ) (arguments : List Atom) (catches : List Catch) (raises : List Raised) (ns : List ℕ) → catches ≡ [] → ns ≡ [] → AreCallNumbers types variables arguments catches raises ns
none_called types variables arguments catches raises ns e f = subst (λ cs. AreCallNumbers types variables arguments cs raises ns) (sym e) (subst (AreCallNumbers types variables arguments [] raises) (sym f) (record { rise = tt; there = λ m i. absurd i; leads = λ m i h. not_true h; lost = λ m i h. not_true h }))
