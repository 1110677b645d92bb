-- Types that lead to the first of their group and are led to by it reach themselves.
use Rattle.std.proofs.Common.{◌≡◌, ℕ, List, Bool, map, IsTrue, ◌↔◌, refl, sym, ◌∙◌, subst}
use Rattle.herm_model.specs.Types.{TypeTable, named_types}
use Rattle.herm_model.specs.WellFormedTables.{Reaches, at_once}
use Rattle.herm_types.specs.Table.{says}
use Rattle.herm_graph.specs.declared.graph.Rule.{Rule}
use Rattle.herm_graph.specs.declared.graph.Rule.TheVariants.{AnyOf, AllOf}
use Rattle.herm_graph.specs.Graph.{IsReached, at_goal, through, by_all, IsNext, number_at, AreInside, AreReversed}
use Rattle.herm_graph.specs.Met.{SayOnCycle}
use Rattle.herm_graph.proofs.Relations.{named-next, trans}

module _ (shapes : TypeTable) (next : List (List ℕ)) (same : next ≡ map named_types shapes) (firsts : List ℕ) (inside : List (List ℕ)) (in-groups : AreInside firsts next inside) (goal : List Bool) (own : (t : ℕ) → IsTrue (says goal t) → number_at firsts t ≡ t) where
  step : (t u : ℕ) → IsNext inside t u → Reaches shapes t u
  step t u n = let e = (in-groups t u n).0 in at_once t u (named-next shapes next same t u e.0 e.1 e.2)

  group : (t u : ℕ) → IsNext inside t u → number_at firsts u ≡ number_at firsts t
  group t u n = (in-groups t u n).1

  leads : (r : Rule) → r ≡ AnyOf → (t : ℕ) → IsReached r goal inside t → Reaches shapes t (number_at firsts t)
  leads r any t (at_goal t' v ns e n i g) =
      let m : IsNext inside t v = (ns, n, i) in
      subst (λ w. Reaches shapes t w) (sym (own v g) ∙ group t v m) (step t v m)
  leads r any t (through t' v ns e n i h) =
      let m : IsNext inside t v = (ns, n, i) in
      trans shapes t v (number_at firsts t) (step t v m) (subst (λ w. Reaches shapes v w) (group t v m) (leads r any v h))
  leads r any t (by_all t' ns e n g each) = absurd (different (sym e ∙ any))
    where
      different : AllOf ≡ AnyOf → ⊥
      different h = absurd cc

  module _ (before : List (List ℕ)) (back : AreReversed inside before) where
    led : (r : Rule) → r ≡ AnyOf → (t : ℕ) → IsReached r goal before t → Reaches shapes (number_at firsts t) t
    led r any t (at_goal t' v ns e n i g) =
        let m : IsNext inside v t = back t v (ns, n, i) in
        subst (λ w. Reaches shapes w t) (sym (own v g) ∙ sym (group v t m)) (step v t m)
    led r any t (through t' v ns e n i h) =
        let m : IsNext inside v t = back t v (ns, n, i) in
        trans shapes (number_at firsts t) v t (subst (λ w. Reaches shapes w v) (sym (group v t m)) (led r any v h)) (step v t m)
    led r any t (by_all t' ns e n g each) = absurd (different (sym e ∙ any))
      where
        different : AllOf ≡ AnyOf → ⊥
        different h = absurd cc

    pub rings : (to from tests : List Bool) → ((t : ℕ) → IsTrue (says to t) ↔ IsReached AnyOf goal inside t) → ((t : ℕ) → IsTrue (says from t) ↔ IsReached AnyOf goal before t) → ((t : ℕ) → IsTrue (says tests t) → IsTrue (says to t) × IsTrue (says from t)) → SayOnCycle shapes tests
    rings to from tests a b both t h =
        let two = both t h in
        trans shapes t (number_at firsts t) t (leads AnyOf refl t ((a t).0 two.0)) (led AnyOf refl t ((b t).0 two.1))
