-- Cycles, and what is met, from what is reached.
use Rattle.std.proofs.Common.{◌≡◌, ◌<◌, ◌≤◌, ℕ, Bool, false, ◌||◌, ◌⊎◌, inl, inr, ◌↔◌, List, length, map, Option, Some, None, slice_get, IsTrue, is_some, refl, sym, ◌∙◌, ap, subst, arith, true≢false}
use Rattle.std.proofs.lemmas.Option.{slice_get_within}
use Rattle.herm_model.specs.Lists.{IsIn, list_of, map_or}
use Rattle.herm_model.specs.Types.{TypeTable, Shape, named_types}
use Rattle.herm_model.specs.WellFormedTables.{Reaches, at_once, further}
use Rattle.herm_model.proofs.Lists.{or-either, or-left, or-right, length-map}
use Rattle.herm_types.specs.Table.{says}
use Rattle.herm_graph.specs.declared.graph.Rule.TheVariants.{AnyOf}
use Rattle.herm_graph.specs.Graph.{IsReached}
use Rattle.herm_graph.specs.Met.{SayCycles, SayCyclesBelow, MeetsGoal}
use Rattle.herm_graph.specs.Tells.{Tells}
use Rattle.herm_graph.proofs.Telling.{told, says-so, must-say}
use Rattle.herm_graph.proofs.Relations.{leads, led}

pub there : (shapes : TypeTable) (v : ℕ) → IsTrue (is_some (slice_get shapes v)) → v < length shapes
there shapes v h = by (slice_get shapes v) refl h
  where
    by : (o : Option Shape) → slice_get shapes v ≡ o → IsTrue (is_some o) → v < length shapes
    by None e i = absurd (true≢false (sym i))
    by (Some s) e i = slice_get_within shapes v s e

-- what is said is below the number of tests
pub said-within : (tests : List Bool) (t : ℕ) → IsTrue (says tests t) → t < length tests
said-within tests t h = by (slice_get tests t) refl h
  where
    by : (o : Option Bool) → slice_get tests t ≡ o → IsTrue (map_or false (λ b. b) o) → t < length tests
    by None e i = absurd (true≢false (sym i))
    by (Some b) e i = slice_get_within tests t b e

-- what reaches a type names one
pub names-some : (shapes : TypeTable) (u v : ℕ) → Reaches shapes u v → IsTrue (is_some (slice_get shapes u))
names-some shapes u v (at_once u' v' i) = by (slice_get shapes u) i
  where
    by : (o : Option Shape) → IsIn v (list_of named_types o) → IsTrue (is_some o)
    by None h = absurd h
    by (Some s) h = refl
names-some shapes u v (further u' w v' i r) = by (slice_get shapes u) i
  where
    by : (o : Option Shape) → IsIn w (list_of named_types o) → IsTrue (is_some o)
    by None h = absurd h
    by (Some s) h = refl

module _ (shapes : TypeTable) (next : List (List ℕ)) (same : next ≡ map named_types shapes) where
  as-many : length next ≡ length shapes
  as-many = ap length same ∙ length-map named_types shapes

  pub itself : (goal tests : List Bool) (t : ℕ) → IsTrue (says goal t) → ((u : ℕ) → IsTrue (says goal u) → u ≡ t) → ((u : ℕ) → IsTrue (says tests u) ↔ IsReached AnyOf goal next u) → Tells (says tests t) (Reaches shapes t t)
  itself goal tests t g alone r = told (says tests t) (
    λ h. let l = leads shapes next same goal AnyOf refl t ((r t).0 h) in subst (λ w. Reaches shapes t w) (alone l.0 l.2) l.1,
    λ c. (r t).1 (led shapes next same goal t t c g),
  )

  pub cycles-all : (n : ℕ) (tests : List Bool) → length tests ≡ n → length next ≤ n → n ≤ length next → SayCyclesBelow n shapes tests → SayCycles shapes tests
  cycles-all n tests each low high said t = told (says tests t) (
    λ h. says-so (says tests t) (said t (omega (arith, said-within tests t h, each))) h,
    λ c. must-say (says tests t) (said t (omega (arith, there shapes t (names-some shapes t t c), as-many, low))) c,
  )

  pub meets-all : (n : ℕ) (goal found tests : List Bool) → length tests ≡ n → length next ≤ n → length goal ≡ length next → ((u : ℕ) → u < n → says tests u ≡ (says goal u || says found u)) → ((u : ℕ) → IsTrue (says found u) ↔ IsReached AnyOf goal next u) → (t : ℕ) → IsTrue (says tests t) ↔ MeetsGoal shapes goal t
  meets-all n goal found tests each low many said r t = (
    λ h. to (or-either (says goal t) (says found t) (sym (said t (omega (arith, said-within tests t h, each))) ∙ h)),
    λ m. from m.0 m.1 m.2,
  )
    where
      to : IsTrue (says goal t) ⊎ IsTrue (says found t) → MeetsGoal shapes goal t
      to (inl g) = (t, inl refl, g)
      to (inr f) = let l = leads shapes next same goal AnyOf refl t ((r t).0 f) in (l.0, inr l.1, l.2)

      from : (u : ℕ) → (t ≡ u) ⊎ Reaches shapes t u → IsTrue (says goal u) → IsTrue (says tests t)
      from u (inl e) g =
          let here = subst (λ w. IsTrue (says goal w)) (sym e) g in
          said t (omega (arith, said-within goal t here, many, low)) ∙ or-left (says goal t) (says found t) here
      from u (inr c) g =
          said t (omega (arith, there shapes t (names-some shapes t u c), as-many, low)) ∙ or-right (says goal t) (says found t) ((r t).1 (led shapes next same goal t u c g))
