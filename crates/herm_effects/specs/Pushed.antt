-- Facts that are pushed one by one, each behind those before it and once.
use Rattle.std.specs.Prelude.{ℕ, List, [], ◌∷◌, Bool, true, false, ◌≡◌, ⊤}
use Rattle.herm_model.specs.Lists.{any_pass}
use Rattle.herm_model.specs.Paths.{Path, Fact, init, case, same_fact, parent}
use Rattle.herm_model.specs.Types.{TypeTable, passes_component}
use Rattle.herm_model.specs.Facts.{without_repeats}

-- These facts were pushed, without repeats, and the test says what is among those that were.
pub record IsPushed (has : Fact → Bool) (pushed facts : List Fact) : Type 0 where
  pub tells : (f : Fact) → has f ≡ any_pass (λ g. same_fact g f) pushed
  pub once : pushed ≡ without_repeats facts

-- There is a value at the path, which passes through no component, by the test.
abbrev pub IsBegunAt : TypeTable → List ℕ → (Fact → Bool) → Path → Type 0
IsBegunAt table variables has [] = ⊤
IsBegunAt table variables has (v ∷ p) = (passes_component table variables (v ∷ p) ≡ false) × (has (init (v ∷ p)) ≡ true)

-- the same of the path whose value a fact needs before it
abbrev pub IsBegun : TypeTable → List ℕ → (Fact → Bool) → Fact → Type 0
IsBegun table variables has (init p) = IsBegunAt table variables has (parent p)
IsBegun table variables has (case p c) = IsBegunAt table variables has p
