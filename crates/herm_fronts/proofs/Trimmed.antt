-- What a message is trimmed of, by sets of facts.
use Rattle.std.proofs.Common.{◌≡◌, ℕ, zero, suc, List, [], ◌∷◌, ◌++◌, flat_map, Bool, true, Option, Some, None, refl, sym, ap, ap₂, ◌∙◌}
use Rattle.std.specs.Prelude.{not, ◌&&◌}
use mathlib.Core.Path.{fun_ext}
use Rattle.herm_model.specs.Lists.{map_or, list_of, any_pass}
use Rattle.herm_model.specs.Paths.{Path, Fact, init, same_fact}
use Rattle.herm_model.specs.Types.{TypeTable, greatest_depth}
use Rattle.herm_model.specs.Finalising.{is_left, keeps, excess_from}
use Rattle.herm_fronts.specs.Held.{is_value_left}

-- what is listed of what an option holds
pub of_parts : {X Y Z : Type 0} (f : Y → List Z) (parts : X → List Y) (o : Option X) → flat_map f (list_of parts o) ≡ map_or [] (λ s. flat_map f (parts s)) o
of_parts f parts None = refl
of_parts f parts (Some x) = refl

pub left_same : (here kept : Fact → Bool) (facts sent : List Fact) → ((f : Fact) → here f ≡ any_pass (same_fact f) facts) → ((f : Fact) → kept f ≡ any_pass (same_fact f) sent) → is_value_left here kept ≡ is_left (keeps facts) (keeps sent)
left_same here kept facts sent e h = fun_ext (λ p. ap₂ (λ a b. a && not b) (e (init p)) (h (init p)))

pub excess_same : (types : TypeTable) (p : Path) (t : ℕ) (here kept : Fact → Bool) (facts sent : List Fact) → ((f : Fact) → here f ≡ any_pass (same_fact f) facts) → ((f : Fact) → kept f ≡ any_pass (same_fact f) sent)
    → excess_from (is_value_left here kept) greatest_depth types p t ≡ excess_from (is_left (keeps facts) (keeps sent)) greatest_depth types p t
excess_same types p t here kept facts sent e h = ap (λ left. excess_from left greatest_depth types p t) (left_same here kept facts sent e h)

-- what is left is left whole
pub left_whole : (left : Path → Bool) (n : ℕ) (types : TypeTable) (p : Path) (t : ℕ) → (n ≡ 0 → ⊥) → left p ≡ true → excess_from left n types p t ≡ p ∷ []
left_whole left zero types p t h e = absurd (h refl)
left_whole left (suc n) types p t h e = rw e refl
