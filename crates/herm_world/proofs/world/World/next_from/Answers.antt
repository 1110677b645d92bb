use Rattle.std.proofs.Common.{◌≡◌, ◌≤◌, ℕ, Option, Some, None, refl, sym, ap, ◌∙◌}
use Rattle.std.specs.Prelude.{IfSome}
use Rattle.herm_world.specs.Worlds.{WorldState}
use Rattle.herm_world.proofs.GoingOn.{next-few}
use Rattle.herm_world.proofs.world.World.next_from.Goals as goal

some-so : (o : Option ℕ) → ((q : ℕ) → o ≡ Some q → q ≤ 1024) → IfSome o (λ q. q ≤ 1024)
some-so None each = tt
some-so (Some q) each = each q refl

pub returns-clause-few : goal.returns-clause-few
returns-clause-few c =
    some-so c.next_from.result
    (λ q is. next-few _ (c.self.invariant (ap (λ (w : WorldState). w.is_dead) c.self.view_is ∙ c.requires.alive)).1 c.args.from q (sym c.next_from.ensures.first ∙ is))
