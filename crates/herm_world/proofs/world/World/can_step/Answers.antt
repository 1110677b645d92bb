use Rattle.std.proofs.Common.{◌≡◌, ℕ, List, ap, subst, ◌∙◌}
use Rattle.herm_code_worlds.specs.laws.WorldOfCode.{WorksAsWorld}
use Rattle.herm_waking.specs.Numbers.{has}
use Rattle.herm_world.specs.Worlds.{WorldState}
use Rattle.herm_world.proofs.Led.{kept-is}
use Rattle.herm_world.proofs.world.World.can_step.Goals as goal

pub returns-clause-exact : goal.returns-clause-exact
returns-clause-exact c limits argument events w b shown =
    let is = (c.self.invariant (ap (λ (w : WorldState). w.is_dead) c.self.view_is ∙ shown.alive)).1 in
    c.contains.ensures.member ∙ ap (λ (w : WorldState). has c.args.p w.ready.members) c.self.view_is ∙ ap (λ (ms : List ℕ). has c.args.p ms) (shown.sees).ready_is
    ∙ kept-is c.args.self.now.image c.args.self.now.main (subst (λ (w : WorldState). WorksAsWorld w.image w.main) c.self.view_is is.works) limits argument events w b shown.shows c.args.p
