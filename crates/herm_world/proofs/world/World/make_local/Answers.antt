use Rattle.std.proofs.Common.{ℕ, List, [], false, sym, ap, subst, ◌∙◌}
use Rattle.std.specs.Prelude.{⊤}
use Rattle.herm_model.specs.Values.{Name}
use Rattle.herm_journal.specs.Entries.{Text}
use Rattle.herm_journal.specs.NextNumbers.{Limits}
use Rattle.herm_system.specs.Systems.{Event}
use Rattle.herm_code_machine.specs.CodeStates.{CodeState}
use Rattle.herm_waking.specs.KeptRounds.{Worked}
use Rattle.herm_waking.specs.UnnamedRounds.{BareWorked}
use Rattle.herm_queue.specs.BookStates.{limits_view}
use Rattle.herm_world.specs.Steps.{IsOf}
use Rattle.herm_world.specs.Turns.{TurnsAs}
use Rattle.herm_world.specs.Worlds.{WorldState, ShowsRun, MakesNext}
use Rattle.herm_world.specs.declared.turns.Turn.TheVariants as turns
use Rattle.herm_world.proofs.WorldLeads.{world_at, local-leads, stays-world, world-room}
use Rattle.herm_world.proofs.WorldStands.{world-alive}
use Rattle.herm_world.proofs.world.World.make_local.Goals as goal

abbrev Turns : WorldState → ℕ → Type 0
Turns world p = IsOf p world.processes (λ process. TurnsAs turns.Local process world.places p)

abbrev LeadsWorld : (old new : WorldState) → ℕ → Type 0
LeadsWorld old new p = (limits : Limits) (argument : Text) (events : List Event) (w : Worked (CodeState Name)) (b : BareWorked (CodeState ⊤)) → ShowsRun limits argument events w b old → MakesNext limits argument events b p old new

pub step_locally-requires-clause-next : goal.step_locally-requires-clause-next
step_locally-requires-clause-next c process there image main x is = subst (λ w. Turns w c.args.who.number) (sym c.self.view_is) c.requires.turn process there image main x is []

pub step_locally-requires-clause-alive : goal.step_locally-requires-clause-alive
step_locally-requires-clause-alive c = world-alive c.self.inside.image.now c.self.inside.main c.self.inside.parts c.self.inside.is_dead (c.self.invariant (ap (λ (w : WorldState). w.is_dead) c.self.view_is ∙ c.requires.alive)).1

pub step_locally-requires-clause-room : goal.step_locally-requires-clause-room
step_locally-requires-clause-room c = world-room c.self.inside.image.now c.self.inside.main c.self.inside.parts c.self.inside.is_dead (c.self.invariant (ap (λ (w : WorldState). w.is_dead) c.self.view_is ∙ c.requires.alive)).1

pub invariant_of-self-2 : goal.invariant_of-self-2
invariant_of-self-2 c =
    stays-world c.self.inside.image.now c.self.inside.main (limits_view c.self.inside.limits) c.args.who.number c.self.inside.parts c.step_locally.new.self c.self.inside.is_dead (c.self.invariant (ap (λ (w : WorldState). w.is_dead) c.self.view_is ∙ c.requires.alive)).0 (c.self.invariant (ap (λ (w : WorldState). w.is_dead) c.self.view_is ∙ c.requires.alive)).1
    (local-leads c.self.inside.image.now c.self.inside.main c.args.who.number c.self.inside.parts c.step_locally.new.self c.self.inside.is_dead c.in_ok-step_locally.ensures.made
    (subst (λ w. Turns w c.args.who.number) (sym c.self.view_is) c.requires.turn) (c.self.invariant (ap (λ (w : WorldState). w.is_dead) c.self.view_is ∙ c.requires.alive)).1 c.in_ok-step_locally.ensures.looked)
    c.in_ok-step_locally.ensures.limit

pub returns-clause-leads : goal.returns-clause-leads
returns-clause-leads c =
    subst (λ w. LeadsWorld w (world_at c.self.inside.image.now c.self.inside.main c.step_locally.new.self false) c.args.who.number) c.self.view_is
    (local-leads c.self.inside.image.now c.self.inside.main c.args.who.number c.self.inside.parts c.step_locally.new.self c.self.inside.is_dead c.in_ok-step_locally.ensures.made
    (subst (λ w. Turns w c.args.who.number) (sym c.self.view_is) c.requires.turn) (c.self.invariant (ap (λ (w : WorldState). w.is_dead) c.self.view_is ∙ c.requires.alive)).1 c.in_ok-step_locally.ensures.looked)
