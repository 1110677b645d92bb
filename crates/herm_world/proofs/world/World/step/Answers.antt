use Rattle.std.proofs.Common.{◌≡◌, ◌≤◌, ℕ, List, length, Some, refl, sym, subst, arith}
use Rattle.std.specs.Prelude.{⊤}
use Rattle.herm_model.specs.Values.{Name}
use Rattle.herm_journal.specs.Entries.{Text}
use Rattle.herm_journal.specs.NextNumbers.{Limits}
use Rattle.herm_system.specs.Systems.{Event}
use Rattle.herm_code_machine.specs.CodeStates.{CodeState}
use Rattle.herm_code_worlds.specs.CodeWorlds.{nameless}
use Rattle.herm_waking.specs.KeptRounds.{Worked}
use Rattle.herm_waking.specs.Unnamed.{bare_standing}
use Rattle.herm_waking.specs.UnnamedRounds.{BareWorked, bare_stepped}
use Rattle.herm_world.specs.Places.{places_of}
use Rattle.herm_world.specs.Steps.{IsOf}
use Rattle.herm_world.specs.Turns.{TurnsAs}
use Rattle.herm_world.specs.Worlds.{WorldState, ShowsRun, IsStanding}
use Rattle.herm_world.specs.declared.parts.Parts.{Parts}
use Rattle.herm_world.specs.declared.turns.Turn.{Turn}
use Rattle.herm_world.specs.declared.turns.Turn.TheVariants as turns
use Rattle.herm_world.specs.declared.world.WorldStep.{WorldStep}
use Rattle.herm_world.specs.declared.world.WorldStep.TheVariants as results
use Rattle.herm_world.proofs.WorldStands.{world-alive, world-few, stands-as-told, stays-as-told}
use Rattle.herm_world.proofs.world.World.step.Goals as goal

abbrev Long : ℕ → WorldState → Type 0
Long p world = p ≤ length world.processes

abbrev TurnsAt : ℕ → Parts → Turn → Type 0
TurnsAt p P t = IsOf p P.processes.items (λ process. TurnsAs t process (places_of P.places) p)

abbrev TurnsIn : Turn → ℕ → WorldState → Type 0
TurnsIn t p world = IsOf p world.processes (λ process. TurnsAs t process world.places p)

abbrev Stands : WorldStep → ℕ → WorldState → Type 0
Stands step p world = (limits : Limits) (argument : Text) (events : List Event) (w : Worked (CodeState Name)) (b : BareWorked (CodeState ⊤)) → ShowsRun limits argument events w b world → IsStanding step (bare_standing (nameless world.image world.main) b.system p)

abbrev Stays : ℕ → WorldState → Type 0
Stays p world = (limits : Limits) (argument : Text) (events : List Event) (w : Worked (CodeState Name)) (b : BareWorked (CodeState ⊤)) → ShowsRun limits argument events w b world → bare_stepped (nameless world.image world.main) p b ≡ Some b

pub invariant_of-who : goal.invariant_of-who
invariant_of-who c =
    let few = world-few c.self.inside.image.now c.self.inside.main c.self.inside.parts c.self.inside.is_dead (c.self.invariant c.if-self.false).1 in let le : c.args.p ≤ length c.self.inside.parts.processes.items = (subst (Long c.args.p) (sym c.self.view_is) c.requires.made) in omega (arith, few, le)

pub turn-requires-clause-alive : goal.turn-requires-clause-alive
turn-requires-clause-alive c =
    world-alive c.self.inside.image.now c.self.inside.main c.self.inside.parts c.self.inside.is_dead (c.self.invariant c.if-self.false).1

pub make_local-requires-clause-turn : goal.make_local-requires-clause-turn
make_local-requires-clause-turn c =
    subst (TurnsIn turns.Local c.args.p) c.self.view_is (subst (TurnsAt c.args.p c.self.inside.parts) c.in-Local.is c.turn.ensures.turn)

pub make_action-requires-clause-turn : goal.make_action-requires-clause-turn
make_action-requires-clause-turn c =
    subst (TurnsIn turns.Act c.args.p) c.self.view_is (subst (TurnsAt c.args.p c.self.inside.parts) c.in-Act.is c.turn.ensures.turn)

pub returns-in-Ok-clause-stands : goal.returns-in-Ok-clause-stands
returns-in-Ok-clause-stands c =
    subst (Stands results.Stepped c.args.p) c.self.view_is
    (λ limits argument events w b shown. stands-as-told c.self.inside.image.now c.self.inside.main c.self.inside.parts c.self.inside.is_dead c.args.p c.requires.from_one (subst (Long c.args.p) (sym c.self.view_is) c.requires.made) turns.Local (subst (TurnsAt c.args.p c.self.inside.parts) c.in-Local.is c.turn.ensures.turn) ((c.self.invariant c.if-self.false).1).works limits argument events w b shown)

pub returns-in-Ok-make_action-clause-stands : goal.returns-in-Ok-make_action-clause-stands
returns-in-Ok-make_action-clause-stands c =
    subst (Stands results.Stepped c.args.p) c.self.view_is
    (λ limits argument events w b shown. stands-as-told c.self.inside.image.now c.self.inside.main c.self.inside.parts c.self.inside.is_dead c.args.p c.requires.from_one (subst (Long c.args.p) (sym c.self.view_is) c.requires.made) turns.Act (subst (TurnsAt c.args.p c.self.inside.parts) c.in-Act.is c.turn.ensures.turn) ((c.self.invariant c.if-self.false).1).works limits argument events w b shown)

pub returns-in-Waiting-clause-stands : goal.returns-in-Waiting-clause-stands
returns-in-Waiting-clause-stands c =
    subst (Stands results.Waiting c.args.p) c.self.view_is
    (λ limits argument events w b shown. stands-as-told c.self.inside.image.now c.self.inside.main c.self.inside.parts c.self.inside.is_dead c.args.p c.requires.from_one (subst (Long c.args.p) (sym c.self.view_is) c.requires.made) turns.Waiting (subst (TurnsAt c.args.p c.self.inside.parts) c.in-Waiting.is c.turn.ensures.turn) ((c.self.invariant c.if-self.false).1).works limits argument events w b shown)

pub returns-in-Waiting-clause-stepped : goal.returns-in-Waiting-clause-stepped
returns-in-Waiting-clause-stepped c =
    subst (Stays c.args.p) c.self.view_is
    (λ limits argument events w b shown. stays-as-told c.self.inside.image.now c.self.inside.main c.self.inside.parts c.self.inside.is_dead c.args.p c.requires.from_one (subst (Long c.args.p) (sym c.self.view_is) c.requires.made) turns.Waiting (subst (TurnsAt c.args.p c.self.inside.parts) c.in-Waiting.is c.turn.ensures.turn) ((c.self.invariant c.if-self.false).1).works limits argument events w b shown refl)

pub returns-in-Ended-clause-stands : goal.returns-in-Ended-clause-stands
returns-in-Ended-clause-stands c =
    subst (Stands results.Ended c.args.p) c.self.view_is
    (λ limits argument events w b shown. stands-as-told c.self.inside.image.now c.self.inside.main c.self.inside.parts c.self.inside.is_dead c.args.p c.requires.from_one (subst (Long c.args.p) (sym c.self.view_is) c.requires.made) turns.Ended (subst (TurnsAt c.args.p c.self.inside.parts) c.in-Ended.is c.turn.ensures.turn) ((c.self.invariant c.if-self.false).1).works limits argument events w b shown)

pub returns-in-Ended-clause-stepped : goal.returns-in-Ended-clause-stepped
returns-in-Ended-clause-stepped c =
    subst (Stays c.args.p) c.self.view_is
    (λ limits argument events w b shown. stays-as-told c.self.inside.image.now c.self.inside.main c.self.inside.parts c.self.inside.is_dead c.args.p c.requires.from_one (subst (Long c.args.p) (sym c.self.view_is) c.requires.made) turns.Ended (subst (TurnsAt c.args.p c.self.inside.parts) c.in-Ended.is c.turn.ensures.turn) ((c.self.invariant c.if-self.false).1).works limits argument events w b shown refl)

pub returns-in-Stopped-clause-stands : goal.returns-in-Stopped-clause-stands
returns-in-Stopped-clause-stands c =
    subst (Stands results.Stopped c.args.p) c.self.view_is
    (λ limits argument events w b shown. stands-as-told c.self.inside.image.now c.self.inside.main c.self.inside.parts c.self.inside.is_dead c.args.p c.requires.from_one (subst (Long c.args.p) (sym c.self.view_is) c.requires.made) turns.Stopped (subst (TurnsAt c.args.p c.self.inside.parts) c.in-Stopped.is c.turn.ensures.turn) ((c.self.invariant c.if-self.false).1).works limits argument events w b shown)

pub returns-in-Stopped-clause-stepped : goal.returns-in-Stopped-clause-stepped
returns-in-Stopped-clause-stepped c =
    subst (Stays c.args.p) c.self.view_is
    (λ limits argument events w b shown. stays-as-told c.self.inside.image.now c.self.inside.main c.self.inside.parts c.self.inside.is_dead c.args.p c.requires.from_one (subst (Long c.args.p) (sym c.self.view_is) c.requires.made) turns.Stopped (subst (TurnsAt c.args.p c.self.inside.parts) c.in-Stopped.is c.turn.ensures.turn) ((c.self.invariant c.if-self.false).1).works limits argument events w b shown refl)
