use Rattle.std.proofs.Common.{◌≤◌, ℕ, List, length, option_map, false, refl, sym, ap, subst, ◌∙◌}
use Rattle.std.specs.Prelude.{⊤}
use Rattle.herm_model.specs.Values.{Name}
use Rattle.herm_journal.specs.Entries.{Text}
use Rattle.herm_journal.specs.NextNumbers.{Limits}
use Rattle.herm_system.specs.Systems.{Event}
use Rattle.herm_code_machine.specs.CodeStates.{CodeState}
use Rattle.herm_waking.specs.KeptRounds.{Worked}
use Rattle.herm_waking.specs.UnnamedRounds.{BareWorked}
use Rattle.herm_ready.specs.Table.{ReadySet}
use Rattle.herm_queue.specs.BookStates.{limits_view}
use Rattle.herm_world.specs.Doing.{numbers_in}
use Rattle.herm_world.specs.Orders.{made_view}
use Rattle.herm_world.specs.Places.{places_of}
use Rattle.herm_world.specs.Steps.{AreAlive, IsOf, LookedAtEach}
use Rattle.herm_world.specs.Turns.{TurnsAs}
use Rattle.herm_world.specs.Worlds.{WorldState, ShowsRun, MakesNext}
use Rattle.herm_world.specs.declared.turns.Turn.TheVariants as turns
use Rattle.herm_world.proofs.WorldLeads.{world_at, can-act, act-clocks, act-numbered, act-owned, its-module, acted-alive, acted-room, action-leads, stays-world}
use Rattle.herm_world.proofs.world.World.make_action.Goals as goal

abbrev Turns : WorldState → ℕ → Type 0
Turns world p = IsOf p world.processes (λ process. TurnsAs turns.Act process world.places p)

abbrev LeadsWorld : (old new : WorldState) → ℕ → Type 0
LeadsWorld old new p = (limits : Limits) (argument : Text) (events : List Event) (w : Worked (CodeState Name)) (b : BareWorked (CodeState ⊤)) → ShowsRun limits argument events w b old → MakesNext limits argument events b p old new

pub act-requires-clause-acts : goal.act-requires-clause-acts
act-requires-clause-acts c =
    can-act c.self.inside.image.now c.self.inside.main c.args.who.number c.self.inside.parts c.self.inside.is_dead (subst (λ w. Turns w c.args.who.number) (sym c.self.view_is) c.requires.turn) (c.self.invariant (ap (λ (w : WorldState). w.is_dead) c.self.view_is ∙ c.requires.alive)).1

pub act-requires-clause-clocks : goal.act-requires-clause-clocks
act-requires-clause-clocks c =
    act-clocks c.self.inside.image.now c.self.inside.main c.args.who.number c.self.inside.parts c.self.inside.is_dead (subst (λ w. Turns w c.args.who.number) (sym c.self.view_is) c.requires.turn) (c.self.invariant (ap (λ (w : WorldState). w.is_dead) c.self.view_is ∙ c.requires.alive)).1

pub act-requires-clause-numbered : goal.act-requires-clause-numbered
act-requires-clause-numbered c =
    act-numbered c.self.inside.image.now c.self.inside.main c.args.who.number c.self.inside.parts c.self.inside.is_dead (subst (λ w. Turns w c.args.who.number) (sym c.self.view_is) c.requires.turn) (c.self.invariant (ap (λ (w : WorldState). w.is_dead) c.self.view_is ∙ c.requires.alive)).1

pub act-requires-clause-owned : goal.act-requires-clause-owned
act-requires-clause-owned c =
    act-owned c.self.inside.image.now c.self.inside.main c.args.who.number c.self.inside.parts c.self.inside.is_dead (subst (λ w. Turns w c.args.who.number) (sym c.self.view_is) c.requires.turn) (c.self.invariant (ap (λ (w : WorldState). w.is_dead) c.self.view_is ∙ c.requires.alive)).1

pub begin_made-requires : goal.begin_made-requires
begin_made-requires c = record {
  there =
      its-module c.self.inside.image.now c.self.inside.main c.args.who.number c.self.inside.parts c.self.inside.is_dead (subst (λ w. Turns w c.args.who.number) (sym c.self.view_is) c.requires.turn)
      c.act.new.self c.in_ok-acted.acted.stamp (numbers_in c.in_ok-acted.acted.woken) (option_map made_view c.in_ok-acted.acted.made) c.in_ok-acted.ensures.made
      (c.self.invariant (ap (λ (w : WorldState). w.is_dead) c.self.view_is ∙ c.requires.alive)).1 (option_map made_view c.in_ok-acted.acted.made) refl;
}

pub look_at-requires-clause-alive : goal.look_at-requires-clause-alive
look_at-requires-clause-alive c =
    acted-alive c.self.inside.image.now c.self.inside.main c.args.who.number c.self.inside.parts c.self.inside.is_dead (subst (λ w. Turns w c.args.who.number) (sym c.self.view_is) c.requires.turn)
    c.act.new.self c.in_ok-acted.acted.stamp (numbers_in c.in_ok-acted.acted.woken) (option_map made_view c.in_ok-acted.acted.made) c.in_ok-acted.ensures.made
    (limits_view c.self.inside.limits) c.args.who refl c.begin_made.new.self (c.self.invariant (ap (λ (w : WorldState). w.is_dead) c.self.view_is ∙ c.requires.alive)).0 c.in_ok-begin_made.ensures.begins c.in_ok-begin_made.ensures.places c.in_ok-begin_made.ensures.ready c.in_ok-acted.ensures.ready
    (c.self.invariant (ap (λ (w : WorldState). w.is_dead) c.self.view_is ∙ c.requires.alive)).1

pub look_at-requires-clause-room : goal.look_at-requires-clause-room
look_at-requires-clause-room c =
    acted-room c.self.inside.image.now c.self.inside.main c.args.who.number c.self.inside.parts c.self.inside.is_dead (subst (λ w. Turns w c.args.who.number) (sym c.self.view_is) c.requires.turn)
    c.act.new.self c.in_ok-acted.acted.stamp (numbers_in c.in_ok-acted.acted.woken) (option_map made_view c.in_ok-acted.acted.made) c.in_ok-acted.ensures.made
    (limits_view c.self.inside.limits) c.args.who refl c.begin_made.new.self (c.self.invariant (ap (λ (w : WorldState). w.is_dead) c.self.view_is ∙ c.requires.alive)).0 c.in_ok-begin_made.ensures.begins c.in_ok-begin_made.ensures.places c.in_ok-begin_made.ensures.ready c.in_ok-acted.ensures.ready
    (c.self.invariant (ap (λ (w : WorldState). w.is_dead) c.self.view_is ∙ c.requires.alive)).1

pub look_at_woken-requires-clause-alive : goal.look_at_woken-requires-clause-alive
look_at_woken-requires-clause-alive c =
    subst AreAlive (sym c.in_ok-look_at.ensures.processes) (acted-alive c.self.inside.image.now c.self.inside.main c.args.who.number c.self.inside.parts c.self.inside.is_dead (subst (λ w. Turns w c.args.who.number) (sym c.self.view_is) c.requires.turn)
    c.act.new.self c.in_ok-acted.acted.stamp (numbers_in c.in_ok-acted.acted.woken) (option_map made_view c.in_ok-acted.acted.made) c.in_ok-acted.ensures.made
    (limits_view c.self.inside.limits) c.args.who refl c.begin_made.new.self (c.self.invariant (ap (λ (w : WorldState). w.is_dead) c.self.view_is ∙ c.requires.alive)).0 c.in_ok-begin_made.ensures.begins c.in_ok-begin_made.ensures.places c.in_ok-begin_made.ensures.ready c.in_ok-acted.ensures.ready
    (c.self.invariant (ap (λ (w : WorldState). w.is_dead) c.self.view_is ∙ c.requires.alive)).1)

pub look_at_woken-requires-clause-room : goal.look_at_woken-requires-clause-room
look_at_woken-requires-clause-room c =
    let few = acted-room c.self.inside.image.now c.self.inside.main c.args.who.number c.self.inside.parts c.self.inside.is_dead (subst (λ w. Turns w c.args.who.number) (sym c.self.view_is) c.requires.turn)
    c.act.new.self c.in_ok-acted.acted.stamp (numbers_in c.in_ok-acted.acted.woken) (option_map made_view c.in_ok-acted.acted.made) c.in_ok-acted.ensures.made
    (limits_view c.self.inside.limits) c.args.who refl c.begin_made.new.self (c.self.invariant (ap (λ (w : WorldState). w.is_dead) c.self.view_is ∙ c.requires.alive)).0 c.in_ok-begin_made.ensures.begins c.in_ok-begin_made.ensures.places c.in_ok-begin_made.ensures.ready c.in_ok-acted.ensures.ready
    (c.self.invariant (ap (λ (w : WorldState). w.is_dead) c.self.view_is ∙ c.requires.alive)).1 in
    subst (λ n. n ≤ c.look_at.new.self.ready.limit) (ap length (sym c.in_ok-look_at.ensures.processes)) (subst (λ n. length c.begin_made.new.self.processes.items ≤ n) (sym c.in_ok-look_at.ensures.limit) few)

pub invariant_of-self-2 : goal.invariant_of-self-2
invariant_of-self-2 c =
    stays-world c.self.inside.image.now c.self.inside.main (limits_view c.self.inside.limits) c.args.who.number c.self.inside.parts c.look_at_woken.new.self c.self.inside.is_dead (c.self.invariant (ap (λ (w : WorldState). w.is_dead) c.self.view_is ∙ c.requires.alive)).0 (c.self.invariant (ap (λ (w : WorldState). w.is_dead) c.self.view_is ∙ c.requires.alive)).1
    (action-leads c.self.inside.image.now c.self.inside.main c.args.who.number c.self.inside.parts c.self.inside.is_dead (subst (λ w. Turns w c.args.who.number) (sym c.self.view_is) c.requires.turn)
    c.act.new.self c.in_ok-acted.acted.stamp (numbers_in c.in_ok-acted.acted.woken) (option_map made_view c.in_ok-acted.acted.made) c.in_ok-acted.ensures.made
    (limits_view c.self.inside.limits) c.args.who refl c.begin_made.new.self (c.self.invariant (ap (λ (w : WorldState). w.is_dead) c.self.view_is ∙ c.requires.alive)).0 c.in_ok-begin_made.ensures.begins c.in_ok-begin_made.ensures.places c.in_ok-begin_made.ensures.ready c.in_ok-acted.ensures.ready
    c.look_at_woken.new.self (c.self.invariant (ap (λ (w : WorldState). w.is_dead) c.self.view_is ∙ c.requires.alive)).1 (c.in_ok-look_at_woken.ensures.processes ∙ c.in_ok-look_at.ensures.processes)
    (places_of c.look_at.new.self.places, c.look_at.new.self.ready.members, c.in_ok-look_at.ensures.looked, subst (λ ps. LookedAtEach (numbers_in c.in_ok-acted.acted.woken) ps (places_of c.look_at.new.self.places) c.look_at.new.self.ready.members (places_of c.look_at_woken.new.self.places) c.look_at_woken.new.self.ready.members) c.in_ok-look_at.ensures.processes c.in_ok-look_at_woken.ensures.looked))
    (c.in_ok-look_at_woken.ensures.limit ∙ c.in_ok-look_at.ensures.limit ∙ ap (λ (r : ReadySet). r.limit) (c.in_ok-begin_made.ensures.ready ∙ c.in_ok-acted.ensures.ready))

pub returns-clause-leads : goal.returns-clause-leads
returns-clause-leads c =
    subst (λ w. LeadsWorld w (world_at c.self.inside.image.now c.self.inside.main c.look_at_woken.new.self false) c.args.who.number) c.self.view_is
    (action-leads c.self.inside.image.now c.self.inside.main c.args.who.number c.self.inside.parts c.self.inside.is_dead (subst (λ w. Turns w c.args.who.number) (sym c.self.view_is) c.requires.turn)
    c.act.new.self c.in_ok-acted.acted.stamp (numbers_in c.in_ok-acted.acted.woken) (option_map made_view c.in_ok-acted.acted.made) c.in_ok-acted.ensures.made
    (limits_view c.self.inside.limits) c.args.who refl c.begin_made.new.self (c.self.invariant (ap (λ (w : WorldState). w.is_dead) c.self.view_is ∙ c.requires.alive)).0 c.in_ok-begin_made.ensures.begins c.in_ok-begin_made.ensures.places c.in_ok-begin_made.ensures.ready c.in_ok-acted.ensures.ready
    c.look_at_woken.new.self (c.self.invariant (ap (λ (w : WorldState). w.is_dead) c.self.view_is ∙ c.requires.alive)).1 (c.in_ok-look_at_woken.ensures.processes ∙ c.in_ok-look_at.ensures.processes)
    (places_of c.look_at.new.self.places, c.look_at.new.self.ready.members, c.in_ok-look_at.ensures.looked, subst (λ ps. LookedAtEach (numbers_in c.in_ok-acted.acted.woken) ps (places_of c.look_at.new.self.places) c.look_at.new.self.ready.members (places_of c.look_at_woken.new.self.places) c.look_at_woken.new.self.ready.members) c.in_ok-look_at.ensures.processes c.in_ok-look_at_woken.ensures.looked))
