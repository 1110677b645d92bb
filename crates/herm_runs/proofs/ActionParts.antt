-- An event cut into its parts: the process, what it wants, what is at the place, what is done, and what that leaves.
use Rattle.std.proofs.Common.{◌≡◌, ℕ, Bool, true, false, cond, Option, Some, None, option_map, option_and_then, refl, ap, ◌∙◌}
use Rattle.herm_model.specs.Lists.{any_pass}
use Rattle.herm_model.specs.Values.{Cell, Name}
use Rattle.herm_model.proofs.Options.{none-not_some, chain-some, map-some}
use Rattle.herm_journal.specs.PlaceStates.{PlaceState, after}
use Rattle.herm_journal.specs.Entries.{Place, same_place}
use Rattle.herm_journal.specs.Messages.{CellReply, CellWant, CellAction}
use Rattle.herm_system.specs.Machines.{Machine, is_local, is_acting}
use Rattle.herm_system.specs.Systems.{System, Moved, done_at, holding_at, set_holding, numbered_from_one, with_made, set_process, local_event, act_at, action_event, behind_action, number_of, places_for, stands}

pub cond-both : {X : Type 0} (b : Bool) (o : Option X) (y : X) → cond b o None ≡ Some y → (b ≡ true) × (o ≡ Some y)
cond-both true o y e = (refl, e)
cond-both false o y e = none-not_some e

-- the system where a process has done an action at a place, before what the action makes
abbrev pub acted : {P : Type 0} → (p : ℕ) → Place → System P → P → PlaceState (Cell Name) (CellReply Name) → CellAction Name → System P
acted p place s y h a = set_process p y (set_holding place (after a h) s)

pub record ActionParts {P : Type 0} (machine : Machine Name P) (p : ℕ) (place : Place) (s : System P) (m : Moved P) : Type 0 where
  pub stands : stands is_acting machine s p ≡ true
  pub state : P
  pub is : numbered_from_one p s.processes ≡ Some state
  pub want : (w : CellWant Name) × (machine.wanted state ≡ Some w)
  pub there : any_pass (same_place place) (places_for p want.0) ≡ true
  pub at : (h : PlaceState (Cell Name) (CellReply Name)) × (holding_at place s ≡ Some h)
  pub did : (a : CellAction Name) × (done_at want.0 at.0 ≡ Some a)
  pub left : (y : P) × (machine.answered state (number_of place) did.0 ≡ Some y)
  pub makes : (t : System P) × (with_made machine state did.0 (acted p place s left.0 at.0 did.0) ≡ Some t)
  pub moved : record { system = makes.0; done = Some did.0 } ≡ m

pub action-parts : {P : Type 0} (machine : Machine Name P) (p : ℕ) (place : Place) (s : System P) (m : Moved P) → action_event machine p place s ≡ Some m → ActionParts machine p place s m
action-parts machine p place s m e =
    let b = cond-both (stands is_acting machine s p) _ m e in
    let x = chain-some (λ x. option_and_then (act_at machine p place s x) (machine.wanted x)) (numbered_from_one p s.processes) m b.1 in
    let want = chain-some (act_at machine p place s x.0) (machine.wanted x.0) m x.2 in
    let there = cond-both (any_pass (same_place place) (places_for p want.0)) _ m want.2 in
    let at = chain-some _ (holding_at place s) m there.1 in
    let did = chain-some (behind_action machine p place s x.0 at.0) (done_at want.0 at.0) m at.2 in
    let left = chain-some _ (machine.answered x.0 (number_of place) did.0) m did.2 in
    let makes = map-some _ (with_made machine x.0 did.0 (acted p place s left.0 at.0 did.0)) m left.2 in
    record {
      stands = b.0;
      state = x.0;
      is = x.1;
      want = (want.0, want.1);
      there = there.0;
      at = (at.0, at.1);
      did = (did.0, did.1);
      left = (left.0, left.1);
      makes = (makes.0, makes.1);
      moved = makes.2;
    }

pub record StepParts {P : Type 0} (machine : Machine Name P) (p : ℕ) (s : System P) (m : Moved P) : Type 0 where
  pub stands : stands is_local machine s p ≡ true
  pub state : P
  pub is : numbered_from_one p s.processes ≡ Some state
  pub left : (y : P) × (machine.local_step state ≡ Some y)
  pub moved : record { system = set_process p left.0 s; done = None } ≡ m

pub step-parts : {P : Type 0} (machine : Machine Name P) (p : ℕ) (s : System P) (m : Moved P) → local_event machine p s ≡ Some m → StepParts machine p s m
step-parts machine p s m e =
    let b = cond-both (stands is_local machine s p) _ m e in
    let x = chain-some (λ x. option_map (λ y. record { system = set_process p y s; done = None }) (machine.local_step x)) (numbered_from_one p s.processes) m b.1 in
    let left = map-some _ (machine.local_step x.0) m x.2 in
    record { stands = b.0; state = x.0; is = x.1; left = (left.0, left.1); moved = left.2 }

-- an event put together from its parts
pub action-of : {P : Type 0} (machine : Machine Name P) (p : ℕ) (place : Place) (s t : System P) (x y : P) (w : CellWant Name) (h : PlaceState (Cell Name) (CellReply Name)) (a : CellAction Name) → stands is_acting machine s p ≡ true → numbered_from_one p s.processes ≡ Some x
    → machine.wanted x ≡ Some w → any_pass (same_place place) (places_for p w) ≡ true → holding_at place s ≡ Some h → done_at w h ≡ Some a → machine.answered x (number_of place) a ≡ Some y → with_made machine x a (acted p place s y h a) ≡ Some t
    → action_event machine p place s ≡ Some (record { system = t; done = Some a })
action-of machine p place s t x y w h a stays is wants among there does leaves makes =
    ap (λ b. cond b (option_and_then (λ x. option_and_then (act_at machine p place s x) (machine.wanted x)) (numbered_from_one p s.processes)) None) stays
    ∙ ap (option_and_then (λ x. option_and_then (act_at machine p place s x) (machine.wanted x))) is
    ∙ ap (option_and_then (act_at machine p place s x)) wants
    ∙ ap (λ b. cond b (option_and_then (λ k. option_and_then (behind_action machine p place s x k) (done_at w k)) (holding_at place s)) None) among
    ∙ ap (option_and_then (λ k. option_and_then (behind_action machine p place s x k) (done_at w k))) there
    ∙ ap (option_and_then (behind_action machine p place s x h)) does
    ∙ ap (option_and_then (λ next. option_map (λ t. record { system = t; done = Some a }) (with_made machine x a (acted p place s next h a)))) leaves
    ∙ ap (option_map (λ t. record { system = t; done = Some a })) makes

pub step-of : {P : Type 0} (machine : Machine Name P) (p : ℕ) (s : System P) (x y : P) → stands is_local machine s p ≡ true → numbered_from_one p s.processes ≡ Some x → machine.local_step x ≡ Some y
    → local_event machine p s ≡ Some (record { system = set_process p y s; done = None })
step-of machine p s x y stays is does =
    ap (λ b. cond b (option_and_then (λ x. option_map (λ y. record { system = set_process p y s; done = None }) (machine.local_step x)) (numbered_from_one p s.processes)) None) stays
    ∙ ap (option_and_then (λ x. option_map (λ y. record { system = set_process p y s; done = None }) (machine.local_step x))) is
    ∙ ap (option_map (λ y. record { system = set_process p y s; done = None })) does
