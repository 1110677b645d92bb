-- In a sound state no process is stuck.
use Rattle.std.proofs.Common.{◌≡◌, ◌⊎◌, inl, inr, ℕ, List, [], ◌∷◌, Bool, true, Option, Some, None, is_some, option_map, refl, sym, ap, subst, ◌∙◌, true≢false}
use Rattle.herm_model.specs.Lists.{IsIn, any_pass, list_of}
use Rattle.herm_model.specs.Values.{Name}
use Rattle.herm_model.proofs.Lists.{or-either, or-left, or-right}
use Rattle.herm_model.proofs.Options.{chain-some}
use Rattle.herm_journal.proofs.Rising.{same-true}
use Rattle.herm_journal.specs.PlaceStates.{after}
use Rattle.herm_journal.specs.Entries.{Place, port, reply_cell, book, same_place}
use Rattle.herm_journal.specs.Messages.{CellWant, CellAction}
use Rattle.herm_system.specs.Machines.{Machine, Standing, is_local, is_acting}
use Rattle.herm_system.specs.Sound.{IsSoundWith}
use Rattle.herm_system.specs.Systems.{System, Moved, steps, acts, step, numbered_from_one, places_for, done_at, done_in, holding_at, set_holding, set_process, with_made, number_of, can, can_be_done, standing, stands}
use Rattle.herm_runs.proofs.ActionParts.{action-of, step-of}
use Rattle.herm_runs.proofs.Stands.{seen-local, seen-acting, stands-as}
use Rattle.herm_runs.proofs.SuitsStates.{done-suits}
use Rattle.herm_sound.specs.SoundMachines.{HasFor, KeepsSound, GoesOn}
use Rattle.herm_sound.specs.laws.SoundLaws.{GoOnFrom, NoneIsStuck}
use Rattle.herm_sound.proofs.Waiting.{wants-wait}
use Rattle.herm_sound.proofs.Acted.{Holding, IsAct, port_made, port_refused, process_made, process_refused, placed, came_back, taken, closed, answered, heard, acted, act-answers}

-- some element passes
pub passing : {X : Type 0} (test : X → Bool) (xs : List X) → any_pass test xs ≡ true → (x : X) × IsIn x xs × (test x ≡ true)
passing test [] e = absurd (true≢false (sym e))
passing {X} test (x ∷ xs) e = by (or-either (test x) (any_pass test xs) e) (passing test xs)
  where
    by : (test x ≡ true) ⊎ (any_pass test xs ≡ true) → (any_pass test xs ≡ true → (y : X) × IsIn y xs × (test y ≡ true)) → (y : X) × IsIn y (x ∷ xs) × (test y ≡ true)
    by (inl e) later = (x, inl refl, e)
    by (inr e) later = let r = later e in (r.0, inr r.1, r.2)

same-own : (place : Place) → same_place place place ≡ true
same-own (port n) = same-true n
same-own (reply_cell n) = same-true n
same-own book = refl

pub among-places : (place : Place) (places : List Place) → IsIn place places → any_pass (same_place place) places ≡ true
among-places place [] h = absurd h
among-places place (other ∷ places) (inl e) = or-left (same_place place other) (any_pass (same_place place) places) (subst (λ p. same_place place p ≡ true) e (same-own place))
among-places place (other ∷ places) (inr h) = or-right (same_place place other) (any_pass (same_place place) places) (among-places place places h)

some-there : {X : Type 0} (o : Option X) → is_some o ≡ true → (x : X) × (o ≡ Some x)
some-there None e = absurd (true≢false (sym e))
some-there (Some x) e = (x, refl)

module _ {P : Type 0} (machine : Machine Name P) (Is : P → Type 0) (keeps : KeepsSound machine Is) where
  -- what an action makes is there
  made-there : (x : P) (p : ℕ) (w : CellWant Name) (place : Place) (h : Holding) (a : CellAction Name) → IsAct p w place h a → HasFor machine keeps.first_type keeps.new_type x w → (s : System P) → (t : System P) × (with_made machine x a s ≡ Some t)
  made-there x p w place h a (port_made b n e) has s = (_, refl)
  made-there x p w place h a (port_refused b e) has s = (_, refl)
  made-there x p w place h a (process_made code b made e) has s =
      let z = has.3 made.0 made.1 (machine.number x, machine.serial x) in (_, ap (option_map _) z.1)
  made-there x p w place h a (process_refused code b e) has s = (_, refl)
  made-there x p w place h a (placed n m q k) has s = (_, refl)
  made-there x p w place h a (came_back n m q k) has s = (_, refl)
  made-there x p w place h a (taken ports n among b i m q k) has s = (_, refl)
  made-there x p w place h a (closed n b q k) has s = (_, refl)
  made-there x p w place h a (answered caller call r rs) has s = (_, refl)
  made-there x p w place h a (heard k r rs) has s = (_, refl)

  module _ (goes : GoesOn machine Is) (s : System P) (types : List ℕ) (sound : IsSoundWith machine Is types s) (p : ℕ) where
    -- a process that stands so is there
    pub there : (test : Standing → Bool) → stands test machine s p ≡ true → (x : P) × (numbered_from_one p s.processes ≡ Some x)
    there test e = by (numbered_from_one p s.processes) refl
      where
        by : (o : Option P) → numbered_from_one p s.processes ≡ o → (x : P) × (numbered_from_one p s.processes ≡ Some x)
        by None is = absurd (true≢false (sym (sym (ap (λ o. any_pass test (list_of (λ x. x ∷ []) (option_map (standing machine s.book.limits.steps (can s p)) o))) is) ∙ e)))
        by (Some x) is = (x, is)

    pub steps-there : stands is_local machine s p ≡ true → (m : Moved P) × (step machine (steps p) s ≡ Some m)
    steps-there e =
        let x = there is_local e in
        let limit = s.book.limits.steps in
        let ready = sym (seen-local (machine.ready limit x.0) (can_be_done (can s p) (machine.wanted x.0))) ∙ sym (stands-as is_local machine s p x.0 x.1) ∙ e in
        let y = goes.local_steps limit x.0 (sound.processes p x.0 x.1) ready in
        (_, step-of machine p s x.0 y.0 e x.1 y.1)

    pub acts-there : stands is_acting machine s p ≡ true → (x : P) (w : CellWant Name) (place : Place) → numbered_from_one p s.processes ≡ Some x → machine.wanted x ≡ Some w
        → any_pass (same_place place) (places_for p w) ≡ true → is_some (done_in w s place) ≡ true → (m : Moved P) × (step machine (acts p place) s ≡ Some m)
    acts-there e x w place is wants among can_do =
        let a = some-there (done_in w s place) can_do in
        let h = chain-some (done_at w) (holding_at place s) a.0 a.1 in
        let act = acted p w place h.0 a.0 among h.2 in
        let before = sound.processes p x is in
        let suits = done-suits machine s p x is Is (λ x looked n i wants member. keeps.wants x _ i wants n member) types sound place w h.0 a.0 wants among h.1 h.2 in
        let y = goes.answers x w (number_of place) a.0 before wants (act-answers p w place h.0 a.0 act) suits in
        let t = made-there x p w place h.0 a.0 act (keeps.wants x w before wants) (set_process p y.0 (set_holding place (after a.0 h.0) s)) in
        (record { system = t.0; done = Some a.0 }, action-of machine p place s t.0 x y.0 w h.0 a.0 e is wants among h.1 h.2 y.1 t.1)

    pub wanted-there : stands is_acting machine s p ≡ true → (x : P) × (w : CellWant Name) × (place : Place) × (numbered_from_one p s.processes ≡ Some x) × (machine.wanted x ≡ Some w) × IsIn place (places_for p w) × (is_some (done_in w s place) ≡ true)
    wanted-there e =
        let x = there is_acting e in
        let limit = s.book.limits.steps in
        let seen = seen-acting (machine.ready limit x.0) (can_be_done (can s p) (machine.wanted x.0)) (sym (stands-as is_acting machine s p x.0 x.1) ∙ e) in
        let w = goes.wants limit x.0 (sound.processes p x.0 x.1) (ap is_acting seen.0) in
        let able : can s p w.0 ≡ true = sym (ap (can_be_done (can s p)) w.1) ∙ seen.1 in
        let place = passing (λ place. is_some (done_in w.0 s place)) (places_for p w.0) able in
        (x.0, w.0, place.0, x.1, w.1, place.1, place.2)

    go-on : GoOnFrom machine s p
    go-on = record {
      local_steps = steps-there;
      actions = λ e.
          let w = wanted-there e in
          let m = acts-there e w.0 w.1 w.2 w.3 w.4 (among-places w.2 (places_for p w.1) w.5) w.6 in
          (w.2, m.0, m.1);
      places = acts-there;
      waits = λ x w is wants cannot. wants-wait machine Is keeps types s sound p x is w wants cannot;
    }

  pub none-is-stuck : GoesOn machine Is → NoneIsStuck machine Is
  none-is-stuck goes s p sound = go-on goes s sound.0 sound.1 p
