-- What a process does is the step of its number.
use Rattle.std.proofs.Common.{◌≡◌, ℕ, List, [], ◌∷◌, Bool, true, false, cond, ◌||◌, Option, Some, None, is_some, refl, sym, ap, ◌∙◌}
use Rattle.std.proofs.lemmas.Option.{none-some, same_Some}
use Rattle.std.specs.Prelude.{find, option_map, option_and_then, ⊤}
use Rattle.herm_model.proofs.Options.{map-some}
use Rattle.herm_model.specs.Lists.{any_pass, list_of}
use Rattle.herm_model.specs.Values.{Cell}
use Rattle.herm_journal.specs.Entries.{Place, port, reply_cell, book, same_place}
use Rattle.herm_journal.specs.Messages.{CellReply, CellWant, CellAction}
use Rattle.herm_journal.specs.PlaceStates.{PlaceState, after}
use Rattle.herm_journal.proofs.Rising.{same-true}
use Rattle.herm_system.specs.Machines.{Machine, Standing, acting, local, waiting, is_acting, is_local}
use Rattle.herm_system.specs.Rounds.{place_or_book}
use Rattle.herm_system.specs.Systems.{numbered_from_one, places_for, done_at, standing, seen_as, can_be_done, Event, steps, acts}
use Rattle.herm_waking.specs.Unnamed.{Unnamed, BareMoved, bare_at, set_bare, set_bare_process, with_bare, bare_can, bare_standing, bare_stands, bare_can_step, bare_awaited, bare_open, bare_place, bare_turn, bare_act, bare_behind, bare_step, bare_kept}
use Rattle.herm_waking.specs.UnnamedRounds.{BareWorked, bare_stepped, made_bare_turn}
use Rattle.herm_waking.specs.Waking.{Kept, all_looked_by, woken_by, waiters_behind}
use Rattle.herm_world.specs.Acting.{first_place_for, StepsTo, ActsAt}

same-place-true : (s : Place) → same_place s s ≡ true
same-place-true (port n) = same-true n
same-place-true (reply_cell n) = same-true n
same-place-true book = refl

some-there : {X : Type 0} (x : X) → None ≡ Some x → ⊥
some-there x e = none-some x e

-- what is found first is there, and passes
found-passes : {X : Type 0} (test : X → Bool) (x : X) (xs : List X) → find test xs ≡ Some x → any_pass test xs ≡ true
found-passes test x [] e = absurd (some-there x e)
found-passes test x (y ∷ ys) e = by (test y) e (found-passes test x ys)
  where
    or-true : (b : Bool) → (b || true) ≡ true
    or-true true = refl
    or-true false = refl

    by : (b : Bool) → cond b (Some y) (find test ys) ≡ Some x → (find test ys ≡ Some x → any_pass test ys ≡ true) → (b || any_pass test ys) ≡ true
    by true e rest = refl
    by false e rest = rest e

pub found-among : (place : Place) (test : Place → Bool) (xs : List Place) → find test xs ≡ Some place → any_pass (same_place place) xs ≡ true
found-among place test [] e = absurd (some-there place e)
found-among place test (y ∷ ys) e = by (test y) e (found-among place test ys)
  where
    or-true : (b : Bool) → (b || true) ≡ true
    or-true true = refl
    or-true false = refl

    by : (b : Bool) → cond b (Some y) (find test ys) ≡ Some place → (find test ys ≡ Some place → any_pass (same_place place) ys ≡ true) → (same_place place y || any_pass (same_place place) ys) ≡ true
    by true e rest = ap (λ b. b || any_pass (same_place place) ys) (ap (same_place place) (same_Some y place e) ∙ same-place-true place)
    by false e rest = ap (λ b. same_place place y || b) (rest e) ∙ or-true (same_place place y)

or-false : (b : Bool) → (b || false) ≡ b
or-false true = refl
or-false false = refl

module _ {Q : Type 0} (machine : Machine ⊤ Q) (p : ℕ) (v : Unnamed Q) (x : Q) (its : numbered_from_one p v.processes ≡ Some x) where
  stands-so : bare_standing machine v p ≡ Some (standing machine v.book.limits.steps (bare_can v p) x)
  stands-so = ap (option_map (standing machine v.book.limits.steps (bare_can v p))) its

  pub tested : (test : Standing → Bool) (s : Standing) → standing machine v.book.limits.steps (bare_can v p) x ≡ s → bare_stands test machine v p ≡ test s
  tested test s e = ap (λ o. any_pass test (list_of (λ x. x ∷ []) o)) (stands-so ∙ ap (λ s. Some s) e) ∙ or-false (test s)

module _ {Q : Type 0} (machine : Machine ⊤ Q) (p : ℕ) (b : BareWorked Q) (x : Q) where
  -- what is kept behind what was done
  abbrev pub kept_after : (v : Unnamed Q) → List ℕ → Kept → Kept
  kept_after v ps k = all_looked_by (bare_can_step machine v) (bare_awaited machine v) (bare_open v) ps k

  turned : (e : Event) (m : BareMoved Q) → bare_turn machine b.system p ≡ Some e → bare_step machine e b.system ≡ Some m
      → bare_stepped machine p b ≡ Some (record { system = m.system; kept = bare_kept machine m.system e m.done b.kept })
  turned e m turn moved = ap (λ o. made_bare_turn machine o b) turn ∙ ap (option_map (λ (m : BareMoved Q). record { system = m.system; kept = bare_kept machine m.system e m.done b.kept })) moved

  module _ (y : Q) (s : StepsTo machine p b.system x y) where
    is-so : standing machine b.system.book.limits.steps (bare_can b.system p) x ≡ local
    is-so = ap (λ r. seen_as r (can_be_done (bare_can b.system p) (machine.wanted x))) s.next

    pub steps-now : bare_stands is_local machine b.system p ≡ true
    steps-now = tested machine p b.system x s.its is_local local is-so

    pub turn-steps : bare_turn machine b.system p ≡ Some (steps p)
    turn-steps = ap (λ t. cond t (Some (steps p)) (cond (bare_stands is_acting machine b.system p) (Some (acts p (place_or_book (bare_place machine b.system p)))) None)) steps-now

    moved-steps : bare_step machine (steps p) b.system ≡ Some (record { system = set_bare_process p y b.system; done = None })
    moved-steps =
        ap (λ t. cond t (option_and_then (λ x. option_map (λ y. record { system = set_bare_process p y b.system; done = None }) (machine.local_step x)) (numbered_from_one p b.system.processes)) None) steps-now
        ∙ ap (option_and_then (λ x. option_map (λ y. record { system = set_bare_process p y b.system; done = None }) (machine.local_step x))) s.its
        ∙ ap (option_map (λ y. record { system = set_bare_process p y b.system; done = None })) s.left

    pub local-stepped : bare_stepped machine p b ≡ Some (record { system = set_bare_process p y b.system; kept = kept_after (set_bare_process p y b.system) (p ∷ []) b.kept })
    local-stepped = turned (steps p) (record { system = set_bare_process p y b.system; done = None }) turn-steps moved-steps

  module _ (want : CellWant ⊤) (place : Place) (h : PlaceState (Cell ⊤) (CellReply ⊤)) (a : CellAction ⊤) (y : Q) (s : ActsAt machine p b.system x want place h a y) where
    acting-so : standing machine b.system.book.limits.steps (bare_can b.system p) x ≡ acting
    acting-so =
        ap (λ r. seen_as r (can_be_done (bare_can b.system p) (machine.wanted x))) s.next
        ∙ ap (λ o. cond (can_be_done (bare_can b.system p) o) acting waiting) s.wants
        ∙ ap (λ c. cond c acting waiting) (found-passes (λ place. is_some (option_and_then (done_at want) (bare_at place b.system))) place (places_for p want) s.first)

    pub acts-now : bare_stands is_acting machine b.system p ≡ true
    acts-now = tested machine p b.system x s.its is_acting acting acting-so

    pub among : any_pass (same_place place) (places_for p want) ≡ true
    among = found-among place (λ place. is_some (option_and_then (done_at want) (bare_at place b.system))) (places_for p want) s.first

    at-first : bare_place machine b.system p ≡ Some place
    at-first =
        ap (option_and_then (λ x. option_and_then (λ w. first_place_for b.system p w) (machine.wanted x))) s.its
        ∙ ap (option_and_then (λ w. first_place_for b.system p w)) s.wants
        ∙ s.first

    pub turn-acts : bare_turn machine b.system p ≡ Some (acts p place)
    turn-acts =
        ap (λ t. cond t (Some (steps p)) (cond (bare_stands is_acting machine b.system p) (Some (acts p (place_or_book (bare_place machine b.system p)))) None)) (tested machine p b.system x s.its is_local acting acting-so)
        ∙ ap (λ t. cond t (Some (acts p (place_or_book (bare_place machine b.system p)))) None) acts-now
        ∙ ap (λ o. Some (acts p (place_or_book o))) at-first

    -- what is left, if what the action makes can be made
    abbrev pub left_by : Option (Unnamed Q) → Option (BareMoved Q)
    left_by o = option_map (λ t. record { system = t; done = Some a }) o

    pub moves-as : bare_step machine (acts p place) b.system ≡ left_by (with_bare machine a (set_bare_process p y (set_bare place (after a h) b.system)))
    moves-as =
        ap (λ t. cond t (option_and_then (λ x. option_and_then (bare_act machine p place b.system x) (machine.wanted x)) (numbered_from_one p b.system.processes)) None) acts-now
        ∙ ap (option_and_then (λ x. option_and_then (bare_act machine p place b.system x) (machine.wanted x))) s.its
        ∙ ap (option_and_then (bare_act machine p place b.system x)) s.wants
        ∙ ap (λ t. cond t (option_and_then (λ h. option_and_then (bare_behind machine p place b.system x h) (done_at want h)) (bare_at place b.system)) None) among
        ∙ ap (option_and_then (λ h. option_and_then (bare_behind machine p place b.system x h) (done_at want h))) s.holds
        ∙ ap (option_and_then (bare_behind machine p place b.system x h)) s.does
        ∙ ap (option_and_then (λ y. option_map (λ t. record { system = t; done = Some a }) (with_bare machine a (set_bare_process p y (set_bare place (after a h) b.system))))) s.answered

    -- where the step is there, so is what is left
    pub left-there : (c : BareWorked Q) → bare_stepped machine p b ≡ Some c → (w : Unnamed Q) × (with_bare machine a (set_bare_process p y (set_bare place (after a h) b.system)) ≡ Some w)
    left-there c e =
        let m = map-some (λ (m : BareMoved Q). record { system = m.system; kept = bare_kept machine m.system (acts p place) m.done b.kept }) (bare_step machine (acts p place) b.system) c (sym (ap (λ o. made_bare_turn machine o b) turn-acts) ∙ e) in
        let t = map-some (λ (t : Unnamed Q). record { system = t; done = Some a }) (with_bare machine a (set_bare_process p y (set_bare place (after a h) b.system))) m.0 (sym moves-as ∙ m.1) in
        (t.0, t.1)

    module _ (w : Unnamed Q) (left : with_bare machine a (set_bare_process p y (set_bare place (after a h) b.system)) ≡ Some w) where
      pub moved-acts : bare_step machine (acts p place) b.system ≡ Some (record { system = w; done = Some a })
      moved-acts = moves-as ∙ ap left_by left

      pub acts-stepped : bare_stepped machine p b
          ≡ Some (record { system = w; kept = kept_after w (p ∷ woken_by place a b.kept.waiters) (record { ready = b.kept.ready; waiters = waiters_behind place a b.kept.waiters }) })
      acts-stepped = turned (acts p place) (record { system = w; done = Some a }) turn-acts moved-acts
