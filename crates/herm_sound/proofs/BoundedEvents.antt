-- The limits bound the events of a run.
use Rattle.std.proofs.Common.{◌≡◌, ◌⊎◌, inl, inr, ℕ, zero, suc, ◌+◌, ◌≤◌, ◌<◌, List, [], ◌∷◌, length, Bool, true, false, cond, Option, Some, None, slice_set, refl, sym, ap, subst, ◌∙◌, arith}
use Rattle.std.specs.Prelude.{nat_lt, ◌&&◌, ◌*◌, max}
use Rattle.std.proofs.lemmas.Bool.Decides.{nat_tests}
use Rattle.std.proofs.lemmas.Nat.{mul-le}
use Rattle.herm_model.specs.Lists.{IsIn, total, list_of}
use Rattle.herm_model.specs.Values.{Name}
use Rattle.herm_model.proofs.FactTests.{got-IsIn}
use Rattle.herm_model.proofs.Lists.{and-both, in-append_cases, total-append}
use Rattle.herm_model.proofs.Options.{some-injective, none-not_some, chain-some, map-some}
use Rattle.herm_journal.specs.Actions.{make_port, make_process}
use Rattle.herm_journal.specs.NextNumbers.{Book, Limits}
use Rattle.herm_journal.specs.PlaceStates.{after}
use Rattle.herm_journal.specs.Entries.{Text, Place}
use Rattle.herm_journal.specs.Messages.{CellWant, CellAction}
use Rattle.herm_system.specs.Machines.{Machine, is_local, is_acting, greatest_actions, inport_of}
use Rattle.herm_system.specs.Sound.{IsNumbered}
use Rattle.herm_system.specs.Systems.{System, Moved, Event, steps, acts, Run, run, run_on, step, start, main_port, opening, can, can_be_done, numbered_from_one, set_from_one, set_process, set_holding, holding_at, with_made, number_of}
use Rattle.herm_runs.specs.laws.ProcessLaws.{KeepsNumbers}
use Rattle.herm_runs.proofs.ActionParts.{action-parts, step-parts}
use Rattle.herm_runs.proofs.Numbered.{step-numbered, opening-numbered, process-counts}
use Rattle.herm_runs.proofs.RoundsEnd.{made-book}
use Rattle.herm_runs.proofs.Stands.{seen-local, seen-acting, stands-as, place-limits}
use Rattle.herm_runs.proofs.SystemLedger.{processes-stay, total-from_one}
use Rattle.herm_sound.specs.SoundMachines.{KeepsLimits}
use Rattle.herm_sound.specs.laws.SoundLaws.{most_events}
use Rattle.herm_sound.proofs.Acted.{Holding, IsAct, port_made, port_refused, process_made, process_refused, placed, came_back, taken, closed, answered, heard, acted}
use Rattle.herm_sound.proofs.Places.{book-there}

-- what is in a list with one element set
set-in : {X : Type 0} (xs : List X) (i : ℕ) (y z : X) → IsIn z (slice_set xs i y) → (z ≡ y) ⊎ IsIn z xs
set-in [] i y z h = absurd h
set-in (x ∷ xs) zero y z (inl e) = inl e
set-in (x ∷ xs) zero y z (inr h) = inr (inr h)
set-in (x ∷ xs) (suc i) y z (inl e) = inr (inl e)
set-in (x ∷ xs) (suc i) y z (inr h) = by (set-in xs i y z h)
  where
    by : (z ≡ y) ⊎ IsIn z xs → (z ≡ y) ⊎ IsIn z (x ∷ xs)
    by (inl e) = inl e
    by (inr h) = inr (inr h)

set-in_from_one : {X : Type 0} (p : ℕ) (xs : List X) (y z : X) → IsIn z (set_from_one p y xs) → (z ≡ y) ⊎ IsIn z xs
set-in_from_one zero xs y z h = inr h
set-in_from_one (suc i) xs y z h = set-in xs i y z h

in-from_one : {X : Type 0} (p : ℕ) (xs : List X) (x : X) → numbered_from_one p xs ≡ Some x → IsIn x xs
in-from_one zero xs x e = none-not_some e
in-from_one (suc i) xs x e = got-IsIn xs i x e

-- the sum of what is each at most so much
total-bound : {X : Type 0} (f : X → ℕ) (most : ℕ) (xs : List X) → ((x : X) → IsIn x xs → f x ≤ most) → total f xs ≤ length xs * most
total-bound f most [] h = omega arith
total-bound f most (x ∷ xs) h = omega (arith, h x (inl refl), total-bound f most xs (λ y i. h y (inr i)))

module _ {P : Type 0} (machine : Machine Name P) (keeps : KeepsNumbers machine) (counts : KeepsLimits machine) (limits : Limits) where
  abbrev spent_by : P → ℕ
  spent_by x = machine.steps x + machine.actions x

  abbrev IsWithin : P → Type 0
  IsWithin x = (machine.steps x ≤ limits.steps) × (machine.actions x ≤ greatest_actions)

  -- so many events are spent at least
  record Spends (n : ℕ) (s : System P) : Type 0 where
    limited : s.book.limits ≡ limits
    numbers : IsNumbered machine s
    few : s.book.processes ≤ max 1 limits.processes
    each : (x : P) → IsIn x s.processes → IsWithin x
    spent : n ≤ total spent_by s.processes

  spends-most : (n : ℕ) (s : System P) → Spends n s → n ≤ most_events limits
  spends-most n s spends =
      let sum = total-bound spent_by (limits.steps + greatest_actions) s.processes (λ x h. let k = spends.each x h in omega (arith, k.0, k.1)) in
      let many = mul-le (length s.processes) (limits.steps + greatest_actions) (max 1 limits.processes) (limits.steps + greatest_actions) (omega (arith, spends.few, spends.numbers.book.0)) (omega arith) in
      omega (arith, spends.spent, sum, many)

  -- of a list with one element set
  set-each : (p : ℕ) (y : P) (xs : List P) → ((x : P) → IsIn x xs → IsWithin x) → IsWithin y → (x : P) → IsIn x (set_from_one p y xs) → IsWithin x
  set-each p y xs each own x h = by (set-in_from_one p xs y x h)
    where
      by : (x ≡ y) ⊎ IsIn x xs → IsWithin x
      by (inl e) = subst IsWithin (sym e) own
      by (inr h) = each x h

  -- with what an action makes
  record Makes (s t : System P) : Type 0 where
    each : ((x : P) → IsIn x s.processes → IsWithin x) → (x : P) → IsIn x t.processes → IsWithin x
    spent : total spent_by t.processes ≡ total spent_by s.processes

  makes-more : (x : P) (a : CellAction Name) (s t : System P) → with_made machine x a s ≡ Some t → Makes s t
  makes-more x (make_port (Some n)) s t e = subst (Makes s) (some-injective e) (record { each = λ each. each; spent = refl })
  makes-more x (make_process code (Some made)) s t e =
      let m = map-some _ (machine.begin code made.0 (inport_of machine made.1 x)) t e in
      let none = counts.begins code made.0 (inport_of machine made.1 x) m.0 m.1 in
      subst (Makes s) m.2 (record {
        each = λ each z h. by m.0 none each z (in-append_cases z s.processes (m.0 ∷ []) h);
        spent = omega (arith, total-append spent_by s.processes (m.0 ∷ []), none.0, none.1);
      })
    where
      by : (y : P) → (machine.steps y ≡ 0) × (machine.actions y ≡ 0) → ((x : P) → IsIn x s.processes → IsWithin x) → (z : P) → IsIn z s.processes ⊎ IsIn z (y ∷ []) → IsWithin z
      by y none each z (inl h) = each z h
      by y none each z (inr (inl e)) = subst IsWithin (sym e) (omega (arith, none.0), omega (arith, none.1))
      by y none each z (inr (inr h)) = absurd h
  makes-more x a s t e = subst (Makes s) (some-injective e) (record { each = λ each. each; spent = refl })

  local-spends : (n p : ℕ) (s : System P) (m : Moved P) → step machine (steps p) s ≡ Some m → Spends n s → Spends (suc n) m.system
  local-spends n p s m e spends =
      let parts = step-parts machine p s m e in
      let x = parts.state in
      let y = parts.left.0 in
      let limit = s.book.limits.steps in
      let ready = sym (seen-local (machine.ready limit x) (can_be_done (can s p) (machine.wanted x))) ∙ sym (stands-as is_local machine s p x parts.is) ∙ parts.stands in
      let k = counts.local_steps limit x y ready parts.left.1 in
      let same : limit ≡ limits.steps = ap (λ (l : Limits). l.steps) spends.limited in
      let before = spends.each x (in-from_one p s.processes x parts.is) in
      let numbers = step-numbered machine keeps (steps p) s m e spends.numbers in
      let set = total-from_one spent_by s.processes p x y parts.is in
      subst (λ (m : Moved P). Spends (suc n) m.system) parts.moved (record {
        limited = spends.limited;
        numbers = subst (λ (m : Moved P). IsNumbered machine m.system) (sym parts.moved) numbers;
        few = spends.few;
        each = set-each p y s.processes spends.each (omega (arith, k.0, k.2, same), omega (arith, k.1, before.1));
        spent = omega (arith, spends.spent, set, k.0, k.1);
      })

  -- processes stay few
  few-more : (b : Book) (t : Bool) → (cond t (record b { ports = suc b.ports }) b).processes ≡ b.processes
  few-more b true = refl
  few-more b false = refl

  less-by : (m n : ℕ) (b : Bool) → (nat_lt m n && b) ≡ true → m < n
  less-by m n b e = let h = (and-both (nat_lt m n) b e).0 in grind (arith, nat_tests)

  passed : {X : Type 0} (b : Bool) (x y : X) → cond b (Some x) None ≡ Some y → b ≡ true
  passed true x y e = refl
  passed false x y e = none-not_some e

  act-few : (p : ℕ) (w : CellWant Name) (place : Place) (h : Holding) (a : CellAction Name) → IsAct p w place h a → (s : System P) → holding_at place s ≡ Some h → s.book.limits ≡ limits → s.book.processes ≤ max 1 limits.processes
      → (set_holding place (after a h) s).book.processes ≤ max 1 limits.processes
  act-few p w place h a (port_made b n e) s at of few =
      let same = book-there s b at in omega (arith, few, few-more b (nat_lt b.ports b.limits.ports), ap (λ (b : Book). b.processes) same)
  act-few p w place h a (port_refused b e) s at of few =
      let same = book-there s b at in omega (arith, few, few-more b (nat_lt b.ports b.limits.ports), ap (λ (b : Book). b.processes) same)
  act-few p w place h a (process_made code b made e) s at of few =
      let same = book-there s b at in
      let t = nat_lt b.processes b.limits.processes && nat_lt b.ports b.limits.ports in
      let k = process-counts b t made e in
      let less = less-by b.processes b.limits.processes (nat_lt b.ports b.limits.ports) (passed t _ made e) in
      let bound : b.limits.processes ≡ limits.processes = ap (λ (b : Book). b.limits.processes) (sym same) ∙ ap (λ (l : Limits). l.processes) of in
      omega (arith, k.2, less, bound)
  act-few p w place h a (process_refused code b e) s at of few =
      let same = book-there s b at in
      let t = nat_lt b.processes b.limits.processes && nat_lt b.ports b.limits.ports in
      omega (arith, few, refused b t e, ap (λ (b : Book). b.processes) same)
    where
      refused : (b : Book) (t : Bool) → cond {A = Option (ℕ × ℕ)} t (Some (suc b.processes, suc b.ports)) None ≡ None → (cond t (record b { ports = suc b.ports; processes = suc b.processes }) b).processes ≡ b.processes
      refused b true e = none-not_some (sym e)
      refused b false e = refl
  act-few p w place h a (placed n m q k) s at of few = few
  act-few p w place h a (came_back n m q k) s at of few = few
  act-few p w place h a (taken ports n among b i m q k) s at of few = few
  act-few p w place h a (closed n b q k) s at of few = few
  act-few p w place h a (answered caller call r rs) s at of few = few
  act-few p w place h a (heard k r rs) s at of few = few

  action-spends : (n p : ℕ) (place : Place) (s : System P) (m : Moved P) → step machine (acts p place) s ≡ Some m → Spends n s → Spends (suc n) m.system
  action-spends n p place s m e spends =
      let parts = action-parts machine p place s m e in
      let x = parts.state in
      let y = parts.left.0 in
      let w = parts.want.0 in
      let h = parts.at.0 in
      let a = parts.did.0 in
      let s0 = set_holding place (after a h) s in
      let s1 = set_process p y s0 in
      let limit = s.book.limits.steps in
      let seen = seen-acting (machine.ready limit x) (can_be_done (can s p) (machine.wanted x)) (sym (stands-as is_acting machine s p x parts.is) ∙ parts.stands) in
      let k = counts.answers limit x y (number_of place) a (ap is_acting seen.0) parts.left.1 in
      let limited : limit ≡ limits.steps = ap (λ (l : Limits). l.steps) spends.limited in
      let before = spends.each x (in-from_one p s.processes x parts.is) in
      let own : IsWithin y = (let le = k.3 (omega (arith, before.0, limited)) in omega (arith, le, limited), omega (arith, k.0, k.1)) in
      let numbers = step-numbered machine keeps (acts p place) s m e spends.numbers in
      let same = processes-stay place (after a h) s in
      let set = total-from_one spent_by s.processes p x y parts.is in
      let put : total spent_by s1.processes ≡ total spent_by (set_from_one p y s.processes) = ap (λ xs. total spent_by (set_from_one p y xs)) same in
      let more = makes-more x a s1 parts.makes.0 parts.makes.1 in
      let books : (parts.makes.0).book ≡ s0.book = made-book machine x a s1 parts.makes.0 parts.makes.1 in
      subst (λ (m : Moved P). Spends (suc n) m.system) parts.moved (record {
        limited = ap (λ (b : Book). b.limits) books ∙ place-limits place h a s parts.at.1 ∙ spends.limited;
        numbers = subst (λ (m : Moved P). IsNumbered machine m.system) (sym parts.moved) numbers;
        few = let le = act-few p w place h a (acted p w place h a parts.there parts.did.1) s parts.at.1 spends.limited spends.few in omega (arith, le, ap (λ (b : Book). b.processes) books);
        each = more.each (λ z i. set-each p y s.processes spends.each own z (subst (λ xs. IsIn z (set_from_one p y xs)) same i));
        spent = omega (arith, spends.spent, more.spent, put, set, k.0, k.2);
      })

  run-spends : (events : List Event) (n : ℕ) (r t : Run P) → run machine events r ≡ Some t → Spends n r.system → Spends (length events + n) t.system
  run-spends [] n r t e spends = subst (λ (r : Run P). Spends (0 + n) r.system) (some-injective e) (subst (λ k. Spends k r.system) (let p : n ≡ 0 + n = omega arith in p) spends)
  run-spends (e ∷ events) n r t is spends =
      let b = chain-some (run machine events) (run_on machine e r) t is in
      let m = map-some _ (step machine e r.system) b.0 b.1 in
      let next = subst (λ (r : Run P). Spends (suc n) r.system) m.2 (one e r.system m.0 m.1 spends) in
      subst (λ k. Spends k t.system) (let p : length events + suc n ≡ suc (length events) + n = omega arith in p) (run-spends events (suc n) b.0 t b.2 next)
    where
      one : (e : Event) (s : System P) (m : Moved P) → step machine e s ≡ Some m → Spends n s → Spends (suc n) m.system
      one (steps p) s m is spends = local-spends n p s m is spends
      one (acts p place) s m is spends = action-spends n p place s m is spends

  first-spends : (argument : Text) (first : P) → machine.begin machine.main 1 main_port ≡ Some first → Spends 0 (opening machine limits argument)
  first-spends argument first is =
      let numbers = opening-numbered machine keeps limits argument first is in
      let none = counts.begins machine.main 1 main_port first is in
      record {
        limited = refl;
        numbers = numbers;
        few = omega arith;
        each = λ x h. by none x (subst (λ o. IsIn x (list_of (λ x. x ∷ []) o)) is h);
        spent = omega arith;
      }
    where
      by : (machine.steps first ≡ 0) × (machine.actions first ≡ 0) → (x : P) → IsIn x (first ∷ []) → IsWithin x
      by none x (inl e) = subst IsWithin (sym e) (omega (arith, none.0), omega (arith, none.1))
      by none x (inr h) = absurd h

  pub events-bounded : (argument : Text) (first : P) (events : List Event) (r : Run P) → machine.begin machine.main 1 main_port ≡ Some first → run machine events (start machine limits argument) ≡ Some r → length events ≤ most_events limits
  events-bounded argument first events r is e =
      let spends = run-spends events 0 (start machine limits argument) r e (first-spends argument first is) in
      let all = spends-most (length events + 0) r.system spends in
      omega (arith, all)
