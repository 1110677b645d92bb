-- Along a run no port is closed twice.
use Rattle.std.proofs.Common.{◌≡◌, ℕ, zero, suc, ◌+◌, ◌≤◌, ◌<◌, List, [], ◌∷◌, ◌++◌, length, Bool, true, false, cond, Some, refl, sym, ap, subst, ◌∙◌, arith}
use Rattle.std.proofs.lemmas.Bool.{eqb-true}
use Rattle.std.specs.Prelude.{nat_eq, nat_lt, ◌&&◌}
use Rattle.std.proofs.lemmas.Bool.Decides.{nat_tests}
use Rattle.herm_model.specs.Lists.{list_of}
use Rattle.herm_model.specs.Values.{Name, a_callmessage, an_inport}
use Rattle.herm_model.proofs.Options.{some-injective, chain-some, map-some}
use Rattle.herm_journal.specs.Actions.{make_port, make_process, put, take, close, answer, hear}
use Rattle.herm_journal.specs.Ports.{empty_port}
use Rattle.herm_journal.specs.PlaceStates.{after}
use Rattle.herm_journal.specs.NextNumbers.{Limits}
use Rattle.herm_journal.specs.Entries.{Text, Place, port, same_place, Entry, recorded}
use Rattle.herm_journal.specs.Stamps.{entry_behind}
use Rattle.herm_journal.specs.Messages.{CellWant, CellAction}
use Rattle.herm_system.specs.Machines.{OpenCall, Machine, inport_of}
use Rattle.herm_system.specs.Kinds.{is_inport_of}
use Rattle.herm_system.specs.Sound.{one_if}
use Rattle.herm_system.specs.Summary.{how_many}
use Rattle.herm_system.specs.Systems.{System, Moved, Event, steps, acts, Run, run, run_on, step, start, with_made, with_entry, set_process, set_holding, number_of}
use Rattle.herm_runs.specs.Counting.{kinds_made, kinds_ended}
use Rattle.herm_runs.proofs.ActionParts.{action-parts, step-parts}
use Rattle.herm_runs.proofs.Numbered.{lengths-stay, more-length}
use Rattle.herm_sound.specs.SoundBeside.{IsSoundBeside}
use Rattle.herm_sound.specs.SoundMachines.{KeepsSound, BeginsSound}
use Rattle.herm_sound.specs.laws.SoundLaws.{is_close, closes, PortsCloseOnce}
use Rattle.herm_sound.proofs.Acted.{Holding, IsAct, port_made, port_refused, process_made, process_refused, placed, came_back, taken, closed, answered, heard, acted}
use Rattle.herm_sound.proofs.ActionChanges.{action-change}
use Rattle.herm_sound.proofs.Counted.{many-append}
use Rattle.herm_sound.proofs.MadeSystems.{made_port, no-inports, act-number}
use Rattle.herm_sound.proofs.OpenPorts.{open_at}
use Rattle.herm_sound.proofs.Places.{Ports}
use Rattle.herm_sound.proofs.KeptSound.{to-close-open, steps-keep-sound}
use Rattle.herm_sound.proofs.OpeningSound.{opening-is-sound}

-- a port that is not made yet
abbrev unmade : ℕ → Ports → ℕ
unmade n ports = cond (nat_lt n (length ports)) 0 1

unmade-past : (n : ℕ) (ports : Ports) → length ports ≤ n → unmade n ports ≡ 1
unmade-past n ports le = by (nat_lt n (length ports)) refl
  where
    by : (b : Bool) → nat_lt n (length ports) ≡ b → ◌≡◌ {A = ℕ} (cond b 0 1) 1
    by true e = let no_more : ⊥ = grind (arith, nat_tests) in absurd no_more
    by false e = refl

unmade-made : (n : ℕ) (ports : Ports) → n < length ports → unmade n ports ≡ 0
unmade-made n ports lt = by (nat_lt n (length ports)) refl
  where
    by : (b : Bool) → nat_lt n (length ports) ≡ b → ◌≡◌ {A = ℕ} (cond b 0 1) 0
    by true e = refl
    by false e = let no_more : ⊥ = grind (arith, nat_tests) in absurd no_more

same-unmade : (n : ℕ) (ports others : Ports) → length ports ≡ length others → unmade n ports ≡ unmade n others
same-unmade n ports others e = ap (λ k. cond {A = ℕ} (nat_lt n k) 0 1) e

-- one port more is made
one-made : (n i : ℕ) (ports : Ports) → i ≡ length ports → unmade n (ports ++ empty_port ∷ []) + how_many (is_inport_of n) (an_inport i ∷ []) ≡ unmade n ports
one-made n i ports last = by (nat_eq i n) refl
  where
    more : length (ports ++ empty_port ∷ []) ≡ suc (length ports)
    more = more-length ports empty_port

    differ : nat_eq i n ≡ false → (b c : Bool) → nat_lt n (suc (length ports)) ≡ b → nat_lt n (length ports) ≡ c → ◌≡◌ {A = ℕ} (cond b 0 1) (cond c 0 1)
    differ e true true f g = refl
    differ e false false f g = refl
    differ e true false f g = let no_more : ⊥ = grind (arith, nat_tests) in absurd no_more
    differ e false true f g = let no_more : ⊥ = grind (arith, nat_tests) in absurd no_more

    by : (b : Bool) → nat_eq i n ≡ b → unmade n (ports ++ empty_port ∷ []) + length (cond b (an_inport i ∷ []) []) ≡ unmade n ports
    by true e =
        let same : length ports ≡ n = sym last ∙ eqb-true i n e in
        omega (arith, unmade-made n (ports ++ empty_port ∷ []) (omega (arith, more, same)), unmade-past n ports (omega (arith, same)))
    by false e = omega (arith, ap (λ k. cond {A = ℕ} (nat_lt n k) 0 1) more, differ e (nat_lt n (suc (length ports))) (nat_lt n (length ports)) refl refl)

module _ {P : Type 0} (machine : Machine Name P) (x y : P) (n : ℕ) where
  made-unmade : (a : CellAction Name) (s t : System P) → with_made machine x a s ≡ Some t → ((i : ℕ) → made_port a ≡ Some i → i ≡ length s.ports) → unmade n t.ports + how_many (is_inport_of n) (kinds_made machine y a) ≡ unmade n s.ports
  made-unmade (make_port (Some i)) s t e last =
      subst (λ (t : System P). unmade n t.ports + how_many (is_inport_of n) (an_inport i ∷ []) ≡ unmade n s.ports) (some-injective e) (one-made n i s.ports (last i refl))
  made-unmade (make_process code (Some made)) s t e last =
      let m = map-some _ (machine.begin code made.0 (inport_of machine made.1 x)) t e in
      subst (λ (t : System P). unmade n t.ports + how_many (is_inport_of n) (an_inport made.1 ∷ []) ≡ unmade n s.ports) m.2 (one-made n made.1 s.ports (last made.1 refl))
  made-unmade (put (Some k) m) s t e last =
      subst (λ (t : System P). unmade n t.ports + how_many (is_inport_of n) (list_of (λ (call : OpenCall). a_callmessage (machine.number y) call.number ∷ []) (machine.open_call y)) ≡ unmade n s.ports) (some-injective e)
      (omega (arith, no-inports n (machine.number y) (machine.open_call y)))
  made-unmade a s t e last = subst (λ (t : System P). unmade n t.ports + 0 ≡ unmade n s.ports) (some-injective e) (omega arith)

-- an entry is of a close as its action is
recorded-close : (a : CellAction Name) → is_close (recorded a) ≡ is_close a
recorded-close (make_port made) = refl
recorded-close (make_process code made) = refl
recorded-close (put k m) = refl
recorded-close (take k m) = refl
recorded-close (close count left) = refl
recorded-close (answer k r) = refl
recorded-close (hear k r) = refl

abbrev closing : ℕ → Place → CellAction Name → ℕ
closing n place a = one_if (same_place place (port n) && is_close a)

pub and-none : (b : Bool) → one_if (b && false) ≡ 0
and-none true = refl
and-none false = refl

act-closing : (p n : ℕ) (w : CellWant Name) (place : Place) (h : Holding) (a : CellAction Name) → IsAct p w place h a → closing n place a ≡ how_many (is_inport_of n) (kinds_ended w)
act-closing p n w place h a (closed i b q k) = by (nat_eq i n)
  where
    by : (b : Bool) → one_if (b && true) ≡ length (cond b (an_inport i ∷ []) [])
    by true = refl
    by false = refl
act-closing p n w place h a (port_made b i e) = refl
act-closing p n w place h a (port_refused b e) = refl
act-closing p n w place h a (process_made code b made e) = refl
act-closing p n w place h a (process_refused code b e) = refl
act-closing p n w place h a (placed i m q k) = and-none (nat_eq i n)
act-closing p n w place h a (came_back i m q k) = and-none (nat_eq i n)
act-closing p n w place h a (taken ports i among b j m q k) = and-none (nat_eq i n)
act-closing p n w place h a (answered caller call r rs) = refl
act-closing p n w place h a (heard k r rs) = refl

module _ {P : Type 0} (machine : Machine Name P) (Is : P → Type 0) (keeps : KeepsSound machine Is) where
  -- closes so far, and whether the port is open or not made yet
  abbrev IsOnce : ℕ → Run P → Type 0
  IsOnce n r = how_many (closes n) r.journal + one_if (open_at r.system.ports n) + unmade n r.system.ports ≡ 1

  one-entry : (journal : List Entry) (n p : ℕ) (place : Place) (a : CellAction Name) → how_many (closes n) (journal ++ entry_behind journal p place (recorded a) ∷ []) ≡ how_many (closes n) journal + closing n place a
  one-entry journal n p place a =
      omega (arith, many-append (closes n) journal (entry_behind journal p place (recorded a) ∷ []), by (same_place place (port n) && is_close (recorded a)) refl)
    where
      by : (b : Bool) → (same_place place (port n) && is_close (recorded a)) ≡ b → length (cond b (entry_behind journal p place (recorded a) ∷ []) []) ≡ closing n place a
      by true e = ap one_if (sym e ∙ ap (λ c. same_place place (port n) && c) (recorded-close a))
      by false e = ap one_if (sym e ∙ ap (λ c. same_place place (port n) && c) (recorded-close a))

  once-kept : (n : ℕ) (e : Event) (r : Run P) (m : Moved P) → step machine e r.system ≡ Some m → IsSoundBeside machine Is keeps.beside r.system → IsOnce n r → IsOnce n (record { system = m.system; journal = with_entry r.journal e m.done })
  once-kept n (steps p) r m e sound once =
      let parts = step-parts machine p r.system m e in
      subst (λ (m : Moved P). IsOnce n (record { system = m.system; journal = with_entry r.journal (steps p) m.done })) parts.moved once
  once-kept n (acts p place) r m e sound once =
      let s = r.system in
      let parts = action-parts machine p place s m e in
      let a = parts.did.0 in
      let w = parts.want.0 in
      let h = parts.at.0 in
      let act = acted p w place h a parts.there parts.did.1 in
      let change = action-change machine Is keeps sound.0 s sound.1.sound p place m parts in
      let ready = to-close-open machine Is keeps sound.0 s sound.1.sound parts.makes.0 p parts.state parts.left.0 (Some w) (number_of place) a change in
      let s1 = set_process p parts.left.0 (set_holding place (after a h) s) in
      let lengths = (lengths-stay place (after a h) s).1 in
      let last = act-number machine s sound.1.sound.numbers p w place h a act parts.at.1 in
      let made = made-unmade machine parts.state parts.left.0 n a s1 parts.makes.0 parts.makes.1 (λ i e. last i e ∙ sym lengths) in
      let same = same-unmade n s1.ports s.ports lengths in
      subst (λ (m : Moved P). IsOnce n (record { system = m.system; journal = with_entry r.journal (acts p place) m.done })) parts.moved
      (omega (arith, one-entry r.journal n p place a, act-closing p n w place h a act, change.opens ready n, made, same, once))

  once-along : (n : ℕ) (events : List Event) (r t : Run P) → run machine events r ≡ Some t → IsSoundBeside machine Is keeps.beside r.system → IsOnce n r → IsOnce n t
  once-along n [] r t e sound once = subst (IsOnce n) (some-injective e) once
  once-along n (e ∷ events) r t is sound once =
      let b = chain-some (run machine events) (run_on machine e r) t is in
      let m = map-some _ (step machine e r.system) b.0 b.1 in
      once-along n events b.0 t b.2 (subst (λ (r : Run P). IsSoundBeside machine Is keeps.beside r.system) m.2 (steps-keep-sound machine Is keeps e r.system m.0 m.1 sound))
      (subst (IsOnce n) m.2 (once-kept n e r m.0 m.1 sound once))

  first-once : (n : ℕ) (limits : Limits) (argument : Text) → IsOnce n (start machine limits argument)
  first-once zero limits argument = refl
  first-once (suc zero) limits argument = refl
  first-once (suc (suc n)) limits argument = by (nat_lt (suc (suc n)) 2) refl
    where
      by : (b : Bool) → nat_lt (suc (suc n)) 2 ≡ b → 0 + 0 + cond {A = ℕ} b 0 1 ≡ 1
      by true e = let no_more : ⊥ = grind (arith, nat_tests) in absurd no_more
      by false e = refl

  pub ports-close-once : BeginsSound machine keeps.first_type → PortsCloseOnce machine
  ports-close-once begins limits argument events r texts e n =
      let once = once-along n events (start machine limits argument) r e (opening-is-sound machine Is keeps begins limits argument texts) (first-once n limits argument) in
      ((λ lt. omega (arith, once, unmade-made n r.system.ports lt)), omega (arith, once))
