-- Looking at processes again: who is kept and who is noted where.
use Rattle.std.proofs.Common.{◌≡◌, ◌⊎◌, inl, inr, ℕ, List, [], ◌∷◌, length, Bool, true, false, cond, Option, Some, None, slice_get, slice_set, refl, sym, ap, subst, ◌∙◌}
use Rattle.std.specs.Prelude.{nat_eq}
use Rattle.std.proofs.lemmas.Bool.{eqb-true, eqb-false}
use Rattle.herm_model.specs.Lists.{IsIn}
use Rattle.herm_model.specs.Values.{Name, an_inport}
use Rattle.herm_journal.specs.Actions.{new_port, new_process, to_put, to_take, to_close, to_answer, to_hear}
use Rattle.herm_journal.specs.Messages.{CellWant}
use Rattle.herm_system.specs.Machines.{Machine, Standing, ended, out_of_steps, out_of_actions, waiting, local, acting}
use Rattle.herm_system.specs.Kinds.{is_open_port, kinds_by}
use Rattle.herm_system.specs.ProcessFates.{fate_as, fate_of}
use Rattle.herm_system.specs.Sound.{IsSoundWith}
use Rattle.herm_system.specs.Systems.{System, numbered_from_one, standing, can, can_step}
use Rattle.herm_runs.proofs.Histories.{get-other}
use Rattle.herm_runs.proofs.Numbered.{set-length}
use Rattle.herm_runs.proofs.order.EntryPaths.{same-or_not}
use Rattle.herm_runs.proofs.order.Commuting.{unequal-numbers}
use Rattle.herm_sound.specs.SoundMachines.{KeepsSound}
use Rattle.herm_sound.proofs.ReplyCells.{set-own}
use Rattle.herm_sound.proofs.KeptStanding.{there-too}
use Rattle.herm_sound.proofs.TypedCells.{in-list_of}
use Rattle.herm_waking.specs.Numbers.{has, AreRising, inserted, removed}
use Rattle.herm_waking.specs.Waking.{ports_of_wait, awaited, Kept, noted_at, looked_at, all_looked_at}
use Rattle.herm_waking.specs.laws.WakingLaws.{LooksAt}
use Rattle.herm_waking.proofs.HeldKinds.{held-kinds}
use Rattle.herm_waking.proofs.OneOwner.{one-owner, inport-open}
use Rattle.herm_waking.proofs.OthersStand.{open-there}
use Rattle.herm_waking.proofs.RisingNumbers.{inserted-own, inserted-other, removed-own, removed-other, rising-inserted, rising-removed}

-- who waits at ports wants to take from them
fate-ports : (r : Standing) (limit : ℕ) (exception : Option ℕ) (want : Option (CellWant Name)) (n : ℕ) → IsIn n (ports_of_wait (fate_as r limit exception want)) → (ports : List ℕ) × (want ≡ Some (to_take ports)) × IsIn n ports
fate-ports waiting limit exception (Some (to_take ports)) n h = (ports, refl, h)
fate-ports waiting limit exception None n h = absurd h
fate-ports waiting limit exception (Some new_port) n h = absurd h
fate-ports waiting limit exception (Some (new_process code)) n h = absurd h
fate-ports waiting limit exception (Some (to_put k m)) n h = absurd h
fate-ports waiting limit exception (Some (to_close k)) n h = absurd h
fate-ports waiting limit exception (Some (to_answer caller call r)) n h = absurd h
fate-ports waiting limit exception (Some to_hear) n h = absurd h
fate-ports ended limit None want n h = absurd h
fate-ports ended limit (Some e) want n h = absurd h
fate-ports out_of_steps limit exception want n h = absurd h
fate-ports out_of_actions limit exception want n h = absurd h
fate-ports local limit exception want n h = absurd h
fate-ports acting limit exception want n h = absurd h

pub awaits-looks : {P : Type 0} (machine : Machine Name P) (s : System P) (n q : ℕ) → IsIn n (awaited machine s q) → LooksAt machine s n q
awaits-looks machine s n q h =
    let x = in-list_of (λ x. ports_of_wait (fate_of machine s (q, x))) n (numbered_from_one q s.processes) h in
    let w = fate-ports (standing machine s.book.limits.steps (can s q) x.0) s.book.limits.steps (machine.exception x.0) (machine.wanted x.0) n x.2 in
    (x.0, w.0, x.1, w.1, w.2)

module _ {P : Type 0} (machine : Machine Name P) (Is : P → Type 0) (keeps : KeepsSound machine Is) (types : List ℕ) (s : System P) (sound : IsSoundWith machine Is types s) where
  looks-has : (n q : ℕ) (look : LooksAt machine s n q) → IsIn (an_inport n) (kinds_by machine look.0)
  looks-has n q look = let h = (keeps.wants look.0 (to_take look.1) (sound.processes q look.0 look.2) look.3) n look.4 in held-kinds machine look.0 h.0 (an_inport n) h.2

  -- one process looks at a port, and the port is open
  pub one-looks : (n p q : ℕ) → LooksAt machine s n p → LooksAt machine s n q → p ≡ q
  one-looks n p q a b = same-or_not p q (λ e. e) (λ apart. absurd (one-owner machine Is types s sound n p q a.0 b.0 a.2 b.2 (looks-has n p a) (looks-has n q b) apart))

  pub looks-open : (n q : ℕ) → LooksAt machine s n q → is_open_port s n ≡ true
  looks-open n q look = inport-open machine Is types s sound n q look.0 look.2 (looks-has n q look)

-- noting keeps the length
cond-length : (b : Bool) (ws : List (Option ℕ)) (n q : ℕ) → length (cond b (slice_set ws n (Some q)) ws) ≡ length ws
cond-length true ws n q = set-length ws n (Some q)
cond-length false ws n q = refl

module _ {P : Type 0} (s : System P) (q : ℕ) where
  noted-length : (ns : List ℕ) (ws : List (Option ℕ)) → length (noted_at (is_open_port s) q ns ws) ≡ length ws
  noted-length [] ws = refl
  noted-length (n ∷ ns) ws = noted-length ns (cond (is_open_port s n) (slice_set ws n (Some q)) ws) ∙ cond-length (is_open_port s n) ws n q

  -- where this process is noted it stays so
  noted-stays : (ns : List ℕ) (ws : List (Option ℕ)) (n : ℕ) → slice_get ws n ≡ Some (Some q) → slice_get (noted_at (is_open_port s) q ns ws) n ≡ Some (Some q)
  noted-stays [] ws n e = e
  noted-stays (k ∷ ns) ws n e = noted-stays ns (cond (is_open_port s k) (slice_set ws k (Some q)) ws) n (by (is_open_port s k))
    where
      by : (b : Bool) → slice_get (cond b (slice_set ws k (Some q)) ws) n ≡ Some (Some q)
      by false = e
      by true = same-or_not k n (λ same. subst (λ k. slice_get (slice_set ws k (Some q)) n ≡ Some (Some q)) (sym same) (set-own ws n (Some q) (Some q) e)) (λ apart. get-other ws k n (Some q) (unequal-numbers k n apart) ∙ e)

  noted-own : (ns : List ℕ) (ws : List (Option ℕ)) (n : ℕ) (old : Option ℕ) → IsIn n ns → is_open_port s n ≡ true → slice_get ws n ≡ Some old → slice_get (noted_at (is_open_port s) q ns ws) n ≡ Some (Some q)
  noted-own [] ws n old h opened there = absurd h
  noted-own (k ∷ ns) ws n old (inl same) opened there =
      noted-stays ns (cond (is_open_port s k) (slice_set ws k (Some q)) ws) n
      (subst (λ k. slice_get (cond (is_open_port s k) (slice_set ws k (Some q)) ws) n ≡ Some (Some q)) same (ap (λ b. slice_get (cond b (slice_set ws n (Some q)) ws) n) opened ∙ set-own ws n old (Some q) there))
  noted-own (k ∷ ns) ws n old (inr h) opened there = let still = by (is_open_port s k) in noted-own ns (cond (is_open_port s k) (slice_set ws k (Some q)) ws) n still.0 h opened still.1
    where
      by : (b : Bool) → (old : Option ℕ) × (slice_get (cond b (slice_set ws k (Some q)) ws) n ≡ Some old)
      by false = (old, there)
      by true = same-or_not k n (λ same. (Some q, subst (λ k. slice_get (slice_set ws k (Some q)) n ≡ Some (Some q)) (sym same) (set-own ws n old (Some q) there))) (λ apart. (old, get-other ws k n (Some q) (unequal-numbers k n apart) ∙ there))

  noted-other : (ns : List ℕ) (ws : List (Option ℕ)) (n : ℕ) → (IsIn n ns → ⊥) → slice_get (noted_at (is_open_port s) q ns ws) n ≡ slice_get ws n
  noted-other [] ws n h = refl
  noted-other (k ∷ ns) ws n h = noted-other ns (cond (is_open_port s k) (slice_set ws k (Some q)) ws) n (λ i. h (inr i)) ∙ by (is_open_port s k)
    where
      by : (b : Bool) → slice_get (cond b (slice_set ws k (Some q)) ws) n ≡ slice_get ws n
      by false = refl
      by true = get-other ws k n (Some q) (unequal-numbers k n (λ same. h (inl (sym same))))

in-or-not : (n : ℕ) (ns : List ℕ) → IsIn n ns ⊎ (IsIn n ns → ⊥)
in-or-not n [] = inr (λ h. absurd h)
in-or-not n (k ∷ ns) = same-or_not n k (λ same. inl (inl same)) (λ apart. by apart (in-or-not n ns))
  where
    neither : (n ≡ k → ⊥) → (IsIn n ns → ⊥) → IsIn n (k ∷ ns) → ⊥
    neither apart none (inl e) = apart e
    neither apart none (inr h) = none h

    by : (n ≡ k → ⊥) → IsIn n ns ⊎ (IsIn n ns → ⊥) → IsIn n (k ∷ ns) ⊎ (IsIn n (k ∷ ns) → ⊥)
    by apart (inl h) = inl (inr h)
    by apart (inr none) = inr (neither apart none)

pub is-in_or_not : (n : ℕ) (ns : List ℕ) → IsIn n ns ⊎ (IsIn n ns → ⊥)
is-in_or_not n ns = in-or-not n ns

-- looking again at processes, one after another
module _ {P : Type 0} (machine : Machine Name P) (s : System P) where
  pub all-length : (qs : List ℕ) (k : Kept) → length (all_looked_at machine s qs k).waiters ≡ length k.waiters
  all-length [] k = refl
  all-length (q ∷ qs) k = all-length qs (looked_at machine s q k) ∙ noted-length s q (awaited machine s q) k.waiters

  looked-rising : (b : Bool) (q : ℕ) (ps : List ℕ) → AreRising ps → AreRising (cond b (inserted q ps) (removed q ps))
  looked-rising true q ps h = rising-inserted q ps h
  looked-rising false q ps h = rising-removed q ps h

  pub all-rising : (qs : List ℕ) (k : Kept) → AreRising k.ready → AreRising (all_looked_at machine s qs k).ready
  all-rising [] k h = h
  all-rising (q ∷ qs) k h = all-rising qs (looked_at machine s q k) (looked-rising (can_step machine s q) q k.ready h)

  looked-own : (b : Bool) (q : ℕ) (ps : List ℕ) → has q (cond b (inserted q ps) (removed q ps)) ≡ b
  looked-own true q ps = inserted-own q ps
  looked-own false q ps = removed-own q ps

  looked-other : (b : Bool) (r q : ℕ) (ps : List ℕ) → nat_eq r q ≡ false → has r (cond b (inserted q ps) (removed q ps)) ≡ has r ps
  looked-other true r q ps e = inserted-other r q ps e
  looked-other false r q ps e = removed-other r q ps e

  pub all-has : (qs : List ℕ) (k : Kept) (q : ℕ) → IsIn q qs ⊎ (has q k.ready ≡ can_step machine s q) → has q (all_looked_at machine s qs k).ready ≡ can_step machine s q
  all-has [] k q (inl h) = absurd h
  all-has [] k q (inr e) = e
  all-has (r ∷ qs) k q given = all-has qs (looked_at machine s r k) q (by (nat_eq q r) refl given)
    where
      by : (b : Bool) → nat_eq q r ≡ b → IsIn q (r ∷ qs) ⊎ (has q k.ready ≡ can_step machine s q) → IsIn q qs ⊎ (has q (looked_at machine s r k).ready ≡ can_step machine s q)
      by true same given = inr (subst (λ r. has q (looked_at machine s r k).ready ≡ can_step machine s q) (eqb-true q r same) (looked-own (can_step machine s q) q k.ready))
      by false apart (inl (inl e)) = absurd (eqb-false q r apart e)
      by false apart (inl (inr h)) = inl h
      by false apart (inr e) = inr (looked-other (can_step machine s r) q r k.ready apart ∙ e)

  module _ (Is : P → Type 0) (keeps : KeepsSound machine Is) (types : List ℕ) (sound : IsSoundWith machine Is types s) where
    pub all-noted : (qs : List ℕ) (k : Kept) → length k.waiters ≡ length s.ports → (q n : ℕ) → IsIn n (awaited machine s q) → IsIn q qs ⊎ (slice_get k.waiters n ≡ Some (Some q)) → slice_get (all_looked_at machine s qs k).waiters n ≡ Some (Some q)
    all-noted [] k long q n waits (inl h) = absurd h
    all-noted [] k long q n waits (inr e) = e
    all-noted (r ∷ qs) k long q n waits given = all-noted qs (looked_at machine s r k) (noted-length s r (awaited machine s r) k.waiters ∙ long) q n waits (by (nat_eq q r) refl given)
      where
        own : slice_get (looked_at machine s q k).waiters n ≡ Some (Some q)
        own =
            let look = awaits-looks machine s n q waits in
            let opened = looks-open machine Is keeps types s sound n q look in
            let o = open-there s n opened in
            let old = there-too k.waiters s.ports n o.0 long o.1 in
            noted-own s q (awaited machine s q) k.waiters n old.0 waits opened old.1

        other : (nat_eq q r ≡ false) → slice_get k.waiters n ≡ Some (Some q) → slice_get (looked_at machine s r k).waiters n ≡ Some (Some q)
        other apart e = noted-other s r (awaited machine s r) k.waiters n (λ h. eqb-false q r apart (one-looks machine Is keeps types s sound n q r (awaits-looks machine s n q waits) (awaits-looks machine s n r h))) ∙ e

        by : (b : Bool) → nat_eq q r ≡ b → IsIn q (r ∷ qs) ⊎ (slice_get k.waiters n ≡ Some (Some q)) → IsIn q qs ⊎ (slice_get (looked_at machine s r k).waiters n ≡ Some (Some q))
        by true same given = inr (subst (λ r. slice_get (looked_at machine s r k).waiters n ≡ Some (Some q)) (eqb-true q r same) own)
        by false apart (inl (inl e)) = absurd (eqb-false q r apart e)
        by false apart (inl (inr h)) = inl h
        by false apart (inr e) = inr (other apart e)
