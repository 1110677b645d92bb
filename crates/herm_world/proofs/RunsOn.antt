-- How runs go on: their limits stay, and turns, rounds and schedules go on one by one.
use Rattle.std.proofs.Common.{◌≡◌, ℕ, zero, suc, ◌+◌, ◌≤◌, List, [], ◌∷◌, ◌++◌, Bool, true, false, cond, ◌||◌, Option, Some, None, refl, sym, ap, subst, ◌∙◌, arith}
use Rattle.std.specs.Prelude.{nat_eq, nat_lt}
use Rattle.std.proofs.lemmas.Bool.Decides.{nat_tests}
use Rattle.herm_model.specs.Values.{Name}
use Rattle.herm_model.proofs.Options.{some-injective, none-not_some, chain-some, map-some}
use Rattle.herm_journal.specs.Actions.{make_port, make_process, put, take, close, answer, hear}
use Rattle.herm_journal.specs.Messages.{CellAction}
use Rattle.herm_journal.specs.NextNumbers.{Book}
use Rattle.herm_journal.specs.PlaceStates.{after}
use Rattle.herm_system.specs.Machines.{Machine}
use Rattle.herm_system.specs.Systems.{System, Moved, Event, steps, acts, step, Run, run, run_on, set_process, set_holding, with_entry}
use Rattle.herm_runs.proofs.ActionParts.{action-parts, step-parts}
use Rattle.herm_runs.proofs.Numbered.{BookMoves, book-moves}
use Rattle.herm_runs.proofs.RoundsEnd.{made-book}
use Rattle.herm_waking.specs.KeptRounds.{Worked, stepped, kept_turns, kept_rounds, scheduled, is_some_kept}
use Rattle.herm_waking.specs.Numbers.{has, next_from}

-- the limits stay
limits-port : (b : Book) (t : Bool) → (cond t (record b { ports = suc b.ports }) b).limits ≡ b.limits
limits-port b true = refl
limits-port b false = refl

limits-process : (b : Book) (t : Bool) → (cond t (record b { ports = suc b.ports; processes = suc b.processes }) b).limits ≡ b.limits
limits-process b true = refl
limits-process b false = refl

limits-moves : (a : CellAction Name) (b c : Book) → BookMoves a b c → c.limits ≡ b.limits
limits-moves (make_port made) b c moves = ap (λ (b : Book). b.limits) moves.1 ∙ limits-port b (nat_lt b.ports b.limits.ports)
limits-moves (make_process code made) b c moves = ap (λ (b : Book). b.limits) moves.1 ∙ limits-process b _
limits-moves (put number m) b c moves = ap (λ (b : Book). b.limits) moves
limits-moves (take number m) b c moves = ap (λ (b : Book). b.limits) moves
limits-moves (close count left) b c moves = ap (λ (b : Book). b.limits) moves
limits-moves (answer call r) b c moves = ap (λ (b : Book). b.limits) moves
limits-moves (hear call r) b c moves = ap (λ (b : Book). b.limits) moves

limits-step : {P : Type 0} (machine : Machine Name P) (e : Event) (s : System P) (m : Moved P) → step machine e s ≡ Some m → m.system.book.limits ≡ s.book.limits
limits-step machine (steps p) s m is = let parts = step-parts machine p s m is in ap (λ (m : Moved _). m.system.book.limits) (sym parts.moved)
limits-step machine (acts p place) s m is =
    let parts = action-parts machine p place s m is in
    let left = set_holding place (after parts.did.0 parts.at.0) s in
    ap (λ (m : Moved _). m.system.book.limits) (sym parts.moved)
    ∙ ap (λ (b : Book). b.limits) (made-book machine parts.state parts.did.0 (set_process p parts.left.0 left) parts.makes.0 parts.makes.1)
    ∙ limits-moves parts.did.0 s.book left.book (book-moves parts.want.0 place s parts.at.0 parts.did.0 parts.at.1 parts.did.1)

pub run-limits : {P : Type 0} (machine : Machine Name P) (events : List Event) (r t : Run P) → run machine events r ≡ Some t → t.system.book.limits ≡ r.system.book.limits
run-limits machine [] r t is = ap (λ (r : Run _). r.system.book.limits) (sym (some-injective is))
run-limits machine (e ∷ events) r t is =
    let b = chain-some (run machine events) (run_on machine e r) t is in
    let m = map-some (λ (m : Moved _). record { system = m.system; journal = with_entry r.journal e m.done }) (step machine e r.system) b.0 b.1 in
    run-limits machine events b.0 t b.2 ∙ ap (λ (r : Run _). r.system.book.limits) (sym m.2) ∙ limits-step machine e r.system m.0 m.1

-- the first number from one on is not below it, and is there
pub next-there : (from : ℕ) (qs : List ℕ) (q : ℕ) → next_from from qs ≡ Some q → (from ≤ q) × (has q qs ≡ true)
next-there from [] q is = none-not_some is
next-there from (x ∷ qs) q is = by (nat_lt x from) refl is (next-there from qs q)
  where
    by : (t : Bool) → nat_lt x from ≡ t → cond t (next_from from qs) (Some x) ≡ Some q → (next_from from qs ≡ Some q → (from ≤ q) × (has q qs ≡ true)) → (from ≤ q) × ((nat_eq q x || has q qs) ≡ true)
    by true e is again = let h = again is in (h.0, or-true (nat_eq q x) (has q qs) h.1)
      where
        or-true : (a b : Bool) → b ≡ true → (a || b) ≡ true
        or-true true b e = refl
        or-true false b e = e
    by false e is again = let same = some-injective is in (subst (λ y. from ≤ y) same (grind (arith, nat_tests)), ap (λ b. b || has q qs) (let own : nat_eq q x ≡ true = grind (arith, nat_tests) in own))

module _ {P : Type 0} (machine : Machine Name P) where
  -- turns
  pub turns-over : (rest from : ℕ) (w : Worked P) → next_from from w.kept.ready ≡ None → kept_turns rest machine from w ≡ Some w
  turns-over zero from w none = refl
  turns-over (suc rest) from w none = ap (λ o. elim o [ None ↦ Some w | Some q ↦ elim (stepped machine q w) [ None ↦ None | Some next ↦ kept_turns rest machine (suc q) next ] ]) none

  pub turns-next : (rest from q : ℕ) (w t : Worked P) → next_from from w.kept.ready ≡ Some q → stepped machine q w ≡ Some t → kept_turns (suc rest) machine from w ≡ kept_turns rest machine (suc q) t
  turns-next rest from q w t is does =
      ap (λ o. elim o [ None ↦ Some w | Some q ↦ elim (stepped machine q w) [ None ↦ None | Some next ↦ kept_turns rest machine (suc q) next ] ]) is
      ∙ ap (λ o. elim o [ None ↦ None | Some next ↦ kept_turns rest machine (suc q) next ]) does

  -- rounds
  pub rounds-over : (n : ℕ) (w : Worked P) → w.kept.ready ≡ [] → kept_rounds (suc n) machine w ≡ Some w
  rounds-over n w none = ap (λ ready. elim (is_some_kept ready) [ false ↦ Some w | true ↦ elim (kept_turns w.run.system.book.limits.processes machine 1 w) [ None ↦ None | Some next ↦ kept_rounds n machine next ] ]) none

  pub rounds-next : (n : ℕ) (w t : Worked P) → (w.kept.ready ≡ [] → ⊥) → kept_turns w.run.system.book.limits.processes machine 1 w ≡ Some t → kept_rounds (suc n) machine w ≡ kept_rounds n machine t
  rounds-next n w t some is =
      ap (λ b. elim b [ false ↦ Some w | true ↦ elim (kept_turns w.run.system.book.limits.processes machine 1 w) [ None ↦ None | Some next ↦ kept_rounds n machine next ] ]) (by w.kept.ready some)
      ∙ ap (λ o. elim o [ None ↦ None | Some next ↦ kept_rounds n machine next ]) is
    where
      by : (ps : List ℕ) → (ps ≡ [] → ⊥) → is_some_kept ps ≡ true
      by [] some = absurd (some refl)
      by (p ∷ ps) some = refl

  pub rounds-more : (n more : ℕ) (w t : Worked P) → kept_rounds n machine w ≡ Some t → kept_rounds (n + more) machine w ≡ Some t
  rounds-more zero more w t is = none-not_some is
  rounds-more (suc n) more w t is = ap (λ k. kept_rounds k machine w) (let e : suc n + more ≡ suc (n + more) = omega arith in e) ∙ by (is_some_kept w.kept.ready) is (λ next is. rounds-more n more next t is)
    where
      inner : (o : Option (Worked P)) → elim o [ None ↦ None | Some next ↦ kept_rounds n machine next ] ≡ Some t → ((next : Worked P) → kept_rounds n machine next ≡ Some t → kept_rounds (n + more) machine next ≡ Some t)
          → elim o [ None ↦ None | Some next ↦ kept_rounds (n + more) machine next ] ≡ Some t
      inner None is again = none-not_some is
      inner (Some next) is again = again next is

      by : (b : Bool) → elim b [ false ↦ Some w | true ↦ elim (kept_turns w.run.system.book.limits.processes machine 1 w) [ None ↦ None | Some next ↦ kept_rounds n machine next ] ] ≡ Some t
          → ((next : Worked P) → kept_rounds n machine next ≡ Some t → kept_rounds (n + more) machine next ≡ Some t)
          → elim b [ false ↦ Some w | true ↦ elim (kept_turns w.run.system.book.limits.processes machine 1 w) [ None ↦ None | Some next ↦ kept_rounds (n + more) machine next ] ] ≡ Some t
      by false is again = is
      by true is again = inner (kept_turns w.run.system.book.limits.processes machine 1 w) is again

  -- schedules
  pub scheduled-next : (ps : List ℕ) (p : ℕ) (w t u : Worked P) → scheduled ps machine w ≡ Some t → stepped machine p t ≡ Some u → scheduled (ps ++ p ∷ []) machine w ≡ Some u
  scheduled-next [] p w t u is does = ap (λ o. elim o [ None ↦ None | Some next ↦ Some next ]) (ap (stepped machine p) (some-injective is) ∙ does)
  scheduled-next (q ∷ ps) p w t u is does = by (stepped machine q w) is (λ next is. scheduled-next ps p next t u is does)
    where
      by : (o : Option (Worked P)) → elim o [ None ↦ None | Some next ↦ scheduled ps machine next ] ≡ Some t → ((next : Worked P) → scheduled ps machine next ≡ Some t → scheduled (ps ++ p ∷ []) machine next ≡ Some u)
          → elim o [ None ↦ None | Some next ↦ scheduled (ps ++ p ∷ []) machine next ] ≡ Some u
      by None is again = none-not_some is
      by (Some next) is again = again next is
