use Rattle.std.proofs.Common.{◌≡◌, ◌<◌, true, false, Option, Some, None, sym, ap, subst, arith, refl, true≢false}
use Rattle.std.specs.Prelude.{IsSome}
use Rattle.herm_events.specs.Rising.{DiaryState}
use Rattle.herm_events.specs.View.{action_view, place_view}
use Rattle.herm_process.specs.Kept.{process_state}
use Rattle.herm_process.specs.Processes.{ProcessState, FitsProcess, IsProcess, IsSettled}
use Rattle.herm_process.proofs.DiaryGrown.{above-last}
use Rattle.herm_process.proofs.KeptOn.{entered-kept, its-few, its-inside, its-out}
use Rattle.herm_process.proofs.Went.{settled, settled-there}
use Rattle.herm_process.specs.declared.ordered.Ordered.{Ordered}
use Rattle.herm_process.proofs.process.Process.settle.Goals as goal

-- the order that is out
there : (o : Option Ordered) → IsSome o → (q : Ordered) × (o ≡ Some q)
there None is = absurd (true≢false (sym is))
there (Some q) is = (q, refl)

pub entry_of-requires-clause-out : goal.entry_of-requires-clause-out
entry_of-requires-clause-out c = subst (λ (p : ProcessState). IsSome p.ordered) (sym c.self.view_is) c.requires.out

pub push-requires-clause-above : goal.push-requires-clause-above
push-requires-clause-above c =
    let late = subst (λ (p : ProcessState). p.clock < c.args.stamp.0) (sym c.self.view_is) c.requires.later in
    let k = c.self.invariant.kept in
    above-last c.self.inside.birth.stamp.0 c.args.stamp.0 c.self.inside.diary.entries k.later (omega (arith, k.at_clock, late))

pub take_in-requires-clause-ordered : goal.take_in-requires-clause-ordered
take_in-requires-clause-ordered c =
    let r = subst (λ p. FitsProcess p c.args.got) (sym c.self.view_is) c.requires.fits c.if-self.false in
    let q = there c.self.inside.ordered (subst (λ (p : ProcessState). IsSome p.ordered) (sym c.self.view_is) c.requires.out) in
    its-out r.0 r.1 (process_state c.self.inside.machine c.self.inside.number c.self.inside.module_number c.self.inside.first c.self.inside.birth c.self.inside.limit c.self.inside.clock c.self.inside.diary c.self.inside.ordered c.self.inside.is_dead) r.2 r.4 c.args.got r.3 r.5 r.6 q.0 q.1

pub take_in-requires-clause-inside : goal.take_in-requires-clause-inside
take_in-requires-clause-inside c comes alive =
    let r = subst (λ p. FitsProcess p c.args.got) (sym c.self.view_is) c.requires.fits c.if-self.false in
    let q = there c.self.inside.ordered (subst (λ (p : ProcessState). IsSome p.ordered) (sym c.self.view_is) c.requires.out) in
    its-inside r.0 r.1 (process_state c.self.inside.machine c.self.inside.number c.self.inside.module_number c.self.inside.first c.self.inside.birth c.self.inside.limit c.self.inside.clock c.self.inside.diary c.self.inside.ordered c.self.inside.is_dead) r.2 r.4 c.args.got r.3 r.5 r.6 q.0 q.1 comes

pub take_in-requires-clause-few : goal.take_in-requires-clause-few
take_in-requires-clause-few c comes =
    let r = subst (λ p. FitsProcess p c.args.got) (sym c.self.view_is) c.requires.fits c.if-self.false in
    let q = there c.self.inside.ordered (subst (λ (p : ProcessState). IsSome p.ordered) (sym c.self.view_is) c.requires.out) in
    let n : c.self.inside.machine.held.frame.actions < 16384 = its-few r.0 r.1 (process_state c.self.inside.machine c.self.inside.number c.self.inside.module_number c.self.inside.first c.self.inside.birth c.self.inside.limit c.self.inside.clock c.self.inside.diary c.self.inside.ordered c.self.inside.is_dead) r.2 r.4 c.args.got r.3 r.5 r.6 q.0 q.1 comes in
    omega (arith, n)

pub invariant_of-self-2 : goal.invariant_of-self-2
invariant_of-self-2 c =
    let s = c.self.inside in
    let late = subst (λ (p : ProcessState). p.clock < c.args.stamp.0) (sym c.self.view_is) c.requires.later in
    let entries = ap (λ (d : DiaryState). d.entries) c.push.ensures.pushed in
    let r = subst (λ p. FitsProcess p c.args.got) (sym c.self.view_is) c.requires.fits c.if-self.false in
    let q = there c.self.inside.ordered (subst (λ (p : ProcessState). IsSome p.ordered) (sym c.self.view_is) c.requires.out) in
    let y = settled-there r.0 r.1 (process_state c.self.inside.machine c.self.inside.number c.self.inside.module_number c.self.inside.first c.self.inside.birth c.self.inside.limit c.self.inside.clock c.self.inside.diary c.self.inside.ordered c.self.inside.is_dead) c.take_in.new.machine q.0 r.2 c.args.got r.3 c.args.stamp.0 c.in_ok-place.place c.in_ok-place.action c.push.new.self.entries q.1 r.4 r.5 c.requires.whole r.6 late
    (λ w for fits. c.in_ok-place.ensures.entry q.0 w q.1 for fits) entries (λ w at a wanted answers tells. c.in_ok-take_in.ensures.taken r.0 r.1 r.2 w at a (r.4).at wanted answers tells) in
    entered-kept s.machine c.take_in.new.machine s.number s.module_number s.first s.birth s.limit s.clock c.args.stamp s.diary c.push.new.self s.ordered None s.is_dead false
    (record { stamp = c.args.stamp.0; process = s.number.number; place = place_view c.in_ok-place.place; action = action_view c.in_ok-place.action }) c.self.invariant refl refl late
    entries (ap (λ (d : DiaryState). d.process) c.push.ensures.pushed) (λ e. (r.0, r.1, y.0, y.1))

pub returns-clause-settled : goal.returns-clause-settled
returns-clause-settled c image main x w h wanted fits =
    let s = c.self.inside in
    let late = subst (λ (p : ProcessState). p.clock < c.args.stamp.0) (sym c.self.view_is) c.requires.later in
    let g = subst (λ p. IsProcess image main p x) (sym c.self.view_is) h in
    let q = there c.self.inside.ordered (subst (λ (p : ProcessState). IsSome p.ordered) (sym c.self.view_is) c.requires.out) in
    subst (λ p. IsSettled image main p (process_state c.take_in.new.machine s.number s.module_number s.first s.birth s.limit c.args.stamp c.push.new.self None false) x c.args.got w c.args.stamp.0) c.self.view_is
    (settled image main (process_state c.self.inside.machine c.self.inside.number c.self.inside.module_number c.self.inside.first c.self.inside.birth c.self.inside.limit c.self.inside.clock c.self.inside.diary c.self.inside.ordered c.self.inside.is_dead) c.take_in.new.machine q.0 x c.args.got w c.args.stamp.0 c.in_ok-place.place c.in_ok-place.action c.push.new.self.entries q.1 g wanted c.requires.whole fits late
    (λ w for fits. c.in_ok-place.ensures.entry q.0 w q.1 for fits) (ap (λ (d : DiaryState). d.entries) c.push.ensures.pushed) (λ w at a wanted answers tells. c.in_ok-take_in.ensures.taken image main x w at a g.at wanted answers tells))
