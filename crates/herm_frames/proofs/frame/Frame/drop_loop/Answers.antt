use Rattle.std.proofs.Common.{ℕ, Bool, not, nat_eq, refl, sym, subst}
use Rattle.herm_forms.specs.LeavingLoops.{leave_loops}
use Rattle.herm_frames.specs.Standing.{Stands}
use Rattle.herm_frames.proofs.LeftLoops.{left_loops}
use Rattle.herm_frames.proofs.frame.Frame.drop_loop.Goals as goal

pub returns : goal.returns
returns c = record {
  effect = λ code stack s h.
      let kept : ℕ → Bool = λ l. not (nat_eq l c.args.slot) in
      (refl, (leave_loops kept s, refl, left_loops kept _ s _ _ _ (subst (λ f. Stands f s) (sym c.self.view_is) h) c.in_ok-count.ensures.loops c.in_ok-count.ensures.waiting c.in_ok-count.ensures.count));
}
