use Rattle.std.proofs.Common.{inl, inr, refl, sym, subst}
use Rattle.herm_model.specs.Lists.{IsIn}
use Rattle.herm_flow.proofs.calls.narrowed.Goals as goal

pub returns-then-single : goal.returns-then-single
returns-then-single c = record { narrowed = inr (c.if-single.true, (c.args.head.now, inl refl, refl, λ k m n. c.in_ok-found.ensures.common k (subst (IsIn k) (sym c.as_slice.ensures.value) m) n)) }
