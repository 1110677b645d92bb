use Rattle.std.proofs.Common.{sym, subst}
use Rattle.herm_model.specs.Lists.{IsIn}
use Rattle.herm_flow.specs.CoveredExceptions.{AreFor}
use Rattle.herm_flow.proofs.Covering.{for-among}
use Rattle.herm_flow.proofs.calls.noted_at.Goals as goal

pub returns-then-is_covered : goal.returns-then-is_covered
returns-then-is_covered c = record { noted = (c.in-Some.head.now, c.in-Some.ensures.member, c.in-Some.ensures.point, λ n m. subst (IsIn n) c.as_slice-touched.ensures.value (c.are_placed-is_covered.ensures.within c.if-is_covered.true n (subst (IsIn n) (sym c.as_slice-2.ensures.value) m))) }

pub returns : goal.returns
returns c = record { noted = subst (λ ts. AreFor c.args.single c.args.heads.now c.args.point ts c.in_ok-found-2.found.items) c.as_slice-touched.ensures.value (for-among c.args.single c.args.heads.now c.in-Some.head.now c.args.point c.as_slice-touched.result.now _ c.in-Some.ensures.member c.in-Some.ensures.point c.in_ok-found-2.ensures.narrowed) }
