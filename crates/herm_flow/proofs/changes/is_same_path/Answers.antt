use Rattle.herm_types.proofs.Repeats.{same-slices}
use Rattle.herm_flow.proofs.changes.is_same_path.Goals as goal

pub returns-then-eq-clause-same : goal.returns-then-eq-clause-same
returns-then-eq-clause-same c = rw (← c.if-eq.ensures, c.eq-then-eq.ensures, c.as_slice.ensures.value, c.as_slice-then-eq.ensures.value) (same-slices c.args.a.now.parts.items c.args.b.now.parts.items)
