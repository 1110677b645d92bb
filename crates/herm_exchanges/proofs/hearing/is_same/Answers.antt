use Rattle.herm_types.proofs.Repeats.{same-slices}
use Rattle.herm_exchanges.proofs.hearing.is_same.Goals as goal

pub returns-then-eq : goal.returns-then-eq
returns-then-eq c = record { same = rw (← c.if-eq.ensures, c.eq-then-eq.ensures, c.as_slice.ensures.value, c.as_slice-then-eq.ensures.value) (same-slices c.args.a.now.parts.items c.args.b.now.parts.items) }
