use Rattle.std.proofs.Common.{◌≡◌, ◌++◌, map}
use Rattle.herm_types.specs.View.{fact_view}
use Rattle.herm_effects.proofs.present.push_all.Given as goal

abbrev pub invariant-loop-fact : goal.invariant-loop-fact
invariant-loop-fact l = map fact_view l.out.items ≡ map fact_view l.fn.out.items ++ map fact_view l.yielded
