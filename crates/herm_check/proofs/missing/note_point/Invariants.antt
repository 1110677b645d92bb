use Rattle.std.proofs.Common.{◌≡◌, map, take, false}
use Rattle.herm_model.specs.Lists.{IsIn}
use Rattle.herm_model.specs.Paths.{Fact}
use Rattle.herm_types.specs.View.{fact_view}
use Rattle.herm_typestate.specs.Facts.{has_fact}
use Rattle.herm_check.specs.Missing.{IsNoted, AreKept}
use Rattle.herm_check.proofs.missing.note_point.Given as goal

abbrev pub invariant-loop-fact : goal.invariant-loop-fact
invariant-loop-fact l = record {
  noted : (f : Fact) → IsIn f (map fact_view (take l.fact-index l.fact-items)) → has_fact l.state f ≡ false → IsNoted l.lost f;
  kept : AreKept l.initial.lost l.lost;
}
