use Rattle.std.proofs.Common.{inr, add-one, subst, ◌∙◌, ap, map, Bool, List, sym}
use Rattle.herm_types.specs.Table.{copies}
use Rattle.herm_types.specs.View.{shape_view}
use Rattle.herm_types.proofs.Tables.{one-round, map-length}
use Rattle.herm_types.proofs.copyable.copyable_of.Goals as goal

pub rounds-preserved : goal.rounds-preserved
rounds-preserved c =
    let same = c.in_ok-tests.ensures ∙ ap (λ (tests : List Bool). map (λ s. copies tests (shape_view s)) c.args.shapes.now) c.as_slice.ensures.value in
    rw (add-one, same) record {
      say = one-round c.rounds.counter c.args.shapes.now _ c.rounds.invariant.say;
      each = inr (map-length _ _);
    }
