use Rattle.std.proofs.Common.{map, ap, ◌∙◌}
use Rattle.herm_model.specs.ValueTexts.{text_of}
use Rattle.herm_values.specs.View.{value_view}
use Rattle.herm_letters.specs.declared.parcel.Parcel.{Parcel}
use Rattle.herm_letters.specs.LettersInOrder.{QueueState}
use Rattle.herm_letters.proofs.Told.{told_in_parts}
use Rattle.herm_letters.proofs.parcel.Parcels.traces.Goals as goal

pub returns : goal.returns
returns c = record {
  texts =
      told_in_parts _ _ _ _ _ _ c.new-texts.ensures.items c.in_ok-push_traces.ensures c.in_ok-push_traces-2.ensures c.as_slices.ensures.items c.self.invariant
      ∙ ap (λ (q : QueueState). map (λ (p : Parcel). text_of (value_view p.value)) q.parcels) c.self.view_is;
}
