use Rattle.std.proofs.Common.{◌∷◌, [], map, is_some, refl, sym, ap, ◌∙◌}
use Rattle.herm_model.specs.Lists.{list_of}
use Rattle.herm_types.specs.View.{raise_decl_view}
use Rattle.herm_types.proofs.Extended.{map-append}
use Rattle.herm_flow.specs.Touched.{numbers_at, touched_by}
use Rattle.herm_flow.specs.NumberTables.{at_number, kept_at, has_entry}
use Rattle.herm_flow.specs.CoveredExceptions.{touched_of}
use Rattle.herm_flow.proofs.Covering.{added_not, added_alone, added_has}
use Rattle.herm_flow.proofs.calls.add_number.Goals as goal

pub returns-then-not-is_raised : goal.returns-then-not-is_raised
returns-then-not-is_raised c = record {
  added = added_not (at_number c.args.tables.now.points.items) (touched_of (numbers_at c.args.tables.now.touches.numbers.items) c.args.tables.now.declared.items (map raise_decl_view c.args.raises.now)) c.args.tables.now.touches.single c.args.e.0 _ _ _ _ (has_entry c.args.tables.now.declared.items c.args.e.0)
      (sym (ap (λ declared. has_entry declared c.args.e.0) c.as_slice.ensures.value) ∙ (sym (ap is_some c.number_at-place.ensures.entry) ∙ (sym c.is_some-is_raised.ensures ∙ c.if-not-is_raised.true))) refl refl;
}

pub returns-in_default : goal.returns-in_default
returns-in_default c = record {
  added = added_alone (at_number c.args.tables.now.points.items) (touched_of (numbers_at c.args.tables.now.touches.numbers.items) c.args.tables.now.declared.items (map raise_decl_view c.args.raises.now)) c.args.tables.now.touches.single c.args.e.0 _ _ _ _ (has_entry c.args.tables.now.declared.items c.args.e.0)
      (sym (ap (λ declared. has_entry declared c.args.e.0) c.as_slice.ensures.value) ∙ (sym (ap is_some c.number_at-place.ensures.entry) ∙ (sym c.is_some-is_raised.ensures ∙ c.if-not-is_raised.false)))
      (ap (map (λ n. n.0)) c.in_ok-push.ensures.items ∙ map-append (λ n. n.0) c.args.found.now.numbers.items (c.args.e ∷ [])) refl;
}

pub returns : goal.returns
returns c =
    let lead = at_number c.args.tables.now.points.items in
    let touched = touched_of (numbers_at c.args.tables.now.touches.numbers.items) c.args.tables.now.declared.items (map raise_decl_view c.args.raises.now) in
    record {
      added = added_has lead touched c.args.tables.now.touches.single c.args.e.0 _ _ _ _ (has_entry c.args.tables.now.declared.items c.args.e.0)
          (sym (ap (λ declared. has_entry declared c.args.e.0) c.as_slice.ensures.value) ∙ (sym (ap is_some c.number_at-place.ensures.entry) ∙ (sym c.is_some-is_raised.ensures ∙ c.if-not-is_raised.false)))
          (c.in_ok-add_at_point.ensures.added lead touched (ap (λ points. at_number points c.args.e.0) (sym c.as_slice-2.ensures.value) ∙ sym c.in-Some.ensures.entry)
          (ap (touched_by (numbers_at c.args.tables.now.touches.numbers.items)) (c.keeps_at-keeps.ensures.keeps ∙ ap (λ p. list_of (λ k. k) (kept_at (map raise_decl_view c.args.raises.now) p)) (c.number_at-place.ensures.entry ∙ ap (λ declared. at_number declared c.args.e.0) c.as_slice.ensures.value))));
    }
