use Rattle.std.proofs.Common.{rules, ◌+◌, Some, None, drop, refl, sym, ap, subst, ◌∙◌, arith}
use Rattle.herm_types.specs.View.{shape_view}
use Rattle.herm_values.specs.View.{value_view}
use Rattle.herm_values.specs.Whole.{AllWhole, IsWholeTable}
use Rattle.herm_values.specs.declared.value.Value.{the_lemmas}
use Rattle.herm_values.proofs.Wholes.{fields-whole, call-whole, table-whole}
use Rattle.herm_suits.specs.Decided.{is_shaped, contents}
use Rattle.herm_suits.specs.View.{degree_view, content_view}
use Rattle.herm_suits.proofs.Fitting.{one-more, unwanted, none-left, empty-refused, empty-passed, nothing-refused, value-refused, value-passed}
use Rattle.herm_suits.proofs.typing.+types.Goals as goal

pub is_shaped-are_fit-requires : goal.is_shaped-are_fit-requires
is_shaped-are_fit-requires t c = (search (rules, the_lemmas), subst AllWhole (sym c.as_slice.ensures.value) (fields-whole c.args.v.now c.in-Fields.fields c.in-Fields.is c.requires.whole))

pub is_shaped-rows_fit-requires : goal.is_shaped-rows_fit-requires
is_shaped-rows_fit-requires t c = (search (rules, the_lemmas), subst IsWholeTable (sym c.deref-in-Rows.ensures) (table-whole c.args.v.now c.in-Table.table c.in-Table.is c.requires.whole))

pub is_shaped-is_bounded-requires : goal.is_shaped-is_bounded-requires
is_shaped-is_bounded-requires t c = record { whole = subst IsWholeTable (sym c.deref-then-rows_fit.ensures) (table-whole c.args.v.now c.in-Table.table c.in-Table.is c.requires.whole) }

pub is_shaped-are_fit-requires-in-CallMessage : goal.is_shaped-are_fit-requires-in-CallMessage
is_shaped-are_fit-requires-in-CallMessage t c = (search (rules, the_lemmas), subst AllWhole (sym c.params.ensures.params) (call-whole c.args.v.now c.in-Call.call c.in-Call.is c.requires.whole))

pub is_shaped-returns-in-Int : goal.is_shaped-returns-in-Int
is_shaped-returns-in-Int t c = record { is = c.is_integer_of.ensures (degree_view c.args.degree) c.args.types.now.shapes ∙ ap (λ v. is_shaped (degree_view c.args.degree) c.args.types.now.shapes (shape_view c.args.shape.now) (value_view v)) (sym c.in-Int.is) }

pub are_fit-returns-in_default : goal.are_fit-returns-in_default
are_fit-returns-in_default t c = record {
  is =
      unwanted c.args.types.now.shapes (contents (degree_view c.args.degree) (shape_view c.args.shape.now)) c.args.places.now c.places.place c.places.held-index _ c.places.invariant.rest
      c.content_at.result c.held-item.result c.held-item.result c.content_at.ensures c.places-test.true c.held-item.is refl c.in_default.is;
}

pub are_fit-returns-then-not-may_be_empty : goal.are_fit-returns-then-not-may_be_empty
are_fit-returns-then-not-may_be_empty t c = record {
  is =
      empty-refused c.args.types.now.shapes (drop (c.places.place + 1) (contents (degree_view c.args.degree) (shape_view c.args.shape.now))) (drop (c.places.held-index + 1) c.args.places.now) _ (content_view c.in-Some.content) c.may_be_empty.result
      (one-more c.args.types.now.shapes (contents (degree_view c.args.degree) (shape_view c.args.shape.now)) c.args.places.now c.places.place c.places.held-index _ c.places.invariant.rest
      c.content_at.result c.held-item.result None c.content_at.ensures c.places-test.true c.held-item.is c.in_default-held.is c.in-Some.content c.in-Some.is)
      c.may_be_empty.ensures c.if-not-may_be_empty.true;
}

pub are_fit-places-preserved-in_default-held : goal.are_fit-places-preserved-in_default-held
are_fit-places-preserved-in_default-held t c = record {
  counted = ap (λ n. n + 1) c.places.invariant.counted;
  rest =
      empty-passed c.args.types.now.shapes (drop (c.places.place + 1) (contents (degree_view c.args.degree) (shape_view c.args.shape.now))) (drop (c.places.held-index + 1) c.args.places.now) _ (content_view c.in-Some.content) c.may_be_empty.result
      (one-more c.args.types.now.shapes (contents (degree_view c.args.degree) (shape_view c.args.shape.now)) c.args.places.now c.places.place c.places.held-index _ c.places.invariant.rest
      c.content_at.result c.held-item.result None c.content_at.ensures c.places-test.true c.held-item.is c.in_default-held.is c.in-Some.content c.in-Some.is)
      c.may_be_empty.ensures c.if-not-may_be_empty.false;
}

pub are_fit-returns-in_default-content : goal.are_fit-returns-in_default-content
are_fit-returns-in_default-content t c = record {
  is =
      nothing-refused c.args.types.now.shapes (drop (c.places.place + 1) (contents (degree_view c.args.degree) (shape_view c.args.shape.now))) (drop (c.places.held-index + 1) c.args.places.now) _ (content_view c.in-Some.content) c.in-Some-held.v
      (one-more c.args.types.now.shapes (contents (degree_view c.args.degree) (shape_view c.args.shape.now)) c.args.places.now c.places.place c.places.held-index _ c.places.invariant.rest
      c.content_at.result c.held-item.result (Some c.in-Some-held.v) c.content_at.ensures c.places-test.true c.held-item.is c.in-Some-held.is c.in-Some.content c.in-Some.is)
      (ap content_view c.in_default-content.is);
}

pub are_fit-returns-then-not-is_of : goal.are_fit-returns-then-not-is_of
are_fit-returns-then-not-is_of t c = record {
  is =
      value-refused c.args.types.now.shapes (drop (c.places.place + 1) (contents (degree_view c.args.degree) (shape_view c.args.shape.now))) (drop (c.places.held-index + 1) c.args.places.now) _ (content_view c.in-Some.content) c.in-Some-held.v (degree_view c.in-Value.part) c.in-Value.t.0 c.is_of.result
      (one-more c.args.types.now.shapes (contents (degree_view c.args.degree) (shape_view c.args.shape.now)) c.args.places.now c.places.place c.places.held-index _ c.places.invariant.rest
      c.content_at.result c.held-item.result (Some c.in-Some-held.v) c.content_at.ensures c.places-test.true c.held-item.is c.in-Some-held.is c.in-Some.content c.in-Some.is)
      (ap content_view c.in-Value.is) c.is_of.ensures.is c.if-not-is_of.true;
}

pub are_fit-places-preserved : goal.are_fit-places-preserved
are_fit-places-preserved t c = record {
  counted = ap (λ n. n + 1) c.places.invariant.counted;
  rest =
      value-passed c.args.types.now.shapes (drop (c.places.place + 1) (contents (degree_view c.args.degree) (shape_view c.args.shape.now))) (drop (c.places.held-index + 1) c.args.places.now) _ (content_view c.in-Some.content) c.in-Some-held.v (degree_view c.in-Value.part) c.in-Value.t.0 c.is_of.result
      (one-more c.args.types.now.shapes (contents (degree_view c.args.degree) (shape_view c.args.shape.now)) c.args.places.now c.places.place c.places.held-index _ c.places.invariant.rest
      c.content_at.result c.held-item.result (Some c.in-Some-held.v) c.content_at.ensures c.places-test.true c.held-item.is c.in-Some-held.is c.in-Some.content c.in-Some.is)
      (ap content_view c.in-Value.is) c.is_of.ensures.is c.if-not-is_of.false;
}

pub are_fit-returns : goal.are_fit-returns
are_fit-returns t c = record {
  is =
      none-left c.args.types.now.shapes (contents (degree_view c.args.degree) (shape_view c.args.shape.now)) c.args.places.now c.places.place c.places.held-index _ c.places.invariant.rest
      c.content_at-2.result c.is_none.result c.content_at-2.ensures (omega (arith, c.places-test.false)) c.is_none.ensures;
}
