use Rattle.std.proofs.Common.{◌≡◌, ◌<◌, map, sym, subst, ◌∙◌}
use Rattle.herm_model.proofs.Lists.{length-map}
use Rattle.herm_typed.specs.View.{typed_atom_view}
use Rattle.herm_flow.specs.Listed.{is_marked}
use Rattle.herm_flow.specs.Touched.{numbers_at, AreApart, AreMadeBy}
use Rattle.herm_flow.proofs.MadeBy.{made_by_trails, made_by_places}
use Rattle.herm_flow.proofs.touched.touches_of.Goals as goal

pub returns-then-single : goal.returns-then-single
returns-then-single c = record {
  numbers = λ types variables.
      subst (λ b. AreMadeBy types variables (map typed_atom_view c.args.arguments.now) (is_marked c.args.wanted.now) b (numbers_at c.in_ok-numbers.numbers.items)) (sym c.if-single.true)
      (made_by_trails (map typed_atom_view c.args.arguments.now) (is_marked c.args.wanted.now) c.in_ok-numbers.numbers.items c.in_ok-numbers.ensures.trails (subst AreApart c.as_slice.ensures.value (c.in_ok-single.ensures.apart c.if-single.true)) types variables);
}

pub returns : goal.returns
returns c = record {
  numbers = λ types variables.
      subst (λ b. AreMadeBy types variables (map typed_atom_view c.args.arguments.now) (is_marked c.args.wanted.now) b (numbers_at c.in_ok-numbers-2.numbers.items)) (sym c.if-single.false)
      (made_by_places (map typed_atom_view c.args.arguments.now) (is_marked c.args.wanted.now) c.in_ok-numbers-2.numbers.items
      (c.in_ok-numbers-2.ensures.many ∙ sym (length-map typed_atom_view c.args.arguments.now))
      (λ k h. c.in_ok-numbers-2.ensures.own k (subst (λ n. k < n) (length-map typed_atom_view c.args.arguments.now) h)) types variables);
}
