use Rattle.std.proofs.Common.{◌≡◌, ◌+◌, map, length, option_map, refl, sym, ap, ◌∙◌, arith}
use Rattle.std.proofs.lemmas.Option.{slice_get_read}
use Rattle.herm_model.proofs.Lists.{slice_get-map, length-map}
use Rattle.herm_typed.specs.View.{typed_atom_view}
use Rattle.herm_flow.specs.Listed.{is_marked}
use Rattle.herm_flow.proofs.Trails.{trails-next, trails-all, length-more, marked-get}
use Rattle.herm_flow.proofs.touched.trails.Goals as goal

pub each-preserved : goal.each-preserved
each-preserved c = record {
  end = c.each.invariant.end;
  many = ap length c.in_ok-push.ensures.items ∙ (length-more c.each.found.items c.in_ok-numbers.numbers ∙ ap (λ n. n + 1) c.each.invariant.many);
  own = c.in_ok-numbers.ensures.own;
  trails = trails-next (map typed_atom_view c.args.arguments.now) (is_marked c.args.wanted.now) c.each.paths.numbers c.trail_if.new.paths.numbers c.each.found.items c.push.new.self.items c.in_ok-numbers.numbers c.each.i (typed_atom_view c.index-arguments-i.result)
      c.each.invariant.many
      (slice_get-map typed_atom_view c.args.arguments.now c.each.i ∙ ap (option_map typed_atom_view) (slice_get_read c.args.arguments.now (length c.args.arguments.now) c.each.i c.index-arguments-i.result refl c.each-test.true c.index-arguments-i.is))
      c.in_ok-numbers.ensures.stay c.in_ok-push.ensures.items c.each.invariant.trails
      (λ w. c.in_ok-numbers.ensures.trail (marked-get c.args.wanted.now c.each.i _ (omega (arith, c.each-test.true, c.requires.wanted)) w));
}

pub returns : goal.returns
returns c = record {
  trails = record {
    numbers = c.each.paths.numbers;
    last = c.each.paths.last;
    own = c.each.invariant.own;
    each = trails-all (map typed_atom_view c.args.arguments.now) (is_marked c.args.wanted.now) c.each.paths.numbers c.each.found.items
        (omega (arith, c.each.invariant.many, c.each.auto.i-end, length-map typed_atom_view c.args.arguments.now))
        (λ k h. c.each.invariant.trails k (omega (arith, h, c.each-test.false, length-map typed_atom_view c.args.arguments.now)));
  };
}
