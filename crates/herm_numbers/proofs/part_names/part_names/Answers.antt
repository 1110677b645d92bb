use Rattle.std.proofs.Common.{◌∙◌, arith}
use Rattle.std.proofs.lemmas.List.{take_all}
use Rattle.herm_types.specs.View.{parts_view}
use Rattle.herm_numbers.proofs.Finding.{taken_next}
use Rattle.herm_numbers.proofs.part_names.part_names.Goals as goal

pub types-preserved : goal.types-preserved
types-preserved c = record {
  within = omega (arith, c.types-test.true, c.len.ensures);
  names = taken_next c.types.found.items c.push.new.self.items c.in_ok-names.names c.args.types.now.parts c.types.t (parts_view c.shape.result.now) c.in_ok-push.ensures.items c.types.invariant.names (c.in_ok-names.ensures ∙ c.in_ok-words.ensures.words) c.shape.ensures.parts;
}

pub returns : goal.returns
returns c = record {
  names = c.types.invariant.names ∙ take_all c.types.t c.args.types.now.parts (omega (arith, c.types-test.false, c.len-in-types.ensures, c.requires.sized.each));
}
