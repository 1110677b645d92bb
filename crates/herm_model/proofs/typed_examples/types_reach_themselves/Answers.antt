use Rattle.std.proofs.Common.{refl, inl}
use Rattle.herm_model.specs.WellFormedTables.{at_once, further}
use Rattle.herm_model.proofs.typed_examples.types_reach_themselves.Goals as goal

pub returns : goal.returns
returns c = record {
  itself = at_once 8 8 (inl refl);
  by_port = further 9 10 9 (inl refl) (further 10 8 9 (inl refl) (at_once 8 9 (inl refl)));
}
