use Rattle.std.proofs.Common.{sym, ap, ◌∙◌}
use Rattle.herm_naming.specs.Fits.{atom_gives}
use Rattle.herm_typed.specs.View.{typed_atom_view}
use Rattle.herm_judge.specs.View.{table_of, variables_of}
use Rattle.herm_judge.proofs.atoms.atom_gives.Goals as goal

pub returns-in-Literal : goal.returns-in-Literal
returns-in-Literal c = record {
  gives = c.literal_gives.ensures.gives (table_of c.args.frame.now)
      ∙ ap (λ a. atom_gives (table_of c.args.frame.now) (variables_of c.args.frame.now) (typed_atom_view a)) (sym c.in-Literal.is);
}
