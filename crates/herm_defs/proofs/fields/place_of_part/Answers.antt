use Rattle.std.proofs.Common.{sym, ◌∙◌}
use Rattle.herm_types.specs.declared.shape.Part.{Part}
use Rattle.herm_defs.proofs.Stepping.{place-some, place-none}
use Rattle.herm_defs.proofs.fields.place_of_part.Goals as goal

pub returns-in-Some : goal.returns-in-Some
returns-in-Some c = place-some (λ (p : Part). p.name) c.args.parts.now c.args.name.now _ (sym c.in-Some.is ∙ c.find_part.ensures)

pub returns-in-None : goal.returns-in-None
returns-in-None c = place-none (λ (p : Part). p.name) c.args.parts.now c.args.name.now (sym c.in-None.is ∙ c.find_part.ensures)
