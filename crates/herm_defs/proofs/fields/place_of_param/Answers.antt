use Rattle.std.proofs.Common.{sym, ◌∙◌}
use Rattle.herm_types.specs.declared.shape.Param.{Param}
use Rattle.herm_defs.proofs.Stepping.{place-some, place-none}
use Rattle.herm_defs.proofs.fields.place_of_param.Goals as goal

pub returns-in-Some : goal.returns-in-Some
returns-in-Some c = place-some (λ (p : Param). p.name) c.args.params.now c.args.name.now _ (sym c.in-Some.is ∙ c.find_param.ensures)

pub returns-in-None : goal.returns-in-None
returns-in-None c = place-none (λ (p : Param). p.name) c.args.params.now c.args.name.now (sym c.in-None.is ∙ c.find_param.ensures)
