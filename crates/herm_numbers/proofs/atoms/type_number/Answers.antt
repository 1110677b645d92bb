use Rattle.std.proofs.Common.{sym, ◌∙◌}
use Rattle.herm_numbers.proofs.Passed.{place-some, place-none}
use Rattle.herm_numbers.proofs.atoms.type_number.Goals as goal

pub returns-in-Some : goal.returns-in-Some
returns-in-Some c = place-some c.args.name.now c.args.types.now.names c.in-Some.t.0 c.in-Some.ensures

pub returns-in-None : goal.returns-in-None
returns-in-None c = c.len.ensures ∙ (sym c.requires.named ∙ sym (place-none c.args.name.now c.args.types.now.names c.in-None.ensures))
