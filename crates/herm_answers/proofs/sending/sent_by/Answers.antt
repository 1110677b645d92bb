use Rattle.std.proofs.Common.{map, sym, ap, ◌∙◌}
use Rattle.herm_code.specs.View.{instr_view}
use Rattle.herm_instructions.specs.Instructions.{Send}
use Rattle.herm_types.specs.View.{path_view}
use Rattle.herm_answers.proofs.sending.sent_by.Goals as goal

pub returns-in-Send-clause-sent : goal.returns-in-Send-clause-sent
returns-in-Send-clause-sent c = let port = path_view c.in-Send.field-1 in (port, ap instr_view c.in-Send.is ∙ ap (λ xs. Send (path_view c.in-Send.source) port (map path_view xs)) (sym c.as_slice.ensures.value))
