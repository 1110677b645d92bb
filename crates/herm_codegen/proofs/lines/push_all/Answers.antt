use Rattle.std.proofs.Common.{map, ap, ◌∙◌}
use Rattle.std.proofs.lemmas.List.{map-append}
use Rattle.herm_code.specs.View.{instr_view}
use Rattle.herm_codegen.proofs.lines.push_all.Goals as goal

pub returns : goal.returns
returns c = ap (map instr_view) c.in_ok-append.ensures.items ∙ map-append instr_view _ _
