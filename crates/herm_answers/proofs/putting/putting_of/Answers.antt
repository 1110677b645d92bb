use Rattle.std.proofs.Common.{map, sym, ap, ◌∙◌}
use Rattle.herm_code.specs.View.{argument_view, instr_view}
use Rattle.herm_instructions.specs.Instructions.{Call}
use Rattle.herm_types.specs.View.{path_view, raise_decl_view}
use Rattle.herm_answers.proofs.putting.putting_of.Goals as goal

pub returns-in-Send : goal.returns-in-Send
returns-in-Send c = record { putting = (path_view c.in-Send.field-1, map path_view c.in-Send.field-2.items, ap instr_view c.in-Send.is) }

pub returns-in-Call : goal.returns-in-Call
returns-in-Call c = record {
  putting = let o = path_view c.in-Call.field-0 in let keeps = map raise_decl_view c.in-Call.field-2.items in (
    o,
    keeps,
    ap instr_view c.in-Call.is ∙ ap (λ xs. Call o (map argument_view xs) keeps) (sym c.as_slice.ensures.value),
  );
}
