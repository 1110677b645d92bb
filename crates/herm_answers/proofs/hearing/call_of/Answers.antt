use Rattle.std.proofs.Common.{map, sym, ap, ◌∙◌}
use Rattle.herm_instructions.specs.Instructions.{Call}
use Rattle.herm_code.specs.View.{argument_view, instr_view}
use Rattle.herm_types.specs.View.{path_view, raise_decl_view}
use Rattle.herm_answers.proofs.hearing.call_of.Goals as goal

pub returns-in-Call-clause-call : goal.returns-in-Call-clause-call
returns-in-Call-clause-call c =
    let o = path_view c.in-Call.field-0 in (
      o,
      ap instr_view c.in-Call.is ∙ ap (λ xs. Call o (map argument_view xs) (map raise_decl_view c.in-Call.keeps.items)) (sym c.as_slice.ensures.value) ∙ ap (λ ks. Call o (map argument_view c.as_slice.result.now) (map raise_decl_view ks)) (sym c.as_slice-in-Call.ensures.value),
    )
