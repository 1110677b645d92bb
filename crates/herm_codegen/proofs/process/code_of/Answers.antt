use Rattle.std.proofs.Common.{map, refl, ap, ◌∙◌}
use Rattle.herm_fronts.specs.Frames.{kinds}
use Rattle.herm_fronts.specs.View.{key_view}
use Rattle.herm_codegen.proofs.ProcessCode.{process_code}
use Rattle.herm_codegen.proofs.process.code_of.Goals as goal

pub returns-clause-code : goal.returns-clause-code
returns-clause-code c =
    c.in_ok-code.ensures.code
    ∙ process_code c.args.types.now.shapes c.args.checked.now (map key_view c.args.keys.now.keys) _ _ _ _ refl
    (ap kinds c.as_slice-2.ensures.value ∙ (c.in_ok-of.ensures ∙ ap (map (λ x. x.of.0)) c.as_slice.ensures.value))
    c.in_ok-found.ensures.entry
    c.in_ok-found.ensures.blocks c.in_ok-found.ensures.marked
