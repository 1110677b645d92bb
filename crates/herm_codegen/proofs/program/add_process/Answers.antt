use Rattle.std.proofs.Common.{map, flat_map, ap, ◌∙◌}
use Rattle.herm_typed.specs.View.{typed_stmts_view, typed_process_view}
use Rattle.herm_translated.specs.Constants.{literals_in}
use Rattle.herm_fronts.specs.Forms.{form_seen}
use Rattle.herm_fronts.specs.Shared.{shared}
use Rattle.herm_fronts.specs.View.{key_view}
use Rattle.herm_fronts.specs.Walked.{no_nodes, walk_block}
use Rattle.herm_codegen.proofs.ProgramCode.{found_forms}
use Rattle.herm_codegen.proofs.program.add_process.Goals as goal

pub returns : goal.returns
returns c =
    c.in_ok-add_forms.ensures
    ∙ ap (λ fs. shared (map key_view c.args.keys.now.keys) (flat_map literals_in fs))
    (ap (λ fs. map form_seen (map (λ f. f.now) fs)) c.as_slice-2.ensures.value ∙ found_forms (typed_process_view c.args.checked.now.process.now) c.in_ok-found.found (c.in_ok-found.ensures ∙ ap (λ b. walk_block (typed_stmts_view b) no_nodes) c.as_slice.ensures.value))
