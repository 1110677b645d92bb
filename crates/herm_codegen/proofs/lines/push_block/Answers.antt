use Rattle.std.proofs.Common.{map, drop, ◌++◌, ap, ◌∙◌, arith}
use Rattle.herm_translated.specs.Layout.{landings_by}
use Rattle.herm_code.specs.View.{instr_view}
use Rattle.herm_fronts.specs.Frames.{table_of, variables_of}
use Rattle.herm_fronts.specs.Blocks.{exits_view, landings_view, starts_view}
use Rattle.herm_fronts.specs.View.{key_view}
use Rattle.herm_blocks.specs.Views.{block_view}
use Rattle.herm_codegen.specs.Emitted.{keyed_code}
use Rattle.herm_codegen.proofs.Steps.{lines_appended_at}
use Rattle.herm_codegen.proofs.lines.push_block.Goals as goal

pub returns-clause-lines : goal.returns-clause-lines
returns-clause-lines c =
    let types = table_of c.args.frame.now in
    let variables = variables_of c.args.frame.now in
    let block = block_view c.args.block.now in
    let exit_at = exits_view c.in_ok-exits.exits in
    lines_appended_at types variables (λ o. keyed_code types variables (map key_view c.args.keys.now.keys) (starts_view c.args.starts.now) c.args.at o block) exit_at _ c.len-first.result c.args.lines.now _ c.in_ok-exits.ensures
    (omega (arith, c.len-first.ensures, c.args.lines.now.code.ok)) c.in_ok-push_code.ensures
    (c.in_ok-push_landings.ensures
    ∙ ap (λ is. map (λ ls. landings_view ls.items) c.args.lines.now.landings.items ++ map (landings_by types variables exit_at) (map instr_view is))
    (c.code_from-code.ensures ∙ ap (drop c.len-first.result) c.as_slice.ensures.value))
