use Rattle.std.proofs.Common.{[], map, ◌++◌, ap, sym, ◌∙◌}
use Rattle.herm_translated.specs.Departures.{edge_code}
use Rattle.herm_translated.specs.Layout.{edge_at, landings_by}
use Rattle.herm_code.specs.View.{instr_view}
use Rattle.herm_fronts.specs.Frames.{table_of, variables_of}
use Rattle.herm_fronts.specs.Blocks.{departure_view, landings_view, starts_view}
use Rattle.herm_codegen.proofs.Steps.{instructions-of, landings-of}
use Rattle.herm_codegen.proofs.modules.entry_lines.Goals as goal

pub returns-clause-code : goal.returns-clause-code
returns-clause-code c =
    let types = table_of c.args.frame.now in
    let variables = variables_of c.args.frame.now in
    let code = edge_code (starts_view c.args.starts.now) (departure_view c.args.entry.now) in
    c.in_ok-push_edge.ensures
    ∙ (ap (λ is. map instr_view is ++ code) c.in_ok-code.ensures.items ∙ sym (instructions-of types variables (edge_at 0 []) code))

pub returns-clause-landings : goal.returns-clause-landings
returns-clause-landings c =
    let types = table_of c.args.frame.now in
    let variables = variables_of c.args.frame.now in
    let code = edge_code (starts_view c.args.starts.now) (departure_view c.args.entry.now) in
    c.in_ok-push_landings.ensures
    ∙ (ap (λ ls. map (λ ls. landings_view ls.items) ls ++ map (landings_by types variables (edge_at 0 [])) (map instr_view c.as_slice.result.now)) c.in_ok-landings.ensures.items
    ∙ (ap (λ is. map (landings_by types variables (edge_at 0 [])) (map instr_view is)) c.as_slice.ensures.value
    ∙ (ap (map (landings_by types variables (edge_at 0 []))) (c.in_ok-push_edge.ensures ∙ ap (λ is. map instr_view is ++ code) c.in_ok-code.ensures.items)
    ∙ sym (landings-of types variables (edge_at 0 []) code))))
