use Rattle.std.proofs.Common.{◌≡◌, ◌++◌, map, drop}
use Rattle.herm_fronts.specs.Frames.{table_of, variables_of}
use Rattle.herm_translated.specs.Layout.{landings_by}
use Rattle.herm_code.specs.View.{instr_view}
use Rattle.herm_fronts.specs.Blocks.{exits_view, landings_view}
use Rattle.herm_codegen.proofs.lines.push_landings.Given as goal

abbrev pub invariant-code : goal.invariant-code
invariant-code l =
    map (λ ls. landings_view ls.items) l.landings.items ++ map (landings_by (table_of l.frame) (variables_of l.frame) (exits_view l.exits)) (map instr_view (drop l.instr-index l.code))
    ≡ map (λ ls. landings_view ls.items) l.fn.landings.items ++ map (landings_by (table_of l.frame) (variables_of l.frame) (exits_view l.exits)) (map instr_view l.code)
