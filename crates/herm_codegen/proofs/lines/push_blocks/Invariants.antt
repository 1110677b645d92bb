use Rattle.std.proofs.Common.{◌≡◌, ◌++◌, map, drop}
use Rattle.herm_fronts.specs.Frames.{table_of, variables_of}
use Rattle.herm_translated.specs.Layout.{Line}
use Rattle.herm_code.specs.View.{instr_view}
use Rattle.herm_fronts.specs.Blocks.{landings_view, starts_view}
use Rattle.herm_codegen.specs.Emitted.{keyed_lines_from, fronts_in}
use Rattle.herm_blocks.specs.Views.{block_view}
use Rattle.herm_fronts.specs.View.{key_view}
use Rattle.herm_codegen.proofs.lines.push_blocks.Given as goal

-- What was written so far, with the lines of the blocks that are left, is the whole.
abbrev pub invariant-each : goal.invariant-each
invariant-each l = record {
  fronts : l.left ≡ fronts_in (table_of l.frame) (variables_of l.frame) (map block_view (drop l.block-index l.blocks));
  code_is : map instr_view l.lines.code.items ++ map (λ (x : Line). x.instruction) (keyed_lines_from (table_of l.frame) (variables_of l.frame) (map key_view l.keys.keys) (starts_view l.starts) l.at (map block_view (drop l.block-index l.blocks)))
      ≡ map instr_view l.fn.lines.code.items ++ map (λ (x : Line). x.instruction) (keyed_lines_from (table_of l.frame) (variables_of l.frame) (map key_view l.keys.keys) (starts_view l.starts) l.first (map block_view l.blocks));
  landings_are : map (λ ls. landings_view ls.items) l.lines.landings.items ++ map (λ (x : Line). x.landings) (keyed_lines_from (table_of l.frame) (variables_of l.frame) (map key_view l.keys.keys) (starts_view l.starts) l.at (map block_view (drop l.block-index l.blocks)))
      ≡ map (λ ls. landings_view ls.items) l.fn.lines.landings.items ++ map (λ (x : Line). x.landings) (keyed_lines_from (table_of l.frame) (variables_of l.frame) (map key_view l.keys.keys) (starts_view l.starts) l.first (map block_view l.blocks));
}
