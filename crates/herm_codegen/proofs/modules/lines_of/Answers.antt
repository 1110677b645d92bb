use Rattle.std.proofs.Common.{map}
use Rattle.herm_translated.specs.Layout.{Line}
use Rattle.herm_fronts.specs.Frames.{table_of, variables_of}
use Rattle.herm_fronts.specs.Blocks.{departure_view, starts_view}
use Rattle.herm_fronts.specs.View.{key_view}
use Rattle.herm_blocks.specs.Views.{block_view}
use Rattle.herm_codegen.proofs.WrittenModules.{starts_keyed, lines_joined}
use Rattle.herm_codegen.proofs.modules.lines_of.Goals as goal

pub returns-clause-code : goal.returns-clause-code
returns-clause-code c =
    lines_joined (λ (l : Line). l.instruction) (table_of c.args.frame.now) (variables_of c.args.frame.now) (map key_view c.args.keys.now.keys) (starts_view c.in_ok-starts.starts) c.in_ok-first.first (departure_view c.args.entry.now) (map block_view c.args.blocks.now) _ _
    (starts_keyed (table_of c.args.frame.now) (variables_of c.args.frame.now) (departure_view c.args.entry.now) (map block_view c.args.blocks.now) c.in_ok-starts.starts c.in_ok-first.first c.in_ok-first.ensures c.in_ok-starts.ensures.at c.in_ok-starts.ensures.end)
    c.in_ok-first.ensures c.in_ok-lines.ensures.code c.in_ok-push_blocks.ensures.lines.code_is

pub returns-clause-landings : goal.returns-clause-landings
returns-clause-landings c =
    lines_joined (λ (l : Line). l.landings) (table_of c.args.frame.now) (variables_of c.args.frame.now) (map key_view c.args.keys.now.keys) (starts_view c.in_ok-starts.starts) c.in_ok-first.first (departure_view c.args.entry.now) (map block_view c.args.blocks.now) _ _
    (starts_keyed (table_of c.args.frame.now) (variables_of c.args.frame.now) (departure_view c.args.entry.now) (map block_view c.args.blocks.now) c.in_ok-starts.starts c.in_ok-first.first c.in_ok-first.ensures c.in_ok-starts.ensures.at c.in_ok-starts.ensures.end)
    c.in_ok-first.ensures c.in_ok-lines.ensures.landings c.in_ok-push_blocks.ensures.lines.landings_are
