-- Programs whose edges drop several values or leave several loops, that begin without their port, whose arms are turned, or that send a part of what they hold.
use Rattle.std.specs.Prelude.{true, [], ◌∷◌, ◌++◌}
use Rattle.herm_model.specs.Expressions.{boolean}
use Rattle.herm_model.specs.Expressions
use Rattle.herm_model.specs.Outcomes.{overflow}
use Rattle.herm_model.specs.Paths.{init}
use Rattle.herm_model.specs.Statements.{Assign, New, Discard, Unite, Case, For, Connect, Send, While, Raise, simple, choosing, repeating, trying, no_blocks, block, no_handlers, handler}
use Rattle.herm_model.specs.Types.{cases, fields, inport, outport}
use Rattle.herm_model.specs.examples.RefusedProcesses.{in_order}
use Rattle.herm_source.specs.Modules.{Program}
use Rattle.herm_source.specs.examples.Programs.{variable, part_in, a_number, alone, process_of, receives_start, row_types, new_row, inserts}

-- process main(start: main_start) {
--   var m: main_message, r: row, t: rows, q: row;
--   receive m from start; new t; new r; r.k := 1; insert r into t; new r; r.k := 2; insert r into t;
--   try { for r in t { for q in t { raise Overflow; } } } on Overflow { }
--   discard t;
-- }
abbrev pub raised_out_of_loops : Program
raised_out_of_loops = alone row_types (process_of (7 ∷ 6 ∷ 8 ∷ 9 ∷ 8 ∷ []) (
    receives_start ∷ simple (New (variable 3)) ∷ (new_row 1 ++ inserts ∷ (new_row 2 ++ inserts
    ∷ trying
    (in_order (repeating (For (variable 2) (variable 3)) (in_order (repeating (For (variable 4) (variable 3)) (in_order (simple (Raise overflow) ∷ [])) ∷ [])) ∷ []))
    (handler overflow (in_order []) no_handlers)
    ∷ simple (Discard (variable 3)) ∷ []))))

-- process main(start: main_start) { while true { new start; discard start; } }
abbrev pub opened_again : Program
opened_again = alone [] (process_of (7 ∷ []) (
    repeating (While (Expressions.Expression.literal (boolean true))) (in_order (simple (New (variable 0)) ∷ simple (Discard (variable 0)) ∷ [])) ∷ []))

-- type either = variant { a: integer, b: string };
-- process main(start: main_start) {
--   var v: either, k: integer;
--   k := 1; unite v.a from k; case v { b { discard v; } a { discard v; } }
-- }
abbrev pub arms_turned : Program
arms_turned = alone (cases (1 ∷ 2 ∷ []) ∷ []) (process_of (7 ∷ 8 ∷ 1 ∷ []) (
    simple (Assign (variable 2) (a_number 1)) ∷ simple (Unite (variable 1) 0 (variable 2))
    ∷ choosing (Case (variable 1) (1 ∷ 0 ∷ [])) (block (in_order (simple (Discard (variable 1)) ∷ [])) (block (in_order (simple (Discard (variable 1)) ∷ [])) no_blocks)) ∷ []))

-- type pair = record { a: integer, b: integer };  type pair_in = inport of pair { init(a) };  type pair_out = outport of pair_in;
-- process main(start: main_start) {
--   var m: main_message, i: pair_in, o: pair_out, x: pair;
--   receive m from start; new i; connect o to i; new x; x.a := 1; x.b := 2; send x to o;
-- }
abbrev pub sends_part : Program
sends_part = alone (fields (1 ∷ 1 ∷ []) ∷ inport 8 (init (0 ∷ 0 ∷ []) ∷ []) ∷ outport 9 ∷ []) (process_of (7 ∷ 6 ∷ 9 ∷ 10 ∷ 8 ∷ []) (
    receives_start ∷ simple (New (variable 2)) ∷ simple (Connect (variable 3) (variable 2)) ∷ simple (New (variable 4))
    ∷ simple (Assign (part_in 4 0) (a_number 1)) ∷ simple (Assign (part_in 4 1) (a_number 2)) ∷ simple (Send (variable 4) (variable 3)) ∷ []))
