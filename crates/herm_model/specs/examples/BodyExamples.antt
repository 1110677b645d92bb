-- Bodies of the process main of the examples, each with the rules that it breaks.
use Rattle.std.specs.Prelude.{true, pos, List, [], ◌∷◌}
use Rattle.herm_model.specs.Expressions.{Literal, plus, literal, copy, operation}
use Rattle.herm_model.specs.Statements.{Assign, Case, Select, If, While, Raise, Statement, simple, choosing, repeating, leaving, trying, no_statements, no_blocks, block, no_handlers, handler}
use Rattle.herm_model.specs.examples.RefusedProcesses.{in_order}
use Rattle.herm_model.specs.tests.BodyTests.{ProcessRule, blocks, arms, handlers, handlers_differ, handlers_known, leaves_in_loops, typed, reached}

abbrev pub body_examples : List (List Statement × List ProcessRule)
body_examples =
    -- nothing
    ([], [])
    -- try { n := n + 1; } on Overflow { n := 1; }
    ∷ ((trying (in_order (simple (Assign (2 ∷ []) (operation plus (copy (2 ∷ [])) (literal (Literal.integer (pos 1))))) ∷ [])) (handler 0 (in_order (simple (Assign (2 ∷ []) (literal (Literal.integer (pos 1)))) ∷ [])) no_handlers) ∷ []), [])
    -- try { n := 1; } on Overflow { }
    ∷ ((trying (in_order (simple (Assign (2 ∷ []) (literal (Literal.integer (pos 1)))) ∷ [])) (handler 0 no_statements no_handlers) ∷ []), [])
    -- while b { if b { leave; } }
    ∷ ((repeating (While (copy (4 ∷ []))) (in_order (choosing (If (copy (4 ∷ []))) (block (in_order (leaving ∷ [])) (block no_statements no_blocks)) ∷ [])) ∷ []), [])
    -- while true { } n := 1;
    ∷ ((repeating (While (literal (Literal.boolean true))) no_statements ∷ simple (Assign (2 ∷ []) (literal (Literal.integer (pos 1)))) ∷ []), [])
    -- try { raise Busy; } on Busy { n := 1; }
    ∷ ((trying (in_order (simple (Raise 7) ∷ [])) (handler 7 (in_order (simple (Assign (2 ∷ []) (literal (Literal.integer (pos 1)))) ∷ [])) no_handlers) ∷ []), [])
    -- leave;
    ∷ ((leaving ∷ []), (leaves_in_loops ∷ []))
    -- if b { leave; }
    ∷ ((choosing (If (copy (4 ∷ []))) (block (in_order (leaving ∷ [])) (block no_statements no_blocks)) ∷ []), (leaves_in_loops ∷ []))
    -- case never { }
    ∷ ((choosing (Case (28 ∷ []) []) no_blocks ∷ []), (arms ∷ []))
    -- select { }
    ∷ ((choosing (Select []) no_blocks ∷ []), (arms ∷ []))
    -- try { n := 1; }
    ∷ ((trying (in_order (simple (Assign (2 ∷ []) (literal (Literal.integer (pos 1)))) ∷ [])) no_handlers ∷ []), (handlers ∷ []))
    -- try { n := 1; } on Busy { } on Busy { }
    ∷ ((trying (in_order (simple (Assign (2 ∷ []) (literal (Literal.integer (pos 1)))) ∷ [])) (handler 7 no_statements (handler 7 no_statements no_handlers)) ∷ []), (handlers_differ ∷ []))
    -- try { n := 1; } on Unknown { }
    ∷ ((trying (in_order (simple (Assign (2 ∷ []) (literal (Literal.integer (pos 1)))) ∷ [])) (handler 8 no_statements no_handlers) ∷ []), (handlers_known ∷ []))
    -- case v { when flag { } when some { } when some { } }
    ∷ ((choosing (Case (7 ∷ []) (0 ∷ 1 ∷ 1 ∷ [])) (block no_statements (block no_statements (block no_statements no_blocks))) ∷ []), (blocks ∷ typed ∷ []))
    -- an `if` with one block
    ∷ ((choosing (If (copy (4 ∷ []))) (block no_statements no_blocks) ∷ []), (blocks ∷ []))
    -- an `if` without blocks of its own
    ∷ ((simple (If (copy (4 ∷ []))) ∷ []), (blocks ∷ []))
    -- raise Busy; n := 1;
    ∷ ((simple (Raise 7) ∷ simple (Assign (2 ∷ []) (literal (Literal.integer (pos 1)))) ∷ []), (reached ∷ []))
    -- while b { leave; n := 1; }
    ∷ ((repeating (While (copy (4 ∷ []))) (in_order (leaving ∷ simple (Assign (2 ∷ []) (literal (Literal.integer (pos 1)))) ∷ [])) ∷ []), (reached ∷ []))
    -- try { n := 1; } on Overflow { n := 1; }
    ∷ ((trying (in_order (simple (Assign (2 ∷ []) (literal (Literal.integer (pos 1)))) ∷ [])) (handler 0 (in_order (simple (Assign (2 ∷ []) (literal (Literal.integer (pos 1)))) ∷ [])) no_handlers) ∷ []), (reached ∷ []))
    -- try { raise Busy; } on Busy { } on Overflow { n := 1; }
    ∷ ((trying (in_order (simple (Raise 7) ∷ [])) (handler 7 no_statements (handler 0 (in_order (simple (Assign (2 ∷ []) (literal (Literal.integer (pos 1)))) ∷ [])) no_handlers)) ∷ []), (reached ∷ []))
    -- if b { raise Busy; } else { raise Busy; } n := 1;
    ∷ ((choosing (If (copy (4 ∷ []))) (block (in_order (simple (Raise 7) ∷ [])) (block (in_order (simple (Raise 7) ∷ [])) no_blocks)) ∷ simple (Assign (2 ∷ []) (literal (Literal.integer (pos 1)))) ∷ []), (reached ∷ []))
    ∷ []
