-- The ring of nodes that pass a token, and how many instructions its statements become.
use Rattle.std.specs.Prelude.{ℕ, ◌*◌, true, List, [], ◌∷◌, ◌++◌, map, length, nat_le, codes, ◌≡◌}
use Rattle.herm_model.specs.Lists.{total}
use Rattle.herm_model.specs.Types.{TypeTable, predefined, fields, inport, outport}
use Rattle.herm_model.specs.Expressions.{copy, operation, equal, less, plus, minus, boolean}
use Rattle.herm_model.specs.Expressions
use Rattle.herm_model.specs.Outcomes.{disconnected}
use Rattle.herm_model.specs.Statements.{Assign, Move, New, Connect, Receive, Send, If, While, Create, Statement, simple, choosing, repeating, leaving, trying, no_statements, no_blocks, block, no_handlers, handler, Process}
use Rattle.herm_model.specs.Nodes.{process_nodes}
use Rattle.herm_model.specs.examples.RefusedProcesses.{in_order}
use Rattle.herm_source.specs.Modules.{Program}
use Rattle.herm_source.specs.examples.Programs.{variable, part_in, a_number, a_string, process_of, receives_start}
use Rattle.herm_instructions.specs.Images.{CodeModule, Image}

-- type token_in = inport of integer;  type token_out = outport of token_in;
-- type node_message = record { inp: token_in, next: token_out, out: console_out };
-- type node_start = inport of node_message;  type node_out = outport of node_start;
abbrev pub token_types : TypeTable
token_types = inport 1 [] ∷ outport 8 ∷ fields (8 ∷ 9 ∷ 5 ∷ []) ∷ inport 10 [] ∷ outport 11 ∷ []

abbrev pub passes : List Statement
passes = simple (Assign (variable 2) (operation minus (copy (variable 2)) (a_number 1))) ∷ simple (Send (variable 2) (part_in 1 1)) ∷ []

-- process node(start: node_start) {
--   var m: node_message, n: integer, s: string;
--   receive m from start;
--   while true {
--     receive n from m.inp;
--     if n = 0 { s := "token home"; send s to m.out; }
--     if n < 1 { try { n := n - 1; send n to m.next; } on Disconnected { } leave; }
--     n := n - 1; send n to m.next;
--   }
-- }
abbrev pub node_process : Process
node_process = process_of (11 ∷ 10 ∷ 1 ∷ 2 ∷ []) (
    receives_start ∷ repeating (While (Expressions.Expression.literal (boolean true))) (in_order (
    simple (Receive (variable 2) (part_in 1 0))
    ∷ choosing (If (operation equal (copy (variable 2)) (a_number 0))) (block (in_order (simple (Assign (variable 3) (a_string (codes "token home"))) ∷ simple (Send (variable 3) (part_in 1 2)) ∷ [])) (block no_statements no_blocks))
    ∷ choosing (If (operation less (copy (variable 2)) (a_number 1))) (block (in_order (trying (in_order passes) (handler disconnected no_statements no_handlers) ∷ leaving ∷ [])) (block no_statements no_blocks))
    ∷ passes)) ∷ [])

-- new c; move [i] to c.inp; c.next := next; c.out := m.out; create p of node; send c to p;
abbrev pub adds_node : ℕ → List Statement
adds_node i =
    simple (New (variable 7)) ∷ simple (Move (variable i) (part_in 7 0)) ∷ simple (Assign (part_in 7 1) (copy (variable 4))) ∷ simple (Assign (part_in 7 2) (copy (part_in 1 1)))
    ∷ simple (Create (variable 8) 0) ∷ simple (Send (variable 7) (variable 8)) ∷ []

-- process main(start: main_start) {
--   var m: main_message, first: token_in, head: token_out, next: token_out, i: token_in, o: token_out, c: node_message, p: node_out, k: integer;
--   receive m from start; new first; connect head to first; next := head; k := 1;
--   while k < [N] { new i; connect o to i; [a node with i]; next := o; k := k + 1; }
--   [a node with first]; k := [H]; send k to head;
-- }
abbrev pub ring_main : (nodes hops : ℕ) → Process
ring_main nodes hops = process_of (7 ∷ 6 ∷ 8 ∷ 9 ∷ 9 ∷ 8 ∷ 9 ∷ 10 ∷ 12 ∷ 1 ∷ []) (
    receives_start ∷ simple (New (variable 2)) ∷ simple (Connect (variable 3) (variable 2)) ∷ simple (Assign (variable 4) (copy (variable 3))) ∷ simple (Assign (variable 9) (a_number 1))
    ∷ repeating (While (operation less (copy (variable 9)) (a_number nodes))) (in_order (
    simple (New (variable 5)) ∷ simple (Connect (variable 6) (variable 5))
    ∷ (adds_node 5 ++ simple (Assign (variable 4) (copy (variable 6))) ∷ simple (Assign (variable 9) (operation plus (copy (variable 9)) (a_number 1))) ∷ [])))
    ∷ (adds_node 2 ++ simple (Assign (variable 9) (a_number hops)) ∷ simple (Send (variable 9) (variable 3)) ∷ []))

abbrev pub token_ring : (nodes hops : ℕ) → Program
token_ring nodes hops = record { types = predefined ++ token_types; processes = node_process ∷ ring_main nodes hops ∷ []; main = 1 }

-- how many statements each process has, and how many instructions each module
abbrev pub statement_counts : Program → List ℕ
statement_counts program = map (λ (p : Process). length (process_nodes p)) program.processes

abbrev pub instruction_counts : Image → List ℕ
instruction_counts image = map (λ (m : CodeModule). length m.code) image.modules

-- there are so many instructions for each statement at most
abbrev pub HasAtMost : Image → Program → (many : ℕ) → Type 0
HasAtMost image program many = nat_le (total (λ n. n) (instruction_counts image)) (many * total (λ n. n) (statement_counts program)) ≡ true
