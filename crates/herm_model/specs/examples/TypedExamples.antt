-- Programs that are typed. Each comment has the program as it is written.
use Rattle.std.specs.Prelude.{ℕ, true, pos, List, [], ◌∷◌, ◌++◌, codes, replicate}
use Rattle.herm_model.specs.Paths.{Path}
use Rattle.herm_model.specs.Types.{TypeTable, fields, cases, rows, inport, outport, callmessage, by_in, by_inout}
use Rattle.herm_model.specs.Expressions.{Expression, literal, copy, operation, decimal, equal, less, at_most, plus, minus, concatenated, Literal}
use Rattle.herm_model.specs.Statements.{Assign, Move, New, Discard, Unite, Case, Wrap, Unwrap, Insert, For, Connect, Send, Receive, Create, If, While, Statement, simple, choosing, repeating, leaving, trying, no_statements, no_blocks, block, no_handlers, handler, Process}
use Rattle.herm_model.specs.Outcomes.{polymorph_mismatch, duplicate_key, disconnected}
use Rattle.herm_model.specs.examples.RefusedProcesses.{in_order}

-- a variable as a path, and a part of it
abbrev pub variable : ℕ → Path
variable i = i ∷ []

abbrev pub field_in : ℕ → ℕ → Path
field_in i j = i ∷ j ∷ []

abbrev pub number : ℕ → Expression
number n = literal (Literal.integer (pos n))

abbrev pub string : List ℕ → Expression
string bytes = literal (Literal.text bytes)

abbrev pub process_with : List ℕ → List Statement → Process
process_with variables body = record { variables = variables; body = in_order body }

abbrev pub receives : Statement
receives = simple (Receive (variable 1) (variable 0))

abbrev pub set_to : Path → Expression → Statement
set_to x e = simple (Assign x e)

abbrev pub if_then : Expression → List Statement → Statement
if_then e body = choosing (If e) (block (in_order body) (block no_statements no_blocks))

abbrev pub if_else : Expression → List Statement → List Statement → Statement
if_else e body other = choosing (If e) (block (in_order body) (block (in_order other) no_blocks))

abbrev pub while_do : Expression → List Statement → Statement
while_do e body = repeating (While e) (in_order body)

-- `x + 1` and `x - 1`
abbrev pub one_more : Path → Expression
one_more x = operation plus (copy x) (number 1)

abbrev pub one_less : Path → Expression
one_less x = operation minus (copy x) (number 1)

-- definitions ring {
--   type token_in = inport of integer;
--   type token_out = outport of token_in;
--   type node_message = record { inp: token_in, next: token_out, out: console_out };
--   type node_start = inport of node_message;
--   type node_out = outport of node_start;
-- }
abbrev pub ring_types : TypeTable
ring_types = inport 1 [] ∷ outport 8 ∷ fields (8 ∷ 9 ∷ 5 ∷ []) ∷ inport 10 [] ∷ outport 11 ∷ []

-- process node(start: node_start) {
--   var m: node_message, n: integer, s: string;
--   receive m from start;
--   while true {
--     receive n from m.inp;
--     if n = 0 { s := "token home"; send s to m.out; }
--     if n < 1 { try { n := n - 1; send n to m.next; } on Disconnected { } leave; }
--     n := n - 1;
--     send n to m.next;
--   }
-- }
abbrev pub ring_node : Process
ring_node = process_with (11 ∷ 10 ∷ 1 ∷ 2 ∷ []) (
    receives
    ∷ while_do (literal (Literal.boolean true)) (
    simple (Receive (variable 2) (field_in 1 0))
    ∷ if_then (operation equal (copy (variable 2)) (number 0)) (set_to (variable 3) (string (codes "token home")) ∷ simple (Send (variable 3) (field_in 1 2)) ∷ [])
    ∷ if_then (operation less (copy (variable 2)) (number 1)) (
    trying (in_order (set_to (variable 2) (one_less (variable 2)) ∷ simple (Send (variable 2) (field_in 1 1)) ∷ [])) (handler disconnected no_statements no_handlers)
    ∷ leaving ∷ [])
    ∷ set_to (variable 2) (one_less (variable 2))
    ∷ simple (Send (variable 2) (field_in 1 1)) ∷ [])
    ∷ [])

-- `new c; move x to c.inp; c.next := next; c.out := m.out; create p of node; send c to p;`
abbrev pub begin_node : Path → List Statement
begin_node x =
    simple (New (variable 7)) ∷ simple (Move x (field_in 7 0)) ∷ set_to (field_in 7 1) (copy (variable 4)) ∷ set_to (field_in 7 2) (copy (field_in 1 1))
    ∷ simple (Create (variable 8) 0) ∷ simple (Send (variable 7) (variable 8)) ∷ []

-- process main(start: main_start) {
--   var m: main_message, first: token_in, head: token_out, next: token_out,
--     i: token_in, o: token_out, c: node_message, p: node_out, k: integer;
--   receive m from start;
--   new first;
--   connect head to first;
--   next := head;
--   k := 1;
--   while k < 3 { new i; connect o to i; (a node with i) next := o; k := k + 1; }
--   (a node with first)
--   k := 300;
--   send k to head;
-- }
abbrev pub ring_main : Process
ring_main = process_with (7 ∷ 6 ∷ 8 ∷ 9 ∷ 9 ∷ 8 ∷ 9 ∷ 10 ∷ 12 ∷ 1 ∷ []) (
    receives ∷ simple (New (variable 2)) ∷ simple (Connect (variable 3) (variable 2)) ∷ set_to (variable 4) (copy (variable 3)) ∷ set_to (variable 9) (number 1)
    ∷ while_do (operation less (copy (variable 9)) (number 3)) (
    simple (New (variable 5)) ∷ simple (Connect (variable 6) (variable 5))
    ∷ (begin_node (variable 5) ++ (set_to (variable 4) (copy (variable 6)) ∷ set_to (variable 9) (one_more (variable 9)) ∷ [])))
    ∷ (begin_node (variable 2) ++ (set_to (variable 9) (number 300) ∷ simple (Send (variable 9) (variable 3)) ∷ [])))

-- definitions d {
--   type item = record { who: integer, n: integer };
--   type item_in = inport of item;
--   type item_out = outport of item_in;
--   type job = record { who: integer, dest: item_out };
--   type job_in = inport of job;
--   type job_out = outport of job_in;
-- }
abbrev pub sender_types : TypeTable
sender_types = fields (1 ∷ 1 ∷ []) ∷ inport 8 [] ∷ outport 9 ∷ fields (1 ∷ 10 ∷ []) ∷ inport 11 [] ∷ outport 12 ∷ []

-- process sender(start: job_in) {
--   var j: job, x: item, k: integer;
--   receive j from start;
--   k := 1;
--   while k <= 100 { new x; x.who := j.who; x.n := k; send x to j.dest; k := k + 1; }
-- }
abbrev pub sender : Process
sender = process_with (12 ∷ 11 ∷ 8 ∷ 1 ∷ []) (
    receives ∷ set_to (variable 3) (number 1)
    ∷ while_do (operation at_most (copy (variable 3)) (number 100)) (
    simple (New (variable 2)) ∷ set_to (field_in 2 0) (copy (field_in 1 0)) ∷ set_to (field_in 2 1) (copy (variable 3))
    ∷ simple (Send (variable 2) (field_in 1 1)) ∷ set_to (variable 3) (one_more (variable 3)) ∷ [])
    ∷ [])

-- `create p of sender; new j; j.who := ..; j.dest := o; send j to p;`
abbrev pub begin_sender : ℕ → List Statement
begin_sender who = simple (Create (variable 4) 0) ∷ simple (New (variable 5)) ∷ set_to (field_in 5 0) (number who) ∷ set_to (field_in 5 1) (copy (variable 3)) ∷ simple (Send (variable 5) (variable 4)) ∷ []

-- `if x.n = a + 1 { a := x.n; }`
abbrev pub count_next : ℕ → Statement
count_next a = if_then (operation equal (copy (field_in 6 1)) (one_more (variable a))) (set_to (variable a) (copy (field_in 6 1)) ∷ [])

-- process main(start: main_start) {
--   var m: main_message, i: item_in, o: item_out, p: job_out, j: job,
--     x: item, a: integer, b: integer, k: integer, s: string;
--   receive m from start;
--   new i;
--   connect o to i;
--   (a sender with who 1) (a sender with who 2)
--   a := 0; b := 0; k := 0;
--   while k < 200 {
--     receive x from i;
--     if x.who = 1 { if x.n = a + 1 { a := x.n; } } else { if x.n = b + 1 { b := x.n; } }
--     k := k + 1;
--   }
--   s := text(a) & " " & text(b);
--   send s to m.out;
-- }
abbrev pub two_senders : Process
two_senders = process_with (7 ∷ 6 ∷ 9 ∷ 10 ∷ 13 ∷ 11 ∷ 8 ∷ 1 ∷ 1 ∷ 1 ∷ 2 ∷ []) (
    receives ∷ simple (New (variable 2)) ∷ simple (Connect (variable 3) (variable 2))
    ∷ (begin_sender 1 ++ (begin_sender 2 ++ (
    set_to (variable 7) (number 0) ∷ set_to (variable 8) (number 0) ∷ set_to (variable 9) (number 0)
    ∷ while_do (operation less (copy (variable 9)) (number 200)) (
    simple (Receive (variable 6) (variable 2))
    ∷ if_else (operation equal (copy (field_in 6 0)) (number 1)) (count_next 7 ∷ []) (count_next 8 ∷ [])
    ∷ set_to (variable 9) (one_more (variable 9)) ∷ [])
    ∷ set_to (variable 10) (operation concatenated (operation concatenated (decimal (copy (variable 7))) (string (codes " "))) (decimal (copy (variable 8))))
    ∷ simple (Send (variable 10) (field_in 1 1)) ∷ []))))

-- definitions d {
--   exception Busy;
--   type ask = callmessage (in q: string, inout w: string) raises (Busy { full(w) });
--   type ask_in = inport of ask;
--   type ask_out = outport of ask_in;
-- }
abbrev pub keeping_types : TypeTable
keeping_types = callmessage (record { mode = by_in; content = 2 } ∷ record { mode = by_inout; content = 2 } ∷ []) (record { exception = 7; kept = 1 ∷ [] } ∷ []) ∷ inport 8 [] ∷ outport 9 ∷ []

-- definitions d {
--   type item = variant { number: integer, words: string };
--   type row = record { key: integer, item: item };
--   type rows = table of row key (key);
-- }
abbrev pub item_types : TypeTable
item_types = cases (1 ∷ 2 ∷ []) ∷ fields (1 ∷ 8 ∷ []) ∷ rows 9 (0 ∷ []) ∷ []

-- process main(start: main_start) {
--   var m: main_message, t: rows, r: row, n: integer, s: string, p: polymorph, i: item;
--   receive m from start;
--   new t;
--   n := 1;
--   unite i.number from n;
--   new r;
--   r.key := 1;
--   move i to r.item;
--   try { insert r into t; } on DuplicateKey { discard r; }
--   wrap t as p;
--   try { unwrap p as rows into t; } on PolymorphMismatch { new t; }
--   for r in t {
--     case r.item { when number { s := text(r.item.number); } when words { s := r.item.words; } }
--     send s to m.out;
--   }
-- }
abbrev pub items_in_a_table : Process
items_in_a_table = process_with (7 ∷ 6 ∷ 10 ∷ 9 ∷ 1 ∷ 2 ∷ 3 ∷ 8 ∷ []) (
    receives ∷ simple (New (variable 2)) ∷ set_to (variable 4) (number 1) ∷ simple (Unite (variable 7) 0 (variable 4))
    ∷ simple (New (variable 3)) ∷ set_to (field_in 3 0) (number 1) ∷ simple (Move (variable 7) (field_in 3 1))
    ∷ trying (in_order (simple (Insert (variable 3) (variable 2)) ∷ [])) (handler duplicate_key (in_order (simple (Discard (variable 3)) ∷ [])) no_handlers)
    ∷ simple (Wrap (variable 2) (variable 6))
    ∷ trying (in_order (simple (Unwrap (variable 6) 10 (variable 2)) ∷ [])) (handler polymorph_mismatch (in_order (simple (New (variable 2)) ∷ [])) no_handlers)
    ∷ repeating (For (variable 3) (variable 2)) (in_order (
    choosing (Case (field_in 3 1) (0 ∷ 1 ∷ [])) (
    block (in_order (set_to (variable 5) (decimal (copy (3 ∷ 1 ∷ 0 ∷ []))) ∷ []))
    (block (in_order (set_to (variable 5) (copy (3 ∷ 1 ∷ 1 ∷ [])) ∷ [])) no_blocks))
    ∷ simple (Send (variable 5) (field_in 1 1)) ∷ []))
    ∷ [])

-- a process of these variables with an empty body, and one of so many statements
abbrev pub with_variables : List ℕ → Process
with_variables variables = process_with variables []

abbrev pub with_statements : ℕ → Process
with_statements n = process_with (7 ∷ 1 ∷ []) (replicate n (set_to (variable 1) (number 1)))
