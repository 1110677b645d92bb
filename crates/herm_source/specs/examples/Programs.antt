-- Small programs as terms, for the computed runs. Each comment has the program as it is written.
use Rattle.std.specs.Prelude.{ℕ, ◌+◌, pos, true, List, [], ◌∷◌, ◌++◌, codes}
use Rattle.herm_model.specs.Paths.{Path}
use Rattle.herm_model.specs.Types.{TypeTable, predefined, fields, rows, inport, outport}
use Rattle.herm_model.specs.Expressions.{Expression, copy, operation, equal, less, at_most, plus, concatenated, decimal, boolean, integer, text}
use Rattle.herm_model.specs.Expressions
use Rattle.herm_model.specs.Statements.{Assign, Move, New, Discard, Wrap, Insert, For, Connect, Receive, Send, Select, If, While, Create, Statement, simple, choosing, repeating, leaving, trying, Block, no_statements, no_blocks, block, no_handlers, handler, Process}
use Rattle.herm_model.specs.Outcomes.{depletion, duplicate_key}
use Rattle.herm_model.specs.examples.RefusedProcesses.{in_order}
use Rattle.herm_source.specs.Modules.{Program}

-- a variable as a path, and a part of it
abbrev pub variable : ℕ → Path
variable i = i ∷ []

abbrev pub part_in : ℕ → ℕ → Path
part_in i j = i ∷ j ∷ []

abbrev pub a_number : ℕ → Expression
a_number n = Expressions.Expression.literal (integer (pos n))

abbrev pub a_string : List ℕ → Expression
a_string s = Expressions.Expression.literal (text s)

abbrev pub process_of : List ℕ → List Statement → Process
process_of variables body = record { variables = variables; body = in_order body }

abbrev pub alone : TypeTable → Process → Program
alone defined main = record { types = predefined ++ defined; processes = main ∷ []; main = 0 }

-- the first statement of most programs, where m is variable 1
abbrev pub receives_start : Statement
receives_start = simple (Receive (variable 1) (variable 0))

-- a string sent to the console
abbrev pub says : ℕ → Statement
says s = simple (Send (variable s) (part_in 1 1))

-- process main(start: main_start) {
--   var m: main_message, s: string;
--   receive m from start; s := "hi"; send s to m.out;
-- }
abbrev pub greeting : Program
greeting = alone [] (process_of (7 ∷ 6 ∷ 2 ∷ []) (
    receives_start ∷ simple (Assign (variable 2) (a_string (codes "hi"))) ∷ says 2 ∷ []))

-- process main(start: main_start) { }
abbrev pub empty_body : Program
empty_body = alone [] (process_of (7 ∷ []) [])

-- process main(start: main_start) {
--   var m: main_message, x: string;
--   receive m from start;
--   if m.arg = "" { x := "a"; }
--   discard m;
-- }
abbrev pub one_branch : Program
one_branch = alone [] (process_of (7 ∷ 6 ∷ 2 ∷ []) (
    receives_start
    ∷ choosing (If (operation equal (copy (part_in 1 0)) (a_string [])))
    (block (in_order (simple (Assign (variable 2) (a_string (codes "a"))) ∷ [])) (block no_statements no_blocks))
    ∷ simple (Discard (variable 1)) ∷ []))

-- type row = record { k: integer };  type rows = table of row key (k);
-- process main(start: main_start) {
--   var m: main_message, r: row, t: rows, s: string;
--   receive m from start; new t; new r; r.k := 1;
--   try { insert r into t; new r; r.k := 1; insert r into t; }
--   on DuplicateKey { s := text(r.k); send s to m.out; }
-- }
abbrev pub row_types : TypeTable
row_types = fields (1 ∷ []) ∷ rows 8 (0 ∷ []) ∷ []

abbrev pub new_row : ℕ → List Statement
new_row k = simple (New (variable 2)) ∷ simple (Assign (part_in 2 0) (a_number k)) ∷ []

abbrev pub inserts : Statement
inserts = simple (Insert (variable 2) (variable 3))

abbrev pub says_key : List Statement
says_key = simple (Assign (variable 4) (decimal (copy (part_in 2 0)))) ∷ says 4 ∷ []

abbrev pub refused_insert : Program
refused_insert = alone row_types (process_of (7 ∷ 6 ∷ 8 ∷ 9 ∷ 2 ∷ []) (
    receives_start ∷ simple (New (variable 3)) ∷ (new_row 1 ++
    trying (in_order (inserts ∷ (new_row 1 ++ inserts ∷ []))) (handler duplicate_key (in_order says_key) no_handlers) ∷ [])))

-- the same with  insert r into t; new r; r.k := 2; insert r into t; for r in t { s := text(r.k); send s to m.out; leave; }
-- behind r.k := 1
abbrev pub left_loop : Program
left_loop = alone row_types (process_of (7 ∷ 6 ∷ 8 ∷ 9 ∷ 2 ∷ []) (
    receives_start ∷ simple (New (variable 3)) ∷ (new_row 1 ++ inserts ∷ (new_row 2 ++ inserts
    ∷ repeating (For (variable 2) (variable 3)) (in_order (says_key ++ leaving ∷ [])) ∷ []))))

-- process main(start: main_start) {
--   var m: main_message, p: polymorph, q: polymorph, n: integer, s: string;
--   receive m from start; n := 0; wrap n as p; n := 1;
--   try { while true { wrap p as q; move q to p; n := n + 1; } }
--   on Depletion { s := text(n); send s to m.out; }
-- }
abbrev pub deep_polymorph : Program
deep_polymorph = alone [] (process_of (7 ∷ 6 ∷ 3 ∷ 3 ∷ 1 ∷ 2 ∷ []) (
    receives_start ∷ simple (Assign (variable 4) (a_number 0)) ∷ simple (Wrap (variable 4) (variable 2)) ∷ simple (Assign (variable 4) (a_number 1))
    ∷ trying
    (in_order (repeating (While (Expressions.Expression.literal (boolean true))) (in_order (
    simple (Wrap (variable 2) (variable 3)) ∷ simple (Move (variable 3) (variable 2))
    ∷ simple (Assign (variable 4) (operation plus (copy (variable 4)) (a_number 1))) ∷ [])) ∷ []))
    (handler depletion (in_order (simple (Assign (variable 5) (decimal (copy (variable 4)))) ∷ says 5 ∷ [])) no_handlers) ∷ []))

-- type li = inport of integer;
-- process main(start: main_start) {
--   var m: main_message, a: li, b: li, c: li, s: string;
--   receive m from start;
--   try { new a; new b; new c; } on Depletion { s := "full"; send s to m.out; }
-- }
abbrev pub ports_until_full : Program
ports_until_full = alone (inport 1 [] ∷ []) (process_of (7 ∷ 6 ∷ 8 ∷ 8 ∷ 8 ∷ 2 ∷ []) (
    receives_start
    ∷ trying (in_order (simple (New (variable 2)) ∷ simple (New (variable 3)) ∷ simple (New (variable 4)) ∷ []))
    (handler depletion (in_order (simple (Assign (variable 5) (a_string (codes "full"))) ∷ says 5 ∷ [])) no_handlers) ∷ []))

-- type loop_in = inport of polymorph;  type loop_out = outport of loop_in;
-- process main(start: main_start) {
--   var i: loop_in, o: loop_out, p: polymorph;
--   new i; connect o to i; wrap i as p; send p to o;
-- }
abbrev pub own_queue : Program
own_queue = alone (inport 3 [] ∷ outport 8 ∷ []) (process_of (7 ∷ 8 ∷ 9 ∷ 3 ∷ []) (
    simple (New (variable 1)) ∷ simple (Connect (variable 2) (variable 1)) ∷ simple (Wrap (variable 1) (variable 3)) ∷ simple (Send (variable 3) (variable 2)) ∷ []))

-- type li = inport of integer;  type lo = outport of li;  type pi = inport of polymorph;  type po = outport of pi;
-- process main(start: main_start) {
--   var a: pi, ao: po, b: li, bo: lo, n: integer, p: polymorph;
--   new a; connect ao to a; new b; connect bo to b;
--   n := 1; send n to bo; n := 2; send n to bo;
--   n := 3; wrap n as p; send p to ao; wrap b as p; send p to ao; n := 4; wrap n as p; send p to ao;
--   discard a;
-- }
abbrev pub port_in_message : Program
port_in_message = alone (inport 1 [] ∷ outport 8 ∷ inport 3 [] ∷ outport 10 ∷ []) (process_of (7 ∷ 10 ∷ 11 ∷ 8 ∷ 9 ∷ 1 ∷ 3 ∷ []) (
    simple (New (variable 1)) ∷ simple (Connect (variable 2) (variable 1))
    ∷ simple (New (variable 3)) ∷ simple (Connect (variable 4) (variable 3))
    ∷ simple (Assign (variable 5) (a_number 1)) ∷ simple (Send (variable 5) (variable 4))
    ∷ simple (Assign (variable 5) (a_number 2)) ∷ simple (Send (variable 5) (variable 4))
    ∷ simple (Assign (variable 5) (a_number 3)) ∷ simple (Wrap (variable 5) (variable 6)) ∷ simple (Send (variable 6) (variable 2))
    ∷ simple (Wrap (variable 3) (variable 6)) ∷ simple (Send (variable 6) (variable 2))
    ∷ simple (Assign (variable 5) (a_number 4)) ∷ simple (Wrap (variable 5) (variable 6)) ∷ simple (Send (variable 6) (variable 2))
    ∷ simple (Discard (variable 1)) ∷ []))

-- type li = inport of integer;
-- process main(start: main_start) {
--   var a: li, b: li, n: integer;
--   new a; new b;
--   select { when b receive n { } when a receive n { } }
-- }
abbrev pub waiting_select : Program
waiting_select = alone (inport 1 [] ∷ []) (process_of (7 ∷ 8 ∷ 8 ∷ 1 ∷ []) (
    simple (New (variable 1)) ∷ simple (New (variable 2))
    ∷ choosing (Select (record { target = variable 3; port = variable 2 } ∷ record { target = variable 3; port = variable 1 } ∷ []))
    (block no_statements (block no_statements no_blocks)) ∷ []))

-- process main(start: main_start) {
--   var n: integer;
--   n := 9223372036854775807; n := n + 1;
-- }
abbrev pub one_too_many : Program
one_too_many = alone [] (process_of (7 ∷ 1 ∷ []) (
    simple (Assign (variable 1) (a_number 9223372036854775807)) ∷ simple (Assign (variable 1) (operation plus (copy (variable 1)) (a_number 1))) ∷ []))

-- type li = inport of integer;  type lo = outport of li;
-- process idle(start: li) { }
-- process main(start: main_start) {
--   var m: main_message, o: lo;
--   receive m from start; create o of idle;
-- }
abbrev pub idle_process : Program
idle_process = record {
  types = predefined ++ inport 1 [] ∷ outport 8 ∷ [];
  processes = process_of (8 ∷ []) [] ∷ process_of (7 ∷ 6 ∷ 9 ∷ []) (receives_start ∷ simple (Create (variable 2) 0) ∷ []) ∷ [];
  main = 1;
}

-- type item = record { who: integer, n: integer };  type item_in = inport of item;  type item_out = outport of item_in;
-- type job = record { who: integer, dest: item_out };  type job_in = inport of job;  type job_out = outport of job_in;
-- process sender(start: job_in) {
--   var j: job, x: item, k: integer;
--   receive j from start; k := 1;
--   while k <= [N] { new x; x.who := j.who; x.n := k; send x to j.dest; k := k + 1; }
-- }
-- process main(start: main_start) {
--   var m: main_message, i: item_in, o: item_out, p: job_out, j: job, x: item, a: integer, b: integer, k: integer, s: string;
--   receive m from start; new i; connect o to i;
--   create p of sender; new j; j.who := 1; j.dest := o; send j to p;
--   create p of sender; new j; j.who := 2; j.dest := o; send j to p;
--   a := 0; b := 0; k := 0;
--   while k < [2N] {
--     receive x from i;
--     if x.who = 1 { if x.n = a + 1 { a := x.n; } } else { if x.n = b + 1 { b := x.n; } }
--     k := k + 1;
--   }
--   s := text(a) & " " & text(b); send s to m.out;
-- }
abbrev pub one_more : ℕ → Expression
one_more v = operation plus (copy (variable v)) (a_number 1)

abbrev pub sender : ℕ → Process
sender n = process_of (12 ∷ 11 ∷ 8 ∷ 1 ∷ []) (
    receives_start ∷ simple (Assign (variable 3) (a_number 1))
    ∷ repeating (While (operation at_most (copy (variable 3)) (a_number n))) (in_order (
    simple (New (variable 2)) ∷ simple (Assign (part_in 2 0) (copy (part_in 1 0))) ∷ simple (Assign (part_in 2 1) (copy (variable 3)))
    ∷ simple (Send (variable 2) (part_in 1 1)) ∷ simple (Assign (variable 3) (one_more 3)) ∷ []))
    ∷ [])

abbrev pub starts_sender : ℕ → List Statement
starts_sender who =
    simple (Create (variable 4) 0) ∷ simple (New (variable 5)) ∷ simple (Assign (part_in 5 0) (a_number who))
    ∷ simple (Assign (part_in 5 1) (copy (variable 3))) ∷ simple (Send (variable 5) (variable 4)) ∷ []

-- if x.n = v + 1 { v := x.n; }
abbrev pub counts_in : ℕ → Block
counts_in v = in_order (choosing (If (operation equal (copy (part_in 6 1)) (one_more v)))
    (block (in_order (simple (Assign (variable v) (copy (part_in 6 1))) ∷ [])) (block no_statements no_blocks)) ∷ [])

abbrev pub two_senders : ℕ → Program
two_senders n = record {
  types = predefined ++ fields (1 ∷ 1 ∷ []) ∷ inport 8 [] ∷ outport 9 ∷ fields (1 ∷ 10 ∷ []) ∷ inport 11 [] ∷ outport 12 ∷ [];
  processes = sender n ∷ process_of (7 ∷ 6 ∷ 9 ∷ 10 ∷ 13 ∷ 11 ∷ 8 ∷ 1 ∷ 1 ∷ 1 ∷ 2 ∷ []) (
      receives_start ∷ simple (New (variable 2)) ∷ simple (Connect (variable 3) (variable 2))
      ∷ (starts_sender 1 ++ (starts_sender 2 ++
      simple (Assign (variable 7) (a_number 0)) ∷ simple (Assign (variable 8) (a_number 0)) ∷ simple (Assign (variable 9) (a_number 0))
      ∷ repeating (While (operation less (copy (variable 9)) (a_number (n + n)))) (in_order (
      simple (Receive (variable 6) (variable 2))
      ∷ choosing (If (operation equal (copy (part_in 6 0)) (a_number 1))) (block (counts_in 7) (block (counts_in 8) no_blocks))
      ∷ simple (Assign (variable 9) (one_more 9)) ∷ []))
      ∷ simple (Assign (variable 10) (operation concatenated (operation concatenated (decimal (copy (variable 7))) (a_string (codes " "))) (decimal (copy (variable 8)))))
      ∷ says 10 ∷ []))) ∷ [];
  main = 1;
}
