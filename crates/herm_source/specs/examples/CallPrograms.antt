-- Small programs that call, as terms. Each comment has the program as it is written.
use Rattle.std.specs.Prelude.{ℕ, List, [], ◌∷◌, ◌++◌, codes}
use Rattle.herm_model.specs.Types.{TypeTable, predefined, fields, inport, outport, callmessage, by_in, by_inout, Raised}
use Rattle.herm_model.specs.Expressions.{path}
use Rattle.herm_model.specs.Statements.{Assign, New, Discard, Connect, Send, Create, Call, Return, ReturnBy, Statement, simple, trying, Handlers, no_handlers, handler, Process}
use Rattle.herm_model.specs.Outcomes.{disconnected}
use Rattle.herm_model.specs.examples.RefusedProcesses.{in_order}
use Rattle.herm_source.specs.Modules.{Program}
use Rattle.herm_source.specs.examples.Programs.{variable, part_in, a_string, process_of, receives_start, says}

-- type ask = callmessage (in q: string, inout w: string) and its raises;  type ask_in = inport of ask;
-- type ask_out = outport of ask_in;
abbrev pub ask_types : List Raised → TypeTable
ask_types raises = callmessage (record { mode = by_in; content = 2 } ∷ record { mode = by_inout; content = 2 } ∷ []) raises ∷ inport 8 [] ∷ outport 9 ∷ []

-- process main(start: main_start) {
--   var m: main_message, o: ask_out, q: string, w: string;
--   receive m from start; create o of callee; q := "q"; w := "w";
--   try { call o(q, w); and what follows it } on E { .. }
-- }
abbrev pub caller : List Statement → Handlers → Process
caller follows handlers = process_of (7 ∷ 6 ∷ 10 ∷ 2 ∷ 2 ∷ []) (
    receives_start ∷ simple (Create (variable 2) 0)
    ∷ simple (Assign (variable 3) (a_string (codes "q"))) ∷ simple (Assign (variable 4) (a_string (codes "w")))
    ∷ trying (in_order (simple (Call (variable 2) (path (variable 3) ∷ path (variable 4) ∷ [])) ∷ follows)) handlers ∷ [])

-- process callee(start: ask_in) { var c: ask; .. }
abbrev pub called_with : List Raised → List Statement → List Statement → Handlers → Program
called_with raises callee follows handlers = record {
  types = predefined ++ ask_types raises;
  processes = process_of (9 ∷ 8 ∷ []) callee ∷ caller follows handlers ∷ [];
  main = 1;
}

-- on Disconnected { send q to m.out; }
abbrev pub says_question : Handlers
says_question = handler disconnected (in_order (says 3 ∷ [])) no_handlers

-- a callee with  receive c from start; discard c;
abbrev pub discarded_call : Program
discarded_call = called_with [] (receives_start ∷ simple (Discard (variable 1)) ∷ []) [] says_question

-- a callee with an empty body
abbrev pub untaken_call : Program
untaken_call = called_with [] [] [] says_question

-- a callee with  receive c from start; return c;  and a caller that sends w to m.out behind the call
abbrev pub returned_call : Program
returned_call = called_with [] (receives_start ∷ simple (Return (variable 1)) ∷ []) (says 4 ∷ []) says_question

-- exception Busy; ask raises (Busy {full(w)}): a callee with  receive c from start; return c exception Busy;
-- and a caller with  on Busy { send w to m.out; } on Disconnected { send q to m.out; }
abbrev pub busy : ℕ
busy = 7

abbrev pub kept_parameter : Program
kept_parameter = called_with (record { exception = busy; kept = 1 ∷ [] } ∷ []) (receives_start ∷ simple (ReturnBy (variable 1) busy) ∷ []) []
    (handler busy (in_order (says 4 ∷ [])) says_question)

-- type ask = callmessage (inout w: string);  type ask_in = inport of ask;  type ask_out = outport of ask_in;
-- type boot = record { mine: ask_in, peer: ask_out };  type boot_in = inport of boot;  type boot_out = outport of boot_in;
-- process peer(start: boot_in) { var b: boot, w: string; receive b from start; w := "b"; call b.peer(w); }
-- process main(start: main_start) {
--   var i: ask_in, b: boot, o: ask_out, p: boot_out, w: string;
--   new b; new i; connect b.peer to i; new b.mine; connect o to b.mine;
--   create p of peer; send b to p; w := "a"; call o(w);
-- }
abbrev pub calls_both_ways : Program
calls_both_ways = record {
  types = predefined ++ callmessage (record { mode = by_inout; content = 2 } ∷ []) [] ∷ inport 8 [] ∷ outport 9 ∷ fields (9 ∷ 10 ∷ []) ∷ inport 11 [] ∷ outport 12 ∷ [];
  processes =
      process_of (12 ∷ 11 ∷ 2 ∷ []) (receives_start ∷ simple (Assign (variable 2) (a_string (codes "b"))) ∷ simple (Call (part_in 1 1) (path (variable 2) ∷ [])) ∷ [])
      ∷ process_of (7 ∷ 9 ∷ 11 ∷ 10 ∷ 13 ∷ 2 ∷ []) (
      simple (New (variable 2)) ∷ simple (New (variable 1)) ∷ simple (Connect (part_in 2 1) (variable 1))
      ∷ simple (New (part_in 2 0)) ∷ simple (Connect (variable 3) (part_in 2 0))
      ∷ simple (Create (variable 4) 0) ∷ simple (Send (variable 2) (variable 4))
      ∷ simple (Assign (variable 5) (a_string (codes "a"))) ∷ simple (Call (variable 3) (path (variable 5) ∷ [])) ∷ [])
      ∷ [];
  main = 1;
}
