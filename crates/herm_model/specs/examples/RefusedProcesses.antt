-- Small processes with what is missing in them. Each comment has the process as it is written.
use Rattle.std.specs.Prelude.{ℕ, true, pos, List, [], ◌∷◌, ◌++◌, codes}
use Rattle.herm_model.specs.Paths.{init}
use Rattle.herm_model.specs.Types.{TypeTable, predefined, fields, rows, inport, outport, callmessage, by_in, by_inout, Raised}
use Rattle.herm_model.specs.Expressions.{Expression, literal, copy, operation, equal, decimal, boolean, integer, text, path}
use Rattle.herm_model.specs.Statements.{Assign, New, Discard, Insert, Receive, Send, If, While, Create, Call, ReturnBy, Statement, simple, choosing, repeating, trying, Block, no_statements, statement, no_blocks, block, Handlers, no_handlers, handler, Process}
use Rattle.herm_model.specs.Outcomes.{ok, is_true, is_false, raised, duplicate_key, disconnected}
use Rattle.herm_model.specs.ControlPaths.{Hop}
use Rattle.herm_model.specs.MissingFacts.{Refusal}

-- a hop that goes on normally
abbrev pub normally : ℕ → Hop
normally n = record { number = n; outcome = ok }

-- a block of these statements
abbrev pub in_order : List Statement → Block
in_order [] = no_statements
in_order (s ∷ rest) = statement s (in_order rest)

-- a text as a literal
abbrev pub quoted : List ℕ → Expression
quoted bytes = literal (text bytes)

-- A variable that is set in one branch:
--   process main(start: main_start) {
--     var m: main_message, x: string;
--     receive m from start;
--     if m.arg = "" { x := "a"; }
--     send x to m.out;
--   }
abbrev pub set_in_one_branch : Process
set_in_one_branch = record {
  variables = 7 ∷ 6 ∷ 2 ∷ [];
  body = in_order (
      simple (Receive (1 ∷ []) (0 ∷ []))
      ∷ choosing (If (operation equal (copy (1 ∷ 0 ∷ [])) (quoted [])))
      (block (in_order (simple (Assign (2 ∷ []) (quoted (codes "a"))) ∷ [])) (block no_statements no_blocks))
      ∷ simple (Send (2 ∷ []) (1 ∷ 1 ∷ []))
      ∷ []);
}

-- needs init(x) by start 1:ok 2:false
abbrev pub missing_after_one_branch : List Refusal
missing_after_one_branch = record { number = 4; fact = init (2 ∷ []); path = normally 1 ∷ record { number = 2; outcome = is_false } ∷ [] } ∷ []

-- A loop that sends what it does not set again:
--   process main(start: main_start) {
--     var m: main_message, x: string;
--     receive m from start;
--     x := "a";
--     while true { send x to m.out; }
--   }
abbrev pub sent_twice : Process
sent_twice = record {
  variables = 7 ∷ 6 ∷ 2 ∷ [];
  body = in_order (
      simple (Receive (1 ∷ []) (0 ∷ []))
      ∷ simple (Assign (2 ∷ []) (quoted (codes "a")))
      ∷ repeating (While (literal (boolean true))) (in_order (simple (Send (2 ∷ []) (1 ∷ 1 ∷ [])) ∷ []))
      ∷ []);
}

-- needs init(x) by start 1:ok 2:ok 3:true 4:ok 3:true
abbrev pub missing_in_a_loop : List Refusal
missing_in_a_loop = record { number = 4; fact = init (2 ∷ []); path = normally 1 ∷ normally 2 ∷ record { number = 3; outcome = is_true } ∷ normally 4 ∷ record { number = 3; outcome = is_true } ∷ [] } ∷ []

--   definitions d {
--     type row = record { k: integer };
--     type rows = table of row key (k);
--   }
abbrev pub with_rows : TypeTable
with_rows = predefined ++ fields (1 ∷ []) ∷ rows 8 (0 ∷ []) ∷ []

-- `r.k := 1;`, `insert r into t;` and `s := text(r.k);`
abbrev pub set_key : Statement
set_key = simple (Assign (2 ∷ 0 ∷ []) (literal (integer (pos 1))))

abbrev pub insert_row : Statement
insert_row = simple (Insert (2 ∷ []) (3 ∷ []))

abbrev pub show_key : Statement
show_key = simple (Assign (4 ∷ []) (decimal (copy (2 ∷ 0 ∷ []))))

-- A refused insert keeps its row:
--   process main(start: main_start) {
--     var m: main_message, r: row, t: rows, s: string;
--     receive m from start;
--     new t;
--     new r;
--     r.k := 1;
--     try {
--       insert r into t;
--       new r;
--       r.k := 1;
--       insert r into t;
--     } on DuplicateKey {
--       s := text(r.k);
--       send s to m.out;
--     }
--   }
abbrev pub inserted_twice : Process
inserted_twice = record {
  variables = 7 ∷ 6 ∷ 8 ∷ 9 ∷ 2 ∷ [];
  body = in_order (
      simple (Receive (1 ∷ []) (0 ∷ []))
      ∷ simple (New (3 ∷ []))
      ∷ simple (New (2 ∷ []))
      ∷ set_key
      ∷ trying (in_order (insert_row ∷ simple (New (2 ∷ [])) ∷ set_key ∷ insert_row ∷ []))
      (handler duplicate_key (in_order (show_key ∷ simple (Send (4 ∷ []) (1 ∷ 1 ∷ [])) ∷ [])) no_handlers)
      ∷ []);
}

-- The same, where the row is used behind its insert, and the handler discards it:
--     try {
--       insert r into t;
--       s := text(r.k);
--     } on DuplicateKey {
--       discard r;
--     }
abbrev pub used_after_insert : Process
used_after_insert = record {
  variables = 7 ∷ 6 ∷ 8 ∷ 9 ∷ 2 ∷ [];
  body = in_order (
      simple (Receive (1 ∷ []) (0 ∷ []))
      ∷ simple (New (3 ∷ []))
      ∷ simple (New (2 ∷ []))
      ∷ set_key
      ∷ trying (in_order (insert_row ∷ show_key ∷ []))
      (handler duplicate_key (in_order (simple (Discard (2 ∷ [])) ∷ [])) no_handlers)
      ∷ []);
}

-- needs init(r) by start 1:ok 2:ok 3:ok 4:ok 6:ok
-- needs init(r.k) by start 1:ok 2:ok 3:ok 4:ok 6:ok
abbrev pub past_insert : List Hop
past_insert = normally 1 ∷ normally 2 ∷ normally 3 ∷ normally 4 ∷ normally 6 ∷ []

abbrev pub missing_after_insert : List Refusal
missing_after_insert = record { number = 7; fact = init (2 ∷ []); path = past_insert } ∷ record { number = 7; fact = init (2 ∷ 0 ∷ []); path = past_insert } ∷ []

--   definitions d {
--     type ask = callmessage (in q: string, inout w: string);
--     type ask_in = inport of ask;
--     type ask_out = outport of ask_in;
--   }
abbrev pub with_ask : List Raised → TypeTable
with_ask raises = predefined ++ callmessage (record { mode = by_in; content = 2 } ∷ record { mode = by_inout; content = 2 } ∷ []) raises ∷ inport 8 [] ∷ outport 9 ∷ []

-- A callee that discards its callmessage:
--   process drop(start: ask_in) {
--     var c: ask;
--     receive c from start;
--     discard c;
--   }
abbrev pub discards_its_call : Process
discards_its_call = record {
  variables = 9 ∷ 8 ∷ [];
  body = in_order (simple (Receive (1 ∷ []) (0 ∷ [])) ∷ simple (Discard (1 ∷ [])) ∷ []);
}

-- Its caller, with these handlers:
--   process main(start: main_start) {
--     var m: main_message, o: ask_out, q: string, w: string;
--     receive m from start;
--     create o of drop;
--     q := "q";
--     w := "w";
--     try { call o(q, w); } ..
--   }
abbrev pub calls : Handlers → Process
calls handlers = record {
  variables = 7 ∷ 6 ∷ 10 ∷ 2 ∷ 2 ∷ [];
  body = in_order (
      simple (Receive (1 ∷ []) (0 ∷ []))
      ∷ simple (Create (2 ∷ []) 0)
      ∷ simple (Assign (3 ∷ []) (quoted (codes "q")))
      ∷ simple (Assign (4 ∷ []) (quoted (codes "w")))
      ∷ trying (in_order (simple (Call (2 ∷ []) (path (3 ∷ []) ∷ path (4 ∷ []) ∷ [])) ∷ [])) handlers
      ∷ []);
}

-- `send q to m.out;` and `send w to m.out;`
abbrev pub send_q : Block
send_q = in_order (simple (Send (3 ∷ []) (1 ∷ 1 ∷ [])) ∷ [])

abbrev pub send_w : Block
send_w = in_order (simple (Send (4 ∷ []) (1 ∷ 1 ∷ [])) ∷ [])

-- needs init(w) by start 1:ok 2:ok 3:ok 4:ok and then the call's exception
abbrev pub missing_after_call : ℕ → List Refusal
missing_after_call e = record { number = 7; fact = init (4 ∷ []); path = normally 1 ∷ normally 2 ∷ normally 3 ∷ normally 4 ∷ record { number = 6; outcome = raised e } ∷ [] } ∷ []

-- `exception Busy;`, raised with nothing kept and with { full(w) }
abbrev pub busy : ℕ
busy = 7

abbrev pub keeps_nothing : List Raised
keeps_nothing = record { exception = busy; kept = [] } ∷ []

abbrev pub keeps_w : List Raised
keeps_w = record { exception = busy; kept = 1 ∷ [] } ∷ []

-- on Busy { send w to m.out; } on Disconnected { send q to m.out; }
abbrev pub on_busy : Handlers
on_busy = handler busy send_w (handler disconnected send_q no_handlers)

-- A callee that returns its callmessage by an exception, with these statements before:
--   process deny(start: ask_in) {
--     var c: ask;
--     receive c from start;
--     ..
--     return c exception Busy;
--   }
abbrev pub denies : List Statement → Process
denies before = record {
  variables = 9 ∷ 8 ∷ [];
  body = in_order (simple (Receive (1 ∷ []) (0 ∷ [])) ∷ (before ++ simple (ReturnBy (1 ∷ []) busy) ∷ []));
}

-- `discard c.w;`
abbrev pub discard_w : Statement
discard_w = simple (Discard (1 ∷ 1 ∷ []))

-- needs init(c.w) by start 1:ok 2:ok
abbrev pub missing_at_return : List Refusal
missing_at_return = record { number = 3; fact = init (1 ∷ 1 ∷ []); path = normally 1 ∷ normally 2 ∷ [] } ∷ []
