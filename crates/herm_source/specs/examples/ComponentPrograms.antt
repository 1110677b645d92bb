-- A program that takes values apart, with the good outcome of each statement and its exception. The comment has it as it is written.
use Rattle.std.specs.Prelude.{ℕ, pos, List, [], ◌∷◌, ◌++◌, codes}
use Rattle.herm_model.specs.Types.{TypeTable, cases}
use Rattle.herm_model.specs.Expressions.{Atom, literal, integer}
use Rattle.herm_model.specs.Statements.{Assign, New, Unite, Dissolve, Reveal, Case, Wrap, Unwrap, Insert, Remove, Get, Raise, Statement, simple, choosing, trying, no_blocks, block, no_handlers, handler}
use Rattle.herm_model.specs.Outcomes.{overflow, case_error, polymorph_mismatch, not_found}
use Rattle.herm_model.specs.examples.RefusedProcesses.{in_order}
use Rattle.herm_source.specs.Modules.{Program}
use Rattle.herm_source.specs.examples.Programs.{variable, part_in, a_number, a_string, process_of, alone, receives_start, says, row_types}

-- the statements, and behind an exception of theirs the others
abbrev pub tried : List Statement → (exception : ℕ) → List Statement → Statement
tried body e caught = trying (in_order body) (handler e (in_order caught) no_handlers)

-- a string is put together and sent
abbrev pub tells : List ℕ → List Statement
tells s = simple (Assign (variable 4) (a_string s)) ∷ says 4 ∷ []

abbrev pub at_key : ℕ → List Atom
at_key n = literal (integer (pos n)) ∷ []

abbrev pub apart_types : TypeTable
apart_types = row_types ++ cases (1 ∷ 2 ∷ []) ∷ []

-- type row = record { k: integer };  type rows = table of row key (k);  type either = variant { a: integer, b: string };
-- process main(start: main_start) {
--   var m: main_message, v: either, n: integer, s: string, p: polymorph, r: row, t: rows, q: row;
--   receive m from start;
--   n := 1; unite v.a from n; reveal v.a;
--   try { reveal v.b; } on CaseError { s := "reveal"; send s to m.out; }
--   case v { a { dissolve v.a into n; s := "a"; send s to m.out; } b { } }
--   s := "x"; unite v.b from s; case v { a { } b { s := "b"; send s to m.out; } }
--   n := 1; wrap n as p;
--   try { unwrap p as string into s; } on PolymorphMismatch { unwrap p as integer into n; s := "unwrap"; send s to m.out; }
--   new t; new r; r.k := 1; insert r into t; get q from t[1];
--   try { get q from t[2]; } on NotFound { s := "get"; send s to m.out; }
--   remove q from t[1];
--   try { remove q from t[1]; } on NotFound { s := "remove"; send s to m.out; }
--   try { raise Overflow; } on Overflow { s := "raise"; send s to m.out; }
--   raise NotFound;
-- }
abbrev pub taken_apart : Program
taken_apart = alone apart_types (process_of (7 ∷ 6 ∷ 10 ∷ 1 ∷ 2 ∷ 3 ∷ 8 ∷ 9 ∷ 8 ∷ []) (
    receives_start ∷ simple (Assign (variable 3) (a_number 1)) ∷ simple (Unite (variable 2) 0 (variable 3)) ∷ simple (Reveal (variable 2) 0)
    ∷ tried (simple (Reveal (variable 2) 1) ∷ []) case_error (tells (codes "reveal"))
    ∷ choosing (Case (variable 2) (0 ∷ 1 ∷ [])) (block (in_order (simple (Dissolve (variable 2) 0 (variable 3)) ∷ tells (codes "a"))) (block (in_order []) no_blocks))
    ∷ simple (Assign (variable 4) (a_string (codes "x"))) ∷ simple (Unite (variable 2) 1 (variable 4))
    ∷ choosing (Case (variable 2) (0 ∷ 1 ∷ [])) (block (in_order []) (block (in_order (tells (codes "b"))) no_blocks))
    ∷ simple (Assign (variable 3) (a_number 1)) ∷ simple (Wrap (variable 3) (variable 5))
    ∷ tried (simple (Unwrap (variable 5) 2 (variable 4)) ∷ []) polymorph_mismatch (simple (Unwrap (variable 5) 1 (variable 3)) ∷ tells (codes "unwrap"))
    ∷ simple (New (variable 7)) ∷ simple (New (variable 6)) ∷ simple (Assign (part_in 6 0) (a_number 1)) ∷ simple (Insert (variable 6) (variable 7))
    ∷ simple (Get (variable 8) (variable 7) (at_key 1))
    ∷ tried (simple (Get (variable 8) (variable 7) (at_key 2)) ∷ []) not_found (tells (codes "get"))
    ∷ simple (Remove (variable 8) (variable 7) (at_key 1))
    ∷ tried (simple (Remove (variable 8) (variable 7) (at_key 1)) ∷ []) not_found (tells (codes "remove"))
    ∷ tried (simple (Raise overflow) ∷ []) overflow (tells (codes "raise"))
    ∷ simple (Raise not_found) ∷ []))
