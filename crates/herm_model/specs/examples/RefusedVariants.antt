-- Small processes with variants, and what is missing in them. Each comment has the process as it is written.
use Rattle.std.specs.Prelude.{pos, List, [], ◌∷◌, ◌++◌}
use Rattle.herm_model.specs.Paths.{case}
use Rattle.herm_model.specs.Types.{TypeTable, predefined, cases}
use Rattle.herm_model.specs.Expressions.{literal, integer}
use Rattle.herm_model.specs.Statements.{Assign, Move, Unite, Dissolve, Reveal, Statement, simple, Process}
use Rattle.herm_model.specs.MissingFacts.{Refusal}
use Rattle.herm_model.specs.examples.RefusedProcesses.{normally, in_order}

--   definitions d { type v = variant { a: integer, b: string }; }
abbrev pub with_variant : TypeTable
with_variant = predefined ++ cases (1 ∷ 2 ∷ []) ∷ []

-- A component that is not known any more behind a move, with these statements after it:
--   process main(start: main_start) {
--     var x: v, z: v, y: integer;
--     y := 7;
--     unite x.a from y;
--     move x to z;
--     ..
--   }
abbrev pub moves_variant : List Statement → Process
moves_variant after = record {
  variables = 7 ∷ 8 ∷ 8 ∷ 1 ∷ [];
  body = in_order (
      simple (Assign (3 ∷ []) (literal (integer (pos 7))))
      ∷ simple (Unite (1 ∷ []) 0 (3 ∷ []))
      ∷ simple (Move (1 ∷ []) (2 ∷ []))
      ∷ after);
}

-- `dissolve z.a into y;` and `reveal z.a;`
abbrev pub dissolve_a : Statement
dissolve_a = simple (Dissolve (2 ∷ []) 0 (3 ∷ []))

abbrev pub reveal_a : Statement
reveal_a = simple (Reveal (2 ∷ []) 0)

-- needs case(z,a) by start 1:ok 2:ok 3:ok
abbrev pub missing_after_move : List Refusal
missing_after_move = record { number = 4; fact = case (2 ∷ []) 0; path = normally 1 ∷ normally 2 ∷ normally 3 ∷ [] } ∷ []
