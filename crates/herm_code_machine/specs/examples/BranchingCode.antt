-- Code by hand that branches: by a truth value, by a component, by the port of a message, and by an exception.
use Rattle.std.specs.Prelude.{ℕ, List, [], ◌∷◌, ◌++◌, pos, codes}
use Rattle.herm_model.specs.Paths.{Path, case}
use Rattle.herm_model.specs.Types.{cases}
use Rattle.herm_model.specs.Expressions.{Literal, less}
use Rattle.herm_model.specs.Outcomes.{depletion, duplicate_key, not_found, disconnected}
use Rattle.herm_instructions.specs.Instructions.{Choice, Step, Const, Load, Apply, as_text, Combine, Store, Jump, JumpFalse, New, Discard, Unite, Dissolve, CaseOf, Insert, Remove, Connect, Send, Select, End, EndBy}
use Rattle.herm_instructions.specs.Labels.{ListedLabel}
use Rattle.herm_instructions.specs.Images.{Image}
use Rattle.herm_code_machine.specs.examples.CodeByHand.{line, landing, to, module_by, image_by, variable, part_in, inits, listed, start_paths, receives_start, places, says, two_rows, inserts, says_key, rows_image, around_rows, with_row}

-- a label with an empty stack, no slots and a component that is known
abbrev pub listed_case : (index : ℕ) → List Path → Path → (component : ℕ) → ListedLabel
listed_case i paths v c = record { index = i; label = record { stack = []; facts = inits paths ++ case v c ∷ []; slots = [] } }

-- process main(start: main_start) {
--   var m: main_message, s: string;
--   receive m from start; if x < y { s := "yes"; } else { s := "no"; } send s to m.out;
-- }
-- where x and y are constants of the image by number: 2 is one, and 3 is two
abbrev pub compares : (x y : ℕ) → Image
compares x y = image_by [] (Literal.text (codes "yes") ∷ Literal.text (codes "no") ∷ Literal.integer (pos 1) ∷ Literal.integer (pos 2) ∷ [])
    (module_by (7 ∷ 6 ∷ 2 ∷ []) (
    receives_start ++ line Step ∷ line (Const x) ∷ line (Const y) ∷ line (Combine less) ∷ line (JumpFalse 11) ∷ (places 0 (variable 2)
    ++ line (Jump 14) ∷ (places 1 (variable 2) ++ says 2 17 ++ line End ∷ line (EndBy disconnected) ∷ [])))
    (listed 11 start_paths [] ∷ listed 14 (start_paths ++ variable 2 ∷ []) [] ∷ listed 17 (start_paths ++ variable 2 ∷ []) [] ∷ [])
    ∷ [])

-- type either = variant { n: integer, s: string };
-- process main(start: main_start) {
--   var m: main_message, n: integer, v: either, s: string;
--   receive m from start; s := "two"; unite v.s from s;
--   case v { when n { dissolve v.n into n; s := text(n); discard n; } when s { dissolve v.s into s; } }
--   send s to m.out;
-- }
abbrev pub by_component : Image
by_component = image_by (cases (1 ∷ 2 ∷ []) ∷ []) (Literal.text (codes "two") ∷ [])
    (module_by (7 ∷ 6 ∷ 1 ∷ 8 ∷ 2 ∷ []) (
    receives_start ++ places 0 (variable 4)
    ++ line Step ∷ line (Unite (variable 3) 1 (variable 4)) ∷ line Step ∷ line (CaseOf (variable 3) (9 ∷ 18 ∷ []))
    ∷ line Step ∷ line (Dissolve (variable 3) 0 (variable 2)) ∷ line Step ∷ line (Load (variable 2)) ∷ line (Apply as_text) ∷ line (Store (variable 4))
    ∷ line Step ∷ line (Discard (variable 2)) ∷ line (Jump 20)
    ∷ line Step ∷ line (Dissolve (variable 3) 1 (variable 4)) ∷ (says 4 23 ++ line End ∷ line (EndBy disconnected) ∷ []))
    (listed_case 9 (start_paths ++ variable 3 ∷ []) (variable 3) 0 ∷ listed_case 18 (start_paths ++ variable 3 ∷ []) (variable 3) 1
    ∷ listed 20 (start_paths ++ variable 4 ∷ []) [] ∷ listed 23 (start_paths ++ variable 4 ∷ []) [] ∷ [])
    ∷ [])

abbrev choice : (port target index : ℕ) → Choice
choice i x n = record { port = variable i; target = variable x; index = n }

-- process main(start: main_start) {
--   var m: main_message, a: text_in, b: text_in, o: text_out, s: string;
--   receive m from start; new a; new b; connect o to b; s := "b"; send s to o;
--   select { when a receive s { discard s; } when b receive s { send s to m.out; } }
-- }
abbrev pub by_port : Image
by_port = image_by [] (Literal.text (codes "b") ∷ [])
    (module_by (7 ∷ 6 ∷ 4 ∷ 4 ∷ 5 ∷ 2 ∷ []) (
    receives_start ++ line Step ∷ landing (New (variable 2) 4) (to depletion 21 ∷ []) ∷ line Step ∷ landing (New (variable 3) 4) (to depletion 22 ∷ [])
    ∷ line Step ∷ line (Connect (variable 4) (variable 3)) ∷ (places 0 (variable 5)
    ++ line Step ∷ landing (Send (variable 5) (variable 4) []) (to disconnected 23 ∷ [])
    ∷ line Step ∷ line (Select (choice 2 5 15 ∷ choice 3 5 18 ∷ []))
    ∷ line Step ∷ line (Discard (variable 5)) ∷ line End
    ∷ (says 5 23 ++ line End ∷ line (EndBy depletion) ∷ line (EndBy depletion) ∷ line (EndBy disconnected) ∷ [])))
    (listed 15 connected [] ∷ listed 18 connected [] ∷ listed 21 start_paths [] ∷ listed 22 (start_paths ++ variable 2 ∷ []) [] ∷ listed 23 connected [] ∷ [])
    ∷ [])
  where
    -- what is there where the string is
    connected : List Path
    connected = start_paths ++ variable 2 ∷ variable 3 ∷ variable 4 ∷ variable 5 ∷ []

-- a table, and a row with its key
abbrev pub with_key : List Path
with_key = start_paths ++ variable 2 ∷ part_in 2 0 ∷ variable 3 ∷ []

-- the two rows, and  remove r from t [k]; s := text(r.k); send s to m.out;  where k is a constant by number
abbrev pub taken_by_key : (key : ℕ) → Image
taken_by_key k = rows_image (module_by (7 ∷ 6 ∷ 8 ∷ 9 ∷ 2 ∷ []) (
    two_rows 28 ++ line Step ∷ line (Const k) ∷ landing (Remove (variable 2) (variable 3) 1) (to not_found 30 ∷ [])
    ∷ (says_key 31 ++ line End ∷ line (EndBy duplicate_key) ∷ line (EndBy depletion) ∷ line (EndBy not_found) ∷ line (EndBy disconnected) ∷ []))
    (listed 28 with_key [] ∷ listed 29 with_key [] ∷ listed 30 around_rows [] ∷ listed 31 with_row [] ∷ []))

-- One row twice, where the second one is caught:
--   .. insert r into t; .. try { insert r into t; } on DuplicateKey { s := text(r.k); send s to m.out; }
abbrev pub caught_row : Image
caught_row = rows_image (module_by (7 ∷ 6 ∷ 8 ∷ 9 ∷ 2 ∷ []) (
    receives_start ++ line Step ∷ line (New (variable 3) 9) ∷ (inserts 0 26 ++ line Step ∷ line (New (variable 2) 8) ∷ (places 0 (part_in 2 0)
    ++ line Step ∷ landing (Insert (variable 2) (variable 3)) (to duplicate_key 19 ∷ to depletion 27 ∷ []) ∷ line End
    ∷ (says_key 28 ++ line End ∷ line (EndBy duplicate_key) ∷ line (EndBy depletion) ∷ line (EndBy disconnected) ∷ []))))
    (listed 19 with_key [] ∷ listed 26 with_key [] ∷ listed 27 with_key [] ∷ listed 28 with_row [] ∷ []))
