-- Code by hand: the lines of a module; the greeting and a loop over two rows, which are good code of herm_instructions; and a loop that is left.
use Rattle.std.specs.Prelude.{ℕ, ◌+◌, List, [], ◌∷◌, ◌++◌, map, pos}
use Rattle.herm_model.specs.Paths.{Path, Fact, init}
use Rattle.herm_model.specs.Types.{TypeTable, predefined, fields, rows}
use Rattle.herm_model.specs.Expressions.{Literal}
use Rattle.herm_model.specs.Outcomes.{depletion, duplicate_key, disconnected}
use Rattle.herm_instructions.specs.Instructions.{Instruction, Step, Const, Load, Apply, as_text, Store, Jump, New, Insert, LoopStart, LoopNext, LoopDrop, Send, Receive, Drop, End, EndBy}
use Rattle.herm_instructions.specs.Labels.{Slot, ListedLabel}
use Rattle.herm_instructions.specs.Images.{Landing, CodeModule, Image}
use Rattle.herm_instructions.specs.examples.ExampleImages.{image_of, greeting}
use Rattle.herm_instructions.specs.examples.ExampleImages as good

-- an instruction with its landings
pub record Line : Type 0 where
  pub instruction : Instruction
  pub landings : List Landing

abbrev pub line : Instruction → Line
line i = record { instruction = i; landings = [] }

abbrev pub landing : Instruction → List Landing → Line
landing i landings = record { instruction = i; landings = landings }

abbrev pub to : (exception index : ℕ) → Landing
to e i = record { exception = e; index = i }

abbrev pub module_by : (variables : List ℕ) → List Line → List ListedLabel → CodeModule
module_by variables lines labels = record { variables = variables; code = map (λ (l : Line). l.instruction) lines; landings = map (λ (l : Line). l.landings) lines; labels = labels }

abbrev pub image_by : TypeTable → List Literal → List CodeModule → Image
image_by defined constants modules = record { modules = modules; constants = constants; types = predefined ++ defined }

-- a variable as a path, and a part of it
abbrev pub variable : ℕ → Path
variable i = i ∷ []

abbrev pub part_in : ℕ → ℕ → Path
part_in i j = i ∷ j ∷ []

abbrev pub inits : List Path → List Fact
inits paths = map init paths

-- a label with an empty stack
abbrev pub listed : (index : ℕ) → List Path → List Slot → ListedLabel
listed i paths slots = record { index = i; label = record { stack = []; facts = inits paths; slots = slots } }

-- the port, the first message and its parts
abbrev pub start_paths : List Path
start_paths = variable 0 ∷ variable 1 ∷ part_in 1 0 ∷ part_in 1 1 ∷ []

-- `receive m from start;`, where m is variable 1
abbrev pub receives_start : List Line
receives_start = line Step ∷ line (Receive (variable 1) (variable 0)) ∷ []

-- a constant placed at a path
abbrev pub places : ℕ → Path → List Line
places k p = line Step ∷ line (Const k) ∷ line (Store p) ∷ []

-- a string sent to the console, where the index is that of an end by Disconnected
abbrev pub says : (variable index : ℕ) → List Line
says s i = line Step ∷ landing (Send (variable s) (part_in 1 1) []) (to disconnected i ∷ []) ∷ []

-- process main(start: main_start) {
--   var m: main_message, s: string;
--   receive m from start; s := "hi"; send s to m.out;
-- }
abbrev pub greeting_image : Image
greeting_image = image_of (greeting ∷ [])

-- type row = record { k: integer };  type rows = table of row key (k);
abbrev pub row_types : TypeTable
row_types = fields (1 ∷ []) ∷ rows 8 (0 ∷ []) ∷ []

-- `new r; r.k := k; insert r into t;`, where r is variable 2 and t variable 3, the key is a constant, and an end by
-- DuplicateKey stands at the index, with an end by Depletion behind it
abbrev pub inserts : (key index : ℕ) → List Line
inserts k i =
    line Step ∷ line (New (variable 2) 8) ∷ (places k (part_in 2 0)
    ++ line Step ∷ landing (Insert (variable 2) (variable 3)) (to duplicate_key i ∷ to depletion (1 + i) ∷ []) ∷ [])

-- receive m from start; new t; and two rows, with the keys 1 and 2
abbrev pub two_rows : (index : ℕ) → List Line
two_rows i = receives_start ++ line Step ∷ line (New (variable 3) 9) ∷ (inserts 0 i ++ inserts 1 i)

-- `s := text(r.k); send s to m.out;`, where s is variable 4
abbrev pub says_key : (index : ℕ) → List Line
says_key i = line Step ∷ line (Load (part_in 2 0)) ∷ line (Apply as_text) ∷ line (Store (variable 4)) ∷ says 4 i

abbrev pub slot_of_rows : List Slot
slot_of_rows = record { number = 0; row = 8 } ∷ []

abbrev pub around_rows : List Path
around_rows = start_paths ++ variable 3 ∷ []

abbrev pub with_row : List Path
with_row = start_paths ++ variable 2 ∷ part_in 2 0 ∷ variable 3 ∷ variable 4 ∷ []

abbrev pub rows_image : CodeModule → Image
rows_image m = image_by row_types (Literal.integer (pos 1) ∷ Literal.integer (pos 2) ∷ []) (m ∷ [])

-- the labels of the ends by an exception
abbrev pub rows_ends : List ListedLabel
rows_ends =
    let inserted = start_paths ++ variable 2 ∷ part_in 2 0 ∷ variable 3 ∷ []
    in listed 33 inserted [] ∷ listed 34 inserted [] ∷ listed 35 with_row slot_of_rows ∷ []

-- the two rows, and  for r in t { s := text(r.k); send s to m.out; }
abbrev pub whole_loop : Image
whole_loop = image_of (good.two_rows ∷ [])

-- the two rows, and  for r in t { s := text(r.k); send s to m.out; leave; }
abbrev pub left_loop : Image
left_loop = rows_image (module_by (7 ∷ 6 ∷ 8 ∷ 9 ∷ 2 ∷ []) (
    two_rows 33 ++ line Step ∷ line (LoopStart (variable 3) 0) ∷ line (Jump 22) ∷ line Step ∷ line (LoopNext (variable 2) 0 31)
    ∷ (says_key 35 ++ line Step ∷ line (Drop (variable 2)) ∷ line (LoopDrop 0) ∷ line End ∷ line (EndBy duplicate_key) ∷ line (EndBy depletion) ∷ line (EndBy disconnected) ∷ []))
    (listed 22 around_rows slot_of_rows ∷ listed 31 around_rows slot_of_rows ∷ rows_ends))
