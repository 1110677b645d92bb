-- What is proved of keys on the stack: with literals in their place, an instruction does a typed form.
use Rattle.std.specs.Prelude.{ℕ, List, [], ◌∷◌, map, ⊤}
use Rattle.herm_model.specs.Lists.{list_of}
use Rattle.herm_model.specs.Paths.{Path}
use Rattle.herm_model.specs.Types.{TypeTable}
use Rattle.herm_model.specs.Expressions.{Literal, Atom}
use Rattle.herm_model.specs.Statements.{Form, Process}
use Rattle.herm_model.specs.Calls.{shape_at}
use Rattle.herm_model.specs.TypedExpressions.{IsLiteralOf}
use Rattle.herm_model.specs.TypedStatements.{IsTypedForm}
use Rattle.herm_model.specs.WellFormedTables.{IsWellFormedTable}
use Rattle.herm_instructions.specs.Instructions.{Remove, Get}
use Rattle.herm_instructions.specs.Operands.{types_of_row_key}
use Rattle.herm_instructions.specs.TypedInstructions.{IsTypedInstruction}

-- a literal of each type, in order
abbrev pub AreLiteralsOf : TypeTable → List Literal → List ℕ → Type 0
AreLiteralsOf table [] [] = ⊤
AreLiteralsOf table [] (t ∷ ts) = ⊥
AreLiteralsOf table (l ∷ ls) [] = ⊥
AreLiteralsOf table (l ∷ ls) (t ∷ ts) = IsLiteralOf table l t × AreLiteralsOf table ls ts

-- The types of the key of the table at a path, in the order of its fields: as they are pushed.
abbrev pub key_types : TypeTable → (variables : List ℕ) → Path → List ℕ
key_types table variables t = list_of (types_of_row_key table) (shape_at table variables t)

-- A typed `Remove` or `Get` is the typed statement whose keys are any literals of these types.
pub record KeysAreLiterals (exceptions : ℕ) (table : TypeTable) (variables : List ℕ) (constants : List Literal) (processes : List Process) : Type 0 where
  pub remove : (r t : Path) (n : ℕ) (ls : List Literal) → IsTypedInstruction table variables exceptions constants processes (Remove r t n) → AreLiteralsOf table ls (key_types table variables t)
      → IsTypedForm table variables exceptions processes (Form.Remove r t (map Atom.literal ls))
  pub get : (r t : Path) (n : ℕ) (ls : List Literal) → IsTypedInstruction table variables exceptions constants processes (Get r t n) → AreLiteralsOf table ls (key_types table variables t)
      → IsTypedForm table variables exceptions processes (Form.Get r t (map Atom.literal ls))

abbrev pub KeysAreTyped : Type 0
KeysAreTyped = (exceptions : ℕ) (table : TypeTable) (variables : List ℕ) (constants : List Literal) (processes : List Process) → IsWellFormedTable exceptions table → KeysAreLiterals exceptions table variables constants processes
