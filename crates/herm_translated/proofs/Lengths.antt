-- How long fronts, edges and blocks are, whatever the indices in them.
use Rattle.std.proofs.Common.{◌≡◌, ℕ, suc, ◌+◌, length, List, [], ◌∷◌, ◌++◌, map, flat_map, refl, sym, ap, ap₂, ◌∙◌, arith}
use Rattle.herm_model.specs.Lists.{total}
use Rattle.herm_model.specs.Paths.{Fact}
use Rattle.herm_model.specs.Types.{TypeTable}
use Rattle.herm_model.specs.Expressions.{Literal}
use Rattle.herm_model.specs.Statements.{Form}
use Rattle.herm_model.specs.Outcomes.{Outcome}
use Rattle.herm_model.proofs.Lists.{length-map}
use Rattle.herm_instructions.specs.Instructions.{Instruction, Drop, LoopDrop}
use Rattle.herm_translated.specs.Fronts.{front, front_length, expression_code}
use Rattle.herm_translated.specs.Departures.{Departure, edge_code, edge_length}
use Rattle.herm_translated.specs.CodeBlocks.{CodeBlock}
use Rattle.herm_translated.specs.Layout.{line_by, exit_of, block_length, block_code, block_lines}
use Rattle.herm_translated.proofs.Joined.{length-joined}

pub edge-long : (start : ℕ → ℕ) (d : Departure) → length (edge_code start d) ≡ edge_length d
edge-long start d =
    length-joined (map Drop d.drops) _
    ∙ ap₂ ◌+◌ (length-map Drop d.drops) (length-joined (map LoopDrop d.slots) _ ∙ ap₂ ◌+◌ (length-map LoopDrop d.slots) refl)

pub edges-long : (start : ℕ → ℕ) (ds : List Departure) → length (flat_map (edge_code start) ds) ≡ total edge_length ds
edges-long start [] = refl
edges-long start (d ∷ ds) = length-joined (edge_code start d) _ ∙ ap₂ ◌+◌ (edge-long start d) (edges-long start ds)

module _ (types : TypeTable) (variables : List ℕ) (constants : List Literal) where
  behind-long : (before : List Instruction) (i j : Instruction) → length (before ++ i ∷ []) ≡ length (before ++ j ∷ [])
  behind-long before i j = length-joined before _ ∙ sym (length-joined before _)

  pub front-long : (facts : List Fact) (number here : ℕ) (exit_at : Outcome → ℕ) (form : Form) → length (front types variables constants facts number here exit_at form) ≡ front_length types variables constants form
  front-long facts number here exit_at (Form.Assign x e) = refl
  front-long facts number here exit_at (Form.Move y x) = refl
  front-long facts number here exit_at (Form.New x) = refl
  front-long facts number here exit_at (Form.Discard x) = refl
  front-long facts number here exit_at (Form.Unite v c y) = refl
  front-long facts number here exit_at (Form.Dissolve v c y) = refl
  front-long facts number here exit_at (Form.Reveal v c) = refl
  front-long facts number here exit_at (Form.Case v components) = refl
  front-long facts number here exit_at (Form.Wrap y p) = refl
  front-long facts number here exit_at (Form.Unwrap p t y) = refl
  front-long facts number here exit_at (Form.Insert r t) = refl
  front-long facts number here exit_at (Form.Remove r t keys) = refl
  front-long facts number here exit_at (Form.Get r t keys) = refl
  front-long facts number here exit_at (Form.For r t) = refl
  front-long facts number here exit_at (Form.Connect o i) = refl
  front-long facts number here exit_at (Form.Send x o) = refl
  front-long facts number here exit_at (Form.Receive x i) = refl
  front-long facts number here exit_at (Form.Select arms) = refl
  front-long facts number here exit_at (Form.Call o arguments) = refl
  front-long facts number here exit_at (Form.Return m) = refl
  front-long facts number here exit_at (Form.ReturnBy m e) = refl
  front-long facts number here exit_at (Form.Create o n) = refl
  front-long facts number here exit_at (Form.If e) = behind-long (expression_code constants e) _ _
  front-long facts number here exit_at (Form.While e) = behind-long (expression_code constants e) _ _
  front-long facts number here exit_at (Form.Raise e) = refl
  front-long facts number here exit_at Form.Leave = refl

  pub block-long : (start : ℕ → ℕ) (at : ℕ) (b : CodeBlock) → length (block_code types variables constants start at b) ≡ block_length types variables constants b
  block-long start at b =
      ap suc (length-joined (front types variables constants b.facts b.statement (at + 1) (exit_of types variables constants at b) b.form) _ ∙ ap₂ ◌+◌ (front-long b.facts b.statement (at + 1) (exit_of types variables constants at b) b.form) (edges-long start b.departures))
      ∙ omega arith

  pub lines-long : (start : ℕ → ℕ) (at : ℕ) (b : CodeBlock) → length (block_lines types variables constants start at b) ≡ block_length types variables constants b
  lines-long start at b = length-map (line_by types variables (exit_of types variables constants at b)) (block_code types variables constants start at b) ∙ block-long start at b
