-- What compiled code stands for: instructions, code modules and images of the model.
use Rattle.std.specs.Prelude.{List, map, length}
use Rattle.herm_model.specs.Expressions as expressions
use Rattle.herm_meaning.specs.Names.{NamedTable}
use Rattle.herm_types.specs.View.{path_view, fact_view, raise_decl_view}
use Rattle.herm_instructions.specs.Instructions as model
use Rattle.herm_instructions.specs.Labels as labels
use Rattle.herm_instructions.specs.Images as images
use Rattle.herm_instructions.specs.GoodCode.{IsGood}
use Rattle.herm_code.specs.declared.instr.Arg.{Arg}
use Rattle.herm_code.specs.declared.instr.Arg.TheVariants as arguments
use Rattle.herm_code.specs.declared.instr.Arm.{Arm}
use Rattle.herm_code.specs.declared.instr.Instr.{Instr}
use Rattle.herm_code.specs.declared.instr.Instr.TheVariants as instructions
use Rattle.herm_code.specs.declared.modules.Const.{Const}
use Rattle.herm_code.specs.declared.modules.Const.TheVariants as constants
use Rattle.herm_code.specs.declared.modules.Label.{Label}
use Rattle.herm_code.specs.declared.modules.CodeModule.{CodeModule}
use Rattle.herm_code.specs.declared.image.Image.TheInside.{Inside}

abbrev pub argument_view : Arg → model.Argument
argument_view arguments.In = model.of_in
argument_view (arguments.Inout p) = model.of_inout (path_view p)
argument_view (arguments.Out p) = model.of_out (path_view p)

abbrev pub choice_view : Arm → model.Choice
choice_view a = record { port = path_view a.port; target = path_view a.target; index = a.index }

-- The instructions in place of names of the model: `Neg` to `Length` apply an operator to the top, `Add` to `Ge` combine the top two.
-- Code reference, "Instructions".
abbrev pub instr_view : Instr → model.Instruction
instr_view instructions.Step = model.Step
instr_view (instructions.Const k) = model.Const k
instr_view (instructions.Load p) = model.Load (path_view p)
instr_view (instructions.Size p) = model.Size (path_view p)
instr_view instructions.Neg = model.Apply model.negative
instr_view instructions.Not = model.Apply model.complement
instr_view instructions.Text = model.Apply model.as_text
instr_view instructions.Length = model.Apply model.text_length
instr_view instructions.Add = model.Combine expressions.plus
instr_view instructions.Sub = model.Combine expressions.minus
instr_view instructions.Mul = model.Combine expressions.times
instr_view instructions.Div = model.Combine expressions.divided
instr_view instructions.Mod = model.Combine expressions.modulo
instr_view instructions.Cat = model.Combine expressions.concatenated
instr_view instructions.And = model.Combine expressions.logical_and
instr_view instructions.Or = model.Combine expressions.logical_or
instr_view instructions.Eq = model.Combine expressions.equal
instr_view instructions.Ne = model.Combine expressions.unequal
instr_view instructions.Lt = model.Combine expressions.less
instr_view instructions.Le = model.Combine expressions.at_most
instr_view instructions.Gt = model.Combine expressions.greater
instr_view instructions.Ge = model.Combine expressions.at_least
instr_view (instructions.Store x) = model.Store (path_view x)
instr_view (instructions.Jump i) = model.Jump i
instr_view (instructions.JumpFalse i) = model.JumpFalse i
instr_view (instructions.Move y x) = model.Move (path_view y) (path_view x)
instr_view (instructions.New x t) = model.New (path_view x) t.0
instr_view (instructions.Discard x) = model.Discard (path_view x)
instr_view (instructions.Unite v c y) = model.Unite (path_view v) c (path_view y)
instr_view (instructions.Dissolve v c y) = model.Dissolve (path_view v) c (path_view y)
instr_view (instructions.Reveal v c) = model.Reveal (path_view v) c
instr_view (instructions.CaseOf v indices) = model.CaseOf (path_view v) indices.items
instr_view (instructions.Wrap y t p) = model.Wrap (path_view y) t.0 (path_view p)
instr_view (instructions.Unwrap p t y) = model.Unwrap (path_view p) t.0 (path_view y)
instr_view (instructions.Insert r t) = model.Insert (path_view r) (path_view t)
instr_view (instructions.Remove r t n) = model.Remove (path_view r) (path_view t) n
instr_view (instructions.Get r t n) = model.Get (path_view r) (path_view t) n
instr_view (instructions.LoopStart t slot) = model.LoopStart (path_view t) slot
instr_view (instructions.LoopNext r slot i) = model.LoopNext (path_view r) slot i
instr_view (instructions.LoopDrop slot) = model.LoopDrop slot
instr_view (instructions.Connect o i) = model.Connect (path_view o) (path_view i)
instr_view (instructions.Send x o trim) = model.Send (path_view x) (path_view o) (map path_view trim.items)
instr_view (instructions.Receive x i) = model.Receive (path_view x) (path_view i)
instr_view (instructions.Select arms) = model.Select (map choice_view arms.items)
instr_view (instructions.Call o listed keeps) = model.Call (path_view o) (map argument_view listed.items) (map raise_decl_view keeps.items)
instr_view (instructions.Return m) = model.Return (path_view m)
instr_view (instructions.ReturnBy m e kept) = model.ReturnBy (path_view m) e.0 kept.items
instr_view (instructions.Create o n) = model.Create (path_view o) n
instr_view (instructions.Raise e) = model.Raise e.0
instr_view (instructions.Drop p) = model.Drop (path_view p)
instr_view instructions.End = model.End
instr_view (instructions.EndBy e) = model.EndBy e.0

abbrev pub const_view : Const → expressions.Literal
const_view (constants.Bool b) = expressions.boolean b
const_view (constants.Int n) = expressions.integer n
const_view (constants.Text bytes) = expressions.text bytes
const_view (constants.Tag t place) = expressions.tag t.0 place

abbrev pub label_view : Label → labels.Label
label_view l = record {
  stack = map (λ t. t.0) l.stack.items;
  facts = map fact_view l.facts.items;
  slots = map (λ s. record { number = s.0; row = (s.1).0 }) l.slots.items;
}

abbrev pub module_view : CodeModule → images.CodeModule
module_view m = record {
  variables = map (λ t. t.0) m.vars.items;
  code = map instr_view m.code.items;
  landings = map (λ ls. map (λ l. record { exception = (l.0).0; index = l.1 }) ls.items) m.landings.items;
  labels = map (λ l. record { index = l.0; label = label_view l.1 }) m.labels.items;
}

-- the parts of an image, as contracts see them
pub record CodeImage : Type 0 where
  pub modules : List CodeModule
  pub constants : List Const
  pub types : NamedTable

abbrev pub code_image : List CodeModule → List Const → NamedTable → CodeImage
code_image modules constants types = record { modules = modules; constants = constants; types = types }

-- the image of the model, without names
abbrev pub image_view : CodeImage → images.Image
image_view i = record { modules = map module_view i.modules; constants = map const_view i.constants; types = (i.types).shapes }

abbrev pub inside_view : Inside → CodeImage
inside_view a = code_image a.modules.items a.constants.items a.types

-- the code of an image is good
abbrev pub IsKept : Inside → Type 0
IsKept a = IsGood (length a.types.exceptions) (image_view (inside_view a))
