-- Kinds of instructions.
use Rattle.std.specs.Prelude.{◌≡◌, ℕ, Bool, true, false, List, ⊤}
use Rattle.herm_journal.specs.Renaming.{forget_name}
use Rattle.herm_model.specs.Values.{Value}
use Rattle.herm_forms.specs.Frames.{Frame}
use Rattle.herm_instructions.specs.Instructions.{Instruction, Const, Load, Size, Store, Jump, JumpFalse, Move, New, Discard, Unite, Dissolve, Reveal, CaseOf, Wrap, Unwrap, Insert, Remove, Get, LoopStart, LoopNext, LoopDrop, Connect, Raise, Drop, End, EndBy}
use Rattle.herm_code_machine.specs.CodeStates.{jumped}
use Rattle.herm_code_machine.specs.Effects.{effect}
use Rattle.herm_code_machine.specs.ReadyCode.{ReadyCode}
use Rattle.herm_code_machine.specs.Stacks.{no_effect}

-- it pushes a constant or a copy
abbrev pub is_pushing : Instruction → Bool
is_pushing (Const k) = true
is_pushing (Load p) = true
is_pushing _ = false

-- it pushes a number of rows
abbrev pub is_sizing : Instruction → Bool
is_sizing (Size p) = true
is_sizing _ = false

-- it places the top
abbrev pub is_storing : Instruction → Bool
is_storing (Store x) = true
is_storing _ = false

-- it makes, moves or lets go a value at a path
abbrev pub is_placing : Instruction → Bool
is_placing (Move y x) = true
is_placing (New x t) = true
is_placing (Discard x) = true
is_placing (Connect o i) = true
is_placing (Drop p) = true
is_placing _ = false

-- it looks at what a variant or a polymorph holds, or makes one
abbrev pub is_holding : Instruction → Bool
is_holding (Unite v k y) = true
is_holding (Dissolve v k y) = true
is_holding (Reveal v k) = true
is_holding (CaseOf v indices) = true
is_holding (Wrap y t p) = true
is_holding (Unwrap p t y) = true
is_holding _ = false

-- it takes or gives a row of a table
abbrev pub is_tabular : Instruction → Bool
is_tabular (Insert r t) = true
is_tabular (Remove r t n) = true
is_tabular (Get r t n) = true
is_tabular _ = false

-- it is of a loop over rows
abbrev pub is_looping : Instruction → Bool
is_looping (LoopStart t slot) = true
is_looping (LoopNext r slot i) = true
is_looping (LoopDrop slot) = true
is_looping _ = false

-- it leads elsewhere, and leaves the frame as it is
abbrev pub is_leading : Instruction → Bool
is_leading (Jump i) = true
is_leading (JumpFalse i) = true
is_leading (Raise e) = true
is_leading _ = false

-- it ends the process
abbrev pub is_ending : Instruction → Bool
is_ending End = true
is_ending (EndBy e) = true
is_ending _ = false

-- it jumps nowhere: without an exception the instruction behind it is next
abbrev pub PassesOn : Instruction → Type 0
PassesOn i = (behind : ℕ) → jumped i behind ≡ behind

-- It has no effect: a step, an action or an end. Code reference, "Instructions".
abbrev pub HasNoEffect : Instruction → Type 0
HasNoEffect i = (c : ReadyCode) (stack : List Value) (b : Frame ⊤) → effect forget_name c i stack b ≡ no_effect
