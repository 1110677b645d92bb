-- Where a process of code stands that does what a process of the source does.
use Rattle.std.specs.Prelude.{ℕ, ◌+◌, List, true, Bool, Option, Some, None, slice_get, ◌≡◌, ◌⊎◌, ⊤}
use Rattle.herm_model.specs.Paths.{Path}
use Rattle.herm_model.specs.Expressions.{Literal, Atom}
use Rattle.herm_model.specs.Statements.{Call, For}
use Rattle.herm_model.specs.Targets.{Target, node, end, end_by}
use Rattle.herm_code_machine.specs.CodeStates.{Position, at_index, at_end, at_end_by}
use Rattle.herm_translated.specs.BlockLabels.{comes_again}
use Rattle.herm_translated.specs.CodeBlocks.{CheckedModule, CodeBlock, blocks_of, entry_edge}
use Rattle.herm_translated.specs.Departures.{second_step}
use Rattle.herm_translated.specs.Fronts.{front_length}
use Rattle.herm_translated.specs.Layout.{start_of}

module _ (constants : List Literal) (m : CheckedModule) where
  -- the index of a node's block
  abbrev pub index_of : (node : ℕ) → ℕ
  index_of n = start_of m.code.types m.code.variables constants (entry_edge m) (blocks_of m) n

  -- Where a process is within a block that begins at an index. With no call open it is at the first step, or at the second one of a `for`, where
  -- some edge leads to it; in an open call it is at the call, which is the last instruction of its front. Code reference, "Blocks".
  abbrev pub IsWithin : (at : ℕ) → (again : Bool) → CodeBlock → (call : Option ℕ) → (index : ℕ) → Type 0
  IsWithin at again b None i = (i ≡ at) ⊎ ((i ≡ at + second_step) × (again ≡ true) × (r t : Path) × (b.form ≡ For r t))
  IsWithin at again b (Some call) i = (i ≡ at + front_length m.code.types m.code.variables constants b.form) × (o : Path) × (arguments : List Atom) × (b.form ≡ Call o arguments)

  -- the position is within the block of the point's node, or an end of the point's kind
  abbrev pub IsAtPoint : (call : Option ℕ) → Position → Target → Type 0
  IsAtPoint call (at_index i) (node n) = (b : CodeBlock) × (slice_get (blocks_of m) n ≡ Some b) × IsWithin (index_of n) (comes_again (blocks_of m) n) b call i
  IsAtPoint call at_end end = ⊤
  IsAtPoint call (at_end_by d) (end_by e) = d ≡ e
  IsAtPoint call p t = ⊥
