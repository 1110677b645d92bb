-- The code that is written of a process is its code.
use Rattle.std.proofs.Common.{◌≡◌, ℕ, List, map, ap, ap₂, ◌∙◌}
use Rattle.herm_model.specs.Lists.{IsIn}
use Rattle.herm_model.specs.Types.{TypeTable}
use Rattle.herm_model.specs.Expressions.{Literal}
use Rattle.herm_typed.specs.View.{typed_process_view}
use Rattle.herm_translated.specs.Departures.{Departure}
use Rattle.herm_translated.specs.CodeBlocks.{blocks_of, entry_edge}
use Rattle.herm_translated.specs.Settled.{settled}
use Rattle.herm_translated.specs.Translated.{laid_out, code_of}
use Rattle.herm_blocks.specs.declared.block.Block.{Block}
use Rattle.herm_blocks.specs.declared.checked.CheckedProcess.{CheckedProcess}
use Rattle.herm_blocks.specs.CheckedProcesses.{checked_view}
use Rattle.herm_blocks.specs.Views.{block_view, IsMarked}
use Rattle.herm_codegen.specs.Modules.{keyed_module}
use Rattle.herm_codegen.proofs.Emitted.{module-laid_out}

pub process_code : (types : TypeTable) (c : CheckedProcess) (constants : List Literal) (table : TypeTable) (vars : List ℕ) (entry : Departure) (bs : List Block)
    → table ≡ types → vars ≡ (typed_process_view c.process.now).variables
    → entry ≡ entry_edge (checked_view types c) → map block_view bs ≡ blocks_of (settled (checked_view types c))
    → ((b : Block) → IsIn b bs → IsMarked types (typed_process_view c.process.now).variables b)
    → keyed_module table vars constants entry bs ≡ code_of constants (checked_view types c)
process_code types c constants table vars entry bs same_types same_vars begun are marked =
    ap₂ (λ t v. keyed_module t v constants entry bs) same_types same_vars
    ∙ (module-laid_out types (typed_process_view c.process.now).variables constants entry bs marked
    ∙ ap₂ (laid_out types (typed_process_view c.process.now).variables constants) begun are)
