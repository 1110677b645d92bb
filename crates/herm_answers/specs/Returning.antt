-- Instructions that answer a caller.
use Rattle.std.specs.Prelude.{◌≡◌, Option, Some, None}
use Rattle.herm_model.specs.Paths.{Path}
use Rattle.herm_instructions.specs.Instructions.{Instruction, Return, ReturnBy}
use Rattle.herm_types.specs.View.{path_view}
use Rattle.herm_answers.specs.declared.returning.Returning.{Returning}
use Rattle.herm_answers.specs.declared.returning.Returning.TheVariants as returnings

-- where the callmessage of a return stands
abbrev pub returned_from : Instruction → Option Path
returned_from (Return m) = Some m
returned_from (ReturnBy m e kept) = Some m
returned_from _ = None

abbrev pub IsReturning : Returning → Instruction → Type 0
IsReturning (returnings.Values source) i = i ≡ Return (path_view source.now)
IsReturning (returnings.Raised source e kept) i = i ≡ ReturnBy (path_view source.now) e.0 kept.now
IsReturning returnings.Other i = returned_from i ≡ None
