use Rattle.std.proofs.Common.{subst, map}
use Rattle.herm_accept.specs.Lacking.{IsFaultOf, lack_view}
use Rattle.herm_compile.proofs.acceptance.acceptance_of.Goals as goal

pub accept-requires-clause-typed : goal.accept-requires-clause-typed
accept-requires-clause-typed c = rw c.as_slice.ensures.value c.requires.meant.typed.modules

pub returns-in_ok-faults-in-Err-Missing : goal.returns-in_ok-faults-in-Err-Missing
returns-in_ok-faults-in-Err-Missing c =
    let fault = rw c.as_slice.ensures.value at (subst (IsFaultOf c.args.types.now c.as_slice.result.now) c.in-Err-Missing.field-0-is c.in-Err-Missing.ensures.missing) in
    record {
      modules = c.args.read.now.modules.items;
      owners = c.args.read.now.owners.items;
      read = c.requires.read;
      table = c.args.types.now;
      program = c.args.program.now;
      meant = c.requires.meant;
      list = map lack_view c.in-Err-Missing.lacks.items;
      are = fault.1;
      some = fault.0;
      each = c.in_ok-faults-in-Err-Missing.ensures;
    }
