use Rattle.std.proofs.Common.{length, ap, arith}
use Rattle.herm_resolve.proofs.Judging.{is_ready}
use Rattle.herm_resolve.proofs.program.resolve.Goals as goal

pub program_or_faults-requires-clause-ready : goal.program_or_faults-requires-clause-ready
program_or_faults-requires-clause-ready c =
    let e = c.in_ok-known.ensures in
    is_ready c.in_ok-known.known c.args.types.now c.args.modules.now e.types c.keeps.ensures.well_named c.keeps.ensures.sized (omega (arith, c.if-exceptions.false, ap length c.exceptions.ensures)) (omega (arith, c.if-modules.false)) e.exceptions e.processes e.ports e.counts
