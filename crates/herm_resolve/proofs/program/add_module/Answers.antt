use Rattle.std.proofs.Common.{◌≡◌, ◌≤◌, ◌∙◌, length, sym, arith}
use Rattle.herm_resolve.proofs.Judging.{number_within, definitions_judged, process_next}
use Rattle.herm_resolve.proofs.program.add_module.Goals as goal

pub process-requires-clause-number : goal.process-requires-clause-number
process-requires-clause-number c =
    let n : length c.args.found.now.items ≤ length c.args.known.now.processes = number_within c.args.known.now c.args.modules.now c.requires.of c.args.place c.args.found.now.items c.args.faults.now.items c.requires.judged in
    omega (arith, c.len-number.ensures, n)

pub returns-in-Definitions : goal.returns-in-Definitions
returns-in-Definitions c = record {
  judged = definitions_judged c.args.known.now c.args.modules.now c.requires.of c.args.place c.requires.place c.args.found.now.items c.args.faults.now.items c.requires.judged c.in-Definitions.name c.in-Definitions.items c.index-modules-place.result (sym c.index-modules-place.is ∙ c.in-Definitions.is);
}

pub returns-in_ok-push-in-Process : goal.returns-in_ok-push-in-Process
returns-in_ok-push-in-Process c = record {
  judged = process_next c.args.known.now c.args.modules.now c.requires.of c.args.place c.requires.place c.args.found.now.items c.args.faults.now.items c.requires.judged
      c.in-Process.name c.in-Process.port c.in-Process.vars c.in-Process.body c.index-modules-place.result (sym c.index-modules-place.is ∙ c.in-Process.is)
      c.in_ok-next-in-Process.next c.process.new.faults.items c.len-number.result c.as_slice-vars.result.now c.as_slice-body.result.now c.push.new.self.items
      (omega (arith, c.len-number.ensures)) c.as_slice-vars.ensures.value c.as_slice-body.ensures.value c.in_ok-push-in-Process.ensures.items
      c.in_ok-next-in-Process.ensures.named c.in_ok-next-in-Process.ensures.numbered c.in_ok-next-in-Process.ensures.of c.in_ok-next-in-Process.ensures.meaning c.in_ok-next-in-Process.ensures.refused c.in_ok-next-in-Process.ensures.placed;
}
