use Rattle.std.proofs.Common.{arith, rules}
use Rattle.herm_commands.proofs.options.limits_of.Goals as goal

pub invariant_of-result : goal.invariant_of-result
invariant_of-result c = record {
  some_process = c.in_ok-processes.ensures.range.0;
  few_processes = omega (arith, c.in_ok-processes.ensures.range.1);
  some_port = c.in_ok-ports.ensures.range.0;
  few_ports = omega (arith, c.in_ok-ports.ensures.range.1);
  some_step = c.in_ok-steps.ensures.range.0;
  few_steps = omega (arith, c.in_ok-steps.ensures.range.1);
  some_worker = c.in_ok-workers.ensures.range.0;
  few_workers = search rules;
}
