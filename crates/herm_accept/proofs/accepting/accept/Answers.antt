use Rattle.std.proofs.Common.{arith}
use Rattle.herm_model.proofs.Lists.{in-map}
use Rattle.herm_typed.specs.View.{typed_process_view}
use Rattle.herm_accept.proofs.Judging.{in_place, goes_on_at, lacks_at_end, accepted_at_end, some_lack}
use Rattle.herm_accept.proofs.accepting.accept.Goals as goal

pub judge-requires : goal.judge-requires
judge-requires c =
    let member = in_place c.args.processes.now c.processes.number c.index-processes-number.result (omega arith) c.index-processes-number.is in
    record {
      processes = _;
      typed = c.requires.typed _ (in-map typed_process_view _ _ member);
      known = c.requires.known _ member;
    }

pub processes-preserved : goal.processes-preserved
processes-preserved c = goes_on_at c.args.types.now c.args.processes.now c.processes.number c.index-processes-number.result _ _ _ _ (omega arith) c.index-processes-number.is c.processes.invariant c.in_ok-judge.ensures

pub returns-then-count-eq0-clause-accepted : goal.returns-then-count-eq0-clause-accepted
returns-then-count-eq0-clause-accepted c =
    accepted_at_end c.args.types.now c.args.processes.now c.processes.number c.processes.accepted c.processes.lacks.items (omega arith) c.processes.invariant (omega (arith, c.len-count.ensures, c.processes.lacks.ok))

pub returns-clause-missing : goal.returns-clause-missing
returns-clause-missing c = (
  some_lack c.processes.lacks.items (λ none. absurd (omega (arith, none, c.len-count.ensures, c.processes.lacks.ok))),
  lacks_at_end c.args.types.now c.args.processes.now c.processes.number c.processes.accepted c.processes.lacks.items (omega arith) c.processes.invariant,
)
