use Rattle.std.proofs.Common.{arith}
use Rattle.herm_model.proofs.Lists.{in-map}
use Rattle.herm_typed.specs.View.{typed_process_view}
use Rattle.herm_accept.proofs.Judging.{in_place}
use Rattle.herm_accept.proofs.Searching.{finds_on_at, found_at_end, each_accepted}
use Rattle.herm_accept.proofs.lacks.lacks_of.Goals as goal

pub search-requires : goal.search-requires
search-requires c =
    let member = in_place c.args.processes.now c.processes.number c.index-processes-number.result (omega arith) c.index-processes-number.is in
    record {
      processes = _;
      typed = c.requires.typed _ (in-map typed_process_view _ _ member);
      known = c.requires.known _ member;
    }

pub processes-preserved : goal.processes-preserved
processes-preserved c = finds_on_at c.args.types.now c.args.processes.now c.processes.number c.index-processes-number.result _ _ (omega arith) c.index-processes-number.is c.processes.invariant c.in_ok-search.ensures

pub returns-clause-lacking : goal.returns-clause-lacking
returns-clause-lacking c = found_at_end c.args.types.now c.args.processes.now c.processes.number c.processes.lacks.items (omega arith) c.processes.invariant

pub returns-clause-accepted : goal.returns-clause-accepted
returns-clause-accepted c =
    each_accepted c.args.types.now c.args.processes.now c.processes.lacks.items
    (found_at_end c.args.types.now c.args.processes.now c.processes.number c.processes.lacks.items (omega arith) c.processes.invariant)
