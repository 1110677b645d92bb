use Rattle.std.proofs.Common.{map, ap, arith}
use Rattle.herm_types.specs.View.{raise_decl_view}
use Rattle.herm_flow.specs.Touched.{numbers_at}
use Rattle.herm_flow.specs.NumberTables.{at_number, has_entry}
use Rattle.herm_flow.specs.CoveredExceptions.{touched_of}
use Rattle.herm_flow.proofs.NumberTables.{entry-within}
use Rattle.herm_flow.proofs.Covering.{found-none, found-next}
use Rattle.herm_flow.proofs.calls.numbers_of.Goals as goal

pub numbers-init : goal.numbers-init
numbers-init c = record {
  within = omega arith;
  found = found-none (at_number c.args.tables.now.points.items) (touched_of (numbers_at c.args.tables.now.touches.numbers.items) c.args.tables.now.declared.items (map raise_decl_view c.args.raises.now)) c.args.tables.now.touches.single (has_entry c.args.tables.now.declared.items) _ _ (ap (map (λ n. n.0)) c.new.ensures.items) c.new-2.ensures.items;
}

pub numbers-preserved : goal.numbers-preserved
numbers-preserved c =
    let test = c.numbers-test.true in
    let next = c.in_ok-e.ensures in
    record {
      within = omega (arith, test, next);
      found = found-next (at_number c.args.tables.now.points.items) (touched_of (numbers_at c.args.tables.now.touches.numbers.items) c.args.tables.now.declared.items (map raise_decl_view c.args.raises.now)) c.args.tables.now.touches.single (has_entry c.args.tables.now.declared.items) c.numbers.e c.in_ok-e.e _ _ _ _ next c.numbers.invariant.found c.in_ok-add_number.ensures.added;
    }

pub returns-clause-rise : goal.returns-clause-rise
returns-clause-rise c = c.numbers.invariant.found.rise

pub returns-clause-there : goal.returns-clause-there
returns-clause-there c = λ m i. (c.numbers.invariant.found.there m i).1

pub returns-clause-covered : goal.returns-clause-covered
returns-clause-covered c = λ m h.
    let test = c.numbers-test.false in
    let within = entry-within c.args.tables.now.declared.items m h in
    c.numbers.invariant.found.covered m (omega (arith, test, within)) h
