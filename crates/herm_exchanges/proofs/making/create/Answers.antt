use Rattle.std.proofs.Common.{suc, option_map, refl, ap}
use Rattle.herm_model.specs.Outcomes.{ok}
use Rattle.herm_types.specs.View.{path_view}
use Rattle.herm_frames.specs.Completed.{outcome_view}
use Rattle.herm_exchanges.proofs.Made.{process_made}
use Rattle.herm_exchanges.proofs.making.create.Goals as goal

pub returns-clause-settles : goal.returns-clause-settles
returns-clause-settles c = λ s code h.
    process_made _ _ _ (path_view c.args.target.now) s code c.put_at_end.new.self (outcome_view c.in_ok-outcome.outcome) (ap (option_map (λ m. (m.0.number, m.1.number))) c.in-Some.is)
    (c.in_ok-outcome.ensures.putting (record s { serial = suc (suc s.serial) }) ok (c.make_cell-2.ensures.stands (record s { serial = suc s.serial }) (c.make_cell.ensures.stands s h)) refl)
