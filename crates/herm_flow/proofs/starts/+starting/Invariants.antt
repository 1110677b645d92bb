use Rattle.std.proofs.Common.{◌≡◌, ◌+◌, ◌-◌, ◌*◌, drop, length}
use Rattle.herm_model.specs.Statements.{numbers_of, numbers_of_block}
use Rattle.herm_typed.specs.View.{typed_form_view, typed_stmts_view}
use Rattle.herm_flow.specs.Starts.{first_in_block}
use Rattle.herm_flow.proofs.starts.+starting.Given as goal

-- What was passed begins nowhere.
abbrev pub invariant-first_in-statements : goal.invariant-first_in-statements
invariant-first_in-statements l = first_in_block (typed_stmts_view (drop l.i l.list)) l.at ≡ first_in_block (typed_stmts_view (drop l.fn.skip l.list)) l.fn.from

abbrev pub decreases-first_in-statements : goal.decreases-first_in-statements
decreases-first_in-statements l = length l.list - l.i

-- The measures: statements within, and how far the call is from them.
abbrev pub decreases-first_of : goal.decreases-first_of
decreases-first_of l = 6 * numbers_of (typed_form_view l.form.now)

abbrev pub decreases-first_in : goal.decreases-first_in
decreases-first_in l = 6 * numbers_of_block (typed_stmts_view l.list.now) + 1
