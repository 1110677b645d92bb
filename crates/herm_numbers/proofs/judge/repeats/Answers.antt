use Rattle.herm_numbers.proofs.Repeated.{case_repeats, select_repeats, try_repeats}
use Rattle.herm_numbers.proofs.judge.repeats.Goals as goal

pub returns-in-Case : goal.returns-in-Case
returns-in-Case c = record { repeats = case_repeats c.args.form.now c.in-Case.field-0 c.in-Case.arms _ c.names_differ.result c.in-Case.is c.as_slice.ensures.value c.names_differ.ensures.differ }

pub returns-in-Select : goal.returns-in-Select
returns-in-Select c = record { repeats = select_repeats c.args.form.now c.in-Select.arms _ c.ports_differ.result c.in-Select.is c.as_slice-in-Select.ensures.value c.ports_differ.ensures.differ }

pub returns-in-Try : goal.returns-in-Try
returns-in-Try c = record { repeats = try_repeats c.args.form.now c.in-Try.field-0 c.in-Try.handled _ c.names_differ-in-Try.result c.in-Try.is c.as_slice-in-Try.ensures.value c.names_differ-in-Try.ensures.differ }
