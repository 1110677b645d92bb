use Rattle.std.proofs.Common.{length, sym}
use Rattle.herm_judge.specs.View.{table_of, variables_of}
use Rattle.herm_judge.proofs.Seen.{case_there, select_there, try_there}
use Rattle.herm_judge.proofs.there.is_statement_there.Goals as goal

pub returns-in-Case : goal.returns-in-Case
returns-in-Case c = record {
  there = case_there (table_of c.args.frame.now) (variables_of c.args.frame.now) (length c.args.frame.now.types.now.exceptions) (length c.args.frame.now.ports.now) c.args.in_loop c.args.form.now c.in-Case.v c.in-Case.arms _ c.case_there.result c.in-Case.is c.as_slice.ensures.value
      (c.case_there.ensures.there (length c.args.frame.now.types.now.exceptions) (length c.args.frame.now.ports.now));
}

pub returns-in-Select : goal.returns-in-Select
returns-in-Select c = record {
  there = select_there (table_of c.args.frame.now) (variables_of c.args.frame.now) (length c.args.frame.now.types.now.exceptions) (length c.args.frame.now.ports.now) c.args.in_loop c.args.form.now c.in-Select.arms _ c.select_there.result c.in-Select.is c.as_slice-in-Select.ensures.value
      (c.select_there.ensures.there (length c.args.frame.now.types.now.exceptions) (length c.args.frame.now.ports.now));
}

pub returns-in-Try : goal.returns-in-Try
returns-in-Try c = record {
  there = try_there (table_of c.args.frame.now) (variables_of c.args.frame.now) (length c.args.frame.now.types.now.exceptions) (length c.args.frame.now.ports.now) c.args.in_loop c.args.form.now c.in-Try.field-0 c.in-Try.handled _ c.are_handlers_there.result c.in-Try.is c.as_slice-in-Try.ensures.value
      (rw (sym c.exceptions.ensures) c.are_handlers_there.ensures.there);
}
