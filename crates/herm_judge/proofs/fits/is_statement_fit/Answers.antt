use Rattle.herm_judge.specs.View.{table_of, variables_of, ports_of}
use Rattle.herm_judge.proofs.Seen.{case_fits, select_fits, try_fits}
use Rattle.herm_judge.proofs.fits.is_statement_fit.Goals as goal

pub returns-in-Case : goal.returns-in-Case
returns-in-Case c = record {
  fits = case_fits (table_of c.args.frame.now) (variables_of c.args.frame.now) (ports_of c.args.frame.now) c.args.form.now c.in-Case.v c.in-Case.arms _ c.case_fits.result c.in-Case.is c.as_slice.ensures.value
      c.case_fits.ensures.fits;
}

pub returns-in-Select : goal.returns-in-Select
returns-in-Select c = record {
  fits = select_fits (table_of c.args.frame.now) (variables_of c.args.frame.now) (ports_of c.args.frame.now) c.args.form.now c.in-Select.arms _ c.select_fits.result c.in-Select.is c.as_slice-in-Select.ensures.value
      c.select_fits.ensures.fits;
}

pub returns-in-Try : goal.returns-in-Try
returns-in-Try c = record {
  fits = try_fits (table_of c.args.frame.now) (variables_of c.args.frame.now) (ports_of c.args.frame.now) c.args.form.now c.in-Try.field-0 c.in-Try.handled _ c.is_some.result c.in-Try.is c.as_slice-in-Try.ensures.value
      c.is_some.ensures.some;
}
