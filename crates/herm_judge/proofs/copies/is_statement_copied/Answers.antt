use Rattle.herm_judge.specs.View.{table_of, variables_of}
use Rattle.herm_judge.proofs.Seen.{try_copies}
use Rattle.herm_judge.proofs.copies.is_statement_copied.Goals as goal

pub returns-in-Try : goal.returns-in-Try
returns-in-Try c = record { copies = try_copies (table_of c.args.frame.now) (variables_of c.args.frame.now) c.args.form.now c.in-Try.field-0 c.in-Try.field-1 c.in-Try.is }
