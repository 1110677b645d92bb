use Rattle.std.proofs.Common.{map}
use Rattle.herm_syntax.specs.View.{param_form_view}
use Rattle.herm_defs.proofs.KeepLaws.{keeps-is}
use Rattle.herm_defs.proofs.keeps.keeps_badly.Goals as goal

pub returns : goal.returns
returns c = keeps-is c.args.context.now.exceptions (map param_form_view c.args.params.now) c.args.raise.now c.exception_of-number.result c.as_slice-keeps.result.now c.any_not_returned-any.result c.are_bad.result c.exception_of-number.ensures c.as_slice-keeps.ensures.value c.any_not_returned-any.ensures c.are_bad.ensures
