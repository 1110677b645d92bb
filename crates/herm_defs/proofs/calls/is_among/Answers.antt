use Rattle.std.proofs.Common.{◌∙◌}
use Rattle.std.specs.Str.{bytes_eq}
use Rattle.herm_syntax.specs.View.{name_view}
use Rattle.herm_defs.proofs.Keeping.{any-map}
use Rattle.herm_defs.proofs.calls.is_among.Goals as goal

pub returns : goal.returns
returns c = c.any_is.ensures ∙ any-map (bytes_eq c.args.name.now) name_view c.args.names.now
