use Rattle.std.proofs.Common.{length}
use Rattle.herm_values.proofs.keys.+is_key.Given as goal

abbrev pub decreases-is_key : goal.decreases-is_key
decreases-is_key c = length c.columns.now
