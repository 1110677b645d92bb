use Rattle.std.proofs.Common.{inl, refl}
use Rattle.herm_source.proofs.examples.integers_at_the_console_are_unsound.Goals as goal

pub returns : goal.returns
returns c = record { refused = λ n sound. ((sound.1).messages 0 4 _ _ (sound.1).ports.console refl (inl refl)).0.0 }
