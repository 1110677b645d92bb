use Rattle.herm_sound.specs.laws.SoundLaws.{IsAmong}
use Rattle.herm_waking.proofs.WorldsSuit.{worlds-would-suit, world-diaries-tell}
use Rattle.herm_waking.proofs.rounds.worlds_suit.Goals as goal

pub returns : goal.returns
returns g c = record {
  suits = λ machine state keeps. worlds-would-suit machine (IsAmong state) keeps;
  told = λ machine nameless without state keeps begins forgets. world-diaries-tell machine (IsAmong state) keeps begins nameless without forgets;
}
