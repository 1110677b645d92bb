use Rattle.std.proofs.Common.{◌≡◌, ◌++◌, map, drop}
use Rattle.herm_report.specs.Turns.{in_turn}
use Rattle.herm_report.proofs.journal.taken_in_turn.Given as goal

-- what is taken, with what is still taken in turn, is the whole
abbrev pub invariant-loop-turn : goal.invariant-loop-turn
invariant-loop-turn l = map (λ e. e.now) l.entries.items ++ in_turn (drop l.turn-index l.turns) (map (λ e. e.now) l.rests.items) ≡ in_turn l.turns (map (λ e. e.now) l.initial.rests.items)
