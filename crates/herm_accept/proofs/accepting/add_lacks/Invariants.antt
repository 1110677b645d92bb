use Rattle.std.proofs.Common.{◌≡◌, ◌++◌, map}
use Rattle.herm_check.specs.Missing.{refusal_of}
use Rattle.herm_accept.specs.Lacking.{lack_view, lacking}
use Rattle.herm_accept.proofs.accepting.add_lacks.Given as goal

abbrev pub invariant-missing : goal.invariant-missing
invariant-missing l = map lack_view l.lacks.items ≡ map lack_view l.initial.lacks.items ++ map (lacking l.types l.number l.p) (map (refusal_of l.fn.all.lost.items l.fn.all.searches.items) l.yielded)
