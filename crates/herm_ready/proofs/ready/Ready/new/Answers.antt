use Rattle.std.proofs.Common.{◌≡◌, ap, ◌∙◌, ◌+◌, ◌/◌, replicate}
use Rattle.herm_ready.specs.Words.{members}
use Rattle.herm_ready.proofs.Members.{no-members, zeros}
use Rattle.herm_ready.proofs.ready.Ready.new.Goals as goal

pub returns-clause-none : goal.returns-clause-none
returns-clause-none c = ap members (c.in_ok-words.ensures.items_if_clones_equal (λ y h. h)) ∙ no-members (replicate (c.args.limit / 64 + 1) 0) (zeros (c.args.limit / 64 + 1))
