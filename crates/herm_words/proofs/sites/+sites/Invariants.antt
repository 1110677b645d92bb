use Rattle.std.proofs.Common.{◌≡◌, ◌+◌, ◌*◌, ◌++◌, length, map, drop}
use Rattle.herm_typed.specs.Within.{statements_within, all_statements}
use Rattle.herm_words.specs.Sites.{site_of}
use Rattle.herm_words.specs.Rows.{all_in_arms, all_in_port_arms, all_otherwise}
use Rattle.herm_words.proofs.sites.+sites.Given as goal

-- Each invariant: what was found so far joined with what is left is the whole.
abbrev pub invariant-push_all-loop-s : goal.invariant-push_all-loop-s
invariant-push_all-loop-s l = l.out.items ++ map site_of (all_statements (drop l.s-index l.list)) ≡ l.fn.out.items ++ map site_of (all_statements l.list)

abbrev pub invariant-push_arms-loop-body : goal.invariant-push_arms-loop-body
invariant-push_arms-loop-body l = l.out.items ++ map site_of (all_in_arms (drop l.body-index l.arms)) ≡ l.fn.out.items ++ map site_of (all_in_arms l.arms)

abbrev pub invariant-push_handlers-loop-body : goal.invariant-push_handlers-loop-body
invariant-push_handlers-loop-body l = l.out.items ++ map site_of (all_in_arms (drop l.body-index l.handlers)) ≡ l.fn.out.items ++ map site_of (all_in_arms l.handlers)

abbrev pub invariant-push_port_arms-loop-body : goal.invariant-push_port_arms-loop-body
invariant-push_port_arms-loop-body l = l.out.items ++ map site_of (all_in_port_arms (drop l.body-index l.arms)) ≡ l.fn.out.items ++ map site_of (all_in_port_arms l.arms)

-- The measures: statements within, and how far the call is from them.
abbrev pub decreases-push_all : goal.decreases-push_all
decreases-push_all l = 4 * length (all_statements l.list.now) + 1

abbrev pub decreases-push_arms : goal.decreases-push_arms
decreases-push_arms l = 4 * length (all_in_arms l.arms.now) + 2

abbrev pub decreases-push_handlers : goal.decreases-push_handlers
decreases-push_handlers l = 4 * length (all_in_arms l.handlers.now) + 2

abbrev pub decreases-push_port_arms : goal.decreases-push_port_arms
decreases-push_port_arms l = 4 * length (all_in_port_arms l.arms.now) + 2

abbrev pub decreases-push_otherwise : goal.decreases-push_otherwise
decreases-push_otherwise l = 4 * length (all_otherwise l.other.now) + 2

abbrev pub decreases-push_within : goal.decreases-push_within
decreases-push_within l = 4 * length (statements_within l.form.now) + 3
