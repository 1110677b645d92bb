use Rattle.std.proofs.Common.{◌∙◌}
use Rattle.herm_links.proofs.TwoPushed.{first-stands, second-stands}
use Rattle.herm_links.proofs.tests.know_each_other.Goals as goal

pub next-requires : goal.next-requires
next-requires c = record { stands = first-stands c.reserve.new.self c.new_list.new.self c.push_back-five.new.self c.push_back-six.new.self c.in_ok-list.list.0 c.push_back-five.result.0 c.push_back-six.result.0 5 6 (c.in_ok-reserve.ensures.lists ∙ c.new-links.ensures.none) c.in_ok-list.ensures.added c.in_ok-list.ensures.number c.push_back-five.ensures.pushed c.push_back-six.ensures.pushed }

pub next-requires-then-eq : goal.next-requires-then-eq
next-requires-then-eq c = record { stands = second-stands c.reserve.new.self c.new_list.new.self c.push_back-five.new.self c.push_back-six.new.self c.in_ok-list.list.0 c.push_back-five.result.0 c.push_back-six.result.0 5 6 (c.in_ok-reserve.ensures.lists ∙ c.new-links.ensures.none) c.in_ok-list.ensures.added c.in_ok-list.ensures.number c.push_back-five.ensures.pushed c.push_back-six.ensures.pushed }

pub prev-requires : goal.prev-requires
prev-requires c = record { stands = second-stands c.reserve.new.self c.new_list.new.self c.push_back-five.new.self c.push_back-six.new.self c.in_ok-list.list.0 c.push_back-five.result.0 c.push_back-six.result.0 5 6 (c.in_ok-reserve.ensures.lists ∙ c.new-links.ensures.none) c.in_ok-list.ensures.added c.in_ok-list.ensures.number c.push_back-five.ensures.pushed c.push_back-six.ensures.pushed }

pub prev-requires-then-eq-2 : goal.prev-requires-then-eq-2
prev-requires-then-eq-2 c = record { stands = first-stands c.reserve.new.self c.new_list.new.self c.push_back-five.new.self c.push_back-six.new.self c.in_ok-list.list.0 c.push_back-five.result.0 c.push_back-six.result.0 5 6 (c.in_ok-reserve.ensures.lists ∙ c.new-links.ensures.none) c.in_ok-list.ensures.added c.in_ok-list.ensures.number c.push_back-five.ensures.pushed c.push_back-six.ensures.pushed }

pub at-requires : goal.at-requires
at-requires c = record { stands = first-stands c.reserve.new.self c.new_list.new.self c.push_back-five.new.self c.push_back-six.new.self c.in_ok-list.list.0 c.push_back-five.result.0 c.push_back-six.result.0 5 6 (c.in_ok-reserve.ensures.lists ∙ c.new-links.ensures.none) c.in_ok-list.ensures.added c.in_ok-list.ensures.number c.push_back-five.ensures.pushed c.push_back-six.ensures.pushed }

pub at-requires-then-at-eq5 : goal.at-requires-then-at-eq5
at-requires-then-at-eq5 c = record { stands = second-stands c.reserve.new.self c.new_list.new.self c.push_back-five.new.self c.push_back-six.new.self c.in_ok-list.list.0 c.push_back-five.result.0 c.push_back-six.result.0 5 6 (c.in_ok-reserve.ensures.lists ∙ c.new-links.ensures.none) c.in_ok-list.ensures.added c.in_ok-list.ensures.number c.push_back-five.ensures.pushed c.push_back-six.ensures.pushed }
