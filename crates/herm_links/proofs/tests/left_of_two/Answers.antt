use Rattle.std.proofs.Common.{◌∙◌}
use Rattle.herm_links.proofs.TwoPushed.{first-stands}
use Rattle.herm_links.proofs.tests.left_of_two.Goals as goal

pub unlink-taken-requires : goal.unlink-taken-requires
unlink-taken-requires c = record { stands = first-stands c.reserve.new.self c.new_list.new.self c.push_back-five.new.self c.push_back.new.self c.in_ok-list.list.0 c.push_back-five.result.0 c.push_back.result.0 5 6 (c.in_ok-reserve.ensures.lists ∙ c.new-links.ensures.none) c.in_ok-list.ensures.added c.in_ok-list.ensures.number c.push_back-five.ensures.pushed c.push_back.ensures.pushed }
