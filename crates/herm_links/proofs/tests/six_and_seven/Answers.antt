use Rattle.std.specs.Prelude.{◌≡◌, [], ◌∷◌, ◌++◌, length, refl, slice_get}
use Rattle.std.proofs.Common.{◌∙◌, ap}
use Rattle.herm_links.proofs.tests.six_and_seven.Goals as goal

pub unlink-taken-requires : goal.unlink-taken-requires
unlink-taken-requires c =
    let none : c.reserve.new.self.lists ≡ [] = c.in_ok-reserve.ensures.lists ∙ c.new-links.ensures.none in
    let one : c.new_list.new.self.lists ≡ [] ∷ [] = c.in_ok-list.ensures.added ∙ ap (λ ls. ls ++ [] ∷ []) none in
    let list : c.in_ok-list.list.0 ≡ 0 = c.in_ok-list.ensures.number ∙ ap length none in
    let two : c.new_list-2.new.self.lists ≡ [] ∷ ([] ∷ []) = c.in_ok-other.ensures.added ∙ ap (λ ls. ls ++ [] ∷ []) one in
    let other : c.in_ok-other.other.0 ≡ 1 = c.in_ok-other.ensures.number ∙ ap length one in
    let five : c.push_back-five.new.self.lists ≡ ((c.push_back-five.result.0, 5) ∷ []) ∷ ([] ∷ []) =
    c.push_back-five.ensures.pushed ∙ rw (two, list) refl in
    let seven : c.push_back.new.self.lists ≡ ((c.push_back-five.result.0, 5) ∷ []) ∷ (((c.push_back.result.0, 7) ∷ []) ∷ []) =
    c.push_back.ensures.pushed ∙ rw (five, other) refl in
    let six : c.push_back-six.new.self.lists ≡ ((c.push_back-five.result.0, 5) ∷ ((c.push_back-six.result.0, 6) ∷ [])) ∷ (((c.push_back.result.0, 7) ∷ []) ∷ []) =
    c.push_back-six.ensures.pushed ∙ rw (seven, list) refl in
    record {
      stands = (0, ([], (5, ((c.push_back-six.result.0, 6) ∷ [], ap (λ ls. slice_get ls 0) six))));
    }
