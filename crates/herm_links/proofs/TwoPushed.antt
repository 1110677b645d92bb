-- Two nodes pushed to the first list that is made.
use Rattle.std.specs.Prelude.{◌≡◌, ℕ, [], ◌∷◌, ◌++◌, length, slice_get, slice_set, refl}
use Rattle.std.proofs.Common.{◌∙◌, ap}
use Rattle.herm_links.specs.Lists.{LinkedLists, entries_of, Stands}

module _ {T : Type 0} (start made first second : LinkedLists T) (list one two : ℕ) (x y : T) (none : start.lists ≡ [])
    (added : made.lists ≡ start.lists ++ [] ∷ []) (number : list ≡ length start.lists)
    (push : first.lists ≡ slice_set made.lists list (entries_of made list ++ (one, x) ∷ []))
    (again : second.lists ≡ slice_set first.lists list (entries_of first list ++ (two, y) ∷ [])) where
  there : second.lists ≡ ((one, x) ∷ ((two, y) ∷ [])) ∷ []
  there =
      let empty : made.lists ≡ [] ∷ [] = added ∙ ap (λ ls. ls ++ [] ∷ []) none in
      let own : list ≡ 0 = number ∙ ap length none in
      let single : first.lists ≡ ((one, x) ∷ []) ∷ [] = push ∙ rw (empty, own) refl in
      again ∙ rw (single, own) refl

  pub first-stands : Stands second one
  first-stands = (0, ([], (x, ((two, y) ∷ [], ap (λ ls. slice_get ls 0) there))))

  pub second-stands : Stands second two
  second-stands = (0, ((one, x) ∷ [], (y, ([], ap (λ ls. slice_get ls 0) there))))
