-- The component that is the last part of a path.
use Rattle.std.proofs.Common.{◌≡◌, ℕ, zero, suc, ◌+◌, ◌-◌, ◌<◌, ◌≤◌, List, [], ◌∷◌, ◌++◌, map, length, take, Option, Some, None, slice_get, refl, sym, ap, ◌∙◌, arith}
use Rattle.herm_model.specs.Lists.{list_of}
use Rattle.herm_base.specs.declared.word.Name.{Name}
use Rattle.herm_syntax.specs.View.{name_view}
use Rattle.herm_syntax.specs.Trees.{Letters}
use Rattle.herm_meaning.specs.Names.{NamedTable}
use Rattle.herm_naming.specs.Numbers.{place_of, part_number, without_last, last_name}
use Rattle.herm_numbers.specs.View.{number_of, IsSized}

none-behind : {X : Type 0} (xs : List X) → slice_get xs (length xs) ≡ None
none-behind [] = refl
none-behind (x ∷ xs) = none-behind xs

pub part_at : (known : NamedTable) (t : Option ℕ) (name : Letters) (n : ℕ) → IsSized known → n ≡ number_of known t → part_number known (Some n) name ≡ part_number known t name
part_at known None name n sized e = ap (λ k. part_number known (Some k) name) (e ∙ sym sized.each) ∙ ap (λ o. place_of name (list_of (λ names. names) o)) (none-behind known.parts)
part_at known (Some t) name n sized e = ap (λ k. part_number known (Some k) name) e

pub before_last : (xs : List Name) (x : Name) → without_last (map name_view (xs ++ (x ∷ []))) ≡ map name_view xs
before_last [] x = refl
before_last (a ∷ []) x = refl
before_last (a ∷ b ∷ xs) x = ap (name_view a ∷◌) (before_last (b ∷ xs) x)

pub at_last : (xs : List Name) (x : Name) → last_name (map name_view (xs ++ (x ∷ []))) ≡ name_view x
at_last [] x = refl
at_last (a ∷ []) x = refl
at_last (a ∷ b ∷ xs) x = at_last (b ∷ xs) x
