-- Which marks a tree has, by the steps that lead to them.
use Rattle.std.specs.Prelude.{◌≡◌, ℕ, List, [], ◌∷◌, Bool, true, false, nat_eq, ◌&&◌, slice_get}
use Rattle.herm_model.specs.Lists.{any_pass, map_or}
use Rattle.herm_model.specs.Paths.{same_path}
use Rattle.herm_typestate.specs.declared.tree.Mark.{Mark}
use Rattle.herm_typestate.specs.declared.tree.Mark.TheVariants.{Here, Component}
use Rattle.herm_typestate.specs.declared.tree.Tree.{Tree, out-Tree}

-- the tree itself has the mark
abbrev pub is_marked : Tree → Mark → Bool
is_marked t Here = (out-Tree t).here
is_marked t (Component c) = any_pass (nat_eq c) (out-Tree t).known.items

-- the tree at the end of these steps has the mark
abbrev pub tree_has : Mark → List ℕ → Tree → Bool
tree_has m [] t = is_marked t m
tree_has m (i ∷ p) t = map_or false (tree_has m p) (slice_get (out-Tree t).parts.items i)

-- the same of several trees by their places, from which the first step chooses
abbrev pub has_mark : List Tree → Mark → List ℕ → Bool
has_mark ts m [] = false
has_mark ts m (i ∷ p) = map_or false (tree_has m p) (slice_get ts i)

-- the two marks are the same
abbrev pub same_mark : Mark → Mark → Bool
same_mark Here Here = true
same_mark Here (Component d) = false
same_mark (Component c) Here = false
same_mark (Component c) (Component d) = nat_eq c d

-- this is the one mark at the end of these steps
abbrev pub is_mark_of : List ℕ → Mark → Mark → List ℕ → Bool
is_mark_of p m n q = same_path p q && same_mark m n

-- each mark of the one is one of the other
abbrev pub IsWithin : (Mark → List ℕ → Bool) → (Mark → List ℕ → Bool) → Type 0
IsWithin S T = (m : Mark) (p : List ℕ) → S m p ≡ true → T m p ≡ true

-- a mark that the one has and the other lacks
pub record IsBeyond (S T : Mark → List ℕ → Bool) : Type 0 where
  pub mark : Mark
  pub path : List ℕ
  pub has : S mark path ≡ true
  pub lacks : T mark path ≡ false

-- the first where the test is true, and the second where it is false
abbrev pub Tells : Bool → Type 0 → Type 0 → Type 0
Tells true A B = A
Tells false A B = B
