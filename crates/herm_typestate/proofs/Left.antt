-- What is left of trees, place by place.
use Rattle.std.proofs.Common.{◌≡◌, ℕ, ◌<◌, ◌≤◌, ◌^◌, List, [], ◌∷◌, ◌++◌, length, map, Bool, true, false, not, ◌&&◌, get_or, refl, sym, ◌∙◌, ap, ap₂, subst, arith}
use Rattle.std.proofs.lemmas.Bool.{ltb-true, false≢true}
use Rattle.herm_model.specs.Paths.{Path}
use Rattle.herm_model.specs.laws.ExcessLaws.{IsExcess}
use Rattle.herm_model.proofs.Lists.{and-both}
use Rattle.herm_typestate.specs.declared.tree.Mark.{Mark}
use Rattle.herm_typestate.specs.declared.tree.Mark.TheVariants.{Here}
use Rattle.herm_typestate.specs.declared.tree.Tree.{Tree, out-Tree}
use Rattle.herm_typestate.specs.Trees.{tree_has, has_mark}
use Rattle.herm_typestate.specs.Small.{is_step, AreSmall}
use Rattle.herm_typestate.specs.Facts.{facts_of}
use Rattle.herm_typestate.specs.Topmost.{AddTopmost, is_left, is_left_at}
use Rattle.herm_typestate.proofs.Marks.{at_place}
use Rattle.herm_typestate.proofs.Topmost.{up_to, up_to_all, add-same}

-- the parts of a tree of small trees are small
pub small_parts : (ts : List Tree) (i : ℕ) (t : Tree) → AreSmall ts → i < length ts → t ≡ get_or ts i t → AreSmall (out-Tree t).parts.items
small_parts ts i t small within e m [] has = absurd (false≢true has)
small_parts ts i t small within e m (j ∷ q) has = (and-both (is_step i) _ (small m (i ∷ j ∷ q) (at_place ts i t within e m (j ∷ q) ∙ has))).1

pub none_behind_small : (ts : List Tree) (i : ℕ) → AreSmall ts → 2 ^ 32 ≤ i → (m : Mark) (j : ℕ) (q : List ℕ) → i ≤ j → has_mark ts m (j ∷ q) ≡ false
none_behind_small ts i small far m j q h = by (has_mark ts m (j ∷ q)) refl
  where
    by : (b : Bool) → has_mark ts m (j ∷ q) ≡ b → b ≡ false
    by true e = let low : j < 2 ^ 32 = ltb-true j (2 ^ 32) (and-both (is_step j) _ (small m (j ∷ q) e)).0 in absurd (omega arith)
    by false e = refl

-- where there is nothing behind a place, what is left up to it is all
pub left_up_to : (ts low : List Tree) (i : ℕ) (at : Path) (old new : List Path) → ((m : Mark) (j : ℕ) (q : List ℕ) → i ≤ j → has_mark ts m (j ∷ q) ≡ false)
    → AddTopmost (up_to i (is_left ts low)) at old new → AddTopmost (is_left ts low) at old new
left_up_to ts low i at old new none = add-same (up_to i (is_left ts low)) (is_left ts low) at old new
    (up_to_all (is_left ts low) i refl (λ j q h. ap (λ b. b && not (has_mark low Here (j ∷ q))) (none Here j q h)))

-- what is left of a tree is what is left behind its place
pub left_at : (ts low : List Tree) (i : ℕ) (t : Tree) → i < length ts → t ≡ get_or ts i t → (p : Path) → is_left_at t low i p ≡ is_left ts low (i ∷ p)
left_at ts low i t within e p = ap (λ b. b && not (has_mark low Here (i ∷ p))) (sym (at_place ts i t within e Here p))

-- where a tree's value is not left, what is left of its parts is left of it
pub left_below : (t : Tree) (low lower : List Tree) (i : ℕ) → is_left_at t low i [] ≡ false → ((m : Mark) (j : ℕ) (q : List ℕ) → has_mark low m (i ∷ j ∷ q) ≡ has_mark lower m (j ∷ q))
    → (p : Path) → is_left (out-Tree t).parts.items lower p ≡ is_left_at t low i p
left_below t low lower i none same [] = sym none
left_below t low lower i none same (j ∷ q) = ap (λ b. tree_has Here (j ∷ q) t && not b) (sym (same Here j q))

said_from_root : (xs : List Path) → map ([] ++◌) xs ≡ xs
said_from_root [] = refl
said_from_root (x ∷ xs) = ap (λ ys. x ∷ ys) (said_from_root xs)

-- what is left of all trees, said from the root on, is the excess of their facts
pub excess_of_left : (ts low : List Tree) (at : Path) (old new : List Path) → at ≡ [] → old ≡ [] → AddTopmost (is_left ts low) at old new → IsExcess (facts_of ts) (facts_of low) new
excess_of_left ts low at old new root none h =
    subst (λ xs. IsExcess (facts_of ts) (facts_of low) xs) (sym (h.added ∙ (ap₂ (λ xs p. xs ++ map (p ++◌) h.paths) none root ∙ said_from_root h.paths)))
    (record { order = h.topmost.order; topmost = h.topmost.topmost })
