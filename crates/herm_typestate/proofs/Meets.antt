-- Trees that keep what others have too, place by place.
use Rattle.std.proofs.Common.{◌≡◌, ◌≢◌, ℕ, zero, suc, ◌+◌, ◌<◌, ◌≤◌, List, [], ◌∷◌, length, take, Bool, true, false, ◌&&◌, ◌⊎◌, inl, inr, nat_eq, slice_set, get_or, refl, sym, ◌∙◌, ap, ap₂, subst, arith, length-set}
use Rattle.std.proofs.lemmas.Bool.Decides.{nat_tests}
use Rattle.std.proofs.lemmas.Option.{slice_get_past}
use Rattle.herm_model.specs.Lists.{any_pass, map_or}
use Rattle.herm_typestate.specs.declared.tree.Mark.{Mark}
use Rattle.herm_typestate.specs.declared.tree.Mark.TheVariants.{Here, Component}
use Rattle.herm_typestate.specs.declared.tree.Tree.{Tree, out-Tree, roll-Tree}
use Rattle.herm_typestate.specs.declared.tree.Tree.TheOpen.{Tree-F}
use Rattle.herm_typestate.specs.Trees.{is_marked, tree_has, has_mark}
use Rattle.herm_typestate.proofs.Marks.{node_has, tree_of-fields, at_place, set-has_same, set-has_other}

pub and_false : (b : Bool) → (b && false) ≡ false
and_false true = refl
and_false false = refl

pub past : (ts : List Tree) (m : Mark) (j : ℕ) (q : List ℕ) → length ts ≤ j → has_mark ts m (j ∷ q) ≡ false
past ts m j q h = ap (map_or false (tree_has m q)) (slice_get_past ts j h)

-- trees cut off behind the others keep what both have
pub cut : (ts us : List Tree) (m : Mark) (q : List ℕ) → (has_mark (take (length us) ts) m q && has_mark us m q) ≡ (has_mark ts m q && has_mark us m q)
cut ts us m [] = refl
cut ts [] m (j ∷ q) = sym (and_false (has_mark ts m (j ∷ q)))
cut [] (u ∷ us) m (j ∷ q) = refl
cut (t ∷ ts) (u ∷ us) m (zero ∷ q) = refl
cut (t ∷ ts) (u ∷ us) m (suc j ∷ q) = cut ts us m (j ∷ q)

-- the new trees are the old ones that have met the others up to a place
pub record HaveMet (old others new : List Tree) (i : ℕ) : Type 0 where
  pub many : length new ≡ length old
  pub met : (m : Mark) (j : ℕ) (q : List ℕ) → j < i → has_mark new m (j ∷ q) ≡ (has_mark old m (j ∷ q) && has_mark others m (j ∷ q))
  pub left : (m : Mark) (j : ℕ) (q : List ℕ) → i ≤ j → has_mark new m (j ∷ q) ≡ has_mark old m (j ∷ q)

pub begin_to_meet : (old others : List Tree) → HaveMet old others old 0
begin_to_meet old others = record { many = refl; met = λ m j q h. absurd (omega arith); left = λ m j q h. refl }

next_or_before : (i j : ℕ) → j < i + 1 → (i ≡ j) ⊎ ((j < i) × (nat_eq i j ≡ false))
next_or_before i j h = by (nat_eq i j) refl
  where
    by : (b : Bool) → nat_eq i j ≡ b → (i ≡ j) ⊎ ((j < i) × (nat_eq i j ≡ false))
    by true e = inl (grind (arith, nat_tests))
    by false e = let apart : i ≢ j = grind (arith, nat_tests) in inr (omega arith, e)

pub meet_next : (old others new : List Tree) (i : ℕ) (t o u : Tree) → HaveMet old others new i → i < length new → i < length others → t ≡ get_or new i t → o ≡ get_or others i o
    → ((m : Mark) (q : List ℕ) → tree_has m q u ≡ (tree_has m q t && tree_has m q o)) → HaveMet old others (slice_set new i u) (i + 1)
meet_next old others new i t o u h within there et eo f = record {
  many = length-set new i u ∙ h.many;
  met = λ m j q less. by m j q (next_or_before i j less);
  left = λ m j q above. set-has_other new i u m j q (grind (arith, nat_tests)) ∙ h.left m j q (omega arith);
}
  where
    here : (m : Mark) (q : List ℕ) → has_mark (slice_set new i u) m (i ∷ q) ≡ (has_mark old m (i ∷ q) && has_mark others m (i ∷ q))
    here m q = set-has_same new i u m q within ∙ (f m q ∙ ap₂ ◌&&◌ (sym (at_place new i t within et m q) ∙ h.left m i q (omega arith)) (sym (at_place others i o there eo m q)))

    by : (m : Mark) (j : ℕ) (q : List ℕ) → (i ≡ j) ⊎ ((j < i) × (nat_eq i j ≡ false)) → has_mark (slice_set new i u) m (j ∷ q) ≡ (has_mark old m (j ∷ q) && has_mark others m (j ∷ q))
    by m j q (inl e) = subst (λ k. has_mark (slice_set new i u) m (k ∷ q) ≡ (has_mark old m (k ∷ q) && has_mark others m (k ∷ q))) e (here m q)
    by m j q (inr less) = set-has_other new i u m j q less.1 ∙ h.met m j q less.0

pub all_met : (old others new : List Tree) (i : ℕ) → HaveMet old others new i → length old ≤ i → (m : Mark) (q : List ℕ) → has_mark new m q ≡ (has_mark old m q && has_mark others m q)
all_met old others new i h whole m [] = refl
all_met old others new i h whole m (j ∷ q) = by (below_or_not j i)
  where
    below_or_not : (a b : ℕ) → (a < b) ⊎ (b ≤ a)
    below_or_not a b = grind arith

    by : (j < i) ⊎ (i ≤ j) → has_mark new m (j ∷ q) ≡ (has_mark old m (j ∷ q) && has_mark others m (j ∷ q))
    by (inl less) = h.met m j q less
    by (inr above) = let gone = past old m j q (omega arith) in h.left m j q above ∙ (gone ∙ ap (λ b. b && has_mark others m (j ∷ q)) (sym gone))

-- a tree whose own marks and parts have met those of another
pub met_tree : (x : Tree-F Tree) (t v o : Tree) → x.here ≡ (out-Tree v).here → x.known.items ≡ (out-Tree v).known.items → ((m : Mark) → is_marked v m ≡ (is_marked t m && is_marked o m))
    → ((m : Mark) (q : List ℕ) → has_mark x.parts.items m q ≡ (has_mark (out-Tree t).parts.items m q && has_mark (out-Tree o).parts.items m q))
    → (m : Mark) (q : List ℕ) → tree_has m q (roll-Tree x) ≡ (tree_has m q t && tree_has m q o)
met_tree x t v o a b own parts m q = tree_of-fields x m q ∙ by m q
  where
    by : (m : Mark) (q : List ℕ) → node_has m q x ≡ (tree_has m q t && tree_has m q o)
    by Here [] = a ∙ own Here
    by (Component c) [] = ap (any_pass (nat_eq c)) b ∙ own (Component c)
    by m (j ∷ q) = parts m (j ∷ q)

pub met_parts : (ts ts' us us' : List Tree) → ts ≡ ts' → us ≡ us' → (m : Mark) (q : List ℕ) → (has_mark ts m q && has_mark us m q) ≡ (has_mark ts' m q && has_mark us' m q)
met_parts ts ts' us us' e f m q = ap₂ (λ a b. has_mark a m q && has_mark b m q) e f
