-- How many cells are in the values of places, loops and work lists.
use Rattle.std.proofs.Common.{◌≡◌, ℕ, suc, ◌+◌, List, [], ◌∷◌, ◌++◌, map, length, reverse, Option, Some, None, option_map, refl, sym, ap, ap₂, subst, ◌∙◌, arith}
use Rattle.std.proofs.lemmas.List.{reverse-append}
use Rattle.std.specs.Prelude.{⊤}
use Rattle.herm_model.specs.CellNames.{count, count_in}
use Rattle.herm_model.specs.Lists.{total}
use Rattle.herm_model.specs.Values.{Cell, cell, Parts, no_parts, gap, part, place, a_callmessage, an_inport}
use Rattle.herm_model.proofs.Lists.{total-append}
use Rattle.herm_journal.specs.Weights.{weigh, weigh_in, weigh_all}
use Rattle.herm_forms.specs.Frames.{Frame, Loop}
use Rattle.herm_forms.specs.Weights.{weigh_loops, weight_held}
use Rattle.herm_places.specs.Held.{seen_places}
use Rattle.herm_values.specs.Works.{item_view}
use Rattle.herm_values.specs.View.{value_view}
use Rattle.herm_values.specs.declared.value.Value.{Value}
use Rattle.herm_values.specs.declared.work.WorkItem.{WorkItem}
use Rattle.herm_values.specs.declared.work.WorkItem.TheVariants as items
use Rattle.herm_frames.specs.Counts.{cut}
use Rattle.herm_frames.specs.HeldFrames.{HeldFrame, HeldLoop}
use Rattle.herm_frames.specs.Standing.{Stands, loop_view}
use Rattle.herm_frames.proofs.Stood.{cut_both, cut_more}

-- each cell weighs one
abbrev pub one : ⊤ → ℕ
one n = 1

more : (a b : ℕ) → a ≡ b → 1 + a ≡ suc b
more a b e = omega (arith, e)

mutual
  weighed : (c : Cell ⊤) → weigh one c ≡ count c
  weighed (cell n k ps) = more (weigh_in one ps) (count_in ps) (weighed_in ps)

  weighed_in : (ps : Parts ⊤) → weigh_in one ps ≡ count_in ps
  weighed_in no_parts = refl
  weighed_in (gap ps) = weighed_in ps
  weighed_in (part c ps) = ap₂ ◌+◌ (weighed c) (weighed_in ps)

pub count_joined : (xs ys : List (Option Value)) → count_in (seen_places (xs ++ ys)) ≡ count_in (seen_places xs) + count_in (seen_places ys)
count_joined [] ys = omega arith
count_joined (None ∷ xs) ys = count_joined xs ys
count_joined (Some v ∷ xs) ys = let e = count_joined xs ys in omega (arith, e)

pub cut_joined : (xs ys zs : List (Option Value)) (n m k : ℕ) → n ≡ cut (count_in (seen_places xs)) → m ≡ cut (count_in (seen_places ys)) → k ≡ cut (n + m) → xs ++ ys ≡ zs → k ≡ cut (count_in (seen_places zs))
cut_joined xs ys zs n m k a b is same =
    is ∙ cut_both (count_in (seen_places xs)) (count_in (seen_places ys)) n m a b ∙ ap cut (sym (count_joined xs ys)) ∙ ap (λ vs. cut (count_in (seen_places vs))) same

abbrev pub rows_in : HeldLoop → ℕ
rows_in l = count_in (seen_places l.rows)

turned : (a b x : ℕ) → a ≡ b → a + (x + 0) ≡ x + b
turned a b x e = omega (arith, e)

total-turned : (xs : List HeldLoop) → total rows_in (reverse xs) ≡ total rows_in xs
total-turned [] = refl
total-turned (x ∷ xs) =
    let e = total-turned xs in
    let a = total-append rows_in (reverse xs) (x ∷ []) in
    let b : total rows_in (reverse (x ∷ xs)) ≡ total rows_in (reverse xs ++ x ∷ []) = ap (total rows_in) (reverse-append (x ∷ []) xs) in
    b ∙ a ∙ turned (total rows_in (reverse xs)) (total rows_in xs) (rows_in x) e

loops-weighed : (ls : List HeldLoop) → weigh_loops one (map loop_view ls) ≡ total rows_in ls
loops-weighed [] = refl
loops-weighed (l ∷ ls) = ap₂ ◌+◌ (weighed_in (seen_places l.rows)) (loops-weighed ls)

item-weighed : (i : WorkItem) → weigh one (item_view i) ≡ 1
item-weighed (items.Close port) = refl
item-weighed (items.Answer caller call) = refl

work-weighed : (is : List WorkItem) → weigh_all one (map item_view is) ≡ length (map item_view is)
work-weighed [] = refl
work-weighed (i ∷ is) = ap (λ n. n + weigh_all one (map item_view is)) (item-weighed i) ∙ more (weigh_all one (map item_view is)) (length (map item_view is)) (work-weighed is)

pub held_cells : (f : HeldFrame) (s : Frame ⊤) (loops : List HeldLoop) (n m k : ℕ) (w r : ℕ) → Stands f s → n ≡ cut (count_in (seen_places f.variables)) → m ≡ cut (total (λ l. count_in (seen_places l.rows)) loops) → f.loops ≡ reverse loops → w ≡ length (map item_view f.work)
    → k ≡ cut (n + m) → r ≡ cut (k + w) → r ≡ cut (weight_held one s)
held_cells f s loops n m k w r h a b turned len both all =
    let variables : weigh_in one s.variables ≡ count_in (seen_places f.variables) = ap (weigh_in one) h.variables ∙ weighed_in (seen_places f.variables) in
    let rows : weigh_loops one s.loops ≡ total rows_in loops = ap (weigh_loops one) h.loops ∙ loops-weighed f.loops ∙ ap (total rows_in) turned ∙ total-turned loops in
    let work : weigh_all one s.work ≡ w = ap (weigh_all one) h.work ∙ work-weighed f.work ∙ sym len in
    let sums : weight_held one s ≡ count_in (seen_places f.variables) + total rows_in loops + w = ap₂ ◌+◌ (ap₂ ◌+◌ variables rows) work in
    all ∙ cut_more (count_in (seen_places f.variables) + total rows_in loops) w k (both ∙ cut_both (count_in (seen_places f.variables)) (total rows_in loops) n m a b) ∙ ap cut (sym sums)
