-- What each operation on cells does to their weight, by names and kinds.
use Rattle.std.proofs.Common.{◌≡◌, ℕ, zero, suc, ◌+◌, List, [], ◌∷◌, Bool, true, false, cond, Some, option_map, refl, ap, sym, subst, ◌∙◌, arith}
use Rattle.std.specs.Prelude.{nat_eq}
use Rattle.herm_model.specs.Lists.{total, range}
use Rattle.herm_model.specs.Paths.{Path}
use Rattle.herm_model.specs.Values.{Kind, Cell, cell, Parts, no_parts, gap, gaps, part, part_at, joined, read_at, change_at}
use Rattle.herm_model.specs.CellNames.{count, count_in, copy_from, copy_in}
use Rattle.herm_model.specs.Tables.{without_part}
use Rattle.herm_model.proofs.Lists.{total-append}
use Rattle.herm_model.proofs.Places.{range-add}
use Rattle.herm_model.proofs.Options.{none-not_some}
use Rattle.herm_forms.specs.Frames.{Loop}
use Rattle.herm_forms.specs.LoopForms.{rows_for, set_rows}
use Rattle.herm_journal.specs.Weights.{weigh_serials}
use Rattle.herm_journal.specs.Kinds.{HasKinds, HaveKinds}
use Rattle.herm_model.proofs.Loads.{load, load_in, load_option, load-change_at}
use Rattle.herm_forms.proofs.Loads.{load_loops}

module _ {N : Type 0} (w : N → ℕ) (x : Kind → ℕ) where
  -- rows
  pub weigh-joined : (ps qs : Parts N) → load_in w x (joined ps qs) ≡ load_in w x ps + load_in w x qs
  weigh-joined no_parts qs = omega arith
  weigh-joined (gap ps) qs = weigh-joined ps qs
  weigh-joined (part c ps) qs = omega (arith, weigh-joined ps qs)

  pub weigh-without_part : (i : ℕ) (c : Cell N) (ps : Parts N) → part_at i ps ≡ Some c → load_in w x (without_part i ps) + load w x c ≡ load_in w x ps
  weigh-without_part i c no_parts h = none-not_some h
  weigh-without_part zero c (gap ps) h = none-not_some h
  weigh-without_part zero c (part d ps) h = let e : d ≡ c = cc h in rw e (omega arith)
  weigh-without_part (suc i) c (gap ps) h = weigh-without_part i c ps h
  weigh-without_part (suc i) c (part d ps) h = omega (arith, weigh-without_part i c ps h)

  pub weigh-gaps : (n : ℕ) → load_in w x (gaps n) ≡ 0
  weigh-gaps zero = refl
  weigh-gaps (suc n) = weigh-gaps n

  -- the lists of loops
  row_found : (s : ℕ) (rows old : Parts N) (l : Loop N) (loops : List (Loop N)) (b : Bool) → nat_eq l.statement s ≡ b
      → (rows_for s loops ≡ Some old → load_loops w x (set_rows s rows loops) + load_in w x old ≡ load_loops w x loops + load_in w x rows)
      → cond b (Some l.rows) (rows_for s loops) ≡ Some old
      → load_loops w x (cond b (record { statement = s; rows = rows } ∷ loops) (l ∷ set_rows s rows loops)) + load_in w x old ≡ load_loops w x (l ∷ loops) + load_in w x rows
  row_found s rows old l loops true e step h = let same : l.rows ≡ old = cc h in rw (sym same) (omega arith)
  row_found s rows old l loops false e step h = omega (arith, step h)

  pub weigh-set_rows : (s : ℕ) (rows old : Parts N) (loops : List (Loop N)) → rows_for s loops ≡ Some old
      → load_loops w x (set_rows s rows loops) + load_in w x old ≡ load_loops w x loops + load_in w x rows
  weigh-set_rows s rows old [] h = none-not_some h
  weigh-set_rows s rows old (l ∷ loops) h = row_found s rows old l loops (nat_eq l.statement s) refl (weigh-set_rows s rows old loops) h

pub weigh-change_at : {N : Type 0} (w : N → ℕ) (x : Kind → ℕ) (p : Path) (f : Cell N → Cell N) (c : Cell N) (ps : Parts N) → read_at p ps ≡ Some c
    → load_in w x (change_at p f ps) + load w x c ≡ load_in w x ps + load w x (f c)
weigh-change_at w x [] f c ps h = none-not_some h
weigh-change_at w x (j ∷ p) f c ps h =
    load-change_at w x f (load w x c) (load w x (f c)) j p ps (subst (λ o. load_option w x (option_map f o) + load w x c ≡ load_option w x o + load w x (f c)) (sym h) (omega arith))

-- serials
pub weigh_serials-add : {N : Type 0} (w : N → ℕ) (name : ℕ → N) (s m n : ℕ) → weigh_serials w name s (m + n) ≡ weigh_serials w name s m + weigh_serials w name (s + m) n
weigh_serials-add w name s m n = ap (total (λ i. w (name i))) (range-add s m n) ∙ total-append (λ i. w (name i)) (range s m) (range (s + m) n)

-- a copy of cells of which none waits weighs what its names do
abbrev pub Spares : (Kind → ℕ) → Kind → Type 0
Spares x k = x k ≡ 0

module _ {N M : Type 0} (w : N → ℕ) (x : Kind → ℕ) (name : ℕ → N) where
  mutual
    pub weigh-copy : (s : ℕ) (c : Cell M) → HasKinds (Spares x) c → load w x (copy_from name s c) ≡ weigh_serials w name s (count c)
    weigh-copy s (cell n k ps) h = omega (arith, h.0, weigh-copy_in (suc s) ps h.1)

    pub weigh-copy_in : (s : ℕ) (ps : Parts M) → HaveKinds (Spares x) ps → load_in w x (copy_in name s ps) ≡ weigh_serials w name s (count_in ps)
    weigh-copy_in s no_parts h = refl
    weigh-copy_in s (gap ps) h = weigh-copy_in s ps h
    weigh-copy_in s (part c ps) h = omega (arith, weigh-copy s c h.0, weigh-copy_in (s + count c) ps h.1, weigh_serials-add w name s (count c) (count_in ps))
