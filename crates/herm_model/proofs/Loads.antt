-- The weight of cells by a weight for every name and one for every kind, and what operations on cells do to it; with one of them 0 it
-- is the weight of the names, or counts the cells of certain kinds.
use Rattle.std.proofs.Common.{◌≡◌, ◌<◌, ℕ, zero, suc, ◌+◌, List, [], ◌∷◌, ◌++◌, Bool, true, false, cond, Option, Some, None, option_map, refl, subst, arith}
use Rattle.std.proofs.lemmas.Bool.{ltb-true}
use Rattle.std.specs.Prelude.{IsFalse}
use Rattle.herm_model.specs.Lists.{total}
use Rattle.herm_model.specs.Paths.{Path}
use Rattle.herm_model.specs.Values.{Kind, a_variant, a_record, a_callmessage, has_place, Cell, cell, Parts, no_parts, gap, part, part_at, place, set_part, size, opens, inside, change_inside, change_part, cell_at, set_at, behind_gaps, readable_of, read_at, change_readable, change_behind, change_from, change_at}
use Rattle.herm_model.specs.Finalising.{waits, finalised, finalised_in, pending, pending_in}
use Rattle.herm_model.proofs.Lists.{total-append, not_true}
use Rattle.herm_model.proofs.NothingThere.{none-read}
use Rattle.herm_model.proofs.Places.{set_at-none}

-- the cells that do not wait to be finalised weigh what their names do
abbrev pub SparesPlain : (Kind → ℕ) → Type 0
SparesPlain x = (k : Kind) → IsFalse (waits k) → x k ≡ 0

-- no kind weighs anything
abbrev pub weightless : Kind → ℕ
weightless k = 0

module _ {N : Type 0} (w : N → ℕ) (x : Kind → ℕ) where
  abbrev mutual
    pub load : Cell N → ℕ
    load (cell n k ps) = w n + x k + load_in ps

    pub load_in : Parts N → ℕ
    load_in no_parts = 0
    load_in (gap ps) = load_in ps
    load_in (part c ps) = load c + load_in ps

  abbrev pub load_all : List (Cell N) → ℕ
  load_all cs = total load cs

  abbrev pub load_option : Option (Cell N) → ℕ
  load_option None = 0
  load_option (Some c) = load c

module _ {N : Type 0} (w : N → ℕ) (x : Kind → ℕ) where
  -- a target gets a cell or nothing
  load-place : (o : Option (Cell N)) (ps : Parts N) → load_in w x (place o ps) ≡ load_option w x o + load_in w x ps
  load-place None ps = omega arith
  load-place (Some c) ps = refl

  load-set_part : (i : ℕ) (o : Option (Cell N)) (ps : Parts N) → i < size ps → load_in w x (set_part i o ps) + load_option w x (part_at i ps) ≡ load_in w x ps + load_option w x o
  load-set_part i o no_parts h = absurd (omega arith)
  load-set_part zero o (gap ps) h = omega (arith, load-place o ps)
  load-set_part zero o (part c ps) h = omega (arith, load-place o ps)
  load-set_part (suc i) o (gap ps) h = load-set_part i o ps (omega arith)
  load-set_part (suc i) o (part c ps) h = omega (arith, load-set_part i o ps (omega arith))

  load-change_part : (i a b : ℕ) (g : Cell N → Cell N) (ps : Parts N) → load_option w x (option_map g (part_at i ps)) + a ≡ load_option w x (part_at i ps) + b → load_in w x (change_part i g ps) + a ≡ load_in w x ps + b
  load-change_part i a b g no_parts e = e
  load-change_part zero a b g (gap ps) e = omega (arith, e)
  load-change_part zero a b g (part c ps) e = omega (arith, e)
  load-change_part (suc i) a b g (gap ps) e = load-change_part i a b g ps e
  load-change_part (suc i) a b g (part c ps) e = omega (arith, load-change_part i a b g ps e)

  load-inside : (h : Parts N → Parts N) (a b : ℕ) (o : Option (Cell N)) → h no_parts ≡ no_parts → load_in w x (h (inside o)) + a ≡ load_in w x (inside o) + b → load_option w x (option_map (change_inside h) o) + a ≡ load_option w x o + b
  load-inside h a b None e f = subst (λ ps. load_in w x ps + a ≡ 0 + b) e f
  load-inside h a b (Some (cell n k ps)) e f = by (opens k) f
    where
      by : (t : Bool) → load_in w x (h (cond t ps no_parts)) + a ≡ load_in w x (cond t ps no_parts) + b → w n + x k + load_in w x (cond t (h ps) ps) + a ≡ w n + x k + load_in w x ps + b
      by true f = omega (arith, f)
      by false f = let z : 0 + a ≡ 0 + b = subst (λ qs. load_in w x qs + a ≡ 0 + b) e f in omega (arith, z)

  pub weigh-set_at : (p : Path) (o : Option (Cell N)) (ps : Parts N) → has_place ps p ≡ true
      → load_in w x (set_at p o ps) + load_option w x (cell_at p ps) ≡ load_in w x ps + load_option w x o
  weigh-set_at [] o ps h = not_true h
  weigh-set_at (i ∷ []) o ps h = load-set_part i o ps (ltb-true i (size ps) h)
  weigh-set_at (i ∷ j ∷ p) o ps h =
      load-change_part i (load_option w x (cell_at (j ∷ p) (inside (part_at i ps)))) (load_option w x o) (change_inside (set_at (j ∷ p) o)) ps
      (load-inside (set_at (j ∷ p) o) (load_option w x (cell_at (j ∷ p) (inside (part_at i ps)))) (load_option w x o) (part_at i ps) (set_at-none (j ∷ p) o) (weigh-set_at (j ∷ p) o (inside (part_at i ps)) h))

  -- what is taken out of a path
  load-clear_part : (i : ℕ) (ps : Parts N) → load_in w x (set_part i None ps) + load_option w x (part_at i ps) ≡ load_in w x ps + 0
  load-clear_part i no_parts = refl
  load-clear_part zero (gap ps) = omega arith
  load-clear_part zero (part c ps) = omega arith
  load-clear_part (suc i) (gap ps) = load-clear_part i ps
  load-clear_part (suc i) (part c ps) = omega (arith, load-clear_part i ps)

  load-clear_at : (p : Path) (ps : Parts N) → load_in w x (set_at p None ps) + load_option w x (cell_at p ps) ≡ load_in w x ps + 0
  load-clear_at [] ps = refl
  load-clear_at (i ∷ []) ps = load-clear_part i ps
  load-clear_at (i ∷ j ∷ p) ps =
      load-change_part i (load_option w x (cell_at (j ∷ p) (inside (part_at i ps)))) 0 (change_inside (set_at (j ∷ p) None)) ps
      (load-inside (set_at (j ∷ p) None) (load_option w x (cell_at (j ∷ p) (inside (part_at i ps)))) 0 (part_at i ps) (set_at-none (j ∷ p) None) (load-clear_at (j ∷ p) (inside (part_at i ps))))

  pub weigh-clear_at : (p : Path) (ps : Parts N) → load_in w x (set_at p None ps) + load_option w x (cell_at p ps) ≡ load_in w x ps
  weigh-clear_at p ps = omega (arith, load-clear_at p ps)

  -- what is finalised and what waits are together the whole
  load-own : (spares : SparesPlain x) (b : Bool) (n : N) (k : Kind) → waits k ≡ b → (fs : List N) (qs : List (Cell N)) (a : ℕ)
      → a ≡ total w fs + load_all w x qs → w n + x k + a ≡ total w (cond b [] (n ∷ []) ++ fs) + load_all w x (cond b (cell n k no_parts ∷ []) [] ++ qs)
  load-own spares true n k is fs qs a e = omega (arith, e)
  load-own spares false n k is fs qs a e = omega (arith, e, spares k is)

  mutual
    pub load-finalised : SparesPlain x → (c : Cell N) → load w x c ≡ total w (finalised c) + load_all w x (pending c)
    load-finalised spares (cell n k ps) = load-own spares (waits k) n k refl (finalised_in ps) (pending_in ps) (load_in w x ps) (load-finalised_in spares ps)

    load-finalised_in : SparesPlain x → (ps : Parts N) → load_in w x ps ≡ total w (finalised_in ps) + load_all w x (pending_in ps)
    load-finalised_in spares no_parts = omega arith
    load-finalised_in spares (gap ps) = load-finalised_in spares ps
    load-finalised_in spares (part c ps) =
        omega (arith, load-finalised spares c, load-finalised_in spares ps, total-append w (finalised c) (finalised_in ps), total-append (load w x) (pending c) (pending_in ps))

  pub weigh-finalised : SparesPlain x → (c : Cell N) → load_all w x (pending c) + total w (finalised c) ≡ load w x c
  weigh-finalised spares c = omega (arith, load-finalised spares c)

  pub weigh-finalised_in : SparesPlain x → (ps : Parts N) → load_all w x (pending_in ps) + total w (finalised_in ps) ≡ load_in w x ps
  weigh-finalised_in spares ps = omega (arith, load-finalised_in spares ps)

-- a change of the cell that is read at a path
module _ {N : Type 0} (w : N → ℕ) (x : Kind → ℕ) (g : Cell N → Cell N) (a b : ℕ) where
  load-change_behind : (i j : ℕ) (f : Cell N → Cell N) (ps : Parts N) → load_option w x (option_map f (part_at j (behind_gaps i ps))) + a ≡ load_option w x (part_at j (behind_gaps i ps)) + b → load_in w x (change_behind i j f ps) + a ≡ load_in w x ps + b
  load-change_behind zero j f ps e = load-change_part w x j a b f ps e
  load-change_behind (suc i) zero f ps e = omega (arith, e)
  load-change_behind (suc i) (suc j) f ps e = load-change_behind i j f ps e

  abbrev Changes : List ℕ → Type 0
  Changes p = (i : ℕ) (ps : Parts N) → load_option w x (option_map g (read_at p (behind_gaps i ps))) + a ≡ load_option w x (read_at p (behind_gaps i ps)) + b → load_in w x (change_from p g i ps) + a ≡ load_in w x ps + b

  no-change : (j : ℕ) (p : Path) → load_option w x (option_map g (read_at (j ∷ p) no_parts)) + a ≡ load_option w x (read_at (j ∷ p) no_parts) + b → a ≡ b
  no-change j p e = let z : 0 + a ≡ 0 + b = subst (λ o. load_option w x (option_map g o) + a ≡ load_option w x o + b) (none-read (j ∷ p)) e in omega (arith, z)

  load-readable : (j : ℕ) (p : Path) → Changes (j ∷ p) → (o : Option (Cell N)) → load_option w x (option_map g (read_at (j ∷ p) (readable_of o))) + a ≡ load_option w x (read_at (j ∷ p) (readable_of o)) + b
      → load_option w x (option_map (change_readable (change_from (j ∷ p) g)) o) + a ≡ load_option w x o + b
  load-readable j p again None e = let z = no-change j p e in omega (arith, z)
  load-readable j p again (Some (cell n (a_variant c) ps)) e = omega (arith, again c ps e)
  load-readable j p again (Some (cell n a_record ps)) e = omega (arith, again 0 ps e)
  load-readable j p again (Some (cell n (a_callmessage caller call) ps)) e = omega (arith, again 0 ps e)
  load-readable j p again (Some (cell n k ps)) e = let z = no-change j p e in omega (arith, z)

  load-change_from : (j : ℕ) (p : Path) → Changes (j ∷ p)
  load-change_from j [] i ps e = load-change_behind i j g ps e
  load-change_from j (k ∷ p) i ps e = load-change_behind i j (change_readable (change_from (k ∷ p) g)) ps (load-readable k p (load-change_from k p) (part_at j (behind_gaps i ps)) e)

  pub load-change_at : (j : ℕ) (p : Path) (ps : Parts N) → load_option w x (option_map g (read_at (j ∷ p) ps)) + a ≡ load_option w x (read_at (j ∷ p) ps) + b → load_in w x (change_at (j ∷ p) g ps) + a ≡ load_in w x ps + b
  load-change_at j p ps e = load-change_from j p 0 ps e
