-- What the names of values weigh behind a change, and what is finalised of them and what waits.
use Rattle.std.proofs.Common.{◌≡◌, ℕ, ◌+◌, List, [], ◌∷◌, flat_map, Option, Some, None, option_map, IsTrue, refl, arith}
use Rattle.herm_model.specs.Lists.{total, list_of}
use Rattle.herm_model.specs.Paths.{Path}
use Rattle.herm_model.specs.Values.{Cell, cell, Parts, no_parts, gap, part, cell_at, read_at, has_place, set_at, change_at}
use Rattle.herm_model.specs.CellNames.{names_of, names_in}
use Rattle.herm_model.specs.Finalising.{finalised, pending}
use Rattle.herm_model.proofs.Lists.{total-append}
use Rattle.herm_model.proofs.Loads
use Rattle.herm_model.proofs.Loads.{load, load_in, load_all, load_option, load-finalised, load-change_at, weightless}

module _ {N : Type 0} (w : N → ℕ) where
  abbrev own : Option (Cell N) → ℕ
  own o = total w (list_of names_of o)

  -- without a weight for kinds it is the weight of the names
  mutual
    names-load : (c : Cell N) → load w weightless c ≡ total w (names_of c)
    names-load (cell n k ps) = omega (arith, names-load_in ps)

    names-load_in : (ps : Parts N) → load_in w weightless ps ≡ total w (names_in ps)
    names-load_in no_parts = refl
    names-load_in (gap ps) = names-load_in ps
    names-load_in (part c ps) = omega (arith, names-load c, names-load_in ps, total-append w (names_of c) (names_in ps))

  names-own : (o : Option (Cell N)) → load_option w weightless o ≡ own o
  names-own None = refl
  names-own (Some c) = omega (arith, names-load c, total-append w (names_of c) [])

  names-all : (cs : List (Cell N)) → load_all w weightless cs ≡ total w (flat_map names_of cs)
  names-all [] = refl
  names-all (c ∷ cs) = omega (arith, names-load c, names-all cs, total-append w (names_of c) (flat_map names_of cs))

  -- what is set at a path comes in place of what was there
  pub weigh-set_at : (p : Path) (o : Option (Cell N)) (ps : Parts N) → IsTrue (has_place ps p) → total w (names_in (set_at p o ps)) + own (cell_at p ps) ≡ total w (names_in ps) + own o
  weigh-set_at p o ps h = omega (arith, Loads.weigh-set_at w weightless p o ps h, names-load_in (set_at p o ps), names-own (cell_at p ps), names-load_in ps, names-own o)

  -- what is finalised and what waits are all that was there
  pub weigh-finalised : (c : Cell N) → total w (names_of c) ≡ total w (finalised c) + total w (flat_map names_of (pending c))
  weigh-finalised c = omega (arith, load-finalised w weightless (λ k plain. refl) c, names-load c, names-all (pending c))

  pub weigh-change_at : (g : Cell N → Cell N) (a b j : ℕ) (p : Path) (ps : Parts N) → own (option_map g (read_at (j ∷ p) ps)) + a ≡ own (read_at (j ∷ p) ps) + b → total w (names_in (change_at (j ∷ p) g ps)) + a ≡ total w (names_in ps) + b
  weigh-change_at g a b j p ps e =
      let loads : load_option w weightless (option_map g (read_at (j ∷ p) ps)) + a ≡ load_option w weightless (read_at (j ∷ p) ps) + b = omega (arith, e, names-own (option_map g (read_at (j ∷ p) ps)), names-own (read_at (j ∷ p) ps)) in
      omega (arith, load-change_at w weightless g a b j p ps loads, names-load_in (change_at (j ∷ p) g ps), names-load_in ps)
