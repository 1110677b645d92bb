-- How many cells of certain kinds there are is what they weigh by their kinds.
use Rattle.std.proofs.Common.{◌≡◌, ℕ, zero, suc, ◌+◌, List, [], ◌∷◌, flat_map, Bool, true, false, cond, None, refl, sym, ◌∙◌, arith, length, true≢false}
use Rattle.std.specs.Prelude.{filter, IsTrue, IsFalse}
use Rattle.herm_model.specs.Lists.{total}
use Rattle.herm_model.specs.Values.{Name, Kind, Cell, cell, Parts, no_parts, gap, part}
use Rattle.herm_model.specs.Finalising.{waits}
use Rattle.herm_model.proofs.Lists.{total-append}
use Rattle.herm_journal.specs.Actions.{values, raised, gone, put, take, close, hear}
use Rattle.herm_journal.specs.Messages.{CellReply, CellAction, cells_in}
use Rattle.herm_forms.specs.Frames.{Loop}
use Rattle.herm_model.proofs.Loads.{SparesPlain, load, load_in, load_all}
use Rattle.herm_forms.proofs.Loads.{load_reply, load_coming, load_loops}
use Rattle.herm_journal.specs.Weights.{weigh_serials}
use Rattle.herm_system.specs.Summary.{how_many}
use Rattle.herm_system.specs.Kinds.{kinds_of, kinds_in}
use Rattle.herm_runs.specs.Counting.{kinds_coming, IsOfWaiting}

-- names weigh nothing, and kinds 1 where the test holds
abbrev pub nameless : Name → ℕ
nameless n = 0

module _ (test : Kind → Bool) where
  abbrev pub one_of : Kind → ℕ
  one_of k = cond (test k) 1 0

  pub spares : IsOfWaiting test → SparesPlain one_of
  spares of k is = by (test k) (of k) is
    where
      by : (t : Bool) → (IsTrue t → IsTrue (waits k)) → IsFalse (waits k) → ◌≡◌ {A = ℕ} (cond t 1 0) 0
      by true on is = absurd (true≢false (sym (on refl) ∙ is))
      by false on is = refl

  pub many : (ks : List Kind) → how_many test ks ≡ total one_of ks
  many [] = refl
  many (k ∷ ks) = by (test k) (many ks)
    where
      by : (t : Bool) → how_many test ks ≡ total one_of ks → length (cond t (k ∷ filter test ks) (filter test ks)) ≡ cond t 1 0 + total one_of ks
      by true e = omega (arith, e)
      by false e = omega (arith, e)

  mutual
    kinds-load : (c : Cell Name) → load nameless one_of c ≡ total one_of (kinds_of c)
    kinds-load (cell n k ps) = omega (arith, kinds-load_in ps)

    pub kinds-load_in : (ps : Parts Name) → load_in nameless one_of ps ≡ total one_of (kinds_in ps)
    kinds-load_in no_parts = refl
    kinds-load_in (gap ps) = kinds-load_in ps
    kinds-load_in (part c ps) = omega (arith, kinds-load c, kinds-load_in ps, total-append one_of (kinds_of c) (kinds_in ps))

  pub kinds-load_all : (cs : List (Cell Name)) → load_all nameless one_of cs ≡ total one_of (flat_map kinds_of cs)
  kinds-load_all [] = refl
  kinds-load_all (c ∷ cs) = omega (arith, kinds-load c, kinds-load_all cs, total-append one_of (kinds_of c) (flat_map kinds_of cs))

  kinds-load_reply : (r : CellReply Name) → load_reply nameless one_of r ≡ total one_of (flat_map kinds_of (cells_in r))
  kinds-load_reply (values cs) = kinds-load_all cs
  kinds-load_reply (raised e cs) = kinds-load_all cs
  kinds-load_reply gone = refl

  pub kinds-load_loops : (loops : List (Loop Name)) → load_loops nameless one_of loops ≡ total one_of (flat_map (λ (l : Loop Name). kinds_in l.rows) loops)
  kinds-load_loops [] = refl
  kinds-load_loops (l ∷ loops) = omega (arith, kinds-load_in l.rows, kinds-load_loops loops, total-append one_of (kinds_in l.rows) (flat_map (λ (l : Loop Name). kinds_in l.rows) loops))

  pub of-cell : (c : Cell Name) → how_many test (kinds_of c) ≡ load nameless one_of c
  of-cell c = many (kinds_of c) ∙ sym (kinds-load c)

  of-cells : (cs : List (Cell Name)) → how_many test (flat_map kinds_of cs) ≡ load_all nameless one_of cs
  of-cells cs = many (flat_map kinds_of cs) ∙ sym (kinds-load_all cs)

  pub of-reply : (r : CellReply Name) → how_many test (flat_map kinds_of (cells_in r)) ≡ load_reply nameless one_of r
  of-reply r = many (flat_map kinds_of (cells_in r)) ∙ sym (kinds-load_reply r)

  pub of-coming : (a : CellAction Name) → how_many test (kinds_coming a) ≡ load_coming nameless one_of a
  of-coming (put None m) = of-cell m
  of-coming (take k m) = of-cell m
  of-coming (close count left) = of-cells left
  of-coming (hear call r) = of-reply r
  of-coming a = refl

  pub nothing-finalised : (ns : List Name) → total nameless ns ≡ 0
  nothing-finalised [] = refl
  nothing-finalised (n ∷ ns) = omega (arith, nothing-finalised ns)

  pub nothing-made : (names : ℕ → Name) (s n : ℕ) → weigh_serials nameless names s n ≡ 0
  nothing-made names s zero = refl
  nothing-made names s (suc n) = omega (arith, nothing-made names (suc s) n)
