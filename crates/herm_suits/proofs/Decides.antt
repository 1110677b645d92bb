-- The tests of types decide which values a type has.
use Rattle.std.proofs.Common.{ℕ, List, [], ◌∷◌, IsTrue, refl}
use Rattle.herm_model.specs.Types.{TypeTable}
use Rattle.herm_model.specs.Values.{Cell, cell, Parts, no_parts, gap, part}
use Rattle.herm_model.specs.Typed.{Degree, whole, partly, Content, a_value, nothing, Layout, exactly, many, unfit, layout_at, is_bounded_at, MayBeEmpty, IsOf, Fits}
use Rattle.herm_journal.specs.Messages.{AreFull}
use Rattle.herm_model.proofs.Lists.{not_true, and-both, both-and}
use Rattle.herm_suits.specs.Decided.{may_be_empty, is_of, fits, are_full}

empty-may : (x : Content) → IsTrue (may_be_empty x) → MayBeEmpty x
empty-may (a_value whole u) h = not_true h
empty-may (a_value partly u) h = tt
empty-may nothing h = tt

may-empty : (x : Content) → MayBeEmpty x → IsTrue (may_be_empty x)
may-empty (a_value whole u) h = absurd h
may-empty (a_value partly u) h = refl
may-empty nothing h = refl

module _ {N : Type 0} (table : TypeTable) where
  mutual
    pub decided-of : (d : Degree) (t : ℕ) (c : Cell N) → IsTrue (is_of d table t c) → IsOf d table t c
    decided-of d t (cell n k ps) h = let b = and-both (fits table (layout_at d table t k) ps) (is_bounded_at table t ps) h in (decided-fits (layout_at d table t k) ps b.0, b.1)

    decided-fits : (l : Layout) (ps : Parts N) → IsTrue (fits table l ps) → Fits table l ps
    decided-fits (exactly []) no_parts h = tt
    decided-fits (exactly []) (gap ps) h = not_true h
    decided-fits (exactly []) (part c ps) h = not_true h
    decided-fits (exactly (x ∷ xs)) no_parts h = not_true h
    decided-fits (exactly (x ∷ xs)) (gap ps) h = let b = and-both (may_be_empty x) (fits table (exactly xs) ps) h in (empty-may x b.0, decided-fits (exactly xs) ps b.1)
    decided-fits (exactly (a_value d u ∷ xs)) (part c ps) h = let b = and-both (is_of d table u c) (fits table (exactly xs) ps) h in (decided-of d u c b.0, decided-fits (exactly xs) ps b.1)
    decided-fits (exactly (nothing ∷ xs)) (part c ps) h = not_true h
    decided-fits (many u) no_parts h = tt
    decided-fits (many u) (gap ps) h = not_true h
    decided-fits (many u) (part c ps) h = let b = and-both (is_of whole table u c) (fits table (many u) ps) h in (decided-of whole u c b.0, decided-fits (many u) ps b.1)
    decided-fits unfit ps h = not_true h

  mutual
    pub of-decided : (d : Degree) (t : ℕ) (c : Cell N) → IsOf d table t c → IsTrue (is_of d table t c)
    of-decided d t (cell n k ps) h = both-and (fits table (layout_at d table t k) ps) (is_bounded_at table t ps) (fits-decided (layout_at d table t k) ps h.0) h.1

    fits-decided : (l : Layout) (ps : Parts N) → Fits table l ps → IsTrue (fits table l ps)
    fits-decided (exactly []) no_parts h = refl
    fits-decided (exactly []) (gap ps) h = absurd h
    fits-decided (exactly []) (part c ps) h = absurd h
    fits-decided (exactly (x ∷ xs)) no_parts h = absurd h
    fits-decided (exactly (x ∷ xs)) (gap ps) h = both-and (may_be_empty x) (fits table (exactly xs) ps) (may-empty x h.0) (fits-decided (exactly xs) ps h.1)
    fits-decided (exactly (a_value d u ∷ xs)) (part c ps) h = both-and (is_of d table u c) (fits table (exactly xs) ps) (of-decided d u c h.0) (fits-decided (exactly xs) ps h.1)
    fits-decided (exactly (nothing ∷ xs)) (part c ps) h = absurd h
    fits-decided (many u) no_parts h = refl
    fits-decided (many u) (gap ps) h = absurd h
    fits-decided (many u) (part c ps) h = both-and (is_of whole table u c) (fits table (many u) ps) (of-decided whole u c h.0) (fits-decided (many u) ps h.1)
    fits-decided unfit ps h = absurd h

  pub decided-full : (ts : List ℕ) (cs : List (Cell N)) → IsTrue (are_full table ts cs) → AreFull table ts cs
  decided-full [] [] h = tt
  decided-full [] (c ∷ cs) h = not_true h
  decided-full (t ∷ ts) [] h = not_true h
  decided-full (t ∷ ts) (c ∷ cs) h = let b = and-both (is_of whole table t c) (are_full table ts cs) h in (decided-of whole t c b.0, decided-full ts cs b.1)

  pub full-decided : (ts : List ℕ) (cs : List (Cell N)) → AreFull table ts cs → IsTrue (are_full table ts cs)
  full-decided [] [] h = refl
  full-decided [] (c ∷ cs) h = absurd h
  full-decided (t ∷ ts) [] h = absurd h
  full-decided (t ∷ ts) (c ∷ cs) h = both-and (is_of whole table t c) (are_full table ts cs) (of-decided whole t c h.0) (full-decided ts cs h.1)
