-- Stamps above the last one of a list.
use Rattle.std.proofs.Common.{◌<◌, ◌≤◌, ℕ, suc, List, [], ◌∷◌, ◌++◌, arith}
use Rattle.herm_journal.specs.Entries.{Entry}
use Rattle.herm_events.specs.Rising.{IsAboveLast}

-- a greater stamp is above it too
pub above-more : (es : List Entry) (s t : ℕ) → IsAboveLast s es → s ≤ t → IsAboveLast t es
above-more [] s t h le = tt
above-more (e ∷ []) s t h le = omega (arith, h, le)
above-more (e ∷ f ∷ es) s t h le = above-more (f ∷ es) s t h le

-- behind one entry more a stamp is above its
pub above-appended : (es : List Entry) (e : Entry) (t : ℕ) → e.stamp < t → IsAboveLast t (es ++ e ∷ [])
above-appended [] e t h = h
above-appended (d ∷ []) e t h = h
above-appended (d ∷ f ∷ es) e t h = above-appended (f ∷ es) e t h

pub above-self : (es : List Entry) (e : Entry) → IsAboveLast (suc e.stamp) (es ++ e ∷ [])
above-self es e = above-appended es e (suc e.stamp) (omega arith)
