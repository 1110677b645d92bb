-- Where types lead only to types behind them, none reaches itself.
use Rattle.std.proofs.Common.{◌≡◌, ◌<◌, ◌≤◌, ℕ, Bool, false, List, length, map, slice_get, IsTrue, is_some, ap, arith}
use Rattle.herm_model.specs.Lists.{IsIn, list_of}
use Rattle.herm_model.specs.Types.{TypeTable, named_types}
use Rattle.herm_model.specs.WellFormedTables.{Reaches, at_once, further}
use Rattle.herm_model.proofs.Lists.{length-map}
use Rattle.herm_types.specs.Table.{says}
use Rattle.herm_graph.specs.Graph.{number_at, AreInOrder}
use Rattle.herm_graph.specs.Met.{SayAllCycles}
use Rattle.herm_graph.proofs.Relations.{next-named}
use Rattle.herm_graph.proofs.Meeting.{there, names-some}

module _ (shapes : TypeTable) (next : List (List ℕ)) (same : next ≡ map named_types shapes) (places : List ℕ) (told : List Bool) (order : AreInOrder next places told) where
  edge : (t u : ℕ) → IsIn u (list_of named_types (slice_get shapes t)) → IsTrue (is_some (slice_get shapes u)) → (number_at places t ≤ number_at places u) × (says told t ≡ false → number_at places t < number_at places u)
  edge t u i known = order t u (next-named shapes next same t u i) (omega (arith, there shapes u known, ap length same, length-map named_types shapes))

  not-before : (t u : ℕ) → Reaches shapes t u → IsTrue (is_some (slice_get shapes u)) → number_at places t ≤ number_at places u
  not-before t u (at_once t' u' i) known = (edge t u i known).0
  not-before t u (further t' v u' i r) known = omega (arith, (edge t v i (names-some shapes v u r)).0, not-before v u r known)

  behind : (t u : ℕ) → says told t ≡ false → Reaches shapes t u → IsTrue (is_some (slice_get shapes u)) → number_at places t < number_at places u
  behind t u f (at_once t' u' i) known = (edge t u i known).1 f
  behind t u f (further t' v u' i r) known = omega (arith, (edge t v i (names-some shapes v u r)).1 f, not-before v u r known)

  pub all-told : SayAllCycles shapes told
  all-told t f cycle = omega (arith, behind t t f cycle (names-some shapes t t cycle))
