-- One action more: the history still tells what the place holds.
use Rattle.std.proofs.Common.{◌≡◌, ℕ, suc, max, ◌-◌, ◌<◌, List, [], ◌∷◌, ◌++◌, refl, sym, ap, ap₂, subst, ◌∙◌, arith}
use Rattle.herm_journal.specs.PlaceStates.{IsEnabled, after}
use Rattle.herm_journal.specs.Entries.{Place, Record, Entry}
use Rattle.herm_journal.specs.Histories.{Told, Replayed, at_start, after_entry, replay, IsLegal}
use Rattle.herm_runs.proofs.Events.{fits-map, after-map}
use Rattle.herm_queue.specs.LogStates.{LogState, with_action}
use Rattle.herm_queue.specs.CellStates.{CellAction, CellState, Holding, value_text, reply_text, recorded, told, entry_at, IsActed, IsReplayed}

replay-more : (es : List Entry) (e : Entry) (r : Replayed) → replay (es ++ e ∷ []) r ≡ after_entry e (replay es r)
replay-more [] e r = refl
replay-more (x ∷ es) e r = replay-more es e (after_entry x r)

legal-more : (es : List Entry) (e : Entry) (r : Replayed) → IsLegal es r → IsEnabled (replay es r).holding e.action → (replay es r).clock < e.stamp → IsLegal (es ++ e ∷ []) r
legal-more [] e r l fits later = (fits, later, tt)
legal-more (x ∷ es) e r l fits later = (l.0, l.1, legal-more es e (after_entry x r) l.2 fits later)

is-later : (c d : ℕ) → d < suc (max c d)
is-later c d = omega arith

appended-legal : (p c : ℕ) (a : CellAction) (s : CellState) → IsEnabled s.holding a → IsReplayed s → IsLegal (s.entries ++ entry_at p c a s ∷ []) (at_start s.opening)
appended-legal p c a s fits r =
    legal-more s.entries (entry_at p c a s) (at_start s.opening) r.legal
    (subst (λ (x : Replayed). IsEnabled x.holding (recorded a)) (sym r.replayed) (fits-map value_text reply_text s.holding a fits))
    (subst (λ (x : Replayed). x.clock < suc (max c s.clock)) (sym r.replayed) (is-later c s.clock))

appended-replayed : (p c : ℕ) (a : CellAction) (s : CellState) → IsReplayed s → replay (s.entries ++ entry_at p c a s ∷ []) (at_start s.opening) ≡ record { holding = told (after a s.holding); clock = suc (max c s.clock) }
appended-replayed p c a s r =
    replay-more s.entries (entry_at p c a s) (at_start s.opening)
    ∙ ap (after_entry (entry_at p c a s)) r.replayed
    ∙ ap (λ (h : Told). record { holding = h; clock = suc (max c s.clock) }) (sym (after-map value_text reply_text s.holding a))

pub acted-replayed : (p c : ℕ) (a : CellAction) (s t : CellState) → IsActed p c a s t → IsReplayed s → IsReplayed t
acted-replayed p c a s t h r = subst IsReplayed (sym h.after) (record { legal = appended-legal p c a s h.enabled r; replayed = appended-replayed p c a s r })

-- A cell whose fields are written so has been acted on.
pub acts : (p c : ℕ) (a : CellAction) (s : Place) (o : Told) (h h' : Holding) (log log' : LogState) (spare spare' : ℕ) →
    IsEnabled h a → h' ≡ after a h → spare' ≡ spare - 1 → log.place ≡ s → log' ≡ with_action p c (recorded a) log →
    IsActed p c a (record { place = s; opening = o; holding = h; clock = log.clock; entries = log.entries; spare = spare }) (record { place = s; opening = o; holding = h'; clock = log'.clock; entries = log'.entries; spare = spare' })
acts p c a s o h h' log log' spare spare' enabled left one place is = record {
  enabled = enabled;
  after =
      ap (λ (l : LogState). record { place = s; opening = o; holding = h'; clock = l.clock; entries = l.entries; spare = spare' }) is
      ∙ ap₂ (λ (x : Holding) (k : ℕ). record { place = s; opening = o; holding = x; clock = suc (max c log.clock); entries = log.entries ++ record { stamp = suc (max c log.clock); process = p; place = log.place; action = recorded a } ∷ []; spare = k }) left one
      ∙ ap (λ (q : Place). record { place = s; opening = o; holding = after a h; clock = suc (max c log.clock); entries = log.entries ++ record { stamp = suc (max c log.clock); process = p; place = q; action = recorded a } ∷ []; spare = spare - 1 }) place;
}

-- what is known of a log behind an action
pub place-stays : (log log' : LogState) (p c : ℕ) (a : Record) → log' ≡ with_action p c a log → log'.place ≡ log.place
place-stays log log' p c a is = ap (λ (l : LogState). l.place) is

pub clock-rises : (log log' : LogState) (p c : ℕ) (a : Record) → log' ≡ with_action p c a log → log.clock < log'.clock
clock-rises log log' p c a is = subst (λ (l : LogState). log.clock < l.clock) (sym is) (is-later c log.clock)

pub room-falls : (log log' : LogState) (p c : ℕ) (a : Record) → log' ≡ with_action p c a log → log'.room ≡ log.room - 1
room-falls log log' p c a is = ap (λ (l : LogState). l.room) is
