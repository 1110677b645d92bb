-- Entries of one process, or at one place, with one more behind them.
use Rattle.std.proofs.Common.{◌≡◌, ℕ, List, [], ◌∷◌, ◌++◌, sym, subst, inl}
use Rattle.std.proofs.lemmas.List.{map-append}
use Rattle.std.proofs.lemmas.List.Elements.{All-nil, All-cons, All-append}
use Rattle.herm_journal.specs.Entries.{Place, Entry}
use Rattle.herm_journal.specs.Journals.{IsRising, IsRisingFrom}
use Rattle.herm_events.specs.declared.entry.Entry as declared
use Rattle.herm_events.specs.View.{entry_view, entries_view}
use Rattle.herm_events.specs.Rising.{RiseFrom, StampsRise, IsAboveLast, AreOfProcess, AreOfPlace}

rise_from_appended : (s : ℕ) (d : Entry) (es : List Entry) (e : Entry) → RiseFrom s (d ∷ es) → IsAboveLast e.stamp (d ∷ es) → RiseFrom s ((d ∷ es) ++ e ∷ [])
rise_from_appended s d [] e h above = (h.0, (above, tt))
rise_from_appended s d (f ∷ es) e h above = (h.0, rise_from_appended d.stamp f es e h.1 above)

rise_appended : (es : List Entry) (e : Entry) → StampsRise es → IsAboveLast e.stamp es → StampsRise (es ++ e ∷ [])
rise_appended [] e h above = tt
rise_appended (d ∷ []) e h above = (above, tt)
rise_appended (d ∷ f ∷ es) e h above = rise_from_appended d.stamp f es e h above

process_appended : (p : ℕ) (es : List Entry) (e : Entry) → AreOfProcess p es → e.process ≡ p → IsAboveLast e.stamp es → AreOfProcess p (es ++ e ∷ [])
process_appended p es e h same above = record {
  same = All-append (λ (d : Entry). d.process ≡ p) es (e ∷ []) h.same (All-cons (λ (d : Entry). d.process ≡ p) e [] same (All-nil (λ (d : Entry). d.process ≡ p)));
  rising = rise_appended es e h.rising above;
}

place_appended : (s : Place) (es : List Entry) (e : Entry) → AreOfPlace s es → e.place ≡ s → IsAboveLast e.stamp es → AreOfPlace s (es ++ e ∷ [])
place_appended s es e h same above = record {
  same = All-append (λ (d : Entry). d.place ≡ s) es (e ∷ []) h.same (All-cons (λ (d : Entry). d.place ≡ s) e [] same (All-nil (λ (d : Entry). d.place ≡ s)));
  rising = rise_appended es e h.rising above;
}

-- the same of entries as the code has them
pub diary_pushed : (p : ℕ) (es new : List declared.Entry) (e : declared.Entry) → new ≡ es ++ e ∷ [] → AreOfProcess p (entries_view es) → (entry_view e).process ≡ p → IsAboveLast (entry_view e).stamp (entries_view es) → AreOfProcess p (entries_view new)
diary_pushed p es new e is h same above = subst (λ xs. AreOfProcess p (entries_view xs)) (sym is) (subst (AreOfProcess p) (sym (map-append entry_view es (e ∷ []))) (process_appended p (entries_view es) (entry_view e) h same above))

pub history_pushed : (s : Place) (es new : List declared.Entry) (e : declared.Entry) → new ≡ es ++ e ∷ [] → AreOfPlace s (entries_view es) → (entry_view e).place ≡ s → IsAboveLast (entry_view e).stamp (entries_view es) → AreOfPlace s (entries_view new)
history_pushed s es new e is h same above = subst (λ xs. AreOfPlace s (entries_view xs)) (sym is) (subst (AreOfPlace s) (sym (map-append entry_view es (e ∷ []))) (place_appended s (entries_view es) (entry_view e) h same above))

-- entries with rising stamps are in the order of a journal
rise_is_rising_from : (d : Entry) (es : List Entry) → RiseFrom d.stamp es → IsRisingFrom d es
rise_is_rising_from d [] h = tt
rise_is_rising_from d (e ∷ es) h = (inl h.0, rise_is_rising_from e es h.1)

pub rise_is_rising : (es : List Entry) → StampsRise es → IsRising es
rise_is_rising [] h = tt
rise_is_rising (e ∷ es) h = rise_is_rising_from e es h
