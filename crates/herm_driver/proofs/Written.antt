-- Texts that are put by way of a buffer and then written.
use Rattle.std.proofs.Common.{◌≡◌, ℕ, List, [], ◌++◌, Option, Some, None, refl, ap, sym, ◌∙◌, subst, true≢false}
use Rattle.std.proofs.lemmas.List.{append-nil}
use Rattle.std.specs.Prelude.{Result, Ok, Err, IsErr, MatchResult, ⊤}
use Rattle.herm_edge.specs.Sink.{written_after}
use Rattle.herm_edge.specs.Buffered.{IsUnderWay, IsCut, IsPut, IsFlushed}
use Rattle.herm_edge.specs.declared.buffered.Unwritten.{Unwritten}
use Rattle.herm_edge.proofs.Putting.{put-cut, put-behind, put-both, put-nothing}

after-nothing : (before : Option (List ℕ)) → before ≡ written_after before []
after-nothing None = refl
after-nothing (Some bytes) = ap Some (sym (append-nil bytes))

-- no text is under way where nothing is held
nothing-yet : (before : Option (List ℕ)) (held : List ℕ) → held ≡ [] → IsUnderWay before [] before held
nothing-yet before held empty = record { out = []; written_is = after-nothing before; whole = empty }

-- to write what is held is to put nothing behind it, after which nothing is held
flush-put : (held : List ℕ) (written after : Option (List ℕ)) (count after_count : ℕ) (result : Result ⊤ Unwritten) → IsFlushed written after count after_count held result → IsPut [] written after count after_count held [] result
flush-put held written after count after_count (Ok done) h = put-behind [] held [] written after after count after_count after_count (Ok done) h (put-nothing after after_count [])
flush-put held written after count after_count (Err e) h = put-cut [] held [] written after count after_count e (Err e) refl h

-- what is put from nothing held to nothing held is written
put-flush : (bytes held : List ℕ) (written after : Option (List ℕ)) (count after_count : ℕ) (result : Result ⊤ Unwritten) → held ≡ [] → IsPut bytes written after count after_count held [] result → IsFlushed written after count after_count bytes result
put-flush bytes held written after count after_count result empty h = record { counted = h.counted; flushed = by result (h.put written [] (nothing-yet written held empty)) }
  where
    by : (r : Result ⊤ Unwritten) → MatchResult r (λ _. IsUnderWay written bytes after []) (λ _. IsCut written bytes after) → MatchResult r (λ _. after ≡ written_after written bytes) (λ _. IsCut written bytes after)
    by (Ok done) way = way.written_is ∙ ap (written_after written) (sym (append-nil way.out) ∙ way.whole)
    by (Err e) cut = cut

-- bytes that are put, and then written with all that is held, are written
pub flushed-behind : (bytes held between_held : List ℕ) (written between after : Option (List ℕ)) (count between_count after_count : ℕ) (result : Result ⊤ Unwritten) → held ≡ []
    → IsPut bytes written between count between_count held between_held (Ok tt) → IsFlushed between after between_count after_count between_held result → IsFlushed written after count after_count bytes result
flushed-behind bytes held between_held written between after count between_count after_count result empty h g =
    subst (λ xs. IsFlushed written after count after_count xs result) (append-nil bytes)
    (put-flush (bytes ++ []) held written after count after_count result empty
    (put-both bytes [] held between_held [] written between after count between_count after_count result h (flush-put between_held between after between_count after_count result g)))

-- bytes that are cut while they are put are cut
pub flushed-short : (bytes held after_held : List ℕ) (written after : Option (List ℕ)) (count after_count : ℕ) (e : Unwritten) (result : Result ⊤ Unwritten) → IsErr result → held ≡ []
    → IsPut bytes written after count after_count held after_held (Err e) → IsFlushed written after count after_count bytes result
flushed-short bytes held after_held written after count after_count e (Ok done) err empty h = absurd (true≢false (sym err))
flushed-short bytes held after_held written after count after_count e (Err d) err empty h = record { counted = h.counted; flushed = h.put written [] (nothing-yet written held empty) }
