-- Pieces that are put one behind another.
use Rattle.std.proofs.Common.{◌≡◌, ℕ, suc, zero, ◌+◌, ◌≤◌, List, [], ◌∷◌, ◌++◌, Option, Some, None, take, length, refl, ap, sym, ◌∙◌, subst, true≢false, arith}
use Rattle.std.proofs.lemmas.List.{append_assoc, append-nil}
use Rattle.std.specs.Prelude.{Result, Ok, Err, IsErr, MatchResult, ⊤}
use Rattle.herm_edge.specs.Sink.{written_after}
use Rattle.herm_edge.specs.Buffered.{IsUnderWay, IsCut, IsCounted, IsPut, IsFlushed}
use Rattle.herm_edge.specs.declared.buffered.Unwritten.{Unwritten}

after-both : (before : Option (List ℕ)) (xs ys : List ℕ) → written_after (written_after before xs) ys ≡ written_after before (xs ++ ys)
after-both None xs ys = refl
after-both (Some bytes) xs ys = ap Some (append_assoc bytes xs ys)

take-front : {X : Type 0} (xs ys : List X) (n : ℕ) → n ≤ length xs → take n (xs ++ ys) ≡ take n xs
take-front [] ys zero h = refl
take-front [] ys (suc n) h = absurd (omega (arith, h))
take-front (x ∷ xs) ys zero h = refl
take-front (x ∷ xs) ys (suc n) h = ap (λ zs. x ∷ zs) (take-front xs ys n (omega (arith, h)))

take-behind : {X : Type 0} (xs ys : List X) (n : ℕ) → take (length xs + n) (xs ++ ys) ≡ xs ++ take n ys
take-behind [] ys n = ap (λ k. take k ys) (let e : 0 + n ≡ n = omega arith in e)
take-behind (x ∷ xs) ys n = ap (λ k. take k (x ∷ xs ++ ys)) (let e : suc (length xs) + n ≡ suc (length xs + n) = omega arith in e) ∙ ap (λ zs. x ∷ zs) (take-behind xs ys n)

length-both : {X : Type 0} (xs ys : List X) → length (xs ++ ys) ≡ length xs + length ys
length-both [] ys = omega arith
length-both (x ∷ xs) ys = let again = length-both xs ys in omega (arith, again)

-- what is cut is cut with more behind it
cut-more : (before : Option (List ℕ)) (text more : List ℕ) (after : Option (List ℕ)) → IsCut before text after → IsCut before (text ++ more) after
cut-more before text more after cut = record {
  count = cut.count;
  short = let l = length-both text more in omega (arith, cut.short, l);
  written_is = cut.written_is ∙ ap (written_after before) (sym (take-front text more cut.count (omega (arith, cut.short))));
}

-- what is cut behind some bytes is cut
cut-behind : (before written after : Option (List ℕ)) (out bytes : List ℕ) → written ≡ written_after before out → IsCut written bytes after → IsCut before (out ++ bytes) after
cut-behind before written after out bytes is cut = record {
  count = length out + cut.count;
  short = let l = length-both out bytes in omega (arith, cut.short, l);
  written_is = cut.written_is ∙ (ap (λ w. written_after w (take cut.count bytes)) is ∙ (after-both before out (take cut.count bytes) ∙ ap (written_after before) (sym (take-behind out bytes cut.count))));
}

-- what is written at once is put, where nothing is held
pub put-at-once : (bytes : List ℕ) (written after : Option (List ℕ)) (count after_count : ℕ) (held : List ℕ) (result : Result ⊤ Unwritten) → held ≡ [] → IsFlushed written after count after_count bytes result → IsPut bytes written after count after_count [] held result
put-at-once bytes written after count after_count held result empty h = record { counted = h.counted; put = λ before text way. by before text way result h.flushed }
  where
    by : (before : Option (List ℕ)) (text : List ℕ) (way : IsUnderWay before text written []) (r : Result ⊤ Unwritten) → MatchResult r (λ _. after ≡ written_after written bytes) (λ _. IsCut written bytes after)
        → MatchResult r (λ _. IsUnderWay before (text ++ bytes) after held) (λ _. IsCut before (text ++ bytes) after)
    by before text way (Ok done) is = record {
      out = way.out ++ bytes;
      written_is = is ∙ (ap (λ w. written_after w bytes) way.written_is ∙ after-both before way.out bytes);
      whole = ap (λ h. (way.out ++ bytes) ++ h) empty ∙ (append-nil (way.out ++ bytes) ∙ ap (λ xs. xs ++ bytes) (sym (append-nil way.out) ∙ way.whole));
    }
    by before text way (Err e) cut = subst (λ xs. IsCut before (xs ++ bytes) after) (sym (append-nil way.out) ∙ way.whole) (cut-behind before written after way.out bytes way.written_is cut)

-- where what is held is cut, so is what is put behind it
pub put-cut : (bytes held after_held : List ℕ) (written after : Option (List ℕ)) (count after_count : ℕ) (e : Unwritten) (result : Result ⊤ Unwritten) → IsErr result → IsFlushed written after count after_count held (Err e) → IsPut bytes written after count after_count held after_held result
put-cut bytes held after_held written after count after_count e (Ok done) err h = absurd (true≢false (sym err))
put-cut bytes held after_held written after count after_count e (Err d) err h = record {
  counted = h.counted;
  put = λ before text way. cut-more before text bytes after (subst (λ xs. IsCut before xs after) way.whole (cut-behind before written after way.out held way.written_is h.flushed));
}

-- bytes are put behind what was held and is written
pub put-behind : (bytes held after_held : List ℕ) (written between after : Option (List ℕ)) (count between_count after_count : ℕ) (result : Result ⊤ Unwritten)
    → IsFlushed written between count between_count held (Ok tt) → IsPut bytes between after between_count after_count [] after_held result → IsPut bytes written after count after_count held after_held result
put-behind bytes held after_held written between after count between_count after_count result h g = record {
  counted = subst (λ n. IsCounted n after_count result) h.counted.1 g.counted;
  put = λ before text way. g.put before text (record {
    out = text;
    written_is = h.flushed ∙ (ap (λ w. written_after w held) way.written_is ∙ (after-both before way.out held ∙ ap (written_after before) way.whole));
    whole = append-nil text;
  });
}

-- pieces are put one behind another
pub put-both : (bytes more held between_held after_held : List ℕ) (written between after : Option (List ℕ)) (count between_count after_count : ℕ) (result : Result ⊤ Unwritten)
    → IsPut bytes written between count between_count held between_held (Ok tt) → IsPut more between after between_count after_count between_held after_held result → IsPut (bytes ++ more) written after count after_count held after_held result
put-both bytes more held between_held after_held written between after count between_count after_count result h g = record {
  counted = subst (λ n. IsCounted n after_count result) h.counted.1 g.counted;
  put = λ before text way. subst (λ xs. MatchResult result (λ _. IsUnderWay before xs after after_held) (λ _. IsCut before xs after)) (append_assoc text bytes more) (g.put before (text ++ bytes) (h.put before text way));
}

-- where a piece is cut, so is one behind it
pub put-short : (bytes more held after_held : List ℕ) (written after : Option (List ℕ)) (count after_count : ℕ) (e : Unwritten) (result : Result ⊤ Unwritten) → IsErr result
    → IsPut bytes written after count after_count held after_held (Err e) → IsPut (bytes ++ more) written after count after_count held after_held result
put-short bytes more held after_held written after count after_count e (Ok done) err h = absurd (true≢false (sym err))
put-short bytes more held after_held written after count after_count e (Err d) err h = record {
  counted = h.counted;
  put = λ before text way. subst (λ xs. IsCut before xs after) (append_assoc text bytes more) (cut-more before (text ++ bytes) more after (h.put before text way));
}

-- nothing is put
pub put-nothing : (written : Option (List ℕ)) (count : ℕ) (held : List ℕ) → IsPut [] written written count count held held (Ok tt)
put-nothing written count held = record { counted = (omega arith, refl); put = λ before text way. subst (λ xs. IsUnderWay before xs written held) (sym (append-nil text)) way }

pub put-as : (bytes same held after_held : List ℕ) (written after : Option (List ℕ)) (count after_count : ℕ) (result : Result ⊤ Unwritten) → bytes ≡ same → IsPut bytes written after count after_count held after_held result → IsPut same written after count after_count held after_held result
put-as bytes same held after_held written after count after_count result e h = subst (λ xs. IsPut xs written after count after_count held after_held result) e h
