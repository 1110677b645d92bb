-- The places of one entry more, and of one diary more.
use Rattle.std.proofs.Common.{◌≡◌, ◌≢◌, ℕ, ◌+◌, ◌<◌, ◌^◌, ◌-◌, List, [], ◌∷◌, ◌++◌, map, length, min, take, get_or, sym, ap, subst, ◌∙◌, arith}
use Rattle.std.proofs.lemmas.List.{append_assoc, map-append, take_more}
use Rattle.herm_events.specs.declared.entry.Entry.{Entry}
use Rattle.herm_gather.specs.Diaries.{AreOfNumber}
use Rattle.herm_gather.specs.Orders.{place_in_order, short_place}
use Rattle.herm_gather.proofs.Merged.{short-is}

of-number-push : (n : ℕ) (es : List Entry) (e : Entry) → AreOfNumber n es → e.proc.number ≡ n → AreOfNumber n (es ++ e ∷ [])
of-number-push n [] e all is = (is, tt)
of-number-push n (f ∷ es) e all is = (all.0, of-number-push n es e all.1 is)

one-more : (es : List Entry) (i : ℕ) (e : Entry) → i < length es → e ≡ get_or es i e → take (i + 1) es ≡ take i es ++ e ∷ []
one-more es i e below there = take_more es i e below ∙ ap (λ x. take i es ++ x ∷ []) (sym there)

pub own-more : (n : ℕ) (es : List Entry) (i : ℕ) (e : Entry) → i < length es → e ≡ get_or es i e → e.proc.number ≡ n → AreOfNumber n (take i es) → AreOfNumber n (take (i + 1) es)
own-more n es i e below there is all = subst (AreOfNumber n) (sym (one-more es i e below there)) (of-number-push n (take i es) e all is)

fits : (e : Entry) (n : ℕ) → n ≡ short_place e → n ≢ 18446744073709551615 → n ≡ place_in_order e
fits e n is less = is ∙ short-is e (short-less (place_in_order e) n is less)
  where
    short-less : (m n : ℕ) → n ≡ min m (2 ^ 64 - 1) → n ≢ 18446744073709551615 → min m (2 ^ 64 - 1) < 2 ^ 64 - 1
    short-less m n is less = omega (arith, is, less)

pub places-more : (start was now : List ℕ) (es : List Entry) (i : ℕ) (e : Entry) (n : ℕ) → i < length es → e ≡ get_or es i e → n ≡ short_place e → n ≢ 18446744073709551615
    → was ≡ start ++ map place_in_order (take i es) → now ≡ was ++ n ∷ [] → now ≡ start ++ map place_in_order (take (i + 1) es)
places-more start was now es i e n below there short less so pushed =
    pushed ∙ ap (λ l. l ++ n ∷ []) so ∙ append_assoc start (map place_in_order (take i es)) (n ∷ [])
    ∙ ap (λ l. start ++ l)
    (ap (λ m. map place_in_order (take i es) ++ m ∷ []) (fits e n short less) ∙ sym (map-append place_in_order (take i es) (e ∷ [])) ∙ ap (map place_in_order) (sym (one-more es i e below there)))
