-- What is written so far, joined with the rest, is the whole.
use Rattle.std.proofs.Common.{◌≡◌, ◌<◌, ◌+◌, ℕ, List, ◌++◌, Option, None, option_map, length, get_or, drop, refl, sym, ap, ap₂, ◌∙◌, subst, append_assoc}
use Rattle.std.proofs.Math.ListN as lists
use Rattle.std.proofs.lemmas.List.{length-map}
use Rattle.std.proofs.lemmas.Option.{slice_get_read, get_or_from_slice_get}
use Rattle.herm_model.specs.ValueTexts.{parts_text}
use Rattle.herm_values.specs.Parts.{parts_from}
use Rattle.herm_values.specs.View.{value_view, views_of}
use Rattle.herm_values.specs.declared.value.Value.{Value}
use Rattle.herm_letters.specs.PlaceTexts.{comma_behind}
use Rattle.herm_letters.proofs.Joined.{place_text, parts_more}

-- what stands before, what stands within, and what stands behind
pub around : (old first within last a b d : List ℕ) → a ≡ old ++ first → b ≡ a ++ within → d ≡ b ++ last → d ≡ old ++ (first ++ (within ++ last))
around old first within last a b d e f g =
    g ∙ ap (◌++ last) (f ∙ ap (◌++ within) e ∙ append_assoc old first within)
    ∙ append_assoc old (first ++ within) last ∙ ap (old ++◌) (append_assoc first within last)

view_at : (places : List (Option Value)) (n : ℕ) (o : Option Value) → n < length places → o ≡ get_or places n o → get_or (views_of places) n None ≡ option_map value_view o
view_at places n o h is =
    lists.get_or-map (option_map value_view) places n None
    ∙ ap (option_map value_view) (get_or_from_slice_get places n o None (slice_get_read places (length places) n o refl h is))

-- one place more is written
pub place_written : (a b d whole : List ℕ) (places : List (Option Value)) (n : ℕ) (o : Option Value) → n < length places → o ≡ get_or places n o →
    a ++ parts_text (parts_from (drop n (views_of places))) (comma_behind n) ≡ whole →
    b ≡ a ++ comma_behind n → d ≡ b ++ place_text (option_map value_view o) →
    d ++ parts_text (parts_from (drop (n + 1) (views_of places))) (comma_behind (n + 1)) ≡ whole
place_written a b d whole places n o h is so_far e f =
    ap (◌++ rest) (f ∙ ap₂ (λ x y. x ++ y) e (sym (ap place_text (view_at places n o h is))) ∙ append_assoc a (comma_behind n) here)
    ∙ append_assoc a (comma_behind n ++ here) rest
    ∙ ap (a ++◌) (append_assoc (comma_behind n) here rest ∙ sym (parts_more (views_of places) n small))
    ∙ so_far
  where
    here : List ℕ
    here = place_text (get_or (views_of places) n None)

    rest : List ℕ
    rest = parts_text (parts_from (drop (n + 1) (views_of places))) (comma_behind (n + 1))

    small : n < length (views_of places)
    small = subst (λ k. n < k) (sym (length-map places (option_map value_view))) h
