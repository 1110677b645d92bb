-- The texts that stand beside messages are those of their values.
use Rattle.std.proofs.Common.{◌≡◌, List, [], ◌∷◌, ◌++◌, map, refl, sym, ap, ap₂, ◌∙◌}
use Rattle.std.proofs.lemmas.List.{map-append}
use Rattle.std.specs.List.{All, AllByRecursion}
use Rattle.std.proofs.lemmas.List.Elements.{recursion_from_All}
use Rattle.herm_journal.specs.Entries.{Text}
use Rattle.herm_model.specs.ValueTexts.{text_of}
use Rattle.herm_values.specs.View.{value_view}
use Rattle.herm_letters.specs.declared.parcel.Parcel.{Parcel}
use Rattle.herm_letters.specs.Letters.{IsParcel}

told : (ps : List Parcel) → AllByRecursion IsParcel ps → map (λ (p : Parcel). p.trace) ps ≡ map (λ (p : Parcel). text_of (value_view p.value)) ps
told [] h = refl
told (p ∷ ps) h = ap₂ ◌∷◌ h.0.told (told ps h.1)

-- also where they stand in two parts
pub told_in_parts : (start a b : List Text) (xs ys ps : List Parcel) → start ≡ [] → a ≡ start ++ map (λ (p : Parcel). p.trace) xs → b ≡ a ++ map (λ (p : Parcel). p.trace) ys → xs ++ ys ≡ ps → All IsParcel ps →
    b ≡ map (λ (p : Parcel). text_of (value_view p.value)) ps
told_in_parts start a b xs ys ps e f g h all =
    g ∙ ap (◌++ map (λ (p : Parcel). p.trace) ys) (f ∙ ap (◌++ map (λ (p : Parcel). p.trace) xs) e)
    ∙ sym (map-append (λ (p : Parcel). p.trace) xs ys) ∙ ap (map (λ (p : Parcel). p.trace)) h
    ∙ told ps (recursion_from_All IsParcel ps all)
