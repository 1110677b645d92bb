-- Values that are taken from the end of a list are taken from the top of the stack that it is.
use Rattle.std.proofs.Common.{◌≡◌, ◌<◌, ◌≤◌, ◌-◌, ℕ, zero, suc, List, [], ◌∷◌, ◌++◌, map, take, drop, length, Some, None, append_assoc, refl, sym, ap, ap₂, subst, ◌∙◌, arith}
use Rattle.std.proofs.lemmas.List.{reverse-append, reverse-reverse, length-reverse, append-nil, length-map, length-drop, take-append-drop, map-append}
use Rattle.std.proofs.lemmas.Grind.{reverse_onto}
use Rattle.std.proofs.lemmas.List.Elements.{All-take, All-drop}
use Rattle.std.specs.Prelude.{reverse}
use Rattle.std.specs.List.{All}
use Rattle.herm_model.specs.Values as model
use Rattle.herm_code_machine.specs.Stacks.{pop_onto, pop}
use Rattle.herm_values.specs.View.{value_view}
use Rattle.herm_values.specs.Whole.{IsWhole}
use Rattle.herm_values.specs.declared.value.Value.{Value}
use Rattle.herm_stack.specs.Answers.{on_stack}

pub mapped_reverse : {X Y : Type 0} (f : X → Y) (xs : List X) → map f (reverse xs) ≡ reverse (map f xs)
mapped_reverse f [] = refl
mapped_reverse f (x ∷ xs) = ap (map f) (reverse_onto xs x []) ∙ map-append f (reverse xs) (x ∷ []) ∙ ap (λ ys. ys ++ f x ∷ []) (mapped_reverse f xs) ∙ sym (reverse_onto (map f xs) (f x) [])

-- so many values from the top, the lowest of them first
popped_onto : (zs rest taken : List model.Value) → pop_onto (length zs) taken (zs ++ rest) ≡ Some (record { values = reverse zs ++ taken; rest = rest })
popped_onto [] rest taken = refl
popped_onto (z ∷ zs) rest taken =
    popped_onto zs rest (z ∷ taken)
    ∙ ap (λ vs. Some (record { values = vs; rest = rest })) (sym (append_assoc (reverse zs) (z ∷ []) taken) ∙ ap (λ vs. vs ++ taken) (sym (reverse_onto zs z [])))

few_onto : (n : ℕ) (taken stack : List model.Value) → length stack < n → pop_onto n taken stack ≡ None
few_onto zero taken stack few = absurd (omega arith)
few_onto (suc n) taken [] few = refl
few_onto (suc n) taken (v ∷ stack) few = few_onto n (v ∷ taken) stack (omega (arith, few))

pub few_popped : (items : List Value) (n : ℕ) → length items < n → pop n (on_stack (reverse items)) ≡ None
few_popped items n few = few_onto n [] (on_stack (reverse items)) (omega (arith, few, length-map (reverse items) value_view, length-reverse items))

all_popped : (front back : List Value) → pop (length back) (on_stack (reverse (front ++ back))) ≡ Some (record { values = on_stack back; rest = on_stack (reverse front) })
all_popped front back =
    ap₂ (λ n s. pop_onto n [] s) (sym (length-map (reverse back) value_view ∙ length-reverse back)) (ap on_stack (reverse-append front back) ∙ map-append value_view (reverse back) (reverse front))
    ∙ popped_onto (on_stack (reverse back)) (on_stack (reverse front)) []
    ∙ ap (λ vs. Some (record { values = vs; rest = on_stack (reverse front) })) (append-nil (reverse (on_stack (reverse back))) ∙ ap reverse (mapped_reverse value_view back) ∙ reverse-reverse (on_stack back))

pub split_popped : (items new taken : List Value) (n : ℕ) → n ≤ length items → new ≡ take (length items - n) items → taken ≡ drop (length items - n) items → pop n (on_stack (reverse items)) ≡ Some (record { values = on_stack taken; rest = on_stack (reverse new) })
split_popped items new taken n within first last =
    ap₂ (λ k s. pop k (on_stack (reverse s))) (sym (ap length last ∙ counted)) (sym joined)
    ∙ all_popped new taken
  where
    counted : length (drop (length items - n) items) ≡ n
    counted = omega (arith, within, length-drop (length items - n) items)

    joined : new ++ taken ≡ items
    joined = ap₂ ◌++◌ first last ∙ take-append-drop (length items - n) items

pub whole_taken : (items taken : List Value) (n : ℕ) → taken ≡ drop n items → All IsWhole items → All IsWhole taken
whole_taken items taken n is h = subst (All IsWhole) (sym is) (All-drop IsWhole n items h)

pub whole_left : (items new : List Value) (n : ℕ) → new ≡ take n items → All IsWhole items → All IsWhole new
whole_left items new n is h = subst (All IsWhole) (sym is) (All-take IsWhole n items h)

pub ruleset taking = (few_popped, split_popped, whole_taken, whole_left)
