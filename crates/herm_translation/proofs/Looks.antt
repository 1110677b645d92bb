-- Processes that stand for others look the same.
use Rattle.std.proofs.Common.{◌≡◌, ℕ, zero, suc, List, [], ◌∷◌, Option, Some, None, slice_get, length, refl, sym, ap, subst, ◌∙◌, arith}
use Rattle.herm_model.specs.Lists.{total, list_of}
use Rattle.herm_model.specs.Targets.{Target, node, end, end_by}
use Rattle.herm_model.specs.Values.{Name}
use Rattle.herm_forms.specs.Frames.{Frame, counted_action}
use Rattle.herm_forms.specs.Weights.{weight_held}
use Rattle.herm_journal.specs.Weights.{weigh}
use Rattle.herm_system.specs.Machines.{Held}
use Rattle.herm_system.specs.Ledger.{held_by, finalised_by}
use Rattle.herm_source.specs.Modules.{Modules}
use Rattle.herm_source.specs.States.{State}
use Rattle.herm_source.specs.SeenBySystem.{exception_at, values_held}
use Rattle.herm_source.specs.Instance.{source}
use Rattle.herm_source.proofs.instance.HeldValues.{weigh-values}
use Rattle.herm_forms.specs.Modules.{Module}
use Rattle.herm_code_machine.specs.ReadyCode.{ReadyCode, ReadyImage}
use Rattle.herm_code_machine.specs.CodeStates.{Position, at_index, at_end, at_end_by, CodeState}
use Rattle.herm_code_machine.specs.CodeSeen.{exception_of, code_held}
use Rattle.herm_code_machine.specs.CodeInstance.{code_machine}
use Rattle.herm_code_machine.proofs.instance.CodeHeld.{weigh-held}
use Rattle.herm_translation.specs.StandsFor.{NodesOfIndices, BelongsTo, StandsFor, AreCodesFor}
use Rattle.herm_translation.specs.laws.StandingLaws.{LookTheSame, StandingLooksTheSame, StandingStatesLookTheSame}

-- the exception of an end
same-exception : (nodes : ℕ → Option ℕ) (p : Position) (t : Target) → BelongsTo nodes p t → exception_at t ≡ exception_of p
same-exception nodes (at_index i) (node n) h = refl
same-exception nodes (at_index i) end h = absurd h
same-exception nodes (at_index i) (end_by e) h = absurd h
same-exception nodes at_end (node n) h = absurd h
same-exception nodes at_end end h = refl
same-exception nodes at_end (end_by e) h = absurd h
same-exception nodes (at_end_by d) (node n) h = absurd h
same-exception nodes (at_end_by d) end h = absurd h
same-exception nodes (at_end_by d) (end_by e) h = ap (λ n. Some n) (sym h)

-- two lists of one length have elements at the same places
abbrev BothOrNone : {X Y : Type 0} → Option X → Option Y → Type 0
BothOrNone None None = Unit {0}
BothOrNone None (Some y) = ⊥
BothOrNone (Some x) None = ⊥
BothOrNone (Some x) (Some y) = Unit {0}

both : {X Y : Type 0} (xs : List X) (ys : List Y) (n : ℕ) → length ys ≡ length xs → BothOrNone (slice_get xs n) (slice_get ys n)
both [] [] n same = tt
both [] (y ∷ ys) n same = absurd (omega (arith, same))
both (x ∷ xs) [] n same = absurd (omega (arith, same))
both (x ∷ xs) (y ∷ ys) zero same = tt
both (x ∷ xs) (y ∷ ys) (suc n) same = both xs ys n (omega (arith, same))

-- what is held of a code that there is, by weight
held-same : (w : Name → ℕ) (x : State Name) (y : CodeState Name) → y.frame ≡ x.frame → (o : Option Module) (p : Option ReadyCode) → BothOrNone o p
    → total (λ (h : Held Name). weigh w h.value) (list_of (λ c. values_held c x) o) ≡ total (λ (h : Held Name). weigh w h.value) (list_of (λ c. code_held c y) p)
held-same w x y same None None h = refl
held-same w x y same None (Some c) h = absurd h
held-same w x y same (Some c) None h = absurd h
held-same w x y same (Some c) (Some d) h = weigh-values w c x ∙ ap (weight_held w) (sym same) ∙ sym (weigh-held w d y)

pub standing-looks : StandingStatesLookTheSame
standing-looks modules image nodes codes = record {
  looks = λ x y s. record {
    module_number = sym s.module_number;
    number = ap (λ (b : Frame Name). b.number) (sym s.frame);
    serial = ap (λ (b : Frame Name). b.serial) (sym s.frame);
    steps = ap (λ (b : Frame Name). b.steps) (sym s.frame);
    actions = ap (λ (b : Frame Name). b.actions) (sym s.frame);
    exception = same-exception (nodes x.module_number) y.position x.point s.position;
    held = λ w.
        ap (λ n. total (λ (h : Held Name). weigh w h.value) (list_of (λ c. values_held c x) (slice_get modules.codes n))) (sym s.module_number)
        ∙ held-same w x y s.frame (slice_get modules.codes y.module_number) (slice_get image.codes y.module_number) (both modules.codes image.codes y.module_number codes.codes);
    finalised = λ w. ap (λ (b : Frame Name). total w b.finalised) (sym s.frame);
  };
  puts_aside = λ x y s. record { module_number = s.module_number; position = s.position; stands = s.stands; stack = s.stack; frame = ap counted_action s.frame };
}
