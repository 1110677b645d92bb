-- The variables of a process that begins.
use Rattle.std.proofs.Common.{◌≡◌, ℕ, zero, suc, ◌+◌, List, [], ◌∷◌, ◌++◌, Option, Some, None, refl, sym, ap, subst, ◌∙◌, add-one, arith}
use Rattle.std.specs.Prelude.{IfSome, length, pred}
use Rattle.std.proofs.lemmas.List.Elements.{All-nil, All-push}
use Rattle.herm_base.specs.declared.numbers.PortNo.{PortNo}
use Rattle.herm_model.specs.Values.{an_inport, gap, gaps, part}
use Rattle.herm_forms.specs.Frames.{Frame}
use Rattle.herm_code_machine.specs.CodeStates.{at_index, first_frame}
use Rattle.herm_code_machine.specs.ReadyCode.{ReadyCode}
use Rattle.herm_values.specs.Parts.{parts_from}
use Rattle.herm_values.specs.View.{leaf, views_of}
use Rattle.herm_values.specs.Whole.{AllWhole, IsWhole}
use Rattle.herm_values.specs.declared.value.Value.{Value}
use Rattle.herm_values.specs.declared.value.Value.TheVariants as values
use Rattle.herm_frames.specs.Counts.{cut}
use Rattle.herm_frames.specs.EmptyPlaces.{nothings}
use Rattle.herm_frames.specs.HeldFrames.{HeldFrame}
use Rattle.herm_frames.specs.Standing.{Stands}
use Rattle.herm_steps.specs.HeldStates.{HeldState}
use Rattle.herm_steps.specs.StandingAt.{StandsAt}
use Rattle.herm_steps.specs.Stepped.{begun}

one_more : (n : ℕ) → nothings n ++ None ∷ [] ≡ nothings (suc n)
one_more zero = refl
one_more (suc n) = ap (None ∷◌) (one_more n)

pub one_nothing : (n : ℕ) → nothings n ++ None ∷ [] ≡ nothings (n + 1)
one_nothing n = one_more n ∙ ap nothings (sym (add-one n))

pub nothings_seen : (n : ℕ) → parts_from (views_of (nothings n)) ≡ gaps n
nothings_seen zero = refl
nothings_seen (suc n) = ap gap (nothings_seen n)

first_more : (port : PortNo) (n : ℕ) → (Some (values.Inport port) ∷ nothings n) ++ None ∷ [] ≡ Some (values.Inport port) ∷ nothings (suc n)
first_more port n = ap (Some (values.Inport port) ∷◌) (one_more n)

pub first_whole : (port : PortNo) (n : ℕ) → AllWhole (Some (values.Inport port) ∷ nothings n)
first_whole port zero = All-push (λ o. IfSome o IsWhole) [] (Some (values.Inport port)) (All-nil _) tt
first_whole port (suc n) = subst AllWhole (first_more port n) (All-push (λ o. IfSome o IsWhole) (Some (values.Inport port) ∷ nothings n) None (first_whole port n) tt)

-- the frame of a process with these variables and nothing else
abbrev pub first_held : ℕ → List (Option Value) → HeldFrame
first_held number variables = record { number = number; variables = variables; loops = []; work = []; call = None; calls = 0; steps = 0; actions = 0; made = 0; finalised = 0 }

none_made : 0 ≡ cut 0
none_made = omega arith

first_stands : (variables : List ℕ) (number : ℕ) (port : PortNo) (k : ℕ) → k ≡ pred (length variables) → Stands (first_held number (Some (values.Inport port) ∷ nothings k)) (first_frame variables number (leaf (an_inport port.number)))
first_stands variables number port k is = record {
  number = refl;
  variables = ap (part (leaf (an_inport port.number))) (ap gaps (sym is) ∙ sym (nothings_seen k));
  loops = refl;
  work = refl;
  call = refl;
  calls = refl;
  steps = refl;
  actions = refl;
  made = none_made;
  finalised = none_made;
}

pub stands_begun : (c : ReadyCode) (module_number number : ℕ) (port : PortNo) (p : HeldState) (f : HeldFrame) (k : ℕ) → p ≡ record { position = at_index 0; stack = []; frame = f }
    → f ≡ first_held number (Some (values.Inport port) ∷ nothings k) → k ≡ pred (length c.scope.variables) → StandsAt p (begun c module_number number (leaf (an_inport port.number)))
stands_begun c module_number number port p f k is held count =
    subst (λ p. StandsAt p (begun c module_number number (leaf (an_inport port.number)))) (sym is)
    (record { position = refl; stack = refl; frame = subst (λ f. Stands f (first_frame c.scope.variables number (leaf (an_inport port.number)))) (sym held) (first_stands c.scope.variables number port k count) })
