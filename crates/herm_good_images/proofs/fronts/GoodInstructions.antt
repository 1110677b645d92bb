-- Instructions in a row that keep the rules of good code which look at their labels.
use Rattle.std.proofs.Common.{◌≡◌, ℕ, zero, suc, List, [], ◌∷◌, ◌++◌, Option, Some, None, option_and_then, option_map, slice_get, refl, ap, subst, ◌∙◌}
use Rattle.herm_model.specs.Lists.{IsIn}
use Rattle.herm_model.specs.Paths.{Fact}
use Rattle.herm_model.specs.Types.{TypeTable}
use Rattle.herm_model.specs.Expressions.{Literal}
use Rattle.herm_model.specs.Facts.{with_prefixes}
use Rattle.herm_model.specs.Statements.{Process}
use Rattle.herm_model.specs.Outcomes.{Outcome, raised}
use Rattle.herm_model.specs.FactsOfStatements.{closed}
use Rattle.herm_model.proofs.Options.{some-injective, none-not_some}
use Rattle.herm_model.proofs.Lists.{in-map_from, in-flat_map, in-flat_map_from}
use Rattle.herm_model.proofs.ClosedFacts.{once-IsIn, IsIn-once}
use Rattle.herm_instructions.specs.Instructions.{Instruction}
use Rattle.herm_instructions.specs.Labels.{Label}
use Rattle.herm_instructions.specs.Images.{Landing}
use Rattle.herm_instructions.specs.Operands.{FindsOnStack}
use Rattle.herm_instructions.specs.Effects.{facts_needed, exceptions_of, label_behind}
use Rattle.herm_instructions.specs.Places.{goes_on, Way, jumps, landing_ways}
use Rattle.herm_instructions.specs.TypedInstructions.{IsTypedInstruction}
use Rattle.herm_instructions.specs.GoodCode.{FindsSlots, TrimsExcess}
use Rattle.herm_translated.specs.Layout.{landings_by}
use Rattle.herm_translated.specs.laws.LabelsAlong.{handed_by, handed_on}

-- the facts of more facts are more
pub closed-more : (types : TypeTable) (variables : List ℕ) (fs gs : List Fact) → ((f : Fact) → IsIn f fs → IsIn f gs) → (f : Fact) → IsIn f (closed types variables fs) → IsIn f (closed types variables gs)
closed-more types variables fs gs h f i =
    let r = in-flat_map_from (with_prefixes types variables) f fs (once-IsIn f _ i) in
    IsIn-once f _ (in-flat_map (with_prefixes types variables) r.0 f gs (h r.0 r.1) r.2)

module _ (types : TypeTable) (variables : List ℕ) (constants : List Literal) where
  -- it holds of each instruction in a row, with the label that is handed on to it
  abbrev pub AreGood : (Instruction → Label → Type 0) → List Instruction → Option Label → Type 0
  AreGood P [] a = Unit {0}
  AreGood P (i ∷ code) a = ((l : Label) → a ≡ Some l → P i l) × AreGood P code (handed_by types variables constants i a)

  -- the label that is handed on so far along a row
  abbrev pub handed_to : List Instruction → ℕ → Option Label → Option Label
  handed_to [] k a = None
  handed_to (i ∷ code) zero a = a
  handed_to (i ∷ code) (suc k) a = handed_to code k (handed_by types variables constants i a)

  pub good-at : (P : Instruction → Label → Type 0) (code : List Instruction) (k : ℕ) (a : Option Label) → AreGood P code a → (i : Instruction) (l : Label) → slice_get code k ≡ Some i → handed_to code k a ≡ Some l → P i l
  good-at P [] k a h i l e q = none-not_some e
  good-at P (x ∷ code) zero a h i l e q = subst (λ j. P j l) (some-injective e) (h.0 l q)
  good-at P (x ∷ code) (suc k) a h i l e q = good-at P code k (handed_by types variables constants x a) h.1 i l e q

  pub good-joined : (P : Instruction → Label → Type 0) (xs ys : List Instruction) (a : Option Label) → AreGood P xs a → AreGood P ys (handed_on types variables constants xs a) → AreGood P (xs ++ ys) a
  good-joined P [] ys a h k = k
  good-joined P (x ∷ xs) ys a h k = (h.0, good-joined P xs ys (handed_by types variables constants x a) h.1 k)

  pub good-one : (P : Instruction → Label → Type 0) (i : Instruction) (l : Label) → P i l → AreGood P (i ∷ []) (Some l)
  good-one P i l h = ((λ k e. subst (P i) (some-injective e) h), tt)

  pub good-none : (P : Instruction → Label → Type 0) (code : List Instruction) → AreGood P code None
  good-none P [] = tt
  good-none P (i ∷ code) = ((λ l e. none-not_some e), subst (AreGood P code) (none-handed i) (good-none P code))
    where
      none-handed : (i : Instruction) → None ≡ handed_by types variables constants i None
      none-handed i = each (goes_on i)
        where
          each : (o : Option Outcome) → None ≡ option_and_then (λ o. option_map (λ l. label_behind types variables constants i o l) None) o
          each None = refl
          each (Some o) = refl

  module _ (count : ℕ) (processes : List Process) (exit_at : Outcome → ℕ) where
    -- An instruction keeps the rules that look at its label, and each way that it names leads where such a label lands.
    pub record IsGoodAt (Lands : Way → Label → Type 0) (i : Instruction) (l : Label) : Type 0 where
      pub typed : IsTypedInstruction types variables count constants processes i
      pub stack : FindsOnStack types constants variables i l.stack
      pub facts : (f : Fact) → IsIn f (facts_needed types variables i) → IsIn f l.facts
      pub slots : FindsSlots types variables i l.slots
      pub trims : TrimsExcess types variables i l.facts
      pub leads : (w : Way) → IsIn w (jumps i ++ landing_ways (landings_by types variables exit_at i)) → Lands w (label_behind types variables constants i w.outcome l)

    -- where it lands may be more
    pub lands-more : (A B : Way → Label → Type 0) → ((w : Way) (l : Label) → A w l → B w l) → (i : Instruction) (l : Label) → IsGoodAt A i l → IsGoodAt B i l
    lands-more A B h i l g = record { typed = g.typed; stack = g.stack; facts = g.facts; slots = g.slots; trims = g.trims; leads = λ w m. h w (label_behind types variables constants i w.outcome l) (g.leads w m) }

  pub good-more : (A B : Instruction → Label → Type 0) → ((i : Instruction) (l : Label) → A i l → B i l) → (code : List Instruction) (a : Option Label) → AreGood A code a → AreGood B code a
  good-more A B h [] a g = tt
  good-more A B h (i ∷ code) a g = ((λ l e. h i l (g.0 l e)), good-more A B h code (handed_by types variables constants i a) g.1)

  module _ (exit_at : Outcome → ℕ) where
    -- the ways of an instruction that names none are to its exceptions
    pub landing-way : (i : Instruction) → jumps i ≡ [] → (w : Way) → IsIn w (jumps i ++ landing_ways (landings_by types variables exit_at i))
        → (e : ℕ) × IsIn e (exceptions_of types variables i) × (w ≡ record { outcome = raised e; index = exit_at (raised e) })
    landing-way i none w m =
        let k : IsIn w (landing_ways (landings_by types variables exit_at i)) = subst (λ ws. IsIn w (ws ++ landing_ways (landings_by types variables exit_at i))) none m in
        let l = in-map_from (λ (l : Landing). record { outcome = raised l.exception; index = l.index }) w (landings_by types variables exit_at i) k in
        let e = in-map_from (λ e. record { exception = e; index = exit_at (raised e) }) l.0 (exceptions_of types variables i) l.1 in
        (e.0, e.1, l.2 ∙ ap (λ (l : Landing). record { outcome = raised l.exception; index = l.index }) e.2)
