-- In good code the outcome of each way leads to the way's index.
use Rattle.std.proofs.Common.{◌≡◌, ◌⊎◌, inl, inr, ℕ, suc, ◌+◌, arith, List, [], ◌∷◌, map, Bool, true, false, Option, Some, None, option_and_then, option_map, nat_eq, refl, sym, ap, subst, ◌∙◌}
use Rattle.std.specs.Prelude.{slice_get, find, cond}
use Rattle.std.proofs.lemmas.Bool.{eq-eqb, eqb-true}
use Rattle.herm_model.specs.Lists.{IsIn, list_of, numbered}
use Rattle.herm_model.specs.Outcomes.{Outcome, component, raised}
use Rattle.herm_model.specs.Statements.{Differ}
use Rattle.herm_model.proofs.Lists.{in-append_cases, in-map, in-map_from}
use Rattle.herm_model.proofs.Options.{none-not_some, some-injective}
use Rattle.herm_instructions.specs.Instructions.{Choice, Instruction, Jump, JumpFalse, CaseOf, LoopNext, Select, Raise, End, EndBy}
use Rattle.herm_instructions.specs.Images.{Landing, CodeModule, Image, landing_of}
use Rattle.herm_instructions.specs.Places.{Way, goes_on, jumps, landing_ways, way_of_arm, Place, named_ways, ways}
use Rattle.herm_instructions.specs.GoodCode.{module_places, IsGoodModule}
use Rattle.herm_instructions.proofs.LabelsOfCode.{places-are_instructions}
use Rattle.herm_code_machine.specs.ReadyCode.{ReadyCode}
use Rattle.herm_code_machine.specs.CodeStates.{leads}

-- what is numbered stands at its number
pub numbered-got : {X : Type 0} (k : ℕ) (xs : List X) (n : ℕ) (x : X) → IsIn (n, x) (numbered k xs) → (i : ℕ) × (n ≡ k + i) × (slice_get xs i ≡ Some x)
numbered-got k [] n x h = absurd h
numbered-got {X} k (y ∷ xs) n x (inl e) = (0, ap (λ (z : ℕ × X). z.0) e ∙ omega arith, ap (λ (z : ℕ × X). Some z.1) (sym e))
numbered-got k (y ∷ xs) n x (inr h) = let r = numbered-got (suc k) xs n x h in (suc r.0, r.1 ∙ omega arith, r.2)

numbered-first : {X : Type 0} (xs : List X) (n : ℕ) (x : X) → IsIn (n, x) (numbered 0 xs) → slice_get xs n ≡ Some x
numbered-first xs n x h = let r = numbered-got 0 xs n x h in ap (slice_get xs) (r.1 ∙ omega arith) ∙ r.2

-- the landing of an exception, where no other one is of it
landed : (ls : List Landing) → Differ (map (λ (l : Landing). l.exception) ls) → (l : Landing) → IsIn l ls → find (λ (x : Landing). nat_eq x.exception l.exception) ls ≡ Some l
landed [] d l h = absurd h
landed (x ∷ ls) d l (inl e) = ap (λ (t : Bool). cond t (Some x) (find (λ (x : Landing). nat_eq x.exception l.exception) ls)) (eq-eqb x.exception l.exception (ap (λ (l : Landing). l.exception) (sym e))) ∙ ap Some (sym e)
landed (x ∷ ls) d l (inr h) = by (nat_eq x.exception l.exception) refl (landed ls d.1 l h)
  where
    by : (t : Bool) → nat_eq x.exception l.exception ≡ t → find (λ (x : Landing). nat_eq x.exception l.exception) ls ≡ Some l → cond t (Some x) (find (λ (x : Landing). nat_eq x.exception l.exception) ls) ≡ Some l
    by true e later = absurd (d.0 (subst (λ k. IsIn k (map (λ (l : Landing). l.exception) ls)) (sym (eqb-true x.exception l.exception e)) (in-map (λ (l : Landing). l.exception) l ls h)))
    by false e later = later

-- where control goes on
on-leads : (c : ReadyCode) (n : ℕ) (i : Instruction) (o : Outcome) → goes_on i ≡ Some o → leads c n i o ≡ Some (suc n)
on-leads c n (Jump j) o e = none-not_some e
on-leads c n (CaseOf v indices) o e = none-not_some e
on-leads c n (Select choices) o e = none-not_some e
on-leads c n (Raise x) o e = none-not_some e
on-leads c n End o e = none-not_some e
on-leads c n (EndBy x) o e = none-not_some e
on-leads c n i o e = subst (λ o. leads c n i o ≡ Some (suc n)) (some-injective e) refl

-- and where it jumps
jump-leads : (c : ReadyCode) (n : ℕ) (i : Instruction) (w : Way) → IsIn w (jumps i) → leads c n i w.outcome ≡ Some w.index
jump-leads c n (Jump j) w (inl e) = subst (λ (w : Way). leads c n (Jump j) w.outcome ≡ Some w.index) (sym e) refl
jump-leads c n (Jump j) w (inr h) = absurd h
jump-leads c n (JumpFalse j) w (inl e) = subst (λ (w : Way). leads c n (JumpFalse j) w.outcome ≡ Some w.index) (sym e) refl
jump-leads c n (JumpFalse j) w (inr h) = absurd h
jump-leads c n (CaseOf v indices) w h =
    let r = in-map_from (λ (c : ℕ × ℕ). record { outcome = component c.0; index = c.1 }) w (numbered 0 indices) h in
    subst (λ (w : Way). leads c n (CaseOf v indices) w.outcome ≡ Some w.index) (sym r.2) (numbered-first indices r.0.0 r.0.1 r.1)
jump-leads c n (LoopNext t s j) w (inl e) = subst (λ (w : Way). leads c n (LoopNext t s j) w.outcome ≡ Some w.index) (sym e) refl
jump-leads c n (LoopNext t s j) w (inr h) = absurd h
jump-leads c n (Select choices) w h =
    let r = in-map_from way_of_arm w (numbered 0 choices) h in
    subst (λ (w : Way). leads c n (Select choices) w.outcome ≡ Some w.index) (sym r.2) (ap (option_map (λ (a : Choice). a.index)) (numbered-first choices r.0.0 r.0.1 r.1))
jump-leads c n i w h = absurd h

on-in : (g : Option Outcome) (n : ℕ) (w : Way) → IsIn w (map (λ o. record { outcome = o; index = n }) (list_of (λ o. o ∷ []) g)) → (g ≡ Some w.outcome) × (w.index ≡ n)
on-in None n w h = absurd h
on-in (Some o) n w (inl e) = (ap (λ (w : Way). Some w.outcome) (sym e), ap (λ (w : Way). w.index) e)
on-in (Some o) n w (inr h) = absurd h

-- the landing of an exception, by the list of landings at an index
landing-at : (m : CodeModule) (n : ℕ) (ls : List Landing) (l : Landing) → ls ≡ list_of (λ ls. ls) (slice_get m.landings n) → find (λ (x : Landing). nat_eq x.exception l.exception) ls ≡ Some l → landing_of m n l.exception ≡ Some l.index
landing-at m n ls l same found = ap (option_map (λ (l : Landing). l.index)) (by (slice_get m.landings n) (sym (ap (find (λ (x : Landing). nat_eq x.exception l.exception)) same) ∙ found))
  where
    by : (o : Option (List Landing)) → find (λ (x : Landing). nat_eq x.exception l.exception) (list_of (λ ls. ls) o) ≡ Some l → option_and_then (find (λ (x : Landing). nat_eq x.exception l.exception)) o ≡ Some l
    by None e = none-not_some e
    by (Some ls) e = e

module _ (exceptions : ℕ) (image : Image) (m : CodeModule) (good : IsGoodModule exceptions image m) (c : ReadyCode) (code : c.code ≡ m) (p : Place) (there : IsIn p (module_places exceptions image m)) where
  landing-leads : (w : Way) → IsIn w (landing_ways p.landings) → leads c p.index p.instruction w.outcome ≡ Some w.index
  landing-leads w h =
      let r = in-map_from (λ (l : Landing). record { outcome = raised l.exception; index = l.index }) w p.landings h in
      let place = (places-are_instructions exceptions image m p there).1 in
      subst (λ (w : Way). leads c p.index p.instruction w.outcome ≡ Some w.index) (sym r.2)
      (ap (λ (m : CodeModule). landing_of m p.index (r.0).exception) code ∙ landing-at m p.index p.landings r.0 place.landings (landed p.landings (good.landings p there).0 r.0 r.1))

  -- each way
  pub ways-lead_there : (w : Way) → IsIn w (ways p) → leads c p.index p.instruction w.outcome ≡ Some w.index
  ways-lead_there w h = by (in-append_cases w (map (λ o. record { outcome = o; index = suc p.index }) (list_of (λ o. o ∷ []) (goes_on p.instruction))) (named_ways p) h)
    where
      named : IsIn w (jumps p.instruction) ⊎ IsIn w (landing_ways p.landings) → leads c p.index p.instruction w.outcome ≡ Some w.index
      named (inl h) = jump-leads c p.index p.instruction w h
      named (inr h) = landing-leads w h

      by : IsIn w (map (λ o. record { outcome = o; index = suc p.index }) (list_of (λ o. o ∷ []) (goes_on p.instruction))) ⊎ IsIn w (named_ways p) → leads c p.index p.instruction w.outcome ≡ Some w.index
      by (inl h) = let r = on-in (goes_on p.instruction) (suc p.index) w h in on-leads c p.index p.instruction w.outcome r.0 ∙ ap Some (sym r.1)
      by (inr h) = named (in-append_cases w (jumps p.instruction) (landing_ways p.landings) h)
