-- A process of code begins beside the one of the source.
use Rattle.std.proofs.Common.{◌≡◌, inl, ℕ, zero, suc, ◌+◌, ◌<◌, [], ◌∷◌, length, Bool, true, false, nat_eq, Some, None, refl, sym, ap, subst, ◌∙◌, arith}
use Rattle.std.specs.Prelude.{◌&&◌, pred, IsTrue}
use Rattle.std.proofs.lemmas.Bool.{eqb-true}
use mathlib.Core.Bool.{false≢true}
use Rattle.herm_model.specs.Paths.{Path, init, same_path}
use Rattle.herm_model.specs.ControlPaths.{held_at_start}
use Rattle.herm_model.specs.FactsOfValues.{HasExactly}
use Rattle.herm_model.specs.Outcomes.{ok}
use Rattle.herm_model.specs.Targets.{Target, node, end, end_by}
use Rattle.herm_model.specs.Values.{Name, an_inport, cell, Parts, no_parts, part, gaps, has_value}
use Rattle.herm_model.proofs.ExcessOrder.{values-excess}
use Rattle.herm_model.proofs.NothingThere.{nothing-there, nothing-in_gaps}
use Rattle.herm_model.proofs.Options.{none-not_some}
use Rattle.herm_forms.specs.EdgeFinalising.{keeps, arrive}
use Rattle.herm_forms.specs.Frames.{Frame}
use Rattle.herm_source.specs.States.{own_name, begin}
use Rattle.herm_source.proofs.OpeningFrame.{opening_frame}
use Rattle.herm_instructions.specs.Images.{instruction_at}
use Rattle.herm_instructions.specs.Instructions.{Step}
use Rattle.herm_code_machine.specs.CodeStates.{CodeState, code_begin}
use Rattle.herm_code_machine.specs.laws.PieceLaws.{IsAtPiece}
use Rattle.herm_translated.specs.CodeBlocks.{arrival_at, departure}
use Rattle.herm_translated.specs.Departures.{edge_code, edge_length}
use Rattle.herm_translated.proofs.Addresses.{laid-out}
use Rattle.herm_translated.proofs.Joined.{got-within}
use Rattle.herm_translated.proofs.Lengths.{edge-long}
use Rattle.herm_simulation.specs.Leading.{StandFrom, state_at, LeadsTo, arrived_at}
use Rattle.herm_simulation.specs.Standing.{IsAtPoint}
use Rattle.herm_simulation.proofs.AlongEdges.{edges-do_arrivals}
use Rattle.herm_simulation.proofs.Arrivals.{step-at}
use Rattle.herm_simulation.proofs.Beside.{Beside}
use Rattle.herm_simulation.proofs.InPlace.{Coded, types, variables, constants, source_code, checked_code, blocks, entry, code, ready, begins_at, linked}
use Rattle.herm_simulation.proofs.Leading.{leads-one}
use Rattle.herm_simulation.proofs.LocalSteps.{arrive-closed}

-- a port alone has exactly the fact of the start
module _ (port : ℕ) (m : Name) (n : ℕ) where
  abbrev first : Parts Name
  first = part (cell m (an_inport port) no_parts) (gaps n)

  later-same : (i : ℕ) (p : Path) (b : Bool) → nat_eq (suc i) 0 ≡ b → (b && same_path p []) ≡ false
  later-same i p true e = absurd (let s : suc i ≡ 0 = eqb-true (suc i) 0 e in omega arith)
  later-same i p false e = refl

  first-has : (p : Path) → has_value first p ≡ held_at_start (init p)
  first-has [] = refl
  first-has (zero ∷ []) = refl
  first-has (suc i ∷ []) = nothing-in_gaps Name n (i ∷ []) ∙ sym (later-same i [] (nat_eq (suc i) 0) refl)
  first-has (zero ∷ j ∷ p) = nothing-there Name (j ∷ p)
  first-has (suc i ∷ j ∷ p) = nothing-in_gaps Name n (i ∷ j ∷ p) ∙ sym (later-same i (j ∷ p) (nat_eq (suc i) 0) refl)

  first-exact : HasExactly first (λ f. IsTrue (held_at_start f))
  first-exact = record {
    values = λ p. ((λ h. sym (first-has p) ∙ h), (λ h. first-has p ∙ h));
    components = λ p c h. absurd (false≢true h);
  }

module _ (k : Coded) where
  -- the edge to where the process begins stands first
  entry-stands : StandFrom (ready k) 0 (edge_code (begins_at k) (entry k))
  entry-stands q x e =
      let low : q < edge_length (entry k) = (let w = got-within (edge_code (begins_at k) (entry k)) q x e in let l = edge-long (begins_at k) (entry k) in omega (arith, w, l)) in
      let same : 0 + q ≡ q = omega arith in
      ap (instruction_at (code k)) same ∙ (laid-out (types k) (variables k) (constants k) (entry k) (blocks k)).entry_first q low ∙ e

  -- where it arrives, a piece begins
  abbrev Arrived : Target → Type 0
  Arrived t = let p = arrived_at (begins_at k) (arrival_at (source_code k) [] t) in IsAtPoint (constants k) (checked_code k) None p t × IsAtPiece (ready k) p

  entry-arrives : (t : Target) → (source_code k).entry ≡ t → Arrived t
  entry-arrives (node i) e =
      let there = (linked k).linked.begins i (ap (λ t. (departure (source_code k) [] ok t k.entry_drops).arrival) e) in
      ((there.0, there.1, inl refl), (Step, step-at k i there.0 there.1, refl))
  entry-arrives end e = (tt, tt)
  entry-arrives (end_by x) e = (refl, tt)

  pub begins-beside : (number' number port : ℕ) (m : Name) (y : CodeState Name) → code_begin own_name (ready k) number' number (cell m (an_inport port) no_parts) ≡ Some y
      → Beside k (begin (source_code k) number' number (cell m (an_inport port) no_parts)) y
  begins-beside number' number port m y is =
      let b : Frame Name = opening_frame (source_code k) number (cell m (an_inport port) no_parts) in
      let t = (source_code k).entry in
      let there : CodeState Name = record { module_number = number'; position = arrived_at (begins_at k) (arrival_at (source_code k) [] t); stack = []; frame = arrive (source_code k) t b } in
      let arrived = entry-arrives t refl in
      let led : LeadsTo own_name (ready k) (state_at number' 0 [] b) there =
      edges-do_arrivals own_name (ready k) (source_code k) refl (begins_at k) [] ok t k.entry_drops number' 0 b entry-stands
      ((k.right).entry ∙ sym (values-excess (types k) (variables k) held_at_start b.variables (keeps (source_code k) t) (first-exact port m (pred (length (variables k))))))
      (refl, tt) in
      let closed : (arrive (source_code k) t b).call ≡ None = arrive-closed k t b refl in
      subst (Beside k (begin (source_code k) number' number (cell m (an_inport port) no_parts))) (sym (leads-one own_name (ready k) (state_at number' 0 [] b) there y led arrived.1 is))
      (record {
        module_number = refl;
        place = subst (λ call. IsAtPoint (constants k) (checked_code k) call there.position t) (sym closed) arrived.0;
        stack = refl;
        frame = refl;
        lists = λ q i called at. none-not_some (sym closed ∙ called);
      })
