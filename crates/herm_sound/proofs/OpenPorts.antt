-- Which ports are open behind an action, and what was made.
use Rattle.std.proofs.Common.{◌≡◌, ℕ, zero, suc, ◌+◌, [], ◌∷◌, ◌++◌, length, Bool, true, false, cond, Some, slice_get, slice_set, refl, sym, ap, subst, ◌∙◌, arith}
use Rattle.std.proofs.lemmas.Bool.{eqb-true, eqb-false}
use Rattle.std.specs.Prelude.{nat_eq}
use Rattle.herm_model.specs.Lists.{any_pass, list_of}
use Rattle.herm_model.specs.Values.{Name, Cell, an_inport}
use Rattle.herm_model.proofs.Options.{some-injective, none-not_some}
use Rattle.herm_journal.specs.Actions.{to_close}
use Rattle.herm_journal.specs.Ports.{Port, empty_port}
use Rattle.herm_journal.specs.PlaceStates.{after}
use Rattle.herm_journal.specs.Entries.{Place}
use Rattle.herm_journal.specs.Messages.{CellWant, CellAction}
use Rattle.herm_system.specs.Kinds.{is_inport_of}
use Rattle.herm_system.specs.Sound.{one_if}
use Rattle.herm_system.specs.Summary.{how_many}
use Rattle.herm_system.specs.Systems.{System, holding_at, set_holding}
use Rattle.herm_runs.specs.Counting.{kinds_ended}
use Rattle.herm_sound.proofs.Acted.{Holding, port_of, IsAct, port_made, port_refused, process_made, process_refused, placed, came_back, taken, closed, answered, heard}
use Rattle.herm_sound.proofs.Places.{Ports, port-there}

abbrev pub open_at : Ports → ℕ → Bool
open_at ports n = any_pass (λ (p : Port (Cell Name)). p.is_open) (list_of (λ p. p ∷ []) (slice_get ports n))

-- with one port set that is as open as the one before, with one closed, and with one more
pub set-open : (ports : Ports) (i n : ℕ) (old new : Port (Cell Name)) → slice_get ports i ≡ Some old → new.is_open ≡ old.is_open → open_at (slice_set ports i new) n ≡ open_at ports n
set-open [] i n old new was same = refl
set-open (p ∷ ports) zero zero old new was same = ap (λ b. any_pass (λ b. b) (b ∷ [])) (same ∙ sym (ap (λ (p : Port (Cell Name)). p.is_open) (some-injective was)))
set-open (p ∷ ports) zero (suc n) old new was same = refl
set-open (p ∷ ports) (suc i) zero old new was same = refl
set-open (p ∷ ports) (suc i) (suc n) old new was same = set-open ports i n old new was same

pub more-open : (ports : Ports) → open_at (ports ++ empty_port ∷ []) (length ports) ≡ true
more-open [] = refl
more-open (p ∷ ports) = more-open ports

pub more-others : (ports : Ports) (n : ℕ) → (length ports ≡ n → ⊥) → open_at (ports ++ empty_port ∷ []) n ≡ open_at ports n
more-others [] zero apart = absurd (apart refl)
more-others [] (suc n) apart = refl
more-others (p ∷ ports) zero apart = refl
more-others (p ∷ ports) (suc n) apart = more-others ports n (λ e. apart (ap suc e))

pub none-past : (ports : Ports) → open_at ports (length ports) ≡ false
none-past [] = refl
none-past (p ∷ ports) = none-past ports

closed-own : (ports : Ports) (i : ℕ) (old new : Port (Cell Name)) → slice_get ports i ≡ Some old → new.is_open ≡ false → open_at (slice_set ports i new) i ≡ false
closed-own [] i old new was no_more = none-not_some was
closed-own (p ∷ ports) zero old new was no_more = ap (λ b. any_pass (λ b. b) (b ∷ [])) no_more
closed-own (p ∷ ports) (suc i) old new was no_more = closed-own ports i old new was no_more

closed-other : (ports : Ports) (i n : ℕ) (new : Port (Cell Name)) → (i ≡ n → ⊥) → open_at (slice_set ports i new) n ≡ open_at ports n
closed-other [] i n new apart = refl
closed-other (p ∷ ports) zero zero new apart = absurd (apart refl)
closed-other (p ∷ ports) zero (suc n) new apart = refl
closed-other (p ∷ ports) (suc i) zero new apart = refl
closed-other (p ∷ ports) (suc i) (suc n) new apart = closed-other ports i n new (λ e. apart (ap suc e))

module _ {P : Type 0} (s : System P) (p : ℕ) where
  -- a port is open behind, or was closed, exactly where it was open before
  abbrev OpenMoves : CellWant Name → Place → Holding → CellAction Name → ℕ → Type 0
  OpenMoves w place h a n = one_if (open_at (set_holding place (after a h) s).ports n) + how_many (is_inport_of n) (kinds_ended w) ≡ one_if (open_at s.ports n)

  same-open : (b c : Bool) → b ≡ c → one_if b + 0 ≡ one_if c
  same-open b c e = ap (λ b. one_if b + 0) e ∙ omega arith

  pub act-open : (w : CellWant Name) (place : Place) (h : Holding) (a : CellAction Name) → IsAct p w place h a → holding_at place s ≡ Some h → ((n : ℕ) → w ≡ to_close n → open_at s.ports n ≡ true)
      → (n : ℕ) → OpenMoves w place h a n
  act-open w place h a (placed i m q k) at ready n =
      same-open _ _ (set-open s.ports i n (port_of true q k) (port_of true (q ++ (k, m) ∷ []) (suc k)) (port-there s i (port_of true q k) at) refl)
  act-open w place h a (came_back i m q k) at ready n = same-open _ _ (set-open s.ports i n (port_of false q k) (port_of false q k) (port-there s i (port_of false q k) at) refl)
  act-open w place h a (taken ports i among b j m q k) at ready n =
      same-open _ _ (set-open s.ports i n (port_of b ((j, m) ∷ q) k) (port_of b q k) (port-there s i (port_of b ((j, m) ∷ q) k) at) refl)
  act-open w place h a (closed i b q k) at ready n = by (nat_eq i n) refl
    where
      by : (t : Bool) → nat_eq i n ≡ t → one_if (open_at (slice_set s.ports i (port_of false [] k)) n) + length (cond t (an_inport i ∷ []) []) ≡ one_if (open_at s.ports n)
      by true e =
          let same = eqb-true i n e in
          let own = closed-own s.ports i (port_of b q k) (port_of false [] k) (port-there s i (port_of b q k) at) refl in
          subst (λ n. one_if (open_at (slice_set s.ports i (port_of false [] k)) n) + 1 ≡ one_if (open_at s.ports n)) same (omega (arith, ap one_if own, ap one_if (ready i refl)))
      by false e = omega (arith, ap one_if (closed-other s.ports i n (port_of false [] k) (eqb-false i n e)))
  act-open w place h a (port_made b i e) at ready n = omega arith
  act-open w place h a (port_refused b e) at ready n = omega arith
  act-open w place h a (process_made code b made e) at ready n = omega arith
  act-open w place h a (process_refused code b e) at ready n = omega arith
  act-open w place h a (answered caller call r rs) at ready n = omega arith
  act-open w place h a (heard k r rs) at ready n = omega arith
