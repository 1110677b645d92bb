-- What is so of a run of a world stays so behind each event.
use Rattle.std.proofs.Common.{◌≡◌, ℕ, suc, ◌<◌, ◌≤◌, List, [], ◌∷◌, length, Bool, true, false, cond, Option, Some, None, option_map, refl, sym, ap, subst, ◌∙◌, arith, true≢false}
use Rattle.std.specs.Prelude.{nat_lt, ◌&&◌}
use Rattle.std.proofs.lemmas.Bool.Decides.{nat_tests}
use Rattle.herm_model.specs.Lists.{list_of}
use Rattle.herm_model.specs.Values.{Name}
use Rattle.herm_model.proofs.Options.{map-some}
use Rattle.herm_journal.specs.Actions.{make_port, make_process, put, take, close, answer, hear}
use Rattle.herm_journal.specs.NextNumbers.{Book}
use Rattle.herm_journal.specs.PlaceStates.{after}
use Rattle.herm_journal.specs.Messages.{CellAction}
use Rattle.herm_system.specs.Machines.{Machine}
use Rattle.herm_system.specs.Sound.{IsNumbered}
use Rattle.herm_system.specs.Systems.{System, Moved, Event, steps, acts, step, Run, run_on, set_process, set_holding, with_entry}
use Rattle.herm_runs.proofs.ActionParts.{action-parts, step-parts}
use Rattle.herm_runs.proofs.Numbered.{BookMoves, book-moves}
use Rattle.herm_runs.proofs.RoundsEnd.{made-book}
use Rattle.herm_sound.specs.SoundMachines.{KeepsSound, BeginsSound}
use Rattle.herm_sound.proofs.KeptSound.{steps-keep-sound}
use Rattle.herm_sound.proofs.OpeningSound.{opening-is-sound}
use Rattle.herm_waking.specs.Waking.{kept_behind}
use Rattle.herm_waking.specs.KeptRounds.{Worked}
use Rattle.herm_waking.specs.laws.RoundLaws.{IsWorked, StartIsWorked, EventsAreWorked}
use Rattle.herm_waking.proofs.KeptReady.{events-keep-ready, first-is-kept}
use Rattle.herm_waking.proofs.OthersStand.{action-limits}

-- processes are at most as many as their limit
abbrev IsWithin : Book → Type 0
IsWithin b = b.processes ≤ b.limits.processes

less-by : (m n : ℕ) (b : Bool) → (nat_lt m n && b) ≡ true → m < n
less-by m n b e = by_test (nat_lt m n) refl e
  where
    by_test : (t : Bool) → nat_lt m n ≡ t → (t && b) ≡ true → m < n
    by_test true is e = grind (arith, nat_tests)
    by_test false is e = absurd (true≢false (sym e))

within-port : (b : Book) (t : Bool) → IsWithin b → IsWithin (cond t (record b { ports = suc b.ports }) b)
within-port b true k = k
within-port b false k = k

within-process : (b : Book) (t : Bool) → (t ≡ true → b.processes < b.limits.processes) → IsWithin b → IsWithin (cond t (record b { ports = suc b.ports; processes = suc b.processes }) b)
within-process b true less k = omega (arith, less refl)
within-process b false less k = k

within-moves : (a : CellAction Name) (b c : Book) → BookMoves a b c → IsWithin b → IsWithin c
within-moves (make_port made) b c moves k = subst IsWithin (sym moves.1) (within-port b (nat_lt b.ports b.limits.ports) k)
within-moves (make_process code made) b c moves k = subst IsWithin (sym moves.1) (within-process b (nat_lt b.processes b.limits.processes && nat_lt b.ports b.limits.ports) (less-by b.processes b.limits.processes (nat_lt b.ports b.limits.ports)) k)
within-moves (put number m) b c moves k = subst IsWithin (sym moves) k
within-moves (take number m) b c moves k = subst IsWithin (sym moves) k
within-moves (close count left) b c moves k = subst IsWithin (sym moves) k
within-moves (answer call r) b c moves k = subst IsWithin (sym moves) k
within-moves (hear call r) b c moves k = subst IsWithin (sym moves) k

step-within : {P : Type 0} (machine : Machine Name P) (e : Event) (s : System P) (m : Moved P) → step machine e s ≡ Some m → IsWithin s.book → IsWithin m.system.book
step-within machine (steps p) s m e k = let parts = step-parts machine p s m e in subst (λ (m : Moved _). IsWithin m.system.book) parts.moved k
step-within machine (acts p place) s m e k =
    let parts = action-parts machine p place s m e in
    let u = set_process p parts.left.0 (set_holding place (after parts.did.0 parts.at.0) s) in
    subst (λ (m : Moved _). IsWithin m.system.book) parts.moved
    (subst IsWithin (sym (made-book machine parts.state parts.did.0 u parts.makes.0 parts.makes.1))
    (within-moves parts.did.0 s.book (set_holding place (after parts.did.0 parts.at.0) s).book (book-moves parts.want.0 place s parts.at.0 parts.did.0 parts.at.1 parts.did.1) k))

module _ {P : Type 0} (machine : Machine Name P) (Is : P → Type 0) (keeps : KeepsSound machine Is) where
  -- the limits stay
  pub step-limits : (e : Event) (s : System P) (m : Moved P) (types : List ℕ) → Rattle.herm_system.specs.Sound.IsSoundWith machine Is types s → step machine e s ≡ Some m → m.system.book.limits ≡ s.book.limits
  step-limits (steps p) s m types sound e = let parts = step-parts machine p s m e in ap (λ (m : Moved P). m.system.book.limits) (sym parts.moved)
  step-limits (acts p place) s m types sound e =
      let parts = action-parts machine p place s m e in
      ap (λ (m : Moved P). m.system.book.limits) (sym parts.moved) ∙ action-limits machine Is keeps types s sound p place m parts

  pub worked-behind : (e : Event) (w : Worked P) (m : Moved P) → IsWorked machine Is keeps.beside w → step machine e w.run.system ≡ Some m
      → IsWorked machine Is keeps.beside (record { run = record { system = m.system; journal = with_entry w.run.journal e m.done }; kept = kept_behind machine m.system e m.done w.kept })
  worked-behind e w m is does =
      let sound = steps-keep-sound machine Is keeps e w.run.system m does is.sound in
      let before = (is.sound.1.sound).numbers.book.0 in
      let behind = (sound.1.sound).numbers.book.0 in
      record {
        sound = sound;
        kept = events-keep-ready machine Is keeps e w.run.system m w.kept is.sound does is.kept;
        within = omega (arith, behind, step-within machine e w.run.system m does (omega (arith, before, is.within)));
      }

  pub events-are-worked : EventsAreWorked machine Is keeps.beside
  events-are-worked e w t is does =
      let m = map-some (λ (m : Moved P). record { run = record { system = m.system; journal = with_entry w.run.journal e m.done }; kept = kept_behind machine m.system e m.done w.kept }) (step machine e w.run.system) t does in (
        subst (IsWorked machine Is keeps.beside) m.2 (worked-behind e w m.0 is m.1),
        ap (option_map (λ (m : Moved P). record { system = m.system; journal = with_entry w.run.journal e m.done })) m.1 ∙ ap (λ (w : Worked P). Some w.run) m.2,
      )

  pub start-is-worked : BeginsSound machine keeps.first_type → StartIsWorked machine Is keeps.beside
  start-is-worked begins limits argument texts some = record {
    sound = opening-is-sound machine Is keeps begins limits argument texts;
    kept = first-is-kept machine Is keeps begins limits argument texts;
    within = few;
  }
    where
      count : (o : Option P) → length (list_of (λ x. x ∷ []) o) ≤ limits.processes
      count None = omega (arith, some)
      count (Some x) = omega (arith, some)

      few : length (list_of (λ x. x ∷ []) (machine.begin machine.main 1 Rattle.herm_system.specs.Systems.main_port)) ≤ limits.processes
      few = count (machine.begin machine.main 1 Rattle.herm_system.specs.Systems.main_port)
