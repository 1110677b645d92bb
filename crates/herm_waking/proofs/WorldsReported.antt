-- The report of a world that keeps none describes its run.
use Rattle.std.proofs.Common.{refl, List}
use Rattle.herm_model.specs.Values.{Name, Kind}
use Rattle.herm_journal.specs.Journals.{ordered}
use Rattle.herm_system.specs.Machines.{Machine}
use Rattle.herm_runs.specs.laws.ProcessLaws.{KnowsPlaces}
use Rattle.herm_runs.proofs.Events.{run-stamped}
use Rattle.herm_runs.proofs.LedgerAlong.{ledger-along}
use Rattle.herm_runs.proofs.RunsOrdered.{ordered-fits}
use Rattle.herm_runs.proofs.order.OrderedRuns.{ordered-runs}
use Rattle.herm_sound.specs.SoundMachines.{KeepsSound, BeginsSound}
use Rattle.herm_sound.proofs.OpeningSound.{states-along}
use Rattle.herm_waking.specs.laws.WorldLaws.{WorldsAreReported}
use Rattle.herm_waking.proofs.RoundsKept.{nothing-kept}

pub worlds-reported : {P : Type 0} (machine : Machine Name P) (Is FindsNeeds : P → Type 0) (keeps : KeepsSound machine Is) → BeginsSound machine keeps.first_type → (known : P → List Kind) → KnowsPlaces machine known
    → ((x : P) → Is x → FindsNeeds x) → WorldsAreReported machine Is FindsNeeds keeps.beside
worlds-reported machine Is FindsNeeds keeps begins known knows finds limits argument main events w names asked texts is runs good none =
    let in-order = ordered-runs machine known keeps.numbers knows limits argument main events w.run is runs in
    record {
      final = w.run.system;
      is_ordered = (ordered-fits machine keeps.numbers limits argument main events w.run is runs).ordered;
      is_stamped = run-stamped machine limits argument in-order.0 (record { system = w.run.system; journal = ordered w.run.journal }) in-order.1;
      is_a_run = in-order;
      is_final = nothing-kept machine w.run.system w.kept good.kept none;
      finds_needs = λ s along p x found. let sound = states-along machine Is keeps begins limits argument _ s texts along in finds x ((sound.1.sound).processes p x found);
      is_sound = λ s along. let sound = states-along machine Is keeps begins limits argument _ s texts along in (sound.0, sound.1.sound);
      has_ledger = λ s along. ledger-along machine keeps.numbers keeps.ledger limits argument main _ s is along;
      ends = refl;
      queued = refl;
      counts = refl;
      status = refl;
      text = refl;
    }
