-- The laws of worlds for the machine of a good image.
use Rattle.herm_model.specs.TypedPrograms.{main_start}
use Rattle.std.proofs.Common.{◌≡◌, ℕ, Some}
use Rattle.herm_model.specs.Values.{Name}
use Rattle.herm_instructions.specs.Images.{Image}
use Rattle.herm_code_machine.specs.Beside.{stack_kinds}
use Rattle.herm_code_machine.specs.CodeInstance.{code_machine, nameless_code}
use Rattle.herm_code_machine.specs.CodeRenaming.{forget_code}
use Rattle.herm_code_machine.specs.CodeStates.{CodeState}
use Rattle.herm_code_machine.specs.CodeTypes.{first_type}
use Rattle.herm_code_machine.specs.ReadyCode.{ReadyImage}
use Rattle.herm_code_machine.specs.laws.GoodImageLaws.{IsGoodOver}
use Rattle.herm_code_machine.proofs.CodeLimits.{code-keeps-limits}
use Rattle.herm_code_machine.proofs.instance.CodeForgets.{code-forgets-names}
use Rattle.herm_code_machine.proofs.instance.CodeLaws.{code-keeps-numbers, code-knows-places}
use Rattle.herm_code_machine.proofs.placed.ImageStanding.{image-keeps-sound}
use Rattle.herm_code_machine.proofs.sound.CodeBegins.{begins-sound}
use Rattle.herm_code_machine.proofs.sound.SoundProcesses.{goes-on}
use Rattle.herm_code_machine.proofs.sound.StuckNowhere.{runs-find_operands}
use Rattle.herm_sound.proofs.RoundsReachEnd.{events-are-bounded}
use Rattle.herm_waking.proofs.Added.{counts-added, one-run-journal}
use Rattle.herm_waking.proofs.ClocksWithin.{run-clocks, run-clocks-fit}
use Rattle.herm_waking.proofs.DiariesKept.{begins-at, steps-keep, actions-keep, stamps-between}
use Rattle.herm_waking.proofs.EntriesGrow.{nothing-yet}
use Rattle.herm_waking.proofs.KeptReady.{one-looks-at, local-steps-wake, others-stand, first-is-kept, events-keep-ready}
use Rattle.herm_waking.proofs.NamesForgotten.{standings-forget, awaited-forgets, turns-forget, steps-forget, kept-forgets}
use Rattle.herm_waking.proofs.ReportsForgotten.{fates-forget, queues-forget, counts-forget}
use Rattle.herm_waking.proofs.RoundsForgotten.{openings-forget, work-forgets, rounds-forget, schedules-forget}
use Rattle.herm_waking.proofs.RoundsKept.{nothing-kept, kept-rounds, kept-rounds-end}
use Rattle.herm_waking.proofs.Schedules.{gone-along, steps-made, schedules-there, kept-rounds-suffice}
use Rattle.herm_waking.proofs.WaitsEnd.{waits-end}
use Rattle.herm_waking.proofs.WorkedOn.{start-is-worked, events-are-worked}
use Rattle.herm_waking.proofs.WorldsReported.{worlds-reported}
use Rattle.herm_waking.proofs.WorldsSuit.{worlds-would-suit, world-diaries-tell}
use Rattle.herm_code_worlds.specs.CodeWorlds.{FindsItsOperands, its_ready, named, nameless, IsWithin}
use Rattle.herm_code_worlds.specs.laws.CodeLaws.{WorksWithoutNames, StaysAtDiary, RecordsRuns, WakesFew, GoesRounds, RunsFromStart}
use Rattle.herm_code_worlds.proofs.CountsForgotten.{counts-without-names}

pub works-without-names : (image : ReadyImage) → WorksWithoutNames image
works-without-names image =
    let machine = code_machine image in
    let bare = nameless_code image in
    let forgets = code-forgets-names image in
    let counting = counts-without-names image in record {
      process = forgets;
      counting = counting;
      standings = standings-forget machine bare forget_code forgets;
      awaited = awaited-forgets machine bare forget_code forgets;
      turns = turns-forget machine bare forget_code forgets;
      steps = steps-forget machine bare forget_code forgets;
      kept = kept-forgets machine bare forget_code forgets;
      begins = openings-forget machine bare forget_code forgets;
      stepped = work-forgets machine bare forget_code forgets;
      rounds = rounds-forget machine bare forget_code forgets;
      schedules = schedules-forget machine bare forget_code forgets;
      ends = fates-forget machine bare forget_code forgets counting;
      queues = queues-forget machine bare forget_code forgets counting;
      counts = counts-forget machine bare forget_code forgets counting;
    }

pub stays-at-diary : (image : ReadyImage) → StaysAtDiary image
stays-at-diary image = record {
  begins = begins-at (nameless_code image);
  steps = steps-keep (nameless_code image);
  actions = actions-keep (nameless_code image);
  stamps = stamps-between (nameless_code image);
}

pub records-runs : (image : ReadyImage) → RecordsRuns image
records-runs image = record {
  clocks = run-clocks (code_machine image);
  nothing_yet = nothing-yet (code_machine image);
  counts = counts-added (code_machine image);
}

-- a sound process finds its operands
finds-operands : (exceptions : ℕ) (image : Image) (main : ℕ) → IsGoodOver exceptions image → (x : CodeState Name) → IsWithin image main x → FindsItsOperands (its_ready image main) x
finds-operands exceptions image main good x sound = record {
  code = sound.0;
  its_code = sound.1;
  steps = λ i here. (runs-find_operands exceptions image main good sound.0).steps x (sound.0, sound.1, sound.2) sound.1 i here;
  answers = λ want at a wanted answers suits u left. (runs-find_operands exceptions image main good sound.0).answers x (sound.0, sound.1, sound.2) sound.1 want at a wanted answers suits u left;
}

pub wakes-few : (exceptions : ℕ) (image : Image) (main : ℕ) → IsGoodOver exceptions image → WakesFew image main
unfolding image-keeps-sound
wakes-few exceptions image main good =
    let keeps = image-keeps-sound exceptions image main good in record {
      one = one-looks-at (named image main) (IsWithin image main) keeps;
      local_steps = local-steps-wake (named image main) (IsWithin image main) keeps;
      others = others-stand (named image main) (IsWithin image main) keeps;
      ended = waits-end (named image main) (IsWithin image main) keeps;
      kept = events-keep-ready (named image main) (IsWithin image main) keeps;
    }

pub goes-rounds : (exceptions : ℕ) (image : Image) (main : ℕ) → IsGoodOver exceptions image → GoesRounds image main
unfolding image-keeps-sound
goes-rounds exceptions image main good =
    let keeps = image-keeps-sound exceptions image main good in
    let goes = goes-on exceptions image main good in record {
      worked = events-are-worked (named image main) (IsWithin image main) keeps;
      final = nothing-kept (named image main);
      rounds = kept-rounds (named image main) (IsWithin image main) keeps;
      end_ = kept-rounds-end (named image main) (IsWithin image main) keeps;
      along = gone-along (named image main) (IsWithin image main) keeps;
      steps = steps-made (named image main) (IsWithin image main) keeps goes;
      there = schedules-there (named image main) (IsWithin image main) keeps goes;
      suits = worlds-would-suit (named image main) (IsWithin image main) keeps;
    }

pub runs-from-start : (exceptions : ℕ) (image : Image) (main : ℕ) → IsGoodOver exceptions image → first_type (its_ready image main) main ≡ Some main_start → RunsFromStart image main
unfolding image-keeps-sound
runs-from-start exceptions image main good starts =
    let ready = its_ready image main in
    let keeps = image-keeps-sound exceptions image main good in
    let begins = begins-sound exceptions image main good starts in
    let limits-kept = code-keeps-limits ready in record {
      begins = begins.main;
      kept = first-is-kept (named image main) (IsWithin image main) keeps begins;
      worked = start-is-worked (named image main) (IsWithin image main) keeps begins;
      suffice = kept-rounds-suffice (named image main) (IsWithin image main) keeps (goes-on exceptions image main good) begins limits-kept;
      fit = run-clocks-fit (named image main) (events-are-bounded (named image main) (IsWithin image main) keeps begins limits-kept);
      told = λ limits argument events r texts is p x there.
          world-diaries-tell (named image main) (IsWithin image main) keeps begins (nameless image main) forget_code (code-forgets-names ready) limits argument (begins.main).0 events r texts (begins.main).1 is p x there;
      journal = λ limits argument events r is. one-run-journal (named image main) (code-keeps-numbers ready) limits argument (begins.main).0 events r (begins.main).1 is;
      report = λ limits argument events w names asked texts is good-world none.
          worlds-reported (named image main) (IsWithin image main) (FindsItsOperands ready) keeps begins stack_kinds (code-knows-places ready) (finds-operands exceptions image main good) limits argument (begins.main).0 events w names asked texts (begins.main).1 is good-world none;
    }
