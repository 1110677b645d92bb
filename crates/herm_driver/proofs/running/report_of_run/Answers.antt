use Rattle.std.proofs.Common.{◌∙◌, sym, ap, refl}
use Rattle.herm_commands.specs.Words.{options_seen}
use Rattle.herm_driver.specs.Words.{limits_of}
use Rattle.herm_driver.proofs.Ended.{rounds-at, end-reported}
use Rattle.herm_driver.proofs.running.report_of_run.Goals as goal

pub returns : goal.returns
returns c =
    let leads = c.in_ok-rounds.ensures.ends _ _ _ _ _ c.in_ok-world.ensures.begins in
    let told = c.in_ok-report.ensures in record {
      reports = end-reported _ _ (limits_of (options_seen c.args.options.now)) c.args.options.now.arg.now c.rounds.new.self _ _ _ leads.run leads.bare c.in_ok-report.report
          (c.in_ok-rounds.ensures.same.image ∙ c.in_ok-world.ensures.image) (c.in_ok-rounds.ensures.same.main ∙ c.in_ok-world.ensures.main) refl c.as_bytes.ensures.value
          leads.shows leads.nobody leads.most (rounds-at _ _ _ _ leads.most _ _ c.in_ok-world.ensures.image c.in_ok-world.ensures.main leads.goes)
          (told.journal _ _ _ leads.run leads.bare leads.shows) (told.ends _ _ _ leads.run leads.bare leads.shows)
          (told.queued _ _ _ leads.run leads.bare leads.shows) (told.counts _ _ _ leads.run leads.bare leads.shows);
    }
