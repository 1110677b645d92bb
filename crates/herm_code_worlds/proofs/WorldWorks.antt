-- A good image works as a world.
use Rattle.herm_code_worlds.specs.CodeWorlds.{its_ready}
use Rattle.herm_code_worlds.specs.laws.WorldOfCode.{ImagesWorkAsWorlds}
use Rattle.herm_code_worlds.proofs.ImageWorlds.{works-without-names, stays-at-diary, records-runs, wakes-few, goes-rounds, runs-from-start}
use Rattle.herm_code_worlds.proofs.ReportsBare.{reports-bare}
use Rattle.herm_code_worlds.proofs.RunsShown.{shows-runs}

pub works-as-world : ImagesWorkAsWorlds
works-as-world exceptions image main good starts = record {
  waking = wakes-few exceptions image main good;
  rounds = goes-rounds exceptions image main good;
  runs = runs-from-start exceptions image main good starts;
  records = records-runs (its_ready image main);
  diaries = stays-at-diary (its_ready image main);
  without_names = works-without-names (its_ready image main);
  reports = reports-bare (its_ready image main);
  shown = shows-runs exceptions image main good starts;
}
