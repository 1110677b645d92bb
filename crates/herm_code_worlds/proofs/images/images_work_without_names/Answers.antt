use Rattle.herm_code_worlds.proofs.ImageWorlds.{works-without-names, stays-at-diary, records-runs}
use Rattle.herm_code_worlds.proofs.ReportsBare.{reports-bare}
use Rattle.herm_code_worlds.proofs.images.images_work_without_names.Goals as goal

pub returns : goal.returns
returns c = record { names = works-without-names; reports = reports-bare; diaries = stays-at-diary; records = records-runs }
