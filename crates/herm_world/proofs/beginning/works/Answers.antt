use Rattle.std.proofs.Common.{◌<◌, length, subst}
use Rattle.herm_code.specs.View.{image_view}
use Rattle.herm_meaning.specs.Names.{NamedTable}
use Rattle.herm_model.specs.WellFormedTables.{IsWellFormedTable}
use Rattle.herm_model.proofs.Lists.{length-map}
use Rattle.herm_code_machine.specs.laws.GoodImageLaws.{IsGoodOver}
use Rattle.herm_code_worlds.proofs.WorldWorks.{works-as-world}
use Rattle.herm_world.proofs.Opened.{main-there}
use Rattle.herm_world.proofs.beginning.works.Goals as goal

pub returns-clause-works : goal.returns-clause-works
returns-clause-works c =
    let good : IsGoodOver (length c.args.image.now.types.exceptions) (image_view c.args.image.now) =
    record { good = c.keeps.ensures.good; table = subst (λ (t : NamedTable). IsWellFormedTable (length t.exceptions) t.shapes) c.types.ensures.types c.keeps-2.ensures.well_named.well_formed } in
    works-as-world (length c.args.image.now.types.exceptions) (image_view c.args.image.now) c.args.main good c.requires.main

pub returns-clause-there : goal.returns-clause-there
returns-clause-there c = subst (λ n. c.args.main < n) (length-map _ c.args.image.now.modules) (main-there (image_view c.args.image.now) c.args.main c.requires.main)
