use Rattle.herm_pieces.proofs.Images.{code_there, no_code}
use Rattle.herm_pieces.proofs.code.Code.of.Goals as goal

pub returns-in-Some : goal.returns-in-Some
returns-in-Some c = record { code = λ main. rw (c.constants-constants.ensures.constants, c.types-types.ensures.types) (code_there c.args.image.now c.args.number main c.in-Some.code.now c.in-Some.ensures.found) }

pub returns-in-None : goal.returns-in-None
returns-in-None c = record { code = λ main. no_code c.args.image.now c.args.number main c.in-None.ensures.found }
