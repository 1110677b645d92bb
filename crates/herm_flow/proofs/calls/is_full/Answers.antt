use Rattle.std.proofs.Common.{sym, ap, ◌∙◌, length}
use Rattle.std.proofs.lemmas.Bool.{eqb-true}
use Rattle.std.proofs.lemmas.List.{nil_from_length}
use Rattle.herm_flow.proofs.calls.is_full.Goals as goal

pub returns-in-Some : goal.returns-in-Some
returns-in-Some c = record { full = λ t. (c.in-Some.head.now, c.in-Some.ensures.member, c.in-Some.ensures.point, sym c.as_slice.ensures.value ∙ nil_from_length c.as_slice.result.now (eqb-true (length c.as_slice.result.now) 0 (sym c.is_empty.ensures ∙ t))) }
