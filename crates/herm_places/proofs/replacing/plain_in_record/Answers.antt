use Rattle.std.proofs.Common.{[], ◌∷◌}
use Rattle.herm_places.proofs.Replaced.{record_seen, fields_done, fields_here, fields_plain, fields_there}
use Rattle.herm_places.proofs.replacing.plain_in_record.Goals as goal

pub returns-in-Fields-clause-done : goal.returns-in-Fields-clause-done
returns-in-Fields-clause-done c =
    let seen = record_seen c.args.held.now c.in-Fields.fields c.as_slice.result.now c.in-Fields.is c.as_slice.ensures.value in
    fields_done c.args.held.now c.as_slice.result.now seen (c.args.field ∷ []) _ c.plain_at.ensures.done

pub returns-in-Fields-clause-held : goal.returns-in-Fields-clause-held
returns-in-Fields-clause-held c =
    let seen = record_seen c.args.held.now c.in-Fields.fields c.as_slice.result.now c.in-Fields.is c.as_slice.ensures.value in
    fields_here c.args.held.now c.as_slice.result.now seen (c.args.field ∷ []) c.plain_at.result c.plain_at.ensures.held

pub returns-in-Fields-clause-plain : goal.returns-in-Fields-clause-plain
returns-in-Fields-clause-plain c = λ is_there.
    let seen = record_seen c.args.held.now c.in-Fields.fields c.as_slice.result.now c.in-Fields.is c.as_slice.ensures.value in
    fields_plain c.args.held.now c.as_slice.result.now seen (c.args.field ∷ []) (c.plain_at.ensures.plain is_there)

pub returns-in-Fields-clause-there : goal.returns-in-Fields-clause-there
returns-in-Fields-clause-there c =
    let seen = record_seen c.args.held.now c.in-Fields.fields c.as_slice.result.now c.in-Fields.is c.as_slice.ensures.value in
    fields_there c.args.held.now c.as_slice.result.now seen c.args.field c.plain_at.result c.plain_at.ensures.there
