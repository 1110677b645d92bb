use Rattle.std.proofs.Common.{sym, ap, ◌∙◌, arith, rules}
use Rattle.herm_waking.specs.Numbers.{inserted}
use Rattle.herm_ready.specs.Table.{ReadySet}
use Rattle.herm_ready.proofs.Members.{members-inserted}
use Rattle.herm_ready.proofs.Summaries.{summed-inserted}
use Rattle.herm_ready.proofs.ready.Ready.insert.Goals as goal

pub returns : goal.returns
returns c = record { inserted = ap (λ m. record { limit = c.self.inside.limit; members = m }) (members-inserted c.self.inside.words.items c.args.n c.index_mut.result.now (omega (arith, ap (λ (s : ReadySet). s.limit) c.self.view_is)) c.index_mut.ensures.value) ∙ ap (λ (s : ReadySet). record s { members = inserted c.args.n s.members }) c.self.view_is }

pub invariant_of-self : goal.invariant_of-self
invariant_of-self c =
    record {
      long = search rules;
      few = c.self.invariant.few;
      summary = summed-inserted c.self.inside.filled c.self.inside.words.items c.args.n c.index_mut.result.now (omega (arith, ap (λ (s : ReadySet). s.limit) c.self.view_is)) (omega (arith, ap (λ (s : ReadySet). s.limit) c.self.view_is)) c.self.invariant.summary;
    }
