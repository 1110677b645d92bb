use Rattle.std.proofs.Common.{◌<◌, ◌-◌, ◌*◌, ◌/◌, ◌%◌, ◌^◌, length, set, bit_and, get_or-set_same, sym, ap, ◌∙◌, arith, rules}
use Rattle.std.proofs.Math.Seq.{lt-length-set}
use Rattle.herm_waking.specs.Numbers.{removed}
use Rattle.herm_ready.specs.Table.{ReadySet}
use Rattle.herm_ready.proofs.Members.{members-removed, members-outside, word-at}
use Rattle.herm_ready.proofs.Summaries.{summed-emptied}
use Rattle.herm_ready.proofs.ready.Ready.remove.Goals as goal

pub returns-then-index-eq0 : goal.returns-then-index-eq0
returns-then-index-eq0 c = record { removed = ap (λ m. record { limit = c.self.inside.limit; members = m }) (members-removed c.self.inside.words.items c.args.n c.index_mut.result.now (omega arith) c.index_mut.ensures.value) ∙ ap (λ (s : ReadySet). record s { members = removed c.args.n s.members }) c.self.view_is }

pub returns-else-index-eq0 : goal.returns-else-index-eq0
returns-else-index-eq0 c = record { removed = ap (λ m. record { limit = c.self.inside.limit; members = m }) (members-removed c.self.inside.words.items c.args.n c.index_mut.result.now (omega arith) c.index_mut.ensures.value) ∙ ap (λ (s : ReadySet). record s { members = removed c.args.n s.members }) c.self.view_is }

pub returns-else-place-len : goal.returns-else-place-len
returns-else-place-len c = record { removed = sym c.self.view_is ∙ ap (λ m. record { limit = c.self.inside.limit; members = m }) (members-outside c.self.inside.words.items c.args.n (omega arith)) ∙ ap (λ (s : ReadySet). record s { members = removed c.args.n s.members }) c.self.view_is }

pub invariant_of-self : goal.invariant_of-self
invariant_of-self c =
    let within : c.args.n / 64 < length c.self.inside.words.items = omega arith in
    let few : c.args.n / 64 < 64 = omega (arith, within, c.self.invariant.long, c.self.invariant.few) in
    let rest = bit_and c.index_mut.result.now (18446744073709551615 - 1 * 2 ^ (c.args.n % 64) % 18446744073709551616) in
    let word = word-at (set c.self.inside.words.items (c.args.n / 64) rest) (c.args.n / 64) c.index.result.now (lt-length-set c.self.inside.words.items (c.args.n / 64) rest within) c.index.ensures ∙ get_or-set_same c.self.inside.words.items (c.args.n / 64) rest 0 within in
    record {
      long = search rules;
      few = c.self.invariant.few;
      summary = summed-emptied c.self.inside.filled c.self.inside.words.items (c.args.n / 64) rest within few (sym word ∙ c.if-index-eq0.true) c.self.invariant.summary;
    }
