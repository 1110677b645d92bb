use Rattle.std.proofs.Common.{◌≡◌, sym, ap, ◌∙◌, ◌≤◌, ◌<◌, ◌*◌, ◌+◌, ◌/◌, ◌%◌, arith, length, w64}
use Rattle.std.specs.Int.{trailing_zeros}
use Rattle.herm_waking.specs.Numbers.{next_from}
use Rattle.herm_ready.specs.Table.{ReadySet}
use Rattle.herm_ready.proofs.Members.{next-absent, word-at}
use Rattle.herm_ready.proofs.NextMembers.{none-rest, found-rest, rest_of}
use Rattle.herm_ready.proofs.Summaries.{none-later-on, first-there, found-later-on}
use Rattle.herm_ready.proofs.ready.Ready.next_from.Goals as goal

pub returns-then-place-len : goal.returns-then-place-len
returns-then-place-len c = record { first = sym (next-absent c.self.inside.words.items c.args.from (λ r le lt. absurd (omega arith))) ∙ ap (λ (s : ReadySet). next_from c.args.from s.members) c.self.view_is }

pub returns-then-rest-ne0 : goal.returns-then-rest-ne0
returns-then-rest-ne0 c =
    record { first = sym (found-rest c.self.inside.words.items c.args.from c.index.result.now (word-at c.self.inside.words.items (c.args.from / 64) c.index.result.now (omega arith) c.index.ensures) (omega (arith, c.if-rest-ne0.true))) ∙ ap (λ (s : ReadySet). next_from c.args.from s.members) c.self.view_is }

pub returns-then-later-eq0 : goal.returns-then-later-eq0
returns-then-later-eq0 c =
    record {
      first =
          sym (none-later-on c.self.inside.filled c.self.inside.words.items c.args.from c.self.invariant.summary (omega (arith, c.self.invariant.long, c.self.invariant.few)) (omega arith)
          (none-rest c.self.inside.words.items c.args.from c.index.result.now (word-at c.self.inside.words.items (c.args.from / 64) c.index.result.now (omega arith) c.index.ensures) c.if-rest-ne0.false)
          c.if-later-eq0.true)
          ∙ ap (λ (s : ReadySet). next_from c.args.from s.members) c.self.view_is;
    }

pub index-word-requires : goal.index-word-requires
index-word-requires c =
    let there : trailing_zeros w64 (rest_of c.self.inside.filled (c.args.from / 64 + 1)) < length c.self.inside.words.items =
    first-there c.self.inside.filled c.self.inside.words.items c.args.from c.self.invariant.summary (omega (arith, c.self.invariant.long, c.self.invariant.few)) (omega arith)
    (none-rest c.self.inside.words.items c.args.from c.index.result.now (word-at c.self.inside.words.items (c.args.from / 64) c.index.result.now (omega arith) c.index.ensures) c.if-rest-ne0.false)
    c.if-later-eq0.false in
    omega (arith, there)

pub returns : goal.returns
returns c =
    let few : length c.self.inside.words.items ≤ 63 = omega (arith, c.self.invariant.long, c.self.invariant.few) in
    let none = none-rest c.self.inside.words.items c.args.from c.index.result.now (word-at c.self.inside.words.items (c.args.from / 64) c.index.result.now (omega arith) c.index.ensures) c.if-rest-ne0.false in
    let there = first-there c.self.inside.filled c.self.inside.words.items c.args.from c.self.invariant.summary few (omega arith) none c.if-later-eq0.false in
    record {
      first =
          sym (found-later-on c.self.inside.filled c.self.inside.words.items c.args.from c.self.invariant.summary few (omega arith) none c.if-later-eq0.false c.index-word.result.now
          (word-at c.self.inside.words.items _ c.index-word.result.now there c.index-word.ensures) (omega arith))
          ∙ ap (λ (s : ReadySet). next_from c.args.from s.members) c.self.view_is;
    }
