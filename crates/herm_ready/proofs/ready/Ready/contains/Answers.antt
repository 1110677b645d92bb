use Rattle.std.proofs.Common.{sym, ap, ◌∙◌, ◌/◌, ◌%◌, arith, nat_eq}
use Rattle.std.specs.Int.{bit_at}
use Rattle.std.proofs.lemmas.Nat.Bits.{shr_and_one}
use Rattle.herm_waking.specs.Numbers.{has}
use Rattle.herm_ready.specs.Table.{ReadySet}
use Rattle.herm_ready.proofs.Members.{has-members, outside, word-at}
use Rattle.herm_ready.proofs.ready.Ready.contains.Goals as goal

pub returns-then-place-len : goal.returns-then-place-len
returns-then-place-len c = record { member = sym (outside c.self.inside.words.items c.args.n (omega arith)) ∙ sym (has-members c.self.inside.words.items c.args.n) ∙ ap (λ (s : ReadySet). has c.args.n s.members) c.self.view_is }

pub returns : goal.returns
returns c = record { member = ap (λ b. nat_eq b 1) (shr_and_one c.index-word.result.now (c.args.n % 64)) ∙ ap (λ w. nat_eq (bit_at w (c.args.n % 64)) 1) (word-at c.self.inside.words.items (c.args.n / 64) c.index-word.result.now (omega arith) c.index-word.ensures) ∙ sym (has-members c.self.inside.words.items c.args.n) ∙ ap (λ (s : ReadySet). has c.args.n s.members) c.self.view_is }
