use Rattle.std.proofs.Common.{◌≡◌, false, drop}
use Rattle.herm_lexer.specs.Reading.{content_of}
use Rattle.herm_lexer.proofs.Contents.{appended}
use Rattle.herm_lexer.proofs.string.content.Given as goal

-- the content so far, with that of the bytes that are left, is the content of all
abbrev pub invariant-loop-b : goal.invariant-loop-b
invariant-loop-b l = appended l.content.items (content_of l.escaping (drop l.b-index l.inside)) ≡ content_of false l.inside
