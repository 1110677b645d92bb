use Rattle.std.proofs.Common.{◌∙◌}
use Rattle.std.specs.Str.{bytes_eq}
use Rattle.clap.proofs.WalkLemmas.{list_any-map}
use Rattle.herm_commands.proofs.subjects.is_among.Goals as goal

pub returns : goal.returns
returns c = record {
  among = c.is_one_of.ensures.among ∙ list_any-map (λ other. bytes_eq other c.args.word.now) (λ w. w.now) c.args.words.now;
}
