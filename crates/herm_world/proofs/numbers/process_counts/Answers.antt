use Rattle.herm_world.proofs.numbers.process_counts.Goals as goal

pub returns : goal.returns
returns c = record {
  counts = λ image main x is. record {
    steps = (c.counts-steps.ensures.counts image main x is).0;
    actions = (c.counts-steps.ensures.counts image main x is).1;
    made = c.cells-made.ensures.made image main x is;
    held = c.cells-made.ensures.held image main x is;
    finalised = c.cells-made.ensures.finalised image main x is;
  };
}
