-- `decode` meets its contract. Assumes nothing.
use Rattle.decoding.proofs.Shape.{heading-records}
use Rattle.decoding.proofs.Standing.{Parts, stands, holds}
use Rattle.decoding.proofs.table.decode.Goals as goal

pub returns : goal.returns
returns c =
    let found = c.choices_of-choices.ensures in
    let copied = c.records_of.ensures in
    let entries = c.roots_of-roots.ensures in
    let parts : Parts c.args.file.now (record {
      variables = c.variable_count.result;
      records = c.record_count.result;
      choices = c.choices_of-choices.result.count;
      scale = c.args.scale;
      words = c.words_of-words.result;
      choice_positions = c.choices_of-choices.result.positions;
      kits = c.choices_of-choices.result.kits;
      positions = c.records_of.result.positions;
      high = c.records_of.result.high;
      low = c.records_of.result.low;
      roots = c.roots_of-roots.result.count;
      nodes = c.roots_of-roots.result.nodes;
      rewards = c.roots_of-roots.result.rewards;
    }) = record {
      variables = c.variable_count.ensures.count;
      records = c.record_count.ensures.count;
      choices = found.count;
      scaled = c.requires.scale;
      words = c.words_of-words.ensures;
      choice_positions = found.positions;
      kits = found.kits;
      positions = copied.positions;
      high = copied.high;
      low = copied.low;
      roots = entries.count;
      nodes = entries.nodes;
      rewards = entries.rewards;
    } in
    let few = (heading-records _ c.requires.shaped.0.heading).1 in
    record { table = stands parts few; held = holds parts few; words = parts.words }
