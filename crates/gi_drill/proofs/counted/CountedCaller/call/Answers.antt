use Rattle.std.proofs.Common.{ap, ◌∙◌}
use Rattle.gi_drill.specs.Counting.{kind_noted}
use Rattle.gi_drill.specs.declared.kind.Kind.{Kind}
use Rattle.gi_drill.proofs.Tallies.{counts_entry, counts_none}
use Rattle.gi_drill.proofs.counted.CountedCaller.call.Goals as goal

pub returns-in-Recorded-clause-kept : goal.returns-in-Recorded-clause-kept
returns-in-Recorded-clause-kept g c = (
  counts_entry c.args.call _ c.reply.result.now _ _ _ _ c.requires c.in-Recorded.ensures.makes c.reply.ensures
      (c.note_reply.ensures ∙ ap (λ (k : Kind). kind_noted c.args.self.now.tally k c.reply.result.now) c.of-kind.ensures),
  c.call-answered.ensures.kept,
)

pub returns-in-NoMemory-clause-kept : goal.returns-in-NoMemory-clause-kept
returns-in-NoMemory-clause-kept g c = (counts_none c.args.call _ _ _ c.in-NoMemory.ensures.makes.0, c.call-answered.ensures.kept)

pub returns-in-Spent-clause-kept : goal.returns-in-Spent-clause-kept
returns-in-Spent-clause-kept g c = (counts_none c.args.call _ _ _ c.in-Spent.ensures.makes.0, c.call-answered.ensures.kept)
