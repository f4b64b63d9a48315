use Rattle.std.proofs.Common.{◌∙◌}
use Rattle.gi_text.specs.Words.{words_of}
use Rattle.gi_wire.proofs.Joining.{reads_alone, reads_both, tells_nil, tells_some}
use Rattle.gi_wire.proofs.Plus.{list_stays}
use Rattle.gi_wire.proofs.begun.read_behind.Goals as goal

pub returns-then-is_empty : goal.returns-then-is_empty
returns-then-is_empty c = reads_alone c.read_call.result c.args.text.now c.args.line.now (tells_nil c.args.text.now c.as_slice.result.now c.is_empty.result c.as_slice.ensures c.is_empty.ensures c.if-is_empty.true) c.read_call.ensures

pub returns-in-Ok : goal.returns-in-Ok
returns-in-Ok c = reads_both c.read_call-in-Ok.result c.args.text.now c.args.line.now c.as_slice-in-Ok.result.now c.requires.words (c.as_slice-in-Ok.ensures ∙ c.in-Ok.ensures.ok) c.read_call-in-Ok.ensures

pub returns-in-Err : goal.returns-in-Err
returns-in-Err c = list_stays (words_of c.args.text.now) (words_of c.args.line.now) (c.requires.list (tells_some c.args.text.now c.as_slice.result.now c.is_empty.result c.as_slice.ensures c.is_empty.ensures c.if-is_empty.false))
