use Rattle.gi_help.proofs.answering.answer.Goals as goal

pub returns-in-Taken : goal.returns-in-Taken
returns-in-Taken g c = rw (c.in-Taken.is, ← c.as_slice.ensures.value) c.answer_text.ensures
