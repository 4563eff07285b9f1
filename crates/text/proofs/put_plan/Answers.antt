-- `put_plan` meets its contract: what is appended to an empty text stands at the buffer's front. Assumes nothing.
use mathlib.Core.Path.{◌∙◌}
use Rattle.writing.proofs.Writes.{appended_first}
use Rattle.text.proofs.put_plan.Goals as goal

pub returns : goal.returns
returns c = rw (c.as_bytes.ensures ∙ appended_first c.new-text.ensures c.append_plan.ensures.appends) at c.put_word.ensures
