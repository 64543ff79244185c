-- `line::put_text` meets its contract.
-- What is stored in the rest of the list is stored in the whole.
use Rattle.lists.specs.PutLaws.{put_rest}
use Rattle.page.proofs.line.put_text.Goals as goal

pub returns : goal.returns
returns c = put_rest _ _ _ _ _ c.min-m.ensures c.put_slice.ensures.text
