-- `files::choice_file::limit` answers the limit of the file's first four bytes.
use Rattle.files.proofs.Limits.{limit_none, limit_some}
use Rattle.files.proofs.choice_file.limit.Goals as goal

pub returns-then-n-eq0 : goal.returns-then-n-eq0
returns-then-n-eq0 c = limit_none _ _ _ _ _ c.byte_at-3.ensures.0 c.byte_at-4.ensures.0 c.byte_at.ensures.0 c.byte_at-2.ensures.0 c.if-n-eq0.true

pub returns : goal.returns
returns c = limit_some _ _ _ _ _ c.byte_at-3.ensures.0 c.byte_at-4.ensures.0 c.byte_at.ensures.0 c.byte_at-2.ensures.0 c.if-n-eq0.false
