use Rattle.trace_lines.specs.inner.Requests.{sent_bytes}
use Rattle.trace_lines.proofs.Tagged.{digits_spell}
use Rattle.trace_lines.proofs.requests.write_by.Goals as goal

pub put_request-requires-clause-etag : goal.put_request-requires-clause-etag
put_request-requires-clause-etag c = digits_spell (sent_bytes c.args.entry.now.request) _ _ c.sent_tag-tag.ensures c.digits.ensures
