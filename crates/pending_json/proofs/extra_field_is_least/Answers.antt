use Rattle.pending_json.proofs.Least.{top_least, item_least}
use Rattle.pending_json.proofs.extra_field_is_least.Goals as goal

pub returns-clause-whole : goal.returns-clause-whole
returns-clause-whole c table bytes ms name e h = top_least table bytes ms name e h

pub returns-clause-listed : goal.returns-clause-listed
returns-clause-listed c table bytes d list ds i ms name e at here h = item_least table bytes d list ds i ms name e at here h
