-- The requests that the shell sends.
use Rattle.log_format.specs.Change.{is_changing}
use Rattle.s3_types.specs.Answer.{apply}
use Rattle.s3_types.specs.Store.{Scene}
use Rattle.s3_types.specs.declared.journal.Entry.{Entry}
use Rattle.s3_types.specs.declared.journal.Outcome.{Outcome}
use Rattle.s3_types.specs.declared.journal.Outcome.TheVariants.{Answered, ReplyLost, RequestLost, Slow}
use Rattle.s3_types.specs.declared.reply.Reply.{Reply}
use Rattle.s3_types.specs.declared.reply.Reply.TheVariants.{Refused}
use Rattle.s3_types.specs.declared.request.Request.{Request}
use Rattle.std.specs.List.{list_any}
use Rattle.std.specs.Prelude.{Bool, List, false, not, true, ◌&&◌, ◌≡◌, ◌⊎◌}

-- Holds if the request has taken effect in s, or not yet.
abbrev pub AppliedOrNot : Request → Scene → Scene → Type 0
AppliedOrNot r z s = (s ≡ z) ⊎ (s ≡ apply z r)

-- ---- what changes a store

-- True if the reply is a refusal.
abbrev pub is_refusal : Reply → Bool
is_refusal (Refused r) = true
is_refusal _ = false

-- True if the request may have taken effect: it was answered and not refused, or its reply was lost.
abbrev pub is_taken : Outcome → Bool
is_taken (Answered reply) = not (is_refusal reply)
is_taken Slow = false
is_taken RequestLost = false
is_taken ReplyLost = true

-- True if the request is no read and no list, and may have taken effect.
abbrev pub is_change : Entry → Bool
is_change entry = is_changing entry.request && is_taken entry.outcome

-- True if some of these requests may have changed the store.
abbrev pub has_changed : List Entry → Bool
has_changed entries = list_any is_change entries
