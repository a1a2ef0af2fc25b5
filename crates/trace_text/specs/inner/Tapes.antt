-- How far the trace of a run is written, and which sends are left to write.
use Rattle.std.specs.Prelude.{◌≡◌, ℕ, ◌+◌, ◌<◌, ◌≤◌, ◌^◌, Bool, true, false, not, ◌&&◌, ◌||◌, cond, nat_lt}
use Rattle.std.specs.Prelude.{List, [], ◌++◌, Option, drop, length, slice_get, string_bytes, IfSome}
use Rattle.s3_types.specs.Answer.{answer}
use Rattle.s3_types.specs.Moment.{IsHonest, effect, moment}
use Rattle.s3_types.specs.Store.{Content}
use Rattle.s3_types.specs.declared.journal.Entry.{Entry}
use Rattle.s3_types.specs.declared.journal.Outcome.{Outcome}
use Rattle.s3_types.specs.declared.journal.Outcome.TheVariants.{Answered, ReplyLost}
use Rattle.s3_types.specs.declared.reply.Reply.{Reply}
use Rattle.s3_types.specs.declared.reply.Reply.TheVariants.{Deleted}
use Rattle.trace_lines.specs.Requests.{request_line}
use Rattle.trace_text.specs.declared.tape.Tape.{Tape}
use Rattle.trace_text.specs.Sends.{Send, commit_line, is_of_commit, sends_from}

-- True if the send took effect but its reply was lost.
abbrev pub is_reply_lost : Outcome → Bool
is_reply_lost ReplyLost = true
is_reply_lost _ = false

-- The reply that the sender received, or `Deleted` if it received none.
abbrev pub reply_told : Outcome → Reply
reply_told (Answered reply) = reply
reply_told _ = Deleted

-- None of the sends after the first n lost its reply.
abbrev pub NoneLostBehind : ℕ → List Entry → Type 0
NoneLostBehind n journal = (k : ℕ) → n ≤ k → IfSome (slice_get journal k) (λ e. is_reply_lost e.outcome ≡ false)

-- The tape is at some point of a run over a store with this content. The run's answers are those that S3 must give, and no reply was lost
-- after the first `lost` sends. Until these are written, the tape's store is that of the run at this point.
pub record Follows (c : Content) (t : Tape) (journal : List Entry) : Type 0 where
  pub honest : IsHonest c journal
  pub few : length journal < 2 ^ 62
  pub told : NoneLostBehind t.lost journal
  pub store : t.at < t.lost → t.store.scene ≡ moment c journal t.at
  pub counted : t.store.requests ≤ t.at

-- The sends after those that are written.
abbrev pub left : Option ℕ → Content → Tape → List Entry → List Send
left commit c t journal = sends_from commit (t.at + 1) t.begun (moment c journal t.at) (drop t.at journal)

-- The reply with which the tape's next line is written: the answer of its store, or, after the first `lost` sends, the reply that the
-- sender received.
abbrev pub reply_known : Tape → Entry → Reply
reply_known t e = cond (nat_lt t.at t.lost) (answer t.store.scene e.request) (reply_told e.outcome)

-- The lines of a send are written with that reply, and the tape has gone past the send.
pub record HasWritten (commit : Option ℕ) (e : Entry) (t u : Tape) : Type 0 where
  pub text : string_bytes u.text ≡ string_bytes t.text
      ++ (cond (not t.begun && is_of_commit commit e) commit_line [] ++ request_line (t.at + 1) e (reply_known t e))
  pub at : u.at ≡ t.at + 1
  pub begun : u.begun ≡ (t.begun || is_of_commit commit e)
  pub lost : u.lost ≡ t.lost
  pub scene : t.at < t.lost → u.store.scene ≡ effect t.store.scene e.request e.outcome
  pub counted : u.store.requests ≤ u.at
