use Rattle.std.proofs.Common.{ℕ, ◌<◌, ◌≡◌, ◌≤◌, IfSome, false, slice_get}
use Rattle.trace_text.specs.inner.Tapes.{is_reply_lost}
use Rattle.trace_text.proofs.replies.up_to_lost.Given as goal

abbrev pub invariant-loop-place : goal.invariant-loop-place
invariant-loop-place l =
    (k : ℕ) → l.lost ≤ k → k < l.place → IfSome (slice_get l.entries k) (λ e. is_reply_lost e.outcome ≡ false)
