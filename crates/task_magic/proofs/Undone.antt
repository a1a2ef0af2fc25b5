-- An abort after a reply, by how many of its uploads are aborted.
use Rattle.job_model.specs.JobScript.{Script}
use Rattle.job_model.specs.Known.{Drawn, Known}
use Rattle.job_model.specs.declared.ends.TaskEnd.{TaskEnd}
use Rattle.job_protocol.specs.Knowledge.{as_made}
use Rattle.job_protocol.specs.TaskAborts.{dropping, task_abort_hears}
use Rattle.list_walk.specs.Walks.{Sweep, sweep_start}
use Rattle.s3_types.specs.declared.reply.Reply.{Reply}
use Rattle.s3_types.specs.declared.request.Committer.{Committer}
use Rattle.s3_types.specs.declared.request.Committer.TheVariants.{Magic}
use Rattle.std.proofs.Common.{Bool, List, None, Option, add-one, ap, arith, drop, length, refl, suc, sym, zero, ℕ, [], ◌+◌, ◌<◌, ◌∙◌, ◌∷◌}
use Rattle.std.proofs.Common.{◌≡◌}
use Rattle.task_magic.specs.Undoing.{abort_by, abort_from}

-- ---- after an upload

from_start : (c : Committer) (ds : List Drawn) (sent : Bool) → c ≡ Magic → abort_from ds sent sweep_start ≡ dropping c sent ds
from_start c [] sent h = ap (λ (x : Committer). dropping x sent []) (sym h)
from_start c (d ∷ ds) sent h = refl

-- The list from an index on begins with an item, if the index is in range.
pub first_of : {X : Type 0} (xs : List X) (at : ℕ) → at < length xs → (x : X) × (drop at xs ≡ x ∷ drop (at + 1) xs)
first_of [] at h = absurd (omega arith)
first_of (x ∷ xs) zero h = (x, refl)
first_of (x ∷ xs) (suc i) h = let y = first_of xs i (omega arith) in (y.0, y.1 ∙ rw (add-one, add-one) refl)

pub goes_drawn : (w : Script) (k : Known) (at : ℕ) (s z : Sweep) (end : Option TaskEnd) (r : Reply) → end ≡ None → w.committer ≡ Magic
    → z ≡ sweep_start → at < length (as_made k.drawn)
    → abort_by k (at + 1) z end ≡ task_abort_hears w (abort_by k at s end) r
goes_drawn w k at s z end r e h g i =
    let x = first_of (as_made k.drawn) at i in
    ap (abort_by k (at + 1) z) e
    ∙ (ap (abort_from (drop (at + 1) (as_made k.drawn)) k.put_sent) g
    ∙ (from_start w.committer (drop (at + 1) (as_made k.drawn)) k.put_sent h
    ∙ sym (ap (λ o. task_abort_hears w (abort_by k at s o) r) e ∙ ap (λ l. task_abort_hears w (abort_from l k.put_sent s) r) x.1)))
