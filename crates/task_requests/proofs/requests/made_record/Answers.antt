use Rattle.job_protocol.proofs.Sizes.{sizes_told}
use Rattle.pending_json.specs.Pending.{are_sizes}
use Rattle.std.proofs.Common.{List, Option, Some, ap, length, subst, sym, true, ℕ, ◌∙◌, ◌≡◌}
use Rattle.task_requests.proofs.requests.made_record.Goals as goal

pub new-requires-clause-sizes : goal.new-requires-clause-sizes
new-requires-clause-sizes c =
    let long = length c.as_slice.result.now in
    let fit : are_sizes (Some c.args.sizes) c.args.tags long ≡ true = ap (λ (l : List ℕ). are_sizes (Some c.args.sizes) c.args.tags
    (length l)) c.as_slice.ensures ∙ c.requires.sizes in
    subst (λ (s : Option (List ℕ)). are_sizes s c.args.tags long ≡ true) (sym c.told_sizes-sizes.ensures)
    (sizes_told c.args.plan.now.job.committer c.args.sizes c.args.tags long fit)
