use Rattle.job_spec.specs.ReportText.{actor_end_text}
use Rattle.std.proofs.Common.{codes, drop, string_bytes, ◌++◌, ◌∷◌, ◌≡◌}
use Rattle.std.specs.List.{flat_map, join_by}
use Rattle.job_report.proofs.ends.write_mixed.Given as goal

abbrev pub invariant-loop-actor_end : goal.invariant-loop-actor_end
invariant-loop-actor_end l =
    string_bytes l.text ++ flat_map (λ x. codes ", " ++ actor_end_text x) (drop l.actor_end-index l.rest)
    ≡ string_bytes l.fn.text ++ join_by actor_end_text (codes ", ") (l.first ∷ l.rest)
