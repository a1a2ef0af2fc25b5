-- The code of an audit's knowledge, by which proofs tell its values apart.
use Rattle.std.specs.Prelude.{ℕ, List, Option, refl}
use Rattle.std.specs.Coded.{Coded, code_by, coded_list, coded_option, coded_ℕ, coded×}
use Rattle.audit_judge.specs.Bench.{Bench}
use Rattle.audit_judge.specs.Codes.{coded_bench}
use Rattle.audit_objects.specs.Objects.{ObjectMap, coded_objects}
use Rattle.auditor.specs.AuditState.{AuditState}

abbrev pub coded_held : Coded AuditState
coded_held = code_by (((List ℕ × List ℕ) × ℕ) × (Bench × ObjectMap))
    (coded× (coded× (coded× (coded_list coded_ℕ) (coded_list coded_ℕ)) coded_ℕ) (coded× coded_bench coded_objects))
    (λ h. (((h.dest.bucket, h.dest.key), h.changes), (h.bench, h.objects)))
    (λ x. record { dest = record { bucket = x.0.0.0; key = x.0.0.1 }; bench = x.1.0; objects = x.1.1; changes = x.0.1 })
    (λ _. refl)

-- The code of an auditor's knowledge.
abbrev pub coded_known : Coded (Option AuditState)
coded_known = coded_option coded_held
