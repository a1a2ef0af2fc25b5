-- Definitions beside those of `Coded` that no public contract cites.
use Rattle.s3_types.specs.Coded.{coded_text}
use Rattle.s3_types.specs.declared.request.UploadRef.{UploadRef}
use Rattle.std.specs.Coded.{Coded, code_by, coded_ℕ, coded×}
use Rattle.std.specs.Prelude.{List, refl, ℕ}

-- The code of an upload's key and id.
abbrev pub coded_ref : Coded UploadRef
coded_ref = code_by (List ℕ × ℕ) (coded× coded_text coded_ℕ) (λ r. (r.key, r.upload)) (λ p. record { key = p.0; upload = p.1 }) (λ _. refl)

-- The code of the unit value.
abbrev pub coded_unit : Coded (Unit {0})
coded_unit = code_by ℕ coded_ℕ (λ u. 0) (λ n. tt) (λ _. refl)
