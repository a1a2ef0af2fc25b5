-- A store with its cluster, which answers requests.
use Rattle.s3_types.specs.Coded.{coded_content, coded_files}
use Rattle.s3_types.specs.Fates.{FateMap, coded_fates}
use Rattle.s3_types.specs.Store.{Content, Files, Scene}
use Rattle.std.specs.Coded.{Coded, code_by, coded_ℕ, coded×}
use Rattle.std.specs.Prelude.{refl, ℕ}

-- The store and the cluster, and how many requests were made so far.
pub record Link : Type 0 where
  pub scene : Scene
  pub requests : ℕ

-- The store and the cluster, the fates of sends by their numbers from 1, and how many sends were made and lost so far.
pub record LossyLink : Type 0 where
  pub scene : Scene
  pub fates : FateMap
  pub requests : ℕ
  pub losses : ℕ

-- The code of the content of a store with its cluster.
abbrev pub coded_scene : Coded Scene
coded_scene = code_by (Content × Files) (coded× coded_content coded_files) (λ s. (s.content, s.files))
    (λ p. record { content = p.0; files = p.1 }) (λ _. refl)

-- The code of a store that answers every request.
abbrev pub coded_link : Coded Link
coded_link = code_by (Scene × ℕ) (coded× coded_scene coded_ℕ) (λ s. (s.scene, s.requests)) (λ p. record { scene = p.0; requests = p.1 })
    (λ _. refl)

-- The code of a store that loses sends by their fates.
abbrev pub coded_lossy : Coded LossyLink
coded_lossy =
    code_by (Scene × (FateMap × (ℕ × ℕ))) (coded× coded_scene (coded× coded_fates (coded× coded_ℕ coded_ℕ)))
    (λ s. (s.scene, (s.fates, (s.requests, s.losses))))
    (λ p. record { scene = p.0; fates = p.1.0; requests = p.1.1.0; losses = p.1.1.1 }) (λ _. refl)
