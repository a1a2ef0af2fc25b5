-- Definitions beside those of `Scene` that no public contract cites.
use Rattle.audit_claims.specs.Claims.{Tags}
use Rattle.audit_claims.specs.Directories.{AreOf, Reached}
use Rattle.audit_claims.specs.Etags.{TagMap}
use Rattle.audit_judge.specs.Scene.{Scene}
use Rattle.audit_judge.specs.inner.Tests.{differs, foreign_at, left_at, lost_at, suits_part, suits_whole}
use Rattle.audit_judge.specs.declared.signs.Demand.{Demand}
use Rattle.audit_judge.specs.declared.signs.Demand.TheVariants.{Part, Whole}
use Rattle.audit_judge.specs.declared.signs.Sign.{Sign}
use Rattle.audit_judge.specs.declared.signs.Sign.TheVariants.{Differs, Foreign, Left, Lost}
use Rattle.judging.specs.Listed.{Listed, claim_of}
use Rattle.soundness.specs.Claims.{Claim}
use Rattle.soundness.specs.Moments.{Shown}
use Rattle.std.specs.Prelude.{Bool, List, None, Option, Some, ℕ}
use Rattle.std.specs.FinMap as fin

-- The files of a map as readers see them.
abbrev pub seen : TagMap → Shown Tags
seen m p = fin.get m p

-- The claim of a scene.
abbrev pub claim_in : Scene → Claim Tags
claim_in s = claim_of s.keeps s.tasks s.claimed.listed

-- The directories, once they are known, are those of the listed attempts.
abbrev pub AreKnown : Listed Tags → Option Reached → Type 0
AreKnown listed None = Unit {0}
AreKnown listed (Some reached) = AreOf listed reached

-- True if the path shows this sign.
abbrev pub shows_sign : Sign → Scene → List ℕ → Bool
shows_sign Differs s p = differs (seen s.opening) (seen s.shown) p
shows_sign Foreign s p = foreign_at s.claimed.listed (seen s.opening) (seen s.shown) p
shows_sign Lost s p = lost_at (claim_in s) s.claimed.listed (seen s.opening) (seen s.shown) p
shows_sign Left s p = left_at (claim_in s) s.claimed.listed (seen s.opening) (seen s.shown) p

-- True if what readers see at the path meets the demand on an attempt that has this file there.
abbrev pub meets : Demand → Scene → List ℕ → Option Tags → Bool
meets Part s p f = suits_part (claim_in s) (seen s.opening) (seen s.shown) p f
meets Whole s p f = suits_whole (claim_in s) (seen s.opening) (seen s.shown) p f
