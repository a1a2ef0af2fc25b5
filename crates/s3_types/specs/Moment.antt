-- The states of the store and the cluster through which a journal leads.
use Rattle.std.specs.Prelude.{◌≡◌, ℕ, Bool, true, false, List, [], ◌∷◌, take}
use Rattle.s3_types.specs.Store.{Content, Scene, opening}
use Rattle.s3_types.specs.Answer.{answer, apply}
use Rattle.s3_types.specs.declared.request.Request.{Request}
use Rattle.s3_types.specs.declared.reply.Reply.{Reply}
use Rattle.s3_types.specs.declared.journal.Outcome.{Outcome}
use Rattle.s3_types.specs.declared.journal.Outcome.TheVariants.{Answered, Slow, RequestLost}
use Rattle.s3_types.specs.declared.journal.Entry.{Entry}

-- True if the send takes effect: it was answered, or only its reply was lost.
abbrev pub is_effective : Outcome → Bool
is_effective Slow = false
is_effective RequestLost = false
is_effective _ = true

-- The scene after a send with this outcome.
abbrev pub effect : Scene → Request → Outcome → Scene
effect s r Slow = s
effect s r RequestLost = s
effect s r _ = apply s r

-- The scene after all these entries.
abbrev pub after_all : Scene → List Entry → Scene
after_all s [] = s
after_all s (e ∷ es) = after_all (effect s e.request e.outcome) es

-- The scene after the first m entries of a run that began with this content and an empty cluster.
abbrev pub moment : Content → List Entry → ℕ → Scene
moment content es m = after_all (opening content) (take m es)

-- If the request was answered, the answer is `due`.
abbrev pub IsHonestOutcome : Outcome → Reply → Type 0
IsHonestOutcome (Answered a) due = a ≡ due
IsHonestOutcome _ due = Unit {0}

-- Each answer in the entries is the one that the scene gives at that point.
abbrev pub AreHonest : Scene → List Entry → Type 0
AreHonest s [] = Unit {0}
AreHonest s (e ∷ es) = IsHonestOutcome e.outcome (answer s e.request) × AreHonest (effect s e.request e.outcome) es

-- Each answer of a run that began with this content is the one that the scene gives at that point.
abbrev pub IsHonest : Content → List Entry → Type 0
IsHonest content es = AreHonest (opening content) es

-- True if no answer arrived: the send was slowed down, or the request or the reply was lost.
abbrev pub is_unanswered : Outcome → Bool
is_unanswered (Answered a) = false
is_unanswered _ = true
