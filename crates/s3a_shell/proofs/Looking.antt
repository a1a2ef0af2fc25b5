-- A command that only looks sends no change.
use Rattle.bucket_ops.specs.Asks.{Ask, Get, Head, Page, is_look, objects_at, request_of}
use Rattle.bucket_ops.specs.Phases.{SendsAt, SendsIn}
use Rattle.bucket_ops.specs.Uploads.{IsPageOf}
use Rattle.log_format.specs.Change.{is_changing}
use Rattle.s3_types.specs.Store.{Objects, Scene}
use Rattle.s3_types.specs.declared.journal.Entry.{Entry}
use Rattle.s3_types.specs.declared.reply.Reply.{Reply}
use Rattle.s3_types.specs.declared.request.Request.{Request}
use Rattle.s3a_shell.specs.Sendings.{has_changed, is_change}
use Rattle.s3a_shell.specs.inner.Sendings.{Asked, answered_by}
use Rattle.s3a_shell.specs.declared.session.Session.{Session}
use Rattle.std.proofs.Common.{ap, refl, ◌∙◌}
use Rattle.std.proofs.Math.Bool.{or-false}
use Rattle.std.proofs.lemmas.List.Folds.{list_any-append}
use Rattle.std.specs.List.{AllByRecursion}
use Rattle.std.specs.Prelude.{List, None, Option, Some, false, true, ℕ, [], ◌++◌, ◌||◌, ◌∷◌, ◌≡◌}

-- A look is no change.
look_only : (b : List ℕ) (a : Ask) → is_look a ≡ true → is_changing (request_of b a) ≡ false
look_only b (Head k) h = refl
look_only b (Get k) h = refl
look_only b (Page p d q n) h = refl
look_only b _ h = absurd (cc)

not_changing : (e : Entry) → is_changing e.request ≡ false → is_change e ≡ false
not_changing e h = rw h refl

none_changes : (part : List Entry) → AllByRecursion (λ e. is_changing e.request ≡ false) part → has_changed part ≡ false
none_changes [] h = refl
none_changes (e ∷ es) h = rw (not_changing e h.0) (none_changes es h.1)

more_same : (old part new : List Entry) → new ≡ old ++ part → has_changed part ≡ false → has_changed new ≡ has_changed old
more_same old part new e h = ap has_changed e ∙ list_any-append is_change old part ∙ ap (λ x. has_changed old || x) h ∙ or-false
    (has_changed old)

each_so : (P : Request → Type 0) → ((r : Request) → P r → is_changing r ≡ false) → (part : List Entry)
    → AllByRecursion (λ e. P e.request) part → AllByRecursion (λ e. is_changing e.request ≡ false) part
each_so P f [] h = tt
each_so P f (e ∷ es) h = (f e.request h.0, each_so P f es h.1)

pub asked_same : (P : Request → Type 0) (a b : Session) → ((r : Request) → P r → is_changing r ≡ false) → Asked P a b
    → has_changed b.journal.entries ≡ has_changed a.journal.entries
asked_same P a b f h = more_same a.journal.entries h.part b.journal.entries h.appended (none_changes h.part (each_so P f h.part h.each))

-- An operation whose stages are looks.
pub looked_same : (b : List ℕ) (look : Ask) (z : Scene) (a c : Session) → is_look look ≡ true
    → Asked (SendsIn b look (λ m x. is_look x ≡ true) z) a c → has_changed c.journal.entries ≡ has_changed a.journal.entries
looked_same b look z a c l h = asked_same (SendsIn b look (λ m x. is_look x ≡ true) z) a c (λ r g. by r (objects_at z b) g) h
  where
    by : (r : Request) (o : Option Objects) → SendsAt o b look (λ m x. is_look x ≡ true) r → is_changing r ≡ false
    by r None g = ap is_changing g ∙ look_only b look l
    by r (Some m) g = ap is_changing g.1 ∙ look_only b g.0 g.2

-- A walk over uploads.
pub walked_same : (b p : List ℕ) (old new part : List Entry) → new ≡ old ++ part → AllByRecursion (λ e. IsPageOf b p e.request) part
    → has_changed new ≡ has_changed old
walked_same b p old new part e h = more_same old part new e (none_changes part (each_so (IsPageOf b p) (λ r g. ap is_changing g.1) part h))

-- One request.
pub read_same : (a c : Session) (r : Request) (reply : Reply) → is_changing r ≡ false
    → c.journal.entries ≡ a.journal.entries ++ answered_by r reply ∷ [] → has_changed c.journal.entries ≡ has_changed a.journal.entries
read_same a c r reply h e = more_same a.journal.entries (answered_by r reply ∷ []) c.journal.entries e
    (none_changes (answered_by r reply ∷ []) (h, tt))
