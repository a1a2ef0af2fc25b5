-- Requests after requests.
use Rattle.bucket_ops.specs.Uploads.{IsStill}
use Rattle.machine.specs.Counted.{AreAnswered}
use Rattle.machine.specs.Turns.{AreBy}
use Rattle.s3_types.specs.Answer.{answer, apply}
use Rattle.s3_types.specs.Moment.{AreHonest, after_all, effect}
use Rattle.s3_types.specs.Requests.{only_reads}
use Rattle.s3_types.specs.Store.{Scene}
use Rattle.s3_types.specs.declared.journal.Entry.{Entry}
use Rattle.s3_types.specs.declared.request.Actor.{Actor}
use Rattle.s3_types.specs.declared.request.Actor.TheVariants.{Shell}
use Rattle.s3_types.specs.declared.request.Request.{Request}
use Rattle.s3a_shell.specs.Sendings.{AppliedOrNot}
use Rattle.s3a_shell.specs.inner.Sendings.{IsCounted, Sends, Sent, answered_by}
use Rattle.s3a_shell.specs.declared.session.Session.{Session}
use Rattle.std.proofs.Common.{ap, append-nil, append_assoc, arith, inl, inr, length-append, refl, subst, sym, ◌∙◌}
use Rattle.std.specs.Prelude.{List, length, suc, take, true, zero, ℕ, [], ◌++◌, ◌+◌, ◌∷◌, ◌≡◌}
use Rattle.store_frame.proofs.Reading.{reads_nothing}

after_both : (s : Scene) (es fs : List Entry) → after_all s (es ++ fs) ≡ after_all (after_all s es) fs
after_both s [] fs = refl
after_both s (e ∷ es) fs = after_both (effect s e.request e.outcome) es fs

by_both : (actor : Actor) (event : ℕ) (es fs : List Entry) → AreBy actor event es → AreBy actor event fs → AreBy actor event (es ++ fs)
by_both actor event [] fs h g = g
by_both actor event (e ∷ es) fs h g = (h.0, h.1, by_both actor event es fs h.2 g)

answered_both : (es fs : List Entry) → AreAnswered es → AreAnswered fs → AreAnswered (es ++ fs)
answered_both [] fs h g = g
answered_both (e ∷ es) fs h g = (h.0, answered_both es fs h.1 g)

honest_both : (s : Scene) (es fs : List Entry) → AreHonest s es → AreHonest (after_all s es) fs → AreHonest s (es ++ fs)
honest_both s [] fs h g = g
honest_both s (e ∷ es) fs h g = (h.0, honest_both (effect s e.request e.outcome) es fs h.1 g)

-- What holds before and after them.
module _ (always : Scene → Type 0) where
  at_none : (z : Scene) (m : ℕ) → always z → always (after_all z (take m []))
  at_none z zero h = h
  at_none z (suc m) h = h

  at_both : (z : Scene) (es fs : List Entry) → ((m : ℕ) → always (after_all z (take m es)))
      → ((m : ℕ) → always (after_all (after_all z es) (take m fs))) → (m : ℕ) → always (after_all z (take m (es ++ fs)))
  at_both z [] fs h g m = g m
  at_both z (e ∷ es) fs h g zero = h 0
  at_both z (e ∷ es) fs h g (suc m) = at_both (effect z e.request e.outcome) es fs (λ k. h (suc k)) g m

-- No requests.
pub sent_none : (always : Scene → Type 0) (a : Session) → IsCounted a → always a.store.scene → Sent always a a
sent_none always a counted h = record {
  sends = record {
    part = [];
    appended = sym (append-nil a.journal.entries);
    by = tt;
    answered = tt;
    honest = tt;
    scene = refl;
    moments = λ
        m. at_none always a.store.scene m h;
  };
  counted = counted;
}

one_moment : (z : Scene) (r : Request) (m : ℕ) → AppliedOrNot r z (after_all z (take m (answered_by r (answer z r) ∷ [])))
one_moment z r zero = inl refl
one_moment z r (suc m) = at_none (AppliedOrNot r z) (apply z r) m (inr refl)

-- One request that has the reply that S3 must give.
pub sent_one : (a b : Session) (r : Request) → IsCounted a → b.store.scene ≡ apply a.store.scene r → b.store.requests ≡ a.store.requests + 1
    → b.journal.entries ≡ a.journal.entries ++ answered_by r (answer a.store.scene r) ∷ [] → Sent (AppliedOrNot r a.store.scene) a b
sent_one a b r counted scene requests entries =
    let one = length-append a.journal.entries (answered_by r (answer a.store.scene r) ∷ []) in
    let long : length b.journal.entries ≡ length a.journal.entries + 1 = ap length entries ∙ one in
    record {
      sends = record {
        part = answered_by r (answer a.store.scene r) ∷ [];
        appended = entries;
        by = (refl, refl, tt);
        answered = (refl, tt);
        honest = (refl, tt);
        scene = scene;
        moments = one_moment a.store.scene r;
      };
      counted = omega (arith, counted, requests, long);
    }

sends_both : (always : Scene → Type 0) (a b c : List Entry) (z s t : Scene) → Sends always a z b s → Sends always b s c t
    → Sends always a z c t
sends_both always a b c z s t h g = record {
  part = h.part ++ g.part;
  appended = g.appended ∙ (ap (λ (l : List Entry). l ++ g.part) h.appended ∙ append_assoc a h.part g.part);
  by = by_both Shell 0 h.part g.part h.by g.by;
  answered = answered_both h.part g.part h.answered g.answered;
  honest = honest_both z h.part g.part h.honest (subst (λ (v : Scene). AreHonest v g.part) h.scene g.honest);
  scene = g.scene ∙ (ap (λ (v : Scene). after_all v g.part) h.scene ∙ sym (after_both z h.part g.part));
  moments = at_both always z h.part g.part h.moments (subst (λ (v : Scene). (m : ℕ) → always (after_all v (take m g.part))) h.scene
      g.moments);
}

-- These requests and then those.
pub sent_both : (always : Scene → Type 0) (a b c : Session) → Sent always a b → Sent always b c → Sent always a c
sent_both always a b c h g = record {
  sends = sends_both always a.journal.entries b.journal.entries c.journal.entries a.store.scene b.store.scene c.store.scene h.sends g.sends;
  counted = g.counted;
}

-- What follows from a property holds at every point too.
pub sent_as : (P Q : Scene → Type 0) (a b : Session) → ((s : Scene) → P s → Q s) → Sent P a b → Sent Q a b
sent_as P Q a b f h = record {
  sends = record {
    part = h.sends.part;
    appended = h.sends.appended;
    by = h.sends.by;
    answered = h.sends.answered;
    honest = h.sends.honest;
    scene = h.sends.scene;
    moments = λ m. f (after_all a.store.scene (take m h.sends.part)) (h.sends.moments m);
  };
  counted = h.counted;
}

-- One request that only reads.
pub sent_read : (a b : Session) (r : Request) → only_reads r ≡ true → Sent (AppliedOrNot r a.store.scene) a b
    → Sent (IsStill a.store.scene) a b
sent_read a b r reads h = sent_as (AppliedOrNot r a.store.scene) (IsStill a.store.scene) a b by h
  where
    by : (s : Scene) → AppliedOrNot r a.store.scene s → s ≡ a.store.scene
    by s (inl e) = e
    by s (inr e) = e ∙ reads_nothing a.store.scene r reads

-- Neither part changes anything.
pub still_both : (a b c : Session) → b.store.scene ≡ a.store.scene → Sent (IsStill a.store.scene) a b → Sent (IsStill b.store.scene) b c
    → Sent (IsStill a.store.scene) a c
still_both a b c same h g = sent_both (IsStill a.store.scene) a b c h (sent_as (IsStill b.store.scene) (IsStill a.store.scene) b c
    (λ s e. e ∙ same) g)
