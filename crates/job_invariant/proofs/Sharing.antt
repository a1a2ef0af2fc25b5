-- The requests of a check before the commit, and of an abort or clean at a shared destination.
use Rattle.text_and_lists.specs.Members.{IsIn}
use Rattle.job_invariant.proofs.Driving.{clearing_hides, reads}
use Rattle.job_invariant.proofs.Emptying.{reads_same}
use Rattle.job_invariant.proofs.Learning.{known_still}
use Rattle.job_invariant.proofs.OwnRequests.{clearing_changes}
use Rattle.job_invariant.proofs.Owning.{asked_path, operation_asked}
use Rattle.job_invariant.proofs.Shows.{HidesAll}
use Rattle.job_invariant.proofs.Spares.{aborts_below, sparing_asked}
use Rattle.job_invariant.specs.Facts.{Hold, IsAttempt}
use Rattle.job_invariant.specs.Fits.{Fits}
use Rattle.job_invariant.specs.Spares.{AllKnown, FitsSparing}
use Rattle.job_invariant.specs.inner.Spares.{IsOwnPath}
use Rattle.job_invariant.specs.Told.{Told, driver_entry, ends, known, tell_attempt}
use Rattle.job_model.specs.Attempts.{Who}
use Rattle.job_model.specs.JobScript.{Script}
use Rattle.job_model.specs.Legal.{IsLegal}
use Rattle.job_protocol.specs.Operations.{Operation, Setting, asks}
use Rattle.job_protocol.specs.Rechecks.{Check, check_asks}
use Rattle.job_protocol.specs.Scope.{IsZeroRename}
use Rattle.job_protocol.specs.Seen.{Seen, is_marking, is_reading}
use Rattle.job_protocol.specs.Setup.{Setup, setup_asks}
use Rattle.job_protocol.specs.Sparing.{Aborting, Sparing, sparing_asks}
use Rattle.s3_types.specs.Moment.{effect}
use Rattle.s3_types.specs.Requests.{only_reads}
use Rattle.s3_types.specs.Store.{Scene}
use Rattle.s3_types.specs.declared.journal.Outcome.{Outcome}
use Rattle.s3_types.specs.declared.request.Request.{Request}
use Rattle.s3_types.specs.declared.request.UploadRef.{UploadRef}
use Rattle.std.proofs.Common.{List, Some, arith, false, inl, inr, true, ℕ, ◌∙◌, ◌∷◌, ◌≡◌}
use Rattle.store_frame.specs.Frame.{changed_paths}
use Rattle.job_protocol.specs.Sparing as sparing

-- ---- a request of the driver that neither ends an upload, nor reads a set, nor puts the marker

pub record Plain (w : Script) (y : Request) : Type 0 where
  pub ends_none : (u : ℕ) → ends y u ≡ false
  pub marks : is_marking w y ≡ false
  pub reads : (t : ℕ) → is_reading w t y ≡ false

module _ (w : Script) where
  pub setup_plain : (t : Setup) (r : Request) → setup_asks w t ≡ Some r → Plain w r
  setup_plain t r h = grind arith

  pub check_plain : (t : Check) (r : Request) → check_asks w t ≡ Some r → Plain w r
  check_plain t r h = grind arith

-- A read leaves all as it is.
pub reads_leave : (s : Scene) (r : Request) → only_reads r ≡ true → (o : Outcome) → effect s r o ≡ s
reads_leave s r h o = reads_same s r o h

-- ---- what they change

module _ (g : Setting) (j : IsLegal g.script) where
  abbrev v : Script
  v = g.script

  pub check_reads : (c : Check) (r : Request) → check_asks v c ≡ Some r → only_reads r ≡ true
  check_reads c r h = grind arith

  pub check_changes : (s : Seen) (m : Told) → Hold v g.minimum s m → (c : Check) (r : Request) → check_asks v c ≡ Some r
      → (n : ℕ) (o : Outcome) → IsZeroRename v (driver_entry n r o) s.scene.content (effect s.scene r o).content
  check_changes s m h c r e n o =
      clearing_changes j s m h {begun = true} {A = Unit {0}} {B = Unit {0}} r (reads r (check_reads c r e)) tt tt n o

  pub sparing_hides : (m : Told) (c : Sparing) → FitsSparing v m.drawn c → (r : Request) → sparing_asks v c ≡ Some r → HidesAll v r
  sparing_hides m c h r e = clearing_hides r (sparing_asked v m.drawn c r e) h

  pub sparing_changes : (s : Seen) (m : Told) → Hold v g.minimum s m → (c : Sparing) → FitsSparing v m.drawn c → (r : Request)
      → sparing_asks v c ≡ Some r → (n : ℕ) (o : Outcome) → IsZeroRename v (driver_entry n r o) s.scene.content (effect s.scene r o).content
  sparing_changes s m h c fits r e n o = clearing_changes j s m h r (sparing_asked v m.drawn c r e) (aborts_below j h c fits) fits n o

-- ---- what such an abort or clean knows stays known

pub sparing_still : (w : Script) (m : Told) (a : Who) (r : Request) (o : Outcome) (c : Sparing) → FitsSparing w m.drawn c
    → FitsSparing w (tell_attempt w m a r o).drawn c
sparing_still w m a r o c h = by c h
  where
    all : (us : List UploadRef) → AllKnown m.drawn us → AllKnown (tell_attempt w m a r o).drawn us
    all us k u i = let x = k u i in let y = known_still w m a r o x.0 x.1 x.2 in (x.0, y.0, y.1, y.2 ∙ x.3, y.3 ∙ x.4)

    by : (c : Sparing) → FitsSparing w m.drawn c → FitsSparing w (tell_attempt w m a r o).drawn c
    by (sparing.Reading named p ps rest) h = (all named h.0, h.1, h.2, h.3)
    by (sparing.Aborting u us rest) h = (all (u ∷ us) h.0, h.1)
    by _ h = h

-- ---- cluster paths that an attempt changes

module _ (w : Script) (minimum : ℕ) (m : Told) (a : Who) (d : IsAttempt w a) where
  abbrev Paths : Request → Type 0
  Paths r = (p : List ℕ) → IsIn p (changed_paths r) → IsOwnPath w p

  pub operation_paths : (g : Setting) → g.script ≡ w → (op : Operation) → Fits w g.minimum a m op → (r : Request)
      → asks (record { script = w; minimum = g.minimum; shared = g.shared }) a (known m a) op ≡ Some r → Paths r
  operation_paths g is op fits r e p i = elim (asked_path r (operation_asked (record { script = w; minimum = g.minimum; shared = g.shared })
      m a op fits r e) p i) [
        | inl same ↦ inl (a, d, same)
        | inr same ↦ inr (a.task, d.task, same)
      ]
