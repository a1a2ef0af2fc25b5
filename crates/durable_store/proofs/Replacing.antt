-- A save after the image was put.
use Rattle.journal_log.proofs.Journals.{changes_none}
use Rattle.journal_log.proofs.Leaving.{on_and_on, started, survives, told_all, widened}
use Rattle.journal_log.proofs.Standing.{begins_all, holds_more, short, some}
use Rattle.journal_log.proofs.Steps.{stops_of}
use Rattle.journal_log.specs.Appends.{AreCut, Stopped}
use Rattle.journal_log.specs.Changes.{changes}
use Rattle.journal_log.specs.Crashes.{IsBetween, WhereTold}
use Rattle.journal_log.specs.Images.{Replaced}
use Rattle.journal_log.specs.Kept.{Holds, HoldsGrownBy, HoldsPart, HoldsSome, IsMoment}
use Rattle.s3_types.specs.Store.{Content}
use Rattle.s3_types.specs.declared.journal.Entry.{Entry}
use Rattle.s3_types.specs.declared.request.Request.{Request}
use Rattle.devices.specs.Logged.{CrashesLeave, Holding, IsDurable, IsTimed, Sight, Stored, fresh}
use Rattle.devices.specs.declared.kept.ShelfStop.{ShelfStop}
use Rattle.std.proofs.Common.{Err, IfErr, List, None, Ok, OnErr, OnOk, Option, Result, Some, inl, inr, refl, subst, sym, [], ◌∙◌, ◌≡◌, ◌⊎◌}
use Rattle.std.specs.List.{AllByRecursion}
use Rattle.store_image.specs.Image.{image}

-- A crash leaves the image.
first_moment : (o : Option Stored) (leaves : Holding → Type 0) (c : Content) (h : Holding) → Holds o c (changes []) → IsDurable o leaves
    → leaves h → WhereTold o (IsMoment c [] h)
first_moment None leaves c h holds durable left = tt
first_moment (Some s) leaves c h holds durable left = subst (IsMoment c []) (sym (durable h left ∙ holds))
    (some c [] (changes []) (begins_all (changes [])))

module _ {S : Type 0} (F : Sight S) (c : Content) (es : List Entry) where
  abbrev pub Leaves : S → S → Type 0
  Leaves old new = CrashesLeave F old new (λ h. WhereTold (F.held new) (F.may_leave old h ⊎ IsMoment c es h))

  -- the shelf failed to take the image
  pub refused : (old new : S) → CrashesLeave F old new (λ h. F.may_leave old h ⊎ (h ≡ fresh (image c))) → Leaves old new
  refused old new leaves =
      widened F old new (λ h. F.may_leave old h ⊎ (h ≡ fresh (image c))) (λ h. WhereTold (F.held new) (F.may_leave old h ⊎ IsMoment c es h))
      leaves
      (λ h is_one. told_all (F.held new) (F.may_leave old h ⊎ IsMoment c es h) (one h is_one))
    where
      begun : (h : Holding) → h ≡ fresh (image c) → IsMoment c es h
      begun h e = subst (IsMoment c es) (sym e) (some c es [] (changes es, refl))

      one : (h : Holding) → F.may_leave old h ⊎ (h ≡ fresh (image c)) → F.may_leave old h ⊎ IsMoment c es h
      one h (inl left) = inl left
      one h (inr e) = inr (begun h e)

  -- the shelf took the image; the outcome of the appends
  module _ (old mid new : S) (put : Replaced F c old mid) where
    first : Holds (F.held mid) c (changes [])
    first = subst (Holds (F.held mid) c) (sym changes_none) put.holds

    pub whole : HoldsGrownBy (F.held mid) (F.held new) (changes es) → Holds (F.held new) c (changes es)
    whole grown = holds_more c (F.held mid) (F.held new) [] (changes es) put.holds grown

    pub partly : AllByRecursion (λ e. e.event ≡ 0) es → HoldsSome (F.held mid) (F.held new) (changes es) → (F.held new ≡ F.held old)
        ⊎ HoldsPart (F.held new) c es
    partly one grown = inr (short c (F.held mid) (F.held new) [] es 0 first one grown)

    pub cut : (fault : ShelfStop) → Stopped F fault (changes es) mid new → AreCut F (changes es) old new
    cut fault stopped = inr (inr (mid, put.answered, stops_of F fault (changes es) mid new stopped))

    -- what a crash left of both
    pub survived : IsTimed F → HoldsSome (F.held mid) (F.held new) (changes es)
        → CrashesLeave F mid new (IsBetween (F.held mid) (changes es)) → Leaves old new
    survived timed grown leaves =
        let opened = started F mid (λ h. WhereTold (F.held mid) (IsMoment c [] h))
        (λ h left. first_moment (F.held mid) (F.may_leave mid) c h first put.durable (timed.only_now mid h left)) in
        let appended = on_and_on F c [] es mid mid new first grown opened leaves in
        survives F timed c es (F.held new) old old mid new (started F old (F.may_leave old) (timed.only_now old)) put.leaves appended

-- The changes that the shelf took, for each outcome of the call.
pub some_grown : {A E : Type 0} (r : Result A E) (before after : Option Stored) (rs : List Request) → OnOk r (HoldsGrownBy before after rs)
    → OnErr r (HoldsSome before after rs) → HoldsSome before after rs
some_grown (Ok x) before after rs grown part = (rs, begins_all rs, grown)
some_grown (Err e) before after rs grown part = part

pub if_error : {A E P : Type 0} (r : Result A E) (Q : E → Type 0) → ((e : E) → Q e → P) → IfErr r Q → OnErr r P
if_error (Ok x) Q f h = tt
if_error (Err e) Q f h = f e h
