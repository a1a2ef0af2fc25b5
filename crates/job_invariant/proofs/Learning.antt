-- What an attempt learns from an entry of its own: an upload that it has begun, or more parts of one that it knows.
use Rattle.text_and_lists.proofs.Members.{in_map, map_in}
use Rattle.text_and_lists.specs.Members.{IsIn}
use Rattle.job_invariant.proofs.Keep.{part_upload}
use Rattle.job_invariant.proofs.Whose.{same_or_another, who_here, who_other}
use Rattle.job_invariant.specs.Stores.{IsKnown}
use Rattle.job_invariant.specs.Told.{Told, known, tell_attempt}
use Rattle.job_model.specs.Attempts.{Who}
use Rattle.job_model.specs.JobScript.{Script}
use Rattle.job_model.specs.Known.{Drawn}
use Rattle.job_protocol.specs.Knowledge.{learn, with_part}
use Rattle.s3_types.specs.Answer.{answer}
use Rattle.s3_types.specs.Moment.{IsHonestOutcome}
use Rattle.s3_types.specs.Store.{Scene}
use Rattle.s3_types.specs.declared.journal.Outcome.{Outcome}
use Rattle.s3_types.specs.declared.journal.Outcome.TheVariants.{Answered}
use Rattle.s3_types.specs.declared.reply.Reply.TheVariants.{Part, Upload as DrawnUpload}
use Rattle.s3_types.specs.declared.request.Request.{Request}
use Rattle.s3_types.specs.declared.request.Request.TheVariants.{CreateUpload, UploadPart}
use Rattle.std.proofs.Common.{List, ap, arith, inl, inr, length, refl, subst, sym, ℕ, ◌∙◌, ◌≡◌, ◌≤◌, ◌⊎◌}

-- The attempt knows an upload with this id and this key.
abbrev pub Knows : List Drawn → Drawn → Type 0
Knows ds d = (e : Drawn) × IsIn e ds × (e.upload ≡ d.upload) × (e.key ≡ d.key)

-- The upload was just begun.
pub record IsNew (d : Drawn) (r : Request) (o : Outcome) : Type 0 where
  pub bucket : List ℕ
  pub request : r ≡ CreateUpload bucket d.key
  pub outcome : o ≡ Answered (DrawnUpload d.upload)

module _ (w : Script) (m : Told) (a : Who) (r : Request) (o : Outcome) (b : Who) (d : Drawn) where
  abbrev now : Who → List Drawn
  now = (tell_attempt w m a r o).drawn

  -- What was known stays known.
  pub known_still : IsIn d (m.drawn b) → Knows (now b) d
  known_still i = elim (same_or_another b a) [
    | inr ne ↦ (d, subst (λ (l : List Drawn). IsIn d l) (sym (who_other m.drawn a (learn w a (known m a) r o).drawn b ne)) i, refl, refl)
    | inl is ↦ let x = learns r o (subst (λ v. IsIn d (m.drawn v)) is i) in (
      x.0,
      subst (λ (l : List Drawn). IsIn x.0 l)
          (sym (who_here m.drawn a (learn w a (known m a) r o).drawn b is)) x.1,
      x.2,
      x.3,
    )
  ]
    where
      learns : (r : Request) (o : Outcome) → IsIn d (m.drawn a) → Knows (learn w a (known m a) r o).drawn d
      learns (CreateUpload bucket key) (Answered (DrawnUpload id)) i = (d, inr i, refl, refl)
      learns (UploadPart bucket key id number bytes) (Answered (Part tag)) i = let s = part_upload id tag (length bytes) d in
          (with_part id tag (length bytes) d, map_in (with_part id tag (length bytes)) d (m.drawn a) i, s.0, s.1)
      learns _ o i = (d, i, refl, refl)

  -- What is known was known before, or was just begun.
  pub known_before : IsIn d (now b) → Knows (m.drawn b) d ⊎ IsNew d r o
  known_before i = elim (same_or_another b a) [
    | inr ne ↦ inl (d, subst (λ (l : List Drawn). IsIn d l) (who_other m.drawn a (learn w a (known m a) r o).drawn b ne) i, refl, refl)
    | inl is ↦ elim (learns r o (subst (λ (l : List Drawn). IsIn d l) (who_here m.drawn a (learn w a (known m a) r o).drawn b is) i)) [
      | inl old ↦ inl (old.0, subst (λ v. IsIn old.0 (m.drawn v)) (sym is) old.1, old.2, old.3)
      | inr new ↦ inr new
    ]
  ]
    where
      learns : (r : Request) (o : Outcome) → IsIn d (learn w a (known m a) r o).drawn → Knows (m.drawn a) d ⊎ IsNew d r o
      learns (CreateUpload n k) (Answered (DrawnUpload u)) (inl x) = inr (record {
        bucket = n;
        request = ap (λ (c : Drawn). CreateUpload n c.key) (sym x);
        outcome = ap
            (λ (c : Drawn). Answered (DrawnUpload c.upload)) (sym x);
      })
      learns (CreateUpload n k) (Answered (DrawnUpload u)) (inr i) = inl (d, i, refl, refl)
      learns (UploadPart n k u number bytes) (Answered (Part tag)) i =
          let x = in_map (with_part u tag (length bytes)) d (m.drawn a) i in
          let s = part_upload u tag (length bytes) x.0 in
          inl (x.0, x.1, sym s.0 ∙ ap (λ (c : Drawn). c.upload) (sym x.2), sym s.1 ∙ ap (λ (c : Drawn). c.key) (sym x.2))
      learns _ o i = inl (d, i, refl, refl)

-- The id that is drawn is the next one of the store.
pub drawn_is_next : (s : Scene) (n k : List ℕ) (u : ℕ) → DrawnUpload u ≡ answer s (CreateUpload n k) → u ≡ s.content.next
drawn_is_next s n k u h = grind arith

-- An upload that an attempt learns of was known, or was just drawn.
pub learnt : (w : Script) (s : Scene) (m : Told) (a : Who) (r : Request) (o : Outcome) → IsHonestOutcome o (answer s r) → (id : ℕ)
    → IsKnown (tell_attempt w m a r o).drawn id → IsKnown m.drawn id ⊎ (s.content.next ≤ id)
learnt w s m a r o honest id (b, d, i, e) = elim (known_before w m a r o b d i) [
  | inl old ↦ inl (b, old.0, old.1, old.2 ∙ e)
  | inr new ↦
      let due : DrawnUpload d.upload ≡ answer s (CreateUpload new.bucket d.key) = subst (λ y. IsHonestOutcome y (answer s r)) new.outcome
      honest ∙ ap (answer s) new.request in
      let at : s.content.next ≡ id = sym (drawn_is_next s new.bucket d.key d.upload due) ∙ e in
      inr (subst (λ n. s.content.next ≤ n) at (omega arith))
]
