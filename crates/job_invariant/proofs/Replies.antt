-- The answers that S3 must give while the facts hold.
use Rattle.text_and_lists.proofs.Members.{none_or_some, text_true}
use Rattle.text_and_lists.specs.Members.{IsIn}
use Rattle.job_invariant.proofs.Cut.{held_joined, parts_few}
use Rattle.job_invariant.proofs.Legible.{drawn_is, written_tags}
use Rattle.job_invariant.proofs.Placed.{key_file}
use Rattle.job_invariant.proofs.Shapes.{answer_is, id_before, key_before}
use Rattle.job_invariant.proofs.Uploads.{number_fits}
use Rattle.job_invariant.specs.Facts.{Facts, IsAttempt, IsHeld, IsSet, IsWritten, knowing}
use Rattle.job_invariant.specs.FactsKeep.{IsSetAnswer, SetAnswered}
use Rattle.job_invariant.specs.Stores.{at_id, at_key, at_place, set_at, sets_at}
use Rattle.job_invariant.specs.Told.{Told}
use Rattle.job_model.specs.Attempts.{Who}
use Rattle.job_model.specs.Files.{File}
use Rattle.job_model.specs.JobScript.{Script}
use Rattle.job_model.specs.Known.{Drawn}
use Rattle.job_model.specs.Legal.{IsLegal}
use Rattle.job_protocol.specs.JobCommits.{ok_set, set_read, set_request}
use Rattle.job_protocol.specs.Knowledge.{drawn_in}
use Rattle.job_protocol.specs.Outputs.{files}
use Rattle.job_protocol.specs.Records.{file_key, files_set, record_key, record_text}
use Rattle.job_protocol.specs.Seen.{is_magic}
use Rattle.job_protocol.specs.Uploading.{file_parts}
use Rattle.magic_paths.specs.Places.{SetPlace, key_at}
use Rattle.s3_types.specs.Answer.{answer, complete_answer, found, part_answer, read_answer}
use Rattle.s3_types.specs.Blocks.{named_from}
use Rattle.s3_types.specs.Multipart.{joined, live}
use Rattle.s3_types.specs.Store.{Scene}
use Rattle.s3_types.specs.Tags.{joined_tag, plain_tag}
use Rattle.s3_types.specs.declared.object.Object.{Object}
use Rattle.s3_types.specs.declared.reply.Refusal.TheVariants.{BadPartNumber, NoSuchKey}
use Rattle.s3_types.specs.declared.reply.Reply.TheVariants.{Completed, Object as Found, Part, Refused}
use Rattle.s3_types.specs.declared.request.Committer.{Committer}
use Rattle.s3_types.specs.declared.request.Committer.TheVariants.{Magic}
use Rattle.s3_types.specs.declared.request.Request.TheVariants.{CompleteUpload, GetObject, UploadPart}
use Rattle.std.proofs.Common.{List, None, Ok, Option, Some, ap, arith, cond, false, inl, inr, length, map, refl, slice_get, subst, sym}
use Rattle.std.proofs.Common.{true, ℕ, ◌+◌, ◌<◌, ◌^◌, ◌∙◌, ◌≡◌, ◌≤◌, ◌⊎◌}
use Rattle.std.proofs.lemmas.Option.{slice_get_within}
use Rattle.std.specs.Option.{option_map}
use Rattle.pending_json.specs.Reading as reading
use Rattle.job_invariant.proofs.Legible as legible

module _ {w : Script} {minimum : ℕ} {s : Scene} {last : ℕ → Option ℕ} {m : Told} (j : IsLegal w) (f : Facts w minimum s last m) where
  -- ---- uploads

  -- An upload that is known, and neither ended nor taken back, is held with the parts of its file.
  pub held_of : (a : Who) (x : Drawn) (g : File) → IsIn x (m.drawn a) → IsIn g (files w a) → x.key ≡ file_key w g → m.ended x.upload ≡ false
      → m.undone a ≡ false → IsHeld w minimum (at_id w s.content) x g
  held_of a x g i mine key e r =
      let o = f.owned a x i in
      subst (λ v. IsHeld w minimum (at_id w s.content) x v) (key_file j a o.file g o.mine mine (sym o.key ∙ key)) (o.held e r)

  -- It is live with its key.
  held_live : (x : Drawn) (g : File) → (h : IsHeld w minimum (at_id w s.content) x g)
      → live f.there.0.uploads x.key x.upload ≡ Some (record { key = x.key; parts = h.parts })
  held_live x g h = grind (arith, id_before, text_true)

  -- S3 accepts a part of it.
  pub part_taken : (a : Who) (x : Drawn) (g : File) (bytes : List ℕ) → IsIn x (m.drawn a) → IsIn g (files w a) → x.key ≡ file_key w g
      → m.ended x.upload ≡ false → m.undone a ≡ false
      → slice_get (file_parts w minimum g) (length x.tags) ≡ Some bytes
      → answer s (UploadPart w.dest.bucket x.key x.upload (length x.tags + 1) bytes) ≡ Part (plain_tag bytes)
  part_taken a x g bytes i mine key e r block =
      let h = held_of a x g i mine key e r in
      let low : length x.tags < length (file_parts w minimum g) = slice_get_within _ _ _ block in
      let few : length (file_parts w minimum g) ≤ 10000 = parts_few w minimum g in
      answer_is w s f.there.0 f.there.1 (UploadPart w.dest.bucket x.key x.upload (length x.tags + 1) bytes) refl
      ∙ ap (λ u. part_answer u (length x.tags + 1) bytes) (held_live x g h)
      ∙ ap (λ b. cond b (Part (plain_tag bytes)) (Refused BadPartNumber)) (number_fits (length x.tags) (omega arith))

  -- The parts of an upload that has them all are joined to its file.
  pub file_joined : (a : Who) (g : File) → IsIn g (files w a) → (x : IsWritten w minimum (m.drawn a) g) → m.ended x.drawn.upload ≡ false
      → m.undone a ≡ false
      → joined (live f.there.0.uploads (file_key w g) x.drawn.upload) (named_from 1 x.drawn.tags) s.content.minimum ≡ Ok g.1
  file_joined a g mine x e r =
      let h = held_of a x.drawn g x.known mine x.key e r in
      let tags = (written_tags j f a g mine x).0 in
      let least : s.content.minimum ≡ minimum = f.least in
      ap (λ q. joined (live f.there.0.uploads q x.drawn.upload) (named_from 1 x.drawn.tags) s.content.minimum) (sym x.key)
      ∙ ap (λ u. joined u (named_from 1 x.drawn.tags) s.content.minimum) (held_live x.drawn g h)
      ∙ ap (joined (Some (record { key = x.drawn.key; parts = h.parts })) (named_from 1 x.drawn.tags)) least
      ∙ held_joined w minimum (at_id w s.content) x.drawn g h tags x.complete

  -- So the upload is completed.
  pub completed : (a : Who) (g : File) → IsIn g (files w a) → (x : IsWritten w minimum (m.drawn a) g) → m.ended x.drawn.upload ≡ false
      → m.undone a ≡ false
      → answer s (CompleteUpload w.dest.bucket (file_key w g) x.drawn.upload (named_from 1 x.drawn.tags)) ≡ Completed
      (joined_tag (map (λ n. n.tag) (named_from 1 x.drawn.tags)))
  completed a g mine x e r =
      answer_is w s f.there.0 f.there.1 (CompleteUpload w.dest.bucket (file_key w g) x.drawn.upload (named_from 1 x.drawn.tags)) refl
      ∙ ap (complete_answer (named_from 1 x.drawn.tags)) (file_joined a g mine x e r)

  -- ---- records

  -- A record that is there is that of the upload which the attempt knows for the file.
  pub record_there : is_magic w.committer ≡ true → (a : Who) (g : File) → IsIn g (files w a)
      → (answer s (GetObject w.dest.bucket (record_key w a g)) ≡ Refused NoSuchKey)
      ⊎ ((header : Option ℕ) × (answer s (GetObject w.dest.bucket (record_key w a g)) ≡ Found
      (record_text w a g (drawn_in (m.drawn a) (file_key w g))) header))
  record_there magic a g i =
      let due : answer s (GetObject w.dest.bucket (record_key w a g)) ≡ found (at_key w s.content (record_key w a g)) = answer_is w s
      f.there.0 f.there.1 (GetObject w.dest.bucket (record_key w a g)) refl ∙ ap found
      (sym (key_before w s f.there.0 f.there.1 (record_key w a g))) in
      elim (none_or_some (at_key w s.content (record_key w a g))) [
        | inl none ↦ inl (due ∙ ap found none)
        | inr x ↦
            let r = f.records magic a g x.0 i x.1 in
            let is : r.written.drawn ≡ drawn_in (m.drawn a) (file_key w g) = sym
            (ap (drawn_in (m.drawn a)) (sym r.written.key) ∙ drawn_is f a r.written.drawn r.written.known) in
            inr (x.0.header, due ∙ ap found x.1 ∙ ap (λ b. Found b x.0.header) (r.bytes ∙ ap (record_text w a g) is))
      ]

  -- ---- sets

  -- A set that is there is read as that of the last publisher.
  pub bytes_read : (few : s.content.next ≤ 2 ^ 64) (t : ℕ) (bytes : List ℕ) → t < w.tasks
      → (x : IsSet w minimum last m.publish_sent m.drawn t bytes)
      → reading.set_of bytes ≡ Ok (files_set w x.by x.commits (knowing (m.drawn x.by)))
  bytes_read few t bytes lt x =
      let d : IsAttempt w x.by = record { task = subst (λ n. n < w.tasks) (sym x.task) lt; attempt = x.number } in
      ap reading.set_of x.text ∙ legible.set_read j f few x.by x.commits d x.are

  pub set_reply : (c : Committer) (t : ℕ) → ((o : Option (List ℕ)) → set_at c w s t ≡ o → IsSetAnswer o (answer s (set_request c w t)))
  set_reply Magic t o e = by (at_place w s.content (SetPlace t)) o e due
    where
      due : answer s (set_request Magic w t) ≡ found (at_place w s.content (SetPlace t))
      due = answer_is w s f.there.0 f.there.1 (set_request Magic w t) refl ∙ ap found
          (sym (key_before w s f.there.0 f.there.1 (key_at w.dest.key w.job (SetPlace t))))

      by : (x : Option Object) (o : Option (List ℕ)) → option_map (λ y. y.bytes) x ≡ o → answer s (set_request Magic w t) ≡ found x
          → IsSetAnswer o (answer s (set_request Magic w t))
      by x o h g = grind arith
  set_reply _ t None e = inr (ap read_answer e)
  set_reply _ t (Some b) e = ap (λ x. set_read (read_answer x)) e

  -- What the driver reads of a task's set: nothing if there is none, else the set of the last publisher.
  pub set_answered : (few : s.content.next ≤ 2 ^ 64) (t : ℕ) → t < w.tasks → SetAnswered w minimum s last m t
  set_answered few t lt = elim (none_or_some (sets_at w s t)) [
    | inl none ↦ inl (set_reply w.committer t None none)
    | inr b ↦
        let x = f.sets t b.0 lt b.1 in
        inr (record {
          bytes = b.0;
          stands = b.1;
          set = x;
          is_read = set_reply w.committer t (Some b.0) b.1 ∙ ap ok_set
              (bytes_read few t b.0 lt x);
        })
  ]
