-- How a file's upload goes on, with any committer: what it asks keeps the facts, and its state fits afterwards.
use Rattle.text_and_lists.proofs.Members.{in_map, map_in}
use Rattle.text_and_lists.specs.Members.{IsIn}
use Rattle.job_invariant.proofs.Cut.{parts_few}
use Rattle.job_invariant.proofs.Keep.{longer, new_drawn, one_more, part_here, part_other, part_upload}
use Rattle.job_invariant.proofs.Legal.{files_apart}
use Rattle.job_invariant.proofs.Placed.{key_file, one_key}
use Rattle.job_invariant.proofs.Shapes.{answer_is}
use Rattle.job_invariant.specs.Facts.{AreCommits, Hold, IsWritten}
use Rattle.job_invariant.specs.Fits.{AllWritten, Begun, FitsUpload, IsOpen, Todo}
use Rattle.job_invariant.specs.Told.{Told, known}
use Rattle.job_model.specs.Attempts.{Who}
use Rattle.job_model.specs.Files.{File}
use Rattle.job_model.specs.JobScript.{Script}
use Rattle.job_model.specs.Known.{Drawn, Known}
use Rattle.job_model.specs.Legal.{IsLegal}
use Rattle.job_protocol.specs.Knowledge.{first_drawn, learn, with_part}
use Rattle.job_protocol.specs.Outputs.{files}
use Rattle.job_protocol.specs.Records.{file_key}
use Rattle.job_protocol.specs.Seen.{Seen}
use Rattle.job_protocol.specs.Uploading.{AllSent, Creating, GoesOn, IsGone, Sending, Uploaded, Uploading, created, file_parts, sending}
use Rattle.job_protocol.specs.Uploading.{sent_part, upload_asks, upload_hears}
use Rattle.s3_types.specs.Answer.{answer, part_answer}
use Rattle.s3_types.specs.Multipart.{is_part_number, live}
use Rattle.s3_types.specs.Store.{Upload}
use Rattle.s3_types.specs.Tags.{Spelled, plain_tag}
use Rattle.s3_types.specs.declared.journal.Outcome.{Outcome}
use Rattle.s3_types.specs.declared.journal.Outcome.TheVariants.{Answered}
use Rattle.s3_types.specs.declared.reply.Refusal.TheVariants.{NoSuchUpload}
use Rattle.s3_types.specs.declared.reply.Reply.{Reply}
use Rattle.s3_types.specs.declared.reply.Reply.TheVariants.{Part, Refused, Upload as TheUpload}
use Rattle.s3_types.specs.declared.request.Request.{Request}
use Rattle.s3_types.specs.declared.request.Request.TheVariants.{CreateUpload, UploadPart}
use Rattle.std.proofs.Common.{List, Option, Some, ap, arith, drop, inl, inr, length, length-drop, map, refl, slice_get, subst, suc, sym}
use Rattle.std.proofs.Common.{true, zero, ℕ, [], ◌++◌, ◌+◌, ◌-◌, ◌<◌, ◌∙◌, ◌∷◌, ◌≡◌, ◌≤◌, ◌⊎◌}
use Rattle.std.proofs.lemmas.Bool.Decides.{nat_tests}

-- ---- uploads that are begun, and files that are written

module _ (w : Script) (minimum : ℕ) (a : Who) where
  -- A file whose upload has no part left to send is written.
  pub all_sent : (ds : List Drawn) (f : File) (fs : List File) → (b : Begun w minimum a ds f fs [])
      → length b.latest.tags ≡ length (file_parts w minimum f)
  all_sent ds f fs b =
      let none : 0 ≡ length (drop (length b.latest.tags) (file_parts w minimum f)) = ap length b.left in
      let long : length (drop (length b.latest.tags) (file_parts w minimum f)) ≡ length (file_parts w minimum f) - length b.latest.tags =
      length-drop (length b.latest.tags) (file_parts w minimum f) in
      let few : length b.latest.tags ≤ length (file_parts w minimum f) = b.few in
      omega arith

  pub latest_in : {ds : List Drawn} {f : File} {fs : List File} {ps : List (List ℕ)} → (b : Begun w minimum a ds f fs ps) → IsIn b.latest ds
  latest_in b = subst (λ (x : List Drawn). IsIn b.latest x) (sym b.is) (inl refl)

  abbrev pub begun_written : (ds : List Drawn) (f : File) (fs : List File) → Begun w minimum a ds f fs [] → IsWritten w minimum ds f
  begun_written ds f fs b = record { drawn = b.latest; known = latest_in b; key = b.key; complete = all_sent ds f fs b }

  pub next_todo : (ds : List Drawn) (f : File) (fs : List File) → Begun w minimum a ds f fs [] → Todo w minimum a ds fs
  next_todo ds f fs b = record {
    each = λ g i. b.each g (inr i);
    once = b.once.1;
    unknown = b.unknown;
    others = λ g i. elim (b.others g i) [
      | inl h ↦ elim h [ inl e ↦ inr (subst (λ x. IsWritten w minimum ds x) (sym e) (begun_written ds f fs b)) | inr h ↦ inl h ]
      | inr h ↦ inr h
    ];
  }

  pub todo_none : (ds : List Drawn) → Todo w minimum a ds [] → AllWritten w minimum a ds
  todo_none ds t f i = elim (t.others f i) [ inl h ↦ absurd h | inr h ↦ h ]

  -- All its files in the script's order, which are written.
  pub all_commits : IsLegal w → (ds : List Drawn) → AllWritten w minimum a ds → AreCommits w minimum ds a (files w a)
  all_commits j ds h = record { each = λ f i. i; all = λ f i. i; once = files_apart j a; written = h }

  -- ---- an upload after a reply

  abbrev pub FitsUploaded : Known → File → List File → Uploaded → Type 0
  FitsUploaded k f fs (GoesOn u) = FitsUpload w minimum a k f fs u
  FitsUploaded k f fs AllSent = Begun w minimum a k.drawn f fs []
  FitsUploaded k f fs IsGone = Unit {0}

  fits_sending : (k : Known) (f : File) (fs : List File) (ps : List (List ℕ)) → Begun w minimum a k.drawn f fs ps
      → FitsUploaded k f fs (sending ps)
  fits_sending k f fs ps h = grind arith

  -- An upload was begun.
  begun_now : IsLegal w → (k : Known) (f : File) (fs : List File) → Todo w minimum a k.drawn (f ∷ fs) → (id : ℕ)
      → Begun w minimum a (new_drawn (file_key w f) id ∷ k.drawn) f fs (file_parts w minimum f)
  begun_now j k f fs t id = record {
    latest = new_drawn (file_key w f) id;
    before = k.drawn;
    is = refl;
    key = refl;
    few = omega arith;
    left = refl;
    each = t.each;
    once = t.once;
    unknown = λ g i d q e. elim q [
      | inl is ↦ t.once.0 g i (one_key j f g (ap (λ (x : Drawn). x.key) (sym is) ∙ e))
      | inr old ↦ t.unknown g (inr i) d old e
    ];
    others = λ g i. elim (t.others g i) [
      | inl h ↦ inl h
      | inr h ↦ inr (record { drawn = h.drawn; known = inr h.known; key = h.key; complete = h.complete })
    ];
  }

  -- ---- a part came back

  pub drop_more : (xs : List (List ℕ)) (n : ℕ) (y : List ℕ) (ys : List (List ℕ)) → y ∷ ys ≡ drop n xs → (suc n ≤ length xs)
      × (ys ≡ drop (suc n) xs) × (slice_get xs n ≡ Some y)
  drop_more [] zero y ys e = absurd cc
  drop_more [] (suc n) y ys e = absurd cc
  drop_more (x ∷ xs) zero y ys e = (omega arith, cc, cc)
  drop_more (x ∷ xs) (suc n) y ys e = let old = drop_more xs n y ys e in (omega (arith, old.0), old.1, old.2)

  part_next : IsLegal w → (s : Seen) (m : Told) → Hold w minimum s m → (f : File) (fs : List File) (p : List ℕ) (ps : List (List ℕ))
      → (b : Begun w minimum a (m.drawn a) f fs (p ∷ ps)) → (tag : Spelled)
      → Begun w minimum a (map (with_part b.latest.upload tag (length p)) (m.drawn a)) f fs ps
  part_next j s m facts f fs p ps b tag = record {
    latest = one_more tag (length p) b.latest;
    before = map (with_part b.latest.upload tag (length p)) b.before;
    is = ap (map (with_part b.latest.upload tag (length p))) b.is ∙ ap (λ (x : Drawn). x ∷ map (with_part b.latest.upload tag (length p))
        b.before) (part_here b.latest.upload tag (length p) b.latest refl);
    key = b.key;
    few = subst (λ n. n ≤ length (file_parts w minimum f)) (sym more) next.0;
    left = next.1 ∙ ap (λ n. drop n (file_parts w minimum f)) (sym more);
    each = b.each;
    once = b.once;
    unknown = λ g i d k e.
        let o = in_map (with_part b.latest.upload tag (length p)) d (m.drawn a) k in
        b.unknown g i o.0 o.1 (sym ((part_upload b.latest.upload tag (length p) o.0).1) ∙ ap (λ (v : Drawn). v.key) (sym o.2) ∙ e);
    others = λ g i. elim (b.others g i) [
      | inl h ↦ inl h
      | inr h ↦ inr (record { drawn = h.drawn; known = kept g i h; key = h.key; complete = h.complete })
    ];
  }
    where
      more : length (b.latest.tags ++ tag ∷ []) ≡ suc (length b.latest.tags)
      more = longer b.latest.tags tag

      next : (suc (length b.latest.tags) ≤ length (file_parts w minimum f))
          × (ps ≡ drop (suc (length b.latest.tags)) (file_parts w minimum f))
          × (slice_get (file_parts w minimum f) (length b.latest.tags) ≡ Some p)
      next = drop_more (file_parts w minimum f) (length b.latest.tags) p ps b.left

      kept : (g : File) → IsIn g (files w a) → (h : IsWritten w minimum (m.drawn a) g)
          → IsIn h.drawn (map (with_part b.latest.upload tag (length p)) (m.drawn a))
      kept g i h =
          let other : h.drawn.upload ≡ b.latest.upload → ⊥ = λ e.
          let both = facts.ids.apart a a h.drawn b.latest h.known (latest_in b) e in
          let same : g ≡ f = key_file j a g f i (b.each f (inl refl)) (sym h.key ∙ ap (λ (v : Drawn). v.key) both.1 ∙ b.key) in
          let all : length b.latest.tags ≡ length (file_parts w minimum f) = ap (λ (v : Drawn). length v.tags) (sym both.1) ∙ h.complete ∙
          ap (λ v. length (file_parts w minimum v)) same in
          let l = next.0 in
          absurd (omega arith) in
          subst (λ v. IsIn v (map (with_part b.latest.upload tag (length p)) (m.drawn a)))
          (part_other b.latest.upload tag (length p) h.drawn other) (map_in (with_part b.latest.upload tag (length p)) h.drawn
          (m.drawn a) h.known)

  -- ---- what it asks, by the upload that was drawn last

  pub asks_part : {ds : List Drawn} {f : File} {fs : List File} {p : List ℕ} {ps : List (List ℕ)} → (b : Begun w minimum a ds f fs (p ∷ ps))
      → UploadPart w.dest.bucket (file_key w f) (first_drawn ds).upload (length (first_drawn ds).tags + 1) p ≡ UploadPart w.dest.bucket
      (file_key w f) b.latest.upload (length b.latest.tags + 1) p
  asks_part {f = f} {p = p} b = ap (λ (d : Drawn). UploadPart w.dest.bucket (file_key w f) d.upload (length d.tags + 1) p)
      (ap first_drawn b.is)

-- ---- its state fits after an answer

pub number_fits : (n : ℕ) → n < 10000 → is_part_number (n + 1) ≡ true
number_fits n h = grind (arith, nat_tests)

-- The answer to a part is its tag, or that the upload does not exist.
pub record IsPartAnswer (bytes : List ℕ) (x : Reply) : Type 0 where
  pub either : (x ≡ Part (plain_tag bytes)) ⊎ (x ≡ Refused NoSuchUpload)

part_replied : (o : Option Upload) (number : ℕ) (bytes : List ℕ) → is_part_number number ≡ true
    → IsPartAnswer bytes (part_answer o number bytes)
part_replied o number bytes h = grind arith

module _ (w : Script) (minimum : ℕ) (s : Seen) (m : Told) (a : Who) (j : IsLegal w) (facts : Hold w minimum s m) (f : File) (fs : List File)
  where
    abbrev part_ask : Drawn → List ℕ → Request
    part_ask d p = UploadPart w.dest.bucket (file_key w f) d.upload (length d.tags + 1) p

    part_due : (ds : List Drawn) (p : List ℕ) (ps : List (List ℕ)) → (b : Begun w minimum a ds f fs (p ∷ ps))
        → IsPartAnswer p (answer s.scene (UploadPart w.dest.bucket (file_key w f) b.latest.upload (length b.latest.tags + 1) p))
    part_due ds p ps b =
        let next = drop_more w minimum a (file_parts w minimum f) (length b.latest.tags) p ps b.left in
        let few : length (file_parts w minimum f) ≤ 10000 = parts_few w minimum f in
        let low : suc (length b.latest.tags) ≤ length (file_parts w minimum f) = next.0 in
        let below : length b.latest.tags < 10000 = omega arith in
        subst (IsPartAnswer p) (sym (answer_is w s.scene facts.there.0 facts.there.1
        (UploadPart w.dest.bucket (file_key w f) b.latest.upload (length b.latest.tags + 1) p) refl))
        (part_replied (live facts.there.0.uploads (file_key w f) b.latest.upload) (length b.latest.tags + 1) p
        (number_fits (length b.latest.tags) below))

    pub upload_goes : (u : Uploading) → FitsUpload w minimum a (known m a) f fs u → (x : Reply)
        → x ≡ answer s.scene (upload_asks w (known m a) f u)
        → FitsUploaded w minimum a (learn w a (known m a) (upload_asks w (known m a) f u) (Answered x)) f fs (upload_hears w minimum f u x)
    upload_goes Creating t x honest =
        let due : x ≡ TheUpload s.scene.content.next = honest ∙ answer_is w s.scene facts.there.0 facts.there.1
        (CreateUpload w.dest.bucket (file_key w f)) refl in
        let P : Reply → Type 0 = λ y. FitsUploaded w minimum a (learn w a (known m a) (CreateUpload w.dest.bucket (file_key w f))
        (Answered y)) f fs (created w minimum f y) in
        subst P (sym due) (fits_sending w minimum a (learn w a (known m a) (CreateUpload w.dest.bucket (file_key w f))
        (Answered (TheUpload s.scene.content.next))) f fs (file_parts w minimum f)
        (begun_now w minimum a j (known m a) f fs t s.scene.content.next))
    upload_goes (Sending p ps) b x honest =
        let P : Request → Type 0 = λ r. x ≡ answer s.scene r
        → FitsUploaded w minimum a (learn w a (known m a) r (Answered x)) f fs (sent_part ps x) in
        let Q : Reply → Type 0 = λ y. FitsUploaded w minimum a (learn w a (known m a) (part_ask b.latest p) (Answered y)) f fs
        (sent_part ps y) in
        subst P (sym (asks_part w minimum a b)) (λ g. elim (subst (IsPartAnswer p) (sym g) (part_due (m.drawn a) p ps b)).either [
          | inl tag ↦ subst Q (sym tag) (fits_sending w minimum a (learn w a (known m a) (part_ask b.latest p)
              (Answered (Part (plain_tag p)))) f fs ps (part_next w minimum a j s m facts f fs p ps b (plain_tag p)))
          | inr gone ↦ subst Q (sym gone) tt
        ]) honest

-- Its flags stay, and a request without an answer teaches nothing.
pub upload_flags : (w : Script) (a : Who) (k : Known) (f : File) (u : Uploading) (o : Outcome) → IsOpen k
    → IsOpen (learn w a k (upload_asks w k f u) o)
upload_flags w a k f u o h = grind arith
